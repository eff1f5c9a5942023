-- What a client of a host holds, it holds until it leaves, or the host loses events of its book.
use Rattle.std.proofs.Common.{◌≡◌, inl, inr, ℕ, ◌≤◌, Bool, true, false, cond, Option, Some, None, List, [], ◌∷◌, map, refl, sym, ap, ◌∙◌, subst}
use Rattle.std.specs.Prelude.{All, Contains}
use Rattle.std.specs.List.{slice_get}
use Rattle.std.proofs.lemmas.Bool.{cases_eq}
use Rattle.std.proofs.lemmas.List.Elements.{All-head, All-tail}
use Rattle.ra_stamp.specs.NodeId.{IsNodeNumber}
use Rattle.ra_stamp.specs.declared.entry.Entry.{Entry}
use Rattle.ra_stamp.specs.declared.entry.Mark.TheVariants.{Entered}
use Rattle.ra_frame.specs.declared.frame.Frame.{Frame as BookFrame}
use Rattle.ra_node.specs.Node.{NodeState, opening_node, resource_at, IsConsistentNode}
use Rattle.ra_node.specs.Events.{Happening, NodeEvents, AreForThisNode, name_of_event}
use Rattle.ra_node.specs.Resource.{holder_of, held_entry, use_of}
use Rattle.ra_node.specs.Resource.Use.{HoldsBy}
use Rattle.ra_link.specs.declared.message.Message.{Message}
use Rattle.ra_link.specs.declared.message.Message.TheVariants.{Hello, Welcome, Frame, Ack, Old}
use Rattle.ra_link.specs.Link as link
use Rattle.ra_book.specs.declared.book.event.BookEvent.{BookEvent}
use Rattle.ra_book.specs.declared.book.event.BookKind.{BookKind}
use Rattle.ra_book.specs.declared.book.event.BookKind.TheVariants as kinds
use Rattle.ra_book.specs.declared.book.sent.Sent.{Sent}
use Rattle.ra_book.specs.History.{IsHistory, happening_of, node_event}
use Rattle.ra_book.specs.Book.{BookState, HasHistory, LeadsTo}
use Rattle.ra_host.specs.Host.{Host, Happens, linked, is_taken}
use Rattle.ra_host.specs.Host.{Replays as ReplaysBook}
use Rattle.ra_host.specs.Hosts.{Packet, Event, Hosts, Lead, Step, Turn, TakesIfFrame, TakesOrNot, Hears, HearsIfSaid, Acts, Rests, TurnsIf, Turns}
use Rattle.ra_host.specs.Hosts.Event.{Start, Connects, Comes, Replays, Does, Syncs, Says_hello, Says_ack, Says_old, Says_frame, Crashes, Put_back}
use Rattle.ra_host.specs.Grants.{IsHeld, IsItsLeave, MayEnd}
use Rattle.ra_host.proofs.Grants.{NodeLaws, IsNotItsLeave, event_grants, event_lasts, granted_holds, name_of_granted}
use Rattle.ra_host.proofs.Coded.{code_of}
use Rattle.ra_host.proofs.Pairs.{sound_step}
use Rattle.ra_host.proofs.Sound.{BookLaws, IsSound, adds_leads, adds_on}

-- of a book, an event that is not its leave
not_its_leave : (e : Entry) (kind : BookKind) → (IsItsLeave e kind → ⊥) → IsNotItsLeave e (node_event kind)
not_its_leave e (kinds.Ask client name mode) not = tt
not_its_leave e (kinds.Leave client name) not = λ client_is name_is. not (client_is, name_is)
not_its_leave e (kinds.Cancel client name) not = tt
not_its_leave e (kinds.Receive frame) not = tt
not_its_leave e kinds.Forget not = tt

same_book : (h new : Host) (e : Entry) → new.book ≡ h.book → IsHeld h e → IsHeld new e
same_book h new e book held = record { node = held.node; leads = subst (λ (b : BookState). LeadsTo b held.node) (sym book) held.leads; holds = held.holds }

module _ (laws : BookLaws) (node_laws : NodeLaws)
    (consistent : (me nodes start : ℕ) (new : NodeState) (happened : List Happening) → IsNodeNumber nodes → (1 ≤ me) × (me ≤ nodes)
    → AreForThisNode (opening_node me nodes start) happened → NodeEvents (opening_node me nodes start) happened new → IsConsistentNode new)
    (one_node : (me n start : ℕ) (events : List BookEvent) (sent sent' : List Sent) (a b : NodeState) → IsHistory me n start events sent a → IsHistory me n start events sent' b → a ≡ b) where
  consistent_after : (book : BookState) (node : NodeState) → HasHistory book → LeadsTo book node → IsConsistentNode node
  consistent_after book node history leads = consistent book.me book.nodes book.start node (map happening_of leads.postings) history.count history.member leads.for_this_node leads.leads

  module _ (h new : Host) (kind : BookKind) (history : HasHistory h.book) (is : Happens h kind new) (e : Entry) where
    after_leads : LeadsTo new.book is.adds.after
    after_leads =
        let book : new.book ≡ is.book = ap (λ (x : Host). x.book) is.new_is in
        subst (λ (b : BookState). LeadsTo b is.adds.after) (sym book) (adds_leads laws h.book is.book kind is.frames is.marks is.for_this_node is.has_clock is.adds)

    after_history : HasHistory new.book
    after_history =
        let book : new.book ≡ is.book = ap (λ (x : Host). x.book) is.new_is in
        subst HasHistory (sym book) (adds_on laws h.book is.book kind is.frames is.marks history is.for_this_node is.has_clock is.adds)

    -- what the event grants is held after it
    pub granted : Contains is.marks (Entered e) → IsHeld new e
    granted has =
        let before = is.adds.before in
        let after = is.adds.after in
        let event = node_event kind in
        let name = name_of_event event in
        let lead = node_laws.one_request before after event is.adds.sends is.marks is.adds.event in
        let holds : use_of (resource_at after name) ≡ HoldsBy e = event_grants before after event is.adds.sends is.marks e (use_of (resource_at before name)) (use_of (resource_at after name)) is.adds.event lead has in
        let r = resource_at after name in
        let named : e.name ≡ name = name_of_granted r.state r.state.phase r.client e holds ∙ ((consistent_after new.book after after_history after_leads).each name).name_is in
        record { node = after; leads = after_leads; holds = ap (λ n. holder_of (resource_at after n)) named ∙ ap held_entry holds }

    pub lasts : (IsItsLeave e kind → ⊥) → IsHeld h e → IsHeld new e
    lasts not held =
        let before = is.adds.before in
        let after = is.adds.after in
        let same : held.node ≡ before = one_node h.book.me h.book.nodes h.book.start _ _ _ held.node before held.leads is.adds.leads in
        let holds : use_of (resource_at before e.name) ≡ HoldsBy e =
        granted_holds (use_of (resource_at before e.name)) e (ap (λ (n : NodeState). holder_of (resource_at n e.name)) (sym same) ∙ held.holds) in
        record {
          node = after;
          leads = after_leads;
          holds = ap held_entry (event_lasts node_laws before after is.adds.sends is.marks e (node_event kind) is.adds.event (not_its_leave e kind not) holds);
        }

  module _ (h : Host) (history : HasHistory h.book) (e : Entry) (held : IsHeld h e) (t : Turn) where
    still : (new : Host) (told : ℕ → List Packet) → t ≡ record { host = new; says = told } → new.book ≡ h.book → IsHeld t.host e
    still new told is book = same_book h t.host e (ap (λ (u : Turn). u.host.book) is ∙ book) held

    cond_book : (b : Bool) (x y : Host) → x.book ≡ h.book → y.book ≡ h.book → (cond b x y).book ≡ h.book
    cond_book true x y one other = one
    cond_book false x y one other = other

    hears_frame : (j nonce number : ℕ) (o : Option BookFrame) → TakesIfFrame h j nonce number o t → IsHeld t.host e
    hears_frame j nonce number None is = still h (λ k. []) is refl
    hears_frame j nonce number (Some frame) is = by_test (is_taken h j nonce number frame) is.0
      where
        by_test : (b : Bool) → TakesOrNot b h j nonce number frame t.host → IsHeld t.host e
        by_test true takes =
            let before : Host = linked h j (link.hears_frame (h.links j) nonce number) in
            lasts before t.host (kinds.Receive frame) history takes e (λ never. never) (same_book h before e refl held)
        by_test false passes = same_book h t.host e (ap (λ (x : Host). x.book) passes) held

    hears : (j : ℕ) (message : Message) (frame : Option BookFrame) → Hears h j message frame t → IsHeld t.host e
    hears j (Hello nonce question) frame is = still _ _ is refl
    hears j (Welcome asker question nonce kept) frame is = still _ _ is (cond_book (link.welcome_accuses (h.links j) asker question kept) _ _ refl refl)
    hears j (Frame nonce number) frame is = hears_frame j nonce number frame is
    hears j (Ack nonce to kept) frame is = still _ _ is (cond_book (link.ack_accuses (h.links j) nonce to kept) _ _ refl refl)
    hears j (Old count) frame is = still _ _ is (cond_book (link.old_accuses (h.links j) count) _ _ refl refl)

    hears_if_said : (j : ℕ) (o : Option Packet) → HearsIfSaid h j o t → IsHeld t.host e
    hears_if_said j None is = still h (λ k. []) is refl
    hears_if_said j (Some p) is = hears j p.message p.frame is

    replays : ReplaysBook h t.host → IsHeld t.host e
    replays is =
        elim is.new_is [
          | inl on ↦ same_book h t.host e (ap (λ (x : Host). x.book) on.1) held
          | inr short ↦ same_book h t.host e (ap (λ (x : Host). x.book) short.3) held
        ]

    acts : (back : ℕ → List Packet) (event : Event) → (MayEnd e event → ⊥) → Acts back h event t → IsHeld t.host e
    acts back (Start nonce) not is = absurd is
    acts back (Connects j) not is = still _ _ is.1 refl
    acts back (Comes j which) not is = hears_if_said j (slice_get (back j) which) is.1
    acts back Replays not is = replays is.0
    acts back (Does kind) not is = lasts h t.host kind history is.1 e not held
    acts back Syncs not is = still _ _ is refl
    acts back (Says_hello j) not is = still _ _ is.1 refl
    acts back (Says_ack j) not is = still _ _ is.1 refl
    acts back (Says_old j) not is = still _ _ is.1 refl
    acts back (Says_frame j number) not is = still _ _ is.1 refl
    acts back (Crashes count) not is = absurd (not tt)
    acts back (Put_back count) not is = absurd is

    rests : (event : Event) → (MayEnd e event → ⊥) → Rests h event t → IsHeld t.host e
    rests (Start nonce) not is = still _ _ is.1 refl
    rests (Connects j) not is = absurd is
    rests (Comes j which) not is = absurd is
    rests Replays not is = absurd is
    rests (Does kind) not is = absurd is
    rests Syncs not is = absurd is
    rests (Says_hello j) not is = absurd is
    rests (Says_ack j) not is = absurd is
    rests (Says_old j) not is = absurd is
    rests (Says_frame j number) not is = absurd is
    rests (Crashes count) not is = absurd (not tt)
    rests (Put_back count) not is = absurd (not tt)

    turn_keeps : (back : ℕ → List Packet) (event : Event) → (MayEnd e event → ⊥) → Turns back h event t → IsHeld t.host e
    turn_keeps back event not is = by_test h.up is
      where
        by_test : (b : Bool) → TurnsIf b back h event t → IsHeld t.host e
        by_test true is = acts back event not is
        by_test false is = rests event not is

  module _ (n start i : ℕ) (first : 1 ≤ i) (last : i ≤ n) (e : Entry) where
    pub lead_keeps : (events : List (ℕ × Event)) (old new : Hosts) → ((k : ℕ) → 1 ≤ k → k ≤ n → IsSound n start k (old.host k)) → IsHeld (old.host i) e
        → All (λ x. x.0 ≡ i → MayEnd e x.1 → ⊥) events → Lead n old events new → IsHeld (new.host i) e
    lead_keeps [] old new sound held all lead = subst (λ (s : Hosts). IsHeld (s.host i) e) (sym lead) held
    lead_keeps (x ∷ events) old new sound held all lead =
        let next = lead.2 in
        let step = lead.3 in
        let P : ℕ × Event → Type 0 = λ y. y.0 ≡ i → MayEnd e y.1 → ⊥ in
        let not = All-head P x events all in
        let after : IsHeld (next.host i) e =
        elim (cases_eq i x.0) [
          | inl here ↦
              let is : Step old i x.1 next = subst (λ (k : ℕ). Step old k x.1 next) (sym here) step in
              subst (λ (h : Host). IsHeld h e) (sym is.host_is) (turn_keeps (old.host i) (sound i first last).history e held is.turn (λ j. old.said j i) x.1 (not (sym here)) is.turns)
          | inr other ↦ subst (λ (h : Host). IsHeld h e) (sym (step.others i other)) held
        ] in
        lead_keeps events next new (sound_step code_of laws n start old next x.0 x.1 lead.0 lead.1 sound step) after (All-tail P x events all) lead.4
