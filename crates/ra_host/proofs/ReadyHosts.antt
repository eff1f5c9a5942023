-- A host that is ready never ends by itself.
use Rattle.std.proofs.Common.{◌≡◌, ℕ, ◌≤◌, Bool, true, false, cond, not, Option, Some, None, List, [], map, refl, sym, ap, ◌∙◌, subst}
use Rattle.std.specs.List.{slice_get}
use Rattle.std.specs.Option.{option_map}
use Rattle.std.proofs.lemmas.Bool.{and_left, false≢true, not_from_true, true≢false}
use Rattle.std.proofs.lemmas.Option.{slice_get-map}
use Rattle.ra_frame.specs.declared.frame.Frame.{Frame as BookFrame}
use Rattle.ra_stamp.specs.NodeId.{IsNodeNumber}
use Rattle.ra_link.specs.declared.message.Message.{Message}
use Rattle.ra_link.specs.declared.message.Message.TheVariants.{Hello, Welcome, Frame, Ack, Old}
use Rattle.ra_link.specs.Link as link
use Rattle.ra_link.specs.Pair as pair
use Rattle.ra_link.specs.Pair.{Event as pair_events}
use Rattle.ra_link.specs.Pair.Who.{One}
use Rattle.ra_link.specs.PutBack as put_back
use Rattle.ra_host.specs.Host.{Host, IsOther, ends, linked, Happens, is_taken}
use Rattle.ra_host.specs.Host.{Replays as ReplaysBook}
use Rattle.ra_host.specs.Hosts.{Packet, Event, Hosts, Reaches, Step, AreTwo, IsReady, Turn, TakesIfFrame, TakesOrNot, Hears, HearsIfSaid, Acts, TurnsIf, Turns}
use Rattle.ra_host.specs.Hosts.Event.{Start, Connects, Comes, Replays, Does, Syncs, Says_hello, Says_ack, Says_old, Says_frame, Crashes, Put_back}
use Rattle.ra_host.specs.Projection.{view_of, text_if_some, packet_of}
use Rattle.ra_host.proofs.Coded.{code_of}
use Rattle.ra_host.proofs.HostLaws.{is_other, reached_moves, sound_at}
use Rattle.ra_host.proofs.Sound.{BookLaws}

-- a host that is up hears what comes
up_hears : (back : List pair.Packet) (x : pair.Host) → x.up ≡ true → (which : ℕ) (u : pair.Turn) → pair.acts back x (pair_events.Comes which) ≡ u → pair.turn back x (pair_events.Comes which) ≡ u
up_hears back x up which u is = ap (λ b. cond b (pair.hears_packet x (slice_get back which)) (pair.silent x)) up ∙ is

module _ (back : ℕ → List Packet) (h : Host) (up : h.up ≡ true) (ready : (j : ℕ) → IsOther h j → (h.links j).ready ≡ true)
    (before : (j : ℕ) → IsOther h j → h.accused j ≡ false)
    (fine : (k which : ℕ) → IsOther h k → (pair.turn (map (packet_of code_of) (back k)) (view_of code_of h k) (pair_events.Comes which)).host.accused ≡ false) (t : Turn) where
  -- the accusations are as they were
  still : (new : Host) (told : ℕ → List Packet) → t ≡ record { host = new; says = told } → new.accused ≡ h.accused → (j : ℕ) → IsOther h j → t.host.accused j ≡ false
  still new told is same j other = ap (λ (u : Turn). u.host.accused j) is ∙ ap (λ (a : ℕ → Bool). a j) same ∙ before j other

  -- it does not end at what came
  goes_on : (k which : ℕ) → IsOther h k → (accuses : Bool) (new : Host) (y : pair.Host) → new.accused ≡ h.accused
      → pair.acts (map (packet_of code_of) (back k)) (view_of code_of h k) (pair_events.Comes which) ≡ cond accuses (pair.ends (view_of code_of h k)) (pair.silent y)
      → t ≡ record { host = cond accuses (ends h k) new; says = λ j. [] } → (j : ℕ) → IsOther h j → t.host.accused j ≡ false
  goes_on k which from true new y same comes is j other =
      let x = view_of code_of h k in
      let turned = up_hears (map (packet_of code_of) (back k)) x up which (pair.ends x) comes in
      absurd (true≢false (ap (λ (u : pair.Turn). u.host.accused) (sym turned) ∙ fine k which from))
  goes_on k which from false new y same comes is j other = still new (λ i. []) is same j other

  happened : (old new : Host) (kind : _) → Happens old kind new → old.accused ≡ h.accused → new.accused ≡ h.accused
  happened old new kind is same = ap (λ (x : Host). x.accused) is.new_is ∙ same

  hears_frame : (k nonce number : ℕ) (o : Option BookFrame) → TakesIfFrame h k nonce number o t → (j : ℕ) → IsOther h j → t.host.accused j ≡ false
  hears_frame k nonce number None is = still h (λ i. []) is refl
  hears_frame k nonce number (Some frame) is = by_test (is_taken h k nonce number frame) is.0
    where
      by_test : (b : Bool) → TakesOrNot b h k nonce number frame t.host → (j : ℕ) → IsOther h j → t.host.accused j ≡ false
      by_test true takes = still t.host (λ i. []) is.1 (happened (linked h k (link.hears_frame (h.links k) nonce number)) t.host _ takes refl)
      by_test false passes = still t.host (λ i. []) is.1 (ap (λ (x : Host). x.accused) passes)

  hears : (k which : ℕ) → IsOther h k → (m : Message) (frame : Option BookFrame)
      → pair.acts (map (packet_of code_of) (back k)) (view_of code_of h k) (pair_events.Comes which) ≡ pair.hears (view_of code_of h k) m (text_if_some code_of frame)
      → Hears h k m frame t → (j : ℕ) → IsOther h j → t.host.accused j ≡ false
  hears k which from (Hello nonce question) frame comes is = still _ _ is refl
  hears k which from (Welcome asker question nonce kept) frame comes is =
      goes_on k which from (link.welcome_accuses (h.links k) asker question kept) (linked h k (link.hears_welcome (h.links k) asker question nonce kept))
      (pair.linked (view_of code_of h k) (link.hears_welcome (h.links k) asker question nonce kept)) refl comes is
  hears k which from (Frame nonce number) frame comes is = hears_frame k nonce number frame is
  hears k which from (Ack nonce to kept) frame comes is =
      goes_on k which from (link.ack_accuses (h.links k) nonce to kept) (linked h k (link.hears_ack (h.links k) nonce to kept))
      (pair.linked (view_of code_of h k) (link.hears_ack (h.links k) nonce to kept)) refl comes is
  hears k which from (Old count) frame comes is = goes_on k which from (link.old_accuses (h.links k) count) h (view_of code_of h k) refl comes is

  hears_if_said : (k which : ℕ) → IsOther h k → (o : Option Packet)
      → pair.acts (map (packet_of code_of) (back k)) (view_of code_of h k) (pair_events.Comes which) ≡ pair.hears_packet (view_of code_of h k) (option_map (packet_of code_of) o)
      → HearsIfSaid h k o t → (j : ℕ) → IsOther h j → t.host.accused j ≡ false
  hears_if_said k which from None comes is = still h (λ i. []) is refl
  hears_if_said k which from (Some p) comes is = hears k which from p.message p.frame comes is

  -- a ready host does not replay its book
  replays : ReplaysBook h t.host → (j : ℕ) → IsOther h j → t.host.accused j ≡ false
  replays is j other = absurd (false≢true (sym (and_left (not (h.links j).ready) (h.links j).confirmed (not_from_true (h.links j).ready (ready j other))) ∙ is.may j other))

  acts : (e : Event) → Acts back h e t → (j : ℕ) → IsOther h j → t.host.accused j ≡ false
  acts (Start nonce) is = absurd is
  acts (Connects k) is = still _ _ is.1 refl
  acts (Comes k which) is = hears_if_said k which is.0 (slice_get (back k) which) (ap (pair.hears_packet (view_of code_of h k)) (slice_get-map (packet_of code_of) (back k) which)) is.1
  acts Replays is = replays is.0
  acts (Does kind) is = still t.host (λ i. []) is.2 (happened h t.host kind is.1 refl)
  acts Syncs is = still _ _ is refl
  acts (Says_hello k) is = still _ _ is.1 refl
  acts (Says_ack k) is = still _ _ is.1 refl
  acts (Says_old k) is = still _ _ is.1 refl
  acts (Says_frame k number) is = still _ _ is.1 refl
  acts (Crashes count) is = still _ _ is refl
  acts (Put_back count) is = absurd is

  pub turn_accuses_not : (e : Event) → Turns back h e t → (j : ℕ) → IsOther h j → t.host.accused j ≡ false
  turn_accuses_not e is = acts e (subst (λ b. TurnsIf b back h e t) up is)

-- a host that is up stays as it is when it says a question
says_only : (back : List pair.Packet) (x : pair.Host) → x.up ≡ true → (pair.turn back x pair_events.Says_hello).host.accused ≡ x.accused
says_only back x up = ap (λ b. (cond b (pair.says x (link.hello_of x.link)) (pair.silent x)).host.accused) up

module _ (laws : BookLaws) (n start : ℕ) (count : IsNodeNumber n)
    (law : (all : List (pair.Who × put_back.Move)) (who : pair.Who) (event : pair.Event) → let p = put_back.after_moves all in
    (pair.this who p).up ≡ true → (pair.this who p).link.ready ≡ true → (pair.this who (pair.happens p who event)).accused ≡ false) where
  -- it is not accused by what comes next from the other host
  not_accused : (events : List (ℕ × Event)) (s : Hosts) → Reaches n start events s → (i j : ℕ) → AreTwo n i j → (event : pair.Event) → IsReady (s.host i)
      → (pair.turn (map (packet_of code_of) (s.said j i)) (view_of code_of (s.host i) j) event).host.accused ≡ false
  not_accused events s reaches i j two event ready =
      let m = reached_moves laws n start count code_of events s i j two false (λ e. absurd (false≢true e)) reaches in
      subst (λ (p : pair.Pair). p.one.up ≡ true → p.one.link.ready ≡ true → (pair.happens p One event).one.accused ≡ false) m.are
      (law m.moves One event) ready.up (ready.ready j (is_other laws n start count events s reaches i j two))

  pub ready_not_accused : (events : List (ℕ × Event)) (old new : Hosts) (i j : ℕ) (event : Event) → Reaches n start events old → AreTwo n i j → IsReady (old.host i) → Step old i event new
      → (new.host i).accused j ≡ false
  ready_not_accused events old new i j event reaches two ready step =
      let h = old.host i in
      let sound = sound_at laws n start count events old reaches i two.first.0 two.first.1 in
      let back : ℕ → List Packet = λ k. old.said k i in
      let pair_with : (k : ℕ) → IsOther h k → AreTwo n i k =
      λ k other. record {
        first = two.first;
        second = (other.first, subst (λ (m : ℕ). k ≤ m) sound.nodes other.last);
        apart = λ same. other.other (sym same ∙ sym sound.me);
      } in
      let before : (k : ℕ) → IsOther h k → h.accused k ≡ false =
      λ k other. sym (says_only (map (packet_of code_of) (back k)) (view_of code_of h k) ready.up) ∙ not_accused events old reaches i k (pair_with k other) pair_events.Says_hello ready in
      let fine : (k which : ℕ) → IsOther h k → (pair.turn (map (packet_of code_of) (back k)) (view_of code_of h k) (pair_events.Comes which)).host.accused ≡ false =
      λ k which other. not_accused events old reaches i k (pair_with k other) (pair_events.Comes which) ready in
      ap (λ (x : Host). x.accused j) step.host_is
      ∙ turn_accuses_not back h ready.up ready.ready before fine step.turn event step.turns j (is_other laws n start count events old reaches i j two)
