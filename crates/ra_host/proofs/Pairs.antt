-- Each two hosts are a pair in every state: what happens in a step is some events of the pair, or nothing.
use Rattle.std.proofs.Common.{◌≡◌, ◌≢◌, inl, inr, ℕ, ◌≤◌, ◌==◌, Bool, true, false, List, [], ◌∷◌, ◌++◌, map, append_assoc, refl, sym, ap, ◌∙◌, subst}
use Rattle.std.specs.Prelude.{All}
use Rattle.std.proofs.lemmas.Bool.{both_ways, and_from, cases_Bool, cases_eq, eq-eqb, false≢true, false_from_ne_true}
use Rattle.std.proofs.lemmas.List.{map-append}
use Rattle.std.proofs.lemmas.List.Elements.{All-append, All-cons, All-head, All-nil, All-tail}
use Rattle.ra_stamp.specs.NodeId.{IsNodeNumber}
use Rattle.ra_frame.specs.declared.frame.Frame.{Frame}
use Rattle.ra_link.specs.Pair as pair
use Rattle.ra_link.specs.Pair.Who.{One, Two}
use Rattle.ra_link.specs.PutBack as put_back
use Rattle.ra_link.specs.PutBack.Move.{Goes as Does, Put_back as PutBack}
use Rattle.ra_host.specs.Host.{Host, IsOther, puts_back}
use Rattle.ra_host.specs.Hosts.{Packet, Event, Turn, Hosts, Step, Lead, Acts, Rests, TurnsIf, Turns, is_put_back, puts_back_at, silent, new_hosts, AreWhole}
use Rattle.ra_host.specs.Hosts.{Event as events}
use Rattle.ra_host.specs.Hosts.Event.{Start, Connects, Comes, Replays, Syncs, Says_hello, Says_ack, Says_old, Says_frame, Crashes, Put_back}
use Rattle.ra_host.specs.Projection.{view_of, packet_of, pair_of}
use Rattle.ra_host.proofs.Sound.{BookLaws, IsSound, turns, new_is_sound}
use Rattle.ra_host.proofs.Views.{at_put_back, sends, comes}
use Rattle.ra_host.proofs.Turned.{Goes, acts_all, turn_projects}

-- ---- Events of one host of a pair

one_runs : (p : pair.Pair) (es : List pair.Event) → pair.run p (map (λ e. (One, e)) es)
    ≡ record { one = (acts_all p.to_one p.one es).host; two = p.two; to_one = p.to_one; to_two = (acts_all p.to_one p.one es).says ++ p.to_two }
one_runs p [] = refl
one_runs p (e ∷ es) =
    let t = pair.turn p.to_one p.one e in
    let r = acts_all p.to_one t.host es in
    one_runs (pair.happens p One e) es
    ∙ ap (λ (ps : List pair.Packet). record { one = r.host; two = p.two; to_one = p.to_one; to_two = ps }) (sym (append_assoc r.says t.says p.to_two))

two_runs : (p : pair.Pair) (es : List pair.Event) → pair.run p (map (λ e. (Two, e)) es)
    ≡ record { one = p.one; two = (acts_all p.to_two p.two es).host; to_one = (acts_all p.to_two p.two es).says ++ p.to_one; to_two = p.to_two }
two_runs p [] = refl
two_runs p (e ∷ es) =
    let t = pair.turn p.to_two p.two e in
    let r = acts_all p.to_two t.host es in
    two_runs (pair.happens p Two e) es
    ∙ ap (λ (ps : List pair.Packet). record { one = p.one; two = r.host; to_one = ps; to_two = p.to_two }) (sym (append_assoc r.says t.says p.to_one))

runs_on : (p : pair.Pair) (xs ys : List (pair.Who × pair.Event)) → pair.run p (xs ++ ys) ≡ pair.run (pair.run p xs) ys
runs_on p [] ys = refl
runs_on p (x ∷ xs) ys = runs_on (pair.happens p x.0 x.1) xs ys

moves_on : (p : pair.Pair) (xs ys : List (pair.Who × put_back.Move)) → put_back.run_moves p (xs ++ ys) ≡ put_back.run_moves (put_back.run_moves p xs) ys
moves_on p [] ys = refl
moves_on p (x ∷ xs) ys = moves_on (put_back.moves p x.0 x.1) xs ys

-- events are moves
abbrev as_moves : List (pair.Who × pair.Event) → List (pair.Who × put_back.Move)
as_moves events = map (λ e. (e.0, Does e.1)) events

events_move : (p : pair.Pair) (es : List (pair.Who × pair.Event)) → put_back.run_moves p (as_moves es) ≡ pair.run p es
events_move p [] = refl
events_move p (e ∷ es) = events_move (pair.happens p e.0 e.1) es

no_put_backs : (es : List (pair.Who × pair.Event)) → All (λ m. put_back.is_put_back One m.0 m.1 ≡ false) (as_moves es)
no_put_backs [] = All-nil (λ m. put_back.is_put_back One m.0 m.1 ≡ false)
no_put_backs (e ∷ es) = All-cons (λ m. put_back.is_put_back One m.0 m.1 ≡ false) (e.0, Does e.1) (as_moves es) refl (no_put_backs es)

-- ---- A step

-- some events lead from one pair to the other
pub record Runs (p q : pair.Pair) : Type 0 where
  pub events : List (pair.Who × pair.Event)
  pub are : pair.run p events ≡ q

-- some moves do; if the first host's book is whole, it is not put back among them
pub record Moves (whole : Bool) (p q : pair.Pair) : Type 0 where
  pub moves : List (pair.Who × put_back.Move)
  pub are : put_back.run_moves p moves ≡ q
  pub keeps : whole ≡ true → All (λ m. put_back.is_put_back One m.0 m.1 ≡ false) moves

run_moves : (whole : Bool) (p q : pair.Pair) → Runs p q → Moves whole p q
run_moves whole p q r = record { moves = as_moves r.events; are = events_move p r.events ∙ r.are; keeps = λ _. no_put_backs r.events }

no_moves : (whole : Bool) (p q : pair.Pair) → p ≡ q → Moves whole p q
no_moves whole p q same = record { moves = []; are = same; keeps = λ _. All-nil (λ m. put_back.is_put_back One m.0 m.1 ≡ false) }

module _ (text : Frame → List ℕ) (laws : BookLaws) (n start : ℕ) where
  -- what holds of all hosts
  abbrev pub AreSound : Hosts → Type 0
  AreSound s = (i : ℕ) → 1 ≤ i → i ≤ n → IsSound n start i (s.host i)

  pub sound_step : (old new : Hosts) (i : ℕ) (e : Event) → 1 ≤ i → i ≤ n → AreSound old → Step old i e new → AreSound new
  sound_step old new i e first last sound is k low high =
      elim (cases_eq k i) [
        | inl same ↦
            subst (λ (m : ℕ). IsSound n start m (new.host m)) (sym same)
            (subst (IsSound n start i) (sym is.host_is) (turns laws n start i (old.host i) (sound i first last) is.turn (λ j. old.said j i) e is.turns))
        | inr differ ↦ subst (IsSound n start k) (sym (is.others k differ)) (sound k low high)
      ]

  pub sound_lead : (events : List (ℕ × Event)) (old new : Hosts) → AreSound old → Lead n old events new → AreSound new
  sound_lead [] old new sound lead = subst AreSound (sym lead) sound
  sound_lead (e ∷ events) old new sound lead =
      sound_lead events lead.2 new (sound_step old lead.2 e.0 e.1 lead.0 lead.1 sound lead.3) lead.4

  pub sound_new : IsNodeNumber n → AreSound (new_hosts n start)
  sound_new count i first last = new_is_sound laws n start i count first last

  -- two different hosts of the cluster
  module _ (a b : ℕ) (a_first : 1 ≤ a) (a_last : a ≤ n) (b_first : 1 ≤ b) (b_last : b ≤ n) (apart : a ≢ b) where
    abbrev pair_in : Hosts → pair.Pair
    pair_in s = pair_of text s a b

    b_is_other : (h : Host) → IsSound n start a h → IsOther h b
    b_is_other h s = record { first = b_first; last = subst (λ (m : ℕ). b ≤ m) (sym s.nodes) b_last; other = λ e. apart (sym (e ∙ s.me)) }

    a_is_other : (h : Host) → IsSound n start b h → IsOther h a
    a_is_other h s = record { first = a_first; last = subst (λ (m : ℕ). a ≤ m) (sym s.nodes) a_last; other = λ e. apart (e ∙ s.me) }

    -- after a step of host a, which says this
    after_a : (old new : Hosts) (e : Event) (is : Step old a e new)
        → record { one = view_of text is.turn.host b; two = view_of text (old.host b) a; to_one = map (packet_of text) (old.said b a); to_two = map (packet_of text) (is.turn.says b) ++ map (packet_of text) (old.said a b) } ≡ pair_in new
    after_a old new e is = λ at. record {
      one = view_of text (sym is.host_is at) b;
      two = view_of text (sym (is.others b (λ same. apart (sym same))) at) a;
      to_one = map (packet_of text) (sym (is.others_said b a (λ same. apart (sym same))) at);
      to_two = (sym (map-append (packet_of text) (is.turn.says b) (old.said a b)) ∙ ap (map (packet_of text)) (sym (is.said_is b))) at;
    }

    after_b : (old new : Hosts) (e : Event) (is : Step old b e new)
        → record { one = view_of text (old.host a) b; two = view_of text is.turn.host a; to_one = map (packet_of text) (is.turn.says a) ++ map (packet_of text) (old.said b a); to_two = map (packet_of text) (old.said a b) } ≡ pair_in new
    after_b old new e is = λ at. record {
      one = view_of text (sym (is.others a apart) at) b;
      two = view_of text (sym is.host_is at) a;
      to_one = (sym (map-append (packet_of text) (is.turn.says a) (old.said b a)) ∙ ap (map (packet_of text)) (sym (is.said_is a))) at;
      to_two = map (packet_of text) (sym (is.others_said a b apart) at);
    }

    -- a step of a third host
    after_other : (old new : Hosts) (i : ℕ) (e : Event) → Step old i e new → a ≢ i → b ≢ i → pair_in old ≡ pair_in new
    after_other old new i e is not_a not_b = λ at. record {
      one = view_of text (sym (is.others a not_a) at) b;
      two = view_of text (sym (is.others b not_b) at) a;
      to_one = map (packet_of text) (sym (is.others_said b a not_b) at);
      to_two = map (packet_of text) (sym (is.others_said a b not_a) at);
    }

    -- ---- No book is put back

    runs_at_a : (old new : Hosts) (e : Event) → AreSound old → is_put_back e ≡ false → Step old a e new → Runs (pair_in old) (pair_in new)
    runs_at_a old new e sound whole is =
        let s = sound a a_first a_last in
        let g : Goes (map (packet_of text) (old.said b a)) (view_of text (old.host a) b) (record { host = view_of text is.turn.host b; says = map (packet_of text) (is.turn.says b) }) =
        turn_projects text laws n start a (λ j. old.said j a) (old.host a) s is.turn e whole is.turns b (b_is_other (old.host a) s) in
        record {
          events = map (λ x. (One, x)) g.events;
          are =
              one_runs (pair_in old) g.events
              ∙ ap (λ (t : pair.Turn). record { one = t.host; two = view_of text (old.host b) a; to_one = map (packet_of text) (old.said b a); to_two = t.says ++ map (packet_of text) (old.said a b) }) g.are
              ∙ after_a old new e is;
        }

    runs_at_b : (old new : Hosts) (e : Event) → AreSound old → is_put_back e ≡ false → Step old b e new → Runs (pair_in old) (pair_in new)
    runs_at_b old new e sound whole is =
        let s = sound b b_first b_last in
        let g : Goes (map (packet_of text) (old.said a b)) (view_of text (old.host b) a) (record { host = view_of text is.turn.host a; says = map (packet_of text) (is.turn.says a) }) =
        turn_projects text laws n start b (λ j. old.said j b) (old.host b) s is.turn e whole is.turns a (a_is_other (old.host b) s) in
        record {
          events = map (λ x. (Two, x)) g.events;
          are =
              two_runs (pair_in old) g.events
              ∙ ap (λ (t : pair.Turn). record { one = view_of text (old.host a) b; two = t.host; to_one = t.says ++ map (packet_of text) (old.said b a); to_two = map (packet_of text) (old.said a b) }) g.are
              ∙ after_b old new e is;
        }

    runs_step : (old new : Hosts) (i : ℕ) (e : Event) → AreSound old → is_put_back e ≡ false → Step old i e new → Runs (pair_in old) (pair_in new)
    runs_step old new i e sound whole is =
        elim (cases_eq a i) [
          | inl at_a ↦ runs_at_a old new e sound whole (subst (λ (k : ℕ). Step old k e new) (sym at_a) is)
          | inr not_a ↦
              elim (cases_eq b i) [
                | inl at_b ↦ runs_at_b old new e sound whole (subst (λ (k : ℕ). Step old k e new) (sym at_b) is)
                | inr not_b ↦ record { events = []; are = after_other old new i e is not_a not_b }
              ]
        ]

    pub runs_lead : (events : List (ℕ × Event)) (old new : Hosts) → AreSound old → AreWhole events → Lead n old events new → Runs (pair_in old) (pair_in new)
    runs_lead [] old new sound whole lead = record { events = []; are = ap pair_in (sym lead) }
    runs_lead (e ∷ events) old new sound whole lead =
        let first = runs_step old lead.2 e.0 e.1 sound (All-head (λ x. is_put_back x.1 ≡ false) e events whole) lead.3 in
        let rest = runs_lead events lead.2 new (sound_step old lead.2 e.0 e.1 lead.0 lead.1 sound lead.3) (All-tail (λ x. is_put_back x.1 ≡ false) e events whole) lead.4 in
        record { events = first.events ++ rest.events; are = runs_on (pair_in old) first.events rest.events ∙ ap (λ (p : pair.Pair). pair.run p rest.events) first.are ∙ rest.are }

    -- ---- A book is put back

    -- the host was down, and has the first of its events
    record Back (h : Host) (t : Turn) : Type 0 where
      count : ℕ
      down : h.up ≡ false
      turn_is : t ≡ silent (puts_back h count)

    is_back : (back : ℕ → List Packet) (h : Host) (t : Turn) (e : Event) → is_put_back e ≡ true → Turns back h e t → Back h t
    is_back back h t e put is = by_test h.up refl e put is
      where
        rests : (e : Event) → h.up ≡ false → is_put_back e ≡ true → Rests h e t → Back h t
        rests (Start nonce) down put is = absurd (false≢true put)
        rests (Connects k) down put is = absurd (false≢true put)
        rests (Comes k which) down put is = absurd (false≢true put)
        rests Replays down put is = absurd (false≢true put)
        rests (events.Does kind) down put is = absurd (false≢true put)
        rests Syncs down put is = absurd (false≢true put)
        rests (Says_hello k) down put is = absurd (false≢true put)
        rests (Says_ack k) down put is = absurd (false≢true put)
        rests (Says_old k) down put is = absurd (false≢true put)
        rests (Says_frame k number) down put is = absurd (false≢true put)
        rests (Crashes count) down put is = absurd (false≢true put)
        rests (Put_back count) down put is = record { count = count; down = down; turn_is = is }

        acts : (e : Event) → is_put_back e ≡ true → Acts back h e t → Back h t
        acts (Start nonce) put is = absurd (false≢true put)
        acts (Connects k) put is = absurd (false≢true put)
        acts (Comes k which) put is = absurd (false≢true put)
        acts Replays put is = absurd (false≢true put)
        acts (events.Does kind) put is = absurd (false≢true put)
        acts Syncs put is = absurd (false≢true put)
        acts (Says_hello k) put is = absurd (false≢true put)
        acts (Says_ack k) put is = absurd (false≢true put)
        acts (Says_old k) put is = absurd (false≢true put)
        acts (Says_frame k number) put is = absurd (false≢true put)
        acts (Crashes count) put is = absurd (false≢true put)
        acts (Put_back count) put is = absurd is

        by_test : (b : Bool) → h.up ≡ b → (e : Event) → is_put_back e ≡ true → TurnsIf b back h e t → Back h t
        by_test true up e put is = acts e put is
        by_test false down e put is = rests e down put is

    back_at_a : (old new : Hosts) (e : Event) (whole : Bool) → whole ≡ false → AreSound old → is_put_back e ≡ true → Step old a e new → Moves whole (pair_in old) (pair_in new)
    back_at_a old new e whole not_whole sound put is =
        let s = sound a a_first a_last in
        let h = old.host a in
        let back = is_back (λ j. old.said j a) h is.turn e put is.turns in
        record {
          moves = (One, PutBack (sends text laws n start a h s b back.count) (comes text laws n start a h s b back.count)) ∷ [];
          are =
              ap (λ (x : pair.Host). record (pair_in old) { one = x }) (at_put_back text laws n start a h s back.count b back.down)
              ∙ ap (λ (t : Turn). record { one = view_of text t.host b; two = view_of text (old.host b) a; to_one = map (packet_of text) (old.said b a); to_two = map (packet_of text) (t.says b) ++ map (packet_of text) (old.said a b) }) (sym back.turn_is)
              ∙ after_a old new e is;
          keeps = λ is_whole. absurd (both_ways whole not_whole is_whole);
        }

    back_at_b : (old new : Hosts) (e : Event) (whole : Bool) → AreSound old → is_put_back e ≡ true → Step old b e new → Moves whole (pair_in old) (pair_in new)
    back_at_b old new e whole sound put is =
        let s = sound b b_first b_last in
        let h = old.host b in
        let back = is_back (λ j. old.said j b) h is.turn e put is.turns in
        let m : pair.Who × put_back.Move = (Two, PutBack (sends text laws n start b h s a back.count) (comes text laws n start b h s a back.count)) in
        record {
          moves = m ∷ [];
          are =
              ap (λ (x : pair.Host). record (pair_in old) { two = x }) (at_put_back text laws n start b h s back.count a back.down)
              ∙ ap (λ (t : Turn). record { one = view_of text (old.host a) b; two = view_of text t.host a; to_one = map (packet_of text) (t.says a) ++ map (packet_of text) (old.said b a); to_two = map (packet_of text) (old.said a b) }) (sym back.turn_is)
              ∙ after_b old new e is;
          keeps = λ _. All-cons (λ x. put_back.is_put_back One x.0 x.1 ≡ false) m [] refl (All-nil (λ x. put_back.is_put_back One x.0 x.1 ≡ false));
        }

    moves_step : (old new : Hosts) (i : ℕ) (e : Event) (whole : Bool) → (whole ≡ true → puts_back_at a (i, e) ≡ false) → AreSound old → Step old i e new → Moves whole (pair_in old) (pair_in new)
    moves_step old new i e whole keeps sound is =
        elim (cases_Bool (is_put_back e)) [
          | inr goes ↦ run_moves whole (pair_in old) (pair_in new) (runs_step old new i e sound goes is)
          | inl put ↦
              elim (cases_eq a i) [
                | inl at_a ↦
                    back_at_a old new e whole
                    (false_from_ne_true whole (λ w. both_ways (puts_back_at a (i, e)) (keeps w) (and_from (i == a) (is_put_back e) (eq-eqb i a (sym at_a)) put)))
                    sound put (subst (λ (k : ℕ). Step old k e new) (sym at_a) is)
                | inr not_a ↦
                    elim (cases_eq b i) [
                      | inl at_b ↦ back_at_b old new e whole sound put (subst (λ (k : ℕ). Step old k e new) (sym at_b) is)
                      | inr not_b ↦ no_moves whole (pair_in old) (pair_in new) (after_other old new i e is not_a not_b)
                    ]
              ]
        ]

    pub moves_lead : (events : List (ℕ × Event)) (old new : Hosts) (whole : Bool) → (whole ≡ true → All (λ e. puts_back_at a e ≡ false) events) → AreSound old → Lead n old events new → Moves whole (pair_in old) (pair_in new)
    moves_lead [] old new whole keeps sound lead = no_moves whole (pair_in old) (pair_in new) (ap pair_in (sym lead))
    moves_lead (e ∷ events) old new whole keeps sound lead =
        let P : ℕ × Event → Type 0 = λ x. puts_back_at a x ≡ false in
        let first = moves_step old lead.2 e.0 e.1 whole (λ w. All-head P e events (keeps w)) sound lead.3 in
        let rest = moves_lead events lead.2 new whole (λ w. All-tail P e events (keeps w)) (sound_step old lead.2 e.0 e.1 lead.0 lead.1 sound lead.3) lead.4 in
        record {
          moves = first.moves ++ rest.moves;
          are = moves_on (pair_in old) first.moves rest.moves ∙ ap (λ (p : pair.Pair). put_back.run_moves p rest.moves) first.are ∙ rest.are;
          keeps = λ w. All-append (λ m. put_back.is_put_back One m.0 m.1 ≡ false) first.moves rest.moves (first.keeps w) (rest.keeps w);
        }
