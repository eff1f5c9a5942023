-- The messages under way with the clocks of the events that sent them.
use Rattle.std.proofs.Common.{◌≡◌, ◌≢◌, ◌⊎◌, ◌↔◌, ℕ, zero, suc, ◌-◌, Bool, true, false, cond, List, [], ◌∷◌, ◌++◌, take, drop, get_or, set, length, ◌<◌, Option, Some, None, refl, sym, ap, ◌∙◌, subst, inl, inr, arith, true≢false}
use Rattle.std.specs.Prelude.{IsTrue, All, Contains}
use Rattle.std.proofs.lemmas.Option.{none-some, same_Some}
use Rattle.std.proofs.lemmas.List.{take-append-drop, get_or-set_same, get_or-set_other, get_or_append_left}
use Rattle.std.proofs.Math.Seq.{get_or-append_right}
use Rattle.std.proofs.lemmas.Bool.{cases_eq}
use Rattle.std.proofs.lemmas.Bool.Decides.{leb_tells}
use Rattle.std.proofs.lemmas.List.Elements.{All-push, All-weaker, Contains-append_left, Contains-append_right}
use Rattle.ra_stamp.specs.declared.message.Message.{Message}
use Rattle.ra_stamp.specs.contracts.message.MessagePartialEq.TheImpl.{eq-value}
use Rattle.ra_frame.specs.declared.frame.Frame.{Frame}
use Rattle.ra_audit.specs.AuditKeeping.{FlightState, HasClock, IsFlying, FliesOn, FliesAfter, NotesSome, IsIn, AreApart, IsInSlot, IsNotedIn, IsNoted, clock_among, slot_of}

-- what is the only one
pub only_one : (m x : Message) → Contains (m ∷ []) x → m ≡ x
only_one m x (i, low, is) =
    let first : i ≡ 0 = omega (arith, low) in
    ap (λ (k : ℕ). get_or (m ∷ []) k x) (sym first) ∙ is

pub is_one : (m x : Message) → m ≡ x → Contains (m ∷ []) x
is_one m x same = (0, omega arith, same)

pub in_none : (x : Message) → Contains [] x → ⊥
in_none x (i, low, is) = omega (arith, low)

-- ---- Noting what the last event sent

pub noted_all : (old new : FlightState) → NotesSome (IsNoted old) old.last old.clock (IsNoted new) → All (IsIn (IsNoted new)) old.last → new.last ≡ [] → FliesOn old new
noted_all old new notes all none = record {
  had = λ m c has. by_case m c has;
  all = λ m flies. by_flying m flies;
}
  where
    by_case : (m : Message) (c : ℕ) → HasClock new m c → HasClock old m c
    by_case m c (inl noted) = notes.had m c noted
    by_case m c (inr last) = absurd (in_none m (subst (λ (ms : List Message). Contains ms m) none last.0))

    by_flying : (m : Message) → IsFlying old m → IsFlying new m
    by_flying m (c, inl noted) = let is = notes.all m (c, noted) in (is.0, inl is.1)
    by_flying m (c, inr last) =
        let k = last.0.0 in
        let is : IsIn (IsNoted new) m = subst (IsIn (IsNoted new)) last.0.2 (all k m last.0.1) in
        (is.0, inl is.1)

-- the same if only some were noted
pub noted_some : (old new : FlightState) → NotesSome (IsNoted old) old.last old.clock (IsNoted new) → new.clock ≡ old.clock → new.last ≡ old.last → FliesOn old new
noted_some old new notes clock last = record {
  had = λ m c has. by_case m c has;
  all = λ m flies. by_flying m flies;
}
  where
    by_case : (m : Message) (c : ℕ) → HasClock new m c → HasClock old m c
    by_case m c (inl noted) = notes.had m c noted
    by_case m c (inr there) = inr (subst (λ (ms : List Message). Contains ms m) last there.0, there.1 ∙ clock)

    by_flying : (m : Message) → IsFlying old m → IsFlying new m
    by_flying m (c, inl noted) = let is = notes.all m (c, noted) in (is.0, inl is.1)
    by_flying m (c, inr there) = (c, inr (subst (λ (ms : List Message). Contains ms m) (sym last) there.0, there.1 ∙ sym clock))

-- ---- One message more is noted

-- what is noted among more messages
pub notes_more : (old mid new : Message → ℕ → Type 0) (before more : List Message) (clock : ℕ) → NotesSome old before clock mid → NotesSome mid more clock new
    → NotesSome old (before ++ more) clock new
notes_more old mid new before more clock notes after = record {
  had = λ m c is. elim (after.had m c is) [
    | inr there ↦ inr (Contains-append_right before more m there.0, there.1)
    | inl was ↦
        elim (notes.had m c was) [
          | inl had ↦ inl had
          | inr there ↦ inr (Contains-append_left before more m there.0, there.1)
        ]
  ];
  all = λ m is. after.all m (notes.all m is);
}

pub all_noted : (mid new : Message → ℕ → Type 0) (before : List Message) (x : Message) (clock : ℕ) → NotesSome mid (x ∷ []) clock new → IsIn new x → All (IsIn mid) before → All (IsIn new) (before ++ x ∷ [])
all_noted mid new before x clock notes now all = All-push (IsIn new) before x (All-weaker (IsIn mid) (IsIn new) notes.all before all) now

-- nothing is noted yet
pub notes_none : (noted : Message → ℕ → Type 0) (clock : ℕ) → NotesSome noted [] clock noted
notes_none noted clock = record { had = λ m c is. inl is; all = λ m is. is }

-- some of them, of more
pub notes_of : (old new : Message → ℕ → Type 0) (messages : List Message) (i clock : ℕ) → NotesSome old (take i messages) clock new → NotesSome old messages clock new
notes_of old new messages i clock notes = record {
  had = λ m c is. elim (notes.had m c is) [
    | inl had ↦ inl had
    | inr there ↦
        inr (
          subst (λ (ms : List Message). Contains ms m) (take-append-drop i messages) (Contains-append_left (take i messages) (drop i messages) m there.0),
          there.1,
        )
  ];
  all = notes.all;
}

-- ---- The messages in slots

abbrev pub framed : ℕ → Message → Frame
framed clock m = record { clock = clock; message = m }

-- a slot is written
module _ (nodes : ℕ) (slots : List (Option Frame)) (others : List (Message × ℕ)) (m : Message) (new : Option Frame) (within : slot_of nodes m < length slots) where
  abbrev slot : ℕ
  slot = slot_of nodes m

  written : (x : Message) → slot_of nodes x ≡ slot → get_or (set slots slot new) (slot_of nodes x) None ≡ new
  written x same = ap (λ (k : ℕ). get_or (set slots slot new) k None) same ∙ get_or-set_same slots slot new None within

  kept : (x : Message) → (slot_of nodes x ≢ slot) → get_or (set slots slot new) (slot_of nodes x) None ≡ get_or slots (slot_of nodes x) None
  kept x apart = get_or-set_other slots slot (slot_of nodes x) new None apart

-- it takes a message that is in no other place
module _ (nodes : ℕ) (slots : List (Option Frame)) (others : List (Message × ℕ)) (m : Message) (clock : ℕ) (within : slot_of nodes m < length slots)
    (no_other : (frame : Frame) → get_or slots (slot_of nodes m) None ≡ Some frame → frame.message ≡ m) (free : clock_among others m ≡ None) (apart : AreApart nodes slots others) where
  abbrev now : List (Option Frame)
  now = set slots (slot_of nodes m) (Some (framed clock m))

  put_is : (x : Message) (c : ℕ) → slot_of nodes x ≡ slot_of nodes m → IsInSlot nodes now x c → framed clock m ≡ framed c x
  put_is x c same is = same_Some (framed clock m) (framed c x) (sym (written nodes slots others m (Some (framed clock m)) within x same) ∙ is)

  pub slot_apart : AreApart nodes now others
  slot_apart x c other is among = elim (cases_eq (slot_of nodes x) (slot_of nodes m)) [
    | inl same ↦ none-some other (sym free ∙ (ap (clock_among others) (ap (λ (f : Frame). f.message) (put_is x c same is)) ∙ among))
    | inr not ↦ apart x c other (sym (kept nodes slots others m (Some (framed clock m)) within x not) ∙ is) among
  ]

  pub slot_now : IsIn (IsNotedIn nodes now others) m
  slot_now = (clock, inl (written nodes slots others m (Some (framed clock m)) within m refl))

  slot_had : (x : Message) (c : ℕ) → IsNotedIn nodes now others x c → IsNotedIn nodes slots others x c ⊎ (Contains (m ∷ []) x × (c ≡ clock))
  slot_had x c (inr among) = inl (inr among)
  slot_had x c (inl is) = elim (cases_eq (slot_of nodes x) (slot_of nodes m)) [
    | inl same ↦ let f = put_is x c same is in inr (is_one m x (ap (λ (f : Frame). f.message) f), sym (ap (λ (f : Frame). f.clock) f))
    | inr not ↦ inl (inl (sym (kept nodes slots others m (Some (framed clock m)) within x not) ∙ is))
  ]

  slot_all : (x : Message) → IsIn (IsNotedIn nodes slots others) x → IsIn (IsNotedIn nodes now others) x
  slot_all x (c, inr among) = (c, inr among)
  slot_all x (c, inl is) = elim (cases_eq (slot_of nodes x) (slot_of nodes m)) [
    | inl same ↦
        let one : x ≡ m = no_other (framed c x) (ap (λ (k : ℕ). get_or slots k None) (sym same) ∙ is) in
        subst (IsIn (IsNotedIn nodes now others)) (sym one) slot_now
    | inr not ↦ (c, inl (kept nodes slots others m (Some (framed clock m)) within x not ∙ is))
  ]

  pub slot_notes : NotesSome (IsNotedIn nodes slots others) (m ∷ []) clock (IsNotedIn nodes now others)
  slot_notes = record { had = slot_had; all = slot_all }

-- the same, by the number of the slot
pub put_in_slot : (nodes : ℕ) (slots slots' : List (Option Frame)) (others : List (Message × ℕ)) (m : Message) (clock place : ℕ) → place ≡ slot_of nodes m → place < length slots
    → ((frame : Frame) → get_or slots place None ≡ Some frame → frame.message ≡ m) → clock_among others m ≡ None → AreApart nodes slots others
    → slots' ≡ set slots place (Some (framed clock m))
    → AreApart nodes slots' others × NotesSome (IsNotedIn nodes slots others) (m ∷ []) clock (IsNotedIn nodes slots' others) × IsIn (IsNotedIn nodes slots' others) m
put_in_slot nodes slots slots' others m clock place slot_is within no_other free apart is =
    let here : slots' ≡ set slots (slot_of nodes m) (Some (framed clock m)) = is ∙ ap (λ (k : ℕ). set slots k (Some (framed clock m))) slot_is in
    let low : slot_of nodes m < length slots = subst (λ (k : ℕ). k < length slots) slot_is within in
    let only : (frame : Frame) → get_or slots (slot_of nodes m) None ≡ Some frame → frame.message ≡ m =
    λ frame at. no_other frame (ap (λ (k : ℕ). get_or slots k None) slot_is ∙ at)
    in
    subst (λ (ss : List (Option Frame)). AreApart nodes ss others × NotesSome (IsNotedIn nodes slots others) (m ∷ []) clock (IsNotedIn nodes ss others) × IsIn (IsNotedIn nodes ss others) m)
    (sym here) (
      slot_apart nodes slots others m clock low only free apart,
      slot_notes nodes slots others m clock low only free apart,
      slot_now nodes slots others m clock low only free apart,
    )

-- slots without a frame
abbrev pub free : Option Frame
free = None

one_free : (k : ℕ) → get_or (free ∷ []) k free ≡ free
one_free zero = refl
one_free (suc k) = refl

pub free_more : (slots : List (Option Frame)) → ((k : ℕ) → get_or slots k free ≡ free) → (k : ℕ) → get_or (slots ++ free ∷ []) k free ≡ free
free_more slots all k = elim (leb_tells (length slots) k) [
  | inl past ↦ get_or-append_right slots (free ∷ []) k free past.1 ∙ one_free (k - length slots)
  | inr low ↦ get_or_append_left slots (free ∷ []) free k low.1 ∙ all k
]

-- nothing is noted twice in them
pub free_apart : (nodes : ℕ) (slots : List (Option Frame)) (others : List (Message × ℕ)) → ((k : ℕ) → get_or slots k free ≡ free) → AreApart nodes slots others
free_apart nodes slots others all m clock other is among = none-some (framed clock m) (sym (all (slot_of nodes m)) ∙ is)

-- a slot that has no frame but one of this message has one
pub in_slot : (slots : List (Option Frame)) (place : ℕ) (m : Message) → (get_or slots place None ≢ None) → ((frame : Frame) → get_or slots place None ≡ Some frame → frame.message ≡ m)
    → (clock : ℕ) × (get_or slots place None ≡ Some (framed clock m))
in_slot slots place m some only = of (get_or slots place None) refl
  where
    of : (o : Option Frame) → get_or slots place None ≡ o → (clock : ℕ) × (get_or slots place None ≡ Some (framed clock m))
    of None none = absurd (some none)
    of (Some f) is = (f.clock, is ∙ ap (λ (x : Message). Some (framed f.clock x)) (only f is))

-- what is among the others is in no slot
pub not_in_slot : (nodes : ℕ) (slots : List (Option Frame)) (others : List (Message × ℕ)) (m : Message) → AreApart nodes slots others → (clock_among others m ≢ None)
    → (c : ℕ) → IsInSlot nodes slots m c → ⊥
not_in_slot nodes slots others m apart some c is = of (clock_among others m) refl
  where
    of : (o : Option ℕ) → clock_among others m ≡ o → ⊥
    of None none = some none
    of (Some o) among = apart m c o is among

both_cases : (b : Bool) → (b ≡ true) ⊎ (b ≡ false)
both_cases true = inl refl
both_cases false = inr refl

module _ (exact : (a b : Message) → IsTrue (eq-value.it a b) ↔ (a ≡ b)) where
  pub same_or_apart : (a b : Message) → (a ≡ b) ⊎ (a ≢ b)
  same_or_apart a b = elim (both_cases (eq-value.it a b)) [
    | inl passes ↦ inl ((exact a b).0 passes)
    | inr fails ↦ inr (λ same. true≢false (sym ((exact a b).1 same) ∙ fails))
  ]

  differs : (a b : Message) → (a ≢ b) → eq-value.it a b ≡ false
  differs a b apart = elim (both_cases (eq-value.it a b)) [
    | inl passes ↦ absurd (apart ((exact a b).0 passes))
    | inr fails ↦ fails
  ]

  -- a message has another clock among the others, or none
  module _ (nodes : ℕ) (slots : List (Option Frame)) (old new : List (Message × ℕ)) (m : Message) (value : Option ℕ)
      (updates : (x : Message) → clock_among new x ≡ cond (eq-value.it m x) value (clock_among old x)) where
    at_it : (x : Message) → m ≡ x → clock_among new x ≡ value
    at_it x same = updates x ∙ ap (λ (b : Bool). cond b value (clock_among old x)) ((exact m x).1 same)

    elsewhere : (x : Message) → (m ≢ x) → clock_among new x ≡ clock_among old x
    elsewhere x apart = updates x ∙ ap (λ (b : Bool). cond b value (clock_among old x)) (differs m x apart)

  -- it is put among them
  module _ (nodes : ℕ) (slots : List (Option Frame)) (old new : List (Message × ℕ)) (m : Message) (clock : ℕ)
      (updates : (x : Message) → clock_among new x ≡ cond (eq-value.it m x) (Some clock) (clock_among old x)) where
    pub among_apart : ((c : ℕ) → IsInSlot nodes slots m c → ⊥) → AreApart nodes slots old → AreApart nodes slots new
    among_apart out apart x c other is among = elim (same_or_apart m x) [
      | inl same ↦ out c (subst (λ (y : Message). IsInSlot nodes slots y c) (sym same) is)
      | inr not ↦ apart x c other is (sym (elsewhere nodes slots old new m (Some clock) updates x not) ∙ among)
    ]

    pub among_now : IsIn (IsNotedIn nodes slots new) m
    among_now = (clock, inr (at_it nodes slots old new m (Some clock) updates m refl))

    among_had : (x : Message) (c : ℕ) → IsNotedIn nodes slots new x c → IsNotedIn nodes slots old x c ⊎ (Contains (m ∷ []) x × (c ≡ clock))
    among_had x c (inl is) = inl (inl is)
    among_had x c (inr among) = elim (same_or_apart m x) [
      | inl same ↦ inr (is_one m x same, sym (same_Some clock c (sym (at_it nodes slots old new m (Some clock) updates x same) ∙ among)))
      | inr not ↦ inl (inr (sym (elsewhere nodes slots old new m (Some clock) updates x not) ∙ among))
    ]

    among_all : (x : Message) → IsIn (IsNotedIn nodes slots old) x → IsIn (IsNotedIn nodes slots new) x
    among_all x (c, inl is) = (c, inl is)
    among_all x (c, inr among) = elim (same_or_apart m x) [
      | inl same ↦ (clock, inr (at_it nodes slots old new m (Some clock) updates x same))
      | inr not ↦ (c, inr (elsewhere nodes slots old new m (Some clock) updates x not ∙ among))
    ]

    pub among_notes : NotesSome (IsNotedIn nodes slots old) (m ∷ []) clock (IsNotedIn nodes slots new)
    among_notes = record { had = among_had; all = among_all }

  -- ---- Taking a message

  -- it was in its slot
  module _ (old new : FlightState) (m : Message) (clock : ℕ) (apart : AreApart old.nodes old.slots old.others) (there : IsInSlot old.nodes old.slots m clock)
      (within : slot_of old.nodes m < length old.slots)
      (is : new ≡ record old { slots = set old.slots (slot_of old.nodes m) None }) where
    abbrev left : List (Option Frame)
    left = set old.slots (slot_of old.nodes m) None

    gone : (x : Message) (c : ℕ) → slot_of old.nodes x ≡ slot_of old.nodes m → IsInSlot old.nodes left x c → ⊥
    gone x c same here = none-some (framed c x) (sym (written old.nodes old.slots old.others m None within x same) ∙ here)

    slot_only : (x : Message) (c : ℕ) → IsNotedIn old.nodes left old.others x c → IsNotedIn old.nodes old.slots old.others x c × (Contains (m ∷ []) x → ⊥)
    slot_only x c (inl here) = elim (cases_eq (slot_of old.nodes x) (slot_of old.nodes m)) [
      | inl same ↦ absurd (gone x c same here)
      | inr not ↦ (
        inl (sym (kept old.nodes old.slots old.others m None within x not) ∙ here),
        λ one. not (ap (slot_of old.nodes) (sym (only_one m x one))),
      )
    ]
    slot_only x c (inr among) = (inr among, λ one. apart m clock c there (ap (clock_among old.others) (only_one m x one) ∙ among))

    slot_others : (x : Message) (c : ℕ) → (Contains (m ∷ []) x → ⊥) → IsNotedIn old.nodes old.slots old.others x c → IsNotedIn old.nodes left old.others x c
    slot_others x c none (inr among) = inr among
    slot_others x c none (inl was) = elim (cases_eq (slot_of old.nodes x) (slot_of old.nodes m)) [
      | inl same ↦
          let f : framed clock m ≡ framed c x = same_Some (framed clock m) (framed c x) (sym there ∙ (ap (λ (k : ℕ). get_or old.slots k None) (sym same) ∙ was)) in
          absurd (none (is_one m x (ap (λ (f : Frame). f.message) f)))
      | inr not ↦ inl (kept old.nodes old.slots old.others m None within x not ∙ was)
    ]

    pub flies_from_slot : FliesAfter old (m ∷ []) old.clock old.last new
    flies_from_slot =
        subst (FliesAfter old (m ∷ []) old.clock old.last) (sym is) (record { only = slot_only; others = slot_others; clock_is = refl; last_is = refl })

    pub left_apart : AreApart old.nodes left old.others
    left_apart x c other here among = elim (cases_eq (slot_of old.nodes x) (slot_of old.nodes m)) [
      | inl same ↦ gone x c same here
      | inr not ↦ apart x c other (sym (kept old.nodes old.slots old.others m None within x not) ∙ here) among
    ]

  -- it was not in its slot
  module _ (old new : FlightState) (m : Message) (others : List (Message × ℕ)) (out : (c : ℕ) → IsInSlot old.nodes old.slots m c → ⊥)
      (apart : AreApart old.nodes old.slots old.others)
      (updates : (x : Message) → clock_among others x ≡ cond (eq-value.it m x) None (clock_among old.others x))
      (is : new ≡ record old { others = others }) where
    among_only : (x : Message) (c : ℕ) → IsNotedIn old.nodes old.slots others x c → IsNotedIn old.nodes old.slots old.others x c × (Contains (m ∷ []) x → ⊥)
    among_only x c (inl here) = (inl here, λ one. out c (subst (λ (y : Message). IsInSlot old.nodes old.slots y c) (sym (only_one m x one)) here))
    among_only x c (inr among) = elim (same_or_apart m x) [
      | inl same ↦ absurd (none-some c (sym (at_it old.nodes old.slots old.others others m None updates x same) ∙ among))
      | inr not ↦ (inr (sym (elsewhere old.nodes old.slots old.others others m None updates x not) ∙ among), λ one. not (only_one m x one))
    ]

    among_others : (x : Message) (c : ℕ) → (Contains (m ∷ []) x → ⊥) → IsNotedIn old.nodes old.slots old.others x c → IsNotedIn old.nodes old.slots others x c
    among_others x c none (inl was) = inl was
    among_others x c none (inr among) = inr (elsewhere old.nodes old.slots old.others others m None updates x (λ same. none (is_one m x same)) ∙ among)

    pub flies_from_others : FliesAfter old (m ∷ []) old.clock old.last new
    flies_from_others =
        subst (FliesAfter old (m ∷ []) old.clock old.last) (sym is) (record { only = among_only; others = among_others; clock_is = refl; last_is = refl })

    pub fewer_apart : AreApart old.nodes old.slots others
    fewer_apart x c other here among = elim (same_or_apart m x) [
      | inl same ↦ absurd (none-some other (sym (at_it old.nodes old.slots old.others others m None updates x same) ∙ among))
      | inr not ↦ apart x c other here (sym (elsewhere old.nodes old.slots old.others others m None updates x not) ∙ among)
    ]

-- the same, by the number of the slot
pub taken_from_slot : ((a b : Message) → IsTrue (eq-value.it a b) ↔ (a ≡ b)) → (old new : FlightState) (m : Message) (place : ℕ) → place ≡ slot_of old.nodes m
    → AreApart old.nodes old.slots old.others → place < length old.slots → (get_or old.slots place None ≢ None)
    → ((frame : Frame) → get_or old.slots place None ≡ Some frame → frame.message ≡ m) → new ≡ record old { slots = set old.slots place None }
    → FliesAfter old (m ∷ []) old.clock old.last new
taken_from_slot exact old new m place place_is apart within some only is =
    let found = in_slot old.slots place m some only in
    let there : IsInSlot old.nodes old.slots m found.0 = ap (λ (k : ℕ). get_or old.slots k None) (sym place_is) ∙ found.1 in
    flies_from_slot exact old new m found.0 apart there (subst (λ (k : ℕ). k < length old.slots) place_is within)
    (is ∙ ap (λ (k : ℕ). record old { slots = set old.slots k None }) place_is)

-- an event is next
pub flies_next : (old mid new : FlightState) (taken : List Message) (clock : ℕ) (sends : List Message) → FliesAfter old taken old.clock old.last mid
    → new ≡ record mid { clock = clock; last = sends } → FliesAfter old taken clock sends new
flies_next old mid new taken clock sends after is =
    subst (FliesAfter old taken clock sends) (sym is) (record { only = after.only; others = after.others; clock_is = refl; last_is = refl })
