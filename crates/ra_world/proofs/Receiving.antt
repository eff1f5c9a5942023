-- A message that comes, and one that is lost, keep the protocol.
use Rattle.std.proofs.Common.{◌≡◌, ◌≢◌, ◌⊎◌, ℕ, Bool, true, false, cond, List, [], ◌∷◌, ◌++◌, Some, None, refl, sym, ap, ◌∙◌, subst, arith, inl, inr}
use Rattle.std.specs.Prelude.{IsTrue}
use Rattle.std.specs.Ordering.{nat_cmp}
use Rattle.std.specs.FinSet as set
use Rattle.std.specs.FinMap as finmap
use Rattle.std.proofs.lemmas.List.Elements.{All-nil, All-cons}
use Rattle.ra_stamp.specs.declared.mode.Mode.{Mode}
use Rattle.ra_stamp.specs.declared.message.Message.{Message}
use Rattle.ra_stamp.specs.declared.message.Message.TheVariants.{Request, Reply}
use Rattle.ra_stamp.specs.Message.{seq_of}
use Rattle.ra_automaton.specs.declared.phase.Phase.{Phase}
use Rattle.ra_automaton.specs.declared.phase.Phase.TheVariants.{Waiting}
use Rattle.ra_automaton.specs.State.{State}
use Rattle.ra_automaton.specs.Steps.{later_of, Awaits, OwnGoesFirst, Defers, RepliesAtOnce, Enters, WaitsOn, TakesReply}
use Rattle.ra_bag.specs.Bag.{TakesFirst}
use Rattle.ra_world.proofs.Lists.{filter_taken, filter_left, takes_none, takes_one}
use Rattle.ra_world.proofs.Dialogs.{belongs, between, IsOf, belongs_at, belongs_not, between_none}
use Rattle.ra_automaton.proofs.Apart.{cases_same}
use Rattle.ra_world.proofs.AutomatonSteps.{phase_same, awaited_same, highest_is, deferred_other, first_same, first_back, passes_after_receive, deferred_here, waited, still_awaited, was_awaited, not_awaited, still_waits, own_is, own_was, first_as, same_rest, passes_after_reply}
use Rattle.ra_world.proofs.Protocol.{mode_in, IsNode, HasOwn, LetsPass, Dialog, IsPlaced, Protocol, Changes, changed}
use Rattle.ra_world.proofs.Asking.{more_between, none_between}

-- ---- Dialogs whose nodes change a little

pub move_asker : {Lossy : Type 0} (r : List ℕ) (i j : ℕ) (si si' sj : State) (ms : List Message) → ((seq : ℕ) (mode : Mode) → Awaits si j seq mode → Awaits si' j seq mode) → (IsTrue (set.contains si'.awaited j) → IsTrue (set.contains si.awaited j)) → Dialog Lossy r i j si sj ms → Dialog Lossy r i j si' sj ms
move_asker {Lossy} r i j si si' sj ms awaits back d = elim d [
  | inl silent ↦ inl (record { none = silent.none; not_deferred = silent.not_deferred; unheard = λ h. silent.unheard (back h) })
  | inr x ↦ elim x [
    | inl a ↦ inr (inl (record { seq = a.seq; mode = a.mode; awaits = awaits a.seq a.mode a.awaits; asks = a.asks; not_deferred = a.not_deferred }))
    | inr y ↦ elim y [
      | inl d ↦ inr (inr (inl (record { seq = d.seq; mode = d.mode; awaits = awaits d.seq d.mode d.awaits; none = d.none; deferred = d.deferred; own_first = d.own_first })))
      | inr a ↦ inr (inr (inr (record { seq = a.seq; mode = a.mode; awaits = awaits a.seq a.mode a.awaits; answers = a.answers; not_deferred = a.not_deferred; passes = a.passes })))
    ]
  ]
]

-- the answerer defers the asker as before, and what goes first or lets pass still does
pub record KeepsTo (i : ℕ) (sj sj' : State) : Type 0 where
  pub deferred : finmap.get sj'.deferred i ≡ finmap.get sj.deferred i
  pub first : (seq : ℕ) (mode : Mode) → OwnGoesFirst sj.phase sj.me i seq mode → OwnGoesFirst sj'.phase sj'.me i seq mode
  pub passes : (seq : ℕ) (mode : Mode) → LetsPass sj i seq mode → LetsPass sj' i seq mode

pub move_answerer : {Lossy : Type 0} (r : List ℕ) (i j : ℕ) (si sj sj' : State) (ms : List Message) → KeepsTo i sj sj' → Dialog Lossy r i j si sj ms → Dialog Lossy r i j si sj' ms
move_answerer {Lossy} r i j si sj sj' ms keeps d = elim d [
  | inl silent ↦ inl (record { none = silent.none; not_deferred = keeps.deferred ∙ silent.not_deferred; unheard = silent.unheard })
  | inr x ↦ elim x [
    | inl a ↦ inr (inl (record { seq = a.seq; mode = a.mode; awaits = a.awaits; asks = a.asks; not_deferred = keeps.deferred ∙ a.not_deferred }))
    | inr y ↦ elim y [
      | inl d ↦ inr (inr (inl (record { seq = d.seq; mode = d.mode; awaits = d.awaits; none = d.none; deferred = keeps.deferred ∙ d.deferred; own_first = keeps.first d.seq d.mode d.own_first })))
      | inr a ↦ inr (inr (inr (record { seq = a.seq; mode = a.mode; awaits = a.awaits; answers = a.answers; not_deferred = keeps.deferred ∙ a.not_deferred; passes = keeps.passes a.seq a.mode a.passes })))
    ]
  ]
]

-- ---- The message of a dialog

abbrev mode_or : Mode → Message → Mode
mode_or m (Request from to name mode seq) = mode
mode_or m (Reply from to name seq) = m

-- a REQUEST that is taken is the one of its dialog
pub record WasAsked (i j : ℕ) (si sj : State) (seq : ℕ) (mode : Mode) (rest : List Message) : Type 0 where
  pub awaits : Awaits si j seq mode
  pub none : rest ≡ []
  pub not_deferred : finmap.get sj.deferred i ≡ None

pub was_asked : {Lossy : Type 0} (r : List ℕ) (i j : ℕ) (si sj : State) (ms : List Message) (seq : ℕ) (mode : Mode) (rest : List Message) → TakesFirst ms (Request i j r mode seq) rest → Dialog Lossy r i j si sj ms → WasAsked i j si sj seq mode rest
was_asked {Lossy} r i j si sj ms seq mode rest takes d = elim d [
  | inl silent ↦ absurd (takes_none (Request i j r mode seq) rest (subst (λ (xs : List Message). TakesFirst xs (Request i j r mode seq) rest) silent.none takes))
  | inr x ↦ elim x [
    | inl a ↦
        let one = takes_one (Request i j r a.mode a.seq) (Request i j r mode seq) rest (subst (λ (xs : List Message). TakesFirst xs (Request i j r mode seq) rest) a.asks takes) in
        record {
          awaits = subst (λ (k : ℕ). Awaits si j k mode) (sym (ap seq_of one.0)) (subst (λ (m : Mode). Awaits si j a.seq m) (sym (ap (mode_or mode) one.0)) a.awaits);
          none = one.1;
          not_deferred = a.not_deferred;
        }
    | inr y ↦ elim y [
      | inl d ↦ absurd (takes_none (Request i j r mode seq) rest (subst (λ (xs : List Message). TakesFirst xs (Request i j r mode seq) rest) d.none takes))
      | inr a ↦ absurd (not_a_reply (takes_one (Reply j i r a.seq) (Request i j r mode seq) rest (subst (λ (xs : List Message). TakesFirst xs (Request i j r mode seq) rest) a.answers takes)).0)
    ]
  ]
]
  where
    not_a_reply : {from to from' to' seq seq' : ℕ} {name name' : List ℕ} {mode : Mode} → Request from to name mode seq ≡ Reply from' to' name' seq' → ⊥
    not_a_reply e = cc

-- so is a REPLY
pub record WasAnswered (i j : ℕ) (si sj : State) (seq : ℕ) (rest : List Message) : Type 0 where
  pub mode : Mode
  pub awaits : Awaits si j seq mode
  pub none : rest ≡ []
  pub not_deferred : finmap.get sj.deferred i ≡ None
  pub passes : LetsPass sj i seq mode

pub was_answered : {Lossy : Type 0} (r : List ℕ) (i j : ℕ) (si sj : State) (ms : List Message) (seq : ℕ) (rest : List Message) → TakesFirst ms (Reply j i r seq) rest → Dialog Lossy r i j si sj ms → WasAnswered i j si sj seq rest
was_answered {Lossy} r i j si sj ms seq rest takes d = elim d [
  | inl silent ↦ absurd (takes_none (Reply j i r seq) rest (subst (λ (xs : List Message). TakesFirst xs (Reply j i r seq) rest) silent.none takes))
  | inr x ↦ elim x [
    | inl a ↦ absurd (not_a_request (takes_one (Request i j r a.mode a.seq) (Reply j i r seq) rest (subst (λ (xs : List Message). TakesFirst xs (Reply j i r seq) rest) a.asks takes)).0)
    | inr y ↦ elim y [
      | inl d ↦ absurd (takes_none (Reply j i r seq) rest (subst (λ (xs : List Message). TakesFirst xs (Reply j i r seq) rest) d.none takes))
      | inr a ↦
          let one = takes_one (Reply j i r a.seq) (Reply j i r seq) rest (subst (λ (xs : List Message). TakesFirst xs (Reply j i r seq) rest) a.answers takes) in
          let same : seq ≡ a.seq = ap seq_of one.0 in
          record {
            mode = a.mode;
            awaits = subst (λ (k : ℕ). Awaits si j k a.mode) (sym same) a.awaits;
            none = one.1;
            not_deferred = a.not_deferred;
            passes = subst (λ (k : ℕ). LetsPass sj i k a.mode) (sym same) a.passes;
          }
    ]
  ]
]
  where
    not_a_request : {from to from' to' seq seq' : ℕ} {name name' : List ℕ} {mode : Mode} → Reply from to name seq ≡ Request from' to' name' mode seq' → ⊥
    not_a_request e = cc

-- ---- A message is taken from those under way

taken_here : (r : List ℕ) (i j : ℕ) (bag : List Message) (m : Message) (rest : List Message) → IsOf r i j m → TakesFirst bag m rest → TakesFirst (between r i j bag) m (between r i j rest)
taken_here r i j bag m rest is takes = filter_taken (belongs r i j) bag m rest (belongs_at r i j m is) takes

taken_elsewhere : (r : List ℕ) (i j : ℕ) (bag : List Message) (m : Message) (rest : List Message) → (IsOf r i j m → ⊥) → TakesFirst bag m rest → between r i j rest ≡ between r i j bag
taken_elsewhere r i j bag m rest not takes = filter_left (belongs r i j) bag m rest (belongs_not r i j m not) takes

module _ {Lossy : Type 0} (n : ℕ) (r : List ℕ) (s s' : ℕ → State) (bag rest : List Message) (p x : ℕ) (new : State) (old : Protocol Lossy n r s bag) (within : IsNode n p) (x_at : IsNode n x) (x_apart : x ≢ p) (changes : Changes s s' p new)
    (placed : IsPlaced n r p new) (sends : List Message) where
  abbrev held : IsPlaced n r p (s p)
  held = old.each p within

  -- ---- A REQUEST of node x comes

  module _ (seq : ℕ) (mode : Mode) (takes : TakesFirst bag (Request x p r mode seq) rest) (step : Defers (s p) x seq mode sends new ⊎ RepliesAtOnce (s p) x seq mode sends new) where
    asked : WasAsked x p (s x) (s p) seq mode (between r x p rest)
    asked = was_asked r x p (s x) (s p) (between r x p bag) seq mode (between r x p rest)
        (taken_here r x p bag (Request x p r mode seq) rest (record { asker = refl; answerer = refl; name_is = refl }) takes) (old.dialog x p x_at within x_apart)

    -- what is sent is of the same dialog
    sent_elsewhere : (i j : ℕ) → (i ≡ x → j ≡ p → ⊥) → between r i j sends ≡ []
    sent_elsewhere i j apart = elim step [
      | inl defers ↦ ap (between r i j) defers.sends_are
      | inr replies ↦ ap (between r i j) replies.sends_are ∙ between_none r i j (Reply (s p).me x (s p).name seq ∷ [])
          (All-cons (λ m. IsOf r i j m → ⊥) (Reply (s p).me x (s p).name seq) [] (λ is. apart (sym is.asker) (sym is.answerer ∙ held.me_is)) (All-nil (λ m. IsOf r i j m → ⊥)))
    ]

    elsewhere : (i j : ℕ) → (i ≡ x → j ≡ p → ⊥) → between r i j (rest ++ sends) ≡ between r i j bag
    elsewhere i j apart =
        none_between r i j rest sends (sent_elsewhere i j apart)
        ∙ taken_elsewhere r i j bag (Request x p r mode seq) rest (λ is. apart (sym is.asker) (sym is.answerer)) takes

    same_phase : new.phase ≡ (s p).phase
    same_phase = phase_same (s p) new x seq mode sends step

    same_awaited : new.awaited ≡ (s p).awaited
    same_awaited = awaited_same (s p) new x seq mode sends step

    passes_still : (y k : ℕ) (m : Mode) → LetsPass (s p) y k m → LetsPass new y k m
    passes_still = passes_after_receive (s p) new x seq mode sends step

    mine : (y : ℕ) → IsNode n y → y ≢ p → Dialog Lossy r p y (s p) (s y) (between r p y bag) → Dialog Lossy r p y new (s y) (between r p y (rest ++ sends))
    mine y at apart d =
        subst (λ (ms : List Message). Dialog Lossy r p y new (s y) ms) (sym (elsewhere p y (λ e _. x_apart (sym e))))
        (move_asker r p y (s p) new (s y) (between r p y bag)
        (λ k m awaits. record { waits = same_phase ∙ awaits.waits; awaited = subst (λ (q : set.FinSet nat_cmp). IsTrue (set.contains q y)) (sym same_awaited) awaits.awaited })
        (subst (λ (q : set.FinSet nat_cmp). IsTrue (set.contains q y)) same_awaited) d)

    -- the dialog of the message goes on
    goes_on : Dialog Lossy r x p (s x) new (between r x p (rest ++ sends))
    goes_on = elim step [
      | inl defers ↦
          let none : between r x p (rest ++ sends) ≡ [] = none_between r x p rest sends (ap (between r x p) defers.sends_are) ∙ asked.none in
          let later : later_of (finmap.get (s p).deferred x) seq ≡ seq = ap (λ o. later_of o seq) asked.not_deferred in
          inr (inr (inl (record {
            seq = seq;
            mode = mode;
            awaits = asked.awaits;
            none = none;
            deferred = deferred_here (s p) new x seq mode sends (inl defers) defers ∙ ap (λ k. Some k) later;
            own_first = first_same (s p) new x seq mode sends (inl defers) x seq mode defers.own_first;
          })))
      | inr replies ↦
          let answer : between r x p sends ≡ Reply p x r seq ∷ [] =
          ap (between r x p) (replies.sends_are ∙ (λ i. Reply (held.me_is i) x (held.name_is i) seq ∷ []))
          ∙ ap (λ b. cond b (Reply p x r seq ∷ []) []) (belongs_at r x p (Reply p x r seq) (record { asker = refl; answerer = refl; name_is = refl }))
          in
          inr (inr (inr (record {
            seq = seq;
            mode = mode;
            awaits = asked.awaits;
            answers = more_between r x p rest sends (Reply p x r seq ∷ []) answer ∙ ap (λ (ms : List Message). ms ++ Reply p x r seq ∷ []) asked.none;
            not_deferred = ap (λ (t : State). finmap.get t.deferred x) replies.new_is ∙ asked.not_deferred;
            passes = record { reached = omega (arith, highest_is (s p) new x seq mode sends (inr replies)); not_first = λ h. replies.not_first (first_back (s p) new x seq mode sends (inr replies) x seq mode h) };
          })))
    ]

    theirs : (y : ℕ) → IsNode n y → y ≢ p → Dialog Lossy r y p (s y) (s p) (between r y p bag) → Dialog Lossy r y p (s y) new (between r y p (rest ++ sends))
    theirs y at apart d = elim (cases_same y x) [
      | inl same ↦ subst (λ (k : ℕ). Dialog Lossy r k p (s k) new (between r k p (rest ++ sends))) (sym same) goes_on
      | inr other ↦
          subst (λ (ms : List Message). Dialog Lossy r y p (s y) new ms) (sym (elsewhere y p (λ e _. other e)))
          (move_answerer r y p (s y) (s p) new (between r y p bag) (record {
            deferred = deferred_other (s p) new x seq mode sends step y other;
            first = first_same (s p) new x seq mode sends step y;
            passes = passes_still y;
          }) d)
    ]

    pub request_taken : Protocol Lossy n r s' (rest ++ sends)
    request_taken =
        changed n r s s' bag (rest ++ sends) p new old changes placed mine theirs
        (λ i j i_apart j_apart. elsewhere i j (λ _ e. j_apart e))
        (λ y k m at apart own free. old.passed p y k m within at (λ e. apart (sym e)) (subst (λ (q : Phase). HasOwn q k m) same_phase own)
        (λ awaited. free (subst (λ (q : set.FinSet nat_cmp). IsTrue (set.contains q y)) (sym same_awaited) awaited)))
        passes_still within

  -- ---- A REPLY of node x comes

  module _ (seq : ℕ) (entered : Bool) (takes : TakesFirst bag (Reply x p r seq) rest) (nothing : sends ≡ []) (step : TakesReply (s p) x seq entered new) where
    answered : WasAnswered p x (s p) (s x) seq (between r p x rest)
    answered = was_answered r p x (s p) (s x) (between r p x bag) seq (between r p x rest)
        (taken_here r p x bag (Reply x p r seq) rest (record { asker = refl; answerer = refl; name_is = refl }) takes) (old.dialog p x within x_at (λ e. x_apart (sym e)))

    -- so it is no stray
    came : (mode : Mode) × (Enters (s p) x seq mode entered new ⊎ WaitsOn (s p) x seq mode entered new)
    came = elim step [ inl stray ↦ absurd (stray.not_awaited answered.mode answered.awaits) | inr some ↦ some ]

    one_mode : (phase : Phase) (k : ℕ) (m m' : Mode) → phase ≡ Waiting k m → phase ≡ Waiting k m' → m ≡ m'
    one_mode phase k m m' e e' = ap (mode_in m) (sym e ∙ e')

    same_mode : answered.mode ≡ came.0
    same_mode = one_mode (s p).phase seq answered.mode came.0 answered.awaits.waits (waited (s p) new x seq entered came.0 came.1).waits

    elsewhere_too : (i j : ℕ) → (i ≡ p → j ≡ x → ⊥) → between r i j (rest ++ sends) ≡ between r i j bag
    elsewhere_too i j apart =
        none_between r i j rest sends (ap (between r i j) nothing) ∙ taken_elsewhere r i j bag (Reply x p r seq) rest (λ is. apart (sym is.asker) (sym is.answerer)) takes

    passes_on : (y k : ℕ) (m : Mode) → LetsPass (s p) y k m → LetsPass new y k m
    passes_on = passes_after_reply (s p) new x seq entered came.0 came.1

    reply_mine : (y : ℕ) → IsNode n y → y ≢ p → Dialog Lossy r p y (s p) (s y) (between r p y bag) → Dialog Lossy r p y new (s y) (between r p y (rest ++ sends))
    reply_mine y at apart d = elim (cases_same y x) [
      | inl same ↦
          let none : between r p x (rest ++ sends) ≡ [] = none_between r p x rest sends (ap (between r p x) nothing) ∙ answered.none in
          subst (λ (k : ℕ). Dialog Lossy r p k new (s k) (between r p k (rest ++ sends))) (sym same) (inl (record { none = none; not_deferred = answered.not_deferred; unheard = λ awaited. absurd (not_awaited (s p) new x seq entered came.0 came.1 awaited) }))
      | inr other ↦
          subst (λ (ms : List Message). Dialog Lossy r p y new (s y) ms) (sym (elsewhere_too p y (λ _ e. other e)))
          (move_asker r p y (s p) new (s y) (between r p y bag) (λ k m h. still_waits (s p) new x seq entered came.0 came.1 y k m other h) (was_awaited (s p) new x seq entered came.0 came.1 y other) d)
    ]

    reply_theirs : (y : ℕ) → IsNode n y → y ≢ p → Dialog Lossy r y p (s y) (s p) (between r y p bag) → Dialog Lossy r y p (s y) new (between r y p (rest ++ sends))
    reply_theirs y at apart d =
        subst (λ (ms : List Message). Dialog Lossy r y p (s y) new ms) (sym (elsewhere_too y p (λ e _. apart e)))
        (move_answerer r y p (s y) (s p) new (between r y p bag)
        (record {
          deferred = ap (λ (q : finmap.FinMap nat_cmp ℕ). finmap.get q y) (same_rest (s p) new x seq entered came.0 came.1).0;
          first = λ k m. (first_as (s p) new x seq entered came.0 came.1 y k m).0;
          passes = passes_on y;
        }) d)

    pub reply_taken : Protocol Lossy n r s' (rest ++ sends)
    reply_taken =
        changed n r s s' bag (rest ++ sends) p new old changes placed reply_mine reply_theirs
        (λ i j i_apart j_apart. elsewhere_too i j (λ e _. i_apart e))
        (λ y k m at apart own free. elim (cases_same y x) [
          | inl same ↦
              let is = own_is (s p) new x seq entered came.0 came.1 k m own in
              subst (λ (q : ℕ). LetsPass (s q) p k m) (sym same)
              (subst (λ (q : Mode). LetsPass (s x) p k q) (same_mode ∙ is.1) (subst (λ (q : ℕ). LetsPass (s x) p q answered.mode) is.0 answered.passes))
          | inr other ↦
              old.passed p y k m within at (λ e. apart (sym e)) (own_was (s p) new x seq entered came.0 came.1 k m own)
              (λ awaited. free (still_awaited (s p) new x seq entered came.0 came.1 y other awaited))
        ])
        passes_on within

-- ---- A message is lost

module _ {Lossy : Type 0} (lossy : Lossy) (n : ℕ) (r : List ℕ) (s : ℕ → State) (bag rest : List Message) (m : Message) (old : Protocol Lossy n r s bag) (takes : TakesFirst bag m rest) where
  silenced : (i j : ℕ) → Dialog Lossy r i j (s i) (s j) (between r i j bag) → belongs r i j m ≡ true → Dialog Lossy r i j (s i) (s j) (between r i j rest)
  silenced i j d e =
      let here = filter_taken (belongs r i j) bag m rest e takes in
      elim d [
        | inl silent ↦ absurd (takes_none m (between r i j rest) (subst (λ (xs : List Message). TakesFirst xs m (between r i j rest)) silent.none here))
        | inr x ↦ elim x [
          | inl a ↦ inl (record { none = (takes_one (Request i j r a.mode a.seq) m (between r i j rest) (subst (λ (xs : List Message). TakesFirst xs m (between r i j rest)) a.asks here)).1; not_deferred = a.not_deferred; unheard = λ _. lossy })
          | inr y ↦ elim y [
            | inl d ↦ absurd (takes_none m (between r i j rest) (subst (λ (xs : List Message). TakesFirst xs m (between r i j rest)) d.none here))
            | inr a ↦ inl (record { none = (takes_one (Reply j i r a.seq) m (between r i j rest) (subst (λ (xs : List Message). TakesFirst xs m (between r i j rest)) a.answers here)).1; not_deferred = a.not_deferred; unheard = λ _. lossy })
          ]
        ]
      ]

  pub message_lost : Protocol Lossy n r s rest
  message_lost =
      record {
        each = old.each;
        passed = old.passed;
        dialog = λ i j at_i at_j apart.
            elim (belongs r i j m) as (λ b. belongs r i j m ≡ b → Dialog Lossy r i j (s i) (s j) (between r i j rest)) [
              | true ↦ λ e. silenced i j (old.dialog i j at_i at_j apart) e
              | false ↦ λ e. subst (λ (ms : List Message). Dialog Lossy r i j (s i) (s j) ms) (sym (filter_left (belongs r i j) bag m rest e takes)) (old.dialog i j at_i at_j apart)
            ] refl;
      }

-- ---- Another name

all_same : (s s' : ℕ → State) → ((i : ℕ) → s' i ≡ s i) → s ≡ s'
all_same s s' same = λ d i. sym (same i) d

pub undisturbed : {Lossy : Type 0} (n : ℕ) (r : List ℕ) (s s' : ℕ → State) (bag bag' : List Message) → ((i : ℕ) → s' i ≡ s i) → ((i j : ℕ) → between r i j bag' ≡ between r i j bag) → Protocol Lossy n r s bag → Protocol Lossy n r s' bag'
undisturbed {Lossy} n r s s' bag bag' same between_same old =
    let go : Protocol Lossy n r s bag' = record {
      each = old.each;
      dialog = λ i j at_i at_j apart. subst (λ (ms : List Message). Dialog Lossy r i j (s i) (s j) ms) (sym (between_same i j)) (old.dialog i j at_i at_j apart);
      passed = old.passed;
    } in
    subst (λ (f : ℕ → State). Protocol Lossy n r f bag') (all_same s s' same) go
