-- A request, a leave, and a rise of numbers keep the protocol. A withdrawal does not.
use Rattle.std.proofs.Common.{◌≡◌, ◌≢◌, ℕ, ◌+◌, ◌≤◌, Bool, List, [], ◌∷◌, ◌++◌, map, Option, Some, None, refl, sym, ap, ◌∙◌, subst, inl, inr}
use Rattle.std.specs.Prelude.{IsTrue}
use Rattle.std.specs.Ordering.{nat_cmp}
use Rattle.std.specs.FinSet as set
use Rattle.std.specs.FinMap as finmap
use Rattle.std.proofs.lemmas.List.{append-nil}
use Rattle.std.proofs.lemmas.List.Elements.{filter-append}
use Rattle.ra_stamp.specs.declared.mode.Mode.{Mode}
use Rattle.ra_stamp.specs.declared.message.Message.{Message}
use Rattle.ra_stamp.specs.declared.message.Message.TheVariants.{Request, Reply}
use Rattle.ra_automaton.specs.declared.phase.Phase.{Phase}
use Rattle.ra_automaton.specs.declared.phase.Phase.TheVariants.{Idle, Waiting, Inside}
use Rattle.ra_automaton.specs.State.{State}
use Rattle.ra_automaton.specs.Steps.{others_of, Awaits, RequestStep, LeaveStep}
use Rattle.ra_world.proofs.Dialogs.{belongs, between, reply_for, requests_to_one, requests_of_others, replies_to_one, replies_of_others}
use Rattle.ra_world.proofs.Protocol.{IsNode, HasOwn, LetsPass, IsSilent, Dialog, IsPlaced, Protocol, Changes, changed}
use Rattle.ra_world.proofs.AutomatonSteps.{idle_has_none, requests_are, all_asked, passes_after_request, replies_are, idle_after_end, none_deferred, passes_after_end, higher_state, passes_higher}
use Rattle.ra_automaton.proofs.Ending.{EndStep, leave_ends}

-- ---- Messages that are put under way

pub more_between : (r : List ℕ) (i j : ℕ) (bag more here : List Message) → between r i j more ≡ here → between r i j (bag ++ more) ≡ between r i j bag ++ here
more_between r i j bag more here e = filter-append (belongs r i j) bag more ∙ ap (λ (ms : List Message). between r i j bag ++ ms) e

pub none_between : (r : List ℕ) (i j : ℕ) (bag more : List Message) → between r i j more ≡ [] → between r i j (bag ++ more) ≡ between r i j bag
none_between r i j bag more e = more_between r i j bag more [] e ∙ append-nil (between r i j bag)

pub idle_awaits_nobody : (s : State) (j seq : ℕ) (mode : Mode) → s.phase ≡ Idle → Awaits s j seq mode → ⊥
idle_awaits_nobody s j seq mode idle awaits = not_waiting s.phase idle awaits.waits
  where
    not_waiting : (phase : Phase) → phase ≡ Idle → phase ≡ Waiting seq mode → ⊥
    not_waiting phase e k = cc

pub inside_awaits_nobody : (s : State) (j seq seq' : ℕ) (mode mode' : Mode) → s.phase ≡ Inside seq' mode' → Awaits s j seq mode → ⊥
inside_awaits_nobody s j seq seq' mode mode' inside awaits = not_waiting s.phase inside awaits.waits
  where
    not_waiting : (phase : Phase) → phase ≡ Inside seq' mode' → phase ≡ Waiting seq mode → ⊥
    not_waiting phase e k = cc

-- a node that awaits nobody asks in no dialog
silent_of : {Lossy : Type 0} (r : List ℕ) (i j : ℕ) (si sj : State) (ms : List Message) → ((seq : ℕ) (mode : Mode) → Awaits si j seq mode → ⊥) → Dialog Lossy r i j si sj ms → IsSilent Lossy i j si sj ms
silent_of {Lossy} r i j si sj ms nobody d = elim d [
  | inl silent ↦ silent
  | inr x ↦ elim x [
    | inl asking ↦ absurd (nobody asking.seq asking.mode asking.awaits)
    | inr y ↦ elim y [ inl deferred ↦ absurd (nobody deferred.seq deferred.mode deferred.awaits) | inr answered ↦ absurd (nobody answered.seq answered.mode answered.awaits) ]
  ]
]

module _ {Lossy : Type 0} (n : ℕ) (r : List ℕ) (s s' : ℕ → State) (bag : List Message) (p : ℕ) (new : State) (old : Protocol Lossy n r s bag) (within : IsNode n p) (changes : Changes s s' p new) where
  -- ---- A request

  module _ (mode : Mode) (sends : List Message) (entered : Bool) (step : RequestStep (s p) mode sends entered new) (placed : IsPlaced n r p new) where
    abbrev seq : ℕ
    seq = (s p).highest + 1

    here : IsPlaced n r p (s p)
    here = old.each p within

    sends_are : sends ≡ map (λ o. Request p o r mode seq) (others_of p n)
    sends_are = requests_are n r p (s p) new here within mode sends entered step

    asks_all : (x : ℕ) → IsNode n x → x ≢ p → Awaits new x seq mode × (new.deferred ≡ (s p).deferred) × (new.me ≡ (s p).me) × (new.highest ≡ seq)
    asks_all = all_asked n r p (s p) new here within mode sends entered step

    lets_pass : (x k : ℕ) (m : Mode) → LetsPass (s p) x k m → LetsPass new x k m
    lets_pass = passes_after_request n r p (s p) new here within mode sends entered step

    mine : (x : ℕ) → IsNode n x → x ≢ p → Dialog Lossy r p x (s p) (s x) (between r p x bag) → Dialog Lossy r p x new (s x) (between r p x (bag ++ sends))
    mine x at apart d =
        let silent = silent_of r p x (s p) (s x) (between r p x bag) (λ k m. idle_awaits_nobody (s p) x k m step.idle) d in
        let asked : between r p x sends ≡ Request p x r mode seq ∷ [] = ap (between r p x) sends_are ∙ requests_to_one r p x n mode seq at.0 at.1 apart in
        inr (inl (record {
          seq = seq;
          mode = mode;
          awaits = (asks_all x at apart).0;
          asks = more_between r p x bag sends (Request p x r mode seq ∷ []) asked ∙ ap (λ (ms : List Message). ms ++ Request p x r mode seq ∷ []) silent.none;
          not_deferred = silent.not_deferred;
        }))

    theirs : (x : ℕ) → IsNode n x → x ≢ p → Dialog Lossy r x p (s x) (s p) (between r x p bag) → Dialog Lossy r x p (s x) new (between r x p (bag ++ sends))
    theirs x at apart d =
        let same = none_between r x p bag sends (ap (between r x p) sends_are ∙ requests_of_others r r x p p n mode seq (λ e _. apart e)) in
        let kept = (asks_all x at apart).1 in
        let none : finmap.get (s p).deferred x ≡ None = ap (λ (m : finmap.FinMap nat_cmp ℕ). finmap.get m x) (here.consistent.defers_only step.idle) ∙ finmap.get-empty nat_cmp x in
        let none' : finmap.get new.deferred x ≡ None = ap (λ (m : finmap.FinMap nat_cmp ℕ). finmap.get m x) kept ∙ none in
        subst (λ (ms : List Message). Dialog Lossy r x p (s x) new ms) (sym same) (elim d [
          | inl silent ↦ inl (record { none = silent.none; not_deferred = none'; unheard = silent.unheard })
          | inr y ↦ elim y [
            | inl asking ↦ inr (inl (record { seq = asking.seq; mode = asking.mode; awaits = asking.awaits; asks = asking.asks; not_deferred = none' }))
            | inr z ↦ elim z [
              | inl deferred ↦ absurd (some_or_none deferred.seq (sym deferred.deferred ∙ none))
              | inr answered ↦
                  inr (inr (inr (record { seq = answered.seq; mode = answered.mode; awaits = answered.awaits; answers = answered.answers; not_deferred = none'; passes = lets_pass x answered.seq answered.mode answered.passes })))
            ]
          ]
        ])
      where
        some_or_none : (k : ℕ) → ◌≡◌ {A = Option ℕ} (Some k) None → ⊥
        some_or_none k e = cc

    pub request_kept : Protocol Lossy n r s' (bag ++ sends)
    request_kept =
        changed n r s s' bag (bag ++ sends) p new old changes placed mine theirs
        (λ i j i_apart j_apart. none_between r i j bag sends (ap (between r i j) sends_are ∙ requests_of_others r r i j p n mode seq (λ e _. i_apart e)))
        (λ x k m at apart own free. absurd (free (asks_all x at apart).0.awaited))
        lets_pass within

  -- ---- A leave

  module _ (sends : List Message) (step : LeaveStep (s p) sends new) (placed : IsPlaced n r p new) where
    abbrev held : IsPlaced n r p (s p)
    held = old.each p within

    ends : EndStep (s p) sends new
    ends = leave_ends (s p) sends new step

    sent : sends ≡ map (λ e. Reply p e.0 r e.1) (finmap.entries (s p).deferred)
    sent = replies_are n r p (s p) new held sends ends

    none_left : (x : ℕ) → finmap.get new.deferred x ≡ None
    none_left = none_deferred n r p (s p) new held sends ends

    passes_now : (x k : ℕ) (m : Mode) → k ≤ (s p).highest → LetsPass new x k m
    passes_now = passes_after_end n r p (s p) new held sends ends

    leave_mine : (x : ℕ) → IsNode n x → x ≢ p → Dialog Lossy r p x (s p) (s x) (between r p x bag) → Dialog Lossy r p x new (s x) (between r p x (bag ++ sends))
    leave_mine x at apart d =
        let silent = silent_of r p x (s p) (s x) (between r p x bag) (λ k m. inside_awaits_nobody (s p) x k step.seq m step.mode step.inside) d in
        let same = none_between r p x bag sends (ap (between r p x) sent ∙ replies_of_others r r p x p (finmap.entries (s p).deferred) (λ e _. apart e)) in
        inl (record {
          none = same ∙ silent.none;
          not_deferred = silent.not_deferred;
          unheard = λ awaited. silent.unheard (subst (λ (t : State). IsTrue (set.contains t.awaited x)) step.new_is awaited);
        })

    leave_theirs : (x : ℕ) → IsNode n x → x ≢ p → Dialog Lossy r x p (s x) (s p) (between r x p bag) → Dialog Lossy r x p (s x) new (between r x p (bag ++ sends))
    leave_theirs x at apart d =
        let go : (o : Option ℕ) → finmap.get (s p).deferred x ≡ o → between r x p (bag ++ sends) ≡ between r x p bag ++ reply_for r p x o =
        λ o e. more_between r x p bag sends (reply_for r p x o) (ap (between r x p) sent ∙ replies_to_one r p x (s p).deferred ∙ ap (reply_for r p x) e) in
        let nothing : finmap.get (s p).deferred x ≡ None → between r x p (bag ++ sends) ≡ between r x p bag = λ e. go None e ∙ append-nil (between r x p bag) in
        elim d [
          | inl silent ↦ inl (record { none = nothing silent.not_deferred ∙ silent.none; not_deferred = none_left x; unheard = silent.unheard })
          | inr y ↦ elim y [
            | inl asking ↦ inr (inl (record { seq = asking.seq; mode = asking.mode; awaits = asking.awaits; asks = nothing asking.not_deferred ∙ asking.asks; not_deferred = none_left x }))
            | inr z ↦ elim z [
              | inl deferred ↦
                  inr (inr (inr (record {
                    seq = deferred.seq;
                    mode = deferred.mode;
                    awaits = deferred.awaits;
                    answers = go (Some deferred.seq) deferred.deferred ∙ ap (λ (ms : List Message). ms ++ Reply p x r deferred.seq ∷ []) deferred.none;
                    not_deferred = none_left x;
                    passes = passes_now x deferred.seq deferred.mode (held.consistent.deferred_numbers x deferred.seq deferred.deferred).1;
                  })))
              | inr answered ↦
                  inr (inr (inr (record {
                    seq = answered.seq;
                    mode = answered.mode;
                    awaits = answered.awaits;
                    answers = nothing answered.not_deferred ∙ answered.answers;
                    not_deferred = none_left x;
                    passes = passes_now x answered.seq answered.mode answered.passes.reached;
                  })))
            ]
          ]
        ]

    pub leave_kept : Protocol Lossy n r s' (bag ++ sends)
    leave_kept =
        changed n r s s' bag (bag ++ sends) p new old changes placed leave_mine leave_theirs
        (λ i j i_apart j_apart. none_between r i j bag sends (ap (between r i j) sent ∙ replies_of_others r r i j p (finmap.entries (s p).deferred) (λ e _. j_apart e)))
        (λ x k m at apart own free. absurd (idle_has_none new.phase k m (idle_after_end n r p (s p) new held sends ends) own))
        (λ x k m pass. passes_now x k m pass.reached)
        within

  -- ---- The highest number rises, and nothing else changes

  module _ (number : ℕ) (is : new ≡ higher_state (s p) number) (placed : IsPlaced n r p new) where
    abbrev high : State
    high = higher_state (s p) number

    -- as the asker
    rise_mine : (x : ℕ) → Dialog Lossy r p x (s p) (s x) (between r p x bag) → Dialog Lossy r p x new (s x) (between r p x bag)
    rise_mine x d = subst (λ (t : State). Dialog Lossy r p x t (s x) (between r p x bag)) (sym is) (elim d [
      | inl silent ↦ inl (record { none = silent.none; not_deferred = silent.not_deferred; unheard = silent.unheard })
      | inr y ↦ elim y [
        | inl a ↦ inr (inl (record { seq = a.seq; mode = a.mode; awaits = record { waits = a.awaits.waits; awaited = a.awaits.awaited }; asks = a.asks; not_deferred = a.not_deferred }))
        | inr z ↦ elim z [
          | inl a ↦ inr (inr (inl (record { seq = a.seq; mode = a.mode; awaits = record { waits = a.awaits.waits; awaited = a.awaits.awaited }; none = a.none; deferred = a.deferred; own_first = a.own_first })))
          | inr a ↦ inr (inr (inr (record { seq = a.seq; mode = a.mode; awaits = record { waits = a.awaits.waits; awaited = a.awaits.awaited }; answers = a.answers; not_deferred = a.not_deferred; passes = a.passes })))
        ]
      ]
    ])

    -- as the one that answers
    rise_theirs : (x : ℕ) → Dialog Lossy r x p (s x) (s p) (between r x p bag) → Dialog Lossy r x p (s x) new (between r x p bag)
    rise_theirs x d = subst (λ (t : State). Dialog Lossy r x p (s x) t (between r x p bag)) (sym is) (elim d [
      | inl silent ↦ inl (record { none = silent.none; not_deferred = silent.not_deferred; unheard = silent.unheard })
      | inr y ↦ elim y [
        | inl a ↦ inr (inl (record { seq = a.seq; mode = a.mode; awaits = a.awaits; asks = a.asks; not_deferred = a.not_deferred }))
        | inr z ↦ elim z [
          | inl a ↦ inr (inr (inl (record { seq = a.seq; mode = a.mode; awaits = a.awaits; none = a.none; deferred = a.deferred; own_first = a.own_first })))
          | inr a ↦ inr (inr (inr (record { seq = a.seq; mode = a.mode; awaits = a.awaits; answers = a.answers; not_deferred = a.not_deferred; passes = passes_higher (s p) number x a.seq a.mode a.passes })))
        ]
      ]
    ])

    pub rise_kept : Protocol Lossy n r s' bag
    rise_kept =
        changed n r s s' bag bag p new old changes placed (λ x _ _. rise_mine x) (λ x _ _. rise_theirs x)
        (λ i j i_apart j_apart. refl)
        (λ x k m at apart own free.
        old.passed p x k m within at (λ e. apart (sym e)) (subst (λ (t : State). HasOwn t.phase k m) is own) (λ awaited. free (subst (λ (t : State). IsTrue (set.contains t.awaited x)) (sym is) awaited)))
        (λ x k m pass. subst (λ (t : State). LetsPass t x k m) (sym is) (passes_higher (s p) number x k m pass))
        within
