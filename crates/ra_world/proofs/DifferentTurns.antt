-- What is said in a turn of a node on a name: each turn keeps that all messages of a dialog are different.
use Rattle.std.proofs.Common.{◌≡◌, ◌≢◌, ◌⊎◌, ℕ, suc, ◌+◌, ◌≤◌, Bool, true, false, cond, List, [], ◌∷◌, ◌++◌, Contains, filter, length, map, Option, Some, None, refl, sym, ap, ◌∙◌, subst, arith, inl, inr}
use Rattle.std.specs.Ordering.{nat_cmp}
use Rattle.std.specs.Cmp.{nat_cmp_total}
use Rattle.std.specs.FinMap as finmap
use Rattle.std.proofs.lemmas.Bool.{ne_eqb}
use Rattle.std.proofs.lemmas.List.{append-nil}
use Rattle.std.proofs.lemmas.List.Elements.{All-nil, All-cons}
use Rattle.ra_stamp.specs.declared.mode.Mode.{Mode}
use Rattle.ra_stamp.specs.declared.message.Message.{Message}
use Rattle.ra_stamp.specs.declared.message.Message.TheVariants.{Request, Reply}
use Rattle.ra_automaton.specs.State.{State}
use Rattle.ra_automaton.specs.Steps.{others_of, later_of, RequestStep, Defers, RepliesAtOnce, TakesReply}
use Rattle.ra_automaton.proofs.Ending.{EndStep}
use Rattle.ra_bag.specs.Bag.{TakesFirst}
use Rattle.ra_world.proofs.Lists.{filter_taken, filter_left}
use Rattle.ra_automaton.proofs.Apart.{cases_same, tied, untied}
use Rattle.ra_world.proofs.Dialogs.{belongs, between, IsOf, belongs_is, belongs_at, between_none, reply_for, requests_to_one, requests_of_others, replies_to_one, replies_of_others}
use Rattle.ra_world.proofs.Protocol.{IsNode, IsPlaced}
use Rattle.ra_world.proofs.Asking.{more_between, none_between}
use Rattle.ra_world.proofs.Exchanges.{Exchanges, was_first}
use Rattle.ra_world.proofs.Lists.{contained_passes}
use Rattle.ra_world.proofs.DifferentDialogs.{asks_with, asked_for, one_if, deferred_with, one_more, one_less, Said, AllSaid, said_still, said_request, said_reply, said_later, said_after}

-- ---- What is taken

-- no more REQUESTs are under way after a message is taken
pub fewer_asked : (r : List ℕ) (i j : ℕ) (bag : List Message) (m : Message) (rest : List Message) → TakesFirst bag m rest → (k : ℕ) → asked_for k (between r i j rest) ≤ asked_for k (between r i j bag)
fewer_asked r i j bag m rest takes k =
    elim (belongs r i j m) as (λ b. belongs r i j m ≡ b → asked_for k (between r i j rest) ≤ asked_for k (between r i j bag)) [
      | true ↦ λ e. omega (arith, one_less (asks_with k) (between r i j bag) m (between r i j rest) (filter_taken (belongs r i j) bag m rest e takes))
      | false ↦ λ e. omega (arith, ap (asked_for k) (filter_left (belongs r i j) bag m rest e takes))
    ] refl

-- ---- What is known of the next number: nobody has met it

-- no REQUEST of p to x has this number yet, under way or deferred
abbrev pub IsNew : ℕ → List ℕ → ℕ → (ℕ → State) → List Message → ℕ → Type 0
IsNew n r p s bag seq = (x : ℕ) → IsNode n x → x ≢ p → (asked_for seq (between r p x bag) ≡ 0) × (deferred_with seq (finmap.get (s x).deferred p) ≡ 0)

pub next_is_new : {Lossy : Type 0} (start n : ℕ) (r : List ℕ) (s : ℕ → State) (bag : List Message) (p : ℕ) → IsNode n p → Exchanges Lossy start n r s bag → IsNew n r p s bag ((s p).highest + 1)
next_is_new {Lossy} start n r s bag p within exchanges x at apart =
    let d = exchanges.dialog p x within at (λ e. apart (sym e)) in
    (none_new (between r p x bag) (λ k mode there. (d.asked k mode there).used.reached) (λ m there. of_dialog m there), none_deferred (finmap.get (s x).deferred p) (λ k is. (d.deferred k is).reached))
  where
    seq : ℕ
    seq = (s p).highest + 1

    -- a message of this dialog
    of_dialog : (m : Message) → Contains (between r p x bag) m → IsOf r p x m
    of_dialog m there = belongs_is r p x m (contained_passes (belongs r p x) bag m there)

    none_deferred : (o : Option ℕ) → ((k : ℕ) → o ≡ Some k → k ≤ (s p).highest) → deferred_with seq o ≡ 0
    none_deferred None low = refl
    none_deferred (Some k) low = ap one_if (ne_eqb k seq (λ e. omega (arith, e, low k refl)))

    later : (x : Message) (ms : List Message) (m : Message) → Contains ms m → Contains (x ∷ ms) m
    later x ms m at = (suc at.0, omega (arith, at.1), at.2)

    -- by the messages one after the other: each REQUEST is of p to x about r, so its number was met
    none_new : (ms : List Message) → ((k : ℕ) (mode : Mode) → Contains ms (Request p x r mode k) → k ≤ (s p).highest) → ((m : Message) → Contains ms m → IsOf r p x m) → asked_for seq ms ≡ 0
    none_new [] low of = refl
    none_new (Reply from to name k ∷ ms) low of = none_new ms (λ q mode at. low q mode (later (Reply from to name k) ms (Request p x r mode q) at)) (λ m at. of m (later (Reply from to name k) ms m at))
    none_new (Request from to name mode k ∷ ms) low of =
        let m = Request from to name mode k in
        let is = of m (0, omega arith, refl) in
        let met = low k mode (subst (Contains (m ∷ ms)) (λ z. Request (is.asker z) (is.answerer z) (is.name_is z) mode k) (0, omega arith, refl)) in
        ap (λ b. length (cond b (m ∷ filter (asks_with seq) ms) (filter (asks_with seq) ms))) (ne_eqb k seq (λ e. omega (arith, e, met)))
        ∙ none_new ms (λ q mode' at. low q mode' (later m ms (Request p x r mode' q) at)) (λ y at. of y (later m ms y at))

-- ---- A turn that sends nothing

module _ (n : ℕ) (r : List ℕ) (s s' : ℕ → State) (bag bag' sent sent' : List Message) (said : AllSaid n r s bag sent) where
  pub said_nothing : ((i : ℕ) → IsNode n i → (s i).highest ≤ (s' i).highest) → ((i j : ℕ) → IsNode n i → IsNode n j → finmap.get (s' j).deferred i ≡ finmap.get (s j).deferred i)
      → ((i j k : ℕ) → IsNode n i → IsNode n j → i ≢ j → asked_for k (between r i j bag') ≤ asked_for k (between r i j bag)) → ((i j : ℕ) → between r i j sent' ≡ between r i j sent) → AllSaid n r s' bag' sent'
  said_nothing more deferred under_way same i j at_i at_j apart =
      said_still r i j (s i) (s' i) (s j) (s' j) (between r i j bag) (between r i j bag') (between r i j sent) (between r i j sent') (said i j at_i at_j apart)
      (more i at_i) (deferred i j at_i at_j) (λ k. under_way i j k at_i at_j apart) (same i j)

module _ (n : ℕ) (r : List ℕ) (s s' : ℕ → State) (bag sent : List Message) (said : AllSaid n r s bag sent) (p : ℕ) (within : IsNode n p) (there : (k : ℕ) → IsNode n k → k ≢ p → s' k ≡ s k) where
  -- ---- A request

  module _ (me_is : (s p).me ≡ p) (nodes_is : (s p).nodes ≡ n) (name_is : (s p).name ≡ r) (mode : Mode) (sends : List Message) (entered : Bool) (step : RequestStep (s p) mode sends entered (s' p)) (new : IsNew n r p s bag ((s p).highest + 1)) where
    abbrev seq : ℕ
    seq = (s p).highest + 1

    sends_are : sends ≡ map (λ o. Request p o r mode seq) (others_of p n)
    sends_are = step.sends_are ∙ (λ i. map (λ o. Request (me_is i) o (name_is i) mode seq) (others_of (me_is i) (nodes_is i)))

    raised : ((s' p).highest ≡ seq) × ((s' p).deferred ≡ (s p).deferred)
    raised = elim step.begins [
      | inl asks ↦ (ap (λ (t : State). t.highest) asks.new_is, ap (λ (t : State). t.deferred) asks.new_is)
      | inr alone ↦ (ap (λ (t : State). t.highest) alone.new_is, ap (λ (t : State). t.deferred) alone.new_is)
    ]

    -- other dialogs have no message of this
    apart_none : (i j : ℕ) (xs : List Message) → i ≢ p → between r i j (xs ++ sends) ≡ between r i j xs
    apart_none i j xs apart = none_between r i j xs sends (ap (between r i j) sends_are ∙ requests_of_others r r i j p n mode seq (λ e _. apart e))

    pub said_asking : AllSaid n r s' (bag ++ sends) (sent ++ sends)
    said_asking =
        said_after n r s s' (bag ++ sends) (sent ++ sends) p within there
        (λ x at apart.
        let one : between r p x sends ≡ Request p x r mode seq ∷ [] = ap (between r p x) sends_are ∙ requests_to_one r p x n mode seq at.0 at.1 apart in
        said_request r p x (s p) (s' p) (s x) (s x) (between r p x bag) (between r p x (bag ++ sends)) (between r p x sent) (between r p x (sent ++ sends)) (said p x within at (λ e. apart (sym e)))
        seq mode refl raised.0 refl (new x at apart).0 (new x at apart).1 (more_between r p x bag sends (Request p x r mode seq ∷ []) one) (more_between r p x sent sends (Request p x r mode seq ∷ []) one))
        (λ x at apart.
        said_still r x p (s x) (s x) (s p) (s' p) (between r x p bag) (between r x p (bag ++ sends)) (between r x p sent) (between r x p (sent ++ sends)) (said x p at within apart)
        (omega arith) (ap (λ (m : finmap.FinMap nat_cmp ℕ). finmap.get m x) raised.1) (λ k. omega (arith, ap (asked_for k) (apart_none x p bag apart))) (apart_none x p sent apart))
        (λ i j at_i at_j apart i_apart j_apart.
        said_still r i j (s i) (s i) (s j) (s j) (between r i j bag) (between r i j (bag ++ sends)) (between r i j sent) (between r i j (sent ++ sends)) (said i j at_i at_j apart)
        (omega arith) refl (λ k. omega (arith, ap (asked_for k) (apart_none i j bag i_apart))) (apart_none i j sent i_apart))

  -- ---- The end of a request

  module _ (me_is : (s p).me ≡ p) (name_is : (s p).name ≡ r) (met : (x k : ℕ) → IsNode n x → x ≢ p → finmap.get (s p).deferred x ≡ Some k → k ≤ (s x).highest) (sends : List Message) (step : EndStep (s p) sends (s' p)) where
    replies_are : sends ≡ map (λ e. Reply p e.0 r e.1) (finmap.entries (s p).deferred)
    replies_are = step.sends_are ∙ (λ i. map (λ e. Reply (me_is i) e.0 (name_is i) e.1) (finmap.entries (s p).deferred))

    none_deferred : (x : ℕ) → finmap.get (s' p).deferred x ≡ None
    none_deferred x = ap (λ (d : finmap.FinMap nat_cmp ℕ). finmap.get d x) step.none_deferred ∙ finmap.get-empty nat_cmp x

    same_highest : (s' p).highest ≡ (s p).highest
    same_highest = step.highest_is

    -- other dialogs have no message of this
    apart_silent : (i j : ℕ) (xs : List Message) → j ≢ p → between r i j (xs ++ sends) ≡ between r i j xs
    apart_silent i j xs apart = none_between r i j xs sends (ap (between r i j) replies_are ∙ replies_of_others r r i j p (finmap.entries (s p).deferred) (λ e _. apart e))

    answers : (x : ℕ) → IsNode n x → x ≢ p → (o : Option ℕ) → finmap.get (s p).deferred x ≡ o → Said r x p (s x) (s' p) (between r x p (bag ++ sends)) (between r x p (sent ++ sends))
    answers x at apart None none =
        let nothing : between r x p sends ≡ [] = ap (between r x p) replies_are ∙ replies_to_one r p x (s p).deferred ∙ ap (reply_for r p x) none in
        said_still r x p (s x) (s x) (s p) (s' p) (between r x p bag) (between r x p (bag ++ sends)) (between r x p sent) (between r x p (sent ++ sends)) (said x p at within apart)
        (omega arith) (none_deferred x ∙ sym none) (λ k. omega (arith, ap (asked_for k) (none_between r x p bag sends nothing))) (none_between r x p sent sends nothing)
    answers x at apart (Some k) some =
        let one : between r x p sends ≡ Reply p x r k ∷ [] = ap (between r x p) replies_are ∙ replies_to_one r p x (s p).deferred ∙ ap (reply_for r p x) some in
        let old = said x p at within apart in
        said_reply r x p (s x) (s x) (s p) (s' p) (between r x p bag) (between r x p (bag ++ sends)) (between r x p sent) (between r x p (sent ++ sends)) old
        k (met x k at apart some) (omega arith) (more_between r x p sent sends (Reply p x r k ∷ []) one)
        (λ q. omega (
          arith,
          ap (asked_for q) (more_between r x p bag sends (Reply p x r k ∷ []) one) ∙ one_more (asks_with q) (between r x p bag) (Reply p x r k),
          ap (deferred_with q) (none_deferred x),
          ap (deferred_with q) some,
        ))

    pub said_ending : AllSaid n r s' (bag ++ sends) (sent ++ sends)
    said_ending =
        said_after n r s s' (bag ++ sends) (sent ++ sends) p within there
        (λ x at apart.
        said_still r p x (s p) (s' p) (s x) (s x) (between r p x bag) (between r p x (bag ++ sends)) (between r p x sent) (between r p x (sent ++ sends)) (said p x within at (λ e. apart (sym e)))
        (omega (arith, same_highest)) refl (λ k. omega (arith, ap (asked_for k) (apart_silent p x bag apart))) (apart_silent p x sent apart))
        (λ x at apart. answers x at apart (finmap.get (s p).deferred x) refl)
        (λ i j at_i at_j apart i_apart j_apart.
        said_still r i j (s i) (s i) (s j) (s j) (between r i j bag) (between r i j (bag ++ sends)) (between r i j sent) (between r i j (sent ++ sends)) (said i j at_i at_j apart)
        (omega arith) refl (λ k. omega (arith, ap (asked_for k) (apart_silent i j bag j_apart))) (apart_silent i j sent j_apart))

  -- ---- A message comes

  module _ {Lossy : Type 0} (start : ℕ) (exchanges : Exchanges Lossy start n r s bag) (rest sends : List Message) where
    abbrev held : IsPlaced n r p (s p)
    held = exchanges.each p within

    module _ (x : ℕ) (x_at : IsNode n x) (x_apart : x ≢ p) (seq : ℕ) (mode : Mode) (takes : TakesFirst bag (Request x p r mode seq) rest)
        (step : Defers (s p) x seq mode sends (s' p) ⊎ RepliesAtOnce (s p) x seq mode sends (s' p)) where
      here : TakesFirst (between r x p bag) (Request x p r mode seq) (between r x p rest)
      here = filter_taken (belongs r x p) bag (Request x p r mode seq) rest (belongs_at r x p (Request x p r mode seq) (record { asker = refl; answerer = refl; name_is = refl })) takes

      -- the asker has met the number
      met_by_asker : seq ≤ (s x).highest
      met_by_asker = ((exchanges.dialog x p x_at within x_apart).asked seq mode (was_first (between r x p bag) (Request x p r mode seq) (between r x p rest) here)).used.reached

      not_sent : (i j : ℕ) → (i ≡ x → j ≡ p → ⊥) → between r i j sends ≡ []
      not_sent i j apart = elim step [
        | inl defers ↦ ap (between r i j) defers.sends_are
        | inr replies ↦ ap (between r i j) replies.sends_are ∙ between_none r i j (Reply (s p).me x (s p).name seq ∷ [])
            (All-cons (λ m. IsOf r i j m → ⊥) (Reply (s p).me x (s p).name seq) [] (λ is. apart (sym is.asker) (sym is.answerer ∙ held.me_is)) (All-nil (λ m. IsOf r i j m → ⊥)))
      ]

      higher : (s p).highest ≤ (s' p).highest
      higher = elim step [ inl d ↦ omega (arith, ap (λ (t : State). t.highest) d.new_is) | inr a ↦ omega (arith, ap (λ (t : State). t.highest) a.new_is) ]

      deferred_as_before : (y : ℕ) → y ≢ x → finmap.get (s' p).deferred y ≡ finmap.get (s p).deferred y
      deferred_as_before y apart = elim step [
        | inl d ↦ ap (λ (t : State). finmap.get t.deferred y) d.new_is
            ∙ finmap.get-insert nat_cmp_total (s p).deferred x (later_of (finmap.get (s p).deferred x) seq) y
            ∙ ap (λ b. cond b (Some (later_of (finmap.get (s p).deferred x) seq)) (finmap.get (s p).deferred y)) (untied y x apart)
        | inr a ↦ ap (λ (t : State). finmap.get t.deferred y) a.new_is
      ]

      -- another dialog
      others_still : (i j : ℕ) → IsNode n i → IsNode n j → i ≢ j → (i ≡ x → j ≡ p → ⊥) → (si sj : State) → (s i).highest ≤ si.highest → finmap.get sj.deferred i ≡ finmap.get (s j).deferred i
          → Said r i j si sj (between r i j (rest ++ sends)) (between r i j (sent ++ sends))
      others_still i j at_i at_j apart other si sj more deferred =
          let none = not_sent i j other in
          let more_none = none_between r i j rest sends none in
          said_still r i j (s i) si (s j) sj (between r i j bag) (between r i j (rest ++ sends)) (between r i j sent) (between r i j (sent ++ sends)) (said i j at_i at_j apart) more deferred
          (λ k. omega (arith, ap (asked_for k) more_none, fewer_asked r i j bag (Request x p r mode seq) rest takes k))
          (none_between r i j sent sends none)

      -- the dialog of the REQUEST
      this_one : Said r x p (s x) (s' p) (between r x p (rest ++ sends)) (between r x p (sent ++ sends))
      this_one = elim step [
        | inl defers ↦
            let nothing = ap (between r x p) defers.sends_are in
            said_later r x p (s x) (s x) (s p) (s' p) (between r x p bag) (between r x p (rest ++ sends)) (between r x p sent) (between r x p (sent ++ sends)) (said x p x_at within x_apart)
            seq mode (omega arith) (subst (TakesFirst (between r x p bag) (Request x p r mode seq)) (sym (none_between r x p rest sends nothing)) here)
            (ap (λ (t : State). finmap.get t.deferred x) defers.new_is
            ∙ finmap.get-insert nat_cmp_total (s p).deferred x (later_of (finmap.get (s p).deferred x) seq) x
            ∙ ap (λ b. cond b (Some (later_of (finmap.get (s p).deferred x) seq)) (finmap.get (s p).deferred x)) (tied x x refl))
            (none_between r x p sent sends nothing)
        | inr replies ↦
            let reply = Reply p x r seq in
            let answer : between r x p sends ≡ reply ∷ [] =
            ap (between r x p) (replies.sends_are ∙ (λ i. Reply (held.me_is i) x (held.name_is i) seq ∷ []))
            ∙ ap (λ b. cond b (reply ∷ []) []) (belongs_at r x p reply (record { asker = refl; answerer = refl; name_is = refl }))
            in
            said_reply r x p (s x) (s x) (s p) (s' p) (between r x p bag) (between r x p (rest ++ sends)) (between r x p sent) (between r x p (sent ++ sends)) (said x p x_at within x_apart)
            seq met_by_asker (omega arith) (more_between r x p sent sends (reply ∷ []) answer)
            (λ k. omega (
              arith,
              ap (asked_for k) (more_between r x p rest sends (reply ∷ []) answer) ∙ one_more (asks_with k) (between r x p rest) reply,
              one_less (asks_with k) (between r x p bag) (Request x p r mode seq) (between r x p rest) here,
              ap (deferred_with k) (ap (λ (t : State). finmap.get t.deferred x) replies.new_is),
            ))
      ]

      pub said_on_request : AllSaid n r s' (rest ++ sends) (sent ++ sends)
      said_on_request =
          said_after n r s s' (rest ++ sends) (sent ++ sends) p within there
          (λ y at apart. others_still p y within at (λ e. apart (sym e)) (λ e _. x_apart (sym e)) (s' p) (s y) higher refl)
          (λ y at apart. elim (cases_same y x) [
            | inl same ↦ subst (λ (k : ℕ). Said r k p (s k) (s' p) (between r k p (rest ++ sends)) (between r k p (sent ++ sends))) (sym same) this_one
            | inr other ↦ others_still y p at within apart (λ e _. other e) (s y) (s' p) (omega arith) (deferred_as_before y other)
          ])
          (λ i j at_i at_j apart i_apart j_apart. others_still i j at_i at_j apart (λ _ e. j_apart e) (s i) (s j) (omega arith) refl)

    -- a REPLY: the node sends nothing, and its highest number and whom it defers stay
    module _ (x seq : ℕ) (entered : Bool) (m : Message) (takes : TakesFirst bag m rest) (nothing : sends ≡ []) (step : TakesReply (s p) x seq entered (s' p)) where
      stays : ((s' p).highest ≡ (s p).highest) × ((s' p).deferred ≡ (s p).deferred)
      stays = elim step [
        | inl stray ↦ (ap (λ (t : State). t.highest) stray.new_is, ap (λ (t : State). t.deferred) stray.new_is)
        | inr some ↦ elim some.1 [
          | inl enters ↦ (ap (λ (t : State). t.highest) enters.new_is, ap (λ (t : State). t.deferred) enters.new_is)
          | inr on ↦ (ap (λ (t : State). t.highest) on.new_is, ap (λ (t : State). t.deferred) on.new_is)
        ]
      ]

      node_stays : (i : ℕ) → IsNode n i → ((s' i).highest ≡ (s i).highest) × ((s' i).deferred ≡ (s i).deferred)
      node_stays i at = elim (cases_same i p) [
        | inl same ↦ subst (λ (k : ℕ). ((s' k).highest ≡ (s k).highest) × ((s' k).deferred ≡ (s k).deferred)) (sym same) stays
        | inr apart ↦ (ap (λ (t : State). t.highest) (there i at apart), ap (λ (t : State). t.deferred) (there i at apart))
      ]

      pub said_on_reply : AllSaid n r s' (rest ++ sends) (sent ++ sends)
      said_on_reply =
          said_nothing n r s s' bag (rest ++ sends) sent (sent ++ sends) said (λ i at. omega (arith, (node_stays i at).0)) (λ i j at_i at_j. ap (λ (d : finmap.FinMap nat_cmp ℕ). finmap.get d i) (node_stays j at_j).1)
          (λ i j k at_i at_j apart.
          let same : between r i j (rest ++ sends) ≡ between r i j rest = ap (λ (xs : List Message). between r i j (rest ++ xs)) nothing ∙ ap (between r i j) (append-nil rest) in
          omega (arith, ap (asked_for k) same, fewer_asked r i j bag m rest takes k))
          (λ i j. ap (λ (xs : List Message). between r i j (sent ++ xs)) nothing ∙ ap (between r i j) (append-nil sent))
