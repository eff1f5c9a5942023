-- The dialog of two nodes about a name: the messages under way with which one asks and the other answers.
use Rattle.std.proofs.Common.{◌≡◌, ◌≢◌, ℕ, zero, suc, ◌+◌, ◌<◌, ◌≤◌, Bool, true, false, cond, not, ◌&&◌, T, List, [], ◌∷◌, All, filter, map, Option, Some, None, refl, sym, ap, ◌∙◌, subst, arith, nat_eq, inl, inr}
use Rattle.std.specs.Prelude.{◌==◌, bytes_eq}
use Rattle.std.specs.List.{range_with_len}
use Rattle.std.specs.Ordering.{nat_cmp, is_lt}
use Rattle.std.specs.FinMap as finmap
use Rattle.std.specs.FinMap.Entries.{find, is_sorted, below_all}
use Rattle.std.proofs.lemmas.List.Elements.{All-nil, All-cons, All-map, All-weaker}
use Rattle.std.proofs.lemmas.Bool.Decides.{nat_tests}
use Rattle.std.proofs.lemmas.Slice.Eq.{bytes_eq-Decides}
use Rattle.std.proofs.lemmas.Bool.{and_parts, eq-eqb, eqb-true, false_from_ne_true}
use Rattle.ra_stamp.specs.declared.mode.Mode.{Mode}
use Rattle.ra_stamp.specs.declared.message.Message.{Message}
use Rattle.ra_stamp.specs.declared.message.Message.TheVariants.{Request, Reply}
use Rattle.ra_stamp.specs.Message.{name_of}
use Rattle.ra_automaton.specs.Steps.{others_of}
use Rattle.ra_node.proofs.Lookups.{true_of}
use Rattle.ra_automaton.proofs.Apart.{cases_same, tied, untied}
use Rattle.ra_world.proofs.Lists.{filter_hit, filter_miss, filter_none}

-- ---- Whose dialog a message is of

-- which node asks in it, and which answers
abbrev pub asker_of : Message → ℕ
asker_of (Request from to name mode seq) = from
asker_of (Reply from to name seq) = to

abbrev pub answerer_of : Message → ℕ
answerer_of (Request from to name mode seq) = to
answerer_of (Reply from to name seq) = from

abbrev pub belongs : List ℕ → ℕ → ℕ → Message → Bool
belongs r i j m = nat_eq (asker_of m) i && (nat_eq (answerer_of m) j && bytes_eq (name_of m) r)

pub record IsOf (r : List ℕ) (i j : ℕ) (m : Message) : Type 0 where
  pub asker : asker_of m ≡ i
  pub answerer : answerer_of m ≡ j
  pub name_is : name_of m ≡ r

pub belongs_is : (r : List ℕ) (i j : ℕ) (m : Message) → belongs r i j m ≡ true → IsOf r i j m
belongs_is r i j m e =
    let first = and_parts (nat_eq (asker_of m) i) (nat_eq (answerer_of m) j && bytes_eq (name_of m) r) e in
    let rest = and_parts (nat_eq (answerer_of m) j) (bytes_eq (name_of m) r) first.1 in
    record { asker = eqb-true (asker_of m) i first.0; answerer = eqb-true (answerer_of m) j rest.0; name_is = (bytes_eq-Decides (name_of m) r).0 rest.1 }

pub belongs_here : (m : Message) → belongs (name_of m) (asker_of m) (answerer_of m) m ≡ true
belongs_here m = rw (eq-eqb (asker_of m) (asker_of m) refl, eq-eqb (answerer_of m) (answerer_of m) refl, (bytes_eq-Decides (name_of m) (name_of m)).1 refl) refl

pub belongs_at : (r : List ℕ) (i j : ℕ) (m : Message) → IsOf r i j m → belongs r i j m ≡ true
belongs_at r i j m is =
    subst (λ (x : List ℕ). belongs x i j m ≡ true) is.name_is
    (subst (λ (x : ℕ). belongs (name_of m) x j m ≡ true) is.asker (subst (λ (x : ℕ). belongs (name_of m) (asker_of m) x m ≡ true) is.answerer (belongs_here m)))

pub belongs_not : (r : List ℕ) (i j : ℕ) (m : Message) → (IsOf r i j m → ⊥) → belongs r i j m ≡ false
belongs_not r i j m h = false_from_ne_true (belongs r i j m) (λ e. h (belongs_is r i j m e))

-- the messages under way of a dialog
abbrev pub between : List ℕ → ℕ → ℕ → List Message → List Message
between r i j bag = filter (belongs r i j) bag

pub between_none : (r : List ℕ) (i j : ℕ) (ms : List Message) → All (λ m. IsOf r i j m → ⊥) ms → between r i j ms ≡ []
between_none r i j ms all = filter_none (belongs r i j) ms (All-weaker (λ m. IsOf r i j m → ⊥) (λ m. belongs r i j m ≡ false) (λ m h. belongs_not r i j m h) ms all)

-- ---- The REQUESTs of a node: one to each other node

beyond : (t : Message → Bool) (q : ℕ → Bool) (f : ℕ → Message) (first n j : ℕ) → j < first → ((o : ℕ) → o ≢ j → t (f o) ≡ false) → filter t (map f (filter q (range_with_len first n))) ≡ []
beyond t q f first zero j low other = refl
beyond t q f first (suc n) j low other =
    let rest = beyond t q f (first + 1) n j (omega (arith, low)) other in
    elim (q first) as (λ b. filter t (map f (cond b (first ∷ filter q (range_with_len (first + 1) n)) (filter q (range_with_len (first + 1) n)))) ≡ []) [
      | true ↦ filter_miss t (f first) (map f (filter q (range_with_len (first + 1) n))) (other first (λ e. absurd (omega (arith, e, low)))) ∙ rest
      | false ↦ rest
    ]

one_of : (t : Message → Bool) (q : ℕ → Bool) (f : ℕ → Message) (first n j : ℕ) → first ≤ j → j < first + n → q j ≡ true → t (f j) ≡ true → ((o : ℕ) → o ≢ j → t (f o) ≡ false)
    → filter t (map f (filter q (range_with_len first n))) ≡ f j ∷ []
one_of t q f first zero j low high passes here other = absurd (omega (arith, low, high))
one_of t q f first (suc n) j low high passes here other =
    elim (cases_same first j) [
      | inl same ↦
          let head : q first ≡ true = ap q same ∙ passes in
          let hit : t (f first) ≡ true = ap (λ (x : ℕ). t (f x)) same ∙ here in
          ap (λ b. filter t (map f (cond b (first ∷ filter q (range_with_len (first + 1) n)) (filter q (range_with_len (first + 1) n))))) head
          ∙ filter_hit t (f first) (map f (filter q (range_with_len (first + 1) n))) hit
          ∙ ap (λ (ms : List Message). f first ∷ ms) (beyond t q f (first + 1) n j (omega (arith, same)) other)
          ∙ ap (λ (x : ℕ). f x ∷ []) same
      | inr apart ↦
          let rest = one_of t q f (first + 1) n j (omega (arith, low, apart)) (omega (arith, high)) passes here other in
          elim (q first) as (λ b. filter t (map f (cond b (first ∷ filter q (range_with_len (first + 1) n)) (filter q (range_with_len (first + 1) n)))) ≡ f j ∷ []) [
            | true ↦ filter_miss t (f first) (map f (filter q (range_with_len (first + 1) n))) (other first apart) ∙ rest
            | false ↦ rest
          ]
    ]

pub requests_to_one : (r : List ℕ) (p j n : ℕ) (mode : Mode) (seq : ℕ) → 1 ≤ j → j ≤ n → j ≢ p
    → between r p j (map (λ o. Request p o r mode seq) (others_of p n)) ≡ Request p j r mode seq ∷ []
requests_to_one r p j n mode seq low high apart =
    one_of (belongs r p j) (λ node. not (node == p)) (λ o. Request p o r mode seq) 1 n j low (omega (arith, high)) (passes j p apart) (belongs_here (Request p j r mode seq))
    (λ o other. belongs_not r p j (Request p o r mode seq) (λ is. other is.answerer))
  where
    passes : (j p : ℕ) → j ≢ p → not (j == p) ≡ true
    passes j p apart = grind (arith, nat_tests)

-- none is of another's dialog
pub requests_of_others : (r r' : List ℕ) (i j p n : ℕ) (mode : Mode) (seq : ℕ) → (i ≡ p → r' ≡ r → ⊥) → between r' i j (map (λ o. Request p o r mode seq) (others_of p n)) ≡ []
requests_of_others r r' i j p n mode seq apart =
    between_none r' i j (map (λ o. Request p o r mode seq) (others_of p n))
    (All-map (λ m. IsOf r' i j m → ⊥) (λ o. Request p o r mode seq) (others_of p n) (λ k d lt is. apart (sym is.asker) (sym is.name_is)))

-- ---- The deferred REPLYs of a node: one to each deferred node

-- what goes to a node that is deferred with this number, or not
abbrev pub reply_for : List ℕ → ℕ → ℕ → Option ℕ → List Message
reply_for r p i None = []
reply_for r p i (Some number) = Reply p i r number ∷ []

above : (i : ℕ) (es : List (ℕ × ℕ)) → T (below_all nat_cmp i es) → All (λ e. e.0 ≢ i) es
above i [] t = All-nil (λ e. e.0 ≢ i)
above i (e ∷ es) t =
    let both = true_of (is_lt (nat_cmp i e.0)) (below_all nat_cmp i es) t in
    All-cons (λ x. x.0 ≢ i) e es (λ same. not_below i e.0 both.0 same) (above i es both.1)
  where
    not_below : (a b : ℕ) → T (is_lt (nat_cmp a b)) → b ≡ a → ⊥
    not_below a b lt same = grind (arith, nat_tests)

replies_found : (r : List ℕ) (p i : ℕ) (es : List (ℕ × ℕ)) → T (is_sorted nat_cmp es)
    → between r i p (map (λ e. Reply p e.0 r e.1) es) ≡ reply_for r p i (find nat_cmp i es)
replies_found r p i [] t = refl
replies_found r p i (e ∷ es) t =
    let both = true_of (below_all nat_cmp e.0 es) (is_sorted nat_cmp es) t in
    let rest = replies_found r p i es both.1 in
    elim (cases_same i e.0) [
      | inl same ↦
          filter_hit (belongs r i p) (Reply p e.0 r e.1) (map (λ x. Reply p x.0 r x.1) es) (belongs_at r i p (Reply p e.0 r e.1) (record { asker = sym same; answerer = refl; name_is = refl }))
          ∙ ap (λ (ms : List Message). Reply p e.0 r e.1 ∷ ms)
          (between_none r i p (map (λ x. Reply p x.0 r x.1) es)
          (All-map (λ m. IsOf r i p m → ⊥) (λ x. Reply p x.0 r x.1) es (λ k d lt is. above e.0 es both.0 k d lt (is.asker ∙ same))))
          ∙ ap (λ (x : ℕ). Reply p x r e.1 ∷ []) (sym same)
          ∙ sym (ap (λ b. reply_for r p i (cond b (Some e.1) (find nat_cmp i es))) (tied i e.0 same))
      | inr apart ↦
          filter_miss (belongs r i p) (Reply p e.0 r e.1) (map (λ x. Reply p x.0 r x.1) es) (belongs_not r i p (Reply p e.0 r e.1) (λ is. apart (sym is.asker)))
          ∙ rest ∙ sym (ap (λ b. reply_for r p i (cond b (Some e.1) (find nat_cmp i es))) (untied i e.0 apart))
    ]

pub replies_to_one : (r : List ℕ) (p i : ℕ) (deferred : finmap.FinMap nat_cmp ℕ) → between r i p (map (λ e. Reply p e.0 r e.1) (finmap.entries deferred)) ≡ reply_for r p i (finmap.get deferred i)
replies_to_one r p i deferred = replies_found r p i (finmap.entries deferred) (finmap.entries_sorted deferred) ∙ ap (reply_for r p i) (sym (finmap.get-entries deferred i))

pub replies_of_others : (r r' : List ℕ) (i j p : ℕ) (es : List (ℕ × ℕ)) → (j ≡ p → r' ≡ r → ⊥) → between r' i j (map (λ e. Reply p e.0 r e.1) es) ≡ []
replies_of_others r r' i j p es apart =
    between_none r' i j (map (λ e. Reply p e.0 r e.1) es)
    (All-map (λ m. IsOf r' i j m → ⊥) (λ e. Reply p e.0 r e.1) es (λ k d lt is. apart (sym is.answerer) (sym is.name_is)))
