-- What was said in a dialog: its messages that were sent, under way or not any more, are different if none is repeated, also if requests
-- are withdrawn.
use Rattle.std.proofs.Common.{◌≡◌, ◌≢◌, ℕ, ◌+◌, ◌<◌, ◌≤◌, max, Bool, true, false, cond, nat_eq, List, [], ◌∷◌, ◌++◌, All, filter, length, Option, Some, None, refl, sym, ap, ◌∙◌, subst, arith, inl, inr}
use Rattle.std.specs.FinMap as finmap
use Rattle.std.proofs.lemmas.Bool.{false≢true, eq-eqb, ne_eqb, cases_lt}
use Rattle.std.proofs.lemmas.List.{length-append}
use Rattle.std.proofs.lemmas.List.Elements.{All-nil, All-cons, All-head, All-tail, All-push, All-weaker, filter-append}
use Rattle.ra_stamp.specs.declared.mode.Mode.{Mode}
use Rattle.ra_stamp.specs.declared.message.Message.{Message}
use Rattle.ra_stamp.specs.declared.message.Message.TheVariants.{Request, Reply}
use Rattle.ra_stamp.specs.Message.{seq_of}
use Rattle.ra_automaton.specs.State.{State}
use Rattle.ra_automaton.specs.Steps.{later_of}
use Rattle.ra_automaton.proofs.Apart.{cases_same}
use Rattle.ra_bag.specs.Bag.{TakesFirst}
use Rattle.ra_world.proofs.Dialogs.{between}
use Rattle.ra_world.proofs.Protocol.{IsNode}
use Rattle.ra_world.proofs.DifferentLists.{AreDifferent, one_more_different}

not_a_request : {from to from' to' seq seq' : ℕ} {name name' : List ℕ} {mode : Mode} → Reply from to name seq ≡ Request from' to' name' mode seq' → ⊥
not_a_request e = cc

-- ---- How often a number is asked for, deferred and answered

abbrev pub asks_with : ℕ → Message → Bool
asks_with seq (Request from to name mode k) = nat_eq k seq
asks_with seq (Reply from to name k) = false

abbrev answers_with : ℕ → Message → Bool
answers_with seq (Request from to name mode k) = false
answers_with seq (Reply from to name k) = nat_eq k seq

-- how many of these messages are REQUESTs with this number
abbrev pub asked_for : ℕ → List Message → ℕ
asked_for seq ms = length (filter (asks_with seq) ms)

-- how many of these messages are REPLYs to this number
abbrev pub answered_for : ℕ → List Message → ℕ
answered_for seq ms = length (filter (answers_with seq) ms)

abbrev pub one_if : Bool → ℕ
one_if true = 1
one_if false = 0

-- 1 if this number is deferred, and otherwise 0
abbrev pub deferred_with : ℕ → Option ℕ → ℕ
deferred_with seq None = 0
deferred_with seq (Some k) = one_if (nat_eq k seq)

pub one_more : (t : Message → Bool) (ms : List Message) (m : Message) → length (filter t (ms ++ m ∷ [])) ≡ length (filter t ms) + one_if (t m)
one_more t ms m = ap length (filter-append t ms (m ∷ [])) ∙ length-append (filter t ms) (filter t (m ∷ [])) ∙ ap (λ k. length (filter t ms) + k) (one_of (t m))
  where
    one_of : (b : Bool) → length (cond b (m ∷ []) []) ≡ one_if b
    one_of true = refl
    one_of false = refl

pub one_less : (t : Message → Bool) (ms : List Message) (m : Message) (rest : List Message) → TakesFirst ms m rest → length (filter t ms) ≡ length (filter t rest) + one_if (t m)
one_less t ms m rest takes =
    let was = ap (λ (xs : List Message). length (filter t xs)) takes.old_is ∙ ap length (filter-append t takes.prefix (m ∷ takes.suffix)) ∙ length-append (filter t takes.prefix) (filter t (m ∷ takes.suffix)) in
    let is = ap (λ (xs : List Message). length (filter t xs)) takes.new_is ∙ ap length (filter-append t takes.prefix takes.suffix) ∙ length-append (filter t takes.prefix) (filter t takes.suffix) in
    omega (arith, was, is, first (t m))
  where
    first : (b : Bool) → length (cond b (m ∷ filter t takes.suffix) (filter t takes.suffix)) ≡ length (filter t takes.suffix) + one_if b
    first true = omega arith
    first false = omega arith

-- no message of a kind is present if all numbers are lower
pub none_asked : (seq : ℕ) (ms : List Message) → All (λ m. seq_of m < seq) ms → asked_for seq ms ≡ 0
none_asked seq [] all = refl
none_asked seq (Request from to name mode k ∷ ms) all =
    ap (λ b. length (cond b (Request from to name mode k ∷ filter (asks_with seq) ms) (filter (asks_with seq) ms))) (ne_eqb k seq (λ e. omega (arith, e, All-head (λ m. seq_of m < seq) (Request from to name mode k) ms all)))
    ∙ none_asked seq ms (All-tail (λ m. seq_of m < seq) (Request from to name mode k) ms all)
none_asked seq (Reply from to name k ∷ ms) all = none_asked seq ms (All-tail (λ m. seq_of m < seq) (Reply from to name k) ms all)

none_answered : (seq : ℕ) (ms : List Message) → All (λ m. seq_of m < seq) ms → answered_for seq ms ≡ 0
none_answered seq [] all = refl
none_answered seq (Reply from to name k ∷ ms) all =
    ap (λ b. length (cond b (Reply from to name k ∷ filter (answers_with seq) ms) (filter (answers_with seq) ms))) (ne_eqb k seq (λ e. omega (arith, e, All-head (λ m. seq_of m < seq) (Reply from to name k) ms all)))
    ∙ none_answered seq ms (All-tail (λ m. seq_of m < seq) (Reply from to name k) ms all)
none_answered seq (Request from to name mode k ∷ ms) all = none_answered seq ms (All-tail (λ m. seq_of m < seq) (Request from to name mode k) ms all)

-- a REPLY that was not counted was not sent
not_among : (r : List ℕ) (i j seq : ℕ) (ms : List Message) → answered_for seq ms ≡ 0 → All (λ m. m ≢ Reply j i r seq) ms
not_among r i j seq [] none = All-nil (λ m. m ≢ Reply j i r seq)
not_among r i j seq (Request from to name mode k ∷ ms) none =
    All-cons (λ m. m ≢ Reply j i r seq) (Request from to name mode k) ms (λ e. not_a_request (sym e)) (not_among r i j seq ms none)
not_among r i j seq (Reply from to name k ∷ ms) none = of_test (nat_eq k seq) refl (λ none'. not_among r i j seq ms none')
  where
    of_test : (b : Bool) → nat_eq k seq ≡ b → (answered_for seq ms ≡ 0 → All (λ m. m ≢ Reply j i r seq) ms) → All (λ m. m ≢ Reply j i r seq) (Reply from to name k ∷ ms)
    of_test true e rest = absurd (omega (arith, none, ap (λ b. length (cond b (Reply from to name k ∷ filter (answers_with seq) ms) (filter (answers_with seq) ms))) e))
    of_test false e rest =
        All-cons (λ m. m ≢ Reply j i r seq) (Reply from to name k) ms (λ same. false≢true (sym e ∙ eq-eqb k seq (ap seq_of same)))
        (rest (sym (ap (λ b. length (cond b (Reply from to name k ∷ filter (answers_with seq) ms) (filter (answers_with seq) ms))) e) ∙ none))

-- ---- What was said

-- What was said when i asks and j answers, and which part of it is under way. The asker has met all the numbers. For
-- each number, the REQUESTs that are under way, a deferral and the REPLYs that were sent are one at most, if no message
-- is repeated.
pub record Said (r : List ℕ) (i j : ℕ) (si sj : State) (ms hs : List Message) : Type 0 where
  pub different : AreDifferent hs
  pub met : All (λ m. seq_of m ≤ si.highest) hs
  pub once : (seq : ℕ) → asked_for seq ms + deferred_with seq (finmap.get sj.deferred i) + answered_for seq hs ≤ 1

module _ (r : List ℕ) (i j : ℕ) (si si' sj sj' : State) (ms ms' hs hs' : List Message) (old : Said r i j si sj ms hs) where
  met_still : si.highest ≤ si'.highest → All (λ m. seq_of m ≤ si'.highest) hs
  met_still more = All-weaker (λ m. seq_of m ≤ si.highest) (λ m. seq_of m ≤ si'.highest) (λ m h. omega (arith, h, more)) hs old.met

  -- nothing more is said, and no REQUEST comes under way
  pub said_still : si.highest ≤ si'.highest → finmap.get sj'.deferred i ≡ finmap.get sj.deferred i → ((seq : ℕ) → asked_for seq ms' ≤ asked_for seq ms) → hs' ≡ hs → Said r i j si' sj' ms' hs'
  said_still more deferred fewer same =
      subst (λ (xs : List Message). Said r i j si' sj' ms' xs) (sym same) (record {
        different = old.different;
        met = met_still more;
        once = λ seq. omega (arith, old.once seq, fewer seq, ap (deferred_with seq) deferred);
      })

  -- a REQUEST with the next number, which is neither under way nor deferred yet
  pub said_request : (seq : ℕ) (mode : Mode) → seq ≡ si.highest + 1 → si'.highest ≡ seq → finmap.get sj'.deferred i ≡ finmap.get sj.deferred i → asked_for seq ms ≡ 0 → deferred_with seq (finmap.get sj.deferred i) ≡ 0
      → ms' ≡ ms ++ Request i j r mode seq ∷ [] → hs' ≡ hs ++ Request i j r mode seq ∷ [] → Said r i j si' sj' ms' hs'
  said_request seq mode next reached same new undeferred under_way more =
      let asks = Request i j r mode seq in
      let lower : All (λ m. seq_of m < seq) hs = All-weaker (λ m. seq_of m ≤ si.highest) (λ m. seq_of m < seq) (λ m h. omega (arith, h, next)) hs old.met in
      subst (λ (xs : List Message). Said r i j si' sj' ms' xs) (sym more) (record {
        different = one_more_different hs asks old.different (All-weaker (λ m. seq_of m < seq) (λ m. m ≢ asks) (λ m h e. omega (arith, h, ap seq_of e)) hs lower);
        met = All-push (λ m. seq_of m ≤ si'.highest) hs asks (All-weaker (λ m. seq_of m < seq) (λ m. seq_of m ≤ si'.highest) (λ m h. omega (arith, h, reached)) hs lower) (omega (arith, reached));
        once = λ k.
            let asked = ap (asked_for k) under_way ∙ one_more (asks_with k) ms asks in
            let answered = one_more (answers_with k) hs asks in
            let deferred = ap (deferred_with k) same in
            elim (cases_same seq k) [
              | inl is ↦
                  let now = subst (λ (q : ℕ). (asked_for q ms ≡ 0) × (deferred_with q (finmap.get sj.deferred i) ≡ 0) × (answered_for q hs ≡ 0)) is (new, undeferred, none_answered seq hs lower) in
                  omega (arith, asked, answered, deferred, now.0, now.1, now.2, at_most_one (nat_eq seq k))
              | inr apart ↦ omega (arith, asked, answered, deferred, old.once k, ap one_if (ne_eqb seq k apart))
            ];
      })
    where
      at_most_one : (b : Bool) → one_if b ≤ 1
      at_most_one true = omega arith
      at_most_one false = omega arith

  -- a REPLY, to a REQUEST that came or to a deferral that ends: of this number there is one less
  pub said_reply : (seq : ℕ) → seq ≤ si.highest → si.highest ≤ si'.highest → hs' ≡ hs ++ Reply j i r seq ∷ []
      → ((k : ℕ) → asked_for k ms' + deferred_with k (finmap.get sj'.deferred i) + one_if (nat_eq seq k) ≤ asked_for k ms + deferred_with k (finmap.get sj.deferred i)) → Said r i j si' sj' ms' hs'
  said_reply seq low more sent less =
      let answer = Reply j i r seq in
      let here : one_if (nat_eq seq seq) ≡ 1 = ap one_if (eq-eqb seq seq refl) in
      let none : answered_for seq hs ≡ 0 = omega (arith, old.once seq, less seq, here) in
      subst (λ (xs : List Message). Said r i j si' sj' ms' xs) (sym sent) (record {
        different = one_more_different hs answer old.different (not_among r i j seq hs none);
        met = All-push (λ m. seq_of m ≤ si'.highest) hs answer (met_still more) (omega (arith, low, more));
        once = λ k. omega (arith, old.once k, less k, one_more (answers_with k) hs answer);
      })

  -- a REQUEST that was under way is deferred, with the greater number if another one is
  pub said_later : (seq : ℕ) (mode : Mode) → si.highest ≤ si'.highest → TakesFirst ms (Request i j r mode seq) ms' → finmap.get sj'.deferred i ≡ Some (later_of (finmap.get sj.deferred i) seq) → hs' ≡ hs → Said r i j si' sj' ms' hs'
  said_later seq mode more takes now same =
      subst (λ (xs : List Message). Said r i j si' sj' ms' xs) (sym same) (record {
        different = old.different;
        met = met_still more;
        once = λ k. omega (arith, old.once k, one_less (asks_with k) ms (Request i j r mode seq) ms' takes, ap (deferred_with k) now, greater_counts k (finmap.get sj.deferred i));
      })
    where
      greater_counts : (k : ℕ) (o : Option ℕ) → deferred_with k (Some (later_of o seq)) ≤ deferred_with k o + one_if (nat_eq seq k)
      greater_counts k None = omega arith
      greater_counts k (Some q) = elim (cases_lt q seq) [
        | inl below ↦ let is : max q seq ≡ seq = omega (arith, below) in omega (arith, ap (λ (z : ℕ). one_if (nat_eq z k)) is)
        | inr above ↦ let is : max q seq ≡ q = omega (arith, above) in omega (arith, ap (λ (z : ℕ). one_if (nat_eq z k)) is)
      ]

-- ---- All nodes

-- of all dialogs about a name
abbrev pub AllSaid : ℕ → List ℕ → (ℕ → State) → List Message → List Message → Type 0
AllSaid n r s bag sent = (i j : ℕ) → IsNode n i → IsNode n j → i ≢ j → Said r i j (s i) (s j) (between r i j bag) (between r i j sent)

module _ (n : ℕ) (r : List ℕ) (s s' : ℕ → State) (bag' sent' : List Message) (p : ℕ) (within : IsNode n p) (there : (k : ℕ) → IsNode n k → k ≢ p → s' k ≡ s k) where
  -- after a turn of node p: its dialogs, and those of the others
  pub said_after : ((x : ℕ) → IsNode n x → x ≢ p → Said r p x (s' p) (s x) (between r p x bag') (between r p x sent'))
      → ((x : ℕ) → IsNode n x → x ≢ p → Said r x p (s x) (s' p) (between r x p bag') (between r x p sent'))
      → ((i j : ℕ) → IsNode n i → IsNode n j → i ≢ j → i ≢ p → j ≢ p → Said r i j (s i) (s j) (between r i j bag') (between r i j sent'))
      → AllSaid n r s' bag' sent'
  said_after mine theirs others i j at_i at_j apart = elim (cases_same i p) [
    | inl is_i ↦
        let j_apart : j ≢ p = λ e. apart (is_i ∙ sym e) in
        subst (λ (k : ℕ). Said r k j (s' k) (s' j) (between r k j bag') (between r k j sent')) (sym is_i)
        (subst (λ (x : State). Said r p j (s' p) x (between r p j bag') (between r p j sent')) (sym (there j at_j j_apart)) (mine j at_j j_apart))
    | inr i_apart ↦ elim (cases_same j p) [
      | inl is_j ↦
          subst (λ (k : ℕ). Said r i k (s' i) (s' k) (between r i k bag') (between r i k sent')) (sym is_j)
          (subst (λ (x : State). Said r i p x (s' p) (between r i p bag') (between r i p sent')) (sym (there i at_i i_apart)) (theirs i at_i i_apart))
      | inr j_apart ↦
          subst (λ (x : State). Said r i j x (s' j) (between r i j bag') (between r i j sent')) (sym (there i at_i i_apart))
          (subst (λ (x : State). Said r i j (s i) x (between r i j bag') (between r i j sent')) (sym (there j at_j j_apart)) (others i j at_i at_j apart i_apart j_apart))
    ]
  ]
