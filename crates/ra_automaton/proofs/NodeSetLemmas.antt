-- Words as sets of nodes.
use Rattle.std.proofs.Common.{◌≡◌, ◌≢◌, ◌⊎◌, ℕ, suc, suc-mul, ◌+◌, ◌-◌, ◌*◌, ◌/◌, ◌^◌, ◌<◌, ◌≤◌, Bool, true, false, not, ◌||◌, ◌&&◌, eqb, w64, refl, sym, ap, ◌∙◌, subst, arith, inl, inr, nat_eq}
use Rattle.std.specs.Prelude.{◌==◌}
use Rattle.std.specs.Int.{bit_at, bit_not}
use Rattle.std.specs.Int.RustNames.{bit_and, bit_or}
use Rattle.std.specs.List.{list_any}
use Rattle.std.specs.Ordering.{nat_cmp, eq_by_cmp}
use Rattle.std.specs.Cmp.{nat_cmp_total}
use Rattle.std.specs.FinSet as finset
use Rattle.std.specs.FinMap.{nat_cmp-IsAntisymmetric}
use Rattle.std.proofs.lemmas.Bool.{cases_lt}
use Rattle.std.proofs.lemmas.Bool.Decides.{nat_tests}
use Rattle.std.proofs.lemmas.Nat.{one_shl, pow-add, shr_high}
use Rattle.std.proofs.Math.Pow.{suc_ones, ones_lt}
use Rattle.std.proofs.lemmas.Nat.Bits.{bit_at-zero, bit_at-lt, bit_at_set_same, bit_at_set_other, bit_at_clear_same, bit_at_clear_other, bit_at_ones, bit_at_ones_above, same_from_bits_below}
use Rattle.ra_automaton.specs.NodeSet.{bits_of_a_word, has_bit, nodes_of, set_of}
use Rattle.ra_automaton.specs.Steps.{others_of}
use Rattle.ra_automaton.proofs.Apart.{tied, untied, cases_same}
use Rattle.ra_automaton.proofs.Ranges.{any_inside, any_outside}

-- a node of a word is 1 to 64
width : bits_of_a_word ≡ 64
unfolding bits_of_a_word
width = refl

cases_node : (q : ℕ) → ((q < 1) ⊎ (1 + bits_of_a_word ≤ q)) ⊎ ((1 ≤ q) × (q < 1 + bits_of_a_word))
cases_node q =
    elim (cases_lt q 1) [
      | inl zeroth ↦ inl (inl zeroth)
      | inr low ↦ elim (cases_lt q (1 + bits_of_a_word)) [
        | inl high ↦ inr (low, high)
        | inr past ↦ inl (inr past)
      ]
    ]

-- ---- One bit of a word that is changed.

bit_put : (word k : ℕ) → k < 64 → bit_at (bit_or word (2 ^ k)) k ≡ 1
bit_put word k h = subst (λ (bit : ℕ). bit_at (bit_or word bit) k ≡ 1) (one_shl k 64 h) (bit_at_set_same w64 word k h)

bit_put_other : (word k i : ℕ) → k < 64 → i ≢ k → bit_at (bit_or word (2 ^ k)) i ≡ bit_at word i
bit_put_other word k i h apart = subst (λ (bit : ℕ). bit_at (bit_or word bit) i ≡ bit_at word i) (one_shl k 64 h) (bit_at_set_other w64 word k h i apart)

bit_taken : (word k : ℕ) → k < 64 → bit_at (bit_and word (bit_not w64 (2 ^ k))) k ≡ 0
bit_taken word k h = subst (λ (bit : ℕ). bit_at (bit_and word (bit_not w64 bit)) k ≡ 0) (one_shl k 64 h) (bit_at_clear_same w64 word k h)

bit_taken_other : (word k i : ℕ) → k < 64 → i < 64 → i ≢ k → bit_at (bit_and word (bit_not w64 (2 ^ k))) i ≡ bit_at word i
bit_taken_other word k i h within apart = subst (λ (bit : ℕ). bit_at (bit_and word (bit_not w64 bit)) i ≡ bit_at word i) (one_shl k 64 h) (bit_at_clear_other w64 word k h i within apart)

-- ---- Sets.

contains_inside : (word q : ℕ) → 1 ≤ q → q < 1 + bits_of_a_word → finset.contains (set_of word) q ≡ has_bit word q
contains_inside word q low high = finset.contains-from_list_nat (nodes_of word) q ∙ any_inside (has_bit word) 1 bits_of_a_word q low high

contains_outside : (word q : ℕ) → (q < 1) ⊎ (1 + bits_of_a_word ≤ q) → finset.contains (set_of word) q ≡ false
contains_outside word q out = finset.contains-from_list_nat (nodes_of word) q ∙ any_outside (has_bit word) 1 bits_of_a_word q out

pub contains-set_of : (word node : ℕ) → 1 ≤ node → node ≤ 64 → finset.contains (set_of word) node ≡ has_bit word node
contains-set_of word node low high = contains_inside word node low (omega (arith, width))

same_set : (word : ℕ) (nodes : finset.FinSet nat_cmp)
    → ((q : ℕ) → 1 ≤ q → q < 1 + bits_of_a_word → has_bit word q ≡ finset.contains nodes q)
    → ((q : ℕ) → (q < 1) ⊎ (1 + bits_of_a_word ≤ q) → false ≡ finset.contains nodes q)
    → set_of word ≡ nodes
same_set word nodes inside outside =
    finset.same_set nat_cmp_total nat_cmp-IsAntisymmetric _ _ (λ q. elim (cases_node q) [
      | inl out ↦ contains_outside word q out ∙ outside q out
      | inr within ↦ contains_inside word q within.0 within.1 ∙ inside q within.0 within.1
    ])

and-false : (b : Bool) → false ≡ (b && false)
and-false true = refl
and-false false = refl

pub set_of-zero : set_of 0 ≡ finset.empty
set_of-zero =
    same_set 0 finset.empty
    (λ q low high. ap (λ (bit : ℕ). eqb bit 1) (bit_at-zero (q - 1)) ∙ sym (finset.contains-empty nat_cmp q))
    (λ q out. sym (finset.contains-empty nat_cmp q))

pub set_of-insert : (word node : ℕ) → 1 ≤ node → node ≤ 64 → set_of (bit_or word (2 ^ (node - 1))) ≡ finset.insert (set_of word) node
set_of-insert word node low high =
    same_set (bit_or word (2 ^ (node - 1))) (finset.insert (set_of word) node)
    (λ q from to.
    elim (cases_same q node) [
      | inl same ↦
          subst (λ (k : ℕ). has_bit (bit_or word (2 ^ (node - 1))) k ≡ true) (sym same) (ap (λ (bit : ℕ). eqb bit 1) (bit_put word (node - 1) (omega arith)))
          ∙ sym (finset.contains-insert nat_cmp_total (set_of word) node q ∙ ap (λ b. b || finset.contains (set_of word) q) (tied q node same))
      | inr apart ↦
          ap (λ (bit : ℕ). eqb bit 1) (bit_put_other word (node - 1) (q - 1) (omega arith) (omega arith))
          ∙ sym (finset.contains-insert nat_cmp_total (set_of word) node q ∙ (ap (λ b. b || finset.contains (set_of word) q) (untied q node apart) ∙ contains_inside word q from to))
    ])
    (λ q out.
    let apart : q ≢ node = λ same. elim out [ inl before ↦ absurd (omega arith) | inr past ↦ absurd (omega (arith, width)) ] in
    sym (finset.contains-insert nat_cmp_total (set_of word) node q ∙ (ap (λ b. b || finset.contains (set_of word) q) (untied q node apart) ∙ contains_outside word q out)))

pub set_of-remove : (word node : ℕ) → 1 ≤ node → node ≤ 64 → set_of (bit_and word (bit_not w64 (2 ^ (node - 1)))) ≡ finset.remove (set_of word) node
set_of-remove word node low high =
    same_set (bit_and word (bit_not w64 (2 ^ (node - 1)))) (finset.remove (set_of word) node)
    (λ q from to.
    elim (cases_same q node) [
      | inl same ↦
          subst (λ (k : ℕ). has_bit (bit_and word (bit_not w64 (2 ^ (node - 1)))) k ≡ false) (sym same) (ap (λ (bit : ℕ). eqb bit 1) (bit_taken word (node - 1) (omega arith)))
          ∙ sym (finset.contains-remove nat_cmp_total (set_of word) node q ∙ ap (λ b. not b && finset.contains (set_of word) q) (tied q node same))
      | inr apart ↦
          ap (λ (bit : ℕ). eqb bit 1) (bit_taken_other word (node - 1) (q - 1) (omega arith) (omega (arith, width)) (omega arith))
          ∙ sym (finset.contains-remove nat_cmp_total (set_of word) node q ∙ (ap (λ b. not b && finset.contains (set_of word) q) (untied q node apart) ∙ contains_inside word q from to))
    ])
    (λ q out.
    and-false (not (eq_by_cmp nat_cmp q node))
    ∙ sym (finset.contains-remove nat_cmp_total (set_of word) node q ∙ ap (λ b. not (eq_by_cmp nat_cmp q node) && b) (contains_outside word q out)))

-- a word with no node is 0
pub zero_from_empty : (word : ℕ) → word < 2 ^ 64 → set_of word ≡ finset.empty → word ≡ 0
zero_from_empty word fits none =
    same_from_bits_below 64 word 0 fits (omega arith) (λ i h.
    no_bit (bit_at word i) (bit_at-lt word i) (
    let place : (i + 1) - 1 ≡ i = omega arith in
    ap (λ (k : ℕ). eqb (bit_at word k) 1) (sym place)
    ∙ (sym (contains_inside word (i + 1) (omega arith) (omega (arith, width)))
    ∙ (ap (λ (s : finset.FinSet nat_cmp). finset.contains s (i + 1)) none ∙ finset.contains-empty nat_cmp (i + 1))))
    ∙ sym (bit_at-zero i))
  where
    no_bit : (bit : ℕ) → bit < 2 → eqb bit 1 ≡ false → bit ≡ 0
    no_bit bit h e = grind (arith, nat_tests)

-- ---- The word of the nodes from 1 to n.

one_less : (a b c : ℕ) → b ≡ suc c → suc a * b - 1 ≡ a * b + c
one_less a b c is = grind (arith, suc-mul)

-- a word in which all bits are set, shifted down, has as many bits set as are left
pub shr_ones : (n m : ℕ) → (2 ^ (n + m) - 1) / 2 ^ m ≡ 2 ^ n - 1
shr_ones n m =
    ap (λ (power : ℕ). (power - 1) / 2 ^ m) (pow-add 2 n m ∙ ap (λ (power : ℕ). power * 2 ^ m) (sym (suc_ones n)))
    ∙ ap (λ (word : ℕ). word / 2 ^ m) (one_less (2 ^ n - 1) (2 ^ m) (2 ^ m - 1) (sym (suc_ones m)))
    ∙ shr_high (2 ^ n - 1) m (2 ^ m - 1) (ones_lt m)

ones_inside : (n q : ℕ) → n ≤ 64 → 1 ≤ q → q < 1 + n → finset.contains (set_of (2 ^ n - 1)) q ≡ true
ones_inside n q few low high =
    contains_inside (2 ^ n - 1) q low (omega (arith, width)) ∙ ap (λ (bit : ℕ). eqb bit 1) (bit_at_ones n (q - 1) (omega arith))

ones_outside : (n q : ℕ) → (q < 1) ⊎ (1 + n ≤ q) → finset.contains (set_of (2 ^ n - 1)) q ≡ false
ones_outside n q out =
    elim (cases_node q) [
      | inl far ↦ contains_outside (2 ^ n - 1) q far
      | inr within ↦
          let past : n ≤ q - 1 = elim out [ inl before ↦ absurd (omega (arith, within.0)) | inr past ↦ omega arith ] in
          contains_inside (2 ^ n - 1) q within.0 within.1 ∙ ap (λ (bit : ℕ). eqb bit 1) (bit_at_ones_above n (q - 1) past)
    ]

not_same : (q me : ℕ) → (not (eq_by_cmp nat_cmp q me) && true) ≡ not (q == me)
not_same q me = grind (arith, nat_tests)

-- the nodes from 1 to n but one
pub set_of-all_but : (me n : ℕ) → n ≤ 64 → finset.remove (set_of (2 ^ n - 1)) me ≡ finset.from_list (others_of me n)
set_of-all_but me n few =
    finset.same_set nat_cmp_total nat_cmp-IsAntisymmetric _ _ (λ q.
    finset.contains-remove nat_cmp_total (set_of (2 ^ n - 1)) me q
    ∙ (is_other q ∙ sym (finset.contains-from_list_nat (others_of me n) q)))
  where
    inside : (q : ℕ) → 1 ≤ q → q < 1 + n → (not (eq_by_cmp nat_cmp q me) && finset.contains (set_of (2 ^ n - 1)) q) ≡ list_any (λ y. nat_eq y q) (others_of me n)
    inside q low high =
        ap (λ b. not (eq_by_cmp nat_cmp q me) && b) (ones_inside n q few low high)
        ∙ (not_same q me ∙ sym (any_inside (λ node. not (node == me)) 1 n q low high))

    outside : (q : ℕ) → (q < 1) ⊎ (1 + n ≤ q) → (not (eq_by_cmp nat_cmp q me) && finset.contains (set_of (2 ^ n - 1)) q) ≡ list_any (λ y. nat_eq y q) (others_of me n)
    outside q out =
        ap (λ b. not (eq_by_cmp nat_cmp q me) && b) (ones_outside n q out)
        ∙ (sym (and-false (not (eq_by_cmp nat_cmp q me))) ∙ sym (any_outside (λ node. not (node == me)) 1 n q out))

    is_other : (q : ℕ) → (not (eq_by_cmp nat_cmp q me) && finset.contains (set_of (2 ^ n - 1)) q) ≡ list_any (λ y. nat_eq y q) (others_of me n)
    is_other q =
        elim (cases_lt q 1) [
          | inl zeroth ↦ outside q (inl zeroth)
          | inr low ↦ elim (cases_lt q (1 + n)) [ inl high ↦ inside q low high | inr past ↦ outside q (inr past) ]
        ]
