-- What holds of the lines of a text: of two texts one after the other, and of the front of a text.
use Rattle.std.proofs.Common.{◌≡◌, ◌⊎◌, ◌≤◌, ◌<◌, ◌==◌, ◌-◌, inl, inr, ℕ, zero, suc, List, [], ◌∷◌, ◌++◌, Bool, true, false, length, take, refl, sym, ◌∙◌, ap, arith, append_assoc, length-append, slice_index_or, rules}
use Rattle.std.proofs.lemmas.Bool.{eqb-true}
use Rattle.std.proofs.lemmas.List.{append-nil, take_at, take_more, length-take}
use Rattle.std.specs.List.{concat, AllByRecursion}
use Rattle.ra_disk.specs.Lines.{puts, lines, whole, IsWhole, IsPrefixOf, AreAmong}

tail_of : {X : Type 0} {x y : X} {xs ys : List X} → x ∷ xs ≡ y ∷ ys → xs ≡ ys
tail_of e = cc

not_nil : {x : ℕ} {xs : List ℕ} → [] ≡ x ∷ xs → ⊥
not_nil e = cc

-- ---- The front of a text

puts_more : (t : Bool) (byte : ℕ) (ls rest : List (List ℕ)) → (more : List (List ℕ)) × (puts t byte (ls ++ rest) ≡ puts t byte ls ++ more)
puts_more true byte ls rest = (rest, refl)
puts_more false byte [] rest = (puts false byte rest, refl)
puts_more false byte (l ∷ ls) rest = (rest, refl)

-- its lines are the first ones
pub lines_of_front : (n : ℕ) (text : List ℕ) → (more : List (List ℕ)) × (lines text ≡ lines (take n text) ++ more)
lines_of_front zero text = (lines text, refl)
lines_of_front (suc n) [] = ([], refl)
lines_of_front (suc n) (byte ∷ text) =
    let ih = lines_of_front n text in
    let put = puts_more (byte == 10) byte (lines (take n text)) ih.0 in
    (put.0, ap (puts (byte == 10) byte) ih.1 ∙ put.1)

-- ---- The whole lines of a text

puts_again : (t : Bool) (byte : ℕ) (ls : List (List ℕ)) → (byte == 10) ≡ t → lines (concat ls) ≡ ls → lines (concat (puts t byte ls)) ≡ puts t byte ls
puts_again true byte ls is e = ap (λ (s : Bool). puts s byte (lines (concat ls))) is ∙ ap (puts true byte) e
puts_again false byte [] is e = refl
puts_again false byte (l ∷ ls) is e = ap (λ (s : Bool). puts s byte (lines (concat (l ∷ ls)))) is ∙ ap (puts false byte) e

-- they are lines of their own
pub lines_of_whole : (text : List ℕ) → lines (whole text) ≡ lines text
lines_of_whole [] = refl
lines_of_whole (byte ∷ text) = puts_again (byte == 10) byte (lines text) refl (lines_of_whole text)

pub whole_is_whole : (text : List ℕ) → IsWhole (whole text)
whole_is_whole text = ap concat (lines_of_whole text)

puts_front : (t : Bool) (byte : ℕ) (ls : List (List ℕ)) (text rest : List ℕ) → concat ls ++ rest ≡ text → IsPrefixOf (concat (puts t byte ls)) (byte ∷ text)
puts_front true byte ls text rest e = (rest, ap (λ (xs : List ℕ). byte ∷ xs) e)
puts_front false byte [] text rest e = (byte ∷ text, refl)
puts_front false byte (l ∷ ls) text rest e = (rest, ap (λ (xs : List ℕ). byte ∷ xs) e)

pub whole_is_front : (text : List ℕ) → IsPrefixOf (whole text) text
whole_is_front [] = ([], refl)
whole_is_front (byte ∷ text) =
    let ih = whole_is_front text in
    puts_front (byte == 10) byte (lines text) text ih.0 ih.1

pub take_whole : (text : List ℕ) → take (length (whole text)) text ≡ whole text
take_whole text =
    let front = whole_is_front text in
    ap (take (length (whole text))) (sym front.1) ∙ take_at (whole text) front.0 (length (whole text)) refl

pub length-whole : (text : List ℕ) → length (whole text) ≤ length text
length-whole text =
    let front = whole_is_front text in
    omega (arith, ap length front.1, length-append (whole text) front.0)

-- ---- Two texts, the first of whole lines

puts_apart : (t : Bool) (byte : ℕ) (ls more : List (List ℕ)) (text : List ℕ) → concat (puts t byte ls) ≡ byte ∷ text → (concat ls ≡ text) × (puts t byte (ls ++ more) ≡ puts t byte ls ++ more)
puts_apart true byte ls more text e = (tail_of e, refl)
puts_apart false byte [] more text e = absurd (not_nil e)
puts_apart false byte (l ∷ ls) more text e = (tail_of e, refl)

pub lines_of_both : (text more : List ℕ) → IsWhole text → lines (text ++ more) ≡ lines text ++ lines more
lines_of_both [] more is = refl
lines_of_both (byte ∷ text) more is =
    let apart = puts_apart (byte == 10) byte (lines text) (lines more) text is in
    ap (puts (byte == 10) byte) (lines_of_both text more apart.0) ∙ apart.1

concat_both : (ls more : List (List ℕ)) → concat (ls ++ more) ≡ concat ls ++ concat more
concat_both [] more = refl
concat_both (l ∷ ls) more = ap (λ (xs : List ℕ). l ++ xs) (concat_both ls more) ∙ sym (append_assoc l (concat ls) (concat more))

pub whole_of_both : (text more : List ℕ) → IsWhole text → whole (text ++ more) ≡ text ++ whole more
whole_of_both text more is =
    ap concat (lines_of_both text more is)
    ∙ concat_both (lines text) (lines more)
    ∙ ap (λ (xs : List ℕ). xs ++ whole more) is

pub both_whole : (text more : List ℕ) → IsWhole text → IsWhole more → IsWhole (text ++ more)
both_whole text more is is' = whole_of_both text more is ∙ ap (λ (xs : List ℕ). text ++ xs) is'

-- a front of whole lines is within the whole lines of a longer front
pub whole_reaches : (k n : ℕ) (text : List ℕ) → k ≤ n → k ≤ length text → IsWhole (take k text) → k ≤ length (whole (take n text))
whole_reaches k n text le short is =
    let both = take_parts k n text le in
    let wholes = ap length (ap whole (sym both.1) ∙ whole_of_both (take k text) both.0 is) in
    omega (arith, wholes, length-append (take k text) (whole both.0), length-take k text, short)
  where
    take_parts : (k n : ℕ) (text : List ℕ) → k ≤ n → IsPrefixOf (take k text) (take n text)
    take_parts zero n text le = (take n text, refl)
    take_parts (suc k) zero text le = absurd (omega (arith, le))
    take_parts (suc k) (suc n) [] le = ([], refl)
    take_parts (suc k) (suc n) (byte ∷ text) le =
        let ih = take_parts k n text (omega (arith, le)) in
        (ih.0, ap (λ (xs : List ℕ). byte ∷ xs) ih.1)

-- ---- Lines among others

pub among_longer : (ls others more : List (List ℕ)) → AreAmong ls others → AreAmong ls (others ++ more)
among_longer [] others more h = tt
among_longer (l ∷ ls) [] more h = absurd h
among_longer (l ∷ ls) (o ∷ others) more (inl h) = inl (h.0, among_longer ls others more h.1)
among_longer (l ∷ ls) (o ∷ others) more (inr h) = inr (among_longer (l ∷ ls) others more h)

among_itself : (ls : List (List ℕ)) → AreAmong ls ls
among_itself [] = tt
among_itself (l ∷ ls) = inl (refl, among_itself ls)

among_more : (ls others : List (List ℕ)) → AreAmong ls others → (o : List ℕ) → AreAmong ls (o ∷ others)
among_more [] others h o = tt
among_more (l ∷ ls) others h o = inr h

among_later : (others more : List (List ℕ)) → AreAmong more (others ++ more)
among_later [] more = among_itself more
among_later (o ∷ others) more = among_more more (others ++ more) (among_later others more) o

pub among_both : (ls others more : List (List ℕ)) → AreAmong ls others → AreAmong (ls ++ more) (others ++ more)
among_both [] others more h = among_later others more
among_both (l ∷ ls) [] more h = absurd h
among_both (l ∷ ls) (o ∷ others) more (inl h) = inl (h.0, among_both ls others more h.1)
among_both (l ∷ ls) (o ∷ others) more (inr h) = inr (among_both (l ∷ ls) others more h)

pub among_front : (ls rest others : List (List ℕ)) → AreAmong (ls ++ rest) others → AreAmong ls others
among_front [] rest others h = tt
among_front (l ∷ ls) rest [] h = absurd h
among_front (l ∷ ls) rest (o ∷ others) (inl h) = inl (h.0, among_front ls rest others h.1)
among_front (l ∷ ls) rest (o ∷ others) (inr h) = inr (among_front (l ∷ ls) rest others h)

-- ---- The last byte

-- a byte that is no line feed adds no line
pub no_line : (text : List ℕ) (byte : ℕ) → (byte == 10) ≡ false → lines (text ++ byte ∷ []) ≡ lines text
no_line [] byte is = ap (λ (t : Bool). puts t byte []) is
no_line (b ∷ text) byte is = ap (puts (b == 10) b) (no_line text byte is)

puts_whole : (t : Bool) (byte : ℕ) (ls : List (List ℕ)) (b : ℕ) (text : List ℕ) → concat ls ≡ b ∷ text → concat (puts t byte ls) ≡ byte ∷ b ∷ text
puts_whole true byte ls b text e = ap (λ (xs : List ℕ). byte ∷ xs) e
puts_whole false byte [] b text e = absurd (not_nil e)
puts_whole false byte (l ∷ ls) b text e = ap (λ (xs : List ℕ). byte ∷ xs) e

-- a text whose last byte is a line feed is whole lines
pub ends_whole : (text : List ℕ) (byte : ℕ) → (byte == 10) ≡ true → IsWhole (text ++ byte ∷ [])
ends_whole [] byte is = ap (λ (t : Bool). concat (puts t byte [])) is
ends_whole (b ∷ []) byte is = puts_whole (b == 10) b (lines (byte ∷ [])) byte [] (ends_whole [] byte is)
ends_whole (b ∷ c ∷ text) byte is = puts_whole (b == 10) b (lines (c ∷ text ++ byte ∷ [])) c (text ++ byte ∷ []) (ends_whole (c ∷ text) byte is)

pub is_feed : (byte : ℕ) → byte ≡ 10 → (byte == 10) ≡ true
is_feed byte is = ap (λ (b : ℕ). b == 10) is

bool_cases : (t : Bool) → (t ≡ true) ⊎ (t ≡ false)
bool_cases true = inl refl
bool_cases false = inr refl

pub is_none : (byte : ℕ) → (byte ≡ 10 → ⊥) → (byte == 10) ≡ false
is_none byte is_not = elim (bool_cases (byte == 10)) [
  | inl same ↦ absurd (is_not (eqb-true byte 10 same))
  | inr other ↦ other
]

pub front_by_byte : (text : List ℕ) (at : ℕ) → 0 < at → at ≤ length text → take at text ≡ take (at - 1) text ++ slice_index_or text (at - 1) 0 ∷ []
front_by_byte text zero some within = absurd (omega (arith, some))
front_by_byte text (suc at) some within = search (rules, take_more text at 0 (omega (arith, within)))

-- ---- Lines put together

-- a line: its line feed is its last byte, and its only one
abbrev pub IsLine : List ℕ → Type 0
IsLine line = lines line ≡ line ∷ []

-- lines put together are read as the same lines
pub lines_again : (ls : List (List ℕ)) → AllByRecursion IsLine ls → lines (concat ls) ≡ ls
lines_again [] are = refl
lines_again (l ∷ ls) are =
    lines_of_both l (concat ls) (ap concat are.0 ∙ append-nil l)
    ∙ ap (λ (xs : List (List ℕ)). xs ++ lines (concat ls)) are.0
    ∙ ap (λ (xs : List (List ℕ)). l ∷ xs) (lines_again ls are.1)

pub again_whole : (ls : List (List ℕ)) → AllByRecursion IsLine ls → IsWhole (concat ls)
again_whole ls are = ap concat (lines_again ls are)
