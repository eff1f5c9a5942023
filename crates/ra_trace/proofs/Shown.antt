-- What is taken of the bytes that a reader shows.
use Rattle.std.proofs.Common.{◌≡◌, ◌≢◌, ℕ, zero, suc, ◌+◌, ◌-◌, ◌<◌, ◌≤◌, min, true, false, List, [], ◌∷◌, ◌++◌, length, get_or, take, Option, Some, None, Ok, Err, sym, ap, subst, ◌∙◌, arith, length-append, length-take-le, take-take, eq-eqb}
use Rattle.std.proofs.lemmas.Bool.{eqb-true}
use Rattle.std.proofs.lemmas.List.{append-nil, take_more}
use Rattle.std.proofs.lemmas.List.Elements.{All-nil, All-more, All-push}
use Rattle.std.specs.Prelude.{unwrap_or}
use Rattle.std.specs.Io.KnownBytes.{Consumes, IsAtEnd}
use Rattle.std.proofs.KnownBytes.{Consumes-trans}
use Rattle.memchr.specs.Find.{IsFirstByte, is_byte}
use Rattle.ra_trace.specs.declared.error.TraceError.{TraceError}
use Rattle.ra_trace.specs.declared.error.TraceError.TheVariants.{Read, Limit}
use Rattle.ra_trace.specs.declared.line_source.byte_lines.LineEnd.TheVariants.{Feed, Input}
use Rattle.ra_trace.specs.Reading.{IsOpenLine}
use Rattle.ra_trace.specs.declared.line.Line.{Line}
use Rattle.ra_trace.specs.Forms.{line_in}
use Rattle.ra_trace.specs.NextLine.{FailsWithin, ReadsLine, ReadsSome, IsPart, TakesBytes}
use Rattle.ra_trace.proofs.Ends.{NoFeed, reads_at_feed}

none_before : (xs : List ℕ) (k : ℕ) → k ≤ length xs → ((j : ℕ) → j < k → get_or xs j 0 ≢ 10) → NoFeed (take k xs)
none_before xs zero within before = All-nil (λ b. b ≢ 10)
none_before xs (suc k) within before =
    let next : k + 1 ≡ suc k = omega arith in
    subst (λ n. NoFeed (take n xs)) next
    (All-more (λ b. b ≢ 10) xs k 0 (omega (arith, within)) (none_before xs k (omega (arith, within)) (λ j lt. before j (omega (arith, lt)))) (before k (omega arith)))

-- the line feed is at this place
over_at : (most : ℕ) (shown : List ℕ) (place : ℕ) → place < length shown → place < most → get_or shown place 0 ≡ 10
    → ((k : ℕ) → k < place → get_or shown k 0 ≢ 10) → IsPart most shown (place + 1) true
over_at most shown place inside few here before =
    let is = take_more shown place 0 inside ∙ ap (λ (b : ℕ). take place shown ++ b ∷ []) here in
    (omega (arith, inside), omega (arith, few), (take place shown, none_before shown place (omega (arith, inside)) before, is))

-- none of the first bytes is a line feed
not_over : (most : ℕ) (shown : List ℕ) (count : ℕ) → count ≡ min (length shown) most → ((k : ℕ) → k < count → get_or shown k 0 ≢ 10)
    → IsPart most shown count false
not_over most shown count is before = (omega (arith, is), omega (arith, is), none_before shown count (omega (arith, is)) before)

-- it is at the first place at which it is found
pub feed_at : (most : ℕ) (shown : List ℕ) (found : Option ℕ) (end : ℕ) → IsFirstByte (is_byte 10) shown found → end ≡ unwrap_or found most → end < most
    → IsPart most shown (end + 1) true
feed_at most shown None end is at less = absurd (omega (arith, at, less))
feed_at most shown (Some place) end is at less =
    let there = over_at most shown place is.0.high (omega (arith, at, less)) (eqb-true _ 10 is.1)
    (λ k before same. is.0.before k (omega arith) before (eq-eqb _ 10 same)) in
    subst (λ (n : ℕ). IsPart most shown (n + 1) true) (sym at) there

-- it was not found among this many
pub no_feed_in : (most : ℕ) (shown : List ℕ) (found : Option ℕ) (end count : ℕ) → IsFirstByte (is_byte 10) shown found → end ≡ unwrap_or found most
    → most ≤ end → count ≡ min (length shown) most → IsPart most shown count false
no_feed_in most shown None end count is at late count_is =
    not_over most shown count count_is (λ k before same. is k (omega arith) (omega (arith, before, count_is)) (eq-eqb _ 10 same))
no_feed_in most shown (Some place) end count is at late count_is =
    not_over most shown count count_is
    (λ k before same. is.0.before k (omega arith) (omega (arith, before, count_is, at, late)) (eq-eqb _ 10 same))

-- a line that is shown whole
pub whole_line : (left most : ℕ) (old new : Option (List ℕ)) (shown prefix : List ℕ) (end : ℕ) (came : Option Line) → most ≡ min left 128
    → IsPart most shown (end + 1) true → Consumes old new (take (end + 1) shown) → prefix ≡ take end shown → came ≡ line_in prefix
    → ReadsSome left old new (end + 1) came (Ok tt)
whole_line left most old new shown prefix end came most_is (inside, few, (before, none, is)) taken cuts reads =
    let bytes = take (end + 1) shown in
    let long : length bytes ≡ end + 1 = length-take-le (end + 1) shown inside in
    let split = ap length is ∙ length-append before (10 ∷ []) in
    let one_less : length bytes - 1 ≡ end = omega (arith, long) in
    let first : prefix ≡ take (length bytes - 1) bytes =
    cuts ∙ sym (ap (λ (n : ℕ). take n bytes) one_less ∙ take-take end (end + 1) shown (omega arith)) in (
      bytes,
      long,
      reads_at_feed left old new bytes prefix came (taken, omega (arith, long, few, most_is)) (before, (none, omega (arith, long, split, few, most_is)), is)
          first reads,
    )

-- ---- A byte more, or none

takes_more : (left : ℕ) (old mid new : Option (List ℕ)) (before part : List ℕ) → Consumes old mid before → Consumes mid new part
    → length before + length part ≤ left → TakesBytes left old new (before ++ part)
takes_more left old mid new before part earlier later short =
    (Consumes-trans old mid new before part earlier later, omega (arith, short, length-append before part))

-- nothing came, and this is why
nothing_more : (old mid new : Option (List ℕ)) (before : List ℕ) → Consumes old mid before → Consumes mid new [] → Consumes old new before
nothing_more old mid new before earlier later = subst (Consumes old new) (append-nil before) (Consumes-trans old mid new before [] earlier later)

pub input_ends : (left : ℕ) (old mid new : Option (List ℕ)) (before : List ℕ) → Consumes old mid before → Consumes mid new [] → IsAtEnd new → IsOpenLine before
    → length before ≤ left → ReadsLine left old new before (Ok Input)
input_ends left old mid new before earlier later ended unended within = ((nothing_more old mid new before earlier later, within), (unended, ended))

pub reader_fails : (left : ℕ) (old mid new : Option (List ℕ)) (before : List ℕ) (fault : TraceError) → fault ≡ Read → Consumes old mid before → Consumes mid new []
    → IsOpenLine before → length before ≤ left → ReadsLine left old new before (Err fault)
reader_fails left old mid new before fault is earlier later unended within =
    subst (λ f. ReadsLine left old new before (Err f)) (sym is) ((nothing_more old mid new before earlier later, within), unended)

pub passes_left : (left : ℕ) (old mid new : Option (List ℕ)) (before : List ℕ) (byte : ℕ) → Consumes old mid before → Consumes mid new (byte ∷ [])
    → IsOpenLine before → length before ≡ left → ReadsLine left old new before (Err Limit)
passes_left left old mid new before byte earlier later unended same = (byte, Consumes-trans old mid new before (byte ∷ []) earlier later, same, unended)

-- ---- Counts of bytes

pub small : 136 < 9223372036854775808
small = omega arith

pub just_left : (count left len : ℕ) → count ≤ left → len ≡ count → left ≤ len → count ≡ left
just_left count left len within is full = omega (arith, within, is, full)

pub is_short : (count left len : ℕ) → len ≡ count → len < left → count < left
is_short count left len is less = omega (arith, is, less)

module _ (before bytes : List ℕ) (byte : ℕ) (is : bytes ≡ before ++ byte ∷ []) where
  pushed_len : length bytes ≡ length before + 1
  pushed_len = omega (arith, ap length is, length-append before (byte ∷ []))

  pub pushed_within : (left : ℕ) → length before < left → length bytes ≤ left
  pushed_within left short = omega (arith, pushed_len, short)

  pub pushed_count : (turn : ℕ) → turn ≡ length before → turn + 1 ≡ length bytes
  pushed_count turn count = omega (arith, pushed_len, count)

-- ---- Byte by byte

pub open_so_far : (turn : ℕ) (bytes : List ℕ) → turn ≡ length bytes → turn < 128 → NoFeed bytes → IsOpenLine bytes
open_so_far turn bytes count more none = (none, omega (arith, count, more))

pub no_byte_yet : (left : ℕ) (bytes : List ℕ) → bytes ≡ [] → (0 ≡ length bytes) × (length bytes ≤ left) × NoFeed bytes
no_byte_yet left bytes none = (omega (arith, ap length none), omega (arith, ap length none), subst NoFeed (sym none) (All-nil (λ b. b ≢ 10)))

pub joined : (old mid new : Option (List ℕ)) (before part bytes : List ℕ) → bytes ≡ before ++ part → Consumes old mid before → Consumes mid new part → Consumes old new bytes
joined old mid new before part bytes is earlier later = subst (Consumes old new) (sym is) (Consumes-trans old mid new before part earlier later)

takes_byte : (left : ℕ) (old mid new : Option (List ℕ)) (before : List ℕ) (byte : ℕ) → Consumes old mid before → Consumes mid new (byte ∷ [])
    → length before < left → TakesBytes left old new (before ++ byte ∷ [])
takes_byte left old mid new before byte earlier later short = takes_more left old mid new before (byte ∷ []) earlier later (omega (arith, short))

pub ends_at_feed : (left : ℕ) (old mid new : Option (List ℕ)) (before bytes : List ℕ) (byte : ℕ) → bytes ≡ before ++ byte ∷ [] → byte ≡ 10 → IsOpenLine before
    → Consumes old mid before → Consumes mid new (byte ∷ []) → length before < left → ReadsLine left old new bytes (Ok Feed)
ends_at_feed left old mid new before bytes byte is feed unended earlier later short = (
  subst (TakesBytes left old new) (sym is) (takes_byte left old mid new before byte earlier later short),
  (before, unended, is ∙ ap (λ (b : ℕ). before ++ b ∷ []) feed),
)

pub no_feed_more : (before bytes : List ℕ) (byte : ℕ) → bytes ≡ before ++ byte ∷ [] → NoFeed before → byte ≢ 10 → NoFeed bytes
no_feed_more before bytes byte is none other = subst NoFeed (sym is) (All-push (λ b. b ≢ 10) before byte none other)

pub all_turns : (turn count : ℕ) → turn ≡ count → count ≤ 128 → 128 ≤ turn → count ≡ 128
all_turns turn count is most all = omega (arith, is, most, all)

pub nothing_open : IsOpenLine []
nothing_open = (All-nil (λ b. b ≢ 10), omega arith)

pub read_fails : (left : ℕ) (old new : Option (List ℕ)) (fault : TraceError) → fault ≡ Read → Consumes old new [] → FailsWithin left old new [] fault
read_fails left old new fault is untaken = subst (FailsWithin left old new []) (sym is) ((untaken, omega arith), nothing_open)
