-- The lines of a mark log of which each is read to its end.
use Rattle.std.proofs.Common.{◌≡◌, ◌≢◌, ℕ, ◌+◌, ◌-◌, ◌<◌, ◌≤◌, min, Bool, true, false, List, [], ◌∷◌, ◌++◌, length, take, Option, Some, None, Ok, Err, refl, sym, ap, subst, ◌∙◌, inl, inr, arith, append_assoc, length-append, length-take-le, take-take}
use Rattle.std.specs.Prelude.{All, Result}
use Rattle.std.specs.Io.KnownBytes.{Consumes, IsAtEnd}
use Rattle.std.proofs.lemmas.Bool.{cases_lt, false≢true}
use Rattle.std.proofs.lemmas.List.{append-nil, length-take, take_all, take_at, take-append-le}
use Rattle.std.proofs.lemmas.List.Elements.{All-nil, All-push}
use Rattle.ra_trace.specs.declared.error.TraceError.{TraceError}
use Rattle.ra_trace.specs.declared.error.TraceError.TheVariants.{Read, Limit, Memory}
use Rattle.ra_trace.specs.declared.line.Line.{Line}
use Rattle.ra_trace.specs.Forms.{BeginsReadable, cut, line_in}
use Rattle.ra_trace.specs.LeftOutAlong.{EndsWhole, IsReadAs, ReadsToFeed, ReadsWhole}
use Rattle.ra_trace.specs.NextLine.{IsPart, TakesBytes}
use Rattle.ra_trace.proofs.Along.{consumed_both}
use Rattle.ra_trace.proofs.Cuts.{cut-append}
use Rattle.ra_trace.proofs.Ends.{NoFeed, free, no_line_in}
use Rattle.ra_trace.proofs.Lines.{read_begins, unread}

-- ---- What the bytes before a line feed are

cut_there : (before more : List ℕ) → NoFeed before → cut 10 ((before ++ 10 ∷ []) ++ more) ≡ Some (before, more)
cut_there before more none = ap (cut 10) (append_assoc before (10 ∷ []) more) ∙ cut-append 10 before more (free before none)

-- they are read
read_at_feed : (before : List ℕ) (read : Option Line) → NoFeed before → read ≡ line_in before → IsReadAs true (before ++ 10 ∷ []) read
read_at_feed before (Some given) none is = (
  refl,
  read_begins (before ++ 10 ∷ []) before [] given (cut-append 10 before [] (free before none)) (sym is),
)
read_at_feed before None none is = λ more follows given rest begins.
    unread ((before ++ 10 ∷ []) ++ more) before more (cut_there before more none) (sym is) given rest begins

-- they are too many
long_at_feed : (before : List ℕ) → NoFeed before → 127 ≤ length before → IsReadAs true (before ++ 10 ∷ []) None
long_at_feed before none long = λ more follows given rest begins.
    no_line_in before (10 ∷ more) none (inr long) given rest
    (subst (λ (bytes : List ℕ). BeginsReadable bytes given rest) (append_assoc before (10 ∷ []) more) begins)

-- none comes
none_at_end : (bytes : List ℕ) → NoFeed bytes → IsReadAs false bytes None
none_at_end bytes none = λ more follows given rest begins. no_line_in bytes more none (inl (follows refl)) given rest begins

-- ---- A line that is shown whole

pub shown_whole : (left most : ℕ) (old new : Option (List ℕ)) (shown prefix : List ℕ) (end : ℕ) (read : Option Line) → most ≡ min left 128
    → IsPart most shown (end + 1) true → Consumes old new (take (end + 1) shown) → prefix ≡ take end shown → read ≡ line_in prefix
    → ReadsWhole left old new (end + 1) read (Ok true)
shown_whole left most old new shown prefix end read most_is (inside, few, (before, none, is)) taken cuts reads =
    let bytes = take (end + 1) shown in
    let long : length bytes ≡ end + 1 = length-take-le (end + 1) shown inside in
    let split = ap length is ∙ length-append before (10 ∷ []) in
    let same : prefix ≡ before =
    cuts ∙ sym (take-take end (end + 1) shown (omega arith)) ∙ ap (take end) is ∙ at_feed before end (omega (arith, long, split)) in (
      bytes,
      sym long,
      (taken, omega (arith, long, few, most_is)),
      (before, none, is),
      subst (λ (bs : List ℕ). IsReadAs true bs read) (sym is) (read_at_feed before read none (reads ∙ ap line_in same)),
    )
  where
    at_feed : (before : List ℕ) (end : ℕ) → end ≡ length before → take end (before ++ 10 ∷ []) ≡ before
    at_feed before end long = take_at before (10 ∷ []) end (sym long)

-- ---- Byte by byte

-- so many bytes came, none of which is a line feed, and the first are kept
pub record IsWithin (left : ℕ) (old now : Option (List ℕ)) (count : ℕ) (kept : List ℕ) : Type 0 where
  pub bytes : List ℕ
  pub none : NoFeed bytes
  pub taken : Consumes old now bytes
  pub count_is : count ≡ length bytes
  pub few : count ≤ left
  pub kept_is : kept ≡ take 128 bytes

pub nothing_within : (left : ℕ) (old : Option (List ℕ)) (kept : List ℕ) → kept ≡ [] → Consumes old old [] → IsWithin left old old 0 kept
nothing_within left old kept is taken = record {
  bytes = [];
  none = All-nil (λ b. b ≢ 10);
  taken = taken;
  count_is = refl;
  few = omega arith;
  kept_is = is;
}

module _ (left : ℕ) (old mid new : Option (List ℕ)) (count : ℕ) (kept : List ℕ) (within : IsWithin left old mid count kept) where
  with_nothing : Consumes mid new [] → Consumes old new within.bytes
  with_nothing more = subst (Consumes old new) (append-nil within.bytes) (consumed_both old mid new within.bytes [] within.taken more)

  pub within_fails : (fault : TraceError) → fault ≡ Read → Consumes mid new [] → ReadsToFeed left old new count kept (Err fault)
  within_fails fault is more =
      subst (λ (f : TraceError). ReadsToFeed left old new count kept (Err f)) (sym is)
      (within.bytes, (with_nothing more, omega (arith, within.count_is, within.few)))

  pub within_ends : Consumes mid new [] → IsAtEnd new → ReadsToFeed left old new count kept (Ok false)
  within_ends more ended = (within.bytes, within.none, with_nothing more, ended, within.count_is, within.few)

  pub within_passes : (byte : ℕ) → Consumes mid new (byte ∷ []) → left ≤ count → ReadsToFeed left old new count kept (Err Limit)
  within_passes byte more full =
      (within.bytes, byte, consumed_both old mid new within.bytes (byte ∷ []) within.taken more, omega (arith, within.count_is, within.few, full))

  pub within_feeds : (byte : ℕ) → Consumes mid new (byte ∷ []) → count < left → byte ≡ 10 → ReadsToFeed left old new (count + 1) kept (Ok true)
  within_feeds byte more short feed = (
    within.bytes,
    within.none,
    subst (λ (b : ℕ). Consumes old new (within.bytes ++ b ∷ [])) feed (consumed_both old mid new within.bytes (byte ∷ []) within.taken more),
    omega (arith, within.count_is),
    omega (arith, short),
    within.kept_is,
  )

  kept_length : length kept ≡ min 128 (length within.bytes)
  kept_length = ap length within.kept_is ∙ length-take 128 within.bytes

  -- another byte is kept if there is room
  pub within_more : (byte : ℕ) (more : List ℕ) → Consumes mid new (byte ∷ []) → count < left → byte ≢ 10
      → (length kept < 128 → more ≡ kept ++ byte ∷ []) → (128 ≤ length kept → more ≡ kept) → IsWithin left old new (count + 1) more
  within_more byte more later short other pushed full = record {
    bytes = within.bytes ++ byte ∷ [];
    none = All-push (λ b. b ≢ 10) within.bytes byte within.none other;
    taken = consumed_both old mid new within.bytes (byte ∷ []) within.taken later;
    count_is = omega (arith, within.count_is, length-append within.bytes (byte ∷ []));
    few = omega (arith, short);
    kept_is = kept_more (length kept) refl;
  }
    where
      kept_more : (n : ℕ) → n ≡ length kept → more ≡ take 128 (within.bytes ++ byte ∷ [])
      kept_more n is = elim (cases_lt n 128) [
        | inl room ↦
            let small : length within.bytes < 128 = omega (arith, is, room, kept_length) in
            let whole : take 128 within.bytes ≡ within.bytes = take_all 128 within.bytes (omega (arith, small)) in
            let all : take 128 (within.bytes ++ byte ∷ []) ≡ within.bytes ++ byte ∷ [] =
            take_all 128 (within.bytes ++ byte ∷ []) (omega (arith, small, length-append within.bytes (byte ∷ []))) in
            pushed (omega (arith, is, room)) ∙ ap (λ (bs : List ℕ). bs ++ byte ∷ []) (within.kept_is ∙ whole) ∙ sym all
        | inr none ↦
            let long : 128 ≤ length within.bytes = omega (arith, is, none, kept_length) in
            full (omega (arith, is, none)) ∙ within.kept_is ∙ sym (take-append-le 128 within.bytes (byte ∷ []) long)
      ]

-- ---- What was read byte by byte is a line, or none

pub read_by_bytes : (left : ℕ) (old new : Option (List ℕ)) (count : ℕ) (kept : List ℕ) (read : Option Line)
    → ReadsToFeed left old new count kept (Ok true) → count ≤ 128 → read ≡ line_in kept → ReadsWhole left old new count read (Ok true)
read_by_bytes left old new count kept read (before, none, taken, count_is, few, kept_is) short is =
    let long : length (before ++ 10 ∷ []) ≡ length before + 1 = length-append before (10 ∷ []) in
    let all : kept ≡ before = kept_is ∙ take_all 128 before (omega (arith, count_is, short)) in
    (before ++ 10 ∷ [], omega (arith, long, count_is), (taken, omega (arith, long, count_is, few)), (before, none, refl), read_at_feed before read none (is ∙ ap line_in all))

pub long_by_bytes : (left : ℕ) (old new : Option (List ℕ)) (count : ℕ) (kept : List ℕ) → ReadsToFeed left old new count kept (Ok true)
    → 128 < count → ReadsWhole left old new count None (Ok true)
long_by_bytes left old new count kept (before, none, taken, count_is, few, kept_is) long =
    let more : length (before ++ 10 ∷ []) ≡ length before + 1 = length-append before (10 ∷ []) in
    (before ++ 10 ∷ [], omega (arith, more, count_is), (taken, omega (arith, more, count_is, few)), (before, none, refl), long_at_feed before none (omega (arith, count_is, long)))

pub end_by_bytes : (left : ℕ) (old new : Option (List ℕ)) (count : ℕ) (kept : List ℕ) → ReadsToFeed left old new count kept (Ok false)
    → ReadsWhole left old new count None (Ok false)
end_by_bytes left old new count kept (bytes, none, taken, ended, count_is, few) =
    (bytes, count_is, (taken, omega (arith, count_is, few)), (none, ended), none_at_end bytes none)

pub fault_by_bytes : (left : ℕ) (old new : Option (List ℕ)) (count other : ℕ) (kept : List ℕ) (read : Option Line) (fault : TraceError)
    → ReadsToFeed left old new count kept (Err fault) → ReadsWhole left old new other read (Err fault)
fault_by_bytes left old new count other kept read Read failed = failed
fault_by_bytes left old new count other kept read Limit failed = failed
fault_by_bytes left old new count other kept read Memory failed = absurd failed

-- the reader showed bytes and none were taken before
pub read_after : (left : ℕ) (old mid new : Option (List ℕ)) (count : ℕ) (read : Option Line) (result : Result Bool TraceError) → Consumes old mid []
    → ReadsWhole left mid new count read result → ReadsWhole left old new count read result
read_after left old mid new count read (Ok has_feed) nothing (bytes, long, taken, ends, is) =
    (bytes, long, (consumed_both old mid new [] bytes nothing taken.0, taken.1), ends, is)
read_after left old mid new count read (Err Read) nothing (bytes, taken) = (bytes, (consumed_both old mid new [] bytes nothing taken.0, taken.1))
read_after left old mid new count read (Err Limit) nothing (bytes, byte, taken, full) =
    (bytes, byte, consumed_both old mid new [] (bytes ++ byte ∷ []) nothing taken, full)
read_after left old mid new count read (Err Memory) nothing failed = absurd failed
