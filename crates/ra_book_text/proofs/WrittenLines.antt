-- What is written of a book is what it says.
use Rattle.std.proofs.Common.{◌≡◌, ◌≢◌, ◌<◌, ◌≤◌, ◌^◌, ◌/◌, ◌%◌, ◌==◌, ℕ, true, false, List, [], ◌∷◌, ◌++◌, length, get_or, map, refl, sym, ap, subst, ◌∙◌, codes, decimal, arith, append_assoc, zero, suc, ◌+◌}
use Rattle.std.proofs.lemmas.Bool.Decides.{nat_tests}
use Rattle.std.proofs.lemmas.Fmt.{length-decimal-le}
use Rattle.std.proofs.lemmas.List.Elements.{All-append, All-cons, All-head, All-nil, All-tail, All-weaker}
use Rattle.std.proofs.lemmas.List.{append-nil, length-append, map-append}
use Rattle.std.proofs.lemmas.List.Sums.{AllPass-from_list_all}
use Rattle.std.proofs.lemmas.Str.{IsUtf8-from_ascii}
use Rattle.std.proofs.lemmas.Str.Ascii.{IsAscii-from_all}
use Rattle.std.specs.Prelude.{All, nat_lt, slice_index}
use Rattle.std.specs.List.{AllPass, AllZip, Any, list_all}
use Rattle.std.specs.Str.{IsAscii, IsUtf8}
use Rattle.hex.specs.Hex.{IsBytes, encode_lower, encode_with, lower_digits}
use Rattle.hex.proofs.HexLemmas.{IsAscii-encode_with, decode_of-encode_lower, length-encode_with}
use Rattle.ra_stamp.specs.Name.{IsName}
use Rattle.ra_stamp.specs.NodeId.{IsNodeNumber}
use Rattle.ra_stamp.specs.declared.mode.Mode.{Mode}
use Rattle.ra_stamp.specs.declared.mode.Mode.TheVariants.{Shared, Exclusive, IntentShared, IntentExclusive, SharedIntentExclusive}
use Rattle.ra_stamp.specs.declared.message.Message.{Message}
use Rattle.ra_stamp.specs.declared.message.Message.TheVariants.{Request, Reply}
use Rattle.ra_frame.specs.Fits.{Fits}
use Rattle.ra_frame.specs.FrameText.{IsMessageText, IsWrittenText}
use Rattle.ra_frame.specs.declared.format.Format.TheVariants.{V2}
use Rattle.ra_frame.specs.declared.frame.Frame.{Frame}
use Rattle.ra_stamp.specs.Mode.{mode_word}
use Rattle.ra_text.specs.declared.draft.Draft.{Draft}
use Rattle.ra_text.specs.Drafting.{Says}
use Rattle.ra_text.specs.Lines.{field}
use Rattle.ra_trace.specs.TraceText.{IsClientNumber}
use Rattle.ra_trace.proofs.Cuts.{IsFree}
use Rattle.ra_trace.proofs.Spelled.{reads_client, reads_mode, reads_name, reads_node, reads_start}
use Rattle.ra_book.specs.declared.book.event.BookEvent.{BookEvent}
use Rattle.ra_book.specs.declared.book.event.BookKind.{BookKind}
use Rattle.ra_book.specs.declared.book.event.BookKind.TheVariants as kinds
use Rattle.ra_book.specs.Book.{BookState, HasHistory}
use Rattle.ra_book_text.specs.Book.{lines_text}
use Rattle.ra_book_text.specs.BookText.{AllowsKind, IsFirst, first_text, form_text, version_text}
use Rattle.ra_book_text.specs.BookText.Form.{Ask, Leave, Cancel, Forget, Receive}
use Rattle.ra_book_text.specs.declared.next_line.book_version.BookVersion.{BookVersion}
use Rattle.ra_book_text.specs.declared.next_line.book_version.BookVersion.TheVariants.{One, Two}
use Rattle.ra_book_text.specs.Input.{HasNoFeed}
use Rattle.ra_book_text.specs.Written.{AddsEvent, AddsLines, IsUnfit, IsWrittenBook, IsWrittenEvent, SaysEvents, version_for, version_with}

-- ---- No line feed

free : (bytes : List ℕ) → IsFree 10 bytes → HasNoFeed bytes
free = All-weaker (λ b. (b == 10) ≡ false) (λ b. b ≢ 10) (λ b h. grind (arith, nat_tests))

high_byte : (b : ℕ) → nat_lt 10 b ≡ true → b ≢ 10
high_byte b h = grind (arith, nat_tests)

-- a text whose bytes are all above 10
high : (bytes : List ℕ) → AllPass (nat_lt 10) bytes → HasNoFeed bytes
high = All-weaker (λ b. nat_lt 10 b ≡ true) (λ b. b ≢ 10) high_byte

-- no place of a table has a line feed
abbrev IsPlain : List ℕ → Type 0
IsPlain table = (i : ℕ) → slice_index table i ≢ 10

plain : (table : List ℕ) → HasNoFeed table → IsPlain table
plain [] h i = λ e. let no : ⊥ = omega (arith, e) in absurd no
plain (b ∷ bs) h zero = All-head (λ c. c ≢ 10) b bs h
plain (b ∷ bs) h (suc i) = plain bs (All-tail (λ c. c ≢ 10) b bs h) i

plain_digits : IsPlain lower_digits
plain_digits = plain lower_digits (high lower_digits (AllPass-from_list_all (nat_lt 10) lower_digits refl))

encoded_free : (table bytes : List ℕ) → IsPlain table → HasNoFeed (encode_with table bytes)
unfolding encode_with
encoded_free table [] h = All-nil (λ c. c ≢ 10)
encoded_free table (b ∷ rest) h =
    All-cons (λ c. c ≢ 10) (slice_index table (b / 16)) (slice_index table (b % 16) ∷ encode_with table rest) (h (b / 16))
    (All-cons (λ c. c ≢ 10) (slice_index table (b % 16)) (encode_with table rest) (h (b % 16)) (encoded_free table rest h))

pub both : (xs ys : List ℕ) → HasNoFeed xs → HasNoFeed ys → HasNoFeed (xs ++ ys)
both = All-append (λ c. c ≢ 10)

pub word : (bytes : List ℕ) → list_all (nat_lt 10) bytes ≡ true → HasNoFeed bytes
word bytes h = high bytes (AllPass-from_list_all (nat_lt 10) bytes h)

-- ---- Digits

ascii_digits : IsAscii lower_digits
ascii_digits =
    IsAscii-from_all lower_digits (All-weaker (λ b. nat_lt b 128 ≡ true) (λ b. b < 128) (λ b h. grind (arith, nat_tests)) lower_digits
    (AllPass-from_list_all (λ b. nat_lt b 128) lower_digits refl))

pub digits_are_utf8 : (bytes : List ℕ) → IsUtf8 (encode_lower bytes)
digits_are_utf8 bytes = IsUtf8-from_ascii (encode_lower bytes) (IsAscii-encode_with lower_digits bytes ascii_digits)

-- ---- The lines

short_mode : (mode : Mode) → length (mode_word mode) ≤ 3
short_mode Shared = omega arith
short_mode Exclusive = omega arith
short_mode IntentShared = omega arith
short_mode IntentExclusive = omega arith
short_mode SharedIntentExclusive = omega arith

short_client : (client : ℕ) → IsClientNumber client → length (decimal client) ≤ 10
short_client client small = length-decimal-le 10 client (omega arith) (omega (arith, small)) (omega (arith, small))

pub mode_free : (mode : Mode) → HasNoFeed (mode_word mode)
mode_free mode = free (mode_word mode) (reads_mode.reads.no_feed mode tt)

pub client_free : (client : ℕ) → IsClientNumber client → HasNoFeed (decimal client)
client_free client fits = free (decimal client) (reads_client.reads.no_feed client fits)

pub name_free : (name : List ℕ) → IsName name → HasNoFeed name
name_free name is = free name (reads_name.reads.no_feed name is)

pub field_free : (text : List ℕ) → HasNoFeed text → HasNoFeed (field text)
field_free text h = both (codes " ") text (word (codes " ") refl) h

ask_length : (client name mode : List ℕ) → length (codes "ask" ++ field client ++ field name ++ field mode) ≡ 6 + length client + length name + length mode
ask_length client name mode = let a = length-append (client ++ field name) (field mode) in let b = length-append client (field name) in omega (arith, a, b)

leave_length : (client name : List ℕ) → length (codes "release" ++ field client ++ field name) ≡ 9 + length client + length name
leave_length client name = let a = length-append client (field name) in omega (arith, a)

cancel_length : (client name : List ℕ) → length (codes "cancel" ++ field client ++ field name) ≡ 8 + length client + length name
cancel_length client name = let a = length-append client (field name) in omega (arith, a)

asker_free : (start : List ℕ) (client : ℕ) (name : List ℕ) → list_all (nat_lt 10) start ≡ true → IsClientNumber client → IsName name
    → HasNoFeed (start ++ field (decimal client) ++ field name)
asker_free start client name h fits is =
    both (start ++ field (decimal client)) (field name) (both start (field (decimal client)) (word start h) (field_free (decimal client) (client_free client fits)))
    (field_free name (name_free name is))

pub ask_line : (client : ℕ) (name : List ℕ) (mode : Mode) → IsClientNumber client → IsName name
    → IsWrittenEvent (form_text (Ask client name mode)) (kinds.Ask client name mode)
ask_line client name mode fits is = record {
  is_event =
      let a = ask_length (decimal client) name (mode_word mode) in
      let b = short_client client fits in
      let c = short_mode mode in
      let d = is.not_long in (omega (arith, a, b, c, d), (fits, is), refl);
  spelled = refl;
  no_feed = both (codes "ask" ++ field (decimal client) ++ field name) (field (mode_word mode)) (asker_free (codes "ask") client name refl fits is)
      (field_free (mode_word mode) (mode_free mode));
}

pub leave_line : (client : ℕ) (name : List ℕ) → IsClientNumber client → IsName name
    → IsWrittenEvent (form_text (Leave client name)) (kinds.Leave client name)
leave_line client name fits is = record {
  is_event =
      let a = leave_length (decimal client) name in
      let b = short_client client fits in
      let d = is.not_long in (omega (arith, a, b, d), (fits, is), refl);
  spelled = refl;
  no_feed = asker_free (codes "release") client name refl fits is;
}

pub cancel_line : (client : ℕ) (name : List ℕ) → IsClientNumber client → IsName name
    → IsWrittenEvent (form_text (Cancel client name)) (kinds.Cancel client name)
cancel_line client name fits is = record {
  is_event =
      let a = cancel_length (decimal client) name in
      let b = short_client client fits in
      let d = is.not_long in (omega (arith, a, b, d), (fits, is), refl);
  spelled = refl;
  no_feed = asker_free (codes "cancel") client name refl fits is;
}

pub forget_line : IsWrittenEvent (form_text Forget) kinds.Forget
forget_line = record { is_event = (omega arith, tt, refl); spelled = refl; no_feed = word (codes "forget") refl }

pub frame_line : (frame : Frame) (bytes : List ℕ) → IsWrittenText bytes frame → IsBytes bytes → length bytes ≤ 56
    → IsWrittenEvent (form_text (Receive (encode_lower bytes))) (kinds.Receive frame)
frame_line frame bytes text fits short = record {
  is_event =
      let a = length-encode_with lower_digits bytes in
      (encode_lower bytes, (omega (arith, a, short), tt, refl), (bytes, decode_of-encode_lower bytes fits, (V2, text)));
  spelled = (bytes, text, refl);
  no_feed = both (codes "receive") (field (encode_lower bytes)) (word (codes "receive") refl) (field_free (encode_lower bytes) (encoded_free lower_digits bytes plain_digits));
}

-- the digits of bytes, and of a number
pub digits_free : (bytes : List ℕ) → HasNoFeed (encode_lower bytes)
digits_free bytes = encoded_free lower_digits bytes plain_digits

pub number_free : (number : ℕ) → number < 2 ^ 64 → HasNoFeed (decimal number)
number_free number small = free (decimal number) (reads_start.reads.no_feed number small)

-- the first line
short_node : (node : ℕ) → IsNodeNumber node → length (decimal node) ≤ 2
short_node node h = let most = h.1 in length-decimal-le 2 node (omega arith) (omega (arith, most)) (omega (arith, most))

first_length : (version : BookVersion) (node nodes start : List ℕ) → length (version_text version ++ field node ++ field nodes ++ field start) ≡ 9 + length node + length nodes + length start
first_length One node nodes start = let a = length-append (node ++ field nodes) (field start) in let b = length-append node (field nodes) in omega (arith, a, b)
first_length Two node nodes start = let a = length-append (node ++ field nodes) (field start) in let b = length-append node (field nodes) in omega (arith, a, b)

member : (node nodes : ℕ) → IsNodeNumber nodes → (1 ≤ node) × (node ≤ nodes) → IsNodeNumber node
member node nodes count in_it = let most = count.1 in (in_it.0, omega (arith, in_it.1, most))

pub first_line : (version : BookVersion) (node nodes start : ℕ) → IsNodeNumber nodes → (1 ≤ node) × (node ≤ nodes) → start < 2 ^ 64
    → IsFirst (first_text version node nodes start) version node nodes start
first_line version node nodes start count in_it begins = record {
  short =
      let a = first_length version (decimal node) (decimal nodes) (decimal start) in
      let b = short_node node (member node nodes count in_it) in
      let c = short_node nodes count in
      let d = length-decimal-le 20 start (omega arith) (omega (arith, begins)) begins in omega (arith, a, b, c, d);
  count = count;
  member = in_it;
  begins = begins;
  text_is = refl;
}

version_free : (version : BookVersion) → HasNoFeed (version_text version)
version_free One = word (codes "book 1") refl
version_free Two = word (codes "book 2") refl

pub first_free : (version : BookVersion) (node nodes start : ℕ) → IsNodeNumber nodes → (1 ≤ node) × (node ≤ nodes) → start < 2 ^ 64 → HasNoFeed (first_text version node nodes start)
first_free version node nodes start count in_it begins =
    both (version_text version ++ field (decimal node) ++ field (decimal nodes)) (field (decimal start))
    (both (version_text version ++ field (decimal node)) (field (decimal nodes))
    (both (version_text version) (field (decimal node)) (version_free version)
    (field_free (decimal node) (free (decimal node) (reads_node.reads.no_feed node (member node nodes count in_it)))))
    (field_free (decimal nodes) (free (decimal nodes) (reads_node.reads.no_feed nodes count))))
    (field_free (decimal start) (free (decimal start) (reads_start.reads.no_feed start begins)))

-- ---- The version

stays_two : (kind : BookKind) → version_with kind Two ≡ Two
stays_two (kinds.Ask client name mode) = refl
stays_two (kinds.Leave client name) = refl
stays_two (kinds.Cancel client name) = refl
stays_two kinds.Forget = refl
stays_two (kinds.Receive frame) = refl

is_two : (kind : BookKind) (rest : BookVersion) → (AllowsKind One kind → ⊥) → version_with kind rest ≡ Two
is_two (kinds.Ask client name mode) rest not = absurd (not tt)
is_two (kinds.Leave client name) rest not = absurd (not tt)
is_two (kinds.Cancel client name) rest not = refl
is_two kinds.Forget rest not = refl
is_two (kinds.Receive frame) rest not = absurd (not tt)

is_rest : (kind : BookKind) (rest : BookVersion) → AllowsKind One kind → version_with kind rest ≡ rest
is_rest (kinds.Ask client name mode) rest is = refl
is_rest (kinds.Leave client name) rest is = refl
is_rest (kinds.Cancel client name) rest is = absurd is
is_rest kinds.Forget rest is = absurd is
is_rest (kinds.Receive frame) rest is = refl

-- an event that no book of version 1 has makes the book one of version 2
pub version_two : (events : List BookEvent) (i : ℕ) (event : BookEvent) → i < length events → get_or events i event ≡ event → (AllowsKind One event.kind → ⊥) → Two ≡ version_for events
version_two [] i event low at not = absurd (omega (arith, low))
version_two (e ∷ events) zero event low at not = sym (is_two e.kind (version_for events) (λ ok. not (subst (λ (x : BookEvent). AllowsKind One x.kind) at ok)))
version_two (e ∷ events) (suc i) event low at not =
    sym (ap (version_with e.kind) (sym (version_two events i event (omega (arith, low)) at not)) ∙ stays_two e.kind)

pub version_one : (events : List BookEvent) → All (λ event. AllowsKind One event.kind) events → One ≡ version_for events
version_one [] all = refl
version_one (e ∷ events) all =
    version_one events (All-tail (λ (x : BookEvent). AllowsKind One x.kind) e events all)
    ∙ sym (is_rest e.kind (version_for events) (All-head (λ (x : BookEvent). AllowsKind One x.kind) e events all))

-- ---- One line after the other

zip_push : (lines : List (List ℕ)) (kinds : List BookKind) (line : List ℕ) (kind : BookKind) → AllZip IsWrittenEvent lines kinds → IsWrittenEvent line kind
    → AllZip IsWrittenEvent (lines ++ line ∷ []) (kinds ++ kind ∷ [])
zip_push [] [] line kind h one = (one, tt)
zip_push [] (k ∷ ks) line kind h one = absurd h
zip_push (l ∷ ls) [] line kind h one = absurd h
zip_push (l ∷ ls) (k ∷ ks) line kind h one = (h.0, zip_push ls ks line kind h.1 one)

text_push : (lines : List (List ℕ)) (line : List ℕ) → lines_text (lines ++ line ∷ []) ≡ lines_text lines ++ (line ++ 10 ∷ [])
text_push [] line = append-nil (line ++ 10 ∷ [])
text_push (l ∷ ls) line = ap (λ (t : List ℕ). (l ++ 10 ∷ []) ++ t) (text_push ls line) ∙ sym (append_assoc (l ++ 10 ∷ []) (lines_text ls) (line ++ 10 ∷ []))

pub none_yet : (draft : Draft) (first : List ℕ) → Says draft first → SaysEvents draft first []
none_yet draft first says = ([], tt, λ kept. says kept ∙ sym (append-nil first))

pub one_more : (old new : Draft) (first : List ℕ) (events : List BookEvent) (event : BookEvent) → SaysEvents old first events → AddsEvent old new event.kind
    → SaysEvents new first (events ++ event ∷ [])
one_more old new first events event (lines, are, says) (line, one, adds) = (
  lines ++ line ∷ [],
  subst (AllZip IsWrittenEvent (lines ++ line ∷ [])) (sym (map-append (λ (e : BookEvent). e.kind) events (event ∷ [])))
      (zip_push lines (map (λ (e : BookEvent). e.kind) events) line event.kind are one),
  λ kept. adds.says (first ++ lines_text lines) says kept
      ∙ (append_assoc first (lines_text lines) (line ++ 10 ∷ []) ∙ ap (λ (t : List ℕ). first ++ t) (sym (text_push lines line))),
)

-- the first line, and the lines of the events
pub whole_book : (book : BookState) (text : List ℕ) (lines : List (List ℕ)) → HasHistory book → book.start < 2 ^ 64
    → AllZip IsWrittenEvent lines (map (λ (e : BookEvent). e.kind) book.events)
    → text ≡ (first_text (version_for book.events) book.me book.nodes book.start ++ codes "\n") ++ lines_text lines
    → (lines : List (List ℕ)) × IsWrittenBook lines book × AddsLines [] text lines
whole_book book text lines kept below are is =
    let line = first_text (version_for book.events) book.me book.nodes book.start in (
      line ∷ lines,
      record {
        first = line;
        events = lines;
        lines_are = refl;
        is_first = first_line (version_for book.events) book.me book.nodes book.start kept.count kept.member below;
        no_feed = first_free (version_for book.events) book.me book.nodes book.start kept.count kept.member below;
        are_events = are;
      },
      is,
    )

-- ---- A book that is written has no frame without a text

frame_fits : (bytes : List ℕ) (clock : ℕ) (message : Message) → IsMessageText V2 bytes clock message → Fits (record { clock = clock; message = message })
frame_fits bytes clock (Request from to name mode seq) h = record { clock = h.clock_range; seq = h.seq_range.0; apart = h.apart }
frame_fits bytes clock (Reply from to name seq) h = record { clock = h.clock_range; seq = h.seq_range.0; apart = h.apart }

event_fits : (line : List ℕ) (kind : BookKind) → IsWrittenEvent line kind → IsUnfit kind → ⊥
event_fits line (kinds.Ask client name mode) h unfit = unfit
event_fits line (kinds.Leave client name) h unfit = unfit
event_fits line (kinds.Cancel client name) h unfit = unfit
event_fits line kinds.Forget h unfit = unfit
event_fits line (kinds.Receive frame) h unfit = let (bytes, text, is) = h.spelled in unfit (frame_fits bytes frame.clock frame.message text)

all_fit : (lines : List (List ℕ)) (events : List BookEvent) → AllZip IsWrittenEvent lines (map (λ event. event.kind) events)
    → All (λ event. IsUnfit event.kind → ⊥) events
all_fit [] [] h = All-nil (λ event. IsUnfit event.kind → ⊥)
all_fit [] (e ∷ events) h = absurd h
all_fit (l ∷ lines) [] h = absurd h
all_fit (l ∷ lines) (e ∷ events) h =
    All-cons (λ event. IsUnfit event.kind → ⊥) e events (event_fits l e.kind h.0) (all_fit lines events h.1)

pub none_unfit : (lines : List (List ℕ)) (events : List BookEvent) → AllZip IsWrittenEvent lines (map (λ event. event.kind) events)
    → Any (λ event. IsUnfit event.kind) events → ⊥
none_unfit lines events h (k, event, low, at, unfit) = all_fit lines events h k event low (subst (λ (e : BookEvent). IsUnfit e.kind) (sym at) unfit)
