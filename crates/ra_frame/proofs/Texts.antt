-- Frame texts, and bytes that pass the checks.
use Rattle.std.proofs.Common.{◌≡◌, ℕ, zero, suc, ◌+◌, ◌-◌, ◌^◌, ◌<◌, ◌≤◌, true, List, [], ◌∷◌, ◌++◌, length, get_or, take, drop, None, refl, sym, ap, subst, ◌∙◌, arith, inl, inr}
use Rattle.std.specs.Prelude.{◌||◌, ◌⊎◌, All, slice_index, slice_range, Result, Ok, Err, ◌==◌}
use Rattle.std.specs.Int.{w16, w64, from_be_bytes, to_be_bytes}
use Rattle.std.specs.List.{list_all}
use Rattle.std.proofs.lemmas.Bool.{cases_lt}
use Rattle.std.proofs.lemmas.List.{take_all, length-take, length-drop, get_or-drop, get_or-take, get_or_past}
use Rattle.std.proofs.lemmas.Nat.{be_bytes_2, be_bytes_8, from_be_bytes-to_be_bytes_2, from_be_bytes-to_be_bytes_8}
use Rattle.std.proofs.lemmas.List.Sums.{AllPass-from_list_all, list_all-from_AllPass}
use Rattle.ra_stamp.specs.Name.{is_name_byte}
use Rattle.ra_stamp.specs.declared.mode.Mode.{Mode}
use Rattle.ra_stamp.specs.declared.mode.Mode.TheVariants.{Shared, Exclusive, IntentShared, IntentExclusive, SharedIntentExclusive}
use Rattle.ra_stamp.specs.declared.message.Message.{Message}
use Rattle.ra_stamp.specs.declared.message.Message.TheVariants.{Request, Reply}
use Rattle.ra_frame.specs.declared.error.FrameError.{FrameError}
use Rattle.ra_frame.specs.declared.format.Format.{Format}
use Rattle.ra_frame.specs.declared.format.Format.TheVariants.{V1, V2}
use Rattle.ra_frame.specs.declared.frame.Frame.{Frame}
use Rattle.ra_frame.specs.Format.{version_byte, node_bytes, to_place, mode_place, greatest_node, greatest_mode}
use Rattle.ra_frame.specs.Faults.{first_fault, first_fault_of, format_of, fault_by, checks_of, node_at, number_at, greatest_mode_of}
use Rattle.ra_frame.specs.FrameText.{HasFields, mode_byte, IsMessageText, IsFrameTextOf, IsFrameText, IsWrittenText}
use Rattle.ra_frame.specs.Fits.{Fits}
use Rattle.ra_frame.specs.Checked.{IsChecked, clock_in, name_in}
use Rattle.ra_frame.proofs.Checks.{a_kind, checked, of_request, of_reply, within, same, different, not_above, none_failing}

-- what comes from the mode on: it is the same in both versions
abbrev pub rest_of : ℕ → ℕ → ℕ → List ℕ → List ℕ
rest_of mode seq clock name = mode ∷ (to_be_bytes w64 seq ++ (to_be_bytes w64 clock ++ length name ∷ name))

-- the text of these fields
abbrev pub spelled : Format → ℕ → ℕ → ℕ → List ℕ → List ℕ
spelled format kind from to rest = version_byte format ∷ kind ∷ (node_bytes format from ++ (node_bytes format to ++ rest))

abbrev pub IsBytes : List ℕ → Type 0
IsBytes bytes = (i : ℕ) → get_or bytes i 0 < 256

-- eight bytes are the bytes of their number
eight_again : (bytes : List ℕ) → length bytes ≡ 8 → IsBytes bytes → to_be_bytes w64 (from_be_bytes w64 bytes) ≡ bytes
eight_again bytes len fits = be_bytes_8 bytes _ len fits refl

IsBytes-drop : (n : ℕ) (bytes : List ℕ) → IsBytes bytes → IsBytes (drop n bytes)
IsBytes-drop n bytes h i = rw get_or-drop (h (n + i))

IsBytes-take : (n : ℕ) (bytes : List ℕ) → IsBytes bytes → IsBytes (take n bytes)
IsBytes-take n bytes h i =
    elim (cases_lt i n) [
      | inl lt ↦ rw (get_or-take n bytes i 0 lt) (h i)
      | inr le ↦ rw (get_or_past (take n bytes) i 0 (omega (arith, length-take n bytes))) (omega arith)
    ]

-- eight bytes from a place on
eight_at : (bytes : List ℕ) (place : ℕ) → IsBytes bytes → IsBytes (take 8 (drop place bytes))
eight_at bytes place fits = IsBytes-take 8 (drop place bytes) (IsBytes-drop place bytes fits)

is_below : (bytes : List ℕ) → IsBytes bytes → from_be_bytes w64 bytes < 2 ^ 64
is_below bytes fits = omega (arith, fits 0, fits 1, fits 2, fits 3, fits 4, fits 5, fits 6, fits 7)

two_again : (bytes : List ℕ) → length bytes ≡ 2 → IsBytes bytes → to_be_bytes w16 (from_be_bytes w16 bytes) ≡ bytes
two_again bytes len fits = be_bytes_2 bytes _ len fits refl

-- bytes from the mode on, if the name is as long as is said
pieces : (mode len : ℕ) (seq clock name seq' clock' : List ℕ) → seq' ≡ seq → clock' ≡ clock → length name ≡ len
    → mode ∷ (seq ++ (clock ++ len ∷ name)) ≡ mode ∷ (seq' ++ (clock' ++ length name ∷ name))
pieces mode len seq clock name seq' clock' s c l = cc

rest_again : (rest : List ℕ) → IsBytes rest → length rest ≡ 18 + slice_index rest 17 → rest ≡ rest_of (slice_index rest 0) (number_at rest 1) (number_at rest 9) (drop 18 rest)
rest_again (b0 ∷ b1 ∷ b2 ∷ b3 ∷ b4 ∷ b5 ∷ b6 ∷ b7 ∷ b8 ∷ b9 ∷ b10 ∷ b11 ∷ b12 ∷ b13 ∷ b14 ∷ b15 ∷ b16 ∷ b17 ∷ name) fits long =
    let rest : List ℕ = b0 ∷ b1 ∷ b2 ∷ b3 ∷ b4 ∷ b5 ∷ b6 ∷ b7 ∷ b8 ∷ b9 ∷ b10 ∷ b11 ∷ b12 ∷ b13 ∷ b14 ∷ b15 ∷ b16 ∷ b17 ∷ name in
    let seq : List ℕ = b1 ∷ b2 ∷ b3 ∷ b4 ∷ b5 ∷ b6 ∷ b7 ∷ b8 ∷ [] in
    let clock : List ℕ = b9 ∷ b10 ∷ b11 ∷ b12 ∷ b13 ∷ b14 ∷ b15 ∷ b16 ∷ [] in
    pieces b0 b17 seq clock name _ _ (eight_again seq refl (eight_at rest 1 fits)) (eight_again clock refl (eight_at rest 9 fits)) (omega (arith, long))
rest_again rest fits long = absurd (omega (arith, long))

head_1 : (b0 kind from to : ℕ) (rest rest' : List ℕ) → b0 ≡ 1 → rest ≡ rest' → b0 ∷ kind ∷ from ∷ to ∷ rest ≡ spelled V1 kind from to rest'
head_1 b0 kind from to rest rest' v r = cc

head_2 : (b0 kind b2 b3 b4 b5 : ℕ) (from to rest rest' : List ℕ) → b0 ≡ 2 → from ≡ b2 ∷ b3 ∷ [] → to ≡ b4 ∷ b5 ∷ [] → rest ≡ rest'
    → b0 ∷ kind ∷ b2 ∷ b3 ∷ b4 ∷ b5 ∷ rest ≡ 2 ∷ kind ∷ (from ++ (to ++ rest'))
head_2 b0 kind b2 b3 b4 b5 from to rest rest' v f t r = cc

-- bytes of the length that they say are spelled as a version has it
spelled_of : (format : Format) (bytes : List ℕ) → IsBytes bytes → length bytes ≡ mode_place format + 18 + slice_index bytes (mode_place format + 17) → slice_index bytes 0 ≡ version_byte format
    → bytes ≡ spelled format (slice_index bytes 1) (node_at format bytes 2) (node_at format bytes (to_place format))
    (rest_of (slice_index bytes (mode_place format)) (number_at bytes (mode_place format + 1)) (clock_in format bytes) (drop (mode_place format + 18) bytes))
spelled_of V1 (b0 ∷ b1 ∷ b2 ∷ b3 ∷ rest) fits long version =
    head_1 b0 b1 b2 b3 rest _ version (rest_again rest (IsBytes-drop 4 (b0 ∷ b1 ∷ b2 ∷ b3 ∷ rest) fits) (omega (arith, long)))
spelled_of V2 (b0 ∷ b1 ∷ b2 ∷ b3 ∷ b4 ∷ b5 ∷ rest) fits long version =
    let bytes : List ℕ = b0 ∷ b1 ∷ b2 ∷ b3 ∷ b4 ∷ b5 ∷ rest in
    head_2 b0 b1 b2 b3 b4 b5 _ _ rest _ version
    (two_again (b2 ∷ b3 ∷ []) refl (IsBytes-take 2 (drop 2 bytes) (IsBytes-drop 2 bytes fits)))
    (two_again (b4 ∷ b5 ∷ []) refl (IsBytes-take 2 (drop 4 bytes) (IsBytes-drop 4 bytes fits)))
    (rest_again rest (IsBytes-drop 6 bytes fits) (omega (arith, long)))
spelled_of format bytes fits long version = absurd (omega (arith, long))

-- the name is what is after its length
name_whole : (place len : ℕ) (bytes : List ℕ) → length bytes ≡ place + len → slice_range bytes place (place + len) ≡ drop place bytes
name_whole place len bytes long = take_all ((place + len) - place) (drop place bytes) (omega (arith, length-drop place bytes))

mode_low_of : (format : Format) (kind : ℕ) → (kind ≡ 1) ⊎ (kind ≡ 2) → greatest_mode_of format kind ≤ greatest_mode format
mode_low_of format kind k =
    elim k [
      | inl request ↦ omega (arith, of_request format kind request)
      | inr reply ↦ omega (arith, of_reply format kind reply)
    ]

-- bytes that pass the checks have the fields that are in them
pub fields_of : (format : Format) (bytes : List ℕ) → IsBytes bytes → IsChecked format bytes
    → HasFields format bytes (slice_index bytes 1) (node_at format bytes 2) (node_at format bytes (to_place format)) (slice_index bytes (mode_place format)) (number_at bytes (mode_place format + 1)) (clock_in format bytes) (name_in format bytes)
fields_of format bytes fits h =
    let place = mode_place format in
    let name : name_in format bytes ≡ drop (place + 18) bytes = name_whole (place + 18) (slice_index bytes (place + 17)) bytes h.long in
    let len : length (drop (place + 18) bytes) ≡ slice_index bytes (place + 17) = omega (arith, length-drop (place + 18) bytes, h.long) in
    record {
      from_range = (h.from_low, h.from_high);
      to_range = (h.to_low, h.to_high);
      apart = h.apart;
      mode_range = omega (arith, h.mode, mode_low_of format (slice_index bytes 1) h.kind);
      seq_range = (h.seq, is_below (slice_range bytes (place + 1) (place + 1 + 8)) (IsBytes-take _ _ (IsBytes-drop (place + 1) bytes fits)));
      clock_range = (h.clock_low, h.clock_high);
      is_name = record {
        not_empty = rw name (omega (arith, h.name_low));
        not_long = rw name (omega (arith, h.name_high));
        each = AllPass-from_list_all is_name_byte _ h.name;
      };
      spelled = rw name (spelled_of format bytes fits h.long h.version);
    }

-- what is at each place of a text
pub record Reads (format : Format) (bytes : List ℕ) (kind from to mode seq clock : ℕ) (name : List ℕ) : Type 0 where
  pub version_is : format_of bytes ≡ Ok format
  pub kind_is : slice_index bytes 1 ≡ kind
  pub from_is : node_at format bytes 2 ≡ from
  pub to_is : node_at format bytes (to_place format) ≡ to
  pub mode_is : slice_index bytes (mode_place format) ≡ mode
  pub seq_is : number_at bytes (mode_place format + 1) ≡ seq
  pub clock_is : clock_in format bytes ≡ clock
  pub len_is : slice_index bytes (mode_place format + 17) ≡ length name
  pub name_is : name_in format bytes ≡ name
  pub long : length bytes ≡ mode_place format + 18 + length name

reads_spelled : (format : Format) (kind from to mode seq clock : ℕ) (name : List ℕ) → from ≤ greatest_node format → to ≤ greatest_node format → seq < 2 ^ 64 → clock < 2 ^ 64
    → Reads format (spelled format kind from to (rest_of mode seq clock name)) kind from to mode seq clock name
reads_spelled V1 kind from to mode seq clock name f t s c = record {
  version_is = refl;
  kind_is = refl;
  from_is = refl;
  to_is = refl;
  mode_is = refl;
  seq_is = from_be_bytes-to_be_bytes_8 seq s;
  clock_is = from_be_bytes-to_be_bytes_8 clock c;
  len_is = refl;
  name_is = take_all ((22 + length name) - 22) name (omega arith);
  long = omega arith;
}
reads_spelled V2 kind from to mode seq clock name f t s c = record {
  version_is = refl;
  kind_is = refl;
  from_is = from_be_bytes-to_be_bytes_2 from (omega arith);
  to_is = from_be_bytes-to_be_bytes_2 to (omega arith);
  mode_is = refl;
  seq_is = from_be_bytes-to_be_bytes_8 seq s;
  clock_is = from_be_bytes-to_be_bytes_8 clock c;
  len_is = refl;
  name_is = take_all ((24 + length name) - 24) name (omega arith);
  long = omega arith;
}

pub reads : (format : Format) (bytes : List ℕ) (kind from to mode seq clock : ℕ) (name : List ℕ) → HasFields format bytes kind from to mode seq clock name → Reads format bytes kind from to mode seq clock name
reads format bytes kind from to mode seq clock name h =
    subst (λ (text : List ℕ). Reads format text kind from to mode seq clock name) (sym h.spelled)
    (reads_spelled format kind from to mode seq clock name h.from_range.1 h.to_range.1 h.seq_range.1 (omega (arith, h.clock_range.1)))

-- a text passes the checks
text_passes : (format : Format) (bytes : List ℕ) (kind from to mode seq clock : ℕ) (name : List ℕ) → (kind ≡ 1) ⊎ (kind ≡ 2) → mode ≤ greatest_mode_of format kind
    → HasFields format bytes kind from to mode seq clock name → first_fault bytes ≡ None
text_passes format bytes kind from to mode seq clock name k m h =
    let r = reads format bytes kind from to mode seq clock name h in
    let kind_right : (slice_index bytes 1 == 1 || slice_index bytes 1 == 2) ≡ true = rw r.kind_is (a_kind kind k) in
    let mode_low : slice_index bytes (mode_place format) ≤ greatest_mode_of format (slice_index bytes 1) = rw (r.mode_is, r.kind_is) m in
    let low = h.is_name.not_empty in
    let high = h.is_name.not_long in
    let name_right : list_all is_name_byte (name_in format bytes) ≡ true = rw r.name_is (list_all-from_AllPass is_name_byte name h.is_name.each) in
    let seq_low : 1 ≤ number_at bytes (mode_place format + 1) = rw r.seq_is h.seq_range.0 in
    let clock_low : 1 ≤ clock_in format bytes = rw r.clock_is h.clock_range.0 in
    let clock_high : clock_in format bytes ≤ 2 ^ 62 = rw r.clock_is h.clock_range.1 in
    let apart : node_at format bytes 2 ≡ node_at format bytes (to_place format) → ⊥ = λ e. h.apart (sym r.from_is ∙ (e ∙ r.to_is)) in
    let end_is : length bytes ≡ mode_place format + 18 + slice_index bytes (mode_place format + 17) = omega (arith, r.long, r.len_is) in
    let none : first_fault_of format bytes ≡ None = none_failing (length bytes) (checks_of format bytes) (
      omega (arith, r.long),
      kind_right,
      (
        omega (arith, r.long),
        within 1 (greatest_node format) (node_at format bytes 2) (rw r.from_is h.from_range.0) (rw r.from_is h.from_range.1),
        (
          omega (arith, r.long),
          within 1 (greatest_node format) (node_at format bytes (to_place format)) (rw r.to_is h.to_range.0) (rw r.to_is h.to_range.1),
          (
            omega (arith, r.long),
            different apart,
            (
              omega (arith, r.long),
              not_above mode_low,
              (
                omega (arith, r.long),
                not_above seq_low,
                (
                  omega (arith, r.long),
                  within 1 (2 ^ 62) (clock_in format bytes) clock_low clock_high,
                  (
                    omega (arith, r.long),
                    within 1 32 (slice_index bytes (mode_place format + 17)) (rw r.len_is low) (rw r.len_is high),
                    (
                      omega (arith, r.long, r.len_is),
                      name_right,
                      (omega (arith, r.long, r.len_is), same end_is, tt),
                    ),
                  ),
                ),
              ),
            ),
          ),
        ),
      ),
    ) in
    ap (λ (f : Result Format FrameError). fault_by f bytes) r.version_is ∙ none

-- ---- Modes and their bytes

byte_mode : (byte : ℕ) → byte ≤ 4 → (mode : Mode) × (mode_byte mode ≡ byte)
byte_mode zero h = (Shared, refl)
byte_mode (suc zero) h = (Exclusive, refl)
byte_mode (suc (suc zero)) h = (IntentShared, refl)
byte_mode (suc (suc (suc zero))) h = (IntentExclusive, refl)
byte_mode (suc (suc (suc (suc zero)))) h = (SharedIntentExclusive, refl)
byte_mode (suc (suc (suc (suc (suc byte))))) h = absurd (omega arith)

-- the mode of a byte, if it has one
mode_in : ℕ → Mode
mode_in zero = Shared
mode_in (suc zero) = Exclusive
mode_in (suc (suc zero)) = IntentShared
mode_in (suc (suc (suc zero))) = IntentExclusive
mode_in (suc (suc (suc (suc byte)))) = SharedIntentExclusive

mode_back : (mode : Mode) → mode_in (mode_byte mode) ≡ mode
unfolding mode_in
mode_back Shared = refl
mode_back Exclusive = refl
mode_back IntentShared = refl
mode_back IntentExclusive = refl
mode_back SharedIntentExclusive = refl

same_mode : (a b : Mode) → mode_byte a ≡ mode_byte b → a ≡ b
same_mode a b e = sym (mode_back a) ∙ (ap mode_in e ∙ mode_back b)

-- ---- A text means one frame.

-- a text means one message at one clock, in one version
one_message : (format : Format) (bytes : List ℕ) (clock clock' : ℕ) (a b : Message) → IsMessageText format bytes clock a → IsMessageText format bytes clock' b → (clock ≡ clock') × (a ≡ b)
one_message format bytes clock clock' (Request from to name mode seq) (Request from' to' name' mode' seq') h k =
    let r = reads format bytes 1 from to (mode_byte mode) seq clock name h in
    let q = reads format bytes 1 from' to' (mode_byte mode') seq' clock' name' k in
    let mode_same : mode ≡ mode' = same_mode mode mode' (sym r.mode_is ∙ q.mode_is) in
    let from_same : from ≡ from' = sym r.from_is ∙ q.from_is in
    let to_same : to ≡ to' = sym r.to_is ∙ q.to_is in
    let name_same : name ≡ name' = sym r.name_is ∙ q.name_is in
    let seq_same : seq ≡ seq' = sym r.seq_is ∙ q.seq_is in
    (sym r.clock_is ∙ q.clock_is, rw (from_same, to_same, name_same, mode_same, seq_same) refl)
one_message format bytes clock clock' (Reply from to name seq) (Reply from' to' name' seq') h k =
    let r = reads format bytes 2 from to 0 seq clock name h in
    let q = reads format bytes 2 from' to' 0 seq' clock' name' k in
    let from_same : from ≡ from' = sym r.from_is ∙ q.from_is in
    let to_same : to ≡ to' = sym r.to_is ∙ q.to_is in
    let name_same : name ≡ name' = sym r.name_is ∙ q.name_is in
    let seq_same : seq ≡ seq' = sym r.seq_is ∙ q.seq_is in
    (sym r.clock_is ∙ q.clock_is, rw (from_same, to_same, name_same, seq_same) refl)
one_message format bytes clock clock' (Request from to name mode seq) (Reply from' to' name' seq') h k =
    let r = reads format bytes 1 from to (mode_byte mode) seq clock name h in
    let q = reads format bytes 2 from' to' 0 seq' clock' name' k in
    absurd (omega (arith, r.kind_is, q.kind_is))
one_message format bytes clock clock' (Reply from' to' name' seq') (Request from to name mode seq) k h =
    let r = reads format bytes 1 from to (mode_byte mode) seq clock' name h in
    let q = reads format bytes 2 from' to' 0 seq' clock name' k in
    absurd (omega (arith, r.kind_is, q.kind_is))

-- the version of a text
version_of_text : (format : Format) (bytes : List ℕ) (clock : ℕ) (message : Message) → IsMessageText format bytes clock message → format_of bytes ≡ Ok format
version_of_text format bytes clock (Request from to name mode seq) h = (reads format bytes 1 from to (mode_byte mode) seq clock name h).version_is
version_of_text format bytes clock (Reply from to name seq) h = (reads format bytes 2 from to 0 seq clock name h).version_is

same_version : {a b : Format} {r : Result Format FrameError} → r ≡ Ok a → r ≡ Ok b → b ≡ a
same_version {a} {b} {r} h k = cc

-- a text means one frame
pub one_frame : (bytes : List ℕ) (a b : Frame) → IsFrameText bytes a → IsFrameText bytes b → a ≡ b
one_frame bytes a b h k =
    let version : k.0 ≡ h.0 = same_version (version_of_text h.0 bytes a.clock a.message h.1) (version_of_text k.0 bytes b.clock b.message k.1) in
    let text : IsFrameTextOf h.0 bytes b = subst (λ (format : Format). IsFrameTextOf format bytes b) version k.1 in
    let e = one_message h.0 bytes a.clock b.clock a.message b.message h.1 text in
    λ i. record { clock = e.0 i; message = e.1 i }

-- a text has no fault
pub message_passes : (format : Format) (bytes : List ℕ) (clock : ℕ) (message : Message) → IsMessageText format bytes clock message → first_fault bytes ≡ None
message_passes format bytes clock (Request from to name mode seq) h = text_passes format bytes 1 from to (mode_byte mode) seq clock name (inl refl) h.mode_range h
message_passes format bytes clock (Reply from to name seq) h = text_passes format bytes 2 from to 0 seq clock name (inr refl) (omega arith) h

pub no_fault : (bytes : List ℕ) (frame : Frame) → IsFrameText bytes frame → first_fault bytes ≡ None
no_fault bytes frame text = message_passes text.0 bytes frame.clock frame.message text.1

-- one frame has one text in one version
one_text : (format : Format) (a b : List ℕ) (clock : ℕ) (message : Message) → IsMessageText format a clock message → IsMessageText format b clock message → a ≡ b
one_text format a b clock (Request from to name mode seq) h k = h.spelled ∙ sym k.spelled
one_text format a b clock (Reply from to name seq) h k = h.spelled ∙ sym k.spelled

pub one_spelling : (format : Format) (a b : List ℕ) (frame : Frame) → IsFrameTextOf format a frame → IsFrameTextOf format b frame → a ≡ b
one_spelling format a b frame = one_text format a b frame.clock frame.message

-- the frame of a text fits
pub text_fits : (format : Format) (bytes : List ℕ) (clock : ℕ) (message : Message) → IsMessageText format bytes clock message → Fits (record { clock = clock; message = message })
text_fits format bytes clock (Request from to name mode seq) h = record { clock = h.clock_range; seq = h.seq_range.0; apart = h.apart }
text_fits format bytes clock (Reply from to name seq) h = record { clock = h.clock_range; seq = h.seq_range.0; apart = h.apart }

-- ---- A frame that is read has a text in version 2.

node_in_2 : (format : Format) (node : ℕ) → (1 ≤ node) × (node ≤ greatest_node format) → (1 ≤ node) × (node ≤ 64)
node_in_2 V1 node h = (h.0, omega arith)
node_in_2 V2 node h = h

mode_in_2 : (format : Format) (mode : ℕ) → mode ≤ greatest_mode format → mode ≤ 4
mode_in_2 V1 mode h = omega arith
mode_in_2 V2 mode h = h

fields_in_2 : (format : Format) (bytes : List ℕ) (kind from to mode seq clock : ℕ) (name : List ℕ) → HasFields format bytes kind from to mode seq clock name
    → HasFields V2 (spelled V2 kind from to (rest_of mode seq clock name)) kind from to mode seq clock name
fields_in_2 format bytes kind from to mode seq clock name h = record {
  from_range = node_in_2 format from h.from_range;
  to_range = node_in_2 format to h.to_range;
  apart = h.apart;
  mode_range = mode_in_2 format mode h.mode_range;
  seq_range = h.seq_range;
  clock_range = h.clock_range;
  is_name = h.is_name;
  spelled = refl;
}

message_in_2 : (format : Format) (bytes : List ℕ) (clock : ℕ) (message : Message) → IsMessageText format bytes clock message → (text : List ℕ) × IsMessageText V2 text clock message
message_in_2 format bytes clock (Request from to name mode seq) h =
    (spelled V2 1 from to (rest_of (mode_byte mode) seq clock name), fields_in_2 format bytes 1 from to (mode_byte mode) seq clock name h)
message_in_2 format bytes clock (Reply from to name seq) h = (spelled V2 2 from to (rest_of 0 seq clock name), fields_in_2 format bytes 2 from to 0 seq clock name h)

pub written_again : (bytes : List ℕ) (frame : Frame) → IsFrameText bytes frame → (text : List ℕ) × IsWrittenText text frame
written_again bytes frame text = message_in_2 text.0 bytes frame.clock frame.message text.1

-- ---- Bytes with no fault are a text.

-- the fields of a REQUEST and of a REPLY
pub request_fields : (format : Format) (bytes : List ℕ) → IsBytes bytes → IsChecked format bytes → slice_index bytes 1 ≡ 1
    → HasFields format bytes 1 (node_at format bytes 2) (node_at format bytes (to_place format)) (slice_index bytes (mode_place format)) (number_at bytes (mode_place format + 1)) (clock_in format bytes) (name_in format bytes)
request_fields format bytes fits h request =
    let fields = fields_of format bytes fits h in
    rw request at fields

pub reply_fields : (format : Format) (bytes : List ℕ) → IsBytes bytes → IsChecked format bytes → slice_index bytes 1 ≡ 2
    → HasFields format bytes 2 (node_at format bytes 2) (node_at format bytes (to_place format)) 0 (number_at bytes (mode_place format + 1)) (clock_in format bytes) (name_in format bytes)
reply_fields format bytes fits h reply =
    let fields = fields_of format bytes fits h in
    let none : slice_index bytes (mode_place format) ≡ 0 = omega (arith, h.mode, of_reply format (slice_index bytes 1) reply) in
    rw (reply, none) at fields

text_of_checked : (format : Format) (bytes : List ℕ) → IsBytes bytes → IsChecked format bytes → (frame : Frame) × IsFrameTextOf format bytes frame
text_of_checked format bytes fits h =
    elim h.kind [
      | inl request ↦
          let fields = request_fields format bytes fits h request in
          let mode = byte_mode (slice_index bytes (mode_place format)) (mode_in_2 format _ fields.mode_range) in (
            record { clock = clock_in format bytes; message = Request (node_at format bytes 2) (node_at format bytes (to_place format)) (name_in format bytes) mode.0 (number_at bytes (mode_place format + 1)) },
            rw mode.1 fields,
          )
      | inr reply ↦ (
        record { clock = clock_in format bytes; message = Reply (node_at format bytes 2) (node_at format bytes (to_place format)) (name_in format bytes) (number_at bytes (mode_place format + 1)) },
        reply_fields format bytes fits h reply,
      )
    ]

all_bytes : (bytes : List ℕ) → All (λ byte. byte < 256) bytes → IsBytes bytes
all_bytes bytes h i =
    elim (cases_lt i (length bytes)) [
      | inl within ↦ h i 0 within
      | inr past ↦ rw (get_or_past bytes i 0 past) (omega arith)
    ]

-- the version of bytes that have no fault
version_found : (bytes : List ℕ) (r : Result Format FrameError) → format_of bytes ≡ r → fault_by r bytes ≡ None → (format : Format) × (format_of bytes ≡ Ok format) × (first_fault_of format bytes ≡ None)
version_found bytes (Ok format) is none = (format, is, none)
version_found bytes (Err fault) is none = absurd cc

pub has_frame : (bytes : List ℕ) → All (λ byte. byte < 256) bytes → first_fault bytes ≡ None
    → (frame : Frame) × (format : Format) × IsFrameTextOf format bytes frame × ((other : List ℕ) → IsFrameTextOf format other frame → other ≡ bytes)
has_frame bytes all none =
    let version = version_found bytes (format_of bytes) refl none in
    let format = version.0 in
    let found = text_of_checked format bytes (all_bytes bytes all) (checked format bytes version.1 version.2) in
    (found.0, format, found.1, λ other text. one_spelling format other bytes found.0 text found.1)
