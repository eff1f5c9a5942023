-- The digits of frames.
use Rattle.std.proofs.Common.{◌≡◌, ◌<◌, ◌≤◌, ◌/◌, ℕ, true, List, [], ◌∷◌, ◌++◌, length, refl, sym, ap, subst, ◌∙◌, arith, lit<}
use Rattle.std.specs.Prelude.{All, Result, nat_lt, Ok}
use Rattle.std.specs.Result.{result_unwrap_or}
use Rattle.hex.specs.declared.error.FromHexError.{FromHexError}
use Rattle.std.specs.Int.{w16, w64, to_be_bytes}
use Rattle.std.specs.Str.{IsAscii, IsUtf8}
use Rattle.std.proofs.lemmas.Bool.Decides.{nat_tests}
use Rattle.std.proofs.lemmas.List.Elements.{All-append, All-cons, All-same, All-weaker}
use Rattle.std.proofs.lemmas.List.Sums.{AllPass-from_list_all}
use Rattle.std.proofs.lemmas.Str.{IsUtf8-from_ascii}
use Rattle.std.proofs.lemmas.Str.Ascii.{IsAscii-from_all}
use Rattle.hex.specs.Hex.{decode_sized, encode_lower, lower_digits}
use Rattle.hex.proofs.HexLemmas.{IsAscii-encode_with, decode_sized-encode_lower, length-encode_with}
use Rattle.ra_stamp.specs.Name.{is_name_byte}
use Rattle.ra_stamp.specs.declared.message.Message.{Message}
use Rattle.ra_stamp.specs.declared.message.Message.TheVariants.{Request, Reply}
use Rattle.ra_frame.specs.declared.format.Format.TheVariants.{V2}
use Rattle.ra_frame.specs.declared.frame.Frame.{Frame}
use Rattle.ra_frame.specs.FrameText.{HasFields, IsFrameText, IsMessageText, IsWrittenText, mode_byte}
use Rattle.ra_trace.proofs.Cuts.{IsFree}
use Rattle.ra_host_text.specs.HostText.{IsFrameDigits, nonce_text}
use Rattle.ra_host_text.proofs.Nonces.{are_bytes, digits_free, high_first}

-- ---- Digits are ASCII

ascii_digits : IsAscii lower_digits
ascii_digits =
    IsAscii-from_all lower_digits (All-weaker (λ b. nat_lt b 128 ≡ true) (λ b. b < 128) (λ b h. grind (arith, nat_tests)) lower_digits
    (AllPass-from_list_all (λ b. nat_lt b 128) lower_digits refl))

pub digits_are_utf8 : (bytes : List ℕ) → IsUtf8 (encode_lower bytes)
digits_are_utf8 bytes = IsUtf8-from_ascii (encode_lower bytes) (IsAscii-encode_with lower_digits bytes ascii_digits)

pub nonce_is_utf8 : (nonce : ℕ) → IsUtf8 (nonce_text nonce)
unfolding nonce_text
nonce_is_utf8 nonce = digits_are_utf8 _

-- ---- The bytes of a frame

name_byte : (b : ℕ) → is_name_byte b ≡ true → b < 256
name_byte b h = grind (arith, nat_tests)

-- the bytes of these fields
abbrev whole : ℕ → ℕ → ℕ → ℕ → ℕ → ℕ → List ℕ → List ℕ
whole kind from to mode seq clock name =
    2 ∷ kind ∷ (to_be_bytes w16 from ++ (to_be_bytes w16 to ++ mode ∷ (to_be_bytes w64 seq ++ (to_be_bytes w64 clock ++ length name ∷ name))))

fields_bytes : (bytes : List ℕ) (kind from to mode seq clock : ℕ) (name : List ℕ) → kind < 256 → HasFields V2 bytes kind from to mode seq clock name
    → All (λ b. b < 256) bytes × (length bytes ≤ 56)
fields_bytes bytes kind from to mode seq clock name low h =
    let few = h.is_name.not_long in
    let least = h.mode_range in
    let named = All-weaker (λ b. is_name_byte b ≡ true) (λ b. b < 256) name_byte name h.is_name.each in
    let last = All-cons (λ b. b < 256) (length name) name (omega (arith, few)) named in
    let clocked = All-append (λ b. b < 256) (to_be_bytes w64 clock) (length name ∷ name) (high_first 8 clock) last in
    let numbered = All-append (λ b. b < 256) (to_be_bytes w64 seq) (to_be_bytes w64 clock ++ length name ∷ name) (high_first 8 seq) clocked in
    let moded = All-cons (λ b. b < 256) mode (to_be_bytes w64 seq ++ (to_be_bytes w64 clock ++ length name ∷ name)) (omega (arith, least)) numbered in
    let received = All-append (λ b. b < 256) (to_be_bytes w16 to) (mode ∷ (to_be_bytes w64 seq ++ (to_be_bytes w64 clock ++ length name ∷ name))) (high_first 2 to) moded in
    let sent = All-append (λ b. b < 256) (to_be_bytes w16 from) (to_be_bytes w16 to ++ mode ∷ (to_be_bytes w64 seq ++ (to_be_bytes w64 clock ++ length name ∷ name)))
    (high_first 2 from) received in
    let after = to_be_bytes w16 from ++ (to_be_bytes w16 to ++ mode ∷ (to_be_bytes w64 seq ++ (to_be_bytes w64 clock ++ length name ∷ name))) in
    let all = All-cons (λ b. b < 256) 2 (kind ∷ after) (lit< tt) (All-cons (λ b. b < 256) kind after low sent) in
    let long = ap length h.spelled in
    (All-same (λ b. b < 256) bytes (whole kind from to mode seq clock name) h.spelled all, omega (arith, long, few))

message_bytes : (bytes : List ℕ) (clock : ℕ) (message : Message) → IsMessageText V2 bytes clock message → All (λ b. b < 256) bytes × (length bytes ≤ 56)
message_bytes bytes clock (Request from to name mode seq) h = fields_bytes bytes 1 from to (mode_byte mode) seq clock name (lit< tt) h
message_bytes bytes clock (Reply from to name seq) h = fields_bytes bytes 2 from to 0 seq clock name (lit< tt) h

frame_bytes : (bytes : List ℕ) (frame : Frame) → IsWrittenText bytes frame → All (λ b. b < 256) bytes × (length bytes ≤ 56)
frame_bytes bytes frame h = message_bytes bytes frame.clock frame.message h

-- ---- The digits of a frame

pub digits_short : (digits : List ℕ) (frame : Frame) → IsFrameDigits digits frame → length digits ≤ 112
digits_short digits frame (bytes, written, is) =
    let long = ap length is in
    let twice = length-encode_with lower_digits bytes in
    let few = (frame_bytes bytes frame written).1 in
    omega (arith, long, twice, few)

-- they decode into half as many bytes, which are its text
pub digits_decode : (digits : List ℕ) (frame : Frame) (n : ℕ) → n ≡ length digits / 2 → IsFrameDigits digits frame
    → (bytes : List ℕ) × IsWrittenText bytes frame × (decode_sized digits n ≡ Ok bytes)
digits_decode digits frame n half (bytes, written, is) =
    let long = ap length is in
    let twice = length-encode_with lower_digits bytes in
    let same : length bytes ≡ n = omega (arith, long, twice, half) in
    (bytes, written, ap (λ (d : List ℕ). decode_sized d n) is ∙ decode_sized-encode_lower bytes n same (are_bytes bytes (frame_bytes bytes frame written).0))

pub frame_free : (byte : ℕ) → 0 < byte → byte < 48 → (digits : List ℕ) (frame : Frame) → IsFrameDigits digits frame → IsFree byte digits
frame_free byte some low digits frame (bytes, written, is) = subst (IsFree byte) (sym is) (digits_free byte some low bytes)

pub frame_is_utf8 : (digits : List ℕ) (frame : Frame) → IsFrameDigits digits frame → IsUtf8 digits
frame_is_utf8 digits frame (bytes, written, is) = subst IsUtf8 (sym is) (digits_are_utf8 bytes)

-- they are of one frame
pub one_frame : ((bytes : List ℕ) (a b : Frame) → IsFrameText bytes a → IsFrameText bytes b → a ≡ b)
    → (digits : List ℕ) (a b : Frame) → IsFrameDigits digits a → IsFrameDigits digits b → a ≡ b
one_frame law digits a b is other =
    let (bytes, written, at) = digits_decode digits a (length digits / 2) refl is in
    let (bytes', written', at') = digits_decode digits b (length digits / 2) refl other in
    let same : bytes ≡ bytes' = ap (λ (r : Result (List ℕ) FromHexError). result_unwrap_or r []) (sym at ∙ at') in
    law bytes a b (V2, written) (V2, subst (λ (bs : List ℕ). IsWrittenText bs b) (sym same) written')

-- ---- By decoding

pub undecoded : (digits : List ℕ) → ((bytes : List ℕ) → decode_sized digits (length digits / 2) ≡ Ok bytes → ⊥) → (frame : Frame) → IsFrameDigits digits frame → ⊥
undecoded digits none frame is = let (bytes, written, at) = digits_decode digits frame (length digits / 2) refl is in none bytes at

pub decoded_as : ((bytes : List ℕ) (frame : Frame) → IsWrittenText bytes frame → IsFrameText bytes frame)
    → (digits bytes : List ℕ) → decode_sized digits (length digits / 2) ≡ Ok bytes → (frame : Frame) → IsFrameDigits digits frame → IsFrameText bytes frame
decoded_as law digits bytes decoded frame is =
    let (bytes', written, at) = digits_decode digits frame (length digits / 2) refl is in
    let same : bytes' ≡ bytes = ap (λ (r : Result (List ℕ) FromHexError). result_unwrap_or r []) (sym at ∙ decoded) in
    subst (λ (bs : List ℕ). IsFrameText bs frame) same (law bytes' frame written)
