-- Messages are read as they are written.
use Rattle.std.proofs.Common.{◌≡◌, ◌==◌, ◌<◌, ℕ, false, List, ◌∷◌, ◌++◌, Option, Some, None, option_map, refl, sym, ap, subst, ◌∙◌, codes, inl, inr, lit<}
use Rattle.std.specs.Prelude.{MatchOption}
use Rattle.std.specs.Fmt.{decimal}
use Rattle.std.specs.Str.{bytes_eq}
use Rattle.std.proofs.lemmas.Bool.{cases_Bool}
use Rattle.std.proofs.lemmas.List.Elements.{All-append, All-cons}
use Rattle.std.proofs.lemmas.Option.{same_Some, some_pair_parts}
use Rattle.std.proofs.lemmas.Slice.Eq.{bytes_eq-Decides}
use Rattle.ra_frame.specs.declared.frame.Frame.{Frame}
use Rattle.ra_trace.specs.Forms.{cut, fields, rest_after, start_of}
use Rattle.ra_trace.proofs.Cuts.{IsFree, cases_Option, cut-append, cut-only, mapped}
use Rattle.ra_trace.proofs.Spelled.{reads_start}
use Rattle.ra_host_text.specs.declared.host_message.HostMessage.{HostMessage}
use Rattle.ra_host_text.specs.declared.host_message.HostMessage.TheVariants.{Hello, Welcome, Frame as Framed, Ack, Old}
use Rattle.ra_host_text.specs.Fields.{ack_of, frame_fields_of, hello_of, nonce_of, old_of, plain_message_of, question_of, settings_of, start_and_kept_of, welcome_of}
use Rattle.ra_host_text.specs.HostText.{IsFrameDigits, IsInRange, IsMessage, IsSpelled, nonce_text, question_text}
use Rattle.ra_host_text.proofs.Frames.{frame_free}
use Rattle.ra_host_text.proofs.Nonces.{high_word, nonce_free}
use Rattle.ra_host_text.proofs.Takes.{join_3, join_4, reads_ack, reads_hello, reads_welcome, takes_frame}

-- ---- The first word, and what is after it

abbrev pub word_of : HostMessage → List ℕ
word_of (Hello start question nodes first identity) = codes "hello"
word_of (Welcome asker question start kept) = codes "welcome"
word_of (Framed start number frame) = codes "frame"
word_of (Ack start other kept) = codes "ack"
word_of (Old count) = codes "old"

abbrev pub IsTail : List ℕ → HostMessage → Type 0
IsTail rest (Hello start question nodes first identity) =
    rest ≡ question_text start question ++ 32 ∷ (decimal nodes ++ 32 ∷ (decimal first ++ 32 ∷ nonce_text identity))
IsTail rest (Welcome asker question start kept) = rest ≡ question_text asker question ++ 32 ∷ (nonce_text start ++ 32 ∷ decimal kept)
IsTail rest (Framed start number frame) =
    (digits : List ℕ) × IsFrameDigits digits frame × (rest ≡ nonce_text start ++ 32 ∷ (decimal number ++ 32 ∷ digits))
IsTail rest (Ack start other kept) = rest ≡ nonce_text start ++ 32 ∷ (nonce_text other ++ 32 ∷ decimal kept)
IsTail rest (Old count) = rest ≡ decimal count

-- every text of a message is its word, a space, and the rest
to_tail : (text : List ℕ) (m : HostMessage) → IsSpelled text m → (rest : List ℕ) × IsTail rest m × (text ≡ word_of m ++ 32 ∷ rest)
to_tail text (Hello start question nodes first identity) is =
    (_, refl, is ∙ sym (join_4 (codes "hello") (question_text start question) (decimal nodes) (decimal first) (nonce_text identity)))
to_tail text (Welcome asker question start kept) is =
    (_, refl, is ∙ sym (join_3 (codes "welcome") (question_text asker question) (nonce_text start) (decimal kept)))
to_tail text (Framed start number frame) (digits, are, is) =
    (_, (digits, are, refl), is ∙ sym (join_3 (codes "frame") (nonce_text start) (decimal number) digits))
to_tail text (Ack start other kept) is = (_, refl, is ∙ sym (join_3 (codes "ack") (nonce_text start) (nonce_text other) (decimal kept)))
to_tail text (Old count) is = (_, refl, is)

-- the words have letters alone
word_free : (byte : ℕ) → byte < 48 → (m : HostMessage) → IsFree byte (word_of m)
word_free byte low (Hello start question nodes first identity) = high_word byte low (codes "hello") refl
word_free byte low (Welcome asker question start kept) = high_word byte low (codes "welcome") refl
word_free byte low (Framed start number frame) = high_word byte low (codes "frame") refl
word_free byte low (Ack start other kept) = high_word byte low (codes "ack") refl
word_free byte low (Old count) = high_word byte low (codes "old") refl

-- where a text of a message is cut
pub cut_message : (text : List ℕ) (m : HostMessage) → IsMessage text m → (rest : List ℕ) × IsTail rest m × (cut 32 text ≡ Some (word_of m, rest))
cut_message text m h =
    let (rest, tail, is) = to_tail text m h.1 in
    (rest, tail, ap (cut 32) is ∙ cut-append 32 (word_of m) rest (word_free 32 (lit< tt) m))

-- so a text that is cut otherwise is none
pub cut_same : (text word rest : List ℕ) (m : HostMessage) → cut 32 text ≡ Some (word, rest) → IsMessage text m → (word ≡ word_of m) × IsTail rest m
cut_same text word rest m is h =
    let (tail_is, tail, at) = cut_message text m h in
    let parts = some_pair_parts word (word_of m) rest tail_is (sym is ∙ at) in
    (parts.0, subst (λ (r : List ℕ). IsTail r m) (sym parts.1) tail)

pub uncut : (text : List ℕ) (m : HostMessage) → cut 32 text ≡ None → IsMessage text m → ⊥
uncut text m none h = let clash = sym none ∙ (cut_message text m h).2 in absurd cc

-- ---- Messages without a frame

hello_only : (rest : List ℕ) (m : HostMessage) → hello_of rest ≡ Some m → IsMessage (codes "hello" ++ 32 ∷ rest) m
hello_only rest m e =
    let k = mapped (λ (f : (ℕ × ℕ) × (ℕ × (ℕ × ℕ))). Hello f.0.0 f.0.1 f.1.0 f.1.1.0 f.1.1.1) (fields question_of settings_of rest) m e in
    let f = k.0 in
    let h = reads_hello.only rest f k.1 in
    subst (IsMessage (codes "hello" ++ 32 ∷ rest)) k.2 (
      (h.0.0.0, h.0.0.1, h.0.1.0, h.0.1.1.0, h.0.1.1.1),
      ap (λ (t : List ℕ). codes "hello" ++ 32 ∷ t) h.1
          ∙ join_4 (codes "hello") (question_text f.0.0 f.0.1) (decimal f.1.0) (decimal f.1.1.0) (nonce_text f.1.1.1),
    )

welcome_only : (rest : List ℕ) (m : HostMessage) → welcome_of rest ≡ Some m → IsMessage (codes "welcome" ++ 32 ∷ rest) m
welcome_only rest m e =
    let k = mapped (λ (f : (ℕ × ℕ) × (ℕ × ℕ)). Welcome f.0.0 f.0.1 f.1.0 f.1.1) (fields question_of start_and_kept_of rest) m e in
    let f = k.0 in
    let h = reads_welcome.only rest f k.1 in
    subst (IsMessage (codes "welcome" ++ 32 ∷ rest)) k.2 (
      (h.0.0.0, h.0.0.1, h.0.1.0, h.0.1.1),
      ap (λ (t : List ℕ). codes "welcome" ++ 32 ∷ t) h.1
          ∙ join_3 (codes "welcome") (question_text f.0.0 f.0.1) (nonce_text f.1.0) (decimal f.1.1),
    )

ack_only : (rest : List ℕ) (m : HostMessage) → ack_of rest ≡ Some m → IsMessage (codes "ack" ++ 32 ∷ rest) m
ack_only rest m e =
    let k = mapped (λ (f : ℕ × (ℕ × ℕ)). Ack f.0 f.1.0 f.1.1) (fields nonce_of start_and_kept_of rest) m e in
    let f = k.0 in
    let h = reads_ack.only rest f k.1 in
    subst (IsMessage (codes "ack" ++ 32 ∷ rest)) k.2 (
      (h.0.0, h.0.1.0, h.0.1.1),
      ap (λ (t : List ℕ). codes "ack" ++ 32 ∷ t) h.1 ∙ join_3 (codes "ack") (nonce_text f.0) (nonce_text f.1.0) (decimal f.1.1),
    )

old_only : (rest : List ℕ) (m : HostMessage) → old_of rest ≡ Some m → IsMessage (codes "old" ++ 32 ∷ rest) m
old_only rest m e =
    let k = mapped Old (start_of rest) m e in
    let h = reads_start.reads.only rest k.0 k.1 in
    subst (IsMessage (codes "old" ++ 32 ∷ rest)) k.2 (h.0, ap (λ (t : List ℕ). codes "old" ++ 32 ∷ t) h.1)

plain_only : (word rest : List ℕ) (m : HostMessage) → plain_message_of word rest ≡ Some m → IsMessage (word ++ 32 ∷ rest) m
plain_only word rest m e =
    elim (cases_Bool (bytes_eq word (codes "ack"))) [
      | inl ack ↦ rw ((bytes_eq-Decides word (codes "ack")).0 ack) (ack_only rest m (rw ack at e))
      | inr no_ack ↦ elim (cases_Bool (bytes_eq word (codes "welcome"))) [
        | inl welcome ↦ rw ((bytes_eq-Decides word (codes "welcome")).0 welcome) (welcome_only rest m (rw (no_ack, welcome) at e))
        | inr no_welcome ↦ elim (cases_Bool (bytes_eq word (codes "hello"))) [
          | inl hello ↦ rw ((bytes_eq-Decides word (codes "hello")).0 hello) (hello_only rest m (rw (no_ack, no_welcome, hello) at e))
          | inr no_hello ↦ elim (cases_Bool (bytes_eq word (codes "old"))) [
            | inl old ↦ rw ((bytes_eq-Decides word (codes "old")).0 old) (old_only rest m (rw (no_ack, no_welcome, no_hello, old) at e))
            | inr no_old ↦ absurd (let clash : None ≡ Some m = rw (no_ack, no_welcome, no_hello, no_old) at e in cc)
          ]
        ]
      ]
    ]

-- what is read of a message, if no frame is looked for
abbrev plain_part : HostMessage → Option HostMessage
plain_part (Hello start question nodes first identity) = Some (Hello start question nodes first identity)
plain_part (Welcome asker question start kept) = Some (Welcome asker question start kept)
plain_part (Framed start number frame) = None
plain_part (Ack start other kept) = Some (Ack start other kept)
plain_part (Old count) = Some (Old count)

plain_each : (rest : List ℕ) (m : HostMessage) → IsInRange m → IsTail rest m → plain_message_of (word_of m) rest ≡ plain_part m
plain_each rest (Hello start question nodes first identity) h tail =
    ap hello_of tail
    ∙ ap (option_map (λ (f : (ℕ × ℕ) × (ℕ × (ℕ × ℕ))). Hello f.0.0 f.0.1 f.1.0 f.1.1.0 f.1.1.1))
    (reads_hello.each ((start, question), (nodes, (first, identity))) ((h.0, h.1), (h.2, (h.3, h.4))))
plain_each rest (Welcome asker question start kept) h tail =
    ap welcome_of tail
    ∙ ap (option_map (λ (f : (ℕ × ℕ) × (ℕ × ℕ)). Welcome f.0.0 f.0.1 f.1.0 f.1.1))
    (reads_welcome.each ((asker, question), (start, kept)) ((h.0, h.1), (h.2, h.3)))
plain_each rest (Framed start number frame) h tail = refl
plain_each rest (Ack start other kept) h tail =
    ap ack_of tail
    ∙ ap (option_map (λ (f : ℕ × (ℕ × ℕ)). Ack f.0 f.1.0 f.1.1)) (reads_ack.each (start, (other, kept)) (h.0, (h.1, h.2)))
plain_each rest (Old count) h tail = ap old_of tail ∙ ap (option_map Old) (reads_start.reads.each count h)

-- a message that is none without a frame
is_framed : (m : HostMessage) → plain_part m ≡ None
    → (start : ℕ) × (number : ℕ) × (frame : Frame) × (m ≡ Framed start number frame)
is_framed (Hello start question nodes first identity) none = absurd cc
is_framed (Welcome asker question start kept) none = absurd cc
is_framed (Framed start number frame) none = (start, number, frame, refl)
is_framed (Ack start other kept) none = absurd cc
is_framed (Old count) none = absurd cc

is_plain : (m other : HostMessage) → plain_part m ≡ Some other → m ≡ other
is_plain (Hello start question nodes first identity) other is = same_Some _ _ is
is_plain (Welcome asker question start kept) other is = same_Some _ _ is
is_plain (Framed start number frame) other is = absurd cc
is_plain (Ack start other' kept) other is = same_Some _ _ is
is_plain (Old count) other is = same_Some _ _ is

-- the first word of a message with a frame
frame_word : (m : HostMessage) → codes "frame" ≡ word_of m → plain_part m ≡ None
frame_word (Hello start question nodes first identity) is = absurd (let clash : rest_after (codes "frame") (codes "frame") ≡ rest_after (codes "frame") (codes "hello") = ap (rest_after (codes "frame")) is in cc)
frame_word (Welcome asker question start kept) is = absurd (let clash : rest_after (codes "frame") (codes "frame") ≡ rest_after (codes "frame") (codes "welcome") = ap (rest_after (codes "frame")) is in cc)
frame_word (Framed start number frame) is = refl
frame_word (Ack start other kept) is = absurd (let clash : rest_after (codes "frame") (codes "frame") ≡ rest_after (codes "frame") (codes "ack") = ap (rest_after (codes "frame")) is in cc)
frame_word (Old count) is = absurd (let clash : rest_after (codes "frame") (codes "frame") ≡ rest_after (codes "frame") (codes "old") = ap (rest_after (codes "frame")) is in cc)

framed_word : (m : HostMessage) → plain_part m ≡ None → word_of m ≡ codes "frame"
framed_word (Hello start question nodes first identity) none = absurd cc
framed_word (Welcome asker question start kept) none = absurd cc
framed_word (Framed start number frame) none = refl
framed_word (Ack start other kept) none = absurd cc
framed_word (Old count) none = absurd cc

-- what is told of a text that is cut at another word
pub plain_told : (text word rest : List ℕ) (o : Option HostMessage) → cut 32 text ≡ Some (word, rest) → (word ≡ codes "frame" → ⊥)
    → o ≡ plain_message_of word rest → MatchOption o ((m : HostMessage) → IsMessage text m → ⊥) (IsMessage text)
plain_told text word rest (Some m) is other e = subst (λ (t : List ℕ). IsMessage t m) (sym (cut-only 32 text (word, rest) is)) (plain_only word rest m (sym e))
plain_told text word rest None is other e = λ m h.
    let (same, tail) = cut_same text word rest m is h in
    let none : plain_part m ≡ None = sym (plain_each rest m h.0 tail) ∙ (ap (λ (w : List ℕ). plain_message_of w rest) (sym same) ∙ sym e) in
    other (same ∙ framed_word m none)

-- ---- Messages with a frame

frame_cut : (text : List ℕ) → cut 32 (codes "frame " ++ text) ≡ Some (codes "frame", text)
frame_cut text = cut-append 32 (codes "frame") text (high_word 32 (lit< tt) (codes "frame") refl)

-- a message that begins with that word
frame_fields : (text : List ℕ) (m : HostMessage) → IsMessage (codes "frame " ++ text) m
    → (start : ℕ) × (number : ℕ) × (frame : Frame) × (digits : List ℕ)
    × (m ≡ Framed start number frame) × IsFrameDigits digits frame × (frame_fields_of text ≡ Some (start, (number, digits)))
frame_fields text m h =
    let (same, tail) = cut_same (codes "frame " ++ text) (codes "frame") text m (frame_cut text) h in
    let (start, number, frame, is) = is_framed m (frame_word m same) in
    let ranges : IsInRange (Framed start number frame) = subst IsInRange is h.0 in
    let (digits, are, at) : IsTail text (Framed start number frame) = subst (IsTail text) is tail in
    (start, number, frame, digits, is, are, ap frame_fields_of at ∙ takes_frame.each (start, (number, digits)) ranges)

pub no_fields : (text : List ℕ) → frame_fields_of text ≡ None → (m : HostMessage) → IsMessage (codes "frame " ++ text) m → ⊥
no_fields text none m h = let (start, number, frame, digits, is, are, some) = frame_fields text m h in let clash = sym none ∙ some in absurd cc

pub no_digits : (text digits : List ℕ) (start number : ℕ) → frame_fields_of text ≡ Some (start, (number, digits)) → ((frame : Frame) → IsFrameDigits digits frame → ⊥)
    → (m : HostMessage) → IsMessage (codes "frame " ++ text) m → ⊥
no_digits text digits start number found none m h =
    let (start', number', frame, digits', is, are, some) = frame_fields text m h in
    let outer = some_pair_parts start start' (number, digits) (number', digits') (sym found ∙ some) in
    let same : digits ≡ digits' = ap (λ (p : ℕ × List ℕ). p.1) outer.1 in
    none frame (subst (λ (d : List ℕ). IsFrameDigits d frame) (sym same) are)

pub frame_only : (text digits : List ℕ) (start number : ℕ) (frame : Frame) → frame_fields_of text ≡ Some (start, (number, digits)) → IsFrameDigits digits frame
    → IsMessage (codes "frame " ++ text) (Framed start number frame)
frame_only text digits start number frame found are =
    let h = takes_frame.only text (start, (number, digits)) found in
    (h.0, (digits, are, ap (λ (t : List ℕ). codes "frame " ++ t) h.1 ∙ join_3 (codes "frame") (nonce_text start) (decimal number) digits))

-- ---- No text is two messages

module _ (one_frame : (digits : List ℕ) (a b : Frame) → IsFrameDigits digits a → IsFrameDigits digits b → a ≡ b) where
  same_frame : (rest : List ℕ) (a b : HostMessage) → plain_part a ≡ None → plain_part b ≡ None → IsMessage (codes "frame " ++ rest) a → IsMessage (codes "frame " ++ rest) b → a ≡ b
  same_frame rest a b none none' h k =
      let (start, number, frame, digits, is, are, some) = frame_fields rest a h in
      let (start', number', frame', digits', is', are', some') = frame_fields rest b k in
      let outer = some_pair_parts start start' (number, digits) (number', digits') (sym some ∙ some') in
      let same : digits' ≡ digits = ap (λ (p : ℕ × List ℕ). p.1) (sym outer.1) in
      let frames : frame ≡ frame' = one_frame digits frame frame' are (subst (λ (d : List ℕ). IsFrameDigits d frame') same are') in
      is ∙ ((λ i. Framed (outer.0 i) (outer.1 i).0 (frames i)) ∙ sym is')

  pub one_message : (text : List ℕ) (a b : HostMessage) → IsMessage text a → IsMessage text b → a ≡ b
  one_message text a b h k =
      let (rest, tail, is) = cut_message text a h in
      let (same, other) = cut_same text (word_of a) rest b is k in
      let both : plain_part a ≡ plain_part b =
      sym (plain_each rest a h.0 tail) ∙ (ap (λ (w : List ℕ). plain_message_of w rest) same ∙ plain_each rest b k.0 other) in
      elim (cases_Option (plain_part a)) [
        | inl none ↦
            let text_is : text ≡ codes "frame " ++ rest = cut-only 32 text (word_of a, rest) is ∙ ap (λ (w : List ℕ). w ++ 32 ∷ rest) (framed_word a none) in
            same_frame rest a b none (sym both ∙ none) (subst (λ (t : List ℕ). IsMessage t a) text_is h) (subst (λ (t : List ℕ). IsMessage t b) text_is k)
        | inr (m, some) ↦ is_plain a m some ∙ sym (is_plain b m (sym both ∙ some))
      ]

-- ---- No text has a line feed

tail_free : (rest : List ℕ) (m : HostMessage) → IsInRange m → IsTail rest m → IsFree 10 rest
tail_free rest (Hello start question nodes first identity) h tail =
    subst (IsFree 10) (sym tail) (reads_hello.no_feed ((start, question), (nodes, (first, identity))) ((h.0, h.1), (h.2, (h.3, h.4))))
tail_free rest (Welcome asker question start kept) h tail =
    subst (IsFree 10) (sym tail) (reads_welcome.no_feed ((asker, question), (start, kept)) ((h.0, h.1), (h.2, h.3)))
tail_free rest (Framed start number frame) h (digits, are, tail) =
    subst (IsFree 10) (sym tail)
    (All-append (λ b. (b == 10) ≡ false) (nonce_text start) (32 ∷ (decimal number ++ 32 ∷ digits)) (nonce_free 10 (lit< tt) (lit< tt) start)
    (All-cons (λ b. (b == 10) ≡ false) 32 (decimal number ++ 32 ∷ digits) refl
    (All-append (λ b. (b == 10) ≡ false) (decimal number) (32 ∷ digits) (reads_start.reads.no_feed number h.1)
    (All-cons (λ b. (b == 10) ≡ false) 32 digits refl (frame_free 10 (lit< tt) (lit< tt) digits frame are)))))
tail_free rest (Ack start other kept) h tail = subst (IsFree 10) (sym tail) (reads_ack.no_feed (start, (other, kept)) (h.0, (h.1, h.2)))
tail_free rest (Old count) h tail = subst (IsFree 10) (sym tail) (reads_start.reads.no_feed count h)

pub message_free : (text : List ℕ) (m : HostMessage) → IsMessage text m → IsFree 10 text
message_free text m h =
    let (rest, tail, is) = to_tail text m h.1 in
    subst (IsFree 10) (sym is)
    (All-append (λ b. (b == 10) ≡ false) (word_of m) (32 ∷ rest) (word_free 10 (lit< tt) m) (All-cons (λ b. (b == 10) ≡ false) 32 rest refl (tail_free rest m h.0 tail)))
