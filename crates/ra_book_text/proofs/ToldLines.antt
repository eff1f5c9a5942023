-- The answers of a node, line by line.
use Rattle.std.proofs.Common.{◌≡◌, ℕ, ◌<◌, ◌^◌, List, [], ◌∷◌, ◌++◌, map, refl, sym, ap, subst, ◌∙◌, codes, decimal, append-nil, append_assoc, arith}
use Rattle.std.specs.Prelude.{All, flat_map}
use Rattle.std.specs.List.{AllZip}
use Rattle.std.proofs.lemmas.List.Concat.{flat_map-append}
use Rattle.std.proofs.lemmas.List.Elements.{All-append, All-cons, All-head, All-nil, All-tail}
use Rattle.hex.specs.Hex.{encode_lower}
use Rattle.ra_stamp.specs.Mark.{entry_of_mark, mark_word}
use Rattle.ra_stamp.specs.Message.{to_of}
use Rattle.ra_stamp.specs.Mode.{mode_word}
use Rattle.ra_stamp.specs.declared.entry.Mark.{Mark}
use Rattle.ra_stamp.specs.declared.entry.Mark.TheVariants.{Requested, Entered, Left, Withdrawn}
use Rattle.ra_stamp.specs.declared.message.Message.{Message}
use Rattle.ra_stamp.specs.declared.message.Message.TheVariants.{Request, Reply}
use Rattle.ra_frame.specs.FrameText.{IsMessageText}
use Rattle.ra_frame.specs.declared.format.Format.TheVariants.{V2}
use Rattle.ra_frame.specs.declared.frame.Frame.{Frame}
use Rattle.ra_text.specs.Lines.{entry_fields, field, mark_line}
use Rattle.ra_book.specs.Book.{BookState, TakenState}
use Rattle.ra_book.specs.History.{Posting, frames_at, frames_of}
use Rattle.ra_book.specs.Settled.{marks_in}
use Rattle.ra_book.specs.declared.book.sent.Sent.{Sent}
use Rattle.ra_book_text.specs.Answers.{Answered, AreSends, AreShown, IsPosted, IsShown, kept_of, send_line, text_of}
use Rattle.ra_book_text.specs.Answers.Answered.{Accepted, Refused}
use Rattle.ra_book_text.specs.Book.{lines_text}
use Rattle.ra_book_text.specs.Input.{HasNoFeed}
use Rattle.ra_book_text.specs.Laws.{AreLinesTold, Driven, IsAnswerTo, IsBookOf, Tells, Told, frames_told, marks_told}
use Rattle.ra_book_text.specs.Laws.Told.{Sends, Marks, IsDone}
use Rattle.ra_book_text.proofs.WrittenLines.{both, client_free, digits_free, field_free, mode_free, name_free, number_free, word}

-- ---- One line

sender : (bytes : List ℕ) (clock : ℕ) (message : Message) → IsMessageText V2 bytes clock message → to_of message < 2 ^ 64
sender bytes clock (Request from to name mode seq) h = let high = h.to_range.1 in omega (arith, high)
sender bytes clock (Reply from to name seq) h = let high = h.to_range.1 in omega (arith, high)

-- the line of a frame, without its line feed
abbrev sent_text : ℕ → List ℕ → List ℕ
sent_text to bytes = codes "send" ++ field (decimal to) ++ field (encode_lower bytes)

sent_line : (to : ℕ) (bytes : List ℕ) → sent_text to bytes ++ codes "\n" ≡ send_line to bytes
sent_line to bytes = simp append_assoc

sent_free : (to : ℕ) (bytes : List ℕ) → to < 2 ^ 64 → HasNoFeed (sent_text to bytes)
sent_free to bytes small =
    both (codes "send") (field (decimal to) ++ field (encode_lower bytes)) (word (codes "send") refl)
    (both (field (decimal to)) (field (encode_lower bytes)) (field_free (decimal to) (number_free to small)) (field_free (encode_lower bytes) (digits_free bytes)))

word_free : (mark : Mark) → HasNoFeed (mark_word mark)
word_free (Requested entry) = word (codes "request") refl
word_free (Entered entry) = word (codes "enter") refl
word_free (Left entry) = word (codes "leave") refl
word_free (Withdrawn entry) = word (codes "withdraw") refl

mark_free : (mark : Mark) → IsShown (entry_of_mark mark) → HasNoFeed (mark_word mark ++ entry_fields (entry_of_mark mark))
mark_free mark h =
    let entry = entry_of_mark mark in
    let most = h.node.1 in
    let two = field (decimal entry.stamp.node) ++ field (decimal entry.client) in
    let three = two ++ field entry.name in
    let four = three ++ field (mode_word entry.mode) in
    both (mark_word mark) (entry_fields entry) (word_free mark)
    (both four (field (decimal entry.stamp.seq))
    (both three (field (mode_word entry.mode))
    (both two (field entry.name)
    (both (field (decimal entry.stamp.node)) (field (decimal entry.client))
    (field_free (decimal entry.stamp.node) (number_free entry.stamp.node (omega (arith, most))))
    (field_free (decimal entry.client) (client_free entry.client h.client)))
    (field_free entry.name (name_free entry.name h.name)))
    (field_free (mode_word entry.mode) (mode_free entry.mode)))
    (field_free (decimal entry.stamp.seq) (number_free entry.stamp.seq h.number)))

-- ---- Many lines

-- a text has these lines, and they tell this
record HasLines (text : List ℕ) (told : List Told) : Type 0 where
  lines : List (List ℕ)
  each : All HasNoFeed lines
  text_is : text ≡ lines_text lines
  tell : AllZip Tells lines told

none : HasLines [] []
none = record { lines = []; each = All-nil HasNoFeed; text_is = refl; tell = tt }

one : (line text : List ℕ) (told : Told) (all : List Told) → HasNoFeed line → Tells line told → HasLines text all → HasLines ((line ++ codes "\n") ++ text) (told ∷ all)
one line text told all free tells h = record {
  lines = line ∷ h.lines;
  each = All-cons HasNoFeed line h.lines free h.each;
  text_is = ap (λ (t : List ℕ). (line ++ codes "\n") ++ t) h.text_is;
  tell = (tells, h.tell);
}

zip_append : (ls ms : List (List ℕ)) (vs bs : List Told) → AllZip Tells ls vs → AllZip Tells ms bs → AllZip Tells (ls ++ ms) (vs ++ bs)
zip_append [] ms [] bs g h = h
zip_append [] ms (v ∷ vs) bs g h = absurd g
zip_append (l ∷ ls) ms [] bs g h = absurd g
zip_append (l ∷ ls) ms (v ∷ vs) bs g h = (g.0, zip_append ls ms vs bs g.1 h)

joined : (x y : List ℕ) (vs bs : List Told) → HasLines x vs → HasLines y bs → HasLines (x ++ y) (vs ++ bs)
joined x y vs bs g h = record {
  lines = g.lines ++ h.lines;
  each = All-append HasNoFeed g.lines h.lines g.each h.each;
  text_is = (λ i. g.text_is i ++ h.text_is i) ∙ sym (flat_map-append (λ (line : List ℕ). line ++ 10 ∷ []) g.lines h.lines);
  tell = zip_append g.lines h.lines vs bs g.tell h.tell;
}

frames_tell : (clock : ℕ) (sends : List Message) (text : List ℕ) → AreSends clock sends text → HasLines text (map Sends (frames_at clock sends))
frames_tell clock [] text h = subst (λ (t : List ℕ). HasLines t []) (sym h) none
frames_tell clock (m ∷ sends) text (bytes, rest, is, text_is, more) =
    let frame : Frame = record { clock = clock; message = m } in
    let all = map Sends (frames_at clock sends) in
    let line = sent_line (to_of m) bytes in
    subst (λ (t : List ℕ). HasLines t (Sends frame ∷ all)) (ap (λ (t : List ℕ). t ++ rest) line ∙ sym text_is)
    (one (sent_text (to_of m) bytes) rest (Sends frame) all (sent_free (to_of m) bytes (sender bytes clock m is)) (bytes, is, line)
    (frames_tell clock sends rest more))

marks_tell : (marks : List Mark) → AreShown marks → HasLines (flat_map mark_line marks) (map Marks marks)
marks_tell [] h = none
marks_tell (mark ∷ marks) h =
    one (mark_word mark ++ entry_fields (entry_of_mark mark)) (flat_map mark_line marks) (Marks mark) (map Marks marks)
    (mark_free mark (All-head (λ mark. IsShown (entry_of_mark mark)) mark marks h)) refl
    (marks_tell marks (All-tail (λ mark. IsShown (entry_of_mark mark)) mark marks h))

-- what the answer to an event tells
abbrev told_by : Posting → List Told
told_by p = map Sends (frames_at p.event.clock p.sends) ++ map Marks p.marks ++ IsDone ∷ []

answer_tells : (p : Posting) (text : List ℕ) → IsPosted p.event.clock p.sends p.marks text → HasLines text (told_by p)
answer_tells p text h =
    let over : HasLines (codes "ok\n") (IsDone ∷ []) = one (codes "ok") [] IsDone [] (word (codes "ok") refl) refl none in
    subst (λ (t : List ℕ). HasLines t (told_by p)) (sym h.text_is)
    (joined (h.sent ++ flat_map mark_line p.marks) (codes "ok\n") (map Sends (frames_at p.event.clock p.sends) ++ map Marks p.marks) (IsDone ∷ [])
    (joined h.sent (flat_map mark_line p.marks) (map Sends (frames_at p.event.clock p.sends)) (map Marks p.marks)
    (frames_tell p.event.clock p.sends h.sent h.sends_are) (marks_tell p.marks h.marks_are)) over)

answers_tell : (postings : List Posting) (kept : List Answered) → AllZip IsAnswerTo postings kept → HasLines (text_of kept) (flat_map told_by postings)
answers_tell [] [] h = none
answers_tell [] (k ∷ kept) h = absurd h
answers_tell (p ∷ postings) [] h = absurd h
answers_tell (p ∷ postings) (Refused line answer ∷ kept) h = absurd h.0
answers_tell (p ∷ postings) (Accepted line answer ∷ kept) h =
    joined answer (text_of kept) (told_by p) (flat_map told_by postings) (answer_tells p answer h.0.1) (answers_tell postings kept h.1)

-- ---- What they tell

frames_append : (vs bs : List Told) → frames_told (vs ++ bs) ≡ frames_told vs ++ frames_told bs
frames_append [] bs = refl
frames_append (Sends frame ∷ vs) bs = ap (λ (fs : List Frame). frame ∷ fs) (frames_append vs bs)
frames_append (Marks mark ∷ vs) bs = frames_append vs bs
frames_append (IsDone ∷ vs) bs = frames_append vs bs

marks_append : (vs bs : List Told) → marks_told (vs ++ bs) ≡ marks_told vs ++ marks_told bs
marks_append [] bs = refl
marks_append (Sends frame ∷ vs) bs = marks_append vs bs
marks_append (Marks mark ∷ vs) bs = ap (λ (ms : List Mark). mark ∷ ms) (marks_append vs bs)
marks_append (IsDone ∷ vs) bs = marks_append vs bs

frames_of_sends : (frames : List Frame) → frames_told (map Sends frames) ≡ frames
frames_of_sends [] = refl
frames_of_sends (f ∷ frames) = ap (λ (fs : List Frame). f ∷ fs) (frames_of_sends frames)

marks_of_sends : (frames : List Frame) → marks_told (map Sends frames) ≡ []
marks_of_sends [] = refl
marks_of_sends (f ∷ frames) = marks_of_sends frames

frames_of_marks : (marks : List Mark) → frames_told (map Marks marks) ≡ []
frames_of_marks [] = refl
frames_of_marks (m ∷ marks) = frames_of_marks marks

marks_of_marks : (marks : List Mark) → marks_told (map Marks marks) ≡ marks
marks_of_marks [] = refl
marks_of_marks (m ∷ marks) = ap (λ (ms : List Mark). m ∷ ms) (marks_of_marks marks)

frames_by : (p : Posting) → frames_told (told_by p) ≡ frames_at p.event.clock p.sends
frames_by p =
    let sent = frames_at p.event.clock p.sends in
    frames_append (map Sends sent ++ map Marks p.marks) (IsDone ∷ [])
    ∙ ap (λ (fs : List Frame). fs ++ []) (frames_append (map Sends sent) (map Marks p.marks) ∙ (λ i. frames_of_sends sent i ++ frames_of_marks p.marks i) ∙ append-nil sent)
    ∙ append-nil sent

marks_by : (p : Posting) → marks_told (told_by p) ≡ p.marks
marks_by p =
    let sent = frames_at p.event.clock p.sends in
    marks_append (map Sends sent ++ map Marks p.marks) (IsDone ∷ [])
    ∙ ap (λ (ms : List Mark). ms ++ []) (marks_append (map Sends sent) (map Marks p.marks) ∙ (λ i. marks_of_sends sent i ++ marks_of_marks p.marks i))
    ∙ append-nil p.marks

all_frames : (postings : List Posting) → frames_told (flat_map told_by postings) ≡ frames_of postings
all_frames [] = refl
all_frames (p ∷ postings) = frames_append (told_by p) (flat_map told_by postings) ∙ (λ i. frames_by p i ++ all_frames postings i)

all_marks : (postings : List Posting) → marks_told (flat_map told_by postings) ≡ marks_in postings
all_marks [] = refl
all_marks (p ∷ postings) = marks_append (told_by p) (flat_map told_by postings) ∙ (λ i. marks_by p i ++ all_marks postings i)

pub told_lines : (driven : Driven) (book : BookState) (is : IsBookOf driven book) → AreLinesTold driven book is
told_lines driven book is =
    let postings = is.leads.postings in
    let h = answers_tell postings (kept_of driven.answered) is.answers in
    record {
      lines = h.lines;
      told = flat_map told_by postings;
      each = h.each;
      text_is = h.text_is;
      tell = h.tell;
      frames_are =
          all_frames postings ∙ sym is.leads.sent_are
          ∙ ap (λ (t : TakenState). map (λ (s : Sent). s.frame) (t.sent ++ book.sent)) is.is_read.whole;
      marks_are = all_marks postings;
    }
