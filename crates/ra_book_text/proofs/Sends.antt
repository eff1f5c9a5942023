-- The lines of frames, one after the other, and the line of a mark.
use Rattle.std.proofs.Common.{◌≡◌, ℕ, List, [], ◌∷◌, ◌++◌, codes, refl, sym, ap, ◌∙◌, append_assoc}
use Rattle.std.proofs.lemmas.List.{append-nil}
use Rattle.ra_stamp.specs.Mark.{entry_of_mark, mark_word}
use Rattle.ra_stamp.specs.Message.{to_of}
use Rattle.ra_stamp.specs.declared.entry.Entry.{Entry}
use Rattle.ra_stamp.specs.declared.entry.Mark.{Mark}
use Rattle.ra_stamp.specs.declared.message.Message.{Message}
use Rattle.ra_frame.specs.FrameText.{IsWrittenText}
use Rattle.ra_text.specs.Lines.{entry_fields, mark_line}
use Rattle.ra_book_text.specs.Answers.{AreSends, send_line}

pub sends_more : (clock : ℕ) (sends : List Message) (message : Message) (text bytes : List ℕ) → AreSends clock sends text
    → IsWrittenText bytes (record { clock = clock; message = message }) → AreSends clock (sends ++ message ∷ []) (text ++ send_line (to_of message) bytes)
sends_more clock [] message text bytes h w =
    (bytes, [], w, (ap (λ (t : List ℕ). t ++ send_line (to_of message) bytes) h ∙ sym (append-nil (send_line (to_of message) bytes))), refl)
sends_more clock (m ∷ ms) message text bytes h w =
    let line = send_line (to_of message) bytes in
    (h.0, h.1 ++ line, h.2, ap (λ (t : List ℕ). t ++ line) h.3 ∙ append_assoc (send_line (to_of m) h.0) h.1 line, sends_more clock ms message h.1 bytes h.4 w)

-- the line of a mark is its word and the fields of its request
pub mark_text : (mark : Mark) (word : List ℕ) (entry : Entry) → entry ≡ entry_of_mark mark → word ≡ mark_word mark
    → word ++ entry_fields entry ++ codes "\n" ≡ mark_line mark
mark_text mark word entry same said = rw (said, same) refl
