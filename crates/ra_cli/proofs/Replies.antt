-- Lines, one after another.
use Rattle.std.proofs.Common.{ℕ, List, [], ◌∷◌, ◌++◌, refl, ap, ◌∙◌, append_assoc}
use Rattle.hex.specs.Hex.{encode_lower}
use Rattle.ra_stamp.specs.declared.message.Message.{Message}
use Rattle.ra_frame.specs.FrameText.{IsWrittenText}
use Rattle.ra_cli.specs.Answer.{AreLines}

-- another line at the end
pub AreLines-push : (clock : ℕ) (messages : List Message) (message : Message) (bytes output : List ℕ) → AreLines clock messages output → IsWrittenText bytes (record { clock = clock; message = message })
    → AreLines clock (messages ++ message ∷ []) (output ++ (encode_lower bytes ++ 10 ∷ []))
AreLines-push clock [] message bytes output h text =
    (bytes, [], text, ap (λ (xs : List ℕ). xs ++ (encode_lower bytes ++ 10 ∷ [])) h, refl)
AreLines-push clock (m ∷ ms) message bytes output h text =
    let last = encode_lower bytes ++ 10 ∷ [] in
    (h.0, h.1 ++ last, h.2, ap (λ (xs : List ℕ). xs ++ last) h.3 ∙ append_assoc (encode_lower h.0) (10 ∷ h.1) last, AreLines-push clock ms message bytes h.1 h.4 text)
