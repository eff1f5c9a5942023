-- Each line is shorter than what is read of one.
use Rattle.std.proofs.Common.{◌^◌, ◌<◌, ◌≤◌, ◌+◌, ℕ, List, ◌∷◌, ◌++◌, length, codes, arith, length-append}
use Rattle.std.specs.Fmt.{decimal}
use Rattle.std.proofs.lemmas.Fmt.{length-decimal-le}
use Rattle.ra_stamp.specs.Name.{IsName}
use Rattle.ra_stamp.specs.NodeId.{IsNodeNumber}
use Rattle.ra_stamp.specs.declared.entry.Entry.{Entry}
use Rattle.ra_stamp.specs.declared.entry.Mark.TheVariants.{Requested, Entered, Left, Withdrawn}
use Rattle.ra_stamp.specs.declared.message.Message.TheVariants.{Request, Reply}
use Rattle.ra_stamp.specs.declared.mode.Mode.{Mode}
use Rattle.ra_stamp.specs.declared.mode.Mode.TheVariants.{Shared, Exclusive, IntentShared, IntentExclusive, SharedIntentExclusive}
use Rattle.ra_world.specs.declared.step.Step.TheVariants.{Ask, Leave, Cancel, Deliver, Lose, Repeat, Forget}
use Rattle.ra_stamp.specs.Mode.{mode_word}
use Rattle.ra_trace.specs.declared.line.Line.{Line}
use Rattle.ra_trace.specs.declared.line.Line.TheVariants.{First, Stepped, Sent, Marked, Last}
use Rattle.ra_trace.specs.declared.line.version.Version.TheVariants.{One, Two, Three, ThreeWithSends}
use Rattle.ra_trace.specs.Forms.{IsReadable}
use Rattle.ra_trace.specs.TraceText.{IsClientNumber, IsSeq, IsEntryLine}
use Rattle.ra_trace.proofs.Rows.{body, first_tail, third_tail, leave_tail, ask_tail, reply_tail, full_tail}

-- a node's number, a client's and any other have at most 20 digits
number_length : (n : ℕ) → n < 2 ^ 64 → length (decimal n) ≤ 20
number_length n small = length-decimal-le 20 n (omega arith) (omega arith) small

node_length : (n : ℕ) → IsNodeNumber n → length (decimal n) ≤ 20
node_length n h = number_length n (let most = h.1 in omega arith)

client_length : (n : ℕ) → IsClientNumber n → length (decimal n) ≤ 20
client_length n h = number_length n (omega arith)

mode_length : (mode : Mode) → length (mode_word mode) ≤ 3
mode_length Shared = omega arith
mode_length Exclusive = omega arith
mode_length IntentShared = omega arith
mode_length IntentExclusive = omega arith
mode_length SharedIntentExclusive = omega arith

two : (a b : List ℕ) (n m : ℕ) → length a ≤ n → length b ≤ m → length (a ++ 32 ∷ b) ≤ n + (m + 1)
two a b n m first second = omega (arith, length-append a (32 ∷ b))

full_length : (node client seq : ℕ) (name : List ℕ) (mode : Mode) → length (decimal node) ≤ 20 → length (decimal client) ≤ 20 → IsName name → IsSeq seq
    → length (full_tail (node, (client, (name, (mode, seq))))) ≤ 99
full_length node client seq name mode first second is last =
    two (decimal node) _ 20 78 first
    (two (decimal client) _ 20 57 second
    (two name _ 32 24 is.not_long (two (mode_word mode) (decimal seq) 3 20 (mode_length mode) (number_length seq last.1))))

reply_length : (from to seq : ℕ) (name : List ℕ) → IsNodeNumber from → IsNodeNumber to → IsName name → IsSeq seq
    → length (reply_tail (from, (to, (name, seq)))) ≤ 95
reply_length from to seq name first second is last =
    two (decimal from) _ 20 74 (node_length from first)
    (two (decimal to) _ 20 53 (node_length to second) (two name (decimal seq) 32 20 is.not_long (number_length seq last.1)))

entry_length : (entry : Entry) → IsEntryLine Three entry
    → length (full_tail (entry.stamp.node, (entry.client, (entry.name, (entry.mode, entry.stamp.seq))))) ≤ 99
entry_length entry h =
    full_length entry.stamp.node entry.client entry.stamp.seq entry.name entry.mode (node_length entry.stamp.node h.0)
    (client_length entry.client h.1) h.2 h.4

after_words : (words tail : List ℕ) (n : ℕ) → length tail ≤ n → length words + n < 127 → length (words ++ tail) < 127
after_words words tail n short fits = omega (arith, length-append words tail)

-- and one byte more, its line feed, is still not too much
pub body_is_short : (line : Line) → IsReadable line → length (body line) < 127
body_is_short (First One nodes start) h =
    after_words (codes "trace 1 ") (first_tail (nodes, start)) 41 (two (decimal nodes) (decimal start) 20 20 (node_length nodes h.0) (number_length start h.1))
    (omega arith)
body_is_short (First Two nodes start) h =
    after_words (codes "trace 2 ") (first_tail (nodes, start)) 41 (two (decimal nodes) (decimal start) 20 20 (node_length nodes h.0) (number_length start h.1))
    (omega arith)
body_is_short (First Three nodes start) h =
    after_words (codes "trace 3 ") (third_tail (nodes, (Three, start))) 41 (two (decimal nodes) (decimal start) 20 20 (node_length nodes h.0) (number_length start h.1))
    (omega arith)
body_is_short (First ThreeWithSends nodes start) h =
    after_words (codes "trace 3 ") (third_tail (nodes, (ThreeWithSends, start))) 47
    (two (decimal nodes) (decimal start ++ codes " sends") 20 26 (node_length nodes h.0) (omega (arith, number_length start h.1, length-append (decimal start) (codes " sends"))))
    (omega arith)
body_is_short (Stepped (Ask node client name mode)) h =
    after_words (codes "ask ") (ask_tail (node, (client, (name, mode)))) 78
    (two (decimal node) _ 20 57 (node_length node h.0)
    (two (decimal client) _ 20 36 (client_length client h.1) (two name (mode_word mode) 32 3 h.2.not_long (mode_length mode))))
    (omega arith)
body_is_short (Stepped (Leave node client name)) h =
    after_words (codes "release ") (leave_tail (node, (client, name))) 74
    (two (decimal node) _ 20 53 (node_length node h.0) (two (decimal client) name 20 32 (client_length client h.1) h.2.not_long))
    (omega arith)
body_is_short (Stepped (Cancel node client name)) h =
    after_words (codes "cancel ") (leave_tail (node, (client, name))) 74
    (two (decimal node) _ 20 53 (node_length node h.1) (two (decimal client) name 20 32 (client_length client h.2) h.3.not_long))
    (omega arith)
body_is_short (Stepped (Forget node)) h = after_words (codes "forget ") (decimal node) 20 (node_length node h.1) (omega arith)
body_is_short (Stepped (Deliver (Request from to name mode seq))) h =
    after_words (codes "deliver request ") (full_tail (from, (to, (name, (mode, seq))))) 99
    (full_length from to seq name mode (node_length from h.0) (node_length to h.1) h.2 h.4) (omega arith)
body_is_short (Stepped (Deliver (Reply from to name seq))) h =
    after_words (codes "deliver reply ") (reply_tail (from, (to, (name, seq)))) 95 (reply_length from to seq name h.0 h.1 h.2 h.3) (omega arith)
body_is_short (Stepped (Lose (Request from to name mode seq))) h =
    after_words (codes "lose request ") (full_tail (from, (to, (name, (mode, seq))))) 99
    (full_length from to seq name mode (node_length from h.0) (node_length to h.1) h.2 h.4) (omega arith)
body_is_short (Stepped (Lose (Reply from to name seq))) h =
    after_words (codes "lose reply ") (reply_tail (from, (to, (name, seq)))) 95 (reply_length from to seq name h.0 h.1 h.2 h.3) (omega arith)
body_is_short (Stepped (Repeat (Request from to name mode seq))) (may, h) =
    after_words (codes "repeat request ") (full_tail (from, (to, (name, (mode, seq))))) 99
    (full_length from to seq name mode (node_length from h.0) (node_length to h.1) h.2 h.4) (omega arith)
body_is_short (Stepped (Repeat (Reply from to name seq))) (may, h) =
    after_words (codes "repeat reply ") (reply_tail (from, (to, (name, seq)))) 95 (reply_length from to seq name h.0 h.1 h.2 h.3) (omega arith)
body_is_short (Sent (Request from to name mode seq)) h =
    after_words (codes "send request ") (full_tail (from, (to, (name, (mode, seq))))) 99
    (full_length from to seq name mode (node_length from h.0) (node_length to h.1) h.2 h.4) (omega arith)
body_is_short (Sent (Reply from to name seq)) h =
    after_words (codes "send reply ") (reply_tail (from, (to, (name, seq)))) 95 (reply_length from to seq name h.0 h.1 h.2 h.3) (omega arith)
body_is_short (Marked (Requested entry)) h = after_words (codes "request ") _ 99 (entry_length entry h) (omega arith)
body_is_short (Marked (Entered entry)) h = after_words (codes "enter ") _ 99 (entry_length entry h) (omega arith)
body_is_short (Marked (Left entry)) h = after_words (codes "leave ") _ 99 (entry_length entry h) (omega arith)
body_is_short (Marked (Withdrawn entry)) (may, h) = after_words (codes "withdraw ") _ 99 (entry_length entry h) (omega arith)
body_is_short Last h = omega arith
