-- What a version allows of what is read.
use Rattle.std.proofs.Common.{◌≡◌, ◌&&◌, ℕ, true, false, List, refl, sym, ◌∙◌, arith}
use Rattle.std.proofs.lemmas.Bool.{and_parts, leb-true, le-leb, false≢true}
use Rattle.ra_stamp.specs.declared.entry.Entry.{Entry}
use Rattle.ra_stamp.specs.declared.entry.Mark.{Mark}
use Rattle.ra_stamp.specs.declared.entry.Mark.TheVariants.{Requested, Entered, Left, Withdrawn}
use Rattle.ra_stamp.specs.declared.message.Message.{Message}
use Rattle.ra_stamp.specs.declared.message.Message.TheVariants.{Request, Reply}
use Rattle.ra_world.specs.declared.step.Step.{Step}
use Rattle.ra_world.specs.declared.step.Step.TheVariants.{Ask, Leave, Cancel, Deliver, Lose, Repeat, Forget}
use Rattle.ra_trace.specs.declared.line.Line.{Line}
use Rattle.ra_trace.specs.declared.line.Line.TheVariants.{First, Stepped, Sent, Marked, Last}
use Rattle.ra_trace.specs.declared.line.version.Version.{Version}
use Rattle.ra_trace.specs.declared.line.version.Version.TheVariants.{One, Two, Three, ThreeWithSends}
use Rattle.ra_trace.specs.Version.{last_node, has_mode, has_repeats, has_cancels, has_sends, IsNodeIn, TellsSends}
use Rattle.ra_trace.specs.TraceText.{IsEntryLine, IsMarkLine, IsMessageLine, IsStepLine, IsLine, BeginsWith}
use Rattle.ra_trace.specs.Forms.{IsReadable, BeginsReadable, has_node, allows_entry, allows_mark, allows_message, allows_sent, allows_step}

-- ---- A line of a version is one that is read

pub node_of_any : (version : Version) (n : ℕ) → IsNodeIn version n → IsNodeIn Three n
node_of_any One n h = (h.0, omega (arith, h.1))
node_of_any Two n h = h
node_of_any Three n h = h
node_of_any ThreeWithSends n h = h

entry_of_any : (version : Version) (entry : Entry) → IsEntryLine version entry → IsEntryLine Three entry
entry_of_any version entry h = (node_of_any version entry.stamp.node h.0, h.1, h.2, refl, h.4)

mark_of_any : (version : Version) (mark : Mark) → IsMarkLine version mark → IsMarkLine Three mark
mark_of_any version (Requested entry) h = entry_of_any version entry h
mark_of_any version (Entered entry) h = entry_of_any version entry h
mark_of_any version (Left entry) h = entry_of_any version entry h
mark_of_any version (Withdrawn entry) h = (refl, entry_of_any version entry h.1)

message_of_any : (version : Version) (message : Message) → IsMessageLine version message → IsMessageLine Three message
message_of_any version (Request from to name mode seq) h = (node_of_any version from h.0, node_of_any version to h.1, h.2, refl, h.4)
message_of_any version (Reply from to name seq) h = (node_of_any version from h.0, node_of_any version to h.1, h.2, h.3)

step_of_any : (version : Version) (step : Step) → IsStepLine version step → IsStepLine Three step
step_of_any version (Ask node client name mode) h = (node_of_any version node h.0, h.1, h.2, refl)
step_of_any version (Leave node client name) h = (node_of_any version node h.0, h.1, h.2)
step_of_any version (Cancel node client name) h = (refl, node_of_any version node h.1, h.2, h.3)
step_of_any version (Deliver message) h = message_of_any version message h
step_of_any version (Lose message) h = message_of_any version message h
step_of_any version (Repeat message) h = (refl, message_of_any version message h.1)
step_of_any version (Forget node) h = (refl, node_of_any version node h.1)

pub readable : (version : Version) (line : Line) → IsLine version line → IsReadable line
readable version (First named nodes start) h = (node_of_any version nodes h.1, h.2)
readable version (Stepped step) h = step_of_any version step h
readable version (Sent message) h = message_of_any version message h.1
readable version (Marked mark) h = mark_of_any version mark h
readable version Last h = tt

pub begins_readable : (version : Version) (text : List ℕ) (line : Line) (rest : List ℕ) → BeginsWith version text line rest
    → BeginsReadable text line rest
begins_readable version text line rest begins = (readable version line begins.0, begins.1)

-- ---- What is allowed of those that are read

pub node_is : (version : Version) (n : ℕ) → IsNodeIn Three n → has_node version n ≡ true → IsNodeIn version n
node_is version n h is_so = (h.0, leb-true n (last_node version) is_so)

pub node_is_not : (version : Version) (n : ℕ) → has_node version n ≡ false → IsNodeIn version n → ⊥
node_is_not version n not_so h = false≢true (sym not_so ∙ le-leb n (last_node version) h.1)

entry_is : (version : Version) (entry : Entry) → IsEntryLine Three entry → allows_entry version entry ≡ true → IsEntryLine version entry
entry_is version entry h is_so =
    let (node, mode) = and_parts (has_node version entry.stamp.node) (has_mode version entry.mode) is_so in
    (node_is version entry.stamp.node h.0 node, h.1, h.2, mode, h.4)

entry_allowed : (version : Version) (entry : Entry) → IsEntryLine version entry → allows_entry version entry ≡ true
entry_allowed version entry h = rw (le-leb entry.stamp.node (last_node version) h.0.1, h.3)

pub mark_is : (version : Version) (mark : Mark) → IsMarkLine Three mark → allows_mark version mark ≡ true → IsMarkLine version mark
mark_is version (Requested entry) h is_so = entry_is version entry h is_so
mark_is version (Entered entry) h is_so = entry_is version entry h is_so
mark_is version (Left entry) h is_so = entry_is version entry h is_so
mark_is version (Withdrawn entry) h is_so =
    let (may, fields) = and_parts (has_cancels version) (allows_entry version entry) is_so in (may, entry_is version entry h.1 fields)

mark_allowed : (version : Version) (mark : Mark) → IsMarkLine version mark → allows_mark version mark ≡ true
mark_allowed version (Requested entry) h = entry_allowed version entry h
mark_allowed version (Entered entry) h = entry_allowed version entry h
mark_allowed version (Left entry) h = entry_allowed version entry h
mark_allowed version (Withdrawn entry) h = rw (h.0, entry_allowed version entry h.1)

pub mark_is_not : (version : Version) (mark : Mark) → allows_mark version mark ≡ false → IsMarkLine version mark → ⊥
mark_is_not version mark not_so h = false≢true (sym not_so ∙ mark_allowed version mark h)

message_is : (version : Version) (message : Message) → IsMessageLine Three message → allows_message version message ≡ true
    → IsMessageLine version message
message_is version (Request from to name mode seq) h is_so =
    let (nodes, mode_is) = and_parts (has_node version from && has_node version to) (has_mode version mode) is_so in
    let (first, second) = and_parts (has_node version from) (has_node version to) nodes in
    (node_is version from h.0 first, node_is version to h.1 second, h.2, mode_is, h.4)
message_is version (Reply from to name seq) h is_so =
    let (first, second) = and_parts (has_node version from) (has_node version to) is_so in
    (node_is version from h.0 first, node_is version to h.1 second, h.2, h.3)

message_allowed : (version : Version) (message : Message) → IsMessageLine version message → allows_message version message ≡ true
message_allowed version (Request from to name mode seq) h =
    rw (le-leb from (last_node version) h.0.1, le-leb to (last_node version) h.1.1, h.3)
message_allowed version (Reply from to name seq) h = rw (le-leb from (last_node version) h.0.1, le-leb to (last_node version) h.1.1)

-- the line of a message that is sent
pub sent_is : (version : Version) (message : Message) → IsMessageLine Three message → allows_sent version message ≡ true → TellsSends version × IsMessageLine version message
sent_is version message h is_so =
    let (tells, fields) = and_parts (has_sends version) (allows_message version message) is_so in (tells, message_is version message h fields)

sent_allowed : (version : Version) (message : Message) → TellsSends version × IsMessageLine version message → allows_sent version message ≡ true
sent_allowed version message h = rw (h.0, message_allowed version message h.1)

pub sent_is_not : (version : Version) (message : Message) → allows_sent version message ≡ false → TellsSends version × IsMessageLine version message → ⊥
sent_is_not version message not_so h = false≢true (sym not_so ∙ sent_allowed version message h)

pub step_is : (version : Version) (step : Step) → IsStepLine Three step → allows_step version step ≡ true → IsStepLine version step
step_is version (Ask node client name mode) h is_so =
    let (first, second) = and_parts (has_node version node) (has_mode version mode) is_so in
    (node_is version node h.0 first, h.1, h.2, second)
step_is version (Leave node client name) h is_so = (node_is version node h.0 is_so, h.1, h.2)
step_is version (Cancel node client name) h is_so =
    let (may, fits) = and_parts (has_cancels version) (has_node version node) is_so in (may, node_is version node h.1 fits, h.2, h.3)
step_is version (Deliver message) h is_so = message_is version message h is_so
step_is version (Lose message) h is_so = message_is version message h is_so
step_is version (Repeat message) h is_so =
    let (may, fields) = and_parts (has_repeats version) (allows_message version message) is_so in (may, message_is version message h.1 fields)
step_is version (Forget node) h is_so =
    let (may, fits) = and_parts (has_cancels version) (has_node version node) is_so in (may, node_is version node h.1 fits)

step_allowed : (version : Version) (step : Step) → IsStepLine version step → allows_step version step ≡ true
step_allowed version (Ask node client name mode) h = rw (le-leb node (last_node version) h.0.1, h.3)
step_allowed version (Leave node client name) h = le-leb node (last_node version) h.0.1
step_allowed version (Cancel node client name) h = rw (h.0, le-leb node (last_node version) h.1.1)
step_allowed version (Deliver message) h = message_allowed version message h
step_allowed version (Lose message) h = message_allowed version message h
step_allowed version (Repeat message) h = rw (h.0, message_allowed version message h.1)
step_allowed version (Forget node) h = rw (h.0, le-leb node (last_node version) h.1.1)

pub step_is_not : (version : Version) (step : Step) → allows_step version step ≡ false → IsStepLine version step → ⊥
step_is_not version step not_so h = false≢true (sym not_so ∙ step_allowed version step h)
