-- How a line is read: by a word or two that tell its form, and then field by field, in the ranges of version 3. Whether
-- the version of the trace allows the line is checked afterwards. This is what the code computes; the contracts of
-- `next_line` and of `Checker::take` say what it comes to.
use Rattle.std.specs.Prelude.{ℕ, ◌≡◌, ◌<◌, ◌^◌, ◌-◌, Bool, not, ◌&&◌, ◌||◌, ◌==◌, nat_le, if◌then◌else◌, List, [], ◌∷◌, ◌++◌, length, slice_index, Option, Some, None, option_map, option_and_then, codes}
use Rattle.std.specs.Char.{is_ascii_digit}
use Rattle.std.specs.List.{list_all}
use Rattle.std.specs.Str.{bytes_eq}
use Rattle.std.specs.Str.Parse.{digits_value}
use Rattle.ra_stamp.specs.Name.{is_name_byte}
use Rattle.ra_stamp.specs.declared.mode.Mode.{Mode}
use Rattle.ra_stamp.specs.declared.mode.Mode.TheVariants.{Shared, Exclusive, IntentShared, IntentExclusive, SharedIntentExclusive}
use Rattle.ra_stamp.specs.declared.entry.Entry.{Entry}
use Rattle.ra_stamp.specs.declared.entry.Mark.{Mark}
use Rattle.ra_stamp.specs.declared.entry.Mark.TheVariants.{Requested, Entered, Left, Withdrawn}
use Rattle.ra_stamp.specs.declared.message.Message.{Message}
use Rattle.ra_stamp.specs.declared.message.Message.TheVariants.{Request, Reply}
use Rattle.ra_world.specs.declared.step.Step.{Step}
use Rattle.ra_world.specs.declared.step.Step.TheVariants.{Ask, Leave, Cancel, Deliver, Lose, Repeat, Forget}
use Rattle.ra_trace.specs.declared.line.forms.Fate.{Fate}
use Rattle.ra_trace.specs.declared.line.forms.Fate.TheVariants.{Delivered, Lost, Repeated, Told}
use Rattle.ra_trace.specs.declared.line.forms.Change.{Change}
use Rattle.ra_trace.specs.declared.line.forms.Change.TheVariants as change
use Rattle.ra_trace.specs.declared.line.forms.Field.{Field}
use Rattle.ra_trace.specs.declared.line.forms.Field.TheVariants as field
use Rattle.ra_trace.specs.declared.line.forms.LineKind.{LineKind}
use Rattle.ra_trace.specs.declared.line.forms.LineKind.TheVariants as kind
use Rattle.ra_trace.specs.declared.line.Line.{Line}
use Rattle.ra_trace.specs.declared.line.Line.TheVariants.{First, Stepped, Sent, Marked, Last}
use Rattle.ra_trace.specs.declared.line.version.Version.{Version}
use Rattle.ra_trace.specs.declared.line.version.Version.TheVariants.{One, Two, Three, ThreeWithSends}
use Rattle.ra_trace.specs.Version.{last_node, has_mode, has_repeats, has_cancels, has_sends, IsNodeIn}
use Rattle.ra_trace.specs.TraceText.{line_text, IsMarkLine, IsMessageLine, IsStepLine}

-- whether these are digits, one or more, without leading zeros
abbrev pub is_decimal : List ℕ → Bool
is_decimal digits =
    (nat_le 1 (length digits) && list_all is_ascii_digit digits)
    && (length digits == 1 || not (slice_index digits 0 == 48))

-- the number of a decimal, if it is within these bounds, both included
abbrev pub number_within : ℕ → ℕ → List ℕ → Option ℕ
number_within low high digits =
    if is_decimal digits && (nat_le low (digits_value 10 digits) && nat_le (digits_value 10 digits) high)
    then Some (digits_value 10 digits) else None

-- the number of a node, 1 to 64
abbrev pub node_of : List ℕ → Option ℕ
node_of = number_within 1 64

-- the number of a client, 0 to 2^32-1
abbrev pub client_of : List ℕ → Option ℕ
client_of = number_within 0 (2 ^ 32 - 1)

-- the start value, 0 to 2^64-1
abbrev pub start_of : List ℕ → Option ℕ
start_of = number_within 0 (2 ^ 64 - 1)

-- the number of a request, 1 to 2^64-1
abbrev pub seq_of : List ℕ → Option ℕ
seq_of = number_within 1 (2 ^ 64 - 1)

-- whether the bytes are a name
abbrev pub is_name : List ℕ → Bool
is_name bytes = nat_le 1 (length bytes) && (nat_le (length bytes) 32 && list_all is_name_byte bytes)

-- the name that the bytes are, if they are one
abbrev pub name_of : List ℕ → Option (List ℕ)
name_of bytes = if is_name bytes then Some bytes else None

-- the mode that a word names, if it names one
abbrev pub mode_of : List ℕ → Option Mode
mode_of word =
    if bytes_eq word (codes "X") then Some Exclusive
    else if bytes_eq word (codes "S") then Some Shared
    else if bytes_eq word (codes "IS") then Some IntentShared
    else if bytes_eq word (codes "IX") then Some IntentExclusive
    else if bytes_eq word (codes "SIX") then Some SharedIntentExclusive
    else None

-- the text before the first byte of this value and the text after it, if there is one
abbrev pub cut : ℕ → List ℕ → Option (List ℕ × List ℕ)
cut byte [] = None
cut byte (b ∷ bs) = if b == byte then Some ([], bs) else option_map (λ parts. (b ∷ parts.0, parts.1)) (cut byte bs)

-- the text after these bytes, if it begins with them
abbrev pub rest_after : List ℕ → List ℕ → Option (List ℕ)
rest_after [] text = Some text
rest_after (w ∷ words) [] = None
rest_after (w ∷ words) (b ∷ text) = if w == b then rest_after words text else None

-- the field before the first space, and the text after it
abbrev pub before : {A : Type 0} → (List ℕ → Option A) → List ℕ → Option (A × List ℕ)
before read text = option_and_then (λ parts. option_map (λ field. (field, parts.1)) (read parts.0)) (cut 32 text)

-- the field before the first space, and the other fields, after it
abbrev pub fields : {A B : Type 0} → (List ℕ → Option A) → (List ℕ → Option B) → List ℕ → Option (A × B)
fields read others text =
    option_and_then (λ prefix. option_map (λ rest. (prefix.0, rest)) (others prefix.1)) (before read text)

-- the first line of a trace of this version, after the words that name it: the number of nodes and the start value
abbrev pub first_as : Version → List ℕ → Option Line
first_as version text = option_map (λ f. First version f.0 f.1) (fields node_of start_of text)

-- the start value at the end of the first line of a trace of version 3, and whether the word for sends comes after it
abbrev pub start_and_word : Option (List ℕ × List ℕ) → List ℕ → Option (Version × ℕ)
start_and_word None text = option_map (λ start. (Three, start)) (start_of text)
start_and_word (Some parts) text =
    if bytes_eq parts.1 (codes "sends") then option_map (λ start. (ThreeWithSends, start)) (start_of parts.0) else None

-- the first line of a trace of version 3
abbrev pub third_in : List ℕ → Option Line
third_in text =
    option_map (λ f. First f.1.0 f.0 f.1.1) (fields node_of (λ rest. start_and_word (cut 32 rest) rest) text)

-- the first line of a trace, after the words that name its version
abbrev pub first_in : Version → List ℕ → Option Line
first_in One = first_as One
first_in Two = first_as Two
first_in Three = third_in
first_in ThreeWithSends = third_in

-- the step of a client that asks: node, client, name and mode
abbrev pub ask_in : List ℕ → Option Step
ask_in text =
    option_map (λ f. Ask f.0 f.1.0 f.1.1.0 f.1.1.1) (fields node_of (fields client_of (fields name_of mode_of)) text)

-- the step of a client that leaves: node, client and name
abbrev pub leave_in : List ℕ → Option Step
leave_in text = option_map (λ f. Leave f.0 f.1.0 f.1.1) (fields node_of (fields client_of name_of) text)

-- the step of a client that gives up: node, client and name
abbrev pub cancel_in : List ℕ → Option Step
cancel_in text = option_map (λ f. Cancel f.0 f.1.0 f.1.1) (fields node_of (fields client_of name_of) text)

-- the step of a node that forgets
abbrev pub forget_in : List ℕ → Option Step
forget_in text = option_map Forget (node_of text)

-- a REQUEST: sender, receiver, name, mode and number
abbrev pub request_in : List ℕ → Option Message
request_in text =
    option_map (λ f. Request f.0 f.1.0 f.1.1.0 f.1.1.1.0 f.1.1.1.1)
    (fields node_of (fields node_of (fields name_of (fields mode_of seq_of))) text)

-- a REPLY: sender, receiver, name and number
abbrev pub reply_in : List ℕ → Option Message
reply_in text =
    option_map (λ f. Reply f.0 f.1.0 f.1.1.0 f.1.1.1) (fields node_of (fields node_of (fields name_of seq_of)) text)

-- the request of a mark: node, client, name, mode and number
abbrev pub entry_in : List ℕ → Option Entry
entry_in text =
    option_map (λ f. record {
      name = f.1.1.0;
      stamp = record { seq = f.1.1.1.1; node = f.0 };
      client = f.1.0;
      mode = f.1.1.1.0;
    }) (fields node_of (fields client_of (fields name_of (fields mode_of seq_of))) text)

-- the last line, which has nothing after its word
abbrev pub last_in : List ℕ → Option Line
last_in [] = Some Last
last_in (b ∷ text) = None

-- the line of a message that is delivered, lost or repeated, or that a step sends
abbrev pub sent_line : Fate → Message → Line
sent_line Delivered message = Stepped (Deliver message)
sent_line Lost message = Stepped (Lose message)
sent_line Repeated message = Stepped (Repeat message)
sent_line Told message = Sent message

-- the line of a request that is made, enters, leaves or is withdrawn
abbrev pub entry_line : Change → Entry → Line
entry_line change.Requested entry = Marked (Requested entry)
entry_line change.Entered entry = Marked (Entered entry)
entry_line change.Left entry = Marked (Left entry)
entry_line change.Withdrawn entry = Marked (Withdrawn entry)

-- what the fields of a line of this kind are
abbrev pub fields_of : LineKind → List Field
fields_of (kind.First version) = field.Nodes ∷ field.Start ∷ []
fields_of kind.Ask = field.Node ∷ field.Client ∷ field.Name ∷ field.Mode ∷ []
fields_of kind.Leave = field.Node ∷ field.Client ∷ field.Name ∷ []
fields_of kind.Cancel = field.Node ∷ field.Client ∷ field.Name ∷ []
fields_of kind.Forget = field.Node ∷ []
fields_of (kind.Request fate) = field.From ∷ field.To ∷ field.Name ∷ field.Mode ∷ field.Seq ∷ []
fields_of (kind.Reply fate) = field.From ∷ field.To ∷ field.Name ∷ field.Seq ∷ []
fields_of (kind.Mark change) = field.Node ∷ field.Client ∷ field.Name ∷ field.Mode ∷ field.Seq ∷ []
fields_of kind.Last = []

-- how the rest of a line of this kind is read, after its first words
abbrev pub read_as : LineKind → List ℕ → Option Line
read_as (kind.First version) = first_in version
read_as kind.Ask = λ rest. option_map Stepped (ask_in rest)
read_as kind.Leave = λ rest. option_map Stepped (leave_in rest)
read_as kind.Cancel = λ rest. option_map Stepped (cancel_in rest)
read_as kind.Forget = λ rest. option_map Stepped (forget_in rest)
read_as (kind.Request fate) = λ rest. option_map (sent_line fate) (request_in rest)
read_as (kind.Reply fate) = λ rest. option_map (sent_line fate) (reply_in rest)
read_as (kind.Mark change) = λ rest. option_map (entry_line change) (entry_in rest)
read_as kind.Last = last_in

-- a form of lines: the words that begin them, and how the rest is read
pub record Form : Type 0 where
  pub words : List ℕ
  pub read : List ℕ → Option Line

-- the twenty forms, which begin differently, with the forms of most lines first
abbrev pub forms : List Form
forms =
    record { words = codes "request "; read = λ rest. option_map (λ entry. Marked (Requested entry)) (entry_in rest) } ∷
    record { words = codes "enter "; read = λ rest. option_map (λ entry. Marked (Entered entry)) (entry_in rest) } ∷
    record { words = codes "leave "; read = λ rest. option_map (λ entry. Marked (Left entry)) (entry_in rest) } ∷
    record { words = codes "ask "; read = λ rest. option_map Stepped (ask_in rest) } ∷
    record { words = codes "release "; read = λ rest. option_map Stepped (leave_in rest) } ∷
    record { words = codes "deliver request "; read = λ rest. option_map (λ message. Stepped (Deliver message)) (request_in rest) } ∷
    record { words = codes "deliver reply "; read = λ rest. option_map (λ message. Stepped (Deliver message)) (reply_in rest) } ∷
    record { words = codes "lose request "; read = λ rest. option_map (λ message. Stepped (Lose message)) (request_in rest) } ∷
    record { words = codes "lose reply "; read = λ rest. option_map (λ message. Stepped (Lose message)) (reply_in rest) } ∷
    record { words = codes "repeat request "; read = λ rest. option_map (λ message. Stepped (Repeat message)) (request_in rest) } ∷
    record { words = codes "repeat reply "; read = λ rest. option_map (λ message. Stepped (Repeat message)) (reply_in rest) } ∷
    record { words = codes "withdraw "; read = λ rest. option_map (λ entry. Marked (Withdrawn entry)) (entry_in rest) } ∷
    record { words = codes "cancel "; read = λ rest. option_map Stepped (cancel_in rest) } ∷
    record { words = codes "forget "; read = λ rest. option_map Stepped (forget_in rest) } ∷
    record { words = codes "send request "; read = λ rest. option_map Sent (request_in rest) } ∷
    record { words = codes "send reply "; read = λ rest. option_map Sent (reply_in rest) } ∷
    record { words = codes "trace 1 "; read = first_as One } ∷
    record { words = codes "trace 2 "; read = first_as Two } ∷
    record { words = codes "trace 3 "; read = third_in } ∷
    record { words = codes "end"; read = last_in } ∷ []

-- what the rest is read as, if the text began with the words of a form, and otherwise the other line
abbrev pub line_at : Option (List ℕ) → (List ℕ → Option Line) → Option Line → Option Line
line_at None read other = other
line_at (Some rest) read other = read rest

-- the line of the first form whose words begin the text
abbrev pub line_by : List Form → List ℕ → Option Line
line_by [] text = None
line_by (form ∷ others) text = line_at (rest_after form.words text) form.read (line_by others text)

-- the line that the text is read as, if it is one
abbrev pub line_in : List ℕ → Option Line
line_in text = line_by forms text

-- the line can be read: its fields are in the ranges of version 3, whether or not the version of its trace allows it
abbrev pub IsReadable : Line → Type 0
IsReadable (First version nodes start) = IsNodeIn Three nodes × (start < 2 ^ 64)
IsReadable (Stepped step) = IsStepLine Three step
IsReadable (Sent message) = IsMessageLine Three message
IsReadable (Marked mark) = IsMarkLine Three mark
IsReadable Last = Unit {0}

-- the text begins with such a line, and this is what follows
abbrev pub BeginsReadable : List ℕ → Line → List ℕ → Type 0
BeginsReadable text line rest = IsReadable line × (text ≡ line_text line ++ rest)

-- whether the number of a node is at most the greatest of a version
abbrev pub has_node : Version → ℕ → Bool
has_node version node = nat_le node (last_node version)

-- whether a version allows a request: its node and its mode
abbrev pub allows_entry : Version → Entry → Bool
allows_entry version entry = has_node version entry.stamp.node && has_mode version entry.mode

-- whether a version allows a mark: the node and the mode of its request, and withdrawals if it is one
abbrev pub allows_mark : Version → Mark → Bool
allows_mark version (Requested entry) = allows_entry version entry
allows_mark version (Entered entry) = allows_entry version entry
allows_mark version (Left entry) = allows_entry version entry
allows_mark version (Withdrawn entry) = has_cancels version && allows_entry version entry

-- whether a version allows a message: its two nodes, and the mode of a REQUEST
abbrev pub allows_message : Version → Message → Bool
allows_message version (Request from to name mode seq) =
    (has_node version from && has_node version to) && has_mode version mode
allows_message version (Reply from to name seq) = has_node version from && has_node version to

-- whether a version allows the line of a message that is sent: that it tells sends, and its nodes and its mode
abbrev pub allows_sent : Version → Message → Bool
allows_sent version message = has_sends version && allows_message version message

-- whether a version allows a step: its nodes and its mode, and repeats, cancels or to forget if it is one
abbrev pub allows_step : Version → Step → Bool
allows_step version (Ask node client name mode) = has_node version node && has_mode version mode
allows_step version (Leave node client name) = has_node version node
allows_step version (Cancel node client name) = has_cancels version && has_node version node
allows_step version (Deliver message) = allows_message version message
allows_step version (Lose message) = allows_message version message
allows_step version (Repeat message) = has_repeats version && allows_message version message
allows_step version (Forget node) = has_cancels version && has_node version node
