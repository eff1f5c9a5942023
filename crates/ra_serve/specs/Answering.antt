-- What a host says as it hears another one.
use Rattle.std.specs.Prelude.{◌≡◌, ℕ, Bool, true, false, not, ◌&&◌, ◌==◌, Option, Some, None, is_some, codes}
use Rattle.ra_link.specs.declared.link.Link.{Link}
use Rattle.ra_link.specs.declared.message.Message.{Message}
use Rattle.ra_link.specs.declared.message.Message.TheVariants.{Hello, Welcome, Frame, Ack, Old}
use Rattle.ra_link.specs.Link.{ack_of, hello_of, old_of}
use Rattle.ra_serve.specs.declared.settings.Settings.{Settings}
use Rattle.ra_serve.specs.declared.base.Base.{Base}
use Rattle.ra_serve.specs.Peers.{Puts, peer_of}
use Rattle.ra_serve.specs.Saying.{Acknowledges, Asks, SaysPlain}
use Rattle.ra_serve.specs.Notes.{Notes, settings_text}

-- a question comes from a host with the settings of this one
abbrev pub has_settings : Settings → ℕ → ℕ → Bool
has_settings s nodes first = nodes == s.member.nodes && first == s.start

-- its book is another one than it had before
abbrev pub is_other_book : Option ℕ → ℕ → Bool
is_other_book None identity = false
is_other_book (Some known) identity = not (known == identity)

-- a question is heard, unless its host has other settings or another book than before, which is noted
abbrev pub may_hear : Base → ℕ → ℕ → ℕ → ℕ → Bool
may_hear base host nodes first identity =
    has_settings base.settings nodes first && not (is_other_book (peer_of base host).identity identity)

abbrev pub MeetsBook : Bool → Base → ℕ → ℕ → Base → Type 0
MeetsBook true old host identity new = Notes old host 6 (codes "has another book than before") new
MeetsBook false old host identity new = Puts old host (record (peer_of old host) { identity = Some identity }) new

abbrev pub MeetsAs : Bool → Base → ℕ → ℕ → ℕ → ℕ → Base → Type 0
MeetsAs true old host nodes first identity new =
    MeetsBook (is_other_book (peer_of old host).identity identity) old host identity new
MeetsAs false old host nodes first identity new = Notes old host 5 (settings_text old.settings nodes first) new

abbrev pub Meets : Base → ℕ → ℕ → ℕ → ℕ → Base → Type 0
Meets old host nodes first identity new =
    MeetsAs (has_settings old.settings nodes first) old host nodes first identity new

-- the number of a message that is a question
abbrev pub question_in : Option Message → Option ℕ
question_in None = None
question_in (Some (Hello start question)) = Some question
question_in (Some (Welcome asker question start kept)) = None
question_in (Some (Frame start number)) = None
question_in (Some (Ack start other kept)) = None
question_in (Some (Old count)) = None

-- another question is open than before, or one and none before, or none and one before
abbrev pub is_another : Option ℕ → Option ℕ → Bool
is_another None None = false
is_another None (Some question) = true
is_another (Some question) None = true
is_another (Some question) (Some other) = not (question == other)

abbrev pub AsksIf : Bool → Base → ℕ → Link → Base → Type 0
AsksIf true old host is new = Asks old host is new
AsksIf false old host is new = new ≡ old

-- after its question was heard by a link that was and is now this: the answer, and then this host's own question if it
-- asks anew
abbrev pub AnswersHello : Base → ℕ → (was is : Link) → Message → Base → Type 0
AnswersHello old host was is welcome new =
    (mid : Base) × SaysPlain old host (Some welcome) mid
    × AsksIf (is_another (question_in (hello_of was)) (question_in (hello_of is))) mid host is new

-- a host was heard just now
abbrev pub Touches : Base → ℕ → Base → Type 0
Touches old host new = Puts old host (record (peer_of old host) { since = old.time }) new

abbrev pub AnswersIf : Bool → Base → ℕ → Link → Base → Type 0
AnswersIf true old host is new = SaysPlain old host (old_of is) new
AnswersIf false old host is new =
    (mid : Base) × Touches old host mid × Acknowledges mid host (ack_of is) (is_some (hello_of is)) new

-- the message is this question of this start
abbrev pub is_question : Option Message → ℕ → ℕ → Bool
is_question None start question = false
is_question (Some (Hello own number)) start question = own == start && number == question
is_question (Some (Welcome asker number own kept)) start question = false
is_question (Some (Frame own number)) start question = false
is_question (Some (Ack own other kept)) start question = false
is_question (Some (Old count)) start question = false

abbrev pub AnswersBy : Bool → Base → ℕ → Link → Base → Type 0
AnswersBy true old host is new = AnswersIf (is_some (hello_of is)) old host is new
AnswersBy false old host is new = new ≡ old

-- after its answer to this question was heard, by a link that was and is now this: the ack, or that the other book is
-- old. An answer to another question than the open one changes nothing.
abbrev pub AnswersWelcome : Base → ℕ → (was is : Link) → (start question : ℕ) → Base → Type 0
AnswersWelcome old host was is start question new =
    AnswersBy (is_question (hello_of was) start question) old host is new

-- it is noted when a host is heard to which no question is open
abbrev pub Hears : Bool → Base → ℕ → Base → Type 0
Hears true old host new = new ≡ old
Hears false old host new = Touches old host new
