-- The versions of traces, and what each allows.
use Rattle.std.specs.Prelude.{ℕ, ◌≤◌, Bool, true, false, IsTrue, List, [], codes}
use Rattle.ra_stamp.specs.declared.mode.Mode.{Mode}
use Rattle.ra_stamp.specs.declared.mode.Mode.TheVariants.{Shared, Exclusive, IntentShared, IntentExclusive, SharedIntentExclusive}
use Rattle.ra_trace.specs.declared.line.version.Version.{Version}
use Rattle.ra_trace.specs.declared.line.version.Version.TheVariants.{One, Two, Three, ThreeWithSends}

-- how the first line names a version
abbrev pub version_word : Version → List ℕ
version_word One = codes "1"
version_word Two = codes "2"
version_word Three = codes "3"
version_word ThreeWithSends = codes "3"

-- how the first line ends: in version 3 it says whether the trace has sends
abbrev pub first_end : Version → List ℕ
first_end One = []
first_end Two = []
first_end Three = []
first_end ThreeWithSends = codes " sends"

-- the greatest number of a node: 16 in version 1, and 64 from version 2 on
abbrev pub last_node : Version → ℕ
last_node One = 16
last_node Two = 64
last_node Three = 64
last_node ThreeWithSends = 64

-- whether a version has this mode: version 1 has the modes shared and exclusive, and the others have all five
abbrev pub has_mode : Version → Mode → Bool
has_mode One Shared = true
has_mode One Exclusive = true
has_mode One IntentShared = false
has_mode One IntentExclusive = false
has_mode One SharedIntentExclusive = false
has_mode Two mode = true
has_mode Three mode = true
has_mode ThreeWithSends mode = true

-- whether a message may be repeated: from version 2 on
abbrev pub has_repeats : Version → Bool
has_repeats One = false
has_repeats Two = true
has_repeats Three = true
has_repeats ThreeWithSends = true

-- whether clients may cancel and nodes forget, as in version 3
abbrev pub has_cancels : Version → Bool
has_cancels One = false
has_cancels Two = false
has_cancels Three = true
has_cancels ThreeWithSends = true

-- whether the trace has the messages that a step sends
abbrev pub has_sends : Version → Bool
has_sends One = false
has_sends Two = false
has_sends Three = false
has_sends ThreeWithSends = true

-- the number is 1 to the greatest number of a node in this version
abbrev pub IsNodeIn : Version → ℕ → Type 0
IsNodeIn version node = (1 ≤ node) × (node ≤ last_node version)

-- the version has this mode
abbrev pub IsModeIn : Version → Mode → Type 0
IsModeIn version mode = IsTrue (has_mode version mode)

-- the version has repeats
abbrev pub MayRepeat : Version → Type 0
MayRepeat version = IsTrue (has_repeats version)

-- the version has cancels, withdrawals and forgetting
abbrev pub MayCancel : Version → Type 0
MayCancel version = IsTrue (has_cancels version)

-- the version tells what is sent
abbrev pub TellsSends : Version → Type 0
TellsSends version = IsTrue (has_sends version)
