-- How a host goes on in a turn, whatever it knows: the facts that every turn has, also if books are put back.
use Rattle.std.proofs.Common.{◌≡◌, ◌≤◌, ◌<◌, ◌+◌, ◌⊎◌, ℕ, List, [], ◌∷◌, ◌++◌, true, false, length, take, max, ap, subst, Option, Some, None}
use Rattle.std.specs.List.{AllByRecursion, slice_get}
use Rattle.std.proofs.lemmas.Bool.{eqb-true, false≢true}
use Rattle.ra_link.specs.declared.message.Message.{Message}
use Rattle.ra_link.specs.declared.message.Message.TheVariants.{Hello, Welcome, Frame, Ack, Old}
use Rattle.ra_link.specs.declared.link.Link.{Link}
use Rattle.ra_link.specs.Link.{is_nonce, is_open, shows_old}
use Rattle.ra_link.specs.Pair.{Host, Packet, Turn, was_used, count_in}
use Rattle.ra_link.proofs.Flow.{BookOf, FrameFits, Each, at_place}

-- ---- What was said

-- it was said, so that it may come
abbrev pub IsIn : List Packet → Message → List ℕ → Type 0
IsIn ps m frame = (which : ℕ) × (slice_get ps which ≡ Some (record { message = m; frame = frame }))

pub look : (P : Packet → Type 0) (ps : List Packet) (m : Message) (frame : List ℕ) → AllByRecursion P ps → IsIn ps m frame → P (record { message = m; frame = frame })
look P ps m frame h i = subst (Each P) i.1 (at_place P ps i.0 h)

-- ---- How a host goes on

-- the link says what is in the book, and no host that is up has ended
pub record IsBook (h : Host) : Type 0 where
  pub sent : h.sent_kept ≤ length h.sent
  pub taken : h.taken_kept ≤ length h.taken
  pub link : h.up ≡ true → BookOf h h.link
  pub unaccused : h.up ≡ true → h.accused ≡ false

-- an answer to the open question came, and its start is adopted
pub record IsAnswered (x l : Link) (back : List Packet) : Type 0 where
  pub asker : ℕ
  pub question : ℕ
  pub start : ℕ
  pub kept : ℕ
  pub frame : List ℕ
  pub said : IsIn back (Welcome asker question start kept) frame
  pub own : asker ≡ x.own
  pub number : question ≡ x.asked
  pub open_before : is_open x.pending ≡ true
  pub closed : l.pending ≡ None
  pub whole : shows_old x start kept ≡ false
  pub acknowledged : l.acknowledged ≡ max x.acknowledged kept
  pub is_old : l.is_old ≡ false
  pub adopted : l.adopted ≡ Some start
  pub asked : l.asked ≡ x.asked

-- an ack of the adopted start came, and raised what is known
pub record Raises (x l : Link) (back : List Packet) : Type 0 where
  pub start : ℕ
  pub other : ℕ
  pub kept : ℕ
  pub frame : List ℕ
  pub said : IsIn back (Ack start other kept) frame
  pub adopted : x.adopted ≡ Some start
  pub acknowledged : l.acknowledged ≡ max x.acknowledged kept

-- an answer to the open question came, and shows that the other's book is old
pub record ShowsOld (x : Link) (back : List Packet) : Type 0 where
  pub asker : ℕ
  pub question : ℕ
  pub start : ℕ
  pub kept : ℕ
  pub frame : List ℕ
  pub said : IsIn back (Welcome asker question start kept) frame
  pub own : asker ≡ x.own
  pub number : question ≡ x.asked
  pub open_before : is_open x.pending ≡ true
  pub shows : shows_old x start kept ≡ true

pub record IsSameQuestion (x l : Link) (back : List Packet) : Type 0 where
  pub asked : l.asked ≡ x.asked
  pub adopted : l.adopted ≡ x.adopted
  pub pending : l.pending ≡ x.pending
  pub acknowledged : (l.acknowledged ≡ x.acknowledged) ⊎ Raises x l back
  pub is_old : l.is_old ≡ true → (x.is_old ≡ true) ⊎ ShowsOld x back

pub record IsNextQuestion (x l : Link) : Type 0 where
  pub asked : l.asked ≡ x.asked + 1
  pub adopted : l.adopted ≡ x.adopted
  pub pending : l.pending ≡ Some x.acknowledged
  pub acknowledged : l.acknowledged ≡ x.acknowledged
  pub is_old : l.is_old ≡ false

abbrev pub Questions : Link → Link → List Packet → Type 0
Questions x l back = IsSameQuestion x l back ⊎ (IsNextQuestion x l ⊎ IsAnswered x l back)

-- an ack for this start came, whose count is at most this
pub record Confirms (l : Link) (most : ℕ) (back : List Packet) : Type 0 where
  pub start : ℕ
  pub other : ℕ
  pub kept : ℕ
  pub frame : List ℕ
  pub said : IsIn back (Ack start other kept) frame
  pub adopted : l.adopted ≡ Some start
  pub own_start : other ≡ l.own
  pub at_most : kept ≤ most

-- the next frame of the adopted start came, and is taken
pub record Takes (x z : Host) (back : List Packet) : Type 0 where
  pub start : ℕ
  pub number : ℕ
  pub frame : List ℕ
  pub said : IsIn back (Frame start number) frame
  pub next : number ≡ length x.taken + 1
  pub adopted : x.link.adopted ≡ Some start
  pub taken : z.taken ≡ x.taken ++ frame ∷ []

-- the book was replayed, since an ack came and the book lacks nothing
pub record IsReadied (x z : Host) : Type 0 where
  pub before : x.link.ready ≡ false
  pub confirmed : x.link.confirmed ≡ true
  pub all : x.link.acknowledged ≤ length x.sent

pub record GoesOn (x z : Host) (back : List Packet) : Type 0 where
  pub up : x.up ≡ true
  pub own : z.link.own ≡ x.link.own
  pub question : Questions x.link z.link back
  pub taken : (z.taken ≡ x.taken) ⊎ Takes x z back
  pub kept : x.sent_kept ≤ z.sent_kept
  pub stored : x.taken_kept ≤ z.taken_kept
  pub front : take (length x.sent) z.sent ≡ x.sent
  pub unready : z.link.ready ≡ false → z.sent ≡ x.sent
  pub ready : x.link.ready ≡ true → z.link.ready ≡ true
  pub readied : z.link.ready ≡ true → (x.link.ready ≡ true) ⊎ IsReadied x z
  pub acknowledged : x.link.acknowledged ≤ z.link.acknowledged
  pub confirmed : z.link.confirmed ≡ true → (x.link.confirmed ≡ true) ⊎ Confirms x.link z.link.acknowledged back
  pub unknown : z.link.adopted ≡ None → z.link.acknowledged ≡ x.link.acknowledged

pub record IsFresh (x z : Host) : Type 0 where
  pub unused : was_used z.link.own x.starts ≡ false
  pub used : was_used z.link.own z.starts ≡ true
  pub ready : z.link.ready ≡ false
  pub confirmed : z.link.confirmed ≡ false
  pub adopted : z.link.adopted ≡ None
  pub unknown : z.link.acknowledged ≡ 0
  pub pending : z.link.pending ≡ Some 0
  pub is_old : z.link.is_old ≡ false
  pub sent : z.sent ≡ x.sent
  pub taken : z.taken ≡ x.taken

-- it is down, and its book is what it was, or less
pub record IsCut (x z : Host) : Type 0 where
  pub link : z.link ≡ x.link
  pub sent : z.sent ≡ take (length z.sent) x.sent
  pub taken : z.taken ≡ take (length z.taken) x.taken

-- what a host says is of the start that runs, and true
abbrev pub Tells : Host → List Packet → Message → List ℕ → Type 0
Tells z back (Hello start question) frame = (start ≡ z.link.own) × (question ≡ z.link.asked)
Tells z back (Welcome asker question start kept) frame = (start ≡ z.link.own) × ((f : List ℕ) × IsIn back (Hello asker question) f) × (kept ≡ z.taken_kept)
Tells z back (Frame start number) frame = (start ≡ z.link.own) × (z.link.ready ≡ true) × FrameFits z.sent z.sent_kept (Frame start number) frame
Tells z back (Ack start other kept) frame = (start ≡ z.link.own) × (z.link.adopted ≡ Some other) × (kept ≡ length z.taken) × (kept ≡ z.taken_kept)
Tells z back (Old count) frame = (z.link.is_old ≡ true) × (count ≡ z.link.acknowledged)

-- ---- Why a host ends by itself

-- it answers the open question, or it is an ack of the adopted start for this one
abbrev pub CountsFor : Link → Message → Type 0
CountsFor l (Hello start question) = Unit {0}
CountsFor l (Welcome asker question start kept) = (asker ≡ l.own) × (question ≡ l.asked) × (is_open l.pending ≡ true)
CountsFor l (Frame start number) = Unit {0}
CountsFor l (Ack start other kept) = (l.adopted ≡ Some start) × (other ≡ l.own)
CountsFor l (Old count) = Unit {0}

-- a count of the other host is more than it has sent
pub record HearsAbove (x : Host) (back : List Packet) : Type 0 where
  pub message : Message
  pub frame : List ℕ
  pub said : IsIn back message frame
  pub up : x.up ≡ true
  pub ready : x.link.ready ≡ true
  pub counts : CountsFor x.link message
  pub above : x.link.sent < count_in message

-- it learns that its book is old
pub record HearsOld (x : Host) (back : List Packet) : Type 0 where
  pub count : ℕ
  pub frame : List ℕ
  pub said : IsIn back (Old count) frame
  pub up : x.up ≡ true
  pub unready : x.link.ready ≡ false
  pub less : x.link.taken < count

-- its book has fewer frames than were acknowledged
pub record LacksFrames (x : Host) : Type 0 where
  pub up : x.up ≡ true
  pub unready : x.link.ready ≡ false
  pub confirmed : x.link.confirmed ≡ true
  pub less : length x.sent < x.link.acknowledged

abbrev pub EndsFor : Host → List Packet → Type 0
EndsFor x back = HearsAbove x back ⊎ (HearsOld x back ⊎ LacksFrames x)

pub record Says (z : Host) (back : List Packet) (p : Packet) : Type 0 where
  pub up : z.up ≡ true
  pub tells : Tells z back p.message p.frame

pub record Goes (x : Host) (back : List Packet) (t : Turn) : Type 0 where
  pub book : IsBook t.host
  pub starts : (start : ℕ) → was_used start x.starts ≡ true → was_used start t.host.starts ≡ true
  pub up : t.host.up ≡ true → GoesOn x t.host back ⊎ IsFresh x t.host
  pub down : t.host.up ≡ false → IsCut x t.host
  pub accused : t.host.accused ≡ true → (x.accused ≡ true) ⊎ EndsFor x back
  pub says : AllByRecursion (Says t.host back) t.says

pub nonce_known : (o : Option ℕ) (n : ℕ) → is_nonce o n ≡ true → o ≡ Some n
nonce_known None n e = absurd (false≢true e)
nonce_known (Some m) n e = ap (λ k. Some k) (eqb-true m n e)

pub none_is_some : (n : ℕ) → None ≡ Some n → ⊥
none_is_some n e = cc

pub same_some : (m n : ℕ) → Some m ≡ Some n → m ≡ n
same_some m n e = cc
