-- The frames that came.
use Rattle.std.proofs.Common.{◌≡◌, ℕ, ◌+◌, ◌<◌, true, false, List, [], ◌∷◌, ◌++◌, map, length, get_or, take, drop, BTreeSet, refl, sym, ap, ◌∙◌, subst, append_assoc}
use Rattle.std.specs.Prelude.{All}
use Rattle.std.specs.BTreeSet as sorted
use Rattle.std.specs.List.{Any}
use Rattle.std.proofs.lemmas.List.{map-append, append-nil}
use Rattle.std.proofs.lemmas.List.Elements.{All-append, All-cons, All-nil}
use Rattle.std.proofs.lemmas.List.Concat.{flat_map-append}
use Rattle.ra_stamp.specs.declared.message.Message.{Message}
use Rattle.ra_frame.specs.declared.frame.Frame.{Frame}
use Rattle.ra_book.specs.declared.book.event.BookKind.{BookKind}
use Rattle.ra_book.specs.declared.book.event.BookKind.TheVariants.{Ask, Leave, Cancel, Receive, Forget}
use Rattle.ra_book.specs.declared.book.event.BookEvent.{BookEvent}
use Rattle.ra_book.specs.Keys.{OrderKey, HasEach, message_key, messages_among}
use Rattle.ra_book.specs.Book.{BookState}
use Rattle.ra_book.specs.Settled.{frames_in, received_among, all_received, Repeats}
use Rattle.ra_book.proofs.KeyOrders.{key_cmp, key_total, key_exact, one_message}
use Rattle.ra_book.proofs.KeySets.{one_more, again, repeats_more}
use Rattle.ra_book.proofs.Parts.{split, more, any_left, any_right, any_first}

-- ---- The frames that came

-- the frames that came by the events, and by the next one
pub received_more : (events : List BookEvent) (i : ℕ) (e : BookEvent) → i < length events → e ≡ get_or events i e → received_among (take (i + 1) events) ≡ received_among (take i events) ++ frames_in e.kind
received_more events i e within at =
    ap received_among (more events i e within at) ∙ flat_map-append (λ e. frames_in e.kind) (take i events) (e ∷ []) ∙ ap (λ fs. received_among (take i events) ++ fs) (append-nil (frames_in e.kind))

pub received_split : (events : List BookEvent) (i : ℕ) (e : BookEvent) → i < length events → e ≡ get_or events i e
    → received_among events ≡ received_among (take i events) ++ (frames_in e.kind ++ received_among (drop (i + 1) events))
received_split events i e within at = ap received_among (split events i e within at) ∙ flat_map-append (λ e. frames_in e.kind) (take i events) (e ∷ drop (i + 1) events)

pub all_received_more : (books : List BookState) (i : ℕ) (b : BookState) → i < length books → b ≡ get_or books i b → all_received (take (i + 1) books) ≡ all_received (take i books) ++ received_among b.events
all_received_more books i b within at =
    ap all_received (more books i b within at) ∙ flat_map-append (λ b. received_among b.events) (take i books) (b ∷ []) ∙ ap (λ fs. all_received (take i books) ++ fs) (append-nil (received_among b.events))

pub all_received_split : (books : List BookState) (i : ℕ) (b : BookState) → i < length books → b ≡ get_or books i b
    → all_received books ≡ all_received (take i books) ++ (received_among b.events ++ all_received (drop (i + 1) books))
all_received_split books i b within at = ap all_received (split books i b within at) ∙ flat_map-append (λ b. received_among b.events) (take i books) (b ∷ drop (i + 1) books)

pub nothing_in : (kind : BookKind) → ((frame : Frame) → kind ≡ Receive frame → ⊥) → frames_in kind ≡ []
nothing_in (Ask client name mode) none = refl
nothing_in (Leave client name) none = refl
nothing_in (Cancel client name) none = refl
nothing_in Forget none = refl
nothing_in (Receive frame) none = absurd (none frame refl)

-- all of them, with those of another event
pub all_more : (P : Frame → Type 0) (events : List BookEvent) (i : ℕ) (e : BookEvent) → i < length events → e ≡ get_or events i e → All P (received_among (take i events)) → All P (frames_in e.kind)
    → All P (received_among (take (i + 1) events))
all_more P events i e within at before here =
    subst (All P) (sym (received_more events i e within at)) (All-append P (received_among (take i events)) (frames_in e.kind) before here)

pub all_in_received : (P : Frame → Type 0) (kind : BookKind) (frame : Frame) → kind ≡ Receive frame → P frame → All P (frames_in kind)
all_in_received P kind frame is p = subst (λ (k : BookKind). All P (frames_in k)) (sym is) (All-cons P frame [] p (All-nil P))

pub all_in_none : (P : Frame → Type 0) (kind : BookKind) → ((frame : Frame) → kind ≡ Receive frame → ⊥) → All P (frames_in kind)
all_in_none P kind none = subst (All P) (sym (nothing_in kind none)) (All-nil P)

-- one of them
pub some_received : (P : Frame → Type 0) (events : List BookEvent) (i : ℕ) (e : BookEvent) (frame : Frame) → i < length events → e ≡ get_or events i e → e.kind ≡ Receive frame → P frame → Any P (received_among events)
some_received P events i e frame within at is p =
    subst (Any P) (sym (received_split events i e within at))
    (any_right P (received_among (take i events)) (frames_in e.kind ++ received_among (drop (i + 1) events))
    (any_left P (frames_in e.kind) (received_among (drop (i + 1) events)) (subst (λ (k : BookKind). Any P (frames_in k)) (sym is) (any_first P frame [] p))))

pub some_at : (P : Frame → Type 0) (books : List BookState) (i : ℕ) (b : BookState) → i < length books → b ≡ get_or books i b → Any P (received_among b.events) → Any P (all_received books)
some_at P books i b within at is =
    subst (Any P) (sym (all_received_split books i b within at))
    (any_right P (all_received (take i books)) (received_among b.events ++ all_received (drop (i + 1) books)) (any_left P (received_among b.events) (all_received (drop (i + 1) books)) is))

-- ---- Messages

pub message_put : (old new : BTreeSet OrderKey) (list : List Message) (m : Message) → HasEach old list → sorted.contains key_cmp old (message_key m) ≡ false
    → sorted.Updates key_cmp old new (message_key m) true → HasEach new (list ++ m ∷ [])
message_put = one_more key_total key_exact (λ m. message_key m) one_message

pub message_again : (set : BTreeSet OrderKey) (list : List Message) (m : Message) → HasEach set list → sorted.contains key_cmp set (message_key m) ≡ true → Repeats (list ++ m ∷ [])
message_again = again key_total key_exact (λ m. message_key m) one_message

module _ (list : List Message) (events : List BookEvent) (i : ℕ) (e : BookEvent) (within : i < length events) (at : e ≡ get_or events i e) where
  messages_more : messages_among (take (i + 1) events) ≡ messages_among (take i events) ++ map (λ f. f.message) (frames_in e.kind)
  messages_more = ap (map (λ f. f.message)) (received_more events i e within at) ∙ map-append (λ f. f.message) (received_among (take i events)) (frames_in e.kind)

  pub each_more : (set : BTreeSet OrderKey) (frame : Frame) → e.kind ≡ Receive frame → HasEach set ((list ++ messages_among (take i events)) ++ frame.message ∷ []) → HasEach set (list ++ messages_among (take (i + 1) events))
  each_more set frame is has =
      subst (HasEach set)
      (append_assoc list (messages_among (take i events)) (frame.message ∷ [])
      ∙ ap (λ (ms : List Message). list ++ ms) (sym (messages_more ∙ ap (λ (k : BookKind). messages_among (take i events) ++ map (λ f. f.message) (frames_in k)) is))) has

  pub each_same : (set : BTreeSet OrderKey) → ((frame : Frame) → e.kind ≡ Receive frame → ⊥) → HasEach set (list ++ messages_among (take i events)) → HasEach set (list ++ messages_among (take (i + 1) events))
  each_same set none has =
      subst (λ (ms : List Message). HasEach set (list ++ ms))
      (sym (messages_more ∙ ap (λ (fs : List Frame). messages_among (take i events) ++ map (λ f. f.message) fs) (nothing_in e.kind none) ∙ append-nil (messages_among (take i events)))) has

  pub repeats_then : (frame : Frame) → e.kind ≡ Receive frame → Repeats ((list ++ messages_among (take i events)) ++ frame.message ∷ []) → Repeats (list ++ messages_among events)
  repeats_then frame is repeats =
      let rest : List Message = map (λ f. f.message) (received_among (drop (i + 1) events)) in
      let all : messages_among events ≡ messages_among (take i events) ++ (frame.message ∷ rest) =
      ap (map (λ f. f.message)) (received_split events i e within at)
      ∙ map-append (λ f. f.message) (received_among (take i events)) (frames_in e.kind ++ received_among (drop (i + 1) events))
      ∙ ap (λ (k : BookKind). messages_among (take i events) ++ map (λ f. f.message) (frames_in k ++ received_among (drop (i + 1) events))) is
      in
      subst Repeats
      (append_assoc (list ++ messages_among (take i events)) (frame.message ∷ []) rest ∙ append_assoc list (messages_among (take i events)) (frame.message ∷ rest) ∙ ap (λ (ms : List Message). list ++ ms) (sym all))
      (repeats_more ((list ++ messages_among (take i events)) ++ frame.message ∷ []) rest repeats)

-- the messages of all books
pub all_messages_more : (books : List BookState) (i : ℕ) (b : BookState) → i < length books → b ≡ get_or books i b
    → map (λ f. f.message) (all_received (take (i + 1) books)) ≡ map (λ f. f.message) (all_received (take i books)) ++ messages_among b.events
all_messages_more books i b within at = ap (map (λ f. f.message)) (all_received_more books i b within at) ∙ map-append (λ f. f.message) (all_received (take i books)) (received_among b.events)

pub all_repeat : (books : List BookState) (i : ℕ) (b : BookState) → i < length books → b ≡ get_or books i b
    → Repeats (map (λ f. f.message) (all_received (take i books)) ++ messages_among b.events) → Repeats (map (λ f. f.message) (all_received books))
all_repeat books i b within at repeats =
    let rest : List Message = map (λ f. f.message) (all_received (drop (i + 1) books)) in
    let all : map (λ f. f.message) (all_received books) ≡ map (λ f. f.message) (all_received (take i books)) ++ (messages_among b.events ++ rest) =
    ap (map (λ f. f.message)) (all_received_split books i b within at)
    ∙ map-append (λ f. f.message) (all_received (take i books)) (received_among b.events ++ all_received (drop (i + 1) books))
    ∙ ap (λ (ms : List Message). map (λ f. f.message) (all_received (take i books)) ++ ms) (map-append (λ f. f.message) (received_among b.events) (all_received (drop (i + 1) books)))
    in
    subst Repeats (append_assoc (map (λ f. f.message) (all_received (take i books))) (messages_among b.events) rest ∙ sym all)
    (repeats_more (map (λ f. f.message) (all_received (take i books)) ++ messages_among b.events) rest repeats)
