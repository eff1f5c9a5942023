-- Lists of frames and of what was said, and when a link says what is in its host's book.
use Rattle.std.proofs.Common.{◌≡◌, ◌≤◌, ◌<◌, ◌-◌, inl, inr, ℕ, zero, suc, List, [], ◌∷◌, ◌++◌, Bool, true, false, length, get_or, take, sym, ◌∙◌, ap, Option, Some, None, arith}
use Rattle.std.specs.List.{AllByRecursion, slice_get}
use Rattle.std.proofs.lemmas.Bool.{cases_lt}
use Rattle.std.proofs.lemmas.List.{take_all, take-take, take_more, get_or-take, length-take, length_push}
use Rattle.ra_link.specs.declared.message.Message.{Message}
use Rattle.ra_link.specs.declared.message.Message.TheVariants.{Hello, Welcome, Frame, Ack, Old}
use Rattle.ra_link.specs.declared.link.Link.{Link}
use Rattle.ra_link.specs.Pair.{Host}

-- ---- Frames

pub take_itself : (xs : List (List ℕ)) → take (length xs) xs ≡ xs
take_itself xs = take_all (length xs) xs (omega arith)

-- lists that begin with the same frames begin with the same fewer ones
pub shorter : (m n : ℕ) (xs ys : List (List ℕ)) → m ≤ n → take n xs ≡ take n ys → take m xs ≡ take m ys
shorter m n xs ys le e = sym (take-take m n xs le) ∙ ap (take m) e ∙ take-take m n ys le

-- the front of a front
pub front_of_front : (m : ℕ) (xs ys : List (List ℕ)) → xs ≡ take (length xs) ys → take m xs ≡ take (length (take m xs)) ys
front_of_front m xs ys e =
    elim (cases_lt m (length xs)) [
      | inl below ↦
          let n : length (take m xs) ≡ m = omega (arith, length-take m xs, below) in
          ap (take m) e ∙ take-take m (length xs) ys (omega arith) ∙ ap (λ k. take k ys) (sym n)
      | inr above ↦
          let n : length (take m xs) ≡ length xs = omega (arith, length-take m xs, above) in
          take_all m xs above ∙ e ∙ ap (λ k. take k ys) (sym n)
    ]

-- the next frame goes on with the front
pub pushed : (xs ys : List (List ℕ)) (y d : List ℕ) → xs ≡ take (length xs) ys → length xs < length ys → y ≡ get_or ys (length xs) d → xs ++ y ∷ [] ≡ take (length (xs ++ y ∷ [])) ys
pushed xs ys y d e lt same =
    ap (λ zs. zs ++ y ∷ []) e
    ∙ ap (λ z. take (length xs) ys ++ z ∷ []) same
    ∙ sym (take_more ys (length xs) d lt)
    ∙ ap (λ k. take k ys) (sym (length_push xs y))

-- ---- All that was said

pub each_weaker : {X : Type 0} (P Q : X → Type 0) → ((x : X) → P x → Q x) → (xs : List X) → AllByRecursion P xs → AllByRecursion Q xs
each_weaker P Q f [] h = tt
each_weaker P Q f (x ∷ xs) h = (f x h.0, each_weaker P Q f xs h.1)

pub each_append : {X : Type 0} (P : X → Type 0) (xs ys : List X) → AllByRecursion P xs → AllByRecursion P ys → AllByRecursion P (xs ++ ys)
each_append P [] ys g h = h
each_append P (x ∷ xs) ys g h = (g.0, each_append P xs ys g.1 h)

-- it holds of what came, if anything came
abbrev pub Each : {X : Type 0} → (X → Type 0) → Option X → Type 0
Each P None = Unit {0}
Each P (Some x) = P x

pub at_place : {X : Type 0} (P : X → Type 0) (xs : List X) (which : ℕ) → AllByRecursion P xs → Each P (slice_get xs which)
at_place P [] which h = tt
at_place P (x ∷ xs) zero h = h.0
at_place P (x ∷ xs) (suc which) h = at_place P xs which h.1

-- ---- Frames that are said

-- if it is a frame: it is the one with its number, and among the first of these
abbrev pub FrameFits : List (List ℕ) → ℕ → Message → List ℕ → Type 0
FrameFits sent kept (Hello start question) frame = Unit {0}
FrameFits sent kept (Welcome asker question start count) frame = Unit {0}
FrameFits sent kept (Frame start number) frame = (0 < number) × (number ≤ kept) × (frame ≡ get_or sent (number - 1) [])
FrameFits sent kept (Ack start other count) frame = Unit {0}
FrameFits sent kept (Old count) frame = Unit {0}

pub frame_stays : (xs ys : List (List ℕ)) (m n : ℕ) → take m ys ≡ take m xs → m ≤ n → (message : Message) (frame : List ℕ) → FrameFits xs m message frame → FrameFits ys n message frame
frame_stays xs ys m n e le (Hello start question) frame h = tt
frame_stays xs ys m n e le (Welcome asker question start count) frame h = tt
frame_stays xs ys m n e le (Frame start number) frame h =
    let at : number - 1 < m = omega (arith, h.0, h.1) in (
      h.0,
      omega (arith, h.1),
      h.2 ∙ sym (get_or-take m xs (number - 1) [] at) ∙ ap (λ zs. get_or zs (number - 1) []) (sym e) ∙ get_or-take m ys (number - 1) [] at,
    )
frame_stays xs ys m n e le (Ack start other count) frame h = tt
frame_stays xs ys m n e le (Old count) frame h = tt

-- ---- Links and books

-- The link counts what is in the book. Before the host is ready, the book is as it was read, and on the disk.
pub record Counted (sent taken : List (List ℕ)) (sent_kept taken_kept made on_disk all kept : ℕ) (ready : Bool) : Type 0 where
  pub taken_all : all ≡ length taken
  pub kept_all : kept ≡ taken_kept
  pub made_all : ready ≡ true → made ≡ length sent
  pub sent_all : ready ≡ true → on_disk ≡ sent_kept
  pub whole : ready ≡ false → sent_kept ≡ length sent

abbrev pub BookOf : Host → Link → Type 0
BookOf h l = Counted h.sent h.taken h.sent_kept h.taken_kept l.made l.sent l.taken l.kept l.ready
