-- The first frame that came and does not fit, and the first book of a cluster.
use Rattle.std.proofs.Common.{◌≡◌, ◌≢◌, ℕ, ◌<◌, List, [], ◌∷◌, ◌++◌, length, get_or, take, drop, suc, refl, sym, ap, subst, ◌∙◌, arith}
use Rattle.std.specs.Prelude.{All, AllPairs, Contains}
use Rattle.std.proofs.lemmas.List.Elements.{Contains-get_or}
use Rattle.std.proofs.lemmas.List.Quantifiers.{all_pairs_push}
use Rattle.ra_stamp.proofs.Places.{split_at}
use Rattle.ra_stamp.specs.declared.message.Message.{Message}
use Rattle.ra_book.specs.Book.{BookState}
use Rattle.ra_book.specs.Settled.{IsCluster, WasSent, start_of}
use Rattle.ra_book_text.specs.declared.text_settling.came_frames.Came.{Came}
use Rattle.ra_book_text.specs.Verdicts.{IsFirstAgain, IsFirstUnsent, messages_of}

-- ---- The first of those that came

pub unsent_at : (books : List BookState) (came : List Came) (i : ℕ) (one : Came) → i < length came → one ≡ get_or came i one → (WasSent books one.frame → ⊥)
    → All (λ earlier. WasSent books earlier.frame) (take i came) → IsFirstUnsent books came one.line
unsent_at books came i one within at unsent sent = record {
  before = take i came;
  this = one;
  after = drop (suc i) came;
  came_is = split_at came i one within (sym at);
  number_is = refl;
  unsent = unsent;
  sent = sent;
}

pub again_at : (came : List Came) (i : ℕ) (one : Came) → i < length came → one ≡ get_or came i one → Contains (messages_of (take i came)) one.frame.message
    → AllPairs (λ a b. a ≢ b) (messages_of (take i came)) → IsFirstAgain came one.line
again_at came i one within at again once = record {
  before = take i came;
  this = one;
  after = drop (suc i) came;
  came_is = split_at came i one within (sym at);
  number_is = refl;
  again = again;
  once = once;
}

-- another message, which did not come before
pub apart_more : (messages : List Message) (message : Message) → AllPairs (λ a b. a ≢ b) messages → (Contains messages message → ⊥)
    → AllPairs (λ a b. a ≢ b) (messages ++ message ∷ [])
apart_more messages message apart is_new =
    all_pairs_push (λ a b. a ≢ b) messages message apart
    (λ k d low same. is_new (subst (Contains messages) same (Contains-get_or messages k d low)))

-- ---- What settles

-- the first book of a cluster
pub first_book : (books : List BookState) (first : BookState) → IsCluster books → first ≡ get_or books 0 first → (first.nodes ≡ length books) × (first.start ≡ start_of books)
first_book [] first cluster at = absurd (omega (arith, cluster.some))
first_book (book ∷ books) first cluster at =
    let nodes : book.nodes ≡ length (book ∷ books) = cluster.one_count 0 book (omega arith) in
    (ap (λ (b : BookState). b.nodes) at ∙ nodes, ap (λ (b : BookState). b.start) at)
