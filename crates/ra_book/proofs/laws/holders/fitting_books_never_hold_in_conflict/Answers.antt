use Rattle.std.proofs.Common.{◌≡◌, ℕ, List, length, Some, sym, ap, ◌∙◌, subst, arith}
use Rattle.std.proofs.lemmas.List.{get_or_default}
use Rattle.ra_node.specs.Node.{NodeState, resource_at}
use Rattle.ra_node.specs.Resource.{holder_of}
use Rattle.ra_node.proofs.Determined.{event_one}
use Rattle.ra_world.proofs.Outcomes.{one_holds}
use Rattle.ra_world.proofs.WorldLaws.{laws_below}
use Rattle.ra_book.specs.declared.book.event.BookEvent.{BookEvent}
use Rattle.ra_book.specs.declared.book.sent.Sent.{Sent}
use Rattle.ra_book.specs.History.{IsHistory}
use Rattle.ra_book.specs.Book.{BookState, LeadsTo}
use Rattle.ra_book.specs.Settled.{start_of}
use Rattle.ra_book.proofs.BookEnds.{ends_as_its_book}
use Rattle.ra_book.proofs.Histories.{determined}
use Rattle.ra_book.proofs.Merging.{number_at}
use Rattle.ra_book.proofs.SettledNodes.{nobody, book_at, few}
use Rattle.ra_book.proofs.SettledOrders.{settled_order}
use Rattle.ra_book.proofs.SettlingLaws.{fitting_books_settle, settled_steps_make_settled_runs}
use Rattle.ra_book.proofs.laws.holders.fitting_books_never_hold_in_conflict.Goals as goal

one_end : (me n start : ℕ) (events : List BookEvent) (sent sent' : List Sent) (a b : NodeState) → IsHistory me n start events sent a → IsHistory me n start events sent' b → a ≡ b
one_end me n start events sent sent' a b left right = (determined event_one me n start events sent sent' a b left right).1

pub returns : goal.returns
returns c books a b left right name x y cluster histories fit (k, k_low, a_is) (l, l_low, b_is) apart to_left to_right holds_left holds_right =
    let n = length books in
    let order = settled_order books cluster histories in
    let ran = fitting_books_settle books order.0 cluster histories order.1 fit in
    let settled = settled_steps_make_settled_runs books order.0 ran.0 cluster histories order.1 ran.2 ran.1 in
    let nodes = settled.run.ends.0 in
    let a_at : book_at books k ≡ a = get_or_default books k nobody a k_low ∙ a_is in
    let b_at : book_at books l ≡ b = get_or_default books l nobody b l_low ∙ b_is in
    let left_is : nodes (book_at books k).me ≡ left = ends_as_its_book one_end books ran.0 cluster histories settled k k_low left (subst (λ (s : BookState). LeadsTo s left) (sym a_at) to_left) in
    let right_is : nodes (book_at books l).me ≡ right = ends_as_its_book one_end books ran.0 cluster histories settled l l_low right (subst (λ (s : BookState). LeadsTo s right) (sym b_at) to_right) in
    let k_number = number_at books cluster k nobody k_low in
    let l_number = number_at books cluster l nobody l_low in
    one_holds laws_below n (start_of books) ran.0 (few books cluster histories) settled.run nodes settled.run.ends.1 (book_at books k).me (book_at books l).me name x y
    (omega (arith, k_number), omega (arith, k_number, k_low)) (omega (arith, l_number), omega (arith, l_number, l_low))
    (λ same. apart (sym (ap (λ (s : BookState). s.me) a_at) ∙ same ∙ ap (λ (s : BookState). s.me) b_at))
    (subst (λ (s : NodeState). holder_of (resource_at s name) ≡ Some x) (sym left_is) holds_left)
    (subst (λ (s : NodeState). holder_of (resource_at s name) ≡ Some y) (sym right_is) holds_right)
