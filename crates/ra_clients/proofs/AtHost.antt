-- What is taken of a node is so of the node of a host.
use Rattle.std.proofs.Common.{◌≡◌, ◌≢◌, ℕ, zero, suc, ◌+◌, ◌<◌, List, [], ◌∷◌, length, Option, Some, None, refl, sym, ap, subst, ◌∙◌, arith}
use Rattle.std.specs.Prelude.{Contains}
use Rattle.ra_stamp.specs.declared.entry.Entry.{Entry}
use Rattle.ra_stamp.specs.declared.entry.Mark.{Mark}
use Rattle.ra_stamp.specs.declared.entry.Mark.TheVariants.{Requested, Entered, Left, Withdrawn}
use Rattle.ra_book.specs.declared.book.event.BookKind.{BookKind}
use Rattle.ra_book.specs.declared.book.event.BookKind.TheVariants.{Ask, Leave, Cancel, Receive, Forget}
use Rattle.ra_host.specs.Host.{Host, Happens}
use Rattle.ra_host.specs.Grants.{IsHeld, IsItsLeave}
use Rattle.ra_clients.specs.AtNode.{Holding, AreGranted, IsAtNode}
use Rattle.ra_clients.specs.AtHost.{HoldsAt, AreHoldersAt, entered_in, IsByTurn}

first : (x : Mark) (ms : List Mark) → Contains (x ∷ ms) x
first x ms = (0, omega arith, refl)

later : (m x : Mark) (ms : List Mark) → Contains ms x → Contains (m ∷ ms) x
later m x ms has = (suc has.0, (let less = has.1 in omega (arith, less)), has.2)

grants : (after : Holding) (ms : List Mark) → ((e : Entry) → Contains ms (Entered e) → after e.name ≡ Some e.client) → AreGranted (entered_in ms) after
grants after [] all = tt
grants after (Requested x ∷ ms) all = grants after ms (λ e has. all e (later (Requested x) (Entered e) ms has))
grants after (Entered x ∷ ms) all = (all x (first (Entered x) ms), grants after ms (λ e has. all e (later (Entered x) (Entered e) ms has)))
grants after (Left x ∷ ms) all = grants after ms (λ e has. all e (later (Left x) (Entered e) ms has))
grants after (Withdrawn x ∷ ms) all = grants after ms (λ e has. all e (later (Withdrawn x) (Entered e) ms has))

its_leave : (e : Entry) (does : Option BookKind) (kind : BookKind) → IsByTurn does kind → IsItsLeave e kind → does ≡ Some (Leave e.client e.name)
its_leave e does (Ask client name mode) by its = absurd its
its_leave e does (Leave client name) by its = by ∙ (λ i. Some (Leave (its.0 i) (its.1 i)))
its_leave e does (Cancel client name) by its = absurd its
its_leave e does (Receive frame) by its = absurd its
its_leave e does Forget by its = absurd its

module _ (h new : Host) (kind : BookKind) (does : Option BookKind) (held after : Holding) (by : IsByTurn does kind) (old_held : AreHoldersAt h held) (new_held : AreHoldersAt new after)
    (marks : List Mark) (granted : (e : Entry) → Contains marks (Entered e) → IsHeld new e) (lasts : (e : Entry) → (IsItsLeave e kind → ⊥) → IsHeld h e → IsHeld new e) where
  pub at_node : IsAtNode held does (entered_in marks) after
  at_node = record {
    granted = grants after marks (λ e has. new_held.each e (granted e has));
    lasts = λ k name is stays.
        let at = old_held.only k name is in
        let not_left : IsItsLeave at.entry kind → ⊥ = λ its. stays (its_leave at.entry does kind by its ∙ (λ i. Some (Leave (at.client_is i) (at.name_is i)))) in
        let still = new_held.each at.entry (lasts at.entry not_left at.granted) in
        ap after (sym at.name_is) ∙ (still ∙ ap (λ (j : ℕ). Some j) at.client_is);
  }
