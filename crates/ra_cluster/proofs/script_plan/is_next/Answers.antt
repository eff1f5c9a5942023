use Rattle.std.proofs.Common.{◌≡◌, ℕ, Bool, true, false, List, subst, inl, inr}
use Rattle.ra_stamp.specs.declared.entry.Entry.{Entry}
use Rattle.ra_stamp.specs.declared.entry.Mark.{Mark}
use Rattle.ra_stamp.specs.declared.entry.Mark.TheVariants.{Requested, Entered, Left, Withdrawn}
use Rattle.ra_stamp.specs.declared.mode.Mode.{Mode}
use Rattle.ra_schedule.specs.declared.script.Op.{Op}
use Rattle.ra_schedule.specs.declared.script.Op.TheVariants.{Lock, Unlock}
use Rattle.ra_cluster.specs.Plan.{IsNextMark}
use Rattle.ra_book.proofs.Truth.{no}
use Rattle.ra_cluster.proofs.script_plan.is_next.Goals as goal

-- a lock neither leaves nor is withdrawn, and an unlock only leaves
no_lock_left : (node : ℕ) (requested : Bool) (name : List ℕ) (mode : Mode) (entry : Entry) → IsNextMark node (Lock name mode) requested (Left entry) → ⊥
no_lock_left node false name mode entry next = next
no_lock_left node true name mode entry next = next

no_lock_withdrawn : (node : ℕ) (requested : Bool) (name : List ℕ) (mode : Mode) (entry : Entry) → IsNextMark node (Lock name mode) requested (Withdrawn entry) → ⊥
no_lock_withdrawn node false name mode entry next = next
no_lock_withdrawn node true name mode entry next = next

no_unlock_requested : (node : ℕ) (requested : Bool) (name : List ℕ) (entry : Entry) → IsNextMark node (Unlock name) requested (Requested entry) → ⊥
no_unlock_requested node false name entry next = next
no_unlock_requested node true name entry next = next

no_unlock_entered : (node : ℕ) (requested : Bool) (name : List ℕ) (entry : Entry) → IsNextMark node (Unlock name) requested (Entered entry) → ⊥
no_unlock_entered node false name entry next = next
no_unlock_entered node true name entry next = next

no_unlock_withdrawn : (node : ℕ) (requested : Bool) (name : List ℕ) (entry : Entry) → IsNextMark node (Unlock name) requested (Withdrawn entry) → ⊥
no_unlock_withdrawn node false name entry next = next
no_unlock_withdrawn node true name entry next = next

as_read : (node : ℕ) (requested : Bool) (op op' : Op) (mark mark' : Mark) → op ≡ op' → mark ≡ mark' → IsNextMark node op requested mark → IsNextMark node op' requested mark'
as_read node requested op op' mark mark' op_is mark_is next =
    subst (λ (o : Op). IsNextMark node o requested mark') op_is (subst (λ (m : Mark). IsNextMark node op requested m) mark_is next)

pub returns-in-Left : goal.returns-in-Left
returns-in-Left c =
    no (λ next. elim c.in-Left.is [
      | inl is ↦
          no_lock_left c.args.node c.args.requested c.in-Lock.name c.in-Lock.mode is.0
          (as_read c.args.node c.args.requested c.args.op.now _ c.args.mark.now _ c.in-Lock.is is.1 next)
      | inr is ↦
          no_lock_withdrawn c.args.node c.args.requested c.in-Lock.name c.in-Lock.mode is.0
          (as_read c.args.node c.args.requested c.args.op.now _ c.args.mark.now _ c.in-Lock.is is.1 next)
    ])

pub returns-in-Requested-mark : goal.returns-in-Requested-mark
returns-in-Requested-mark c =
    no (λ next. elim c.in-Requested-mark.is [
      | inl is ↦
          no_unlock_requested c.args.node c.args.requested c.in-Unlock.name is.0
          (as_read c.args.node c.args.requested c.args.op.now _ c.args.mark.now _ c.in-Unlock.is is.1 next)
      | inr (inl is) ↦
          no_unlock_entered c.args.node c.args.requested c.in-Unlock.name is.0
          (as_read c.args.node c.args.requested c.args.op.now _ c.args.mark.now _ c.in-Unlock.is is.1 next)
      | inr (inr is) ↦
          no_unlock_withdrawn c.args.node c.args.requested c.in-Unlock.name is.0
          (as_read c.args.node c.args.requested c.args.op.now _ c.args.mark.now _ c.in-Unlock.is is.1 next)
    ])
