-- The marks of one event, at one node on one name, as steps of the lock table.
use Rattle.std.proofs.Common.{◌≡◌, ◌≢◌, ℕ, ◌<◌, ◌≤◌, Bool, true, false, cond, ◌&&◌, List, [], ◌∷◌, refl, sym, ap, ◌∙◌, arith, nat_eq}
use Rattle.std.specs.Prelude.{bytes_eq}
use Rattle.std.proofs.lemmas.Slice.Eq.{bytes_eq-Decides}
use Rattle.std.proofs.lemmas.Bool.{and_parts, eq-eqb, eqb-true, false_from_ne_true}
use Rattle.ra_stamp.specs.declared.entry.Entry.{Entry}
use Rattle.ra_stamp.specs.declared.entry.Mark.{Mark}
use Rattle.ra_stamp.specs.declared.entry.Mark.TheVariants.{Entered, Left, Withdrawn}
use Rattle.ra_stamp.specs.Mode.{Conflict}
use Rattle.ra_stamp.specs.Stamp.{IsEarlier}
use Rattle.ra_node.specs.Resource.{Use}
use Rattle.ra_node.specs.Resource.Use.{Nobody, WaitsBy, HoldsBy}
use Rattle.ra_node.specs.Turns.{request_marks}
use Rattle.ra_table.specs.Table.{LockTable, TableStep, TableSteps}
use Rattle.ra_world.proofs.Protocol.{IsNode}
use Rattle.ra_world.proofs.Marking.{Tabled, Alters, unmarked, requested, granted, given_back, withdrawn}

-- ---- One use put in the place of another

abbrev pub with_use : (ℕ → List ℕ → Use) → ℕ → List ℕ → Use → ℕ → List ℕ → Use
with_use u p r x i q = cond (nat_eq i p && bytes_eq q r) x (u i q)

pub use_here : (u : ℕ → List ℕ → Use) (p : ℕ) (r : List ℕ) (x : Use) → with_use u p r x p r ≡ x
use_here u p r x = rw (eq-eqb p p refl, (bytes_eq-Decides r r).1 refl) refl

pub use_there : (u : ℕ → List ℕ → Use) (p : ℕ) (r : List ℕ) (x : Use) (i : ℕ) (q : List ℕ) → (i ≡ p → q ≡ r → ⊥) → with_use u p r x i q ≡ u i q
use_there u p r x i q apart =
    ap (λ b. cond b x (u i q)) (false_from_ne_true (nat_eq i p && bytes_eq q r) (λ t. let both = and_parts (nat_eq i p) (bytes_eq q r) t in apart (eqb-true i p both.0) ((bytes_eq-Decides q r).0 both.1)))

put_use : (u : ℕ → List ℕ → Use) (p : ℕ) (r : List ℕ) (x : Use) → Alters u (with_use u p r x) p r x
put_use u p r x = record { here = use_here u p r x; there = use_there u p r x }

-- if the one use is put, another one may be put
then_put : (u u' : ℕ → List ℕ → Use) (p : ℕ) (r : List ℕ) (x y : Use) → Alters u u' p r y → Alters (with_use u p r x) u' p r y
then_put u u' p r x y alters = record { here = alters.here; there = λ i q apart. alters.there i q apart ∙ sym (use_there u p r x i q apart) }

-- ---- What must be so if a request is granted

pub record MayBeGranted (n : ℕ) (u : ℕ → List ℕ → Use) (h : ℕ → List ℕ → ℕ) (p : ℕ) (r : List ℕ) (e : Entry) : Type 0 where
  pub met : (j : ℕ) → IsNode n j → e.stamp.seq ≤ h j r
  pub free : (j : ℕ) (x : Entry) → IsNode n j → j ≢ p → u j r ≡ HoldsBy x → Conflict x.mode e.mode → ⊥
  pub first : (j : ℕ) (x : Entry) → IsNode n j → j ≢ p → u j r ≡ WaitsBy x → Conflict x.mode e.mode → IsEarlier x.stamp e.stamp → ⊥

pub record IsOwn (p : ℕ) (r : List ℕ) (e : Entry) : Type 0 where
  pub node_is : e.stamp.node ≡ p
  pub name_is : e.name ≡ r

pub same_others : (n : ℕ) (u u' : ℕ → List ℕ → Use) (h : ℕ → List ℕ → ℕ) (p : ℕ) (r : List ℕ) (e : Entry) → ((j : ℕ) → j ≢ p → u' j r ≡ u j r) → MayBeGranted n u h p r e → MayBeGranted n u' h p r e
same_others n u u' h p r e same may =
    record {
      met = may.met;
      free = λ j x at apart is. may.free j x at apart (sym (same j apart) ∙ is);
      first = λ j x at apart is. may.first j x at apart (sym (same j apart) ∙ is);
    }

-- the use that a request comes to
abbrev pub use_after : Bool → Entry → Use
use_after false e = WaitsBy e
use_after true e = HoldsBy e

module _ (n p : ℕ) (r : List ℕ) (within : IsNode n p) where
  pub run_request : (entered : Bool) (e : Entry) (u u' : ℕ → List ℕ → Use) (h h' : ℕ → List ℕ → ℕ) (t : LockTable) → Tabled n u h t → IsOwn p r e → u p r ≡ Nobody → Alters u u' p r (use_after entered e)
      → h p r < e.stamp.seq → ((i : ℕ) (q : List ℕ) → h i q ≤ h' i q) → (entered ≡ true → MayBeGranted n u h' p r e) → (new : LockTable) × TableSteps t (request_marks entered e) new × Tabled n u' h' new
  run_request false e u u' h h' t tabled own nobody alters above higher may =
      let step = requested n u u' h h' t tabled p r within higher e own.node_is own.name_is nobody alters above in
      (step.0, (step.0, step.1, refl), step.2)
  run_request true e u u' h h' t tabled own nobody alters above higher may =
      let mid = with_use u p r (WaitsBy e) in
      let one = requested n u mid h h' t tabled p r within higher e own.node_is own.name_is nobody (put_use u p r (WaitsBy e)) above in
      let grant = same_others n u mid h' p r e (λ j apart. use_there u p r (WaitsBy e) j r (λ same _. apart same)) (may refl) in
      let two = granted n mid u' h' h' one.0 one.2 p r within (λ i q. omega arith) e own.node_is own.name_is (use_here u p r (WaitsBy e)) (then_put u u' p r (WaitsBy e) (HoldsBy e) alters) grant.met grant.free grant.first in
      (two.0, (one.0, one.1, (two.0, two.1, refl)), two.2)

  pub run_entered : (e : Entry) (u u' : ℕ → List ℕ → Use) (h h' : ℕ → List ℕ → ℕ) (t : LockTable) → Tabled n u h t → IsOwn p r e → u p r ≡ WaitsBy e → Alters u u' p r (HoldsBy e)
      → ((i : ℕ) (q : List ℕ) → h i q ≤ h' i q) → MayBeGranted n u h' p r e → (new : LockTable) × TableSteps t (Entered e ∷ []) new × Tabled n u' h' new
  run_entered e u u' h h' t tabled own waits alters higher may =
      let step = granted n u u' h h' t tabled p r within higher e own.node_is own.name_is waits alters may.met may.free may.first in
      (step.0, (step.0, step.1, refl), step.2)

  -- a request ends with this mark, if it was this use of the name
  abbrev pub EndsWithMark : (Entry → Mark) → (Entry → Use) → Type 0
  EndsWithMark mark was = (u u' : ℕ → List ℕ → Use) (h h' : ℕ → List ℕ → ℕ) (t : LockTable) → Tabled n u h t → ((i : ℕ) (q : List ℕ) → h i q ≤ h' i q) → (e : Entry) → e.stamp.node ≡ p → e.name ≡ r → u p r ≡ was e
      → Alters u u' p r Nobody → (new : LockTable) × TableStep t (mark e) new × Tabled n u' h' new

  pub left_ends : EndsWithMark Left HoldsBy
  left_ends u u' h h' t tabled higher e node_is name_is held alters = given_back n u u' h h' t tabled p r within higher e node_is name_is held alters

  pub withdrawn_ends : EndsWithMark Withdrawn WaitsBy
  withdrawn_ends u u' h h' t tabled higher e node_is name_is waits alters = withdrawn n u u' h h' t tabled p r within higher e node_is name_is waits alters

  pub run_end : (mark : Entry → Mark) (was : Entry → Use) → EndsWithMark mark was → (e : Entry) (u u' : ℕ → List ℕ → Use) (h h' : ℕ → List ℕ → ℕ) (t : LockTable) → Tabled n u h t → IsOwn p r e → u p r ≡ was e → Alters u u' p r Nobody
      → ((i : ℕ) (q : List ℕ) → h i q ≤ h' i q) → (new : LockTable) × TableSteps t (mark e ∷ []) new × Tabled n u' h' new
  run_end mark was ends e u u' h h' t tabled own used alters higher =
      let step = ends u u' h h' t tabled higher e own.node_is own.name_is used alters in
      (step.0, (step.0, step.1, refl), step.2)

  -- and the next client's request is made
  pub run_handed : (mark : Entry → Mark) (was : Entry → Use) → EndsWithMark mark was → (e : Entry) (entered : Bool) (f : Entry) (u u' : ℕ → List ℕ → Use) (h h' : ℕ → List ℕ → ℕ) (t : LockTable) → Tabled n u h t → IsOwn p r e → IsOwn p r f → u p r ≡ was e
      → Alters u u' p r (use_after entered f) → h p r < f.stamp.seq → ((i : ℕ) (q : List ℕ) → h i q ≤ h' i q) → (entered ≡ true → MayBeGranted n u h' p r f)
      → (new : LockTable) × TableSteps t (mark e ∷ request_marks entered f) new × Tabled n u' h' new
  run_handed mark was ends e entered f u u' h h' t tabled own own' used alters above higher may =
      let mid = with_use u p r Nobody in
      let one = ends u mid h h t tabled (λ i q. omega arith) e own.node_is own.name_is used (put_use u p r Nobody) in
      let grant : entered ≡ true → MayBeGranted n mid h' p r f = λ yes. same_others n u mid h' p r f (λ j apart. use_there u p r Nobody j r (λ same _. apart same)) (may yes) in
      let two = run_request entered f mid u' h h' one.0 one.2 own' (use_here u p r Nobody) (then_put u u' p r Nobody (use_after entered f) alters) above higher grant in
      (two.0, (one.0, one.1, two.1), two.2)

  pub run_nothing : (u u' : ℕ → List ℕ → Use) (h h' : ℕ → List ℕ → ℕ) (t : LockTable) → Tabled n u h t → ((i : ℕ) (q : List ℕ) → u' i q ≡ u i q) → ((i : ℕ) (q : List ℕ) → h i q ≤ h' i q)
      → (new : LockTable) × TableSteps t [] new × Tabled n u' h' new
  run_nothing u u' h h' t tabled same higher = (t, refl, unmarked n u u' h h' t tabled p r within higher same)
