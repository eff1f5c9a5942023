-- Rounds of an audit: the events that were taken of each node go on.
use Rattle.std.proofs.Common.{◌≡◌, ℕ, zero, suc, ◌+◌, ◌-◌, ◌<◌, List, [], ◌∷◌, ◌++◌, map, drop, length, get_or, set, None, Some, Result, Ok, Err, refl, sym, ap, ◌∙◌, subst, append_assoc, ◌↔◌, ◌⊎◌, ◌≤◌, inl, inr, arith}
use Rattle.std.specs.Prelude.{slice_get, flat_map, All, IsOk, IsErrOf, OnOk, OnErr}
use Rattle.std.specs.List.{AllWithin, range_with_len}
use Rattle.std.proofs.lemmas.List.{append-nil, length-append, length-map, length-set, get_or-map, get_or-set_same}
use Rattle.std.proofs.lemmas.List.Concat.{flat_map-append}
use Rattle.std.proofs.lemmas.List.Elements.{All-cons, All-head, All-tail, AllWithin-more_set, AllWithin-kept}
use Rattle.std.proofs.lemmas.List.FromFn.{length-range_with_len}
use Rattle.std.proofs.lemmas.Option.{same_Some, none-some, slice_get_read, slice_get_within, slice_get-get_or}
use Rattle.ra_stamp.specs.declared.entry.Mark.{Mark}
use Rattle.ra_audit.specs.declared.audit_error.AuditError.{AuditError}
use Rattle.ra_audit.specs.declared.audit_error.AuditError.TheVariants as audit
use Rattle.ra_audit.specs.declared.audit_error.AuditFault.{AuditFault}
use Rattle.ra_audit.specs.declared.audit_error.RoundError.{RoundError}
use Rattle.ra_audit.specs.declared.audit_error.RoundError.TheVariants as round
use Rattle.ra_site.specs.declared.site.take_error.TakeError.{TakeError}
use Rattle.ra_site.specs.declared.site.take_error.TakeError.TheVariants.{NoNode, OutOfTurn, NotNext, Memory}
use Rattle.ra_frame.specs.declared.frame.Frame.{Frame}
use Rattle.ra_book.specs.declared.book.event.BookEvent.{BookEvent}
use Rattle.ra_book.specs.History.{clock_of}
use Rattle.ra_audit.specs.Audit.{ProgressState, AuditState, NoneIsReady, NoneIsReached, MayBePut, IsAudited, HasLost, AllWereSent, Advances, PutsLosses, Audits, TakenGoOn, HandsOver, HandsNothing, MayHandOver, AllHandOver, TakesMore, TakesMoreAt, AuditsByAnswer, AtNumber, TakesHanded, TakesOver, TakesAllAt, NotTakenAt, IsNotTaken, IsCauseAt, KeptAreNext, AreNextAt, NoneIsKept, GoesOnFrom, taken_of, handed_over}
use Rattle.ra_site.specs.Handing.{IsLeftOfBook}
use Rattle.ra_world.specs.World.{WorldState}
use Rattle.ra_audit.proofs.AuditLosses.{puts_none}

-- ---- One node

from_same : (p q : ProgressState) → q.node ≡ p.node → taken_of q ≡ taken_of p → GoesOnFrom p q
from_same p q node taken = record {
  node = node;
  taken = ([], taken ∙ sym (append-nil (taken_of p)));
}

pub from_further : (p q r : ProgressState) → GoesOnFrom p q → GoesOnFrom q r → GoesOnFrom p r
from_further p q r first second = record {
  node = second.node ∙ first.node;
  taken = (
    first.taken.0 ++ second.taken.0,
    second.taken.1 ∙ ap (λ (es : List BookEvent). es ++ second.taken.0) first.taken.1 ∙ append_assoc (taken_of p) first.taken.0 second.taken.0,
  );
}

-- what was kept is taken
pub from_kept : (p q : ProgressState) → q ≡ record p { waiting = p.waiting ++ p.kept; kept = [] } → GoesOnFrom p q
from_kept p q is = subst (GoesOnFrom p) (sym is) (record {
  node = refl;
  taken = (p.kept, sym (append_assoc p.settled p.waiting p.kept));
})

-- more is kept
pub from_keeping : (p q : ProgressState) (events : List BookEvent) → p.kept ≡ [] → q ≡ record p { kept = events } → GoesOnFrom p q × (handed_over q ≡ handed_over p ++ events)
from_keeping p q events none is =
    let more : taken_of p ++ events ≡ handed_over p ++ events =
    ap (λ (es : List BookEvent). es ++ events) (sym (append-nil (taken_of p))) ∙ ap (λ (es : List BookEvent). (taken_of p ++ es) ++ events) (sym none)
    in
    subst (λ (x : ProgressState). GoesOnFrom p x × (handed_over x ≡ handed_over p ++ events)) (sym is)
    (record { node = refl; taken = ([], sym (append-nil (taken_of p))) }, more)

-- what was handed over is kept, and then taken, or not
pub accepted : (p q r : ProgressState) (events : List BookEvent) (answer : Result (Unit {0}) TakeError) → p.kept ≡ [] → q ≡ record p { kept = events }
    → OnOk answer (r ≡ record q { waiting = q.waiting ++ q.kept; kept = [] }) → OnErr answer (r ≡ q)
    → GoesOnFrom p r × (handed_over r ≡ handed_over p ++ events) × (r.settled ≡ p.settled) × OnOk answer (r.kept ≡ [])
accepted p q r events (Ok x) none is ok err =
    let keeping = from_keeping p q events none is in
    let same : handed_over r ≡ handed_over q =
    ap handed_over ok ∙ append-nil (q.settled ++ (q.waiting ++ q.kept)) ∙ sym (append_assoc q.settled q.waiting q.kept)
    in (
      from_further p q r keeping.0 (from_kept q r ok),
      same ∙ keeping.1,
      ap (λ (x : ProgressState). x.settled) (ok ∙ (λ i. record (is i) { waiting = q.waiting ++ q.kept; kept = [] })),
      ap (λ (x : ProgressState). x.kept) ok,
    )
accepted p q r events (Err e) none is ok err =
    let keeping = from_keeping p q events none is in (
      subst (GoesOnFrom p) (sym err) keeping.0,
      ap handed_over err ∙ keeping.1,
      ap (λ (x : ProgressState). x.settled) (err ∙ is),
      tt,
    )

-- ---- What the site of a node hands over

-- nothing
nothing_over : (p q : ProgressState) → handed_over q ≡ handed_over p → MayHandOver p q []
nothing_over p q same = inl (same, refl)

-- the book had handed over the same before
over_from : (p q r : ProgressState) (lost : List Frame) → q.node ≡ p.node → handed_over q ≡ handed_over p → HandsOver q r lost → HandsOver p r lost
over_from p q r lost node same over = (
  over.0,
  over.1 ∙ ap (λ (es : List BookEvent). es ++ over.0) same,
  subst (λ (es : List BookEvent). IsLeftOfBook p.node (clock_of es) over.0 lost) same
      (subst (λ (n : ℕ). IsLeftOfBook n (clock_of (handed_over q)) over.0 lost) node over.2),
)

may_from : (p q r : ProgressState) (lost : List Frame) → q.node ≡ p.node → handed_over q ≡ handed_over p → MayHandOver q r lost → MayHandOver p r lost
may_from p q r lost node same (inl none) = inl (none.0 ∙ same, none.1)
may_from p q r lost node same (inr over) = inr (over_from p q r lost node same over)

all_from : {E : Type 0} (p q r : ProgressState) (lost : List Frame) (answer : Result (Unit {0}) E) → q.node ≡ p.node → handed_over q ≡ handed_over p → OnOk answer (HandsOver q r lost)
    → OnOk answer (HandsOver p r lost)
all_from p q r lost (Ok x) node same over = over_from p q r lost node same over
all_from p q r lost (Err e) node same over = tt

-- and the same by now
over_to : (p q r : ProgressState) (lost : List Frame) → handed_over r ≡ handed_over q → HandsOver p q lost → HandsOver p r lost
over_to p q r lost same over = (over.0, same ∙ over.1, over.2)

module _ (p q : ProgressState) (answer : Result (Unit {0}) TakeError) (next : IsErrOf answer NotNext ↔ (KeptAreNext q → ⊥)) (memory : IsErrOf answer Memory → KeptAreNext q)
    (others : (IsErrOf answer NoNode → ⊥) × (IsErrOf answer OutOfTurn → ⊥))
  where
    pub takes_over : (handed : List Frame) → GoesOnFrom p q → MayHandOver p q handed → OnOk answer (HandsOver p q handed) → q.settled ≡ p.settled → OnOk answer (q.kept ≡ [])
        → TakesOver p q handed answer
    takes_over handed from hands all settled ok = record {
      goes_on = from;
      hands = hands;
      all = all;
      settled = settled;
      ok = ok;
      no_node = others.0;
      out_of_turn = λ is. absurd (others.1 is);
      not_next = next;
      memory = memory;
    }

-- what holds in any case
pub in_any_case : {E : Type 0} (A : Type 0) (answer : Result (Unit {0}) E) → A → OnOk answer A
in_any_case A (Ok x) h = h
in_any_case A (Err e) h = tt

-- what was kept was not taken, so the site was not asked
pub refuses_kept : (p q : ProgressState) (e : TakeError) → q ≡ p → IsErrOf {T = Unit {0}} (Err e) NotNext ↔ (KeptAreNext q → ⊥) → (IsErrOf {T = Unit {0}} (Err e) Memory → KeptAreNext q)
    → (IsErrOf {T = Unit {0}} (Err e) NoNode → ⊥) × (IsErrOf {T = Unit {0}} (Err e) OutOfTurn → ⊥) → TakesOver p q [] (Err e)
refuses_kept p q e same next memory others =
    takes_over p q (Err e) next memory others [] (subst (GoesOnFrom p) (sym same) (from_same p p refl refl)) (nothing_over p q (ap handed_over same)) tt
    (ap (λ (x : ProgressState). x.settled) same) tt

module _ (p q : ProgressState) (is : q ≡ record p { waiting = p.waiting ++ p.kept; kept = [] }) where
  settled_as : q.settled ≡ p.settled
  settled_as = ap (λ (x : ProgressState). x.settled) is

  handed_as : handed_over q ≡ handed_over p
  handed_as = ap handed_over is ∙ append-nil (p.settled ++ (p.waiting ++ p.kept)) ∙ sym (append_assoc p.settled p.waiting p.kept)

  -- what was kept was taken, and then this is the outcome of what the site has
  pub took_kept : (r : ProgressState) (handed : List Frame) (answer : Result (Unit {0}) TakeError) → TakesOver q r handed answer → TakesOver p r handed answer
  took_kept r handed answer t = record {
    goes_on = from_further p q r (from_kept p q is) t.goes_on;
    hands = may_from p q r handed (ap (λ (x : ProgressState). x.node) is) handed_as t.hands;
    all = all_from p q r handed answer (ap (λ (x : ProgressState). x.node) is) handed_as t.all;
    settled = t.settled ∙ settled_as;
    ok = t.ok;
    no_node = t.no_node;
    out_of_turn = λ turn. ((t.out_of_turn turn).0, (t.out_of_turn turn).1 ∙ handed_as, (t.out_of_turn turn).2);
    not_next = t.not_next;
    memory = t.memory;
  }

  none_kept : q.kept ≡ []
  none_kept = ap (λ (x : ProgressState). x.kept) is

  kept_next : KeptAreNext q
  kept_next = subst (λ (es : List BookEvent). AreNextAt q.node (clock_of (taken_of q)) es) (sym none_kept) tt

  -- the site is asked for what comes after its clock
  pub asked_after : (clock : ℕ) → clock ≡ clock_of (taken_of q) → clock ≡ clock_of (handed_over q)
  asked_after clock at = at ∙ ap clock_of (sym (append-nil (taken_of q)) ∙ ap (λ (es : List BookEvent). taken_of q ++ es) (sym none_kept))

  -- nothing was handed over
  pub took_no_more : (e : TakeError) → (e ≡ OutOfTurn) ⊎ (e ≡ Memory) → TakesOver p q [] (Err e)
  took_no_more e why = record {
    goes_on = from_kept p q is;
    hands = nothing_over p q handed_as;
    all = tt;
    settled = settled_as;
    ok = tt;
    no_node = λ none. never e why none;
    out_of_turn = λ _. (none_kept, handed_as, refl);
    not_next = ((λ bad. absurd (never_next e why bad)), λ bad. absurd (bad kept_next));
    memory = λ _. kept_next;
  }
    where
      never : (e : TakeError) → (e ≡ OutOfTurn) ⊎ (e ≡ Memory) → IsErrOf {T = Unit {0}} (Err e) NoNode → ⊥
      never e (inl turn) none = cc
      never e (inr memory) none = cc

      never_next : (e : TakeError) → (e ≡ OutOfTurn) ⊎ (e ≡ Memory) → IsErrOf {T = Unit {0}} (Err e) NotNext → ⊥
      never_next e (inl turn) none = cc
      never_next e (inr memory) none = cc

-- a site refuses for two causes alone
pub turn_or_memory : {T : Type 0} (e : TakeError) → (IsErrOf {T = T} (Err e) NoNode → ⊥) → (IsErrOf {T = T} (Err e) NotNext → ⊥) → (e ≡ OutOfTurn) ⊎ (e ≡ Memory)
turn_or_memory NoNode none next = absurd (none refl)
turn_or_memory OutOfTurn none next = inl refl
turn_or_memory NotNext none next = absurd (next refl)
turn_or_memory Memory none next = inr refl

-- ---- All nodes

pub go_nowhere : (nodes : List ProgressState) → TakenGoOn nodes nodes
go_nowhere [] = tt
go_nowhere (p ∷ ps) = (from_same p p refl refl, go_nowhere ps)

pub go_further : (a b c : List ProgressState) → TakenGoOn a b → TakenGoOn b c → TakenGoOn a c
go_further [] [] c first second = second
go_further [] (q ∷ qs) c first second = absurd first
go_further (p ∷ ps) [] c first second = absurd first
go_further (p ∷ ps) (q ∷ qs) [] first second = absurd second
go_further (p ∷ ps) (q ∷ qs) (r ∷ rs) first second = (from_further p q r first.0 second.0, go_further ps qs rs first.1 second.1)

-- one node goes on
pub go_on_at : (nodes : List ProgressState) (place : ℕ) (p q : ProgressState) → slice_get nodes place ≡ Some p → GoesOnFrom p q → TakenGoOn nodes (set nodes place q)
go_on_at [] place p q at from = absurd (none-some p at)
go_on_at (x ∷ xs) zero p q at from = (subst (λ (y : ProgressState). GoesOnFrom y q) (sym (same_Some x p at)) from, go_nowhere xs)
go_on_at (x ∷ xs) (suc place) p q at from = (from_same x x refl refl, go_on_at xs place p q at from)

-- the same events of the same nodes
pub go_as_before : (a b : List ProgressState) → map (λ p. p.node) b ≡ map (λ p. p.node) a → map taken_of b ≡ map taken_of a → TakenGoOn a b
go_as_before [] [] numbers taken = tt
go_as_before [] (q ∷ qs) numbers taken = absurd (cc)
go_as_before (p ∷ ps) [] numbers taken = absurd (cc)
go_as_before (p ∷ ps) (q ∷ qs) numbers taken = (
  from_same p q (ap (λ (ns : List ℕ). get_or ns 0 0) numbers) (ap (λ (es : List (List BookEvent)). get_or es 0 []) taken),
  go_as_before ps qs (ap (λ (ns : List ℕ). drop 1 ns) numbers) (ap (λ (es : List (List BookEvent)). drop 1 es) taken),
)

-- no site handed over anything
over_nowhere : (nodes : List ProgressState) → AllHandOver nodes nodes []
over_nowhere [] = tt
over_nowhere (p ∷ ps) = (refl, over_nowhere ps)

-- the site of the next node handed over these frames
over_more : (a b : List ProgressState) (handed : List (List Frame)) (place : ℕ) (p r : ProgressState) (lost : List Frame) → AllHandOver a b handed → length handed ≡ place
    → drop place b ≡ drop place a → slice_get b place ≡ Some p → HandsOver p r lost
    → AllHandOver a (set b place r) (handed ++ lost ∷ []) × (drop (suc place) (set b place r) ≡ drop (suc place) a)
over_more [] [] handed place p r lost all long left at over = absurd (none-some p at)
over_more [] (q ∷ qs) [] place p r lost all long left at over = absurd all
over_more [] (q ∷ qs) (l ∷ ls) place p r lost all long left at over = absurd all
over_more (x ∷ xs) [] [] place p r lost all long left at over = absurd all
over_more (x ∷ xs) [] (l ∷ ls) place p r lost all long left at over = absurd all
over_more (x ∷ xs) (q ∷ qs) [] zero p r lost all long left at over =
    let same : p ≡ x = sym (same_Some q p at) ∙ ap (λ (ps : List ProgressState). get_or ps 0 x) left in (
      (subst (λ (y : ProgressState). HandsOver y r lost) same over, all.1),
      ap (λ (ps : List ProgressState). drop 1 ps) left,
    )
over_more (x ∷ xs) (q ∷ qs) [] (suc place) p r lost all long left at over = absurd (omega (arith, long))
over_more (x ∷ xs) (q ∷ qs) (l ∷ ls) zero p r lost all long left at over = absurd (omega (arith, long))
over_more (x ∷ xs) (q ∷ qs) (l ∷ ls) (suc place) p r lost all long left at over =
    let rest = over_more xs qs ls place p r lost all.1 (omega (arith, long)) left at over in
    ((all.0, rest.0), rest.1)

-- and the site of the one after it nothing
over_none : (a b : List ProgressState) (handed : List (List Frame)) (place : ℕ) (p r : ProgressState) → AllHandOver a b handed → length handed ≡ place → slice_get b place ≡ Some p
    → HandsNothing p r → AllHandOver a (set b place r) handed
over_none [] [] handed place p r all long at none = absurd (none-some p at)
over_none [] (q ∷ qs) [] place p r all long at none = absurd all
over_none [] (q ∷ qs) (l ∷ ls) place p r all long at none = absurd all
over_none (x ∷ xs) [] [] place p r all long at none = absurd all
over_none (x ∷ xs) [] (l ∷ ls) place p r all long at none = absurd all
over_none (x ∷ xs) (q ∷ qs) [] zero p r all long at none = (none ∙ ap handed_over (sym (same_Some q p at)) ∙ all.0, all.1)
over_none (x ∷ xs) (q ∷ qs) [] (suc place) p r all long at none = absurd (omega (arith, long))
over_none (x ∷ xs) (q ∷ qs) (l ∷ ls) zero p r all long at none = absurd (omega (arith, long))
over_none (x ∷ xs) (q ∷ qs) (l ∷ ls) (suc place) p r all long at none = (all.0, over_none xs qs ls place p r all.1 (omega (arith, long)) at none)

same_handed : (q r : ProgressState) → taken_of r ≡ taken_of q → r.kept ≡ q.kept → handed_over r ≡ handed_over q
same_handed q r first last = λ j. first j ++ last j

-- the books have handed over the same by now
over_as : (a b c : List ProgressState) (handed : List (List Frame)) → map taken_of c ≡ map taken_of b → map (λ p. p.kept) c ≡ map (λ p. p.kept) b → AllHandOver a b handed → AllHandOver a c handed
over_as [] [] [] handed taken kept all = all
over_as [] [] (r ∷ rs) handed taken kept all = absurd (cc)
over_as [] (q ∷ qs) c [] taken kept all = absurd all
over_as [] (q ∷ qs) c (l ∷ ls) taken kept all = absurd all
over_as (p ∷ ps) [] c [] taken kept all = absurd all
over_as (p ∷ ps) [] c (l ∷ ls) taken kept all = absurd all
over_as (p ∷ ps) (q ∷ qs) [] handed taken kept all = absurd (cc)
over_as (p ∷ ps) (q ∷ qs) (r ∷ rs) [] taken kept all =
    let first : taken_of r ≡ taken_of q = ap (λ (es : List (List BookEvent)). get_or es 0 []) taken in
    let last : r.kept ≡ q.kept = ap (λ (es : List (List BookEvent)). get_or es 0 []) kept in (
      same_handed q r first last ∙ all.0,
      over_as ps qs rs [] (ap (λ (es : List (List BookEvent)). drop 1 es) taken) (ap (λ (es : List (List BookEvent)). drop 1 es) kept) all.1,
    )
over_as (p ∷ ps) (q ∷ qs) (r ∷ rs) (l ∷ ls) taken kept all =
    let first : taken_of r ≡ taken_of q = ap (λ (es : List (List BookEvent)). get_or es 0 []) taken in
    let last : r.kept ≡ q.kept = ap (λ (es : List (List BookEvent)). get_or es 0 []) kept in (
      over_to p q r l (λ j. first j ++ last j) all.0,
      over_as ps qs rs ls (ap (λ (es : List (List BookEvent)). drop 1 es) taken) (ap (λ (es : List (List BookEvent)). drop 1 es) kept) all.1,
    )

-- ---- What is taken

-- these frames one after the other
abbrev together : List (List Frame) → List Frame
together handed = flat_map (λ lost. lost) handed

-- of the nodes before this place, and nothing of the others
pub record TakesUpTo (old : AuditState) (place : ℕ) (new : AuditState) : Type 0 where
  pub more : TakesMore old new
  pub long : length more.handed ≡ place
  pub left : drop place new.nodes ≡ drop place old.nodes

pub took_nothing : (old : AuditState) → IsAudited old.world old.nodes → TakesUpTo old 0 old
took_nothing old audited = record {
  more = record { taken = go_nowhere old.nodes; handed = []; hands = over_nowhere old.nodes; losing = sym (append-nil old.losing); rest = refl; audited = audited };
  long = refl;
  left = refl;
}

module _ (a b c : AuditState) (place : ℕ) (within : place < length b.nodes) (first : TakesUpTo a place b) (second : TakesMoreAt b (place + 1) c) where
  here : place + 1 - 1 ≡ place
  here = omega arith

  -- the site of one node more handed over these frames
  further : (p q : ProgressState) (lost : List Frame) → slice_get b.nodes (place + 1 - 1) ≡ Some p → c.nodes ≡ set b.nodes (place + 1 - 1) q → HandsOver p q lost
      → c.losing ≡ b.losing ++ lost → TakesUpTo a (place + 1) c
  further p q lost at is_at over losing =
      let next : suc place ≡ place + 1 = omega arith in
      let handed = first.more.handed in
      let found : slice_get b.nodes place ≡ Some p = ap (slice_get b.nodes) (sym here) ∙ at in
      let is : c.nodes ≡ set b.nodes place q = is_at ∙ ap (λ (i : ℕ). set b.nodes i q) here in
      let all = over_more a.nodes b.nodes handed place p q lost first.more.hands first.long first.left found over in
      record {
        more = record {
          taken = go_further a.nodes b.nodes c.nodes first.more.taken second.taken;
          handed = handed ++ lost ∷ [];
          hands = subst (λ (ns : List ProgressState). AllHandOver a.nodes ns (handed ++ lost ∷ [])) (sym is) all.0;
          losing = losing ∙ ap (λ (fs : List Frame). fs ++ lost) first.more.losing ∙ append_assoc a.losing (together handed) lost
              ∙ ap (λ (fs : List Frame). a.losing ++ fs)
              (ap (λ (fs : List Frame). together handed ++ fs) (sym (append-nil lost)) ∙ sym (flat_map-append (λ (fs : List Frame). fs) handed (lost ∷ [])));
          rest = second.rest ∙ (λ i. record (first.more.rest i) { nodes = c.nodes; losing = c.losing });
          audited = second.audited;
        };
        long = omega (arith, length-append handed (lost ∷ []), first.long);
        left =
            subst (λ (n : ℕ). drop n c.nodes ≡ drop n a.nodes) next
            (subst (λ (ns : List ProgressState). drop (suc place) ns ≡ drop (suc place) a.nodes) (sym is) all.1);
      }

  -- one node more
  pub took_further : TakesAllAt b.nodes b.losing (place + 1) c.nodes c.losing → TakesUpTo a (place + 1) c
  took_further at = further at.0 at.2.0 at.2.3 at.1 at.2.2 at.2.4 at.2.5

  -- it handed over nothing
  nothing_further : (p q : ProgressState) → slice_get b.nodes (place + 1 - 1) ≡ Some p → c.nodes ≡ set b.nodes (place + 1 - 1) q → HandsNothing p q → c.losing ≡ b.losing → TakesMore a c
  nothing_further p q at is_at none losing =
      let handed = first.more.handed in
      let found : slice_get b.nodes place ≡ Some p = ap (slice_get b.nodes) (sym here) ∙ at in
      let is : c.nodes ≡ set b.nodes place q = is_at ∙ ap (λ (i : ℕ). set b.nodes i q) here in
      record {
        taken = go_further a.nodes b.nodes c.nodes first.more.taken second.taken;
        handed = handed;
        hands = subst (λ (ns : List ProgressState). AllHandOver a.nodes ns handed) (sym is) (over_none a.nodes b.nodes handed place p q first.more.hands first.long found none);
        losing = losing ∙ first.more.losing;
        rest = second.rest ∙ (λ i. record (first.more.rest i) { nodes = c.nodes; losing = c.losing });
        audited = second.audited;
      }

  -- the last node from which something was taken, or nothing
  pub took_last : TakesMore a c
  took_last =
      let at = second.at_node (omega (arith, within)) in
      elim (at.2.1) [
        | inl none ↦ nothing_further at.0 at.2.0 at.1 at.2.2 none.0 (second.losing ∙ ap (λ (fs : List Frame). b.losing ++ fs) none.1 ∙ append-nil b.losing)
        | inr over ↦ (further at.0 at.2.0 second.handed at.1 at.2.2 over second.losing).more
      ]

pub handed_at : (nodes nodes' : List ProgressState) (losing losing' : List Frame) (node place : ℕ) (p q : ProgressState) (answer : Result (Unit {0}) TakeError)
    → place + 1 ≡ node → place < length nodes → p ≡ get_or nodes place p → nodes' ≡ set nodes place q
    → (handed : List Frame) × TakesOver p q handed answer × (losing' ≡ losing ++ handed) → TakesHanded nodes losing node answer nodes' losing'
handed_at nodes nodes' losing losing' node place p q answer number within at is takes =
    let place_is : place ≡ node - 1 = omega (arith, number) in
    let found : slice_get nodes (node - 1) ≡ Some p = ap (slice_get nodes) (sym place_is) ∙ slice_get_read nodes (length nodes) place p refl within at in
    inr (p, found, (q, takes.0, takes.1, is ∙ ap (λ (i : ℕ). set nodes i q) place_is, takes.2))

pub took_by_handing : (old new : AuditState) (node number : ℕ) (answer : Result (Unit {0}) TakeError) → node ≡ number → TakesHanded old.nodes old.losing node answer new.nodes new.losing
    → new ≡ record old { nodes = new.nodes; losing = new.losing } → IsAudited new.world new.nodes → TakesMoreAt old number new
took_by_handing old new node number answer same (inl none) rest audited = record {
  taken = subst (TakenGoOn old.nodes) (sym none.2) (go_nowhere old.nodes);
  handed = [];
  at_node = λ within. absurd (omega (arith, none.0, same, within));
  losing = none.3 ∙ sym (append-nil old.losing);
  rest = rest;
  audited = audited;
}
took_by_handing old new node number answer same (inr some) rest audited = record {
  taken = subst (TakenGoOn old.nodes) (sym some.2.3) (go_on_at old.nodes (node - 1) some.0 some.2.0 some.1 some.2.2.goes_on);
  handed = some.2.1;
  at_node = λ within.
      subst (λ (n : ℕ). AtNumber old.nodes n (λ p. (q : ProgressState) × MayHandOver p q some.2.1 × (new.nodes ≡ set old.nodes (n - 1) q))) same
      (some.0, some.1, (some.2.0, some.2.2.hands, some.2.3));
  losing = some.2.4;
  rest = rest;
  audited = audited;
}

-- ---- What is kept

pub takes_all_at : (nodes nodes' : List ProgressState) (losing losing' : List Frame) (node number : ℕ) (x : Unit {0}) → node ≡ number → TakesHanded nodes losing node (Ok x) nodes' losing'
    → TakesAllAt nodes losing number nodes' losing'
takes_all_at nodes nodes' losing losing' node number x same (inl none) =
    let is : Ok x ≡ Err NoNode = none.1 in
    absurd (cc)
takes_all_at nodes nodes' losing losing' node number x same (inr some) =
    subst (λ (n : ℕ). TakesAllAt nodes losing n nodes' losing') same (some.0, some.1, (some.2.0, some.2.2.ok, some.2.3, some.2.1, some.2.2.all, some.2.4))

pub none_kept_more : (nodes nodes' : List ProgressState) (losing losing' : List Frame) (place : ℕ) → place < length nodes → AllWithin (λ p. p.kept ≡ []) nodes 0 place
    → TakesAllAt nodes losing (place + 1) nodes' losing' → AllWithin (λ p. p.kept ≡ []) nodes' 0 (place + 1)
none_kept_more nodes nodes' losing losing' place within so_far at =
    let q = at.2.0 in
    let none = at.2.1 in
    let is = at.2.2 in
    let here : place + 1 - 1 ≡ place = omega arith in
    subst (λ (ns : List ProgressState). AllWithin (λ p. p.kept ≡ []) ns 0 (place + 1)) (sym (is ∙ ap (λ (i : ℕ). set nodes i q) here))
    (AllWithin-more_set nodes place q within (λ p. p.kept ≡ []) so_far none)

pub none_kept_after : (nodes nodes' : List ProgressState) → map (λ p. p.kept) nodes' ≡ map (λ p. p.kept) nodes → NoneIsKept nodes → NoneIsKept nodes'
none_kept_after [] [] same none = none
none_kept_after [] (q ∷ qs) same none = absurd (cc)
none_kept_after (p ∷ ps) [] same none = absurd (cc)
none_kept_after (p ∷ ps) (q ∷ qs) same none =
    All-cons (λ p. p.kept ≡ []) q qs (ap (λ (es : List (List BookEvent)). get_or es 0 []) same ∙ All-head (λ p. p.kept ≡ []) p ps none)
    (none_kept_after ps qs (ap (λ (es : List (List BookEvent)). drop 1 es) same) (All-tail (λ p. p.kept ≡ []) p ps none))

-- ---- The node whose events were not taken

cause_of : (p q : ProgressState) (handed : List Frame) (cause : TakeError) → TakesOver p q handed (Err cause) → IsCauseAt cause q
cause_of p q handed NoNode t = t.no_node refl
cause_of p q handed OutOfTurn t = (t.out_of_turn refl).0
cause_of p q handed NotNext t = t.not_next.0 refl
cause_of p q handed Memory t = t.memory refl

pub not_taken_at : (nodes nodes' : List ProgressState) (losing losing' : List Frame) (node number : ℕ) (cause : TakeError) → node ≡ number → number ≤ length nodes
    → TakesHanded nodes losing node (Err cause) nodes' losing' → NotTakenAt nodes number cause nodes'
not_taken_at nodes nodes' losing losing' node number cause same within (inl none) = absurd (omega (arith, same, within, none.0))
not_taken_at nodes nodes' losing losing' node number cause same within (inr some) =
    subst (λ (n : ℕ). NotTakenAt nodes n cause nodes') same (some.0, some.1, some.2.0, cause_of some.0 some.2.0 some.2.1 cause some.2.2, some.2.3)

same_pair : (a b : ℕ × TakeError) → ◌≡◌ {A = Result (Unit {0}) (ℕ × TakeError)} (Err a) (Err b) → a ≡ b
same_pair a b e = cc

-- the same, if the node and the cause are returned
pub not_taken_by : (nodes nodes' : List ProgressState) (losing losing' : List Frame) (site number : ℕ) (found given : ℕ × TakeError) → site ≡ number → found.0 ≡ number → number ≤ length nodes
    → TakesHanded nodes losing site (Err found.1) nodes' losing' → ◌≡◌ {A = Result (Unit {0}) (ℕ × TakeError)} (Err found) (Err given)
    → (given.0 ≡ number) × NotTakenAt nodes number given.1 nodes'
not_taken_by nodes nodes' losing losing' site number found given same node within takes is =
    subst (λ (x : ℕ × TakeError). (x.0 ≡ number) × NotTakenAt nodes number x.1 nodes') (same_pair found given is)
    (node, not_taken_at nodes nodes' losing losing' site number found.1 same within takes)

-- nothing is kept of the nodes before it
pub not_taken_from : (nodes nodes' : List ProgressState) (place : ℕ) (cause : TakeError) → place < length nodes → AllWithin (λ p. p.kept ≡ []) nodes 0 place
    → NotTakenAt nodes (place + 1) cause nodes' → IsNotTaken nodes' (place + 1) cause
not_taken_from nodes nodes' place cause within so_far at =
    let q = at.2 in
    let here : place + 1 - 1 ≡ place = omega arith in
    let is : nodes' ≡ set nodes place q = at.4 ∙ ap (λ (i : ℕ). set nodes i q) here in
    let there : place < length (set nodes place q) = omega (arith, within, length-set nodes place q) in
    let found : slice_get nodes' (place + 1 - 1) ≡ Some q =
    (λ j. slice_get (is j) (here j)) ∙ slice_get-get_or (set nodes place q) place q there ∙ ap (λ (x : ProgressState). Some x) (get_or-set_same nodes place q q within)
    in
    record {
      at_node = (q, found, at.3);
      before = λ k d low high.
          subst (λ (ns : List ProgressState). (get_or ns k d).kept ≡ []) (sym is) (AllWithin-kept nodes place q within (λ p. p.kept ≡ []) so_far k d low (omega (arith, high)));
    }

-- the same is kept of the same nodes, after the same events
next_as : (p q : ProgressState) → q.node ≡ p.node → taken_of q ≡ taken_of p → q.kept ≡ p.kept → KeptAreNext p → KeptAreNext q
next_as p q node taken kept next =
    subst (λ (es : List BookEvent). AreNextAt q.node (clock_of (taken_of q)) es) (sym kept)
    (subst (λ (es : List BookEvent). AreNextAt q.node (clock_of es) p.kept) (sym taken) (subst (λ (n : ℕ). AreNextAt n (clock_of (taken_of p)) p.kept) (sym node) next))

cause_as : (cause : TakeError) (p q : ProgressState) → q.node ≡ p.node → taken_of q ≡ taken_of p → q.kept ≡ p.kept → IsCauseAt cause p → IsCauseAt cause q
cause_as NoNode p q node taken kept why = why
cause_as OutOfTurn p q node taken kept why = kept ∙ why
cause_as NotNext p q node taken kept why = λ next. why (next_as q p (sym node) (sym taken) (sym kept) next)
cause_as Memory p q node taken kept why = next_as p q node taken kept why

cause_at_as : (cause : TakeError) (a b : List ProgressState) (place : ℕ) → map (λ p. p.node) b ≡ map (λ p. p.node) a → map taken_of b ≡ map taken_of a
    → map (λ p. p.kept) b ≡ map (λ p. p.kept) a → (p : ProgressState) × (slice_get a place ≡ Some p) × IsCauseAt cause p
    → (q : ProgressState) × (slice_get b place ≡ Some q) × IsCauseAt cause q
cause_at_as cause [] b place numbers taken kept at = absurd (none-some at.0 at.1)
cause_at_as cause (p ∷ ps) [] place numbers taken kept at = absurd (cc)
cause_at_as cause (p ∷ ps) (q ∷ qs) zero numbers taken kept at = (
  q,
  refl,
  cause_as cause p q (ap (λ (ns : List ℕ). get_or ns 0 0) numbers) (ap (λ (es : List (List BookEvent)). get_or es 0 []) taken)
      (ap (λ (es : List (List BookEvent)). get_or es 0 []) kept) (subst (IsCauseAt cause) (sym (same_Some p at.0 at.1)) at.2),
)
cause_at_as cause (p ∷ ps) (q ∷ qs) (suc place) numbers taken kept at =
    cause_at_as cause ps qs place (ap (λ (ns : List ℕ). drop 1 ns) numbers) (ap (λ (es : List (List BookEvent)). drop 1 es) taken)
    (ap (λ (es : List (List BookEvent)). drop 1 es) kept) at

before_as : (a b : List ProgressState) (high : ℕ) → map (λ p. p.kept) b ≡ map (λ p. p.kept) a → high ≤ length a → AllWithin (λ p. p.kept ≡ []) a 0 high → AllWithin (λ p. p.kept ≡ []) b 0 high
before_as a b high kept few none k d low below =
    let within : k < length a = omega (arith, few, below) in
    let many : length b ≡ length a = sym (length-map b (λ (p : ProgressState). p.kept)) ∙ ap (λ (es : List (List BookEvent)). length es) kept ∙ length-map a (λ (p : ProgressState). p.kept) in
    let within' : k < length b = omega (arith, within, many) in
    sym (get_or-map (λ (p : ProgressState). p.kept) b k d [] within') ∙ ap (λ (es : List (List BookEvent)). get_or es k []) kept ∙ get_or-map (λ (p : ProgressState). p.kept) a k d [] within ∙ none k d low below

-- events that are put into the run change none of that
pub not_taken_as : (a b : List ProgressState) (node : ℕ) (cause : TakeError) → map (λ p. p.node) b ≡ map (λ p. p.node) a → map taken_of b ≡ map taken_of a
    → map (λ p. p.kept) b ≡ map (λ p. p.kept) a → IsNotTaken a node cause → IsNotTaken b node cause
not_taken_as a b node cause numbers taken kept not = record {
  at_node = cause_at_as cause a b (node - 1) numbers taken kept not.at_node;
  before =
      let within = slice_get_within a (node - 1) not.at_node.0 not.at_node.1 in
      before_as a b (node - 1) kept (omega (arith, within)) not.before;
}

pub length_of : (w : WorldState) (nodes : List ProgressState) → IsAudited w nodes → length nodes ≡ w.count
length_of w nodes a = sym (length-map nodes (λ (p : ProgressState). p.node)) ∙ ap (λ (ns : List ℕ). length ns) a.numbers ∙ length-range_with_len 1 w.count

-- ---- A round

-- a round that did nothing
pub audits_nothing : (old : AuditState) (told : List Mark) → IsAudited old.world old.nodes → HasLost old.world.moves old.lost → AllWereSent old.nodes old.world.moves old.lost
    → Audits old told old told
audits_nothing old told audited lost sent = record {
  audited = audited;
  count = refl;
  start = refl;
  moves = [];
  goes_on = sym (append-nil old.world.moves);
  told_are = sym (append-nil told);
  taken = go_nowhere old.nodes;
  handed = [];
  hands = over_nowhere old.nodes;
  losses = subst (λ (fs : List Frame). PutsLosses old.nodes fs old.lost old.losing old.lost) (sym (append-nil old.losing)) (puts_none old.nodes old.losing old.lost);
  lost = lost;
  sent = sent;
}

-- the nodes have the same numbers
pub numbers_as : (old mid new : AuditState) (told told' : List Mark) → TakesMore old mid → Advances mid.world mid.nodes told new.world new.nodes told'
    → map (λ p. p.node) new.nodes ≡ map (λ p. p.node) mid.nodes
numbers_as old mid new told told' takes advances = advances.audited.numbers ∙ ap (λ (n : ℕ). range_with_len 1 n) advances.count ∙ sym takes.audited.numbers

pub audits_all : (old mid new : AuditState) (told told' : List Mark) → TakesMore old mid
    → Advances mid.world mid.nodes told new.world new.nodes told' → PutsLosses new.nodes mid.losing mid.lost new.losing new.lost → HasLost new.world.moves new.lost
    → AllWereSent new.nodes new.world.moves new.lost → Audits old told new told'
audits_all old mid new told told' takes advances losses lost sent = record {
  audited = advances.audited;
  count = advances.count ∙ ap (λ (a : AuditState). a.world.count) takes.rest;
  start = advances.start ∙ ap (λ (a : AuditState). a.world.start) takes.rest;
  moves = advances.moves;
  goes_on = advances.goes_on ∙ ap (λ (a : AuditState). a.world.moves ++ advances.moves) takes.rest;
  told_are = advances.told_are;
  taken = go_further old.nodes mid.nodes new.nodes takes.taken (go_as_before mid.nodes new.nodes (numbers_as old mid new told told' takes advances) advances.taken);
  handed = takes.handed;
  hands = over_as old.nodes mid.nodes new.nodes takes.handed advances.taken advances.kept takes.hands;
  losses =
      subst (λ (fs : List Frame). PutsLosses new.nodes fs old.lost new.losing new.lost) takes.losing
      (subst (λ (a : AuditState). PutsLosses new.nodes mid.losing a.lost new.losing new.lost) takes.rest losses);
  lost = lost;
  sent = sent;
}

-- of as many nodes
as_many : (mid new : List ProgressState) → map taken_of new ≡ map taken_of mid → length new ≡ length mid
as_many mid new taken = sym (length-map new taken_of) ∙ ap (λ (es : List (List BookEvent)). length es) taken ∙ length-map mid taken_of

-- whose sites handed over all that was left
pub asks_all : (old mid new : AuditState) (told told' : List Mark) (x : Unit {0}) (takes : TakesMore old mid) → length takes.handed ≡ length mid.nodes
    → Advances mid.world mid.nodes told new.world new.nodes told' → PutsLosses new.nodes mid.losing mid.lost new.losing new.lost → HasLost new.world.moves new.lost
    → AllWereSent new.nodes new.world.moves new.lost → AuditsByAnswer {E = RoundError} old told new told' (Ok x)
unfolding audits_all
asks_all old mid new told told' x takes all advances losses lost sent = record {
  audits = audits_all old mid new told told' takes advances losses lost sent;
  asked = all ∙ sym (as_many mid.nodes new.nodes advances.taken);
}

-- what holds if all that can be put was put
pub if_done : (A : Type 0) (r : Result (Unit {0}) AuditError) → IsOk r → OnOk r A → A
if_done A (Ok x) done h = h
if_done A (Err e) done h = absurd cc

-- ---- With a fault that is noted at its end

pub audits_noted : (old new noted : AuditState) (told told' : List Mark) (fault : AuditFault) → noted ≡ record new { fault = Some fault } → Audits old told new told'
    → Audits old told noted told'
audits_noted old new noted told told' fault same a = subst (λ (x : AuditState). Audits old told x told') (sym same) (record {
  audited = a.audited;
  count = a.count;
  start = a.start;
  moves = a.moves;
  goes_on = a.goes_on;
  told_are = a.told_are;
  taken = a.taken;
  handed = a.handed;
  hands = a.hands;
  losses = a.losses;
  lost = a.lost;
  sent = a.sent;
})

-- ---- With none

pub audits_as : (old new noted : AuditState) (told told' : List Mark) (x : Unit {0}) → noted ≡ new → AuditsByAnswer {E = RoundError} old told new told' (Ok x)
    → AuditsByAnswer {E = RoundError} old told noted told' (Ok x)
audits_as old new noted told told' x same = subst (λ (s : AuditState). AuditsByAnswer {E = RoundError} old told s told' (Ok x)) (sym same)

pub none_ready_as : (new noted : AuditState) → noted ≡ new → NoneIsReady new.nodes → NoneIsReady noted.nodes
none_ready_as new noted same = subst (λ (a : AuditState). NoneIsReady a.nodes) (sym same)

pub none_reached_as : (new noted : AuditState) → noted ≡ new → NoneIsReached new.nodes new.losing → NoneIsReached noted.nodes noted.losing
none_reached_as new noted same = subst (λ (a : AuditState). NoneIsReached a.nodes a.losing) (sym same)

pub may_be_put_as : (clocks known : List ℕ) (new noted : AuditState) → clocks ≡ known → noted ≡ new → All (MayBePut clocks new.nodes) new.nodes
    → All (MayBePut known noted.nodes) noted.nodes
may_be_put_as clocks known new noted clocks_are same may =
    subst (λ (cs : List ℕ). All (MayBePut cs noted.nodes) noted.nodes) clocks_are
    (subst (λ (a : AuditState). All (MayBePut clocks a.nodes) a.nodes) (sym same) may)

pub none_kept_as : (new noted : AuditState) → noted ≡ new → NoneIsKept new.nodes → NoneIsKept noted.nodes
none_kept_as new noted same = subst (λ (a : AuditState). NoneIsKept a.nodes) (sym same)

pub if_taken : {E : Type 0} (A : Type 0) (r : Result (Unit {0}) E) → IsOk r → OnOk r A → A
if_taken A (Ok x) done h = h
if_taken A (Err e) done h = absurd cc

-- ---- The fault that a round leaves

pub is_none : {A E : Type 0} (x : A) (e : E) → ◌≡◌ {A = Result A E} (Ok x) (Err e) → ⊥
is_none x e is = cc

same_fault : (a b : AuditFault) → ◌≡◌ {A = Result (Unit {0}) RoundError} (Err (round.Fault a)) (Err (round.Fault b)) → a ≡ b
same_fault a b e = cc

as_fault : (a b : AuditFault) → a ≡ b → ◌≡◌ {A = Result (Unit {0}) RoundError} (Err (round.Fault a)) (Err (round.Fault b))
as_fault a b e = cc

memory_is_none : (fault : AuditFault) → ◌≡◌ {A = Result (Unit {0}) RoundError} (Err round.Memory) (Err (round.Fault fault)) → ⊥
memory_is_none fault is = cc

-- none, if nothing was done for lack of memory
pub stays_faultless : (old : AuditState) (fault : AuditFault) → old.fault ≡ None → IsErrOf {T = Unit {0}} (Err round.Memory) (round.Fault fault) ↔ (old.fault ≡ Some fault)
stays_faultless old fault none = ((λ is. absurd (memory_is_none fault is)), λ has. absurd (none-some fault (sym none ∙ has)))

module _ (answer : Result (Unit {0}) AuditError) (put new : AuditState) (exact : (fault : AuditFault) → IsErrOf answer (audit.Fault fault) ↔ (put.fault ≡ Some fault)) where
  found_none : (r : Result (Unit {0}) AuditError) (fault : AuditFault) → IsOk r → IsErrOf r (audit.Fault fault) → ⊥
  found_none (Ok x) fault done is = is_none x (audit.Fault fault) is
  found_none (Err e) fault done is = absurd cc

  -- none, if all that can be put was put
  pub is_faultless : IsOk answer → new ≡ put → (x : Unit {0}) (fault : AuditFault) → ◌≡◌ {A = Result (Unit {0}) RoundError} (Ok x) (Err (round.Fault fault)) ↔ (new.fault ≡ Some fault)
  is_faultless done same x fault = (
    (λ is. absurd (is_none x (round.Fault fault) is)),
    λ has. absurd (found_none answer fault done ((exact fault).1 (ap (λ (a : AuditState). a.fault) (sym same) ∙ has))),
  )

-- the one that was found
pub has_found : (put new : AuditState) (found fault : AuditFault) → new ≡ record put { fault = Some found } → IsErrOf {T = Unit {0}} (Err (round.Fault found)) (round.Fault fault) ↔ (new.fault ≡ Some fault)
has_found put new found fault same =
    let noted : new.fault ≡ Some found = ap (λ (a : AuditState). a.fault) same in (
      (λ is. noted ∙ ap (λ (f : AuditFault). Some f) (same_fault found fault is)),
      λ has. as_fault found fault (same_Some found fault (sym noted ∙ has)),
    )
