-- What an auditor keeps as it puts an event into the run.
use Rattle.std.proofs.Common.{◌≡◌, ◌≢◌, ℕ, ◌+◌, ◌-◌, ◌<◌, ◌≤◌, Bool, true, false, cond, ltb, leb, IsTrue, MatchOption, Option, None, Err, IsErrOf, Ok, Result, OnOk, OnErr, List, [], ◌∷◌, ◌++◌, map, length, get_or, set, take, drop, length-drop, Some, refl, sym, ap, ◌∙◌, subst, inl, inr, arith}
use Rattle.std.specs.Prelude.{All, slice_get}
use Rattle.std.specs.List.{flat_map, range_with_len}
use Rattle.std.proofs.lemmas.Option.{same_Some, slice_get_read, get_or_from_slice_get, slice_get_within}
use Rattle.std.proofs.lemmas.List.Elements.{All-set, All-map}
use Rattle.std.proofs.Math.Seq.{map-set_same}
use Rattle.std.proofs.lemmas.Bool.{eq-eqb, ne_eqb, cases_eq, ltb-true, ltb-false, leb-true, le-leb}
use Rattle.std.proofs.lemmas.List.{map-append, append-nil, append_assoc, get_or-map, get_or_default, get_or-set_same, get_or-set_other, set-get_or, length-set, length-map, nil_from_length, take_all}
use Rattle.std.proofs.lemmas.List.Concat.{flat_map-append}
use Rattle.std.proofs.lemmas.List.FromFn.{length-range_with_len, get_or-range_with_len, map-range_with_len_more}
use Rattle.ra_stamp.specs.declared.message.Message.{Message}
use Rattle.ra_stamp.specs.declared.entry.Mark.{Mark}
use Rattle.ra_stamp.specs.Message.{from_of}
use Rattle.ra_stamp.specs.NodeId.{IsNodeNumber}
use Rattle.ra_frame.specs.declared.frame.Frame.{Frame}
use Rattle.ra_world.specs.declared.error.StepError.{StepError}
use Rattle.ra_world.specs.declared.error.StepError.TheVariants as refusal
use Rattle.ra_world.specs.declared.step.Step.{Step}
use Rattle.ra_world.specs.Traffic.{Move, lost_in, lost_by, repeated_in, repeated_by}
use Rattle.ra_world.specs.Run.{IsRun, GoesOn, events_at, happened_at, marks_of}
use Rattle.ra_world.specs.World.{WorldState, with_move}
use Rattle.ra_book.specs.declared.book.event.BookEvent.{BookEvent}
use Rattle.ra_audit.specs.declared.audit_error.AuditError.{AuditError}
use Rattle.ra_audit.specs.declared.audit_error.AuditError.TheVariants as audit
use Rattle.ra_audit.specs.declared.audit_error.AuditError.TheVariants.{Fault}
use Rattle.ra_audit.specs.declared.audit_error.AuditFault.{AuditFault}
use Rattle.ra_site.specs.declared.site.take_error.TakeError.{TakeError}
use Rattle.ra_site.specs.declared.site.take_error.TakeError.TheVariants.{NoNode, OutOfTurn, NotNext}
use Rattle.ra_book.specs.declared.book.event.BookKind.{BookKind}
use Rattle.ra_book.specs.declared.book.event.BookKind.TheVariants.{Receive}
use Rattle.ra_book.specs.History.{node_event, clock_of}
use Rattle.ra_book.specs.Settled.{step_at}
use Rattle.ra_audit.specs.Audit.{ProgressState, IsAudited, HasSettled, IsForNumber, IsDue, IsReady, IsMisfit, FitsRun, Advances, AreNextAt, AtNumber, Takes, TakesHanded, fresh_progress, taken_of, with_more}
use Rattle.ra_book.proofs.Projections.{events_by, lost_in_event, repeated_in_event, one_event}

-- the node at a place has the number after it
pub number_of : (nodes : List ProgressState) (n k : ℕ) (d : ProgressState) → map (λ p. p.node) nodes ≡ range_with_len 1 n → k < length nodes → (get_or nodes k d).node ≡ k + 1
number_of nodes n k d numbers low =
    let many : length nodes ≡ n = sym (length-map nodes (λ (p : ProgressState). p.node)) ∙ ap length numbers ∙ length-range_with_len 1 n in
    let within : k < n = omega (arith, low, many) in
    let e : 1 + k ≡ k + 1 = omega arith in
    sym (get_or-map (λ (p : ProgressState). p.node) nodes k d 0 low) ∙ ap (λ (xs : List ℕ). get_or xs k 0) numbers ∙ get_or-range_with_len 1 n k 0 within ∙ e

-- ---- One more move

pub happened_more : (i : ℕ) (moves : List Move) (m : Move) → map (λ h. h.event) (happened_at i (moves ++ m ∷ [])) ≡ map (λ h. h.event) (happened_at i moves) ++ events_at i m.step
happened_more i moves m =
    events_by i (moves ++ m ∷ [])
    ∙ ap (flat_map (events_at i)) (map-append (λ (m : Move). m.step) moves (m ∷ []))
    ∙ flat_map-append (events_at i) (map (λ m. m.step) moves) (m.step ∷ [])
    ∙ (λ j. sym (events_by i moves) j ++ append-nil (events_at i m.step) j)

marks_append : (a b : List Move) → marks_of (a ++ b) ≡ marks_of a ++ marks_of b
marks_append [] b = refl
marks_append (m ∷ a) b = ap (λ (ms : List Mark). m.marks ++ ms) (marks_append a b) ∙ sym (append_assoc m.marks (marks_of a) (marks_of b))

pub repeated_more : (moves : List Move) (m : Move) → repeated_by (moves ++ m ∷ []) ≡ repeated_by moves ++ repeated_in m.step
repeated_more [] m = append-nil (repeated_in m.step)
repeated_more (x ∷ moves) m = ap (λ (ms : List Message). repeated_in x.step ++ ms) (repeated_more moves m) ∙ sym (append_assoc (repeated_in x.step) (repeated_by moves) (repeated_in m.step))

pub lost_more : (moves : List Move) (m : Move) → lost_by (moves ++ m ∷ []) ≡ lost_by moves ++ lost_in m.step
lost_more [] m = append-nil (lost_in m.step)
lost_more (x ∷ moves) m = ap (λ (ms : List Message). lost_in x.step ++ ms) (lost_more moves m) ∙ sym (append_assoc (lost_in x.step) (lost_by moves) (lost_in m.step))

module _ (w : WorldState) (nodes : List ProgressState) (place : ℕ) (p q : ProgressState) (e : BookEvent) (sends : List Message) (marks : List Mark)
    (a : IsAudited w nodes) (within : place < length nodes) (at : p ≡ get_or nodes place p) (for_node : IsForNumber p.node e.kind)
    (node_is : q.node ≡ p.node) (settled_is : q.settled ≡ p.settled ++ e ∷ []) (taken_is : taken_of q ≡ taken_of p) (kept_is : q.kept ≡ p.kept)
    (run : IsRun w.count w.start (with_move w (step_at p.node e.kind) sends marks).moves) where
  abbrev m : Move
  m = record { step = step_at p.node e.kind; sends = sends; marks = marks }

  before : map (λ h. h.event) (happened_at p.node w.moves) ≡ map (λ e. node_event e.kind) p.settled
  before = subst (HasSettled w.moves) (sym at) (a.events place p within)

  own_event : events_at p.node (step_at p.node e.kind) ≡ node_event e.kind ∷ []
  own_event = one_event p.node p.node e.kind for_node ∙ ap (λ (b : Bool). cond b (node_event e.kind ∷ []) []) (eq-eqb p.node p.node refl)

  here : HasSettled (w.moves ++ m ∷ []) q
  here =
      ap (λ (i : ℕ). map (λ h. h.event) (happened_at i (w.moves ++ m ∷ []))) node_is
      ∙ happened_more p.node w.moves m
      ∙ (λ j. before j ++ own_event j)
      ∙ sym (map-append (λ (e : BookEvent). node_event e.kind) p.settled (e ∷ []))
      ∙ ap (map (λ (e : BookEvent). node_event e.kind)) (sym settled_is)

  elsewhere : (other : ProgressState) → other.node ≢ p.node → HasSettled w.moves other → HasSettled (w.moves ++ m ∷ []) other
  elsewhere other differs h =
      let apart : p.node ≢ other.node = λ same. differs (sym same) in
      let so_far : map (λ h. h.event) (happened_at other.node w.moves) ≡ map (λ e. node_event e.kind) other.settled = h in
      let no_event : events_at other.node (step_at p.node e.kind) ≡ [] =
      one_event other.node p.node e.kind for_node ∙ ap (λ (b : Bool). cond b (node_event e.kind ∷ []) []) (ne_eqb p.node other.node apart)
      in
      happened_more other.node w.moves m
      ∙ (λ j. so_far j ++ no_event j)
      ∙ append-nil (map (λ (e : BookEvent). node_event e.kind) other.settled)

  pub audited : IsAudited (with_move w (step_at p.node e.kind) sends marks) (set nodes place q)
  audited = record {
    count = a.count;
    run = run;
    numbers = map-set_same (λ (p : ProgressState). p.node) nodes place q p (node_is ∙ ap (λ (x : ProgressState). x.node) at) ∙ a.numbers;
    events = λ k d low.
        let low' : k < length nodes = omega (arith, low, length-set nodes place q) in
        elim (cases_eq k place) [
          | inl same ↦
              let is : get_or (set nodes place q) k d ≡ q = ap (λ (i : ℕ). get_or (set nodes place q) i d) same ∙ get_or-set_same nodes place q d within in
              subst (HasSettled (w.moves ++ m ∷ [])) (sym is) here
          | inr differs ↦
              let is : get_or (set nodes place q) k d ≡ get_or nodes k d = get_or-set_other nodes place k q d differs in
              let mine : p.node ≡ place + 1 = ap (λ (x : ProgressState). x.node) at ∙ number_of nodes w.count place p a.numbers within in
              let theirs : (get_or nodes k d).node ≡ k + 1 = number_of nodes w.count k d a.numbers low' in
              let apart : (get_or nodes k d).node ≢ p.node = λ same. differs (omega (arith, mine, theirs, same)) in
              subst (HasSettled (w.moves ++ m ∷ [])) (sym is) (elsewhere (get_or nodes k d) apart (a.events k d low'))
        ];
    unrepeated = repeated_more w.moves m ∙ (λ j. a.unrepeated j ++ repeated_in_event p.node e.kind j);
  }

  pub advances_one : (told told' : List Mark) → told' ≡ told ++ marks → Advances w nodes told (with_move w (step_at p.node e.kind) sends marks) (set nodes place q) told'
  advances_one told told' told_is = record {
    audited = audited;
    count = refl;
    start = refl;
    moves = m ∷ [];
    goes_on = refl;
    told_are = told_is ∙ ap (λ (ms : List Mark). told ++ ms) (sym (append-nil marks));
    taken = map-set_same taken_of nodes place q p (taken_is ∙ ap taken_of at);
    kept = map-set_same (λ (p : ProgressState). p.kept) nodes place q p (kept_is ∙ ap (λ (p : ProgressState). p.kept) at);
  }

pub advances_none : (w : WorldState) (nodes : List ProgressState) (told : List Mark) → IsAudited w nodes → Advances w nodes told w nodes told
advances_none w nodes told a = record {
  audited = a;
  count = refl;
  start = refl;
  moves = [];
  goes_on = sym (append-nil w.moves);
  told_are = sym (append-nil told);
  taken = refl;
  kept = refl;
}

pub advances_then : (w v u : WorldState) (nodes nodes' nodes'' : List ProgressState) (told told' told'' : List Mark)
    → Advances w nodes told v nodes' told' → Advances v nodes' told' u nodes'' told'' → Advances w nodes told u nodes'' told''
advances_then w v u nodes nodes' nodes'' told told' told'' a b = record {
  audited = b.audited;
  count = b.count ∙ a.count;
  start = b.start ∙ a.start;
  moves = a.moves ++ b.moves;
  goes_on = b.goes_on ∙ ap (λ (ms : List Move). ms ++ b.moves) a.goes_on ∙ append_assoc w.moves a.moves b.moves;
  told_are =
      b.told_are ∙ ap (λ (ms : List Mark). ms ++ marks_of b.moves) a.told_are ∙ append_assoc told (marks_of a.moves) (marks_of b.moves)
      ∙ ap (λ (ms : List Mark). told ++ ms) (sym (marks_append a.moves b.moves));
  taken = b.taken ∙ a.taken;
  kept = b.kept ∙ a.kept;
}

-- the step of an event loses nothing
pub nothing_lost_by : (w new : WorldState) (step : Step) (node : ℕ) (e : BookEvent) (sends : List Message) (marks : List Mark) → step ≡ step_at node e.kind → new ≡ with_move w step sends marks
    → lost_by new.moves ≡ lost_by w.moves
nothing_lost_by w new step node e sends marks step_is new_is =
    let m : Move = record { step = step; sends = sends; marks = marks } in
    ap (λ (v : WorldState). lost_by v.moves) new_is
    ∙ lost_more w.moves m
    ∙ ap (λ (ms : List Message). lost_by w.moves ++ ms) (ap lost_in step_is ∙ lost_in_event node e.kind)
    ∙ append-nil (lost_by w.moves)

-- ---- Which events can be put

-- a frame of the node at this place can be put if the node's settled events come to its clock
pub due_at : (nodes : List ProgressState) (n place from clock : ℕ) (p : ProgressState) → map (λ p. p.node) nodes ≡ range_with_len 1 n → place + 1 ≡ from → place < length nodes
    → p ≡ get_or nodes place p → clock ≤ clock_of p.settled → All (λ q. q.node ≡ from → clock ≤ clock_of q.settled) nodes
due_at nodes n place from clock p numbers number within at reached k d low is =
    let same : place ≡ k = omega (arith, number, is, number_of nodes n k d numbers low) in
    let here : p ≡ get_or nodes k d = at ∙ get_or_default nodes place p d within ∙ ap (λ (i : ℕ). get_or nodes i d) same in
    subst (λ (q : ProgressState). clock ≤ clock_of q.settled) here reached

pub due_from : (nodes : List ProgressState) (n place from clock : ℕ) (p : ProgressState) → map (λ p. p.node) nodes ≡ range_with_len 1 n → place + 1 ≡ from → place < length nodes
    → p ≡ get_or nodes place p → All (λ q. q.node ≡ from → clock ≤ clock_of q.settled) nodes → clock ≤ clock_of p.settled
due_from nodes n place from clock p numbers number within at all =
    subst (λ (q : ProgressState). clock ≤ clock_of q.settled) (sym at)
    (all place p within (number_of nodes n place p numbers within ∙ number))

-- ---- An event that does not fit

pub misfit_at : (w : WorldState) (nodes : List ProgressState) (place : ℕ) (p : ProgressState) (fault : AuditFault) → place < length nodes → p ≡ get_or nodes place p
    → p.node ≡ fault.node → slice_get p.waiting 0 ≡ Some fault.event → IsReady nodes p
    → (FitsRun w nodes fault.node fault.event.kind → ⊥) → IsMisfit w nodes fault
misfit_at w nodes place p fault within at node is ready misfit = record {
  at_node = (place, p, within, sym at, (node, is));
  due = subst (λ (e : BookEvent). IsDue nodes e.kind) (same_Some ready.0 fault.event (sym ready.1 ∙ is)) ready.2;
  misfit = misfit;
}

-- a frame whose sender is found can be put exactly if its clock is not above the clock of the sender's last settled
-- event
pub due_of_some : (nodes : List ProgressState) (kind : BookKind) (frame : Frame) (n place clock : ℕ) (p : ProgressState) → map (λ p. p.node) nodes ≡ range_with_len 1 n → place + 1 ≡ from_of frame.message
    → true ≡ ltb place (length nodes) → p ≡ get_or nodes place p → clock ≡ clock_of p.settled → kind ≡ Receive frame
    → (IsTrue (leb frame.clock clock) → IsDue nodes kind) × (IsDue nodes kind → IsTrue (leb frame.clock clock))
due_of_some nodes kind frame n place clock p numbers number low at clock_is is =
    let within : place < length nodes = ltb-true place (length nodes) (sym low) in (
      λ t.
          let less : frame.clock ≤ clock = leb-true frame.clock clock t in
          subst (IsDue nodes) (sym is) (due_at nodes n place (from_of frame.message) frame.clock p numbers number within at (omega (arith, less, clock_is))),
      λ due.
          let less : frame.clock ≤ clock_of p.settled = due_from nodes n place (from_of frame.message) frame.clock p numbers number within at (subst (IsDue nodes) is due) in
          le-leb frame.clock clock (omega (arith, less, clock_is)),
    )

-- a frame of a node that does not exist can be put
pub due_of_none : (nodes : List ProgressState) (kind : BookKind) (frame : Frame) (n place : ℕ) → map (λ p. p.node) nodes ≡ range_with_len 1 n → place + 1 ≡ from_of frame.message
    → false ≡ ltb place (length nodes) → kind ≡ Receive frame → (IsTrue true → IsDue nodes kind) × (IsDue nodes kind → IsTrue true)
due_of_none nodes kind frame n place numbers number beyond is =
    let high : length nodes ≤ place = ltb-false place (length nodes) (sym beyond) in (
      λ t. subst (IsDue nodes) (sym is) (λ k d low same. absurd (omega (arith, number, same, low, high, number_of nodes n k d numbers low))),
      λ due. refl,
    )

pub match_none : {X A B : Type 0} (P : X → Type 0) (r : Option X) → (A → B) → MatchOption r A P → MatchOption r B P
match_none P None f h = f h
match_none P (Some x) f h = h

-- ---- What a step leaves

pub advances_step : (w : WorldState) (nodes : List ProgressState) (place : ℕ) (p q : ProgressState) (e : BookEvent) (sends : List Message) (marks : List Mark) (step : Step) (node : ℕ) (new : WorldState)
    (told told' : List Mark) → IsAudited w nodes → place < length nodes → p ≡ get_or nodes place p → IsForNumber p.node e.kind
    → q.node ≡ p.node → q.settled ≡ p.settled ++ e ∷ [] → taken_of q ≡ taken_of p → q.kept ≡ p.kept
    → node ≡ p.node → step ≡ step_at node e.kind → new ≡ with_move w step sends marks → IsRun new.count new.start new.moves → told' ≡ told ++ marks
    → Advances w nodes told new (set nodes place q) told'
advances_step w nodes place p q e sends marks step node new told told' a within at for_node node_is settled_is taken_is kept_is number step_is new_is run told_is =
    let is : new ≡ with_move w (step_at p.node e.kind) sends marks =
    new_is ∙ ap (λ (s : Step). with_move w s sends marks) (step_is ∙ ap (λ (i : ℕ). step_at i e.kind) number)
    in
    subst (λ (v : WorldState). Advances w nodes told v (set nodes place q) told') (sym is)
    (advances_one w nodes place p q e sends marks a within at for_node node_is settled_is taken_is kept_is (subst (λ (v : WorldState). IsRun v.count v.start v.moves) is run) told told' told_is)

pub advances_kept : (w new : WorldState) (nodes nodes' : List ProgressState) (told : List Mark) → IsAudited w nodes → new ≡ w → nodes' ≡ nodes → Advances w nodes told new nodes' told
advances_kept w new nodes nodes' told a same same_nodes =
    subst (λ (v : WorldState). Advances w nodes told v nodes' told) (sym same)
    (subst (λ (ns : List ProgressState). Advances w nodes told w ns told) (sym same_nodes) (advances_none w nodes told a))

same_fault : (a b : AuditFault) → Fault a ≡ Fault b → a ≡ b
same_fault a b e = cc

same_err : (r : Result (Unit {0}) AuditError) (a b : AuditError) → r ≡ Err a → r ≡ Err b → a ≡ b
same_err r a b is e = cc

memory_is_no_fault : (a : AuditFault) → audit.Memory ≡ Fault a → ⊥
memory_is_no_fault a e = cc

-- an event that is refused other than for lack of memory does not fit
pub misfit_of : (w new : WorldState) (nodes nodes' : List ProgressState) (place : ℕ) (p : ProgressState) (node : ℕ) (e : BookEvent) (refused : StepError) (answer : AuditError) (result : Result (Unit {0}) AuditError) (step : Step)
    → result ≡ Err answer
    → new ≡ w → nodes' ≡ nodes → place < length nodes → p ≡ get_or nodes place p → node ≡ p.node → slice_get p.waiting 0 ≡ Some e → IsReady nodes p
    → step ≡ step_at node e.kind → (GoesOn w.count w.start w.moves step → refused ≡ refusal.Memory)
    → (refused ≡ refusal.Memory → answer ≡ audit.Memory) → (refused ≢ refusal.Memory → answer ≡ Fault (record { node = node; event = e }))
    → (fault : AuditFault) → IsErrOf result (Fault fault) → IsMisfit new nodes' fault
misfit_of w new nodes nodes' place p node e refused answer result step result_is same same_nodes within at number is ready step_is allowed memory other fault err =
    let answered : answer ≡ Fault fault = same_err result answer (Fault fault) result_is err in
    let not_memory : refused ≢ refusal.Memory = λ m. memory_is_no_fault fault (sym (memory m) ∙ answered) in
    let f : AuditFault = record { node = node; event = e } in
    let fault_is : f ≡ fault = same_fault f fault (sym (other not_memory) ∙ answered) in
    let no_step : FitsRun w nodes f.node f.event.kind → ⊥ =
    λ fits. not_memory (allowed (subst (GoesOn w.count w.start w.moves) (sym step_is) fits.goes_on))
    in
    subst (IsMisfit new nodes') fault_is
    (subst (λ (v : WorldState). IsMisfit v nodes' f) (sym same)
    (subst (λ (ns : List ProgressState). IsMisfit w ns f) (sym same_nodes) (misfit_at w nodes place p f within at (sym number) is ready no_step)))

-- an event that does not fit, and was not tried
pub misfit_now : (w : WorldState) (nodes nodes' : List ProgressState) (place : ℕ) (p : ProgressState) (node : ℕ) (e : BookEvent) → nodes' ≡ nodes → place < length nodes → p ≡ get_or nodes place p
    → node ≡ p.node → slice_get p.waiting 0 ≡ Some e → IsReady nodes p → (FitsRun w nodes node e.kind → ⊥)
    → (fault : AuditFault) → ◌≡◌ {A = Result (Unit {0}) AuditError} (Err (Fault (record { node = node; event = e }))) (Err (Fault fault)) → IsMisfit w nodes' fault
misfit_now w nodes nodes' place p node e same_nodes within at number is ready misfit fault err =
    let f : AuditFault = record { node = node; event = e } in
    let fault_is : f ≡ fault = cc in
    subst (IsMisfit w nodes') fault_is
    (subst (λ (ns : List ProgressState). IsMisfit w ns f) (sym same_nodes) (misfit_at w nodes place p f within at (sym number) is ready misfit))

-- ---- Taking events

on_ok : (A B : Type 0) (r : Result (Unit {0}) TakeError) → (A → B) → OnOk r A → OnOk r B
on_ok A B (Ok x) f h = f h
on_ok A B (Err e) f h = tt

on_err : (A B : Type 0) (r : Result (Unit {0}) TakeError) → (A → B) → OnErr r A → OnErr r B
on_err A B (Ok x) f h = tt
on_err A B (Err e) f h = f h

pub takes_at : (nodes nodes' : List ProgressState) (node after place : ℕ) (events : List BookEvent) (p q : ProgressState) (answer : Result (Unit {0}) TakeError)
    → place + 1 ≡ node → place < length nodes → p ≡ get_or nodes place p → nodes' ≡ set nodes place q
    → OnOk answer (q ≡ with_more p events)
    → (IsErrOf answer OutOfTurn → after ≢ clock_of (taken_of p)) → (after ≢ clock_of (taken_of p) → IsErrOf answer OutOfTurn)
    → (IsErrOf answer NotNext → (after ≡ clock_of (taken_of p)) × (AreNextAt p.node (clock_of (taken_of p)) events → ⊥))
    → ((after ≡ clock_of (taken_of p)) × (AreNextAt p.node (clock_of (taken_of p)) events → ⊥) → IsErrOf answer NotNext)
    → (IsErrOf answer NoNode → ⊥) → OnErr answer (q ≡ p) → Takes nodes node after events answer nodes'
takes_at nodes nodes' node after place events p q answer number within at new_is ok turn_of of_turn next_of of_next no_node err =
    let place_is : place ≡ node - 1 = omega arith in
    let found : slice_get nodes (node - 1) ≡ Some p = ap (slice_get nodes) (sym place_is) ∙ slice_get_read nodes (length nodes) place p refl within at in
    let same : (r : ProgressState) → slice_get nodes (node - 1) ≡ Some r → r ≡ p = λ r is. same_Some r p (sym is ∙ found) in
    record {
      ok = on_ok (q ≡ with_more p events) (AtNumber nodes node (λ p. nodes' ≡ set nodes (node - 1) (with_more p events))) answer (λ is. (p, found, new_is ∙ (λ j. set nodes (place_is j) (is j)))) ok;
      no_node = (λ is. absurd (no_node is), λ high. absurd (omega (arith, number, within, high)));
      out_of_turn = (
        λ is. (p, found, turn_of is),
        λ there. of_turn (subst (λ (r : ProgressState). after ≢ clock_of (taken_of r)) (same there.0 there.1) there.2),
      );
      not_next = (
        λ is. (p, found, next_of is),
        λ there. of_next (subst (λ (r : ProgressState). (after ≡ clock_of (taken_of r)) × (AreNextAt r.node (clock_of (taken_of r)) events → ⊥)) (same there.0 there.1) there.2),
      );
      err = on_err (q ≡ p) (nodes' ≡ nodes) answer (λ is. new_is ∙ ap (set nodes place) (is ∙ at) ∙ set-get_or nodes place p) err;
    }

pub taken_audited : (w : WorldState) (nodes nodes' : List ProgressState) (node after : ℕ) (events : List BookEvent) (answer : Result (Unit {0}) TakeError)
    → IsAudited w nodes → Takes nodes node after events answer nodes' → IsAudited w nodes'
taken_audited w nodes nodes' node after events answer a takes = of answer takes.ok takes.err
  where
    of : (answer : Result (Unit {0}) TakeError) → OnOk answer (AtNumber nodes node (λ p. nodes' ≡ set nodes (node - 1) (with_more p events))) → OnErr answer (nodes' ≡ nodes) → IsAudited w nodes'
    of (Err e) ok err = subst (IsAudited w) (sym err) a
    of (Ok x) ok err =
        let p = ok.0 in
        let found = ok.1 in
        let is = ok.2 in
        let within : node - 1 < length nodes = slice_get_within nodes (node - 1) p found in
        let at : get_or nodes (node - 1) p ≡ p = get_or_from_slice_get nodes (node - 1) p p found in
        subst (IsAudited w) (sym is) (record {
          count = a.count;
          run = a.run;
          numbers = map-set_same (λ (p : ProgressState). p.node) nodes (node - 1) (with_more p events) p (ap (λ (x : ProgressState). x.node) (sym at)) ∙ a.numbers;
          events = All-set (HasSettled w.moves) nodes (node - 1) (with_more p events) (subst (HasSettled w.moves) at (a.events (node - 1) p within)) a.events;
          unrepeated = a.unrepeated;
        })

pub handed_audited : (w : WorldState) (nodes nodes' : List ProgressState) (losing losing' : List Frame) (node : ℕ) (answer : Result (Unit {0}) TakeError) → IsAudited w nodes
    → TakesHanded nodes losing node answer nodes' losing' → IsAudited w nodes'
handed_audited w nodes nodes' losing losing' node answer a (inl none) = subst (IsAudited w) (sym none.2) a
handed_audited w nodes nodes' losing losing' node answer a (inr some) =
    let p = some.0 in
    let found = some.1 in
    let q = some.2.0 in
    let from = some.2.2.goes_on in
    let settled = some.2.2.settled in
    let is = some.2.3 in
    let within : node - 1 < length nodes = slice_get_within nodes (node - 1) p found in
    let at : get_or nodes (node - 1) p ≡ p = get_or_from_slice_get nodes (node - 1) p p found in
    let old : HasSettled w.moves p = subst (HasSettled w.moves) at (a.events (node - 1) p within) in
    let new : HasSettled w.moves q =
    ap (λ (i : ℕ). map (λ h. h.event) (happened_at i w.moves)) from.node ∙ old ∙ ap (map (λ (e : BookEvent). node_event e.kind)) (sym settled)
    in
    subst (IsAudited w) (sym is) (record {
      count = a.count;
      run = a.run;
      numbers = map-set_same (λ (p : ProgressState). p.node) nodes (node - 1) q p (from.node ∙ ap (λ (x : ProgressState). x.node) (sym at)) ∙ a.numbers;
      events = All-set (HasSettled w.moves) nodes (node - 1) q new a.events;
      unrepeated = a.unrepeated;
    })

-- ---- The first moment

fresh_numbers : (xs : List ℕ) → map (λ p. p.node) (map fresh_progress xs) ≡ xs
fresh_numbers [] = refl
fresh_numbers (x ∷ xs) = ap (λ (ys : List ℕ). x ∷ ys) (fresh_numbers xs)

pub audited_at_first : (n start : ℕ) (w : WorldState) → IsNodeNumber n → IsRun w.count w.start w.moves → w ≡ record { count = n; start = start; moves = [] } → (nodes : List ProgressState)
    → nodes ≡ map fresh_progress (range_with_len 1 n) → IsAudited w nodes
audited_at_first n start w count run is nodes nodes_are =
    let first : WorldState = record { count = n; start = start; moves = [] } in
    subst (λ (v : WorldState). IsAudited v nodes) (sym is)
    (subst (IsAudited first) (sym nodes_are) (record {
      count = count;
      run = subst (λ (v : WorldState). IsRun v.count v.start v.moves) is run;
      numbers = fresh_numbers (range_with_len 1 n);
      events = All-map (HasSettled []) fresh_progress (range_with_len 1 n) (λ k d low. refl);
      unrepeated = refl;
    }))

pub fresh_more : (n : ℕ) (nodes : List ProgressState) → nodes ≡ map fresh_progress (range_with_len 1 n) → nodes ++ fresh_progress (n + 1) ∷ [] ≡ map fresh_progress (range_with_len 1 (n + 1))
fresh_more n nodes are =
    ap (λ (ps : List ProgressState). ps ++ fresh_progress (n + 1) ∷ []) are
    ∙ sym (map-range_with_len_more fresh_progress 1 n (n + 1) (omega arith))

-- a slice of all of a list, written back
pub slice_back : (many : ℕ) (new items : List ProgressState) → many ≡ length items → length new ≡ length items → take many (new ++ drop (length new) items) ≡ new
slice_back many new items all same =
    ap (λ (xs : List ProgressState). take many (new ++ xs)) (nil_from_length (drop (length new) items) (length-drop (length new) items ∙ omega (arith, same)))
    ∙ ap (take many) (append-nil new)
    ∙ take_all many new (omega (arith, all, same))

pub on_done : (A B : Type 0) (r : Result (Unit {0}) AuditError) → (A → B) → OnOk r A → OnOk r B
on_done A B (Ok x) f h = f h
on_done A B (Err e) f h = tt
