-- If a plan is met, there is a request for each lock of the script, and each was granted: so none waits.
use Rattle.std.proofs.Common.{◌≡◌, ℕ, suc, ◌+◌, ◌-◌, ◌*◌, ◌<◌, ◌≤◌, Bool, true, false, cond, eqb, ltb, List, [], ◌∷◌, length, get_or, Option, sum_by, All, refl, sym, ap, ◌∙◌, subst, arith}
use Rattle.std.specs.List.{filter}
use Rattle.std.proofs.lemmas.Bool.{le-ltb}
use Rattle.std.proofs.lemmas.Bool.Decides.{nat_tests}
use Rattle.std.proofs.lemmas.List.{length-append}
use Rattle.std.proofs.lemmas.List.Sums.{sum_by-cons}
use Rattle.std.proofs.lemmas.Option.{slice_get-get_or}
use Rattle.ra_stamp.specs.declared.entry.Entry.{Entry}
use Rattle.ra_stamp.specs.declared.entry.Mark.{Mark}
use Rattle.ra_stamp.specs.declared.entry.Mark.TheVariants.{Requested, Entered, Left, Withdrawn}
use Rattle.ra_table.specs.Table.{LockTable, Gains, TableSteps, TableRun, empty_table}
use Rattle.ra_schedule.specs.declared.script.Op.{Op}
use Rattle.ra_schedule.specs.declared.script.Op.TheVariants.{Lock, Unlock}
use Rattle.ra_schedule.specs.Script.{ScriptState, ScriptClient}
use Rattle.ra_world.specs.declared.text.report.Report.{Report}
use Rattle.ra_world.specs.Traffic.{Move}
use Rattle.ra_world.specs.World.{Reports}
use Rattle.ra_world.specs.MainTheorem.{MainTheorem}
use Rattle.ra_world.specs.Quiet.{requests_in, withdrawn_in}
use Rattle.ra_cluster.specs.Plan.{client_of_mark, marks_of_client, FollowsOps, MeetsPlanOf, MeetsPlan, IsQuietEnd, locks_in, locks_of}
use Rattle.ra_cluster.proofs.Planned.{filter_none, met_names}

-- ---- The weight of marks

abbrev weight : (Mark → ℕ) → List Mark → ℕ
weight w [] = 0
weight w (mark ∷ marks) = w mark + weight w marks

-- 1 for each request
abbrev request : Mark → ℕ
request (Requested entry) = 1
request (Entered entry) = 0
request (Left entry) = 0
request (Withdrawn entry) = 0

-- for each request that waits no longer
abbrev no_longer : Mark → ℕ
no_longer (Requested entry) = 0
no_longer (Entered entry) = 1
no_longer (Left entry) = 0
no_longer (Withdrawn entry) = 1

-- and for each request and each withdrawal
abbrev request_or_withdrawal : Mark → ℕ
request_or_withdrawal (Requested entry) = 1
request_or_withdrawal (Entered entry) = 0
request_or_withdrawal (Left entry) = 0
request_or_withdrawal (Withdrawn entry) = 1

requests_are : (marks : List Mark) → requests_in marks ≡ weight request marks
requests_are [] = refl
requests_are (Requested entry ∷ marks) = omega (arith, requests_are marks)
requests_are (Entered entry ∷ marks) = omega (arith, requests_are marks)
requests_are (Left entry ∷ marks) = omega (arith, requests_are marks)
requests_are (Withdrawn entry ∷ marks) = omega (arith, requests_are marks)

both_are : (marks : List Mark) → requests_in marks + withdrawn_in marks ≡ weight request_or_withdrawal marks
both_are [] = refl
both_are (Requested entry ∷ marks) = omega (arith, both_are marks)
both_are (Entered entry ∷ marks) = omega (arith, both_are marks)
both_are (Left entry ∷ marks) = omega (arith, both_are marks)
both_are (Withdrawn entry ∷ marks) = omega (arith, both_are marks)

-- ---- Of the lock table

gained : (old : List Entry) (e : Entry) (new : List Entry) → Gains old e new → length new ≡ length old + 1
gained old e new (prefix, suffix, old_is, new_is) =
    omega (arith, ap length old_is, ap length new_is, length-append prefix suffix, length-append prefix (e ∷ suffix))

-- a request waits until it is granted or withdrawn
waiting_after : (marks : List Mark) (old new : LockTable) → TableSteps old marks new
    → length new.waiting + weight no_longer marks ≡ length old.waiting + weight request marks
waiting_after [] old new same = omega (arith, ap (λ (t : LockTable). length t.waiting) same)
waiting_after (Requested e ∷ marks) old new (next, step, rest) =
    omega (arith, gained old.waiting e next.waiting step.1, waiting_after marks next new rest)
waiting_after (Entered e ∷ marks) old new (next, step, rest) =
    omega (arith, gained next.waiting e old.waiting step.1, waiting_after marks next new rest)
waiting_after (Left e ∷ marks) old new (next, step, rest) =
    omega (arith, ap length step.1, waiting_after marks next new rest)
waiting_after (Withdrawn e ∷ marks) old new (next, step, rest) =
    omega (arith, gained next.waiting e old.waiting step.1, waiting_after marks next new rest)

-- ---- Of one client

-- the marks of a client weigh as much as its locks
abbrev CountsLocks : (Mark → ℕ) → Type 0
CountsLocks w = (node : ℕ) (ops : List Op) (marks : List Mark) → FollowsOps node ops marks → weight w marks ≡ locks_in ops

-- they do if a request and a grant weigh 1 together, and a release 0
counts_locks : (w : Mark → ℕ) → ((a b : Entry) → w (Requested a) + w (Entered b) ≡ 1) → ((a : Entry) → w (Left a) ≡ 0) → CountsLocks w
counts_locks w lock unlock node [] [] h = refl
counts_locks w lock unlock node [] (mark ∷ marks) h = absurd h
counts_locks w lock unlock node (Lock name mode ∷ ops) [] h = absurd h
counts_locks w lock unlock node (Lock name mode ∷ ops) (mark ∷ []) h = absurd h
counts_locks w lock unlock node (Lock name mode ∷ ops) (Requested a ∷ Requested b ∷ marks) h = absurd h.1
counts_locks w lock unlock node (Lock name mode ∷ ops) (Requested a ∷ Entered b ∷ marks) h = omega (arith, lock a b, counts_locks w lock unlock node ops marks h.2)
counts_locks w lock unlock node (Lock name mode ∷ ops) (Requested a ∷ Left b ∷ marks) h = absurd h.1
counts_locks w lock unlock node (Lock name mode ∷ ops) (Requested a ∷ Withdrawn b ∷ marks) h = absurd h.1
counts_locks w lock unlock node (Lock name mode ∷ ops) (Entered a ∷ mark ∷ marks) h = absurd h.0
counts_locks w lock unlock node (Lock name mode ∷ ops) (Left a ∷ mark ∷ marks) h = absurd h.0
counts_locks w lock unlock node (Lock name mode ∷ ops) (Withdrawn a ∷ mark ∷ marks) h = absurd h.0
counts_locks w lock unlock node (Unlock name ∷ ops) [] h = absurd h
counts_locks w lock unlock node (Unlock name ∷ ops) (Requested a ∷ marks) h = absurd h.0
counts_locks w lock unlock node (Unlock name ∷ ops) (Entered a ∷ marks) h = absurd h.0
counts_locks w lock unlock node (Unlock name ∷ ops) (Left a ∷ marks) h = omega (arith, unlock a, counts_locks w lock unlock node ops marks h.1)
counts_locks w lock unlock node (Unlock name ∷ ops) (Withdrawn a ∷ marks) h = absurd h.0

-- ---- Of all clients

-- the marks of all clients above a number
abbrev above : ℕ → List Mark → List Mark
above j marks = filter (λ mark. ltb j (client_of_mark mark)) marks

weight_kept : (w : Mark → ℕ) (b : Bool) (mark : Mark) (marks : List Mark)
    → weight w (cond b (mark ∷ marks) marks) ≡ cond b (w mark) 0 + weight w marks
weight_kept w true mark marks = refl
weight_kept w false mark marks = omega arith

-- a number above j is the next one, or above that
one_place : (client j i x : ℕ) → i ≡ j + 1 → cond (ltb j client) x 0 ≡ cond (eqb client i) x 0 + cond (ltb i client) x 0
one_place client j i x e = grind (arith, nat_tests)

above_is : (w : Mark → ℕ) (j i : ℕ) (marks : List Mark) → i ≡ j + 1
    → weight w (above j marks) ≡ weight w (marks_of_client i marks) + weight w (above i marks)
above_is w j i [] e = refl
above_is w j i (mark ∷ marks) e =
    let client = client_of_mark mark in
    omega (arith, weight_kept w (ltb j client) mark (above j marks), weight_kept w (eqb client i) mark (marks_of_client i marks), weight_kept w (ltb i client) mark (above i marks), one_place client j i (w mark) e, above_is w j i marks e)

above_all : (w : Mark → ℕ) (marks : List Mark) → All (λ mark. 1 ≤ client_of_mark mark) marks → weight w (above 0 marks) ≡ weight w marks
above_all w [] all = refl
above_all w (mark ∷ marks) all =
    let client = client_of_mark mark in
    let first : 1 ≤ client = all 0 mark (omega arith) in
    let kept : cond (ltb 0 client) (w mark) 0 ≡ w mark = grind (arith, nat_tests) in
    omega (arith, weight_kept w (ltb 0 client) mark (above 0 marks), kept, above_all w marks (λ k d low. all (suc k) d (omega (arith, low))))

above_none : (j : ℕ) (marks : List Mark) → All (λ mark. client_of_mark mark ≤ j) marks → above j marks ≡ []
above_none j marks all = filter_none (λ mark. ltb j (client_of_mark mark)) marks (λ k d low. le-ltb j (client_of_mark (get_or marks k d)) (all k d low))

-- the clients after number j, whose marks have the weight of their locks
counted : (w : Mark → ℕ) (marks : List Mark) (clients : List ScriptClient) (j : ℕ)
    → All (λ mark. client_of_mark mark ≤ j + length clients) marks
    → ((k i : ℕ) (d : ScriptClient) → k < length clients → i ≡ j + k + 1 → weight w (marks_of_client i marks) ≡ locks_in (get_or clients k d).ops)
    → weight w (above j marks) ≡ sum_by (λ c. locks_in c.ops) clients
counted w marks [] j within each = ap (weight w) (above_none j marks (λ k d low. omega (arith, within k d low)))
counted w marks (c ∷ clients) j within each =
    let next = j + 1 in
    let here : weight w (marks_of_client next marks) ≡ locks_in c.ops = each 0 next c (omega arith) (omega arith) in
    let rest : weight w (above next marks) ≡ sum_by (λ c. locks_in c.ops) clients =
    counted w marks clients next (λ k d low. omega (arith, within k d low)) (λ k i d low is. each (suc k) i d (omega (arith, low)) (omega (arith, is))) in
    omega (arith, above_is w j next marks refl, here, rest, sum_by-cons (λ (x : ScriptClient). locks_in x.ops) c clients)

-- all marks of a plan that is met have the weight of its locks
met_weight : (w : Mark → ℕ) → CountsLocks w → (script : ScriptState) (marks : List Mark) → MeetsPlan script marks → weight w marks ≡ locks_of script
met_weight w counts script marks met =
    let names = met_names script marks (length script.clients) refl met in
    sym (above_all w marks (λ k d low. (names k d low).0))
    ∙ counted w marks script.clients 0 (λ k d low. omega (arith, (names k d low).1))
    (λ k i d low is.
    let c = get_or script.clients k d in
    let same : suc k ≡ i = omega (arith, is) in
    let follows : FollowsOps c.node c.ops (marks_of_client (suc k) marks) =
    subst (λ (o : Option ScriptClient). MeetsPlanOf o (marks_of_client (suc k) marks)) (slice_get-get_or script.clients k d low) (met (suc k)) in
    subst (λ (n : ℕ). weight w (marks_of_client n marks) ≡ locks_in c.ops) same (counts c.node c.ops (marks_of_client (suc k) marks) follows))

-- ---- Of a report

pub requests_of_plan : (script : ScriptState) (marks : List Mark) → MeetsPlan script marks → requests_in marks ≡ locks_of script
requests_of_plan script marks met = requests_are marks ∙ met_weight request (counts_locks request (λ _ _. refl) (λ _. refl)) script marks met

none_withdrawn : (script : ScriptState) (marks : List Mark) → MeetsPlan script marks → withdrawn_in marks ≡ 0
none_withdrawn script marks met =
    omega (
      arith,
      both_are marks,
      met_weight request_or_withdrawal (counts_locks request_or_withdrawal (λ _ _. refl) (λ _. refl)) script marks met,
      requests_of_plan script marks met,
    )

none_waits : (script : ScriptState) (marks : List Mark) (table : LockTable) → MeetsPlan script marks → TableRun marks table → length table.waiting ≡ 0
none_waits script marks table met run =
    omega (
      arith,
      waiting_after marks empty_table table run,
      met_weight request (counts_locks request (λ _ _. refl) (λ _. refl)) script marks met,
      met_weight no_longer (counts_locks no_longer (λ _ _. refl) (λ _. refl)) script marks met,
    )

-- a report with these marks
pub waits_for_none : (n : ℕ) (script : ScriptState) (report : Report) → MainTheorem n report → MeetsPlan script report.marks.items → report.waiting ≡ 0
waits_for_none n script report main met =
    sym (main.waiting main.table_run.0 main.table_run.1) ∙ none_waits script report.marks.items main.table_run.0 met main.table_run.1

pub requests_are_locks : (n start : ℕ) (moves : List Move) (script : ScriptState) (report : Report) → Reports n start moves report → MeetsPlan script report.marks.items → report.requests ≡ locks_of script
requests_are_locks n start moves script report reports met =
    reports.requests ∙ ap requests_in (sym reports.marks) ∙ requests_of_plan script report.marks.items met

pub withdraws_none : (n start : ℕ) (moves : List Move) (script : ScriptState) (report : Report) → Reports n start moves report → MeetsPlan script report.marks.items → report.withdrawn ≡ 0
withdraws_none n start moves script report reports met =
    reports.withdrawn ∙ ap withdrawn_in (sym reports.marks) ∙ none_withdrawn script report.marks.items met

pub messages_are : (n : ℕ) (script : ScriptState) (report : Report) → MainTheorem n report → IsQuietEnd report → report.repeated ≡ 0 → report.withdrawn ≡ 0
    → MeetsPlan script report.marks.items → report.requests ≡ locks_of script → report.sent ≡ 2 * (n - 1) * locks_of script
messages_are n script report main quiet unrepeated unwithdrawn met requests =
    main.count (record { none_lost = quiet.lost; none_under_way = quiet.under_way }) unrepeated unwithdrawn (waits_for_none n script report main met)
    ∙ ap (λ (r : ℕ). 2 * (n - 1) * r) requests
