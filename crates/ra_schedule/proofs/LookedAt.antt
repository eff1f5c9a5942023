-- What a look at one client tells: whether it is enabled, and at which names it is.
use Rattle.std.proofs.Common.{◌≡◌, ◌≢◌, ◌<◌, ◌≤◌, ◌+◌, ◌-◌, ℕ, Bool, false, List, Option, Some, None, length, get_or, set, refl, sym, ap, ◌∙◌, subst, arith}
use Rattle.std.specs.Prelude.{slice_get, option_map, option_and_then, IsNone, IfSome}
use Rattle.std.specs.Option.{is_some}
use Rattle.std.proofs.lemmas.Bool.{false≢true}
use Rattle.std.proofs.lemmas.List.{get_or-set_other}
use Rattle.std.proofs.lemmas.Grind.{get_or-set_at}
use Rattle.ra_world.specs.Traffic.{Move}
use Rattle.ra_world.specs.Run.{GoesOn}
use Rattle.ra_world.specs.World.{WorldState}
use Rattle.ra_world.specs.declared.step.Step.{Step}
use Rattle.ra_schedule.specs.declared.driver.client_progress.Progress.{Progress}
use Rattle.ra_schedule.specs.declared.script.Op.{Op}
use Rattle.ra_schedule.specs.Script.{ScriptClient, ScriptState, client_at, op_at}
use Rattle.ra_schedule.specs.Progress.{IsProgress, Tracks}
use Rattle.ra_schedule.specs.Schedule.{Enables, IsEnabled, steps_by, steps_of, step_of}
use Rattle.ra_schedule.specs.Enabled.{IsFlag}

-- whether a step was found says whether the client is enabled
pub flag_of : (script : ScriptState) (moves : List Move) (client : ℕ) (found : Option Step) → IfSome found (Enables script moves client)
    → (IsNone found → IsEnabled script moves client → ⊥) → IsFlag script moves client (is_some found)
flag_of script moves client (Some step) enables none = (λ on. (step, enables), λ enabled. refl)
flag_of script moves client None enables none = (λ on. absurd (false≢true on), λ enabled. absurd (none refl enabled))

-- the flag of the client that was looked at is set so
pub flag_set : (script : ScriptState) (moves : List Move) (flags new : List Bool) (client k : ℕ) (d on : Bool) (found : Option Step) → on ≡ is_some found
    → IfSome found (Enables script moves client) → (IsNone found → IsEnabled script moves client → ⊥) → new ≡ set flags (client - 1) on
    → k < length flags → k + 1 ≡ client → IsFlag script moves (k + 1) (get_or new k d)
flag_set script moves flags new client k d on found is enables none set-is within at =
    let there : get_or new k d ≡ is_some found = ap (λ (xs : List Bool). get_or xs k d) set-is ∙ get_or-set_at flags (client - 1) k on d (omega (arith, at)) (omega (arith, at, within)) ∙ is in
    subst (IsFlag script moves (k + 1)) (sym there)
    (subst (λ (n : ℕ). IsFlag script moves n (is_some found)) (sym at) (flag_of script moves client found enables none))

-- the flags of the others are as they were
pub flags_kept : (flags new : List Bool) (client k : ℕ) (d on : Bool) → new ≡ set flags (client - 1) on → 1 ≤ client → k + 1 ≢ client → get_or new k d ≡ get_or flags k d
flags_kept flags new client k d on set-is first other =
    ap (λ (xs : List Bool). get_or xs k d) set-is ∙ get_or-set_other flags (client - 1) k on d (λ e. other (omega (arith, first, e)))

-- a client that is not of the script has no next step
pub no_client : (x : Option ScriptClient) (who : ScriptClient) → None ≡ option_map (λ (c : ScriptClient). c.node) x → x ≡ Some who → ⊥
no_client (Some client) who none is = absurd cc
no_client None who none is = absurd cc

-- nor has one that did all
pub no_op : (script : ScriptState) (client done steps : ℕ) (who : ScriptClient) (op : Op) → None ≡ op_at script client done → done ≡ steps → client_at script client ≡ Some who
    → slice_get who.ops steps ≡ Some op → ⊥
no_op script client done steps who op none is at got =
    let clash : None ≡ Some op = none ∙ ap (option_and_then (λ (c : ScriptClient). slice_get c.ops done)) at ∙ ap (slice_get who.ops) is ∙ got in
    absurd cc

-- the client whose node and operation were looked up, and its next step
next_of : (found : Option ScriptClient) (node : ℕ) (op : Op) (done steps : ℕ) → Some node ≡ option_map (λ (c : ScriptClient). c.node) found
    → Some op ≡ option_and_then (λ (c : ScriptClient). slice_get c.ops done) found → done ≡ steps
    → (who : ScriptClient) × (found ≡ Some who) × (who.node ≡ node) × (slice_get who.ops steps ≡ Some op)
next_of (Some who) node op done steps at got same = (who, refl, node_is who.node node at, sym (got ∙ ap (slice_get who.ops) same))
  where
    node_is : (own node : ℕ) → Some node ≡ Some own → own ≡ node
    node_is own node e = cc
next_of None node op done steps at got same = absurd cc

one_client : (x : Option ScriptClient) (who other : ScriptClient) → x ≡ Some who → x ≡ Some other → who ≡ other
one_client x who other is is' = cc

one_op : (x : Option Op) (op other : Op) → x ≡ Some op → x ≡ Some other → op ≡ other
one_op x op other is is' = cc

-- a client that does not wait is enabled if the run goes on with its next step
pub enables : (script : ScriptState) (world : WorldState) (client : ℕ) (progress : Progress) (node : ℕ) (op : Op) (step : Step)
    → world.count ≡ script.nodes → world.start ≡ 0 → IsProgress client world.moves progress → progress.waiting ≡ false
    → Some node ≡ option_map (λ (c : ScriptClient). c.node) (client_at script client) → Some op ≡ op_at script client progress.done
    → step ≡ step_of node client op → GoesOn world.count world.start world.moves step → Enables script world.moves client step
enables script world client progress node op step count start is free at got made goes_on =
    let (who, at_it, node_is, next) = next_of (client_at script client) node op progress.done _ at got is.done in record {
      next = (who, op, at_it, next, made ∙ ap (λ (n : ℕ). step_of n client op) (sym node_is));
      free = λ waits. false≢true (sym free ∙ is.waiting.1 waits);
      goes_on =
          subst (λ (s : ℕ). GoesOn script.nodes s world.moves step) start
          (subst (λ (n : ℕ). GoesOn n world.start world.moves step) count goes_on);
    }

-- it is not enabled if the run does not go on with it
pub refused : (script : ScriptState) (world : WorldState) (client : ℕ) (progress : Progress) (node : ℕ) (op : Op) (step : Step)
    → world.count ≡ script.nodes → world.start ≡ 0 → IsProgress client world.moves progress
    → Some node ≡ option_map (λ (c : ScriptClient). c.node) (client_at script client) → Some op ≡ op_at script client progress.done
    → step ≡ step_of node client op → (GoesOn world.count world.start world.moves step → ⊥) → IsEnabled script world.moves client → ⊥
refused script world client progress node op step count start is at got made not (other, on) =
    let (who, at_it, node_is, next) = next_of (client_at script client) node op progress.done _ at got is.done in
    let (him, his, at_him, is_next, his_step) = on.next in
    let same : him ≡ who = one_client (client_at script client) him who at_him at_it in
    let same_op : his ≡ op = one_op (slice_get him.ops (steps_by client (steps_of world.moves))) his op is_next
    (ap (λ (w : ScriptClient). slice_get w.ops (steps_by client (steps_of world.moves))) same ∙ next) in
    let step_is : other ≡ step = his_step ∙ ap (λ (n : ℕ). step_of n client his) (ap (λ (w : ScriptClient). w.node) same ∙ node_is)
    ∙ ap (step_of node client) same_op ∙ sym made in
    not (subst (λ (s : ℕ). GoesOn world.count s world.moves step) (sym start)
    (subst (λ (n : ℕ). GoesOn n 0 world.moves step) (sym count) (subst (GoesOn script.nodes 0 world.moves) step_is on.goes_on)))

-- the progress of a client of the script, by its number
pub looked_at : (script : ScriptState) (world : WorldState) (clients : List Progress) (client count : ℕ) (d : Progress) → Tracks script world clients
    → 1 ≤ client → client ≤ count → count ≡ length script.clients → IsProgress client world.moves (get_or clients (client - 1) d)
looked_at script world clients client count d tracks first last is =
    let number : client - 1 + 1 ≡ client = omega (arith, first) in
    let long = tracks.length_is in
    subst (λ (n : ℕ). IsProgress n world.moves (get_or clients (client - 1) d)) number
    (tracks.each (client - 1) d (omega (arith, first, last, is, long)))
