-- What the clients are at, and their lines one after the other.
use Rattle.std.proofs.Common.{◌≡◌, ℕ, zero, suc, ◌+◌, ◌<◌, List, [], ◌∷◌, ◌++◌, length, Option, Some, None, IsTrue, refl, sym, ap, ◌∙◌, subst, arith}
use Rattle.std.specs.Prelude.{◌↔◌, Bool, option_map, slice_get}
use Rattle.ra_world.specs.Traffic.{Move}
use Rattle.ra_schedule.specs.declared.driver.client_state.ClientState.{ClientState}
use Rattle.ra_schedule.specs.declared.driver.client_state.ClientState.TheVariants.{Done, Next}
use Rattle.ra_schedule.specs.declared.driver.client_progress.Progress.{Progress}
use Rattle.ra_schedule.specs.declared.script.Op.{Op}
use Rattle.ra_schedule.specs.Progress.{IsProgress}
use Rattle.ra_schedule.specs.Schedule.{IsEnabled}
use Rattle.ra_schedule.specs.Script.{ScriptClient, ScriptState, client_at, op_at}
use Rattle.ra_schedule.specs.StateText.{AreClientLines, IsClientState, IsClientLine, client_line}

-- ---- What a client is at

module _ (script : ScriptState) (moves : List Move) (client : ℕ) (progress : Progress) (is : IsProgress client moves progress) (free : IsTrue progress.waiting → ⊥) where
  pub is_done : op_at script client progress.done ≡ None → IsClientState script moves client Done
  is_done none = (λ waits. free (is.waiting.1 waits), ap (op_at script client) (sym is.done) ∙ none)

  pub is_next : (op : Op) (enabled : Bool) → op_at script client progress.done ≡ Some op → IsTrue enabled ↔ IsEnabled script moves client
      → IsClientState script moves client (Next op enabled)
  is_next op enabled some tells = (λ waits. free (is.waiting.1 waits), ap (op_at script client) (sym is.done) ∙ some, tells)

-- ---- Lines

-- the client of a node
pub client_with : (script : ScriptState) (client node : ℕ) → option_map (λ c. c.node) (client_at script client) ≡ Some node
    → (who : ScriptClient) × (client_at script client ≡ Some who) × (who.node ≡ node)
client_with script client node is = by (client_at script client) refl is
  where
    by : (o : Option ScriptClient) → client_at script client ≡ o → option_map (λ c. c.node) o ≡ Some node
        → (who : ScriptClient) × (client_at script client ≡ Some who) × (who.node ≡ node)
    by None at e = absurd cc
    by (Some who) at e = (who, at, cc)

-- the line of a client at one of the script's nodes
pub line_of : (script : ScriptState) (moves : List Move) (client node : ℕ) (state : ClientState) → option_map (λ c. c.node) (client_at script client) ≡ Some node
    → IsClientState script moves client state → IsClientLine script moves client (client_line client node state)
line_of script moves client node state is at =
    let (who, there, node_is) = client_with script client node is in
    record {
      who = who;
      is_client = there;
      state = state;
      is_at = at;
      line_is = ap (λ (n : ℕ). client_line client n state) (sym node_is);
    }

-- the line of the next client is added
pub next_line : (script : ScriptState) (moves : List Move) (count client : ℕ) (text line new : List ℕ) → client ≡ count + 1 → AreClientLines script moves count text
    → IsClientLine script moves client line → new ≡ text ++ line → AreClientLines script moves (count + 1) new
next_line script moves count client text line new is so_far this more =
    let same : suc count ≡ count + 1 = omega arith in
    subst (λ (n : ℕ). AreClientLines script moves n new) same
    (text, line, so_far, subst (λ (n : ℕ). IsClientLine script moves n line) (is ∙ sym same) this, more)

-- the lines are the lines of all clients
pub all_lines : (script : ScriptState) (moves : List Move) (count : ℕ) (text : List ℕ) → count ≡ length script.clients → AreClientLines script moves count text
    → AreClientLines script moves (length script.clients) text
all_lines script moves count text is lines = subst (λ (n : ℕ). AreClientLines script moves n text) is lines

-- ---- Each number is a client's

none_some : {X : Type 0} {x : X} → None ≡ Some x → ⊥
none_some e = absurd cc

some_at : (cs : List ScriptClient) (k : ℕ) → k < length cs → None ≡ option_map (λ c. c.node) (slice_get cs k) → ⊥
some_at [] k within e = absurd (omega (arith, within))
some_at (c ∷ cs) zero within e = none_some e
some_at (c ∷ cs) (suc k) within e = some_at cs k (omega (arith, within)) e

pub is_there : (script : ScriptState) (client place : ℕ) → client ≡ place + 1 → place < length script.clients → None ≡ option_map (λ c. c.node) (client_at script client) → ⊥
is_there script client place is within none =
    let same : client ≡ suc place = omega (arith, is) in
    some_at script.clients place within (none ∙ ap (λ (n : ℕ). option_map (λ c. c.node) (client_at script n)) same)
