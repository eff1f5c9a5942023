-- The nodes of the clients of a script.
use Rattle.std.proofs.Common.{◌≡◌, ℕ, zero, suc, ◌+◌, ◌<◌, ◌≤◌, Some, List, [], ◌∷◌, All, length, slice_get, refl, ap, ◌∙◌, arith}
use Rattle.std.specs.Prelude.{option_map}
use Rattle.std.proofs.lemmas.List.Elements as elements
use Rattle.ra_schedule.specs.Script.{ScriptClient, ScriptState, IsScript, IsScriptClient}
use Rattle.ra_schedule.specs.Enabled.{node_of}

within_list : (clients : List ScriptClient) (k node : ℕ) → option_map (λ (who : ScriptClient). who.node) (slice_get clients k) ≡ Some node
    → k < length clients
within_list [] k node is = absurd cc
within_list (c ∷ clients) zero node is = omega arith
within_list (c ∷ clients) (suc k) node is = let less = within_list clients k node is in omega arith

-- one that has a node is a client
pub is_client : (script : ScriptState) (client node : ℕ) → node_of script client ≡ Some node
    → (k : ℕ) × (client ≡ k + 1) × (k < length script.clients)
is_client script zero node is = absurd cc
is_client script (suc k) node is = (k, omega arith, within_list script.clients k node is)

fits_list : (nodes : ℕ) (clients : List ScriptClient) (k node : ℕ) → All (IsScriptClient nodes) clients
    → option_map (λ (who : ScriptClient). who.node) (slice_get clients k) ≡ Some node → (1 ≤ node) × (node ≤ nodes)
fits_list nodes [] k node all is = absurd cc
fits_list nodes (c ∷ clients) zero node all is =
    let this = elements.All-head (IsScriptClient nodes) c clients all in
    let same : c.node ≡ node = cc in
    (omega (arith, this.first), omega (arith, this.last))
fits_list nodes (c ∷ clients) (suc k) node all is = fits_list nodes clients k node (elements.All-tail (IsScriptClient nodes) c clients all) is

-- a client's node is one that there is
pub node_fits : (script : ScriptState) (client node : ℕ) → IsScript script → node_of script client ≡ Some node → (1 ≤ node) × (node ≤ script.nodes)
node_fits script zero node fit is = absurd cc
node_fits script (suc k) node fit is = fits_list script.nodes script.clients k node fit.each is

node_in : (clients : List ScriptClient) (k : ℕ) → k < length clients
    → (node : ℕ) × (option_map (λ (who : ScriptClient). who.node) (slice_get clients k) ≡ Some node)
node_in [] k less = absurd (omega arith)
node_in (c ∷ clients) zero less = (c.node, refl)
node_in (c ∷ clients) (suc k) less = node_in clients k (omega arith)

-- each client has a node
pub has_node : (script : ScriptState) (k : ℕ) → k < length script.clients → (node : ℕ) × (node_of script (k + 1) ≡ Some node)
has_node script k less =
    let (node, is) = node_in script.clients k less in
    let next : k + 1 ≡ suc k = omega arith in
    (node, ap (node_of script) next ∙ is)
