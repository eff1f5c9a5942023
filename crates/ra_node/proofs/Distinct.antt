-- No client is at a resource twice.
use Rattle.std.proofs.Common.{◌≡◌, ◌≢◌, ◌⊎◌, ◌↔◌, ℕ, zero, suc, ◌<◌, List, [], ◌∷◌, ◌++◌, Any, Contains, length, get_or, map, Option, Some, None, refl, sym, ap, ◌∙◌, subst, append_assoc, arith, inl, inr}
use Rattle.std.specs.Prelude.{AllPairs, option_to_list}
use Rattle.std.proofs.lemmas.List.{get_or_default, get_or-map, length-map, map-append}
use Rattle.std.proofs.lemmas.List.Elements.{Contains-append_left, Contains-append_right, Contains-append_cases}
use Rattle.std.proofs.lemmas.List.Kept.{AllPairs-cons}
use Rattle.std.proofs.lemmas.List.Quantifiers.{all_pairs_push}
use Rattle.ra_automaton.specs.Steps.{greatest_number}
use Rattle.ra_node.specs.declared.queued_client.Queued.{Queued}
use Rattle.ra_node.specs.Resource.{Resource, IsBusy, clients_of}
use Rattle.ra_node.specs.Turns.{MayAsk}

-- who is at it, by the current client and the queue
abbrev pub standing : Option ℕ → List Queued → List ℕ
standing client queue = option_to_list client ++ map (λ q. q.client) queue

abbrev pub Once : List ℕ → Type 0
Once = AllPairs (λ a b. a ≢ b)

-- ---- Who is busy

is_some : (client : Option ℕ) (c : ℕ) → Contains (option_to_list client) c → client ≡ Some c
is_some None c at = absurd (omega (arith, at.1))
is_some (Some d) c (zero, lt, e) = ap (λ x. Some x) e
is_some (Some d) c (suc k, lt, e) = absurd (omega (arith, lt))

has_some : (client : Option ℕ) (c : ℕ) → client ≡ Some c → Contains (option_to_list client) c
has_some client c e = subst (λ (o : Option ℕ). Contains (option_to_list o) c) (sym e) (0, omega arith, refl)

queues_as : (queue : List Queued) (c : ℕ) → Contains (map (λ q. q.client) queue) c → Any (λ q. q.client ≡ c) queue
queues_as [] c at = absurd (omega (arith, at.1))
queues_as (q ∷ qs) c (zero, lt, e) = (0, q, omega arith, refl, e)
queues_as (q ∷ qs) c (suc k, lt, e) =
    let rest = queues_as qs c (k, omega (arith, lt), e) in
    (suc rest.0, rest.1, omega (arith, rest.2), rest.3, rest.4)

pub queues_has : (queue : List Queued) (c : ℕ) → Any (λ q. q.client ≡ c) queue → Contains (map (λ q. q.client) queue) c
queues_has queue c (k, q, lt, is, e) =
    (k, omega (arith, lt, length-map queue (λ (q : Queued). q.client)), get_or-map (λ (q : Queued). q.client) queue k q c lt ∙ ap (λ (q : Queued). q.client) is ∙ e)

-- the current client, or one that queues
pub busy_is : (r : Resource) (c : ℕ) → IsBusy r c ↔ ((r.client ≡ Some c) ⊎ Any (λ q. q.client ≡ c) r.queue)
busy_is r c = (
  λ busy. elim (Contains-append_cases (option_to_list r.client) (map (λ q. q.client) r.queue) c busy) [
    | inl at ↦ inl (is_some r.client c at)
    | inr at ↦ inr (queues_as r.queue c at)
  ],
  λ either. elim either [
    | inl at ↦ Contains-append_left (option_to_list r.client) (map (λ q. q.client) r.queue) c (has_some r.client c at)
    | inr at ↦ Contains-append_right (option_to_list r.client) (map (λ q. q.client) r.queue) c (queues_has r.queue c at)
  ],
)

-- ---- Who asks and who leaves

-- a client that is not in a list differs from each of its elements
apart : (cs : List ℕ) (c : ℕ) → (Contains cs c → ⊥) → (k d : ℕ) → k < length cs → get_or cs k d ≢ c
apart cs c free k d lt e = free (k, lt, get_or_default cs k c d lt ∙ e)

nobody_before : (client : Option ℕ) (queue : List Queued) → client ≡ None → standing client queue ≡ map (λ q. q.client) queue
nobody_before client queue e = ap (λ (o : Option ℕ). standing o queue) e

-- a client that may ask takes the place of nobody
pub asks_once : (r : Resource) (c : ℕ) → MayAsk r c → r.client ≡ None → Once (clients_of r) → Once (standing (Some c) r.queue)
asks_once r c may nobody h =
    let waiting = nobody_before r.client r.queue nobody in
    AllPairs-cons (λ a b. a ≢ b) c (map (λ q. q.client) r.queue)
    (λ k d lt e. apart (map (λ q. q.client) r.queue) c (λ at. may.not_busy (subst (λ (cs : List ℕ). Contains cs c) (sym waiting) at)) k d lt (sym e))
    (subst Once waiting h)

-- or is after all others
pub queues_once : (r : Resource) (c : ℕ) (q : Queued) → q.client ≡ c → MayAsk r c → Once (clients_of r) → Once (standing r.client (r.queue ++ q ∷ []))
queues_once r c q is may h =
    let ends : standing r.client (r.queue ++ q ∷ []) ≡ clients_of r ++ c ∷ [] =
    ap (λ (xs : List ℕ). option_to_list r.client ++ xs) (map-append (λ (x : Queued). x.client) r.queue (q ∷ []) ∙ ap (λ (d : ℕ). map (λ (x : Queued). x.client) r.queue ++ d ∷ []) is)
    ∙ sym (append_assoc (option_to_list r.client) (map (λ (x : Queued). x.client) r.queue) (c ∷ []))
    in
    subst Once (sym ends) (all_pairs_push (λ a b. a ≢ b) (clients_of r) c h (apart (clients_of r) c may.not_busy))

-- the current client goes
pub leaves_once : (client : Option ℕ) (queue : List Queued) → Once (standing client queue) → Once (standing None queue)
leaves_once None queue h = h
leaves_once (Some c) queue h = λ i j d before within. h (suc i) (suc j) d (omega (arith, before)) (omega (arith, within))

-- ---- One goes, wherever it is

within_more : (before after : List ℕ) (c d : ℕ) → Contains (before ++ after) d → Contains (before ++ c ∷ after) d
within_more before after c d at =
    elim (Contains-append_cases before after d at) [
      | inl early ↦ Contains-append_left before (c ∷ after) d early
      | inr late ↦ Contains-append_right before (c ∷ after) d (suc late.0, omega (arith, late.1), late.2)
    ]

there_before : (before after : List ℕ) (c : ℕ) → Contains (before ++ c ∷ after) c
there_before before after c = Contains-append_right before (c ∷ after) c (0, omega arith, refl)

first_apart : (c : ℕ) (cs : List ℕ) → Once (c ∷ cs) → Contains cs c → ⊥
first_apart c cs h at = h 0 (suc at.0) c (omega arith) (omega (arith, at.1)) (sym at.2)

rest_once : (c : ℕ) (cs : List ℕ) → Once (c ∷ cs) → Once cs
rest_once c cs h = λ i j d before within. h (suc i) (suc j) d (omega (arith, before)) (omega (arith, within))

gone_once : (before : List ℕ) (c : ℕ) (after : List ℕ) → Once (before ++ c ∷ after) → Once (before ++ after)
gone_once [] c after h = rest_once c after h
gone_once (x ∷ xs) c after h =
    AllPairs-cons (λ a b. a ≢ b) x (xs ++ after)
    (λ k d lt e. first_apart x (xs ++ c ∷ after) h (within_more xs after c x (k, lt, get_or_default (xs ++ after) k x d lt ∙ sym e)))
    (gone_once xs c after (rest_once x (xs ++ c ∷ after) h))

gone_apart : (before : List ℕ) (c : ℕ) (after : List ℕ) → Once (before ++ c ∷ after) → Contains (before ++ after) c → ⊥
gone_apart [] c after h at = first_apart c after h at
gone_apart (x ∷ xs) c after h (zero, lt, e) = first_apart x (xs ++ c ∷ after) h (subst (λ (y : ℕ). Contains (xs ++ c ∷ after) y) (sym e) (there_before xs after c))
gone_apart (x ∷ xs) c after h (suc k, lt, e) = gone_apart xs c after (rest_once x (xs ++ c ∷ after) h) (k, omega (arith, lt), e)

-- a client that is taken out of a queue is not in it any more, and each of the others is in it once
pub taken_apart : (before : List Queued) (gone : Queued) (after : List Queued) → Once (map (λ q. q.client) (before ++ gone ∷ after)) → Contains (map (λ q. q.client) (before ++ after)) gone.client → ⊥
taken_apart before gone after h at =
    gone_apart (map (λ q. q.client) before) gone.client (map (λ q. q.client) after)
    (subst Once (map-append (λ (q : Queued). q.client) before (gone ∷ after)) h)
    (subst (λ (cs : List ℕ). Contains cs gone.client) (map-append (λ (q : Queued). q.client) before after) at)

-- nor is it queued before its place
pub taken_apart_before : (before : List Queued) (gone : Queued) (after : List Queued) → Once (map (λ q. q.client) (before ++ gone ∷ after)) → Any (λ q. q.client ≡ gone.client) before → ⊥
taken_apart_before before gone after h any =
    taken_apart before gone after h
    (subst (λ (cs : List ℕ). Contains cs gone.client) (sym (map-append (λ (q : Queued). q.client) before after))
    (Contains-append_left (map (λ q. q.client) before) (map (λ q. q.client) after) gone.client (queues_has before gone.client any)))

pub taken_once : (client : Option ℕ) (before : List Queued) (gone : Queued) (after : List Queued) → Once (standing client (before ++ gone ∷ after)) → Once (standing client (before ++ after))
taken_once client before gone after h =
    let first = option_to_list client in
    let parts = λ (qs : List Queued). ap (λ (cs : List ℕ). first ++ cs) (map-append (λ (q : Queued). q.client) before qs) ∙ sym (append_assoc first (map (λ q. q.client) before) (map (λ q. q.client) qs)) in
    subst Once (sym (parts after)) (gone_once (first ++ map (λ q. q.client) before) gone.client (map (λ q. q.client) after) (subst Once (parts (gone ∷ after)) h))

-- and the first of the queue takes its place
pub hands_once : (client : Option ℕ) (next : Queued) (rest : List Queued) → Once (standing client (next ∷ rest)) → Once (standing (Some next.client) rest)
hands_once client next rest h = leaves_once client (next ∷ rest) h

-- which it may do, once nobody is current and it is out of the queue
pub next_may_ask : (r between : Resource) (next : Queued) (rest : List Queued) → r.queue ≡ next ∷ rest → between.client ≡ None → between.state.highest < greatest_number → Once (clients_of r)
    → MayAsk (record between { queue = rest }) next.client
next_may_ask r between next rest queue nobody left h =
    let once = leaves_once r.client (next ∷ rest) (subst (λ (qs : List Queued). Once (standing r.client qs)) queue h) in
    record {
      not_busy = λ busy.
          let at = subst (λ (cs : List ℕ). Contains cs next.client) (nobody_before between.client rest nobody) busy in
          once 0 (suc at.0) next.client (omega arith) (omega (arith, at.1)) (sym at.2);
      number_left = left;
    }
