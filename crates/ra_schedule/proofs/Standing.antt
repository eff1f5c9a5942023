-- At which names a client of a script is: at those that it locked and did not unlock since, at its own node. It holds
-- each of them, except that one that waits does not hold the name that it locked last.
use Rattle.std.proofs.Common.{◌≡◌, ◌⊎◌, ◌↔◌, ℕ, Some, List, [], ◌∷◌, ◌++◌, length, slice_get, refl, sym, ap, ◌∙◌, subst, append_assoc, arith, inl, inr}
use Rattle.std.proofs.lemmas.Bool.{cases_eq}
use Rattle.std.proofs.lemmas.List.{same_from_push, length-append}
use Rattle.ra_stamp.specs.declared.mode.Mode.{Mode}
use Rattle.ra_stamp.specs.declared.entry.Mark.{Mark}
use Rattle.ra_node.specs.Resource.{Resource, IsBusy}
use Rattle.ra_node.specs.Node.{NodeState, resource_at}
use Rattle.ra_node.proofs.Lookups.{same_or_apart}
use Rattle.ra_world.specs.declared.step.Step.TheVariants.{Ask, Leave}
use Rattle.ra_world.specs.Traffic.{Move}
use Rattle.ra_schedule.specs.declared.script.Op.{Op}
use Rattle.ra_schedule.specs.declared.script.Op.TheVariants.{Lock, Unlock}
use Rattle.ra_schedule.specs.Script.{ScriptClient, IsHeldAfter}
use Rattle.ra_schedule.specs.Schedule.{steps_of, steps_in, steps_by, Asks, IsWaiting}
use Rattle.ra_schedule.proofs.Held.{held_pushed}
use Rattle.ra_schedule.proofs.Waiting.{steps_by-more, waits_on, waited}
use Rattle.ra_schedule.proofs.ClientTurns.{HasIt, IsSilent, Becomes, holder_stands}
use Rattle.ra_schedule.proofs.MovedNodes.{IsNode}

-- the last of these operations locks this name
abbrev pub LastLocks : List Op → List ℕ → Type 0
LastLocks ops name = (before : List Op) × (mode : Mode) × (ops ≡ before ++ Lock name mode ∷ [])

pub last_is_one : (ops : List Op) (a b : List ℕ) → LastLocks ops a → LastLocks ops b → a ≡ b
last_is_one ops a b (before, mode, is) (before', mode', is') =
    let same : Lock a mode ≡ Lock b mode' = (same_from_push before before' (Lock a mode) (Lock b mode') (sym is ∙ is')).1 in cc

pub record ClientStands (n : ℕ) (moves : List Move) (nodes : ℕ → NodeState) (client : ℕ) (who : ScriptClient) : Type 0 where
  -- what it did, and what is left to do
  pub did : List Op
  pub left : List Op
  pub ops_are : who.ops ≡ did ++ left
  pub done : length did ≡ steps_by client (steps_of moves)
  pub stands : (i : ℕ) (name : List ℕ) → IsNode n i
      → IsBusy (resource_at (nodes i) name) client ↔ ((i ≡ who.node) × IsHeldAfter did name)
  pub kept_out : (i : ℕ) (name : List ℕ) → IsNode n i → IsBusy (resource_at (nodes i) name) client
      → (HasIt (resource_at (nodes i) name) client → ⊥) → IsWaiting client moves × LastLocks did name
  pub waits : IsWaiting client moves
      → (name : List ℕ) × LastLocks did name × (HasIt (resource_at (nodes who.node) name) client → ⊥)

-- ---- A move in which the client neither asks nor leaves

-- it enters somewhere by this move, and holds all that it held
pub record ComesIn (n client : ℕ) (nodes nodes' : ℕ → NodeState) : Type 0 where
  pub i : ℕ
  pub name : List ℕ
  pub within : IsNode n i
  pub before : HasIt (resource_at (nodes i) name) client → ⊥
  pub after : HasIt (resource_at (nodes' i) name) client
  pub kept : (j : ℕ) (other : List ℕ) → IsNode n j → HasIt (resource_at (nodes j) other) client → HasIt (resource_at (nodes' j) other) client

-- it is at the same names as before; and no mark names it and it holds what it held, or a mark says that it entered,
-- and it did
pub record Untouched (n client : ℕ) (marks : List Mark) (nodes nodes' : ℕ → NodeState) : Type 0 where
  pub stands : (i : ℕ) (name : List ℕ) → IsNode n i → IsBusy (resource_at (nodes i) name) client ↔ IsBusy (resource_at (nodes' i) name) client
  pub holds : (IsSilent client marks × ((i : ℕ) (name : List ℕ) → IsNode n i → HasIt (resource_at (nodes i) name) client ↔ HasIt (resource_at (nodes' i) name) client))
      ⊎ ((IsSilent client marks → ⊥) × ComesIn n client nodes nodes')

pub still : (n : ℕ) (moves : List Move) (move : Move) (nodes nodes' : ℕ → NodeState) (client : ℕ) (who : ScriptClient) → IsNode n who.node
    → steps_in client move.step ≡ 0 → (Asks client move.step → ⊥) → Untouched n client move.marks nodes nodes'
    → ClientStands n moves nodes client who → ClientStands n (moves ++ move ∷ []) nodes' client who
still n moves move nodes nodes' client who within none not_asks un old =
    record {
      did = old.did;
      left = old.left;
      ops_are = old.ops_are;
      done = omega (arith, old.done, steps_by-more client moves move, none);
      stands = λ i name at. (
        λ h. (old.stands i name at).0 ((un.stands i name at).1 h),
        λ h. (un.stands i name at).0 ((old.stands i name at).1 h),
      );
      kept_out = λ i name at busy out. elim un.holds [
        | inl kept ↦
            let was = old.kept_out i name at ((un.stands i name at).1 busy) (λ h. out ((kept.1 i name at).0 h)) in
            (waits_on client moves move kept.0 (inr was.0), was.1)
        | inr came ↦
            let c = came.1 in
            let busy' = (un.stands i name at).1 busy in
            let was = old.kept_out i name at busy' (λ h. out (c.kept i name at h)) in
            let there = (un.stands c.i c.name c.within).1 (holder_stands (resource_at (nodes' c.i) c.name) client c.after) in
            let first = old.kept_out c.i c.name c.within there c.before in
            let same_name : c.name ≡ name = last_is_one old.did c.name name first.1 was.1 in
            let same_node : c.i ≡ i = ((old.stands c.i c.name c.within).0 there).0 ∙ sym ((old.stands i name at).0 busy').0 in
            absurd (out (subst (λ (k : ℕ). HasIt (resource_at (nodes' k) name) client) same_node
            (subst (λ (x : List ℕ). HasIt (resource_at (nodes' c.i) x) client) same_name c.after)))
      ];
      waits = λ w. let was = waited client moves move w in
          elim un.holds [
            | inl kept ↦
                let before = elim was.1 as (λ _. IsWaiting client moves) [ inl asks ↦ absurd (not_asks asks) | inr b ↦ b ] in
                let o = old.waits before in
                (o.0, o.1, λ h. o.2 ((kept.1 who.node o.0 within).1 h))
            | inr came ↦ absurd (came.0 was.0)
          ];
    }

-- ---- The client's own moves

-- the operation at a place is the first one that is left
next_left : (did left : List Op) (op : Op) → slice_get (did ++ left) (length did) ≡ Some op → (rest : List Op) × (left ≡ op ∷ rest)
next_left [] [] op is = absurd cc
next_left [] (x ∷ rest) op is = let same : x ≡ op = cc in (rest, ap (λ (y : Op). y ∷ rest) same)
next_left (d ∷ did) left op is = next_left did left op is

pub goes_on_by : (client : ℕ) (moves : List Move) (who : ScriptClient) (did left : List Op) (op : Op) → who.ops ≡ did ++ left → length did ≡ steps_by client (steps_of moves)
    → slice_get who.ops (steps_by client (steps_of moves)) ≡ Some op → (rest : List Op) × (who.ops ≡ (did ++ op ∷ []) ++ rest)
goes_on_by client moves who did left op ops_are done is =
    let here : slice_get (did ++ left) (length did) ≡ Some op = ap (λ (xs : List Op). slice_get xs (length did)) (sym ops_are) ∙ ap (slice_get who.ops) done ∙ is in
    let next = next_left did left op here in
    (next.0, ops_are ∙ ap (λ (xs : List Op). did ++ xs) next.1 ∙ sym (append_assoc did (op ∷ []) next.0))

-- a node and a name are these ones, or they are not
pub where_is : (i p : ℕ) (name r : List ℕ) → ((i ≡ p) × (name ≡ r)) ⊎ (i ≡ p → name ≡ r → ⊥)
where_is i p name r = elim (cases_eq i p) [
  | inl same ↦ elim (same_or_apart name r) [ inl named ↦ inl (same, named) | inr apart ↦ inr (λ _ e. apart e) ]
  | inr apart ↦ inr (λ e _. apart e)
]

-- a fact about the resource of a node and a name is a fact about the resource of an equal node and name
pub at_same : (nodes : ℕ → NodeState) (P : Resource → Type 0) (i p : ℕ) (name r : List ℕ) → i ≡ p → name ≡ r → P (resource_at (nodes p) r) → P (resource_at (nodes i) name)
at_same nodes P i p name r node named h =
    subst (λ (k : ℕ). P (resource_at (nodes k) name)) (sym node) (subst (λ (x : List ℕ). P (resource_at (nodes p) x)) (sym named) h)

module _ (n : ℕ) (moves : List Move) (move : Move) (nodes nodes' : ℕ → NodeState) (client : ℕ) (who : ScriptClient) (within : IsNode n who.node) (r : List ℕ)
    (old : ClientStands n moves nodes client who) (free : IsWaiting client moves → ⊥)
    (others : (i : ℕ) (name : List ℕ) → IsNode n i → (i ≡ who.node → name ≡ r → ⊥) → resource_at (nodes' i) name ≡ resource_at (nodes i) name) where
  abbrev p : ℕ
  p = who.node

  -- elsewhere it is not kept out, since it did not wait
  free_elsewhere : (i : ℕ) (name : List ℕ) → IsNode n i → (i ≡ p → name ≡ r → ⊥) → IsBusy (resource_at (nodes' i) name) client
      → (HasIt (resource_at (nodes' i) name) client → ⊥) → ⊥
  free_elsewhere i name at apart busy out =
      let same = others i name at apart in
      free (old.kept_out i name at (subst (λ (x : Resource). IsBusy x client) same busy) (λ h. out (subst (λ (x : Resource). HasIt x client) (sym same) h))).0

  pub asked : (mode : Mode) → slice_get who.ops (steps_by client (steps_of moves)) ≡ Some (Lock r mode) → move.step ≡ Ask p client r mode
      → steps_in client move.step ≡ 1 → IsBusy (resource_at (nodes' p) r) client → (HasIt (resource_at (nodes p) r) client → ⊥)
      → Becomes client move.marks (HasIt (resource_at (nodes p) r) client) (HasIt (resource_at (nodes' p) r) client)
      → ClientStands n (moves ++ move ∷ []) nodes' client who
  asked mode next step one busy_here not_before becomes =
      let more = goes_on_by client moves who old.did old.left (Lock r mode) old.ops_are old.done next in
      record {
        did = old.did ++ Lock r mode ∷ [];
        left = more.0;
        ops_are = more.1;
        done = omega (arith, old.done, steps_by-more client moves move, one, length-append old.did (Lock r mode ∷ []));
        stands = λ i name at. elim (where_is i p name r) [
          | inl same ↦ (
            λ _. (same.0, (held_pushed old.did (Lock r mode) name).1 (inl (mode, ap (λ (x : List ℕ). Lock x mode) (sym same.1)))),
            λ _. at_same nodes' (λ x. IsBusy x client) i p name r same.0 same.1 busy_here,
          )
          | inr apart ↦
              let still_there = others i name at apart in (
                λ h. let s = (old.stands i name at).0 (subst (λ (x : Resource). IsBusy x client) still_there h) in
                    (s.0, (held_pushed old.did (Lock r mode) name).1 (inr (λ e. cc, s.1))),
                λ h. elim ((held_pushed old.did (Lock r mode) name).0 h.1) [
                  | inl locks ↦ let is = locks.1 in let same : name ≡ r = cc in absurd (apart h.0 same)
                  | inr kept ↦ subst (λ (x : Resource). IsBusy x client) (sym still_there) ((old.stands i name at).1 (h.0, kept.1))
                ],
              )
        ];
        kept_out = λ i name at busy out. elim (where_is i p name r) [
          | inl same ↦
              let silent = elim becomes as (λ _. IsSilent client move.marks) [
                | inl kept ↦ kept.0
                | inr came ↦ absurd (out (at_same nodes' (λ x. HasIt x client) i p name r same.0 same.1 came.2))
              ] in (
                waits_on client moves move silent (inl (subst (Asks client) (sym step) refl)),
                (old.did, mode, ap (λ (x : List ℕ). old.did ++ Lock x mode ∷ []) (sym same.1)),
              )
          | inr apart ↦ absurd (free_elsewhere i name at apart busy out)
        ];
        waits = λ w. (
          r,
          (old.did, mode, refl),
          λ has. elim becomes [
            | inl kept ↦ not_before (kept.1.1 has)
            | inr came ↦ came.0 (waited client moves move w).0
          ],
        );
      }

  pub left_it : slice_get who.ops (steps_by client (steps_of moves)) ≡ Some (Unlock r) → move.step ≡ Leave p client r
      → steps_in client move.step ≡ 1 → (IsBusy (resource_at (nodes' p) r) client → ⊥)
      → ClientStands n (moves ++ move ∷ []) nodes' client who
  left_it next step one gone =
      let more = goes_on_by client moves who old.did old.left (Unlock r) old.ops_are old.done next in
      record {
        did = old.did ++ Unlock r ∷ [];
        left = more.0;
        ops_are = more.1;
        done = omega (arith, old.done, steps_by-more client moves move, one, length-append old.did (Unlock r ∷ []));
        stands = λ i name at. elim (where_is i p name r) [
          | inl same ↦ (
            λ h. absurd (gone (at_same nodes' (λ x. IsBusy x client) p i r name (sym same.0) (sym same.1) h)),
            λ h. elim ((held_pushed old.did (Unlock r) name).0 h.1) [
              | inl locks ↦ let is = locks.1 in absurd cc
              | inr kept ↦ absurd (kept.0 (ap Unlock (sym same.1)))
            ],
          )
          | inr apart ↦
              let still_there = others i name at apart in (
                λ h. let s = (old.stands i name at).0 (subst (λ (x : Resource). IsBusy x client) still_there h) in
                    (s.0, (held_pushed old.did (Unlock r) name).1 (inr (λ e. let same : name ≡ r = cc in apart s.0 same, s.1))),
                λ h. elim ((held_pushed old.did (Unlock r) name).0 h.1) [
                  | inl locks ↦ let is = locks.1 in absurd cc
                  | inr kept ↦ subst (λ (x : Resource). IsBusy x client) (sym still_there) ((old.stands i name at).1 (h.0, kept.1))
                ],
              )
        ];
        kept_out = λ i name at busy out. elim (where_is i p name r) [
          | inl same ↦ absurd (gone (at_same nodes' (λ x. IsBusy x client) p i r name (sym same.0) (sym same.1) busy))
          | inr apart ↦ absurd (free_elsewhere i name at apart busy out)
        ];
        waits = λ w. elim (waited client moves move w).1 [
          | inl asks ↦ absurd (subst (Asks client) step asks)
          | inr before ↦ absurd (free before)
        ];
      }
