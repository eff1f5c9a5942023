-- The marks that name a client are the marks of the operations that it did, without the lock that it waits for.
use Rattle.std.proofs.Common.{◌≡◌, ◌≢◌, ◌⊎◌, ℕ, zero, suc, Bool, true, false, List, [], ◌∷◌, ◌++◌, All, map, Option, Some, None, refl, sym, ap, ◌∙◌, subst, append_assoc, arith, inl, inr}
use Rattle.std.specs.Prelude.{◌==◌, Contains, AllPairs, option_to_list}
use Rattle.std.proofs.lemmas.List.{append-nil}
use Rattle.std.proofs.lemmas.List.Elements.{All-filter, All-head, All-tail, Contains-append_right, filter-append}
use Rattle.ra_stamp.specs.declared.entry.Entry.{Entry}
use Rattle.ra_stamp.specs.declared.entry.Mark.{Mark}
use Rattle.ra_stamp.specs.declared.entry.Mark.TheVariants.{Requested, Entered, Left}
use Rattle.ra_stamp.specs.declared.mode.Mode.{Mode}
use Rattle.ra_automaton.specs.declared.phase.Phase.{Phase}
use Rattle.ra_automaton.specs.declared.phase.Phase.TheVariants.{Idle, Waiting, Inside}
use Rattle.ra_automaton.specs.State.{State}
use Rattle.ra_node.specs.declared.queued_client.Queued.{Queued}
use Rattle.ra_node.specs.Resource.{Resource, entry_of, use_in, use_of, IsBusy, clients_of}
use Rattle.ra_node.specs.Resource.Use.{WaitsBy, HoldsBy}
use Rattle.ra_node.specs.Turns.{request_marks}
use Rattle.ra_node.specs.Node.{NodeState, resource_at}
use Rattle.ra_world.specs.Traffic.{Move}
use Rattle.ra_world.specs.Run.{marks_of}
use Rattle.ra_world.proofs.Moves.{marks_more}
use Rattle.ra_schedule.specs.declared.script.Op.{Op}
use Rattle.ra_schedule.specs.declared.script.Op.TheVariants.{Lock, Unlock}
use Rattle.ra_schedule.specs.Script.{ScriptClient}
use Rattle.ra_schedule.specs.Schedule.{Asks, Enters, IsWaiting}
use Rattle.ra_schedule.specs.Plan.{client_of_mark, marks_of_client, IsRequestFor, FollowsOps}
use Rattle.ra_schedule.proofs.Waiting.{waited}
use Rattle.ra_schedule.proofs.ClientTurns.{HasIt, held_is, holder_is, use_waiter}
use Rattle.ra_schedule.proofs.TurnMarks.{use_by, PassesBy, IsNextToAsk, IsLetIn, Befalls}
use Rattle.ra_schedule.proofs.MovedNodes.{IsNode}
use Rattle.ra_schedule.proofs.Standing.{LastLocks, last_is_one, ClientStands, where_is, at_same}
use Rattle.ra_schedule.proofs.StandingRuns.{IsThere}
use Rattle.ra_schedule.proofs.TableNames.{current_is_busy}

-- ---- The marks of operations, and of one more

follows_lock : (node : ℕ) (ops : List Op) (marks : List Mark) (name : List ℕ) (mode : Mode) (a b : Entry) → FollowsOps node ops marks
    → IsRequestFor node name a × (a.mode ≡ mode) → IsRequestFor node name b × (b.mode ≡ mode)
    → FollowsOps node (ops ++ Lock name mode ∷ []) (marks ++ Requested a ∷ Entered b ∷ [])
follows_lock node [] [] name mode a b follows first second = (first, second, tt)
follows_lock node [] (x ∷ marks) name mode a b follows first second = absurd follows
follows_lock node (Lock n m ∷ ops) [] name mode a b follows first second = absurd follows
follows_lock node (Lock n m ∷ ops) (x ∷ []) name mode a b follows first second = absurd follows
follows_lock node (Lock n m ∷ ops) (x ∷ y ∷ marks) name mode a b follows first second =
    (follows.0, follows.1, follows_lock node ops marks name mode a b follows.2 first second)
follows_lock node (Unlock n ∷ ops) [] name mode a b follows first second = absurd follows
follows_lock node (Unlock n ∷ ops) (x ∷ marks) name mode a b follows first second =
    (follows.0, follows_lock node ops marks name mode a b follows.1 first second)

pub follows_unlock : (node : ℕ) (ops : List Op) (marks : List Mark) (name : List ℕ) (e : Entry) → FollowsOps node ops marks → IsRequestFor node name e
    → FollowsOps node (ops ++ Unlock name ∷ []) (marks ++ Left e ∷ [])
follows_unlock node [] [] name e follows is = (is, tt)
follows_unlock node [] (x ∷ marks) name e follows is = absurd follows
follows_unlock node (Lock n m ∷ ops) [] name e follows is = absurd follows
follows_unlock node (Lock n m ∷ ops) (x ∷ []) name e follows is = absurd follows
follows_unlock node (Lock n m ∷ ops) (x ∷ y ∷ marks) name e follows is = (follows.0, follows.1, follows_unlock node ops marks name e follows.2 is)
follows_unlock node (Unlock n ∷ ops) [] name e follows is = absurd follows
follows_unlock node (Unlock n ∷ ops) (x ∷ marks) name e follows is = (follows.0, follows_unlock node ops marks name e follows.1 is)

-- ---- Clients that are queued

in_clients : (queue : List Queued) (q : Queued) → Contains queue q → Contains (map (λ x. x.client) queue) q.client
in_clients [] q (k, within, is) = absurd (omega (arith, within))
in_clients (x ∷ queue) q (zero, within, is) = let same : x ≡ q = is in (0, omega arith, ap (λ (y : Queued). y.client) same)
in_clients (x ∷ queue) q (suc k, within, is) = let rest = in_clients queue q (k, omega (arith, within), is) in (suc rest.0, omega (arith, rest.1), rest.2)

pub queued_is_busy : (r : Resource) (client : ℕ) (q : Queued) → q.client ≡ client → Contains r.queue q → IsBusy r client
queued_is_busy r client q of has =
    subst (Contains (clients_of r)) of (Contains-append_right (option_to_list r.client) (map (λ x. x.client) r.queue) q.client (in_clients r.queue q has))

-- no client is current and queued
not_twice : (r : Resource) (client : ℕ) (q : Queued) → AllPairs (λ a b. a ≢ b) (clients_of r) → r.client ≡ Some client → Contains r.queue q → q.client ≡ client → ⊥
not_twice r client q once current has of =
    let all : AllPairs (λ a b. a ≢ b) (client ∷ map (λ x. x.client) r.queue) =
    subst (λ (o : Option ℕ). AllPairs (λ a b. a ≢ b) (option_to_list o ++ map (λ x. x.client) r.queue)) current once in
    let (k, within, is) = in_clients r.queue q has in
    all 0 (suc k) q.client (omega arith) (omega (arith, within)) (sym of ∙ sym is)

one_place : (queue : List Queued) (a b : Queued) → AllPairs (λ x y. x ≢ y) (map (λ x. x.client) queue) → Contains queue a → Contains queue b → a.client ≡ b.client → a ≡ b
one_place [] a b all (k, within, is) has same = absurd (omega (arith, within))
one_place (x ∷ queue) a b all (zero, within, is) (zero, within', is') same = let here : x ≡ a = is in let there : x ≡ b = is' in sym here ∙ there
one_place (x ∷ queue) a b all (zero, within, is) (suc k, within', is') same =
    let here : x ≡ a = is in
    let (j, less, at) = in_clients queue b (k, omega (arith, within'), is') in
    absurd (all 0 (suc j) b.client (omega arith) (omega (arith, less)) (ap (λ (y : Queued). y.client) here ∙ same ∙ sym at))
one_place (x ∷ queue) a b all (suc k, within, is) (zero, within', is') same =
    let there : x ≡ b = is' in
    let (j, less, at) = in_clients queue a (k, omega (arith, within), is) in
    absurd (all 0 (suc j) a.client (omega arith) (omega (arith, less)) (ap (λ (y : Queued). y.client) there ∙ sym same ∙ sym at))
one_place (x ∷ queue) a b all (suc k, within, is) (suc k', within', is') same =
    one_place queue a b (λ i j d less inside. all (suc i) (suc j) d (omega (arith, less)) (omega (arith, inside))) (k, omega (arith, within), is) (k', omega (arith, within'), is') same

in_queue : (o : Option ℕ) (queue : List Queued) → AllPairs (λ x y. x ≢ y) (option_to_list o ++ map (λ x. x.client) queue) → AllPairs (λ x y. x ≢ y) (map (λ x. x.client) queue)
in_queue None queue all = all
in_queue (Some c) queue all = λ i j d less inside. all (suc i) (suc j) d (omega (arith, less)) (omega (arith, inside))

-- ---- The request of a use

request_is : (s : State) (phase : Phase) (client : Option ℕ) (e : Entry) → (use_in s phase client ≡ WaitsBy e) ⊎ (use_in s phase client ≡ HoldsBy e)
    → IsRequestFor s.me s.name e
request_is s phase None e (inl is) = absurd cc
request_is s phase None e (inr is) = absurd cc
request_is s Idle (Some c) e (inl is) = absurd cc
request_is s Idle (Some c) e (inr is) = absurd cc
request_is s (Waiting seq mode) (Some c) e (inl is) =
    let same : e ≡ entry_of s.me s.name seq c mode = cc in (ap (λ (x : Entry). x.stamp.node) same, ap (λ (x : Entry). x.name) same)
request_is s (Waiting seq mode) (Some c) e (inr is) = absurd cc
request_is s (Inside seq mode) (Some c) e (inl is) = absurd cc
request_is s (Inside seq mode) (Some c) e (inr is) =
    let same : e ≡ entry_of s.me s.name seq c mode = cc in (ap (λ (x : Entry). x.stamp.node) same, ap (λ (x : Entry). x.name) same)

pub request_there : (n i : ℕ) (node : NodeState) (name : List ℕ) (e : Entry) → IsThere n i node
    → (use_of (resource_at node name) ≡ WaitsBy e) ⊎ (use_of (resource_at node name) ≡ HoldsBy e) → IsRequestFor i name e
request_there n i node name e there is =
    let r = resource_at node name in
    let fits = there.consistent.each name in
    let at = request_is r.state r.state.phase r.client e is in
    (at.0 ∙ fits.me_is ∙ there.me_is, at.1 ∙ fits.name_is)

-- ---- What a client did, and its marks

abbrev pub own_marks : ℕ → List Move → List Mark
own_marks client moves = marks_of_client client (marks_of moves)

pub own_more : (client : ℕ) (moves : List Move) (move : Move) → own_marks client (moves ++ move ∷ []) ≡ own_marks client moves ++ marks_of_client client move.marks
own_more client moves move =
    ap (marks_of_client client) (marks_more moves move) ∙ filter-append (λ mark. client_of_mark mark == client) (marks_of moves) move.marks

pub own_same : (client : ℕ) (moves : List Move) (move : Move) → marks_of_client client move.marks ≡ [] → own_marks client (moves ++ move ∷ []) ≡ own_marks client moves
own_same client moves move none =
    own_more client moves move ∙ ap (λ (ms : List Mark). own_marks client moves ++ ms) none ∙ append-nil (own_marks client moves)

-- the lock of a name is asked for: its client is queued, or its request waits
abbrev pub IsAsked : (node client : ℕ) → List Op → Mode → List Mark → Resource → Type 0
IsAsked node client before mode marks r =
    (FollowsOps node before marks × Contains r.queue (record { client = client; mode = mode }))
    ⊎ ((e : Entry) × (so_far : List Mark) × (marks ≡ so_far ++ Requested e ∷ []) × FollowsOps node before so_far
    × (use_of r ≡ WaitsBy e) × (e.client ≡ client) × (e.mode ≡ mode))

-- the marks are the marks of what the client did, and it waits for nothing; or it waits, and they are the marks of what
-- it did before
abbrev pub IsPlanned : (ℕ → NodeState) → List Move → ℕ → ScriptClient → List Op → Type 0
IsPlanned nodes moves client who did =
    (FollowsOps who.node did (own_marks client moves) × (IsWaiting client moves → ⊥))
    ⊎ ((before : List Op) × (name : List ℕ) × (mode : Mode) × (did ≡ before ++ Lock name mode ∷ [])
    × IsAsked who.node client before mode (own_marks client moves) (resource_at (nodes who.node) name))

-- a client does not wait after its marks if one of them says that it entered
entered_now : (client : ℕ) (moves : List Move) (move : Move) (first : List Mark) (e : Entry) → e.client ≡ client
    → marks_of_client client move.marks ≡ first ++ Entered e ∷ [] → IsWaiting client (moves ++ move ∷ []) → ⊥
entered_now client moves move first e of marks_are w =
    let silent = All-filter (λ mark. client_of_mark mark == client) (λ mark. Enters client mark → ⊥) move.marks (waited client moves move w).0 in
    last_silent first (subst (All (λ mark. Enters client mark → ⊥)) marks_are silent)
  where
    last_silent : (xs : List Mark) → All (λ mark. Enters client mark → ⊥) (xs ++ Entered e ∷ []) → ⊥
    last_silent [] all = All-head (λ mark. Enters client mark → ⊥) (Entered e) [] all of
    last_silent (x ∷ xs) all = last_silent xs (All-tail (λ mark. Enters client mark → ⊥) x (xs ++ Entered e ∷ []) all)

-- a request that is made by a move
pub made : (n : ℕ) (moves : List Move) (move : Move) (nodes' : ℕ → NodeState) (client : ℕ) (who : ScriptClient) → IsThere n who.node (nodes' who.node)
    → (before : List Op) (name : List ℕ) (mode : Mode) (entered : Bool) (e : Entry) → FollowsOps who.node before (own_marks client moves)
    → e.client ≡ client → e.mode ≡ mode → marks_of_client client move.marks ≡ request_marks entered e
    → use_of (resource_at (nodes' who.node) name) ≡ use_by entered e
    → IsPlanned nodes' (moves ++ move ∷ []) client who (before ++ Lock name mode ∷ [])
made n moves move nodes' client who there before name mode false e follows of mode_is marks_are use_is =
    inr (
      before,
      name,
      mode,
      refl,
      inr (
        e,
        own_marks client moves,
        own_more client moves move ∙ ap (λ (ms : List Mark). own_marks client moves ++ ms) marks_are,
        follows,
        use_is,
        of,
        mode_is,
      ),
    )
made n moves move nodes' client who there before name mode true e follows of mode_is marks_are use_is =
    let request = request_there n who.node (nodes' who.node) name e there (inr use_is) in
    inl (
      subst (FollowsOps who.node (before ++ Lock name mode ∷ []))
          (sym (own_more client moves move ∙ ap (λ (ms : List Mark). own_marks client moves ++ ms) marks_are))
          (follows_lock who.node before (own_marks client moves) name mode e e follows (request, mode_is) (request, mode_is)),
      entered_now client moves move (Requested e ∷ []) e of marks_are,
    )

-- ---- A move in which the client neither asks nor leaves

module _ (n : ℕ) (moves : List Move) (move : Move) (nodes nodes' : ℕ → NodeState) (client : ℕ) (who : ScriptClient) (within : IsNode n who.node)
    (old : ClientStands n moves nodes client who) (each : (i : ℕ) → IsNode n i → IsThere n i (nodes i)) (each' : (i : ℕ) → IsNode n i → IsThere n i (nodes' i)) where
  -- a client whose lock is asked for waits
  pub asked_waits : (i : ℕ) (name : List ℕ) → IsNode n i → (before : List Op) (mode : Mode) (marks : List Mark)
      → IsAsked who.node client before mode marks (resource_at (nodes i) name) → IsWaiting client moves × LastLocks old.did name
  asked_waits i name at before mode marks asked =
      let r = resource_at (nodes i) name in
      let once = ((each i at).consistent.each name).once in
      elim asked [
        | inl queued ↦
            let q : Queued = record { client = client; mode = mode } in
            old.kept_out i name at (queued_is_busy r client q refl queued.1) (λ has. not_twice r client q once (holder_is r client has) queued.1 refl)
        | inr waits ↦ let (e, so_far, marks_are, follows, is, of, mode_is) = waits in waiter_waits i name at e is of
      ]
    where
      waiter_waits : (i : ℕ) (name : List ℕ) → IsNode n i → (e : Entry) → use_of (resource_at (nodes i) name) ≡ WaitsBy e → e.client ≡ client
          → IsWaiting client moves × LastLocks old.did name
      waiter_waits i name at e is of =
          let r = resource_at (nodes i) name in
          old.kept_out i name at (current_is_busy r client (use_waiter r.state r.state.phase r.client e is ∙ ap (λ (k : ℕ). Some k) of))
          (λ has. let held : use_of r ≡ HoldsBy has.0 = held_is (use_of r) has.0 has.1.granted in cc)

  pub is_free : IsPlanned nodes moves client who old.did → (IsWaiting client moves → ⊥) → FollowsOps who.node old.did (own_marks client moves)
  is_free planned free = elim planned [
    | inl done ↦ done.0
    | inr owes ↦ let (before, name, mode, is, asked) = owes in absurd (free (asked_waits who.node name within before mode (own_marks client moves) asked).0)
  ]

  module _ (not_asks : Asks client move.step → ⊥) (p : ℕ) (r : List ℕ) (at : IsNode n p)
      (others : (i : ℕ) (name : List ℕ) → IsNode n i → (i ≡ p → name ≡ r → ⊥) → resource_at (nodes' i) name ≡ resource_at (nodes i) name) where
    abbrev was : Resource
    was = resource_at (nodes p) r

    abbrev is : Resource
    is = resource_at (nodes' p) r

    once_there : AllPairs (λ a b. a ≢ b) (clients_of was)
    once_there = ((each p at).consistent.each r).once

    passes : PassesBy client was move.marks is → IsPlanned nodes moves client who old.did → IsPlanned nodes' (moves ++ move ∷ []) client who old.did
    passes by (inl done) = inl (
      subst (FollowsOps who.node old.did) (sym (own_same client moves move by.none)) done.0,
      λ w. elim (waited client moves move w).1 [ inl asks ↦ not_asks asks | inr before ↦ done.1 before ],
    )
    passes by (inr (before, name, mode, did_is, asked)) =
        let Here = λ (x : Resource). IsAsked who.node client before mode (own_marks client moves) x in
        let there = elim (where_is who.node p name r) as (λ _. Here (resource_at (nodes' who.node) name)) [
          | inl same ↦ at_same nodes' Here who.node p name r same.0 same.1 (goes_on before mode (at_same nodes Here p who.node r name (sym same.0) (sym same.1) asked))
          | inr apart ↦ subst Here (sym (others who.node name within apart)) asked
        ] in
        inr (
          before,
          name,
          mode,
          did_is,
          subst (λ (ms : List Mark). IsAsked who.node client before mode ms (resource_at (nodes' who.node) name)) (sym (own_same client moves move by.none)) there,
        )
      where
        goes_on : (before : List Op) (mode : Mode) → IsAsked who.node client before mode (own_marks client moves) was → IsAsked who.node client before mode (own_marks client moves) is
        goes_on before mode (inl (follows, queued)) = inl (follows, by.queued (record { client = client; mode = mode }) refl queued)
        goes_on before mode (inr (e, so_far, marks_are, follows, waits, of, mode_is)) = inr (e, so_far, marks_are, follows, by.waits e of waits, of, mode_is)

    -- the lock that is asked for is the lock of this name
    here : IsBusy was client → (HasIt was client → ⊥) → IsPlanned nodes moves client who old.did
        → (p ≡ who.node) × ((before : List Op) × (mode : Mode) × (old.did ≡ before ++ Lock r mode ∷ []) × IsAsked who.node client before mode (own_marks client moves) was)
    here busy out planned =
        let first = old.kept_out p r at busy out in
        let node : p ≡ who.node = ((old.stands p r at).0 busy).0 in
        elim planned [
          | inl done ↦ absurd (done.1 first.0)
          | inr owes ↦
              let (before, name, mode, did_is, asked) = owes in
              let same : name ≡ r = last_is_one old.did name r (before, mode, did_is) first.1 in (
                node,
                (
                  before,
                  mode,
                  did_is ∙ ap (λ (x : List ℕ). before ++ Lock x mode ∷ []) same,
                  at_same nodes (λ (x : Resource). IsAsked who.node client before mode (own_marks client moves) x) p who.node r name node (sym same) asked,
                ),
              )
        ]

    there_is : p ≡ who.node → (P : Resource → Type 0) → P is → P (resource_at (nodes' who.node) r)
    there_is node P h = subst (λ (k : ℕ). P (resource_at (nodes' k) r)) node h

    asks_next : IsNextToAsk client was move.marks is → IsPlanned nodes moves client who old.did → IsPlanned nodes' (moves ++ move ∷ []) client who old.did
    asks_next by planned =
        let out : HasIt was client → ⊥ = λ has. not_twice was client by.q once_there (holder_is was client has) by.queued by.client_is in
        let (node, (before, mode, did_is, asked)) = here (queued_is_busy was client by.q by.client_is by.queued) out planned in
        elim asked [
          | inl queued ↦
              let q : Queued = record { client = client; mode = mode } in
              let one : by.q ≡ q = one_place was.queue by.q q (in_queue was.client was.queue once_there) by.queued queued.1 by.client_is in
              subst (IsPlanned nodes' (moves ++ move ∷ []) client who) (sym did_is)
              (made n moves move nodes' client who (each' who.node within) before r mode by.entered by.e queued.0 by.of_client
              (by.mode_is ∙ ap (λ (x : Queued). x.mode) one) by.marks_are (there_is node (λ (x : Resource). use_of x ≡ use_by by.entered by.e) by.use_is))
          | inr waits ↦
              let (e, so_far, marks_are, follows, waits_by, of, mode_is) = waits in
              absurd (not_twice was client by.q once_there (use_waiter was.state was.state.phase was.client e waits_by ∙ ap (λ (k : ℕ). Some k) of) by.queued by.client_is)
        ]

    let_in : IsLetIn client was move.marks is → IsPlanned nodes moves client who old.did → IsPlanned nodes' (moves ++ move ∷ []) client who old.did
    let_in by planned =
        let current : was.client ≡ Some client = use_waiter was.state was.state.phase was.client by.e by.waited ∙ ap (λ (k : ℕ). Some k) by.of_client in
        let out : HasIt was client → ⊥ = λ has. (let held : use_of was ≡ HoldsBy has.0 = held_is (use_of was) has.0 has.1.granted in let waited = by.waited in cc) in
        let (node, (before, mode, did_is, asked)) = here (current_is_busy was client current) out planned in
        elim asked [
          | inl queued ↦ absurd (not_twice was client (record { client = client; mode = mode }) once_there current queued.1 refl)
          | inr waits ↦
              let (e, so_far, marks_are, follows, waits_by, of, mode_is) = waits in
              let one : e ≡ by.e = (let both : WaitsBy e ≡ WaitsBy by.e = sym waits_by ∙ by.waited in cc) in
              let at_p : IsRequestFor p r e = request_there n p (nodes p) r e (each p at) (inl waits_by) in
              let request : IsRequestFor who.node r e × (e.mode ≡ mode) = ((at_p.0 ∙ node, at_p.1), mode_is) in
              let whole : own_marks client (moves ++ move ∷ []) ≡ so_far ++ Requested e ∷ Entered by.e ∷ [] =
              own_more client moves move ∙ ap (λ (ms : List Mark). ms ++ marks_of_client client move.marks) marks_are
              ∙ ap (λ (ms : List Mark). (so_far ++ Requested e ∷ []) ++ ms) by.marks_are ∙ append_assoc so_far (Requested e ∷ []) (Entered by.e ∷ []) in
              inl (
                subst (FollowsOps who.node old.did) (sym whole)
                    (subst (λ (ops : List Op). FollowsOps who.node ops (so_far ++ Requested e ∷ Entered by.e ∷ [])) (sym did_is)
                    (follows_lock who.node before so_far r mode e by.e follows request (subst (λ (x : Entry). IsRequestFor who.node r x × (x.mode ≡ mode)) one request))),
                entered_now client moves move [] by.e by.of_client by.marks_are,
              )
        ]

    pub befallen : Befalls client was move.marks is → IsPlanned nodes moves client who old.did → IsPlanned nodes' (moves ++ move ∷ []) client who old.did
    befallen (inl by) planned = passes by planned
    befallen (inr (inl by)) planned = asks_next by planned
    befallen (inr (inr by)) planned = let_in by planned
