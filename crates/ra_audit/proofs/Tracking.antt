-- What an auditor knows of the messages under way, as the run goes on.
use Rattle.std.proofs.Common.{◌≡◌, ℕ, ◌+◌, ◌-◌, ◌<◌, Result, Ok, Err, List, [], ◌∷◌, ◌++◌, map, length, get_or, set, Some, refl, sym, ap, ◌∙◌, subst, inl, inr, arith}
use Rattle.std.specs.Prelude.{false, All, Contains, slice_get, OnOk, OnErr}
use Rattle.std.specs.Result.{is_err}
use Rattle.std.proofs.lemmas.Bool.{true≢false}
use Rattle.std.specs.List.{range_with_len}
use Rattle.std.proofs.lemmas.List.{append-nil, length-set, get_or-set_same, get_or-set_other}
use Rattle.std.proofs.lemmas.List.Concat.{flat_map-append}
use Rattle.std.proofs.lemmas.List.Elements.{All-nil, All-append, All-weaker, All-set, All-cons, All-head, All-map, All-push}
use Rattle.std.proofs.lemmas.Option.{none-some, same_Some, slice_get_within, get_or_from_slice_get}
use Rattle.std.proofs.lemmas.Bool.{cases_eq}
use Rattle.ra_stamp.specs.declared.message.Message.{Message}
use Rattle.ra_stamp.specs.contracts.message.MessagePartialEq.TheImpl.{eq-value}
use Rattle.std.specs.Map.{lookup}
use Rattle.ra_stamp.specs.declared.entry.Mark.{Mark}
use Rattle.ra_stamp.specs.NodeId.{IsNodeNumber}
use Rattle.ra_frame.specs.declared.frame.Frame.{Frame}
use Rattle.ra_world.specs.declared.step.Step.{Step}
use Rattle.ra_world.specs.declared.step.Step.TheVariants.{Deliver, Lose}
use Rattle.ra_world.specs.Traffic.{Move, IsUnderWay, taken_in, repeated_by}
use Rattle.ra_world.specs.Run.{IsRun, GoesOn}
use Rattle.ra_world.proofs.Moves.{fits_split}
use Rattle.ra_world.specs.World.{WorldState, with_move}
use Rattle.ra_book.specs.declared.book.event.BookKind.{BookKind}
use Rattle.ra_book.specs.declared.book.event.BookKind.TheVariants.{Ask, Leave, Cancel, Forget, Receive}
use Rattle.ra_book.specs.declared.book.event.BookEvent.{BookEvent}
use Rattle.ra_book.specs.Settled.{step_at, frames_in, received_among}
use Rattle.ra_site.specs.declared.site.take_error.TakeError.{TakeError}
use Rattle.ra_book.proofs.Projections.{repeated_in_event}
use Rattle.ra_audit.specs.Audit.{ProgressState, IsAudited, HasSettled, IsForNumber, WasSentIn, FitsRun, CanGoOn, IsDue, IsReady, AtNumber, Takes, TakesHanded, with_more, fresh_progress}
use Rattle.ra_audit.specs.AuditKeeping.{FlightState, LossState, HasClock, IsFlying, NoneFlies, FliesOn, FliesAfter, AreNoted, MessagesAreKnown, IsTracked, StaySent, IsNoted, slot_of}
use Rattle.ra_audit.proofs.AuditSteps.{number_of, repeated_more}
use Rattle.ra_audit.proofs.AuditRounds.{length_of}
use Rattle.ra_audit.proofs.SentFrames.{one_clock, stay_as, stay_lost, stay_sent, sends_are_sent}
use Rattle.ra_audit.proofs.Flying.{framed, in_none}

-- ---- What came

came_as : (nodes nodes' : List ProgressState) (moves moves' : List Move) → StaySent nodes moves nodes' moves' → (events : List BookEvent) → All (WasSentIn nodes moves) (received_among events)
    → All (WasSentIn nodes' moves') (received_among events)
came_as nodes nodes' moves moves' stay events came = All-weaker (WasSentIn nodes moves) (WasSentIn nodes' moves') stay (received_among events) came

received_more : (events : List BookEvent) (e : BookEvent) → received_among (events ++ e ∷ []) ≡ received_among events ++ frames_in e.kind
received_more events e =
    flat_map-append (λ (e : BookEvent). frames_in e.kind) events (e ∷ []) ∙ ap (λ (fs : List Frame). received_among events ++ fs) (append-nil (frames_in e.kind))

-- ---- Messages under way

-- another move
module _ (known : MessagesAreKnown) (n start : ℕ) (nodes nodes' : List ProgressState) (moves : List Move) (move : Move) (flights flights' : FlightState) (clock : ℕ)
    (count : IsNodeNumber n) (run : IsRun n start (moves ++ move ∷ [])) (unrepeated : repeated_by (moves ++ move ∷ []) ≡ [])
    (tracked : IsTracked nodes moves flights) (none : flights.last ≡ []) (after : FliesAfter flights (taken_in move.step) clock move.sends flights')
    (stay : StaySent nodes moves nodes' (moves ++ move ∷ []))
    (own : (message : Message) → Contains move.sends message → WasSentIn nodes' (moves ++ move ∷ []) (record { clock = clock; message = message }))
    (came : All (λ p. All (WasSentIn nodes' (moves ++ move ∷ [])) (received_among p.settled)) nodes') where
  now : List Move
  now = moves ++ move ∷ []

  was_sent : (message : Message) (c : ℕ) → HasClock flights' message c → WasSentIn nodes' (moves ++ move ∷ []) (record { clock = c; message = message })
  was_sent message c (inl noted) = stay (record { clock = c; message = message }) (tracked.sent message c (inl (after.only message c noted).0))
  was_sent message c (inr last) =
      subst (λ (k : ℕ). WasSentIn nodes' (moves ++ move ∷ []) (record { clock = k; message = message })) (sym (last.1 ∙ after.clock_is))
      (own message (subst (λ (ms : List Message). Contains ms message) after.last_is last.0))

  noted_before : (message : Message) → IsFlying flights message → (c : ℕ) × (IsNoted flights message c)
  noted_before message (c, inl noted) = (c, noted)
  noted_before message (c, inr last) = absurd (in_none message (subst (λ (ms : List Message). Contains ms message) none last.0))

  flies : (message : Message) → IsUnderWay (moves ++ move ∷ []) message → IsFlying flights' message
  flies message under = elim ((known.go_on n start moves move message count run unrepeated).0 under) [
    | inl was ↦
        let noted = noted_before message ((tracked.under_way message).0 was.0) in
        (noted.0, inl (after.others message noted.0 was.1 noted.1))
    | inr sent ↦ (flights'.clock, inr (subst (λ (ms : List Message). Contains ms message) (sym after.last_is) sent, refl))
  ]

  under : (message : Message) → IsFlying flights' message → IsUnderWay (moves ++ move ∷ []) message
  under message (c, inl noted) =
      let was = after.only message c noted in
      (known.go_on n start moves move message count run unrepeated).1 (inl ((tracked.under_way message).1 (c, inl was.0), was.1))
  under message (c, inr last) =
      (known.go_on n start moves move message count run unrepeated).1 (inr (subst (λ (ms : List Message). Contains ms message) after.last_is last.0))

  pub tracked_more : IsTracked nodes' (moves ++ move ∷ []) flights'
  tracked_more = record { came = came; sent = was_sent; under_way = λ message. (flies message, under message) }

-- the same messages, noted
pub tracked_on : (nodes : List ProgressState) (moves : List Move) (flights flights' : FlightState) → FliesOn flights flights' → IsTracked nodes moves flights → IsTracked nodes moves flights'
tracked_on nodes moves flights flights' on tracked = record {
  came = tracked.came;
  sent = λ message c has. tracked.sent message c (on.had message c has);
  under_way = λ message. (
    λ under. on.all message ((tracked.under_way message).0 under),
    λ flies. (tracked.under_way message).1 (flies.0, on.had message flies.0 flies.1),
  );
}

-- ---- A step that fits

-- the messages that the step of an event takes
taken_by_event : (node : ℕ) (kind : BookKind) → map (λ f. f.message) (frames_in kind) ≡ taken_in (step_at node kind)
taken_by_event node (Ask client name mode) = refl
taken_by_event node (Leave client name) = refl
taken_by_event node (Cancel client name) = refl
taken_by_event node Forget = refl
taken_by_event node (Receive frame) = refl

-- frames that are noted were sent
pub noted_were_sent : (nodes : List ProgressState) (moves : List Move) (flights : FlightState) (frames : List Frame) → IsTracked nodes moves flights → AreNoted flights frames → All (WasSentIn nodes moves) frames
noted_were_sent nodes moves flights frames tracked noted =
    All-weaker (λ f. IsNoted flights f.message f.clock) (WasSentIn nodes moves) (λ f is. tracked.sent f.message f.clock (inl is)) frames noted

pub noted_was_sent : (nodes : List ProgressState) (moves : List Move) (flights : FlightState) (frame : Frame) → IsTracked nodes moves flights → AreNoted flights (frame ∷ []) → WasSentIn nodes moves frame
noted_was_sent nodes moves flights frame tracked noted = tracked.sent frame.message frame.clock (inl (All-head (λ f. IsNoted flights f.message f.clock) frame [] noted))

-- ---- A frame that does not fit

-- its message is not under way, or was not sent with this clock
pub not_noted : (known : MessagesAreKnown) (w : WorldState) (nodes : List ProgressState) (flights : FlightState) (frame : Frame) → IsAudited w nodes → IsTracked nodes w.moves flights → flights.last ≡ []
    → (AreNoted flights (frame ∷ []) → ⊥) → IsUnderWay w.moves frame.message → WasSentIn nodes w.moves frame → ⊥
not_noted known w nodes flights frame a tracked none not under sent = of ((tracked.under_way frame.message).0 under)
  where
    of : IsFlying flights frame.message → ⊥
    of (c, inr last) = in_none frame.message (subst (λ (ms : List Message). Contains ms frame.message) none last.0)
    of (c, inl noted) =
        let one : c ≡ frame.clock =
        one_clock nodes w.count w.moves (record { clock = c; message = frame.message }) frame a.numbers
        (known.different w.count w.start w.moves a.count a.run a.unrepeated) (tracked.sent frame.message c (inl noted)) sent refl
        in
        not (All-cons (λ f. IsNoted flights f.message f.clock) frame [] (subst (λ (k : ℕ). IsNoted flights frame.message k) one noted) (All-nil (λ f. IsNoted flights f.message f.clock)))

goes_by_way : (w : WorldState) (message : Message) → GoesOn w.count w.start w.moves (Deliver message) → IsUnderWay w.moves message
goes_by_way w message goes =
    (fits_split w.count [] w.moves (record { step = Deliver message; sends = goes.0; marks = goes.1 } ∷ []) goes.2.each_fits).1.0

pub does_not_fit : (known : MessagesAreKnown) (w : WorldState) (nodes : List ProgressState) (flights : FlightState) (node : ℕ) (kind : BookKind) → IsAudited w nodes → IsTracked nodes w.moves flights → flights.last ≡ []
    → (AreNoted flights (frames_in kind) → ⊥) → FitsRun w nodes node kind → ⊥
does_not_fit known w nodes flights node (Ask client name mode) a tracked none not fits = not (All-nil (λ f. IsNoted flights f.message f.clock))
does_not_fit known w nodes flights node (Leave client name) a tracked none not fits = not (All-nil (λ f. IsNoted flights f.message f.clock))
does_not_fit known w nodes flights node (Cancel client name) a tracked none not fits = not (All-nil (λ f. IsNoted flights f.message f.clock))
does_not_fit known w nodes flights node Forget a tracked none not fits = not (All-nil (λ f. IsNoted flights f.message f.clock))
does_not_fit known w nodes flights node (Receive frame) a tracked none not fits =
    not_noted known w nodes flights frame a tracked none not (goes_by_way w frame.message fits.goes_on) (All-head (WasSentIn nodes w.moves) frame [] fits.sent)

-- its message is not under way with this clock, whether or not that is noted
pub not_flying : (known : MessagesAreKnown) (w : WorldState) (nodes : List ProgressState) (flights : FlightState) (frame : Frame) → IsAudited w nodes → IsTracked nodes w.moves flights
    → (HasClock flights frame.message frame.clock → ⊥) → IsUnderWay w.moves frame.message → WasSentIn nodes w.moves frame → ⊥
not_flying known w nodes flights frame a tracked not under sent =
    let flies = (tracked.under_way frame.message).0 under in
    let one : flies.0 ≡ frame.clock =
    one_clock nodes w.count w.moves (record { clock = flies.0; message = frame.message }) frame a.numbers
    (known.different w.count w.start w.moves a.count a.run a.unrepeated) (tracked.sent frame.message flies.0 flies.1) sent refl
    in
    not (subst (HasClock flights frame.message) one flies.1)

-- the frames of an event fly
abbrev pub Fly : FlightState → BookKind → Type 0
Fly flights kind = All (λ f. HasClock flights f.message f.clock) (frames_in kind)

pub does_not_fly : (known : MessagesAreKnown) (w : WorldState) (nodes : List ProgressState) (flights : FlightState) (node : ℕ) (kind : BookKind) → IsAudited w nodes → IsTracked nodes w.moves flights
    → (Fly flights kind → ⊥) → FitsRun w nodes node kind → ⊥
does_not_fly known w nodes flights node (Ask client name mode) a tracked not fits = not (All-nil (λ f. HasClock flights f.message f.clock))
does_not_fly known w nodes flights node (Leave client name) a tracked not fits = not (All-nil (λ f. HasClock flights f.message f.clock))
does_not_fly known w nodes flights node (Cancel client name) a tracked not fits = not (All-nil (λ f. HasClock flights f.message f.clock))
does_not_fly known w nodes flights node Forget a tracked not fits = not (All-nil (λ f. HasClock flights f.message f.clock))
does_not_fly known w nodes flights node (Receive frame) a tracked not fits =
    let P = λ (f : Frame). HasClock flights f.message f.clock in
    not_flying known w nodes flights frame a tracked (λ has. not (All-cons P frame [] has (All-nil P)))
    (goes_by_way w frame.message fits.goes_on) (All-head (WasSentIn nodes w.moves) frame [] fits.sent)

-- an event whose step the run goes on with fits, if its frames fly
pub fits_run : (w : WorldState) (nodes : List ProgressState) (flights : FlightState) (node : ℕ) (kind : BookKind) → IsTracked nodes w.moves flights
    → GoesOn w.count w.start w.moves (step_at node kind) → Fly flights kind → FitsRun w nodes node kind
fits_run w nodes flights node kind tracked goes fly = record {
  goes_on = goes;
  sent = All-weaker (λ f. HasClock flights f.message f.clock) (WasSentIn nodes w.moves) (λ f has. tracked.sent f.message f.clock has) (frames_in kind) fly;
}

pub noted_fly : (flights : FlightState) (kind : BookKind) → AreNoted flights (frames_in kind) → Fly flights kind
noted_fly flights kind noted = All-weaker (λ f. IsNoted flights f.message f.clock) (λ f. HasClock flights f.message f.clock) (λ f is. inl is) (frames_in kind) noted

-- the next event of the node at this place, which is due, can continue the run
pub can_go_on : (w new : WorldState) (nodes nodes' : List ProgressState) (flights : FlightState) (place : ℕ) (p : ProgressState) (node : ℕ) (e : BookEvent) (step : Step)
    → new ≡ w → nodes' ≡ nodes → place < length nodes → p ≡ get_or nodes place p → node ≡ p.node → slice_get p.waiting 0 ≡ Some e → IsReady nodes p
    → step ≡ step_at node e.kind → GoesOn w.count w.start w.moves step → IsTracked nodes w.moves flights → Fly flights e.kind → CanGoOn new nodes'
can_go_on w new nodes nodes' flights place p node e step same same_nodes within at number is ready step_is goes tracked fly =
    subst (λ (v : WorldState). CanGoOn v nodes') (sym same) (subst (CanGoOn w) (sym same_nodes) (
      place,
      p,
      within,
      sym at,
      (
        e,
        is,
        subst (λ (x : BookEvent). IsDue nodes x.kind) (same_Some ready.0 e (sym ready.1 ∙ is)) ready.2,
        fits_run w nodes flights p.node e.kind tracked
            (subst (λ (i : ℕ). GoesOn w.count w.start w.moves (step_at i e.kind)) number (subst (GoesOn w.count w.start w.moves) step_is goes)) fly,
      ),
    ))

-- ---- An event that is put

module _ (known : MessagesAreKnown) (w : WorldState) (nodes : List ProgressState) (place : ℕ) (p q : ProgressState) (e : BookEvent) (sends : List Message) (marks : List Mark)
    (flights flights' : FlightState) (a : IsAudited w nodes) (within : place < length nodes) (at : p ≡ get_or nodes place p) (for_node : IsForNumber p.node e.kind)
    (node_is : q.node ≡ p.node) (settled_is : q.settled ≡ p.settled ++ e ∷ [])
    (run : IsRun w.count w.start (with_move w (step_at p.node e.kind) sends marks).moves)
    (noted : AreNoted flights (frames_in e.kind)) (none : flights.last ≡ [])
    (after : FliesAfter flights (map (λ f. f.message) (frames_in e.kind)) e.clock sends flights') (tracked : IsTracked nodes w.moves flights) where
  abbrev m : Move
  m = record { step = step_at p.node e.kind; sends = sends; marks = marks }

  settled : HasSettled w.moves p
  settled = subst (HasSettled w.moves) (sym at) (a.events place p within)

  stays : StaySent nodes w.moves (set nodes place q) (w.moves ++ m ∷ [])
  stays = stay_sent w.moves nodes w.count place p q e sends marks a.numbers settled within at for_node node_is settled_is

  abbrev Came : ProgressState → Type 0
  Came x = All (WasSentIn (set nodes place q) (w.moves ++ m ∷ [])) (received_among x.settled)

  came_before : (x : ProgressState) → All (WasSentIn nodes w.moves) (received_among x.settled) → Came x
  came_before x came = All-weaker (WasSentIn nodes w.moves) (WasSentIn (set nodes place q) (w.moves ++ m ∷ [])) stays (received_among x.settled) came

  came_here : Came q
  came_here =
      subst (λ (events : List BookEvent). All (WasSentIn (set nodes place q) (w.moves ++ m ∷ [])) (received_among events)) (sym settled_is)
      (subst (All (WasSentIn (set nodes place q) (w.moves ++ m ∷ []))) (sym (received_more p.settled e))
      (All-append (WasSentIn (set nodes place q) (w.moves ++ m ∷ [])) (received_among p.settled) (frames_in e.kind)
      (came_before p (subst (λ (x : ProgressState). All (WasSentIn nodes w.moves) (received_among x.settled)) (sym at) (tracked.came place p within)))
      (All-weaker (WasSentIn nodes w.moves) (WasSentIn (set nodes place q) (w.moves ++ m ∷ [])) stays (frames_in e.kind)
      (noted_were_sent nodes w.moves flights (frames_in e.kind) tracked noted))))

  came : All Came (set nodes place q)
  came = All-set Came nodes place q came_here (All-weaker (λ x. All (WasSentIn nodes w.moves) (received_among x.settled)) Came came_before nodes tracked.came)

  unrepeated : repeated_by (w.moves ++ m ∷ []) ≡ []
  unrepeated = repeated_more w.moves m ∙ (λ j. a.unrepeated j ++ repeated_in_event p.node e.kind j)

  own : (message : Message) → Contains sends message → WasSentIn (set nodes place q) (w.moves ++ m ∷ []) (record { clock = e.clock; message = message })
  own =
      let number : p.node ≡ place + 1 = ap (λ (x : ProgressState). x.node) at ∙ number_of nodes w.count place p a.numbers within in
      let long = length_of w nodes a in
      sends_are_sent w.moves nodes w.count place p q e sends marks a.numbers settled within at for_node node_is settled_is
      (known.own w.count w.start (w.moves ++ m ∷ []) p.node a.count run (omega (arith, number)) (omega (arith, number, within, long)))

  tracked_here : IsTracked (set nodes place q) (w.moves ++ m ∷ []) flights'
  tracked_here =
      tracked_more known w.count w.start nodes (set nodes place q) w.moves m flights flights' e.clock a.count run unrepeated tracked none
      (subst (λ (taken : List Message). FliesAfter flights taken e.clock sends flights') (taken_by_event p.node e.kind) after) stays own came

-- what an event leaves
pub tracked_by_event : (known : MessagesAreKnown) (w : WorldState) (nodes : List ProgressState) (place : ℕ) (p q : ProgressState) (e : BookEvent) (sends : List Message) (marks : List Mark)
    (flights flights' : FlightState) (step : Step) (node : ℕ) (new : WorldState) → IsAudited w nodes → place < length nodes → p ≡ get_or nodes place p → IsForNumber p.node e.kind
    → q.node ≡ p.node → q.settled ≡ p.settled ++ e ∷ [] → node ≡ p.node → step ≡ step_at node e.kind → new ≡ with_move w step sends marks → IsRun new.count new.start new.moves
    → AreNoted flights (frames_in e.kind) → flights.last ≡ [] → FliesAfter flights (map (λ f. f.message) (frames_in e.kind)) e.clock sends flights' → IsTracked nodes w.moves flights
    → IsTracked (set nodes place q) new.moves flights' × StaySent nodes w.moves (set nodes place q) new.moves
tracked_by_event known w nodes place p q e sends marks flights flights' step node new a within at for_node node_is settled_is number step_is new_is run noted none after tracked =
    let is : new ≡ with_move w (step_at p.node e.kind) sends marks =
    new_is ∙ ap (λ (s : Step). with_move w s sends marks) (step_is ∙ ap (λ (i : ℕ). step_at i e.kind) number)
    in
    let ran : IsRun w.count w.start (with_move w (step_at p.node e.kind) sends marks).moves = subst (λ (v : WorldState). IsRun v.count v.start v.moves) is run in
    subst (λ (v : WorldState). IsTracked (set nodes place q) v.moves flights' × StaySent nodes w.moves (set nodes place q) v.moves) (sym is) (
      tracked_here known w nodes place p q e sends marks flights flights' a within at for_node node_is settled_is ran noted none after tracked,
      stays known w nodes place p q e sends marks flights flights' a within at for_node node_is settled_is ran noted none after tracked,
    )

-- ---- A loss that is put

pub tracked_by_loss : (known : MessagesAreKnown) (w : WorldState) (nodes : List ProgressState) (message : Message) (sends : List Message) (marks : List Mark) (flights flights' : FlightState) (new : WorldState)
    → IsAudited w nodes → new ≡ with_move w (Lose message) sends marks → IsRun new.count new.start new.moves → flights.last ≡ []
    → FliesAfter flights (message ∷ []) flights.clock flights.last flights' → IsTracked nodes w.moves flights
    → IsTracked nodes new.moves flights' × StaySent nodes w.moves nodes new.moves
tracked_by_loss known w nodes message sends marks flights flights' new a new_is run none after tracked =
    let m : Move = record { step = Lose message; sends = sends; marks = marks } in
    let here : IsRun w.count w.start (w.moves ++ m ∷ []) = subst (λ (v : WorldState). IsRun v.count v.start v.moves) new_is run in
    let nothing : sends ≡ [] = (fits_split w.count [] w.moves (m ∷ []) here.each_fits).1.0.1 in
    let stay = stay_lost nodes w.moves message sends marks in
    subst (λ (v : WorldState). IsTracked nodes v.moves flights' × StaySent nodes w.moves nodes v.moves) (sym new_is) (
      tracked_more known w.count w.start nodes nodes w.moves m flights flights' flights.clock a.count here
          (repeated_more w.moves m ∙ append-nil (repeated_by w.moves) ∙ a.unrepeated) tracked none
          (subst (λ (ms : List Message). FliesAfter flights (message ∷ []) flights.clock ms flights') (none ∙ sym nothing) after) stay
          (λ x at. absurd (in_none x (subst (λ (ms : List Message). Contains ms x) nothing at)))
          (All-weaker (λ p. All (WasSentIn nodes w.moves) (received_among p.settled)) (λ p. All (WasSentIn nodes (w.moves ++ m ∷ [])) (received_among p.settled))
          (λ p. came_as nodes nodes w.moves (w.moves ++ m ∷ []) stay p.settled) nodes tracked.came),
      stay,
    )

-- ---- Events that are taken

-- a node is another one, with the same events in the run
module _ (nodes : List ProgressState) (place : ℕ) (p q : ProgressState) (moves : List Move) (found : slice_get nodes place ≡ Some p) (node : q.node ≡ p.node) (settled : q.settled ≡ p.settled) where
  within : place < length nodes
  within = slice_get_within nodes place p found

  same_at : (k : ℕ) (d : ProgressState) → k < length nodes → ((get_or (set nodes place q) k d).node ≡ (get_or nodes k d).node) × ((get_or (set nodes place q) k d).settled ≡ (get_or nodes k d).settled)
  same_at k d low = elim (cases_eq k place) [
    | inl same ↦
        let new : get_or (set nodes place q) k d ≡ q = ap (λ (i : ℕ). get_or (set nodes place q) i d) same ∙ get_or-set_same nodes place q d within in
        let old : get_or nodes k d ≡ p = ap (λ (i : ℕ). get_or nodes i d) same ∙ get_or_from_slice_get nodes place p d found in (
          ap (λ (x : ProgressState). x.node) new ∙ node ∙ ap (λ (x : ProgressState). x.node) (sym old),
          ap (λ (x : ProgressState). x.settled) new ∙ settled ∙ ap (λ (x : ProgressState). x.settled) (sym old),
        )
    | inr differs ↦
        let same : get_or (set nodes place q) k d ≡ get_or nodes k d = get_or-set_other nodes place k q d differs in
        (ap (λ (x : ProgressState). x.node) same, ap (λ (x : ProgressState). x.settled) same)
  ]

  stay_set : StaySent nodes moves (set nodes place q) moves
  stay_set = stay_as nodes (set nodes place q) moves (length-set nodes place q) same_at

  tracked_set : (flights : FlightState) → IsTracked nodes moves flights → IsTracked (set nodes place q) moves flights
  tracked_set flights tracked = record {
    came = λ k d low.
        let low' : k < length nodes = omega (arith, low, length-set nodes place q) in
        subst (λ (events : List BookEvent). All (WasSentIn (set nodes place q) moves) (received_among events)) (sym (same_at k d low').1)
        (came_as nodes (set nodes place q) moves moves stay_set (get_or nodes k d).settled (tracked.came k d low'));
    sent = λ message c has. stay_set (record { clock = c; message = message }) (tracked.sent message c has);
    under_way = tracked.under_way;
  }

abbrev StaysTracked : List ProgressState → List ProgressState → List Move → FlightState → Type 0
StaysTracked nodes nodes' moves flights = IsTracked nodes' moves flights × StaySent nodes moves nodes' moves

stays_as_is : (nodes nodes' : List ProgressState) (moves : List Move) (flights : FlightState) → nodes' ≡ nodes → IsTracked nodes moves flights → StaysTracked nodes nodes' moves flights
stays_as_is nodes nodes' moves flights same tracked =
    subst (λ (ns : List ProgressState). StaysTracked nodes ns moves flights) (sym same) (tracked, λ frame was. was)

pub tracked_taken : (nodes nodes' : List ProgressState) (node after : ℕ) (events : List BookEvent) (answer : Result (Unit {0}) TakeError) (moves : List Move) (flights : FlightState)
    → Takes nodes node after events answer nodes' → IsTracked nodes moves flights → StaysTracked nodes nodes' moves flights
tracked_taken nodes nodes' node after events answer moves flights takes tracked = of answer takes.ok takes.err
  where
    of : (answer : Result (Unit {0}) TakeError) → OnOk answer (AtNumber nodes node (λ p. nodes' ≡ set nodes (node - 1) (with_more p events))) → OnErr answer (nodes' ≡ nodes)
        → StaysTracked nodes nodes' moves flights
    of (Err e) ok err = stays_as_is nodes nodes' moves flights err tracked
    of (Ok x) ok err =
        let p = ok.0 in
        let q = with_more p events in
        subst (λ (ns : List ProgressState). StaysTracked nodes ns moves flights) (sym ok.2)
        (tracked_set nodes (node - 1) p q moves ok.1 refl refl flights tracked, stay_set nodes (node - 1) p q moves ok.1 refl refl)

pub tracked_handed : (nodes nodes' : List ProgressState) (losing losing' : List Frame) (node : ℕ) (answer : Result (Unit {0}) TakeError) (moves : List Move) (flights : FlightState)
    → TakesHanded nodes losing node answer nodes' losing' → IsTracked nodes moves flights → StaysTracked nodes nodes' moves flights
tracked_handed nodes nodes' losing losing' node answer moves flights (inl none) tracked = stays_as_is nodes nodes' moves flights none.2 tracked
tracked_handed nodes nodes' losing losing' node answer moves flights (inr some) tracked =
    let p = some.0 in
    let q = some.2.0 in
    let takes = some.2.2 in
    subst (λ (ns : List ProgressState). StaysTracked nodes ns moves flights) (sym some.2.3) (
      tracked_set nodes (node - 1) p q moves some.1 takes.goes_on.node takes.settled flights tracked,
      stay_set nodes (node - 1) p q moves some.1 takes.goes_on.node takes.settled,
    )

-- losses that were sent still were
pub lost_still : (nodes nodes' : List ProgressState) (moves moves' : List Move) (lost : List Frame) → StaySent nodes moves nodes' moves' → All (WasSentIn nodes moves) lost → All (WasSentIn nodes' moves') lost
lost_still nodes nodes' moves moves' lost stay sent = All-weaker (WasSentIn nodes moves) (WasSentIn nodes' moves') stay lost sent

-- ---- The first moment

pub tracked_first : (nodes : List ProgressState) (count : ℕ) (flights : FlightState) → nodes ≡ map fresh_progress (range_with_len 1 count) → NoneFlies flights → IsTracked nodes [] flights
tracked_first nodes count flights nodes_are none =
    subst (λ (ns : List ProgressState). IsTracked ns [] flights) (sym nodes_are) (record {
      came = All-map (λ p. All (WasSentIn first []) (received_among p.settled)) fresh_progress (range_with_len 1 count) (λ k d low. All-nil (WasSentIn first []));
      sent = λ message c has. absurd (by_case message c has);
      under_way = λ message. (λ under. absurd (in_none message (subst (λ (ms : List Message). Contains ms message) under.1 under.2)), λ flies. absurd (by_case message flies.0 flies.1));
    })
  where
    first : List ProgressState
    first = map fresh_progress (range_with_len 1 count)

    by_case : (message : Message) (c : ℕ) → HasClock flights message c → ⊥
    by_case message c (inl (inr among)) = none-some c (sym (ap (lookup (eq-value.it message)) none.others) ∙ among)
    by_case message c (inl (inl is)) = none-some (framed c message) (sym (none.slots (slot_of flights.nodes message)) ∙ is)
    by_case message c (inr last) = in_none message (subst (λ (ms : List Message). Contains ms message) none.last last.0)

-- ---- Nothing is put

pub tracked_kept : (w new : WorldState) (nodes nodes' : List ProgressState) (flights flights' : FlightState) → new ≡ w → nodes' ≡ nodes → FliesOn flights flights' → IsTracked nodes w.moves flights
    → IsTracked nodes' new.moves flights'
tracked_kept w new nodes nodes' flights flights' same same_nodes on tracked =
    subst (λ (v : WorldState). IsTracked nodes' v.moves flights') (sym same)
    (subst (λ (ns : List ProgressState). IsTracked ns w.moves flights') (sym same_nodes) (tracked_on nodes w.moves flights flights' on tracked))

pub stay_kept : (w new : WorldState) (nodes nodes' : List ProgressState) → new ≡ w → nodes' ≡ nodes → StaySent nodes w.moves nodes' new.moves
stay_kept w new nodes nodes' same same_nodes =
    subst (λ (v : WorldState). StaySent nodes w.moves nodes' v.moves) (sym same)
    (subst (λ (ns : List ProgressState). StaySent nodes w.moves ns w.moves) (sym same_nodes) (λ frame was. was))

-- ---- Losses in the run

pub sent_more_lost : (nodes : List ProgressState) (moves moves' : List Move) (lost lost' : List Frame) (frame : Frame) → StaySent nodes moves nodes moves' → All (WasSentIn nodes moves) lost → WasSentIn nodes moves' frame
    → lost' ≡ lost ++ frame ∷ [] → All (WasSentIn nodes moves') lost'
sent_more_lost nodes moves moves' lost lost' frame stay sent now is =
    subst (All (WasSentIn nodes moves')) (sym is) (All-push (WasSentIn nodes moves') lost frame (lost_still nodes nodes moves moves' lost stay sent) now)

-- what holds of a call that has not failed
pub if_not_err : {E : Type 0} (A : Type 0) (r : Result (Unit {0}) E) → is_err r ≡ false → OnOk r A → A
if_not_err A (Ok x) none h = h
if_not_err A (Err e) none h = absurd (true≢false none)

-- ---- Frames that are noted as lost

pub same_lost : {E : Type 0} (old new : LossState) (losing noted : List Frame) (r : Result (Unit {0}) E) → OnOk r (new ≡ record old { losing = losing; noted = noted }) → OnErr r (new ≡ old) → new.lost ≡ old.lost
same_lost old new losing noted (Ok x) ok err = ap (λ (l : LossState). l.lost) ok
same_lost old new losing noted (Err e) ok err = ap (λ (l : LossState). l.lost) err

-- ---- Nodes that are written back

pub written_back : (items back new : List ProgressState) (moves : List Move) (flights : FlightState) (lost : List Frame) → back ≡ new → StaysTracked items new moves flights → All (WasSentIn items moves) lost
    → IsTracked back moves flights × All (WasSentIn back moves) lost
written_back items back new moves flights lost same stays sent =
    subst (λ (ns : List ProgressState). IsTracked ns moves flights × All (WasSentIn ns moves) lost) (sym same)
    (stays.0, lost_still items new moves moves lost stays.1 sent)
