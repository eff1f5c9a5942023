-- Rounds in which what is said arrives: what is proved of the first host holds for the second one by a swap.
use Rattle.std.proofs.Common.{◌≡◌, ◌≤◌, ◌+◌, ◌==◌, ◌⊎◌, inl, inr, ℕ, List, [], ◌∷◌, ◌++◌, Bool, true, false, not, ◌&&◌, cond, length, max, refl, sym, ◌∙◌, ap, subst, Some, None, arith, zero, suc, ◌≢◌}
use Rattle.std.specs.Prelude.{nat_lt}
use Rattle.std.proofs.lemmas.Bool.{cases_Bool, cond_both, and_from, and_right, eq-eqb, both_ways, false≢true, and_cases, eqb-false}
use Rattle.ra_link.specs.declared.message.Message.TheVariants.{Ack}
use Rattle.ra_link.specs.declared.link.Link.{Link}
use Rattle.ra_link.specs.Link.{greatest, asks, hears_hello, hears_frame, hears_ack, is_nonce, is_above, is_due, is_next, is_ack, may_replay, replays, syncs, ack_to, said_again}
use Rattle.ra_link.specs.Pair.{Host, Packet, Event, Turn, Pair, Who, silent, says, ends, linked, replays_book, syncs_book, acts, rests, turn, happens, run}
use Rattle.ra_link.specs.Pair.Event.{Start, Connects, Comes, Replays, Makes, Syncs, Says_hello, Says_ack, Says_old, Says_frame, Crashes}
use Rattle.ra_link.specs.Pair.Who.{One, Two}
use Rattle.ra_link.specs.Progress.{opposite, syncs_and_acknowledges, says_frames, says_again, after_seconds, HasEnded, OneHasEnded}
use Rattle.ra_link.specs.PutBack.Move.{Goes as Does}
use Rattle.ra_link.proofs.Flow.{BookOf}
use Rattle.ra_link.proofs.PutBack.{IsKnown, move_known}
use Rattle.ra_link.proofs.Prefixes.{IsKept, move_kept}

-- ---- The other way round

abbrev pub swap : Pair → Pair
swap p = record { one = p.two; two = p.one; to_one = p.to_two; to_two = p.to_one }

abbrev pub swapped : List (Who × Event) → List (Who × Event)
swapped [] = []
swapped (e ∷ events) = (opposite e.0, e.1) ∷ swapped events

pub happens_swap : (p : Pair) (who : Who) (e : Event) → swap (happens p who e) ≡ happens (swap p) (opposite who) e
happens_swap p One e = refl
happens_swap p Two e = refl

pub run_swap : (p : Pair) (events : List (Who × Event)) → run (swap p) (swapped events) ≡ swap (run p events)
run_swap p [] = refl
run_swap p (e ∷ events) = ap (λ q. run q (swapped events)) (sym (happens_swap p e.0 e.1)) ∙ run_swap (happens p e.0 e.1) events

pub swapped_append : (xs ys : List (Who × Event)) → swapped (xs ++ ys) ≡ swapped xs ++ swapped ys
swapped_append [] ys = refl
swapped_append (x ∷ xs) ys = ap (λ zs. (opposite x.0, x.1) ∷ zs) (swapped_append xs ys)

pub swapped_frames : (past n : ℕ) → swapped (says_frames One past n) ≡ says_frames Two past n
swapped_frames past zero = refl
swapped_frames past (suc n) =
    swapped_append (says_frames One past n) ((One, Says_frame (past + n + 1)) ∷ (Two, Comes 0) ∷ [])
    ∙ ap (λ xs. xs ++ (Two, Says_frame (past + n + 1)) ∷ (One, Comes 0) ∷ []) (swapped_frames past n)

pub run_append : (p : Pair) (xs ys : List (Who × Event)) → run p (xs ++ ys) ≡ run (run p xs) ys
run_append p [] ys = refl
run_append p (x ∷ xs) ys = run_append (happens p x.0 x.1) xs ys

-- ---- A turn of a host that is up

abbrev pub turned_one : Pair → Turn → Pair
turned_one p t = record { one = t.host; two = p.two; to_one = p.to_one; to_two = t.says ++ p.to_two }

abbrev pub turned_two : Pair → Turn → Pair
turned_two p t = record { one = p.one; two = t.host; to_one = t.says ++ p.to_one; to_two = p.to_two }

pub one_acts : (p : Pair) → p.one.up ≡ true → (e : Event) → happens p One e ≡ turned_one p (acts p.to_one p.one e)
one_acts p up e = ap (λ b. turned_one p (cond b (acts p.to_one p.one e) (rests p.one e))) up

pub two_acts : (p : Pair) → p.two.up ≡ true → (e : Event) → happens p Two e ≡ turned_two p (acts p.to_two p.two e)
two_acts p up e = ap (λ b. turned_two p (cond b (acts p.to_two p.two e) (rests p.two e))) up

-- ---- Links

abbrev pub AsBefore : Link → Link → Type 0
AsBefore l x = (x.own ≡ l.own) × (x.adopted ≡ l.adopted) × (x.asked ≤ l.asked + 1)

pub hello_as_before : (l : Link) (start : ℕ) → AsBefore l (hears_hello l start)
hello_as_before l start =
    let known : Link = record l { heard = Some start } in
    cond_both (is_nonce l.heard start) l (asks known) (AsBefore l) (λ _. (refl, refl, omega arith))
    (λ _. cond_both (nat_lt l.asked greatest) (record known { asked = l.asked + 1; pending = Some l.acknowledged; is_old = false }) known (AsBefore l) (λ _. (refl, refl, omega arith)) (λ _. (refl, refl, omega arith)))

abbrev pub Readied : Host → Turn → Type 0
Readied h t = (t.host.up ≡ true) × (t.host.link.adopted ≡ h.link.adopted) × (t.host.link.own ≡ h.link.own) × (t.host.link.ready ≡ true) × (t.host.sent ≡ h.sent) × (t.host.sent_kept ≡ h.sent_kept) × (t.host.link.acknowledged ≡ h.link.acknowledged)

pub ready_since : (ready confirmed : Bool) → confirmed ≡ true → (not ready && confirmed) ≡ false → ready ≡ true
ready_since true confirmed c e = refl
ready_since false confirmed c e = absurd (both_ways confirmed e c)

abbrev pub Takes : Host → ℕ → Turn → Type 0
Takes h n t = (t.host.up ≡ true) × (t.host.link.adopted ≡ h.link.adopted) × (t.host.link.own ≡ h.link.own) × (t.host.link.ready ≡ true) × (t.host.sent ≡ h.sent) × (t.host.sent_kept ≡ h.sent_kept) × (n + 1 ≤ length t.host.taken)

abbrev pub LikeLink : Link → Link → Type 0
LikeLink l x = (x.own ≡ l.own) × (x.adopted ≡ l.adopted) × (x.ready ≡ l.ready)

pub frame_as_before : (l : Link) (start number : ℕ) → LikeLink l (hears_frame l start number)
frame_as_before l start number = cond_both (is_next l start number) (record l { taken = l.taken + 1 }) l (LikeLink l) (λ _. (refl, refl, refl)) (λ _. (refl, refl, refl))

-- a frame that is not the next one, of the adopted start, was taken before
pub not_next : (l : Link) (start n : ℕ) → is_due l start ≡ true → n ≤ l.taken → is_next l start (n + 1) ≡ false → n + 1 ≤ l.taken
not_next l start n due le e =
    elim (and_cases (is_due l start) (n + 1 == l.taken + 1) e) [
      | inl f ↦ absurd (both_ways (is_due l start) f due)
      | inr f ↦ let ne : n + 1 ≢ l.taken + 1 = eqb-false (n + 1) (l.taken + 1) f in omega arith
    ]

-- ---- What is known of every pair

-- what is known of every pair, also if books are put back
pub record IsSure (p : Pair) : Type 0 where
  pub known : IsKnown p
  pub kept : IsKept p

pub event_sure : (p : Pair) → IsSure p → (who : Who) (e : Event) → IsSure (happens p who e)
event_sure p h One e = record { known = move_known p h.known One (Does e); kept = move_kept p h.known h.kept One (Does e) }
event_sure p h Two e = record { known = move_known p h.known Two (Does e); kept = move_kept p h.known h.kept Two (Does e) }

pub run_sure : (p : Pair) → IsSure p → (events : List (Who × Event)) → IsSure (run p events)
run_sure p h [] = h
run_sure p h (e ∷ events) = run_sure (happens p e.0 e.1) (event_sure p h e.0 e.1) events

pub swap_sure : (p : Pair) → IsSure p → IsSure (swap p)
swap_sure p h =
    record {
      known = record { one = h.known.two; two = h.known.one; from_one = h.known.from_two; from_two = h.known.from_one };
      kept = record { one = h.kept.two; two = h.kept.one; there = h.kept.back; back = h.kept.there };
    }

-- ---- Who has ended stays down

-- no start and no crash
abbrev pub calm : Event → Bool
calm (Start nonce) = false
calm Connects = true
calm (Comes which) = true
calm Replays = true
calm (Makes frame) = true
calm Syncs = true
calm Says_hello = true
calm Says_ack = true
calm Says_old = true
calm (Says_frame number) = true
calm (Crashes sent taken) = false

abbrev pub AllCalm : List (Who × Event) → Type 0
AllCalm [] = Unit {0}
AllCalm (e ∷ events) = (calm e.1 ≡ true) × AllCalm events

pub rests_calm : (h : Host) (e : Event) → calm e ≡ true → rests h e ≡ silent h
rests_calm h (Start nonce) c = absurd (false≢true c)
rests_calm h Connects c = refl
rests_calm h (Comes which) c = refl
rests_calm h Replays c = refl
rests_calm h (Makes frame) c = refl
rests_calm h Syncs c = refl
rests_calm h Says_hello c = refl
rests_calm h Says_ack c = refl
rests_calm h Says_old c = refl
rests_calm h (Says_frame number) c = refl
rests_calm h (Crashes sent taken) c = absurd (false≢true c)

pub turn_down : (back : List Packet) (h : Host) (e : Event) → h.up ≡ false → calm e ≡ true → turn back h e ≡ silent h
turn_down back h e down c = ap (λ t. cond t (acts back h e) (rests h e)) down ∙ rests_calm h e c

pub ended_stays : (p : Pair) → OneHasEnded p → (who : Who) (e : Event) → calm e ≡ true → OneHasEnded (happens p who e)
ended_stays p (inl h) One e c = inl (subst (λ t. HasEnded t.host) (sym (turn_down p.to_one p.one e h.down c)) h)
ended_stays p (inl h) Two e c = inl h
ended_stays p (inr h) One e c = inr h
ended_stays p (inr h) Two e c = inr (subst (λ t. HasEnded t.host) (sym (turn_down p.to_two p.two e h.down c)) h)

pub run_ended : (p : Pair) → OneHasEnded p → (events : List (Who × Event)) → AllCalm events → OneHasEnded (run p events)
run_ended p h [] c = h
run_ended p h (e ∷ events) c = run_ended (happens p e.0 e.1) (ended_stays p h e.0 e.1 c.0) events c.1

pub calm_append : (xs ys : List (Who × Event)) → AllCalm xs → AllCalm ys → AllCalm (xs ++ ys)
calm_append [] ys g h = h
calm_append (x ∷ xs) ys g h = (g.0, calm_append xs ys g.1 h)

pub calm_frames : (who : Who) (past n : ℕ) → AllCalm (says_frames who past n)
calm_frames who past zero = tt
calm_frames who past (suc n) = calm_append (says_frames who past n) ((who, Says_frame (past + n + 1)) ∷ (opposite who, Comes 0) ∷ []) (calm_frames who past n) (refl, (refl, tt))

calm_again : (p : Pair) → AllCalm (says_again p)
calm_again p =
    let l = p.one.link in
    let m = p.two.link in
    let A = says_frames One l.acknowledged (said_again l) in
    let B = says_frames Two m.acknowledged (said_again m) in
    let C = syncs_and_acknowledges One in
    calm_append ((A ++ B) ++ C) (syncs_and_acknowledges Two)
    (calm_append (A ++ B) C (calm_append A B (calm_frames One l.acknowledged (said_again l)) (calm_frames Two m.acknowledged (said_again m))) (refl, (refl, (refl, tt))))
    (refl, (refl, (refl, tt)))

pub seconds_ended : (n : ℕ) (p : Pair) → OneHasEnded p → OneHasEnded (after_seconds n p)
seconds_ended zero p h = h
seconds_ended (suc n) p h = seconds_ended n (run p (says_again p)) (run_ended p h (says_again p) (calm_again p))

pub swap_ended : (p : Pair) → OneHasEnded p → OneHasEnded (swap p)
swap_ended p (inl h) = inr h
swap_ended p (inr h) = inl h

-- ---- Two hosts that are up, each of which has adopted the other's start

pub record Live (p : Pair) : Type 0 where
  pub sure : IsSure p
  pub up_one : p.one.up ≡ true
  pub up_two : p.two.up ≡ true
  pub adopted_one : p.one.link.adopted ≡ Some p.two.link.own
  pub adopted_two : p.two.link.adopted ≡ Some p.one.link.own

pub swap_live : (p : Pair) → Live p → Live (swap p)
swap_live p h = record { sure = swap_sure p h.sure; up_one = h.up_two; up_two = h.up_one; adopted_one = h.adopted_two; adopted_two = h.adopted_one }

pub book_one : (p : Pair) → Live p → BookOf p.one p.one.link
book_one p h = h.sure.kept.one.book.link h.up_one

pub book_two : (p : Pair) → Live p → BookOf p.two p.two.link
book_two p h = h.sure.kept.two.book.link h.up_two

-- both have asked, and adopted each other's start
pub record BothAsked (p q : Pair) : Type 0 where
  pub live : Live q
  pub sent_one : q.one.sent ≡ p.one.sent
  pub sent_two : q.two.sent ≡ p.two.sent
  pub taken_one : q.one.taken ≡ p.one.taken
  pub taken_two : q.two.taken ≡ p.two.taken

-- ---- A sync and an ack

pub record Acked (p q : Pair) : Type 0 where
  pub live : Live q
  pub confirmed_one : q.one.link.confirmed ≡ p.one.link.confirmed
  pub confirmed_two : q.two.link.confirmed ≡ true
  pub ready_one : q.one.link.ready ≡ p.one.link.ready
  pub ready_two : q.two.link.ready ≡ p.two.link.ready
  pub sent_one : q.one.sent ≡ p.one.sent
  pub sent_two : q.two.sent ≡ p.two.sent
  pub taken_one : q.one.taken ≡ p.one.taken
  pub taken_two : q.two.taken ≡ p.two.taken
  pub kept_one : q.one.sent_kept ≡ length p.one.sent
  pub kept_two : q.two.sent_kept ≡ p.two.sent_kept
  pub acknowledged_one : q.one.link.acknowledged ≡ p.one.link.acknowledged
  pub acknowledged_two : length p.one.taken ≤ q.two.link.acknowledged

pub acks_one : (p : Pair) → Live p → OneHasEnded (run p (syncs_and_acknowledges One)) ⊎ Acked p (run p (syncs_and_acknowledges One))
acks_one p h =
    let l = p.one.link in
    let m = p.two.link in
    let k : BookOf p.one l = book_one p h in
    let ack : Packet = record { message = Ack l.own m.own l.taken; frame = [] } in
    let heard : Link = record m { acknowledged = max m.acknowledged l.taken; confirmed = true } in
    let p1 : Pair = record { one = syncs_book p.one; two = p.two; to_one = p.to_one; to_two = p.to_two } in
    let p2 : Pair = record { one = syncs_book p.one; two = p.two; to_one = p.to_one; to_two = ack ∷ p.to_two } in
    let p3 : Pair = record { one = syncs_book p.one; two = linked p.two heard; to_one = p.to_one; to_two = ack ∷ p.to_two } in
    let e1 : happens p One Syncs ≡ p1 = one_acts p h.up_one Syncs in
    let e2 : happens p1 One Says_ack ≡ p2 =
    one_acts p1 h.up_one Says_ack
    ∙ ap (λ o. turned_one p1 (says p1.one (ack_to o (syncs l)))) h.adopted_one
    ∙ ap (λ b. turned_one p1 (says p1.one (cond b (Some (Ack l.own m.own l.taken)) None))) (eq-eqb l.taken l.taken refl) in
    let counts : is_ack m l.own m.own ≡ true =
    and_from (is_nonce m.adopted l.own) (m.own == m.own) (ap (λ o. is_nonce o l.own) h.adopted_two ∙ eq-eqb l.own l.own refl) (eq-eqb m.own m.own refl) in
    let first : run p (syncs_and_acknowledges One) ≡ happens p2 Two (Comes 0) =
    ap (λ q. happens (happens q One Says_ack) Two (Comes 0)) e1 ∙ ap (λ q. happens q Two (Comes 0)) e2 in
    let heard_or_ends : (b : Bool) → Turn = λ b. cond b (ends p.two) (silent (linked p.two (hears_ack m l.own m.own l.taken))) in
    elim (cases_Bool (is_above m l.taken)) [
      | inl above ↦
          let both : (is_ack m l.own m.own && is_above m l.taken) ≡ true = and_from (is_ack m l.own m.own) (is_above m l.taken) counts above in
          let e3 : happens p2 Two (Comes 0) ≡ turned_two p2 (ends p.two) = two_acts p2 h.up_two (Comes 0) ∙ ap (λ b. turned_two p2 (heard_or_ends b)) both in
          let ended : OneHasEnded (turned_two p2 (ends p.two)) = inr (record { down = refl; accused = refl }) in
          inl (subst OneHasEnded (sym (first ∙ e3)) ended)
      | inr below ↦
          let both : (is_ack m l.own m.own && is_above m l.taken) ≡ false = and_right (is_ack m l.own m.own) (is_above m l.taken) below in
          let e3 : happens p2 Two (Comes 0) ≡ p3 =
          two_acts p2 h.up_two (Comes 0) ∙ ap (λ b. turned_two p2 (heard_or_ends b)) both
          ∙ ap (λ b. turned_two p2 (silent (linked p.two (cond b heard m)))) counts in
          let chain : run p (syncs_and_acknowledges One) ≡ p3 = first ∙ e3 in
          let live : Live p3 =
          record {
            sure = subst IsSure chain (run_sure p h.sure (syncs_and_acknowledges One));
            up_one = h.up_one;
            up_two = h.up_two;
            adopted_one = h.adopted_one;
            adopted_two = h.adopted_two;
          } in
          let there : Acked p p3 =
          record {
            live = live;
            confirmed_one = refl;
            confirmed_two = refl;
            ready_one = refl;
            ready_two = refl;
            sent_one = refl;
            sent_two = refl;
            taken_one = refl;
            taken_two = refl;
            kept_one = refl;
            kept_two = refl;
            acknowledged_one = refl;
            acknowledged_two = omega (arith, k.taken_all);
          } in
          inr (subst (Acked p) (sym chain) there)
    ]

-- what holds after both have acknowledged
pub record BothAcked (p q : Pair) : Type 0 where
  pub live : Live q
  pub confirmed_one : q.one.link.confirmed ≡ true
  pub confirmed_two : q.two.link.confirmed ≡ true
  pub ready_one : q.one.link.ready ≡ p.one.link.ready
  pub ready_two : q.two.link.ready ≡ p.two.link.ready
  pub kept_one : q.one.sent_kept ≡ length q.one.sent
  pub kept_two : q.two.sent_kept ≡ length q.two.sent
  pub sent_one : q.one.sent ≡ p.one.sent
  pub sent_two : q.two.sent ≡ p.two.sent
  pub acknowledged_one : length p.two.taken ≤ q.one.link.acknowledged
  pub acknowledged_two : length p.one.taken ≤ q.two.link.acknowledged

abbrev pub acknowledged : Pair → Pair
acknowledged p = run (run p (syncs_and_acknowledges One)) (syncs_and_acknowledges Two)

pub calm_acks : (who : Who) → AllCalm (syncs_and_acknowledges who)
calm_acks who = (refl, (refl, (refl, tt)))

pub both_acknowledge : (p : Pair) → Live p → OneHasEnded (acknowledged p) ⊎ BothAcked p (acknowledged p)
both_acknowledge p h =
    let q = run p (syncs_and_acknowledges One) in
    let r = run (swap q) (syncs_and_acknowledges One) in
    let is : acknowledged p ≡ swap r = run_swap (swap q) (syncs_and_acknowledges One) in
    elim (acks_one p h) [
      | inl ended ↦ inl (run_ended q ended (syncs_and_acknowledges Two) (calm_acks Two))
      | inr a ↦
          elim (acks_one (swap q) (swap_live q a.live)) [
            | inl ended ↦ inl (subst OneHasEnded (sym is) (swap_ended r ended))
            | inr b ↦
                inr (subst (BothAcked p) (sym is) (record {
                  live = swap_live r b.live;
                  confirmed_one = b.confirmed_two;
                  confirmed_two = b.confirmed_one ∙ a.confirmed_two;
                  ready_one = b.ready_two ∙ a.ready_one;
                  ready_two = b.ready_one ∙ a.ready_two;
                  kept_one = b.kept_two ∙ a.kept_one ∙ ap length (sym a.sent_one) ∙ ap length (sym b.sent_two);
                  kept_two = b.kept_one ∙ ap length (sym b.sent_one);
                  sent_one = b.sent_two ∙ a.sent_one;
                  sent_two = b.sent_one ∙ a.sent_two;
                  acknowledged_one = subst (λ xs. length xs ≤ r.two.link.acknowledged) a.taken_two b.acknowledged_two;
                  acknowledged_two = subst (λ n. length p.one.taken ≤ n) (sym b.acknowledged_one) a.acknowledged_two;
                }))
          ]
    ]

-- ---- The book is replayed

pub record Replayed (p q : Pair) : Type 0 where
  pub live : Live q
  pub ready_one : q.one.link.ready ≡ true
  pub sent_one : q.one.sent ≡ p.one.sent
  pub kept_one : q.one.sent_kept ≡ p.one.sent_kept
  pub acknowledged_one : q.one.link.acknowledged ≡ p.one.link.acknowledged
  pub other_is : q.two ≡ p.two

pub replays_one : (p : Pair) → Live p → p.one.link.confirmed ≡ true → OneHasEnded (happens p One Replays) ⊎ Replayed p (happens p One Replays)
replays_one p h confirmed =
    let a = p.one in
    let l = p.one.link in
    let all = length p.one.sent in
    let may = may_replay l in
    let facts : HasEnded (turn p.to_one a Replays).host ⊎ Readied a (turn p.to_one a Replays) =
    cond_both a.up (replays_book a) (silent a) (λ t. HasEnded t.host ⊎ Readied a t)
    (λ up. cond_both (may && nat_lt all l.acknowledged) (ends a) (cond may (silent (linked a (replays l all))) (silent a)) (λ t. HasEnded t.host ⊎ Readied a t)
    (λ _. inl (record { down = refl; accused = refl }))
    (λ _. cond_both may (silent (linked a (replays l all))) (silent a) (λ t. HasEnded t.host ⊎ Readied a t)
    (λ _. inr (h.up_one, refl, refl, refl, refl, refl, refl))
    (λ e. inr (h.up_one, refl, refl, ready_since l.ready l.confirmed confirmed e, refl, refl, refl))))
    (λ down. absurd (both_ways a.up down h.up_one)) in
    elim facts [
      | inl ended ↦ inl (inl ended)
      | inr f ↦
          inr (record {
            live =
                record {
                  sure = event_sure p h.sure One Replays;
                  up_one = f.0;
                  up_two = h.up_two;
                  adopted_one = f.1 ∙ h.adopted_one;
                  adopted_two = h.adopted_two ∙ ap (λ n. Some n) (sym f.2);
                };
            ready_one = f.3;
            sent_one = f.4;
            kept_one = f.5;
            acknowledged_one = f.6;
            other_is = refl;
          })
    ]

-- both are ready, with all that they sent on their disks
pub record AllReady (p : Pair) : Type 0 where
  pub live : Live p
  pub ready_one : p.one.link.ready ≡ true
  pub ready_two : p.two.link.ready ≡ true
  pub kept_one : p.one.sent_kept ≡ length p.one.sent
  pub kept_two : p.two.sent_kept ≡ length p.two.sent

-- after the first round: both are ready, and what the other had taken before is known to be acknowledged
pub record IsFirst (p q : Pair) : Type 0 where
  pub ready : AllReady q
  pub sent_one : q.one.sent ≡ p.one.sent
  pub sent_two : q.two.sent ≡ p.two.sent
  pub acknowledged_one : length p.two.taken ≤ q.one.link.acknowledged
  pub acknowledged_two : length p.one.taken ≤ q.two.link.acknowledged

pub both_replay : (p x : Pair) → BothAcked x p → OneHasEnded (happens (happens p One Replays) Two Replays) ⊎ IsFirst x (happens (happens p One Replays) Two Replays)
both_replay p x h =
    let q = happens p One Replays in
    let r = happens (swap q) One Replays in
    elim (replays_one p h.live h.confirmed_one) [
      | inl ended ↦ inl (ended_stays q ended Two Replays refl)
      | inr a ↦
          elim (replays_one (swap q) (swap_live q a.live) (ap (λ h. h.link.confirmed) a.other_is ∙ h.confirmed_two)) [
            | inl ended ↦ inl (swap_ended r ended)
            | inr b ↦
                inr (record {
                  ready = record {
                    live = swap_live r b.live;
                    ready_one = ap (λ h. h.link.ready) b.other_is ∙ a.ready_one;
                    ready_two = b.ready_one;
                    kept_one = ap (λ h. h.sent_kept) b.other_is ∙ a.kept_one ∙ h.kept_one ∙ ap length (sym a.sent_one) ∙ ap (λ h. length h.sent) (sym b.other_is);
                    kept_two = b.kept_one ∙ ap (λ h. h.sent_kept) a.other_is ∙ h.kept_two ∙ ap (λ h. length h.sent) (sym a.other_is) ∙ ap length (sym b.sent_one);
                  };
                  sent_one = ap (λ h. h.sent) b.other_is ∙ a.sent_one ∙ h.sent_one;
                  sent_two = b.sent_one ∙ ap (λ h. h.sent) a.other_is ∙ h.sent_two;
                  acknowledged_one = omega (arith, h.acknowledged_one, a.acknowledged_one, ap (λ h. h.link.acknowledged) b.other_is);
                  acknowledged_two = omega (arith, h.acknowledged_two, b.acknowledged_one, ap (λ h. h.link.acknowledged) a.other_is);
                })
          ]
    ]

pub first_from : (p q r : Pair) → BothAsked p q → IsFirst q r → IsFirst p r
first_from p q r asked h =
    record {
      ready = h.ready;
      sent_one = h.sent_one ∙ asked.sent_one;
      sent_two = h.sent_two ∙ asked.sent_two;
      acknowledged_one = subst (λ xs. length xs ≤ r.one.link.acknowledged) asked.taken_two h.acknowledged_one;
      acknowledged_two = subst (λ xs. length xs ≤ r.two.link.acknowledged) asked.taken_one h.acknowledged_two;
    }

abbrev pub replayed : Pair → Pair
replayed p = happens (happens p One Replays) Two Replays
