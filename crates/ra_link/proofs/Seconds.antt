-- The second round: frames are said again, a second at a time.
use Rattle.std.proofs.Common.{◌≡◌, ◌≤◌, ◌<◌, ◌+◌, ◌-◌, ◌*◌, ◌⊎◌, inl, inr, ℕ, [], ◌∷◌, ◌++◌, true, ◌&&◌, cond, length, get_or, min, refl, sym, ◌∙◌, ap, subst, Some, None, arith, zero, suc}
use Rattle.std.specs.Prelude.{nat_lt, nat_le}
use Rattle.std.proofs.lemmas.Bool.{cond_both, and_from, lt-ltb, le-leb, eq-eqb, both_ways}
use Rattle.std.proofs.lemmas.List.{length_push}
use Rattle.ra_link.specs.declared.message.Message.TheVariants.{Frame}
use Rattle.ra_link.specs.Link.{hears_frame, is_nonce, is_due, is_next, may_say, said_again}
use Rattle.ra_link.specs.Pair.{Packet, Pair, Who, silent, framed, acts, turn, happens, run}
use Rattle.ra_link.specs.Pair.Event.{Comes, Says_frame}
use Rattle.ra_link.specs.Pair.Who.{One, Two}
use Rattle.ra_link.specs.Progress.{syncs_and_acknowledges, says_frames, says_again, after_seconds, LackFew, IsSettled, OneHasEnded}
use Rattle.ra_link.proofs.Flow.{BookOf}
use Rattle.ra_link.proofs.Prefixes.{known_is_there, all_is_there}
use Rattle.ra_link.proofs.Rounds.{AllReady, IsFirst, IsSure, Live, Takes, acknowledged, book_one, book_two, both_acknowledge, event_sure, frame_as_before, not_next, one_acts, run_append, run_swap, seconds_ended, swap, swap_live, swapped_frames, turned_one}

-- ---- Frames

-- two live hosts that are ready, the first with all that it sent on its disk
pub record Ready (p : Pair) : Type 0 where
  pub live : Live p
  pub ready_one : p.one.link.ready ≡ true
  pub ready_two : p.two.link.ready ≡ true
  pub kept : p.one.sent_kept ≡ length p.one.sent

pub record Handed (p q : Pair) (n : ℕ) : Type 0 where
  pub ready : Ready q
  pub same_one : q.one ≡ p.one
  pub sent_two : q.two.sent ≡ p.two.sent
  pub kept_two : q.two.sent_kept ≡ p.two.sent_kept
  pub came : n ≤ length q.two.taken

pub says_one_frame : (p : Pair) → Ready p → (n : ℕ) → n < length p.one.sent → n ≤ length p.two.taken → Handed p (happens (happens p One (Says_frame (n + 1))) Two (Comes 0)) (n + 1)
says_one_frame p h n lt le =
    let a = p.one in
    let l = p.one.link in
    let b = p.two in
    let m = p.two.link in
    let frame = get_or a.sent (n + 1 - 1) [] in
    let packet : Packet = record { message = Frame l.own (n + 1); frame = frame } in
    let k : BookOf a l = book_one p h.live in
    let j : BookOf b m = book_two p h.live in
    let s : l.sent ≡ a.sent_kept = k.sent_all h.ready_one in
    let may : may_say l (n + 1) ≡ true =
    and_from (l.ready && nat_lt 0 (n + 1)) (nat_le (n + 1) l.sent) (and_from l.ready (nat_lt 0 (n + 1)) h.ready_one (lt-ltb 0 (n + 1) (omega arith))) (le-leb (n + 1) l.sent (omega (arith, h.kept))) in
    let p1 : Pair = record { one = a; two = b; to_one = p.to_one; to_two = packet ∷ p.to_two } in
    let e1 : happens p One (Says_frame (n + 1)) ≡ p1 =
    one_acts p h.live.up_one (Says_frame (n + 1))
    ∙ ap (λ c. turned_one p (record { host = a; says = framed frame (cond c (Some (Frame l.own (n + 1))) None) })) may in
    let due : is_due m l.own ≡ true =
    and_from m.ready (is_nonce m.adopted l.own) h.ready_two (ap (λ o. is_nonce o l.own) h.live.adopted_two ∙ eq-eqb l.own l.own refl) in
    let like = frame_as_before m l.own (n + 1) in
    let facts : Takes b n (turn p1.to_two b (Comes 0)) =
    cond_both b.up (acts p1.to_two b (Comes 0)) (silent b) (Takes b n)
    (λ _. cond_both (is_next m l.own (n + 1)) (silent (record b { link = hears_frame m l.own (n + 1); taken = b.taken ++ frame ∷ [] })) (silent b) (Takes b n)
    (λ _. (h.live.up_two, like.1, like.0, like.2 ∙ h.ready_two, refl, refl, omega (arith, length_push b.taken frame)))
    (λ e.
    let at : n ≤ m.taken = omega (arith, j.taken_all) in
    let more : n + 1 ≤ m.taken = not_next m l.own n due at e in
    (h.live.up_two, refl, refl, h.ready_two, refl, refl, omega (arith, j.taken_all))))
    (λ down. absurd (both_ways b.up down h.live.up_two)) in
    let q = happens p1 Two (Comes 0) in
    let w1 : IsSure p1 = subst IsSure e1 (event_sure p h.live.sure One (Says_frame (n + 1))) in
    let handed : Handed p q (n + 1) =
    record {
      ready =
          record {
            live =
                record {
                  sure = event_sure p1 w1 Two (Comes 0);
                  up_one = h.live.up_one;
                  up_two = facts.0;
                  adopted_one = h.live.adopted_one ∙ ap (λ x. Some x) (sym facts.2);
                  adopted_two = facts.1 ∙ h.live.adopted_two;
                };
            ready_one = h.ready_one;
            ready_two = facts.3;
            kept = h.kept;
          };
      same_one = refl;
      sent_two = facts.4;
      kept_two = facts.5;
      came = facts.6;
    } in
    subst (λ x. Handed p (happens x Two (Comes 0)) (n + 1)) (sym e1) handed

pub says_all : (p : Pair) → Ready p → (past n : ℕ) → past + n ≤ length p.one.sent → past ≤ length p.two.taken → Handed p (run p (says_frames One past n)) (past + n)
says_all p h past zero le came = record { ready = h; same_one = refl; sent_two = refl; kept_two = refl; came = omega (arith, came) }
says_all p h past (suc n) le came =
    let q = run p (says_frames One past n) in
    let first : Handed p q (past + n) = says_all p h past n (omega (arith, le)) came in
    let lt : past + n < length q.one.sent = rw first.same_one (omega (arith, le)) in
    let next = says_one_frame q first.ready (past + n) lt first.came in
    let both : Handed p (happens (happens q One (Says_frame (past + n + 1))) Two (Comes 0)) (past + suc n) =
    record {
      ready = next.ready;
      same_one = next.same_one ∙ first.same_one;
      sent_two = next.sent_two ∙ first.sent_two;
      kept_two = next.kept_two ∙ first.kept_two;
      came = omega (arith, next.came);
    } in
    subst (λ x. Handed p x (past + suc n)) (sym (run_append p (says_frames One past n) ((One, Says_frame (past + n + 1)) ∷ (Two, Comes 0) ∷ []))) both

-- ---- Two rounds

pub settles_one : (p : Pair) → Live p → p.one.link.ready ≡ true → p.two.link.ready ≡ true → length p.one.sent ≤ p.one.link.acknowledged → IsSettled One p
settles_one p h ready other_ready le =
    let k = h.sure.kept in
    let m : p.one.link.made ≡ length p.one.sent = (book_one p h).made_all ready in
    let known : p.one.link.acknowledged ≤ p.two.taken_kept = known_is_there p.two p.one p.to_one p.to_two k.one k.back h.sure.known.from_one.knows h.up_two other_ready h.up_one p.one.link.adopted refl in
    let on_disk : length p.two.taken ≤ p.one.sent_kept = (k.there.reaches.ready h.up_one ready).1 in
    let all : p.one.link.acknowledged ≡ p.one.link.made = omega (arith, h.sure.known.two.book.taken, k.one.book.sent) in
    record {
      up = h.up_one;
      ready = ready;
      acknowledged = all;
      taken = (all_is_there p.one p.two p.to_two p.to_one k.one.book h.sure.known.two k.there known h.up_one ready all).0;
    }

pub settles_two : (p : Pair) → IsSettled One (swap p) → IsSettled Two p
settles_two p h = record { up = h.up; ready = h.ready; acknowledged = h.acknowledged; taken = h.taken }

abbrev pub BothSettled : Pair → Type 0
BothSettled p = IsSettled One p × IsSettled Two p

-- what the other one has is no less than is known to be acknowledged
known_taken : (p : Pair) → AllReady p → p.one.link.acknowledged ≤ length p.two.taken
known_taken p h =
    let k = h.live.sure.kept in
    let known : p.one.link.acknowledged ≤ p.two.taken_kept = known_is_there p.two p.one p.to_one p.to_two k.one k.back h.live.sure.known.from_one.knows h.live.up_two h.ready_two h.live.up_one p.one.link.adopted refl in
    omega (arith, h.live.sure.known.two.book.taken)

swap_ready : (p : Pair) → AllReady p → AllReady (swap p)
swap_ready p h = record { live = swap_live p h.live; ready_one = h.ready_two; ready_two = h.ready_one; kept_one = h.kept_two; kept_two = h.kept_one }

-- what is said again is in the book
again_fits : (p : Pair) → AllReady p → (p.one.link.acknowledged ≤ length p.one.sent) × (said_again p.one.link ≡ min 1000 (length p.one.sent - p.one.link.acknowledged))
again_fits p h =
    let k = h.live.sure.kept in
    let s : p.one.link.sent ≡ p.one.sent_kept = (book_one p h.live).sent_all h.ready_one in
    let on_disk : length p.two.taken ≤ p.one.sent_kept = (k.there.reaches.ready h.live.up_one h.ready_one).1 in
    (omega (arith, known_taken p h, k.one.book.sent), ap (λ n. min 1000 (n - p.one.link.acknowledged)) (s ∙ h.kept_one))

-- after one second: 1,000 more are acknowledged, or all
record IsLater (p q : Pair) : Type 0 where
  ready : AllReady q
  sent_one : q.one.sent ≡ p.one.sent
  sent_two : q.two.sent ≡ p.two.sent
  acknowledged_one : p.one.link.acknowledged + min 1000 (length p.one.sent - p.one.link.acknowledged) ≤ q.one.link.acknowledged
  acknowledged_two : p.two.link.acknowledged + min 1000 (length p.two.sent - p.two.link.acknowledged) ≤ q.two.link.acknowledged

one_second : (p : Pair) → AllReady p → OneHasEnded (run p (says_again p)) ⊎ IsLater p (run p (says_again p))
one_second p h =
    let l = p.one.link in
    let m = p.two.link in
    let fits = again_fits p h in
    let fits_two = again_fits (swap p) (swap_ready p h) in
    let A = says_frames One l.acknowledged (said_again l) in
    let B = says_frames Two m.acknowledged (said_again m) in
    let q = run p A in
    let a : Handed p q (l.acknowledged + said_again l) =
    says_all p (record { live = h.live; ready_one = h.ready_one; ready_two = h.ready_two; kept = h.kept_one }) l.acknowledged (said_again l) (omega (arith, fits.0, fits.1)) (known_taken p h) in
    let back : Ready (swap q) =
    record {
      live = swap_live q a.ready.live;
      ready_one = a.ready.ready_two;
      ready_two = a.ready.ready_one;
      kept = a.kept_two ∙ h.kept_two ∙ ap length (sym a.sent_two);
    } in
    let r = run (swap q) (says_frames One m.acknowledged (said_again m)) in
    let had : m.acknowledged ≤ length p.one.taken = known_taken (swap p) (swap_ready p h) in
    let b : Handed (swap q) r (m.acknowledged + said_again m) =
    says_all (swap q) back m.acknowledged (said_again m) (omega (arith, ap length a.sent_two, fits_two.0, fits_two.1)) (omega (arith, had, ap (λ h. length h.taken) a.same_one)) in
    let s = swap r in
    let x = acknowledged s in
    let frames : run q B ≡ s = ap (run q) (sym (swapped_frames m.acknowledged (said_again m))) ∙ run_swap (swap q) (says_frames One m.acknowledged (said_again m)) in
    let chain : run p (says_again p) ≡ x =
    run_append p ((A ++ B) ++ syncs_and_acknowledges One) (syncs_and_acknowledges Two)
    ∙ ap (λ y. run y (syncs_and_acknowledges Two)) (run_append p (A ++ B) (syncs_and_acknowledges One))
    ∙ ap (λ y. run (run y (syncs_and_acknowledges One)) (syncs_and_acknowledges Two)) (run_append p A B ∙ frames) in
    elim (both_acknowledge s (swap_live r b.ready.live)) [
      | inl ended ↦ inl (subst OneHasEnded (sym chain) ended)
      | inr acked ↦
          let came : l.acknowledged + said_again l ≤ length s.two.taken = subst (λ h. l.acknowledged + said_again l ≤ length h.taken) (sym b.same_one) a.came in
          inr (subst (IsLater p) (sym chain) (record {
            ready = record {
              live = acked.live;
              ready_one = acked.ready_one ∙ b.ready.ready_two;
              ready_two = acked.ready_two ∙ b.ready.ready_one;
              kept_one = acked.kept_one;
              kept_two = acked.kept_two;
            };
            sent_one = acked.sent_one ∙ b.sent_two ∙ ap (λ h. h.sent) a.same_one;
            sent_two = acked.sent_two ∙ ap (λ h. h.sent) b.same_one ∙ a.sent_two;
            acknowledged_one = omega (arith, fits.1, acked.acknowledged_one, came);
            acknowledged_two = omega (arith, fits_two.1, acked.acknowledged_two, b.came);
          }))
    ]

pub seconds_settle : (n : ℕ) (p : Pair) → AllReady p → length p.one.sent ≤ p.one.link.acknowledged + 1000 * n → length p.two.sent ≤ p.two.link.acknowledged + 1000 * n → OneHasEnded (after_seconds n p) ⊎ BothSettled (after_seconds n p)
seconds_settle zero p h one two =
    inr (settles_one p h.live h.ready_one h.ready_two (omega (arith, one)), settles_two p (settles_one (swap p) (swap_live p h.live) h.ready_two h.ready_one (omega (arith, two))))
seconds_settle (suc n) p h one two =
    let q = run p (says_again p) in
    elim (one_second p h) [
      | inl ended ↦ inl (seconds_ended n q ended)
      | inr later ↦
          seconds_settle n q later.ready
          (omega (arith, one, ap length later.sent_one, later.acknowledged_one))
          (omega (arith, two, ap length later.sent_two, later.acknowledged_two))
    ]

-- this many seconds after the first round
pub first_settles : (n : ℕ) (p q : Pair) → IsFirst p q → LackFew n p → OneHasEnded (after_seconds n q) ⊎ BothSettled (after_seconds n q)
first_settles n p q h few =
    seconds_settle n q h.ready
    (omega (arith, few.two, h.acknowledged_one, ap length h.sent_one))
    (omega (arith, few.one, h.acknowledged_two, ap length h.sent_two))

pub settles : (who : Who) (p : Pair) → BothSettled p → IsSettled who p
settles One p h = h.0
settles Two p h = h.1
