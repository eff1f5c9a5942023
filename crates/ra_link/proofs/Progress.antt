-- After two rounds nothing is under way, if books are whole.
use Rattle.std.proofs.Common.{◌≡◌, ◌≤◌, ◌<◌, ◌+◌, ◌==◌, ◌⊎◌, inl, inr, ℕ, List, [], ◌∷◌, true, false, not, ◌&&◌, cond, refl, sym, ◌∙◌, ap, subst, Some, arith, zero, suc}
use Rattle.std.specs.Prelude.{nat_lt}
use Rattle.std.proofs.lemmas.Bool.{cases_Bool, and_from, and_left, and_right, or_from, lt-ltb, le-ltb, eq-eqb, true≢false}
use Rattle.ra_link.specs.declared.message.Message.TheVariants.{Hello, Welcome}
use Rattle.ra_link.specs.declared.link.Link.{Link}
use Rattle.ra_link.specs.Link.{greatest, hears_hello, hears_welcome, is_nonce, is_answer, is_above, shows_old, adopts}
use Rattle.ra_link.specs.Pair.{Host, Packet, Event, Pair, Who, silent, ends, linked, happens, run, new_pair, after}
use Rattle.ra_link.specs.Pair.Event.{Connects, Comes, Replays, Says_hello}
use Rattle.ra_link.specs.Pair.Who.{One, Two}
use Rattle.ra_link.specs.Progress.{asks_and_hears, syncs_and_acknowledges, first_round, says_again, after_seconds, after_two_rounds, LackFew, IsSettled, OneHasEnded}
use Rattle.ra_link.proofs.Flow.{BookOf}
use Rattle.ra_link.proofs.PutBack.{known}
use Rattle.ra_link.proofs.Prefixes.{kept}
use Rattle.ra_link.proofs.Honest.{IsWhole, run_whole, whole}
use Rattle.ra_link.proofs.Rounds.{BothAsked, BothAcked, IsFirst, IsSure, acknowledged, both_acknowledge, both_replay, first_from, hello_as_before, one_acts, replayed, run_sure, run_swap, swap, swap_sure, turned_one, two_acts}
use Rattle.ra_link.proofs.Seconds.{BothSettled, first_settles, settles}

-- ---- A question and its answer

record Asked (p q : Pair) : Type 0 where
  up_one : q.one.up ≡ true
  up_two : q.two.up ≡ true
  adopted : q.one.link.adopted ≡ Some q.two.link.own
  adopted_two : q.two.link.adopted ≡ p.two.link.adopted
  own_one : q.one.link.own ≡ p.one.link.own
  own_two : q.two.link.own ≡ p.two.link.own
  asked_two : q.two.link.asked ≤ p.two.link.asked + 1
  sent_one : q.one.sent ≡ p.one.sent
  sent_two : q.two.sent ≡ p.two.sent
  taken_one : q.one.taken ≡ p.one.taken
  taken_two : q.two.taken ≡ p.two.taken

abbrev asking : Link → Link
asking l = record l { asked = l.asked + 1; pending = Some l.acknowledged; is_old = false }

-- a whole book has all that is known to be acknowledged
shows_nothing : (l : Link) (start kept : ℕ) → l.acknowledged ≤ kept → shows_old (asking l) start kept ≡ false
shows_nothing l start kept le =
    let few : nat_lt kept l.acknowledged ≡ false = le-ltb kept l.acknowledged le in
    or_from (nat_lt kept l.acknowledged) (not (is_nonce l.adopted start) && nat_lt kept l.acknowledged) few
    (and_right (not (is_nonce l.adopted start)) (nat_lt kept l.acknowledged) few)

-- and no more than was sent
is_not_above : (a : Host) (kept : ℕ) → (a.up ≡ true → BookOf a a.link) → a.up ≡ true → kept ≤ a.sent_kept → is_above (asking a.link) kept ≡ false
is_not_above a kept k up le =
    elim (cases_Bool a.link.ready) [
      | inl ready ↦
          let sent : a.link.sent ≡ a.sent_kept = (k up).sent_all ready in
          and_right a.link.ready (nat_lt a.link.sent kept) (le-ltb a.link.sent kept (omega (arith, sent)))
      | inr never ↦ and_left a.link.ready (nat_lt a.link.sent kept) never
    ]

asks_one : (p : Pair) → IsWhole p → p.one.up ≡ true → p.two.up ≡ true → p.one.link.asked < greatest → Asked p (run p (asks_and_hears One))
asks_one p h up_one up_two few =
    let l = p.one.link in
    let m = p.two.link in
    let new = asking l in
    let b = linked p.two (hears_hello m l.own) in
    let hello : Packet = record { message = Hello l.own (l.asked + 1); frame = [] } in
    let welcome : Packet = record { message = Welcome l.own (l.asked + 1) m.own m.kept; frame = [] } in
    let p1 : Pair = record { one = linked p.one new; two = p.two; to_one = p.to_one; to_two = p.to_two } in
    let p2 : Pair = record { one = linked p.one new; two = p.two; to_one = p.to_one; to_two = hello ∷ p.to_two } in
    let p3 : Pair = record { one = linked p.one new; two = b; to_one = welcome ∷ p.to_one; to_two = hello ∷ p.to_two } in
    let p4 : Pair = record { one = linked p.one (adopts new m.own m.kept); two = b; to_one = welcome ∷ p.to_one; to_two = hello ∷ p.to_two } in
    let e1 : happens p One Connects ≡ p1 = one_acts p up_one Connects ∙ ap (λ t. turned_one p (silent (linked p.one (cond t new l)))) (lt-ltb l.asked greatest few) in
    let e2 : happens p1 One Says_hello ≡ p2 = one_acts p1 up_one Says_hello in
    let e3 : happens p2 Two (Comes 0) ≡ p3 = two_acts p2 up_two (Comes 0) in
    let kept : m.kept ≡ p.two.taken_kept = (h.two.book.link up_two).kept_all in
    let answers : is_answer new l.own (l.asked + 1) ≡ true = and_from (l.own == l.own && l.asked + 1 == l.asked + 1) true (and_from (l.own == l.own) (l.asked + 1 == l.asked + 1) (eq-eqb l.own l.own refl) (eq-eqb (l.asked + 1) (l.asked + 1) refl)) refl in
    let below : is_above new m.kept ≡ false = is_not_above p.one m.kept h.one.book.link up_one (omega (arith, kept, h.two.book.taken, h.one.on_disk)) in
    let both : (is_answer new l.own (l.asked + 1) && is_above new m.kept) ≡ false = and_right (is_answer new l.own (l.asked + 1)) (is_above new m.kept) below in
    let shows : shows_old new m.own m.kept ≡ false = shows_nothing l m.own m.kept (omega (arith, kept, h.known_one)) in
    let e4 : happens p3 One (Comes 0) ≡ p4 =
    one_acts p3 up_one (Comes 0)
    ∙ ap (λ t. turned_one p3 (cond t (ends p3.one) (silent (linked p3.one (hears_welcome new l.own (l.asked + 1) m.own m.kept))))) both
    ∙ ap (λ t. turned_one p3 (silent (linked p3.one (cond t (cond (shows_old new m.own m.kept) (record new { is_old = true }) (adopts new m.own m.kept)) new)))) answers
    ∙ ap (λ t. turned_one p3 (silent (linked p3.one (cond t (record new { is_old = true }) (adopts new m.own m.kept))))) shows in
    let chain : run p (asks_and_hears One) ≡ p4 =
    ap (λ q. happens (happens (happens q One Says_hello) Two (Comes 0)) One (Comes 0)) e1
    ∙ ap (λ q. happens (happens q Two (Comes 0)) One (Comes 0)) e2
    ∙ ap (λ q. happens q One (Comes 0)) e3 ∙ e4 in
    let same = hello_as_before m l.own in
    let asked : Asked p p4 =
    record {
      up_one = up_one;
      up_two = up_two;
      adopted = ap (λ n. Some n) (sym same.0);
      adopted_two = same.1;
      own_one = refl;
      own_two = same.0;
      asked_two = same.2;
      sent_one = refl;
      sent_two = refl;
      taken_one = refl;
      taken_two = refl;
    } in
    subst (Asked p) (sym chain) asked

swap_whole : (p : Pair) → IsWhole p → IsWhole (swap p)
swap_whole p h = record { one = h.two; two = h.one; known_one = h.known_two; known_two = h.known_one }

both_ask : (p : Pair) → IsSure p → IsWhole p → p.one.up ≡ true → p.two.up ≡ true → p.one.link.asked < greatest → p.two.link.asked + 1 < greatest → BothAsked p (run (run p (asks_and_hears One)) (asks_and_hears Two))
both_ask p sure h up_one up_two few_one few_two =
    let q = run p (asks_and_hears One) in
    let a = asks_one p h up_one up_two few_one in
    let sure_q : IsSure q = run_sure p sure (asks_and_hears One) in
    let whole_q : IsWhole q = run_whole p h (asks_and_hears One) in
    let r = run (swap q) (asks_and_hears One) in
    let b = asks_one (swap q) (swap_whole q whole_q) a.up_two a.up_one (omega (arith, a.asked_two)) in
    let is : run q (asks_and_hears Two) ≡ swap r = run_swap (swap q) (asks_and_hears One) in
    subst (BothAsked p) (sym is) (record {
      live = record {
        sure = swap_sure r (run_sure (swap q) (swap_sure q sure_q) (asks_and_hears One));
        up_one = b.up_two;
        up_two = b.up_one;
        adopted_one = b.adopted_two ∙ a.adopted ∙ ap (λ n. Some n) (sym b.own_one);
        adopted_two = b.adopted;
      };
      sent_one = b.sent_two ∙ a.sent_one;
      sent_two = b.sent_one ∙ a.sent_two;
      taken_one = b.taken_two ∙ a.taken_one;
      taken_two = b.taken_one ∙ a.taken_two;
    })

-- ---- Two rounds

-- no host whose book is whole has ended
if_whole : (P : Type 0) (p : Pair) → IsWhole p → OneHasEnded p ⊎ P → P
if_whole P p h (inl (inl e)) = absurd (true≢false (sym e.accused ∙ h.one.never))
if_whole P p h (inl (inr e)) = absurd (true≢false (sym e.accused ∙ h.two.never))
if_whole P p h (inr is) = is

first_round_readies : (p : Pair) → IsSure p → IsWhole p → p.one.up ≡ true → p.two.up ≡ true → p.one.link.asked < greatest → p.two.link.asked + 1 < greatest → IsFirst p (run p first_round)
first_round_readies p sure h up_one up_two few_one few_two =
    let q = run (run p (asks_and_hears One)) (asks_and_hears Two) in
    let asked = both_ask p sure h up_one up_two few_one few_two in
    let whole_q : IsWhole q = run_whole (run p (asks_and_hears One)) (run_whole p h (asks_and_hears One)) (asks_and_hears Two) in
    let r = acknowledged q in
    let whole_r : IsWhole r = run_whole (run q (syncs_and_acknowledges One)) (run_whole q whole_q (syncs_and_acknowledges One)) (syncs_and_acknowledges Two) in
    let acked : BothAcked q r = if_whole (BothAcked q r) r whole_r (both_acknowledge q asked.live) in
    let whole_s : IsWhole (replayed r) = run_whole r whole_r ((One, Replays) ∷ (Two, Replays) ∷ []) in
    first_from p q (replayed r) asked (if_whole (IsFirst q (replayed r)) (replayed r) whole_s (both_replay r q acked))

seconds_whole : (n : ℕ) (p : Pair) → IsWhole p → IsWhole (after_seconds n p)
seconds_whole zero p h = h
seconds_whole (suc n) p h = seconds_whole n (run p (says_again p)) (run_whole p h (says_again p))

pub settled : (events : List (Who × Event)) (seconds : ℕ) (who : Who) → (after events).one.up ≡ true → (after events).two.up ≡ true → (after events).one.link.asked + 1 < greatest → (after events).two.link.asked + 1 < greatest → LackFew seconds (after events) → IsSettled who (after_two_rounds seconds (after events))
settled events seconds who up_one up_two few_one few_two lack =
    let p = after events in
    let sure : IsSure p = run_sure new_pair (record { known = known []; kept = kept [] }) events in
    let q = run p first_round in
    let first : IsFirst p q = first_round_readies p sure (whole events) up_one up_two (omega (arith, few_one)) few_two in
    let all : IsWhole (after_seconds seconds q) = seconds_whole seconds q (run_whole p (whole events) first_round) in
    settles who (after_two_rounds seconds p) (if_whole (BothSettled (after_seconds seconds q)) (after_seconds seconds q) all (first_settles seconds p q first lack))
