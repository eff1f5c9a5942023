-- After two rounds nothing is under way, or a host has ended since its book is old, if books may be put back.
use Rattle.std.proofs.Common.{◌≡◌, ◌≤◌, ◌<◌, ◌+◌, ◌==◌, ◌⊎◌, inl, inr, ℕ, List, [], ◌∷◌, true, false, not, ◌&&◌, cond, refl, sym, ◌∙◌, ap, subst, Some, arith}
use Rattle.std.specs.Prelude.{nat_lt}
use Rattle.std.proofs.lemmas.Bool.{cases_Bool, cond_both, and_from, and_right, and_parts, or_cases, lt-ltb, eq-eqb, ltb-true}
use Rattle.ra_link.specs.declared.message.Message.TheVariants.{Hello, Welcome, Old}
use Rattle.ra_link.specs.declared.link.Link.{Link}
use Rattle.ra_link.specs.Link.{greatest, asks, hears_hello, hears_welcome, is_nonce, is_answer, is_above, is_below, shows_old, adopts, syncs}
use Rattle.ra_link.specs.Pair.{Packet, Event, Pair, Who, silent, ends, linked, syncs_book, happens, run}
use Rattle.ra_link.specs.Pair.Event.{Connects, Comes, Replays, Syncs, Says_hello, Says_old}
use Rattle.ra_link.specs.Pair.Who.{One, Two}
use Rattle.ra_link.specs.Progress.{asks_and_tells, syncs_and_acknowledges, finding_round, after_finding_rounds, LackFew, IsSettled, OneHasEnded}
use Rattle.ra_link.specs.PutBack.{Move, after_moves}
use Rattle.ra_link.proofs.PutBack.{known}
use Rattle.ra_link.proofs.Prefixes.{kept, known_is_there}
use Rattle.ra_link.proofs.Rounds.{AllCalm, IsSure, acknowledged, both_acknowledge, both_replay, BothAsked, IsFirst, calm_acks, ended_stays, first_from, hello_as_before, one_acts, run_ended, run_sure, run_swap, seconds_ended, swap, swap_ended, swap_sure, turned_one, turned_two, two_acts}
use Rattle.ra_link.proofs.Seconds.{first_settles, settles}

-- ---- A question, its answer, and what it shows

record Asked (p q : Pair) : Type 0 where
  up_one : q.one.up ≡ true
  up_two : q.two.up ≡ true
  adopted : q.one.link.adopted ≡ Some q.two.link.own
  adopted_two : q.two.link.adopted ≡ p.two.link.adopted
  own_one : q.one.link.own ≡ p.one.link.own
  own_two : q.two.link.own ≡ p.two.link.own
  asked_two : q.two.link.asked ≤ p.two.link.asked + 2
  sent_one : q.one.sent ≡ p.one.sent
  sent_two : q.two.sent ≡ p.two.sent
  taken_one : q.one.taken ≡ p.one.taken
  taken_two : q.two.taken ≡ p.two.taken

hello_taken : (l : Link) (start : ℕ) → (hears_hello l start).taken ≡ l.taken
hello_taken l start =
    let known : Link = record l { heard = Some start } in
    cond_both (is_nonce l.heard start) l (asks known) (λ x. x.taken ≡ l.taken) (λ _. refl)
    (λ _. cond_both (nat_lt l.asked greatest) (record known { asked = l.asked + 1; pending = Some l.acknowledged; is_old = false }) known (λ x. x.taken ≡ l.taken) (λ _. refl) (λ _. refl))

hello_ready : (l : Link) (start : ℕ) → (hears_hello l start).ready ≡ l.ready
hello_ready l start =
    let known : Link = record l { heard = Some start } in
    cond_both (is_nonce l.heard start) l (asks known) (λ x. x.ready ≡ l.ready) (λ _. refl)
    (λ _. cond_both (nat_lt l.asked greatest) (record known { asked = l.asked + 1; pending = Some l.acknowledged; is_old = false }) known (λ x. x.ready ≡ l.ready) (λ _. refl) (λ _. refl))

abbrev rest : List (Who × Event)
rest = (One, Comes 0) ∷ (One, Says_old) ∷ (Two, Comes 0) ∷ []

-- the answer is on its way: the link l of p.one has asked, and m is the one of p.two, which has synced
abbrev asking : Link → Link
asking l = record l { asked = l.asked + 1; pending = Some l.acknowledged; is_old = false }

abbrev answering : Pair → Pair
answering p =
    let l = p.one.link in
    let b = syncs_book p.two in
    let m = b.link in
    record {
      one = linked p.one (asking l);
      two = linked b (hears_hello m l.own);
      to_one = record { message = Welcome l.own (l.asked + 1) m.own m.kept; frame = [] } ∷ p.to_one;
      to_two = record { message = Hello l.own (l.asked + 1); frame = [] } ∷ p.to_two;
    }

asks_first : (p : Pair) → p.one.up ≡ true → p.two.up ≡ true → p.one.link.asked < greatest → run p (asks_and_tells One) ≡ run (answering p) rest
asks_first p up_one up_two few =
    let l = p.one.link in
    let b = syncs_book p.two in
    let new = asking l in
    let hello : Packet = record { message = Hello l.own (l.asked + 1); frame = [] } in
    let x1 : Pair = record { one = p.one; two = b; to_one = p.to_one; to_two = p.to_two } in
    let x2 : Pair = record { one = linked p.one new; two = b; to_one = p.to_one; to_two = p.to_two } in
    let x3 : Pair = record { one = linked p.one new; two = b; to_one = p.to_one; to_two = hello ∷ p.to_two } in
    let e0 : happens p Two Syncs ≡ x1 = two_acts p up_two Syncs in
    let e1 : happens x1 One Connects ≡ x2 = one_acts x1 up_one Connects ∙ ap (λ t. turned_one x1 (silent (linked p.one (cond t new l)))) (lt-ltb l.asked greatest few) in
    let e2 : happens x2 One Says_hello ≡ x3 = one_acts x2 up_one Says_hello in
    let e3 : happens x3 Two (Comes 0) ≡ answering p = two_acts x3 up_two (Comes 0) in
    ap (λ q. run (happens (happens (happens q One Connects) One Says_hello) Two (Comes 0)) rest) e0
    ∙ ap (λ q. run (happens (happens q One Says_hello) Two (Comes 0)) rest) e1
    ∙ ap (λ q. run (happens q Two (Comes 0)) rest) e2
    ∙ ap (λ q. run q rest) e3

-- the count is less than was acknowledged
is_less : (l : Link) (start kept : ℕ) → shows_old (asking l) start kept ≡ true → kept < l.acknowledged
is_less l start kept e =
    elim (or_cases (is_below (Some l.acknowledged) kept) (not (is_nonce l.adopted start) && nat_lt kept l.acknowledged) e) [
      | inl below ↦ ltb-true kept l.acknowledged below
      | inr later ↦ ltb-true kept l.acknowledged (and_parts (not (is_nonce l.adopted start)) (nat_lt kept l.acknowledged) later).1
    ]

abbrev Found : Pair → Pair → Type 0
Found p q = OneHasEnded q ⊎ Asked p q

-- the answer says too much
asks_above : (p : Pair) → p.one.up ≡ true → is_above (asking p.one.link) p.two.link.taken ≡ true → OneHasEnded (run (answering p) rest)
asks_above p up_one above =
    let x = answering p in
    let l = p.one.link in
    let m = syncs p.two.link in
    let answers : is_answer (asking l) l.own (l.asked + 1) ≡ true = and_from (l.own == l.own && l.asked + 1 == l.asked + 1) true (and_from (l.own == l.own) (l.asked + 1 == l.asked + 1) (eq-eqb l.own l.own refl) (eq-eqb (l.asked + 1) (l.asked + 1) refl)) refl in
    let both : (is_answer (asking l) l.own (l.asked + 1) && is_above (asking l) m.kept) ≡ true = and_from (is_answer (asking l) l.own (l.asked + 1)) (is_above (asking l) m.kept) answers above in
    let y : Pair = turned_one x (ends x.one) in
    let e : happens x One (Comes 0) ≡ y =
    one_acts x up_one (Comes 0)
    ∙ ap (λ t. turned_one x (cond t (ends x.one) (silent (linked x.one (hears_welcome (asking l) l.own (l.asked + 1) m.own m.kept))))) both in
    let ended : OneHasEnded y = inl (record { down = refl; accused = refl }) in
    subst (λ q. OneHasEnded (run q ((One, Says_old) ∷ (Two, Comes 0) ∷ []))) (sym e) (run_ended y ended ((One, Says_old) ∷ (Two, Comes 0) ∷ []) (refl, (refl, tt)))

-- it does not: the link is changed
asks_below : (p : Pair) → p.one.up ≡ true → is_above (asking p.one.link) p.two.link.taken ≡ false → (l' : Link) → cond (shows_old (asking p.one.link) p.two.link.own p.two.link.taken) (record (asking p.one.link) { is_old = true }) (adopts (asking p.one.link) p.two.link.own p.two.link.taken) ≡ l' → happens (answering p) One (Comes 0) ≡ turned_one (answering p) (silent (linked p.one l'))
asks_below p up_one above l' is =
    let x = answering p in
    let l = p.one.link in
    let m = syncs p.two.link in
    let new = asking l in
    let answers : is_answer new l.own (l.asked + 1) ≡ true = and_from (l.own == l.own && l.asked + 1 == l.asked + 1) true (and_from (l.own == l.own) (l.asked + 1 == l.asked + 1) (eq-eqb l.own l.own refl) (eq-eqb (l.asked + 1) (l.asked + 1) refl)) refl in
    let both : (is_answer new l.own (l.asked + 1) && is_above new m.kept) ≡ false = and_right (is_answer new l.own (l.asked + 1)) (is_above new m.kept) above in
    one_acts x up_one (Comes 0)
    ∙ ap (λ t. turned_one x (cond t (ends x.one) (silent (linked x.one (hears_welcome new l.own (l.asked + 1) m.own m.kept))))) both
    ∙ ap (λ t. turned_one x (silent (linked x.one (cond t (cond (shows_old new m.own m.kept) (record new { is_old = true }) (adopts new m.own m.kept)) new)))) answers
    ∙ ap (λ k. turned_one x (silent (linked p.one k))) is

-- a host that is ready has all that is known to be acknowledged
not_ready : (p : Pair) → IsSure p → p.one.up ≡ true → p.two.up ≡ true → p.two.link.taken < p.one.link.acknowledged → p.two.link.ready ≡ false
not_ready p h up_one up_two less =
    elim (cases_Bool p.two.link.ready) [
      | inr never ↦ never
      | inl ready ↦
          let has : p.one.link.acknowledged ≤ p.two.taken_kept = known_is_there p.two p.one p.to_one p.to_two h.kept.one h.kept.back h.known.from_one.knows up_two ready up_one p.one.link.adopted refl in
          absurd (omega (arith, h.known.two.book.taken, (h.known.two.book.link up_two).taken_all))
    ]

-- the answer shows an old book, and the other host learns of it
asks_old : (p : Pair) → IsSure p → p.one.up ≡ true → p.two.up ≡ true → is_above (asking p.one.link) p.two.link.taken ≡ false → shows_old (asking p.one.link) p.two.link.own p.two.link.taken ≡ true → OneHasEnded (run (answering p) rest)
asks_old p h up_one up_two above shows =
    let x = answering p in
    let l = p.one.link in
    let new = asking l in
    let old : Link = record new { is_old = true } in
    let m = p.two.link in
    let z = linked (syncs_book p.two) (hears_hello (syncs m) l.own) in
    let y : Pair = record { one = linked p.one old; two = z; to_one = x.to_one; to_two = x.to_two } in
    let y2 : Pair = record { one = linked p.one old; two = z; to_one = x.to_one; to_two = record { message = Old l.acknowledged; frame = [] } ∷ x.to_two } in
    let e1 : happens x One (Comes 0) ≡ y = asks_below p up_one above old (ap (λ t. cond t old (adopts new m.own m.taken)) shows) in
    let e2 : happens y One Says_old ≡ y2 = one_acts y up_one Says_old in
    let lt : m.taken < l.acknowledged = is_less l m.own m.taken shows in
    let unready : z.link.ready ≡ false = hello_ready (syncs m) l.own ∙ not_ready p h up_one up_two lt in
    let less : (not z.link.ready && nat_lt z.link.taken l.acknowledged) ≡ true =
    and_from (not z.link.ready) (nat_lt z.link.taken l.acknowledged) (ap not unready) (lt-ltb z.link.taken l.acknowledged (omega (arith, hello_taken (syncs m) l.own))) in
    let y3 : Pair = turned_two y2 (ends z) in
    let e3 : happens y2 Two (Comes 0) ≡ y3 = two_acts y2 up_two (Comes 0) ∙ ap (λ t. turned_two y2 (cond t (ends z) (silent z))) less in
    let ended : OneHasEnded y3 = inr (record { down = refl; accused = refl }) in
    let chain : run x rest ≡ y3 =
    ap (λ q. happens (happens q One Says_old) Two (Comes 0)) e1 ∙ ap (λ q. happens q Two (Comes 0)) e2 ∙ e3 in
    subst OneHasEnded (sym chain) ended

-- the answer is adopted
asks_adopts : (p : Pair) → p.one.up ≡ true → p.two.up ≡ true → is_above (asking p.one.link) p.two.link.taken ≡ false → shows_old (asking p.one.link) p.two.link.own p.two.link.taken ≡ false → Asked p (run (answering p) rest)
asks_adopts p up_one up_two above whole =
    let x = answering p in
    let l = p.one.link in
    let new = asking l in
    let m = p.two.link in
    let l' : Link = adopts new m.own m.taken in
    let b = syncs_book p.two in
    let m1 = hears_hello (syncs m) l.own in
    let m2 = hears_hello m1 l.own in
    let y : Pair = record { one = linked p.one l'; two = linked b m1; to_one = x.to_one; to_two = x.to_two } in
    let y3 : Pair = record { one = linked p.one l'; two = linked b m2; to_one = record { message = Welcome l.own (l.asked + 1) m1.own m1.kept; frame = [] } ∷ x.to_one; to_two = x.to_two } in
    let e1 : happens x One (Comes 0) ≡ y = asks_below p up_one above l' (ap (λ t. cond t (record new { is_old = true }) l') whole) in
    let e2 : happens y One Says_old ≡ y = one_acts y up_one Says_old in
    let e3 : happens y Two (Comes 0) ≡ y3 = two_acts y up_two (Comes 0) in
    let chain : run x rest ≡ y3 =
    ap (λ q. happens (happens q One Says_old) Two (Comes 0)) e1 ∙ ap (λ q. happens q Two (Comes 0)) e2 ∙ e3 in
    let s1 = hello_as_before (syncs m) l.own in
    let s2 = hello_as_before m1 l.own in
    let asked : Asked p y3 =
    record {
      up_one = up_one;
      up_two = up_two;
      adopted = ap (λ n. Some n) (sym s1.0 ∙ sym s2.0);
      adopted_two = s2.1 ∙ s1.1;
      own_one = refl;
      own_two = s2.0 ∙ s1.0;
      asked_two = omega (arith, s1.2, s2.2);
      sent_one = refl;
      sent_two = refl;
      taken_one = refl;
      taken_two = refl;
    } in
    subst (Asked p) (sym chain) asked

asks_one : (p : Pair) → IsSure p → p.one.up ≡ true → p.two.up ≡ true → p.one.link.asked < greatest → Found p (run p (asks_and_tells One))
asks_one p h up_one up_two few =
    let l = asking p.one.link in
    let m = p.two.link in
    let found : Found p (run (answering p) rest) =
    elim (cases_Bool (is_above l m.taken)) [
      | inl above ↦ inl (asks_above p up_one above)
      | inr below ↦
          elim (cases_Bool (shows_old l m.own m.taken)) [
            | inl shows ↦ inl (asks_old p h up_one up_two below shows)
            | inr whole ↦ inr (asks_adopts p up_one up_two below whole)
          ]
    ] in
    subst (Found p) (sym (asks_first p up_one up_two few)) found

calm_asks : (who : Who) → AllCalm (asks_and_tells who)
calm_asks who = (refl, (refl, (refl, (refl, (refl, (refl, (refl, tt)))))))

both_ask : (p : Pair) → IsSure p → p.one.up ≡ true → p.two.up ≡ true → p.one.link.asked < greatest → p.two.link.asked + 2 < greatest → OneHasEnded (run (run p (asks_and_tells One)) (asks_and_tells Two)) ⊎ BothAsked p (run (run p (asks_and_tells One)) (asks_and_tells Two))
both_ask p h up_one up_two few_one few_two =
    let q = run p (asks_and_tells One) in
    let sure_q : IsSure q = run_sure p h (asks_and_tells One) in
    let r = run (swap q) (asks_and_tells One) in
    let is : run q (asks_and_tells Two) ≡ swap r = run_swap (swap q) (asks_and_tells One) in
    elim (asks_one p h up_one up_two few_one) [
      | inl ended ↦ inl (run_ended q ended (asks_and_tells Two) (calm_asks Two))
      | inr a ↦
          elim (asks_one (swap q) (swap_sure q sure_q) a.up_two a.up_one (omega (arith, a.asked_two))) [
            | inl ended ↦ inl (subst OneHasEnded (sym is) (swap_ended r ended))
            | inr b ↦
                inr (subst (BothAsked p) (sym is) (record {
                  live = record {
                    sure = swap_sure r (run_sure (swap q) (swap_sure q sure_q) (asks_and_tells One));
                    up_one = b.up_two;
                    up_two = b.up_one;
                    adopted_one = b.adopted_two ∙ a.adopted ∙ ap (λ n. Some n) (sym b.own_one);
                    adopted_two = b.adopted;
                  };
                  sent_one = b.sent_two ∙ a.sent_one;
                  sent_two = b.sent_one ∙ a.sent_two;
                  taken_one = b.taken_two ∙ a.taken_one;
                  taken_two = b.taken_one ∙ a.taken_two;
                }))
          ]
    ]

first_round_finds : (p : Pair) → IsSure p → p.one.up ≡ true → p.two.up ≡ true → p.one.link.asked < greatest → p.two.link.asked + 2 < greatest → OneHasEnded (run p finding_round) ⊎ IsFirst p (run p finding_round)
first_round_finds p h up_one up_two few_one few_two =
    let q = run (run p (asks_and_tells One)) (asks_and_tells Two) in
    elim (both_ask p h up_one up_two few_one few_two) [
      | inl ended ↦
          inl (ended_stays (happens (acknowledged q) One Replays)
          (ended_stays (acknowledged q) (run_ended (run q (syncs_and_acknowledges One)) (run_ended q ended (syncs_and_acknowledges One) (calm_acks One)) (syncs_and_acknowledges Two) (calm_acks Two)) One Replays refl)
          Two Replays refl)
      | inr asked ↦
          elim (both_acknowledge q asked.live) [
            | inl ended ↦ inl (ended_stays (happens (acknowledged q) One Replays) (ended_stays (acknowledged q) ended One Replays refl) Two Replays refl)
            | inr acked ↦ elim (both_replay (acknowledged q) q acked) [ inl ended ↦ inl ended | inr first ↦ inr (first_from p q (run p finding_round) asked first) ]
          ]
    ]

pub settled_or_ended : (all : List (Who × Move)) (seconds : ℕ) (who : Who) → (after_moves all).one.up ≡ true → (after_moves all).two.up ≡ true → (after_moves all).one.link.asked + 2 < greatest → (after_moves all).two.link.asked + 2 < greatest → LackFew seconds (after_moves all) → OneHasEnded (after_finding_rounds seconds (after_moves all)) ⊎ IsSettled who (after_finding_rounds seconds (after_moves all))
settled_or_ended all seconds who up_one up_two few_one few_two lack =
    let p = after_moves all in
    let q = run p finding_round in
    elim (first_round_finds p (record { known = known all; kept = kept all }) up_one up_two (omega (arith, few_one)) few_two) [
      | inl ended ↦ inl (seconds_ended seconds q ended)
      | inr first ↦ elim (first_settles seconds p q first lack) [ inl ended ↦ inl ended | inr both ↦ inr (settles who (after_finding_rounds seconds p) both) ]
    ]
