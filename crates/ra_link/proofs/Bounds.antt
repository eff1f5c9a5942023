-- What a ready host hears counts no more than it has on its disk, if books may be put back.
use Rattle.std.proofs.Common.{◌≡◌, ◌≤◌, ◌<◌, ◌⊎◌, inl, inr, ℕ, List, [], ◌∷◌, ◌++◌, true, false, length, refl, sym, ◌∙◌, ap, subst, Some, arith}
use Rattle.std.specs.List.{AllByRecursion}
use Rattle.std.proofs.lemmas.Bool.{cases_Bool, both_ways, true≢false, false≢true, false_from_ne_true, eq-eqb}
use Rattle.ra_link.specs.declared.message.Message.{Message}
use Rattle.ra_link.specs.declared.message.Message.TheVariants.{Hello, Welcome, Frame, Ack, Old}
use Rattle.ra_link.specs.declared.link.Link.{Link}
use Rattle.ra_link.specs.Link.{is_open, is_nonce}
use Rattle.ra_link.specs.Pair.{Host, Packet, Event, Turn, Pair, Who, silent, turn, happens, new_host, new_pair, this, count_in}
use Rattle.ra_link.specs.Pair.Who.{One, Two}
use Rattle.ra_link.specs.PutBack.{Move, puts_back, moves, run_moves, after_moves}
use Rattle.ra_link.specs.PutBack.Move.{Goes as Does, Put_back}
use Rattle.ra_link.proofs.Flow.{each_weaker, each_append}
use Rattle.ra_link.proofs.PutBack.{Counts, Said, IsKnown, move_known, known}
use Rattle.ra_link.proofs.Going.{IsIn, look, nonce_known, same_some, CountsFor, GoesOn, IsAnswered, IsBook, Says, Tells, Goes}
use Rattle.ra_link.proofs.GoingTurns.{turn_goes, put_back_goes}
use Rattle.ra_link.proofs.Ready.{Named, NamedIn, AckFits, AckFitsIn, Offer, OfferIn, OfEachStart, Reaches, Settled, old_start, offer_closed, starts_weaker, starts_stay, starts_more, each_both, not_ready}
use Rattle.ra_link.proofs.Prefixes.{IsKept, move_kept, kept as kept_after}

-- ---- Counts of one start

-- if it is an answer of this start to the open question, or an ack of it for this one: it counts at most this
abbrev MostIn : Link → ℕ → ℕ → Message → Type 0
MostIn l most start (Hello s question) = Unit {0}
MostIn l most start (Welcome asker question s kept) = s ≡ start → asker ≡ l.own → question ≡ l.asked → is_open l.pending ≡ true → kept ≤ most
MostIn l most start (Frame s number) = Unit {0}
MostIn l most start (Ack s other kept) = s ≡ start → other ≡ l.own → kept ≤ most
MostIn l most start (Old count) = Unit {0}

abbrev Most : Link → ℕ → List Packet → ℕ → Type 0
Most l most back start = AllByRecursion (λ p. MostIn l most start p.message) back

more_in : (l : Link) (most more start : ℕ) → most ≤ more → (m : Message) → MostIn l most start m → MostIn l more start m
more_in l most more start le (Hello s question) h = tt
more_in l most more start le (Welcome asker question s kept) h = λ same own number opened. let few : kept ≤ most = h same own number opened in omega arith
more_in l most more start le (Frame s number) h = tt
more_in l most more start le (Ack s other kept) h = λ same own. let few : kept ≤ most = h same own in omega arith
more_in l most more start le (Old count) h = tt

more_than : (l : Link) (most more start : ℕ) (back : List Packet) → most ≤ more → Most l most back start → Most l more back start
more_than l most more start back le h =
    each_weaker (λ p. MostIn l most start p.message) (λ p. MostIn l more start p.message) (λ p k. more_in l most more start le p.message k) back h

-- what a host says counts what is on its disk
most_new : (l : Link) (most start : ℕ) (z : Host) (there : List Packet) → z.taken_kept ≤ most → (m : Message) (frame : List ℕ) → Tells z there m frame → MostIn l most start m
most_new l most start z there le (Hello s question) frame t = tt
most_new l most start z there le (Welcome asker question s kept) frame t = λ _ _ _ _. omega (arith, t.2)
most_new l most start z there le (Frame s number) frame t = tt
most_new l most start z there le (Ack s other kept) frame t = λ _ _. omega (arith, t.3)
most_new l most start z there le (Old count) frame t = tt

-- and what the start that runs ever said is still there
most_own : (l : Link) (most : ℕ) (z : Host) → z.up ≡ true → z.taken_kept ≤ most → (m : Message) → Counts z m → MostIn l most z.link.own m
most_own l most z up le (Hello s question) c = tt
most_own l most z up le (Welcome asker question s kept) c = λ same _ _ _. let few : kept ≤ z.taken_kept = c.1 up (sym same) in omega arith
most_own l most z up le (Frame s number) c = tt
most_own l most z up le (Ack s other kept) c = λ same _. let few : kept ≤ z.taken_kept = c.1 up (sym same) in omega arith
most_own l most z up le (Old count) c = tt

own_most : (l : Link) (most : ℕ) (z : Host) (back : List Packet) → z.up ≡ true → z.taken_kept ≤ most → AllByRecursion (Said z) back → Most l most back z.link.own
own_most l most z back up le c = each_weaker (Said z) (λ p. MostIn l most z.link.own p.message) (λ p s. most_own l most z up le p.message s) back c

-- ---- The bounds

-- An ack of a start for this one. Until the host is ready, no start that it may adopt counts more for it, if the ack is
-- of that start or of the adopted one.
abbrev BoundIn : Host → List Packet → Message → Type 0
BoundIn a back (Hello start question) = Unit {0}
BoundIn a back (Welcome asker question start kept) = Unit {0}
BoundIn a back (Frame start number) = Unit {0}
BoundIn a back (Ack start other kept) =
    a.up ≡ true → a.link.ready ≡ false → other ≡ a.link.own
    → OfEachStart (λ s. ((a.link.adopted ≡ Some start) ⊎ (s ≡ start)) → Most a.link kept back s) a back
BoundIn a back (Old count) = Unit {0}

abbrev Bound : Host → List Packet → Packet → Type 0
Bound a back p = BoundIn a back p.message

-- back is all that was said to a
record Bounded (a : Host) (back : List Packet) : Type 0 where
  acks : AllByRecursion (Bound a back) back
  confirmed : a.up ≡ true → a.link.confirmed ≡ true → a.link.ready ≡ false → OfEachStart (Most a.link a.link.acknowledged back) a back
  ready : a.up ≡ true → a.link.ready ≡ true → OfEachStart (Most a.link a.sent_kept back) a back

-- ---- a takes a turn

most_out : (x z b : Host) (back : List Packet) → GoesOn x z back → (most start : ℕ) (m : Message) → NamedIn b x m → MostIn x.link most start m → MostIn z.link most start m
most_out x z b back on most start (Hello s question) n h = tt
most_out x z b back on most start (Welcome asker question s kept) n h = λ same own number opened.
    let own_before : asker ≡ x.link.own = own ∙ on.own in
    elim on.question [
      | inl as_before ↦ h same own_before (number ∙ as_before.asked) (sym (ap is_open as_before.pending) ∙ opened)
      | inr more ↦
          elim more [
            | inl next ↦ let le : question ≤ x.link.asked = n.2 on.up own_before in absurd (omega (arith, next.asked))
            | inr answered ↦ absurd (true≢false (sym opened ∙ ap is_open answered.closed))
          ]
    ]
most_out x z b back on most start (Frame s number) n h = tt
most_out x z b back on most start (Ack s other kept) n h = λ same own. h same (own ∙ on.own)
most_out x z b back on most start (Old count) n h = tt

mosts_out : (x z b : Host) (back : List Packet) → GoesOn x z back → AllByRecursion (Named b x) back → (most more start : ℕ) → most ≤ more → Most x.link most back start → Most z.link more back start
mosts_out x z b back on n most more start le h =
    more_than z.link most more start back le
    (each_both (Named b x) (λ p. MostIn x.link most start p.message) (λ p. MostIn z.link most start p.message) (λ p name k. most_out x z b back on most start p.message name k) back n h)

starts_out : (x b : Host) (t : Turn) (back : List Packet) → Goes x back t → GoesOn x t.host back → AllByRecursion (Named b x) back → (most more : ℕ) → most ≤ more → OfEachStart (Most x.link most back) x back → OfEachStart (Most t.host.link more back) t.host back
starts_out x b t back g on n most more le e =
    starts_weaker (Most x.link most back) (Most t.host.link more back) (λ start h. mosts_out x t.host b back on n most more start le h) t.host back
    (starts_stay (Most x.link most back) b x t back g n e)

-- an answer was adopted: the host may adopt no other start
adopted_out : (P Q : ℕ → Type 0) (x z b : Host) (back : List Packet) → IsAnswered x.link z.link back → AllByRecursion (Named b x) back → ((start : ℕ) → z.link.adopted ≡ Some start → P start → Q start) → OfEachStart P z back → OfEachStart Q z back
adopted_out P Q x z b back by n f e =
    record {
      adopted = λ up start same. f start same (e.adopted up start same);
      offered = each_weaker (Named b x) (Offer Q z) (λ p _. offer_closed Q z (ap is_open by.closed) p.message) back n;
    }

bound_out : (x b : Host) (t : Turn) (back : List Packet) → Goes x back t → AllByRecursion (Named b x) back → (m : Message) → NamedIn b x m → BoundIn x back m → BoundIn t.host back m
bound_out x b t back g n (Hello start question) name h = tt
bound_out x b t back g n (Welcome asker question start kept) name h = tt
bound_out x b t back g n (Frame start number) name h = tt
bound_out x b t back g n (Ack start other kept) name h = λ up unready own.
    let z = t.host in
    let P = λ (s : ℕ). ((x.link.adopted ≡ Some start) ⊎ (s ≡ start)) → Most x.link kept back s in
    let Q = λ (s : ℕ). ((z.link.adopted ≡ Some start) ⊎ (s ≡ start)) → Most z.link kept back s in
    elim (g.up up) [
      | inl on ↦
          let before : OfEachStart P x back = h on.up (not_ready x z back on unready) (own ∙ on.own) in
          let after : OfEachStart P z back = starts_stay P b x t back g n before in
          let same_adopted : z.link.adopted ≡ x.link.adopted → OfEachStart Q z back =
          λ same. starts_weaker P Q (λ s most why. mosts_out x z b back on n kept kept s (omega arith) (most (elim why [ inl e ↦ inl (sym same ∙ e) | inr e ↦ inr e ]))) z back after in
          elim on.question [
            | inl as_before ↦ same_adopted as_before.adopted
            | inr more ↦
                elim more [
                  | inl next ↦ same_adopted next.adopted
                  | inr by ↦
                      adopted_out P Q x z b back by n
                      (λ s adopted most why. mosts_out x z b back on n kept kept s (omega arith) (most (inr (elim why [ inl e ↦ same_some s start (sym adopted ∙ e) | inr e ↦ e ]))))
                      after
                ]
          ]
      | inr fresh ↦ absurd (old_start x z other fresh name.1 own)
    ]
bound_out x b t back g n (Old count) name h = tt

bounded_out : (x b : Host) (t : Turn) (back : List Packet) → IsBook x → Goes x back t → AllByRecursion (Named b x) back → Bounded x back → Bounded t.host back
bounded_out x b t back k g n h =
    let z = t.host in
    record {
      acks = each_both (Named b x) (Bound x back) (Bound z back) (λ p name e. bound_out x b t back g n p.message name e) back n h.acks;
      confirmed = λ up c f.
          elim (g.up up) [
            | inl on ↦
                let unready = not_ready x z back on f in
                elim (on.confirmed c) [
                  | inl was ↦ starts_out x b t back g on n x.link.acknowledged z.link.acknowledged on.acknowledged (h.confirmed on.up was unready)
                  | inr by ↦
                      let acks = look (Bound x back) back (Ack by.start by.other by.kept) by.frame h.acks by.said on.up unready by.own_start in
                      starts_out x b t back g on n by.kept z.link.acknowledged by.at_most
                      (starts_weaker (λ s. ((x.link.adopted ≡ Some by.start) ⊎ (s ≡ by.start)) → Most x.link by.kept back s) (Most x.link by.kept back) (λ s most. most (inl by.adopted)) x back acks)
                ]
            | inr fresh ↦ absurd (true≢false (sym c ∙ fresh.confirmed))
          ];
      ready = λ up c.
          elim (g.up up) [
            | inl on ↦
                elim (on.readied c) [
                  | inl was ↦ starts_out x b t back g on n x.sent_kept z.sent_kept on.kept (h.ready on.up was)
                  | inr by ↦
                      let whole : x.sent_kept ≡ length x.sent = (k.link on.up).whole by.before in
                      starts_out x b t back g on n x.link.acknowledged z.sent_kept (omega (arith, by.all, on.kept)) (h.confirmed on.up by.confirmed by.before)
                ]
            | inr fresh ↦ absurd (true≢false (sym c ∙ fresh.ready))
          ];
    }

-- ---- b takes a turn

most_more : (l : Link) (most start : ℕ) (z : Host) (there says back : List Packet) → z.taken_kept ≤ most → AllByRecursion (Says z there) says → Most l most back start → Most l most (says ++ back) start
most_more l most start z there says back le s h =
    each_append (λ p. MostIn l most start p.message) says back
    (each_weaker (Says z there) (λ p. MostIn l most start p.message) (λ p t. most_new l most start z there le p.message p.frame t.tells) says s)
    h

-- b says more: what it says counts what is on its disk
starts_in : (a z : Host) (there back says : List Packet) (most : ℕ) → z.taken_kept ≤ most → AllByRecursion (Says z there) says → AllByRecursion (Said z) (says ++ back) → OfEachStart (Most a.link most back) a back → OfEachStart (Most a.link most (says ++ back)) a (says ++ back)
starts_in a z there back says most le s c e =
    let all = says ++ back in
    starts_more (Most a.link most all) a z there back says (λ up. own_most a.link most z all up le c) s
    (starts_weaker (Most a.link most back) (Most a.link most all) (λ start h. most_more a.link most start z there says back le s h) a back e)

bound_in : (a z : Host) (there back says : List Packet) → z.taken_kept ≤ length z.taken → AllByRecursion (Says z there) says → AllByRecursion (Said z) (says ++ back) → (p : Packet) → AckFits a z there p → Bound a back p → Bound a (says ++ back) p
bound_in a z there back says k s c p f h = by p.message f h
  where
    by : (m : Message) → AckFitsIn a z there m → BoundIn a back m → BoundIn a (says ++ back) m
    by (Hello start question) f h = tt
    by (Welcome asker question start kept) f h = tt
    by (Frame start number) f h = tt
    by (Ack start other kept) f h = λ up unready own.
        let all = says ++ back in
        let few : length z.taken ≤ kept = (f up own).1 unready in
        let le : z.taken_kept ≤ kept = omega arith in
        let P = λ (t : ℕ). ((a.link.adopted ≡ Some start) ⊎ (t ≡ start)) → Most a.link kept back t in
        let Q = λ (t : ℕ). ((a.link.adopted ≡ Some start) ⊎ (t ≡ start)) → Most a.link kept all t in
        starts_more Q a z there back says (λ z_up _. own_most a.link kept z all z_up le c) s
        (starts_weaker P Q (λ t most why. most_more a.link kept t z there says back le s (most why)) a back (h up unready own))
    by (Old count) f h = tt

-- P holds of each start
offer_any : (P : ℕ → Type 0) → ((start : ℕ) → P start) → (b : Host) (m : Message) → OfferIn P b m
offer_any P f b (Hello start question) = tt
offer_any P f b (Welcome asker question start kept) = λ _ _ _ _. f start
offer_any P f b (Frame start number) = tt
offer_any P f b (Ack start other kept) = tt
offer_any P f b (Old count) = tt

offers_any : (P : ℕ → Type 0) → ((start : ℕ) → P start) → (b : Host) (ps : List Packet) → AllByRecursion (Offer P b) ps
offers_any P f b [] = tt
offers_any P f b (p ∷ ps) = (offer_any P f b p.message, offers_any P f b ps)

-- z says an ack now
bound_new : (a z : Host) (there all : List Packet) → (z.up ≡ true → a.up ≡ true → a.link.adopted ≡ Some z.link.own → Settled z.link.own a all) → AllByRecursion (Said z) all → (m : Message) (frame : List ℕ) → z.up ≡ true → Tells z there m frame → BoundIn a all m
bound_new a z there all v c (Hello start question) frame up t = tt
bound_new a z there all v c (Welcome asker question start kept) frame up t = tt
bound_new a z there all v c (Frame start number) frame up t = tt
bound_new a z there all v c (Ack start other kept) frame up t = λ a_up unready own.
    let Q = λ (s : ℕ). ((a.link.adopted ≡ Some start) ⊎ (s ≡ start)) → Most a.link kept all s in
    let own_few : Most a.link kept all z.link.own = own_most a.link kept z all up (omega (arith, t.3)) c in
    let at : (s : ℕ) → s ≡ z.link.own → Most a.link kept all s = λ s e. subst (λ n. Most a.link kept all n) (sym e) own_few in
    elim (cases_Bool (is_nonce a.link.adopted z.link.own)) [
      | inl adopted ↦ starts_weaker (λ s. s ≡ z.link.own) Q (λ s e _. at s e) a all (v up a_up (nonce_known a.link.adopted z.link.own adopted))
      | inr never ↦
          let any : (s : ℕ) → Q s =
          λ s why. elim why [
            | inl e ↦ absurd (both_ways (is_nonce a.link.adopted z.link.own) never (ap (λ o. is_nonce o z.link.own) (e ∙ ap (λ n. Some n) t.0) ∙ eq-eqb z.link.own z.link.own refl))
            | inr e ↦ at s (e ∙ t.0)
          ] in
          record { adopted = λ _ s _. any s; offered = offers_any Q any a all }
    ]
bound_new a z there all v c (Old count) frame up t = tt

each_first : {X : Type 0} (P : X → Type 0) (xs ys : List X) → AllByRecursion P (xs ++ ys) → AllByRecursion P xs × AllByRecursion P ys
each_first P [] ys h = (tt, h)
each_first P (x ∷ xs) ys h = let rest = each_first P xs ys h.1 in ((h.0, rest.0), rest.1)

bounded_in : (a z : Host) (there back says : List Packet) → IsBook z → AllByRecursion (Says z there) says → Reaches a z there (says ++ back) → Reaches z a (says ++ back) there → AllByRecursion (Said z) (says ++ back) → Bounded a back → Bounded a (says ++ back)
bounded_in a z there back says k s r v c h =
    let all = says ++ back in
    record {
      acks = each_append (Bound a all) says back
          (each_weaker (Says z there) (Bound a all) (λ p t. bound_new a z there all v.adopted c p.message p.frame t.up t.tells) says s)
          (each_both (AckFits a z there) (Bound a back) (Bound a all) (λ p f e. bound_in a z there back says k.taken s c p f e) back (each_first (AckFits a z there) says back r.acks).1 h.acks);
      confirmed = λ up confirmed unready.
          let few = (r.confirmed up confirmed unready).1 in
          starts_in a z there back says a.link.acknowledged (omega (arith, few, k.taken)) s c (h.confirmed up confirmed unready);
      ready = λ up ready.
          let few = (r.ready up ready).1 in
          starts_in a z there back says a.sent_kept (omega (arith, few, k.taken)) s c (h.ready up ready);
    }

-- ---- Runs

record AreBounded (p : Pair) : Type 0 where
  known : IsKnown p
  kept : IsKept p
  one : Bounded p.one p.to_one
  two : Bounded p.two p.to_two

one_bounded : (p : Pair) (t : Turn) → AreBounded p → Goes p.one p.to_one t → IsKnown (record { one = t.host; two = p.two; to_one = p.to_one; to_two = t.says ++ p.to_two }) → IsKept (record { one = t.host; two = p.two; to_one = p.to_one; to_two = t.says ++ p.to_two }) → AreBounded (record { one = t.host; two = p.two; to_one = p.to_one; to_two = t.says ++ p.to_two })
one_bounded p t h g l k =
    record {
      known = l;
      kept = k;
      one = bounded_out p.one p.two t p.to_one h.kept.one.book g h.kept.back.named h.one;
      two = bounded_in p.two t.host p.to_one p.to_two t.says g.book g.says k.back.reaches k.there.reaches l.from_two.said h.two;
    }

two_bounded : (p : Pair) (t : Turn) → AreBounded p → Goes p.two p.to_two t → IsKnown (record { one = p.one; two = t.host; to_one = t.says ++ p.to_one; to_two = p.to_two }) → IsKept (record { one = p.one; two = t.host; to_one = t.says ++ p.to_one; to_two = p.to_two }) → AreBounded (record { one = p.one; two = t.host; to_one = t.says ++ p.to_one; to_two = p.to_two })
two_bounded p t h g l k =
    record {
      known = l;
      kept = k;
      one = bounded_in p.one t.host p.to_two p.to_one t.says g.book g.says k.there.reaches k.back.reaches l.from_one.said h.one;
      two = bounded_out p.two p.one t p.to_two h.kept.two.book g h.kept.there.named h.two;
    }

move_bounded : (p : Pair) → AreBounded p → (who : Who) (m : Move) → AreBounded (moves p who m)
move_bounded p h One (Does e) = one_bounded p (turn p.to_one p.one e) h (turn_goes p.one p.to_one h.kept.one.book e) (move_known p h.known One (Does e)) (move_kept p h.known h.kept One (Does e))
move_bounded p h Two (Does e) = two_bounded p (turn p.to_two p.two e) h (turn_goes p.two p.to_two h.kept.two.book e) (move_known p h.known Two (Does e)) (move_kept p h.known h.kept Two (Does e))
move_bounded p h One (Put_back sent taken) =
    one_bounded p (silent (puts_back p.one sent taken)) h (put_back_goes p.one p.to_one h.kept.one.book sent taken) (move_known p h.known One (Put_back sent taken)) (move_kept p h.known h.kept One (Put_back sent taken))
move_bounded p h Two (Put_back sent taken) =
    two_bounded p (silent (puts_back p.two sent taken)) h (put_back_goes p.two p.to_two h.kept.two.book sent taken) (move_known p h.known Two (Put_back sent taken)) (move_kept p h.known h.kept Two (Put_back sent taken))

run_bounded : (p : Pair) → AreBounded p → (all : List (Who × Move)) → AreBounded (run_moves p all)
run_bounded p h [] = h
run_bounded p h (m ∷ rest) = run_bounded (moves p m.0 m.1) (move_bounded p h m.0 m.1) rest

new_bounded : Bounded new_host []
new_bounded = record { acks = tt; confirmed = λ up. absurd (false≢true up); ready = λ up. absurd (false≢true up) }

bounded : (all : List (Who × Move)) → AreBounded (after_moves all)
bounded all = run_bounded new_pair (record { known = known []; kept = kept_after []; one = new_bounded; two = new_bounded }) all

-- ---- The law

-- what counts for a ready host is no more than it has sent
not_above : (x : Host) (back : List Packet) → IsBook x → Bounded x back → x.up ≡ true → x.link.ready ≡ true → (m : Message) (frame : List ℕ) → IsIn back m frame → CountsFor x.link m → x.link.sent < count_in m → ⊥
not_above x back k h up ready (Hello start question) frame said counts above = omega (arith, above)
not_above x back k h up ready (Welcome asker question start kept) frame said counts above =
    let most = look (Offer (Most x.link x.sent_kept back) x) back (Welcome asker question start kept) frame (h.ready up ready).offered said up counts.0 counts.1 counts.2 in
    let few : kept ≤ x.sent_kept = look (λ p. MostIn x.link x.sent_kept start p.message) back (Welcome asker question start kept) frame most said refl counts.0 counts.1 counts.2 in
    omega (arith, above, (k.link up).sent_all ready)
not_above x back k h up ready (Frame start number) frame said counts above = omega (arith, above)
not_above x back k h up ready (Ack start other kept) frame said counts above =
    let most = (h.ready up ready).adopted up start counts.0 in
    let few : kept ≤ x.sent_kept = look (λ p. MostIn x.link x.sent_kept start p.message) back (Ack start other kept) frame most said refl counts.1 in
    omega (arith, above, (k.link up).sent_all ready)
not_above x back k h up ready (Old count) frame said counts above = omega (arith, above)

stays_unaccused : (x : Host) (back : List Packet) → IsBook x → Bounded x back → x.up ≡ true → x.link.ready ≡ true → (t : Turn) → Goes x back t → t.host.accused ≡ false
stays_unaccused x back k h up ready t g = false_from_ne_true t.host.accused (λ accused.
    elim (g.accused accused) [
      | inl before ↦ true≢false (sym before ∙ k.unaccused up)
      | inr why ↦
          elim why [
            | inl by ↦ not_above x back k h up ready by.message by.frame by.said by.counts by.above
            | inr more ↦ elim more [ inl by ↦ true≢false (sym ready ∙ by.unready) | inr by ↦ true≢false (sym ready ∙ by.unready) ]
          ]
    ])

pub ready_never_accused : (all : List (Who × Move)) (who : Who) (e : Event) → (this who (after_moves all)).up ≡ true → (this who (after_moves all)).link.ready ≡ true → (this who (happens (after_moves all) who e)).accused ≡ false
ready_never_accused all One e up ready =
    let p = after_moves all in
    let h = bounded all in
    stays_unaccused p.one p.to_one h.kept.one.book h.one up ready (turn p.to_one p.one e) (turn_goes p.one p.to_one h.kept.one.book e)
ready_never_accused all Two e up ready =
    let p = after_moves all in
    let h = bounded all in
    stays_unaccused p.two p.to_two h.kept.two.book h.two up ready (turn p.to_two p.two e) (turn_goes p.two p.to_two h.kept.two.book e)
