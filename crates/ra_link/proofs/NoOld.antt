-- No host says that a whole book is old.
use Rattle.std.proofs.Common.{◌≡◌, ◌≤◌, ◌⊎◌, inl, inr, ℕ, List, [], ◌∷◌, ◌++◌, true, false, not, ◌&&◌, refl, sym, ◌∙◌, ap, Option, Some, None, arith}
use Rattle.std.specs.Prelude.{nat_lt}
use Rattle.std.specs.List.{All, AllByRecursion}
use Rattle.std.proofs.lemmas.Bool.{cases_Bool, both_ways, and_left, and_right, or_from, not_from_true, le-ltb, eq-eqb, true≢false, false≢true}
use Rattle.std.proofs.lemmas.List.Elements.{All-from_recursion}
use Rattle.ra_link.specs.declared.message.Message.{Message}
use Rattle.ra_link.specs.declared.message.Message.TheVariants.{Hello, Welcome, Frame, Ack, Old}
use Rattle.ra_link.specs.declared.link.Link.{Link}
use Rattle.ra_link.specs.Link.{is_nonce, is_open, is_below, shows_old}
use Rattle.ra_link.specs.Pair.{Host, Packet, Event, Turn, Pair, Who, was_used, turn, happens, run, new_host, new_pair, after, said_by, count_in, says_old}
use Rattle.ra_link.specs.Pair.Who.{One, Two}
use Rattle.ra_link.specs.PutBack.Move.{Goes as Does}
use Rattle.ra_link.proofs.Flow.{each_weaker, each_append}
use Rattle.ra_link.proofs.Own.{Told}
use Rattle.ra_link.proofs.Honest.{IsWhole, stays_whole, whole as whole_after}
use Rattle.ra_link.proofs.PutBack.{IsKnown, Knows, move_known, known as known_after}
use Rattle.ra_link.proofs.Going.{nonce_known, same_some, none_is_some, look, GoesOn, Says, Tells, Goes}
use Rattle.ra_link.proofs.GoingTurns.{turn_goes}
use Rattle.ra_link.proofs.Ready.{Named, NamedIn, old_start, each_both}
use Rattle.ra_link.proofs.Prefixes.{IsKept, move_kept, kept as kept_after}

-- acks of this start say no more than this
abbrev AtMostIn : ℕ → ℕ → Message → Type 0
AtMostIn start most (Hello s question) = Unit {0}
AtMostIn start most (Welcome asker question s kept) = Unit {0}
AtMostIn start most (Frame s number) = Unit {0}
AtMostIn start most (Ack s other kept) = s ≡ start → kept ≤ most
AtMostIn start most (Old count) = Unit {0}

-- this start of b is over, and has acknowledged no more than this; back is all that b said
record IsOver (b : Host) (back : List Packet) (most start : ℕ) : Type 0 where
  acks : AllByRecursion (λ p. AtMostIn start most p.message) back
  ended : b.up ≡ true → b.link.own ≡ start → ⊥

-- the answer is of a start of b after the adopted one, and counts no less than is known
record IsLater (l : Link) (b : Host) (back : List Packet) (kept : ℕ) : Type 0 where
  known : l.acknowledged ≤ kept
  over : (start : ℕ) → l.adopted ≡ Some start → IsOver b back kept start

-- an answer to the open question shows nothing that is old
record Answers (l : Link) (b : Host) (back : List Packet) (start kept : ℕ) : Type 0 where
  pending : (count : ℕ) → l.pending ≡ Some count → count ≤ kept
  later : (l.adopted ≡ Some start) ⊎ IsLater l b back kept

abbrev AnswerIn : Host → Host → List Packet → Message → Type 0
AnswerIn a b back (Hello start question) = Unit {0}
AnswerIn a b back (Welcome asker question start kept) =
    a.up ≡ true → asker ≡ a.link.own → question ≡ a.link.asked → is_open a.link.pending ≡ true → Answers a.link b back start kept
AnswerIn a b back (Frame start number) = Unit {0}
AnswerIn a b back (Ack start other kept) = Unit {0}
AnswerIn a b back (Old count) = Unit {0}

abbrev Answer : Host → Host → List Packet → Packet → Type 0
Answer a b back p = AnswerIn a b back p.message

-- a says no old; there is all that a said to b, and back all that b said to a
record IsClear (a b : Host) (there back : List Packet) : Type 0 where
  is_old : a.up ≡ true → a.link.is_old ≡ false
  pending : a.up ≡ true → (count : ℕ) → a.link.pending ≡ Some count → count ≤ a.link.acknowledged
  answers : AllByRecursion (Answer a b back) back
  said : AllByRecursion (λ p. says_old p.message ≡ false) there

-- ---- An answer does not show an old book

not_below : (o : Option ℕ) (kept : ℕ) → ((count : ℕ) → o ≡ Some count → count ≤ kept) → is_below o kept ≡ false
not_below None kept f = refl
not_below (Some count) kept f = le-ltb kept count (f count refl)

nonce_at : (o : Option ℕ) (start : ℕ) → o ≡ Some start → is_nonce o start ≡ true
nonce_at o start e = ap (λ p. is_nonce p start) e ∙ eq-eqb start start refl

shows_nothing : (l : Link) (b : Host) (back : List Packet) (start kept : ℕ) → Answers l b back start kept → shows_old l start kept ≡ false
shows_nothing l b back start kept h =
    or_from (is_below l.pending kept) (not (is_nonce l.adopted start) && nat_lt kept l.acknowledged) (not_below l.pending kept h.pending)
    (elim h.later [
      | inl same ↦ and_left (not (is_nonce l.adopted start)) (nat_lt kept l.acknowledged) (not_from_true (is_nonce l.adopted start) (nonce_at l.adopted start same))
      | inr later ↦ and_right (not (is_nonce l.adopted start)) (nat_lt kept l.acknowledged) (le-ltb kept l.acknowledged later.known)
    ])

-- ---- The host that asks takes a turn

is_old_out : (x b : Host) (t : Turn) (there back : List Packet) → Goes x back t → IsClear x b there back → t.host.up ≡ true → t.host.link.is_old ≡ false
is_old_out x b t there back g h up =
    let z = t.host in
    elim (cases_Bool z.link.is_old) [
      | inr never ↦ never
      | inl told ↦
          elim (g.up up) [
            | inl on ↦
                elim on.question [
                  | inl same ↦
                      elim (same.is_old told) [
                        | inl was ↦ absurd (true≢false (sym was ∙ h.is_old on.up))
                        | inr by ↦
                            let answers = look (Answer x b back) back (Welcome by.asker by.question by.start by.kept) by.frame h.answers by.said on.up by.own by.number by.open_before in
                            absurd (true≢false (sym by.shows ∙ shows_nothing x.link b back by.start by.kept answers))
                      ]
                  | inr more ↦ elim more [ inl next ↦ next.is_old | inr answered ↦ answered.is_old ]
                ]
            | inr fresh ↦ fresh.is_old
          ]
    ]

pending_out : (x b : Host) (t : Turn) (there back : List Packet) → Goes x back t → IsClear x b there back → t.host.up ≡ true → (count : ℕ) → t.host.link.pending ≡ Some count → count ≤ t.host.link.acknowledged
pending_out x b t there back g h up count e =
    let z = t.host in
    elim (g.up up) [
      | inl on ↦
          elim on.question [
            | inl same ↦ let le : count ≤ x.link.acknowledged = h.pending on.up count (sym same.pending ∙ e) in omega (arith, on.acknowledged)
            | inr more ↦
                elim more [
                  | inl next ↦ let c : x.link.acknowledged ≡ count = same_some x.link.acknowledged count (sym next.pending ∙ e) in omega (arith, next.acknowledged)
                  | inr answered ↦ absurd (none_is_some count (sym answered.closed ∙ e))
                ]
          ]
      | inr fresh ↦ let c : 0 ≡ count = same_some 0 count (sym fresh.pending ∙ e) in omega arith
    ]

answers_on : (x z b : Host) (back : List Packet) (start kept : ℕ) → GoesOn x z back → z.link.pending ≡ x.link.pending → z.link.adopted ≡ x.link.adopted → (IsLater x.link b back kept → z.link.acknowledged ≤ kept) → Answers x.link b back start kept → Answers z.link b back start kept
answers_on x z b back start kept on pending adopted more h =
    record {
      pending = λ count e. h.pending count (sym pending ∙ e);
      later = elim h.later [
        | inl same ↦ inl (adopted ∙ same)
        | inr later ↦ inr (record { known = more later; over = λ s e. later.over s (sym adopted ∙ e) })
      ];
    }

answer_out : (x b : Host) (t : Turn) (there back : List Packet) → Goes x back t → IsClear x b there back → (m : Message) → NamedIn b x m → AnswerIn x b back m → AnswerIn t.host b back m
answer_out x b t there back g c (Hello start question) n h = tt
answer_out x b t there back g c (Welcome asker question start kept) n h = λ up own number opened.
    let z = t.host in
    elim (g.up up) [
      | inl on ↦
          let own_before : asker ≡ x.link.own = own ∙ on.own in
          elim on.question [
            | inl same ↦
                let before = h on.up own_before (number ∙ same.asked) (sym (ap is_open same.pending) ∙ opened) in
                elim same.acknowledged [
                  | inl known ↦ answers_on x z b back start kept on same.pending same.adopted (λ later. omega (arith, later.known)) before
                  | inr by ↦
                      answers_on x z b back start kept on same.pending same.adopted
                      (λ later.
                      let le : by.kept ≤ kept = look (λ p. AtMostIn by.start kept p.message) back (Ack by.start by.other by.kept) by.frame (later.over by.start by.adopted).acks by.said refl in
                      omega (arith, later.known, by.acknowledged))
                      before
                ]
            | inr more ↦
                elim more [
                  | inl next ↦ let le : question ≤ x.link.asked = n.2 on.up own_before in absurd (omega (arith, next.asked))
                  | inr answered ↦ absurd (true≢false (sym opened ∙ ap is_open answered.closed))
                ]
          ]
      | inr fresh ↦ absurd (old_start x z asker fresh n.1 own)
    ]
answer_out x b t there back g c (Frame start number) n h = tt
answer_out x b t there back g c (Ack start other kept) n h = tt
answer_out x b t there back g c (Old count) n h = tt

not_old : (z : Host) (back : List Packet) → z.link.is_old ≡ false → (m : Message) (frame : List ℕ) → Tells z back m frame → says_old m ≡ false
not_old z back never (Hello start question) frame s = refl
not_old z back never (Welcome asker question start kept) frame s = refl
not_old z back never (Frame start number) frame s = refl
not_old z back never (Ack start other kept) frame s = refl
not_old z back never (Old count) frame s = absurd (true≢false (sym s.0 ∙ never))

clear_out : (x b : Host) (t : Turn) (there back : List Packet) → AllByRecursion (Named b x) back → Goes x back t → IsClear x b there back → IsClear t.host b (t.says ++ there) back
clear_out x b t there back n g h =
    let z = t.host in
    let never = is_old_out x b t there back g h in
    let P = λ (p : Packet). says_old p.message ≡ false in
    record {
      is_old = never;
      pending = pending_out x b t there back g h;
      answers = each_both (Named b x) (Answer x b back) (Answer z b back) (λ p n a. answer_out x b t there back g h p.message n a) back n h.answers;
      said = each_append P t.says there (each_weaker (Says z back) P (λ p s. not_old z back (never s.up) p.message p.frame s.tells) t.says g.says) h.said;
    }

-- ---- The host that answers takes a turn

-- a start that is over stays so
over_ended : (x : Host) (t : Turn) (back there : List Packet) (most start : ℕ) → Goes x there t → was_used start x.starts ≡ true → IsOver x back most start → t.host.up ≡ true → t.host.link.own ≡ start → ⊥
over_ended x t back there most start g u o up own =
    elim (g.up up) [
      | inl on ↦ o.ended on.up (sym on.own ∙ own)
      | inr fresh ↦ old_start x t.host start fresh u (sym own)
    ]

not_of_it : (z : Host) (there : List Packet) (most start : ℕ) → (z.link.own ≡ start → ⊥) → (m : Message) (frame : List ℕ) → Tells z there m frame → AtMostIn start most m
not_of_it z there most start never (Hello s question) frame h = tt
not_of_it z there most start never (Welcome asker question s kept) frame h = tt
not_of_it z there most start never (Frame s number) frame h = tt
not_of_it z there most start never (Ack s other kept) frame h = λ same. absurd (never (sym h.0 ∙ same))
not_of_it z there most start never (Old count) frame h = tt

over_in : (x : Host) (t : Turn) (there back : List Packet) (most start : ℕ) → Goes x there t → was_used start x.starts ≡ true → IsOver x back most start → IsOver t.host (t.says ++ back) most start
over_in x t there back most start g u o =
    let z = t.host in
    let ended = over_ended x t back there most start g u o in
    let P = λ (p : Packet). AtMostIn start most p.message in
    record {
      acks = each_append P t.says back (each_weaker (Says z there) P (λ p h. not_of_it z there most start (ended h.up) p.message p.frame h.tells) t.says g.says) o.acks;
      ended = ended;
    }

answer_in : (a x : Host) (t : Turn) (there back : List Packet) → (a.up ≡ true → Knows x a.link) → Goes x there t → (m : Message) → AnswerIn a x back m → AnswerIn a t.host (t.says ++ back) m
answer_in a x t there back k g (Hello start question) h = tt
answer_in a x t there back k g (Welcome asker question start kept) h = λ up own number opened.
    let before = h up own number opened in
    record {
      pending = before.pending;
      later = elim before.later [
        | inl same ↦ inl same
        | inr later ↦ inr (record { known = later.known; over = λ s e. over_in x t there back kept s g ((k up).0 s e) (later.over s e) })
      ];
    }
answer_in a x t there back k g (Frame start number) h = tt
answer_in a x t there back k g (Ack start other kept) h = tt
answer_in a x t there back k g (Old count) h = tt

within : (start most : ℕ) (m : Message) → count_in m ≤ most → AtMostIn start most m
within start most (Hello s question) le = tt
within start most (Welcome asker question s kept) le = tt
within start most (Frame s number) le = tt
within start most (Ack s other kept) le = λ _. le
within start most (Old count) le = tt

-- z says it; its book is whole
answer_new : (a z : Host) (there all : List Packet) → (a.up ≡ true → (count : ℕ) → a.link.pending ≡ Some count → count ≤ a.link.acknowledged) → a.link.acknowledged ≤ z.taken_kept → AllByRecursion (Told z) all → (m : Message) (frame : List ℕ) → Tells z there m frame → AnswerIn a z all m
answer_new a z there all p le f (Hello start question) frame s = tt
answer_new a z there all p le f (Welcome asker question start kept) frame s = λ up own number opened.
    record {
      pending = λ count e. let below : count ≤ a.link.acknowledged = p up count e in omega (arith, s.2);
      later = elim (cases_Bool (is_nonce a.link.adopted start)) [
        | inl known ↦ inl (nonce_known a.link.adopted start known)
        | inr never ↦
            inr (record {
              known = omega (arith, s.2);
              over = λ other e.
                  record {
                    acks = each_weaker (Told z) (λ q. AtMostIn other kept q.message) (λ q h. within other kept q.message (omega (arith, h.count, s.2))) all f;
                    ended = λ _ same. both_ways (is_nonce a.link.adopted start) never (nonce_at a.link.adopted start (e ∙ ap (λ i. Some i) (sym same ∙ sym s.0)));
                  };
            })
      ];
    }
answer_new a z there all p le f (Frame start number) frame s = tt
answer_new a z there all p le f (Ack start other kept) frame s = tt
answer_new a z there all p le f (Old count) frame s = tt

clear_in : (a x : Host) (t : Turn) (there back : List Packet) → (a.up ≡ true → Knows x a.link) → Goes x there t → a.link.acknowledged ≤ t.host.taken_kept → AllByRecursion (Told t.host) (t.says ++ back) → IsClear a x there back → IsClear a t.host there (t.says ++ back)
clear_in a x t there back k g le f h =
    let z = t.host in
    let all = t.says ++ back in
    record {
      is_old = h.is_old;
      pending = h.pending;
      answers = each_append (Answer a z all) t.says back
          (each_weaker (Says z there) (Answer a z all) (λ p s. answer_new a z there all h.pending le f p.message p.frame s.tells) t.says g.says)
          (each_weaker (Answer a x back) (Answer a z all) (λ p n. answer_in a x t there back k g p.message n) back h.answers);
      said = h.said;
    }

-- ---- Runs

record AreClear (p : Pair) : Type 0 where
  whole : IsWhole p
  known : IsKnown p
  kept : IsKept p
  one : IsClear p.one p.two p.to_two p.to_one
  two : IsClear p.two p.one p.to_one p.to_two

event_clear : (p : Pair) → AreClear p → (who : Who) (e : Event) → AreClear (happens p who e)
event_clear p h One e =
    let t = turn p.to_one p.one e in
    let g = turn_goes p.one p.to_one h.kept.one.book e in
    let w : IsWhole (happens p One e) = stays_whole p h.whole One e in
    record {
      whole = w;
      known = move_known p h.known One (Does e);
      kept = move_kept p h.known h.kept One (Does e);
      one = clear_out p.one p.two t p.to_two p.to_one h.kept.back.named g h.one;
      two = clear_in p.two p.one t p.to_one p.to_two h.known.from_two.knows g w.known_two w.one.said h.two;
    }
event_clear p h Two e =
    let t = turn p.to_two p.two e in
    let g = turn_goes p.two p.to_two h.kept.two.book e in
    let w : IsWhole (happens p Two e) = stays_whole p h.whole Two e in
    record {
      whole = w;
      known = move_known p h.known Two (Does e);
      kept = move_kept p h.known h.kept Two (Does e);
      one = clear_in p.one p.two t p.to_two p.to_one h.known.from_one.knows g w.known_one w.two.said h.one;
      two = clear_out p.two p.one t p.to_one p.to_two h.kept.there.named g h.two;
    }

run_clear : (p : Pair) → AreClear p → (events : List (Who × Event)) → AreClear (run p events)
run_clear p h [] = h
run_clear p h (e ∷ events) = run_clear (happens p e.0 e.1) (event_clear p h e.0 e.1) events

new_clear : IsClear new_host new_host [] []
new_clear = record { is_old = λ up. absurd (false≢true up); pending = λ up. absurd (false≢true up); answers = tt; said = tt }

clear : (events : List (Who × Event)) → AreClear (after events)
clear events = run_clear new_pair (record { whole = whole_after []; known = known_after []; kept = kept_after []; one = new_clear; two = new_clear }) events

said_clear : (who : Who) (p : Pair) → AreClear p → AllByRecursion (λ packet. says_old packet.message ≡ false) (said_by who p)
said_clear One p h = h.one.said
said_clear Two p h = h.two.said

pub no_old_said : (events : List (Who × Event)) (who : Who) → All (λ packet. says_old packet.message ≡ false) (said_by who (after events))
no_old_said events who = All-from_recursion (λ packet. says_old packet.message ≡ false) (said_by who (after events)) (said_clear who (after events) (clear events))
