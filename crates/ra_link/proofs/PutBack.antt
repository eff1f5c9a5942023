-- What a host knows of the start of the other one that runs, also if books may be put back.
use Rattle.std.proofs.Common.{◌≡◌, ◌≤◌, ◌⊎◌, inl, inr, ℕ, List, [], ◌∷◌, ◌++◌, true, false, not, ◌&&◌, refl, sym, ◌∙◌, ap, Some, arith}
use Rattle.std.specs.Prelude.{nat_lt}
use Rattle.std.specs.List.{AllByRecursion}
use Rattle.std.proofs.lemmas.Bool.{and_cases, or_parts, ltb-false, both_ways, not-false, false≢true}
use Rattle.ra_link.specs.declared.message.Message.{Message}
use Rattle.ra_link.specs.declared.message.Message.TheVariants.{Hello, Welcome, Frame, Ack, Old}
use Rattle.ra_link.specs.declared.link.Link.{Link}
use Rattle.ra_link.specs.Link.{is_nonce, is_below}
use Rattle.ra_link.specs.Pair.{Host, Packet, Turn, Pair, Who, silent, was_used, turn, new_host, new_pair, this, other}
use Rattle.ra_link.specs.Pair.Who.{One, Two}
use Rattle.ra_link.specs.PutBack.{Move, puts_back, moves, run_moves, after_moves}
use Rattle.ra_link.specs.PutBack.Move.{Goes as Does, Put_back}
use Rattle.ra_link.proofs.Flow.{each_weaker, each_append}
use Rattle.ra_link.proofs.Going.{look, IsBook, IsAnswered, Raises, Tells, Says, Goes, nonce_known, same_some, none_is_some}
use Rattle.ra_link.proofs.GoingTurns.{turn_goes, put_back_goes}

-- the link of a host that is up says what is in its book, and its start is one of its starts
pub record IsOwn (h : Host) : Type 0 where
  pub own : h.up ≡ true → was_used h.link.own h.starts ≡ true
  pub book : IsBook h

-- a count of y is of a start of y, and if that one runs, it is on its disk
abbrev pub Counts : Host → Message → Type 0
Counts y (Hello start question) = Unit {0}
Counts y (Welcome asker question start kept) = (was_used start y.starts ≡ true) × (y.up ≡ true → y.link.own ≡ start → kept ≤ y.taken_kept)
Counts y (Frame start number) = Unit {0}
Counts y (Ack start other kept) = (was_used start y.starts ≡ true) × (y.up ≡ true → y.link.own ≡ start → kept ≤ y.taken_kept)
Counts y (Old count) = Unit {0}

abbrev pub Said : Host → Packet → Type 0
Said y p = Counts y p.message

-- the link knows of y: the adopted start is one of y, and if it runs, what is known is on its disk
abbrev pub Knows : Host → Link → Type 0
Knows y l =
    ((start : ℕ) → l.adopted ≡ Some start → was_used start y.starts ≡ true)
    × (y.up ≡ true → l.adopted ≡ Some y.link.own → l.acknowledged ≤ y.taken_kept)

-- x hears y; back is all that y said
pub record HearsOf (y x : Host) (back : List Packet) : Type 0 where
  pub said : AllByRecursion (Said y) back
  pub knows : x.up ≡ true → Knows y x.link

pub record IsKnown (p : Pair) : Type 0 where
  pub one : IsOwn p.one
  pub two : IsOwn p.two
  pub from_one : HearsOf p.two p.one p.to_one
  pub from_two : HearsOf p.one p.two p.to_two

-- ---- A turn of y

-- its starts stay, and it is the same start, with no less on its disk, or a new one
record IsMoved (y z : Host) : Type 0 where
  starts : (start : ℕ) → was_used start y.starts ≡ true → was_used start z.starts ≡ true
  kind : z.up ≡ true → ((y.up ≡ true) × (z.link.own ≡ y.link.own) × (y.taken_kept ≤ z.taken_kept)) ⊎ (was_used z.link.own y.starts ≡ false)

still_there : (y z : Host) (start kept : ℕ) → IsMoved y z → was_used start y.starts ≡ true → (y.up ≡ true → y.link.own ≡ start → kept ≤ y.taken_kept) → z.up ≡ true → z.link.own ≡ start → kept ≤ z.taken_kept
still_there y z start kept m u le up own =
    elim (m.kind up) [
      | inl on ↦ let before : kept ≤ y.taken_kept = le on.0 (sym on.1 ∙ own) in omega (arith, on.2)
      | inr fresh ↦ absurd (both_ways (was_used start y.starts) (ap (λ n. was_used n y.starts) (sym own) ∙ fresh) u)
    ]

counts_stay : (y z : Host) → IsMoved y z → (m : Message) → Counts y m → Counts z m
counts_stay y z moved (Hello start question) c = tt
counts_stay y z moved (Welcome asker question start kept) c = (moved.starts start c.0, still_there y z start kept moved c.0 c.1)
counts_stay y z moved (Frame start number) c = tt
counts_stay y z moved (Ack start other kept) c = (moved.starts start c.0, still_there y z start kept moved c.0 c.1)
counts_stay y z moved (Old count) c = tt

knows_stays : (y z : Host) (l : Link) → IsMoved y z → Knows y l → Knows z l
knows_stays y z l moved k = (
  λ start e. moved.starts start (k.0 start e),
  λ up e.
      still_there y z z.link.own l.acknowledged moved (k.0 z.link.own e) (λ y_up own. k.1 y_up (e ∙ ap (λ n. Some n) (sym own))) up refl,
)

-- ---- A turn

own_after : (x : Host) (t : Turn) (back : List Packet) → IsOwn x → Goes x back t → IsOwn t.host
own_after x t back o g =
    record {
      own = λ up.
          elim (g.up up) [
            | inl on ↦ g.starts t.host.link.own (ap (λ n. was_used n x.starts) on.own ∙ o.own on.up)
            | inr fresh ↦ fresh.used
          ];
      book = g.book;
    }

moved_after : (x : Host) (t : Turn) (back : List Packet) → Goes x back t → IsMoved x t.host
moved_after x t back g =
    record {
      starts = g.starts;
      kind = λ up. elim (g.up up) [ inl on ↦ inl (on.up, on.own, on.stored) | inr fresh ↦ inr fresh.unused ];
    }

-- an answer that was adopted counts no less than what was known of the same start
adopts_knows : (y : Host) (x z : Link) (back : List Packet) → AllByRecursion (Said y) back → Knows y x → IsAnswered x z back → Knows y z
adopts_knows y x z back said k by =
    let s = look (Said y) back (Welcome by.asker by.question by.start by.kept) by.frame said by.said in
    let parts = or_parts (is_below x.pending by.kept) (not (is_nonce x.adopted by.start) && nat_lt by.kept x.acknowledged) by.whole in (
      λ other e. ap (λ n. was_used n y.starts) (same_some other by.start (sym e ∙ by.adopted)) ∙ s.0,
      λ up e.
          let own : by.start ≡ y.link.own = same_some by.start y.link.own (sym by.adopted ∙ e) in
          let le : by.kept ≤ y.taken_kept = s.1 up (sym own) in
          elim (and_cases (not (is_nonce x.adopted by.start)) (nat_lt by.kept x.acknowledged) parts.1) [
            | inl same ↦
                let before : x.acknowledged ≤ y.taken_kept = k.1 up (nonce_known x.adopted by.start (not-false (is_nonce x.adopted by.start) same) ∙ ap (λ n. Some n) own) in
                omega (arith, by.acknowledged)
            | inr more ↦ let known : x.acknowledged ≤ by.kept = ltb-false by.kept x.acknowledged more in omega (arith, by.acknowledged)
          ],
    )

same_knows : (y : Host) (x z : Link) → z.adopted ≡ x.adopted → z.acknowledged ≡ x.acknowledged → Knows y x → Knows y z
same_knows y x z adopted acknowledged k = (
  λ start e. k.0 start (sym adopted ∙ e),
  λ up e. let before : x.acknowledged ≤ y.taken_kept = k.1 up (sym adopted ∙ e) in omega (arith, acknowledged),
)

raises_knows : (y : Host) (x z : Link) (back : List Packet) → AllByRecursion (Said y) back → z.adopted ≡ x.adopted → Raises x z back → Knows y x → Knows y z
raises_knows y x z back said adopted by k =
    let s = look (Said y) back (Ack by.start by.other by.kept) by.frame said by.said in (
      λ start e. k.0 start (sym adopted ∙ e),
      λ up e.
          let before : x.acknowledged ≤ y.taken_kept = k.1 up (sym adopted ∙ e) in
          let own : y.link.own ≡ by.start = same_some y.link.own by.start (sym e ∙ adopted ∙ by.adopted) in
          let le : by.kept ≤ y.taken_kept = s.1 up own in
          omega (arith, by.acknowledged),
    )

knows_after : (x y : Host) (t : Turn) (back : List Packet) → HearsOf y x back → Goes x back t → t.host.up ≡ true → Knows y t.host.link
knows_after x y t back w g up =
    let z = t.host in
    elim (g.up up) [
      | inl on ↦
          let k = w.knows on.up in
          elim on.question [
            | inl same ↦
                elim same.acknowledged [
                  | inl known ↦ same_knows y x.link z.link same.adopted known k
                  | inr by ↦ raises_knows y x.link z.link back w.said same.adopted by k
                ]
            | inr more ↦
                elim more [
                  | inl next ↦ same_knows y x.link z.link next.adopted next.acknowledged k
                  | inr by ↦ adopts_knows y x.link z.link back w.said k by
                ]
          ]
      | inr fresh ↦ (
        λ start e. absurd (none_is_some start (sym fresh.adopted ∙ e)),
        λ _ e. absurd (none_is_some y.link.own (sym fresh.adopted ∙ e)),
      )
    ]

counts_new : (z : Host) (back : List Packet) → IsOwn z → z.up ≡ true → (m : Message) (frame : List ℕ) → Tells z back m frame → Counts z m
counts_new z back o up (Hello start question) frame s = tt
counts_new z back o up (Welcome asker question start kept) frame s = (ap (λ n. was_used n z.starts) s.0 ∙ o.own up, λ _ _. omega (arith, s.2))
counts_new z back o up (Frame start number) frame s = tt
counts_new z back o up (Ack start other kept) frame s = (ap (λ n. was_used n z.starts) s.0 ∙ o.own up, λ _ _. omega (arith, s.3))
counts_new z back o up (Old count) frame s = tt

-- x takes a turn: what it hears
hears_after : (x y : Host) (t : Turn) (back : List Packet) → HearsOf y x back → Goes x back t → HearsOf y t.host back
hears_after x y t back w g = record { said = w.said; knows = knows_after x y t back w g }

-- y takes a turn: what x hears of it
heard_after : (y x : Host) (t : Turn) (back there : List Packet) → IsOwn t.host → HearsOf y x back → Goes y there t → HearsOf t.host x (t.says ++ back)
heard_after y x t back there o w g =
    let moved = moved_after y t there g in
    record {
      said = each_append (Said t.host) t.says back
          (each_weaker (Says t.host there) (Said t.host) (λ p s. counts_new t.host there o s.up p.message p.frame s.tells) t.says g.says)
          (each_weaker (Said y) (Said t.host) (λ p c. counts_stay y t.host moved p.message c) back w.said);
      knows = λ up. knows_stays y t.host x.link moved (w.knows up);
    }

one_known : (p : Pair) (t : Turn) → IsKnown p → Goes p.one p.to_one t → IsKnown (record { one = t.host; two = p.two; to_one = p.to_one; to_two = t.says ++ p.to_two })
one_known p t h g =
    let own = own_after p.one t p.to_one h.one g in
    record {
      one = own;
      two = h.two;
      from_one = hears_after p.one p.two t p.to_one h.from_one g;
      from_two = heard_after p.one p.two t p.to_two p.to_one own h.from_two g;
    }

two_known : (p : Pair) (t : Turn) → IsKnown p → Goes p.two p.to_two t → IsKnown (record { one = p.one; two = t.host; to_one = t.says ++ p.to_one; to_two = p.to_two })
two_known p t h g =
    let own = own_after p.two t p.to_two h.two g in
    record {
      one = h.one;
      two = own;
      from_one = heard_after p.two p.one t p.to_one p.to_two own h.from_one g;
      from_two = hears_after p.two p.one t p.to_two h.from_two g;
    }

pub move_known : (p : Pair) → IsKnown p → (who : Who) (m : Move) → IsKnown (moves p who m)
move_known p h One (Does e) = one_known p (turn p.to_one p.one e) h (turn_goes p.one p.to_one h.one.book e)
move_known p h Two (Does e) = two_known p (turn p.to_two p.two e) h (turn_goes p.two p.to_two h.two.book e)
move_known p h One (Put_back sent taken) = one_known p (silent (puts_back p.one sent taken)) h (put_back_goes p.one p.to_one h.one.book sent taken)
move_known p h Two (Put_back sent taken) = two_known p (silent (puts_back p.two sent taken)) h (put_back_goes p.two p.to_two h.two.book sent taken)

run_known : (p : Pair) → IsKnown p → (all : List (Who × Move)) → IsKnown (run_moves p all)
run_known p h [] = h
run_known p h (m ∷ rest) = run_known (moves p m.0 m.1) (move_known p h m.0 m.1) rest

new_own : IsOwn new_host
new_own =
    record {
      own = λ up. absurd (false≢true up);
      book = record { sent = omega arith; taken = omega arith; link = λ up. absurd (false≢true up); unaccused = λ up. absurd (false≢true up) };
    }

pub known : (all : List (Who × Move)) → IsKnown (after_moves all)
known all =
    run_known new_pair
    (record {
      one = new_own;
      two = new_own;
      from_one = record { said = tt; knows = λ up. absurd (false≢true up) };
      from_two = record { said = tt; knows = λ up. absurd (false≢true up) };
    })
    all

-- ---- The law

pub known_of_running : (all : List (Who × Move)) (who : Who) → (this who (after_moves all)).up ≡ true → (other who (after_moves all)).up ≡ true → (other who (after_moves all)).link.adopted ≡ Some (this who (after_moves all)).link.own → (other who (after_moves all)).link.acknowledged ≤ (this who (after_moves all)).taken_kept
known_of_running all One up other_up e = ((known all).from_two.knows other_up).1 up e
known_of_running all Two up other_up e = ((known all).from_one.knows other_up).1 up e
