-- A host whose own book is whole, whether or not books of the other one are put back.
use Rattle.std.proofs.Common.{◌≡◌, ◌≤◌, ◌<◌, ◌-◌, inl, inr, ℕ, List, [], ◌∷◌, ◌++◌, false, length, get_or, take, drop, refl, sym, ◌∙◌, ap, arith}
use Rattle.std.specs.Prelude.{All}
use Rattle.std.specs.List.{AllByRecursion}
use Rattle.std.proofs.lemmas.Bool.{cases_Bool, true≢false, false≢true, false_from_ne_true}
use Rattle.std.proofs.lemmas.List.{take-take, take-append-drop, length_push}
use Rattle.std.proofs.lemmas.List.Elements.{recursion_from_All}
use Rattle.ra_link.specs.declared.message.Message.{Message}
use Rattle.ra_link.specs.declared.message.Message.TheVariants.{Hello, Welcome, Frame, Ack, Old}
use Rattle.ra_link.specs.Pair.{Host, Packet, Turn, Pair, Who, silent, turn, new_host, new_pair, this, other, count_in, IsPrefixOf}
use Rattle.ra_link.specs.Pair.Who.{One, Two}
use Rattle.ra_link.specs.PutBack.{Move, puts_back, moves, run_moves, after_moves, is_put_back}
use Rattle.ra_link.specs.PutBack.Move.{Goes as Does, Put_back}
use Rattle.ra_link.proofs.Flow.{FrameFits, each_weaker, each_append, shorter, frame_stays, pushed}
use Rattle.ra_link.proofs.Going.{look, IsBook, Tells, Says, Goes}
use Rattle.ra_link.proofs.GoingTurns.{turn_goes, put_back_goes}
use Rattle.ra_link.proofs.Keeping.{Keeps, turn_keeps}
use Rattle.ra_link.proofs.Ready.{cut_less}
use Rattle.ra_link.proofs.Prefixes.{cut_of, same_of}

-- ---- What one host says to the other

-- a said it: it is true of its disk, whenever it comes
pub record Told (a : Host) (p : Packet) : Type 0 where
  pub count : count_in p.message ≤ a.taken_kept
  pub frame : FrameFits a.sent a.sent_kept p.message p.frame

-- an `old` counts no more than is on the disk of a
abbrev OldFits : Host → Message → Type 0
OldFits a (Hello start question) = Unit {0}
OldFits a (Welcome asker question start kept) = Unit {0}
OldFits a (Frame start number) = Unit {0}
OldFits a (Ack start other kept) = Unit {0}
OldFits a (Old count) = count ≤ a.taken_kept

-- a hears it: it counts no more than is on its disk
pub record Heard (a : Host) (p : Packet) : Type 0 where
  pub count : count_in p.message ≤ a.sent_kept
  pub old : OldFits a p.message

-- The book of a is whole. There is all that a said to b, and back all that b said to a.
pub record OwnBook (a b : Host) (there back : List Packet) : Type 0 where
  pub book : IsBook a
  pub never : a.accused ≡ false
  pub taken : b.taken ≡ take (length b.taken) a.sent
  pub on_disk : length b.taken ≤ a.sent_kept
  pub known : a.link.acknowledged ≤ a.sent_kept
  pub told : b.link.acknowledged ≤ a.taken_kept
  pub said : AllByRecursion (Told a) there
  pub heard : AllByRecursion (Heard a) back

-- what a host knows to be acknowledged is no more than what it heard
pub known_after : (x : Host) (t : Turn) (back : List Packet) (most : ℕ) → Goes x back t → AllByRecursion (λ p. count_in p.message ≤ most) back → x.link.acknowledged ≤ most → t.host.link.acknowledged ≤ most
known_after x t back most g f le =
    elim (cases_Bool t.host.up) [
      | inl up ↦
          elim (g.up up) [
            | inl on ↦
                elim on.question [
                  | inl same ↦
                      elim same.acknowledged [
                        | inl known ↦ omega (arith, known)
                        | inr by ↦
                            let said : by.kept ≤ most = look (λ p. count_in p.message ≤ most) back (Ack by.start by.other by.kept) by.frame f by.said in
                            omega (arith, by.acknowledged)
                      ]
                  | inr more ↦
                      elim more [
                        | inl next ↦ omega (arith, next.acknowledged)
                        | inr by ↦
                            let said : by.kept ≤ most = look (λ p. count_in p.message ≤ most) back (Welcome by.asker by.question by.start by.kept) by.frame f by.said in
                            omega (arith, by.acknowledged)
                      ]
                ]
            | inr fresh ↦ omega (arith, fresh.unknown)
          ]
      | inr down ↦ omega (arith, ap (λ l. l.acknowledged) (g.down down).link)
    ]

-- ---- a takes a turn

told_new : (z : Host) (back : List Packet) (m : Message) (frame : List ℕ) → Tells z back m frame → Told z (record { message = m; frame = frame })
told_new z back (Hello start question) frame s = record { count = omega arith; frame = tt }
told_new z back (Welcome asker question start kept) frame s = record { count = omega (arith, s.2); frame = tt }
told_new z back (Frame start number) frame s = record { count = omega arith; frame = s.2 }
told_new z back (Ack start other kept) frame s = record { count = omega (arith, s.3); frame = tt }
told_new z back (Old count) frame s = record { count = omega arith; frame = tt }

old_stays : (x z : Host) → Keeps x z → (m : Message) → OldFits x m → OldFits z m
old_stays x z k (Hello start question) h = tt
old_stays x z k (Welcome asker question start kept) h = tt
old_stays x z k (Frame start number) h = tt
old_stays x z k (Ack start other kept) h = tt
old_stays x z k (Old count) h = omega (arith, h, k.taken)

-- it does not end by itself: no count that it hears is more than it has
never_ends : (x b : Host) (t : Turn) (there back : List Packet) → Goes x back t → OwnBook x b there back → t.host.accused ≡ false
never_ends x b t there back g w = false_from_ne_true t.host.accused (λ accused.
    elim (g.accused accused) [
      | inl before ↦ true≢false (sym before ∙ w.never)
      | inr why ↦
          elim why [
            | inl by ↦
                let said : count_in by.message ≤ x.sent_kept = (look (Heard x) back by.message by.frame w.heard by.said).count in
                let sent : x.link.sent ≡ x.sent_kept = (w.book.link by.up).sent_all by.ready in
                omega (arith, by.above)
            | inr more ↦
                elim more [
                  | inl by ↦
                      let said : by.count ≤ x.taken_kept = (look (Heard x) back (Old by.count) by.frame w.heard by.said).old in
                      let taken : x.link.taken ≡ length x.taken = (w.book.link by.up).taken_all in
                      omega (arith, by.less, w.book.taken)
                  | inr by ↦ omega (arith, by.less, w.known, w.book.sent)
                ]
          ]
    ])

own_out : (x b : Host) (t : Turn) (there back : List Packet) → Goes x back t → Keeps x t.host → OwnBook x b there back → OwnBook t.host b (t.says ++ there) back
own_out x b t there back g k w =
    let z = t.host in
    let counts = each_weaker (Heard x) (λ p. count_in p.message ≤ x.sent_kept) (λ p h. h.count) back w.heard in
    let known : z.link.acknowledged ≤ x.sent_kept = known_after x t back x.sent_kept g counts w.known in
    record {
      book = g.book;
      never = never_ends x b t there back g w;
      taken = w.taken ∙ sym (shorter (length b.taken) x.sent_kept z.sent x.sent w.on_disk k.front);
      on_disk = omega (arith, w.on_disk, k.sent);
      known = omega (arith, k.sent);
      told = omega (arith, w.told, k.taken);
      said = each_append (Told z) t.says there
          (each_weaker (Says z back) (Told z) (λ p s. told_new z back p.message p.frame s.tells) t.says g.says)
          (each_weaker (Told x) (Told z) (λ p h. record {
            count = omega (arith, h.count, k.taken);
            frame = frame_stays x.sent z.sent x.sent_kept z.sent_kept k.front k.sent p.message p.frame h.frame;
          }) there w.said);
      heard = each_weaker (Heard x) (Heard z) (λ p h. record { count = omega (arith, h.count, k.sent); old = old_stays x z k p.message h.old }) back w.heard;
    }

-- ---- b takes a turn, or its book is put back

taken_after : (a x : Host) (t : Turn) (there back : List Packet) → Goes x there t → OwnBook a x there back → (t.host.taken ≡ take (length t.host.taken) a.sent) × (length t.host.taken ≤ a.sent_kept)
taken_after a x t there back g w =
    let z = t.host in
    elim (cases_Bool z.up) [
      | inl up ↦
          elim (g.up up) [
            | inl on ↦
                elim on.taken [
                  | inl same ↦ (same_of z.taken x.taken a.sent same w.taken, omega (arith, ap length same, w.on_disk))
                  | inr by ↦
                      let fits = (look (Told a) there (Frame by.start by.number) by.frame w.said by.said).frame in
                      let place : by.number - 1 ≡ length x.taken = omega (arith, by.next) in
                      let below : length x.taken < length a.sent = omega (arith, by.next, fits.1, w.book.sent) in (
                        same_of z.taken (x.taken ++ by.frame ∷ []) a.sent by.taken (pushed x.taken a.sent by.frame [] w.taken below (fits.2 ∙ ap (λ i. get_or a.sent i []) place)),
                        omega (arith, ap length by.taken, length_push x.taken by.frame, by.next, fits.1),
                      )
                ]
            | inr fresh ↦ (same_of z.taken x.taken a.sent fresh.taken w.taken, omega (arith, ap length fresh.taken, w.on_disk))
          ]
      | inr down ↦
          let cut = (g.down down).taken in
          (cut_of z.taken x.taken a.sent cut w.taken, omega (arith, cut_less z.taken x.taken cut, w.on_disk))
    ]

heard_new : (a z : Host) (there : List Packet) → z.taken_kept ≤ a.sent_kept → z.link.acknowledged ≤ a.taken_kept → (m : Message) (frame : List ℕ) → Tells z there m frame → Heard a (record { message = m; frame = frame })
heard_new a z there le told (Hello start question) frame s = record { count = omega arith; old = tt }
heard_new a z there le told (Welcome asker question start kept) frame s = record { count = omega (arith, s.2); old = tt }
heard_new a z there le told (Frame start number) frame s = record { count = omega arith; old = tt }
heard_new a z there le told (Ack start other kept) frame s = record { count = omega (arith, s.3); old = tt }
heard_new a z there le told (Old count) frame s = record { count = omega arith; old = omega (arith, s.1) }

own_in : (a x : Host) (t : Turn) (there back : List Packet) → Goes x there t → OwnBook a x there back → OwnBook a t.host there (t.says ++ back)
own_in a x t there back g w =
    let z = t.host in
    let taken = taken_after a x t there back g w in
    let counts = each_weaker (Told a) (λ p. count_in p.message ≤ a.taken_kept) (λ p h. h.count) there w.said in
    let told : z.link.acknowledged ≤ a.taken_kept = known_after x t there a.taken_kept g counts w.told in
    record {
      book = w.book;
      never = w.never;
      taken = taken.0;
      on_disk = taken.1;
      known = w.known;
      told = told;
      said = w.said;
      heard = each_append (Heard a) t.says back
          (each_weaker (Says z there) (Heard a) (λ p s. heard_new a z there (omega (arith, taken.1, g.book.taken)) told p.message p.frame s.tells) t.says g.says)
          w.heard;
    }

-- ---- Events

pub one_own : (p : Pair) → IsBook p.two → OwnBook p.one p.two p.to_two p.to_one → (who : Who) (m : Move) → is_put_back One who m ≡ false → OwnBook (moves p who m).one (moves p who m).two (moves p who m).to_two (moves p who m).to_one
one_own p j w One (Does e) never_back = own_out p.one p.two (turn p.to_one p.one e) p.to_two p.to_one (turn_goes p.one p.to_one w.book e) (turn_keeps p.one p.to_one w.book e) w
one_own p j w Two (Does e) never_back = own_in p.one p.two (turn p.to_two p.two e) p.to_two p.to_one (turn_goes p.two p.to_two j e) w
one_own p j w One (Put_back sent taken) never_back = absurd (true≢false never_back)
one_own p j w Two (Put_back sent taken) never_back = own_in p.one p.two (silent (puts_back p.two sent taken)) p.to_two p.to_one (put_back_goes p.two p.to_two j sent taken) w

pub two_own : (p : Pair) → IsBook p.one → OwnBook p.two p.one p.to_one p.to_two → (who : Who) (m : Move) → is_put_back Two who m ≡ false → OwnBook (moves p who m).two (moves p who m).one (moves p who m).to_one (moves p who m).to_two
two_own p j w Two (Does e) never_back = own_out p.two p.one (turn p.to_two p.two e) p.to_one p.to_two (turn_goes p.two p.to_two w.book e) (turn_keeps p.two p.to_two w.book e) w
two_own p j w One (Does e) never_back = own_in p.two p.one (turn p.to_one p.one e) p.to_one p.to_two (turn_goes p.one p.to_one j e) w
two_own p j w Two (Put_back sent taken) never_back = absurd (true≢false never_back)
two_own p j w One (Put_back sent taken) never_back = own_in p.two p.one (silent (puts_back p.one sent taken)) p.to_one p.to_two (put_back_goes p.one p.to_one j sent taken) w

book_after : (p : Pair) (who : Who) (m : Move) → IsBook p.one → IsBook p.two → IsBook (moves p who m).one × IsBook (moves p who m).two
book_after p One (Does e) k j = ((turn_goes p.one p.to_one k e).book, j)
book_after p Two (Does e) k j = (k, (turn_goes p.two p.to_two j e).book)
book_after p One (Put_back sent taken) k j = ((put_back_goes p.one p.to_one k sent taken).book, j)
book_after p Two (Put_back sent taken) k j = (k, (put_back_goes p.two p.to_two j sent taken).book)

run_one : (p : Pair) → IsBook p.two → OwnBook p.one p.two p.to_two p.to_one → (all : List (Who × Move)) → AllByRecursion (λ m. is_put_back One m.0 m.1 ≡ false) all → OwnBook (run_moves p all).one (run_moves p all).two (run_moves p all).to_two (run_moves p all).to_one
run_one p j w [] never_back = w
run_one p j w (m ∷ rest) never_back = run_one (moves p m.0 m.1) (book_after p m.0 m.1 w.book j).1 (one_own p j w m.0 m.1 never_back.0) rest never_back.1

run_two : (p : Pair) → IsBook p.one → OwnBook p.two p.one p.to_one p.to_two → (all : List (Who × Move)) → AllByRecursion (λ m. is_put_back Two m.0 m.1 ≡ false) all → OwnBook (run_moves p all).two (run_moves p all).one (run_moves p all).to_one (run_moves p all).to_two
run_two p j w [] never_back = w
run_two p j w (m ∷ rest) never_back = run_two (moves p m.0 m.1) (book_after p m.0 m.1 j w.book).0 (two_own p j w m.0 m.1 never_back.0) rest never_back.1

new_book : IsBook new_host
new_book = record { sent = omega arith; taken = omega arith; link = λ up. absurd (false≢true up); unaccused = λ up. absurd (false≢true up) }

pub new_own : OwnBook new_host new_host [] []
new_own =
    record {
      book = new_book;
      never = refl;
      taken = refl;
      on_disk = omega arith;
      known = omega arith;
      told = omega arith;
      said = tt;
      heard = tt;
    }

-- ---- The law

own_back : (who : Who) (all : List (Who × Move)) → All (λ m. is_put_back who m.0 m.1 ≡ false) all → (there : List Packet) × (back : List Packet) × OwnBook (this who (after_moves all)) (other who (after_moves all)) there back
own_back One all never_back =
    let p = after_moves all in
    (p.to_two, p.to_one, run_one new_pair new_book new_own all (recursion_from_All (λ m. is_put_back One m.0 m.1 ≡ false) all never_back))
own_back Two all never_back =
    let p = after_moves all in
    (p.to_one, p.to_two, run_two new_pair new_book new_own all (recursion_from_All (λ m. is_put_back Two m.0 m.1 ≡ false) all never_back))

pub prefix_of : (xs ys : List (List ℕ)) (kept : ℕ) → xs ≡ take (length xs) ys → length xs ≤ kept → IsPrefixOf xs (take kept ys)
prefix_of xs ys kept e le =
    let n = length xs in
    let disk = take kept ys in
    (drop n disk, ap (λ zs. zs ++ drop n disk) (e ∙ sym (take-take n kept ys le)) ∙ take-append-drop n disk)

pub own_never : (all : List (Who × Move)) (who : Who) → All (λ m. is_put_back who m.0 m.1 ≡ false) all → (this who (after_moves all)).accused ≡ false
own_never all who never_back = (own_back who all never_back).2.never

pub own_taken : (all : List (Who × Move)) (who : Who) → All (λ m. is_put_back who m.0 m.1 ≡ false) all → IsPrefixOf (other who (after_moves all)).taken (take (this who (after_moves all)).sent_kept (this who (after_moves all)).sent)
own_taken all who never_back =
    let p = after_moves all in
    let w = (own_back who all never_back).2 in
    prefix_of (other who p).taken (this who p).sent (this who p).sent_kept w.taken w.on_disk
