-- What was taken of a host is a prefix of what it has sent, once it is ready, if books may be put back.
use Rattle.std.proofs.Common.{◌≡◌, ◌≤◌, ◌<◌, ◌-◌, inl, inr, ℕ, List, [], ◌∷◌, ◌++◌, true, false, not, ◌&&◌, cond, length, get_or, take, drop, refl, sym, ◌∙◌, ap, Option, Some, None, arith}
use Rattle.std.specs.Prelude.{nat_lt}
use Rattle.std.specs.List.{AllByRecursion, slice_get}
use Rattle.std.proofs.lemmas.Bool.{and_from, cases_Bool, lt-ltb, true≢false, false≢true}
use Rattle.std.proofs.lemmas.List.{take-take, take-append-drop, take_all}
use Rattle.ra_link.specs.declared.message.Message.{Message}
use Rattle.ra_link.specs.declared.message.Message.TheVariants.{Hello, Welcome, Frame, Ack, Old}
use Rattle.ra_link.specs.Link.{may_replay, replays}
use Rattle.ra_link.specs.Pair.{Host, Packet, Event, Turn, Pair, Who, silent, ends, linked, hears_packet, replays_book, acts, rests, turn, happens, new_host, new_pair, this, other, said_by, IsPrefixOf}
use Rattle.ra_link.specs.Pair.Event.{Comes, Replays}
use Rattle.ra_link.specs.Pair.Who.{One, Two}
use Rattle.ra_link.specs.Progress.{opposite}
use Rattle.ra_link.specs.PutBack.{Move, puts_back, moves, run_moves, after_moves}
use Rattle.ra_link.specs.PutBack.Move.{Goes as Does, Put_back}
use Rattle.ra_link.proofs.Flow.{FrameFits, each_weaker, each_append, shorter, frame_stays, take_itself, pushed}
use Rattle.ra_link.proofs.PutBack.{IsOwn, Knows, IsKnown, move_known, known}
use Rattle.ra_link.proofs.Going.{none_is_some, look, IsBook, GoesOn, Tells, Says, Goes}
use Rattle.ra_link.proofs.GoingTurns.{turn_goes, put_back_goes}
use Rattle.ra_link.proofs.Ready.{Named, named_from, named_to, named_new, OfEachStart, starts_weaker, starts_stay, starts_more, cut_less, OwnFitsIn, OwnFits, Reaches, reaches_out, reaches_in}

-- a frame of this start is the one of the list that has its number
abbrev pub OfListIn : List (List ℕ) → ℕ → Message → List ℕ → Type 0
OfListIn list start (Hello s question) frame = Unit {0}
OfListIn list start (Welcome asker question s kept) frame = Unit {0}
OfListIn list start (Frame s number) frame = s ≡ start → FrameFits list (length list) (Frame s number) frame
OfListIn list start (Ack s other kept) frame = Unit {0}
OfListIn list start (Old count) frame = Unit {0}

abbrev pub OfList : List (List ℕ) → List Packet → ℕ → Type 0
OfList list there start = AllByRecursion (λ p. OfListIn list start p.message p.frame) there

-- There is a list of frames. The book of a has a first part of it, and b has taken a first part of it. What b may still
-- take from a is on the list.
pub record Sends (a b : Host) (there : List Packet) : Type 0 where
  pub list : List (List ℕ)
  pub sent : a.sent ≡ take (length a.sent) list
  pub taken : b.taken ≡ take (length b.taken) list
  pub said : OfEachStart (OfList list there) b there

-- ---- Lists

-- the front of a front
pub cut_of : (xs ys zs : List (List ℕ)) → xs ≡ take (length xs) ys → ys ≡ take (length ys) zs → xs ≡ take (length xs) zs
cut_of xs ys zs e f = e ∙ shorter (length xs) (length ys) ys zs (cut_less xs ys e) (take_itself ys ∙ f)

pub same_of : (xs ys zs : List (List ℕ)) → xs ≡ ys → ys ≡ take (length ys) zs → xs ≡ take (length xs) zs
same_of xs ys zs e f = e ∙ f ∙ ap (λ k. take (length k) zs) (sym e)

-- a shorter front of the same list is the front
pub front_in : (xs ys zs : List (List ℕ)) → xs ≡ take (length xs) zs → ys ≡ take (length ys) zs → length xs ≤ length ys → xs ≡ take (length xs) ys
front_in xs ys zs e f le = e ∙ shorter (length xs) (length ys) zs ys le (sym f ∙ sym (take_itself ys))

-- ---- The sender takes a turn

own_list : (z : Host) → IsBook z → z.up ≡ true → (start : ℕ) → start ≡ z.link.own → (m : Message) (frame : List ℕ) → OwnFitsIn z m frame → OfListIn z.sent start m frame
own_list z k up start own (Hello s question) frame h = tt
own_list z k up start own (Welcome asker question s kept) frame h = tt
own_list z k up start own (Frame s number) frame h = λ same.
    frame_stays z.sent z.sent z.sent_kept (length z.sent) refl k.sent (Frame s number) frame (h up (same ∙ own)).1
own_list z k up start own (Ack s other kept) frame h = tt
own_list z k up start own (Old count) frame h = tt

-- a start that is not ready has said no frames
none_of_own : (z : Host) → z.up ≡ true → z.link.ready ≡ false → (list : List (List ℕ)) (m : Message) (frame : List ℕ) → OwnFitsIn z m frame → OfListIn list z.link.own m frame
none_of_own z up f list (Hello s question) frame h = tt
none_of_own z up f list (Welcome asker question s kept) frame h = tt
none_of_own z up f list (Frame s number) frame h = λ same. absurd (true≢false (sym (h up same).0 ∙ f))
none_of_own z up f list (Ack s other kept) frame h = tt
none_of_own z up f list (Old count) frame h = tt

none_said : (z : Host) (back : List Packet) → z.link.ready ≡ false → (list : List (List ℕ)) (start : ℕ) (m : Message) (frame : List ℕ) → Tells z back m frame → OfListIn list start m frame
none_said z back f list start (Hello s question) frame h = tt
none_said z back f list start (Welcome asker question s kept) frame h = tt
none_said z back f list start (Frame s number) frame h = λ _. absurd (true≢false (sym h.1 ∙ f))
none_said z back f list start (Ack s other kept) frame h = tt
none_said z back f list start (Old count) frame h = tt

-- it is not ready after it: the list stays
sends_same : (z b : Host) (says there back : List Packet) (list : List (List ℕ)) → (z.up ≡ true → z.link.ready ≡ false) → z.sent ≡ take (length z.sent) list → b.taken ≡ take (length b.taken) list → AllByRecursion (Says z back) says → AllByRecursion (OwnFits z) (says ++ there) → OfEachStart (OfList list there) b there → Sends z b (says ++ there)
sends_same z b says there back list quiet sent taken s own said =
    let all = says ++ there in
    record {
      list = list;
      sent = sent;
      taken = taken;
      said =
          starts_more (OfList list all) b z back there says
          (λ up. each_weaker (OwnFits z) (λ p. OfListIn list z.link.own p.message p.frame) (λ p h. none_of_own z up (quiet up) list p.message p.frame h) all own)
          s
          (starts_weaker (OfList list there) (OfList list all) (λ start h.
          each_append (λ p. OfListIn list start p.message p.frame) says there
          (each_weaker (Says z back) (λ p. OfListIn list start p.message p.frame) (λ p h. none_said z back (quiet h.up) list start p.message p.frame h.tells) says s)
          h) b there said);
    }

-- at most this many were taken
taken_before : (x b z : Host) (there back : List Packet) → IsBook x → Reaches x b there back → GoesOn x z back → z.link.ready ≡ true → length b.taken ≤ length x.sent
taken_before x b z there back k r on c =
    elim (on.readied c) [
      | inl was ↦ let before = r.ready on.up was in omega (arith, before.1, k.sent)
      | inr by ↦ let before = r.confirmed on.up by.confirmed by.before in omega (arith, before.1, by.all)
    ]

-- it is ready after it: what it sent is the list
sends_ready : (x b : Host) (t : Turn) (there back : List Packet) → IsBook x → Goes x back t → Reaches x b there back → Reaches t.host b (t.says ++ there) back → GoesOn x t.host back → t.host.up ≡ true → t.host.link.ready ≡ true → Sends x b there → Sends t.host b (t.says ++ there)
sends_ready x b t there back k g r after on up c s =
    let z = t.host in
    let all = t.says ++ there in
    let n = length b.taken in
    let le : n ≤ length x.sent = taken_before x b z there back k r on c in
    record {
      list = z.sent;
      sent = sym (take_itself z.sent);
      taken = front_in b.taken x.sent s.list s.taken s.sent le ∙ shorter n (length x.sent) x.sent z.sent le (take_itself x.sent ∙ sym on.front);
      said =
          starts_weaker (λ start. start ≡ z.link.own) (OfList z.sent all) (λ start own.
          each_weaker (OwnFits z) (λ p. OfListIn z.sent start p.message p.frame) (λ p h. own_list z g.book up start own p.message p.frame h) all after.frames)
          b all (after.ready up c).0;
    }

pub sends_out : (x b : Host) (t : Turn) (there back : List Packet) → IsBook x → Goes x back t → Reaches x b there back → Reaches t.host b (t.says ++ there) back → Sends x b there → Sends t.host b (t.says ++ there)
sends_out x b t there back k g r after s =
    let z = t.host in
    elim (cases_Bool z.up) [
      | inl up ↦
          elim (g.up up) [
            | inl on ↦
                elim (cases_Bool z.link.ready) [
                  | inl c ↦ sends_ready x b t there back k g r after on up c s
                  | inr f ↦ sends_same z b t.says there back s.list (λ _. f) (same_of z.sent x.sent s.list (on.unready f) s.sent) s.taken g.says after.frames s.said
                ]
            | inr fresh ↦ sends_same z b t.says there back s.list (λ _. fresh.ready) (same_of z.sent x.sent s.list fresh.sent s.sent) s.taken g.says after.frames s.said
          ]
      | inr down ↦
          sends_same z b t.says there back s.list (λ up. absurd (true≢false (sym up ∙ down))) (cut_of z.sent x.sent s.list (g.down down).sent s.sent) s.taken g.says after.frames s.said
    ]

-- ---- The receiver takes a turn

taken_on : (a x : Host) (t : Turn) (there : List Packet) → Goes x there t → (s : Sends a x there) → t.host.taken ≡ take (length t.host.taken) s.list
taken_on a x t there g s =
    let z = t.host in
    elim (cases_Bool z.up) [
      | inl up ↦
          elim (g.up up) [
            | inl on ↦
                elim on.taken [
                  | inl same ↦ same_of z.taken x.taken s.list same s.taken
                  | inr by ↦
                      let fits = look (λ p. OfListIn s.list by.start p.message p.frame) there (Frame by.start by.number) by.frame (s.said.adopted on.up by.start by.adopted) by.said refl in
                      let place : by.number - 1 ≡ length x.taken = omega (arith, by.next) in
                      let below : length x.taken < length s.list = omega (arith, by.next, fits.1) in
                      same_of z.taken (x.taken ++ by.frame ∷ []) s.list by.taken
                      (pushed x.taken s.list by.frame [] s.taken below (fits.2 ∙ ap (λ i. get_or s.list i []) place))
                ]
            | inr fresh ↦ same_of z.taken x.taken s.list fresh.taken s.taken
          ]
      | inr down ↦ cut_of z.taken x.taken s.list (g.down down).taken s.taken
    ]

pub sends_in : (a x : Host) (t : Turn) (there : List Packet) → AllByRecursion (Named a x) there → Goes x there t → Sends a x there → Sends a t.host there
sends_in a x t there n g s =
    record {
      list = s.list;
      sent = s.sent;
      taken = taken_on a x t there g s;
      said = starts_stay (OfList s.list there) a x t there g n s.said;
    }

-- ---- Runs

pub record Way (a b : Host) (there back : List Packet) : Type 0 where
  pub named : AllByRecursion (Named a b) there
  pub reaches : Reaches a b there back
  pub sends : Sends a b there

-- a host that has adopted no start knows of nothing
pub record IsFit (h : Host) : Type 0 where
  pub book : IsBook h
  pub unknown : h.up ≡ true → h.link.adopted ≡ None → h.link.acknowledged ≡ 0

pub record IsKept (p : Pair) : Type 0 where
  pub one : IsFit p.one
  pub two : IsFit p.two
  pub there : Way p.one p.two p.to_two p.to_one
  pub back : Way p.two p.one p.to_one p.to_two

fit_after : (x : Host) (t : Turn) (back : List Packet) → IsFit x → Goes x back t → IsFit t.host
fit_after x t back f g =
    let z = t.host in
    record {
      book = g.book;
      unknown = λ up none.
          elim (g.up up) [
            | inl on ↦
                on.unknown none
                ∙ elim on.question [
                  | inl same ↦ f.unknown on.up (sym same.adopted ∙ none)
                  | inr more ↦
                      elim more [
                        | inl next ↦ f.unknown on.up (sym next.adopted ∙ none)
                        | inr answered ↦ absurd (none_is_some answered.start (sym none ∙ answered.adopted))
                      ]
                ]
            | inr fresh ↦ fresh.unknown
          ];
    }

way_out : (x y : Host) (t : Turn) (there back : List Packet) → IsBook x → IsOwn t.host → (t.host.up ≡ true → Knows y t.host.link) → (y.up ≡ true → Knows x y.link) → Goes x back t → Way x y there back → Way y x back there → Way t.host y (t.says ++ there) back
way_out x y t there back k own z_knows y_knows g w v =
    let z = t.host in
    let named_back : AllByRecursion (Named y z) back = each_weaker (Named y x) (Named y z) (λ p n. named_to x y t back g p.message n) back v.named in
    let after : Reaches z y (t.says ++ there) back = reaches_out x y t there back k y_knows w.named v.named g w.reaches in
    record {
      named = each_append (Named z y) t.says there
          (each_weaker (Says z back) (Named z y) (λ p h. named_new z y back own z_knows named_back p.message p.frame h.up h.tells) t.says g.says)
          (each_weaker (Named x y) (Named z y) (λ p n. named_from x y t back g p.message n) there w.named);
      reaches = after;
      sends = sends_out x y t there back k g w.reaches after w.sends;
    }

way_in : (x y : Host) (t : Turn) (there back : List Packet) → Goes x back t → Way y x back there → Way y t.host back (t.says ++ there)
way_in x y t there back g v =
    record {
      named = each_weaker (Named y x) (Named y t.host) (λ p n. named_to x y t back g p.message n) back v.named;
      reaches = reaches_in y x t back there v.named g v.reaches;
      sends = sends_in y x t back v.named g v.sends;
    }

one_goes : (p : Pair) (t : Turn) → IsKnown p → IsKnown (record { one = t.host; two = p.two; to_one = p.to_one; to_two = t.says ++ p.to_two }) → IsKept p → Goes p.one p.to_one t → IsKept (record { one = t.host; two = p.two; to_one = p.to_one; to_two = t.says ++ p.to_two })
one_goes p t k l h g =
    record {
      one = fit_after p.one t p.to_one h.one g;
      two = h.two;
      there = way_out p.one p.two t p.to_two p.to_one h.one.book l.one l.from_one.knows k.from_two.knows g h.there h.back;
      back = way_in p.one p.two t p.to_two p.to_one g h.back;
    }

two_goes : (p : Pair) (t : Turn) → IsKnown p → IsKnown (record { one = p.one; two = t.host; to_one = t.says ++ p.to_one; to_two = p.to_two }) → IsKept p → Goes p.two p.to_two t → IsKept (record { one = p.one; two = t.host; to_one = t.says ++ p.to_one; to_two = p.to_two })
two_goes p t k l h g =
    record {
      one = h.one;
      two = fit_after p.two t p.to_two h.two g;
      there = way_in p.two p.one t p.to_one p.to_two g h.there;
      back = way_out p.two p.one t p.to_one p.to_two h.two.book l.two l.from_two.knows k.from_one.knows g h.back h.there;
    }

pub move_kept : (p : Pair) → IsKnown p → IsKept p → (who : Who) (m : Move) → IsKept (moves p who m)
move_kept p k h One (Does e) = one_goes p (turn p.to_one p.one e) k (move_known p k One (Does e)) h (turn_goes p.one p.to_one h.one.book e)
move_kept p k h Two (Does e) = two_goes p (turn p.to_two p.two e) k (move_known p k Two (Does e)) h (turn_goes p.two p.to_two h.two.book e)
move_kept p k h One (Put_back sent taken) =
    one_goes p (silent (puts_back p.one sent taken)) k (move_known p k One (Put_back sent taken)) h (put_back_goes p.one p.to_one h.one.book sent taken)
move_kept p k h Two (Put_back sent taken) =
    two_goes p (silent (puts_back p.two sent taken)) k (move_known p k Two (Put_back sent taken)) h (put_back_goes p.two p.to_two h.two.book sent taken)

run_kept : (p : Pair) → IsKnown p → IsKept p → (all : List (Who × Move)) → IsKept (run_moves p all)
run_kept p k h [] = h
run_kept p k h (m ∷ rest) = run_kept (moves p m.0 m.1) (move_known p k m.0 m.1) (move_kept p k h m.0 m.1) rest

new_fit : IsFit new_host
new_fit = record { book = record { sent = omega arith; taken = omega arith; link = λ up. absurd (false≢true up); unaccused = λ up. absurd (false≢true up) }; unknown = λ up. absurd (false≢true up) }

new_way : Way new_host new_host [] []
new_way =
    record {
      named = tt;
      reaches = record {
        adopted = λ up. absurd (false≢true up);
        acks = tt;
        confirmed = λ up. absurd (false≢true up);
        ready = λ up. absurd (false≢true up);
        frames = tt;
      };
      sends = record { list = []; sent = refl; taken = refl; said = record { adopted = λ up. absurd (false≢true up); offered = tt } };
    }

pub kept : (all : List (Who × Move)) → IsKept (after_moves all)
kept all = run_kept new_pair (known []) (record { one = new_fit; two = new_fit; there = new_way; back = new_way }) all

-- ---- The law

-- to the other host
way_from : (who : Who) (p : Pair) → IsKept p → Way (this who p) (other who p) (said_by who p) (said_by (opposite who) p)
way_from One p h = h.there
way_from Two p h = h.back

fit_this : (who : Who) (p : Pair) → IsKept p → IsFit (this who p)
fit_this One p h = h.one
fit_this Two p h = h.two

fit_other : (who : Who) (p : Pair) → IsKept p → IsFit (other who p)
fit_other One p h = h.two
fit_other Two p h = h.one

knows_other : (who : Who) (p : Pair) → IsKnown p → (other who p).up ≡ true → Knows (this who p) (other who p).link
knows_other One p h up = h.from_two.knows up
knows_other Two p h up = h.from_one.knows up

pub front_taken : (a b : Host) (there back : List Packet) → IsBook a → Way a b there back → a.up ≡ true → a.link.ready ≡ true → b.taken ≡ take (length b.taken) (take a.sent_kept a.sent)
front_taken a b there back k w up c =
    let le : length b.taken ≤ a.sent_kept = (w.reaches.ready up c).1 in
    front_in b.taken a.sent w.sends.list w.sends.taken w.sends.sent (omega (arith, le, k.sent)) ∙ sym (take-take (length b.taken) a.sent_kept a.sent le)

pub taken_is_there : (all : List (Who × Move)) (who : Who) → (this who (after_moves all)).up ≡ true → (this who (after_moves all)).link.ready ≡ true → IsPrefixOf (other who (after_moves all)).taken (take (this who (after_moves all)).sent_kept (this who (after_moves all)).sent)
taken_is_there all who up c =
    let p = after_moves all in
    let a = this who p in
    let b = other who p in
    let disk = take a.sent_kept a.sent in
    let e = front_taken a b (said_by who p) (said_by (opposite who) p) (fit_this who p (kept all)).book (way_from who p (kept all)) up c in
    (drop (length b.taken) disk, ap (λ xs. xs ++ drop (length b.taken) disk) e ∙ take-append-drop (length b.taken) disk)

pub known_is_there : (a b : Host) (there back : List Packet) → IsFit b → Way a b there back → (b.up ≡ true → Knows a b.link) → a.up ≡ true → a.link.ready ≡ true → b.up ≡ true → (o : Option ℕ) → b.link.adopted ≡ o → b.link.acknowledged ≤ a.taken_kept
known_is_there a b there back f w k up c b_up None e = let z : b.link.acknowledged ≡ 0 = f.unknown b_up e in omega arith
known_is_there a b there back f w k up c b_up (Some start) e =
    let own : start ≡ a.link.own = (w.reaches.ready up c).0.adopted b_up start e in
    (k b_up).1 up (e ∙ ap (λ i. Some i) own)

pub acknowledged_is_there : (all : List (Who × Move)) (who : Who) → (this who (after_moves all)).up ≡ true → (this who (after_moves all)).link.ready ≡ true → (other who (after_moves all)).up ≡ true → (other who (after_moves all)).link.acknowledged ≤ (this who (after_moves all)).taken_kept
acknowledged_is_there all who up c other_up =
    let p = after_moves all in
    known_is_there (this who p) (other who p) (said_by who p) (said_by (opposite who) p) (fit_other who p (kept all)) (way_from who p (kept all)) (knows_other who p (known all)) up c other_up (other who p).link.adopted refl

pub all_is_there : (a b : Host) (there back : List Packet) → IsBook a → IsOwn b → Way a b there back → a.link.acknowledged ≤ b.taken_kept → a.up ≡ true → a.link.ready ≡ true → a.link.acknowledged ≡ a.link.made → (b.taken ≡ a.sent) × (b.taken_kept ≡ length b.taken) × (a.sent_kept ≡ length a.sent)
all_is_there a b there back k o w known up c all =
    let m : a.link.made ≡ length a.sent = (k.link up).made_all c in
    let le : length b.taken ≤ a.sent_kept = (w.reaches.ready up c).1 in
    let e : length a.sent ≤ length b.taken = omega (arith, o.book.taken) in
    let front = front_in b.taken a.sent w.sends.list w.sends.taken w.sends.sent (omega (arith, k.sent)) in
    (front ∙ take_all (length b.taken) a.sent e, omega (arith, o.book.taken, k.sent), omega (arith, o.book.taken, k.sent))

own_other : (who : Who) (p : Pair) → IsKnown p → IsOwn (other who p)
own_other One p h = h.two
own_other Two p h = h.one

-- the law at the other host
other_acknowledged : (all : List (Who × Move)) (who : Who) → (other who (after_moves all)).up ≡ true → (other who (after_moves all)).link.ready ≡ true → (this who (after_moves all)).up ≡ true → (this who (after_moves all)).link.acknowledged ≤ (other who (after_moves all)).taken_kept
other_acknowledged all One = acknowledged_is_there all Two
other_acknowledged all Two = acknowledged_is_there all One

pub nothing_is_missing : (all : List (Who × Move)) (who : Who) → (this who (after_moves all)).up ≡ true → (this who (after_moves all)).link.ready ≡ true → (other who (after_moves all)).up ≡ true → (other who (after_moves all)).link.ready ≡ true → (this who (after_moves all)).link.acknowledged ≡ (this who (after_moves all)).link.made → ((other who (after_moves all)).taken ≡ (this who (after_moves all)).sent) × ((other who (after_moves all)).taken_kept ≡ length (other who (after_moves all)).taken) × ((this who (after_moves all)).sent_kept ≡ length (this who (after_moves all)).sent)
nothing_is_missing all who up c other_up d e =
    let p = after_moves all in
    all_is_there (this who p) (other who p) (said_by who p) (said_by (opposite who) p) (fit_this who p (kept all)).book (own_other who p (known all)) (way_from who p (kept all)) (other_acknowledged all who other_up d up) up c e

-- a host that has not become ready ends at the replay
ends_at_replay : (a : Host) → a.link.confirmed ≡ true → a.link.ready ≡ false → length a.sent < a.link.acknowledged → replays_book a ≡ ends a
ends_at_replay a c f less =
    let l = a.link in
    let lacks = nat_lt (length a.sent) l.acknowledged in
    let both : (may_replay l && lacks) ≡ true =
    and_from (may_replay l) lacks (ap (λ r. not r && l.confirmed) f ∙ c) (lt-ltb (length a.sent) l.acknowledged less) in
    ap (λ t. cond t (ends a) (cond (may_replay l) (silent (linked a (replays l (length a.sent)))) (silent a))) both

acts_at : (back : List Packet) (a : Host) (e : Event) → a.up ≡ true → turn back a e ≡ acts back a e
acts_at back a e up = ap (λ t. cond t (acts back a e) (rests a e)) up

replays_of : (a : Host) (back : List Packet) → a.up ≡ true → a.link.confirmed ≡ true → a.link.ready ≡ false → length a.sent < a.link.acknowledged → ((turn back a Replays).host.up ≡ false) × ((turn back a Replays).host.accused ≡ true)
replays_of a back up c f less =
    let e : turn back a Replays ≡ ends a = acts_at back a Replays up ∙ ends_at_replay a c f less in
    (ap (λ t. t.host.up) e, ap (λ t. t.host.accused) e)

pub found_out : (all : List (Who × Move)) (who : Who) → (this who (after_moves all)).up ≡ true → (this who (after_moves all)).link.confirmed ≡ true → (this who (after_moves all)).link.ready ≡ false → length (this who (after_moves all)).sent < length (other who (after_moves all)).taken → ((this who (happens (after_moves all) who Replays)).up ≡ false) × ((this who (happens (after_moves all) who Replays)).accused ≡ true)
found_out all One up c f less =
    let p = after_moves all in
    let le : length p.two.taken ≤ p.one.link.acknowledged = ((kept all).there.reaches.confirmed up c f).1 in
    replays_of p.one p.to_one up c f (omega arith)
found_out all Two up c f less =
    let p = after_moves all in
    let le : length p.one.taken ≤ p.two.link.acknowledged = ((kept all).back.reaches.confirmed up c f).1 in
    replays_of p.two p.to_two up c f (omega arith)

passes : (h : Host) (back : List Packet) (which count : ℕ) (frame : List ℕ) → h.up ≡ true → h.link.ready ≡ true → slice_get back which ≡ Some (record { message = Old count; frame = frame }) → turn back h (Comes which) ≡ silent h
passes h back which count frame up ready said =
    acts_at back h (Comes which) up
    ∙ ap (λ p. hears_packet h p) said
    ∙ ap (λ t. cond (not t && nat_lt h.link.taken count) (ends h) (silent h)) ready

pub passes_old : (p : Pair) (who : Who) (which count : ℕ) (frame : List ℕ) → (this who p).up ≡ true → (this who p).link.ready ≡ true → slice_get (said_by (opposite who) p) which ≡ Some (record { message = Old count; frame = frame }) → happens p who (Comes which) ≡ p
passes_old p One which count frame up ready said =
    ap (λ t. record { one = t.host; two = p.two; to_one = p.to_one; to_two = t.says ++ p.to_two }) (passes p.one p.to_one which count frame up ready said)
passes_old p Two which count frame up ready said =
    ap (λ t. record { one = p.one; two = t.host; to_one = t.says ++ p.to_one; to_two = p.to_two }) (passes p.two p.to_two which count frame up ready said)
