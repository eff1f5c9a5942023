-- A host that was ready once lacks nothing from then on, as long as no book is put back.
use Rattle.std.proofs.Common.{◌≡◌, ◌≤◌, ◌<◌, ◌-◌, inl, inr, ℕ, List, [], ◌∷◌, ◌++◌, true, length, get_or, take, refl, sym, ◌∙◌, ap, arith}
use Rattle.std.specs.List.{AllByRecursion}
use Rattle.std.proofs.lemmas.Bool.{cases_Bool}
use Rattle.std.proofs.lemmas.List.{length_push, length-take}
use Rattle.ra_link.specs.declared.message.Message.{Message}
use Rattle.ra_link.specs.declared.message.Message.TheVariants.{Hello, Welcome, Frame, Ack, Old}
use Rattle.ra_link.specs.Link.{is_open}
use Rattle.ra_link.specs.Pair.{Host, Packet, Event, Turn, Pair, Who, turn, happens, run, this, other, said_by, IsPrefixOf}
use Rattle.ra_link.specs.Pair.Who.{One, Two}
use Rattle.ra_link.specs.PutBack.{Move, after_moves}
use Rattle.ra_link.proofs.Flow.{FrameFits, front_of_front, each_weaker, each_append, shorter, frame_stays, pushed}
use Rattle.ra_link.proofs.PutBack.{Counts, Said, Knows, known}
use Rattle.ra_link.proofs.Keeping.{Keeps, turn_keeps}
use Rattle.ra_link.proofs.Going.{IsIn, look, IsBook, Says, Tells, Goes}
use Rattle.ra_link.proofs.GoingTurns.{turn_goes}
use Rattle.ra_link.proofs.Ready.{Named, Offer, OfEachStart, starts_weaker, starts_stay, starts_more, each_both, cut_less, OwnFitsIn, OwnFits}
use Rattle.ra_link.proofs.Prefixes.{Way, IsFit, cut_of, same_of, front_in, kept, known_is_there}
use Rattle.ra_link.proofs.Own.{prefix_of}
use Rattle.ra_link.proofs.Rounds.{IsSure, event_sure}

-- ---- What b may believe of a is on the disk of a

-- a message of this start is true of the disk of a
abbrev OnDiskIn : Host → ℕ → Message → List ℕ → Type 0
OnDiskIn a start (Hello s question) frame = Unit {0}
OnDiskIn a start (Welcome asker question s kept) frame = s ≡ start → kept ≤ a.taken_kept
OnDiskIn a start (Frame s number) frame = s ≡ start → FrameFits a.sent a.sent_kept (Frame s number) frame
OnDiskIn a start (Ack s other kept) frame = s ≡ start → kept ≤ a.taken_kept
OnDiskIn a start (Old count) frame = Unit {0}

abbrev OnDisk : Host → List Packet → ℕ → Type 0
OnDisk a there start = AllByRecursion (λ p. OnDiskIn a start p.message p.frame) there

record HasAll (a b : Host) (there : List Packet) : Type 0 where
  taken : b.taken ≡ take (length b.taken) a.sent
  on_disk : length b.taken ≤ a.sent_kept
  said : OfEachStart (OnDisk a there) b there
  known : b.up ≡ true → b.link.acknowledged ≤ a.taken_kept

-- what the running start said is true
own_message : (a : Host) → a.up ≡ true → (start : ℕ) → start ≡ a.link.own → (m : Message) (frame : List ℕ) → OwnFitsIn a m frame → Counts a m → OnDiskIn a start m frame
own_message a up start own (Hello s question) frame f c = tt
own_message a up start own (Welcome asker question s kept) frame f c = λ same. c.1 up (sym own ∙ sym same)
own_message a up start own (Frame s number) frame f c = λ same. (f up (same ∙ own)).1
own_message a up start own (Ack s other kept) frame f c = λ same. c.1 up (sym own ∙ sym same)
own_message a up start own (Old count) frame f c = tt

own_on_disk : (a : Host) → a.up ≡ true → (start : ℕ) → start ≡ a.link.own → (p : Packet) → OwnFits a p → Counts a p.message → OnDiskIn a start p.message p.frame
own_on_disk a up start own p f c = own_message a up start own p.message p.frame f c

own_all : (a : Host) (there : List Packet) → a.up ≡ true → AllByRecursion (OwnFits a) there → AllByRecursion (Said a) there → (start : ℕ) → start ≡ a.link.own → OnDisk a there start
own_all a there up f c start own = each_both (OwnFits a) (Said a) (λ p. OnDiskIn a start p.message p.frame) (λ p f c. own_on_disk a up start own p f c) there f c

disk_stays : (x z : Host) → Keeps x z → (start : ℕ) (m : Message) (frame : List ℕ) → OnDiskIn x start m frame → OnDiskIn z start m frame
disk_stays x z k start (Hello s question) frame h = tt
disk_stays x z k start (Welcome asker question s kept) frame h = λ same. let le : kept ≤ x.taken_kept = h same in omega (arith, k.taken)
disk_stays x z k start (Frame s number) frame h = λ same. frame_stays x.sent z.sent x.sent_kept z.sent_kept k.front k.sent (Frame s number) frame (h same)
disk_stays x z k start (Ack s other kept) frame h = λ same. let le : kept ≤ x.taken_kept = h same in omega (arith, k.taken)
disk_stays x z k start (Old count) frame h = tt

disk_new : (z : Host) (back : List Packet) (start : ℕ) (m : Message) (frame : List ℕ) → Tells z back m frame → OnDiskIn z start m frame
disk_new z back start (Hello s question) frame h = tt
disk_new z back start (Welcome asker question s kept) frame h = λ _. omega (arith, h.2)
disk_new z back start (Frame s number) frame h = λ _. h.2
disk_new z back start (Ack s other kept) frame h = λ _. omega (arith, h.3)
disk_new z back start (Old count) frame h = tt

-- a takes a turn
all_out : (x b : Host) (t : Turn) (there back : List Packet) → Goes x back t → Keeps x t.host → AllByRecursion (OwnFits t.host) (t.says ++ there) → AllByRecursion (Said t.host) (t.says ++ there) → HasAll x b there → HasAll t.host b (t.says ++ there)
all_out x b t there back g k own said h =
    let z = t.host in
    let all = t.says ++ there in
    record {
      taken = h.taken ∙ sym (shorter (length b.taken) x.sent_kept z.sent x.sent h.on_disk k.front);
      on_disk = omega (arith, h.on_disk, k.sent);
      said =
          starts_more (OnDisk z all) b z back there t.says (λ up. own_all z all up own said z.link.own refl) g.says
          (starts_weaker (OnDisk x there) (OnDisk z all) (λ start d.
          each_append (λ p. OnDiskIn z start p.message p.frame) t.says there
          (each_weaker (Says z back) (λ p. OnDiskIn z start p.message p.frame) (λ p s. disk_new z back start p.message p.frame s.tells) t.says g.says)
          (each_weaker (λ p. OnDiskIn x start p.message p.frame) (λ p. OnDiskIn z start p.message p.frame) (λ p d. disk_stays x z k start p.message p.frame d) there d))
          b there h.said);
      known = λ up. let le : b.link.acknowledged ≤ x.taken_kept = h.known up in omega (arith, k.taken);
    }

-- b takes a turn
taken_in : (a x : Host) (t : Turn) (there : List Packet) → IsBook a → Goes x there t → HasAll a x there → (t.host.taken ≡ take (length t.host.taken) a.sent) × (length t.host.taken ≤ a.sent_kept)
taken_in a x t there k g h =
    let z = t.host in
    elim (cases_Bool z.up) [
      | inl up ↦
          elim (g.up up) [
            | inl on ↦
                elim on.taken [
                  | inl same ↦ (same_of z.taken x.taken a.sent same h.taken, omega (arith, ap length same, h.on_disk))
                  | inr by ↦
                      let fits = look (λ p. OnDiskIn a by.start p.message p.frame) there (Frame by.start by.number) by.frame (h.said.adopted on.up by.start by.adopted) by.said refl in
                      let place : by.number - 1 ≡ length x.taken = omega (arith, by.next) in
                      let below : length x.taken < length a.sent = omega (arith, by.next, fits.1, k.sent) in (
                        same_of z.taken (x.taken ++ by.frame ∷ []) a.sent by.taken (pushed x.taken a.sent by.frame [] h.taken below (fits.2 ∙ ap (λ i. get_or a.sent i []) place)),
                        omega (arith, ap length by.taken, length_push x.taken by.frame, by.next, fits.1),
                      )
                ]
            | inr fresh ↦ (same_of z.taken x.taken a.sent fresh.taken h.taken, omega (arith, ap length fresh.taken, h.on_disk))
          ]
      | inr down ↦
          let cut = (g.down down).taken in
          (cut_of z.taken x.taken a.sent cut h.taken, omega (arith, cut_less z.taken x.taken cut, h.on_disk))
    ]

offered_at : (a x : Host) (there : List Packet) → HasAll a x there → (asker question start kept : ℕ) (frame : List ℕ) → IsIn there (Welcome asker question start kept) frame → x.up ≡ true → asker ≡ x.link.own → question ≡ x.link.asked → is_open x.link.pending ≡ true → OnDisk a there start
offered_at a x there h asker question start kept frame said up own number opened =
    look (Offer (OnDisk a there) x) there (Welcome asker question start kept) frame h.said.offered said up own number opened

known_in : (a x : Host) (t : Turn) (there : List Packet) → Goes x there t → HasAll a x there → t.host.up ≡ true → t.host.link.acknowledged ≤ a.taken_kept
known_in a x t there g h up =
    elim (g.up up) [
      | inl on ↦
          let before : x.link.acknowledged ≤ a.taken_kept = h.known on.up in
          elim on.question [
            | inl same ↦
                elim same.acknowledged [
                  | inl known ↦ omega (arith, known)
                  | inr by ↦
                      let le : by.kept ≤ a.taken_kept = look (λ p. OnDiskIn a by.start p.message p.frame) there (Ack by.start by.other by.kept) by.frame (h.said.adopted on.up by.start by.adopted) by.said refl in
                      omega (arith, by.acknowledged)
                ]
            | inr more ↦
                elim more [
                  | inl next ↦ omega (arith, next.acknowledged)
                  | inr by ↦
                      let start_is = offered_at a x there h by.asker by.question by.start by.kept by.frame by.said on.up by.own by.number by.open_before in
                      let le : by.kept ≤ a.taken_kept = look (λ p. OnDiskIn a by.start p.message p.frame) there (Welcome by.asker by.question by.start by.kept) by.frame start_is by.said refl in
                      omega (arith, by.acknowledged)
                ]
          ]
      | inr fresh ↦ omega (arith, fresh.unknown)
    ]

all_in : (a x : Host) (t : Turn) (there : List Packet) → IsBook a → AllByRecursion (Named a x) there → Goes x there t → HasAll a x there → HasAll a t.host there
all_in a x t there k n g h =
    let taken = taken_in a x t there k g h in
    record { taken = taken.0; on_disk = taken.1; said = starts_stay (OnDisk a there) a x t there g n h.said; known = known_in a x t there g h }

-- ---- Runs

all_first : (a b : Host) (there back : List Packet) → IsBook a → IsFit b → Way a b there back → AllByRecursion (Said a) there → (b.up ≡ true → Knows a b.link) → a.up ≡ true → a.link.ready ≡ true → HasAll a b there
all_first a b there back k f w said knows up c =
    let r = w.reaches.ready up c in
    record {
      taken = front_in b.taken a.sent w.sends.list w.sends.taken w.sends.sent (omega (arith, r.1, k.sent));
      on_disk = r.1;
      said = starts_weaker (λ start. start ≡ a.link.own) (OnDisk a there) (λ start own. own_all a there up w.reaches.frames said start own) b there r.0;
      known = λ b_up. known_is_there a b there back f w knows up c b_up b.link.adopted refl;
    }

one_lasts : (p : Pair) → IsSure p → HasAll p.one p.two p.to_two → (who : Who) (e : Event) → HasAll (happens p who e).one (happens p who e).two (happens p who e).to_two
one_lasts p s h One e =
    let t = turn p.to_one p.one e in
    let after = event_sure p s One e in
    all_out p.one p.two t p.to_two p.to_one (turn_goes p.one p.to_one s.kept.one.book e) (turn_keeps p.one p.to_one s.kept.one.book e) after.kept.there.reaches.frames after.known.from_two.said h
one_lasts p s h Two e =
    all_in p.one p.two (turn p.to_two p.two e) p.to_two s.kept.one.book s.kept.there.named (turn_goes p.two p.to_two s.kept.two.book e) h

two_lasts : (p : Pair) → IsSure p → HasAll p.two p.one p.to_one → (who : Who) (e : Event) → HasAll (happens p who e).two (happens p who e).one (happens p who e).to_one
two_lasts p s h Two e =
    let t = turn p.to_two p.two e in
    let after = event_sure p s Two e in
    all_out p.two p.one t p.to_one p.to_two (turn_goes p.two p.to_two s.kept.two.book e) (turn_keeps p.two p.to_two s.kept.two.book e) after.kept.back.reaches.frames after.known.from_one.said h
two_lasts p s h One e =
    all_in p.two p.one (turn p.to_one p.one e) p.to_one s.kept.two.book s.kept.back.named (turn_goes p.one p.to_one s.kept.one.book e) h

abbrev AllOf : Who → Pair → Type 0
AllOf who p = HasAll (this who p) (other who p) (said_by who p)

lasts : (who : Who) (p : Pair) → IsSure p → AllOf who p → (actor : Who) (e : Event) → AllOf who (happens p actor e)
lasts One p s h actor e = one_lasts p s h actor e
lasts Two p s h actor e = two_lasts p s h actor e

run_lasts : (who : Who) (p : Pair) → IsSure p → AllOf who p → (events : List (Who × Event)) → AllOf who (run p events)
run_lasts who p s h [] = h
run_lasts who p s h (e ∷ events) = run_lasts who (happens p e.0 e.1) (event_sure p s e.0 e.1) (lasts who p s h e.0 e.1) events

all_at : (who : Who) (p : Pair) → IsSure p → (this who p).up ≡ true → (this who p).link.ready ≡ true → AllOf who p
all_at One p s up c = all_first p.one p.two p.to_two p.to_one s.kept.one.book s.kept.two s.kept.there s.known.from_two.said s.known.from_two.knows up c
all_at Two p s up c = all_first p.two p.one p.to_one p.to_two s.kept.two.book s.kept.one s.kept.back s.known.from_one.said s.known.from_one.knows up c

all_after : (all : List (Who × Move)) (events : List (Who × Event)) (who : Who) → (this who (after_moves all)).up ≡ true → (this who (after_moves all)).link.ready ≡ true → AllOf who (run (after_moves all) events)
all_after all events who up c =
    let p = after_moves all in
    let s : IsSure p = record { known = known all; kept = kept all } in
    run_lasts who p s (all_at who p s up c) events

pub taken_lasts : (all : List (Who × Move)) (events : List (Who × Event)) (who : Who) → (this who (after_moves all)).up ≡ true → (this who (after_moves all)).link.ready ≡ true → IsPrefixOf (other who (run (after_moves all) events)).taken (take (this who (run (after_moves all) events)).sent_kept (this who (run (after_moves all) events)).sent)
taken_lasts all events who up c =
    let q = run (after_moves all) events in
    let h = all_after all events who up c in
    prefix_of (other who q).taken (this who q).sent (this who q).sent_kept h.taken h.on_disk

pub kept_lasts : (all : List (Who × Move)) (events : List (Who × Event)) (who : Who) → (this who (after_moves all)).up ≡ true → (this who (after_moves all)).link.ready ≡ true → IsPrefixOf (take (other who (run (after_moves all) events)).taken_kept (other who (run (after_moves all) events)).taken) (take (this who (run (after_moves all) events)).sent_kept (this who (run (after_moves all) events)).sent)
kept_lasts all events who up c =
    let q = run (after_moves all) events in
    let h = all_after all events who up c in
    let n = (other who q).taken_kept in
    prefix_of (take n (other who q).taken) (this who q).sent (this who q).sent_kept
    (front_of_front n (other who q).taken (this who q).sent h.taken)
    (omega (arith, length-take n (other who q).taken, h.on_disk))

pub acknowledged_lasts : (all : List (Who × Move)) (events : List (Who × Event)) (who : Who) → (this who (after_moves all)).up ≡ true → (this who (after_moves all)).link.ready ≡ true → (other who (run (after_moves all) events)).up ≡ true → (other who (run (after_moves all) events)).link.acknowledged ≤ (this who (run (after_moves all) events)).taken_kept
acknowledged_lasts all events who up c = (all_after all events who up c).known
