-- Two hosts whose books are whole: what holds after all events, if no book is put back.
use Rattle.std.proofs.Common.{◌≡◌, ◌≤◌, List, [], ◌∷◌, true, false, length, take, refl, ◌∙◌, arith}
use Rattle.std.specs.Prelude.{All}
use Rattle.std.specs.List.{AllByRecursion}
use Rattle.std.proofs.lemmas.List.{take_all, length-take}
use Rattle.std.proofs.lemmas.List.Elements.{All-from_recursion}
use Rattle.ra_link.specs.Pair.{Host, Packet, Event, Pair, Who, turn, happens, run, new_pair, after, this, other, said_by, count_in, IsPrefixOf}
use Rattle.ra_link.specs.Pair.Who.{One, Two}
use Rattle.ra_link.specs.Progress.{opposite}
use Rattle.ra_link.specs.PutBack.Move.{Goes as Does}
use Rattle.ra_link.proofs.Flow.{front_of_front, each_weaker}
use Rattle.ra_link.proofs.GoingTurns.{turn_goes}
use Rattle.ra_link.proofs.Keeping.{turn_keeps}
use Rattle.ra_link.proofs.Own.{OwnBook, Told, known_after, new_own, one_own, two_own, prefix_of}

-- the books of both are whole, and what is known to be acknowledged is on the other's disk
pub record IsWhole (p : Pair) : Type 0 where
  pub one : OwnBook p.one p.two p.to_two p.to_one
  pub two : OwnBook p.two p.one p.to_one p.to_two
  pub known_one : p.one.link.acknowledged ≤ p.two.taken_kept
  pub known_two : p.two.link.acknowledged ≤ p.one.taken_kept

counted : (a : Host) (there : List Packet) → AllByRecursion (Told a) there → AllByRecursion (λ p. count_in p.message ≤ a.taken_kept) there
counted a there h = each_weaker (Told a) (λ p. count_in p.message ≤ a.taken_kept) (λ p t. t.count) there h

pub stays_whole : (p : Pair) → IsWhole p → (who : Who) (e : Event) → IsWhole (happens p who e)
stays_whole p h One e =
    let k = turn_keeps p.one p.to_one h.one.book e in
    record {
      one = one_own p h.two.book h.one One (Does e) refl;
      two = two_own p h.one.book h.two One (Does e) refl;
      known_one = known_after p.one (turn p.to_one p.one e) p.to_one p.two.taken_kept (turn_goes p.one p.to_one h.one.book e) (counted p.two p.to_one h.two.said) h.known_one;
      known_two = omega (arith, h.known_two, k.taken);
    }
stays_whole p h Two e =
    let k = turn_keeps p.two p.to_two h.two.book e in
    record {
      one = one_own p h.two.book h.one Two (Does e) refl;
      two = two_own p h.one.book h.two Two (Does e) refl;
      known_one = omega (arith, h.known_one, k.taken);
      known_two = known_after p.two (turn p.to_two p.two e) p.to_two p.one.taken_kept (turn_goes p.two p.to_two h.two.book e) (counted p.one p.to_two h.one.said) h.known_two;
    }

pub run_whole : (p : Pair) → IsWhole p → (events : List (Who × Event)) → IsWhole (run p events)
run_whole p h [] = h
run_whole p h (e ∷ events) = run_whole (happens p e.0 e.1) (stays_whole p h e.0 e.1) events

pub whole : (events : List (Who × Event)) → IsWhole (after events)
whole events = run_whole new_pair (record { one = new_own; two = new_own; known_one = omega arith; known_two = omega arith }) events

-- ---- The laws

own_this : (who : Who) (p : Pair) → IsWhole p → OwnBook (this who p) (other who p) (said_by who p) (said_by (opposite who) p)
own_this One p h = h.one
own_this Two p h = h.two

own_other : (who : Who) (p : Pair) → IsWhole p → OwnBook (other who p) (this who p) (said_by (opposite who) p) (said_by who p)
own_other One p h = h.two
own_other Two p h = h.one

known_this : (who : Who) (p : Pair) → IsWhole p → (this who p).link.acknowledged ≤ (other who p).taken_kept
known_this One p h = h.known_one
known_this Two p h = h.known_two

pub taken_in_order : (events : List (Who × Event)) (who : Who) → IsPrefixOf (this who (after events)).taken (take (other who (after events)).sent_kept (other who (after events)).sent)
taken_in_order events who =
    let p = after events in
    let w = own_other who p (whole events) in
    prefix_of (this who p).taken (other who p).sent (other who p).sent_kept w.taken w.on_disk

pub kept_in_order : (events : List (Who × Event)) (who : Who) → IsPrefixOf (take (this who (after events)).taken_kept (this who (after events)).taken) (take (other who (after events)).sent_kept (other who (after events)).sent)
kept_in_order events who =
    let p = after events in
    let a = this who p in
    let b = other who p in
    let w = own_other who p (whole events) in
    prefix_of (take a.taken_kept a.taken) b.sent b.sent_kept
    (front_of_front a.taken_kept a.taken b.sent w.taken)
    (omega (arith, length-take a.taken_kept a.taken, w.on_disk))

pub known_on_disk : (events : List (Who × Event)) (who : Who) → (this who (after events)).link.acknowledged ≤ (other who (after events)).taken_kept
known_on_disk events who = known_this who (after events) (whole events)

pub counts : (events : List (Who × Event)) (who : Who) → All (λ packet. count_in packet.message ≤ (this who (after events)).taken_kept) (said_by who (after events))
counts events who =
    let p = after events in
    All-from_recursion (λ packet. count_in packet.message ≤ (this who p).taken_kept) (said_by who p)
    (counted (this who p) (said_by who p) (own_this who p (whole events)).said)

pub nothing_under_way : (events : List (Who × Event)) (who : Who) → (this who (after events)).up ≡ true → (this who (after events)).link.ready ≡ true → (this who (after events)).link.acknowledged ≡ (this who (after events)).link.made → ((other who (after events)).taken ≡ (this who (after events)).sent) × ((other who (after events)).taken_kept ≡ length (other who (after events)).taken) × ((this who (after events)).sent_kept ≡ length (this who (after events)).sent)
nothing_under_way events who up ready all =
    let p = after events in
    let a = this who p in
    let b = other who p in
    let w = own_this who p (whole events) in
    let j = (own_other who p (whole events)).book in
    let known : a.link.acknowledged ≤ b.taken_kept = known_this who p (whole events) in
    let made : a.link.made ≡ length a.sent = (w.book.link up).made_all ready in
    let few : length a.sent ≤ length b.taken = omega (arith, j.taken, all) in
    (w.taken ∙ take_all (length b.taken) a.sent few, omega (arith, w.on_disk, w.book.sent, j.taken, all), omega (arith, w.on_disk, w.book.sent, few))

pub never_accused : (events : List (Who × Event)) (who : Who) → (this who (after events)).accused ≡ false
never_accused events who = (own_this who (after events) (whole events)).never
