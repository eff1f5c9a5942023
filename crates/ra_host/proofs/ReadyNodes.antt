-- What a ready host keeps, as its links change and as events happen at its node.
use Rattle.std.proofs.Common.{◌≡◌, ◌⊎◌, inl, inr, ℕ, zero, suc, ◌+◌, ◌-◌, ◌≤◌, ◌==◌, Bool, true, false, cond, Some, List, [], ◌∷◌, ◌++◌, length, map, max, refl, sym, ap, ◌∙◌, subst, arith}
use Rattle.std.specs.Prelude.{Result, Ok, Err, is_ok, nat_lt, slice_get}
use Rattle.std.specs.List.{filter}
use Rattle.std.specs.Option.{option_map}
use Rattle.std.proofs.lemmas.Bool.{cases_eq, eq-eqb, ltb-false, ne_eqb}
use Rattle.std.proofs.lemmas.List.{length-append, length-map}
use Rattle.std.proofs.lemmas.Option.{none-some, same_Some, slice_get-map}
use Rattle.ra_stamp.specs.declared.message.Message.{Message}
use Rattle.ra_stamp.specs.Message.{to_of}
use Rattle.ra_frame.specs.declared.frame.Frame.{Frame}
use Rattle.ra_node.specs.declared.outcome.Outcome.{Outcome}
use Rattle.ra_link.specs.declared.link.Link.{Link}
use Rattle.ra_link.specs.Link as rule
use Rattle.ra_book.specs.declared.book.event.BookKind.{BookKind}
use Rattle.ra_book.specs.declared.book.event.BookKind.TheVariants.{Ask, Leave, Cancel, Receive, Forget}
use Rattle.ra_book.specs.Book.{BookState, next_clock}
use Rattle.ra_book.specs.History.{frames_at}
use Rattle.ra_book.specs.Pairs.{sent_to}
use Rattle.ra_book.specs.Timed.{CanCome}
use Rattle.ra_host.specs.declared.error.CountError.{CountError}
use Rattle.ra_host.specs.declared.links.Links.{Links}
use Rattle.ra_host.specs.Full.{is_full, most_made}
use Rattle.ra_host.specs.Host.{Host, IsOther, IsOwn, connects, ends, frames_to, hears_ack, hears_hello, hears_welcome, linked, makes_frames, syncs_book}
use Rattle.ra_host.specs.Making.{MayMake, makes_each}
use Rattle.ra_host.specs.Outgoing.{KeepsOf, Outgoing, adds_at, drops, drops_at, posts}
use Rattle.ra_host.specs.Played.{GoesOn, PlayedState, Plays}
use Rattle.ra_host.specs.Ready.{GoWith, Happened, IsReadyWith}
use Rattle.ra_host.specs.Running.{AreLinksOf}
use Rattle.ra_host.proofs.LinksHeld.{never_both}
use Rattle.ra_host.proofs.MadeFrames.{made_is}
use Rattle.ra_host.proofs.OutgoingKept.{keeps_dropped}
use Rattle.ra_host.proofs.Rooms.{or_first, or_second}
use Rattle.ra_host.proofs.Views.{sent_more}

-- ---- The links change

-- a link changes that is as ready, has made as many frames, and has as many acknowledged
pub stays : (p : PlayedState) (h : Host) (j : ℕ) (l : Link) → IsReadyWith p h → l.ready ≡ (h.links j).ready → l.made ≡ (h.links j).made → l.acknowledged ≡ (h.links j).acknowledged → l.sent ≡ (h.links j).sent
    → IsReadyWith p (linked h j l)
stays p h j l is ready made acknowledged sent =
    record {
      book = is.book;
      each = λ k o other at.
          let goes = is.each k o other at in
          let here : (k ≡ j) ⊎ (k ≡ j → ⊥) → GoWith (cond (k == j) l (h.links k)) o = elim [
            | inl same ↦
                let to : cond (k == j) l (h.links k) ≡ l = ap (λ (b : Bool). cond b l (h.links k)) (eq-eqb k j same) in
                let link : h.links j ≡ h.links k = ap h.links (sym same) in
                subst (λ (x : Link). GoWith x o) (sym to) (record {
                  ready = ready ∙ ap (λ (x : Link). x.ready) link ∙ goes.ready;
                  made = made ∙ ap (λ (x : Link). x.made) link ∙ goes.made;
                  acknowledged = acknowledged ∙ ap (λ (x : Link). x.acknowledged) link ∙ goes.acknowledged;
                  sent = (let a = ap (λ (x : Link). x.sent) link in let b = ap (λ (x : Link). x.made) link in let low = goes.sent in omega (arith, sent, made, a, b, low));
                })
            | inr differs ↦
                let to : cond (k == j) l (h.links k) ≡ h.links k = ap (λ (b : Bool). cond b l (h.links k)) (ne_eqb k j differs) in
                subst (λ (x : Link). GoWith x o) (sym to) goes
          ] in
          here (cases_eq k j);
    }

-- ---- An event happens

free_at : (os : List Outgoing) (k : ℕ) (o : Outgoing) → is_full os ≡ false → slice_get os k ≡ Some o → o.made + most_made ≤ rule.greatest
free_at [] k o free is = absurd (none-some o is)
free_at (x ∷ os) zero o free is =
    let low = ltb-false rule.greatest (x.made + most_made) (or_first (nat_lt rule.greatest (x.made + most_made)) (is_full os) free) in
    subst (λ (y : Outgoing). y.made + most_made ≤ rule.greatest) (same_Some x o is) low
free_at (x ∷ os) (suc k) o free is = free_at os k o (or_second (nat_lt rule.greatest (x.made + most_made)) (is_full os) free) is

fewer : (p : Frame → Bool) (fs : List Frame) → length (filter p fs) ≤ length fs
fewer p [] = omega arith
fewer p (f ∷ fs) =
    let rest = fewer p fs in
    elim (p f) as (λ (b : Bool). length (cond b (f ∷ filter p fs) (filter p fs)) ≤ length (f ∷ fs)) [ true ↦ omega (arith, rest) | false ↦ omega (arith, rest) ]

-- frames are added, and none is dropped
dropped_at : (os : List Outgoing) (place : ℕ) (f : Frame) → map (λ (o : Outgoing). o.dropped) (adds_at os place f) ≡ map (λ (o : Outgoing). o.dropped) os
dropped_at [] place f = refl
dropped_at (o ∷ os) zero f = refl
dropped_at (o ∷ os) (suc place) f = ap (λ (ns : List ℕ). o.dropped ∷ ns) (dropped_at os place f)

none_dropped : (fs : List Frame) (os : List Outgoing) → map (λ (o : Outgoing). o.dropped) (posts os fs) ≡ map (λ (o : Outgoing). o.dropped) os
none_dropped [] os = refl
none_dropped (f ∷ fs) os = none_dropped fs (adds_at os (to_of f.message - 1) f) ∙ dropped_at os (to_of f.message - 1) f

pub happened : (links new_links : Links) (old new : PlayedState) (h : Host) (kind : BookKind) (outcome : Outcome) → AreLinksOf links h → IsReadyWith old h → Plays old kind outcome new
    → GoesOn h.book kind outcome new → new_links.me ≡ links.me → new_links.links.items ≡ makes_each links.links.items outcome.sends.items → Happened h kind outcome new_links new
happened links new_links old new h kind outcome are is plays goes same_me items =
    let book = h.book in
    let sends = outcome.sends.items in
    let clock = next_clock book kind in
    let frames = frames_at clock sends in
    let may : MayMake h frames = λ j other.
    let kept = is.book.each j other in
    let goes_with = is.each j kept.0 other kept.1 in
    let some = fewer (λ f. to_of f.message == j) frames in
    let long : length frames ≡ length sends = length-map {B = Frame} sends (λ (m : Message). record { clock = clock; message = m }) in
    let low = free_at old.outgoing (j - 1) kept.0 plays.numbers kept.1 in
    let few = plays.few in
    let made = goes_with.made in
    (goes_with.ready, omega (arith, some, long, low, few, made)) in
    let me : goes.book.me ≡ book.me = ap (λ (b : BookState). b.me) goes.adds.new_is in
    let nodes : goes.book.nodes ≡ book.nodes = ap (λ (b : BookState). b.nodes) goes.adds.new_is in
    let after : Host = record h { book = goes.book; links = makes_frames h.links frames } in
    record {
      new = after;
      happens = record {
        ready = λ j other. let kept = is.book.each j other in (is.each j kept.0 other kept.1).ready;
        for_this_node = goes.for_this_node;
        has_clock = goes.has_clock;
        book = goes.book;
        frames = frames;
        marks = outcome.marks.items;
        adds = goes.adds;
        has_numbers = λ j other. (may j other).1;
        new_is = refl;
      };
      frames = refl;
      marks = refl;
      are = record {
        held = made_is links new_links h clock sends goes.book are plays.receivers may me nodes same_me items;
        ready = record {
          book = goes.is;
          each = λ j o is_other at.
              let other : IsOther h j = record { first = is_other.first; last = (let n = nodes in let l = is_other.last in omega (arith, n, l)); other = λ same. is_other.other (same ∙ sym me) } in
              let before = is.book.each j other in
              let now = goes.is.each j is_other in
              let goes_with = is.each j before.0 other before.1 in
              let same : now.0 ≡ o = same_Some now.0 o (sym now.1 ∙ at) in
              let sent : sent_to j goes.book ≡ sent_to j book ++ frames_to j frames =
              ap (sent_to j) goes.adds.new_is ∙ sym (sent_more j clock book kind frames) in
              let made : o.made ≡ length (sent_to j book) + length (frames_to j frames) =
              ap (λ (x : Outgoing). x.made) (sym same) ∙ now.2.made ∙ ap (λ (fs : List Frame). length fs) sent ∙ length-append (sent_to j book) (frames_to j frames) in
              let was_made = before.2.made in
              let link_made = goes_with.made in
              let dropped : Some o.dropped ≡ Some before.0.dropped =
              sym (ap (option_map (λ (x : Outgoing). x.dropped)) at)
              ∙ sym (slice_get-map (λ (x : Outgoing). x.dropped) new.outgoing (j - 1))
              ∙ ap (λ (ns : List ℕ). slice_get ns (j - 1)) (ap (map (λ (x : Outgoing). x.dropped)) plays.outgoing ∙ none_dropped (frames_at new.timed.clock sends) old.outgoing)
              ∙ slice_get-map (λ (x : Outgoing). x.dropped) old.outgoing (j - 1)
              ∙ ap (option_map (λ (x : Outgoing). x.dropped)) before.1 in
              record {
                ready = goes_with.ready;
                made = omega (arith, made, was_made, link_made);
                acknowledged = goes_with.acknowledged ∙ sym (same_Some o.dropped before.0.dropped dropped);
                sent = (let low = goes_with.sent in omega (arith, low));
              };
        };
      };
    }

-- ---- The links of a ready host

asks_same : (l : Link) → ((rule.asks l).ready ≡ l.ready) × ((rule.asks l).made ≡ l.made) × ((rule.asks l).acknowledged ≡ l.acknowledged) × ((rule.asks l).sent ≡ l.sent)
asks_same l = asked (nat_lt l.asked rule.greatest)
  where
    asked : (b : Bool) → let m = cond b (record l { asked = l.asked + 1; pending = Some l.acknowledged; is_old = false }) l in (m.ready ≡ l.ready) × (m.made ≡ l.made) × (m.acknowledged ≡ l.acknowledged) × (m.sent ≡ l.sent)
    asked true = (refl, refl, refl, refl)
    asked false = (refl, refl, refl, refl)

pub connected : (p : PlayedState) (h : Host) (j : ℕ) → IsReadyWith p h → IsReadyWith p (connects h j)
connected p h j is = let same = asks_same (h.links j) in stays p h j (rule.asks (h.links j)) is same.0 same.1 same.2 same.3

hello_same : (l : Link) (start : ℕ) → ((rule.hears_hello l start).ready ≡ l.ready) × ((rule.hears_hello l start).made ≡ l.made) × ((rule.hears_hello l start).acknowledged ≡ l.acknowledged) × ((rule.hears_hello l start).sent ≡ l.sent)
hello_same l start = heard (rule.is_nonce l.heard start)
  where
    heard : (b : Bool) → let m = cond b l (rule.asks (record l { heard = Some start })) in (m.ready ≡ l.ready) × (m.made ≡ l.made) × (m.acknowledged ≡ l.acknowledged) × (m.sent ≡ l.sent)
    heard true = (refl, refl, refl, refl)
    heard false = asks_same (record l { heard = Some start })

pub hello_heard : (p : PlayedState) (h : Host) (j start : ℕ) → IsReadyWith p h → IsReadyWith p (hears_hello h j start)
hello_heard p h j start is = let same = hello_same (h.links j) start in stays p h j (rule.hears_hello (h.links j) start) is same.0 same.1 same.2 same.3

pub book_synced : (p : PlayedState) (h : Host) → IsReadyWith p h → IsReadyWith p (syncs_book h)
book_synced p h is =
    record {
      book = is.book;
      each = λ j o other at. let goes = is.each j o other at in record { ready = goes.ready; made = goes.made; acknowledged = goes.acknowledged; sent = omega arith };
    }

-- an event that no frame brings has no frame that has to fit
pub own_can_come : (kind : BookKind) → IsOwn kind → CanCome kind
own_can_come (Ask client name mode) own = tt
own_can_come (Leave client name) own = tt
own_can_come (Cancel client name) own = tt
own_can_come (Receive frame) own = absurd own
own_can_come Forget own = tt

-- ---- More frames are acknowledged

dropped_there : (os : List Outgoing) (place count : ℕ) (o : Outgoing) → slice_get os place ≡ Some o → slice_get (drops_at os place count) place ≡ Some (drops o count)
dropped_there [] place count o is = absurd (none-some o is)
dropped_there (p ∷ os) zero count o is = ap (λ (x : Outgoing). Some (drops x count)) (same_Some p o is)
dropped_there (p ∷ os) (suc place) count o is = dropped_there os place count o is

dropped_beside : (os : List Outgoing) (place k count : ℕ) → (k ≡ place → ⊥) → slice_get (drops_at os place count) k ≡ slice_get os k
dropped_beside [] place k count differs = refl
dropped_beside (p ∷ os) zero zero count differs = absurd (differs refl)
dropped_beside (p ∷ os) zero (suc k) count differs = refl
dropped_beside (p ∷ os) (suc place) zero count differs = refl
dropped_beside (p ∷ os) (suc place) (suc k) count differs = dropped_beside os place k count (λ same. differs (ap suc same))

-- the link to a host knows of more frames that it has acknowledged, and these are not kept any more
pub acknowledged : (p : PlayedState) (h : Host) (j : ℕ) (l : Link) → IsOther h j → IsReadyWith p h → l.ready ≡ (h.links j).ready → l.made ≡ (h.links j).made → (h.links j).acknowledged ≤ l.acknowledged → l.sent ≡ (h.links j).sent
    → IsReadyWith (record p { outgoing = drops_at p.outgoing (j - 1) l.acknowledged }) (linked h j l)
acknowledged p h j l is_other is ready made more sent =
    record {
      book = record {
        leads = is.book.leads;
        clock = is.book.clock;
        each = λ k other. let kept = is.book.each k other in keeps k other kept.0 kept.1 kept.2 (cases_eq k j);
      };
      each = λ k o other at. goes k o other at (cases_eq k j);
    }
  where
    keeps : (k : ℕ) → IsOther h k → (o : Outgoing) → slice_get p.outgoing (k - 1) ≡ Some o → KeepsOf o (sent_to k h.book) → (k ≡ j) ⊎ (k ≡ j → ⊥)
        → (n : Outgoing) × (slice_get (drops_at p.outgoing (j - 1) l.acknowledged) (k - 1) ≡ Some n) × KeepsOf n (sent_to k h.book)
    keeps k other o at kept (inl same) = (
      drops o l.acknowledged,
      ap (λ (i : ℕ). slice_get (drops_at p.outgoing (j - 1) l.acknowledged) (i - 1)) same ∙ dropped_there p.outgoing (j - 1) l.acknowledged o (ap (λ (i : ℕ). slice_get p.outgoing (i - 1)) (sym same) ∙ at),
      keeps_dropped o (sent_to k h.book) l.acknowledged kept,
    )
    keeps k other o at kept (inr differs) = (
      o,
      dropped_beside p.outgoing (j - 1) (k - 1) l.acknowledged (λ same. differs (let a = other.first in let b = is_other.first in omega (arith, same, a, b))) ∙ at,
      kept,
    )

    goes : (k : ℕ) (o : Outgoing) → IsOther h k → slice_get (drops_at p.outgoing (j - 1) l.acknowledged) (k - 1) ≡ Some o → (k ≡ j) ⊎ (k ≡ j → ⊥) → GoWith ((linked h j l).links k) o
    goes k o other at (inl same) =
        let kept = is.book.each j is_other in
        let was = is.each j kept.0 is_other kept.1 in
        let now : drops kept.0 l.acknowledged ≡ o =
        same_Some (drops kept.0 l.acknowledged) o (sym (dropped_there p.outgoing (j - 1) l.acknowledged kept.0 kept.1) ∙ ap (λ (i : ℕ). slice_get (drops_at p.outgoing (j - 1) l.acknowledged) (i - 1)) (sym same) ∙ at) in
        let to : (linked h j l).links k ≡ l = ap (λ (b : Bool). cond b l (h.links k)) (eq-eqb k j same) in
        let low = was.acknowledged in
        subst (λ (x : Outgoing). GoWith ((linked h j l).links k) x) now
        (subst (λ (x : Link). GoWith x (drops kept.0 l.acknowledged)) (sym to) (record {
          ready = ready ∙ was.ready;
          made = made ∙ was.made;
          acknowledged = omega (arith, more, low);
          sent = (let few = was.sent in omega (arith, sent, made, few));
        }))
    goes k o other at (inr differs) =
        let beside = dropped_beside p.outgoing (j - 1) (k - 1) l.acknowledged (λ same. differs (let a = other.first in let b = is_other.first in omega (arith, same, a, b))) in
        let was = is.each k o other (sym beside ∙ at) in
        let to : (linked h j l).links k ≡ h.links k = ap (λ (b : Bool). cond b l (h.links k)) (ne_eqb k j differs) in
        subst (λ (x : Link). GoWith x o) (sym to) was

ack_same : (l : Link) (start other kept : ℕ) → let m = rule.hears_ack l start other kept in (m.ready ≡ l.ready) × (m.made ≡ l.made) × (l.acknowledged ≤ m.acknowledged) × (m.sent ≡ l.sent)
ack_same l start other kept = heard (rule.is_ack l start other)
  where
    heard : (b : Bool) → let m = cond b (record l { acknowledged = max l.acknowledged kept; confirmed = true }) l in (m.ready ≡ l.ready) × (m.made ≡ l.made) × (l.acknowledged ≤ m.acknowledged) × (m.sent ≡ l.sent)
    heard true = (refl, refl, omega arith, refl)
    heard false = (refl, refl, omega arith, refl)

welcome_same : (l : Link) (asker question start kept : ℕ) → let m = rule.hears_welcome l asker question start kept in (m.ready ≡ l.ready) × (m.made ≡ l.made) × (l.acknowledged ≤ m.acknowledged) × (m.sent ≡ l.sent)
welcome_same l asker question start kept = heard (rule.is_answer l asker question) (rule.shows_old l start kept)
  where
    heard : (answers old : Bool) → let m = cond answers (cond old (record l { is_old = true }) (rule.adopts l start kept)) l in (m.ready ≡ l.ready) × (m.made ≡ l.made) × (l.acknowledged ≤ m.acknowledged) × (m.sent ≡ l.sent)
    heard true true = (refl, refl, omega arith, refl)
    heard true false = (refl, refl, omega arith, refl)
    heard false old = (refl, refl, omega arith, refl)

-- a count is heard that does not accuse the host
heard_count : (p : PlayedState) (h : Host) (j : ℕ) (accuses : Bool) (l : Link) (count : ℕ) → IsOther h j → IsReadyWith p h → accuses ≡ false
    → (l.ready ≡ (h.links j).ready) × (l.made ≡ (h.links j).made) × ((h.links j).acknowledged ≤ l.acknowledged) × (l.sent ≡ (h.links j).sent) → count ≡ l.acknowledged
    → IsReadyWith (record p { outgoing = drops_at p.outgoing (j - 1) count }) (cond accuses (ends h j) (linked h j l))
heard_count p h j accuses l count is_other is passes same counts =
    subst (λ (g : Host). IsReadyWith (record p { outgoing = drops_at p.outgoing (j - 1) count }) g) (sym (ap (λ (b : Bool). cond b (ends h j) (linked h j l)) passes))
    (subst (λ (n : ℕ). IsReadyWith (record p { outgoing = drops_at p.outgoing (j - 1) n }) (linked h j l)) (sym counts) (acknowledged p h j l is_other is same.0 same.1 same.2 same.3))

pub ack_heard : (p : PlayedState) (h : Host) (j start other kept count : ℕ) → IsOther h j → IsReadyWith p h → rule.ack_accuses (h.links j) start other kept ≡ false
    → count ≡ (rule.hears_ack (h.links j) start other kept).acknowledged → IsReadyWith (record p { outgoing = drops_at p.outgoing (j - 1) count }) (hears_ack h j start other kept)
ack_heard p h j start other kept count is_other is passes counts =
    heard_count p h j (rule.ack_accuses (h.links j) start other kept) (rule.hears_ack (h.links j) start other kept) count is_other is passes (ack_same (h.links j) start other kept) counts

pub welcome_heard : (p : PlayedState) (h : Host) (j asker question start kept count : ℕ) → IsOther h j → IsReadyWith p h → rule.welcome_accuses (h.links j) asker question kept ≡ false
    → count ≡ (rule.hears_welcome (h.links j) asker question start kept).acknowledged → IsReadyWith (record p { outgoing = drops_at p.outgoing (j - 1) count }) (hears_welcome h j asker question start kept)
welcome_heard p h j asker question start kept count is_other is passes counts =
    heard_count p h j (rule.welcome_accuses (h.links j) asker question kept) (rule.hears_welcome (h.links j) asker question start kept) count is_other is passes
    (welcome_same (h.links j) asker question start kept) counts

-- what was answered was not refused
pub not_refused : {T : Type 0} (b : Bool) (x : T) (e : CountError) → (b ≡ true → ◌≡◌ {A = Result T CountError} (Ok x) (Err e)) → b ≡ false
not_refused true x e refused = absurd (never_both (ap is_ok (refused refl)))
not_refused false x e refused = refl

-- ---- A frame is taken

frame_same : (l : Link) (start number : ℕ) → let m = rule.hears_frame l start number in (m.ready ≡ l.ready) × (m.made ≡ l.made) × (m.acknowledged ≡ l.acknowledged) × (m.sent ≡ l.sent)
frame_same l start number = heard (rule.is_next l start number)
  where
    heard : (b : Bool) → let m = cond b (record l { taken = l.taken + 1 }) l in (m.ready ≡ l.ready) × (m.made ≡ l.made) × (m.acknowledged ≡ l.acknowledged) × (m.sent ≡ l.sent)
    heard true = (refl, refl, refl, refl)
    heard false = (refl, refl, refl, refl)

pub frame_taken : (p : PlayedState) (h : Host) (j start number : ℕ) → IsReadyWith p h → IsReadyWith p (linked h j (rule.hears_frame (h.links j) start number))
frame_taken p h j start number is =
    let same = frame_same (h.links j) start number in
    stays p h j (rule.hears_frame (h.links j) start number) is same.0 same.1 same.2 same.3
