-- The links of a host after its replay.
use Rattle.std.proofs.Common.{◌≡◌, inl, inr, ℕ, zero, suc, ◌+◌, ◌-◌, ◌<◌, ◌≤◌, Bool, true, false, not, ◌&&◌, cond, Some, List, [], ◌∷◌, length, map, set, get_or, refl, sym, ap, ◌∙◌, subst, arith}
use Rattle.std.specs.Prelude.{Result, Ok, Err, IsOk, IsErr, slice_get}
use Rattle.std.proofs.lemmas.Bool.{cases_eq}
use Rattle.std.proofs.lemmas.List.{get_or_default, get_or-map, get_or-set_other, get_or-set_same, length-map}
use Rattle.std.proofs.lemmas.Option.{get_or_from_slice_get, none-some, same_Some, slice_get-get_or, slice_get_within}
use Rattle.ra_link.specs.declared.error.OldBook.{OldBook}
use Rattle.ra_link.specs.declared.link.Link.{Link}
use Rattle.ra_link.specs.Link as rule
use Rattle.ra_book.specs.Book.{LeadsTo}
use Rattle.ra_book.specs.Pairs.{sent_to}
use Rattle.ra_host.specs.declared.links.Links.{Links}
use Rattle.ra_host.specs.declared.outbox.Outbox.{Outbox}
use Rattle.ra_host.specs.Host.{Host, IsOther, MayReplay, is_short, replays_book}
use Rattle.ra_host.specs.Outgoing.{Outgoing, drops, made_at, outgoing_of}
use Rattle.ra_host.specs.Played.{IsPlayedOf, PlayedState}
use Rattle.ra_host.specs.Ready.{AreOf, GoWith}
use Rattle.ra_host.specs.Replaying.{DropsFew, acknowledged_at, replayed}
use Rattle.ra_host.specs.Running.{AreLinksOf}
use Rattle.ra_host.proofs.LinksHeld.{never_both, other_of, other_to}
use Rattle.ra_host.proofs.OutgoingKept.{keeps_dropped}

-- ---- What is at a place

pub made_there : (os : List Outgoing) (k : ℕ) (o : Outgoing) → slice_get os k ≡ Some o → made_at os k ≡ o.made
made_there [] k o is = absurd (none-some o is)
made_there (x ∷ os) zero o is = ap (λ (y : Outgoing). y.made) (same_Some x o is)
made_there (x ∷ os) (suc k) o is = made_there os k o is

pub made_of_box : (xs : List Outbox) (k : ℕ) (d : Outbox) → k < length xs → (get_or xs k d).made ≡ made_at (map outgoing_of xs) k
made_of_box [] k d within = absurd (omega (arith, within))
made_of_box (x ∷ xs) zero d within = refl
made_of_box (x ∷ xs) (suc k) d within = made_of_box xs k d (omega (arith, within))

pub none_made_at : (xs : List Outbox) (k : ℕ) → length xs ≤ k → 0 ≡ made_at (map outgoing_of xs) k
none_made_at [] k past = refl
none_made_at (x ∷ xs) zero past = absurd (omega (arith, past))
none_made_at (x ∷ xs) (suc k) past = none_made_at xs k (omega (arith, past))

pub acknowledged_there : (ls : List Link) (k : ℕ) (d : Link) → k < length ls → (get_or ls k d).acknowledged ≡ acknowledged_at ls k
acknowledged_there [] k d within = absurd (omega (arith, within))
acknowledged_there (l ∷ ls) zero d within = refl
acknowledged_there (l ∷ ls) (suc k) d within = acknowledged_there ls k d (omega (arith, within))

pub none_acknowledged : (ls : List Link) (k : ℕ) → length ls ≤ k → 0 ≡ acknowledged_at ls k
none_acknowledged [] k past = refl
none_acknowledged (l ∷ ls) zero past = absurd (omega (arith, past))
none_acknowledged (l ∷ ls) (suc k) past = none_acknowledged ls k (omega (arith, past))

-- ---- A loop that changes each element

pub changed_more : {X : Type 0} (R : ℕ → X → X → Type 0) (olds items : List X) (place : ℕ) (x y : X) → length items ≡ length olds → place < length olds
    → ((k : ℕ) (d : X) → k < place → k < length olds → R k (get_or olds k d) (get_or items k d))
    → ((k : ℕ) (d : X) → place ≤ k → get_or items k d ≡ get_or olds k d) → x ≡ get_or items place x → R place x y
    → (k : ℕ) (d : X) → k < place + 1 → k < length olds → R k (get_or olds k d) (get_or (set items place y) k d)
changed_more R olds items place x y long within done rest read here k d low inside = elim (cases_eq k place) [
  | inl same ↦
      let at : get_or (set items place y) k d ≡ y = ap (λ (n : ℕ). get_or (set items place y) n d) same ∙ get_or-set_same items place y d (omega (arith, long, within)) in
      let was : x ≡ get_or olds k d = read ∙ rest place x (omega arith) ∙ get_or_default olds place x d within ∙ ap (λ (n : ℕ). get_or olds n d) (sym same) in
      subst (R k (get_or olds k d)) (sym at) (subst (λ a. R k a y) was (subst (λ (n : ℕ). R n x y) (sym same) here))
  | inr differs ↦
      subst (R k (get_or olds k d)) (sym (get_or-set_other items place k y d differs)) (done k d (omega (arith, low, differs)) inside)
]

pub rest_more : {X : Type 0} (olds items : List X) (place : ℕ) (y : X) → ((k : ℕ) (d : X) → place ≤ k → get_or items k d ≡ get_or olds k d)
    → (k : ℕ) (d : X) → place + 1 ≤ k → get_or (set items place y) k d ≡ get_or olds k d
rest_more olds items place y rest k d high = get_or-set_other items place k y d (λ same. omega (arith, same, high)) ∙ rest k d (omega (arith, high))

-- ---- Each link

pub replayed_or : (l l' : Link) (r : Result (Unit {0}) OldBook) (count : ℕ) → (IsOk r → rule.may_replay l ≡ true → l' ≡ rule.replays l count) → (rule.may_replay l ≡ false → l' ≡ l)
    → (IsErr r → rule.replay_accuses l count ≡ true) × (rule.replay_accuses l count ≡ true → IsErr r) → (IsErr r → l' ≡ l) → l' ≡ replayed l count
replayed_or l l' r count ready passed accused stays = by (rule.may_replay l) (rule.replay_accuses l count) r refl refl ready accused stays
  where
    by : (may accuses : Bool) (r : Result (Unit {0}) OldBook) → rule.may_replay l ≡ may → rule.replay_accuses l count ≡ accuses → (IsOk r → rule.may_replay l ≡ true → l' ≡ rule.replays l count)
        → (IsErr r → rule.replay_accuses l count ≡ true) × (rule.replay_accuses l count ≡ true → IsErr r) → (IsErr r → l' ≡ l) → l' ≡ replayed l count
    by false accuses r may_is accuses_is ready accused stays = passed may_is ∙ sym (ap (λ (b : Bool). cond (b && not (rule.replay_accuses l count)) (rule.replays l count) l) may_is)
    by true true (Ok x) may_is accuses_is ready accused stays = absurd (never_both (sym (accused.1 accuses_is)))
    by true true (Err e) may_is accuses_is ready accused stays =
        stays refl ∙ sym (λ at. cond (may_is at && not (accuses_is at)) (rule.replays l count) l)
    by true false (Ok x) may_is accuses_is ready accused stays =
        ready refl may_is ∙ sym (λ at. cond (may_is at && not (accuses_is at)) (rule.replays l count) l)
    by true false (Err e) may_is accuses_is ready accused stays = absurd (never_both (sym (accused.0 refl) ∙ accuses_is))

-- no link but that of this host shows that the book is old, of those before this place
abbrev pub NoneAccuses : Links → List Outgoing → ℕ → Type 0
NoneAccuses links os n = (k : ℕ) (d : Link) → k < n → (k + 1 ≡ links.me → ⊥) → rule.replay_accuses (get_or links.links.items k d) (made_at os k) ≡ false

module _ (links : Links) (p : PlayedState) (h : Host) (are : AreLinksOf links h) (is : IsPlayedOf p h.book) where
  count_is : (j : ℕ) → IsOther h j → made_at p.outgoing (j - 1) ≡ length (sent_to j h.book)
  count_is j other = let kept = is.each j other in made_there p.outgoing (j - 1) kept.0 kept.1 ∙ kept.2.made

  link_is : (j : ℕ) → IsOther h j → (d : Link) → get_or links.links.items (j - 1) d ≡ h.links j
  link_is j other d = get_or_from_slice_get links.links.items (j - 1) (h.links j) d (are.each j other)

  pub none_short : (n : ℕ) → length links.links.items ≤ n → NoneAccuses links p.outgoing n → (j : ℕ) → IsOther h j → is_short h j ≡ false
  none_short n all none j other =
      let it = other_to links h j are other in
      let first = it.first in
      let last = it.last in
      (λ at. rule.replay_accuses (sym (link_is j other (h.links j)) at) (sym (count_is j other) at))
      ∙ none (j - 1) (h.links j) (omega (arith, first, last, all)) (λ same. it.other (omega (arith, same, first)))

  pub one_short : (k : ℕ) (l : Link) (count : ℕ) → k < length links.links.items → (k + 1 ≡ links.me → ⊥) → l ≡ get_or links.links.items k l → count ≡ made_at p.outgoing k
      → rule.replay_accuses l count ≡ true → (j : ℕ) × IsOther h j × (is_short h j ≡ true)
  one_short k l count within not_me read counts accuses =
      let other : IsOther h (k + 1) = other_of links h (k + 1) are (record { first = omega arith; last = omega (arith, within); other = not_me }) in
      let place : k + 1 - 1 ≡ k = omega arith in
      let link : l ≡ h.links (k + 1) = read ∙ ap (λ (n : ℕ). get_or links.links.items n l) (sym place) ∙ link_is (k + 1) other l in
      let made : count ≡ length (sent_to (k + 1) h.book) = counts ∙ ap (made_at p.outgoing) (sym place) ∙ count_is (k + 1) other in
      (k + 1, other, (λ at. rule.replay_accuses (sym link at) (sym made at)) ∙ accuses)

  pub replayed_is : (new : Links) → MayReplay h → ((j : ℕ) → IsOther h j → is_short h j ≡ false) → new.me ≡ links.me → length new.links.items ≡ length links.links.items
      → ((k : ℕ) (d : Link) → k < length links.links.items → get_or new.links.items k d ≡ replayed (get_or links.links.items k d) (made_at p.outgoing k)) → AreLinksOf new (replays_book h)
  replayed_is new may none me long each =
      record {
        up = are.up;
        me = are.me ∙ sym me;
        nodes = are.nodes ∙ sym long;
        each = λ j other.
            let it = other_to links h j are other in
            let first = it.first in
            let last = it.last in
            let within : j - 1 < length links.links.items = omega (arith, first, last) in
            let l = h.links j in
            let all = length (sent_to j h.book) in
            let goes : replayed l all ≡ rule.replays l all = λ at. cond (may j other at && not (none j other at)) (rule.replays l all) l in
            slice_get-get_or new.links.items (j - 1) l (omega (arith, within, long))
            ∙ ap (λ (x : Link). Some x) (each (j - 1) l within ∙ (λ at. replayed (link_is j other l at) (count_is j other at)) ∙ goes);
      }

-- ---- The node

pub ready_is : (links new : Links) (p q : PlayedState) (h : Host) → AreLinksOf links h → AreLinksOf new (replays_book h) → IsPlayedOf p h.book → DropsFew p h → q.timed ≡ p.timed
    → ((k : ℕ) (o : Outgoing) → slice_get p.outgoing k ≡ Some o → slice_get q.outgoing k ≡ Some (drops o (acknowledged_at new.links.items k))) → AreOf new q (replays_book h)
ready_is links new p q h are held is few timed drop_each =
    let known : (j : ℕ) → IsOther h j → acknowledged_at new.links.items (j - 1) ≡ (h.links j).acknowledged = λ j other.
    let l = rule.replays (h.links j) (length (sent_to j h.book)) in
    let at = held.each j other in
    sym (acknowledged_there new.links.items (j - 1) l (slice_get_within new.links.items (j - 1) l at))
    ∙ ap (λ (x : Link). x.acknowledged) (get_or_from_slice_get new.links.items (j - 1) l l at) in
    record {
      held = held;
      ready = record {
        book = record {
          leads = subst (λ t. LeadsTo h.book t.node) (sym timed) is.leads;
          clock = is.clock ∙ sym (ap (λ t. t.clock) timed);
          each = λ j other.
              let kept = is.each j other in
              (drops kept.0 (acknowledged_at new.links.items (j - 1)), drop_each (j - 1) kept.0 kept.1, keeps_dropped kept.0 (sent_to j h.book) (acknowledged_at new.links.items (j - 1)) kept.2);
        };
        each = λ j o other at.
            let kept = is.each j other in
            let count = acknowledged_at new.links.items (j - 1) in
            let now : drops kept.0 count ≡ o = same_Some (drops kept.0 count) o (sym (drop_each (j - 1) kept.0 kept.1) ∙ at) in
            let low = few j kept.0 other kept.1 in
            let acked = known j other in
            subst (λ (x : Outgoing). GoWith (rule.replays (h.links j) (length (sent_to j h.book))) x) now
            (record { ready = refl; made = sym kept.2.made; acknowledged = omega (arith, low, acked); sent = omega arith });
      };
    }

-- what is dropped of each outbox is so of what they have
pub dropped_each : (xs ys : List Outbox) (counts : ℕ → ℕ) → length ys ≡ length xs → ((k : ℕ) (d : Outbox) → k < length xs → outgoing_of (get_or ys k d) ≡ drops (outgoing_of (get_or xs k d)) (counts k))
    → (k : ℕ) (o : Outgoing) → slice_get (map outgoing_of xs) k ≡ Some o → slice_get (map outgoing_of ys) k ≡ Some (drops o (counts k))
dropped_each xs ys counts long each k o is =
    let within : k < length xs = (let a = slice_get_within (map outgoing_of xs) k o is in let b = length-map xs outgoing_of in omega (arith, a, b)) in
    at_box xs k within (λ d.
    slice_get-get_or (map outgoing_of ys) k (outgoing_of d) (let b = length-map ys outgoing_of in omega (arith, within, long, b))
    ∙ ap (λ (x : Outgoing). Some x) (get_or-map outgoing_of ys k d (outgoing_of d) (omega (arith, within, long)) ∙ each k d within
    ∙ ap (λ (x : Outgoing). drops x (counts k)) (sym (get_or-map outgoing_of xs k d (outgoing_of d) within) ∙ get_or_from_slice_get (map outgoing_of xs) k o (outgoing_of d) is)))
  where
    at_box : {P : Type 0} (xs : List Outbox) (k : ℕ) → k < length xs → ((d : Outbox) → P) → P
    at_box [] k within found = absurd (omega (arith, within))
    at_box (x ∷ xs) k within found = found x
