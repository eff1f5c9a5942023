-- The links after their host made frames.
use Rattle.std.proofs.Common.{◌≡◌, inl, inr, ℕ, zero, suc, ◌+◌, ◌-◌, ◌<◌, ◌≤◌, Bool, true, false, ◌&&◌, cond, Some, List, [], ◌∷◌, length, set, drop, get_or, refl, sym, ap, ◌∙◌, arith}
use Rattle.std.specs.Prelude.{All, Result, Ok, Err, IsOk, IsErr, nat_lt, slice_get}
use Rattle.std.proofs.lemmas.Bool.{cases_eq, eq-eqb, lt-ltb, ne_eqb}
use Rattle.std.proofs.lemmas.List.{at_drop_more}
use Rattle.std.proofs.lemmas.List.Elements.{All-head, All-tail}
use Rattle.std.proofs.lemmas.Option.{none-some, same_Some}
use Rattle.ra_stamp.specs.declared.message.Message.{Message}
use Rattle.ra_stamp.specs.Message.{to_of}
use Rattle.ra_frame.specs.declared.frame.Frame.{Frame}
use Rattle.ra_link.specs.declared.error.MakeError.{MakeError}
use Rattle.ra_link.specs.declared.link.Link.{Link}
use Rattle.ra_link.specs.Link as rule
use Rattle.ra_book.specs.Book.{BookState}
use Rattle.ra_book.specs.History.{frames_at}
use Rattle.ra_host.specs.declared.links.Links.{Links}
use Rattle.ra_host.specs.Host.{Host, IsOther, frames_to, makes_frames}
use Rattle.ra_host.specs.Making.{MayMake, makes_at, makes_each}
use Rattle.ra_host.specs.Running.{AreLinksOf}

there : (ls : List Link) (place : ℕ) (l : Link) → slice_get ls place ≡ Some l → rule.may_make l ≡ true → slice_get (makes_at ls place) place ≡ Some (rule.makes l)
there [] place l is may = absurd (none-some l is)
there (k ∷ ls) zero l is may =
    ap (λ (x : Link). Some (cond (rule.may_make x) (rule.makes x) x)) (same_Some k l is)
    ∙ ap (λ (b : Bool). Some (cond b (rule.makes l) l)) may
there (k ∷ ls) (suc place) l is may = there ls place l is may

beside : (ls : List Link) (place k : ℕ) → (k ≡ place → ⊥) → slice_get (makes_at ls place) k ≡ slice_get ls k
beside [] place k differs = refl
beside (l ∷ ls) zero zero differs = absurd (differs refl)
beside (l ∷ ls) zero (suc k) differs = refl
beside (l ∷ ls) (suc place) zero differs = refl
beside (l ∷ ls) (suc place) (suc k) differs = beside ls place k (λ same. differs (ap suc same))

length_made : (ls : List Link) (place : ℕ) → length (makes_at ls place) ≡ length ls
length_made [] place = refl
length_made (l ∷ ls) zero = refl
length_made (l ∷ ls) (suc place) = ap suc (length_made ls place)

pub length_each : (sends : List Message) (ls : List Link) → length (makes_each ls sends) ≡ length ls
length_each [] ls = refl
length_each (m ∷ ms) ls = length_each ms (makes_at ls (to_of m - 1)) ∙ length_made ls (to_of m - 1)

and_both : (a b : Bool) → a ≡ true → b ≡ true → (a && b) ≡ true
and_both a b first second = (λ at. first at && second at)

-- the link of host j has made so many more frames
made_each : (clock j : ℕ) (sends : List Message) (ls : List Link) (l : Link) → 1 ≤ j → All (λ m. 1 ≤ to_of m) sends → slice_get ls (j - 1) ≡ Some l → l.ready ≡ true
    → l.made + length (frames_to j (frames_at clock sends)) ≤ rule.greatest
    → slice_get (makes_each ls sends) (j - 1) ≡ Some (record l { made = l.made + length (frames_to j (frames_at clock sends)) })
made_each clock j [] ls l some to is ready room = is ∙ ap (λ (n : ℕ). Some (record l { made = n })) (omega arith)
made_each clock j (m ∷ ms) ls l some to is ready room = elim (cases_eq (to_of m) j) [
  | inl same ↦
      let f : Frame = record { clock = clock; message = m } in
      let rest = frames_to j (frames_at clock ms) in
      let one : frames_to j (frames_at clock (m ∷ ms)) ≡ f ∷ rest = ap (λ (b : Bool). cond b (f ∷ rest) rest) (eq-eqb (to_of m) j same) in
      let more = ap (λ (fs : List Frame). length fs) one in
      let may : rule.may_make l ≡ true = and_both l.ready (nat_lt l.made rule.greatest) ready (lt-ltb l.made rule.greatest (omega (arith, room, more))) in
      let at : slice_get (makes_at ls (to_of m - 1)) (j - 1) ≡ Some (rule.makes l) = ap (λ (n : ℕ). slice_get (makes_at ls (n - 1)) (j - 1)) same ∙ there ls (j - 1) l is may in
      made_each clock j ms (makes_at ls (to_of m - 1)) (rule.makes l) some (All-tail (λ m. 1 ≤ to_of m) m ms to) at ready (omega (arith, room, more))
      ∙ ap (λ (n : ℕ). Some (record l { made = n })) (omega (arith, more))
  | inr differs ↦
      let f : Frame = record { clock = clock; message = m } in
      let rest = frames_to j (frames_at clock ms) in
      let none : frames_to j (frames_at clock (m ∷ ms)) ≡ rest = ap (λ (b : Bool). cond b (f ∷ rest) rest) (ne_eqb (to_of m) j differs) in
      let same_length = ap (λ (fs : List Frame). length fs) none in
      let first : 1 ≤ to_of m = All-head (λ m. 1 ≤ to_of m) m ms to in
      let at : slice_get (makes_at ls (to_of m - 1)) (j - 1) ≡ Some l = beside ls (to_of m - 1) (j - 1) (λ same. differs (omega (arith, same, first, some))) ∙ is in
      made_each clock j ms (makes_at ls (to_of m - 1)) l some (All-tail (λ m. 1 ≤ to_of m) m ms to) at ready (omega (arith, room, same_length))
      ∙ ap (λ (n : ℕ). Some (record l { made = n })) (omega (arith, same_length))
]

pub made_is : (links new : Links) (h : Host) (clock : ℕ) (sends : List Message) (book : BookState) → AreLinksOf links h → All (λ m. 1 ≤ to_of m) sends → MayMake h (frames_at clock sends)
    → book.me ≡ h.book.me → book.nodes ≡ h.book.nodes → new.me ≡ links.me → new.links.items ≡ makes_each links.links.items sends
    → AreLinksOf new (record h { book = book; links = makes_frames h.links (frames_at clock sends) })
made_is links new h clock sends book are to may me nodes same_me items =
    record {
      up = are.up;
      me = me ∙ are.me ∙ sym same_me;
      nodes = nodes ∙ are.nodes ∙ sym (length_each sends links.links.items) ∙ sym (ap (λ (xs : List Link). length xs) items);
      each = λ j is.
          let other : IsOther h j = record { first = is.first; last = (let n = nodes in omega (arith, n, is.last)); other = λ same. is.other (same ∙ sym me) } in
          ap (λ (xs : List Link). slice_get xs (j - 1)) items
          ∙ made_each clock j sends links.links.items (h.links j) is.first to (are.each j other) (may j other).0 (may j other).1;
    }

-- ---- One more message of a list

pub makes_more : (ls news : List Link) (i : ℕ) (sends : List Message) (m : Message) → i < length sends → m ≡ get_or sends i m → news ≡ makes_at ls (to_of m - 1)
    → makes_each news (drop (i + 1) sends) ≡ makes_each ls (drop i sends)
makes_more ls news i sends m within read is =
    ap (λ (ns : List Link). makes_each ns (drop (i + 1) sends)) is
    ∙ ap (λ (x : Message). makes_each ls (x ∷ drop (i + 1) sends)) read
    ∙ sym (at_drop_more (λ (ms : List Message). makes_each ls ms) sends i m within)

-- the link at this place made a frame, or it may not
pub set_made : (ls : List Link) (place : ℕ) (y d : Link) → place < length ls → y ≡ cond (rule.may_make (get_or ls place d)) (rule.makes (get_or ls place d)) (get_or ls place d) → set ls place y ≡ makes_at ls place
set_made [] place y d within is = absurd (omega (arith, within))
set_made (l ∷ ls) zero y d within is = ap (λ (x : Link). x ∷ ls) is
set_made (l ∷ ls) (suc place) y d within is = ap (λ (xs : List Link). l ∷ xs) (set_made ls place y d (omega (arith, within)) is)

pub none_made : (ls : List Link) (place : ℕ) → length ls ≤ place → ls ≡ makes_at ls place
none_made [] place past = refl
none_made (l ∷ ls) zero past = absurd (omega (arith, past))
none_made (l ∷ ls) (suc place) past = ap (λ (xs : List Link). l ∷ xs) (none_made ls place (omega (arith, past)))

never : (b : Bool) → (b ≡ true → false ≡ true) → b ≡ false
never true shown = sym (shown refl)
never false shown = refl

-- the link after it was to make a frame
pub made_or : (l l' : Link) (r : Result (Unit {0}) MakeError) → (IsOk r → rule.may_make l ≡ true) × (rule.may_make l ≡ true → IsOk r) → (IsOk r → l' ≡ rule.makes l) → (IsErr r → l' ≡ l)
    → (xs : List Link) (i : ℕ) → l ≡ get_or xs i l → l' ≡ cond (rule.may_make (get_or xs i l)) (rule.makes (get_or xs i l)) (get_or xs i l)
made_or l l' (Ok x) may makes stays xs i read =
    makes refl ∙ sym (ap (λ (b : Bool). cond b (rule.makes l) l) (may.0 refl)) ∙ ap (λ (x : Link). cond (rule.may_make x) (rule.makes x) x) read
made_or l l' (Err e) may makes stays xs i read =
    stays refl ∙ sym (ap (λ (b : Bool). cond b (rule.makes l) l) (never (rule.may_make l) may.1)) ∙ ap (λ (x : Link). cond (rule.may_make x) (rule.makes x) x) read
