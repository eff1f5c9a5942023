-- The lines of a text, and what a line says, can be read in one way.
use Rattle.std.proofs.Common.{◌≡◌, ◌≢◌, ◌⊎◌, ℕ, List, [], ◌∷◌, ◌++◌, inl, inr, refl, sym, ap, subst, ◌∙◌, append_assoc, arith}
use Rattle.std.specs.Prelude.{All}
use Rattle.std.specs.List.{AllZip}
use Rattle.std.proofs.lemmas.List.Elements.{All-head, All-tail, All-contains, Contains-append_right}
use Rattle.ra_book.specs.declared.book.event.BookKind.{BookKind}
use Rattle.ra_book.specs.declared.book.event.BookKind.TheVariants as kinds
use Rattle.ra_book_text.specs.declared.answering.line_refusal.Refusal.{Refusal}
use Rattle.ra_book_text.specs.Book.{lines_text}
use Rattle.ra_book_text.specs.BookText.{Form, HasForm, IsEvent, IsFirst, IsUnread}
use Rattle.ra_book_text.specs.BookText.Form.{Ask, Leave, Cancel, Forget, Receive}
use Rattle.ra_book_text.specs.declared.next_line.book_version.BookVersion.{BookVersion}
use Rattle.ra_book_text.specs.Input.{HasNoFeed}
use Rattle.ra_book_text.specs.Texts.{Said, Says, IsText}
use Rattle.ra_book_text.specs.Texts.Said.{Opens, Happens}

-- ---- Lists

pub tail_of : {X : Type 0} {x y : X} {xs ys : List X} → x ∷ xs ≡ y ∷ ys → xs ≡ ys
tail_of e = cc

pub head_of : {X : Type 0} {x y : X} {xs ys : List X} → x ∷ xs ≡ y ∷ ys → x ≡ y
head_of e = cc

-- ---- Lines

no_feed_in : (part line rest : List ℕ) → HasNoFeed part → part ≡ line ++ 10 ∷ rest → ⊥
no_feed_in part line rest free is =
    All-contains (λ byte. byte ≢ 10) (line ++ 10 ∷ rest) 10 (subst HasNoFeed is free) (Contains-append_right line (10 ∷ rest) 10 (0, omega arith, refl)) refl

pub feed_once : (a b x y : List ℕ) → HasNoFeed a → HasNoFeed b → a ++ 10 ∷ x ≡ b ++ 10 ∷ y → (a ≡ b) × (x ≡ y)
feed_once [] [] x y f g is = (refl, tail_of is)
feed_once [] (b ∷ bs) x y f g is = absurd (All-head (λ byte. byte ≢ 10) b bs g (sym (head_of is)))
feed_once (a ∷ vs) [] x y f g is = absurd (All-head (λ byte. byte ≢ 10) a vs f (head_of is))
feed_once (a ∷ vs) (b ∷ bs) x y f g is =
    let first : a ≡ b = head_of is in
    let rest = feed_once vs bs x y (All-tail (λ byte. byte ≢ 10) a vs f) (All-tail (λ byte. byte ≢ 10) b bs g) (tail_of is) in
    (λ i. first i ∷ rest.0 i, rest.1)

-- the first line, and the rest
first_line : (l : List ℕ) (ls : List (List ℕ)) (r : List ℕ) → lines_text (l ∷ ls) ++ r ≡ l ++ 10 ∷ (lines_text ls ++ r)
first_line l ls r = append_assoc (l ++ 10 ∷ []) (lines_text ls) r ∙ append_assoc l (10 ∷ []) (lines_text ls ++ r)

-- lines of a text are at its beginning, if nothing after the last line is one
lines_in : (ls ms : List (List ℕ)) (r p : List ℕ) → All HasNoFeed ls → All HasNoFeed ms → HasNoFeed p → lines_text ls ++ r ≡ lines_text ms ++ p
    → (more : List (List ℕ)) × (ms ≡ ls ++ more)
lines_in [] ms r p f g free is = (ms, refl)
lines_in (l ∷ ls) [] r p f g free is = absurd (no_feed_in p l (lines_text ls ++ r) free (sym is ∙ first_line l ls r))
lines_in (l ∷ ls) (m ∷ ms) r p f g free is =
    let same = feed_once l m (lines_text ls ++ r) (lines_text ms ++ p) (All-head HasNoFeed l ls f) (All-head HasNoFeed m ms g)
    (sym (first_line l ls r) ∙ is ∙ first_line m ms p) in
    let first : m ≡ l = sym same.0 in
    let rest = lines_in ls ms r p (All-tail HasNoFeed l ls f) (All-tail HasNoFeed m ms g) free same.1 in
    (rest.0, λ i. first i ∷ rest.1 i)

-- of the first lines of a text, some are the first ones of the others
pub either_first : (ls ms : List (List ℕ)) (r s : List ℕ) → All HasNoFeed ls → All HasNoFeed ms → lines_text ls ++ r ≡ lines_text ms ++ s
    → ((more : List (List ℕ)) × (ms ≡ ls ++ more)) ⊎ ((more : List (List ℕ)) × (ls ≡ ms ++ more))
either_first [] ms r s f g is = inl (ms, refl)
either_first (l ∷ ls) [] r s f g is = inr (l ∷ ls, refl)
either_first (l ∷ ls) (m ∷ ms) r s f g is =
    let same = feed_once l m (lines_text ls ++ r) (lines_text ms ++ s) (All-head HasNoFeed l ls f) (All-head HasNoFeed m ms g)
    (sym (first_line l ls r) ∙ is ∙ first_line m ms s) in
    let first : l ≡ m = same.0 in
    let back : m ≡ l = sym same.0 in
    elim (either_first ls ms r s (All-tail HasNoFeed l ls f) (All-tail HasNoFeed m ms g) same.1) [
      | inl longer ↦ inl (longer.0, λ i. back i ∷ longer.1 i)
      | inr shorter ↦ inr (shorter.0, λ i. first i ∷ shorter.1 i)
    ]

-- the lines of a text are its lines
pub begin_in : (text : List ℕ) (ls ms : List (List ℕ)) (r : List ℕ) → text ≡ lines_text ls ++ r → All HasNoFeed ls → IsText text ms
    → (more : List (List ℕ)) × (ms ≡ ls ++ more)
begin_in text ls ms r is each (part, begins, free) = lines_in ls ms r part each begins.each free (sym is ∙ begins.text_is)

same_lines : (ls ms : List (List ℕ)) (p q : List ℕ) → All HasNoFeed ls → All HasNoFeed ms → HasNoFeed p → HasNoFeed q → lines_text ls ++ p ≡ lines_text ms ++ q
    → ls ≡ ms
same_lines [] [] p q f g a b is = refl
same_lines [] (m ∷ ms) p q f g a b is = absurd (no_feed_in p m (lines_text ms ++ q) a (is ∙ first_line m ms q))
same_lines (l ∷ ls) [] p q f g a b is = absurd (no_feed_in q l (lines_text ls ++ p) b (sym is ∙ first_line l ls p))
same_lines (l ∷ ls) (m ∷ ms) p q f g a b is =
    let same = feed_once l m (lines_text ls ++ p) (lines_text ms ++ q) (All-head HasNoFeed l ls f) (All-head HasNoFeed m ms g)
    (sym (first_line l ls p) ∙ is ∙ first_line m ms q) in
    let first : l ≡ m = same.0 in
    let rest = same_lines ls ms p q (All-tail HasNoFeed l ls f) (All-tail HasNoFeed m ms g) a b same.1 in
    λ i. first i ∷ rest i

pub one_text : (text : List ℕ) (lines others : List (List ℕ)) → IsText text lines → IsText text others → lines ≡ others
one_text text lines others (p, g, a) (q, h, b) = same_lines lines others p q g.each h.each a b (sym g.text_is ∙ h.text_is)

-- a text without a line feed has no line
pub no_line : (text : List ℕ) (l : List ℕ) (ls : List (List ℕ)) (r : List ℕ) → HasNoFeed text → text ≡ lines_text (l ∷ ls) ++ r → ⊥
no_line text l ls r free is = no_feed_in text l (lines_text ls ++ r) free (is ∙ first_line l ls r)

-- ---- What a line says

-- what the proofs rest on
pub record LineLaws : Type 0 where
  pub first : (line : List ℕ) (version version' : BookVersion) (node other nodes nodes' start start' : ℕ) → IsFirst line version node nodes start
      → IsFirst line version' other nodes' start' → (version ≡ version') × (node ≡ other) × (nodes ≡ nodes') × (start ≡ start')
  pub event : (line : List ℕ) (a b : BookKind) → IsEvent line a → IsEvent line b → a ≡ b
  pub apart : (line : List ℕ) (version : BookVersion) (node nodes start : ℕ) (form : Form) → IsFirst line version node nodes start → HasForm line form → ⊥
  pub is_read : (line : List ℕ) (kind : BookKind) (why : Refusal) → IsEvent line kind → IsUnread line why → ⊥

-- the form of an event
pub event_form : (line : List ℕ) (kind : BookKind) → IsEvent line kind → (form : Form) × HasForm line form
event_form line (kinds.Ask client name mode) h = (Ask client name mode, h)
event_form line (kinds.Leave client name) h = (Leave client name, h)
event_form line (kinds.Cancel client name) h = (Cancel client name, h)
event_form line kinds.Forget h = (Forget, h)
event_form line (kinds.Receive frame) (digits, form, is) = (Receive digits, form)

module _ (laws : LineLaws) where
  pub first_no_event : (line : List ℕ) (version : BookVersion) (node nodes start : ℕ) (kind : BookKind) → IsFirst line version node nodes start → IsEvent line kind → ⊥
  first_no_event line version node nodes start kind g h =
      let (form, has) = event_form line kind h in
      laws.apart line version node nodes start form g has

  pub one_said : (line : List ℕ) (a b : Said) → Says line a → Says line b → a ≡ b
  one_said line (Opens node nodes start) (Opens node' nodes' start') g h =
      let e = laws.first line g.0 h.0 node node' nodes nodes' start start' g.1 h.1 in
      λ i. Opens (e.1 i) (e.2 i) (e.3 i)
  one_said line (Opens node nodes start) (Happens kind) g h = absurd (first_no_event line g.0 node nodes start kind g.1 h)
  one_said line (Happens kind) (Opens node nodes start) g h = absurd (first_no_event line h.0 node nodes start kind h.1 g)
  one_said line (Happens kind) (Happens other) g h = ap Happens (laws.event line kind other g h)

  pub all_said : (lines : List (List ℕ)) (vs bs : List Said) → AllZip Says lines vs → AllZip Says lines bs → vs ≡ bs
  all_said [] [] [] g h = refl
  all_said [] (a ∷ vs) bs g h = absurd g
  all_said [] [] (b ∷ bs) g h = absurd h
  all_said (l ∷ lines) [] bs g h = absurd g
  all_said (l ∷ lines) (a ∷ vs) [] g h = absurd h
  all_said (l ∷ lines) (a ∷ vs) (b ∷ bs) g h =
      let first : a ≡ b = one_said l a b g.0 h.0 in
      let rest = all_said lines vs bs g.1 h.1 in
      λ i. first i ∷ rest i

-- what lines say, parted at one of them
pub record SaidAt (before : List (List ℕ)) (line : List ℕ) (all : List Said) : Type 0 where
  pub earlier : List Said
  pub one : Said
  pub later : List Said
  pub all_is : all ≡ earlier ++ one ∷ later
  pub said : AllZip Says before earlier
  pub says : Says line one

pub said_at : (before after : List (List ℕ)) (line : List ℕ) (all : List Said) → AllZip Says (before ++ line ∷ after) all → SaidAt before line all
said_at [] after line [] h = absurd h
said_at [] after line (one ∷ later) h = record { earlier = []; one = one; later = later; all_is = refl; said = tt; says = h.0 }
said_at (l ∷ before) after line [] h = absurd h
said_at (l ∷ before) after line (first ∷ all) h =
    let rest = said_at before after line all h.1 in
    record {
      earlier = first ∷ rest.earlier;
      one = rest.one;
      later = rest.later;
      all_is = ap (λ (said : List Said). first ∷ said) rest.all_is;
      said = (h.0, rest.said);
      says = rest.says;
    }
