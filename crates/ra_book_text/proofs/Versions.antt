-- The version in which the lines of books are read.
use Rattle.std.proofs.Common.{◌≡◌, ◌⊎◌, ℕ, List, [], ◌∷◌, ◌++◌, inl, inr, refl, sym, subst, ◌∙◌}
use Rattle.ra_book.specs.declared.book.event.BookKind.{BookKind}
use Rattle.ra_book_text.specs.declared.next_line.book_version.BookVersion.{BookVersion}
use Rattle.ra_book_text.specs.BookText.{AllowsKind, AreReadIn, IsEventIn, IsFirst, IsNoFirst, IsTooNew}
use Rattle.ra_book_text.proofs.OneReading.{LineLaws, first_no_event}

-- some lines, and those after them
pub reads_append : (ls ms : List (List ℕ)) (v a b : BookVersion) → AreReadIn v ls a → AreReadIn a ms b → AreReadIn v (ls ++ ms) b
reads_append [] ms v a b g h = subst (λ (x : BookVersion). AreReadIn x ms b) g h
reads_append (l ∷ ls) ms v a b (inl (u, node, nodes, start, is, rest)) h = inl (u, node, nodes, start, is, reads_append ls ms u a b rest h)
reads_append (l ∷ ls) ms v a b (inr (kind, is, rest)) h = inr (kind, is, reads_append ls ms v a b rest h)

-- another line, which begins a book, or is an event
pub reads_first : (lines : List (List ℕ)) (line : List ℕ) (v a b : BookVersion) (node nodes start : ℕ) → AreReadIn v lines a → IsFirst line b node nodes start
    → AreReadIn v (lines ++ line ∷ []) b
reads_first lines line v a b node nodes start g is = reads_append lines (line ∷ []) v a b g (inl (b, node, nodes, start, is, refl))

pub reads_event : (lines : List (List ℕ)) (line : List ℕ) (v a : BookVersion) (kind : BookKind) → AreReadIn v lines a → IsEventIn a line kind → AreReadIn v (lines ++ line ∷ []) a
reads_event lines line v a kind g is = reads_append lines (line ∷ []) v a a g (inr (kind, is, refl))

-- what one of the lines is
pub record ReadAt (v : BookVersion) (before : List (List ℕ)) (line : List ℕ) : Type 0 where
  pub version : BookVersion
  pub read_in : AreReadIn v before version
  pub is : ((new : BookVersion) × (node : ℕ) × (nodes : ℕ) × (start : ℕ) × IsFirst line new node nodes start) ⊎ ((kind : BookKind) × IsEventIn version line kind)

pub read_at : (before after : List (List ℕ)) (line : List ℕ) (v w : BookVersion) → AreReadIn v (before ++ line ∷ after) w → ReadAt v before line
read_at [] after line v w (inl (u, node, nodes, start, is, rest)) = record { version = v; read_in = refl; is = inl (u, node, nodes, start, is) }
read_at [] after line v w (inr (kind, is, rest)) = record { version = v; read_in = refl; is = inr (kind, is) }
read_at (l ∷ before) after line v w (inl (u, node, nodes, start, is, rest)) =
    let at = read_at before after line u w rest in
    record { version = at.version; read_in = inl (u, node, nodes, start, is, at.read_in); is = at.is }
read_at (l ∷ before) after line v w (inr (kind, is, rest)) =
    let at = read_at before after line v w rest in
    record { version = at.version; read_in = inr (kind, is, at.read_in); is = at.is }

module _ (laws : LineLaws) where
  -- the lines decide the version
  pub one_version_read : (lines : List (List ℕ)) (v a b : BookVersion) → AreReadIn v lines a → AreReadIn v lines b → a ≡ b
  one_version_read [] v a b g h = g ∙ sym h
  one_version_read (l ∷ ls) v a b (inl (u, node, nodes, start, is, rest)) (inl (u', node', nodes', start', is', rest')) =
      let same = (laws.first l u u' node node' nodes nodes' start start' is is').0 in
      one_version_read ls u' a b (subst (λ (x : BookVersion). AreReadIn x ls a) same rest) rest'
  one_version_read (l ∷ ls) v a b (inl (u, node, nodes, start, is, rest)) (inr (kind, event, rest')) = absurd (first_no_event laws l u node nodes start kind is event.1)
  one_version_read (l ∷ ls) v a b (inr (kind, event, rest)) (inl (u, node, nodes, start, is, rest')) = absurd (first_no_event laws l u node nodes start kind is event.1)
  one_version_read (l ∷ ls) v a b (inr (kind, event, rest)) (inr (other, event', rest')) = one_version_read ls v a b rest rest'

  -- no line is too new among those that are read
  pub not_too_new : (before after : List (List ℕ)) (line : List ℕ) (v a w : BookVersion) → AreReadIn v before a → AreReadIn v (before ++ line ∷ after) w → IsNoFirst line
      → IsTooNew a line → ⊥
  not_too_new before after line v a w g h no_first (kind, is, not) =
      let at = read_at before after line v w h in
      let same : at.version ≡ a = one_version_read before v at.version a at.read_in g in
      elim at.is [
        | inl first ↦ no_first first.0 first.1 first.2 first.3 first.4
        | inr event ↦
            not (subst (λ (x : BookVersion). AllowsKind x kind) same
            (subst (λ (k : BookKind). AllowsKind at.version k) (laws.event line event.0 kind event.1.1 is) event.1.0))
      ]
