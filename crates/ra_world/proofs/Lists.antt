-- Lists, of messages above all: what is taken from them, and what a test leaves of them.
use Rattle.std.proofs.Common.{◌≡◌, ◌≢◌, ◌⊎◌, Bool, true, false, cond, zero, suc, List, [], ◌∷◌, ◌++◌, All, Contains, filter, refl, sym, ap, ◌∙◌, subst, append_assoc, arith, inl, inr}
use Rattle.std.proofs.lemmas.List.Elements.{All-nil, All-cons, All-head, All-tail, All-append, filter-append}
use Rattle.ra_stamp.specs.declared.message.Message.{Message}
use Rattle.ra_bag.specs.Bag.{TakesFirst}
use Rattle.ra_world.specs.Traffic.{TakesEach}

-- ---- The parts of a list

pub head_of : {X : Type 0} {x y : X} {xs ys : List X} → x ∷ xs ≡ y ∷ ys → x ≡ y
head_of e = cc

pub tail_of : {X : Type 0} {x y : X} {xs ys : List X} → x ∷ xs ≡ y ∷ ys → xs ≡ ys
tail_of e = cc

pub none_some : {X : Type 0} {x : X} {xs : List X} → [] ≡ x ∷ xs → ⊥
none_some e = cc

-- ---- Tests

pub filter_hit : {X : Type 0} (p : X → Bool) (x : X) (xs : List X) → p x ≡ true → filter p (x ∷ xs) ≡ x ∷ filter p xs
filter_hit p x xs e = ap (λ b. cond b (x ∷ filter p xs) (filter p xs)) e

pub filter_miss : {X : Type 0} (p : X → Bool) (x : X) (xs : List X) → p x ≡ false → filter p (x ∷ xs) ≡ filter p xs
filter_miss p x xs e = ap (λ b. cond b (x ∷ filter p xs) (filter p xs)) e

pub filter_none : {X : Type 0} (p : X → Bool) (xs : List X) → All (λ x. p x ≡ false) xs → filter p xs ≡ []
filter_none p [] all = refl
filter_none p (x ∷ xs) all = filter_miss p x xs (All-head (λ y. p y ≡ false) x xs all) ∙ filter_none p xs (All-tail (λ y. p y ≡ false) x xs all)

pub All-filter : {X : Type 0} (P : X → Type 0) (p : X → Bool) (xs : List X) → All P xs → All P (filter p xs)
All-filter P p [] all = All-nil P
All-filter P p (x ∷ xs) all =
    elim (p x) as (λ b. All P (cond b (x ∷ filter p xs) (filter p xs))) [
      | true ↦ All-cons P x (filter p xs) (All-head P x xs all) (All-filter P p xs (All-tail P x xs all))
      | false ↦ All-filter P p xs (All-tail P x xs all)
    ]

-- ---- Taking a message

pub filter_taken : (p : Message → Bool) (xs : List Message) (m : Message) (ys : List Message) → p m ≡ true → TakesFirst xs m ys → TakesFirst (filter p xs) m (filter p ys)
filter_taken p xs m ys e takes =
    record {
      prefix = filter p takes.prefix;
      suffix = filter p takes.suffix;
      old_is = ap (filter p) takes.old_is ∙ filter-append p takes.prefix (m ∷ takes.suffix) ∙ ap (λ (zs : List Message). filter p takes.prefix ++ zs) (filter_hit p m takes.suffix e);
      first = All-filter (λ x. x ≢ m) p takes.prefix takes.first;
      new_is = ap (filter p) takes.new_is ∙ filter-append p takes.prefix takes.suffix;
    }

pub filter_left : (p : Message → Bool) (xs : List Message) (m : Message) (ys : List Message) → p m ≡ false → TakesFirst xs m ys → filter p ys ≡ filter p xs
filter_left p xs m ys e takes =
    ap (filter p) takes.new_is ∙ filter-append p takes.prefix takes.suffix
    ∙ sym (ap (filter p) takes.old_is ∙ filter-append p takes.prefix (m ∷ takes.suffix) ∙ ap (λ (zs : List Message). filter p takes.prefix ++ zs) (filter_miss p m takes.suffix e))

pub takes_none : (m : Message) (ys : List Message) → TakesFirst [] m ys → ⊥
takes_none m ys takes = go takes.prefix takes.suffix takes.old_is
  where
    go : (prefix suffix : List Message) → [] ≡ prefix ++ m ∷ suffix → ⊥
    go [] suffix e = cc
    go (x ∷ prefix) suffix e = cc

pub takes_one : (x m : Message) (ys : List Message) → TakesFirst (x ∷ []) m ys → (m ≡ x) × (ys ≡ [])
takes_one x m ys takes = go takes.prefix takes.suffix takes.old_is takes.new_is
  where
    go : (prefix suffix : List Message) → x ∷ [] ≡ prefix ++ m ∷ suffix → ys ≡ prefix ++ suffix → (m ≡ x) × (ys ≡ [])
    go [] suffix e is = (cc, cc)
    go (y ∷ []) suffix e is = absurd cc
    go (y ∷ z ∷ prefix) suffix e is = absurd cc

pub takes_more : (xs : List Message) (m : Message) (ys more : List Message) → TakesFirst xs m ys → TakesFirst (xs ++ more) m (ys ++ more)
takes_more xs m ys more takes =
    record {
      prefix = takes.prefix;
      suffix = takes.suffix ++ more;
      old_is = ap (λ (zs : List Message). zs ++ more) takes.old_is ∙ append_assoc takes.prefix (m ∷ takes.suffix) more;
      first = takes.first;
      new_is = ap (λ (zs : List Message). zs ++ more) takes.new_is ∙ append_assoc takes.prefix takes.suffix more;
    }

-- a message that is present can be taken
pub takes_out : ((a b : Message) → (a ≡ b) ⊎ (a ≢ b)) → (xs : List Message) (m : Message) → Contains xs m → (ys : List Message) × TakesFirst xs m ys
takes_out same_or_apart [] m at = absurd (omega (arith, at.1))
takes_out same_or_apart (x ∷ xs) m (zero, lt, is) = (xs, record { prefix = []; suffix = xs; old_is = ap (λ (y : Message). y ∷ xs) is; first = All-nil (λ y. y ≢ m); new_is = refl })
takes_out same_or_apart (x ∷ xs) m (suc k, lt, is) = elim (same_or_apart x m) [
  | inl same ↦ (xs, record { prefix = []; suffix = xs; old_is = ap (λ (y : Message). y ∷ xs) same; first = All-nil (λ y. y ≢ m); new_is = refl })
  | inr apart ↦
      let rest = takes_out same_or_apart xs m (k, omega (arith, lt), is) in (
        x ∷ rest.0,
        record {
          prefix = x ∷ rest.1.prefix;
          suffix = rest.1.suffix;
          old_is = ap (λ (ys : List Message). x ∷ ys) rest.1.old_is;
          first = All-cons (λ y. y ≢ m) x rest.1.prefix apart rest.1.first;
          new_is = ap (λ (ys : List Message). x ∷ ys) rest.1.new_is;
        },
      )
]

pub All-taken : (P : Message → Type 0) (xs : List Message) (m : Message) (ys : List Message) → TakesFirst xs m ys → All P xs → P m × All P ys
All-taken P xs m ys takes all =
    let parts = split takes.prefix (m ∷ takes.suffix) (subst (All P) takes.old_is all) in
    (All-head P m takes.suffix parts.1, subst (All P) (sym takes.new_is) (All-append P takes.prefix takes.suffix parts.0 (All-tail P m takes.suffix parts.1)))
  where
    split : (prefix suffix : List Message) → All P (prefix ++ suffix) → All P prefix × All P suffix
    split [] suffix h = (All-nil P, h)
    split (x ∷ prefix) suffix h =
        let rest = split prefix suffix (All-tail P x (prefix ++ suffix) h) in
        (All-cons P x prefix (All-head P x (prefix ++ suffix) h) rest.0, rest.1)

-- ---- What is under way

pub less_more : (sent taken left more : List Message) → TakesEach sent taken left → TakesEach (sent ++ more) taken (left ++ more)
less_more sent [] left more less = ap (λ (zs : List Message). zs ++ more) less
less_more sent (m ∷ taken) left more less = (less.0 ++ more, takes_more sent m less.0 more less.1, less_more less.0 taken left more less.2)

pub less_joined : (sent taken left more next : List Message) → TakesEach sent taken left → TakesEach left more next → TakesEach sent (taken ++ more) next
less_joined sent [] left more next less then = subst (λ (zs : List Message). TakesEach zs more next) less then
less_joined sent (m ∷ taken) left more next less then = (less.0, less.1, less_joined less.0 taken left more next less.2 then)

-- what is left is determined
pub takes_alike : (xs : List Message) (m : Message) (ys zs : List Message) → TakesFirst xs m ys → TakesFirst xs m zs → ys ≡ zs
takes_alike xs m ys zs a b =
    let same = prefixes a.prefix a.suffix b.prefix b.suffix (sym a.old_is ∙ b.old_is) a.first b.first in
    a.new_is ∙ (λ i. same.0 i ++ same.1 i) ∙ sym b.new_is
  where
    prefixes : (f g f' g' : List Message) → f ++ m ∷ g ≡ f' ++ m ∷ g' → All (λ x. x ≢ m) f → All (λ x. x ≢ m) f' → (f ≡ f') × (g ≡ g')
    prefixes [] g [] g' e h h' = (refl, tail_of e)
    prefixes [] g (y ∷ f') g' e h h' = absurd (All-head (λ x. x ≢ m) y f' h' (sym (head_of e)))
    prefixes (x ∷ f) g [] g' e h h' = absurd (All-head (λ x. x ≢ m) x f h (head_of e))
    prefixes (x ∷ f) g (y ∷ f') g' e h h' =
        let rest = prefixes f g f' g' (tail_of e) (All-tail (λ x. x ≢ m) x f h) (All-tail (λ x. x ≢ m) y f' h') in
        (λ i. head_of e i ∷ rest.0 i, rest.1)

pub less_alike : (sent taken left left' : List Message) → TakesEach sent taken left → TakesEach sent taken left' → left ≡ left'
less_alike sent [] left left' a b = a ∙ sym b
less_alike sent (m ∷ taken) left left' a b =
    less_alike a.0 taken left left' a.2 (subst (λ (xs : List Message). TakesEach xs taken left') (takes_alike sent m b.0 a.0 b.1 a.1) b.2)

-- what is among those that pass a test passes it
pub contained_passes : {X : Type 0} (t : X → Bool) (xs : List X) (x : X) → Contains (filter t xs) x → t x ≡ true
contained_passes t [] x at = absurd (omega (arith, at.1))
contained_passes {X} t (y ∷ ys) x at =
    elim (t y) as (λ b. t y ≡ b → Contains (cond b (y ∷ filter t ys) (filter t ys)) x → t x ≡ true) [
      | true ↦ λ e there. here_or_later e there (λ later. contained_passes t ys x later)
      | false ↦ λ _ there. contained_passes t ys x there
    ] refl at
  where
    here_or_later : t y ≡ true → Contains (y ∷ filter t ys) x → (Contains (filter t ys) x → t x ≡ true) → t x ≡ true
    here_or_later e (zero, lt, is) among = ap t (sym is) ∙ e
    here_or_later e (suc k, lt, is) among = among (k, omega (arith, lt), is)
