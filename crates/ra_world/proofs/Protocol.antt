-- What holds of the automata of one name, one at each node, and of the messages under way, at any moment. The dialog of
-- a node that asks and one that answers is silent, or the REQUEST is under way, or it is deferred, or the REPLY is
-- under way; and a node that has answered has met the number and has no request that goes first.
use Rattle.std.proofs.Common.{◌≡◌, ◌≢◌, ◌⊎◌, ℕ, ◌≤◌, List, [], ◌∷◌, Some, None, sym, ap, ◌∙◌, subst, arith, inl, inr}
use Rattle.std.specs.Prelude.{IsTrue}
use Rattle.std.specs.FinSet as set
use Rattle.std.specs.FinMap as finmap
use Rattle.std.proofs.lemmas.Bool.{cases_lt}
use Rattle.ra_stamp.specs.declared.mode.Mode.{Mode}
use Rattle.ra_stamp.specs.declared.message.Message.{Message}
use Rattle.ra_stamp.specs.declared.message.Message.TheVariants.{Request, Reply}
use Rattle.ra_automaton.specs.declared.phase.Phase.{Phase}
use Rattle.ra_automaton.specs.declared.phase.Phase.TheVariants.{Idle, Waiting, Inside}
use Rattle.ra_automaton.specs.State.{State, IsConsistent}
use Rattle.ra_automaton.specs.Steps.{Awaits, OwnGoesFirst}
use Rattle.ra_world.proofs.Dialogs.{between}
use Rattle.ra_automaton.proofs.Apart.{cases_same}

-- one of n nodes
abbrev pub IsNode : ℕ → ℕ → Type 0
IsNode n i = (1 ≤ i) × (i ≤ n)

pub cases_node : (n i : ℕ) → IsNode n i ⊎ (IsNode n i → ⊥)
cases_node n i = elim (cases_lt i 1) [
  | inl below ↦ inr (λ at. absurd (omega (arith, below, at.0)))
  | inr low ↦ elim (cases_lt n i) [
    | inl above ↦ inr (λ at. absurd (omega (arith, above, at.1)))
    | inr high ↦ inl (low, high)
  ]
]

abbrev pub mode_in : Mode → Phase → Mode
mode_in d Idle = d
mode_in d (Waiting seq mode) = mode
mode_in d (Inside seq mode) = mode

-- the node has a request, with this number and mode
abbrev pub HasOwn : Phase → ℕ → Mode → Type 0
HasOwn Idle seq mode = ⊥
HasOwn (Waiting s w) seq mode = (s ≡ seq) × (w ≡ mode)
HasOwn (Inside s w) seq mode = (s ≡ seq) × (w ≡ mode)

-- a node lets another one's request pass: it has met its number, and its own request, if it has one, does not go first
pub record LetsPass (s : State) (other seq : ℕ) (mode : Mode) : Type 0 where
  pub reached : seq ≤ s.highest
  pub not_first : OwnGoesFirst s.phase s.me other seq mode → ⊥

-- ---- Dialogs: i asks, j answers

-- nothing is under way and nothing deferred. So nothing is awaited, unless a message was lost
pub record IsSilent (Lossy : Type 0) (i j : ℕ) (si sj : State) (ms : List Message) : Type 0 where
  pub none : ms ≡ []
  pub not_deferred : finmap.get sj.deferred i ≡ None
  pub unheard : IsTrue (set.contains si.awaited j) → Lossy

pub record IsAsking (r : List ℕ) (i j : ℕ) (si sj : State) (ms : List Message) : Type 0 where
  pub seq : ℕ
  pub mode : Mode
  pub awaits : Awaits si j seq mode
  pub asks : ms ≡ Request i j r mode seq ∷ []
  pub not_deferred : finmap.get sj.deferred i ≡ None

pub record IsDeferred (i j : ℕ) (si sj : State) (ms : List Message) : Type 0 where
  pub seq : ℕ
  pub mode : Mode
  pub awaits : Awaits si j seq mode
  pub none : ms ≡ []
  pub deferred : finmap.get sj.deferred i ≡ Some seq
  pub own_first : OwnGoesFirst sj.phase sj.me i seq mode

pub record IsAnswered (r : List ℕ) (i j : ℕ) (si sj : State) (ms : List Message) : Type 0 where
  pub seq : ℕ
  pub mode : Mode
  pub awaits : Awaits si j seq mode
  pub answers : ms ≡ Reply j i r seq ∷ []
  pub not_deferred : finmap.get sj.deferred i ≡ None
  pub passes : LetsPass sj i seq mode

abbrev pub Dialog : Type 0 → List ℕ → ℕ → ℕ → State → State → List Message → Type 0
Dialog Lossy r i j si sj ms = IsSilent Lossy i j si sj ms ⊎ (IsAsking r i j si sj ms ⊎ (IsDeferred i j si sj ms ⊎ IsAnswered r i j si sj ms))

-- ---- All nodes

pub record IsPlaced (n : ℕ) (r : List ℕ) (i : ℕ) (s : State) : Type 0 where
  pub consistent : IsConsistent s
  pub me_is : s.me ≡ i
  pub nodes_is : s.nodes ≡ n
  pub name_is : s.name ≡ r

pub record Protocol (Lossy : Type 0) (n : ℕ) (r : List ℕ) (s : ℕ → State) (bag : List Message) : Type 0 where
  pub each : (i : ℕ) → IsNode n i → IsPlaced n r i (s i)
  pub dialog : (i j : ℕ) → IsNode n i → IsNode n j → i ≢ j → Dialog Lossy r i j (s i) (s j) (between r i j bag)
  -- a node that is no longer awaited lets the request pass
  pub passed : (i j seq : ℕ) (mode : Mode) → IsNode n i → IsNode n j → i ≢ j → HasOwn (s i).phase seq mode → (IsTrue (set.contains (s i).awaited j) → ⊥) → LetsPass (s j) i seq mode

-- ---- One node changes

-- the states except for one are as before
pub record Changes (s s' : ℕ → State) (p : ℕ) (new : State) : Type 0 where
  pub here : s' p ≡ new
  pub there : (k : ℕ) → k ≢ p → s' k ≡ s k

module _ (n : ℕ) (r : List ℕ) (s s' : ℕ → State) (p : ℕ) (new : State) (changes : Changes s s' p new) where
  pub each_changed : ((i : ℕ) → IsNode n i → IsPlaced n r i (s i)) → IsPlaced n r p new → (i : ℕ) → IsNode n i → IsPlaced n r i (s' i)
  each_changed each placed i at = elim (cases_same i p) [
    | inl same ↦ subst (λ (k : ℕ). IsPlaced n r k (s' k)) (sym same) (subst (λ (x : State). IsPlaced n r p x) (sym changes.here) placed)
    | inr apart ↦ subst (λ (x : State). IsPlaced n r i x) (sym (changes.there i apart)) (each i at)
  ]

  -- what D says of each two nodes and the messages between them
  pub dialogs_changed : (D : ℕ → ℕ → State → State → List Message → Type 0) (bag bag' : List Message)
      → ((i j : ℕ) → IsNode n i → IsNode n j → i ≢ j → D i j (s i) (s j) (between r i j bag))
      → ((x : ℕ) → IsNode n x → x ≢ p → D p x (s p) (s x) (between r p x bag) → D p x new (s x) (between r p x bag'))
      → ((x : ℕ) → IsNode n x → x ≢ p → D x p (s x) (s p) (between r x p bag) → D x p (s x) new (between r x p bag'))
      → ((i j : ℕ) → i ≢ p → j ≢ p → between r i j bag' ≡ between r i j bag)
      → IsNode n p → (i j : ℕ) → IsNode n i → IsNode n j → i ≢ j → D i j (s' i) (s' j) (between r i j bag')
  dialogs_changed D bag bag' dialog mine theirs others within i j at_i at_j apart = elim (cases_same i p) [
    | inl is_i ↦
        let j_apart : j ≢ p = λ e. apart (is_i ∙ sym e) in
        subst (λ (k : ℕ). D k j (s' k) (s' j) (between r k j bag')) (sym is_i)
        (subst (λ (x : State). D p j x (s' j) (between r p j bag')) (sym changes.here)
        (subst (λ (x : State). D p j new x (between r p j bag')) (sym (changes.there j j_apart))
        (mine j at_j j_apart (dialog p j within at_j (λ e. j_apart (sym e))))))
    | inr i_apart ↦ elim (cases_same j p) [
      | inl is_j ↦
          subst (λ (k : ℕ). D i k (s' i) (s' k) (between r i k bag')) (sym is_j)
          (subst (λ (x : State). D i p (s' i) x (between r i p bag')) (sym changes.here)
          (subst (λ (x : State). D i p x new (between r i p bag')) (sym (changes.there i i_apart))
          (theirs i at_i i_apart (dialog i p at_i within i_apart))))
      | inr j_apart ↦
          subst (λ (x : State). D i j x (s' j) (between r i j bag')) (sym (changes.there i i_apart))
          (subst (λ (x : State). D i j (s i) x (between r i j bag')) (sym (changes.there j j_apart))
          (subst (λ (ms : List Message). D i j (s i) (s j) ms) (sym (others i j i_apart j_apart)) (dialog i j at_i at_j apart)))
    ]
  ]

  pub passed_changed : ((i j seq : ℕ) (mode : Mode) → IsNode n i → IsNode n j → i ≢ j → HasOwn (s i).phase seq mode → (IsTrue (set.contains (s i).awaited j) → ⊥) → LetsPass (s j) i seq mode)
      → ((x seq : ℕ) (mode : Mode) → IsNode n x → x ≢ p → HasOwn new.phase seq mode → (IsTrue (set.contains new.awaited x) → ⊥) → LetsPass (s x) p seq mode)
      → ((x seq : ℕ) (mode : Mode) → LetsPass (s p) x seq mode → LetsPass new x seq mode)
      → (i j seq : ℕ) (mode : Mode) → IsNode n i → IsNode n j → i ≢ j → HasOwn (s' i).phase seq mode → (IsTrue (set.contains (s' i).awaited j) → ⊥) → LetsPass (s' j) i seq mode
  passed_changed before passes passed i j seq mode at_i at_j apart own free = elim (cases_same i p) [
    | inl is_i ↦
        let j_apart : j ≢ p = λ e. apart (is_i ∙ sym e) in
        let now : s' i ≡ new = ap s' is_i ∙ changes.here in
        subst (λ (x : State). LetsPass x i seq mode) (sym (changes.there j j_apart))
        (subst (λ (k : ℕ). LetsPass (s j) k seq mode) (sym is_i)
        (passes j seq mode at_j j_apart (subst (λ (x : State). HasOwn x.phase seq mode) now own) (λ awaited. free (subst (λ (x : State). IsTrue (set.contains x.awaited j)) (sym now) awaited))))
    | inr i_apart ↦
        let as_before = changes.there i i_apart in
        let own' = subst (λ (x : State). HasOwn x.phase seq mode) as_before own in
        let free' : IsTrue (set.contains (s i).awaited j) → ⊥ = λ awaited. free (subst (λ (x : State). IsTrue (set.contains x.awaited j)) (sym as_before) awaited) in
        elim (cases_same j p) [
          | inl is_j ↦
              subst (λ (k : ℕ). LetsPass (s' k) i seq mode) (sym is_j) (subst (λ (x : State). LetsPass x i seq mode) (sym changes.here)
              (passed i seq mode (subst (λ (k : ℕ). LetsPass (s k) i seq mode) is_j (before i j seq mode at_i at_j apart own' free'))))
          | inr j_apart ↦ subst (λ (x : State). LetsPass x i seq mode) (sym (changes.there j j_apart)) (before i j seq mode at_i at_j apart own' free')
        ]
  ]

module _ {Lossy : Type 0} (n : ℕ) (r : List ℕ) (s s' : ℕ → State) (bag bag' : List Message) (p : ℕ) (new : State) (old : Protocol Lossy n r s bag) (changes : Changes s s' p new) where
  pub changed : IsPlaced n r p new
      → ((x : ℕ) → IsNode n x → x ≢ p → Dialog Lossy r p x (s p) (s x) (between r p x bag) → Dialog Lossy r p x new (s x) (between r p x bag'))
      → ((x : ℕ) → IsNode n x → x ≢ p → Dialog Lossy r x p (s x) (s p) (between r x p bag) → Dialog Lossy r x p (s x) new (between r x p bag'))
      → ((i j : ℕ) → i ≢ p → j ≢ p → between r i j bag' ≡ between r i j bag)
      → ((x seq : ℕ) (mode : Mode) → IsNode n x → x ≢ p → HasOwn new.phase seq mode → (IsTrue (set.contains new.awaited x) → ⊥) → LetsPass (s x) p seq mode)
      → ((x seq : ℕ) (mode : Mode) → LetsPass (s p) x seq mode → LetsPass new x seq mode)
      → IsNode n p → Protocol Lossy n r s' bag'
  changed placed mine theirs others passes passed within =
      record {
        each = each_changed n r s s' p new changes old.each placed;
        dialog = dialogs_changed n r s s' p new changes (Dialog Lossy r) bag bag' old.dialog mine theirs others within;
        passed = passed_changed n r s s' p new changes old.passed passes passed;
      }
