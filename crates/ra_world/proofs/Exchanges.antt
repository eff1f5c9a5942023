-- What holds of the automata of one name and of the messages under way even if messages were repeated. When one of two
-- nodes asks and the other answers, any copy of a REQUEST or a REPLY may be under way, an old one too. No number in
-- them is above that of the asker's own request, a REPLY to that one is from a node that lets it pass, and a node that
-- is awaited has a REQUEST under way to it, defers its REPLY, or has a REPLY under way, unless a message was lost.
use Rattle.std.proofs.Common.{◌≡◌, ◌≢◌, ◌⊎◌, ℕ, ◌<◌, ◌≤◌, List, [], ◌∷◌, Contains, Some, zero, suc, refl, sym, ap, ◌∙◌, subst, arith, inl, inr}
use Rattle.std.specs.Prelude.{IsTrue}
use Rattle.std.specs.FinSet as set
use Rattle.std.specs.FinMap as finmap
use Rattle.std.proofs.lemmas.List.Elements.{Contains-append_left, Contains-append_right, Contains-append_cases}
use Rattle.ra_stamp.specs.declared.mode.Mode.{Mode}
use Rattle.ra_stamp.specs.declared.message.Message.{Message}
use Rattle.ra_stamp.specs.declared.message.Message.TheVariants.{Request, Reply}
use Rattle.ra_automaton.specs.State.{State}
use Rattle.ra_automaton.specs.Steps.{Awaits, OwnGoesFirst}
use Rattle.ra_bag.specs.Bag.{TakesFirst}
use Rattle.ra_automaton.proofs.Apart.{cases_same}
use Rattle.ra_world.proofs.Dialogs.{between}
use Rattle.ra_world.proofs.Protocol.{IsNode, HasOwn, LetsPass, IsPlaced, Changes, each_changed, dialogs_changed, passed_changed}

-- the node has met the number, which is above the start value, and its own request, if it has one, has no lower one
pub record IsUsed (start : ℕ) (s : State) (seq : ℕ) : Type 0 where
  pub above : start < seq
  pub reached : seq ≤ s.highest
  pub not_later : (own : ℕ) (mode : Mode) → HasOwn s.phase own mode → seq ≤ own

-- a REQUEST that is under way is one that the node made, in the mode of its own request if that has the number
pub record WasMade (start : ℕ) (s : State) (seq : ℕ) (mode : Mode) : Type 0 where
  pub used : IsUsed start s seq
  pub same_mode : (own : Mode) → HasOwn s.phase seq own → own ≡ mode

-- a REPLY that is under way is to a number that the asker has met, and if its own request has that, the answerer lets it pass
pub record Grants (start : ℕ) (si sj : State) (i seq : ℕ) : Type 0 where
  pub above : start < seq
  pub reached : seq ≤ si.highest
  pub passes : (mode : Mode) → HasOwn si.phase seq mode → LetsPass sj i seq mode

-- the REPLY is deferred, since an own request goes first
pub record Holds (sj : State) (i seq : ℕ) (mode : Mode) : Type 0 where
  pub deferred : finmap.get sj.deferred i ≡ Some seq
  pub own_first : OwnGoesFirst sj.phase sj.me i seq mode

-- what an awaited REPLY waits for
abbrev pub Pending : Type 0 → List ℕ → ℕ → ℕ → State → List Message → ℕ → Mode → Type 0
Pending Lossy r i j sj ms seq mode =
    Lossy ⊎ (Contains ms (Request i j r mode seq) ⊎ (Holds sj i seq mode ⊎ Contains ms (Reply j i r seq)))

pub record Exchange (Lossy : Type 0) (start : ℕ) (r : List ℕ) (i j : ℕ) (si sj : State) (ms : List Message) : Type 0 where
  pub asked : (seq : ℕ) (mode : Mode) → Contains ms (Request i j r mode seq) → WasMade start si seq mode
  pub deferred : (seq : ℕ) → finmap.get sj.deferred i ≡ Some seq → IsUsed start si seq
  pub answered : (seq : ℕ) → Contains ms (Reply j i r seq) → Grants start si sj i seq
  pub pending : (seq : ℕ) (mode : Mode) → Awaits si j seq mode → Pending Lossy r i j sj ms seq mode

pub record Exchanges (Lossy : Type 0) (start n : ℕ) (r : List ℕ) (s : ℕ → State) (bag : List Message) : Type 0 where
  pub each : (i : ℕ) → IsNode n i → IsPlaced n r i (s i)
  pub risen : (i : ℕ) → IsNode n i → start ≤ (s i).highest
  pub dialog : (i j : ℕ) → IsNode n i → IsNode n j → i ≢ j → Exchange Lossy start r i j (s i) (s j) (between r i j bag)
  -- a node that is no longer awaited lets the request pass
  pub passed : (i j seq : ℕ) (mode : Mode) → IsNode n i → IsNode n j → i ≢ j → HasOwn (s i).phase seq mode → (IsTrue (set.contains (s i).awaited j) → ⊥) → LetsPass (s j) i seq mode

module _ {Lossy : Type 0} (start n : ℕ) (r : List ℕ) (s s' : ℕ → State) (bag bag' : List Message) (p : ℕ) (new : State) (old : Exchanges Lossy start n r s bag) (changes : Changes s s' p new) where
  pub exchanges_changed : IsPlaced n r p new → (s p).highest ≤ new.highest
      → ((x : ℕ) → IsNode n x → x ≢ p → Exchange Lossy start r p x (s p) (s x) (between r p x bag) → Exchange Lossy start r p x new (s x) (between r p x bag'))
      → ((x : ℕ) → IsNode n x → x ≢ p → Exchange Lossy start r x p (s x) (s p) (between r x p bag) → Exchange Lossy start r x p (s x) new (between r x p bag'))
      → ((i j : ℕ) → i ≢ p → j ≢ p → between r i j bag' ≡ between r i j bag)
      → ((x seq : ℕ) (mode : Mode) → IsNode n x → x ≢ p → HasOwn new.phase seq mode → (IsTrue (set.contains new.awaited x) → ⊥) → LetsPass (s x) p seq mode)
      → ((x seq : ℕ) (mode : Mode) → LetsPass (s p) x seq mode → LetsPass new x seq mode)
      → IsNode n p → Exchanges Lossy start n r s' bag'
  exchanges_changed placed more mine theirs others passes passed within =
      record {
        each = each_changed n r s s' p new changes old.each placed;
        risen = λ i at. elim (cases_same i p) [
          | inl same ↦ omega (arith, ap (λ (x : State). x.highest) (ap s' same ∙ changes.here), more, old.risen p within)
          | inr apart ↦ omega (arith, ap (λ (x : State). x.highest) (changes.there i apart), old.risen i at)
        ];
        dialog = dialogs_changed n r s s' p new changes (Exchange Lossy start r) bag bag' old.dialog mine theirs others within;
        passed = passed_changed n r s s' p new changes old.passed passes passed;
      }

-- ---- One dialog goes on

-- the asker has met no less, and has no own request that it had not
pub record KeepsAsker (si si' : State) : Type 0 where
  pub more : si.highest ≤ si'.highest
  pub own : (seq : ℕ) (mode : Mode) → HasOwn si'.phase seq mode → HasOwn si.phase seq mode

pub used_still : (start : ℕ) (si si' : State) (seq : ℕ) → KeepsAsker si si' → IsUsed start si seq → IsUsed start si' seq
used_still start si si' seq keeps used = record { above = used.above; reached = omega (arith, keeps.more, used.reached); not_later = λ own mode has. used.not_later own mode (keeps.own own mode has) }

pub made_still : (start : ℕ) (si si' : State) (seq : ℕ) (mode : Mode) → KeepsAsker si si' → WasMade start si seq mode → WasMade start si' seq mode
made_still start si si' seq mode keeps made = record { used = used_still start si si' seq keeps made.used; same_mode = λ own has. made.same_mode own (keeps.own seq own has) }

pub grants_still : (start : ℕ) (si si' sj sj' : State) (i seq : ℕ) → KeepsAsker si si' → ((mode : Mode) → LetsPass sj i seq mode → LetsPass sj' i seq mode) → Grants start si sj i seq → Grants start si' sj' i seq
grants_still start si si' sj sj' i seq keeps passes grants =
    record { above = grants.above; reached = omega (arith, keeps.more, grants.reached); passes = λ mode has. passes mode (grants.passes mode (keeps.own seq mode has)) }

-- no message comes, and no node is deferred that was not
module _ {Lossy : Type 0} (start : ℕ) (r : List ℕ) (i j : ℕ) (si si' sj sj' : State) (ms ms' : List Message) (old : Exchange Lossy start r i j si sj ms) where
  pub exchange_kept : KeepsAsker si si' → ((seq : ℕ) (mode : Mode) → LetsPass sj i seq mode → LetsPass sj' i seq mode) → ((seq : ℕ) → finmap.get sj'.deferred i ≡ Some seq → finmap.get sj.deferred i ≡ Some seq)
      → ((m : Message) → Contains ms' m → Contains ms m) → ((seq : ℕ) (mode : Mode) → Awaits si' j seq mode → Pending Lossy r i j sj' ms' seq mode)
      → Exchange Lossy start r i j si' sj' ms'
  exchange_kept keeps passes deferred fewer pending =
      record {
        asked = λ seq mode at. made_still start si si' seq mode keeps (old.asked seq mode (fewer (Request i j r mode seq) at));
        deferred = λ seq is. used_still start si si' seq keeps (old.deferred seq (deferred seq is));
        answered = λ seq at. grants_still start si si' sj sj' i seq keeps (passes seq) (old.answered seq (fewer (Reply j i r seq) at));
        pending = pending;
      }

-- the same messages and deferrals exist, or more
pub pending_still : {Lossy : Type 0} (r : List ℕ) (i j : ℕ) (sj sj' : State) (ms ms' : List Message) (seq : ℕ) (mode : Mode) → (Holds sj i seq mode → Holds sj' i seq mode) → ((m : Message) → Contains ms m → Contains ms' m)
    → Pending Lossy r i j sj ms seq mode → Pending Lossy r i j sj' ms' seq mode
pending_still {Lossy} r i j sj sj' ms ms' seq mode holds more was = elim was [
  | inl lossy ↦ inl lossy
  | inr x ↦ elim x [
    | inl asks ↦ inr (inl (more (Request i j r mode seq) asks))
    | inr y ↦ elim y [
      | inl held ↦ inr (inr (inl (holds held)))
      | inr answers ↦ inr (inr (inr (more (Reply j i r seq) answers)))
    ]
  ]
]

-- ---- What is taken

pub taken_or_left : (ms : List Message) (m : Message) (rest : List Message) (x : Message) → TakesFirst ms m rest → Contains ms x → (m ≡ x) ⊎ Contains rest x
taken_or_left ms m rest x takes at =
    elim (Contains-append_cases takes.prefix (m ∷ takes.suffix) x (subst (λ (xs : List Message). Contains xs x) takes.old_is at)) [
      | inl earlier ↦ inr (subst (λ (xs : List Message). Contains xs x) (sym takes.new_is) (Contains-append_left takes.prefix takes.suffix x earlier))
      | inr behind ↦ elim (Contains-append_cases (m ∷ []) takes.suffix x behind) [
        | inl here ↦ inl (only m x here)
        | inr later ↦ inr (subst (λ (xs : List Message). Contains xs x) (sym takes.new_is) (Contains-append_right takes.prefix takes.suffix x later))
      ]
    ]
  where
    only : (m x : Message) → Contains (m ∷ []) x → m ≡ x
    only m x (zero, lt, is) = is
    only m x (suc k, lt, is) = absurd (omega (arith, lt))

pub was_there : (ms : List Message) (m : Message) (rest : List Message) (x : Message) → TakesFirst ms m rest → Contains rest x → Contains ms x
was_there ms m rest x takes at =
    subst (λ (xs : List Message). Contains xs x) (sym takes.old_is)
    (elim (Contains-append_cases takes.prefix takes.suffix x (subst (λ (xs : List Message). Contains xs x) takes.new_is at)) [
      | inl earlier ↦ Contains-append_left takes.prefix (m ∷ takes.suffix) x earlier
      | inr later ↦ Contains-append_right takes.prefix (m ∷ takes.suffix) x (Contains-append_right (m ∷ []) takes.suffix x later)
    ])

pub was_first : (ms : List Message) (m : Message) (rest : List Message) → TakesFirst ms m rest → Contains ms m
was_first ms m rest takes =
    subst (λ (xs : List Message). Contains xs m) (sym takes.old_is) (Contains-append_right takes.prefix (m ∷ takes.suffix) m (0, omega arith, refl))
