-- What the refusals of each call tell, and the steps that messages lead to.
use Rattle.std.proofs.Common.{◌≡◌, ◌↔◌, ◌⊎◌, ℕ, ◌<◌, Bool, false, List, [], Result, Ok, Err, MatchResult, IsErrOf, refl, sym, ◌∙◌, subst, arith, inl, inr}
use Rattle.std.specs.Prelude.{IsTrue, IsOkUnless}
use Rattle.std.proofs.lemmas.Bool.{true≢false}
use Rattle.ra_stamp.specs.declared.mode.Mode.{Mode}
use Rattle.ra_stamp.specs.declared.message.Message.{Message}
use Rattle.ra_stamp.specs.declared.message.Message.TheVariants.{Request, Reply}
use Rattle.ra_stamp.specs.Message.{from_of}
use Rattle.ra_automaton.specs.declared.error.ReceiveError.{ReceiveError}
use Rattle.ra_automaton.specs.declared.error.ReceiveError.TheVariants.{WrongNode, Stranger, Memory}
use Rattle.ra_automaton.specs.State.{State, IsOther, IsForNode}
use Rattle.ra_automaton.specs.Steps.{OwnGoesFirst, Defers, RepliesAtOnce, TakesReply, ReceiveStep, LetsEnter}
use Rattle.ra_automaton.specs.Calls.{ChecksAddress}
use Rattle.ra_automaton.specs.Memory.{IsRepliedAtOnce}

same_error : {X E : Type 0} (e f : E) → IsErrOf {T = X} (Err e) f → e ≡ f
same_error e f h = cc

ok_apart : {X E : Type 0} (x : X) (e : E) → Ok x ≡ Err e → ⊥
ok_apart x e h = cc

-- ---- A message

-- what the end of a message tells
pub record ReceiveTells {X : Type 0} (result : Result X ReceiveError) (me nodes : ℕ) (message : Message) : Type 0 where
  pub address : ChecksAddress me nodes message result
  pub allowed : IsOkUnless result Memory ↔ IsForNode me nodes message

wrong_node_apart : WrongNode ≡ Memory → ⊥
wrong_node_apart e = cc

stranger_apart : Stranger ≡ Memory → ⊥
stranger_apart e = cc

-- the sender of a message for a node is no stranger
no_stranger : (me nodes : ℕ) (message : Message) → IsForNode me nodes message → (from_of message ≡ me) ⊎ (nodes < from_of message) → ⊥
no_stranger me nodes message is either =
    elim either [
      | inl same ↦ is.from.other same
      | inr above ↦ absurd (omega (arith, above, is.from.last))
    ]

module _ {X : Type 0} (me nodes : ℕ) (message : Message) where
  pub received_tells : (result : Result X ReceiveError) (P : X → Type 0) (Same : Type 0) → IsForNode me nodes message → MatchResult result P (λ fault. (fault ≡ Memory) × Same) → ReceiveTells result me nodes message
  received_tells (Ok x) P Same is ended =
      record {
        address = record {
          wrong_node = (λ e. absurd (ok_apart x WrongNode e), λ wrong. absurd (wrong is.to));
          stranger = (λ e. absurd (ok_apart x Stranger e), λ h. absurd (no_stranger me nodes message is h.1));
        };
        allowed = (λ _. is, λ _. tt);
      }
  received_tells (Err fault) P Same is ended =
      record {
        address = record {
          wrong_node = (λ e. absurd (wrong_node_apart (sym (same_error fault WrongNode e) ∙ ended.0)), λ wrong. absurd (wrong is.to));
          stranger = (λ e. absurd (stranger_apart (sym (same_error fault Stranger e) ∙ ended.0)), λ h. absurd (no_stranger me nodes message is h.1));
        };
        allowed = (λ _. is, λ _. ended.0);
      }

-- ---- A REPLY that lets a node enter

pub reply_enters : (old : State) (message : Message) (from to number : ℕ) (name : List ℕ) (entered : Bool) (new : State) → message ≡ Reply from to name number → TakesReply old from number entered new → IsTrue entered ↔ LetsEnter old message
reply_enters old message from to number name entered new is takes =
    subst (λ (m : Message). IsTrue entered ↔ LetsEnter old m) (sym is)
    (elim takes [
      | inl stray ↦ (λ yes. absurd (true≢false (sym yes ∙ stray.entered_is)), λ enters. absurd (stray.not_awaited enters.0 enters.1))
      | inr awaited ↦ elim awaited.1 [
        | inl enters ↦ (λ _. (awaited.0, enters.awaits, enters.last), λ _. enters.entered_is)
        | inr waits ↦ (λ yes. absurd (true≢false (sym yes ∙ waits.entered_is)), λ enters. absurd (waits.not_last enters.2))
      ]
    ])

pub request_enters : (old : State) (message : Message) (from to number : ℕ) (name : List ℕ) (mode : Mode) → message ≡ Request from to name mode number → IsTrue false ↔ LetsEnter old message
request_enters old message from to number name mode is = subst (λ (m : Message). IsTrue false ↔ LetsEnter old m) (sym is) (λ yes. absurd (true≢false (sym yes)), λ enters. absurd enters)

-- ---- The step of a message, by its kind

module _ (old : State) (message : Message) (from to number : ℕ) (name : List ℕ) (mode : Mode) (is : message ≡ Request from to name mode number) where
  pub requested_by : IsForNode old.me old.nodes message → IsOther old from
  requested_by addressed = subst (λ (m : Message). IsOther old (from_of m)) is addressed.from

  pub request_step : (sends : List Message) (new : State) → Defers old from number mode sends new ⊎ RepliesAtOnce old from number mode sends new → ReceiveStep old message sends false new
  request_step sends new takes = subst (λ (m : Message). ReceiveStep old m sends false new) (sym is) (refl, takes)

  pub replied_at_once : (OwnGoesFirst old.phase old.me from number mode → ⊥) → IsRepliedAtOnce old message
  replied_at_once not_first = subst (λ (m : Message). IsRepliedAtOnce old m) (sym is) not_first

pub reply_step : (old : State) (message : Message) (from to number : ℕ) (name : List ℕ) (sends : List Message) (entered : Bool) (new : State) → message ≡ Reply from to name number → sends ≡ [] → TakesReply old from number entered new
    → ReceiveStep old message sends entered new
reply_step old message from to number name sends entered new is none takes = subst (λ (m : Message). ReceiveStep old m sends entered new) (sym is) (none, takes)
