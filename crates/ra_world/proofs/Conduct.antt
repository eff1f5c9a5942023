-- What holds of the automata of one name, one at each node, and of the messages under way: what holds also if messages were
-- repeated and requests withdrawn, and as long as none was, that each dialog has one message at most. Each step keeps it.
use Rattle.std.proofs.Common.{◌≡◌, ◌≢◌, ◌⊎◌, ℕ, Bool, List, [], ◌∷◌, ◌++◌, Contains, sym, ap, ◌∙◌, subst, inl, inr}
use Rattle.std.proofs.lemmas.List.{append-nil}
use Rattle.ra_stamp.specs.declared.mode.Mode.{Mode}
use Rattle.ra_stamp.specs.declared.message.Message.{Message}
use Rattle.ra_stamp.specs.declared.message.Message.TheVariants.{Request, Reply}
use Rattle.ra_stamp.specs.Message.{from_of, to_of, seq_of}
use Rattle.ra_automaton.specs.State.{State}
use Rattle.ra_automaton.specs.Steps.{Awaits, RequestStep, LeaveStep, WithdrawStep, Defers, RepliesAtOnce, IsStray, TakesReply}
use Rattle.ra_bag.specs.Bag.{TakesFirst}
use Rattle.ra_automaton.proofs.Apart.{cases_same}
use Rattle.ra_automaton.proofs.Ending.{leave_ends, withdraw_ends}
use Rattle.ra_world.proofs.AutomatonSteps.{higher_state}
use Rattle.ra_world.proofs.Dialogs.{between}
use Rattle.ra_world.proofs.Protocol.{IsNode, IsPlaced, Protocol, Changes}
use Rattle.ra_world.proofs.Asking.{request_kept, leave_kept, rise_kept}
use Rattle.ra_world.proofs.Receiving.{request_taken, reply_taken, message_lost, undisturbed}
use Rattle.ra_world.proofs.Exchanges.{Exchanges}
use Rattle.ra_world.proofs.ExchangesAsking.{request_exchanged, end_exchanged, rise_exchanged, not_a_reply}
use Rattle.ra_world.proofs.ExchangesReceiving.{request_came, reply_came, message_gone, message_copied, exchanges_undisturbed}

-- messages are repeated, and requests withdrawn, only if Copied is so
pub record Conduct (Lossy Copied : Type 0) (start n : ℕ) (r : List ℕ) (s : ℕ → State) (bag : List Message) : Type 0 where
  pub exchanges : Exchanges Lossy start n r s bag
  pub exact : (Copied → ⊥) → Protocol Lossy n r s bag

module _ {Lossy Copied : Type 0} (start n : ℕ) (r : List ℕ) (s s' : ℕ → State) (bag : List Message) (p : ℕ) (new : State) (old : Conduct Lossy Copied start n r s bag) (within : IsNode n p) (changes : Changes s s' p new) where
  pub request_conduct : (mode : Mode) (sends : List Message) (entered : Bool) → RequestStep (s p) mode sends entered new → IsPlaced n r p new → Conduct Lossy Copied start n r s' (bag ++ sends)
  request_conduct mode sends entered step placed =
      record {
        exchanges = request_exchanged start n r s s' bag p new old.exchanges within changes mode sends entered step placed;
        exact = λ none. request_kept n r s s' bag p new (old.exact none) within changes mode sends entered step placed;
      }

  pub leave_conduct : (sends : List Message) → LeaveStep (s p) sends new → IsPlaced n r p new → Conduct Lossy Copied start n r s' (bag ++ sends)
  leave_conduct sends step placed =
      record {
        exchanges = end_exchanged start n r s s' bag p new old.exchanges within changes sends (leave_ends (s p) sends new step) placed;
        exact = λ none. leave_kept n r s s' bag p new (old.exact none) within changes sends step placed;
      }

  -- after a withdrawal a REQUEST is under way or deferred that belongs to no request of the node any more
  pub withdraw_conduct : Copied → (sends : List Message) → WithdrawStep (s p) sends new → IsPlaced n r p new → Conduct Lossy Copied start n r s' (bag ++ sends)
  withdraw_conduct copied sends step placed =
      record {
        exchanges = end_exchanged start n r s s' bag p new old.exchanges within changes sends (withdraw_ends (s p) sends new step) placed;
        exact = λ none. absurd (none copied);
      }

  -- the node forgets names
  pub rise_conduct : (number : ℕ) → new ≡ higher_state (s p) number → IsPlaced n r p new → Conduct Lossy Copied start n r s' bag
  rise_conduct number is placed =
      record {
        exchanges = rise_exchanged start n r s s' bag p new old.exchanges within changes number is placed;
        exact = λ none. rise_kept n r s s' bag p new (old.exact none) within changes number is placed;
      }

module _ {Lossy Copied : Type 0} (start n : ℕ) (r : List ℕ) (s s' : ℕ → State) (bag rest : List Message) (p x : ℕ) (new : State) (old : Conduct Lossy Copied start n r s bag) (within : IsNode n p) (x_at : IsNode n x) (x_apart : x ≢ p) (changes : Changes s s' p new)
    (placed : IsPlaced n r p new) (sends : List Message) where
  pub request_taken_conduct : (seq : ℕ) (mode : Mode) → TakesFirst bag (Request x p r mode seq) rest → Defers (s p) x seq mode sends new ⊎ RepliesAtOnce (s p) x seq mode sends new → Conduct Lossy Copied start n r s' (rest ++ sends)
  request_taken_conduct seq mode takes step =
      record {
        exchanges = request_came start n r s s' bag rest p x new old.exchanges within x_at x_apart changes placed sends seq mode takes step;
        exact = λ none. request_taken n r s s' bag rest p x new (old.exact none) within x_at x_apart changes placed sends seq mode takes step;
      }

  -- a stray changes nothing
  stray_came : (seq : ℕ) (entered : Bool) → TakesFirst bag (Reply x p r seq) rest → sends ≡ [] → IsStray (s p) x seq entered new → Exchanges Lossy start n r s' (rest ++ sends)
  stray_came seq entered takes nothing stray =
      exchanges_undisturbed start n r s s' rest (rest ++ sends) same (λ i j. ap (λ (ms : List Message). between r i j (rest ++ ms)) nothing ∙ ap (between r i j) (append-nil rest))
      (message_gone start n r s bag rest (Reply x p r seq) old.exchanges takes
      (λ i j k mode awaits is. absurd (not_a_reply i j x p k seq r r mode (sym is)))
      (λ i j k mode awaits is. absurd (stray.not_awaited mode (moved i j k mode awaits (ap from_of is) (ap to_of is) (ap seq_of is)))))
    where
      same : (i : ℕ) → s' i ≡ s i
      same i = elim (cases_same i p) [
        | inl here ↦ ap s' here ∙ changes.here ∙ stray.new_is ∙ ap s (sym here)
        | inr apart ↦ changes.there i apart
      ]

      moved : (i j k : ℕ) (mode : Mode) → Awaits (s i) j k mode → x ≡ j → p ≡ i → seq ≡ k → Awaits (s p) x seq mode
      moved i j k mode awaits is_j is_i is_k =
          subst (λ (q : ℕ). Awaits (s p) x q mode) (sym is_k) (subst (λ (q : ℕ). Awaits (s p) q k mode) (sym is_j) (subst (λ (q : ℕ). Awaits (s q) j k mode) (sym is_i) awaits))

  pub reply_taken_conduct : (seq : ℕ) (entered : Bool) → TakesFirst bag (Reply x p r seq) rest → sends ≡ [] → TakesReply (s p) x seq entered new → Conduct Lossy Copied start n r s' (rest ++ sends)
  reply_taken_conduct seq entered takes nothing step =
      record {
        exchanges = elim step [
          | inl stray ↦ stray_came seq entered takes nothing stray
          | inr came ↦ reply_came start n r s s' bag rest p x new old.exchanges within x_at x_apart changes placed sends seq entered takes nothing came.0 came.1
        ];
        exact = λ none. reply_taken n r s s' bag rest p x new (old.exact none) within x_at x_apart changes placed sends seq entered takes nothing step;
      }

pub lost_conduct : {Lossy Copied : Type 0} → Lossy → (start n : ℕ) (r : List ℕ) (s : ℕ → State) (bag rest : List Message) (m : Message) → Conduct Lossy Copied start n r s bag → TakesFirst bag m rest → Conduct Lossy Copied start n r s rest
lost_conduct {Lossy} {Copied} lossy start n r s bag rest m old takes =
    record {
      exchanges = message_gone start n r s bag rest m old.exchanges takes (λ _ _ _ _ _ _. lossy) (λ _ _ _ _ _ _. lossy);
      exact = λ none. message_lost lossy n r s bag rest m (old.exact none) takes;
    }

pub copied_conduct : {Lossy Copied : Type 0} → Copied → (start n : ℕ) (r : List ℕ) (s : ℕ → State) (bag : List Message) (m : Message) → Contains bag m → Conduct Lossy Copied start n r s bag → Conduct Lossy Copied start n r s (bag ++ m ∷ [])
copied_conduct {Lossy} {Copied} copied start n r s bag m there old =
    record { exchanges = message_copied start n r s bag m there old.exchanges; exact = λ none. absurd (none copied) }

pub undisturbed_conduct : {Lossy Copied : Type 0} (start n : ℕ) (r : List ℕ) (s s' : ℕ → State) (bag bag' : List Message) → ((i : ℕ) → s' i ≡ s i) → ((i j : ℕ) → between r i j bag' ≡ between r i j bag) → Conduct Lossy Copied start n r s bag → Conduct Lossy Copied start n r s' bag'
undisturbed_conduct {Lossy} {Copied} start n r s s' bag bag' same between_same old =
    record {
      exchanges = exchanges_undisturbed start n r s s' bag bag' same between_same old.exchanges;
      exact = λ none. undisturbed n r s s' bag bag' same between_same (old.exact none);
    }
