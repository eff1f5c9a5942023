-- A request, its end, and a rise of numbers keep what holds of all dialogs, also if messages were repeated.
use Rattle.std.proofs.Common.{◌≡◌, ◌≢◌, ℕ, zero, suc, ◌+◌, ◌<◌, ◌≤◌, Bool, List, [], ◌∷◌, ◌++◌, Contains, map, Option, Some, None, refl, sym, ap, ◌∙◌, subst, arith, inl, inr}
use Rattle.std.specs.Prelude.{IsTrue}
use Rattle.std.specs.FinSet as set
use Rattle.std.specs.FinMap as finmap
use Rattle.std.proofs.lemmas.List.Elements.{Contains-append_left, Contains-append_right, Contains-append_cases, Contains-push, Contains-push_cases}
use Rattle.ra_stamp.specs.declared.mode.Mode.{Mode}
use Rattle.ra_stamp.specs.declared.message.Message.{Message}
use Rattle.ra_stamp.specs.declared.message.Message.TheVariants.{Request, Reply}
use Rattle.ra_stamp.specs.Message.{seq_of}
use Rattle.ra_automaton.specs.State.{State}
use Rattle.ra_automaton.specs.Steps.{others_of, Awaits, RequestStep}
use Rattle.ra_automaton.proofs.Ending.{EndStep}
use Rattle.ra_world.proofs.Dialogs.{between, reply_for, requests_to_one, requests_of_others, replies_to_one, replies_of_others}
use Rattle.ra_world.proofs.Protocol.{IsNode, HasOwn, LetsPass, IsPlaced, Changes}
use Rattle.ra_world.proofs.AutomatonSteps.{idle_has_none, idle_goes_last, awaits_has, requests_are, all_asked, passes_after_request, own_after_request, higher_after_request, replies_are, idle_after_end, none_deferred, passes_after_end, higher_state, passes_higher}
use Rattle.ra_world.proofs.Exchanges.{IsUsed, Exchange, Exchanges, exchanges_changed, exchange_kept, grants_still, pending_still}
use Rattle.ra_world.proofs.Asking.{more_between, none_between}

-- ---- Messages

abbrev mode_of_request : Mode → Message → Mode
mode_of_request d (Request from to name mode seq) = mode
mode_of_request d (Reply from to name seq) = d

pub same_request : (i j : ℕ) (r : List ℕ) (mode mode' : Mode) (seq seq' : ℕ) → Request i j r mode seq ≡ Request i j r mode' seq' → (seq ≡ seq') × (mode ≡ mode')
same_request i j r mode mode' seq seq' e = (ap seq_of e, ap (mode_of_request mode) e)

pub not_a_reply : (from to from' to' seq seq' : ℕ) (name name' : List ℕ) (mode : Mode) → Request from to name mode seq ≡ Reply from' to' name' seq' → ⊥
not_a_reply from to from' to' seq seq' name name' mode e = cc

-- the REPLY to one deferred node is the only message to it
in_reply : (r : List ℕ) (p x : ℕ) (o : Option ℕ) (m : Message) → Contains (reply_for r p x o) m → (k : ℕ) × (o ≡ Some k) × (Reply p x r k ≡ m)
in_reply r p x None m (k, lt, is) = absurd (omega (arith, lt))
in_reply r p x (Some k) m (zero, lt, is) = (k, refl, is)
in_reply r p x (Some k) m (suc j, lt, is) = absurd (omega (arith, lt))

module _ {Lossy : Type 0} (start n : ℕ) (r : List ℕ) (s s' : ℕ → State) (bag : List Message) (p : ℕ) (new : State) (old : Exchanges Lossy start n r s bag) (within : IsNode n p) (changes : Changes s s' p new) where
  -- ---- A request

  module _ (mode : Mode) (sends : List Message) (entered : Bool) (step : RequestStep (s p) mode sends entered new) (placed : IsPlaced n r p new) where
    abbrev seq : ℕ
    seq = (s p).highest + 1

    here : IsPlaced n r p (s p)
    here = old.each p within

    sends_are : sends ≡ map (λ o. Request p o r mode seq) (others_of p n)
    sends_are = requests_are n r p (s p) new here within mode sends entered step

    asks_all : (x : ℕ) → IsNode n x → x ≢ p → Awaits new x seq mode × (new.deferred ≡ (s p).deferred) × (new.me ≡ (s p).me) × (new.highest ≡ seq)
    asks_all = all_asked n r p (s p) new here within mode sends entered step

    lets_pass : (x k : ℕ) (m : Mode) → LetsPass (s p) x k m → LetsPass new x k m
    lets_pass = passes_after_request n r p (s p) new here within mode sends entered step

    own : (k : ℕ) (m : Mode) → HasOwn new.phase k m → (seq ≡ k) × (mode ≡ m)
    own = own_after_request n r p (s p) new here within mode sends entered step

    used_before : (x k : ℕ) → IsNode n x → x ≢ p → IsUsed start (s p) k → IsUsed start new k
    used_before x k at apart used =
        record { above = used.above; reached = omega (arith, used.reached, (asks_all x at apart).3); not_later = λ q m has. omega (arith, used.reached, (own q m has).0) }

    mine : (x : ℕ) → IsNode n x → x ≢ p → Exchange Lossy start r p x (s p) (s x) (between r p x bag) → Exchange Lossy start r p x new (s x) (between r p x (bag ++ sends))
    mine x at apart d =
        let ms = between r p x bag in
        let asks = Request p x r mode seq in
        let asked : between r p x sends ≡ asks ∷ [] = ap (between r p x) sends_are ∙ requests_to_one r p x n mode seq at.0 at.1 apart in
        subst (λ (xs : List Message). Exchange Lossy start r p x new (s x) xs) (sym (more_between r p x bag sends (asks ∷ []) asked)) (record {
          asked = λ k m there. elim (Contains-push_cases ms asks (Request p x r m k) there) [
            | inl before ↦
                let made = d.asked k m before in
                record { used = used_before x k at apart made.used; same_mode = λ q has. absurd (omega (arith, made.used.reached, (own k q has).0)) }
            | inr same ↦
                let is = same_request p x r mode m seq k same in
                record {
                  used = record { above = omega (arith, is.0, old.risen p within); reached = omega (arith, is.0, (asks_all x at apart).3); not_later = λ q q' has. omega (arith, is.0, (own q q' has).0) };
                  same_mode = λ q has. sym (own k q has).1 ∙ is.1;
                }
          ];
          deferred = λ k is. used_before x k at apart (d.deferred k is);
          answered = λ k there. elim (Contains-push_cases ms asks (Reply x p r k) there) [
            | inl before ↦
                let grants = d.answered k before in
                record { above = grants.above; reached = omega (arith, grants.reached, (asks_all x at apart).3); passes = λ m has. absurd (omega (arith, grants.reached, (own k m has).0)) }
            | inr same ↦ absurd (not_a_reply p x x p seq k r r mode same)
          ];
          pending = λ k m awaits.
              let is = own k m (awaits_has new x k m awaits) in
              inr (inl (subst (λ (q : ℕ). Contains (ms ++ asks ∷ []) (Request p x r m q)) is.0 (subst (λ (q : Mode). Contains (ms ++ asks ∷ []) (Request p x r q seq)) is.1 (Contains-push ms asks))));
        })

    theirs : (x : ℕ) → IsNode n x → x ≢ p → Exchange Lossy start r x p (s x) (s p) (between r x p bag) → Exchange Lossy start r x p (s x) new (between r x p (bag ++ sends))
    theirs x at apart d =
        let ms = between r x p bag in
        let same = none_between r x p bag sends (ap (between r x p) sends_are ∙ requests_of_others r r x p p n mode seq (λ e _. apart e)) in
        let kept = (asks_all x at apart).1 in
        subst (λ (xs : List Message). Exchange Lossy start r x p (s x) new xs) (sym same)
        (exchange_kept start r x p (s x) (s x) (s p) new ms ms d (record { more = omega arith; own = λ _ _ has. has }) (lets_pass x)
        (λ k is. sym (ap (λ (q : finmap.FinMap _ ℕ). finmap.get q x) kept) ∙ is) (λ _ there. there)
        (λ k m awaits. pending_still r x p (s p) new ms ms k m (λ held. absurd (idle_goes_last (s p).phase (s p).me x k m step.idle held.own_first)) (λ _ there. there) (d.pending k m awaits)))

    pub request_exchanged : Exchanges Lossy start n r s' (bag ++ sends)
    request_exchanged =
        exchanges_changed start n r s s' bag (bag ++ sends) p new old changes placed (higher_after_request n r p (s p) new here within mode sends entered step) mine theirs
        (λ i j i_apart j_apart. none_between r i j bag sends (ap (between r i j) sends_are ∙ requests_of_others r r i j p n mode seq (λ e _. i_apart e)))
        (λ x k m at apart has free. absurd (free (asks_all x at apart).0.awaited))
        lets_pass within

  -- ---- The end of a request

  module _ (sends : List Message) (step : EndStep (s p) sends new) (placed : IsPlaced n r p new) where
    abbrev held : IsPlaced n r p (s p)
    held = old.each p within

    sent : sends ≡ map (λ e. Reply p e.0 r e.1) (finmap.entries (s p).deferred)
    sent = replies_are n r p (s p) new held sends step

    idle : (k : ℕ) (m : Mode) → HasOwn new.phase k m → ⊥
    idle k m = idle_has_none new.phase k m (idle_after_end n r p (s p) new held sends step)

    passes_now : (x k : ℕ) (m : Mode) → k ≤ (s p).highest → LetsPass new x k m
    passes_now = passes_after_end n r p (s p) new held sends step

    end_mine : (x : ℕ) → IsNode n x → x ≢ p → Exchange Lossy start r p x (s p) (s x) (between r p x bag) → Exchange Lossy start r p x new (s x) (between r p x (bag ++ sends))
    end_mine x at apart d =
        let ms = between r p x bag in
        let same = none_between r p x bag sends (ap (between r p x) sent ∙ replies_of_others r r p x p (finmap.entries (s p).deferred) (λ e _. apart e)) in
        subst (λ (xs : List Message). Exchange Lossy start r p x new (s x) xs) (sym same)
        (exchange_kept start r p x (s p) new (s x) (s x) ms ms d (record { more = omega (arith, step.highest_is); own = λ k m has. absurd (idle k m has) })
        (λ _ _ pass. pass) (λ _ is. is) (λ _ there. there) (λ k m awaits. absurd (idle k m (awaits_has new x k m awaits))))

    left : (x : ℕ) (o : Option ℕ) → finmap.get (s p).deferred x ≡ o → Exchange Lossy start r x p (s x) (s p) (between r x p bag) → Exchange Lossy start r x p (s x) new (between r x p bag ++ reply_for r p x o)
    left x o e d =
        let ms = between r x p bag in
        let more = reply_for r p x o in
        record {
          asked = λ k m there. elim (Contains-append_cases ms more (Request x p r m k) there) [
            | inl before ↦ d.asked k m before
            | inr reply ↦ let (q, _, is) = in_reply r p x o (Request x p r m k) reply in absurd (not_a_reply x p p x k q r r m (sym is))
          ];
          deferred = λ k is. absurd (none_some k (sym (none_deferred n r p (s p) new held sends step x) ∙ is));
          answered = λ k there. elim (Contains-append_cases ms more (Reply p x r k) there) [
            | inl before ↦
                grants_still start (s x) (s x) (s p) new x k (record { more = omega arith; own = λ _ _ has. has }) (λ m pass. passes_now x k m pass.reached) (d.answered k before)
            | inr reply ↦
                let (q, was, is) = in_reply r p x o (Reply p x r k) reply in
                let same : q ≡ k = ap seq_of is in
                record {
                  above = subst (λ (z : ℕ). start < z) same (d.deferred q (e ∙ was)).above;
                  reached = subst (λ (z : ℕ). z ≤ (s x).highest) same (d.deferred q (e ∙ was)).reached;
                  passes = λ m _. passes_now x k m (subst (λ (z : ℕ). z ≤ (s p).highest) same (held.consistent.deferred_numbers x q (e ∙ was)).1);
                }
          ];
          pending = λ k m awaits. elim (d.pending k m awaits) [
            | inl lossy ↦ inl lossy
            | inr y ↦ elim y [
              | inl asks ↦ inr (inl (Contains-append_left ms more (Request x p r m k) asks))
              | inr z ↦ elim z [
                | inl holds ↦
                    inr (inr (inr (Contains-append_right ms more (Reply p x r k)
                    (subst (λ (q : Option ℕ). Contains (reply_for r p x q) (Reply p x r k)) (sym holds.deferred ∙ e) (0, omega arith, refl)))))
                | inr answers ↦ inr (inr (inr (Contains-append_left ms more (Reply p x r k) answers)))
              ]
            ]
          ];
        }
      where
        none_some : (k : ℕ) → ◌≡◌ {A = Option ℕ} None (Some k) → ⊥
        none_some k e = cc

    end_theirs : (x : ℕ) → IsNode n x → x ≢ p → Exchange Lossy start r x p (s x) (s p) (between r x p bag) → Exchange Lossy start r x p (s x) new (between r x p (bag ++ sends))
    end_theirs x at apart d =
        let o = finmap.get (s p).deferred x in
        subst (λ (xs : List Message). Exchange Lossy start r x p (s x) new xs)
        (sym (more_between r x p bag sends (reply_for r p x o) (ap (between r x p) sent ∙ replies_to_one r p x (s p).deferred)))
        (left x o refl d)

    pub end_exchanged : Exchanges Lossy start n r s' (bag ++ sends)
    end_exchanged =
        exchanges_changed start n r s s' bag (bag ++ sends) p new old changes placed (omega (arith, step.highest_is)) end_mine end_theirs
        (λ i j i_apart j_apart. none_between r i j bag sends (ap (between r i j) sent ∙ replies_of_others r r i j p (finmap.entries (s p).deferred) (λ e _. j_apart e)))
        (λ x k m at apart has free. absurd (idle k m has))
        (λ x k m pass. passes_now x k m pass.reached)
        within

  -- ---- The highest number rises, and nothing else changes

  module _ (number : ℕ) (is : new ≡ higher_state (s p) number) (placed : IsPlaced n r p new) where
    abbrev high : State
    high = higher_state (s p) number

    rise_mine : (x : ℕ) → Exchange Lossy start r p x (s p) (s x) (between r p x bag) → Exchange Lossy start r p x new (s x) (between r p x bag)
    rise_mine x d =
        let ms = between r p x bag in
        subst (λ (t : State). Exchange Lossy start r p x t (s x) ms) (sym is)
        (exchange_kept start r p x (s p) high (s x) (s x) ms ms d (record { more = omega arith; own = λ _ _ has. has }) (λ _ _ pass. pass) (λ _ at. at) (λ _ there. there)
        (λ k m awaits. d.pending k m (record { waits = awaits.waits; awaited = awaits.awaited })))

    rise_theirs : (x : ℕ) → Exchange Lossy start r x p (s x) (s p) (between r x p bag) → Exchange Lossy start r x p (s x) new (between r x p bag)
    rise_theirs x d =
        let ms = between r x p bag in
        subst (λ (t : State). Exchange Lossy start r x p (s x) t ms) (sym is)
        (exchange_kept start r x p (s x) (s x) (s p) high ms ms d (record { more = omega arith; own = λ _ _ has. has }) (passes_higher (s p) number x) (λ _ at. at) (λ _ there. there)
        (λ k m awaits. pending_still r x p (s p) high ms ms k m (λ held. record { deferred = held.deferred; own_first = held.own_first }) (λ _ there. there) (d.pending k m awaits)))

    pub rise_exchanged : Exchanges Lossy start n r s' bag
    rise_exchanged =
        exchanges_changed start n r s s' bag bag p new old changes placed (omega (arith, ap (λ (t : State). t.highest) is)) (λ x _ _. rise_mine x) (λ x _ _. rise_theirs x)
        (λ i j i_apart j_apart. refl)
        (λ x k m at apart has free.
        old.passed p x k m within at (λ e. apart (sym e)) (subst (λ (t : State). HasOwn t.phase k m) is has) (λ awaited. free (subst (λ (t : State). IsTrue (set.contains t.awaited x)) (sym is) awaited)))
        (λ x k m pass. subst (λ (t : State). LetsPass t x k m) (sym is) (passes_higher (s p) number x k m pass))
        within
