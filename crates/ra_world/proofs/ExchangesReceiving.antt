-- A message that comes, one that is lost and a copy keep what holds of all dialogs, also if messages were repeated.
use Rattle.std.proofs.Common.{◌≡◌, ◌≢◌, ◌⊎◌, ℕ, zero, suc, ◌≤◌, Bool, true, false, cond, List, [], ◌∷◌, ◌++◌, Contains, filter, Option, Some, None, refl, sym, ap, ◌∙◌, subst, arith, inl, inr}
use Rattle.std.specs.Prelude.{IsTrue}
use Rattle.std.specs.Ordering.{nat_cmp}
use Rattle.std.specs.FinSet as set
use Rattle.std.specs.FinMap as finmap
use Rattle.std.proofs.lemmas.List.Elements.{All-nil, All-cons, Contains-append_left, Contains-append_right, Contains-push, Contains-push_cases}
use Rattle.ra_stamp.specs.declared.mode.Mode.{Mode}
use Rattle.ra_stamp.specs.declared.message.Message.{Message}
use Rattle.ra_stamp.specs.declared.message.Message.TheVariants.{Request, Reply}
use Rattle.ra_stamp.specs.Message.{seq_of}
use Rattle.ra_automaton.specs.declared.phase.Phase.{Phase}
use Rattle.ra_automaton.specs.State.{State}
use Rattle.ra_automaton.specs.Steps.{later_of, Awaits, OwnGoesFirst, Defers, RepliesAtOnce, Enters, WaitsOn}
use Rattle.ra_bag.specs.Bag.{TakesFirst}
use Rattle.ra_automaton.proofs.Apart.{cases_same}
use Rattle.ra_world.proofs.Lists.{filter_hit, filter_miss, filter_taken, filter_left}
use Rattle.ra_world.proofs.Dialogs.{belongs, between, IsOf, belongs_at, belongs_not, between_none}
use Rattle.ra_world.proofs.Protocol.{IsNode, HasOwn, LetsPass, IsPlaced, Changes}
use Rattle.ra_world.proofs.AutomatonSteps.{awaits_has, phase_same, awaited_same, highest_is, deferred_other, first_same, first_back, passes_after_receive, deferred_here, still_awaited, not_awaited, own_is, own_was, waited_so, first_as, same_rest, passes_after_reply}
use Rattle.ra_world.proofs.Exchanges.{IsUsed, WasMade, Grants, Holds, Exchange, Exchanges, KeepsAsker, exchanges_changed, exchange_kept, grants_still, pending_still, taken_or_left, was_there, was_first}
use Rattle.ra_world.proofs.Asking.{more_between, none_between}
use Rattle.ra_world.proofs.ExchangesAsking.{same_request, not_a_reply}

stays : (s : State) → KeepsAsker s s
stays s = record { more = omega arith; own = λ _ _ has. has }

some_same : (a b : ℕ) → ◌≡◌ {A = Option ℕ} (Some a) (Some b) → a ≡ b
some_same a b e = cc

-- the number of a deferral was used if both that make it were
later_used : (start : ℕ) (s : State) (o : Option ℕ) (seq : ℕ) → ((k : ℕ) → o ≡ Some k → IsUsed start s k) → IsUsed start s seq → IsUsed start s (later_of o seq)
later_used start s None seq before used = used
later_used start s (Some k) seq before used =
    let was = before k refl in
    record { above = omega (arith, was.above, used.above); reached = omega (arith, was.reached, used.reached); not_later = λ own mode has. omega (arith, was.not_later own mode has, used.not_later own mode has) }

-- and it is the own request's number if neither is above it and one is equal to it
later_is : (o : Option ℕ) (seq own : ℕ) → ((k : ℕ) → o ≡ Some k → k ≤ own) → seq ≤ own → (seq ≡ own) ⊎ (o ≡ Some own) → later_of o seq ≡ own
later_is None seq own before low is = elim is [ inl same ↦ same | inr none ↦ absurd (no own none) ]
  where
    no : (k : ℕ) → ◌≡◌ {A = Option ℕ} None (Some k) → ⊥
    no k e = cc
later_is (Some k) seq own before low is = elim is [
  | inl same ↦ omega (arith, same, before k refl)
  | inr here ↦ omega (arith, low, some_same k own here)
]

pub contains_filter : (p : Message → Bool) (xs : List Message) (m : Message) → p m ≡ true → Contains xs m → Contains (filter p xs) m
contains_filter p [] m passes (k, lt, is) = absurd (omega (arith, lt))
contains_filter p (x ∷ xs) m passes (zero, lt, is) =
    subst (λ (ys : List Message). Contains ys m) (sym (filter_hit p x xs (ap p is ∙ passes))) (0, omega arith, is)
contains_filter p (x ∷ xs) m passes (suc k, lt, is) =
    let rest = contains_filter p xs m passes (k, omega (arith, lt), is) in
    elim (p x) as (λ b. Contains (cond b (x ∷ filter p xs) (filter p xs)) m) [
      | true ↦ Contains-append_right (x ∷ []) (filter p xs) m rest
      | false ↦ rest
    ]

-- ---- A message is taken from those under way

taken_here : (r : List ℕ) (i j : ℕ) (bag : List Message) (m : Message) (rest : List Message) → IsOf r i j m → TakesFirst bag m rest → TakesFirst (between r i j bag) m (between r i j rest)
taken_here r i j bag m rest is takes = filter_taken (belongs r i j) bag m rest (belongs_at r i j m is) takes

taken_elsewhere : (r : List ℕ) (i j : ℕ) (bag : List Message) (m : Message) (rest : List Message) → (IsOf r i j m → ⊥) → TakesFirst bag m rest → between r i j rest ≡ between r i j bag
taken_elsewhere r i j bag m rest not takes = filter_left (belongs r i j) bag m rest (belongs_not r i j m not) takes

module _ {Lossy : Type 0} (start n : ℕ) (r : List ℕ) (s s' : ℕ → State) (bag rest : List Message) (p x : ℕ) (new : State) (old : Exchanges Lossy start n r s bag) (within : IsNode n p) (x_at : IsNode n x) (x_apart : x ≢ p) (changes : Changes s s' p new)
    (placed : IsPlaced n r p new) (sends : List Message) where
  abbrev held : IsPlaced n r p (s p)
  held = old.each p within

  -- ---- A REQUEST of node x comes

  module _ (seq : ℕ) (mode : Mode) (takes : TakesFirst bag (Request x p r mode seq) rest) (step : Defers (s p) x seq mode sends new ⊎ RepliesAtOnce (s p) x seq mode sends new) where
    abbrev came : Message
    came = Request x p r mode seq

    abbrev was : List Message
    was = between r x p bag

    abbrev others : List Message
    others = between r x p rest

    d : Exchange Lossy start r x p (s x) (s p) was
    d = old.dialog x p x_at within x_apart

    takes' : TakesFirst was came others
    takes' = taken_here r x p bag came rest (record { asker = refl; answerer = refl; name_is = refl }) takes

    made : WasMade start (s x) seq mode
    made = d.asked seq mode (was_first was came others takes')

    -- what is sent is of the same dialog
    sent_elsewhere : (i j : ℕ) → (i ≡ x → j ≡ p → ⊥) → between r i j sends ≡ []
    sent_elsewhere i j apart = elim step [
      | inl defers ↦ ap (between r i j) defers.sends_are
      | inr replies ↦ ap (between r i j) replies.sends_are ∙ between_none r i j (Reply (s p).me x (s p).name seq ∷ [])
          (All-cons (λ m. IsOf r i j m → ⊥) (Reply (s p).me x (s p).name seq) [] (λ is. apart (sym is.asker) (sym is.answerer ∙ held.me_is)) (All-nil (λ m. IsOf r i j m → ⊥)))
    ]

    elsewhere : (i j : ℕ) → (i ≡ x → j ≡ p → ⊥) → between r i j (rest ++ sends) ≡ between r i j bag
    elsewhere i j apart =
        none_between r i j rest sends (sent_elsewhere i j apart)
        ∙ taken_elsewhere r i j bag came rest (λ is. apart (sym is.asker) (sym is.answerer)) takes

    passes_on : (y k : ℕ) (m : Mode) → LetsPass (s p) y k m → LetsPass new y k m
    passes_on = passes_after_receive (s p) new x seq mode sends step

    mine : (y : ℕ) → IsNode n y → y ≢ p → Exchange Lossy start r p y (s p) (s y) (between r p y bag) → Exchange Lossy start r p y new (s y) (between r p y (rest ++ sends))
    mine y at apart e =
        let ms = between r p y bag in
        let phase = phase_same (s p) new x seq mode sends step in
        subst (λ (xs : List Message). Exchange Lossy start r p y new (s y) xs) (sym (elsewhere p y (λ q _. x_apart (sym q))))
        (exchange_kept start r p y (s p) new (s y) (s y) ms ms e
        (record { more = omega (arith, highest_is (s p) new x seq mode sends step); own = λ k m has. subst (λ (q : Phase). HasOwn q k m) phase has })
        (λ _ _ pass. pass) (λ _ is. is) (λ _ there. there)
        (λ k m awaits. e.pending k m (record {
          waits = sym phase ∙ awaits.waits;
          awaited = subst (λ (q : set.FinSet nat_cmp). IsTrue (set.contains q y)) (awaited_same (s p) new x seq mode sends step) awaits.awaited;
        })))

    -- the deferral of x, in the mode of its own request
    holds_now : Defers (s p) x seq mode sends new → (k : ℕ) (m : Mode) → HasOwn (s x).phase k m → ((seq ≡ k) × (mode ≡ m)) ⊎ Holds (s p) x k m → Holds new x k m
    holds_now defers k m own is =
        let low : seq ≤ k = made.used.not_later k m own in
        let before : (q : ℕ) → finmap.get (s p).deferred x ≡ Some q → q ≤ k = λ q at. (d.deferred q at).not_later k m own in
        elim is [
          | inl same ↦ record {
            deferred = deferred_here (s p) new x seq mode sends step defers ∙ ap (λ q. Some q) (later_is (finmap.get (s p).deferred x) seq k before low (inl same.0));
            own_first = first_same (s p) new x seq mode sends step x k m (subst (λ (q : ℕ). OwnGoesFirst (s p).phase (s p).me x q m) same.0 (subst (λ (q : Mode). OwnGoesFirst (s p).phase (s p).me x seq q) same.1 defers.own_first));
          }
          | inr held ↦ record {
            deferred = deferred_here (s p) new x seq mode sends step defers ∙ ap (λ q. Some q) (later_is (finmap.get (s p).deferred x) seq k before low (inr held.deferred));
            own_first = first_same (s p) new x seq mode sends step x k m held.own_first;
          }
        ]

    deferred_on : Defers (s p) x seq mode sends new → Exchange Lossy start r x p (s x) new others
    deferred_on defers =
        record {
          asked = λ k m at. d.asked k m (was_there was came others (Request x p r m k) takes' at);
          deferred = λ k is.
              subst (IsUsed start (s x)) (some_same (later_of (finmap.get (s p).deferred x) seq) k (sym (deferred_here (s p) new x seq mode sends step defers) ∙ is))
              (later_used start (s x) (finmap.get (s p).deferred x) seq d.deferred made.used);
          answered = λ k at. grants_still start (s x) (s x) (s p) new x k (stays (s x)) (passes_on x k) (d.answered k (was_there was came others (Reply p x r k) takes' at));
          pending = λ k m awaits.
              let own = awaits_has (s x) p k m awaits in
              elim (d.pending k m awaits) [
                | inl lossy ↦ inl lossy
                | inr y ↦ elim y [
                  | inl asks ↦ elim (taken_or_left was came others (Request x p r m k) takes' asks) [
                    | inl same ↦ inr (inr (inl (holds_now defers k m own (inl (same_request x p r mode m seq k same)))))
                    | inr left ↦ inr (inl left)
                  ]
                  | inr z ↦ elim z [
                    | inl held ↦ inr (inr (inl (holds_now defers k m own (inr held))))
                    | inr answers ↦ elim (taken_or_left was came others (Reply p x r k) takes' answers) [
                      | inl same ↦ absurd (not_a_reply x p p x seq k r r mode same)
                      | inr left ↦ inr (inr (inr left))
                    ]
                  ]
                ]
              ];
        }

    replied_on : RepliesAtOnce (s p) x seq mode sends new → Exchange Lossy start r x p (s x) new (others ++ Reply p x r seq ∷ [])
    replied_on replies =
        let answer = Reply p x r seq in
        let kept : finmap.get new.deferred x ≡ finmap.get (s p).deferred x = ap (λ (t : State). finmap.get t.deferred x) replies.new_is in
        record {
          asked = λ k m at. elim (Contains-push_cases others answer (Request x p r m k) at) [
            | inl before ↦ d.asked k m (was_there was came others (Request x p r m k) takes' before)
            | inr same ↦ absurd (not_a_reply x p p x k seq r r m (sym same))
          ];
          deferred = λ k is. d.deferred k (sym kept ∙ is);
          answered = λ k at. elim (Contains-push_cases others answer (Reply p x r k) at) [
            | inl before ↦ grants_still start (s x) (s x) (s p) new x k (stays (s x)) (passes_on x k) (d.answered k (was_there was came others (Reply p x r k) takes' before))
            | inr same ↦
                let is : seq ≡ k = ap seq_of same in
                subst (Grants start (s x) new x) is (record {
                  above = made.used.above;
                  reached = made.used.reached;
                  passes = λ m own. subst (LetsPass new x seq) (sym (made.same_mode m own)) (record {
                    reached = omega (arith, highest_is (s p) new x seq mode sends step);
                    not_first = λ h. replies.not_first (first_back (s p) new x seq mode sends step x seq mode h);
                  });
                })
          ];
          pending = λ k m awaits. elim (d.pending k m awaits) [
            | inl lossy ↦ inl lossy
            | inr y ↦ elim y [
              | inl asks ↦ elim (taken_or_left was came others (Request x p r m k) takes' asks) [
                | inl same ↦
                    inr (inr (inr (subst (λ (q : ℕ). Contains (others ++ answer ∷ []) (Reply p x r q)) (same_request x p r mode m seq k same).0 (Contains-push others answer))))
                | inr left ↦ inr (inl (Contains-append_left others (answer ∷ []) (Request x p r m k) left))
              ]
              | inr z ↦ elim z [
                | inl held ↦ inr (inr (inl (record { deferred = kept ∙ held.deferred; own_first = first_same (s p) new x seq mode sends step x k m held.own_first })))
                | inr answers ↦ elim (taken_or_left was came others (Reply p x r k) takes' answers) [
                  | inl same ↦ absurd (not_a_reply x p p x seq k r r mode same)
                  | inr left ↦ inr (inr (inr (Contains-append_left others (answer ∷ []) (Reply p x r k) left)))
                ]
              ]
            ]
          ];
        }

    goes_on : Exchange Lossy start r x p (s x) new (between r x p (rest ++ sends))
    goes_on = elim step [
      | inl defers ↦
          subst (λ (xs : List Message). Exchange Lossy start r x p (s x) new xs) (sym (none_between r x p rest sends (ap (between r x p) defers.sends_are))) (deferred_on defers)
      | inr replies ↦
          let answer : between r x p sends ≡ Reply p x r seq ∷ [] =
          ap (between r x p) (replies.sends_are ∙ (λ i. Reply (held.me_is i) x (held.name_is i) seq ∷ []))
          ∙ ap (λ b. cond b (Reply p x r seq ∷ []) []) (belongs_at r x p (Reply p x r seq) (record { asker = refl; answerer = refl; name_is = refl }))
          in
          subst (λ (xs : List Message). Exchange Lossy start r x p (s x) new xs) (sym (more_between r x p rest sends (Reply p x r seq ∷ []) answer)) (replied_on replies)
    ]

    theirs : (y : ℕ) → IsNode n y → y ≢ p → Exchange Lossy start r y p (s y) (s p) (between r y p bag) → Exchange Lossy start r y p (s y) new (between r y p (rest ++ sends))
    theirs y at apart e = elim (cases_same y x) [
      | inl same ↦ subst (λ (k : ℕ). Exchange Lossy start r k p (s k) new (between r k p (rest ++ sends))) (sym same) goes_on
      | inr other ↦
          let ms = between r y p bag in
          let kept = deferred_other (s p) new x seq mode sends step y other in
          subst (λ (xs : List Message). Exchange Lossy start r y p (s y) new xs) (sym (elsewhere y p (λ q _. other q)))
          (exchange_kept start r y p (s y) (s y) (s p) new ms ms e (stays (s y)) (passes_on y) (λ k is. sym kept ∙ is) (λ _ there. there)
          (λ k m awaits. pending_still r y p (s p) new ms ms k m
          (λ held. record { deferred = kept ∙ held.deferred; own_first = first_same (s p) new x seq mode sends step y k m held.own_first }) (λ _ there. there) (e.pending k m awaits)))
    ]

    pub request_came : Exchanges Lossy start n r s' (rest ++ sends)
    request_came =
        exchanges_changed start n r s s' bag (rest ++ sends) p new old changes placed (omega (arith, highest_is (s p) new x seq mode sends step)) mine theirs
        (λ i j i_apart j_apart. elsewhere i j (λ _ e. j_apart e))
        (λ y k m at apart own free. old.passed p y k m within at (λ e. apart (sym e)) (subst (λ (q : Phase). HasOwn q k m) (phase_same (s p) new x seq mode sends step) own)
        (λ awaited. free (subst (λ (q : set.FinSet nat_cmp). IsTrue (set.contains q y)) (sym (awaited_same (s p) new x seq mode sends step)) awaited)))
        passes_on within

  -- ---- A REPLY of node x comes that is awaited

  module _ (seq : ℕ) (entered : Bool) (takes : TakesFirst bag (Reply x p r seq) rest) (nothing : sends ≡ []) (mode : Mode) (step : Enters (s p) x seq mode entered new ⊎ WaitsOn (s p) x seq mode entered new) where
    abbrev answer : Message
    answer = Reply x p r seq

    taken' : TakesFirst (between r p x bag) answer (between r p x rest)
    taken' = taken_here r p x bag answer rest (record { asker = refl; answerer = refl; name_is = refl }) takes

    grants : Grants start (s p) (s x) p seq
    grants = (old.dialog p x within x_at (λ e. x_apart (sym e))).answered seq (was_first (between r p x bag) answer (between r p x rest) taken')

    elsewhere_too : (i j : ℕ) → (i ≡ p → j ≡ x → ⊥) → between r i j (rest ++ sends) ≡ between r i j bag
    elsewhere_too i j apart =
        none_between r i j rest sends (ap (between r i j) nothing) ∙ taken_elsewhere r i j bag answer rest (λ is. apart (sym is.asker) (sym is.answerer)) takes

    asker_kept : KeepsAsker (s p) new
    asker_kept = record { more = omega (arith, (same_rest (s p) new x seq entered mode step).1); own = own_was (s p) new x seq entered mode step }

    answered_mine : (y : ℕ) → IsNode n y → y ≢ p → Exchange Lossy start r p y (s p) (s y) (between r p y bag) → Exchange Lossy start r p y new (s y) (between r p y (rest ++ sends))
    answered_mine y at apart e = elim (cases_same y x) [
      | inl same ↦
          let here : Exchange Lossy start r p x (s p) (s x) (between r p x bag) = subst (λ (k : ℕ). Exchange Lossy start r p k (s p) (s k) (between r p k bag)) same e in
          subst (λ (k : ℕ). Exchange Lossy start r p k new (s k) (between r p k (rest ++ sends))) (sym same)
          (subst (λ (xs : List Message). Exchange Lossy start r p x new (s x) xs) (sym (none_between r p x rest sends (ap (between r p x) nothing)))
          (exchange_kept start r p x (s p) new (s x) (s x) (between r p x bag) (between r p x rest) here asker_kept (λ _ _ pass. pass) (λ _ is. is)
          (λ m. was_there (between r p x bag) answer (between r p x rest) m taken') (λ k m awaits. absurd (not_awaited (s p) new x seq entered mode step awaits.awaited))))
      | inr other ↦
          let ms = between r p y bag in
          subst (λ (xs : List Message). Exchange Lossy start r p y new (s y) xs) (sym (elsewhere_too p y (λ _ q. other q)))
          (exchange_kept start r p y (s p) new (s y) (s y) ms ms e asker_kept (λ _ _ pass. pass) (λ _ is. is) (λ _ there. there)
          (λ k m awaits. e.pending k m (waited_so (s p) new x seq entered mode step y k m other awaits)))
    ]

    answered_theirs : (y : ℕ) → IsNode n y → y ≢ p → Exchange Lossy start r y p (s y) (s p) (between r y p bag) → Exchange Lossy start r y p (s y) new (between r y p (rest ++ sends))
    answered_theirs y at apart e =
        let ms = between r y p bag in
        let kept : finmap.get new.deferred y ≡ finmap.get (s p).deferred y = ap (λ (q : finmap.FinMap nat_cmp ℕ). finmap.get q y) (same_rest (s p) new x seq entered mode step).0 in
        subst (λ (xs : List Message). Exchange Lossy start r y p (s y) new xs) (sym (elsewhere_too y p (λ q _. apart q)))
        (exchange_kept start r y p (s y) (s y) (s p) new ms ms e (stays (s y)) (passes_after_reply (s p) new x seq entered mode step y) (λ k is. sym kept ∙ is) (λ _ there. there)
        (λ k m awaits. pending_still r y p (s p) new ms ms k m (λ held. record { deferred = kept ∙ held.deferred; own_first = (first_as (s p) new x seq entered mode step y k m).0 held.own_first }) (λ _ there. there) (e.pending k m awaits)))

    pub reply_came : Exchanges Lossy start n r s' (rest ++ sends)
    reply_came =
        exchanges_changed start n r s s' bag (rest ++ sends) p new old changes placed (omega (arith, (same_rest (s p) new x seq entered mode step).1)) answered_mine answered_theirs
        (λ i j i_apart j_apart. elsewhere_too i j (λ e _. i_apart e))
        (λ y k m at apart own free. elim (cases_same y x) [
          | inl same ↦
              let is = own_is (s p) new x seq entered mode step k m own in
              let own' : HasOwn (s p).phase seq m = subst (λ (q : ℕ). HasOwn (s p).phase q m) (sym is.0) (own_was (s p) new x seq entered mode step k m own) in
              subst (λ (q : ℕ). LetsPass (s q) p k m) (sym same) (subst (λ (q : ℕ). LetsPass (s x) p q m) is.0 (grants.passes m own'))
          | inr other ↦
              old.passed p y k m within at (λ e. apart (sym e)) (own_was (s p) new x seq entered mode step k m own)
              (λ awaited. free (still_awaited (s p) new x seq entered mode step y other awaited))
        ])
        (passes_after_reply (s p) new x seq entered mode step) within

-- ---- A message that changes nothing is delivered

module _ {Lossy : Type 0} (start n : ℕ) (r : List ℕ) (s : ℕ → State) (bag rest : List Message) (m : Message) (old : Exchanges Lossy start n r s bag) (takes : TakesFirst bag m rest)
    (asked : (i j seq : ℕ) (mode : Mode) → Awaits (s i) j seq mode → m ≡ Request i j r mode seq → Lossy)
    (answered : (i j seq : ℕ) (mode : Mode) → Awaits (s i) j seq mode → m ≡ Reply j i r seq → Lossy) where
  without : (i j : ℕ) → Exchange Lossy start r i j (s i) (s j) (between r i j bag) → belongs r i j m ≡ true → Exchange Lossy start r i j (s i) (s j) (between r i j rest)
  without i j d is =
      let ms = between r i j bag in
      let left = between r i j rest in
      let takes' = filter_taken (belongs r i j) bag m rest is takes in
      exchange_kept start r i j (s i) (s i) (s j) (s j) ms left d (stays (s i)) (λ _ _ pass. pass) (λ _ e. e) (λ x. was_there ms m left x takes') (λ k mode awaits. elim (d.pending k mode awaits) [
        | inl lossy ↦ inl lossy
        | inr y ↦ elim y [
          | inl asks ↦ elim (taken_or_left ms m left (Request i j r mode k) takes' asks) [ inl same ↦ inl (asked i j k mode awaits same) | inr there ↦ inr (inl there) ]
          | inr z ↦ elim z [
            | inl held ↦ inr (inr (inl held))
            | inr answers ↦ elim (taken_or_left ms m left (Reply j i r k) takes' answers) [ inl same ↦ inl (answered i j k mode awaits same) | inr there ↦ inr (inr (inr there)) ]
          ]
        ]
      ])

  pub message_gone : Exchanges Lossy start n r s rest
  message_gone =
      record {
        each = old.each;
        risen = old.risen;
        passed = old.passed;
        dialog = λ i j at_i at_j apart.
            elim (belongs r i j m) as (λ b. belongs r i j m ≡ b → Exchange Lossy start r i j (s i) (s j) (between r i j rest)) [
              | true ↦ λ e. without i j (old.dialog i j at_i at_j apart) e
              | false ↦ λ e. subst (λ (ms : List Message). Exchange Lossy start r i j (s i) (s j) ms) (sym (filter_left (belongs r i j) bag m rest e takes)) (old.dialog i j at_i at_j apart)
            ] refl;
      }

-- ---- A copy of a message comes

pub message_copied : {Lossy : Type 0} (start n : ℕ) (r : List ℕ) (s : ℕ → State) (bag : List Message) (m : Message) → Contains bag m → Exchanges Lossy start n r s bag → Exchanges Lossy start n r s (bag ++ m ∷ [])
message_copied {Lossy} start n r s bag m there old =
    record {
      each = old.each;
      risen = old.risen;
      passed = old.passed;
      dialog = λ i j at_i at_j apart.
          elim (belongs r i j m) as (λ b. belongs r i j m ≡ b → Exchange Lossy start r i j (s i) (s j) (between r i j (bag ++ m ∷ []))) [
            | true ↦ λ e. copied i j (old.dialog i j at_i at_j apart) e
            | false ↦ λ e. subst (λ (ms : List Message). Exchange Lossy start r i j (s i) (s j) ms) (sym (none_between r i j bag (m ∷ []) (filter_miss (belongs r i j) m [] e))) (old.dialog i j at_i at_j apart)
          ] refl;
    }
  where
    copied : (i j : ℕ) → Exchange Lossy start r i j (s i) (s j) (between r i j bag) → belongs r i j m ≡ true → Exchange Lossy start r i j (s i) (s j) (between r i j (bag ++ m ∷ []))
    copied i j d e =
        let ms = between r i j bag in
        let here = contains_filter (belongs r i j) bag m e there in
        subst (λ (xs : List Message). Exchange Lossy start r i j (s i) (s j) xs) (sym (more_between r i j bag (m ∷ []) (m ∷ []) (filter_hit (belongs r i j) m [] e)))
        (exchange_kept start r i j (s i) (s i) (s j) (s j) ms (ms ++ m ∷ []) d (stays (s i)) (λ _ _ pass. pass) (λ _ is. is)
        (λ x at. elim (Contains-push_cases ms m x at) [ inl before ↦ before | inr same ↦ subst (λ (q : Message). Contains ms q) same here ])
        (λ k mode awaits. pending_still r i j (s j) (s j) ms (ms ++ m ∷ []) k mode (λ held. held) (λ x. Contains-append_left ms (m ∷ []) x) (d.pending k mode awaits)))

-- ---- Another name

all_same : (s s' : ℕ → State) → ((i : ℕ) → s' i ≡ s i) → s ≡ s'
all_same s s' same = λ d i. sym (same i) d

pub exchanges_undisturbed : {Lossy : Type 0} (start n : ℕ) (r : List ℕ) (s s' : ℕ → State) (bag bag' : List Message) → ((i : ℕ) → s' i ≡ s i) → ((i j : ℕ) → between r i j bag' ≡ between r i j bag) → Exchanges Lossy start n r s bag → Exchanges Lossy start n r s' bag'
exchanges_undisturbed {Lossy} start n r s s' bag bag' same between_same old =
    let go : Exchanges Lossy start n r s bag' = record {
      each = old.each;
      risen = old.risen;
      dialog = λ i j at_i at_j apart. subst (λ (ms : List Message). Exchange Lossy start r i j (s i) (s j) ms) (sym (between_same i j)) (old.dialog i j at_i at_j apart);
      passed = old.passed;
    } in
    subst (λ (f : ℕ → State). Exchanges Lossy start n r f bag') (all_same s s' same) go
