-- What a host that is up and ready has on its disk, if books may be put back.
use Rattle.std.proofs.Common.{◌≡◌, ◌≤◌, ◌⊎◌, inl, inr, ℕ, List, [], ◌∷◌, ◌++◌, true, false, length, take, refl, sym, ◌∙◌, ap, subst, Some, arith}
use Rattle.std.specs.List.{AllByRecursion}
use Rattle.std.proofs.lemmas.Bool.{cases_Bool, both_ways, true≢false}
use Rattle.std.proofs.lemmas.List.{length-take, length_push}
use Rattle.ra_link.specs.declared.message.Message.{Message}
use Rattle.ra_link.specs.declared.message.Message.TheVariants.{Hello, Welcome, Frame, Ack, Old}
use Rattle.ra_link.specs.Link.{is_open}
use Rattle.ra_link.specs.Pair.{Host, Packet, Turn, was_used}
use Rattle.ra_link.proofs.Flow.{FrameFits, each_weaker, each_append, shorter, frame_stays, take_itself}
use Rattle.ra_link.proofs.PutBack.{IsOwn, Knows}
use Rattle.ra_link.proofs.Going.{same_some, none_is_some, look, IsBook, Questions, GoesOn, IsFresh, Tells, Says, Goes}

-- ---- Nonces and questions

-- the starts named a belong to a; a question that b asked is no later than its last one
abbrev pub NamedIn : Host → Host → Message → Type 0
NamedIn a b (Hello start question) = (was_used start a.starts ≡ true) × (a.up ≡ true → start ≡ a.link.own → question ≤ a.link.asked)
NamedIn a b (Welcome asker question start kept) =
    (was_used start a.starts ≡ true) × (was_used asker b.starts ≡ true) × (b.up ≡ true → asker ≡ b.link.own → question ≤ b.link.asked)
NamedIn a b (Frame start number) = was_used start a.starts ≡ true
NamedIn a b (Ack start other kept) = (was_used start a.starts ≡ true) × (was_used other b.starts ≡ true)
NamedIn a b (Old count) = Unit {0}

abbrev pub Named : Host → Host → Packet → Type 0
Named a b p = NamedIn a b p.message

-- a start that was is not a new one
pub old_start : (x z : Host) (start : ℕ) → IsFresh x z → was_used start x.starts ≡ true → start ≡ z.link.own → ⊥
old_start x z start f u own = both_ways (was_used start x.starts) (ap (λ n. was_used n x.starts) own ∙ f.unused) u

asked_on : (x z : Host) (back : List Packet) → Questions x.link z.link back → x.link.asked ≤ z.link.asked
asked_on x z back q = elim q [
  | inl same ↦ omega (arith, same.asked)
  | inr more ↦ elim more [ inl next ↦ omega (arith, next.asked) | inr answered ↦ omega (arith, answered.asked) ]
]

question_on : (x : Host) (t : Turn) (back : List Packet) → Goes x back t → (start question : ℕ) → was_used start x.starts ≡ true → (x.up ≡ true → start ≡ x.link.own → question ≤ x.link.asked) → t.host.up ≡ true → start ≡ t.host.link.own → question ≤ t.host.link.asked
question_on x t back g start question u le up own =
    elim (g.up up) [
      | inl on ↦ let before : question ≤ x.link.asked = le on.up (own ∙ on.own) in let more = asked_on x t.host back on.question in omega arith
      | inr fresh ↦ absurd (old_start x t.host start fresh u own)
    ]

pub named_from : (x y : Host) (t : Turn) (back : List Packet) → Goes x back t → (m : Message) → NamedIn x y m → NamedIn t.host y m
named_from x y t back g (Hello start question) n = (g.starts start n.0, question_on x t back g start question n.0 n.1)
named_from x y t back g (Welcome asker question start kept) n = (g.starts start n.0, n.1, n.2)
named_from x y t back g (Frame start number) n = g.starts start n
named_from x y t back g (Ack start other kept) n = (g.starts start n.0, n.1)
named_from x y t back g (Old count) n = tt

pub named_to : (x y : Host) (t : Turn) (back : List Packet) → Goes x back t → (m : Message) → NamedIn y x m → NamedIn y t.host m
named_to x y t back g (Hello start question) n = n
named_to x y t back g (Welcome asker question start kept) n = (n.0, g.starts asker n.1, question_on x t back g asker question n.1 n.2)
named_to x y t back g (Frame start number) n = n
named_to x y t back g (Ack start other kept) n = (n.0, g.starts other n.1)
named_to x y t back g (Old count) n = tt

-- z says it to y; back is all that y said
pub named_new : (z y : Host) (back : List Packet) → IsOwn z → (z.up ≡ true → Knows y z.link) → AllByRecursion (Named y z) back → (m : Message) (frame : List ℕ) → z.up ≡ true → Tells z back m frame → NamedIn z y m
named_new z y back o k n (Hello start question) frame up s = (ap (λ i. was_used i z.starts) s.0 ∙ o.own up, λ _ _. omega (arith, s.1))
named_new z y back o k n (Welcome asker question start kept) frame up s =
    let asked = look (Named y z) back (Hello asker question) s.1.0 n s.1.1 in
    (ap (λ i. was_used i z.starts) s.0 ∙ o.own up, asked.0, asked.1)
named_new z y back o k n (Frame start number) frame up s = ap (λ i. was_used i z.starts) s.0 ∙ o.own up
named_new z y back o k n (Ack start other kept) frame up s = (ap (λ i. was_used i z.starts) s.0 ∙ o.own up, (k up).0 other s.1)
named_new z y back o k n (Old count) frame up s = tt

-- ---- Starts that a host takes frames of, or may come to

abbrev pub OfferIn : (ℕ → Type 0) → Host → Message → Type 0
OfferIn P b (Hello start question) = Unit {0}
OfferIn P b (Welcome asker question start kept) = b.up ≡ true → asker ≡ b.link.own → question ≡ b.link.asked → is_open b.link.pending ≡ true → P start
OfferIn P b (Frame start number) = Unit {0}
OfferIn P b (Ack start other kept) = Unit {0}
OfferIn P b (Old count) = Unit {0}

abbrev pub Offer : (ℕ → Type 0) → Host → Packet → Type 0
Offer P b p = OfferIn P b p.message

-- P holds of each start of a that b has adopted, or may adopt by what a said
pub record OfEachStart (P : ℕ → Type 0) (b : Host) (there : List Packet) : Type 0 where
  pub adopted : b.up ≡ true → (start : ℕ) → b.link.adopted ≡ Some start → P start
  pub offered : AllByRecursion (Offer P b) there

-- b adopts no start but this one
abbrev pub Settled : ℕ → Host → List Packet → Type 0
Settled own b there = OfEachStart (λ start. start ≡ own) b there

offer_weaker : (P Q : ℕ → Type 0) → ((start : ℕ) → P start → Q start) → (b : Host) (m : Message) → OfferIn P b m → OfferIn Q b m
offer_weaker P Q f b (Hello start question) o = tt
offer_weaker P Q f b (Welcome asker question start kept) o = λ up own number opened. f start (o up own number opened)
offer_weaker P Q f b (Frame start number) o = tt
offer_weaker P Q f b (Ack start other kept) o = tt
offer_weaker P Q f b (Old count) o = tt

pub starts_weaker : (P Q : ℕ → Type 0) → ((start : ℕ) → P start → Q start) → (b : Host) (there : List Packet) → OfEachStart P b there → OfEachStart Q b there
starts_weaker P Q f b there e =
    record {
      adopted = λ up start a. f start (e.adopted up start a);
      offered = each_weaker (Offer P b) (Offer Q b) (λ p o. offer_weaker P Q f b p.message o) there e.offered;
    }

-- b takes a turn
offer_stays : (P : ℕ → Type 0) (a b : Host) (t : Turn) (there : List Packet) → Goes b there t → (m : Message) → NamedIn a b m → OfferIn P b m → OfferIn P t.host m
offer_stays P a b t there g (Hello start question) n o = tt
offer_stays P a b t there g (Welcome asker question start kept) n o = λ up own number opened.
    elim (g.up up) [
      | inl on ↦
          let own_before : asker ≡ b.link.own = own ∙ on.own in
          elim on.question [
            | inl same ↦ o on.up own_before (number ∙ same.asked) (sym (ap is_open same.pending) ∙ opened)
            | inr more ↦
                elim more [
                  | inl next ↦ let le : question ≤ b.link.asked = n.2 on.up own_before in absurd (omega (arith, next.asked))
                  | inr answered ↦ absurd (true≢false (sym opened ∙ ap is_open answered.closed))
                ]
          ]
      | inr fresh ↦ absurd (old_start b t.host asker fresh n.1 own)
    ]
offer_stays P a b t there g (Frame start number) n o = tt
offer_stays P a b t there g (Ack start other kept) n o = tt
offer_stays P a b t there g (Old count) n o = tt

pub each_both : {X : Type 0} (P Q R : X → Type 0) → ((x : X) → P x → Q x → R x) → (xs : List X) → AllByRecursion P xs → AllByRecursion Q xs → AllByRecursion R xs
each_both P Q R f [] g h = tt
each_both P Q R f (x ∷ xs) g h = (f x g.0 h.0, each_both P Q R f xs g.1 h.1)

-- the receiver of what was said takes a turn: it has no more choices than before
pub starts_stay : (P : ℕ → Type 0) (a b : Host) (t : Turn) (there : List Packet) → Goes b there t → AllByRecursion (Named a b) there → OfEachStart P b there → OfEachStart P t.host there
starts_stay P a b t there g n e =
    record {
      adopted = λ up start a.
          elim (g.up up) [
            | inl on ↦
                elim on.question [
                  | inl same ↦ e.adopted on.up start (sym same.adopted ∙ a)
                  | inr more ↦
                      elim more [
                        | inl next ↦ e.adopted on.up start (sym next.adopted ∙ a)
                        | inr answered ↦
                            let by = look (Offer P b) there (Welcome answered.asker answered.question answered.start answered.kept) answered.frame e.offered answered.said in
                            subst P (same_some answered.start start (sym answered.adopted ∙ a)) (by on.up answered.own answered.number answered.open_before)
                      ]
                ]
            | inr fresh ↦ absurd (none_is_some start (sym fresh.adopted ∙ a))
          ];
      offered = each_both (Named a b) (Offer P b) (Offer P t.host) (λ p n o. offer_stays P a b t there g p.message n o) there n e.offered;
    }

-- the sender z says more
offer_new : (P : ℕ → Type 0) (b z : Host) (back : List Packet) → P z.link.own → (m : Message) (frame : List ℕ) → Tells z back m frame → OfferIn P b m
offer_new P b z back own (Hello start question) frame s = tt
offer_new P b z back own (Welcome asker question start kept) frame s = λ _ _ _ _. subst P (sym s.0) own
offer_new P b z back own (Frame start number) frame s = tt
offer_new P b z back own (Ack start other kept) frame s = tt
offer_new P b z back own (Old count) frame s = tt

pub starts_more : (P : ℕ → Type 0) (b z : Host) (back there says : List Packet) → (z.up ≡ true → P z.link.own) → AllByRecursion (Says z back) says → OfEachStart P b there → OfEachStart P b (says ++ there)
starts_more P b z back there says own s e =
    record {
      adopted = e.adopted;
      offered = each_append (Offer P b) says there (each_weaker (Says z back) (Offer P b) (λ p h. offer_new P b z back (own h.up) p.message p.frame h.tells) says s) e.offered;
    }

-- ---- What a start of the sender can rely on

abbrev pub AckFitsIn : Host → Host → List Packet → Message → Type 0
AckFitsIn a b there (Hello start question) = Unit {0}
AckFitsIn a b there (Welcome asker question start kept) = Unit {0}
AckFitsIn a b there (Frame start number) = Unit {0}
AckFitsIn a b there (Ack start other kept) =
    a.up ≡ true → other ≡ a.link.own → Settled a.link.own b there × (a.link.ready ≡ false → length b.taken ≤ kept)
AckFitsIn a b there (Old count) = Unit {0}

abbrev pub AckFits : Host → Host → List Packet → Packet → Type 0
AckFits a b there p = AckFitsIn a b there p.message

-- a frame of the start that runs is on the disk
abbrev pub OwnFitsIn : Host → Message → List ℕ → Type 0
OwnFitsIn a (Hello start question) frame = Unit {0}
OwnFitsIn a (Welcome asker question start kept) frame = Unit {0}
OwnFitsIn a (Frame start number) frame =
    a.up ≡ true → start ≡ a.link.own → (a.link.ready ≡ true) × FrameFits a.sent a.sent_kept (Frame start number) frame
OwnFitsIn a (Ack start other kept) frame = Unit {0}
OwnFitsIn a (Old count) frame = Unit {0}

abbrev pub OwnFits : Host → Packet → Type 0
OwnFits a p = OwnFitsIn a p.message p.frame

-- from a to b: there is all that a said to b, and back all that b said to a
pub record Reaches (a b : Host) (there back : List Packet) : Type 0 where
  pub adopted : a.up ≡ true → b.up ≡ true → b.link.adopted ≡ Some a.link.own → Settled a.link.own b there
  pub acks : AllByRecursion (AckFits a b there) back
  pub confirmed : a.up ≡ true → a.link.confirmed ≡ true → a.link.ready ≡ false → Settled a.link.own b there × (length b.taken ≤ a.link.acknowledged)
  pub ready : a.up ≡ true → a.link.ready ≡ true → Settled a.link.own b there × (length b.taken ≤ a.sent_kept)
  pub frames : AllByRecursion (OwnFits a) there

pub not_ready : (x z : Host) (back : List Packet) → GoesOn x z back → z.link.ready ≡ false → x.link.ready ≡ false
not_ready x z back on f = elim (cases_Bool x.link.ready) [ inl r ↦ absurd (true≢false (sym (on.ready r) ∙ f)) | inr n ↦ n ]

-- the sender takes a turn
settled_on : (x b : Host) (t : Turn) (there back : List Packet) → Goes x back t → GoesOn x t.host back → Settled x.link.own b there → Settled t.host.link.own b (t.says ++ there)
settled_on x b t there back g on s =
    starts_more (λ start. start ≡ t.host.link.own) b t.host back there t.says (λ _. refl) g.says
    (starts_weaker (λ start. start ≡ x.link.own) (λ start. start ≡ t.host.link.own) (λ start e. e ∙ sym on.own) b there s)

ack_out : (x b : Host) (t : Turn) (there back : List Packet) → Goes x back t → (m : Message) → NamedIn b x m → AckFitsIn x b there m → AckFitsIn t.host b (t.says ++ there) m
ack_out x b t there back g (Hello start question) n h = tt
ack_out x b t there back g (Welcome asker question start kept) n h = tt
ack_out x b t there back g (Frame start number) n h = tt
ack_out x b t there back g (Ack start other kept) n h = λ up own.
    elim (g.up up) [
      | inl on ↦
          let before = h on.up (own ∙ on.own) in
          (settled_on x b t there back g on before.0, λ f. before.1 (not_ready x t.host back on f))
      | inr fresh ↦ absurd (old_start x t.host other fresh n.1 own)
    ]
ack_out x b t there back g (Old count) n h = tt

own_out : (x b : Host) (t : Turn) (back : List Packet) → IsBook x → Goes x back t → (m : Message) (frame : List ℕ) → NamedIn x b m → OwnFitsIn x m frame → OwnFitsIn t.host m frame
own_out x b t back k g (Hello start question) frame n h = tt
own_out x b t back k g (Welcome asker question start kept) frame n h = tt
own_out x b t back k g (Frame start number) frame n h = λ up own.
    elim (g.up up) [
      | inl on ↦
          let before = h on.up (own ∙ on.own) in
          let front : take x.sent_kept t.host.sent ≡ take x.sent_kept x.sent = shorter x.sent_kept (length x.sent) t.host.sent x.sent k.sent (on.front ∙ sym (take_itself x.sent)) in
          (on.ready before.0, frame_stays x.sent t.host.sent x.sent_kept t.host.sent_kept front on.kept (Frame start number) frame before.1)
      | inr fresh ↦ absurd (old_start x t.host start fresh n own)
    ]
own_out x b t back k g (Ack start other kept) frame n h = tt
own_out x b t back k g (Old count) frame n h = tt

own_new : (z : Host) (back : List Packet) (m : Message) (frame : List ℕ) → Tells z back m frame → OwnFitsIn z m frame
own_new z back (Hello start question) frame s = tt
own_new z back (Welcome asker question start kept) frame s = tt
own_new z back (Frame start number) frame s = λ _ _. (s.1, s.2)
own_new z back (Ack start other kept) frame s = tt
own_new z back (Old count) frame s = tt

pub reaches_out : (x b : Host) (t : Turn) (there back : List Packet) → IsBook x → (b.up ≡ true → Knows x b.link) → AllByRecursion (Named x b) there → AllByRecursion (Named b x) back → Goes x back t → Reaches x b there back → Reaches t.host b (t.says ++ there) back
reaches_out x b t there back k knows n m g r =
    let z = t.host in
    record {
      adopted = λ up b_up a.
          elim (g.up up) [
            | inl on ↦ settled_on x b t there back g on (r.adopted on.up b_up (a ∙ ap (λ i. Some i) on.own))
            | inr fresh ↦ absurd (old_start x z z.link.own fresh ((knows b_up).0 z.link.own a) refl)
          ];
      acks = each_both (Named b x) (AckFits x b there) (AckFits z b (t.says ++ there)) (λ p n h. ack_out x b t there back g p.message n h) back m r.acks;
      confirmed = λ up c f.
          elim (g.up up) [
            | inl on ↦
                let unready = not_ready x z back on f in
                elim (on.confirmed c) [
                  | inl was ↦
                      let before = r.confirmed on.up was unready in
                      (settled_on x b t there back g on before.0, omega (arith, before.1, on.acknowledged))
                  | inr by ↦
                      let before = look (AckFits x b there) back (Ack by.start by.other by.kept) by.frame r.acks by.said on.up by.own_start in
                      let le : length b.taken ≤ by.kept = before.1 unready in
                      (settled_on x b t there back g on before.0, omega (arith, by.at_most))
                ]
            | inr fresh ↦ absurd (true≢false (sym c ∙ fresh.confirmed))
          ];
      ready = λ up c.
          elim (g.up up) [
            | inl on ↦
                elim (on.readied c) [
                  | inl was ↦
                      let before = r.ready on.up was in
                      (settled_on x b t there back g on before.0, omega (arith, before.1, on.kept))
                  | inr by ↦
                      let before = r.confirmed on.up by.confirmed by.before in
                      let whole : x.sent_kept ≡ length x.sent = (k.link on.up).whole by.before in
                      (settled_on x b t there back g on before.0, omega (arith, before.1, by.all, on.kept))
                ]
            | inr fresh ↦ absurd (true≢false (sym c ∙ fresh.ready))
          ];
      frames = each_append (OwnFits z) t.says there
          (each_weaker (Says z back) (OwnFits z) (λ p h. own_new z back p.message p.frame h.tells) t.says g.says)
          (each_both (Named x b) (OwnFits x) (OwnFits z) (λ p n h. own_out x b t back k g p.message p.frame n h) there n r.frames);
    }

-- the receiver x takes a turn
settled_in : (a x : Host) (t : Turn) (there : List Packet) → Goes x there t → AllByRecursion (Named a x) there → Settled a.link.own x there → Settled a.link.own t.host there
settled_in a x t there g n s = starts_stay (λ start. start ≡ a.link.own) a x t there g n s

pub cut_less : (xs ys : List (List ℕ)) → xs ≡ take (length xs) ys → length xs ≤ length ys
cut_less xs ys e = let h : length xs ≡ length (take (length xs) ys) = ap length e in omega (arith, length-take (length xs) ys)

-- it takes frames of a that are on the disk of a
taken_in : (a x : Host) (t : Turn) (there : List Packet) → Goes x there t → AllByRecursion (OwnFits a) there → a.up ≡ true → Settled a.link.own x there → (length t.host.taken ≤ length x.taken) ⊎ ((a.link.ready ≡ true) × (length t.host.taken ≤ a.sent_kept))
taken_in a x t there g f a_up s =
    let z = t.host in
    elim (cases_Bool z.up) [
      | inl up ↦
          elim (g.up up) [
            | inl on ↦
                elim on.taken [
                  | inl same ↦ inl (omega (arith, ap length same))
                  | inr by ↦
                      let own : by.start ≡ a.link.own = s.adopted on.up by.start by.adopted in
                      let fits = look (OwnFits a) there (Frame by.start by.number) by.frame f by.said a_up own in
                      inr (fits.0, omega (arith, fits.1.1, by.next, ap length by.taken, length_push x.taken by.frame))
                ]
            | inr fresh ↦ inl (omega (arith, ap length fresh.taken))
          ]
      | inr down ↦ inl (cut_less z.taken x.taken (g.down down).taken)
    ]

unready_in : (a x : Host) (t : Turn) (there : List Packet) (most : ℕ) → Goes x there t → AllByRecursion (OwnFits a) there → a.up ≡ true → Settled a.link.own x there → a.link.ready ≡ false → length x.taken ≤ most → length t.host.taken ≤ most
unready_in a x t there most g f a_up s unready le =
    elim (taken_in a x t there g f a_up s) [ inl less ↦ omega arith | inr fits ↦ absurd (true≢false (sym fits.0 ∙ unready)) ]

ack_in : (a x : Host) (t : Turn) (there : List Packet) → Goes x there t → AllByRecursion (Named a x) there → AllByRecursion (OwnFits a) there → (m : Message) → AckFitsIn a x there m → AckFitsIn a t.host there m
ack_in a x t there g n f (Hello start question) h = tt
ack_in a x t there g n f (Welcome asker question start kept) h = tt
ack_in a x t there g n f (Frame start number) h = tt
ack_in a x t there g n f (Ack start other kept) h = λ up own.
    let before = h up own in
    (settled_in a x t there g n before.0, λ unready. unready_in a x t there kept g f up before.0 unready (before.1 unready))
ack_in a x t there g n f (Old count) h = tt

pub offer_closed : (P : ℕ → Type 0) (z : Host) → is_open z.link.pending ≡ false → (m : Message) → OfferIn P z m
offer_closed P z closed (Hello start question) = tt
offer_closed P z closed (Welcome asker question start kept) = λ _ _ _ opened. absurd (true≢false (sym opened ∙ closed))
offer_closed P z closed (Frame start number) = tt
offer_closed P z closed (Ack start other kept) = tt
offer_closed P z closed (Old count) = tt

-- what was adopted in this turn closed the question
adopted_in : (a x : Host) (t : Turn) (there : List Packet) → Goes x there t → AllByRecursion (Named a x) there → (a.up ≡ true → x.up ≡ true → x.link.adopted ≡ Some a.link.own → Settled a.link.own x there) → a.up ≡ true → t.host.up ≡ true → t.host.link.adopted ≡ Some a.link.own → Settled a.link.own t.host there
adopted_in a x t there g n r a_up up e =
    let z = t.host in
    let P = λ (start : ℕ). start ≡ a.link.own in
    elim (g.up up) [
      | inl on ↦
          elim on.question [
            | inl same ↦ settled_in a x t there g n (r a_up on.up (sym same.adopted ∙ e))
            | inr more ↦
                elim more [
                  | inl next ↦ settled_in a x t there g n (r a_up on.up (sym next.adopted ∙ e))
                  | inr answered ↦
                      record {
                        adopted = λ _ start s. same_some start a.link.own (sym s ∙ e);
                        offered = each_weaker (Named a x) (Offer P z) (λ p _. offer_closed P z (ap is_open answered.closed) p.message) there n;
                      }
                ]
          ]
      | inr fresh ↦ absurd (none_is_some a.link.own (sym fresh.adopted ∙ e))
    ]

ack_new : (a z : Host) (there : List Packet) → (a.up ≡ true → z.up ≡ true → z.link.adopted ≡ Some a.link.own → Settled a.link.own z there) → (m : Message) (frame : List ℕ) → z.up ≡ true → Tells z there m frame → AckFitsIn a z there m
ack_new a z there r (Hello start question) frame up s = tt
ack_new a z there r (Welcome asker question start kept) frame up s = tt
ack_new a z there r (Frame start number) frame up s = tt
ack_new a z there r (Ack start other kept) frame up s = λ a_up own. (r a_up up (s.1 ∙ ap (λ i. Some i) own), λ _. omega (arith, s.2))
ack_new a z there r (Old count) frame up s = tt

pub reaches_in : (a x : Host) (t : Turn) (there back : List Packet) → AllByRecursion (Named a x) there → Goes x there t → Reaches a x there back → Reaches a t.host there (t.says ++ back)
reaches_in a x t there back n g r =
    let z = t.host in
    let adopts = adopted_in a x t there g n r.adopted in
    record {
      adopted = adopts;
      acks = each_append (AckFits a z there) t.says back
          (each_weaker (Says z there) (AckFits a z there) (λ p h. ack_new a z there adopts p.message p.frame h.up h.tells) t.says g.says)
          (each_weaker (AckFits a x there) (AckFits a z there) (λ p h. ack_in a x t there g n r.frames p.message h) back r.acks);
      confirmed = λ up c f.
          let before = r.confirmed up c f in
          (settled_in a x t there g n before.0, unready_in a x t there a.link.acknowledged g r.frames up before.0 f before.1);
      ready = λ up c.
          let before = r.ready up c in
          (settled_in a x t there g n before.0, elim (taken_in a x t there g r.frames up before.0) [ inl less ↦ omega (arith, before.1) | inr fits ↦ fits.1 ]);
      frames = r.frames;
    }
