-- In each turn a host goes on as stated.
use Rattle.std.proofs.Common.{◌≡◌, ◌≤◌, ◌+◌, ◌-◌, ◌==◌, ◌⊎◌, inl, inr, ℕ, List, [], ◌∷◌, ◌++◌, true, false, not, ◌&&◌, cond, length, get_or, take, max, min, refl, sym, ◌∙◌, ap, subst, Option, Some, None, arith}
use Rattle.std.specs.Prelude.{nat_lt, nat_le}
use Rattle.std.specs.List.{AllByRecursion, slice_get}
use Rattle.std.proofs.lemmas.Bool.{or_left, eq-eqb, cond_both, and_parts, ltb-true, leb-true, ltb-false, not-true, eqb-true, or_right, true≢false, false≢true}
use Rattle.std.proofs.lemmas.List.{take-append-le, length-take, length_push}
use Rattle.ra_link.specs.declared.message.Message.{Message}
use Rattle.ra_link.specs.declared.message.Message.TheVariants.{Hello, Welcome, Frame, Ack, Old}
use Rattle.ra_link.specs.declared.link.Link.{Link}
use Rattle.ra_link.specs.Link.{greatest, asks, hears_hello, hears_welcome, hears_frame, hears_ack, is_nonce, is_open, is_answer, is_above, is_due, is_next, is_ack, shows_old, adopts, may_replay, replays, makes, hello_of, welcome_of, ack_to, ack_of, old_of, may_say, frame_of}
use Rattle.ra_link.specs.Pair.{Host, Packet, Event, silent, packets, framed, ends, linked, was_used, begins, hears, hears_packet, replays_book, makes_frame, syncs_book, crashes, acts, rests, turn, count_in}
use Rattle.ra_link.specs.Pair.Event.{Start, Connects, Comes, Replays, Makes, Syncs, Says_hello, Says_ack, Says_old, Says_frame, Crashes}
use Rattle.ra_link.specs.PutBack.{puts_back}
use Rattle.ra_link.proofs.Flow.{BookOf, take_itself, front_of_front}
use Rattle.ra_link.proofs.Going.{Confirms, CountsFor, EndsFor, Goes, GoesOn, IsBook, IsCut, IsIn, IsSameQuestion, Questions, Says, nonce_known, none_is_some}

-- ---- Links

-- a link of x that goes on, with the same book
record LinkGoes (x : Host) (back : List Packet) (l : Link) : Type 0 where
  own : l.own ≡ x.link.own
  question : Questions x.link l back
  book : BookOf x l
  ready : l.ready ≡ x.link.ready
  acknowledged : x.link.acknowledged ≤ l.acknowledged
  confirmed : l.confirmed ≡ true → (x.link.confirmed ≡ true) ⊎ Confirms x.link l.acknowledged back
  unknown : l.adopted ≡ None → l.acknowledged ≡ x.link.acknowledged

same_question : (x : Link) (back : List Packet) → IsSameQuestion x x back
same_question x back = record { asked = refl; adopted = refl; pending = refl; acknowledged = inl refl; is_old = λ o. inl o }

same_link : (x : Host) (back : List Packet) → BookOf x x.link → LinkGoes x back x.link
same_link x back k =
    record { own = refl; question = inl (same_question x.link back); book = k; ready = refl; acknowledged = omega arith; confirmed = λ c. inl c; unknown = λ _. refl }

-- but for what was heard
asks_goes : (x : Host) (back : List Packet) (heard : Option ℕ) → BookOf x x.link → LinkGoes x back (asks (record x.link { heard = heard }))
asks_goes x back heard k =
    let l : Link = record x.link { heard = heard } in
    cond_both (nat_lt l.asked greatest) (record l { asked = l.asked + 1; pending = Some l.acknowledged; is_old = false }) l (LinkGoes x back)
    (λ _. record { own = refl; question = inr (inl (record { asked = refl; adopted = refl; pending = refl; acknowledged = refl; is_old = refl })); book = k; ready = refl; acknowledged = omega arith; confirmed = λ c. inl c; unknown = λ _. refl })
    (λ _. record { own = refl; question = inl (record { asked = refl; adopted = refl; pending = refl; acknowledged = inl refl; is_old = λ o. inl o }); book = k; ready = refl; acknowledged = omega arith; confirmed = λ c. inl c; unknown = λ _. refl })

hello_goes : (x : Host) (back : List Packet) (start : ℕ) → BookOf x x.link → LinkGoes x back (hears_hello x.link start)
hello_goes x back start k =
    cond_both (is_nonce x.link.heard start) x.link (asks (record x.link { heard = Some start })) (LinkGoes x back)
    (λ _. same_link x back k) (λ _. asks_goes x back (Some start) k)

welcome_goes : (x : Host) (back : List Packet) (asker question start kept : ℕ) (frame : List ℕ) → IsIn back (Welcome asker question start kept) frame → BookOf x x.link → LinkGoes x back (hears_welcome x.link asker question start kept)
welcome_goes x back asker question start kept frame i k =
    let l = x.link in
    cond_both (is_answer l asker question) (cond (shows_old l start kept) (record l { is_old = true }) (adopts l start kept)) l (LinkGoes x back)
    (λ e.
    let both = and_parts (asker == l.own && question == l.asked) (is_open l.pending) e in
    let names = and_parts (asker == l.own) (question == l.asked) both.0 in
    let own : asker ≡ l.own = eqb-true asker l.own names.0 in
    let number : question ≡ l.asked = eqb-true question l.asked names.1 in
    cond_both (shows_old l start kept) (record l { is_old = true }) (adopts l start kept) (LinkGoes x back)
    (λ shows.
    record {
      own = refl;
      question = inl (record {
        asked = refl;
        adopted = refl;
        pending = refl;
        acknowledged = inl refl;
        is_old = λ _. inr (record { asker = asker; question = question; start = start; kept = kept; frame = frame; said = i; own = own; number = number; open_before = both.1; shows = shows });
      });
      book = k;
      ready = refl;
      acknowledged = omega arith;
      confirmed = λ c. inl c;
      unknown = λ _. refl;
    })
    (λ whole.
    record {
      own = refl;
      question = inr (inr (record {
        asker = asker;
        question = question;
        start = start;
        kept = kept;
        frame = frame;
        said = i;
        own = own;
        number = number;
        open_before = both.1;
        closed = refl;
        whole = whole;
        acknowledged = refl;
        is_old = refl;
        adopted = refl;
        asked = refl;
      }));
      book = k;
      ready = refl;
      acknowledged = omega arith;
      confirmed = λ c. inl c;
      unknown = λ none. absurd (none_is_some start (sym none));
    }))
    (λ _. same_link x back k)

ack_goes : (x : Host) (back : List Packet) (start other kept : ℕ) (frame : List ℕ) → IsIn back (Ack start other kept) frame → BookOf x x.link → LinkGoes x back (hears_ack x.link start other kept)
ack_goes x back start other kept frame i k =
    let l = x.link in
    cond_both (is_ack l start other) (record l { acknowledged = max l.acknowledged kept; confirmed = true }) l (LinkGoes x back)
    (λ e.
    let adopted : l.adopted ≡ Some start = nonce_known l.adopted start (and_parts (is_nonce l.adopted start) (other == l.own) e).0 in
    record {
      own = refl;
      question = inl (record {
        asked = refl;
        adopted = refl;
        pending = refl;
        acknowledged = inr (record { start = start; other = other; kept = kept; frame = frame; said = i; adopted = adopted; acknowledged = refl });
        is_old = λ o. inl o;
      });
      book = k;
      ready = refl;
      acknowledged = omega arith;
      confirmed = λ _. inr (record {
        start = start;
        other = other;
        kept = kept;
        frame = frame;
        said = i;
        adopted = adopted;
        own_start = eqb-true other l.own (and_parts (is_nonce l.adopted start) (other == l.own) e).1;
        at_most = omega arith;
      });
      unknown = λ none. absurd (none_is_some start (sym none ∙ adopted));
    })
    (λ _. same_link x back k)

-- ---- Turns

not_cut : (x : Host) → IsCut x x
not_cut x = record { link = refl; sent = sym (take_itself x.sent); taken = sym (take_itself x.taken) }

links_on : (x : Host) (back : List Packet) → x.up ≡ true → (l : Link) → LinkGoes x back l → GoesOn x (linked x l) back
links_on x back up l g =
    record {
      up = up;
      own = g.own;
      question = g.question;
      taken = inl refl;
      kept = omega arith;
      stored = omega arith;
      front = take_itself x.sent;
      unready = λ _. refl;
      ready = λ r. g.ready ∙ r;
      readied = λ r. inl (sym g.ready ∙ r);
      acknowledged = g.acknowledged;
      confirmed = g.confirmed;
      unknown = g.unknown;
    }

links_saying : (x : Host) (back : List Packet) → IsBook x → x.up ≡ true → (l : Link) (says : List Packet) → LinkGoes x back l → AllByRecursion (Says (linked x l) back) says → Goes x back (record { host = linked x l; says = says })
links_saying x back k up l says g s =
    record {
      book = record { sent = k.sent; taken = k.taken; link = λ _. g.book; unaccused = k.unaccused };
      starts = λ _ u. u;
      up = λ _. inl (links_on x back up l g);
      down = λ d. absurd (true≢false (sym up ∙ d));
      accused = λ a. inl a;
      says = s;
    }

links : (x : Host) (back : List Packet) → IsBook x → x.up ≡ true → (l : Link) → LinkGoes x back l → Goes x back (silent (linked x l))
links x back k up l g = links_saying x back k up l [] g tt

stays_saying : (x : Host) (back : List Packet) → IsBook x → x.up ≡ true → (says : List Packet) → AllByRecursion (Says x back) says → Goes x back (record { host = x; says = says })
stays_saying x back k up says s = links_saying x back k up x.link says (same_link x back (k.link up)) s

stays_up : (x : Host) (back : List Packet) → IsBook x → x.up ≡ true → Goes x back (silent x)
stays_up x back k up = stays_saying x back k up [] tt

stays_down : (x : Host) (back : List Packet) → IsBook x → x.up ≡ false → Goes x back (silent x)
stays_down x back k down =
    record { book = k; starts = λ _ u. u; up = λ up. absurd (true≢false (sym up ∙ down)); down = λ _. not_cut x; accused = λ a. inl a; says = tt }

-- its book is cut, or not
falls : (x z : Host) (back : List Packet) → z.up ≡ false → z.starts ≡ x.starts → z.sent_kept ≤ length z.sent → z.taken_kept ≤ length z.taken → IsCut x z → (z.accused ≡ true → (x.accused ≡ true) ⊎ EndsFor x back) → Goes x back (silent z)
falls x z back down same sent taken cut why =
    record {
      book = record { sent = sent; taken = taken; link = λ up. absurd (true≢false (sym up ∙ down)); unaccused = λ up. absurd (true≢false (sym up ∙ down)) };
      starts = λ start u. ap (was_used start) same ∙ u;
      up = λ up. absurd (true≢false (sym up ∙ down));
      down = λ _. cut;
      accused = why;
      says = tt;
    }

ends_goes : (x : Host) (back : List Packet) → IsBook x → EndsFor x back → Goes x back (ends x)
ends_goes x back k why = falls x (record x { up = false; accused = true }) back refl refl k.sent k.taken (record { link = refl; sent = sym (take_itself x.sent); taken = sym (take_itself x.taken) }) (λ _. inr why)

front_is_cut : (m : ℕ) (xs : List (List ℕ)) → take m xs ≡ take (length (take m xs)) xs
front_is_cut m xs = front_of_front m xs xs (sym (take_itself xs))

hears_above : (x : Host) (back : List Packet) → x.up ≡ true → (m : Message) (frame : List ℕ) → IsIn back m frame → CountsFor x.link m → is_above x.link (count_in m) ≡ true → EndsFor x back
hears_above x back up m frame i counts e =
    let both = and_parts x.link.ready (nat_lt x.link.sent (count_in m)) e in
    inl (record { message = m; frame = frame; said = i; up = up; ready = both.0; counts = counts; above = ltb-true x.link.sent (count_in m) both.1 })

hears_goes : (x : Host) (back : List Packet) → IsBook x → x.up ≡ true → (m : Message) (frame : List ℕ) → IsIn back m frame → Goes x back (hears x m frame)
hears_goes x back k up (Hello start question) frame i =
    let l = hears_hello x.link start in
    let g : LinkGoes x back l = hello_goes x back start (k.link up) in
    links_saying x back k up l (packets (Some (welcome_of x.link start question))) g
    (record { up = up; tells = (sym g.own, (frame, i), (k.link up).kept_all) }, tt)
hears_goes x back k up (Welcome asker question start kept) frame i =
    let l = hears_welcome x.link asker question start kept in
    cond_both (is_answer x.link asker question && is_above x.link kept) (ends x) (silent (linked x l)) (Goes x back)
    (λ e.
    let both = and_parts (is_answer x.link asker question) (is_above x.link kept) e in
    let answer = and_parts (asker == x.link.own && question == x.link.asked) (is_open x.link.pending) both.0 in
    let names = and_parts (asker == x.link.own) (question == x.link.asked) answer.0 in
    let counts : CountsFor x.link (Welcome asker question start kept) = (eqb-true asker x.link.own names.0, eqb-true question x.link.asked names.1, answer.1) in
    ends_goes x back k (hears_above x back up (Welcome asker question start kept) frame i counts both.1))
    (λ _. links x back k up l (welcome_goes x back asker question start kept frame i (k.link up)))
hears_goes x back k up (Frame start number) frame i =
    let b = k.link up in
    cond_both (is_next x.link start number) (silent (record x { link = hears_frame x.link start number; taken = x.taken ++ frame ∷ [] })) (silent x) (Goes x back)
    (λ e.
    let l : Link = record x.link { taken = x.link.taken + 1 } in
    let z : Host = record x { link = l; taken = x.taken ++ frame ∷ [] } in
    let same : l ≡ hears_frame x.link start number = sym (ap (λ t. cond t l x.link) e) in
    let parts = and_parts (is_due x.link start) (number == x.link.taken + 1) e in
    let due = and_parts x.link.ready (is_nonce x.link.adopted start) parts.0 in
    let n : number ≡ x.link.taken + 1 = eqb-true number (x.link.taken + 1) parts.1 in
    subst (λ link. Goes x back (silent (record x { link = link; taken = x.taken ++ frame ∷ [] }))) same
    (record {
      book = record {
        unaccused = k.unaccused;
        sent = k.sent;
        taken = omega (arith, k.taken, length_push x.taken frame);
        link = λ _. record { taken_all = ap (λ j. j + 1) b.taken_all ∙ sym (length_push x.taken frame); kept_all = b.kept_all; made_all = b.made_all; sent_all = b.sent_all; whole = b.whole };
      };
      starts = λ _ u. u;
      up = λ _. inl (record {
        up = up;
        own = refl;
        question = inl (record { asked = refl; adopted = refl; pending = refl; acknowledged = inl refl; is_old = λ o. inl o });
        taken = inr (record {
          start = start;
          number = number;
          frame = frame;
          said = i;
          next = n ∙ ap (λ j. j + 1) b.taken_all;
          adopted = nonce_known x.link.adopted start due.1;
          taken = refl;
        });
        kept = omega arith;
        stored = omega arith;
        front = take_itself x.sent;
        unready = λ _. refl;
        ready = λ r. r;
        readied = λ r. inl r;
        acknowledged = omega arith;
        confirmed = λ c. inl c;
        unknown = λ _. refl;
      });
      down = λ d. absurd (true≢false (sym up ∙ d));
      accused = λ a. inl a;
      says = tt;
    }))
    (λ _. stays_up x back k up)
hears_goes x back k up (Ack start other kept) frame i =
    let l = hears_ack x.link start other kept in
    cond_both (is_ack x.link start other && is_above x.link kept) (ends x) (silent (linked x l)) (Goes x back)
    (λ e.
    let both = and_parts (is_ack x.link start other) (is_above x.link kept) e in
    let names = and_parts (is_nonce x.link.adopted start) (other == x.link.own) both.0 in
    let counts : CountsFor x.link (Ack start other kept) = (nonce_known x.link.adopted start names.0, eqb-true other x.link.own names.1) in
    ends_goes x back k (hears_above x back up (Ack start other kept) frame i counts both.1))
    (λ _. links x back k up l (ack_goes x back start other kept frame i (k.link up)))
hears_goes x back k up (Old count) frame i =
    cond_both (not x.link.ready && nat_lt x.link.taken count) (ends x) (silent x) (Goes x back)
    (λ e.
    let both = and_parts (not x.link.ready) (nat_lt x.link.taken count) e in
    ends_goes x back k
    (inr (inl (record { count = count; frame = frame; said = i; up = up; unready = not-true x.link.ready both.0; less = ltb-true x.link.taken count both.1 }))))
    (λ _. stays_up x back k up)

packet_goes : (x : Host) (back : List Packet) → IsBook x → x.up ≡ true → (which : ℕ) (p : Option Packet) → slice_get back which ≡ p → Goes x back (hears_packet x p)
packet_goes x back k up which None e = stays_up x back k up
packet_goes x back k up which (Some p) e = hears_goes x back k up p.message p.frame (which, e)

replays_goes : (x : Host) (back : List Packet) → IsBook x → x.up ≡ true → Goes x back (replays_book x)
replays_goes x back k up =
    let b = k.link up in
    let all = length x.sent in
    let may = may_replay x.link in
    let less = nat_lt all x.link.acknowledged in
    cond_both (may && less) (ends x) (cond may (silent (linked x (replays x.link all))) (silent x)) (Goes x back)
    (λ e.
    let both = and_parts may less e in
    let parts = and_parts (not x.link.ready) x.link.confirmed both.0 in
    ends_goes x back k
    (inr (inr (record { up = up; unready = not-true x.link.ready parts.0; confirmed = parts.1; less = ltb-true all x.link.acknowledged both.1 }))))
    (λ not_less.
    cond_both may (silent (linked x (replays x.link all))) (silent x) (Goes x back)
    (λ e.
    let parts = and_parts (not x.link.ready) x.link.confirmed e in
    let before : x.link.ready ≡ false = not-true x.link.ready parts.0 in
    let enough : less ≡ false = sym (ap (λ m. m && less) e) ∙ not_less in
    record {
      book = record {
        unaccused = k.unaccused;
        sent = k.sent;
        taken = k.taken;
        link = λ _. record { taken_all = b.taken_all; kept_all = b.kept_all; made_all = λ _. refl; sent_all = λ _. sym (b.whole before); whole = λ f. absurd (true≢false f) };
      };
      starts = λ _ u. u;
      up = λ _. inl (record {
        up = up;
        own = refl;
        question = inl (record { asked = refl; adopted = refl; pending = refl; acknowledged = inl refl; is_old = λ o. inl o });
        taken = inl refl;
        kept = omega arith;
        stored = omega arith;
        front = take_itself x.sent;
        unready = λ _. refl;
        ready = λ _. refl;
        readied = λ _. inr (record { before = before; confirmed = parts.1; all = ltb-false all x.link.acknowledged enough });
        acknowledged = omega arith;
        confirmed = λ c. inl c;
        unknown = λ _. refl;
      });
      down = λ d. absurd (true≢false (sym up ∙ d));
      accused = λ a. inl a;
      says = tt;
    })
    (λ _. stays_up x back k up))

makes_goes : (x : Host) (back : List Packet) → IsBook x → x.up ≡ true → (frame : List ℕ) → Goes x back (makes_frame x frame)
makes_goes x back k up frame =
    let b = k.link up in
    cond_both (x.link.ready && nat_lt x.link.made greatest) (silent (record x { link = makes x.link; sent = x.sent ++ frame ∷ [] })) (silent x) (Goes x back)
    (λ e.
    let is_ready : x.link.ready ≡ true = (and_parts x.link.ready (nat_lt x.link.made greatest) e).0 in
    record {
      book = record {
        unaccused = k.unaccused;
        sent = omega (arith, k.sent, length_push x.sent frame);
        taken = k.taken;
        link = λ _.
            record {
              taken_all = b.taken_all;
              kept_all = b.kept_all;
              made_all = λ r. ap (λ j. j + 1) (b.made_all r) ∙ sym (length_push x.sent frame);
              sent_all = b.sent_all;
              whole = λ f. absurd (true≢false (sym is_ready ∙ f));
            };
      };
      starts = λ _ u. u;
      up = λ _. inl (record {
        up = up;
        own = refl;
        question = inl (record { asked = refl; adopted = refl; pending = refl; acknowledged = inl refl; is_old = λ o. inl o });
        taken = inl refl;
        kept = omega arith;
        stored = omega arith;
        front = take-append-le (length x.sent) x.sent (frame ∷ []) (omega arith) ∙ take_itself x.sent;
        unready = λ f. absurd (true≢false (sym is_ready ∙ f));
        ready = λ r. r;
        readied = λ r. inl r;
        acknowledged = omega arith;
        confirmed = λ c. inl c;
        unknown = λ _. refl;
      });
      down = λ d. absurd (true≢false (sym up ∙ d));
      accused = λ a. inl a;
      says = tt;
    })
    (λ _. stays_up x back k up)

syncs_goes : (x : Host) (back : List Packet) → IsBook x → x.up ≡ true → Goes x back (silent (syncs_book x))
syncs_goes x back k up =
    let b = k.link up in
    record {
      book = record {
        unaccused = k.unaccused;
        sent = omega arith;
        taken = omega arith;
        link = λ _. record { taken_all = b.taken_all; kept_all = b.taken_all; made_all = b.made_all; sent_all = b.made_all; whole = λ _. refl };
      };
      starts = λ _ u. u;
      up = λ _. inl (record {
        up = up;
        own = refl;
        question = inl (record { asked = refl; adopted = refl; pending = refl; acknowledged = inl refl; is_old = λ o. inl o });
        taken = inl refl;
        kept = k.sent;
        stored = k.taken;
        front = take_itself x.sent;
        unready = λ _. refl;
        ready = λ r. r;
        readied = λ r. inl r;
        acknowledged = omega arith;
        confirmed = λ c. inl c;
        unknown = λ _. refl;
      });
      down = λ d. absurd (true≢false (sym up ∙ d));
      accused = λ a. inl a;
      says = tt;
    }

hello_says : (x : Host) (back : List Packet) → x.up ≡ true → AllByRecursion (Says x back) (packets (hello_of x.link))
hello_says x back up = cond_both (is_open x.link.pending) (Some (Hello x.link.own x.link.asked)) None (λ m. AllByRecursion (Says x back) (packets m)) (λ _. (record { up = up; tells = (refl, refl) }, tt)) (λ _. tt)

ack_says : (x : Host) (back : List Packet) → x.up ≡ true → BookOf x x.link → (o : Option ℕ) → x.link.adopted ≡ o → AllByRecursion (Says x back) (packets (ack_to o x.link))
ack_says x back up k None same = tt
ack_says x back up k (Some other) same =
    cond_both (x.link.kept == x.link.taken) (Some (Ack x.link.own other x.link.kept)) None (λ m. AllByRecursion (Says x back) (packets m))
    (λ e. (record { up = up; tells = (refl, same, eqb-true x.link.kept x.link.taken e ∙ k.taken_all, k.kept_all) }, tt)) (λ _. tt)

old_says : (x : Host) (back : List Packet) → x.up ≡ true → AllByRecursion (Says x back) (packets (old_of x.link))
old_says x back up = cond_both (is_open x.link.pending && x.link.is_old) (Some (Old x.link.acknowledged)) None (λ m. AllByRecursion (Says x back) (packets m)) (λ e. (record { up = up; tells = ((and_parts (is_open x.link.pending) x.link.is_old e).1, refl) }, tt)) (λ _. tt)

frame_says : (x : Host) (back : List Packet) → x.up ≡ true → BookOf x x.link → (number : ℕ) → AllByRecursion (Says x back) (framed (get_or x.sent (number - 1) []) (frame_of x.link number))
frame_says x back up k number =
    cond_both (may_say x.link number) (Some (Frame x.link.own number)) None (λ m. AllByRecursion (Says x back) (framed (get_or x.sent (number - 1) []) m))
    (λ e.
    let both = and_parts (x.link.ready && nat_lt 0 number) (nat_le number x.link.sent) e in
    let first = and_parts x.link.ready (nat_lt 0 number) both.0 in
    let s : x.link.sent ≡ x.sent_kept = k.sent_all first.0 in
    let high : number ≤ x.link.sent = leb-true number x.link.sent both.1 in
    (record { up = up; tells = (refl, first.0, (ltb-true 0 number first.1, omega arith, refl)) }, tt))
    (λ _. tt)

crashes_goes : (x : Host) (back : List Packet) → IsBook x → (sent taken : ℕ) → Goes x back (silent (crashes x sent taken))
crashes_goes x back k sent taken =
    let m = max sent x.sent_kept in
    let n = max taken x.taken_kept in
    falls x (crashes x sent taken) back refl refl (omega (arith, length-take m x.sent, k.sent)) (omega (arith, length-take n x.taken, k.taken))
    (record { link = refl; sent = front_is_cut m x.sent; taken = front_is_cut n x.taken })
    (λ a. inl a)

begins_goes : (x : Host) (back : List Packet) (nonce : ℕ) → was_used nonce x.starts ≡ false → Goes x back (silent (begins x nonce))
begins_goes x back nonce new =
    record {
      book = record {
        unaccused = λ _. refl;
        sent = omega arith;
        taken = omega arith;
        link = λ _. record { taken_all = refl; kept_all = refl; made_all = λ t. absurd (false≢true t); sent_all = λ t. absurd (false≢true t); whole = λ _. refl };
      };
      starts = λ start u. or_right (start == nonce) (was_used start x.starts) u;
      up = λ _. inr (record { unused = new; used = or_left (nonce == nonce) (was_used nonce x.starts) (eq-eqb nonce nonce refl); ready = refl; confirmed = refl; adopted = refl; unknown = refl; pending = refl; is_old = refl; sent = refl; taken = refl });
      down = λ d. absurd (true≢false d);
      accused = λ a. absurd (false≢true a);
      says = tt;
    }

pub put_back_goes : (x : Host) (back : List Packet) → IsBook x → (sent taken : ℕ) → Goes x back (silent (puts_back x sent taken))
put_back_goes x back k sent taken =
    let older : Host = record x { sent = take sent x.sent; taken = take taken x.taken; sent_kept = min sent x.sent_kept; taken_kept = min taken x.taken_kept } in
    cond_both x.up x older (λ z. Goes x back (silent z)) (λ up. stays_up x back k up)
    (λ down. falls x older back down refl (omega (arith, length-take sent x.sent, k.sent)) (omega (arith, length-take taken x.taken, k.taken)) (record { link = refl; sent = front_is_cut sent x.sent; taken = front_is_cut taken x.taken }) (λ a. inl a))

acts_goes : (x : Host) (back : List Packet) → IsBook x → x.up ≡ true → (e : Event) → Goes x back (acts back x e)
acts_goes x back k up (Start nonce) = stays_up x back k up
acts_goes x back k up Connects = links x back k up (asks x.link) (asks_goes x back x.link.heard (k.link up))
acts_goes x back k up (Comes which) = packet_goes x back k up which (slice_get back which) refl
acts_goes x back k up Replays = replays_goes x back k up
acts_goes x back k up (Makes frame) = makes_goes x back k up frame
acts_goes x back k up Syncs = syncs_goes x back k up
acts_goes x back k up Says_hello = stays_saying x back k up (packets (hello_of x.link)) (hello_says x back up)
acts_goes x back k up Says_ack = stays_saying x back k up (packets (ack_of x.link)) (ack_says x back up (k.link up) x.link.adopted refl)
acts_goes x back k up Says_old = stays_saying x back k up (packets (old_of x.link)) (old_says x back up)
acts_goes x back k up (Says_frame number) = stays_saying x back k up (framed (get_or x.sent (number - 1) []) (frame_of x.link number)) (frame_says x back up (k.link up) number)
acts_goes x back k up (Crashes sent taken) = crashes_goes x back k sent taken

rests_goes : (x : Host) (back : List Packet) → IsBook x → x.up ≡ false → (e : Event) → Goes x back (rests x e)
rests_goes x back k down (Start nonce) =
    cond_both (was_used nonce x.starts) x (begins x nonce) (λ z. Goes x back (silent z)) (λ _. stays_down x back k down) (λ new. begins_goes x back nonce new)
rests_goes x back k down Connects = stays_down x back k down
rests_goes x back k down (Comes which) = stays_down x back k down
rests_goes x back k down Replays = stays_down x back k down
rests_goes x back k down (Makes frame) = stays_down x back k down
rests_goes x back k down Syncs = stays_down x back k down
rests_goes x back k down Says_hello = stays_down x back k down
rests_goes x back k down Says_ack = stays_down x back k down
rests_goes x back k down Says_old = stays_down x back k down
rests_goes x back k down (Says_frame number) = stays_down x back k down
rests_goes x back k down (Crashes sent taken) = crashes_goes x back k sent taken

pub turn_goes : (x : Host) (back : List Packet) → IsBook x → (e : Event) → Goes x back (turn back x e)
turn_goes x back k e = cond_both x.up (acts back x e) (rests x e) (Goes x back) (λ up. acts_goes x back k up e) (λ down. rests_goes x back k down e)
