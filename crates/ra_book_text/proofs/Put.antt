-- What was put out, one text after the other.
use Rattle.std.proofs.Common.{◌≡◌, ◌≢◌, ℕ, true, false, List, [], ◌++◌, Option, Some, None, Result, Ok, Err, refl, sym, ap, subst, ◌∙◌, append_assoc}
use Rattle.std.proofs.lemmas.List.{append-nil}
use Rattle.std.specs.Result.{OnOk, OnErr, is_err}
use Rattle.std.specs.Io.KnownBytes.{Appends, Keeps}
use Rattle.std.proofs.KnownBytes.{Appends-trans, Appends-nil}
use Rattle.ra_book_text.specs.declared.answering.waiting_output.Output.{Output}
use Rattle.ra_book_text.specs.Output.{HasPut, Puts}

-- two texts
pub both : (a b c : Option (List ℕ)) (x y z : Output) (one other : List ℕ) → Puts a b x y one → Puts b c y z other → Puts a c x z (one ++ other)
both a b c x y z one other f g first earlier h =
    subst (λ (t : List ℕ). HasPut first c t z) (append_assoc earlier one other) (g first (earlier ++ one) (f first earlier h))

-- no text
pub none : (a : Option (List ℕ)) (x : Output) → Puts a a x x []
none a x first earlier h = subst (λ (t : List ℕ). HasPut first a t x) (sym (append-nil earlier)) h

-- the same under another name
pub renamed : (a b : Option (List ℕ)) (x y : Output) (one other : List ℕ) → one ≡ other → Puts a b x y one → Puts a b x y other
renamed a b x y one other same f = subst (λ (t : List ℕ). Puts a b x y t) same f

-- nothing is written, and the text waits
pub waits : (a : Option (List ℕ)) (x y : Output) (text : List ℕ) → x.failed ≡ false → y.failed ≡ x.failed → y.waiting.items ≡ x.waiting.items ++ text → Puts a a x y text
waits a x y text works same is first earlier h = record {
  sent = h.sent;
  rest = h.rest ++ text;
  appends = h.appends;
  text_is = ap (λ (t : List ℕ). t ++ text) h.text_is ∙ append_assoc h.sent h.rest text;
  waits = λ e. ap (λ (t : List ℕ). t ++ text) (h.waits works) ∙ sym is;
}

-- the writer failed before, and the text is dropped
pub dropped : (a : Option (List ℕ)) (x : Output) (text : List ℕ) → x.failed ≡ true → Puts a a x x text
dropped a x text failed first earlier h = record {
  sent = h.sent;
  rest = h.rest ++ text;
  appends = h.appends;
  text_is = ap (λ (t : List ℕ). t ++ text) h.text_is ∙ append_assoc h.sent h.rest text;
  waits = λ e. absurd (let clash : true ≡ false = sym failed ∙ e in cc);
}

-- all that waited is written
pub written : (a b : Option (List ℕ)) (x y : Output) → x.failed ≡ false → Appends a b x.waiting.items → y.waiting.items ≡ [] → Puts a b x y []
written a b x y works went empty first earlier h = record {
  sent = h.sent ++ x.waiting.items;
  rest = [];
  appends = Appends-trans first a b h.sent x.waiting.items h.appends went;
  text_is = append-nil earlier ∙ (h.text_is ∙ (ap (λ (t : List ℕ). h.sent ++ t) (h.waits works) ∙ sym (append-nil (h.sent ++ x.waiting.items))));
  waits = λ e. sym empty;
}

-- a part of it is written, and then the writer failed
pub broken : (a b : Option (List ℕ)) (x y : Output) (prefix rest : List ℕ) → x.failed ≡ false → x.waiting.items ≡ prefix ++ rest → Appends a b prefix
    → y.failed ≡ true → Puts a b x y []
broken a b x y prefix rest works is went failed first earlier h = record {
  sent = h.sent ++ prefix;
  rest = rest;
  appends = Appends-trans first a b h.sent prefix h.appends went;
  text_is = append-nil earlier ∙ (h.text_is ∙ (ap (λ (t : List ℕ). h.sent ++ t) (h.waits works ∙ is) ∙ sym (append_assoc h.sent prefix rest)));
  waits = λ e. absurd (let clash : true ≡ false = sym failed ∙ e in cc);
}

-- all that waited was to be written, and it is, or a part of it
pub tried : {E : Type 0} (a b : Option (List ℕ)) (x y : Output) (bytes : List ℕ) (went : Result (Unit {0}) E) → x.failed ≡ false → bytes ≡ x.waiting.items
    → y.failed ≡ is_err went → y.waiting.items ≡ [] → OnOk went (Appends a b bytes)
    → OnErr went ((prefix : List ℕ) × (rest : List ℕ) × (bytes ≡ prefix ++ rest) × (rest ≢ []) × Appends a b prefix) → Puts a b x y []
tried a b x y bytes (Ok done) works all fails empty ok err = written a b x y works (subst (Appends a b) all ok) empty
tried a b x y bytes (Err fault) works all fails empty ok err = broken a b x y err.0 err.1 works (sym all ∙ err.2) err.4 fails

-- what a writer keeps
Appends-kept : (a b c : Option (List ℕ)) (bs : List ℕ) → Appends a b bs → Keeps b c → Appends a c bs
Appends-kept None b c bs p q = tt
Appends-kept (Some x) None c bs p q = absurd p
Appends-kept (Some x) (Some y) None bs p q = absurd q
Appends-kept (Some x) (Some y) (Some z) bs p q = q ∙ p

-- the writer passes on what it has, or fails to
pub passed_on : (a b : Option (List ℕ)) (x y : Output) → x.failed ≡ false → Keeps a b → y.waiting.items ≡ x.waiting.items → Puts a b x y []
passed_on a b x y works kept same first earlier h = record {
  sent = h.sent;
  rest = h.rest;
  appends = Appends-kept first a b h.sent h.appends kept;
  text_is = append-nil earlier ∙ h.text_is;
  waits = λ e. h.waits works ∙ sym same;
}

-- at first nothing was put out
pub at_first : (a : Option (List ℕ)) (x : Output) → x.waiting.items ≡ [] → HasPut a a [] x
at_first a x empty = record { sent = []; rest = []; appends = Appends-nil a; text_is = refl; waits = λ e. sym empty }
