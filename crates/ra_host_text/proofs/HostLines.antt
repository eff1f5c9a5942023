-- Lines of hosts are read as they are written.
use Rattle.std.proofs.Common.{◌≡◌, ◌≢◌, ◌==◌, ◌⊎◌, inl, inr, ℕ, false, List, ◌∷◌, ◌++◌, Some, None, refl, sym, ap, subst, ◌∙◌, arith}
use Rattle.std.specs.Prelude.{All}
use Rattle.std.specs.Fmt.{decimal}
use Rattle.std.proofs.lemmas.Bool.Decides.{nat_tests}
use Rattle.std.proofs.lemmas.List.Elements.{All-append, All-cons, All-weaker}
use Rattle.std.proofs.lemmas.Option.{same_Some}
use Rattle.ra_stamp.specs.NodeId.{IsNodeNumber}
use Rattle.ra_frame.specs.declared.frame.Frame.{Frame}
use Rattle.ra_trace.proofs.Cuts.{IsFree}
use Rattle.ra_trace.proofs.Spelled.{reads_name, reads_node}
use Rattle.ra_host_text.specs.declared.host_line.HostLine.{HostLine}
use Rattle.ra_host_text.specs.declared.host_line.message_fault.MessageFault.{MessageFault}
use Rattle.ra_host_text.specs.declared.host_line.message_fault.MessageFault.TheVariants as fault
use Rattle.ra_host_text.specs.declared.host_message.HostMessage.{HostMessage}
use Rattle.ra_host_text.specs.Fields.{address_of}
use Rattle.ra_host_text.specs.HostText.{IsBetween, IsFrameDigits, IsHeard, IsHostLine, IsMessage, IsUnheard}
use Rattle.ra_host_text.proofs.Messages.{message_free, one_message}
use Rattle.ra_host_text.proofs.Takes.{join_3, takes_address}

-- what is read of the line
abbrev Address : Type 0
Address = List ℕ × (ℕ × (ℕ × List ℕ))

pub line_address : (line : List ℕ) (said : HostLine) (is : IsHostLine line said) → address_of line ≡ Some (said.cluster, (said.from, (said.to, is.text)))
line_address line said is =
    ap address_of (is.line_is ∙ sym (join_3 said.cluster (decimal said.from) (decimal said.to) is.text))
    ∙ takes_address.each (said.cluster, (said.from, (said.to, is.text))) (is.cluster, (is.from, is.to))

pub no_address : (line : List ℕ) → address_of line ≡ None → (said : HostLine) → IsHostLine line said → ⊥
no_address line none said is = let clash = sym none ∙ line_address line said is in absurd cc

pub no_message : (line cluster : List ℕ) (from to : ℕ) (text : List ℕ) → address_of line ≡ Some (cluster, (from, (to, text)))
    → ((m : HostMessage) → IsMessage text m → ⊥) → (said : HostLine) → IsHostLine line said → ⊥
no_message line cluster from to text found none said is =
    let same : (cluster, (from, (to, text))) ≡ (said.cluster, (said.from, (said.to, is.text))) = same_Some _ _ (sym found ∙ line_address line said is) in
    none said.message (subst (λ (t : List ℕ). IsMessage t said.message) (sym (ap (λ (a : Address). a.1.1.1) same)) is.message)

pub line_only : (line cluster : List ℕ) (from to : ℕ) (text : List ℕ) (m : HostMessage) → address_of line ≡ Some (cluster, (from, (to, text))) → IsMessage text m
    → IsHostLine line (record { cluster = cluster; from = from; to = to; message = m })
line_only line cluster from to text m found is =
    let h = takes_address.only line (cluster, (from, (to, text))) found in
    record {
      cluster = h.0.0;
      from = h.0.1.0;
      to = h.0.1.1;
      text = text;
      message = is;
      line_is = h.1 ∙ join_3 cluster (decimal from) (decimal to) text;
    }

-- ---- In one way

module _ (one_frame : (digits : List ℕ) (a b : Frame) → IsFrameDigits digits a → IsFrameDigits digits b → a ≡ b) where
  pub one_line : (line : List ℕ) (a b : HostLine) → IsHostLine line a → IsHostLine line b → a ≡ b
  one_line line a b is other =
      let same : (a.cluster, (a.from, (a.to, is.text))) ≡ (b.cluster, (b.from, (b.to, other.text))) =
      same_Some _ _ (sym (line_address line a is) ∙ line_address line b other) in
      let texts : other.text ≡ is.text = ap (λ (p : Address). p.1.1.1) (sym same) in
      let messages : a.message ≡ b.message = one_message one_frame is.text a.message b.message is.message (subst (λ (t : List ℕ). IsMessage t b.message) texts other.message) in
      λ i. record { cluster = (same i).0; from = (same i).1.0; to = (same i).1.1.0; message = messages i }

  module _ (line cluster : List ℕ) (from to : ℕ) where
    pub not_both : (m : HostMessage) (why : MessageFault) → IsHeard line cluster from to m → IsUnheard line cluster from to why → ⊥
    not_both m fault.Unknown h none = none (record { cluster = cluster; from = from; to = to; message = m }) h.0
    not_both m fault.Cluster h (said, is, other) = other (ap (λ (s : HostLine). s.cluster) (one_line line said (record { cluster = cluster; from = from; to = to; message = m }) is h.0))
    not_both m fault.From h (said, is, c, other) = other (ap (λ (s : HostLine). s.from) (one_line line said (record { cluster = cluster; from = from; to = to; message = m }) is h.0))
    not_both m fault.To h (said, is, c, f, other) = other (ap (λ (s : HostLine). s.to) (one_line line said (record { cluster = cluster; from = from; to = to; message = m }) is h.0))
    not_both m fault.Frame h (said, is, c, f, t, other) =
        let same = one_line line said (record { cluster = cluster; from = from; to = to; message = m }) is h.0 in
        other (subst (IsBetween from to) (sym (ap (λ (s : HostLine). s.message) same)) h.1)

    -- which tests a line passes, in the order of the causes
    abbrev Passes : HostLine → MessageFault → Type 0
    Passes said fault.Unknown = ⊥
    Passes said fault.Cluster = said.cluster ≢ cluster
    Passes said fault.From = (said.cluster ≡ cluster) × (said.from ≢ from)
    Passes said fault.To = (said.cluster ≡ cluster) × (said.from ≡ from) × (said.to ≢ to)
    Passes said fault.Frame = (said.cluster ≡ cluster) × (said.from ≡ from) × (said.to ≡ to) × (IsBetween from to said.message → ⊥)

    one_of : (said : HostLine) (a b : MessageFault) → Passes said a → Passes said b → a ≡ b
    one_of said fault.Unknown b h k = absurd h
    one_of said fault.Cluster fault.Unknown h k = absurd k
    one_of said fault.Cluster fault.Cluster h k = refl
    one_of said fault.Cluster fault.From h k = absurd (h k.0)
    one_of said fault.Cluster fault.To h k = absurd (h k.0)
    one_of said fault.Cluster fault.Frame h k = absurd (h k.0)
    one_of said fault.From fault.Unknown h k = absurd k
    one_of said fault.From fault.Cluster h k = absurd (k h.0)
    one_of said fault.From fault.From h k = refl
    one_of said fault.From fault.To h k = absurd (h.1 k.1)
    one_of said fault.From fault.Frame h k = absurd (h.1 k.1)
    one_of said fault.To fault.Unknown h k = absurd k
    one_of said fault.To fault.Cluster h k = absurd (k h.0)
    one_of said fault.To fault.From h k = absurd (k.1 h.1)
    one_of said fault.To fault.To h k = refl
    one_of said fault.To fault.Frame h k = absurd (h.2 k.2)
    one_of said fault.Frame fault.Unknown h k = absurd k
    one_of said fault.Frame fault.Cluster h k = absurd (k h.0)
    one_of said fault.Frame fault.From h k = absurd (k.1 h.1)
    one_of said fault.Frame fault.To h k = absurd (k.2 h.2)
    one_of said fault.Frame fault.Frame h k = refl

    told : (why : MessageFault) → IsUnheard line cluster from to why
        → ((why ≡ fault.Unknown) × ((said : HostLine) → IsHostLine line said → ⊥)) ⊎ ((said : HostLine) × IsHostLine line said × Passes said why)
    told fault.Unknown none = inl (refl, none)
    told fault.Cluster (said, is, other) = inr (said, is, other)
    told fault.From (said, is, c, other) = inr (said, is, (c, other))
    told fault.To (said, is, c, f, other) = inr (said, is, (c, f, other))
    told fault.Frame (said, is, c, f, t, other) = inr (said, is, (c, f, t, other))

    pub one_cause : (a b : MessageFault) → IsUnheard line cluster from to a → IsUnheard line cluster from to b → a ≡ b
    one_cause a b h k =
        elim (told a h) [
          | inl (unknown, none) ↦ elim (told b k) [
            | inl (unknown', none') ↦ unknown ∙ sym unknown'
            | inr (said, is, passes) ↦ absurd (none said is)
          ]
          | inr (said, is, passes) ↦ elim (told b k) [
            | inl (unknown', none') ↦ absurd (none' said is)
            | inr (other, is', passes') ↦ one_of said a b passes (subst (λ (s : HostLine). Passes s b) (one_line line other said is' is) passes')
          ]
        ]

-- ---- A line has no line feed

free : (bytes : List ℕ) → IsFree 10 bytes → All (λ byte. byte ≢ 10) bytes
free = All-weaker (λ b. (b == 10) ≡ false) (λ b. b ≢ 10) (λ b h. grind (arith, nat_tests))

pub line_free : (line : List ℕ) (said : HostLine) → IsHostLine line said → All (λ byte. byte ≢ 10) line
line_free line said is =
    let joined = is.line_is ∙ sym (join_3 said.cluster (decimal said.from) (decimal said.to) is.text) in
    let node = λ (n : ℕ) (h : IsNodeNumber n) (rest : List ℕ) (after : IsFree 10 rest).
    All-append (λ b. (b == 10) ≡ false) (decimal n) (32 ∷ rest) (reads_node.reads.no_feed n h) (All-cons (λ b. (b == 10) ≡ false) 32 rest refl after) in
    free line
    (subst (IsFree 10) (sym joined)
    (All-append (λ b. (b == 10) ≡ false) said.cluster (32 ∷ (decimal said.from ++ 32 ∷ (decimal said.to ++ 32 ∷ is.text))) (reads_name.reads.no_feed said.cluster is.cluster)
    (All-cons (λ b. (b == 10) ≡ false) 32 (decimal said.from ++ 32 ∷ (decimal said.to ++ 32 ∷ is.text)) refl
    (node said.from is.from (decimal said.to ++ 32 ∷ is.text) (node said.to is.to is.text (message_free is.text said.message is.message))))))
