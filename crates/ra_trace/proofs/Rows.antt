-- The forms of lines: what is read by one is a line that begins like it.
use Rattle.std.proofs.Common.{◌≡◌, ◌^◌, ◌<◌, ◌==◌, ℕ, true, false, not, inl, inr, List, [], ◌∷◌, ◌++◌, if◌then◌else◌, Option, Some, None, option_map, refl, sym, ap, subst, ◌∙◌, codes, append_assoc}
use Rattle.std.specs.Fmt.{decimal}
use Rattle.std.specs.List.{list_all}
use Rattle.std.specs.Str.{bytes_eq}
use Rattle.std.proofs.lemmas.Bool.{and_parts, cases_Bool}
use Rattle.std.proofs.lemmas.List.Elements.{All-nil, All-cons, All-append}
use Rattle.std.proofs.lemmas.Option.{same_Some}
use Rattle.std.proofs.lemmas.Slice.Eq.{bytes_eq-Decides}
use Rattle.ra_stamp.specs.Name.{IsName}
use Rattle.ra_stamp.specs.NodeId.{IsNodeNumber}
use Rattle.ra_stamp.specs.declared.entry.Entry.{Entry}
use Rattle.ra_stamp.specs.declared.entry.Mark.TheVariants.{Requested, Entered, Left, Withdrawn}
use Rattle.ra_stamp.specs.declared.message.Message.{Message}
use Rattle.ra_stamp.specs.declared.message.Message.TheVariants.{Request, Reply}
use Rattle.ra_stamp.specs.declared.mode.Mode.{Mode}
use Rattle.ra_world.specs.declared.step.Step.{Step}
use Rattle.ra_world.specs.declared.step.Step.TheVariants.{Ask, Leave, Cancel, Deliver, Lose, Repeat, Forget}
use Rattle.ra_stamp.specs.Mode.{mode_word}
use Rattle.ra_text.specs.Lines.{entry_fields, message_fields}
use Rattle.ra_trace.specs.declared.line.Line.{Line}
use Rattle.ra_trace.specs.declared.line.Line.TheVariants.{First, Stepped, Sent, Marked, Last}
use Rattle.ra_trace.specs.declared.line.version.Version.{Version}
use Rattle.ra_trace.specs.declared.line.version.Version.TheVariants.{One, Two, Three, ThreeWithSends}
use Rattle.ra_trace.specs.Forms.{Form, IsReadable, fields, node_of, client_of, start_of, seq_of, name_of, mode_of, first_as, start_and_word, third_in, ask_in, leave_in, cancel_in, forget_in, cut, request_in, reply_in, entry_in, last_in, forms, rest_after, line_by, line_in}
use Rattle.ra_trace.specs.TraceText.{step_line, line_text, IsClientNumber, IsSeq, IsEntryLine, IsMessageLine, IsStepLine}
use Rattle.ra_trace.proofs.Cuts.{IsFree, mapped, cases_Option, cut-append, cut-free, cut-only, rest_after-only}
use Rattle.ra_trace.proofs.Spelled.{Reads, reads_fields, reads_node, reads_client, reads_start, reads_seq, reads_name, reads_mode}

-- fields, joined from the left or from the right
left3 : (a b c z : List ℕ) → ((a ++ 32 ∷ b) ++ 32 ∷ c) ++ z ≡ a ++ 32 ∷ (b ++ 32 ∷ (c ++ z))
left3 a b c z = append_assoc (a ++ 32 ∷ b) (32 ∷ c) z ∙ append_assoc a (32 ∷ b) (32 ∷ (c ++ z))

left4 : (a b c d z : List ℕ) → (((a ++ 32 ∷ b) ++ 32 ∷ c) ++ 32 ∷ d) ++ z ≡ a ++ 32 ∷ (b ++ 32 ∷ (c ++ 32 ∷ (d ++ z)))
left4 a b c d z = append_assoc ((a ++ 32 ∷ b) ++ 32 ∷ c) (32 ∷ d) z ∙ left3 a b c (32 ∷ (d ++ z))

left5 : (a b c d e z : List ℕ) → ((((a ++ 32 ∷ b) ++ 32 ∷ c) ++ 32 ∷ d) ++ 32 ∷ e) ++ z ≡ a ++ 32 ∷ (b ++ 32 ∷ (c ++ 32 ∷ (d ++ 32 ∷ (e ++ z))))
left5 a b c d e z = append_assoc (((a ++ 32 ∷ b) ++ 32 ∷ c) ++ 32 ∷ d) (32 ∷ e) z ∙ left4 a b c d (32 ∷ (e ++ z))

right3 : (a b c z : List ℕ) → (a ++ 32 ∷ (b ++ 32 ∷ c)) ++ z ≡ a ++ 32 ∷ (b ++ 32 ∷ (c ++ z))
right3 a b c z = append_assoc a (32 ∷ (b ++ 32 ∷ c)) z ∙ ap (λ (xs : List ℕ). a ++ 32 ∷ xs) (append_assoc b (32 ∷ c) z)

right4 : (a b c d z : List ℕ) → (a ++ 32 ∷ (b ++ 32 ∷ (c ++ 32 ∷ d))) ++ z ≡ a ++ 32 ∷ (b ++ 32 ∷ (c ++ 32 ∷ (d ++ z)))
right4 a b c d z = append_assoc a (32 ∷ (b ++ 32 ∷ (c ++ 32 ∷ d))) z ∙ ap (λ (xs : List ℕ). a ++ 32 ∷ xs) (right3 b c d z)

right5 : (a b c d e z : List ℕ) → (a ++ 32 ∷ (b ++ 32 ∷ (c ++ 32 ∷ (d ++ 32 ∷ e)))) ++ z ≡ a ++ 32 ∷ (b ++ 32 ∷ (c ++ 32 ∷ (d ++ 32 ∷ (e ++ z))))
right5 a b c d e z = append_assoc a (32 ∷ (b ++ 32 ∷ (c ++ 32 ∷ (d ++ 32 ∷ e)))) z ∙ ap (λ (xs : List ℕ). a ++ 32 ∷ xs) (right4 b c d e z)

joined3 : (words a b c : List ℕ) → words ++ ((a ++ 32 ∷ (b ++ 32 ∷ c)) ++ codes "\n") ≡ words ++ (((a ++ 32 ∷ b) ++ 32 ∷ c) ++ codes "\n")
joined3 words a b c = ap (λ (xs : List ℕ). words ++ xs) (right3 a b c (codes "\n") ∙ sym (left3 a b c (codes "\n")))

joined4 : (words a b c d : List ℕ) → words ++ ((a ++ 32 ∷ (b ++ 32 ∷ (c ++ 32 ∷ d))) ++ codes "\n") ≡ words ++ ((((a ++ 32 ∷ b) ++ 32 ∷ c) ++ 32 ∷ d) ++ codes "\n")
joined4 words a b c d = ap (λ (xs : List ℕ). words ++ xs) (right4 a b c d (codes "\n") ∙ sym (left4 a b c d (codes "\n")))

joined5 : (words a b c d e : List ℕ) → words ++ ((a ++ 32 ∷ (b ++ 32 ∷ (c ++ 32 ∷ (d ++ 32 ∷ e)))) ++ codes "\n") ≡ words ++ (((((a ++ 32 ∷ b) ++ 32 ∷ c) ++ 32 ∷ d) ++ 32 ∷ e) ++ codes "\n")
joined5 words a b c d e = ap (λ (xs : List ℕ). words ++ xs) (right5 a b c d e (codes "\n") ∙ sym (left5 a b c d e (codes "\n")))

-- how the fields after the first words are written
abbrev pub first_tail : ℕ × ℕ → List ℕ
first_tail f = decimal f.0 ++ 32 ∷ decimal f.1

-- how the first line of version 3 ends
abbrev pub third_end : Version → ℕ → List ℕ
third_end One start = decimal start
third_end Two start = decimal start
third_end Three start = decimal start
third_end ThreeWithSends start = decimal start ++ codes " sends"

abbrev pub third_tail : ℕ × (Version × ℕ) → List ℕ
third_tail f = decimal f.0 ++ 32 ∷ third_end f.1.0 f.1.1

abbrev pub leave_tail : ℕ × (ℕ × List ℕ) → List ℕ
leave_tail f = decimal f.0 ++ 32 ∷ (decimal f.1.0 ++ 32 ∷ f.1.1)

abbrev pub ask_tail : ℕ × (ℕ × (List ℕ × Mode)) → List ℕ
ask_tail f = decimal f.0 ++ 32 ∷ (decimal f.1.0 ++ 32 ∷ (f.1.1.0 ++ 32 ∷ mode_word f.1.1.1))

abbrev pub reply_tail : ℕ × (ℕ × (List ℕ × ℕ)) → List ℕ
reply_tail f = decimal f.0 ++ 32 ∷ (decimal f.1.0 ++ 32 ∷ (f.1.1.0 ++ 32 ∷ decimal f.1.1.1))

abbrev pub full_tail : ℕ × (ℕ × (List ℕ × (Mode × ℕ))) → List ℕ
full_tail f = decimal f.0 ++ 32 ∷ (decimal f.1.0 ++ 32 ∷ (f.1.1.0 ++ 32 ∷ (mode_word f.1.1.1.0 ++ 32 ∷ decimal f.1.1.1.1)))

pub reads_first : Reads (fields node_of start_of) (λ f. IsNodeNumber f.0 × (f.1 < 2 ^ 64)) first_tail
reads_first = reads_fields _ _ _ _ _ _ reads_node reads_start.reads

not_true : (b : ℕ) → not (b == 10) ≡ true → (b == 10) ≡ false
not_true b h = elim (cases_Bool (b == 10)) [ inl same ↦ absurd (let clash : false ≡ true = rw same at h in cc) | inr other ↦ other ]

free_words : (words tail : List ℕ) → list_all (λ b. not (b == 10)) words ≡ true → IsFree 10 tail → IsFree 10 (words ++ tail)
free_words [] tail h free = free
free_words (b ∷ words) tail h free =
    let (first, others) = and_parts (not (b == 10)) (list_all (λ b. not (b == 10)) words) h in
    All-cons (λ b. (b == 10) ≡ false) b (words ++ tail) (not_true b first) (free_words words tail others free)

-- one of the two forms of version 3
abbrev pub IsThird : Version → Type 0
IsThird One = ⊥
IsThird Two = ⊥
IsThird Three = Unit {0}
IsThird ThreeWithSends = Unit {0}

abbrev pub IsThirdEnd : Version × ℕ → Type 0
IsThirdEnd e = IsThird e.0 × (e.1 < 2 ^ 64)

third_end_only : (text : List ℕ) (e : Version × ℕ) → start_and_word (cut 32 text) text ≡ Some e → IsThirdEnd e × (text ≡ third_end e.0 e.1)
third_end_only text e reads =
    elim (cases_Option (cut 32 text)) [
      | inl none ↦
          let read : option_map (λ start. (Three, start)) (start_of text) ≡ Some e = rw none at reads in
          let m = mapped (λ start. (Three, start)) (start_of text) e read in
          subst (λ (x : Version × ℕ). IsThirdEnd x × (text ≡ third_end x.0 x.1)) m.2 (let h = reads_start.reads.only text m.0 m.1 in ((tt, h.0), h.1))
      | inr some ↦
          let parts = some.0 in
          let read : (if bytes_eq parts.1 (codes "sends") then option_map (λ start. (ThreeWithSends, start)) (start_of parts.0) else None) ≡ Some e = rw some.1 at reads in
          elim (cases_Bool (bytes_eq parts.1 (codes "sends"))) [
            | inl same ↦
                let m = mapped (λ start. (ThreeWithSends, start)) (start_of parts.0) e (rw same at read) in
                let h = reads_start.reads.only parts.0 m.0 m.1 in
                let word : parts.1 ≡ codes "sends" = (bytes_eq-Decides parts.1 (codes "sends")).0 same in
                let whole : text ≡ decimal m.0 ++ codes " sends" = cut-only 32 text parts some.1 ∙ (λ i. h.1 i ++ 32 ∷ word i) in
                subst (λ (x : Version × ℕ). IsThirdEnd x × (text ≡ third_end x.0 x.1)) m.2 ((tt, h.0), whole)
            | inr other ↦ absurd (let clash : None ≡ Some e = rw other at read in cc)
          ]
    ]

third_end_each : (e : Version × ℕ) → IsThirdEnd e → start_and_word (cut 32 (third_end e.0 e.1)) (third_end e.0 e.1) ≡ Some e
third_end_each (One, start) h = absurd h.0
third_end_each (Two, start) h = absurd h.0
third_end_each (Three, start) h = rw (cut-free 32 (decimal start) (reads_start.no_space start h.1), reads_start.reads.each start h.1)
third_end_each (ThreeWithSends, start) h = rw (cut-append 32 (decimal start) (codes "sends") (reads_start.no_space start h.1), reads_start.reads.each start h.1)

third_end_free : (e : Version × ℕ) → IsThirdEnd e → IsFree 10 (third_end e.0 e.1)
third_end_free (One, start) h = absurd h.0
third_end_free (Two, start) h = absurd h.0
third_end_free (Three, start) h = reads_start.reads.no_feed start h.1
third_end_free (ThreeWithSends, start) h =
    All-append (λ b. (b == 10) ≡ false) (decimal start) (codes " sends") (reads_start.reads.no_feed start h.1) (free_words (codes " sends") [] refl (All-nil (λ b. (b == 10) ≡ false)))

pub reads_third : Reads (fields node_of (λ rest. start_and_word (cut 32 rest) rest)) (λ f. IsNodeNumber f.0 × IsThirdEnd f.1) third_tail
reads_third = reads_fields _ _ _ _ _ (λ (e : Version × ℕ). third_end e.0 e.1) reads_node (record { only = third_end_only; each = third_end_each; no_feed = third_end_free })

pub reads_leave : Reads (fields node_of (fields client_of name_of)) (λ f. IsNodeNumber f.0 × (IsClientNumber f.1.0 × IsName f.1.1)) leave_tail
reads_leave = reads_fields _ _ _ _ _ _ reads_node (reads_fields _ _ _ _ _ _ reads_client reads_name.reads)

pub reads_ask : Reads (fields node_of (fields client_of (fields name_of mode_of))) (λ f. IsNodeNumber f.0 × (IsClientNumber f.1.0 × (IsName f.1.1.0 × Unit {0}))) ask_tail
reads_ask = reads_fields _ _ _ _ _ _ reads_node (reads_fields _ _ _ _ _ _ reads_client (reads_fields _ _ _ _ _ _ reads_name reads_mode.reads))

pub reads_reply : Reads (fields node_of (fields node_of (fields name_of seq_of))) (λ f. IsNodeNumber f.0 × (IsNodeNumber f.1.0 × (IsName f.1.1.0 × IsSeq f.1.1.1))) reply_tail
reads_reply = reads_fields _ _ _ _ _ _ reads_node (reads_fields _ _ _ _ _ _ reads_node (reads_fields _ _ _ _ _ _ reads_name reads_seq.reads))

pub reads_request : Reads (fields node_of (fields node_of (fields name_of (fields mode_of seq_of)))) (λ f. IsNodeNumber f.0 × (IsNodeNumber f.1.0 × (IsName f.1.1.0 × (Unit {0} × IsSeq f.1.1.1.1)))) full_tail
reads_request =
    reads_fields _ _ _ _ _ _ reads_node
    (reads_fields _ _ _ _ _ _ reads_node (reads_fields _ _ _ _ _ _ reads_name (reads_fields _ _ _ _ _ _ reads_mode reads_seq.reads)))

pub reads_entry : Reads (fields node_of (fields client_of (fields name_of (fields mode_of seq_of)))) (λ f. IsNodeNumber f.0 × (IsClientNumber f.1.0 × (IsName f.1.1.0 × (Unit {0} × IsSeq f.1.1.1.1)))) full_tail
reads_entry =
    reads_fields _ _ _ _ _ _ reads_node
    (reads_fields _ _ _ _ _ _ reads_client (reads_fields _ _ _ _ _ _ reads_name (reads_fields _ _ _ _ _ _ reads_mode reads_seq.reads)))

-- what is read has such a text
abbrev Only : {A : Type 0} → (List ℕ → Option A) → (A → List ℕ → Type 0) → Type 0
Only {A} read Has = (text : List ℕ) (x : A) → read text ≡ Some x → Has x text

only_made : {A B : Type 0} (read : List ℕ → Option A) (Has : A → List ℕ → Type 0) (make : A → B) (HasToo : B → List ℕ → Type 0)
    → ((x : A) (text : List ℕ) → Has x text → HasToo (make x) text) → Only read Has → Only (λ text. option_map make (read text)) HasToo
only_made read Has make HasToo so only text y e =
    let m = mapped make (read text) y e in
    subst (λ z. HasToo z text) m.2 (so m.0 text (only text m.0 m.1))

abbrev HasStep : List ℕ → Step → List ℕ → Type 0
HasStep words step text = IsStepLine Three step × (words ++ (text ++ codes "\n") ≡ step_line step)

abbrev HasMessage : List ℕ → Message → List ℕ → Type 0
HasMessage words message text = IsMessageLine Three message × (words ++ (text ++ codes "\n") ≡ message_fields message ++ codes "\n")

abbrev HasEntry : Entry → List ℕ → Type 0
HasEntry entry text = IsEntryLine Three entry × (codes " " ++ (text ++ codes "\n") ≡ entry_fields entry ++ codes "\n")

abbrev HasLine : List ℕ → Line → List ℕ → Type 0
HasLine words line text = IsReadable line × (words ++ (text ++ codes "\n") ≡ line_text line)

-- the words of the first line
abbrev first_words : Version → List ℕ
first_words One = codes "trace 1 "
first_words Two = codes "trace 2 "
first_words Three = codes "trace 3 "
first_words ThreeWithSends = codes "trace 3 "

-- version 1 or 2
abbrev IsPlain : Version → Type 0
IsPlain One = Unit {0}
IsPlain Two = Unit {0}
IsPlain Three = ⊥
IsPlain ThreeWithSends = ⊥

has_first : (version : Version) → IsPlain version → (f : ℕ × ℕ) (text : List ℕ) → (IsNodeNumber f.0 × (f.1 < 2 ^ 64)) × (text ≡ first_tail f)
    → HasLine (first_words version) (First version f.0 f.1) text
has_first One plain f text h = ((h.0.0, h.0.1), rw h.1 (simp append_assoc))
has_first Two plain f text h = ((h.0.0, h.0.1), rw h.1 (simp append_assoc))
has_first Three plain f text h = absurd plain
has_first ThreeWithSends plain f text h = absurd plain

has_third : (f : ℕ × (Version × ℕ)) (text : List ℕ) → (IsNodeNumber f.0 × IsThirdEnd f.1) × (text ≡ third_tail f) → HasLine (codes "trace 3 ") (First f.1.0 f.0 f.1.1) text
has_third (nodes, (One, start)) text h = absurd h.0.1.0
has_third (nodes, (Two, start)) text h = absurd h.0.1.0
has_third (nodes, (Three, start)) text h = ((h.0.0, h.0.1.1), rw h.1 (simp append_assoc))
has_third (nodes, (ThreeWithSends, start)) text h = ((h.0.0, h.0.1.1), rw h.1 (simp append_assoc))

only_third : Only third_in (HasLine (codes "trace 3 "))
only_third = only_made (fields node_of (λ rest. start_and_word (cut 32 rest) rest)) _ (λ f. First f.1.0 f.0 f.1.1) (HasLine (codes "trace 3 ")) has_third reads_third.only

only_first : (version : Version) → IsPlain version → Only (first_as version) (HasLine (first_words version))
only_first version plain =
    only_made (fields node_of start_of) _ (λ f. First version f.0 f.1) (HasLine (first_words version)) (has_first version plain) reads_first.only

only_ask : Only ask_in (HasStep (codes "ask "))
only_ask =
    only_made (fields node_of (fields client_of (fields name_of mode_of))) _ (λ f. Ask f.0 f.1.0 f.1.1.0 f.1.1.1) (HasStep (codes "ask "))
    (λ f text h. ((h.0.0, h.0.1.0, h.0.1.1.0, refl), rw h.1 (joined4 (codes "ask ") (decimal f.0) (decimal f.1.0) f.1.1.0 (mode_word f.1.1.1)))) reads_ask.only

only_leave : Only leave_in (HasStep (codes "release "))
only_leave =
    only_made (fields node_of (fields client_of name_of)) _ (λ f. Leave f.0 f.1.0 f.1.1) (HasStep (codes "release "))
    (λ f text h. ((h.0.0, h.0.1.0, h.0.1.1), rw h.1 (joined3 (codes "release ") (decimal f.0) (decimal f.1.0) f.1.1))) reads_leave.only

only_cancel : Only cancel_in (HasStep (codes "cancel "))
only_cancel =
    only_made (fields node_of (fields client_of name_of)) _ (λ f. Cancel f.0 f.1.0 f.1.1) (HasStep (codes "cancel "))
    (λ f text h. ((refl, h.0.0, h.0.1.0, h.0.1.1), rw h.1 (joined3 (codes "cancel ") (decimal f.0) (decimal f.1.0) f.1.1))) reads_leave.only

only_forget : Only forget_in (HasStep (codes "forget "))
only_forget = only_made node_of _ Forget (HasStep (codes "forget ")) (λ node text h. ((refl, h.0), rw h.1)) reads_node.reads.only

only_request : Only request_in (HasMessage (codes " request "))
only_request =
    only_made (fields node_of (fields node_of (fields name_of (fields mode_of seq_of)))) _ (λ f. Request f.0 f.1.0 f.1.1.0 f.1.1.1.0 f.1.1.1.1) (HasMessage (codes " request "))
    (λ f text h. ((h.0.0, h.0.1.0, h.0.1.1.0, refl, h.0.1.1.1.1), rw h.1 (joined5 (codes " request ") (decimal f.0) (decimal f.1.0) f.1.1.0 (mode_word f.1.1.1.0) (decimal f.1.1.1.1)))) reads_request.only

only_reply : Only reply_in (HasMessage (codes " reply "))
only_reply =
    only_made (fields node_of (fields node_of (fields name_of seq_of))) _ (λ f. Reply f.0 f.1.0 f.1.1.0 f.1.1.1) (HasMessage (codes " reply "))
    (λ f text h. ((h.0.0, h.0.1.0, h.0.1.1.0, h.0.1.1.1), rw h.1 (joined4 (codes " reply ") (decimal f.0) (decimal f.1.0) f.1.1.0 (decimal f.1.1.1)))) reads_reply.only

only_entry : Only entry_in HasEntry
only_entry =
    only_made (fields node_of (fields client_of (fields name_of (fields mode_of seq_of)))) _
    (λ f. record { name = f.1.1.0; stamp = record { seq = f.1.1.1.1; node = f.0 }; client = f.1.0; mode = f.1.1.1.0 }) HasEntry
    (λ f text h. ((h.0.0, h.0.1.0, h.0.1.1.0, refl, h.0.1.1.1.1), rw h.1 (joined5 (codes " ") (decimal f.0) (decimal f.1.0) f.1.1.0 (mode_word f.1.1.1.0) (decimal f.1.1.1.1)))) reads_entry.only

only_last : Only last_in (HasLine (codes "end"))
only_last [] line e = let same : Last ≡ line = same_Some _ _ e in subst (λ l. HasLine (codes "end") l []) same (tt, refl)
only_last (b ∷ text) line e = absurd cc

only_deliver : (words : List ℕ) (read : List ℕ → Option Message) → Only read (HasMessage words)
    → Only (λ rest. option_map (λ message. Stepped (Deliver message)) (read rest)) (HasLine (codes "deliver" ++ words))
only_deliver words read only =
    only_made read (HasMessage words) (λ message. Stepped (Deliver message)) (HasLine (codes "deliver" ++ words))
    (λ message text h. (h.0, ap (λ (bytes : List ℕ). codes "deliver" ++ bytes) h.1)) only

only_lose : (words : List ℕ) (read : List ℕ → Option Message) → Only read (HasMessage words)
    → Only (λ rest. option_map (λ message. Stepped (Lose message)) (read rest)) (HasLine (codes "lose" ++ words))
only_lose words read only =
    only_made read (HasMessage words) (λ message. Stepped (Lose message)) (HasLine (codes "lose" ++ words))
    (λ message text h. (h.0, ap (λ (bytes : List ℕ). codes "lose" ++ bytes) h.1)) only

only_repeat : (words : List ℕ) (read : List ℕ → Option Message) → Only read (HasMessage words)
    → Only (λ rest. option_map (λ message. Stepped (Repeat message)) (read rest)) (HasLine (codes "repeat" ++ words))
only_repeat words read only =
    only_made read (HasMessage words) (λ message. Stepped (Repeat message)) (HasLine (codes "repeat" ++ words))
    (λ message text h. ((refl, h.0), ap (λ (bytes : List ℕ). codes "repeat" ++ bytes) h.1)) only

only_sent : (words : List ℕ) (read : List ℕ → Option Message) → Only read (HasMessage words)
    → Only (λ rest. option_map Sent (read rest)) (HasLine (codes "send" ++ words))
only_sent words read only =
    only_made read (HasMessage words) Sent (HasLine (codes "send" ++ words))
    (λ message text h. (h.0, ap (λ (bytes : List ℕ). codes "send" ++ bytes) h.1)) only

-- each form reads lines that begin like it
abbrev AllRead : List Form → Type 0
AllRead [] = Unit {0}
AllRead (form ∷ others) = Only form.read (HasLine form.words) × AllRead others

only_forms : AllRead forms
only_forms = (
  only_made entry_in HasEntry (λ entry. Marked (Requested entry)) (HasLine (codes "request ")) (λ entry text h. (h.0, ap (λ (bytes : List ℕ). codes "request" ++ bytes) h.1)) only_entry,
  (
    only_made entry_in HasEntry (λ entry. Marked (Entered entry)) (HasLine (codes "enter ")) (λ entry text h. (h.0, ap (λ (bytes : List ℕ). codes "enter" ++ bytes) h.1)) only_entry,
    (
      only_made entry_in HasEntry (λ entry. Marked (Left entry)) (HasLine (codes "leave ")) (λ entry text h. (h.0, ap (λ (bytes : List ℕ). codes "leave" ++ bytes) h.1)) only_entry,
      (
        only_made ask_in (HasStep (codes "ask ")) Stepped (HasLine (codes "ask ")) (λ step text h. h) only_ask,
        (
          only_made leave_in (HasStep (codes "release ")) Stepped (HasLine (codes "release ")) (λ step text h. h) only_leave,
          (
            only_deliver (codes " request ") request_in only_request,
            (
              only_deliver (codes " reply ") reply_in only_reply,
              (
                only_lose (codes " request ") request_in only_request,
                (
                  only_lose (codes " reply ") reply_in only_reply,
                  (
                    only_repeat (codes " request ") request_in only_request,
                    (
                      only_repeat (codes " reply ") reply_in only_reply,
                      (
                        only_made entry_in HasEntry (λ entry. Marked (Withdrawn entry)) (HasLine (codes "withdraw ")) (λ entry text h. ((refl, h.0), ap (λ (bytes : List ℕ). codes "withdraw" ++ bytes) h.1)) only_entry,
                        (
                          only_made cancel_in (HasStep (codes "cancel ")) Stepped (HasLine (codes "cancel ")) (λ step text h. h) only_cancel,
                          (
                            only_made forget_in (HasStep (codes "forget ")) Stepped (HasLine (codes "forget ")) (λ step text h. h) only_forget,
                            (
                              only_sent (codes " request ") request_in only_request,
                              (
                                only_sent (codes " reply ") reply_in only_reply,
                                (only_first One tt, (only_first Two tt, (only_third, (only_last, tt)))),
                              ),
                            ),
                          ),
                        ),
                      ),
                    ),
                  ),
                ),
              ),
            ),
          ),
        ),
      ),
    ),
  ),
)

only_by : (rows : List Form) → AllRead rows → (text : List ℕ) (line : Line) → line_by rows text ≡ Some line → IsReadable line × (text ++ codes "\n" ≡ line_text line)
only_by [] h text line e = absurd cc
only_by (form ∷ others) h text line e =
    elim (cases_Option (rest_after form.words text)) [
      | inl none ↦ only_by others h.1 text line (rw none at e)
      | inr some ↦
          let is = rest_after-only form.words text some.0 some.1 in
          let whole = h.0 some.0 line (rw some.1 at e) in
          (whole.0, (ap (λ (bytes : List ℕ). bytes ++ codes "\n") is ∙ (append_assoc form.words some.0 (codes "\n") ∙ whole.1)))
    ]

-- no more than this is a line
pub line_in-only : (text : List ℕ) (line : Line) → line_in text ≡ Some line → IsReadable line × (text ++ codes "\n" ≡ line_text line)
line_in-only text line e = only_by forms only_forms text line e

-- a line without its line feed
abbrev pub body : Line → List ℕ
body (First One nodes start) = codes "trace 1 " ++ first_tail (nodes, start)
body (First Two nodes start) = codes "trace 2 " ++ first_tail (nodes, start)
body (First Three nodes start) = codes "trace 3 " ++ third_tail (nodes, (Three, start))
body (First ThreeWithSends nodes start) = codes "trace 3 " ++ third_tail (nodes, (ThreeWithSends, start))
body (Stepped (Ask node client name mode)) = codes "ask " ++ ask_tail (node, (client, (name, mode)))
body (Stepped (Leave node client name)) = codes "release " ++ leave_tail (node, (client, name))
body (Stepped (Cancel node client name)) = codes "cancel " ++ leave_tail (node, (client, name))
body (Stepped (Forget node)) = codes "forget " ++ decimal node
body (Stepped (Deliver (Request from to name mode seq))) = codes "deliver request " ++ full_tail (from, (to, (name, (mode, seq))))
body (Stepped (Deliver (Reply from to name seq))) = codes "deliver reply " ++ reply_tail (from, (to, (name, seq)))
body (Stepped (Lose (Request from to name mode seq))) = codes "lose request " ++ full_tail (from, (to, (name, (mode, seq))))
body (Stepped (Lose (Reply from to name seq))) = codes "lose reply " ++ reply_tail (from, (to, (name, seq)))
body (Stepped (Repeat (Request from to name mode seq))) = codes "repeat request " ++ full_tail (from, (to, (name, (mode, seq))))
body (Stepped (Repeat (Reply from to name seq))) = codes "repeat reply " ++ reply_tail (from, (to, (name, seq)))
body (Sent (Request from to name mode seq)) = codes "send request " ++ full_tail (from, (to, (name, (mode, seq))))
body (Sent (Reply from to name seq)) = codes "send reply " ++ reply_tail (from, (to, (name, seq)))
body (Marked (Requested entry)) = codes "request " ++ full_tail (entry.stamp.node, (entry.client, (entry.name, (entry.mode, entry.stamp.seq))))
body (Marked (Entered entry)) = codes "enter " ++ full_tail (entry.stamp.node, (entry.client, (entry.name, (entry.mode, entry.stamp.seq))))
body (Marked (Left entry)) = codes "leave " ++ full_tail (entry.stamp.node, (entry.client, (entry.name, (entry.mode, entry.stamp.seq))))
body (Marked (Withdrawn entry)) = codes "withdraw " ++ full_tail (entry.stamp.node, (entry.client, (entry.name, (entry.mode, entry.stamp.seq))))
body Last = codes "end"

-- what a line has: its text ends with the one line feed in it, and what comes before is read as it
pub record HasBody (line : Line) : Type 0 where
  pub text_is : line_text line ≡ body line ++ codes "\n"
  pub no_feed : IsFree 10 (body line)
  pub read : line_in (body line) ≡ Some line

pub has_body : (line : Line) → IsReadable line → HasBody line
has_body (First One nodes start) h = record {
  text_is = sym (simp append_assoc);
  no_feed = free_words (codes "trace 1 ") (first_tail (nodes, start)) refl (reads_first.no_feed (nodes, start) h);
  read = rw (reads_first.each (nodes, start) h);
}
has_body (First Two nodes start) h = record {
  text_is = sym (simp append_assoc);
  no_feed = free_words (codes "trace 2 ") (first_tail (nodes, start)) refl (reads_first.no_feed (nodes, start) h);
  read = rw (reads_first.each (nodes, start) h);
}
has_body (First Three nodes start) h = record {
  text_is = sym (simp append_assoc);
  no_feed = free_words (codes "trace 3 ") (third_tail (nodes, (Three, start))) refl (reads_third.no_feed (nodes, (Three, start)) (h.0, (tt, h.1)));
  read = rw (reads_third.each (nodes, (Three, start)) (h.0, (tt, h.1)));
}
has_body (First ThreeWithSends nodes start) h = record {
  text_is = sym (simp append_assoc);
  no_feed = free_words (codes "trace 3 ") (third_tail (nodes, (ThreeWithSends, start))) refl (reads_third.no_feed (nodes, (ThreeWithSends, start)) (h.0, (tt, h.1)));
  read = rw (reads_third.each (nodes, (ThreeWithSends, start)) (h.0, (tt, h.1)));
}
has_body (Stepped (Ask node client name mode)) h =
    let f : ℕ × (ℕ × (List ℕ × Mode)) = (node, (client, (name, mode))) in
    let is : IsNodeNumber node × (IsClientNumber client × (IsName name × Unit {0})) = (h.0, (h.1, (h.2, tt))) in
    record {
      text_is = sym (joined4 (codes "ask ") (decimal f.0) (decimal f.1.0) f.1.1.0 (mode_word f.1.1.1));
      no_feed = free_words (codes "ask ") (ask_tail f) refl (reads_ask.no_feed f is);
      read = rw (reads_ask.each f is);
    }
has_body (Stepped (Leave node client name)) h =
    let f : ℕ × (ℕ × List ℕ) = (node, (client, name)) in
    let is : IsNodeNumber node × (IsClientNumber client × IsName name) = (h.0, (h.1, h.2)) in
    record {
      text_is = sym (joined3 (codes "release ") (decimal f.0) (decimal f.1.0) f.1.1);
      no_feed = free_words (codes "release ") (leave_tail f) refl (reads_leave.no_feed f is);
      read = rw (reads_leave.each f is);
    }
has_body (Stepped (Cancel node client name)) h =
    let f : ℕ × (ℕ × List ℕ) = (node, (client, name)) in
    let is : IsNodeNumber node × (IsClientNumber client × IsName name) = (h.1, (h.2, h.3)) in
    record {
      text_is = sym (joined3 (codes "cancel ") (decimal f.0) (decimal f.1.0) f.1.1);
      no_feed = free_words (codes "cancel ") (leave_tail f) refl (reads_leave.no_feed f is);
      read = rw (reads_leave.each f is);
    }
has_body (Stepped (Forget node)) h = record {
  text_is = refl;
  no_feed = free_words (codes "forget ") (decimal node) refl (reads_node.reads.no_feed node h.1);
  read = rw (reads_node.reads.each node h.1);
}
has_body (Stepped (Deliver (Request from to name mode seq))) h =
    let f : ℕ × (ℕ × (List ℕ × (Mode × ℕ))) = (from, (to, (name, (mode, seq)))) in
    let is : IsNodeNumber from × (IsNodeNumber to × (IsName name × (Unit {0} × IsSeq seq))) = (h.0, (h.1, (h.2, (tt, h.4)))) in
    record {
      text_is = sym (joined5 (codes "deliver request ") (decimal f.0) (decimal f.1.0) f.1.1.0 (mode_word f.1.1.1.0) (decimal f.1.1.1.1));
      no_feed = free_words (codes "deliver request ") (full_tail f) refl (reads_request.no_feed f is);
      read = rw (reads_request.each f is);
    }
has_body (Stepped (Deliver (Reply from to name seq))) h =
    let f : ℕ × (ℕ × (List ℕ × ℕ)) = (from, (to, (name, seq))) in
    let is : IsNodeNumber from × (IsNodeNumber to × (IsName name × IsSeq seq)) = (h.0, (h.1, (h.2, h.3))) in
    record {
      text_is = sym (joined4 (codes "deliver reply ") (decimal f.0) (decimal f.1.0) f.1.1.0 (decimal f.1.1.1));
      no_feed = free_words (codes "deliver reply ") (reply_tail f) refl (reads_reply.no_feed f is);
      read = rw (reads_reply.each f is);
    }
has_body (Stepped (Lose (Request from to name mode seq))) h =
    let f : ℕ × (ℕ × (List ℕ × (Mode × ℕ))) = (from, (to, (name, (mode, seq)))) in
    let is : IsNodeNumber from × (IsNodeNumber to × (IsName name × (Unit {0} × IsSeq seq))) = (h.0, (h.1, (h.2, (tt, h.4)))) in
    record {
      text_is = sym (joined5 (codes "lose request ") (decimal f.0) (decimal f.1.0) f.1.1.0 (mode_word f.1.1.1.0) (decimal f.1.1.1.1));
      no_feed = free_words (codes "lose request ") (full_tail f) refl (reads_request.no_feed f is);
      read = rw (reads_request.each f is);
    }
has_body (Stepped (Lose (Reply from to name seq))) h =
    let f : ℕ × (ℕ × (List ℕ × ℕ)) = (from, (to, (name, seq))) in
    let is : IsNodeNumber from × (IsNodeNumber to × (IsName name × IsSeq seq)) = (h.0, (h.1, (h.2, h.3))) in
    record {
      text_is = sym (joined4 (codes "lose reply ") (decimal f.0) (decimal f.1.0) f.1.1.0 (decimal f.1.1.1));
      no_feed = free_words (codes "lose reply ") (reply_tail f) refl (reads_reply.no_feed f is);
      read = rw (reads_reply.each f is);
    }
has_body (Stepped (Repeat (Request from to name mode seq))) (may, h) =
    let f : ℕ × (ℕ × (List ℕ × (Mode × ℕ))) = (from, (to, (name, (mode, seq)))) in
    let is : IsNodeNumber from × (IsNodeNumber to × (IsName name × (Unit {0} × IsSeq seq))) = (h.0, (h.1, (h.2, (tt, h.4)))) in
    record {
      text_is = sym (joined5 (codes "repeat request ") (decimal f.0) (decimal f.1.0) f.1.1.0 (mode_word f.1.1.1.0) (decimal f.1.1.1.1));
      no_feed = free_words (codes "repeat request ") (full_tail f) refl (reads_request.no_feed f is);
      read = rw (reads_request.each f is);
    }
has_body (Stepped (Repeat (Reply from to name seq))) (may, h) =
    let f : ℕ × (ℕ × (List ℕ × ℕ)) = (from, (to, (name, seq))) in
    let is : IsNodeNumber from × (IsNodeNumber to × (IsName name × IsSeq seq)) = (h.0, (h.1, (h.2, h.3))) in
    record {
      text_is = sym (joined4 (codes "repeat reply ") (decimal f.0) (decimal f.1.0) f.1.1.0 (decimal f.1.1.1));
      no_feed = free_words (codes "repeat reply ") (reply_tail f) refl (reads_reply.no_feed f is);
      read = rw (reads_reply.each f is);
    }
has_body (Sent (Request from to name mode seq)) h =
    let f : ℕ × (ℕ × (List ℕ × (Mode × ℕ))) = (from, (to, (name, (mode, seq)))) in
    let is : IsNodeNumber from × (IsNodeNumber to × (IsName name × (Unit {0} × IsSeq seq))) = (h.0, (h.1, (h.2, (tt, h.4)))) in
    record {
      text_is = sym (joined5 (codes "send request ") (decimal f.0) (decimal f.1.0) f.1.1.0 (mode_word f.1.1.1.0) (decimal f.1.1.1.1));
      no_feed = free_words (codes "send request ") (full_tail f) refl (reads_request.no_feed f is);
      read = rw (reads_request.each f is);
    }
has_body (Sent (Reply from to name seq)) h =
    let f : ℕ × (ℕ × (List ℕ × ℕ)) = (from, (to, (name, seq))) in
    let is : IsNodeNumber from × (IsNodeNumber to × (IsName name × IsSeq seq)) = (h.0, (h.1, (h.2, h.3))) in
    record {
      text_is = sym (joined4 (codes "send reply ") (decimal f.0) (decimal f.1.0) f.1.1.0 (decimal f.1.1.1));
      no_feed = free_words (codes "send reply ") (reply_tail f) refl (reads_reply.no_feed f is);
      read = rw (reads_reply.each f is);
    }
has_body (Marked (Requested entry)) h =
    let f : ℕ × (ℕ × (List ℕ × (Mode × ℕ))) = (entry.stamp.node, (entry.client, (entry.name, (entry.mode, entry.stamp.seq)))) in
    let is : IsNodeNumber entry.stamp.node × (IsClientNumber entry.client × (IsName entry.name × (Unit {0} × IsSeq entry.stamp.seq))) = (h.0, (h.1, (h.2, (tt, h.4)))) in
    record {
      text_is = sym (joined5 (codes "request ") (decimal f.0) (decimal f.1.0) f.1.1.0 (mode_word f.1.1.1.0) (decimal f.1.1.1.1));
      no_feed = free_words (codes "request ") (full_tail f) refl (reads_entry.no_feed f is);
      read = rw (reads_entry.each f is);
    }
has_body (Marked (Entered entry)) h =
    let f : ℕ × (ℕ × (List ℕ × (Mode × ℕ))) = (entry.stamp.node, (entry.client, (entry.name, (entry.mode, entry.stamp.seq)))) in
    let is : IsNodeNumber entry.stamp.node × (IsClientNumber entry.client × (IsName entry.name × (Unit {0} × IsSeq entry.stamp.seq))) = (h.0, (h.1, (h.2, (tt, h.4)))) in
    record {
      text_is = sym (joined5 (codes "enter ") (decimal f.0) (decimal f.1.0) f.1.1.0 (mode_word f.1.1.1.0) (decimal f.1.1.1.1));
      no_feed = free_words (codes "enter ") (full_tail f) refl (reads_entry.no_feed f is);
      read = rw (reads_entry.each f is);
    }
has_body (Marked (Left entry)) h =
    let f : ℕ × (ℕ × (List ℕ × (Mode × ℕ))) = (entry.stamp.node, (entry.client, (entry.name, (entry.mode, entry.stamp.seq)))) in
    let is : IsNodeNumber entry.stamp.node × (IsClientNumber entry.client × (IsName entry.name × (Unit {0} × IsSeq entry.stamp.seq))) = (h.0, (h.1, (h.2, (tt, h.4)))) in
    record {
      text_is = sym (joined5 (codes "leave ") (decimal f.0) (decimal f.1.0) f.1.1.0 (mode_word f.1.1.1.0) (decimal f.1.1.1.1));
      no_feed = free_words (codes "leave ") (full_tail f) refl (reads_entry.no_feed f is);
      read = rw (reads_entry.each f is);
    }
has_body (Marked (Withdrawn entry)) (may, h) =
    let f : ℕ × (ℕ × (List ℕ × (Mode × ℕ))) = (entry.stamp.node, (entry.client, (entry.name, (entry.mode, entry.stamp.seq)))) in
    let is : IsNodeNumber entry.stamp.node × (IsClientNumber entry.client × (IsName entry.name × (Unit {0} × IsSeq entry.stamp.seq))) = (h.0, (h.1, (h.2, (tt, h.4)))) in
    record {
      text_is = sym (joined5 (codes "withdraw ") (decimal f.0) (decimal f.1.0) f.1.1.0 (mode_word f.1.1.1.0) (decimal f.1.1.1.1));
      no_feed = free_words (codes "withdraw ") (full_tail f) refl (reads_entry.no_feed f is);
      read = rw (reads_entry.each f is);
    }
has_body Last h = record { text_is = refl; no_feed = free_words (codes "end") [] refl (All-nil (λ b. (b == 10) ≡ false)); read = refl }
