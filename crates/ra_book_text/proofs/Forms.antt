-- What is read of a line is what it says.
use Rattle.std.proofs.Common.{◌≡◌, ◌<◌, ◌≤◌, ◌^◌, ◌↔◌, ℕ, List, ◌∷◌, ◌++◌, length, Option, Some, None, Err, option_map, refl, sym, ap, subst, ◌∙◌, codes, append_assoc, arith}
use Rattle.std.specs.Prelude.{IsErrOf, MatchOption}
use Rattle.std.specs.Fmt.{decimal}
use Rattle.std.proofs.lemmas.Option.{same_Some}
use Rattle.std.proofs.lemmas.List.{append_cancel_left}
use Rattle.ra_stamp.specs.Name.{IsName}
use Rattle.ra_stamp.specs.NodeId.{IsNodeNumber}
use Rattle.ra_stamp.specs.declared.member.MemberError.{MemberError}
use Rattle.ra_stamp.specs.declared.member.MemberError.TheVariants.{BadCount, BadNode}
use Rattle.ra_stamp.specs.declared.mode.Mode.{Mode}
use Rattle.ra_stamp.specs.Mode.{mode_word}
use Rattle.ra_trace.specs.Forms.{fields, rest_after, node_of, client_of, start_of, name_of, mode_of}
use Rattle.ra_trace.specs.TraceText.{IsClientNumber}
use Rattle.ra_trace.proofs.Cuts.{mapped, rest_after-append}
use Rattle.ra_trace.proofs.Spelled.{Reads, reads_fields, reads_node, reads_client, reads_start, reads_name, reads_mode}
use Rattle.ra_book.specs.declared.book.event.BookKind.{BookKind}
use Rattle.ra_book.specs.declared.book.event.BookKind.TheVariants as kinds
use Rattle.ra_book_text.specs.BookText.{Form, HasForm, form_text, version_text, first_text, IsFirst, IsNoFirst, IsNoLater, IsEvent}
use Rattle.ra_book_text.specs.BookText.Form.{Ask, Leave, Cancel, Forget, Receive}
use Rattle.ra_book_text.specs.declared.next_line.book_version.BookVersion.{BookVersion}
use Rattle.ra_book_text.specs.declared.next_line.book_version.BookVersion.TheVariants.{One, Two}
use Rattle.ra_book_text.specs.Fields.{ask_of, leave_of, cancel_of, first_of}

-- how the fields after the first words are written
abbrev ask_tail : ℕ × (List ℕ × Mode) → List ℕ
ask_tail f = decimal f.0 ++ 32 ∷ (f.1.0 ++ 32 ∷ mode_word f.1.1)

abbrev client_tail : ℕ × List ℕ → List ℕ
client_tail f = decimal f.0 ++ 32 ∷ f.1

abbrev first_tail : ℕ × (ℕ × ℕ) → List ℕ
first_tail f = decimal f.0 ++ 32 ∷ (decimal f.1.0 ++ 32 ∷ decimal f.1.1)

reads_ask : Reads (fields client_of (fields name_of mode_of)) (λ f. IsClientNumber f.0 × (IsName f.1.0 × Unit {0})) ask_tail
reads_ask = reads_fields _ _ _ _ _ _ reads_client (reads_fields _ _ _ _ _ _ reads_name reads_mode.reads)

reads_client_and_name : Reads (fields client_of name_of) (λ f. IsClientNumber f.0 × IsName f.1) client_tail
reads_client_and_name = reads_fields _ _ _ _ _ _ reads_client reads_name.reads

reads_first : Reads (fields node_of (fields node_of start_of)) (λ f. IsNodeNumber f.0 × (IsNodeNumber f.1.0 × (f.1.1 < 2 ^ 64))) first_tail
reads_first = reads_fields _ _ _ _ _ _ reads_node (reads_fields _ _ _ _ _ _ reads_node reads_start.reads)

ask_text : (client : ℕ) (name : List ℕ) (mode : Mode) → codes "ask " ++ ask_tail (client, (name, mode)) ≡ form_text (Ask client name mode)
ask_text client name mode = sym (simp append_assoc)

leave_text : (client : ℕ) (name : List ℕ) → codes "release " ++ client_tail (client, name) ≡ form_text (Leave client name)
leave_text client name = sym (simp append_assoc)

cancel_text : (client : ℕ) (name : List ℕ) → codes "cancel " ++ client_tail (client, name) ≡ form_text (Cancel client name)
cancel_text client name = sym (simp append_assoc)

pub book_text : (version : BookVersion) (node nodes start : ℕ) → version_text version ++ 32 ∷ first_tail (node, (nodes, start)) ≡ first_text version node nodes start
book_text One node nodes start = sym (simp append_assoc)
book_text Two node nodes start = sym (simp append_assoc)

-- what is nothing is not something
no_some : {A : Type 0} (o : Option A) (x : A) → o ≡ None → o ≡ Some x → ⊥
no_some None x none some = absurd cc
no_some (Some y) x none some = absurd cc

unmapped : {A B : Type 0} (f : A → B) (o : Option A) → option_map f o ≡ None → o ≡ None
unmapped f None e = refl
unmapped f (Some x) e = absurd cc

-- a text that begins otherwise
pub clash : (words rest text : List ℕ) → words ++ rest ≡ text → rest_after words text ≡ None → ⊥
clash words rest text same none =
    let both : Some rest ≡ None = sym (rest_after-append words rest) ∙ (ap (rest_after words) same ∙ none) in
    cc

-- what is after the words
after : (words rest tail text : List ℕ) → words ++ rest ≡ text → words ++ tail ≡ text → rest ≡ tail
after words rest tail text one other = append_cancel_left words rest tail (one ∙ sym other)

-- no form begins so, and has what can't be read after it
no_ask : (line rest : List ℕ) → line ≡ codes "ask " ++ rest → fields client_of (fields name_of mode_of) rest ≡ None → (form : Form) → HasForm line form → ⊥
no_ask line rest is none (Ask client name mode) h =
    let tail : rest ≡ ask_tail (client, (name, mode)) = after (codes "ask ") rest (ask_tail (client, (name, mode))) line (sym is) (ask_text client name mode ∙ sym h.2) in
    no_some (fields client_of (fields name_of mode_of) rest) (client, (name, mode)) none
    (ap (fields client_of (fields name_of mode_of)) tail ∙ reads_ask.each (client, (name, mode)) (h.1.0, (h.1.1, tt)))
no_ask line rest is none (Leave client name) h = clash (codes "ask ") rest (form_text (Leave client name)) (sym is ∙ h.2) refl
no_ask line rest is none (Cancel client name) h = clash (codes "ask ") rest (form_text (Cancel client name)) (sym is ∙ h.2) refl
no_ask line rest is none Forget h = clash (codes "ask ") rest (form_text Forget) (sym is ∙ h.2) refl
no_ask line rest is none (Receive digits) h = clash (codes "ask ") rest (form_text (Receive digits)) (sym is ∙ h.2) refl

no_leave : (line rest : List ℕ) → line ≡ codes "release " ++ rest → fields client_of name_of rest ≡ None → (form : Form) → HasForm line form → ⊥
no_leave line rest is none (Leave client name) h =
    let tail : rest ≡ client_tail (client, name) = after (codes "release ") rest (client_tail (client, name)) line (sym is) (leave_text client name ∙ sym h.2) in
    no_some (fields client_of name_of rest) (client, name) none (ap (fields client_of name_of) tail ∙ reads_client_and_name.each (client, name) (h.1.0, h.1.1))
no_leave line rest is none (Ask client name mode) h = clash (codes "release ") rest (form_text (Ask client name mode)) (sym is ∙ h.2) refl
no_leave line rest is none (Cancel client name) h = clash (codes "release ") rest (form_text (Cancel client name)) (sym is ∙ h.2) refl
no_leave line rest is none Forget h = clash (codes "release ") rest (form_text Forget) (sym is ∙ h.2) refl
no_leave line rest is none (Receive digits) h = clash (codes "release ") rest (form_text (Receive digits)) (sym is ∙ h.2) refl

no_cancel : (line rest : List ℕ) → line ≡ codes "cancel " ++ rest → fields client_of name_of rest ≡ None → (form : Form) → HasForm line form → ⊥
no_cancel line rest is none (Cancel client name) h =
    let tail : rest ≡ client_tail (client, name) = after (codes "cancel ") rest (client_tail (client, name)) line (sym is) (cancel_text client name ∙ sym h.2) in
    no_some (fields client_of name_of rest) (client, name) none (ap (fields client_of name_of) tail ∙ reads_client_and_name.each (client, name) (h.1.0, h.1.1))
no_cancel line rest is none (Ask client name mode) h = clash (codes "cancel ") rest (form_text (Ask client name mode)) (sym is ∙ h.2) refl
no_cancel line rest is none (Leave client name) h = clash (codes "cancel ") rest (form_text (Leave client name)) (sym is ∙ h.2) refl
no_cancel line rest is none Forget h = clash (codes "cancel ") rest (form_text Forget) (sym is ∙ h.2) refl
no_cancel line rest is none (Receive digits) h = clash (codes "cancel ") rest (form_text (Receive digits)) (sym is ∙ h.2) refl

-- what is read of an ask, of a leave, and of a cancel
pub ask_some : (rest : List ℕ) (kind : BookKind) → ask_of rest ≡ Some kind → (line : List ℕ) → line ≡ codes "ask " ++ rest → length line ≤ 256 → IsEvent line kind
ask_some rest kind e line is short =
    let m = mapped (λ (f : ℕ × (List ℕ × Mode)). kinds.Ask f.0 f.1.0 f.1.1) (fields client_of (fields name_of mode_of) rest) kind e in
    let h = reads_ask.only rest m.0 m.1 in
    subst (IsEvent line) m.2 (short, (h.0.0, h.0.1.0), is ∙ (ap (λ (t : List ℕ). codes "ask " ++ t) h.1 ∙ ask_text m.0.0 m.0.1.0 m.0.1.1))

pub ask_none : (rest : List ℕ) → ask_of rest ≡ None → (line : List ℕ) → line ≡ codes "ask " ++ rest → (form : Form) → HasForm line form → ⊥
ask_none rest e line is =
    no_ask line rest is (unmapped (λ (f : ℕ × (List ℕ × Mode)). kinds.Ask f.0 f.1.0 f.1.1) (fields client_of (fields name_of mode_of) rest) e)

pub leave_some : (rest : List ℕ) (kind : BookKind) → leave_of rest ≡ Some kind → (line : List ℕ) → line ≡ codes "release " ++ rest → length line ≤ 256
    → IsEvent line kind
leave_some rest kind e line is short =
    let m = mapped (λ (f : ℕ × List ℕ). kinds.Leave f.0 f.1) (fields client_of name_of rest) kind e in
    let h = reads_client_and_name.only rest m.0 m.1 in
    subst (IsEvent line) m.2 (short, (h.0.0, h.0.1), is ∙ (ap (λ (t : List ℕ). codes "release " ++ t) h.1 ∙ leave_text m.0.0 m.0.1))

pub leave_none : (rest : List ℕ) → leave_of rest ≡ None → (line : List ℕ) → line ≡ codes "release " ++ rest → (form : Form) → HasForm line form → ⊥
leave_none rest e line is = no_leave line rest is (unmapped (λ (f : ℕ × List ℕ). kinds.Leave f.0 f.1) (fields client_of name_of rest) e)

pub cancel_some : (rest : List ℕ) (kind : BookKind) → cancel_of rest ≡ Some kind → (line : List ℕ) → line ≡ codes "cancel " ++ rest → length line ≤ 256
    → IsEvent line kind
cancel_some rest kind e line is short =
    let m = mapped (λ (f : ℕ × List ℕ). kinds.Cancel f.0 f.1) (fields client_of name_of rest) kind e in
    let h = reads_client_and_name.only rest m.0 m.1 in
    subst (IsEvent line) m.2 (short, (h.0.0, h.0.1), is ∙ (ap (λ (t : List ℕ). codes "cancel " ++ t) h.1 ∙ cancel_text m.0.0 m.0.1))

pub cancel_none : (rest : List ℕ) → cancel_of rest ≡ None → (line : List ℕ) → line ≡ codes "cancel " ++ rest → (form : Form) → HasForm line form → ⊥
cancel_none rest e line is = no_cancel line rest is (unmapped (λ (f : ℕ × List ℕ). kinds.Cancel f.0 f.1) (fields client_of name_of rest) e)

-- none of the words
pub no_words : (line : List ℕ) → rest_after (codes "receive ") line ≡ None → rest_after (codes "ask ") line ≡ None → rest_after (codes "release ") line ≡ None
    → IsNoLater line → (form : Form) → HasForm line form → ⊥
no_words line no_receive no_ask no_leave no_later (Ask client name mode) h =
    clash (codes "ask ") (ask_tail (client, (name, mode))) line (ask_text client name mode ∙ sym h.2) no_ask
no_words line no_receive no_ask no_leave no_later (Leave client name) h =
    clash (codes "release ") (client_tail (client, name)) line (leave_text client name ∙ sym h.2) no_leave
no_words line no_receive no_ask no_leave no_later (Cancel client name) h = no_later.0 client name h
no_words line no_receive no_ask no_leave no_later Forget h = no_later.1 h
no_words line no_receive no_ask no_leave no_later (Receive digits) h = clash (codes "receive ") digits line (sym h.2) no_receive

pub no_later_words : (line : List ℕ) → rest_after (codes "cancel ") line ≡ None → (line ≡ codes "forget" → ⊥) → IsNoLater line
no_later_words line no_cancel no_forget =
    (λ client name h. clash (codes "cancel ") (client_tail (client, name)) line (cancel_text client name ∙ sym h.2) no_cancel, λ h. no_forget h.2)

pub no_later_cancel : (line rest : List ℕ) → line ≡ codes "cancel " ++ rest → cancel_of rest ≡ None → IsNoLater line
no_later_cancel line rest is none = (λ client name h. cancel_none rest none line is (Cancel client name) h, λ h. cancel_none rest none line is Forget h)

-- what is told about the fields of a cancel holds for the first line
pub cancel_told : (line rest : List ℕ) (o : Option BookKind) → o ≡ cancel_of rest → line ≡ codes "cancel " ++ rest → length line ≤ 256 → MatchOption o (IsNoLater line) (IsEvent line)
cancel_told line rest None e is short = no_later_cancel line rest is (sym e)
cancel_told line rest (Some kind) e is short = cancel_some rest kind (sym e) line is short

-- a line has the words of one version
pub one_version : (a b : BookVersion) (x y : List ℕ) → version_text a ++ 32 ∷ x ≡ version_text b ++ 32 ∷ y → (a ≡ b) × (x ≡ y)
one_version One One x y is = (refl, append_cancel_left (codes "book 1 ") x y is)
one_version Two Two x y is = (refl, append_cancel_left (codes "book 2 ") x y is)
one_version One Two x y is = absurd (clash (codes "book 1 ") x (codes "book 2 " ++ y) is refl)
one_version Two One x y is = absurd (clash (codes "book 2 ") x (codes "book 1 " ++ y) is refl)

pub no_first : (line rest : List ℕ) (read : BookVersion) → line ≡ version_text read ++ 32 ∷ rest → first_of rest ≡ None → IsNoFirst line
no_first line rest read is none version node nodes start h =
    let tail : rest ≡ first_tail (node, (nodes, start)) = (one_version read version rest (first_tail (node, (nodes, start))) (sym is ∙ h.text_is ∙ sym (book_text version node nodes start))).1 in
    let one : IsNodeNumber node = (h.member.0, (let few = h.count.1 in omega (arith, h.member.1, few))) in
    no_some (first_of rest) (node, (nodes, start)) none (ap first_of tail ∙ reads_first.each (node, (nodes, start)) (one, (h.count, h.begins)))

pub first_read : (line rest : List ℕ) (version : BookVersion) → line ≡ version_text version ++ 32 ∷ rest → length line ≤ 256 → (f : ℕ × (ℕ × ℕ)) → first_of rest ≡ Some f
    → f.0 ≤ f.1.0 → IsFirst line version f.0 f.1.0 f.1.1
first_read line rest version is short f e within =
    let h = reads_first.only rest f e in
    record {
      short = short;
      count = h.0.1.0;
      member = (h.0.0.0, within);
      begins = h.0.1.1;
      text_is = is ∙ (ap (λ (t : List ℕ). version_text version ++ 32 ∷ t) h.1 ∙ book_text version f.0 f.1.0 f.1.1);
    }

pub first_above : (line rest : List ℕ) (read : BookVersion) → line ≡ version_text read ++ 32 ∷ rest → (f : ℕ × (ℕ × ℕ)) → first_of rest ≡ Some f → f.1.0 < f.0
    → IsNoFirst line
first_above line rest read is f e above version node nodes start h =
    let tail : rest ≡ first_tail (node, (nodes, start)) = (one_version read version rest (first_tail (node, (nodes, start))) (sym is ∙ h.text_is ∙ sym (book_text version node nodes start))).1 in
    let one : IsNodeNumber node = (h.member.0, (let few = h.count.1 in omega (arith, h.member.1, few))) in
    let same : f ≡ (node, (nodes, start)) = same_Some _ _ (sym e ∙ (ap first_of tail ∙ reads_first.each (node, (nodes, start)) (one, (h.count, h.begins)))) in
    let at : nodes < node = subst (λ (g : ℕ × (ℕ × ℕ)). g.1.0 < g.0) same above in
    omega (arith, at, h.member.1)

pub no_book : (line : List ℕ) → ((version : BookVersion) (rest : List ℕ) → line ≡ version_text version ++ 32 ∷ rest → ⊥) → IsNoFirst line
no_book line none version node nodes start h = none version (first_tail (node, (nodes, start))) (h.text_is ∙ sym (book_text version node nodes start))

-- a node that is no member of a cluster of 1 to 64 nodes is above their number
pub no_member : {T : Type 0} (e : MemberError) (node nodes : ℕ) → IsNodeNumber nodes → IsErrOf {T = T} (Err e) BadCount ↔ (IsNodeNumber nodes → ⊥)
    → IsErrOf {T = T} (Err e) BadNode ↔ (IsNodeNumber nodes × (nodes < node)) → nodes < node
no_member BadCount node nodes count bad_count bad_node = absurd (bad_count.0 refl count)
no_member BadNode node nodes count bad_count bad_node = (bad_node.0 refl).1

-- ---- One line is one event

pub ask_once : (line : List ℕ) (client other : ℕ) (name name' : List ℕ) (mode mode' : Mode) → HasForm line (Ask client name mode)
    → HasForm line (Ask other name' mode') → kinds.Ask client name mode ≡ kinds.Ask other name' mode'
ask_once line client other name name' mode mode' g h =
    let one : ℕ × (List ℕ × Mode) = (client, (name, mode)) in
    let two : ℕ × (List ℕ × Mode) = (other, (name', mode')) in
    let tails : ask_tail one ≡ ask_tail two =
    after (codes "ask ") (ask_tail one) (ask_tail two) line (ask_text client name mode ∙ sym g.2) (ask_text other name' mode' ∙ sym h.2) in
    let same : one ≡ two = same_Some _ _ (sym (reads_ask.each one (g.1.0, (g.1.1, tt)))
    ∙ (ap (fields client_of (fields name_of mode_of)) tails ∙ reads_ask.each two (h.1.0, (h.1.1, tt)))) in
    ap (λ (f : ℕ × (List ℕ × Mode)). kinds.Ask f.0 f.1.0 f.1.1) same

pub leave_once : (line : List ℕ) (client other : ℕ) (name name' : List ℕ) → HasForm line (Leave client name) → HasForm line (Leave other name')
    → kinds.Leave client name ≡ kinds.Leave other name'
leave_once line client other name name' g h =
    let one : ℕ × List ℕ = (client, name) in
    let two : ℕ × List ℕ = (other, name') in
    let tails : client_tail one ≡ client_tail two =
    after (codes "release ") (client_tail one) (client_tail two) line (leave_text client name ∙ sym g.2) (leave_text other name' ∙ sym h.2) in
    let same : one ≡ two = same_Some _ _ (sym (reads_client_and_name.each one (g.1.0, g.1.1))
    ∙ (ap (fields client_of name_of) tails ∙ reads_client_and_name.each two (h.1.0, h.1.1))) in
    ap (λ (f : ℕ × List ℕ). kinds.Leave f.0 f.1) same

pub cancel_once : (line : List ℕ) (client other : ℕ) (name name' : List ℕ) → HasForm line (Cancel client name) → HasForm line (Cancel other name')
    → kinds.Cancel client name ≡ kinds.Cancel other name'
cancel_once line client other name name' g h =
    let one : ℕ × List ℕ = (client, name) in
    let two : ℕ × List ℕ = (other, name') in
    let tails : client_tail one ≡ client_tail two =
    after (codes "cancel ") (client_tail one) (client_tail two) line (cancel_text client name ∙ sym g.2) (cancel_text other name' ∙ sym h.2) in
    let same : one ≡ two = same_Some _ _ (sym (reads_client_and_name.each one (g.1.0, g.1.1))
    ∙ (ap (fields client_of name_of) tails ∙ reads_client_and_name.each two (h.1.0, h.1.1))) in
    ap (λ (f : ℕ × List ℕ). kinds.Cancel f.0 f.1) same

pub receive_once : (line digits others : List ℕ) → HasForm line (Receive digits) → HasForm line (Receive others) → digits ≡ others
receive_once line digits others g h = after (codes "receive ") digits others line (sym g.2) (sym h.2)

pub ask_no_leave : (line : List ℕ) (client other : ℕ) (name name' : List ℕ) (mode : Mode) → HasForm line (Ask client name mode)
    → HasForm line (Leave other name') → ⊥
ask_no_leave line client other name name' mode g h =
    clash (codes "ask ") (ask_tail (client, (name, mode))) (form_text (Leave other name')) (ask_text client name mode ∙ (sym g.2 ∙ h.2)) refl

pub ask_no_receive : (line : List ℕ) (client : ℕ) (name digits : List ℕ) (mode : Mode) → HasForm line (Ask client name mode)
    → HasForm line (Receive digits) → ⊥
ask_no_receive line client name digits mode g h =
    clash (codes "ask ") (ask_tail (client, (name, mode))) (form_text (Receive digits)) (ask_text client name mode ∙ (sym g.2 ∙ h.2)) refl

pub leave_no_receive : (line : List ℕ) (client : ℕ) (name digits : List ℕ) → HasForm line (Leave client name) → HasForm line (Receive digits) → ⊥
leave_no_receive line client name digits g h =
    clash (codes "release ") (client_tail (client, name)) (form_text (Receive digits)) (leave_text client name ∙ (sym g.2 ∙ h.2)) refl

pub ask_no_cancel : (line : List ℕ) (client other : ℕ) (name name' : List ℕ) (mode : Mode) → HasForm line (Ask client name mode) → HasForm line (Cancel other name') → ⊥
ask_no_cancel line client other name name' mode g h =
    clash (codes "ask ") (ask_tail (client, (name, mode))) (form_text (Cancel other name')) (ask_text client name mode ∙ (sym g.2 ∙ h.2)) refl

pub ask_no_forget : (line : List ℕ) (client : ℕ) (name : List ℕ) (mode : Mode) → HasForm line (Ask client name mode) → HasForm line Forget → ⊥
ask_no_forget line client name mode g h = clash (codes "ask ") (ask_tail (client, (name, mode))) (form_text Forget) (ask_text client name mode ∙ (sym g.2 ∙ h.2)) refl

pub leave_no_cancel : (line : List ℕ) (client other : ℕ) (name name' : List ℕ) → HasForm line (Leave client name) → HasForm line (Cancel other name') → ⊥
leave_no_cancel line client other name name' g h =
    clash (codes "release ") (client_tail (client, name)) (form_text (Cancel other name')) (leave_text client name ∙ (sym g.2 ∙ h.2)) refl

pub leave_no_forget : (line : List ℕ) (client : ℕ) (name : List ℕ) → HasForm line (Leave client name) → HasForm line Forget → ⊥
leave_no_forget line client name g h = clash (codes "release ") (client_tail (client, name)) (form_text Forget) (leave_text client name ∙ (sym g.2 ∙ h.2)) refl

pub cancel_no_forget : (line : List ℕ) (client : ℕ) (name : List ℕ) → HasForm line (Cancel client name) → HasForm line Forget → ⊥
cancel_no_forget line client name g h = clash (codes "cancel ") (client_tail (client, name)) (form_text Forget) (cancel_text client name ∙ (sym g.2 ∙ h.2)) refl

pub cancel_no_receive : (line : List ℕ) (client : ℕ) (name digits : List ℕ) → HasForm line (Cancel client name) → HasForm line (Receive digits) → ⊥
cancel_no_receive line client name digits g h =
    clash (codes "cancel ") (client_tail (client, name)) (form_text (Receive digits)) (cancel_text client name ∙ (sym g.2 ∙ h.2)) refl

pub receive_no_forget : (line digits : List ℕ) → HasForm line (Receive digits) → HasForm line Forget → ⊥
receive_no_forget line digits g h = clash (codes "receive ") digits (form_text Forget) (sym g.2 ∙ h.2) refl

-- ---- A first line

pub first_once : (line : List ℕ) (version version' : BookVersion) (node other nodes nodes' start start' : ℕ) → IsFirst line version node nodes start
    → IsFirst line version' other nodes' start' → (version ≡ version') × (node ≡ other) × (nodes ≡ nodes') × (start ≡ start')
first_once line version version' node other nodes nodes' start start' g h =
    let one : ℕ × (ℕ × ℕ) = (node, (nodes, start)) in
    let two : ℕ × (ℕ × ℕ) = (other, (nodes', start')) in
    let parts = one_version version version' (first_tail one) (first_tail two)
    (book_text version node nodes start ∙ sym g.text_is ∙ h.text_is ∙ sym (book_text version' other nodes' start')) in
    let left : IsNodeNumber node = (g.member.0, (let few = g.count.1 in omega (arith, g.member.1, few))) in
    let right : IsNodeNumber other = (h.member.0, (let few = h.count.1 in omega (arith, h.member.1, few))) in
    let same : one ≡ two = same_Some _ _ (sym (reads_first.each one (left, (g.count, g.begins)))
    ∙ (ap first_of parts.1 ∙ reads_first.each two (right, (h.count, h.begins)))) in
    (parts.0, ap (λ (f : ℕ × (ℕ × ℕ)). f.0) same, ap (λ (f : ℕ × (ℕ × ℕ)). f.1.0) same, ap (λ (f : ℕ × (ℕ × ℕ)). f.1.1) same)

pub first_no_form : (line : List ℕ) (version : BookVersion) (node nodes start : ℕ) (form : Form) → IsFirst line version node nodes start → HasForm line form → ⊥
first_no_form line version node nodes start form g h =
    no_form version form (first_tail (node, (nodes, start))) (book_text version node nodes start ∙ (sym g.text_is ∙ h.2))
  where
    no_form : (v : BookVersion) (f : Form) (rest : List ℕ) → version_text v ++ 32 ∷ rest ≡ form_text f → ⊥
    no_form One (Ask client name mode) rest is = clash (codes "book 1 ") rest (form_text (Ask client name mode)) is refl
    no_form One (Leave client name) rest is = clash (codes "book 1 ") rest (form_text (Leave client name)) is refl
    no_form One (Cancel client name) rest is = clash (codes "book 1 ") rest (form_text (Cancel client name)) is refl
    no_form One Forget rest is = clash (codes "book 1 ") rest (form_text Forget) is refl
    no_form One (Receive digits) rest is = clash (codes "book 1 ") rest (form_text (Receive digits)) is refl
    no_form Two (Ask client name mode) rest is = clash (codes "book 2 ") rest (form_text (Ask client name mode)) is refl
    no_form Two (Leave client name) rest is = clash (codes "book 2 ") rest (form_text (Leave client name)) is refl
    no_form Two (Cancel client name) rest is = clash (codes "book 2 ") rest (form_text (Cancel client name)) is refl
    no_form Two Forget rest is = clash (codes "book 2 ") rest (form_text Forget) is refl
    no_form Two (Receive digits) rest is = clash (codes "book 2 ") rest (form_text (Receive digits)) is refl
