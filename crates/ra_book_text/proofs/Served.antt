-- Lines that were read and answered, one after the other.
use Rattle.std.proofs.Common.{◌≡◌, ◌≢◌, ℕ, ◌+◌, ◌≤◌, ◌^◌, Bool, false, List, [], ◌∷◌, ◌++◌, Option, Result, Ok, Err, inl, inr, codes, refl, sym, ap, subst, ◌∙◌, append_assoc, length, length-append, arith}
use Rattle.std.proofs.lemmas.List.{append-nil, flat_map_more, map_push}
use Rattle.std.proofs.lemmas.List.Elements.{All-nil, All-cons, All-push}
use Rattle.std.specs.Io.KnownBytes.{Appends, Consumes, IsAtEnd}
use Rattle.ra_book_text.specs.declared.answering.waiting_output.Output.{Output}
use Rattle.ra_book_text.specs.Output.{HasPut}
use Rattle.std.proofs.KnownBytes.{Consumes-nil, Consumes-trans}
use Rattle.ra_book_text.specs.declared.error.BookFault.{BookFault}
use Rattle.ra_book_text.specs.declared.error.BookFault.TheVariants.{Line, Read, Write}
use Rattle.ra_book_text.specs.declared.answering.line_refusal.Refusal.TheVariants as refusal
use Rattle.ra_book.specs.Timed.{Timed, opening}
use Rattle.ra_book_text.specs.Answers.{Answered, Answers, AnswersAll, AnswersEach, answer_of, line_of, lines_of, refused_line, text_of}
use Rattle.ra_book_text.specs.Answers.Answered.{Accepted, Refused}
use Rattle.ra_book_text.specs.declared.next_line.book_version.BookVersion.{BookVersion}
use Rattle.ra_book_text.specs.declared.next_line.kept_line.KeptLine.{KeptLine}
use Rattle.ra_book_text.specs.Input.{HasNoFeed, TakesOpen, TakesMost, HasEnded}
use Rattle.ra_book_text.specs.NextLine.{ReadsLine}
use Rattle.ra_book_text.specs.Book.{HasRead, IsAnswered, IsOwed, IsWritten, lines_text}
use Rattle.ra_book_text.specs.declared.next_line.first_line.FirstLine.{FirstLine}
use Rattle.ra_book_text.specs.Serving.{OpensBy, Opens, AnswersSome, SaysFirst, Serves}

-- nothing was read
pub nothing : (old : Option (List ℕ)) → HasRead old old [] []
nothing old = record { taken = Consumes-nil old; each = All-nil HasNoFeed; rest = All-nil (λ byte. byte ≢ 10) }

lines_more : (lines : List (List ℕ)) (line rest : List ℕ) → lines_text (lines ++ line ∷ []) ++ rest ≡ lines_text lines ++ ((line ++ 10 ∷ []) ++ rest)
lines_more [] line rest = ap (λ (t : List ℕ). t ++ rest) (append-nil (line ++ 10 ∷ []))
lines_more (first ∷ lines) line rest =
    append_assoc (first ++ 10 ∷ []) (lines_text (lines ++ line ∷ [])) rest
    ∙ (ap (λ (t : List ℕ). (first ++ 10 ∷ []) ++ t) (lines_more lines line rest) ∙ sym (append_assoc (first ++ 10 ∷ []) (lines_text lines) ((line ++ 10 ∷ []) ++ rest)))

-- a line, and then bytes without a line feed
pub line_more : (old mid new : Option (List ℕ)) (lines : List (List ℕ)) (line : List ℕ) → HasRead old mid lines [] → Consumes mid new (line ++ 10 ∷ [])
    → HasNoFeed line → HasRead old new (lines ++ line ∷ []) []
line_more old mid new lines line read took free = record {
  taken = subst (Consumes old new)
      (ap (λ (t : List ℕ). t ++ (line ++ 10 ∷ [])) (append-nil (lines_text lines)) ∙ (ap (λ (t : List ℕ). lines_text lines ++ t) (sym (append-nil (line ++ 10 ∷ []))) ∙ sym (lines_more lines line [])))
      (Consumes-trans old mid new (lines_text lines ++ []) (line ++ 10 ∷ []) read.taken took);
  each = All-push HasNoFeed lines line read.each free;
  rest = All-nil (λ byte. byte ≢ 10);
}

pub open_more : (old mid new : Option (List ℕ)) (lines : List (List ℕ)) (part : List ℕ) → HasRead old mid lines [] → Consumes mid new part → HasNoFeed part
    → HasRead old new lines part
open_more old mid new lines part read took free = record {
  taken = subst (Consumes old new) (ap (λ (t : List ℕ). t ++ part) (append-nil (lines_text lines)))
      (Consumes-trans old mid new (lines_text lines ++ []) part read.taken took);
  each = read.each;
  rest = free;
}

-- the first line, and those after it
read_on : (old mid new : Option (List ℕ)) (line : List ℕ) (lines : List (List ℕ)) (part : List ℕ) → HasRead old mid (line ∷ []) [] → HasRead mid new lines part
    → HasRead old new (line ∷ lines) part
read_on old mid new line lines part first others = record {
  taken = subst (Consumes old new)
      (ap (λ (t : List ℕ). t ++ (lines_text lines ++ part)) (append-nil (lines_text (line ∷ [])) ∙ append-nil (line ++ 10 ∷ []))
      ∙ sym (append_assoc (line ++ 10 ∷ []) (lines_text lines) part))
      (Consumes-trans old mid new (lines_text (line ∷ []) ++ []) (lines_text lines ++ part) first.taken others.taken);
  each = All-cons HasNoFeed line lines (first.each 0 line (omega arith)) others.each;
  rest = others.rest;
}

-- another answer
each_more : (version : BookVersion) (a b c : Timed) (all : List Answered) (one : Answered) → AnswersEach version a all b → AnswersEach version b (one ∷ []) c → AnswersEach version a (all ++ one ∷ []) c
each_more version a b c [] one h answer = subst (λ (at : Timed). AnswersEach version at (one ∷ []) c) h answer
each_more version a b c (Accepted line answer ∷ all) one h more = (h.0, h.1, each_more version h.0 b c all one h.2 more)
each_more version a b c (Refused line answer ∷ all) one h more = (h.0, each_more version a b c all one h.1 more)

-- it is the answer to a line that was accepted or refused
its_answer : (version : BookVersion) (b c : Timed) (line text : List ℕ) → Answers version b line text c
    → (one : Answered) × (line_of one ≡ line) × (answer_of one ≡ text) × AnswersEach version b (one ∷ []) c
its_answer version b c line text (inl accepts) = (Accepted line text, refl, refl, (c, accepts, refl))
its_answer version b c line text (inr denies) =
    (Refused line text, refl, refl, (record { why = denies.why; stays = record { cause = denies.stays.cause; new_is = refl }; text_is = denies.text_is }, denies.stays.new_is))

pub answers_more : (version : BookVersion) (a b c : Timed) (lines : List (List ℕ)) (line text more : List ℕ) → AnswersAll version a lines text b → Answers version b line more c
    → AnswersAll version a (lines ++ line ∷ []) (text ++ more) c
answers_more version a b c lines line text more h answer =
    let (all, lines_are, text_is, each) = h in
    let (one, line_is, answer_is, then) = its_answer version b c line more answer in (
      all ++ one ∷ [],
      ap (λ (ls : List (List ℕ)). ls ++ line ∷ []) lines_are ∙ ap (λ (l : List ℕ). lines_of all ++ l ∷ []) (sym line_is) ∙ sym (map_push line_of all one),
      ap (λ (t : List ℕ). t ++ more) text_is ∙ ap (λ (t : List ℕ). text_of all ++ t) (sym answer_is) ∙ flat_map_more answer_of [] all one,
      each_more version a b c all one each then,
    )

-- a book whose first line was read, and then these lines
answered : (old mid new : Option (List ℕ)) (first : FirstLine) (after : Timed) (text : List ℕ) (line : List ℕ) → HasRead old mid (line ∷ []) [] → SaysFirst line first
    → AnswersSome first.version mid new (opening first.member.node first.member.nodes first.start) text after → IsAnswered old new (codes "ok\n" ++ text)
answered old mid new first after text line read opened some = (
  line ∷ some.0,
  some.1,
  read_on old mid new line some.0 some.1 read some.2,
  (first.version, first.member.node, first.member.nodes, first.start, after, text, opened, refl, some.3),
)

pub served : (old mid new : Option (List ℕ)) (first : FirstLine) (after : Timed) (ok text : List ℕ) (result : Result (Unit {0}) BookFault)
    → Opens old mid ok (Ok first) → Serves first.version mid new (opening first.member.node first.member.nodes first.start) text after result
    → IsOwed old new (ok ++ text) result
served old mid new first after ok text (Ok done) opens serves =
    let is : ok ≡ codes "ok\n" = opens.3 in
    rw is (answered old mid new first after text opens.0 opens.1 opens.2 serves.0, (λ none. cc), serves.1)
served old mid new first after ok text (Err Line) opens serves = absurd serves
served old mid new first after ok text (Err Read) opens serves =
    let is : ok ≡ codes "ok\n" = opens.3 in rw is (answered old mid new first after text opens.0 opens.1 opens.2 serves)
served old mid new first after ok text (Err Write) opens serves =
    let is : ok ≡ codes "ok\n" = opens.3 in rw is (inl (answered old mid new first after text opens.0 opens.1 opens.2 serves))

-- a book that did not open
pub unopened : (old new : Option (List ℕ)) (text : List ℕ) (fault : BookFault) → Opens old new text (Err fault) → IsOwed old new text (Err fault)
unopened old new text Line opens = opens
unopened old new text Read opens = ([], opens.0, opens.1, opens.2)
unopened old new text Write opens = inl ([], opens.0, opens.1, opens.2)

-- a writer that failed in the end
pub unwritten : (old new : Option (List ℕ)) (text : List ℕ) (result : Result (Unit {0}) BookFault) → IsOwed old new text result → IsOwed old new text (Err Write)
unwritten old new text (Ok done) owed = inl owed.0
unwritten old new text (Err Line) owed = inr owed
unwritten old new text (Err Read) owed = inl owed
unwritten old new text (Err Write) owed = owed

-- ---- The first line

pub opens_by : (old new : Option (List ℕ)) (line text : List ℕ) (result : Result FirstLine BookFault) → Consumes old new (line ++ 10 ∷ []) → HasNoFeed line
    → OpensBy line text result → Opens old new text result
opens_by old new line text (Ok first) took free opens = (line, line_more old old new [] line (nothing old) took free, opens.0, opens.1)
opens_by old new line text (Err Line) took free opens = (inl (line, line_more old old new [] line (nothing old) took free, opens.0), opens.1)
opens_by old new line text (Err Read) took free opens = absurd opens
opens_by old new line text (Err Write) took free opens = absurd opens

pub no_line : (old new : Option (List ℕ)) → TakesOpen old new → IsAtEnd new → Opens old new (refused_line refusal.Line) (Err Line)
no_line old new h end = (inr (h.0, open_more old old new [] h.0 (nothing old) h.1 h.2, end), refl)

pub not_opened : (old new : Option (List ℕ)) (kept : KeptLine) (fault : BookFault) → ReadsLine old new kept (Err fault) → Opens old new [] (Err fault)
not_opened old new kept Line h = absurd h
not_opened old new kept Read h = (h.0, open_more old old new [] h.0 (nothing old) h.1 h.2, refl)
not_opened old new kept Write h = (h.0, open_more old old new [] h.0 (nothing old) h.1 h.2, refl)

-- ---- The lines after it

-- these lines were answered so far
abbrev pub HasAnswered : BookVersion → Option (List ℕ) → Option (List ℕ) → Timed → List ℕ → Timed → ℕ → Type 0
HasAnswered version old now before text after turns =
    (lines : List (List ℕ)) × HasRead old now lines [] × AnswersAll version before lines text after × (turns ≤ length lines)

pub none_answered : (version : BookVersion) (old : Option (List ℕ)) (node : Timed) → HasAnswered version old old node [] node 0
none_answered version old node = ([], nothing old, ([], refl, refl, refl), omega arith)

pub one_answered : (version : BookVersion) (old mid new : Option (List ℕ)) (a b c : Timed) (text line more : List ℕ) (turns : ℕ) → HasAnswered version old mid a text b turns
    → Consumes mid new (line ++ 10 ∷ []) → HasNoFeed line → Answers version b line more c → HasAnswered version old new a (text ++ more) c (turns + 1)
one_answered version old mid new a b c text line more turns (lines, read, answers, many) took free answer = (
  lines ++ line ∷ [],
  line_more old mid new lines line read took free,
  answers_more version a b c lines line text more answers answer,
  omega (arith, many, length-append lines (line ∷ [])),
)

some_answered : (version : BookVersion) (old mid new : Option (List ℕ)) (a b : Timed) (text : List ℕ) (turns : ℕ) → HasAnswered version old mid a text b turns → TakesOpen mid new
    → AnswersSome version old new a text b
some_answered version old mid new a b text turns (lines, read, answers, many) part = (lines, part.0, open_more old mid new lines part.0 read part.1 part.2, answers)

pub all_answered : (version : BookVersion) (old mid new : Option (List ℕ)) (a b : Timed) (text : List ℕ) (turns : ℕ) → HasAnswered version old mid a text b turns → TakesOpen mid new
    → IsAtEnd new → Serves version old new a text b (Ok tt)
all_answered version old mid new a b text turns h part end = (some_answered version old mid new a b text turns h part, end)

pub stopped : (version : BookVersion) (old mid new : Option (List ℕ)) (a b : Timed) (text : List ℕ) (turns : ℕ) (kept : KeptLine) (fault : BookFault)
    → HasAnswered version old mid a text b turns → ReadsLine mid new kept (Err fault) → Serves version old new a text b (Err fault)
stopped version old mid new a b text turns kept Line h part = absurd part
stopped version old mid new a b text turns kept Read h part = some_answered version old mid new a b text turns h part
stopped version old mid new a b text turns kept Write h part = some_answered version old mid new a b text turns h part

pub too_many_lines : (version : BookVersion) (old now : Option (List ℕ)) (a b : Timed) (text : List ℕ) (turns : ℕ) → HasAnswered version old now a text b turns
    → Serves version old now a text b (Err Read)
too_many_lines version old now a b text turns (lines, read, answers, many) = (lines, [], read, answers)

-- ---- The end of the reader

-- each line has a line feed
many_lines : (lines : List (List ℕ)) → length lines ≤ length (lines_text lines)
many_lines [] = omega arith
many_lines (line ∷ lines) =
    omega (arith, many_lines lines, length-append (line ++ 10 ∷ []) (lines_text lines), length-append line (10 ∷ []))

-- all turns were taken
pub most_read : (version : BookVersion) (old now : Option (List ℕ)) (a b : Timed) (text : List ℕ) (turns : ℕ) → HasAnswered version old now a text b turns → 2 ^ 64 ≤ turns + 1
    → TakesMost old now
most_read version old now a b text turns (lines, read, answers, many) all =
    (lines_text lines ++ [], read.taken, omega (arith, many, all, many_lines lines, length-append (lines_text lines) []))

-- what was read before
pub ended_more : (old mid new : Option (List ℕ)) (taken : List ℕ) (failed : Bool) → Consumes old mid taken → HasEnded mid new failed
    → HasEnded old new failed
ended_more old mid new taken failed took (inl fault) = inl fault
ended_more old mid new taken failed took (inr (more, took', many)) =
    inr (taken ++ more, Consumes-trans old mid new taken more took took', omega (arith, many, length-append taken more))

pub ended_after : (version : BookVersion) (old mid new : Option (List ℕ)) (a b : Timed) (text : List ℕ) (turns : ℕ) (failed : Bool) → HasAnswered version old mid a text b turns
    → HasEnded mid new failed → HasEnded old new failed
ended_after version old mid new a b text turns failed (lines, read, answers, many) = ended_more old mid new (lines_text lines ++ []) failed read.taken

pub ended_after_first : (old mid new : Option (List ℕ)) (first : FirstLine) (ok : List ℕ) (failed : Bool) → Opens old mid ok (Ok first) → HasEnded mid new failed
    → HasEnded old new failed
ended_after_first old mid new first ok failed (line, read, opened, said) = ended_more old mid new (lines_text (line ∷ []) ++ []) failed read.taken

-- ---- What was written in the end

pub left_unwritten : (old new : Option (List ℕ)) (text : List ℕ) (out : Output) → HasPut old new (text ++ []) out → IsWritten old new text (Err Write)
left_unwritten old new text out h = (h.sent, h.rest, sym (append-nil text) ∙ h.text_is, h.appends)

pub all_written : (old new : Option (List ℕ)) (text : List ℕ) (result : Result (Unit {0}) BookFault) (out : Output) → HasPut old new (text ++ []) out
    → out.failed ≡ false → out.waiting.items ≡ [] → IsWritten old new text result
all_written old new text result out h works empty = by result
  where
    none : h.rest ≡ []
    none = h.waits works ∙ empty

    whole : text ≡ h.sent
    whole = sym (append-nil text) ∙ (h.text_is ∙ (ap (λ (t : List ℕ). h.sent ++ t) none ∙ append-nil h.sent))

    wrote : Appends old new text
    wrote = subst (Appends old new) (sym whole) h.appends

    by : (r : Result (Unit {0}) BookFault) → IsWritten old new text r
    by (Ok done) = wrote
    by (Err Line) = wrote
    by (Err Read) = wrote
    by (Err Write) = (text, [], sym (append-nil text), wrote)
