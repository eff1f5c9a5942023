-- The outcome of a call of `answer`, by how far it came.
use Rattle.std.proofs.Common.{◌≡◌, ◌≢◌, ◌⊎◌, ℕ, ◌≤◌, ◌<◌, List, [], ◌++◌, length, Option, Ok, Err, refl, sym, subst, arith, inl, inr}
use Rattle.std.specs.Io.KnownBytes.{Consumes, Appends}
use Rattle.std.proofs.KnownBytes.{Consumes-nil}
use Rattle.hex.specs.Hex.{decode_of}
use Rattle.ra_stamp.specs.declared.message.Message.{Message}
use Rattle.ra_stamp.specs.Message.{to_of}
use Rattle.ra_automaton.specs.declared.error.ReceiveError.{ReceiveError}
use Rattle.ra_automaton.specs.declared.error.ReceiveError.TheVariants as receive
use Rattle.ra_frame.specs.declared.error.FrameError.{FrameError}
use Rattle.ra_frame.specs.declared.frame.Frame.{Frame}
use Rattle.ra_text.specs.declared.error.ReadFault.{ReadFault}
use Rattle.ra_text.specs.declared.error.ReadFault.TheVariants as read
use Rattle.ra_text.specs.Input.{Reads}
use Rattle.ra_cli.specs.declared.error.AnswerError.{AnswerError}
use Rattle.ra_cli.specs.declared.error.AnswerError.TheVariants as fault
use Rattle.ra_stamp.specs.Member.{IsMember}
use Rattle.ra_cli.specs.Answer.{Carries, IsStrange, IsUnwanted, IsAnswered, Refuses}
use Rattle.ra_cli.specs.AnswerCall.{ComesTo, IsOfInput, of_receive}
use Rattle.ra_cli.specs.Line.{IsLine}
use Rattle.ra_cli.proofs.Refusals.{for_each, refuses_input, answers_input, not_nil}
use Rattle.ra_cli.proofs.ClusterRuns.{of_known}

-- a message that is not taken is refused
pub unwanted : (node nodes : ℕ) (input : List ℕ) (frame : Frame) (why : AnswerError) → IsMember node nodes → Carries input frame
    → IsUnwanted node nodes frame.message why → Refuses node nodes input why
unwanted node nodes input frame why member carries (inl (is, other)) =
    subst (Refuses node nodes input) (sym is) (member, frame, carries, other)
unwanted node nodes input frame why member carries (inr (inl (is, strange))) =
    subst (Refuses node nodes input) (sym is) (member, frame, carries, strange)
unwanted node nodes input frame why member carries (inr (inr is)) = subst (Refuses node nodes input) (sym is) member

-- such a refusal is neither of the reader nor of the writer
pub of_message : (node nodes : ℕ) (message : Message) (why : AnswerError) → IsUnwanted node nodes message why → IsOfInput why
of_message node nodes message why (inl (is, other)) = ((λ read. absurd cc), (λ write. absurd cc))
of_message node nodes message why (inr (inl (is, strange))) = ((λ read. absurd cc), (λ write. absurd cc))
of_message node nodes message why (inr (inr is)) = ((λ read. absurd cc), (λ write. absurd cc))

pub of_frame : (wrong : FrameError) → IsOfInput (fault.Frame wrong)
of_frame wrong = ((λ read. absurd cc), (λ write. absurd cc))

pub of_clock : IsOfInput fault.ClockFull
of_clock = ((λ read. absurd cc), (λ write. absurd cc))

pub of_memory : IsOfInput fault.Memory
of_memory = ((λ read. absurd cc), (λ write. absurd cc))

-- a message that an automaton does not take is unwanted
pub not_taken : (node nodes : ℕ) (message : Message) (why : ReceiveError) → (why ≡ receive.WrongNode → to_of message ≢ node)
    → (why ≡ receive.Stranger → IsStrange node nodes message) → IsUnwanted node nodes message (of_receive why)
not_taken node nodes message receive.WrongNode other strange = inl (refl, other refl)
not_taken node nodes message receive.Stranger other strange = inr (inl (refl, strange refl))
not_taken node nodes message receive.Memory other strange = inr (inr refl)

-- digits that are no bytes are refused so
pub no_bytes : (input digits : List ℕ) (why : AnswerError) → IsLine input digits
    → (why ≡ fault.Memory) ⊎ ((why ≡ fault.Hex) × ((bytes : List ℕ) → decode_of digits ≡ Ok bytes → ⊥))
    → ((node nodes : ℕ) → IsMember node nodes → Refuses node nodes input why) × IsOfInput why
no_bytes input digits why line (inl is) =
    ((λ node nodes member. subst (Refuses node nodes input) (sym is) member), ((λ read. absurd cc), (λ write. absurd cc)))
no_bytes input digits why line (inr (is, none)) =
    ((λ node nodes member. subst (Refuses node nodes input) (sym is) (member, digits, line, none)), ((λ read. absurd cc), (λ write. absurd cc)))

-- nothing was read
pub no_member : {T : Type 0} (node nodes : ℕ) (old before : Option (List ℕ)) (S W : Type 0) (why : AnswerError)
    → ((input : List ℕ) → Refuses node nodes input why) → (why ≡ fault.BadCount) ⊎ (why ≡ fault.BadNode) → S → W
    → ComesTo {T = T} node nodes old old before before S W (Err why)
no_member node nodes old before S W why refuses early s w = record {
  ok = tt;
  cause = ([], refuses []);
  member = tt;
  untouched = λ _. s;
  reads = record {
    refused = for_each old node nodes why refuses;
    failed = λ is. elim early [
      | inl count ↦ absurd cc
      | inr node ↦ absurd cc
    ];
    at_most = ([], omega arith, Consumes-nil old);
  };
  writes = record {
    unwritten = λ _. w;
    prefix = λ is. elim early [
      | inl count ↦ absurd cc
      | inr node ↦ absurd cc
    ];
  };
}

-- a refusal of each input by a node that is one of them
refuses_each : (node nodes : ℕ) (old : Option (List ℕ)) (why : AnswerError) → IsMember node nodes → (why ≡ fault.Read) ⊎ (why ≡ fault.Memory)
    → (input : List ℕ) → Refuses node nodes input why
refuses_each node nodes old why member (inl is) input = subst (Refuses node nodes input) (sym is) member
refuses_each node nodes old why member (inr is) input = subst (Refuses node nodes input) (sym is) member

-- which fault of the reader a fault is
of_reader : (given : ReadFault) (why : AnswerError) → (given ≡ read.Read → why ≡ fault.Read) × (given ≡ read.Memory → why ≡ fault.Memory)
    → ((given ≡ read.Read) × (why ≡ fault.Read)) ⊎ ((given ≡ read.Memory) × (why ≡ fault.Memory))
of_reader read.Read why is = inl (refl, is.0 refl)
of_reader read.Memory why is = inr (refl, is.1 refl)

-- the input was not read
pub no_input : {T : Type 0} (node nodes : ℕ) (old new before : Option (List ℕ)) (S W : Type 0) (given : ReadFault) (why : AnswerError)
    → IsMember node nodes → (given ≡ read.Read → why ≡ fault.Read) × (given ≡ read.Memory → why ≡ fault.Memory)
    → ((given ≡ read.Read) → (taken : List ℕ) × (length taken < 258) × Consumes old new taken)
    → (taken : List ℕ) × (length taken ≤ 258) × Consumes old new taken → W
    → ComesTo {T = T} node nodes old new before before S W (Err why)
no_input node nodes old new before S W given why member from failed at_most w =
    elim (of_reader given why from) [
      | inl (g, e) ↦ record {
        ok = tt;
        cause = ([], refuses_each node nodes old why member (inl e) []);
        member = tt;
        untouched = λ is. elim is [
          | inl count ↦ absurd cc
          | inr node ↦ absurd cc
        ];
        reads = record {
          refused = for_each old node nodes why (refuses_each node nodes old why member (inl e));
          failed = λ is. failed g;
          at_most = at_most;
        };
        writes = record { unwritten = λ _. w; prefix = λ is. absurd cc };
      }
      | inr (g, e) ↦ record {
        ok = tt;
        cause = ([], refuses_each node nodes old why member (inr e) []);
        member = tt;
        untouched = λ is. elim is [
          | inl count ↦ absurd cc
          | inr node ↦ absurd cc
        ];
        reads = record {
          refused = for_each old node nodes why (refuses_each node nodes old why member (inr e));
          failed = λ is. absurd cc;
          at_most = at_most;
        };
        writes = record { unwritten = λ _. w; prefix = λ is. absurd cc };
      }
    ]

-- the input was read, and is not answered
pub no_answer : {T : Type 0} (node nodes : ℕ) (old new before : Option (List ℕ)) (S W : Type 0) (taken : List ℕ) (why : AnswerError)
    → IsMember node nodes → Reads old new 258 taken → Refuses node nodes taken why → IsOfInput why → W
    → ComesTo {T = T} node nodes old new before before S W (Err why)
no_answer node nodes old new before S W taken why member reads refuses (unread, unwritten) w = record {
  ok = tt;
  cause = (taken, refuses);
  member = tt;
  untouched = λ is. elim is [
    | inl count ↦ absurd ((subst (Refuses node nodes taken) count refuses) member.count)
    | inr none ↦ absurd ((subst (Refuses node nodes taken) none refuses).1 member)
  ];
  reads = record {
    refused = refuses_input old new node nodes taken why unwritten reads refuses;
    failed = λ is. absurd (unread (let e : why ≡ fault.Read = cc in e));
    at_most = (taken, reads.at_most, reads.taken);
  };
  writes = record { unwritten = λ _. w; prefix = λ is. absurd (unwritten (let e : why ≡ fault.Write = cc in e)) };
}

-- the answer was not written, or not all of it
pub not_written : {T : Type 0} (node nodes : ℕ) (old new before after : Option (List ℕ)) (S W : Type 0) (taken output prefix rest : List ℕ)
    → Reads old new 258 taken → IsAnswered node nodes taken output → output ≡ prefix ++ rest → rest ≢ [] → Appends before after prefix
    → ComesTo {T = T} node nodes old new before after S W (Err fault.Write)
not_written node nodes old new before after S W taken output prefix rest reads answered parts left appends =
    let known = answers_input old new node nodes taken output reads answered in
    let some : output ≢ [] = not_nil output prefix rest parts left in
    record {
      ok = tt;
      cause = (taken, (output, answered, some));
      member = tt;
      untouched = λ is. elim is [
        | inl count ↦ absurd cc
        | inr none ↦ absurd cc
      ];
      reads = record {
        refused = of_known old (λ input. IsAnswered node nodes input output × Consumes old new input)
            (λ input. Refuses node nodes input fault.Write) (λ input h. (output, h.0, some)) known;
        failed = λ is. absurd cc;
        at_most = (taken, reads.at_most, reads.taken);
      };
      writes = record {
        unwritten = λ no. absurd (no refl);
        prefix = λ is. of_known old (λ input. IsAnswered node nodes input output × Consumes old new input)
            (λ input. (f b : List ℕ) × IsAnswered node nodes input (f ++ b) × (b ≢ []) × Appends before after f)
            (λ input h. (prefix, rest, subst (λ (xs : List ℕ). IsAnswered node nodes input xs) parts h.0, left, appends)) known;
      };
    }

-- the answer was written
pub written : {T : Type 0} (node nodes : ℕ) (old new before after : Option (List ℕ)) (S W : Type 0) (taken output : List ℕ) (done : T)
    → IsMember node nodes → Reads old new 258 taken → IsAnswered node nodes taken output → Appends before after output
    → ComesTo node nodes old new before after S W (Ok done)
written node nodes old new before after S W taken output done member reads answered appends = record {
  ok = of_known old (λ input. IsAnswered node nodes input output × Consumes old new input)
      (λ input. (o : List ℕ) × IsAnswered node nodes input o × Consumes old new input × Appends before after o)
      (λ input h. (output, h.0, h.1, appends)) (answers_input old new node nodes taken output reads answered);
  cause = tt;
  member = member;
  untouched = tt;
  reads = record { refused = tt; failed = λ is. absurd cc; at_most = (taken, reads.at_most, reads.taken) };
  writes = record { unwritten = tt; prefix = λ is. absurd cc };
}
