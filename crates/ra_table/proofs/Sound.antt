-- What each table step keeps: no node has two entries on one name that wait or hold.
use Rattle.std.proofs.Common.{List, [], ◌∷◌, ◌++◌, get_or, All, sym, subst}
use Rattle.std.proofs.lemmas.List.Elements.{All-nil}
use Rattle.ra_stamp.specs.declared.entry.Entry.{Entry}
use Rattle.ra_stamp.specs.declared.entry.Mark.{Mark}
use Rattle.ra_stamp.specs.declared.entry.Mark.TheVariants.{Requested, Entered, Left, Withdrawn}
use Rattle.ra_table.specs.Table.{LockTable, empty_table, IsNodeFree, TableStep}
use Rattle.ra_table.specs.Refusals.{SharesNodeAndName}
use Rattle.ra_table.proofs.Apart.{Apart, All-put, All-taken, All-there, Apart-put, Apart-taken, All-apart}

SharesNodeAndName-flip : (a b : Entry) → SharesNodeAndName a b → SharesNodeAndName b a
SharesNodeAndName-flip a b s = (sym s.0, sym s.1)

abbrev pub NotOfOneNode : Entry → Entry → Type 0
NotOfOneNode a b = SharesNodeAndName a b → ⊥

pub NotOfOneNode-flip : (a b : Entry) → NotOfOneNode a b → NotOfOneNode b a
NotOfOneNode-flip a b n s = n (SharesNodeAndName-flip b a s)

-- of the entries that wait or hold, no two are of one node on one name
pub record IsSound (waiting holding : List Entry) : Type 0 where
  pub apart_waiting : Apart NotOfOneNode waiting
  pub apart_holding : Apart NotOfOneNode holding
  pub apart : All (λ w. All (NotOfOneNode w) holding) waiting

abbrev pub IsSoundTable : LockTable → Type 0
IsSoundTable t = IsSound t.waiting t.holding

pub empty_is_sound : IsSoundTable empty_table
empty_is_sound = record { apart_waiting = tt; apart_holding = tt; apart = All-nil (λ w. All (NotOfOneNode w) []) }

-- an entry of a node that is free is apart from each of the list
apart_from_free : (e : Entry) (xs : List Entry) → IsNodeFree e xs → All (NotOfOneNode e) xs
apart_from_free e xs free k d lt s = free k d lt (sym s.0) (sym s.1)

sound_requested : (prefix rest holding : List Entry) (e : Entry) → IsSound (prefix ++ rest) holding
    → IsNodeFree e (prefix ++ rest) → IsNodeFree e holding → IsSound (prefix ++ e ∷ rest) holding
sound_requested prefix rest holding e sound not_waiting not_holding = record {
  apart_waiting = Apart-put NotOfOneNode NotOfOneNode-flip prefix rest e sound.apart_waiting (apart_from_free e (prefix ++ rest) not_waiting);
  apart_holding = sound.apart_holding;
  apart = All-put (λ w. All (NotOfOneNode w) holding) prefix rest e sound.apart (apart_from_free e holding not_holding);
}

sound_entered : (prefix rest prefix' rest' : List Entry) (e : Entry) → IsSound (prefix ++ e ∷ rest) (prefix' ++ rest')
    → IsSound (prefix ++ rest) (prefix' ++ e ∷ rest')
sound_entered prefix rest prefix' rest' e sound =
    let others : All (NotOfOneNode e) (prefix ++ rest) = All-apart NotOfOneNode NotOfOneNode-flip prefix rest e sound.apart_waiting in
    let apart : All (λ w. All (NotOfOneNode w) (prefix' ++ rest')) (prefix ++ rest) = All-taken (λ w. All (NotOfOneNode w) (prefix' ++ rest')) prefix rest e sound.apart in
    record {
      apart_waiting = Apart-taken NotOfOneNode prefix rest e sound.apart_waiting;
      apart_holding = Apart-put NotOfOneNode NotOfOneNode-flip prefix' rest' e sound.apart_holding (All-there (λ w. All (NotOfOneNode w) (prefix' ++ rest')) prefix rest e sound.apart);
      apart = λ k d lt. let w = get_or (prefix ++ rest) k d in All-put (NotOfOneNode w) prefix' rest' e (apart k d lt) (NotOfOneNode-flip e w (others k d lt));
    }

sound_left : (waiting prefix rest : List Entry) (e : Entry) → IsSound waiting (prefix ++ e ∷ rest) → IsSound waiting (prefix ++ rest)
sound_left waiting prefix rest e sound = record {
  apart_waiting = sound.apart_waiting;
  apart_holding = Apart-taken NotOfOneNode prefix rest e sound.apart_holding;
  apart = λ k d lt. All-taken (NotOfOneNode (get_or waiting k d)) prefix rest e (sound.apart k d lt);
}

sound_withdrawn : (prefix rest holding : List Entry) (e : Entry) → IsSound (prefix ++ e ∷ rest) holding → IsSound (prefix ++ rest) holding
sound_withdrawn prefix rest holding e sound = record {
  apart_waiting = Apart-taken NotOfOneNode prefix rest e sound.apart_waiting;
  apart_holding = sound.apart_holding;
  apart = All-taken (λ w. All (NotOfOneNode w) holding) prefix rest e sound.apart;
}

pub step_sound : (old new : LockTable) (mark : Mark) → TableStep old mark new → IsSoundTable old → IsSoundTable new
step_sound old new (Requested e) step sound =
    let before : IsSound (step.1.0 ++ step.1.1) old.holding = subst (λ (w : List Entry). IsSound w old.holding) step.1.2 sound in
    let free : IsNodeFree e (step.1.0 ++ step.1.1) = subst (IsNodeFree e) step.1.2 step.0.not_waiting in
    rw (step.1.3, step.2) (sound_requested step.1.0 step.1.1 old.holding e before free step.0.not_holding)
step_sound old new (Entered e) step sound =
    let before : IsSound (step.1.0 ++ e ∷ step.1.1) (step.2.0 ++ step.2.1) = rw (← step.1.3, ← step.2.2) sound in
    rw (step.1.2, step.2.3) (sound_entered step.1.0 step.1.1 step.2.0 step.2.1 e before)
step_sound old new (Left e) step sound =
    let before : IsSound old.waiting (step.2.0 ++ e ∷ step.2.1) = subst (λ (h : List Entry). IsSound old.waiting h) step.2.3 sound in
    rw (step.1, step.2.2) (sound_left old.waiting step.2.0 step.2.1 e before)
step_sound old new (Withdrawn e) step sound =
    let before : IsSound (step.1.0 ++ e ∷ step.1.1) old.holding = subst (λ (w : List Entry). IsSound w old.holding) step.1.3 sound in
    rw (step.1.2, step.2) (sound_withdrawn step.1.0 step.1.1 old.holding e before)
