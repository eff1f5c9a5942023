use Rattle.std.proofs.Common.{length, ok_or, refl, ap, ◌∙◌, inl, inr}
use Rattle.ra_script.specs.declared.error.ScriptError.TheVariants as fault
use Rattle.ra_script.proofs.Texts.{is_text, tree_of-bytes, tree_of-long, tree_of-text, not_both, limit_is_not_memory, toml_is_not_memory, not_refused}
use Rattle.ra_script.proofs.script_reading.tree_of.Goals as goal

-- ---- The text is too long

pub returns-then-text-gt-MAX_SCRIPT-clause-err : goal.returns-then-text-gt-MAX_SCRIPT-clause-err
returns-then-text-gt-MAX_SCRIPT-clause-err c = inl (tree_of-long c.args.text.now c.if-text-gt-MAX_SCRIPT.true)

pub returns-then-text-gt-MAX_SCRIPT-clause-limit : goal.returns-then-text-gt-MAX_SCRIPT-clause-limit
returns-then-text-gt-MAX_SCRIPT-clause-limit c = λ _. refl

pub returns-then-text-gt-MAX_SCRIPT-clause-memory : goal.returns-then-text-gt-MAX_SCRIPT-clause-memory
returns-then-text-gt-MAX_SCRIPT-clause-memory c = limit_is_not_memory

-- ---- It is not UTF-8

pub returns-in_default-clause-err : goal.returns-in_default-clause-err
returns-in_default-clause-err c = inl (tree_of-bytes c.args.text.now c.if-text-gt-MAX_SCRIPT.false c.in_default.ensures.cases.0)

pub returns-in_default-clause-limit : goal.returns-in_default-clause-limit
returns-in_default-clause-limit c = not_both (length c.args.text.now) c.if-text-gt-MAX_SCRIPT.false

pub returns-in_default-clause-memory : goal.returns-in_default-clause-memory
returns-in_default-clause-memory c = toml_is_not_memory

-- ---- It is a document

pub returns-in-Ok-table_from_str-clause-ok : goal.returns-in-Ok-table_from_str-clause-ok
returns-in-Ok-table_from_str-clause-ok c =
    tree_of-text c.args.text.now c.if-text-gt-MAX_SCRIPT.false c.in-Ok.ensures.cases.1
    ∙ ap (λ o. ok_or o fault.Toml) (rw c.in-Ok.ensures.cases.0 at c.in-Ok-table_from_str.ensures.ok)

pub returns-in-Ok-table_from_str-clause-limit : goal.returns-in-Ok-table_from_str-clause-limit
returns-in-Ok-table_from_str-clause-limit c = not_both (length c.args.text.now) c.if-text-gt-MAX_SCRIPT.false

pub returns-in-Ok-table_from_str-clause-parsed : goal.returns-in-Ok-table_from_str-clause-parsed
returns-in-Ok-table_from_str-clause-parsed c = is_text c.args.text.now c.if-text-gt-MAX_SCRIPT.false c.in-Ok.ensures.cases.1

pub returns-in-Ok-table_from_str-clause-memory : goal.returns-in-Ok-table_from_str-clause-memory
returns-in-Ok-table_from_str-clause-memory c = not_refused _ _

-- ---- There is no memory for it

pub returns-in-Err-clause-err : goal.returns-in-Err-clause-err
returns-in-Err-clause-err c = inr refl

pub returns-in-Err-clause-limit : goal.returns-in-Err-clause-limit
returns-in-Err-clause-limit c = not_both (length c.args.text.now) c.if-text-gt-MAX_SCRIPT.false

pub returns-in-Err-clause-memory : goal.returns-in-Err-clause-memory
returns-in-Err-clause-memory c memory = is_text c.args.text.now c.if-text-gt-MAX_SCRIPT.false c.in-Ok.ensures.cases.1

-- ---- It is no document

pub returns-in-Err-2-clause-limit : goal.returns-in-Err-2-clause-limit
returns-in-Err-2-clause-limit c = not_both (length c.args.text.now) c.if-text-gt-MAX_SCRIPT.false
