use Rattle.plan_num.proofs.Common.{◌≡◌, IfOk, ap, ◌∙◌, subst, sym}
use Rattle.stage_keep.specs.EntryReading.{entry_with}
use Rattle.stage_keep.proofs.Reading.{first_found, later_found}
use Rattle.stage_keep.proofs.read.read_entry.Goals as goal

pub returns-in-Some : goal.returns-in-Some
returns-in-Some c =
    sym (first_found c.args.stage c.args.bytes.now c.in-Some.entry
    (ap (entry_with c.args.stage c.args.bytes.now) (sym c.makes.ensures)
    ∙ sym c.in_ok-entry.ensures ∙ c.in-Some.is))

pub returns-in-None : goal.returns-in-None
returns-in-None c =
    subst (λ wanted. IfOk c.shorter_entry.result (λ found. found ≡ wanted))
    (later_found c.args.stage c.args.bytes.now
    (ap (entry_with c.args.stage c.args.bytes.now) (sym c.makes.ensures)
    ∙ sym c.in_ok-entry.ensures ∙ c.in-None.is))
    c.shorter_entry.ensures
