use Rattle.plan_num.proofs.Common.{◌∙◌, sym, eqb-true}
use Rattle.pesp.proofs.EmptySets.{none_at}
use Rattle.pesp.proofs.revise.is_emptied.Goals as goal

pub returns-then-is_changed-clause-empty : goal.returns-then-is_changed-clause-empty
returns-then-is_changed-clause-empty c is = none_at c.args.sets.now c.args.event c.requires
    (eqb-true _ 0 (sym
    c.is_empty.ensures ∙ is))
