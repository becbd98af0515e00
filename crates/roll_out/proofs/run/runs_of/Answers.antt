use Rattle.plan_num.proofs.Common.{◌++◌, ap, sym, ◌∙◌, append-nil}
use Rattle.roll_out.proofs.RunsInTurn.{no_runs}
use Rattle.roll_out.proofs.run.runs_of.Goals as goal

pub returns : goal.returns
returns c =
    sym (append-nil c.loop-rest.runs.items)
    ∙ ap (λ ys. c.loop-rest.runs.items ++ ys)
    (sym (no_runs c.loop-rest.rest.now (sym c.loop-rest-test.ensures)))
    ∙ c.loop-rest.invariant
