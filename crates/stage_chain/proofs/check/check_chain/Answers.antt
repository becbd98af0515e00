use Rattle.stage_chain.proofs.Passed.{passed_none}
use Rattle.stage_chain.proofs.check.check_chain.Goals as goal

pub returns-clause-passes : goal.returns-clause-passes
returns-clause-passes g c =
    passed_none g.S.Stages.parts g.met.S.Stages.laws _ c.in_ok-finding.finding _ c.in_ok-check_outcome.ensures.end
    c.in_ok-finding.ensures.passes
