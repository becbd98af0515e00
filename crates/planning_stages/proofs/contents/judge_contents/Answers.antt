use Rattle.planning_stages.proofs.Laws.{content_clause}
use Rattle.planning_stages.proofs.contents.judge_contents.Goals as goal

pub returns-clause-passes : goal.returns-clause-passes
returns-clause-passes c =
    content_clause c.args.bundle.now c.args.there.now c.requires.fits c.content_found.result c.content_found.ensures
