use Rattle.plan_num.proofs.Common.{ap}
use Rattle.line_concepts.specs.Walks.{WalkedRegions}
use Rattle.line_concepts.proofs.SearchTurns.{search_begun}
use Rattle.line_concepts.proofs.search.Search.new.Goals as goal

pub returns-clause-searched : goal.returns-clause-searched
returns-clause-searched c = search_begun c.args.problem.now c.in_ok-walk.walk c.new-2.result
    c.in_ok-walk.ensures.root c.new-2.ensures

pub returns-clause-problem : goal.returns-clause-problem
returns-clause-problem c = ap (λ (walk : WalkedRegions). walk.problem) c.in_ok-walk.ensures.root
