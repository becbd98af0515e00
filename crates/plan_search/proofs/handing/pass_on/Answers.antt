use Rattle.plan_num.proofs.Common.{sym, ◌∙◌}
use Rattle.plan_search.proofs.HandingOn.{passed_by}
use Rattle.plan_search.proofs.handing.pass_on.Goals as goal

pub returns-in-Some : goal.returns-in-Some
returns-in-Some g c =
    passed_by g.search c.args.assignment.now c.args.claims.now c.args.place c.requires
    c.in-Some.claim (sym c.at.ensures ∙ c.in-Some.is) c.give_to.new.assignment c.give_to.ensures
