use Rattle.plan_num.proofs.Common.{◌≡◌, ◌<◌, None, length, ap, sym, subst, arith}
use Rattle.link_plans.proofs.Common.{next}
use Rattle.plan_search.specs.Trees.{IsRooted}
use Rattle.plan_search.proofs.TreeEnds.{is_planted, is_rooted}
use Rattle.plan_search.proofs.tight_plan.TightPlan.tree_from.Goals as goal

pub invariant_of-result : goal.invariant_of-result
invariant_of-result c =
    let within : c.args.root < length c.self.inside.links.now =
    omega (arith, c.requires.within, ap (λ t. length t.links) c.self.view_is) in
    let waits = subst (λ t. next t.plan c.args.root ≡ None) (sym c.self.view_is) c.requires.waits in
    is_planted _ c.self.invariant c.args.root within waits c.cover.ensures.0 _ c.cover.ensures.1.1.0
    c.cover.ensures.1.1.1 _ c.clear.ensures _ c.forget.ensures

pub returns : goal.returns
returns c =
    let within : c.args.root < length c.self.inside.links.now =
    omega (arith, c.requires.within, ap (λ t. length t.links) c.self.view_is) in
    let waits = subst (λ t. next t.plan c.args.root ≡ None) (sym c.self.view_is) c.requires.waits in
    subst (λ t. IsRooted t c.args.root (record {
      links = c.self.inside.links.now;
      plan = c.self.inside.plan;
      potentials = c.cover.new.potentials;
      claims = c.clear.new.self;
      nears = c.forget.new.nears;
      root = c.args.root;
    })) c.self.view_is
    (is_rooted _ c.self.invariant c.args.root within waits c.cover.ensures.0 _ c.cover.ensures.1.1.0
    c.cover.ensures.1.1.1 _ c.clear.ensures _ c.forget.ensures)
