use Rattle.plan_num.proofs.Common.{◌∷◌, ◌++◌, [], None, map, ap, sym, ◌∙◌, arith, map_more}
use Rattle.plan_num.proofs.Common.{take_all}
use Rattle.ptn_network.specs.Loads.{given_for}
use Rattle.walks.proofs.Common.{no_edge}
use Rattle.ptn_network.proofs.loads.none_given.Goals as goal

pub loop-edge-preserved : goal.loop-edge-preserved
loop-edge-preserved c =
    c.in_ok-push.ensures.items ∙ ap (λ given. given ++ None ∷ []) c.loop-edge.invariant
    ∙ sym (map_more (given_for []) c.args.network.now.edges c.loop-edge._edge no_edge
    (omega arith))

pub returns-clause-given : goal.returns-clause-given
returns-clause-given c = c.loop-edge.invariant ∙ ap (map
    (given_for [])) (take_all c.loop-edge._edge c.args.network.now.edges (omega arith))
