use Rattle.plan_num.proofs.Common.{◌<◌, length, get_or, map, fold, take, Contains, Some, None, ap}
use Rattle.plan_num.proofs.Common.{sym, ◌∙◌, arith, take_all, get_or_default, slice_get_within}
use Rattle.walks.specs.Labels.{weight_of, reach_over}
use Rattle.walks.proofs.Partway.{ends_within}
use Rattle.walks.proofs.Settling.{edge_of_index, over_more, over_size, went_on}
use Rattle.walks.proofs.network.Network.go_on.Goals as goal
use Rattle.walks.proofs.network.Network.go_on.Goals.{in-Some+in_ok-reach, in_default}

pub edge-edge-requires : goal.edge-edge-requires
edge-edge-requires c =
    let near = c.edges_at-index-items.result.now in
    let i = c.loop-index.index-index in
    let early : i < length near = omega arith in
    let there : Contains near (get_or near i 0) =
    (i, early, get_or_default near i (get_or near i 0) 0 early) in
    let leave = c.edges_at-index-items.ensures.own (get_or near i 0) there in
    slice_get_within c.args.self.now.edges (get_or near i 0) leave.edge leave.is

pub reach-requires : goal.reach-requires
reach-requires c =
    let weight = weight_of c.args.weight in
    let edges = c.args.self.now.edges in
    let order = map (edge_of_index edges)
    (take c.loop-index.index-index c.edges_at-index-items.result.now) in
    let next = ends_within (length c.args.self.now.stops) c.edge-edge.result c.args.stop
    c.in-Some.next c.edge-edge.ensures.sound (sym c.across.ensures ∙ c.in-Some.is) in
    let size = ap length c.loop-index.invariant
    ∙ over_size weight c.args.stop c.args.sum c.args.labels.now order in
    omega (arith, next, size, c.requires.all)

pub loop-index-preserved : goal.loop-index-preserved
loop-index-preserved c =
    let weight = weight_of c.args.weight in
    let edges = c.args.self.now.edges in
    let near = c.edges_at-index-items.result.now in
    let i = c.loop-index.index-index in
    let index = get_or near i 0 in
    let early : i < length near = omega arith in
    let at = get_or_default near i 0 index early in
    elim c.match-across.branch [
      | in-Some+in_ok-reach w ↦ over_more weight c.args.stop c.args.sum edges near i index
          c.edge-edge.result (Some w.in-Some.next) c.args.labels.now c.loop-index.labels
          c.match-across.labels
          early at c.edge-edge.ensures.place (sym w.in-Some.is ∙ c.across.ensures)
          c.loop-index.invariant (cc (w.labels-is, w.in_ok-reach.ensures, w.of.ensures.value))
      | in_default w ↦ over_more weight c.args.stop c.args.sum edges near i index c.edge-edge.result
          None c.args.labels.now c.loop-index.labels c.match-across.labels
          early at c.edge-edge.ensures.place (sym w.in_default.is ∙ c.across.ensures)
          c.loop-index.invariant w.labels-is
    ]

pub returns : goal.returns
returns c =
    let weight = weight_of c.args.weight in
    let edges = c.args.self.now.edges in
    let near = c.edges_at-index-items.result.now in
    went_on weight edges c.args.stop c.args.sum near c.args.labels.now c.loop-index.labels
    c.edges_at-index-items.ensures
    (c.loop-index.invariant ∙ ap
    (λ some. fold (reach_over weight c.args.stop c.args.sum) c.args.labels.now
    (map (edge_of_index edges) some)) (take_all c.loop-index.index-index near (omega arith)))
