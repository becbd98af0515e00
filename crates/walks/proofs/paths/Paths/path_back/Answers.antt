use Rattle.plan_num.proofs.Common.{◌<◌, ◌+◌, ◌-◌, ◌++◌, length, reverse, ap, subst, sym, ◌∙◌, arith}
use Rattle.walks.specs.Walks.{edge_length, least_sums}
use Rattle.walks.specs.Paths.{length_to, path_within, path, stop_before}
use Rattle.walks.proofs.PathSteps.{none_there, none_before, goes_back, done, as_many_known, last_known, last_there, before_there}
use Rattle.walks.proofs.paths.Paths.path_back.Goals as goal

pub last_edge_to-requires : goal.last_edge_to-requires
last_edge_to-requires c = omega (
  arith,
  as_many_known c.args.network.now c.args.from c.args.self.now c.requires.paths.is,
  c.loop-step.invariant.here,
)

pub stop_before-at-requires : goal.stop_before-at-requires
stop_before-at-requires c =
    let network = c.args.network.now in
    let known = last_known network c.args.from c.args.self.now c.loop-step.at c.requires.paths.is
    c.loop-step.invariant.here in
    last_there network.edges (length_to (least_sums network edge_length c.args.from)) c.loop-step.at
    c.in-Some.index (sym known ∙ sym c.last_edge_to.ensures ∙ c.in-Some.is)

pub loop-step-preserved : goal.loop-step-preserved
loop-step-preserved c =
    let network = c.args.network.now in
    let lengths = length_to (least_sums network edge_length c.args.from) in
    let at = c.loop-step.at in
    let index = c.in-Some.index in
    let known = last_known network c.args.from c.args.self.now at c.requires.paths.is
    c.loop-step.invariant.here in
    let is = sym known ∙ sym c.last_edge_to.ensures ∙ c.in-Some.is in
    record {
      here = subst (λ stop. stop < length network.stops) (sym c.stop_before-at.ensures)
          (before_there network.edges (length network.stops) index at
          c.stop_count-step-end.ensures.network.edges
          (last_there network.edges lengths at index is) c.loop-step.invariant.here);
      found = ap (λ stop. path_within network.edges lengths
          (length network.stops - (c.loop-step.step + 1)) c.args.from stop
          ++ reverse c.push.new.self.items) c.stop_before-at.ensures
          ∙ ap (λ back. path_within network.edges lengths
          (length network.stops - (c.loop-step.step + 1)) c.args.from
          (stop_before network.edges index at) ++ reverse back)
          c.in_ok-push-in-Some.ensures.items
          ∙ goes_back network.edges lengths c.args.from
          (length network.stops) c.loop-step.step at index c.loop-step.back.items
          (path network c.args.from c.args.to)
          (omega arith) c.if-at-from.false is c.loop-step.invariant.found;
    }

pub returns-then-at-from : goal.returns-then-at-from
returns-then-at-from c =
    let network = c.args.network.now in
    let lengths = length_to (least_sums network edge_length c.args.from) in
    ap (λ front. front ++ reverse c.loop-step.back.items)
    (sym (none_there network.edges lengths c.args.from
    (length network.stops - c.loop-step.step) c.loop-step.at c.if-at-from.true))
    ∙ c.loop-step.invariant.found

pub returns-in-None : goal.returns-in-None
returns-in-None c =
    let network = c.args.network.now in
    let lengths = length_to (least_sums network edge_length c.args.from) in
    let known = last_known network c.args.from c.args.self.now c.loop-step.at c.requires.paths.is
    c.loop-step.invariant.here in
    ap (λ front. front ++ reverse c.loop-step.back.items)
    (sym (none_before network.edges lengths c.args.from
    (length network.stops - c.loop-step.step) c.loop-step.at
    (sym known ∙ sym c.last_edge_to.ensures ∙ c.in-None.is)))
    ∙ c.loop-step.invariant.found

pub returns : goal.returns
returns c =
    let network = c.args.network.now in
    let lengths = length_to (least_sums network edge_length c.args.from) in
    ap (λ front. front ++ reverse c.loop-step.back.items)
    (sym (done network.edges lengths c.args.from
    (length network.stops) c.loop-step.step c.loop-step.at (omega arith)))
    ∙ c.loop-step.invariant.found
