use Rattle.plan_num.proofs.Common.{ap, subst, sym}
use Rattle.walks.specs.Labels.{weight_of, sum_of, AreDone}
use Rattle.walks.proofs.Partway.{round_more, partway_all, sum_fits}
use Rattle.walks.proofs.network.Network.settle_all.Goals as goal

pub go_on-requires-clause-small : goal.go_on-requires-clause-small
go_on-requires-clause-small c =
    sum_fits c.args.self.now c.args.weight c.args.from c.loop-stop.labels
    c.stop_count.ensures.network c.loop-stop.invariant
    c.in-Some.stop c.in-Some.sum (ap sum_of c.in-Some.ensures.nearest.there)

pub loop-stop-smaller : goal.loop-stop-smaller
loop-stop-smaller c =
    (round_more c.args.self.now (weight_of c.args.weight) c.args.from c.loop-stop.labels
    c.settle_nearest.new.self c.go_on.new.labels c.in-Some.stop c.in-Some.sum
    c.stop_count.ensures.network c.loop-stop.invariant c.in-Some.ensures.nearest
    c.in-Some.ensures.settled c.in_ok-go_on.ensures).1

pub loop-stop-preserved : goal.loop-stop-preserved
loop-stop-preserved c =
    (round_more c.args.self.now (weight_of c.args.weight) c.args.from c.loop-stop.labels
    c.settle_nearest.new.self c.go_on.new.labels c.in-Some.stop c.in-Some.sum
    c.stop_count.ensures.network c.loop-stop.invariant c.in-Some.ensures.nearest
    c.in-Some.ensures.settled c.in_ok-go_on.ensures).0

pub returns : goal.returns
returns c =
    subst (AreDone c.args.self.now c.args.weight c.args.from) (sym c.in_default.ensures.none)
    (partway_all c.args.self.now c.args.weight c.args.from c.loop-stop.labels
    c.stop_count.ensures.network c.loop-stop.invariant c.in_default.ensures.nearest)
