use Rattle.plan_num.proofs.Common.{◌<◌, ◌≤◌, length, sym, ◌∙◌, arith}
use Rattle.vehicle_model.specs.Trips.{links_of}
use Rattle.flow_potentials.specs.PotentialFaults.{is_short_pair}
use Rattle.flow_potentials.proofs.Checked.{found_short, not_short, none_short}
use Rattle.flow_potentials.proofs.checking.short_pair.Goals as goal

pub returns-then-is_short : goal.returns-then-is_short
returns-then-is_short c =
    let within : c.loop-j.j < length c.args.trips.now.trips =
    omega (arith, c.loop-j-test.true, c.len-j-end.ensures.count) in
    sym (found_short (is_short_pair (links_of c.args.trips.now) c.args.potentials.now c.args.i)
    (length c.args.trips.now.trips) c.loop-j.j c.loop-j.invariant within
    (sym c.is_short.ensures ∙ c.if-is_short.true))

pub loop-j-preserved : goal.loop-j-preserved
loop-j-preserved c =
    let within : c.loop-j.j < length c.args.trips.now.trips =
    omega (arith, c.loop-j-test.true, c.len-j-end.ensures.count) in
    not_short (is_short_pair (links_of c.args.trips.now) c.args.potentials.now c.args.i)
    (length c.args.trips.now.trips) c.loop-j.j c.loop-j.invariant within
    (sym c.is_short.ensures ∙ c.if-is_short.false)

pub returns : goal.returns
returns c =
    let past : length c.args.trips.now.trips ≤ c.loop-j.j =
    omega (arith, c.loop-j-test.false, c.len-j-end.ensures.count) in
    sym (none_short (is_short_pair (links_of c.args.trips.now) c.args.potentials.now c.args.i)
    (length c.args.trips.now.trips) c.loop-j.j c.loop-j.invariant past)
