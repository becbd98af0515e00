use Rattle.plan_num.proofs.Common.{arith}
use Rattle.link_plans.proofs.Common.{links_in}
use Rattle.plan_search.proofs.Bidding.{released, released_free, released_waits, taken_but}
use Rattle.plan_search.proofs.bid.release.Goals as goal

pub returns-in-Some-clause-but : goal.returns-in-Some-clause-but
returns-in-Some-clause-but c = released (links_in c.args.trips.now) c.args.potentials.now c.args.assignment.now
    c.requires.taken c.args.place c.in-Some.other c.requires.place c.in-Some.ensures.value
    c.set_trip.new.potentials c.set_trip.ensures c.take_away.new.self c.take_away.ensures

pub returns-in-Some-clause-free : goal.returns-in-Some-clause-free
returns-in-Some-clause-free c = released_free (links_in c.args.trips.now) c.args.potentials.now c.args.assignment.now
    c.requires.taken c.args.place c.in-Some.other c.requires.place c.in-Some.ensures.value
    c.set_trip.new.potentials c.set_trip.ensures c.take_away.new.self c.take_away.ensures

pub returns-in-Some-clause-waits : goal.returns-in-Some-clause-waits
returns-in-Some-clause-waits c = released_waits (links_in c.args.trips.now) c.args.potentials.now c.args.assignment.now
    c.requires.taken c.args.place c.in-Some.other c.requires.place c.in-Some.ensures.value
    c.set_trip.new.potentials c.set_trip.ensures c.take_away.new.self c.take_away.ensures

pub returns-in-None-clause-but : goal.returns-in-None-clause-but
returns-in-None-clause-but c = grind (arith, taken_but)
