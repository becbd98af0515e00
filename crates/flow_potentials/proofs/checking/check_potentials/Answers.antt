use Rattle.plan_num.proofs.Common.{◌<◌, ◌≤◌, cond, length, Some, None, ap, sym, ◌∙◌, arith}
use Rattle.vehicle_model.specs.Trips.{links_of}
use Rattle.flow_potentials.specs.declared.potential_fault.PotentialFault.TheVariants as fault
use Rattle.flow_potentials.proofs.Checked.{pair_found, no_pair, all_pairs, told_valid}
use Rattle.flow_potentials.proofs.Checked.{told_cheapest, told_tight, told_sum}
use Rattle.flow_potentials.proofs.checking.check_potentials.Goals as goal

pub returns-in-Some-clause-first : goal.returns-in-Some-clause-first
returns-in-Some-clause-first c =
    let within : c.loop-i.i < length c.args.trips.now.trips =
    omega (arith, c.loop-i-test.true, c.len-i-end.ensures.count) in
    sym (pair_found (links_of c.args.trips.now) c.args.potentials.now c.loop-i.i c.loop-i.invariant
    c.args.plan.now c.in-Some.j within (sym c.short_pair.ensures ∙ c.in-Some.is))

pub returns-in-Some-clause-valid : goal.returns-in-Some-clause-valid
returns-in-Some-clause-valid c = told_valid c.args.trips.now c.args.plan.now c.args.potentials.now
    c.requires.each (Some (fault.Pair c.loop-i.i c.in-Some.j)) (returns-in-Some-clause-first c)

pub loop-i-preserved : goal.loop-i-preserved
loop-i-preserved c =
    let within : c.loop-i.i < length c.args.trips.now.trips =
    omega (arith, c.loop-i-test.true, c.len-i-end.ensures.count) in
    no_pair (links_of c.args.trips.now) c.args.potentials.now c.loop-i.i c.loop-i.invariant within
    (sym c.short_pair.ensures ∙ c.in_default.is)

pub returns-then-is_exact-clause-first : goal.returns-then-is_exact-clause-first
returns-then-is_exact-clause-first c =
    let past : length c.args.trips.now.trips ≤ c.loop-i.i =
    omega (arith, c.loop-i-test.false, c.len-i-end.ensures.count) in
    sym (told_sum c.args.trips.now c.args.plan.now c.args.potentials.now c.requires.each
    c.requires.plan
    (all_pairs (links_of c.args.trips.now) c.args.potentials.now c.loop-i.i c.loop-i.invariant past)
    c.is_exact.result c.is_exact.ensures
    ∙ ap (λ b. cond b None (Some fault.Sum)) c.if-is_exact.true)

pub returns-then-is_exact-clause-valid : goal.returns-then-is_exact-clause-valid
returns-then-is_exact-clause-valid c = told_valid c.args.trips.now c.args.plan.now
    c.args.potentials.now c.requires.each None (returns-then-is_exact-clause-first c)

pub returns-then-is_exact-clause-cheapest : goal.returns-then-is_exact-clause-cheapest
returns-then-is_exact-clause-cheapest c = told_cheapest c.args.trips.now c.args.plan.now
    c.args.potentials.now c.requires.each None (returns-then-is_exact-clause-first c) c.requires.plan

pub returns-then-is_exact-clause-tight : goal.returns-then-is_exact-clause-tight
returns-then-is_exact-clause-tight c = told_tight c.args.trips.now c.args.plan.now
    c.args.potentials.now c.requires.each None (returns-then-is_exact-clause-first c) c.requires.plan

pub returns-else-is_exact-clause-first : goal.returns-else-is_exact-clause-first
returns-else-is_exact-clause-first c =
    let past : length c.args.trips.now.trips ≤ c.loop-i.i =
    omega (arith, c.loop-i-test.false, c.len-i-end.ensures.count) in
    sym (told_sum c.args.trips.now c.args.plan.now c.args.potentials.now c.requires.each
    c.requires.plan
    (all_pairs (links_of c.args.trips.now) c.args.potentials.now c.loop-i.i c.loop-i.invariant past)
    c.is_exact.result c.is_exact.ensures
    ∙ ap (λ b. cond b None (Some fault.Sum)) c.if-is_exact.false)

pub returns-else-is_exact-clause-valid : goal.returns-else-is_exact-clause-valid
returns-else-is_exact-clause-valid c = told_valid c.args.trips.now c.args.plan.now
    c.args.potentials.now c.requires.each (Some fault.Sum) (returns-else-is_exact-clause-first c)
