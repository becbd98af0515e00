use Rattle.plan_num.proofs.Common.{◌≤◌, [], get_or, ap, arith, eqb-true}
use Rattle.std.proofs.lemmas.List.{nil_from_length as none_in}
use Rattle.demand_paths.specs.Wanted.{everyone, sum_where, sum_between}
use Rattle.demand_paths.proofs.WantedSums.{sum_where-nil, sum_between-one, sum_between-le, sum_between-drop, sum_between-end}
use Rattle.demand_paths.proofs.on_edges.loads_of_wanted.Goals as goal

pub bear_from-requires-clause-few : goal.bear_from-requires-clause-few
bear_from-requires-clause-few c =
    let wanted = c.args.wanted.now in
    let some : sum_where everyone 0 (get_or wanted c.loop-from.from [])
    ≤ sum_between (λ _. everyone) 0 wanted =
    sum_between-one (λ _. everyone) c.loop-from.from wanted
    (omega (arith, c.requires.wanted.size)) in
    let same = ap (sum_where everyone 0) c.from_stop-customers.ensures in
    omega (arith, c.requires.few)

pub bear_from-requires-clause-room : goal.bear_from-requires-clause-room
bear_from-requires-clause-room c =
    λ index h.
    let wanted = c.args.wanted.now in grind (arith, sum_between-drop, sum_between-le)

pub returns-clause-loads : goal.returns-clause-loads
returns-clause-loads c =
    λ index h.
    let wanted = c.args.wanted.now in grind (arith, sum_between-end)

pub loop-from-preserved-then-is_empty : goal.loop-from-preserved-then-is_empty
loop-from-preserved-then-is_empty c =
    record {
      known = c.loop-from.invariant.known;
      size = c.loop-from.invariant.size;
      loads = λ index h. grind (arith, sum_between-drop, get_or, none_in, eqb-true, sum_where-nil);
    }

pub loop-from-preserved : goal.loop-from-preserved
loop-from-preserved c =
    record {
      known = c.in_ok-learn.ensures.known;
      size = grind arith;
      loads = λ index h. grind (arith, sum_between-drop);
    }
