use Rattle.plan_num.proofs.Common.{◌≡◌, ◌<◌, ◌≤◌, ◌-◌, length, get_or, ap, subst, sym, ◌∙◌, arith}
use Rattle.plan_num.proofs.Common.{inl, inr, cases_eq, get_or_default}
use Rattle.demand_paths.specs.Wanted.{distance, NobodyLeft}
use Rattle.demand_paths.proofs.FarStops.{no_stop, no_nearer, all_gone}
use Rattle.demand_paths.proofs.on_edges.bear_from.Goals as goal

pub loop-behind-preserved : goal.loop-behind-preserved
loop-behind-preserved c =
    let network = c.args.network.now in
    let from = c.args.from in
    let stops = c.in_ok-stops.stops.items in
    let are = c.in_ok-stops.ensures in
    let here = c.len.result - 1 - c.loop-behind.behind in
    let within : here < length stops = omega arith in
    let is : (get_or stops here no_stop).stop ≡ c.index.result.now.stop =
    ap (λ far. far.stop) (get_or_default stops here no_stop c.index.result.now within
    ∙ sym c.index.ensures) in
    record {
      left = omega (
        arith,
        c.hand_back.ensures.left,
        c.hand_back.new.left.ok.0,
        c.loop-behind.left.ok.0,
        c.loop-behind.invariant.left,
      );
      loads = omega (
        arith,
        c.hand_back.ensures.loads,
        c.hand_back.new.loads.ok.0,
        c.loop-behind.loads.ok.0,
        c.loop-behind.invariant.loads,
      );
      all = c.hand_back.ensures.few ∙ c.loop-behind.invariant.all;
      same = λ index h. c.hand_back.ensures.same index h ∙ c.loop-behind.invariant.same index h;
      nobody = λ place h far. elim (cases_eq place here) [
        | inl same ↦ subst (λ stop. NobodyLeft network from c.hand_back.new.left.items stop)
            (sym (ap (λ at. (get_or stops at no_stop).stop) same ∙ is))
            c.hand_back.ensures.nobody
        | inr off ↦ c.hand_back.ensures.others (get_or stops place no_stop).stop
            (c.loop-behind.invariant.nobody place h (omega arith))
            (subst (λ stop. distance network from stop
            ≤ distance network from (get_or stops place no_stop).stop) is
            (no_nearer network from stops are here place (omega arith) h))
      ];
    }

pub returns-clause-added : goal.returns-clause-added
returns-clause-added c =
    let network = c.args.network.now in
    let from = c.args.from in
    λ index h.
    let gone = all_gone network from c.in_ok-stops.stops.items c.in_ok-stops.ensures
    c.loop-behind.left.items c.loop-behind.invariant.left
    (λ place within. c.loop-behind.invariant.nobody place within (omega arith)) index in
    let same = c.loop-behind.invariant.same index h in
    omega arith
