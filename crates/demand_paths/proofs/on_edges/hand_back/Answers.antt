use Rattle.plan_num.proofs.Common.{◌≡◌, ◌+◌, ap, get_or, length, rules, set, subst, sym, ◌∙◌, arith}
use Rattle.demand_paths.specs.Wanted.{everyone, goes_over, sum_where, NobodyLeft}
use Rattle.demand_paths.proofs.Handing.{there, stop_there, still_all, same_load, nobody_left, others_stay, load_fits, waiting_fits, none_at_start, none_unreached}
use Rattle.demand_paths.proofs.on_edges.hand_back.Goals as goal

pub returns-then-to-from-clause-nobody : goal.returns-then-to-from-clause-nobody
returns-then-to-from-clause-nobody c =
    none_at_start c.args.network.now c.args.from c.requires.network c.args.paths.now
    c.requires.paths c.args.left.now.items c.args.to c.if-to-from.true

pub returns-in_default-clause-nobody : goal.returns-in_default-clause-nobody
returns-in_default-clause-nobody c =
    none_unreached c.args.network.now c.args.from c.requires.network c.args.paths.now
    c.requires.paths c.args.left.now.items c.args.to c.requires.to
    (sym c.last_edge_to.ensures ∙ c.in_default.is)

pub stop_before-before-requires : goal.stop_before-before-requires
stop_before-before-requires c =
    (there c.args.network.now c.args.from c.requires.network c.args.paths.now c.requires.paths
    c.args.to c.in-Some.edge c.requires.to c.if-to-from.false
    (sym c.last_edge_to.ensures ∙ c.in-Some.is)).0

pub hand_over-requires : goal.hand_over-requires
hand_over-requires c =
    let network = c.args.network.now in grind (arith, there, stop_there, load_fits, waiting_fits)

pub returns-in-Some : goal.returns-in-Some
returns-in-Some c =
    let network = c.args.network.now in
    let from = c.args.from in
    let paths = c.args.paths.now in
    let to = c.args.to in
    let edge = c.in-Some.edge in
    let told = sym c.last_edge_to.ensures ∙ c.in-Some.is in
    let left = c.args.left.now.items in
    let loads = c.args.loads.now.items in
    let stop = c.stop_before-before.result in
    let size : length left ≡ length network.stops =
    omega (arith, c.requires.left, c.args.left.now.ok.0) in
    let count : length loads ≡ length network.edges =
    omega (arith, c.requires.loads, c.args.loads.now.ok.0) in
    let made = sym c.hand_over.ensures.left in
    record {
      left = search rules;
      loads = search rules;
      few = subst (λ some. sum_where everyone 0 some ≡ sum_where everyone 0 left) made
          (still_all network from c.requires.network paths c.requires.paths to edge c.requires.to
          c.if-to-from.false told left loads stop c.stop_before-before.ensures size count);
      same = λ index h.
          ap (λ some. get_or some index 0
          + sum_where (goes_over network index from) 0 c.hand_over.new.left.items)
          c.hand_over.ensures.loads
          ∙ ap (λ some. get_or (set loads edge (get_or loads edge 0 + get_or left to 0)) index 0
          + sum_where (goes_over network index from) 0 some) c.hand_over.ensures.left
          ∙ same_load network from c.requires.network paths c.requires.paths to edge c.requires.to
          c.if-to-from.false told left loads stop c.stop_before-before.ensures size count index;
      nobody = subst (λ some. NobodyLeft network from some to) made
          (nobody_left network from c.requires.network paths c.requires.paths to edge c.requires.to
          c.if-to-from.false told left loads stop c.stop_before-before.ensures size count);
      others = λ other so_far further. subst (λ some. NobodyLeft network from some other) made
          (others_stay network from c.requires.network paths c.requires.paths to edge c.requires.to
          c.if-to-from.false told left loads stop c.stop_before-before.ensures size count
          other so_far further);
    }
