use Rattle.plan_num.proofs.Common.{◌≡◌, true, is_some, get_or, None, sym, subst, ap, ◌∙◌}
use Rattle.walks.specs.Walks.{edge_length, least_sums, AreLeastSums}
use Rattle.walks.specs.Paths.{IsShortest, IsSimple, EndsFirst}
use Rattle.walks.proofs.LastWalks.{path_ends}
use Rattle.walks.proofs.PathEdges.{path_simple}
use Rattle.walks.proofs.ShortestPaths.{reached_there, path_shortest}
use Rattle.walks.proofs.paths.Paths.path_to.Goals as goal

pub returns-clause-shortest : goal.returns-clause-shortest
returns-clause-shortest c =
    let network = c.args.network.now in
    let from = c.args.from in
    let to = c.args.to in
    let lengths = ap (λ paths. paths.lengths) c.requires.paths.is in
    let least = subst (λ sums. AreLeastSums network edge_length from sums) lengths
    c.requires.paths.least in
    let reached = subst (λ sums. is_some (get_or sums to None) ≡ true) lengths c.requires.reached in
    subst (IsShortest network from to) (sym (c.reverse.ensures.items ∙ c.in_ok-path.ensures))
    (path_shortest network from to c.requires.network least c.requires.to
    (reached_there (least_sums network edge_length from) to reached))

pub returns-clause-simple : goal.returns-clause-simple
returns-clause-simple c =
    let network = c.args.network.now in
    subst (IsSimple network.edges) (sym (c.reverse.ensures.items ∙ c.in_ok-path.ensures))
    (path_simple network c.args.from c.args.to c.requires.network)

pub returns-clause-last : goal.returns-clause-last
returns-clause-last c =
    let network = c.args.network.now in
    let from = c.args.from in
    let to = c.args.to in
    let least = subst (λ sums. AreLeastSums network edge_length from sums)
    (ap (λ paths. paths.lengths) c.requires.paths.is) c.requires.paths.least in
    subst (EndsFirst network from to) (sym (c.reverse.ensures.items ∙ c.in_ok-path.ensures))
    (path_ends network from c.requires.network least to c.requires.to)
