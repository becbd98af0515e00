-- The set has the edges so far.
use Rattle.plan_num.proofs.Common.{◌≡◌, ℕ, false, get_or, length, nat_eq, take, list_any}
use Rattle.terminal_lines.proofs.path.Path.new.Given as goal

abbrev pub invariant-loop-edge : goal.invariant-loop-edge
invariant-loop-edge l =
    record {
      has : (edge : ℕ) → get_or l.has.items edge false
          ≡ list_any (nat_eq edge) (take l.edge-index l.edge-items);
      long : length l.has.items ≡ length l.network.edges;
    }
