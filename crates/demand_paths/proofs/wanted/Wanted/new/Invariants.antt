-- So far nobody wants to go.
use Rattle.plan_num.proofs.Common.{◌≡◌, ℕ, [], length, map, get_or}
use Rattle.demand_paths.proofs.wanted.Wanted.new.Given as goal

abbrev pub invariant-loop-stop : goal.invariant-loop-stop
invariant-loop-stop l =
    record {
      size : length l.by_source.items ≡ l._stop;
      none : (from : ℕ)
          → get_or (map (λ customers. customers.items) l.by_source.items) from [] ≡ [];
    }
