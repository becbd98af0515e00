-- So far no path is known.
use Rattle.plan_num.proofs.Common.{◌≡◌, ℕ, length, get_or, None}
use Rattle.demand_paths.proofs.known_paths.KnownPaths.new.Given as goal

abbrev pub invariant-loop-stop : goal.invariant-loop-stop
invariant-loop-stop l =
    record {
      size : length l.paths.items ≡ l._stop;
      none : (from : ℕ) → get_or l.paths.items from None ≡ None;
    }
