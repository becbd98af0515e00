-- Inner words: the regions of a search along a path of decisions, the last decision first.
use Rattle.std.specs.Prelude.{ℕ, ◌≡◌, ◌<◌, if◌then◌else◌, Bool, true, false, List, [], ◌∷◌, ◌++◌, length, map}
use Rattle.std.specs.Prelude.{replicate, not, nat_eq, MatchBool, ⊤}
use Rattle.std.specs.List.{list_any, range_with_len}
use Rattle.delay_trials.specs.declared.decided.Decided.{Decided}
use Rattle.delay_trials.specs.Trials.{TrialParts, is_decided}
use Rattle.waiting_decisions.specs.declared.decision.Decision.{Decision}
use Rattle.waiting_decisions.specs.declared.decision.Decision.TheVariants as decision
use Rattle.waiting_decisions.specs.Regions.{decided}

-- what is decided of a change
abbrev pub as_decided : Bool → Decision
as_decided true = decision.Kept
as_decided false = decision.Dropped

-- the region of some decisions on so many changes
unfoldable pub region_of : ℕ → List Decided → List Decision
region_of count [] = replicate count decision.Free
region_of count (last ∷ before) =
    decided (region_of count before) last.change (as_decided last.kept)

-- the region of decisions on a day
abbrev pub region_in : TrialParts → List Decision
region_in path = region_of (length path.problem.changes) path.decided

-- the parts that still wait: behind each decision to keep a change, the one that drops it
unfoldable pub waiting : ℕ → List Decided → List (List Decision)
waiting count [] = []
waiting count (last ∷ before) =
    if last.kept
    then decided (region_of count before) last.change decision.Dropped ∷ waiting count before
    else waiting count before

abbrev pub waiting_in : TrialParts → List (List Decision)
waiting_in path = waiting (length path.problem.changes) path.decided

-- the region in hand, and those that wait
abbrev pub regions_in : TrialParts → List (List Decision)
regions_in path = region_in path ∷ waiting_in path

-- the changes that are dropped, the first one first
unfoldable pub dropped_in : List Decided → List ℕ
dropped_in [] = []
dropped_in (last ∷ before) =
    if last.kept then dropped_in before else dropped_in before ++ last.change ∷ []

-- each change is there, and is decided once
unfoldable pub AreOnce : ℕ → List Decided → Type 0
AreOnce count [] = ⊤
AreOnce count (last ∷ before) =
    (last.change < count) × (is_decided before last.change ≡ false) × AreOnce count before

-- what is known of a path: its decisions, and the changes that it drops
pub record IsPath (path : TrialParts) (dropped : List ℕ) : Type 0 where
  pub once : AreOnce (length path.problem.changes) path.decided
  pub drops : dropped ≡ dropped_in path.decided

-- going on behind a leaf: to the next part that waits, where there is one
abbrev pub GoesOn : TrialParts → TrialParts → Bool → Type 0
GoesOn before after more = (after.problem ≡ before.problem)
    × MatchBool more (regions_in after ≡ waiting_in before) (waiting_in before ≡ [])

-- so many changes without some that are dropped
abbrev pub all_but : ℕ → List ℕ → List Bool
all_but count dropped =
    map (λ change. not (list_any (nat_eq change) dropped)) (range_with_len 0 count)
