-- Inner words: which trips of a plan have one before them.
use Rattle.std.specs.Prelude.{ℕ, ◌≡◌, is_some, List, length, slice_set, get_or, Option, Some, None}
use Rattle.link_plans.specs.Plans.{is_next}

-- for each trip of a plan whether one comes before it; which one is told, but nothing rests on it
pub record AreBefore (plan before : List (Option ℕ)) : Type 0 where
  pub each : length before ≡ length plan
  pub is : (j : ℕ) → is_some (get_or before j None) ≡ is_next plan j

-- a trip comes before another one, if there is one
abbrev pub linked : List (Option ℕ) → Option ℕ → ℕ → List (Option ℕ)
linked before None trip = before
linked before (Some next) trip = slice_set before next (Some trip)
