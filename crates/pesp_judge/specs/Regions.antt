-- Inner words: the way from the root of a tree to one of its regions, and what lies in those that
-- are left. A reader of the public contracts needs none of them.
use Rattle.std.specs.Prelude.{◌≡◌, ℕ, ℤ, pos, ◌+ℤ◌, ◌*ℤ◌, ◌≤ℤ◌, ◌⊎◌, false, List, [], ◌∷◌}
use Rattle.std.specs.Prelude.{MatchBool, All, get_or}
use Rattle.pesp_judge.specs.declared.step.Step.{Step}
use Rattle.pesp_judge.specs.declared.region.Split.{Split}
use Rattle.pesp_judge.specs.Cycles.{around}

-- the steps of a cycle by its place among all
abbrev pub steps_at : List (List Step) → ℕ → List Step
steps_at cycles place = get_or cycles place []

-- what the cycle of a split takes
abbrev pub taken : List (List Step) → List ℤ → Split → ℤ
taken cycles slacks split = around slacks (steps_at cycles split.cycle)

-- slacks lie in the part of a split that is looked at: its cycle takes so many periods at least, or
-- at most
abbrev pub LiesInPart : ℕ → List (List Step) → List ℤ → Split → Type 0
LiesInPart period cycles slacks split =
    MatchBool split.least ((pos period *ℤ split.periods) ≤ℤ taken cycles slacks split)
    (taken cycles slacks split ≤ℤ (pos period *ℤ split.periods))

-- slacks lie in the other part of a split, which is still to come: one period more at least
abbrev pub WaitsAt : ℕ → List (List Step) → List ℤ → Split → Type 0
WaitsAt period cycles slacks split =
    (split.least ≡ false)
    × ((pos period *ℤ (split.periods +ℤ pos 1)) ≤ℤ taken cycles slacks split)

-- slacks lie in the region at the end of a way
abbrev pub LiesAt : ℕ → List (List Step) → List ℤ → List Split → Type 0
LiesAt period cycles slacks path = All (LiesInPart period cycles slacks) path

-- slacks lie in a region that is still to come after the one at the end of a way
unfoldable pub Waits : ℕ → List (List Step) → List ℤ → List Split → Type 0
Waits period cycles slacks [] = ⊥
Waits period cycles slacks (split ∷ more) =
    WaitsAt period cycles slacks split
    ⊎ (LiesInPart period cycles slacks split × Waits period cycles slacks more)

-- slacks lie in a region that is left: that at the end of a way, or one still to come
abbrev pub IsLeft : ℕ → List (List Step) → List ℤ → List Split → Type 0
IsLeft period cycles slacks path =
    LiesAt period cycles slacks path ⊎ Waits period cycles slacks path
