-- Inner words: what a leaf shows. A reader of the public contracts needs none of them.
use Rattle.std.specs.Prelude.{ℕ, ℤ, pos, ◌+ℤ◌, ◌*ℤ◌, List, [], ◌∷◌, map}
use Rattle.std.specs.Int.{int_min}
use Rattle.pesp_judge.specs.declared.weighted.WeightedActivity.{WeightedActivity}
use Rattle.pesp_judge.specs.Weighted.{span_of}

-- numbers of one list times those of another, added up
unfoldable pub products : List ℤ → List ℤ → ℤ
products [] others = pos 0
products (one ∷ more) [] = pos 0
products (one ∷ more) (other ∷ others) = one *ℤ other +ℤ products more others

-- the weights of all activities, each so many times
abbrev pub scaled : ℤ → List WeightedActivity → List ℤ
scaled parts activities = map (λ it. parts *ℤ pos it.weight) activities

-- what numbers times slacks are together at least: where a number is below 0 the slack may be the
-- span of the activity, and else it may be 0
unfoldable pub least_of : ℕ → List ℤ → List WeightedActivity → ℤ
least_of period [] activities = pos 0
least_of period (one ∷ more) [] = pos 0
least_of period (one ∷ more) (it ∷ activities) =
    int_min one (pos 0) *ℤ span_of period it.activity +ℤ least_of period more activities
