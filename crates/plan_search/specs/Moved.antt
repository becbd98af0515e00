-- Inner words of the search: potentials that are moved by the numbers of components.
use Rattle.std.specs.Prelude.{ℕ, ◌≡◌, ◌+◌, ◌-◌, ◌<◌, ◌⊎◌, min, false, List, length, get_or, Option, Some}
use Rattle.link_plans.specs.declared.limits.TheConstants.{MOST_POTENTIAL}
use Rattle.link_plans.specs.Plans.{next, is_next}
use Rattle.link_plans.specs.Potentials.{PotentialParts, at}

-- a number and another one without a third, as far as words go, and no more than any potential
abbrev pub between : ℕ → ℕ → ℕ → ℕ
between number more less = min (min (number + more) 18446744073709551615 - less) MOST_POTENTIAL

-- the node of a place: that of the trip that has it, or the one of none, which is behind all trips
abbrev pub IsNodeAt : List (Option ℕ) → ℕ → ℕ → Type 0
IsNodeAt plan place node = (next plan node ≡ Some place)
    ⊎ ((node ≡ length plan) × (is_next plan place ≡ false))

-- each of the first trips gains the number of its component, and each of their places loses that of the
-- trip that has it, both counted from the number of none
pub record AreMoved (numbers : List ℕ) (plan : List (Option ℕ)) (before after : PotentialParts)
    (count : ℕ) : Type 0 where
  pub trips : (i : ℕ) → i < count → at after.u i
      ≡ between (at before.u i) (get_or numbers i 0) (get_or numbers (length plan) 0)
  pub places : (j : ℕ) → j < count → (node : ℕ) × (IsNodeAt plan j node
      × (at after.v j ≡ between (at before.v j) (get_or numbers (length plan) 0) (get_or numbers node 0)))
