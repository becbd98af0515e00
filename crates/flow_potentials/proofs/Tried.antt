-- The definitions on small plans.
use Rattle.plan_num.proofs.Common.{◌≡◌, ℕ, ℤ, refl, pos, negsuc, ◌==◌, ◌&&◌, if◌then◌else◌, List}
use Rattle.plan_num.proofs.Common.{[], ◌∷◌, Option, Some, None, list_any}
use Rattle.link_plans.proofs.Common.{Links}
use Rattle.flow_potentials.specs.declared.potential_fault.PotentialFault.TheVariants as fault
use Rattle.flow_potentials.specs.PotentialFaults.{potential_faults}
use Rattle.canonical_potentials.specs.Residual.{root, left, right, arc, walk_cost}
use Rattle.canonical_potentials.specs.Rounds.{settled, canonical}

-- links of one gain between some pairs of trips
abbrev links : ℕ → ℤ → List (ℕ × ℕ) → Links
links count gain pairs = record {
  count = count;
  gain = λ i j. if list_any (λ pair. (pair.0 == i) && (pair.1 == j)) pairs then Some gain else None;
}

-- one trip, and two that may follow it
abbrev three : Links
three = links 3 (pos 2) ((0, 1) ∷ (0, 2) ∷ [])

abbrev linked : List (Option ℕ)
linked = Some 1 ∷ None ∷ None ∷ []

potentials_of_links :
    (arc three linked (right 1) (left 0) ≡ Some (pos 2))
    × (arc three linked (left 0) (right 2) ≡ Some (negsuc 1))
    -- no arc
    × (arc three linked root (left 0) ≡ None)
    -- a walk from the root over the link that is given up, to the other trip that may follow
    × (walk_cost three linked (right 2) (left 0 ∷ right 1 ∷ root ∷ []) ≡ Some (pos 0))
    × (canonical three linked ≡ record { u = 2 ∷ 0 ∷ 0 ∷ []; v = 0 ∷ 0 ∷ 0 ∷ [] })
    -- all potentials 0 are short of the first pair, and then of the other, and then in all
    × (potential_faults three linked (record { u = 0 ∷ 0 ∷ 0 ∷ []; v = 0 ∷ 0 ∷ 0 ∷ [] })
    ≡ fault.Pair 0 1 ∷ fault.Pair 0 2 ∷ fault.Sum ∷ [])
    -- a link at a loss is not taken, and has a residual arc all the same
    × (canonical (links 2 (negsuc 1) ((0, 1) ∷ [])) (None ∷ None ∷ [])
    ≡ record { u = 0 ∷ 0 ∷ []; v = 0 ∷ 0 ∷ [] })
    × (canonical (links 0 (pos 0) []) [] ≡ record { u = []; v = [] })
unfolding canonical settled potential_faults
potentials_of_links = (refl, refl, refl, refl, refl, refl, refl, refl)
