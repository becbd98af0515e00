-- The multipliers of the pass are within the costs of the open lines.
use Rattle.plan_num.proofs.Common.{◌≡◌, ℕ, ◌+◌, ◌-◌, ◌≤◌, Bool, true, false, cond, nat_le, min}
use Rattle.plan_num.proofs.Common.{List, [], ◌∷◌, ◌++◌, map, fold, filter, zip, unwrap_or, refl}
use Rattle.plan_num.proofs.Common.{arith, subst, sym, AllByRecursion, list_all, reduce, and_parts}
use Rattle.plan_num.proofs.Common.{leb-true, le-leb, sum_by-append}
use Rattle.line_cost_model.specs.declared.multipliers.Multiplier.{Multiplier}
use Rattle.line_cost_model.specs.declared.range.LineRange.{LineRange}
use Rattle.line_cost_model.specs.Problems.{CostedLine, ProblemParts}
use Rattle.line_cost_model.specs.Concepts.{goes_over}
use Rattle.line_cost_model.specs.DualBounds.{are_within, least_left, left_of, open_lines, open_over, taken_off}

-- ---- the least of numbers is below each of them

below_fold : (xs : List ℕ) (a : ℕ) → (fold min a xs ≤ a) × AllByRecursion (λ x. fold min a xs ≤ x) xs
below_fold [] a = (omega arith, tt)
below_fold (x ∷ xs) a = grind (arith, below_fold xs (min a x))

below_each : (xs : List ℕ) → AllByRecursion (λ x. unwrap_or (reduce min xs) 0 ≤ x) xs
below_each [] = tt
below_each (x ∷ xs) = below_fold xs x

of_each : {X : Type 0} (f : X → ℕ) (least : ℕ) (xs : List X) → AllByRecursion (λ n. least ≤ n) (map f xs)
    → AllByRecursion (λ x. least ≤ f x) xs
of_each f least [] all = tt
of_each f least (x ∷ xs) all = (all.0, of_each f least xs all.1)

-- ---- one multiplier more

pub taken_more : (multipliers : List Multiplier) (edge amount : ℕ) (line : CostedLine)
    → taken_off (multipliers ++ record { edge = edge; amount = amount } ∷ []) line
    ≡ taken_off multipliers line + cond (goes_over edge line) amount 0
taken_more multipliers edge amount line = grind (arith, sum_by-append)

-- a line pays for what is left of its cost
pays_more : (goes : Bool) (taken cost amount : ℕ) → taken ≤ cost → (goes ≡ true → amount ≤ cost - taken)
    → taken + cond goes amount 0 ≤ cost
pays_more true taken cost amount paid left = omega (arith, paid, left refl)
pays_more false taken cost amount paid left = omega (arith, paid)

-- what holds of a line and of the others, where it holds of those over an edge
first_over : (goes : Bool) (P : CostedLine → Type 0) (line : CostedLine) (rest : List CostedLine)
    → AllByRecursion P (cond goes (line ∷ rest) rest) → (goes ≡ true → P line) × AllByRecursion P rest
first_over true P line rest all = (λ _. all.0, all.1)
first_over false P line rest all = (λ no. cc, all)

abbrev is_paid : List Multiplier → CostedLine → Bool
is_paid multipliers line = nat_le (taken_off multipliers line) line.cost

paid_more : (multipliers : List Multiplier) (edge amount : ℕ) (lines : List CostedLine)
    → list_all (is_paid multipliers) lines ≡ true
    → AllByRecursion (λ line. amount ≤ left_of multipliers line) (filter (goes_over edge) lines)
    → list_all (is_paid (multipliers ++ record { edge = edge; amount = amount } ∷ [])) lines ≡ true
paid_more multipliers edge amount [] paid left = refl
paid_more multipliers edge amount (line ∷ lines) paid left =
    let parts = and_parts (is_paid multipliers line) (list_all (is_paid multipliers) lines) paid in
    let over = first_over (goes_over edge line) (λ line. amount ≤ left_of multipliers line) line
    (filter (goes_over edge) lines) left in grind (
      arith,
      pays_more,
      leb-true,
      taken_more,
      le-leb,
      paid_more multipliers edge amount lines parts.1 over.1,
    )

pub within_more : (problem : ProblemParts) (region : List LineRange) (multipliers : List Multiplier) (edge amount : ℕ)
    → amount ≡ least_left problem region multipliers edge → are_within problem region multipliers ≡ true
    → are_within problem region (multipliers ++ record { edge = edge; amount = amount } ∷ []) ≡ true
within_more problem region multipliers edge amount is within =
    paid_more multipliers edge amount (open_lines problem.lines region) within
    (subst (λ amount. AllByRecursion (λ line. amount ≤ left_of multipliers line)
    (open_over problem region edge)) (sym is)
    (of_each (left_of multipliers) (least_left problem region multipliers edge) (open_over problem region edge)
    (below_each (map (left_of multipliers) (open_over problem region edge)))))

-- ---- before the first edge, and how much a multiplier is

pub within_none : (problem : ProblemParts) (region : List LineRange) → are_within problem region [] ≡ true
within_none problem region = none_taken (open_lines problem.lines region)
  where
    none_taken : (lines : List CostedLine) → list_all (is_paid []) lines ≡ true
    none_taken [] = refl
    none_taken (line ∷ lines) = rw (le-leb 0 line.cost (omega arith)) (none_taken lines)

abbrev pub IsCheap : CostedLine → Type 0
IsCheap line = line.cost ≤ 1000000000000000000

filter_each : {X : Type 0} (P : X → Type 0) (test : X → Bool) (xs : List X) → AllByRecursion P xs
    → AllByRecursion P (filter test xs)
filter_each P test [] all = tt
filter_each P test (x ∷ xs) all = grind (arith, filter_each P test xs all.1)

zip_each : (lines : List CostedLine) (region : List LineRange) → AllByRecursion IsCheap lines
    → AllByRecursion (λ at. IsCheap at.0) (zip lines region)
zip_each [] region all = tt
zip_each (line ∷ lines) [] all = tt
zip_each (line ∷ lines) (range ∷ region) all = (all.0, zip_each lines region all.1)

map_each : (xs : List (CostedLine × LineRange)) → AllByRecursion (λ at. IsCheap at.0) xs
    → AllByRecursion IsCheap (map (λ at. at.0) xs)
map_each [] all = tt
map_each (x ∷ xs) all = (all.0, map_each xs all.1)

least_cheap : (multipliers : List Multiplier) (lines : List CostedLine) → AllByRecursion IsCheap lines
    → unwrap_or (reduce min (map (left_of multipliers) lines)) 0 ≤ 1000000000000000000
least_cheap multipliers [] all = omega arith
least_cheap multipliers (line ∷ lines) all = grind (arith, below_fold)

pub few_left : (problem : ProblemParts) (region : List LineRange) (multipliers : List Multiplier) (edge : ℕ)
    → AllByRecursion IsCheap problem.lines → least_left problem region multipliers edge ≤ 1000000000000000000
few_left problem region multipliers edge cheap =
    grind (arith, least_cheap, filter_each, map_each, zip_each)
