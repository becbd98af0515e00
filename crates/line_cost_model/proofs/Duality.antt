-- Multipliers within the costs of open lines bound the costs of a region.
use Rattle.plan_num.proofs.Common.{◌≡◌, ℕ, ◌+◌, ◌*◌, ◌-◌, ◌≤◌, Bool, true, false, if◌then◌else◌}
use Rattle.plan_num.proofs.Common.{List, [], ◌∷◌, map, cond, filter, refl, arith, sum_by, zip}
use Rattle.plan_num.proofs.Common.{nat_le, slice_get, Some, option_map, unwrap_or, inl, inr, ◌⊎◌}
use Rattle.plan_num.proofs.Common.{zero, suc, sum_by-cons, and_parts, leb-true, ltb-false}
use Rattle.plan_num.proofs.Common.{cases_Bool, false≢true, AllByRecursion, list_all}
use Rattle.std.proofs.Math.Nat.{mul-le-mul_left}
use Rattle.line_cost_model.specs.declared.multipliers.Multiplier.{Multiplier}
use Rattle.line_cost_model.specs.declared.range.LineRange.{LineRange}
use Rattle.line_cost_model.specs.Problems.{CostedLine, ProblemParts}
use Rattle.line_cost_model.specs.Concepts.{IsFeasible, goes_over, frequency_on}
use Rattle.line_cost_model.specs.DualBounds.{taken_off, open_lines, are_within, bound_by, shortfall_at, CostsAtLeastIn}
use Rattle.line_cost_model.specs.Regions.{IsWithin, LiesIn, HasNoFeasible, IsEmptyAt, least_in}
use Rattle.line_cost_model.specs.Regions.{greatest_in, has_several, part_up_to, part_from}
use Rattle.line_cost_model.specs.declared.edge.BoundedEdge.{BoundedEdge}
use Rattle.line_cost_model.specs.declared.side.Side.{Side}
use Rattle.line_cost_model.specs.declared.side.Side.TheVariants as side

-- the drives that multipliers weigh
abbrev driven : List Multiplier → List CostedLine → List ℕ → ℕ
driven ms lines fs = sum_by (λ m. m.amount * frequency_on lines fs m.edge) ms

pub frequency_step : (e : ℕ) (line : CostedLine) (lines : List CostedLine) (f : ℕ) (fs : List ℕ)
    → frequency_on (line ∷ lines) (f ∷ fs) e ≡ (if goes_over e line then f else 0) + frequency_on lines fs e
frequency_step e line lines f fs = sum_by-cons (λ at. if goes_over e at.0 then at.1 else 0) (line, f)
    (zip lines fs)

step_arith : (b : Bool) (a t f q d : ℕ) → a * ((if b then f else 0) + q) + (t * f + d)
    ≡ ((if b then a else 0) + t) * f + (a * q + d)
step_arith true a t f q d = omega arith
step_arith false a t f q d = omega arith

driven_step : (ms : List Multiplier) (line : CostedLine) (lines : List CostedLine) (f : ℕ) (fs : List ℕ)
    → driven ms (line ∷ lines) (f ∷ fs) ≡ taken_off ms line * f + driven ms lines fs
driven_step [] line lines f fs = omega arith
driven_step (m ∷ ms) line lines f fs =
    let here = sum_by-cons (λ m. m.amount * frequency_on (line ∷ lines) (f ∷ fs) m.edge) m ms in
    let there = sum_by-cons (λ m. m.amount * frequency_on lines fs m.edge) m ms in
    let off = sum_by-cons (λ m. if goes_over m.edge line then m.amount else 0) m ms in
    let more = driven_step ms line lines f fs in
    let step = frequency_step m.edge line lines f fs in
    rw (here, there, off, more, step) (step_arith (goes_over m.edge line) m.amount (taken_off ms line) f
    (frequency_on lines fs m.edge) (driven ms lines fs))

-- a line that multipliers do not overdraw
abbrev is_paid : List Multiplier → CostedLine → Bool
is_paid ms line = nat_le (taken_off ms line) line.cost

-- what holds of the first line and of the others, where it holds of all that are open
first_open : (b : Bool) (p : CostedLine → Bool) (line : CostedLine) (range : LineRange)
    (rest : List (CostedLine × LineRange))
    → list_all p (map (λ at. at.0) (cond b ((line, range) ∷ rest) rest)) ≡ true → (b ≡ true → p line ≡ true)
    × (list_all p (map (λ at. at.0) rest) ≡ true)
first_open true p line range rest h = let both = and_parts (p line) (list_all p (map (λ at. at.0) rest)) h in
    (λ _. both.0, both.1)
first_open false p line range rest h = (λ e. absurd (false≢true e), h)

-- paying more for more drives
pays : (c t d lo f e x y z w : ℕ) → c ≡ t + d → f ≡ lo + e → x + y ≤ z + w
    → (c * lo + x) + (t * f + y) ≤ (c * f + z) + (t * lo + w)
pays c t d lo f e x y z w ec ef h = rw (ec, ef) (omega arith)

stays : (c t lo f x y z w : ℕ) → f ≡ lo → x + y ≤ z + w → (c * lo + x) + (t * f + y) ≤ (c * f + z)
    + (t * lo + w)
stays c t lo f x y z w ef h = rw ef (omega arith)

-- the cost of lines
abbrev lines_cost : List CostedLine → List ℕ → ℕ
lines_cost lines fs = sum_by (λ at. at.0.cost * at.1) (zip lines fs)

one_line : (ms : List Multiplier) (line : CostedLine) (range : LineRange) (f x y z w : ℕ) → IsWithin f range
    → (has_several range ≡ true → is_paid ms line ≡ true) → x + y ≤ z + w
    → (line.cost * range.lo + x) + (taken_off ms line * f + y) ≤ (line.cost * f + z)
    + (taken_off ms line * range.lo + w)
one_line ms line range f x y z w inside paid h = elim (cases_Bool (has_several range)) [
  | inl several ↦ let pays_all : taken_off ms line ≤ line.cost =
      leb-true (taken_off ms line) line.cost (paid several) in
      pays line.cost (taken_off ms line) (line.cost - taken_off ms line) range.lo f (f - range.lo) x y z w
      (omega (arith, pays_all)) (omega (arith, inside.low)) h
  | inr single ↦ grind (arith, stays, ltb-false)
]

exchange : (ms : List Multiplier) (lines : List CostedLine) (region : List LineRange) (fs : List ℕ)
    → list_all (is_paid ms) (open_lines lines region) ≡ true → LiesIn region fs
    → lines_cost lines (least_in region) + driven ms lines fs ≤ lines_cost lines fs + driven ms lines
    (least_in region)
exchange ms [] region fs paid inside = omega arith
exchange ms (line ∷ lines) [] [] paid inside = omega arith
exchange ms (line ∷ lines) [] (f ∷ fs) paid inside = absurd inside
exchange ms (line ∷ lines) (range ∷ region) [] paid inside = absurd inside
exchange ms (line ∷ lines) (range ∷ region) (f ∷ fs) paid inside =
    let parts = first_open (has_several range) (is_paid ms) line range
    (filter (λ at. has_several at.1) (zip lines region)) paid in
    let more = exchange ms lines region fs parts.1 inside.1 in
    let low = sum_by-cons (λ at. at.0.cost * at.1) (line, range.lo) (zip lines (least_in region)) in
    let high = sum_by-cons (λ at. at.0.cost * at.1) (line, f) (zip lines fs) in
    rw (low, high, driven_step ms line lines f fs, driven_step ms line lines range.lo (least_in region))
    (one_line ms line range f (lines_cost lines (least_in region)) (driven ms lines fs) (lines_cost lines fs)
    (driven ms lines (least_in region)) inside.0 parts.0 more)

-- an edge is not driven less often where each line is not
more_driven : (lines : List CostedLine) (region : List LineRange) (fs : List ℕ) (e : ℕ) → LiesIn region fs
    → frequency_on lines (least_in region) e ≤ frequency_on lines fs e
more_driven [] region fs e inside = omega arith
more_driven (line ∷ lines) [] [] e inside = omega arith
more_driven (line ∷ lines) [] (f ∷ fs) e inside = absurd inside
more_driven (line ∷ lines) (range ∷ region) [] e inside = absurd inside
more_driven (line ∷ lines) (range ∷ region) (f ∷ fs) e inside = grind (
  arith,
  frequency_step,
  more_driven lines region fs e inside.1,
)

-- the drives that are missing on an edge, and those of the least frequencies, are no more than a
-- feasible concept has
filled : (problem : ProblemParts) (region : List LineRange) (fs : List ℕ) (e : ℕ) → IsFeasible problem fs
    → LiesIn region fs
    → shortfall_at problem region e + frequency_on problem.lines (least_in region) e
    ≤ frequency_on problem.lines fs e
filled problem region fs e feasible inside =
    grind (arith, slice_get, unwrap_or, option_map, more_driven)

weighed : (a s lo f x y z : ℕ) → s + lo ≤ f → x + y ≤ z → (a * s + x) + (a * lo + y) ≤ a * f + z
weighed a s lo f x y z h k = omega (arith, mul-le-mul_left a h, k)

covered : (problem : ProblemParts) (region : List LineRange) (fs : List ℕ) (ms : List Multiplier)
    → IsFeasible problem fs → LiesIn region fs
    → sum_by (λ m. m.amount * shortfall_at problem region m.edge) ms + driven ms problem.lines
    (least_in region) ≤ driven ms problem.lines fs
covered problem region fs [] feasible inside = omega arith
covered problem region fs (m ∷ ms) feasible inside =
    let missing = sum_by-cons (λ m. m.amount * shortfall_at problem region m.edge) m ms in
    let least = sum_by-cons (λ m. m.amount * frequency_on problem.lines (least_in region) m.edge) m ms in
    let most = sum_by-cons (λ m. m.amount * frequency_on problem.lines fs m.edge) m ms in
    rw (missing, least, most)
    (weighed m.amount (shortfall_at problem region m.edge)
    (frequency_on problem.lines (least_in region) m.edge) (frequency_on problem.lines fs m.edge) _ _ _
    (filled problem region fs m.edge feasible inside) (covered problem region fs ms feasible inside))

-- multipliers within the costs of the open lines bound what a feasible concept of a region costs
pub bound_is_least : (problem : ProblemParts) (region : List LineRange) (ms : List Multiplier)
    → are_within problem region ms ≡ true → CostsAtLeastIn problem region (bound_by problem region ms)
unfolding bound_by
bound_is_least problem region ms within fs feasible inside =
    omega (
      arith,
      exchange ms problem.lines region fs within inside,
      covered problem region fs ms feasible
          inside,
    )

-- an edge is not driven more often where each line is not
less_driven : (lines : List CostedLine) (region : List LineRange) (fs : List ℕ) (e : ℕ) → LiesIn region fs
    → frequency_on lines fs e ≤ frequency_on lines (greatest_in region) e
less_driven [] region fs e inside = omega arith
less_driven (line ∷ lines) [] [] e inside = omega arith
less_driven (line ∷ lines) [] (f ∷ fs) e inside = absurd inside
less_driven (line ∷ lines) (range ∷ region) [] e inside = absurd inside
less_driven (line ∷ lines) (range ∷ region) (f ∷ fs) e inside = grind (
  arith,
  frequency_step,
  less_driven lines region fs e inside.1,
)

-- a region with an empty edge has no feasible concept
pub empty_is_none : (problem : ProblemParts) (region : List LineRange) (e : ℕ) (bounds : BoundedEdge)
    (s : Side) → slice_get problem.edges e ≡ Some bounds → IsEmptyAt problem.lines region e bounds s
    → HasNoFeasible problem region
empty_is_none problem region e bounds side.Over there empty fs feasible inside =
    omega (arith, empty, more_driven problem.lines region fs e inside, (feasible.bounds e bounds there).few)
empty_is_none problem region e bounds side.Under there empty fs feasible inside =
    grind (arith, less_driven)

-- a concept of a region lies in one of the two parts of a split
pub split_covers : (region : List LineRange) (fs : List ℕ) (line at : ℕ) → LiesIn region fs
    → LiesIn (part_up_to region line at) fs ⊎ LiesIn (part_from region line (at + 1)) fs
split_covers [] [] line at inside = inl inside
split_covers [] (f ∷ fs) line at inside = absurd inside
split_covers (range ∷ region) [] line at inside = absurd inside
split_covers (range ∷ region) (f ∷ fs) zero at inside = grind arith
split_covers (range ∷ region) (f ∷ fs) (suc line) at inside =
    grind (arith, split_covers region fs line at inside.1)

-- a region of single values has one concept
pub one_concept : (region : List LineRange) (fs : List ℕ)
    → AllByRecursion (λ range. range.lo ≡ range.hi) region → LiesIn region fs → fs ≡ least_in region
one_concept [] [] one inside = refl
one_concept [] (f ∷ fs) one inside = absurd inside
one_concept (range ∷ region) [] one inside = absurd inside
one_concept (range ∷ region) (f ∷ fs) one inside =
    grind (arith, one_concept region fs one.1 inside.1)
