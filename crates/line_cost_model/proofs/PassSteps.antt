-- The pass over the edges: before the first one, one edge more, and after the last one.
use Rattle.plan_num.proofs.Common.{◌≡◌, ◌≢◌, ℕ, zero, suc, ◌+◌, ◌-◌, ◌*◌, ◌≤◌, ◌<◌, nat_lt, Bool}
use Rattle.plan_num.proofs.Common.{true, false, if◌then◌else◌, List, [], ◌∷◌, ◌++◌, length, map}
use Rattle.plan_num.proofs.Common.{fold, slice_get, unwrap_or, Some, None, option_map, get_or, All}
use Rattle.plan_num.proofs.Common.{refl, arith, ap, subst, ◌∙◌, AllByRecursion, ne_eqb, append-nil}
use Rattle.plan_num.proofs.Common.{All-push, All-nil, sum_by-append, mul-le, none-some}
use Rattle.plan_num.proofs.Common.{slice_get-get_or}
use Rattle.line_cost_model.specs.declared.multipliers.Multiplier.{Multiplier}
use Rattle.line_cost_model.specs.declared.range.LineRange.{LineRange}
use Rattle.line_cost_model.specs.Problems.{CostedLine, ProblemParts, IsCostedLine, IsProblem}
use Rattle.line_cost_model.specs.Concepts.{cost_of}
use Rattle.line_cost_model.specs.DualBounds.{bound_by, dual_bound, least_left, left_of}
use Rattle.line_cost_model.specs.DualBounds.{multipliers_of, next_multiplier, shortfall}
use Rattle.line_cost_model.specs.DualBounds.{shortfall_at, unless_zero, with_next}
use Rattle.line_cost_model.specs.Multipliers.{IsAfter, IsAmount}
use Rattle.line_cost_model.specs.Passes.{AreLowered, IsNextShort, IsPass}
use Rattle.line_cost_model.specs.RunningSums.{no_bounds}
use Rattle.line_cost_model.specs.Regions.{least_in}
use Rattle.line_cost_model.proofs.Feasible.{left_from, left_more, left_none}
use Rattle.line_cost_model.proofs.Lowered as lowered
use Rattle.line_cost_model.proofs.Within.{IsCheap, few_left, within_more, within_none}

-- ---- before the first edge

pub costs_left : (lines : List CostedLine) → map (λ line. line.cost) lines ≡ map (left_of []) lines
costs_left [] = refl
costs_left (line ∷ lines) = grind (arith, costs_left lines)

pub pass_first : (problem : ProblemParts) (region : List LineRange) (left : List ℕ) (value : ℕ)
    → left ≡ map (λ line. line.cost) problem.lines → value ≡ cost_of problem (least_in region)
    → value ≤ 5000000000000000000000000000000000000 → IsPass problem region [] left value 0
unfolding bound_by multipliers_of
pass_first problem region left value left_is value_is few =
    grind (arith, costs_left, within_none, All-nil)

-- ---- one edge more

fold_more : (problem : ProblemParts) (region : List LineRange) (multipliers : List Multiplier) (edge amount : ℕ)
    → option_map (λ at. next_multiplier problem region multipliers (edge, at))
    (slice_get problem.edges edge) ≡ Some amount
    → fold (with_next problem region) multipliers (left_from problem.edges edge)
    ≡ fold (with_next problem region) (multipliers ++ unless_zero edge amount) (left_from problem.edges (edge + 1))
fold_more problem region multipliers edge amount is =
    grind (arith, slice_get, option_map, left_from, none-some, left_more, unwrap_or)

later : (multipliers : List Multiplier) (edge : ℕ) → IsAfter multipliers edge → IsAfter multipliers (edge + 1)
later multipliers edge after k d h = let before = after k d h in omega (arith, before)

-- no multiplier
pub pass_none : (problem : ProblemParts) (region : List LineRange) (multipliers : List Multiplier) (left : List ℕ)
    (value edge amount : ℕ) → IsPass problem region multipliers left value edge
    → option_map (λ at. next_multiplier problem region multipliers (edge, at))
    (slice_get problem.edges edge) ≡ Some amount
    → amount ≡ 0 → IsPass problem region multipliers left value (edge + 1)
pass_none problem region multipliers left value edge amount pass next none = record {
  left_is = pass.left_is;
  value_is = pass.value_is;
  few = let few = pass.few in omega (arith, few);
  within = pass.within;
  after = later multipliers edge pass.after;
  rest = pass.rest ∙ fold_more problem region multipliers edge 0 (next ∙ ap Some none)
      ∙ ap (λ some. fold (with_next problem region) some (left_from problem.edges (edge + 1))) (append-nil multipliers);
}

-- no multiplier of edges on which no drives are missing
none_next : (problem : ProblemParts) (region : List LineRange) (multipliers : List Multiplier) (edge : ℕ)
    → edge < length problem.edges → shortfall_at problem region edge ≡ 0
    → option_map (λ at. next_multiplier problem region multipliers (edge, at)) (slice_get problem.edges edge) ≡ Some 0
none_next problem region multipliers edge within none =
    let at = get_or problem.edges edge no_bounds in
    let there = slice_get-get_or problem.edges edge no_bounds within in grind (
      arith,
      unwrap_or,
      option_map,
      nat_lt,
    )

pass_over : (problem : ProblemParts) (region : List LineRange) (multipliers : List Multiplier) (left : List ℕ)
    (value from n : ℕ) → IsPass problem region multipliers left value from
    → from + n ≤ length problem.edges
    → ((edge : ℕ) → from ≤ edge → edge < from + n → shortfall_at problem region edge ≡ 0)
    → IsPass problem region multipliers left value (from + n)
pass_over problem region multipliers left value from zero pass within none = grind arith
pass_over problem region multipliers left value from (suc n) pass within none =
    let next = pass_none problem region multipliers left value from 0 pass
    (none_next problem region multipliers from (omega (arith, within)) (none from (omega arith) (omega arith))) refl in
    subst (IsPass problem region multipliers left value) (omega arith)
    (pass_over problem region multipliers left value (from + 1) n next (omega (arith, within))
    (λ edge behind before. none edge (omega (arith, behind)) (omega (arith, before))))

pub pass_to : (problem : ProblemParts) (region : List LineRange) (multipliers : List Multiplier) (left : List ℕ)
    (value from edge : ℕ) → IsPass problem region multipliers left value from
    → IsNextShort problem region from (Some edge) → IsPass problem region multipliers left value edge
pass_to problem region multipliers left value from edge pass next =
    let there : from + (edge - from) ≡ edge = omega (arith, next.0) in grind (arith, pass_over)

-- the next multiplier is the least that is left, where drives are missing
next_is : (problem : ProblemParts) (region : List LineRange) (multipliers : List Multiplier) (edge missing amount : ℕ)
    → option_map (shortfall problem.lines region edge) (slice_get problem.edges edge) ≡ Some missing
    → option_map (λ at. next_multiplier problem region multipliers (edge, at))
    (slice_get problem.edges edge) ≡ Some amount
    → amount ≡ (if nat_lt 0 missing then least_left problem region multipliers edge else 0)
next_is problem region multipliers edge missing amount short next = grind arith

some_left : (missing : Bool) (least amount : ℕ) → amount ≡ (if missing then least else 0) → amount ≢ 0 → amount ≡ least
some_left true least amount is some = is
some_left false least amount is some = absurd (some is)

cheap_lines : (edges : ℕ) (lines : List CostedLine) → All (IsCostedLine edges) lines → AllByRecursion IsCheap lines
cheap_lines edges [] all = tt
cheap_lines edges (line ∷ lines) all =
    let first = all 0 line (omega arith) in
    (first.cheap, cheap_lines edges lines (λ k d h. all (suc k) d (omega (arith, h))))

module _ (problem : ProblemParts) (region : List LineRange) (multipliers : List Multiplier) (edge missing amount : ℕ)
    (sound : IsProblem problem)
    (short : option_map (shortfall problem.lines region edge) (slice_get problem.edges edge) ≡ Some missing)
    (next : option_map (λ at. next_multiplier problem region multipliers (edge, at))
    (slice_get problem.edges edge) ≡ Some amount)
    (some : amount ≢ 0) where
  least_is : amount ≡ least_left problem region multipliers edge
  least_is = some_left (nat_lt 0 missing) (least_left problem region multipliers edge) amount
      (next_is problem region multipliers edge missing amount short next) some

  few_amount : amount ≤ 1000000000000000000
  few_amount =
      let few = few_left problem region multipliers edge
      (cheap_lines (length problem.edges) problem.lines sound.lines) in grind (arith, least_is)

  pub is_amount : IsAmount amount
  is_amount = record { some = omega (arith, some); few = few_amount }

  pub adds : missing < 4294967296 → amount * missing ≤ 4294967296000000000000000000
  adds few = let most = mul-le amount missing 1000000000000000000 4294967295 few_amount
      (omega (arith, few)) in omega (arith, most)

  value_more : (value : ℕ) → value ≡ bound_by problem region multipliers
      → value + amount * missing ≡ bound_by problem region (multipliers ++ record { edge = edge; amount = amount } ∷ [])
  unfolding bound_by
  value_more value is = grind (arith, sum_by-append, unwrap_or)

  unless_some : (amount : ℕ) → amount ≢ 0 → unless_zero edge amount ≡ record { edge = edge; amount = amount } ∷ []
  unless_some amount some = ap
      (λ none. if none then [] else record { edge = edge; amount = amount } ∷ [])
      (ne_eqb amount 0 some)

  -- one multiplier
  pub pass_some : (left after : List ℕ) (value : ℕ) → missing < 4294967296
      → IsPass problem region multipliers left value edge
      → length after ≡ length left → AreLowered problem.lines edge amount left after
      → IsPass problem region (multipliers ++ record { edge = edge; amount = amount } ∷ []) after
      (value + amount * missing) (edge + 1)
  pass_some left after value few pass size lower = record {
    left_is = lowered.left_more problem.lines multipliers edge amount left after pass.left_is size lower;
    value_is = value_more value pass.value_is;
    few = let little = pass.few in omega (arith, little, adds few);
    within = within_more problem region multipliers edge amount least_is pass.within;
    after = All-push (λ (multiplier : Multiplier). multiplier.edge < edge + 1) multipliers
        (record { edge = edge; amount = amount })
        (later multipliers edge pass.after) (omega arith);
    rest = pass.rest ∙ fold_more problem region multipliers edge amount next
        ∙ ap (λ one. fold (with_next problem region) (multipliers ++ one)
        (left_from problem.edges (edge + 1))) (unless_some amount some);
  }

-- ---- after the last edge

past_last : (problem : ProblemParts) (region : List LineRange) (multipliers : List Multiplier) (left : List ℕ)
    (value edge : ℕ) → IsPass problem region multipliers left value edge → length problem.edges ≤ edge
    → (multipliers ≡ multipliers_of problem region) × (value ≡ dual_bound problem region)
past_last problem region multipliers left value edge pass past = grind (arith, left_none)

pub pass_last : (problem : ProblemParts) (region : List LineRange) (multipliers : List Multiplier) (left : List ℕ)
    (value from : ℕ) → IsPass problem region multipliers left value from → from ≤ length problem.edges
    → IsNextShort problem region from None
    → (multipliers ≡ multipliers_of problem region) × (value ≡ dual_bound problem region)
pass_last problem region multipliers left value from pass within none =
    let rest = length problem.edges - from in
    past_last problem region multipliers left value (from + rest)
    (pass_over problem region multipliers left value from rest pass (omega (arith, within))
    (λ edge behind before. none edge behind)) (omega (arith, within))
