-- Whether the open lines over an edge can pay a multiplier, and whether the multipliers so far are
-- within their costs.
use Rattle.plan_num.proofs.Common.{◌≡◌, ℕ, ◌+◌, ◌-◌, ◌≤◌, ◌<◌, Bool, true, false, ◌&&◌, cond}
use Rattle.plan_num.proofs.Common.{if◌then◌else◌, nat_le, List, [], ◌∷◌, ◌++◌, length, get_or, map}
use Rattle.plan_num.proofs.Common.{filter, filter_map, take, drop, slice_get, Some, refl, arith, ap}
use Rattle.plan_num.proofs.Common.{sym, ◌∙◌, list_all, and_parts, leb-true, le-leb, cases_Bool}
use Rattle.plan_num.proofs.Common.{false≢true, take_more, take-append-drop, drop_more}
use Rattle.plan_num.proofs.Common.{sum_by-append, slice_get_within, get_or_from_slice_get}
use Rattle.line_cost_model.specs.declared.multipliers.Multiplier.{Multiplier}
use Rattle.line_cost_model.specs.declared.range.LineRange.{LineRange}
use Rattle.line_cost_model.specs.Problems.{CostedLine, ProblemParts}
use Rattle.line_cost_model.specs.Concepts.{goes_over}
use Rattle.line_cost_model.specs.Crossings.{lines_over}
use Rattle.line_cost_model.specs.DualBounds.{are_within, left_of, open_lines, open_over, taken_off}
use Rattle.line_cost_model.specs.Regions.{has_several, range_of}
use Rattle.line_cost_model.proofs.LeastLeft.{left_at, picked_whole}
use Rattle.line_cost_model.proofs.Within.{taken_more}

-- ---- the lines over an edge, one by one

-- the open ones of some lines have so much left
abbrev pub have_left : List LineRange → List ℕ → ℕ → List ℕ → Bool
have_left ranges left amount lines = list_all (nat_le amount)
    (filter_map (left_at ranges left) lines)

pub paying_more : (ranges : List LineRange) (left over : List ℕ) (amount index line : ℕ)
    (pays : Bool)
    → index < length over → line ≡ get_or over index 0
    → pays ≡ (if has_several (range_of ranges line) then nat_le amount
    (get_or left line 0) else true)
    → have_left ranges left amount (drop index over)
    ≡ (pays && have_left ranges left amount (drop (index + 1) over))
paying_more ranges left over amount index line pays within line_is is = grind (
  arith,
  drop_more,
  get_or,
  filter_map,
  left_at,
  nat_le,
)

all_mapped : {X : Type 0} (test : ℕ → Bool) (f : X → ℕ) (xs : List X)
    → list_all test (map f xs) ≡ list_all (λ x. test (f x)) xs
all_mapped test f [] = refl
all_mapped test f (x ∷ xs) = ap (λ b. test (f x) && b) (all_mapped test f xs)

pub paying_whole : (problem : ProblemParts) (region ranges : List LineRange)
    (multipliers : List Multiplier)
    (left over : List ℕ) (edge amount : ℕ) → ranges ≡ region
    → left ≡ map (left_of multipliers) problem.lines
    → over ≡ lines_over problem.lines edge → length region ≡ length problem.lines
    → have_left ranges left amount over
    ≡ list_all (λ line. nat_le amount (left_of multipliers line)) (open_over problem region edge)
paying_whole problem region ranges multipliers left over edge amount rs_are left_is over_is same =
    ap (list_all (nat_le amount))
    (picked_whole problem region ranges multipliers left over edge rs_are left_is over_is same)
    ∙ all_mapped (nat_le amount) (left_of multipliers) (open_over problem region edge)

-- ---- one multiplier more

abbrev is_paid : List Multiplier → CostedLine → Bool
is_paid multipliers line = nat_le (taken_off multipliers line) line.cost

-- a line pays an amount more where so much is left of its cost
pays_more : (goes : Bool) (taken cost amount : ℕ) → taken ≤ cost
    → nat_le (taken + cond goes amount 0) cost ≡ cond goes (nat_le amount (cost - taken)) true
pays_more true taken cost amount paid = grind (
  arith,
  cases_Bool,
  nat_le,
  le-leb,
  leb-true,
  false≢true,
)
pays_more false taken cost amount paid = le-leb (taken + 0) cost (omega (arith, paid))

paid_more : (multipliers : List Multiplier) (edge amount : ℕ) (lines : List CostedLine)
    → list_all (is_paid multipliers) lines ≡ true
    → list_all (is_paid (multipliers ++ record { edge = edge; amount = amount } ∷ [])) lines
    ≡ list_all (λ line. nat_le amount (left_of multipliers line)) (filter (goes_over edge) lines)
paid_more multipliers edge amount [] paid = refl
paid_more multipliers edge amount (line ∷ lines) paid =
    let parts = and_parts (is_paid multipliers line) (list_all (is_paid multipliers) lines) paid in
    grind (
      arith,
      nat_le,
      pays_more,
      leb-true,
      taken_more,
      paid_more multipliers edge amount
          lines parts.1,
    )

-- ---- some first multipliers

fewer_paid : (before rest : List Multiplier) (lines : List CostedLine)
    → list_all (is_paid (before ++ rest)) lines ≡ true
    → list_all (is_paid before) lines ≡ true
fewer_paid before rest [] paid = refl
fewer_paid before rest (line ∷ lines) paid =
    let parts = and_parts (is_paid (before ++ rest) line)
    (list_all (is_paid (before ++ rest)) lines) paid in grind (
      arith,
      sum_by-append,
      le-leb,
      leb-true,
      fewer_paid before rest lines parts.1,
    )

pub none_within : (problem : ProblemParts) (region : List LineRange) (before rest : List Multiplier)
    → are_within problem region before ≡ false → are_within problem region (before ++ rest) ≡ false
none_within problem region before rest over = grind (arith, cases_Bool, false≢true, fewer_paid)

module _ (problem : ProblemParts) (region : List LineRange) (multipliers : List Multiplier)
    (place : ℕ) (one : Multiplier)
    (there : slice_get multipliers place ≡ Some one) where
  pub first_more : take (place + 1) multipliers ≡ take place multipliers ++ one ∷ []
  first_more = take_more multipliers place one (slice_get_within multipliers place one there)
      ∙ ap (λ one. take place multipliers ++ one ∷ [])
      (get_or_from_slice_get multipliers place one one there)

  module _ (pays : Bool) (so_far : are_within problem region (take place multipliers) ≡ true)
      (is : pays ≡ list_all (λ line. nat_le one.amount (left_of (take place multipliers) line))
      (open_over problem region one.edge)) where
    pub within_more : are_within problem region (take (place + 1) multipliers) ≡ pays
    within_more = ap (are_within problem region) first_more
        ∙ paid_more (take place multipliers) one.edge one.amount
        (open_lines problem.lines region) so_far ∙ sym is

    pub not_within : pays ≡ false → are_within problem region multipliers ≡ false
    not_within cannot = ap (are_within problem region)
        (sym (take-append-drop (place + 1) multipliers))
        ∙ none_within problem region (take (place + 1) multipliers) (drop (place + 1) multipliers)
        (within_more ∙ cannot)
