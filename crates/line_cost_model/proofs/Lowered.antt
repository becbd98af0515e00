-- An amount is taken off what is left of the costs of the lines over an edge, line by line.
use Rattle.plan_num.proofs.Common.{◌≡◌, ℕ, zero, suc, ◌+◌, ◌-◌, ◌<◌, Bool, true, false, ◌||◌, cond}
use Rattle.plan_num.proofs.Common.{nat_eq, List, [], ◌∷◌, ◌++◌, length, get_or, set, map, filter}
use Rattle.plan_num.proofs.Common.{take, refl, ap, sym, ◌∙◌, arith, get_or-set_other}
use Rattle.plan_num.proofs.Common.{get_or-set_same, AllByRecursion, enumerate_from, list_any}
use Rattle.plan_num.proofs.Common.{ne_eqb, eq-eqb, cases_eq, nat_eq_equiv, get_or_default_zero}
use Rattle.plan_num.proofs.Common.{get_or-take, length-take-le, length-map, get_or-map}
use Rattle.plan_num.proofs.Common.{All-from_get_or, list_any_none, list_any_more, sum_by-append}
use Rattle.plan_num.proofs.Common.{apart_from_distinct}
use Rattle.std.specs.List.{IsDistinct}
use Rattle.std.proofs.lemmas.Grind.{same_number_lists}
use Rattle.std.proofs.lemmas.Map.Keys.{IsDistinct-cons}
use Rattle.line_cost_model.specs.declared.multipliers.Multiplier.{Multiplier}
use Rattle.line_cost_model.specs.Problems.{CostedLine}
use Rattle.line_cost_model.specs.Concepts.{goes_over}
use Rattle.line_cost_model.specs.Crossings.{lines_over}
use Rattle.line_cost_model.specs.DualBounds.{left_of}
use Rattle.line_cost_model.specs.Passes.{AreLowered}
use Rattle.line_cost_model.proofs.Driven.{over_from, each_gated}
use Rattle.line_cost_model.proofs.FewLines.{no_line}
use Rattle.plan_num.proofs.Tests.{or_false, or_true}

-- ---- the lines over an edge are different

later : (before first : ℕ) (lines : List CostedLine) (edge : ℕ) → before < first
    → AllByRecursion (λ line. nat_eq before line ≡ false) (over_from first lines edge)
later before first [] edge h = tt
later before first (line ∷ lines) edge h =
    grind (
      arith,
      each_gated,
      nat_eq,
      ne_eqb,
      later before (first + 1) lines edge (omega (arith, h)),
    )

none_apart : IsDistinct nat_eq []
unfolding IsDistinct
none_apart = tt

distinct_gated : (goes : Bool) (first : ℕ) (line : CostedLine) (rest : List (ℕ × CostedLine))
    → AllByRecursion (λ line. nat_eq first line ≡ false) (map (λ at. at.0) rest)
    → IsDistinct nat_eq (map (λ at. at.0) rest)
    → IsDistinct nat_eq (map (λ at. at.0) (cond goes ((first, line) ∷ rest) rest))
distinct_gated true first line rest behind apart = IsDistinct-cons nat_eq first (map (λ at. at.0) rest) behind apart
distinct_gated false first line rest behind apart = apart

distinct_from : (first : ℕ) (lines : List CostedLine) (edge : ℕ) → IsDistinct nat_eq (over_from first lines edge)
distinct_from first [] edge = none_apart
distinct_from first (line ∷ lines) edge =
    distinct_gated (goes_over edge line) first line
    (filter (λ at. goes_over edge at.1) (enumerate_from (first + 1) lines))
    (later first (first + 1) lines edge (omega arith)) (distinct_from (first + 1) lines edge)

pub over_distinct : (lines : List CostedLine) (edge : ℕ) → IsDistinct nat_eq (lines_over lines edge)
unfolding lines_over
over_distinct lines edge = distinct_from 0 lines edge

-- ---- a line is one of the lines over an edge where it goes over it

none_of : (test : ℕ → Bool) (xs : List ℕ) → AllByRecursion (λ x. test x ≡ false) xs → list_any test xs ≡ false
none_of test [] h = refl
none_of test (x ∷ xs) h = rw h.0 (none_of test xs h.1)

any_first : (goes : Bool) (first : ℕ) (line : CostedLine) (rest : List (ℕ × CostedLine))
    → AllByRecursion (λ line. nat_eq first line ≡ false) (map (λ at. at.0) rest)
    → list_any (nat_eq first) (map (λ at. at.0) (cond goes ((first, line) ∷ rest) rest)) ≡ goes
any_first true first line rest behind = rw (eq-eqb first first refl) refl
any_first false first line rest behind = none_of (nat_eq first) (map (λ at. at.0) rest) behind

any_behind : (goes : Bool) (first other : ℕ) (line : CostedLine) (rest : List (ℕ × CostedLine)) → first < other
    → list_any (nat_eq other) (map (λ at. at.0) (cond goes ((first, line) ∷ rest) rest))
    ≡ list_any (nat_eq other) (map (λ at. at.0) rest)
any_behind true first other line rest h = rw (ne_eqb other first (λ same. omega (arith, h, same))) refl
any_behind false first other line rest h = refl

any_from : (first : ℕ) (lines : List CostedLine) (edge line : ℕ) (d : CostedLine) → line < length lines
    → list_any (nat_eq (first + line)) (over_from first lines edge) ≡ goes_over edge (get_or lines line d)
any_from first [] edge line d h = absurd (omega (arith, h))
any_from first (one ∷ lines) edge zero d h =
    ap (λ n. list_any (nat_eq n) (over_from first (one ∷ lines) edge)) (omega arith)
    ∙ any_first (goes_over edge one) first one (filter (λ at. goes_over edge at.1) (enumerate_from (first + 1) lines))
    (later first (first + 1) lines edge (omega arith))
any_from first (one ∷ lines) edge (suc line) d h =
    grind (
      arith,
      any_behind,
      nat_eq,
      over_from,
      any_from (first + 1) lines edge line d (omega (arith, h)),
    )

pub is_over : (lines : List CostedLine) (edge line : ℕ) (d : CostedLine) → line < length lines
    → list_any (nat_eq line) (lines_over lines edge) ≡ goes_over edge (get_or lines line d)
unfolding lines_over
is_over lines edge line d h = ap (λ n. list_any (nat_eq n) (over_from 0 lines edge)) (omega arith)
    ∙ any_from 0 lines edge line d h

-- ---- one line more

module _ (over : List ℕ) (k : ℕ) (apart : IsDistinct nat_eq over) (h : k < length over) where
  -- a line of them was not one before
  pub is_new : list_any (nat_eq (get_or over k 0)) (take k over) ≡ false
  is_new =
      let size : length (take k over) ≡ k = length-take-le k over (omega arith) in
      list_any_none (nat_eq (get_or over k 0)) (take k over)
      (All-from_get_or (λ other. nat_eq (get_or over k 0) other ≡ false) (take k over) 0 (λ i lt.
      ap (nat_eq (get_or over k 0)) (get_or-take k over i 0 (omega arith))
      ∙ nat_eq_equiv.symm (get_or over k 0) (get_or over i 0)
      ∙ apart_from_distinct nat_eq over i k 0 apart (omega arith) h))

  module _ (left old : List ℕ) (amount value : ℕ) (size : length left ≡ length old)
      (there : get_or over k 0 < length old)
      (so_far : (at : ℕ) → at < length old
      → get_or left at 0 ≡ get_or old at 0 - cond (list_any (nat_eq at) (take k over)) amount 0)
      (read : value ≡ get_or left (get_or over k 0) value) where
    -- what was left of its cost before
    value_is : value ≡ get_or old (get_or over k 0) 0
    value_is = grind (arith, get_or, get_or_default_zero, is_new)

    pub line_lowered : (at : ℕ) → at < length old
        → get_or (set left (get_or over k 0) (value - amount)) at 0 ≡ get_or old at 0 - cond
        (list_any (nat_eq at) (take (k + 1) over)) amount 0
    line_lowered at within =
        let line = get_or over k 0 in
        let here : line < length left = omega arith in
        let more : list_any (nat_eq at) (take (k + 1) over)
        ≡ (list_any (nat_eq at) (take k over) || nat_eq at line) = list_any_more (nat_eq at)
        over k 0 h in grind (
          arith,
          cases_eq,
          nat_eq,
          eq-eqb,
          or_true,
          get_or,
          get_or-set_same,
          value_is,
          ne_eqb,
          or_false,
          get_or-set_other,
        )

-- ---- what is left, with one multiplier more

off_more : (multipliers : List Multiplier) (edge amount : ℕ) (line : CostedLine)
    → left_of (multipliers ++ record { edge = edge; amount = amount } ∷ []) line
    ≡ left_of multipliers line - cond (goes_over edge line) amount 0
off_more multipliers edge amount line = grind (arith, sum_by-append)

pub left_more : (lines : List CostedLine) (multipliers : List Multiplier) (edge amount : ℕ) (before after : List ℕ)
    → before ≡ map (left_of multipliers) lines → length after ≡ length before
    → AreLowered lines edge amount before after
    → after ≡ map (left_of (multipliers ++ record { edge = edge; amount = amount } ∷ [])) lines
left_more lines multipliers edge amount before after is size lowered =
    let more = multipliers ++ record { edge = edge; amount = amount } ∷ [] in
    let long = ap length is ∙ length-map lines (left_of multipliers) in
    same_number_lists after (map (left_of more) lines) (size ∙ long ∙ sym (length-map lines (left_of more))) (λ line h.
    let within : line < length lines = omega (arith, h, size, long) in
    let at = get_or lines line no_line in
    lowered line (omega (arith, h, size))
    ∙ ap (λ (left : List ℕ). get_or left line 0 - cond (list_any (nat_eq line) (lines_over lines edge)) amount 0) is
    ∙ ap (λ left. left - cond (list_any (nat_eq line) (lines_over lines edge)) amount 0)
    (get_or-map (left_of multipliers) lines line no_line 0 within)
    ∙ ap (λ over. left_of multipliers at - cond over amount 0) (is_over lines edge line no_line within)
    ∙ sym (off_more multipliers edge amount at)
    ∙ sym (get_or-map (left_of more) lines line no_line 0 within))
