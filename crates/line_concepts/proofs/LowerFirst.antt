-- No concept of the upper part of a split at the first open line comes before one of the lower part.
use Rattle.plan_num.proofs.Common.{◌≡◌, ◌≢◌, ℕ, zero, suc, pos, ◌+◌, ◌-◌, ◌<◌, ◌≤◌, ◌<ℤ◌, true, not}
use Rattle.plan_num.proofs.Common.{List, [], ◌∷◌, length, map, find, get_or, slice_get, Option}
use Rattle.plan_num.proofs.Common.{Some, None, IfSome, option_map, ◌⊎◌, inl, inr, ap, sym, ◌∙◌}
use Rattle.plan_num.proofs.Common.{arith, list_all, int_cmp, cases_Bool, cases_lt, get_or-map}
use Rattle.plan_num.proofs.Common.{length-map, Less-from_sorted, get_or_from_slice_get}
use Rattle.plan_num.proofs.Common.{slice_get_within, none-some}
use Rattle.line_cost_model.specs.declared.range.LineRange.{LineRange}
use Rattle.line_cost_model.proofs.Common.{ComesBefore, stands_before, CostedLine, IsProblem}
use Rattle.line_cost_model.proofs.Common.{ProblemParts, LiesIn, has_several, part_from, part_up_to}
use Rattle.line_concepts.specs.Listings.{first_open, open_at}
use Rattle.line_concepts.proofs.Lengths.{IsOpenAt, open_from}
use Rattle.line_concepts.proofs.LineOrder.{IsOneOf, all_have, found_passes, stands_behind}
use Rattle.plan_num.proofs.Tests.{less_is}

-- ---- frequencies in the parts of a split

lower_at : (region : List LineRange) (y : List ℕ) (line at : ℕ)
    → LiesIn (part_up_to region line at) y → line < length region → get_or y line 0 ≤ at
lower_at [] y line at inside there = absurd (omega (arith, there))
lower_at (range ∷ region) [] zero at inside there = absurd inside
lower_at (range ∷ region) [] (suc line) at inside there = absurd inside
lower_at (range ∷ region) (f ∷ y) zero at inside there = inside.0.high
lower_at (range ∷ region) (f ∷ y) (suc line) at inside there =
    lower_at region y line at inside.1 (omega (arith, there))

upper_at : (region : List LineRange) (x : List ℕ) (line at : ℕ)
    → LiesIn (part_from region line at) x → line < length region → at ≤ get_or x line 0
upper_at [] x line at inside there = absurd (omega (arith, there))
upper_at (range ∷ region) [] zero at inside there = absurd inside
upper_at (range ∷ region) [] (suc line) at inside there = absurd inside
upper_at (range ∷ region) (f ∷ x) zero at inside there = inside.0.low
upper_at (range ∷ region) (f ∷ x) (suc line) at inside there =
    upper_at region x line at inside.1 (omega (arith, there))

-- where one is less than the other, the range has several values
less_open : (region : List LineRange) (x y : List ℕ) (k : ℕ) → LiesIn region x → LiesIn region y
    → k < length region → get_or x k 0 < get_or y k 0 → IsOpenAt region k
less_open [] x y k in_x in_y there less = absurd (omega (arith, there))
less_open (range ∷ region) [] y k in_x in_y there less = absurd in_x
less_open (range ∷ region) (f ∷ x) [] k in_x in_y there less = absurd in_y
less_open (range ∷ region) (f ∷ x) (g ∷ y) zero in_x in_y there less =
    (there, omega (arith, in_x.0.low, in_y.0.high, less))
less_open (range ∷ region) (f ∷ x) (g ∷ y) (suc k) in_x in_y there less =
    let rest = less_open region x y k in_x.1 in_y.1 (omega (arith, there)) less in (there, rest.1)

parts_open : (region : List LineRange) (x y : List ℕ) (line at k : ℕ)
    → LiesIn (part_from region line (at + 1)) x → LiesIn (part_up_to region line at) y
    → k < length region → get_or x k 0 < get_or y k 0 → IsOpenAt region k × (k ≢ line)
parts_open [] x y line at k in_x in_y there less = absurd (omega (arith, there))
parts_open (range ∷ region) [] y zero at k in_x in_y there less = absurd in_x
parts_open (range ∷ region) [] y (suc line) at k in_x in_y there less = absurd in_x
parts_open (range ∷ region) (f ∷ x) [] zero at k in_x in_y there less = absurd in_y
parts_open (range ∷ region) (f ∷ x) [] (suc line) at k in_x in_y there less = absurd in_y
parts_open (range ∷ region) (f ∷ x) (g ∷ y) zero at zero in_x in_y there less =
    absurd (omega (arith, in_x.0.low, in_y.0.high, less))
parts_open (range ∷ region) (f ∷ x) (g ∷ y) zero at (suc k) in_x in_y there less =
    grind (arith, less_open)
parts_open (range ∷ region) (f ∷ x) (g ∷ y) (suc line) at zero in_x in_y there less =
    ((there, omega (arith, in_x.0.low, in_y.0.high, less)), λ same. omega (arith, same))
parts_open (range ∷ region) (f ∷ x) (g ∷ y) (suc line) at (suc k) in_x in_y there less =
    grind (arith, parts_open region x y line at k in_x.1 in_y.1 (omega (arith, there)) less)

-- ---- the open lines

open_one : (n : ℕ) (lines : List CostedLine) (region : List LineRange) (k : ℕ) (line : CostedLine)
    → slice_get lines k ≡ Some line → IsOpenAt region k
    → IsOneOf (n + k, line) (open_from n lines region)
open_one n [] region k line there is_open = absurd (none-some line there)
open_one n (a ∷ lines) [] k line there is_open = absurd (omega (arith, is_open.0))
open_one n (a ∷ lines) (range ∷ region) zero line there is_open = grind arith
open_one n (a ∷ lines) (range ∷ region) (suc k) line there is_open =
    grind (
      arith,
      IsOneOf,
      open_from,
      cases_Bool,
      open_one (n + 1) lines region k line there (omega (arith, is_open.0), is_open.1),
    )

abbrev IsLineFrom : ℕ → List CostedLine → ℕ × CostedLine → Type 0
IsLineFrom n lines at = (n ≤ at.0) × (slice_get lines (at.0 - n) ≡ Some at.1)

one_is : (n : ℕ) (lines : List CostedLine) (region : List LineRange) (at : ℕ × CostedLine)
    → IsOneOf at (open_from n lines region) → IsLineFrom n lines at
one_is n [] region at one = absurd one
one_is n (a ∷ lines) [] at one = absurd one
one_is n (a ∷ lines) (range ∷ region) at one = elim (cases_Bool (has_several range)) [
  | inl is ↦ elim (rw is at one) [
    | inl same ↦ here same
    | inr more ↦ behind (one_is (n + 1) lines region at more)
  ]
  | inr is ↦ behind (one_is (n + 1) lines region at (rw is at one))
]
  where
    behind : IsLineFrom (n + 1) lines at → IsLineFrom n (a ∷ lines) at
    behind h = grind (arith, slice_get)

    here : (n, a) ≡ at → IsLineFrom n (a ∷ lines) at
    here same = grind (arith, slice_get)

-- the first open line: no open line stands before it
pub record IsFirstOpen (problem : ProblemParts) (region : List LineRange) (line : ℕ) : Type 0 where
  pub at : CostedLine
  pub there : slice_get problem.lines line ≡ Some at
  pub first : (k : ℕ) (other : CostedLine) → slice_get problem.lines k ≡ Some other
      → IsOpenAt region k → not (stands_before other at) ≡ true

first_by : (problem : ProblemParts) (region : List LineRange) (found : Option (ℕ × CostedLine))
    → IfSome found (λ at.
    (list_all (λ other. not (stands_before other.1 at.1)) (open_at problem region) ≡ true) ×
    IsOneOf at (open_at problem region))
    → IfSome (option_map (λ at. at.0) found) (IsFirstOpen problem region)
first_by problem region None h = tt
first_by problem region (Some at) h =
    let own = one_is 0 problem.lines region at h.1 in
    let index : at.0 - 0 ≡ at.0 = omega arith in
    record {
      at = at.1;
      there = ap (slice_get problem.lines) (sym index) ∙ own.1;
      first = λ k other there is_open. grind (arith, all_have, IsOneOf, open_one);
    }

pub first_open_first : (problem : ProblemParts) (region : List LineRange)
    → IfSome (first_open problem region) (IsFirstOpen problem region)
first_open_first problem region =
    first_by problem region
    (find (λ at. list_all (λ other. not (stands_before other.1 at.1))
    (open_at problem region)) (open_at problem region))
    (found_passes _ (open_at problem region))

-- ---- lines at different places have different ids

ids_rise : (problem : ProblemParts) → IsProblem problem → (i j : ℕ) (a b : CostedLine) → i < j
    → slice_get problem.lines i ≡ Some a → slice_get problem.lines j ≡ Some b → a.id <ℤ b.id
ids_rise problem sound i j a b less there other =
    let xs = problem.lines in
    let inside = slice_get_within xs j b other in
    let low : get_or (map (λ line. line.id) xs) i (pos 0) ≡ a.id = get_or-map
    (λ (line : CostedLine). line.id) xs i a (pos 0) (slice_get_within xs i a there)
    ∙ ap (λ (line : CostedLine). line.id) (get_or_from_slice_get xs i a a there) in
    let high : get_or (map (λ line. line.id) xs) j (pos 0) ≡ b.id = get_or-map
    (λ (line : CostedLine). line.id) xs j b (pos 0) inside
    ∙ ap (λ (line : CostedLine). line.id) (get_or_from_slice_get xs j b b other) in
    less_is _ _ (ap (λ n. int_cmp n b.id) (sym low)
    ∙ ap (int_cmp (get_or (map (λ line. line.id) xs) i (pos 0))) (sym high)
    ∙ Less-from_sorted int_cmp (map (λ line. line.id) xs) i j (pos 0) sound.lines_rise less
    (omega (arith, inside, length-map xs (λ (line : CostedLine). line.id))))

ids_apart : (problem : ProblemParts) → IsProblem problem → (i j : ℕ) (a b : CostedLine) → i ≢ j
    → slice_get problem.lines i ≡ Some a → slice_get problem.lines j ≡ Some b
    → (a.id <ℤ b.id) ⊎ (b.id <ℤ a.id)
ids_apart problem sound i j a b apart there other = grind (arith, cases_lt, ids_rise)

-- ---- no concept of the upper part comes before one of the lower part

pub lower_first : (problem : ProblemParts) → IsProblem problem → (region : List LineRange)
    → length region ≡ length problem.lines → (line at : ℕ) → IsOpenAt region line
    → IsFirstOpen problem region line → (x y : List ℕ)
    → LiesIn (part_from region line (at + 1)) x → LiesIn (part_up_to region line at) y
    → ¬ ComesBefore problem x y
lower_first problem sound region each line at is_open is_first x y in_x in_y h =
    let within = slice_get_within problem.lines h.index h.line h.there in
    let here = parts_open region x y line at h.index in_x in_y (omega (arith, within, each)) h.less in
    let ids = ids_apart problem sound h.index line h.line is_first.at here.1 h.there is_first.there in
    grind (arith, stands_behind, upper_at, lower_at)
