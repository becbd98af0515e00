-- The root region has every feasible concept.
use Rattle.plan_num.proofs.Common.{◌≡◌, ℕ, zero, suc, ◌+◌, ◌≤◌, ◌<◌, Bool, true, false, ◌||◌}
use Rattle.plan_num.proofs.Common.{if◌then◌else◌, nat_eq, min, List, [], ◌∷◌, length, get_or, map}
use Rattle.plan_num.proofs.Common.{fold, filter_map, refl, arith, slice_get, Some, None, option_map}
use Rattle.plan_num.proofs.Common.{take, ◌++◌, unwrap_or, All, sym, ap, ◌∙◌, Option, false≢true}
use Rattle.plan_num.proofs.Common.{eq-eqb, or_right, AllByRecursion, cons_option, list_any, reduce}
use Rattle.plan_num.proofs.Common.{get_or_from_slice_get, slice_get_within, none-some}
use Rattle.line_cost_model.specs.declared.edge.BoundedEdge.{BoundedEdge}
use Rattle.line_cost_model.specs.Problems.{CostedLine, ProblemParts, IsBoundedEdge, IsCostedLine, IsProblem}
use Rattle.line_cost_model.specs.Concepts.{frequency_on}
use Rattle.line_cost_model.specs.Regions.{HasEachFeasible, IsRange, LiesIn, most_on, most_of, root_of}
use Rattle.line_cost_model.specs.declared.range.LineRange.{LineRange}
use Rattle.line_cost_model.proofs.Duality.{frequency_step}
use Rattle.line_cost_model.proofs.Mapped.{map_more, map_whole}

pub one_by_one : {X : Type 0} (P : X → Type 0) (xs : List X) → All P xs → AllByRecursion P xs
one_by_one P [] all = tt
one_by_one P (x ∷ xs) all =
    (all zero x (omega arith), one_by_one P xs (λ k d h. all (suc k) d (omega (arith, h))))

is_there : {X : Type 0} (xs : List X) (k : ℕ) → k < length xs → (x : X) × (slice_get xs k ≡ Some x)
is_there [] k h = absurd (omega (arith, h))
is_there (x ∷ xs) zero h = (x, refl)
is_there (x ∷ xs) (suc k) h = is_there xs k (omega (arith, h))

goes : (es : List ℕ) (k d : ℕ) → k < length es → list_any (nat_eq (get_or es k d)) es ≡ true
goes [] k d h = absurd (omega (arith, h))
goes (e ∷ es) zero d h = rw (eq-eqb e e refl) refl
goes (e ∷ es) (suc k) d h = or_right (nat_eq (get_or es k d) e) (list_any (nat_eq (get_or es k d)) es)
    (goes es k d (omega (arith, h)))

below_least : (xs : List ℕ) (f a : ℕ) → f ≤ a → AllByRecursion (λ x. f ≤ x) xs → f ≤ fold min a xs
below_least [] f a h k = h
below_least (x ∷ xs) f a h k = below_least xs f (min a x) (omega (arith, h, k.0)) k.1

-- an edge is there and leaves a frequency
abbrev Leaves : List BoundedEdge → ℕ → ℕ → Type 0
Leaves edges f e = (b : BoundedEdge) × (slice_get edges e ≡ Some b) × (f ≤ b.most)

all_leave : (edges : List BoundedEdge) (f : ℕ) (es : List ℕ) → AllByRecursion (Leaves edges f) es
    → AllByRecursion (λ x. f ≤ x) (filter_map (most_on edges) es)
all_leave edges f [] h = tt
all_leave edges f (e ∷ es) h = rw h.0.1 (h.0.2, all_leave edges f es h.1)

below_most : (edges : List BoundedEdge) (f : ℕ) (es : List ℕ) → 0 < length es
    → AllByRecursion (Leaves edges f) es → f ≤ unwrap_or (reduce min (filter_map (most_on edges) es)) 0
below_most edges f [] some h = absurd (omega (arith, some))
below_most edges f (e ∷ es) some h =
    rw h.0.1 (below_least (filter_map (most_on edges) es) f h.0.0.most h.0.2 (all_leave edges f es h.1))

gate_least : (b : Bool) (f q most : ℕ) → b ≡ true → (if b then f else 0) + q ≤ most → f ≤ most
gate_least true f q most e h = omega (arith, h)
gate_least false f q most e h = absurd (false≢true e)

-- no edge is driven too often
abbrev NotTooOften : List BoundedEdge → List CostedLine → List ℕ → Type 0
NotTooOften edges lines fs = (e : ℕ) (b : BoundedEdge) → slice_get edges e ≡ Some b
    → frequency_on lines fs e ≤ b.most

leaves_line : (edges : List BoundedEdge) (line : CostedLine) (lines : List CostedLine) (f : ℕ) (fs : List ℕ)
    → IsCostedLine (length edges) line → NotTooOften edges (line ∷ lines) (f ∷ fs)
    → All (Leaves edges f) line.edges
leaves_line edges line lines f fs sound few k d h =
    let e = get_or line.edges k d in
    let at = is_there edges e (sound.there k d h) in grind (arith, frequency_step, gate_least, goes)

root_lies : (edges : List BoundedEdge) (lines : List CostedLine) (fs : List ℕ)
    → AllByRecursion (IsCostedLine (length edges)) lines → length fs ≡ length lines
    → NotTooOften edges lines fs
    → LiesIn (map (λ line. record { lo = 0; hi = most_of edges line }) lines) fs
root_lies edges [] [] sound same few = tt
root_lies edges [] (f ∷ fs) sound same few = absurd (omega (arith, same))
root_lies edges (line ∷ lines) [] sound same few = absurd (omega (arith, same))
root_lies edges (line ∷ lines) (f ∷ fs) sound same few = (
  record {
    low = omega arith;
    high = below_most edges f line.edges sound.0.some
        (one_by_one (Leaves edges f) line.edges (leaves_line edges line lines f fs sound.0 few));
  },
  root_lies edges lines fs sound.1 (omega (arith, same)) (λ e b at. let driven = few e b at in
      omega (arith, driven, frequency_step e line lines f fs)),
)

pub root_has_each : (problem : ProblemParts) → IsProblem problem → HasEachFeasible problem (root_of problem)
root_has_each problem sound fs feasible =
    root_lies problem.edges problem.lines fs
    (one_by_one (IsCostedLine (length problem.edges)) problem.lines sound.lines) feasible.each
    (λ e b at. (feasible.bounds e b at).few)

-- ---- each range of the root region is one

least_few : (xs : List ℕ) (a : ℕ) → a ≤ 1000 → fold min a xs ≤ 1000
least_few [] a h = h
least_few (x ∷ xs) a h = least_few xs (min a x) (omega (arith, h))

few_of : (edges : List BoundedEdge) → All IsBoundedEdge edges → (es : List ℕ)
    → unwrap_or (reduce min (filter_map (most_on edges) es)) 0 ≤ 1000
few_of edges sound [] = omega arith
few_of edges sound (e ∷ es) =
    elim (slice_get edges e) as (λ at. slice_get edges e ≡ at
    → unwrap_or (reduce min (cons_option (option_map (λ at. at.most) at) (filter_map (most_on edges) es))) 0 ≤ 1000) [
      | None ↦ λ _. few_of edges sound es
      | Some bounds ↦ λ there. least_few (filter_map (most_on edges) es) bounds.most
          (rw (sym (get_or_from_slice_get edges e bounds bounds there))
          (sound e bounds (slice_get_within edges e bounds there)).few)
    ] refl

-- a range from 0
abbrev from_zero : ℕ → LineRange
from_zero hi = record { lo = 0; hi = hi }

each_range : (range : CostedLine → LineRange) → ((line : CostedLine) → IsRange (range line))
    → (lines : List CostedLine) → All IsRange (map range lines)
each_range range sound [] k d h = absurd (omega (arith, h))
each_range range sound (line ∷ lines) zero d h = sound line
each_range range sound (line ∷ lines) (suc k) d h = each_range range sound lines k d (omega (arith, h))

pub root_sound : (problem : ProblemParts) → IsProblem problem → All IsRange (root_of problem)
root_sound problem sound = grind (arith, each_range, few_of)

range_to : (most : CostedLine → ℕ) (line : Option CostedLine) (hi : ℕ) → option_map most line ≡ Some hi
    → option_map (λ line. from_zero (most line)) line ≡ Some (from_zero hi)
range_to most None hi is = absurd (none-some hi is)
range_to most (Some line) hi is = ap (option_map from_zero) is

-- one line more
pub root_more : (problem : ProblemParts) (line hi : ℕ)
    → option_map (most_of problem.edges) (slice_get problem.lines line) ≡ Some hi
    → take (line + 1) (root_of problem) ≡ take line (root_of problem) ++ from_zero hi ∷ []
root_more problem line hi at = grind (arith, map_more, range_to, slice_get)

pub root_whole : (problem : ProblemParts) (ranges : List LineRange) (count line : ℕ)
    → ranges ≡ take line (root_of problem) → count ≤ line → count ≡ length problem.lines
    → ranges ≡ root_of problem
root_whole problem ranges count line is past all =
    is ∙ map_whole (λ line. from_zero (most_of problem.edges line)) problem.lines count line all past
