-- Sums over the lines of an edge.
use Rattle.plan_num.proofs.Common.{◌≡◌, ℕ, zero, suc, ◌+◌, ◌≤◌, ◌<◌, Bool, true, false}
use Rattle.plan_num.proofs.Common.{if◌then◌else◌, cond, List, [], ◌∷◌, length, get_or, map, filter}
use Rattle.plan_num.proofs.Common.{take, refl, arith, sum_by, All, sym, ap, ◌∙◌, AllByRecursion}
use Rattle.plan_num.proofs.Common.{enumerate_from, take_all, length-map, get_or-map, sum_by-cons}
use Rattle.line_cost_model.specs.Problems.{CostedLine}
use Rattle.line_cost_model.specs.Concepts.{goes_over, frequency_on}
use Rattle.line_cost_model.specs.Crossings.{lines_over}
use Rattle.line_cost_model.specs.declared.range.LineRange.{LineRange}
use Rattle.line_cost_model.specs.Regions.{range_of}
use Rattle.line_cost_model.proofs.Duality.{frequency_step}

-- the indexes of the lines over an edge, where the first line has some index
abbrev pub over_from : ℕ → List CostedLine → ℕ → List ℕ
over_from first lines edge = map (λ at. at.0) (filter (λ at. goes_over edge at.1) (enumerate_from first lines))

gated : (goes : Bool) (number : ℕ → ℕ) (index : ℕ) (line : CostedLine) (rest : List (ℕ × CostedLine))
    → sum_by number (map (λ at. at.0) (cond goes ((index, line) ∷ rest) rest))
    ≡ (if goes then number index else 0) + sum_by number (map (λ at. at.0) rest)
gated true number index line rest = sum_by-cons number index (map (λ at. at.0) rest)
gated false number index line rest = omega arith

-- numbers of lines by their indexes are the frequencies of a concept
abbrev AreOf : (ℕ → ℕ) → ℕ → List ℕ → Type 0
AreOf number first fs = (i : ℕ) → i < length fs → number (first + i) ≡ get_or fs i 0

are_behind : (number : ℕ → ℕ) (first f : ℕ) (fs : List ℕ) → AreOf number first (f ∷ fs) → AreOf number (first + 1) fs
are_behind number first f fs are i within = ap number (omega arith) ∙ are (suc i) (omega (arith, within))

sum_from : (number : ℕ → ℕ) (first : ℕ) (lines : List CostedLine) (fs : List ℕ) (edge : ℕ)
    → length fs ≡ length lines → AreOf number first fs
    → sum_by number (over_from first lines edge) ≡ frequency_on lines fs edge
sum_from number first [] fs edge same are = refl
sum_from number first (line ∷ lines) [] edge same are = absurd (omega (arith, same))
sum_from number first (line ∷ lines) (f ∷ fs) edge same are =
    let rest = enumerate_from (first + 1) lines in
    gated (goes_over edge line) number first line (filter (λ at. goes_over edge at.1) rest)
    ∙ ap (λ f. (if goes_over edge line then f else 0) + sum_by number (over_from (first + 1) lines edge))
    (ap number (omega arith) ∙ are 0 (omega arith))
    ∙ ap (λ sum. (if goes_over edge line then f else 0) + sum)
    (sum_from number (first + 1) lines fs edge (omega (arith, same))
    (are_behind number first f fs are))
    ∙ sym (frequency_step edge line lines f fs)

-- the sum of such numbers over the lines of an edge is how often the edge is driven
pub sum_is_frequency : (number : ℕ → ℕ) (lines : List CostedLine) (fs : List ℕ) (edge : ℕ)
    → length fs ≡ length lines → AreOf number 0 fs
    → sum_by number (lines_over lines edge) ≡ frequency_on lines fs edge
unfolding lines_over
sum_is_frequency number lines fs edge same are = sum_from number 0 lines fs edge same are

-- what holds of the lines over an edge, where it holds of an index and of the lines behind it
pub each_gated : (P : ℕ → Type 0) (goes : Bool) (index : ℕ) (line : CostedLine) (rest : List (ℕ × CostedLine)) → P index
    → AllByRecursion P (map (λ at. at.0) rest)
    → AllByRecursion P (map (λ at. at.0) (cond goes ((index, line) ∷ rest) rest))
each_gated P true index line rest own all = (own, all)
each_gated P false index line rest own all = all

-- the lines over an edge are lines
within_from : (first most : ℕ) (lines : List CostedLine) (edge : ℕ) → first + length lines ≤ most
    → AllByRecursion (λ line. line < most) (over_from first lines edge)
within_from first most [] edge h = tt
within_from first most (line ∷ lines) edge h =
    grind (arith, each_gated, within_from (first + 1) most lines edge (omega (arith, h)))

pub over_within : (lines : List CostedLine) (edge : ℕ) → All (λ line. line < length lines) (lines_over lines edge)
unfolding lines_over
over_within lines edge = all_from_each (λ line. line < length lines) (over_from 0 lines edge)
    (within_from 0 (length lines) lines edge (omega arith))
  where
    all_from_each : (P : ℕ → Type 0) (xs : List ℕ) → AllByRecursion P xs → All P xs
    all_from_each P [] all k d h = absurd (omega (arith, h))
    all_from_each P (x ∷ xs) all zero d h = all.0
    all_from_each P (x ∷ xs) all (suc k) d h = all_from_each P xs all.1 k d (omega (arith, h))

-- an edge has no more lines over it than there are
few_gated : (goes : Bool) (index : ℕ) (line : CostedLine) (rest : List (ℕ × CostedLine))
    → length (map (λ at. at.0) (cond goes ((index, line) ∷ rest) rest)) ≤ length (map (λ at. at.0) rest) + 1
few_gated true index line rest = omega arith
few_gated false index line rest = omega arith

few_from : (first : ℕ) (lines : List CostedLine) (edge : ℕ)
    → length (over_from first lines edge) ≤ length lines
few_from first [] edge = omega arith
few_from first (line ∷ lines) edge = grind (arith, few_gated, few_from (first + 1) lines edge)

pub few_over : (lines : List CostedLine) (edge : ℕ) → length (lines_over lines edge) ≤ length lines
unfolding lines_over
few_over lines edge = few_from 0 lines edge

-- the sum of the ends of ranges over the lines of an edge is how often these ends drive it
pub end_sum : (end : LineRange → ℕ) (ranges region : List LineRange)
    → ranges ≡ region → (lines : List CostedLine) (edge index : ℕ) (over : List ℕ) → over ≡ lines_over lines edge
    → length over ≤ index → length region ≡ length lines
    → sum_by (λ line. end (range_of ranges line)) (take index over) ≡ frequency_on lines (map end region) edge
end_sum end ranges region are lines edge index over is past same =
    let number : ℕ → ℕ = λ line. end (range_of region line) in
    let no_range : LineRange = record { lo = 0; hi = 0 } in
    ap (λ (ranges : List LineRange). sum_by (λ line. end (range_of ranges line)) (take index over)) are
    ∙ ap (sum_by number) (take_all index over past ∙ is)
    ∙ sum_is_frequency number lines (map end region) edge (length-map region end ∙ same)
    (λ i within. ap number (omega arith)
    ∙ sym (get_or-map end region i no_range 0 (omega (arith, within, length-map region end))))
