-- The least that is left of the costs of the open lines over an edge.
use Rattle.plan_num.proofs.Common.{◌≡◌, ℕ, suc, ◌+◌, ◌≤◌, ◌<◌, Bool, true, false, cond}
use Rattle.plan_num.proofs.Common.{if◌then◌else◌, min, List, [], ◌∷◌, ◌++◌, length, get_or, map}
use Rattle.plan_num.proofs.Common.{filter, filter_map, take, zip, unwrap_or, Option, Some, None}
use Rattle.plan_num.proofs.Common.{refl, arith, ap, sym, ◌∙◌, enumerate_from, reduce, cons_option}
use Rattle.plan_num.proofs.Common.{option_map_or, take_more, take_all, append-nil}
use Rattle.plan_num.proofs.Common.{filter_map-append}
use Rattle.line_cost_model.specs.declared.multipliers.Multiplier.{Multiplier}
use Rattle.line_cost_model.specs.declared.range.LineRange.{LineRange}
use Rattle.line_cost_model.specs.Problems.{CostedLine, ProblemParts}
use Rattle.line_cost_model.specs.Concepts.{goes_over}
use Rattle.line_cost_model.specs.Crossings.{lines_over}
use Rattle.line_cost_model.specs.DualBounds.{least_left, left_of, open_lines, open_over}
use Rattle.line_cost_model.specs.Passes.{if_open}
use Rattle.line_cost_model.specs.Regions.{has_several, range_of}
use Rattle.line_cost_model.proofs.Driven.{over_from}
use Rattle.line_cost_model.proofs.Minima.{reduce_push}

-- what is left of the cost of the line at an index, where it is open
abbrev pub left_at : List LineRange → List ℕ → ℕ → Option ℕ
left_at region left line = if_open (range_of region line) (get_or left line 0)

-- numbers by index are those of lines from an index on
abbrev AreAt : (ℕ → Option ℕ) → ℕ → List LineRange → List ℕ → Type 0
AreAt number first region left = (i : ℕ) → i < length region → number (first + i) ≡ left_at region left i

-- one line more, by whether it is over the edge and whether it is open
picked_more : (goes several : Bool) (number : ℕ → Option ℕ) (index left : ℕ) (line : CostedLine) (range : LineRange)
    (rest : List (ℕ × CostedLine)) (edge : ℕ) (cost : CostedLine → ℕ) (others : List (CostedLine × LineRange))
    → number index ≡ (if several then Some left else None) → cost line ≡ left → goes_over edge line ≡ goes
    → filter_map number (map (λ at. at.0) rest) ≡ map cost (filter (goes_over edge) (map (λ at. at.0) others))
    → filter_map number (map (λ at. at.0) (cond goes ((index, line) ∷ rest) rest))
    ≡ map cost (filter (goes_over edge) (map (λ at. at.0) (cond several ((line, range) ∷ others) others)))
picked_more true true number index left line range rest edge cost others is cost_is goes_is more =
    rw (is, goes_is, cost_is, more) refl
picked_more true false number index left line range rest edge cost others is cost_is goes_is more =
    rw (is, more) refl
picked_more false true number index left line range rest edge cost others is cost_is goes_is more =
    rw (goes_is, more) refl
picked_more false false number index left line range rest edge cost others is cost_is goes_is more = more

at_behind : (number : ℕ → Option ℕ) (first : ℕ) (range : LineRange) (region : List LineRange) (one : ℕ) (left : List ℕ)
    → AreAt number first (range ∷ region) (one ∷ left) → AreAt number (first + 1) region left
at_behind number first range region one left are i within = ap number (omega arith)
    ∙ are (suc i) (omega (arith, within))

picked_from : (number : ℕ → Option ℕ) (first : ℕ) (lines : List CostedLine) (region : List LineRange) (edge : ℕ)
    (cost : CostedLine → ℕ) → length region ≡ length lines → AreAt number first region (map cost lines)
    → filter_map number (over_from first lines edge) ≡ map cost (filter (goes_over edge) (open_lines lines region))
picked_from number first [] region edge cost same are = refl
picked_from number first (line ∷ lines) [] edge cost same are = absurd (omega (arith, same))
picked_from number first (line ∷ lines) (range ∷ region) edge cost same are =
    picked_more (goes_over edge line) (has_several range) number first (cost line) line range
    (filter (λ at. goes_over edge at.1) (enumerate_from (first + 1) lines)) edge cost
    (filter (λ at. has_several at.1) (zip lines region)) (ap number (omega arith) ∙ are 0 (omega arith)) refl refl
    (picked_from number (first + 1) lines region edge cost (omega (arith, same))
    (at_behind number first range region (cost line) (map cost lines) are))

-- what is left of the costs of the open lines over an edge
pub picked_whole : (problem : ProblemParts) (region ranges : List LineRange)
    (multipliers : List Multiplier) (left over : List ℕ) (edge : ℕ) → ranges ≡ region
    → left ≡ map (left_of multipliers) problem.lines
    → over ≡ lines_over problem.lines edge → length region ≡ length problem.lines
    → filter_map (left_at ranges left) over
    ≡ map (left_of multipliers) (open_over problem region edge)
unfolding lines_over
picked_whole problem region ranges multipliers left over edge ranges_are left_is over_is same =
    grind (arith, filter_map, over_from, picked_from)

-- the least over all lines of the edge
pub least_whole : (problem : ProblemParts) (region ranges : List LineRange)
    (multipliers : List Multiplier) (left over : List ℕ)
    (edge index : ℕ) (least : Option ℕ) → ranges ≡ region → left ≡ map (left_of multipliers) problem.lines
    → over ≡ lines_over problem.lines edge → length over ≤ index → length region ≡ length problem.lines
    → least ≡ reduce min (filter_map (left_at ranges left) (take index over))
    → unwrap_or least 0 ≡ least_left problem region multipliers edge
least_whole problem region ranges multipliers left over edge index least ranges_are left_is over_is past same is =
    grind (arith, unwrap_or, filter_map, take_all, picked_whole)

-- one line more
least_taken : (some : List ℕ) (range : LineRange) (left : ℕ) → reduce min (some ++ cons_option (if_open range left) [])
    ≡ (if has_several range then Some
    (option_map_or (λ least. min least left) (reduce min some) left) else reduce min some)
least_taken some range left = grind (arith, reduce_push, append-nil)

pub least_more : (ranges : List LineRange) (left over : List ℕ) (index line own : ℕ)
    (least after : Option ℕ) → index < length over
    → line ≡ get_or over index 0 → own ≡ get_or left line 0
    → least ≡ reduce min (filter_map (left_at ranges left) (take index over))
    → after ≡ (if has_several (range_of ranges line) then Some
    (option_map_or (λ least. min least own) least own) else least)
    → after ≡ reduce min (filter_map (left_at ranges left) (take (index + 1) over))
least_more ranges left over index line own least after within line_is own_is so_far is =
    let number = left_at ranges left in
    let some = filter_map number (take index over) in
    is
    ∙ ap (λ (least : Option ℕ). if has_several (range_of ranges line) then Some
    (option_map_or (λ least. min least own) least own) else least) so_far
    ∙ sym (least_taken some (range_of ranges line) own)
    ∙ ap (λ own. reduce min (some ++ cons_option (if_open (range_of ranges line) own) [])) own_is
    ∙ ap (λ line. reduce min (some ++ cons_option (number line) [])) line_is
    ∙ sym (ap (λ some. reduce min (filter_map number some)) (take_more over index 0 within)
    ∙ ap (reduce min) (filter_map-append number (take index over) (get_or over index 0 ∷ [])))
