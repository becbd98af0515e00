-- Running sums: what another frequency of a line changes, and how great they are.
use Rattle.plan_num.proofs.Common.{◌≡◌, ℕ, zero, suc, ◌+◌, ◌*◌, ◌≤◌, ◌<◌, ◌∙◌, Bool, true, false}
use Rattle.plan_num.proofs.Common.{cond, if◌then◌else◌, nat_eq, List, [], ◌∷◌, length, get_or, set}
use Rattle.plan_num.proofs.Common.{map, zip, sum_by, slice_get, Some, option_map, unwrap_or, All}
use Rattle.plan_num.proofs.Common.{Option, IfSome, ap, subst, sym, arith, get_or-set_other}
use Rattle.plan_num.proofs.Common.{get_or-set_same, IsDistinct, eq-eqb, cases_eq, length-map}
use Rattle.plan_num.proofs.Common.{length-set, get_or-map, get_or_default, map-set, All-set}
use Rattle.plan_num.proofs.Common.{list_any_at, sum_by-cons, sum_by-le, mul-le}
use Rattle.plan_num.proofs.Common.{get_or_from_slice_get, none-some, get_or-zip, length-zip}
use Rattle.line_cost_model.specs.declared.edge_sums.EdgeSums.{EdgeSums}
use Rattle.line_cost_model.specs.declared.range.LineRange.{LineRange}
use Rattle.line_cost_model.specs.Problems.{CostedLine, ProblemParts, IsProblem}
use Rattle.line_cost_model.specs.Concepts.{cost_of, frequency_on, goes_over}
use Rattle.line_cost_model.specs.Regions.{IsRange, greatest_in, least_in, range_of}
use Rattle.line_cost_model.specs.RunningSums.{AreCounted, AreDriven, AreMoved, AreSums, IsOfGreatest}
use Rattle.line_cost_model.specs.RunningSums.{IsOfLeast, IsSummed}
use Rattle.line_cost_model.proofs.FewLines.{few_lines, no_line}

-- ---- a line has another frequency

sum_moved : (term : CostedLine × ℕ → ℕ) (lines : List CostedLine) (fs : List ℕ) (k f : ℕ)
    → k < length lines → length fs ≡ length lines
    → sum_by term (zip lines (set fs k f)) + term (get_or lines k no_line, get_or fs k 0)
    ≡ sum_by term (zip lines fs) + term (get_or lines k no_line, f)
sum_moved term [] fs k f h same = absurd (omega (arith, h))
sum_moved term (line ∷ lines) [] k f h same = absurd (omega (arith, same))
sum_moved term (line ∷ lines) (g ∷ fs) zero f h same = grind (arith, sum_by-cons)
sum_moved term (line ∷ lines) (g ∷ fs) (suc k) f h same =
    grind (arith, sum_by-cons, sum_moved term lines fs k f (omega (arith, h)) (omega (arith, same)))

abbrev of_edge : ℕ → CostedLine × ℕ → ℕ
of_edge edge at = if goes_over edge at.0 then at.1 else 0

abbrev of_cost : CostedLine × ℕ → ℕ
of_cost at = at.0.cost * at.1

module _ (lines : List CostedLine) (fs : List ℕ) (k : ℕ) (h : k < length lines)
    (same : length fs ≡ length lines) where
  driven_moved : (f edge : ℕ)
      → frequency_on lines (set fs k f) edge + cond (goes_over edge (get_or lines k no_line)) (get_or fs k 0) 0
      ≡ frequency_on lines fs edge + cond (goes_over edge (get_or lines k no_line)) f 0
  driven_moved f edge = sum_moved (of_edge edge) lines fs k f h same

  -- the own part of a line in a sum
  own_driven : (edge : ℕ) → goes_over edge (get_or lines k no_line) ≡ true
      → get_or fs k 0 ≤ frequency_on lines fs edge
  own_driven edge over =
      let own : cond (goes_over edge (get_or lines k no_line)) (get_or fs k 0) 0 ≡ get_or fs k 0 =
      ap (λ b. cond b (get_or fs k 0) 0) over in
      let nothing : ℕ = 0 in
      let none : cond (goes_over edge (get_or lines k no_line)) nothing 0 ≡ nothing =
      ap (λ b. cond b nothing 0) over in
      omega (arith, driven_moved nothing edge, own, none)

-- ---- how great sums are

few_sum : (term : CostedLine × ℕ → ℕ) (most : ℕ) (lines : List CostedLine) (fs : List ℕ)
    → length fs ≡ length lines
    → ((k : ℕ) → k < length lines → term (get_or lines k no_line, get_or fs k 0) ≤ most)
    → sum_by term (zip lines fs) ≤ length lines * most
few_sum term most lines fs same each =
    let long : length (zip lines fs) ≡ length lines = omega (arith, length-zip lines fs, same) in
    subst (λ n. sum_by term (zip lines fs) ≤ n * most) long
    (sum_by-le term most (zip lines fs) (λ k d h.
    let within : k < length lines = omega (arith, h, long) in grind (
      arith,
      get_or_default,
      no_line,
      get_or-zip,
    )))

gated_few : (over : Bool) (f most : ℕ) → f ≤ most → cond over f 0 ≤ most
gated_few true f most few = few
gated_few false f most few = omega arith

pub few_driven : (lines : List CostedLine) (fs : List ℕ) (edge : ℕ) → length fs ≡ length lines
    → All (λ f. f ≤ 1000) fs → frequency_on lines fs edge ≤ length lines * 1000
few_driven lines fs edge same few = grind (arith, few_sum, gated_few, get_or, no_line)

few_cost : (problem : ProblemParts) (fs : List ℕ) → IsProblem problem
    → length fs ≡ length problem.lines → All (λ f. f ≤ 1000) fs
    → cost_of problem fs ≤ 5000000000000000000000000000000000000
few_cost problem fs sound same few =
    let all = few_sum of_cost 1000000000000000000000 problem.lines fs same (λ k h.
    let times : get_or fs k 0 ≤ 1000 = few k 0 (omega (arith, h, same)) in grind (
      arith,
      mul-le,
      get_or,
      no_line,
    )) in grind (arith, few_lines)

pub none_driven : (lines : List CostedLine) (fs : List ℕ) (edge : ℕ) → length fs ≡ length lines
    → ((k : ℕ) → get_or fs k 0 ≡ 0) → frequency_on lines fs edge ≡ 0
none_driven lines fs edge same none =
    let all = few_sum (of_edge edge) 0 lines fs same (λ k h.
    gated_few (goes_over edge (get_or lines k no_line)) (get_or fs k 0) 0 (omega (arith, none k))) in
    omega (arith, all)

pub none_cost : (problem : ProblemParts) (fs : List ℕ) → length fs ≡ length problem.lines
    → ((k : ℕ) → get_or fs k 0 ≡ 0) → cost_of problem fs ≡ 0
none_cost problem fs same none =
    let all = few_sum of_cost 0 problem.lines fs same (λ k h.
    let own = ap (λ f. (get_or problem.lines k no_line).cost * f) (none k) in grind arith) in grind
    arith

-- ---- both ends of ranges

abbrev no_range : LineRange
no_range = record { lo = 0; hi = 0 }

least_few : (ranges : List LineRange) → All IsRange ranges → All (λ f. f ≤ 1000) (least_in ranges)
least_few ranges sound k d h =
    let lo_of : LineRange → ℕ = λ range. range.lo in
    let within : k < length ranges = omega (arith, h, length-map ranges lo_of) in
    let range : IsRange (get_or ranges k no_range) = sound k no_range within in
    omega (arith, get_or-map lo_of ranges k no_range d within, range.in_order, range.few)

pub greatest_few : (ranges : List LineRange) → All IsRange ranges
    → All (λ f. f ≤ 1000) (greatest_in ranges)
greatest_few ranges sound k d h =
    let hi_of : LineRange → ℕ = λ range. range.hi in
    let within : k < length ranges = omega (arith, h, length-map ranges hi_of) in
    let range : IsRange (get_or ranges k no_range) = sound k no_range within in
    omega (arith, get_or-map hi_of ranges k no_range d within, range.few)

-- ---- the sums of a region

driven_after : (problem : ProblemParts) (fs sums now : List ℕ) (line f : ℕ) → AreDriven problem fs sums
    → length fs ≡ length problem.lines → line < length problem.lines → length now ≡ length sums
    → AreMoved (get_or problem.lines line no_line).edges (get_or fs line 0) f sums now
    → AreDriven problem (set fs line f) now
driven_after problem fs sums now line f are same there size moved = grind (arith, driven_moved)

-- what the line at an index has
read_at : {X : Type 0} (of : CostedLine → X) (lines : List CostedLine) (line : ℕ) (x : X)
    → option_map of (slice_get lines line) ≡ Some x → x ≡ of (get_or lines line no_line)
read_at of lines line x is =
    grind (
      arith,
      slice_get,
      option_map,
      get_or,
      no_line,
      none-some,
      unwrap_or,
      get_or_from_slice_get,
    )

-- the sums of edges, where a line has another range
pub sums_moved : (problem : ProblemParts) (ranges : List LineRange) (sums now : EdgeSums) (edges : List ℕ)
    (line : ℕ) (range : LineRange) → AreSums problem ranges sums → length ranges ≡ length problem.lines
    → line < length ranges → option_map (λ at. at.edges) (slice_get problem.lines line) ≡ Some edges
    → length now.least.sums.items ≡ length sums.least.sums.items
    → length now.greatest.sums.items ≡ length sums.greatest.sums.items
    → AreMoved edges (range_of ranges line).lo range.lo sums.least.sums.items now.least.sums.items
    → AreMoved edges (range_of ranges line).hi range.hi sums.greatest.sums.items now.greatest.sums.items
    → IsOfLeast problem.edges now.least.sums.items now.least.short now.least.over
    → IsOfGreatest problem.edges now.greatest.sums.items now.greatest.under
    → AreSums problem (set ranges line range) now
sums_moved problem ranges sums now edges line range are each there edges_are least_size greatest_size least_moved
    greatest_moved of_least of_greatest =
    let lo_of : LineRange → ℕ = λ range. range.lo in
    let hi_of : LineRange → ℕ = λ range. range.hi in
    let within : line < length problem.lines = omega (arith, there, each) in
    let at = get_or problem.lines line no_line in
    let edges_of : edges ≡ at.edges = read_at (λ (at : CostedLine). at.edges) problem.lines line edges edges_are in
    let lo_is = sym (get_or-map lo_of ranges line no_range 0 there) in
    let hi_is = sym (get_or-map hi_of ranges line no_range 0 there) in
    let least = sums.least.sums.items in
    let greatest = sums.greatest.sums.items in
    record {
      least_are = subst (λ fs. AreDriven problem fs now.least.sums.items) (sym (map-set lo_of ranges line range))
          (driven_after problem (map lo_of ranges) least now.least.sums.items line range.lo are.least_are
          (length-map ranges lo_of ∙ each) within least_size
          (subst (λ n. AreMoved at.edges n range.lo least now.least.sums.items) lo_is
          (subst (λ edges. AreMoved edges (range_of ranges line).lo range.lo least now.least.sums.items) edges_of
          least_moved)));
      greatest_are = subst (λ fs. AreDriven problem fs now.greatest.sums.items)
          (sym (map-set hi_of ranges line range))
          (driven_after problem (map hi_of ranges) greatest now.greatest.sums.items line range.hi are.greatest_are
          (length-map ranges hi_of ∙ each) within greatest_size
          (subst (λ n. AreMoved at.edges n range.hi greatest now.greatest.sums.items) hi_is
          (subst (λ edges. AreMoved edges (range_of ranges line).hi range.hi greatest now.greatest.sums.items)
          edges_of greatest_moved)));
      of_least = of_least;
      of_greatest = of_greatest;
    }

pub region_moved : (problem : ProblemParts) (ranges : List LineRange) (sums now : Option EdgeSums)
    (cost cost_now line lo hi price : ℕ) → IsSummed problem ranges sums cost → line < length ranges → lo ≤ hi
    → hi ≤ 1000 → option_map (λ at. at.cost) (slice_get problem.lines line) ≡ Some price
    → cost_now + price * (range_of ranges line).lo ≡ cost + price * lo
    → IfSome now (AreSums problem (set ranges line (record { lo = lo; hi = hi })))
    → IsSummed problem (set ranges line (record { lo = lo; hi = hi })) now cost_now
region_moved problem ranges sums now cost cost_now line lo hi price summed there order few price_is cost_is are =
    let range : LineRange = record { lo = lo; hi = hi } in
    let lo_of : LineRange → ℕ = λ range. range.lo in
    let within : line < length problem.lines = omega (arith, there, summed.each) in
    let at = get_or problem.lines line no_line in
    let price_of : price ≡ at.cost = read_at (λ (at : CostedLine). at.cost) problem.lines line price price_is in
    let lo_is = sym (get_or-map lo_of ranges line no_range 0 there) in
    record {
      problem_is = summed.problem_is;
      each = length-set ranges line range ∙ summed.each;
      sound = All-set IsRange ranges line range (record { in_order = order; few = few }) summed.sound;
      cost_is =
          let moved = sum_moved of_cost problem.lines (map lo_of ranges) line lo within
          (length-map ranges lo_of ∙ summed.each) in
          let before : of_cost (at, get_or (map lo_of ranges) line 0) ≡ price * (range_of ranges line).lo =
          (λ i. sym price_of i * sym lo_is i) in
          let after : of_cost (at, lo) ≡ price * lo = ap (λ n. n * lo) (sym price_of) in
          let whole : cost_now ≡ cost_of problem (set (map lo_of ranges) line lo) =
          omega (arith, moved, before, after, cost_is, summed.cost_is) in
          whole ∙ ap (cost_of problem) (sym (map-set lo_of ranges line range));
      sums_are = are;
    }

-- the line at an index is counted in the sums of its edges and in the cost, and these are not too great
sums_count : (problem : ProblemParts) (fs sums edges : List ℕ) (line before : ℕ)
    → AreDriven problem fs sums → IsProblem problem → length fs ≡ length problem.lines
    → All (λ f. f ≤ 1000) fs → line < length problem.lines
    → option_map (λ at. at.edges) (slice_get problem.lines line) ≡ Some edges → before ≡ get_or fs line 0
    → AreCounted before sums edges
sums_count problem fs sums edges line before are sound same few within edges_are before_is =
    grind (
      arith,
      get_or,
      no_line,
      read_at,
      list_any_at,
      nat_eq,
      eq-eqb,
      own_driven,
      few_driven,
      few_lines,
    )

cost_counts : (problem : ProblemParts) (fs : List ℕ) (cost line price before : ℕ)
    → cost ≡ cost_of problem fs → length fs ≡ length problem.lines → line < length problem.lines
    → option_map (λ at. at.cost) (slice_get problem.lines line) ≡ Some price → before ≡ get_or fs line 0
    → price * before ≤ cost
cost_counts problem fs cost line price before cost_is same within price_is before_is =
    let at = get_or problem.lines line no_line in
    let price_of : price ≡ at.cost = read_at (λ (at : CostedLine). at.cost) problem.lines line price price_is in
    let moved = sum_moved of_cost problem.lines fs line 0 within same in grind (arith, get_or)

pub least_cost_few : (problem : ProblemParts) (ranges : List LineRange) (sums : Option EdgeSums) (cost : ℕ)
    → IsSummed problem ranges sums cost → cost ≤ 5000000000000000000000000000000000000
least_cost_few problem ranges sums cost summed = grind (arith, few_cost, length-map, least_few)

-- what another range of a line takes off was counted before
module _ (problem : ProblemParts) (ranges : List LineRange) (sums : EdgeSums) (edges : List ℕ) (line : ℕ)
    (problem_is : IsProblem problem) (each : length ranges ≡ length problem.lines) (sound : All IsRange ranges)
    (are : AreSums problem ranges sums) (there : line < length ranges)
    (edges_are : option_map (λ at. at.edges) (slice_get problem.lines line) ≡ Some edges) where
  pub least_counts : AreCounted (range_of ranges line).lo sums.least.sums.items edges
  least_counts = sums_count problem (least_in ranges) sums.least.sums.items edges line (range_of ranges line).lo
      are.least_are problem_is (length-map ranges (λ range. range.lo) ∙ each)
      (least_few ranges sound) (omega (arith, there, each)) edges_are
      (sym (get_or-map (λ range. range.lo) ranges line no_range 0 there))

  pub greatest_counts : AreCounted (range_of ranges line).hi sums.greatest.sums.items edges
  greatest_counts = sums_count problem (greatest_in ranges) sums.greatest.sums.items edges line
      (range_of ranges line).hi are.greatest_are problem_is (length-map ranges (λ range. range.hi) ∙ each)
      (greatest_few ranges sound) (omega (arith, there, each)) edges_are
      (sym (get_or-map (λ range. range.hi) ranges line no_range 0 there))

pub least_cost_counts : (problem : ProblemParts) (ranges : List LineRange) (sums : Option EdgeSums)
    (cost line price : ℕ) → IsSummed problem ranges sums cost → line < length ranges
    → option_map (λ at. at.cost) (slice_get problem.lines line) ≡ Some price
    → price * (range_of ranges line).lo ≤ cost
least_cost_counts problem ranges sums cost line price summed there price_is =
    grind (arith, cost_counts, length-map, get_or-map)

-- the edges of a line are there, and each of them once
pub line_edges : (problem : ProblemParts) (line : ℕ) (edges : List ℕ) → IsProblem problem
    → line < length problem.lines
    → option_map (λ at. at.edges) (slice_get problem.lines line) ≡ Some edges
    → All (λ edge. edge < length problem.edges) edges × IsDistinct nat_eq edges
line_edges problem line edges sound within edges_are = grind (arith, no_line, nat_eq, read_at)

-- one line more has the range that it has in a region
pub range_taken : (ranges region now : List LineRange) (line lo hi : ℕ) → line < length ranges
    → ((at : ℕ) → at < line → range_of ranges at ≡ range_of region at)
    → lo ≡ (range_of region line).lo → hi ≡ (range_of region line).hi
    → now ≡ set ranges line (record { lo = lo; hi = hi }) → (at : ℕ) → at < line + 1
    → range_of now at ≡ range_of region at
range_taken ranges region now line lo hi there done lo_is hi_is now_is at before =
    grind (arith, cases_eq, get_or-set_same, get_or-set_other)
