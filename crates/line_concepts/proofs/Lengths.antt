-- A listing is no longer than twice the concepts of its region, less one.
use Rattle.plan_num.proofs.Common.{◌≡◌, ℕ, zero, suc, ◌+◌, ◌-◌, ◌*◌, ◌/◌, ◌≤◌, ◌<◌, Bool, true}
use Rattle.plan_num.proofs.Common.{false, cond, nat_le, List, [], ◌∷◌, length, map, filter, find}
use Rattle.plan_num.proofs.Common.{zip, arith, Option, Some, None, option_map, unwrap_or, IfSome}
use Rattle.plan_num.proofs.Common.{sym, subst, length-append, ltb-true, cases_Bool, IfSome_then}
use Rattle.plan_num.proofs.Common.{AllByRecursion, enumerate_from}
use Rattle.line_cost_model.specs.declared.multipliers.Multiplier.{Multiplier}
use Rattle.line_cost_model.specs.declared.edge.BoundedEdge.{BoundedEdge}
use Rattle.line_cost_model.specs.declared.range.LineRange.{LineRange}
use Rattle.line_cost_model.specs.declared.side.Side.{Side}
use Rattle.line_cost_model.proofs.Common.{CostedLine, ProblemParts, cost_of, dual_bound}
use Rattle.line_cost_model.proofs.Common.{multipliers_of, most_of, empty_edge, has_several}
use Rattle.line_cost_model.proofs.Common.{part_from, part_up_to, range_of, root_of}
use Rattle.line_cost_model.specs.Regions.{concept_count}
use Rattle.line_concepts.specs.declared.node.Node.{Node}
use Rattle.line_concepts.specs.declared.node.Node.TheVariants as node
use Rattle.line_concepts.specs.Firsts.{first_of}
use Rattle.line_concepts.specs.Listings.{listing, levels_of, Entry, as_bound, as_split, entries_by}
use Rattle.line_concepts.specs.Listings.{entries_within, first_open, middle, node_at, open_at}

-- ranges whose ends are in order
abbrev pub AreOrdered : List LineRange → Type 0
AreOrdered region = AllByRecursion (λ range. range.lo ≤ range.hi) region

-- the range of a line is there and has several values
abbrev pub IsOpenAt : List LineRange → ℕ → Type 0
IsOpenAt region line = (line < length region) × ((range_of region line).lo < (range_of region line).hi)

found_of : {X : Type 0} (Q : X → Type 0) (p : X → Bool) (xs : List X) → AllByRecursion Q xs
    → IfSome (find p xs) Q
found_of Q p [] all = tt
found_of Q p (x ∷ xs) all = grind (arith, found_of Q p xs all.1)

some_count : (region : List LineRange) → AreOrdered region → 1 ≤ concept_count region
unfolding concept_count
some_count [] ordered = omega arith
some_count (range ∷ region) ordered = product (range.hi + 1 - range.lo) (concept_count region)
    (omega (arith, ordered.0)) (some_count region ordered.1)
  where
    product : (a b : ℕ) → 1 ≤ a → 1 ≤ b → 1 ≤ a * b
    product zero b h k = absurd (omega (arith, h))
    product (suc a) b h k = omega (arith, k)

sum_times : (x y z c : ℕ) → x + y ≡ z → x * c + y * c ≡ z * c
sum_times x y z c h = rw (sym h) (omega arith)

times_sum : (c x y z : ℕ) → x + y ≡ z → c * x + c * y ≡ c * z
times_sum c x y z h = rw (sym h) (omega arith)

-- the concepts of both parts are those of the region
parts_count : (region : List LineRange) (line at : ℕ) → IsOpenAt region line → (range_of region line).lo ≤ at
    → at < (range_of region line).hi
    → concept_count (part_up_to region line at) + concept_count (part_from region line (at + 1))
    ≡ concept_count region
unfolding concept_count
parts_count [] line at open_at low high = absurd (omega (arith, open_at.0))
parts_count (range ∷ region) zero at open_at low high = grind (arith, sum_times)
parts_count (range ∷ region) (suc line) at open_at low high =
    times_sum (range.hi + 1 - range.lo) _ _ _
    (parts_count region line at (omega (arith, open_at.0), open_at.1) low high)

pub lower_ordered : (region : List LineRange) (line at : ℕ) → AreOrdered region
    → (range_of region line).lo ≤ at → AreOrdered (part_up_to region line at)
lower_ordered [] line at ordered low = tt
lower_ordered (range ∷ region) zero at ordered low = (low, ordered.1)
lower_ordered (range ∷ region) (suc line) at ordered low =
    (ordered.0, lower_ordered region line at ordered.1 low)

pub upper_ordered : (region : List LineRange) (line at : ℕ) → AreOrdered region
    → at < (range_of region line).hi → AreOrdered (part_from region line (at + 1))
upper_ordered [] line at ordered high = tt
upper_ordered (range ∷ region) zero at ordered high = (omega (arith, high), ordered.1)
upper_ordered (range ∷ region) (suc line) at ordered high =
    (ordered.0, upper_ordered region line at ordered.1 high)

pub all_map : {X : Type 0} (P Q : X → Type 0) (xs : List X) → ((x : X) → P x → Q x) → AllByRecursion P xs
    → AllByRecursion Q xs
all_map P Q [] f all = tt
all_map P Q (x ∷ xs) f all = (f x all.0, all_map P Q xs f all.1)

-- the open lines of some lines, whose indexes go from one on
abbrev pub open_from : ℕ → List CostedLine → List LineRange → List (ℕ × CostedLine)
open_from n lines region =
    map (λ at. (at.0, at.1.0)) (filter (λ at. has_several at.1.1) (enumerate_from n (zip lines region)))

abbrev IsOpenFrom : ℕ → List LineRange → ℕ × CostedLine → Type 0
IsOpenFrom n region at = (n ≤ at.0) × IsOpenAt region (at.0 - n)

one_behind : (n : ℕ) (range : LineRange) (region : List LineRange) (at : ℕ × CostedLine)
    → IsOpenFrom (n + 1) region at → IsOpenFrom n (range ∷ region) at
one_behind n range region at h = grind arith

first_is_open : (n : ℕ) (range : LineRange) (region : List LineRange) → range.lo < range.hi
    → IsOpenAt (range ∷ region) (n - n)
first_is_open n range region several = let e : n - n ≡ zero = omega arith in rw e (omega arith, several)

all_open : (n : ℕ) (lines : List CostedLine) (region : List LineRange)
    → AllByRecursion (IsOpenFrom n region) (open_from n lines region)
all_open n [] region = tt
all_open n (line ∷ lines) [] = tt
all_open n (line ∷ lines) (range ∷ region) =
    grind (
      arith,
      all_map,
      one_behind,
      cases_Bool,
      first_is_open,
      ltb-true,
      all_open (n + 1) lines region,
    )

from_start : (region : List LineRange) (at : ℕ × CostedLine) → IsOpenFrom 0 region at → IsOpenAt region at.0
from_start region at h = let e : at.0 - 0 ≡ at.0 = omega arith in subst (IsOpenAt region) e h.1

first_index : (Q : ℕ → Type 0) (o : Option (ℕ × CostedLine)) → IfSome o (λ at. Q at.0)
    → IfSome (option_map (λ at. at.0) o) Q
first_index Q None h = tt
first_index Q (Some at) h = h

-- the first open line is open
pub first_open_is : (problem : ProblemParts) (region : List LineRange)
    → IfSome (first_open problem region) (IsOpenAt region)
first_open_is problem region = grind (arith, first_index, found_of, all_map, from_start, all_open)

-- what holds of each thing that may be said of a region holds of what is said
pub node_cases : (problem : ProblemParts) (region : List LineRange) (best : Option (List ℕ))
    (P : Node → Type 0) → ((e : ℕ) (s : Side) → P (node.Empty e s))
    → ((ms : List Multiplier) → P (node.Bound ms)) → P node.Point
    → ((line : ℕ) → IsOpenAt region line → P (node.Split line (middle (range_of region line))))
    → P (node_at problem region best)
node_cases problem region best P empty bound point split =
    elim (empty_edge problem region) as
    (λ e. P (unwrap_or (first_of (option_map (λ at. node.Empty at.0 at.1) e ∷ as_bound problem region best
    ∷ as_split problem region ∷ [])) node.Point)) [
      | Some at ↦ empty at.0 at.1
      | None ↦ elim best as (λ b. P
          (unwrap_or (first_of (as_bound problem region b ∷ as_split problem region ∷ [])) node.Point)) [
            | Some f ↦ elim (nat_le (cost_of problem f) (dual_bound problem region)) as
                (λ b. P (unwrap_or (first_of (cond b (Some (node.Bound (multipliers_of problem region))) None
                ∷ as_split problem region ∷ [])) node.Point)) [
                  | true ↦ bound _
                  | false ↦ last
                ]
            | None ↦ last
          ]
    ]
  where
    last : P (unwrap_or (first_of (as_split problem region ∷ [])) node.Point)
    last = elim (first_open problem region) as
        (λ o. IfSome o (λ line. P (node.Split line (middle (range_of region line))))
        → P (unwrap_or (first_of (option_map (λ line. node.Split line (middle (range_of region line))) o
        ∷ [])) node.Point)) [
          | Some line ↦ λ s. s
          | None ↦ λ _. point
        ] (IfSome_then (first_open problem region) {P = IsOpenAt region} (first_open_is problem region) split)

pub middle_inside : (lo hi : ℕ) → lo < hi → (lo ≤ (lo + hi) / 2) × ((lo + hi) / 2 < hi)
middle_inside lo hi h = (omega (arith, h), omega (arith, h))

-- how long the entries of ordered regions are, for some visit of the parts
abbrev IsShort : (List LineRange → Option (List ℕ) → List Entry) → Type 0
IsShort below = (region : List LineRange) (best : Option (List ℕ)) → AreOrdered region
    → length (below region best) + 1 ≤ 2 * concept_count region

split_short : (below : List LineRange → Option (List ℕ) → List Entry) → IsShort below
    → (region : List LineRange) (best : Option (List ℕ)) → AreOrdered region → (line : ℕ)
    → IsOpenAt region line
    → length (entries_by below region best (node.Split line (middle (range_of region line)))) + 1 ≤ 2
    * concept_count region
split_short below short region best ordered line is_open =
    grind (arith, middle_inside, length-append, parts_count, lower_ordered, upper_ordered)

-- no listing of a region is longer than twice its concepts, less one
pub listing_short : (problem : ProblemParts) (levels : ℕ) → IsShort (entries_within problem levels)
unfolding entries_within
listing_short problem zero region best ordered = omega (arith, some_count region ordered)
listing_short problem (suc levels) region best ordered =
    let some = some_count region ordered in
    node_cases problem region best (λ n. length (entries_by (entries_within problem levels) region best n) + 1
    ≤ 2 * concept_count region)
    (λ e s. omega (arith, some)) (λ ms. omega (arith, some)) (omega (arith, some))
    (split_short (entries_within problem levels) (listing_short problem levels) region best ordered)

pub root_ordered : (edges : List BoundedEdge) (lines : List CostedLine)
    → AreOrdered (map (λ line. record { lo = 0; hi = most_of edges line }) lines)
root_ordered edges [] = tt
root_ordered edges (line ∷ lines) = (omega arith, root_ordered edges lines)

-- the listing is no longer than twice the concepts of the root region, less one: so long a budget is never
-- spent
pub listing_bound : (problem : ProblemParts) → length (listing problem) + 1 ≤ 2 * concept_count
    (root_of problem)
unfolding listing
listing_bound problem = listing_short problem (levels_of (root_of problem)) (root_of problem) None
    (root_ordered problem.edges problem.lines)
