-- The canonical potentials of a plan as a value: by rounds over all arcs of its residual graph.
use Rattle.std.specs.Prelude.{ℕ, ℤ, zero, suc, pos, negsuc, ◌+◌, ◌*◌, ◌==◌, ◌-ℤ◌, max}
use Rattle.std.specs.Prelude.{if◌then◌else◌, List, map, fold, replicate, unsigned_abs, Option, Some}
use Rattle.std.specs.Prelude.{None}
use Rattle.std.specs.List.{range_with_len}
use Rattle.link_plans.specs.Links.{Links}
use Rattle.link_plans.specs.Plans.{plan_gain}
use Rattle.canonical_potentials.specs.Drops.{DropParts, drop_at, depth, potentials_by}
use Rattle.link_plans.specs.Potentials.{PotentialParts}
use Rattle.canonical_potentials.specs.Residual.{Node, root, left, right, arc}

-- a number that is not below 0, or else 0
abbrev pub not_below : ℤ → ℕ
not_below (pos n) = n
not_below (negsuc n) = 0

-- how far below 0 a walk goes that goes on over an arc
abbrev pub over_arc : ℕ → Option ℤ → ℕ
over_arc number None = 0
over_arc number (Some cost) = not_below (pos number -ℤ cost)

-- how far a walk goes that was found for a node, and goes on to another one
abbrev pub over : Links → List (Option ℕ) → DropParts → Node → Node → ℕ
over links plan drops to from = over_arc (drop_at drops from) (arc links plan from to)

-- the greatest of a number and of what so many numbers have
abbrev pub greatest : (ℕ → ℕ) → ℕ → ℕ → ℕ
greatest value most count = fold (λ most k. max most (value k)) most (range_with_len 0 count)

-- the furthest walk to a node: one that was found for it, or that goes on to it
abbrev pub furthest : Links → List (Option ℕ) → DropParts → Node → ℕ
furthest links plan drops to =
    greatest (λ j. over links plan drops to (right j))
    (greatest (λ i. over links plan drops to (left i))
    (max (drop_at drops to) (over links plan drops to root)) links.count)
    links.count

-- a round over all arcs
abbrev pub round : Links → List (Option ℕ) → DropParts → DropParts
round links plan drops = record {
  root = furthest links plan drops root;
  left = map (λ i. furthest links plan drops (left i)) (range_with_len 0 links.count);
  right = map (λ j. furthest links plan drops (right j)) (range_with_len 0 links.count);
}

-- rounds until nothing changes, of so many at most
unfoldable pub settled : Links → List (Option ℕ) → ℕ → DropParts → DropParts
settled links plan zero drops = drops
settled links plan (suc more) drops =
    if depth (round links plan drops) == depth drops then drops
    else settled links plan more (round links plan drops)

-- walks without an arc
abbrev pub no_drops : ℕ → DropParts
no_drops count = record { root = 0; left = replicate count 0; right = replicate count 0 }

-- the canonical potentials of a cheapest plan: no walk goes further below 0 than the plan gains, so that
-- there are rounds enough
unfoldable pub canonical : Links → List (Option ℕ) → PotentialParts
canonical links plan = potentials_by (settled links plan
    (suc ((2 * links.count + 1) * unsigned_abs (plan_gain links plan))) (no_drops links.count))
