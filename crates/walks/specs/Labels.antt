-- Labels of stops, while the nearest stop that is reached is settled, again and again.
use Rattle.std.specs.Prelude.{ℕ, ◌+◌, ◌<◌, ◌≤◌, ◌≡◌, ◌≢◌, ◌==◌, min, nat_lt, Bool, true, false, Contains, List, length, fold, slice_index_or, slice_set, Option, Some, None, MatchOption, IfSome, All}
use Rattle.walks.specs.declared.edge.Edge.{Edge}
use Rattle.walks.specs.declared.label.Label.{Label}
use Rattle.walks.specs.declared.label.Label.TheVariants.{Unseen, Reached, Settled}
use Rattle.walks.specs.declared.weight.Weight.{Weight}
use Rattle.walks.specs.declared.weight.Weight.TheVariants as kind
use Rattle.walks.specs.Networks.{NetworkParts}
use Rattle.walks.specs.Walks.{across, edge_length, edge_time, IsLeastSum, least_sum}

-- what an edge counts
abbrev pub weight_of : Weight → Edge → ℕ
weight_of kind.Length = edge_length
weight_of kind.Time = edge_time

-- the most that an edge counts, and what no least sum exceeds: it has no more edges than there are
-- stops
abbrev pub most_of : Weight → ℕ
most_of kind.Length = 10000000000
most_of kind.Time = 10000

abbrev pub most_sum : Weight → ℕ
most_sum kind.Length = 10000000000000
most_sum kind.Time = 10000000

-- the sum of a label
abbrev pub sum_of : Label → Option ℕ
sum_of Unseen = None
sum_of (Reached sum) = Some sum
sum_of (Settled sum) = Some sum

-- the label of a stop
abbrev pub label_at : List Label → ℕ → Label
label_at labels stop = slice_index_or labels stop Unseen

-- a sum is less than that of a label of a stop that is not settled
abbrev pub is_nearer : ℕ → Label → Bool
is_nearer sum Unseen = true
is_nearer sum (Reached other) = nat_lt sum other
is_nearer sum (Settled other) = false

-- it is that of such a label
abbrev pub is_reached_with : ℕ → Label → Bool
is_reached_with sum Unseen = false
is_reached_with sum (Reached other) = other == sum
is_reached_with sum (Settled other) = false

-- a label, where one more walk comes to its stop
abbrev pub reached : ℕ → Label → Label
reached sum Unseen = Reached sum
reached sum (Reached other) = Reached (min sum other)
reached sum (Settled other) = Settled other

-- labels, where one more walk comes to a stop
abbrev pub reach : ℕ → List Label → Option ℕ → List Label
reach sum labels None = labels
reach sum labels (Some next) = slice_set labels next (reached sum (label_at labels next))

-- labels, where a walk to a stop goes on over an edge
abbrev pub reach_over : (Edge → ℕ) → ℕ → ℕ → List Label → Edge → List Label
reach_over weight stop sum labels edge = reach (sum + weight edge) labels (across edge stop)

-- labels, where the walk to a stop went on over each edge that can be driven from there, in some
-- order
pub record WentOn (weight : Edge → ℕ) (edges : List Edge) (stop sum : ℕ)
    (old new : List Label) : Type 0 where
  pub order : List Edge
  pub own : (edge : Edge) → Contains order edge → Contains edges edge
  pub all : (edge : Edge) (next : ℕ) → Contains edges edge → across edge stop ≡ Some next
      → Contains order edge
  pub is : new ≡ fold (reach_over weight stop sum) old order

-- a stop that is reached and not settled, of least sum among the first labels
pub record IsNearest (labels : List Label) (count stop sum : ℕ) : Type 0 where
  pub early : stop < count
  pub there : label_at labels stop ≡ Reached sum
  pub least : (other far : ℕ) → other < count → label_at labels other ≡ Reached far → sum ≤ far

-- the nearest stop of the first labels, or none where none of these is reached and not settled
abbrev pub IsNearestOf : List Label → ℕ → Option (ℕ × ℕ) → Type 0
IsNearestOf labels count best = MatchOption best
    ((other far : ℕ) → other < count → label_at labels other ≢ Reached far)
    (λ near. IsNearest labels count near.0 near.1)

-- walks that go on, each with its sum and its stop: of each stop that is reached and not settled
-- its nearest walk is there
pub record GoesOn (labels : List Label) (walks : List (ℕ × ℕ)) : Type 0 where
  pub within : All (λ walk. walk.1 < length labels) walks
  pub reached : (stop sum : ℕ) → label_at labels stop ≡ Reached sum → Contains walks (sum, stop)

-- labels that have the least sums of walks from a stop
pub record AreDone (network : NetworkParts) (weight : Weight) (from : ℕ)
    (labels : List Label) : Type 0 where
  pub size : length labels ≡ length network.stops
  pub least : (to : ℕ) → IsLeastSum network.edges (weight_of weight) from to
      (sum_of (label_at labels to))
  pub same : (to : ℕ) → sum_of (label_at labels to) ≡ least_sum network (weight_of weight) from to
  pub small : All (λ label. IfSome (sum_of label) (λ sum. sum ≤ most_sum weight)) labels
