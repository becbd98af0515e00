-- What holds of the labels of a network while the nearest stop is settled again and again.
use Rattle.plan_num.proofs.Common.{◌≡◌, ℕ, ◌+◌, ◌-◌, ◌*◌, ◌<◌, ◌≤◌, List, [], ◌∷◌, ◌++◌, length}
use Rattle.plan_num.proofs.Common.{map, sum, fold, set, refl, ap, sym, subst, ◌∙◌, Option, Some}
use Rattle.plan_num.proofs.Common.{None, IfSome, All, Contains, inl, inr, arith, cases_lt, ints}
use Rattle.plan_num.proofs.Common.{length-set, length_push, get_or_past, All-map, All-weaker}
use Rattle.plan_num.proofs.Common.{All-contains, All-from_get_or, sum_by-set, count_by-le-length}
use Rattle.walks.specs.declared.edge.Edge.{Edge}
use Rattle.walks.specs.declared.label.Label.{Label}
use Rattle.walks.specs.declared.label.Label.TheVariants.{Unseen, Reached, Settled}
use Rattle.walks.specs.declared.weight.Weight.{Weight}
use Rattle.walks.specs.declared.weight.Weight.TheVariants as kind
use Rattle.walks.specs.Networks.{NetworkParts, IsEdge, IsNetwork}
use Rattle.walks.specs.Walks.{across, IsWalk, walk_sum, IsLeastSum, walks_within, least_sum}
use Rattle.walks.specs.Labels.{weight_of, most_of, most_sum, sum_of, label_at, reach_over, IsNearest, AreDone, WentOn}
use Rattle.plan_num.proofs.Members.{Contains-map}
use Rattle.walks.proofs.Walks.{IsUpTo, begins, edge_last, walk_sum-cons, walk_sum-push, walk_sum-small, within_all, within_there, least_of_is}
use Rattle.walks.proofs.Settling.{some_same, settled_same, sum_cases, reached_cases, settled_before, lowers, SettledUpTo, settled_up_to, at_set, is_settled, settled_count, over, over_size, over_count, keeps, meets}

-- a walk of at most so many edges that has a sum
pub record Comes (edges : List Edge) (weight : Edge → ℕ) (from to most sum : ℕ) : Type 0 where
  pub walk : List Edge
  pub is : IsWalk edges from to walk
  pub sums : walk_sum weight walk ≡ sum
  pub short : length walk ≤ most

-- a walk has each sum; no settled stop is farther than one that is not; and from settled stops the
-- walks went on
pub record ArePartway (edges : List Edge) (weight : Edge → ℕ) (from stops : ℕ)
    (labels : List Label) : Type 0 where
  pub size : length labels ≡ stops
  pub comes : (to sum : ℕ) → sum_of (label_at labels to) ≡ Some sum
      → Comes edges weight from to (settled_count labels) sum
  pub begun : IsUpTo 0 (sum_of (label_at labels from))
  pub ordered : (near far least sum : ℕ) → label_at labels near ≡ Settled least
      → label_at labels far ≡ Reached sum → least ≤ sum
  pub closed : (stop sum next : ℕ) (edge : Edge) → label_at labels stop ≡ Settled sum
      → Contains edges edge → across edge stop ≡ Some next
      → IsUpTo (sum + weight edge) (sum_of (label_at labels next))

-- ends of edges are stops
pub ends_within : (stops : ℕ) (edge : Edge) (stop next : ℕ) → IsEdge stops edge
    → across edge stop ≡ Some next → next < stops
ends_within stops edge stop next is over = grind (arith, over, some_same)

-- ---- a stop more

-- the nearest stop is settled, and the walk to it goes on over edges in some order, each edge that
-- can be driven from it among them
module _ (edges : List Edge) (weight : Edge → ℕ) (from stops : ℕ) (labels : List Label)
    (stop sum : ℕ) (sound : All (IsEdge stops) edges)
    (so_far : ArePartway edges weight from stops labels)
    (nearest : IsNearest labels (length labels) stop sum)
    (order : List Edge) (among : (edge : Edge) → Contains order edge → Contains edges edge)
    (each : (edge : Edge) (next : ℕ) → Contains edges edge → across edge stop ≡ Some next
    → Contains order edge) where
  abbrev own : List Label
  own = set labels stop (Settled sum)

  abbrev after : List Label
  after = fold (reach_over weight stop sum) own order

  size_after : length after ≡ stops
  size_after = over_size weight stop sum own order ∙ length-set labels stop (Settled sum)
      ∙ so_far.size

  pub count_after : settled_count after ≡ settled_count labels + 1
  count_after = grind (arith, is_settled, sum_by-set, over_count)

  weaker : (to most other : ℕ) → Comes edges weight from to most other → most ≤ settled_count after
      → Comes edges weight from to (settled_count after) other
  weaker to most other comes le = grind arith

  to_stop : Comes edges weight from stop (settled_count labels) sum
  to_stop = so_far.comes stop sum (ap sum_of nearest.there)

  goes_on : (edge : Edge) (to : ℕ) → Contains edges edge → across edge stop ≡ Some to
      → Comes edges weight from to (settled_count after) (sum + weight edge)
  goes_on edge to there over = record {
    walk = to_stop.walk ++ edge ∷ [];
    is = edge_last edges from stop to to_stop.walk edge to_stop.is there over;
    sums = walk_sum-push weight to_stop.walk edge ∙ ap (λ n. n + weight edge) to_stop.sums;
    short = omega (arith, length_push to_stop.walk edge, count_after, to_stop.short);
  }

  comes_after : (to least : ℕ) → sum_of (label_at after to) ≡ Some least
      → Comes edges weight from to (settled_count after) least
  comes_after to least is =
      let Holds : Label → Type 0 = λ label. (least : ℕ) → sum_of label ≡ Some least
      → Comes edges weight from to (settled_count after) least in
      keeps weight stop sum Holds to own order
      (λ edge there over label before least is. elim (sum_cases
      (sum + weight edge) least label is) as (λ h. Comes edges weight from to
      (settled_count after) least) [
        | inl h ↦ grind (arith, settled_count, goes_on, over)
        | inr h ↦ before least h
      ])
      (at_set Holds labels stop (Settled sum) to nearest.early
      (λ same least is. subst (λ some. Comes edges weight from some (settled_count after) least)
      (sym same) (subst (Comes edges weight from stop (settled_count after))
      (some_same sum least is) (weaker stop (settled_count labels) sum to_stop
      (omega (arith, count_after)))))
      (λ apart least is. weaker to (settled_count labels) least (so_far.comes to least is)
      (omega (arith, count_after))))
      least is

  -- a sum that a label does not exceed, it does not exceed after
  up_to_after : (to number : ℕ) → IsUpTo number (sum_of (label_at labels to))
      → IsUpTo number (sum_of (label_at after to))
  up_to_after to number before =
      let Holds : Label → Type 0 = λ label. IsUpTo number (sum_of label) in
      keeps weight stop sum Holds to own order (λ edge there over label h. lowers
      (sum + weight edge) number label h)
      (at_set Holds labels stop (Settled sum) to nearest.early
      (λ same. subst Holds (ap (label_at labels) same ∙ nearest.there) before)
      (λ apart. before))

  -- a stop that is settled after was settled before, or is the one that was settled now
  settled_after : (other least : ℕ) → label_at after other ≡ Settled least
      → (label_at own other ≡ Settled least)
  settled_after other least is =
      keeps weight stop sum (λ label. (least : ℕ) → label ≡ Settled least
      → label_at own other ≡ Settled least) other own order
      (λ edge there over label before least is. before least
      (settled_before (sum + weight edge) least label is)) (λ least is. is) least is

  -- it is not farther than the one that was settled now
  near_after : (other least : ℕ) → label_at after other ≡ Settled least → least ≤ sum
  near_after other least is =
      at_set (λ label. (least : ℕ) → label ≡ Settled least → least ≤ sum) labels stop
      (Settled sum) other nearest.early
      (λ same least is. omega (arith, settled_same sum least is))
      (λ apart least is. so_far.ordered other stop least sum is nearest.there)
      least (settled_after other least is)

  within : (other far : ℕ) → label_at labels other ≡ Reached far → other < length labels
  within other far is = grind (arith, cases_lt, get_or_past)

  far_after : (other far : ℕ) → label_at after other ≡ Reached far → sum ≤ far
  far_after other far is =
      let Holds : Label → Type 0 = λ label. (far : ℕ) → label ≡ Reached far → sum ≤ far in
      keeps weight stop sum Holds other own order
      (λ edge there over label before far is. elim (reached_cases
      (sum + weight edge) far label is) as (λ h. sum ≤ far) [
        | inl h ↦ omega arith
        | inr h ↦ before far h
      ])
      (at_set Holds labels stop (Settled sum) other nearest.early (λ same far is. cc)
      (λ apart far is. nearest.least other far (within other far is) is))
      far is

  closed_after : (other least next : ℕ) (edge : Edge) → label_at after other ≡ Settled least
      → Contains edges edge → across edge other ≡ Some next
      → IsUpTo (least + weight edge) (sum_of (label_at after next))
  closed_after other least next edge is there over =
      at_set (λ label. label ≡ Settled least
      → IsUpTo (least + weight edge) (sum_of (label_at after next))) labels stop
      (Settled sum) other nearest.early
      (λ same is.
      subst (λ n. IsUpTo (n + weight edge) (sum_of (label_at after next)))
      (settled_same sum least is)
      (meets weight stop sum own order edge next
      (omega (
        arith,
        length-set labels stop (Settled sum),
        so_far.size,
        ends_within stops edge other next (All-contains (IsEdge stops) edges edge sound there)
            over,
      ))
      (each edge next there (subst (λ some. across edge some ≡ Some next) same over))
      (subst (λ some. across edge some ≡ Some next) same over) (settled_up next)))
      (λ apart is. up_to_after next (least + weight edge)
      (so_far.closed other least next edge is there over))
      (settled_after other least is)
    where
      settled_up : (next : ℕ) → SettledUpTo sum (label_at own next)
      settled_up next =
          at_set (SettledUpTo sum) labels stop (Settled sum) next nearest.early
          (λ same. omega arith)
          (λ apart. settled_up_to sum (label_at labels next)
          (λ least is. so_far.ordered next stop least sum is nearest.there))

  pub partway_after : ArePartway edges weight from stops after
  partway_after =
      grind (arith, size_after, comes_after, up_to_after, near_after, far_after, closed_after)

-- how many stops are left
abbrev pub left_count : List Label → ℕ
left_count labels = length labels - settled_count labels

-- one round: what holds stays, and one stop less is left
pub round_more : (network : NetworkParts) (weight : Edge → ℕ) (from : ℕ)
    (labels settled after : List Label) (stop sum : ℕ) → IsNetwork network
    → ArePartway network.edges weight from (length network.stops) labels
    → IsNearest labels (length labels) stop sum
    → settled ≡ set labels stop (Settled sum) → WentOn weight network.edges stop sum settled after
    → (ArePartway network.edges weight from (length network.stops) after)
    × (left_count after < left_count labels)
round_more network weight from labels settled after stop sum sound so_far nearest own on =
    let size = length network.stops in
    let after_is : after ≡ fold (reach_over weight stop sum)
    (set labels stop (Settled sum)) on.order =
    on.is ∙ ap (λ some. fold (reach_over weight stop sum) some on.order) own in
    let holds = partway_after network.edges weight from size labels stop sum sound.edges so_far
    nearest on.order on.own on.all in
    let more = count_after network.edges weight from size labels stop sum sound.edges so_far nearest
    on.order on.own on.all in
    let now = subst (ArePartway network.edges weight from size) (sym after_is) holds in
    let count : settled_count after ≡ settled_count labels + 1 = ap settled_count after_is ∙ more in
    (now, omega (arith, count, now.size, so_far.size, count_by-le-length is_settled after))

-- ---- the last labels

-- what an edge counts is not much
weight_small : (weight : Weight) (stops : ℕ) (edge : Edge) → IsEdge stops edge
    → weight_of weight edge ≤ most_of weight
weight_small kind.Length stops edge is = omega (arith, ints, is.some_length, is.short)
weight_small kind.Time stops edge is = omega (arith, ints, is.some_time, is.in_order, is.soon)

walk_small : (weight : Weight) (count : ℕ) → count ≤ 1000 → most_of weight * count ≤ most_sum weight
walk_small kind.Length count few = omega arith
walk_small kind.Time count few = omega arith

pub most_small : (weight : Weight) → most_sum weight ≤ 10000000000000
most_small kind.Length = omega arith
most_small kind.Time = omega arith

small_if_some : (most : ℕ) (some : Option ℕ) → ((sum : ℕ) → some ≡ Some sum → sum ≤ most)
    → IfSome some (λ sum. sum ≤ most)
small_if_some most None h = tt
small_if_some most (Some sum) h = h sum refl

module _ (network : NetworkParts) (weight : Weight) (from : ℕ) (labels : List Label)
    (sound : IsNetwork network) (so_far : ArePartway network.edges (weight_of weight) from
    (length network.stops) labels) where
  few_settled : settled_count labels ≤ length network.stops
  few_settled = omega (arith, count_by-le-length is_settled labels, so_far.size)

  -- sums of labels are not large
  sum_small : (to sum : ℕ) → sum_of (label_at labels to) ≡ Some sum → sum ≤ most_sum weight
  sum_small to sum is =
      let comes = so_far.comes to sum is in
      let small = All-weaker (IsEdge (length network.stops))
      (λ edge. weight_of weight edge ≤ most_of weight)
      (weight_small weight (length network.stops)) network.edges sound.edges in
      let in_walk : walk_sum (weight_of weight) comes.walk ≤ most_of weight * length comes.walk =
      walk_sum-small (weight_of weight) network.edges
      (most_of weight) comes.walk small comes.is.there in
      let few : length comes.walk ≤ 1000 =
      omega (arith, comes.short, few_settled, sound.few_stops) in
      omega (arith, in_walk, walk_small weight (length comes.walk) few, comes.sums)

  pub sum_fits : (to sum : ℕ) → sum_of (label_at labels to) ≡ Some sum → sum ≤ 10000000000000
  sum_fits to sum is = omega (arith, sum_small to sum is, most_small weight)

  sums_small : All (λ label. IfSome (sum_of label) (λ sum. sum ≤ most_sum weight)) labels
  sums_small =
      All-from_get_or (λ label. IfSome (sum_of label) (λ sum. sum ≤ most_sum weight)) labels Unseen
      (λ to within. small_if_some (most_sum weight) (sum_of (label_at labels to)) (sum_small to))

  module _ (none : (other far : ℕ) → other < length labels → label_at labels other ≡ Reached far
      → ⊥) where
    -- a label whose sum is not above a number is settled, with such a sum
    settled_now : (stop number : ℕ) → IsUpTo number (sum_of (label_at labels stop))
        → (least : ℕ) × (label_at labels stop ≡ Settled least) × (least ≤ number)
    settled_now stop number up_to = grind (arith, IsUpTo, cases_lt, get_or_past)

    weaker_up : (small large : ℕ) (o : Option ℕ) → small ≤ large → IsUpTo small o → IsUpTo large o
    weaker_up small large None le h = h
    weaker_up small large (Some least) le h = omega arith

    -- no walk that goes on from a stop has a lesser sum than the label of its end
    below_walks : (walk : List Edge) (stop to number : ℕ)
        → IsUpTo number (sum_of (label_at labels stop)) → IsWalk network.edges stop to walk
        → IsUpTo (number + walk_sum (weight_of weight) walk) (sum_of (label_at labels to))
    below_walks [] stop to number up_to is = grind arith
    below_walks (edge ∷ walk) stop to number up_to is =
        let start = begins network.edges stop to edge walk is in
        let settled = settled_now stop number up_to in
        let next = so_far.closed stop settled.0 start.next edge settled.1 start.there start.over in
        let rest = below_walks walk start.next to
        (settled.0 + weight_of weight edge) next start.on in
        weaker_up (settled.0 + weight_of weight edge + walk_sum (weight_of weight) walk)
        (number + walk_sum (weight_of weight) (edge ∷ walk)) (sum_of (label_at labels to))
        (omega (arith, settled.2, walk_sum-cons (weight_of weight) edge walk)) rest

    below_all : (to : ℕ) (walk : List Edge) → IsWalk network.edges from to walk
        → IsUpTo (walk_sum (weight_of weight) walk) (sum_of (label_at labels to))
    below_all to walk is = weaker_up (0 + walk_sum (weight_of weight) walk)
        (walk_sum (weight_of weight) walk) (sum_of (label_at labels to)) (omega arith)
        (below_walks walk from to 0 so_far.begun is)

    least_now : (to : ℕ) → IsLeastSum network.edges (weight_of weight) from to
        (sum_of (label_at labels to))
    least_now to = grind (arith, IsUpTo, below_all)

    same_now : (to : ℕ) → sum_of (label_at labels to) ≡ least_sum network (weight_of weight) from to
    unfolding least_sum
    same_now to =
        let walks = walks_within network.edges (length network.stops) from to in
        let sums = map (walk_sum (weight_of weight)) walks in
        let now = sum_of (label_at labels to) in
        least_of_is sums now
        (All-map (λ number. IsUpTo number now) (walk_sum (weight_of weight)) walks
        (All-weaker (IsWalk network.edges from to) (λ walk. IsUpTo
        (walk_sum (weight_of weight) walk) now) (below_all to) walks
        (within_all network.edges (length network.stops) from to)))
        (λ number is.
        let comes = so_far.comes to number is in
        subst (Contains sums) comes.sums
        (Contains-map (walk_sum (weight_of weight)) walks comes.walk
        (within_there network.edges (length network.stops) from to comes.walk
        (omega (arith, comes.short, few_settled)) comes.is)))

    -- where no stop is reached that is not settled
    pub partway_all : AreDone network weight from labels
    partway_all = grind (arith, least_now, same_now, sums_small)
