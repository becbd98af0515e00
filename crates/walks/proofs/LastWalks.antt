-- The last edges of least walks, by walks and by what the code tests.
use Rattle.plan_num.proofs.Common.{◌≡◌, ◌≢◌, ℕ, zero, suc, ◌+◌, ◌<◌, ◌≤◌, true, List, [], ◌∷◌, ◌++◌}
use Rattle.plan_num.proofs.Common.{length, get_or, refl, ap, subst, sym, ◌∙◌, arith, Option, Some}
use Rattle.plan_num.proofs.Common.{None, option_map, option_and_then, inl, inr, All, Contains}
use Rattle.plan_num.proofs.Common.{eq-eqb, cases_eq, false≢true, length_push, get_or_default}
use Rattle.plan_num.proofs.Common.{All-contains, All-get_or, position-Some, slice_get-get_or}
use Rattle.plan_num.proofs.Common.{get_or_from_slice_get}
use Rattle.std.proofs.lemmas.List.{same_from_push}
use Rattle.walks.specs.declared.edge.Edge.{Edge}
use Rattle.walks.specs.Networks.{NetworkParts, IsEdge, IsNetwork}
use Rattle.walks.specs.Walks.{across, edge_length, walk_sum, least_sums, IsWalk, IsLeastSum, AreLeastSums}
use Rattle.walks.specs.Paths.{are_equal, ends_least, last_edge, stop_before, path_within, path, length_to, EndsLeastWalk, EndsFirst}
use Rattle.walks.proofs.PathEdges.{is_step}
use Rattle.walks.proofs.PathSteps.{no_edge, none_there, none_before, last_step}
use Rattle.walks.proofs.Walks as walks

-- ---- the last edge of a walk

-- where the last edge of a walk comes from: the walk without it ends there
pub record Splits (edges : List Edge) (from to : ℕ) (front : List Edge) (last : Edge) : Type 0 where
  pub stop : ℕ
  pub before : IsWalk edges from stop front
  pub there : Contains edges last
  pub over : across last stop ≡ Some to

pub splits : (edges : List Edge) (from to : ℕ) (front : List Edge) (last : Edge)
    → IsWalk edges from to (front ++ last ∷ []) → Splits edges from to front last
splits edges from to [] last walk =
    let b = walks.begins edges from to last [] walk in grind (arith, no_edge)
splits edges from to (first ∷ front) last walk =
    let b = walks.begins edges from to first (front ++ last ∷ []) walk in
    let s = splits edges b.next to front last b.on in
    record {
      stop = s.stop;
      before = walks.edge_first edges from b.next s.stop first front b.there b.over s.before;
      there = s.there;
      over = s.over;
    }

-- an edge leads back
pub across_back : (edge : Edge) (stop next : ℕ) → edge.left ≢ edge.right
    → across edge stop ≡ Some next → across edge next ≡ Some stop
across_back edge stop next apart over = grind arith

pub starts_within : (n : ℕ) (edge : Edge) (stop next : ℕ) → IsEdge n edge
    → across edge stop ≡ Some next → stop < n
starts_within n edge stop next sound over = grind arith

-- ---- an edge ends a least walk

module _ (edges : List Edge) (lengths : ℕ → Option ℕ) (n from : ℕ) (sound : All (IsEdge n) edges)
    (least : (to : ℕ) → to < n → IsLeastSum edges edge_length from to (lengths to)) where
  -- the last edge of a walk that is least passes the test
  pub passes : (at far : ℕ) (front : List Edge) (last : Edge) → lengths at ≡ Some far
      → ((other : List Edge) → IsWalk edges from at other → far ≤ walk_sum edge_length other)
      → walk_sum edge_length (front ++ last ∷ []) ≡ far → Splits edges from at front last
      → ends_least lengths at last ≡ true
  passes at far front last reached shortest whole e =
      let edge = All-contains (IsEdge n) edges last sound e.there in
      let within : e.stop < n = starts_within n last e.stop at edge e.over in
      elim (lengths e.stop) as (λ told. lengths e.stop ≡ told → ends_least lengths at last ≡ true) [
        | None ↦ λ none. grind arith
        | Some near ↦ λ came.
            let told = subst (IsLeastSum edges edge_length from e.stop) came
            (least e.stop within) in
            let on = walks.edge_last edges from e.stop at told.0.0 last told.0.1 e.there e.over in
            let longer = shortest (told.0.0 ++ last ∷ []) on in
            let pushed = walks.walk_sum-push edge_length told.0.0 last in
            let nearer = told.1 front e.before in
            let split = walks.walk_sum-push edge_length front last in
            let nearest = told.0.2 in
            let sum : far ≡ near + edge_length last = omega arith in
            ap (λ length. are_equal length (option_map (λ before. before + edge_length last)
            (option_and_then lengths (across last at)))) reached
            ∙ ap (λ over. are_equal (Some far) (option_map (λ before. before + edge_length last)
            (option_and_then lengths over)))
            (across_back last e.stop at edge.apart e.over)
            ∙ ap (λ before. are_equal (Some far) (option_map
            (λ before. before + edge_length last) before)) came
            ∙ eq-eqb far (near + edge_length last) sum
      ] refl

-- ---- the test of the code means what is said of walks

module _ (network : NetworkParts) (from : ℕ) (sound : IsNetwork network)
    (least : AreLeastSums network edge_length from (least_sums network edge_length from)) where
  abbrev lengths : ℕ → Option ℕ
  lengths = length_to (least_sums network edge_length from)

  -- an edge that passes ends a least walk
  ends_by_test : (to index : ℕ) → to < length network.stops → index < length network.edges
      → ends_least lengths to (get_or network.edges index no_edge) ≡ true
      → EndsLeastWalk network from to index
  ends_by_test to index within here test =
      let edge = get_or network.edges index no_edge in
      let own = All-get_or (IsEdge (length network.stops)) network.edges index no_edge here
      sound.edges in
      let step = is_step lengths to edge test in
      let over = across_back edge to step.before own.apart step.goes in
      let behind = starts_within (length network.stops) edge step.before to own over in
      let near = subst (IsLeastSum network.edges edge_length from step.before) step.came
      (least step.before behind) in
      let far = subst (IsLeastSum network.edges edge_length from to) step.reached
      (least to within) in
      let there : Contains network.edges edge =
      (index, here, get_or_default network.edges index edge no_edge here) in
      let sums = walks.walk_sum-push edge_length near.0.0 edge in
      let added = step.added in
      let nearest = near.0.2 in
      record {
        front = near.0.0;
        last = edge;
        is = slice_get-get_or network.edges index no_edge here;
        joins = walks.edge_last network.edges from step.before to near.0.0 edge near.0.1 there over;
        least = λ walk on. let longer = far.1 walk on in omega arith;
      }

  -- an edge that ends a least walk passes
  test_by_ends : (to index : ℕ) → to < length network.stops
      → (e : EndsLeastWalk network from to index)
      → ends_least lengths to (get_or network.edges index no_edge) ≡ true
  test_by_ends to index within e =
      let edge = get_or_from_slice_get network.edges index e.last no_edge e.is in
      subst (λ (some : Edge). ends_least lengths to some ≡ true) (sym edge)
      (elim (lengths to) as (λ told. lengths to ≡ told → ends_least lengths to e.last ≡ true) [
        | None ↦ λ none. grind arith
        | Some far ↦ λ reached.
            let told = subst (IsLeastSum network.edges edge_length from to) reached
            (least to within) in
            let most = e.least told.0.0 told.0.1 in
            let longer = told.1 (e.front ++ e.last ∷ []) e.joins in
            let sums = told.0.2 in
            passes network.edges lengths (length network.stops) from sound.edges least to far
            e.front e.last reached told.1 (omega arith)
            (splits network.edges from to e.front e.last e.joins)
      ] refl)

  -- the last edge of a path is the first that ends a least walk
  first_last : (to index : ℕ) → to < length network.stops
      → last_edge network.edges lengths to ≡ Some index
      → EndsLeastWalk network from to index × ((other : ℕ) → other < index
      → EndsLeastWalk network from to other → ⊥)
  first_last to index within is =
      let p = position-Some (ends_least lengths to) network.edges index no_edge is in (
        ends_by_test to index within p.0 p.1,
        λ other lesser e. false≢true (sym (p.2 other lesser) ∙ test_by_ends to other within e),
      )

  none_in : (front : List ℕ) (index : ℕ) → [] ≡ front ++ index ∷ [] → ⊥
  none_in front index e = let sizes : 0 ≡ length (front ++ index ∷ []) =
      ap length e in absurd (omega (arith, length_push front index))

  within_ends : (more to : ℕ) → to < length network.stops
      → EndsFirst network from to (path_within network.edges lengths more from to)
  unfolding path_within
  within_ends zero to within front index e = absurd (none_in front index e)
  within_ends (suc more) to within front index e =
      elim (cases_eq to from) [
        | inl same ↦ grind (arith, none_in, none_there)
        | inr apart ↦
            elim (last_edge network.edges lengths to) as
            (λ last. last_edge network.edges lengths to ≡ last
            → EndsLeastWalk network from to index × ((other : ℕ) → other < index
            → EndsLeastWalk network from to other → ⊥)) [
              | None ↦ λ is. grind (arith, none_in, none_before)
              | Some last ↦ λ is.
                  let before = path_within network.edges lengths more from
                  (stop_before network.edges last to) in
                  let same = same_from_push before front last index
                  (sym (last_step network.edges lengths from more to last apart is) ∙ e) in
                  first_last to index within (is ∙ ap Some same.1)
            ] refl
      ]

  pub path_ends : (to : ℕ) → to < length network.stops
      → EndsFirst network from to (path network from to)
  path_ends to within = within_ends (length network.stops) to within
