-- The least of some numbers, with one more at the end.
use Rattle.plan_num.proofs.Common.{◌≡◌, ℕ, ◌+◌, ◌<◌, min, List, [], ◌∷◌, ◌++◌, length, get_or, take}
use Rattle.plan_num.proofs.Common.{filter_map, slice_get, refl, ap, sym, ◌∙◌, Option, Some}
use Rattle.plan_num.proofs.Common.{option_map, reduce, cons_option, option_map_or, take_more}
use Rattle.plan_num.proofs.Common.{fold_push, filter_map-append}
use Rattle.line_cost_model.specs.declared.edge.BoundedEdge.{BoundedEdge}
use Rattle.line_cost_model.specs.Regions.{most_on}

pub reduce_push : (xs : List ℕ) (x : ℕ)
    → reduce min (xs ++ x ∷ []) ≡ Some (option_map_or (λ some. min some x) (reduce min xs) x)
reduce_push [] x = refl
reduce_push (y ∷ xs) x = ap Some (fold_push min y xs x)

-- one edge more
pub most_more : (all : List BoundedEdge) (edges : List ℕ) (i : ℕ) (least after : Option ℕ)
    (bounds : BoundedEdge) → i < length edges → slice_get all (get_or edges i 0) ≡ Some bounds
    → least ≡ reduce min (filter_map (most_on all) (take i edges))
    → after ≡ Some (option_map_or (λ some. min some bounds.most) least bounds.most)
    → after ≡ reduce min (filter_map (most_on all) (take (i + 1) edges))
most_more all edges i least after bounds h there so_far is =
    let some = filter_map (most_on all) (take i edges) in
    let shown : filter_map (most_on all) (take (i + 1) edges) ≡ some ++ bounds.most ∷ [] =
    ap (filter_map (most_on all)) (take_more edges i 0 h)
    ∙ filter_map-append (most_on all) (take i edges) (get_or edges i 0 ∷ [])
    ∙ ap (λ (at : Option BoundedEdge). some ++ cons_option (option_map (λ at. at.most) at) []) there in
    is ∙ ap (λ o. Some (option_map_or (λ some. min some bounds.most) o bounds.most)) so_far
    ∙ sym (reduce_push some bounds.most) ∙ sym (ap (reduce min) shown)
