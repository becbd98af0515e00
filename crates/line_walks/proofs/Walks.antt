-- Walks over edges, edge by edge.
use Rattle.plan_num.proofs.Common.{arith, ◌≡◌, ℕ, ◌+◌, ◌<◌, ◌≤◌, ◌||◌, List, [], ◌∷◌, ◌++◌, length}
use Rattle.plan_num.proofs.Common.{get_or, drop, fold, refl, ap, sym, ◌∙◌, Option, Some, None}
use Rattle.plan_num.proofs.Common.{option_map, is_some, option_and_then, append_assoc, at_drop_more}
use Rattle.plan_num.proofs.Common.{at_drop_all, fold_push}
use Rattle.std.proofs.lemmas.List.Folds.{fold_stays}
use Rattle.walks.specs.declared.edge.Edge.{Edge}
use Rattle.walks.proofs.Common.{across, end_from}
use Rattle.line_walks.specs.Pools.{walk_from, or_walk, walk_of}
use Rattle.line_walks.specs.LinesSoFar.{ends_of, next_ends}

-- ---- the stops of a walk

joined_onto : (front : List ℕ) (stop : ℕ) (walk : Option (List ℕ))
    → option_map (λ more. front ++ more) (option_map (λ stops. stop ∷ stops) walk)
    ≡ option_map (λ more. (front ++ stop ∷ []) ++ more) walk
joined_onto front stop None = refl
joined_onto front stop (Some stops) = ap Some (sym (append_assoc front (stop ∷ []) stops))

-- the walk goes on over an edge
pub walk_goes_on : (edges : List Edge) (i : ℕ) (d : Edge) (front : List ℕ) (stop next : ℕ)
    (whole : Option (List ℕ)) → i < length edges → across (get_or edges i d) stop ≡ Some next
    → option_map (λ more. front ++ more) (walk_from stop (drop i edges)) ≡ whole
    → option_map (λ more. (front ++ stop ∷ []) ++ more) (walk_from next (drop (i + 1) edges))
    ≡ whole
unfolding walk_from
walk_goes_on edges i d front stop next whole h goes so_far =
    sym (joined_onto front stop (walk_from next (drop (i + 1) edges)))
    ∙ sym (ap (λ to. option_map (λ more. front ++ more)
    (option_and_then (λ next. option_map (λ stops. stop ∷ stops)
    (walk_from next (drop (i + 1) edges))) to)) goes)
    ∙ sym (at_drop_more (λ rest. option_map (λ more. front ++ more) (walk_from stop rest)) edges i d h)
    ∙ so_far

-- the walk ends before an edge
pub walk_stops : (edges : List Edge) (i : ℕ) (d : Edge) (front : List ℕ) (stop : ℕ)
    (whole : Option (List ℕ)) → i < length edges → across (get_or edges i d) stop ≡ None
    → option_map (λ more. front ++ more) (walk_from stop (drop i edges)) ≡ whole → None ≡ whole
unfolding walk_from
walk_stops edges i d front stop whole h ends so_far =
    sym (ap (λ to. option_map (λ more. front ++ more)
    (option_and_then (λ next. option_map (λ stops. stop ∷ stops)
    (walk_from next (drop (i + 1) edges))) to)) ends)
    ∙ sym (at_drop_more (λ rest. option_map (λ more. front ++ more) (walk_from stop rest)) edges i d h)
    ∙ so_far

-- the walk is done
pub walk_done : (edges : List Edge) (i : ℕ) (front : List ℕ) (stop : ℕ) (whole : Option (List ℕ))
    → length edges ≤ i → option_map (λ more. front ++ more) (walk_from stop (drop i edges)) ≡ whole
    → Some (front ++ stop ∷ []) ≡ whole
unfolding walk_from
walk_done edges i front stop whole h so_far = sym
    (at_drop_all (λ rest. option_map (λ more. front ++ more) (walk_from stop rest)) edges i h)
    ∙ so_far

-- ---- where a walk ends

no_end : (edges : List Edge) → fold (λ end edge. option_and_then (across edge) end) None edges ≡ None
no_end edges = fold_stays (λ end edge. option_and_then (across edge) end) None (λ _. refl) edges

some_mapped : (stop : ℕ) (walk : Option (List ℕ)) → is_some (option_map (λ stops. stop ∷ stops) walk) ≡ is_some walk
some_mapped stop None = refl
some_mapped stop (Some stops) = refl

-- there is a walk where there is an end of it
walk_has_end : (stop : ℕ) (edges : List Edge) → is_some (walk_from stop edges) ≡ is_some (end_from stop edges)
unfolding walk_from
walk_has_end stop [] = refl
walk_has_end stop (edge ∷ edges) =
    elim (across edge stop) as (λ to. is_some
    (option_and_then (λ next. option_map (λ stops. stop ∷ stops) (walk_from next edges)) to)
    ≡ is_some (fold (λ end edge. option_and_then (across edge) end) to edges)) [
      | None ↦ sym (ap is_some (no_end edges))
      | Some next ↦ some_mapped stop (walk_from next edges) ∙ walk_has_end next edges
    ]

some_or : (left right : Option (List ℕ)) → is_some (or_walk left right) ≡ (is_some left || is_some right)
some_or None right = refl
some_or (Some stops) right = refl

-- the ends after one edge more
pub ends_more : (edges : List Edge) (edge : Edge) → next_ends edges (ends_of edges) edge ≡ ends_of (edges ++ edge ∷ [])
ends_more [] edge = refl
ends_more (first ∷ edges) edge = grind (arith, option_and_then, fold_push)

-- a line with an edge has a walk where one of its walks has an end
pub has_walk : (edges : List Edge) (edge : Edge) → is_some (walk_of (edges ++ edge ∷ []))
    ≡ (is_some (ends_of (edges ++ edge ∷ [])).left || is_some (ends_of (edges ++ edge ∷ [])).right)
has_walk [] edge = some_or (walk_from edge.left (edge ∷ [])) (walk_from edge.right (edge ∷ []))
    ∙ ap (λ b. b || is_some (walk_from edge.right (edge ∷ []))) (walk_has_end edge.left (edge ∷ []))
    ∙ ap (λ b. is_some (end_from edge.left (edge ∷ [])) || b) (walk_has_end edge.right (edge ∷ []))
has_walk (first ∷ edges) edge = grind (arith, some_or, is_some, walk_has_end)
