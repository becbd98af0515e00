-- The last edges of paths, edge by edge.
use Rattle.plan_num.proofs.Common.{◌≡◌, ◌≢◌, ℕ, ◌+◌, ◌<◌, ◌≤◌, Bool, false, cond, eqb, ltb, List}
use Rattle.plan_num.proofs.Common.{[], ◌∷◌, ◌++◌, length, get_or, set, slice_get, take, refl, ap}
use Rattle.plan_num.proofs.Common.{sym, ◌∙◌, arith, position, Option, Some, None, inl, inr, ◌⊎◌}
use Rattle.plan_num.proofs.Common.{subst, get_or-set_other, get_or-set_same, option_or, ne_eqb}
use Rattle.plan_num.proofs.Common.{take_more, length-append, length-take-le, length-set}
use Rattle.plan_num.proofs.Common.{prefix_len-le-length, get_or_from_slice_get}
use Rattle.std.proofs.lemmas.List.Folds.{position_or_len_push}
use Rattle.walks.specs.declared.edge.Edge.{Edge}
use Rattle.walks.specs.Networks.{IsEdge}
use Rattle.walks.specs.Paths.{ends_least, last_edge, last_with}

by_place : (place size : ℕ) (passes : Bool) → place ≤ size
    → cond (ltb (cond (eqb place size) (size + cond passes 0 1) place) (size + 1))
    (Some (cond (eqb place size) (size + cond passes 0 1) place)) None
    ≡ option_or (cond (ltb place size) (Some place) None) (cond passes (Some size) None)
by_place place size passes short = grind arith

-- the first place that passes, after one item more
position_more : {X : Type 0} (p : X → Bool) (xs : List X) (x : X)
    → position p (xs ++ x ∷ []) ≡ option_or (position p xs) (cond (p x) (Some (length xs)) None)
position_more p xs x =
    grind (arith, position_or_len_push, length-append, by_place, prefix_len-le-length)

-- an edge ends no walk to a stop that is none of its ends
no_end : (lengths : ℕ → Option ℕ) (to : ℕ) (edge : Edge) → edge.left ≢ to → edge.right ≢ to
    → ends_least lengths to edge ≡ false
no_end lengths to edge left right = grind (arith, ne_eqb)

one_or : (a b : ℕ) → (a ≡ b) ⊎ (a ≢ b)
one_or a b = grind arith

no_other : (last : Option ℕ) → option_or last None ≡ last
no_other None = refl
no_other (Some index) = refl

module _ (edges : List Edge) (lengths : ℕ → Option ℕ) (n i : ℕ) (edge : Edge)
    (last : List (Option ℕ)) where
  -- the last edge to a stop with one edge more
  last_more : (to : ℕ) → slice_get edges i ≡ Some edge → i < length edges
      → get_or last to None ≡ last_edge (take i edges) lengths to
      → last_with lengths to (get_or last to None) i edge
      ≡ last_edge (take (i + 1) edges) lengths to
  last_more to at h so_far =
      let p = ends_least lengths to in
      let here : get_or edges i edge ≡ edge = get_or_from_slice_get edges i edge edge at in
      ap (λ found. option_or found (cond (p edge) (Some i) None)) so_far
      ∙ sym (ap (position p) (take_more edges i edge h)
      ∙ position_more p (take i edges) (get_or edges i edge)
      ∙ ap (λ some. option_or (position p (take i edges))
      (cond (p some) (Some (length (take i edges))) None)) here
      ∙ ap (λ size. option_or (position p (take i edges)) (cond (p edge) (Some size) None))
      (length-take-le i edges (omega arith)))

  -- the last edges after an edge was noted at both its ends
  pub edge_noted : slice_get edges i ≡ Some edge → i < length edges → IsEdge n edge
      → length last ≡ n → ((to : ℕ) → to < n
      → get_or last to None ≡ last_edge (take i edges) lengths to)
      → (first both : List (Option ℕ))
      → first ≡ set last edge.left (last_with lengths edge.left
      (get_or last edge.left None) i edge)
      → both ≡ set first edge.right (last_with lengths edge.right
      (get_or first edge.right None) i edge)
      → (to : ℕ) → to < n → get_or both to None ≡ last_edge (take (i + 1) edges) lengths to
  edge_noted at h sound size told first both first_is both_is to within =
      let left = edge.left in
      let right = edge.right in
      let to_left = last_with lengths left (get_or last left None) i edge in
      let to_right = last_with lengths right (get_or first right None) i edge in
      let left_in : left < length last = omega (arith, sound.left) in
      let first_size : length first ≡ length last =
      ap length first_is ∙ length-set last left to_left in
      let right_in : right < length first = omega (arith, sound.right) in
      let at_first : (stop : ℕ) → stop ≢ left
      → get_or first stop None ≡ get_or last stop None =
      λ stop ne. ap (λ (some : List (Option ℕ)). get_or some stop None) first_is
      ∙ get_or-set_other last left stop to_left None ne in
      let at_both : (stop : ℕ) → stop ≢ right
      → get_or both stop None ≡ get_or first stop None =
      λ stop ne. ap (λ (some : List (Option ℕ)). get_or some stop None) both_is
      ∙ get_or-set_other first right stop to_right None ne in
      elim (one_or to right) [
        | inl e ↦
            subst (λ stop. get_or both stop None ≡ last_edge (take (i + 1) edges) lengths stop)
            (sym e)
            (ap (λ (some : List (Option ℕ)). get_or some right None) both_is
            ∙ get_or-set_same first right to_right None right_in
            ∙ ap (λ found. last_with lengths right found i edge)
            (at_first right (λ same. sound.apart (sym same)))
            ∙ last_more right at h (told right sound.right))
        | inr off ↦ elim (one_or to left) [
          | inl e ↦
              subst (λ stop. get_or both stop None ≡ last_edge (take (i + 1) edges) lengths stop)
              (sym e)
              (at_both left sound.apart ∙ ap (λ (some : List (Option ℕ)). get_or some left None)
              first_is ∙ get_or-set_same last left to_left None left_in
              ∙ last_more left at h (told left sound.left))
          | inr away ↦
              at_both to off ∙ at_first to away
              ∙ sym (ap (λ b. option_or (get_or last to None) (cond b (Some i) None))
              (no_end lengths to edge (λ same. away (sym same)) (λ same. off (sym same)))
              ∙ no_other (get_or last to None))
              ∙ last_more to at h (told to within)
        ]
      ]
