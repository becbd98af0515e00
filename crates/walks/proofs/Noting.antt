-- The edges at each stop, noted edge by edge.
use Rattle.plan_num.proofs.Common.{◌≡◌, ◌≢◌, ℕ, ◌+◌, ◌<◌, ◌≤◌, List, [], ◌∷◌, ◌++◌, length, get_or}
use Rattle.plan_num.proofs.Common.{slice_get, refl, ap, sym, subst, ◌∙◌, Some, Contains, ◌⊎◌, inl}
use Rattle.plan_num.proofs.Common.{inr, arith, cases_eq, cases_lt, eq-eqb, ne_eqb, length-set}
use Rattle.plan_num.proofs.Common.{get_or-set_same, get_or-set_other, Contains-push}
use Rattle.plan_num.proofs.Common.{Contains-append_left, Contains-push_cases, slice_get_within}
use Rattle.plan_num.proofs.Common.{same_Some}
use Rattle.walks.specs.declared.edge.Edge.{Edge}
use Rattle.walks.specs.Networks.{IsEdge}
use Rattle.walks.specs.Walks.{across}
use Rattle.walks.specs.StopEdges.{CanLeave, AreStopEdges, NotesAt}
use Rattle.walks.proofs.PathEdges.{ends_are}

-- ---- one index more at a stop

module _ (rows new : List (List ℕ)) (stop index : ℕ) (is : NotesAt stop index rows new)
    (here : stop < length rows) where
  own_row : get_or new stop [] ≡ get_or rows stop [] ++ index ∷ []
  own_row = ap (λ (some : List (List ℕ)). get_or some stop []) is
      ∙ get_or-set_same rows stop (get_or rows stop [] ++ index ∷ []) [] here

  other_row : (other : ℕ) → other ≢ stop → get_or new other [] ≡ get_or rows other []
  other_row other apart = grind (arith, get_or, get_or-set_other)

  pub noted_size : length new ≡ length rows
  noted_size = ap length is ∙ length-set rows stop (get_or rows stop [] ++ index ∷ [])

  pub noted_there : Contains (get_or new stop []) index
  noted_there = subst (λ row. Contains row index) (sym own_row)
      (Contains-push (get_or rows stop []) index)

  pub noted_keeps : (other x : ℕ) → Contains (get_or rows other []) x
      → Contains (get_or new other []) x
  noted_keeps other x there =
      elim (cases_eq other stop) as (λ h. Contains (get_or new other []) x) [
        | inl same ↦
            subst (λ at. Contains (get_or new at []) x) (sym same)
            (subst (λ row. Contains row x) (sym own_row)
            (Contains-append_left (get_or rows stop []) (index ∷ []) x
            (subst (λ at. Contains (get_or rows at []) x) same there)))
        | inr apart ↦ subst (λ row. Contains row x) (sym (other_row other apart)) there
      ]

  pub noted_from : (other x : ℕ) → Contains (get_or new other []) x
      → Contains (get_or rows other []) x ⊎ ((other ≡ stop) × (index ≡ x))
  noted_from other x there = elim (cases_eq other stop) as
      (λ h. Contains (get_or rows other []) x ⊎ ((other ≡ stop) × (index ≡ x))) [
        | inl same ↦
            let in_own = subst (λ row. Contains row x) own_row
            (subst (λ at. Contains (get_or new at []) x) same there) in
            elim (Contains-push_cases (get_or rows stop []) index x in_own) [
              | inl old ↦ inl (subst (λ at. Contains (get_or rows at []) x) (sym same) old)
              | inr fresh ↦ inr (same, fresh)
            ]
        | inr apart ↦ inl (subst (λ row. Contains row x) (other_row other apart) there)
      ]

-- ---- the edges so far

pub record NotedTo (edges : List Edge) (stops i : ℕ) (rows : List (List ℕ)) : Type 0 where
  pub size : length rows ≡ stops
  pub own : (stop index : ℕ) → Contains (get_or rows stop []) index → CanLeave edges stop index
  pub all : (stop index : ℕ) → index < i → CanLeave edges stop index
      → Contains (get_or rows stop []) index

-- one edge more
module _ (edges : List Edge) (stops i : ℕ) (edge : Edge) (rows first both : List (List ℕ))
    (at : slice_get edges i ≡ Some edge) (sound : IsEdge stops edge)
    (so_far : NotedTo edges stops i rows) (at_left : NotesAt edge.left i rows first)
    (at_right : NotesAt edge.right i first both) where
  left_in : edge.left < length rows
  left_in = omega (arith, sound.left, so_far.size)

  right_in : edge.right < length first
  right_in = grind (arith, noted_size, left_in)

  leaves_left : CanLeave edges edge.left i
  leaves_left = record {
    edge = edge;
    is = at;
    next = edge.right;
    over = rw (eq-eqb edge.left edge.left refl) refl;
  }

  leaves_right : CanLeave edges edge.right i
  leaves_right = record {
    edge = edge;
    is = at;
    next = edge.left;
    over = rw (ne_eqb edge.left edge.right sound.apart, eq-eqb edge.right edge.right refl) refl;
  }

  own_after : (stop index : ℕ) → Contains (get_or both stop []) index → CanLeave edges stop index
  own_after stop index there =
      elim (noted_from first both edge.right i at_right right_in stop index there) [
        | inr p ↦ grind (arith, leaves_right)
        | inl before ↦ elim (noted_from rows first edge.left i at_left left_in stop index before) [
          | inr p ↦ grind (arith, leaves_left)
          | inl old ↦ so_far.own stop index old
        ]
      ]

  kept : (stop index : ℕ) → Contains (get_or rows stop []) index
      → Contains (get_or both stop []) index
  kept stop index there = noted_keeps first both edge.right i at_right right_in stop index
      (noted_keeps rows first edge.left i at_left left_in stop index there)

  at_own : (stop : ℕ) → CanLeave edges stop i → Contains (get_or both stop []) i
  at_own stop leave =
      let same : leave.edge ≡ edge = same_Some _ _ (sym leave.is ∙ at) in
      elim (ends_are edge stop leave.next (ap (λ some. across some stop) (sym same) ∙ leave.over)) [
        | inl p ↦ subst (λ some. Contains (get_or both some []) i) p.0
            (noted_keeps first both edge.right i at_right right_in edge.left i
            (noted_there rows first edge.left i at_left left_in))
        | inr p ↦ subst (λ some. Contains (get_or both some []) i) p.0
            (noted_there first both edge.right i at_right right_in)
      ]

  pub noted_more : NotedTo edges stops (i + 1) both
  noted_more = record {
    size = grind (arith, noted_size, right_in, left_in);
    own = own_after;
    all = λ stop index early leave. elim (cases_lt index i) as
        (λ h. Contains (get_or both stop []) index) [
          | inl h ↦ kept stop index (so_far.all stop index h leave)
          | inr h ↦
              let same : index ≡ i = omega arith in
              subst (Contains (get_or both stop [])) (sym same)
              (at_own stop (subst (CanLeave edges stop) same leave))
        ];
  }

-- all edges
pub noted_all : (edges : List Edge) (stops i : ℕ) (rows : List (List ℕ)) → length edges ≤ i
    → NotedTo edges stops i rows → AreStopEdges stops edges rows
noted_all edges stops i rows done so_far = grind (arith, slice_get_within)
