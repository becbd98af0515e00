-- The rows of one line that is a walk keep the rules of a file of lines.
use Rattle.plan_num.proofs.Common.{◌≡◌, ◌≢◌, ℕ, zero, suc, ℤ, pos, ◌+◌, ◌<◌, Bool, true, false}
use Rattle.plan_num.proofs.Common.{cond, not, ◌||◌, List, [], ◌∷◌, ◌++◌, filter_map, length, map}
use Rattle.plan_num.proofs.Common.{slice_get, Option, Some, None, option_map, is_some, All, nat_eq}
use Rattle.plan_num.proofs.Common.{refl, ap, sym, subst, ◌∙◌, arith, append_assoc, append-nil}
use Rattle.plan_num.proofs.Common.{unwrap_or, AllByRecursion, IsDistinct, cons_option}
use Rattle.plan_num.proofs.Common.{enumerate_from, list_any, int_cmp, int_eq, option_and_then}
use Rattle.plan_num.proofs.Common.{eqb-false, ne_eqb, or_parts, Decides-int_eq, int_eq_equiv}
use Rattle.plan_num.proofs.Common.{length_push, All-push, filter-append, filter_map-append}
use Rattle.plan_num.proofs.Common.{list_any-append, IsDistinct-head, IsDistinct-tail}
use Rattle.std.specs.List.Sorted.{IsStrictlySortedBy}
use Rattle.std.specs.declared.cmp.Ordering.TheVariants.{Less}
use Rattle.tables.proofs.Common.{broken_whys, KeepRules}
use Rattle.walks.specs.declared.edge.Edge.{Edge}
use Rattle.walks.proofs.Common.{edges_at, across}
use Rattle.line_walks.specs.declared.line_row.LineRow.{LineRow}
use Rattle.line_walks.specs.Pools.{differs, edge_with, edges_of, first_frequency, line_rules}
use Rattle.line_walks.specs.Pools.{or_walk, rows_of, walk_from, walk_of}
use Rattle.plan_num.proofs.Tests.{above_differs}

-- ---- the front of a walk is a walk

front_from : (stop : ℕ) (front back : List Edge) → is_some (walk_from stop (front ++ back)) ≡ true
    → is_some (walk_from stop front) ≡ true
unfolding walk_from
front_from stop [] back is = refl
front_from stop (edge ∷ front) back is =
    one (across edge stop) (λ next. front_from next front back) is
  where
    one : (next : Option ℕ)
        → ((next : ℕ) → is_some (walk_from next (front ++ back)) ≡ true
        → is_some (walk_from next front) ≡ true)
        → is_some (option_and_then (λ next. option_map (λ more. stop ∷ more)
        (walk_from next (front ++ back))) next) ≡ true
        → is_some (option_and_then (λ next. option_map (λ more. stop ∷ more) (walk_from next front))
        next) ≡ true
    one None rest is = absurd (cc)
    one (Some next) rest is = grind arith

either : (a b : Option (List ℕ)) → is_some (or_walk a b) ≡ (is_some a || is_some b)
either None b = refl
either (Some stops) b = refl

or_both : (a b c d : Bool) → (a ≡ true → c ≡ true) → (b ≡ true → d ≡ true) → (a || b) ≡ true
    → (c || d) ≡ true
or_both true b c d first second is = ap (λ c. c || d) (first refl)
or_both false b true d first second is = refl
or_both false b false d first second is = second is

pub front_walk : (front back : List Edge) → is_some (walk_of (front ++ back)) ≡ true
    → is_some (walk_of front) ≡ true
front_walk [] back is = refl
front_walk (edge ∷ front) back is =
    let left = walk_from edge.left (edge ∷ front ++ back) in
    let right = walk_from edge.right (edge ∷ front ++ back) in
    either (walk_from edge.left (edge ∷ front)) (walk_from edge.right (edge ∷ front))
    ∙ or_both (is_some left) (is_some right) _ _ (front_from edge.left (edge ∷ front) back)
    (front_from edge.right (edge ∷ front) back) (sym (either left right) ∙ is)

-- ---- edges by their ids

pub below_differs : (x y : ℤ) → int_cmp x y ≡ Less → int_eq x y ≡ false
below_differs x y less = int_eq_equiv.symm x y ∙ above_differs x y less

-- the id of the edge at an index
abbrev pub id_at : List Edge → ℕ → ℤ
id_at edges index = unwrap_or (option_map (λ edge. edge.id) (slice_get edges index)) (pos 0)

pub later_above : (first : ℤ) (edges : List Edge) (index : ℕ) → index < length edges
    → AllByRecursion (λ other. int_cmp first other ≡ Less) (map (λ edge. edge.id) edges)
    → int_cmp first (id_at edges index) ≡ Less
later_above first [] index h above = absurd (omega (arith, h))
later_above first (edge ∷ edges) zero h above = above.0
later_above first (edge ∷ edges) (suc index) h above =
    later_above first edges index (omega (arith, h)) above.1

-- an edge is found by its id
pub edge_there : (edges : List Edge) (index : ℕ)
    → IsStrictlySortedBy int_cmp (map (λ edge. edge.id) edges) → index < length edges
    → edge_with edges (id_at edges index) ≡ slice_get edges index
unfolding IsStrictlySortedBy
edge_there [] index rise h = absurd (omega (arith, h))
edge_there (edge ∷ edges) zero rise h =
    ap (λ b. cond b (Some edge) (edge_with edges edge.id)) (int_eq_equiv.refl edge.id)
edge_there (edge ∷ edges) (suc index) rise h =
    grind (arith, above_differs, later_above, edge_there edges index rise.1 (omega (arith, h)))

-- and has an id of its own
pub ids_apart : (edges : List Edge) (index other : ℕ)
    → IsStrictlySortedBy int_cmp (map (λ edge. edge.id) edges) → index < length edges
    → other < length edges → index ≢ other
    → int_eq (id_at edges index) (id_at edges other) ≡ false
unfolding IsStrictlySortedBy
ids_apart [] index other rise h k apart = absurd (omega (arith, h))
ids_apart (edge ∷ edges) zero zero rise h k apart = absurd (apart refl)
ids_apart (edge ∷ edges) zero (suc other) rise h k apart = grind (arith, below_differs, later_above)
ids_apart (edge ∷ edges) (suc index) zero rise h k apart = grind (arith, above_differs, later_above)
ids_apart (edge ∷ edges) (suc index) (suc other) rise h k apart =
    ids_apart edges index other rise.1 (omega (arith, h)) (omega (arith, k))
    (λ same. apart (ap suc same))

-- ---- the rows of a line

some_at : (edges : List Edge) (index : ℕ) → index < length edges
    → is_some (slice_get edges index) ≡ true
some_at [] index h = absurd (omega (arith, h))
some_at (edge ∷ edges) zero h = refl
some_at (edge ∷ edges) (suc index) h = some_at edges index (omega (arith, h))

-- the row of a line with a frequency, for a place and the edge there
abbrev pub row_to : List Edge → ℤ → ℕ → ℕ × ℕ → LineRow
row_to edges id frequency at =
    record { line = id; order = pos at.0; edge = id_at edges at.1; frequency = pos frequency }

-- the rows of a line, where its places begin at a number
abbrev pub rows_from : List Edge → ℤ → ℕ → ℕ → List ℕ → List LineRow
rows_from edges id frequency n indexes =
    map (row_to edges id frequency) (enumerate_from n indexes)

module _ (edges : List Edge) (rise : IsStrictlySortedBy int_cmp (map (λ edge. edge.id) edges)) where
  abbrev AreThere : List ℕ → Type 0
  AreThere indexes = All (λ index. index < length edges) indexes

  module _ (id : ℤ) (frequency : ℕ) where
    pub own_rows : (n : ℕ) (indexes : List ℕ)
        → rows_of id (rows_from edges id frequency n indexes)
        ≡ rows_from edges id frequency n indexes
    own_rows n [] = refl
    own_rows n (index ∷ indexes) = grind (arith, int_eq_equiv, own_rows (n + 1) indexes)

    pub other_rows : (other : ℤ) → int_eq other id ≡ false → (n : ℕ) (indexes : List ℕ)
        → rows_of other (rows_from edges id frequency n indexes) ≡ []
    other_rows other differs n [] = refl
    other_rows other differs n (index ∷ indexes) =
        grind (arith, other_rows other differs (n + 1) indexes)

    rows_push : (n m : ℕ) (done : List ℕ) (index : ℕ) → m ≡ n + length done
        → rows_from edges id frequency n (done ++ index ∷ [])
        ≡ rows_from edges id frequency n done ++ row_to edges id frequency (m, index) ∷ []
    rows_push n m [] index is = grind arith
    rows_push n m (first ∷ done) index is =
        grind (arith, rows_push (n + 1) m done index (omega (arith, is)))

    rows_count : (n : ℕ) (indexes : List ℕ)
        → length (rows_from edges id frequency n indexes) ≡ length indexes
    rows_count n [] = refl
    rows_count n (index ∷ indexes) = ap suc (rows_count (n + 1) indexes)

    -- no row before has the edge of a row
    edge_new : (index : ℕ) → index < length edges → (n : ℕ) (done : List ℕ) → AreThere done
        → list_any (nat_eq index) done ≡ false
        → list_any (λ other. int_eq (id_at edges index) other.edge)
        (rows_from edges id frequency n done) ≡ false
    edge_new index h n [] there new = refl
    edge_new index h n (first ∷ done) there new =
        let parts = or_parts (nat_eq index first) (list_any (nat_eq index) done) new in
        ap (λ b. b || list_any (λ (other : LineRow). int_eq (id_at edges index) other.edge)
        (rows_from edges id frequency (n + 1) done))
        (ids_apart edges index first rise h (there 0 first (omega arith))
        (eqb-false index first parts.0))
        ∙ edge_new index h (n + 1) done (λ k d h. there (suc k) d (omega (arith, h))) parts.1

    -- the edges of rows
    edges_told : (n : ℕ) (indexes : List ℕ) → AreThere indexes
        → filter_map (λ row. edge_with edges row.edge) (rows_from edges id frequency n indexes)
        ≡ edges_at edges indexes
    edges_told n [] there = refl
    edges_told n (index ∷ indexes) there =
        let here : index < length edges = there 0 index (omega arith) in
        λ i. cons_option (edge_there edges index rise here i)
        (edges_told (n + 1) indexes (λ k d h. there (suc k) d (omega (arith, h))) i)

    first_same : (n : ℕ) (done : List ℕ)
        → differs (pos frequency) (first_frequency (rows_from edges id frequency n done)) ≡ false
    first_same n [] = refl
    first_same n (index ∷ done) = ap not (int_eq_equiv.refl (pos frequency))

    module _ (before : List LineRow) (none : rows_of id before ≡ []) where
      abbrev with_rows : List ℕ → List LineRow
      with_rows done = before ++ rows_from edges id frequency 1 done

      own_before : (done : List ℕ)
          → rows_of id (with_rows done) ≡ rows_from edges id frequency 1 done
      own_before done = grind (arith, filter-append, own_rows)

      next_is : (n : ℕ) (done : List ℕ) (index : ℕ) → n ≡ 1 + length done
          → with_rows done ++ row_to edges id frequency (n, index) ∷ []
          ≡ with_rows (done ++ index ∷ [])
      next_is n done index is = grind (arith, append_assoc, rows_push)

      -- a further row breaks no rule
      row_kept : (n : ℕ) (done : List ℕ) (index : ℕ) → n ≡ 1 + length done
          → AreThere done → index < length edges → list_any (nat_eq index) done ≡ false
          → is_some (walk_of (edges_at edges (done ++ index ∷ []))) ≡ true
          → broken_whys (line_rules edges) (with_rows done) (row_to edges id frequency (n, index))
          ≡ []
      row_kept n done index is there h new walk =
          let row = row_to edges id frequency (n, index) in
          let before_it = rows_of id (with_rows done) in
          let known : is_some (edge_with edges (id_at edges index)) ≡ true =
          ap is_some (edge_there edges index rise h) ∙ some_at edges index h in
          let own = own_before done in
          let size : length before_it + 1 ≡ n =
          omega (arith, ap length own, rows_count 1 done, is) in
          let place : int_eq (pos n) (pos (length before_it + 1)) ≡ true =
          ap (λ m. int_eq (pos n) (pos m)) size ∙ int_eq_equiv.refl (pos n) in
          let is_own : LineRow → Bool = λ other. int_eq (id_at edges index) other.edge in
          let fresh : list_any is_own before_it ≡ false =
          ap (list_any is_own) own ∙ edge_new index h 1 done there new in
          let joined : is_some (walk_of (edges_of edges id (with_rows done ++ row ∷ []))) ≡ true =
          ap (λ rows. is_some (walk_of (edges_of edges id rows))) (next_is n done index is)
          ∙ ap (λ rows. is_some (walk_of (filter_map
          (λ (row : LineRow). edge_with edges row.edge) rows)))
          (own_before (done ++ index ∷ []))
          ∙ ap (λ edges. is_some (walk_of edges)) (edges_told 1 (done ++ index ∷ [])
          (All-push (λ index. index < length edges) done index there h))
          ∙ walk in
          let same : differs (pos frequency) (first_frequency before_it) ≡ false =
          ap (λ rows. differs (pos frequency) (first_frequency rows)) own ∙ first_same 1 done in
          rw (known, place, fresh, joined, same) refl

      -- none of some edges is among those that are done
      abbrev AreNew : List ℕ → List ℕ → Type 0
      AreNew done rest = AllByRecursion (λ index. list_any (nat_eq index) done ≡ false) rest

      new_more : (done : List ℕ) (index : ℕ) (rest : List ℕ)
          → AllByRecursion (λ other. nat_eq index other ≡ false) rest → AreNew done rest
          → AreNew (done ++ index ∷ []) rest
      new_more done index [] apart new = tt
      new_more done index (other ∷ rest) apart new = grind (
        arith,
        list_any-append,
        nat_eq,
        ne_eqb,
        eqb-false,
        new_more done index rest apart.1 new.1,
      )

      pub line_kept : (n : ℕ) (done rest : List ℕ) (behind : List LineRow) → n ≡ 1 + length done
          → AreThere done → AreThere rest → AreNew done rest → IsDistinct nat_eq rest
          → is_some (walk_of (edges_at edges (done ++ rest))) ≡ true
          → KeepRules (line_rules edges) (with_rows (done ++ rest)) behind
          → KeepRules (line_rules edges) (with_rows done)
          (rows_from edges id frequency n rest ++ behind)
      line_kept n done [] behind is there here new apart walk kept =
          subst (λ all. KeepRules (line_rules edges) (with_rows all) behind) (append-nil done) kept
      line_kept n done (index ∷ rest) behind is there here new apart walk kept =
          let h : index < length edges = here 0 index (omega arith) in
          let more = done ++ index ∷ [] in
          let all : done ++ index ∷ rest ≡ more ++ rest =
          sym (append_assoc done (index ∷ []) rest) in
          let whole : edges_at edges (done ++ index ∷ rest)
          ≡ edges_at edges more ++ edges_at edges rest =
          ap (edges_at edges) all ∙ filter_map-append (slice_get edges) more rest in
          let front = front_walk (edges_at edges more) (edges_at edges rest)
          (ap (λ edges. is_some (walk_of edges)) (sym whole) ∙ walk) in
          let next : n + 1 ≡ 1 + length more = omega (arith, is, length_push done index) in (
            row_kept n done index is there h new.0 front,
            subst (λ rows. KeepRules (line_rules edges) rows
                (rows_from edges id frequency (n + 1) rest ++ behind))
                (sym (next_is n done index is))
                (line_kept (n + 1) more rest behind next
                (All-push (λ index. index < length edges) done index there h)
                (λ k d h. here (suc k) d (omega (arith, h)))
                (new_more done index rest (IsDistinct-head nat_eq index rest apart) new.1)
                (IsDistinct-tail nat_eq index rest apart)
                (ap (λ indexes. is_some (walk_of (edges_at edges indexes))) (sym all) ∙ walk)
                (subst (λ indexes. KeepRules (line_rules edges) (with_rows indexes) behind) all
                kept)),
          )
