-- Lines with their costs, one after the other.
use Rattle.plan_num.proofs.Common.{◌≡◌, ℕ, ℤ, ◌+◌, ◌≤◌, ◌<ℤ◌, arith, List, [], ◌∷◌, ◌++◌, length}
use Rattle.plan_num.proofs.Common.{map, take, slice_get, zip, unsigned_abs, to_z, of_z, w64, refl}
use Rattle.plan_num.proofs.Common.{ap, subst, sym, ◌∙◌, Some, option_map, All, IsStrictlySortedBy}
use Rattle.plan_num.proofs.Common.{int_cmp, same_Some, slice_get-map}
use Rattle.walks.specs.declared.edge.Edge.{Edge}
use Rattle.line_walks.specs.GivenCosts.{IsCost}
use Rattle.line_walks.specs.Pools.{LineParts, IsLine}
use Rattle.line_cost_model.proofs.Common.{CostedLine, IsCostedLine, IsId, map_more, map_whole}
use Rattle.line_search.specs.GivenProblems.{costed_by}
use Rattle.line_search.proofs.ConceptRows.{zip_length}
use Rattle.line_concepts.proofs.Lists.{below, zip_at}

-- the lines with their costs
abbrev pub costed : List LineParts → List ℤ → List CostedLine
costed lines costs = map (λ at. costed_by at.0 at.1) (zip lines costs)

-- they have the ids of the lines
pub costed_ids : (lines : List LineParts) (costs : List ℤ) → length costs ≡ length lines
    → map (λ (line : CostedLine). line.id) (costed lines costs)
    ≡ map (λ (line : LineParts). line.id) lines
costed_ids [] costs each = refl
costed_ids (line ∷ lines) [] each = absurd (omega (arith, each))
costed_ids (line ∷ lines) (cost ∷ costs) each =
    ap (λ ids. line.id ∷ ids) (costed_ids lines costs (omega (arith, each)))

-- all of them
pub lines_whole : (lines : List LineParts) (costs : List ℤ) (i : ℕ) → length costs ≡ length lines
    → length lines ≤ i → take i (costed lines costs) ≡ costed lines costs
lines_whole lines costs i each past = grind (arith, map_whole, zip_length)

-- the line at a place, by what is told of it
pub record IsAt (lines : List LineParts) (i : ℕ) (id : ℤ) (over : List ℕ) : Type 0 where
  pub line : LineParts
  pub at : slice_get lines i ≡ Some line
  pub id_is : id ≡ line.id
  pub over_is : over ≡ line.edges

pub line_at : (lines : List LineParts) (i : ℕ) (id : ℤ) (over : List ℕ)
    → option_map (λ at. at.id) (slice_get lines i) ≡ Some id
    → option_map (λ at. at.edges) (slice_get lines i) ≡ Some over → IsAt lines i id over
line_at lines i id over is own = grind (arith, slice_get, option_map, same_Some)

-- a line of a pool with its cost, over as many edges
pub is_costed : (edges : List Edge) (line : LineParts) (cost : ℤ) (count : ℕ) → count ≡ length edges
    → IsLine edges line → IsCost cost → IsCostedLine count (costed_by line cost)
is_costed edges line cost count same sound cheap = grind arith

-- the line of what is told of it
pub told_line : (line : LineParts) (id cost : ℤ) (over : List ℕ) → IsId line.id → IsCost cost
    → id ≡ line.id → over ≡ line.edges
    → record {
      id = to_z w64 (of_z w64 id);
      cost = unsigned_abs (to_z w64 (of_z w64 cost));
      edges = over;
    } ≡ costed_by line cost
told_line line id cost over own cheap p q = grind arith

module _ (lines : List LineParts) (costs : List ℤ) (i : ℕ) (line : LineParts) (cost : ℤ)
    (at : slice_get lines i ≡ Some line) (costs_it : slice_get costs i ≡ Some cost) where
  pair : option_map (λ at. costed_by at.0 at.1) (slice_get (zip lines costs) i)
      ≡ Some (costed_by line cost)
  pair = ap (option_map (λ at. costed_by at.0 at.1)) (zip_at lines costs i line cost at costs_it)

  -- one more
  pub lines_more : take (i + 1) (costed lines costs)
      ≡ take i (costed lines costs) ++ costed_by line cost ∷ []
  lines_more = map_more (λ at. costed_by at.0 at.1) (zip lines costs) i (costed_by line cost) pair

  -- which is above those before it
  pub lines_below : length costs ≡ length lines
      → IsStrictlySortedBy int_cmp (map (λ (line : LineParts). line.id) lines)
      → All (λ (other : CostedLine). other.id <ℤ line.id) (take i (costed lines costs))
  lines_below each rise =
      below (λ (other : CostedLine). other.id) (costed lines costs) i (costed_by line cost)
      (subst (IsStrictlySortedBy int_cmp) (sym (costed_ids lines costs each)) rise)
      (slice_get-map (λ at. costed_by at.0 at.1) (zip lines costs) i ∙ pair)
