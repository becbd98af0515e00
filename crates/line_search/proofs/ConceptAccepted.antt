-- A line concept that is made has no fault by the rules of its kind.
use Rattle.plan_num.proofs.Common.{◌≡◌, ℕ, zero, suc, ℤ, pos, ◌+◌, ◌≤◌, true, is_some, List, []}
use Rattle.plan_num.proofs.Common.{◌∷◌, ◌++◌, length, map, slice_get, option_map, unwrap_or, zip}
use Rattle.plan_num.proofs.Common.{All, refl, ap, ◌∙◌, arith, AllByRecursion, enumerate_from}
use Rattle.plan_num.proofs.Common.{flat_map, int_cmp, length-map, map-append}
use Rattle.std.specs.List.Sorted.{IsStrictlySortedBy}
use Rattle.std.specs.declared.cmp.Ordering.TheVariants.{Less}
use Rattle.tables.specs.declared.file_id.FileId.TheVariants as file
use Rattle.tables.proofs.Common.{concept_columns, input_faults, ReadsBack, front_none, back_none}
use Rattle.giv_files.proofs.Common.{BundleParts, input_text}
use Rattle.walks.specs.declared.edge.Edge.{Edge}
use Rattle.walks.proofs.Common.{edges_at}
use Rattle.ptn_network.specs.declared.edge_load.EdgeLoad.{EdgeLoad}
use Rattle.ptn_network.specs.Loads.{load_input, loads_of}
use Rattle.ptn_network.specs.Networks.{network_faults, network_in}
use Rattle.ptn_network.proofs.Sound.{network_sound}
use Rattle.line_walks.specs.GivenCosts.{costs_of}
use Rattle.line_walks.specs.PoolCosts.{pool_cost_input}
use Rattle.line_walks.specs.Pools.{IsLine, LineParts, concept_faults, line_faults}
use Rattle.line_walks.specs.Pools.{pool_faults, pool_of, walk_of}
use Rattle.line_walks.proofs.SoundCosts.{costs_count}
use Rattle.line_walks.proofs.WalkLines.{IsWalked, RowsLine, ids_for, rows_at, rows_for, told_row, told_rows}
use Rattle.line_walks.proofs.WalkLines.{concept_accepted as accepted_as_concept}
use Rattle.line_walks.proofs.WalkRows.{id_at, row_to, rows_from}
use Rattle.line_walks.proofs.WholeLines.{whole_lines}
use Rattle.line_cost_model.proofs.Common.{CostedLine, IsCostedLine, ProblemParts}
use Rattle.branch_certificate.specs.TreeTexts.{edge_id}
use Rattle.line_search.specs.ConceptTables.{concept_rows, line_rows, row_at}
use Rattle.line_search.specs.GivenProblems.{costed_by, problem_faults, problem_of}
use Rattle.line_search.proofs.ConceptRows.{zip_length}
use Rattle.line_search.proofs.PushedEdges.{bounded, bounded_length}
use Rattle.line_search.proofs.PushedLines.{costed}
use Rattle.line_search.proofs.SoundProblems.{problem_sound}

-- ---- the ids of edges

bounded_id : (edges : List Edge) (loads : List EdgeLoad) (index : ℕ) → length loads ≡ length edges
    → unwrap_or (option_map (λ edge. edge.id) (slice_get (bounded edges loads) index)) (pos 0)
    ≡ id_at edges index
bounded_id [] loads index each = refl
bounded_id (edge ∷ edges) [] index each = absurd (omega (arith, each))
bounded_id (edge ∷ edges) (load ∷ loads) zero each = refl
bounded_id (edge ∷ edges) (load ∷ loads) (suc index) each =
    bounded_id edges loads index (omega (arith, each))

-- ---- the rows of all lines

-- a line of a problem at a frequency, by its rows
abbrev line_at : CostedLine × ℕ → RowsLine
line_at at = record { id = at.0.id; frequency = at.1; edges = at.0.edges }

abbrev lines_at : List CostedLine → List ℕ → List RowsLine
lines_at lines frequencies = map line_at (zip lines frequencies)

-- a line over edges that are a walk
abbrev HasWalk : List Edge → CostedLine → Type 0
HasWalk edges line = is_some (walk_of (edges_at edges line.edges)) ≡ true

module _ (problem : ProblemParts) (edges : List Edge) (count : length problem.edges ≡ length edges)
    (same_id : (index : ℕ) → edge_id problem index ≡ id_at edges index) where
  line_told : (id : ℤ) (frequency n : ℕ) (indexes : List ℕ)
      → told_rows (map (row_at problem id frequency) (enumerate_from n indexes))
      ≡ rows_from edges id frequency n indexes
  line_told id frequency n [] = refl
  line_told id frequency n (index ∷ indexes) =
      grind (arith, told_rows, row_to, line_told id frequency (n + 1) indexes)

  lines_told : (lines : List CostedLine) (frequencies : List ℕ)
      → told_rows (flat_map (λ at. line_rows problem at.0 at.1) (zip lines frequencies))
      ≡ rows_for edges (lines_at lines frequencies)
  lines_told [] frequencies = refl
  lines_told (line ∷ lines) [] = refl
  lines_told (line ∷ lines) (frequency ∷ frequencies) =
      grind (
        arith,
        map-append,
        told_row,
        told_rows,
        line_told,
        rows_at,
        lines_told lines frequencies,
      )

  all_walked : (lines : List CostedLine) (frequencies : List ℕ)
      → All (IsCostedLine (length problem.edges)) lines → AllByRecursion (HasWalk edges) lines
      → AllByRecursion (IsWalked edges) (lines_at lines frequencies)
  all_walked [] frequencies own walks = tt
  all_walked (line ∷ lines) [] own walks = tt
  all_walked (line ∷ lines) (frequency ∷ frequencies) own walks =
      let first = own 0 line (omega arith) in grind (
        arith,
        all_walked lines frequencies (λ k d h.
            own (suc k) d (omega (arith, h))) walks.1,
      )

above_at : (id : ℤ) (lines : List CostedLine) (frequencies : List ℕ)
    → AllByRecursion (λ other. int_cmp id other ≡ Less) (map (λ line. line.id) lines)
    → AllByRecursion (λ other. int_cmp id other ≡ Less) (ids_for (lines_at lines frequencies))
above_at id [] frequencies above = tt
above_at id (line ∷ lines) [] above = tt
above_at id (line ∷ lines) (frequency ∷ frequencies) above =
    (above.0, above_at id lines frequencies above.1)

lines_rise : (lines : List CostedLine) (frequencies : List ℕ)
    → IsStrictlySortedBy int_cmp (map (λ line. line.id) lines)
    → IsStrictlySortedBy int_cmp (ids_for (lines_at lines frequencies))
unfolding IsStrictlySortedBy
lines_rise [] frequencies rise = tt
lines_rise (line ∷ lines) [] rise = tt
lines_rise (line ∷ lines) (frequency ∷ frequencies) rise =
    (above_at line.id lines frequencies rise.0, lines_rise lines frequencies rise.1)

lines_count : (lines : List CostedLine) (frequencies : List ℕ)
    → length (lines_at lines frequencies) ≤ length lines
lines_count [] frequencies = omega arith
lines_count (line ∷ lines) [] = omega arith
lines_count (line ∷ lines) (frequency ∷ frequencies) = omega (arith, lines_count lines frequencies)

-- ---- the lines of a pool are walks

costed_length : (lines : List LineParts) (costs : List ℤ) → length costs ≡ length lines
    → length (costed lines costs) ≡ length lines
costed_length lines costs each =
    length-map (zip lines costs) (λ at. costed_by at.0 at.1) ∙ zip_length lines costs each

each_walked : (edges : List Edge) (lines : List LineParts) (costs : List ℤ) → All (IsLine edges) lines
    → AllByRecursion (λ line. is_some (walk_of (edges_at edges line.edges)) ≡ true) (costed lines costs)
each_walked edges [] costs own = tt
each_walked edges (line ∷ lines) [] own = tt
each_walked edges (line ∷ lines) (cost ∷ costs) own = (
  ap is_some (own 0 line (omega arith)).walk,
  each_walked edges lines costs (λ k d h. own (suc k) d (omega (arith, h))),
)

pub concept_accepted : (bundle : BundleParts) → problem_faults bundle ≡ [] → (frequencies text : List ℕ)
    → ReadsBack concept_columns (concept_rows (problem_of bundle) frequencies) text
    → concept_faults (network_in bundle.inputs) text ≡ []
unfolding problem_faults problem_of loads_of line_faults
concept_accepted bundle none frequencies text reads =
    let given = input_text bundle in
    let network = network_in bundle.inputs in
    let edges = network.edges in
    let lines = pool_of network (given 2) in
    let networks = network_faults (given 0) (given 1) in
    let pools = pool_faults network (given 2) in
    let bounds = input_faults (load_input file.Load edges) (given 3) in
    let three = front_none (networks ++ pools ++ bounds) (input_faults (pool_cost_input lines) (given 4)) none in
    let two = front_none (networks ++ pools) bounds three in
    let is_network = network_sound (given 0) (given 1) (front_none networks pools two) in
    let are_lines = whole_lines _ network (given 2) is_network (back_none networks pools two) in
    let loads = loads_of file.Load edges (given 3) in
    let loads_long : length loads ≡ length edges = length-map edges _ in
    let count : length (problem_of bundle).edges ≡ length edges = bounded_length edges loads loads_long in
    let same_id : (index : ℕ) → edge_id (problem_of bundle) index ≡ id_at edges index =
    λ index. bounded_id edges loads index loads_long in
    let costs = costs_of lines (given 4) in
    let sound = problem_sound bundle none in
    let own = (problem_of bundle).lines in
    let long : length own ≡ length lines = costed_length lines costs (costs_count lines (given 4)) in
    let good = all_walked (problem_of bundle) edges count same_id own frequencies sound.lines
    (each_walked edges lines costs are_lines.each) in
    accepted_as_concept network (lines_at own frequencies)
    (concept_rows (problem_of bundle) frequencies) text is_network.edges_rise
    (lines_rise own frequencies sound.lines_rise) good
    (omega (arith, long, are_lines.few, lines_count own frequencies))
    (lines_told (problem_of bundle) edges count same_id own frequencies) reads
