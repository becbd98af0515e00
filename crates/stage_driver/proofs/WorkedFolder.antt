-- One folder with a line concept and its tree, as planners keep it, and one with a dearer concept: the
-- promises on the plans that stand in a folder.
use Rattle.plan_num.proofs.Common.{arith, ints, ◌≡◌, ◌≤◌, ℕ, pos, List, [], ◌∷◌, map, length, Ok, Result}
use Rattle.plan_num.proofs.Common.{None, is_some, refl, ap, subst, sym, ◌∙◌, codes, true}
use Rattle.plan_num.proofs.Common.{false≢true, get_or, same_Some, nat_cmp, slice_cmp, nat_list_cmp_total}
use Rattle.std.specs.FinMap.Entries.{find}
use Rattle.line_cost_model.specs.Concepts.{IsFeasible as IsConcept, cost_of}
use Rattle.std.specs.FinMap as files
use Rattle.plan_files.proofs.Common.{Folder}
use Rattle.tables.specs.declared.file_id.FileId.TheVariants as file
use Rattle.giv_files.specs.declared.key.Key.TheVariants as key
use Rattle.giv_files.specs.declared.stage.Stage.TheVariants as stage
use Rattle.tables.specs.declared.file_id.FileId.{FileId}
use Rattle.tables.proofs.Common.{file_name}
use Rattle.giv_files.specs.Keys.{all_keys, key_default, stage_keys}
use Rattle.giv_files.proofs.Common.{BundleParts}
use Rattle.tables.specs.Reading.{faults, table_of, cells_from, cell_of, errors, values, row_whys}
use Rattle.tables.specs.Inputs.{input_faults, row_faults}
use Rattle.text_fields.specs.Rows.{rows, cleaned}
use Rattle.plan_num.specs.Number.{spelling_of, value_of, value_at, fixed_of, whole_of}
use Rattle.ptn_network.specs.Loads.{loads_of}
use Rattle.ptn_network.specs.Networks.{stops_of, network_of, network_faults}
use Rattle.walks.specs.RisingIds.{by_id}
use Rattle.line_walks.specs.GivenCosts.{costs_of}
use Rattle.line_walks.specs.Pools.{walk_from, lines_of, line_faults}
use Rattle.line_search.specs.ConceptTables.{concept_rows}
use Rattle.line_search.specs.GivenProblems.{problem_of, problem_faults}
use Rattle.tables.specs.Columns.{concept_columns}
use Rattle.stage_chain.specs.Chain.{bundle_by}
use Rattle.stage_chain.specs.Right.{text_in}
use Rattle.config_keys.specs.Items.{config_name, expanded, first_fault, last_said}
use Rattle.config_keys.specs.Values.{good_value, own_value, settled, settings_of}
use Rattle.stage_driver.specs.BestPlans.{ConceptIsCheapest, PlansAreBest}
use Rattle.stage_driver.specs.FeasiblePlans.{ConceptIsFeasible, PlansAreFeasible}
use Rattle.stage_driver.specs.PlansThere.{IsGiven, each_stage, is_there}
use Rattle.stage_driver.proofs.WorkedPlans.{three_stops, concept_is_feasible, concept_is_cheapest}

-- ---- the three stops

abbrev stops : List ℕ
stops = codes "1; A; A; 0; 0\n2; B; B; 0; 0\n3; C; C; 0; 0\n"

abbrev edges : List ℕ
edges = codes "1; 1; 2; 2; 4; 5\n2; 2; 3; 3; 6; 6\n"

abbrev pool : List ℕ
pool = codes "1; 1; 1\n1; 2; 2\n2; 1; 1\n"

abbrev loads : List ℕ
loads = codes "1; 100; 2; 3\n2; 40; 1; 3\n"

abbrev costs : List ℕ
costs = codes "1; 5; 15\n2; 2; 12\n"

-- each line once
abbrev concept : List ℕ
concept = codes "1; 1; 1; 1\n1; 2; 2; 1\n2; 1; 1; 1\n"

-- the files of a concept with a tree beside it, whatever the tree says; the settings are the defaults
abbrev files_with : List ℕ → List (List ℕ × List ℕ)
files_with concept = (file_name file.Stop, stops) ∷ (file_name file.Edge, edges) ∷ (file_name file.Pool, pool)
    ∷ (file_name file.Load, loads) ∷ (file_name file.PoolCost, costs) ∷ (file_name file.Concept, concept)
    ∷ (file_name file.Tree, []) ∷ []

abbrev folder_with : List ℕ → Folder
folder_with concept = files.from_entries (files_with concept)

-- what stands there under a name
there : (concept name : List ℕ) → files.get (folder_with concept) name
    ≡ find (slice_cmp nat_cmp) name (files_with concept)
there concept name = files.get-from_entries nat_list_cmp_total (files_with concept) name

-- what the stage of concepts is given there
abbrev bundle : BundleParts
bundle = record {
  stage = stage.Concept;
  settings = record { key = key.ConceptBudget; value = pos 5000 } ∷ [];
  inputs = stops ∷ edges ∷ pool ∷ loads ∷ costs ∷ [];
}

problem_read : (problem_of bundle ≡ three_stops) × (problem_faults bundle ≡ [])
unfolding problem_of loads_of costs_of lines_of network_of stops_of by_id walk_from table_of cells_from
    cell_of values rows cleaned spelling_of value_of value_at fixed_of whole_of problem_faults line_faults
    network_faults input_faults row_faults faults errors row_whys
problem_read = (refl, refl)

given : (concept : List ℕ) → IsGiven (folder_with concept) stage.Concept bundle
unfolding settings_of settled good_value own_value expanded first_fault last_said stage_keys
given it = record {
  values = map key_default all_keys;
  settled = rw (there it config_name) refl;
  given = rw (
    there it (file_name file.Stop),
    there it (file_name file.Edge),
    there it (file_name file.Pool),
    there it (file_name file.Load),
    there it (file_name file.PoolCost),
  ) refl;
}

-- ---- the concept there is feasible, and none costs less

abbrev folder : Folder
folder = folder_with concept

concept_there : ConceptIsFeasible folder
unfolding problem_of loads_of costs_of lines_of network_of stops_of by_id walk_from table_of cells_from
    cell_of values rows cleaned spelling_of value_of value_at fixed_of whole_of problem_faults line_faults
    network_faults input_faults row_faults faults errors row_whys
concept_there = record {
  there = record {
    bundle = bundle;
    given = given concept;
    faultless = refl;
    text = concept;
    stands = there concept (file_name file.Concept);
    frequencies = 1 ∷ 1 ∷ [];
    each = refl;
    reads = (refl, refl);
  };
  feasible = concept_is_feasible;
}

-- what holds of the problem holds of that of the bundle
no_cheaper : (other : List ℕ) → IsConcept (problem_of bundle) other
    → cost_of (problem_of bundle) (1 ∷ 1 ∷ []) ≤ cost_of (problem_of bundle) other
no_cheaper other is =
    subst (λ problem. cost_of problem (1 ∷ 1 ∷ []) ≤ cost_of problem other) (sym problem_read.0)
    (by_lines other (subst (λ problem. IsConcept problem other) problem_read.0 is))
  where
    by_lines : (other : List ℕ) → IsConcept three_stops other
        → cost_of three_stops (1 ∷ 1 ∷ []) ≤ cost_of three_stops other
    by_lines [] is = absurd (omega (arith, is.each))
    by_lines (f ∷ []) is = absurd (omega (arith, is.each))
    by_lines (f ∷ g ∷ []) is = concept_is_cheapest f g is
    by_lines (f ∷ g ∷ h ∷ more) is = absurd (omega (arith, is.each))

-- each line once, in a folder
concept_there_is_cheapest : ConceptIsCheapest folder
unfolding concept_there
concept_there_is_cheapest = record { own = concept_there; cheapest = no_cheaper }

-- a file that is not among them does not stand there
not_there : {T : Type 0} (file : FileId)
    → find (slice_cmp nat_cmp) (file_name file) (files_with concept) ≡ None → is_there folder file ≡ true → T
not_there file none stands =
    absurd (false≢true (sym (ap is_some (there concept (file_name file) ∙ none)) ∙ stands))

-- the concept in the folder is feasible, and no other plan stands there
pub plans_are_feasible : PlansAreFeasible each_stage folder
plans_are_feasible = record {
  concept = λ stands. concept_there;
  timetable = λ stands. not_there file.TimesP refl stands.1;
  schedule = λ stands. not_there file.Schedule refl stands.1;
}

-- and none costs less
pub plans_are_best : PlansAreBest each_stage folder
plans_are_best = record {
  concept = λ stands. concept_there_is_cheapest;
  schedule = λ stands. not_there file.Potential refl stands.1;
  disposition = λ stands. not_there file.Disposed refl stands.1;
  marked = λ stands. not_there file.Schedule refl stands.1;
}

-- ---- a dearer concept beside a tree breaks the promise

-- the first line twice, which costs 30 in the place of 27
abbrev dear : List ℕ
dear = codes "1; 1; 1; 2\n1; 2; 2; 2\n2; 1; 1; 0\n"

same_ok : {A E : Type 0} (a b : A) (one other : Result A E) → one ≡ Ok a → other ≡ Ok b → one ≡ other
    → a ≡ b
same_ok a b one other is also same = cc

-- its rows tell that its frequencies are 2 and 0, so it costs more than one that is feasible
costs_more : (frequencies : List ℕ) → length frequencies ≡ 2
    → map (λ row. row.cells) (table_of concept_columns dear)
    ≡ map (λ row. row.cells) (concept_rows three_stops frequencies)
    → ((other : List ℕ) → IsConcept three_stops other
    → cost_of three_stops frequencies ≤ cost_of three_stops other) → ⊥
unfolding table_of cells_from cell_of values rows cleaned spelling_of value_of value_at whole_of
costs_more [] each reads least = omega (arith, each)
costs_more (f ∷ []) each reads least = omega (arith, each)
costs_more (f ∷ g ∷ []) each reads least =
    let twice : pos 2 ≡ pos f = ap (λ rows. get_or (get_or rows 0 []) 3 (pos 0)) reads in
    let most = least (1 ∷ 1 ∷ []) concept_is_feasible in omega (arith, ints, twice, most)
costs_more (f ∷ g ∷ h ∷ more) each reads least = omega (arith, each)

-- the first line twice, in a folder with the same other files
dear_is_not_cheapest : ¬ ConceptIsCheapest (folder_with dear)
unfolding given
dear_is_not_cheapest is =
    let own = is.own.there in
    let values : own.given.values ≡ map key_default all_keys =
    same_ok _ _ _ _ own.given.settled (given dear).settled refl in
    let same : own.bundle ≡ bundle = same_ok _ _ _ _ own.given.given (given dear).given
    (ap (λ values. bundle_by (text_in (folder_with dear)) values stage.Concept) values) in
    let problem : problem_of own.bundle ≡ three_stops = ap problem_of same ∙ problem_read.0 in
    let text : own.text ≡ dear = same_Some _ _ (sym own.stands ∙ there dear (file_name file.Concept)) in
    costs_more own.frequencies (own.each ∙ ap (λ problem. length problem.lines) problem)
    (subst (λ text. map (λ row. row.cells) (table_of concept_columns text)
    ≡ map (λ row. row.cells) (concept_rows three_stops own.frequencies)) text
    (subst (λ problem. map (λ row. row.cells) (table_of concept_columns own.text)
    ≡ map (λ row. row.cells) (concept_rows problem own.frequencies)) problem own.reads.1))
    (subst (λ problem. (other : List ℕ) → IsConcept problem other
    → cost_of problem own.frequencies ≤ cost_of problem other) problem is.cheapest)

-- with the dearer concept beside the tree the folder breaks the promise
pub plans_are_not_best : ¬ PlansAreBest each_stage (folder_with dear)
plans_are_not_best best = dear_is_not_cheapest
    (best.concept (refl, ap is_some (there dear (file_name file.Tree))))
