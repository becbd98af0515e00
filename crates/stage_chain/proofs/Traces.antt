-- The chain over hand files.
use Rattle.plan_num.proofs.Common.{All, Contains, map, arith, ◌≡◌, ℕ, ℤ, Bool, true, false, cond}
use Rattle.plan_num.proofs.Common.{leb, List, [], ◌∷◌, filter, Result, Ok, Err, refl, ap, sym, ◌∙◌}
use Rattle.plan_num.proofs.Common.{All-filter, All-contains_itself, list_all}
use Rattle.stage_chain.specs.StageParts.{staged}
use Rattle.plan_files.proofs.Common.{Folder}
use Rattle.giv_files.specs.declared.made.Made.{Made}
use Rattle.giv_files.specs.declared.stage.Stage.{Stage}
use Rattle.giv_files.proofs.Common.{MakesAs, ids_of, BundleParts, stage_makes}
use Rattle.tables.specs.declared.refusal.Refusal.{Refusal}
use Rattle.tables.proofs.Common.{file_name}
use Rattle.config_keys.specs.declared.config_fault.ConfigFault.{ConfigFault}
use Rattle.config_keys.proofs.Common.{last_stage_of, look_in, effective}
use Rattle.stage_chain.specs.Built.{chain_under, files_of, trace_under, trace_of}
use Rattle.stage_chain.specs.Chain.{Trace, stage_place, to_run}
use Rattle.stage_chain.specs.Hand.{names_made_by}
use Rattle.stage_chain.specs.Kept.{solve_over, trace_over}
use Rattle.stage_chain.specs.Runs.{name_of}
use Rattle.stage_chain.proofs.Differing.{all_both, all_parts, Differ}
use Rattle.stage_chain.proofs.Differing.{none_differ, differ_swap, differing_parts}
use Rattle.stage_chain.proofs.Differing.{parts_differing}
use Rattle.stage_chain.proofs.FoundAmongAllMade.{names_more, ArePlaced, visits_placed, visits_differ}
use Rattle.stage_chain.proofs.FoundAmongAllMade.{visits_within}
use Rattle.stage_chain.proofs.Visits.{AreVisits, chain_visits}
use Rattle.stage_chain.specs.StageLists.{differing, differs_from}
use Rattle.stage_chain.specs.StageParts.{StageParts}
use Rattle.stage_chain.specs.Laws.{AreStages}

module _ (S : StageParts) (laws : AreStages S) where
  -- what holds of a chain whose settings are refused, and of one that runs, holds of the chain over
  -- hand files
  pub traced : (hand : Folder) (P : Trace → Type 0)
      → ((reason : ConfigFault) → effective (look_in hand) ≡ Err reason → P (trace_under S (Err reason) hand))
      → ((values : List ℤ) → effective (look_in hand) ≡ Ok values → P (trace_under S (Ok values) hand))
      → P (trace_of S hand)
  unfolding trace_of
  traced hand P refused run = grind arith

  -- the same of a chain over a keep
  pub traced_over : (keep hand : Folder) (P : Trace → Type 0)
      → ((reason : ConfigFault) → effective (look_in hand) ≡ Err reason
      → P (chain_under S (solve_over S keep) (Err reason) hand))
      → ((values : List ℤ) → effective (look_in hand) ≡ Ok values
      → P (chain_under S (solve_over S keep) (Ok values) hand))
      → P (trace_over S keep hand)
  unfolding trace_over
  traced_over keep hand P refused run = grind arith

-- ---- some of the stages make some of the names

module _ (p : Stage → Bool) where
  some_within : (q : List ℕ → Bool) (stages : List Stage) → list_all q (names_made_by stages) ≡ true
      → list_all q (names_made_by (filter p stages)) ≡ true
  some_within q [] h = refl
  some_within q (stage ∷ stages) h =
      let parts = all_parts q (map file_name (stage_makes stage)) (names_made_by stages)
      (ap (list_all q) (sym (names_more stage stages)) ∙ h) in
      by (p stage) parts.0 (some_within q stages parts.1)
    where
      by : (b : Bool) → list_all q (map file_name (stage_makes stage)) ≡ true
          → list_all q (names_made_by (filter p stages)) ≡ true
          → list_all q (names_made_by (cond b (stage ∷ filter p stages) (filter p stages))) ≡ true
      by true own rest = grind (arith, names_more, all_both)
      by false own rest = rest

  some_differ : (stages : List Stage) → differing (names_made_by stages) ≡ true
      → differing (names_made_by (filter p stages)) ≡ true
  some_differ [] h = refl
  some_differ (stage ∷ stages) h =
      let names = map file_name (stage_makes stage) in
      let parts = differing_parts names (names_made_by stages) (ap differing (sym (names_more stage stages)) ∙ h) in
      let apart = differ_swap (names_made_by (filter p stages)) names
      (some_within (differs_from names) stages (differ_swap names (names_made_by stages) parts.apart)) in
      by (p stage) parts.front (some_differ stages parts.back) apart
    where
      by : (b : Bool) → differing (map file_name (stage_makes stage)) ≡ true
          → differing (names_made_by (filter p stages)) ≡ true
          → Differ (map file_name (stage_makes stage)) (names_made_by (filter p stages))
          → differing (names_made_by (cond b (stage ∷ filter p stages) (filter p stages))) ≡ true
      by true own rest apart = grind (arith, names_more, parts_differing)
      by false own rest apart = rest

module _ (S : StageParts) (laws : AreStages S) where
  -- ---- a chain that runs

  -- the stages that run under settings
  abbrev pub stages_run : List ℤ → List Stage
  stages_run values = to_run values (staged S values)

  -- each of them is one that runs in a place
  pub run_staged : (values : List ℤ) → All (Contains (staged S values)) (stages_run values)
  run_staged values =
      All-filter (λ stage. leb (stage_place stage) (stage_place (last_stage_of values))) (Contains (staged S values))
      (staged S values) (All-contains_itself (staged S values))

  -- the stages that run in some places make the files of the places
  names_staged : (values : List ℤ) (places : List Stage)
      → names_made_by (map (S.placed values) places) ≡ names_made_by places
  names_staged values [] = refl
  names_staged values (place ∷ places) = grind (arith, names_more, names_staged values places)

  -- what holds of all names that the places make holds of those that the stages there make
  pub staged_within : (values : List ℤ) (p : List ℕ → Bool) → list_all p (names_made_by S.places) ≡ true
      → list_all p (names_made_by (staged S values)) ≡ true
  staged_within values p h = ap (list_all p) (names_staged values S.places) ∙ h

  run_differ : (values : List ℤ) → differing (names_made_by (stages_run values)) ≡ true
  run_differ values =
      some_differ (λ stage. leb (stage_place stage) (stage_place (last_stage_of values))) (staged S values)
      (laws.lists values).files_differ

  module _ (solve : BundleParts → Result Made Refusal)
      (makes : (bundle : BundleParts) (made : Made) → solve bundle ≡ Ok made
      → MakesAs bundle.stage (ids_of made.files)) (values : List ℤ) (hand : Folder) where
    abbrev pub chain_by : Trace
    chain_by = chain_under S solve (Ok values) hand

    pub by_visits : AreVisits solve values hand [] (stages_run values) chain_by.visits chain_by.halt
    by_visits = chain_visits solve values hand [] (stages_run values)

    -- its visits are placed among all that it made
    pub by_placed : ArePlaced solve makes values hand (files_of chain_by.visits) (stages_run values) chain_by.visits
    by_placed =
        visits_placed solve makes values hand [] (files_of chain_by.visits) (stages_run values) chain_by.visits
        chain_by.halt by_visits (run_differ values) (none_differ (names_made_by (stages_run values))) refl

    -- the names of these differ
    pub by_differ : differing (map name_of (files_of chain_by.visits)) ≡ true
    by_differ =
        visits_differ solve makes values hand [] (stages_run values) chain_by.visits chain_by.halt by_visits
        (run_differ values)

    -- what holds of all names that the built stages make holds of them
    pub by_within : (p : List ℕ → Bool) → list_all p (names_made_by S.places) ≡ true
        → list_all p (map name_of (files_of chain_by.visits)) ≡ true
    by_within p h =
        visits_within solve makes values hand p [] (stages_run values) chain_by.visits chain_by.halt by_visits
        (some_within (λ stage. leb (stage_place stage) (stage_place (last_stage_of values))) p (staged S values)
        (staged_within values p h))

  -- the same of a chain from scratch
  module _ (values : List ℤ) (hand : Folder) where
    abbrev pub chain : Trace
    chain = trace_under S (Ok values) hand

    pub are_visits : AreVisits S.run values hand [] (stages_run values) chain.visits chain.halt
    are_visits = by_visits S.run laws.makes values hand

    pub are_placed : ArePlaced S.run laws.makes values hand (files_of chain.visits) (stages_run values) chain.visits
    are_placed = by_placed S.run laws.makes values hand
