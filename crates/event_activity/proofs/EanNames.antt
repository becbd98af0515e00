-- Which files the stage of events and activities names where it refuses a row.
use Rattle.plan_num.proofs.Common.{◌≡◌, ℕ, Bool, true, List, [], ◌∷◌, Err, arith}
use Rattle.tables.specs.declared.counted.Counted.{Counted}
use Rattle.tables.specs.declared.file_id.FileId.{FileId}
use Rattle.tables.specs.declared.refusal.Refusal.{Refusal}
use Rattle.tables.proofs.Common.{limit_faults, row_limit, NamesInput, AllName, names_both}
use Rattle.tables.proofs.Common.{names_or_else, input_names}
use Rattle.tables.specs.declared.counted.Counted.TheVariants as counted
use Rattle.tables.specs.declared.file_id.FileId.TheVariants as file
use Rattle.tables.specs.declared.refusal.Refusal.TheVariants as refusal
use Rattle.giv_files.proofs.Common.{BundleParts, input_text, refused_names}
use Rattle.line_walks.specs.Pools.{line_faults, concept_faults}
use Rattle.walks.proofs.Common.{NetworkParts}
use Rattle.ptn_network.specs.Networks.{network_faults}
use Rattle.ptn_network.proofs.NamedFaults.{network_names}
use Rattle.event_activity.specs.EanStage.{network_in, ean_faults, ean_stage, events_in, activities_in, too_many}

-- the faults of a line concept name its file
pub concept_names : (test : FileId → Bool) → test file.Concept ≡ true → (network : NetworkParts)
    (text : List ℕ) → AllName test (concept_faults network text)
unfolding line_faults
concept_names test concept network text = input_names test _ text concept

-- a list that is too long names no file
length_names : {X : Type 0} (test : FileId → Bool) (what : Counted) (most : ℕ) (rows : List X)
    → AllName test (limit_faults (row_limit what most ∷ []) rows)
length_names {X} test what most rows = grind arith

-- a refusal by a row names the file of stops, of edges, or what the faults of the concept do
pub ean_stage_names : (test : FileId → Bool) → test file.Stop ≡ true → test file.Edge ≡ true
    → (bundle : BundleParts) (reason : Refusal)
    → AllName test (concept_faults (network_in bundle.inputs) (input_text bundle 2))
    → ean_stage bundle ≡ Err reason → NamesInput test reason
unfolding ean_stage
ean_stage_names test stop edge bundle reason concept e =
    let rows : AllName test (ean_faults bundle) =
    names_both test (network_faults (input_text bundle 0) (input_text bundle 1))
    (concept_faults (network_in bundle.inputs) (input_text bundle 2))
    (network_names test stop edge (input_text bundle 0) (input_text bundle 1)) concept in
    let lengths : AllName test (too_many (events_in bundle) (activities_in bundle)) =
    names_both test
    (limit_faults (row_limit counted.PeriodicEvents 4000 ∷ []) (events_in bundle))
    (limit_faults (row_limit counted.PeriodicActivities 200000 ∷ []) (activities_in bundle))
    (length_names test counted.PeriodicEvents 4000 (events_in bundle))
    (length_names test counted.PeriodicActivities 200000 (activities_in bundle)) in
    refused_names test _ _ reason (names_or_else test (ean_faults bundle)
    (too_many (events_in bundle) (activities_in bundle)) rows lengths) e
