-- What holds of a list of stages that can run one after the other.
use Rattle.std.specs.Prelude.{ℕ, ◌≡◌, ltb, not, ◌&&◌, ◌||◌, Bool, true, false, List, [], ◌∷◌, ◌++◌, map, filter}
use Rattle.std.specs.List.{list_all, flat_map}
use Rattle.std.specs.Option.{option_map_or}
use Rattle.std.specs.Str.{bytes_eq}
use Rattle.tables.specs.declared.file_id.FileId.{FileId}
use Rattle.giv_files.specs.declared.stage.Stage.{Stage}
use Rattle.tables.specs.FileNames.{file_name}
use Rattle.giv_files.specs.Stages.{stage_inputs, stage_makes, stage_row}
use Rattle.stage_keep.specs.Entries.{keep_name}
use Rattle.stage_chain.specs.declared.origin.Origin.{Origin}
use Rattle.stage_chain.specs.declared.origin.Origin.TheVariants as origin
use Rattle.stage_chain.specs.Chain.{origin_of, stage_place}
use Rattle.stage_chain.specs.Hand.{is_among, is_hand, keep_names, names_made_by}

-- a name differs from each of some names
abbrev pub differs_from : List (List ℕ) → List ℕ → Bool
differs_from names name = list_all (λ other. not (bytes_eq name other)) names

-- names of which no two are the same
abbrev pub differing : List (List ℕ) → Bool
differing [] = true
differing (name ∷ names) = differs_from names name && differing names

-- each stage comes before those behind it
unfoldable pub rising : List Stage → Bool
rising [] = true
rising (stage ∷ stages) =
    list_all (λ other. ltb (stage_place stage) (stage_place other)) stages && rising stages

-- those of some stages that run before one
abbrev pub before_stage : List Stage → Stage → List Stage
before_stage stages stage = filter (λ other. ltb (stage_place other) (stage_place stage)) stages

-- the files that a stage makes wherever it is made
abbrev pub always_made : Stage → List FileId
always_made stage =
    option_map_or (λ file. file ∷ []) (stage_row stage).alone (stage_makes stage)

-- an input is what a stage before makes
unfoldable pub is_earlier : Origin → Bool
is_earlier origin.Earlier = true
is_earlier origin.Needed = false
is_earlier origin.Optional = false

-- each input of a stage that people do not write is made wherever the stages before it are made
abbrev pub needs : List Stage → Stage → Bool
needs stages stage =
    list_all
    (λ file. not (is_earlier (origin_of file)) || is_among (file_name file)
    (map file_name (flat_map always_made (before_stage stages stage)))) (stage_inputs stage)

-- the name under which some stage keeps
abbrev pub is_kept_name : List ℕ → Bool
is_kept_name name = is_among name keep_names

-- Each stage of a list comes before those behind it and takes what they make before it; no two
-- files that they make, or in which they keep that, have one name; no name of a made file is one of a
-- keep file, nor one of a file that people write.
pub record IsStageList (stages : List Stage) : Type 0 where
  pub rise : rising stages ≡ true
  pub given : list_all (needs stages) stages ≡ true
  pub files_differ : differing (names_made_by stages) ≡ true
  pub keeps_differ : differing (map keep_name stages) ≡ true
  pub no_keep : list_all (λ name. not (is_kept_name name)) (names_made_by stages) ≡ true
  pub no_hand : list_all (λ name. not (is_hand name)) (names_made_by stages) ≡ true

-- A stage can run in a place: it comes at the same point of the chain, it makes the files of the stage
-- that names the place, and takes what that one takes, and perhaps more after it.
pub record CanRunIn (place stage : Stage) : Type 0 where
  pub point : stage_place stage ≡ stage_place place
  pub makes : stage_makes stage ≡ stage_makes place
  pub more : List FileId
  pub inputs : stage_inputs stage ≡ stage_inputs place ++ more
