-- Which stage runs in a place of the planning chain.
use Rattle.std.specs.Prelude.{ℤ, pos, if◌then◌else◌, Bool, List}
use Rattle.std.specs.Ordering.{int_eq}
use Rattle.giv_files.specs.declared.key.Key.{Key}
use Rattle.giv_files.specs.declared.key.Key.TheVariants as key
use Rattle.giv_files.specs.declared.stage.Stage.{Stage}
use Rattle.giv_files.specs.declared.stage.Stage.TheVariants as stage
use Rattle.config_keys.specs.Config.{value_at}

-- the value of a key is `yes`: people give what is made in its place
abbrev pub is_pinned : List ℤ → Key → Bool
is_pinned values key = int_eq (value_at values key) (pos 1)

-- the stage that runs in a place under settings: where people give what is made there, the one that
-- takes it
abbrev pub in_place : List ℤ → Stage → Stage
in_place values stage.Concept =
    if is_pinned values key.PinConcept then stage.PinnedConcept else stage.Concept
in_place values stage.Timetable =
    if is_pinned values key.PinTimetable then stage.PinnedTimetable else stage.Timetable
in_place values stage.Vehicles =
    if is_pinned values key.PinVehicles then stage.PinnedVehicles else stage.Vehicles
in_place values place = place
