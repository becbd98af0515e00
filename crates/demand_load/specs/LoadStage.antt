-- The stage of loads: of each edge its load, and the bounds of its frequency.
use Rattle.std.specs.Prelude.{ℕ, pos, ◌+◌, ◌*◌, ◌==◌, int_lt, if◌then◌else◌, Bool, List, [], ◌∷◌, ◌++◌, map, unsigned_abs, Result}
use Rattle.std.specs.List.{flat_map}
use Rattle.std.specs.Int.{div_ceil}
use Rattle.tables.specs.declared.counted.Counted.TheVariants as counted
use Rattle.giv_files.specs.declared.key.Key.TheVariants as key
use Rattle.giv_files.specs.declared.made.Made.{Made}
use Rattle.tables.specs.declared.refusal.Refusal.{Refusal}
use Rattle.tables.specs.declared.refusal.Refusal.TheVariants as refusal
use Rattle.giv_files.specs.declared.setting.Setting.{Setting}
use Rattle.tables.specs.Inputs.{input_faults, records_of, or_else}
use Rattle.giv_files.specs.Settings.{BundleParts, amount}
use Rattle.giv_files.specs.StageCalls.{input_text, unless_fault}
use Rattle.walks.specs.Networks.{NetworkParts}
use Rattle.ptn_network.specs.Networks.{network_faults}
pub use Rattle.ptn_network.specs.Networks.{network_in}
use Rattle.ptn_network.specs.declared.edge_load.EdgeLoad.{EdgeLoad}
use Rattle.demand_load.specs.Demand.{demand_input, demand_loads}
use Rattle.tables.specs.declared.file_id.FileId.TheVariants as file
use Rattle.ptn_network.specs.Loads.{load_input, loads_of}
use Rattle.demand_load.specs.LoadTables.{loads_made}

-- loads come of demand, and otherwise from their file
abbrev pub takes_demand : List Setting → Bool
takes_demand settings = amount settings key.LoadSource == 0

-- the places of a vehicle, in millionths as loads are
abbrev pub places : List Setting → ℕ
places settings = amount settings key.GenPassengersPerVehicle * 1000000

-- the minimal frequency of a load: how many vehicles have places for it
abbrev pub least_frequency : List Setting → ℕ → ℕ
least_frequency settings load = div_ceil load (places settings)

-- a load with its bounds of frequency
abbrev pub bounded : List Setting → ℕ → EdgeLoad
bounded settings load = record {
  load = pos load;
  least = pos (least_frequency settings load);
  most = pos (least_frequency settings load + amount settings key.LoadSpread);
}

-- the loads of the edges of a network by the text of demand or of given loads, and the faults of
-- that text
unfoldable pub loads_by : List Setting → NetworkParts → List ℕ → List EdgeLoad
loads_by settings network text =
    if takes_demand settings
    then map (bounded settings) (demand_loads network (records_of (demand_input network) text))
    else loads_of file.LoadGiven network.edges text

unfoldable pub text_faults : List Setting → NetworkParts → List ℕ → List Refusal
text_faults settings network text =
    if takes_demand settings
    then input_faults (demand_input network) text
    else input_faults (load_input file.LoadGiven network.edges) text

-- the maximal frequencies that are too great, in the order of the edges
abbrev pub frequency_faults : List EdgeLoad → List Refusal
frequency_faults loads =
    flat_map (λ load. if int_lt (pos 1000) load.most
    then refusal.TooMany counted.Frequency (unsigned_abs load.most) ∷ [] else []) loads

-- every fault of the texts of a bundle, in the order of its inputs
abbrev pub load_faults : BundleParts → List Refusal
load_faults bundle =
    network_faults (input_text bundle 0) (input_text bundle 1)
    ++ text_faults bundle.settings (network_in bundle.inputs) (input_text bundle 2)

-- the loads of a bundle
abbrev pub loads_in : BundleParts → List EdgeLoad
loads_in bundle = loads_by bundle.settings (network_in bundle.inputs) (input_text bundle 2)

-- the stage, whose inputs are the texts of stops, of edges, and of demand or given loads: from
-- settings and input texts to what is made, or the first fault; frequencies count where the texts
-- have none
unfoldable pub load_stage : BundleParts → Result Made Refusal
load_stage bundle =
    unless_fault (or_else (load_faults bundle) (frequency_faults (loads_in bundle)))
    (loads_made (network_in bundle.inputs).edges (loads_in bundle))
