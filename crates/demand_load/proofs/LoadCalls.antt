-- The stage of loads, from what each of its inputs gives.
use Rattle.plan_num.proofs.Common.{arith, ◌≡◌, ◌≢◌, ℕ, cond, true, false, List, [], length, map, ap}
use Rattle.plan_num.proofs.Common.{refl, subst, sym, ◌∙◌, Ok, Err, ne_eqb, eq-eqb, length-map}
use Rattle.plan_num.proofs.Common.{length-map-range_with_len}
use Rattle.giv_files.specs.declared.key.Key.TheVariants as key
use Rattle.giv_files.specs.declared.made.Made.{Made}
use Rattle.giv_files.specs.declared.setting.Setting.{Setting}
use Rattle.giv_files.proofs.Common.{BundleParts, SettingsFit, Fits, amount, input_text, StageGives}
use Rattle.giv_files.proofs.Common.{amount_within, stage_refused}
use Rattle.tables.specs.declared.refusal.StageFault.{StageFault}
use Rattle.tables.proofs.Common.{Refuses, input_faults, records_of, refused_append, refused_before}
use Rattle.giv_files.specs.declared.stage.Stage.TheVariants as stage
use Rattle.walks.proofs.Common.{NetworkParts}
use Rattle.ptn_network.specs.Networks.{network_of, network_faults}
use Rattle.ptn_network.specs.declared.edge_load.EdgeLoad.{EdgeLoad}
use Rattle.demand_load.specs.Demand.{demand_input, demand_loads}
use Rattle.tables.specs.declared.file_id.FileId.TheVariants as file
use Rattle.ptn_network.specs.Loads.{load_input, loads_of}
use Rattle.ptn_network.proofs.LoadRows.{loads_count as edge_loads_count}
use Rattle.demand_load.specs.LoadStage.{takes_demand, bounded, loads_by, text_faults, frequency_faults, load_faults, loads_in, load_stage}
use Rattle.demand_load.specs.LoadTables.{loads_made, HasSpread}

-- the settings of a bundle that fits are within their ranges
pub settings_fit : (bundle : BundleParts) → bundle.stage ≡ stage.Load → Fits bundle
    → HasSpread bundle.settings
settings_fit bundle is fits =
    let own = subst (λ of. SettingsFit of bundle.settings) is fits.settings in
    let passengers = amount_within stage.Load bundle.settings key.GenPassengersPerVehicle _ _ own
    refl refl refl in
    record {
      some = passengers.0;
      few = passengers.1;
      spread = (amount_within stage.Load bundle.settings key.LoadSpread _ _ own refl refl refl).1;
    }

-- ---- the source of loads

module _ (settings : List Setting) (network : NetworkParts) (text : List ℕ) where
  module _ (given : amount settings key.LoadSource ≢ 0) where
    other : takes_demand settings ≡ false
    other = ne_eqb (amount settings key.LoadSource) 0 given

    pub given_faults : input_faults (load_input file.LoadGiven network.edges) text
        ≡ text_faults settings network text
    unfolding text_faults
    given_faults = sym (ap (λ b. cond b (input_faults (demand_input network) text)
        (input_faults (load_input file.LoadGiven network.edges) text)) other)

    pub loads_given : loads_of file.LoadGiven network.edges text ≡ loads_by settings network text
    unfolding loads_by
    loads_given = grind arith

  module _ (none : amount settings key.LoadSource ≡ 0) where
    own : takes_demand settings ≡ true
    own = eq-eqb (amount settings key.LoadSource) 0 none

    pub demand_faults : input_faults (demand_input network) text ≡ text_faults settings network text
    unfolding text_faults
    demand_faults = sym (ap (λ b. cond b (input_faults (demand_input network) text)
        (input_faults (load_input file.LoadGiven network.edges) text)) own)

    pub loads_of_demand : map (bounded settings) (demand_loads network
        (records_of (demand_input network) text)) ≡ loads_by settings network text
    unfolding loads_by
    loads_of_demand = grind arith

  -- each edge has a load
  pub loads_count : length (loads_by settings network text) ≡ length network.edges
  unfolding loads_by
  loads_count = grind (arith, length-map, length-map-range_with_len, edge_loads_count)

-- ---- the stage

module _ (bundle : BundleParts) where
  -- texts that give no network
  pub network_refused : (reason : StageFault)
      → Refuses (network_faults (input_text bundle 0) (input_text bundle 1)) reason
      → StageGives (load_stage bundle) (Err reason)
  unfolding load_stage
  network_refused reason h = grind (arith, stage_refused, refused_before, refused_append)

  module _ (network : NetworkParts) (none : network_faults (input_text bundle 0)
      (input_text bundle 1) ≡ []) (is : network ≡ network_of (input_text bundle 0)
      (input_text bundle 1)) where
    later : text_faults bundle.settings network (input_text bundle 2) ≡ load_faults bundle
    later = grind arith

    -- a text that gives no loads
    pub text_refused : (reason : StageFault)
        → Refuses (text_faults bundle.settings network (input_text bundle 2)) reason
        → StageGives (load_stage bundle) (Err reason)
    unfolding load_stage
    text_refused reason h = grind (arith, stage_refused, refused_before, later)

    module _ (loads : List EdgeLoad) (faultless : text_faults bundle.settings network
        (input_text bundle 2) ≡ []) (read : loads ≡ loads_by bundle.settings network
        (input_text bundle 2)) where
      loads_are : loads ≡ loads_in bundle
      loads_are = read ∙ ap (λ some. loads_by bundle.settings some (input_text bundle 2)) is

      -- a frequency that is too great
      pub frequency_refused : (reason : StageFault) → Refuses (frequency_faults loads) reason
          → StageGives (load_stage bundle) (Err reason)
      unfolding load_stage
      frequency_refused reason h = grind arith

      -- texts without a fault
      pub stage_given : (made : Made) → frequency_faults loads ≡ []
          → made ≡ loads_made network.edges loads → StageGives (load_stage bundle) (Ok made)
      unfolding load_stage
      stage_given made rare given = grind arith
