-- The loads that are made, read again, are right.
use Rattle.plan_num.proofs.Common.{◌≡◌, refl, ap, sym, arith, Ok}
use Rattle.giv_files.specs.declared.made.Made.{Made}
use Rattle.giv_files.proofs.Common.{BundleParts, Fits, input_text, made_unless, none_unless}
use Rattle.giv_files.specs.declared.stage.Stage.TheVariants as stage
use Rattle.tables.proofs.Common.{load_columns, table_text, ReadsBack, front_none, back_none}
use Rattle.tables.proofs.Common.{written_back, plain_header, columns_written, none_after}
use Rattle.tables.proofs.Common.{none_first}
use Rattle.ptn_network.specs.Networks.{network_faults}
use Rattle.ptn_network.proofs.Sound.{network_sound}
use Rattle.demand_load.specs.LoadStage.{load_faults, load_stage, loads_in, network_in, text_faults}
use Rattle.demand_load.specs.LoadTables.{load_header, load_rows}
use Rattle.demand_load.specs.RightLoads.{LoadsAreRight}
use Rattle.demand_load.proofs.LoadCalls.{loads_count}
use Rattle.demand_load.proofs.LoadRows.{all_rare, rows_in_columns}
use Rattle.demand_load.proofs.LoadsAccepted.{loads_accepted}
use Rattle.demand_load.proofs.SoundLoads.{edges_named, loads_sound}

-- what the stage makes of inputs without a fault
pub loads_are_right : (bundle : BundleParts) (made : Made) → bundle.stage ≡ stage.Load → Fits bundle
    → load_stage bundle ≡ Ok made → LoadsAreRight bundle made
unfolding load_stage
loads_are_right bundle made _ _ is =
    let nothing = none_unless _ _ made is in
    let fine = none_first (load_faults bundle) _ nothing in
    let rare = none_after (load_faults bundle) _ nothing in
    let edges = edges_named (input_text bundle 0) (input_text bundle 1) (front_none _ _ fine) in
    let later = back_none (network_faults (input_text bundle 0) (input_text bundle 1))
    (text_faults bundle.settings (network_in bundle.inputs) (input_text bundle 2)) fine in
    let loads = loads_sound bundle.settings (network_in bundle.inputs) (input_text bundle 2) later in
    let rows = load_rows (network_in bundle.inputs).edges (loads_in bundle) in
    let text = table_text load_header load_columns rows in
    let each = loads_count bundle.settings (network_in bundle.inputs) (input_text bundle 2) in
    let reads : ReadsBack load_columns rows text =
    written_back load_header load_columns rows (omega arith) (columns_written load_columns refl)
    (rows_in_columns (network_in bundle.inputs).edges (loads_in bundle) edges loads (all_rare (loads_in bundle) rare))
    (refl, plain_header load_header refl) in
    record {
      inputs = fine;
      each = each;
      text = text;
      one = ap (λ (made : Made). made.files) (sym (made_unless _ _ made is));
      reads = reads;
      accepted = loads_accepted (network_in bundle.inputs).edges (loads_in bundle) text (network_sound (input_text bundle 0) (input_text bundle 1) (front_none _ _ fine)).edges_rise each loads reads;
    }
