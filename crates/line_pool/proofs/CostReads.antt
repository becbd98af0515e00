-- The costs that are made, read again, are right.
use Rattle.plan_num.proofs.Common.{◌≡◌, refl, ap, sym, arith, Ok}
use Rattle.giv_files.specs.declared.made.Made.{Made}
use Rattle.giv_files.proofs.Common.{BundleParts, Fits, input_text, made_unless, none_unless}
use Rattle.giv_files.specs.declared.stage.Stage.TheVariants as stage
use Rattle.tables.proofs.Common.{pool_cost_columns, table_text, ReadsBack, front_none, back_none}
use Rattle.tables.proofs.Common.{written_back, plain_header, columns_written}
use Rattle.ptn_network.specs.Networks.{network_faults}
use Rattle.ptn_network.proofs.Sound.{network_sound}
use Rattle.line_pool.specs.CostStage.{cost_header, cost_stage, network_in}
use Rattle.line_walks.specs.declared.line_file.LineFile.TheVariants as kind
use Rattle.line_walks.specs.Pools.{pool_faults}
use Rattle.line_pool.specs.RightCosts.{lines_in, cost_rows, CostsAreRight}
use Rattle.line_pool.proofs.CostCalls.{settings_modest}
use Rattle.line_pool.proofs.CostRows.{rows_in_columns}
use Rattle.line_pool.proofs.CostsAccepted.{costs_accepted}
use Rattle.line_walks.proofs.SoundLines.{pool_sound}
use Rattle.line_walks.proofs.WholeLines.{whole_lines}

-- what the stage makes of inputs without a fault
pub costs_are_right : (bundle : BundleParts) (made : Made) → bundle.stage ≡ stage.Cost → Fits bundle
    → cost_stage bundle ≡ Ok made → CostsAreRight bundle made
unfolding cost_stage
costs_are_right bundle made own fits is =
    let none = none_unless _ _ made is in
    let network = network_sound (input_text bundle 0) (input_text bundle 1) (front_none _ _ none) in
    let later = back_none (network_faults (input_text bundle 0) (input_text bundle 1))
    (pool_faults (network_in bundle.inputs) (input_text bundle 2)) none in
    let lines = pool_sound kind.Pool (network_in bundle.inputs) (input_text bundle 2) network later in
    let text = table_text cost_header pool_cost_columns (cost_rows bundle) in
    let reads : ReadsBack pool_cost_columns (cost_rows bundle) text =
    written_back cost_header pool_cost_columns (cost_rows bundle) (omega arith) (columns_written pool_cost_columns refl)
    (rows_in_columns bundle.settings (network_in bundle.inputs).edges
    (settings_modest bundle own fits) (lines_in bundle) lines)
    (refl, plain_header cost_header refl) in
    record {
      inputs = none;
      text = text;
      one = ap (λ (made : Made). made.files) (sym (made_unless _ _ made is));
      reads = reads;
      accepted = costs_accepted bundle.settings (network_in bundle.inputs).edges
          (lines_in bundle) text (whole_lines kind.Pool (network_in bundle.inputs)
          (input_text bundle 2) network later).rise reads;
    }
