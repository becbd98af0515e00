-- What a stage is given by the files that stand in a folder, whoever made them.
use Rattle.std.specs.Prelude.{ℤ, List, Result, Ok, Err}
use Rattle.plan_files.specs.Folder.{Folder}
use Rattle.giv_files.specs.declared.stage.Stage.{Stage}
use Rattle.giv_files.specs.Settings.{BundleParts}
use Rattle.config_keys.specs.declared.config_fault.ConfigFault.{ConfigFault}
use Rattle.config_keys.specs.Items.{look_in}
use Rattle.config_keys.specs.Values.{effective}
use Rattle.stage_chain.specs.declared.cause.Cause.{Cause}
use Rattle.stage_chain.specs.declared.cause.Cause.TheVariants as cause
use Rattle.stage_chain.specs.Chain.{bundle_by}
use Rattle.stage_chain.specs.Right.{text_in}

-- under settings, or a fault of them
abbrev pub bundle_under : Folder → Stage → Result (List ℤ) ConfigFault → Result BundleParts Cause
bundle_under folder stage (Err reason) = Err (cause.BadConfig reason)
bundle_under folder stage (Ok values) = bundle_by (text_in folder) values stage

-- under the settings of the folder
abbrev pub standing_bundle : Folder → Stage → Result BundleParts Cause
standing_bundle folder stage = bundle_under folder stage (effective (look_in folder))
