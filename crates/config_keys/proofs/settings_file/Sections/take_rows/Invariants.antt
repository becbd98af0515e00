-- What is told with the rows that are left is read like what was told at first with all rows.
use Rattle.plan_num.proofs.Common.{length}
use Rattle.config_keys.specs.SettingsFiles.{TellsOn, brings}
use Rattle.config_keys.proofs.settings_file.Sections.take_rows.Given as goal

abbrev pub decreases-rows : goal.decreases-rows
decreases-rows l = length l.rows

abbrev pub invariant-rows : goal.invariant-rows
invariant-rows l = TellsOn l.initial.self (brings l.initial.rows) l.self (brings l.rows)
