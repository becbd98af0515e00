-- The activities so far are those of the rows so far.
use Rattle.plan_num.proofs.Common.{◌≡◌, map, take}
use Rattle.pesp_model.specs.PespTexts.{activity_of}
use Rattle.pesp_model.proofs.read_texts.activities_of_rows.Given as goal

abbrev pub invariant-loop-row : goal.invariant-loop-row
invariant-loop-row l = l.activities.items ≡ map activity_of (take l.row-index l.rows)
