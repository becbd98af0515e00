use Rattle.plan_num.proofs.Common.{ap}
use Rattle.event_tables.proofs.Common.{expanded_activity_input}
use Rattle.delay_management.specs.DispositionStage.{activities_in}
use Rattle.delay_management.proofs.RefusedInputs.{reads_as}
use Rattle.delay_management.proofs.inputs.activities_of.Goals as goal

pub returns-clause-read : goal.returns-clause-read
unfolding activities_in
returns-clause-read c =
    reads_as _ _ _ _ c.expanded_activities.result (ap expanded_activity_input c.requires.events) c.input.ensures
    c.expanded_activities.ensures.read
