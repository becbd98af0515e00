use Rattle.plan_num.proofs.Common.{ap}
use Rattle.event_tables.proofs.Common.{activity_delay_input, expanded_activity_ids}
use Rattle.delay_management.specs.DispositionStage.{activity_delays_in}
use Rattle.delay_management.proofs.RefusedInputs.{reads_as}
use Rattle.delay_management.proofs.inputs.activity_delays_of.Goals as goal

pub returns-clause-read : goal.returns-clause-read
unfolding activity_delays_in
returns-clause-read c =
    reads_as _ _ _ _ c.activity_delays.result
    (ap (λ activities. activity_delay_input (expanded_activity_ids activities)) c.requires.activities) c.input.ensures
    c.activity_delays.ensures.read
