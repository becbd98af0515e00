use Rattle.plan_num.proofs.Common.{ap}
use Rattle.event_tables.proofs.Common.{event_delay_input, expanded_event_ids}
use Rattle.delay_management.specs.DispositionStage.{event_delays_in}
use Rattle.delay_management.proofs.RefusedInputs.{reads_as}
use Rattle.delay_management.proofs.inputs.event_delays_of.Goals as goal

pub returns-clause-read : goal.returns-clause-read
unfolding event_delays_in
returns-clause-read c =
    reads_as _ _ _ _ c.event_delays.result (ap (λ events. event_delay_input (expanded_event_ids events))
    c.requires.events) c.input.ensures
    c.event_delays.ensures.read
