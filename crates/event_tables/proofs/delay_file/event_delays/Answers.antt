use Rattle.plan_num.proofs.Common.{ℕ, List, subst, sym}
use Rattle.event_tables.specs.Delays.{event_delay_input}
use Rattle.tables.proofs.Common.{ReadsFile}
use Rattle.event_tables.proofs.delay_file.event_delays.Goals as goal

pub returns-clause-read : goal.returns-clause-read
returns-clause-read c =
    subst (λ (ids : List ℕ). ReadsFile (event_delay_input ids) c.args.text.now c.read_delays.result)
    (sym c.requires) c.read_delays.ensures.read
