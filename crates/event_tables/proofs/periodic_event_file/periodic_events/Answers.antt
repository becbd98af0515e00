use Rattle.tables.proofs.Common.{input_faults, records_of}
use Rattle.event_tables.specs.PeriodicFiles.{periodic_event_input, ArePeriodicEvents}
use Rattle.event_tables.proofs.SoundFiles.{sound_read, periodic_events_sound}
use Rattle.event_tables.proofs.periodic_event_file.periodic_events.Goals as goal

pub returns-clause-sound : goal.returns-clause-sound
returns-clause-sound c =
    let text = c.args.text.now in
    sound_read (λ events. events.items) (input_faults periodic_event_input text)
    (records_of periodic_event_input text) ArePeriodicEvents c.read_file.result c.read_file.ensures
    (periodic_events_sound text)
