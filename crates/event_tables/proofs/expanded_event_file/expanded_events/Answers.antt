use Rattle.tables.proofs.Common.{input_faults, records_of}
use Rattle.event_tables.specs.ExpandedFiles.{expanded_event_input, AreExpandedEvents}
use Rattle.event_tables.proofs.SoundFiles.{sound_read, expanded_events_sound}
use Rattle.event_tables.proofs.expanded_event_file.expanded_events.Goals as goal

pub returns-clause-sound : goal.returns-clause-sound
returns-clause-sound c =
    let text = c.args.text.now in
    sound_read (λ events. events.items) (input_faults expanded_event_input text)
    (records_of expanded_event_input text) AreExpandedEvents c.read_file.result c.read_file.ensures
    (expanded_events_sound text)
