use Rattle.tables.proofs.Common.{input_faults, records_of}
use Rattle.event_tables.specs.ExpandedFiles.{expanded_activity_input, AreExpandedActivities}
use Rattle.event_tables.proofs.SoundFiles.{sound_read, expanded_activities_sound}
use Rattle.event_tables.proofs.expanded_activity_file.expanded_activities.Goals as goal

pub returns-clause-sound : goal.returns-clause-sound
returns-clause-sound c =
    let text = c.args.text.now in
    let input = expanded_activity_input c.args.events.now in
    sound_read (λ rows. rows.items) (input_faults input text)
    (records_of input text) (AreExpandedActivities c.args.events.now) c.read_file.result c.read_file.ensures
    (expanded_activities_sound c.args.events.now text c.requires)
