use Rattle.plan_num.proofs.Common.{ℕ, List, length, subst, sym, range_with_len}
use Rattle.tables.proofs.Common.{input_faults, records_of, ReadsFile}
use Rattle.event_tables.specs.PeriodicFiles.{periodic_activity_input, ArePeriodicActivities}
use Rattle.event_tables.proofs.SoundFiles.{sound_read, periodic_activities_sound}
use Rattle.event_tables.proofs.periodic_activity_file.periodic_activities.Goals as goal

pub returns-clause-sound : goal.returns-clause-sound
returns-clause-sound c =
    let text = c.args.text.now in
    let count = length c.args.events.now in
    let input = periodic_activity_input (range_with_len 1 count) in
    sound_read (λ rows. rows.items) (input_faults input text)
    (records_of input text) (ArePeriodicActivities count) c.read_file.result c.read_file.ensures
    (periodic_activities_sound count text)

pub returns-clause-read : goal.returns-clause-read
returns-clause-read c =
    subst
    (λ (ids : List ℕ). ReadsFile (periodic_activity_input ids) c.args.text.now c.read_file.result)
    (sym c.requires) c.read_file.ensures
