use Rattle.plan_num.proofs.Common.{rules, refl, arith, option_map}
use Rattle.tables.proofs.Common.{trips_columns, input_faults, records_of}
use Rattle.event_tables.specs.Trips.{trip_input, AreTrips}
use Rattle.event_tables.proofs.CellFacts.{small_cells}
use Rattle.event_tables.proofs.SoundFiles.{sound_read}
use Rattle.event_tables.proofs.SoundTrips.{trips_sound}
use Rattle.event_tables.proofs.trip_file.trips.Goals as goal

pub returns-clause-sound : goal.returns-clause-sound
returns-clause-sound c =
    let text = c.args.text.now in
    let stops = option_map (λ ids. ids.now) c.args.stops in
    sound_read (λ rows. rows.items) (input_faults (trip_input stops) text)
    (records_of (trip_input stops) text) (AreTrips stops) c.read_file.result c.read_file.ensures
    (trips_sound stops text)

pub read_file-requires : goal.read_file-requires
read_file-requires c =
    (omega arith, (omega arith, (λ cells h. small_cells trips_columns cells refl h, search rules)))
