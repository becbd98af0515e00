use Rattle.plan_num.proofs.Common.{range_with_len}
use Rattle.tables.proofs.Common.{input_faults, records_of}
use Rattle.event_tables.specs.Delays.{delay_input, AreDelays}
use Rattle.event_tables.proofs.SoundFiles.{sound_read}
use Rattle.event_tables.proofs.SoundTrips.{delays_sound}
use Rattle.event_tables.proofs.delay_file.read_delays.Goals as goal

pub returns-clause-sound : goal.returns-clause-sound
returns-clause-sound c =
    let text = c.args.text.now in
    let input = delay_input c.args.file c.args.unknown (range_with_len 1 c.args.count) in
    sound_read (λ rows. rows.items) (input_faults input text)
    (records_of input text) (AreDelays c.args.count) c.read_file.result c.read_file.ensures
    (delays_sound c.args.file c.args.unknown c.args.count text)
