use Rattle.plan_num.proofs.Common.{List, ℕ, length, refl, subst, sym, range_with_len}
use Rattle.plan_num.proofs.Common.{err_from_is_err_and}
use Rattle.tables.proofs.Common.{input_faults, records_of, Refuses, ReadsFile, refused_without}
use Rattle.event_tables.specs.DisposedTimes.{disposed_time_input, AreDisposedTimes}
use Rattle.event_tables.proofs.SoundFiles.{sound_read}
use Rattle.event_tables.proofs.SoundTimes.{disposed_times_sound}
use Rattle.event_tables.proofs.WholeFiles.{read_whole}
use Rattle.event_tables.proofs.disposed_time_file.disposed_times.Goals as goal

pub returns-in_err-rows-clause-read : goal.returns-in_err-rows-clause-read
returns-in_err-rows-clause-read c =
    let text = c.args.text.now in
    let p = err_from_is_err_and c.from_residual.result c.from_residual.ensures.1 in
    rw (p.1, p.2) (subst (λ (ids : List ℕ). Refuses
    (input_faults (disposed_time_input ids) text) c.in_err-rows.field-0.0) (sym c.requires)
    (refused_without (disposed_time_input (range_with_len 1 (length c.args.events.now))) text c.in_err-rows.field-0.0
    c.in_err-rows.ensures))

pub returns-clause-read : goal.returns-clause-read
returns-clause-read c =
    let text = c.args.text.now in
    let count = length c.args.events.now in
    let input = disposed_time_input (range_with_len 1 count) in
    let read = c.in_ok-rows.ensures in
    subst (λ (ids : List ℕ). ReadsFile (disposed_time_input ids) text c.all_there.result)
    (sym c.requires)
    (read_whole input text (λ row. row.event) count refl
    (λ rows. rows.items) _ c.in_ok-rows.rows refl read.0 read.1 c.all_there.result c.all_there.ensures)

pub returns-clause-sound : goal.returns-clause-sound
returns-clause-sound c =
    let text = c.args.text.now in
    let count = length c.args.events.now in
    let input = disposed_time_input (range_with_len 1 count) in
    let read = c.in_ok-rows.ensures in
    sound_read (λ rows. rows.items) (input_faults input text)
    (records_of input text) (AreDisposedTimes count) c.all_there.result
    (read_whole input text (λ row. row.event) count refl
    (λ rows. rows.items) _ c.in_ok-rows.rows refl read.0 read.1 c.all_there.result c.all_there.ensures)
    (disposed_times_sound count text)
