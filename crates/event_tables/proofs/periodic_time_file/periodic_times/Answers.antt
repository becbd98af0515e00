use Rattle.plan_num.proofs.Common.{List, ℕ, length, refl, subst, sym, range_with_len}
use Rattle.plan_num.proofs.Common.{err_from_is_err_and}
use Rattle.tables.proofs.Common.{input_faults, records_of, Refuses, ReadsFile, refused_without}
use Rattle.event_tables.specs.PeriodicFiles.{periodic_time_input, ArePeriodicTimes}
use Rattle.event_tables.proofs.SoundFiles.{sound_read}
use Rattle.event_tables.proofs.SoundTimes.{periodic_times_sound}
use Rattle.event_tables.proofs.WholeFiles.{read_whole}
use Rattle.event_tables.proofs.periodic_time_file.periodic_times.Goals as goal

pub returns-in_err-rows-clause-read : goal.returns-in_err-rows-clause-read
returns-in_err-rows-clause-read c =
    let text = c.args.text.now in
    let p = err_from_is_err_and c.from_residual.result c.from_residual.ensures.1 in
    rw (p.1, p.2) (subst (λ (ids : List ℕ). Refuses
    (input_faults (periodic_time_input c.args.file c.args.period ids) text) c.in_err-rows.field-0.0) (sym c.requires)
    (refused_without (periodic_time_input c.args.file c.args.period (range_with_len 1 (length c.args.events.now))) text
    c.in_err-rows.field-0.0 c.in_err-rows.ensures))

pub returns-clause-read : goal.returns-clause-read
returns-clause-read c =
    let text = c.args.text.now in
    let count = length c.args.events.now in
    let input = periodic_time_input c.args.file c.args.period (range_with_len 1 count) in
    let read = c.in_ok-rows.ensures in
    subst (λ (ids : List ℕ). ReadsFile (periodic_time_input c.args.file c.args.period ids) text c.all_there.result)
    (sym c.requires)
    (read_whole input text (λ row. row.event) count refl
    (λ rows. rows.items) _ c.in_ok-rows.rows refl read.0 read.1 c.all_there.result c.all_there.ensures)

pub returns-clause-sound : goal.returns-clause-sound
returns-clause-sound c =
    let text = c.args.text.now in
    let count = length c.args.events.now in
    let input = periodic_time_input c.args.file c.args.period (range_with_len 1 count) in
    let read = c.in_ok-rows.ensures in
    sound_read (λ rows. rows.items) (input_faults input text)
    (records_of input text) (ArePeriodicTimes c.args.period count) c.all_there.result
    (read_whole input text (λ row. row.event) count refl
    (λ rows. rows.items) _ c.in_ok-rows.rows refl read.0 read.1 c.all_there.result c.all_there.ensures)
    (periodic_times_sound c.args.file c.args.period count text)
