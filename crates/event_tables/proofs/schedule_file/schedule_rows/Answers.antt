use Rattle.plan_num.proofs.Common.{◌≡◌, refl, sym, ◌∙◌, arith, err_from_is_err_and, All-weaker}
use Rattle.tables.specs.declared.refusal.StageFault.TheVariants as stage
use Rattle.tables.proofs.Common.{schedule_columns, input_faults, records_of, InColumns}
use Rattle.tables.proofs.Common.{limits_refuse, rows_read, refused_cells}
use Rattle.event_tables.specs.Cells.{AreSmall}
use Rattle.event_tables.specs.Schedules.{schedule_input, AreScheduleRows}
use Rattle.event_tables.proofs.CellFacts.{small_cells}
use Rattle.event_tables.proofs.SoundFiles.{sound_read}
use Rattle.event_tables.proofs.SoundTrips.{schedule_rows_sound}
use Rattle.event_tables.proofs.schedule_file.schedule_rows.Goals as goal
use Rattle.plan_num.proofs.Lists.{none_first}

pub returns-in_err-table-clause-read : goal.returns-in_err-table-clause-read
returns-in_err-table-clause-read c =
    let p = err_from_is_err_and c.from_residual.result c.from_residual.ensures.1 in
    rw (p.1, p.2) (refused_cells (schedule_input c.args.events.now) c.args.text.now c.in_err-table.field-0.0
    c.in_err-table.ensures.table)

pub too_many_of_a_kind-requires : goal.too_many_of_a_kind-requires
too_many_of_a_kind-requires c = All-weaker (λ row. InColumns schedule_columns row.cells)
    (λ row. AreSmall row.cells)
    (λ row h. small_cells schedule_columns row.cells refl h) c.in_ok-table.table c.in_ok-table.ensures.cells

pub returns-in-Some-clause-read : goal.returns-in-Some-clause-read
returns-in-Some-clause-read c =
    let read = c.in_ok-table.ensures.table in
    limits_refuse (schedule_input c.args.events.now) c.args.text.now c.in_ok-table.table read.0 read.1
    (stage.Refused c.in-Some.refusal) (sym c.too_many_of_a_kind.ensures ∙ c.in-Some.is)

pub read_records-requires : goal.read_records-requires
read_records-requires c = (
  omega arith,
  (
    All-weaker (λ row. InColumns schedule_columns row.cells)
        (λ row. AreSmall row.cells)
        (λ row h. small_cells schedule_columns row.cells refl h) c.in_ok-table.table c.in_ok-table.ensures.cells,
    c.requires,
  ),
)

pub returns-clause-read : goal.returns-clause-read
returns-clause-read c =
    let read = c.in_ok-table.ensures.table in
    rows_read (schedule_input c.args.events.now) c.args.text.now c.in_ok-table.table read.0 read.1
    (λ rows all. rows.items ≡ all) refl (none_first _
    (sym c.too_many_of_a_kind.ensures
    ∙ c.in_default.is)) c.read_records.result c.read_records.ensures

pub returns-clause-sound : goal.returns-clause-sound
returns-clause-sound c =
    let text = c.args.text.now in
    let input = schedule_input c.args.events.now in
    let read = c.in_ok-table.ensures.table in
    sound_read (λ rows. rows.items) (input_faults input text)
    (records_of input text) (AreScheduleRows c.args.events.now) c.read_records.result
    (rows_read input text c.in_ok-table.table read.0 read.1
    (λ rows all. rows.items ≡ all) refl (none_first _
    (sym c.too_many_of_a_kind.ensures
    ∙ c.in_default.is)) c.read_records.result c.read_records.ensures)
    (schedule_rows_sound c.args.events.now text c.requires)
