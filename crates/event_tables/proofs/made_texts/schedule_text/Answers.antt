use Rattle.plan_num.proofs.Common.{refl, arith}
use Rattle.tables.proofs.Common.{schedule_columns, plain_header, columns_written}
use Rattle.event_tables.specs.Headers.{schedule_header}
use Rattle.event_tables.proofs.CellFacts.{small_cells}
use Rattle.event_tables.proofs.CellsBack.{schedule_row_same}
use Rattle.event_tables.proofs.made_texts.schedule_text.Goals as goal

pub write_records-requires : goal.write_records-requires
write_records-requires c = (
  omega arith,
  (
    omega arith,
    (omega arith, (columns_written schedule_columns refl, ((refl, plain_header schedule_header refl), (λ cells h. small_cells schedule_columns cells refl h, (c.requires, schedule_row_same))))),
  ),
)
