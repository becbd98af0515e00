use Rattle.plan_num.proofs.Common.{refl, arith}
use Rattle.tables.proofs.Common.{trips_columns, plain_header, columns_written}
use Rattle.event_tables.specs.Headers.{trip_header}
use Rattle.event_tables.proofs.CellFacts.{small_cells}
use Rattle.event_tables.proofs.CellsBack.{trip_same}
use Rattle.event_tables.proofs.made_texts.trips_text.Goals as goal

pub write_records-requires : goal.write_records-requires
write_records-requires c = (
  omega arith,
  (
    omega arith,
    (
      omega arith,
      (
        columns_written trips_columns refl,
        (
          (refl, plain_header trip_header refl),
          (λ cells h. small_cells trips_columns cells refl h, (c.requires, trip_same)),
        ),
      ),
    ),
  ),
)
