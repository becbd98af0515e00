use Rattle.plan_num.proofs.Common.{refl, arith}
use Rattle.tables.proofs.Common.{activities_x_columns, plain_header, columns_written}
use Rattle.event_tables.specs.Headers.{expanded_activity_header}
use Rattle.event_tables.proofs.CellFacts.{small_cells}
use Rattle.event_tables.proofs.CellsBack.{expanded_activity_same}
use Rattle.event_tables.proofs.made_texts.expanded_activities_text.Goals as goal

pub write_records-requires : goal.write_records-requires
write_records-requires c = (
  omega arith,
  (
    omega arith,
    (omega arith, (columns_written activities_x_columns refl, ((refl, plain_header expanded_activity_header refl), (λ cells h. small_cells activities_x_columns cells refl h, (c.requires, expanded_activity_same))))),
  ),
)
