use Rattle.plan_num.proofs.Common.{refl, arith}
use Rattle.tables.proofs.Common.{disposed_columns, plain_header, columns_written}
use Rattle.event_tables.specs.Headers.{disposed_time_header}
use Rattle.event_tables.proofs.CellsBack.{disposed_time_same}
use Rattle.event_tables.proofs.made_texts.disposed_times_text.Goals as goal

pub write_records-requires : goal.write_records-requires
write_records-requires c = (
  omega arith,
  (
    omega arith,
    (omega arith, (columns_written disposed_columns refl, ((refl, plain_header disposed_time_header refl), (λ cells h. h, (c.requires, disposed_time_same))))),
  ),
)
