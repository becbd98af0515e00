use Rattle.plan_num.proofs.Common.{arith, get_or}
use Rattle.csv.specs.Records.{fields_of}
use Rattle.text_fields.proofs.FieldFacts.{get_cleaned, piece_is}
use Rattle.tables.proofs.row_cells.cell_apart.Goals as goal

pub returns : goal.returns
returns c column =
    let parts = fields_of c.args.pieces.now in grind (arith, get_or, piece_is, get_cleaned)
