use Rattle.plan_num.proofs.Common.{arith}
use Rattle.csv.specs.Records.{fields_of}
use Rattle.text_fields.specs.Told.{pieces_of}
use Rattle.text_fields.proofs.FieldFacts.{get_cleaned}
use Rattle.text_fields.proofs.text_row.TextRow.field.Goals as goal

pub returns : goal.returns
returns c =
    let pieces = pieces_of c.self.inside.stands (fields_of c.self.inside.pieces) in grind (
      arith,
      get_cleaned,
    )
