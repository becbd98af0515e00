use Rattle.plan_num.proofs.Common.{arith, List, ℕ, bytes_eq}
use Rattle.tables.proofs.CellFacts.{position-map}
use Rattle.tables.proofs.cells.place_of.Goals as goal

pub returns : goal.returns
returns c =
    let test = λ (word : List ℕ). bytes_eq word c.args.field.now in grind (arith, position-map)
