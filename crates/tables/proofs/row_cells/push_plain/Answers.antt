use Rattle.plan_num.proofs.Common.{◌≡◌, ◌<◌, ◌+◌, ◌++◌, ◌∷◌, [], length, arith, refl}
use Rattle.std.proofs.lemmas.Int.{to_z-of_z}
use Rattle.csv.specs.Records.{fields_of}
use Rattle.text_fields.specs.Rows.{cleaned}
use Rattle.tables.proofs.CellFacts.{cell_taken, left_none}
use Rattle.tables.proofs.row_cells.push_plain.Goals as goal

pub loop-index-init : goal.loop-index-init
loop-index-init c = record { grows = omega arith; left = (refl, refl) }

pub loop-index-preserved : goal.loop-index-preserved
loop-index-preserved c =
    let inside : c.loop-index.index < length (cleaned (fields_of c.args.pieces.now)) = omega arith in
    let pushed : c.push.new.self.items ≡ c.loop-index.cells.items
    ++ c.in-Some.cell ∷ [] = grind (arith, to_z-of_z) in
    record {
      grows = omega arith;
      left = cell_taken c.args.kinds.now (cleaned (fields_of c.args.pieces.now)) c.loop-index.index _ c.in-Some.cell _
          _ _ _ c.loop-index-test.true inside (c.in-Some.ensures (c.loop-index.index + 1)) pushed
          c.loop-index.invariant.left.0 c.loop-index.invariant.left.1;
    }

pub returns-clause-left : goal.returns-clause-left
returns-clause-left c =
    left_none c.args.kinds.now (cleaned (fields_of c.args.pieces.now)) c.loop-index.index _ _ _
    c.loop-index-test.false (omega arith) c.loop-index.invariant.left
