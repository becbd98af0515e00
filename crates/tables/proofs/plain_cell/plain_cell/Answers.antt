use Rattle.plan_num.proofs.Common.{◌≡◌, ◌∙◌, Ok, ap, arith, of_z, sym, to_z, w64, to_z_pos}
use Rattle.std.proofs.lemmas.Int.{to_z-of_z}
use Rattle.tables.proofs.CellTexts.{small_place}
use Rattle.tables.proofs.PlainCells.{whole_cell, fixed_cell, word_cell, skipped_cell}
use Rattle.tables.proofs.plain_cell.plain_cell.Goals as goal

pub returns-in-Whole : goal.returns-in-Whole
returns-in-Whole c column =
    let low : to_z w64 (of_z w64 c.in-Whole.min) ≡ c.in-Whole.min = grind (arith, to_z-of_z) in
    let high : to_z w64 (of_z w64 c.in-Whole.max) ≡ c.in-Whole.max = grind (arith, to_z-of_z) in
    rw c.in-Whole.is (whole_cell c.in-Whole.min c.in-Whole.max _ column c.plain_whole.result
    c.within.result c.within.ensures.same (rw low at c.within.ensures.low)
    (rw high at c.within.ensures.high) c.plain_whole.ensures)

pub returns-in-Fixed : goal.returns-in-Fixed
returns-in-Fixed c column =
    let low : to_z w64 (of_z w64 c.in-Fixed.min) ≡ c.in-Fixed.min = grind (arith, to_z-of_z) in
    let high : to_z w64 (of_z w64 c.in-Fixed.max) ≡ c.in-Fixed.max = grind (arith, to_z-of_z) in
    rw c.in-Fixed.is (fixed_cell c.in-Fixed.min c.in-Fixed.max _ column c.plain_fixed.result
    c.within-in-Fixed.result c.within-in-Fixed.ensures.same
    (rw low at c.within-in-Fixed.ensures.low) (rw high at c.within-in-Fixed.ensures.high)
    c.plain_fixed.ensures)

pub returns-in-Some : goal.returns-in-Some
returns-in-Some c column =
    let same = to_z_pos w64 c.in-Some.place (omega (
      arith,
      small_place c.in-Word.words _
          c.in-Some.place c.in-Some.ensures,
    )) in
    rw c.in-Word.is (word_cell c.in-Word.words c.args.piece.now _ column c.in-Some.place
    c.behind_space.ensures c.in-Some.ensures ∙ ap Ok (sym same))

pub returns-in-Skip : goal.returns-in-Skip
returns-in-Skip c column = rw c.in-Skip.is (skipped_cell column _)
