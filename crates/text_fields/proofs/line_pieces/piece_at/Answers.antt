use Rattle.std.proofs.Common.{◌≡◌, ◌+◌, ◌-◌, arith, drop, get_or, length, length-drop, length-take}
use Rattle.text_fields.proofs.LinePieces.{piece_behind, piece_first, piece_nowhere}
use Rattle.text_fields.proofs.line_pieces.piece_at.Goals as goal

pub loop-piece-init : goal.loop-piece-init
loop-piece-init c =
    let none : c.args.index - 0 ≡ c.args.index = omega arith in grind (arith, get_or)

pub overflow_add-rest : goal.overflow_add-rest
overflow_add-rest c =
    omega (arith, c.well_formed, c.loop-piece.invariant.shorter, c.place_of_byte-end.ensures.within, c.if-end-rest.false)

pub returns-then-end-rest : goal.returns-then-end-rest
returns-then-end-rest c =
    piece_nowhere c.loop-piece.rest.now _ c.place_of_byte-end.ensures.place _ _
    c.loop-piece.invariant.same (c.args.index - (c.loop-piece._piece + 1)) (omega arith)
    (omega arith)

pub loop-piece-preserved : goal.loop-piece-preserved
loop-piece-preserved c =
    let rest = c.loop-piece.rest.now in
    record {
      shorter = omega (
        arith,
        length-drop (c.place_of_byte-end.result + 1) rest,
        length-take (length rest - (c.place_of_byte-end.result + 1))
            (drop (c.place_of_byte-end.result + 1) rest),
        c.loop-piece.invariant.shorter,
      );
      same = piece_behind rest _ c.place_of_byte-end.ensures.place _ _
          c.loop-piece.invariant.same (c.args.index - (c.loop-piece._piece + 1)) (omega arith)
          (omega (arith, c.place_of_byte-end.ensures.within, c.if-end-rest.false));
    }

pub returns : goal.returns
returns c =
    piece_first c.loop-piece.rest.now _ c.place_of_byte.ensures.place _ _
    c.loop-piece.invariant.same (omega arith)
