use Rattle.plan_num.proofs.Common.{◌∙◌, ◌<◌, arith, length}
use Rattle.stage_keep.proofs.Pieces.{line_at, pieces_more}
use Rattle.stage_keep.proofs.front.front_pieces.Goals as goal

pub loop-index-preserved : goal.loop-index-preserved
loop-index-preserved c =
    let inside : c.loop-index.index < length c.args.given.now.inputs =
    omega (arith, c.inputs-index-end.ensures, c.loop-index-test.true) in
    record {
      lines = c.loop-index.invariant.lines;
      left = pieces_more (λ piece. piece.now) c.loop-index.pieces.items _ _ _ _ c.args.given.now.inputs
          c.loop-index.index _ inside c.in_ok-push-2.ensures.items
          c.in_ok-push-3.ensures.items
          (c.as_bytes-in-loop-index.ensures ∙ c.index-lines-index.is
          ∙ line_at _ c.args.lines.now c.args.given.now.inputs c.loop-index.index _ inside c.loop-index.invariant.lines)
          c.input.ensures c.loop-index.invariant.left;
    }
