use Rattle.plan_files.proofs.Fronts.{passed}
use Rattle.plan_files.proofs.behind.bytes_behind.Goals as goal

pub loop-piece-preserved : goal.loop-piece-preserved
loop-piece-preserved c = record {
  whole = λ more is.
      c.loop-piece.invariant.whole more
      ((passed (λ piece. piece.now) c.args.front.now c.loop-piece.piece-index _ c.loop-piece-test.true
      c.loop-piece.rest.now c.in_ok-rest.rest.now more c.in_ok-rest.ensures.some).0 is);
  left = λ more is.
      (passed (λ piece. piece.now) c.args.front.now c.loop-piece.piece-index _ c.loop-piece-test.true
      c.loop-piece.rest.now c.in_ok-rest.rest.now more c.in_ok-rest.ensures.some).1
      (c.loop-piece.invariant.left more is);
}
