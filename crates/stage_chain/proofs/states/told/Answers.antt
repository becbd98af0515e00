use Rattle.plan_files.proofs.Common.{both_read}
use Rattle.giv_files.specs.declared.stage.Stage.TheVariants.{Load}
use Rattle.stage_chain.proofs.Stating.{lines_more, lines_all}
use Rattle.stage_chain.proofs.states.told.Goals as goal

pub loop-place-preserved : goal.loop-place-preserved
loop-place-preserved g c = record {
  reads = both_read _ _ _ _ _ _ _ c.loop-place.invariant.reads c.in_ok-add_state.ensures.only_reads;
  lines =
      lines_more g.S.Stages.parts g.met.S.Stages.laws c.args.config.now _ _ c.places-place-items.result.now
      c.loop-place.place-index Load _ _ _ _ c.loop-place-test.true c.loop-place.invariant.reads.contents
      c.in_ok-add_state.ensures.known c.in_ok-add_state.ensures.line c.loop-place.invariant.lines;
}

pub returns-clause-report : goal.returns-clause-report
returns-clause-report g c =
    lines_all g.S.Stages.parts g.met.S.Stages.laws c.args.config.now _ c.places-place-items.result.now
    c.loop-place.place-index _ _ c.from_vec.result c.loop-place-test.false c.places-place-items.ensures
    c.from_vec.ensures c.loop-place.invariant.lines
