use Rattle.plan_num.proofs.Common.{sym, ◌∙◌}
use Rattle.plan_files.proofs.Common.{both_read}
use Rattle.giv_files.specs.declared.stage.Stage.TheVariants.{Load}
use Rattle.stage_chain.proofs.Judging.{told_some, told_none}
use Rattle.stage_chain.proofs.Passed.{rest_next, rest_end}
use Rattle.stage_chain.proofs.check.find_under.Goals as goal

pub returns-then-is_some-clause-found : goal.returns-then-is_some-clause-found
returns-then-is_some-clause-found g c =
    told_some g.S.Stages.parts g.met.S.Stages.laws c.args.config.now _ _ c.places-place-items.result.now _
    c.loop-place.place-index Load _ c.loop-place-test.true c.loop-place.invariant.reads.contents
    c.places-place-items.ensures c.in_ok-found.ensures.found (sym c.is_some.ensures ∙ c.if-is_some.true)
    c.loop-place.invariant.left

pub loop-place-preserved : goal.loop-place-preserved
loop-place-preserved g c = record {
  reads = both_read _ _ _ _ _ _ _ c.loop-place.invariant.reads c.in_ok-found.ensures.only_reads;
  left = told_none g.S.Stages.parts g.met.S.Stages.laws c.args.config.now _ _ c.places-place-items.result.now
      c.loop-place.place-index Load _ c.loop-place-test.true c.loop-place.invariant.reads.contents
      c.in_ok-found.ensures.found (sym c.is_some.ensures ∙ c.if-is_some.false) c.loop-place.invariant.left;
  rest = rest_next g.S.Stages.parts g.met.S.Stages.laws c.args.config.now _ _ c.places-place-items.result.now
      c.loop-place.place-index Load _ c.loop-place-test.true c.loop-place.invariant.reads.contents
      c.in_ok-found.ensures.passes (sym c.is_some.ensures ∙ c.if-is_some.false) c.loop-place.invariant.rest;
}

pub returns-clause-passes : goal.returns-clause-passes
returns-clause-passes g c =
    rest_end g.S.Stages.parts g.met.S.Stages.laws c.args.config.now _ c.places-place-items.result.now _
    c.loop-place.place-index c.loop-place-test.false c.places-place-items.ensures c.loop-place.invariant.rest
