use Rattle.plan_num.proofs.Common.{◌≡◌, true, false, get_or, Err, ap, ◌∙◌, arith, le-leb, lt-leb}
use Rattle.plan_num.proofs.Common.{err_from_is_err_and}
use Rattle.plan_files.proofs.Common.{nothing_read, both_read}
use Rattle.giv_files.specs.declared.stage.Stage.TheVariants.{Load}
use Rattle.stage_chain.specs.Kept.{solve_over}
use Rattle.stage_chain.specs.Chain.{stage_place}
use Rattle.stage_chain.proofs.StageByStage.{told_first, told_more, told_same, told_ended}
use Rattle.stage_chain.proofs.HandKept.{names_none}
use Rattle.stage_chain.proofs.StageByStage.{in_time}
use Rattle.stage_chain.proofs.StageByStage.{told_finished}
use Rattle.stage_chain.proofs.chain.run_stages.Goals as goal
use Rattle.stage_chain.proofs.chain.run_stages.Goals.{then-place_of+in_ok-visit, else-place_of}

pub loop-stage-init : goal.loop-stage-init
loop-stage-init g c = record {
  reads = nothing_read _ _ _ _;
  none = names_none _ c.requires;
  least = omega arith;
  rest = grind (arith, told_first);
}

pub loop-stage-preserved : goal.loop-stage-preserved
loop-stage-preserved g c =
    let last = c.place_of-in-loop-stage.ensures ∙ ap stage_place c.last_stage.ensures in
    elim c.if-place_of.branch [
      | then-place_of+in_ok-visit w ↦
          let is : in_time c.args.config.now (get_or c.deref-stage-items.result.now c.loop-stage.stage-index Load)
          ≡ true = le-leb _ _ (omega (arith, c.place_of.ensures, last, w.if-place_of.true)) in
          rw (w.files-is, w.steps-is, w.progress-is) (record {
            reads = both_read _ _ _ _ _ _ _ c.loop-stage.invariant.reads w.in_ok-visit.ensures.only_reads;
            none = w.in_ok-visit.ensures.no_hand_file;
            least = omega (arith, c.loop-stage.invariant.least, w.in_ok-visit.ensures.no_less);
            rest = told_more g.S.Stages.parts g.met.S.Stages.laws (solve_over g.S.Stages.parts) c.args.config.now
                c.deref-stage-items.result.now c.loop-stage.stage-index Load c.loop-stage-test.true _ _
                c.loop-stage.progress _ c.args.steps.now c.loop-stage.steps _
                is c.loop-stage.invariant.reads.contents w.in_ok-visit.ensures.visit c.loop-stage.invariant.rest;
          })
      | else-place_of w ↦
          let not : in_time c.args.config.now (get_or c.deref-stage-items.result.now c.loop-stage.stage-index Load)
          ≡ false = lt-leb _ _ (omega (arith, c.place_of.ensures, last, w.if-place_of.false)) in
          rw (w.files-is, w.steps-is, w.progress-is) (record {
            reads = c.loop-stage.invariant.reads;
            none = c.loop-stage.invariant.none;
            least = c.loop-stage.invariant.least;
            rest = told_same g.S.Stages.parts g.met.S.Stages.laws (solve_over g.S.Stages.parts) c.args.config.now
                c.deref-stage-items.result.now c.loop-stage.stage-index Load c.loop-stage-test.true _
                c.loop-stage.progress c.args.steps.now c.loop-stage.steps not c.loop-stage.invariant.rest;
          })
    ]

pub returns-in_err-visit-clause-chain : goal.returns-in_err-visit-clause-chain
returns-in_err-visit-clause-chain g c =
    let p = err_from_is_err_and c.from_residual-in_err-visit.result c.from_residual-in_err-visit.ensures.1 in
    let last = c.place_of-in-loop-stage.ensures ∙ ap stage_place c.last_stage.ensures in
    let in_time_is : in_time c.args.config.now (get_or c.deref-stage-items.result.now c.loop-stage.stage-index Load)
    ≡ true = le-leb _ _ (omega (arith, c.place_of.ensures, last, c.if-place_of.true)) in
    told_ended g.S.Stages.parts g.met.S.Stages.laws (solve_over g.S.Stages.parts) c.args.config.now
    c.deref-stage-items.result.now c.loop-stage.stage-index Load c.loop-stage-test.true _
    (c.deref-stage-items.ensures.value ∙ c.in_ok-staged.ensures) _ _ c.loop-stage.progress c.visit.new.progress
    c.args.steps.now c.loop-stage.steps c.visit.new.steps c.in_err-visit.field-0.0 _
    in_time_is c.loop-stage.invariant.reads.contents c.loop-stage.invariant.least c.in_err-visit.ensures.visit
    c.loop-stage.invariant.rest (p.1 ∙ ap Err p.2)

pub returns-clause-chain : goal.returns-clause-chain
returns-clause-chain g c =
    told_finished g.S.Stages.parts g.met.S.Stages.laws (solve_over g.S.Stages.parts) _ c.args.config.now
    c.deref-stage-items.result.now _ c.loop-stage.stage-index c.loop-stage.progress c.args.steps.now
    c.loop-stage.steps c.loop-stage-test.false (c.deref-stage-items.ensures.value ∙ c.in_ok-staged.ensures)
    c.loop-stage.invariant.rest
