use Rattle.plan_num.proofs.Common.{◌≡◌, Err, ap, ◌∙◌, ◌∷◌, [], ◌+◌, length, length-append}
use Rattle.plan_num.proofs.Common.{err_from_is_err_and}
use Rattle.plan_files.proofs.Common.{both_read}
use Rattle.tables.specs.declared.file_id.FileId.TheVariants.{Stop}
use Rattle.giv_files.proofs.Common.{BundleParts}
use Rattle.stage_chain.specs.Chain.{bundle_for}
use Rattle.stage_chain.specs.Looks.{look_over}
use Rattle.stage_chain.proofs.Gathering.{told_more, told_all, told_ended}
use Rattle.stage_chain.proofs.gather.given.Goals as goal

pub loop-file-preserved : goal.loop-file-preserved
loop-file-preserved g c =
    let k = c.in_ok-push_text.ensures.ok in
    let inputs = c.loop-file.given.inputs in
    record {
      reads = both_read _ _ _ _ _ _ _ c.loop-file.invariant.reads c.in_ok-text.ensures.only_reads;
      stage = ap (λ (bundle : BundleParts). bundle.stage) k ∙ c.loop-file.invariant.stage;
      settings = ap (λ (bundle : BundleParts). bundle.settings) k ∙ c.loop-file.invariant.settings;
      count =
          ap (λ (bundle : BundleParts). length bundle.inputs) k ∙ length-append inputs (c.in_ok-text.text ∷ [])
          ∙ ap (λ n. n + 1) c.loop-file.invariant.count;
      texts =
          told_more (look_over _) c.args.config.now _ _ c.inputs-file-items.result.now c.loop-file.file-index Stop
          inputs c.push_text.new.self.inputs c.in_ok-text.text
          c.loop-file-test.true c.loop-file.invariant.reads.contents (rw c.chosen.ensures at c.in_ok-text.ensures.text)
          (ap (λ (bundle : BundleParts). bundle.inputs) k) c.loop-file.invariant.texts;
    }

pub returns-clause-bundle : goal.returns-clause-bundle
returns-clause-bundle g c =
    let k = c.new-given.ensures in
    let stage = c.loop-file.invariant.stage ∙ ap (λ (bundle : BundleParts). bundle.stage) k in
    let settings = c.loop-file.invariant.settings ∙ ap (λ (bundle : BundleParts). bundle.settings) k
    ∙ c.in_ok-settings.ensures.settings in
    let is : c.loop-file.given ≡ bundle_for c.args.config.now c.args.stage c.loop-file.given.inputs =
    λ i. record { stage = stage i; settings = settings i; inputs = c.loop-file.given.inputs } in
    told_all (look_over _) c.args.config.now _ c.inputs-file-items.result.now _ c.loop-file.file-index c.args.stage
    c.loop-file.given c.loop-file-test.false c.inputs-file-items.ensures is c.loop-file.invariant.texts

pub returns-in_err-text-clause-bundle : goal.returns-in_err-text-clause-bundle
returns-in_err-text-clause-bundle g c =
    let p = err_from_is_err_and c.from_residual-in_err-text.result c.from_residual-in_err-text.ensures.1 in
    told_ended (look_over _) c.args.config.now _ _ c.inputs-file-items.result.now _ c.loop-file.file-index Stop
    c.args.stage c.loop-file.given.inputs _ c.in_err-text.field-0.0 _
    c.loop-file-test.true c.loop-file.invariant.reads.contents c.inputs-file-items.ensures c.chosen.ensures
    c.in_err-text.ensures.text c.loop-file.invariant.texts (p.1 ∙ ap Err p.2)

pub returns-clause-stage : goal.returns-clause-stage
returns-clause-stage g c =
    c.loop-file.invariant.stage ∙ ap (λ (bundle : BundleParts). bundle.stage) c.new-given.ensures
