use Rattle.plan_files.proofs.Common.{both_read}
use Rattle.tables.specs.declared.file_id.FileId.TheVariants.{Stop}
use Rattle.stage_chain.proofs.MadeThere.{told_more}
use Rattle.plan_num.proofs.Common.{sym, ◌∙◌}
use Rattle.stage_chain.proofs.standing.standing.Goals as goal

pub loop-file-preserved : goal.loop-file-preserved
loop-file-preserved g c = record {
  reads = both_read _ _ _ _ _ _ _ c.loop-file.invariant.reads c.in_ok-text.ensures.only_reads;
  there = told_more _ _ c.makes-file-items.result.now c.loop-file.file-index Stop c.in_ok-text.text
      c.loop-file.there.items c.push_found.new.there.items c.loop-file-test.true
      c.loop-file.invariant.reads.contents c.in_ok-text.ensures.text
      (sym c.is_lacking.ensures ∙ c.if-is_lacking.false) c.in_ok-push_found.ensures
      c.loop-file.invariant.there;
}
