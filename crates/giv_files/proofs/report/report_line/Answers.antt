use Rattle.plan_num.proofs.Common.{◌∙◌}
use Rattle.giv_files.proofs.ReportLines.{part_more, no_part}
use Rattle.giv_files.proofs.report.report_line.Goals as goal

pub loop-part-preserved : goal.loop-part-preserved
loop-part-preserved c =
    rw (
      c.in_ok-extend_from_slice-2.ensures.items,
      c.in_ok-extend_from_slice.ensures.items,
      c.as_bytes-in-loop-part.ensures,
    ) (part_more c.loop-part.line.items c.loop-part.mark.now
    c.part-item.result c.args.parts.now c.loop-part.part-index _ c.loop-part-test.true
    c.part-item.is c.loop-part.invariant)

pub returns : goal.returns
returns c = c.from_vec.ensures ∙ no_part c.loop-part.line.items c.loop-part.mark.now
    c.args.parts.now c.loop-part.part-index _ c.loop-part-test.false c.loop-part.invariant
