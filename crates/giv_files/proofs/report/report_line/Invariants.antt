-- The parts so far, and those that are left, are all.
use Rattle.plan_num.proofs.Common.{◌≡◌, ◌++◌, drop}
use Rattle.giv_files.specs.ReportLines.{marked, report_line}
use Rattle.giv_files.proofs.report.report_line.Given as goal

abbrev pub invariant-loop-part : goal.invariant-loop-part
invariant-loop-part l = l.line.items ++ marked l.mark (drop l.part-index l.parts)
    ≡ report_line l.fn.stage l.parts
