use Rattle.std.proofs.Common.{Ok}
use Rattle.plan_files.specs.declared.store.Got.TheVariants.{Bytes, Absent, TooLong}
use Rattle.stage_chain.specs.Reports.{missing_text, too_long_text}
use Rattle.plan_queries.specs.Queries.{waits_name}
use Rattle.plan_queries.proofs.Telling.{bad_is, saved_right, saved_told}
use Rattle.plan_queries.proofs.check.saved.Goals as goal

pub returns-in-Bytes-clause-tells : goal.returns-in-Bytes-clause-tells
returns-in-Bytes-clause-tells g c =
    saved_told c.args.penalty c.args.bundle.now _ (Bytes c.in-Bytes.text) _ (rw c.in-Bytes.is at c.in_ok-text.ensures.got) c.judged.ensures.tells

pub returns-in-Bytes-clause-right : goal.returns-in-Bytes-clause-right
returns-in-Bytes-clause-right g c =
    saved_right c.args.penalty c.args.bundle.now _ (Bytes c.in-Bytes.text) _ (rw c.in-Bytes.is at c.in_ok-text.ensures.got) c.judged.ensures.right

pub returns-in_ok-missing_line-in-Absent-clause-tells : goal.returns-in_ok-missing_line-in-Absent-clause-tells
returns-in_ok-missing_line-in-Absent-clause-tells g c =
    saved_told c.args.penalty c.args.bundle.now _ Absent (Ok c.bad_input.result) (rw c.in-Absent.is at c.in_ok-text.ensures.got)
    (bad_is (missing_text waits_name) c.bad_input.result c.bad_input.ensures.end (rw c.in_ok-missing_line-in-Absent.ensures at c.bad_input.ensures.report))

pub returns-in_ok-too_long_line-in-TooLong-clause-tells : goal.returns-in_ok-too_long_line-in-TooLong-clause-tells
returns-in_ok-too_long_line-in-TooLong-clause-tells g c =
    saved_told c.args.penalty c.args.bundle.now _ TooLong (Ok c.bad_input-in-TooLong.result) (rw c.in-TooLong.is at c.in_ok-text.ensures.got)
    (bad_is (too_long_text waits_name) c.bad_input-in-TooLong.result c.bad_input-in-TooLong.ensures.end (rw c.in_ok-too_long_line-in-TooLong.ensures at c.bad_input-in-TooLong.ensures.report))
