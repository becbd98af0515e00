use Rattle.plan_num.proofs.Common.{ap, ◌∙◌, Err, the_row, err_from_is_err_and}
use Rattle.std.specs.Rc.{rc_value}
use Rattle.config_keys.proofs.Expanding.{config_refused, config_absent, config_read}
use Rattle.config_keys.proofs.KeptFacts.{none_kept}
use Rattle.config_keys.proofs.expand.read_all.Goals as goal

pub returns-in_err-file-clause-read : goal.returns-in_err-file-clause-read
returns-in_err-file-clause-read g c =
    let p = err_from_is_err_and c.from_residual.result c.from_residual.ensures.1 in
    config_refused (rc_value {Z = the_row.Denot}) _ c.new-kept.result c.args.reading.now _ c.in_err-file.field-0.0 _
    (none_kept _ c.new-kept.result c.new-kept.ensures) c.in_err-file.ensures.gives
    (p.1 ∙ ap Err p.2)

pub returns-in-None-clause-read : goal.returns-in-None-clause-read
returns-in-None-clause-read g c = config_absent (rc_value {Z = the_row.Denot}) _ c.new-kept.result c.args.reading.now
    (none_kept _ c.new-kept.result c.new-kept.ensures)
    (rw c.in-None.is at c.in_ok-file.ensures.gives)

pub returns-clause-read : goal.returns-clause-read
returns-clause-read g c =
    config_read (rc_value {Z = the_row.Denot}) _ _ c.new-kept.result c.file.new.self c.read_file.new.kept c.in-Some.file
    c.args.reading.now c.read_file.new.reading _ c.in_ok-file.ensures.only_reads.contents
    (none_kept _ c.new-kept.result c.new-kept.ensures)
    (rw c.in-Some.is at c.in_ok-file.ensures.gives) c.in_ok-file.ensures.kept
    (rw c.as_ref.ensures at c.read_file.ensures.read)
