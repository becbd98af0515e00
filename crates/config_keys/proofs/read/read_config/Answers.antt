use Rattle.plan_num.proofs.Common.{ap, ◌∙◌, Err, err_from_is_err_and}
use Rattle.config_keys.proofs.Whole.{refused, settled_over}
use Rattle.config_keys.proofs.read.read_config.Goals as goal

pub returns-in_err-read_all-clause-config : goal.returns-in_err-read_all-clause-config
returns-in_err-read_all-clause-config g c =
    let p = err_from_is_err_and c.from_residual.result c.from_residual.ensures.1 in
    refused _ c.new-reading.result c.read_all.new.reading c.in_err-read_all.field-0.0 _ c.new-reading.ensures.includes
    c.in_err-read_all.ensures.read (p.1 ∙ ap Err p.2)

pub returns-clause-config : goal.returns-clause-config
returns-clause-config g c =
    settled_over _ c.new-reading.result c.read_all.new.reading c.settle.result c.new-reading.ensures.includes
    c.new-reading.ensures.said c.in_ok-read_all.ensures.read c.settle.ensures
