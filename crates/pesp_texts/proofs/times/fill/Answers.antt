use Rattle.plan_num.proofs.Common.{◌≡◌, [], refl, length-replicate, ap, ◌∙◌, subst, length}
use Rattle.text_fields.specs.Rows.{rows}
use Rattle.pesp_texts.specs.declared.times.TheConstants.{NONE}
use Rattle.pesp_texts.specs.Texts.{AreTimed}
use Rattle.pesp_texts.proofs.Timing.{timed_all}
use Rattle.pesp_texts.proofs.times.fill.Goals as goal

pub returns-then-are_all_there : goal.returns-then-are_all_there
returns-then-are_all_there c =
    let names = c.args.instance.now.names.keys in
    let period = c.args.instance.now.weighted.period in
    let times = c.take_rows.new.times in
    let size : length times ≡ length names =
    c.take_rows.auto.times ∙ ap length c.requires ∙ length-replicate (length names) NONE in
    let timed : AreTimed names period NONE (rows c.args.text.now) [] times =
    subst (λ all. AreTimed names period NONE all [] times) c.in_ok-rows.ensures
    c.in_ok-take_rows.ensures in
    timed_all names period NONE c.args.text.now times timed size (c.if-are_all_there.ensures refl)
