use Rattle.plan_num.proofs.Common.{◌∙◌, All, sym, subst}
use Rattle.delay_management.proofs.WrittenRows.{TimeFits, times_fit}
use Rattle.delay_management.proofs.files.times_text.Goals as goal

pub disposed_times_text-requires : goal.disposed_times_text-requires
disposed_times_text-requires c =
    subst (All TimeFits) (sym (c.deref.ensures.value ∙ c.in_ok-rows.ensures))
    (times_fit c.args.times.now c.requires.few c.requires.small)
