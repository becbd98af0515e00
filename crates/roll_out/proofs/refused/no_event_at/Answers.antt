use Rattle.plan_num.proofs.Common.{All, arith, lit<, subst}
use Rattle.event_tables.proofs.Common.{periodic_event_input, IsOneOf}
use Rattle.roll_out.proofs.RuleRows.{cells_fine, events_counted}
use Rattle.roll_out.proofs.refused.no_event_at.Goals as goal

pub none_at-requires : goal.none_at-requires
none_at-requires c = (
  omega arith,
  (
    lit< tt,
    (
      cells_fine periodic_event_input c.args.text.now c.requires.read,
      subst (λ n. All (IsOneOf n) c.args.ids.now) (events_counted c.args.text.now) c.requires.there,
    ),
  ),
)
