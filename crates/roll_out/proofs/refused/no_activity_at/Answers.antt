use Rattle.plan_num.proofs.Common.{All, arith, lit<, subst}
use Rattle.event_tables.proofs.Common.{periodic_activity_input, periodic_event_ids, IsOneOf}
use Rattle.roll_out.proofs.RuleRows.{activities_counted, cells_fine}
use Rattle.roll_out.proofs.refused.no_activity_at.Goals as goal

pub none_at-requires : goal.none_at-requires
none_at-requires c = (
  omega arith,
  (
    lit< tt,
    (
      cells_fine (periodic_activity_input (periodic_event_ids c.args.events.now)) c.args.text.now
          c.requires.read,
      subst (λ n. All (IsOneOf n) c.args.ids.now)
          (activities_counted c.args.events.now c.args.text.now) c.requires.there,
    ),
  ),
)
