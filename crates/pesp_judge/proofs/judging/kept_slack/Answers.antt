use Rattle.plan_num.proofs.Common.{arith, ints}
use Rattle.pesp_judge.proofs.Slacks.{slack_is_small}
use Rattle.pesp_judge.proofs.judging.kept_slack.Goals as goal

pub returns-then-minutes-activity-clause-small : goal.returns-then-minutes-activity-clause-small
returns-then-minutes-activity-clause-small c =
    let small = slack_is_small c.args.period c.args.times.now c.requires.within
    c.args.activity.now c.requires.activity in
    let value = c.tension-minutes.ensures.value in grind (arith, ints, small, value)
