use Rattle.plan_num.proofs.Common.{◌≡◌, replicate, rules}
use Rattle.walks.specs.declared.label.Label.TheVariants.{Unseen}
use Rattle.walks.proofs.GoingOn.{first_goes_on}
use Rattle.walks.proofs.labels.Labels.from_stop.Goals as goal

pub invariant_of-result : goal.invariant_of-result
invariant_of-result c =
    let unseen : c.in_ok-labels.labels.items ≡ replicate c.args.stops Unseen = search rules in
    first_goes_on c.args.stops c.args.from c.in_ok-labels.labels.items c.new-frontier.result
    c.push.new.self unseen c.new-frontier.ensures c.requires c.in_ok-push.ensures.more
