use Rattle.plan_num.proofs.Common.{not}
use Rattle.pesp.specs.Timetables.{keeps_in}
use Rattle.pesp.proofs.FirstBroken.{place_start}
use Rattle.pesp.proofs.problem.first_broken.Goals as goal

pub loop-index-init : goal.loop-index-init
loop-index-init c =
    place_start (λ activity. not (keeps_in c.args.period c.args.times.now activity))
    c.args.activities.now
