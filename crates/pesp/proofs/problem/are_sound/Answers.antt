use Rattle.plan_num.proofs.Common.{refl, arith, false≢true, All-from_get_or}
use Rattle.pesp.specs.Timetables.{IsActivity}
use Rattle.pesp.proofs.FirstBroken.{no_activity}
use Rattle.pesp.proofs.Sound.{sound_more}
use Rattle.pesp.proofs.problem.are_sound.Goals as goal

pub loop-activity-init : goal.loop-activity-init
loop-activity-init c = λ k low. absurd (omega (arith, low))

pub loop-activity-preserved : goal.loop-activity-preserved
loop-activity-preserved c = grind (arith, sound_more)

pub returns : goal.returns
returns c = (
  (λ yes. All-from_get_or (IsActivity c.args.events) c.args.activities.now no_activity
      (λ k some. c.loop-activity.invariant k (omega (arith, some, c.loop-activity-test.false)))),
  (λ all. refl),
)

pub returns-then-not-is_sound : goal.returns-then-not-is_sound
returns-then-not-is_sound c = grind (arith, false≢true, no_activity)
