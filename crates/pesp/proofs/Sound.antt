-- Activities that go from event to event by bounds in order, one after the other.
use Rattle.plan_num.proofs.Common.{ℕ, ◌+◌, ◌<◌, List, get_or, arith, cases_eq}
use Rattle.pesp.specs.declared.activity.PespActivity.{PespActivity}
use Rattle.pesp.specs.Timetables.{IsActivity}
use Rattle.pesp.proofs.FirstBroken.{no_activity}

-- one more of them
pub sound_more : (events count : ℕ) (activities : List PespActivity)
    → ((k : ℕ) → k < count → IsActivity events (get_or activities k no_activity))
    → IsActivity events (get_or activities count no_activity)
    → (k : ℕ) → k < count + 1 → IsActivity events (get_or activities k no_activity)
sound_more events count activities earlier this k low = grind (arith, cases_eq, get_or, no_activity)
