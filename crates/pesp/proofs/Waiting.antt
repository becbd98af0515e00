-- The children that wait, one after the other.
use Rattle.plan_num.proofs.Common.{◌<◌, arith, refl, subst, ◌≡◌, ◌∙◌, ℕ, ◌+◌, List, [], ◌∷◌, ◌++◌}
use Rattle.plan_num.proofs.Common.{map, Some, None, ap, sym, append_assoc}
use Rattle.pesp.specs.declared.time_sets.Branch.{Branch}
use Rattle.pesp.specs.Listings.{with_time}
use Rattle.pesp.specs.Marks.{IsNext, IsNextChild, KeepsTime, Marks, Restores, Saved, Tracked}
use Rattle.pesp.specs.Marks.{is_left}
use Rattle.pesp.specs.Marks.{sets_of, times_from, waiting}

abbrev pub saved_at : Marks → Branch → Saved
saved_at sets branch = record { sets = sets; branch = branch }

abbrev pub tried : Branch → ℕ → Branch
tried branch time = record { event = branch.event; from = time + 1 }

pub nothing_waits : (all : List Saved) → all ≡ [] → waiting all ≡ []
unfolding waiting
nothing_waits all none = ap waiting none

-- no child of the sets that were saved last
pub none_waits : (before after : Tracked) (sets : Marks) (branch : Branch)
    → Restores before after (Some branch) → sets ≡ after.sets
    → IsNext sets branch.event branch.from None → waiting before.saved ≡ waiting after.saved
unfolding waiting
none_waits before after sets branch restored same none = grind arith

-- the next one
pub next_waits : (before restored saved after : Tracked) (sets : Marks) (branch : Branch) (time : ℕ)
    → Restores before restored (Some branch) → sets ≡ restored.sets
    → IsNext sets branch.event branch.from (Some time)
    → saved ≡ record {
      sets = restored.sets;
      saved = saved_at restored.sets (tried branch time) ∷ restored.saved;
    }
    → KeepsTime saved after branch.event time → IsNextChild before after (Some branch.event)
unfolding waiting
next_waits before restored saved after sets branch time is same next save keep = (
  ap waiting is.0
      ∙ ap (λ times. map (with_time (sets_of restored.sets) branch.event) times ++ waiting
      restored.saved)
      (ap (λ (sets : Marks). times_from sets branch.event branch.from) (sym same) ∙ next.2
      ∙ ap (λ (sets : Marks). time ∷ times_from sets branch.event (time + 1)) same)
      ∙ (λ i. sym sets_are i ∷ waiting (sym saved_are i)),
  keep.period ∙ ap (λ (tracked : Tracked). tracked.sets.columns) save ∙ is.2,
  keep.events ∙ events_are ∙ is.3,
  record {
    passed = [];
    branched = restored.sets;
    from = branch;
    later = tried branch time;
    earlier = restored.saved;
    inside = subst (λ events. branch.event < events) (sym (keep.events ∙ events_are)) is.1;
    period = keep.period ∙ ap (λ (tracked : Tracked). tracked.sets.columns) save;
    was = is.0;
    now = saved_are;
    here = (refl, refl);
    within = λ e t is. grind arith;
    others = λ e other. keep.others e other
        ∙ ap (λ (tracked : Tracked). is_left tracked.sets e) save;
    one = time;
    sets = sets_are;
  },
)
  where
    events_are : saved.sets.rows ≡ restored.sets.rows
    events_are = ap (λ (tracked : Tracked). tracked.sets.rows) save

    sets_are : sets_of after.sets ≡ with_time (sets_of restored.sets) branch.event time
    sets_are = grind arith

    saved_are : after.saved ≡ saved_at restored.sets (tried branch time) ∷ restored.saved
    saved_are = keep.saved ∙ ap (λ (tracked : Tracked). tracked.saved) save

-- before another turn
pub next_from : (first before after : Tracked) (passed : List Saved) (event : ℕ)
    → waiting first.saved ≡ waiting before.saved → before.sets.columns ≡ first.sets.columns
    → before.sets.rows ≡ first.sets.rows → first.saved ≡ passed ++ before.saved
    → IsNextChild before after (Some event) → IsNextChild first after (Some event)
next_from first before after passed event same period events all next = (
  same ∙ next.0,
  next.1 ∙ period,
  next.2 ∙ events,
  record {
    passed = passed ++ next.3.passed;
    branched = next.3.branched;
    from = next.3.from;
    later = next.3.later;
    earlier = next.3.earlier;
    inside = next.3.inside;
    period = next.3.period;
    was = grind (arith, append_assoc);
    now = next.3.now;
    here = next.3.here;
    within = next.3.within;
    others = next.3.others;
    one = next.3.one;
    sets = next.3.sets;
  },
)

pub passed_more : (all passed rest : List Saved) (saved : Saved) (more : List Saved)
    → all ≡ passed ++ rest → rest ≡ saved ∷ more → all ≡ (passed ++ saved ∷ []) ++ more
passed_more all passed rest saved more is next =
    is ∙ ap (λ rest. passed ++ rest) next ∙ sym (append_assoc passed (saved ∷ []) more)
