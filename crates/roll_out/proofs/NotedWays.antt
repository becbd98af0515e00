-- The drives and waits at the events that they leave.
use Rattle.plan_num.proofs.Common.{◌≡◌, ◌∙◌, ◌==◌, not, Bool, arith, true, false, List, [], ◌∷◌}
use Rattle.plan_num.proofs.Common.{Some, filter, find, length, slice_get, refl, ap, sym, cases_Bool}
use Rattle.plan_num.proofs.Common.{false≢true, false_from_ne_true, length-filter, none-some}
use Rattle.plan_num.proofs.Common.{same_Some}
use Rattle.event_tables.specs.declared.periodic_activity.PeriodicActivity.{PeriodicActivity}
use Rattle.event_tables.specs.declared.periodic_event.PeriodicEvent.{PeriodicEvent}
use Rattle.event_tables.proofs.Common.{lacks_way, leads}
use Rattle.roll_out.specs.TimedRuns.{TimedParts}
use Rattle.roll_out.specs.TimedRuns.{way_on as way_from}
use Rattle.roll_out.specs.Plans.{leaves}
use Rattle.plan_num.proofs.Lists.{find_passing}

-- ---- those that lead from an event to the next one are among those that leave it

fails : {X : Type 0} (test other : X → Bool) → ((x : X) → test x ≡ true → other x ≡ true) → (x : X)
    → other x ≡ false → test x ≡ false
fails test other more x none =
    false_from_ne_true (test x) (λ is. false≢true (sym none ∙ more x is))

filter_within : {X : Type 0} (test other : X → Bool)
    → ((x : X) → test x ≡ true → other x ≡ true) → (xs : List X)
    → filter test (filter other xs) ≡ filter test xs
filter_within test other more [] = refl
filter_within test other more (x ∷ xs) =
    grind (arith, cases_Bool, fails, filter_within test other more xs)

leads_on : (pair : PeriodicEvent × PeriodicEvent) (activity : PeriodicActivity)
    → leads pair activity ≡ true → leaves pair.0.id activity ≡ true
leads_on pair activity is = grind arith

pub lacks_as : (pair : PeriodicEvent × PeriodicEvent) (activities : List PeriodicActivity)
    → lacks_way (filter (leaves pair.0.id) activities) pair ≡ lacks_way activities pair
lacks_as pair activities =
    ap (λ n. not (n == 1))
    (sym (length-filter (leads pair) (filter (leaves pair.0.id) activities))
    ∙ ap length (filter_within (leads pair) (leaves pair.0.id) (leads_on pair) activities)
    ∙ length-filter (leads pair) activities)

pub leads_as : (pair : PeriodicEvent × PeriodicEvent) (activities : List PeriodicActivity)
    → find (leads pair) (filter (leaves pair.0.id) activities) ≡ find (leads pair) activities
leads_as pair activities = find_passing (leads pair) (leaves pair.0.id) (leads_on pair) activities

pub way_found : (network : TimedParts) (event next : PeriodicEvent) (behind : List PeriodicEvent)
    → Some next ≡ slice_get behind 0
    → way_from network event behind ≡ find (leads (event, next)) network.activities
way_found network event next [] is = absurd (none-some next (sym is))
way_found network event next (first ∷ behind) is =
    ap (λ next. find (leads (event, next)) network.activities) (sym (same_Some _ _ is))
