-- A search entry by entry, and what it comes to.
use Rattle.pesp.specs.Marks.{IsChildOf, IsSettled, Saved, is_left}
use Rattle.plan_num.proofs.Common.{◌==◌, inl, inr, ◌≡◌, ◌∙◌, ℕ, ◌+◌, ◌<◌, ◌≤◌, true, false, List}
use Rattle.plan_num.proofs.Common.{[], ◌∷◌, ◌++◌, length, map, position, Option, Some, None, Vec}
use Rattle.plan_num.proofs.Common.{Global, refl, ap, sym, subst, arith, list_any, le-min}
use Rattle.plan_num.proofs.Common.{min-eq_left, min-eq_right, cases_eq, eq-eqb, false≢true}
use Rattle.plan_num.proofs.Common.{position-Some}
use Rattle.pesp.specs.Timetables.{Problem}
use Rattle.pesp.specs.Listings.{Listing, branches, entries_listed, entry}
use Rattle.pesp.specs.Listings.{has_several, in_turn, is_empty}
use Rattle.pesp.specs.Listings.{listing, listing_of, one_more, unless_found}
use Rattle.pesp.specs.Listings.{with_time}
use Rattle.pesp.specs.Marks.{IsNextChild, Marks, Tracked, sets_of, times_from, waiting}
use Rattle.pesp.specs.Flags.{Flags, has_changed}
use Rattle.pesp.specs.Revising.{AreRevised, IsReady, Reduces, Stands}
use Rattle.pesp.specs.Searches.{AreFirst, Branches, IsSearched, SavesOnce, entry_here}
use Rattle.pesp.specs.Searches.{listed_on}
use Rattle.pesp.specs.TimeSets.{left_to, reduced}
use Rattle.pesp.specs.TimeSets.{reduced as all_reduced}
use Rattle.pesp.proofs.EmptySets.{settled_within, with_time_full}
use Rattle.pesp.proofs.NextSets.{set_at, sets_size}
use Rattle.pesp.proofs.Sweeping.{carried}
use Rattle.pesp.proofs.Turns.{first_turn, listed, no_turn, none_behind, turns_append}
use Rattle.pesp.proofs.Turns.{turns_map, unless_one}
use Rattle.pesp.proofs.Unrolled.{unrolls}

-- ---- a branch

abbrev visit_child : Tracked → (List (List ℕ) → Listing) → ℕ → ℕ → Listing
visit_child sets visit event time = visit (with_time (sets_of sets.sets) event time)

pub event_within : (sets : Marks) (event : ℕ) → position has_several (sets_of sets) ≡ Some event
    → event < sets.rows
event_within sets event is = grind (arith, position-Some, sets_size)

-- no event before the first one with several times has several
settled_at : (sets : Marks) (end : ℕ) → position has_several (sets_of sets) ≡ Some end
    → IsSettled sets end
settled_at sets end is event low =
    sym (ap has_several (set_at sets event (omega (arith, low, event_within sets end is))))
    ∙ (position-Some has_several (sets_of sets) end [] is).2 event low

pub branched : (before after : Tracked) (event : ℕ)
    → list_any is_empty (sets_of before.sets) ≡ false
    → position has_several (sets_of before.sets) ≡ Some event
    → after ≡ record {
      sets = before.sets;
      saved = record { sets = before.sets; branch = record { event = event; from = 0 } } ∷
          before.saved;
    }
    → Branches before after None
unfolding waiting
branched before after event none is same = (
  (λ visit.
      let branch = visit_child before visit in
      let times = times_from before.sets event 0 in
      let left : left_to (sets_of before.sets) event ≡ times =
      set_at before.sets event (event_within before.sets event is) in
      let children = map (with_time (sets_of before.sets) event) times in
      ap (λ first. unless_found first (in_turn visit (waiting before.saved)))
      (ap (λ b. elim b as (λ _. Listing) [
        | true ↦ record { entries = 1; found = None }
        | false ↦ branches (sets_of before.sets) branch (position has_several (sets_of before.sets))
      ]) none
      ∙ ap (branches (sets_of before.sets) branch) is
      ∙ ap (λ times. one_more (in_turn (branch event) times)) left)
      ∙ unless_one (in_turn (branch event) times) (in_turn visit (waiting before.saved))
      ∙ ap one_more
      (ap (λ first. unless_found first (in_turn visit (waiting before.saved)))
      (turns_map visit (with_time (sets_of before.sets) event) times)
      ∙ turns_append visit children (waiting before.saved)
      ∙ ap (λ (tracked : Tracked). in_turn visit (waiting tracked.saved)) (sym same))),
  ap (λ (tracked : Tracked). tracked.sets) same,
  inr (
    record { event = event; from = 0 },
    none,
    settled_at before.sets event is,
    ap (λ (tracked : Tracked). tracked.saved) same,
  ),
)

-- ---- an entry

module _ (problem : Problem) (before reduced : Tracked) (so : Reduces problem before reduced) where
  visit : List (List ℕ) → Listing
  visit = listing_of problem

  abbrev children_of : List (List ℕ) → Listing
  children_of sets = entry sets (λ event time. listing_of problem (with_time sets event time))

  -- an entry of sets in which some event has no time left is that of the reduced sets
  same_entry : Stands problem before reduced
      → children_of (all_reduced problem (sets_of before.sets)) ≡ children_of (sets_of reduced.sets)
  same_entry (inr stands) = ap children_of (sym stands.0)
  same_entry (inl stands) = grind arith

  entry_is : listed_on problem before ≡ entry_here (listing_of problem) reduced
  entry_is =
      first_turn (listing_of problem) (sets_of before.sets) (waiting before.saved)
      ∙ (λ i. unless_found ((unrolls problem (sets_of before.sets) ∙ same_entry so.stands) i)
      (in_turn (listing_of problem) (waiting (sym so.saved i))))

  pub entry_found : (after : Tracked) (times : Vec ℕ Global) → Branches reduced after (Some times)
      → listed_on problem before ≡ record { entries = 1; found = Some times.items }
  entry_found after times found = entry_is ∙ found (listing_of problem)

  pub entry_last : (after : Tracked) (last : Tracked) → Branches reduced after None
      → IsNextChild after last None
      → listed_on problem before ≡ record { entries = 1; found = None }
  entry_last after last branch none =
      entry_is ∙ branch.0 (listing_of problem)
      ∙ ap (λ sets. one_more (in_turn (listing_of problem) sets)) none
      ∙ ap one_more (no_turn (listing_of problem))

  -- what was saved before is still revised, and so is what an entry saves
  saved_revised : (after : Tracked) → AreRevised problem before.saved → SavesOnce reduced after
      → AreRevised problem after.saved
  saved_revised after was (inl same) = subst (AreRevised problem) (sym (same ∙ so.saved)) was
  saved_revised after was (inr (branch, none, settled, is)) = grind arith

  rest_revised : (passed rest : List Saved) → AreRevised problem (passed ++ rest)
      → AreRevised problem rest
  rest_revised [] rest all = all
  rest_revised (saved ∷ passed) rest all = rest_revised passed rest all.3

  child_settled : (after next : Tracked) (event : ℕ) → AreRevised problem after.saved
      → IsChildOf after next event → IsSettled next.sets event
  child_settled after next event was child =
      let parts = rest_revised child.passed (record { sets = child.branched; branch = child.from }
      ∷ child.earlier) (subst (AreRevised problem) child.was was) in
      settled_within next.sets child.branched event child.period child.within
      (subst (IsSettled child.branched) child.here.0 parts.2)

  -- and the sets of a child are ready where its event has a flag
  child_ready : (after next : Tracked) (event : ℕ) (flags : Flags)
      → AreRevised problem after.saved → IsChildOf after next event → length flags ≡ problem.events
      → ((other : ℕ) → has_changed flags other ≡ (other == event))
      → IsReady problem next flags
  child_ready after next event flags was child each are =
      let parts = rest_revised child.passed (record { sets = child.branched; branch = child.from }
      ∷ child.earlier) (subst (AreRevised problem) child.was was) in
      record {
        each = each;
        full = ap (list_any is_empty) child.sets
            ∙ with_time_full (sets_of child.branched) event child.one parts.1;
        revised = λ i activity at low.
            let is = parts.0 i activity at low in
            carried problem.period (is_left child.branched) (is_left next.sets) (λ _. false)
            (has_changed flags) activity child.within untouched (λ end _. is end);
        saved = subst (AreRevised problem) (sym child.now) (
          parts.0,
          parts.1,
          subst (IsSettled child.branched) (child.here.0 ∙ sym child.here.1) parts.2,
          parts.3,
        );
      }
    where
      set_there : has_changed flags event ≡ true
      set_there = are event ∙ eq-eqb event event refl

      untouched : (e : ℕ) → has_changed flags e ≡ false
          → (false ≡ false) × (is_left next.sets e ≡ is_left child.branched e)
      untouched e none = elim (cases_eq e event) [
        | inl same ↦ absurd (false≢true (sym none ∙ ap (has_changed flags) same ∙ set_there))
        | inr other ↦ (refl, child.others e other)
      ]

  pub entry_next : (after : Tracked) (next : Tracked) (event : ℕ) (flags : Flags)
      → Branches reduced after None → IsNextChild after next (Some event)
      → AreRevised problem before.saved → length flags ≡ problem.events
      → ((other : ℕ) → has_changed flags other ≡ (other == event))
      → (listed_on problem before ≡ one_more (listed_on problem next))
      × (next.sets.columns ≡ before.sets.columns)
      × (next.sets.rows ≡ before.sets.rows)
      × IsReady problem next flags
      × IsSettled next.sets event
  entry_next after next event flags branch child was each are =
      let revised = saved_revised after was branch.2 in
      let events = child.2 ∙ ap (λ (sets : Marks). sets.rows) branch.1 ∙ so.events in (
        entry_is ∙ branch.0 (listing_of problem)
            ∙ ap (λ sets. one_more (in_turn (listing_of problem) sets)) child.0,
        child.1 ∙ ap (λ (sets : Marks). sets.columns) branch.1 ∙ so.period,
        events,
        child_ready after next event flags revised child.3 each are,
        child_settled after next event revised child.3,
      )

-- ---- the first entry, and one more

pub search_begun : (problem : Problem) (sets : Tracked) → AreFirst problem sets
    → IsSearched problem sets 0
unfolding listing waiting
search_begun problem sets are = grind (arith, listed, first_turn, no_turn, none_behind)

pub search_turn : (problem : Problem) (before after : Tracked) (count : ℕ)
    → IsSearched problem before count
    → listed_on problem before ≡ one_more (listed_on problem after)
    → after.sets.columns ≡ before.sets.columns → after.sets.rows ≡ before.sets.rows
    → IsSearched problem after (count + 1)
search_turn problem before after count so next period events = grind (arith, listed)

-- ---- how many entries

entry_some : (sets : List (List ℕ)) (visit : ℕ → ℕ → Listing) → 1 ≤ (entry sets visit).entries
entry_some sets visit = grind (arith, visit)

listing_some : (problem : Problem) (sets : List (List ℕ)) → 1 ≤ (listing_of problem sets).entries
listing_some problem sets =
    subst (λ (listed : Listing). 1 ≤ listed.entries) (sym (unrolls problem sets))
    (entry_some (reduced problem sets) _)

first_some : (first rest : Listing) → first.entries ≤ (unless_found first rest).entries
first_some first rest = grind arith

-- another entry is within the listing
pub one_within : (problem : Problem) (sets : Tracked) (count : ℕ) → IsSearched problem sets count
    → count + 1 ≤ (listing problem).entries
one_within problem sets count so = grind (arith, listing_some, first_some, listed, first_turn)

-- ---- what a search comes to

pub search_ended : (problem : Problem) (sets : Tracked) (count budget : ℕ)
    (found : Option (List ℕ)) → IsSearched problem sets count → count < budget
    → listed_on problem sets ≡ record { entries = 1; found = found }
    → ((listing problem).entries ≤ budget)
    × ((listing problem).found ≡ found)
    × ((listing problem).entries ≡ count + 1)
    × (entries_listed budget (listing problem) ≡ count + 1)
search_ended problem sets count budget found so few is = grind (arith, listed, min-eq_right)

pub search_spent : (problem : Problem) (sets : Tracked) (budget : ℕ)
    → IsSearched problem sets budget
    → (budget < (listing problem).entries) × (entries_listed budget (listing problem) ≡ budget)
search_spent problem sets budget so =
    let over = one_within problem sets budget so in grind (arith, min-eq_left)

-- another step is within the budget and the listing
pub step_within : (problem : Problem) (sets : Tracked) (count budget : ℕ)
    → IsSearched problem sets count → count < budget
    → count + 1 ≤ entries_listed budget (listing problem)
step_within problem sets count budget so few =
    le-min (omega (arith, few)) (one_within problem sets count so)
