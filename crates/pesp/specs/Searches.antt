-- Inner words: a search between two entries, and what its call gives. A reader of the contracts of
-- this crate needs none of them.
use Rattle.std.specs.Prelude.{◌≡◌, ◌⊎◌, ℕ, ◌+◌, false, List, [], ◌∷◌, Option, Some, None, Vec}
use Rattle.std.specs.Global.{Global}
use Rattle.std.specs.List.{list_any}
use Rattle.pesp.specs.Timetables.{Problem}
use Rattle.pesp.specs.declared.search.Entry.{Entry}
use Rattle.pesp.specs.declared.search.Entry.TheVariants as entries
use Rattle.pesp.specs.Listings.{Listing, entry, first_sets, in_turn, is_empty}
use Rattle.pesp.specs.Listings.{listing}
use Rattle.pesp.specs.Listings.{listing_of}
use Rattle.pesp.specs.Listings.{one_more}
use Rattle.pesp.specs.Listings.{unless_found, with_time}
use Rattle.pesp.specs.declared.time_sets.Branch.{Branch}
use Rattle.pesp.specs.Flags.{Flags}
use Rattle.pesp.specs.Marks.{IsSettled, Tracked, sets_of, waiting}
use Rattle.pesp.specs.Revising.{IsReady}

-- a listing behind so many entries that found nothing
abbrev pub behind : ℕ → Listing → Listing
behind count rest = record { entries = count + rest.entries; found = rest.found }

-- what is listed from sets on, and from those that wait behind them
abbrev pub listed_on : Problem → Tracked → Listing
listed_on problem sets =
    in_turn (listing_of problem) (sets_of sets.sets ∷ waiting sets.saved)

-- what the entry of reduced sets lists, and those that wait behind it, by what is listed from
-- other sets on
abbrev pub entry_here : (List (List ℕ) → Listing) → Tracked → Listing
entry_here visit sets =
    unless_found
    (entry (sets_of sets.sets) (λ event time. visit (with_time (sets_of sets.sets) event time)))
    (in_turn visit (waiting sets.saved))

-- sets are saved at a branch where times are left to all events and no event before that of the
-- branch has several, or none are
abbrev pub SavesOnce : Tracked → Tracked → Type 0
SavesOnce before after = (after.saved ≡ before.saved)
    ⊎ ((branch : Branch) × (list_any is_empty (sets_of before.sets) ≡ false)
    × IsSettled before.sets branch.event
    × (after.saved ≡ record { sets = before.sets; branch = branch } ∷ before.saved))

-- what an entry comes to whose sets are reduced: the times that are found, or the children that
-- wait
abbrev pub Branches : Tracked → Tracked → Option (Vec ℕ Global) → Type 0
Branches before after None =
    ((visit : List (List ℕ) → Listing)
    → entry_here visit before ≡ one_more (in_turn visit (waiting after.saved)))
    × (after.sets ≡ before.sets)
    × SavesOnce before after
Branches before after (Some times) = (visit : List (List ℕ) → Listing)
    → entry_here visit before ≡ record { entries = 1; found = Some times.items }

-- one entry is taken: a timetable is found, or no entry is to come, or another one is, for which
-- flags tell the events whose sets have changed
abbrev pub TakesEntry : Problem → Tracked → Tracked → Flags → Entry → Type 0
TakesEntry problem before after changed (entries.Found times) =
    listed_on problem before ≡ record { entries = 1; found = Some times.items }
TakesEntry problem before after changed entries.Last =
    listed_on problem before ≡ record { entries = 1; found = None }
TakesEntry problem before after changed (entries.Next event) =
    (listed_on problem before ≡ one_more (listed_on problem after))
    × (after.sets.columns ≡ before.sets.columns)
    × (after.sets.rows ≡ before.sets.rows)
    × IsReady problem after changed
    × IsSettled after.sets event

-- the sets before the first entry
pub record AreFirst (problem : Problem) (sets : Tracked) : Type 0 where
  pub period : sets.sets.columns ≡ problem.period
  pub events : sets.sets.rows ≡ problem.events
  pub saved : sets.saved ≡ []
  pub first : sets_of sets.sets ≡ first_sets problem

-- a search behind some entries, each of which took a step
pub record IsSearched (problem : Problem) (sets : Tracked) (count : ℕ) : Type 0 where
  pub period : sets.sets.columns ≡ problem.period
  pub events : sets.sets.rows ≡ problem.events
  pub listed : listing problem ≡ behind count (listed_on problem sets)
