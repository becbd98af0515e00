-- Inner words: marks of the times that are left to events, and sets of times that are changed and
-- restored.
use Rattle.std.specs.Prelude.{◌≡◌, ℕ, zero, suc, ◌+◌, ◌*◌, ◌-◌, ◌<◌, ◌≤◌}
use Rattle.std.specs.Prelude.{Bool, true, false, ◌&&◌, ◌||◌, bit_and}
use Rattle.std.specs.Prelude.{List, [], ◌∷◌, ◌++◌, map, filter, get_or, sum}
use Rattle.std.specs.Prelude.{Option, Some, None}
use Rattle.std.specs.List.{range_with_len}
use Rattle.bit_rows.specs.Bits.{AreBits, Bits, FitsAt, has, with_word, words_of}
use Rattle.pesp.specs.declared.time_sets.Branch.{Branch}
use Rattle.pesp.specs.declared.time_sets.Change.{Change}
use Rattle.pesp.specs.declared.time_sets.Change.TheVariants as change
use Rattle.pesp.specs.Listings.{has_several, with_time}

-- a test holds for a number below another one
unfoldable pub any_below : (ℕ → Bool) → ℕ → Bool
any_below test zero = false
any_below test (suc n) = any_below test n || test n

-- ---- marks

-- a row of bits for each event, with a column for each time of a period
abbrev pub Marks : Type 0
Marks = Bits

-- a time is left to an event
abbrev pub is_left : Marks → ℕ → ℕ → Bool
is_left = has

-- the times of an event, from one on
abbrev pub times_from : Marks → ℕ → ℕ → List ℕ
times_from sets event from = filter (is_left sets event) (range_with_len from (sets.columns - from))

-- the times that are left to each event
abbrev pub sets_of : Marks → List (List ℕ)
sets_of sets = map (λ event. times_from sets event 0) (range_with_len 0 sets.rows)

-- no event before one has several times
abbrev pub IsSettled : Marks → ℕ → Type 0
IsSettled sets end =
    (event : ℕ) → event < end → has_several (times_from sets event 0) ≡ false

-- the sets of times by a test of events and times
abbrev pub family : ℕ → ℕ → (ℕ → ℕ → Bool) → List (List ℕ)
family period events left =
    map (λ event. filter (left event) (range_with_len 0 period)) (range_with_len 0 events)

-- there are words for each event, and no bit is set behind the period
pub record AreMarks (sets : Marks) : Type 0 where
  pub bits : AreBits sets
  pub some : 1 ≤ sets.columns
  pub few : sets.columns ≤ 720

-- sets that were left where they branched, and the event and the time from which its children are
-- still to be visited
pub record Saved : Type 0 where
  pub sets : Marks
  pub branch : Branch

-- sets, and those that are to be restored, the last one first
pub record Tracked : Type 0 where
  pub sets : Marks
  pub saved : List Saved

-- what changes say of the sets before them, the last change first
unfoldable pub saved_by : Marks → List Change → List Saved
saved_by sets [] = []
saved_by sets (change.Replaced place word ∷ earlier) =
    saved_by (with_word sets place word) earlier
saved_by sets (change.Branched branch ∷ earlier) =
    record { sets = sets; branch = branch } ∷ saved_by sets earlier

-- a change is one of a place or an event that is there
abbrev pub IsChange : ℕ → ℕ → Change → Type 0
IsChange period events (change.Replaced place word) =
    (place < events * words_of period) × FitsAt events period place word
IsChange period events (change.Branched branch) = branch.event < events

-- what restoring finds: nothing that was saved, or the last sets that were
abbrev pub Restores : Tracked → Tracked → Option Branch → Type 0
Restores before after None = before.saved ≡ []
Restores before after (Some branch) =
    (before.saved ≡ record { sets = after.sets; branch = branch } ∷ after.saved)
    × (branch.event < after.sets.rows)
    × (after.sets.columns ≡ before.sets.columns)
    × (after.sets.rows ≡ before.sets.rows)

-- the times of an event that are still left from one on: none, or a first one and those behind it
abbrev pub IsNext : Marks → ℕ → ℕ → Option ℕ → Type 0
IsNext sets event from None = times_from sets event from ≡ []
IsNext sets event from (Some time) =
    (time < sets.columns) × (is_left sets event time ≡ true)
    × (times_from sets event from ≡ time ∷ times_from sets event (time + 1))

-- the children that are still to be visited of sets that were saved, and of all of them
abbrev pub children : Saved → List (List (List ℕ))
children saved =
    map (with_time (sets_of saved.sets) saved.branch.event)
    (times_from saved.sets saved.branch.event saved.branch.from)

unfoldable pub waiting : List Saved → List (List (List ℕ))
waiting [] = []
waiting (saved ∷ earlier) = children saved ++ waiting earlier

-- the sum of the words, which falls with each time that is taken out
abbrev pub marks_left : Marks → ℕ
marks_left sets = sum sets.words

-- the word of an event by its index
abbrev pub word_at : Marks → ℕ → ℕ → ℕ
word_at sets event index = get_or sets.words (event * words_of sets.columns + index) 0

-- Some bits of a word of an event stay, and no others. Where nothing is said to change nothing
-- does, and else fewer bits are left.
pub record KeepsBits (before after : Tracked) (event index keep : ℕ) (changes : Bool) : Type 0 where
  pub is : after ≡ record {
    sets = with_word before.sets (event * words_of before.sets.columns + index)
        (bit_and (word_at before.sets event index) keep);
    saved = before.saved;
  }
  pub same : changes ≡ false → after ≡ before
  pub fewer : changes ≡ true
      → bit_and (word_at before.sets event index) keep < word_at before.sets event index
  pub sound : AreMarks before.sets

-- Some times of an event are taken out: of all events those stay for which a test holds. Where
-- nothing is said to change nothing does, and else fewer times are left.
pub record Prunes (before after : Tracked) (keeps : ℕ → ℕ → Bool) (changes : Bool) : Type 0 where
  pub period : after.sets.columns ≡ before.sets.columns
  pub events : after.sets.rows ≡ before.sets.rows
  pub saved : after.saved ≡ before.saved
  pub left : is_left after.sets ≡ (λ event time. is_left before.sets event time && keeps event time)
  pub same : changes ≡ false → after ≡ before
  pub fewer : changes ≡ true → marks_left after.sets < marks_left before.sets
  pub no_more : marks_left after.sets ≤ marks_left before.sets

-- one of its times is left to an event
pub record KeepsTime (before after : Tracked) (event time : ℕ) : Type 0 where
  pub period : after.sets.columns ≡ before.sets.columns
  pub events : after.sets.rows ≡ before.sets.rows
  pub saved : after.saved ≡ before.saved
  pub sets : sets_of after.sets ≡ with_time (sets_of before.sets) event time
  pub within : (other time : ℕ) → is_left after.sets other time ≡ true
      → is_left before.sets other time ≡ true
  pub others : (other : ℕ) → (other ≡ event → ⊥)
      → is_left after.sets other ≡ is_left before.sets other

-- the sets of a child are those that were saved at its branch, but for the event of the branch
pub record IsChildOf (before after : Tracked) (event : ℕ) : Type 0 where
  pub passed : List Saved
  pub branched : Marks
  pub from : Branch
  pub later : Branch
  pub earlier : List Saved
  pub inside : event < after.sets.rows
  pub period : after.sets.columns ≡ branched.columns
  pub was : before.saved ≡ passed ++ record { sets = branched; branch = from } ∷ earlier
  pub now : after.saved ≡ record { sets = branched; branch = later } ∷ earlier
  pub here : (from.event ≡ event) × (later.event ≡ event)
  pub within : (other time : ℕ) → is_left after.sets other time ≡ true
      → is_left branched other time ≡ true
  pub others : (other : ℕ) → (other ≡ event → ⊥) → is_left after.sets other ≡ is_left branched other
  pub one : ℕ
  pub sets : sets_of after.sets ≡ with_time (sets_of branched) event one

-- the next child that waits, if one does, by the event of its branch: its sets, and those that
-- wait behind it
abbrev pub IsNextChild : Tracked → Tracked → Option ℕ → Type 0
IsNextChild before after None = waiting before.saved ≡ []
IsNextChild before after (Some event) =
    (waiting before.saved ≡ sets_of after.sets ∷ waiting after.saved)
    × (after.sets.columns ≡ before.sets.columns)
    × (after.sets.rows ≡ before.sets.rows)
    × IsChildOf before after event
