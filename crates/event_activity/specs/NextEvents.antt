-- Where to look for the events that an event is joined to: lists of events by a key.
use Rattle.std.specs.Prelude.{ℕ, ◌≡◌, ◌<◌, ◌≤◌, ◌+◌, ◌%◌, ◌==◌, Bool, ◌&&◌, true, not, List, [], ◌∷◌, ◌++◌, length, filter, slice_set, slice_index_or}
use Rattle.giv_files.specs.declared.setting.Setting.{Setting}
use Rattle.event_tables.specs.Kinds.{is_arrival}
use Rattle.event_activity.specs.declared.joining.Joining.{Joining}
use Rattle.event_activity.specs.declared.joining.Joining.TheVariants as joining
use Rattle.event_activity.specs.declared.run_event.RunEvent.{RunEvent}
use Rattle.event_activity.specs.Activities.{joined_events}

-- an event may be the second one of two that are joined: a first event of a run in a sync, a departure
-- in a change or a headway
abbrev pub may_end : Joining → RunEvent → Bool
may_end joining.Run next = true
may_end joining.Sync next = next.place == 0
may_end joining.Change next = not (is_arrival next.row.kind)
may_end joining.Headway next = not (is_arrival next.row.kind)

-- the key of an event as the second one: its id in a run, its line and repetition in a sync, its stop
-- in a change or a headway
abbrev pub key_of : Joining → RunEvent → ℕ
key_of joining.Run next = next.row.id
key_of joining.Sync next = next.row.line + next.row.repetition
key_of joining.Change next = next.row.stop
key_of joining.Headway next = next.row.stop

-- the key of all events that an event may be joined to
abbrev pub key_from : Joining → RunEvent → ℕ
key_from joining.Run event = event.row.id + 1
key_from joining.Sync event = event.row.line + event.row.repetition + 1
key_from joining.Change event = event.row.stop
key_from joining.Headway event = event.row.stop

-- an event stands in one of so many lists: that of its key, counted round
abbrev pub stands_in : Joining → ℕ → ℕ → RunEvent → Bool
stands_in joining count list next = may_end joining next && key_of joining next % count == list

-- the lists have all events, each in its list and in their order
pub record AreNextEvents (joining : Joining) (events : List RunEvent)
    (lists : List (List RunEvent)) : Type 0 where
  pub some : 1 ≤ length lists
  pub each : (list : ℕ) → list < length lists
      → slice_index_or lists list [] ≡ filter (stands_in joining (length lists) list) events

-- one event more in a list
abbrev pub NotesAt : ℕ → RunEvent → List (List RunEvent) → List (List RunEvent) → Type 0
NotesAt list event old new = new ≡ slice_set old list (slice_index_or old list [] ++ event ∷ [])

-- so many pairs of events are joined
pub record AreJoined (joining : Joining) (events : List RunEvent) (count : ℕ) : Type 0 where
  pub told : (settings : List Setting) → count ≡ length (joined_events settings events joining)
  pub few : count ≤ 16000000
