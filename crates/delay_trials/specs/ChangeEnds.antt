-- Inner words: the ends of changes by their events.
use Rattle.std.specs.Prelude.{◌≡◌, ◌≢◌, ℕ, ◌<◌, ◌≤◌, List, length, get_or, All}
use Rattle.std.specs.List.{Contains}
use Rattle.delay_trials.specs.declared.ends.ChangeEnd.{ChangeEnd}
use Rattle.propagation.specs.declared.step.Activity.{Activity}

-- both ends of each change are there, and no end of another change
pub record HasEnds (changes : List Activity) (ends : List ChangeEnd) : Type 0 where
  pub there : All (λ end. end.change < length changes) ends
  pub from : (k : ℕ) (d : Activity) → k < length changes
      → Contains ends (record { event = (get_or changes k d).step.from; change = k })
  pub to : (k : ℕ) (d : Activity) → k < length changes
      → Contains ends (record { event = (get_or changes k d).step.to; change = k })

-- no end is at an event
abbrev pub HasNone : List ChangeEnd → ℕ → Type 0
HasNone ends event =
    (j : ℕ) (e : ChangeEnd) → j < length ends → (get_or ends j e).event ≢ event

-- where the things whose key is at least this one begin
pub record IsFirst {X : Type 0} (key : X → ℕ) (xs : List X) (least first : ℕ) : Type 0 where
  pub most : first ≤ length xs
  pub before : (k : ℕ) (d : X) → k < first → key (get_or xs k d) < least
  pub behind : (k : ℕ) (d : X) → first ≤ k → k < length xs → least ≤ key (get_or xs k d)

-- where the things of each of so many places begin, whose keys are told by the place
pub record AreFirst {X : Type 0} (key : X → ℕ) (xs : List X) (least : ℕ → ℕ) (count : ℕ)
    (firsts : List ℕ) : Type 0 where
  pub each : length firsts ≡ count
  pub first : (k : ℕ) → k < count → IsFirst key xs (least k) (get_or firsts k 0)
