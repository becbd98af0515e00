-- Inner words: the links out of each event, one behind the other.
use Rattle.std.specs.Prelude.{ℕ, ◌+◌, ◌≤◌, ◌<◌, ◌≡◌, ◌==◌, ◌%◌, List, length, filter, drop, get_or}
use Rattle.std.specs.List.{flat_map}
use Rattle.propagation.specs.declared.links.Link.{Link}

-- the links out of an event, in their order
abbrev pub out_of : List Link → ℕ → List Link
out_of links event = filter (λ link. link.step.from == event) links

-- the event of a rank
abbrev pub event_of : ℕ → ℕ
event_of rank = rank % 2147483648

-- the links out of the events of ranks, one event after the other
abbrev pub by_ranks : List Link → List ℕ → List Link
by_ranks links ranks = flat_map (λ rank. out_of links (event_of rank)) ranks

-- the index of the first link out of an event from another index on; the number of links is none
pub record IsNextOut (links : List Link) (event from next : ℕ) : Type 0 where
  pub least : from ≤ next
  pub most : next ≤ length links
  pub own : (d : Link) → next < length links → (get_or links next d).step.from ≡ event
  pub same : out_of (drop from links) event ≡ out_of (drop next links) event

-- the first link out of each event from an index on, and for each link from there the next one
pub record AreChained (links : List Link) (from : ℕ) (firsts nexts : List ℕ) : Type 0 where
  pub each : length nexts ≡ length links
  pub first : (event : ℕ) → event < length firsts
      → IsNextOut links event from (get_or firsts event 0)
  pub next : (k : ℕ) (d : Link) → from ≤ k → k < length links
      → IsNextOut links (get_or links k d).step.from (k + 1) (get_or nexts k 0)
