-- Which lists are those of the links of all trips.
use Rattle.std.specs.Prelude.{ℕ, ◌+◌, ◌&&◌, nat_le, nat_lt, Bool, true, List, [], ◌∷◌, length}
use Rattle.std.specs.List.{list_all}
use Rattle.link_plans.specs.declared.limits.TheConstants.{MOST_GAIN, MOST_TRIPS}
use Rattle.link_plans.specs.declared.link_table.Link.{Link}

-- a link may come next in a list: it leads to a trip that is there, from one on, and gains little
abbrev pub is_next_link : ℕ → ℕ → Link → Bool
is_next_link count from link =
    nat_le from link.to && (nat_lt link.to count && nat_le link.gain MOST_GAIN)

-- a list has links by the trips that they lead to, from one on
unfoldable pub is_list : ℕ → ℕ → List Link → Bool
is_list count from [] = true
is_list count from (link ∷ row) = is_next_link count from link && is_list count (link.to + 1) row

-- lists are those of few trips
abbrev pub are_lists : List (List Link) → Bool
are_lists rows = nat_le (length rows) MOST_TRIPS && list_all (is_list (length rows) 0) rows
