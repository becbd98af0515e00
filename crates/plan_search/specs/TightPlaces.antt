-- Inner words of the search: places that were tight when they were put.
use Rattle.std.specs.Prelude.{ℕ, ◌+◌, min, max, List, get_or, slice_set}

-- the group of each trip; the last place of each group and the place before each, by one more than their
-- numbers, and 0 for none; and a group above which no group has a place
pub record TightPlacesParts : Type 0 where
  pub groups : List ℕ
  pub last : List ℕ
  pub before : List ℕ
  pub most : ℕ

-- the place of a trip is put before the others of the group of the trip
abbrev pub put_before : ℕ → ℕ → TightPlacesParts → TightPlacesParts
put_before place trip hints = let group : ℕ = get_or hints.groups trip 0 in record {
  groups = hints.groups;
  last = slice_set hints.last group (min (place + 1) 18446744073709551615);
  before = slice_set hints.before place (get_or hints.last group 0);
  most = max hints.most group;
}
