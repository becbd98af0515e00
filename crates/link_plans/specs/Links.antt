-- Links between trips, and what each of them gains.
use Rattle.std.specs.Prelude.{ℕ, ℤ, pos, ◌≡◌, ◌<◌, ◌≤◌, ◌≤ℤ◌, ◌==◌, if◌then◌else◌, is_some, true}
use Rattle.std.specs.Prelude.{List, [], ◌∷◌, length, get_or, Option, Some, None, option_map, IfSome}
use Rattle.link_plans.specs.declared.limits.TheConstants.{MOST_GAIN, MOST_TRIPS}
use Rattle.link_plans.specs.declared.link_table.Link.{Link}

-- how many trips there are, which of them may come after which, and what each such link gains
pub record Links : Type 0 where
  pub count : ℕ
  pub gain : ℕ → ℕ → Option ℤ

-- there are few trips, links are between them, and none gains much
pub record AreLinks (links : Links) : Type 0 where
  pub few : links.count ≤ MOST_TRIPS
  pub within : (i j : ℕ) → is_some (links.gain i j) ≡ true → (i < links.count) × (j < links.count)
  pub small : (i j : ℕ) → IfSome (links.gain i j) (λ gain. gain ≤ℤ pos MOST_GAIN)

-- what the link to a trip gains, where there is one in a list
unfoldable pub gain_in : List Link → ℕ → Option ℕ
gain_in [] to = None
gain_in (link ∷ row) to = if link.to == to then Some link.gain else gain_in row to

-- the links of the lists of all trips
abbrev pub links_in : List (List Link) → Links
links_in rows = record {
  count = length rows;
  gain = λ i j. option_map pos (gain_in (get_or rows i []) j);
}
