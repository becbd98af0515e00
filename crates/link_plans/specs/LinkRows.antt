-- The links of a trip that gain no less than nothing, in a list.
use Rattle.std.specs.Prelude.{ℕ, ℤ, pos, negsuc, ◌≡◌, ◌<◌, ◌≤◌, List, [], ◌∷◌, ◌++◌, length}
use Rattle.std.specs.Prelude.{slice_get, get_or, Option, Some, None, option_map, unwrap_or}
use Rattle.link_plans.specs.declared.limits.TheConstants.{MOST_GAIN}
use Rattle.link_plans.specs.Links.{Links, AreLinks, links_in}
use Rattle.link_plans.specs.declared.link_table.Link.{Link}

-- what a link gains, where this is not less than nothing
abbrev pub worth : Option ℤ → Option ℕ
worth None = None
worth (Some (pos gain)) = Some gain
worth (Some (negsuc less)) = None

-- the links that gain no less than nothing
abbrev pub worthy : Links → Links
worthy links = record {
  count = links.count;
  gain = λ i j. option_map pos (worth (links.gain i j));
}

-- a link to a trip
abbrev pub link_to : ℕ → ℕ → Link
link_to to gain = record { to = to; gain = gain }

-- some links and one more, where it is worth something
abbrev pub and_link : List Link → ℕ → Option ℕ → List Link
and_link row to None = row
and_link row to (Some gain) = row ++ link_to to gain ∷ []

-- a link of a trip to one of the first trips
pub record IsLinkOf (links : Links) (i below : ℕ) (link : Link) : Type 0 where
  pub within : link.to < below
  pub is : worth (links.gain i link.to) ≡ Some link.gain
  pub small : link.gain ≤ MOST_GAIN

-- links stand by the trips that they lead to
abbrev pub IsRising : List Link → Type 0
IsRising row = (k m : ℕ) (one other : Link) → k < m → slice_get row k ≡ Some one
    → slice_get row m ≡ Some other → one.to < other.to

-- those before a place lead to trips before one, and those from there on do not
abbrev pub AreBefore : List Link → ℕ → ℕ → Type 0
AreBefore row to place = (k : ℕ) (link : Link) → k < place → slice_get row k ≡ Some link → link.to < to

abbrev pub AreFrom : List Link → ℕ → ℕ → Type 0
AreFrom row to place = (k : ℕ) (link : Link) → place ≤ k → slice_get row k ≡ Some link → to ≤ link.to

-- all links of a trip to the first trips that gain no less than nothing, by the trips that they lead to
pub record IsRow (links : Links) (i below : ℕ) (row : List Link) : Type 0 where
  pub rising : IsRising row
  pub right : (k : ℕ) (link : Link) → slice_get row k ≡ Some link → IsLinkOf links i below link
  pub all : (j gain : ℕ) → j < below → worth (links.gain i j) ≡ Some gain
      → (k : ℕ) × (slice_get row k ≡ Some (link_to j gain))

-- the links of all trips
pub record AreRows (links : Links) (rows : List (List Link)) : Type 0 where
  pub each : length rows ≡ links.count
  pub row : (i : ℕ) → i < links.count → IsRow links i links.count (get_or rows i [])

-- the lists of links themselves
pub record AreLinkRows (rows : List (List Link)) : Type 0 where
  pub rows_are : AreRows (links_in rows) rows
  pub links : AreLinks (links_in rows)

-- where a link of a list leads to; behind them all there are so many trips
abbrev pub end_of : ℕ → Option Link → ℕ
end_of count link = unwrap_or (option_map (λ link. link.to) link) count

abbrev pub reached : ℕ → List Link → ℕ → ℕ
reached count row k = end_of count (slice_get row k)
