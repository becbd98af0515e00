-- Inner words: how far below 0 some walk goes that ends in each node, and steps that find walks that go
-- further.
use Rattle.std.specs.Prelude.{ℕ, ℤ, pos, neg_ℤ, ◌≡◌, ◌+◌, ◌<◌, ◌≤◌, ◌+ℤ◌, ◌≤ℤ◌, if◌then◌else◌, Bool}
use Rattle.std.specs.Prelude.{true, false, List, length, sum, map, ◌-◌, get_or, MatchOption, Option}
use Rattle.std.specs.Prelude.{Some, None, IfSome}
use Rattle.link_plans.specs.Links.{Links, AreLinks}
use Rattle.link_plans.specs.Plans.{next, is_next, IsPlan}
use Rattle.link_plans.specs.Potentials.{PotentialParts, AreValid}
use Rattle.link_plans.specs.LinkRows.{worth}
use Rattle.canonical_potentials.specs.Residual.{Node, root, left, right, walk_cost}

-- a number for the root, and for the left and the right node of each trip
pub record DropParts : Type 0 where
  pub root : ℕ
  pub left : List ℕ
  pub right : List ℕ

-- the number of a node
abbrev pub drop_at : DropParts → Node → ℕ
drop_at drops root = drops.root
drop_at drops (left i) = get_or drops.left i 0
drop_at drops (right j) = get_or drops.right j 0

-- some walk that ends in each node costs so much less than nothing
abbrev pub AreFound : Links → List (Option ℕ) → DropParts → Type 0
AreFound links plan drops = (node : Node)
    → (walk : List Node) × (walk_cost links plan node walk ≡ Some (neg_ℤ (pos (drop_at drops node))))

-- numbers for the trips of a plan
pub record AreDropsOver (count : ℕ) (drops : DropParts) : Type 0 where
  pub left : length drops.left ≡ count
  pub right : length drops.right ≡ count

-- all numbers together
abbrev pub depth : DropParts → ℕ
depth drops = drops.root + sum drops.left + sum drops.right

-- no arc into a right node finds a better walk
abbrev pub PairKept : Links → DropParts → ℕ → ℕ → Type 0
PairKept links drops i j = IfSome (links.gain i j)
    (λ gain. (pos (get_or drops.left i 0) +ℤ gain) ≤ℤ pos (get_or drops.right j 0))

-- nor one from a left node to those before some
abbrev pub PairsKept : Links → DropParts → ℕ → ℕ → Type 0
PairsKept links drops i most = (j : ℕ) → j < most → PairKept links drops i j

-- nor does one back over a link
abbrev pub LinkKept : Links → DropParts → ℕ → ℕ → Type 0
LinkKept links drops i j = IfSome (links.gain i j)
    (λ gain. pos (get_or drops.right j 0) ≤ℤ (pos (get_or drops.left i 0) +ℤ gain))

-- nor one between the left node of a trip and its link or the root
abbrev pub NextKept : Links → DropParts → ℕ → Option ℕ → Type 0
NextKept links drops i None = drops.root ≤ get_or drops.left i 0
NextKept links drops i (Some j) =
    (get_or drops.left i 0 ≤ drops.root) × LinkKept links drops i j

-- nor one between the right node of a trip and the root
abbrev pub RootKept : DropParts → ℕ → Bool → Type 0
RootKept drops j false = get_or drops.right j 0 ≤ drops.root
RootKept drops j true = drops.root ≤ get_or drops.right j 0

-- no arc of a trip finds a better walk
pub record TripKept (links : Links) (plan : List (Option ℕ)) (drops : DropParts) (i : ℕ) : Type 0 where
  pub pairs : PairsKept links drops i links.count
  pub next_kept : NextKept links drops i (next plan i)
  pub root_kept : RootKept drops i (is_next plan i)

-- no arc finds a better walk
abbrev pub AreKept : Links → List (Option ℕ) → DropParts → Type 0
AreKept links plan drops = (i : ℕ) → i < links.count → TripKept links plan drops i

-- no link of a trip that is worth something finds a better walk
abbrev pub RowKept : Links → DropParts → ℕ → Type 0
RowKept links drops i = (j gain : ℕ) → j < links.count → worth (links.gain i j) ≡ Some gain
    → get_or drops.left i 0 + gain ≤ get_or drops.right j 0

-- no arc of a trip that a round looks at finds a better walk
pub record TripPassed (links : Links) (plan : List (Option ℕ)) (drops : DropParts) (i : ℕ) : Type 0 where
  pub row : RowKept links drops i
  pub next_kept : NextKept links drops i (next plan i)
  pub root_kept : RootKept drops i (is_next plan i)

-- no arc that a round looks at finds a better walk
abbrev pub ArePassed : Links → List (Option ℕ) → DropParts → Type 0
ArePassed links plan drops = (i : ℕ) → i < links.count → TripPassed links plan drops i

-- one, where something has changed
abbrev pub one_if : Bool → ℕ
one_if changed = if changed then 1 else 0

-- a step: walks that were found stay found, the depth rises where something changes, and nothing is other
-- where nothing does
pub record IsStep (links : Links) (plan : List (Option ℕ)) (before after : DropParts) (changed : Bool) : Type 0 where
  pub over : AreDropsOver links.count before → AreDropsOver links.count after
  pub found : AreFound links plan before → AreFound links plan after
  pub deeper : depth before + one_if changed ≤ depth after
  pub same : changed ≡ false → after ≡ before

-- some potentials are valid for a plan
abbrev pub IsCertified : Links → List (Option ℕ) → Type 0
IsCertified links plan = (potentials : PotentialParts) × AreValid links plan potentials

-- what is known of numbers while better walks are looked for
pub record IsSearched (links : Links) (plan : List (Option ℕ)) (drops : DropParts) : Type 0 where
  pub sound : AreLinks links
  pub plan_is : IsPlan links plan
  pub certified : IsCertified links plan
  pub over : AreDropsOver links.count drops
  pub found : AreFound links plan drops

-- the potentials of numbers that no arc makes better
abbrev pub potentials_by : DropParts → PotentialParts
potentials_by drops = record {
  u = map (λ left. drops.root - left) drops.left;
  v = map (λ right. right - drops.root) drops.right;
}

-- a number is raised to another one and a gain, where this is more
abbrev pub IsRaised : ℕ → ℤ → ℕ → Option ℕ → Type 0
IsRaised from gain to raised = MatchOption raised ((pos from +ℤ gain) ≤ℤ pos to)
    (λ number. (pos number ≡ (pos from +ℤ gain)) × (to < number))
