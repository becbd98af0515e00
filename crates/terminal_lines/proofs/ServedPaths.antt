-- Each path between terminals lies in a line.
use Rattle.plan_num.proofs.Common.{◌≡◌, ◌≢◌, ℕ, zero, suc, ◌+◌, ◌<◌, ◌≤◌, Bool, true, false, inl}
use Rattle.plan_num.proofs.Common.{inr, ◌&&◌, ◌||◌, nat_eq, List, [], ◌∷◌, length, get_or, All, Any}
use Rattle.plan_num.proofs.Common.{refl, ap, subst, ◌∙◌, arith, IsDistinct, enumerate_from}
use Rattle.plan_num.proofs.Common.{list_any, and_parts, eq-eqb, eqb-false, not-true, cases_Bool}
use Rattle.plan_num.proofs.Common.{get_or_default, All-get_or, All-weaker, Any-from_list_any}
use Rattle.plan_num.proofs.Common.{list_any_at, get_or-enumerate_from, length-enumerate_from}
use Rattle.std.proofs.lemmas.Bool.{or_right as or_second}
use Rattle.terminal_lines.specs.Laws.{EachPathIsServed}
use Rattle.terminal_lines.specs.TerminalPaths.{is_contained, lies_in, lines_among, lines_between}
use Rattle.terminal_lines.specs.TerminalPaths.{paths_of, uncontained}
use Rattle.terminal_lines.proofs.EndsOfWalks.{AreIn, members_in}
use Rattle.terminal_lines.proofs.PathsApart.{AllApart, longer, paths_of_apart, same_place}
use Rattle.terminal_lines.proofs.TerminalWays.{IsTerminalPath, path_short, paths_right}

-- ---- paths in one another

all_in : (path other : List ℕ) → AreIn path other → lies_in path other ≡ true
all_in [] other into = refl
all_in (edge ∷ path) other into =
    ap (λ b. b && lies_in path other)
    (into edge (ap (λ b. b || list_any (nat_eq edge) path) (eq-eqb edge edge refl)))
    ∙ all_in path other (λ x there. into x
    (or_second (nat_eq x edge) (list_any (nat_eq x) path) there))

lies_in_itself : (path : List ℕ) → lies_in path path ≡ true
lies_in_itself path = all_in path path (λ x there. there)

lies_on : (path other more : List ℕ) → lies_in path other ≡ true → lies_in other more ≡ true
    → lies_in path more ≡ true
lies_on path other more first second = grind (arith, all_in, members_in)

any_too : {X : Type 0} (p q : X → Bool) (xs : List X) → ((x : X) → p x ≡ true → q x ≡ true)
    → list_any p xs ≡ true → list_any q xs ≡ true
any_too p q xs too there = grind (arith, Any-from_list_any, list_any_at)

-- ---- a path that lies in no other one is a line

module _ (paths : List (List ℕ)) (q : List ℕ → Bool) where
  kept : (some : List (ℕ × List ℕ)) (i : ℕ) (at : ℕ × List ℕ) → i < length some
      → get_or some i at ≡ at → is_contained paths at ≡ false → q at.1 ≡ true
      → list_any q (lines_among paths some) ≡ true
  kept [] i at h is none passes = absurd (omega (arith, h))
  kept (first ∷ some) zero at h is none passes = grind arith
  kept (first ∷ some) (suc i) at h is none passes =
      grind (arith, cases_Bool, or_second, kept some i at (omega (arith, h)) is none passes)

-- ---- each path lies in a line

-- a path at another place in which one lies
record Holder (paths : List (List ℕ)) (place : ℕ) : Type 0 where
  other : ℕ
  within : other < length paths
  apart : other ≢ place
  holds : lies_in (get_or paths place []) (get_or paths other []) ≡ true

module _ (paths : List (List ℕ)) where
  abbrev path_at : ℕ → List ℕ
  path_at place = get_or paths place []

  holder : (place : ℕ) → is_contained paths (place, path_at place) ≡ true → Holder paths place
  holder place is =
      grind (
        arith,
        Any-from_list_any,
        length-enumerate_from,
        get_or,
        get_or-enumerate_from,
        and_parts,
        get_or_default,
        eqb-false,
        not-true,
      )

  -- the item at a place
  here : (place : ℕ) → place < length paths
      → get_or (enumerate_from 0 paths) place (place, path_at place) ≡ (place, path_at place)
  here place h = grind (arith, get_or-enumerate_from, get_or_default)

  module _ (apart : AllApart paths) (distinct : All (IsDistinct nat_eq) paths) where
    -- a path that lies in another one lies in a line where that one does
    through : (place : ℕ) → place < length paths → (hold : Holder paths place)
        → (length (path_at place) < length (path_at hold.other)
        → list_any (lies_in (path_at hold.other)) (uncontained paths) ≡ true)
        → list_any (lies_in (path_at place)) (uncontained paths) ≡ true
    through place h hold rest =
        grind (arith, cases_Bool, same_place, any_too, lies_on, longer, All-get_or, nat_eq)

    module _ (most : ℕ) (few : All (λ path. length path ≤ most) paths) where
      serves : (left place : ℕ) → place < length paths → most < length (path_at place) + left
          → list_any (lies_in (path_at place)) (uncontained paths) ≡ true
      serves zero place h bound = grind arith
      serves (suc left) place h bound =
          elim (cases_Bool (is_contained paths (place, path_at place))) [
            | inr none ↦
                kept paths (lies_in (path_at place)) (enumerate_from 0 paths) place
                (place, path_at place) (omega (arith, h, length-enumerate_from 0 paths))
                (here place h) none (lies_in_itself (path_at place))
            | inl some ↦
                let hold = holder place some in
                through place h hold (λ longer. serves left hold.other hold.within
                (omega (arith, longer, bound)))
          ]

      all_served : All (λ path. Any (λ line. lies_in path line ≡ true) (uncontained paths)) paths
      all_served k d h =
          subst (λ path. Any (λ line. lies_in path line ≡ true) (uncontained paths))
          (get_or_default paths k [] d h)
          (Any-from_list_any (lies_in (path_at k)) (uncontained paths)
          (serves (suc most) k h (omega arith)))

pub each_path_is_served : EachPathIsServed
unfolding lines_between
each_path_is_served network terminals sound known =
    let right = paths_right network sound terminals known in
    let paths = paths_of network terminals in
    all_served paths (paths_of_apart network sound terminals known)
    (All-weaker (IsTerminalPath network terminals) (IsDistinct nat_eq) (λ path is. is.simple.apart)
    paths
    right) 1000
    (All-weaker (IsTerminalPath network terminals) (λ path. length path ≤ 1000)
    (λ path is. (path_short network sound terminals path is).few) paths right)
