-- The least of some numbers is a problem for branch and bound.
use Rattle.std.proofs.Common.{◌≡◌, ℕ, pos, ◌+◌, ◌-◌, ◌≤◌, ◌<◌, ◌≤ℤ◌, ◌&&◌, nat_lt, cond, Bool, true}
use Rattle.std.proofs.Common.{false, List, Option, Some, None, ap, sym}
use Rattle.std.proofs.Common.{refl, subst, arith, ◌∙◌, inl, inr}
use Rattle.std.specs.Prelude.{◌⊎◌, unwrap_or}
use Rattle.std.proofs.lemmas.Bool.{and_parts, both_ways}
use Rattle.std.proofs.lemmas.Int.{ints}
use Rattle.std.proofs.lemmas.Option.{none-some}
use Rattle.branch_and_bound.specs.Branchings.{IsBranching, LeavesRegion, SplitsRegion}
use Rattle.branch_and_bound_tests.specs.Least.{IsRange, LiesAt, ShowsAt, is_better, least, look_at, look_by}
use Rattle.branch_and_bound_tests.specs.Least.{number_at, parts_at, parts_by}

less : (a b : ℕ) → nat_lt a b ≡ true → a < b
less a b is = grind arith

not_less : (a b : ℕ) → nat_lt a b ≡ false → b ≤ a
not_less a b is = grind arith

is_less : (a b : ℕ) → a < b → nat_lt a b ≡ true
is_less a b is = grind arith

module _ (numbers : List ℕ) where
  abbrev Splits : ℕ × ℕ → ℕ × ℕ → ℕ × ℕ → Type 0
  Splits range lower upper = SplitsRegion (least numbers) LiesAt (IsRange numbers) range lower upper

  on_side : (range : ℕ × ℕ) (at place : ℕ) → LiesAt range place
      → LiesAt (range.0, at) place ⊎ LiesAt (at, range.1) place
  on_side range at place lies = by (nat_lt place at) refl
    where
      by : (below : Bool) → nat_lt place at ≡ below
          → LiesAt (range.0, at) place ⊎ LiesAt (at, range.1) place
      by true is = inl (lies.0, less place at is)
      by false is = inr (not_less place at is, lies.1)

  split_inside : (range : ℕ × ℕ) (at : ℕ) → IsRange numbers range → range.0 < at → at < range.1
      → Splits range (range.0, at) (at, range.1)
  split_inside range at fits low high =
      let few = fits.1 in
      record {
        cover = on_side range at;
        lower_fits = (omega (arith, low), omega (arith, high, few));
        upper_fits = (omega (arith, high), few);
        lower_less = omega (arith, low, high);
        upper_less = omega (arith, low, high);
      }

  splits_by : (range : ℕ × ℕ) → IsRange numbers range → (at : ℕ) (inside : Bool)
      → nat_lt range.0 at && nat_lt at range.1 ≡ inside → (lower upper : ℕ × ℕ)
      → parts_by range at inside ≡ Some (lower, upper)
      → Splits range lower upper
  splits_by range fits at false out lower upper is = absurd (none-some (lower, upper) is)
  splits_by range fits at true in_it lower upper is =
      let both = and_parts (nat_lt range.0 at) (nat_lt at range.1) in_it in
      let none : (ℕ × ℕ) × (ℕ × ℕ) = ((0, 0), (0, 0)) in
      let own : (ℕ × ℕ) × (ℕ × ℕ) = ((range.0, at), (at, range.1)) in
      let other : (ℕ × ℕ) × (ℕ × ℕ) = (lower, upper) in
      let two : own ≡ other =
      ap (λ (parts : Option ((ℕ × ℕ) × (ℕ × ℕ))). unwrap_or parts none) is in
      subst (λ (two : (ℕ × ℕ) × (ℕ × ℕ)). Splits range two.0 two.1) two
      (split_inside range at fits (less range.0 at both.0) (less at range.1 both.1))

  splits_at : (range : ℕ × ℕ) → IsRange numbers range → (node : Option ℕ) (lower upper : ℕ × ℕ)
      → parts_at range node ≡ Some (lower, upper) → Splits range lower upper
  splits_at range fits None lower upper is = absurd (none-some (lower, upper) is)
  splits_at range fits (Some at) lower upper is =
      splits_by range fits at (nat_lt range.0 at && nat_lt at range.1) refl lower upper is

  -- where a range of several places is split, none is found; else it is left
  passes_at : (range : ℕ × ℕ) (best : Option ℕ) (lower upper : ℕ × ℕ)
      → parts_at range (look_at numbers range best).0 ≡ Some (lower, upper)
      → (look_at numbers range best).1 ≡ None
  passes_at range best lower upper is = by (nat_lt 1 (range.1 - range.0)) refl is
    where
      by : (several : Bool) → nat_lt 1 (range.1 - range.0) ≡ several
          → parts_at range (look_by numbers range best several).0
          ≡ Some (lower, upper)
          → (look_by numbers range best several).1
          ≡ None
      by true some is = refl
      by false some is = absurd (none-some (lower, upper) is)

  -- a range without several places: its place, where it is better than the best one so far
  abbrev Leaves : ℕ × ℕ → Option ℕ → Option ℕ × Option ℕ → Type 0
  Leaves range best entry = LeavesRegion (least numbers) LiesAt (ShowsAt numbers) range best entry

  only : (range : ℕ × ℕ) (place : ℕ) → range.1 - range.0 ≤ 1 → LiesAt range place → place ≡ range.0
  only range place one lies = let low = lies.0 in let high = lies.1 in omega (arith, one, low, high)

  no_worse : (range : ℕ × ℕ) (best : Option ℕ) (better : Bool) → is_better numbers range.0 best ≡ better
      → range.0 < range.1 → range.1 - range.0 ≤ 1 → IsRange numbers range
      → Leaves range best (None, cond better (Some range.0) None)
  no_worse range None false off there one fits = absurd (both_ways true off refl)
  no_worse range (Some held) false off there one fits = record {
    shows = λ cost most place lies.
        let at = only range place one lies in
        let more = not_less (number_at numbers range.0) (number_at numbers held) off in
        subst (λ place. cost ≤ℤ pos (number_at numbers place)) (sym at) (omega (arith, ints, more, most));
    falls = λ cost most. most;
    lies = tt;
  }
  no_worse range None true on there one fits = record {
    shows = λ cost most place lies.
        subst (λ place. cost ≤ℤ pos (number_at numbers place)) (sym (only range place one lies)) most;
    falls = λ cost most. tt;
    lies = let few = fits.1 in (omega arith, omega (arith, there, few));
  }
  no_worse range (Some held) true on there one fits = record {
    shows = λ cost most place lies.
        subst (λ place. cost ≤ℤ pos (number_at numbers place)) (sym (only range place one lies)) most;
    falls = λ cost most.
        let more = less (number_at numbers range.0) (number_at numbers held) on in
        omega (arith, ints, more, most);
    lies = let few = fits.1 in (omega arith, omega (arith, there, few));
  }

  none_there : (range : ℕ × ℕ) (best : Option ℕ) → range.1 ≤ range.0 → Leaves range best (None, None)
  none_there range best none = record {
    shows = λ cost most place lies.
        let low = lies.0 in let high = lies.1 in absurd (omega (arith, none, low, high));
    falls = λ cost most. most;
    lies = tt;
  }

  leaves_one : (range : ℕ × ℕ) (best : Option ℕ) → IsRange numbers range → range.1 - range.0 ≤ 1
      → (there : Bool) → nat_lt range.0 range.1 ≡ there
      → Leaves range best (None, cond (there && is_better numbers range.0 best) (Some range.0) None)
  leaves_one range best fits one false is = none_there range best (not_less range.0 range.1 is)
  leaves_one range best fits one true is =
      no_worse range best (is_better numbers range.0 best) refl (less range.0 range.1 is) one fits

  inside : (range : ℕ × ℕ) → nat_lt 1 (range.1 - range.0) ≡ true
      → nat_lt range.0 (range.0 + 1) && nat_lt (range.0 + 1) range.1 ≡ true
  inside range is =
      let several = less 1 (range.1 - range.0) is in
      let low = is_less range.0 (range.0 + 1) (omega arith) in
      let high = is_less (range.0 + 1) range.1 (omega (arith, several)) in
      grind (arith, low, high)

  leaves_at : (range : ℕ × ℕ) → IsRange numbers range → (best : Option ℕ)
      → parts_at range (look_at numbers range best).0 ≡ None
      → Leaves range best (look_at numbers range best)
  leaves_at range fits best is = by (nat_lt 1 (range.1 - range.0)) refl is
    where
      by : (several : Bool) → nat_lt 1 (range.1 - range.0) ≡ several
          → parts_at range (look_by numbers range best several).0
          ≡ None
          → Leaves range best (look_by numbers range best several)
      by true some is =
          let own : (ℕ × ℕ) × (ℕ × ℕ) = ((range.0, range.0 + 1), (range.0 + 1, range.1)) in
          let there : Some own ≡ None =
          ap (parts_by range (range.0 + 1)) (sym (inside range some)) ∙ is in
          absurd (none-some own (sym there))
      by false some is = leaves_one range best fits (not_less 1 (range.1 - range.0) some) (nat_lt range.0 range.1) refl

  pub are_laws : IsBranching (least numbers) LiesAt (ShowsAt numbers) (IsRange numbers)
  are_laws = record {
    starts = (omega arith, omega arith);
    sound = λ range fits node cost shows place lies. shows place lies;
    splits = splits_at;
    passes = λ range fits best lower upper is. passes_at range best lower upper is;
    leaves = leaves_at;
  }
