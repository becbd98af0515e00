-- The first open line of a region is the first of the dearest open lines, since ids of lines rise.
use Rattle.plan_num.proofs.Common.{◌≡◌, ℕ, ℤ, zero, suc, pos, ◌+◌, ◌≤◌, ◌<◌, ◌<ℤ◌, ◌&&◌, not, Bool}
use Rattle.plan_num.proofs.Common.{true, false, cond, int_lt, int_le, List, [], ◌∷◌, ◌++◌, length}
use Rattle.plan_num.proofs.Common.{map, filter, find, fold, drop, zip, slice_get, refl, arith, ap}
use Rattle.plan_num.proofs.Common.{sym, subst, ◌∙◌, Option, Some, None, option_map}
use Rattle.plan_num.proofs.Common.{false_from_ne_true, ints, append_assoc, drop_all, ⊤}
use Rattle.plan_num.proofs.Common.{AllByRecursion, enumerate_from, list_all, int_cmp}
use Rattle.std.specs.List.Sorted.{IsStrictlySortedBy}
use Rattle.std.specs.declared.cmp.Ordering.TheVariants.{Less}
use Rattle.std.proofs.Math.Bool.{and-false as never}
use Rattle.line_cost_model.specs.declared.range.LineRange.{LineRange}
use Rattle.line_cost_model.proofs.Common.{CostedLine, ProblemParts, stands_before, has_several}
use Rattle.line_cost_model.proofs.Common.{range_of}
use Rattle.line_concepts.specs.Listings.{first_among, first_open}
use Rattle.line_concepts.specs.Searches.{dearer}
use Rattle.line_concepts.proofs.Lengths.{open_from, all_map as all_by}
use Rattle.plan_num.proofs.Lists.{append_all}
use Rattle.plan_num.proofs.Tests.{less_is}

-- ---- one line after the other

abbrev Row : Type 0
Row = ℕ × (CostedLine × LineRange)

abbrev pub with_row : Option (ℕ × ℤ) → ℕ × (CostedLine × LineRange) → Option (ℕ × ℤ)
with_row first at = dearer first at.0 (pos at.1.0.cost) (has_several at.1.1)

abbrev pub rows_from : ℕ → List CostedLine → List LineRange → List (ℕ × (CostedLine × LineRange))
rows_from n lines region = enumerate_from n (zip lines region)

-- one line more
pub row_turn : (n : ℕ) (lines : List CostedLine) (region : List LineRange) (line : ℕ) (row : ℤ × ℤ)
    → length region ≡ length lines
    → option_map (λ at. (at.id, pos at.cost)) (slice_get lines line) ≡ Some row
    → (first : Option (ℕ × ℤ)) → fold with_row first (drop line (rows_from n lines region))
    ≡ fold with_row (dearer first (n + line) row.1 (has_several (range_of region line)))
    (drop (suc line) (rows_from n lines region))
row_turn n [] region line row same is first = absurd (cc)
row_turn n (at ∷ lines) [] line row same is first = absurd (omega (arith, same))
row_turn n (at ∷ lines) (range ∷ region) zero row same is first = grind arith
row_turn n (at ∷ lines) (range ∷ region) (suc line) row same is first =
    grind (arith, row_turn (n + 1) lines region line row (omega (arith, same)) is first)

-- ---- the open ones alone

abbrev with_open : Option (ℕ × ℤ) → ℕ × CostedLine → Option (ℕ × ℤ)
with_open first at = dearer first at.0 (pos at.1.cost) true

open_alone : (n : ℕ) (lines : List CostedLine) (region : List LineRange) (first : Option (ℕ × ℤ))
    → fold with_row first (rows_from n lines region) ≡ fold with_open first (open_from n lines region)
open_alone n [] region first = refl
open_alone n (line ∷ lines) [] first = refl
open_alone n (line ∷ lines) (range ∷ region) first =
    grind (
      arith,
      open_alone (n + 1) lines region (dearer first n (pos line.cost) true),
      open_alone (n + 1) lines region first,
    )

-- ids of some lines rise
abbrev Rise : List (ℕ × CostedLine) → Type 0
Rise [] = ⊤
Rise (at ∷ lines) = AllByRecursion (λ other. at.1.id <ℤ other.1.id) lines × Rise lines

below_open : (id : ℤ) (n : ℕ) (lines : List CostedLine) (region : List LineRange)
    → AllByRecursion (λ other. int_cmp id other ≡ Less) (map (λ line. line.id) lines)
    → AllByRecursion {X = ℕ × CostedLine} (λ at. id <ℤ at.1.id) (open_from n lines region)
below_open id n [] region all = tt
below_open id n (line ∷ lines) [] all = tt
below_open id n (line ∷ lines) (range ∷ region) all =
    grind (arith, less_is, below_open id (n + 1) lines region all.1)

open_rise : (n : ℕ) (lines : List CostedLine) (region : List LineRange)
    → IsStrictlySortedBy int_cmp (map (λ line. line.id) lines) → Rise (open_from n lines region)
unfolding IsStrictlySortedBy
open_rise n [] region rise = tt
open_rise n (line ∷ lines) [] rise = tt
open_rise n (line ∷ lines) (range ∷ region) rise =
    let rest = open_rise (n + 1) lines region rise.1 in
    elim (has_several range) as
    (λ b. Rise (map (λ at. (at.0, at.1.0)) (cond b ((n, (line, range))
    ∷ filter (λ at. has_several at.1.1) (rows_from (n + 1) lines region))
    (filter (λ at. has_several at.1.1) (rows_from (n + 1) lines region))))) [
      | true ↦ (below_open line.id (n + 1) lines region rise.0, rest)
      | false ↦ rest
    ]

-- ---- the first of the dearest

-- the first of the dearest of some lines, with those before and behind it
record Dearest (lines : List (ℕ × CostedLine)) (first : ℕ × ℤ) : Type 0 where
  before : List (ℕ × CostedLine)
  line : CostedLine
  behind : List (ℕ × CostedLine)
  whole : lines ≡ before ++ (first.0, line) ∷ behind
  cost : first.1 ≡ pos line.cost
  less : AllByRecursion (λ at. at.1.cost < line.cost) before
  most : AllByRecursion (λ at. at.1.cost ≤ line.cost) behind

abbrev IsDearest : List (ℕ × CostedLine) → Option (ℕ × ℤ) → Type 0
IsDearest lines None = lines ≡ []
IsDearest lines (Some first) = Dearest lines first

one_dearer : (done : List (ℕ × CostedLine)) (first : ℕ × ℤ) (at : ℕ × CostedLine) → Dearest done first
    → (b : Bool) → int_le (pos at.1.cost) first.1 ≡ b
    → IsDearest (done ++ at ∷ []) (cond b (Some first) (Some (at.0, pos at.1.cost)))
one_dearer done first at d true is = grind (arith, append_assoc, append_all, int_le, ints)
one_dearer done first at d false is =
    let more : d.line.cost < at.1.cost = above_it d.line.cost first.1 d.cost is in
    record {
      before = done;
      line = at.1;
      behind = [];
      whole = refl;
      cost = refl;
      less = grind (arith, append_all, all_by);
      most = tt;
    }
  where
    above_it : (cost : ℕ) (most : ℤ) → most ≡ pos cost → int_le (pos at.1.cost) most ≡ false
        → cost < at.1.cost
    above_it cost most is le = omega (arith, ints, is, le)

one_more : (done : List (ℕ × CostedLine)) (first : Option (ℕ × ℤ)) (at : ℕ × CostedLine)
    → IsDearest done first → IsDearest (done ++ at ∷ []) (with_open first at)
one_more done None at none = record {
  before = [];
  line = at.1;
  behind = [];
  whole = ap (λ lines. lines ++ at ∷ []) none;
  cost = refl;
  less = tt;
  most = tt;
}
one_more done (Some first) at d = one_dearer done first at d (int_le (pos at.1.cost) first.1) refl

all_more : (lines done : List (ℕ × CostedLine)) (first : Option (ℕ × ℤ)) → IsDearest done first
    → IsDearest (done ++ lines) (fold with_open first lines)
all_more [] done first d = subst (λ lines. IsDearest lines first) (sym (append_none done)) d
  where
    append_none : (lines : List (ℕ × CostedLine)) → lines ++ [] ≡ lines
    append_none [] = refl
    append_none (at ∷ lines) = ap (λ lines. at ∷ lines) (append_none lines)
all_more (at ∷ lines) done first d =
    grind (
      arith,
      append_assoc,
      one_more,
      all_more lines (done ++ at ∷ []) (with_open first at) (one_more done first at d),
    )

-- ---- it is the first in the order of lines

find_behind : {X : Type 0} (p : X → Bool) (before : List X) (x : X) (behind : List X)
    → AllByRecursion (λ y. p y ≡ false) before → p x ≡ true → find p (before ++ x ∷ behind) ≡ Some x
find_behind p [] x behind none is = ap (λ b. cond b (Some x) (find p behind)) is
find_behind p (y ∷ before) x behind none is = grind (arith, find_behind p before x behind none.1 is)

all_hold : {X : Type 0} (q : X → Bool) (xs : List X) → AllByRecursion (λ x. q x ≡ true) xs
    → list_all q xs ≡ true
all_hold q [] all = refl
all_hold q (x ∷ xs) all = ap (λ b. b && list_all q xs) all.0 ∙ all_hold q xs all.1

one_fails : {X : Type 0} (q : X → Bool) (before : List X) (x : X) (behind : List X) → q x ≡ false
    → list_all q (before ++ x ∷ behind) ≡ false
one_fails q [] x behind fails = ap (λ b. b && list_all q behind) fails
one_fails q (y ∷ before) x behind fails =
    ap (λ rest. q y && rest) (one_fails q before x behind fails) ∙ never (q y)

-- a line stands before no dearer one
not_before_dearer : (other line : CostedLine) → other.cost < line.cost
    → not (stands_before other line) ≡ true
not_before_dearer other line less = grind arith

-- nor one of lesser id that costs as much
not_before_first : (other line : CostedLine) → other.cost ≤ line.cost
    → int_lt other.id line.id ≡ false → not (stands_before other line) ≡ true
not_before_first other line most id = grind arith

not_less : (x y : ℤ) → (x <ℤ y → ⊥) → int_lt x y ≡ false
not_less x y never = false_from_ne_true (int_lt x y) (λ is. never (omega (arith, ints, is)))

-- the dearer line stands before
before_cheaper : (other line : CostedLine) → line.cost < other.cost
    → not (stands_before other line) ≡ false
before_cheaper other line less = grind arith

rise_behind : (before : List (ℕ × CostedLine)) (at : ℕ × CostedLine) (behind : List (ℕ × CostedLine))
    → Rise (before ++ at ∷ behind) → AllByRecursion (λ other. at.1.id <ℤ other.1.id) behind
rise_behind [] at behind rise = rise.0
rise_behind (first ∷ before) at behind rise = rise_behind before at behind rise.1

both : {X : Type 0} (P Q R : X → Type 0) (xs : List X) → ((x : X) → P x → Q x → R x)
    → AllByRecursion P xs → AllByRecursion Q xs → AllByRecursion R xs
both P Q R [] f p q = tt
both P Q R (x ∷ xs) f p q = (f x p.0 q.0, both P Q R xs f p.1 q.1)

first_found : (before : List (ℕ × CostedLine)) (at : ℕ × CostedLine) (behind : List (ℕ × CostedLine))
    → AllByRecursion (λ other. other.1.cost < at.1.cost) before
    → AllByRecursion (λ other. other.1.cost ≤ at.1.cost) behind
    → AllByRecursion (λ other. at.1.id <ℤ other.1.id) behind
    → Some at.0 ≡ first_among (before ++ at ∷ behind)
first_found before at behind less most rise =
    let all = before ++ at ∷ behind in
    let stands : ℕ × CostedLine → ℕ × CostedLine → Bool =
    λ line other. not (stands_before other.1 line.1) in
    let own : list_all (stands at) all ≡ true =
    all_hold (stands at) all (append_all (λ other. stands at other ≡ true) before (at ∷ behind)
    (all_by (λ other. other.1.cost < at.1.cost) (λ other. stands at other ≡ true) before
    (λ other less. not_before_dearer other.1 at.1 less) less) (
      not_before_first at.1 at.1 (omega arith) (not_less at.1.id at.1.id (λ e. omega (arith, ints, e))),
      both (λ other. other.1.cost ≤ at.1.cost) (λ other. at.1.id <ℤ other.1.id)
          (λ other. stands at other ≡ true) behind
          (λ other most rise. not_before_first other.1 at.1 most
          (not_less other.1.id at.1.id (λ e. omega (arith, ints, e, rise)))) most rise,
    )) in grind (arith, all_by, one_fails, before_cheaper, option_map, find_behind)

dearest_first : (lines : List (ℕ × CostedLine)) (first : Option (ℕ × ℤ)) → Rise lines
    → IsDearest lines first → option_map (λ first. first.0) first ≡ first_among lines
dearest_first lines None rise none = ap first_among (sym none)
dearest_first lines (Some first) rise d = grind (arith, first_found, rise_behind)

-- all lines
pub rows_first : (problem : ProblemParts) (region : List LineRange)
    → IsStrictlySortedBy int_cmp (map (λ line. line.id) problem.lines)
    → option_map (λ first. first.0) (fold with_row None (rows_from 0 problem.lines region))
    ≡ first_open problem region
rows_first problem region rise =
    let lines = open_from 0 problem.lines region in
    ap (option_map (λ first. first.0)) (open_alone 0 problem.lines region None)
    ∙ dearest_first lines (fold with_open None lines) (open_rise 0 problem.lines region rise)
    (all_more lines [] None refl)

rows_length : (n : ℕ) (lines : List CostedLine) (region : List LineRange)
    → length (rows_from n lines region) ≤ length lines
rows_length n [] region = omega arith
rows_length n (line ∷ lines) [] = omega arith
rows_length n (line ∷ lines) (range ∷ region) = omega (arith, rows_length (n + 1) lines region)

-- no line is left
pub no_more : (lines : List CostedLine) (region : List LineRange) (line : ℕ) → length lines ≤ line
    → (first : Option (ℕ × ℤ)) → fold with_row first (drop line (rows_from 0 lines region)) ≡ first
no_more lines region line past first = grind (arith, drop_all, rows_length)

-- the next line is taken
pub row_taken : (lines : List CostedLine) (region : List LineRange) (line : ℕ) (first : Option (ℕ × ℤ))
    (row : ℤ × ℤ) (after : Option (ℕ × ℤ)) → length region ≡ length lines
    → option_map (λ at. (at.id, pos at.cost)) (slice_get lines line) ≡ Some row
    → (cost : ℤ) → cost ≡ row.1 → after ≡ dearer first line cost (has_several (range_of region line))
    → fold with_row after (drop (line + 1) (rows_from 0 lines region))
    ≡ fold with_row first (drop line (rows_from 0 lines region))
row_taken lines region line first row after same is cost cost_is after_is =
    let more : line + 1 ≡ suc line = omega arith in
    let start : line ≡ 0 + line = omega arith in grind (arith, row_turn)
