-- From one node of a tree to the next: which regions wait.
use Rattle.plan_num.proofs.Common.{◌≡◌, ℕ, ◌+◌, ◌-◌, ◌<◌, ◌∙◌, Bool, true, false, if◌then◌else◌}
use Rattle.plan_num.proofs.Common.{slice_get, take, Some, None, List, [], ◌∷◌, ◌++◌, length}
use Rattle.plan_num.proofs.Common.{reverse, set, get_or, All, refl, ap, sym, subst, arith, set-set}
use Rattle.plan_num.proofs.Common.{set-get_or, length-set, reverse-append, length-append}
use Rattle.plan_num.proofs.Common.{get_or_push, get_or_default, take_all, take_more}
use Rattle.plan_num.proofs.Common.{get_or_from_slice_get, slice_get-get_or, slice_get_within}
use Rattle.plan_num.proofs.Common.{All-push, get_or-append}
use Rattle.line_cost_model.specs.declared.range.LineRange.{LineRange}
use Rattle.line_cost_model.proofs.Common.{ProblemParts, RegionParts, range_of, root_of, part_from}
use Rattle.line_cost_model.proofs.Common.{part_up_to}
use Rattle.line_concepts.specs.declared.region_walk.OpenSplit.{OpenSplit}
use Rattle.line_concepts.specs.Walks.{IsOpenSplit, WalkedRegions, closed, upper_of, waiting_of}

-- ---- the last of some splits

waits : (splits : List OpenSplit) (split : OpenSplit) (region : List LineRange) (in_lower : Bool)
    → split.in_lower ≡ in_lower
    → waiting_of (split ∷ splits) region
    ≡ (if in_lower then upper_of split region ∷ waiting_of splits (closed split region)
    else waiting_of splits (closed split region))
unfolding waiting_of
waits splits split region in_lower is = grind arith

turned : (splits : List OpenSplit) (split : OpenSplit)
    → reverse (splits ++ split ∷ []) ≡ split ∷ reverse splits
turned splits split = reverse-append splits (split ∷ [])

-- some splits are all but the last one, and that
pub last_apart : (items : List OpenSplit) (split : OpenSplit)
    → slice_get items (length items - 1) ≡ Some split
    → items ≡ take (length items - 1) items ++ split ∷ []
last_apart items split found =
    let last = length items - 1 in
    let there = slice_get_within items last split found in
    sym (take_all (last + 1) items (omega (arith, there)))
    ∙ take_more items last split there
    ∙ ap (λ own. take last items ++ own ∷ []) (get_or_from_slice_get items last split split found)

module _ (items splits : List OpenSplit) (split : OpenSplit) (region : List LineRange)
    (are : items ≡ splits ++ split ∷ []) where
  pub last_waits : split.in_lower ≡ true
      → waiting_of (reverse items) region
      ≡ upper_of split region ∷ waiting_of (reverse splits) (closed split region)
  last_waits is = ap (λ splits. waiting_of (reverse splits) region) are
      ∙ ap (λ splits. waiting_of splits region) (turned splits split)
      ∙ waits (reverse splits) split region true is

  pub last_is_done : split.in_lower ≡ false
      → waiting_of (reverse items) region ≡ waiting_of (reverse splits) (closed split region)
  last_is_done is = ap (λ splits. waiting_of (reverse splits) region) are
      ∙ ap (λ splits. waiting_of splits region) (turned splits split)
      ∙ waits (reverse splits) split region false is

  -- what holds of all splits
  module _ (P : OpenSplit → Type 0) (all : All P items) where
    each : (k : ℕ) → k < length splits + 1 → P (get_or (splits ++ split ∷ []) k split)
    each k within = subst (λ splits. P (get_or splits k split)) are
        (all k split (omega (arith, within, ap length are, length-append splits (split ∷ []))))

    pub last_holds : P split
    last_holds = subst P (get_or_push splits split split (length splits) refl)
        (each (length splits) (omega arith))

    pub others_hold : All P splits
    others_hold k d within = subst P (get_or-append splits (split ∷ []) split k within
        ∙ other_default splits k within) (each k (omega (arith, within)))
      where
        other_default : (splits : List OpenSplit) (k : ℕ) → k < length splits
            → get_or splits k split ≡ get_or splits k d
        other_default splits k within = get_or_default splits k split d within

-- ---- into the upper part, and back out of it

pub upper_is_walked : (items splits : List OpenSplit) (split : OpenSplit) (region : List LineRange)
    → items ≡ splits ++ record split { in_lower = false } ∷ []
    → waiting_of (reverse items) (upper_of split region)
    ≡ waiting_of (reverse splits) (closed split region)
upper_is_walked items splits split region are =
    last_is_done items splits (record split { in_lower = false }) (upper_of split region) are refl
    ∙ ap (waiting_of (reverse splits)) (set-set region split.line _ _)

pub size_stays : (region after : List LineRange) (line lo hi : ℕ)
    → after ≡ set region line (record { lo = lo; hi = hi }) → length after ≡ length region
size_stays region after line lo hi is = ap length is ∙ length-set region line _

pub still_open : (size now : ℕ) (splits : List OpenSplit) → now ≡ size
    → All (IsOpenSplit size) splits → All (IsOpenSplit now) splits
still_open size now splits same open_ones =
    subst (λ size. All (IsOpenSplit size) splits) (sym same) open_ones

-- ---- into the lower part

pub lower_is_walked : (items splits : List OpenSplit) (region : List LineRange) (line at lo hi : ℕ)
    → lo ≡ (range_of region line).lo → hi ≡ (range_of region line).hi
    → items ≡ splits ++ record { line = line; lo = lo; at = at; hi = hi; in_lower = true } ∷ []
    → waiting_of (reverse items) (part_up_to region line at)
    ≡ part_from region line (at + 1) ∷ waiting_of (reverse splits) region
lower_is_walked items splits region line at lo hi lo_is hi_is are =
    let split : OpenSplit = record { line = line; lo = lo; at = at; hi = hi; in_lower = true } in
    let range : LineRange = range_of region line in
    let upper : upper_of split (part_up_to region line at) ≡ part_from region line (at + 1) =
    set-set region line _ _ ∙ ap (λ hi. set region line (record { lo = at + 1; hi = hi })) hi_is in
    let whole : closed split (part_up_to region line at) ≡ region =
    set-set region line _ _ ∙ ap (λ lo. set region line (record { lo = lo; hi = hi })) lo_is
    ∙ ap (λ hi. set region line (record { lo = range.lo; hi = hi })) hi_is
    ∙ set-get_or region line (record { lo = 0; hi = 0 }) in
    last_waits items splits split (part_up_to region line at) are refl
    ∙ (λ i. upper i ∷ waiting_of (reverse splits) (whole i))

-- ---- on from a leaf

module _ (items splits : List OpenSplit) (split : OpenSplit) (region now : List LineRange)
    (are : items ≡ splits ++ split ∷ []) where
  pub upper_entered : (after : List OpenSplit) → split.in_lower ≡ true → now ≡ upper_of split region
      → after ≡ splits ++ record split { in_lower = false } ∷ []
      → now ∷ waiting_of (reverse after) now ≡ waiting_of (reverse items) region
  upper_entered after is now_is after_is =
      (λ i. now_is i ∷ waiting_of (reverse after) (now_is i))
      ∙ ap (λ rest. upper_of split region ∷ rest)
      (upper_is_walked after splits split region after_is)
      ∙ sym (last_waits items splits split region are is)

  pub part_closed : split.in_lower ≡ false → now ≡ closed split region
      → waiting_of (reverse splits) now ≡ waiting_of (reverse items) region
  part_closed is now_is = ap (waiting_of (reverse splits)) now_is
      ∙ sym (last_is_done items splits split region are is)

  pub open_split : All (IsOpenSplit (length region)) items → IsOpenSplit (length region) split
  open_split all = last_holds items splits split region are (IsOpenSplit (length region)) all

  pub upper_is_open : (after : List OpenSplit) → All (IsOpenSplit (length region)) items
      → length now ≡ length region → after ≡ splits ++ record split { in_lower = false } ∷ []
      → All (IsOpenSplit (length now)) after
  upper_is_open after all same is =
      let own = open_split all in
      still_open (length region) (length now) after same
      (subst (λ after. All (IsOpenSplit (length region)) after) (sym is)
      (All-push (IsOpenSplit (length region)) splits (record split { in_lower = false })
      (others_hold items splits split region are (IsOpenSplit (length region)) all)
      (record { there = own.there; low = own.low; high = own.high; few = own.few })))

  pub others_are_open : All (IsOpenSplit (length region)) items → length now ≡ length region
      → All (IsOpenSplit (length now)) splits
  others_are_open all same = still_open (length region) (length now) splits same
      (others_hold items splits split region are (IsOpenSplit (length region)) all)

-- no split is left
pub none_waits : (items : List OpenSplit) (region : List LineRange)
    → slice_get items (length items - 1) ≡ None → waiting_of (reverse items) region ≡ []
unfolding waiting_of
none_waits [] region none = refl
none_waits (split ∷ items) region none =
    let last = slice_get-get_or (split ∷ items) (length (split ∷ items) - 1) split (omega arith) in
    absurd (cc)

-- the last split with another part that is walked
set_last : (others : List OpenSplit) (split now : OpenSplit)
    → set (others ++ split ∷ []) (length others) now ≡ others ++ now ∷ []
set_last [] split now = refl
set_last (other ∷ others) split now = ap (λ rest. other ∷ rest) (set_last others split now)

pub last_turned : (items others : List OpenSplit) (split own : OpenSplit) (last : ℕ)
    → last ≡ length items - 1 → own ≡ get_or items last own → items ≡ others ++ split ∷ []
    → set items last (record own { in_lower = false })
    ≡ others ++ record split { in_lower = false } ∷ []
last_turned items others split own last last_is own_is are =
    grind (arith, length-append, get_or, get_or_push, set_last)

-- ---- the regions that are walked

-- a region and some splits, as contracts see them
abbrev pub walk_of : List OpenSplit → RegionParts → WalkedRegions
walk_of splits region = record {
  problem = region.problem;
  region = region.ranges;
  waiting = waiting_of (reverse splits) region.ranges;
}

pub at_root : (problem : ProblemParts) (region : RegionParts) (splits : List OpenSplit)
    → region ≡ record { problem = problem; ranges = root_of problem } → splits ≡ []
    → walk_of splits region
    ≡ record { problem = problem; region = root_of problem; waiting = [] }
unfolding waiting_of
at_root problem region splits region_is none = λ i. walk_of (none i) (region_is i)

pub entered : (splits items : List OpenSplit) (region now : RegionParts) (before : WalkedRegions)
    (line at lo hi : ℕ) → walk_of splits region ≡ before
    → lo ≡ (range_of region.ranges line).lo → hi ≡ (range_of region.ranges line).hi
    → items ≡ splits ++ record { line = line; lo = lo; at = at; hi = hi; in_lower = true } ∷ []
    → now ≡ record region { ranges = set region.ranges line (record { lo = lo; hi = at }) }
    → walk_of items now ≡ record {
      problem = before.problem;
      region = part_up_to before.region line at;
      waiting = part_from before.region line (at + 1) ∷ before.waiting;
    }
entered splits items region now before line at lo hi is lo_is hi_is items_are now_is =
    grind (arith, lower_is_walked)
