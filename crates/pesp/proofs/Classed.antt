-- Events in classes, one tie after the other.
use Rattle.plan_num.proofs.Common.{◌≡◌, ◌∙◌, inl, inr, ℕ, ◌+◌, ◌%◌, ◌<◌, List, [], ◌∷◌, ◌++◌, All}
use Rattle.plan_num.proofs.Common.{Vec, Global, length, get_or, slice_set, ap, sym, subst, arith}
use Rattle.plan_num.proofs.Common.{get_or-append_seam, cases_eq, cases_lt, get_or-set_other}
use Rattle.plan_num.proofs.Common.{get_or-set_same, get_or_append_left, length-append, length-set}
use Rattle.plan_num.proofs.Common.{All-push, get_or_default_zero}
use Rattle.std.proofs.Math.Nat.{mod-lt}
use Rattle.pesp.specs.Timetables.{IsProblem, Problem}
use Rattle.pesp.specs.declared.cycles.Classes.{Classes}
use Rattle.pesp.specs.declared.cycles.Place.{Place}
use Rattle.pesp.specs.declared.cycles.Tie.{Tie}
use Rattle.pesp.specs.Cycles.{AreClasses, AreLater, AreShifts, IsPlaced, IsTie}
use Rattle.pesp.proofs.Ties.{leads_on, stays_there}

-- ---- at first

abbrev pub ArePlaced : Problem → List Place → Type 0
ArePlaced problem places = (event : ℕ) (other : Place) → event < length places
    → IsPlaced problem event (get_or places event other)

pub alone : (problem : Problem) → IsProblem problem → (event : ℕ) → event < problem.events
    → IsPlaced problem event (record { first = event; there = 0; back = 0 })
alone problem sound event within = record {
  inside = within;
  there = stays_there problem event;
  back = stays_there problem event;
  few_there = omega (arith, sound.some);
  few_back = omega (arith, sound.some);
}

pub placed_more : (problem : Problem) (places : List Place) (place : Place)
    → ArePlaced problem places → IsPlaced problem (length places) place
    → ArePlaced problem (places ++ place ∷ [])
placed_more problem places place so is event other within = elim (cases_lt event (length places)) [
  | inl low ↦ grind (arith, get_or_append_left)
  | inr high ↦
      let last : event ≡ length places =
      omega (arith, within, high, length-append places (place ∷ [])) in
      subst (λ event. IsPlaced problem event (get_or (places ++ place ∷ []) event other)) (sym last)
      (subst (IsPlaced problem (length places)) (sym (get_or-append_seam places place [] other)) is)
]

pub all_alone : (problem : Problem) → IsProblem problem → (classes : Classes)
    → classes.pesp.now ≡ problem → classes.period ≡ problem.period
    → ArePlaced problem classes.places.items → length classes.places.items ≡ problem.events
    → length classes.shifts.items ≡ problem.events
    → All (λ shift. shift ≡ 0) classes.shifts.items → classes.waiting.items ≡ []
    → AreClasses problem classes
all_alone problem sound classes own period placed places shifts zeros none = record {
  own = own;
  period = period;
  sound = sound;
  places = places;
  shifts = shifts;
  waiting = subst (All (λ event. event < problem.events)) (sym none) (λ k d low. absurd (omega (arith, low)));
  placed = λ event other within. placed event other (omega (arith, within, places));
  around = λ event within.
      subst (AreLater problem event event) (sym (zeros event 0 (omega (arith, within, shifts))))
      (stays_there problem event);
  few_around = λ event within. grind arith;
}

-- ---- a tie more

module _ (problem : Problem) (classes : Classes) (so : AreClasses problem classes) where
  pub placed_at : (event : ℕ) (place : Place) → event < problem.events
      → place ≡ get_or classes.places.items event place → IsPlaced problem event place
  placed_at event place within is = grind arith

  pub small : (n : ℕ) → n % classes.period < problem.period
  small n = grind (arith, mod-lt)

  module _ (tie : Tie) (is : IsTie problem tie) (near far : Place)
      (near_so : IsPlaced problem tie.from near) (far_so : IsPlaced problem tie.to far) where
    later : (a b c minutes more : ℕ) → AreLater problem a b minutes → AreLater problem b c more
        → AreLater problem a c ((minutes + more) % classes.period)
    later a b c minutes more one two =
        subst (λ n. AreLater problem a c ((minutes + more) % n)) (sym so.period)
        (leads_on problem so.sound.some a b c minutes more one two)

    forth : AreLater problem near.first tie.to ((near.there + tie.forth) % classes.period)
    forth = later near.first tie.from tie.to near.there tie.forth near_so.there is.forth

    pub around : far.first ≡ near.first → AreLater problem near.first near.first
        (((near.there + tie.forth) % classes.period + far.back) % classes.period)
    around same =
        subst (λ first. AreLater problem near.first first
        (((near.there + tie.forth) % classes.period + far.back) % classes.period)) same
        (later near.first tie.to far.first ((near.there + tie.forth) % classes.period) far.back forth
        far_so.back)

    pub joined : IsPlaced problem tie.to (record {
      first = near.first;
      there = (near.there + tie.forth) % classes.period;
      back = (tie.back + near.back) % classes.period;
    })
    joined = record {
      inside = near_so.inside;
      there = forth;
      back = later tie.to tie.from near.first tie.back near.back is.back near_so.back;
      few_there = small (near.there + tie.forth);
      few_back = small (tie.back + near.back);
    }

  pub shifts_set : (first common : ℕ) → first < problem.events
      → AreLater problem first first common → common < problem.period → (shifts : Vec ℕ Global)
      → shifts.items ≡ slice_set classes.shifts.items first common
      → AreClasses problem (record classes { shifts = shifts })
  shifts_set first common within is few shifts set = record {
    own = so.own;
    period = so.period;
    sound = so.sound;
    places = so.places;
    shifts = ap length set ∙ length-set classes.shifts.items first common ∙ so.shifts;
    waiting = so.waiting;
    placed = so.placed;
    around = λ event inside. subst (AreLater problem event event) (sym (at event))
        (around_at event inside);
    few_around = λ event inside. subst (λ n. n < problem.period) (sym (at event))
        (few_at event inside);
  }
    where
      at : (event : ℕ) → get_or shifts.items event 0
          ≡ get_or (slice_set classes.shifts.items first common) event 0
      at event = ap (λ (items : List ℕ). get_or items event 0) set

      here : get_or (slice_set classes.shifts.items first common) first 0 ≡ common
      here = get_or-set_same classes.shifts.items first common 0 (omega (arith, within, so.shifts))

      around_at : (event : ℕ) → event < problem.events → AreLater problem event event
          (get_or (slice_set classes.shifts.items first common) event 0)
      around_at event inside = elim (cases_eq event first) [
        | inl own ↦
            subst (λ event. AreLater problem event event
            (get_or (slice_set classes.shifts.items first common) event 0)) (sym own)
            (subst (AreLater problem first first) (sym here) is)
        | inr apart ↦
            subst (AreLater problem event event)
            (sym (get_or-set_other classes.shifts.items first event common 0 apart))
            (so.around event inside)
      ]

      few_at : (event : ℕ) → event < problem.events
          → get_or (slice_set classes.shifts.items first common) event 0 < problem.period
      few_at event inside = elim (cases_eq event first) [
        | inl own ↦
            subst (λ event. get_or (slice_set classes.shifts.items first common) event 0
            < problem.period) (sym own) (subst (λ n. n < problem.period) (sym here) few)
        | inr apart ↦
            subst (λ n. n < problem.period)
            (sym (get_or-set_other classes.shifts.items first event common 0 apart))
            (so.few_around event inside)
      ]

  pub place_set : (to : ℕ) (place : Place) → to < problem.events → IsPlaced problem to place
      → (places : Vec Place Global) → places.items ≡ slice_set classes.places.items to place
      → (waiting : Vec ℕ Global) → waiting.items ≡ classes.waiting.items ++ to ∷ []
      → AreClasses problem (record classes { places = places; waiting = waiting })
  place_set to place within is places set waiting more = record {
    own = so.own;
    period = so.period;
    sound = so.sound;
    places = ap length set ∙ length-set classes.places.items to place ∙ so.places;
    shifts = so.shifts;
    waiting = subst (All (λ event. event < problem.events)) (sym more)
        (All-push (λ event. event < problem.events) classes.waiting.items to so.waiting within);
    placed = λ event other inside.
        subst (λ (items : List Place). IsPlaced problem event (get_or items event other)) (sym set)
        (placed_there event other inside);
    around = so.around;
    few_around = so.few_around;
  }
    where
      placed_there : (event : ℕ) (other : Place) → event < problem.events
          → IsPlaced problem event (get_or (slice_set classes.places.items to place) event other)
      placed_there event other inside = elim (cases_eq event to) [
        | inl own ↦
            subst (λ event. IsPlaced problem event
            (get_or (slice_set classes.places.items to place) event other)) (sym own)
            (subst (IsPlaced problem to)
            (sym (get_or-set_same classes.places.items to place other (omega (arith, within, so.places))))
            is)
        | inr apart ↦
            subst (IsPlaced problem event)
            (sym (get_or-set_other classes.places.items to event place other apart))
            (so.placed event other inside)
      ]

  -- one that waits less
  pub waits_less : (waiting : Vec ℕ Global)
      → All (λ event. event < problem.events) waiting.items
      → AreClasses problem (record classes { waiting = waiting })
  waits_less waiting are = grind (arith, around)

-- they are classes of the problem that they know of
pub owned : (problem : Problem) (classes : Classes) → AreClasses problem classes
    → AreClasses classes.pesp.now classes
owned problem classes so = subst (λ (problem : Problem). AreClasses problem classes) (sym so.own) so

-- ---- the minutes of each event

-- the minutes of the events so far bring them back to themselves
pub record AreShiftsTo (problem : Problem) (shifts : List ℕ) (count : ℕ) : Type 0 where
  pub size : length shifts ≡ count
  pub around : (event : ℕ) → event < count → AreLater problem event event (get_or shifts event 0)
  pub few : (event : ℕ) → event < count → get_or shifts event 0 < problem.period

pub no_shifts : (problem : Problem) (shifts : List ℕ) → shifts ≡ [] → AreShiftsTo problem shifts 0
no_shifts problem shifts none = grind (arith, around)

module _ (problem : Problem) (classes : Classes) (so : AreClasses problem classes) where
  pub shift_more : (shifts items : List ℕ) (count : ℕ) (place : Place) (shift : ℕ)
      → AreShiftsTo problem shifts count → IsPlaced problem count place
      → shift ≡ get_or classes.shifts.items place.first 0
      → items ≡ shifts ++ (((place.back + shift) % classes.period + place.there) % classes.period)
      ∷ [] → AreShiftsTo problem items (count + 1)
  shift_more shifts items count place shift are is same more = record {
    size = omega (arith, ap length more, length-append shifts (last ∷ []), are.size);
    around = λ event low. subst (λ (items : List ℕ). AreLater problem event event
        (get_or items event 0)) (sym more) (around_at event low);
    few = λ event low. subst (λ (items : List ℕ). get_or items event 0 < problem.period) (sym more)
        (few_at event low);
  }
    where
      last : ℕ
      last = ((place.back + shift) % classes.period + place.there) % classes.period

      round : AreLater problem count count last
      round = subst (λ period. AreLater problem count count
          (((place.back + shift) % period + place.there) % period)) (sym so.period)
          (leads_on problem so.sound.some count place.first count
          ((place.back + shift) % problem.period) place.there
          (leads_on problem so.sound.some count place.first place.first place.back shift is.back
          (subst (AreLater problem place.first place.first) (sym same) (so.around place.first is.inside)))
          is.there)

      here : get_or (shifts ++ last ∷ []) count 0 ≡ last
      here = grind (arith, get_or, get_or-append_seam)

      around_at : (event : ℕ) → event < count + 1
          → AreLater problem event event (get_or (shifts ++ last ∷ []) event 0)
      around_at event low = elim (cases_lt event count) [
        | inl before ↦
            subst (AreLater problem event event)
            (sym (get_or_append_left shifts (last ∷ []) 0 event (omega (arith, before, are.size))))
            (are.around event before)
        | inr after ↦
            let own : event ≡ count = omega (arith, low, after) in
            subst (λ event. AreLater problem event event (get_or (shifts ++ last ∷ []) event 0))
            (sym own) (subst (AreLater problem count count) (sym here) round)
      ]

      few_at : (event : ℕ) → event < count + 1
          → get_or (shifts ++ last ∷ []) event 0 < problem.period
      few_at event low = elim (cases_lt event count) [
        | inl before ↦
            subst (λ n. n < problem.period)
            (sym (get_or_append_left shifts (last ∷ []) 0 event (omega (arith, before, are.size))))
            (are.few event before)
        | inr after ↦
            let own : event ≡ count = omega (arith, low, after) in
            subst (λ event. get_or (shifts ++ last ∷ []) event 0 < problem.period) (sym own)
            (subst (λ n. n < problem.period) (sym here) (small problem classes so _))
      ]

-- that of one event
pub shift_at : (problem : Problem) (shifts : List ℕ) → AreShifts problem shifts
    → (event minutes : ℕ) → event < problem.events → minutes ≡ get_or shifts event minutes
    → AreLater problem event event minutes
shift_at problem shifts are event minutes within is =
    subst (AreLater problem event event)
    (sym (is ∙ get_or_default_zero shifts event minutes (omega (arith, within, are.size))))
    (are.around event within)
