-- A text that breaks no rule of a timetable is one.
use Rattle.plan_num.proofs.Common.{◌≡◌, ◌∙◌, ℕ, suc, ◌+◌, ◌<◌, ◌&&◌, ◌==◌, not, Bool, true, false}
use Rattle.plan_num.proofs.Common.{cond, nat_eq, nat_lt, List, [], ◌∷◌, ◌++◌, length, map}
use Rattle.plan_num.proofs.Common.{slice_get, All, Option, Some, None, is_some, is_none, IfNone}
use Rattle.plan_num.proofs.Common.{IfOk, Result, Ok, Err, refl, ap, sym, arith, enumerate_from}
use Rattle.plan_num.proofs.Common.{list_all, and_from, and_parts, eq-eqb, eqb-true, lt-ltb}
use Rattle.plan_num.proofs.Common.{ltb-true, not-false, length-map, same_Some, All-cons, All-nil}
use Rattle.tables.proofs.Common.{times_p_columns, faults, table_of, TableRow, ReadsAs, records_by}
use Rattle.event_tables.specs.declared.periodic_time.PeriodicTime.{PeriodicTime}
use Rattle.event_tables.proofs.Common.{periodic_time}
use Rattle.pesp.specs.Timetables.{IsProblem, IsTimetable, Problem, first_broken}
use Rattle.pesp.proofs.FirstBroken.{first_is, none_is}
use Rattle.pesp_search.specs.declared.fault.TimetableFault.{TimetableFault}
use Rattle.pesp_search.specs.declared.fault.TimetableFault.TheVariants as fault
use Rattle.pesp_search.specs.Judged.{Passes, are_in_order, broken_rows, first_broken_rule, is_table, is_time_of}
use Rattle.pesp_search.specs.Judged.{rows_in, times_in}
use Rattle.pesp_search.specs.TimetableStage.{time_rows}
use Rattle.plan_num.proofs.Lists.{none_long}

abbrev times_of : List PeriodicTime → List ℕ
times_of rows = map (λ row. row.time) rows

-- rows in order are those of their times
rows_are : (period n : ℕ) (rows : List PeriodicTime)
    → list_all (is_time_of period) (enumerate_from n rows) ≡ true
    → rows ≡ map (λ at. record { event = at.0; time = at.1 }) (enumerate_from n (times_of rows))
rows_are period n [] order = refl
rows_are period n (row ∷ rows) order =
    let parts = and_parts (is_time_of period (n, row)) _ order in grind (
      arith,
      and_parts,
      nat_eq,
      nat_lt,
      eqb-true,
      rows_are period (n + 1) rows parts.1,
    )

pub rows_below : (period n : ℕ) (rows : List PeriodicTime)
    → list_all (is_time_of period) (enumerate_from n rows) ≡ true
    → All (λ time. time < period) (times_of rows)
rows_below period n [] order = All-nil (λ time. time < period)
rows_below period n (row ∷ rows) order =
    let parts = and_parts (is_time_of period (n, row)) _ order in grind (
      arith,
      and_parts,
      nat_eq,
      nat_lt,
      All-cons,
      ltb-true,
      rows_below period (n + 1) rows parts.1,
    )

-- what rows in order tell of their times
pub record TimesInOrder (problem : Problem) (rows : List PeriodicTime) : Type 0 where
  pub each : length (times_of rows) ≡ problem.events
  pub within : All (λ time. time < problem.period) (times_of rows)

pub in_order : (problem : Problem) (rows : List PeriodicTime) → are_in_order problem rows ≡ true
    → TimesInOrder problem rows
in_order problem rows order =
    let parts = and_parts (length rows == problem.events) _ order in grind (
      arith,
      length-map,
      eqb-true,
      rows_below,
    )

-- where none of three rules is broken
none_broken : (a b c : Bool)
    → slice_get (cond a (fault.Row ∷ []) [] ++ (cond b (fault.Events ∷ []) [] ++ cond c (fault.Tension ∷ []) [])) 0 ≡ None
    → (a ≡ false) × (b ≡ false) × (c ≡ false)
none_broken true b c none = absurd (cc)
none_broken false true c none = absurd (cc)
none_broken false false true none = absurd (cc)
none_broken false false false none = (refl, refl, refl)

not_some : {X : Type 0} (option : Option X) → is_some option ≡ false → is_none option ≡ true
not_some None is = refl
not_some (Some x) is = absurd (cc)

module _ (problem : Problem) (sound : IsProblem problem) (text : List ℕ) where
  pub passes_of : first_broken_rule problem text ≡ None → Passes problem text
  unfolding first_broken_rule
  passes_of none =
      let rows = rows_in text in
      let times = times_in text in
      let parts = none_broken (not (is_table text)) (not (are_in_order problem rows)) (is_some (first_broken problem times)) none in
      let order = not-false (are_in_order problem rows) parts.1 in
      let told = in_order problem rows order in
      let all = (and_parts (length rows == problem.events) _ order).1 in
      let first = first_is problem times sound told.each told.within (first_broken problem times) refl in
      record {
        times = times;
        reads = (none_long (faults times_p_columns text) (not-false (is_table text) parts.0), rows_are problem.period 1 rows all);
        timetable = (none_is problem times sound told.each told.within (first_broken problem times) first).0
            (not_some (first_broken problem times) parts.2);
      }

  pub passes_by : (answer : Option TimetableFault) → answer ≡ first_broken_rule problem text
      → IfNone answer (Passes problem text)
  passes_by None is = passes_of (sym is)
  passes_by (Some rule) is = tt

-- ---- a timetable breaks none

abbrev rows_from : ℕ → List ℕ → List PeriodicTime
rows_from n times = map (λ at. record { event = at.0; time = at.1 }) (enumerate_from n times)

times_back : (n : ℕ) (times : List ℕ) → times_of (rows_from n times) ≡ times
times_back n [] = refl
times_back n (time ∷ times) = ap (λ rest. time ∷ rest) (times_back (n + 1) times)

all_in_place : (period n : ℕ) (times : List ℕ) → All (λ time. time < period) times
    → list_all (is_time_of period) (enumerate_from n (rows_from n times)) ≡ true
all_in_place period n [] below = refl
all_in_place period n (time ∷ times) below =
    ap (λ b. b && list_all (is_time_of period) (enumerate_from (n + 1) (rows_from (n + 1) times)))
    (and_from (nat_eq n n) (nat_lt time period) (eq-eqb n n refl)
    (lt-ltb time period (below 0 time (omega arith))))
    ∙ all_in_place period (n + 1) times (λ k d h. below (suc k) d (omega (arith, h)))

none_some : {X : Type 0} (option : Option X) → is_none option ≡ true → is_some option ≡ false
none_some None is = refl
none_some (Some x) is = absurd (cc)

pub none_broken_by : (problem : Problem) → IsProblem problem → (text times : List ℕ)
    → ReadsAs times_p_columns periodic_time (time_rows times) text → IsTimetable problem times
    → first_broken_rule problem text ≡ None
unfolding first_broken_rule
none_broken_by problem sound text times reads is =
    let table : is_table text ≡ true = ap (λ (faults : List _). length faults == 0) reads.0 in
    let same : times_in text ≡ times = ap times_of reads.1 ∙ times_back 1 times in
    let size : length (rows_in text) ≡ problem.events =
    sym (length-map (rows_in text) (λ (row : PeriodicTime). row.time)) ∙ ap length same ∙ is.each in
    let order : are_in_order problem (rows_in text) ≡ true =
    and_from (length (rows_in text) == problem.events) _ (eq-eqb (length (rows_in text)) problem.events size)
    (ap (λ rows. list_all (is_time_of problem.period) (enumerate_from 1 rows)) reads.1
    ∙ all_in_place problem.period 1 times is.within) in
    let first = first_is problem times sound is.each is.within (first_broken problem times) refl in
    let kept : is_some (first_broken problem (times_in text)) ≡ false =
    ap (λ times. is_some (first_broken problem times)) same
    ∙ none_some (first_broken problem times)
    ((none_is problem times sound is.each is.within (first_broken problem times) first).1 is) in
    rw (table, order, kept) refl

-- ---- what the reading of a text tells

abbrev read_as : List ℕ → Option (List TableRow)
read_as text = cond (is_table text) (Some (table_of times_p_columns text)) None

module _ (problem : Problem) (text : List ℕ) where
  abbrev by_table : Bool → Option TimetableFault
  by_table b = slice_get (cond (not b) (fault.Row ∷ []) [] ++ broken_rows problem (rows_in text)) 0

  pub not_table : None ≡ read_as text → Some fault.Row ≡ first_broken_rule problem text
  unfolding first_broken_rule
  not_table is = grind arith

  module _ (table : List TableRow) (is : Some table ≡ read_as text) where
    some_read : (b : Bool) → Some table ≡ cond b (Some (table_of times_p_columns text)) None
        → (true ≡ b) × (table ≡ table_of times_p_columns text)
    some_read true is = (refl, same_Some _ _ is)
    some_read false is = absurd (cc)

    pub as_rows_told : {E : Type 0} (result : Result (Option TimetableFault) E)
        → IfOk result (λ answer. answer ≡ slice_get (broken_rows problem (records_by periodic_time table)) 0)
        → IfOk result (λ answer. answer ≡ first_broken_rule problem text)
    unfolding first_broken_rule
    as_rows_told (Err error) told = tt
    as_rows_told (Ok answer) told = grind arith
