-- Two texts that break no rule of a disposition hold feasible times with right reasons, and
-- conversely.
use Rattle.plan_num.proofs.Common.{◌≡◌, ◌∙◌, ℕ, zero, suc, ◌+◌, ◌<◌, ◌≤◌, ◌==◌, ◌||◌, not, Bool}
use Rattle.plan_num.proofs.Common.{true, false, cond, eqb, ltb, nat_eq, nat_lt, List, [], ◌∷◌}
use Rattle.plan_num.proofs.Common.{length, map, filter, get_or, slice_get, All, None, refl, ap, sym}
use Rattle.plan_num.proofs.Common.{arith, enumerate_from, list_all, list_any, range_with_len}
use Rattle.plan_num.proofs.Common.{and_from, and_parts, eq-eqb, eqb-true, ltb-false, ltb-true}
use Rattle.plan_num.proofs.Common.{le-ltb, not-false, or_parts, length-map, length-enumerate_from}
use Rattle.tables.proofs.Common.{disposed_columns, reasons_columns, faults, back_none, front_none}
use Rattle.tables.proofs.Common.{ReadsAs}
use Rattle.event_tables.specs.declared.disposed_time.DisposedTime.{DisposedTime}
use Rattle.event_tables.proofs.Common.{disposed_time}
use Rattle.delay_management.specs.declared.fault.ReasonFault.{ReasonFault}
use Rattle.delay_management.specs.declared.fault.ReasonFault.TheVariants as fault
use Rattle.propagation.specs.declared.reason.Reason.{Reason}
use Rattle.propagation.specs.declared.step.Activity.{Activity}
use Rattle.propagation.specs.declared.step.Step.{Step}
use Rattle.propagation.proofs.Common.{IsFeasible, DelayProblem, steps_with, AreRight}
use Rattle.delay_management.specs.DispositionStage.{ReasonRow, reason_rows, time_rows}
use Rattle.delay_management.specs.Judged.{are_all, broken_reasons, broken_rows, broken_rules, broken_times}
use Rattle.delay_management.specs.Judged.{broken_where, events_where, first_broken_rule, is_early, is_table, is_wrong}
use Rattle.delay_management.specs.Judged.{reason_faults, reason_row, reasons_read, times_read}
use Rattle.delay_management.proofs.WrittenRows.{reasons_from, times_from}
use Rattle.plan_num.proofs.Lists.{unmapped, none_first, none_long}

-- ---- lists that tell nothing

kept_rule : (broken : Bool) (rule : ReasonFault) → broken_where broken rule ≡ [] → broken ≡ false
kept_rule false rule none = refl
kept_rule true rule none = absurd (cc)

module _ (test : ℕ → Bool) where
  none_pass : (a n : ℕ) → filter test (range_with_len a n) ≡ [] → (e : ℕ) → a ≤ e → e < a + n → test e ≡ false
  none_pass a zero none e low high = absurd (omega arith)
  none_pass a (suc n) none e low high =
      by (test a) refl (λ rest low. none_pass (a + 1) n rest e low (omega (arith, high))) none
    where
      by : (b : Bool) → test a ≡ b
          → (filter test (range_with_len (a + 1) n) ≡ [] → a + 1 ≤ e → test e ≡ false)
          → cond b (a ∷ filter test (range_with_len (a + 1) n)) (filter test (range_with_len (a + 1) n)) ≡ []
          → test e ≡ false
      by true is rest none = absurd (cc)
      by false is rest none =
          elim (eqb e a) as (λ b. eqb e a ≡ b → test e ≡ false) [
            | true ↦ λ same. ap test (eqb-true e a same) ∙ is
            | false ↦ λ other. rest none (later other)
          ] refl
        where
          later : eqb e a ≡ false → a + 1 ≤ e
          later other =
              elim (ltb a e) as (λ b. ltb a e ≡ b → a + 1 ≤ e) [
                | true ↦ λ less. let is : a < e = ltb-true a e less in omega (arith, is)
                | false ↦ λ most. let is : e ≤ a = ltb-false a e most in let same : e ≡ a = omega (arith, is, low) in
                    let t : true ≡ false = sym (eq-eqb e a same) ∙ other in absurd (cc)
              ] refl

  pass_none : (a n : ℕ) → ((e : ℕ) → a ≤ e → e < a + n → test e ≡ false) → filter test (range_with_len a n) ≡ []
  pass_none a zero fails = refl
  pass_none a (suc n) fails =
      ap (λ b. cond b (a ∷ filter test (range_with_len (a + 1) n)) (filter test (range_with_len (a + 1) n)))
      (fails a (omega arith) (omega arith))
      ∙ pass_none (a + 1) n (λ e low high. fails e (omega (arith, low)) (omega (arith, high)))

any_false : {X : Type 0} (test : X → Bool) (xs : List X) → list_any test xs ≡ false → All (λ x. test x ≡ false) xs
any_false test [] none k d inside = absurd (omega (arith, inside))
any_false test (x ∷ xs) none zero d inside = (or_parts (test x) (list_any test xs) none).0
any_false test (x ∷ xs) none (suc k) d inside =
    any_false test xs (or_parts (test x) (list_any test xs) none).1 k d (omega (arith, inside))

false_any : {X : Type 0} (test : X → Bool) (xs : List X) → All (λ x. test x ≡ false) xs → list_any test xs ≡ false
false_any test [] all = refl
false_any test (x ∷ xs) all =
    ap (λ b. b || list_any test xs) (all 0 x (omega arith))
    ∙ false_any test xs (λ k d h. all (suc k) d (omega (arith, h)))

-- ---- rows in order

times_are : (n : ℕ) (rows : List DisposedTime)
    → list_all (λ at. nat_eq at.1 at.0) (enumerate_from n (map (λ (row : DisposedTime). row.event) rows)) ≡ true
    → rows ≡ times_from n (map (λ row. row.time) rows)
times_are n [] order = refl
times_are n (row ∷ rows) order =
    let parts = and_parts (nat_eq row.event n) _ order in grind (
      arith,
      eqb-true,
      times_are (n + 1)
          rows parts.1,
    )

reasons_are : (n : ℕ) (rows : List ReasonRow)
    → list_all (λ at. nat_eq at.1 at.0) (enumerate_from n (map (λ (row : ReasonRow). row.event) rows)) ≡ true
    → rows ≡ reasons_from n (map (λ row. row.reason) rows)
reasons_are n [] order = refl
reasons_are n (row ∷ rows) order =
    let parts = and_parts (nat_eq row.event n) _ order in grind (
      arith,
      eqb-true,
      reasons_are (n +
          1) rows parts.1,
    )

module _ {X Y : Type 0} (row : ℕ × X → Y) (event : Y → ℕ) (part : Y → X)
    (first : (at : ℕ × X) → event (row at) ≡ at.0) (second : (at : ℕ × X) → part (row at) ≡ at.1) where
  ids_in_order : (n : ℕ) (xs : List X) → list_all (λ at. nat_eq at.1 at.0)
      (enumerate_from n (map event (map row (enumerate_from n xs)))) ≡ true
  ids_in_order n [] = refl
  ids_in_order n (x ∷ xs) = and_from _ _ (eq-eqb (event (row (n, x))) n (first (n, x))) (ids_in_order (n + 1) xs)

  parts_back : (n : ℕ) (xs : List X) → map part (map row (enumerate_from n xs)) ≡ xs
  parts_back n [] = refl
  parts_back n (x ∷ xs) = λ i. second (n, x) i ∷ parts_back (n + 1) xs i

  all_there : (count : ℕ) (xs : List X) → length xs ≡ count
      → are_all count (map event (map row (enumerate_from 1 xs))) ≡ true
  all_there count xs each =
      grind (arith, and_from, eq-eqb, length-map, length-enumerate_from, ids_in_order)

abbrev time_row : ℕ × ℕ → DisposedTime
time_row at = record { event = at.0; time = at.1 }

abbrev reasoned : ℕ × Reason → ReasonRow
reasoned at = record { event = at.0; reason = at.1 }

-- ---- what is known of texts that break no rule

pub record Told (problem : DelayProblem) (kept : List Activity) (times_text reasons_text : List ℕ) : Type 0 where
  pub times : List ℕ
  pub reasons : List Reason
  pub times_again : ReadsAs disposed_columns disposed_time (time_rows times) times_text
  pub reasons_again : ReadsAs reasons_columns reason_row (reason_rows reasons) reasons_text
  pub feasible : IsFeasible problem kept times
  pub right : AreRight problem kept times reasons

module _ (problem : DelayProblem) (kept : List Activity) where
  abbrev n : ℕ
  n = length problem.events

  abbrev steps : List Step
  steps = steps_with problem kept

  feasible_by : (times : List ℕ) → length times ≡ n → All (λ step. step.to < n) steps
      → ((event : ℕ) → event < n → is_early problem steps times event ≡ false) → IsFeasible problem kept times
  feasible_by times each heads early =
      grind (arith, ltb-false, or_parts, nat_lt, get_or, any_false, eq-eqb)

  early_by : (times : List ℕ) → IsFeasible problem kept times → (event : ℕ) → event < n
      → is_early problem steps times event ≡ false
  early_by times feasible event inside = grind (arith, le-ltb, false_any, get_or, nat_lt, eqb-true)

  module _ (times_text reasons_text : List ℕ) where
    abbrev rows : List DisposedTime
    rows = times_read times_text

    abbrev why_rows : List ReasonRow
    why_rows = reasons_read reasons_text

    abbrev times_of : List ℕ
    times_of = map (λ row. row.time) rows

    abbrev reasons_of : List Reason
    reasons_of = map (λ row. row.reason) why_rows

    pub told_by : All (λ step. step.to < n) steps
        → first_broken_rule problem kept times_text reasons_text ≡ None → Told problem kept times_text reasons_text
    unfolding first_broken_rule
    told_by heads none =
        let all = none_first (broken_rules problem kept times_text reasons_text) none in
        let no_table = kept_rule (not (is_table disposed_columns times_text)) fault.TimesRow
        (front_none _ (broken_rows problem kept rows reasons_text) all) in
        let behind = back_none (broken_where (not (is_table disposed_columns times_text)) fault.TimesRow)
        (broken_rows problem kept rows reasons_text) all in
        let order = not-false _ (kept_rule (not (are_all n (map (λ row. row.event) rows))) fault.Events
        (front_none _ (broken_times problem kept times_of reasons_text) behind)) in
        let timed = back_none (broken_where (not (are_all n (map (λ row. row.event) rows))) fault.Events)
        (broken_times problem kept times_of reasons_text) behind in
        let early = unmapped _ (events_where problem (is_early problem steps times_of))
        (front_none (map (λ event. fault.Early event) (events_where problem (is_early problem steps times_of)))
        (reason_faults problem kept times_of reasons_text) timed) in
        let whys = back_none (map (λ event. fault.Early event) (events_where problem (is_early problem steps times_of)))
        (reason_faults problem kept times_of reasons_text) timed in
        let no_reasons = kept_rule (not (is_table reasons_columns reasons_text)) fault.ReasonsRow
        (front_none _ (broken_reasons problem kept times_of why_rows) whys) in
        let rest = back_none (broken_where (not (is_table reasons_columns reasons_text)) fault.ReasonsRow)
        (broken_reasons problem kept times_of why_rows) whys in
        let why_order = not-false _ (kept_rule (not (are_all n (map (λ row. row.event) why_rows))) fault.ReasonsRow
        (front_none _ (map (λ event. fault.Reason event)
        (events_where problem (is_wrong problem kept times_of reasons_of))) rest)) in
        let wrong = unmapped _ (events_where problem (is_wrong problem kept times_of reasons_of))
        (back_none (broken_where (not (are_all n (map (λ row. row.event) why_rows))) fault.ReasonsRow)
        (map (λ event. fault.Reason event) (events_where problem (is_wrong problem kept times_of reasons_of))) rest) in
        let ordered = and_parts (length (map (λ (row : DisposedTime). row.event) rows) == n) _ order in
        let why_ordered = and_parts (length (map (λ (row : ReasonRow). row.event) why_rows) == n) _ why_order in
        let long : length times_of ≡ n = length-map rows (λ row. row.time) ∙ sym (length-map rows (λ row. row.event))
        ∙ eqb-true _ n ordered.0 in
        let why_long : length reasons_of ≡ n = length-map why_rows (λ row. row.reason)
        ∙ sym (length-map why_rows (λ row. row.event)) ∙ eqb-true _ n why_ordered.0 in
        record {
          times = times_of;
          reasons = reasons_of;
          times_again = (
            none_long (faults disposed_columns times_text)
                (not-false _ no_table),
            times_are 1 rows ordered.1,
          );
          reasons_again = (
            none_long (faults reasons_columns reasons_text)
                (not-false _ no_reasons),
            reasons_are 1 why_rows why_ordered.1,
          );
          feasible = feasible_by times_of long heads
              (λ event inside. none_pass (is_early problem steps times_of) 0 n early event (omega arith)
              (omega (arith, inside)));
          right = record {
            each = why_long;
            right = λ event inside. not-false _ (none_pass (is_wrong problem kept times_of reasons_of) 0 n wrong event
                (omega arith) (omega (arith, inside)));
          };
        }

    pub none_told : Told problem kept times_text reasons_text
        → first_broken_rule problem kept times_text reasons_text ≡ None
    unfolding first_broken_rule
    none_told told =
        let table : is_table disposed_columns times_text ≡ true =
        ap (λ (faults : List _). length faults == 0) told.times_again.0 in
        let why_table : is_table reasons_columns reasons_text ≡ true =
        ap (λ (faults : List _). length faults == 0) told.reasons_again.0 in
        let same : times_of ≡ told.times = ap (map (λ (row : DisposedTime). row.time)) told.times_again.1
        ∙ parts_back time_row (λ row. row.event) (λ row. row.time) (λ at. refl) (λ at. refl) 1 told.times in
        let why_same : reasons_of ≡ told.reasons = ap (map (λ (row : ReasonRow). row.reason)) told.reasons_again.1
        ∙ parts_back reasoned (λ row. row.event) (λ row. row.reason) (λ at. refl) (λ at. refl) 1 told.reasons in
        let order : are_all n (map (λ row. row.event) rows) ≡ true =
        ap (λ (rows : List DisposedTime). are_all n (map (λ row. row.event) rows)) told.times_again.1
        ∙ all_there time_row (λ row. row.event) (λ row. row.time) (λ at. refl)
        (λ at. refl) n told.times told.feasible.each in
        let why_order : are_all n (map (λ row. row.event) why_rows) ≡ true =
        ap (λ (rows : List ReasonRow). are_all n (map (λ row. row.event) rows)) told.reasons_again.1
        ∙ all_there reasoned (λ row. row.event) (λ row. row.reason) (λ at. refl)
        (λ at. refl) n told.reasons told.right.each in
        let early : events_where problem (is_early problem steps times_of) ≡ [] =
        ap (λ times. events_where problem (is_early problem steps times)) same
        ∙ pass_none (is_early problem steps told.times) 0 n
        (λ e low high. early_by told.times told.feasible e (omega (arith, high))) in
        let wrong : events_where problem (is_wrong problem kept times_of reasons_of) ≡ [] =
        (λ i. events_where problem (is_wrong problem kept (same i) (why_same i)))
        ∙ pass_none (is_wrong problem kept told.times told.reasons) 0 n
        (λ e low high. ap not (told.right.right e (omega (arith, high)))) in
        rw (table, order, early, why_table, why_order, wrong) refl
