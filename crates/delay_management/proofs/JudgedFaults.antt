-- From what is found to the first rule that is broken.
use Rattle.plan_num.proofs.Common.{arith, ◌≡◌, ◌∙◌, ℕ, not, Bool, true, false, cond, List, [], ◌∷◌}
use Rattle.plan_num.proofs.Common.{◌++◌, length, map, filter, slice_get, Option, Some, None, Result}
use Rattle.plan_num.proofs.Common.{Ok, Err, IfOk, IfNone, option_map, refl, ap, sym, range_with_len}
use Rattle.plan_num.proofs.Common.{same_Some, slice_get-map}
use Rattle.tables.proofs.Common.{disposed_columns, table_of, TableRow, records_by}
use Rattle.giv_files.proofs.Common.{BundleParts}
use Rattle.event_tables.proofs.Common.{disposed_time}
use Rattle.delay_management.specs.declared.fault.ReasonFault.{ReasonFault}
use Rattle.delay_management.specs.declared.fault.ReasonFault.TheVariants as fault
use Rattle.propagation.specs.declared.reason.Reason.{Reason}
use Rattle.propagation.specs.declared.step.Activity.{Activity}
use Rattle.propagation.specs.declared.step.Step.{Step}
use Rattle.propagation.proofs.Common.{is_early_by, is_right_by, DelayProblem, steps_with}
use Rattle.propagation.proofs.Common.{filter_alike}
use Rattle.delay_management.specs.DispositionStage.{ReasonRow, disposition_faults, kept_in, problem_in}
use Rattle.delay_management.specs.Judged.{Passes, are_all, broken_reasons, broken_rows, broken_times, broken_where}
use Rattle.delay_management.specs.Judged.{events_where, first_broken_rule, is_early, is_table, is_wrong, reason_faults}
use Rattle.delay_management.proofs.DispositionReads.{breaking_none, passing}
use Rattle.delay_management.proofs.EventTests.{early_is, right_is}

first_mapped : {X Y : Type 0} (f : X → Y) (xs : List X) (rest : List Y) (x : X) → Some x ≡ slice_get xs 0
    → Some (f x) ≡ slice_get (map f xs ++ rest) 0
first_mapped f [] rest x is = absurd (cc)
first_mapped f (y ∷ xs) rest x is = ap Some (ap f (same_Some _ _ is))

none_mapped : {X Y : Type 0} (f : X → Y) (xs : List X) (rest : List Y) → None ≡ slice_get xs 0
    → rest ≡ map f xs ++ rest
none_mapped f [] rest is = refl
none_mapped f (y ∷ xs) rest is = absurd (cc)

module _ (problem : DelayProblem) (kept : List Activity) (times : List ℕ) (earliest : List ℕ)
    (activities : List Activity) (turns : List Step) (e : earliest ≡ problem.earliest)
    (a : activities ≡ problem.rides ++ kept) (t : turns ≡ problem.turns)
    (each : length times ≡ length problem.events) where
  early_events : filter (is_early_by earliest activities turns times) (range_with_len 0 (length times))
      ≡ events_where problem (is_early problem (steps_with problem kept) times)
  early_events = grind (arith, filter_alike, early_is)

  wrong_events : (reasons : List Reason)
      → filter (λ event. not (is_right_by earliest activities turns times reasons event))
      (range_with_len 0 (length times))
      ≡ events_where problem (is_wrong problem kept times reasons)
  wrong_events reasons = grind (arith, filter_alike, right_is)

  pub found_wrong : (rows : List ReasonRow) (reasons : List Reason) (found : Option ℕ)
      → reasons ≡ map (λ row. row.reason) rows
      → are_all (length times) (map (λ row. row.event) rows) ≡ true
      → found ≡ slice_get (filter (λ event. not (is_right_by earliest activities turns times reasons event))
      (range_with_len 0 (length times))) 0
      → option_map (λ event. fault.Reason event) found ≡ slice_get (broken_reasons problem kept times rows) 0
  found_wrong rows reasons found are order is =
      grind (arith, option_map, slice_get, wrong_events, slice_get-map)

  pub found_early : (text : List ℕ) (event : ℕ)
      → Some event ≡ slice_get (filter (is_early_by earliest activities turns times)
      (range_with_len 0 (length times))) 0
      → Some (fault.Early event) ≡ slice_get (broken_times problem kept times text) 0
  found_early text event is = grind (arith, first_mapped, slice_get, early_events)

  pub none_early : (text : List ℕ)
      → None ≡ slice_get (filter (is_early_by earliest activities turns times) (range_with_len 0 (length times))) 0
      → {E : Type 0} (result : Result (Option ReasonFault) E)
      → IfOk result (λ answer. (some : List Activity) → activities ≡ problem.rides ++ some
      → answer ≡ slice_get (reason_faults problem some times text) 0)
      → IfOk result (λ answer. answer ≡ slice_get (broken_times problem kept times text) 0)
  none_early text is (Ok answer) told = grind (arith, slice_get, none_mapped, early_events)
  none_early text is (Err error) told = tt

-- ---- what the reading of a text of times tells

abbrev read_as : List ℕ → Option (List TableRow)
read_as text = cond (is_table disposed_columns text) (Some (table_of disposed_columns text)) None

module _ (problem : DelayProblem) (kept : List Activity) (text reasons : List ℕ) where
  abbrev by_table : Bool → Option ReasonFault
  by_table b = slice_get (broken_where (not b) fault.TimesRow ++ broken_rows problem kept
      (records_by disposed_time (table_of disposed_columns text)) reasons) 0

  pub not_table : None ≡ read_as text → Some fault.TimesRow ≡ first_broken_rule problem kept text reasons
  unfolding first_broken_rule
  not_table is = grind arith

  module _ (table : List TableRow) (is : Some table ≡ read_as text) where
    some_read : (b : Bool) → Some table ≡ cond b (Some (table_of disposed_columns text)) None
        → (true ≡ b) × (table ≡ table_of disposed_columns text)
    some_read true is = (refl, same_Some _ _ is)
    some_read false is = absurd (cc)

    pub as_rows_told : {E : Type 0} (result : Result (Option ReasonFault) E)
        → IfOk result (λ answer. answer ≡ slice_get
        (broken_rows problem kept (records_by disposed_time table) reasons) 0)
        → IfOk result (λ answer. answer ≡ first_broken_rule problem kept text reasons)
    unfolding first_broken_rule
    as_rows_told (Err error) told = tt
    as_rows_told (Ok answer) told = grind arith

-- ---- texts that pass

pub passes_by : (bundle : BundleParts) (text reasons : List ℕ) → disposition_faults bundle ≡ []
    → (answer : Option ReasonFault)
    → answer ≡ first_broken_rule (problem_in bundle) (kept_in bundle) text reasons
    → IfNone answer (Passes bundle text reasons)
passes_by bundle text reasons none None is = passing bundle none text reasons (sym is)
passes_by bundle text reasons none (Some rule) is = tt

pub passes_only : (bundle : BundleParts) (text reasons : List ℕ) → disposition_faults bundle ≡ []
    → (answer : Option ReasonFault)
    → answer ≡ first_broken_rule (problem_in bundle) (kept_in bundle) text reasons
    → Passes bundle text reasons → answer ≡ None
passes_only bundle text reasons none answer is passes =
    is ∙ breaking_none bundle none text reasons passes
