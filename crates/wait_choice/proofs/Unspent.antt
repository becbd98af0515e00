-- No fault of an input is a spent budget.
use Rattle.plan_num.proofs.Common.{arith, ◌≡◌, ℕ, Bool, true, false, cond, List, [], ◌∷◌, ◌++◌, map}
use Rattle.plan_num.proofs.Common.{nat_lt, slice_get, Option, Some, None, Err, subst, ⊤, flat_map}
use Rattle.tables.specs.declared.file_id.FileId.{FileId}
use Rattle.tables.specs.declared.row_why.RowWhy.{RowWhy}
use Rattle.tables.specs.declared.refusal.Refusal.{Refusal}
use Rattle.tables.specs.declared.refusal.StageFault.{StageFault}
use Rattle.tables.proofs.Common.{faults, table_of, Input, Numbered, RowRule, TableRule, Refuses}
use Rattle.tables.proofs.Common.{broken_whys, cell_faults, fault_at, limit_faults, numbered}
use Rattle.tables.proofs.Common.{or_else, records, table_row_faults, whole_faults}
use Rattle.tables.specs.declared.refusal.Refusal.TheVariants as refusal
use Rattle.tables.specs.declared.refusal.StageFault.TheVariants as fault
use Rattle.tables.specs.Inputs.{input_faults, row_faults}
use Rattle.giv_files.proofs.Common.{BundleParts}
use Rattle.delay_management.specs.DispositionStage.{disposition_faults}
use Rattle.wait_choice.specs.ChoiceStage.{IsUnspent, IsWhole}

IsFault : Refusal → Type 0
IsFault (refusal.Spent entries) = ⊥
IsFault _ = ⊤

AreFaults : List Refusal → Type 0
AreFaults [] = ⊤
AreFaults (first ∷ more) = IsFault first × AreFaults more

both : (some others : List Refusal) → AreFaults some → AreFaults others → AreFaults (some ++ others)
unfolding AreFaults
both [] others h k = k
both (first ∷ some) others h k = (h.0, both some others h.1 k)

or_others : (some others : List Refusal) → AreFaults some → AreFaults others → AreFaults (or_else some others)
unfolding AreFaults
or_others [] others h k = k
or_others (first ∷ some) others h k = h

where_so : {X : Type 0} (test : X → Bool) (one : X → Refusal) → ((x : X) → IsFault (one x)) → (all : List X)
    → AreFaults (flat_map (λ x. cond (test x) (one x ∷ []) []) all)
unfolding AreFaults
where_so test one h [] = tt
where_so test one h (x ∷ all) = both (cond (test x) (one x ∷ []) []) _ (by (test x) (h x)) (where_so test one h all)
  where
    by : (b : Bool) → IsFault (one x) → AreFaults (cond b (one x ∷ []) [])
    by true is = (is, tt)
    by false is = tt

rows_so : {X : Type 0} (file : FileId) (row : X → ℕ) (why : X → RowWhy) (all : List X)
    → AreFaults (map (λ x. refusal.BadRow file (row x) (why x)) all)
unfolding AreFaults IsFault
rows_so file row why [] = tt
rows_so file row why (x ∷ all) = (tt, rows_so file row why all)

at_so : (file : FileId) (why : RowWhy) (at : Option ℕ) → AreFaults (fault_at file why at)
unfolding AreFaults IsFault
at_so file why None = tt
at_so file why (Some row) = (tt, tt)

module _ {X : Type 0} (file : FileId) where
  rules_so : (rules : List (RowRule X)) (before : List X) (rows : List (Numbered X))
      → AreFaults (row_faults file rules before rows)
  unfolding row_faults AreFaults
  rules_so rules before [] = tt
  rules_so rules before (at ∷ rows) =
      both _ (row_faults file rules (before ++ at.row ∷ []) rows)
      (rows_so file (λ _. at.number) (λ why. why) (broken_whys rules before at.row))
      (rules_so rules (before ++ at.row ∷ []) rows)

  whole_so : (rules : List (TableRule X)) (rows : List (Numbered X)) → AreFaults (whole_faults file rules rows)
  unfolding AreFaults
  whole_so [] rows = tt
  whole_so (rule ∷ rules) rows = both (fault_at file rule.why (rule.broken_at rows)) _
      (at_so file rule.why (rule.broken_at rows)) (whole_so rules rows)

input_so : {X : Type 0} (input : Input X) (text : List ℕ) → AreFaults (input_faults input text)
unfolding input_faults IsFault
input_so input text =
    let rows = table_of input.columns text in
    let all = records input rows in
    or_others (cell_faults input.file input.columns text) _
    (rows_so input.file (λ fault. fault.row) (λ fault. fault.why) (faults input.columns text))
    (both _ (whole_faults input.file input.table_rules (numbered input rows))
    (both (limit_faults input.limits all) (table_row_faults input rows)
    (where_so (λ limit. nat_lt limit.most (limit.count all)) (λ limit. refusal.TooMany limit.what (limit.count all))
    (λ _. tt) input.limits)
    (rules_so input.file input.row_rules [] (numbered input rows)))
    (whole_so input.file input.table_rules (numbered input rows)))

all_so : (bundle : BundleParts) → AreFaults (disposition_faults bundle)
unfolding disposition_faults
all_so bundle = grind (arith, both, input_so)

first_so : (faults : List Refusal) (first : Refusal) → AreFaults faults → slice_get faults 0 ≡ Some first
    → IsFault first
unfolding AreFaults
first_so [] first all is = absurd (cc)
first_so (one ∷ more) first all is = let same : one ≡ first = cc in subst IsFault same all.0

pub refused_unspent : (bundle : BundleParts) (why : StageFault) → Refuses (disposition_faults bundle) why
    → IsUnspent (Err why)
unfolding IsFault
refused_unspent bundle (fault.Refused (refusal.Spent entries)) refused =
    first_so (disposition_faults bundle) (refusal.Spent entries) (all_so bundle) refused
refused_unspent bundle (fault.Refused (refusal.BadRow file row why)) refused = tt
refused_unspent bundle (fault.Refused (refusal.TooMany what count)) refused = tt
refused_unspent bundle (fault.Refused refusal.NoSolution) refused = tt
refused_unspent bundle fault.NoMemory refused = tt

pub refused_whole : (bundle : BundleParts) (why : StageFault) → Refuses (disposition_faults bundle) why
    → IsWhole (Err why)
unfolding IsFault
refused_whole bundle (fault.Refused (refusal.Spent entries)) refused =
    first_so (disposition_faults bundle) (refusal.Spent entries) (all_so bundle) refused
refused_whole bundle (fault.Refused (refusal.BadRow file row why)) refused = tt
refused_whole bundle (fault.Refused (refusal.TooMany what count)) refused = tt
refused_whole bundle (fault.Refused refusal.NoSolution) refused = tt
refused_whole bundle fault.NoMemory refused = tt
