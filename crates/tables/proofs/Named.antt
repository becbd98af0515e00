-- Which file a refusal by a row names: that of the input that the row stands in.
use Rattle.plan_num.proofs.Common.{◌≡◌, ℕ, Bool, true, false, cond, List, [], ◌∷◌, ◌++◌, map}
use Rattle.plan_num.proofs.Common.{nat_lt, subst, sym, Option, Some, None, ⊤, flat_map}
use Rattle.tables.specs.declared.file_id.FileId.{FileId}
use Rattle.tables.specs.declared.row_why.RowWhy.{RowWhy}
use Rattle.tables.specs.declared.refusal.Refusal.{Refusal}
use Rattle.tables.specs.declared.refusal.Refusal.TheVariants as refusal
use Rattle.tables.specs.Reading.{faults, table_of}
use Rattle.tables.specs.Inputs.{Numbered, RowRule, TableRule, Input, records, numbered, cell_faults, limit_faults, broken_whys, row_faults, table_row_faults, fault_at, whole_faults, or_else, input_faults}
use Rattle.tables.specs.NamedFiles.{NamesInput, NamesOnly}

-- each of some refusals is that of an input
abbrev pub AllName : (FileId → Bool) → List Refusal → Type 0
AllName test [] = ⊤
AllName test (first ∷ more) = NamesInput test first × AllName test more

-- such a refusal names no other file
pub names_only : (test : FileId → Bool) (reason : Refusal) → NamesInput test reason → NamesOnly test reason
names_only test (refusal.BadRow file row why) h = h
names_only test (refusal.TooMany what count) h = tt
names_only test refusal.NoSolution h = absurd h
names_only test (refusal.Spent entries) h = absurd h

pub none_names : (test : FileId → Bool) (faults : List Refusal) → faults ≡ [] → AllName test faults
none_names test faults none = subst (AllName test) (sym none) tt

-- the refusals of two lists, one behind the other
pub names_both : (test : FileId → Bool) (some others : List Refusal) → AllName test some
    → AllName test others → AllName test (some ++ others)
names_both test [] others h k = k
names_both test (first ∷ some) others h k = (h.0, names_both test some others h.1 k)

-- the refusals of a list, or else those of another
pub names_or_else : (test : FileId → Bool) (some others : List Refusal) → AllName test some
    → AllName test others → AllName test (or_else some others)
names_or_else test [] others h k = k
names_or_else test (first ∷ some) others h k = h

-- a refusal that is made in some case alone
pub names_if : (test : FileId → Bool) (b : Bool) (one : Refusal) → NamesInput test one
    → AllName test (cond b (one ∷ []) [])
names_if test true one h = (h, tt)
names_if test false one h = tt

-- for each of some things a refusal, in some case
pub names_where : {X : Type 0} (test : FileId → Bool) (is_at_fault : X → Bool) (one : X → Refusal)
    → ((x : X) → NamesInput test (one x)) → (all : List X)
    → AllName test (flat_map (λ x. cond (is_at_fault x) (one x ∷ []) []) all)
names_where test is_at_fault one h [] = tt
names_where test is_at_fault one h (x ∷ all) =
    names_both test (cond (is_at_fault x) (one x ∷ []) []) _
    (names_if test (is_at_fault x) (one x) (h x)) (names_where test is_at_fault one h all)

-- for each of some things a row of one file
names_rows : {X : Type 0} (test : FileId → Bool) (file : FileId) (row : X → ℕ) (why : X → RowWhy)
    → test file ≡ true → (all : List X)
    → AllName test (map (λ x. refusal.BadRow file (row x) (why x)) all)
names_rows test file row why h [] = tt
names_rows test file row why h (x ∷ all) = (h, names_rows test file row why h all)

at_row : (test : FileId → Bool) (file : FileId) (is : test file ≡ true) (why : RowWhy)
    (at : Option ℕ) → AllName test (fault_at file why at)
at_row test file is why None = tt
at_row test file is why (Some row) = (is, tt)

module _ {X : Type 0} (test : FileId → Bool) (file : FileId) (is : test file ≡ true) where
  -- the rules that rows break
  rules_name : (rules : List (RowRule X)) (before : List X) (rows : List (Numbered X))
      → AllName test (row_faults file rules before rows)
  unfolding row_faults
  rules_name rules before [] = tt
  rules_name rules before (at ∷ rows) =
      names_both test _ (row_faults file rules (before ++ at.row ∷ []) rows)
      (names_rows test file (λ _. at.number) (λ why. why) is (broken_whys rules before at.row))
      (rules_name rules (before ++ at.row ∷ []) rows)

  -- the rules that a whole file breaks
  whole_names : (rules : List (TableRule X)) (rows : List (Numbered X)) → AllName test (whole_faults file rules rows)
  whole_names [] rows = tt
  whole_names (rule ∷ rules) rows = names_both test (fault_at file rule.why (rule.broken_at rows)) _
      (at_row test file is rule.why (rule.broken_at rows)) (whole_names rules rows)

-- every fault of a text as an input names the file of the input
pub input_names : {X : Type 0} (test : FileId → Bool) (input : Input X) (text : List ℕ)
    → test input.file ≡ true → AllName test (input_faults input text)
unfolding input_faults
input_names test input text is =
    let rows = table_of input.columns text in
    let all = records input rows in
    let cells = names_rows test input.file (λ fault. fault.row) (λ fault. fault.why) is (faults input.columns text) in
    let limits : AllName test (limit_faults input.limits all) = names_where test
    (λ limit. nat_lt limit.most (limit.count all))
    (λ limit. refusal.TooMany limit.what (limit.count all)) (λ _. tt) input.limits in
    let whole = whole_names test input.file is input.table_rules (numbered input rows) in
    names_or_else test (cell_faults input.file input.columns text) _ cells
    (names_both test _ (whole_faults input.file input.table_rules (numbered input rows))
    (names_both test (limit_faults input.limits all) (table_row_faults input rows) limits
    (rules_name test input.file is input.row_rules [] (numbered input rows))) whole)
