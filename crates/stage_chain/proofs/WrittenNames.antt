-- The names that a run writes: those of made files and of what is kept, each at most once.
use Rattle.plan_num.proofs.Common.{arith, ◌≡◌, ℕ, ℤ, Bool, true, false, cond, not, is_some, leb}
use Rattle.plan_num.proofs.Common.{◌||◌, List, [], ◌∷◌, ◌++◌, map, filter, Option, refl, ap, ◌∙◌}
use Rattle.plan_num.proofs.Common.{list_all, bytes_eq, false≢true, and_parts, and_from, map-append}
use Rattle.plan_num.proofs.Common.{bytes_eq-Decides}
use Rattle.stage_chain.specs.StageParts.{staged}
use Rattle.plan_files.specs.declared.write.Write.{Write}
use Rattle.plan_files.specs.declared.write.Write.TheVariants.{Removal}
use Rattle.plan_files.proofs.Common.{write_name, Folder}
use Rattle.tables.specs.declared.file_id.FileId.{FileId}
use Rattle.tables.proofs.Common.{file_name}
use Rattle.tables.specs.declared.file_id.FileId.TheVariants as file
use Rattle.giv_files.specs.declared.made.MadeFile.{MadeFile}
use Rattle.giv_files.specs.declared.stage.Stage.{Stage}
use Rattle.giv_files.specs.declared.stage.Stage.TheVariants as stage
use Rattle.config_keys.proofs.Common.{last_stage_of}
use Rattle.stage_keep.specs.Entries.{keep_name}
use Rattle.stage_chain.specs.Built.{files_of}
use Rattle.stage_chain.specs.Chain.{Visit, Halt, stage_place}
use Rattle.stage_chain.specs.Hand.{is_among, is_hand, names_made_by}
use Rattle.stage_chain.specs.Kept.{new_entries, new_entry, solve_over, trace_over}
use Rattle.stage_chain.specs.Runs.{name_of, names_besides, put_of, writes_for}
use Rattle.stage_chain.proofs.Differing.{all_both, all_filter, Differ}
use Rattle.stage_chain.proofs.Differing.{differ_swap, parts_differing}
use Rattle.stage_chain.proofs.Keeping.{solve_makes}
use Rattle.stage_chain.proofs.Traces.{by_differ, by_visits, by_within, stages_run, traced_over}
use Rattle.stage_chain.proofs.Visits.{AreVisits, bundle_stage}
use Rattle.stage_chain.proofs.Wishes.{names_in}
use Rattle.stage_chain.specs.StageLists.{differing, differs_from}
use Rattle.stage_chain.specs.StageParts.{StageParts}
use Rattle.stage_chain.specs.Laws.{AreStages}
use Rattle.stage_chain.specs.StageLists.{is_kept_name}

-- names that pass a test differ from those that do not
pub apart_by : (test : List ℕ → Bool) (names others : List (List ℕ))
    → list_all (λ name. not (test name)) names ≡ true → list_all test others ≡ true
    → Differ names others
apart_by test [] others h k = refl
apart_by test (name ∷ names) others h k =
    let parts = and_parts _ _ h in
    and_from _ _ (one others k parts.0) (apart_by test names others parts.1 k)
  where
    one : (others : List (List ℕ)) → list_all test others ≡ true → not (test name) ≡ true
        → differs_from others name ≡ true
    one [] k out = refl
    one (other ∷ others) k out =
        let parts = and_parts _ _ k in
        and_from _ _ (by (bytes_eq name other) refl parts.0) (one others parts.1 out)
      where
        by : (same : Bool) → bytes_eq name other ≡ same → test other ≡ true → not same ≡ true
        by true is passes = grind (arith, bytes_eq-Decides, false≢true)
        by false is passes = refl

-- one name that does not pass is none of those that do
pub none_by : (test : List ℕ → Bool) (name : List ℕ) (others : List (List ℕ)) → test name ≡ false
    → list_all test others ≡ true → is_among name others ≡ false
none_by test name [] out k = refl
none_by test name (other ∷ others) out k =
    let parts = and_parts _ _ k in
    by (bytes_eq name other) refl parts.0 (none_by test name others out parts.1)
  where
    by : (same : Bool) → bytes_eq name other ≡ same → test other ≡ true
        → is_among name others ≡ false → (same || is_among name others) ≡ false
    by true is passes rest = grind (arith, false≢true, bytes_eq-Decides)
    by false is passes rest = rest

-- ---- names of what is kept

pub file_no_keep : (file : FileId) → is_kept_name (file_name file) ≡ false
file_no_keep file.Stop = refl
file_no_keep _ = refl

-- each stage has one
pub own_keep : (stage : Stage) → is_kept_name (keep_name stage) ≡ true
own_keep stage.Load = refl
own_keep _ = refl

-- people write no file under one
pub kept_no_hand : (name : List ℕ) → is_kept_name name ≡ true → is_hand name ≡ false
unfolding is_hand
kept_no_hand name is = grind arith

-- some stages keep under different names
some_keep : (p : Stage → Bool) (q : List ℕ → Bool) (stages : List Stage)
    → list_all q (map keep_name stages) ≡ true
    → list_all q (map keep_name (filter p stages)) ≡ true
some_keep p q [] h = refl
some_keep p q (stage ∷ stages) h =
    let parts = and_parts _ _ h in by (p stage) parts.0 (some_keep p q stages parts.1)
  where
    by : (b : Bool) → q (keep_name stage) ≡ true
        → list_all q (map keep_name (filter p stages)) ≡ true
        → list_all q (map keep_name (cond b (stage ∷ filter p stages) (filter p stages))) ≡ true
    by true is rest = and_from _ _ is rest
    by false is rest = rest

some_apart : (p : Stage → Bool) (stages : List Stage) → differing (map keep_name stages) ≡ true
    → differing (map keep_name (filter p stages)) ≡ true
some_apart p [] h = refl
some_apart p (stage ∷ stages) h =
    let parts = and_parts _ _ h in grind (arith, some_keep, some_apart p stages parts.1)

module _ (S : StageParts) (laws : AreStages S) where
  pub run_apart : (values : List ℤ) → differing (map keep_name (stages_run S laws values)) ≡ true
  run_apart values =
      some_apart (λ stage. leb (stage_place stage) (stage_place (last_stage_of values))) (staged S values)
      (laws.lists values).keeps_differ

-- ---- the names of new entries

-- what holds of the name of a stage, and of those of other writes, holds with its entry before them
all_new : (q : List ℕ → Bool) (keep : Folder) (visit : Visit) (more : List Write)
    → q (keep_name visit.bundle.stage) ≡ true → list_all q (names_in more) ≡ true
    → list_all q (names_in (new_entry keep visit ++ more)) ≡ true
all_new q keep visit more is rest = grind (arith, is_some, names_in, and_from)

differ_new : (keep : Folder) (visit : Visit) (more : List Write)
    → differs_from (names_in more) (keep_name visit.bundle.stage) ≡ true
    → differing (names_in more) ≡ true → differing (names_in (new_entry keep visit ++ more)) ≡ true
differ_new keep visit more out rest = grind (arith, is_some, names_in, and_from)

module _ (S : StageParts) (laws : AreStages S) where
  module _ (keep : Folder) (values : List ℤ) (hand : Folder) where
    -- what holds of the names under which some stages keep holds of those of their new entries
    pub entries_within : (q : List ℕ → Bool) (before : List MadeFile) (stages : List Stage)
        (visits : List Visit) (halt : Option Halt)
        → AreVisits (solve_over S keep) values hand before stages visits halt
        → list_all q (map keep_name stages) ≡ true
        → list_all q (names_in (new_entries keep visits)) ≡ true
    entries_within q before stages [] halt are h = refl
    entries_within q before [] (visit ∷ visits) halt are h = absurd are
    entries_within q before (stage ∷ stages) (visit ∷ visits) halt are h =
        let parts = and_parts _ _ h in
        let own : visit.bundle.stage ≡ stage = bundle_stage values stage _ visit.bundle are.0.given in
        all_new q keep visit (new_entries keep visits) (ap (λ s. q (keep_name s)) own ∙ parts.0)
        (entries_within q (before ++ visit.made.files) stages visits halt are.1 parts.1)

    -- and they differ
    pub entries_differ : (before : List MadeFile) (stages : List Stage) (visits : List Visit)
        (halt : Option Halt) → AreVisits (solve_over S keep) values hand before stages visits halt
        → differing (map keep_name stages) ≡ true
        → differing (names_in (new_entries keep visits)) ≡ true
    entries_differ before stages [] halt are h = refl
    entries_differ before [] (visit ∷ visits) halt are h = absurd are
    entries_differ before (stage ∷ stages) (visit ∷ visits) halt are h =
        let parts = and_parts _ _ h in
        let own : visit.bundle.stage ≡ stage = bundle_stage values stage _ visit.bundle are.0.given in
        grind (
          arith,
          differ_new,
          entries_within,
          entries_differ (before ++ visit.made.files)
              stages visits halt are.1 parts.1,
        )

all_own : (stages : List Stage) → list_all is_kept_name (map keep_name stages) ≡ true
all_own [] = refl
all_own (stage ∷ stages) = and_from _ _ (own_keep stage) (all_own stages)

module _ (S : StageParts) (laws : AreStages S) where
  -- ---- what a chain over a keep writes

  -- the names of made files are some of those that the built stages make, and differ; those of new
  -- entries are some under which stages keep, and differ
  pub record AreApart (keep : Folder) (visits : List Visit) : Type 0 where
    pub within : (p : List ℕ → Bool) → list_all p (names_made_by S.places) ≡ true
        → list_all p (map name_of (files_of visits)) ≡ true
    pub differ : differing (map name_of (files_of visits)) ≡ true
    pub kept : list_all is_kept_name (names_in (new_entries keep visits)) ≡ true
    pub entries : differing (names_in (new_entries keep visits)) ≡ true

  pub are_apart : (keep hand : Folder) → AreApart keep (trace_over S keep hand).visits
  are_apart keep hand =
      traced_over S laws keep hand (λ trace. AreApart keep trace.visits)
      (λ reason is. record { within = λ p h. refl; differ = refl; kept = refl; entries = refl })
      (λ values is. record {
        within = by_within S laws (solve_over S keep) (solve_makes S laws keep) values hand;
        differ = by_differ S laws (solve_over S keep) (solve_makes S laws keep) values hand;
        kept = entries_within S laws keep values hand is_kept_name [] (stages_run S laws values) _ _
            (by_visits S laws (solve_over S keep) (solve_makes S laws keep) values hand)
            (all_own (stages_run S laws values));
        entries =
            entries_differ S laws keep values hand [] (stages_run S laws values) _ _
            (by_visits S laws (solve_over S keep) (solve_makes S laws keep) values hand) (run_apart S laws values);
      })

-- ---- the names of the writes of made files

names_map : (made : List MadeFile) → names_in (map put_of made) ≡ map name_of made
names_map [] = refl
names_map (file ∷ made) = ap (λ more. name_of file ∷ more) (names_map made)

pub names_removed : (names : List (List ℕ)) → names_in (map Removal names) ≡ names
names_removed [] = refl
names_removed (name ∷ names) = ap (λ more. name ∷ more) (names_removed names)

differ_some : (p : List ℕ → Bool) (names : List (List ℕ)) → differing names ≡ true
    → differing (filter p names) ≡ true
differ_some p [] h = refl
differ_some p (name ∷ names) h =
    let parts = and_parts _ _ h in grind (arith, all_filter, differ_some p names parts.1)

besides_apart : (made : List MadeFile) (names : List (List ℕ))
    → list_all (λ name. not (is_among name (map name_of made))) (names_besides made names) ≡ true
besides_apart made [] = refl
besides_apart made (name ∷ names) = grind (arith, and_from, besides_apart made names)

pub each_among : (names all : List (List ℕ))
    → list_all (λ name. is_among name (names ++ all)) all ≡ true
each_among names [] = refl
each_among names (name ∷ all) =
    and_from _ _ (here names)
    (ap (λ some. list_all (λ n. is_among n some) all) (joined names) ∙ each_among (names ++ name ∷ []) all)
  where
    here : (names : List (List ℕ)) → is_among name (names ++ name ∷ all) ≡ true
    here [] = ap (λ b. b || is_among name all) ((bytes_eq-Decides name name).1 refl)
    here (other ∷ names) = grind (arith, here names)

    joined : (names : List (List ℕ)) → names ++ name ∷ all ≡ (names ++ name ∷ []) ++ all
    joined [] = refl
    joined (other ∷ names) = ap (λ more. other ∷ more) (joined names)

module _ (S : StageParts) (laws : AreStages S) where
  pub files_differ : (made : List MadeFile) → differing (map name_of made) ≡ true
      → differing (names_in (writes_for S made)) ≡ true
  unfolding writes_for
  files_differ made h =
      let besides = names_besides made (names_made_by S.places) in
      ap differing (map-append write_name (map put_of made) (map Removal besides)
      ∙ ap (λ names. names ++ names_in (map Removal besides)) (names_map made)
      ∙ ap (λ names. map name_of made ++ names) (names_removed besides))
      ∙ parts_differing (map name_of made) besides (record {
        front = h;
        back = grind (arith, differ_some);
        apart =
            differ_swap besides (map name_of made)
            (apart_by (λ name. is_among name (map name_of made)) besides (map name_of made)
            (besides_apart made (names_made_by S.places)) (each_among [] (map name_of made)));
      })

  -- what holds of all that the built stages make holds of them
  pub files_within : (p : List ℕ → Bool) (made : List MadeFile)
      → list_all p (names_made_by S.places) ≡ true → list_all p (map name_of made) ≡ true
      → list_all p (names_in (writes_for S made)) ≡ true
  unfolding writes_for
  files_within p made h k =
      grind (arith, map-append, names_in, names_map, names_removed, all_both, all_filter)

  -- the writes of made files differ from those of new entries
  pub files_apart : (keep : Folder) (visits : List Visit) → AreApart S laws keep visits
      → Differ (names_in (writes_for S (files_of visits))) (names_in (new_entries keep visits))
  files_apart keep visits apart =
      apart_by is_kept_name (names_in (writes_for S (files_of visits))) (names_in (new_entries keep visits))
      (files_within (λ name. not (is_kept_name name)) (files_of visits) laws.list.no_keep
      (apart.within (λ name. not (is_kept_name name)) laws.list.no_keep)) apart.kept

  pub all_differ : (keep : Folder) (visits : List Visit) → AreApart S laws keep visits
      → differing (names_in (writes_for S (files_of visits) ++ new_entries keep visits)) ≡ true
  all_differ keep visits apart =
      ap differing (map-append write_name (writes_for S (files_of visits)) (new_entries keep visits))
      ∙ parts_differing (names_in (writes_for S (files_of visits))) (names_in (new_entries keep visits))
      (record {
        front = files_differ (files_of visits) apart.differ;
        back = apart.entries;
        apart =
            files_apart keep visits apart;
      })
