-- Why a chain ends early names a file that people write.
use Rattle.plan_num.proofs.Common.{◌≡◌, ℕ, ℤ, ltb, leb, Bool, true, false, cond, not, ◌||◌, List}
use Rattle.plan_num.proofs.Common.{[], ◌∷◌, ◌++◌, map, filter, Option, Some, None, IfErr, Result}
use Rattle.plan_num.proofs.Common.{Ok, Err, refl, ap, subst, sym, ◌∙◌, append_assoc, append-nil}
use Rattle.plan_num.proofs.Common.{arith, ⊎_elim, list_all, flat_map, bytes_eq, false≢true}
use Rattle.plan_num.proofs.Common.{and_parts, and_from, ltb-true, leb-true, le-leb, le-ltb}
use Rattle.plan_num.proofs.Common.{bytes_eq-Decides}
use Rattle.plan_files.specs.declared.store.Got.{Got}
use Rattle.plan_files.specs.declared.store.Got.TheVariants.{Bytes, Absent}
use Rattle.plan_files.proofs.Common.{Folder}
use Rattle.plan_files.specs.declared.store.Got.TheVariants.{TooLong as Long}
use Rattle.giv_files.specs.declared.made.MadeFile.{MadeFile}
use Rattle.giv_files.specs.declared.stage.Stage.{Stage}
use Rattle.giv_files.proofs.Common.{ids_of, stage_inputs, stage_makes}
use Rattle.tables.specs.declared.file_id.FileId.{FileId}
use Rattle.tables.proofs.Common.{file_name}
use Rattle.tables.specs.declared.file_id.FileId.TheVariants as file
use Rattle.config_keys.proofs.Common.{last_stage_of, look_in, ConfigNames, config_names}
use Rattle.config_keys.proofs.Common.{effective_settings}
use Rattle.stage_chain.specs.declared.cause.Cause.{Cause}
use Rattle.stage_chain.specs.Hand.{is_among, is_hand, is_hand_file}
use Rattle.stage_chain.specs.Chain.{Visit, Halt, origin_of, hand_text, made_text, input_text}
use Rattle.stage_chain.specs.Chain.{chosen, with_text, texts_by, bundle_told}
use Rattle.stage_chain.specs.Chain.{stage_place}
use Rattle.stage_chain.specs.Built.{cause_of, files_of}
use Rattle.stage_chain.specs.Right.{NamesHand, RefusesHand, files_by, found_file}
use Rattle.stage_chain.specs.Right.{AllStandRight}
use Rattle.stage_chain.specs.Runs.{name_of}
use Rattle.stage_chain.proofs.Differing.{all_both, all_parts, all_filter, same_way}
use Rattle.stage_chain.proofs.HandAlone.{path_is_hand, config_is_hand}
use Rattle.stage_chain.proofs.MadeLists.{made_list}
use Rattle.stage_chain.proofs.MadeRight.{visits_right}
use Rattle.stage_chain.proofs.MadeTexts.{names_of, text_nowhere}
use Rattle.stage_chain.proofs.FoundAmongAllMade.{ArePlaced, made_looks}
use Rattle.stage_chain.proofs.Traces.{traced, chain, stages_run, are_visits, are_placed, run_staged}
use Rattle.stage_chain.proofs.Visits.{IsHalt, AreVisits}
use Rattle.stage_chain.specs.Laws.{AreRightOver}
use Rattle.stage_chain.specs.StageLists.{always_made}
use Rattle.stage_chain.specs.StageParts.{StageParts, staged}
use Rattle.stage_chain.proofs.Looked.{bundle_looked, files_looked, looked}
use Rattle.stage_chain.specs.Laws.{AreStages}
use Rattle.stage_chain.specs.StageLists.{before_stage, is_earlier, needs, rising}

-- ---- an input that is not there

-- why a text is not there names a hand file
abbrev NoText : {T : Type 0} → Result T Cause → Type 0
NoText told = IfErr told (λ why. NamesHand (Some why))

hand_names : (optional : Bool) (file : FileId) → is_hand_file file ≡ true → (got : Got)
    → NoText (hand_text optional file got)
hand_names optional file is (Bytes text) = tt
hand_names true file is Absent = tt
hand_names false file is Absent = is
hand_names optional file is Long = is

there_text : (made : List MadeFile) (file : FileId)
    → is_among (file_name file) (names_of made) ≡ true → NoText (made_text made file)
there_text [] file h = absurd (false≢true h)
there_text (other ∷ made) file h =
    by (bytes_eq (name_of other) (file_name file)) (same_way (file_name file) (name_of other)) (there_text made file) h
  where
    by : (here : Bool) → bytes_eq (file_name file) (name_of other) ≡ here
        → (is_among (file_name file) (names_of made) ≡ true → NoText (made_text made file))
        → (bytes_eq (file_name file) (name_of other) || is_among (file_name file) (names_of made)) ≡ true
        → NoText (cond here (Ok other.text) (made_text made file))
    by true is rest h = tt
    by false is rest h = grind (arith, names_of)

-- people write a file, or it was made
abbrev is_there : List MadeFile → FileId → Bool
is_there made file = not (is_earlier (origin_of file)) || is_among (file_name file) (names_of made)

there_names : (hand : Folder) (made : List MadeFile) (file : FileId) → is_there made file ≡ true
    → NoText (input_text hand made file)
unfolding is_hand is_earlier
there_names hand made file.Stop h =
    hand_names false file.Stop refl (look_in hand (file_name file.Stop))
there_names hand made file.Edge h =
    hand_names false file.Edge refl (look_in hand (file_name file.Edge))
there_names hand made file.LoadGiven h =
    hand_names false file.LoadGiven refl (look_in hand (file_name file.LoadGiven))
there_names hand made file.Od h = hand_names false file.Od refl (look_in hand (file_name file.Od))
there_names hand made file.Pool h =
    hand_names false file.Pool refl (look_in hand (file_name file.Pool))
there_names hand made file.PinnedConcept h =
    hand_names false file.PinnedConcept refl (look_in hand (file_name file.PinnedConcept))
there_names hand made file.PinnedTimes h =
    hand_names false file.PinnedTimes refl (look_in hand (file_name file.PinnedTimes))
there_names hand made file.PinnedSchedule h =
    hand_names false file.PinnedSchedule refl (look_in hand (file_name file.PinnedSchedule))
there_names hand made file.PinnedTree h =
    hand_names true file.PinnedTree refl (look_in hand (file_name file.PinnedTree))
there_names hand made file.PinnedPotential h =
    hand_names true file.PinnedPotential refl (look_in hand (file_name file.PinnedPotential))
there_names hand made file.EventDelays h =
    hand_names true file.EventDelays refl (look_in hand (file_name file.EventDelays))
there_names hand made file.ActivityDelays h =
    hand_names true file.ActivityDelays refl (look_in hand (file_name file.ActivityDelays))
there_names hand made other h = there_text made other h

chosen_there : (values : List ℤ) (made : List MadeFile) (file : FileId) → is_there made file ≡ true
    → is_there made (chosen values file) ≡ true
unfolding is_earlier
chosen_there values made file.Od h = by _
  where
    by : (b : Bool) → is_there made (cond b file.LoadGiven file.Od) ≡ true
    by true = refl
    by false = refl
chosen_there values made other h = h

both_names : (text : Result (List ℕ) Cause) (texts : Result (List (List ℕ)) Cause) → NoText text
    → NoText texts → NoText (with_text text texts)
both_names (Err why) texts h k = h
both_names (Ok text) (Err why) h k = k
both_names (Ok text) (Ok texts) h k = tt

texts_names : (values : List ℤ) (hand : Folder) (made : List MadeFile) (inputs : List FileId)
    → list_all (is_there made) inputs ≡ true
    → NoText (texts_by (input_text hand made) values inputs)
texts_names values hand made [] h = tt
texts_names values hand made (file ∷ inputs) h =
    let parts = and_parts _ _ h in
    both_names (input_text hand made (chosen values file)) (texts_by (input_text hand made) values inputs)
    (there_names hand made (chosen values file) (chosen_there values made file parts.0))
    (texts_names values hand made inputs parts.1)

told_names : (values : List ℤ) (stage : Stage) (texts : Result (List (List ℕ)) Cause) (why : Cause)
    → NoText texts → bundle_told values stage texts ≡ Err why → NamesHand (Some why)
told_names values stage (Ok texts) why h e = absurd (cc)
told_names values stage (Err reason) why h e =
    let same : reason ≡ why = cc in subst (λ why. NamesHand (Some why)) same h

-- ---- the stages that were made before a chain ended

abbrev done_of : List Stage → List Visit → List Stage
done_of (stage ∷ stages) (visit ∷ visits) = stage ∷ done_of stages visits
done_of _ _ = []

module _ (S : StageParts) (laws : AreStages S) where
  record IsEnded (values : List ℤ) (hand : Folder) (before : List MadeFile) (stages : List Stage)
      (visits : List Visit) (halt : Halt) : Type 0 where
    stage : Stage
    rest : List Stage
    split : stages ≡ done_of stages visits ++ stage ∷ rest
    halts : IsHalt S.run values hand (before ++ files_of visits) stage halt

  ended_by : (values : List ℤ) (hand : Folder) (before : List MadeFile) (stages : List Stage)
      (visits : List Visit) (halt : Halt)
      → AreVisits S.run values hand before stages visits (Some halt)
      → IsEnded values hand before stages visits halt
  ended_by values hand before [] [] halt are = absurd are
  ended_by values hand before [] (visit ∷ visits) halt are = absurd are
  ended_by values hand before (stage ∷ stages) [] halt are = grind (arith, IsHalt, append-nil)
  ended_by values hand before (stage ∷ stages) (visit ∷ visits) halt are =
      grind (
        arith,
        before,
        IsHalt,
        append_assoc,
        ended_by values hand (before ++ visit.made.files) stages visits halt are.1,
      )

none_before : (stage : Stage) (stages : List Stage)
    → list_all (λ other. ltb (stage_place stage) (stage_place other)) stages ≡ true
    → filter (λ other. ltb (stage_place other) (stage_place stage)) stages ≡ []
none_before stage [] h = refl
none_before stage (other ∷ stages) h =
    let parts = and_parts _ _ h in
    let not : ltb (stage_place other) (stage_place stage) ≡ false =
    le-ltb _ _ (let below = ltb-true (stage_place stage) (stage_place other) parts.0 in omega (arith, below)) in
    rw not (none_before stage stages parts.1)

all_pass : (p : Stage → Bool) (stages : List Stage) → list_all p (filter p stages) ≡ true
all_pass p [] = refl
all_pass p (stage ∷ stages) = by (p stage) refl (all_pass p stages)
  where
    by : (b : Bool) → p stage ≡ b → list_all p (filter p stages) ≡ true
        → list_all p (cond b (stage ∷ filter p stages) (filter p stages)) ≡ true
    by true is rest = rw is rest
    by false is rest = rest

of_middle : (p : Stage → Bool) (done : List Stage) (stage : Stage) (rest : List Stage)
    → list_all p (done ++ stage ∷ rest) ≡ true → p stage ≡ true
of_middle p done stage rest h =
    (and_parts (p stage) (list_all p rest) (all_parts p done (stage ∷ rest) h).1).0

module _ (values : List ℤ) where
  abbrev in_time : Stage → Bool
  in_time stage = leb (stage_place stage) (stage_place (last_stage_of values))

  -- a stage before one that runs does run
  not_late : (first : Stage) (stages done : List Stage) (stage : Stage) (rest : List Stage)
      → list_all (λ other. ltb (stage_place first) (stage_place other)) stages ≡ true
      → filter in_time stages ≡ done ++ stage ∷ rest
      → (ltb (stage_place first) (stage_place stage) ≡ true) × (in_time first ≡ true)
  not_late first stages done stage rest above e =
      let below : list_all (λ other. ltb (stage_place first) (stage_place other)) (done ++ stage ∷ rest) ≡ true =
      ap (list_all (λ other. ltb (stage_place first) (stage_place other))) (sym e)
      ∙ all_filter (λ other. ltb (stage_place first) (stage_place other)) in_time stages above in
      let runs : list_all in_time (done ++ stage ∷ rest) ≡ true =
      ap (list_all in_time) (sym e) ∙ all_pass in_time stages in
      let lower = of_middle (λ other. ltb (stage_place first) (stage_place other)) done stage rest below in
      let less = ltb-true (stage_place first) (stage_place stage) lower in
      let last =
      leb-true (stage_place stage) (stage_place (last_stage_of values)) (of_middle in_time done stage rest runs) in
      (lower, le-leb (stage_place first) (stage_place (last_stage_of values)) (omega (arith, less, last)))

  ran_before : (stages done : List Stage) (stage : Stage) (rest : List Stage) → rising stages ≡ true
      → filter in_time stages ≡ done ++ stage ∷ rest
      → filter (λ other. ltb (stage_place other) (stage_place stage)) stages ≡ done
  unfolding rising
  ran_before [] [] stage rest h e = absurd (cc)
  ran_before [] (other ∷ done) stage rest h e = absurd (cc)
  ran_before (first ∷ stages) done stage rest h e =
      let parts = and_parts _ _ h in
      by (in_time first) refl parts.0 done e (λ done e. ran_before stages done stage rest parts.1 e)
    where
      kept : List Stage
      kept = filter in_time stages

      before : List Stage
      before = filter (λ other. ltb (stage_place other) (stage_place stage)) stages

      by : (b : Bool) → in_time first ≡ b
          → list_all (λ other. ltb (stage_place first) (stage_place other)) stages ≡ true
          → (done : List Stage) → cond b (first ∷ kept) kept ≡ done ++ stage ∷ rest
          → ((done : List Stage) → kept ≡ done ++ stage ∷ rest → before ≡ done)
          → cond (ltb (stage_place first) (stage_place stage)) (first ∷ before) before ≡ done
      by false is above done e more = grind (arith, false≢true, not_late)
      by true is above [] e more = grind (arith, le-ltb, before, none_before)
      by true is above (other ∷ done) e more = grind (arith, before, not_late)

module _ (S : StageParts) (laws : AreStages S) where
  -- ---- what the stages before one made

  module _ (values : List ℤ) (hand : Folder) (all : List MadeFile) where
    abbrev Placed : List Stage → List Visit → Type 0
    Placed stages visits = ArePlaced S.run laws.makes values hand all stages visits

    -- it is right over one look of texts
    done_right : (stages : List Stage) (visits : List Visit) → Placed stages visits
        → AllStandRight S (input_text hand all) values visits
        → AreRightOver S values (looked (input_text hand all)) (done_of stages visits)
    done_right [] [] placed right = tt
    done_right [] (visit ∷ visits) placed right = tt
    done_right (stage ∷ stages) [] placed right = tt
    done_right (stage ∷ stages) (visit ∷ visits) placed right =
        grind (
          arith,
          looked,
          bundle_looked,
          files_looked,
          done_right stages visits placed.1 right.1,
        )

    -- and those files that each stage makes are there
    abbrev is_made : FileId → Bool
    is_made file = is_among (file_name file) (names_of all)

    text_made : (file : FileId) (text : List ℕ) → made_text all file ≡ Ok text → is_made file ≡ true
    text_made file text e = grind (arith, text_nowhere)

    found_made : (some : List FileId)
        → list_all is_made (ids_of (files_by (made_text all) some)) ≡ true
    found_made [] = refl
    found_made (file ∷ some) = by (made_text all file) refl (found_made some)
      where
        by : (found : Result (List ℕ) Cause) → made_text all file ≡ found
            → list_all is_made (ids_of (files_by (made_text all) some)) ≡ true
            → list_all is_made (ids_of (found_file file found (files_by (made_text all) some))) ≡ true
        by (Ok text) is rest = and_from (is_made file) _ (text_made file text is) rest
        by (Err why) is rest = rest

    done_there : (stages : List Stage) (visits : List Visit) → Placed stages visits
        → list_all is_made (flat_map always_made (done_of stages visits)) ≡ true
    done_there [] [] placed = refl
    done_there [] (visit ∷ visits) placed = refl
    done_there (stage ∷ stages) [] placed = refl
    done_there (stage ∷ stages) (visit ∷ visits) placed =
        let own = placed.0 in
        let ids : list_all is_made (ids_of visit.made.files) ≡ true = ap (λ some. list_all is_made (ids_of some))
        (sym own.found ∙ made_looks hand all stage) ∙ found_made (stage_makes stage) in
        all_both is_made (always_made stage) (flat_map always_made (done_of stages visits))
        ((made_list stage (ids_of visit.made.files) own.made_as).always is_made ids) (done_there stages visits placed.1)

-- ---- what one stage takes of those before it

among_through : (some : List FileId) (names : List (List ℕ)) (name : List ℕ)
    → is_among name (map file_name some) ≡ true
    → list_all (λ file. is_among (file_name file) names) some ≡ true → is_among name names ≡ true
among_through [] names name h k = absurd (false≢true h)
among_through (file ∷ some) names name h k =
    let parts = and_parts _ _ k in
    by (bytes_eq name (file_name file)) refl h parts.0 (λ h. among_through some names name h parts.1)
  where
    by : (b : Bool) → bytes_eq name (file_name file) ≡ b
        → (b || is_among name (map file_name some)) ≡ true → is_among (file_name file) names ≡ true
        → (is_among name (map file_name some) ≡ true → is_among name names ≡ true)
        → is_among name names ≡ true
    by true is h here rest = grind (arith, bytes_eq-Decides)
    by false is h here rest = rest h

all_there : (made : List MadeFile) (some inputs : List FileId)
    → list_all (λ file. not (is_earlier (origin_of file)) || is_among (file_name file) (map file_name some)) inputs
    ≡ true
    → list_all (λ file. is_among (file_name file) (names_of made)) some ≡ true
    → list_all (is_there made) inputs ≡ true
all_there made some [] h k = refl
all_there made some (file ∷ inputs) h k =
    let parts = and_parts _ _ h in grind (
      arith,
      and_from,
      among_through,
      names_of,
      all_there made
          some inputs parts.1 k,
    )

module _ (S : StageParts) (laws : AreStages S) where
  -- ---- why a chain ends early

  halt_names : (values : List ℤ) (hand : Folder) (all : List MadeFile) (stage : Stage) (halt : Halt)
      → needs (staged S values) stage ≡ true
      → list_all (λ file. is_among (file_name file) (names_of all))
      (flat_map always_made (before_stage (staged S values) stage)) ≡ true
      → AreRightOver S values (looked (input_text hand all)) (before_stage (staged S values) stage)
      → IsHalt S.run values hand all stage halt → NamesHand (Some halt.cause)
  halt_names values hand all stage halt need there right halts =
      let look = input_text hand all in
      ⊎_elim (λ none. told_names values stage (texts_by look values (stage_inputs stage)) halt.cause
      (texts_names values hand all (stage_inputs stage)
      (all_there all (flat_map always_made (before_stage (staged S values) stage)) (stage_inputs stage) need there))
      none)
      (λ refused.
      let same = bundle_looked look values stage refused.bundle refused.given in grind (
        arith,
        looked,
      ))
      halts

  chain_names : (values : List ℤ) (hand : Folder) (visits : List Visit) (halt : Option Halt)
      → AllStandRight S (input_text hand (files_of visits)) values visits
      → AreVisits S.run values hand [] (stages_run S laws values) visits halt
      → ArePlaced S.run laws.makes values hand (files_of visits) (stages_run S laws values) visits
      → NamesHand (cause_of halt)
  chain_names values hand visits None right are placed = tt
  chain_names values hand visits (Some halt) right are placed =
      let all = files_of visits in
      let stages = stages_run S laws values in
      let ended = ended_by S laws values hand [] stages visits halt are in
      let before : before_stage (staged S values) ended.stage ≡ done_of stages visits = ran_before values
      (staged S values) (done_of stages visits) ended.stage ended.rest (laws.lists values).rise ended.split in
      let need = of_middle (needs (staged S values)) (done_of stages visits) ended.stage ended.rest
      (ap (list_all (needs (staged S values))) (sym ended.split)
      ∙ all_filter (needs (staged S values)) (in_time values) (staged S values) (laws.lists values).given) in
      halt_names values hand all ended.stage halt need
      (ap (λ some. list_all (λ file. is_among (file_name file) (names_of all)) (flat_map always_made some)) before
      ∙ done_there S laws values hand all stages visits placed)
      (subst (AreRightOver S values (looked (input_text hand all))) (sym before)
      (done_right S laws values hand all stages visits placed right)) ended.halts

  pub refuses_hand : (hand : Folder) → RefusesHand S hand
  unfolding RefusesHand
  refuses_hand hand = traced S laws hand (λ trace. NamesHand (cause_of trace.halt))
      (λ reason is. subst (λ settings. IfErr settings (ConfigNames is_hand)) is
      (config_names is_hand path_is_hand (look_in hand) config_is_hand))
      (λ values is.
      let visits = (chain S laws values hand).visits in
      chain_names values hand visits (chain S laws values hand).halt
      (visits_right S laws values hand (effective_settings (look_in hand) values is) (files_of visits)
      (stages_run S laws values) visits (run_staged S laws values) (are_placed S laws values hand))
      (are_visits S laws values hand) (are_placed S laws values hand))
