-- What the states of stages tell of the next run.
use Rattle.plan_num.proofs.Common.{◌≡◌, ◌<◌, ◌⊎◌, ⊎_elim, ℕ, ℤ, zero, suc, Bool, true, false}
use Rattle.plan_num.proofs.Common.{cond, not, ltb, All, Contains, List, [], ◌∷◌, ◌++◌, map, Option}
use Rattle.plan_num.proofs.Common.{Some, None, Result, Ok, Err, refl, ap, sym, subst, ◌∙◌, arith}
use Rattle.plan_num.proofs.Common.{list_all, list_any, bytes_eq, and_parts, ltb-true, or_parts}
use Rattle.plan_num.proofs.Common.{All-cons, All-contains, Contains-append_cases, list_all-map}
use Rattle.plan_num.proofs.Common.{list_any-append}
use Rattle.plan_files.proofs.Common.{Folder}
use Rattle.tables.specs.declared.file_id.FileId.{FileId}
use Rattle.tables.specs.declared.refusal.Refusal.{Refusal}
use Rattle.tables.proofs.Common.{file_name}
use Rattle.giv_files.specs.declared.made.Made.{Made}
use Rattle.giv_files.specs.declared.made.MadeFile.{MadeFile}
use Rattle.giv_files.specs.declared.stage.Stage.{Stage}
use Rattle.giv_files.proofs.Common.{MakesAs, ids_of, BundleParts, stage_inputs, stage_makes}
use Rattle.stage_chain.specs.declared.cause.Cause.{Cause}
use Rattle.stage_chain.specs.declared.cause.Cause.TheVariants as cause
use Rattle.stage_chain.specs.declared.holding.Holding.{Holding}
use Rattle.stage_chain.specs.declared.holding.Holding.TheVariants as holding
use Rattle.stage_chain.specs.declared.origin.Origin.{Origin}
use Rattle.stage_chain.specs.declared.origin.Origin.TheVariants as origin
use Rattle.stage_chain.specs.Chain.{Trace, Visit, bundle_told, chain_from, chosen, go_on, handed, input_text}
use Rattle.stage_chain.specs.Chain.{is_file, is_to_run, made_text, solved, stage_place, text_from, texts_by}
use Rattle.stage_chain.specs.Chain.{texts_of, to_run, tried, visit_of}
use Rattle.stage_chain.specs.Kept.{kept_in, solve_over}
use Rattle.stage_chain.specs.NextRuns.{AllTell, Tells}
use Rattle.stage_chain.specs.StageLists.{rising}
use Rattle.stage_chain.specs.StageParts.{StageParts}
use Rattle.stage_chain.specs.States.{KnownFiles, held, holding_at, holding_in, is_one_of, known_with}
use Rattle.stage_chain.specs.Laws.{AreStages}
use Rattle.stage_chain.proofs.Differing.{all_filter, not_among}
use Rattle.stage_chain.proofs.Keeping.{solve_makes}
use Rattle.stage_chain.proofs.MadeTexts.{names_of, or_missing, or_text, text_both, text_nowhere}
use Rattle.stage_chain.proofs.FoundAmongAllMade.{own_within}
use Rattle.stage_chain.proofs.Visits.{bundle_stage}

none_all : {X : Type 0} (p : X → Bool) (xs : List X) → list_any p xs ≡ false
    → list_all (λ x. not (p x)) xs ≡ true
none_all p [] none = refl
none_all p (x ∷ xs) none =
    let parts = or_parts _ _ none in grind (arith, none_all p xs parts.1)

-- a stage makes no file but its own
none_else : (at : Stage) (made : List MadeFile) (file : FileId) → MakesAs at (ids_of made)
    → is_one_of (stage_makes at) file ≡ false → made_text made file ≡ Err (cause.Missing file)
none_else at made file makes none =
    let apart = list_all-map (λ name. not (bytes_eq (file_name file) name)) file_name (stage_makes at)
    ∙ none_all (is_file file) (stage_makes at) none in
    text_nowhere made file
    (not_among (names_of made) (file_name file)
    (own_within at made makes (λ name. not (bytes_eq (file_name file) name)) apart))

-- ---- what is known of the stages before one, and what the next run made there

module _ (folder : Folder) where
  -- of each file that is not lost both have the same text
  pub record IsAlike (known : KnownFiles) (before : List MadeFile) : Type 0 where
    pub same : (file : FileId) → is_one_of known.lost file ≡ false
        → made_text known.kept file ≡ made_text before file

  from_same : (from : Origin) (kept before : List MadeFile) (file : FileId)
      → made_text kept file ≡ made_text before file
      → text_from from folder kept file ≡ text_from from folder before file
  from_same origin.Needed kept before file same = refl
  from_same origin.Optional kept before file same = refl
  from_same origin.Earlier kept before file same = same

  texts_alike : (values : List ℤ) (known : KnownFiles) (before : List MadeFile) → IsAlike known before
      → (inputs : List FileId) → list_any (λ file. is_one_of known.lost (chosen values file)) inputs ≡ false
      → texts_by (input_text folder known.kept) values inputs ≡ texts_of values folder before inputs
  texts_alike values known before alike [] none = refl
  texts_alike values known before alike (file ∷ inputs) none =
      let parts = or_parts _ _ none in grind (
        arith,
        from_same,
        texts_alike values known before
            alike inputs parts.1,
      )

  held_alike : (known : KnownFiles) (before made : List MadeFile) → IsAlike known before
      → IsAlike (record { kept = known.kept ++ made; lost = known.lost }) (before ++ made)
  held_alike known before made alike = grind (arith, text_both)

  lost_alike : (known : KnownFiles) (before made : List MadeFile) (place at : Stage)
      → stage_makes at ≡ stage_makes place
      → MakesAs at (ids_of made) → IsAlike known before
      → IsAlike (record { kept = known.kept; lost = known.lost ++ stage_makes place }) (before ++ made)
  lost_alike known before made place at own makes alike = record {
    same = λ file out.
        let parts = or_parts _ _ (sym (list_any-append (is_file file) known.lost (stage_makes place)) ∙ out) in
        let none = none_else at made file makes (ap (λ files. is_one_of files file) own ∙ parts.1) in
        alike.same file parts.0
        ∙ sym (text_both before made file ∙ ap (or_text (made_text before file)) none ∙ or_missing before file);
  }

-- ---- bundles one after the other

only_one : {X : Type 0} (x y : X) → Contains (x ∷ []) y → x ≡ y
only_one x y (zero, inside, is) = is
only_one x y (suc k, inside, is) = absurd (omega (arith, inside))

module _ (solve : BundleParts → Result Made Refusal) (values : List ℤ) (folder : Folder) (place : ℕ) where
  abbrev IsLater : BundleParts → Type 0
  IsLater bundle = place < stage_place bundle.stage

  -- what is handed to later stages is theirs
  all_later : (before : List MadeFile) (stages : List Stage)
      → list_all (λ other. ltb place (stage_place other)) stages ≡ true
      → All IsLater (handed (chain_from solve values folder before stages))
  unfolding visit_of
  all_later before [] rise = λ k d inside. absurd (omega (arith, inside))
  all_later before (at ∷ stages) rise =
      let parts = and_parts _ _ rise in
      by (bundle_told values at (texts_of values folder before (stage_inputs at))) refl parts.0
      (λ made. all_later (before ++ made) stages parts.1)
    where
      rest : Visit → Trace
      rest visit = chain_from solve values folder (before ++ visit.made.files) stages

      by : (told : Result BundleParts Cause)
          → bundle_told values at (texts_of values folder before (stage_inputs at)) ≡ told
          → ltb place (stage_place at) ≡ true
          → ((made : List MadeFile) → All IsLater (handed (chain_from solve values folder (before ++ made) stages)))
          → All IsLater (handed (go_on (tried solve values folder told) rest))
      by (Err why) is here more = λ k d inside. absurd (omega (arith, inside))
      by (Ok bundle) is here more = grind (arith, bundle_stage, ltb-true, All-cons)

module _ (S : StageParts) (laws : AreStages S) (folder : Folder) (values : List ℤ) where
  abbrev placed : List Stage → List Stage
  placed places = map (S.placed values) places

  abbrev solve : BundleParts → Result Made Refusal
  solve = solve_over S folder

  abbrev chain_on : List MadeFile → List Stage → Trace
  chain_on before places = chain_from solve values folder before (to_run values (placed places))

  abbrev AreLater : Stage → List Stage → Type 0
  AreLater at places = list_all (λ other. ltb (stage_place at) (stage_place other)) (placed places) ≡ true

  no_bundle : (known : KnownFiles) (places : List Stage) → AllTell S folder values [] known places
  no_bundle known [] = tt
  no_bundle known (place ∷ places) = grind (
    arith,
    no_bundle (known_with known place (holding_in S
        folder values known place)) places,
  )

  -- a bundle more, of a stage before them
  one_more : (bundle : BundleParts) (more : List BundleParts) (known : KnownFiles) (places : List Stage)
      → AreLater bundle.stage places → AllTell S folder values more known places
      → AllTell S folder values (bundle ∷ more) known places
  one_more bundle more known [] later tell = tt
  one_more bundle more known (place ∷ places) later tell =
      let parts = and_parts _ _ later in
      let before = ltb-true (stage_place bundle.stage) (stage_place (S.placed values place)) parts.0 in (
        (λ other given own.
            ⊎_elim
            (λ first.
            let same : stage_place bundle.stage ≡ stage_place (S.placed values place) =
            ap (λ (b : BundleParts). stage_place b.stage) (only_one bundle other first) ∙ ap stage_place own in
            absurd (omega (arith, before, same)))
            (λ behind. tell.0 other behind own)
            (Contains-append_cases (bundle ∷ []) more other given)),
        one_more bundle more (known_with known place (holding_in S folder values known place)) places parts.1 tell.1,
      )

  -- what is held of a stage that is given a bundle
  module _ (known : KnownFiles) (before : List MadeFile) (place : Stage) (alike : IsAlike folder known before) where
    abbrev at : Stage
    at = S.placed values place

    abbrev here : Holding
    here = holding_in S folder values known place

    off_here : is_to_run values at ≡ false → here ≡ holding.Off
    unfolding holding_at
    off_here is = rw is refl

    held_here : (bundle : BundleParts) → is_to_run values at ≡ true
        → bundle_told values at (texts_of values folder before (stage_inputs at)) ≡ Ok bundle
        → (here ≡ holding.Unknown) ⊎ (here ≡ held (kept_in folder bundle))
    unfolding holding_at
    held_here bundle runs given = grind (arith, texts_alike)

    -- it tells of that bundle, and of what the next run makes of it
    record IsTold (bundle : BundleParts) (made : List MadeFile) : Type 0 where
      tells : Tells folder here bundle
      after : IsAlike folder (known_with known place here) (before ++ made)

    kept_solves : (bundle : BundleParts) (made : Made) → kept_in folder bundle ≡ Some made
        → solve bundle ≡ Ok made
    unfolding solve_over
    kept_solves bundle made is = rw is refl

    told_here : (bundle : BundleParts) (made : Made) → bundle.stage ≡ at → solve bundle ≡ Ok made
        → (here ≡ holding.Unknown) ⊎ (here ≡ held (kept_in folder bundle)) → IsTold bundle made.files
    told_here bundle made own is = ⊎_elim unknown (by (kept_in folder bundle) refl)
      where
        lost : IsAlike folder (record { kept = known.kept; lost = known.lost ++ stage_makes place })
            (before ++ made.files)
        lost = lost_alike folder known before made.files place at (laws.placed values place).makes
            (subst (λ own. MakesAs own (ids_of made.files)) own (solve_makes S laws folder bundle made is)) alike

        unknown : here ≡ holding.Unknown → IsTold bundle made.files
        unknown h = record { tells = rw h tt; after = rw h lost }

        by : (kept : Option Made) → kept_in folder bundle ≡ kept → here ≡ held kept → IsTold bundle made.files
        by None none h = record { tells = rw h none; after = rw h lost }
        by (Some some) some_is h = grind (arith, kept_solves, held_alike)

    -- where the stage refuses it
    refused_here : (bundle : BundleParts) (reason : Refusal) → solve bundle ≡ Err reason
        → (here ≡ holding.Unknown) ⊎ (here ≡ held (kept_in folder bundle)) → Tells folder here bundle
    refused_here bundle reason is = grind (arith, ⊎_elim, kept_solves)

  pub all_tell : (places : List Stage) (known : KnownFiles) (before : List MadeFile)
      → rising (placed places) ≡ true → IsAlike folder known before
      → AllTell S folder values (handed (chain_on before places)) known places
  unfolding rising visit_of
  all_tell [] known before rise alike = tt
  all_tell (place ∷ places) known before rise alike =
      let parts = and_parts _ _ rise in
      by (is_to_run values (S.placed values place)) refl parts.0
      (λ known before alike. all_tell places known before parts.1 alike)
    where
      at : Stage
      at = S.placed values place

      Rest : Type 0
      Rest = (known : KnownFiles) (before : List MadeFile) → IsAlike folder known before
          → AllTell S folder values (handed (chain_on before places)) known places

      later_run : AreLater at places
          → list_all (λ other. ltb (stage_place at) (stage_place other)) (to_run values (placed places)) ≡ true
      later_run later = grind (arith, all_filter)

      -- no bundle of the stages behind is its own
      not_own : AreLater at places → (before : List MadeFile) (bundle : BundleParts)
          → Contains (handed (chain_on before places)) bundle → bundle.stage ≡ at → ⊥
      not_own later before bundle given own =
          let behind = All-contains (IsLater solve values folder (stage_place at)) _ bundle
          (all_later solve values folder (stage_place at) before (to_run values (placed places)) (later_run later))
          given in
          absurd (omega (arith, behind, ap stage_place own))

      run : (told : Result BundleParts Cause)
          → bundle_told values at (texts_of values folder before (stage_inputs at)) ≡ told
          → is_to_run values at ≡ true → AreLater at places → Rest
          → AllTell S folder values
          (handed (go_on (tried solve values folder told) (λ visit. chain_on (before ++ visit.made.files) places)))
          known (place ∷ places)
      run (Err why) is runs later rest = no_bundle known (place ∷ places)
      run (Ok bundle) is runs later rest = tries (solve bundle) refl
        where
          own : bundle.stage ≡ at
          own = bundle_stage values at _ bundle is

          own_later : AreLater bundle.stage places
          own_later = subst (λ own. AreLater own places) (sym own) later

          is_held : (holding_in S folder values known place ≡ holding.Unknown)
              ⊎ (holding_in S folder values known place ≡ held (kept_in folder bundle))
          is_held = held_here known before place alike bundle runs is

          tries : (result : Result Made Refusal) → solve bundle ≡ result
              → AllTell S folder values
              (handed
              (go_on (solved solve values folder bundle result)
              (λ visit. chain_on (before ++ visit.made.files) places))) known (place ∷ places)
          tries (Ok made) solves =
              let told = told_here known before place alike bundle made own solves is_held in (
                (λ other given other_own. ⊎_elim
                    (λ first. subst (Tells folder (holding_in S folder values known place))
                    (only_one bundle other first) told.tells)
                    (λ behind. absurd (not_own later (before ++ made.files) other behind other_own))
                    (Contains-append_cases (bundle ∷ []) (handed (chain_on (before ++ made.files) places)) other
                    given)),
                one_more bundle _ _ places own_later (rest _ (before ++ made.files) told.after),
              )
          tries (Err reason) solves =
              grind (arith, only_one, refused_here, is_held, one_more, own_later, no_bundle)

      by : (runs : Bool) → is_to_run values at ≡ runs → AreLater at places → Rest
          → AllTell S folder values
          (handed
          (chain_from solve values folder before
          (cond runs (at ∷ to_run values (placed places)) (to_run values (placed places))))) known (place ∷ places)
      by true runs later rest =
          run (bundle_told values at (texts_of values folder before (stage_inputs at))) refl runs later rest
      by false runs later rest =
          let off = off_here known before place alike runs in (
            (λ bundle given own. absurd (not_own later before bundle given own)),
            rw off (rest known before alike),
          )
