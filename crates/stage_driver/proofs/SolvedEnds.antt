-- How the chain of the planning stages ends.
use Rattle.plan_num.proofs.Common.{arith, ◌≡◌, ℕ, Contains, Option, Some, None, Result, Err, refl}
use Rattle.plan_num.proofs.Common.{ap, sym, ◌∙◌, All-contains}
use Rattle.plan_files.proofs.Common.{Folder}
use Rattle.giv_files.specs.declared.made.Made.{Made}
use Rattle.tables.specs.declared.refusal.Refusal.{Refusal}
use Rattle.tables.specs.declared.refusal.Refusal.TheVariants as refusal
use Rattle.giv_files.specs.declared.stage.Stage.{Stage}
use Rattle.giv_files.proofs.Common.{BundleParts}
use Rattle.stage_chain.specs.declared.cause.Cause.{Cause}
use Rattle.stage_chain.specs.declared.cause.Cause.TheVariants as cause
use Rattle.command_line.specs.declared.ends.RunEnd.TheVariants as end
use Rattle.stage_chain.specs.Built.{cause_of, made as made_by, trace_of}
use Rattle.stage_chain.specs.Hand.{hand_of}
use Rattle.stage_chain.specs.Kept.{kept_in, kept_or, made_over, solve_over, trace_over}
use Rattle.stage_chain.specs.Reports.{end_of}
use Rattle.stage_chain.proofs.Endings.{EndsAtRefusals, IsHanded, ends_at_refusals, ends_over_kept}
use Rattle.planning_stages.specs.Planning.{planning, stage_model}
use Rattle.planning_stages.specs.Searches.{HasNoSolution, IsSpent}
use Rattle.planning_stages.proofs.Laws.{planning_laws}
use Rattle.planning_stages.proofs.SearchEnds.{can_end, ends_none, ends_spent, none_ends, spent_ends_so}
use Rattle.stage_driver.specs.PlanningChain.{made, run_over}
use Rattle.stage_driver.specs.SolvedEnds.{CanBeDone, CanBeDoneOver, EndsAsSolved}
use Rattle.stage_driver.specs.SolvedEnds.{EndsAsSolvedOver, SomeHanded, SomeMade, handed_in}
use Rattle.stage_driver.specs.SolvedEnds.{handed_over}

-- ---- by why a chain ends early

at_none : (why : Option Cause) → end_of why ≡ end.NoSolution
    → (at : Stage) × (why ≡ Some (cause.Refused at refusal.NoSolution))
at_none (Some (cause.Refused at refusal.NoSolution)) is = (at, refl)
at_none _ is = absurd (cc)

at_spent : (why : Option Cause) → end_of why ≡ end.Spent
    → (at : Stage) × (entries : ℕ) × (why ≡ Some (cause.Refused at (refusal.Spent entries)))
at_spent (Some (cause.Refused at (refusal.Spent entries))) is = (at, entries, refl)
at_spent _ is = absurd (cc)

-- what is handed runs as the model of its stage says
ran : (bundle : BundleParts) → planning.run bundle ≡ (stage_model bundle.stage).run bundle
unfolding planning
ran bundle = refl

module _ (hand : Folder) where
  abbrev why : Option Cause
  why = cause_of (trace_of planning hand).halt

  end_is : (made hand).end ≡ end_of why
  unfolding made_by
  end_is = refl

  ends : EndsAtRefusals planning.run (trace_of planning hand)
  ends = ends_at_refusals planning planning_laws hand

  -- what is handed to a stage
  module _ (bundle : BundleParts) (given : Contains (handed_in hand) bundle) where
    handed_so : IsHanded planning.run (trace_of planning hand).halt bundle
    handed_so =
        All-contains (IsHanded planning.run (trace_of planning hand).halt) (handed_in hand) bundle ends.all given

    -- where its stage refuses it, the chain ends so
    refused_end : (reason : Refusal) → (stage_model bundle.stage).run bundle ≡ Err reason
        → (made hand).end ≡ end_of (Some (cause.Refused bundle.stage reason))
    refused_end reason is = end_is ∙ ap end_of (handed_so.refused reason (ran bundle ∙ is))

  some_none : (at : Stage) → why ≡ Some (cause.Refused at refusal.NoSolution) → SomeHanded HasNoSolution hand
  some_none at is =
      let one = ends.one at refusal.NoSolution is in
      let bundle = one.bundle in (
        bundle,
        one.given,
        ends_none bundle (handed_so bundle one.given).fits bundle.stage refl
            (sym (ran bundle) ∙ one.refused),
      )

  some_spent : (at : Stage) (entries : ℕ) → why ≡ Some (cause.Refused at (refusal.Spent entries))
      → SomeHanded IsSpent hand
  some_spent at entries is =
      let one = ends.one at (refusal.Spent entries) is in
      let bundle = one.bundle in (
        bundle,
        one.given,
        ends_spent bundle (handed_so bundle one.given).fits bundle.stage refl entries
            (sym (ran bundle) ∙ one.refused),
      )

  -- a chain that can be done has no other end
  done_by : CanBeDone hand → (halted : Option Cause) → why ≡ halted → (made hand).end ≡ end.Done
  done_by can None is = end_is ∙ ap end_of is
  done_by can (Some (cause.Refused at refusal.NoSolution)) is =
      let some = some_none at is in grind (arith, can_end, handed_so)
  done_by can (Some (cause.Refused at (refusal.Spent entries))) is =
      let some = some_spent at entries is in
      absurd ((can_end some.0 (handed_so some.0 some.1).fits some.0.stage refl (can.found some.0 some.1)).1 some.2)
  done_by can (Some (cause.Refused at (refusal.BadRow file row reason))) is = absurd (can.fine (end_is ∙ ap end_of is))
  done_by can (Some (cause.Refused at (refusal.TooMany what count))) is = absurd (can.fine (end_is ∙ ap end_of is))
  done_by can (Some (cause.BadConfig reason)) is = absurd (can.fine (end_is ∙ ap end_of is))
  done_by can (Some (cause.Missing file)) is = absurd (can.fine (end_is ∙ ap end_of is))
  done_by can (Some (cause.TooLong file)) is = absurd (can.fine (end_is ∙ ap end_of is))

pub ends_as_solved : (hand : Folder) → EndsAsSolved hand
ends_as_solved hand = record {
  none = λ is. let halt = at_none (why hand) (sym (end_is hand) ∙ is) in some_none hand halt.0 halt.1;
  none_comes =
      λ some. refused_end hand some.0 some.1 refusal.NoSolution
      (none_ends some.0 (handed_so hand some.0 some.1).fits some.0.stage refl some.2);
  spent = λ is. let halt = at_spent (why hand) (sym (end_is hand) ∙ is) in some_spent hand halt.0 halt.1 halt.2;
  spent_comes = λ some.
      let spent = spent_ends_so some.0 (handed_so hand some.0 some.1).fits some.0.stage refl some.2 in
      refused_end hand some.0 some.1 (refusal.Spent spent.0) spent.1;
  done = λ can. done_by hand can (why hand) refl;
}

-- ---- over what a folder keeps

-- a stage refuses what it is handed where nothing that is kept is taken, and it refuses that itself
refused_itself : (kept : Option Made) (run : Result Made Refusal) (reason : Refusal)
    → kept_or kept run ≡ Err reason → (kept ≡ None) × (run ≡ Err reason)
refused_itself (Some made) run reason is = absurd (cc)
refused_itself None run reason is = (refl, is)

module _ (folder : Folder) where
  abbrev why_over : Option Cause
  why_over = cause_of (trace_over planning folder (hand_of folder)).halt

  end_over : (run_over folder).end ≡ end_of why_over
  unfolding made_over
  end_over = refl

  ends_over : EndsAtRefusals (solve_over planning folder) (trace_over planning folder (hand_of folder))
  ends_over = ends_over_kept planning planning_laws folder (hand_of folder)

  handed_to : (bundle : BundleParts) → Contains (handed_over folder) bundle
      → IsHanded (solve_over planning folder) (trace_over planning folder (hand_of folder)).halt bundle
  handed_to bundle given = grind (arith, All-contains, IsHanded, ends_over)

  -- a stage that is not kept and refuses what it is handed ends the run so
  refused_over : (bundle : BundleParts) → Contains (handed_over folder) bundle → kept_in folder bundle ≡ None
      → (reason : Refusal) → (stage_model bundle.stage).run bundle ≡ Err reason
      → (run_over folder).end ≡ end_of (Some (cause.Refused bundle.stage reason))
  unfolding solve_over
  refused_over bundle given none reason is =
      end_over
      ∙ ap end_of
      ((handed_to bundle given).refused reason (ap (λ kept. kept_or kept (planning.run bundle)) none ∙ ran bundle ∙ is))

  one_none : (at : Stage) → why_over ≡ Some (cause.Refused at refusal.NoSolution) → SomeMade HasNoSolution folder
  unfolding solve_over
  one_none at is =
      let one = ends_over.one at refusal.NoSolution is in
      let bundle = one.bundle in
      let own = refused_itself (kept_in folder bundle) (planning.run bundle) refusal.NoSolution one.refused in (
        bundle,
        one.given,
        own.0,
        ends_none bundle (handed_to bundle one.given).fits bundle.stage refl
            (sym (ran bundle) ∙ own.1),
      )

  one_spent : (at : Stage) (entries : ℕ) → why_over ≡ Some (cause.Refused at (refusal.Spent entries))
      → SomeMade IsSpent folder
  unfolding solve_over
  one_spent at entries is =
      let one = ends_over.one at (refusal.Spent entries) is in
      let bundle = one.bundle in
      let own = refused_itself (kept_in folder bundle) (planning.run bundle) (refusal.Spent entries) one.refused in (
        bundle,
        one.given,
        own.0,
        ends_spent bundle (handed_to bundle one.given).fits bundle.stage refl entries
            (sym (ran bundle) ∙ own.1),
      )

  -- a run that can be done has no other end
  done_over : CanBeDoneOver folder → (halted : Option Cause) → why_over ≡ halted
      → (run_over folder).end ≡ end.Done
  done_over can None is = end_over ∙ ap end_of is
  done_over can (Some (cause.Refused at refusal.NoSolution)) is =
      let some = one_none at is in
      absurd ((can_end some.0 (handed_to some.0 some.1).fits some.0.stage refl
      (can.found some.0 some.1 some.2)).0 some.3)
  done_over can (Some (cause.Refused at (refusal.Spent entries))) is =
      let some = one_spent at entries is in
      absurd ((can_end some.0 (handed_to some.0 some.1).fits some.0.stage refl
      (can.found some.0 some.1 some.2)).1 some.3)
  done_over can (Some (cause.Refused at (refusal.BadRow file row reason))) is =
      absurd (can.fine (end_over ∙ ap end_of is))
  done_over can (Some (cause.Refused at (refusal.TooMany what count))) is =
      absurd (can.fine (end_over ∙ ap end_of is))
  done_over can (Some (cause.BadConfig reason)) is = absurd (can.fine (end_over ∙ ap end_of is))
  done_over can (Some (cause.Missing file)) is = absurd (can.fine (end_over ∙ ap end_of is))
  done_over can (Some (cause.TooLong file)) is = absurd (can.fine (end_over ∙ ap end_of is))

pub ends_as_solved_over : (folder : Folder) → EndsAsSolvedOver folder
ends_as_solved_over folder = record {
  none = λ is. let halt = at_none (why_over folder) (sym (end_over folder) ∙ is) in one_none folder halt.0 halt.1;
  none_comes =
      λ some. refused_over folder some.0 some.1 some.2 refusal.NoSolution
      (none_ends some.0 (handed_to folder some.0 some.1).fits some.0.stage refl some.3);
  spent = λ is. let halt =
      at_spent (why_over folder) (sym (end_over folder) ∙ is) in one_spent folder halt.0 halt.1 halt.2;
  spent_comes = λ some.
      let spent = spent_ends_so some.0 (handed_to folder some.0 some.1).fits some.0.stage refl some.3 in
      refused_over folder some.0 some.1 some.2 (refusal.Spent spent.0) spent.1;
  done = λ can. done_over folder can (why_over folder) refl;
}
