-- Where a run is stopped, the files that people write are as before, and what is kept is honest.
use Rattle.plan_num.proofs.Common.{◌≡◌, ◌+◌, ◌≤◌, List, ◌∷◌, [], ◌++◌, Option, Some, None, refl, ap}
use Rattle.plan_num.proofs.Common.{subst, ⊎_elim, same_Some}
use Rattle.plan_files.specs.declared.file_fault.FileFault.TheVariants.{Failed}
use Rattle.plan_files.specs.declared.write.Write.{Write}
use Rattle.plan_files.proofs.Common.{folder_after, Folder, AreOutside, outside_front}
use Rattle.command_line.specs.declared.mode.Mode.{Mode}
use Rattle.command_line.specs.declared.mode.Mode.TheVariants as mode
use Rattle.stage_chain.specs.Hand.{hand_of, is_hand}
use Rattle.stage_chain.specs.Kept.{IsKeptHonest}
use Rattle.stage_chain.specs.RunSays.{SeenFiles, StaysSafe}
use Rattle.stage_chain.specs.Runs.{run_over, started}
use Rattle.stage_chain.specs.Stopped.{AddsHarmless, IsFirstTorn, IsSafeFrom, IsStopped, StopsSafely}
use Rattle.stage_chain.proofs.HandKept.{applied_hand, cut_hand}
use Rattle.stage_chain.proofs.Stopping.{stopped_honest, stopped_removed}
use Rattle.stage_chain.specs.StageParts.{StageParts}
use Rattle.stage_chain.specs.Laws.{AreStages}

stopped_hand : (writes : List Write) (read left : Folder) → AreOutside is_hand writes
    → IsStopped writes read left → hand_of left ≡ hand_of read
stopped_hand writes read left apart stopped =
    by stopped.rest stopped.folder (subst (AreOutside is_hand) stopped.split apart)
  where
    by : (rest : List Write) → IsFirstTorn rest (folder_after stopped.made read) left
        → AreOutside is_hand (stopped.made ++ rest) → hand_of left ≡ hand_of read
    by [] same apart =
        same_Some (hand_of left) (hand_of read)
        (applied_hand stopped.made (Some read) (Some left) None None (outside_front is_hand stopped.made [] apart)
        (record { folder = ap Some same; noted = refl }))
    by (next ∷ rest) torn apart =
        same_Some (hand_of left) (hand_of read)
        (cut_hand Failed (stopped.made ++ next ∷ rest) (Some read) (Some left) None None apart
        (record { made = stopped.made; next = next; rest = rest; split = refl; noted = refl; folder = torn }))

module _ (S : StageParts) (laws : AreStages S) where
  stops : (by : Mode) (folder : Folder) (left : Option Folder) (before now : Option (List Write))
      → AddsHarmless S folder left before now → StopsSafely S by folder before now
  stops by folder left before now h = record {
    added = h.added;
    noted = h.noted;
    hand = λ stands stopped. stopped_hand h.added folder stands h.apart stopped;
    keep = λ stands stopped from. each by stands stopped from;
  }
    where
      each : (by : Mode) (stands : Folder) (stopped : IsStopped h.added folder stands)
          → IsSafeFrom S by folder stopped.made → IsKeptHonest S stands
      each mode.Make stands stopped honest =
          stopped_honest S laws h.added folder stands h.harmless stopped honest
      each mode.Fresh stands stopped from =
          ⊎_elim (stopped_honest S laws h.added folder stands h.harmless stopped)
          (stopped_removed S laws h.added folder stands h.harmless stopped) from

  -- so a run stays safe whose writes are harmless
  pub stays_safe : (by : Mode) (old new : SeenFiles) (folder : Folder)
      → AddsHarmless S folder new.contents old.writes new.writes
      → new.steps ≤ old.steps + (run_over S (started by folder)).work → StaysSafe S by old new folder
  stays_safe by old new folder h most = record {
    keeps_honest = h.keep;
    stops = stops by folder new.contents old.writes new.writes h;
    no_more_steps = most;
  }
