-- The stages of a chain keep the laws of runs over all folders.
use Rattle.stage_chain.specs.ChainLaws.{ChainLaws}
use Rattle.stage_chain.specs.Hand.{hand_of}
use Rattle.stage_chain.specs.Laws.{AreStages}
use Rattle.stage_chain.specs.StageParts.{StageParts}
use Rattle.stage_chain.proofs.BothModes.{both_scratch}
use Rattle.stage_chain.proofs.CheckedRuns.{runs_pass}
use Rattle.stage_chain.proofs.FilesLeftAreRight.{left_right}
use Rattle.stage_chain.proofs.FreshKeep.{fresh_keeps}
use Rattle.stage_chain.proofs.HandKept.{writes_once, writes_outside}
use Rattle.stage_chain.proofs.IdleRuns.{tells_next}
use Rattle.stage_chain.proofs.Keeping.{nothing_honest}
use Rattle.stage_chain.proofs.Refusing.{refuses_hand}

pub chain_laws : (S : StageParts) → AreStages S → ChainLaws S
chain_laws S laws = record {
  from_scratch = both_scratch S laws;
  made_files_are_right = left_right S laws;
  refusal = λ folder. refuses_hand S laws (hand_of folder);
  runs_pass = runs_pass S laws;
  empty_keep = nothing_honest S laws;
  fresh_keep = fresh_keeps S laws;
  next = tells_next S laws;
  outside = writes_outside S laws;
  once = writes_once S laws;
}
