-- People write the files that no stage makes.
use Rattle.plan_num.proofs.Common.{◌≡◌, refl}
use Rattle.tables.specs.declared.file_id.FileId.{FileId}
use Rattle.tables.specs.declared.file_id.FileId.TheVariants as file
use Rattle.stage_chain.specs.Chain.{origin_of}
use Rattle.stage_chain.specs.Findings.{is_of_people}
use Rattle.stage_chain.specs.Hand.{is_hand, is_hand_file}

pub hand_by_origin : (file : FileId) → is_of_people (origin_of file) ≡ is_hand_file file
unfolding is_hand
hand_by_origin file.Stop = refl
hand_by_origin _ = refl
