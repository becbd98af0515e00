-- What is right over one look of texts, stage by stage.
use Rattle.plan_num.proofs.Common.{arith, ◌≡◌, ℕ, ℤ, Bool, true, false, ◌||◌, List, [], ◌∷◌, map}
use Rattle.plan_num.proofs.Common.{refl, subst, list_any, bytes_eq, false≢true, bytes_eq-Decides}
use Rattle.tables.specs.declared.file_id.FileId.{FileId}
use Rattle.giv_files.specs.declared.stage.Stage.{Stage}
use Rattle.stage_keep.specs.Entries.{keep_name}
use Rattle.stage_chain.specs.Chain.{stage_place}
use Rattle.stage_chain.specs.Laws.{AreRightOver, IsRightOver}
use Rattle.stage_chain.specs.StageLists.{before_stage}
use Rattle.stage_chain.specs.StageParts.{StageParts, staged}
use Rattle.stage_chain.proofs.KeptAfter.{same_stage}

-- a stage is one of some
abbrev pub is_one : Stage → List Stage → Bool
is_one at stages = list_any (λ other. bytes_eq (keep_name other) (keep_name at)) stages

module _ (S : StageParts) (values : List ℤ) (look : FileId → List ℕ) where
  -- where the stage in each of some places is right over a look of texts, that in one of them is
  place_right : (places : List Stage) → AreRightOver S values look (map (S.placed values) places)
      → (place : Stage) → is_one place places ≡ true → IsRightOver S values look (S.placed values place)
  place_right [] right place is = absurd (false≢true is)
  place_right (first ∷ places) right place is =
      by (bytes_eq (keep_name first) (keep_name place)) refl (place_right places right.1 place) is
    where
      by : (same : Bool) → bytes_eq (keep_name first) (keep_name place) ≡ same
          → (is_one place places ≡ true → IsRightOver S values look (S.placed values place))
          → (same || is_one place places) ≡ true → IsRightOver S values look (S.placed values place)
      by true own rest among =
          subst (λ at. IsRightOver S values look (S.placed values at))
          (same_stage first place ((bytes_eq-Decides (keep_name first) (keep_name place)).0 own)) right.0
      by false own rest among = rest among

  module _ (point : (place : Stage) → stage_place (S.placed values place) ≡ stage_place place) where
    -- the stages before one are those in the places before it
    before_placed : (at : Stage) (places : List Stage)
        → before_stage (map (S.placed values) places) at ≡ map (S.placed values) (before_stage places at)
    before_placed at [] = refl
    before_placed at (place ∷ places) = grind (arith, before_placed at places)

    -- where the stages before one are right, that in each place before it is
    pub right_before : (at : Stage) → AreRightOver S values look (before_stage (staged S values) at)
        → (place : Stage) → is_one place (before_stage S.places at) ≡ true
        → IsRightOver S values look (S.placed values place)
    right_before at right place is =
        place_right (before_stage S.places at) (subst (AreRightOver S values look) (before_placed at S.places) right)
        place is
