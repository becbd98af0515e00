-- The pieces of the front of an entry.
use Rattle.plan_num.proofs.Common.{◌≡◌, ℕ, ◌<◌, ◌+◌, suc, List, [], ◌∷◌, ◌++◌, length, map, drop}
use Rattle.plan_num.proofs.Common.{get_or, ap, ◌∙◌, arith, append_assoc, append-nil, flat_map}
use Rattle.plan_num.proofs.Common.{flat_map-append, get_or-map}
use Rattle.stage_keep.specs.Entries.{block_bytes, input_block, input_line}
use Rattle.stage_keep.proofs.Reading.{drop_at}

-- the line of an input among all lines
pub line_at : (front : List ℕ) (lines inputs : List (List ℕ)) (i : ℕ) (d : List ℕ) → i < length inputs
    → lines ≡ front ∷ map input_line inputs
    → get_or lines (i + 1) d ≡ input_line (get_or inputs i [])
line_at front lines inputs i d inside are =
    ap (λ l. get_or l (i + 1) d) are ∙ ap (λ n. get_or (front ∷ map input_line inputs) n d) (next i)
    ∙ get_or-map input_line inputs i [] d inside
  where
    next : (n : ℕ) → n + 1 ≡ suc n
    next n = omega arith

-- one input more has its line and its text
pub pieces_more : {X : Type 0} (f : X → List ℕ) (so_far mid new : List X) (a b : X)
    (inputs : List (List ℕ)) (i : ℕ) (all : List ℕ) → i < length inputs
    → mid ≡ so_far ++ a ∷ [] → new ≡ mid ++ b ∷ []
    → f a ≡ input_line (get_or inputs i []) → f b ≡ get_or inputs i []
    → flat_map f so_far ++ flat_map block_bytes (map input_block (drop i inputs)) ≡ all
    → flat_map f new ++ flat_map block_bytes (map input_block (drop (i + 1) inputs)) ≡ all
pieces_more {X} f so_far mid new a b inputs i all inside first second line own is = grind (
  arith,
  get_or,
  append_assoc,
  drop_at,
  flat_map-append,
  append-nil,
)
