-- Steps of writing an entry.
use Rattle.plan_num.proofs.Common.{◌≡◌, ℕ, ◌+◌, List, ◌∷◌, ◌++◌, map, drop, ap, sym, ◌∙◌, Some}
use Rattle.plan_num.proofs.Common.{slice_get, append_assoc, flat_map, get_or_from_slice_get}
use Rattle.plan_num.proofs.Common.{slice_get_within}
use Rattle.giv_files.specs.declared.made.MadeFile.{MadeFile}
use Rattle.stage_keep.specs.Entries.{block_bytes, made_block, made_head}
use Rattle.stage_keep.proofs.Reading.{drop_at}

-- one made file more has its block
pub made_more : (files : List MadeFile) (i : ℕ) (made : MadeFile) (head text bytes new all : List ℕ)
    → slice_get files i ≡ Some made → head ≡ made_head made.file → text ≡ made.text
    → new ≡ bytes ++ block_bytes (record { head = head; text = text })
    → bytes ++ flat_map block_bytes (map made_block (drop i files)) ≡ all
    → new ++ flat_map block_bytes (map made_block (drop (i + 1) files)) ≡ all
made_more files i made head text bytes new all at h t pushed is =
    let rest = flat_map block_bytes (map made_block (drop (i + 1) files)) in
    ap (λ (front : List ℕ). front ++ rest)
    (pushed ∙ λ j. bytes ++ block_bytes (record { head = h j; text = t j }))
    ∙ append_assoc bytes (block_bytes (made_block made)) rest
    ∙ ap (λ (fs : List MadeFile). bytes ++ flat_map block_bytes (map made_block fs))
    (ap (λ m. m ∷ drop (i + 1) files) (sym (get_or_from_slice_get files i made made at))
    ∙ sym (drop_at files i made (slice_get_within files i made at)))
    ∙ is
