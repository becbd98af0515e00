use Rattle.plan_num.proofs.Common.{ℕ, ◌-◌, ap, ◌∙◌, length, map, take, drop, [], List, zip}
use Rattle.tables.specs.declared.file_id.FileId.{FileId}
use Rattle.giv_files.proofs.Common.{stage_inputs}
use Rattle.stage_keep.specs.EntryReading.{made_file}
use Rattle.stage_keep.proofs.Reading.{back_texts, entry_by_parts, first_text, front_texts, last_text}
use Rattle.stage_keep.proofs.read.entry_of.Goals as goal

pub returns : goal.returns
returns c =
    let texts = c.args.texts.now in
    let files = c.args.files.now in
    let n = length (stage_inputs c.args.stage) in
    let size = ap (λ (l : List FileId). length l) c.inputs.ensures in
    let front = c.split_at.ensures.front
    ∙ ap (λ k. take k (take (length texts - 1) (drop 1 texts))) size in
    let back = c.split_at.ensures.back
    ∙ ap (λ k. drop k (take (length texts - 1) (drop 1 texts))) size in
    c.new.ensures
    ∙ entry_by_parts c.args.stage files (map (λ text. text.now) texts) _ _ _ _
    (first_text (λ text. text.now) texts n (length files) (record { ref_ptr = (0, 0); now = [] }) c.requires)
    (ap (map (λ text. text.now)) c.in_ok-inputs.ensures.items
    ∙ front_texts (λ text. text.now) texts n (length files) (record { ref_ptr = (0, 0); now = [] }) c.requires _ front)
    (c.in_ok-files.ensures
    ∙ ap (λ (l : List (List ℕ)). map made_file (zip files l))
    (back_texts (λ text. text.now) texts n (length files) (record { ref_ptr = (0, 0); now = [] }) c.requires _ back))
    (c.in_ok-report.ensures
    ∙ last_text (λ text. text.now) texts n (length files) (record { ref_ptr = (0, 0); now = [] }) c.requires _ back)
