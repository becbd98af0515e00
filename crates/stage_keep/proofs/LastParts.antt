-- What is kept of a bundle is what stands behind its front in the entry.
use Rattle.plan_num.proofs.Common.{◌≡◌, ◌≢◌, ◌<◌, ◌^◌, ◌+◌, ℕ, suc, List, [], ◌∷◌, ◌++◌, length}
use Rattle.plan_num.proofs.Common.{map, take, drop, get_or, codes, refl, ap, sym, subst, ◌∙◌, arith}
use Rattle.plan_num.proofs.Common.{cond, Option, Some, None, option_map, option_and_then, slice_get}
use Rattle.plan_num.proofs.Common.{append_assoc, IfOk, IfSome, Result, Ok, Err, cons_option}
use Rattle.plan_num.proofs.Common.{filter_map, flat_map, zip, pointwise, bytes_eq, drop-append_seam}
use Rattle.plan_num.proofs.Common.{take-append_seam, and_parts, flat_map-append, get_or-drop}
use Rattle.plan_num.proofs.Common.{length-append, length-map, same_Some, bytes_eq-Decides}
use Rattle.std.proofs.lemmas.Iterator.Adapters.{option_map_id}
use Rattle.tables.specs.declared.file_id.FileId.{FileId}
use Rattle.giv_files.specs.declared.made.Made.{Made}
use Rattle.giv_files.specs.declared.stage.Stage.{Stage}
use Rattle.giv_files.proofs.Common.{MakesAs, ids_of, made_lists, BundleParts, Fits, settings_text}
use Rattle.giv_files.proofs.Common.{stage_inputs}
use Rattle.stage_keep.specs.Entries.{Block, EntryParts, block_bytes, entry_bytes, entry_for}
use Rattle.stage_keep.specs.Entries.{entry_front, first_line, given_front, input_block, last_line}
use Rattle.stage_keep.specs.Entries.{made_block, made_head}
use Rattle.stage_keep.specs.EntryReading.{entry_of, entry_with, heads, last_heads}
use Rattle.stage_keep.specs.EntryReading.{made_file, made_of, made_with, read_entry, read_made}
use Rattle.stage_keep.specs.EntryReading.{texts_at}
use Rattle.stage_keep.specs.Honest.{held_for, kept_for}
use Rattle.stage_keep.proofs.Blocks.{front_is}
use Rattle.stage_keep.proofs.BlocksTold.{block_back, found_in, heads_in, texts_of, texts_told}
use Rattle.stage_keep.proofs.EntriesApart.{input_texts}
use Rattle.stage_keep.proofs.EntriesRead.{const_heads, ids_zip}
use Rattle.stage_keep.proofs.Framing.{behind_settings, framed, none_kept}
use Rattle.stage_keep.proofs.Honesty.{own_entry, texts_decide}
use Rattle.stage_keep.proofs.Reading.{block_some}

fused : (text : List ℕ) (texts : List (List ℕ)) (found : Option (List (List ℕ)))
    → option_map (λ later. text ∷ later) (option_map (λ more. texts ++ more) found)
    ≡ option_map (λ more. (text ∷ texts) ++ more) found
fused text texts None = refl
fused text texts (Some more) = refl

-- blocks are read, and then what stands behind them
texts_over : (blocks : List Block) (heads : List (List ℕ)) (rest : List ℕ)
    → length (flat_map block_bytes blocks ++ rest) < 2 ^ 64
    → texts_at (heads_in blocks ++ heads) (flat_map block_bytes blocks ++ rest)
    ≡ option_map (λ more. texts_of blocks ++ more) (texts_at heads rest)
texts_over [] heads rest short = sym (option_map_id (texts_at heads rest))
texts_over (b ∷ blocks) heads rest short =
    let more = flat_map block_bytes blocks ++ rest in
    let whole = append_assoc (block_bytes b) (flat_map block_bytes blocks) rest in
    let less : length (block_bytes b ++ more) < 2 ^ 64 = subst (λ (l : List ℕ). length l < 2 ^ 64) whole short in
    ap (λ (bytes : List ℕ). texts_at (b.head ∷ (heads_in blocks ++ heads)) bytes) whole
    ∙ block_some b.head (heads_in blocks ++ heads) (block_bytes b ++ more) b.text more
    (block_back b.head b.text more less)
    ∙ ap (option_map (λ (texts : List (List ℕ)). b.text ∷ texts))
    (texts_over blocks heads rest (omega (arith, less, length-append (block_bytes b) more)))
    ∙ fused b.text (texts_of blocks) (texts_at heads rest)

-- the block of the settings of a bundle, and those of its inputs
settings_block : BundleParts → Block
settings_block bundle = record { head = codes "settings"; text = settings_text bundle.settings }

given_blocks : BundleParts → List Block
given_blocks bundle = settings_block bundle ∷ map input_block bundle.inputs

-- the front of the entry of a bundle is its first line and these blocks
front_split : (bundle : BundleParts) (rest : List ℕ) → given_front bundle ++ rest
    ≡ first_line bundle.stage ++ (flat_map block_bytes (given_blocks bundle) ++ rest)
unfolding given_blocks settings_block
front_split bundle rest = grind arith

heads_split : (bundle : BundleParts) (files : List FileId) → Fits bundle
    → heads bundle.stage files ≡ heads_in (given_blocks bundle) ++ last_heads files
unfolding given_blocks settings_block
heads_split bundle files fits = grind (arith, const_heads, append_assoc, heads_in)

-- the entry of the texts of a bundle and then others
entry_split : (bundle : BundleParts) (files : List FileId) (more : List (List ℕ)) → Fits bundle
    → entry_of bundle.stage files (texts_of (given_blocks bundle) ++ more)
    ≡ entry_for bundle (made_of files more)
unfolding given_blocks settings_block
entry_split bundle files more fits =
    let n = length (stage_inputs bundle.stage) in
    let s = settings_text bundle.settings in
    let inputs = bundle.inputs in
    let next : suc n ≡ 1 + n = omega arith in
    let front : take n (inputs ++ more) ≡ inputs =
    ap (λ k. take k (inputs ++ more)) (sym fits.inputs) ∙ take-append_seam inputs more in
    let back : drop (1 + n) (s ∷ (inputs ++ more)) ≡ more = ap (λ k. drop k (s ∷ (inputs ++ more))) (sym next)
    ∙ ap (λ k. drop k (inputs ++ more)) (sym fits.inputs) ∙ drop-append_seam inputs more in
    let report : get_or (s ∷ (inputs ++ more)) (1 + n + length files) [] ≡ get_or more (length files) [] =
    sym (get_or-drop (1 + n) (s ∷ (inputs ++ more)) (length files) [])
    ∙ ap (λ l. get_or l (length files) []) back in
    ap (λ (own : List (List ℕ)). entry_of bundle.stage files (s ∷ (own ++ more))) (input_texts inputs)
    ∙ λ j. record {
      settings = s;
      inputs = front j;
      made = record { files = map made_file (zip files (back j)); report = report j };
    }

entry_over : (bundle : BundleParts) (rest : List ℕ) → Fits bundle
    → length (given_front bundle ++ rest) < 2 ^ 64 → (files : List FileId)
    → entry_with bundle.stage (given_front bundle ++ rest) files
    ≡ option_map (entry_for bundle) (made_with rest files)
entry_over bundle rest fits short files =
    let first = first_line bundle.stage in
    let blocks = flat_map block_bytes (given_blocks bundle) in
    let whole = front_split bundle rest in
    let less : length (blocks ++ rest) < 2 ^ 64 =
    omega (arith, short, ap (λ (l : List ℕ). length l) whole, length-append first (blocks ++ rest)) in
    ap (λ (bytes : List ℕ). entry_with bundle.stage bytes files) whole
    ∙ ap (λ found. option_map (entry_of bundle.stage files)
    (option_and_then (texts_at (heads bundle.stage files)) found))
    (front_is first (blocks ++ rest))
    ∙ ap (λ (hs : List (List ℕ)). option_map (entry_of bundle.stage files) (texts_at hs (blocks ++ rest)))
    (heads_split bundle files fits)
    ∙ ap (option_map (entry_of bundle.stage files)) (texts_over (given_blocks bundle) (last_heads files) rest less)
    ∙ by (texts_at (last_heads files) rest)
  where
    by : (found : Option (List (List ℕ)))
        → option_map (entry_of bundle.stage files) (option_map (λ more. texts_of (given_blocks bundle) ++ more) found)
        ≡ option_map (entry_for bundle) (option_map (made_of files) found)
    by None = refl
    by (Some more) = ap Some (entry_split bundle files more fits)

first_mapped : {X Y Z : Type 0} (f : X → Option Z) (h : X → Option Y) (g : Y → Z)
    → ((x : X) → f x ≡ option_map g (h x)) → (xs : List X)
    → slice_get (filter_map f xs) 0 ≡ option_map g (slice_get (filter_map h xs) 0)
first_mapped f h g same [] = refl
first_mapped {X} {Y} {Z} f h g same (x ∷ xs) = rw (same x) (by (h x) (first_mapped f h g same xs))
  where
    by : (found : Option Y)
        → slice_get (filter_map f xs) 0 ≡ option_map g (slice_get (filter_map h xs) 0)
        → slice_get (cons_option (option_map g found) (filter_map f xs)) 0
        ≡ option_map g (slice_get (cons_option found (filter_map h xs)) 0)
    by None later = later
    by (Some y) later = refl

-- what is kept of a bundle is what stands behind its front
pub kept_behind : (bundle : BundleParts) (rest : List ℕ) → Fits bundle
    → length (given_front bundle ++ rest) < 2 ^ 64
    → kept_for bundle (Some (given_front bundle ++ rest)) ≡ read_made bundle.stage rest
unfolding read_entry read_made
kept_behind bundle rest fits short =
    ap (option_and_then (held_for bundle))
    (first_mapped (entry_with bundle.stage (given_front bundle ++ rest)) (made_with rest) (entry_for bundle)
    (entry_over bundle rest fits short) (made_lists bundle.stage))
    ∙ by (slice_get (filter_map (made_with rest) (made_lists bundle.stage)) 0)
  where
    by : (found : Option Made)
        → option_and_then (held_for bundle) (option_map (entry_for bundle) found) ≡ found
    by None = refl
    by (Some made) = ap (λ b. cond b (Some made) None) (own_entry bundle made)

-- an entry has the front of each bundle whose settings and inputs it has
fronted : (bundle : BundleParts) (entry : EntryParts) → entry.settings ≡ settings_text bundle.settings
    → entry.inputs ≡ bundle.inputs
    → (rest : List ℕ) × (entry_bytes bundle.stage entry ≡ given_front bundle ++ rest)
unfolding behind_settings
fronted bundle entry same each =
    let front = entry_front bundle in
    let own = flat_map block_bytes (map input_block bundle.inputs) in
    let last : Block = record { head = codes "report"; text = entry.made.report } in
    let made = flat_map block_bytes (map made_block entry.made.files ++ last ∷ []) in
    let parted : behind_settings entry ≡ own ++ made =
    ap (flat_map block_bytes)
    (append_assoc (map input_block entry.inputs) (map made_block entry.made.files) (last ∷ []))
    ∙ flat_map-append block_bytes (map input_block entry.inputs) (map made_block entry.made.files ++ last ∷ [])
    ∙ ap (λ (inputs : List (List ℕ)). flat_map block_bytes (map input_block inputs) ++ made) each in (
      made ++ last_line,
      framed bundle entry same
          ∙ ap (λ (l : List ℕ). (front ++ l) ++ last_line) parted
          ∙ ap (λ (l : List ℕ). l ++ last_line) (sym (append_assoc front own made))
          ∙ append_assoc (front ++ own) made last_line,
    )

-- bytes without that front are no entry of the bundle
pub unfronted_is_unkept : (bundle : BundleParts) (bytes : List ℕ) → length bytes < 2 ^ 64
    → ((rest : List ℕ) → bytes ≢ given_front bundle ++ rest) → kept_for bundle (Some bytes) ≡ None
unfronted_is_unkept bundle bytes short lacks = none_kept bundle bytes short (λ entry same is.
    let both = and_parts (bytes_eq entry.settings (settings_text bundle.settings))
    (pointwise bytes_eq entry.inputs bundle.inputs) same in
    let text = (bytes_eq-Decides entry.settings (settings_text bundle.settings)).0 both.0 in
    let at = fronted bundle entry text ((texts_decide entry.inputs bundle.inputs).0 both.1) in
    lacks at.0 (is ∙ at.1))

-- ---- what is read is made of files that the stage makes

made_told : (rest : List ℕ) (files : List FileId) (made : Made) → made_with rest files ≡ Some made
    → ids_of made.files ≡ files
made_told rest files made = by (texts_at (last_heads files) rest) refl
  where
    by : (found : Option (List (List ℕ))) → texts_at (last_heads files) rest ≡ found
        → option_map (made_of files) found ≡ Some made → ids_of made.files ≡ files
    by None none found = cc
    by (Some texts) at found =
        let each = (texts_told (last_heads files) rest texts at).0 in
        subst (λ m. ids_of m.files ≡ files) (same_Some (made_of files texts) made found)
        (ids_zip files texts
        (omega (arith, each, length-append (map made_head files) (codes "report" ∷ []), length-map files made_head)))

made_makes : (at : Stage) (rest : List ℕ) (made : Made) → read_made at rest ≡ Some made
    → MakesAs at (ids_of made.files)
unfolding read_made
made_makes at rest made some = grind (arith, found_in, made_told)

pub makes_told : {E : Type 0} (at : Stage) (rest : List ℕ) (result : Result (Option Made) E)
    → IfOk result (λ made. made ≡ read_made at rest)
    → IfOk result (λ made. IfSome made (λ made. MakesAs at (ids_of made.files)))
makes_told at rest (Ok None) is = tt
makes_told at rest (Ok (Some made)) is = made_makes at rest made (sym is)
makes_told at rest (Err end) is = tt
