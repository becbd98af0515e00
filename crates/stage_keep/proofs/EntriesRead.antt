-- What is read of bytes are the bytes of an entry, and an entry is read back.
use Rattle.plan_num.proofs.Common.{◌≡◌, ◌≢◌, ℕ, ◌<◌, ◌≤◌, ◌+◌, ◌^◌, List, [], ◌∷◌, ◌++◌, length}
use Rattle.plan_num.proofs.Common.{map, take, drop, get_or, refl, ap, sym, subst, ◌∙◌, arith, zero}
use Rattle.plan_num.proofs.Common.{suc, Result, Ok, Err, IfOk, Option, Some, None, option_map}
use Rattle.plan_num.proofs.Common.{option_and_then, codes, slice_get, append_assoc, append-nil}
use Rattle.plan_num.proofs.Common.{Contains, cons_option, filter_map, flat_map, zip, get_or-drop}
use Rattle.plan_num.proofs.Common.{length-append, length-drop, length-map, length-take-le}
use Rattle.plan_num.proofs.Common.{same_Some}
use Rattle.tables.specs.declared.file_id.FileId.{FileId}
use Rattle.giv_files.specs.declared.made.Made.{Made}
use Rattle.giv_files.specs.declared.stage.Stage.{Stage}
use Rattle.giv_files.proofs.Common.{MakesAs, ids_of, made_lists, BundleParts, Fits, stage_inputs}
use Rattle.stage_keep.specs.Entries.{Block, EntryParts, IsEntryOf, block_bytes, entry_blocks}
use Rattle.stage_keep.specs.Entries.{entry_bytes, entry_for, first_line, input_block, last_line}
use Rattle.stage_keep.specs.Entries.{made_block, made_head}
use Rattle.stage_keep.specs.EntryReading.{ReadsEntry, behind, entry_of, entry_with, heads}
use Rattle.stage_keep.specs.EntryReading.{made_file, read_entry, texts_at}
use Rattle.stage_keep.proofs.EntryLaws.{EntriesAreReadBack, FrontsAreNone, ReadingIsExact}
use Rattle.stage_keep.proofs.Blocks.{front_back, front_is}
use Rattle.stage_keep.proofs.BlocksTold.{blocks_of, found_in, heads_in, texts_back, texts_of, texts_told}
use Rattle.stage_keep.proofs.EntriesApart.{entries_stand_apart, heads_of}

-- ---- blocks of the heads of an entry

blocks_nil : (heads : List (List ℕ)) → blocks_of heads [] ≡ []
unfolding blocks_of
blocks_nil [] = refl
blocks_nil (head ∷ heads) = refl

blocks_append : (xs ys ts : List (List ℕ))
    → blocks_of (xs ++ ys) ts ≡ blocks_of xs ts ++ blocks_of ys (drop (length xs) ts)
unfolding blocks_of
blocks_append [] ys ts = refl
blocks_append (x ∷ xs) ys [] = sym (blocks_nil ys)
blocks_append (x ∷ xs) ys (t ∷ ts) = λ i. record { head = x; text = t } ∷ blocks_append xs ys ts i

blocks_inputs : (files : List FileId) (ts : List (List ℕ))
    → blocks_of (map (λ _. codes "input") files) ts ≡ map input_block (take (length files) ts)
unfolding blocks_of
blocks_inputs [] ts = refl
blocks_inputs (f ∷ files) [] = refl
blocks_inputs (f ∷ files) (t ∷ ts) = λ i. input_block t ∷ blocks_inputs files ts i

blocks_made : (files : List FileId) (ts : List (List ℕ))
    → blocks_of (map made_head files) ts ≡ map made_block (map made_file (zip files ts))
unfolding blocks_of
blocks_made [] ts = refl
blocks_made (f ∷ files) [] = refl
blocks_made (f ∷ files) (t ∷ ts) =
    λ i. record { head = made_head f; text = t } ∷ blocks_made files ts i

report_block : List ℕ → Block
report_block text = record { head = codes "report"; text = text }

blocks_last : (ts : List (List ℕ)) → length ts ≡ 1
    → blocks_of (codes "report" ∷ []) ts ≡ report_block (get_or ts 0 []) ∷ []
unfolding blocks_of report_block
blocks_last [] one = absurd (omega (arith, one))
blocks_last (t ∷ []) one = refl
blocks_last (t ∷ u ∷ ts) one = absurd (omega (arith, one))

heads_size : (at : Stage) (files : List FileId)
    → length (heads at files) ≡ 2 + length (stage_inputs at) + length files
heads_size at files = grind (arith, length-append, length-map)

blocks_entry : (at : Stage) (files : List FileId) (texts : List (List ℕ))
    → length texts ≡ 2 + length (stage_inputs at) + length files
    → blocks_of (heads at files) texts ≡ entry_blocks (entry_of at files texts)
unfolding blocks_of report_block
blocks_entry at files [] size = absurd (omega (arith, size))
blocks_entry at files (s ∷ T) size =
    let I = map (λ (_ : FileId). codes "input") (stage_inputs at) in
    let F = map made_head files in
    let n = length (stage_inputs at) in
    let many : length I ≡ n = length-map (stage_inputs at) (λ (_ : FileId). codes "input") in
    let all : length (I ++ F) ≡ n + length files = length-append I F ∙ (λ j. many j + length-map files made_head j) in
    let one : length (drop (n + length files) T) ≡ 1 = length-drop (n + length files) T ∙ omega (arith, size) in
    let next : (k : ℕ) → suc k ≡ 1 + k = λ k. omega arith in
    let made : blocks_of F (drop (length I) T) ≡ map made_block (map made_file (zip files (drop (1 + n) (s ∷ T)))) =
    ap (λ k. blocks_of F (drop k T)) many ∙ blocks_made files (drop n T)
    ∙ ap (λ k. map made_block (map made_file (zip files (drop k (s ∷ T))))) (next n) in
    let place : suc (n + length files + 0) ≡ 1 + n + length files = omega arith in
    let last : blocks_of (codes "report" ∷ []) (drop (length (I ++ F)) T)
    ≡ report_block (get_or (s ∷ T) (1 + n + length files) []) ∷ [] =
    ap (λ k. blocks_of (codes "report" ∷ []) (drop k T)) all
    ∙ blocks_last (drop (n + length files) T) one
    ∙ ap (λ t. report_block t ∷ [])
    (get_or-drop (n + length files) T 0 [] ∙ ap (λ k. get_or (s ∷ T) k []) place) in
    ap (λ (more : List Block). record { head = codes "settings"; text = s } ∷ more)
    (blocks_append (I ++ F) (codes "report" ∷ []) T
    ∙ λ j. (blocks_append I F T ∙ λ k. blocks_inputs (stage_inputs at) T k ++ made k) j ++ last j)

-- ---- what is read are the bytes of an entry

pub ids_zip : (files : List FileId) (ts : List (List ℕ)) → length files ≤ length ts
    → ids_of (map made_file (zip files ts)) ≡ files
ids_zip [] ts few = refl
ids_zip (f ∷ files) [] few = absurd (omega (arith, few))
ids_zip (f ∷ files) (t ∷ ts) few = λ i. f ∷ ids_zip files ts (omega (arith, few)) i

-- what is known of an entry that bytes are
record IsRead (at : Stage) (bytes : List ℕ) (files : List FileId) (entry : EntryParts) : Type 0 where
  bytes_are : bytes ≡ entry_bytes at entry
  made : ids_of entry.made.files ≡ files
  inputs : length entry.inputs ≡ length (stage_inputs at)

read_texts : (at : Stage) (bytes : List ℕ) (files : List FileId) (rest : List ℕ)
    (texts : List (List ℕ)) → bytes ≡ first_line at ++ rest
    → length texts ≡ length (heads at files)
    → rest ≡ flat_map block_bytes (blocks_of (heads at files) texts) ++ last_line
    → IsRead at bytes files (entry_of at files texts)
unfolding entry_bytes
read_texts at bytes files rest texts is each told =
    grind (arith, heads_size, blocks_entry, append_assoc, ids_zip, length-drop, length-take-le)

entry_told : (at : Stage) (bytes : List ℕ) (files : List FileId) (entry : EntryParts)
    → entry_with at bytes files ≡ Some entry → IsRead at bytes files entry
entry_told at bytes files entry = by (behind (first_line at) bytes) refl
  where
    later : (rest : List ℕ) (texts : Option (List (List ℕ))) → behind (first_line at) bytes ≡ Some rest
        → texts_at (heads at files) rest ≡ texts
        → option_map (entry_of at files) texts ≡ Some entry → IsRead at bytes files entry
    later rest None is none found = cc
    later rest (Some texts) is told found =
        let each = texts_told (heads at files) rest texts told in
        subst (λ e. IsRead at bytes files e) (same_Some (entry_of at files texts) entry found)
        (read_texts at bytes files rest texts (front_back (first_line at) bytes rest is) each.0 each.1)

    by : (rest : Option (List ℕ)) → behind (first_line at) bytes ≡ rest
        → option_map (entry_of at files) (option_and_then (texts_at (heads at files)) rest) ≡ Some entry
        → IsRead at bytes files entry
    by None none found = cc
    by (Some rest) is found = later rest (texts_at (heads at files) rest) is refl found

-- ---- an entry is found among its bytes

pub const_heads : (files : List FileId) (texts : List (List ℕ)) → length texts ≡ length files
    → map (λ _. codes "input") files ≡ heads_in (map input_block texts)
const_heads [] [] each = refl
const_heads [] (t ∷ texts) each = absurd (omega (arith, each))
const_heads (f ∷ files) [] each = absurd (omega (arith, each))
const_heads (f ∷ files) (t ∷ texts) each =
    λ i. codes "input" ∷ const_heads files texts (omega (arith, each)) i

heads_are : (at : Stage) (entry : EntryParts) → length entry.inputs ≡ length (stage_inputs at)
    → heads at (ids_of entry.made.files) ≡ heads_in (entry_blocks entry)
heads_are at entry each = grind (arith, const_heads, heads_of)

there : (at : Stage) (entry : EntryParts) → IsEntryOf at entry
    → (other : EntryParts) × (entry_with at (entry_bytes at entry) (ids_of entry.made.files) ≡ Some other)
unfolding entry_bytes
there at entry is =
    let blocks = flat_map block_bytes (entry_blocks entry) in
    let rest = blocks ++ last_line in
    let whole = append_assoc (first_line at) blocks last_line in
    let files = ids_of entry.made.files in
    let short : length rest < 2 ^ 64 =
    omega (arith, is.short, ap (λ (l : List ℕ). length l) whole, length-append (first_line at) rest) in (
      entry_of at files (texts_of (entry_blocks entry)),
      ap (λ (bytes : List ℕ). entry_with at bytes files) whole
          ∙ ap (λ found. option_map (entry_of at files) (option_and_then (texts_at (heads at files)) found))
          (front_is (first_line at) rest)
          ∙ ap (λ (hs : List (List ℕ)). option_map (entry_of at files) (texts_at hs rest))
          (heads_are at entry is.inputs)
          ∙ ap (option_map (entry_of at files)) (texts_back (entry_blocks entry) short),
    )

-- where nothing is found, nothing is at any item
none_in : {X Y : Type 0} (f : Y → Option X) (x : X) (y : Y) (list : List Y) → Contains list y
    → f y ≡ Some x → slice_get (filter_map f list) 0 ≡ None → ⊥
none_in f x y [] at is none = absurd (omega (arith, at.1))
none_in {X} {Y} f x y (z ∷ list) (zero, within, same) is none = grind (arith, slice_get)
none_in {X} {Y} f x y (z ∷ list) (suc k, within, same) is none =
    by (f z) none (none_in f x y list (k, omega (arith, within), same) is)
  where
    by : (found : Option X) → slice_get (cons_option found (filter_map f list)) 0 ≡ None
        → (slice_get (filter_map f list) 0 ≡ None → ⊥) → ⊥
    by None none more = more none
    by (Some w) none more = cc

-- ---- the laws

pub reading_is_exact : ReadingIsExact
unfolding read_entry
reading_is_exact at bytes short = by (read_entry at bytes) refl
  where
    by : (found : Option EntryParts) → read_entry at bytes ≡ found → ReadsEntry at bytes found
    by None none = λ entry is same.
        let other = there at entry is in
        none_in (entry_with at bytes) other.0 (ids_of entry.made.files) (made_lists at) is.made
        (ap (λ (b : List ℕ). entry_with at b (ids_of entry.made.files)) same ∙ other.1) none
    by (Some entry) some =
        let at_list = found_in (entry_with at bytes) entry (made_lists at) some in
        let told = entry_told at bytes at_list.0 entry at_list.2 in (
          record {
            inputs = told.inputs;
            made = subst (λ files. MakesAs at files) (sym told.made) at_list.1;
            short = subst (λ (l : List ℕ). length l < 2 ^ 64) told.bytes_are short;
          },
          told.bytes_are,
        )

-- the files of an entry that is read are some that its stage makes
pub read_makes : (at : Stage) (bytes : List ℕ) (entry : EntryParts)
    → read_entry at bytes ≡ Some entry → MakesAs at (ids_of entry.made.files)
unfolding read_entry
read_makes at bytes entry some =
    let at_list = found_in (entry_with at bytes) entry (made_lists at) some in
    let told = entry_told at bytes at_list.0 entry at_list.2 in
    subst (λ files. MakesAs at files) (sym told.made) at_list.1

pub entries_are_read_back : EntriesAreReadBack
entries_are_read_back at entry is =
    by (read_entry at (entry_bytes at entry)) (reading_is_exact at (entry_bytes at entry) is.short)
  where
    by : (found : Option EntryParts) → ReadsEntry at (entry_bytes at entry) found
        → found ≡ Some entry
    by None none = absurd (none entry is refl)
    by (Some other) (also, same) =
        ap Some (entries_stand_apart at other entry [] [] also is
        (ap (λ (l : List ℕ). l ++ []) (sym same))).0

pub fronts_are_none : FrontsAreNone
fronts_are_none at entry front rest is whole some =
    by (read_entry at front) (reading_is_exact at front
    (omega (arith, is.short, ap (λ (l : List ℕ). length l) whole, length-append front rest)))
  where
    by : (found : Option EntryParts) → ReadsEntry at front found → found ≡ None
    by None none = refl
    by (Some other) (also, same) =
        absurd (some (sym (entries_stand_apart at entry other [] rest is also
        (append-nil (entry_bytes at entry) ∙ whole ∙ ap (λ (l : List ℕ). l ++ rest) same)).1))

-- ---- the laws of what a call reads

pub exact_of : {E : Type 0} (at : Stage) (bytes : List ℕ) (result : Result (Option EntryParts) E)
    → length bytes < 2 ^ 64 → IfOk result (λ found. found ≡ read_entry at bytes)
    → IfOk result (ReadsEntry at bytes)
exact_of at bytes (Ok found) short is =
    subst (λ read. ReadsEntry at bytes read) (sym is) (reading_is_exact at bytes short)
exact_of at bytes (Err end) short is = tt

pub front_of : {E : Type 0} (at : Stage) (bytes : List ℕ) (result : Result (Option EntryParts) E)
    → IfOk result (λ found. found ≡ read_entry at bytes)
    → IfOk result (λ found. (entry : EntryParts) (more : List ℕ) → IsEntryOf at entry
    → entry_bytes at entry ≡ bytes ++ more → more ≢ [] → found ≡ None)
front_of at bytes (Ok found) is = λ entry more of whole some.
    is ∙ fronts_are_none at entry bytes more of whole some
front_of at bytes (Err end) is = tt

-- what is written of a bundle is an entry of its stage
pub entry_fits : (bundle : BundleParts) (made : Made) → Fits bundle
    → MakesAs bundle.stage (ids_of made.files)
    → length (entry_bytes bundle.stage (entry_for bundle made)) < 2 ^ 64
    → IsEntryOf bundle.stage (entry_for bundle made)
entry_fits bundle made fits makes short = record { inputs = fits.inputs; made = makes; short = short }

-- a text that is that short and has the bytes of an entry
pub entry_of_text : (bundle : BundleParts) (made : Made) (text : List ℕ) → Fits bundle
    → MakesAs bundle.stage (ids_of made.files) → length text < 2 ^ 64
    → text ≡ entry_bytes bundle.stage (entry_for bundle made)
    → IsEntryOf bundle.stage (entry_for bundle made)
entry_of_text bundle made text fits makes short is =
    entry_fits bundle made fits makes (subst (λ (l : List ℕ). length l < 2 ^ 64) is short)

pub back_of : (bundle : BundleParts) (made : Made) (text : List ℕ)
    → IsEntryOf bundle.stage (entry_for bundle made)
    → text ≡ entry_bytes bundle.stage (entry_for bundle made)
    → read_entry bundle.stage text ≡ Some (entry_for bundle made)
back_of bundle made text entry is = grind (arith, entries_are_read_back)
