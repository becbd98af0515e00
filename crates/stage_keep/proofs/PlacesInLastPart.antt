-- Places of texts in the last part of an entry.
use Rattle.plan_num.proofs.Common.{◌≡◌, ℕ, ◌<◌, ◌+◌, ◌-◌, suc, zero, List, [], ◌∷◌, ◌++◌, All}
use Rattle.plan_num.proofs.Common.{length, map, take, drop, get_or, refl, ap, sym, subst, ◌∙◌}
use Rattle.plan_num.proofs.Common.{arith, Option, Some, None, option_map, slice_get, append_assoc}
use Rattle.plan_num.proofs.Common.{append-nil, filter_map, take-map, zip, option_to_list}
use Rattle.plan_num.proofs.Common.{drop-append_seam, take-append_seam, get_or-map, length-append}
use Rattle.plan_num.proofs.Common.{length-drop, map-append, nil_from_length, take_all, All-push}
use Rattle.tables.specs.declared.file_id.FileId.{FileId}
use Rattle.giv_files.specs.declared.made.Made.{Made}
use Rattle.giv_files.specs.declared.made.MadeFile.{MadeFile}
use Rattle.giv_files.specs.declared.stage.Stage.{Stage}
use Rattle.giv_files.proofs.Common.{made_lists, stage_makes}
use Rattle.stage_keep.specs.declared.place.Place.{Place}
use Rattle.stage_keep.specs.Entries.{opening}
use Rattle.stage_keep.specs.EntryReading.{block_at, last_heads, made_file, made_of, made_with, read_made, texts_at}
use Rattle.stage_keep.specs.Places.{IsWithin, part_of}
use Rattle.stage_keep.proofs.BlocksTold.{block_told}
use Rattle.stage_keep.proofs.Reading.{first_made, later_made}

-- a block that is found behind a front
module _ (bytes front rest head text more : List ℕ) (split : bytes ≡ front ++ rest)
    (found : block_at head rest ≡ Some (text, more)) where
  -- what stands before its text
  abbrev pub before : List ℕ
  before = front ++ opening head (length text)

  pub next_split : bytes ≡ (before ++ text) ++ more
  next_split = grind (arith, block_told, append_assoc)

  pub sizes : length bytes ≡ length before + length text + length more
  sizes = grind (arith, next_split, length-append)

  module _ (place : Place) (start : place.start ≡ length bytes - length more - length text)
      (size : place.size ≡ length text) where
    part_is : part_of bytes place ≡ text
    part_is =
        let at : place.start ≡ length before = omega (arith, start, sizes) in grind (
          arith,
          next_split,
          append_assoc,
          drop-append_seam,
          take-append_seam,
        )

    -- one place more has the text, and is one of the bytes
    pub place_more : (places new : List Place) → new ≡ places ++ place ∷ []
        → map (part_of bytes) new ≡ map (part_of bytes) places ++ text ∷ []
    place_more places new is = grind (arith, map-append, part_is)

    pub place_within : (places new : List Place) → new ≡ places ++ place ∷ []
        → All (IsWithin bytes) places → All (IsWithin bytes) new
    place_within places new is all =
        subst (λ l. All (IsWithin bytes) l) (sym is)
        (All-push (IsWithin bytes) places place all (omega (arith, start, size, sizes)))

-- files with their texts, up to one, that one, and those behind it
module _ (f : Place → List ℕ) where
  abbrev pub files_at : List FileId → List Place → List MadeFile
  files_at files places = map made_file (zip files (map f places))

  pub files_split : (k : ℕ) (files : List FileId) (places : List Place) (d : FileId) (e : Place)
      → k < length files → k < length places
      → files_at files places ≡ files_at (take k files) (take k places)
      ++ made_file (get_or files k d, f (get_or places k e)) ∷ files_at (drop (suc k) files) (drop (suc k) places)
  files_split k [] places d e inside within = absurd (omega (arith, inside))
  files_split k (x ∷ files) [] d e inside within = absurd (omega (arith, within))
  files_split zero (x ∷ files) (p ∷ places) d e inside within = refl
  files_split (suc k) (x ∷ files) (p ∷ places) d e inside within =
      grind (arith, files_split k files places d e (omega (arith, inside)) (omega (arith, within)))

  -- the same, put together from copies of the others and that one
  pub files_joined : (k n : ℕ) (files : List FileId) (places : List Place) (d : FileId) (e : Place)
      (some new later all : List MadeFile) → k < length files → k < length places → n ≡ k + 1
      → some ≡ files_at (take k files) (take k places)
      → later ≡ files_at (take (length files - n) (drop n files)) (take (length places - n) (drop n places))
      → new ≡ some ++ record { file = get_or files k d; text = f (get_or places k e) } ∷ []
      → all ≡ new ++ later → all ≡ files_at files places
  files_joined k n files places d e some new later all inside within next front back more is =
      let own = made_file (get_or files k d, f (get_or places k e)) in
      let at : n ≡ suc k = next ∙ following k in
      is ∙ ap (λ (l : List MadeFile). l ++ later) (more ∙ ap (λ (l : List MadeFile). l ++ own ∷ []) front)
      ∙ append_assoc (files_at (take k files) (take k places)) (own ∷ []) later
      ∙ ap (λ (l : List MadeFile). files_at (take k files) (take k places) ++ own ∷ l)
      (back ∙ (λ j. files_at (whole n files j) (whole n places j))
      ∙ λ j. files_at (drop (at j) files) (drop (at j) places))
      ∙ sym (files_split k files places d e inside within)
    where
      following : (n : ℕ) → n + 1 ≡ suc n
      following n = omega arith

      whole : {X : Type 0} (n : ℕ) (xs : List X) → take (length xs - n) (drop n xs) ≡ drop n xs
      whole n xs = take_all (length xs - n) (drop n xs) (omega (arith, length-drop n xs))

-- copies of texts that stand among bytes
pub copies_are : (bytes own : List ℕ) (files : List FileId) (places : List Place)
    (old new : List MadeFile) → own ≡ bytes → old ≡ []
    → new ≡ old ++ files_at (part_of own) files places → new ≡ files_at (part_of bytes) files places
copies_are bytes own files places old new same none is =
    is ∙ λ j. none j ++ files_at (part_of (same j)) files places

-- where nothing is left, all is there
pub all_there : (made rest all : List MadeFile) → length rest ≡ 0 → made ++ rest ≡ all → made ≡ all
all_there made rest all none is =
    sym (append-nil made) ∙ ap (λ (l : List MadeFile). made ++ l) (sym (nil_from_length rest none)) ∙ is

-- what was made, by its files and its report
pub made_parts : (bytes held : List ℕ) (files : List FileId) (places : List Place) (e : Place)
    (made : List MadeFile) (report : List ℕ) → length places ≡ length files + 1 → held ≡ bytes
    → report ≡ part_of held (get_or places (length files) e)
    → made ≡ map made_file (zip files (map (part_of bytes) (take (length files) places)))
    → record { files = made; report = report } ≡ made_of files (map (part_of bytes) places)
made_parts bytes held files places e made report each same last is =
    let f = part_of bytes in
    let own : report ≡ get_or (map f places) (length files) [] =
    last ∙ ap (λ (b : List ℕ). part_of b (get_or places (length files) e)) same
    ∙ sym (get_or-map f places (length files) e [] (omega (arith, each))) in
    let front : made ≡ map made_file (zip files (map f places)) =
    is ∙ ap (λ (l : List (List ℕ)). map made_file (zip files l)) (sym (take-map f (length files) places))
    ∙ ap (map made_file) (zip_front files (map f places)) in
    λ j. record { files = front j; report = own j }
  where
    zip_front : (xs : List FileId) (ys : List (List ℕ)) → zip xs (take (length xs) ys) ≡ zip xs ys
    zip_front [] ys = refl
    zip_front (x ∷ xs) [] = refl
    zip_front (x ∷ xs) (y ∷ ys) = ap (λ l. (x, y) ∷ l) (zip_front xs ys)

-- what is read where the bytes are the texts of the files of a list
pub read_first : (at : Stage) (bytes : List ℕ) (files : List FileId) (texts : List (List ℕ))
    (made : Made) → files ≡ stage_makes at → texts_at (last_heads files) bytes ≡ Some texts
    → made ≡ made_of files texts → Some made ≡ read_made at bytes
read_first at bytes files texts made own found is =
    sym (first_made at bytes made
    (ap (made_with bytes) (sym own) ∙ ap (option_map (made_of files)) found ∙ ap Some (sym is)))

-- where they are none of the first list, and no other list is left, nothing is read
pub read_none : (at : Stage) (bytes : List ℕ) (files : List FileId) (file : Option FileId)
    → files ≡ stage_makes at → texts_at (last_heads files) bytes ≡ None
    → drop 1 (made_lists at) ≡ map (λ file. file ∷ []) (option_to_list file)
    → file ≡ None → None ≡ read_made at bytes
read_none at bytes files file own none lists is =
    ap (λ (l : List (List FileId)). slice_get (filter_map (made_with bytes) l) 0)
    (sym (lists ∙ ap (λ f. map (λ file. file ∷ []) (option_to_list f)) is))
    ∙ later_made at bytes (ap (made_with bytes) (sym own) ∙ ap (option_map (made_of files)) none)

module _ (at : Stage) (bytes : List ℕ) (files : List FileId) (found : Option FileId) (file : FileId)
    (own : files ≡ stage_makes at) (none : texts_at (last_heads files) bytes ≡ None)
    (lists : drop 1 (made_lists at) ≡ map (λ file. file ∷ []) (option_to_list found))
    (is : found ≡ Some file) where
  later : read_made at bytes ≡ slice_get (filter_map (made_with bytes) ((file ∷ []) ∷ [])) 0
  later =
      sym (later_made at bytes (ap (made_with bytes) (sym own) ∙ ap (option_map (made_of files)) none))
      ∙ ap (λ (l : List (List FileId)). slice_get (filter_map (made_with bytes) l) 0)
      (lists ∙ ap (λ f. map (λ file. file ∷ []) (option_to_list f)) is)

  -- the other list is read
  pub read_later : (texts : List (List ℕ)) (made : Made)
      → texts_at (last_heads (file ∷ [])) bytes ≡ Some texts → made ≡ made_of (file ∷ []) texts
      → Some made ≡ read_made at bytes
  read_later texts made some made_is = grind (arith, later, option_map, slice_get)

  -- or not
  pub read_neither : texts_at (last_heads (file ∷ [])) bytes ≡ None → None ≡ read_made at bytes
  read_neither not = grind (arith, later, option_map, slice_get)

-- the texts at places, where bytes and heads are these
pub texts_in : {X : Type 0} (f : List ℕ → X → List (List ℕ)) (bytes own : List ℕ) (heads other : List (List ℕ))
    (found : Option X) (x : X) → own ≡ bytes → heads ≡ other → found ≡ Some x
    → option_map (f own) found ≡ texts_at heads own → texts_at other bytes ≡ Some (f bytes x)
texts_in f bytes own heads other found x same heads_are some is = grind arith

pub no_texts_in : {X : Type 0} (f : List ℕ → X → List (List ℕ)) (bytes own : List ℕ) (heads other : List (List ℕ))
    (found : Option X) → own ≡ bytes → heads ≡ other → found ≡ None
    → option_map (f own) found ≡ texts_at heads own → texts_at other bytes ≡ None
no_texts_in f bytes own heads other found same heads_are none is =
    (λ j. texts_at (sym heads_are j) (sym same j)) ∙ sym is ∙ ap (option_map (f own)) none
