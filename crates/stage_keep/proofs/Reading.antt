-- Steps of reading an entry.
use Rattle.plan_num.proofs.Common.{◌≡◌, ℕ, ◌<◌, ◌≤◌, ◌+◌, ◌-◌, List, [], ◌∷◌, ◌++◌, length, map}
use Rattle.plan_num.proofs.Common.{take, drop, get_or, refl, ap, sym, ◌∙◌, arith, Option, Some}
use Rattle.plan_num.proofs.Common.{None, option_map, slice_get, append_assoc, if◌then◌else◌, codes}
use Rattle.plan_num.proofs.Common.{Bool, true, false, option_and_then, append-nil, drop-drop}
use Rattle.plan_num.proofs.Common.{cons_option, filter_map, zip, option_to_list, bytes_eq, take-map}
use Rattle.plan_num.proofs.Common.{get_or-drop, get_or-map, length-drop, map-append, take_all}
use Rattle.plan_num.proofs.Common.{take_more}
use Rattle.std.specs.List.{drop-map}
use Rattle.std.proofs.Math.ListN.{drop_of_length-le}
use Rattle.std.proofs.Math.Seq.{drop-cons}
use Rattle.tables.specs.declared.file_id.FileId.{FileId}
use Rattle.giv_files.specs.declared.made.Made.{Made}
use Rattle.giv_files.specs.declared.made.MadeFile.{MadeFile}
use Rattle.giv_files.specs.declared.stage.Stage.{Stage}
use Rattle.giv_files.proofs.Common.{made_lists, stage_inputs, stage_makes}
use Rattle.stage_keep.specs.Entries.{EntryParts, last_line}
use Rattle.stage_keep.specs.EntryReading.{block_at, entry_of, entry_with, made_file, made_with}
use Rattle.stage_keep.specs.EntryReading.{read_entry, read_made, texts_at}

-- one input more has its head
pub head_more : (files : List FileId) (i : ℕ) (d : FileId) → i < length files
    → map (λ _. codes "input") (take (i + 1) files)
    ≡ map (λ _. codes "input") (take i files) ++ codes "input" ∷ []
head_more files i d inside =
    ap (map (λ _. codes "input")) (take_more files i d inside)
    ∙ map-append (λ _. codes "input") (take i files) (get_or files i d ∷ [])

pub drop_at : {X : Type 0} (xs : List X) (i : ℕ) (d : X) → i < length xs
    → drop i xs ≡ get_or xs i d ∷ drop (i + 1) xs
drop_at xs i d inside = grind (arith, drop-cons, get_or)

-- one file more with its text
pub file_more : (files : List FileId) (texts : List (List ℕ)) (i : ℕ) (d : FileId)
    (made all : List MadeFile) → i < length files → i < length texts
    → made ++ map made_file (zip (drop i files) (drop i texts)) ≡ all
    → (made ++ record { file = get_or files i d; text = get_or texts i [] } ∷ [])
    ++ map made_file (zip (drop (i + 1) files) (drop (i + 1) texts)) ≡ all
file_more files texts i d made all inside within is = grind (arith, append_assoc, get_or, drop_at)

pub file_pushed : (files : List FileId) (texts : List (List ℕ)) (i : ℕ) (d : FileId)
    (made all new : List MadeFile) (text : List ℕ) → i < length files → i < length texts
    → text ≡ get_or texts i []
    → new ≡ made ++ record { file = get_or files i d; text = text } ∷ []
    → made ++ map made_file (zip (drop i files) (drop i texts)) ≡ all
    → new ++ map made_file (zip (drop (i + 1) files) (drop (i + 1) texts)) ≡ all
file_pushed files texts i d made all new text inside within own pushed is =
    grind (arith, get_or, file_more)

fused : (so_far : List (List ℕ)) (text : List ℕ) (found : Option (List (List ℕ)))
    → option_map (λ later. so_far ++ later) (option_map (λ later. text ∷ later) found)
    ≡ option_map (λ later. (so_far ++ text ∷ []) ++ later) found
fused so_far text None = refl
fused so_far text (Some later) = ap Some (sym (append_assoc so_far (text ∷ []) later))

pub block_some : (head : List ℕ) (heads : List (List ℕ)) (bytes text more : List ℕ)
    → block_at head bytes ≡ Some (text, more)
    → texts_at (head ∷ heads) bytes ≡ option_map (λ texts. text ∷ texts) (texts_at heads more)
unfolding texts_at
block_some head heads bytes text more is =
    ap (option_and_then (λ (block : List ℕ × List ℕ). option_map (λ texts. block.0 ∷ texts) (texts_at heads block.1)))
    is

block_none : (head : List ℕ) (heads : List (List ℕ)) (bytes : List ℕ)
    → block_at head bytes ≡ None → texts_at (head ∷ heads) bytes ≡ None
unfolding texts_at
block_none head heads bytes is =
    ap (option_and_then (λ (block : List ℕ × List ℕ). option_map (λ texts. block.0 ∷ texts) (texts_at heads block.1)))
    is

ended : (so_far : List (List ℕ)) (rest : List ℕ)
    → (if bytes_eq rest last_line then Some so_far else None)
    ≡ option_map (λ later. so_far ++ later) (texts_at [] rest)
unfolding texts_at
ended so_far rest = grind (arith, option_map, append-nil)

module _ (heads : List (List ℕ)) (i : ℕ) (so_far : List (List ℕ)) (rest : List ℕ)
    (all : Option (List (List ℕ)))
    (is : option_map (λ later. so_far ++ later) (texts_at (drop i heads) rest) ≡ all) where
  -- one text more
  pub text_more : (d text more : List ℕ) → i < length heads
      → block_at (get_or heads i d) rest ≡ Some (text, more)
      → option_map (λ later. (so_far ++ text ∷ []) ++ later) (texts_at (drop (i + 1) heads) more)
      ≡ all
  text_more d text more inside found =
      sym (fused so_far text (texts_at (drop (i + 1) heads) more))
      ∙ ap (option_map (λ later. so_far ++ later))
      (sym (block_some (get_or heads i d) (drop (i + 1) heads) rest text more found))
      ∙ ap (λ (hs : List (List ℕ)). option_map (λ later. so_far ++ later) (texts_at hs rest))
      (sym (drop_at heads i d inside))
      ∙ is

  -- no text more
  pub text_none : (d : List ℕ) → i < length heads → block_at (get_or heads i d) rest ≡ None
      → None ≡ all
  text_none d inside none = grind (arith, option_map, block_none, get_or, drop_at)

  -- all texts
  pub texts_end : length heads ≤ i
      → (if bytes_eq rest last_line then Some so_far else None) ≡ all
  texts_end past = grind (arith, ended, option_map, drop_of_length-le)

-- the first of the lists of files with which the bytes are an entry
pub first_found : (at : Stage) (bytes : List ℕ) (entry : EntryParts)
    → entry_with at bytes (stage_makes at) ≡ Some entry → read_entry at bytes ≡ Some entry
unfolding read_entry
first_found at bytes entry is = rw is refl

pub later_found : (at : Stage) (bytes : List ℕ) → entry_with at bytes (stage_makes at) ≡ None
    → slice_get (filter_map (entry_with at bytes) (drop 1 (made_lists at))) 0 ≡ read_entry at bytes
unfolding read_entry
later_found at bytes is = rw is refl

-- the entry that the bytes are with the one list that is left
pub one_left : (at : Stage) (bytes : List ℕ) (found : Option FileId) (file : FileId)
    → drop 1 (made_lists at) ≡ map (λ file. file ∷ []) (option_to_list found) → found ≡ Some file
    → entry_with at bytes (file ∷ [])
    ≡ slice_get (filter_map (entry_with at bytes) (drop 1 (made_lists at))) 0
one_left at bytes found file lists is =
    by (entry_with at bytes (file ∷ []))
    ∙ ap (λ (l : List (List FileId)). slice_get (filter_map (entry_with at bytes) l) 0)
    (sym (lists ∙ ap (λ f. map (λ file. file ∷ []) (option_to_list f)) is))
  where
    by : (found : Option EntryParts) → found ≡ slice_get (cons_option found []) 0
    by None = refl
    by (Some entry) = refl

pub first_made : (at : Stage) (bytes : List ℕ) (made : Made)
    → made_with bytes (stage_makes at) ≡ Some made → read_made at bytes ≡ Some made
unfolding read_made
first_made at bytes made is = rw is refl

pub later_made : (at : Stage) (bytes : List ℕ) → made_with bytes (stage_makes at) ≡ None
    → slice_get (filter_map (made_with bytes) (drop 1 (made_lists at))) 0 ≡ read_made at bytes
unfolding read_made
later_made at bytes is = rw is refl

-- a block that is found under another view
pub block_lacks : {B C : Type 0} (f : B → C) (found : Option B) (at : Option C) → found ≡ None
    → option_map f found ≡ at → at ≡ None
block_lacks f found at none is = sym is ∙ ap (option_map f) none

pub block_found : {B C : Type 0} (f : B → C) (found : Option B) (at : Option C) (block : B)
    → found ≡ Some block → option_map f found ≡ at → at ≡ Some (f block)
block_found f found at block some is = sym is ∙ ap (option_map f) some

pub ended_as : {X Y : Type 0} (f : X → Y) (x : X) (found : Option X) (b : Bool) (all : Option Y)
    → found ≡ (if b then Some x else None) → (if b then Some (f x) else None) ≡ all
    → option_map f found ≡ all
ended_as f x found true all e is = ap (option_map f) e ∙ is
ended_as f x found false all e is = ap (option_map f) e ∙ is

-- an entry by its parts
pub entry_by_parts : (at : Stage) (files : List FileId) (texts : List (List ℕ))
    (settings report : List ℕ) (inputs : List (List ℕ)) (made : List MadeFile)
    → settings ≡ get_or texts 0 []
    → inputs ≡ take (length (stage_inputs at)) (drop 1 texts)
    → made ≡ map made_file (zip files (drop (1 + length (stage_inputs at)) texts))
    → report ≡ get_or texts (1 + length (stage_inputs at) + length files) []
    → record { settings = settings; inputs = inputs; made = record { files = made; report = report } }
    ≡ entry_of at files texts
entry_by_parts at files texts settings report inputs made s i m r = grind arith

-- texts behind the first, under a view
module _ {B : Type 0} (f : B → List ℕ) (xs : List B) (n m : ℕ) (d : B)
    (enough : length xs ≡ 2 + n + m) where
  behind_first : take (length xs - 1) (drop 1 xs) ≡ drop 1 xs
  behind_first = take_all (length xs - 1) (drop 1 xs) (omega (arith, length-drop 1 xs))

  pub first_text : f (get_or xs 0 d) ≡ get_or (map f xs) 0 []
  first_text = sym (get_or-map f xs 0 d [] (omega (arith, enough)))

  pub front_texts : (front : List B) → front ≡ take n (take (length xs - 1) (drop 1 xs))
      → map f front ≡ take n (drop 1 (map f xs))
  front_texts front is =
      ap (map f) (is ∙ ap (take n) behind_first)
      ∙ sym (take-map f n (drop 1 xs))
      ∙ ap (take n) (sym (drop-map f 1 xs))

  pub back_texts : (back : List B) → back ≡ drop n (take (length xs - 1) (drop 1 xs))
      → map f back ≡ drop (1 + n) (map f xs)
  back_texts back is =
      ap (map f) (is ∙ ap (drop n) behind_first)
      ∙ sym (drop-map f n (drop 1 xs))
      ∙ ap (drop n) (sym (drop-map f 1 xs))
      ∙ drop-drop n 1 (map f xs)

  pub last_text : (back : List B) → back ≡ drop n (take (length xs - 1) (drop 1 xs))
      → f (get_or back m d) ≡ get_or (map f xs) (1 + n + m) []
  last_text back is =
      let long : length back ≡ length xs - 1 - n = ap (λ l. length l) (is ∙ ap (drop n) behind_first)
      ∙ length-drop n (drop 1 xs) ∙ ap (λ k. k - n) (length-drop 1 xs) in
      sym (get_or-map f back m d [] (omega (arith, long, enough)))
      ∙ ap (λ l. get_or l m []) (back_texts back is)
      ∙ get_or-drop (1 + n) (map f xs) m []
