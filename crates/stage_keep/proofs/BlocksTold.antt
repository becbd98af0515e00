-- Blocks are read back, and what is read are blocks.
use Rattle.plan_num.proofs.Common.{◌≡◌, ℕ, ◌<◌, ◌+◌, ◌^◌, [], ◌∷◌, ◌++◌, length, map, refl, ap, sym}
use Rattle.plan_num.proofs.Common.{subst, ◌∙◌, arith, nat_le, suc, Option, Some, None, option_map}
use Rattle.plan_num.proofs.Common.{option_and_then, slice_get, append_assoc, take-append-drop}
use Rattle.plan_num.proofs.Common.{Contains, cons_option, filter_map, flat_map, range_with_len}
use Rattle.plan_num.proofs.Common.{nat_tests, append_cancel_left, length-append, length-take-le}
use Rattle.plan_num.proofs.Common.{same_Some, bytes_eq-Decides, take-append_seam}
use Rattle.std.proofs.Common.{List}
use Rattle.stage_keep.specs.Entries.{Block, block_bytes, last_line, opening}
use Rattle.stage_keep.specs.EntryReading.{behind, block_at, block_of_size, cut, texts_at}
use Rattle.stage_keep.proofs.Blocks.{block_is, drop_front, front_back, front_is, spread_line}
use Rattle.stage_keep.proofs.EntriesApart.{sizes, tail_same}
use Rattle.stage_keep.proofs.Reading.{block_some}

same_size : (head : List ℕ) (n m : ℕ) (a b : List ℕ) → n < 2 ^ 64 → m < 2 ^ 64
    → opening head n ++ a ≡ opening head m ++ b → n ≡ m
same_size head n m a b small low e =
    grind (arith, sizes, tail_same, append_cancel_left, spread_line)

cut_front : (text rest : List ℕ) → cut (length text) (text ++ rest) ≡ Some (text, rest)
cut_front text rest = grind (arith, length-append, take-append_seam, drop_front, nat_le, nat_tests)

-- a block is read back
pub block_back : (head text rest : List ℕ)
    → length (block_bytes (record { head = head; text = text }) ++ rest) < 2 ^ 64
    → block_at head (block_bytes (record { head = head; text = text }) ++ rest) ≡ Some (text, rest)
block_back head text rest short =
    let line = opening head (length text) in
    let whole = append_assoc line text rest in
    let low : length text < 2 ^ 64 = omega (arith, short, length-append (line ++ text) rest, length-append line text) in
    block_is head ((line ++ text) ++ rest) short (length text)
    (λ n more small at. same_size head n (length text) more (text ++ rest) small low (sym at ∙ whole))
    ∙ ap (λ (bytes : List ℕ). block_of_size head bytes (length text)) whole
    ∙ ap (option_and_then (cut (length text))) (front_is line (text ++ rest))
    ∙ cut_front text rest

abbrev pub texts_of : List Block → List (List ℕ)
texts_of blocks = map (λ block. block.text) blocks

abbrev pub heads_in : List Block → List (List ℕ)
heads_in blocks = map (λ block. block.head) blocks

-- and so are blocks behind one another
pub texts_back : (blocks : List Block) → length (flat_map block_bytes blocks ++ last_line) < 2 ^ 64
    → texts_at (heads_in blocks) (flat_map block_bytes blocks ++ last_line) ≡ Some (texts_of blocks)
unfolding texts_at
texts_back [] short = refl
texts_back (b ∷ blocks) short =
    let more = flat_map block_bytes blocks ++ last_line in
    let whole = append_assoc (block_bytes b) (flat_map block_bytes blocks) last_line in
    let less : length (block_bytes b ++ more) < 2 ^ 64 = subst (λ (l : List ℕ). length l < 2 ^ 64) whole short in
    ap (λ (bytes : List ℕ). texts_at (b.head ∷ heads_in blocks) bytes) whole
    ∙ block_some b.head (heads_in blocks) (block_bytes b ++ more) b.text more
    (block_back b.head b.text more less)
    ∙ ap (option_map (λ (texts : List (List ℕ)). b.text ∷ texts))
    (texts_back blocks (omega (arith, less, length-append (block_bytes b) more)))

-- ---- what is read are blocks

-- what is found first is found at an item
pub found_in : {X Y : Type 0} (f : Y → Option X) (x : X) (list : List Y)
    → slice_get (filter_map f list) 0 ≡ Some x
    → (y : Y) × Contains list y × (f y ≡ Some x)
found_in f x [] is = cc
found_in {X} {Y} f x (y ∷ list) is = by (f y) refl is (found_in f x list)
  where
    by : (found : Option X) → f y ≡ found
        → slice_get (cons_option found (filter_map f list)) 0 ≡ Some x
        → (slice_get (filter_map f list) 0 ≡ Some x
        → (z : Y) × Contains list z × (f z ≡ Some x))
        → (z : Y) × Contains (y ∷ list) z × (f z ≡ Some x)
    by None none is more =
        let later = more is in
        (later.0, (suc later.1.0, omega (arith, later.1.1), later.1.2), later.2)
    by (Some z) some is more = (y, (0, omega arith, refl), some ∙ is)

-- what is cut off at the front of bytes
cut_told : (size : ℕ) (rest text more : List ℕ) → cut size rest ≡ Some (text, more)
    → (size ≡ length text) × (rest ≡ text ++ more)
cut_told size rest text more = grind (
  arith,
  nat_le,
  nat_tests,
  same_Some,
  length-take-le,
  take-append-drop,
)

-- a block that is read stands there
pub block_told : (head bytes text more : List ℕ) → block_at head bytes ≡ Some (text, more)
    → bytes ≡ block_bytes (record { head = head; text = text }) ++ more
block_told head bytes text more found =
    let at = found_in (block_of_size head bytes) (text, more) (range_with_len 0 (length bytes)) found in
    by at.0 (behind (opening head at.0) bytes) refl at.2
  where
    by : (n : ℕ) (rest : Option (List ℕ)) → behind (opening head n) bytes ≡ rest
        → option_and_then (cut n) rest ≡ Some (text, more)
        → bytes ≡ block_bytes (record { head = head; text = text }) ++ more
    by n None is cut = cc
    by n (Some rest) is cut =
        let told = cut_told n rest text more cut in
        front_back (opening head n) bytes rest is
        ∙ ap (λ (r : List ℕ). opening head n ++ r) told.1
        ∙ ap (λ k. opening head k ++ (text ++ more)) told.0
        ∙ sym (append_assoc (opening head (length text)) text more)

-- blocks of heads and texts, as many as there are both
unfoldable pub blocks_of : List (List ℕ) → List (List ℕ) → List Block
blocks_of [] texts = []
blocks_of (head ∷ heads) [] = []
blocks_of (head ∷ heads) (text ∷ texts) =
    record { head = head; text = text } ∷ blocks_of heads texts

-- texts that are read stand there, each under its head
pub texts_told : (heads : List (List ℕ)) (bytes : List ℕ) (texts : List (List ℕ))
    → texts_at heads bytes ≡ Some texts
    → (length texts ≡ length heads)
    × (bytes ≡ flat_map block_bytes (blocks_of heads texts) ++ last_line)
unfolding texts_at blocks_of
texts_told [] bytes texts = grind (arith, same_Some, bytes_eq-Decides)
texts_told (head ∷ heads) bytes texts = by (block_at head bytes) refl
    (λ more. texts_told heads more)
  where
    later : (text more : List ℕ) (found : Option (List (List ℕ))) → texts_at heads more ≡ found
        → block_at head bytes ≡ Some (text, more)
        → ((some : List (List ℕ)) → texts_at heads more ≡ Some some
        → (length some ≡ length heads)
        × (more ≡ flat_map block_bytes (blocks_of heads some) ++ last_line))
        → option_map (λ (all : List (List ℕ)). text ∷ all) found ≡ Some texts
        → (length texts ≡ suc (length heads))
        × (bytes ≡ flat_map block_bytes (blocks_of (head ∷ heads) texts) ++ last_line)
    later text more None none at each is = cc
    later text more (Some some) is at each found =
        let told = each some is in
        let same = same_Some (text ∷ some) texts found in
        let all : bytes ≡ flat_map block_bytes (blocks_of (head ∷ heads) (text ∷ some)) ++ last_line =
        block_told head bytes text more at
        ∙ ap (λ (m : List ℕ). block_bytes (record { head = head; text = text }) ++ m) told.1
        ∙ sym (append_assoc (block_bytes (record { head = head; text = text }))
        (flat_map block_bytes (blocks_of heads some)) last_line) in (
          ap (λ (l : List (List ℕ)). length l) (sym same) ∙ ap suc told.0,
          subst (λ (l : List (List ℕ)). bytes ≡ flat_map block_bytes (blocks_of (head ∷ heads) l) ++ last_line)
              same all,
        )

    by : (block : Option (List ℕ × List ℕ)) → block_at head bytes ≡ block
        → ((more : List ℕ) (some : List (List ℕ)) → texts_at heads more ≡ Some some
        → (length some ≡ length heads)
        × (more ≡ flat_map block_bytes (blocks_of heads some) ++ last_line))
        → option_and_then (λ (b : List ℕ × List ℕ). option_map (λ all. b.0 ∷ all) (texts_at heads b.1)) block
        ≡ Some texts
        → (length texts ≡ suc (length heads))
        × (bytes ≡ flat_map block_bytes (blocks_of (head ∷ heads) texts) ++ last_line)
    by None none each is = cc
    by (Some block) at each is =
        later block.0 block.1 (texts_at heads block.1) refl at (each block.1) is
