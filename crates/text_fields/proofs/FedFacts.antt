-- What csv is given of the lines at the front of a text.
use Rattle.plan_num.proofs.Common.{◌≡◌, ◌≢◌, ℕ, ◌+◌, ◌-◌, ◌<◌, ◌≤◌, List, [], ◌∷◌, ◌++◌, length}
use Rattle.plan_num.proofs.Common.{take, drop, get_or, refl, ap, sym, ◌∙◌, Bool, true, false, eqb}
use Rattle.plan_num.proofs.Common.{All, arith, append_assoc, append-nil, length-append, length-take}
use Rattle.plan_num.proofs.Common.{cond, ne_eqb, eqb-true, add-one, drop-cons, get_or-take}
use Rattle.plan_num.proofs.Common.{length-drop, filter, ltb, ◌||◌, one-add, suc, min, onto_first}
use Rattle.plan_num.proofs.Common.{position_or_len, eqb-false, false≢true, lt-ltb}
use Rattle.plan_num.proofs.Common.{get_or-append-add, take-append-drop, take_rest, All-cons}
use Rattle.plan_num.proofs.Common.{All-head, All-push, All-tail, fails_before_first, slice_split_at}
use Rattle.plan_num.proofs.Common.{slice_split_none}
use Rattle.std.proofs.Math.Seq.{take-suc}
use Rattle.std.proofs.lemmas.List.Sums.{passes_at_first}
use Rattle.text_fields.specs.Rows.{before_comment, has_byte, parts_of}
use Rattle.text_fields.specs.Told.{begins, given, handed, is_odd, is_told}
use Rattle.text_fields.specs.Handed.{AreLines, Stops, fed}
use Rattle.text_fields.proofs.GivenFacts.{given_first, given_none, same_given}
use Rattle.text_fields.proofs.HandedLines.{handed_even, handed_none, handed_odd, handed_plain}
use Rattle.text_fields.proofs.HandedLines.{handed_front, handed_signed, line_plain, not_signed}
use Rattle.text_fields.proofs.SplitFacts.{onto, onto_byte, onto_nothing}

abbrev is_feed : ℕ → Bool
is_feed byte = eqb byte 10

abbrev IsBare : List ℕ → Type 0
IsBare line = All (λ byte. byte ≢ 35) line

pub fed_first : (line : List ℕ) (parts : List (List ℕ))
    → fed (line ∷ parts) ≡ line ++ 10 ∷ fed parts
unfolding fed
fed_first line parts = refl

-- what csv is given of some parts of a text
abbrev fed_of : List (List ℕ) → List ℕ
fed_of parts = fed (given false parts)

-- a line that is handed out as it stands, before others
fed_plain : (line : List ℕ) (parts : List (List ℕ)) → IsBare line → length line < 4096
    → fed_of ((line ++ []) ∷ parts) ≡ line ++ 10 ∷ fed_of parts
fed_plain line parts bare short = grind (
  arith,
  append-nil,
  given_first,
  not_signed,
  handed_plain,
  fed_first,
)

-- ---- lines without a comment, and the front of one more

module _ (tail left : List ℕ) (Ends : List ℕ → Type 0)
    (after : (line front : List ℕ) → Ends (line ++ 10 ∷ front) → Ends front)
    (last : (line : List ℕ) → IsBare line → length line < 4096 → Ends line
    → fed_of (onto line (parts_of tail)) ≡ line ++ left) where
  -- lines, of which this is the front of the first, are handed out as they stand
  abbrev AreFed : List ℕ → List ℕ → Type 0
  AreFed line front = fed_of (onto line (parts_of (front ++ tail))) ≡ line ++ (front ++ left)

  fed_byte : (t : Bool) (line : List ℕ) (c : ℕ) (front : List ℕ) → eqb c 10 ≡ t
      → IsBare line → length line < 4096 → Ends (line ++ c ∷ front)
      → (Ends front → AreFed [] front)
      → (Ends ((line ++ c ∷ []) ++ front) → AreFed (line ++ c ∷ []) front)
      → AreFed line (c ∷ front)
  fed_byte true line c front e bare short ends next more = grind (
    arith,
    eqb-true,
    onto_nothing,
    fed_plain,
  )
  fed_byte false line c front e bare short ends next more = grind (arith, onto_byte, append_assoc)

  lines_fed : (line front : List ℕ) → IsBare line → IsBare front
      → length line + length front < 4096 → Ends (line ++ front) → AreFed line front
  lines_fed line [] bare more short ends = grind (arith, append-nil)
  lines_fed line (c ∷ front) bare more short ends =
      let first = All-head (λ byte. byte ≢ 35) c front more in
      let others = All-tail (λ byte. byte ≢ 35) c front more in
      fed_byte (eqb c 10) line c front refl bare (omega arith) ends
      (lines_fed [] front (λ k d h. absurd (omega arith)) others (omega arith))
      (lines_fed (line ++ c ∷ []) front (All-push (λ byte. byte ≢ 35) line c bare first) others
      (omega (arith, length-append line (c ∷ []))))

  pub all_fed : (front : List ℕ) → IsBare front → length front < 4096 → Ends front
      → fed_of (parts_of (front ++ tail)) ≡ front ++ left
  all_fed front bare short ends =
      ap fed_of (sym (onto_nothing is_feed (front ++ tail)))
      ∙ lines_fed [] front (λ k d h. absurd (omega arith)) bare (omega arith) ends

-- a text, cut at a line feed
front_cut : (text : List ℕ) (end : ℕ) → end < length text → get_or text end 0 ≡ 10
    → text ≡ take end text ++ 10 ∷ drop (end + 1) text
front_cut text end within feed = grind (arith, take-append-drop, drop-cons, add-one)

take_more : (text : List ℕ) (end : ℕ) → end < length text → get_or text end 0 ≡ 10
    → take (end + 1) text ≡ take end text ++ 10 ∷ []
take_more text end within feed =
    rw (add-one, take-suc text end 0 within) (rw feed refl)

-- lines up to a line feed are handed out as they stand
pub front_fed : (text : List ℕ) (end : ℕ) → end < length text → get_or text end 0 ≡ 10
    → end < 4096 → IsBare (take end text)
    → fed_of (parts_of text) ≡ take (end + 1) text
    ++ fed_of (parts_of (take (length text - (end + 1)) (drop (end + 1) text)))
front_fed text end within feed short bare =
    let front = take end text in
    let rest = drop (end + 1) text in
    ap (λ (all : List ℕ). fed_of (parts_of all)) (front_cut text end within feed)
    ∙ all_fed (10 ∷ rest) (10 ∷ fed_of (parts_of rest)) (λ line. Unit {0}) (λ line front ends. tt)
    (λ line bare short ends. fed_plain line (parts_of rest) bare short)
    front bare (omega (arith, length-take end text)) tt
    ∙ sym (append_assoc front (10 ∷ []) (fed_of (parts_of rest)))
    ∙ ap (λ (done : List ℕ). done ++ fed_of (parts_of rest)) (sym (take_more text end within feed))
    ∙ ap (λ (left : List ℕ). take (end + 1) text ++ fed_of (parts_of left))
    (sym (take_rest text (end + 1)))

stops_at : (text : List ℕ) (end : ℕ) → end ≡ position_or_len is_feed text → (rest : List ℕ)
    → drop end text ≡ rest → Stops rest
unfolding Stops
stops_at text end is [] left = tt
stops_at text end is (byte ∷ more) left =
    let within : end < length text = omega (arith, length-drop end text, ap length left) in
    let feed : is_feed (get_or text end 0) ≡ true = grind (arith, passes_at_first, within) in grind (
      arith,
      get_or,
      drop-cons,
      within,
      eqb-true,
    )

starts_with_feed : (text : List ℕ) (end : ℕ) → end ≡ position_or_len is_feed text
    → Stops (drop end text)
unfolding Stops
starts_with_feed text end is = stops_at text end is (drop end text) refl

-- so does what is left of a text from a line feed on
pub stops_rest : (text : List ℕ) (end : ℕ) → end ≡ position_or_len is_feed text
    → Stops (take (length text - end) (drop end text))
stops_rest text end is = rw (take_rest text end) (starts_with_feed text end is)

pub first_plain : (text : List ℕ) (end : ℕ) → end ≡ position_or_len is_feed text
    → All (λ byte. byte ≢ 10) (take end text)
first_plain text end is = grind (arith, length-take, get_or-take, eqb-false, fails_before_first)

feed_not : (line : List ℕ) → All (λ byte. byte ≢ 10) line → All (λ byte. is_feed byte ≡ false) line
feed_not line plain = λ k d h. ne_eqb _ 10 (plain k d h)

-- a line is the first part of a text, and its line feed is handed out after it
pub line_cut : (line rest : List ℕ) → All (λ byte. byte ≢ 10) line → Stops rest
    → (parts : List (List ℕ)) × (parts_of (line ++ rest) ≡ line ∷ parts)
    × (fed_of (parts_of rest) ≡ 10 ∷ fed_of parts)
unfolding Stops begins
line_cut line [] plain stops = grind (
  arith,
  append-nil,
  slice_split_none,
  feed_not,
  given_first,
  handed_none,
  fed_first,
)
line_cut line (byte ∷ rest) plain stops = (
  parts_of rest,
  slice_split_at is_feed line byte rest (feed_not line plain) (rw stops refl),
  rw stops (rw (given_first [] (parts_of rest), handed_none) (fed_first [] (given false (parts_of rest)))),
)

-- the parts of a text from a line feed on are those of the lines after it
pub parts_after : (line text : List ℕ) → Stops text → 0 < length text
    → All (λ byte. byte ≢ 10) line
    → parts_of (line ++ text) ≡ line ∷ parts_of (take (length text - 1) (drop 1 text))
unfolding Stops
parts_after line [] stops some plain = absurd (omega arith)
parts_after line (byte ∷ text) stops some plain =
    rw (take_rest (byte ∷ text) 1)
    (slice_split_at is_feed line byte text (feed_not line plain) (rw stops refl))

pub parts_alone : (line text : List ℕ) → length text ≡ 0 → All (λ byte. byte ≢ 10) line
    → parts_of (line ++ text) ≡ line ∷ []
parts_alone line [] none plain = grind (arith, append-nil, slice_split_none, feed_not)
parts_alone line (byte ∷ text) none plain = absurd (omega arith)

-- ---- the first line, where it is not among those

module _ (line : List ℕ) (parts all : List (List ℕ)) (is : all ≡ line ∷ parts) where
  -- a line feed alone is handed out for an empty one
  pub empty_fed : length line ≡ 0 → fed_of all ≡ 10 ∷ fed_of parts
  unfolding begins
  empty_fed none = grind (arith, given_first, handed_none, fed_first)

  -- the sign of a comment is handed out for a line that begins with it and those after it
  pub signed_fed : (left : List (List ℕ)) → begins line ≡ true → given true parts ≡ given false left
      → fed_of all ≡ 35 ∷ 10 ∷ fed_of left
  signed_fed left signed same = grind (arith, given_first, handed_signed, fed_first)

  -- and for one that csv is not to be given
  pub odd_fed : begins line ≡ false → is_odd line ≡ true → fed_of all ≡ 35 ∷ 10 ∷ fed_of parts
  odd_fed other odd = grind (arith, given_first, handed_odd, fed_first)

  -- what stands before a comment is handed out for any other
  pub told_fed : (rest : List ℕ) → begins line ≡ false → is_odd line ≡ false
      → fed_of (parts_of rest) ≡ 10 ∷ fed_of parts
      → fed_of all ≡ before_comment line ++ fed_of (parts_of rest)
  told_fed rest other plain after = grind (arith, given_first, handed_even, fed_first)

-- ---- lines without a comment, and what one more tells before it

told_front : (line front : List ℕ) → is_told (line ++ 10 ∷ front) ≡ true → is_told front ≡ true
unfolding is_told
told_front line [] told =
    let last : get_or (line ++ 10 ∷ []) (length (line ++ 10 ∷ []) - 1) 0 ≡ 10 =
    rw (ends line 10) (get_or-append-add line (10 ∷ []) 0 0) in grind (
      arith,
      false≢true,
      lt-ltb,
      length-append,
    )
  where
    ends : (line : List ℕ) (c : ℕ) → length (line ++ c ∷ []) - 1 ≡ length line + 0
    ends line c = omega (arith, length-append line (c ∷ []))
told_front line (c ∷ front) told =
    let same : length front ≡ length (c ∷ front) - 1 = omega arith in
    let last : get_or (line ++ 10 ∷ c ∷ front) (length (line ++ 10 ∷ c ∷ front) - 1) 0
    ≡ get_or (c ∷ front) (length (c ∷ front) - 1) 0 =
    rw (ends line front) (get_or-append-add line (10 ∷ c ∷ front) (suc (length front)) 0
    ∙ ap (λ n. get_or (c ∷ front) n 0) same) in
    let whole : ltb 0 (length (line ++ 10 ∷ c ∷ front)) ≡ true =
    lt-ltb 0 (length (line ++ 10 ∷ c ∷ front)) (omega (arith, length-append line (10 ∷ c ∷ front))) in
    rw (lt-ltb 0 (length (c ∷ front)) (omega arith)) (rw (last, whole) at told)
  where
    ends : (line front : List ℕ)
        → length (line ++ 10 ∷ c ∷ front) - 1 ≡ length line + suc (length front)
    ends line front = omega (arith, length-append line (10 ∷ c ∷ front))

-- a line that goes on with a comment, of which something is told
told_line : (line comment : List ℕ) (parts : List (List ℕ)) → IsBare line → length line < 4096
    → is_told line ≡ true → begins comment ≡ true
    → fed_of ((line ++ comment) ∷ parts) ≡ line ++ 10 ∷ fed_of parts
told_line line comment parts bare short told sign = grind (
  arith,
  handed_front,
  given_first,
  fed_first,
)

-- the comment at the front of a text
signed_tail : (text more : List ℕ) (place : ℕ) → text ≡ 35 ∷ more
    → place ≡ position_or_len is_feed text → begins (take place text) ≡ true
unfolding begins
signed_tail text more place is at = rw (at, is) (rw (one-add _) refl)

-- they are handed out as they stand up to the comment
comment_fed : (text : List ℕ) (at place : ℕ) → at < length text → at < 4096
    → get_or text at 0 ≡ 35 → IsBare (take at text) → is_told (take at text) ≡ true
    → place ≡ position_or_len is_feed (drop at text)
    → fed_of (parts_of text) ≡ take at text ++ fed_of (parts_of (drop place (drop at text)))
comment_fed text at place within short sign bare told is =
    let front = take at text in
    let tail = drop at text in
    let comment = take place tail in
    let rest = drop place tail in
    let cut = line_cut comment rest (first_plain tail place is) (starts_with_feed tail place is) in
    let whole : parts_of tail ≡ comment ∷ cut.0 =
    ap parts_of (sym (take-append-drop place tail)) ∙ cut.1 in
    let signed : begins comment ≡ true =
    signed_tail tail (drop (suc at) text) place
    (let cut = drop-cons text at 0 within in cut ∙ ap (λ byte. byte ∷ drop (suc at) text) sign)
    is in
    ap (λ (all : List ℕ). fed_of (parts_of all)) (sym (take-append-drop at text))
    ∙ all_fed tail (fed_of (parts_of rest)) (λ front. is_told front ≡ true) told_front
    (λ line bare short told. ap (λ parts. fed_of (onto line parts)) whole
    ∙ told_line line comment cut.0 bare short told signed
    ∙ ap (λ (left : List ℕ). line ++ left) (sym cut.2))
    front bare (omega (arith, length-take at text)) told

-- ---- by what stands before the first comment

module _ (text bare : List ℕ) (front : bare ≡ take (length bare) text)
    (free : IsBare bare) where
  within : length bare ≤ length text
  within = omega (arith, length-take (length bare) text, ap length front)

  bare_byte : (k d : ℕ) → k < length bare → get_or bare k d ≡ get_or text k d
  bare_byte k d before = grind (arith, get_or, get_or-take)

  pub feed_fed : (end : ℕ) → length bare ≤ 4096 → end < length bare → get_or bare end 0 ≡ 10
      → fed_of (parts_of text) ≡ take (end + 1) text
      ++ fed_of (parts_of (take (length text - (end + 1)) (drop (end + 1) text)))
  feed_fed end short before feed = grind (
    arith,
    front_fed,
    within,
    bare_byte,
    length-take,
    get_or-take,
  )

  pub bare_fed : (comment rest : List ℕ) (place : ℕ) → length bare < 4096
      → length bare < length text → get_or text (length bare) 0 ≡ 35 → is_told bare ≡ true
      → comment ≡ drop (length bare) text → place ≡ position_or_len is_feed comment
      → rest ≡ drop place comment
      → fed_of (parts_of text) ≡ bare ++ fed_of (parts_of rest)
  bare_fed comment rest place short more sign told tail at left = grind (arith, comment_fed)

-- the sign of a comment stands after what stands before it
pub bare_sign : (text bare : List ℕ) (room : ℕ) → bare ≡ before_comment (take room text)
    → IsBare bare × (length bare < room → length bare < length text
    → get_or text (length bare) 0 ≡ 35)
bare_sign text bare room is =
    let front = take room text in
    let place = position_or_len (λ byte. eqb byte 35) front in
    let long : length bare ≡ min place (length front) =
    ap length is ∙ length-take place front in (
      λ k d h. let before : k < place = omega (arith, long) in
          rw is (rw (get_or-take place front k d before)
          (eqb-false _ 35 (fails_before_first (λ byte. eqb byte 35) front k d before))),
      λ short more.
          let at : place ≡ length bare =
          omega (arith, long, length-take room text) in
          let sign : get_or front place 0 ≡ 35 =
          eqb-true _ 35 (passes_at_first (λ byte. eqb byte 35) front 0
          (omega (arith, length-take room text))) in
          sym (get_or-take room text (length bare) 0 short) ∙ rw at at sign,
    )

abbrev ArePlain : List (List ℕ) → Type 0
ArePlain parts = All (λ part. All (λ byte. byte ≢ 10) part) parts

plain_if : (t : Bool) (c : ℕ) (parts : List (List ℕ)) → eqb c 10 ≡ t → ArePlain parts
    → ArePlain (cond t ([] ∷ parts) (onto_first c parts))
plain_if true c parts e plain =
    All-cons (λ part. All (λ byte. byte ≢ 10) part) [] parts (λ k d h. absurd (omega arith)) plain
plain_if false c [] e plain = grind arith
plain_if false c (part ∷ parts) e plain =
    All-cons (λ part. All (λ byte. byte ≢ 10) part) (c ∷ part) parts
    (All-cons (λ byte. byte ≢ 10) c part (eqb-false c 10 e)
    (All-head (λ part. All (λ byte. byte ≢ 10) part) part parts plain))
    (All-tail (λ part. All (λ byte. byte ≢ 10) part) part parts plain)

-- no part of a text has a line feed
parts_plain : (text : List ℕ) → ArePlain (parts_of text)
parts_plain [] = grind arith
parts_plain (c ∷ text) = plain_if (eqb c 10) c (parts_of text) refl (parts_plain text)

lines_if : (signed t : Bool) (part : List ℕ) (parts : List (List ℕ))
    → (eqb (length part) 0 || begins part) ≡ t → All (λ byte. byte ≢ 10) part
    → ((signed : Bool) → ArePlain (given signed parts)) → ArePlain (given signed (part ∷ parts))
unfolding given
lines_if true true part parts e plain more = rw e (more true)
lines_if true false part parts e plain more =
    rw e (All-cons (λ part. All (λ byte. byte ≢ 10) part) (handed part) (given (begins part) parts)
    (line_plain part (is_odd part) refl plain) (more (begins part)))
lines_if false t part parts e plain more =
    All-cons (λ part. All (λ byte. byte ≢ 10) part) (handed part) (given (begins part) parts)
    (line_plain part (is_odd part) refl plain) (more (begins part))

lines_plain : (signed : Bool) (parts : List (List ℕ)) → ArePlain parts
    → ArePlain (given signed parts)
lines_plain signed [] plain = rw given_none (λ k d h. absurd (omega arith))
lines_plain signed (part ∷ parts) plain =
    lines_if signed (eqb (length part) 0 || begins part) part parts refl
    (All-head (λ part. All (λ byte. byte ≢ 10) part) part parts plain)
    (λ signed. lines_plain signed parts
    (All-tail (λ part. All (λ byte. byte ≢ 10) part) part parts plain))

-- the lines of a text that have a byte are what csv is given of them
pub lines_given : (text : List ℕ) → AreLines ([] ∷ given false (parts_of text))
    (given false (filter has_byte (parts_of text)))
lines_given text = grind (arith, All-cons, lines_plain, parts_plain, same_given)
