-- Changes of sets of times, and what they say of the sets before them.
use Rattle.plan_num.proofs.Common.{◌≡◌, ◌∙◌, ℕ, ◌<◌, List, [], ◌∷◌, ◌++◌, get_or, length, reverse}
use Rattle.plan_num.proofs.Common.{refl, ap, sym, subst, arith, All, get_or-append_seam}
use Rattle.plan_num.proofs.Common.{get_or_append_left, length_push, reverse-append}
use Rattle.bit_rows.specs.Bits.{with_word}
use Rattle.pesp.specs.declared.time_sets.Branch.{Branch}
use Rattle.pesp.specs.declared.time_sets.Change.{Change}
use Rattle.pesp.specs.declared.time_sets.Change.TheVariants as change
use Rattle.pesp.specs.Marks.{Marks, Saved, Tracked, saved_by}
use Rattle.pesp.proofs.MarkBits.{word_again}

pub last_first : {X : Type 0} (xs : List X) (x : X) → reverse (xs ++ x ∷ []) ≡ x ∷ reverse xs
last_first xs x = reverse-append xs (x ∷ [])

pub saved_replaced : (sets : Marks) (changes : List Change) (place word other : ℕ)
    → word ≡ get_or sets.words place 0
    → saved_by (with_word sets place other) (reverse (changes ++ change.Replaced place word ∷ []))
    ≡ saved_by sets (reverse changes)
unfolding saved_by
saved_replaced sets changes place word other was =
    ap (saved_by (with_word sets place other)) (last_first changes (change.Replaced place word))
    ∙ ap (λ sets. saved_by sets (reverse changes)) (word_again sets place word other was)

pub saved_branched : (sets : Marks) (changes : List Change) (branch : Branch)
    → saved_by sets (reverse (changes ++ change.Branched branch ∷ []))
    ≡ record { sets = sets; branch = branch } ∷ saved_by sets (reverse changes)
unfolding saved_by
saved_branched sets changes branch =
    ap (saved_by sets) (last_first changes (change.Branched branch))

pub none_saved : (sets : Marks) → saved_by sets [] ≡ []
unfolding saved_by
none_saved sets = refl

-- ---- what is left of the changes behind the last one

pub popped_replaced : (sets now : Marks) (all rest : List Change) (last : Change) (place word : ℕ)
    → all ≡ rest ++ last ∷ [] → last ≡ change.Replaced place word
    → now ≡ with_word sets place word
    → saved_by now (reverse rest) ≡ saved_by sets (reverse all)
unfolding saved_by
popped_replaced sets now all rest last place word is replaced same =
    ap (λ now. saved_by now (reverse rest)) same
    ∙ sym (ap (λ all. saved_by sets (reverse all)) is ∙ ap (saved_by sets) (last_first rest last)
    ∙ ap (λ last. saved_by sets (last ∷ reverse rest)) replaced)

pub popped_branched : (sets : Marks) (all rest : List Change) (last : Change) (branch : Branch)
    → all ≡ rest ++ last ∷ [] → last ≡ change.Branched branch
    → saved_by sets (reverse all)
    ≡ record { sets = sets; branch = branch } ∷ saved_by sets (reverse rest)
unfolding saved_by
popped_branched sets all rest last branch is branched =
    ap (λ all. saved_by sets (reverse all)) is ∙ ap (saved_by sets) (last_first rest last)
    ∙ ap (λ last. saved_by sets (last ∷ reverse rest)) branched

-- where nothing is left, nothing was saved
pub none_left : (sets : Marks) (all : List Change) → length all ≡ 0
    → saved_by sets (reverse all) ≡ []
unfolding saved_by
none_left sets [] none = refl
none_left sets (change ∷ all) none = absurd (omega (arith, none))

-- what holds of all holds of the last one and of the others
pub others_hold : {X : Type 0} (P : X → Type 0) (all rest : List X) (last : X)
    → all ≡ rest ++ last ∷ [] → All P all → All P rest
others_hold P all rest last is holds = grind (arith, length_push, get_or_append_left)

pub last_holds : {X : Type 0} (P : X → Type 0) (all rest : List X) (last : X)
    → all ≡ rest ++ last ∷ [] → All P all → P last
last_holds P all rest last is holds =
    let both = subst (All P) is holds in
    let within : length rest < length (rest ++ last ∷ []) = omega (arith, length_push rest last) in
    subst P (get_or-append_seam rest last [] last) (both (length rest) last within)

-- ---- the views of sets behind a change

abbrev pub tracked : Marks → List Saved → Tracked
tracked sets saved = record { sets = sets; saved = saved }

pub replaced_view : (sets now : Marks) (changes more : List Change) (place word other : ℕ)
    → word ≡ get_or sets.words place 0
    → more ≡ changes ++ change.Replaced place word ∷ []
    → now ≡ with_word sets place other
    → tracked now (saved_by now (reverse more))
    ≡ tracked (with_word sets place other) (saved_by sets (reverse changes))
replaced_view sets now changes more place word other was is same =
    (λ i. tracked (same i) (saved_by (same i) (reverse (is i))))
    ∙ ap (tracked (with_word sets place other))
    (saved_replaced sets changes place word other was)

pub branched_view : (sets : Marks) (changes more : List Change) (branch : Branch)
    → more ≡ changes ++ change.Branched branch ∷ []
    → tracked sets (saved_by sets (reverse more))
    ≡ tracked sets (record { sets = sets; branch = branch } ∷ saved_by sets (reverse changes))
branched_view sets changes more branch is =
    ap (tracked sets)
    (ap (λ more. saved_by sets (reverse more)) is ∙ saved_branched sets changes branch)
