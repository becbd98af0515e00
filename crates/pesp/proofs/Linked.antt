-- The activities at each event, noted one after the other.
use Rattle.plan_num.proofs.Common.{◌≡◌, ◌≢◌, ◌∙◌, ◌⊎◌, inl, inr, ℕ, ◌+◌, ◌<◌, true, List, [], ◌∷◌}
use Rattle.plan_num.proofs.Common.{◌++◌, length, get_or, slice_get, Some, Contains, ap, sym, subst}
use Rattle.plan_num.proofs.Common.{arith, cases_eq, cases_lt, false≢true, length-set}
use Rattle.plan_num.proofs.Common.{get_or-set_same, get_or-set_other, Contains-append_left}
use Rattle.plan_num.proofs.Common.{Contains-get_or, Contains-push, Contains-push_cases}
use Rattle.plan_num.proofs.Common.{get_or_from_slice_get, slice_get_within, same_Some}
use Rattle.pesp.specs.declared.activity.PespActivity.{PespActivity}
use Rattle.pesp.specs.Timetables.{IsActivity, Problem}
use Rattle.pesp.specs.Revising.{AreLinks, AreLinksAt, NotesActivity, NotesAt, is_free}

-- ---- one index more at an event

module _ (rows new : List (List ℕ)) (event index : ℕ) (is : NotesAt event index rows new)
    (here : event < length rows) where
  own_row : get_or new event [] ≡ get_or rows event [] ++ index ∷ []
  own_row = ap (λ (some : List (List ℕ)). get_or some event []) is
      ∙ get_or-set_same rows event (get_or rows event [] ++ index ∷ []) [] here

  other_row : (other : ℕ) → other ≢ event → get_or new other [] ≡ get_or rows other []
  other_row other apart =
      ap (λ (some : List (List ℕ)). get_or some other []) is
      ∙ get_or-set_other rows event other (get_or rows event [] ++ index ∷ []) [] apart

  noted_size : length new ≡ length rows
  noted_size = ap length is ∙ length-set rows event (get_or rows event [] ++ index ∷ [])

  noted_there : Contains (get_or new event []) index
  noted_there = subst (λ row. Contains row index) (sym own_row)
      (Contains-push (get_or rows event []) index)

  noted_keeps : (other x : ℕ) → Contains (get_or rows other []) x → Contains (get_or new other []) x
  noted_keeps other x there =
      elim (cases_eq other event) as (λ h. Contains (get_or new other []) x) [
        | inl same ↦
            subst (λ at. Contains (get_or new at []) x) (sym same)
            (subst (λ row. Contains row x) (sym own_row)
            (Contains-append_left (get_or rows event []) (index ∷ []) x
            (subst (λ at. Contains (get_or rows at []) x) same there)))
        | inr apart ↦ subst (λ row. Contains row x) (sym (other_row other apart)) there
      ]

  noted_from : (other x : ℕ) → Contains (get_or new other []) x
      → Contains (get_or rows other []) x ⊎ (index ≡ x)
  noted_from other x there = elim (cases_eq other event) as
      (λ h. Contains (get_or rows other []) x ⊎ (index ≡ x)) [
        | inl same ↦
            let in_own = subst (λ row. Contains row x) own_row
            (subst (λ at. Contains (get_or new at []) x) same there) in
            elim (Contains-push_cases (get_or rows event []) index x in_own) [
              | inl old ↦ inl (subst (λ at. Contains (get_or rows at []) x) (sym same) old)
              | inr fresh ↦ inr fresh
            ]
        | inr apart ↦ inl (subst (λ row. Contains row x) (other_row other apart) there)
      ]

-- ---- the activities so far

module _ (problem : Problem) (count : ℕ) (activity : PespActivity) (rows new : List (List ℕ))
    (at : slice_get problem.activities count ≡ Some activity) (sound : IsActivity problem.events
    activity)
    (so : AreLinks problem count rows) where
  free_more : is_free problem.period activity ≡ true → new ≡ rows → AreLinks problem (count + 1) new
  free_more free same = subst (AreLinks problem (count + 1)) (sym same) (record {
    size = so.size;
    within = λ event index there. let low = so.within event index there in omega (arith, low);
    all = λ index other is low bound. elim (cases_lt index count) [
      | inl before ↦ so.all index other is before bound
      | inr last ↦
          let own : index ≡ count = omega (arith, low, last) in
          let same = same_Some _ _ (sym at ∙ ap (slice_get problem.activities) (sym own) ∙ is) in
          absurd (false≢true (sym bound ∙ sym (ap (is_free problem.period) same) ∙ free))
    ];
  })

  module _ (first : List (List ℕ)) (one : NotesAt activity.from count rows first)
      (two : NotesAt activity.to count first new) where
    from_in : activity.from < length rows
    from_in = omega (arith, sound.from, so.size)

    to_in : activity.to < length first
    to_in = omega (arith, sound.to, so.size, noted_size rows first activity.from count one from_in)

    kept : (event x : ℕ) → Contains (get_or rows event []) x → Contains (get_or new event []) x
    kept event x there = noted_keeps first new activity.to count two to_in event x
        (noted_keeps rows first activity.from count one from_in event x there)

    own : (event x : ℕ) → Contains (get_or new event []) x → x < count + 1
    own event x there = elim (noted_from first new activity.to count two to_in event x there) [
      | inr same ↦ omega (arith, same)
      | inl before ↦ elim (noted_from rows first activity.from count one from_in event x before) [
        | inr same ↦ omega (arith, same)
        | inl old ↦ (let low = so.within event x old in omega (arith, low))
      ]
    ]

    bound_more : AreLinks problem (count + 1) new
    bound_more = record {
      size = grind (arith, noted_size, to_in, from_in);
      within = own;
      all = λ index other is low bound. elim (cases_lt index count) [
        | inl before ↦
            let both = so.all index other is before bound in
            (kept other.from index both.0, kept other.to index both.1)
        | inr last ↦
            let here : index ≡ count = omega (arith, low, last) in
            let same = same_Some _ _ (sym at ∙ ap (slice_get problem.activities) (sym here) ∙ is) in
            subst (λ index. Contains (get_or new other.from []) index
            × Contains (get_or new other.to []) index)
            (sym here)
            (subst (λ (other : PespActivity). Contains (get_or new other.from []) count
            × Contains (get_or new other.to []) count) same (
              noted_keeps first new activity.to count two to_in activity.from count
                  (noted_there rows first activity.from count one from_in),
              noted_there first new activity.to count two to_in,
            ))
      ];
    }

  pub links_more : NotesActivity problem.period activity count rows new
      → AreLinks problem (count + 1) new
  links_more (inl same) = free_more same.0 same.1
  links_more (inr noted) = bound_more noted.0 noted.1 noted.2

-- those at an event
pub links_at : (problem : Problem) (event : ℕ) (rows : List (List ℕ)) (indexes : List ℕ)
    → AreLinks problem (length problem.activities) rows → slice_get rows event ≡ Some indexes
    → AreLinksAt problem event indexes
links_at problem event rows indexes so at = record {
  within = λ k d low. so.within event _
      (subst (λ row. Contains row (get_or indexes k d)) (sym row) (Contains-get_or indexes k d
      low));
  from = λ index activity is bound own.
      subst (λ row. Contains row index) (ap (λ event. get_or rows event []) own ∙ row)
      (so.all index activity is (slice_get_within problem.activities index activity is) bound).0;
  to = λ index activity is bound own.
      subst (λ row. Contains row index) (ap (λ event. get_or rows event []) own ∙ row)
      (so.all index activity is (slice_get_within problem.activities index activity is) bound).1;
}
  where
    row : get_or rows event [] ≡ indexes
    row = get_or_from_slice_get rows event indexes [] at
