-- The links of a trip in a list: how it grows, and that no link is left out between two of them.
use Rattle.plan_num.proofs.Common.{◌≡◌, ℕ, ℤ, pos, negsuc, zero, suc, ◌<◌, ◌≤◌, ◌+◌, List, [], ◌∷◌}
use Rattle.plan_num.proofs.Common.{◌++◌, length, slice_get, get_or, Option, Some, None, IfSome}
use Rattle.plan_num.proofs.Common.{refl, ap, sym, ◌∙◌, subst, arith, map, length-append}
use Rattle.plan_num.proofs.Common.{get_or_append_left, get_or-append_seam, none-some, same_Some}
use Rattle.plan_num.proofs.Common.{slice_get-get_or, slice_get_within}
use Rattle.link_plans.specs.Links.{Links}
use Rattle.link_plans.proofs.Linking.{by_number}
use Rattle.link_plans.proofs.Certified.{by_bound}
use Rattle.link_plans.specs.declared.link_table.Link.{Link}
use Rattle.link_plans.specs.LinkRows.{worth, and_link, end_of, link_to, reached, IsLinkOf, IsRow}
use Rattle.plan_num.proofs.Lists.{last_item, front_item}

-- what a link gains that is worth something
pub worth_is : (gain : Option ℤ) (number : ℕ) → worth gain ≡ Some number → gain ≡ Some (pos number)
worth_is None number e = absurd (none-some number e)
worth_is (Some (pos gain)) number e = ap (λ k. Some (pos k)) (same_Some gain number e)
worth_is (Some (negsuc less)) number e = absurd (none-some number e)

-- ---- one link more

pub pushed_item : {X : Type 0} {P : Type 0} (xs : List X) (x y : X) (k : ℕ)
    → slice_get (xs ++ x ∷ []) k ≡ Some y
    → (k < length xs → slice_get xs k ≡ Some y → P) → (k ≡ length xs → x ≡ y → P) → P
pushed_item [] x y zero e front last = last refl (same_Some x y e)
pushed_item [] x y (suc k) e front last = absurd (none-some y e)
pushed_item (z ∷ xs) x y zero e front last = front (omega arith) e
pushed_item (z ∷ xs) x y (suc k) e front last = pushed_item xs x y k e
    (λ bound. front (omega (arith, bound))) (λ same. last (ap suc same))

-- the link at a place of a list
pub item : (row : List Link) (k : ℕ) → k < length row → slice_get row k ≡ Some (get_or row k (link_to 0 0))
item row k within = slice_get-get_or row k (link_to 0 0) within

module _ (links : Links) (i below : ℕ) (row : List Link) (is : IsRow links i below row) where
  link_more : (link : Link) → IsLinkOf links i below link → IsLinkOf links i (below + 1) link
  link_more link it = grind arith

  row_kept : worth (links.gain i below) ≡ None → IsRow links i (below + 1) row
  row_kept none = record {
    rising = is.rising;
    right = λ k link e. link_more link (is.right k link e);
    all = λ j gain before e. grind (arith, by_number, none-some);
  }

  row_longer : (gain : ℕ) → worth (links.gain i below) ≡ Some gain → gain ≤ 1000000000000
      → IsRow links i (below + 1) (row ++ link_to below gain ∷ [])
  row_longer gain here small = record {
    rising = λ k m one other before e f. pushed_item row (link_to below gain) other m f
        (λ inside old. pushed_item row (link_to below gain) one k e
        (λ _ first. is.rising k m one other before first old)
        (λ same _. absurd (omega (arith, same, before, inside))))
        (λ same last. pushed_item row (link_to below gain) one k e
        (λ _ first.
        let low : one.to < below = (is.right k one first).within in grind arith)
        (λ also _. absurd (omega (arith, same, also, before))));
    right = λ k link e. pushed_item row (link_to below gain) link k e
        (λ _ old. link_more link (is.right k link old))
        (λ _ last. subst (IsLinkOf links i (below + 1)) last (record {
          within = omega arith;
          is = here;
          small = small;
        }));
    all = λ j other before e. by_number j below
        (λ same. (
          length row,
          last_item row (link_to below gain) ∙ ap Some (
              ap (link_to below) (same_Some gain other
              (sym here ∙ ap (λ k. worth (links.gain i k)) (sym same) ∙ e))
              ∙ ap (λ k. link_to k other) (sym same)
              ),
        ))
        (λ apart.
        let found = is.all j other (omega (arith, before, apart)) e in grind (arith, front_item));
  }

  pub row_more : (at_here : Option ℕ) (new : List Link) → at_here ≡ worth (links.gain i below)
      → IfSome at_here (λ gain. gain ≤ 1000000000000) → new ≡ and_link row below at_here
      → IsRow links i (below + 1) new
  row_more None new here small new_is = subst (IsRow links i (below + 1)) (sym new_is) (row_kept (sym here))
  row_more (Some gain) new here small new_is = grind (arith, row_longer)

-- ---- between two links

module _ (links : Links) (i : ℕ) (row : List Link) (is : IsRow links i links.count row) where
  pub reached_within : (k : ℕ) → reached links.count row k ≤ links.count
  reached_within k = split (slice_get row k) refl
    where
      split : (at_k : Option Link) → slice_get row k ≡ at_k → end_of links.count at_k ≤ links.count
      split None e = omega arith
      split (Some one) e = omega (arith, (is.right k one e).within)

  -- behind all links
  pub reached_last : (k : ℕ) → length row ≤ k → reached links.count row k ≡ links.count
  reached_last k past = grind (arith, slice_get, slice_get_within)

  -- no link leads to a trip before the one to which some link leads, and behind those of the links before
  row_gap : (k j : ℕ) → ((m : ℕ) (link : Link) → m < k → slice_get row m ≡ Some link → link.to < j)
      → j < reached links.count row k → worth (links.gain i j) ≡ None
  row_gap k j after before = split (worth (links.gain i j)) refl
    where
      later : (at_k : Option Link) → slice_get row k ≡ at_k → j < end_of links.count at_k
          → (m gain : ℕ) → k ≤ m → slice_get row m ≡ Some (link_to j gain) → ⊥
      later None e low m gain past there = none-some (get_or row k (link_to j gain))
          (sym e ∙ slice_get-get_or row k (link_to j gain)
          (omega (arith, past, slice_get_within row m (link_to j gain) there)))
      later (Some one) e low m gain past there = grind (arith, by_number, same_Some, slice_get)

      split : (at_j : Option ℕ) → worth (links.gain i j) ≡ at_j → worth (links.gain i j) ≡ None
      split None e = e
      split (Some gain) e =
          let found = is.all j gain (omega (arith, before, reached_within k)) e in
          by_bound found.0 k
          (λ sooner.
          let low : j < j = after found.0 (link_to j gain) sooner found.1 in grind arith)
          (λ past. absurd (later (slice_get row k) refl before found.0 gain past found.1))

  pub gap_first : (j : ℕ) → j < reached links.count row 0 → worth (links.gain i j) ≡ None
  gap_first j = row_gap 0 j (λ m link none there. absurd (omega (arith, none)))

  pub gap_next : (k : ℕ) (link : Link) → slice_get row k ≡ Some link → (j : ℕ) → link.to < j
      → j < reached links.count row (k + 1) → worth (links.gain i j) ≡ None
  gap_next k link e j past = grind (arith, row_gap, by_number, same_Some, slice_get)

  -- each link is passed
  pub reached_next : (k : ℕ) (link : Link) → slice_get row k ≡ Some link
      → link.to + 1 ≤ reached links.count row (k + 1)
  reached_next k link e = split (slice_get row (k + 1)) refl
    where
      split : (at_k : Option Link) → slice_get row (k + 1) ≡ at_k → link.to + 1 ≤ end_of links.count at_k
      split None f = omega (arith, (is.right k link e).within)
      split (Some other) f = omega (arith, is.rising k (k + 1) link other (omega arith) e f)

-- one trip's list more
pub lists_more : {X Y : Type 0} (items : X → List Y) (Q : ℕ → List Y → Type 0) (lists : List X)
    (list : X) (new : List X)
    (n : ℕ) → new ≡ lists ++ list ∷ [] → length (map items lists) ≡ n
    → ((i : ℕ) → i < n → Q i (get_or (map items lists) i [])) → Q n (items list)
    → (length (map items new) ≡ n + 1) × ((i : ℕ) → i < n + 1 → Q i (get_or (map items new) i []))
lists_more {X} {Y} items Q lists list new n new_is size each one = (
  ap length whole ∙ length-append (map items lists) (items list ∷ []) ∙ ap (λ k. k + 1) size,
  (λ i bound. subst (λ all. Q i (get_or all i [])) (sym whole) (at_number i bound)),
)
  where
    map_more : (xs : List X) → map items (xs ++ list ∷ []) ≡ map items xs ++ items list ∷ []
    map_more [] = refl
    map_more (x ∷ xs) = ap (λ rest. items x ∷ rest) (map_more xs)

    whole : map items new ≡ map items lists ++ items list ∷ []
    whole = ap (map items) new_is ∙ map_more lists

    at_number : (i : ℕ) → i < n + 1 → Q i (get_or (map items lists ++ items list ∷ []) i [])
    at_number i bound = grind (arith, by_number, get_or, get_or-append_seam, get_or_append_left)
