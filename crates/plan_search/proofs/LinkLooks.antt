-- A look from a trip along its links, up to the place that the next link leads to.
use Rattle.plan_num.proofs.Common.{◌≡◌, ℕ, zero, suc, ◌<◌, ◌≤◌, ◌+◌, ◌-◌, false, List, length}
use Rattle.plan_num.proofs.Common.{slice_get, get_or, Option, Some, None, refl, ap, sym, ◌∙◌, subst}
use Rattle.plan_num.proofs.Common.{arith, false≢true}
use Rattle.link_plans.specs.declared.link_table.Link.{Link}
use Rattle.link_plans.proofs.Common.{Links, PotentialParts, at, end_of, link_to, reached, IsRow}
use Rattle.link_plans.proofs.Common.{slack_to, Covers, gap_first, gap_next, item, reached_last}
use Rattle.link_plans.proofs.Common.{reached_next, reached_within, gap_slack, link_covered}
use Rattle.link_plans.proofs.Common.{link_slack}
use Rattle.plan_search.specs.declared.near.Near.{Near}
use Rattle.plan_search.specs.Claims.{ClaimsParts, claim_at}
use Rattle.plan_search.specs.Growing.{looked, is_nearer, AreAsBefore, AreLooked}
use Rattle.plan_search.specs.Nears.{AreNearLinks, ArePassed}
use Rattle.plan_search.specs.declared.claim.Claim.{Claim}
use Rattle.plan_search.proofs.ShiftedTrees.{slack_past}
use Rattle.plan_search.proofs.WrittenLists.{IsTold, told_at, told_start, told_up}

module _ (links : Links) (potentials : PotentialParts) (claims : ClaimsParts) (i : ℕ) (from : Option ℕ)
    (row : List Link) (is : IsRow links i links.count row) (before : List (Option Near)) where
  abbrev step : ℕ → Option Near → Option Near
  step place old = looked (claim_at claims place) (slack_to links potentials i place) i from old

  abbrev told : ℕ → Option Near
  told place = step place (get_or before place None)

  -- at a place to which no link leads nothing is nearer
  told_gap : (place : ℕ) → place < links.count → slack_to links potentials i place ≡ None
      → told place ≡ get_or before place None
  told_gap place within none = grind (arith, get_or)

  pub looked_start : IsTold None told before before (reached links.count row 0)
  looked_start = told_up None told before before 0 (reached links.count row 0) (told_start None told before)
      (omega arith)
      (λ place low high.
      let within : place < links.count = omega (arith, high, reached_within links i row is 0) in
      grind (arith, told_gap, gap_slack, gap_first))

  -- a link more
  pub looked_more : (now after : List (Option Near)) (k : ℕ) (link : Link)
      → IsTold None told before now (reached links.count row k) → slice_get row k ≡ Some link
      → AreAsBefore link.to now after
      → get_or after link.to None ≡ looked (claim_at claims link.to)
      (Some (at potentials.u i + at potentials.v link.to - link.gain)) i from (get_or now link.to None)
      → IsTold None told before after (reached links.count row (k + 1))
  looked_more now after k link are e others here = told_up None told before after (link.to + 1)
      (reached links.count row (k + 1))
      (told_at None step before now after link.to
      (subst (λ n. IsTold None told before now n) (ap (end_of links.count) e) are) others.each others.others
      (here ∙ ap (λ slack. looked (claim_at claims link.to) slack i from (get_or now link.to None))
      (sym (link_slack links i row is potentials k link e))))
      (reached_next links i row is k link e)
      (λ place low high.
      let within : place < links.count = omega (arith, high, reached_within links i row is (k + 1)) in
      grind (arith, told_gap, gap_slack, gap_next))

  -- links at which the trip is not nearer
  looked_past : (now : List (Option Near)) (k more : ℕ)
      → IsTold None told before now (reached links.count row k) → k + more ≤ length row
      → ArePassed row (at potentials.u i) potentials.v now k (k + more)
      → IsTold None told before now (reached links.count row (k + more))
  looked_past now k zero are fits passed = grind (arith, IsTold)
  looked_past now k (suc more) are fits passed =
      let link = get_or row (k + more) (link_to 0 0) in
      let here : slice_get row (k + more) ≡ Some (get_or row (k + more) (link_to 0 0)) =
      item row (k + more) (omega (arith, fits)) in
      subst (λ n. IsTold None told before now (reached links.count row n)) (one_more k more)
      (looked_more now now (k + more) (get_or row (k + more) (link_to 0 0))
      (looked_past now k more are (omega (arith, fits))
      (λ m link low high e. passed m link low (omega (arith, high)) e)) here
      (record { each = refl; others = λ other apart. refl })
      (not_nearer (claim_at claims (get_or row (k + more) (link_to 0 0)).to) _ _
      (passed (k + more) (get_or row (k + more) (link_to 0 0)) (omega arith) (omega arith) here)))
    where
      one_more : (k more : ℕ) → (k + more) + 1 ≡ k + suc more
      one_more k more = omega arith

      not_nearer : (claim : Option Claim) (slack : ℕ) (old : Option Near)
          → is_nearer slack old ≡ false → old ≡ looked claim (Some slack) i from old
      not_nearer (Some found) slack old e = refl
      not_nearer None slack None e = absurd (false≢true (sym e))
      not_nearer None slack (Some old) e = grind arith

  module _ (own : ℕ) (own_is : own ≡ at potentials.u i) where
    pub looked_to : (now : List (Option Near)) (k end : ℕ)
        → IsTold None told before now (reached links.count row k) → k ≤ end → end ≤ length row
        → ArePassed row own potentials.v now k end
        → IsTold None told before now (reached links.count row end)
    looked_to now k end are low high passed =
        let is : k + (end - k) ≡ end = omega (arith, low) in
        subst (λ n. IsTold None told before now (reached links.count row n)) is
        (looked_past now k (end - k) are (omega (arith, low, high))
        (λ m link first past e. subst (λ n. is_nearer (n + at potentials.v link.to - link.gain)
        (get_or now link.to None) ≡ false) own_is
        (passed m link first (omega (arith, past, low)) e)))

    -- the links are near ones
    pub near_links : Covers links potentials i → length potentials.v ≡ links.count → (places : ℕ)
        → places ≡ links.count + 1 → AreNearLinks row own potentials.v places
    near_links covers size places places_are k link e = record {
      trip = omega (arith, (is.right k link e).within, size);
      place = omega (arith, (is.right k link e).within, places_are);
      covered = omega (arith, own_is, link_covered links i row is potentials covers k link e);
    }

  -- and the place behind all trips
  pub looked_all : (now after : List (Option Near)) (k last : ℕ)
      → IsTold None told before now (reached links.count row k) → length row ≤ k → last ≡ links.count
      → length before ≡ links.count + 1 → AreAsBefore last now after
      → get_or after last None
      ≡ looked (claim_at claims last) (Some (at potentials.u i)) i from (get_or now last None)
      → AreLooked links potentials claims i from before after
  looked_all now after k last are past last_is size others here place within =
      all.is place (omega (arith, within, size, last_is))
    where
      all : IsTold None told before after (last + 1)
      all = told_at None step before now after last
          (subst (λ n. IsTold None told before now n)
          (reached_last links i row is k past ∙ sym last_is) are) others.each others.others
          (here ∙ ap (λ slack. looked (claim_at claims last) slack i from (get_or now last None))
          (sym (slack_past links potentials i last (omega (arith, last_is)))))
