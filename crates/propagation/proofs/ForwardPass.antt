-- One pass along links in the forward order satisfies each of them, and is no later than it has to
-- be.
use Rattle.plan_num.proofs.Common.{◌≡◌, ◌≢◌, ◌∙◌, ℕ, suc, ◌<◌, ◌≤◌, ◌⊎◌, inl, inr, Bool, true}
use Rattle.plan_num.proofs.Common.{false, eqb, List, [], ◌∷◌, length, get_or, All, refl, ap, sym}
use Rattle.plan_num.proofs.Common.{subst, arith, IsNonDecreasingBy, eqb-true, eqb-false}
use Rattle.plan_num.proofs.Common.{get_or-set_same, get_or-set_other, length-set, All-cons}
use Rattle.plan_num.proofs.Common.{All-head, All-nil, All-tail}
use Rattle.propagation.specs.declared.links.Link.{Link}
use Rattle.propagation.specs.declared.step.Step.{Step}
use Rattle.propagation.specs.LeastTimes.{asked, later, time_at}
use Rattle.propagation.specs.Links.{counts, head_pushed, pushed_along, pushed_by}
use Rattle.propagation.proofs.Later.{later_is}

-- a link between two of so many events, the first of which has its rank, and the second a greater
-- one
pub record Joins (n : ℕ) (ranks : ℕ → ℕ) (link : Link) : Type 0 where
  pub from : link.step.from < n
  pub to : link.step.to < n
  pub own : link.rank ≡ ranks link.step.from
  pub rises : ranks link.step.from < ranks link.step.to

-- a link that counts is satisfied by times
abbrev pub Holds : List Bool → List ℕ → Link → Type 0
Holds kept times link =
    counts kept link.change ≡ true → asked times link.step ≤ time_at times link.step.to

-- what a head is pushed to
pub record IsPushed (times : List ℕ) (step : Step) (new : List ℕ) : Type 0 where
  pub each : length new ≡ length times
  pub grows : (event : ℕ) → time_at times event ≤ time_at new event
  pub stays : (event : ℕ) → step.to ≢ event → time_at new event ≡ time_at times event
  pub holds : asked times step ≤ time_at new step.to
  pub one : (time_at new step.to ≡ time_at times step.to) ⊎ (time_at new step.to ≡ asked times step)

pub is_pushed : (times : List ℕ) (step : Step) → step.to < length times
    → IsPushed times step (head_pushed times step)
is_pushed times step inside =
    let new = later_is (time_at times step.to) (asked times step) in
    let value = later (time_at times step.to) (asked times step) in
    let same : time_at (head_pushed times step) step.to ≡ value = get_or-set_same times step.to value 0 inside in
    let apart = λ (event : ℕ) (other : step.to ≢ event). get_or-set_other times step.to event value 0
    (λ e. other (sym e)) in
    record {
      each = length-set times step.to value;
      grows = λ event. elim (eqb step.to event) as
          (λ b. eqb step.to event ≡ b → time_at times event ≤ time_at (head_pushed times step) event) [
            | true ↦ λ is. subst (λ e. time_at times e ≤ time_at (head_pushed times step) e) (eqb-true step.to event is)
                (omega (arith, same, new.first))
            | false ↦ λ is. omega (arith, apart event (eqb-false step.to event is))
          ] refl;
      stays = apart;
      holds = omega (arith, same, new.second);
      one = by same new.one;
    }
  where
    by : time_at (head_pushed times step) step.to ≡ later (time_at times step.to) (asked times step)
        → (later (time_at times step.to) (asked times step) ≡ time_at times step.to)
        ⊎ (later (time_at times step.to) (asked times step) ≡ asked times step)
        → (time_at (head_pushed times step) step.to ≡ time_at times step.to)
        ⊎ (time_at (head_pushed times step) step.to ≡ asked times step)
    by same (inl is) = inl (same ∙ is)
    by same (inr is) = inr (same ∙ is)

module _ (kept : List Bool) (n : ℕ) (ranks : ℕ → ℕ) where
  -- a link that counts pushes, and another one does nothing
  by_link : (P : List ℕ → Type 0) (times : List ℕ) (link : Link)
      → (counts kept link.change ≡ true → P (head_pushed times link.step))
      → (counts kept link.change ≡ false → P times) → P (pushed_by kept times link)
  by_link P times link pushed passed = grind arith

  one_each : (times : List ℕ) (link : Link) → Joins n ranks link → length times ≡ n
      → length (pushed_by kept times link) ≡ n
  one_each times link joins each = grind (arith, by_link, is_pushed)

  pub long : (links : List Link) (times : List ℕ) → All (Joins n ranks) links → length times ≡ n
      → length (pushed_along kept links times) ≡ n
  long [] times joins each = each
  long (link ∷ links) times joins each =
      long links (pushed_by kept times link) (All-tail (Joins n ranks) link links joins)
      (one_each times link (All-head (Joins n ranks) link links joins) each)

  pub grows : (links : List Link) (times : List ℕ) → All (Joins n ranks) links → length times ≡ n
      → (event : ℕ) → time_at times event ≤ time_at (pushed_along kept links times) event
  grows [] times joins each event = omega arith
  grows (link ∷ links) times joins each event =
      let first = All-head (Joins n ranks) link links joins in
      let rest = grows links (pushed_by kept times link) (All-tail (Joins n ranks) link links joins)
      (one_each times link first each) event in
      let step = by_link (λ new. time_at times event ≤ time_at new event) times link
      (λ _. (is_pushed times link.step (omega (arith, first.to, each))).grows event) (λ _. omega arith) in
      omega (arith, rest, step)

  stays : (links : List Link) (times : List ℕ) (event : ℕ) → All (Joins n ranks) links
      → length times ≡ n → All (λ link. link.step.to ≢ event) links
      → time_at (pushed_along kept links times) event ≡ time_at times event
  stays [] times event joins each apart = refl
  stays (link ∷ links) times event joins each apart =
      let first = All-head (Joins n ranks) link links joins in
      stays links (pushed_by kept times link) event (All-tail (Joins n ranks) link links joins)
      (one_each times link first each) (All-tail (λ link. link.step.to ≢ event) link links apart)
      ∙ by_link (λ new. time_at new event ≡ time_at times event) times link
      (λ _. (is_pushed times link.step (omega (arith, first.to, each))).stays event
      (All-head (λ link. link.step.to ≢ event) link links apart)) (λ _. refl)

  -- no later than any times that satisfy the links
  pub below : (others : List ℕ) (links : List Link) (times : List ℕ) → All (Joins n ranks) links
      → length times ≡ n → All (Holds kept others) links
      → ((event : ℕ) → event < n → time_at times event ≤ time_at others event)
      → (event : ℕ) → event < n → time_at (pushed_along kept links times) event ≤ time_at others event
  below others [] times joins each hold under = under
  below others (link ∷ links) times joins each hold under =
      let first = All-head (Joins n ranks) link links joins in
      below others links (pushed_by kept times link) (All-tail (Joins n ranks) link links joins)
      (one_each times link first each) (All-tail (Holds kept others) link links hold)
      (by_link (λ new. (event : ℕ) → event < n → time_at new event ≤ time_at others event) times link
      (λ there. pushed first (All-head (Holds kept others) link links hold there)) (λ _. under))
    where
      pushed : Joins n ranks link → asked others link.step ≤ time_at others link.step.to
          → (event : ℕ) → event < n → time_at (head_pushed times link.step) event ≤ time_at others event
      pushed first holds event inside =
          let step = link.step in
          let is = is_pushed times step (omega (arith, first.to, each)) in
          elim (eqb step.to event) as (λ b. eqb step.to event ≡ b
          → time_at (head_pushed times step) event ≤ time_at others event) [
            | true ↦ λ same. subst (λ e. time_at (head_pushed times step) e ≤ time_at others e)
                (eqb-true step.to event same)
                (value is.one (under step.to first.to) (under step.from first.from))
            | false ↦ λ other. let stay = is.stays event (eqb-false step.to event other) in
                let old = under event inside in omega (arith, stay, old)
          ] refl
        where
          value : (time_at (head_pushed times link.step) link.step.to ≡ time_at times link.step.to)
              ⊎ (time_at (head_pushed times link.step) link.step.to ≡ asked times link.step)
              → time_at times link.step.to ≤ time_at others link.step.to
              → time_at times link.step.from ≤ time_at others link.step.from
              → time_at (head_pushed times link.step) link.step.to ≤ time_at others link.step.to
          value (inl is) to from = omega (arith, is, to)
          value (inr is) to from = omega (arith, is, from, holds)

  sorted_rest : (link : Link) (links : List Link) → IsNonDecreasingBy (λ link. link.rank) (link ∷ links)
      → IsNonDecreasingBy (λ link. link.rank) links
  sorted_rest link links sorted i j d low high = sorted (suc i) (suc j) d (omega (arith, low)) (omega (arith, high))

  -- a first event stays as it is behind links of no lesser rank
  heads_apart : (link : Link) (links : List Link) → IsNonDecreasingBy (λ link. link.rank) (link ∷ links)
      → All (Joins n ranks) (link ∷ links) → All (λ other. other.step.to ≢ link.step.from) links
  heads_apart link links sorted joins k d inside same =
      let first = All-head (Joins n ranks) link links joins in
      let other = All-tail (Joins n ranks) link links joins k d inside in
      let up : link.rank ≤ (get_or links k d).rank = sorted 0 (suc k) d (omega arith) (omega (arith, inside)) in
      grind (arith, get_or)

  -- each link holds in the end
  pub closed : (links : List Link) (times : List ℕ) → IsNonDecreasingBy (λ link. link.rank) links
      → All (Joins n ranks) links → length times ≡ n
      → All (Holds kept (pushed_along kept links times)) links
  closed [] times sorted joins each = All-nil (Holds kept times)
  closed (link ∷ links) times sorted joins each =
      let first = All-head (Joins n ranks) link links joins in
      let more = All-tail (Joins n ranks) link links joins in
      let size = one_each times link first each in
      All-cons (Holds kept (pushed_along kept links (pushed_by kept times link))) link links
      (by_link (λ new. length new ≡ n → Holds kept (pushed_along kept links new) link) times link
      (λ there size _. pushed first more size)
      (λ out size there. absurd (two out there)) size)
      (closed links (pushed_by kept times link) (sorted_rest link links sorted) more size)
    where
      two : counts kept link.change ≡ false → counts kept link.change ≡ true → ⊥
      two out there = let e : false ≡ true = sym out ∙ there in absurd (cc)

      pushed : Joins n ranks link → All (Joins n ranks) links
          → length (head_pushed times link.step) ≡ n
          → asked (pushed_along kept links (head_pushed times link.step)) link.step
          ≤ time_at (pushed_along kept links (head_pushed times link.step)) link.step.to
      pushed first more size =
          let step = link.step in
          let is = is_pushed times step (omega (arith, first.to, each)) in
          let stay = stays links (head_pushed times step) step.from more size (heads_apart link links sorted joins) in
          let grow = grows links (head_pushed times step) more size step.to in
          let apart : step.to ≢ step.from = λ e. let rank : ranks step.to ≡ ranks step.from =
          ap ranks e in omega (arith, rank, first.rises) in
          omega (arith, stay, grow, is.stays step.from apart, is.holds)
