-- The links out of each event, found one behind the other.
use Rattle.plan_num.proofs.Common.{◌≡◌, ◌≢◌, ◌∙◌, ℕ, ◌+◌, ◌<◌, cond, List, ◌∷◌, length, drop}
use Rattle.plan_num.proofs.Common.{get_or, slice_set, refl, ap, arith, ne_eqb, drop_more}
use Rattle.plan_num.proofs.Common.{get_or-set_same, get_or-set_other, get_or_default, length-set}
use Rattle.propagation.specs.declared.links.Link.{Link}
use Rattle.propagation.specs.Outgoing.{AreChained, IsNextOut, out_of}
use Rattle.bit_rows.proofs.Cases.{by_same}

-- a link out of another event
passed : (links : List Link) (event at : ℕ) (d : Link) → at < length links
    → (get_or links at d).step.from ≢ event
    → out_of (drop at links) event ≡ out_of (drop (at + 1) links) event
passed links event at d inside other =
    ap (λ left. out_of left event) (drop_more links at d inside)
    ∙ ap (λ b. cond b (get_or links at d ∷ out_of (drop (at + 1) links) event) (out_of (drop (at + 1) links) event))
    (ne_eqb (get_or links at d).step.from event other)

-- a link more before those that are chained
module _ (links : List Link) (from : ℕ) (firsts nexts : List ℕ) (d : Link)
    (inside : from < length links) (there : (get_or links from d).step.from < length firsts)
    (old : AreChained links (from + 1) firsts nexts) where
  abbrev event : ℕ
  event = (get_or links from d).step.from

  abbrev new_firsts : List ℕ
  new_firsts = slice_set firsts event from

  abbrev new_nexts : List ℕ
  new_nexts = slice_set nexts from (get_or firsts event 0)

  itself : IsNextOut links event from from
  itself = record {
    least = omega arith;
    most = omega (arith, inside);
    own = λ e less. ap (λ (link : Link). link.step.from) (get_or_default links from e d inside);
    same = refl;
  }

  others : (e : ℕ) → e < length firsts → e ≢ event → IsNextOut links e from (get_or firsts e 0)
  others e known other = grind (arith, passed)

  pub more_chained : AreChained links from new_firsts new_nexts
  more_chained = record {
    each = length-set nexts from (get_or firsts event 0) ∙ old.each;
    first = λ e known. grind (
      arith,
      length-set,
      by_same,
      get_or-set_same,
      itself,
      get_or-set_other,
      others,
    );
    next = λ k e low high.
        by_same k from
        (λ same. rw (
          same,
          get_or-set_same nexts from (get_or firsts event 0) 0
              (omega (arith, inside, old.each)),
          get_or_default links from e d inside,
        )
        (old.first event there))
        (λ other. rw (get_or-set_other nexts from k (get_or firsts event 0) 0 other)
        (old.next k e (omega (arith, low, other)) high));
  }
