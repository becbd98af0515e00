-- The sums of labels that have the least sums of walks.
use Rattle.plan_num.proofs.Common.{◌≡◌, ℕ, ℤ, pos, ◌<◌, List, length, map, get_or, refl, ap, sym}
use Rattle.plan_num.proofs.Common.{subst, ◌∙◌, Option, Some, None, IfSome, ◌≤◌, option_map}
use Rattle.plan_num.proofs.Common.{unsigned_abs, arith, length-map, get_or-map, fill_by_all}
use Rattle.plan_num.proofs.Common.{All-map, All-weaker, ints}
use Rattle.walks.specs.declared.label.Label.{Label}
use Rattle.walks.specs.declared.label.Label.TheVariants.{Unseen}
use Rattle.walks.specs.Networks.{NetworkParts}
use Rattle.walks.specs.Walks.{least_sum, least_sums, AreLeastSums, IsSumUpTo, AreSumsUpTo}
use Rattle.walks.specs.declared.weight.Weight.{Weight}
use Rattle.walks.specs.Labels.{weight_of, most_sum, sum_of, label_at, AreDone}
use Rattle.walks.proofs.Partway.{most_small}
use Rattle.plan_num.proofs.Lists.{back_again}

limited : (limit : ℕ) (o : Option ℕ) → IfSome o (λ sum. sum ≤ limit)
    → IfSome (option_map pos o) (IsSumUpTo limit)
limited limit None small = tt
limited limit (Some sum) small = record { low = omega (arith, ints); high = omega (arith, ints) }

higher : (low high : ℕ) (o : Option ℤ) → low ≤ high → IfSome o (IsSumUpTo low)
    → IfSome o (IsSumUpTo high)
higher low high None le small = tt
higher low high (Some sum) le small =
    record { low = small.low; high = omega (arith, ints, small.high) }

module _ (network : NetworkParts) (weight : Weight) (from : ℕ) (labels : List Label)
    (done : AreDone network weight from labels) where
  abbrev number : Label → Option ℤ
  number label = option_map pos (sum_of label)

  sum_at : (to : ℕ) → to < length network.stops
      → get_or (map number labels) to None ≡ number (label_at labels to)
  sum_at to within = get_or-map number labels to Unseen None (omega (arith, done.size))

  -- they are the sums that the definition computes
  pub sums_same : (sums : List (Option ℤ)) → sums ≡ map number labels
      → sums ≡ least_sums network (weight_of weight) from
  sums_same sums are =
      are
      ∙ fill_by_all (λ to. option_map pos (least_sum network (weight_of weight) from to))
      (map number labels) (length network.stops) None (length-map labels number ∙ done.size)
      (λ to within. sum_at to within ∙ ap (option_map pos) (done.same to))

  -- and each is the least over all walks
  pub sums_least : (sums : List (Option ℤ)) → sums ≡ map number labels
      → AreLeastSums network (weight_of weight) from sums
  sums_least sums are = grind (arith, option_map, unsigned_abs, get_or, sum_at, back_again)

  -- none of them exceeds the most that it can be
  pub sums_limited : (sums : List (Option ℤ)) → sums ≡ map number labels
      → AreSumsUpTo (most_sum weight) sums
  sums_limited sums are =
      subst (AreSumsUpTo (most_sum weight)) (sym (are))
      (All-map (λ sum. IfSome sum (IsSumUpTo (most_sum weight))) number labels
      (All-weaker (λ label. IfSome (sum_of label) (λ sum. sum ≤ most_sum weight))
      (λ label. IfSome (number label) (IsSumUpTo (most_sum weight)))
      (λ label. limited (most_sum weight) (sum_of label)) labels done.small))

  pub sums_fit : (sums : List (Option ℤ)) → sums ≡ map number labels
      → AreSumsUpTo 10000000000000 sums
  sums_fit sums are =
      All-weaker (λ sum. IfSome sum (IsSumUpTo (most_sum weight)))
      (λ sum. IfSome sum (IsSumUpTo 10000000000000))
      (λ sum. higher (most_sum weight) 10000000000000 sum (most_small weight)) sums
      (sums_limited sums are)
