-- The names of the standard library that proofs here cite, passed on from one place. Declares nothing.
pub use Rattle.std.proofs.Common.{All, AllPairs, Any, Bool, Bor, Contains, Decides, Err, Global}
pub use Rattle.std.proofs.Common.{HoldsAt, IfErr, IfNone, IfOk, IfSome, IsPermutation, IsSome}
pub use Rattle.std.proofs.Common.{IsSorted, IsTrue, IsUtf8, List, MatchBool, MatchOption}
pub use Rattle.std.proofs.Common.{MatchResult, None, Ok, OnErr, OnOk, Option, Result, Some, T, Vec}
pub use Rattle.std.proofs.Common.{[], add-one, add-zero, ap, append-nil, append_assoc, arith}
pub use Rattle.std.proofs.Common.{bit_and, bit_or, bytes_eq, codes, cond, count_by, count_ones}
pub use Rattle.std.proofs.Common.{decimal, div-add-mod', drop, drop-cons, drop-drop, eq-eqb, eqb}
pub use Rattle.std.proofs.Common.{eqb-true, ext_get_or, false, filter, filter_map, find, flat_map}
pub use Rattle.std.proofs.Common.{fold, get_or, get_or-append-add, get_or-drop, get_or-set_other}
pub use Rattle.std.proofs.Common.{get_or-set_same, get_or-take, if◌then◌else◌, inl, inr, int_cmp}
pub use Rattle.std.proofs.Common.{int_eq, int_le, int_lt, is_lt, is_none, is_some, le-leb, le-ltb}
pub use Rattle.std.proofs.Common.{leb, leb-false, leb-true, length, length-append, length-drop}
pub use Rattle.std.proofs.Common.{length-set, length-take, length-take-le, lit<, lt-ltb, ltb}
pub use Rattle.std.proofs.Common.{ltb-false, ltb-true, map, map-id, max, min, mul-le-mul_left}
pub use Rattle.std.proofs.Common.{nat_cmp, nat_eq, nat_le, nat_lt, ne_eqb, neg_ℤ, negsuc, not, of_z}
pub use Rattle.std.proofs.Common.{ok_or, one-add, option_and_then, option_copied, option_map}
pub use Rattle.std.proofs.Common.{option_to_list, pos, position, pow_pos, refl, replicate, reverse}
pub use Rattle.std.proofs.Common.{rules, set, set-set, slice_get, slice_index_or, slice_set}
pub use Rattle.std.proofs.Common.{string_bytes, subst, suc, sum, sum_by, sym, take}
pub use Rattle.std.proofs.Common.{take-append-drop, take_all, to_z, true, true≢false, unsigned_abs}
pub use Rattle.std.proofs.Common.{unwrap_or, w64, zero, zero-add, zip, ℕ, ℤ, ⊎_elim, ◌%◌, ◌&&◌, ◌*◌}
pub use Rattle.std.proofs.Common.{◌++◌, ◌+ℤ◌, ◌+◌, ◌-ℤ◌, ◌-◌, ◌/◌, ◌<ℤ◌, ◌<◌, ◌==◌, ◌^◌, ◌||◌, ◌↔◌}
pub use Rattle.std.proofs.Common.{◌∙◌, ◌∷◌, ◌≡◌, ◌≢◌, ◌≤ℤ◌, ◌≤◌, ◌⊎◌}
pub use Rattle.std.proofs.Math.Bool.{and-false}
pub use Rattle.std.proofs.Math.ListN.{get_or-append, get_or-eq_default}
pub use Rattle.std.proofs.Math.Nat.{add-mod-mod, add-mod_right, add-mul-mod_self_right, le-min}
pub use Rattle.std.proofs.Math.Nat.{min-eq_left, min-eq_right, mod-add-div', mod-add-mod, pow-succ'}
pub use Rattle.std.proofs.Math.Seq.{drop-append_seam, get_or-append_seam, take-append-add}
pub use Rattle.std.proofs.Math.Seq.{take-append_seam, take-length}
pub use Rattle.std.proofs.lemmas.Bool.{MatchBool-at_false, MatchBool-at_true, and_from, and_parts}
pub use Rattle.std.proofs.lemmas.Bool.{and_right, both_ways, cases_Bool, cases_eq, cases_lt}
pub use Rattle.std.proofs.lemmas.Bool.{cases_order, cond_both, eqb-false, false_from_ne_true}
pub use Rattle.std.proofs.lemmas.Bool.{false≢true, lt-leb, not-false, not-true, or_cases, or_from}
pub use Rattle.std.proofs.lemmas.Bool.{or_left, or_parts, or_right, true_from_ne_false}
pub use Rattle.std.proofs.lemmas.Bool.Decides.{Decides-eqb, Decides-int_eq, nat_tests}
pub use Rattle.std.proofs.lemmas.Cmp.{int_cmp_total, int_eq_equiv, nat_eq_equiv, nat_list_cmp_total}
pub use Rattle.std.proofs.lemmas.Cmp.{tied_itself}
pub use Rattle.std.proofs.lemmas.Float.{T_from_true}
pub use Rattle.std.proofs.lemmas.Fmt.{decimal_is_IsNumeral}
pub use Rattle.std.proofs.lemmas.Grind.{common_steps, flat_map-append, get_or-set_at}
pub use Rattle.std.proofs.lemmas.Grind.{get_or_default_zero}
pub use Rattle.std.proofs.lemmas.Int.{int_max_is, ints, to_z_pos}
pub use Rattle.std.proofs.lemmas.Iterator.{YieldsList-from_slice}
pub use Rattle.std.proofs.lemmas.Iterator.Adapters.{position_from-zero}
pub use Rattle.std.proofs.lemmas.List.{append_cancel_left, at_drop_all, at_drop_more, drop_all}
pub use Rattle.std.proofs.lemmas.List.{drop_more, get_or-map, get_or-replicate, get_or-reverse}
pub use Rattle.std.proofs.lemmas.List.{get_or_append_left, get_or_default, get_or_past, get_or_push}
pub use Rattle.std.proofs.lemmas.List.{get_or_read, length-map, length-replicate, length-reverse}
pub use Rattle.std.proofs.lemmas.List.{length_push, map-append, map-set, map_more, map_push}
pub use Rattle.std.proofs.lemmas.List.{nil_from_length, reverse-append, same_lists, set-get_or}
pub use Rattle.std.proofs.lemmas.List.{take-append-le, take_more, take_rest, with_items_is}
pub use Rattle.std.proofs.lemmas.List.Elements.{All-append, All-cons, All-contains}
pub use Rattle.std.proofs.lemmas.List.Elements.{All-contains_itself, All-filter, All-from_get_or}
pub use Rattle.std.proofs.lemmas.List.Elements.{All-from_recursion, All-get_or, All-head, All-map}
pub use Rattle.std.proofs.lemmas.List.Elements.{All-nil, All-push, All-set, All-tail, All-take}
pub use Rattle.std.proofs.lemmas.List.Elements.{All-weaker, Contains-append_cases}
pub use Rattle.std.proofs.lemmas.List.Elements.{Contains-append_left, Contains-append_right}
pub use Rattle.std.proofs.lemmas.List.Elements.{Contains-get_or, Contains-push, Contains-push_cases}
pub use Rattle.std.proofs.lemmas.List.Elements.{filter-append, filter_map-append, filter_more}
pub use Rattle.std.proofs.lemmas.List.Elements.{filter_passes, recursion_from_All}
pub use Rattle.std.proofs.lemmas.List.Filters.{length-filter_both}
pub use Rattle.std.proofs.lemmas.List.Folds.{Any-from_list_any, find-append, find_at, flat_map-map}
pub use Rattle.std.proofs.lemmas.List.Folds.{list_all-append, list_all-map, list_any-append}
pub use Rattle.std.proofs.lemmas.List.Folds.{list_any_at, list_any_more, list_any_none}
pub use Rattle.std.proofs.lemmas.List.FromFn.{fill_by_all, get_or-enumerate_from}
pub use Rattle.std.proofs.lemmas.List.FromFn.{get_or-map-range_with_len, get_or-range_with_len}
pub use Rattle.std.proofs.lemmas.List.FromFn.{length-enumerate_from, length-map-range_with_len}
pub use Rattle.std.proofs.lemmas.List.FromFn.{length-range_with_len, map-range_with_len_more}
pub use Rattle.std.proofs.lemmas.List.Kept.{AllPairs-cons, AllPairs-filter}
pub use Rattle.std.proofs.lemmas.List.Kept.{AllPairs-from_increasing, IsStrictlyIncreasing-filter}
pub use Rattle.std.proofs.lemmas.List.Quantifiers.{position-Some}
pub use Rattle.std.proofs.lemmas.List.Sorted.{All-permutation, Contains-permutation}
pub use Rattle.std.proofs.lemmas.List.Sorted.{IsNonDecreasingBy-from_sort_by_key}
pub use Rattle.std.proofs.lemmas.List.Sorted.{IsPartitionPoint-from_clause, IsPartitionedBy-ltb}
pub use Rattle.std.proofs.lemmas.List.Sorted.{IsPermutation-map, IsPermutation-sym}
pub use Rattle.std.proofs.lemmas.List.Sorted.{length_permutation, list_any-IsPermutation, searched}
pub use Rattle.std.proofs.lemmas.List.Splits.{length-slice_split, slice_split_at, slice_split_first}
pub use Rattle.std.proofs.lemmas.List.Splits.{slice_split_none}
pub use Rattle.std.proofs.lemmas.List.Sums.{AllPass-from_list_all, count_by-le-length}
pub use Rattle.std.proofs.lemmas.List.Sums.{fails_before_first, fold_push, length-filter}
pub use Rattle.std.proofs.lemmas.List.Sums.{list_all-from_AllPass, position_or_len_is}
pub use Rattle.std.proofs.lemmas.List.Sums.{prefix_len-le-length, prefix_len_is, sum_by-append}
pub use Rattle.std.proofs.lemmas.List.Sums.{sum_by-cons, sum_by-le, sum_by-set, sum_by_push}
pub use Rattle.std.proofs.lemmas.Map.Entries.{length-keys_of}
pub use Rattle.std.proofs.lemmas.Map.Keys.{IsDistinct-IsPermutation, IsDistinct-from_apart}
pub use Rattle.std.proofs.lemmas.Map.Keys.{IsDistinct-head, IsDistinct-push, IsDistinct-tail}
pub use Rattle.std.proofs.lemmas.Map.Keys.{Less-from_sorted, any_passes_from_place}
pub use Rattle.std.proofs.lemmas.Map.Keys.{apart_from_distinct}
pub use Rattle.std.proofs.lemmas.Map.Lookups.{exact_signed}
pub use Rattle.std.proofs.lemmas.Map.Made.{is_member-Decides, length-le_from_is_member}
pub use Rattle.std.proofs.lemmas.Map.Steps.{length-le_from_distinct_below}
pub use Rattle.std.proofs.lemmas.Map.Text.{is_eq-slice_cmp}
pub use Rattle.std.proofs.lemmas.Map.Views.{list_any-from_Contains}
pub use Rattle.std.proofs.lemmas.Nat.{and_le_l, div-mul-add, mod-mul-add, mul-le}
pub use Rattle.std.proofs.lemmas.Option.{IfSome_then, cond_some, get_or_from_slice_get, none-some}
pub use Rattle.std.proofs.lemmas.Option.{same_Some, slice_get-get_or, slice_get-map}
pub use Rattle.std.proofs.lemmas.Option.{slice_get_cases, slice_get_past, slice_get_read}
pub use Rattle.std.proofs.lemmas.Option.{slice_get_within, unwrap_or-slice_get}
pub use Rattle.std.proofs.lemmas.Result.{IfOk-weaker, err_from_is_err_and, on_ok_weaker}
pub use Rattle.std.proofs.lemmas.Simd.{map-map}
pub use Rattle.std.proofs.lemmas.Slice.Eq.{bytes_eq-Decides}
pub use Rattle.std.proofs.lemmas.Slice.Zip.{get_or-zip, length-zip}
pub use Rattle.std.proofs.lemmas.Str.{IsUtf8-from_ascii}
pub use Rattle.std.proofs.lemmas.Str.Parse.{digits_value_short}
pub use Rattle.std.specs.Bool.{then_some}
pub use Rattle.std.specs.Char.{is_ascii_digit}
pub use Rattle.std.specs.Cmp.{int_ranks}
pub use Rattle.std.specs.Cmp.Derive.{both_true}
pub use Rattle.std.specs.Cmp.Lexicographic.{slice_cmp}
pub use Rattle.std.specs.Cmp.Rules.{signed_items}
pub use Rattle.std.specs.FinMap.{int_cmp-IsAntisymmetric, is_sorted, put}
pub use Rattle.std.specs.FinMap.Entries.{below_all, by_order, find-put, same_entries}
pub use Rattle.std.specs.Fmt.{signed_decimal}
pub use Rattle.std.specs.HashMap.{get}
pub use Rattle.std.specs.HashSet.{contains}
pub use Rattle.std.specs.Int.{bit_at, int_max, leading_zeros, w128}
pub use Rattle.std.specs.Int.Signed.{le_z_yes}
pub use Rattle.std.specs.List.{AllByRecursion, AllZip, IsDistinct, after_first, before_first}
pub use Rattle.std.specs.List.{concat, cons_option, enumerate_from, items_where_true, last_or}
pub use Rattle.std.specs.List.{list_all, list_any, onto_first, position_from, position_or_len}
pub use Rattle.std.specs.List.{prefix_len, range_with_len, reduce, suffix_len, take-map}
pub use Rattle.std.specs.List.Sorted.{IsNonDecreasingBy, IsPartitionPoint, IsStrictlyIncreasing}
pub use Rattle.std.specs.List.Sorted.{IsStrictlySortedBy}
pub use Rattle.std.specs.Map.{keys_of, lookup, values_of}
pub use Rattle.std.specs.Option.{option_map_or, option_or}
pub use Rattle.std.specs.Ordering.{MatchOrdering, eq_by_cmp, ordering_reverse, ordering_then}
pub use Rattle.std.specs.Prelude.{⊤}
pub use Rattle.std.specs.Result.{result_ok}
pub use Rattle.std.specs.Set.{is_member}
pub use Rattle.std.specs.Str.Lines.{strip_carriage_return}
pub use Rattle.std.specs.Str.Parse.{AllDigits}
pub use Rattle.std.specs.contracts.alloc.Global.{the_row}
pub use lib.Pointwise.{pointwise, pointwise_decides}
