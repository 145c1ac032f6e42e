-- What proofs cite together of std and of this crate, passed on from one place. Declares nothing.
pub use Rattle.std.proofs.Common.{[], add-one, add-zero, ap, append-nil, append_assoc, ap₂, arith, Bool, cond, drop, drop-cons, Equal, false, get_or, Global, Greater, inl, inr, is_none, is_some, IsErrAnd, IsSome, leb, length, Less, List, lit<, lit≤, max, nat_le, nat_lt, None, not, Ok, Option, option_and_then, Ordering, refl, replicate, rules, set, slice_index, Some, String, subst, suc, sym, take, true, true≢false, unwrap_or, vec_len, zero, zero-add, ℕ, ⊎_elim, ◌%◌, ◌&&◌, ◌*◌, ◌++◌, ◌+◌, ◌-◌, ◌/◌, ◌<◌, ◌==◌, ◌||◌, ◌∙◌, ◌∷◌, ◌≡◌, ◌≢◌, ◌≤◌, ◌⊎◌}
pub use Rattle.std.proofs.Math.Bool.{and-false, and-true, or-false, or_assoc}
pub use Rattle.std.proofs.Math.Nat.{add-mul, div-le_self, le-max_left, le-max_right, le_trans, lt-div-mul-add, lt_of_le_of_lt, lt_trans, max-le, mod-lt, mul-add, mul-le-mul, mul-le-mul_left, mul-le-mul_right}
pub use Rattle.std.proofs.Math.Pow.{pow-lt}
pub use Rattle.std.proofs.Math.Seq.{drop-append-add, get_or-append_seam, paste, take-add, take-append-add, take-append_seam, take-set-lt, take-suc, take-suc-set}
pub use Rattle.std.proofs.Props.{props}
pub use Rattle.std.proofs.lemmas.Bool.{and_from, and_left, and_parts, and_right, both_ways, cases_Bool, cases_eq, cases_lt, cases_order, eq-eqb, eqb-true, false_from_ne_true, false≢true, iff_false, le-leb, le-ltb, leb-false, leb-true, lt-leb, lt-ltb, ltb-false, ltb-true, ne_eqb, not-false, not-true, not_from_false, or_cases, or_left, or_right, true_from_ne_false}
pub use Rattle.std.proofs.lemmas.Bool.Decides.{Decides-eqb, nat_tests}
pub use Rattle.std.proofs.lemmas.Cmp.{nat_eq_equiv, nat_list_eq_equiv}
pub use Rattle.std.proofs.lemmas.Fmt.{decimal-digits_value, decimal_digit, decimal_injective, decimal_nonempty, digits_decimal, digits_value-decimal, first_decimal, IsAscii-from_digits, length-decimal-le, parse-decimal}
pub use Rattle.std.proofs.lemmas.Grind.{common_steps, get_or-set_at}
pub use Rattle.std.proofs.lemmas.Iterator.Consumers.{map_from_collect}
pub use Rattle.std.proofs.lemmas.Iterator.Splits.{YieldsList-from_slice_split}
pub use Rattle.std.proofs.lemmas.List.{drop-append-le, drop-drop, drop-replicate, drop-set-add, drop-set-lt, drop_at, drop_more, ext_get_or, get_or-append_right, get_or-drop, get_or-map, get_or-replicate, get_or-set_other, get_or-set_same, get_or-take, get_or_append_left, get_or_default, get_or_past, get_or_read, length-append, length-drop, length-map, length-replicate, length-reverse, length-set, length-take, length-take-le, map-append, map-set, replicate-append-replicate, reverse-append, set-get_or, set-set, set_at, take-append-drop, take-append-le, take-replicate, take-set-le, take_all, take_at, take_more}
pub use Rattle.std.proofs.lemmas.List.Concat.{flat_map-append}
pub use Rattle.std.proofs.lemmas.List.Edits.{length-insert, length-paste}
pub use Rattle.std.proofs.lemmas.List.Elements.{All-append, All-cons, All-contains, All-get_or, All-head, All-map, All-nil, All-push, All-replicate, All-same, All-set, All-tail, All-weaker, at_read, Contains-append_cases, Contains-append_left, Contains-append_right, Contains-get_or, Contains-push, Contains-push_cases, filter-append}
pub use Rattle.std.proofs.lemmas.List.Filters.{length-filter_both}
pub use Rattle.std.proofs.lemmas.List.Folds.{Any-from_list_any, find-append, list_all-append, list_all-map, list_all_at, list_any-append, list_any_at, list_any_more, list_any_none}
pub use Rattle.std.proofs.lemmas.List.FromFn.{get_or-map-range_with_len, get_or-range_with_len, length-map-range_with_len, length-range_with_len, map-range_with_len_more}
pub use Rattle.std.proofs.lemmas.List.Quantifiers.{position-Some}
pub use Rattle.std.proofs.lemmas.List.Sorted.{All-permutation, Contains-permutation, IsNonDecreasingBy-from_sort_by_key, IsPartitionedBy-leb, IsPartitionPoint-from_clause}
pub use Rattle.std.proofs.lemmas.List.Splits.{join_with_byte-slice_split, slice_split_at, slice_split_none}
pub use Rattle.std.proofs.lemmas.List.Sums.{AllPass-from_list_all, fails_before_first, fold-append, position_or_len_is, prefix_len-le-length, sum_by-cons, sum_by-set, sum_by_push}
pub use Rattle.std.proofs.lemmas.Map.Views.{Contains-from_any, list_any-from_Contains}
pub use Rattle.std.proofs.lemmas.Nat.{or_lt, pow_pos, row_fits, shr-shr, shr_le}
pub use Rattle.std.proofs.lemmas.Nat.Bits.{bit_at-lt, bit_at-trailing_zeros, bit_at-zero, bit_at_above, bit_at_set_other, bit_at_set_same, same_from_bits_below}
pub use Rattle.std.proofs.lemmas.Option.{get_or_from_slice_get, slice_get-map, slice_get_cases, slice_get_read, slice_get_within}
pub use Rattle.std.proofs.lemmas.Result.{err_from_is_err_and, OkIff-at_err, OkIff-at_ok}
pub use Rattle.std.proofs.lemmas.Slice.Eq.{bytes_eq-Decides, slice_eq-Decides}
pub use Rattle.std.proofs.lemmas.Str.{is_utf8-from_IsUtf8, IsUtf8-append, IsUtf8-from_ascii, IsUtf8-from_is_utf8}
pub use Rattle.std.proofs.lemmas.Str.Parse.{IsNumeralModel, numerals_by_value, parse_digits, parse_plain, tells_digits}
pub use Rattle.std.specs.BTreeMap.{get_by_text, keys}
pub use Rattle.std.specs.Borrow.{Bor}
pub use Rattle.std.specs.Char.{is_ascii_alphanumeric, is_ascii_digit}
pub use Rattle.std.specs.Cmp.Lexicographic.{slice_cmp}
pub use Rattle.std.specs.Coded.{code_by, Coded, coded_list, coded×}
pub use Rattle.std.specs.Fmt.{decimal, digits}
pub use Rattle.std.specs.Int.{bit_at, trailing_zeros, w64}
pub use Rattle.std.specs.Io.{ReadsAtMost, StartsWith}
pub use Rattle.std.specs.List.{All, Contains, filter, find, flat_map, fold, insert, join_with_byte, list_all, list_any, position, position_or_len, prefix_len, range_with_len, refill, remove, slice_split, sum_by}
pub use Rattle.std.specs.List.Sorted.{IsNonDecreasingBy, IsPermutation}
pub use Rattle.std.specs.Map.{keys_of}
pub use Rattle.std.specs.Option.{ForSome, IsSomeAnd, ok_or, option_copied, option_eq, option_map_or, option_or}
pub use Rattle.std.specs.Ordering.{match_ordering, nat_cmp}
pub use Rattle.std.specs.Prelude.{Any, bit_or, codes, Err, IfErr, IfNone, IfOk, IfSome, if◌then◌else◌, IsErr, IsErrOf, IsNone, IsOk, IsTrue, map, MatchOption, MatchResult, min, nat_eq, OnErr, OnOk, option_map, Result, reverse, slice_get, slice_index_or, slice_set, string_bytes, Vec, ◌^◌, ◌↔◌}
pub use Rattle.std.specs.Str.{bytes_eq, is_utf8, IsAscii, IsUtf8}
pub use Rattle.std.specs.Str.Parse.{AllDigits, digits_value, ParsesUnsigned}
pub use Rattle.base.proofs.Least.{lower-le}
pub use Rattle.base.proofs.Lists.{copies_at, item_passes}
pub use Rattle.base.proofs.Prefixes.{all_of, further, grown, longer, longer_text, whole}
pub use Rattle.base.proofs.Products.{product_to-split}
pub use Rattle.base.proofs.Ranges.{all_pass, each_passes, flat_map_more, range_more, text_more}
pub use Rattle.base.proofs.Sums.{sum_to-add, sum_to-bound, sum_to-change, sum_to-le, sum_to-none, sum_to-one, sum_to-same, sum_to-swap, sum_to-term, sum_to-zero}
pub use Rattle.base.proofs.Tests.{cond-implied, cond-le, cond-none, fails_below, positive_above, same_either_way}
