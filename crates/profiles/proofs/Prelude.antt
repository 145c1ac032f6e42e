-- What proofs of this crate cite together of what stands below them, passed on from one place. Declares nothing.
pub use Rattle.std.specs.declared.alloc.Global.{Global}
pub use Rattle.base.proofs.Public.{[], All-permutation, All-push, All-weaker, ap, arith, Bool, cases_Bool, cases_eq, cond, Contains, Contains-append_cases, Contains-append_left, Contains-append_right, Contains-permutation, Contains-push, Contains-push_cases, Decides-eqb, drop, false, false≢true, filter, flat_map, get_or, get_or-append_seam, get_or-drop, get_or-map, get_or-replicate, get_or-set_other, get_or-set_same, get_or-take, get_or_append_left, get_or_default, get_or_past, inl, inr, IsNonDecreasingBy, IsNonDecreasingBy-from_sort_by_key, IsPermutation, IsTrue, length, length-append, length-drop, length-map, length-replicate, length-set, length-take, List, map, map-append, map-set, nat_lt, nat_tests, ne_eqb, None, Option, refl, replicate, replicate-append-replicate, row_fits, rules, set, slice_index_or, slice_set, Some, subst, suc, sum_by, sum_by-cons, sum_to-change, sum_to-none, sum_to-same, sym, take, take_all, true, unwrap_or, Vec, vec_len, zero, ℕ, ◌&&◌, ◌*◌, ◌++◌, ◌+◌, ◌-◌, ◌<◌, ◌==◌, ◌↔◌, ◌∙◌, ◌∷◌, ◌≡◌, ◌≢◌, ◌≤◌, ◌⊎◌}
pub use Rattle.cluster.specs.declared.{choices.Choice.TheVariants.Idle}
pub use Rattle.domains.proofs.Public.{contains_filter, contains_here, least_of_each}
pub use Rattle.domains.specs.SetsBefore.{putting}
pub use Rattle.relax.proofs.Public.{none_is_empty}
pub use Rattle.profiles.specs.Ranks.{AreMarks, AreRanks, IsRanked}
pub use Rattle.profiles.specs.Prelude.{Act, Amount, AreFirstAt, AreFirsts, AreHosts, AreMachines, AreMostUses, AreMovers, AreNear, AreOrders, AreShares, AreSmall, AreTotalBases, AreUses, At, base, Choice, choices, comes_by, DomainView, Element, From, gain, hosted_in, HostIs, in_part, Instance, IsEachOnce, IsGrown, IsListedOrStays, IsMostUse, IsNear, IsNoLater, IsOrder, IsProfile, IsPut, IsShare, IsToldOf, IsTotalBase, kept_use, least, Levels, list_at, lists_of, load, lowest, machine_count, max_amount, most_use, MostUse, never, no_share, no_standing, Node, node_count, NodeId, one, ProfileView, Row, row_choices, same_element, Sets, sets, Share, share_use, slot_of, Standing, start_count, State, state_of, stays, sum_to, total_use, Vm, vm}
unfoldable pub use Rattle.profiles.specs.Prelude.{sure}
