-- What proofs of this crate cite together of what stands below them, passed on from one place. Declares nothing.
pub use Rattle.base.proofs.Public.{[], ap, arith, Bool, cases_eq, cases_lt, cond, cond-implied, cond-le, Contains, eq-eqb, fails_below, false, false_from_ne_true, false≢true, filter, get_or, get_or_default, get_or_past, IfNone, IfSome, inl, inr, is_some, IsTrue, length, List, list_any_more, nat_le, nat_lt, nat_tests, ne_eqb, None, Option, or_left, or_right, positive_above, refl, rules, slice_get, slice_get_read, slice_index_or, Some, subst, suc, sum_to-le, sym, take, true, true_from_ne_false, zero, ℕ, ◌&&◌, ◌*◌, ◌+◌, ◌-◌, ◌<◌, ◌==◌, ◌||◌, ◌∙◌, ◌∷◌, ◌≡◌, ◌≢◌, ◌≤◌, ◌⊎◌}
pub use borrow.Author.Count.{below_more}
pub use Rattle.catalogue.proofs.Public.{below_parts, use_of_le}
pub use Rattle.cluster.specs.declared.choices.{Choice.TheVariants.Idle, Place.Place}
pub use Rattle.domains.proofs.Public.{contains_filter, contains_one, filter_contains, least_of_each, same_is, surely_each}
pub use Rattle.reasons.proofs.Public.{acting_grows, closed_by_kinds, end_is_choice, ends_of_rows, group_grows, machine_change, node_change, quiet_at_turns_for, quiet_is_free, scattered_grows, setting_agrees, setting_powered, setting_room, setting_sets, setting_total, some_end, turns_decide_for}
pub use Rattle.relax.proofs.Public.{away, goes_same}
pub use Rattle.slices.proofs.Public.{each_member, each_more, joined_member, member_below, or_implied, part_listed}
pub use Rattle.closing.specs.Prelude.{Act, acting_slices, action_at, actions_of, all_nodes, all_of, Allocate, Allowed, Always, Amount, Apart, are_below, AreApart, AreClean, AreCleanAt, AreOf, AreRowsPast, AreWithin, At, BeforeEnd, Between, Boot, Bound, Bounded, BreaksGroup, broken_at, capacity_of, ChangeInstants, ChangeInstantsAreEnough, ChangeInstantsOfSomeAreEnough, changing, Choice, choices, Clean, Climbs, ClosedByWatches, Constraint, constraint_watch, ConstraintIsLocal, covers, Cut, Demand, domain_at, DomainView, Each, Element, Empty, ExceedsAmount, ExceedsPower, Fail, FailAtEnds, FailAtRows, Form, form_of, form_scope, form_seen, FormForbidsPair, FormForbidsPlace, From, FromOthers, FromStart, goes_in, Gone, Group, Hall, has_machine, has_node, has_node_of, HasMisplaced, HasPair, HasPlace, HasSeparated, HasSteadyRoom, hosted_in, idle_slices, if_so, Image, in_part, Init, Instance, InTurn, is_among, is_continuous, is_in, is_member, is_node, IsAbove, IsAnyOf, IsBroken, IsClean, IsClosed, IsElement, IsEnd, IsEndThat, IsFormBroken, IsFound, IsFree, IsFreeOf, IsGroup, IsGroupWith, IsInPart, IsLocal, IsLook, IsMachineUnder, IsMember, IsMetWith, IsMisplaced, IsMostOf, IsMostSure, IsNeeded, IsNodeMissed, IsNodeSpared, IsNotUsable, IsOffLimits, IsOn, IsOverload, IsOverloaded, IsPartOf, IsPartWithin, IsPlacedBadly, IsPower, IsPoweredUnder, IsRowEndThat, IsSameMachine, IsSetLoad, IsSized, IsSpared, IsTurn, IsUnseen, IsWithin, Kill, Kind, kind_of, least, load, Load, load_scope, load_watch, LoadIsLocal, Look, machine_count, max_amount, max_capacity, may, MeetsOtherPart, MeetsStranger, members, Migrate, no_row, node, Node, node_count, NodeId, Nodes, nodes_of, NodeSet, NoneAmong, Nowhere, Of, OfAll, On, one, only_of, Ordered, Pair, PassOnlyAt, Places, places_seen, Power, Powered, powered_at, powered_nodes, Presence, presences_of, present_at, Progress, Raise, Ready, ReasonKind, RegionView, Resume, room, Row, row_at, rule_watch, Running, same_element, same_place, Scope, SeesOnly, Separates, Separation, separation_scope, separation_seen, SetLoad, Sets, sets, setting, Settled, ShareNode, Shutdown, Sleeping, slice, Slices, Snapshot, Span, Stage, stage_at, Stands, stands_on, StandsUnder, start_of, Started, StartsPast, State, state_of, staying, StaysClear, StaysUsable, StaysWithin, Suffice, sum_to, surely, Suspend, Together, total, total_load_watch, Unended, unit_of, Usable, usable_watch, UsableIsLocal, Use, vm, Vm, VmId, Watch, watch_of, weigh, Weight, weight_of, What}
unfoldable pub use Rattle.closing.specs.Prelude.{held_at, held_by, slices_by, slices_of, sure, usable_at}
