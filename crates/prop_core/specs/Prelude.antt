-- What is cited together of this crate and of those below it, passed on from one place. Declares nothing.
pub use Rattle.prop_core.specs.Words.{AreFewer, AreLegal, Before, Change, Choice, choice_count, choices, domain_at, domain_before, DomainView, Element, HaveChoices, Instance, IsClosed, IsElement, IsOneOf, IsQuietKind, keeping, machine_count, Marked, Node, node_count, on_side, out_of_part, Part, Reason, ReasonKind, RegionView, same_element, Sets, sets, Vm}
pub use Rattle.prop_core.specs.Levels.{AllFollow, AtMarks, Follows, IsTrailOf}
pub use Rattle.prop_core.specs.Lists.{AllRight, BackSame, Covered, given_sum, is_covered, MarkedSame, Pairs, PostedSame, Rise, SameCover, steps_shown, ToldSame, TopsAgree}
pub use Rattle.prop_core.specs.Propagators.{AllQuiet, counted, CutHolds, FailHolds, IsAsked, IsNarrowed, IsRegionOf, IsRight, IsStandard, KeepsBelow, MayAnswer, Meaning, most, SameRule, TopAgrees}
pub use Rattle.prop_core.specs.declared.propagator.Answer.TheVariants.{Quiet}
