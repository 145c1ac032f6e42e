use Rattle.std.proofs.Common.{slice_get}
use Rattle.base.proofs.Public.{◌∙◌, ap, sym, option_and_then}
use Rattle.rule_script.specs.Kinds.{kind_of}
use Rattle.rule_script.specs.declared.kinds.TheConstants.{RULE_KINDS}
use Rattle.rule_script.proofs.kinds.kind_of.Goals as goal

pub returns : goal.returns
unfolding kind_of
returns c = sym c.kind_at.ensures ∙ ap (option_and_then (slice_get RULE_KINDS)) (sym c.in_ok-place.was ∙ c.place_of.ensures.place)

pub returns-in_err-place : goal.returns-in_err-place
unfolding kind_of
returns-in_err-place c = c.from_residual.ensures ∙ ap (option_and_then (slice_get RULE_KINDS)) (sym c.in_err-place.was ∙ c.place_of.ensures.place)
