use Rattle.std.proofs.Common.{◌≡◌, Some, sym, ap, subst, ◌∙◌, inl, inr}
use Rattle.slices.specs.Prelude.{element_named, SoundInstance}
use Rattle.executor.specs.Prelude.{MayStart}
use Rattle.executor.specs.declared.phase.Phase.TheVariants.{Ended, Failed}
use Rattle.repair.specs.Events.{IsEvent}
use Rattle.repair.specs.Prelude.{choices_of, inventory_of, phases_of, Word}
use Rattle.repair.proofs.EventLemmas.{no_start, no_stop, tells}
use Rattle.repair.specs.declared.words.Word.TheVariants.{Start, End, Fail}
use Rattle.repair.proofs.following.apply.Goals as goal

pub returns-in-Err-clause-event : goal.returns-in-Err-clause-event
returns-in-Err-clause-event c =
    let p = c.args.p.now.given in
    let m = c.args.m.now in
    let name = c.in-Some.name.now in
    let e = c.in-Some-find.e in
    let event = subst (λ (w : Word). IsEvent c.args.text.now w name) c.in-Start.is c.in-Some.ensures in
    let named : element_named (inventory_of p) name ≡ Some e = sym (ap (λ k. element_named k name) c.cluster.ensures.cluster) ∙ sym c.find.ensures.element ∙ c.in-Some-find.is in
    let refused = no_start (Unit {0}) m.problem.given (choices_of m.plan) (phases_of m) (phases_of c.start.new.self) e c.in-Err.field-0 c.in-Err.ensures.event in
    ((e, tells p c.args.text.now Start name e event named, subst (λ (x : SoundInstance). ¬ MayStart x.given (choices_of m.plan) (phases_of m) e) c.requires refused.0), refused.1)

pub returns-in-Err-ended-clause-event : goal.returns-in-Err-ended-clause-event
returns-in-Err-ended-clause-event c =
    let p = c.args.p.now.given in
    let m = c.args.m.now in
    let name = c.in-Some.name.now in
    let e = c.in-Some-find.e in
    let event = subst (λ (w : Word). IsEvent c.args.text.now w name) c.in-End.is c.in-Some.ensures in
    let named : element_named (inventory_of p) name ≡ Some e = sym (ap (λ k. element_named k name) c.cluster.ensures.cluster) ∙ sym c.find.ensures.element ∙ c.in-Some-find.is in
    let refused = no_stop (Unit {0}) (phases_of m) (phases_of c.ended.new.self) e Ended c.in-Err-ended.field-0 c.in-Err-ended.ensures.event in
    ((e, inl (tells p c.args.text.now End name e event named), refused.0), refused.1)

pub returns-in-Err-failed-clause-event : goal.returns-in-Err-failed-clause-event
returns-in-Err-failed-clause-event c =
    let p = c.args.p.now.given in
    let m = c.args.m.now in
    let name = c.in-Some.name.now in
    let e = c.in-Some-find.e in
    let event = subst (λ (w : Word). IsEvent c.args.text.now w name) c.in-Fail.is c.in-Some.ensures in
    let named : element_named (inventory_of p) name ≡ Some e = sym (ap (λ k. element_named k name) c.cluster.ensures.cluster) ∙ sym c.find.ensures.element ∙ c.in-Some-find.is in
    let refused = no_stop (Unit {0}) (phases_of m) (phases_of c.failed.new.self) e Failed c.in-Err-failed.field-0 c.in-Err-failed.ensures.event in
    ((e, inr (tells p c.args.text.now Fail name e event named), refused.0), refused.1)
