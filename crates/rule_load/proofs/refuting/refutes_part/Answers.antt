use Rattle.std.proofs.Common.{sym, ap, ◌∙◌}
use Rattle.rule_load.proofs.SetLemmas.{one_listed}
use Rattle.rule_load.proofs.refuting.refutes_part.Goals as goal

pub returns-in-Some : goal.returns-in-Some
returns-in-Some c = λ on.
    let over = c.overloads.ensures on in
    let one = sym c.area_of-area.ensures ∙ c.in-Some.ensures.1 in
    rw c.in-Load.is (record {
      may = tt;
      refuted = record {
        named = (over.0, over.1, one_listed c.args.p.now.given c.in-Load.set c.in-Some.n.0 c.in-Some.ensures.0 (λ m. ap (λ f. f m) one));
        says = rw one over.2;
      };
    })
