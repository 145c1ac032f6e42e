use Rattle.profiles.proofs.{Prelude.arith, Prelude.sym, Prelude.◌∙◌, Prelude.choices, FirstLemmas.some_first}
use Rattle.profiles.proofs.firsts.first_at.Goals as goal

pub returns : goal.returns
returns c =
    some_first (choices c.args.domain.now) (choices c.inside-there.result) c.args.n.0 c.min.result c.in-Some.start c.inside-there.ensures.set (sym c.lowest.ensures ∙ c.in-Some.is) (omega (arith, c.min.ensures))
