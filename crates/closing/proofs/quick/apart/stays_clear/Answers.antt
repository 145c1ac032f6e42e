use Rattle.closing.proofs.Prelude.{ap, sym, ◌∙◌, false≢true, choices, sets, vm, some_end}
use Rattle.closing.proofs.ApartLemmas.{clear_by}
use Rattle.closing.proofs.quick.apart.stays_clear.Goals as goal

pub returns-in-None : goal.returns-in-None
returns-in-None c =
    λ _. record {
      some = some_end (sets c.args.g.now (vm c.args.w.0)) (λ e. false≢true (sym c.if-is_empty.false ∙ c.is_empty.ensures.1 (ap choices c.domain.ensures.domain ∙ e)));
      ends = clear_by c.args.p.now.given (sets c.args.g.now) c.args.t c.args.v.0 c.args.w.0 c.args.stands c.requires.stands c.in-None.ensures.none;
    }
