use Rattle.profiles.proofs.Prelude.{ap, slice_set, subst, sym, ℕ, AreFirsts, choices, IsNoLater, Levels, sets}
use Rattle.profiles.proofs.FirstLemmas.{firsts_put}
use Rattle.profiles.proofs.firsts.Firsts.put.Goals as goal

pub returns-clause-top : goal.returns-clause-top
returns-clause-top c =
    let right : AreFirsts c.args.p.now.given (sets c.args.g.now) c.self.inside.starts.top = subst (λ (m : Levels ℕ). AreFirsts c.args.p.now.given (sets c.args.g.now) m.top) (sym c.self.view_is) c.requires.right in
    let put = firsts_put c.args.p.now.given (sets c.args.g.now) c.args.n.0 c.args.v.0 c.first_at-first.result c.self.inside.starts.top c.requires.node c.requires.machine right (subst (λ d. IsNoLater (choices d) c.args.n.0 c.first_at-first.result) c.domain.ensures.domain c.first_at-first.ensures) in
    subst (λ xs. AreFirsts c.args.p.now.given (sets c.args.g.now) xs) (sym (ap (λ (m : Levels ℕ). m.top) c.in_ok-set.ensures.ok))
    (subst (λ i. AreFirsts c.args.p.now.given (sets c.args.g.now) (slice_set c.self.inside.starts.top i c.first_at-first.result)) (sym c.slot_of.ensures.slot) put)
