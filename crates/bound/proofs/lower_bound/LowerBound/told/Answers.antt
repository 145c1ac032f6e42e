use Rattle.std.proofs.Common.{ap, ◌∙◌}
use Rattle.relax.specs.Prelude.{domain_at, domain_before}
use Rattle.bound.proofs.CostLemmas.{is_told}
use Rattle.bound.proofs.lower_bound.LowerBound.told.Goals as goal

pub after_change-self-inside-requires-clause-narrowed :
    goal.after_change-self-inside-requires-clause-narrowed
after_change-self-inside-requires-clause-narrowed c = rw c.domain.ensures.domain c.requires.narrowed

pub after_change-self-inside-requires-clause-within :
    goal.after_change-self-inside-requires-clause-within
after_change-self-inside-requires-clause-within c =
    let agreed = ap (λ s. s.top) c.self.view_is ∙ c.requires.agreed in
    let told = is_told c.args.p.now.given c.args.p.now.sound c.args.g.now c.args.element _ c.self.inside.top c.requires.region c.requires.legal c.requires.element agreed in
    rw c.domain.ensures.domain told.within

pub after_change-self-inside-requires-clause-small :
    goal.after_change-self-inside-requires-clause-small
after_change-self-inside-requires-clause-small c =
    let agreed = ap (λ s. s.top) c.self.view_is ∙ c.requires.agreed in
    let told = is_told c.args.p.now.given c.args.p.now.sound c.args.g.now c.args.element _ c.self.inside.top c.requires.region c.requires.legal c.requires.element agreed in
    rw c.domain.ensures.domain told.small

pub returns-clause-top : goal.returns-clause-top
returns-clause-top c =
    let before = domain_before c.args.before c.args.kept.now (domain_at c.args.g.now c.args.element) in
    let agreed = ap (λ s. s.top) c.self.view_is ∙ c.requires.agreed in
    let told = is_told c.args.p.now.given c.args.p.now.sound c.args.g.now c.args.element before c.self.inside.top c.requires.region c.requires.legal c.requires.element agreed in
    told.sum c.after_change-self-inside.result (rw c.domain.ensures.domain at c.after_change-self-inside.ensures)
