use Rattle.rule_load.proofs.Prelude.{refl, choices, domain_at, domain_before, machine_count, narrowed_is_fewer, sets, sets_before, movers_told}
use Rattle.rule_load.proofs.KeptLemmas.{cache_told, come_told, hold_told, kept_fewer, kept_movers}
use Rattle.load_bounds.proofs.Public.{rooms_told}
use Rattle.rule_load.proofs.keeper.LoadKeeperKeeper.told.Goals as goal

pub told-requires-clause-fewer : goal.told-requires-clause-fewer
told-requires-clause-fewer c = narrowed_is_fewer c.args.p.now.given c.args.g.now c.args.change c.args.before c.args.kept.now c.requires.narrowed

pub told-requires-2-clause-right : goal.told-requires-2-clause-right
told-requires-2-clause-right c = kept_fewer c.args.p.now.given c.args.g.now c.args.change c.args.before c.args.kept.now c.args.self.now.table c.args.self.now.fixed c.args.self.now.near c.args.self.now.firsts c.args.self.now.movers c.args.self.now.rooms c.args.self.now.hold_on c.requires.narrowed c.requires.right

pub returns-clause-told : goal.returns-clause-told
returns-clause-told c =
    let come = come_told c.args.p.now.given c.args.g.now c.args.change.element c.args.before c.args.kept.now c.told.new.self.top c.args.self.now.near c.put_changed.new.self.near (machine_count c.args.p.now.given) c.requires.right.come (c.in_ok-put_changed.ensures.grows) c.in_ok-told.ensures.top c.in_ok-put_changed.ensures.there in
    let movers = movers_told c.args.p.now.given (sets c.args.g.now) c.args.change.element (choices (domain_before c.args.before c.args.kept.now (domain_at c.args.g.now c.args.change.element))) c.args.self.now.movers.top c.told-3.new.self.top (machine_count c.args.p.now.given) refl
    (kept_movers c.args.p.now.given (sets_before c.args.g.now c.args.change.element c.args.before c.args.kept.now) c.args.self.now.table c.args.self.now.fixed c.args.self.now.near c.args.self.now.firsts c.args.self.now.movers c.args.self.now.rooms c.args.self.now.hold_on c.requires.right) c.in_ok-told-3.ensures.grown c.in_ok-told-3.ensures.told in
    let rooms = rooms_told c.args.p.now.given (sets c.args.g.now) c.args.change.element (choices (domain_before c.args.before c.args.kept.now (domain_at c.args.g.now c.args.change.element))) c.args.self.now.rooms c.told-4.new.self c.requires.right.rooms c.in_ok-told-4.ensures.widened c.in_ok-told-4.ensures.told in
    rw (c.put_changed.ensures.table, c.put_changed.ensures.fixed, c.put_changed.ensures.firsts, c.put_changed.ensures.movers, c.put_changed.ensures.rooms, c.put_changed.ensures.hold_on)
    (cache_told c.args.p.now.given (sets c.args.g.now) (sets_before c.args.g.now c.args.change.element c.args.before c.args.kept.now) c.args.self.now.table c.told.new.self c.args.self.now.fixed c.args.self.now.near c.put_changed.new.self.near c.args.self.now.firsts c.told-2.new.self c.args.self.now.movers
    c.told-3.new.self c.args.self.now.rooms c.told-4.new.self c.args.self.now.hold_on c.in_ok-told.ensures.older c.in_ok-told-2.ensures.older c.in_ok-told-3.ensures.older c.in_ok-told.ensures.top c.in_ok-told-2.ensures.top c.requires.right c.in_ok-put_changed.ensures.grows come movers c.in_ok-told-4.ensures.widened rooms
    (λ on. hold_told c.args.p.now.given c.args.g.now c.args.change c.args.before c.args.kept.now c.requires.narrowed (c.requires.right.hold on)))
