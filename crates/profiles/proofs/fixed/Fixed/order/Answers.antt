use Rattle.profiles.proofs.{Prelude.length, Prelude.sym, Prelude.subst, Prelude.AreOrders, FixedLemmas.order_at}
use Rattle.profiles.proofs.fixed.Fixed.order.Goals as goal

pub returns : goal.returns
returns c =
    let orders = subst (λ v. AreOrders c.args._p.now.given (length c.args._p.now.given.resources) v.orders) (sym c.self.view_is) c.requires.fixed.orders in
    rw c.deref.ensures.value (order_at c.args._p.now.given (length c.args._p.now.given.resources) c.args.r c.self.inside.orders.items c.index.result.now c.requires.resource orders (sym c.index.ensures))
