-- When two pairs of numbers are the same.
use Rattle.standings.proofs.Prelude.{◌≡◌, Option, Some, None, sym, ◌∙◌, Arrival, Standing}

both : (a b : Standing) → a.leave ≡ b.leave → a.come ≡ b.come → a ≡ b
both a b e f = λ i. record { leave = e i; come = f i }

arrivals : (x y : Arrival) → x.node.0 ≡ y.node.0 → x.last ≡ y.last → ◌≡◌ {A = Option Arrival} (Some x) (Some y)
arrivals x y e f = λ i. Some (record { node = record { 0 = e i }; last = f i })

pub same_none : (a b : Standing) → a.come ≡ None → b.come ≡ None → a.leave ≡ b.leave → a ≡ b
same_none a b x y e = both a b e (x ∙ sym y)

pub same_some : (a b : Standing) (x y : Arrival) → a.come ≡ Some x → b.come ≡ Some y → a.leave ≡ b.leave → x.node.0 ≡ y.node.0 → x.last ≡ y.last → a ≡ b
same_some a b x y f g e n t = both a b e (f ∙ arrivals x y n t ∙ sym g)
