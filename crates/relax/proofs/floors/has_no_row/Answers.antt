use Rattle.relax.proofs.Prelude.{◌+◌, ◌-◌, inl, inr, length, arith, cases_lt, no_row}
use Rattle.relax.proofs.FloorLemmas.{not_there}
use Rattle.relax.proofs.floors.has_no_row.Goals as goal

pub returns-then-k-number : goal.returns-then-k-number
returns-then-k-number c =
    λ _ j d l.
    elim (cases_lt j ((length c.args.rows.now + c.args.n.0) - c.args.count)) [
      | inl early ↦
          not_there c.args.rows.now c.args.count c.args.n.0 j no_row no_row d c.requires.climbs c.requires.first c.requires.last l (inl early)
      | inr from ↦
          elim (cases_lt c.args.n.0 j) [
            | inl late ↦
                not_there c.args.rows.now c.args.count c.args.n.0 j no_row no_row d c.requires.climbs c.requires.first c.requires.last l (inr late)
            | inr upto ↦ c.loop-k.invariant j d from (omega (arith, upto)) l
          ]
    ]

pub returns : goal.returns
returns c =
    λ _ j d l.
    elim (cases_lt j ((length c.args.rows.now + c.args.n.0) - c.args.count)) [
      | inl early ↦
          not_there c.args.rows.now c.args.count c.args.n.0 j no_row no_row d c.requires.climbs c.requires.first c.requires.last l (inl early)
      | inr from ↦ c.loop-k.invariant j d from (omega (arith, l)) l
    ]
