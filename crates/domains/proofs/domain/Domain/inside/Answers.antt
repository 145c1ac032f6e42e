use Rattle.domains.proofs.PartLemmas.{inside_idle}
use Rattle.domains.proofs.domain.Domain.inside.Goals as goal

pub returns-in-Idle-clause-set : goal.returns-in-Idle-clause-set
returns-in-Idle-clause-set c =
    rw (c.in-Idle.is, c.new.ensures, ← c.self.view_is) (inside_idle c.self.inside.idle c.self.inside.rows.rows)
