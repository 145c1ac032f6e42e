use Rattle.profiles.proofs.NearLemmas.{next_near}
use Rattle.profiles.proofs.near.Near.put_at_host.Goals as goal

pub returns-in_ok-put : goal.returns-in_ok-put
returns-in_ok-put c = next_near c.args.p.now.given c.args.v.0 c.in-Some.h.0 c.args.self.now c.put.new.self c.requires.machine c.requires.near c.in_ok-put.ensures (rw c.in-Some.is at c.host_of.ensures)
