use Rattle.transcript.proofs.Public.{faults_leave_a_beginning}
use Rattle.transcript.proofs.laws.faults_leave_a_beginning.Goals as goal

pub returns : goal.returns
returns c = faults_leave_a_beginning
