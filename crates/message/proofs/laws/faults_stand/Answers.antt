use Rattle.message.proofs.Faults.{fault_is_wrong, fault_is_first}
use Rattle.message.proofs.laws.faults_stand.Goals as goal

pub returns : goal.returns
returns c = record { wrong = fault_is_wrong; first = fault_is_first }
