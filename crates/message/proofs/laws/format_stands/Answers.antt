use Rattle.message.proofs.Back.{reads_back}
use Rattle.message.proofs.Accepted.{accepted_is_lawful, accepted_is_row, one_row}
use Rattle.message.proofs.laws.format_stands.Goals as goal

pub returns : goal.returns
returns c = record { reads_back = reads_back; lawful = accepted_is_lawful; row = accepted_is_row; one = one_row }
