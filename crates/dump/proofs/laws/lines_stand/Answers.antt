use Rattle.dump.proofs.Again.{digits_back, prints_again}
use Rattle.dump.proofs.laws.lines_stand.Goals as goal

pub returns : goal.returns
returns c = record { digits = digits_back; again = prints_again }
