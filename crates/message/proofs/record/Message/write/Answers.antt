use Rattle.message.proofs.Back.{reads_back}
use Rattle.message.proofs.record.Message.write.Goals as goal

pub returns-clause-back : goal.returns-clause-back
returns-clause-back c = λ lawful. rw c.encode.ensures (reads_back c.args.self.now lawful)
