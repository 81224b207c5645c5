use Rattle.timers.proofs.Firsts.{meant_set}
use Rattle.timers.proofs.bitmap.BitmapTimersTimers.set.Goals as goal

pub returns : goal.returns
returns c =
    let s = c.args.self.now in
    let key = c.in_ok-key.ensures in
    (key.0, rw key.1 (meant_set s.running s.deadlines c.args.key c.args.deadline key.0 s.sized))
