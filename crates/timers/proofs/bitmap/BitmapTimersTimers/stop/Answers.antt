use Rattle.timers.proofs.Firsts.{meant_stop}
use Rattle.timers.proofs.bitmap.BitmapTimersTimers.stop.Goals as goal

pub returns : goal.returns
returns c =
    let s = c.args.self.now in
    let key = c.in_ok-key.ensures in
    (key.0, rw key.1 (meant_stop s.running s.deadlines c.args.key key.0))
