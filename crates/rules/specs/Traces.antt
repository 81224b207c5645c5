-- The station of the worked cases, and how a case is said.
use Rattle.std.specs.Prelude.{◌≡◌, ℕ, List, [], Some, None, Option, slice_index_or, Err}
use Rattle.std.proofs.Common.{lit≤}
use Rattle.message.specs.declared.codes.Carrier.{Carrier}
use Rattle.message.specs.declared.codes.Carrier.TheVariants.{Facility, ReleaseComplete}
use Rattle.message.specs.declared.codes.Kind.{Kind}
use Rattle.message.specs.declared.codes.Kind.TheVariants.{Nothing, Invoke, Error}
use Rattle.message.specs.declared.codes.Operation.{Operation}
use Rattle.message.specs.declared.codes.Operation.TheVariants.{CallTransferAbandon}
use Rattle.message.specs.declared.codes.ErrorCode.{ErrorCode}
use Rattle.message.specs.declared.record.Message.{Message}
use Rattle.message.specs.Format.{row_of}
use Rattle.leg.specs.declared.codes.Cause.{Cause}
use Rattle.leg.specs.declared.codes.Ended.{Ended}
use Rattle.leg.specs.declared.codes.Note.{Note}
use Rattle.leg.specs.declared.codes.Note.TheVariants as note
use Rattle.leg.specs.declared.codes.Refusal.{Refusal}
use Rattle.leg.specs.declared.record.Leg.{Leg}
use Rattle.leg.specs.declared.reaction.UpToTwo.TheVariants as few
use Rattle.leg.specs.Views.{free_leg}
use Rattle.rules.specs.Answers.{Answer, did}
use Rattle.rules.specs.declared.call.Call.{Call}
use Rattle.rules.specs.declared.call.Call.TheVariants as call
use Rattle.rules.specs.declared.settings.Settings.{Settings}
use Rattle.rules.specs.States.{State, fresh}
use Rattle.rules.specs.Runs.{runs}

-- own number 200; CT-T1 to CT-T4 10, 20, 30 and 25 ticks, hold T1 and T2 5 ticks
abbrev pub station : Settings
station = record {
  own = 200;
  values = record {
    ct_t1 = record { ticks = 10; least = lit≤ tt; most = lit≤ tt };
    ct_t2 = record { ticks = 20; least = lit≤ tt; most = lit≤ tt };
    ct_t3 = record { ticks = 30; least = lit≤ tt; most = lit≤ tt };
    ct_t4 = record { ticks = 25; least = lit≤ tt; most = lit≤ tt };
    hold_t1 = record { ticks = 5; least = lit≤ tt; most = lit≤ tt };
    hold_t2 = record { ticks = 5; least = lit≤ tt; most = lit≤ tt };
  };
  least = lit≤ tt;
  most = lit≤ tt;
}

-- a fresh board of a station whose hold T2 differs from its hold T1: 7 ticks
abbrev pub slow_board : State
slow_board =
    fresh
    (record {
      own = 200;
      values = record {
        ct_t1 = station.values.ct_t1;
        ct_t2 = station.values.ct_t2;
        ct_t3 = station.values.ct_t3;
        ct_t4 = station.values.ct_t4;
        hold_t1 = station.values.hold_t1;
        hold_t2 = record { ticks = 7; least = lit≤ tt; most = lit≤ tt };
      };
      least = lit≤ tt;
      most = lit≤ tt;
    })
    64

-- a board with all legs free that has one request number left
abbrev pub late_board : State
late_board =
    record {
      settings = station;
      time = 0;
      next = Some 65535;
      legs = (fresh station 64).legs;
      deadlines = (fresh station 64).deadlines;
      waiting = [];
      capacity = 64;
    }

-- the answers to these calls on a fresh board with this capacity
abbrev pub answers_with : ℕ → List Call → List Answer
answers_with capacity calls = (runs (fresh station capacity) calls).0

abbrev pub Answers : List Call → List Answer → Type 0
Answers calls answers = answers_with 64 calls ≡ answers

-- the board after these calls, one of its records, and a timer by its key
abbrev pub state_after : List Call → State
state_after calls = (runs (fresh station 64) calls).1

abbrev pub leg_after : List Call → ℕ → Leg
leg_after calls i = slice_index_or (state_after calls).legs i free_leg

abbrev pub timer_after : List Call → ℕ → Option ℕ
timer_after calls k = (state_after calls).deadlines k

-- bytes are heard; where they lie in memory does not matter
abbrev pub heard_bytes : List ℕ → Call
heard_bytes bytes = call.Heard (record { ref_ptr = (0, 0); now = bytes })

abbrev pub heard : Message → Call
heard m = heard_bytes (row_of m)

-- messages by carrier, kind, operation, leg, number, identity, address
abbrev pub bare : Carrier → ℕ → Message
bare c l = record { carrier = c; kind = Nothing; operation = None; leg = l; number = 0; identity = 0; address = 0; error = None }

abbrev pub with : Carrier → Kind → Operation → ℕ → ℕ → ℕ → ℕ → Message
with c k o l n i a = record { carrier = c; kind = k; operation = Some o; leg = l; number = n; identity = i; address = a; error = None }

abbrev pub with_error : Carrier → Operation → ℕ → ℕ → ErrorCode → Message
with_error c o l n e = record { carrier = c; kind = Error; operation = Some o; leg = l; number = n; identity = 0; address = 0; error = Some e }

abbrev pub release : ℕ → Message
release l = bare ReleaseComplete l

abbrev pub abandon : ℕ → Message
abandon l = with Facility Invoke CallTransferAbandon l 0 0 0

abbrev pub noted : Note → Answer
noted n = did n few.Zero few.Zero

-- done, with nothing to say
abbrev pub done : Answer
done = noted note.Done

abbrev pub stray : Answer
stray = noted note.Stray

abbrev pub sends : Message → Answer
sends m = did note.Done (few.One m) few.Zero

abbrev pub sends_two : Message → Message → Answer
sends_two m n = did note.Done (few.Two m n) few.Zero

abbrev pub end : ℕ → Cause → Ended
end n c = record { number = n; cause = c }

abbrev pub ends : ℕ → Cause → Answer
ends n c = did note.Done few.Zero (few.One (end n c))

abbrev pub sends_ends : Message → ℕ → Cause → Answer
sends_ends m n c = did note.Done (few.One m) (few.One (end n c))

abbrev pub refused : Refusal → Answer
refused r = Err r
