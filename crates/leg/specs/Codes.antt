-- The number of each refusal, note and cause, and the value of those that have one, each said once.
use Rattle.std.specs.Prelude.{ℕ}
use Rattle.leg.specs.declared.codes.Refusal.{Refusal}
use Rattle.leg.specs.declared.codes.Refusal.TheVariants as refusal
use Rattle.leg.specs.declared.codes.Note.{Note}
use Rattle.leg.specs.declared.codes.Note.TheVariants as note
use Rattle.leg.specs.declared.codes.Cause.{Cause}
use Rattle.leg.specs.declared.codes.Cause.TheVariants as cause

abbrev pub refusal_number : Refusal → ℕ
refusal_number refusal.BadSettings = 1
refusal_number refusal.BadQueueSize = 2
refusal_number refusal.NoSuchLeg = 3
refusal_number refusal.BadAddress = 4
refusal_number refusal.BadTime = 5
refusal_number (refusal.BadMessage _) = 6
refusal_number refusal.LegInUse = 7
refusal_number refusal.LegFree = 8
refusal_number refusal.NotActive = 9
refusal_number refusal.SameLeg = 10
refusal_number refusal.NotIdle = 11
refusal_number refusal.WrongState = 12
refusal_number refusal.HoldNotIdle = 13
refusal_number refusal.NoNumberLeft = 14
refusal_number refusal.QueueFull = 15

-- only a wrong message has a value: its first wrong byte
abbrev pub refusal_value : Refusal → ℕ
refusal_value refusal.BadSettings = 0
refusal_value refusal.BadQueueSize = 0
refusal_value refusal.NoSuchLeg = 0
refusal_value refusal.BadAddress = 0
refusal_value refusal.BadTime = 0
refusal_value (refusal.BadMessage f) = f.byte
refusal_value refusal.LegInUse = 0
refusal_value refusal.LegFree = 0
refusal_value refusal.NotActive = 0
refusal_value refusal.SameLeg = 0
refusal_value refusal.NotIdle = 0
refusal_value refusal.WrongState = 0
refusal_value refusal.HoldNotIdle = 0
refusal_value refusal.NoNumberLeft = 0
refusal_value refusal.QueueFull = 0

abbrev pub note_number : Note → ℕ
note_number note.Done = 0
note_number note.Stray = 1
note_number note.NoneDue = 2
note_number note.QueueEmpty = 3
note_number (note.Asked _) = 4
note_number note.Held = 5
note_number note.Retrieved = 6
note_number note.Ringing = 7
note_number note.SetupLapsed = 8

-- only a transfer that is asked for has a value: the address to call
abbrev pub note_value : Note → ℕ
note_value note.Done = 0
note_value note.Stray = 0
note_value note.NoneDue = 0
note_value note.QueueEmpty = 0
note_value (note.Asked a) = a
note_value note.Held = 0
note_value note.Retrieved = 0
note_value note.Ringing = 0
note_value note.SetupLapsed = 0

abbrev pub cause_number : Cause → ℕ
cause_number cause.Result = 1
cause_number cause.Fault = 2
cause_number cause.Timeout = 3
cause_number cause.Cleared = 4
