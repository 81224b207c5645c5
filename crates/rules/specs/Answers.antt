-- What a board answers, and an answer by its numbers and its lists.
use Rattle.std.specs.Prelude.{ℕ, Bool, ◌&&◌, Ok, Err, Result, nat_le}
use Rattle.message.specs.declared.record.Message.{Message}
use Rattle.leg.specs.declared.codes.Ended.{Ended}
use Rattle.leg.specs.declared.codes.Note.{Note}
use Rattle.leg.specs.declared.codes.Refusal.{Refusal}
use Rattle.leg.specs.declared.record.Leg.{Leg}
use Rattle.leg.specs.declared.reaction.UpToTwo.{UpToTwo}
use Rattle.leg.specs.declared.reaction.UpToTwo.TheVariants as few
use Rattle.leg.specs.Codes.{refusal_number, refusal_value, note_number, note_value}
use Rattle.rules.specs.declared.answer.Outcome.{Outcome}
use Rattle.rules.specs.declared.answer.Outcome.TheVariants as outcome

-- a refusal, or what an accepted call came to
abbrev pub Answer : Type 0
Answer = Result Outcome Refusal

abbrev pub did : Note → UpToTwo Message → UpToTwo Ended → Answer
did n sent ends = Ok (outcome.Done (record { note = n; sent = sent; ends = ends }))

abbrev pub taken : Message → Answer
taken m = Ok (outcome.Taken m)

abbrev pub shown : Leg → Answer
shown l = Ok (outcome.Shown l)

-- the number of the refusal, 0 where there is none
abbrev pub answer_refusal : Answer → ℕ
answer_refusal a = elim a [ Err r ↦ refusal_number r | Ok o ↦ elim o [ outcome.Done d ↦ 0 | outcome.Taken _ ↦ 0 | outcome.Shown _ ↦ 0 ] ]

-- the number of the note, 0 where there is none
abbrev pub answer_note : Answer → ℕ
answer_note a = elim a [ Err _ ↦ 0 | Ok o ↦ elim o [ outcome.Done d ↦ note_number d.note | outcome.Taken _ ↦ 0 | outcome.Shown _ ↦ 0 ] ]

-- the value of the refusal or of the note
abbrev pub answer_value : Answer → ℕ
answer_value a = elim a [ Err r ↦ refusal_value r | Ok o ↦ elim o [ outcome.Done d ↦ note_value d.note | outcome.Taken _ ↦ 0 | outcome.Shown _ ↦ 0 ] ]

-- the messages that are named as sent: what was taken is not among them
abbrev pub answer_sent : Answer → UpToTwo Message
answer_sent a = elim a [ Err _ ↦ few.Zero | Ok o ↦ elim o [ outcome.Done d ↦ d.sent | outcome.Taken _ ↦ few.Zero | outcome.Shown _ ↦ few.Zero ] ]

abbrev pub answer_ends : Answer → UpToTwo Ended
answer_ends a = elim a [ Err _ ↦ few.Zero | Ok o ↦ elim o [ outcome.Done d ↦ d.ends | outcome.Taken _ ↦ few.Zero | outcome.Shown _ ↦ few.Zero ] ]

-- a station's own number: 1 to 65,535
abbrev pub in_own_range : ℕ → Bool
in_own_range n = nat_le 1 n && nat_le n 65535
