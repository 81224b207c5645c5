-- The worked cases.
use Rattle.std.specs.Prelude.{◌≡◌, ℕ, ◌+◌, ◌^◌, List, [], ◌∷◌, ◌++◌, Some, None, refl}
use Rattle.std.proofs.Common.{ltb-true}
use Rattle.message.specs.declared.codes.Carrier.TheVariants.{Setup, Alerting, Connect, Facility, ReleaseComplete}
use Rattle.message.specs.declared.codes.Kind.TheVariants.{Invoke, Result, Reject}
use Rattle.message.specs.declared.codes.Operation.TheVariants.{CallTransferIdentify, CallTransferInitiate, CallTransferSetup, HoldNotific, RetrieveNotific, RemoteHold, RemoteRetrieve}
use Rattle.message.specs.declared.codes.ErrorCode.TheVariants as error
use Rattle.message.specs.declared.record.Message.{Message}
use Rattle.message.specs.Format.{row_of}
use Rattle.message.specs.Examples.{transfer_invoke, identify_result}
use Rattle.leg.specs.declared.codes.Cause.TheVariants as cause
use Rattle.leg.specs.declared.codes.Note.TheVariants as note
use Rattle.leg.specs.declared.codes.Refusal.TheVariants as refusal
use Rattle.leg.specs.declared.place.Place.{Place}
use Rattle.leg.specs.declared.record.Owed.{Owed}
use Rattle.leg.specs.declared.record.Phase.TheVariants as phase
use Rattle.leg.specs.declared.record.Bond.TheVariants as bond
use Rattle.leg.specs.declared.record.Transfer.TheVariants as transfer
use Rattle.leg.specs.declared.record.Holder.TheVariants as holder
use Rattle.leg.specs.declared.record.HoldKind.TheVariants as hold
use Rattle.leg.specs.declared.record.Leg.{Leg}
use Rattle.leg.specs.declared.reaction.UpToTwo.TheVariants as few
use Rattle.leg.specs.Views.{free_leg, with_phase, with_transfer, with_holder, with_held, active_leg}
use Rattle.rules.specs.Answers.{Answer, did, taken, shown}
use Rattle.rules.specs.Reports.{report_of}
use Rattle.rules.specs.declared.call.Call.{Call}
use Rattle.rules.specs.declared.call.Call.TheVariants as call
use Rattle.rules.specs.Runs.{runs}
use Rattle.rules.specs.Traces.{slow_board, late_board, answers_with, Answers, state_after, leg_after, timer_after, heard_bytes, heard, bare, with, with_error, release, abandon, noted, done, stray, sends, sends_two, end, ends, sends_ends, refused}

abbrev place3 : Place
place3 = record { index = 3; below = ltb-true 3 32 refl }

abbrev place4 : Place
place4 = record { index = 4; below = ltb-true 4 32 refl }

abbrev idle : ℕ → Leg
idle peer = active_leg peer

-- ---- transfer without consultation, at the end that transfers

-- leg 3 is transferred to 400
abbrev pub transfer_of3 : List Call
transfer_of3 = call.Open 3 300 ∷ call.Transfer 3 400 ∷ []

abbrev pub TransferSends : Type 0
TransferSends =
    (Answers transfer_of3 (done ∷ sends transfer_invoke ∷ []))
    × (row_of transfer_invoke ≡ 0x04 ∷ 0x01 ∷ 0x03 ∷ 0x03 ∷ 0x00 ∷ 0x01 ∷ 0x00 ∷ 0x00 ∷ 0x01 ∷ 0x90 ∷ 0x00 ∷ 0x00 ∷ 0x00 ∷ 0x00 ∷ 0x00 ∷ 0x00 ∷ [])
    × (leg_after transfer_of3 3 ≡ with_transfer (idle 300) (transfer.AwaitInitiate 1 None))
    × (timer_after transfer_of3 6 ≡ Some 30)

-- CT-T3 runs out at 30 and not before, and the result comes too late
abbrev pub transfer_lapses : List Call
transfer_lapses = transfer_of3 ++ call.Tick 29 ∷ call.Tick 30 ∷ heard (with Facility Result CallTransferInitiate 3 1 0 0) ∷ []

abbrev pub TransferLapses : Type 0
TransferLapses =
    (Answers transfer_lapses (done ∷ sends transfer_invoke ∷ noted note.NoneDue ∷ ends 1 cause.Timeout ∷ stray ∷ []))
    × (leg_after transfer_lapses 3 ≡ idle 300)
    × (timer_after transfer_lapses 6 ≡ None)

-- the result comes by FACILITY: the leg, which has no use now, is released
abbrev pub transfer_done : List Call
transfer_done = transfer_of3 ++ heard (with Facility Result CallTransferInitiate 3 1 0 0) ∷ []

abbrev pub TransferDone : Type 0
TransferDone =
    (Answers transfer_done (done ∷ sends transfer_invoke ∷ sends_ends (release 3) 1 cause.Result ∷ []))
    × (leg_after transfer_done 3 ≡ free_leg)
    × (timer_after transfer_done 6 ≡ None)

-- RELEASE COMPLETE with the result of this request ends it by result, and the leg with it
abbrev pub ReleaseMatches : Type 0
ReleaseMatches =
    (Answers (transfer_of3 ++ heard (with ReleaseComplete Result CallTransferInitiate 3 1 0 0) ∷ []) (done ∷ sends transfer_invoke ∷ ends 1 cause.Result ∷ []))
    × (leg_after (transfer_of3 ++ heard (with ReleaseComplete Result CallTransferInitiate 3 1 0 0) ∷ []) 3 ≡ free_leg)
    × (timer_after (transfer_of3 ++ heard (with ReleaseComplete Result CallTransferInitiate 3 1 0 0) ∷ []) 6 ≡ None)

-- RELEASE COMPLETE with the result of another, or with nothing, ends the request by clearing, and the leg with it
abbrev pub ReleaseOther : Type 0
ReleaseOther =
    (Answers (transfer_of3 ++ heard (with ReleaseComplete Result CallTransferInitiate 3 2 0 0) ∷ []) (done ∷ sends transfer_invoke ∷ ends 1 cause.Cleared ∷ []))
    × (leg_after (transfer_of3 ++ heard (with ReleaseComplete Result CallTransferInitiate 3 2 0 0) ∷ []) 3 ≡ free_leg)
    × (timer_after (transfer_of3 ++ heard (with ReleaseComplete Result CallTransferInitiate 3 2 0 0) ∷ []) 6 ≡ None)
    × (Answers (transfer_of3 ++ heard (release 3) ∷ []) (done ∷ sends transfer_invoke ∷ ends 1 cause.Cleared ∷ []))
    × (leg_after (transfer_of3 ++ heard (release 3) ∷ []) 3 ≡ free_leg)
    × (timer_after (transfer_of3 ++ heard (release 3) ∷ []) 6 ≡ None)

-- an error or a reject of the transfer: leg 3 is as before, and nobody is told
abbrev pub TransferFails : Type 0
TransferFails =
    (Answers (transfer_of3 ++ heard (with_error Facility CallTransferInitiate 3 1 error.EstablishmentFailure) ∷ []) (done ∷ sends transfer_invoke ∷ ends 1 cause.Fault ∷ []))
    × (Answers (transfer_of3 ++ heard (with Facility Reject CallTransferInitiate 3 1 0 0) ∷ []) (done ∷ sends transfer_invoke ∷ ends 1 cause.Fault ∷ []))
    × (leg_after (transfer_of3 ++ heard (with Facility Reject CallTransferInitiate 3 1 0 0) ∷ []) 3 ≡ idle 300)
    × (timer_after (transfer_of3 ++ heard (with Facility Reject CallTransferInitiate 3 1 0 0) ∷ []) 6 ≡ None)

-- a result with another number, of another operation or on another leg is stray, and the transfer goes on
abbrev pub OtherResults : Type 0
OtherResults =
    (Answers
    (transfer_of3 ++ heard (with Facility Result CallTransferInitiate 3 2 0 0) ∷ heard (with Facility Result RemoteHold 3 1 0 0) ∷ call.Open 4 400
    ∷ heard (with Facility Result CallTransferInitiate 4 1 0 0) ∷ heard (with Facility Result CallTransferInitiate 5 1 0 0) ∷ [])
    (done ∷ sends transfer_invoke ∷ stray ∷ stray ∷ done ∷ stray ∷ stray ∷ []))
    × (leg_after (transfer_of3 ++ heard (with Facility Result CallTransferInitiate 3 2 0 0) ∷ []) 3 ≡ with_transfer (idle 300) (transfer.AwaitInitiate 1 None))
    × (timer_after (transfer_of3 ++ heard (with Facility Result CallTransferInitiate 3 2 0 0) ∷ []) 6 ≡ Some 30)

-- ---- transfer with consultation, at the end that transfers: leg 3 is the primary, leg 4 the secondary

abbrev pub consult_of3 : List Call
consult_of3 = call.Open 3 300 ∷ call.Open 4 400 ∷ call.Consult 3 4 ∷ []

abbrev identify_on4 : Message
identify_on4 = with Facility Invoke CallTransferIdentify 4 1 0 0

abbrev initiate_on3 : Message
initiate_on3 = with Facility Invoke CallTransferInitiate 3 2 77 400

abbrev consult_sent : List Answer
consult_sent = done ∷ done ∷ sends identify_on4 ∷ []

abbrev pub ConsultSends : Type 0
ConsultSends =
    (Answers consult_of3 consult_sent)
    × (leg_after consult_of3 3 ≡ with_transfer (idle 300) (transfer.Bound (bond.Consulting place4)))
    × (leg_after consult_of3 4 ≡ with_transfer (idle 400) (transfer.AwaitIdentify 1 place3))
    × (timer_after consult_of3 8 ≡ Some 10)

-- the consulted station gives identity 77 at address 400
abbrev pub consult_identified : List Call
consult_identified = consult_of3 ++ heard (with Facility Result CallTransferIdentify 4 1 77 400) ∷ []

abbrev identified_sent : List Answer
identified_sent = consult_sent ++ sends_ends initiate_on3 1 cause.Result ∷ []

abbrev pub ConsultIdentified : Type 0
ConsultIdentified =
    (Answers consult_identified identified_sent)
    × (leg_after consult_identified 3 ≡ with_transfer (idle 300) (transfer.AwaitInitiate 2 (Some place4)))
    × (leg_after consult_identified 4 ≡ with_transfer (idle 400) (transfer.Bound (bond.Consulted place3)))
    × (timer_after consult_identified 8 ≡ None)
    × (timer_after consult_identified 6 ≡ Some 30)

-- the consulted station is to be met at 401, which is not where leg 4 called: that is where the transfer is asked to go, and no peer changes
abbrev pub identified_elsewhere : List Call
identified_elsewhere = consult_of3 ++ heard (with Facility Result CallTransferIdentify 4 1 78 401) ∷ []

abbrev pub IdentifiedElsewhere : Type 0
IdentifiedElsewhere =
    (Answers identified_elsewhere (consult_sent ++ sends_ends (with Facility Invoke CallTransferInitiate 3 2 78 401) 1 cause.Result ∷ []))
    × (leg_after identified_elsewhere 3 ≡ with_transfer (idle 300) (transfer.AwaitInitiate 2 (Some place4)))
    × (leg_after identified_elsewhere 4 ≡ with_transfer (idle 400) (transfer.Bound (bond.Consulted place3)))

-- an error for the transfer: the consulted station is told not to wait, and both legs are as before
abbrev pub consult_fails : List Call
consult_fails = consult_identified ++ heard (with_error Facility CallTransferInitiate 3 2 error.EstablishmentFailure) ∷ []

abbrev pub ConsultFails : Type 0
ConsultFails =
    (Answers consult_fails (identified_sent ++ sends_ends (abandon 4) 2 cause.Fault ∷ []))
    × (leg_after consult_fails 3 ≡ idle 300)
    × (leg_after consult_fails 4 ≡ idle 400)
    × (timer_after consult_fails 6 ≡ None)

-- a reject of the identify is as an error of it, and one of the transfer as an error of that
abbrev pub ConsultRejected : Type 0
ConsultRejected =
    (Answers (consult_of3 ++ heard (with Facility Reject CallTransferIdentify 4 1 0 0) ∷ []) (consult_sent ++ ends 1 cause.Fault ∷ []))
    × (leg_after (consult_of3 ++ heard (with Facility Reject CallTransferIdentify 4 1 0 0) ∷ []) 3 ≡ idle 300)
    × (leg_after (consult_of3 ++ heard (with Facility Reject CallTransferIdentify 4 1 0 0) ∷ []) 4 ≡ idle 400)
    × (timer_after (consult_of3 ++ heard (with Facility Reject CallTransferIdentify 4 1 0 0) ∷ []) 8 ≡ None)
    × (Answers (consult_identified ++ heard (with Facility Reject CallTransferInitiate 3 2 0 0) ∷ []) (identified_sent ++ sends_ends (abandon 4) 2 cause.Fault ∷ []))

-- CT-T3 runs out: the consulted station is told not to wait, and both legs are as before
abbrev pub ConsultLapses : Type 0
ConsultLapses =
    (Answers (consult_identified ++ call.Tick 29 ∷ call.Tick 30 ∷ []) (identified_sent ++ noted note.NoneDue ∷ sends_ends (abandon 4) 2 cause.Timeout ∷ []))
    × (leg_after (consult_identified ++ call.Tick 30 ∷ []) 3 ≡ idle 300)
    × (leg_after (consult_identified ++ call.Tick 30 ∷ []) 4 ≡ idle 400)
    × (timer_after (consult_identified ++ call.Tick 30 ∷ []) 6 ≡ None)

-- the transfer is done, which RELEASE COMPLETE says: the primary is free, the secondary is left to its far end
abbrev pub consult_done : List Call
consult_done = consult_identified ++ heard (with ReleaseComplete Result CallTransferInitiate 3 2 0 0) ∷ []

abbrev pub ConsultDone : Type 0
ConsultDone =
    (Answers consult_done (identified_sent ++ ends 2 cause.Result ∷ []))
    × (leg_after consult_done 3 ≡ free_leg)
    × (leg_after consult_done 4 ≡ idle 400)

-- the consulted station clears the secondary first, and then the transfer is done
abbrev pub ConsultDoneAlone : Type 0
ConsultDoneAlone =
    (Answers (consult_identified ++ heard (release 4) ∷ heard (with Facility Result CallTransferInitiate 3 2 0 0) ∷ []) (identified_sent ++ done ∷ sends_ends (release 3) 2 cause.Result ∷ []))
    × (leg_after (consult_identified ++ heard (release 4) ∷ heard (with Facility Result CallTransferInitiate 3 2 0 0) ∷ []) 3 ≡ free_leg)
    × (leg_after (consult_identified ++ heard (release 4) ∷ heard (with Facility Result CallTransferInitiate 3 2 0 0) ∷ []) 4 ≡ free_leg)
    × (timer_after (consult_identified ++ heard (release 4) ∷ heard (with Facility Result CallTransferInitiate 3 2 0 0) ∷ []) 6 ≡ None)

abbrev identify_error : Call
identify_error = heard (with_error Facility CallTransferIdentify 4 1 error.Unspecified)

-- no identity: by an error nothing is sent, by CT-T1 the far end is told not to wait
abbrev pub ConsultUnanswered : Type 0
ConsultUnanswered =
    (Answers (consult_of3 ++ identify_error ∷ []) (consult_sent ++ ends 1 cause.Fault ∷ []))
    × (leg_after (consult_of3 ++ identify_error ∷ []) 3 ≡ idle 300)
    × (leg_after (consult_of3 ++ identify_error ∷ []) 4 ≡ idle 400)
    × (timer_after (consult_of3 ++ identify_error ∷ []) 8 ≡ None)
    × (Answers (consult_of3 ++ call.Tick 10 ∷ []) (consult_sent ++ sends_ends (abandon 4) 1 cause.Timeout ∷ []))
    × (leg_after (consult_of3 ++ call.Tick 10 ∷ []) 3 ≡ idle 300)
    × (leg_after (consult_of3 ++ call.Tick 10 ∷ []) 4 ≡ idle 400)
    × (timer_after (consult_of3 ++ call.Tick 10 ∷ []) 8 ≡ None)

-- the primary is lost while the identity is awaited: the far end of the secondary is told not to wait
abbrev pub PrimaryLostConsulting : Type 0
PrimaryLostConsulting =
    (Answers (consult_of3 ++ heard (release 3) ∷ []) (consult_sent ++ sends_ends (abandon 4) 1 cause.Cleared ∷ []))
    × (leg_after (consult_of3 ++ heard (release 3) ∷ []) 3 ≡ free_leg)
    × (leg_after (consult_of3 ++ heard (release 3) ∷ []) 4 ≡ idle 400)
    × (timer_after (consult_of3 ++ heard (release 3) ∷ []) 8 ≡ None)

-- and the same while the transfer is awaited
abbrev pub PrimaryLostInitiating : Type 0
PrimaryLostInitiating =
    (Answers (consult_identified ++ call.Clear 3 ∷ []) (identified_sent ++ did note.Done (few.Two (release 3) (abandon 4)) (few.One (end 2 cause.Cleared)) ∷ []))
    × (leg_after (consult_identified ++ call.Clear 3 ∷ []) 3 ≡ free_leg)
    × (leg_after (consult_identified ++ call.Clear 3 ∷ []) 4 ≡ idle 400)
    × (timer_after (consult_identified ++ call.Clear 3 ∷ []) 6 ≡ None)

-- the secondary is lost while its identity is awaited: the primary is as before
abbrev pub SecondaryLostConsulting : Type 0
SecondaryLostConsulting =
    (Answers (consult_of3 ++ heard (release 4) ∷ []) (consult_sent ++ ends 1 cause.Cleared ∷ []))
    × (leg_after (consult_of3 ++ heard (release 4) ∷ []) 3 ≡ idle 300)
    × (leg_after (consult_of3 ++ heard (release 4) ∷ []) 4 ≡ free_leg)
    × (timer_after (consult_of3 ++ heard (release 4) ∷ []) 8 ≡ None)

-- the secondary is lost while the transfer is awaited, which goes on alone
abbrev pub SecondaryLost : Type 0
SecondaryLost =
    (Answers (consult_identified ++ heard (release 4) ∷ []) (identified_sent ++ done ∷ []))
    × (leg_after (consult_identified ++ heard (release 4) ∷ []) 3 ≡ with_transfer (idle 300) (transfer.AwaitInitiate 2 None))
    × (leg_after (consult_identified ++ heard (release 4) ∷ []) 4 ≡ free_leg)
    × (timer_after (consult_identified ++ heard (release 4) ∷ []) 6 ≡ Some 30)

-- ---- at the end that is transferred: leg 3 is asked to call 400, where identity 77 is known; leg 4 calls

abbrev initiate_heard : ℕ → Message
initiate_heard n = with Facility Invoke CallTransferInitiate 3 n 77 400

abbrev asked : Owed
asked = record { number = 9; identity = 77; address = 400 }

abbrev pub asked_on3 : List Call
asked_on3 = call.Open 3 300 ∷ heard (initiate_heard 9) ∷ []

abbrev asked_sent : List Answer
asked_sent = done ∷ noted (note.Asked 400) ∷ []

abbrev pub AskedOn3 : Type 0
AskedOn3 =
    (Answers asked_on3 asked_sent)
    × (leg_after asked_on3 3 ≡ with_transfer (idle 300) (transfer.Asked asked))

-- a second invoke, number 10 with identity 78 at address 401
abbrev second_heard : Call
second_heard = heard (with Facility Invoke CallTransferInitiate 3 10 78 401)

abbrev second_fails : Answer
second_fails = sends (with_error Facility CallTransferInitiate 3 10 error.Unspecified)

-- a second invoke while one is owed gets an error, also one with the number of the first, and the first stays owed
abbrev pub AskedTwice : Type 0
AskedTwice =
    (Answers (asked_on3 ++ heard (initiate_heard 9) ∷ []) (asked_sent ++ sends (with_error Facility CallTransferInitiate 3 9 error.Unspecified) ∷ []))
    × (leg_after (asked_on3 ++ heard (initiate_heard 9) ∷ []) 3 ≡ with_transfer (idle 300) (transfer.Asked asked))
    × (Answers (asked_on3 ++ second_heard ∷ []) (asked_sent ++ second_fails ∷ []))
    × (leg_after (asked_on3 ++ second_heard ∷ []) 3 ≡ with_transfer (idle 300) (transfer.Asked asked))

-- the host declines
abbrev pub AskedDeclined : Type 0
AskedDeclined =
    (Answers (asked_on3 ++ call.Decline 3 ∷ []) (asked_sent ++ sends (with_error Facility CallTransferInitiate 3 9 error.Unspecified) ∷ []))
    × (leg_after (asked_on3 ++ call.Decline 3 ∷ []) 3 ≡ idle 300)

-- the leg is lost before the host decides: what it owes is dropped, and there is nothing to decline or to place any more, also on the next call of that leg
abbrev pub AskedAndLost : Type 0
AskedAndLost =
    (Answers (asked_on3 ++ heard (release 3) ∷ call.Decline 3 ∷ call.Place 3 4 ∷ call.Open 3 300 ∷ call.Decline 3 ∷ call.Place 3 4 ∷ [])
    (asked_sent ++ done ∷ refused refusal.LegFree ∷ refused refusal.LegFree ∷ done ∷ refused refusal.WrongState ∷ refused refusal.WrongState ∷ []))
    × (leg_after (asked_on3 ++ heard (release 3) ∷ []) 3 ≡ free_leg)
    × (Answers (asked_on3 ++ call.Clear 3 ∷ []) (asked_sent ++ sends (release 3) ∷ []))

-- the host places the call
abbrev pub placed_on4 : List Call
placed_on4 = asked_on3 ++ call.Place 3 4 ∷ []

abbrev placed_sent : List Answer
placed_sent = asked_sent ++ sends (with Setup Invoke CallTransferSetup 4 1 77 200) ∷ []

abbrev calling : Leg
calling = record { phase = phase.Calling; peer = 400; transfer = transfer.AwaitSetupResponse 1 place3; holder = holder.Idle; held = None }

-- what leg 3 is owed, once the call has come about
abbrev initiate_done : Message
initiate_done = with ReleaseComplete Result CallTransferInitiate 3 9 0 0

-- and what, if it has not
abbrev initiate_failed : Message
initiate_failed = with_error Facility CallTransferInitiate 3 9 error.EstablishmentFailure

abbrev pub PlacedOn4 : Type 0
PlacedOn4 =
    (Answers placed_on4 placed_sent)
    × (leg_after placed_on4 3 ≡ with_transfer (idle 300) (transfer.Bound (bond.Placing place4 asked)))
    × (leg_after placed_on4 4 ≡ calling)
    × (timer_after placed_on4 8 ≡ Some 25)

-- a second invoke while the call on behalf of the first is placed gets an error too, and the first is what leg 4 calls for and what is owed
abbrev pub AskedWhilePlacing : Type 0
AskedWhilePlacing =
    (Answers (placed_on4 ++ second_heard ∷ heard (with Alerting Result CallTransferSetup 4 1 0 0) ∷ []) (placed_sent ++ second_fails ∷ sends_ends initiate_done 1 cause.Result ∷ []))
    × (leg_after (placed_on4 ++ second_heard ∷ []) 3 ≡ with_transfer (idle 300) (transfer.Bound (bond.Placing place4 asked)))
    × (leg_after (placed_on4 ++ second_heard ∷ []) 4 ≡ calling)
    × (timer_after (placed_on4 ++ second_heard ∷ []) 8 ≡ Some 25)

-- it alerts with the result: the transfer is done for leg 3, and leg 4 goes on; then it is answered
abbrev pub placed_done : List Call
placed_done = placed_on4 ++ heard (with Alerting Result CallTransferSetup 4 1 0 0) ∷ []

abbrev pub PlacedDone : Type 0
PlacedDone =
    (Answers (placed_done ++ heard (bare Connect 4) ∷ [])
    (placed_sent ++ sends_ends initiate_done 1 cause.Result ∷ done ∷ []))
    × (leg_after placed_done 3 ≡ free_leg)
    × (leg_after placed_done 4 ≡ with_phase (idle 400) phase.Alerting)
    × (timer_after placed_done 8 ≡ None)
    × (leg_after (placed_done ++ heard (with Connect Result CallTransferSetup 4 1 0 0) ∷ []) 4 ≡ idle 400)

-- it is answered at once, by CONNECT with the result
abbrev pub PlacedConnects : Type 0
PlacedConnects =
    (Answers (placed_on4 ++ heard (with Connect Result CallTransferSetup 4 1 0 0) ∷ []) (placed_sent ++ sends_ends initiate_done 1 cause.Result ∷ []))
    × (leg_after (placed_on4 ++ heard (with Connect Result CallTransferSetup 4 1 0 0) ∷ []) 3 ≡ free_leg)
    × (leg_after (placed_on4 ++ heard (with Connect Result CallTransferSetup 4 1 0 0) ∷ []) 4 ≡ idle 400)
    × (timer_after (placed_on4 ++ heard (with Connect Result CallTransferSetup 4 1 0 0) ∷ []) 8 ≡ None)

-- ALERTING or CONNECT with nothing, or with the result of another, is stray on a leg that calls; on one that alerts any CONNECT is the answer
abbrev pub ConnectsStray : Type 0
ConnectsStray =
    (Answers
    (placed_on4 ++ heard (bare Alerting 4) ∷ heard (bare Connect 4) ∷ heard (with Alerting Result CallTransferSetup 4 2 0 0) ∷ heard (with Connect Result CallTransferSetup 4 2 0 0) ∷ [])
    (placed_sent ++ stray ∷ stray ∷ stray ∷ stray ∷ []))
    × (leg_after (placed_on4 ++ heard (bare Connect 4) ∷ heard (with Connect Result CallTransferSetup 4 2 0 0) ∷ []) 4 ≡ calling)
    × (timer_after (placed_on4 ++ heard (bare Connect 4) ∷ heard (with Connect Result CallTransferSetup 4 2 0 0) ∷ []) 8 ≡ Some 25)
    × (Answers (placed_done ++ heard (with Connect Result CallTransferSetup 4 2 0 0) ∷ heard (bare Connect 4) ∷ []) (placed_sent ++ sends_ends initiate_done 1 cause.Result ∷ done ∷ stray ∷ []))

-- asked for without identity, the call is set up without one
abbrev pub PlacedPlain : Type 0
PlacedPlain =
    (Answers (call.Open 3 300 ∷ heard (with Facility Invoke CallTransferInitiate 3 9 0 400) ∷ call.Place 3 4 ∷ [])
    (done ∷ noted (note.Asked 400) ∷ sends (with Setup Invoke CallTransferSetup 4 1 0 200) ∷ []))
    × (leg_after (call.Open 3 300 ∷ heard (with Facility Invoke CallTransferInitiate 3 9 0 400) ∷ call.Place 3 4 ∷ []) 4 ≡ calling)

-- CT-T4 runs out: the call is given up, and its primary gets the error
abbrev pub placed_lapses : List Call
placed_lapses = placed_on4 ++ call.Tick 25 ∷ []

abbrev pub PlacedLapses : Type 0
PlacedLapses =
    (Answers placed_lapses (placed_sent ++ did note.Done (few.Two (release 4) initiate_failed) (few.One (end 1 cause.Timeout)) ∷ []))
    × (leg_after placed_lapses 3 ≡ idle 300)
    × (leg_after placed_lapses 4 ≡ free_leg)
    × (timer_after placed_lapses 8 ≡ None)

abbrev setup_error : Call
setup_error = heard (with_error ReleaseComplete CallTransferSetup 4 1 error.UnrecognizedCallIdentity)

-- the set-up fails: RELEASE COMPLETE with its error or reject is a fault, with nothing it is the loss of the leg
abbrev pub PlacedFails : Type 0
PlacedFails =
    (Answers (placed_on4 ++ setup_error ∷ []) (placed_sent ++ sends_ends initiate_failed 1 cause.Fault ∷ []))
    × (leg_after (placed_on4 ++ setup_error ∷ []) 3 ≡ idle 300)
    × (leg_after (placed_on4 ++ setup_error ∷ []) 4 ≡ free_leg)
    × (timer_after (placed_on4 ++ setup_error ∷ []) 8 ≡ None)
    × (Answers (placed_on4 ++ heard (with ReleaseComplete Reject CallTransferSetup 4 1 0 0) ∷ []) (placed_sent ++ sends_ends initiate_failed 1 cause.Fault ∷ []))
    × (Answers (placed_on4 ++ heard (release 4) ∷ []) (placed_sent ++ sends_ends initiate_failed 1 cause.Cleared ∷ []))
    × (leg_after (placed_on4 ++ heard (release 4) ∷ []) 3 ≡ idle 300)
    × (leg_after (placed_on4 ++ heard (release 4) ∷ []) 4 ≡ free_leg)
    × (timer_after (placed_on4 ++ heard (release 4) ∷ []) 8 ≡ None)

-- RELEASE COMPLETE with the error of another is the loss of the leg too
abbrev pub PlacedReleased : Type 0
PlacedReleased =
    Answers (placed_on4 ++ heard (with_error ReleaseComplete CallTransferSetup 4 2 error.UnrecognizedCallIdentity) ∷ []) (placed_sent ++ sends_ends initiate_failed 1 cause.Cleared ∷ [])

-- the primary is lost: the call on its behalf is given up
abbrev pub PrimaryLostPlacing : Type 0
PrimaryLostPlacing =
    (Answers (placed_on4 ++ heard (release 3) ∷ []) (placed_sent ++ sends_ends (release 4) 1 cause.Cleared ∷ []))
    × (leg_after (placed_on4 ++ heard (release 3) ∷ []) 3 ≡ free_leg)
    × (leg_after (placed_on4 ++ heard (release 3) ∷ []) 4 ≡ free_leg)
    × (timer_after (placed_on4 ++ heard (release 3) ∷ []) 8 ≡ None)

-- ---- at the end that is transferred to

-- leg 5 is asked for an identity, and gets 6 at this station's number
abbrev pub identified_on5 : List Call
identified_on5 = call.Open 5 500 ∷ heard (with Facility Invoke CallTransferIdentify 5 9 0 0) ∷ []

abbrev pub IdentityGiven : Type 0
IdentityGiven =
    (Answers identified_on5 (done ∷ sends identify_result ∷ []))
    × (row_of identify_result ≡ 0x04 ∷ 0x02 ∷ 0x01 ∷ 0x05 ∷ 0x00 ∷ 0x09 ∷ 0x00 ∷ 0x06 ∷ 0x00 ∷ 0xC8 ∷ 0x00 ∷ 0x00 ∷ 0x00 ∷ 0x00 ∷ 0x00 ∷ 0x00 ∷ [])
    × (leg_after identified_on5 5 ≡ with_transfer (idle 500) transfer.AwaitSetup)
    × (timer_after identified_on5 10 ≡ Some 20)

-- SETUP on leg 7 from 300
abbrev setup_on7 : ℕ → Call
setup_on7 i = heard (with Setup Invoke CallTransferSetup 7 1 i 300)

-- with identity 6 it takes the place of leg 5
abbrev pub SetupMet : Type 0
SetupMet =
    (Answers (identified_on5 ++ setup_on7 6 ∷ []) (done ∷ sends identify_result ∷ sends_two (with Connect Result CallTransferSetup 7 1 0 0) (release 5) ∷ []))
    × (leg_after (identified_on5 ++ setup_on7 6 ∷ []) 7 ≡ idle 300)
    × (leg_after (identified_on5 ++ setup_on7 6 ∷ []) 5 ≡ free_leg)
    × (timer_after (identified_on5 ++ setup_on7 6 ∷ []) 10 ≡ None)

abbrev setup_fails : Answer
setup_fails = sends (with_error ReleaseComplete CallTransferSetup 7 1 error.UnrecognizedCallIdentity)

-- with identity 8, that of leg 7 itself, it fails, and leg 7 stays free
abbrev pub SetupFails : Type 0
SetupFails =
    (Answers (identified_on5 ++ setup_on7 8 ∷ []) (done ∷ sends identify_result ∷ setup_fails ∷ []))
    × (leg_after (identified_on5 ++ setup_on7 8 ∷ []) 7 ≡ free_leg)
    × (leg_after (identified_on5 ++ setup_on7 8 ∷ []) 5 ≡ with_transfer (idle 500) transfer.AwaitSetup)
    × (timer_after (identified_on5 ++ setup_on7 8 ∷ []) 10 ≡ Some 20)

-- the queue has one free place of two: the matched SETUP, which sends two, is refused; the one that fails sends one
abbrev pub SetupNeedsTwo : Type 0
SetupNeedsTwo =
    (answers_with 2 (identified_on5 ++ setup_on7 6 ∷ []) ≡ done ∷ sends identify_result ∷ refused refusal.QueueFull ∷ [])
    × (answers_with 2 (identified_on5 ++ setup_on7 8 ∷ []) ≡ done ∷ sends identify_result ∷ setup_fails ∷ [])

-- the set-up does not come, or is called off
abbrev pub SetupLapses : Type 0
SetupLapses =
    (Answers (identified_on5 ++ call.Tick 20 ∷ []) (done ∷ sends identify_result ∷ noted note.SetupLapsed ∷ []))
    × (leg_after (identified_on5 ++ call.Tick 20 ∷ []) 5 ≡ idle 500)
    × (timer_after (identified_on5 ++ call.Tick 20 ∷ []) 10 ≡ None)
    × (Answers (identified_on5 ++ heard (abandon 5) ∷ []) (done ∷ sends identify_result ∷ done ∷ []))
    × (leg_after (identified_on5 ++ heard (abandon 5) ∷ []) 5 ≡ idle 500)
    × (timer_after (identified_on5 ++ heard (abandon 5) ∷ []) 10 ≡ None)

-- a SETUP fails with an identity above those of the legs, with that of a leg that is free, and with that of a leg that awaits none; the last leg's is 32
abbrev pub SetupsUnknown : Type 0
SetupsUnknown =
    (Answers (identified_on5 ++ setup_on7 33 ∷ setup_on7 9999 ∷ setup_on7 4 ∷ call.Open 3 300 ∷ setup_on7 4 ∷ []) (done ∷ sends identify_result ∷ setup_fails ∷ setup_fails ∷ setup_fails ∷ done ∷ setup_fails ∷ []))
    × (Answers (call.Open 31 310 ∷ heard (with Facility Invoke CallTransferIdentify 31 9 0 0) ∷ setup_on7 32 ∷ [])
    (done ∷ sends (with Facility Result CallTransferIdentify 31 9 32 200) ∷ sends_two (with Connect Result CallTransferSetup 7 1 0 0) (release 31) ∷ []))

-- the leg that awaits its set-up is lost: its timer stops, and the SETUP that comes then fails
abbrev pub SetupLost : Type 0
SetupLost =
    (Answers (identified_on5 ++ heard (release 5) ∷ setup_on7 6 ∷ []) (done ∷ sends identify_result ∷ done ∷ setup_fails ∷ []))
    × (leg_after (identified_on5 ++ heard (release 5) ∷ []) 5 ≡ free_leg)
    × (timer_after (identified_on5 ++ heard (release 5) ∷ []) 10 ≡ None)

-- a leg that rings is lost: there is nothing to accept
abbrev pub RingingLost : Type 0
RingingLost =
    (Answers (setup_on7 0 ∷ heard (release 7) ∷ call.Accept 7 ∷ []) (noted note.Ringing ∷ done ∷ refused refusal.LegFree ∷ []))
    × (leg_after (setup_on7 0 ∷ heard (release 7) ∷ []) 7 ≡ free_leg)

-- an identify or an initiate is answered by an error where a transfer goes on, and so is a second identify; nothing changes
abbrev pub InvokesFail : Type 0
InvokesFail =
    (Answers (transfer_of3 ++ heard (with Facility Invoke CallTransferIdentify 3 9 0 0) ∷ heard (initiate_heard 9) ∷ [])
    (done ∷ sends transfer_invoke ∷ sends (with_error Facility CallTransferIdentify 3 9 error.Unspecified) ∷ sends (with_error Facility CallTransferInitiate 3 9 error.Unspecified) ∷ []))
    × (leg_after (transfer_of3 ++ heard (with Facility Invoke CallTransferIdentify 3 9 0 0) ∷ heard (initiate_heard 9) ∷ []) 3 ≡ with_transfer (idle 300) (transfer.AwaitInitiate 1 None))
    × (Answers (identified_on5 ++ heard (with Facility Invoke CallTransferIdentify 5 10 0 0) ∷ []) (done ∷ sends identify_result ∷ sends (with_error Facility CallTransferIdentify 5 10 error.Unspecified) ∷ []))
    × (leg_after (identified_on5 ++ heard (with Facility Invoke CallTransferIdentify 5 10 0 0) ∷ []) 5 ≡ with_transfer (idle 500) transfer.AwaitSetup)
    × (timer_after (identified_on5 ++ heard (with Facility Invoke CallTransferIdentify 5 10 0 0) ∷ []) 10 ≡ Some 20)

-- an invoke on a free leg is stray, and so is an abandon where no set-up is awaited
abbrev pub InvokesStray : Type 0
InvokesStray =
    Answers (heard (with Facility Invoke CallTransferIdentify 5 9 0 0) ∷ heard (initiate_heard 9) ∷ heard (with Facility Invoke RemoteHold 5 9 0 0) ∷ call.Open 5 500 ∷ heard (abandon 5) ∷ [])
    (stray ∷ stray ∷ stray ∷ done ∷ stray ∷ [])

-- a SETUP on a leg in use is refused, also one without identity
abbrev pub SetupInUse : Type 0
SetupInUse =
    Answers (identified_on5 ++ call.Open 7 700 ∷ setup_on7 6 ∷ setup_on7 0 ∷ []) (done ∷ sends identify_result ∷ done ∷ refused refusal.LegInUse ∷ refused refusal.LegInUse ∷ [])

-- SETUP without identity rings, and the host accepts or declines
abbrev pub SetupRings : Type 0
SetupRings =
    (Answers (setup_on7 0 ∷ call.Accept 7 ∷ []) (noted note.Ringing ∷ sends (with Connect Result CallTransferSetup 7 1 0 0) ∷ []))
    × (leg_after (setup_on7 0 ∷ call.Accept 7 ∷ []) 7 ≡ idle 300)
    × (Answers (setup_on7 0 ∷ call.Decline 7 ∷ []) (noted note.Ringing ∷ sends (with_error ReleaseComplete CallTransferSetup 7 1 error.Unspecified) ∷ []))
    × (leg_after (setup_on7 0 ∷ call.Decline 7 ∷ []) 7 ≡ free_leg)

-- a SETUP on leg 7 from 300 with number 12, which is none of this station's
abbrev setup_numbered : ℕ → Call
setup_numbered i = heard (with Setup Invoke CallTransferSetup 7 12 i 300)

-- the answer to a SETUP has the number of the SETUP: when it is met, when it fails, and when it rings and is accepted or declined
abbrev pub SetupNumbered : Type 0
SetupNumbered =
    (Answers (identified_on5 ++ setup_numbered 6 ∷ []) (done ∷ sends identify_result ∷ sends_two (with Connect Result CallTransferSetup 7 12 0 0) (release 5) ∷ []))
    × (Answers (identified_on5 ++ setup_numbered 8 ∷ []) (done ∷ sends identify_result ∷ sends (with_error ReleaseComplete CallTransferSetup 7 12 error.UnrecognizedCallIdentity) ∷ []))
    × (leg_after (setup_numbered 0 ∷ []) 7 ≡ with_phase (idle 300) (phase.Ringing (record { number = 12; identity = 0; address = 300 })))
    × (Answers (setup_numbered 0 ∷ call.Accept 7 ∷ []) (noted note.Ringing ∷ sends (with Connect Result CallTransferSetup 7 12 0 0) ∷ []))
    × (Answers (setup_numbered 0 ∷ call.Decline 7 ∷ []) (noted note.Ringing ∷ sends (with_error ReleaseComplete CallTransferSetup 7 12 error.Unspecified) ∷ []))

-- ---- hold

abbrev pub held_at_far_end : List Call
held_at_far_end = call.Open 3 300 ∷ call.Hold 3 hold.Remote ∷ heard (with Facility Result RemoteHold 3 1 0 0) ∷ []

abbrev hold_sent : List Answer
hold_sent = done ∷ sends (with Facility Invoke RemoteHold 3 1 0 0) ∷ ends 1 cause.Result ∷ []

abbrev retrieve_sent : Answer
retrieve_sent = sends (with Facility Invoke RemoteRetrieve 3 2 0 0)

-- leg 3 is put on hold at its far end and fetched back: its hold timer runs while the one is asked for, and again while the other is
abbrev pub HoldAndRetrieve : Type 0
HoldAndRetrieve =
    (Answers (held_at_far_end ++ call.Retrieve 3 ∷ heard (with Facility Result RemoteRetrieve 3 2 0 0) ∷ []) (hold_sent ++ retrieve_sent ∷ ends 2 cause.Result ∷ []))
    × (leg_after (call.Open 3 300 ∷ call.Hold 3 hold.Remote ∷ []) 3 ≡ with_holder (idle 300) (holder.RemoteRequested 1))
    × (timer_after (call.Open 3 300 ∷ call.Hold 3 hold.Remote ∷ []) 7 ≡ Some 5)
    × (leg_after held_at_far_end 3 ≡ with_holder (idle 300) holder.RemoteHolding)
    × (timer_after held_at_far_end 7 ≡ None)
    × (leg_after (held_at_far_end ++ call.Retrieve 3 ∷ []) 3 ≡ with_holder (idle 300) (holder.RetrieveRequested 2))
    × (timer_after (held_at_far_end ++ call.Retrieve 3 ∷ []) 7 ≡ Some 5)
    × (leg_after (held_at_far_end ++ call.Retrieve 3 ∷ heard (with Facility Result RemoteRetrieve 3 2 0 0) ∷ []) 3 ≡ idle 300)
    × (timer_after (held_at_far_end ++ call.Retrieve 3 ∷ heard (with Facility Result RemoteRetrieve 3 2 0 0) ∷ []) 7 ≡ None)

-- the retrieve gets no answer: the call is released
abbrev pub RetrieveLapses : Type 0
RetrieveLapses =
    (Answers (held_at_far_end ++ call.Retrieve 3 ∷ call.Tick 5 ∷ []) (hold_sent ++ retrieve_sent ∷ sends_ends (release 3) 2 cause.Timeout ∷ []))
    × (leg_after (held_at_far_end ++ call.Retrieve 3 ∷ call.Tick 5 ∷ []) 3 ≡ free_leg)
    × (timer_after (held_at_far_end ++ call.Retrieve 3 ∷ call.Tick 5 ∷ []) 7 ≡ None)

-- the same later on: the hold is asked for at 2
abbrev held_later : List Call
held_later = call.Open 3 300 ∷ call.Tick 2 ∷ call.Hold 3 hold.Remote ∷ []

-- it is done at 4, and fetched back from 10
abbrev retrieved_later : List Call
retrieved_later = held_later ++ call.Tick 4 ∷ heard (with Facility Result RemoteHold 3 1 0 0) ∷ call.Tick 10 ∷ call.Retrieve 3 ∷ []

-- with a hold T1 of 5 ticks and a hold T2 of 7, the hold has until 7, and the retrieve until 17
abbrev pub HoldTimers : Type 0
HoldTimers =
    ((runs slow_board held_later).1.deadlines 7 ≡ Some 7)
    × ((runs slow_board (held_later ++ call.Tick 4 ∷ heard (with Facility Result RemoteHold 3 1 0 0) ∷ [])).1.deadlines 7 ≡ None)
    × ((runs slow_board retrieved_later).1.deadlines 7 ≡ Some 17)
    × ((runs slow_board (retrieved_later ++ call.Tick 16 ∷ call.Tick 17 ∷ [])).0 ≡
    (done ∷ noted note.NoneDue ∷ sends (with Facility Invoke RemoteHold 3 1 0 0) ∷ noted note.NoneDue ∷ ends 1 cause.Result ∷ noted note.NoneDue ∷ retrieve_sent ∷ noted note.NoneDue ∷ sends_ends (release 3) 2 cause.Timeout ∷ []))

-- the hold is refused by an error or a reject: there is no hold
abbrev pub HoldFails : Type 0
HoldFails =
    (Answers (call.Open 3 300 ∷ call.Hold 3 hold.Remote ∷ heard (with_error Facility RemoteHold 3 1 error.InvalidCallState) ∷ [])
    (done ∷ sends (with Facility Invoke RemoteHold 3 1 0 0) ∷ ends 1 cause.Fault ∷ []))
    × (Answers (call.Open 3 300 ∷ call.Hold 3 hold.Remote ∷ heard (with Facility Reject RemoteHold 3 1 0 0) ∷ []) (done ∷ sends (with Facility Invoke RemoteHold 3 1 0 0) ∷ ends 1 cause.Fault ∷ []))
    × (leg_after (call.Open 3 300 ∷ call.Hold 3 hold.Remote ∷ heard (with_error Facility RemoteHold 3 1 error.InvalidCallState) ∷ []) 3 ≡ idle 300)
    × (timer_after (call.Open 3 300 ∷ call.Hold 3 hold.Remote ∷ heard (with_error Facility RemoteHold 3 1 error.InvalidCallState) ∷ []) 7 ≡ None)

-- the retrieve is refused by an error or a reject: the call is released
abbrev pub RetrieveFails : Type 0
RetrieveFails =
    (Answers (held_at_far_end ++ call.Retrieve 3 ∷ heard (with_error Facility RemoteRetrieve 3 2 error.InvalidCallState) ∷ []) (hold_sent ++ retrieve_sent ∷ sends_ends (release 3) 2 cause.Fault ∷ []))
    × (Answers (held_at_far_end ++ call.Retrieve 3 ∷ heard (with Facility Reject RemoteRetrieve 3 2 0 0) ∷ []) (hold_sent ++ retrieve_sent ∷ sends_ends (release 3) 2 cause.Fault ∷ []))
    × (leg_after (held_at_far_end ++ call.Retrieve 3 ∷ heard (with Facility Reject RemoteRetrieve 3 2 0 0) ∷ []) 3 ≡ free_leg)
    × (timer_after (held_at_far_end ++ call.Retrieve 3 ∷ heard (with Facility Reject RemoteRetrieve 3 2 0 0) ∷ []) 7 ≡ None)

-- the hold gets no answer: there is no hold
abbrev pub HoldLapses : Type 0
HoldLapses =
    (Answers (held_later ++ call.Tick 6 ∷ call.Tick 7 ∷ call.Retrieve 3 ∷ [])
    (done ∷ noted note.NoneDue ∷ sends (with Facility Invoke RemoteHold 3 1 0 0) ∷ noted note.NoneDue ∷ ends 1 cause.Timeout ∷ refused refusal.WrongState ∷ []))
    × (leg_after (held_later ++ call.Tick 7 ∷ []) 3 ≡ idle 300)
    × (timer_after (held_later ++ call.Tick 7 ∷ []) 7 ≡ None)

-- the far end asks for a hold of its own
abbrev remote_hold_heard : Call
remote_hold_heard = heard (with Facility Invoke RemoteHold 3 8 0 0)

abbrev glare : Message
glare = with_error Facility RemoteHold 3 8 error.SupplementaryServiceInteractionNotAllowed

-- both ends ask at once: this end, which asked, answers with error 5; and once it is held itself, with error 4
abbrev pub HoldGlare : Type 0
HoldGlare =
    (Answers (call.Open 3 300 ∷ call.Hold 3 hold.Remote ∷ remote_hold_heard ∷ [])
    (done ∷ sends (with Facility Invoke RemoteHold 3 1 0 0) ∷ sends glare ∷ []))
    × (leg_after (call.Open 3 300 ∷ call.Hold 3 hold.Remote ∷ remote_hold_heard ∷ []) 3 ≡ with_holder (idle 300) (holder.RemoteRequested 1))
    × (timer_after (call.Open 3 300 ∷ call.Hold 3 hold.Remote ∷ remote_hold_heard ∷ []) 7 ≡ Some 5)
    × (Answers (call.Open 3 300 ∷ remote_hold_heard ∷ heard (with Facility Invoke RemoteHold 3 9 0 0) ∷ [])
    (done ∷ did note.Held (few.One (with Facility Result RemoteHold 3 8 0 0)) few.Zero ∷ sends (with_error Facility RemoteHold 3 9 error.InvalidCallState) ∷ []))
    × (leg_after (call.Open 3 300 ∷ remote_hold_heard ∷ heard (with Facility Invoke RemoteHold 3 9 0 0) ∷ []) 3 ≡ with_held (idle 300) (Some hold.Remote))

-- the far end asks for a hold while this end holds, or fetches back: that gets error 5, and changes nothing
abbrev pub HoldGlareHolding : Type 0
HoldGlareHolding =
    (Answers (call.Open 3 300 ∷ call.Hold 3 hold.Near ∷ remote_hold_heard ∷ []) (done ∷ sends (with Facility Invoke HoldNotific 3 0 0 0) ∷ sends glare ∷ []))
    × (leg_after (call.Open 3 300 ∷ call.Hold 3 hold.Near ∷ remote_hold_heard ∷ []) 3 ≡ with_holder (idle 300) holder.NearHolding)
    × (Answers (held_at_far_end ++ remote_hold_heard ∷ []) (hold_sent ++ sends glare ∷ []))
    × (leg_after (held_at_far_end ++ remote_hold_heard ∷ []) 3 ≡ with_holder (idle 300) holder.RemoteHolding)
    × (Answers (held_at_far_end ++ call.Retrieve 3 ∷ remote_hold_heard ∷ []) (hold_sent ++ retrieve_sent ∷ sends glare ∷ []))
    × (leg_after (held_at_far_end ++ call.Retrieve 3 ∷ remote_hold_heard ∷ []) 3 ≡ with_holder (idle 300) (holder.RetrieveRequested 2))
    × (timer_after (held_at_far_end ++ call.Retrieve 3 ∷ remote_hold_heard ∷ []) 7 ≡ Some 5)

-- this end is held and fetched back by the far end
abbrev pub held_here : List Call
held_here = call.Open 3 300 ∷ remote_hold_heard ∷ heard (with Facility Invoke RemoteRetrieve 3 9 0 0) ∷ []

abbrev pub HeldHere : Type 0
HeldHere =
    (Answers held_here
    (done ∷ did note.Held (few.One (with Facility Result RemoteHold 3 8 0 0)) few.Zero ∷ did note.Retrieved (few.One (with Facility Result RemoteRetrieve 3 9 0 0)) few.Zero ∷ []))
    × (leg_after (call.Open 3 300 ∷ remote_hold_heard ∷ []) 3 ≡ with_held (idle 300) (Some hold.Remote))
    × (leg_after held_here 3 ≡ idle 300)

-- the far end fetches back what it does not hold at this end: that gets error 4, and changes nothing
abbrev pub RetrieveUnheld : Type 0
RetrieveUnheld =
    (Answers (call.Open 3 300 ∷ heard (with Facility Invoke RemoteRetrieve 3 9 0 0) ∷ heard (with Facility Invoke HoldNotific 3 0 0 0) ∷ heard (with Facility Invoke RemoteRetrieve 3 10 0 0) ∷ [])
    (done ∷ sends (with_error Facility RemoteRetrieve 3 9 error.InvalidCallState) ∷ noted note.Held ∷ sends (with_error Facility RemoteRetrieve 3 10 error.InvalidCallState) ∷ []))
    × (leg_after (call.Open 3 300 ∷ heard (with Facility Invoke RemoteRetrieve 3 9 0 0) ∷ []) 3 ≡ idle 300)
    × (leg_after (call.Open 3 300 ∷ heard (with Facility Invoke HoldNotific 3 0 0 0) ∷ heard (with Facility Invoke RemoteRetrieve 3 10 0 0) ∷ []) 3 ≡ with_held (idle 300) (Some hold.Near))

-- a notification that fits no hold is stray: of a hold where there is one, of a retrieve where the far end holds another way or not at all
abbrev pub HoldStrays : Type 0
HoldStrays =
    (Answers (call.Open 3 300 ∷ heard (with Facility Invoke RetrieveNotific 3 0 0 0) ∷ remote_hold_heard ∷ heard (with Facility Invoke RetrieveNotific 3 0 0 0) ∷ heard (with Facility Invoke HoldNotific 3 0 0 0) ∷ [])
    (done ∷ stray ∷ did note.Held (few.One (with Facility Result RemoteHold 3 8 0 0)) few.Zero ∷ stray ∷ stray ∷ []))
    × (leg_after (call.Open 3 300 ∷ remote_hold_heard ∷ heard (with Facility Invoke RetrieveNotific 3 0 0 0) ∷ []) 3 ≡ with_held (idle 300) (Some hold.Remote))

-- hold at this end only tells the far end, and so does what the far end does at its own
abbrev pub HoldNear : Type 0
HoldNear =
    (Answers (call.Open 3 300 ∷ call.Hold 3 hold.Near ∷ call.Hold 3 hold.Remote ∷ call.Retrieve 3 ∷ [])
    (done ∷ sends (with Facility Invoke HoldNotific 3 0 0 0) ∷ refused refusal.HoldNotIdle ∷ sends (with Facility Invoke RetrieveNotific 3 0 0 0) ∷ []))
    × (Answers (call.Open 3 300 ∷ heard (with Facility Invoke HoldNotific 3 0 0 0) ∷ heard (with Facility Invoke RetrieveNotific 3 0 0 0) ∷ [])
    (done ∷ noted note.Held ∷ noted note.Retrieved ∷ []))
    × (leg_after (call.Open 3 300 ∷ call.Hold 3 hold.Near ∷ []) 3 ≡ with_holder (idle 300) holder.NearHolding)
    × (leg_after (call.Open 3 300 ∷ call.Hold 3 hold.Near ∷ call.Retrieve 3 ∷ []) 3 ≡ idle 300)
    × (leg_after (call.Open 3 300 ∷ heard (with Facility Invoke HoldNotific 3 0 0 0) ∷ []) 3 ≡ with_held (idle 300) (Some hold.Near))
    × (leg_after (call.Open 3 300 ∷ heard (with Facility Invoke HoldNotific 3 0 0 0) ∷ heard (with Facility Invoke RetrieveNotific 3 0 0 0) ∷ []) 3 ≡ idle 300)

-- ---- hold while a transfer goes on: an answer may have two ends

-- leg 3 asks for its hold, and then for its transfer
abbrev hold_and_transfer : List Call
hold_and_transfer = call.Open 3 300 ∷ call.Hold 3 hold.Remote ∷ call.Transfer 3 400 ∷ []

abbrev hold_and_transfer_sent : List Answer
hold_and_transfer_sent = done ∷ sends (with Facility Invoke RemoteHold 3 1 0 0) ∷ sends (with Facility Invoke CallTransferInitiate 3 2 0 400) ∷ []

-- the leg is lost: the transfer's request ends before the hold's, though it was sent later
abbrev pub BothCleared : Type 0
BothCleared =
    (Answers (hold_and_transfer ++ call.Clear 3 ∷ []) (hold_and_transfer_sent ++ did note.Done (few.One (release 3)) (few.Two (end 2 cause.Cleared) (end 1 cause.Cleared)) ∷ []))
    × (Answers (hold_and_transfer ++ heard (release 3) ∷ []) (hold_and_transfer_sent ++ did note.Done few.Zero (few.Two (end 2 cause.Cleared) (end 1 cause.Cleared)) ∷ []))
    × (leg_after (hold_and_transfer ++ call.Clear 3 ∷ []) 3 ≡ free_leg)
    × (timer_after (hold_and_transfer ++ call.Clear 3 ∷ []) 6 ≡ None)
    × (timer_after (hold_and_transfer ++ call.Clear 3 ∷ []) 7 ≡ None)

-- the transfer is done: its request ends by result, and the hold's as cleared with the leg
abbrev pub DoneWhileHolding : Type 0
DoneWhileHolding =
    (Answers (hold_and_transfer ++ heard (with Facility Result CallTransferInitiate 3 2 0 0) ∷ [])
    (hold_and_transfer_sent ++ did note.Done (few.One (release 3)) (few.Two (end 2 cause.Result) (end 1 cause.Cleared)) ∷ []))
    × (Answers (hold_and_transfer ++ heard (with ReleaseComplete Result CallTransferInitiate 3 2 0 0) ∷ [])
    (hold_and_transfer_sent ++ did note.Done few.Zero (few.Two (end 2 cause.Result) (end 1 cause.Cleared)) ∷ []))
    × (timer_after (hold_and_transfer ++ heard (with Facility Result CallTransferInitiate 3 2 0 0) ∷ []) 7 ≡ None)

-- the call cannot be fetched back while its transfer goes on: the retrieve's end, which the step names, goes before the transfer's
abbrev retrieve_and_transfer : List Call
retrieve_and_transfer = held_at_far_end ++ call.Retrieve 3 ∷ call.Transfer 3 400 ∷ []

abbrev retrieve_and_transfer_sent : List Answer
retrieve_and_transfer_sent = hold_sent ++ retrieve_sent ∷ sends (with Facility Invoke CallTransferInitiate 3 3 0 400) ∷ []

abbrev pub RetrieveFailsTransferring : Type 0
RetrieveFailsTransferring =
    (Answers (retrieve_and_transfer ++ call.Tick 5 ∷ []) (retrieve_and_transfer_sent ++ did note.Done (few.One (release 3)) (few.Two (end 2 cause.Timeout) (end 3 cause.Cleared)) ∷ []))
    × (Answers (retrieve_and_transfer ++ heard (with_error Facility RemoteRetrieve 3 2 error.InvalidCallState) ∷ [])
    (retrieve_and_transfer_sent ++ did note.Done (few.One (release 3)) (few.Two (end 2 cause.Fault) (end 3 cause.Cleared)) ∷ []))
    × (leg_after (retrieve_and_transfer ++ call.Tick 5 ∷ []) 3 ≡ free_leg)
    × (timer_after (retrieve_and_transfer ++ call.Tick 5 ∷ []) 6 ≡ None)

-- the same while the leg is primary of a consultation: its end goes before that of the identify on the secondary
abbrev pub RetrieveFailsConsulting : Type 0
RetrieveFailsConsulting =
    (Answers (held_at_far_end ++ call.Retrieve 3 ∷ call.Open 4 400 ∷ call.Consult 3 4 ∷ call.Tick 5 ∷ [])
    (hold_sent ++ retrieve_sent ∷ done ∷ sends (with Facility Invoke CallTransferIdentify 4 3 0 0)
    ∷ did note.Done (few.Two (release 3) (abandon 4)) (few.Two (end 2 cause.Timeout) (end 3 cause.Cleared)) ∷ []))

-- primary and secondary of a consultation both ask for a hold, and the primary is lost: its hold's end goes before that of the identify on the secondary, whose own hold goes on
abbrev consult_and_hold : List Call
consult_and_hold = consult_of3 ++ call.Hold 3 hold.Remote ∷ call.Hold 4 hold.Remote ∷ []

abbrev consult_and_hold_sent : List Answer
consult_and_hold_sent = consult_sent ++ sends (with Facility Invoke RemoteHold 3 2 0 0) ∷ sends (with Facility Invoke RemoteHold 4 3 0 0) ∷ []

abbrev pub HoldingPrimaryLost : Type 0
HoldingPrimaryLost =
    (Answers (consult_and_hold ++ call.Clear 3 ∷ []) (consult_and_hold_sent ++ did note.Done (few.Two (release 3) (abandon 4)) (few.Two (end 2 cause.Cleared) (end 1 cause.Cleared)) ∷ []))
    × (Answers (consult_and_hold ++ heard (release 3) ∷ []) (consult_and_hold_sent ++ did note.Done (few.One (abandon 4)) (few.Two (end 2 cause.Cleared) (end 1 cause.Cleared)) ∷ []))
    × (leg_after (consult_and_hold ++ call.Clear 3 ∷ []) 4 ≡ with_holder (idle 400) (holder.RemoteRequested 3))
    × (timer_after (consult_and_hold ++ call.Clear 3 ∷ []) 7 ≡ None)
    × (timer_after (consult_and_hold ++ call.Clear 3 ∷ []) 8 ≡ None)
    × (timer_after (consult_and_hold ++ call.Clear 3 ∷ []) 9 ≡ Some 5)

-- the primary of a placed call asks for a hold; the call comes about, or the primary is cleared
abbrev place_and_hold : List Call
place_and_hold = placed_on4 ++ call.Hold 3 hold.Remote ∷ []

abbrev place_and_hold_sent : List Answer
place_and_hold_sent = placed_sent ++ sends (with Facility Invoke RemoteHold 3 2 0 0) ∷ []

abbrev pub HoldingPrimaryDone : Type 0
HoldingPrimaryDone =
    (Answers (place_and_hold ++ heard (with Alerting Result CallTransferSetup 4 1 0 0) ∷ [])
    (place_and_hold_sent ++ did note.Done (few.One initiate_done) (few.Two (end 1 cause.Result) (end 2 cause.Cleared)) ∷ []))
    × (Answers (place_and_hold ++ call.Clear 3 ∷ []) (place_and_hold_sent ++ did note.Done (few.Two (release 3) (release 4)) (few.Two (end 2 cause.Cleared) (end 1 cause.Cleared)) ∷ []))
    × (timer_after (place_and_hold ++ heard (with Alerting Result CallTransferSetup 4 1 0 0) ∷ []) 7 ≡ None)

-- the leg that awaits a set-up asks for a hold, and the set-up comes: the hold's request ends with the leg
abbrev pub SetupMetHolding : Type 0
SetupMetHolding =
    (Answers (identified_on5 ++ call.Hold 5 hold.Remote ∷ setup_on7 6 ∷ [])
    (done ∷ sends identify_result ∷ sends (with Facility Invoke RemoteHold 5 1 0 0)
    ∷ did note.Done (few.Two (with Connect Result CallTransferSetup 7 1 0 0) (release 5)) (few.One (end 1 cause.Cleared)) ∷ []))
    × (timer_after (identified_on5 ++ call.Hold 5 hold.Remote ∷ setup_on7 6 ∷ []) 11 ≡ None)

-- ---- time, legs and the queue, and what is refused

-- time does not go back, nor beyond 2^40; the last leg is 31, and is opened once
abbrev pub time_and_legs : List Call
time_and_legs = call.Tick 30 ∷ call.Tick 29 ∷ call.Open 31 1 ∷ call.Open 32 1 ∷ call.Open 31 1 ∷ []

abbrev pub TimeAndLegs : Type 0
TimeAndLegs =
    (Answers (time_and_legs ++ call.Tick (2 ^ 40) ∷ call.Tick (2 ^ 40 + 1) ∷ [])
    (noted note.NoneDue ∷ refused refusal.BadTime ∷ done ∷ refused refusal.NoSuchLeg ∷ refused refusal.LegInUse ∷ noted note.NoneDue ∷ refused refusal.BadTime ∷ []))
    × (leg_after time_and_legs 31 ≡ idle 1)
    × ((state_after time_and_legs).time ≡ 30)

-- a leg or an address out of range is refused before the leg's record counts, and the leg before the address
abbrev pub BadArguments : Type 0
BadArguments =
    Answers
    (call.Open 3 0 ∷ call.Open 3 65536 ∷ call.Open 32 0 ∷ call.Open 3 65535 ∷ call.Transfer 3 0 ∷ call.Transfer 4 65536 ∷ call.Consult 3 32 ∷ call.Place 32 4
    ∷ call.Clear 32 ∷ call.Accept 32 ∷ call.Decline 32 ∷ call.Hold 32 hold.Near ∷ call.Retrieve 32 ∷ [])
    (refused refusal.BadAddress ∷ refused refusal.BadAddress ∷ refused refusal.NoSuchLeg ∷ done ∷ refused refusal.BadAddress ∷ refused refusal.BadAddress ∷ refused refusal.NoSuchLeg ∷ refused refusal.NoSuchLeg
    ∷ refused refusal.NoSuchLeg ∷ refused refusal.NoSuchLeg ∷ refused refusal.NoSuchLeg ∷ refused refusal.NoSuchLeg ∷ refused refusal.NoSuchLeg ∷ [])

-- bytes that are no message are refused with the first wrong byte: no bytes at all, a result of a set-up by FACILITY, a leg 32, a SETUP from address 0
abbrev pub BadMessages : Type 0
BadMessages =
    Answers
    (heard_bytes [] ∷ heard (with Facility Result CallTransferSetup 3 1 0 0) ∷ heard (with Facility Result CallTransferInitiate 32 1 0 0) ∷ heard (with Setup Invoke CallTransferSetup 7 1 0 0) ∷ [])
    (refused (refusal.BadMessage (record { byte = 16 })) ∷ refused (refusal.BadMessage (record { byte = 2 })) ∷ refused (refusal.BadMessage (record { byte = 3 }))
    ∷ refused (refusal.BadMessage (record { byte = 8 })) ∷ [])

-- on a free leg there is nothing to clear, to transfer, to consult with, to place for, to accept, to decline, to hold or to retrieve
abbrev pub FreeLegs : Type 0
FreeLegs =
    Answers
    (call.Clear 3 ∷ call.Transfer 3 400 ∷ call.Consult 3 3 ∷ call.Place 3 4 ∷ call.Accept 3 ∷ call.Decline 3 ∷ call.Hold 3 hold.Near ∷ call.Retrieve 3 ∷ call.Open 4 400
    ∷ call.Consult 3 4 ∷ call.Consult 4 3 ∷ call.Place 3 4 ∷ [])
    (refused refusal.LegFree ∷ refused refusal.LegFree ∷ refused refusal.LegFree ∷ refused refusal.LegFree ∷ refused refusal.LegFree ∷ refused refusal.LegFree ∷ refused refusal.LegFree ∷ refused refusal.LegFree ∷ done
    ∷ refused refusal.LegFree ∷ refused refusal.LegFree ∷ refused refusal.LegInUse ∷ [])

-- a leg that still calls cannot be transferred, be either leg of a consultation, or be held, and there is nothing to retrieve
abbrev pub NotActiveLegs : Type 0
NotActiveLegs =
    Answers (placed_on4 ++ call.Transfer 4 500 ∷ call.Open 5 500 ∷ call.Consult 4 5 ∷ call.Consult 5 4 ∷ call.Consult 4 4 ∷ call.Hold 4 hold.Near ∷ call.Retrieve 4 ∷ [])
    (placed_sent ++ refused refusal.NotActive ∷ done ∷ refused refusal.NotActive ∷ refused refusal.NotActive ∷ refused refusal.NotActive ∷ refused refusal.NotActive ∷ refused refusal.WrongState ∷ [])

-- a leg with a transfer under way cannot be transferred or be either leg of a consultation, and no leg can be both
abbrev pub NotIdleLegs : Type 0
NotIdleLegs =
    Answers (transfer_of3 ++ call.Transfer 3 500 ∷ call.Open 4 400 ∷ call.Consult 3 4 ∷ call.Consult 4 3 ∷ call.Consult 4 4 ∷ call.Consult 3 3 ∷ [])
    (done ∷ sends transfer_invoke ∷ refused refusal.NotIdle ∷ done ∷ refused refusal.NotIdle ∷ refused refusal.NotIdle ∷ refused refusal.SameLeg ∷ refused refusal.SameLeg ∷ [])

-- an active leg of which nothing is asked has nothing to accept, to decline, to place for or to retrieve; and what is placed already can be neither declined nor placed again
abbrev pub WrongStates : Type 0
WrongStates =
    (Answers (call.Open 3 300 ∷ call.Accept 3 ∷ call.Decline 3 ∷ call.Place 3 4 ∷ call.Retrieve 3 ∷ [])
    (done ∷ refused refusal.WrongState ∷ refused refusal.WrongState ∷ refused refusal.WrongState ∷ refused refusal.WrongState ∷ []))
    × (Answers (placed_on4 ++ call.Decline 3 ∷ call.Place 3 5 ∷ []) (placed_sent ++ refused refusal.WrongState ∷ refused refusal.WrongState ∷ []))

abbrev identity_late : Call
identity_late = heard (with Facility Result CallTransferIdentify 4 65535 77 400)

-- after request 65,535 there is no number for a request, and what sends none goes on; the identity that comes then is refused, and is still awaited
abbrev pub NumbersRunOut : Type 0
NumbersRunOut =
    ((runs late_board (call.Open 3 300 ∷ call.Open 4 400 ∷ call.Consult 3 4 ∷ identity_late ∷ call.Hold 3 hold.Remote ∷ call.Transfer 3 500 ∷ call.Hold 3 hold.Near ∷ [])).0 ≡
    (done ∷ done ∷ sends (with Facility Invoke CallTransferIdentify 4 65535 0 0) ∷ refused refusal.NoNumberLeft ∷ refused refusal.NoNumberLeft ∷ refused refusal.NotIdle
    ∷ sends (with Facility Invoke HoldNotific 3 0 0 0) ∷ []))
    × ((runs late_board (call.Open 3 300 ∷ call.Open 4 400 ∷ call.Consult 3 4 ∷ identity_late ∷ call.Look 4 ∷ [])).0 ≡
    (done ∷ done ∷ sends (with Facility Invoke CallTransferIdentify 4 65535 0 0) ∷ refused refusal.NoNumberLeft ∷ shown (with_transfer (idle 400) (transfer.AwaitIdentify 65535 place3)) ∷ []))

-- a look shows a record, also that of a free leg
abbrev pub Looks : Type 0
Looks = Answers (call.Open 3 300 ∷ call.Look 3 ∷ call.Look 4 ∷ call.Look 32 ∷ []) (done ∷ shown (idle 300) ∷ shown free_leg ∷ refused refusal.NoSuchLeg ∷ [])

-- answers by their numbers: asked to call 400; a timeout with an abandon; a wrong byte 8; a full queue
abbrev pub InNumbers : Type 0
InNumbers =
    (report_of (noted (note.Asked 400)) ≡ record { refusal = 0; note = 4; value = 400; sent = few.Zero; ends = few.Zero })
    × (report_of (sends_ends (abandon 4) 1 cause.Timeout) ≡ record { refusal = 0; note = 0; value = 0; sent = few.One (abandon 4); ends = few.One (end 1 cause.Timeout) })
    × (report_of (refused (refusal.BadMessage (record { byte = 8 }))) ≡ record { refusal = 6; note = 0; value = 8; sent = few.Zero; ends = few.Zero })
    × (report_of (refused refusal.QueueFull) ≡ record { refusal = 15; note = 0; value = 0; sent = few.Zero; ends = few.Zero })

-- what was sent is taken in its order
abbrev pub TakesInOrder : Type 0
TakesInOrder =
    Answers (consult_identified ++ call.Take ∷ call.Take ∷ call.Take ∷ []) (identified_sent ++ taken identify_on4 ∷ taken initiate_on3 ∷ noted note.QueueEmpty ∷ [])

-- the hold timers of legs 4 and 3 are both due when time moves on: they run out one at a call, the smaller deadline first though its key is the larger
abbrev pub OneTimerAtACall : Type 0
OneTimerAtACall =
    Answers (call.Open 3 300 ∷ call.Open 4 400 ∷ call.Hold 4 hold.Remote ∷ call.Tick 4 ∷ call.Hold 3 hold.Remote ∷ call.Tick 9 ∷ call.Tick 9 ∷ call.Tick 9 ∷ [])
    (done ∷ done ∷ sends (with Facility Invoke RemoteHold 4 1 0 0) ∷ noted note.NoneDue ∷ sends (with Facility Invoke RemoteHold 3 2 0 0) ∷ ends 1 cause.Timeout ∷ ends 2 cause.Timeout ∷ noted note.NoneDue ∷ [])

-- a transfer timer of leg 4 and a hold timer of leg 3 have the deadline 30: leg 3's runs out first, which has the smaller key, though it was set last and belongs to hold
abbrev pub EqualDeadlines : Type 0
EqualDeadlines =
    Answers (call.Open 3 300 ∷ call.Open 4 400 ∷ call.Transfer 4 500 ∷ call.Tick 25 ∷ call.Hold 3 hold.Remote ∷ call.Tick 30 ∷ call.Tick 30 ∷ call.Tick 30 ∷ [])
    (done ∷ done ∷ sends (with Facility Invoke CallTransferInitiate 4 1 0 500) ∷ noted note.NoneDue ∷ sends (with Facility Invoke RemoteHold 3 2 0 0) ∷ ends 2 cause.Timeout ∷ ends 1 cause.Timeout ∷ noted note.NoneDue ∷ [])

-- both timers of leg 3 have the deadline 30: the transfer's, which has the smaller key, runs out first
abbrev pub EqualDeadlinesOfALeg : Type 0
EqualDeadlinesOfALeg =
    Answers (call.Open 3 300 ∷ call.Transfer 3 400 ∷ call.Tick 25 ∷ call.Hold 3 hold.Remote ∷ call.Tick 30 ∷ call.Tick 30 ∷ [])
    (done ∷ sends transfer_invoke ∷ noted note.NoneDue ∷ sends (with Facility Invoke RemoteHold 3 2 0 0) ∷ ends 1 cause.Timeout ∷ ends 2 cause.Timeout ∷ [])

-- each transfer timer runs from the call or the message that sets it: CT-T1, CT-T3 at a transfer and after a consultation, CT-T2, CT-T4
abbrev pub TimersFromNow : Type 0
TimersFromNow =
    (timer_after (call.Open 3 300 ∷ call.Open 4 400 ∷ call.Tick 7 ∷ call.Consult 3 4 ∷ []) 8 ≡ Some 17)
    × (timer_after (call.Open 3 300 ∷ call.Tick 7 ∷ call.Transfer 3 400 ∷ []) 6 ≡ Some 37)
    × (timer_after (consult_of3 ++ call.Tick 7 ∷ heard (with Facility Result CallTransferIdentify 4 1 77 400) ∷ []) 6 ≡ Some 37)
    × (timer_after (call.Open 5 500 ∷ call.Tick 7 ∷ heard (with Facility Invoke CallTransferIdentify 5 9 0 0) ∷ []) 10 ≡ Some 27)
    × (timer_after (asked_on3 ++ call.Tick 7 ∷ call.Place 3 4 ∷ []) 8 ≡ Some 32)

-- a timer that is due has not run out before a tick says so: CT-T2 of leg 5 is due with the hold timer of leg 3, which goes first, and the SETUP is met
abbrev pub DueNotOut : Type 0
DueNotOut =
    Answers (call.Open 3 300 ∷ call.Open 5 500 ∷ heard (with Facility Invoke CallTransferIdentify 5 9 0 0) ∷ call.Tick 15 ∷ call.Hold 3 hold.Remote ∷ call.Tick 20 ∷ setup_on7 6 ∷ [])
    (done ∷ done ∷ sends identify_result ∷ noted note.NoneDue ∷ sends (with Facility Invoke RemoteHold 3 1 0 0) ∷ ends 1 cause.Timeout ∷ sends_two (with Connect Result CallTransferSetup 7 1 0 0) (release 5) ∷ [])

-- the queue has two places, and both are taken: a tick that has to send is refused and moves no time, what sends nothing is not; once one is taken out, the timer runs out
abbrev pub TickNeedsOne : Type 0
TickNeedsOne =
    answers_with 2 (consult_of3 ++ call.Hold 3 hold.Near ∷ call.Tick 10 ∷ call.Open 5 500 ∷ call.Tick 9 ∷ call.Take ∷ call.Tick 10 ∷ []) ≡
    consult_sent ++ sends (with Facility Invoke HoldNotific 3 0 0 0) ∷ refused refusal.QueueFull ∷ done ∷ noted note.NoneDue ∷ taken identify_on4 ∷ sends_ends (abandon 4) 1 cause.Timeout ∷ []
