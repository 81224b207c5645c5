use Rattle.std.proofs.Common.{◌≡◌, ℕ, List, Some, None, Ok, Option, Result, MatchResult}
use Rattle.message.specs.declared.codes.Carrier.{Carrier}
use Rattle.message.specs.declared.codes.Kind.{Kind}
use Rattle.message.specs.declared.codes.UnknownNumber.{UnknownNumber}
use Rattle.message.specs.declared.record.Message.{Message}
use Rattle.message.specs.declared.record.MessageFault.{MessageFault}
use Rattle.message.specs.Codes.{or_unknown}
use Rattle.message.specs.Format.{meant, first, wrongs, unless, judged}
use Rattle.message.proofs.record.Message.judge_row.Goals as goal

-- the case that a number was read as, where the reading did not fail
found : {A : Type 0} (o : Option A) (n : ℕ) (x : A) (r : Result A UnknownNumber) → r ≡ or_unknown o n
    → MatchResult r (λ y. ◌≡◌ {A = Result A MessageFault} (Ok x) (Ok y)) (λ _. ⊥) → o ≡ Some x
found None n x r e h = absurd (rw e at h)
found (Some y) n x r e h = let same = rw e at h in cc

-- the verdict, by what was read so far
by_fields : (oc : Option Carrier) (ok : Option Kind) (c : Carrier) (k : Kind) (bytes : List ℕ) (m : Message) (o : Option ℕ)
    → oc ≡ Some c → ok ≡ Some k → m ≡ meant c k bytes → o ≡ first 2 (wrongs m bytes) → unless o m ≡ judged oc ok bytes
by_fields oc ok c k bytes m o ec ek em eo = rw (ec, ek, eo, em)

pub returns-in-Some : goal.returns-in-Some
returns-in-Some c =
    by_fields _ _ _ _ _ _ (Some c.in-Some.byte) (found _ _ _ _ c.try_from.ensures c.in_ok-carrier.ensures.cases)
    (found _ _ _ _ c.try_from-2.ensures c.in_ok-kind.ensures.cases) c.meant-message.ensures c.in-Some.ensures

pub returns-in-None : goal.returns-in-None
returns-in-None c =
    by_fields _ _ _ _ _ _ None (found _ _ _ _ c.try_from.ensures c.in_ok-carrier.ensures.cases)
    (found _ _ _ _ c.try_from-2.ensures c.in_ok-kind.ensures.cases) c.meant-message.ensures c.in-None.ensures
