-- A leg's reaction, and that of the leg it tells, keep a state consistent.
use Rattle.std.proofs.Common.{◌≡◌, ℕ, Bool, true, false, not, ◌&&◌, eqb, ◌≢◌, List, [], ◌++◌, Some, None, Ok, Err, Option, Result, sym, refl, ap, ◌∙◌, inl, inr, arith}
use Rattle.std.proofs.lemmas.Bool.{cases_Bool, and_parts}
use Rattle.std.proofs.lemmas.Bool.Decides.{nat_tests}
use Rattle.message.specs.declared.record.Message.{Message}
use Rattle.leg.specs.declared.place.Place.{Place}
use Rattle.leg.specs.declared.codes.Refusal.{Refusal}
use Rattle.leg.specs.declared.codes.Cause.TheVariants as cause
use Rattle.leg.specs.declared.record.Bond.TheVariants as bond
use Rattle.leg.specs.declared.record.Transfer.{Transfer}
use Rattle.leg.specs.declared.record.Transfer.TheVariants as transfer
use Rattle.leg.specs.declared.record.Leg.{Leg}
use Rattle.message.specs.declared.codes.Operation.TheVariants as operation
use Rattle.leg.specs.declared.reaction.Reaction.{Reaction}
use Rattle.leg.specs.declared.reaction.Tell.{Tell}
use Rattle.leg.specs.declared.reaction.UpToTwo.{UpToTwo}
use Rattle.leg.specs.declared.reaction.UpToTwo.TheVariants as few
use Rattle.leg.specs.declared.reaction.Word.{Word}
use Rattle.leg.specs.declared.reaction.Word.TheVariants as word
use Rattle.leg.specs.Views.{is_active, is_idle, is_awaiting_setup, when_asked, when_bound, with_transfer}
use Rattle.leg.specs.Reactions.{up_to_two}
use Rattle.machine.specs.Reactions.{settling, leaving, last_ends}
use Rattle.machine.specs.Messages.{notice_on, release_on}
use Rattle.machine.specs.Told.{parting, bond_sends, unmoved, bond_initiates, bond_completes, told_word}
use Rattle.rules.specs.Sound.{tie_ends, InWord, InIdentity, Sound, Tie, identifies, initiates, sets_up, tie_of, transfer_tie, tied_to, returned, Tells, keeps, consults, places, meets, hands, parts, releases, abandons, completes, loses, end_follows, is_two, LawfulIf}
use Rattle.rules.specs.Events.{Fine, FineIf, FineTold, FineToldIf, ReadyFor}
use Rattle.rules.proofs.Tolds.{told_stays_sound, parting_fine, abandon_lawful}
use Rattle.rules.specs.declared.plan.Told.{Told}
use Rattle.rules.specs.declared.plan.Plan.{Plan}
use Rattle.rules.specs.States.{State, leg_at}
use Rattle.std.specs.List.{AllByRecursion}
use Rattle.message.specs.Format.{Lawful}
use Rattle.rules.specs.Plans.{plan_sent, telling, planned, reacting, followed, listed, plan_ends, other_ends, put_leg, put_other, also}
use Rattle.rules.specs.Steps.{plan_in}
use Rattle.rules.specs.Consistent.{Mutual, Consistent}
use Rattle.rules.proofs.Tables.{read, read_same, read_other, size_put, place_cases}
use Rattle.rules.proofs.Mutuals.{Linked, Joined, mutual_same, mutual_two, tied_returned}
use Rattle.rules.proofs.Ties.{Makes, makes, consulting}

-- which legs that are no partners may be told what: another leg than this one, in the state that the word is for
abbrev pub word_fits : Leg → Word → Bool
word_fits l w = elim w [
  | word.Consult _ ↦ is_active l && is_idle l
  | word.Place _ ↦ when_asked l.transfer (λ _. true) false
  | word.Initiate _ _ ↦ false
  | word.Part ↦ false
  | word.Abandon ↦ false
  | word.Complete ↦ false
  | word.Met ↦ is_awaiting_setup l
  | word.Lost ↦ false
]

abbrev pub may_tell : State → Place → Place → Word → Bool
may_tell s p q w = not (eqb q.index p.index) && word_fits (leg_at s q) w

-- who may be told is another leg, in the state that the word is for
may_told : (s : State) (p q : Place) (w : Word) → may_tell s p q w ≡ true → (q.index ≢ p.index) × (word_fits (leg_at s q) w ≡ true)
may_told s p q w X = grind (arith, nat_tests)

-- ---- ends

module _ {A : Type 0} where
  whole_first : (x : UpToTwo A) → listed (followed x few.Zero) ≡ listed x ++ []
  whole_first x = grind arith

  whole_both : (x y : UpToTwo A) → is_two x ≡ false → is_two y ≡ false → listed (followed x y) ≡ listed x ++ listed y
  whole_both x y e f = grind arith

-- ---- what a plan keeps

sent_lawful : (a b : Option Message) → LawfulIf a → LawfulIf b → AllByRecursion Lawful (listed (up_to_two a b))
sent_lawful a b A B = grind arith

abbrev pub OtherSound : Option Told → Type 0
OtherSound o = elim o [ None ↦ Unit {0} | Some t ↦ Sound t.reaction.leg ]

pub record Keeps (s : State) (x : Plan) : Type 0 where
  pub sound : Sound x.own.leg
  pub other : OtherSound x.other
  pub lawful : AllByRecursion Lawful (listed (plan_sent x))
  pub partners : Mutual (λ y. tie_of (read (put_other (put_leg s.legs x.place x.own.leg) x.other) y))
  pub whole : listed (plan_ends x) ≡ listed x.own.ends ++ listed (other_ends x.other)

abbrev pub KeepsAny : State → Option Plan → Type 0
KeepsAny s o = elim o [ None ↦ Unit {0} | Some x ↦ Keeps s x ]

abbrev pub KeepsIf : State → Result Plan Refusal → Type 0
KeepsIf s d = KeepsAny s (plan_in d)

-- ---- the leg that is told, by its state or its tie

-- a leg that may be told as no partner has no tie
fits_tie : (l : Leg) (w : Word) → word_fits l w ≡ true → tie_of l ≡ None
fits_tie l w e = grind arith

module _ (l : Leg) where
  placed_tie : (p : Place) → when_asked l.transfer (λ _. true) false ≡ true → tie_of (when_asked l.transfer (λ o. unmoved (with_transfer l (transfer.Bound (bond.Placing p o)))) (unmoved l)).leg ≡ Some (Tie.placing p)
  placed_tie p e = grind arith

  placed_ends : (p : Place) → (when_asked l.transfer (λ o. unmoved (with_transfer l (transfer.Bound (bond.Placing p o)))) (unmoved l)).ends ≡ few.Zero
  placed_ends p = grind arith

  -- a leg that awaits a set-up has no request of its own on the transfer timer
  awaiting_few : is_awaiting_setup l ≡ true → is_two (last_ends l None) ≡ false
  awaiting_few e = grind arith

module _ (l : Leg) (q : Place) where
  -- the reaction to the loss of the partner, the transfer state being u
  abbrev pub lost_in : Transfer → Reaction
  lost_in u = elim u [
    | transfer.Idle ↦ unmoved l
    | transfer.AwaitIdentify n _ ↦ settling (with_transfer l transfer.Idle) (Some (notice_on q operation.CallTransferAbandon)) n cause.Cleared None
    | transfer.AwaitInitiate n _ ↦ unmoved (with_transfer l (transfer.AwaitInitiate n None))
    | transfer.AwaitSetupResponse _ _ ↦ leaving l (Some (release_on q)) None None
    | transfer.AwaitSetup ↦ unmoved l
    | transfer.Asked _ ↦ unmoved l
    | transfer.Bound b ↦ parting l (bond_sends q b)
  ]

  completed_tie : (p : Place) → tie_of l ≡ Some (Tie.placing p) → tie_of (when_bound l.transfer (bond_completes l q) (unmoved l)).leg ≡ None
  completed_tie p e = grind arith

  completed_few : is_two (when_bound l.transfer (bond_completes l q) (unmoved l)).ends ≡ false
  completed_few = grind arith

  -- what the partner of a leg that ended comes to, by its own tie
  lost_tie : (u : Transfer) (t : Tie) → transfer_tie u ≡ Some t → tie_of (lost_in u).leg ≡ None
  lost_tie u t e = grind arith

  lost_zero : (u : Transfer) (t : Tie) (p : Place) → transfer_tie u ≡ Some (returned t p) → tie_ends (Some t) ≡ false → (lost_in u).ends ≡ few.Zero
  lost_zero u t p e f = grind arith

  -- a leg that calls has no hold request, so it names one end at most
  lost_few : (u : Transfer) → Sound l → l.transfer ≡ u → is_two (lost_in u).ends ≡ false
  lost_few u S e = grind arith

-- a leg with a tie is active, unless it sets up
abbrev sets_none_up : Tie → Bool
sets_none_up (sets_up _) = false
sets_none_up _ = true

tied_active : (l : Leg) (t : Tie) → Sound l → tie_of l ≡ Some t → sets_none_up t ≡ true → is_active l ≡ true
tied_active l t S e f = grind arith

-- ---- both legs

module _ (s : State) (C : Consistent s) (p : Place) (r : Reaction) (F : Sound r.leg) (L : LawfulIf r.sent) where
  abbrev at : Place → Leg
  at q = leg_at s q

  abbrev ties : Place → Option Tie
  ties q = tie_of (at q)

  -- nobody is told, and the tie stays
  alone_keeps : tie_of r.leg ≡ ties p → Keeps s (record { place = p; own = r; other = None })
  alone_keeps e =
      record {
        sound = F;
        other = tt;
        lawful = sent_lawful r.sent None L tt;
        partners = mutual_same ties (λ y. tie_of (read (put_leg s.legs p r.leg) y)) same C.partners;
        whole = whole_first r.ends;
      }
    where
      same : (y : Place) → tie_of (read (put_leg s.legs p r.leg) y) ≡ ties y
      same y =
          elim (place_cases y p) [
            | inl f ↦ rw f (ap tie_of (read_same s.legs p r.leg C.size) ∙ e)
            | inr ne ↦ ap tie_of (read_other s.legs p r.leg y ne)
          ]

  abbrev Whole : Reaction → Type 0
  Whole x = listed (followed r.ends x.ends) ≡ listed r.ends ++ listed x.ends

  -- two legs step that have no other partners
  two_keep : (q : Place) (x : Reaction) → q.index ≢ p.index → Linked ties p q → Linked ties q p → FineTold x → Joined p q (tie_of r.leg) (tie_of x.leg) → Whole x
      → Keeps s (record { place = p; own = r; other = also q x })
  two_keep q x apart lp lq X J W =
      record {
        sound = F;
        other = X.sound;
        lawful = sent_lawful r.sent x.sent L X.lawful;
        partners = mutual_two ties after p q (λ e. apart (sym e)) far lp lq C.partners (rw (first, second) J);
        whole = W;
      }
    where
      once : List Leg
      once = put_leg s.legs p r.leg

      after : Place → Option Tie
      after y = tie_of (read (put_leg once q x.leg) y)

      first : after p ≡ tie_of r.leg
      first = ap tie_of (read_other once q x.leg p (λ e. apart (sym e)) ∙ read_same s.legs p r.leg C.size)

      second : after q ≡ tie_of x.leg
      second = ap tie_of (read_same once q x.leg (size_put s.legs p r.leg ∙ C.size))

      far : (y : Place) → y.index ≢ p.index → y.index ≢ q.index → after y ≡ ties y
      far y a b = ap tie_of (read_other once q x.leg y b ∙ read_other s.legs p r.leg y a)

  -- the partner is told
  partner_keeps : (t : Tie) (x : Reaction) → ties p ≡ Some t → FineTold x → Joined p (tied_to t) (tie_of r.leg) (tie_of x.leg) → Whole x
      → Keeps s (record { place = p; own = r; other = also (tied_to t) x })
  partner_keeps t x e X J W =
      let B = C.partners p t e in
      two_keep (tied_to t) x B.1 (λ u f. cc) (λ u f. cc (tied_returned t p)) X J W

  -- a leg is told that is no partner
  stranger_keeps : (q : Place) (w : Word) (x : Reaction) → ties p ≡ None → may_tell s p q w ≡ true → FineTold x → Joined p q (tie_of r.leg) (tie_of x.leg) → Whole x
      → Keeps s (record { place = p; own = r; other = also q x })
  stranger_keeps q w x e X T J W =
      let M = may_told s p q w X in
      let f = fits_tie (at q) w M.1 in
      two_keep q x M.0 (λ u g. cc) (λ u g. cc) T J W

  told : (q : Place) (w : Word) → ReadyFor (at q) w → FineToldIf (told_word (at q) q w s.next)
  told q w R = told_stays_sound (at q) q w s.next (C.sound q) C.next R

  abbrev Both : Place → Word → Type 0
  Both q w = KeepsIf s (telling p r q (told_word (at q) q w s.next))

  on_consult : (q : Place) → ties p ≡ None → tie_of r.leg ≡ Some (identifies q) → may_tell s p q (word.Consult p) ≡ true → Both q (word.Consult p)
  on_consult q e f X =
      let w : Word = word.Consult p in
      let A = and_parts (is_active (at q)) (is_idle (at q)) (may_told s p q w X).1 in
      stranger_keeps q w _ e X (told q w A.0) (inr (record { tie = identifies q; first = f; to = refl; second = refl })) (whole_first r.ends)

  on_place : (q : Place) → ties p ≡ None → tie_of r.leg ≡ Some (sets_up q) → may_tell s p q (word.Place p) ≡ true → Both q (word.Place p)
  on_place q e f X =
      let w : Word = word.Place p in
      stranger_keeps q w _ e X (told q w tt)
      (inr (record { tie = sets_up q; first = f; to = refl; second = placed_tie (at q) p (may_told s p q w X).1 }))
      (rw (placed_ends (at q) p) (whole_first r.ends))

  on_met : (q : Place) → ties p ≡ None → tie_of r.leg ≡ None → may_tell s p q word.Met ≡ true → is_two r.ends ≡ false → Both q word.Met
  on_met q e f X w =
      stranger_keeps q word.Met _ e X (told q word.Met tt) (inl (f, refl)) (whole_both r.ends _ w (awaiting_few (at q) (may_told s p q word.Met X).1))

  -- the partner goes back to idle
  on_parting : (t : Tie) (m : Option Message) → ties p ≡ Some t → tie_of r.leg ≡ None → sets_none_up (returned t p) ≡ true → LawfulIf m → Keeps s (record { place = p; own = r; other = also (tied_to t) (parting (at (tied_to t)) m) })
  on_parting t m e f n M =
      let S = C.sound (tied_to t) in
      partner_keeps t _ e (parting_fine S (tied_active _ (returned t p) S (C.partners p t e).0 n) M) (inl (f, refl)) (whole_first r.ends)

  on_complete : (q : Place) → ties p ≡ Some (sets_up q) → tie_of r.leg ≡ None → is_two r.ends ≡ false → Both q word.Complete
  on_complete q e f w =
      partner_keeps (sets_up q) _ e (told q word.Complete tt) (inl (f, completed_tie (at q) q p (C.partners p (sets_up q) e).0)) (whole_both r.ends _ w (completed_few (at q) q))

  on_lost : (t : Tie) → ties p ≡ Some t → tie_of r.leg ≡ None → (tie_ends (Some t) ≡ true → is_two r.ends ≡ false) → Both (tied_to t) word.Lost
  on_lost t e f w =
      let q = tied_to t in
      let u : Transfer = (at q).transfer in
      let m = (C.partners p t e).0 in
      partner_keeps t _ e (told q word.Lost tt) (inl (f, lost_tie (at q) q u (returned t p) m))
      (elim (cases_Bool (tie_ends (Some t))) [
        | inl b ↦ whole_both r.ends _ (w b) (lost_few (at q) q u (C.sound q) refl)
        | inr b ↦ rw (lost_zero (at q) q u t p m b) (whole_first r.ends)
      ])

  -- the identity is handed on: the primary asks its far end, if a number is left
  handed : (q : Place) (i a : ℕ) (n : Option ℕ) (u : Transfer) → (at q).transfer ≡ u → Makes (Tie.consulting p) u → ties p ≡ Some (identifies q) → tie_of r.leg ≡ Some (Tie.consulted q)
      → FineToldIf (when_bound u (bond_initiates (at q) q i a n) (Ok (unmoved (at q)))) → KeepsIf s (telling p r q (when_bound u (bond_initiates (at q) q i a n) (Ok (unmoved (at q)))))
  handed q i a None _ g (consulting _) e f X = tt
  handed q i a (Some n) _ g (consulting _) e f X =
      partner_keeps (identifies q) _ e X (inr (record { tie = Tie.consulted q; first = f; to = refl; second = refl })) (whole_first r.ends)

  on_hand : (q : Place) (i a : ℕ) → ties p ≡ Some (identifies q) → tie_of r.leg ≡ Some (Tie.consulted q) → InIdentity i → InWord a → Both q (word.Initiate i a)
  on_hand q i a e f I A = handed q i a s.next (at q).transfer refl (makes (at q).transfer (Tie.consulting p) (C.partners p (identifies q) e).0) e f (told q (word.Initiate i a) (I, A))

  by_tells : (t0 : Option Tie) (w : Option Tell) (t1 : Option Tie) → ties p ≡ t0 → tie_of r.leg ≡ t1 → Tells (may_tell s p) p t0 w t1 → (end_follows t0 w ≡ true → is_two r.ends ≡ false)
      → KeepsIf s (elim w [ None ↦ Ok (record { place = p; own = r; other = None }) | Some v ↦ telling p r v.to (told_word (at v.to) v.to v.word s.next) ])
  by_tells _ _ _ e f (keeps t) w = alone_keeps (f ∙ sym e)
  by_tells _ _ _ e f (consults q X) w = on_consult q e f X
  by_tells _ _ _ e f (places q X) w = on_place q e f X
  by_tells _ _ _ e f (meets q X) w = on_met q e f X (w refl)
  by_tells _ _ _ e f (hands q i a I A) w = on_hand q i a e f I A
  by_tells _ _ _ e f (parts q) w = on_parting (identifies q) None e f refl tt
  by_tells _ _ _ e f (releases q) w = on_parting (initiates q) None e f refl tt
  by_tells _ _ _ e f (abandons q) w = on_parting (initiates q) _ e f refl (abandon_lawful q)
  by_tells _ _ _ e f (completes q) w = on_complete q e f (w refl)
  by_tells _ _ _ e f (loses t) w = on_lost t e f w

planned_keeps : (s : State) → Consistent s → (p : Place) (r : Reaction) → Fine (may_tell s p) p (leg_at s p) r → KeepsIf s (planned s p r)
planned_keeps s C p r F = by_tells s C p r F.sound F.lawful (tie_of (leg_at s p)) r.tell (tie_of r.leg) refl refl F.tells F.few

pub reacting_keeps : (s : State) → Consistent s → (p : Place) (d : Result Reaction Refusal) → FineIf (may_tell s p) p (leg_at s p) d → KeepsIf s (reacting s p d)
reacting_keeps s C p (Err why) F = tt
reacting_keeps s C p (Ok r) F = planned_keeps s C p r F
