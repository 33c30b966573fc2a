-- What an entry of a legal journal does to the shelf of its berth.
use Rattle.std.proofs.Common.{◌≡◌, ℕ, ◌/◌, ◌%◌, ◌==◌, Bool, true, false, cond, not, List, ◌∷◌, Option, Some, None, inl, inr, refl, sym, subst}
use Rattle.std.proofs.lemmas.Bool.{and_parts}
use Rattle.run_plan.specs.declared.plan.Plan.{Plan}
use Rattle.exec_journal.proofs.Ruled as ru
use Rattle.exec_journal.specs.Lawful as lw
use Rattle.exec_journal.specs.declared.attempt.Attempt.{Attempt}
use Rattle.exec_journal.specs.declared.call.Call.{Call}
use Rattle.exec_journal.specs.declared.call.Call.TheVariants as call
use Rattle.exec_journal.specs.declared.call.Found.{Found}
use Rattle.exec_journal.specs.declared.call.Found.TheVariants as found
use Rattle.exec_journal.specs.declared.call.Started.{Started}
use Rattle.exec_journal.specs.declared.call.Started.TheVariants as start
use Rattle.exec_journal.specs.Entry.{Entry}
use Rattle.exec_journal.specs.declared.reply.Reply.{Reply}
use Rattle.exec_journal.specs.declared.reply.Reply.TheVariants as reply
use Rattle.exec_journal.specs.declared.reply.Why.{Why}
use Rattle.exec_journal.specs.declared.reply.Why.TheVariants as why
use Rattle.exec_journal.specs.Entries.{attempt_of, launch_in, takes, orders_kill, starts}
use Rattle.exec_journal.specs.Lawful.{Lawful}
use Rattle.exec_journal.specs.Rules.{is_vacant}
use Rattle.exec_journal.specs.Words.{last_line, line_count, why_of}
use Rattle.exec_journal.proofs.Reasons as u
use Rattle.exec_journal.proofs.Ruled.{by_bool, not_true}
use Rattle.journal_laws.proofs.Over.{entry_ruled}
use Rattle.journal_laws.proofs.Owed.{scripted}
use Rattle.core_contract.specs.Moves.{Move, Nothing, claim_moves, proxy_move, tap_move, move_in}
use Rattle.core_contract.specs.Shelf.{child_by, tap_by}

-- it leaves children and taps where they lie
record IsStill (m : Move) : Type 0 where
  child : (o : Option ℕ) → child_by o m ≡ o
  tap : (o : Option ℕ) → tap_by o m ≡ o

still_nothing : IsStill Nothing
still_nothing = record { child = λ o. refl; tap = λ o. refl }

claim_still : (a : ℕ) (f : Found) (x : Reply) → IsStill (claim_moves a f x)
claim_still a (found.Files fs) reply.Granted = record { child = λ o. refl; tap = λ o. refl }
claim_still a (found.Files fs) _ = record { child = λ o. refl; tap = λ o. refl }
claim_still a (found.Exit n) x = still_nothing
claim_still a (found.Missing k) x = still_nothing
claim_still a found.RoomFault x = still_nothing
claim_still a found.Refused x = still_nothing

-- ---- what an entry does to lines

-- it launches, starts, kills and gives none, and leaves children and taps where they lie
pub record IsQuiet (lane : ℕ) (c : Call) (x : Reply) : Type 0 where
  pub launches : launch_in x ≡ None
  pub starts : (l : ℕ) → starts l c ≡ false
  pub kills : (l : ℕ) → orders_kill l x ≡ false
  pub gives : (l : ℕ) → takes l x ≡ false
  pub child : (o : Option ℕ) → child_by o (move_in lane c x) ≡ o
  pub tap : (o : Option ℕ) → tap_by o (move_in lane c x) ≡ o

pub data StepOf (p : Plan) (j : List Entry) (lane : ℕ) (c : Call) (x : Reply) : Type 0 where
  Launches : (t : Attempt) → launch_in x ≡ Some (line_count j, t) → c ≡ call.Ask
      → is_vacant j (last_line j (lane / 2)) ≡ true → StepOf p j lane c x
  Starts : (l : ℕ) → c ≡ call.Launched l start.Done → x ≡ reply.Noted → StepOf p j lane c x
  Kills : (l : ℕ) (y : Why) → c ≡ call.Ask → x ≡ reply.Kill l y → StepOf p j lane c x
  Takes : (l : ℕ) → c ≡ call.Take → x ≡ reply.Line l → last_line j (lane / 2) ≡ Some l
      → StepOf p j lane c x
  Halts : c ≡ call.Halt → x ≡ reply.Noted → StepOf p j lane c x
  Quiet : IsQuiet lane c x → StepOf p j lane c x

both_still : (b : Bool) (c : Call) (x : Reply) → IsStill (proxy_move c x) → IsStill (tap_move c x)
    → IsStill (cond b (proxy_move c x) (tap_move c x))
both_still true c x y z = y
both_still false c x y z = z

quiet : (p : Plan) (j : List Entry) (lane : ℕ) (c : Call) (x : Reply) → launch_in x ≡ None
    → ((l : ℕ) → starts l c ≡ false) → ((l : ℕ) → orders_kill l x ≡ false)
    → ((l : ℕ) → takes l x ≡ false) → IsStill (proxy_move c x) → IsStill (tap_move c x)
    → StepOf p j lane c x
quiet p j lane c x none unstarted unkilled ungiven proxy tap =
    let still = both_still (lane % 2 == 0) c x proxy tap in
    Quiet (record {
      launches = none;
      starts = unstarted;
      kills = unkilled;
      gives = ungiven;
      child = still.child;
      tap = still.tap;
    })

claim_quiet : (p : Plan) (j : List Entry) (lane a : ℕ) (x : Reply) (f : Found) (c : Call)
    → launch_in x ≡ None → ((l : ℕ) → starts l c ≡ false) → ((l : ℕ) → orders_kill l x ≡ false)
    → ((l : ℕ) → takes l x ≡ false) → proxy_move c x ≡ claim_moves a f x
    → tap_move c x ≡ Nothing → StepOf p j lane c x
claim_quiet p j lane a x f c none unstarted unkilled ungiven proxy tap =
    quiet p j lane c x none unstarted unkilled ungiven
    (subst IsStill (sym proxy) (claim_still a f x)) (subst IsStill (sym tap) still_nothing)

noted_step : (p : Plan) (j : List Entry) (lane : ℕ) (c : Call) → ru.is_noted c ≡ true
    → StepOf p j lane c reply.Noted
noted_step p j lane (call.Launched l start.Done) h = Starts l refl refl
noted_step p j lane (call.Launched l start.RoomFault) h =
    quiet p j lane (call.Launched l start.RoomFault) reply.Noted refl (λ k. refl) (λ k. refl)
    (λ k. refl) still_nothing still_nothing
noted_step p j lane (call.Launched l start.LaunchFault) h =
    quiet p j lane (call.Launched l start.LaunchFault) reply.Noted refl (λ k. refl) (λ k. refl)
    (λ k. refl) still_nothing still_nothing
noted_step p j lane (call.Wrote l n how) h = quiet p j lane (call.Wrote l n how) reply.Noted refl
    (λ k. refl) (λ k. refl) (λ k. refl) still_nothing still_nothing
noted_step p j lane (call.Committed a b how) h = quiet p j lane (call.Committed a b how)
    reply.Noted refl (λ k. refl) (λ k. refl) (λ k. refl)
    (record { child = λ o. refl; tap = λ o. refl }) still_nothing
noted_step p j lane (call.Killed l) h = quiet p j lane (call.Killed l) reply.Noted refl
    (λ k. refl) (λ k. refl) (λ k. refl) still_nothing still_nothing
noted_step p j lane (call.Ended l how) h = quiet p j lane (call.Ended l how) reply.Noted refl
    (λ k. refl) (λ k. refl) (λ k. refl) still_nothing still_nothing
noted_step p j lane call.Halt h = Halts refl refl
noted_step p j lane call.Tick h = quiet p j lane call.Tick reply.Noted refl
    (λ k. refl) (λ k. refl) (λ k. refl) still_nothing still_nothing
noted_step p j lane _ h = absurd (cc)

step_ruled : (p : Plan) (j : List Entry) (lane : ℕ) (c : Call) (x : Reply)
    → u.Ruled p j lane c x → StepOf p j lane c x
step_ruled p j lane c x (u.Quits l here run over) = Kills l why.Quit refl refl
step_ruled p j lane c x (u.KillsBroken l y here run broken over) = Kills l (why_of y) refl refl
step_ruled p j lane c x (u.KillsUnwanted l here run one none unwanted over) =
    Kills l why.Unwanted refl refl
step_ruled p j lane c x (u.Evicts l here alive empty free none) = Kills l why.Evicted refl refl
step_ruled p j lane c x (u.Launches gr t vacant next none) =
    Launches (attempt_of t.action t.branch t.number) refl refl vacant
step_ruled p j lane c x (u.Takes l here up new) = Takes l refl refl here
step_ruled p j lane c x (u.Notes d n) = noted_step p j lane d n
step_ruled p j lane c x (u.Loses a b t f other) = claim_quiet p j lane a reply.Lost f
    (call.Claim a b t f) refl (λ l. refl) (λ l. refl) (λ l. refl) refl refl
step_ruled p j lane c x (u.Grants a b t f free may) = claim_quiet p j lane a reply.Granted f
    (call.Claim a b t f) refl (λ l. refl) (λ l. refl) (λ l. refl) refl refl
step_ruled p j lane c x (u.Defers a b t f free none below) = claim_quiet p j lane a
    reply.AgainLater f (call.Claim a b t f) refl (λ l. refl) (λ l. refl) (λ l. refl) refl refl
step_ruled p j lane c x (u.Drops a b t f free none at) = claim_quiet p j lane a reply.Dropped f
    (call.Claim a b t f) refl (λ l. refl) (λ l. refl) (λ l. refl) refl refl
step_ruled p j lane c x _ = quiet p j lane c x refl (λ l. refl) (λ l. refl) (λ l. refl)
    (record { child = λ o. refl; tap = λ o. refl })
    (record { child = λ o. refl; tap = λ o. refl })

pub step : (p : Plan) (e : Entry) (j : List Entry) → Lawful p (e ∷ j)
    → StepOf p j e.lane e.call e.reply
step p e j legal = step_ruled p j e.lane e.call e.reply (entry_ruled p e j legal)

-- ---- which lane makes a call

pub ask_even : (p : Plan) (j : List Entry) (lane : ℕ) → lw.in_script p j lane call.Ask ≡ true
    → (lane % 2 == 0) ≡ true
ask_even p j lane may = elim (scripted p j lane call.Ask refl may) [
  | inl owes ↦ absurd (cc)
  | inr allows ↦ (and_parts (lane % 2 == 0) _ allows).0
]

pub launched_even : (p : Plan) (j : List Entry) (lane l : ℕ) (how : Started)
    → lw.in_script p j lane (call.Launched l how) ≡ true → (lane % 2 == 0) ≡ true
launched_even p j lane l how may = elim (scripted p j lane (call.Launched l how) refl may) [
  | inl owes ↦ absurd (cc)
  | inr allows ↦ (and_parts (lane % 2 == 0) _ allows).0
]

pub claim_even : (p : Plan) (j : List Entry) (lane a : ℕ) (b : _) (t : ℕ) (f : Found)
    → lw.in_script p j lane (call.Claim a b t f) ≡ true → (lane % 2 == 0) ≡ true
claim_even p j lane a b t f may = elim (scripted p j lane (call.Claim a b t f) refl may) [
  | inl owes ↦ absurd (cc)
  | inr allows ↦ (and_parts (lane % 2 == 0) _ allows).0
]

pub take_odd : (p : Plan) (j : List Entry) (lane : ℕ) → lw.in_script p j lane call.Take ≡ true
    → (lane % 2 == 0) ≡ false
take_odd p j lane may = elim (scripted p j lane call.Take refl may) [
  | inl owes ↦ absurd (cc)
  | inr allows ↦ not_true _ (and_parts (not (lane % 2 == 0)) _ allows).0
]
