-- What the laws of a machine ask of the bench.
use Rattle.std.specs.Prelude.{◌≡◌, ◌+◌, ℕ, List, [], ◌∷◌, ◌++◌, true, false, cond, ◌==◌, Option}
use Rattle.std.proofs.Common.{refl, ap, sym, ◌∙◌, subst}
use Rattle.plain_values.specs.declared.entry.Entry.{Entry}
use Rattle.seat_desk.specs.History.{entry, calls_by}
use Rattle.exec_journal.specs.declared.call.Call.{Call}
use Rattle.exec_journal.specs.declared.call.Call.TheVariants as call
use Rattle.exec_journal.specs.declared.call.Started.TheVariants as start
use Rattle.exec_journal.specs.declared.reply.Reply.{Reply}
use Rattle.exec_journal.specs.declared.reply.Reply.TheVariants as reply
use Rattle.exec_journal.specs.Entries.{is_kept}
use Rattle.outside.specs.Told.{ChildTold, TapTold, PlaceTold}
use Rattle.core_contract.specs.Discipline.{Discipline}
use Rattle.core_contract.specs.Moves.{History}
use Rattle.core_contract.specs.Ruled.{answer_after}
use Rattle.core_contract.specs.Shelf.{Back}
use Rattle.core_contract.specs.Laws.{InScript, is_short, says_file, claimed}
use Rattle.core_machine.specs.declared.shelf.Good.{Good}
use Rattle.core_machine.specs.Bench.{GoesIn, IsPlace}

-- a short reply is not kept
pub short_not_kept : (r : Reply) → is_short r ≡ true → is_kept r ≡ false
short_not_kept (reply.Launch l a b t) e = absurd (cc)
short_not_kept (reply.Send l n a b t) e = absurd (cc)
short_not_kept (reply.Cancel l n) e = absurd (cc)
short_not_kept (reply.Gather l n a b t x y) e = absurd (cc)
short_not_kept (reply.Kill l y) e = absurd (cc)
short_not_kept reply.Stop e = absurd (cc)
short_not_kept reply.Idle e = refl
short_not_kept reply.Noted e = absurd (cc)
short_not_kept (reply.File f) e = refl
short_not_kept reply.NoFile e = refl
short_not_kept reply.Granted e = absurd (cc)
short_not_kept reply.Lost e = absurd (cc)
short_not_kept reply.Dropped e = absurd (cc)
short_not_kept reply.AgainLater e = absurd (cc)
short_not_kept (reply.Line l) e = absurd (cc)
short_not_kept (reply.Matched a b t) e = absurd (cc)
short_not_kept (reply.Late a b t) e = absurd (cc)
short_not_kept reply.Greeted e = absurd (cc)
short_not_kept (reply.Stray y) e = absurd (cc)
short_not_kept (reply.Breach y) e = absurd (cc)
short_not_kept reply.Astray e = refl
short_not_kept reply.NoMemory e = refl

-- a paid call, which is answered Noted, isn't short
pub noted_not_short : (r : Reply) → r ≡ reply.Noted
    → (says_file r ≡ true → ⊥) × (is_short r ≡ false)
noted_not_short r e = (
  λ f. absurd (let x : says_file reply.Noted ≡ true = ap says_file (sym e) ∙ f in cc),
  ap is_short e,
)

-- and pays for one
pub pays_one : (owes : History → ℕ) (h : History) (lane : ℕ) (c : Call) (r : Reply)
    → r ≡ reply.Noted
    → owes (h ++ entry lane c reply.Noted ∷ []) + 1 ≡ owes h
    → owes (h ++ entry lane c r ∷ []) + 1 ≡ owes h
pays_one owes h lane c r e pays =
    subst (λ (x : Reply). owes (h ++ entry lane c x ∷ []) + 1 ≡ owes h) (sym e) pays

-- entries of other lanes add none of this lane's
pub calls_stay : {C R : Type 0} (lane : ℕ) (h more : List (Entry C R)) → calls_by lane more ≡ []
    → calls_by lane (h ++ more) ≡ calls_by lane h
calls_stay lane [] more others = others
calls_stay {C} {R} lane (e ∷ es) more others = elim (lane == e.lane) as (λ b.
    cond b (e ∷ calls_by lane (es ++ more)) (calls_by lane (es ++ more))
    ≡ cond b (e ∷ calls_by lane es) (calls_by lane es)) [
      | true ↦ ap (λ (l : List (Entry C R)). e ∷ l) (calls_stay lane es more others)
      | false ↦ calls_stay lane es more others
    ]

-- what suits a call still suits it
module _ {K T P : Type 0} (child : K → ChildTold) (tap : T → TapTold) (place : P → PlaceTold)
    (q : Discipline) where
  pub suits_on : (h more : History) (lane : ℕ) (c : Call) (g : Option (Good K T P))
      → calls_by lane more ≡ []
      → (InScript (answer_after q) h lane c → InScript (answer_after q) (h ++ more) lane c)
      → GoesIn child tap place q h lane c g → GoesIn child tap place q (h ++ more) lane c g
  suits_on h more lane (call.Launched l start.Done) g others stays i = (stays i.0, i.1)
  suits_on h more lane (call.Launched l start.RoomFault) g others stays i = i
  suits_on h more lane (call.Launched l start.LaunchFault) g others stays i = i
  suits_on h more lane (call.Committed a b how) g others stays i = (
    stays i.0,
    subst (λ (own : History). IsPlace child tap place q a (Back (claimed own) how) g)
        (sym (calls_stay lane h more others)) i.1,
  )
  suits_on h more lane call.Ask g others stays i = i
  suits_on h more lane (call.Wrote l n how) g others stays i = i
  suits_on h more lane call.Tick g others stays i = i
  suits_on h more lane (call.Look w) g others stays i = i
  suits_on h more lane (call.Claim a b t f) g others stays i = i
  suits_on h more lane (call.Killed l) g others stays i = i
  suits_on h more lane call.Take g others stays i = i
  suits_on h more lane (call.Answer l x) g others stays i = i
  suits_on h more lane (call.Ended l how) g others stays i = i
  suits_on h more lane call.Halt g others stays i = i
