-- What a Claim leaves, and a Committed.
use Rattle.std.specs.Prelude.{◌≡◌, ℕ, List, Option, Some, None}
use Rattle.seat_desk.specs.declared.machine.Machine.{Ghosts}
use Rattle.seat_desk.specs.declared.desk.Pass.{Pass}
use Rattle.seat_desk.specs.Passes.{mine, basis}
use Rattle.exec_journal.specs.declared.attempt.Attempt.{Attempt}
use Rattle.exec_journal.specs.declared.call.Call.{Call}
use Rattle.exec_journal.specs.declared.call.Call.TheVariants as call
use Rattle.exec_journal.specs.declared.call.CommitEnd.{CommitEnd}
use Rattle.exec_journal.specs.declared.call.Found.{Found}
use Rattle.exec_journal.specs.declared.call.Found.TheVariants as found
use Rattle.exec_journal.specs.declared.reply.Reply.{Reply}
use Rattle.exec_journal.specs.declared.reply.Reply.TheVariants as reply
use Rattle.outside.specs.Told.{PlaceTold}
use Rattle.core_contract.specs.Discipline.{Discipline, outputs_in}
use Rattle.core_contract.specs.Moves.{History}
use Rattle.core_contract.specs.Shelf.{Fresh}
use Rattle.core_contract.specs.Duties.{Asks, Commits, duty_of}
use Rattle.core_contract.specs.Laws.{claimed}
use Rattle.core_machine.specs.Objects.{IsPlaceAt}
use Rattle.proxy_calls.specs.Calls.{MakesOne}

abbrev pub claim_of : Attempt → Found → Call
claim_of t f = call.Claim t.action t.branch t.number f

-- these files were granted to the lane last, and it owes their Committed
pub record OwesCommit (t : Attempt) (files : List (List ℕ)) (own : History) : Type 0 where
  pub duty : duty_of own ≡ Commits t.action t.branch files
  pub granted : claimed own ≡ files

-- files that were found and granted are to be committed, to the action's place, which came out;
-- else nothing came out, and the lane may ask again
abbrev pub IsGranted : {P : Type 0} → (P → PlaceTold) → List (List ℕ) → Attempt → Option P → Found
    → Reply → History → Type 0
IsGranted told outputs t None f r own = duty_of own ≡ Asks
IsGranted told outputs t (Some place) (found.Files fs) reply.Granted own =
    OwesCommit t fs own × IsPlaceAt t.action outputs Fresh (told place)
IsGranted told outputs t (Some place) f r own = ⊥

module _ {M G Q : Type 0} {g : Ghosts M Call Reply G Q} where
  -- the Claim was made, and answered so
  pub record HasClaimed {P : Type 0} (told : P → PlaceTold) (rules : Q → Discipline) (t : Attempt)
      (f : Found) (place : Option P) (p p' : Pass M Call Reply G Q g) : Type 0 where
    pub reply : Reply
    pub made : MakesOne (claim_of t f) reply p p'
    pub granted : IsGranted told (outputs_in (rules (basis p)).plan t.action) t place f reply (mine p')

  -- the Committed of the attempt's branch was made
  abbrev pub HasCommitted : Attempt → Pass M Call Reply G Q g → Pass M Call Reply G Q g → Type 0
  HasCommitted t p p' =
      (how : CommitEnd) × MakesOne (call.Committed t.action t.branch how) reply.Noted p p'
