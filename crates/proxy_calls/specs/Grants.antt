-- What is asked of files that are to be committed.
use Rattle.std.specs.Prelude.{◌≡◌, ◌<◌, ◌^◌, length}
use Rattle.seat_desk.specs.declared.machine.Machine.{Ghosts}
use Rattle.seat_desk.specs.declared.desk.Pass.{Pass}
use Rattle.seat_desk.specs.Passes.{mine, basis}
use Rattle.exec_journal.specs.declared.call.Call.{Call}
use Rattle.exec_journal.specs.declared.reply.Reply.{Reply}
use Rattle.outside.specs.Told.{PlaceTold}
use Rattle.core_contract.specs.Discipline.{Discipline, outputs_in}
use Rattle.core_contract.specs.Shelf.{Fresh}
use Rattle.core_machine.specs.Objects.{IsPlaceAt}
use Rattle.proxy_calls.specs.declared.claiming.Grant.{Grant}
use Rattle.proxy_calls.specs.Claims.{OwesCommit}

-- The lane owes their Committed. There is one for each output of the action, and nothing was
-- written to its place.
pub record MayCommit {M G Q P : Type 0} {g : Ghosts M Call Reply G Q} (told : P → PlaceTold)
    (rules : Q → Discipline) (grant : Grant P) (p : Pass M Call Reply G Q g) : Type 0 where
  pub owes : OwesCommit grant.attempt grant.files.now (mine p)
  pub outputs : outputs_in (rules (basis p)).plan grant.attempt.action ≡ grant.outputs.now
  pub fits : length grant.files.now ≡ length grant.outputs.now
  pub few : length grant.outputs.now < 2 ^ 32
  pub place : IsPlaceAt grant.attempt.action grant.outputs.now Fresh (told grant.place)
