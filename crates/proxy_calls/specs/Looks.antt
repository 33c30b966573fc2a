-- What a Look was answered.
use Rattle.std.specs.Prelude.{◌≡◌, ℕ, ℤ, List, Option, Some}
use Rattle.run_plan.specs.declared.plan.Maker.{Maker}
use Rattle.exec_journal.specs.declared.attempt.Attempt.{Attempt}
use Rattle.exec_journal.specs.declared.call.Wanted.{Wanted}
use Rattle.exec_journal.specs.declared.call.Wanted.TheVariants as wanted
use Rattle.core_contract.specs.Moves.{History}
use Rattle.core_contract.specs.Duties.{Sends, duty_of}
use Rattle.proxy_words.specs.Deeds.{Looked}

abbrev pub told_as : Wanted → Option (List ℕ) → Looked
told_as wanted found = record { wanted = wanted; found = found }

-- the output of an earlier action
abbrev pub made_as : Maker → List ℕ → Looked
made_as m bytes = record { wanted = wanted.Made m.action m.output; found = Some bytes }

-- the lane owes the Wrote of a request of this attempt
abbrev pub OwesSend : Attempt → History → Type 0
OwesSend t own = (l : ℕ) × (n : ℤ) × (duty_of own ≡ Sends l n t)
