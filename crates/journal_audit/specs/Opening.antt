-- What a policy is opened with by the first line of a text.
use Rattle.std.specs.Prelude.{◌≡◌, ℕ, List, [], Some, None}
use Rattle.run_plan.specs.declared.plan.Plan.{Plan}
use Rattle.run_plan.specs.Sound.{Sound}
use Rattle.exec_journal.specs.Entry.{Entry}
use Rattle.journal_replay.specs.Knows.{SpellsUnsound}
use Rattle.journal_replay.specs.Legality.{Rulebook}
use Rattle.journal_audit.specs.declared.opens.Opened.{Opened}
use Rattle.journal_audit.specs.declared.opens.Opened.TheVariants as opened

-- the line spells the policy's basis on this plan, which is sound, and the policy has seen no call;
-- the plan is there twice
pub record IsReady {B P : Type 0} (rules : Rulebook B) (basis : P → Plan → B)
    (stands : B → P → List Entry → Type 0) (line : List ℕ) (policy : P) (plan twin : Plan)
    : Type 0 where
  pub spelled : rules.spelled line ≡ Some (basis policy plan)
  pub sound : rules.sound (basis policy plan)
  pub plan_sound : Sound plan
  pub twin_is : twin ≡ plan
  pub begins : stands (basis policy plan) policy []

abbrev pub IsOpened : {B P : Type 0} → Rulebook B → (P → Plan → B) → (B → P → List Entry → Type 0)
    → List ℕ → Opened P → Type 0
IsOpened rules basis stands line opened.Misread = rules.spelled line ≡ None
IsOpened rules basis stands line opened.Unsound = SpellsUnsound rules line
IsOpened rules basis stands line (opened.Ready policy plan twin) =
    IsReady rules basis stands line policy plan twin
