-- What values of the program have: numbers of 32 bits, and contents that are bytes.
use Rattle.std.specs.Prelude.{ℕ, ◌<◌, ◌^◌, ℤ, pos, negsuc, List, [], ◌∷◌, Option, Some, None}
use Rattle.base64.specs.GeneralPurpose.{IsBytes}
use Rattle.run_plan.specs.declared.plan.Group.{Group}
use Rattle.run_plan.specs.declared.plan.Maker.{Maker}
use Rattle.run_plan.specs.declared.plan.Plan.{Plan}
use Rattle.run_plan.specs.declared.plan.PlanAction.{PlanAction}
use Rattle.placed_rules.specs.declared.placed.Placed.{Placed}
use Rattle.placed_rules.specs.declared.placed.Seating.{Seating}
use Rattle.placed_rules.specs.declared.placed.Seating.TheVariants.{Own, Pools}
use Rattle.placed_rules.specs.declared.pools.SharedPool.{SharedPool}
use Rattle.exec_journal.specs.Entry.{Entry}
use Rattle.exec_journal.specs.declared.call.Answer.{Answer}
use Rattle.exec_journal.specs.declared.call.NamedFile.{NamedFile}
use Rattle.exec_journal.specs.declared.call.Call.{Call}
use Rattle.exec_journal.specs.declared.call.Call.TheVariants as call
use Rattle.exec_journal.specs.declared.call.CommitEnd.{CommitEnd}
use Rattle.exec_journal.specs.declared.call.CommitEnd.TheVariants as commit
use Rattle.exec_journal.specs.declared.call.Found.{Found}
use Rattle.exec_journal.specs.declared.call.Found.TheVariants as found
use Rattle.exec_journal.specs.declared.call.Wanted.{Wanted}
use Rattle.exec_journal.specs.declared.call.Wanted.TheVariants as look
use Rattle.exec_journal.specs.declared.reply.Reply.{Reply}
use Rattle.exec_journal.specs.declared.reply.Reply.TheVariants as reply

abbrev pub IsCount : ℕ → Type 0
IsCount n = n < 2 ^ 32

abbrev pub IsSigned : ℤ → Type 0
IsSigned (pos n) = n < 2 ^ 31
IsSigned (negsuc n) = n < 2 ^ 31

abbrev pub IfCount : Option ℕ → Type 0
IfCount None = Unit {0}
IfCount (Some n) = IsCount n

-- each element of a list has it
abbrev pub Each : {A : Type 0} → (A → Type 0) → List A → Type 0
Each P [] = Unit {0}
Each P (x ∷ xs) = P x × Each P xs

pub record MakerFits (m : Maker) : Type 0 where
  pub action : IsCount m.action
  pub output : IsCount m.output

pub record PlanActionFits (a : PlanAction) : Type 0 where
  pub makers : Each MakerFits a.makers
  pub local : IfCount a.local
  pub remote : IfCount a.remote

pub record GroupFits (g : Group) : Type 0 where
  pub berths : IsCount g.berths

pub record PlanFits (p : Plan) : Type 0 where
  pub actions : Each PlanActionFits p.actions
  pub groups : Each GroupFits p.groups
  pub limit : IsCount p.limit

pub record PoolFits (x : SharedPool) : Type 0 where
  pub groups : Each IsCount x.groups
  pub berths : IsCount x.berths

abbrev pub SeatingFits : Seating → Type 0
SeatingFits Own = Unit {0}
SeatingFits (Pools pools instances) = Each PoolFits pools × IsCount instances

pub record PlacedFits (x : Placed) : Type 0 where
  pub plan : PlanFits x.plan
  pub seating : SeatingFits x.seating
  pub ticks : IfCount x.ticks

pub record FileFits (f : NamedFile) : Type 0 where
  pub content : IsBytes f.content

pub record AnswerFits (x : Answer) : Type 0 where
  pub number : IsSigned x.number
  pub exit : IsSigned x.exit
  pub files : Each FileFits x.files
  pub version : IsSigned x.version

abbrev pub WantedFits : Wanted → Type 0
WantedFits (look.Made a o) = IsCount a × IsCount o
WantedFits (look.Answered l n o) = IsCount l × IsSigned n × IsCount o

abbrev pub FoundFits : Found → Type 0
FoundFits (found.Files fs) = Each IsBytes fs
FoundFits (found.Exit n) = IsSigned n
FoundFits (found.Missing k) = IsCount k
FoundFits found.RoomFault = Unit {0}
FoundFits found.Refused = Unit {0}

abbrev pub CommitEndFits : CommitEnd → Type 0
CommitEndFits commit.Done = Unit {0}
CommitEndFits (commit.PlaceFault k) = IsCount k

abbrev pub CallFits : Call → Type 0
CallFits (call.Launched l how) = IsCount l
CallFits (call.Wrote l n how) = IsCount l × IsSigned n
CallFits (call.Look w) = WantedFits w
CallFits (call.Claim a b t f) = IsCount a × IsCount t × FoundFits f
CallFits (call.Committed a b how) = IsCount a × CommitEndFits how
CallFits (call.Killed l) = IsCount l
CallFits (call.Answer l x) = IsCount l × AnswerFits x
CallFits (call.Ended l how) = IsCount l
CallFits _ = Unit {0}

abbrev pub ReplyFits : Reply → Type 0
ReplyFits (reply.Launch l a b t) = IsCount l × IsCount a × IsCount t
ReplyFits (reply.Send l n a b t) = IsCount l × IsSigned n × IsCount a × IsCount t
ReplyFits (reply.Cancel l n) = IsCount l × IsSigned n
ReplyFits (reply.Gather l n a b t e r) =
    IsCount l × IsSigned n × IsCount a × IsCount t × IsSigned e
ReplyFits (reply.Kill l y) = IsCount l
ReplyFits (reply.File content) = IsBytes content
ReplyFits (reply.Line l) = IsCount l
ReplyFits (reply.Matched a b t) = IsCount a × IsCount t
ReplyFits (reply.Late a b t) = IsCount a × IsCount t
ReplyFits _ = Unit {0}

pub record EntryFits (e : Entry) : Type 0 where
  pub lane : IsCount e.lane
  pub call : CallFits e.call
  pub reply : ReplyFits e.reply
