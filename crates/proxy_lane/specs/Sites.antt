-- Where a proxy lane works, what is asked of it there, and what it leaves.
use Rattle.std.specs.Prelude.{◌≡◌, ℕ, ℤ, pos, Bool, true, false, List, length, OnOk, IfErr, Option, Result, Ok, Err}
use Rattle.plain_values.specs.declared.no_memory.NoMemory.{NoMemory}
use Rattle.seat_desk.specs.declared.machine.Machine.{Ghosts}
use Rattle.seat_desk.specs.declared.desk.Pass.{Pass}
use Rattle.seat_desk.specs.Passes.{IsSamePass, mine, basis, seen}
use Rattle.exec_journal.specs.declared.attempt.Attempt.{Attempt}
use Rattle.exec_journal.specs.declared.call.Call.{Call}
use Rattle.exec_journal.specs.declared.call.Call.TheVariants as call
use Rattle.exec_journal.specs.declared.call.Found.{Found}
use Rattle.exec_journal.specs.declared.call.Written.{Written}
use Rattle.exec_journal.specs.declared.reply.Reply.{Reply}
use Rattle.exec_journal.specs.declared.reply.Reply.TheVariants as reply
use Rattle.remote_messages.specs.declared.work.WorkAction.{WorkAction}
use Rattle.core_contract.specs.Ruled.{answer_after}
use Rattle.core_contract.specs.Moves.{History}
use Rattle.core_contract.specs.Discipline.{Discipline, makers_in, outputs_in}
use Rattle.core_contract.specs.Duties.{Duty, Asks, Sends, duty_of}
use Rattle.proxy_words.specs.declared.halt.ProxyHalt.{ProxyHalt}
use Rattle.proxy_words.specs.Settings.{FitsSettings}
use Rattle.run_values.specs.Settings.{HasGroup, Means}
use Rattle.proxy_words.specs.Deeds.{Looked}
use Rattle.proxy_words.specs.Ends.{may_halt}
use Rattle.proxy_words.specs.Told.{AreTold}
use Rattle.outside.specs.Told.{ChildTold}
use Rattle.proxy_calls.specs.declared.asking.Answered.{Answered}
use Rattle.proxy_calls.specs.declared.asking.Order.{Order}
use Rattle.proxy_calls.specs.Calls.{IsProxyOf, MakesNone, MakesOne, Stays}
use Rattle.run_values.specs.Work.{IsWork, IsWorkOf}
use Rattle.proxy_laws.specs.Acts.{GatherActs, IsAnswered, SendActs}
use Rattle.proxy_laws.specs.Lanes.{LaneObjects}
use Rattle.proxy_laws.specs.Steps.{open_in, gathers, IsShelved, MayObey, Goes, GoesTo, Halts, Finishes, SomeKeeps, AreLaidBy, OwesClaim, ClaimsFound, IsCauseOfClaim, TellsWrote, IsCauseOf}
use Rattle.run_plan.specs.declared.plan.Plan.{Plan}
use Rattle.proxy_lane.specs.Held.{ByOpenLine}
use Rattle.proxy_lane.specs.declared.site.Site.{Site}
use Rattle.proxy_lane.specs.declared.site.Request.{Request}
use Rattle.proxy_lane.specs.declared.lane.ProxyLane.{ProxyLane}

-- what the site's orders are carried out by
abbrev pub means_at : {R : Type 0} → Site R → Means
means_at site =
    record { speech = site.speech; settings = site.settings.now; actions = site.actions.now }

-- what the lane owes where this request is due
abbrev pub sends : Request → Duty
sends x = Sends x.line x.number x.attempt

-- its exit code is 0, and it wasn't refused
abbrev pub IsGood : Answered → Type 0
IsGood x = (x.exit ≡ pos 0) × (x.refused ≡ false)

-- ---- what is asked of a lane

-- The lane is that of the site's berth. The settings are of the plan, the speech is an executor's
-- exactly where the berth is, and the work is that of all actions.
pub record IsSite {M G Q R : Type 0} {g : Ghosts M Call Reply G Q} (rules : Q → Discipline)
    (site : Site R) (p : Pass M Call Reply G Q g) : Type 0 where
  pub lane : IsProxyOf rules site.berth p
  pub settings : FitsSettings (rules (basis p)) site.berth site.speech site.settings.now
  pub work : IsWorkOf (rules (basis p)).plan site.actions.now

module _ {M G Q B D T K R : Type 0} {g : Ghosts M Call Reply G Q} (rules : Q → Discipline)
    (x : ProxyLane M B R Call Reply G Q D T K g) where
  -- the plan of the core
  abbrev pub plan_at : Plan
  plan_at = (rules (basis x.caller.pass)).plan

  -- this is the work of the action with this number
  abbrev pub IsWorkAt : ℕ → WorkAction → Type 0
  IsWorkAt a work = IsWork (outputs_in plan_at a) (makers_in plan_at a) work

  -- the request is due, its group has a command, and its work is that of its action
  pub record IsDue (request : Request) : Type 0 where
    pub at_site : IsSite rules x.site x.caller.pass
    pub owes : duty_of (mine x.caller.pass) ≡ sends request
    pub group : HasGroup x.site.settings.now request.attempt
    pub of_action : IsWorkAt request.attempt.action request.work.now

  -- the answer is to be gathered, its group has a command, and this is the work of its action
  pub record IsToGather (answer : Answered) (work : WorkAction) : Type 0 where
    pub at_site : IsSite rules x.site x.caller.pass
    pub owes : duty_of (mine x.caller.pass) ≡ gathers answer
    pub group : HasGroup x.site.settings.now answer.attempt
    pub of_action : IsWorkAt answer.attempt.action work

  -- what was found for the attempt may be claimed, and this is the work of its action
  pub record MayClaim (attempt : Attempt) (work : WorkAction) (found : Found) : Type 0 where
    pub at_site : IsSite rules x.site x.caller.pass
    pub may : OwesClaim rules x.site.berth attempt found x.caller.pass
    pub of_action : IsWorkAt attempt.action work

module _ {M G Q B D T K R : Type 0} {g : Ghosts M Call Reply G Q} where
  -- the child of the open line lies on the shelf
  abbrev pub IsTidy : ProxyLane M B R Call Reply G Q D T K g → Type 0
  IsTidy x = IsShelved x.site.berth x.caller.pass (open_in x.hands)

  -- it has the site and the pass that it had
  pub record IsSameLane (x x' : ProxyLane M B R Call Reply G Q D T K g) : Type 0 where
    pub pass : IsSamePass x.caller.pass x'.caller.pass
    pub site : x'.site ≡ x.site

  -- it made no entry, and has the site that it had
  pub record StaysHere (x x' : ProxyLane M B R Call Reply G Q D T K g) : Type 0 where
    pub stays : Stays x.caller.pass x'.caller.pass
    pub site : x'.site ≡ x.site

  module _ (rules : Q → Discipline) where
    -- the lane is ordered so
    pub record IsOrdered (told : K → ChildTold) (order : Order K)
        (x : ProxyLane M B R Call Reply G Q D T K g) : Type 0 where
      pub at_site : IsSite rules x.site x.caller.pass
      pub may : MayObey (means_at x.site) told x.site.berth order x.caller.pass (open_in x.hands)

    -- the lane may halt
    pub record MayGiveUp (x : ProxyLane M B R Call Reply G Q D T K g) : Type 0 where
      pub at_site : IsSite rules x.site x.caller.pass
      pub may : may_halt (duty_of (mine x.caller.pass)) ≡ true
      pub tidy : IsTidy x

    -- The lane is to ask for an order, and what it has done so far holds of what it has in its hands.
    pub record IsReady (x : ProxyLane M B R Call Reply G Q D T K g) : Type 0 where
      pub at_site : IsSite rules x.site x.caller.pass
      pub asks : duty_of (mine x.caller.pass) ≡ Asks
      pub tidy : IsTidy x
      pub kept : SomeKeeps (means_at x.site) rules x.caller.pass x.hands

-- ---- what a lane leaves

module _ {M G Q B D T K R : Type 0} {g : Ghosts M Call Reply G Q} (rules : Q → Discipline)
    (x x' : ProxyLane M B R Call Reply G Q D T K g) where
  -- the rule of the core, by which replies to the lane come
  abbrev pub rule_at : History → ℕ → Call → Reply
  rule_at = answer_after (rules (basis x.caller.pass))

  -- Looks that were made by then told this
  abbrev pub WereTold : List Looked → Type 0
  WereTold looks = AreTold rule_at x.caller.pass.lane (seen x'.caller.pass) looks

  -- what was done for a request, by the berth and the feed of the open line
  abbrev pub SendsAt : Request → Result Written NoMemory → Type 0
  SendsAt request result = ByOpenLine (SendActs (means_at x.site) request.attempt rule_at
      x.caller.pass.lane request.line request.number request.work.now result (seen x'.caller.pass))
      x.hands x'.hands

  -- what the Looks at the outputs of an executor's answer gave
  abbrev pub HasAnswered : Answered → WorkAction → Found → Type 0
  HasAnswered answer work found = IsAnswered rule_at x.caller.pass.lane answer.line answer.number
      (length work.outputs) found (seen x'.caller.pass)

  -- what was done for an answer, by the berth
  abbrev pub GathersAt : Answered → WorkAction → Result Found NoMemory → Type 0
  GathersAt answer work result = GatherActs (means_at x.site) answer.attempt rule_at
      x.caller.pass.lane answer.line answer.number work result (seen x'.caller.pass)
      x.hands.berth x'.hands.berth

module _ {M G Q B D T K R A : Type 0} {g : Ghosts M Call Reply G Q} (result : Result A ProxyHalt)
    (x x' : ProxyLane M B R Call Reply G Q D T K g) where
  -- What was written was reported, or the lane is to halt. Its hands are as they were.
  pub record ReportsWrote (line : ℕ) (number : ℤ) (wrote : Result Written NoMemory) : Type 0 where
    pub same : IsSameLane x x'
    pub hands : x'.hands ≡ x.hands
    pub told : OnOk result ((duty_of (mine x'.caller.pass) ≡ Asks)
        × TellsWrote line number wrote x.caller.pass x'.caller.pass)
    pub refused : IfErr result (λ cause. MakesNone x.caller.pass x'.caller.pass
        × IsCauseOf line number wrote cause)

  -- What was found was claimed, and committed where it was granted; or the lane is to halt. Its hands
  -- are as they were.
  pub record Claims (attempt : Attempt) (found : Found) : Type 0 where
    pub same : IsSameLane x x'
    pub hands : x'.hands ≡ x.hands
    pub claims : OnOk result ((duty_of (mine x'.caller.pass) ≡ Asks)
        × ClaimsFound attempt found x.caller.pass x'.caller.pass)
    pub refused : IfErr result (λ cause. MakesNone x.caller.pass x'.caller.pass
        × IsCauseOfClaim attempt found cause)

module _ {M G Q : Type 0} {g : Ghosts M Call Reply G Q} (means : Means) (rules : Q → Discipline) where
  -- The order was carried out and reported, and the lane is to ask again; or it is to halt.
  abbrev pub Obeyed : {A : Type 0} → Result A ProxyHalt → Pass M Call Reply G Q g → LaneObjects
      → Pass M Call Reply G Q g → LaneObjects → Type 0
  Obeyed (Ok done) p h p' h' = (duty_of (mine p') ≡ Asks) × Goes means rules p h p' h'
  Obeyed (Err cause) p h p' h' = Halts means rules cause p h p' h'

  -- so it is after a round, where the lane may have been told to stop
  abbrev pub Rounded : Result Bool ProxyHalt → Pass M Call Reply G Q g → LaneObjects
      → Pass M Call Reply G Q g → LaneObjects → Type 0
  Rounded (Ok more) p h p' h' = GoesTo means rules more p h p' h'
  Rounded (Err cause) p h p' h' = Halts means rules cause p h p' h'

module _ {M G Q B D T K R : Type 0} {g : Ghosts M Call Reply G Q} where
  module _ (rules : Q → Discipline) where
    -- what an order leaves
    pub record Obeys {A : Type 0} (result : Result A ProxyHalt)
        (x x' : ProxyLane M B R Call Reply G Q D T K g) : Type 0 where
      pub same : IsSameLane x x'
      pub tidy : IsTidy x'
      pub goes : Obeyed (means_at x.site) rules result x.caller.pass x.hands x'.caller.pass x'.hands

    -- what a round leaves
    pub record Rounds (result : Result Bool ProxyHalt)
        (x x' : ProxyLane M B R Call Reply G Q D T K g) : Type 0 where
      pub same : IsSameLane x x'
      pub tidy : IsTidy x'
      pub goes : Rounded (means_at x.site) rules result x.caller.pass x.hands x'.caller.pass x'.hands

    -- what all rounds leave
    pub record Serves (halted : Option ProxyHalt)
        (x x' : ProxyLane M B R Call Reply G Q D T K g) : Type 0 where
      pub same : IsSameLane x x'
      pub ends : Finishes (means_at x.site) rules halted x.caller.pass x.hands x'.caller.pass x'.hands

  -- it halted, and the line that was open was laid by
  pub record GivesUp (x x' : ProxyLane M B R Call Reply G Q D T K g) : Type 0 where
    pub same : IsSameLane x x'
    pub halted : MakesOne call.Halt reply.Noted x.caller.pass x'.caller.pass
    pub laid_by : AreLaidBy (open_in x.hands) x.hands x'.hands
