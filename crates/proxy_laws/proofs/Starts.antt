-- What a Launch makes of what the lane has done so far.
use Rattle.std.proofs.Common.{◌≡◌, ℕ, ◌<◌, List, [], ◌∷◌, ◌++◌, ◌≤◌, Some, None, refl, ap, sym, subst, ◌∙◌, arith}
use Rattle.std.specs.Prelude.{All, false}
use Rattle.seat_desk.specs.declared.machine.Machine.{Ghosts}
use Rattle.seat_desk.specs.declared.desk.Pass.{Pass}
use Rattle.seat_desk.specs.Passes.{mine, basis, seen}
use Rattle.seat_desk.specs.History.{entry}
use Rattle.plain_values.specs.declared.command.Command.{Command}
use Rattle.outside.specs.Launches.{IsNewFeed}
use Rattle.outside.specs.Told.{BerthTold, FeedTold}
use Rattle.outside.specs.declared.berth.BerthCall.{BerthCall}
use Rattle.outside.specs.declared.berth.BerthCall.TheVariants as berth
use Rattle.exec_journal.specs.declared.attempt.Attempt.{Attempt}
use Rattle.exec_journal.specs.declared.call.Call.{Call}
use Rattle.exec_journal.specs.declared.call.Call.TheVariants as call
use Rattle.exec_journal.specs.declared.call.Started.{Started}
use Rattle.exec_journal.specs.declared.call.Started.TheVariants as start
use Rattle.exec_journal.specs.declared.reply.Reply.{Reply}
use Rattle.exec_journal.specs.declared.reply.Reply.TheVariants as reply
use Rattle.exec_journal.specs.Entries.{is_done}
use Rattle.sandbox_rooms.specs.Calls.{Made}
use Rattle.berth_acts.specs.Acts.{LaunchedBy}
use Rattle.core_contract.specs.Discipline.{Discipline}
use Rattle.core_contract.specs.Ruled.{answer_after}
use Rattle.core_contract.specs.Moves.{Past, History}
use Rattle.core_contract.specs.Laws.{lines_in}
use Rattle.core_contract.specs.Duties.{Duty, Launches, duty_of}
use Rattle.run_values.specs.Settings.{Means, command_for}
use Rattle.proxy_words.specs.declared.halt.ProxyHalt.{ProxyHalt}
use Rattle.proxy_words.specs.Deeds.{Deed, DeedOf, IsLaunch, with_end}
use Rattle.proxy_words.specs.Lines.{Returned, EndsLine, IsFed, IsKilled, RoseBy, room_fault, started_by, started_in, unsaid_by}
use Rattle.proxy_words.specs.Ends.{HaltsBy}
use Rattle.proxy_calls.specs.Calls.{MakesNone, MakesOne}
use Rattle.proxy_laws.specs.Lanes.{LaneObjects}
use Rattle.proxy_words.proofs.Growing.{adds_more}
use Rattle.proxy_laws.specs.Steps.{Goes, Halts}
use Rattle.proxy_laws.proofs.Holding.{Touches, IsQuiet, holds_quiet, holds_started, holds_unsaid}
use Rattle.proxy_laws.proofs.Keeping.{touches_quiet, rose_one, keeps_more, halting_more, halting_with}

abbrev pub calls_deed : List BerthCall → Deed
calls_deed calls = record { line = 0; looks = []; calls = calls; given = [] }

-- what was called is what is done for a Launch
pub launch_deed : (means : Means) (t : Attempt) (l : ℕ) (how : Started) (calls : List BerthCall)
    (command : Command) → command_for means.settings t ≡ Some command → LaunchedBy l command how calls
    → IsLaunch means t l how (calls_deed calls)
launch_deed means t l how calls command of_group did = record {
  command = command;
  of_group = of_group;
  nothing_looked = refl;
  nothing_given = refl;
  launched = did;
}

rose_over : (before mid now : ℕ) → before ≤ mid → mid ≤ now → RoseBy 0 before now
rose_over before mid now first second = omega arith

new_fed : (l : ℕ) (feed : FeedTold) → IsNewFeed l feed → IsFed [] [] l feed
new_fed l feed new =
    record { of_line = new.of_line; given = new.nothing_given; faults = omega arith }

module _ {M G Q : Type 0} {g : Ghosts M Call Reply G Q} (means : Means)
    (rules : Q → Discipline) (p p2 : Pass M Call Reply G Q g) (h : LaneObjects) (l : ℕ)
    (t : Attempt) (duty : duty_of (mine p) ≡ Launches l t) (none : h.opened ≡ None) where
  abbrev rule : Q → History → ℕ → Call → Reply
  rule q = answer_after (rules q)

  -- a Halt, whatever was called went on the berth
  module _ (by : ProxyHalt) (calls : List BerthCall) (F : Type 0) (new : BerthTold)
      (made : Made calls F h.berth new) (no_entry : MakesNone p p2)
      (did : HaltsBy means by (Launches l t) (calls_deed calls)) where
    abbrev e : Past
    e = entry p.lane call.Halt reply.Noted

    abbrev halt_touches : Touches e (calls_deed calls) h.berth new
    halt_touches =
        touches_quiet p.lane reply.Noted (calls_deed calls) h.berth new call.Halt F refl made

    by_duty : HaltsBy means by (duty_of (mine p)) (calls_deed calls)
    by_duty = subst (λ (s : Duty). HaltsBy means by s (calls_deed calls)) (sym duty) did

    -- no process was started
    pub launch_halts : unsaid_by (Some by) ≡ [] → Halts means rules by p h p2 (record h { berth = new })
    launch_halts not_started = λ first k.
        halting_more (rule (basis p)) p.lane means (mine p) (seen p) first h k by (mine p2) (seen p2)
        (record h { berth = new }) (calls_deed calls) no_entry.1 by_duty
        (holds_quiet (rule (basis p)) p.lane (mine p) k.deeds (seen p) first h k.holds e (calls_deed calls)
        (seen p2) no_entry.0 tt new halt_touches
        (record { starts = refl; gives = refl; feeds = λ n. refl }))
        k.all_said not_started

    -- one was, and the berth has ended its child
    module _ (then : BerthTold) (ended : EndsLine l new then) (back : Returned) (of : back.line ≡ l) (feed : IsNewFeed l back.feed)
        (killed : IsKilled l back.child) (fresh : All (λ n. n < l) (started_in (mine p)))
        (ordered : l < lines_in (seen p)) where
      ended_touches : Touches e (with_end l (calls_deed calls)) h.berth then
      ended_touches = record {
        log = adds_more calls (berth.End l ∷ []) (calls ++ berth.End l ∷ []) h.berth.log new.log
            then.log refl made.log ended.log;
        faults = rose_over h.berth.faults new.faults then.faults made.count.later ended.later;
        same = ended.same ∙ made.same;
      }

      pub unsaid_halts : unsaid_by (Some by) ≡ l ∷ []
          → Halts means rules by p h p2 (record h { berth = then; unsaid = Some back })
      unsaid_halts is_started = λ first k.
          halting_with (rule (basis p)) p.lane means (mine p) (seen p) first h k by (mine p2)
          (seen p2) (record h { berth = then; unsaid = Some back }) (calls_deed calls) (l ∷ [])
          no_entry.1 by_duty
          (holds_unsaid (rule (basis p)) p.lane (mine p) k.deeds (seen p) first h k.holds e
          (with_end l (calls_deed calls)) (seen p2) no_entry.0 tt then ended_touches l refl (λ n. refl)
          none fresh ordered back (new_fed l back.feed feed, killed) of refl)
          (λ i. of i ∷ []) is_started

  -- ---- a report

  module _ (how : Started) (calls : List BerthCall) (F : Type 0) (new : BerthTold)
      (made : Made calls F h.berth new) (command : Command)
      (of_group : command_for means.settings t ≡ Some command) (did : LaunchedBy l command how calls)
      (told : MakesOne (call.Launched l how) reply.Noted p p2) where
    abbrev report : Past
    report = entry p.lane (call.Launched l how) reply.Noted

    deed_is : DeedOf means (duty_of (mine p)) (call.Launched l how) (calls_deed calls)
    deed_is = subst (λ (s : Duty). DeedOf means s (call.Launched l how) (calls_deed calls))
        (sym duty) (launch_deed means t l how calls command of_group did)

    -- no process was started
    pub fault_goes : is_done how ≡ false → F → Goes means rules p h p2 (record h { berth = new })
    fault_goes fault failed = λ first k.
        keeps_more (rule (basis p)) p.lane means (mine p) (seen p) first h k (mine p2) (seen p2)
        (record h { berth = new }) report (calls_deed calls) told.1 deed_is
        (holds_quiet (rule (basis p)) p.lane (mine p) k.deeds (seen p) first h k.holds report
        (calls_deed calls) (seen p2) told.0 tt new (touches how fault)
        (quiet how fault)) k.all_said
      where
        touches : (s : Started) → is_done s ≡ false
            → Touches (entry p.lane (call.Launched l s) reply.Noted) (calls_deed calls) h.berth new
        touches start.Done is = absurd (cc)
        touches start.RoomFault is = record {
          log = made.log;
          faults = rose_one F h.berth.faults new.faults made.count failed;
          same = made.same;
        }
        touches start.LaunchFault is = record {
          log = made.log;
          faults = rose_one F h.berth.faults new.faults made.count failed;
          same = made.same;
        }

        quiet : (s : Started) → is_done s ≡ false
            → IsQuiet (entry p.lane (call.Launched l s) reply.Noted) (calls_deed calls)
        quiet start.Done is = absurd (cc)
        quiet start.RoomFault is = record { starts = refl; gives = refl; feeds = λ n. refl }
        quiet start.LaunchFault is = record { starts = refl; gives = refl; feeds = λ n. refl }

    -- one was
    pub started_goes : how ≡ start.Done → (feed : FeedTold) → IsNewFeed l feed
        → All (λ n. n < l) (started_in (mine p)) → l < lines_in (seen p)
        → Goes means rules p h p2
        (record h { berth = new; opened = Some (record { line = l; feed = feed }) })
    started_goes is feed fed fresh ordered = λ first k.
        keeps_more (rule (basis p)) p.lane means (mine p) (seen p) first h k (mine p2) (seen p2)
        (record h { berth = new; opened = Some (record { line = l; feed = feed }) }) report
        (calls_deed calls) told.1 deed_is
        (holds_started (rule (basis p)) p.lane (mine p) k.deeds (seen p) first h k.holds report
        (calls_deed calls) (seen p2) told.0 tt new
        (touches_quiet p.lane reply.Noted (calls_deed calls) h.berth new (call.Launched l how) F
        (ap (λ (s : Started). room_fault (call.Launched l s)) is) made) l refl
        (λ n. refl) none fresh ordered feed (new_fed l feed fed)
        (ap (λ (s : Started). started_by (call.Launched l s)) is)) k.all_said
