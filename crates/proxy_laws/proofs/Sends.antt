-- What a Send and a Cancel make of what the lane has done so far.
use Rattle.std.proofs.Common.{◌≡◌, inl, inr, ⊎_elim, ℕ, ℤ, List, [], ◌∷◌, ◌++◌, Some, Result, refl, ap, sym, subst, ◌∙◌, arith, append_assoc}
use Rattle.std.specs.Prelude.{slice_get}
use Rattle.seat_desk.specs.declared.machine.Machine.{Ghosts}
use Rattle.seat_desk.specs.declared.desk.Pass.{Pass}
use Rattle.seat_desk.specs.Passes.{mine, basis, seen}
use Rattle.seat_desk.specs.History.{entry, StartsWith}
use Rattle.plain_values.specs.declared.no_memory.NoMemory.{NoMemory}
use Rattle.outside.specs.Told.{BerthTold, FeedTold}
use Rattle.run_plan.specs.declared.plan.Speech.{Speech}
use Rattle.exec_journal.specs.declared.attempt.Attempt.{Attempt}
use Rattle.exec_journal.specs.declared.call.Call.{Call}
use Rattle.exec_journal.specs.declared.call.Call.TheVariants as call
use Rattle.exec_journal.specs.declared.call.Written.{Written}
use Rattle.exec_journal.specs.declared.call.Written.TheVariants as write
use Rattle.exec_journal.specs.declared.reply.Reply.{Reply}
use Rattle.exec_journal.specs.declared.reply.Reply.TheVariants as reply
use Rattle.remote_messages.specs.declared.work.WorkAction.{WorkAction}
use Rattle.sandbox_rooms.specs.Calls.{Made}
use Rattle.berth_acts.specs.Acts.{Gave, IsFeedFault, RoomFailed, FeedFailed}
use Rattle.core_contract.specs.Discipline.{Discipline}
use Rattle.core_contract.specs.Ruled.{answer_after}
use Rattle.core_contract.specs.Moves.{History}
use Rattle.core_contract.specs.Duties.{Duty, Sends, Cancels, duty_of}
use Rattle.run_values.specs.Settings.{Means}
use Rattle.proxy_words.specs.declared.halt.ProxyHalt.{ProxyHalt}
use Rattle.proxy_words.specs.Deeds.{Deed, DeedOf, IsCut}
use Rattle.proxy_words.specs.Told.{AreTold}
use Rattle.proxy_words.specs.Lines.{RoseBy, feed_fault, unsaid_by}
use Rattle.proxy_words.specs.Ends.{HaltsBy, may_halt}
use Rattle.proxy_words.proofs.Growing.{are_told_later, adds_none}
use Rattle.proxy_calls.specs.Calls.{MakesNone}
use Rattle.proxy_laws.specs.Acts.{SendDone, SendActs, CancelDone, CancelActs}
use Rattle.proxy_laws.specs.Lanes.{Open, LaneObjects, Holds, Keeps, Halting}
use Rattle.proxy_laws.specs.Steps.{Goes, Halts, TellsWrote, IsCauseOf}
use Rattle.proxy_laws.proofs.Holding.{holds_given}
use Rattle.proxy_laws.proofs.Keeping.{touches_wrote, touches_quiet, feed_rose, feed_other, rose_none, keeps_more, halting_more}

pub starts_later : (a b c : History) → StartsWith b a → StartsWith c b → StartsWith c a
starts_later a b c x y = (
  x.0 ++ y.0,
  y.1 ∙ (ap (λ (h : History). h ++ y.0) x.1 ∙ append_assoc a x.0 y.0),
)

-- ---- what was done is the deed that is owed

module _ (means : Means) (l : ℕ) (n : ℤ) where
  sent_deed : (t : Attempt) (action : WorkAction) (how : Written) (d : Deed) (s : Duty)
      → s ≡ Sends l n t → slice_get means.actions t.action ≡ Some action → d.line ≡ l
      → SendDone means t n action (Result.Ok how) d
      → DeedOf means s (call.Wrote l n how) d
  sent_deed t action how d s is of on done =
      subst (λ (x : Duty). DeedOf means x (call.Wrote l n how) d) (sym is) (record {
        action = action;
        inputs = done.0;
        of_action = of;
        of_inputs = done.1;
        looked = done.2;
        on_line = on;
        sent = done.3;
      })

  sent_halts : (t : Attempt) (action : WorkAction) (result : Result Written NoMemory) (d : Deed) (s : Duty)
      (by : ProxyHalt) → s ≡ Sends l n t → slice_get means.actions t.action ≡ Some action → d.line ≡ l
      → SendDone means t n action result d → IsCauseOf l n result by
      → HaltsBy means by s d
  sent_halts t action (Result.Ok how) d s by is of on done why =
      subst (λ (x : ProxyHalt). HaltsBy means x s d) (sym why) (
        ap may_halt is,
        sent_deed t action how d s is of on done,
      )
  sent_halts t action (Result.Err e) d s by is of on done why =
      subst (λ (x : ProxyHalt). HaltsBy means x s d) (sym why)
      (subst (λ (x : Duty). IsCut means x d) (sym is)
      (done.0, ⊎_elim (λ none. inl none) (λ x. inr (action, x.0, of, x.1, x.2)) done.1))

-- such a cause is about no launch
never_launched : (l : ℕ) (n : ℤ) (result : Result Written NoMemory) (by : ProxyHalt)
    → IsCauseOf l n result by → unsaid_by (Some by) ≡ []
never_launched l n (Result.Ok how) by why = ap (λ (x : ProxyHalt). unsaid_by (Some x)) why
never_launched l n (Result.Err e) by why = ap (λ (x : ProxyHalt). unsaid_by (Some x)) why

-- what a Cancel reports is no fault of a room
cancel_room : (speech : Speech) (n : ℤ) (how : Written) (given : List ℕ)
    → CancelDone speech n (Result.Ok how) given → RoomFailed (Result.Ok how) → ⊥
cancel_room speech n write.Done given done x = x
cancel_room speech n write.RoomFault given done x = done
cancel_room speech n write.FeedFault given done x = x
cancel_room speech n write.TooLarge given done x = done

-- ---- a Send, by the feed of the open line

module _ {M G Q : Type 0} {g : Ghosts M Call Reply G Q} (means : Means)
    (rules : Q → Discipline) (p p1 p2 : Pass M Call Reply G Q g) (h : LaneObjects) (o : Open)
    (is_open : h.opened ≡ Some o) (l : ℕ) (n : ℤ) (of : o.line ≡ l) (none : MakesNone p p1)
    (lane : p1.lane ≡ p.lane) (new : BerthTold) (after : FeedTold) where
  abbrev rule : Q → History → ℕ → Call → Reply
  rule q = answer_after (rules q)

  abbrev then : LaneObjects
  then = record h { berth = new; opened = Some (record { line = o.line; feed = after }) }

  -- the entry of a call about the line, with its deed
  module _ (first : BerthTold)
      (k : Keeps (rule (basis p)) p.lane means (mine p) (seen p) first h) (d : Deed)
      (on : d.line ≡ l) (told : AreTold (rule (basis p)) p.lane (seen p1) d.looks)
      (later : StartsWith (seen p2) (seen p1)) where
    abbrev q : Q
    q = basis p

    told_then : AreTold (rule q) p.lane (seen p2) d.looks
    told_then = are_told_later (rule q) p.lane (seen p1) (seen p2) later d.looks told

    wrote_holds : (how : Written) → Made d.calls (RoomFailed (Result.Ok how)) h.berth new
        → Gave d.given (IsFeedFault how) o.feed after
        → Holds (rule q) p.lane (mine p ++ entry p.lane (call.Wrote l n how) reply.Noted ∷ [])
        (k.deeds ++ d ∷ []) (seen p2) first then
    wrote_holds how made gave = holds_given (rule q) p.lane (mine p) k.deeds (seen p) first h k.holds
        (entry p.lane (call.Wrote l n how) reply.Noted) d (seen p2)
        (starts_later (seen p) (seen p1) (seen p2) none.0 later) told_then new
        (touches_wrote p.lane reply.Noted d h.berth new l n how made) o is_open k.all_said refl
        (on ∙ sym of)
        (λ m below. feed_other l m n how (λ x. omega arith))
        (λ m above. feed_other l m n how (λ x. omega arith)) after gave.given_on
        (subst (λ (m : ℕ). RoseBy (feed_fault m (call.Wrote l n how)) o.feed.faults after.faults) (sym of)
        (feed_rose l n how o.feed.faults after.faults gave.count)) gave.same

    halt_holds : (F D : Type 0) → Made d.calls F h.berth new → Gave d.given D o.feed after
        → Holds (rule q) p.lane (mine p ++ entry p.lane call.Halt reply.Noted ∷ [])
        (k.deeds ++ d ∷ []) (seen p2) first then
    halt_holds F D made gave = holds_given (rule q) p.lane (mine p) k.deeds (seen p) first h k.holds
        (entry p.lane call.Halt reply.Noted) d (seen p2)
        (starts_later (seen p) (seen p1) (seen p2) none.0 later) told_then new
        (touches_quiet p.lane reply.Noted d h.berth new call.Halt F refl made) o is_open k.all_said refl
        (on ∙ sym of) (λ m below. refl) (λ m above. refl) after gave.given_on
        (rose_none D o.feed.faults after.faults gave.count) gave.same

    -- it was reported
    wrote : (how : Written) → Made d.calls (RoomFailed (Result.Ok how)) h.berth new
        → Gave d.given (IsFeedFault how) o.feed after
        → mine p2 ≡ mine p1 ++ entry p1.lane (call.Wrote l n how) reply.Noted ∷ []
        → DeedOf means (duty_of (mine p)) (call.Wrote l n how) d
        → Keeps (rule q) p.lane means (mine p2) (seen p2) first then
    wrote how made gave own did = keeps_more (rule q) p.lane means (mine p) (seen p) first h k
        (mine p2) (seen p2) then (entry p.lane (call.Wrote l n how) reply.Noted) d
        (own ∙ (λ i. none.1 i ++ entry (lane i) (call.Wrote l n how) reply.Noted ∷ [])) did
        (wrote_holds how made gave) k.all_said

    -- or it could not be
    halts : (by : ProxyHalt) (F D : Type 0) → Made d.calls F h.berth new → Gave d.given D o.feed after
        → mine p2 ≡ mine p1 → HaltsBy means by (duty_of (mine p)) d → unsaid_by (Some by) ≡ []
        → Halting (rule q) p.lane means by (mine p2) (seen p2) first then
    halts by F D made gave own did not_launched = halting_more (rule q) p.lane means (mine p)
        (seen p) first h k by (mine p2) (seen p2) then d (own ∙ none.1) did (halt_holds F D made gave)
        k.all_said not_launched

  -- ---- a Send

  module _ (t : Attempt) (duty : duty_of (mine p) ≡ Sends l n t) (action : WorkAction)
      (of_action : slice_get means.actions t.action ≡ Some action) where
    pub send_goes : (result : Result Written NoMemory)
        → SendActs means t (rule (basis p)) p.lane l n action result (seen p1) h.berth new o.feed after
        → TellsWrote l n result p1 p2 → Goes means rules p h p2 then
    send_goes (Result.Ok how) acts tells = λ first k.
        wrote first k acts.deed acts.on_line acts.told tells.0 how acts.berth acts.feed tells.1
        (sent_deed means l n t action how acts.deed (duty_of (mine p)) duty of_action acts.on_line
        acts.done)
    send_goes (Result.Err e) acts tells = absurd tells

    pub send_halts : (result : Result Written NoMemory) (by : ProxyHalt)
        → SendActs means t (rule (basis p)) p.lane l n action result (seen p1) h.berth new o.feed after
        → MakesNone p1 p2 → IsCauseOf l n result by → Halts means rules by p h p2 then
    send_halts result by acts no_entry why = λ first k.
        halts first k acts.deed acts.on_line acts.told no_entry.0 by (RoomFailed result)
        (FeedFailed result) acts.berth acts.feed no_entry.1
        (sent_halts means l n t action result acts.deed (duty_of (mine p)) by duty of_action
        acts.on_line acts.done why)
        (never_launched l n result by why)

  -- ---- a Cancel, for which nothing is called on the berth

  module _ (duty : duty_of (mine p) ≡ Cancels l n) (still : new ≡ h.berth) where
    abbrev deed_for : List ℕ → Deed
    deed_for given = record { line = l; looks = []; calls = []; given = given }

    nothing_called : (F : Type 0) → (F → ⊥) → Made [] F h.berth new
    nothing_called F never = subst (λ (b : BerthTold). Made [] F h.berth b) (sym still) (record {
      log = adds_none h.berth.log [] refl;
      count = record { later = omega arith; rose = λ x. absurd (never x) };
      same = refl;
    })

    pub cancel_goes : (result : Result Written NoMemory) → CancelActs means.speech n result o.feed after
        → TellsWrote l n result p1 p2 → Goes means rules p h p2 then
    cancel_goes (Result.Ok how) acts tells = λ first k.
        wrote first k (deed_for acts.0) refl tt tells.0 how
        (nothing_called (RoomFailed (Result.Ok how)) (cancel_room means.speech n how acts.0 acts.1)) acts.2 tells.1
        (subst (λ (s : Duty). DeedOf means s (call.Wrote l n how) (deed_for acts.0)) (sym duty)
        (refl, refl, refl, acts.1))
    cancel_goes (Result.Err e) acts tells = absurd tells

    pub cancel_halts : (result : Result Written NoMemory) (by : ProxyHalt)
        → CancelActs means.speech n result o.feed after → MakesNone p1 p2 → IsCauseOf l n result by
        → Halts means rules by p h p2 then
    cancel_halts (Result.Ok how) by acts no_entry why = λ first k.
        halts first k (deed_for acts.0) refl tt no_entry.0 by ⊥ (IsFeedFault how)
        (nothing_called ⊥ (λ x. x)) acts.2 no_entry.1
        (subst (λ (x : ProxyHalt). HaltsBy means x (duty_of (mine p)) (deed_for acts.0)) (sym why) (
          ap may_halt duty,
          subst (λ (s : Duty). DeedOf means s (call.Wrote l n how) (deed_for acts.0)) (sym duty)
              (refl, refl, refl, acts.1),
        ))
        (never_launched l n (Result.Ok how) by why)
    cancel_halts (Result.Err e) by acts no_entry why = λ first k.
        halts first k (deed_for acts.0) refl tt no_entry.0 by ⊥ ⊥
        (nothing_called ⊥ (λ x. x)) acts.2 no_entry.1
        (subst (λ (x : ProxyHalt). HaltsBy means x (duty_of (mine p)) (deed_for acts.0)) (sym why)
        (subst (λ (s : Duty). IsCut means s (deed_for acts.0)) (sym duty) (acts.1, refl)))
        (never_launched l n (Result.Err e) by why)
