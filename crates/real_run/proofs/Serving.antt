-- What was asked of berths that tell.
use Rattle.std.proofs.Common.{◌≡◌, ◌∙◌, ℕ, zero, suc, ◌+◌, List, [], ◌∷◌, length, slice_get, Option, Some, refl, ap, subst, arith, All}
use Rattle.std.specs.List.{AllByRecursion}
use Rattle.std.proofs.lemmas.List.Elements.{recursion_from_All}
use Rattle.seat_desk.specs.History.{calls_by}
use Rattle.exec_journal.specs.declared.call.Call.{Call}
use Rattle.exec_journal.specs.declared.reply.Reply.{Reply}
use Rattle.core_contract.specs.Duties.{proxy_lane}
use Rattle.core_contract.specs.Moves.{History}
use Rattle.outside.specs.Told.{BerthTold}
use Rattle.remote_messages.specs.declared.work.WorkAction.{WorkAction}
use Rattle.run_plan.specs.declared.plan.Speech.{Speech}
use Rattle.run_values.specs.declared.settings.Settings.{Settings}
use Rattle.proxy_words.specs.Deeds.{Deed, calls_of, given_to}
use Rattle.proxy_words.specs.Lines.{IsBack, Returned, RoseBy, listed, room_faults, started_in}
use Rattle.lane_runs.specs.Runs.{EndTold, Room, Rooms, backs_at}
use Rattle.worker_run.specs.Lanes.{IsNewBerth}
use Rattle.real_run.proofs.Each.{each_by, it_is}
use Rattle.real_run.proofs.Told.{backs_tell, listed_tells}
use Rattle.real_run.specs.Rooms.{AllServed, CameBack, Served}
use Rattle.real_run.specs.Tells.{BackTells, BerthTells, EndTells, UnsaidTells}

came_back : (own : History) (deeds : List Deed) (x : Returned) → IsBack own deeds x → BackTells x
    → CameBack own deeds x
came_back own deeds x back tells = record {
  of_feed = it_is x.line x.feed.line back.0.of_line tells.feed.line;
  given = λ unfailed. it_is (given_to x.line deeds) x.feed.given back.0.given (tells.feed.given unfailed);
  faults = back.0.faults;
  of_child = it_is x.line x.child.line back.1.of_line tells.child.line;
  killed = it_is 1 x.child.kills back.1.killed tells.child.kills;
}

all_back : (own : History) (deeds : List Deed) (xs : List Returned) → All (IsBack own deeds) xs
    → AllByRecursion BackTells xs → AllByRecursion (CameBack own deeds) xs
all_back own deeds xs backs tell =
    each_by (came_back own deeds) xs (recursion_from_All (IsBack own deeds) xs backs) tell

module _ (rule : History → ℕ → Call → Reply) (settings : Settings) (work : List WorkAction)
    (h : History) (lines : List EndTold) (lines_tell : AllByRecursion EndTells lines) where
  room_served : (w : ℕ) (spoken : Speech) (old new : BerthTold) (unsaid : Option Returned)
      → Room rule settings work h lines w spoken old new unsaid → IsNewBerth w old → BerthTells new
      → UnsaidTells unsaid → Served rule settings work h lines w spoken new unsaid
  room_served w spoken old new unsaid room is_new tells unsaid_tells =
      let lane = room.lane in
      let own = calls_by (proxy_lane w) h in
      record {
        halted = room.halted;
        deeds = lane.deeds;
        ends = lane.ends;
        told = lane.told;
        number = lane.berth.same ∙ is_new.of_number;
        log = it_is (calls_of lane.deeds) new.log (lane.berth.log [] is_new.no_calls) tells;
        faults = subst (λ (n : ℕ). RoseBy (room_faults own) n new.faults) is_new.no_faults lane.berth.faults;
        started = lane.lines.lines;
        each = all_back own lane.deeds (backs_at lines (started_in own)) lane.lines.each
            (backs_tell lines lines_tell (started_in own));
        last = lane.lines.last;
        also = all_back own lane.deeds (listed unsaid) lane.lines.also (listed_tells unsaid unsaid_tells);
      }

  pub rooms_served : (w : ℕ) (speeches : List Speech) (olds news : List BerthTold)
      (unsaid : List (Option Returned)) → Rooms rule settings work h lines w speeches olds news unsaid
      → ((i : ℕ) (b : BerthTold) → slice_get olds i ≡ Some b → IsNewBerth (w + i) b)
      → AllByRecursion BerthTells news → AllByRecursion UnsaidTells unsaid
      → AllServed rule settings work h lines w speeches news unsaid
  rooms_served w [] [] [] [] r new tells unsaid_tell = tt
  rooms_served w (s ∷ ss) (o ∷ os) (n ∷ ns) (u ∷ us) r new tells unsaid_tell = (
    room_served w s o n u r.0
        (subst (λ (v : ℕ). IsNewBerth v o) (let e : w + 0 ≡ w = omega arith in e) (new zero o refl))
        tells.0 unsaid_tell.0,
    rooms_served (w + 1) ss os ns us r.1
        (λ i b is. subst (λ (v : ℕ). IsNewBerth v b) (let e : w + suc i ≡ w + 1 + i = omega arith in e)
        (new (suc i) b is))
        tells.1 unsaid_tell.1,
  )
  rooms_served w [] [] [] (u ∷ us) r new tells unsaid_tell = absurd r
  rooms_served w [] [] (n ∷ ns) us r new tells unsaid_tell = absurd r
  rooms_served w [] (o ∷ os) ns us r new tells unsaid_tell = absurd r
  rooms_served w (s ∷ ss) [] ns us r new tells unsaid_tell = absurd r
  rooms_served w (s ∷ ss) (o ∷ os) [] us r new tells unsaid_tell = absurd r
  rooms_served w (s ∷ ss) (o ∷ os) (n ∷ ns) [] r new tells unsaid_tell = absurd r

  pub as_many_rooms : (w : ℕ) (speeches : List Speech) (olds news : List BerthTold)
      (unsaid : List (Option Returned)) → Rooms rule settings work h lines w speeches olds news unsaid
      → length news ≡ length olds
  as_many_rooms w [] [] [] [] r = refl
  as_many_rooms w (s ∷ ss) (o ∷ os) (n ∷ ns) (u ∷ us) r = ap suc (as_many_rooms (w + 1) ss os ns us r.1)
  as_many_rooms w [] [] [] (u ∷ us) r = absurd r
  as_many_rooms w [] [] (n ∷ ns) us r = absurd r
  as_many_rooms w [] (o ∷ os) ns us r = absurd r
  as_many_rooms w (s ∷ ss) [] ns us r = absurd r
  as_many_rooms w (s ∷ ss) (o ∷ os) [] us r = absurd r
  as_many_rooms w (s ∷ ss) (o ∷ os) (n ∷ ns) [] r = absurd r
