-- What a step makes of what the lane has done so far.
use Rattle.std.proofs.Common.{◌≡◌, ℕ, ◌+◌, ◌-◌, ◌^◌, ◌≤◌, ◌==◌, ℤ, min, Bool, true, false, cond, List, [], ◌∷◌, ◌++◌, Option, Some, None, Result, refl, ap, sym, subst, ◌∙◌, arith, ne_eqb}
use Rattle.seat_desk.specs.History.{entry}
use Rattle.outside.specs.Causes.{Counts}
use Rattle.outside.specs.Told.{BerthTold}
use Rattle.exec_journal.specs.declared.call.Call.{Call}
use Rattle.exec_journal.specs.declared.call.Call.TheVariants as call
use Rattle.exec_journal.specs.declared.call.Written.{Written}
use Rattle.exec_journal.specs.declared.call.Written.TheVariants as write
use Rattle.exec_journal.specs.declared.reply.Reply.{Reply}
use Rattle.exec_journal.specs.declared.reply.Reply.TheVariants as reply
use Rattle.sandbox_rooms.specs.Calls.{Made}
use Rattle.berth_acts.specs.Acts.{IsFeedFault, RoomFailed}
use Rattle.core_contract.specs.Moves.{Past, History}
use Rattle.core_contract.specs.Duties.{Asks, duty_of}
use Rattle.run_values.specs.Settings.{Means}
use Rattle.proxy_words.specs.declared.halt.ProxyHalt.{ProxyHalt}
use Rattle.proxy_words.specs.Deeds.{Deed, DeedOf, Acts, with_ends}
use Rattle.proxy_words.specs.Lines.{Returned, RoseBy, room_fault, feed_fault, lines_of, listed, unsaid_by}
use Rattle.proxy_words.specs.Ends.{HaltsBy}
use Rattle.proxy_words.proofs.Growing.{acts_more}
use Rattle.proxy_laws.specs.Lanes.{LaneObjects, Holds, Keeps, Halting}
use Rattle.proxy_laws.proofs.Holding.{Touches}

-- ---- counts

pub rose_none : (F : Type 0) (before now : ℕ) → Counts before now F → RoseBy 0 before now
rose_none F before now c = let later = c.later in omega arith

pub rose_one : (F : Type 0) (before now : ℕ) → Counts before now F → F → RoseBy 1 before now
rose_one F before now c failed =
    let m : min (before + 1) (2 ^ 64 - 1) ≤ now = c.rose failed in omega arith

-- what was done outside touches the berth as the entry says
module _ (lane : ℕ) (r : Reply) (d : Deed) (old new : BerthTold) where
  pub touches_wrote : (l : ℕ) (n : ℤ) (how : Written)
      → Made d.calls (RoomFailed (Result.Ok how)) old new
      → Touches (entry lane (call.Wrote l n how) r) d old new
  touches_wrote l n write.Done m =
      record { log = m.log; faults = rose_none _ old.faults new.faults m.count; same = m.same }
  touches_wrote l n write.RoomFault m =
      record { log = m.log; faults = rose_one _ old.faults new.faults m.count tt; same = m.same }
  touches_wrote l n write.FeedFault m =
      record { log = m.log; faults = rose_none _ old.faults new.faults m.count; same = m.same }
  touches_wrote l n write.TooLarge m =
      record { log = m.log; faults = rose_none _ old.faults new.faults m.count; same = m.same }

  pub touches_quiet : (c : Call) (F : Type 0) → room_fault c ≡ 0 → Made d.calls F old new
      → Touches (entry lane c r) d old new
  touches_quiet c F none m = record {
    log = m.log;
    faults = subst (λ (k : ℕ). RoseBy k old.faults new.faults) (sym none)
        (rose_none F old.faults new.faults m.count);
    same = m.same;
  }

-- the feed's count rose where the report says so
pub feed_rose : (l : ℕ) (n : ℤ) (how : Written) (before after : ℕ)
    → Counts before after (IsFeedFault how) → RoseBy (feed_fault l (call.Wrote l n how)) before after
feed_rose l n write.Done before after c = rose_none _ before after c
feed_rose l n write.RoomFault before after c = rose_none _ before after c
feed_rose l n write.TooLarge before after c = rose_none _ before after c
feed_rose l n write.FeedFault before after c = by_test (l == l)
  where
    by_test : (b : Bool) → RoseBy (cond b 1 0) before after
    by_test true = rose_one _ before after c tt
    by_test false = rose_none _ before after c

-- and tells no fault of another feed
pub feed_other : (l k : ℕ) (n : ℤ) (how : Written) → (l ≡ k → ⊥)
    → feed_fault k (call.Wrote l n how) ≡ 0
feed_other l k n write.Done other = refl
feed_other l k n write.RoomFault other = refl
feed_other l k n write.TooLarge other = refl
feed_other l k n write.FeedFault other = ap (λ (b : Bool). cond b 1 0) (ne_eqb l k other)

-- ---- one entry more, or a Halt

module _ (rule : History → ℕ → Call → Reply) (lane : ℕ) (means : Means)
    (own seen : History) (first : BerthTold) (h : LaneObjects)
    (k : Keeps rule lane means own seen first h) where
  pub keeps_more : (own' seen' : History) (h' : LaneObjects) (e : Past) (d : Deed)
      → own' ≡ own ++ e ∷ [] → DeedOf means (duty_of own) e.call d
      → Holds rule lane (own ++ e ∷ []) (k.deeds ++ d ∷ []) seen' first h' → h'.unsaid ≡ None
      → Keeps rule lane means own' seen' first h'
  keeps_more own' seen' h' e d is did holds said = record {
    deeds = k.deeds ++ d ∷ [];
    acts = subst (λ (x : History). Acts means Asks x (k.deeds ++ d ∷ [])) (sym is)
        (acts_more means Asks own k.deeds e d k.acts did);
    holds = subst (λ (x : History). Holds rule lane x (k.deeds ++ d ∷ []) seen' first h') (sym is) holds;
    all_said = said;
  }

  abbrev pub halt : Past
  halt = entry lane call.Halt reply.Noted

  -- with these lines ended, which couldn't be reported
  pub halting_with : (cause : ProxyHalt) (own' seen' : History) (h' : LaneObjects) (d : Deed) (ls : List ℕ)
      → own' ≡ own → HaltsBy means cause (duty_of own) d
      → Holds rule lane (own ++ halt ∷ []) (k.deeds ++ with_ends ls d ∷ []) seen' first h'
      → lines_of (listed h'.unsaid) ≡ ls → unsaid_by (Some cause) ≡ ls
      → Halting rule lane means cause own' seen' first h'
  halting_with cause own' seen' h' d ls is by holds said why = record {
    deeds = k.deeds;
    last = d;
    acts = subst (λ (x : History). Acts means Asks x k.deeds) (sym is) k.acts;
    halts = subst (λ (x : History). HaltsBy means cause (duty_of x) d) (sym is) by;
    holds = subst (λ (x : History). Holds rule lane (x ++ halt ∷ [])
        (k.deeds ++ with_ends (unsaid_by (Some cause)) d ∷ []) seen' first h') (sym is)
        (subst (λ (ms : List ℕ). Holds rule lane (own ++ halt ∷ []) (k.deeds ++ with_ends ms d ∷ [])
        seen' first h') (sym why) holds);
    said = said ∙ sym why;
  }

  -- with none
  pub halting_more : (cause : ProxyHalt) (own' seen' : History) (h' : LaneObjects) (d : Deed) → own' ≡ own
      → HaltsBy means cause (duty_of own) d
      → Holds rule lane (own ++ halt ∷ []) (k.deeds ++ d ∷ []) seen' first h'
      → h'.unsaid ≡ None → unsaid_by (Some cause) ≡ []
      → Halting rule lane means cause own' seen' first h'
  halting_more cause own' seen' h' d is by holds none why =
      halting_with cause own' seen' h' d [] is by holds
      (ap (λ (u : Option Returned). lines_of (listed u)) none) why
