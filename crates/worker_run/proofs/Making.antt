-- What the floor has made, from step to step, and how much of it is left.
use Rattle.std.proofs.Common.{◌≡◌, ◌≤◌, arith, ℕ, suc, ◌+◌, Bool, true, false, List, [], ◌∷◌, length, map, Option, Some, None, refl, ap, sym, subst, ◌∙◌}
use Rattle.std.proofs.lemmas.List.{length-map}
use Rattle.build_report.specs.declared.fault.Stage.{Stage}
use Rattle.build_report.specs.declared.fault.Stage.TheVariants as stage
use Rattle.exec_journal.specs.declared.call.Call.{Call}
use Rattle.exec_journal.specs.declared.reply.Reply.{Reply}
use Rattle.run_plan.specs.declared.plan.Speech.{Speech}
use Rattle.run_values.specs.declared.settings.Settings.{Settings}
use Rattle.proxy_words.specs.Lines.{Returned}
use Rattle.lane_runs.specs.Runs.{EndTold, HasRun, Rooms}
use Rattle.outside.specs.Told.{BerthTold, FloorTold, Makes, PlaceTold, SameFloor}
use Rattle.remote_messages.specs.declared.work.WorkAction.{WorkAction}
use Rattle.core_contract.specs.Discipline.{Discipline}
use Rattle.core_contract.specs.Moves.{History}
use Rattle.core_machine.specs.Objects.{AreFresh}
use Rattle.worker_run.proofs.Numbered.{new_berths, new_places}
use Rattle.worker_run.specs.Lanes.{AreNewBerths, HasMade, IsUnused, LanesRan, MakesUpTo, WhereLost, WhereWhole, is_during}
use Rattle.worker_run.specs.Seen.{Left, nothing_left, stage_of, unrun}

-- ---- making

pub makes_none : (floor : FloorTold) → Makes 0 0 floor floor
makes_none floor = record { files = refl; berths = omega arith; places = omega arith }

pub makes_on : (b p c q : ℕ) (old mid new : FloorTold) → Makes b p old mid → Makes c q mid new
    → Makes (b + c) (p + q) old new
makes_on b p c q old mid new first second = record {
  files = second.files ∙ first.files;
  berths = omega (arith, first.berths, second.berths);
  places = omega (arith, first.places, second.places);
}

-- a step that has failed makes nothing
pub makes_no_more : (b p : ℕ) (old mid new : FloorTold) → Makes b p old mid → SameFloor mid new
    → Makes b p old new
makes_no_more b p old mid new made same = record {
  files = ap (λ g. g.files) same ∙ made.files;
  berths = ap (λ g. g.berths) same ∙ made.berths;
  places = ap (λ g. g.places) same ∙ made.places;
}

pub up_to : (b p c q : ℕ) (old new : FloorTold) → Makes b p old new → b ≤ c → p ≤ q
    → MakesUpTo c q old new
up_to b p c q old new made few less = record {
  berths = omega (arith, made.berths, few);
  places = omega (arith, made.places, less);
}

-- ---- what is left

-- as many berths come back as there are speeches
pub rooms_length : (rule : History → ℕ → Call → Reply) (settings : Settings)
    (work : List WorkAction) (h : History) (lines : List EndTold) (w : ℕ) (speeches : List Speech) (olds news : List BerthTold)
    (unsaid : List (Option Returned)) → Rooms rule settings work h lines w speeches olds news unsaid
    → length news ≡ length speeches
rooms_length rule settings work h lines w [] [] [] [] r = refl
rooms_length rule settings work h lines w (s ∷ ss) (o ∷ os) (n ∷ ns) (u ∷ us) r =
    ap suc (rooms_length rule settings work h lines (w + 1) ss os ns us r.1)
rooms_length rule settings work h lines w [] [] [] (u ∷ us) r = absurd r
rooms_length rule settings work h lines w [] [] (n ∷ ns) us r = absurd r
rooms_length rule settings work h lines w [] (o ∷ os) ns us r = absurd r
rooms_length rule settings work h lines w (s ∷ ss) [] ns us r = absurd r
rooms_length rule settings work h lines w (s ∷ ss) (o ∷ os) [] us r = absurd r
rooms_length rule settings work h lines w (s ∷ ss) (o ∷ os) (n ∷ ns) [] r = absurd r

pub made_left : (b p : ℕ) (before after : FloorTold) (x : Left) → Makes b p before after
    → length x.berths ≡ b → length x.places ≡ p → HasMade before after x
made_left b p before after x made berths places = record {
  berths = made.berths ∙ ap (λ (n : ℕ). before.berths + n) (sym berths);
  places = made.places ∙ ap (λ (n : ℕ). before.places + n) (sym places);
}

-- memory is never wanted behind the lanes
pub in_time : (when : Option Stage) (P : Type 0) → WhereWhole when P → WhereWhole when (Unit {0})
in_time None P p = tt
in_time (Some stage.During) P p = tt
in_time (Some stage.Before) P p = tt
in_time (Some stage.After) P p = p

pub never_behind : (when : Option Stage) → WhereWhole when (Unit {0}) → when ≡ Some stage.After → ⊥
never_behind when has is = subst (λ (s : Option Stage). WhereWhole s (Unit {0})) is has

-- what holds anyway holds where lanes ran
pub where_whole : (halted : Bool) (P : Type 0) → P → WhereWhole (stage_of halted) P
where_whole true P p = p
where_whole false P p = p

-- new berths and places alone are left where no lane was started
pub unused : {B P : Type 0} (berth : B → BerthTold) (place : P → PlaceTold) (b p : ℕ) (bs : List B)
    (ps : List P) → AreNewBerths b (map berth bs) → AreFresh place p ps
    → IsUnused (unrun (map berth bs) (map place ps))
unused berth place b p bs ps berths places = record {
  berths = new_berths b (map berth bs) berths;
  places = new_places place p ps places;
  journal = refl;
  lines = refl;
  unsaid = refl;
  halted = refl;
}

-- the floor has made those
pub made_unused : {B P : Type 0} (berth : B → BerthTold) (place : P → PlaceTold) (b p : ℕ)
    (bs : List B) (ps : List P) (before after : FloorTold) → Makes b p before after
    → length bs ≡ b → length ps ≡ p
    → HasMade before after (unrun (map berth bs) (map place ps))
made_unused berth place b p bs ps before after made berths places =
    made_left b p before after (unrun (map berth bs) (map place ps)) made
    (length-map bs berth ∙ berths) (length-map ps place ∙ places)

pub not_lost : (halted : Bool) (P : Type 0) → WhereLost (stage_of halted) P
not_lost true P = tt
not_lost false P = tt

-- whether a lane has halted is told by the fault
during_is : (halted : Bool) → halted ≡ is_during (stage_of halted)
during_is true = refl
during_is false = refl

-- what lanes have laid out is left where they ran
pub ran_whole : (q : Discipline) (speeches : List Speech) (settings : Settings)
    (work : List WorkAction)
    (before : List BerthTold) (beside : ℕ) (x : Left) → AreNewBerths (length speeches) before
    → HasRun q speeches settings work before beside x
    → WhereWhole (stage_of x.halted) (LanesRan q speeches settings work beside
    (stage_of x.halted) x)
ran_whole q speeches settings work before beside x new run = where_whole x.halted _
    (record { before = before; new = new; run = run; halted = during_is x.halted })

-- ---- the end of a run

-- the reads before it made nothing
module _ (before mid after : FloorTold) (same : SameFloor before mid) where
  berths_are : mid.berths ≡ before.berths
  berths_are = ap (λ g. g.berths) same

  places_are : mid.places ≡ before.places
  places_are = ap (λ g. g.places) same

  pub few_since : MakesUpTo 64 4096 mid after → MakesUpTo 64 4096 before after
  few_since few = record {
    berths = subst (λ (n : ℕ). after.berths ≤ n + 64) berths_are few.berths;
    places = subst (λ (n : ℕ). after.places ≤ n + 4096) places_are few.places;
  }

  pub made_since : (x : Left) → HasMade mid after x → HasMade before after x
  made_since x made = record {
    berths = made.berths ∙ ap (λ (n : ℕ). n + length x.berths) berths_are;
    places = made.places ∙ ap (λ (n : ℕ). n + length x.places) places_are;
  }

-- where the reads ended it nothing was made
module _ (before after : FloorTold) (same : SameFloor before after) where
  pub nothing_made : HasMade before after nothing_left
  nothing_made = record {
    berths = ap (λ g. g.berths) same ∙ omega arith;
    places = ap (λ g. g.places) same ∙ omega arith;
  }

  pub nothing_much : MakesUpTo 64 4096 before after
  nothing_much = record {
    berths = subst (λ (n : ℕ). n ≤ before.berths + 64) (sym (ap (λ g. g.berths) same)) (omega arith);
    places = subst (λ (n : ℕ). n ≤ before.places + 4096) (sym (ap (λ g. g.places) same)) (omega arith);
  }
