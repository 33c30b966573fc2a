-- Looks, and behind looks that found all the clear of the folder.
use Rattle.std.proofs.Common.{◌≡◌, ℕ, ◌≤◌, List, [], ◌∷◌, ◌++◌, refl, sym, subst, ◌∙◌, ap, arith}
use Rattle.std.specs.Prelude.{Ok, Err, ℤ}
use Rattle.plain_values.specs.declared.no_memory.NoMemory.{NoMemory}
use Rattle.outside.specs.Causes.{Counts, Rose}
use Rattle.outside.specs.Lists.{Adds}
use Rattle.outside.specs.Told.{BerthTold, SameBerth}
use Rattle.outside.specs.declared.answers.Io.{Io}
use Rattle.outside.specs.declared.answers.Io.TheVariants as io
use Rattle.outside.specs.declared.berth.BerthCall.{BerthCall}
use Rattle.outside.specs.declared.berth.BerthCall.TheVariants as call
use Rattle.sandbox_rooms.specs.declared.gathering.Gathered.TheVariants as gathered
use Rattle.sandbox_rooms.specs.declared.room.Room.{Room}
use Rattle.sandbox_rooms.specs.declared.room.Room.TheVariants as room
use Rattle.sandbox_rooms.specs.Calls.{Clear, Made}
use Rattle.sandbox_rooms.specs.Rooms.{part_of, gather_asks, gathering, MakesGather, MakesLooks}
use Rattle.sandbox_rooms.proofs.Runs.{made_none, adds_on}

rose_still : (a b c : ℕ) → Rose a b → b ≤ c → Rose a c
rose_still a b c rose later = omega (arith, rose, later)

-- what failed in the first is all that is said to have failed
made_first : (xs ys : List BerthCall) (One Two : Type 0) (old mid new : BerthTold) → Made xs One old mid → Made ys Two mid new → Made (xs ++ ys) One old new
made_first xs ys One Two old mid new first second = record {
  log = adds_on xs ys old.log mid.log new.log first.log second.log;
  count = record {
    later = omega (arith, first.count.later, second.count.later);
    rose = λ failed. rose_still old.faults mid.faults new.faults (first.count.rose failed) second.count.later;
  };
  same = second.same ∙ first.same;
}

pub stays_none : (r : Room) (outputs : List (List ℕ)) (e : NoMemory) (told : BerthTold) → MakesGather (gathering r outputs) (Err e) told told
stays_none r outputs e told = ([], [], tt, tt, refl, made_none told)

-- the part that was cleared is the request's folder
leaves_part : (number : ℤ) (outputs : List (List ℕ)) (part : List ℕ) (files : List (List ℕ)) (end : Io) (old mid new : BerthTold) → part ≡ part_of number
    → MakesLooks (gather_asks (room.Part number) outputs) (Ok (gathered.Files files)) old mid → Counts mid.faults new.faults (end ≡ io.Failed) → SameBerth mid new → Adds (call.Clear part end ∷ []) mid.log new.log → MakesGather (gathering (room.Part number) outputs) (Ok (gathered.Files files)) old new
leaves_part number outputs part files end old mid new is looks count same log =
    let second : Made (call.Clear part end ∷ []) (end ≡ io.Failed) mid new = record { log = log; count = count; same = same } in
    (looks.0, call.Clear part end ∷ [], looks.1, looks.2, ap (λ (p : List ℕ). Clear p ∷ []) is, made_first looks.0 (call.Clear part end ∷ []) ⊥ (end ≡ io.Failed) old mid new looks.3 second)

pub leaves : (r : Room) (number : ℤ) (outputs : List (List ℕ)) (part : List ℕ) (files : List (List ℕ)) (end : Io) (old mid new : BerthTold) → r ≡ room.Part number → part ≡ part_of number
    → MakesLooks (gather_asks (room.Part number) outputs) (Ok (gathered.Files files)) old mid → Counts mid.faults new.faults (end ≡ io.Failed) → SameBerth mid new → Adds (call.Clear part end ∷ []) mid.log new.log → MakesGather (gathering r outputs) (Ok (gathered.Files files)) old new
leaves r number outputs part files end old mid new at is looks count same log =
    subst (λ (x : Room). MakesGather (gathering x outputs) (Ok (gathered.Files files)) old new) (sym at)
    (leaves_part number outputs part files end old mid new is looks count same log)
