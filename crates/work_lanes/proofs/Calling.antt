-- The calls of the lanes, as what they tell of the queue's state.
use Rattle.std.proofs.Common.{◌≡◌, ℕ, ℤ, Bool, true, false, ◌==◌, cond, List, Option, Some, None}
use Rattle.std.proofs.Common.{◌⊎◌, [], ◌∷◌, ◌++◌, ◌+◌, length, inl, inr, refl, ap, sym, ◌∙◌, subst, arith}
use Rattle.std.proofs.Common.{Result, Err, length-append}
use Rattle.plain_values.specs.declared.no_memory.NoMemory.{NoMemory}
use Rattle.std.specs.Prelude.{Ok, IfSome, IfNone}
use Rattle.std.specs.declared.snapshot.Snapshot.{Snapshot}
use Rattle.plain_values.specs.declared.entry.Entry.{Entry}
use Rattle.seat_desk.specs.declared.view.View.{View}
use Rattle.seat_desk.specs.History.{GoesOn}
use Rattle.seat_desk.specs.Desks.{Answers}
use Rattle.work_queue.specs.declared.rows.Asked.{Asked}
use Rattle.work_queue.specs.declared.queue.Ask.{Ask}
use Rattle.work_queue.specs.declared.queue.Ask.TheVariants as ask
use Rattle.work_queue.specs.declared.queue.Told.{Told}
use Rattle.work_queue.specs.declared.queue.Told.TheVariants as told
use Rattle.work_queue.specs.declared.queue.Load.{Load}
use Rattle.work_queue.specs.declared.queue.Load.TheVariants as load
use Rattle.work_queue.specs.States.{State, Task, Held, reader, task_at, held, is_cancelled}
use Rattle.work_queue.specs.States.{answer_to, is_kept, is_short}
use Rattle.work_queue.specs.States.{Read, read_in, heard_in, heard_by, begun_by, has_some, FirstIs, ComesOut}
use Rattle.work_queue.proofs.Sided.{Called, called, read_on, still_read, now_roomed, now_heard, now_taken}
use Rattle.work_queue.proofs.Sided.{begun_on, still_begun, answer_begun, take_begun}
use Rattle.work_queue.proofs.Sided.{hand_on, still_hand, cancelled_on, still_cancelled, now_cancelled}
use Rattle.work_lanes.specs.Calls.{after_all, GivesNone, HasRoom, HearsMore, HasHeard, HasTaken, HasBegun, InHand}
use Rattle.work_lanes.specs.Calls.{is_open, done_by}

abbrev Puts : Type 0 → Type 0
Puts X = Option (Load X)

abbrev History : Type 0 → Type 0 → Type 0
History X Y = List (Entry (Ask X Y) Told)

abbrev pub IsHearOf : {X Y : Type 0} → X → Ask X Y → Type 0
IsHearOf m (ask.Hear about) = about.value ≡ m
IsHearOf m (ask.Room depth) = ⊥
IsHearOf m ask.Take = ⊥
IsHearOf m ask.IsCancelled = ⊥
IsHearOf m (ask.Answer response) = ⊥
IsHearOf m ask.Close = ⊥
IsHearOf m ask.Halt = ⊥

false_not_true : false ≡ true → ⊥
false_not_true e = cc

done_idle : told.Done ≡ told.Idle → ⊥
done_idle e = cc

-- a reply that is Done isn't short
done_reply : {A : Type 0} → A ⊎ (is_short told.Done ≡ true) → A
done_reply (inl is) = is
done_reply (inr short) = absurd (false_not_true short)

-- where a Take is Done a request has come
comes_first : {X : Type 0} (ts : List (Task X)) (good : Puts X) → told.Done ≡ has_some ts
    → FirstIs ts good → (w : Asked X) × (good ≡ Some (load.Task w))
comes_first [] good is c = absurd (done_idle is)
comes_first (t ∷ ts) good is c = (t.work, c)

-- ---- what the reader has done

module _ {X : Type 0} where
  in_heard : (m : X) (b : Bool) (r : Read X) → (heard_in m b r).heard ≡ r.heard ++ m ∷ []
  in_heard m true r = refl
  in_heard m false r = refl

  -- nothing was heard
  pub more_same : (old new : Read X) → new ≡ old → HearsMore old new
  more_same old new e =
      let heard = ap (λ (r : Read X). length r.heard) e in
      let room = ap (λ (r : Read X). r.room) e in
      let most = ap (λ (r : Read X). r.most) e in record {
        count = 0;
        heard = omega (arith, heard);
        room = omega (arith, room);
        most = omega (arith, most);
      }

  more_in : (m : X) (b : Bool) (r : Read X) → HearsMore r (heard_in m b r)
  more_in m true r = record {
    count = 1;
    heard = length-append r.heard (m ∷ []);
    room = omega arith;
    most = omega arith;
  }
  more_in m false r = record {
    count = 1;
    heard = length-append r.heard (m ∷ []);
    room = omega arith;
    most = omega arith;
  }

  -- and so where requests were heard before
  pub more_on : (old mid new : Read X) → HearsMore old mid → HearsMore mid new
      → HearsMore old new
  more_on old mid new a b =
      let heard = a.heard in let heard' = b.heard in
      let room = a.room in let room' = b.room in
      let most = a.most in let most' = b.most in record {
        count = a.count + b.count;
        heard = omega (arith, heard, heard');
        room = omega (arith, room, room');
        most = omega (arith, room, most, most');
      }

  pub room_heard : (depth : ℕ) (b : Bool) (old new : Read X) → HasRoom depth (Ok b) old new
      → new.heard ≡ old.heard
  room_heard depth true old new e = ap (λ (r : Read X). r.heard) e
  room_heard depth false old new e = ap (λ (r : Read X). r.heard) e

module _ {X : Type 0} (cancels : X → Bool) where
  abbrev pub HeardBy : X → Result (Unit {0}) NoMemory → Read X → Read X → Type 0
  HeardBy m (Ok done) old new = new ≡ heard_in m (cancels m) old
  HeardBy m (Err e) old new = new ≡ old

  pub heard_of : (m : X) (res : Result (Unit {0}) NoMemory) (old new : Read X)
      → HeardBy m res old new → HasHeard m res old.heard new.heard
  heard_of m (Ok done) old new e =
      ap (λ (r : Read X). r.heard) e ∙ in_heard m (cancels m) old
  heard_of m (Err x) old new e = ap (λ (r : Read X). r.heard) e

  pub more_of : (m : X) (res : Result (Unit {0}) NoMemory) (old new : Read X)
      → HeardBy m res old new → HearsMore old new
  more_of m (Ok done) old new e =
      subst (λ (r : Read X). HearsMore old r) (sym e) (more_in m (cancels m) old)
  more_of m (Err x) old new e = more_same old new e

module _ {X Y : Type 0} (number : X → ℤ) (cancels : X → Bool) where
  abbrev After : History X Y → State X Y
  After h = after_all number cancels h

  abbrev Tells : ℕ → History X Y → Ask X Y → Told → Puts X → History X Y → Type 0
  Tells lane seen call reply good seen' = Called number cancels lane seen call reply good seen'

  -- ---- the reader

  pub hear_so : (lane : ℕ) (seen seen' : History X Y) (m : X) (call : Ask X Y)
      → IsHearOf m call → (r : Told) (good : Puts X) → lane ≡ reader
      → Tells lane seen call r good seen'
      → HeardBy cancels m (done_by r) (read_in (After seen)) (read_in (After seen'))
  hear_so lane seen seen' m (ask.Hear about) e told.Done good is k =
      now_heard number cancels lane seen seen' (ask.Hear about) m good is
      (λ s. ap (λ (x : X). cond (lane == reader)
      (heard_by number cancels s x (cancels x)) s) e) refl k
  hear_so lane seen seen' m (ask.Hear about) e told.Open good is k =
      still_read number cancels lane seen seen' (ask.Hear about) told.Open good is refl k
  hear_so lane seen seen' m (ask.Hear about) e told.Idle good is k =
      still_read number cancels lane seen seen' (ask.Hear about) told.Idle good is refl k
  hear_so lane seen seen' m (ask.Hear about) e told.Closed good is k =
      still_read number cancels lane seen seen' (ask.Hear about) told.Closed good is refl k
  hear_so lane seen seen' m (ask.Room depth) e r good is k = absurd e
  hear_so lane seen seen' m ask.Take e r good is k = absurd e
  hear_so lane seen seen' m ask.IsCancelled e r good is k = absurd e
  hear_so lane seen seen' m (ask.Answer response) e r good is k = absurd e
  hear_so lane seen seen' m ask.Close e r good is k = absurd e
  hear_so lane seen seen' m ask.Halt e r good is k = absurd e

  pub room_so : (lane depth : ℕ) (seen seen' : History X Y) (r : Told) (good : Puts X)
      → lane ≡ reader
      → Tells lane seen (ask.Room depth) r good seen'
      → HasRoom depth (Ok (is_open r)) (read_in (After seen)) (read_in (After seen'))
  room_so lane depth seen seen' told.Open good is k =
      now_roomed number cancels lane depth seen seen' good is k
  room_so lane depth seen seen' told.Done good is k =
      still_read number cancels lane seen seen' (ask.Room depth) told.Done good is refl k
  room_so lane depth seen seen' told.Idle good is k =
      still_read number cancels lane seen seen' (ask.Room depth) told.Idle good is refl k
  room_so lane depth seen seen' told.Closed good is k =
      still_read number cancels lane seen seen' (ask.Room depth) told.Closed good is refl k

  pub close_so : (lane : ℕ) (seen seen' : History X Y) (r : Told) (good : Puts X)
      → lane ≡ reader → Tells lane seen ask.Close r good seen'
      → read_in (After seen') ≡ read_in (After seen)
  close_so lane seen seen' r good is k =
      still_read number cancels lane seen seen' ask.Close r good is refl k

  pub halt_so : (lane : ℕ) (seen seen' : History X Y) (r : Told) (good : Puts X)
      → lane ≡ reader → Tells lane seen ask.Halt r good seen'
      → read_in (After seen') ≡ read_in (After seen)
  halt_so lane seen seen' r good is k =
      still_read number cancels lane seen seen' ask.Halt r good is refl k

  pub refused_so : (lane : ℕ) (seen seen' : History X Y) → lane ≡ reader → GoesOn lane seen seen'
      → read_in (After seen') ≡ read_in (After seen)
  refused_so lane seen seen' is on = read_on number cancels lane seen seen' is on

  -- ---- those who answer

  pub take_so : (lane : ℕ) (seen seen' : History X Y) (r : Told) (good : Puts X)
      (asked : Asked X) → r ≡ told.Done → good ≡ Some (load.Task asked)
      → Tells lane seen ask.Take r good seen'
      → InHand lane asked.request asked.cancelled asked.cancelled (After seen')
  take_so lane seen seen' r good asked is came k =
      let t = now_taken number cancels lane seen seen' r asked is
      (subst (λ (x : Puts X). Tells lane seen ask.Take r x seen') came k) in record {
        task = t.task;
        here = t.here;
        is = ap (λ (w : Asked X). w.request) t.is;
        begun = t.was;
        marked = λ c. ap (λ (w : Asked X). w.cancelled) t.is ∙ c;
      }

  -- ---- what a lane has begun

  abbrev Begun : ℕ → History X Y → List X
  Begun lane h = begun_by lane (After h).taken

  -- a call that isn't kept, or an answer, leaves what the lane has begun
  pub look_begun : (lane : ℕ) (seen seen' : History X Y) (r : Told) (good : Puts X)
      → Tells lane seen ask.IsCancelled r good seen' → Begun lane seen' ≡ Begun lane seen
  look_begun lane seen seen' r good k =
      still_begun number cancels lane seen seen' ask.IsCancelled r good refl k

  pub halt_begun : (lane : ℕ) (seen seen' : History X Y) (r : Told) (good : Puts X)
      → Tells lane seen ask.Halt r good seen' → Begun lane seen' ≡ Begun lane seen
  halt_begun lane seen seen' r good k =
      still_begun number cancels lane seen seen' ask.Halt r good refl k

  pub put_begun : (lane : ℕ) (seen seen' : History X Y) (about : Snapshot Y) (r : Told)
      (good : Puts X) → Tells lane seen (ask.Answer about) r good seen'
      → Begun lane seen' ≡ Begun lane seen
  put_begun lane seen seen' about r good k =
      answer_begun number cancels lane seen seen' about r good k

  pub refused_begun : (lane : ℕ) (seen seen' : History X Y) → GoesOn lane seen seen'
      → Begun lane seen' ≡ Begun lane seen
  refused_begun lane seen seen' on = begun_on number cancels lane seen seen' on

  none_begun : (lane : ℕ) (seen seen' : History X Y) (r : Told) (good : Puts X)
      → GivesNone r good → Tells lane seen ask.Take r good seen'
      → Begun lane seen' ≡ Begun lane seen
  none_begun lane seen seen' told.Done good none k =
      let w = comes_first (After k.point).waiting good (done_reply k.is) k.comes in
      absurd (none w.0 refl w.1)
  none_begun lane seen seen' told.Open good none k =
      still_begun number cancels lane seen seen' ask.Take told.Open good refl k
  none_begun lane seen seen' told.Idle good none k =
      still_begun number cancels lane seen seen' ask.Take told.Idle good refl k
  none_begun lane seen seen' told.Closed good none k =
      still_begun number cancels lane seen seen' ask.Take told.Closed good refl k

  pub taken_begun : (lane : ℕ) (seen seen' : History X Y) (r : Told) (good : Puts X)
      (o : Option (Asked X))
      → IfSome o (λ asked. (r ≡ told.Done) × (good ≡ Some (load.Task asked)))
      → IfNone o (GivesNone r good) → Tells lane seen ask.Take r good seen'
      → HasBegun (Ok o) (Begun lane seen) (Begun lane seen')
  taken_begun lane seen seen' r good None some none k =
      none_begun lane seen seen' r good none k
  taken_begun lane seen seen' r good (Some asked) some none k =
      take_begun number cancels lane seen seen' r asked some.0
      (subst (λ (x : Puts X). Tells lane seen ask.Take r x seen') some.1 k)

  -- ---- a look at what the lane has in hand

  abbrev Hand : ℕ → History X Y → Option (Held X)
  Hand lane h = held (task_at lane (After h).hands)

  abbrev Raised : ℕ → History X Y → Type 0
  Raised lane h = is_cancelled (task_at lane (After h).hands) ≡ true

  pub look_hand : (lane : ℕ) (seen seen' : History X Y) (r : Told) (good : Puts X)
      → Tells lane seen ask.IsCancelled r good seen' → Hand lane seen' ≡ Hand lane seen
  look_hand lane seen seen' r good k =
      still_hand number cancels lane seen seen' ask.IsCancelled r good refl k

  pub refused_hand : (lane : ℕ) (seen seen' : History X Y) → GoesOn lane seen seen'
      → Hand lane seen' ≡ Hand lane seen
  refused_hand lane seen seen' on = hand_on number cancels lane seen seen' on

  pub look_stays : (lane : ℕ) (seen seen' : History X Y) (r : Told) (good : Puts X)
      → Tells lane seen ask.IsCancelled r good seen' → Raised lane seen → Raised lane seen'
  look_stays lane seen seen' r good k was =
      still_cancelled number cancels lane seen seen' ask.IsCancelled r good refl k was

  pub refused_stays : (lane : ℕ) (seen seen' : History X Y) → GoesOn lane seen seen'
      → Raised lane seen → Raised lane seen'
  refused_stays lane seen seen' on was = cancelled_on number cancels lane seen seen' on was

  -- where the queue says so it was cancelled
  pub look_raised : (lane : ℕ) (seen seen' : History X Y) (r : Told) (good : Puts X)
      → Tells lane seen ask.IsCancelled r good seen' → is_open r ≡ true → Raised lane seen'
  look_raised lane seen seen' told.Open good k e =
      now_cancelled number cancels lane seen seen' told.Open good refl k
  look_raised lane seen seen' told.Done good k e = absurd (false_not_true e)
  look_raised lane seen seen' told.Idle good k e = absurd (false_not_true e)
  look_raised lane seen seen' told.Closed good k e = absurd (false_not_true e)

  pub came_so : (lane : ℕ) (seen seen' : History X Y) (r : Told) (good : Puts X)
      (o : Option (Asked X))
      → IfSome o (λ asked. (r ≡ told.Done) × (good ≡ Some (load.Task asked)))
      → Tells lane seen ask.Take r good seen' → HasTaken lane (Ok o) (After seen')
  came_so lane seen seen' r good None is k = tt
  came_so lane seen seen' r good (Some asked) is k =
      take_so lane seen seen' r good asked is.0 is.1 k

  -- the same, made of what the desk says of the call
  pub tells : {S Q : Type 0} (stands : S → History X Y → Type 0) (lane : ℕ)
      (may : History X Y → ℕ → Ask X Y → Type 0) (v w : View (Ask X Y) Told Q) (call : Ask X Y)
      (reply : Told) (good : Puts X)
      → Answers stands (λ h k c. answer_to (After h) k c) is_short may
      (λ e. is_kept e.call e.reply) (λ h k c r g. ComesOut (After h) c r g) lane v call
      reply good w
      → Tells lane v.seen call reply good w.seen
  tells {S} {Q} stands lane may v w call reply good a =
      called number cancels stands lane may v w call reply good a
