-- Lanes that have done nothing.
use Rattle.std.proofs.Common.{◌≡◌, ℕ, ℤ, ◌+◌, Bool, true, false, List, [], ◌∷◌, ◌++◌, Option, Some}
use Rattle.std.proofs.Common.{None, refl, sym, ap, subst, ◌∙◌, inl, arith}
use Rattle.std.specs.Prelude.{IfSome}
use Rattle.std.proofs.Math.Seq.{take-nil}
use Rattle.outside.specs.Lists.{Tells, IsFrontAdded}
use Rattle.outside.specs.Told.{TapTold, SinkTold}
use Rattle.json_framing.specs.Cutter.{form_of}
use Rattle.json_framing.specs.declared.cutter.Framing.{Framing}
use Rattle.lane_threads.specs.declared.pair.Either.{Either}
use Rattle.lane_threads.specs.declared.pair.Either.TheVariants.{First, Second}
use Rattle.message_service.specs.declared.finish.Finish.TheVariants as finish
use Rattle.message_service.specs.Ends.{PutAll}
use Rattle.message_service.proofs.Made.{adds_nothing}
use Rattle.message_service.proofs.Streams.{whole_new}
use Rattle.work_queue.specs.States as states
use Rattle.work_queue.specs.States.{PutSo}
use Rattle.work_queue.specs.StateLaws.{Stands}
use Rattle.work_queue.specs.declared.queue.WorkQueue.{WorkQueue}
use Rattle.work_lanes.specs.declared.reading.Reader.{Reader}
use Rattle.work_lanes.specs.declared.handling.Hands.{Hands}
use Rattle.work_lanes.specs.Crews.{AreHands, AreLanes, HasReaderLane, handlers_held}
use Rattle.work_lanes.specs.Handles.{EachFollows}
use Rattle.work_lanes.specs.Serves.{ServesBy}

-- ---- what lanes were made of

module _ {T H : Type 0} where
  pub has_reader : (input : T) (depth : ℕ) (xs : List H) (lanes : List (Either (Reader T) (Hands H)))
      → AreLanes input depth xs lanes → HasReaderLane lanes
  has_reader input depth xs [] a = absurd a
  has_reader input depth xs (First r ∷ lanes) a = (r, lanes, refl)
  has_reader input depth xs (Second h ∷ lanes) a = absurd a

  held_all : (k : ℕ) (xs : List H) (lanes : List (Either (Reader T) (Hands H)))
      → AreHands k xs lanes → handlers_held lanes ≡ xs
  held_all k [] [] a = refl
  held_all k [] (lane ∷ lanes) a = absurd a
  held_all k (x ∷ xs) [] a = absurd a
  held_all k (x ∷ xs) (First r ∷ lanes) a = absurd a
  held_all k (x ∷ xs) (Second h ∷ lanes) a =
      subst (λ (y : H). y ∷ handlers_held lanes ≡ x ∷ xs) (sym a.1)
      (ap (λ (ys : List H). x ∷ ys) (held_all (k + 1) xs lanes a.2))

  pub held : (input : T) (depth : ℕ) (xs : List H) (all : List (Either (Reader T) (Hands H))) (r : Reader T)
      (rest : List (Either (Reader T) (Hands H))) → all ≡ First r ∷ rest
      → AreLanes input depth xs all
      → (r.input ≡ input) × (handlers_held rest ≡ xs)
  held input depth xs all r rest is a =
      let b = subst (λ (ls : List (Either (Reader T) (Hands H))). AreLanes input depth xs ls) is a in
      (b.0, held_all 1 xs rest b.2)

-- ---- what was put

none_of_front : (new : Option (List ℕ)) (xs : List ℕ) → IfSome new (IsFrontAdded [] xs)
    → Tells new (xs ++ [])
none_of_front None xs f = tt
none_of_front (Some ys) xs f = f.2 ∙ ap (λ (zs : List ℕ). xs ++ zs) (take-nil f.0)

none_put_so : (b : Bool) (old new : SinkTold) → PutSo b [] old new → PutAll [] old new
none_put_so false old new p = record { given = p.given; count = p.count }
none_put_so true old new p = record {
  given = λ xs holds. none_of_front new.contents xs (p.given xs holds);
  count = p.count;
}

module _ {O X Y K : Type 0} (number : X → ℤ) (cancels : X → Bool) (Says : X → Bool → Y → Type 0)
    (written : Y → List ℕ) (told_of : O → SinkTold) where
  -- the sink of a queue that was never called
  pub none_put : (m : WorkQueue O X Y K) (start sink : O)
      → Stands number cancels Says written told_of m states.first → m.outlet.start.value ≡ start
      → sink ≡ m.outlet.sink → PutAll [] (told_of start) (told_of sink)
  none_put m start sink st was is =
      subst (λ (x : O). PutAll [] (told_of x) (told_of sink)) was
      (subst (λ (x : O). PutAll [] (told_of m.outlet.start.value) (told_of x)) (sym is)
      (none_put_so m.outlet.has_failed (told_of m.outlet.start.value) (told_of m.outlet.sink) st.put))

-- ---- what was served

pub lanes_idle : {H X Y : Type 0} (answers : H → X → Y → H → Type 0) (breaks : H → X → H → Type 0)
    (k : ℕ) (lanes : List H) → EachFollows answers breaks k [] lanes lanes
lanes_idle answers breaks k [] = tt
lanes_idle answers breaks k (x ∷ xs) = (inl refl, lanes_idle answers breaks (k + 1) xs)

module _ {H X Y : Type 0} (number : X → ℤ) (cancels : X → Bool) (Says : X → Bool → Y → Type 0)
    (written : Y → List ℕ) (f : Framing) (Spells : List ℕ → X → Type 0)
    (answers : H → X → Y → H → Type 0) (breaks : H → X → H → Type 0) where
  -- nothing was read, asked or put, and memory ran out
  pub nothing_served : (depth : ℕ) (tap : TapTold) (old new : SinkTold) (lanes : List H)
      → PutAll [] old new
      → ServesBy number cancels Says written (form_of f) Spells answers breaks depth finish.NoMemory
      [] lanes lanes (record { tap = tap; sink = old }) (record { tap = tap; sink = new })
  nothing_served depth tap old new lanes put = record {
    serves = record {
      bytes = [];
      requests = [];
      replies = [];
      begun = [];
      taken = adds_nothing tap.taken;
      reads = let w = whole_new f Spells in (w.0, w.1);
      caused = tt;
      put = put;
      said = tt;
      once = λ k. omega arith;
      took = tt;
      order = ([], omega arith, refl);
    };
    lanes = tt;
    each = lanes_idle answers breaks 1 lanes;
  }
