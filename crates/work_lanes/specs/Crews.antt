-- The lanes, and how all is over.
use Rattle.std.specs.Prelude.{◌≡◌, ℕ, ◌+◌, List, [], ◌∷◌}
use Rattle.lane_threads.specs.declared.pair.Either.{Either}
use Rattle.lane_threads.specs.declared.pair.Either.TheVariants.{First, Second}
use Rattle.message_service.specs.declared.finish.Finish.{Finish}
use Rattle.message_service.specs.declared.finish.Finish.TheVariants as finish
use Rattle.work_queue.specs.declared.queue.How.{How}
use Rattle.work_queue.specs.declared.queue.How.TheVariants as how
use Rattle.work_lanes.specs.declared.reading.Reader.{Reader}
use Rattle.work_lanes.specs.declared.reading.ReaderLeft.{ReaderLeft}
use Rattle.work_lanes.specs.declared.handling.Hands.{Hands}

abbrev pub finish_by : How → Finish → Finish
finish_by how.Failed f = finish.OutputFault
finish_by how.Halted f = finish.NoMemory
finish_by how.Whole f = f

module _ {T H : Type 0} where
  -- a lane for each of these handlers, in order from the number k on
  abbrev pub AreHands : ℕ → List H → List (Either (Reader T) (Hands H)) → Type 0
  AreHands k [] [] = Unit {0}
  AreHands k [] (lane ∷ lanes) = ⊥
  AreHands k (x ∷ xs) [] = ⊥
  AreHands k (x ∷ xs) (First r ∷ lanes) = ⊥
  AreHands k (x ∷ xs) (Second h ∷ lanes) =
      (h.number ≡ k) × (h.handler ≡ x) × AreHands (k + 1) xs lanes

  -- the reader's lane, for this depth, and one for each of these handlers
  abbrev pub AreLanes : T → ℕ → List H → List (Either (Reader T) (Hands H)) → Type 0
  AreLanes input depth xs [] = ⊥
  AreLanes input depth xs (First r ∷ lanes) =
      (r.input ≡ input) × (r.depth ≡ depth) × AreHands 1 xs lanes
  AreLanes input depth xs (Second h ∷ lanes) = ⊥

  -- the reader's lane stands first
  abbrev pub HasReaderLane : List (Either (Reader T) (Hands H)) → Type 0
  HasReaderLane lanes = (reader : Reader T) × (rest : List (Either (Reader T) (Hands H)))
      × (lanes ≡ First reader ∷ rest)

  -- the handlers of lanes
  abbrev pub handlers_held : List (Either (Reader T) (Hands H)) → List H
  handlers_held [] = []
  handlers_held (First reader ∷ lanes) = handlers_held lanes
  handlers_held (Second hands ∷ lanes) = hands.handler ∷ handlers_held lanes

  -- the handlers that lanes have left
  abbrev pub handlers_in : List (Either (ReaderLeft T) H) → List H
  handlers_in [] = []
  handlers_in (First left ∷ ends) = handlers_in ends
  handlers_in (Second handler ∷ ends) = handler ∷ handlers_in ends

  -- the reader's end stands first
  abbrev pub HasReaderFirst : List (Either (ReaderLeft T) H) → Type 0
  HasReaderFirst ends = (left : ReaderLeft T) × (rest : List (Either (ReaderLeft T) H))
      × (ends ≡ First left ∷ rest)
