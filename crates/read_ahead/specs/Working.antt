-- What is done with the messages that were read.
use Rattle.std.specs.Prelude.{◌≡◌, ℕ, List, [], ◌∷◌, ◌++◌, true, Option, Some, Result, Ok, Err}
use Rattle.plain_values.specs.declared.no_memory.NoMemory.{NoMemory}
use Rattle.outside.specs.Told.{SinkTold, ShopTold}
use Rattle.outside.specs.declared.shop.ShopCall.{ShopCall}
use Rattle.message_service.specs.declared.finish.Finish.{Finish}
use Rattle.message_service.specs.declared.finish.Finish.TheVariants as finish
use Rattle.message_service.specs.Serves.{Answered}
use Rattle.message_service.specs.Steps.{Deals}
use Rattle.message_box.specs.declared.mailbox.Stop.TheVariants as stop
use Rattle.message_box.specs.States.{State}
use Rattle.message_box.specs.Sides.{HasAll, HasTaken}

module _ {M : Type 0} where
  -- where it ends as the reader has stopped, all that was read was taken
  abbrev pub ToldBy : Finish → State M → Type 0
  ToldBy finish.AtEnd s = HasAll stop.AtEnd s
  ToldBy finish.BadInput s = HasAll stop.BadInput s
  ToldBy finish.InputFault s = HasAll stop.InputFault s
  ToldBy finish.TooLong s = HasAll stop.TooLong s
  ToldBy finish.NoMemory s = Unit {0}
  ToldBy finish.OutputFault s = Unit {0}

  -- it ends before the next message: for lack of memory, or as the reader has stopped and nothing
  -- is left to be done
  abbrev pub EndsBefore : Finish → List M → State M → Type 0
  EndsBefore finish.NoMemory queue s = Unit {0}
  EndsBefore finish.OutputFault queue s = ⊥
  EndsBefore finish.AtEnd queue s = (queue ≡ []) × ToldBy finish.AtEnd s
  EndsBefore finish.BadInput queue s = (queue ≡ []) × ToldBy finish.BadInput s
  EndsBefore finish.InputFault queue s = (queue ≡ []) × ToldBy finish.InputFault s
  EndsBefore finish.TooLong queue s = (queue ≡ []) × ToldBy finish.TooLong s

  -- these more were taken
  abbrev pub HasMore : List M → State M → State M → Type 0
  HasMore more s s' = (s'.taken ≡ s.taken ++ more) × (s'.left ≡ s.left)

  -- All that had been read by then was taken, and stands behind what is to be done. Or it ends,
  -- before or after that.
  abbrev pub Refills : Result (Unit {0}) Finish → List M → List M → State M → State M → Type 0
  Refills (Ok done) queue queue' s s' =
      (more : List M) × (queue' ≡ queue ++ more) × HasTaken more s s'
  Refills (Err f) queue queue' s s' =
      (more : List M) × HasMore more s s' × EndsBefore f (queue ++ more) s'

  module _ (Answers : M → List M → List ShopCall → Result (Option (List ℕ)) NoMemory → Type 0) where
    -- the first of those that are to be done was dealt with, with all others in sight
    abbrev pub DealsFirst : Option Finish → List M → List M → SinkTold → SinkTold → ShopTold
        → ShopTold → Type 0
    DealsFirst how queue queue' out out' shop shop' =
        (m : M) × (queue ≡ m ∷ queue') × Deals Answers how m queue' out out' shop shop'

    -- The worker has ended so and left. All that it took it has dealt with, up to its end.
    pub record WorkerLeaves (finish : Finish) (s : State M) (out out' : SinkTold)
        (shop shop' : ShopTold) : Type 0 where
      pub left : s.left ≡ true
      pub told : ToldBy finish s
      pub answered : Answered Answers (Some finish) [] s.taken out out' shop shop'
