-- What a program that answers messages does from its start to its end.
use Rattle.std.specs.Prelude.{◌≡◌, ℕ, List, [], ◌++◌, Option, Some, None, Result}
use Rattle.plain_values.specs.declared.no_memory.NoMemory.{NoMemory}
use Rattle.outside.specs.Lists.{Adds}
use Rattle.outside.specs.Told.{TapTold, SinkTold, ShopTold}
use Rattle.outside.specs.declared.shop.ShopCall.{ShopCall}
use Rattle.delimited_framing.specs.Front.{Form}
use Rattle.message_service.specs.declared.finish.Finish.{Finish}
use Rattle.message_service.specs.declared.finish.Finish.TheVariants as finish
use Rattle.message_service.specs.Calls.{Made}
use Rattle.message_service.specs.Stream.{Begins, IsWhole, IsBroken}
use Rattle.message_service.specs.Turns.{Turn, Span, put_by, calls_by, came_in, turns_in}
use Rattle.message_service.specs.Turns.{Follows, Runs, IsBegun}
use Rattle.message_service.specs.Ends.{PutsBy, CausedBy}

module _ {M : Type 0}
    (Answers : M → List M → List ShopCall → Result (Option (List ℕ)) NoMemory → Type 0) where
  -- What is left of the messages, and the calls that were made for the next of them: nothing,
  -- unless memory ran out or putting failed.
  abbrev pub LeftBy : Option Finish → List M → List ShopCall → Type 0
  LeftBy (Some finish.NoMemory) left begun = IsBegun Answers left begun
  LeftBy (Some finish.OutputFault) left begun = begun ≡ []
  LeftBy None left begun = (left ≡ []) × (begun ≡ [])
  LeftBy (Some finish.AtEnd) left begun = (left ≡ []) × (begun ≡ [])
  LeftBy (Some finish.BadInput) left begun = (left ≡ []) × (begun ≡ [])
  LeftBy (Some finish.InputFault) left begun = (left ≡ []) × (begun ≡ [])
  LeftBy (Some finish.TooLong) left begun = (left ≡ []) × (begun ≡ [])

  -- These messages had all been read, and were dealt with in order, while no more were read. The
  -- calls of all their turns are those that were made on the shop, and what was said in their turns
  -- is what was put.
  pub record Handled (how : Option Finish) (messages : List M) (out out' : SinkTold)
      (shop shop' : ShopTold) : Type 0 where
    pub turns : List Turn
    pub left : List M
    pub begun : List ShopCall
    pub follows : Follows Answers messages turns left
    pub leaves : LeftBy how left begun
    pub put : PutsBy how (put_by turns) out out'
    pub made : Made (calls_by turns ++ begun) shop shop'

  -- The messages were read span by span, and were dealt with in order, each with exactly those in
  -- sight that had been read behind it by its turn. What was said in the turns stands behind what
  -- came before them.
  pub record Answered (how : Option Finish) (before : List ℕ) (messages : List M)
      (out out' : SinkTold) (shop shop' : ShopTold) : Type 0 where
    pub spans : List (Span M)
    pub left : List M
    pub begun : List ShopCall
    pub came : came_in spans ≡ messages
    pub runs : Runs Answers [] spans left
    pub leaves : LeftBy how left begun
    pub put : PutsBy how (before ++ put_by (turns_in spans)) out out'
    pub made : Made (calls_by (turns_in spans) ++ begun) shop shop'

module _ (form : Form) {M : Type 0} (Spells : List ℕ → M → Type 0) where
  -- The messages are all that the bytes spell; or all before what spells none; or the first ones,
  -- where memory ran out or putting failed.
  abbrev pub ReadsBy : Finish → List ℕ → List M → Type 0
  ReadsBy finish.AtEnd bytes messages = IsWhole form Spells bytes messages
  ReadsBy finish.NoMemory bytes messages = Begins form Spells bytes messages
  ReadsBy finish.BadInput bytes messages = IsBroken form Spells bytes messages
  ReadsBy finish.InputFault bytes messages = IsWhole form Spells bytes messages
  ReadsBy finish.OutputFault bytes messages = Begins form Spells bytes messages
  ReadsBy finish.TooLong bytes messages = IsWhole form Spells bytes messages

-- what the input, the output and the shop tell at one moment
pub record Outside : Type 0 where
  pub input : TapTold
  pub out : SinkTold
  pub shop : ShopTold

module _ (form : Form) {M : Type 0} (Spells : List ℕ → M → Type 0)
    (Answers : M → List M → List ShopCall → Result (Option (List ℕ)) NoMemory → Type 0) where
  -- The program took these bytes of its input, which spell these messages, and answered them.
  pub record Serves (f : Finish) (before : List ℕ) (old new : Outside) : Type 0 where
    pub bytes : List ℕ
    pub messages : List M
    pub taken : Adds bytes old.input.taken new.input.taken
    pub reads : ReadsBy form Spells f bytes messages
    pub caused : CausedBy f bytes old.input new.input
    pub answered : Answered Answers (Some f) before messages old.out new.out old.shop new.shop
