-- Calls on a shop, one after another up to the first that doesn't go well.
use Rattle.std.specs.Prelude.{◌≡◌, ◌⊎◌, ℕ, List, [], ◌∷◌, ◌++◌, codes, Option, Some, None}
use Rattle.outside.specs.Told.{ShopTold}
use Rattle.outside.specs.declared.answers.Io.{Io}
use Rattle.outside.specs.declared.answers.Io.TheVariants as io
use Rattle.outside.specs.declared.answers.Read.{Read}
use Rattle.outside.specs.declared.answers.Read.TheVariants as read
use Rattle.plain_values.specs.declared.command.Variable.{Variable}
use Rattle.outside.specs.declared.shop.JobEnd.{JobEnd}
use Rattle.outside.specs.declared.shop.JobEnd.TheVariants as end
use Rattle.outside.specs.declared.shop.ShopCall.{ShopCall}
use Rattle.outside.specs.declared.shop.ShopCall.TheVariants as call
use Rattle.message_service.specs.Calls.{Made}

-- a call on a shop, without its answer
pub data Asked : Type 0 where
  Put : List ℕ → List ℕ → Asked
  Folder : List ℕ → Asked
  Run : List ℕ → List (List ℕ) → List Variable → Asked
  Get : List ℕ → Asked

abbrev pub asked : ShopCall → Asked
asked (call.Put path bytes i) = Put path bytes
asked (call.Folder path i) = Folder path
asked (call.Get path answer) = Get path
asked (call.Run folder words env e) = Run folder words env

unfoldable pub bad_path : List ℕ
bad_path = codes "bad path"

unfoldable pub cannot_write : List ℕ
cannot_write = codes "cannot write"

unfoldable pub cannot_start : List ℕ
cannot_start = codes "cannot start"

unfoldable pub by_a_signal : List ℕ
by_a_signal = codes "ended by a signal"

unfoldable pub cannot_read : List ℕ
cannot_read = codes "cannot read"

abbrev pub write_refusal : Io → Option (List ℕ)
write_refusal io.Done = None
write_refusal io.Failed = Some cannot_write

abbrev pub run_refusal : JobEnd → Option (List ℕ)
run_refusal (end.Exit code output) = None
run_refusal end.Signal = Some by_a_signal
run_refusal end.Failed = Some cannot_start

abbrev pub read_refusal : Read → Option (List ℕ)
read_refusal (read.Found bytes) = None
read_refusal read.Absent = None
read_refusal read.Failed = Some cannot_read

-- why a job is refused that has such an answer, where it is
abbrev pub refusal_of : ShopCall → Option (List ℕ)
refusal_of (call.Put path bytes i) = write_refusal i
refusal_of (call.Folder path i) = write_refusal i
refusal_of (call.Get path answer) = read_refusal answer
refusal_of (call.Run folder words env e) = run_refusal e

-- The first of what was to be asked was asked, and went well; the rest is still to be asked.
abbrev pub WentWell : List Asked → List ShopCall → List Asked → Type 0
WentWell asks [] rest = asks ≡ rest
WentWell [] (c ∷ calls) rest = ⊥
WentWell (a ∷ asks) (c ∷ calls) rest =
    (asked c ≡ a) × (refusal_of c ≡ None) × WentWell asks calls rest

-- they went well up to the last, for which the job is refused so
pub record StopsAt (why : List ℕ) (asks : List Asked) (calls : List ShopCall) : Type 0 where
  pub before : List ShopCall
  pub last : ShopCall
  pub rest : List Asked
  pub all : calls ≡ before ++ last ∷ []
  pub well : WentWell asks before (asked last ∷ rest)
  pub refused : refusal_of last ≡ Some why

-- how calls that were to be made ended
pub data Way : Type 0 where
  -- all were made, and went well
  Whole : Way
  -- the job is refused so
  Stopped : List ℕ → Way
  -- those that were made went well, and then memory ran out
  Cut : Way

abbrev pub Goes : Way → List Asked → List ShopCall → Type 0
Goes Whole asks calls = WentWell asks calls []
Goes (Stopped why) asks calls = StopsAt why asks calls
Goes Cut asks calls = (rest : List Asked) × WentWell asks calls rest

-- The first of what was to be asked was asked, and all but maybe the last went well.
abbrev pub Starts : List Asked → List ShopCall → Type 0
Starts asks calls = Goes Cut asks calls ⊎ ((why : List ℕ) × StopsAt why asks calls)

-- these were asked on the shop, and ended so
abbrev pub Does : Way → List Asked → ShopTold → ShopTold → Type 0
Does way asks old new = (calls : List ShopCall) × Goes way asks calls × Made calls old new
