-- Calls that were made on a shop.
use Rattle.std.specs.Prelude.{◌≡◌, List, Bool, true, false}
use Rattle.std.specs.List.{list_any}
use Rattle.outside.specs.Causes.{Counts}
use Rattle.outside.specs.Lists.{Adds}
use Rattle.outside.specs.Told.{ShopTold}
use Rattle.outside.specs.declared.answers.Io.{Io}
use Rattle.outside.specs.declared.answers.Io.TheVariants as io
use Rattle.outside.specs.declared.answers.Read.{Read}
use Rattle.outside.specs.declared.answers.Read.TheVariants as read
use Rattle.outside.specs.declared.shop.JobEnd.{JobEnd}
use Rattle.outside.specs.declared.shop.JobEnd.TheVariants as end
use Rattle.outside.specs.declared.shop.ShopCall.{ShopCall}
use Rattle.outside.specs.declared.shop.ShopCall.TheVariants as call

abbrev pub is_failed : Io → Bool
is_failed io.Done = false
is_failed io.Failed = true

abbrev pub read_failed : Read → Bool
read_failed (read.Found bytes) = false
read_failed read.Absent = false
read_failed read.Failed = true

abbrev pub run_failed : JobEnd → Bool
run_failed (end.Exit code output) = false
run_failed end.Signal = false
run_failed end.Failed = true

-- the call was answered Failed
abbrev pub has_failed : ShopCall → Bool
has_failed (call.Put path bytes i) = is_failed i
has_failed (call.Folder path i) = is_failed i
has_failed (call.Get path answer) = read_failed answer
has_failed (call.Run folder words env e) = run_failed e

abbrev pub HasFailed : List ShopCall → Type 0
HasFailed calls = list_any has_failed calls ≡ true

-- These calls were made on the shop. They stand at the end of its log, and its count rose where one
-- failed.
pub record Made (calls : List ShopCall) (old new : ShopTold) : Type 0 where
  pub log : Adds calls old.log new.log
  pub count : Counts old.faults new.faults (HasFailed calls)
