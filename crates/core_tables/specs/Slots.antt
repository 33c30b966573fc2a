-- What the slots of outputs tell, and what an entry makes of them.
use Rattle.std.specs.Prelude.{◌≡◌, ℕ, ◌==◌, true, false, ◌⊎◌, Option, Some, None, is_some, option_and_then, if◌then◌else◌, List, [], length, slice_get, bytes_eq}
use Rattle.run_plan.specs.declared.plan.Branch.{Branch}
use Rattle.run_plan.specs.declared.plan.Branch.TheVariants.{Local, Remote}
use Rattle.run_plan.specs.declared.plan.Plan.{Plan}
use Rattle.run_plan.specs.declared.plan.PlanAction.{PlanAction}
use Rattle.exec_journal.specs.declared.call.Answer.{Answer}
use Rattle.exec_journal.specs.declared.call.Call.{Call}
use Rattle.exec_journal.specs.declared.call.Call.TheVariants as call
use Rattle.exec_journal.specs.declared.call.Found.{Found}
use Rattle.exec_journal.specs.declared.call.Found.TheVariants as found
use Rattle.exec_journal.specs.declared.call.NamedFile.{NamedFile}
use Rattle.exec_journal.specs.declared.reply.Reply.{Reply}
use Rattle.exec_journal.specs.declared.reply.Reply.TheVariants as reply
use Rattle.exec_journal.specs.Rules.{last_file}
use Rattle.core_tables.specs.declared.files.Slot.{Slot}
use Rattle.core_tables.specs.declared.files.Slot.TheVariants.{Absent, Here, Short}

pub record Facts : Type 0 where
  -- of each action, in the order of its outputs
  pub made : List (List Slot)
  -- of each action and branch, in the order of its outputs
  pub local : List (List Slot)
  pub remote : List (List Slot)

-- a slot is empty where there is no content; else it has the content, or it couldn't be shared
abbrev pub Tells : Slot → Option (List ℕ) → Type 0
Tells Absent o = o ≡ None
Tells (Here content) o = o ≡ Some content
Tells Short o = is_some o ≡ true

-- so many slots, each of which tells of its content
pub record Filled (slots : List Slot) (n : ℕ) (content : ℕ → Option (List ℕ)) : Type 0 where
  pub count : length slots ≡ n
  pub each : (o : ℕ) (x : Slot) → slice_get slots o ≡ Some x → Tells x (content o)

-- ---- a new table

-- each action has an empty slot for each of its outputs
pub record AreNew (works : List PlanAction) (rows : List (List Slot)) : Type 0 where
  pub count : length rows ≡ length works
  pub each : (a : ℕ) (work : PlanAction) (x : List Slot) → slice_get works a ≡ Some work
      → slice_get rows a ≡ Some x → Filled x (length work.outputs) (λ o. None)

pub record IsNewFiles (works : List PlanAction) (f : Facts) : Type 0 where
  pub made : AreNew works f.made
  pub local : AreNew works f.local
  pub remote : AreNew works f.remote

-- ---- what an entry makes of it

-- the slots of one action tell of these contents now, and the others stay
pub record RowFilled (a : ℕ) (content : ℕ → Option (List ℕ))
    (xs ys : List (List Slot)) : Type 0 where
  pub count : length ys ≡ length xs
  pub rest : (k : ℕ) → (a == k) ≡ false → slice_get ys k ≡ slice_get xs k
  pub row : (x y : List Slot) → slice_get xs a ≡ Some x → slice_get ys a ≡ Some y
      → Filled y (length x) content

-- of these files the last with the output's path
abbrev pub file_for : List NamedFile → List (List ℕ) → ℕ → Option (List ℕ)
file_for files outputs o = option_and_then (last_file files) (slice_get outputs o)

-- the content of this file where it has the path, else what was there before
abbrev pub newer : NamedFile → List ℕ → Option (List ℕ) → Option (List ℕ)
newer f path o = if bytes_eq f.path path then Some f.content else o

abbrev pub outputs_on : Option PlanAction → List (List ℕ)
outputs_on (Some x) = x.outputs
outputs_on None = []

abbrev pub outputs_at : Plan → ℕ → List (List ℕ)
outputs_at p a = outputs_on (slice_get p.actions a)

abbrev pub rows_of : Branch → Facts → List (List Slot)
rows_of Local f = f.local
rows_of Remote f = f.remote

abbrev pub other_of : Branch → Branch
other_of Local = Remote
other_of Remote = Local

-- the action was granted these files
pub record Granted (a : ℕ) (fs : List (List ℕ)) (f g : Facts) : Type 0 where
  pub made : RowFilled a (λ o. slice_get fs o) f.made g.made
  pub answers : (b : Branch) → rows_of b g ≡ rows_of b f

-- the branch of the action has this answer
pub record Matched (p : Plan) (a : ℕ) (b : Branch) (x : Answer) (f g : Facts) : Type 0 where
  pub made : g.made ≡ f.made
  pub answer : RowFilled a (file_for x.files (outputs_at p a)) (rows_of b f) (rows_of b g)
  pub other : rows_of (other_of b) g ≡ rows_of (other_of b) f

abbrev pub FoundFiles : ℕ → Found → Facts → Facts → Type 0
FoundFiles a (found.Files fs) f g = Granted a fs f g
FoundFiles a _ f g = g ≡ f

abbrev pub Follows : Plan → Call → Reply → Facts → Facts → Type 0
Follows p (call.Claim a b n x) reply.Granted f g = FoundFiles a x f g
Follows p (call.Answer l x) (reply.Matched a b n) f g = Matched p a b x f g
Follows p _ _ f g = g ≡ f

-- ---- the reply to a Look

abbrev pub slot_in : Option (List Slot) → ℕ → Option Slot
slot_in (Some slots) o = slice_get slots o
slot_in None o = None

abbrev pub slot_at : List (List Slot) → ℕ → ℕ → Option Slot
slot_at rows a o = slot_in (slice_get rows a) o

-- the file, or lack of memory in its place
abbrev pub Told : Option Slot → Reply → Type 0
Told (Some (Here content)) r = (r ≡ reply.File content) ⊎ (r ≡ reply.NoMemory)
Told (Some Short) r = r ≡ reply.NoMemory
Told (Some Absent) r = r ≡ reply.NoFile
Told None r = r ≡ reply.NoFile
