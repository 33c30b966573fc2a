-- Variants without fields: each is a row of its name alone.
use Rattle.std.specs.Prelude.{ℕ, List, [], codes, bytes_eq, if◌then◌else◌, Option, Some, None}
use Rattle.serde_json.specs.Data.{Data}
use Rattle.run_plan.specs.declared.plan.Branch.{Branch}
use Rattle.run_plan.specs.declared.plan.Branch.TheVariants as branch
use Rattle.run_plan.specs.declared.plan.Kind.{Kind}
use Rattle.run_plan.specs.declared.plan.Kind.TheVariants as kind
use Rattle.exec_journal.specs.declared.call.Started.{Started}
use Rattle.exec_journal.specs.declared.call.Started.TheVariants as started
use Rattle.exec_journal.specs.declared.call.Written.{Written}
use Rattle.exec_journal.specs.declared.call.Written.TheVariants as written
use Rattle.exec_journal.specs.declared.call.HowEnded.{HowEnded}
use Rattle.exec_journal.specs.declared.call.HowEnded.TheVariants as how_ended
use Rattle.exec_journal.specs.declared.reply.Why.{Why}
use Rattle.exec_journal.specs.declared.reply.Why.TheVariants as why
use Rattle.exec_journal.specs.declared.reply.StrayWhy.{StrayWhy}
use Rattle.exec_journal.specs.declared.reply.StrayWhy.TheVariants as stray
use Rattle.exec_journal.specs.declared.reply.BreachWhy.{BreachWhy}
use Rattle.exec_journal.specs.declared.reply.BreachWhy.TheVariants as breach
use Rattle.journal_text.specs.Options.{◌>>=◌}
use Rattle.journal_text.specs.Values.{variant_data, word_in}

abbrev pub word_data : List ℕ → Data
word_data name = variant_data name []

-- ---- Branch

abbrev pub branch_name : Branch → List ℕ
branch_name branch.Local = codes "Local"
branch_name branch.Remote = codes "Remote"

abbrev pub branch_named : List ℕ → Option Branch
branch_named name =
    if bytes_eq name (codes "Local") then Some branch.Local
    else if bytes_eq name (codes "Remote") then Some branch.Remote
    else None

abbrev pub branch_data : Branch → Data
branch_data x = word_data (branch_name x)

abbrev pub branch_in : Data → Option Branch
branch_in d = word_in d >>= branch_named

-- ---- Kind

abbrev pub kind_name : Kind → List ℕ
kind_name kind.Single = codes "Single"
kind_name kind.Multi = codes "Multi"
kind_name kind.Boxed = codes "Boxed"
kind_name kind.Remote = codes "Remote"

abbrev pub kind_named : List ℕ → Option Kind
kind_named name =
    if bytes_eq name (codes "Single") then Some kind.Single
    else if bytes_eq name (codes "Multi") then Some kind.Multi
    else if bytes_eq name (codes "Boxed") then Some kind.Boxed
    else if bytes_eq name (codes "Remote") then Some kind.Remote
    else None

abbrev pub kind_data : Kind → Data
kind_data x = word_data (kind_name x)

abbrev pub kind_in : Data → Option Kind
kind_in d = word_in d >>= kind_named

-- ---- Started

abbrev pub started_name : Started → List ℕ
started_name started.Done = codes "Done"
started_name started.RoomFault = codes "RoomFault"
started_name started.LaunchFault = codes "LaunchFault"

abbrev pub started_named : List ℕ → Option Started
started_named name =
    if bytes_eq name (codes "Done") then Some started.Done
    else if bytes_eq name (codes "RoomFault") then Some started.RoomFault
    else if bytes_eq name (codes "LaunchFault") then Some started.LaunchFault
    else None

abbrev pub started_data : Started → Data
started_data x = word_data (started_name x)

abbrev pub started_in : Data → Option Started
started_in d = word_in d >>= started_named

-- ---- Written

abbrev pub written_name : Written → List ℕ
written_name written.Done = codes "Done"
written_name written.RoomFault = codes "RoomFault"
written_name written.FeedFault = codes "FeedFault"
written_name written.TooLarge = codes "TooLarge"

abbrev pub written_named : List ℕ → Option Written
written_named name =
    if bytes_eq name (codes "Done") then Some written.Done
    else if bytes_eq name (codes "RoomFault") then Some written.RoomFault
    else if bytes_eq name (codes "FeedFault") then Some written.FeedFault
    else if bytes_eq name (codes "TooLarge") then Some written.TooLarge
    else None

abbrev pub written_data : Written → Data
written_data x = word_data (written_name x)

abbrev pub written_in : Data → Option Written
written_in d = word_in d >>= written_named

-- ---- HowEnded

abbrev pub how_ended_name : HowEnded → List ℕ
how_ended_name how_ended.End = codes "End"
how_ended_name how_ended.TapFault = codes "TapFault"
how_ended_name how_ended.BadFrame = codes "BadFrame"
how_ended_name how_ended.Long = codes "Long"

abbrev pub how_ended_named : List ℕ → Option HowEnded
how_ended_named name =
    if bytes_eq name (codes "End") then Some how_ended.End
    else if bytes_eq name (codes "TapFault") then Some how_ended.TapFault
    else if bytes_eq name (codes "BadFrame") then Some how_ended.BadFrame
    else if bytes_eq name (codes "Long") then Some how_ended.Long
    else None

abbrev pub how_ended_data : HowEnded → Data
how_ended_data x = word_data (how_ended_name x)

abbrev pub how_ended_in : Data → Option HowEnded
how_ended_in d = word_in d >>= how_ended_named

-- ---- Why

abbrev pub why_name : Why → List ℕ
why_name why.Ended = codes "Ended"
why_name why.Breach = codes "Breach"
why_name why.Feed = codes "Feed"
why_name why.Unwanted = codes "Unwanted"
why_name why.Quit = codes "Quit"
why_name why.Evicted = codes "Evicted"

abbrev pub why_named : List ℕ → Option Why
why_named name =
    if bytes_eq name (codes "Ended") then Some why.Ended
    else if bytes_eq name (codes "Breach") then Some why.Breach
    else if bytes_eq name (codes "Feed") then Some why.Feed
    else if bytes_eq name (codes "Unwanted") then Some why.Unwanted
    else if bytes_eq name (codes "Quit") then Some why.Quit
    else if bytes_eq name (codes "Evicted") then Some why.Evicted
    else None

abbrev pub why_data : Why → Data
why_data x = word_data (why_name x)

abbrev pub why_in : Data → Option Why
why_in d = word_in d >>= why_named

-- ---- StrayWhy

abbrev pub stray_name : StrayWhy → List ℕ
stray_name stray.Never = codes "Never"
stray_name stray.Closed = codes "Closed"

abbrev pub stray_named : List ℕ → Option StrayWhy
stray_named name =
    if bytes_eq name (codes "Never") then Some stray.Never
    else if bytes_eq name (codes "Closed") then Some stray.Closed
    else None

abbrev pub stray_data : StrayWhy → Data
stray_data x = word_data (stray_name x)

abbrev pub stray_in : Data → Option StrayWhy
stray_in d = word_in d >>= stray_named

-- ---- BreachWhy

abbrev pub breach_name : BreachWhy → List ℕ
breach_name breach.Broken = codes "Broken"
breach_name breach.WrongNumber = codes "WrongNumber"
breach_name breach.Unasked = codes "Unasked"
breach_name breach.NotCancelled = codes "NotCancelled"

abbrev pub breach_named : List ℕ → Option BreachWhy
breach_named name =
    if bytes_eq name (codes "Broken") then Some breach.Broken
    else if bytes_eq name (codes "WrongNumber") then Some breach.WrongNumber
    else if bytes_eq name (codes "Unasked") then Some breach.Unasked
    else if bytes_eq name (codes "NotCancelled") then Some breach.NotCancelled
    else None

abbrev pub breach_data : BreachWhy → Data
breach_data x = word_data (breach_name x)

abbrev pub breach_in : Data → Option BreachWhy
breach_in d = word_in d >>= breach_named
