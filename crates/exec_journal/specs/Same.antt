-- Whether two replies are equal, as a computation.
use Rattle.std.specs.Prelude.{◌==◌, bytes_eq, Bool, true, false, ◌&&◌, not, if◌then◌else◌}
use Rattle.std.specs.Ordering.{int_eq}
use Rattle.exec_journal.specs.declared.reply.Reply.{Reply}
use Rattle.exec_journal.specs.declared.reply.Reply.TheVariants as reply
use Rattle.exec_journal.specs.declared.reply.BreachWhy.{BreachWhy}
use Rattle.exec_journal.specs.declared.reply.BreachWhy.TheVariants as breach
use Rattle.exec_journal.specs.declared.reply.StrayWhy.{StrayWhy}
use Rattle.exec_journal.specs.declared.reply.StrayWhy.TheVariants as stray
use Rattle.exec_journal.specs.declared.reply.Why.{Why}
use Rattle.exec_journal.specs.declared.reply.Why.TheVariants as why
use Rattle.exec_journal.specs.Entries.{attempt_of, same_attempt}

abbrev pub same_flag : Bool → Bool → Bool
same_flag x y = if x then y else not y

abbrev pub same_why : Why → Why → Bool
same_why why.Ended why.Ended = true
same_why why.Breach why.Breach = true
same_why why.Feed why.Feed = true
same_why why.Unwanted why.Unwanted = true
same_why why.Quit why.Quit = true
same_why why.Evicted why.Evicted = true
same_why _ _ = false

abbrev pub same_stray : StrayWhy → StrayWhy → Bool
same_stray stray.Never stray.Never = true
same_stray stray.Closed stray.Closed = true
same_stray _ _ = false

abbrev pub same_breach : BreachWhy → BreachWhy → Bool
same_breach breach.Broken breach.Broken = true
same_breach breach.WrongNumber breach.WrongNumber = true
same_breach breach.Unasked breach.Unasked = true
same_breach breach.NotCancelled breach.NotCancelled = true
same_breach _ _ = false

-- the two replies are equal
unfoldable pub same_reply : Reply → Reply → Bool
same_reply (reply.Launch l a b t) (reply.Launch m c d u) =
    (l == m) && same_attempt (attempt_of a b t) (attempt_of c d u)
same_reply (reply.Send l n a b t) (reply.Send m o c d u) =
    (l == m) && (int_eq n o && same_attempt (attempt_of a b t) (attempt_of c d u))
same_reply (reply.Cancel l n) (reply.Cancel m o) = (l == m) && int_eq n o
same_reply (reply.Gather l n a b t e r) (reply.Gather m o c d u f s) =
    ((l == m) && (int_eq n o && same_attempt (attempt_of a b t) (attempt_of c d u)))
    && (int_eq e f && same_flag r s)
same_reply (reply.Kill l y) (reply.Kill m z) = (l == m) && same_why y z
same_reply reply.Stop reply.Stop = true
same_reply reply.Idle reply.Idle = true
same_reply reply.Noted reply.Noted = true
same_reply (reply.File content) (reply.File other) = bytes_eq content other
same_reply reply.NoFile reply.NoFile = true
same_reply reply.Granted reply.Granted = true
same_reply reply.Lost reply.Lost = true
same_reply reply.Dropped reply.Dropped = true
same_reply reply.AgainLater reply.AgainLater = true
same_reply (reply.Line l) (reply.Line m) = l == m
same_reply (reply.Matched a b t) (reply.Matched c d u) =
    same_attempt (attempt_of a b t) (attempt_of c d u)
same_reply (reply.Late a b t) (reply.Late c d u) =
    same_attempt (attempt_of a b t) (attempt_of c d u)
same_reply reply.Greeted reply.Greeted = true
same_reply (reply.Stray y) (reply.Stray z) = same_stray y z
same_reply (reply.Breach y) (reply.Breach z) = same_breach y z
same_reply reply.Astray reply.Astray = true
same_reply reply.NoMemory reply.NoMemory = true
same_reply _ _ = false
