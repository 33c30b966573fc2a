-- The replies that join a history, by what they are for.
use Rattle.std.specs.Prelude.{Bool, true, false}
use Rattle.exec_journal.specs.declared.reply.Reply.{Reply}
use Rattle.exec_journal.specs.declared.reply.Reply.TheVariants as reply

-- an attempt starts by it
abbrev pub is_start : Reply → Bool
is_start (reply.Launch l a b t) = true
is_start (reply.Send l n a b t) = true
is_start _ = false

-- any other order
abbrev pub is_order : Reply → Bool
is_order (reply.Cancel l n) = true
is_order (reply.Gather l n a b t x r) = true
is_order (reply.Kill l w) = true
is_order reply.Stop = true
is_order _ = false

-- a tap lane is given it: its line, or what an Answer comes to
abbrev pub is_of_tap : Reply → Bool
is_of_tap (reply.Line l) = true
is_of_tap (reply.Matched a b t) = true
is_of_tap (reply.Late a b t) = true
is_of_tap reply.Greeted = true
is_of_tap (reply.Stray w) = true
is_of_tap (reply.Breach w) = true
is_of_tap _ = false
