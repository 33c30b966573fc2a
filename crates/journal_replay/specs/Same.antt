-- Whether a kept reply is the one that was told.
use Rattle.std.specs.Prelude.{ℕ, ℤ, ◌==◌, Bool, true, false, ◌&&◌}
use Rattle.std.specs.Ordering.{int_eq}
use Rattle.exec_journal.specs.declared.attempt.Attempt.{Attempt}
use Rattle.exec_journal.specs.declared.reply.BreachWhy.{BreachWhy}
use Rattle.exec_journal.specs.declared.reply.Reply.{Reply}
use Rattle.exec_journal.specs.declared.reply.Reply.TheVariants as reply
use Rattle.exec_journal.specs.declared.reply.StrayWhy.{StrayWhy}
use Rattle.exec_journal.specs.declared.reply.Why.{Why}
use Rattle.exec_journal.specs.Entries.{attempt_of, same_attempt}
use Rattle.exec_journal.specs.Same.{same_flag, same_why, same_stray, same_breach}

abbrev pub is_launch : ℕ → Attempt → Reply → Bool
is_launch l s (reply.Launch m a b t) = (m == l) && (same_attempt (attempt_of a b t) s)
is_launch l s _ = false

abbrev pub is_send : ℕ → ℤ → Attempt → Reply → Bool
is_send l n s (reply.Send m o a b t) = (m == l) && (int_eq o n && (same_attempt (attempt_of a b t) s))
is_send l n s _ = false

abbrev pub is_cancel : ℕ → ℤ → Reply → Bool
is_cancel l n (reply.Cancel m o) = (m == l) && (int_eq o n)
is_cancel l n _ = false

abbrev pub is_gather : ℕ → ℤ → Attempt → ℤ → Bool → Reply → Bool
is_gather l n s e r (reply.Gather m o a b t f q) = (m == l) && (int_eq o n && (same_attempt (attempt_of a b t) s && (int_eq f e && (same_flag q r))))
is_gather l n s e r _ = false

abbrev pub is_kill : ℕ → Why → Reply → Bool
is_kill l y (reply.Kill m z) = (m == l) && (same_why z y)
is_kill l y _ = false

abbrev pub is_line : ℕ → Reply → Bool
is_line l (reply.Line m) = m == l
is_line l _ = false

abbrev pub is_matched : Attempt → Reply → Bool
is_matched s (reply.Matched a b t) = same_attempt (attempt_of a b t) s
is_matched s _ = false

abbrev pub is_late : Attempt → Reply → Bool
is_late s (reply.Late a b t) = same_attempt (attempt_of a b t) s
is_late s _ = false

abbrev pub is_stray : StrayWhy → Reply → Bool
is_stray y (reply.Stray z) = same_stray z y
is_stray y _ = false

abbrev pub is_breach : BreachWhy → Reply → Bool
is_breach y (reply.Breach z) = same_breach z y
is_breach y _ = false

abbrev pub is_stop : Reply → Bool
is_stop reply.Stop = true
is_stop _ = false

abbrev pub is_noted : Reply → Bool
is_noted reply.Noted = true
is_noted _ = false

abbrev pub is_granted : Reply → Bool
is_granted reply.Granted = true
is_granted _ = false

abbrev pub is_lost : Reply → Bool
is_lost reply.Lost = true
is_lost _ = false

abbrev pub is_dropped : Reply → Bool
is_dropped reply.Dropped = true
is_dropped _ = false

abbrev pub is_again_later : Reply → Bool
is_again_later reply.AgainLater = true
is_again_later _ = false

abbrev pub is_greeted : Reply → Bool
is_greeted reply.Greeted = true
is_greeted _ = false

-- it is this reply, and it is kept
abbrev pub is_told : Reply → Reply → Bool
is_told (reply.Launch l a b t) r = is_launch l (attempt_of a b t) r
is_told (reply.Send l n a b t) r = is_send l n (attempt_of a b t) r
is_told (reply.Cancel l n) r = is_cancel l n r
is_told (reply.Gather l n a b t e d) r = is_gather l n (attempt_of a b t) e d r
is_told (reply.Kill l y) r = is_kill l y r
is_told (reply.Line l) r = is_line l r
is_told (reply.Matched a b t) r = is_matched (attempt_of a b t) r
is_told (reply.Late a b t) r = is_late (attempt_of a b t) r
is_told (reply.Stray y) r = is_stray y r
is_told (reply.Breach y) r = is_breach y r
is_told reply.Stop r = is_stop r
is_told reply.Noted r = is_noted r
is_told reply.Granted r = is_granted r
is_told reply.Lost r = is_lost r
is_told reply.Dropped r = is_dropped r
is_told reply.AgainLater r = is_again_later r
is_told reply.Greeted r = is_greeted r
is_told reply.Idle r = false
is_told (reply.File content) r = false
is_told reply.NoFile r = false
is_told reply.NoMemory r = false
is_told reply.Astray r = false
