-- The reply that there is nothing for a lane now.
use Rattle.std.specs.Prelude.{◌≡◌, Bool, true, false}
use Rattle.std.proofs.Common.{refl}
use Rattle.exec_journal.specs.declared.reply.Reply.{Reply}
use Rattle.exec_journal.specs.declared.reply.Reply.TheVariants as reply
use Rattle.exec_journal.specs.Entries.{is_kept}

abbrev pub is_idle : Reply → Bool
is_idle reply.Idle = true
is_idle _ = false

-- such a reply is not kept
pub idle_not_kept : (r : Reply) → is_idle r ≡ true → is_kept r ≡ false
idle_not_kept (reply.Launch l a b t) e = absurd (cc)
idle_not_kept (reply.Send l n a b t) e = absurd (cc)
idle_not_kept (reply.Cancel l n) e = absurd (cc)
idle_not_kept (reply.Gather l n a b t x y) e = absurd (cc)
idle_not_kept (reply.Kill l y) e = absurd (cc)
idle_not_kept reply.Stop e = absurd (cc)
idle_not_kept reply.Idle e = refl
idle_not_kept reply.Noted e = absurd (cc)
idle_not_kept (reply.File f) e = absurd (cc)
idle_not_kept reply.NoFile e = absurd (cc)
idle_not_kept reply.Granted e = absurd (cc)
idle_not_kept reply.Lost e = absurd (cc)
idle_not_kept reply.Dropped e = absurd (cc)
idle_not_kept reply.AgainLater e = absurd (cc)
idle_not_kept (reply.Line l) e = absurd (cc)
idle_not_kept (reply.Matched a b t) e = absurd (cc)
idle_not_kept (reply.Late a b t) e = absurd (cc)
idle_not_kept reply.Greeted e = absurd (cc)
idle_not_kept (reply.Stray y) e = absurd (cc)
idle_not_kept (reply.Breach y) e = absurd (cc)
idle_not_kept reply.Astray e = absurd (cc)
idle_not_kept reply.NoMemory e = absurd (cc)
