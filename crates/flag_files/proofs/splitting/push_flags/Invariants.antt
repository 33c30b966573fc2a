use Rattle.std.proofs.Common.{◌≡◌, ◌++◌, take}
use Rattle.flag_files.proofs.splitting.push_flags.Given as goal

abbrev pub invariant-loop-flag : goal.invariant-loop-flag
invariant-loop-flag l = l.startup.items ≡ l.initial.startup.items ++ take l.flag-index l.extra
