use Rattle.std.proofs.Common.{sym, subst, ◌∙◌, map}
use Rattle.std.specs.Prelude.{string_bytes}
use Rattle.tool_words.specs.Options.{AreInLimits}
use Rattle.tool_words.proofs.Limits.{within_limits}
use Rattle.tool_words.proofs.options.read_words.Goals as goal

pub returns-clause-limits : goal.returns-clause-limits
returns-clause-limits c =
    let accepted = sym c.is_accepted.ensures ∙ c.if-not-is_accepted.false in
    subst AreInLimits (sym c.in_ok-given.ensures) (within_limits (map string_bytes c.args.words.now) accepted)
