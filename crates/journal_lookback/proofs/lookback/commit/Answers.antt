use Rattle.std.proofs.Common.{Some, None, option_copied, sym, ap, ◌∙◌}
use Rattle.journal_lookback.proofs.LookedBack.{commit_found}
use Rattle.journal_lookback.proofs.lookback.commit.Goals as goal

pub returns-in-Some : goal.returns-in-Some
returns-in-Some c =
    c.commit_in.ensures ∙ commit_found c.args.entries.now c.args.action c.args.branch (Some c.in-Some.entry.now) (sym (ap option_copied c.in-Some.is) ∙ c.committing.ensures)

pub returns-in-None : goal.returns-in-None
returns-in-None c = commit_found c.args.entries.now c.args.action c.args.branch None (sym (ap option_copied c.in-None.is) ∙ c.committing.ensures)
