use Rattle.std.proofs.Common.{Some, None, option_copied, option_map, sym, ap, ◌∙◌}
use Rattle.journal_lookback.specs.Lookback.{grant_fact}
use Rattle.journal_lookback.proofs.LookedBack.{grant_found}
use Rattle.journal_lookback.proofs.lookback.grant.Goals as goal

pub returns-in-Some : goal.returns-in-Some
returns-in-Some c =
    c.grant_in.ensures ∙ ap (option_map grant_fact) (grant_found c.args.entries.now c.args.action (Some c.in-Some.entry.now) (sym (ap option_copied c.in-Some.is) ∙ c.granting.ensures))

pub returns-in-None : goal.returns-in-None
returns-in-None c =
    ap (option_map grant_fact) (grant_found c.args.entries.now c.args.action None (sym (ap option_copied c.in-None.is) ∙ c.granting.ensures))
