use Rattle.std.proofs.Common.{◌≡◌, List, ℕ, ap, sym, subst, ◌∙◌}
use Rattle.json_messages.proofs.Lists.{read_again}
use Rattle.json_messages.proofs.write.line_of.Goals as goal

pub returns-clause-again : goal.returns-clause-again
returns-clause-again c =
    let to = c.in_ok-line.ensures in
    read_again _ _ (to.text c.requires.plain) to.utf8 (to.reads_back c.requires.shallow)
