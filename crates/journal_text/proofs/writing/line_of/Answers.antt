use Rattle.std.proofs.lemmas.Str.{IsUtf8-string_bytes}
use Rattle.journal_text.proofs.Written.{read_again}
use Rattle.journal_text.proofs.writing.line_of.Goals as goal

pub returns-clause-again : goal.returns-clause-again
returns-clause-again c =
    let to = c.in_ok-to_string.ensures in
    read_again _ _ (to.text c.requires.plain) (IsUtf8-string_bytes c.in_ok-to_string.field-0) (to.reads_back c.requires.shallow)
