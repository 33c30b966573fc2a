use Rattle.journal_replay.proofs.Texts.{text_is_legal}
use Rattle.journal_replay.proofs.laws.texts_are_legal.Goals as goal

pub returns : goal.returns
returns g c = text_is_legal g.C.Replayed.rules
