use Rattle.std.proofs.Common.{◌≡◌, take, filter}
use Rattle.flag_files.specs.Split.{is_flag_file_word}
use Rattle.flag_files.proofs.splitting.flag_file_words.Given as goal

abbrev pub invariant-loop-word : goal.invariant-loop-word
invariant-loop-word l = l.named.items ≡ filter is_flag_file_word (take l.word-index l.words)
