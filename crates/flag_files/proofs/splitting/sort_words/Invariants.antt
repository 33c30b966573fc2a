use Rattle.std.proofs.Common.{◌≡◌, ◌++◌, take, filter, not}
use Rattle.flag_files.specs.Split.{is_flag_file_word}
use Rattle.flag_files.proofs.splitting.sort_words.Given as goal

abbrev pub invariant-loop-word : goal.invariant-loop-word
invariant-loop-word l = record {
  started : l.startup.items ≡ l.initial.startup.items ++ filter (λ w. not (is_flag_file_word w)) (take l.word-index l.words);
  requested : l.request.items ≡ l.initial.request.items ++ filter is_flag_file_word (take l.word-index l.words);
}
