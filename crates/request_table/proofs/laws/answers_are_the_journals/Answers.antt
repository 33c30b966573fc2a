use Rattle.request_table.proofs.Answered.{multi_answer, single_answer}
use Rattle.request_table.proofs.laws.answers_are_the_journals.Goals as goal

pub returns-clause-multi : goal.returns-clause-multi
returns-clause-multi c = λ p f j l z st within all. multi_answer p f j l z st within all

pub returns-clause-single : goal.returns-clause-single
returns-clause-single c = λ p f j l st within all one. single_answer p f j l st within all one
