use Rattle.answer_reader.proofs.answers.executor_answer.Goals as goal

pub returns-in_default : goal.returns-in_default
returns-in_default c = λ rs left m s. c.in_default.not-NoMemory (c.in-Err.ensures.only m s)
