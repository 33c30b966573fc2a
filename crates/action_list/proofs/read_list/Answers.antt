use Rattle.action_list.proofs.WholeLists.{whole_answer}
use Rattle.action_list.proofs.read_list.Goals as goal

pub returns-clause-whole : goal.returns-clause-whole
returns-clause-whole c = whole_answer 48 c.args.bytes.now c.list_of.result c.list_of.ensures
