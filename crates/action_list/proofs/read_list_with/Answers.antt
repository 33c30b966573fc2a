use Rattle.action_list.proofs.WholeLists.{whole_answer}
use Rattle.action_list.proofs.read_list_with.Goals as goal

pub returns-clause-whole : goal.returns-clause-whole
returns-clause-whole c = whole_answer c.args.keys c.args.bytes.now c.list_of.result c.list_of.ensures
