use Rattle.std.proofs.Common.{map}
use Rattle.std.specs.Prelude.{string_bytes}
use Rattle.demo_worker.proofs.Doing.{then_run, not_expanded}
use Rattle.demo_worker.proofs.flags.run_once.Goals as goal

pub returns-in-Ok : goal.returns-in-Ok
returns-in-Ok g c =
    let told = g.S.Shop.told in
    then_run (map string_bytes c.args.words.now) c.in-Ok.expanded.items c.run_words.result
    (told c.args.shop.now) (told c.expand.new.shop) (told c.run_words.new.shop) c.in-Ok.ensures
    (rw c.deref.ensures.value at c.run_words.ensures)

pub returns-in-Err-NoMemory : goal.returns-in-Err-NoMemory
returns-in-Err-NoMemory g c =
    let told = g.S.Shop.told in
    not_expanded (map string_bytes c.args.words.now) (told c.args.shop.now) (told
    c.expand.new.shop) (rw c.in-Err-NoMemory.field-0-is at c.in-Err-NoMemory.ensures)
