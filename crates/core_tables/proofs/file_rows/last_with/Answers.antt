use Rattle.std.proofs.Common.{List, ℕ, ap, sym, subst, ◌+◌, ◌∙◌, get_or, take}
use Rattle.std.proofs.lemmas.List.{take_more}
use Rattle.exec_journal.specs.declared.call.NamedFile.{NamedFile}
use Rattle.exec_journal.specs.Rules.{last_file}
use Rattle.core_tables.specs.Slots.{Tells, newer}
use Rattle.core_tables.proofs.Filled.{last_next}
use Rattle.core_tables.proofs.file_rows.last_with.Goals as goal

pub loop-file-preserved : goal.loop-file-preserved
loop-file-preserved c =
    let before = last_file (take c.loop-file.file-index c.args.files.now) c.args.path.now in
    let item = subst (λ (f : NamedFile). Tells c.or_of-slot.result (newer f c.args.path.now before))
    c.file-item.is (c.or_of-slot.ensures before c.loop-file.invariant) in
    let next = subst (Tells c.or_of-slot.result) (last_next
    (take c.loop-file.file-index c.args.files.now) (get_or c.args.files.now
    c.loop-file.file-index c.file-item.result) c.args.path.now) item in
    subst (λ (fs : List NamedFile). Tells c.or_of-slot.result (last_file fs c.args.path.now))
    (sym (take_more c.args.files.now c.loop-file.file-index c.file-item.result
    c.loop-file-test.true)) next
