-- What is read where the words aren't accepted.
use Rattle.std.proofs.Common.{◌≡◌, [], Option, None, Err, refl, sym, subst}
use Rattle.build_report.specs.declared.fault.RunFault.TheVariants as fault
use Rattle.outside.specs.Told.{FloorTold}
use Rattle.run_loading.specs.Reads.{Reads}
use Rattle.run_loading.proofs.Logged.{reads_none}
use Rattle.tool_words.specs.declared.options.Options.{Options}
use Rattle.run_tasks.specs.Course.{Course}

pub words_refused : (options : Option Options) (told : FloorTold) → options ≡ None
    → Reads told told (λ reads. Course options reads (Err fault.Words))
words_refused options told none =
    reads_none told (λ reads. Course options reads (Err fault.Words))
    (subst (λ (o : Option Options). Course o [] (Err fault.Words)) (sym none) (refl, refl))
