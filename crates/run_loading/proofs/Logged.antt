-- Reads that a floor logs, one after another.
use Rattle.std.proofs.Common.{ℕ, List, [], ◌++◌, Option, Some, None, IfSome, ap, sym, subst, append-nil, append_assoc}
use Rattle.std.proofs.lemmas.List.Elements.{All-cons, All-nil, All-append}
use Rattle.outside.specs.Lists.{Adds, Tells}
use Rattle.outside.specs.Told.{FloorTold, SameFloor}
use Rattle.outside.specs.Floor.{one_read, MayAnswer, file_at}
use Rattle.outside.specs.declared.answers.Read.{Read}
use Rattle.outside.specs.declared.floor.FloorRead.{FloorRead}
use Rattle.outside.specs.declared.floor.SourceFile.{SourceFile}
use Rattle.build_report.specs.declared.fault.RunFault.{RunFault}
use Rattle.build_report.specs.declared.fault.RunFault.TheVariants as fault
use Rattle.run_loading.specs.Reads.{AreOfFiles, Reads, UnlessBefore, OnLost}

-- ---- lists of reads

adds_none : (told : Option (List FloorRead)) → Adds [] told told
adds_none told = λ xs holds. subst (λ (ys : List FloorRead). Tells told ys) (sym (append-nil xs)) holds

adds_on : (first second : List FloorRead) (old mid new : Option (List FloorRead)) → Adds first old mid → Adds second mid new → Adds (first ++ second) old new
adds_on first second old mid new f s = λ zs holds. subst (λ (all : List FloorRead). Tells new all) (append_assoc zs first second) (s (zs ++ first) (f zs holds))

none_of_files : (files : Option (List SourceFile)) → AreOfFiles files []
none_of_files None = tt
none_of_files (Some fs) = All-nil (λ (r : FloorRead). MayAnswer (file_at fs r.path) r.answer)

one_of_files : (path : List ℕ) (answer : Read) (files : Option (List SourceFile)) → IfSome files (λ fs. MayAnswer (file_at fs path) answer) → AreOfFiles files (one_read path answer)
one_of_files path answer None h = tt
one_of_files path answer (Some fs) h = All-cons (λ (r : FloorRead). MayAnswer (file_at fs r.path) r.answer) (record { path = path; answer = answer }) [] h (All-nil (λ (r : FloorRead). MayAnswer (file_at fs r.path) r.answer))

both_of_files : (files : Option (List SourceFile)) (first second : List FloorRead) → AreOfFiles files first → AreOfFiles files second → AreOfFiles files (first ++ second)
both_of_files None first second h k = tt
both_of_files (Some fs) first second h k = All-append (λ (r : FloorRead). MayAnswer (file_at fs r.path) r.answer) first second h k

-- ---- what was read

-- one read
pub reads_one : (path : List ℕ) (answer : Read) (before after : FloorTold) (P : List FloorRead → Type 0)
    → Adds (one_read path answer) before.log after.log → IfSome before.files (λ fs. MayAnswer (file_at fs path) answer) → P (one_read path answer) → Reads before after P
reads_one path answer before after P logged of_files p = (one_read path answer, logged, one_of_files path answer before.files of_files, p)

-- nothing was read
pub reads_none : (told : FloorTold) (P : List FloorRead → Type 0) → P [] → Reads told told P
reads_none told P p = ([], adds_none told.log, none_of_files told.files, p)

pub reads_weaker : (before after : FloorTold) (P Q : List FloorRead → Type 0) → ((reads : List FloorRead) → P reads → Q reads) → Reads before after P → Reads before after Q
reads_weaker before after P Q f l = (l.0, l.1, l.2, f l.0 l.3)

-- reads and then further reads
pub reads_on : (before mid after : FloorTold) (P Q R : List FloorRead → Type 0) → SameFloor before mid → ((first second : List FloorRead) → P first → Q second → R (first ++ second)) → Reads before mid P → Reads mid after Q → Reads before after R
reads_on before mid after P Q R same f first second =
    let second_of = subst (λ (files : Option (List SourceFile)). AreOfFiles files second.0) (ap (λ g. g.files) same) second.2 in
    (first.0 ++ second.0, adds_on first.0 second.0 before.log mid.log after.log first.1 second.1, both_of_files before.files first.0 second.0 first.2 second_of, f first.0 second.0 first.3 second.3)

-- ---- the same unless memory ran out

pub unless_weaker : (end : Option RunFault) (P Q : Type 0) → (P → Q) → UnlessBefore end P → UnlessBefore end Q
unless_weaker None P Q f h = f h
unless_weaker (Some (fault.NoMemory when)) P Q f h = h
unless_weaker (Some (fault.Absent at)) P Q f h = f h
unless_weaker (Some (fault.FloorFailed at)) P Q f h = f h
unless_weaker (Some fault.SinkFailed) P Q f h = f h
unless_weaker (Some fault.Words) P Q f h = f h
unless_weaker (Some (fault.List x)) P Q f h = f h
unless_weaker (Some (fault.Flags a x)) P Q f h = f h

pub unless_reads_weaker : (end : Option RunFault) (before after : FloorTold) (P Q : List FloorRead → Type 0) → ((reads : List FloorRead) → P reads → Q reads)
    → UnlessBefore end (Reads before after P) → UnlessBefore end (Reads before after Q)
unless_reads_weaker end before after P Q f h = unless_weaker end (Reads before after P) (Reads before after Q) (reads_weaker before after P Q f) h

pub unless_reads_on : (end : Option RunFault) (before mid after : FloorTold) (P Q R : List FloorRead → Type 0) → SameFloor before mid → ((first second : List FloorRead) → P first → Q second → R (first ++ second))
    → Reads before mid P → UnlessBefore end (Reads mid after Q) → UnlessBefore end (Reads before after R)
unless_reads_on end before mid after P Q R same f first second = unless_weaker end (Reads mid after Q) (Reads before after R) (reads_on before mid after P Q R same f first) second

-- what holds of a read that wasn't found
pub lost_weaker : (f : RunFault) (P Q : List ℕ → Read → Type 0) → ((path : List ℕ) (answer : Read) → P path answer → Q path answer) → OnLost f P → OnLost f Q
lost_weaker (fault.Absent at) P Q g h = g at _ h
lost_weaker (fault.FloorFailed at) P Q g h = g at _ h
lost_weaker (fault.NoMemory when) P Q g h = absurd h
lost_weaker fault.SinkFailed P Q g h = absurd h
lost_weaker fault.Words P Q g h = absurd h
lost_weaker (fault.List x) P Q g h = absurd h
lost_weaker (fault.Flags a x) P Q g h = absurd h
