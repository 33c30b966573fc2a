-- Readings that are passed on, and those of a part from which those of the whole follow.
use Rattle.std.proofs.Common.{◌≡◌, ℕ, ◌≤◌, List, Option, None, Result, Ok, Err, sym, subst}
use Rattle.std.specs.Result.{IsErr, IsErrAnd}
use Rattle.journal_reading.specs.declared.misread.Misread.{Misread}
use Rattle.journal_reading.specs.declared.misread.Misread.TheVariants as misread
use Rattle.json.specs.Token.{Token}
use Rattle.serde_json.specs.Data.{Data}
use Rattle.journal_reading.specs.Pulls.{PullsFront, pull_row}
use Rattle.journal_reading.specs.Readings.{Misreads, ReadsAs}

-- where nothing is due of the part, nothing is due of the whole
pub misread_by : {X Y : Type 0} (e : Misread) (part : Option X) (all : Option Y) → Misreads e part → (part ≡ None → all ≡ None) → Misreads e all
misread_by misread.Otherwise part all m f = f m
misread_by misread.NoMemory part all m f = tt

-- a misreading that `?` passes on
pub passed_on : {A B : Type 0} (see : A → B) (r : Result A Misread) (e : Misread) (due : Option B) → IsErr r × IsErrAnd r (λ x. x ≡ e) → Misreads e due → ReadsAs see r due
passed_on see (Ok x) e due g m = absurd g.1
passed_on see (Err x) e due g m = subst (λ y. Misreads y due) (sym g.1) m

pub along : {A B : Type 0} (see : A → B) (r : Result A Misread) (due other : Option B) → due ≡ other → ReadsAs see r other → ReadsAs see r due
along see r due other same read = subst (ReadsAs see r) (sym same) read

-- the same of a front of a row
pub front_passed_on : {A : Type 0} (deep : ℕ) (f : List Data → Option (A × List Data)) (old new : List Token) (r : Result A Misread) (e : Misread) → IsErr r × IsErrAnd r (λ x. x ≡ e) → ((d : ℕ) → deep ≤ d → Misreads e (pull_row f d old)) → PullsFront deep f r old new
front_passed_on deep f old new (Ok x) e g m = absurd g.1
front_passed_on deep f old new (Err misread.Otherwise) misread.Otherwise g m = m
front_passed_on deep f old new (Err misread.Otherwise) misread.NoMemory g m = absurd (cc (g.1))
front_passed_on deep f old new (Err misread.NoMemory) e g m = tt

pub front_misread : {A : Type 0} (deep : ℕ) (f : List Data → Option (A × List Data)) (e : Misread) (old new : List Token) (d : ℕ) → PullsFront deep f (Err e) old new → deep ≤ d → Misreads e (pull_row f d old)
front_misread deep f misread.Otherwise old new d m enough = m d enough
front_misread deep f misread.NoMemory old new d m enough = tt
