-- What was heard of a line, piece by piece.
use Rattle.std.proofs.Common.{◌≡◌, ℕ, ◌+◌, ◌-◌, ◌^◌, ◌<◌, ◌≤◌, min, Bool, false, List, [], ◌++◌, take, length, Option, Some, None, refl, ap, sym, ◌∙◌, subst, append_assoc, append-nil, arith, length-append, length-take}
use Rattle.std.specs.Prelude.{IfSome}
use Rattle.outside.specs.Causes.{Rose}
use Rattle.outside.specs.Lists.{Tells, Adds, SaysStill}
use Rattle.outside.specs.Told.{TapTold}
use Rattle.run_plan.specs.declared.plan.Speech.{Speech}
use Rattle.exec_journal.specs.declared.call.Answer.{Answer}
use Rattle.exec_journal.specs.declared.call.HowEnded.{HowEnded}
use Rattle.core_contract.specs.Moves.{History}
use Rattle.tap_lane.specs.Heard.{AreAnswers, SaysTo, StandsAt, HasHeard}

pub told_so : {X : Type 0} (o : Option (List X)) (xs : List X) (P : List X → Type 0) → Tells o xs
    → P xs → IfSome o P
told_so None xs P e p = tt
told_so (Some ys) xs P e p = subst P (sym e) p

pub told_nothing : {X : Type 0} (old new : Option (List X)) (xs : List X) → Adds [] old new
    → Tells old xs → Tells new xs
told_nothing {X} old new xs adds e =
    subst (λ (ys : List X). Tells new ys) (append-nil xs) (adds xs e)

pub rose_above : (before now : ℕ) → Rose before now → 0 < now
rose_above before now r = let m : min (before + 1) (2 ^ 64 - 1) ≤ now = r in omega arith

-- one piece more, of one read more
pub one_more : (fed into : List ℕ) (n counter : ℕ) → 0 < n → n ≤ length into
    → counter ≤ length fed → counter + 1 ≤ length (fed ++ take n into)
one_more fed into n counter some fits so =
    omega (arith, length-append fed (take n into), length-take n into)

-- after which some were taken
pub some_taken : (o : Option (List ℕ)) (fed into : List ℕ) (n : ℕ) → 0 < n → n ≤ length into
    → Tells o (fed ++ take n into) → IfSome o (λ bytes. 0 < length bytes)
some_taken o fed into n some fits taken =
    told_so o (fed ++ take n into) (λ bytes. 0 < length bytes) taken
    (omega (arith, length-append fed (take n into), length-take n into))

-- a read that doesn't answer End leaves an open tap open
pub still_open : (old new : Option Bool) → SaysStill old new → IfSome old (λ b. b ≡ false)
    → IfSome new (λ b. b ≡ false)
still_open old None still was = tt
still_open old (Some b) still was =
    subst (λ (o : Option Bool). IfSome o (λ x. x ≡ false)) (still b refl) was

pub listened : (s : Speech) (l : ℕ) (t : TapTold) (how : Option HowEnded) (fed : List ℕ)
    (answers : List Answer) (made own own' : History) → Tells t.taken fed
    → AreAnswers l made answers → IfSome t.line (λ n. n ≡ l) → SaysTo s how fed answers
    → StandsAt how t → own' ≡ own ++ made → HasHeard s l t how own own'
listened s l t how fed answers made own own' taken are line says stands grown = (
  made,
  record {
    answers = answers;
    are = are;
    of_line = line;
    says = told_so t.taken fed (λ bytes. SaysTo s how bytes answers) taken says;
    stands = stands;
  },
  grown,
)

pub on_line : (old new : Option ℕ) (l : ℕ) → new ≡ old → IfSome old (λ n. n ≡ l)
    → IfSome new (λ n. n ≡ l)
on_line old new l same is = subst (λ (o : Option ℕ). IfSome o (λ n. n ≡ l)) (sym same) is

pub grown_on : (own own' own'' made more : History) → own' ≡ own ++ made → own'' ≡ own' ++ more
    → own'' ≡ own ++ (made ++ more)
grown_on own own' own'' made more e f =
    f ∙ (ap (λ (h : History). h ++ more) e ∙ append_assoc own made more)
