-- `same_reply` holds of equal replies alone, and of all of them.
use Rattle.std.proofs.Common.{◌≡◌, ◌==◌, Bool, true, false, ◌&&◌, refl, ℤ}
use Rattle.std.specs.Ordering.{int_eq}
use Rattle.std.proofs.lemmas.Bool.{eqb-true, eq-eqb, and_parts, and_from}
use Rattle.std.proofs.lemmas.Bool.Decides.{Decides-int_eq}
use Rattle.std.proofs.lemmas.Slice.Eq.{bytes_eq-Decides}
use Rattle.exec_journal.specs.declared.reply.Reply.{Reply}
use Rattle.exec_journal.specs.declared.reply.Reply.TheVariants as reply
use Rattle.exec_journal.specs.declared.reply.BreachWhy.{BreachWhy}
use Rattle.exec_journal.specs.declared.reply.BreachWhy.TheVariants as breach
use Rattle.exec_journal.specs.declared.reply.StrayWhy.{StrayWhy}
use Rattle.exec_journal.specs.declared.reply.StrayWhy.TheVariants as stray
use Rattle.exec_journal.specs.declared.reply.Why.{Why}
use Rattle.exec_journal.specs.declared.reply.Why.TheVariants as why
use Rattle.exec_journal.specs.Entries.{attempt_of, same_attempt}
use Rattle.exec_journal.specs.Same.{same_flag, same_why, same_stray, same_breach, same_reply}
use Rattle.exec_journal.proofs.Begins.{same_attempt_eq, same_attempt_refl}

pub flag_eq : (x y : Bool) → same_flag x y ≡ true → x ≡ y
flag_eq true true h = refl
flag_eq false false h = refl
flag_eq true false h = absurd (cc)
flag_eq false true h = absurd (cc)

pub flag_refl : (x : Bool) → same_flag x x ≡ true
flag_refl true = refl
flag_refl false = refl

pub why_eq : (x y : Why) → same_why x y ≡ true → x ≡ y
why_eq why.Ended why.Ended h = refl
why_eq why.Breach why.Breach h = refl
why_eq why.Feed why.Feed h = refl
why_eq why.Unwanted why.Unwanted h = refl
why_eq why.Quit why.Quit h = refl
why_eq why.Evicted why.Evicted h = refl
why_eq _ _ h = absurd (cc)

pub why_refl : (x : Why) → same_why x x ≡ true
why_refl why.Ended = refl
why_refl why.Breach = refl
why_refl why.Feed = refl
why_refl why.Unwanted = refl
why_refl why.Quit = refl
why_refl why.Evicted = refl

pub stray_eq : (x y : StrayWhy) → same_stray x y ≡ true → x ≡ y
stray_eq stray.Never stray.Never h = refl
stray_eq stray.Closed stray.Closed h = refl
stray_eq _ _ h = absurd (cc)

pub stray_refl : (x : StrayWhy) → same_stray x x ≡ true
stray_refl stray.Never = refl
stray_refl stray.Closed = refl

pub breach_eq : (x y : BreachWhy) → same_breach x y ≡ true → x ≡ y
breach_eq breach.Broken breach.Broken h = refl
breach_eq breach.WrongNumber breach.WrongNumber h = refl
breach_eq breach.Unasked breach.Unasked h = refl
breach_eq breach.NotCancelled breach.NotCancelled h = refl
breach_eq _ _ h = absurd (cc)

pub breach_refl : (x : BreachWhy) → same_breach x x ≡ true
breach_refl breach.Broken = refl
breach_refl breach.WrongNumber = refl
breach_refl breach.Unasked = refl
breach_refl breach.NotCancelled = refl

int_refl : (n : ℤ) → int_eq n n ≡ true
int_refl n = (Decides-int_eq n n).1 refl

pub reply_refl : (x : Reply) → same_reply x x ≡ true
unfolding same_reply
reply_refl (reply.Launch l a b t) = and_from _ _ (eq-eqb l l refl) (same_attempt_refl (attempt_of a b t))
reply_refl (reply.Send l n a b t) =
    and_from _ _ (eq-eqb l l refl) (and_from _ _ (int_refl n) (same_attempt_refl (attempt_of a b t)))
reply_refl (reply.Cancel l n) = and_from _ _ (eq-eqb l l refl) (int_refl n)
reply_refl (reply.Gather l n a b t e r) =
    and_from _ _
    (and_from _ _ (eq-eqb l l refl) (and_from _ _ (int_refl n) (same_attempt_refl (attempt_of a b t))))
    (and_from _ _ (int_refl e) (flag_refl r))
reply_refl (reply.Kill l y) = and_from _ _ (eq-eqb l l refl) (why_refl y)
reply_refl reply.Stop = refl
reply_refl reply.Idle = refl
reply_refl reply.Noted = refl
reply_refl (reply.File content) = (bytes_eq-Decides content content).1 refl
reply_refl reply.NoFile = refl
reply_refl reply.Granted = refl
reply_refl reply.Lost = refl
reply_refl reply.Dropped = refl
reply_refl reply.AgainLater = refl
reply_refl (reply.Line l) = eq-eqb l l refl
reply_refl (reply.Matched a b t) = same_attempt_refl (attempt_of a b t)
reply_refl (reply.Late a b t) = same_attempt_refl (attempt_of a b t)
reply_refl reply.Greeted = refl
reply_refl (reply.Stray y) = stray_refl y
reply_refl (reply.Breach y) = breach_refl y
reply_refl reply.Astray = refl
reply_refl reply.NoMemory = refl

pub reply_eq : (x y : Reply) → same_reply x y ≡ true → x ≡ y
unfolding same_reply
reply_eq (reply.Launch l a b t) (reply.Launch m c d u) h =
    let s = and_parts (l == m) _ h in
    let line = eqb-true l m s.0 in
    let attempt = same_attempt_eq (attempt_of a b t) (attempt_of c d u) s.1 in
    λ i. reply.Launch (line i) (attempt i).action (attempt i).branch (attempt i).number
reply_eq (reply.Send l n a b t) (reply.Send m o c d u) h =
    let s = and_parts (l == m) _ h in
    let r = and_parts (int_eq n o) _ s.1 in
    let line = eqb-true l m s.0 in
    let number = (Decides-int_eq n o).0 r.0 in
    let attempt = same_attempt_eq (attempt_of a b t) (attempt_of c d u) r.1 in
    λ i. reply.Send (line i) (number i) (attempt i).action (attempt i).branch (attempt i).number
reply_eq (reply.Cancel l n) (reply.Cancel m o) h =
    let s = and_parts (l == m) _ h in
    let line = eqb-true l m s.0 in
    let number = (Decides-int_eq n o).0 s.1 in
    λ i. reply.Cancel (line i) (number i)
reply_eq (reply.Gather l n a b t e r) (reply.Gather m o c d u f k) h =
    let s = and_parts ((l == m) && (int_eq n o && same_attempt (attempt_of a b t) (attempt_of c d u))) _ h in
    let x = and_parts (l == m) _ s.0 in
    let y = and_parts (int_eq n o) _ x.1 in
    let z = and_parts (int_eq e f) _ s.1 in
    let line = eqb-true l m x.0 in
    let number = (Decides-int_eq n o).0 y.0 in
    let attempt = same_attempt_eq (attempt_of a b t) (attempt_of c d u) y.1 in
    let exit = (Decides-int_eq e f).0 z.0 in
    let refused = flag_eq r k z.1 in
    λ i. reply.Gather (line i) (number i) (attempt i).action (attempt i).branch (attempt i).number (exit i) (refused i)
reply_eq (reply.Kill l y) (reply.Kill m z) h =
    let s = and_parts (l == m) _ h in
    let line = eqb-true l m s.0 in
    let reason = why_eq y z s.1 in
    λ i. reply.Kill (line i) (reason i)
reply_eq reply.Stop reply.Stop h = refl
reply_eq reply.Idle reply.Idle h = refl
reply_eq reply.Noted reply.Noted h = refl
reply_eq (reply.File content) (reply.File other) h =
    let same = (bytes_eq-Decides content other).0 h in λ i. reply.File (same i)
reply_eq reply.NoFile reply.NoFile h = refl
reply_eq reply.Granted reply.Granted h = refl
reply_eq reply.Lost reply.Lost h = refl
reply_eq reply.Dropped reply.Dropped h = refl
reply_eq reply.AgainLater reply.AgainLater h = refl
reply_eq (reply.Line l) (reply.Line m) h = let line = eqb-true l m h in λ i. reply.Line (line i)
reply_eq (reply.Matched a b t) (reply.Matched c d u) h =
    let attempt = same_attempt_eq (attempt_of a b t) (attempt_of c d u) h in
    λ i. reply.Matched (attempt i).action (attempt i).branch (attempt i).number
reply_eq (reply.Late a b t) (reply.Late c d u) h =
    let attempt = same_attempt_eq (attempt_of a b t) (attempt_of c d u) h in
    λ i. reply.Late (attempt i).action (attempt i).branch (attempt i).number
reply_eq reply.Greeted reply.Greeted h = refl
reply_eq (reply.Stray y) (reply.Stray z) h = let reason = stray_eq y z h in λ i. reply.Stray (reason i)
reply_eq (reply.Breach y) (reply.Breach z) h = let reason = breach_eq y z h in λ i. reply.Breach (reason i)
reply_eq reply.Astray reply.Astray h = refl
reply_eq reply.NoMemory reply.NoMemory h = refl
reply_eq _ _ h = absurd (cc)
