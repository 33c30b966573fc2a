-- A reply that was told is the one that was given, and is kept.
use Rattle.std.proofs.Common.{◌≡◌, ℕ, ℤ, Bool, true, ◌==◌, refl, ap, ◌∙◌}
use Rattle.std.specs.Ordering.{int_eq}
use Rattle.std.proofs.lemmas.Bool.{eqb-true, eq-eqb, and_parts, and_from}
use Rattle.std.proofs.lemmas.Bool.Decides.{Decides-int_eq}
use Rattle.exec_journal.specs.declared.attempt.Attempt.{Attempt}
use Rattle.exec_journal.specs.declared.reply.BreachWhy.{BreachWhy}
use Rattle.exec_journal.specs.declared.reply.Reply.{Reply}
use Rattle.exec_journal.specs.declared.reply.Reply.TheVariants as reply
use Rattle.exec_journal.specs.declared.reply.StrayWhy.{StrayWhy}
use Rattle.exec_journal.specs.declared.reply.Why.{Why}
use Rattle.exec_journal.specs.Entries.{attempt_of, is_kept}
use Rattle.exec_journal.proofs.Begins.{same_attempt_eq, same_attempt_refl}
use Rattle.exec_journal.proofs.Same.{flag_eq, flag_refl, why_eq, why_refl, stray_eq, stray_refl, breach_eq, breach_refl}
use Rattle.journal_replay.specs.Same.{is_breach, is_cancel, is_gather, is_kill, is_late, is_launch, is_line, is_matched, is_send, is_stray, is_told, is_stop, is_noted, is_granted, is_lost, is_dropped, is_again_later, is_greeted}

int_same : (m n : ℤ) → int_eq m n ≡ true → m ≡ n
int_same m n h = (Decides-int_eq m n).0 h

int_refl : (n : ℤ) → int_eq n n ≡ true
int_refl n = (Decides-int_eq n n).1 refl

count_refl : (n : ℕ) → (n == n) ≡ true
count_refl n = eq-eqb n n refl

-- ---- each reply

launch_eq : (l : ℕ) (s : Attempt) (r : Reply) → is_launch l s r ≡ true → r ≡ reply.Launch l s.action s.branch s.number
launch_eq l s (reply.Launch m a b t) h =
    let p = and_parts _ _ h in
    let at : m ≡ l = eqb-true _ _ p.0 in
    let is : attempt_of a b t ≡ s = same_attempt_eq _ _ p.1 in
    ap (λ (k : ℕ). reply.Launch k a b t) at ∙ ap (λ (u : Attempt). reply.Launch l u.action u.branch u.number) is
launch_eq l s _ h = absurd (cc)

send_eq : (l : ℕ) (n : ℤ) (s : Attempt) (r : Reply) → is_send l n s r ≡ true → r ≡ reply.Send l n s.action s.branch s.number
send_eq l n s (reply.Send m o a b t) h =
    let p = and_parts _ _ h in
    let q = and_parts _ _ p.1 in
    let at : m ≡ l = eqb-true _ _ p.0 in
    let of : o ≡ n = int_same _ _ q.0 in
    let is : attempt_of a b t ≡ s = same_attempt_eq _ _ q.1 in
    ap (λ (k : ℕ). reply.Send k o a b t) at ∙ ap (λ (k : ℤ). reply.Send l k a b t) of ∙ ap (λ (u : Attempt). reply.Send l n u.action u.branch u.number) is
send_eq l n s _ h = absurd (cc)

cancel_eq : (l : ℕ) (n : ℤ) (r : Reply) → is_cancel l n r ≡ true → r ≡ reply.Cancel l n
cancel_eq l n (reply.Cancel m o) h =
    let p = and_parts _ _ h in
    let at : m ≡ l = eqb-true _ _ p.0 in
    let of : o ≡ n = int_same _ _ p.1 in
    ap (λ (k : ℕ). reply.Cancel k o) at ∙ ap (λ (k : ℤ). reply.Cancel l k) of
cancel_eq l n _ h = absurd (cc)

gather_eq : (l : ℕ) (n : ℤ) (s : Attempt) (e : ℤ) (d : Bool) (r : Reply) → is_gather l n s e d r ≡ true → r ≡ reply.Gather l n s.action s.branch s.number e d
gather_eq l n s e d (reply.Gather m o a b t f q) h =
    let p1 = and_parts _ _ h in
    let p2 = and_parts _ _ p1.1 in
    let p3 = and_parts _ _ p2.1 in
    let p4 = and_parts _ _ p3.1 in
    let at : m ≡ l = eqb-true _ _ p1.0 in
    let of : o ≡ n = int_same _ _ p2.0 in
    let is : attempt_of a b t ≡ s = same_attempt_eq _ _ p3.0 in
    let exit : f ≡ e = int_same _ _ p4.0 in
    let flag : q ≡ d = flag_eq _ _ p4.1 in
    ap (λ (k : ℕ). reply.Gather k o a b t f q) at ∙ ap (λ (k : ℤ). reply.Gather l k a b t f q) of
    ∙ ap (λ (u : Attempt). reply.Gather l n u.action u.branch u.number f q) is
    ∙ ap (λ (k : ℤ). reply.Gather l n s.action s.branch s.number k q) exit
    ∙ ap (λ (k : Bool). reply.Gather l n s.action s.branch s.number e k) flag
gather_eq l n s e d _ h = absurd (cc)

kill_eq : (l : ℕ) (y : Why) (r : Reply) → is_kill l y r ≡ true → r ≡ reply.Kill l y
kill_eq l y (reply.Kill m z) h =
    let p = and_parts _ _ h in
    let at : m ≡ l = eqb-true _ _ p.0 in
    let so : z ≡ y = why_eq _ _ p.1 in
    ap (λ (k : ℕ). reply.Kill k z) at ∙ ap (λ (k : Why). reply.Kill l k) so
kill_eq l y _ h = absurd (cc)

line_eq : (l : ℕ) (r : Reply) → is_line l r ≡ true → r ≡ reply.Line l
line_eq l (reply.Line m) h = ap (λ (k : ℕ). reply.Line k) (eqb-true _ _ h)
line_eq l _ h = absurd (cc)

matched_eq : (s : Attempt) (r : Reply) → is_matched s r ≡ true → r ≡ reply.Matched s.action s.branch s.number
matched_eq s (reply.Matched a b t) h = ap (λ (u : Attempt). reply.Matched u.action u.branch u.number) (same_attempt_eq _ _ h)
matched_eq s _ h = absurd (cc)

late_eq : (s : Attempt) (r : Reply) → is_late s r ≡ true → r ≡ reply.Late s.action s.branch s.number
late_eq s (reply.Late a b t) h = ap (λ (u : Attempt). reply.Late u.action u.branch u.number) (same_attempt_eq _ _ h)
late_eq s _ h = absurd (cc)

stray_told : (y : StrayWhy) (r : Reply) → is_stray y r ≡ true → r ≡ reply.Stray y
stray_told y (reply.Stray z) h = ap (λ (k : StrayWhy). reply.Stray k) (stray_eq _ _ h)
stray_told y _ h = absurd (cc)

breach_told : (y : BreachWhy) (r : Reply) → is_breach y r ≡ true → r ≡ reply.Breach y
breach_told y (reply.Breach z) h = ap (λ (k : BreachWhy). reply.Breach k) (breach_eq _ _ h)
breach_told y _ h = absurd (cc)

stop_told : (r : Reply) → is_stop r ≡ true → r ≡ reply.Stop
stop_told reply.Stop h = refl
stop_told _ h = absurd (cc)

noted_told : (r : Reply) → is_noted r ≡ true → r ≡ reply.Noted
noted_told reply.Noted h = refl
noted_told _ h = absurd (cc)

granted_told : (r : Reply) → is_granted r ≡ true → r ≡ reply.Granted
granted_told reply.Granted h = refl
granted_told _ h = absurd (cc)

lost_told : (r : Reply) → is_lost r ≡ true → r ≡ reply.Lost
lost_told reply.Lost h = refl
lost_told _ h = absurd (cc)

dropped_told : (r : Reply) → is_dropped r ≡ true → r ≡ reply.Dropped
dropped_told reply.Dropped h = refl
dropped_told _ h = absurd (cc)

again_told : (r : Reply) → is_again_later r ≡ true → r ≡ reply.AgainLater
again_told reply.AgainLater h = refl
again_told _ h = absurd (cc)

greeted_told : (r : Reply) → is_greeted r ≡ true → r ≡ reply.Greeted
greeted_told reply.Greeted h = refl
greeted_told _ h = absurd (cc)

-- ---- all replies

pub told_is : (x r : Reply) → is_told x r ≡ true → (r ≡ x) × (is_kept x ≡ true)
told_is (reply.Launch l a b t) r h = (launch_eq l (attempt_of a b t) r h, refl)
told_is (reply.Send l n a b t) r h = (send_eq l n (attempt_of a b t) r h, refl)
told_is (reply.Cancel l n) r h = (cancel_eq l n r h, refl)
told_is (reply.Gather l n a b t e d) r h = (gather_eq l n (attempt_of a b t) e d r h, refl)
told_is (reply.Kill l y) r h = (kill_eq l y r h, refl)
told_is (reply.Line l) r h = (line_eq l r h, refl)
told_is (reply.Matched a b t) r h = (matched_eq (attempt_of a b t) r h, refl)
told_is (reply.Late a b t) r h = (late_eq (attempt_of a b t) r h, refl)
told_is (reply.Stray y) r h = (stray_told y r h, refl)
told_is (reply.Breach y) r h = (breach_told y r h, refl)
told_is reply.Stop r h = (stop_told r h, refl)
told_is reply.Noted r h = (noted_told r h, refl)
told_is reply.Granted r h = (granted_told r h, refl)
told_is reply.Lost r h = (lost_told r h, refl)
told_is reply.Dropped r h = (dropped_told r h, refl)
told_is reply.AgainLater r h = (again_told r h, refl)
told_is reply.Greeted r h = (greeted_told r h, refl)
told_is reply.Idle r h = absurd (cc)
told_is (reply.File content) r h = absurd (cc)
told_is reply.NoFile r h = absurd (cc)
told_is reply.NoMemory r h = absurd (cc)
told_is reply.Astray r h = absurd (cc)

pub kept_told : (x : Reply) → is_kept x ≡ true → is_told x x ≡ true
kept_told (reply.Launch l a b t) h = and_from _ _ (count_refl l) (same_attempt_refl (attempt_of a b t))
kept_told (reply.Send l n a b t) h = and_from _ _ (count_refl l) (and_from _ _ (int_refl n) (same_attempt_refl (attempt_of a b t)))
kept_told (reply.Cancel l n) h = and_from _ _ (count_refl l) (int_refl n)
kept_told (reply.Gather l n a b t e d) h =
    and_from _ _ (count_refl l) (and_from _ _ (int_refl n) (and_from _ _ (same_attempt_refl (attempt_of a b t)) (and_from _ _ (int_refl e) (flag_refl d))))
kept_told (reply.Kill l y) h = and_from _ _ (count_refl l) (why_refl y)
kept_told (reply.Line l) h = count_refl l
kept_told (reply.Matched a b t) h = same_attempt_refl (attempt_of a b t)
kept_told (reply.Late a b t) h = same_attempt_refl (attempt_of a b t)
kept_told (reply.Stray y) h = stray_refl y
kept_told (reply.Breach y) h = breach_refl y
kept_told reply.Stop h = refl
kept_told reply.Noted h = refl
kept_told reply.Granted h = refl
kept_told reply.Lost h = refl
kept_told reply.Dropped h = refl
kept_told reply.AgainLater h = refl
kept_told reply.Greeted h = refl
kept_told reply.Idle h = absurd (cc)
kept_told (reply.File content) h = absurd (cc)
kept_told reply.NoFile h = absurd (cc)
kept_told reply.NoMemory h = absurd (cc)
kept_told reply.Astray h = absurd (cc)
