-- Laws of the states of a mailbox.
use Rattle.std.proofs.Common.{◌≡◌, ℕ, ◌+◌, ◌≤◌, ◌==◌, ◌&&◌, Bool, true, false, cond}
use Rattle.std.proofs.Common.{List, [], ◌∷◌, ◌++◌}
use Rattle.std.proofs.Common.{Option, Some, None, refl, ap, ◌∙◌, arith}
use Rattle.std.proofs.lemmas.List.Sums.{fold-append}
use Rattle.plain_values.specs.declared.entry.Entry.{Entry}
use Rattle.seat_desk.specs.History.{entry}
use Rattle.message_box.specs.declared.mailbox.Stop.{Stop}
use Rattle.message_box.specs.declared.mailbox.Ask.{Ask}
use Rattle.message_box.specs.declared.mailbox.Ask.TheVariants as ask
use Rattle.message_box.specs.declared.mailbox.Answer.{Answer}
use Rattle.message_box.specs.declared.mailbox.Answer.TheVariants as answer
use Rattle.message_box.specs.States.{State, taker, is_kept, is_short, not_stopped, taken_from}
use Rattle.message_box.specs.States.{reads, answer_to, moved, state_then, state_of, first, owed_in}
use Rattle.message_box.specs.States.{IsPaid, MayBeShort}

false_not_true : false ≡ true → ⊥
false_not_true e = cc

pub short_not_kept : (a : Answer) → is_short a ≡ true → is_kept a ≡ false
short_not_kept answer.Done h = absurd (false_not_true h)
short_not_kept answer.Open h = refl
short_not_kept answer.Idle h = refl
short_not_kept (answer.Stopped stop) h = refl
short_not_kept answer.Gone h = refl
short_not_kept answer.NoRoom h = refl

one_of : (b : Bool) (x y : Answer) → is_short x ≡ false → is_short y ≡ false
    → is_short (cond b x y) ≡ false
one_of true x y p q = p
one_of false x y p q = q

take_not_short : {X : Type 0} (xs : List X) (o : Option Stop) → is_short (taken_from xs o) ≡ false
take_not_short (x ∷ xs) o = refl
take_not_short [] None = refl
take_not_short [] (Some stop) = refl

pub never_short : {X : Type 0} (s : State X) (lane : ℕ) (c : Ask X)
    → is_short (answer_to s lane c) ≡ false
never_short s lane (ask.Put batch) =
    one_of s.left answer.Gone _ refl (one_of (reads s lane) answer.Done answer.Gone refl refl)
never_short s lane (ask.Stop stop) =
    one_of s.left answer.Gone _ refl (one_of (reads s lane) answer.Done answer.Gone refl refl)
never_short s lane ask.Take = one_of s.left answer.Gone _ refl
    (one_of (lane == taker) _ answer.Gone (take_not_short s.waiting s.stop) refl)
never_short s lane ask.Leave =
    one_of s.left answer.Gone _ refl (one_of (lane == taker) answer.Done answer.Gone refl refl)
never_short s lane ask.Room = one_of s.left answer.Gone _ refl (one_of _ answer.Open answer.Idle
    refl refl)
never_short s lane ask.Left = one_of s.left answer.Gone answer.Idle refl refl

may_not : {X : Type 0} (c : Ask X) → IsPaid c → MayBeShort c → ⊥
may_not (ask.Put batch) p m = p
may_not (ask.Stop stop) p m = m
may_not ask.Take p m = m
may_not ask.Leave p m = m
may_not ask.Room p m = m
may_not ask.Left p m = m

pub paid_not_short : {X : Type 0} (s : State X) (lane : ℕ) (c : Ask X) → IsPaid c
    → (MayBeShort c → ⊥) × (is_short (answer_to s lane c) ≡ false)
paid_not_short s lane c p = (may_not c p, never_short s lane c)

pays_stop : (left mine : Bool) (o : Option Stop)
    → is_kept (cond left answer.Gone (cond (mine && not_stopped o) answer.Done answer.Gone)) ≡ true
    → (0 + cond left 0 1) + 1 ≡ cond (not_stopped o) 1 0 + cond left 0 1
pays_stop true mine o k = absurd (false_not_true k)
pays_stop false false o k = absurd (false_not_true k)
pays_stop false true None k = refl
pays_stop false true (Some stop) k = absurd (false_not_true k)

pays_leave : (left mine : Bool) (n : ℕ)
    → is_kept (cond left answer.Gone (cond mine answer.Done answer.Gone)) ≡ true
    → (n + 0) + 1 ≡ n + cond left 0 1
pays_leave true mine n k = absurd (false_not_true k)
pays_leave false mine n k = omega arith

not_kept : (left b : Bool) → is_kept (cond left answer.Gone (cond b answer.Open answer.Idle)) ≡ true
    → ⊥
not_kept true b k = false_not_true k
not_kept false true k = false_not_true k
not_kept false false k = false_not_true k

left_not_kept : (left : Bool) → is_kept (cond left answer.Gone answer.Idle) ≡ true → ⊥
left_not_kept true k = false_not_true k
left_not_kept false k = false_not_true k

pays : {X : Type 0} (s : State X) (lane : ℕ) (c : Ask X) → IsPaid c
    → is_kept (answer_to s lane c) ≡ true → owed_in (moved s c) + 1 ≡ owed_in s
pays s lane (ask.Put batch) p k = absurd p
pays s lane (ask.Stop stop) p k = pays_stop s.left (lane == 0) s.stop k
pays s lane ask.Take p k = absurd p
pays s lane ask.Leave p k = pays_leave s.left (lane == taker) (cond (not_stopped s.stop) 1 0) k
pays s lane ask.Room p k = absurd (not_kept s.left _ k)
pays s lane ask.Left p k = absurd (left_not_kept s.left k)

-- the state after one entry more
pub one_more : {X : Type 0} (h : List (Entry (Ask X) Answer)) (e : Entry (Ask X) Answer)
    → state_of (h ++ e ∷ []) ≡ state_then (state_of h) e
one_more {X} h e = fold-append (λ (s : State X) (x : Entry (Ask X) Answer). state_then s x) first h
    (e ∷ [])

pub pays_one : {X : Type 0} (h : List (Entry (Ask X) Answer)) (lane : ℕ) (c : Ask X) → IsPaid c
    → is_kept (answer_to (state_of h) lane c) ≡ true
    → owed_in (state_of (h ++ entry lane c (answer_to (state_of h) lane c) ∷ [])) + 1
    ≡ owed_in (state_of h)
pays_one {X} h lane c p k =
    ap (λ (s : State X). owed_in s + 1) (one_more h (entry lane c (answer_to (state_of h) lane c))
    ∙ ap (λ (b : Bool). cond b (moved (state_of h) c) (state_of h)) k)
    ∙ pays (state_of h) lane c p k

few : (a b : Bool) → cond a 1 0 + cond b 0 1 ≤ 2
few true true = omega arith
few true false = omega arith
few false true = omega arith
few false false = omega arith

pub owes_two : {X : Type 0} (h : List (Entry (Ask X) Answer)) (lane : ℕ) (c : Ask X)
    → owed_in (state_of (h ++ entry lane c (answer_to (state_of h) lane c) ∷ []))
    ≤ owed_in (state_of h) + 2
owes_two {X} h lane c =
    let s = state_of (h ++ entry lane c (answer_to (state_of h) lane c) ∷ []) in
    omega (arith, few (not_stopped s.stop) s.left)
