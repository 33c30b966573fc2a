-- There are at most as many lines, and as many Sends, as attempts: twice the plan's actions times its limit.
use Rattle.std.proofs.Common.{◌≡◌, ℕ, zero, suc, ◌+◌, ◌*◌, ◌<◌, ◌≤◌, ◌==◌, Bool, true, false, cond, List, [], ◌∷◌, length, Option, Some, None, inl, inr, refl, subst, arith}
use Rattle.std.proofs.lemmas.Bool.{cases_lt}
use Rattle.std.proofs.lemmas.Option.{slice_get_within}
use Rattle.run_plan.specs.declared.plan.Branch.{Branch}
use Rattle.run_plan.specs.declared.plan.Branch.TheVariants.{Local, Remote}
use Rattle.run_plan.specs.declared.plan.Plan.{Plan}
use Rattle.exec_journal.specs.declared.attempt.Attempt.{Attempt}
use Rattle.exec_journal.specs.Entry.{Entry}
use Rattle.exec_journal.specs.declared.reply.Reply.{Reply}
use Rattle.exec_journal.specs.declared.reply.Reply.TheVariants as reply
use Rattle.exec_journal.specs.History.{each}
use Rattle.list_lemmas.specs.Options.{and_more}
use Rattle.exec_journal.specs.Entries.{Request, attempt_of, is_branch_of, launch_in, send_in}
use Rattle.exec_journal.specs.Words.{line_count, sends, sent_on, was_sent}
use Rattle.exec_journal.specs.Attempts.{attempt, begun_in}
use Rattle.exec_journal.specs.Lawful.{Lawful}
use Rattle.exec_journal.specs.Facts.{begun, BeginsNext}
use Rattle.exec_journal.proofs.Ruled.{by_bool}
use Rattle.exec_journal.proofs.Begins.{begin_in_order, attempts_in_order, attempt_begun, attempt_other, is_branch_refl, same_attempt_refl}
use Rattle.journal_laws.proofs.Owed.{is_send}
use Rattle.journal_laws.proofs.Carried as k
use Rattle.journal_laws.proofs.Claims as c
use Rattle.journal_laws.proofs.Claims.{clash, false_by}
use Rattle.journal_laws.proofs.Firm as f
use Rattle.journal_laws.proofs.Stops as st
use Rattle.journal_laws.proofs.Requests as q

-- ---- sums

pub sum_below : (ℕ → ℕ) → ℕ → ℕ
sum_below g zero = 0
sum_below g (suc n) = g n + sum_below g n

sum_le : (g h : ℕ → ℕ) (n : ℕ) → ((i : ℕ) → g i ≤ h i) → sum_below g n ≤ sum_below h n
unfolding sum_below
sum_le g h zero le = omega arith
sum_le g h (suc n) le = let a = sum_le g h n le in let b = le n in omega arith

sum_more : (g h : ℕ → ℕ) (n a : ℕ) → a < n → ((i : ℕ) → g i ≤ h i) → g a + 1 ≤ h a → sum_below g n + 1 ≤ sum_below h n
unfolding sum_below
sum_more g h zero a lt le more = absurd (omega arith)
sum_more g h (suc n) a lt le more = elim (cases_lt a n) [
  | inl low ↦ (let x = sum_more g h n a low le more in let y = le n in omega arith)
  | inr high ↦ (let same : a ≡ n = omega arith in let x = sum_le g h n le in let y : g n + 1 ≤ h n = subst (λ i. g i + 1 ≤ h i) same more in omega arith)
]

sum_most : (g : ℕ → ℕ) (m n : ℕ) → ((i : ℕ) → g i ≤ m) → sum_below g n ≤ n * m
unfolding sum_below
sum_most g m zero le = omega arith
sum_most g m (suc n) le = let x = sum_most g m n le in let y = le n in omega arith

-- ---- attempts only grow

-- of each branch
pub attempt_grows : (p : Plan) (e : Entry) (j : List Entry) (a : ℕ) (b : Branch) → Lawful p (e ∷ j) → attempt j a b ≤ attempt (e ∷ j) a b
attempt_grows p e j a b legal = by (begun_in e.reply) refl
  where
    mine : (s : Attempt) → begun_in e.reply ≡ Some s → is_branch_of a b s ≡ true → st.BeginsIt j s → attempt j a b ≤ attempt (e ∷ j) a b
    mine s is same (st.New next) =
        let parts = st.branch_parts a b s same in
        let top : attempt (e ∷ j) a b ≡ s.number = attempt_begun e j a b s is same in
        let before : s.number ≡ attempt j a b + 1 = subst (λ (d : Branch). s.number ≡ attempt j a d + 1) parts.1 (subst (λ m. s.number ≡ attempt j m s.branch + 1) parts.0 next.next) in
        omega arith
    mine s is same (st.Again start latest) =
        let parts = st.branch_parts a b s same in
        let top : attempt (e ∷ j) a b ≡ s.number = attempt_begun e j a b s is same in
        let before : s.number ≡ attempt j a b = subst (λ (d : Branch). s.number ≡ attempt j a d) parts.1 (subst (λ m. s.number ≡ attempt j m s.branch) parts.0 latest) in
        omega arith

    by : (o : Option Attempt) → begun_in e.reply ≡ o → attempt j a b ≤ attempt (e ∷ j) a b
    by None is = let same : attempt (e ∷ j) a b ≡ attempt j a b = attempt_other e j a b (st.no_number e a b None is (λ s h. absurd (cc))) in omega arith
    by (Some s) is =
        by_bool (is_branch_of a b s) (λ z. is_branch_of a b s ≡ z → attempt j a b ≤ attempt (e ∷ j) a b)
        (λ _ same. mine s is same (st.begins_it j e.reply s (begin_in_order p (e ∷ j) legal).1 is))
        (λ _ off. let same : attempt (e ∷ j) a b ≡ attempt j a b = attempt_other e j a b (st.no_number e a b (Some s) is (λ x h. (let w : s ≡ x = cc in subst (λ (y : Attempt). is_branch_of a b y ≡ false) w off))) in omega arith) refl

-- the attempts of an action, and of all actions of the plan
pub attempts_of : List Entry → ℕ → ℕ
attempts_of j a = attempt j a Local + attempt j a Remote

pub attempts_made : Plan → List Entry → ℕ
attempts_made p j = sum_below (attempts_of j) (length p.actions)

attempts_grow : (p : Plan) (e : Entry) (j : List Entry) (a : ℕ) → Lawful p (e ∷ j) → attempts_of j a ≤ attempts_of (e ∷ j) a
unfolding attempts_of
attempts_grow p e j a legal = let x = attempt_grows p e j a Local legal in let y = attempt_grows p e j a Remote legal in omega arith

made_grows : (p : Plan) (e : Entry) (j : List Entry) → Lawful p (e ∷ j) → attempts_made p j ≤ attempts_made p (e ∷ j)
unfolding attempts_made
made_grows p e j legal = sum_le (attempts_of j) (attempts_of (e ∷ j)) (length p.actions) (λ a. attempts_grow p e j a legal)

new_attempt : (e : Entry) (j : List Entry) (s : Attempt) → begun_in e.reply ≡ Some s → BeginsNext j s → attempt j s.action s.branch + 1 ≤ attempt (e ∷ j) s.action s.branch
new_attempt e j s is next =
    let top : attempt (e ∷ j) s.action s.branch ≡ s.number = attempt_begun e j s.action s.branch s is (is_branch_refl s) in
    let n = next.next in omega arith

new_of_action : (p : Plan) (e : Entry) (j : List Entry) (s : Attempt) → Lawful p (e ∷ j) → begun_in e.reply ≡ Some s → BeginsNext j s → attempts_of j s.action + 1 ≤ attempts_of (e ∷ j) s.action
unfolding attempts_of
new_of_action p e j s legal is next = by s.branch refl
  where
    by : (b : Branch) → s.branch ≡ b → attempt j s.action Local + attempt j s.action Remote + 1 ≤ attempt (e ∷ j) s.action Local + attempt (e ∷ j) s.action Remote
    by Local same =
        let more : attempt j s.action Local + 1 ≤ attempt (e ∷ j) s.action Local = subst (λ (b : Branch). attempt j s.action b + 1 ≤ attempt (e ∷ j) s.action b) same (new_attempt e j s is next) in
        let y = attempt_grows p e j s.action Remote legal in omega arith
    by Remote same =
        let more : attempt j s.action Remote + 1 ≤ attempt (e ∷ j) s.action Remote = subst (λ (b : Branch). attempt j s.action b + 1 ≤ attempt (e ∷ j) s.action b) same (new_attempt e j s is next) in
        let y = attempt_grows p e j s.action Local legal in omega arith

begun_within : (p : Plan) (j : List Entry) (t : Attempt) → Lawful p j → begun j t ≡ true → t.action < length p.actions
begun_within p j t legal h = let has = f.going_ready_at p j t legal h in slice_get_within p.actions t.action has.action has.place

made_more : (p : Plan) (e : Entry) (j : List Entry) (s : Attempt) → Lawful p (e ∷ j) → begun_in e.reply ≡ Some s → BeginsNext j s → attempts_made p j + 1 ≤ attempts_made p (e ∷ j)
unfolding attempts_made
made_more p e j s legal is next =
    sum_more (attempts_of j) (attempts_of (e ∷ j)) (length p.actions) s.action (begun_within p (e ∷ j) s legal (st.begun_here e j s is))
    (λ a. attempts_grow p e j a legal) (new_of_action p e j s legal is next)

-- ---- lines

line_counted : (e : Entry) (j : List Entry) (o : Option (ℕ × Attempt)) → launch_in e.reply ≡ o → line_count (e ∷ j) ≡ length (and_more o (each (λ _ d. launch_in d.reply) j))
unfolding line_count
line_counted e j o is = rw is refl

pub lines_made : (p : Plan) (j : List Entry) → Lawful p j → line_count j ≤ attempts_made p j
unfolding line_count
lines_made p [] legal = omega arith
lines_made p (e ∷ j) legal = by (launch_in e.reply) refl (lines_made p j legal.0)
  where
    by : (o : Option (ℕ × Attempt)) → launch_in e.reply ≡ o → length (each (λ _ d. launch_in d.reply) j) ≤ attempts_made p j → length (and_more o (each (λ _ d. launch_in d.reply) j)) ≤ attempts_made p (e ∷ j)
    by None is ih = let g = made_grows p e j legal in omega arith
    by (Some x) is ih = let m = made_more p e j x.1 legal (c.launch_begins e.reply x is) (c.launch_next p e j x legal is) in omega arith

pub made_most : (p : Plan) (j : List Entry) → Lawful p j → 1 ≤ p.limit → attempts_made p j ≤ 2 * length p.actions * p.limit
unfolding attempts_made attempts_of
made_most p j legal least =
    let m = sum_most (attempts_of j) (p.limit + p.limit) (length p.actions) (λ a.
    (let order = attempts_in_order p j legal in let x = order.limited a Local least in let y = order.limited a Remote least in omega arith)) in omega arith

-- at a Launch there is room for one more line
pub launch_has_room : (p : Plan) (e : Entry) (j : List Entry) (x : ℕ × Attempt) → Lawful p (e ∷ j) → 1 ≤ p.limit → launch_in e.reply ≡ Some x → line_count j < 2 * length p.actions * p.limit
unfolding line_count
launch_has_room p e j x legal least is =
    let n = lines_made p j legal.0 in
    let m = made_more p e j x.1 legal (c.launch_begins e.reply x is) (c.launch_next p e j x legal is) in
    let most = made_most p (e ∷ j) legal least in
    omega arith

-- ---- Sends: each attempt is sent once

pub bit : Bool → ℕ
bit true = 1
bit false = 0

-- whether the attempt of the branch with the number i + 1 was sent
pub was_sent_bit : List Entry → ℕ → Branch → ℕ → ℕ
was_sent_bit j a b i = bit (was_sent j (attempt_of a b (i + 1)))

pub sent_of : Plan → List Entry → ℕ → ℕ
sent_of p j a = sum_below (was_sent_bit j a Local) p.limit + sum_below (was_sent_bit j a Remote) p.limit

pub sent_made : Plan → List Entry → ℕ
sent_made p j = sum_below (sent_of p j) (length p.actions)

bit_le : (x y : Bool) → (x ≡ true → y ≡ true) → bit x ≤ bit y
unfolding bit
bit_le true y f = rw (f refl) (omega arith)
bit_le false y f = omega arith

bit_most : (x : Bool) → bit x ≤ 1
unfolding bit
bit_most true = omega arith
bit_most false = omega arith

bits_grow : (e : Entry) (j : List Entry) (a : ℕ) (b : Branch) (i : ℕ) → was_sent_bit j a b i ≤ was_sent_bit (e ∷ j) a b i
unfolding was_sent_bit
bits_grow e j a b i = bit_le _ _ (λ h. k.sent_later e j (attempt_of a b (i + 1)) h)

branch_grows : (p : Plan) (e : Entry) (j : List Entry) (a : ℕ) (b : Branch) → sum_below (was_sent_bit j a b) p.limit ≤ sum_below (was_sent_bit (e ∷ j) a b) p.limit
branch_grows p e j a b = sum_le (was_sent_bit j a b) (was_sent_bit (e ∷ j) a b) p.limit (λ i. bits_grow e j a b i)

sent_grows : (p : Plan) (e : Entry) (j : List Entry) (a : ℕ) → sent_of p j a ≤ sent_of p (e ∷ j) a
unfolding sent_of
sent_grows p e j a = let x = branch_grows p e j a Local in let y = branch_grows p e j a Remote in omega arith

sent_made_grows : (p : Plan) (e : Entry) (j : List Entry) → sent_made p j ≤ sent_made p (e ∷ j)
unfolding sent_made
sent_made_grows p e j = sum_le (sent_of p j) (sent_of p (e ∷ j)) (length p.actions) (λ a. sent_grows p e j a)

bit_new : (e : Entry) (j : List Entry) (a : ℕ) (b : Branch) (i : ℕ) → was_sent j (attempt_of a b (i + 1)) ≡ false → was_sent (e ∷ j) (attempt_of a b (i + 1)) ≡ true → was_sent_bit j a b i + 1 ≤ was_sent_bit (e ∷ j) a b i
unfolding was_sent_bit bit
bit_new e j a b i h y = rw (h, y) (omega arith)

branch_more : (p : Plan) (e : Entry) (j : List Entry) (t : Attempt) → 1 ≤ t.number → t.number ≤ p.limit → was_sent j t ≡ false → was_sent (e ∷ j) t ≡ true
    → sum_below (was_sent_bit j t.action t.branch) p.limit + 1 ≤ sum_below (was_sent_bit (e ∷ j) t.action t.branch) p.limit
branch_more p e j t low high un sent = by t.number refl
  where
    by : (n : ℕ) → t.number ≡ n → sum_below (was_sent_bit j t.action t.branch) p.limit + 1 ≤ sum_below (was_sent_bit (e ∷ j) t.action t.branch) p.limit
    by zero is = absurd (omega arith)
    by (suc i) is =
        let n : t.number ≡ i + 1 = omega arith in
        sum_more (was_sent_bit j t.action t.branch) (was_sent_bit (e ∷ j) t.action t.branch) p.limit i (omega arith) (λ m. bits_grow e j t.action t.branch m)
        (bit_new e j t.action t.branch i (subst (λ m. was_sent j (attempt_of t.action t.branch m) ≡ false) n un) (subst (λ m. was_sent (e ∷ j) (attempt_of t.action t.branch m) ≡ true) n sent))

sent_more : (p : Plan) (e : Entry) (j : List Entry) (t : Attempt) → 1 ≤ t.number → t.number ≤ p.limit → was_sent j t ≡ false → was_sent (e ∷ j) t ≡ true → sent_of p j t.action + 1 ≤ sent_of p (e ∷ j) t.action
unfolding sent_of
sent_more p e j t low high un sent = by t.branch refl
  where
    by : (b : Branch) → t.branch ≡ b → sum_below (was_sent_bit j t.action Local) p.limit + sum_below (was_sent_bit j t.action Remote) p.limit + 1 ≤ sum_below (was_sent_bit (e ∷ j) t.action Local) p.limit + sum_below (was_sent_bit (e ∷ j) t.action Remote) p.limit
    by Local same =
        let more = subst (λ (b : Branch). sum_below (was_sent_bit j t.action b) p.limit + 1 ≤ sum_below (was_sent_bit (e ∷ j) t.action b) p.limit) same (branch_more p e j t low high un sent) in
        let y = branch_grows p e j t.action Remote in omega arith
    by Remote same =
        let more = subst (λ (b : Branch). sum_below (was_sent_bit j t.action b) p.limit + 1 ≤ sum_below (was_sent_bit (e ∷ j) t.action b) p.limit) same (branch_more p e j t low high un sent) in
        let y = branch_grows p e j t.action Local in omega arith

send_more : (p : Plan) (e : Entry) (j : List Entry) (x : Request) → Lawful p (e ∷ j) → 1 ≤ p.limit → send_in e.reply ≡ Some x → sent_made p j + 1 ≤ sent_made p (e ∷ j)
unfolding sent_made
send_more p e j x legal least is =
    let t = x.attempt in
    let sends_it : is_send t e ≡ true = rw is (same_attempt_refl t) in
    let it = k.send_of j e.reply t (begin_in_order p (e ∷ j) legal).1 sends_it in
    let un = k.unsent_by j it.request.line t it.begins in
    let sent = sent_now e j x is in
    let start = k.sent_begun (e ∷ j) t sent in
    let order = attempts_in_order p (e ∷ j) legal in
    let range = order.numbered t start in
    let most = order.limited t.action t.branch least in
    let low = range.0 in let high = range.1 in
    sum_more (sent_of p j) (sent_of p (e ∷ j)) (length p.actions) t.action (begun_within p (e ∷ j) t legal start)
    (λ a. sent_grows p e j a) (sent_more p e j t low (omega arith) un sent)
  where
    sent_now : (e : Entry) (j : List Entry) (x : Request) → send_in e.reply ≡ Some x → was_sent (e ∷ j) x.attempt ≡ true
    sent_now e j x h = q.sent_now e j x h

pub sends_made : (p : Plan) (j : List Entry) → Lawful p j → 1 ≤ p.limit → length (each (λ _ e. send_in e.reply) j) ≤ sent_made p j
sends_made p [] legal least = omega arith
sends_made p (e ∷ j) legal least = by (send_in e.reply) refl (sends_made p j legal.0 least)
  where
    by : (o : Option Request) → send_in e.reply ≡ o → length (each (λ _ d. send_in d.reply) j) ≤ sent_made p j → length (and_more o (each (λ _ d. send_in d.reply) j)) ≤ sent_made p (e ∷ j)
    by None is ih = let g = sent_made_grows p e j in omega arith
    by (Some x) is ih = let m = send_more p e j x legal least is in omega arith

pub sent_most : (p : Plan) (j : List Entry) → sent_made p j ≤ 2 * length p.actions * p.limit
unfolding sent_made sent_of was_sent_bit
sent_most p j =
    let m = sum_most (λ a. sum_below (λ i. bit (was_sent j (attempt_of a Local (i + 1)))) p.limit + sum_below (λ i. bit (was_sent j (attempt_of a Remote (i + 1)))) p.limit) (p.limit + p.limit) (length p.actions)
    (λ a. (let x = sum_most (λ i. bit (was_sent j (attempt_of a Local (i + 1)))) 1 p.limit (λ i. bit_most _) in let y = sum_most (λ i. bit (was_sent j (attempt_of a Remote (i + 1)))) 1 p.limit (λ i. bit_most _) in omega arith)) in omega arith

one_more_send : (l : ℕ) (x : Reply) (xs ys : List Request) → length xs ≤ length ys → length (and_more (sent_on l x) xs) ≤ length (and_more (send_in x) ys)
one_more_send l (reply.Send m n a b t) xs ys le =
    by_bool (m == l) (λ z. length (and_more (cond z (send_in (reply.Send m n a b t)) None) xs) ≤ length (record { line = m; number = n; attempt = attempt_of a b t } ∷ ys)) (λ _. omega arith) (λ _. omega arith)
one_more_send l _ xs ys le = le

pub line_sends : (j : List Entry) (l : ℕ) → length (sends j l) ≤ length (each (λ _ e. send_in e.reply) j)
unfolding sends
line_sends [] l = omega arith
line_sends (e ∷ j) l = one_more_send l e.reply (each (λ _ d. sent_on l d.reply) j) (each (λ _ d. send_in d.reply) j) (line_sends j l)

-- at a Send there is room for one more request, on whichever line
pub send_has_room : (p : Plan) (e : Entry) (j : List Entry) (x : Request) (l : ℕ) → Lawful p (e ∷ j) → 1 ≤ p.limit → send_in e.reply ≡ Some x → length (sends j l) < 2 * length p.actions * p.limit
send_has_room p e j x l legal least is =
    let a = line_sends j l in
    let b = sends_made p j legal.0 least in
    let m = send_more p e j x legal least is in
    let most = sent_most p (e ∷ j) in
    omega arith
