-- A lane's newest work: which lane may answer an order, and what stays so until it does.
use Rattle.std.proofs.Common.{◌≡◌, ℕ, ◌*◌, ◌/◌, ◌%◌, ◌==◌, nat_lt, Bool, true, false, ◌&&◌, ◌||◌, not, cond, List, [], ◌∷◌, Option, Some, None, option_map, ◌⊎◌, inl, inr, refl, sym, subst, ◌∙◌}
use Rattle.std.proofs.lemmas.Bool.{eqb-true, eq-eqb, and_parts, and_from, or_cases, or_left, or_right}
use Rattle.run_plan.specs.declared.plan.Branch.{Branch}
use Rattle.run_plan.specs.declared.plan.Kind.{Kind}
use Rattle.run_plan.specs.declared.plan.Kind.TheVariants as kind
use Rattle.run_plan.specs.declared.plan.Plan.{Plan}
use Rattle.exec_journal.specs.declared.attempt.Attempt.{Attempt}
use Rattle.exec_journal.specs.Entry.{Entry}
use Rattle.exec_journal.specs.declared.call.Call.{Call}
use Rattle.exec_journal.specs.declared.call.Call.TheVariants as call
use Rattle.exec_journal.specs.declared.call.Found.{Found}
use Rattle.exec_journal.specs.declared.call.CommitEnd.{CommitEnd}
use Rattle.exec_journal.specs.declared.call.Started.{Started}
use Rattle.exec_journal.specs.declared.reply.Reply.{Reply}
use Rattle.exec_journal.specs.declared.reply.Reply.TheVariants as reply
use Rattle.exec_journal.specs.History.{ever, latest, AtEach}
use Rattle.list_lemmas.specs.Options.{or_else}
use Rattle.exec_journal.specs.Entries.{attempt_of, same_attempt, is_for, is_look, is_halt, send_in, gather_in, orders_kill}
use Rattle.exec_journal.specs.Words.{last_work, work_at, stopped, has_halted}
use Rattle.exec_journal.specs.Lawful as lw
use Rattle.exec_journal.specs.Scripts as s
use Rattle.exec_journal.proofs.Ruled.{by_bool}
use Rattle.exec_journal.proofs.Begins.{same_attempt_eq, same_branch_refl}

-- neither a Look nor a Halt
abbrev pub is_work : Call → Bool
is_work c = not (is_look c) && not (is_halt c)

-- the newest work after an entry is that entry, or what it was before
pub newest_cases : (e : Entry) (j : List Entry) (lane : ℕ) (d : Entry) → last_work (e ∷ j) lane ≡ Some d
    → ((e ≡ d) × (e.lane ≡ lane) × (is_work e.call ≡ true)) ⊎ ((((e.lane == lane) && is_work e.call) ≡ false) × (last_work j lane ≡ Some d))
unfolding last_work
newest_cases e j lane d h =
    by_bool ((e.lane == lane) && is_work e.call)
    (λ b. or_else (cond b (Some e) None) (latest (λ _ x. work_at lane x) j) ≡ Some d
    → ((e ≡ d) × (e.lane ≡ lane) × (is_work e.call ≡ true)) ⊎ ((((e.lane == lane) && is_work e.call) ≡ false) × (last_work j lane ≡ Some d)))
    (λ yes k. let parts = and_parts (e.lane == lane) _ yes in inl (cc, eqb-true e.lane lane parts.0, parts.1))
    (λ no k. inr (no, k)) h

-- an entry that is no work of the lane changes nothing
pub newest_other : (e : Entry) (j : List Entry) (lane : ℕ) → ((e.lane == lane) && is_work e.call) ≡ false → last_work (e ∷ j) lane ≡ last_work j lane
unfolding last_work
newest_other e j lane h = rw h refl

pub newest_own : (e : Entry) (j : List Entry) → is_work e.call ≡ true → last_work (e ∷ j) e.lane ≡ Some e
unfolding last_work
newest_own e j h = let own : ((e.lane == e.lane) && is_work e.call) ≡ true = and_from _ _ (eq-eqb e.lane e.lane refl) h in rw own refl

pub newest_lane : (j : List Entry) (lane : ℕ) (d : Entry) → last_work j lane ≡ Some d → d.lane ≡ lane
unfolding last_work
newest_lane [] lane d h = absurd (cc)
newest_lane (e ∷ j) lane d h = elim (newest_cases e j lane d h) [
  | inl here ↦ subst (λ (x : Entry). x.lane ≡ lane) here.0 here.1
  | inr before ↦ newest_lane j lane d before.1
]

-- ---- orders that are given once

-- at an entry that passes the test, none before it does
abbrev pub Once : (Entry → Bool) → List Entry → Entry → Type 0
Once q k e = q e ≡ true → ever (λ _ d. q d) k ≡ false

pub newest_ever : (q : Entry → Bool) (j : List Entry) (lane : ℕ) (d : Entry) → last_work j lane ≡ Some d → q d ≡ true → ever (λ _ x. q x) j ≡ true
unfolding last_work
newest_ever q [] lane d h y = absurd (cc)
newest_ever q (e ∷ j) lane d h y = by (newest_cases e j lane d h) (λ k. newest_ever q j lane d k y)
  where
    by : ((e ≡ d) × (e.lane ≡ lane) × (is_work e.call ≡ true)) ⊎ ((((e.lane == lane) && is_work e.call) ≡ false) × (last_work j lane ≡ Some d))
        → (last_work j lane ≡ Some d → ever (λ _ x. q x) j ≡ true) → (q e || ever (λ _ x. q x) j) ≡ true
    by (inl here) f = or_left (q e) _ (subst (λ x. q x ≡ true) (sym here.0) y)
    by (inr before) f = or_right (q e) _ (f before.1)

-- only one lane can have it as its newest work
pub one_lane : (q : Entry → Bool) (j : List Entry) → AtEach (Once q) j → (m n : ℕ) (c d : Entry) → last_work j m ≡ Some c → last_work j n ≡ Some d
    → q c ≡ true → q d ≡ true → m ≡ n
unfolding last_work
one_lane q [] all m n c d h k y z = absurd (cc)
one_lane q (e ∷ j) all m n c d h k y z = by (newest_cases e j m c h) (newest_cases e j n d k) (λ f g. one_lane q j all.0 m n c d f g y z)
  where
    clash : (lane : ℕ) (x v : Entry) → e ≡ x → q x ≡ true → last_work j lane ≡ Some v → q v ≡ true → ⊥
    clash lane x v same a f b =
        let some = newest_ever q j lane v f b in
        let none = all.1 (subst (λ u. q u ≡ true) (sym same) a) in
        let both : true ≡ false = sym some ∙ none in cc

    by : ((e ≡ c) × (e.lane ≡ m) × (is_work e.call ≡ true)) ⊎ ((((e.lane == m) && is_work e.call) ≡ false) × (last_work j m ≡ Some c))
        → ((e ≡ d) × (e.lane ≡ n) × (is_work e.call ≡ true)) ⊎ ((((e.lane == n) && is_work e.call) ≡ false) × (last_work j n ≡ Some d))
        → (last_work j m ≡ Some c → last_work j n ≡ Some d → m ≡ n) → m ≡ n
    by (inl a) (inl b) f = sym a.1 ∙ b.1
    by (inl a) (inr b) f = absurd (clash n c d a.0 y b.1 z)
    by (inr a) (inl b) f = absurd (clash m d c b.0 z a.1 y)
    by (inr a) (inr b) f = f a.1 b.1

-- the entry is not the answer of a lane whose newest work passes the test
abbrev pub Leaves : (Entry → Bool) → List Entry → Entry → Type 0
Leaves q k e = (d : Entry) → last_work k e.lane ≡ Some d → q d ≡ true → is_work e.call ≡ true → ⊥

-- what comes with the order, and stays but for the answer of its lane
pub record Keeps (q : Entry → Bool) (P : List Entry → Type 0) (k : List Entry) (e : Entry) : Type 0 where
  pub begin : q e ≡ true → P (e ∷ k)
  pub stay : P k → Leaves q k e → P (e ∷ k)

-- holds as long as the order is its lane's newest work
pub while_owed : (q : Entry → Bool) (P : List Entry → Type 0) (j : List Entry) → AtEach (Once q) j → AtEach (Keeps q P) j
    → (lane : ℕ) (d : Entry) → last_work j lane ≡ Some d → q d ≡ true → P j
unfolding last_work
while_owed q P [] once all lane d h y = absurd (cc)
while_owed q P (e ∷ j) once all lane d h y = by (newest_cases e j lane d h) (λ k. while_owed q P j once.0 all.0 lane d k y)
  where
    by : ((e ≡ d) × (e.lane ≡ lane) × (is_work e.call ≡ true)) ⊎ ((((e.lane == lane) && is_work e.call) ≡ false) × (last_work j lane ≡ Some d))
        → (last_work j lane ≡ Some d → P j) → P (e ∷ j)
    by (inl here) f = all.1.begin (subst (λ x. q x ≡ true) (sym here.0) y)
    by (inr before) f =
        all.1.stay (f before.1) (λ c k z work.
        let same = one_lane q j once.0 e.lane lane c d k before.1 z y in
        let yes : ((e.lane == lane) && is_work e.call) ≡ true = and_from _ _ (eq-eqb e.lane lane same) work in
        let both : true ≡ false = sym yes ∙ before.0 in cc)

-- ---- which order a call answers

-- what is owed, what a lane's newest work allows, or a Tick
pub scripted_by : (p : Plan) (j : List Entry) (lane : ℕ) (c : Call) → lw.in_script p j lane c ≡ true
    → (s.is_owed_commit c (last_work j lane) ≡ true) ⊎ ((lw.may_tick (lane % 2 == 0) (last_work j lane) c || s.allowed p kind.Single (lane % 2 == 0) (last_work j lane) c) ≡ true)
scripted_by p j lane c h =
    let running = (and_parts (not (stopped j lane)) _ h).1 in
    by_bool (has_halted j lane)
    (λ b. cond b (s.is_owed_commit c (last_work j lane)) (lw.may_tick (lane % 2 == 0) (last_work j lane) c || s.allowed p kind.Single (lane % 2 == 0) (last_work j lane) c) ≡ true
    → (s.is_owed_commit c (last_work j lane) ≡ true) ⊎ ((lw.may_tick (lane % 2 == 0) (last_work j lane) c || s.allowed p kind.Single (lane % 2 == 0) (last_work j lane) c) ≡ true))
    (λ _ g. inl g) (λ _ g. inr g) running

abbrev pub is_tick : Call → Bool
is_tick call.Tick = true
is_tick _ = false

ticks_none : (proxy : Bool) (o : Option Entry) (c : Call) → is_tick c ≡ false → lw.may_tick proxy o c ≡ false
ticks_none proxy o call.Tick h = absurd (cc)
ticks_none proxy o _ h = refl

tick_is : (proxy : Bool) (o : Option Entry) (c : Call) → lw.may_tick proxy o c ≡ true → (c ≡ call.Tick) × (proxy ≡ true) × (s.may_ask o ≡ true)
tick_is proxy o call.Tick h = let parts = and_parts proxy _ h in (refl, parts.0, parts.1)
tick_is proxy o _ h = absurd (cc)

-- a Tick comes from a lane that may ask
pub data Scripted (p : Plan) (j : List Entry) (lane : ℕ) (c : Call) : Type 0 where
  Owes : s.is_owed_commit c (last_work j lane) ≡ true → Scripted p j lane c
  May : s.allowed p kind.Single (lane % 2 == 0) (last_work j lane) c ≡ true → Scripted p j lane c
  Ticks : c ≡ call.Tick → (lane % 2 == 0) ≡ true → s.may_ask (last_work j lane) ≡ true → Scripted p j lane c

pub scripts : (p : Plan) (j : List Entry) (lane : ℕ) (c : Call) → lw.in_script p j lane c ≡ true → Scripted p j lane c
scripts p j lane c h = elim (scripted_by p j lane c h) [
  | inl owes ↦ Owes owes
  | inr rest ↦ elim (or_cases (lw.may_tick (lane % 2 == 0) (last_work j lane) c) _ rest) [
    | inl tick ↦ (let t = tick_is (lane % 2 == 0) (last_work j lane) c tick in Ticks t.0 t.1 t.2)
    | inr may ↦ May may
  ]
]

pub scripted : (p : Plan) (j : List Entry) (lane : ℕ) (c : Call) → is_tick c ≡ false → lw.in_script p j lane c ≡ true
    → (s.is_owed_commit c (last_work j lane) ≡ true) ⊎ (s.allowed p kind.Single (lane % 2 == 0) (last_work j lane) c ≡ true)
scripted p j lane c n h = elim (scripted_by p j lane c h) [
  | inl owes ↦ inl owes
  | inr rest ↦ inr (subst (λ b. (b || s.allowed p kind.Single (lane % 2 == 0) (last_work j lane) c) ≡ true) (ticks_none (lane % 2 == 0) (last_work j lane) c n) rest)
]

-- the newest work of the lane, whose reply orders this
pub record Answers (j : List Entry) (lane : ℕ) (q : Entry → Bool) : Type 0 where
  pub order : Entry
  pub newest : last_work j lane ≡ Some order
  pub fits : q order ≡ true

answers_by : (j : List Entry) (lane : ℕ) (p : Plan) (k : Kind) (c : Call) (q : Entry → Bool) (o : Option Entry) → last_work j lane ≡ o
    → ((d : Entry) → (s.is_owed p k c d.reply || s.is_owed_commit c (Some d)) ≡ true → q d ≡ true) → s.is_owed_after p k c o ≡ true → Answers j lane q
answers_by j lane p k c q None is f h = absurd (cc)
answers_by j lane p k c q (Some d) is f h = record { order = d; newest = is; fits = f d h }

abbrev pub launches_line : ℕ → Reply → Bool
launches_line l (reply.Launch m a b t) = m == l
launches_line l _ = false

abbrev pub is_launch : ℕ → Entry → Bool
is_launch l d = launches_line l d.reply

abbrev pub is_send : Attempt → Entry → Bool
is_send t d = is_for t (option_map (λ q. q.attempt) (send_in d.reply))

abbrev pub is_gather : Attempt → Entry → Bool
is_gather t d = is_for t (gather_in d.reply)

abbrev pub is_kill : ℕ → Entry → Bool
is_kill l d = orders_kill l d.reply

abbrev pub is_commit_grant : ℕ → Branch → Entry → Bool
is_commit_grant a b d = s.is_commit_of a b d.call d.reply

-- a line's Launched answers its Launch
pub launched_answers : (p : Plan) (j : List Entry) (lane l : ℕ) (how : Started) → lw.in_script p j lane (call.Launched l how) ≡ true → Answers j lane (is_launch l)
launched_answers p j lane l how h = elim (scripted p j lane (call.Launched l how) refl h) [
  | inl n ↦ absurd (cc)
  | inr y ↦ answers_by j lane p kind.Single (call.Launched l how) (is_launch l) (last_work j lane) refl (λ d g. of_reply d.reply g) (and_parts (lane % 2 == 0) _ y).1
]
  where
    of_reply : (x : Reply) → (s.is_owed p kind.Single (call.Launched l how) x || false) ≡ true → launches_line l x ≡ true
    of_reply (reply.Launch m a b t) g = elim (or_cases (m == l) false g) [ inl y ↦ y | inr n ↦ absurd (cc) ]
    of_reply _ g = absurd (cc)

-- its Killed answers its Kill
pub killed_answers : (p : Plan) (j : List Entry) (lane l : ℕ) → lw.in_script p j lane (call.Killed l) ≡ true → Answers j lane (is_kill l)
killed_answers p j lane l h = elim (scripted p j lane (call.Killed l) refl h) [
  | inl n ↦ absurd (cc)
  | inr y ↦ answers_by j lane p kind.Single (call.Killed l) (is_kill l) (last_work j lane) refl (λ d g. of_reply d.reply g) (and_parts (lane % 2 == 0) _ y).1
]
  where
    of_reply : (x : Reply) → (s.is_owed p kind.Single (call.Killed l) x || false) ≡ true → orders_kill l x ≡ true
    of_reply (reply.Kill m y) g = elim (or_cases (m == l) false g) [ inl y ↦ y | inr n ↦ absurd (cc) ]
    of_reply _ g = absurd (cc)

-- an attempt's Claim answers its Gather
pub claim_answers : (p : Plan) (j : List Entry) (lane a : ℕ) (b : Branch) (t : ℕ) (f : Found) → lw.in_script p j lane (call.Claim a b t f) ≡ true → Answers j lane (is_gather (attempt_of a b t))
claim_answers p j lane a b t f h = elim (scripted p j lane (call.Claim a b t f) refl h) [
  | inl n ↦ absurd (cc)
  | inr y ↦ answers_by j lane p kind.Single (call.Claim a b t f) (is_gather (attempt_of a b t)) (last_work j lane) refl (λ d g. of_reply d.reply g) (and_parts (lane % 2 == 0) _ y).1
]
  where
    of_reply : (x : Reply) → (s.is_owed p kind.Single (call.Claim a b t f) x || false) ≡ true → is_for (attempt_of a b t) (gather_in x) ≡ true
    of_reply (reply.Gather l n c d u e v) g = elim (or_cases (same_attempt (attempt_of a b t) (attempt_of c d u) && _) false g) [
      | inl y ↦ (let same : attempt_of a b t ≡ attempt_of c d u = same_attempt_eq (attempt_of a b t) (attempt_of c d u) (and_parts _ _ y).0 in
          subst (λ (v : Attempt). same_attempt v (attempt_of a b t) ≡ true) same (and_from _ _ (eq-eqb a a refl) (and_from _ _ (same_branch_refl b) (eq-eqb t t refl))))
      | inr n ↦ absurd (cc)
    ]
    of_reply _ g = absurd (cc)

-- a Committed answers the grant of files
pub commit_answers : (p : Plan) (j : List Entry) (lane a : ℕ) (b : Branch) (how : CommitEnd) → lw.in_script p j lane (call.Committed a b how) ≡ true → Answers j lane (is_commit_grant a b)
commit_answers p j lane a b how h = elim (scripted p j lane (call.Committed a b how) refl h) [
  | inl owes ↦ of_last (last_work j lane) refl owes
  | inr y ↦ answers_by j lane p kind.Single (call.Committed a b how) (is_commit_grant a b) (last_work j lane) refl (λ d g. of_entry d g) (and_parts (lane % 2 == 0) _ y).1
]
  where
    of_last : (o : Option Entry) → last_work j lane ≡ o → s.owes_commit a b o ≡ true → Answers j lane (is_commit_grant a b)
    of_last None is g = absurd (cc)
    of_last (Some d) is g = record { order = d; newest = is; fits = g }

    of_entry : (d : Entry) → (s.is_owed p kind.Single (call.Committed a b how) d.reply || s.is_commit_of a b d.call d.reply) ≡ true → s.is_commit_of a b d.call d.reply ≡ true
    of_entry d g = of_reply d.reply g
      where
        of_reply : (x : Reply) → (s.is_owed p kind.Single (call.Committed a b how) x || s.is_commit_of a b d.call d.reply) ≡ true → s.is_commit_of a b d.call d.reply ≡ true
        of_reply _ g = g
