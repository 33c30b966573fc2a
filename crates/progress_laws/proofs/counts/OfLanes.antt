-- Each lane leaves once; an action has one Committed; and there are no more reports than orders.
use Rattle.std.proofs.Common.{◌≡◌, ℕ, zero, suc, ◌+◌, ◌%◌, ◌<◌, ◌≤◌, ◌==◌, Bool, true, false, ◌&&◌, ◌||◌, not, cond, List, [], ◌∷◌, length, Option, Some, None, inl, inr, refl, ap, subst, ◌∙◌, arith}
use Rattle.std.specs.Prelude.{count_by}
use Rattle.std.proofs.lemmas.Bool.{and_from, and_parts, cases_lt, eq-eqb, ne_eqb, or_cases, or_left, or_right}
use Rattle.run_plan.specs.declared.plan.Branch.{Branch}
use Rattle.run_plan.specs.declared.plan.Kind.TheVariants as kind
use Rattle.run_plan.specs.declared.plan.Plan.{Plan}
use Rattle.exec_journal.specs.declared.call.Call.{Call}
use Rattle.exec_journal.specs.declared.call.Call.TheVariants as call
use Rattle.exec_journal.specs.declared.call.CommitEnd.{CommitEnd}
use Rattle.exec_journal.specs.declared.reply.Reply.{Reply}
use Rattle.exec_journal.specs.declared.reply.Reply.TheVariants as reply
use Rattle.exec_journal.specs.Entry.{Entry}
use Rattle.exec_journal.specs.History.{AtEach}
use Rattle.exec_journal.specs.Entries.{is_halt, is_stop}
use Rattle.exec_journal.specs.Lawful as lw
use Rattle.exec_journal.specs.Lawful.{Lawful, in_script}
use Rattle.exec_journal.specs.Race.{committed, commits, race_at, has_grant_of}
use Rattle.exec_journal.specs.Scripts as sc
use Rattle.exec_journal.specs.Words.{has_halted, last_work, stopped}
use Rattle.exec_journal.proofs.Ruled.{by_bool, not_true}
use Rattle.journal_laws.proofs.Claims.{clash, false_by}
use Rattle.journal_laws.proofs.Lanes.{is_order}
use Rattle.journal_laws.proofs.Owed as o
use Rattle.journal_laws.proofs.Owed.{is_work}
use Rattle.journal_laws.proofs.Races.{race}
use Rattle.call_laws.proofs.Calls as ca
use Rattle.progress_laws.specs.Few.{AllWithin}
use Rattle.progress_laws.proofs.counts.Sorts.{is_commit, is_leave, is_report}
use Rattle.progress_laws.proofs.counts.Tallies.{Tells, among_numbers, bit, bit_le, count-cons, each_lawful, few, numbers, numbers_length}

-- ---- Committeds

commit_is : (d : Call) → is_commit d ≡ true → (a : ℕ) × (b : Branch) × (how : CommitEnd)
    × (d ≡ call.Committed a b how)
commit_is (call.Committed a b how) h = (a, b, how, refl)
commit_is _ h = absurd (cc)

committed_here : (e : Entry) (j : List Entry) (a : ℕ) → commits a e.call ≡ true
    → committed (e ∷ j) a ≡ true
unfolding committed
committed_here e j a h = or_left (commits a e.call) _ h

committed_later : (e : Entry) (j : List Entry) (a : ℕ) → committed j a ≡ true
    → committed (e ∷ j) a ≡ true
unfolding committed
committed_later e j a h = or_right (commits a e.call) _ h

pub commits_few : (p : Plan) (j : List Entry) → Lawful p j
    → count_by (λ e. is_commit e.call) j ≤ length p.actions
commits_few p j legal =
    subst (λ n. count_by (λ e. is_commit e.call) j ≤ n) (numbers_length (length p.actions))
    (few (numbers (length p.actions)) (λ e. is_commit e.call) committed j
    (each_lawful p (Tells (numbers (length p.actions))
    (λ e. is_commit e.call) committed) one j legal))
  where
    one : (e : Entry) (i : List Entry) → Lawful p (e ∷ i)
        → Tells (numbers (length p.actions)) (λ d. is_commit d.call) committed i e
    one e i lawful = record {
      stays = λ a h. committed_later e i a h;
      first = λ h.
          let x = commit_is e.call h in
          let may : in_script p i e.lane (call.Committed x.0 x.1 x.2) ≡ true =
          subst (λ (d : Call). in_script p i e.lane d ≡ true) x.3 lawful.1.scripted in
          let won : race_at i e.lane (call.Committed x.0 x.1 x.2) e.reply ≡ true =
          subst (λ (d : Call). race_at i e.lane d e.reply ≡ true) x.3 (race p (e ∷ i) lawful).1 in
          record {
            thing = x.0;
            among = among_numbers x.0 (length p.actions)
                (ca.commit_within p i e.lane x.0 x.1 x.2 lawful.0 may);
            before = not_true _ (and_parts (has_grant_of i e.lane x.0 x.1) _ won).1;
            now = committed_here e i x.0 (ap (commits x.0) x.3 ∙ eq-eqb x.0 x.0 refl);
          };
    }

-- ---- lanes leave

has_left : List Entry → ℕ → Bool
has_left j lane = stopped j lane || has_halted j lane

left_later : (e : Entry) (j : List Entry) (lane : ℕ) → has_left j lane ≡ true
    → has_left (e ∷ j) lane ≡ true
unfolding has_left stopped has_halted
left_later e j lane h = elim (or_cases (stopped j lane) _ h) [
  | inl told ↦ or_left _ _ (or_right ((e.lane == lane) && is_stop e.reply) _ told)
  | inr gone ↦ or_right (stopped (e ∷ j) lane) _
      (or_right ((e.lane == lane) && is_halt e.call) _ gone)
]

left_here : (e : Entry) (j : List Entry) → is_leave e.call e.reply ≡ true
    → has_left (e ∷ j) e.lane ≡ true
unfolding has_left stopped has_halted
left_here e j h = elim (or_cases (is_halt e.call) _ h) [
  | inl halts ↦ or_right (stopped (e ∷ j) e.lane) _
      (or_left _ (has_halted j e.lane) (and_from _ _ (eq-eqb e.lane e.lane refl) halts))
  | inr stops ↦ or_left _ _
      (or_left _ (stopped j e.lane) (and_from _ _ (eq-eqb e.lane e.lane refl) stops))
]

-- an owed Committed is no way to leave
stays_on : (p : Plan) (j : List Entry) (lane : ℕ) (d : Call) (x : Reply) (last : Option Entry)
    → sc.is_owed_commit d last ≡ true → lw.Told p j lane d x
    → is_leave d x ≡ true → ⊥
stays_on p j lane (call.Committed a b how) x last owed told h =
    (let n : is_stop reply.Noted ≡ true = subst (λ (y : Reply). is_stop y ≡ true) told h in cc)
stays_on p j lane call.Ask x last owed told h = cc
stays_on p j lane (call.Launched l how) x last owed told h = cc
stays_on p j lane (call.Wrote l n how) x last owed told h = cc
stays_on p j lane (call.Look w) x last owed told h = cc
stays_on p j lane (call.Claim a b t f) x last owed told h = cc
stays_on p j lane (call.Killed l) x last owed told h = cc
stays_on p j lane call.Take x last owed told h = cc
stays_on p j lane (call.Answer l y) x last owed told h = cc
stays_on p j lane (call.Ended l how) x last owed told h = cc
stays_on p j lane call.Tick x last owed told h = cc
stays_on p j lane call.Halt x last owed told h = cc

-- a lane that leaves hasn't left
still_there : (p : Plan) (e : Entry) (j : List Entry) → Lawful p (e ∷ j)
    → is_leave e.call e.reply ≡ true → has_left j e.lane ≡ false
unfolding has_left
still_there p e j legal h =
    let runs = and_parts (not (stopped j e.lane)) _ legal.1.scripted in
    by_bool (has_halted j e.lane)
    (λ b. cond b (sc.is_owed_commit e.call (last_work j e.lane))
    (lw.may_tick (e.lane % 2 == 0) (last_work j e.lane) e.call
    || sc.allowed p kind.Single (e.lane % 2 == 0) (last_work j e.lane) e.call) ≡ true
    → (stopped j e.lane || b) ≡ false)
    (λ _ owed. absurd (stays_on p j e.lane e.call e.reply (last_work j e.lane) owed legal.1.told h))
    (λ _ _. ap (λ b. b || false) (not_true _ runs.0)) runs.1

pub leaves_few : (p : Plan) (lanes : ℕ) (j : List Entry) → Lawful p j → AllWithin lanes j
    → count_by (λ e. is_leave e.call e.reply) j ≤ lanes
leaves_few p lanes j legal within =
    subst (λ n. count_by (λ e. is_leave e.call e.reply) j ≤ n) (numbers_length lanes)
    (few (numbers lanes) (λ e. is_leave e.call e.reply) has_left j (all j legal within))
  where
    all : (i : List Entry) → Lawful p i → AllWithin lanes i
        → AtEach (Tells (numbers lanes) (λ e. is_leave e.call e.reply) has_left) i
    all [] lawful low = tt
    all (e ∷ i) lawful low = (
      all i lawful.0 low.0,
      record {
        stays = λ lane h. left_later e i lane h;
        first = λ h. record {
          thing = e.lane;
          among = among_numbers e.lane lanes low.1;
          before = still_there p e i lawful h;
          now = left_here e i h;
        };
      },
    )

-- ---- reports

abbrev owes_by : Option Entry → Bool
owes_by (Some d) = is_order d.reply
owes_by None = false

-- the lane owes the report of an order
owes : List Entry → ℕ → Bool
owes j lane = owes_by (last_work j lane)

-- a report is of an order
by_order : (p : Plan) (d : Call) (x : Reply) → is_report d ≡ true
    → sc.is_owed p kind.Single d x ≡ true → is_order x ≡ true
by_order p (call.Launched l how) (reply.Launch m a b t) r h = refl
by_order p (call.Launched l how) _ r h = absurd (cc)
by_order p (call.Wrote l n how) (reply.Send m i a b t) r h = refl
by_order p (call.Wrote l n how) (reply.Cancel m i) r h = refl
by_order p (call.Wrote l n how) _ r h = absurd (cc)
by_order p (call.Claim a b t f) (reply.Gather l n c d u e v) r h = refl
by_order p (call.Claim a b t f) _ r h = absurd (cc)
by_order p (call.Killed l) (reply.Kill m y) r h = refl
by_order p (call.Killed l) _ r h = absurd (cc)
by_order p _ x r h = absurd (cc)

no_commit : (d : Call) (last : Option Entry) → is_report d ≡ true → sc.is_owed_commit d last ≡ true
    → ⊥
no_commit (call.Committed a b how) last r h = cc
no_commit (call.Launched l how) last r h = cc
no_commit (call.Wrote l n how) last r h = cc
no_commit (call.Claim a b t f) last r h = cc
no_commit (call.Killed l) last r h = cc
no_commit _ last r h = cc

after_order : (p : Plan) (d : Call) (last : Option Entry) → is_report d ≡ true
    → sc.is_owed_after p kind.Single d last ≡ true → owes_by last ≡ true
after_order p d None r h = absurd (cc)
after_order p d (Some x) r h = elim (or_cases (sc.is_owed p kind.Single d x.reply) _ h) [
  | inl owed ↦ by_order p d x.reply r owed
  | inr commit ↦ absurd (no_commit d (Some x) r commit)
]

allowed_owed : (p : Plan) (proxy : Bool) (d : Call) (last : Option Entry) → is_report d ≡ true
    → sc.allowed p kind.Single proxy last d ≡ true → owes_by last ≡ true
allowed_owed p proxy (call.Launched l how) last r h =
    after_order p (call.Launched l how) last r (and_parts proxy _ h).1
allowed_owed p proxy (call.Wrote l n how) last r h =
    after_order p (call.Wrote l n how) last r (and_parts proxy _ h).1
allowed_owed p proxy (call.Claim a b t f) last r h =
    after_order p (call.Claim a b t f) last r (and_parts proxy _ h).1
allowed_owed p proxy (call.Killed l) last r h =
    after_order p (call.Killed l) last r (and_parts proxy _ h).1
allowed_owed p proxy _ last r h = absurd (cc)

no_tick : (d : Call) → is_report d ≡ true → o.is_tick d ≡ false
no_tick call.Tick r = absurd (cc)
no_tick _ r = refl

report_owed : (p : Plan) (e : Entry) (j : List Entry) → Lawful p (e ∷ j) → is_report e.call ≡ true
    → owes j e.lane ≡ true
unfolding owes
report_owed p e j legal r =
    elim (o.scripted p j e.lane e.call (no_tick e.call r) legal.1.scripted) [
      | inl commit ↦ absurd (no_commit e.call (last_work j e.lane) r commit)
      | inr may ↦ allowed_owed p (e.lane % 2 == 0) e.call (last_work j e.lane) r may
    ]

report_works : (d : Call) → is_report d ≡ true → is_work d ≡ true
report_works (call.Look w) r = absurd (cc)
report_works call.Halt r = absurd (cc)
report_works _ r = refl

-- two tests that agree but at m pass the same numbers below it
same_above : (f g : ℕ → Bool) (m n : ℕ) → ((i : ℕ) → (m == i) ≡ false → f i ≡ g i) → n ≤ m
    → count_by f (numbers n) ≡ count_by g (numbers n)
unfolding numbers
same_above f g m zero same le = refl
same_above f g m (suc n) same le =
    let rest = same_above f g m n same (omega (arith, le)) in
    let here = ap (λ b. bit b) (same n (ne_eqb m n (λ e. omega (arith, le, e)))) in
    let left = count-cons f n (numbers n) in
    let right = count-cons g n (numbers n) in
    omega (arith, rest, here, left, right)

-- and as many of all, but for m itself
same_but : (f g : ℕ → Bool) (m n : ℕ) → ((i : ℕ) → (m == i) ≡ false → f i ≡ g i) → m < n
    → count_by f (numbers n) + bit (g m) ≡ count_by g (numbers n) + bit (f m)
unfolding numbers
same_but f g m zero same lt = absurd (omega (arith, lt))
same_but f g m (suc n) same lt =
    let left = count-cons f n (numbers n) in
    let right = count-cons g n (numbers n) in
    elim (cases_lt m n) [
      | inl low ↦ (let rest = same_but f g m n same low in
          let here = ap (λ b. bit b) (same n (ne_eqb m n (λ e. omega (arith, low, e)))) in
          omega (arith, rest, here, left, right))
      | inr high ↦ (let is : m ≡ n = omega (arith, lt, high) in
          let rest = same_above f g m n same (omega (arith, is)) in
          let at_first = ap (λ i. bit (f i)) is in
          let at_second = ap (λ i. bit (g i)) is in
          omega (arith, rest, left, right, at_first, at_second))
    ]

-- at first none is owed
none_owed : (n : ℕ) → count_by (owes []) (numbers n) ≡ 0
unfolding numbers owes last_work
none_owed zero = refl
none_owed (suc n) = let rest = none_owed n in let here = count-cons (owes []) n (numbers n) in
    omega (arith, rest, here)

-- with what is still owed there are as many reports as orders, or fewer
reports_owed : (p : Plan) (lanes : ℕ) (j : List Entry) → Lawful p j → AllWithin lanes j
    → count_by (λ e. is_report e.call) j + count_by (owes j) (numbers lanes)
    ≤ count_by (λ e. is_order e.reply) j
unfolding owes
reports_owed p lanes [] legal within = let none = none_owed lanes in omega (arith, none)
reports_owed p lanes (e ∷ j) legal within =
    let before = reports_owed p lanes j legal.0 within.0 in
    let made = count-cons (λ (d : Entry). is_report d.call) e j in
    let given = count-cons (λ (d : Entry). is_order d.reply) e j in
    let sums = same_but (owes (e ∷ j)) (owes j) e.lane lanes others within.1 in
    omega (arith, before, made, given, sums, mine)
  where
    others : (i : ℕ) → (e.lane == i) ≡ false → owes (e ∷ j) i ≡ owes j i
    others i off = ap owes_by (o.newest_other e j i (ap (λ b. b && is_work e.call) off))

    mine : bit (is_report e.call) + bit (owes (e ∷ j) e.lane)
        ≤ bit (is_order e.reply) + bit (owes j e.lane)
    mine =
        by_bool (is_work e.call) (λ b. is_work e.call ≡ b
        → bit (is_report e.call) + bit (owes (e ∷ j) e.lane)
        ≤ bit (is_order e.reply) + bit (owes j e.lane))
        (λ _ work.
        let now : bit (owes (e ∷ j) e.lane) ≡ bit (is_order e.reply) =
        ap (λ o. bit (owes_by o)) (o.newest_own e j work) in
        let owed = bit_le (is_report e.call) (owes j e.lane) (report_owed p e j legal) in
        omega (arith, now, owed))
        (λ _ idle.
        let same : bit (owes (e ∷ j) e.lane) ≡ bit (owes j e.lane) =
        ap (λ o. bit (owes_by o)) (o.newest_other e j e.lane (right (e.lane == e.lane) idle)) in
        let none : is_report e.call ≡ false =
        false_by _ (λ r. clash (is_work e.call) (report_works e.call r) idle) in
        let quiet : bit (is_report e.call) ≡ 0 = ap (λ b. bit b) none in
        omega (arith, same, quiet))
        refl
      where
        right : (b : Bool) → is_work e.call ≡ false → (b && is_work e.call) ≡ false
        right true h = h
        right false h = refl

-- each report answers an order
pub reports_few : (p : Plan) (lanes : ℕ) (j : List Entry) → Lawful p j → AllWithin lanes j
    → count_by (λ e. is_report e.call) j ≤ count_by (λ e. is_order e.reply) j
reports_few p lanes j legal within = let all = reports_owed p lanes j legal within in
    omega (arith, all)
