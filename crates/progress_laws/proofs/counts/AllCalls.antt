-- Each entry that is no noise is of a kind that is counted.
use Rattle.std.proofs.Common.{◌≡◌, ℕ, ◌+◌, ◌*◌, ◌≤◌, true, ◌&&◌, not, List, [], ◌∷◌, is_some, arith}
use Rattle.std.specs.Prelude.{count_by, sum_by}
use Rattle.std.proofs.lemmas.List.Sums.{sum_by-cons}
use Rattle.run_plan.specs.declared.plan.Plan.{Plan}
use Rattle.exec_journal.specs.declared.call.Call.{Call}
use Rattle.exec_journal.specs.declared.call.Call.TheVariants as call
use Rattle.exec_journal.specs.declared.reply.Reply.{Reply}
use Rattle.exec_journal.specs.declared.reply.Reply.TheVariants as reply
use Rattle.exec_journal.specs.Entry.{Entry}
use Rattle.exec_journal.specs.History.{AtEach}
use Rattle.exec_journal.specs.Entries.{is_kept, launch_in, send_in}
use Rattle.exec_journal.specs.Lawful.{Lawful}
use Rattle.exec_journal.proofs.Reasons as u
use Rattle.exec_journal.proofs.Ruled as ru
use Rattle.journal_laws.proofs.Lanes.{is_order}
use Rattle.journal_laws.proofs.Over as v
use Rattle.placed_rules.specs.Bounds.{is_noted, is_noted_tick}
use Rattle.placed_rules.specs.Due.{is_tick}
use Rattle.progress_laws.specs.Few.{AllWithin, CallsAreFewButTicks, is_noise, most_tries}
use Rattle.progress_laws.proofs.counts.OfAnswers.{answers_few}
use Rattle.progress_laws.proofs.counts.OfLanes.{commits_few, leaves_few, reports_few}
use Rattle.progress_laws.proofs.counts.OfLines.{ends_few, gifts_few, kills_few, remarks_few}
use Rattle.progress_laws.proofs.counts.OfTries.{follow_ups_few, launches_few, sends_few}
use Rattle.progress_laws.proofs.counts.Tallies.{bit, each_lawful}
use Rattle.progress_laws.proofs.counts.Sorts.{follows_up, gives_line, is_answer, is_commit, is_end, is_kill, is_leave, is_remark, is_report}

-- ---- sums

sum_le : (f g : Entry → ℕ) (j : List Entry) → AtEach (λ _ e. f e ≤ g e) j → sum_by f j ≤ sum_by g j
sum_le f g [] all = omega arith
sum_le f g (e ∷ j) all =
    let rest = sum_le f g j all.0 in
    let left = sum_by-cons f e j in
    let right = sum_by-cons g e j in
    omega (arith, rest, all.1, left, right)

sum_plus : (f g : Entry → ℕ) (j : List Entry) → sum_by (λ e. f e + g e) j ≡ sum_by f j + sum_by g j
sum_plus f g [] = omega arith
sum_plus f g (e ∷ j) =
    let rest = sum_plus f g j in
    let both = sum_by-cons (λ (d : Entry). f d + g d) e j in
    let left = sum_by-cons f e j in
    let right = sum_by-cons g e j in
    omega (arith, rest, both, left, right)

-- ---- orders

order_kind : (x : Reply)
    → bit (is_order x) ≤ bit (is_some (launch_in x)) +
    (bit (is_some (send_in x)) + (bit (follows_up x) + bit (is_kill x)))
order_kind (reply.Launch l a b t) = omega arith
order_kind (reply.Send l n a b t) = omega arith
order_kind (reply.Cancel l n) = omega arith
order_kind (reply.Gather l n a b t e v) = omega arith
order_kind (reply.Kill l y) = omega arith
order_kind _ = omega arith

anywhere : (Q : Entry → Type 0) → ((e : Entry) → Q e) → (j : List Entry) → AtEach (λ _ e. Q e) j
anywhere Q f [] = tt
anywhere Q f (e ∷ j) = (anywhere Q f j, f e)

orders_few : (p : Plan) → 1 ≤ p.limit → (j : List Entry) → Lawful p j
    → count_by (λ e. is_order e.reply) j ≤ 4 * most_tries p
orders_few p least j legal =
    let launch : Entry → ℕ = λ e. bit (is_some (launch_in e.reply)) in
    let send : Entry → ℕ = λ e. bit (is_some (send_in e.reply)) in
    let follow : Entry → ℕ = λ e. bit (follows_up e.reply) in
    let kill : Entry → ℕ = λ e. bit (is_kill e.reply) in
    let all = sum_le (λ e. bit (is_order e.reply))
    (λ e. launch e + (send e + (follow e + kill e))) j
    (anywhere (λ e. bit (is_order e.reply) ≤ launch e + (send e + (follow e + kill e)))
    (λ e. order_kind e.reply) j) in
    let launches_apart = sum_plus launch (λ e. send e + (follow e + kill e)) j in
    let sends_apart = sum_plus send (λ e. follow e + kill e) j in
    let follows_apart = sum_plus follow kill j in
    let launches = launches_few p least j legal in
    let sends = sends_few p least j legal in
    let follows = follow_ups_few p least j legal in
    let kills = kills_few p least j legal in
    omega (arith, all, launches_apart, sends_apart, follows_apart, launches, sends, follows, kills)

-- ---- all calls

-- so often it is counted
abbrev counts : Call → Reply → ℕ
counts d x = bit (is_order x) +
    (bit (is_report d) + (bit (gives_line x) + (bit (is_end d) + (bit (is_remark x)
    + (bit (is_answer x) + (bit (is_commit d) +
    (bit (is_leave d x) + bit (is_tick d && is_noted x))))))))

noted_counts : (d : Call) → ru.is_noted d ≡ true → 1 ≤ counts d reply.Noted
noted_counts (call.Launched l how) h = omega arith
noted_counts (call.Wrote l n how) h = omega arith
noted_counts (call.Committed a b how) h = omega arith
noted_counts (call.Killed l) h = omega arith
noted_counts (call.Ended l how) h = omega arith
noted_counts call.Halt h = omega arith
noted_counts call.Tick h = omega arith
noted_counts _ h = absurd (cc)

counted : (p : Plan) (j : List Entry) (lane : ℕ) (d : Call) (x : Reply) → u.Ruled p j lane d x
    → is_kept x ≡ true → bit (not (is_noise x)) ≤ counts d x
counted p j lane d x (u.Quits l here run over) kept = omega arith
counted p j lane d x (u.Stops over gone) kept = omega arith
counted p j lane d x (u.KillsBroken l y here run broken over) kept = omega arith
counted p j lane d x (u.KillsUnwanted l here run one none unwanted over) kept = omega arith
counted p j lane d x (u.Gathers l n a b t e w next over) kept = omega arith
counted p j lane d x (u.Cancels l q here alive may which none) kept = omega arith
counted p j lane d x (u.Sends l t here alive next none) kept = omega arith
counted p j lane d x (u.Evicts l here alive empty free none) kept = omega arith
counted p j lane d x (u.Launches g t vacant next none) kept = omega arith
counted p j lane d x u.Idles kept = absurd (cc)
counted p j lane d x u.Counts kept = omega arith
counted p j lane d x (u.Ticks over) kept = omega arith
counted p j lane d x u.Waits kept = absurd (cc)
counted p j lane d x (u.Takes l here up new) kept = omega arith
counted p j lane d x (u.TakeStops over) kept = omega arith
counted p j lane d x u.TakeIdles kept = absurd (cc)
counted p j lane d x (u.IsBroken l y broken) kept = omega arith
counted p j lane d x (u.Greets l y whole greeting) kept = omega arith
counted p j lane d x (u.IsWrong l y whole) kept = omega arith
counted p j lane d x (u.IsUnasked l y whole) kept = omega arith
counted p j lane d x (u.IsNotCancelled l y whole) kept = omega arith
counted p j lane d x (u.IsNever l y whole) kept = omega arith
counted p j lane d x (u.IsClosed l y whole) kept = omega arith
counted p j lane d x (u.IsLate l y q is won) kept = omega arith
counted p j lane d x (u.IsMatched l y q is free) kept = omega arith
counted p j lane d x (u.Loses a b t f other) kept = omega arith
counted p j lane d x (u.Grants a b t f other win) kept = omega arith
counted p j lane d x (u.Defers a b t f other win low) kept = omega arith
counted p j lane d x (u.Drops a b t f other win low) kept = omega arith
counted p j lane d x (u.Shows w content) kept = absurd (cc)
counted p j lane d x (u.ShowsNone w) kept = absurd (cc)
counted p j lane d x (u.Notes z n) kept = noted_counts z n

-- in any lawful journal
pub calls_few : (p : Plan) (lanes : ℕ) (j : List Entry) → 1 ≤ p.limit → Lawful p j
    → AllWithin lanes j → CallsAreFewButTicks p lanes j
calls_few p lanes j least legal within =
    let order : Entry → ℕ = λ e. bit (is_order e.reply) in
    let report : Entry → ℕ = λ e. bit (is_report e.call) in
    let gift : Entry → ℕ = λ e. bit (gives_line e.reply) in
    let end : Entry → ℕ = λ e. bit (is_end e.call) in
    let remark : Entry → ℕ = λ e. bit (is_remark e.reply) in
    let answer : Entry → ℕ = λ e. bit (is_answer e.reply) in
    let commit : Entry → ℕ = λ e. bit (is_commit e.call) in
    let leave : Entry → ℕ = λ e. bit (is_leave e.call e.reply) in
    let tick : Entry → ℕ = λ e. bit (is_noted_tick e) in
    let all = sum_le (λ e. bit (not (is_noise e.reply))) (λ e. counts e.call e.reply) j
    (each_lawful p (λ _ e. bit (not (is_noise e.reply)) ≤ counts e.call e.reply)
    (λ e i lawful. counted p i e.lane e.call e.reply
    (v.entry_ruled p e i lawful) lawful.1.kept) j legal) in
    let orders_apart = sum_plus order (λ e. report e +
    (gift e + (end e + (remark e + (answer e + (commit e + (leave e + tick e))))))) j in
    let reports_apart = sum_plus report
    (λ e. gift e + (end e + (remark e + (answer e + (commit e + (leave e + tick e)))))) j in
    let gifts_apart = sum_plus gift (λ e. end e +
    (remark e + (answer e + (commit e + (leave e + tick e))))) j in
    let ends_apart = sum_plus end
    (λ e. remark e + (answer e + (commit e + (leave e + tick e)))) j in
    let remarks_apart = sum_plus remark (λ e. answer e + (commit e + (leave e + tick e))) j in
    let answers_apart = sum_plus answer (λ e. commit e + (leave e + tick e)) j in
    let commits_apart = sum_plus commit (λ e. leave e + tick e) j in
    let leaves_apart = sum_plus leave tick j in
    let orders = orders_few p least j legal in
    let reports = reports_few p lanes j legal within in
    let gifts = gifts_few p least j legal in
    let ends = ends_few p least j legal in
    let remarks = remarks_few p least j legal in
    let answers = answers_few p least j legal in
    let commits = commits_few p j legal in
    let leaves = leaves_few p lanes j legal within in
    omega (
      arith,
      all,
      orders_apart,
      reports_apart,
      gifts_apart,
      ends_apart,
      remarks_apart,
      answers_apart,
      commits_apart,
      leaves_apart,
      orders,
      reports,
      gifts,
      ends,
      remarks,
      answers,
      commits,
      leaves,
    )
