-- What an Ask makes of a state that stands for a journal, whatever is chosen.
use Rattle.std.proofs.Common.{◌≡◌, ℕ, ◌+◌, ◌/◌, ◌==◌, nat_lt, Bool, true, false, List, ◌∷◌, length, Option, Some, None, is_some, option_map, unwrap_or, ℤ, ◌⊎◌, inl, inr, refl, ap, sym, subst, ◌∙◌, arith}
use Rattle.std.specs.Prelude.{option_and_then}
use Rattle.std.proofs.lemmas.Bool.{eqb-true, ltb-true, ltb-false}
use Rattle.run_plan.specs.declared.plan.Plan.{Plan}
use Rattle.exec_journal.specs.declared.attempt.Attempt.{Attempt}
use Rattle.exec_journal.specs.Entry.{Entry}
use Rattle.exec_journal.specs.declared.call.Call.TheVariants as call
use Rattle.exec_journal.specs.declared.reply.Reply.{Reply}
use Rattle.exec_journal.specs.declared.reply.Reply.TheVariants as reply
use Rattle.exec_journal.specs.Attempts.{attempt, ended}
use Rattle.exec_journal.specs.Entries.{Request, launch_in, send_in, is_kept}
use Rattle.exec_journal.specs.Facts.{BeginsNext, ContinuesOn, begun}
use Rattle.exec_journal.specs.Rules as r
use Rattle.run_plan.specs.Groups.{group_of}
use Rattle.exec_journal.specs.Settled.{bound}
use Rattle.exec_journal.specs.Words.{last_line, line_count, live, started, broke, has_ended, was_killed, pending}
use Rattle.exec_journal.proofs.Begins.{attempts_in_order, begin_in_order, bound_is, launched_begun}
use Rattle.exec_journal.proofs.Ruled.{by_bool}
use Rattle.exec_journal.specs.Lawful.{Asked, KillsBroken, Launches, Sends, IsNextOf, NextOn, FromBound, FromQueue}
use Rattle.worker_pool.specs.Rows as rows
use Rattle.worker_pool.specs.Stands as pools
use Rattle.worker_pool.specs.Stands.{line_in}
use Rattle.worker_pool.specs.declared.LineRow.{LineRow}
use Rattle.worker_pool.proofs.Launched.{never_sent}
use Rattle.core_state.specs.declared.choice.Choice.{Choice}
use Rattle.core_state.specs.declared.choice.Choice.TheVariants as choice
use Rattle.core_state.specs.declared.state.State.{State}
use Rattle.core_state.specs.Choices as c
use Rattle.table_laws.specs.Moments.{LawfulMore, MoreFacts}
use Rattle.call_laws.specs.Moments.{BranchOf}
use Rattle.core_state.specs.Machine.{carried, carried_reply, number_of, launched_for, sent}
use Rattle.core_state.specs.Noted.{noted_after}
use Rattle.core_laws.specs.Stands.{Stands, MayCall}
use Rattle.core_laws.proofs.Orders.{kill_stands, stop_stands, gather_stands, cancel_stands, launch_stands}
use Rattle.core_laws.proofs.Rowed.{berth_of}
use Rattle.core_laws.proofs.Sends.{bound_stands, new_stands}
use Rattle.exec_journal.specs.Seated.{group_on, line_kind, line_group, group_for}

-- ---- why a Launch and a Send are ordered

pub record LaunchWhy (p : Plan) (j : List Entry) (t : Attempt) : Type 0 where
  pub group : ℕ
  pub next : IsNextOf p j group t

pub launch_why : (p : Plan) (j : List Entry) (w : ℕ) (y : Reply) (x : ℕ × Attempt) → Asked p j w y
    → launch_in y ≡ Some x → LaunchWhy p j x.1
launch_why p j w y x (Launches g t vacant next none) h =
    let e : (line_count j, t) ≡ x = cc in
    subst (LaunchWhy p j) (ap (λ (z : ℕ × Attempt). z.1) e) (record { group = g; next = next })
launch_why p j w y x (KillsBroken l z here run broken over) h = absurd (cc)
launch_why p j w y x _ h = absurd (cc)

pub record SendWhy (p : Plan) (j : List Entry) (w : ℕ) (q : Request) : Type 0 where
  pub here : last_line j w ≡ Some q.line
  pub alive : live j q.line ≡ true
  pub next : NextOn p j q.line q.attempt
  pub number : q.number ≡ r.number_of j (line_kind p j q.line) q.line

pub send_why : (p : Plan) (j : List Entry) (w : ℕ) (y : Reply) (q : Request) → Asked p j w y
    → send_in y ≡ Some q → SendWhy p j w q
send_why p j w y q (Sends l t here alive next none) h =
    let e : (record { line = l; number = r.number_of j (line_kind p j l) l; attempt = t }) ≡ q = cc in
    subst (SendWhy p j w) e (record {
      here = here;
      alive = alive;
      next = next;
      number = refl;
    })
send_why p j w y q (KillsBroken l z here run broken over) h = absurd (cc)
send_why p j w y q _ h = absurd (cc)

-- ---- what is next of the group of a line

uses_is : (o : Option ℕ) (g : ℕ) → unwrap_or (option_map (λ k. k == g) o) false ≡ true → o ≡ Some g
uses_is (Some k) g h = ap Some (eqb-true k g h)
uses_is None g h = absurd (cc)

module _ (p : Plan) (seats : ℕ) (s : State) (j : List Entry) (w l : ℕ) (st : Stands p seats s j)
    (more : MoreFacts p j) (here : last_line j w ≡ Some l) where
  -- it runs a group
  has_group : group_on p j l ≡ Some (line_group p j l)
  unfolding group_on
  has_group =
      let own = (berth_of p seats s j w l st here).owner in
      let run = more.used own.1 (launched_begun j l own.0 own.1 own.2) in
      let group : group_on p j l ≡ Some run.group = ap (option_and_then (λ x. group_for p x.1)) own.2
      ∙ ap (option_and_then (λ x. group_of x own.1.branch)) run.place ∙ run.runs in
      group ∙ ap Some (sym (ap (λ o. unwrap_or o 0) group))

  pub next_branch : (t : Attempt) → IsNextOf p j (line_group p j l) t → BranchOf p t (group_on p j l)
  next_branch t next = ap (option_and_then (λ x. group_of x t.branch)) next.place
      ∙ uses_is (group_of next.action t.branch) (line_group p j l) next.group ∙ sym has_group

-- ---- the entry

module _ (p : Plan) (seats : ℕ) (s : State) (j : List Entry) (lane : ℕ) (st : Stands p seats s j)
    (all : LawfulMore p j) (may : MayCall p seats j lane call.Ask) where
  abbrev w : ℕ
  w = lane / 2

  Keeps : State → Reply → Type 0
  Keeps t y = Stands p seats (noted_after t lane call.Ask y)
      (record { lane = lane; call = call.Ask; reply = y } ∷ j)

  launch_keeps : (t : Attempt) → Asked p j w (reply.Launch (length s.pool.lines) t.action t.branch
      t.number) → Keeps (launched_for s w t)
      (reply.Launch (length s.pool.lines) t.action t.branch t.number)
  unfolding Keeps
  launch_keeps t is =
      let count = st.pool.count in
      let why = launch_why p j w (reply.Launch (length s.pool.lines) t.action t.branch t.number)
      (length s.pool.lines, t) is refl in
      subst (λ n. Stands p seats (noted_after (launched_for s w t) lane call.Ask
      (reply.Launch n t.action t.branch t.number)) (record {
        lane = lane;
        call = call.Ask;
        reply = reply.Launch n t.action t.branch t.number;
      } ∷ j)) (sym count)
      (launch_stands p seats s j lane st may why.group t why.next all.facts
      (subst (λ n. Asked p j w (reply.Launch n t.action t.branch t.number)) count is))

  -- ---- Send

  module _ (l : ℕ) (t : Attempt) (n : ℤ)
      (is : Asked p j w (reply.Send l n t.action t.branch t.number)) where
    reasons : SendWhy p j w (record { line = l; number = n; attempt = t })
    reasons = send_why p j w (reply.Send l n t.action t.branch t.number)
        (record { line = l; number = n; attempt = t }) is refl

    abbrev own_number : ℤ
    own_number = r.number_of j (line_kind p j l) l

    is_too : Asked p j w (reply.Send l own_number t.action t.branch t.number)
    is_too = subst (λ m. Asked p j w (reply.Send l m t.action t.branch t.number)) reasons.number is

    with_number : (b : Bool) → Keeps (sent s w l t b) (reply.Send l own_number t.action t.branch
        t.number) → Keeps (sent s w l t b) (reply.Send l n t.action t.branch t.number)
    unfolding Keeps
    with_number b k = subst (λ m. Stands p seats (noted_after (sent s w l t b) lane call.Ask
        (reply.Send l m t.action t.branch t.number)) (record {
          lane = lane;
          call = call.Ask;
          reply = reply.Send l m t.action t.branch t.number;
        } ∷ j)) (sym reasons.number) k

    bound_row : (c.row_at s l).bound ≡ is_some (bound p j l)
    unfolding line_in
    bound_row =
        let own = berth_of p seats s j w l st reasons.here in
        ap (λ (o : Option LineRow). (unwrap_or o (rows.new_line 0)).bound)
        (st.pool.each_line l ∙ ap (λ (o : Option (ℕ × Attempt)). pools.row_of p o (started j l)
        (broke j l) (has_ended j l) (was_killed j l) (is_some (bound p j l))
        (length (pending j l))) own.owner.2)

    latest : (u : Attempt) → begun j u ≡ true → ended j u ≡ false
        → u.number ≡ attempt j u.action u.branch
    latest u start going =
        let order = attempts_in_order p j st.lawful in
        by_bool (nat_lt u.number (attempt j u.action u.branch))
        (λ _. u.number ≡ attempt j u.action u.branch)
        (λ yes. absurd (let o = order.older u (order.numbered u start).0
        (ltb-true u.number (attempt j u.action u.branch) yes) in cc))
        (λ ne. let ge = ltb-false u.number (attempt j u.action u.branch) ne in
        let le = (order.numbered u start).1 in omega arith)

    was_keeps : bound p j l ≡ Some t → Keeps (sent s w l t true)
        (reply.Send l own_number t.action t.branch t.number)
    unfolding Keeps
    was_keeps was =
        let b = bound_is p j l t was in
        bound_stands p seats s j lane l t st all.facts may reasons.here reasons.alive is_too b.unsent
        (all.facts.bound_group l t was) was (latest t (launched_begun j l b.lane t b.launched) b.going)

    new_keeps : bound p j l ≡ None → IsNextOf p j (line_group p j l) t
        → Keeps (sent s w l t false) (reply.Send l own_number t.action t.branch t.number)
    unfolding Keeps
    new_keeps none next =
        let begins = fresh (begin_in_order p (record {
          lane = lane;
          call = call.Ask;
          reply = reply.Send l own_number t.action t.branch t.number;
        } ∷ j)
        (st.lawful, record { scripted = may.scripted; told = is_too; kept = refl })).1 next.number in
        new_stands p seats s j lane l t st all.facts may reasons.here reasons.alive is_too
        (never_sent j t begins.unbegun) (next_branch p seats s j w l st all.more reasons.here t next)
        none begins
      where
        fresh : BeginsNext j t ⊎ ContinuesOn j l t → t.number ≡ attempt j t.action t.branch + 1
            → BeginsNext j t
        fresh (inl next) h = next
        fresh (inr on) h = absurd (let a = on.latest in omega arith)

    next_keeps : NextOn p j l t → Keeps (sent s w l t (is_some (bound p j l)))
        (reply.Send l own_number t.action t.branch t.number)
    next_keeps (FromBound was) = subst (λ o. Keeps (sent s w l t (is_some o))
        (reply.Send l own_number t.action t.branch t.number)) (sym was) (was_keeps was)
    next_keeps (FromQueue none room next) = subst (λ o. Keeps (sent s w l t (is_some o))
        (reply.Send l own_number t.action t.branch t.number)) (sym none) (new_keeps none next)

    send_keeps : Keeps (sent s w l t ((c.row_at s l).bound))
        (reply.Send l n t.action t.branch t.number)
    send_keeps = with_number ((c.row_at s l).bound) (subst (λ x. Keeps (sent s w l t x)
        (reply.Send l own_number t.action t.branch t.number)) (sym bound_row)
        (next_keeps reasons.next))

  choice_keeps : (x : Choice) → Asked p j w (carried_reply s w x)
      → is_kept (carried_reply s w x) ≡ true → Keeps (carried s w x) (carried_reply s w x)
  unfolding Keeps
  choice_keeps choice.Stop is kept = stop_stands p seats s j lane st may is
  choice_keeps (choice.Kill l y) is kept = kill_stands p seats s j lane st may l y is
  choice_keeps (choice.Gather m) is kept = gather_stands p seats s j lane st may m.line m.number
      m.attempt m.exit m.refused is
  choice_keeps (choice.Cancel l n) is kept = cancel_stands p seats s j lane st may l n is
  choice_keeps (choice.Send l t) is kept = send_keeps l t (number_of s l t) is
  choice_keeps (choice.Launch t) is kept = launch_keeps t is
  choice_keeps choice.Idle is kept = absurd (cc)

  pub ask_stands : (x : Choice) → Asked p j w (carried_reply s w x)
      → is_kept (carried_reply s w x) ≡ true
      → Stands p seats (noted_after (carried s w x) lane call.Ask (carried_reply s w x)) (record {
        lane = lane;
        call = call.Ask;
        reply = carried_reply s w x;
      } ∷ j)
  unfolding Keeps
  ask_stands x is kept = choice_keeps x is kept
