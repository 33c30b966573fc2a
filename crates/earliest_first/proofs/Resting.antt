-- On a busy berth nothing is chosen.
use Rattle.std.proofs.Common.{◌≡◌, ℕ, ◌==◌, nat_lt, Bool, true, false, cond, ◌&&◌, ◌||◌, ℤ, not, Option, Some, None, is_some, is_none, option_map, unwrap_or, refl, ap, ◌∙◌, arith}
use Rattle.std.proofs.lemmas.Bool.{and_parts, eqb-true, le-ltb}
use Rattle.run_plan.specs.Groups.{is_single}
use Rattle.list_lemmas.specs.Options.{or_else}
use Rattle.exec_journal.specs.declared.attempt.Attempt.{Attempt}
use Rattle.exec_journal.specs.declared.reply.Why.TheVariants as why
use Rattle.exec_journal.specs.Rules.{when}
use Rattle.worker_pool.specs.declared.LineRow.{LineRow}
use Rattle.worker_pool.specs.Rows as pool
use Rattle.cancel_rules.specs.Marks.{cancel_of}
use Rattle.core_tables.specs.declared.berth_group.BerthGroup.{BerthGroup}
use Rattle.core_state.specs.declared.choice.Choice.{Choice}
use Rattle.core_state.specs.declared.choice.Choice.TheVariants as choice
use Rattle.core_state.specs.declared.state.State.{State}
use Rattle.core_state.specs.Choices.{attempt_at, cause_at, is_over, row_at}
use Rattle.earliest_first.specs.Busy.{IsBusy, is_at_rest, is_full}
use Rattle.earliest_first.specs.Choices.{cancel_by, choice_for, choice_on, first_at, first_with, is_runner, is_vacant_line, is_vacant_row, kill_by, last_choice, launch_by, leave_by, may_cancel_by, send_by, unwanted_by, waiting_at}

is_false : (b : Bool) → not b ≡ true → b ≡ false
is_false true e = let no : false ≡ true = e in cc
is_false false e = refl

nothing : {X : Type 0} → (o : Option X) → is_none o ≡ true → o ≡ None
nothing (Some x) e = let no : false ≡ true = e in cc
nothing None e = refl

abbrev empty : (X : Type 0) → Option X
empty X = None

-- where both ways give nothing, nothing is given
neither : {X : Type 0} → (b : Bool) → cond b (empty X) (empty X) ≡ empty X
neither true = refl
neither false = refl

and_false : (b : Bool) → b && false ≡ false
and_false true = refl
and_false false = refl

all_false : (a b c : Bool) → (a && (b && (c && false))) ≡ false
all_false true true true = refl
all_false true true false = refl
all_false true false c = refl
all_false false b c = refl

module _ (s : State) (w l : ℕ) (x : LineRow) (full : is_full s l x ≡ true)
    (rest : is_at_rest s w l ≡ true) where
  row : (pool.is_live_row x ≡ true) × (not x.bound ≡ true)
  row = and_parts (pool.is_live_row x) (not x.bound)
      (and_parts (pool.is_live_row x && not x.bound) (pool.free_of s.pool l == 0) full).0

  no_place : nat_lt 0 (pool.free_of s.pool l) ≡ false
  no_place =
      let none = eqb-true (pool.free_of s.pool l) 0
      (and_parts (pool.is_live_row x && not x.bound) (pool.free_of s.pool l == 0) full).1 in
      le-ltb 0 (pool.free_of s.pool l) (omega (arith, none))

  -- of the four parts of a berth at rest
  front : (not (is_over s) && is_none (cause_at s w)) && is_none (cancel_of s.cancels l) ≡ true
  front = (and_parts ((not (is_over s) && is_none (cause_at s w)) && is_none (cancel_of s.cancels l))
      (is_none (waiting_at s w)) rest).0

  not_over : is_over s ≡ false
  not_over = is_false (is_over s) (and_parts (not (is_over s)) (is_none (cause_at s w))
      (and_parts (not (is_over s) && is_none (cause_at s w)) (is_none (cancel_of s.cancels l))
      front).0).0

  no_cause : cause_at s w ≡ None
  no_cause = nothing (cause_at s w) (and_parts (not (is_over s)) (is_none (cause_at s w))
      (and_parts (not (is_over s) && is_none (cause_at s w)) (is_none (cancel_of s.cancels l))
      front).0).1

  no_due : cancel_of s.cancels l ≡ None
  no_due = nothing (cancel_of s.cancels l) (and_parts (not (is_over s) && is_none (cause_at s w))
      (is_none (cancel_of s.cancels l)) front).1

  no_match : waiting_at s w ≡ None
  no_match = nothing (waiting_at s w)
      (and_parts ((not (is_over s) && is_none (cause_at s w)) && is_none (cancel_of s.cancels l))
      (is_none (waiting_at s w)) rest).1

  no_kill : kill_by l x (cause_at s w) ≡ None
  no_kill = ap (kill_by l x) no_cause ∙ neither (is_runner x)

  module _ (seat : BerthGroup) (next : Option Attempt) where
    wanted : unwanted_by s seat l x ≡ false
    wanted =
        ap (λ (c : Option ℤ). is_runner x && (is_single seat.kind && (not seat.cancel && is_some c)))
        no_due ∙ all_false (is_runner x) (is_single seat.kind) (not seat.cancel)

    no_cancel : cancel_by s w seat l x ≡ None
    no_cancel =
        ap (λ c. cond (pool.is_live_row x && may_cancel_by s w seat) (option_map (choice.Cancel l) c)
        None) no_due ∙ neither (pool.is_live_row x && may_cancel_by s w seat)

    no_send : send_by s w next l x ≡ None
    no_send =
        ap (λ b. cond b (cond x.bound bound (cond (nat_lt 0 (pool.free_of s.pool l)) free None)) None)
        row.0
        ∙ (ap (λ b. cond b bound (cond (nat_lt 0 (pool.free_of s.pool l)) free None))
        (is_false x.bound row.1)
        ∙ ap (λ b. cond b free None) no_place)
      where
        bound : Option Choice
        bound = option_map (choice.Send l) (attempt_at s w)

        free : Option Choice
        free = option_map (choice.Send l) next

    none_first : first_with s w seat next l x ≡ None
    none_first =
        ap (λ b. or_else (when b (leave_by l x)) left) not_over
        ∙ (ap (λ o. or_else o killed) no_kill
        ∙ (ap (λ b. or_else (when b (choice.Kill l why.Unwanted)) unwanted) wanted
        ∙ (ap (λ o. or_else (option_map choice.Gather o) gathered) no_match
        ∙ (ap (λ o. or_else o (send_by s w next l x)) no_cancel
        ∙ no_send))))
      where
        gathered : Option Choice
        gathered = or_else (cancel_by s w seat l x) (send_by s w next l x)

        unwanted : Option Choice
        unwanted = or_else (option_map choice.Gather (waiting_at s w)) gathered

        killed : Option Choice
        killed = or_else (when (unwanted_by s seat l x) (choice.Kill l why.Unwanted)) unwanted

        left : Option Choice
        left = or_else (kill_by l x (cause_at s w)) killed

  not_vacant : is_vacant_row x ≡ false
  not_vacant =
      let live = and_parts x.started (not x.broken && not x.killed) row.0 in
      let whole = and_parts (not x.broken) (not x.killed) live.1 in
      ap (λ b. not b || (x.ended && x.killed)) live.0
      ∙ (ap (λ b. x.ended && b) (is_false x.killed whole.1) ∙ and_false x.ended)

pub is_busy : (s : State) (w l : ℕ) → pool.last_of s.pool w ≡ Some l
    → is_full s l (row_at s l) ≡ true → is_at_rest s w l ≡ true → IsBusy s w
is_busy s w l last full rest = record {
  goes_on = not_over s w l (row_at s l) full rest;
  first = λ seat next. ap (first_at s w seat next) last
      ∙ none_first s w l (row_at s l) full rest seat next;
  occupied = ap (is_vacant_line s) last ∙ not_vacant s w l (row_at s l) full rest;
}

-- so an Ask there is answered Idle
pub chooses_nothing : (s : State) (w : ℕ) → IsBusy s w → (seat : BerthGroup)
    (next : Option Attempt) → choice_on s w seat next ≡ choice.Idle
chooses_nothing s w busy seat next =
    ap (λ o. unwrap_or o (last_choice s w seat next)) (busy.first seat next)
    ∙ ap (λ b. cond b (launch_by s seat next) choice.Idle) busy.occupied

-- and on a berth of no group nothing is chosen either
pub chosen_on_busy : (s : State) (w : ℕ) → IsBusy s w → (next : ℕ → Option Attempt)
    (o : Option BerthGroup) → choice_for s w next o ≡ choice.Idle
chosen_on_busy s w busy next None = refl
chosen_on_busy s w busy next (Some seat) = chooses_nothing s w busy seat (next seat.group)
