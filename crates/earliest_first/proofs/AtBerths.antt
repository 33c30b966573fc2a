-- Where each line runs its berth's group: what is asked of a journal, said of berths.
use Rattle.std.proofs.Common.{◌≡◌, ℕ, ◌+◌, ◌-◌, ◌*◌, ◌<◌, ◌/◌, nat_lt, true, false, cond, List, [], ◌∷◌, Some, refl, sym, subst, ◌∙◌, arith}
use Rattle.std.specs.Prelude.{sum_by}
use Rattle.std.proofs.lemmas.Bool.{and_parts, ltb-true, ltb-false}
use Rattle.std.proofs.lemmas.List.Sums.{sum_by-cons}
use Rattle.run_plan.specs.declared.plan.Group.{Group}
use Rattle.run_plan.specs.declared.plan.Plan.{Plan}
use Rattle.run_plan.specs.Groups.{berths, berth_group, kind_of, has_cancellation, is_single}
use Rattle.exec_journal.specs.declared.attempt.Attempt.{Attempt}
use Rattle.exec_journal.specs.declared.call.Call.{Call}
use Rattle.exec_journal.specs.Entry.{Entry}
use Rattle.exec_journal.specs.Kept.{group_at}
use Rattle.exec_journal.specs.Lawful.{Lawful, in_script}
use Rattle.exec_journal.specs.Scripts.{script}
use Rattle.exec_journal.specs.Seated.{group_on, line_group, line_kind}
use Rattle.exec_journal.specs.Settled.{bound}
use Rattle.exec_journal.specs.Words.{last_line, sends, pending, has_cancel}
use Rattle.exec_journal.proofs.Ruled.{by_bool}
use Rattle.journal_laws.proofs.Lanes.{here_own}
use Rattle.journal_laws.proofs.Ours as ours
use Rattle.journal_laws.proofs.Ours.{SeatedAt}
use Rattle.call_laws.specs.Moments.{BranchOf}
use Rattle.request_table.specs.Entries.{EachOf}
use Rattle.request_table.specs.Stands.{Numbered}
use Rattle.core_tables.specs.declared.berth_group.BerthGroup.{BerthGroup}
use Rattle.core_tables.specs.Seats.{seat_at, seat_from, seat_here}
use Rattle.core_tables.proofs.Seated.{IsSeat, seat_is}
use Rattle.core_laws.specs.Stands.{SeatFits}
use Rattle.table_laws.specs.Moments.{JournalFacts}

module _ (p : Plan) (j : List Entry) (good : Lawful p j) (seated : SeatedAt p j) (w l : ℕ)
    (here : last_line j w ≡ Some l) where
  seat : (kind_of p w ≡ line_kind p j l) × (group_at p w ≡ line_group p j l)
  seat = ours.berth_seated p j good seated w l here

  pub group_is : group_on p j l ≡ berth_group p w
  unfolding SeatedAt
  group_is = seated l w (here_own p j w l good here)

  pub no_cancel : JournalFacts p j → is_single (kind_of p w) ≡ true
      → has_cancellation p (group_at p w) ≡ false
      → EachOf (λ r. has_cancel j r ≡ false) (pending j l)
  no_cancel facts one none = facts.no_cancel l
      (subst (λ k. is_single k ≡ true) seat.0 one)
      (subst (λ g. has_cancellation p g ≡ false) seat.1 none)

  pub bound_group : JournalFacts p j → (t : Attempt) → bound p j l ≡ Some t
      → BranchOf p t (berth_group p w)
  bound_group facts t at = facts.bound_group l t at ∙ group_is

  pub numbered : JournalFacts p j → Numbered (is_single (kind_of p w)) (sends j l)
  numbered facts = subst (λ k. Numbered (is_single k) (sends j l)) (sym seat.0)
      (facts.numbered w l here)

  pub kind_is : kind_of p w ≡ line_kind p j l
  kind_is = seat.0

-- ---- a call that is in its lane's script

pub anywhere : (p : Plan) (j : List Entry) (lane : ℕ) (c : Call) → script p j lane c ≡ true
    → in_script p j lane c ≡ true
anywhere p j lane c may = ours.scripted_anywhere p j lane c may

-- a lane whose script has a call is one of the plan
pub lane_within : (p : Plan) (j : List Entry) (lane : ℕ) (x : Call) → script p j lane x ≡ true
    → lane / 2 < berths p
lane_within p j lane x h = let lt = ltb-true lane (2 * berths p)
    (and_parts (nat_lt lane (2 * berths p)) _ h).0 in omega arith

-- a berth of which the plan says something is one of the plan
within_groups : (g first : ℕ) (xs : List Group) (w : ℕ) (seat : BerthGroup)
    → seat_from g first xs w ≡ Some seat → w < sum_by (λ (x : Group). x.berths) xs
within_groups g first [] w seat h = absurd (cc)
within_groups g first (x ∷ xs) w seat h =
    let all = sum_by-cons (λ (y : Group). y.berths) x xs in
    by_bool (nat_lt w x.berths) (λ b. nat_lt w x.berths ≡ b
    → cond b (Some (seat_here g first x)) (seat_from (g + 1) (first + x.berths) xs (w - x.berths))
    ≡ Some seat → w < sum_by (λ (y : Group). y.berths) (x ∷ xs))
    (λ yes _ _. let lt = ltb-true w x.berths yes in omega (arith, lt, all))
    (λ no _ k. let ge = ltb-false w x.berths no in
    let rest = within_groups (g + 1) (first + x.berths) xs (w - x.berths) seat k in
    omega (arith, ge, rest, all)) refl h

pub seat_within : (p : Plan) (w : ℕ) (seat : BerthGroup) → seat_at p w ≡ Some seat → w < berths p
seat_within p w seat h = within_groups 0 0 p.groups w seat h

-- what the plan says of a berth is so of its last line
pub seat_fits : (p : Plan) (j : List Entry) (w : ℕ) (seat : BerthGroup) → Lawful p j → SeatedAt p j
    → w < berths p → seat_at p w ≡ Some seat → SeatFits p j w seat
seat_fits p j w seat good seated lt is =
    let y = seat_is p w lt in
    let at : IsSeat p w seat = subst (IsSeat p w) (let z = sym y.1.is ∙ is in cc) y.1 in
    record {
      kind = λ l here. sym (kind_is p j good seated w l here) ∙ at.kind;
      group = λ l here. group_is p j good seated w l here ∙ at.group;
      cancel = at.cancel;
    }
