-- One round: an Ask, and what holds where the lane is ordered so.
use Rattle.std.proofs.Common.{◌≡◌, ℕ, ◌<◌, ◌≤◌, Bool, List, length, Option, Some, None, refl, ap, sym, subst, ◌∙◌, append-nil, arith}
use Rattle.run_plan.specs.Groups.{is_remote}
use Rattle.std.specs.Prelude.{All}
use Rattle.seat_desk.specs.declared.machine.Machine.{Ghosts}
use Rattle.seat_desk.specs.declared.desk.Pass.{Pass}
use Rattle.seat_desk.specs.Passes.{mine, basis, seen}
use Rattle.seat_desk.specs.History.{entry}
use Rattle.outside.specs.Told.{ChildTold}
use Rattle.run_plan.specs.declared.plan.Plan.{Plan}
use Rattle.exec_journal.specs.declared.attempt.Attempt.{Attempt}
use Rattle.exec_journal.specs.declared.call.Call.{Call}
use Rattle.exec_journal.specs.declared.call.Call.TheVariants as call
use Rattle.exec_journal.specs.declared.reply.Reply.{Reply}
use Rattle.exec_journal.specs.declared.reply.Reply.TheVariants as reply
use Rattle.exec_journal.specs.Seated.{group_for}
use Rattle.core_contract.specs.Ruled.{answer_after}
use Rattle.core_contract.specs.Discipline.{Discipline}
use Rattle.core_contract.specs.Moves.{Past, History, ask_moves}
use Rattle.core_contract.specs.Shelf.{child_at, child_by}
use Rattle.core_contract.specs.Laws.{RunsOn, OrderFits, OrderHolds, lines_in}
use Rattle.core_contract.specs.Duties.{Duty, Asks, Launches, Left, duty_by, duty_of, proxy_lane}
use Rattle.run_values.specs.declared.settings.Settings.{Settings}
use Rattle.run_values.specs.Settings.{AreOfPlan, HasGroup, Means}
use Rattle.proxy_words.specs.declared.halt.ProxyHalt.TheVariants as cause
use Rattle.proxy_words.specs.Deeds.{DeedOf}
use Rattle.proxy_words.specs.Lines.{started_in}
use Rattle.proxy_words.specs.Ends.{HaltsBy}
use Rattle.proxy_words.proofs.Growing.{started_more}
use Rattle.proxy_calls.specs.declared.asking.Order.{Order}
use Rattle.proxy_calls.specs.declared.asking.Order.TheVariants as order
use Rattle.proxy_calls.specs.Calls.{MakesNone, MakesOne}
use Rattle.proxy_calls.specs.Orders.{lines_with, HasAsked}
use Rattle.proxy_calls.proofs.Entries.{duty_more}
use Rattle.proxy_laws.specs.Lanes.{LaneObjects}
use Rattle.proxy_laws.specs.Steps.{Goes, Halts, IsShelved, IsNewLine, MayObey}
use Rattle.proxy_laws.proofs.Holding.{holds_quiet}
use Rattle.proxy_laws.proofs.Keeping.{keeps_more, halting_more}
use Rattle.proxy_laws.proofs.Shelving.{child_more}
use Rattle.proxy_laws.proofs.Ending.{nothing, touches_none}

-- where the settings are of the plan, a group of the plan has a command
has_group : (plan : Plan) (remote : Bool) (settings : Settings) (t : Attempt) → AreOfPlan plan settings
    → RunsOn plan remote t → HasGroup settings t
has_group plan remote settings t of_plan runs = record {
  group = runs.group;
  of_branch = ap (λ (q : Plan). group_for q t) of_plan.same ∙ runs.of_branch;
  there = subst (λ (q : Plan). runs.group < length q.groups) (sym of_plan.same) runs.there;
  commanded = subst (λ (n : ℕ). runs.group < n) (sym of_plan.as_many) runs.there;
}

module _ {M G Q : Type 0} {g : Ghosts M Call Reply G Q} (means : Means)
    (rules : Q → Discipline) (p p1 : Pass M Call Reply G Q g) (h : LaneObjects)
    (asks : duty_of (mine p) ≡ Asks) where
  abbrev rule : Q → History → ℕ → Call → Reply
  rule q = answer_after (rules q)

  pub ask_goes : (r : Reply) → MakesOne call.Ask r p p1 → Goes means rules p h p1 h
  ask_goes r made = λ first k.
      let e : Past = entry p.lane call.Ask r in
      keeps_more (rule (basis p)) p.lane means (mine p) (seen p) first h k (mine p1) (seen p1) h e
      nothing made.1 (subst (λ (s : Duty). DeedOf means s call.Ask nothing) (sym asks)
      (refl, refl, refl))
      (holds_quiet (rule (basis p)) p.lane (mine p) k.deeds (seen p) first h k.holds e nothing (seen p1)
      made.0 tt h.berth (touches_none e h.berth refl)
      (record { starts = refl; gives = refl; feeds = λ m. refl })) k.all_said

  pub ask_halts : MakesNone p p1 → Halts means rules (cause.Refused call.Ask) p h p1 h
  ask_halts no_entry = λ first k.
      let e : Past = entry p.lane call.Halt reply.Noted in
      halting_more (rule (basis p)) p.lane means (mine p) (seen p) first h k
      (cause.Refused call.Ask) (mine p1) (seen p1) h nothing no_entry.1
      (subst (λ (s : Duty). HaltsBy means (cause.Refused call.Ask) s nothing) (sym asks)
      (refl, (refl, refl, refl)))
      (holds_quiet (rule (basis p)) p.lane (mine p) k.deeds (seen p) first h k.holds e nothing (seen p1)
      no_entry.0 tt h.berth (touches_none e h.berth refl)
      (record { starts = refl; gives = refl; feeds = λ m. refl }))
      k.all_said refl

  -- ---- what holds of an order

  module _ {K : Type 0} (told : K → ChildTold) (w : ℕ) (opened : Option ℕ)
      (lane : p.lane ≡ proxy_lane w) (shelved : IsShelved w p opened)
      (below : All (λ l. l < lines_in (seen p)) (started_in (mine p))) where
    -- what is owed, and what lies on the shelf then
    module _ (r : Reply) (made : MakesOne call.Ask r p p1) where
      duty_is : duty_of (mine p1) ≡ duty_by Asks call.Ask r
      duty_is = ap duty_of made.1 ∙ (duty_more (mine p) (entry p.lane call.Ask r)
          ∙ ap (λ (s : Duty). duty_by s call.Ask r) asks)

      child_is : child_at w (mine p1) ≡ child_by opened (ask_moves r)
      child_is = ap (child_at w) made.1 ∙ (child_more w p.lane (mine p) call.Ask r lane
          ∙ ap (λ (o : Option ℕ). child_by o (ask_moves r)) shelved)

      same_started : started_in (mine p1) ≡ started_in (mine p)
      same_started = ap started_in made.1 ∙ (started_more (mine p) (entry p.lane call.Ask r)
          ∙ append-nil (started_in (mine p)))

    by_launch : (r : Reply) (l : ℕ) (t : Attempt) (lines : ℕ)
        → HasGroup means.settings t → r ≡ reply.Launch l t.action t.branch t.number
        → MakesOne call.Ask r p p1 → OrderHolds (length (rules (basis p)).plan.actions) (child_at w (mine p)) lines r
        → lines_in (seen p) ≤ lines → lines_in (seen p1) ≡ lines_with r lines
        → (duty_of (mine p1) ≡ Launches l t) × (opened ≡ None) × IsShelved w p1 opened × IsNewLine l p1
        × HasGroup means.settings t
    by_launch r l t lines group is made holds later then =
        let so = subst (λ (x : Reply). OrderHolds (length (rules (basis p)).plan.actions) (child_at w (mine p)) lines x) is holds in
        let more = then ∙ ap (λ (x : Reply). lines_with x lines) is in
        let first : l ≡ lines = so.0 in (
          duty_is r made ∙ ap (duty_by Asks call.Ask) is,
          sym shelved ∙ so.1,
          child_is r made ∙ ap (λ (x : Reply). child_by opened (ask_moves x)) is,
          (
            subst (λ (ls : List ℕ). All (λ k. k < l) ls) (sym (same_started r made))
                (λ i d lt. let b = below i d lt in omega arith),
            omega arith,
          ),
          group,
        )

    abbrev FitsHere : Reply → Type 0
    FitsHere r = OrderFits (rules (basis p)).plan (is_remote ((rules (basis p)).kinds w)) r

    -- the attempt's group has a command
    group_of_it : AreOfPlan (rules (basis p)).plan means.settings → (t : Attempt)
        → RunsOn (rules (basis p)).plan (is_remote ((rules (basis p)).kinds w)) t → HasGroup means.settings t
    group_of_it of_plan t runs =
        has_group (rules (basis p)).plan (is_remote ((rules (basis p)).kinds w)) means.settings t of_plan runs

    pub may_obey : length means.actions ≡ (length (rules (basis p)).plan.actions)
        → AreOfPlan (rules (basis p)).plan means.settings → (o : Order K)
        → HasAsked rules told w (Some o) p p1 → MayObey means told w o p1 opened
    may_obey as_many of_plan (order.Launch l t) x =
        by_launch x.reply l t x.lines
        (group_of_it of_plan t (subst FitsHere x.is_ordered x.fits)) x.is_ordered x.made x.holds
        x.later x.lines_then
    may_obey as_many of_plan (order.Send l n t) x =
        let is = x.is_ordered in
        let so = subst (λ (y : Reply). OrderHolds (length (rules (basis p)).plan.actions) (child_at w (mine p)) x.lines y) is x.holds in (
          duty_is x.reply x.made ∙ ap (duty_by Asks call.Ask) is,
          sym shelved ∙ so.1,
          child_is x.reply x.made ∙ ap (λ (y : Reply). child_by opened (ask_moves y)) is,
          subst (λ (n : ℕ). t.action < n) (sym as_many) so.0,
          group_of_it of_plan t (subst FitsHere is x.fits),
        )
    may_obey as_many of_plan (order.Cancel l n) x =
        let is = x.is_ordered in
        let so = subst (λ (y : Reply). OrderHolds (length (rules (basis p)).plan.actions) (child_at w (mine p)) x.lines y) is x.holds in (
          duty_is x.reply x.made ∙ ap (duty_by Asks call.Ask) is,
          sym shelved ∙ so,
          child_is x.reply x.made ∙ ap (λ (y : Reply). child_by opened (ask_moves y)) is,
        )
    may_obey as_many of_plan (order.Gather y) x =
        let is = x.is_ordered in
        let so = subst (λ (y : Reply). OrderHolds (length (rules (basis p)).plan.actions) (child_at w (mine p)) x.lines y) is x.holds in (
          duty_is x.reply x.made ∙ ap (duty_by Asks call.Ask) is,
          child_is x.reply x.made ∙ ap (λ (y : Reply). child_by opened (ask_moves y)) is,
          subst (λ (n : ℕ). y.attempt.action < n) (sym as_many) so,
          group_of_it of_plan y.attempt (subst FitsHere is x.fits),
        )
    may_obey as_many of_plan (order.Kill l k) x =
        let is = x.is_ordered.0.1 in
        let so = subst (λ (y : Reply). OrderHolds (length (rules (basis p)).plan.actions) (child_at w (mine p)) x.lines y) is x.holds in (
          duty_is x.reply x.made ∙ ap (duty_by Asks call.Ask) is,
          sym shelved ∙ so,
          child_is x.reply x.made ∙ ap (λ (y : Reply). child_by opened (ask_moves y)) is,
          x.is_ordered.1,
        )

    -- where it was told to stop
    pub stopped : HasAsked {K = K} rules told w None p p1
        → (duty_of (mine p1) ≡ Left) × (opened ≡ None) × IsShelved w p1 opened
    stopped x =
        let is = x.is_ordered in
        let so = subst (λ (y : Reply). OrderHolds (length (rules (basis p)).plan.actions) (child_at w (mine p)) x.lines y) is x.holds in (
          duty_is x.reply x.made ∙ ap (duty_by Asks call.Ask) is,
          sym shelved ∙ so,
          child_is x.reply x.made ∙ ap (λ (y : Reply). child_by opened (ask_moves y)) is,
        )
