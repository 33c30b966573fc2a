-- What the rule with a delay gives is what a discipline gives.
use Rattle.std.proofs.Common.{◌≡◌, ℕ, ◌/◌, ◌<◌, ◌==◌, nat_lt, Bool, true, cond, List, [], ◌∷◌, Option, Some, None, option_map, inl, inr, refl, sym, subst, ◌∙◌}
use Rattle.std.proofs.lemmas.Bool.{ltb-true}
use Rattle.run_plan.specs.declared.plan.Plan.{Plan}
use Rattle.run_plan.specs.declared.plan.Kind.{Kind}
use Rattle.run_plan.specs.Groups.{berth_group, berths, is_remote, kind_of}
use Rattle.exec_journal.specs.declared.attempt.Attempt.{Attempt}
use Rattle.exec_journal.specs.declared.call.Call.{Call}
use Rattle.exec_journal.specs.declared.call.Call.TheVariants as call
use Rattle.exec_journal.specs.declared.reply.Reply.{Reply}
use Rattle.exec_journal.specs.declared.reply.Reply.TheVariants as reply
use Rattle.exec_journal.specs.declared.reply.Why.TheVariants as why
use Rattle.exec_journal.specs.Entry.{Entry}
use Rattle.exec_journal.specs.Lawful.{plain_reply}
use Rattle.exec_journal.specs.Kept.{group_at}
use Rattle.exec_journal.specs.Seated.{group_for}
use Rattle.exec_journal.specs.Words.{last_line, line_cause, why_of}
use Rattle.exec_journal.proofs.Histories.{AtSome}
use Rattle.exec_journal.specs.Rules as r
use Rattle.exec_journal.proofs.Reasons as u
use Rattle.exec_journal.proofs.Ruled.{For, GatherFor, by_bool, gathers_from}
use Rattle.journal_laws.proofs.Berths as be
use Rattle.journal_laws.proofs.Ours as ours
use Rattle.core_contract.specs.Disciplines.{IsDiscipline, is_plain}
use Rattle.core_contract.specs.Laws.{OrderFits, fits}
use Rattle.discipline_laws.proofs.Fitting.{plain_fits}
use Rattle.discipline_laws.proofs.OwnSeats.{runs_on}
use Rattle.discipline_laws.proofs.Seating.{IsOnLine, order_fits}
use Rattle.placed_rules.specs.Due as de
use Rattle.placed_rules.specs.Own as ow
use Rattle.placed_rules.specs.Own.{delayed_rule}
use Rattle.placed_rules.specs.Placed.{delayed_discipline}
use Rattle.placed_rules.proofs.OwnLawful as lf
use Rattle.placed_rules.proofs.Nexts.{nexts}
use Rattle.placed_rules.proofs.Ticking.{tick_fits}

rule_plain : (p : Plan) (n : ℕ) (j : List Entry) (lane : ℕ) (c : Call) → is_plain c ≡ true
    → delayed_rule p n j lane c ≡ plain_reply p j lane c
rule_plain p n j lane call.Ask h = absurd (cc)
rule_plain p n j lane call.Tick h = absurd (cc)
rule_plain p n j lane _ h = refl

-- ---- whatever is asked, an order is the answer, or that there is none

abbrev Orders : Reply → Type 0
Orders x = fits call.Ask x ≡ true

module _ (p : Plan) (j : List Entry) where
  leave_orders : (o : Option ℕ) → Orders (r.leave j o)
  leave_orders None = refl
  leave_orders (Some l) =
      by_bool (r.runs j l) (λ b. Orders (cond b (reply.Kill l why.Quit) reply.Stop)) (λ _. refl)
      (λ _. refl)

  quit_orders : (o : Option ℕ) (x : Reply) → r.quits p j o ≡ Some x → Orders x
  quit_orders o x h =
      let c = u.when_some (r.is_over p j) (r.leave j o) x h in subst Orders c.1 (leave_orders o)

  broken_orders : (o : Option ℕ) (x : Reply) → r.kills_broken j o ≡ Some x → Orders x
  broken_orders None x h = absurd (cc)
  broken_orders (Some l) x h =
      let c = u.if_some (r.runs j l) (option_map (λ y. reply.Kill l (why_of y)) (line_cause j l)) x
      h in
      u.map_some (λ y. reply.Kill l (why_of y)) (line_cause j l) x c.1 (λ v. Orders v) (λ y _. refl)

  unwanted_orders : (k : Kind) (g : ℕ) (o : Option ℕ) (x : Reply)
      → r.kills_unwanted_of p j k g o ≡ Some x → Orders x
  unwanted_orders k g None x h = absurd (cc)
  unwanted_orders k g (Some l) x h =
      let c = u.when_some _ (reply.Kill l why.Unwanted) x h in subst Orders c.1 refl

  gather_orders : (w : ℕ) (i : List Entry) (x : Reply)
      → AtSome (λ _ e. ((e.lane / 2 == w) ≡ true) × GatherFor j e.call e.reply x) i → Orders x
  gather_orders w (e ∷ i) x (inl h) = of_form e.call e.reply x h.1
    where
      of_form : (c : Call) (y x : Reply) → GatherFor j c y x → Orders x
      of_form c y x (For l m a b t wait) = refl
  gather_orders w (e ∷ i) x (inr h) = gather_orders w i x h
  gather_orders w [] x h = absurd h

  cancel_orders : (k : Kind) (g : ℕ) (o : Option ℕ) (x : Reply)
      → r.cancels_next_of p j k g o ≡ Some x → Orders x
  cancel_orders k g None x h = absurd (cc)
  cancel_orders k g (Some l) x h =
      let c = u.if_some _ (option_map r.cancel_for _) x h in
      u.map_some r.cancel_for _ x c.1 (λ v. Orders v) (λ y _. refl)

  send_orders : (k : Kind) (next : Option Attempt) (o : Option ℕ) (x : Reply)
      → r.sends_next_of p j k next o ≡ Some x → Orders x
  send_orders k next None x h = absurd (cc)
  send_orders k next (Some l) x h =
      let c = u.if_some _ (option_map (r.send_order_of j k l) _) x h in
      u.map_some (r.send_order_of j k l) _ x c.1 (λ v. Orders v) (λ t _. refl)

  launch_orders : (w g : ℕ) (next : Option Attempt) (o : Option ℕ) (x : Reply)
      → r.launches_of p j w g next o ≡ Some x → Orders x
  launch_orders w g next o x h =
      let c = u.if_some _ (option_map (r.launch_order j) next) x h in
      u.map_some (r.launch_order j) next x c.1 (λ v. Orders v) (λ t _. refl)

  ask_orders : (w : ℕ) (k : Kind) (g : ℕ) (next : Option Attempt) (o : Option ℕ)
      → Orders (r.ask_of p j w k g o next (r.launches_of p j w g next o))
  ask_orders w k g next o =
      u.ask_chain Orders p j w k g o next (r.launches_of p j w g next o) (quit_orders o)
      (broken_orders o) (unwanted_orders k g o)
      (λ x h. gather_orders w j x (gathers_from j w x h)) (cancel_orders k g o)
      (send_orders k next o) (launch_orders w g next o) refl

ask_fits : (p : Plan) (n : ℕ) (j : List Entry) (w : ℕ) → Orders (ow.ask_at p n j w)
ask_fits p n j w =
    by_bool (nat_lt w (berths p))
    (λ b. Orders (cond b (ow.ask_delayed p n j w (group_at p w) (last_line j w))
    (ow.ask_idly p j (last_line j w))))
    (λ _. ask_orders p j w (kind_of p w) (group_at p w) (de.delayed_earliest p n j (group_at p w))
    (last_line j w))
    (λ _. by_bool (r.is_over p j)
    (λ b. Orders (cond b (r.leave j (last_line j w)) reply.Idle))
    (λ _. leave_orders p j (last_line j w)) (λ _. refl))

rule_fits : (p : Plan) (n : ℕ) (j : List Entry) (lane : ℕ) (c : Call)
    → fits c (delayed_rule p n j lane c) ≡ true
rule_fits p n j lane call.Ask = ask_fits p n j (lane / 2)
rule_fits p n j lane call.Tick = tick_fits p n j
rule_fits p n j lane c = plain_fits p j lane c (λ e. cc)

-- ---- seats

-- the berth behind the plan's berths is given no order of an attempt
idle_fits : (p : Plan) (j : List Entry) (remote : Bool) (o : Option ℕ)
    → OrderFits p remote (ow.ask_idly p j o)
idle_fits p j remote o =
    by_bool (r.is_over p j) (λ b. OrderFits p remote (cond b (r.leave j o) reply.Idle))
    (λ _. left o) (λ _. tt)
  where
    left : (o : Option ℕ) → OrderFits p remote (r.leave j o)
    left None = tt
    left (Some l) =
        by_bool (r.runs j l)
        (λ b. OrderFits p remote (cond b (reply.Kill l why.Quit) reply.Stop)) (λ _. tt) (λ _. tt)

orders_fit : (p : Plan) (n : ℕ) (j : List Entry) (w : ℕ) → lf.StandsSo p j
    → OrderFits p (is_remote (kind_of p w)) (ow.ask_at p n j w)
unfolding ours.SeatedAt
orders_fit p n j w so =
    by_bool (nat_lt w (berths p)) (λ b. nat_lt w (berths p) ≡ b
    → OrderFits p (is_remote (kind_of p w)) (cond b (be.own_ask p j w (de.delayed_earliest p n j))
    (ow.ask_idly p j (last_line j w))))
    (λ _ lt. of_plan (ltb-true w (berths p) lt))
    (λ _ _. idle_fits p j (is_remote (kind_of p w)) (last_line j w)) refl
  where
    on_berth : (t : Attempt) → IsOnLine p j w t → group_for p t ≡ berth_group p w
    on_berth t on = on.group ∙ so.seated on.line w on.own

    of_plan : w < berths p
        → OrderFits p (is_remote (kind_of p w)) (be.own_ask p j w (de.delayed_earliest p n j))
    of_plan lt =
        order_fits p j w (is_remote (kind_of p w)) so.lawful
        (λ t on. runs_on p w t lt (on_berth t on))
        (be.own_ask p j w (de.delayed_earliest p n j))
        (be.asked_own p j w (de.delayed_earliest p n j) (nexts p n j) so.lawful so.seated)
        (λ y is. runs_on p w y.1 lt
        ((be.ask_own p j w (de.delayed_earliest p n j) (nexts p n j)).group y is
        ∙ sym (ours.berth_group_is p w lt)))

-- ---- all of it

pub delayed_is_discipline : (p : Plan) (n : ℕ) → IsDiscipline (delayed_discipline p n)
delayed_is_discipline p n = record {
  told = λ j lane d legal may. lf.told p n j (lf.stands_so p n j legal) lane d;
  plain = λ j lane d h. rule_plain p n j lane d h;
  fitting = λ j lane d. rule_fits p n j lane d;
  seated = λ j lane sound legal may. orders_fit p n j (lane / 2) (lf.stands_so p n j legal);
}
