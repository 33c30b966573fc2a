-- The own discipline in any order of calling is a discipline, and keeps what each one keeps.
use Rattle.std.proofs.Common.{◌≡◌, ℕ, ◌/◌, ◌==◌, true, List, [], ◌∷◌, Option, Some, None, option_map, inl, inr, refl, sym, subst, ◌∙◌, arith, cond}
use Rattle.run_plan.specs.declared.plan.Plan.{Plan}
use Rattle.run_plan.specs.Groups.{kind_of}
use Rattle.run_plan.specs.Sound.{Sound}
use Rattle.exec_journal.specs.declared.attempt.Attempt.{Attempt}
use Rattle.exec_journal.specs.declared.call.Call.{Call}
use Rattle.exec_journal.specs.declared.call.Call.TheVariants as call
use Rattle.exec_journal.specs.declared.ends.Cause.{Cause}
use Rattle.exec_journal.specs.declared.ends.Cause.TheVariants as cause
use Rattle.exec_journal.specs.Entry.{Entry}
use Rattle.exec_journal.specs.Entries.{launch_in}
use Rattle.exec_journal.specs.History.{AtEach}
use Rattle.exec_journal.specs.declared.reply.Reply.{Reply}
use Rattle.exec_journal.specs.declared.reply.Reply.TheVariants as reply
use Rattle.exec_journal.specs.declared.reply.Why.TheVariants as why
use Rattle.exec_journal.specs.Kept.{Kept, own_berths_kept}
use Rattle.exec_journal.specs.Lawful.{Lawful, LawfulEntry, Told, plain_reply}
use Rattle.exec_journal.specs.Rules as r
use Rattle.exec_journal.specs.Scripts as sc
use Rattle.exec_journal.specs.Seated.{group_for}
use Rattle.exec_journal.specs.Words.{last_line, launch_of, line_cause, line_count, why_of}
use Rattle.exec_journal.proofs.Begins.{earliest_next}
use Rattle.exec_journal.proofs.Histories.{AtSome}
use Rattle.exec_journal.proofs.Reasons as u
use Rattle.exec_journal.proofs.Ruled as ru
use Rattle.exec_journal.proofs.Ruled.{by_bool, For, GatherFor, gathers_from}
use Rattle.journal_laws.proofs.Berths as own
use Rattle.journal_laws.proofs.Keeping as ke
use Rattle.journal_laws.proofs.Ours as ours
use Rattle.core_contract.specs.Laws.{fits}
use Rattle.core_contract.specs.Disciplines.{IsDiscipline, LegalBy, LegalEntryBy, is_plain}
use Rattle.discipline_laws.specs.OwnOrders.{IsOrder, Order, discipline_by, rule_by}
use Rattle.discipline_laws.proofs.OwnDiscipline.{rule_fits}
use Rattle.discipline_laws.proofs.OwnSeats.{next_orders_fit}

-- ---- a reply to an Ask is one to an Ask, whatever is next

module _ (p : Plan) (j : List Entry) (w : ℕ) where
  abbrev Fitting : Reply → Type 0
  Fitting x = fits call.Ask x ≡ true

  quit_fits : (o : Option ℕ) (x : Reply) → r.quits p j o ≡ Some x → Fitting x
  quit_fits None x h = let c = u.when_some (r.is_over p j) reply.Stop x h in subst Fitting c.1 refl
  quit_fits (Some l) x h =
      let c = u.when_some (r.is_over p j) (cond (r.runs j l) (reply.Kill l why.Quit) reply.Stop) x h
      in subst Fitting c.1 (by_bool (r.runs j l)
      (λ b. Fitting (cond b (reply.Kill l why.Quit) reply.Stop)) (λ _. refl) (λ _. refl))

  broken_fits : (o : Option ℕ) (x : Reply) → r.kills_broken j o ≡ Some x → Fitting x
  broken_fits None x h = absurd (cc)
  broken_fits (Some l) x h =
      let c = u.if_some (r.runs j l) (option_map (λ y. reply.Kill l (why_of y)) (line_cause j l)) x
      h in
      u.map_some (λ y. reply.Kill l (why_of y)) (line_cause j l) x c.1 (λ v. Fitting v) (λ y _. refl)

  unwanted_fits : (o : Option ℕ) (x : Reply)
      → r.kills_unwanted_of p j (kind_of p w) (ru.group_at p w) o ≡ Some x → Fitting x
  unwanted_fits None x h = absurd (cc)
  unwanted_fits (Some l) x h =
      let c = u.when_some _ (reply.Kill l why.Unwanted) x h in subst Fitting c.1 refl

  gather_fits : (i : List Entry) (x : Reply)
      → AtSome (λ _ e. ((e.lane / 2 == w) ≡ true) × GatherFor j e.call e.reply x) i → Fitting x
  gather_fits [] x g = absurd g
  gather_fits (e ∷ i) x (inl g) = of_form e.call e.reply x g.1
    where
      of_form : (c : Call) (y x : Reply) → GatherFor j c y x → Fitting x
      of_form c y x (For l m a b t wait) = refl
  gather_fits (e ∷ i) x (inr g) = gather_fits i x g

  cancel_fits : (o : Option ℕ) (x : Reply)
      → r.cancels_next_of p j (kind_of p w) (ru.group_at p w) o ≡ Some x → Fitting x
  cancel_fits None x h = absurd (cc)
  cancel_fits (Some l) x h =
      let c = u.if_some _ (option_map r.cancel_for _) x h in
      u.map_some r.cancel_for _ x c.1 (λ v. Fitting v) (λ y _. refl)

  send_fits : (next : Option Attempt) (o : Option ℕ) (x : Reply)
      → r.sends_next_of p j (kind_of p w) next o ≡ Some x → Fitting x
  send_fits next None x h = absurd (cc)
  send_fits next (Some l) x h =
      let c = u.if_some _ (option_map (r.send_order_of j (kind_of p w) l) _) x h in
      u.map_some (r.send_order_of j (kind_of p w) l) _ x c.1 (λ v. Fitting v) (λ t _. refl)

  launch_fits : (next : Option Attempt) (x : Reply)
      → r.launches_of p j w (ru.group_at p w) next (last_line j w) ≡ Some x → Fitting x
  launch_fits next x h =
      let c = u.if_some _ (option_map (r.launch_order j) next) x h in
      u.map_some (r.launch_order j) next x c.1 (λ v. Fitting v) (λ t _. refl)

  ask_fits : (next : ℕ → Option Attempt) → Fitting (own.own_ask p j w next)
  ask_fits next =
      u.ask_chain (λ v. Fitting v) p j w (kind_of p w) (ru.group_at p w) (last_line j w)
      (next (ru.group_at p w)) _ (quit_fits (last_line j w)) (broken_fits (last_line j w))
      (unwanted_fits (last_line j w)) (λ x h. gather_fits j x (gathers_from j w x h))
      (cancel_fits (last_line j w)) (send_fits (next (ru.group_at p w)) (last_line j w))
      (launch_fits (next (ru.group_at p w))) refl

-- ---- the replies to other calls are those of the own discipline

module _ (p : Plan) (j : List Entry) (lane : ℕ) where
  rule_group : (c : Call) (x : Reply) (y : ℕ × Attempt) → ru.Ruled p j lane c x
      → launch_in x ≡ Some y → group_for p y.1 ≡ Some (ru.group_at p (lane / 2))
  rule_group c x y (ru.Launches t vacant full next none) h =
      let g = ru.group_at p (lane / 2) in
      let s : t ≡ y.1 = cc in
      subst (λ (z : Attempt). group_for p z ≡ Some g) s
      (ke.group_runs p t g (ke.queue_runs p j g t (earliest_next p j g t next)))
  rule_group c x y (ru.KillsBroken l z here run broken over) h = absurd (cc)
  rule_group c x y _ h = absurd (cc)

  reason_kept : (l : ℕ) (y : Cause)
      → own_berths_kept p j (lane / 2) (reply.Kill l (why_of y)) ≡ true
  reason_kept l cause.Breach = refl
  reason_kept l cause.Feed = refl
  reason_kept l _ = refl

  rule_kept : (c : Call) (x : Reply) → ru.Ruled p j lane c x
      → own_berths_kept p j (lane / 2) x ≡ true
  rule_kept c x (ru.Launches t vacant full next none) = rw full refl
  rule_kept c x (ru.KillsBroken l y here run broken over) = reason_kept l y
  rule_kept c x (ru.Notes d n) = refl
  rule_kept c x _ = refl

-- ---- a legal journal is lawful, and each line runs its berth's group

module _ (next : Order) (order : IsOrder next) (p : Plan) where
  nexts : (j : List Entry) → Lawful p j → own.Nexts p j (next p j)
  nexts j lawful = record { is = λ g t is. order.is p j g t lawful is }

  told : (j : List Entry) → Lawful p j → ours.SeatedAt p j → (lane : ℕ) (c : Call)
      → sc.script p j lane c ≡ true → Told p j lane c (rule_by next p j lane c)
  told j lawful seated lane call.Ask h =
      own.asked_own p j (lane / 2) (next p j) (nexts j lawful) lawful seated
  told j lawful seated lane c h = ours.told_ours p j lawful seated lane c h

  launched : (j : List Entry) → Lawful p j → (lane : ℕ) (c : Call) (y : ℕ × Attempt)
      → launch_in (rule_by next p j lane c) ≡ Some y
      → group_for p y.1 ≡ Some (ru.group_at p (lane / 2))
  launched j lawful lane call.Ask y h =
      (own.ask_own p j (lane / 2) (next p j) (nexts j lawful)).group y h
  launched j lawful lane c y h = rule_group p j lane c (r.rule p j lane c) y (ru.ruled p j lane c) h

  entry_lawful : (j : List Entry) (e : Entry) → Lawful p j → ours.SeatedAt p j
      → LegalEntryBy (discipline_by next p) j e → LawfulEntry p j e
  entry_lawful j e lawful seated legal = record {
    scripted = ours.scripted_anywhere p j e.lane e.call legal.scripted;
    told = subst (λ (x : Reply). Told p j e.lane e.call x) (sym legal.replied)
        (told j lawful seated e.lane e.call legal.scripted);
    kept = legal.kept;
  }

  pub both_next : (j : List Entry) → LegalBy (discipline_by next p) j
      → Lawful p j × ours.SeatedAt p j
  unfolding ours.SeatedAt launch_of line_count
  both_next [] legal = (tt, λ l w own. absurd (let none = own.below in omega arith))
  both_next (e ∷ j) legal =
      let before = both_next j legal.0 in
      let after : Lawful p (e ∷ j) =
      (before.0, entry_lawful j e before.0 before.1 legal.1) in
      let lt = ours.lane_of_plan p j e.lane e.call legal.1.scripted in (
        after,
        own.seats_stay p e j before.0 before.1 (λ y is. launched j before.0 e.lane e.call y
            (subst (λ (x : Reply). launch_in x ≡ Some y) legal.1.replied is)
            ∙ sym (ours.berth_group_is p (e.lane / 2) lt)),
      )

  -- ---- so it is a discipline

  plain_is : (j : List Entry) (lane : ℕ) (c : Call) → is_plain c ≡ true
      → rule_by next p j lane c ≡ plain_reply p j lane c
  plain_is j lane call.Ask h = absurd (cc)
  plain_is j lane call.Tick h = absurd (cc)
  plain_is j lane (call.Answer l x) h = absurd (cc)
  plain_is j lane _ h = refl

  fitting : (j : List Entry) (lane : ℕ) (c : Call) → fits c (rule_by next p j lane c) ≡ true
  fitting j lane call.Ask = ask_fits p j (lane / 2) (next p j)
  fitting j lane c = rule_fits p j lane c

  pub next_is_discipline : IsDiscipline (discipline_by next p)
  next_is_discipline = record {
    told = λ j lane c legal may. (let both = both_next j legal in
        told j both.0 both.1 lane c may);
    plain = λ j lane c h. plain_is j lane c h;
    fitting = λ j lane c. fitting j lane c;
    seated = λ j lane sound legal may. (let both = both_next j legal in
        next_orders_fit p j lane (next p j) (nexts j both.0) both.0 both.1 may);
  }

  -- ---- and keeps what each one keeps

  asks_kept : (j : List Entry) → Lawful p j → (lane : ℕ) (c : Call)
      → own_berths_kept p j (lane / 2) (rule_by next p j lane c) ≡ true
  asks_kept j lawful lane call.Ask =
      (own.ask_own p j (lane / 2) (next p j) (nexts j lawful)).full
  asks_kept j lawful lane c = rule_kept p j lane c (r.rule p j lane c) (ru.ruled p j lane c)

  each_kept : (j : List Entry) → LegalBy (discipline_by next p) j
      → AtEach (λ before e. own_berths_kept p before (e.lane / 2) e.reply ≡ true) j
  each_kept [] legal = tt
  each_kept (e ∷ j) legal = (
    each_kept j legal.0,
    subst (λ (x : Reply). own_berths_kept p j (e.lane / 2) x ≡ true) (sym legal.1.replied)
        (asks_kept j (both_next j legal.0).0 e.lane e.call),
  )

  pub next_kept : (j : List Entry) → Sound p → LegalBy (discipline_by next p) j → Kept p j
  next_kept j sound legal = record {
    orders = ke.orders_kept p j sound (both_next j legal).0;
    own_berths = each_kept j legal;
  }
