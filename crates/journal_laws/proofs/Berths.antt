-- Of each scheduling discipline where groups have berths of their own, whatever it calls next in a group.
use Rattle.std.proofs.Common.{◌≡◌, ℕ, ◌+◌, ◌/◌, ◌<◌, ◌==◌, nat_lt, Bool, true, false, ◌&&◌, ◌||◌, not, cond, List, [], ◌∷◌, Option, Some, None, option_map, unwrap_or, ◌⊎◌, inl, inr, refl, sym, ap, subst, ◌∙◌}
use Rattle.std.proofs.lemmas.Bool.{and_parts}
use Rattle.run_plan.specs.declared.plan.Plan.{Plan}
use Rattle.run_plan.specs.Groups.{berth_group, berths, kind_of, first_berth, berths_of}
use Rattle.exec_journal.specs.declared.attempt.Attempt.{Attempt}
use Rattle.exec_journal.specs.declared.call.Call.{Call}
use Rattle.exec_journal.specs.Entry.{Entry}
use Rattle.exec_journal.specs.declared.ends.Cause.{Cause}
use Rattle.exec_journal.specs.declared.ends.Cause.TheVariants as cause
use Rattle.exec_journal.specs.declared.reply.Reply.{Reply}
use Rattle.exec_journal.specs.declared.reply.Reply.TheVariants as reply
use Rattle.exec_journal.specs.declared.reply.Why.TheVariants as why
use Rattle.exec_journal.specs.Entries.{launch_in}
use Rattle.exec_journal.specs.Words.{last_line, line_count, line_cause, why_of}
use Rattle.exec_journal.specs.Settled.{some_free}
use Rattle.exec_journal.specs.Seated.{group_for, group_on, line_group, line_kind}
use Rattle.exec_journal.specs.Rules as r
use Rattle.exec_journal.specs.Kept.{own_berths_kept}
use Rattle.exec_journal.specs.Lawful as lw
use Rattle.exec_journal.specs.Lawful.{Lawful, Asked, IsNextOf, NoneBefore}
use Rattle.exec_journal.specs.Facts.{IsOfBerth}
use Rattle.exec_journal.proofs.Histories.{AtSome}
use Rattle.exec_journal.proofs.Ruled as ru
use Rattle.exec_journal.proofs.Ruled.{by_bool, not_true, GatherFor, For, gathers_from}
use Rattle.exec_journal.proofs.Reasons as u
use Rattle.journal_laws.proofs.Requests as q
use Rattle.journal_laws.proofs.Keeping as ke
use Rattle.journal_laws.proofs.Ours as ours

-- what is next in each group
pub record Nexts (p : Plan) (j : List Entry) (next : ℕ → Option Attempt) : Type 0 where
  pub is : (g : ℕ) (t : Attempt) → next g ≡ Some t → IsNextOf p j g t

abbrev pub own_ask : Plan → List Entry → ℕ → (ℕ → Option Attempt) → Reply
own_ask p j w next =
    r.ask_of p j w (kind_of p w) (ru.group_at p w) (last_line j w) (next (ru.group_at p w))
    (r.launches_of p j w (ru.group_at p w) (next (ru.group_at p w)) (last_line j w))

-- a line that it launches runs its berth's group, and comes where no live line of that has a free place
pub record IsOwn (p : Plan) (j : List Entry) (w : ℕ) (x : Reply) : Type 0 where
  pub group : (y : ℕ × Attempt) → launch_in x ≡ Some y → group_for p y.1 ≡ Some (ru.group_at p w)
  pub full : own_berths_kept p j w x ≡ true

module _ (p : Plan) (j : List Entry) (w : ℕ) (next : ℕ → Option Attempt) (nexts : Nexts p j next) where
  launch_order : NoneBefore p j w → (x : Reply) → r.launches_of p j w (ru.group_at p w) (next (ru.group_at p w)) (last_line j w) ≡ Some x → Asked p j w x
  launch_order none x h =
      let c = u.if_some _ (option_map (r.launch_order j) (next (ru.group_at p w))) x h in
      let tests = and_parts (r.is_vacant j (last_line j w)) _ c.0 in
      u.map_some (r.launch_order j) (next (ru.group_at p w)) x c.1 (λ v. Asked p j w v)
      (λ t is. lw.Launches (ru.group_at p w) t tests.0 (nexts.is (ru.group_at p w) t is) none)

  pub asked_own : Lawful p j → ours.SeatedAt p j → Asked p j w (own_ask p j w next)
  asked_own lawful seated =
      u.asked p j w (kind_of p w) (ru.group_at p w) (last_line j w) refl (λ l here. ours.berth_seated p j lawful seated w l here)
      (next (ru.group_at p w)) (r.launches_of p j w (ru.group_at p w) (next (ru.group_at p w)) (last_line j w))
      (λ l t here is. subst (λ g. IsNextOf p j g t) (ours.berth_seated p j lawful seated w l here).1 (nexts.is (ru.group_at p w) t is))
      (λ none x h. launch_order none x h)

  none_own : (x : Reply) → launch_in x ≡ None → own_berths_kept p j w x ≡ true → IsOwn p j w x
  none_own x none full = record { group = λ y is. absurd (let both : None ≡ Some y = sym none ∙ is in cc); full = full }

  quit_own : (o : Option ℕ) (x : Reply) → r.quits p j o ≡ Some x → IsOwn p j w x
  quit_own None x h = let c = u.when_some (r.is_over p j) reply.Stop x h in subst (λ v. IsOwn p j w v) c.1 (none_own reply.Stop refl refl)
  quit_own (Some l) x h =
      let c = u.when_some (r.is_over p j) (cond (r.runs j l) (reply.Kill l why.Quit) reply.Stop) x h in
      subst (λ v. IsOwn p j w v) c.1 (by_bool (r.runs j l) (λ b. IsOwn p j w (cond b (reply.Kill l why.Quit) reply.Stop)) (λ _. none_own (reply.Kill l why.Quit) refl refl) (λ _. none_own reply.Stop refl refl))

  reason_own : (l : ℕ) (y : Cause) → own_berths_kept p j w (reply.Kill l (why_of y)) ≡ true
  reason_own l cause.Breach = refl
  reason_own l cause.Feed = refl
  reason_own l _ = refl

  broken_own : (o : Option ℕ) (x : Reply) → r.kills_broken j o ≡ Some x → IsOwn p j w x
  broken_own None x h = absurd (cc)
  broken_own (Some l) x h =
      let c = u.if_some (r.runs j l) (option_map (λ y. reply.Kill l (why_of y)) (line_cause j l)) x h in
      u.map_some (λ y. reply.Kill l (why_of y)) (line_cause j l) x c.1 (λ v. IsOwn p j w v) (λ y _. none_own (reply.Kill l (why_of y)) refl (reason_own l y))

  unwanted_own : (o : Option ℕ) (x : Reply) → r.kills_unwanted_of p j (kind_of p w) (ru.group_at p w) o ≡ Some x → IsOwn p j w x
  unwanted_own None x h = absurd (cc)
  unwanted_own (Some l) x h = let c = u.when_some _ (reply.Kill l why.Unwanted) x h in subst (λ v. IsOwn p j w v) c.1 (none_own (reply.Kill l why.Unwanted) refl refl)

  gather_own : (i : List Entry) (x : Reply) → AtSome (λ _ e. ((e.lane / 2 == w) ≡ true) × GatherFor j e.call e.reply x) i → IsOwn p j w x
  gather_own (e ∷ i) x (inl g) = of_form e.call e.reply x g.1
    where
      of_form : (c : Call) (y x : Reply) → GatherFor j c y x → IsOwn p j w x
      of_form c y x (For l m a b t wait) = none_own _ refl refl
  gather_own (e ∷ i) x (inr g) = gather_own i x g
  gather_own [] x g = absurd g

  cancel_own : (o : Option ℕ) (x : Reply) → r.cancels_next_of p j (kind_of p w) (ru.group_at p w) o ≡ Some x → IsOwn p j w x
  cancel_own None x h = absurd (cc)
  cancel_own (Some l) x h =
      let c = u.if_some _ (option_map r.cancel_for _) x h in u.map_some r.cancel_for _ x c.1 (λ v. IsOwn p j w v) (λ y _. none_own (r.cancel_for y) refl refl)

  send_own : (o : Option ℕ) (x : Reply) → r.sends_next_of p j (kind_of p w) (next (ru.group_at p w)) o ≡ Some x → IsOwn p j w x
  send_own None x h = absurd (cc)
  send_own (Some l) x h =
      let c = u.if_some _ (option_map (r.send_order_of j (kind_of p w) l) _) x h in
      u.map_some (r.send_order_of j (kind_of p w) l) _ x c.1 (λ v. IsOwn p j w v) (λ t _. none_own (r.send_order_of j (kind_of p w) l t) refl refl)

  launch_own : (x : Reply) → r.launches_of p j w (ru.group_at p w) (next (ru.group_at p w)) (last_line j w) ≡ Some x → IsOwn p j w x
  launch_own x h =
      let c = u.if_some _ (option_map (r.launch_order j) (next (ru.group_at p w))) x h in
      let tests = and_parts (r.is_vacant j (last_line j w)) _ c.0 in
      u.map_some (r.launch_order j) (next (ru.group_at p w)) x c.1 (λ v. IsOwn p j w v)
      (λ t is. record {
        group = λ y at. (let s : t ≡ y.1 = cc in subst (λ (z : Attempt). group_for p z ≡ Some (ru.group_at p w)) s
            (ke.group_runs p t (ru.group_at p w) (ke.queue_runs p j (ru.group_at p w) t (nexts.is (ru.group_at p w) t is))));
        full = tests.1;
      })

  pub ask_own : IsOwn p j w (own_ask p j w next)
  ask_own =
      u.ask_chain (λ v. IsOwn p j w v) p j w (kind_of p w) (ru.group_at p w) (last_line j w) (next (ru.group_at p w)) _
      (quit_own (last_line j w)) (broken_own (last_line j w)) (unwanted_own (last_line j w)) (λ x h. gather_own j x (gathers_from j w x h))
      (cancel_own (last_line j w)) (send_own (last_line j w)) launch_own (none_own reply.Idle refl refl)

-- ---- each line runs its berth's group

pub seats_stay : (p : Plan) (e : Entry) (j : List Entry) → Lawful p j → ours.SeatedAt p j
    → ((y : ℕ × Attempt) → launch_in e.reply ≡ Some y → group_for p y.1 ≡ berth_group p (e.lane / 2)) → ours.SeatedAt p (e ∷ j)
unfolding ours.SeatedAt
seats_stay p e j lawful seated new l w own =
    let at = own.owner.2 in
    q.group_is p (e ∷ j) l own.owner.0 own.owner.1 at ∙ by (q.launch_cases p e j l own.owner.0 own.owner.1 at)
  where
    by : q.Launches p e j l own.owner.0 own.owner.1 → group_for p own.owner.1 ≡ berth_group p w
    by (q.Now is lane) =
        let berth : e.lane / 2 ≡ w = ap (λ n. n / 2) lane ∙ own.owner.3 in
        new (l, own.owner.1) is ∙ ap (berth_group p) berth
    by (q.Before old) =
        let named : IsOfBerth j l w = record { below = q.launched_below p j l own.owner.0 own.owner.1 lawful old; owner = (own.owner.0, own.owner.1, old, own.owner.3) } in
        sym (q.group_is p j l own.owner.0 own.owner.1 old) ∙ seated l w named
