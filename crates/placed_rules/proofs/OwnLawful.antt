-- A legal journal with a delay is lawful, and each line of it runs its berth's group.
use Rattle.std.proofs.Common.{◌≡◌, ℕ, ◌/◌, nat_lt, true, cond, List, [], ◌∷◌, Option, Some, None, refl, sym, ap, subst, ◌∙◌, arith}
use Rattle.std.proofs.lemmas.Bool.{ltb-true}
use Rattle.run_plan.specs.declared.plan.Plan.{Plan}
use Rattle.run_plan.specs.Groups.{berths, berth_group}
use Rattle.exec_journal.specs.declared.attempt.Attempt.{Attempt}
use Rattle.exec_journal.specs.declared.call.Call.{Call}
use Rattle.exec_journal.specs.declared.call.Call.TheVariants as call
use Rattle.exec_journal.specs.declared.reply.Reply.{Reply}
use Rattle.exec_journal.specs.declared.reply.Reply.TheVariants as reply
use Rattle.exec_journal.specs.declared.reply.Why.TheVariants as why
use Rattle.exec_journal.specs.Entry.{Entry}
use Rattle.exec_journal.specs.Entries.{launch_in}
use Rattle.exec_journal.specs.Words.{last_line, launch_of, line_count}
use Rattle.exec_journal.specs.Seated.{group_for}
use Rattle.exec_journal.specs.Rules as r
use Rattle.exec_journal.specs.Lawful as lw
use Rattle.exec_journal.specs.Lawful.{Lawful, LawfulEntry, Told}
use Rattle.exec_journal.proofs.Ruled.{by_bool}
use Rattle.exec_journal.proofs.Reasons as u
use Rattle.journal_laws.proofs.Claims as c
use Rattle.journal_laws.proofs.Ours as ours
use Rattle.journal_laws.proofs.Berths as be
use Rattle.core_contract.specs.Disciplines.{LegalBy, LegalEntryBy}
use Rattle.discipline_laws.proofs.Fitting.{anywhere}
use Rattle.placed_rules.specs.Due as de
use Rattle.placed_rules.specs.Own as ow
use Rattle.placed_rules.specs.Placed.{delayed_discipline}
use Rattle.placed_rules.proofs.Nexts.{nexts}
use Rattle.placed_rules.proofs.Ticking.{tick_told}

pub record StandsSo (p : Plan) (j : List Entry) : Type 0 where
  pub lawful : Lawful p j
  pub seated : ours.SeatedAt p j

-- the berth behind the plan's berths is never given a line
idle_launches_none : (p : Plan) (j : List Entry) (o : Option ℕ) (y : ℕ × Attempt)
    → launch_in (ow.ask_idly p j o) ≡ Some y → ⊥
idle_launches_none p j o y h =
    by_bool (r.is_over p j) (λ b. launch_in (cond b (r.leave j o) reply.Idle) ≡ Some y → ⊥)
    (λ _ m. left o m) (λ _ m. cc) h
  where
    left : (o : Option ℕ) → launch_in (r.leave j o) ≡ Some y → ⊥
    left None m = cc
    left (Some l) m =
        by_bool (r.runs j l)
        (λ b. launch_in (cond b (reply.Kill l why.Quit) reply.Stop) ≡ Some y → ⊥)
        (λ _ k. cc) (λ _ k. cc) m

module _ (p : Plan) (n : ℕ) (j : List Entry) where
  leaves : (w : ℕ) (o : Option ℕ) → last_line j w ≡ o → r.is_over p j ≡ true
      → lw.Asked p j w (r.leave j o)
  leaves w None here over = lw.Stops over (ap (r.leave j) here)
  leaves w (Some l) here over =
      by_bool (r.runs j l) (λ b. lw.Asked p j w (cond b (reply.Kill l why.Quit) reply.Stop))
      (λ run. lw.Quits l here run over)
      (λ still. lw.Stops over (ap (r.leave j) here
      ∙ ap (λ b. cond b (reply.Kill l why.Quit) reply.Stop) still))

  pub idly : (w : ℕ) → lw.Asked p j w (ow.ask_idly p j (last_line j w))
  idly w =
      by_bool (r.is_over p j)
      (λ b. lw.Asked p j w (cond b (r.leave j (last_line j w)) reply.Idle))
      (λ over. leaves w (last_line j w) refl over) (λ _. lw.Idles)

  module _ (so : StandsSo p j) where
    pub ask_told : (w : ℕ) → lw.Asked p j w (ow.ask_at p n j w)
    ask_told w =
        by_bool (nat_lt w (berths p))
        (λ b. lw.Asked p j w (cond b (be.own_ask p j w (de.delayed_earliest p n j))
        (ow.ask_idly p j (last_line j w))))
        (λ _. be.asked_own p j w (de.delayed_earliest p n j) (nexts p n j) so.lawful so.seated)
        (λ _. idly w)

    -- whatever is called
    pub told : (lane : ℕ) (c : Call) → Told p j lane c (ow.delayed_rule p n j lane c)
    told lane call.Ask = ask_told (lane / 2)
    told lane call.Tick = tick_told p n j
    told lane _ = refl

    pub launched_at : (w : ℕ) (y : ℕ × Attempt) → launch_in (ow.ask_at p n j w) ≡ Some y
        → group_for p y.1 ≡ berth_group p w
    launched_at w y h =
        by_bool (nat_lt w (berths p))
        (λ b. nat_lt w (berths p) ≡ b
        → launch_in (cond b (be.own_ask p j w (de.delayed_earliest p n j))
        (ow.ask_idly p j (last_line j w))) ≡ Some y → group_for p y.1 ≡ berth_group p w)
        (λ _ lt m. (be.ask_own p j w (de.delayed_earliest p n j) (nexts p n j)).group y m
        ∙ sym (ours.berth_group_is p w (ltb-true w (berths p) lt)))
        (λ _ _ m. absurd (idle_launches_none p j (last_line j w) y m)) refl h

    module _ (e : Entry) (legal : LegalEntryBy (delayed_discipline p n) j e) where
      pub entry_lawful : LawfulEntry p j e
      entry_lawful = record {
        scripted = anywhere (delayed_discipline p n) j e.lane e.call legal.scripted;
        told = subst (λ (x : Reply). Told p j e.lane e.call x) (sym legal.replied)
            (told e.lane e.call);
        kept = legal.kept;
      }

      pub launched_there : (y : ℕ × Attempt) → launch_in e.reply ≡ Some y
          → group_for p y.1 ≡ berth_group p (e.lane / 2)
      launched_there y h =
          let is = c.launch_asks p j e.lane e.call e.reply y (u.ruled p j e entry_lawful) h in
          let asked : e.reply ≡ ow.ask_at p n j (e.lane / 2) = legal.replied
          ∙ ap (ow.delayed_rule p n j e.lane) is in
          launched_at (e.lane / 2) y (subst (λ (x : Reply). launch_in x ≡ Some y) asked h)

pub stands_so : (p : Plan) (n : ℕ) (j : List Entry) → LegalBy (delayed_discipline p n) j
    → StandsSo p j
unfolding ours.SeatedAt launch_of line_count
stands_so p n [] legal =
    record { lawful = tt; seated = λ l w own. absurd (let none = own.below in omega arith) }
stands_so p n (e ∷ j) legal =
    let so = stands_so p n j legal.0 in
    record {
      lawful = (so.lawful, entry_lawful p n j so e legal.1);
      seated = be.seats_stay p e j so.lawful so.seated (launched_there p n j so e legal.1);
    }

pub lawful : (p : Plan) (n : ℕ) (j : List Entry) → LegalBy (delayed_discipline p n) j
    → Lawful p j
lawful p n j legal = (stands_so p n j legal).lawful

-- a reply of the rule is one that every lawful journal gives
pub told_so : (p : Plan) (n : ℕ) (j : List Entry) (lane : ℕ) (c : Call) (x : Reply)
    → LegalBy (delayed_discipline p n) j → ow.delayed_rule p n j lane c ≡ x → Told p j lane c x
told_so p n j lane c x legal is =
    subst (λ (v : Reply). Told p j lane c v) is (told p n j (stands_so p n j legal) lane c)
