-- What own berths keep of each order is kept with a delay too.
use Rattle.std.proofs.Common.{◌≡◌, ℕ, ◌/◌, nat_lt, true, cond, List, [], ◌∷◌, Option, Some, None, refl, sym, ap, subst, ◌∙◌}
use Rattle.run_plan.specs.declared.plan.Plan.{Plan}
use Rattle.run_plan.specs.Groups.{berths}
use Rattle.exec_journal.specs.declared.call.Call.{Call}
use Rattle.exec_journal.specs.declared.call.Call.TheVariants as call
use Rattle.exec_journal.specs.declared.reply.Reply.{Reply}
use Rattle.exec_journal.specs.declared.reply.Reply.TheVariants as reply
use Rattle.exec_journal.specs.declared.reply.Why.TheVariants as why
use Rattle.exec_journal.specs.Entry.{Entry}
use Rattle.exec_journal.specs.History.{AtEach}
use Rattle.exec_journal.specs.Words.{last_line}
use Rattle.exec_journal.specs.Rules as r
use Rattle.exec_journal.specs.Kept.{own_berths_kept}
use Rattle.exec_journal.proofs.Ruled.{by_bool}
use Rattle.exec_journal.proofs.Reasons as u
use Rattle.journal_laws.proofs.Berths as be
use Rattle.core_contract.specs.Disciplines.{LegalBy}
use Rattle.placed_rules.specs.Due as de
use Rattle.placed_rules.specs.Own as ow
use Rattle.placed_rules.specs.Placed.{delayed_discipline}
use Rattle.placed_rules.proofs.OwnLawful.{entry_lawful, stands_so}
use Rattle.placed_rules.proofs.Nexts.{nexts}

idly_own : (p : Plan) (j : List Entry) (w : ℕ) (o : Option ℕ)
    → own_berths_kept p j w (ow.ask_idly p j o) ≡ true
idly_own p j w o =
    by_bool (r.is_over p j) (λ b. own_berths_kept p j w (cond b (r.leave j o) reply.Idle) ≡ true)
    (λ _. left o) (λ _. refl)
  where
    left : (o : Option ℕ) → own_berths_kept p j w (r.leave j o) ≡ true
    left None = refl
    left (Some l) =
        by_bool (r.runs j l)
        (λ b. own_berths_kept p j w (cond b (reply.Kill l why.Quit) reply.Stop) ≡ true)
        (λ _. refl) (λ _. refl)

ask_own : (p : Plan) (n : ℕ) (j : List Entry) (w : ℕ)
    → own_berths_kept p j w (ow.ask_at p n j w) ≡ true
ask_own p n j w =
    by_bool (nat_lt w (berths p))
    (λ b. own_berths_kept p j w (cond b (be.own_ask p j w (de.delayed_earliest p n j))
    (ow.ask_idly p j (last_line j w))) ≡ true)
    (λ _. (be.ask_own p j w (de.delayed_earliest p n j) (nexts p n j)).full)
    (λ _. idly_own p j w (last_line j w))

asked_own : (p : Plan) (n : ℕ) (j : List Entry) (lane : ℕ) (x : Reply)
    → x ≡ ow.ask_at p n j (lane / 2) → own_berths_kept p j (lane / 2) x ≡ true
asked_own p n j lane x is =
    subst (λ (v : Reply). own_berths_kept p j (lane / 2) v ≡ true) (sym is)
    (ask_own p n j (lane / 2))

-- a reply to another call orders nothing
own_so : (p : Plan) (n : ℕ) (j : List Entry) (lane : ℕ) (d : Call) (x : Reply)
    → (d ≡ call.Ask → x ≡ ow.ask_at p n j (lane / 2)) → u.Ruled p j lane d x
    → own_berths_kept p j (lane / 2) x ≡ true
own_so p n j lane d x is (u.Launches g t vacant next none) = asked_own p n j lane x (is refl)
own_so p n j lane d x is (u.Evicts l here alive empty free none) = asked_own p n j lane x (is refl)
own_so p n j lane d x is (u.KillsBroken l y here run broken over) =
    asked_own p n j lane x (is refl)
own_so p n j lane d x is (u.Notes e i) = refl
own_so p n j lane d x is _ = refl

pub own_kept : (p : Plan) (n : ℕ) (j : List Entry) → LegalBy (delayed_discipline p n) j
    → AtEach (λ before e. own_berths_kept p before (e.lane / 2) e.reply ≡ true) j
own_kept p n [] legal = tt
own_kept p n (e ∷ j) legal = (
  own_kept p n j legal.0,
  own_so p n j e.lane e.call e.reply
      (λ is. legal.1.replied ∙ ap (ow.delayed_rule p n j e.lane) is)
      (u.ruled p j e (entry_lawful p n j (stands_so p n j legal.0) e legal.1)),
)
