-- On each seating, with Ticks and without: a legal journal is lawful and keeps what is said of it, a
-- lane is told to stop where all is over, and the rule is a discipline.
use Rattle.std.proofs.Common.{◌≡◌, ℕ, ◌/◌, true, List, Option, Some, None, sym, subst}
use Rattle.run_plan.specs.declared.plan.Plan.{Plan}
use Rattle.run_plan.specs.Sound.{Sound}
use Rattle.exec_journal.specs.declared.call.Call.{Call}
use Rattle.exec_journal.specs.declared.call.Call.TheVariants as call
use Rattle.exec_journal.specs.declared.reply.Reply.{Reply}
use Rattle.exec_journal.specs.declared.reply.Reply.TheVariants as reply
use Rattle.exec_journal.specs.Entry.{Entry}
use Rattle.exec_journal.specs.Lawful.{Asked, Lawful, Told}
use Rattle.exec_journal.specs.Rules as r
use Rattle.exec_journal.specs.Settled.{earliest}
use Rattle.journal_laws.proofs.Berths as be
use Rattle.journal_laws.proofs.Keeping as ke
use Rattle.journal_laws.proofs.Ours as ours
use Rattle.core_contract.specs.Disciplines.{IsDiscipline, LegalBy}
use Rattle.core_contract.specs.Laws.{fits}
use Rattle.discipline_laws.proofs.OwnDiscipline as od
use Rattle.placed_rules.specs.declared.placed.Placed.{Placed}
use Rattle.placed_rules.specs.declared.placed.Seating.{Seating}
use Rattle.placed_rules.specs.declared.placed.Seating.TheVariants.{Own, Pools}
use Rattle.placed_rules.specs.Kept.{PlacedKept, kept_on}
use Rattle.placed_rules.specs.Placed.{fits_in, on_own, placed, placed_discipline, rule_in, shared_by}
use Rattle.placed_rules.proofs.Bounded.{few}
use Rattle.placed_rules.proofs.Nexts.{due_nexts}
use Rattle.placed_rules.proofs.OwnKeeping.{own_kept}
use Rattle.placed_rules.proofs.OwnLawful as own
use Rattle.placed_rules.proofs.OwnRuling.{delayed_is_discipline}
use Rattle.placed_rules.proofs.PoolKeeping as pk
use Rattle.placed_rules.proofs.PoolLawful as pool
use Rattle.placed_rules.proofs.PoolRuling.{pooled_is_discipline}

-- ---- a legal journal is lawful

lawful_in : (p : Plan) (seating : Seating) (ticks : Option ℕ) (j : List Entry)
    → LegalBy (placed_discipline (placed p seating ticks)) j → Lawful p j
lawful_in p Own None j legal = (ours.both_ours p j (od.own_legal p j legal)).0
lawful_in p Own (Some n) j legal = own.lawful p n j legal
lawful_in p (Pools pools instances) ticks j legal =
    pool.lawful (shared_by p pools instances) ticks j legal

pub lawful : (x : Placed) (j : List Entry) → LegalBy (placed_discipline x) j → Lawful x.plan j
lawful x j legal = lawful_in x.plan x.seating x.ticks j legal

-- ---- what is kept of each order

kept_in : (p : Plan) (seating : Seating) (ticks : Option ℕ) (j : List Entry) → Sound p
    → LegalBy (placed_discipline (placed p seating ticks)) j → kept_on p seating ticks j
kept_in p Own None j sound legal = (ours.kept p j sound (od.own_legal p j legal)).own_berths
kept_in p Own (Some n) j sound legal = own_kept p n j legal
kept_in p (Pools pools instances) ticks j sound legal =
    pk.kept (shared_by p pools instances) ticks j legal

pub kept : (x : Placed) (j : List Entry) → Sound x.plan → LegalBy (placed_discipline x) j
    → PlacedKept x j
kept x j sound legal = record {
  orders = ke.orders_kept x.plan j sound (lawful x j legal);
  seated = kept_in x.plan x.seating x.ticks j sound legal;
  ticks = few x j legal;
}

-- ---- a lane is told to stop where every lawful journal tells it so, whatever was called

own_stop : (p : Plan) (j : List Entry) (lane : ℕ) (c : Call) → Lawful p j → ours.SeatedAt p j
    → r.rule p j lane c ≡ reply.Stop → Told p j lane c reply.Stop
own_stop p j lane call.Ask lawful seated is =
    subst (λ (x : Reply). Asked p j (lane / 2) x) is
    (be.asked_own p j (lane / 2) (λ g. earliest p j g) (due_nexts p None j) lawful seated)
own_stop p j lane call.Tick lawful seated is = absurd (cc)
own_stop p j lane (call.Answer l x) lawful seated is = absurd (
    let fit : fits (call.Answer l x) reply.Stop ≡ true
    = subst (λ (y : Reply). fits (call.Answer l x) y ≡ true) is
    (od.rule_fits p j lane (call.Answer l x)) in cc)
own_stop p j lane (call.Look w) lawful seated is = sym is
own_stop p j lane (call.Claim a b t f) lawful seated is = sym is
own_stop p j lane call.Take lawful seated is = sym is
own_stop p j lane (call.Launched l how) lawful seated is = absurd (cc)
own_stop p j lane (call.Wrote l n how) lawful seated is = absurd (cc)
own_stop p j lane (call.Committed a b how) lawful seated is = absurd (cc)
own_stop p j lane (call.Killed l) lawful seated is = absurd (cc)
own_stop p j lane (call.Ended l how) lawful seated is = absurd (cc)
own_stop p j lane call.Halt lawful seated is = absurd (cc)

stop_in : (p : Plan) (seating : Seating) (ticks : Option ℕ) (j : List Entry) (lane : ℕ) (c : Call)
    → LegalBy (placed_discipline (placed p seating ticks)) j
    → rule_in p seating ticks j lane c ≡ reply.Stop → Told p j lane c reply.Stop
stop_in p Own None j lane c legal is =
    let both = ours.both_ours p j (od.own_legal p j legal) in
    own_stop p j lane c both.0 both.1 is
stop_in p Own (Some n) j lane c legal is = own.told_so p n j lane c reply.Stop legal is
stop_in p (Pools pools instances) ticks j lane c legal is =
    pool.stop_told (shared_by p pools instances) ticks j lane c is

pub stop_told : (x : Placed) (j : List Entry) (lane : ℕ) (c : Call)
    → LegalBy (placed_discipline x) j → rule_in x.plan x.seating x.ticks j lane c ≡ reply.Stop
    → Told x.plan j lane c reply.Stop
stop_told x j lane c legal is = stop_in x.plan x.seating x.ticks j lane c legal is

-- ---- the rule is a discipline

pub own_is_discipline : (p : Plan) (ticks : Option ℕ)
    → IsDiscipline (placed_discipline (on_own p ticks))
own_is_discipline p None = od.own_is_discipline p
own_is_discipline p (Some n) = delayed_is_discipline p n

discipline_in : (p : Plan) (seating : Seating) (ticks : Option ℕ) → fits_in p seating ≡ true
    → IsDiscipline (placed_discipline (placed p seating ticks))
discipline_in p Own ticks fit = own_is_discipline p ticks
discipline_in p (Pools pools instances) ticks fit =
    pooled_is_discipline (shared_by p pools instances) ticks fit

pub placed_is_discipline : (x : Placed) → fits_in x.plan x.seating ≡ true
    → IsDiscipline (placed_discipline x)
placed_is_discipline x fit = discipline_in x.plan x.seating x.ticks fit
