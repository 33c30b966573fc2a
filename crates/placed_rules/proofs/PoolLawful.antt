-- A legal journal of shared berths is lawful.
use Rattle.std.proofs.Common.{◌≡◌, ℕ, ◌/◌, true, List, [], ◌∷◌, Option, Some, None, option_map, inl, inr, refl, sym, ap, subst}
use Rattle.exec_journal.specs.declared.call.Call.{Call}
use Rattle.exec_journal.specs.declared.call.Call.TheVariants as call
use Rattle.exec_journal.specs.declared.reply.Reply.{Reply}
use Rattle.exec_journal.specs.declared.reply.Reply.TheVariants as reply
use Rattle.exec_journal.specs.declared.reply.Why.TheVariants as why
use Rattle.exec_journal.specs.Entry.{Entry}
use Rattle.exec_journal.specs.Words.{last_line}
use Rattle.exec_journal.specs.Rules as r
use Rattle.exec_journal.specs.Lawful as lw
use Rattle.exec_journal.specs.Lawful.{Lawful, LawfulEntry, Told, Asked, IsNextOf, NoneBefore}
use Rattle.exec_journal.proofs.Reasons as u
use Rattle.journal_laws.proofs.Carried as k
use Rattle.core_contract.specs.Disciplines.{LegalBy, LegalEntryBy, script_of}
use Rattle.discipline_laws.proofs.Fitting.{anywhere}
use Rattle.placed_rules.specs.declared.pools.SharedPlan.{SharedPlan}
use Rattle.placed_rules.specs.declared.pools.SharedPool.{SharedPool}
use Rattle.placed_rules.specs.Pools as po
use Rattle.placed_rules.specs.Due as du
use Rattle.placed_rules.specs.Needs as ne
use Rattle.placed_rules.specs.Shared as sh
use Rattle.placed_rules.specs.Placed.{pooled_discipline}
use Rattle.placed_rules.proofs.Nexts.{due_nexts}
use Rattle.placed_rules.proofs.Ticking as ti
use Rattle.placed_rules.proofs.Reasons as re

module _ (s : SharedPlan) (ticks : Option ℕ) (j : List Entry) where
  evict_asked : (w : ℕ) (pool : SharedPool) (o : Option ℕ) → last_line j w ≡ o
      → NoneBefore s.plan j w → (x : Reply) → sh.evicts s ticks j w pool o ≡ Some x
      → Asked s.plan j w x
  evict_asked w pool None here none x h = absurd (cc)
  evict_asked w pool (Some l) here none x h =
      let c = u.when_some (ne.may_evict s ticks j w pool l) (reply.Kill l why.Evicted) x h in
      let is = re.evicted_is s ticks j w pool l c.0 in
      subst (λ (v : Reply). Asked s.plan j w v) c.1 (lw.Evicts l here is.up is.empty is.free none)

  launch_asked : (w : ℕ) (pool : SharedPool) → NoneBefore s.plan j w → (x : Reply)
      → sh.shared_launches s ticks j pool (last_line j w) ≡ Some x → Asked s.plan j w x
  launch_asked w pool none x h =
      let c = u.if_some _ (option_map (r.launch_order j) (sh.next_starved s ticks j pool)) x h in
      u.map_some (r.launch_order j) (sh.next_starved s ticks j pool) x c.1 (λ v. Asked s.plan j w v)
      (λ t next. let is = re.starved_next s ticks j pool t next in
      lw.Launches is.group t c.0 is.next none)

  more_asked : (w : ℕ) (o : Option SharedPool) → NoneBefore s.plan j w → (x : Reply)
      → sh.pool_orders s ticks j w (last_line j w) o ≡ Some x → Asked s.plan j w x
  more_asked w None none x h = absurd (cc)
  more_asked w (Some pool) none x h =
      elim (k.or_some (sh.evicts s ticks j w pool (last_line j w)) _ x h) [
        | inl evict ↦ evict_asked w pool (last_line j w) refl none x evict
        | inr launch ↦ launch_asked w pool none x launch
      ]

  pub ask_told : (w : ℕ) → Asked s.plan j w (sh.ask_shared s ticks j w (last_line j w))
  ask_told w =
      let o = last_line j w in
      let g = sh.group_here s.plan j o in
      u.asked s.plan j w (sh.kind_here s.plan j o) g o refl
      (λ l at. (ap (sh.kind_here s.plan j) at, ap (sh.group_here s.plan j) at))
      (du.next_due s.plan ticks j g) (sh.pool_orders s ticks j w o (po.pool_of s w))
      (λ l t at next. subst (λ i. IsNextOf s.plan j i t) (ap (sh.group_here s.plan j) at)
      ((due_nexts s.plan ticks j).is g t next))
      (λ none x h. more_asked w (po.pool_of s w) none x h)

  pub told : (lane : ℕ) (c : Call) → script_of (pooled_discipline s ticks) j lane c ≡ true
      → Told s.plan j lane c (sh.pooled_rule s ticks j lane c)
  told lane call.Ask h = ask_told (lane / 2)
  told lane call.Tick h = ti.made_told (pooled_discipline s ticks) ticks j lane (ti.ticks_are ticks (po.seats s) lane) h
  told lane _ h = refl

  pub entry_lawful : (e : Entry) → LegalEntryBy (pooled_discipline s ticks) j e
      → LawfulEntry s.plan j e
  entry_lawful e legal = record {
    scripted = anywhere (pooled_discipline s ticks) j e.lane e.call legal.scripted;
    told = subst (λ (x : Reply). Told s.plan j e.lane e.call x) (sym legal.replied)
        (told e.lane e.call legal.scripted);
    kept = legal.kept;
  }

  -- a lane is told to stop where every lawful journal tells it so, whatever was called
  pub stop_told : (lane : ℕ) (c : Call) → sh.pooled_rule s ticks j lane c ≡ reply.Stop
      → Told s.plan j lane c reply.Stop
  stop_told lane call.Ask is =
      subst (λ (x : Reply). Asked s.plan j (lane / 2) x) is (ask_told (lane / 2))
  stop_told lane call.Tick is = ti.stops s.plan ticks j is
  stop_told lane _ is = sym is

pub lawful : (s : SharedPlan) (ticks : Option ℕ) (j : List Entry)
    → LegalBy (pooled_discipline s ticks) j → Lawful s.plan j
lawful s ticks [] legal = tt
lawful s ticks (e ∷ j) legal = (lawful s ticks j legal.0, entry_lawful s ticks j e legal.1)
