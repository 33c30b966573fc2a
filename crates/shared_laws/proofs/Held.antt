-- A berth's last line may still have a process where its Launch is owed, or where it was launched
-- with success and hasn't both Ended and been killed.
use Rattle.std.proofs.Common.{◌≡◌, ℕ, ◌*◌, ◌/◌, ◌%◌, ◌==◌, Bool, true, false, ◌&&◌, ◌||◌, not, List, [], ◌∷◌, Option, Some, None, inl, inr, refl, sym, ap, subst, ◌∙◌, arith}
use Rattle.std.proofs.lemmas.Bool.{eqb-true, eq-eqb, and_parts, or_cases}
use Rattle.run_plan.specs.declared.plan.Plan.{Plan}
use Rattle.exec_journal.specs.declared.attempt.Attempt.{Attempt}
use Rattle.exec_journal.specs.declared.reply.Reply.{Reply}
use Rattle.exec_journal.specs.declared.reply.Reply.TheVariants as reply
use Rattle.exec_journal.specs.Entry.{Entry}
use Rattle.exec_journal.specs.Entries.{attempt_of, launch_in}
use Rattle.exec_journal.specs.Facts.{IsOfBerth, reply_line}
use Rattle.exec_journal.specs.Lawful.{Lawful}
use Rattle.exec_journal.specs.Words.{last_line, last_work, started, failed, has_ended, kill_ordered, was_killed}
use Rattle.exec_journal.proofs.Begins.{same_attempt_refl}
use Rattle.exec_journal.proofs.Ruled.{by_bool}
use Rattle.core_tables.specs.declared.lanes.Owed.{Owed}
use Rattle.core_tables.specs.Lanes.{order_after, order_of_work}
use Rattle.journal_laws.proofs.Owed as o
use Rattle.journal_laws.proofs.Claims as c
use Rattle.journal_laws.proofs.Claims.{clash, false_by}
use Rattle.journal_laws.proofs.Given as gi
use Rattle.journal_laws.proofs.Lanes as la
use Rattle.journal_laws.proofs.Vacant as va
use Rattle.call_laws.proofs.LastLines as ll
use Rattle.call_laws.proofs.Owing as ow
use Rattle.placed_rules.specs.Needs as needs
use Rattle.shared_laws.specs.Berths.{is_launching}

-- ---- the proxy lane of a berth

pub proxy_of : (w : ℕ) → 2 * w / 2 ≡ w
proxy_of w = omega arith

pub proxy_even : (w : ℕ) → (2 * w % 2 == 0) ≡ true
proxy_even w = eq-eqb (2 * w % 2) 0 (omega arith)

-- a lane of the berth with an order is that
pub proxy_is : (p : Plan) (j : List Entry) (lane w : ℕ) (d : Entry) → Lawful p j
    → last_work j lane ≡ Some d → la.is_order d.reply ≡ true → lane / 2 ≡ w → lane ≡ 2 * w
proxy_is p j lane w d legal at orders own =
    la.one_proxy lane (2 * w) (la.newest_even p j lane d legal at orders) (proxy_even w)
    (own ∙ sym (proxy_of w))

-- ---- a Launch that is owed

abbrev owed : List Entry → ℕ → Owed
owed j w = order_of_work (last_work j (2 * w))

record IsLaunching (j : List Entry) (w : ℕ) : Type 0 where
  pub order : Entry
  pub newest : last_work j (2 * w) ≡ Some order
  pub line : ℕ
  pub attempt : Attempt
  pub launches : launch_in order.reply ≡ Some (line, attempt)
  pub names : ll.order_line order.reply ≡ Some line

launching_is : (j : List Entry) (w : ℕ) → is_launching (owed j w) ≡ true → IsLaunching j w
launching_is j w h = by (last_work j (2 * w)) refl h
  where
    launch : (d : Entry) → last_work j (2 * w) ≡ Some d → (x : Reply) → d.reply ≡ x
        → is_launching (order_after x) ≡ true → IsLaunching j w
    launch d at (reply.Launch l a b t) is k = record {
      order = d;
      newest = at;
      line = l;
      attempt = attempt_of a b t;
      launches = ap launch_in is;
      names = ap ll.order_line is;
    }
    launch d at (reply.Send l n a b t) is k = absurd (cc)
    launch d at (reply.Cancel l n) is k = absurd (cc)
    launch d at (reply.Gather l n a b t e r) is k = absurd (cc)
    launch d at (reply.Kill l y) is k = absurd (cc)
    launch d at (reply.Line l) is k = absurd (cc)
    launch d at reply.Stop is k = absurd (cc)
    launch d at _ is k = absurd (cc)

    by : (z : Option Entry) → last_work j (2 * w) ≡ z → is_launching (order_of_work z) ≡ true
        → IsLaunching j w
    by (Some d) at k = launch d at d.reply refl k
    by None at k = absurd (cc)

launched_it : (l : ℕ) (t : Attempt) (x : Reply) → launch_in x ≡ Some (l, t)
    → c.launches_it l t (launch_in x) ≡ true
launched_it l t x h = rw (h, eq-eqb l l refl) (same_attempt_refl t)

module _ (p : Plan) (j : List Entry) (w l : ℕ) (legal : Lawful p j)
    (here : last_line j w ≡ Some l) where
  own : IsOfBerth j l w
  own = la.here_own p j w l legal here

  -- it is the last line's, which was neither started nor failed
  unstarted : is_launching (owed j w) ≡ true → (started j l ≡ false) × (failed j l ≡ false)
  unstarted h =
      let y = launching_is j w h in
      let last = subst (λ n. last_line j n ≡ Some y.line) (proxy_of w)
      (ll.order_last p j (2 * w) y.line y.order legal y.newest y.names) in
      let both : Some y.line ≡ Some l = sym last ∙ here in
      let same : y.line ≡ l = cc in
      let is = c.owed_unstarted p j y.line y.attempt legal (2 * w) y.order y.newest
      (launched_it y.line y.attempt y.order.reply y.launches) in
      (ap (started j) (sym same) ∙ is.unstarted, ap (failed j) (sym same) ∙ is.unfailed)

  launch_orders : (x : Reply) → o.launches_line l x ≡ true → is_launching (order_after x) ≡ true
  launch_orders (reply.Launch m a b t) h = refl
  launch_orders _ h = absurd (cc)

  launch_is_order : (x : Reply) → o.launches_line l x ≡ true → la.is_order x ≡ true
  launch_is_order (reply.Launch m a b t) h = refl
  launch_is_order _ h = absurd (cc)

  launch_line : (x : Reply) → o.launches_line l x ≡ true → reply_line x ≡ Some l
  launch_line (reply.Launch m a b t) h = ap Some (eqb-true m l h)
  launch_line _ h = absurd (cc)

  -- either it was reported, or its Launch is owed
  reported : is_launching (owed j w) ≡ false → (started j l || failed j l) ≡ true
  reported off = by (ow.launch_met p j l own.owner.0 own.owner.1 legal own.owner.2)
    where
      by : ow.IsMet (o.is_launch l) (ow.reported l) j → (started j l || failed j l) ≡ true
      by (ow.Done y) = y
      by (ow.Owes lane d at y) = absurd (
          let theirs = la.newest_own_line p j lane l d legal at (launch_line d.reply y) in
          let same = proxy_is p j lane w d legal at (launch_is_order d.reply y)
          (la.berths_same j l (lane / 2) w theirs own) in
          let mine : last_work j (2 * w) ≡ Some d = subst (λ n. last_work j n ≡ Some d) same at in
          clash (is_launching (owed j w)) (ap (λ z. is_launching (order_of_work z)) mine
          ∙ launch_orders d.reply y) off)

  unended : started j l ≡ false → has_ended j l ≡ false
  unended off = false_by _ (λ h. clash (started j l) (gi.ended_started p j l legal h) off)

  abbrev gone : Bool
  gone = has_ended j l && was_killed j l

  pub held_is : (is_launching (owed j w) || (started j l && not (has_ended j l && was_killed j l)))
      ≡ needs.is_held j l
  held_is = by_bool (is_launching (owed j w)) (λ b. is_launching (owed j w) ≡ b
      → (b || (started j l && not gone)) ≡ (not (failed j l) && not gone))
      (λ _ on. let is = unstarted on in rw (is.1, unended is.0) refl)
      (λ _ off. by_bool (started j l) (λ b. started j l ≡ b
      → (b && not gone) ≡ (not (failed j l) && not gone))
      (λ _ up. rw (c.started_unfailed p j l legal up) refl)
      (λ _ down. rw (failed_is down off) refl) refl) refl
    where
      failed_is : started j l ≡ false → is_launching (owed j w) ≡ false → failed j l ≡ true
      failed_is down off = elim (or_cases (started j l) _ (reported off)) [
        | inl up ↦ absurd (clash (started j l) up down)
        | inr fault ↦ fault
      ]

-- ---- a line that was killed had started

ordered_started : (p : Plan) (j : List Entry) (l : ℕ) → Lawful p j → kill_ordered j l ≡ true
    → started j l ≡ true
unfolding kill_ordered
ordered_started p [] l legal h = absurd (cc)
ordered_started p (e ∷ j) l legal h = elim (or_cases (o.is_kill l e) _ h) [
  | inl now ↦ (let once = la.kills_once p e j l legal now in
      va.started_later e j l (and_parts (started j l) _ once.running).0)
  | inr before ↦ va.started_later e j l (ordered_started p j l legal.0 before)
]

pub killed_started : (p : Plan) (j : List Entry) (l : ℕ) → Lawful p j → was_killed j l ≡ true
    → started j l ≡ true
killed_started p j l legal h = ordered_started p j l legal (gi.killed_ordered p j l legal h)
