-- Where every lane rests, each queued local branch has waited for its Ticks.
use Rattle.std.proofs.Common.{◌||◌, ◌≡◌, ℕ, zero, suc, ◌+◌, ◌*◌, ◌%◌, ◌==◌, nat_le, nat_lt, Bool, true, false, ◌&&◌, not, cond, List, [], ◌∷◌, Some, refl, ap, subst, arith}
use Rattle.std.specs.Prelude.{slice_get}
use Rattle.std.proofs.lemmas.Bool.{ltb-false, eq-eqb, le-leb, and_parts}
use Rattle.run_plan.specs.declared.plan.Plan.{Plan}
use Rattle.run_plan.specs.Groups.{berths}
use Rattle.run_plan.specs.declared.plan.Branch.TheVariants.{Local, Remote}
use Rattle.run_plan.specs.declared.plan.PlanAction.{PlanAction}
use Rattle.exec_journal.specs.Entry.{Entry}
use Rattle.exec_journal.specs.declared.call.Call.TheVariants as call
use Rattle.exec_journal.specs.declared.reply.Reply.TheVariants as reply
use Rattle.exec_journal.specs.Attempts.{dropped}
use Rattle.exec_journal.specs.Lawful.{Lawful}
use Rattle.exec_journal.specs.Rules as r
use Rattle.exec_journal.specs.Settled.{all_settled, queued, ready, settled, wanted}
use Rattle.exec_journal.specs.Words.{granted, halted}
use Rattle.exec_journal.proofs.Ruled.{not_true}
use Rattle.journal_laws.proofs.Claims.{clash, false_by}
use Rattle.journal_laws.proofs.Stops as st
use Rattle.exec_journal.specs.declared.call.Call.{Call}
use Rattle.core_contract.specs.Disciplines.{LegalBy}
use Rattle.core_contract.specs.News.{question}
use Rattle.exec_journal.specs.declared.call.HowEnded.TheVariants as end
use Rattle.discipline_laws.proofs.Fitting as fi
use Rattle.placed_rules.specs.Due as de
use Rattle.placed_rules.specs.Own as ow
use Rattle.placed_rules.specs.Placed.{delayed_discipline}
use Rattle.placed_rules.proofs.OwnLawful as dl
use Rattle.progress_laws.specs.Rests.{AllRest, IsResting, Left, Hears, Idles}
use Rattle.progress_laws.proofs.Resting.{even, hears_odd, left_over}

none_waits : (p : Plan) (n : ℕ) (j : List Entry) (x : PlanAction) (xs : List PlanAction) (m i a : ℕ)
    → m + i ≡ a → slice_get xs i ≡ Some x → de.some_waits p n j m xs ≡ false
    → de.waits_for_tick p n j a x ≡ false
none_waits p n j x [] m i a is at none = absurd (cc)
none_waits p n j x (y ∷ ys) m zero a is at none =
    let same : y ≡ x = cc in
    let here : m ≡ a = omega (arith, is) in
    subst (λ (z : PlanAction). de.waits_for_tick p n j a z ≡ false) same
    (subst (λ k. de.waits_for_tick p n j k y ≡ false) here
    (left (de.waits_for_tick p n j m y) _ none))
  where
    left : (b c : Bool) → (b || c) ≡ false → b ≡ false
    left false c k = refl
    left true c k = absurd (cc)
none_waits p n j x (y ∷ ys) m (suc i) a is at none =
    none_waits p n j x ys (suc m) i a (omega (arith, is)) at
    (right (de.waits_for_tick p n j m y) _ none)
  where
    right : (b c : Bool) → (b || c) ≡ false → c ≡ false
    right false c k = k
    right true c k = absurd (cc)

has_waited : (p : Plan) (n : ℕ) (j : List Entry) (a : ℕ) (x : PlanAction)
    → de.waits_for_tick p n j a x ≡ false → queued p j a Local x ≡ true
    → de.has_waited p n j a x ≡ true
unfolding queued wanted
has_waited p n j a x none waiting =
    by (de.is_dual x) (ready p j x) (settled p j a) (granted j a)
    (nat_lt (de.ticks_since p j x) n) refl made open_now free none
  where
    wish : wanted p j a Local ≡ true
    wish = (and_parts (wanted p j a Local) _ waiting).0

    made : ready p j x ≡ true
    made = (and_parts (ready p j x) _ (and_parts (wanted p j a Local) _ waiting).1).0

    open_now : settled p j a ≡ false
    open_now = not_true (settled p j a) (and_parts (not (settled p j a)) _ wish).0

    free : granted j a ≡ false
    free =
        not_true (granted j a) (and_parts (not (granted j a)) _
        (and_parts (not (settled p j a)) _ wish).1).0

    enough : nat_lt (de.ticks_since p j x) n ≡ false → nat_le n (de.ticks_since p j x) ≡ true
    enough h = le-leb n (de.ticks_since p j x) (ltb-false (de.ticks_since p j x) n h)

    by : (dual made settled free few : Bool) → nat_lt (de.ticks_since p j x) n ≡ few → made ≡ true
        → settled ≡ false → free ≡ false → ((dual && made) &&
        ((not settled && not free) && few)) ≡ false → (not dual ||
        (nat_le n (de.ticks_since p j x) || dropped p j a Remote)) ≡ true
    by false made settled free few is a1 b1 c1 h = refl
    by true true false false false is a1 b1 c1 h = rw (enough is) refl
    by true true false false true is a1 b1 c1 h = absurd (cc)
    by true false settled free few is a1 b1 c1 h = absurd (cc)
    by true true true free few is a1 b1 c1 h = absurd (cc)
    by true true false true few is a1 b1 c1 h = absurd (cc)

pub none_waits_unticked : (p : Plan) (n : ℕ) (j : List Entry) (a : ℕ) (x : PlanAction)
    → LegalBy (delayed_discipline p n) j → halted j ≡ false
    → AllRest (delayed_discipline p n) (2 * berths p + 1) j → slice_get p.actions a ≡ Some x
    → queued p j a Local x ≡ true → de.has_waited p n j a x ≡ true
unfolding queued wanted
none_waits_unticked p n j a x legal unhalted rests at waiting =
    has_waited p n j a x (none_waits p n j x p.actions 0 a a (omega arith) at
    (quiet (rests (2 * berths p) (omega arith)))) waiting
  where
    lawful : Lawful p j
    lawful = dl.lawful p n j legal

    unsettled : settled p j a ≡ false
    unsettled =
        not_true (settled p j a) (and_parts (not (settled p j a)) _
        (and_parts (wanted p j a Local) _ waiting).0).0

    on : r.is_over p j ≡ false
    on =
        rw (
          false_by (all_settled p j) (λ all. clash (settled p j a)
              (st.each_settled p j a x all at) unsettled),
          unhalted,
        ) refl

    silent : (over some : Bool) → over ≡ false → cond over reply.Stop
        (cond some reply.Noted reply.Idle) ≡ reply.Idle → some ≡ false
    silent false false m h = refl
    silent false true m h = absurd (cc)
    silent true some m h = absurd (cc)

    quiet : IsResting (delayed_discipline p n) j (2 * berths p)
        → de.some_waits p n j 0 p.actions ≡ false
    quiet (Left gone) = absurd (clash (r.is_over p j) (left_over p j (2 * berths p) lawful gone) on)
    quiet (Hears l may) =
        absurd (clash (2 * berths p % 2 == 0) (even (berths p))
        (hears_odd p j (2 * berths p) l (fi.anywhere (delayed_discipline p n) j (2 * berths p)
        (call.Ended l end.End) may)))
    quiet (Idles asks told) =
        let ticker : ow.is_ticker p (2 * berths p) ≡ true =
        eq-eqb (2 * berths p) (2 * berths p) refl in
        let tick : question (ow.is_ticker p) (2 * berths p) ≡ call.Tick =
        ap (λ b. cond b call.Tick (cond (2 * berths p % 2 == 0) call.Ask call.Take)) ticker in
        silent (r.is_over p j) (de.some_waits p n j 0 p.actions) on
        (subst (λ (c : Call). ow.delayed_rule p n j (2 * berths p) c ≡ reply.Idle) tick told)
