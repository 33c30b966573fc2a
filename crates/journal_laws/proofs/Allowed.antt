-- A paid call is in its lane's script.
use Rattle.std.proofs.Common.{◌≡◌, ℕ, ◌*◌, ◌/◌, ◌%◌, ◌==◌, nat_lt, Bool, true, false, ◌&&◌, ◌||◌, not, cond, List, [], ◌∷◌, Option, Some, None, ◌⊎◌, inl, inr, refl, sym, subst}
use Rattle.std.proofs.lemmas.Bool.{and_parts, and_from, or_right}
use Rattle.run_plan.specs.declared.plan.Branch.{Branch}
use Rattle.run_plan.specs.declared.plan.Kind.TheVariants as kind
use Rattle.run_plan.specs.declared.plan.Plan.{Plan}
use Rattle.run_plan.specs.declared.plan.Kind.{Kind}
use Rattle.exec_journal.specs.Entry.{Entry}
use Rattle.exec_journal.specs.declared.call.Call.{Call}
use Rattle.exec_journal.specs.declared.call.Call.TheVariants as call
use Rattle.exec_journal.specs.declared.call.CommitEnd.{CommitEnd}
use Rattle.exec_journal.specs.declared.call.Found.{Found}
use Rattle.exec_journal.specs.declared.call.Found.TheVariants as found
use Rattle.exec_journal.specs.declared.reply.Reply.{Reply}
use Rattle.exec_journal.specs.declared.reply.Reply.TheVariants as reply
use Rattle.exec_journal.specs.Entries.{is_stop}
use Rattle.exec_journal.specs.Words.{last_work, stopped, has_halted}
use Rattle.exec_journal.specs.Scripts.{seat_script, allowed, owes_commit, is_owed, is_owed_commit}
use Rattle.exec_journal.specs.Lawful.{Lawful, in_script}
use Rattle.exec_journal.proofs.Reasons as u
use Rattle.exec_journal.proofs.Ruled.{by_bool, not_true}
use Rattle.journal_laws.specs.Paid.{seat_paid, wins_files}
use Rattle.journal_laws.proofs.Owed.{is_work, newest_cases, scripted}
use Rattle.journal_laws.proofs.Over.{entry_ruled}
use Rattle.journal_laws.proofs.Claims.{clash}
use Rattle.journal_laws.proofs.Debts.{wins_by}

-- a proxy lane that didn't stop
pub record MayCommit (p : Plan) (j : List Entry) (lane : ℕ) : Type 0 where
  pub even : (lane % 2 == 0) ≡ true
  pub running : stopped j lane ≡ false

claim_by : (p : Plan) (j : List Entry) (lane a : ℕ) (b : Branch) (t : ℕ) (f : Found) → in_script p j lane (call.Claim a b t f) ≡ true → MayCommit p j lane
claim_by p j lane a b t f h = record {
  even = elim (scripted p j lane (call.Claim a b t f) refl h) [ inl n ↦ absurd (cc) | inr y ↦ (and_parts (lane % 2 == 0) _ y).0 ];
  running = not_true _ (and_parts (not (stopped j lane)) _ h).0;
}

grant_by : (p : Plan) (j : List Entry) (lane : ℕ) (c : Call) (x : Reply) → in_script p j lane c ≡ true → wins_files c x ≡ true → MayCommit p j lane × (is_stop x ≡ false)
grant_by p j lane (call.Claim a b t (found.Files f)) reply.Granted h w = (claim_by p j lane a b t (found.Files f) h, refl)
grant_by p j lane _ _ h w = absurd (cc)

stop_works : (p : Plan) (j : List Entry) (lane : ℕ) (c : Call) (x : Reply) → u.Ruled p j lane c x → is_stop x ≡ true → is_work c ≡ true
stop_works p j lane c x (u.Stops over gone) h = refl
stop_works p j lane c x (u.TakeStops over) h = refl
stop_works p j lane c x (u.Ticks over) h = refl
stop_works p j lane c x (u.KillsBroken l y here run broken over) h = absurd (cc)
stop_works p j lane c x (u.Notes e n) h = absurd (cc)
stop_works p j lane c x _ h = absurd (cc)

runs_on : (x y s : Bool) → y ≡ false → s ≡ false → ((x && y) || s) ≡ false
runs_on true false s h n = n
runs_on false y s h n = n
runs_on true true s h n = absurd (cc)

runs_beside : (x y w s : Bool) → (x && w) ≡ false → (y ≡ true → w ≡ true) → s ≡ false → ((x && y) || s) ≡ false
runs_beside false y w s none works n = n
runs_beside true false w s none works n = n
runs_beside true true w s none works n = absurd (clash w (works refl) none)

pub may_commit : (p : Plan) (j : List Entry) (lane : ℕ) (d : Entry) → Lawful p j → last_work j lane ≡ Some d → wins_files d.call d.reply ≡ true → MayCommit p j lane
unfolding last_work stopped
may_commit p [] lane d legal h w = absurd (cc)
may_commit p (e ∷ j) lane d legal h w = by (newest_cases e j lane d h) (λ k. may_commit p j lane d legal.0 k w)
  where
    by : ((e ≡ d) × (e.lane ≡ lane) × (is_work e.call ≡ true)) ⊎ ((((e.lane == lane) && is_work e.call) ≡ false) × (last_work j lane ≡ Some d))
        → (last_work j lane ≡ Some d → MayCommit p j lane) → MayCommit p (e ∷ j) lane
    by (inl here) before =
        let g = grant_by p j e.lane e.call e.reply legal.1.scripted (subst (λ (x : Entry). wins_files x.call x.reply ≡ true) (sym here.0) w) in
        let m = subst (λ n. MayCommit p j n) here.1 g.0 in
        record { even = m.even; running = runs_on (e.lane == lane) (is_stop e.reply) (stopped j lane) g.1 m.running }
    by (inr other) before =
        let m = before other.1 in
        record {
          even = m.even;
          running = runs_beside (e.lane == lane) (is_stop e.reply) (is_work e.call) (stopped j lane) other.0
              (λ y. stop_works p j e.lane e.call e.reply (entry_ruled p e j legal) y) m.running;
        }

commit_allowed : (m : ℕ) (kinds : ℕ → Kind) (p : Plan) (j : List Entry) (lane a : ℕ) (b : Branch) (how : CommitEnd) (o : Option Entry) → Lawful p j → nat_lt lane (2 * m) ≡ true → last_work j lane ≡ o
    → owes_commit a b o ≡ true → seat_script m kinds p j lane (call.Committed a b how) ≡ true
commit_allowed m kinds p j lane a b how None legal place is h = absurd (cc)
commit_allowed m kinds p j lane a b how (Some d) legal place is h =
    let v = may_commit p j lane d legal is (wins_by a b d.call d.reply h) in
    let owed : is_owed_commit (call.Committed a b how) (last_work j lane) ≡ true = rw is h in
    let may : allowed p (kinds (lane / 2)) (lane % 2 == 0) (last_work j lane) (call.Committed a b how) ≡ true =
    and_from _ _ v.even (rw is (or_right (is_owed p (kinds (lane / 2)) (call.Committed a b how) d.reply) _ h)) in
    and_from _ _ place
    (and_from _ _ (rw v.running refl)
    (by_bool (has_halted j lane)
    (λ z. cond z (is_owed_commit (call.Committed a b how) (last_work j lane)) (allowed p (kinds (lane / 2)) (lane % 2 == 0) (last_work j lane) (call.Committed a b how)) ≡ true)
    (λ _. owed) (λ _. may)))

pub paid_allowed : (m : ℕ) (kinds : ℕ → Kind) (p : Plan) (j : List Entry) (lane : ℕ) (c : Call) → Lawful p j → seat_paid m j lane c ≡ true → seat_script m kinds p j lane c ≡ true
paid_allowed m kinds p j lane call.Halt legal h =
    let s = and_parts (nat_lt lane (2 * m)) _ h in
    let v = and_parts (not (stopped j lane)) _ s.1 in
    and_from _ _ s.0 (and_from _ _ v.0 (rw (not_true _ v.1) refl))
paid_allowed m kinds p j lane (call.Committed a b how) legal h =
    let s = and_parts (nat_lt lane (2 * m)) _ h in commit_allowed m kinds p j lane a b how (last_work j lane) legal s.0 refl s.1
paid_allowed m kinds p j lane _ legal h = let e : false ≡ true = (and_parts (nat_lt lane (2 * m)) _ h).1 in absurd (cc)
