-- Entries with which no attempt ends: of what went well, and of a Claim that is granted or lost.
use Rattle.std.proofs.Common.{◌≡◌, ℕ, false, List, ◌∷◌, Some, None, ◌⊎◌, inl, inr, refl, ℤ, ap, subst}
use Rattle.run_plan.specs.declared.plan.Branch.{Branch}
use Rattle.run_plan.specs.declared.plan.Plan.{Plan}
use Rattle.exec_journal.specs.Lawful as lw
use Rattle.exec_journal.specs.Entry.{Entry}
use Rattle.exec_journal.specs.declared.call.Call.{Call}
use Rattle.exec_journal.specs.declared.call.Call.TheVariants as call
use Rattle.exec_journal.specs.declared.call.Found.{Found}
use Rattle.exec_journal.specs.declared.call.Started.TheVariants as start
use Rattle.exec_journal.specs.declared.call.Written.{Written}
use Rattle.exec_journal.specs.declared.call.Written.TheVariants as write
use Rattle.exec_journal.specs.declared.reply.Reply.{Reply}
use Rattle.exec_journal.specs.declared.reply.Reply.TheVariants as reply
use Rattle.exec_journal.specs.Entries.{Request, refused_in}
use Rattle.exec_journal.specs.Words.{order_of, has_ended}
use Rattle.exec_journal.specs.Attempts.{begun_in}
use Rattle.exec_journal.specs.Lawful.{Lawful}
use Rattle.exec_journal.specs.Facts.{SameActions}
use Rattle.journal_laws.proofs.Known as kn
use Rattle.call_laws.proofs.Same as sa
use Rattle.ready_order.specs.Entries as ro
use Rattle.retry_rules.specs.Entries as rr

-- a Claim is granted or lost, or answered AgainLater or Dropped
claim_unrefused : (a : ℕ) (b : Branch) (t : ℕ) (x : Found) (y : Reply)
    → (y ≡ reply.Granted) ⊎ (y ≡ reply.Lost) → refused_in (call.Claim a b t x) y ≡ None
claim_unrefused a b t x y (inl h) = rw h refl
claim_unrefused a b t x y (inr h) = rw h refl

pub none_claimed : (p : Plan) (e : Entry) (j : List Entry) (a : ℕ) (b : Branch) (t : ℕ) (x : Found)
    → Lawful p (e ∷ j) → e.call ≡ call.Claim a b t x → (e.reply ≡ reply.Granted)
    ⊎ (e.reply ≡ reply.Lost) → rr.EndsNone j e
none_claimed p e j a b t x legal is h = λ u. sa.claimed_ends_none p e j a b t x legal is
    (rw is (claim_unrefused a b t x e.reply h)) u

pub none_started : (p : Plan) (e : Entry) (j : List Entry) (l : ℕ) → Lawful p (e ∷ j)
    → e.call ≡ call.Launched l start.Done → rr.EndsNone j e
none_started p e j l legal is = λ u. (sa.started_same p e j l legal is).ended_too u

pub none_done : (p : Plan) (e : Entry) (j : List Entry) (l : ℕ) (n : ℤ) (how : Written)
    → Lawful p (e ∷ j) → e.call ≡ call.Wrote l n how → (how ≡ write.Done)
    ⊎ (order_of j e.lane ≡ None) → rr.EndsNone j e
none_done p e j l n how legal is h = λ u. (sa.written_same p e j l n how legal is h).ended_too u

-- ---- and with which nothing of the branches changes

same_branches : (e : Entry) (j : List Entry) → begun_in e.reply ≡ None → SameActions j (e ∷ j)
    → ro.SameBranches j (e ∷ j)
same_branches e j none same = record {
  actions = same;
  none_begins = λ a b. kn.none_begins e j a b none;
}

noted_none : (p : Plan) (e : Entry) (j : List Entry) (l : ℕ) (n : ℤ) (how : Written)
    → Lawful p (e ∷ j) → e.call ≡ call.Wrote l n how → begun_in e.reply ≡ None
noted_none p e j l n how legal is = ap begun_in (subst (λ (d : Call). lw.Told p j e.lane d e.reply) is legal.1.told)

pub started_branches : (p : Plan) (e : Entry) (j : List Entry) (l : ℕ) → Lawful p (e ∷ j)
    → e.call ≡ call.Launched l start.Done → ro.SameBranches j (e ∷ j)
started_branches p e j l legal is = same_branches e j (ap begun_in (subst (λ (d : Call). lw.Told p j e.lane d e.reply) is legal.1.told))
    (sa.started_same p e j l legal is)

pub written_branches : (p : Plan) (e : Entry) (j : List Entry) (l : ℕ) (n : ℤ) (how : Written)
    → Lawful p (e ∷ j) → e.call ≡ call.Wrote l n how → (how ≡ write.Done)
    ⊎ (order_of j e.lane ≡ None) → ro.SameBranches j (e ∷ j)
written_branches p e j l n how legal is h = same_branches e j (noted_none p e j l n how legal is)
    (sa.written_same p e j l n how legal is h)

pub fed_branches : (p : Plan) (e : Entry) (j : List Entry) (l : ℕ) (n : ℤ) (x : Request)
    → Lawful p (e ∷ j) → e.call ≡ call.Wrote l n write.FeedFault → order_of j e.lane ≡ Some x
    → has_ended j x.line ≡ false → ro.SameBranches j (e ∷ j)
fed_branches p e j l n x legal is order running = same_branches e j
    (noted_none p e j l n write.FeedFault legal is) (sa.fed_same p e j l n x legal is order running)

pub lost_branches : (p : Plan) (e : Entry) (j : List Entry) (a : ℕ) (b : Branch) (t : ℕ) (x : Found)
    → Lawful p (e ∷ j) → e.call ≡ call.Claim a b t x → e.reply ≡ reply.Lost
    → ro.SameBranches j (e ∷ j)
lost_branches p e j a b t x legal is lost = same_branches e j (rw lost refl)
    (sa.lost_same p e j a b t x legal is lost)
