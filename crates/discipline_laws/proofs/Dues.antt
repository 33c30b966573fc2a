-- What a proxy lane may do by its duty is in its script, and what it is paid for is paid.
use Rattle.std.proofs.Common.{◌≡◌, ℕ, ◌*◌, ◌==◌, ◌<◌, nat_lt, Bool, true, false, ◌&&◌, ◌||◌, not, List, Option, Some, None, refl, ap, sym, ◌∙◌, arith, eq-eqb, lt-ltb}
use Rattle.run_plan.specs.declared.plan.Branch.{Branch}
use Rattle.run_plan.specs.declared.plan.Branch.TheVariants.{Local, Remote}
use Rattle.exec_journal.specs.declared.call.Call.{Call}
use Rattle.exec_journal.specs.declared.call.Call.TheVariants as call
use Rattle.exec_journal.specs.declared.call.Found.TheVariants as found
use Rattle.exec_journal.specs.declared.call.CommitEnd.{CommitEnd}
use Rattle.exec_journal.specs.declared.reply.Reply.{Reply}
use Rattle.exec_journal.specs.declared.reply.Reply.TheVariants as reply
use Rattle.exec_journal.specs.Entry.{Entry}
use Rattle.exec_journal.specs.Entries.{same_branch}
use Rattle.exec_journal.specs.Words.{last_work, stopped, has_halted}
use Rattle.exec_journal.specs.Scripts.{is_commit_of, owes_commit}
use Rattle.journal_laws.specs.Paid.{seat_paid}
use Rattle.core_contract.specs.Moves.{History}
use Rattle.core_contract.specs.Duties.{Duty, Asks, Launches, Sends, Cancels, Gathers, Commits, Kills, Left, ordered, duty_of_claim, duty_of, proxy_lane}
use Rattle.seat_desk.specs.History.{calls_by}
use Rattle.core_contract.specs.Ruled.{journal_of}
use Rattle.discipline_laws.specs.Owed.{has_left, duty_of_work, owed_by}
use Rattle.discipline_laws.proofs.Going.{duty_is}

-- ---- which duty is a Committed

module _ (a : ℕ) (b : Branch) where
  abbrev commits_it : Duty → Bool
  commits_it (Commits c d fs) = (c == a) && same_branch d b
  commits_it _ = false

  by_order : (r : Reply) → commits_it (ordered r) ≡ false
  by_order (reply.Launch l c d t) = refl
  by_order (reply.Send l n c d t) = refl
  by_order (reply.Cancel l n) = refl
  by_order (reply.Gather l n c d t x y) = refl
  by_order (reply.Kill l y) = refl
  by_order reply.Stop = refl
  by_order reply.Idle = refl
  by_order reply.Noted = refl
  by_order (reply.File f) = refl
  by_order reply.NoFile = refl
  by_order reply.Granted = refl
  by_order reply.Lost = refl
  by_order reply.Dropped = refl
  by_order reply.AgainLater = refl
  by_order (reply.Line l) = refl
  by_order (reply.Matched c d t) = refl
  by_order (reply.Late c d t) = refl
  by_order reply.Greeted = refl
  by_order (reply.Stray y) = refl
  by_order (reply.Breach y) = refl
  by_order reply.Astray = refl
  by_order reply.NoMemory = refl

  by_claim : (c : ℕ) (d : Branch) (t : ℕ) (fs : List (List ℕ)) (r : Reply)
      → is_commit_of a b (call.Claim c d t (found.Files fs)) r
      ≡ commits_it (duty_of_claim c d (found.Files fs) r)
  by_claim c d t fs (reply.Launch l u v w) = refl
  by_claim c d t fs (reply.Send l n u v w) = refl
  by_claim c d t fs (reply.Cancel l n) = refl
  by_claim c d t fs (reply.Gather l n u v w x y) = refl
  by_claim c d t fs (reply.Kill l y) = refl
  by_claim c d t fs reply.Stop = refl
  by_claim c d t fs reply.Idle = refl
  by_claim c d t fs reply.Noted = refl
  by_claim c d t fs (reply.File f) = refl
  by_claim c d t fs reply.NoFile = refl
  by_claim c d t fs reply.Granted = refl
  by_claim c d t fs reply.Lost = refl
  by_claim c d t fs reply.Dropped = refl
  by_claim c d t fs reply.AgainLater = refl
  by_claim c d t fs (reply.Line l) = refl
  by_claim c d t fs (reply.Matched u v w) = refl
  by_claim c d t fs (reply.Late u v w) = refl
  by_claim c d t fs reply.Greeted = refl
  by_claim c d t fs (reply.Stray y) = refl
  by_claim c d t fs (reply.Breach y) = refl
  by_claim c d t fs reply.Astray = refl
  by_claim c d t fs reply.NoMemory = refl

  by_work : (c : Call) (r : Reply) → is_commit_of a b c r ≡ commits_it (duty_of_work c r)
  by_work (call.Claim c d t (found.Files fs)) r = by_claim c d t fs r
  by_work (call.Claim c d t (found.Exit k)) r = sym (by_order r)
  by_work (call.Claim c d t (found.Missing k)) r = sym (by_order r)
  by_work (call.Claim c d t found.RoomFault) r = sym (by_order r)
  by_work (call.Claim c d t found.Refused) r = sym (by_order r)
  by_work call.Ask r = sym (by_order r)
  by_work (call.Launched l how) r = sym (by_order r)
  by_work (call.Wrote l n how) r = sym (by_order r)
  by_work (call.Look w) r = sym (by_order r)
  by_work (call.Committed c d how) r = sym (by_order r)
  by_work (call.Killed l) r = sym (by_order r)
  by_work call.Take r = sym (by_order r)
  by_work (call.Answer l x) r = sym (by_order r)
  by_work (call.Ended l how) r = sym (by_order r)
  by_work call.Halt r = sym (by_order r)
  by_work call.Tick r = sym (by_order r)

  by_newest : (o : Option Entry) → owes_commit a b o ≡ commits_it (owed_by o)
  by_newest None = refl
  by_newest (Some e) = by_work e.call e.reply

  same_itself : (d : Branch) → same_branch d d ≡ true
  same_itself Local = refl
  same_itself Remote = refl

  commits_own : (fs : List (List ℕ)) → commits_it (Commits a b fs) ≡ true
  commits_own fs = (λ i. eq-eqb a a refl i && same_itself b i)

pub neither_left : (x y : Bool) → (x || y) ≡ false → (x ≡ false) × (y ≡ false)
neither_left true y e = absurd (cc)
neither_left false y e = (refl, e)

pub lane_within : (n w : ℕ) → w < n → nat_lt (proxy_lane w) (2 * n) ≡ true
lane_within n w lt = lt-ltb (proxy_lane w) (2 * n) (omega (arith, lt))

-- ---- what is paid

pub commit_is_paid : (n : ℕ) (h : History) (w a : ℕ) (b : Branch) (fs : List (List ℕ))
    (how : CommitEnd) → w < n
    → duty_of (calls_by (proxy_lane w) h) ≡ Commits a b fs
    → seat_paid n (journal_of h) (proxy_lane w) (call.Committed a b how) ≡ true
commit_is_paid n h w a b fs how lt e =
    let d = duty_is h (proxy_lane w) in
    let owed : owes_commit a b (last_work (journal_of h) (proxy_lane w)) ≡ true =
    by_newest a b (last_work (journal_of h) (proxy_lane w))
    ∙ (ap (commits_it a b) (sym (d.owed (ap has_left e)) ∙ e) ∙ commits_own a b fs) in
    (λ i. lane_within n w lt i && owed i)

not_left : (s : Duty) → (s ≡ Left → ⊥) → has_left s ≡ false
not_left Asks n = refl
not_left (Launches l t) n = refl
not_left (Sends l m t) n = refl
not_left (Cancels l m) n = refl
not_left (Gathers l m t exit refused) n = refl
not_left (Commits a b fs) n = refl
not_left (Kills l) n = refl
not_left Left n = absurd (n refl)

pub halt_is_paid : (m : ℕ) (h : History) (w : ℕ) → w < m
    → (duty_of (calls_by (proxy_lane w) h) ≡ Left → ⊥)
    → seat_paid m (journal_of h) (proxy_lane w) call.Halt ≡ true
halt_is_paid m h w lt n =
    let d = duty_is h (proxy_lane w) in
    let here = neither_left (stopped (journal_of h) (proxy_lane w))
    (has_halted (journal_of h) (proxy_lane w))
    (sym d.gone ∙ not_left (duty_of (calls_by (proxy_lane w) h)) n) in
    (λ i. lane_within m w lt i && (not (here.0 i) && not (here.1 i)))
