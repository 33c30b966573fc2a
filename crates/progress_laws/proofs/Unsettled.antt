-- Where all berths are quiet, no lane owes a call and not all is settled, some branch is queued.
use Rattle.std.proofs.Common.{◌≡◌, ℕ, ◌<◌, nat_lt, Bool, true, false, ◌&&◌, ◌||◌, cond, List, [], ◌∷◌, Option, Some, None, is_some, option_map, unwrap_or, inl, inr, refl, subst, arith}
use Rattle.std.specs.Prelude.{slice_get}
use Rattle.std.proofs.lemmas.Bool.{ltb-true, and_parts}
use Rattle.run_plan.specs.declared.plan.Branch.{Branch}
use Rattle.run_plan.specs.declared.plan.Branch.TheVariants.{Local, Remote}
use Rattle.run_plan.specs.declared.plan.Plan.{Plan}
use Rattle.run_plan.specs.declared.plan.PlanAction.{PlanAction}
use Rattle.run_plan.specs.Groups.{group_of}
use Rattle.run_plan.specs.Sound.{Sound}
use Rattle.exec_journal.specs.declared.attempt.Attempt.{Attempt}
use Rattle.exec_journal.specs.declared.call.Call.{Call}
use Rattle.exec_journal.specs.declared.call.Call.TheVariants as call
use Rattle.exec_journal.specs.declared.reply.Reply.TheVariants as reply
use Rattle.exec_journal.specs.declared.call.CommitEnd.{CommitEnd}
use Rattle.exec_journal.specs.declared.call.CommitEnd.TheVariants as commit
use Rattle.exec_journal.specs.declared.call.Found.{Found}
use Rattle.exec_journal.specs.declared.call.Found.TheVariants as found
use Rattle.exec_journal.specs.declared.reply.Reply.{Reply}
use Rattle.exec_journal.specs.declared.ends.Standing.{Standing}
use Rattle.exec_journal.specs.declared.ends.Standing.TheVariants.{Open, Succeeded, Unsuccessful}
use Rattle.exec_journal.specs.Entry.{Entry}
use Rattle.exec_journal.specs.Entries.{attempt_of, granted_in}
use Rattle.exec_journal.specs.Attempts.{attempt, ended, dropped}
use Rattle.exec_journal.specs.Lawful.{Lawful}
use Rattle.exec_journal.specs.Scripts as sc
use Rattle.exec_journal.specs.Settled.{is_settled, by_commit, by_grant, all_dropped, unused_or_dropped, is_starved, standing_after, standings, settled, all_settled, ready, wanted, is_under_way, queued}
use Rattle.exec_journal.specs.Words.{commit_of, grant_of, granted}
use Rattle.exec_journal.proofs.Ruled.{by_bool, not_true, may_win, is_noted}
use Rattle.exec_journal.proofs.Reasons as u
use Rattle.journal_laws.proofs.Allowed as al
use Rattle.journal_laws.proofs.Debts.{wins_by}
use Rattle.journal_laws.proofs.Claims.{clash, false_by}
use Rattle.journal_laws.proofs.Granted as g
use Rattle.journal_laws.proofs.Over as v
use Rattle.journal_laws.proofs.Stops as st
use Rattle.call_laws.proofs.Fulfilled as me
use Rattle.progress_laws.specs.Quiet.{AllQuiet, NoneOwes}
use Rattle.progress_laws.proofs.Going.{going_granted}
use Rattle.progress_laws.proofs.Standings.{all_made, makers_earlier, next_open, stands_after}

-- ---- an action that isn't settled has no grant

open_by : (o : Option Standing) (c : Bool) → ((s : Standing) → o ≡ Some s → is_settled s ≡ true)
    → is_settled (unwrap_or o (cond c Unsuccessful Open)) ≡ false → (o ≡ None) × (c ≡ false)
open_by None false own h = (refl, refl)
open_by None true own h = absurd (cc)
open_by (Some s) c own h = absurd (clash (is_settled s) (own s refl) h)

commit_settled : (o : Option CommitEnd) (s : Standing) → by_commit o ≡ Some s → is_settled s ≡ true
commit_settled (Some commit.Done) s h =
    let e : Succeeded ≡ s = cc in subst (λ z. is_settled z ≡ true) e refl
commit_settled (Some (commit.PlaceFault k1)) s h =
    let e : Unsuccessful ≡ s = cc in subst (λ z. is_settled z ≡ true) e refl
commit_settled None s h = absurd (cc)

grant_settled : (j : List Entry) (o : Option (Attempt × Found)) (s : Standing)
    → by_grant j o ≡ Some s → is_settled s ≡ true
grant_settled j None s h = absurd (cc)
grant_settled j (Some (t, found.Exit n)) s h =
    let e : Unsuccessful ≡ s = cc in subst (λ z. is_settled z ≡ true) e refl
grant_settled j (Some (t, found.Files fs)) s h = commit_settled (commit_of j t.action t.branch) s h
grant_settled j (Some (t, found.Missing n)) s h = absurd (cc)
grant_settled j (Some (t, found.RoomFault)) s h = absurd (cc)
grant_settled j (Some (t, found.Refused)) s h = absurd (cc)

-- what was granted is files or an exit code
win_at : (p : Plan) (j : List Entry) (lane : ℕ) (d : Call) (x : Reply) (y : Attempt × Found)
    → u.Ruled p j lane d x → granted_in d x ≡ Some y → may_win y.1 ≡ true
win_at p j lane d x y (u.Grants a b t w other win) h =
    let e : (attempt_of a b t, w) ≡ y = cc in subst (λ (z : Attempt × Found). may_win z.1 ≡ true) e
    win
win_at p j lane d x y (u.KillsBroken l z here run broken over) h = absurd (cc)
win_at p j lane d x y (u.Notes z n) h = absurd (unnoted z n y h)
  where
    unnoted : (z : Call) → is_noted z ≡ true → (y : Attempt × Found)
        → granted_in z reply.Noted ≡ Some y → ⊥
    unnoted (call.Claim a b t w) n y k1 = cc
    unnoted _ n y k1 = cc
win_at p j lane d x y _ h = absurd (cc)

grant_wins : (p : Plan) (j : List Entry) (a : ℕ) (y : Attempt × Found) → Lawful p j
    → grant_of j a ≡ Some y → may_win y.1 ≡ true
unfolding grant_of
grant_wins p [] a y legal h = absurd (cc)
grant_wins p (e ∷ j) a y legal h = elim (g.grant_cases e j a y h) [
  | inl old ↦ grant_wins p j a y legal.0 old
  | inr new ↦ win_at p j e.lane e.call e.reply y (v.entry_ruled p e j legal) new.0
]

commit_asks_none : (a : ℕ) (b : Branch) (d : Call) (x : Reply) → sc.is_commit_of a b d x ≡ true
    → sc.may_ask_after d x ≡ true → ⊥
commit_asks_none a b (call.Claim m n t (found.Files fs)) reply.Granted h y = cc
commit_asks_none a b _ _ h y = absurd (cc)

ungranted : (p : Plan) (j : List Entry) (a : ℕ) → Lawful p j → NoneOwes j
    → by_grant j (grant_of j a) ≡ None → granted j a ≡ false
ungranted p j a legal idle h = false_by _ (λ won. (let x = g.granted_is j a won in by x.0 x.1))
  where
    met : (t : Attempt) (fs : List (List ℕ)) → grant_of j a ≡ Some (t, found.Files fs)
        → commit_of j a t.branch ≡ None → ⊥
    met t fs at none = elim (me.grant_met p j a t fs legal at) [
      | inl done ↦ (let no : is_some (commit_of j a t.branch) ≡ false = rw none refl in
          clash _ done no)
      | inr owed ↦ (let even = (al.may_commit p j owed.lane owed.order legal owed.newest
          (wins_by a t.branch owed.order.call owed.order.reply owed.asks)).even in
          commit_asks_none a t.branch owed.order.call owed.order.reply owed.asks
          (idle owed.lane owed.order owed.newest even))
    ]

    by : (x : Attempt × Found) → grant_of j a ≡ Some x → ⊥
    by (t, found.Files fs) at =
        let same : t.action ≡ a = (g.winner p j a (t, found.Files fs) legal at).of_action in
        let none : by_commit (commit_of j t.action t.branch) ≡ None =
        subst (λ (o : Option (Attempt × Found)). by_grant j o ≡ None) at h in
        met t fs at (uncommitted (commit_of j a t.branch)
        (subst (λ i. by_commit (commit_of j i t.branch) ≡ None) same none))
      where
        uncommitted : (o : Option CommitEnd) → by_commit o ≡ None → o ≡ None
        uncommitted None k1 = refl
        uncommitted (Some commit.Done) k1 = absurd (cc)
        uncommitted (Some (commit.PlaceFault n)) k1 = absurd (cc)
    by (t, found.Exit n) at =
        (let none : by_grant j (Some (t, found.Exit n)) ≡ None = subst
        (λ (o : Option (Attempt × Found)). by_grant j o ≡ None) at h in cc)
    by (t, found.Missing n) at = (let w = grant_wins p j a (t, found.Missing n) legal at in cc)
    by (t, found.RoomFault) at = (let w = grant_wins p j a (t, found.RoomFault) legal at in cc)
    by (t, found.Refused) at = (let w = grant_wins p j a (t, found.Refused) legal at in cc)

-- ---- a branch that isn't dropped

record IsLeft (p : Plan) (j : List Entry) (a : ℕ) (x : PlanAction) : Type 0 where
  branch : Branch
  group : ℕ
  runs : group_of x branch ≡ Some group
  left : dropped p j a branch ≡ false

left_of : (p : Plan) (j : List Entry) (a : ℕ) (x : PlanAction) → all_dropped p j a x ≡ false
    → IsLeft p j a x
left_of p j a x h = by x.local refl x.remote refl h
  where
    by : (o : Option ℕ) → x.local ≡ o → (q : Option ℕ) → x.remote ≡ q
        → (unused_or_dropped p j a Local o && unused_or_dropped p j a Remote q) ≡ false
        → IsLeft p j a x
    by (Some n) is q iq k1 =
        by_bool (dropped p j a Local) (λ b. dropped p j a Local ≡ b
        → (b && unused_or_dropped p j a Remote q) ≡ false → IsLeft p j a x)
        (λ _ on m. remote q iq m) (λ _ off m. record {
          branch = Local;
          group = n;
          runs = is;
          left =
              off;
        }) refl k1
      where
        remote : (q : Option ℕ) → x.remote ≡ q → unused_or_dropped p j a Remote q ≡ false
            → IsLeft p j a x
        remote (Some n) iq m = record { branch = Remote; group = n; runs = iq; left = m }
        remote None iq m = absurd (cc)
    by None is (Some n) iq k1 = record { branch = Remote; group = n; runs = iq; left = k1 }
    by None is None iq k1 = absurd (cc)

-- ---- it is queued

pub idle_branch : (p : Plan) (j : List Entry) (a : ℕ) (b : Branch) → Lawful p j → AllQuiet p j
    → granted j a ≡ false → is_under_way j a b ≡ false
idle_branch p j a b legal all free = false_by _ (λ h.
    let parts = and_parts (nat_lt 0 (attempt j a b)) _ h in
    let low : 0 < attempt j a b = ltb-true 0 (attempt j a b) parts.0 in
    let going : ended j (attempt_of a b (attempt j a b)) ≡ false =
    not_true (ended j (attempt_of a b (attempt j a b))) parts.1 in
    let start = st.no_gap p j a b (attempt j a b) legal (omega (arith, low)) (omega arith) in
    clash (granted j a) (going_granted p j (attempt_of a b (attempt j a b)) legal all
    (g.going_is p j (attempt_of a b (attempt j a b)) legal start going)) free)

pub some_queued : (p : Plan) (j : List Entry) → Sound p → Lawful p j → AllQuiet p j → NoneOwes j
    → all_settled p j ≡ false
    → (a : ℕ) × (x : PlanAction) × (b : Branch) × (n : ℕ) × (slice_get p.actions a ≡ Some x)
    × (group_of x b ≡ Some n) × (queued p j a b x ≡ true)
unfolding settled queued wanted ready
some_queued p j sound legal all idle h =
    let r = next_open p j h in
    let s = stands_after p j r.number r.action r.place in
    let off : is_settled (standing_after p j r.number r.action s.front) ≡ false =
    subst (λ (o : Option Standing). unwrap_or (option_map is_settled o) false ≡ false) s.is
    r.unsettled in
    let open_now = open_by (by_grant j (grant_of j r.number))
    (all_dropped p j r.number r.action || is_starved r.action s.front)
    (λ z m. grant_settled j (grant_of j r.number) z m) off in
    let free = ungranted p j r.number legal idle open_now.0 in
    let tests = neither (all_dropped p j r.number r.action)
    (is_starved r.action s.front) open_now.1 in
    let left = left_of p j r.number r.action tests.0 in
    let made : ready p j r.action ≡ true = all_made (standings p j) s.front p.actions r.number
    s.size s.begin r.before r.action.makers (makers_earlier p r.number r.action sound r.place)
    tests.1 in
    let wish : wanted p j r.number left.branch ≡ true = rw (r.unsettled, free, left.left) refl in
    let rests = idle_branch p j r.number left.branch legal all free in
    (r.number, r.action, left.branch, left.group, r.place, left.runs, rw (wish, made, rests) refl)
  where
    neither : (x y : Bool) → (x || y) ≡ false → (x ≡ false) × (y ≡ false)
    neither false y n = (refl, n)
    neither true y n = absurd (cc)
