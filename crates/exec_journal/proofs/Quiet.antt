-- Entries that leave what is known of the actions as it was.
use Rattle.std.proofs.Common.{◌≡◌, ℕ, true, cond, List, [], ◌∷◌, ◌++◌, length, Option, Some, None, is_some, refl, ap, ◌∙◌}
use Rattle.run_plan.specs.declared.plan.Branch.{Branch}
use Rattle.run_plan.specs.declared.plan.Branch.TheVariants.{Local, Remote}
use Rattle.run_plan.specs.declared.plan.Plan.{Plan}
use Rattle.run_plan.specs.declared.plan.PlanAction.{PlanAction}
use Rattle.exec_journal.specs.declared.attempt.Attempt.{Attempt}
use Rattle.exec_journal.specs.declared.ends.Cause.{Cause}
use Rattle.exec_journal.specs.declared.ends.Standing.{Standing}
use Rattle.exec_journal.specs.Entry.{Entry}
use Rattle.exec_journal.specs.declared.call.Found.{Found}
use Rattle.exec_journal.specs.declared.call.Found.TheVariants as found
use Rattle.list_lemmas.specs.Options.{or_else}
use Rattle.exec_journal.specs.Entries.{attempt_of}
use Rattle.exec_journal.specs.Words.{grant_of, granted, launch_of, was_sent}
use Rattle.exec_journal.specs.Attempts.{attempt, line_of, fault_of, over, end_of, ended, dropped}
use Rattle.exec_journal.specs.Settled.{by_grant, standing_after, standings_from, standings, settled, all_settled, ready, wanted, unused_or_dropped, queued, bound, if_bound, still_bound}
use Rattle.exec_journal.specs.Facts.{SameActions, SameStandings}

-- ---- an entry at which no attempt comes to an end

or_again : {X : Type 0} (x y : Option X) → or_else (or_else x y) y ≡ or_else x y
or_again (Some a) y = refl
or_again None (Some a) = refl
or_again None None = refl

-- what is over has ended, but for grants
pub end_settles : (j : List Entry) (t : Attempt) → or_else (end_of j t) (cond (granted j t.action) None (over j t)) ≡ end_of j t
unfolding end_of granted grant_of fault_of line_of
end_settles [] t = refl
end_settles (e ∷ j) t = or_again (end_of j t) (cond (granted (e ∷ j) t.action) None (over (e ∷ j) t))

-- where an entry changes neither what is over nor what is granted, no attempt ends with it
pub end_same : (e : Entry) (j : List Entry) (t : Attempt) → over (e ∷ j) t ≡ over j t → granted (e ∷ j) t.action ≡ granted j t.action → end_of (e ∷ j) t ≡ end_of j t
unfolding end_of
end_same e j t same grant =
    ap (λ (o : Option Cause). or_else (end_of j t) (cond (granted (e ∷ j) t.action) None o)) same
    ∙ ap (λ b. or_else (end_of j t) (cond b None (over j t))) grant
    ∙ end_settles j t

pub ended_same : (e : Entry) (j : List Entry) (t : Attempt) → over (e ∷ j) t ≡ over j t → granted (e ∷ j) t.action ≡ granted j t.action → ended (e ∷ j) t ≡ ended j t
unfolding ended
ended_same e j t same grant = ap is_some (end_same e j t same grant)

-- an attempt that has ended stays ended, with its cause
pub end_stays : (e : Entry) (j : List Entry) (t : Attempt) (c : Cause) → end_of j t ≡ Some c → end_of (e ∷ j) t ≡ Some c
unfolding end_of
end_stays e j t c h = rw h

pub ended_stays : (e : Entry) (j : List Entry) (t : Attempt) → ended j t ≡ true → ended (e ∷ j) t ≡ true
unfolding ended end_of
ended_stays e j t h = by (end_of j t) h
  where
    by : (o : Option Cause) → is_some o ≡ true → is_some (or_else o (cond (granted (e ∷ j) t.action) None (over (e ∷ j) t))) ≡ true
    by (Some c) h = refl
    by None h = absurd (cc)

-- ---- what is settled, ready, wanted, queued and bound stays

module _ (p : Plan) (j k : List Entry) (same : SameActions j k) where
  pub dropped_same : (a : ℕ) (b : Branch) → dropped p k a b ≡ dropped p j a b
  unfolding dropped
  dropped_same a b = same.ended_too (attempt_of a b p.limit)

  unused_same : (a : ℕ) (b : Branch) (o : Option ℕ) → unused_or_dropped p k a b o ≡ unused_or_dropped p j a b o
  unused_same a b None = refl
  unused_same a b (Some g) = dropped_same a b

  by_grant_same : (o : Option (Attempt × Found)) → by_grant k o ≡ by_grant j o
  by_grant_same None = refl
  by_grant_same (Some (t, found.Exit n)) = refl
  by_grant_same (Some (t, found.Files fs)) = rw (same.commit t.action t.branch)
  by_grant_same (Some (t, _)) = refl

  standing_same : (a : ℕ) (x : PlanAction) (earlier : List Standing) → standing_after p k a x earlier ≡ standing_after p j a x earlier
  standing_same a x earlier = rw (same.grant a, by_grant_same (grant_of j a), unused_same a Local x.local, unused_same a Remote x.remote)

  from_same : (xs : List PlanAction) (earlier : List Standing) → standings_from p k earlier xs ≡ standings_from p j earlier xs
  from_same [] earlier = refl
  from_same (x ∷ xs) earlier =
      ap (λ (s : Standing). standings_from p k (earlier ++ s ∷ []) xs) (standing_same (length earlier) x earlier)
      ∙ from_same xs (earlier ++ standing_after p j (length earlier) x earlier ∷ [])

  pub standings_same : standings p k ≡ standings p j
  unfolding standings
  standings_same = from_same p.actions []

  pub all_settled_same : all_settled p k ≡ all_settled p j
  unfolding all_settled
  all_settled_same = rw standings_same

  pub ready_same : (x : PlanAction) → ready p k x ≡ ready p j x
  unfolding ready
  ready_same x = rw standings_same

  pub wanted_same : (a : ℕ) (b : Branch) → wanted p k a b ≡ wanted p j a b
  unfolding wanted settled granted
  wanted_same a b = rw (standings_same, same.grant a, dropped_same a b)

  pub queued_same : (a : ℕ) (b : Branch) (x : PlanAction) → attempt k a b ≡ attempt j a b → queued p k a b x ≡ queued p j a b x
  unfolding queued
  queued_same a b x e = rw (wanted_same a b, ready_same x, e, same.ended_too (attempt_of a b (attempt j a b)))

  still_bound_same : (t : Attempt) → was_sent k t ≡ was_sent j t → still_bound p k t ≡ still_bound p j t
  still_bound_same t e = rw (wanted_same t.action t.branch, e, same.ended_too t)

  if_bound_same : (o : Option (ℕ × Attempt)) → ((t : Attempt) → was_sent k t ≡ was_sent j t) → if_bound p k o ≡ if_bound p j o
  if_bound_same None e = refl
  if_bound_same (Some (lane, t)) e = rw (still_bound_same t (e t))

  pub bound_same : (l : ℕ) → launch_of k l ≡ launch_of j l → ((t : Attempt) → was_sent k t ≡ was_sent j t) → bound p k l ≡ bound p j l
  unfolding bound
  bound_same l e sent = rw (e, if_bound_same (launch_of j l) sent)

  pub same_standings : SameStandings p j k
  same_standings = record { settled_too = standings_same; ready_too = ready_same; wanted_too = wanted_same }
