-- The facts that the table keeps, and what a call makes of them.
use Rattle.std.specs.Prelude.{ℕ, ◌+◌, nat_lt, unwrap_or, option_map, if◌then◌else◌, List, [], ◌∷◌, length, slice_get, replicate}
use Rattle.run_plan.specs.declared.plan.Branch.{Branch}
use Rattle.run_plan.specs.declared.plan.Branch.TheVariants.{Local, Remote}
use Rattle.run_plan.specs.declared.plan.Plan.{Plan}
use Rattle.exec_journal.specs.declared.attempt.Attempt.{Attempt}
use Rattle.list_lemmas.specs.Places.{update}
use Rattle.retry_rules.specs.declared.After.{After}
use Rattle.retry_rules.specs.declared.After.TheVariants.{Again, Spent}
use Rattle.retry_rules.specs.declared.EndedCounts.{EndedCounts}

pub record Facts : Type 0 where
  -- of each action
  pub ended : List EndedCounts
  -- how many attempts of a branch there may be
  pub limit : ℕ

abbrev pub none_ended : EndedCounts
none_ended = record { local = 0; remote = 0 }

abbrev pub new_facts : Plan → Facts
new_facts p = record { ended = replicate (length p.actions) none_ended; limit = p.limit }

abbrev pub count_of : Branch → EndedCounts → ℕ
count_of Local x = x.local
count_of Remote x = x.remote

-- how many attempts of the branch have ended
abbrev pub ended_of : Facts → ℕ → Branch → ℕ
ended_of f a b = unwrap_or (option_map (count_of b) (slice_get f.ended a)) 0

abbrev pub one_more : Branch → EndedCounts → EndedCounts
one_more Local x = record { local = x.local + 1; remote = x.remote }
one_more Remote x = record { local = x.local; remote = x.remote + 1 }

-- one more attempt of the branch has ended
abbrev pub with_end : Facts → ℕ → Branch → Facts
with_end f a b = record { ended = update (one_more b) f.ended a; limit = f.limit }

-- so have all of these
abbrev pub with_ends : Facts → List Attempt → Facts
with_ends f [] = f
with_ends f (t ∷ ts) = with_ends (with_end f t.action t.branch) ts

-- again exactly where the attempt that ended is below the limit
abbrev pub after_attempt : ℕ → ℕ → After
after_attempt number limit = if nat_lt number limit then Again (number + 1) else Spent
