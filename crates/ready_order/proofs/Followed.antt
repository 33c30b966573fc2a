-- How the table's states follow a journal.
use Rattle.std.proofs.Common.{◌≡◌, ℕ, ◌<◌, ◌≤◌, ◌==◌, nat_lt, Bool, true, false, ◌&&◌, cond, List, [], ◌∷◌, length, get_or, Option, Some, None, is_some, is_none, option_map, unwrap_or, ◌⊎◌, inl, inr, ℤ, refl, ap, sym, subst, ◌∙◌, arith}
use Rattle.std.specs.Prelude.{slice_get}
use Rattle.std.proofs.lemmas.Bool.{eqb-true, eq-eqb, lt-ltb, and_parts}
use Rattle.std.proofs.lemmas.Option.{slice_get-map, slice_get_cases, slice_get_within}
use Rattle.run_plan.specs.declared.plan.Branch.{Branch}
use Rattle.run_plan.specs.declared.plan.Branch.TheVariants.{Local, Remote}
use Rattle.run_plan.specs.declared.plan.Plan.{Plan}
use Rattle.run_plan.specs.declared.plan.PlanAction.{PlanAction}
use Rattle.exec_journal.specs.declared.attempt.Attempt.{Attempt}
use Rattle.exec_journal.specs.declared.ends.Standing.{Standing}
use Rattle.exec_journal.specs.declared.ends.Standing.TheVariants.{Open, Succeeded, Unsuccessful}
use Rattle.exec_journal.specs.Entry.{Entry}
use Rattle.exec_journal.specs.declared.call.Call.TheVariants as call
use Rattle.exec_journal.specs.declared.call.CommitEnd.{CommitEnd}
use Rattle.exec_journal.specs.declared.call.CommitEnd.TheVariants as commit
use Rattle.exec_journal.specs.declared.call.Found.{Found}
use Rattle.exec_journal.specs.declared.call.Found.TheVariants as found
use Rattle.exec_journal.specs.declared.reply.Reply.TheVariants as reply
use Rattle.list_lemmas.specs.Options.{or_else}
use Rattle.exec_journal.specs.Entries.{attempt_of, same_branch, is_branch_of, granted_in}
use Rattle.exec_journal.specs.Words.{of_action, grant_of, granted, commit_of, has_ended, answered, wrote, line_cause}
use Rattle.exec_journal.specs.Attempts.{attempt, number_if, line_of, fault_of, lost_cause, over, end_of, ended, dropped}
use Rattle.exec_journal.specs.Settled.{by_grant, by_commit, unused_or_dropped, all_dropped}
use Rattle.list_lemmas.specs.Places.{update}
use Rattle.exec_journal.proofs.Begins.{same_branch_eq, same_branch_refl, is_branch_refl, attempt_begun, attempt_other}
use Rattle.exec_journal.proofs.Histories.{first_from, some_later}
use Rattle.exec_journal.proofs.Quiet.{ended_same}
use Rattle.exec_journal.proofs.Ruled.{by_bool}
use Rattle.list_lemmas.proofs.Updates.{get_update}
use Rattle.ready_order.specs.declared.ActionState.{ActionState}
use Rattle.ready_order.specs.Queue.{producers_of, new_state, new_states, state_with, with_taken, with_unwanted, granted_state, settled_state, with_settled}
use Rattle.ready_order.specs.Stands.{Stands, is_free, own_in, state_in}
use Rattle.ready_order.specs.Entries.{BeginsThis, IsOpen, WonFiles, SameBranches, is_done}

-- ---- states by the plan's actions

-- the state of an action by the four things that change
abbrev pub made : PlanAction → Bool → Bool → Bool → Standing → ActionState
made x l r g o = record {
  producers = producers_of x;
  local = record { group = x.local; free = l };
  remote = record { group = x.remote; free = r };
  granted = g;
  own = o;
}

pub made_same : (x : PlanAction) (l l' r r' g g' : Bool) (o o' : Standing) → l ≡ l' → r ≡ r' → g ≡ g' → o ≡ o' → made x l r g o ≡ made x l' r' g' o'
made_same x l l' r r' g g' o o' el er eg eo = rw (el, er, eg, eo) refl

-- each state is the one that w gives
abbrev pub AreStates : Plan → (ℕ → PlanAction → ActionState) → List ActionState → Type 0
AreStates p w states = (a : ℕ) → slice_get states a ≡ option_map (w a) (slice_get p.actions a)

-- with the state of one action changed
abbrev pub changed_at : ℕ → (ActionState → ActionState) → (ℕ → PlanAction → ActionState) → ℕ → PlanAction → ActionState
changed_at a g w c x = cond (a == c) (g (w c x)) (w c x)

map_changed : (hit : Bool) (g : ActionState → ActionState) (w : PlanAction → ActionState) (o : Option PlanAction)
    → cond hit (option_map g (option_map w o)) (option_map w o) ≡ option_map (λ x. cond hit (g (w x)) (w x)) o
map_changed true g w None = refl
map_changed false g w None = refl
map_changed true g w (Some x) = refl
map_changed false g w (Some x) = refl

pub states_changed : (p : Plan) (w : ℕ → PlanAction → ActionState) (states : List ActionState) (a : ℕ) (g : ActionState → ActionState) → AreStates p w states → AreStates p (changed_at a g w) (update g states a)
states_changed p w states a g h c =
    get_update g states a c ∙ ap (λ (o : Option ActionState). cond (a == c) (option_map g o) o) (h c) ∙ map_changed (a == c) g (w c) (slice_get p.actions c)

pub map_same : (v w : PlanAction → ActionState) (o : Option PlanAction) → ((x : PlanAction) → o ≡ Some x → w x ≡ v x) → option_map w o ≡ option_map v o
map_same v w None same = refl
map_same v w (Some x) same = ap Some (same x refl)

pub stands_by : (p : Plan) (w : ℕ → PlanAction → ActionState) (states : List ActionState) (k : List Entry) → AreStates p w states → ((a : ℕ) (x : PlanAction) → w a x ≡ state_in p k a x) → Stands p states k
stands_by p w states k h same = record { each = λ a. h a ∙ map_same (state_in p k a) (w a) (slice_get p.actions a) (λ x h. same a x) }

-- ---- what two journals say alike

pub free_same : (p : Plan) (j k : List Entry) (a : ℕ) (b : Branch) → attempt k a b ≡ attempt j a b → ((t : Attempt) → ended k t ≡ ended j t) → is_free p j a b ≡ is_free p k a b
unfolding is_free dropped
free_same p j k a b number ends = rw (number, ends (attempt_of a b (attempt j a b)), ends (attempt_of a b p.limit)) refl

pub granted_same : (j k : List Entry) (a : ℕ) → grant_of k a ≡ grant_of j a → granted j a ≡ granted k a
unfolding granted
granted_same j k a h = rw h refl

by_grant_same : (j k : List Entry) (o : Option (Attempt × Found)) → ((a : ℕ) (b : Branch) → commit_of k a b ≡ commit_of j a b) → by_grant j o ≡ by_grant k o
by_grant_same j k None same = refl
by_grant_same j k (Some (t, found.Exit n)) same = refl
by_grant_same j k (Some (t, found.Files fs)) same = rw (same t.action t.branch) refl
by_grant_same j k (Some (t, _)) same = refl

pub grant_same : (j k : List Entry) (a : ℕ) → grant_of k a ≡ grant_of j a → ((c : ℕ) (b : Branch) → commit_of k c b ≡ commit_of j c b) → by_grant j (grant_of j a) ≡ by_grant k (grant_of k a)
grant_same j k a h same = by_grant_same j k (grant_of j a) same ∙ ap (by_grant k) (sym h)

unused_same : (p : Plan) (j k : List Entry) (a : ℕ) (b : Branch) (o : Option ℕ) → dropped p j a b ≡ dropped p k a b → unused_or_dropped p j a b o ≡ unused_or_dropped p k a b o
unused_same p j k a b None h = refl
unused_same p j k a b (Some g) h = h

pub all_dropped_same : (p : Plan) (j k : List Entry) (a : ℕ) (x : PlanAction) → ((b : Branch) → dropped p j a b ≡ dropped p k a b) → all_dropped p j a x ≡ all_dropped p k a x
all_dropped_same p j k a x h = rw (unused_same p j k a Local x.local (h Local), unused_same p j k a Remote x.remote (h Remote)) refl

pub dropped_same : (p : Plan) (j k : List Entry) (a : ℕ) (b : Branch) → ((t : Attempt) → ended k t ≡ ended j t) → dropped p j a b ≡ dropped p k a b
unfolding dropped
dropped_same p j k a b ends = sym (ends (attempt_of a b p.limit))

pub own_same : (p : Plan) (j k : List Entry) (a : ℕ) (x : PlanAction) → by_grant j (grant_of j a) ≡ by_grant k (grant_of k a) → all_dropped p j a x ≡ all_dropped p k a x → own_in p j a x ≡ own_in p k a x
unfolding own_in
own_same p j k a x grant drop = rw (grant, drop) refl

-- ---- a new table

unused_at_start : (p : Plan) (a : ℕ) (b : Branch) (o : Option ℕ) → unused_or_dropped p [] a b o ≡ is_none o
unfolding dropped ended end_of
unused_at_start p a b None = refl
unused_at_start p a b (Some g) = refl

at_start : (p : Plan) (a : ℕ) (x : PlanAction) → new_state x ≡ state_in p [] a x
unfolding is_free dropped ended end_of attempt granted grant_of own_in
at_start p a x = rw (unused_at_start p a Local x.local, unused_at_start p a Remote x.remote) refl

pub new_stands : (p : Plan) (states : List ActionState) → states ≡ new_states p → Stands p states []
new_stands p states e = stands_by p (λ a x. new_state x) states [] (λ a. ap (λ xs. slice_get xs a) e ∙ slice_get-map new_state p.actions a) (at_start p)

-- ---- an attempt begins

seat_changed : (hit : Bool) (b : Branch) (v : Bool) (x : PlanAction) (l r g : Bool) (o : Standing)
    → cond hit (state_with b v (made x l r g o)) (made x l r g o) ≡ made x (cond (hit && same_branch b Local) v l) (cond (hit && same_branch b Remote) v r) g o
seat_changed true Local v x l r g o = refl
seat_changed true Remote v x l r g o = refl
seat_changed false b v x l r g o = refl

module _ (p : Plan) (j : List Entry) (e : Entry) (t : Attempt) (h : BeginsThis j e t) where
  taken_here : is_free p (e ∷ j) t.action t.branch ≡ false
  unfolding is_free
  taken_here =
      let number : attempt (e ∷ j) t.action t.branch ≡ t.number = attempt_begun e j t.action t.branch t h.begins (is_branch_refl t) in
      let going : ended (e ∷ j) t ≡ false = h.same.ended_too t ∙ h.going in
      let next = h.next.next in
      let some : nat_lt 0 t.number ≡ true = lt-ltb 0 t.number (omega arith) in
      rw (number, some, going) refl

  taken_at : (a : ℕ) (b : Branch) → cond (is_branch_of a b t) false (is_free p j a b) ≡ is_free p (e ∷ j) a b
  taken_at a b =
      by_bool (is_branch_of a b t) (λ v. cond v false (is_free p j a b) ≡ is_free p (e ∷ j) a b)
      (λ same. let parts = and_parts (t.action == a) _ same in
      sym (subst (λ c. is_free p (e ∷ j) c b ≡ false) (eqb-true t.action a parts.0)
      (subst (λ d. is_free p (e ∷ j) t.action d ≡ false) (same_branch_eq t.branch b parts.1) taken_here)))
      (λ other. free_same p j (e ∷ j) a b (attempt_other e j a b (ap (number_if a b) h.begins ∙ ap (λ v. cond v (Some t.number) None) other)) h.same.ended_too)

  pub begun : (states : List ActionState) → Stands p states j → Stands p (with_taken states t.action t.branch) (e ∷ j)
  begun states s =
      stands_by p (changed_at t.action (state_with t.branch false) (state_in p j)) (with_taken states t.action t.branch) (e ∷ j) (states_changed p (state_in p j) states t.action (state_with t.branch false) s.each)
      (λ a x. seat_changed (t.action == a) t.branch false x (is_free p j a Local) (is_free p j a Remote) (granted j a) (own_in p j a x)
      ∙ made_same x _ _ _ _ _ _ _ _ (taken_at a Local) (taken_at a Remote) (granted_same j (e ∷ j) a (h.same.grant a))
      (own_same p j (e ∷ j) a x (grant_same j (e ∷ j) a (h.same.grant a) h.same.commit) (all_dropped_same p j (e ∷ j) a x (λ b. dropped_same p j (e ∷ j) a b h.same.ended_too))))

-- ---- a grant

pub or_none : {X : Type 0} (o : Option X) → or_else o None ≡ o
or_none (Some x) = refl
or_none None = refl

grant_changed : (hit : Bool) (x : PlanAction) (l r g : Bool) (o : Standing) → cond hit (granted_state (made x l r g o)) (made x l r g o) ≡ made x l r (cond hit true g) o
grant_changed true x l r g o = refl
grant_changed false x l r g o = refl

exit_changed : (hit : Bool) (x : PlanAction) (l r g : Bool) (o : Standing)
    → cond hit (settled_state false (cond hit (granted_state (made x l r g o)) (made x l r g o))) (cond hit (granted_state (made x l r g o)) (made x l r g o)) ≡ made x l r (cond hit true g) (cond hit Unsuccessful o)
exit_changed true x l r g o = refl
exit_changed false x l r g o = refl

module _ (p : Plan) (j : List Entry) (lane a t : ℕ) (b : Branch) (what : Found) (open_yet : IsOpen j a) where
  abbrev claim_entry : Entry
  claim_entry = record { lane = lane; call = call.Claim a b t what; reply = reply.Granted }

  abbrev after : List Entry
  after = claim_entry ∷ j

  grant_here : grant_of after a ≡ Some (attempt_of a b t, what)
  unfolding grant_of
  grant_here = let same : (a == a) ≡ true = eq-eqb a a refl in rw (same, open_yet.ungranted) refl

  grant_aside : (c : ℕ) → (a == c) ≡ false → grant_of after c ≡ grant_of j c
  unfolding grant_of
  grant_aside c apart = rw apart refl

  commit_kept : (c : ℕ) (d : Branch) → commit_of after c d ≡ commit_of j c d
  unfolding commit_of
  commit_kept c d = refl

  number_kept : (c : ℕ) (d : Branch) → attempt after c d ≡ attempt j c d
  unfolding attempt
  number_kept c d = refl

  granted_at : (c : ℕ) → cond (a == c) true (granted j c) ≡ granted after c
  unfolding granted
  granted_at c =
      by_bool (a == c) (λ v. cond v true (granted j c) ≡ granted after c)
      (λ same. subst (λ d. true ≡ granted after d) (eqb-true a c same) (rw grant_here refl))
      (λ apart. granted_same j after c (grant_aside c apart))

  lost_kept : (s : Attempt) (o : Option ℕ) → lost_cause after s o ≡ lost_cause j s o
  unfolding has_ended answered wrote line_cause
  lost_kept s None = refl
  lost_kept s (Some l) = refl

  over_kept : (s : Attempt) → over after s ≡ over j s
  unfolding fault_of line_of
  over_kept s = ap (or_else (fault_of j s)) (lost_kept s (line_of j s))

  -- of an action with a grant no attempt ends
  none_ends : (s : Attempt) → granted after s.action ≡ true → ended after s ≡ ended j s
  unfolding ended end_of
  none_ends s won = rw won (ap is_some (or_none (end_of j s)))

  ends_kept : (s : Attempt) → ended after s ≡ ended j s
  ends_kept s =
      by_bool (a == s.action) (λ _. ended after s ≡ ended j s)
      (λ same. none_ends s (sym (granted_at s.action) ∙ ap (λ v. cond v true (granted j s.action)) same))
      (λ apart. ended_same claim_entry j s (over_kept s) (sym (granted_same j after s.action (grant_aside s.action apart))))

  drops_kept : (c : ℕ) (x : PlanAction) → all_dropped p j c x ≡ all_dropped p after c x
  drops_kept c x = all_dropped_same p j after c x (λ d. dropped_same p j after c d ends_kept)

  frees_kept : (c : ℕ) (d : Branch) → is_free p j c d ≡ is_free p after c d
  frees_kept c d = free_same p j after c d (number_kept c d) ends_kept

  own_aside : (c : ℕ) (x : PlanAction) → (a == c) ≡ false → own_in p j c x ≡ own_in p after c x
  own_aside c x apart = own_same p j after c x (grant_same j after c (grant_aside c apart) commit_kept) (drops_kept c x)

-- a grant of files settles nothing yet
module _ (p : Plan) (j : List Entry) (lane a t : ℕ) (b : Branch) (files : List (List ℕ)) (open_yet : IsOpen j a) where
  abbrev after_files : List Entry
  after_files = after p j lane a t b (found.Files files) open_yet

  own_files : (x : PlanAction) → own_in p j a x ≡ own_in p after_files a x
  unfolding own_in
  own_files x =
      rw (open_yet.ungranted, grant_here p j lane a t b (found.Files files) open_yet, commit_kept p j lane a t b (found.Files files) open_yet a b, open_yet.uncommitted b)
      (ap (λ d. cond d Unsuccessful Open) (drops_kept p j lane a t b (found.Files files) open_yet a x))

  own_at : (c : ℕ) (x : PlanAction) → own_in p j c x ≡ own_in p after_files c x
  own_at c x =
      by_bool (a == c) (λ _. own_in p j c x ≡ own_in p after_files c x) (λ same. subst (λ d. own_in p j d x ≡ own_in p after_files d x) (eqb-true a c same) (own_files x))
      (own_aside p j lane a t b (found.Files files) open_yet c x)

  pub granted_files : (states : List ActionState) → Stands p states j → Stands p (with_unwanted states a) after_files
  granted_files states s =
      stands_by p (changed_at a granted_state (state_in p j)) (with_unwanted states a) after_files (states_changed p (state_in p j) states a granted_state s.each)
      (λ c x. grant_changed (a == c) x (is_free p j c Local) (is_free p j c Remote) (granted j c) (own_in p j c x)
      ∙ made_same x _ _ _ _ _ _ _ _ (frees_kept p j lane a t b (found.Files files) open_yet c Local) (frees_kept p j lane a t b (found.Files files) open_yet c Remote)
      (granted_at p j lane a t b (found.Files files) open_yet c) (own_at c x))

-- a grant of an exit code settles the action
module _ (p : Plan) (j : List Entry) (lane a t : ℕ) (b : Branch) (code : ℤ) (open_yet : IsOpen j a) where
  abbrev after_exit : List Entry
  after_exit = after p j lane a t b (found.Exit code) open_yet

  own_exit : (x : PlanAction) → Unsuccessful ≡ own_in p after_exit a x
  unfolding own_in
  own_exit x = rw (grant_here p j lane a t b (found.Exit code) open_yet) refl

  own_exit_at : (c : ℕ) (x : PlanAction) → cond (a == c) Unsuccessful (own_in p j c x) ≡ own_in p after_exit c x
  own_exit_at c x =
      by_bool (a == c) (λ v. cond v Unsuccessful (own_in p j c x) ≡ own_in p after_exit c x) (λ same. subst (λ d. Unsuccessful ≡ own_in p after_exit d x) (eqb-true a c same) (own_exit x))
      (own_aside p j lane a t b (found.Exit code) open_yet c x)

  pub granted_exit : (states : List ActionState) → Stands p states j → Stands p (with_settled (with_unwanted states a) a false) after_exit
  granted_exit states s =
      stands_by p (changed_at a (settled_state false) (changed_at a granted_state (state_in p j))) (with_settled (with_unwanted states a) a false) after_exit
      (states_changed p (changed_at a granted_state (state_in p j)) (with_unwanted states a) a (settled_state false) (states_changed p (state_in p j) states a granted_state s.each))
      (λ c x. exit_changed (a == c) x (is_free p j c Local) (is_free p j c Remote) (granted j c) (own_in p j c x)
      ∙ made_same x _ _ _ _ _ _ _ _ (frees_kept p j lane a t b (found.Exit code) open_yet c Local) (frees_kept p j lane a t b (found.Exit code) open_yet c Remote)
      (granted_at p j lane a t b (found.Exit code) open_yet c) (own_exit_at c x))

-- ---- a commit

settle_changed : (hit v : Bool) (x : PlanAction) (l r g : Bool) (o : Standing)
    → cond hit (settled_state v (made x l r g o)) (made x l r g o) ≡ made x l r g (cond hit (cond v Succeeded Unsuccessful) o)
settle_changed true v x l r g o = refl
settle_changed false v x l r g o = refl

by_done : (how : CommitEnd) (d : Standing) → cond (is_done how) Succeeded Unsuccessful ≡ unwrap_or (by_commit (Some how)) d
by_done commit.Done d = refl
by_done (commit.PlaceFault n) d = refl

-- a grant is of its own action
granted_if : (c : ℕ) (o : Option (Attempt × Found)) (x : Attempt × Found) → of_action c o ≡ Some x → x.0.action ≡ c
granted_if c None x h = absurd (cc)
granted_if c (Some y) x h =
    by_bool (y.0.action == c) (λ v. cond v (Some y) None ≡ Some x → x.0.action ≡ c)
    (λ same k. let e : y ≡ x = cc in subst (λ z. z.0.action ≡ c) e (eqb-true y.0.action c same)) (λ apart k. absurd (cc)) h

granted_action : (j : List Entry) (c : ℕ) (x : Attempt × Found) → grant_of j c ≡ Some x → x.0.action ≡ c
unfolding grant_of
granted_action j c x h =
    some_later (λ k e. of_action c (granted_in e.call e.reply) ≡ Some x) (λ k. x.0.action ≡ c) (λ k e here. granted_if c (granted_in e.call e.reply) x here) (λ k e later. later) j
    (first_from (λ k e. of_action c (granted_in e.call e.reply)) j x h)

module _ (p : Plan) (j : List Entry) (lane a : ℕ) (b : Branch) (how : CommitEnd) (won : WonFiles j a b) where
  abbrev commit_entry : Entry
  commit_entry = record { lane = lane; call = call.Committed a b how; reply = reply.Noted }

  abbrev then : List Entry
  then = commit_entry ∷ j

  commit_here : commit_of then a b ≡ Some how
  unfolding commit_of
  commit_here = let same : (a == a) ≡ true = eq-eqb a a refl in rw (same, same_branch_refl b, won.uncommitted) refl

  commit_off : (c : ℕ) (d : Branch) → (a == c) ≡ false → commit_of then c d ≡ commit_of j c d
  unfolding commit_of
  commit_off c d apart = rw apart refl

  grant_then : (c : ℕ) → grant_of then c ≡ grant_of j c
  unfolding grant_of
  grant_then c = refl

  number_then : (c : ℕ) (d : Branch) → attempt then c d ≡ attempt j c d
  unfolding attempt
  number_then c d = refl

  lost_then : (s : Attempt) (o : Option ℕ) → lost_cause then s o ≡ lost_cause j s o
  unfolding has_ended answered wrote line_cause
  lost_then s None = refl
  lost_then s (Some l) = refl

  over_then : (s : Attempt) → over then s ≡ over j s
  unfolding fault_of line_of
  over_then s = ap (or_else (fault_of j s)) (lost_then s (line_of j s))

  ends_then : (s : Attempt) → ended then s ≡ ended j s
  ends_then s = ended_same commit_entry j s (over_then s) (sym (granted_same j then s.action (grant_then s.action)))

  own_committed : (x : PlanAction) → cond (is_done how) Succeeded Unsuccessful ≡ own_in p then a x
  unfolding own_in
  own_committed x =
      let here : by_grant then (grant_of then a) ≡ by_commit (Some how) = ap (by_grant then) (grant_then a ∙ won.winner) ∙ ap by_commit commit_here in
      by_done how (cond (all_dropped p then a x) Unsuccessful Open) ∙ ap (λ o. unwrap_or o (cond (all_dropped p then a x) Unsuccessful Open)) (sym here)

  grant_off : (c : ℕ) (o : Option (Attempt × Found)) → grant_of j c ≡ o → (a == c) ≡ false → by_grant j o ≡ by_grant then o
  grant_off c None h apart = refl
  grant_off c (Some (s, found.Exit n)) h apart = refl
  grant_off c (Some (s, found.Files fs)) h apart =
      let same : s.action ≡ c = granted_action j c (s, found.Files fs) h in
      ap by_commit (sym (commit_off s.action s.branch (ap (λ n. a == n) same ∙ apart)))
  grant_off c (Some (s, _)) h apart = refl

  drops_then : (c : ℕ) (x : PlanAction) → all_dropped p j c x ≡ all_dropped p then c x
  drops_then c x = all_dropped_same p j then c x (λ d. dropped_same p j then c d ends_then)

  own_then : (c : ℕ) (x : PlanAction) → cond (a == c) (cond (is_done how) Succeeded Unsuccessful) (own_in p j c x) ≡ own_in p then c x
  own_then c x =
      by_bool (a == c) (λ v. cond v (cond (is_done how) Succeeded Unsuccessful) (own_in p j c x) ≡ own_in p then c x)
      (λ same. subst (λ d. cond (is_done how) Succeeded Unsuccessful ≡ own_in p then d x) (eqb-true a c same) (own_committed x))
      (λ apart. own_same p j then c x (grant_off c (grant_of j c) refl apart ∙ ap (by_grant then) (sym (grant_then c))) (drops_then c x))

  pub committed : (states : List ActionState) → Stands p states j → Stands p (with_settled states a (is_done how)) then
  committed states s =
      stands_by p (changed_at a (settled_state (is_done how)) (state_in p j)) (with_settled states a (is_done how)) then (states_changed p (state_in p j) states a (settled_state (is_done how)) s.each)
      (λ c x. settle_changed (a == c) (is_done how) x (is_free p j c Local) (is_free p j c Remote) (granted j c) (own_in p j c x)
      ∙ made_same x _ _ _ _ _ _ _ _ (free_same p j then c Local (number_then c Local) ends_then) (free_same p j then c Remote (number_then c Remote) ends_then)
      (granted_same j then c (grant_then c)) (own_then c x))

-- ---- any other entry

pub others : (p : Plan) (states : List ActionState) (j k : List Entry) → Stands p states j → SameBranches j k → Stands p states k
others p states j k s h =
    stands_by p (state_in p j) states k s.each
    (λ a x. made_same x _ _ _ _ _ _ _ _ (free_same p j k a Local (h.none_begins a Local) h.actions.ended_too) (free_same p j k a Remote (h.none_begins a Remote) h.actions.ended_too)
    (granted_same j k a (h.actions.grant a))
    (own_same p j k a x (grant_same j k a (h.actions.grant a) h.actions.commit) (all_dropped_same p j k a x (λ b. dropped_same p j k a b h.actions.ended_too))))

-- ---- which actions it knows

pub known : (p : Plan) (states : List ActionState) (j : List Entry) (a : ℕ) → Stands p states j → a < length p.actions → a < length states
known p states j a s lt = by (slice_get_cases p.actions a).1
  where
    by : ((x : PlanAction) × (a < length p.actions) × (slice_get p.actions a ≡ Some x) × (get_or p.actions a x ≡ x)) ⊎ ((length p.actions ≤ a) × (slice_get p.actions a ≡ None)) → a < length states
    by (inl w) = slice_get_within states a (state_in p j a w.0) (s.each a ∙ ap (option_map (state_in p j a)) w.2)
    by (inr w) = absurd (let past = w.0 in omega arith)
