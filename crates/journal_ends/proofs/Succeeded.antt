-- The chances of the actions, entry by entry, and what they come to.
use Rattle.std.proofs.Common.{◌≡◌, ◌≢◌, ℕ, zero, suc, ◌+◌, ◌<◌, ◌≤◌, ◌&&◌, Bool, true, false, cond, nat_lt, List, [], ◌∷◌, length, take, Option, Some, None, option_map, unwrap_or, ◌⊎◌, inl, inr, refl, ap, sym, subst, ◌∙◌, arith}
use Rattle.std.specs.Prelude.{slice_get, replicate}
use Rattle.std.specs.Option.{option_or}
use Rattle.std.specs.List.{list_all}
use Rattle.run_plan.specs.declared.plan.Branch.{Branch}
use Rattle.run_plan.specs.declared.plan.Branch.TheVariants.{Local, Remote}
use Rattle.run_plan.specs.declared.plan.Plan.{Plan}
use Rattle.run_plan.specs.declared.plan.PlanAction.{PlanAction}
use Rattle.exec_journal.specs.declared.attempt.Attempt.{Attempt}
use Rattle.exec_journal.specs.Entry.{Entry}
use Rattle.exec_journal.specs.declared.call.Call.{Call}
use Rattle.exec_journal.specs.declared.call.Call.TheVariants as call
use Rattle.exec_journal.specs.declared.call.CommitEnd.{CommitEnd}
use Rattle.exec_journal.specs.declared.call.CommitEnd.TheVariants as commit
use Rattle.exec_journal.specs.declared.call.Found.{Found}
use Rattle.exec_journal.specs.declared.call.Found.TheVariants as found
use Rattle.exec_journal.specs.declared.reply.Reply.{Reply}
use Rattle.exec_journal.specs.declared.reply.Reply.TheVariants as reply
use Rattle.list_lemmas.specs.Options.{unless_before}
use Rattle.list_lemmas.specs.Places.{update_if}
use Rattle.list_lemmas.proofs.Updates.{get_replicate}
use Rattle.exec_journal.specs.Entries.{committed_in, granted_in}
use Rattle.exec_journal.specs.Words.{grant_of, commit_of, of_action}
use Rattle.exec_journal.specs.Ends.{ends_from, ends_of}
use Rattle.exec_journal.specs.Outcomes.{grant_outcome, commit_outcome, outcome_of, is_ok, is_some_ok}
use Rattle.journal_ends.specs.declared.successes.Award.{Award}
use Rattle.journal_ends.specs.declared.successes.Chance.{Chance}
use Rattle.journal_lookback.specs.Lookback.{grants, grant_fact}
use Rattle.journal_ends.specs.Replay.{AllNew}
use Rattle.journal_ends.specs.Successes.{has_succeeded, award_of, is_done, done_for, succeeds, succeeds_by, new_chance, chance_after, chance_of, claimed_action, AreChances}
use Rattle.journal_ends.proofs.Ended.{grant_action}
use Rattle.journal_lookback.proofs.Judged.{ends_start, success_at}
use Rattle.journal_ends.proofs.Replayed.{hit, miss, at_cases, not_this}

pub new_table : (n : ℕ) → AllNew new_chance (replicate n new_chance)
new_table n = record { each = λ a c h. by (nat_lt a n) c (sym (get_replicate new_chance n a) ∙ h) }
  where
    by : (b : Bool) (c : Chance) → cond b (Some new_chance) None ≡ Some c → c ≡ new_chance
    by true c h = cc
    by false c h = absurd (cc)

pub chances_start : (cs : List Chance) → AllNew new_chance cs → AreChances cs []
unfolding grant_of commit_of
chances_start cs new = record { each = λ a c h. new.each a c h }

-- ---- after an entry

award_more : (n o : Option (Attempt × Found)) → option_or (option_map award_of (option_map grant_fact o)) (option_map award_of (option_map grant_fact n)) ≡ option_map award_of (option_map grant_fact (unless_before n o))
award_more None None = refl
award_more None (Some y) = refl
award_more (Some x) None = refl
award_more (Some x) (Some y) = refl

done_more : (n o : Option CommitEnd) → option_or (option_map is_done o) (option_map is_done n) ≡ option_map is_done (unless_before n o)
done_more None None = refl
done_more None (Some y) = refl
done_more (Some x) None = refl
done_more (Some x) (Some y) = refl

chance : Option Award → Option Bool → Option Bool → Chance
chance o l r = record { award = o; local = l; remote = r }

same_chance : (o p : Option Award) (l m r s : Option Bool) → o ≡ p → l ≡ m → r ≡ s → chance o l r ≡ chance p m s
same_chance o p l m r s h k g = rw (h, k, g) refl

chance_entry : (j : List Entry) (a : ℕ) (e : Entry) → chance_after a e (chance_of j a) ≡ chance_of (e ∷ j) a
unfolding chance grant_of commit_of
chance_entry j a e =
    same_chance _ _ _ _ _ _ (award_more (grants a e) (grant_of j a)) (done_more (committed_in a Local e.call) (commit_of j a Local)) (done_more (committed_in a Remote e.call) (commit_of j a Remote))

no_grant : (a : ℕ) (c : Call) (x : Reply) → claimed_action c ≢ Some a → of_action a (granted_in c x) ≡ None
no_grant a (call.Claim b d n f) reply.Granted h = rw (not_this b a h) refl
no_grant a _ _ h = refl

no_commit : (a : ℕ) (b : Branch) (c : Call) → claimed_action c ≢ Some a → committed_in a b c ≡ None
no_commit a b (call.Committed k d how) h = rw (not_this k a h) refl
no_commit a b _ h = refl

chance_aside : (j : List Entry) (a : ℕ) (e : Entry) → claimed_action e.call ≢ Some a → chance_of j a ≡ chance_of (e ∷ j) a
unfolding chance grant_of commit_of
chance_aside j a e off =
    same_chance _ _ _ _ _ _ (sym (ap (λ o. option_map award_of (option_map grant_fact (unless_before o (grant_of j a)))) (no_grant a e.call e.reply off)))
    (sym (ap (λ o. option_map is_done (unless_before o (commit_of j a Local))) (no_commit a Local e.call off)))
    (sym (ap (λ o. option_map is_done (unless_before o (commit_of j a Remote))) (no_commit a Remote e.call off)))

pub chances_more : (cs ds : List Chance) (j : List Entry) (e : Entry) → AreChances cs j → ds ≡ update_if (chance_after (unwrap_or (claimed_action e.call) 0) e) cs (claimed_action e.call) → AreChances ds (e ∷ j)
chances_more cs ds j e are is = record { each = λ a c h. one a c (subst (λ (xs : List Chance). slice_get xs a ≡ Some c) is h) (at_cases a (claimed_action e.call)) }
  where
    turn : ℕ → Chance → Chance
    turn a = chance_after a e

    one : (a : ℕ) (c : Chance) → slice_get (update_if (chance_after (unwrap_or (claimed_action e.call) 0) e) cs (claimed_action e.call)) a ≡ Some c
        → (claimed_action e.call ≡ Some a) ⊎ (claimed_action e.call ≢ Some a) → c ≡ chance_of (e ∷ j) a
    one a c h (inl at) = (let old = hit (λ n. chance_after n e) cs (claimed_action e.call) a c at h in old.2 ∙ ap (chance_after a e) (are.each a old.0 old.1) ∙ chance_entry j a e)
    one a c h (inr off) = are.each a c (sym (miss (λ n. chance_after n e) cs (claimed_action e.call) a off) ∙ h) ∙ chance_aside j a e off

-- ---- what they come to

commit_won : (b : Branch) (o : Option CommitEnd) → unwrap_or (option_map is_done o) false ≡ is_some_ok (commit_outcome b o)
commit_won b (Some commit.Done) = refl
commit_won b (Some (commit.PlaceFault k)) = refl
commit_won b None = refl

done_is : (j : List Entry) (a : ℕ) (b : Branch) → done_for (chance_of j a) b ≡ option_map is_done (commit_of j a b)
done_is j a Local = refl
done_is j a Remote = refl

files_won : (j : List Entry) (a : ℕ) (t : Attempt) → t.action ≡ a → unwrap_or (done_for (chance_of j a) t.branch) false ≡ is_some_ok (commit_outcome t.branch (commit_of j t.action t.branch))
files_won j a t same =
    ap (λ o. unwrap_or o false) (done_is j a t.branch) ∙ commit_won t.branch (commit_of j a t.branch) ∙ ap (λ n. is_some_ok (commit_outcome t.branch (commit_of j n t.branch))) (sym same)

won_at : (j : List Entry) (a : ℕ) (o : Option (Attempt × Found)) → grant_of j a ≡ o → succeeds_by (chance_of j a) (option_map award_of (option_map grant_fact o)) ≡ is_some_ok (grant_outcome j o)
won_at j a None h = refl
won_at j a (Some (t, found.Files fs)) h = files_won j a t (grant_action j a (t, found.Files fs) h)
won_at j a (Some (t, found.Exit n)) h = refl
won_at j a (Some (t, found.Missing k)) h = refl
won_at j a (Some (t, found.RoomFault)) h = refl
won_at j a (Some (t, found.Refused)) h = refl

chance_won : (p : Plan) (j : List Entry) (a : ℕ) (c : Chance) → a < length p.actions → c ≡ chance_of j a → succeeds c ≡ is_ok (outcome_of p j a)
chance_won p j a c lt is = ap succeeds is ∙ won_at j a (grant_of j a) refl ∙ success_at p j a lt

-- those of the actions from a on
won_from : (p : Plan) (j : List Entry) (a : ℕ) (cs : List Chance) (xs : List PlanAction) → length cs ≡ length xs → a + length xs ≤ length p.actions
    → ((k : ℕ) (c : Chance) → slice_get cs k ≡ Some c → c ≡ chance_of j (a + k)) → list_all succeeds cs ≡ list_all has_succeeded (ends_from p j a xs)
won_from p j a [] [] same within each = refl
won_from p j a [] (x ∷ xs) same within each = absurd (omega (arith, same))
won_from p j a (c ∷ cs) [] same within each = absurd (omega (arith, same))
won_from p j a (c ∷ cs) (x ∷ xs) same within each =
    let here : c ≡ chance_of j a = subst (λ n. c ≡ chance_of j n) (let z : a + 0 ≡ a = omega arith in z) (each zero c refl) in
    ap (λ b. b && list_all succeeds cs) (chance_won p j a c (omega arith) here)
    ∙ ap (λ b. is_ok (outcome_of p j a) && b) (won_from p j (suc a) cs xs (omega (arith, same)) (omega arith) (λ k d h. subst (λ n. d ≡ chance_of j n) (let m : a + suc k ≡ suc a + k = omega arith in m) (each (suc k) d h)))

pub all_won : (p : Plan) (j : List Entry) (cs : List Chance) → length cs ≡ length p.actions → ((k : ℕ) (c : Chance) → slice_get cs k ≡ Some c → c ≡ chance_of j k)
    → list_all succeeds cs ≡ list_all has_succeeded (ends_of p j)
all_won p j cs same each =
    won_from p j 0 cs p.actions same (omega arith) (λ k c h. subst (λ n. c ≡ chance_of j n) (let z : k ≡ 0 + k = omega arith in z) (each k c h)) ∙ ap (list_all has_succeeded) (ends_start p j)

taken : {X : Type 0} (xs : List X) (n k : ℕ) (x : X) → slice_get (take n xs) k ≡ Some x → slice_get xs k ≡ Some x
taken [] zero k x h = h
taken [] (suc n) k x h = h
taken (y ∷ ys) zero k x h = absurd (cc)
taken (y ∷ ys) (suc n) zero x h = h
taken (y ∷ ys) (suc n) (suc k) x h = taken ys n k x h

-- by the table's front
pub front_won : (p : Plan) (j : List Entry) (cs : List Chance) → length (take (length p.actions) cs) ≡ length p.actions → AreChances cs j → list_all succeeds (take (length p.actions) cs) ≡ list_all has_succeeded (ends_of p j)
front_won p j cs same are = all_won p j (take (length p.actions) cs) same (λ k c h. are.each k c (taken cs (length p.actions) k c h))
