-- How the table's rows follow a journal.
use Rattle.std.proofs.Common.{◌≡◌, ◌≢◌, ℕ, ◌<◌, ◌==◌, nat_lt, Bool, true, false, ◌&&◌, not, cond, List, [], ◌∷◌, length, get_or, set, Option, Some, None, is_some, option_map, option_and_then, refl, ap, sym, subst, ◌∙◌, arith}
use Rattle.std.specs.Prelude.{slice_get, replicate}
use Rattle.std.proofs.lemmas.Bool.{eqb-true, eq-eqb, lt-ltb}
use Rattle.std.proofs.lemmas.Option.{slice_get_read}
use Rattle.run_plan.specs.declared.plan.Branch.{Branch}
use Rattle.run_plan.specs.declared.plan.Branch.TheVariants.{Local, Remote}
use Rattle.run_plan.specs.declared.plan.Plan.{Plan}
use Rattle.exec_journal.specs.declared.attempt.Attempt.{Attempt}
use Rattle.exec_journal.specs.Entry.{Entry}
use Rattle.exec_journal.specs.declared.call.Call.TheVariants as call
use Rattle.exec_journal.specs.declared.call.CommitEnd.{CommitEnd}
use Rattle.exec_journal.specs.declared.call.Found.{Found}
use Rattle.exec_journal.specs.declared.reply.Reply.{Reply}
use Rattle.exec_journal.specs.declared.reply.Reply.TheVariants as reply
use Rattle.list_lemmas.specs.Options.{unless_before}
use Rattle.exec_journal.specs.Entries.{attempt_of, same_branch}
use Rattle.exec_journal.specs.Rules.{is_other}
use Rattle.list_lemmas.specs.Places.{update}
use Rattle.exec_journal.specs.Words.{grant_of, commit_of}
use Rattle.exec_journal.proofs.Begins.{same_branch_refl}
use Rattle.exec_journal.proofs.Ruled.{by_bool}
use Rattle.list_lemmas.proofs.Updates.{set-update}
use Rattle.race_core.specs.declared.Won.{Won}
use Rattle.race_core.specs.Rows.{open_row, winner_of, claimed_row, committed_row, with_claim, with_commit}
use Rattle.race_core.specs.Stands.{Stands, branch_in, commit_by, is_done, won_in}
use Rattle.race_core.specs.Entries.{IsOpen, WonBy, SameRace}
use Rattle.list_lemmas.proofs.Updates.{get_update, get_replicate}

pub new_stands : (p : Plan) (rows : List Won) → rows ≡ replicate (length p.actions) open_row → Stands p rows []
unfolding won_in grant_of commit_of
new_stands p rows e = record {
  each = λ a. ap (λ ys. slice_get ys a) e ∙ get_replicate open_row (length p.actions) a;
}

-- ---- one row changes

within : (in_plan : Bool) (g : Won → Won) (x : Won) → option_map g (cond in_plan (Some x) None) ≡ cond in_plan (Some (g x)) None
within true g x = refl
within false g x = refl

-- where the changed row is the new journal's, and each other one was
changed : (p : Plan) (rows : List Won) (j k : List Entry) (a : ℕ) (g : Won → Won) → Stands p rows j
    → g (won_in j a) ≡ won_in k a → ((c : ℕ) → (a == c) ≡ false → won_in j c ≡ won_in k c) → Stands p (update g rows a) k
changed p rows j k a g s here other = record {
  each = λ c. get_update g rows a c ∙ ap (λ (o : Option Won). cond (a == c) (option_map g o) o) (s.each c) ∙ at c;
}
  where
    at : (c : ℕ) → cond (a == c) (option_map g (cond (nat_lt c (length p.actions)) (Some (won_in j c)) None)) (cond (nat_lt c (length p.actions)) (Some (won_in j c)) None) ≡ cond (nat_lt c (length p.actions)) (Some (won_in k c)) None
    at c =
        by_bool (a == c) (λ x. cond x (option_map g (cond (nat_lt c (length p.actions)) (Some (won_in j c)) None)) (cond (nat_lt c (length p.actions)) (Some (won_in j c)) None) ≡ cond (nat_lt c (length p.actions)) (Some (won_in k c)) None)
        (λ same. within (nat_lt c (length p.actions)) g (won_in j c) ∙ ap (λ r. cond (nat_lt c (length p.actions)) (Some r) None) (subst (λ d. g (won_in j d) ≡ won_in k d) (eqb-true a c same) here))
        (λ apart. ap (λ r. cond (nat_lt c (length p.actions)) (Some r) None) (other c apart))

module _ (p : Plan) (rows : List Won) (j : List Entry) (lane a t : ℕ) (b : Branch) (found : Found) (s : Stands p rows j) (open_yet : IsOpen j a) where
  abbrev claim_entry : Entry
  claim_entry = record { lane = lane; call = call.Claim a b t found; reply = reply.Granted }

  grant_here : grant_of (claim_entry ∷ j) a ≡ Some (attempt_of a b t, found)
  unfolding grant_of
  grant_here = let same : (a == a) ≡ true = eq-eqb a a refl in rw (same, open_yet.ungranted) refl

  granted_row : claimed_row b (won_in j a) ≡ won_in (claim_entry ∷ j) a
  unfolding won_in commit_of
  granted_row = rw (open_yet.ungranted, grant_here, open_yet.uncommitted b) refl

  granted_other : (c : ℕ) → (a == c) ≡ false → won_in j c ≡ won_in (claim_entry ∷ j) c
  unfolding won_in grant_of commit_of
  granted_other c apart = rw apart refl

  pub grants : Stands p (with_claim rows a b) (claim_entry ∷ j)
  grants = changed p rows j (claim_entry ∷ j) a (claimed_row b) s granted_row granted_other

module _ (p : Plan) (rows : List Won) (j : List Entry) (lane a : ℕ) (b : Branch) (how : CommitEnd) (r : Reply) (s : Stands p rows j) (won : WonBy j a b) where
  abbrev commit_entry : Entry
  commit_entry = record { lane = lane; call = call.Committed a b how; reply = r }

  commit_here : commit_of (commit_entry ∷ j) a b ≡ Some how
  unfolding commit_of
  commit_here = let same : (a == a) ≡ true = eq-eqb a a refl in rw (same, same_branch_refl b, won.uncommitted) refl

  by_winner : (o : Option (Attempt × Found)) → branch_in o ≡ Some b → commit_by (commit_entry ∷ j) a o ≡ Some (is_done how)
  by_winner None h = absurd (cc)
  by_winner (Some x) h =
      let e : x.0.branch ≡ b = cc in
      rw (e, commit_here) refl

  committed_here : committed_row (is_done how) (won_in j a) ≡ won_in (commit_entry ∷ j) a
  unfolding won_in grant_of
  committed_here = ap (λ (o : Option Bool). record { winner = branch_in (grant_of j a); committed = o }) (sym (by_winner (grant_of j a) won.winner))

  commit_aside : (c : ℕ) (o : Option (Attempt × Found)) → (a == c) ≡ false → commit_by j c o ≡ commit_by (commit_entry ∷ j) c o
  unfolding commit_of
  commit_aside c None apart = refl
  commit_aside c (Some x) apart = rw apart refl

  committed_other : (c : ℕ) → (a == c) ≡ false → won_in j c ≡ won_in (commit_entry ∷ j) c
  unfolding won_in grant_of
  committed_other c apart = ap (λ (o : Option Bool). record { winner = branch_in (grant_of j c); committed = o }) (commit_aside c (grant_of j c) apart)

  pub commits : Stands p (with_commit rows a (is_done how)) (commit_entry ∷ j)
  commits = changed p rows j (commit_entry ∷ j) a (committed_row (is_done how)) s committed_here committed_other

module _ (p : Plan) (rows : List Won) (j k : List Entry) (s : Stands p rows j) (same : SameRace j k) where
  commit_same : (a : ℕ) (o : Option (Attempt × Found)) → commit_by j a o ≡ commit_by k a o
  commit_same a None = refl
  commit_same a (Some x) = rw (same.commit a x.0.branch) refl

  won_same : (a : ℕ) → won_in j a ≡ won_in k a
  unfolding won_in
  won_same a = rw (same.grant a) (ap (λ (o : Option Bool). record { winner = branch_in (grant_of j a); committed = o }) (commit_same a (grant_of j a)))

  pub others : Stands p rows k
  others = record { each = λ a. s.each a ∙ ap (λ r. cond (nat_lt a (length p.actions)) (Some r) None) (won_same a) }

-- ---- the winner

module _ (p : Plan) (rows : List Won) (j : List Entry) (a : ℕ) (s : Stands p rows j) (known : a < length p.actions) where
  pub winner_is : winner_of rows a ≡ branch_in (grant_of j a)
  unfolding won_in
  winner_is =
      let in_plan : nat_lt a (length p.actions) ≡ true = lt-ltb a (length p.actions) known in
      ap (λ o. option_and_then (λ x. x.winner) o) (s.each a ∙ ap (λ x. cond x (Some (won_in j a)) None) in_plan)

  other_than : (b c : Branch) → (Some c ≢ Some b) → not (same_branch c b) ≡ true
  other_than Local Local h = absurd (h refl)
  other_than Remote Remote h = absurd (h refl)
  other_than Local Remote h = refl
  other_than Remote Local h = refl

  other_by : (b : Branch) (o : Option (Attempt × Found)) → branch_in o ≢ Some b → is_other b o ≡ is_some (branch_in o)
  other_by b None h = refl
  other_by b (Some x) h = other_than b x.0.branch h

  pub other_is : (b : Branch) → winner_of rows a ≢ Some b → is_other b (grant_of j a) ≡ is_some (winner_of rows a)
  other_is b h = other_by b (grant_of j a) (λ e. h (winner_is ∙ e)) ∙ ap is_some (sym winner_is)

-- ---- the table's own calls

pub read : (rows rows' : List Won) (a : ℕ) (x : Won) → rows ≡ rows' → a < length rows' → x ≡ get_or rows a x → winner_of rows' a ≡ x.winner
read rows rows' a x e lt is =
    let below : a < length rows = rw e lt in
    ap (λ g. winner_of g a) (sym e) ∙ ap (λ o. option_and_then (λ y. y.winner) o) (slice_get_read rows (length rows) a x refl below is)

pub written : (g : Won → Won) (rows rows' : List Won) (a : ℕ) (x r : Won) → rows ≡ rows' → a < length rows' → x ≡ get_or rows a x → r ≡ g x → set rows a r ≡ update g rows' a
written g rows rows' a x r e lt is more =
    let below : a < length rows = rw e lt in
    ap (λ y. set rows a y) (more ∙ ap g is) ∙ set-update g rows a x below ∙ ap (λ ys. update g ys a) e
