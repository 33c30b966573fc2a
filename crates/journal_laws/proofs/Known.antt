-- More that is so in every legal journal: of matches, of cancelled requests, of outcomes, and after Stop.
use Rattle.std.proofs.Common.{◌≡◌, ℕ, zero, suc, ◌+◌, ◌<◌, ◌≤◌, ◌==◌, true, false, ◌&&◌, ◌||◌, not, cond, List, [], ◌∷◌, ◌++◌, length, Option, Some, None, is_some, option_map, unwrap_or, ◌⊎◌, inl, inr, refl, sym, subst, ◌∙◌, arith}
use Rattle.std.specs.Prelude.{slice_get}
use Rattle.std.specs.List.{list_any, list_all}
use Rattle.std.proofs.lemmas.Bool.{and_parts, and_from, or_cases, or_parts}
use Rattle.run_plan.specs.declared.plan.Branch.{Branch}
use Rattle.run_plan.specs.declared.plan.Maker.{Maker}
use Rattle.run_plan.specs.declared.plan.Plan.{Plan}
use Rattle.run_plan.specs.declared.plan.PlanAction.{PlanAction}
use Rattle.exec_journal.specs.declared.attempt.Attempt.{Attempt}
use Rattle.exec_journal.specs.Entry.{Entry}
use Rattle.exec_journal.specs.declared.ends.Outcome.{Outcome}
use Rattle.exec_journal.specs.declared.ends.Outcome.TheVariants as outcome
use Rattle.exec_journal.specs.declared.ends.Standing.{Standing}
use Rattle.exec_journal.specs.declared.ends.Standing.TheVariants.{Open, Succeeded, Unsuccessful}
use Rattle.exec_journal.specs.declared.call.CommitEnd.{CommitEnd}
use Rattle.exec_journal.specs.declared.call.CommitEnd.TheVariants as commit
use Rattle.exec_journal.specs.declared.call.Found.{Found}
use Rattle.exec_journal.specs.declared.call.Found.TheVariants as found
use Rattle.exec_journal.specs.declared.call.Written.{Written}
use Rattle.exec_journal.specs.declared.call.Written.TheVariants as write
use Rattle.exec_journal.specs.declared.reply.Reply.{Reply}
use Rattle.exec_journal.specs.declared.reply.Reply.TheVariants as reply
use Rattle.exec_journal.specs.Entries.{is_stop, is_halt, gather_in, is_branch_of}
use Rattle.exec_journal.specs.Words.{answered, wrote, says_done, says_unwritten, says_feed_fault, has_ended, granted, grant_of, commit_of, halted, stopped}
use Rattle.exec_journal.specs.Attempts.{attempt, ended, begun_in}
use Rattle.exec_journal.specs.Settled.{is_settled, is_unsuccessful, is_success, by_commit, by_grant, all_dropped, is_starved, standing_after, standings_from, standings, settled, all_settled}
use Rattle.exec_journal.specs.Outcomes.{outcome_of, outcome_after, grant_outcome, commit_outcome, least_without, lesser, skipped}
use Rattle.exec_journal.specs.Lawful.{Lawful}
use Rattle.exec_journal.specs.Facts.{begun}
use Rattle.journal_laws.specs.Invariant.{IsGoing, claimed, claims_it}
use Rattle.journal_laws.specs.Steps.{is_known, IsGathering}
use Rattle.exec_journal.proofs.Ruled.{by_bool, not_true}
use Rattle.exec_journal.proofs.Begins.{attempt_begun, attempt_other, attempts_in_order, begin_in_order}
use Rattle.journal_laws.proofs.Carried as k
use Rattle.journal_laws.proofs.Over as v
use Rattle.journal_laws.proofs.Claims as c
use Rattle.journal_laws.proofs.Claims.{clash, false_by}
use Rattle.journal_laws.proofs.Granted as g
use Rattle.journal_laws.proofs.Firm as f
use Rattle.journal_laws.proofs.Stops as st

-- ---- attempts under way

pub going_limited : (p : Plan) (j : List Entry) (t : Attempt) → Lawful p j → 1 ≤ p.limit → IsGoing j t → t.number ≤ p.limit
going_limited p j t legal least is = let most = (attempts_in_order p j legal).limited t.action t.branch least in let n = is.latest in omega arith

-- what wasn't begun hasn't ended
pub past_unended : (p : Plan) (j : List Entry) (t : Attempt) → Lawful p j → attempt j t.action t.branch < t.number → ended j t ≡ false
past_unended p j t legal lt = false_by _ (λ over. let up = ((attempts_in_order p j legal).numbered t (c.ended_begun p j t legal over)).1 in absurd (omega arith))

-- a match whose Wrote isn't a fault, and that isn't claimed, is under way
pub match_going : (p : Plan) (j : List Entry) (t : Attempt) → Lawful p j → answered j t ≡ true → says_unwritten (wrote j t) ≡ false → says_feed_fault (wrote j t) ≡ false → claimed j t ≡ false → IsGoing j t
match_going p j t legal consumed whole fed unclaimed =
    let sent = c.answered_sent p j t legal consumed in
    g.going_is p j t legal (k.sent_begun j t sent) (g.still_going p j t legal sent whole unclaimed
    (λ l at. false_by _ (λ lost. elim (or_cases (not (answered j t)) _ (and_parts (has_ended j l) _ lost).1) [
      | inl un ↦ clash _ consumed (not_true _ un)
      | inr feed ↦ clash _ feed fed
    ])))

done_fed : (o : Option Written) → says_done o ≡ true → says_feed_fault o ≡ false
done_fed (Some write.Done) h = refl
done_fed (Some write.FeedFault) h = absurd (cc)
done_fed (Some write.RoomFault) h = absurd (cc)
done_fed (Some write.TooLarge) h = absurd (cc)
done_fed None h = absurd (cc)

-- so is what is to be gathered: its action isn't settled, and its branch is wanted
pub gathers_going : (p : Plan) (e : Entry) (j : List Entry) (t : Attempt) → Lawful p (e ∷ j) → gather_in e.reply ≡ Some t → IsGathering p j t
gathers_going p e j t legal h =
    let ga = c.gather_is p j e.lane e.call e.reply t (v.entry_ruled p e j legal) h in
    let unclaimed : claimed j t ≡ false = false_by _ (λ old. clash _ (c.claimed_gathered p j t legal.0 old) ga.ungathered) in
    let is = match_going p j t legal.0 ga.consumed (g.done_written (wrote j t) ga.written) (done_fed (wrote j t) ga.written) unclaimed in
    record { under_way = is; unsettled = f.going_unsettled p j t legal.0 is ga.ungranted; wish = f.going_wanted p j t legal.0 is ∙ rw ga.ungranted refl }

-- a Claim comes on no action that is settled without a grant
pub claims_unsettled : (p : Plan) (e : Entry) (j : List Entry) (t : Attempt) → Lawful p (e ∷ j) → claims_it t e.call ≡ true → granted j t.action ≡ false → settled p j t.action ≡ false
claims_unsettled p e j t legal h free = f.going_unsettled p j t legal.0 (g.claimable p e j t legal h).under_way free

-- ---- the outcome of a settled action is known

won_known : (j : List Entry) (o : Option (Attempt × Found)) (s : Standing) (d : Outcome) → by_grant j o ≡ Some s → is_known (unwrap_or (grant_outcome j o) d) ≡ true
won_known j None s d h = absurd (cc)
won_known j (Some (t, found.Exit n)) s d h = refl
won_known j (Some (t, found.Files fs)) s d h = by (commit_of j t.action t.branch) h
  where
    by : (o : Option CommitEnd) → by_commit o ≡ Some s → is_known (unwrap_or (commit_outcome t.branch o) d) ≡ true
    by (Some commit.Done) k = refl
    by (Some (commit.PlaceFault n)) k = refl
    by None k = absurd (cc)
won_known j (Some (t, _)) s d h = absurd (cc)

unwon : (j : List Entry) (o : Option (Attempt × Found)) → by_grant j o ≡ None → grant_outcome j o ≡ None
unwon j None h = refl
unwon j (Some (t, found.Exit n)) h = absurd (cc)
unwon j (Some (t, found.Files fs)) h = by (commit_of j t.action t.branch) h
  where
    by : (o : Option CommitEnd) → by_commit o ≡ None → commit_outcome t.branch o ≡ None
    by (Some commit.Done) k = absurd (cc)
    by (Some (commit.PlaceFault n)) k = absurd (cc)
    by None k = refl
unwon j (Some (t, _)) h = refl

least_there : (xs : List Standing) (ms : List Maker) → list_any (λ m. is_unsuccessful (slice_get xs m.action)) ms ≡ true → is_some (least_without xs ms) ≡ true
least_there xs [] h = absurd (cc)
least_there xs (m ∷ ms) h = by (slice_get xs m.action) refl (λ b. least_there xs ms b)
  where
    there : (o : Option ℕ) → is_some (lesser (Some m.action) o) ≡ true
    there None = refl
    there (Some n) = refl

    rest : is_unsuccessful (slice_get xs m.action) ≡ false → (list_any (λ z. is_unsuccessful (slice_get xs z.action)) ms ≡ true → is_some (least_without xs ms) ≡ true) → is_some (least_without xs ms) ≡ true
    rest off ih = elim (or_cases (is_unsuccessful (slice_get xs m.action)) _ h) [ inl a ↦ absurd (clash _ a off) | inr b ↦ ih b ]

    by : (o : Option Standing) → slice_get xs m.action ≡ o → (list_any (λ z. is_unsuccessful (slice_get xs z.action)) ms ≡ true → is_some (least_without xs ms) ≡ true)
        → is_some (cond (is_success o) (least_without xs ms) (lesser (Some m.action) (least_without xs ms))) ≡ true
    by (Some Succeeded) is ih = rest (rw is refl) ih
    by (Some Open) is ih = there (least_without xs ms)
    by (Some Unsuccessful) is ih = there (least_without xs ms)
    by None is ih = there (least_without xs ms)

skipped_known : (xs : List Standing) (x : PlanAction) → is_starved x xs ≡ true → is_known (skipped xs x) ≡ true
skipped_known xs x h = by (least_without xs x.makers) (least_there xs x.makers h)
  where
    by : (o : Option ℕ) → is_some o ≡ true → is_known (unwrap_or (option_map (λ m. outcome.Skipped m) o) outcome.Unsettled) ≡ true
    by (Some m) k = refl
    by None k = absurd (cc)

starved_more : (x : PlanAction) (xs ys : List Standing) → f.Extends xs ys → is_starved x xs ≡ true → is_starved x ys ≡ true
unfolding f.Extends
starved_more x xs ys ext h = f.any_map (λ (m : Maker). is_unsuccessful (slice_get xs m.action)) (λ (m : Maker). is_unsuccessful (slice_get ys m.action)) (λ m y. rw (ext m.action Unsuccessful (f.without_is _ y)) refl) x.makers h

pub outcome_known : (p : Plan) (j : List Entry) (a : ℕ) (x : PlanAction) → slice_get p.actions a ≡ Some x → settled p j a ≡ true → is_known (outcome_of p j a) ≡ true
unfolding settled outcome_of
outcome_known p j a x at h =
    let s = f.stands_at p j a x at in
    let yes_settled : is_settled (standing_after p j a x s.front) ≡ true = subst (λ o. unwrap_or (option_map is_settled o) false ≡ true) s.is h in
    rw at (by s.front s.begin (by_grant j (grant_of j a)) refl yes_settled)
  where
    lost : (front : List Standing) → f.Extends front (standings p j) → (all_dropped p j a x || is_starved x front) ≡ true
        → is_known (cond (all_dropped p j a x) outcome.Dropped (cond (is_starved x (standings p j)) (skipped (standings p j) x) outcome.Unsettled)) ≡ true
    lost front ext test =
        by_bool (all_dropped p j a x) (λ b. all_dropped p j a x ≡ b → is_known (cond b outcome.Dropped (cond (is_starved x (standings p j)) (skipped (standings p j) x) outcome.Unsettled)) ≡ true)
        (λ _ _. refl)
        (λ _ left. (let starved : is_starved x (standings p j) ≡ true = elim (or_cases (all_dropped p j a x) _ test) [ inl c ↦ absurd (clash _ c left) | inr d ↦ starved_more x front (standings p j) ext d ] in
        rw starved (skipped_known (standings p j) x starved))) refl

    by : (front : List Standing) → f.Extends front (standings p j) → (o : Option Standing) → by_grant j (grant_of j a) ≡ o
        → is_settled (unwrap_or o (cond (all_dropped p j a x || is_starved x front) Unsuccessful Open)) ≡ true → is_known (outcome_after p j a x (standings p j)) ≡ true
    by front ext (Some s) is k = won_known j (grant_of j a) s _ is
    by front ext None is k =
        by_bool (all_dropped p j a x || is_starved x front) (λ b. (all_dropped p j a x || is_starved x front) ≡ b → is_settled (cond b Unsuccessful Open) ≡ true → is_known (outcome_after p j a x (standings p j)) ≡ true)
        (λ _ test _. rw (unwon j (grant_of j a) is) (lost front ext test)) (λ _ _ m. absurd (cc)) refl k

-- ---- after Stop

standings_length : (p : Plan) (j : List Entry) (rest : List PlanAction) (xs : List Standing) → length (standings_from p j xs rest) ≡ length xs + length rest
standings_length p j [] xs = omega arith
standings_length p j (x ∷ rest) xs =
    let n = f.length_more xs (standing_after p j (length xs) x xs) in
    let m = standings_length p j rest (xs ++ standing_after p j (length xs) x xs ∷ []) in omega (arith, n, m)

all_follow : (xs ys : List Standing) → length xs ≡ length ys → f.Follows xs ys → list_all is_settled xs ≡ true → list_all is_settled ys ≡ true
unfolding f.Follows
all_follow [] [] same fol h = refl
all_follow (x ∷ xs) (y ∷ ys) same fol h =
    let parts = and_parts (is_settled x) _ h in
    let e : Some y ≡ Some x = fol zero x refl parts.0 in
    let is : y ≡ x = cc in
    and_from _ _ (subst (λ z. is_settled z ≡ true) (sym is) parts.0) (all_follow xs ys (omega arith) (λ i s a b. fol (suc i) s a b) parts.1)
all_follow [] (y ∷ ys) same fol h = absurd (omega arith)
all_follow (x ∷ xs) [] same fol h = absurd (omega arith)

pub all_settled_stays : (p : Plan) (e : Entry) (j : List Entry) → Lawful p (e ∷ j) → all_settled p j ≡ true → all_settled p (e ∷ j) ≡ true
unfolding all_settled standings
all_settled_stays p e j legal h =
    all_follow (standings_from p j [] p.actions) (standings_from p (e ∷ j) [] p.actions) (standings_length p j p.actions [] ∙ sym (standings_length p (e ∷ j) p.actions [])) (f.standings_follow p e j legal) h

-- where a lane was told to stop, and none has halted, all actions are settled from then on
pub stopped_settled : (p : Plan) (j : List Entry) (lane : ℕ) → Lawful p j → stopped j lane ≡ true → halted j ≡ false → all_settled p j ≡ true
unfolding stopped halted
stopped_settled p [] lane legal h none = absurd (cc)
stopped_settled p (e ∷ j) lane legal h none = all_settled_stays p e j legal (by (or_cases ((e.lane == lane) && is_stop e.reply) _ h) (λ y. stopped_settled p j lane legal.0 y before))
  where
    before : halted j ≡ false
    before = (or_parts (is_halt e.call) (halted j) none).1

    stop : (x : Reply) → is_stop x ≡ true → x ≡ reply.Stop
    stop reply.Stop y = refl
    stop _ y = absurd (cc)

    by : (((e.lane == lane) && is_stop e.reply) ≡ true) ⊎ (stopped j lane ≡ true) → (stopped j lane ≡ true → all_settled p j ≡ true) → all_settled p j ≡ true
    by (inr old) ih = ih old
    by (inl now) ih =
        let is = stop e.reply (and_parts (e.lane == lane) _ now).1 in
        let over = st.stop_is p j e.lane e.call e.reply (v.entry_ruled p e j legal) is in
        elim (or_cases (all_settled p j) (halted j) over) [ inl all ↦ all | inr halt ↦ absurd (clash (halted j) halt before) ]

-- ---- an entry that begins no attempt of its own: the latest attempts stay

pub none_begins : (e : Entry) (j : List Entry) (a : ℕ) (b : Branch) → begun_in e.reply ≡ None → attempt (e ∷ j) a b ≡ attempt j a b
none_begins e j a b h = attempt_other e j a b (st.no_number e a b None h (λ s g. absurd (cc)))

-- so they do at the Send of a bound branch
pub again_same : (p : Plan) (e : Entry) (j : List Entry) (s : Attempt) → Lawful p (e ∷ j) → begun_in e.reply ≡ Some s → begun j s ≡ true → (a : ℕ) (b : Branch) → attempt (e ∷ j) a b ≡ attempt j a b
again_same p e j s legal is start a b =
    by_bool (is_branch_of a b s) (λ z. is_branch_of a b s ≡ z → attempt (e ∷ j) a b ≡ attempt j a b)
    (λ _ same. mine same (st.begins_it j e.reply s (begin_in_order p (e ∷ j) legal).1 is))
    (λ _ off. attempt_other e j a b (st.no_number e a b (Some s) is (λ x h. (let w : s ≡ x = cc in subst (λ (y : Attempt). is_branch_of a b y ≡ false) w off)))) refl
  where
    mine : is_branch_of a b s ≡ true → st.BeginsIt j s → attempt (e ∷ j) a b ≡ attempt j a b
    mine same (st.New next) = absurd (clash (begun j s) start next.unbegun)
    mine same (st.Again _ latest) =
        let parts = st.branch_parts a b s same in
        attempt_begun e j a b s is same ∙ subst (λ (d : Branch). s.number ≡ attempt j a d) parts.1 (subst (λ m. s.number ≡ attempt j m s.branch) parts.0 latest)
