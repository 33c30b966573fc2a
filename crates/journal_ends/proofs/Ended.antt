-- What was gathered from a journal says how each action ends.
use Rattle.std.proofs.Common.{◌≡◌, ℕ, zero, suc, ◌+◌, ◌<◌, ◌≤◌, ◌==◌, ◌&&◌, ◌||◌, cond, List, [], ◌∷◌, ◌++◌, length, get_or, drop, Option, Some, None, is_some, option_map, unwrap_or, inl, inr, refl, ap, sym, subst, ◌∙◌, add-one, append_assoc, arith}
use Rattle.std.specs.Prelude.{slice_get}
use Rattle.std.proofs.lemmas.Bool.{eqb-true}
use Rattle.std.proofs.lemmas.List.{append-nil, drop_more, drop_all, length_push}
use Rattle.std.proofs.lemmas.Option.{slice_get-get_or}
use Rattle.run_plan.specs.declared.plan.Branch.{Branch}
use Rattle.run_plan.specs.declared.plan.Branch.TheVariants.{Local, Remote}
use Rattle.run_plan.specs.declared.plan.Plan.{Plan}
use Rattle.run_plan.specs.declared.plan.PlanAction.{PlanAction}
use Rattle.exec_journal.specs.declared.attempt.Attempt.{Attempt}
use Rattle.exec_journal.specs.declared.call.CommitEnd.{CommitEnd}
use Rattle.exec_journal.specs.declared.call.CommitEnd.TheVariants as commit
use Rattle.exec_journal.specs.declared.call.Found.{Found}
use Rattle.exec_journal.specs.declared.call.Found.TheVariants as found
use Rattle.exec_journal.specs.declared.ends.ActionEnd.{ActionEnd}
use Rattle.exec_journal.specs.declared.ends.Cause.{Cause}
use Rattle.exec_journal.specs.declared.ends.Standing.{Standing}
use Rattle.exec_journal.specs.declared.ends.Standing.TheVariants.{Open, Unsuccessful}
use Rattle.journal_lookback.specs.declared.grant.Grant.{Grant}
use Rattle.exec_journal.specs.Entry.{Entry}
use Rattle.journal_ends.specs.declared.replay.ActionFact.{ActionFact}
use Rattle.journal_ends.specs.declared.replay.BranchFact.{BranchFact}
use Rattle.journal_ends.specs.declared.endings.Verdict.{Verdict}
use Rattle.exec_journal.specs.Entries.{attempt_of, granted_in}
use Rattle.exec_journal.specs.Words.{grant_of, granted, commit_of, ever_sent, of_action}
use Rattle.exec_journal.specs.Attempts.{end_of, ended, dropped}
use Rattle.exec_journal.specs.Settled.{by_commit, by_grant, unused_or_dropped, all_dropped, is_starved, standing_after, standings_from, standings}
use Rattle.exec_journal.specs.Ends.{action_end, ends_from, ends_of}
use Rattle.exec_journal.specs.Outcomes.{grant_outcome, commit_outcome, is_winner, won_or_spoiled, lost_fate, fate_after}
use Rattle.journal_lookback.specs.Lookback.{grant_fact, ended_line, end_now}
use Rattle.journal_ends.specs.Replay.{AllNew, AreActions, IsActionFact, IsBranchFact}
use Rattle.journal_ends.specs.Endings.{verdict_of, verdicts_from, verdict_by, own_by, commit_for, is_gone, is_won_by, fate_by, standing_own, standing_by, standings_through, end_by, ends_through}
use Rattle.exec_journal.proofs.Histories.{AtSome, first_from}
use Rattle.journal_lookback.proofs.Judged.{fate_read, outcome_read}
use Rattle.exec_journal.proofs.Ruled.{by_bool}

-- ---- new facts

pub new_none : {X : Type 0} (new : X) → AllNew new []
new_none new = record { each = λ i x h. absurd (cc) }

pub new_more : {X : Type 0} (new : X) (xs : List X) → AllNew new xs → AllNew new (xs ++ new ∷ [])
new_more {X} new xs h = record { each = λ i x g. at xs i x h g }
  where
    at : (ys : List X) (i : ℕ) (x : X) → AllNew new ys → slice_get (ys ++ new ∷ []) i ≡ Some x → x ≡ new
    at [] zero x a g = cc
    at [] (suc i) x a g = absurd (cc)
    at (y ∷ ys) zero x a g = a.each zero x g
    at (y ∷ ys) (suc i) x a g = at ys i x (record { each = λ k z e. a.each (suc k) z e }) g

-- ---- an action's own end

-- the grant of an action is of that action
of_same : (a : ℕ) (o : Option (Attempt × Found)) (x : Attempt × Found) → of_action a o ≡ Some x → x.0.action ≡ a
of_same a (Some y) x h =
    by_bool (y.0.action == a) (λ b. cond b (Some y) None ≡ Some x → x.0.action ≡ a) (λ t k. let e : y ≡ x = cc in subst (λ (z : Attempt × Found). z.0.action ≡ a) e (eqb-true y.0.action a t)) (λ _ k. absurd (cc)) h
of_same a None x h = absurd (cc)

some_of : (a : ℕ) (x : Attempt × Found) (j : List Entry) → AtSome (λ _ e. of_action a (granted_in e.call e.reply) ≡ Some x) j → x.0.action ≡ a
some_of a x (e ∷ j) (inl h) = of_same a (granted_in e.call e.reply) x h
some_of a x (e ∷ j) (inr h) = some_of a x j h
some_of a x [] h = absurd h

pub grant_action : (j : List Entry) (a : ℕ) (x : Attempt × Found) → grant_of j a ≡ Some x → x.0.action ≡ a
unfolding grant_of
grant_action j a x h = some_of a x j (first_from (λ _ e. of_action a (granted_in e.call e.reply)) j x h)

module _ (f : ActionFact) (limit : ℕ) (j : List Entry) (a : ℕ) (is : IsActionFact f limit j a) where
  commit_is : (b : Branch) → commit_for f b ≡ commit_of j a b
  commit_is Local = is.local_is.commits
  commit_is Remote = is.remote_is.commits

  commit_at : (t : Attempt) → t.action ≡ a → commit_for f t.branch ≡ commit_of j t.action t.branch
  commit_at t same = commit_is t.branch ∙ ap (λ n. commit_of j n t.branch) (sym same)

  own_at : (o : Option (Attempt × Found)) → grant_of j a ≡ o → own_by f (option_map grant_fact o) ≡ grant_outcome j o
  own_at None h = refl
  own_at (Some (t, found.Files fs)) h = ap (commit_outcome t.branch) (commit_at t (grant_action j a (t, found.Files fs) h))
  own_at (Some (t, found.Exit n)) h = refl
  own_at (Some (t, found.Missing k)) h = refl
  own_at (Some (t, found.RoomFault)) h = refl
  own_at (Some (t, found.Refused)) h = refl

  own_is : own_by f f.grant ≡ grant_outcome j (grant_of j a)
  own_is = ap (own_by f) is.grant_is ∙ own_at (grant_of j a) refl

  some_same : (o : Option (Attempt × Found)) → is_some (option_map grant_fact o) ≡ is_some o
  some_same None = refl
  some_same (Some x) = refl

  won_is : is_some f.grant ≡ granted j a
  unfolding granted
  won_is = ap (λ (o : Option Grant). is_some o) is.grant_is ∙ some_same (grant_of j a)

  won_by : (b : Branch) (o : Option (Attempt × Found)) → is_won_by b (option_map grant_fact o) ≡ is_winner b o
  won_by b None = refl
  won_by b (Some x) = refl

  winner_is : (b : Branch) → is_won_by b f.grant ≡ is_winner b (grant_of j a)
  winner_is b = ap (is_won_by b) is.grant_is ∙ won_by b (grant_of j a)

  branch_end : (b : Branch) (g : BranchFact) → IsBranchFact g j (attempt_of a b limit) → (line : Option Cause) → line ≡ ended_line j g.track.line
      → end_now g.track (is_some f.grant) line ≡ end_of j (attempt_of a b limit)
  branch_end b g of line same =
      ap (end_now g.track (is_some f.grant)) same ∙ ap (λ w. end_now g.track w (ended_line j g.track.line)) won_is ∙ of.tracks.finish

  gone_is : (p : Plan) → p.limit ≡ limit → (b : Branch) (o : Option ℕ) (e : Option Cause) → e ≡ end_of j (attempt_of a b limit) → is_gone o e ≡ unused_or_dropped p j a b o
  unfolding dropped ended
  gone_is p same b None e h = refl
  gone_is p same b (Some g) e h = ap (λ (o : Option Cause). is_some o) h ∙ ap (λ n. is_some (end_of j (attempt_of a b n))) (sym same)

  fate_is : (p : Plan) → p.limit ≡ limit → (b : Branch) (o : Option ℕ) (g : BranchFact) (e : Option Cause) → IsBranchFact g j (attempt_of a b limit) → e ≡ end_of j (attempt_of a b limit)
      → fate_by limit o b f.grant g e ≡ fate_after p j a b o
  fate_is p same b None g e of h = refl
  fate_is p same b (Some k) g e of h =
      ap (λ w. cond w (won_or_spoiled g.commit) (lost_fate limit e g.sent)) (winner_is b)
      ∙ ap (λ (c : Option CommitEnd). cond (is_winner b (grant_of j a)) (won_or_spoiled c) (lost_fate limit e g.sent)) of.commits
      ∙ ap (λ (v : Option Cause). cond (is_winner b (grant_of j a)) (won_or_spoiled (commit_of j a b)) (lost_fate limit v g.sent)) h
      ∙ ap (λ s. cond (is_winner b (grant_of j a)) (won_or_spoiled (commit_of j a b)) (lost_fate limit (end_of j (attempt_of a b limit)) s)) of.sends
      ∙ ap (λ n. cond (is_winner b (grant_of j a)) (won_or_spoiled (commit_of j a b)) (lost_fate n (end_of j (attempt_of a b n)) (ever_sent j a b))) (sym same)

  pub verdict_is : (p : Plan) → p.limit ≡ limit → (x : PlanAction) → verdict_by limit f x (ended_line j f.local.track.line) (ended_line j f.remote.track.line) ≡ verdict_of p j a x
  verdict_is p same x =
      let l = branch_end Local f.local is.local_is (ended_line j f.local.track.line) refl in
      let r = branch_end Remote f.remote is.remote_is (ended_line j f.remote.track.line) refl in
      λ i. record {
        own = own_is i;
        dropped = gone_is p same Local x.local (end_now f.local.track (is_some f.grant) (ended_line j f.local.track.line)) l i && gone_is p same Remote x.remote (end_now f.remote.track (is_some f.grant) (ended_line j f.remote.track.line)) r i;
        local = fate_is p same Local x.local f.local (end_now f.local.track (is_some f.grant) (ended_line j f.local.track.line)) is.local_is l i;
        remote = fate_is p same Remote x.remote f.remote (end_now f.remote.track (is_some f.grant) (ended_line j f.remote.track.line)) is.remote_is r i;
      }

-- ---- all verdicts

pub verdicts_step : (p : Plan) (j : List Entry) (actions : List ActionFact) (vs : List Verdict) (a : ℕ) (d : ActionFact) (x : PlanAction) (v : Verdict) (whole : List Verdict)
    → AreActions actions p.limit j → a < length actions → a < length p.actions → x ≡ get_or p.actions a x
    → v ≡ verdict_by p.limit (get_or actions a d) x (ended_line j (get_or actions a d).local.track.line) (ended_line j (get_or actions a d).remote.track.line)
    → vs ++ verdicts_from p j a (drop a p.actions) ≡ whole → (vs ++ v ∷ []) ++ verdicts_from p j (a + 1) (drop (a + 1) p.actions) ≡ whole
verdicts_step p j actions vs a d x v whole are few lt is made h =
    let f = get_or actions a d in
    let known = are.each a f (slice_get-get_or actions a d few) in
    let rest : drop a p.actions ≡ x ∷ drop (a + 1) p.actions = (drop_more p.actions a x lt ∙ ap (λ (y : PlanAction). y ∷ drop (a + 1) p.actions) (sym is)) in
    append_assoc vs (v ∷ []) (verdicts_from p j (a + 1) (drop (a + 1) p.actions))
    ∙ ap (λ (y : Verdict). vs ++ (y ∷ verdicts_from p j (a + 1) (drop (a + 1) p.actions))) (made ∙ verdict_is f p.limit j a known p refl x)
    ∙ ap (λ n. vs ++ (verdict_of p j a x ∷ verdicts_from p j n (drop (a + 1) p.actions))) (add-one a)
    ∙ sym (ap (λ (ys : List PlanAction). vs ++ verdicts_from p j a ys) rest)
    ∙ h

pub verdicts_all : (p : Plan) (j : List Entry) (vs whole : List Verdict) (a : ℕ) → length p.actions ≤ a → vs ++ verdicts_from p j a (drop a p.actions) ≡ whole → vs ≡ whole
verdicts_all p j vs whole a le h = sym (ap (λ (ys : List PlanAction). vs ++ verdicts_from p j a ys) (drop_all a p.actions le) ∙ append-nil vs) ∙ h

pub length-verdicts : (p : Plan) (j : List Entry) (a : ℕ) (xs : List PlanAction) → length (verdicts_from p j a xs) ≡ length xs
length-verdicts p j a [] = refl
length-verdicts p j a (x ∷ xs) = ap suc (length-verdicts p j (suc a) xs)

-- ---- the standings and the ends, one by one

pub standings_step : (vs : List Verdict) (xs : List PlanAction) (all whole : List Standing) (a : ℕ) (v : Verdict) (x : PlanAction) (s : Standing) → a < length vs → v ≡ get_or vs a v → a < length xs → x ≡ get_or xs a x
    → s ≡ standing_by v x all → standings_through all (drop a vs) (drop a xs) ≡ whole → standings_through (all ++ s ∷ []) (drop (a + 1) vs) (drop (a + 1) xs) ≡ whole
standings_step vs xs all whole a v x s few at lt is made h =
    let front : drop a vs ≡ v ∷ drop (a + 1) vs = (drop_more vs a v few ∙ ap (λ (y : Verdict). y ∷ drop (a + 1) vs) (sym at)) in
    let rest : drop a xs ≡ x ∷ drop (a + 1) xs = (drop_more xs a x lt ∙ ap (λ (y : PlanAction). y ∷ drop (a + 1) xs) (sym is)) in
    ap (λ (y : Standing). standings_through (all ++ y ∷ []) (drop (a + 1) vs) (drop (a + 1) xs)) made
    ∙ sym (ap (λ (us : List Verdict). standings_through all us (drop a xs)) front ∙ ap (standings_through all (v ∷ drop (a + 1) vs)) rest)
    ∙ h

pub standings_end : (vs : List Verdict) (xs : List PlanAction) (all whole : List Standing) (a : ℕ) → length vs ≤ a → standings_through all (drop a vs) (drop a xs) ≡ whole → all ≡ whole
standings_end vs xs all whole a le h = sym (ap (λ (us : List Verdict). standings_through all us (drop a xs)) (drop_all a vs le)) ∙ h

pub ends_step : (standings : List Standing) (vs : List Verdict) (xs : List PlanAction) (es whole : List ActionEnd) (a : ℕ) (v : Verdict) (x : PlanAction) (e : ActionEnd) → a < length vs → v ≡ get_or vs a v → a < length xs → x ≡ get_or xs a x
    → e ≡ end_by v x standings → es ++ ends_through standings (drop a vs) (drop a xs) ≡ whole → (es ++ e ∷ []) ++ ends_through standings (drop (a + 1) vs) (drop (a + 1) xs) ≡ whole
ends_step standings vs xs es whole a v x e few at lt is made h =
    let front : drop a vs ≡ v ∷ drop (a + 1) vs = (drop_more vs a v few ∙ ap (λ (y : Verdict). y ∷ drop (a + 1) vs) (sym at)) in
    let rest : drop a xs ≡ x ∷ drop (a + 1) xs = (drop_more xs a x lt ∙ ap (λ (y : PlanAction). y ∷ drop (a + 1) xs) (sym is)) in
    append_assoc es (e ∷ []) (ends_through standings (drop (a + 1) vs) (drop (a + 1) xs))
    ∙ ap (λ (y : ActionEnd). es ++ (y ∷ ends_through standings (drop (a + 1) vs) (drop (a + 1) xs))) made
    ∙ sym (ap (λ (us : List Verdict). es ++ ends_through standings us (drop a xs)) front ∙ ap (λ (ys : List PlanAction). es ++ ends_through standings (v ∷ drop (a + 1) vs) ys) rest)
    ∙ h

pub ends_end : (standings : List Standing) (vs : List Verdict) (xs : List PlanAction) (es whole : List ActionEnd) (a : ℕ) → length vs ≤ a → es ++ ends_through standings (drop a vs) (drop a xs) ≡ whole → es ≡ whole
ends_end standings vs xs es whole a le h = sym (ap (λ (us : List Verdict). es ++ ends_through standings us (drop a xs)) (drop_all a vs le) ∙ append-nil es) ∙ h

-- ---- and they are those of the journal

grant_standing : (j : List Entry) (o : Option (Attempt × Found)) (s : Standing) → standing_own (grant_outcome j o) s ≡ unwrap_or (by_grant j o) s
grant_standing j None s = refl
grant_standing j (Some (t, found.Exit n)) s = refl
grant_standing j (Some (t, found.Files fs)) s = by (commit_of j t.action t.branch)
  where
    by : (c : Option CommitEnd) → standing_own (commit_outcome t.branch c) s ≡ unwrap_or (by_commit c) s
    by None = refl
    by (Some commit.Done) = refl
    by (Some (commit.PlaceFault k)) = refl
grant_standing j (Some (t, found.Missing k)) s = refl
grant_standing j (Some (t, found.RoomFault)) s = refl
grant_standing j (Some (t, found.Refused)) s = refl

through_from : (p : Plan) (j : List Entry) (earlier : List Standing) (a : ℕ) (xs : List PlanAction) → length earlier ≡ a → standings_through earlier (verdicts_from p j a xs) xs ≡ standings_from p j earlier xs
through_from p j earlier a [] h = refl
through_from p j earlier a (x ∷ xs) h =
    let s = standing_by (verdict_of p j a x) x earlier in
    let same : s ≡ standing_after p j (length earlier) x earlier =
    (grant_standing j (grant_of j a) (cond (all_dropped p j a x || is_starved x earlier) Unsuccessful Open) ∙ ap (λ n. standing_after p j n x earlier) (sym h)) in
    let long : length (earlier ++ s ∷ []) ≡ suc a = (length_push earlier s ∙ add-one (length earlier) ∙ ap suc h) in
    through_from p j (earlier ++ s ∷ []) (suc a) xs long
    ∙ ap (λ (y : Standing). standings_from p j (earlier ++ y ∷ []) xs) same

pub standings_are : (p : Plan) (j : List Entry) → standings_through [] (verdicts_from p j 0 p.actions) p.actions ≡ standings p j
unfolding standings
standings_are p j = through_from p j [] 0 p.actions refl

end_at : (p : Plan) (j : List Entry) (a : ℕ) (x : PlanAction) → a < length p.actions → x ≡ get_or p.actions a x → end_by (verdict_of p j a x) x (standings p j) ≡ action_end p j a
end_at p j a x lt is =
    λ i. record {
      outcome = sym (outcome_read p j a x lt is) i;
      local = sym (fate_read p j a Local x lt is) i;
      remote = sym (fate_read p j a Remote x lt is) i;
    }

ends_at : (p : Plan) (j : List Entry) (a : ℕ) (xs : List PlanAction) → xs ≡ drop a p.actions → ends_through (standings p j) (verdicts_from p j a xs) xs ≡ ends_from p j a xs
ends_at p j a [] h = refl
ends_at p j a (x ∷ xs) h =
    let lt : a < length p.actions = (within a p.actions x xs h) in
    let parts : (x ≡ get_or p.actions a x) × (xs ≡ drop (suc a) p.actions) = head_parts a p.actions x xs h in
    ap (λ (e : ActionEnd). e ∷ ends_through (standings p j) (verdicts_from p j (suc a) xs) xs) (end_at p j a x lt parts.0)
    ∙ ap (λ (es : List ActionEnd). action_end p j a ∷ es) (ends_at p j (suc a) xs parts.1)
  where
    within : (n : ℕ) (ys : List PlanAction) (y : PlanAction) (zs : List PlanAction) → y ∷ zs ≡ drop n ys → n < length ys
    within zero [] y zs g = absurd (cc)
    within zero (u ∷ us) y zs g = omega arith
    within (suc n) [] y zs g = absurd (cc)
    within (suc n) (u ∷ us) y zs g = (let b = within n us y zs g in omega arith)

    head_parts : (n : ℕ) (ys : List PlanAction) (y : PlanAction) (zs : List PlanAction) → y ∷ zs ≡ drop n ys → (y ≡ get_or ys n y) × (zs ≡ drop (suc n) ys)
    head_parts zero [] y zs g = absurd (cc)
    head_parts zero (u ∷ us) y zs g = (cc, cc)
    head_parts (suc n) [] y zs g = absurd (cc)
    head_parts (suc n) (u ∷ us) y zs g = head_parts n us y zs g

pub ends_are : (p : Plan) (j : List Entry) → ends_through (standings p j) (verdicts_from p j 0 p.actions) p.actions ≡ ends_of p j
unfolding ends_of
ends_are p j = ends_at p j 0 p.actions refl

pub ends_whole : (p : Plan) (j : List Entry) (es : List ActionEnd) (ss ss' : List Standing) (vs v1 v2 : List Verdict) (xs : List PlanAction) → xs ≡ p.actions → vs ≡ verdicts_from p j 0 p.actions → v1 ≡ vs → v2 ≡ vs
    → ss ≡ standings_through [] v1 xs → ss' ≡ ss → es ≡ ends_through ss' v2 xs → es ≡ ends_of p j
ends_whole p j es ss ss' vs v1 v2 xs works known first second standing same made =
    let all : ss' ≡ standings p j = (same ∙ standing ∙ ap (λ (us : List Verdict). standings_through [] us xs) (first ∙ known) ∙ ap (standings_through [] (verdicts_from p j 0 p.actions)) works ∙ standings_are p j) in
    made
    ∙ ap (λ (us : List Standing). ends_through us v2 xs) all
    ∙ ap (λ (us : List Verdict). ends_through (standings p j) us xs) (second ∙ known)
    ∙ ap (ends_through (standings p j) (verdicts_from p j 0 p.actions)) works
    ∙ ends_are p j
