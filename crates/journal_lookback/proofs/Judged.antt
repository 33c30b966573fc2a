-- Outcome and fate, case by case.
use Rattle.std.proofs.Common.{◌≡◌, ℕ, zero, suc, ◌+◌, ◌<◌, ◌≤◌, Bool, true, false, cond, List, [], ◌∷◌, ◌++◌, length, get_or, take, drop, set, min, Option, Some, None, is_some, option_map, unwrap_or, refl, ap, sym, ◌∙◌, add-one, arith}
use Rattle.std.specs.Prelude.{slice_get}
use Rattle.std.proofs.lemmas.Option.{slice_get_read}
use Rattle.std.proofs.lemmas.List.{append-nil, append_assoc, drop_more, take_more_set, drop_all, length-take-le}
use Rattle.run_plan.specs.declared.plan.Branch.{Branch}
use Rattle.run_plan.specs.declared.plan.Maker.{Maker}
use Rattle.run_plan.specs.declared.plan.Plan.{Plan}
use Rattle.run_plan.specs.declared.plan.PlanAction.{PlanAction}
use Rattle.exec_journal.specs.declared.ends.ActionEnd.{ActionEnd}
use Rattle.exec_journal.specs.declared.ends.Fate.TheVariants as fate
use Rattle.exec_journal.specs.declared.ends.Outcome.{Outcome}
use Rattle.exec_journal.specs.declared.ends.Outcome.TheVariants as outcome
use Rattle.exec_journal.specs.declared.ends.Standing.{Standing}
use Rattle.exec_journal.specs.Entry.{Entry}
use Rattle.exec_journal.specs.Entries.{attempt_of}
use Rattle.exec_journal.specs.Words.{grant_of}
use Rattle.exec_journal.specs.Attempts.{end_of, ended, dropped}
use Rattle.exec_journal.specs.Settled.{all_dropped, is_starved, is_success, standing_after, standings_from, standings}
use Rattle.run_plan.specs.Groups.{group_of}
use Rattle.exec_journal.specs.Ends.{action_end, ends_from, ends_of}
use Rattle.exec_journal.specs.Outcomes.{grant_outcome, lesser, least_without, skipped, outcome_after, outcome_of, is_ok, is_some_ok, fate_after, fate_of}

pub dropped_end : (p : Plan) (j : List Entry) (a : ℕ) (b : Branch) → is_some (end_of j (attempt_of a b p.limit)) ≡ dropped p j a b
unfolding dropped ended
dropped_end p j a b = refl

-- ---- fate

pub fate_read : (p : Plan) (j : List Entry) (a : ℕ) (b : Branch) (x : PlanAction) → a < length p.actions → x ≡ get_or p.actions a x → fate_of p j a b ≡ fate_after p j a b (group_of x b)
unfolding fate_of
fate_read p j a b x lt is = ap (λ (o : Option PlanAction). unwrap_or (option_map (λ y. fate_after p j a b (group_of y b)) o) fate.Unused) (slice_get_read p.actions (length p.actions) a x refl lt is)

-- ---- outcome

pub outcome_read : (p : Plan) (j : List Entry) (a : ℕ) (x : PlanAction) → a < length p.actions → x ≡ get_or p.actions a x → outcome_of p j a ≡ outcome_after p j a x (standings p j)
unfolding outcome_of
outcome_read p j a x lt is = ap (λ (o : Option PlanAction). unwrap_or (option_map (λ y. outcome_after p j a y (standings p j)) o) outcome.Unsettled) (slice_get_read p.actions (length p.actions) a x refl lt is)

-- only a grant makes a success
unskipped : (standings : List Standing) (x : PlanAction) → is_ok (skipped standings x) ≡ false
unskipped standings x = by (least_without standings x.makers)
  where
    by : (o : Option ℕ) → is_ok (unwrap_or (option_map (λ m. outcome.Skipped m) o) outcome.Unsettled) ≡ false
    by None = refl
    by (Some m) = refl

success_by : (o : Option Outcome) (d s : Bool) (standings : List Standing) (x : PlanAction)
    → is_ok (unwrap_or o (cond d outcome.Dropped (cond s (skipped standings x) outcome.Unsettled))) ≡ is_some_ok o
success_by (Some v) d s standings x = refl
success_by None true s standings x = refl
success_by None false true standings x = unskipped standings x
success_by None false false standings x = refl

pub success_read : (p : Plan) (j : List Entry) (a : ℕ) (x : PlanAction) → a < length p.actions → x ≡ get_or p.actions a x
    → is_ok (outcome_of p j a) ≡ is_some_ok (grant_outcome j (grant_of j a))
success_read p j a x lt is = ap is_ok (outcome_read p j a x lt is) ∙ success_by (grant_outcome j (grant_of j a)) (all_dropped p j a x) (is_starved x (standings p j)) (standings p j) x

-- ---- the standings, one after the other

pub standings_step : (p : Plan) (j : List Entry) (all : List Standing) (a : ℕ) (x : PlanAction) (s : Standing) (whole : List Standing) → a < length p.actions → a < length all
    → x ≡ get_or p.actions a x → s ≡ standing_after p j a x (take a all) → standings_from p j (take a all) (drop a p.actions) ≡ whole
    → standings_from p j (take (a + 1) (set all a s)) (drop (a + 1) p.actions) ≡ whole
standings_step p j all a x s whole lt room is made h =
    let rest : drop a p.actions ≡ x ∷ drop (a + 1) p.actions = (drop_more p.actions a x lt ∙ ap (λ (y : PlanAction). y ∷ drop (a + 1) p.actions) (sym is)) in
    let next : standing_after p j (length (take a all)) x (take a all) ≡ s = (ap (λ n. standing_after p j n x (take a all)) (length-take-le a all (omega arith)) ∙ sym made) in
    ap (λ (xs : List Standing). standings_from p j xs (drop (a + 1) p.actions)) (take_more_set all a s room)
    ∙ ap (λ (y : Standing). standings_from p j (take a all ++ y ∷ []) (drop (a + 1) p.actions)) (sym next)
    ∙ sym (ap (standings_from p j (take a all)) rest)
    ∙ h

pub standings_all : (p : Plan) (j : List Entry) (all : List Standing) (a : ℕ) → length p.actions ≤ a → a ≤ length p.actions
    → standings_from p j (take a all) (drop a p.actions) ≡ standings p j → take (length p.actions) all ≡ standings p j
standings_all p j all a low high h =
    let e : length p.actions ≡ a = omega arith in
    ap (λ n. take n all) e ∙ sym (ap (standings_from p j (take a all)) (drop_all a p.actions low)) ∙ h

pub standings_start : (p : Plan) (j : List Entry) → standings_from p j [] p.actions ≡ standings p j
unfolding standings
standings_start p j = refl

-- ---- the least producer

lesser_none : (o : Option ℕ) → lesser o None ≡ o
lesser_none None = refl
lesser_none (Some a) = refl

min_assoc : (a b c : ℕ) → min (min a b) c ≡ min a (min b c)
min_assoc a b c = omega arith

lesser_assoc : (o q s : Option ℕ) → lesser (lesser o q) s ≡ lesser o (lesser q s)
lesser_assoc None q s = refl
lesser_assoc (Some a) None s = refl
lesser_assoc (Some a) (Some b) None = refl
lesser_assoc (Some a) (Some b) (Some c) = ap Some (min_assoc a b c)

-- a producer without success, and one with
pub least_step : (standings : List Standing) (makers : List Maker) (i : ℕ) (d : Maker) (least whole : Option ℕ) → i < length makers
    → lesser least (least_without standings (drop i makers)) ≡ whole → is_success (slice_get standings (get_or makers i d).action) ≡ false
    → lesser (lesser least (Some (get_or makers i d).action)) (least_without standings (drop (i + 1) makers)) ≡ whole
least_step standings makers i d least whole lt h unmade =
    let m = get_or makers i d in
    lesser_assoc least (Some m.action) (least_without standings (drop (i + 1) makers))
    ∙ sym (ap (λ (ms : List Maker). lesser least (least_without standings ms)) (drop_more makers i d lt)
    ∙ ap (λ b. lesser least (cond b (least_without standings (drop (i + 1) makers)) (lesser (Some m.action) (least_without standings (drop (i + 1) makers))))) unmade)
    ∙ h

pub least_skip : (standings : List Standing) (makers : List Maker) (i : ℕ) (d : Maker) (least whole : Option ℕ) → i < length makers
    → lesser least (least_without standings (drop i makers)) ≡ whole → is_success (slice_get standings (get_or makers i d).action) ≡ true
    → lesser least (least_without standings (drop (i + 1) makers)) ≡ whole
least_skip standings makers i d least whole lt h made =
    let m = get_or makers i d in
    sym (ap (λ (ms : List Maker). lesser least (least_without standings ms)) (drop_more makers i d lt)
    ∙ ap (λ b. lesser least (cond b (least_without standings (drop (i + 1) makers)) (lesser (Some m.action) (least_without standings (drop (i + 1) makers))))) made)
    ∙ h

pub least_all : (standings : List Standing) (makers : List Maker) (i : ℕ) (least : Option ℕ) (whole : Option ℕ) → length makers ≤ i
    → lesser least (least_without standings (drop i makers)) ≡ whole → least ≡ whole
least_all standings makers i least whole le h =
    sym (ap (λ (ms : List Maker). lesser least (least_without standings ms)) (drop_all i makers le) ∙ lesser_none least) ∙ h

-- some action is at each place below the length
pub is_there : (xs : List PlanAction) (i : ℕ) → i < length xs → (x : PlanAction) × (x ≡ get_or xs i x)
is_there [] i lt = absurd (omega arith)
is_there (x ∷ xs) zero lt = (x, refl)
is_there (x ∷ xs) (suc i) lt = is_there xs i (omega arith)

pub success_at : (p : Plan) (j : List Entry) (a : ℕ) → a < length p.actions → is_some_ok (grant_outcome j (grant_of j a)) ≡ is_ok (outcome_of p j a)
success_at p j a lt = let x = is_there p.actions a lt in sym (success_read p j a x.0 lt x.1)

-- ---- the ends, one after the other

pub ends_start : (p : Plan) (j : List Entry) → ends_from p j 0 p.actions ≡ ends_of p j
unfolding ends_of
ends_start p j = refl

pub ends_step : (p : Plan) (j : List Entry) (xs whole : List ActionEnd) (a : ℕ) (e : ActionEnd) → a < length p.actions → e ≡ action_end p j a
    → xs ++ ends_from p j a (drop a p.actions) ≡ whole → (xs ++ e ∷ []) ++ ends_from p j (a + 1) (drop (a + 1) p.actions) ≡ whole
ends_step p j xs whole a e lt is h =
    let x = is_there p.actions a lt in
    let rest : drop a p.actions ≡ x.0 ∷ drop (a + 1) p.actions = (drop_more p.actions a x.0 lt ∙ ap (λ (y : PlanAction). y ∷ drop (a + 1) p.actions) (sym x.1)) in
    append_assoc xs (e ∷ []) (ends_from p j (a + 1) (drop (a + 1) p.actions))
    ∙ ap (λ (y : ActionEnd). xs ++ (y ∷ ends_from p j (a + 1) (drop (a + 1) p.actions))) is
    ∙ ap (λ n. xs ++ (action_end p j a ∷ ends_from p j n (drop (a + 1) p.actions))) (add-one a)
    ∙ sym (ap (λ (ys : List PlanAction). xs ++ ends_from p j a ys) rest)
    ∙ h

pub ends_all : (p : Plan) (j : List Entry) (xs whole : List ActionEnd) (a : ℕ) → length p.actions ≤ a → xs ++ ends_from p j a (drop a p.actions) ≡ whole → xs ≡ whole
ends_all p j xs whole a le h = sym (ap (λ (ys : List PlanAction). xs ++ ends_from p j a ys) (drop_all a p.actions le) ∙ append-nil xs) ∙ h
