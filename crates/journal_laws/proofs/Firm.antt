-- What is settled stays settled, what is ready stays ready, and a branch that isn't wanted is never wanted again.
use Rattle.std.proofs.Common.{◌≡◌, ℕ, zero, suc, ◌+◌, ◌/◌, ◌==◌, nat_lt, Bool, true, false, ◌&&◌, ◌||◌, not, cond, List, [], ◌∷◌, ◌++◌, length, Option, Some, None, is_some, option_map, unwrap_or, ◌⊎◌, inl, inr, refl, sym, ap, subst, ◌∙◌, arith}
use Rattle.std.specs.Prelude.{slice_get}
use Rattle.std.specs.List.{list_any, list_all}
use Rattle.std.proofs.lemmas.Bool.{eqb-true, and_parts, and_from, or_cases, or_left, or_right}
use Rattle.run_plan.specs.declared.plan.Branch.{Branch}
use Rattle.run_plan.specs.declared.plan.Branch.TheVariants.{Local, Remote}
use Rattle.run_plan.specs.declared.plan.Maker.{Maker}
use Rattle.run_plan.specs.declared.plan.Plan.{Plan}
use Rattle.run_plan.specs.declared.plan.PlanAction.{PlanAction}
use Rattle.exec_journal.specs.declared.attempt.Attempt.{Attempt}
use Rattle.exec_journal.specs.Entry.{Entry}
use Rattle.exec_journal.specs.declared.ends.Standing.{Standing}
use Rattle.exec_journal.specs.declared.ends.Standing.TheVariants.{Open, Succeeded, Unsuccessful}
use Rattle.exec_journal.specs.declared.call.Call.{Call}
use Rattle.exec_journal.specs.declared.call.CommitEnd.{CommitEnd}
use Rattle.exec_journal.specs.declared.call.Found.{Found}
use Rattle.exec_journal.specs.declared.call.Found.TheVariants as found
use Rattle.exec_journal.specs.declared.reply.Reply.{Reply}
use Rattle.list_lemmas.specs.Options.{or_else, unless_before}
use Rattle.exec_journal.specs.Entries.{attempt_of, committed_in}
use Rattle.exec_journal.specs.Words.{granted, grant_of, commit_of}
use Rattle.exec_journal.specs.Attempts.{begun_in, ended, dropped}
use Rattle.exec_journal.specs.Settled.{uses, is_unsuccessful, is_success, is_settled, by_commit, by_grant, unused_or_dropped, all_dropped, is_starved, standing_after, standings_from, standings, settled, ready, wanted, bound, earliest, free_places}
use Rattle.run_plan.specs.Groups.{group_of, kind_of}
use Rattle.exec_journal.specs.Rules as r
use Rattle.exec_journal.specs.Lawful.{Lawful, IsNextOf, NextOn, FromBound, FromQueue}
use Rattle.exec_journal.specs.Facts.{begun}
use Rattle.journal_laws.specs.Invariant.{IsGoing, HasInputs}
use Rattle.exec_journal.proofs.Reasons as u
use Rattle.exec_journal.proofs.Ruled.{by_bool, not_true}
use Rattle.exec_journal.proofs.Begins.{attempts_in_order, queued_is, bound_is, launched_begun, is_for_eq, begun_more}
use Rattle.exec_journal.proofs.Quiet.{ended_stays}
use Rattle.journal_laws.proofs.Over as v
use Rattle.journal_laws.proofs.Claims as c
use Rattle.journal_laws.proofs.Claims.{clash, false_by}
use Rattle.journal_laws.proofs.Granted as g

-- ---- lists of standings, of which the second has all that is settled in the first

unfoldable pub Follows : List Standing → List Standing → Type 0
Follows xs ys = (i : ℕ) (s : Standing) → slice_get xs i ≡ Some s → is_settled s ≡ true → slice_get ys i ≡ Some s

follows_more : (xs ys : List Standing) (s t : Standing) → length xs ≡ length ys → Follows xs ys → (is_settled s ≡ true → t ≡ s) → Follows (xs ++ s ∷ []) (ys ++ t ∷ [])
unfolding Follows
follows_more [] [] s t same f h zero w at on = (let e : s ≡ w = cc in ap Some (h (subst (λ (z : Standing). is_settled z ≡ true) (sym e) on)) ∙ ap Some e)
follows_more [] [] s t same f h (suc i) w at on = absurd (cc)
follows_more (x ∷ xs) (y ∷ ys) s t same f h zero w at on = f zero w at on
follows_more (x ∷ xs) (y ∷ ys) s t same f h (suc i) w at on = follows_more xs ys s t (omega arith) (λ n z b q. f (suc n) z b q) h i w at on
follows_more [] (y ∷ ys) s t same f h i w at on = absurd (omega arith)
follows_more (x ∷ xs) [] s t same f h i w at on = absurd (omega arith)

pub any_map : {X : Type 0} (p q : X → Bool) → ((x : X) → p x ≡ true → q x ≡ true) → (xs : List X) → list_any p xs ≡ true → list_any q xs ≡ true
any_map p q f [] h = absurd (cc)
any_map p q f (x ∷ xs) h = elim (or_cases (p x) _ h) [ inl here ↦ or_left (q x) _ (f x here) | inr more ↦ or_right (q x) _ (any_map p q f xs more) ]

all_map : {X : Type 0} (p q : X → Bool) → ((x : X) → p x ≡ true → q x ≡ true) → (xs : List X) → list_all p xs ≡ true → list_all q xs ≡ true
all_map p q f [] h = refl
all_map p q f (x ∷ xs) h = let parts = and_parts (p x) _ h in and_from _ _ (f x parts.0) (all_map p q f xs parts.1)

pub without_is : (o : Option Standing) → is_unsuccessful o ≡ true → o ≡ Some Unsuccessful
without_is (Some Unsuccessful) h = refl
without_is (Some Open) h = absurd (cc)
without_is (Some Succeeded) h = absurd (cc)
without_is None h = absurd (cc)

success_is : (o : Option Standing) → is_success o ≡ true → o ≡ Some Succeeded
success_is (Some Succeeded) h = refl
success_is (Some Open) h = absurd (cc)
success_is (Some Unsuccessful) h = absurd (cc)
success_is None h = absurd (cc)

starved_stays : (x : PlanAction) (xs ys : List Standing) → Follows xs ys → is_starved x xs ≡ true → is_starved x ys ≡ true
unfolding Follows
starved_stays x xs ys f h = any_map (λ (m : Maker). is_unsuccessful (slice_get xs m.action)) (λ (m : Maker). is_unsuccessful (slice_get ys m.action)) (λ m y. rw (f m.action Unsuccessful (without_is _ y) refl) refl) x.makers h

-- the second begins as the first
unfoldable pub Extends : List Standing → List Standing → Type 0
Extends xs ys = (i : ℕ) (s : Standing) → slice_get xs i ≡ Some s → slice_get ys i ≡ Some s

get_append : (xs : List Standing) (y : Standing) (i : ℕ) (s : Standing) → slice_get xs i ≡ Some s → slice_get (xs ++ y ∷ []) i ≡ Some s
get_append [] y i s h = absurd (cc)
get_append (x ∷ xs) y zero s h = h
get_append (x ∷ xs) y (suc i) s h = get_append xs y i s h

get_last : (xs : List Standing) (y : Standing) → slice_get (xs ++ y ∷ []) (length xs) ≡ Some y
get_last [] y = refl
get_last (x ∷ xs) y = get_last xs y

from_extends : (p : Plan) (j : List Entry) (earlier : List Standing) (xs : List PlanAction) → Extends earlier (standings_from p j earlier xs)
unfolding Extends
from_extends p j earlier [] i s h = h
from_extends p j earlier (x ∷ xs) i s h = from_extends p j (earlier ++ standing_after p j (length earlier) x earlier ∷ []) xs i s (get_append earlier _ i s h)

-- what is ready isn't starved
fed : (ms : List Maker) (xs ys : List Standing) → Extends xs ys → list_any (λ m. is_unsuccessful (slice_get xs m.action)) ms ≡ true → list_all (λ m. is_success (slice_get ys m.action)) ms ≡ true → ⊥
unfolding Extends
fed [] xs ys f h y = cc
fed (m ∷ ms) xs ys f h y =
    let parts = and_parts (is_success (slice_get ys m.action)) _ y in
    elim (or_cases (is_unsuccessful (slice_get xs m.action)) _ h) [
      | inl here ↦ (let a = f m.action Unsuccessful (without_is _ here) in let b = success_is _ parts.0 in let both : Some Unsuccessful ≡ Some Succeeded = sym a ∙ b in absurd (cc))
      | inr more ↦ fed ms xs ys f more parts.1
    ]

pub unstarved : (p : Plan) (j : List Entry) (x : PlanAction) (xs : List Standing) → Extends xs (standings p j) → ready p j x ≡ true → is_starved x xs ≡ true → ⊥
unfolding ready
unstarved p j x xs f h y = fed x.makers xs (standings p j) f y h

-- ---- one action's standing, where the journal grows

pub record KeepsStanding (p : Plan) (j k : List Entry) (a : ℕ) (x : PlanAction) : Type 0 where
  pub own : (s : Standing) → by_grant j (grant_of j a) ≡ Some s → by_grant k (grant_of k a) ≡ Some s
  pub new : by_grant j (grant_of j a) ≡ None → (by_grant k (grant_of k a) ≡ None) ⊎ ((all_dropped p j a x ≡ false) × (ready p j x ≡ true))
  pub spent : all_dropped p j a x ≡ true → all_dropped p k a x ≡ true

standing_step : (p : Plan) (j k : List Entry) (a : ℕ) (x : PlanAction) (xs ys : List Standing) → KeepsStanding p j k a x → Follows xs ys → Extends xs (standings p j)
    → is_settled (standing_after p j a x xs) ≡ true → standing_after p k a x ys ≡ standing_after p j a x xs
standing_step p j k a x xs ys keeps f ext h = by (by_grant j (grant_of j a)) refl h
  where
    without : (by_grant k (grant_of k a) ≡ None) → (all_dropped p k a x || is_starved x ys) ≡ true → standing_after p k a x ys ≡ Unsuccessful
    without none test = rw (none, test) refl

    by_test : by_grant j (grant_of j a) ≡ None → (all_dropped p j a x || is_starved x xs) ≡ true → standing_after p k a x ys ≡ Unsuccessful
    by_test none test = elim (or_cases (all_dropped p j a x) _ test) [
      | inl gone ↦ elim (keeps.new none) [
        | inl still ↦ without still (or_left _ _ (keeps.spent gone))
        | inr not_so ↦ absurd (clash _ gone not_so.0)
      ]
      | inr starved ↦ elim (keeps.new none) [
        | inl still ↦ without still (or_right (all_dropped p k a x) _ (starved_stays x xs ys f starved))
        | inr not_so ↦ absurd (unstarved p j x xs ext not_so.1 starved)
      ]
    ]

    by : (o : Option Standing) → by_grant j (grant_of j a) ≡ o → is_settled (unwrap_or o (cond (all_dropped p j a x || is_starved x xs) Unsuccessful Open)) ≡ true
        → standing_after p k a x ys ≡ unwrap_or o (cond (all_dropped p j a x || is_starved x xs) Unsuccessful Open)
    by (Some s) is q = rw (keeps.own s is) refl
    by None is q =
        by_bool (all_dropped p j a x || is_starved x xs)
        (λ b. (all_dropped p j a x || is_starved x xs) ≡ b → is_settled (cond b Unsuccessful Open) ≡ true → standing_after p k a x ys ≡ cond b Unsuccessful Open)
        (λ _ test _. by_test is test) (λ _ _ m. absurd (cc)) refl q

pub length_more : (zs : List Standing) (z : Standing) → length (zs ++ z ∷ []) ≡ suc (length zs)
length_more [] z = refl
length_more (w ∷ zs) z = ap suc (length_more zs z)

grown : (p : Plan) (j k : List Entry) → ((a : ℕ) (x : PlanAction) → slice_get p.actions a ≡ Some x → KeepsStanding p j k a x)
    → (rest : List PlanAction) (xs ys : List Standing) → ((i : ℕ) → slice_get rest i ≡ slice_get p.actions (length xs + i)) → length xs ≡ length ys → Follows xs ys
    → standings_from p j xs rest ≡ standings p j → Follows (standings_from p j xs rest) (standings_from p k ys rest)
grown p j k keeps [] xs ys at same f whole = f
grown p j k keeps (x ∷ rest) xs ys at same f whole =
    let here : slice_get p.actions (length xs) ≡ Some x = subst (λ n. slice_get p.actions n ≡ Some x) (omega arith) (sym (at zero)) in
    let ext : Extends xs (standings p j) = subst (Extends xs) whole (from_extends p j xs (x ∷ rest)) in
    let next = follows_more xs ys (standing_after p j (length xs) x xs) (standing_after p k (length ys) x ys) same f
    (λ yes. subst (λ n. standing_after p k n x ys ≡ standing_after p j (length xs) x xs) same (standing_step p j k (length xs) x xs ys (keeps (length xs) x here) f ext yes)) in
    grown p j k keeps rest (xs ++ standing_after p j (length xs) x xs ∷ []) (ys ++ standing_after p k (length ys) x ys ∷ [])
    (λ i. at (suc i) ∙ ap (slice_get p.actions) (shift i))
    (length_more xs _ ∙ ap suc same ∙ sym (length_more ys _)) next whole
  where
    shift : (i : ℕ) → length xs + suc i ≡ length (xs ++ standing_after p j (length xs) x xs ∷ []) + i
    shift i = let n = length_more xs (standing_after p j (length xs) x xs) in omega (arith, n)

start_follows : Follows [] []
unfolding Follows
start_follows i s h y = absurd (cc)

pub standings_grow : (p : Plan) (j k : List Entry) → ((a : ℕ) (x : PlanAction) → slice_get p.actions a ≡ Some x → KeepsStanding p j k a x) → Follows (standings p j) (standings p k)
unfolding standings
standings_grow p j k keeps = grown p j k keeps p.actions [] [] (λ i. ap (slice_get p.actions) (omega arith)) refl start_follows refl

pub ready_grows : (p : Plan) (j k : List Entry) (x : PlanAction) → Follows (standings p j) (standings p k) → ready p j x ≡ true → ready p k x ≡ true
unfolding ready Follows
ready_grows p j k x f h = all_map (λ (m : Maker). is_success (slice_get (standings p j) m.action)) (λ (m : Maker). is_success (slice_get (standings p k) m.action)) (λ m y. rw (f m.action Succeeded (success_is _ y) refl) refl) x.makers h

pub settled_grows : (p : Plan) (j k : List Entry) (a : ℕ) → Follows (standings p j) (standings p k) → settled p j a ≡ true → settled p k a ≡ true
unfolding settled Follows
settled_grows p j k a f h = by (slice_get (standings p j) a) refl h
  where
    by : (o : Option Standing) → slice_get (standings p j) a ≡ o → unwrap_or (option_map is_settled o) false ≡ true → unwrap_or (option_map is_settled (slice_get (standings p k) a)) false ≡ true
    by (Some s) is y = rw (f a s is y) y
    by None is y = absurd (cc)

-- ---- the action of an attempt is one of the plan, it uses the branch, and its inputs are made

pub AreReady : Plan → List Entry → Type 0
AreReady p j = (t : Attempt) → begun j t ≡ true → HasInputs p j t

-- ---- an attempt under way: not all branches of its action are dropped

pub undropped : (p : Plan) (j : List Entry) (t : Attempt) → Lawful p j → IsGoing j t → dropped p j t.action t.branch ≡ false
unfolding dropped
undropped p j t legal is = false_by _ (λ over.
    let spent = attempt_of t.action t.branch p.limit in
    let order = attempts_in_order p j legal in
    let range = order.numbered spent (c.ended_begun p j spent legal over) in
    let most = order.limited t.action t.branch range.0 in
    let latest = is.latest in
    let low = range.1 in
    let n : p.limit ≡ t.number = omega arith in
    clash (ended j t) (subst (λ (m : ℕ). ended j (attempt_of t.action t.branch m) ≡ true) n over) is.going)

unused_is : (p : Plan) (j : List Entry) (a : ℕ) (b : Branch) (o : Option ℕ) (n : ℕ) → o ≡ Some n → unused_or_dropped p j a b o ≡ dropped p j a b
unused_is p j a b (Some m) n h = refl
unused_is p j a b None n h = absurd (cc)

pub has_branch_left : (p : Plan) (j : List Entry) (a : ℕ) (b : Branch) (x : PlanAction) (n : ℕ) → group_of x b ≡ Some n → dropped p j a b ≡ false → all_dropped p j a x ≡ false
has_branch_left p j a Local x n h k = false_by _ (λ all. clash (dropped p j a Local) (sym (unused_is p j a Local x.local n h) ∙ (and_parts (unused_or_dropped p j a Local x.local) _ all).0) k)
has_branch_left p j a Remote x n h k = false_by _ (λ all. clash (dropped p j a Remote) (sym (unused_is p j a Remote x.remote n h) ∙ (and_parts (unused_or_dropped p j a Local x.local) _ all).1) k)

going_open : (p : Plan) (j : List Entry) (t : Attempt) (x : PlanAction) → Lawful p j → AreReady p j → IsGoing j t → slice_get p.actions t.action ≡ Some x → (all_dropped p j t.action x ≡ false) × (ready p j x ≡ true)
unfolding AreReady
going_open p j t x legal all is at =
    let has = all t is.begun_yet in
    let same : Some has.action ≡ Some x = sym has.place ∙ at in
    let e : has.action ≡ x = cc in
    subst (λ (y : PlanAction). (all_dropped p j t.action y ≡ false) × (ready p j y ≡ true)) e
    (has_branch_left p j t.action t.branch has.action has.group has.runs (undropped p j t legal is), has.inputs)

-- ---- a legal entry keeps each standing

commit_stays : (e : Entry) (j : List Entry) (a : ℕ) (b : Branch) (how : CommitEnd) → commit_of j a b ≡ Some how → commit_of (e ∷ j) a b ≡ Some how
unfolding commit_of
commit_stays e j a b how h = by (committed_in a b e.call) (commit_of j a b) h
  where
    by : (n o : Option CommitEnd) → o ≡ Some how → unless_before n o ≡ Some how
    by None o k = k
    by (Some d) (Some f) k = k
    by (Some d) None k = absurd (cc)

by_commit_stays : (e : Entry) (j : List Entry) (a : ℕ) (b : Branch) (s : Standing) → by_commit (commit_of j a b) ≡ Some s → by_commit (commit_of (e ∷ j) a b) ≡ Some s
by_commit_stays e j a b s h = by (commit_of j a b) refl h
  where
    by : (o : Option CommitEnd) → commit_of j a b ≡ o → by_commit o ≡ Some s → by_commit (commit_of (e ∷ j) a b) ≡ Some s
    by (Some how) is k = rw (commit_stays e j a b how is) k
    by None is k = absurd (cc)

own_stays : (e : Entry) (j : List Entry) (a : ℕ) (s : Standing) → by_grant j (grant_of j a) ≡ Some s → by_grant (e ∷ j) (grant_of (e ∷ j) a) ≡ Some s
own_stays e j a s h = by (grant_of j a) refl h
  where
    by : (o : Option (Attempt × Found)) → grant_of j a ≡ o → by_grant j o ≡ Some s → by_grant (e ∷ j) (grant_of (e ∷ j) a) ≡ Some s
    by None is k = absurd (cc)
    by (Some (t, found.Exit n)) is k = rw (g.grant_same e j a (t, found.Exit n) is) k
    by (Some (t, found.Files fs)) is k = rw (g.grant_same e j a (t, found.Files fs) is) (by_commit_stays e j t.action t.branch s k)
    by (Some (t, _)) is k = absurd (cc)

unused_stays : (p : Plan) (e : Entry) (j : List Entry) (a : ℕ) (b : Branch) (o : Option ℕ) → unused_or_dropped p j a b o ≡ true → unused_or_dropped p (e ∷ j) a b o ≡ true
unfolding dropped
unused_stays p e j a b None h = refl
unused_stays p e j a b (Some n) h = ended_stays e j (attempt_of a b p.limit) h

new_grant : (p : Plan) (e : Entry) (j : List Entry) (a : ℕ) (x : PlanAction) → Lawful p (e ∷ j) → AreReady p j → slice_get p.actions a ≡ Some x
    → (by_grant (e ∷ j) (grant_of (e ∷ j) a) ≡ None) ⊎ ((all_dropped p j a x ≡ false) × (ready p j x ≡ true))
new_grant p e j a x legal all at = by (grant_of (e ∷ j) a) refl
  where
    open_at : (t : Attempt) → IsGoing j t → t.action ≡ a → (all_dropped p j a x ≡ false) × (ready p j x ≡ true)
    open_at t is same =
        subst (λ n. (all_dropped p j n x ≡ false) × (ready p j x ≡ true)) same
        (going_open p j t x legal.0 all is (subst (λ n. slice_get p.actions n ≡ Some x) (sym same) at))

    by : (o : Option (Attempt × Found)) → grant_of (e ∷ j) a ≡ o → (by_grant (e ∷ j) o ≡ None) ⊎ ((all_dropped p j a x ≡ false) × (ready p j x ≡ true))
    by None is = inl refl
    by (Some y) is = inr (elim (g.grant_cases e j a y is) [
      | inl old ↦ (let w = g.winner p j a y legal.0 old in open_at y.0 w.under_way w.of_action)
      | inr new ↦ (let one = g.claimable p e j y.0 legal (g.granted_claims e.call e.reply y new.0) in open_at y.0 one.under_way new.1)
    ])

keeps_standing : (p : Plan) (e : Entry) (j : List Entry) → Lawful p (e ∷ j) → AreReady p j → (a : ℕ) (x : PlanAction) → slice_get p.actions a ≡ Some x → KeepsStanding p j (e ∷ j) a x
keeps_standing p e j legal all a x at = record {
  own = λ s h. own_stays e j a s h;
  new = λ none. new_grant p e j a x legal all at;
  spent = λ h. (let parts = and_parts (unused_or_dropped p j a Local x.local) _ h in
      and_from _ _ (unused_stays p e j a Local x.local parts.0) (unused_stays p e j a Remote x.remote parts.1));
}

-- ---- attempts begin where the inputs are made

pub uses_is : (x : PlanAction) (b : Branch) (g : ℕ) → uses x b g ≡ true → group_of x b ≡ Some g
uses_is x b g h = by (group_of x b) h
  where
    by : (o : Option ℕ) → unwrap_or (option_map (λ k. k == g) o) false ≡ true → o ≡ Some g
    by (Some k) y = ap Some (eqb-true k g y)
    by None y = absurd (cc)

queue_ready : (p : Plan) (j : List Entry) (g : ℕ) (t : Attempt) → IsNextOf p j g t → HasInputs p j t
queue_ready p j g t n =
    record { action = n.action; place = n.place; group = g; runs = uses_is n.action t.branch g n.group; inputs = (queued_is p j t.action t.branch n.action n.waiting).inputs }

pub next_ready : (p : Plan) (j : List Entry) (l : ℕ) (t : Attempt) → AreReady p j → NextOn p j l t → HasInputs p j t
unfolding AreReady
next_ready p j l t all (FromBound h) = let b = bound_is p j l t h in all t (launched_begun j l b.lane t b.launched)
next_ready p j l t all (FromQueue none room next) = queue_ready p j _ t next

begins_ready : (p : Plan) (j : List Entry) (lane : ℕ) (d : Call) (x : Reply) (t : Attempt) → AreReady p j → u.Ruled p j lane d x → begun_in x ≡ Some t → HasInputs p j t
begins_ready p j lane d x t all (u.Sends l s here alive next none) h = let e : s ≡ t = cc in subst (HasInputs p j) e (next_ready p j l s all next)
begins_ready p j lane d x t all (u.Launches gr s vacant next none) h = let e : s ≡ t = cc in subst (HasInputs p j) e (queue_ready p j gr s next)
begins_ready p j lane d x t all (u.KillsBroken l y here run broken over) h = absurd (cc)
begins_ready p j lane d x t all _ h = absurd (cc)

pub are_ready : (p : Plan) (j : List Entry) → Lawful p j → AreReady p j
unfolding AreReady begun
are_ready p [] legal = λ t h. absurd (cc)
are_ready p (e ∷ j) legal = step (are_ready p j legal.0)
  where
    step : ((t : Attempt) → begun j t ≡ true → HasInputs p j t) → (t : Attempt) → begun (e ∷ j) t ≡ true → HasInputs p (e ∷ j) t
    step all t h = later (elim (begun_more e j t h) [
      | inl here ↦ begins_ready p j e.lane e.call e.reply t all (v.entry_ruled p e j legal) (is_for_eq t (begun_in e.reply) here)
      | inr before ↦ all t before
    ])
      where
        later : HasInputs p j t → HasInputs p (e ∷ j) t
        later has = record {
          action = has.action;
          place = has.place;
          group = has.group;
          runs = has.runs;
          inputs = ready_grows p j (e ∷ j) has.action (standings_grow p j (e ∷ j) (keeps_standing p e j legal all)) has.inputs;
        }

-- ---- what a legal entry keeps

pub standings_follow : (p : Plan) (e : Entry) (j : List Entry) → Lawful p (e ∷ j) → Follows (standings p j) (standings p (e ∷ j))
standings_follow p e j legal = standings_grow p j (e ∷ j) (keeps_standing p e j legal (are_ready p j legal.0))

pub settled_stays : (p : Plan) (e : Entry) (j : List Entry) (a : ℕ) → Lawful p (e ∷ j) → settled p j a ≡ true → settled p (e ∷ j) a ≡ true
settled_stays p e j a legal h = settled_grows p j (e ∷ j) a (standings_follow p e j legal) h

pub ready_stays : (p : Plan) (e : Entry) (j : List Entry) (x : PlanAction) → Lawful p (e ∷ j) → ready p j x ≡ true → ready p (e ∷ j) x ≡ true
ready_stays p e j x legal h = ready_grows p j (e ∷ j) x (standings_follow p e j legal) h

dropped_stays : (p : Plan) (e : Entry) (j : List Entry) (a : ℕ) (b : Branch) → dropped p j a b ≡ true → dropped p (e ∷ j) a b ≡ true
unfolding dropped
dropped_stays p e j a b h = ended_stays e j (attempt_of a b p.limit) h

pub granted_stays : (e : Entry) (j : List Entry) (a : ℕ) → granted j a ≡ true → granted (e ∷ j) a ≡ true
granted_stays e j a h = let x = g.granted_is j a h in g.is_granted (e ∷ j) a x.0 (g.grant_same e j a x.0 x.1)

earlier_false : (x y : Bool) → (x ≡ true → y ≡ true) → y ≡ false → x ≡ false
earlier_false x y f h = false_by x (λ on. clash y (f on) h)

-- a branch that is wanted was wanted before: one that isn't wanted is never wanted again
pub wanted_before : (p : Plan) (e : Entry) (j : List Entry) (a : ℕ) (b : Branch) → Lawful p (e ∷ j) → wanted p (e ∷ j) a b ≡ true → wanted p j a b ≡ true
unfolding wanted
wanted_before p e j a b legal h =
    let parts = and_parts (not (settled p (e ∷ j) a)) _ h in let more = and_parts (not (granted (e ∷ j) a)) _ parts.1 in
    let x = earlier_false (settled p j a) _ (λ on. settled_stays p e j a legal on) (not_true _ parts.0) in
    let y = earlier_false (granted j a) _ (λ on. granted_stays e j a on) (not_true _ more.0) in
    let z = earlier_false (dropped p j a b) _ (λ on. dropped_stays p e j a b on) (not_true _ more.1) in
    rw (x, y, z) refl

-- ---- the standing of one action

pub record StandsAt (p : Plan) (j : List Entry) (a : ℕ) (x : PlanAction) : Type 0 where
  pub front : List Standing
  pub begin : Extends front (standings p j)
  pub is : slice_get (standings p j) a ≡ Some (standing_after p j a x front)

at_from : (p : Plan) (j : List Entry) (rest : List PlanAction) (xs whole : List Standing) (i a : ℕ) (x : PlanAction) → length xs + i ≡ a → slice_get rest i ≡ Some x
    → standings_from p j xs rest ≡ whole → (front : List Standing) × Extends front whole × (slice_get whole a ≡ Some (standing_after p j a x front))
unfolding Extends
at_from p j [] xs whole i a x n h w = absurd (cc)
at_from p j (y ∷ rest) xs whole zero a x n h w =
    let e : y ≡ x = cc in
    let here : length xs ≡ a = omega arith in
    let s = standing_after p j (length xs) y xs in
    let ext = from_extends p j (xs ++ s ∷ []) rest in
    let own : slice_get (standings_from p j (xs ++ s ∷ []) rest) (length xs) ≡ Some s = ext (length xs) s (get_last xs s) in
    let own_whole : slice_get whole (length xs) ≡ Some s = subst (λ zs. slice_get zs (length xs) ≡ Some s) w own in (
      xs,
      (λ m z k. subst (λ zs. slice_get zs m ≡ Some z) w (ext m z (get_append xs s m z k))),
      subst (λ (v : PlanAction). slice_get whole a ≡ Some (standing_after p j a v xs)) e (subst (λ (m : ℕ). slice_get whole m ≡ Some (standing_after p j m y xs)) here own_whole),
    )
at_from p j (y ∷ rest) xs whole (suc i) a x n h w =
    at_from p j rest (xs ++ standing_after p j (length xs) y xs ∷ []) whole i a x (let m = length_more xs (standing_after p j (length xs) y xs) in omega (arith, m)) h w

pub stands_at : (p : Plan) (j : List Entry) (a : ℕ) (x : PlanAction) → slice_get p.actions a ≡ Some x → StandsAt p j a x
unfolding standings
stands_at p j a x h = let f = at_from p j p.actions [] (standings p j) a a x (omega arith) h refl in record { front = f.0; begin = f.1; is = f.2 }

not_fed : (p : Plan) (j : List Entry) (x : PlanAction) (xs : List Standing) → Extends xs (standings p j) → ready p j x ≡ true → is_starved x xs ≡ false
not_fed p j x xs f h = false_by _ (λ on. unstarved p j x xs f h on)

open_standing : (p : Plan) (j : List Entry) (a : ℕ) (x : PlanAction) (xs : List Standing) → grant_of j a ≡ None → all_dropped p j a x ≡ false → is_starved x xs ≡ false → standing_after p j a x xs ≡ Open
open_standing p j a x xs none d s = rw (none, d, s) refl

pub ungranted_is : (j : List Entry) (a : ℕ) → granted j a ≡ false → grant_of j a ≡ None
unfolding granted
ungranted_is j a h = by (grant_of j a) h
  where
    by : (o : Option (Attempt × Found)) → is_some o ≡ false → o ≡ None
    by None k = refl
    by (Some x) k = absurd (cc)

-- an action without a grant that is ready and has a branch left isn't settled
pub open_unsettled : (p : Plan) (j : List Entry) (a : ℕ) (x : PlanAction) → Lawful p j → slice_get p.actions a ≡ Some x → grant_of j a ≡ None → all_dropped p j a x ≡ false → ready p j x ≡ true → settled p j a ≡ false
unfolding settled
open_unsettled p j a x legal place none left inputs =
    let at = stands_at p j a x place in
    rw (at.is ∙ ap Some (open_standing p j a x at.front none left (not_fed p j x at.front at.begin inputs))) refl

-- an attempt under way: its action isn't settled, unless it has a grant
pub going_unsettled : (p : Plan) (j : List Entry) (t : Attempt) → Lawful p j → IsGoing j t → granted j t.action ≡ false → settled p j t.action ≡ false
unfolding settled AreReady
going_unsettled p j t legal is free =
    let has = are_ready p j legal t is.begun_yet in
    let parts = going_open p j t has.action legal (are_ready p j legal) is has.place in
    let at = stands_at p j t.action has.action has.place in
    let now = open_standing p j t.action has.action at.front (ungranted_is j t.action free) parts.0 (not_fed p j has.action at.front at.begin parts.1) in
    rw (at.is ∙ ap Some now) refl

-- so its branch is wanted exactly where its action has no grant
pub going_wanted : (p : Plan) (j : List Entry) (t : Attempt) → Lawful p j → IsGoing j t → wanted p j t.action t.branch ≡ not (granted j t.action)
unfolding wanted
going_wanted p j t legal is =
    by_bool (granted j t.action) (λ b. granted j t.action ≡ b → (not (settled p j t.action) && (not (granted j t.action) && not (dropped p j t.action t.branch))) ≡ not b)
    (λ _ won. rw won (nothing (not (settled p j t.action))))
    (λ _ free. rw (free, going_unsettled p j t legal is free, undropped p j t legal is) refl) refl
  where
    nothing : (b : Bool) → (b && false) ≡ false
    nothing true = refl
    nothing false = refl

-- the action of an attempt under way is ready
pub going_ready_at : (p : Plan) (j : List Entry) (t : Attempt) → Lawful p j → begun j t ≡ true → HasInputs p j t
unfolding AreReady
going_ready_at p j t legal start = are_ready p j legal t start
