-- The places of a line's requests, and their attempts.
use Rattle.std.proofs.Common.{◌≡◌, ℕ, ◌<◌, ◌^◌, ◌==◌, nat_lt, zero, suc, Bool, true, false, ◌&&◌, ◌||◌, not, cond, List, [], ◌∷◌, ◌++◌, length, filter, map, reverse, Option, Some, None, is_some, refl, ap, sym, subst, ◌∙◌, arith}
use Rattle.std.specs.Prelude.{slice_get, option_and_then}
use Rattle.std.specs.List.{list_any}
use Rattle.std.proofs.lemmas.Bool.{and_parts, eqb-true, eq-eqb, lt-ltb}
use Rattle.run_plan.specs.declared.plan.Branch.{Branch}
use Rattle.run_plan.specs.declared.plan.Branch.TheVariants.{Local, Remote}
use Rattle.run_plan.specs.declared.plan.Plan.{Plan}
use Rattle.run_plan.specs.declared.plan.PlanAction.{PlanAction}
use Rattle.exec_journal.specs.declared.attempt.Attempt.{Attempt}
use Rattle.exec_journal.specs.Entry.{Entry}
use Rattle.exec_journal.specs.declared.reply.Reply.{Reply}
use Rattle.exec_journal.specs.declared.reply.Reply.TheVariants as reply
use Rattle.exec_journal.specs.Attempts.{begun_in}
use Rattle.exec_journal.specs.Entries.{Request, attempt_of, same_attempt, same_branch, is_for}
use Rattle.exec_journal.specs.Facts.{begun}
use Rattle.list_lemmas.specs.Options.{and_more}
use Rattle.run_plan.specs.Groups.{group_of}
use Rattle.run_plan.specs.Sound.{Sound, has_branches, are_different, names_group}
use Rattle.exec_journal.specs.Words.{sends, sent_on, pending, is_pending}
use Rattle.exec_journal.proofs.Begins.{same_branch_refl, same_attempt_refl}
use Rattle.exec_journal.proofs.Ruled.{by_bool}
use Rattle.request_table.specs.declared.RequestRow.{RequestRow}
use Rattle.request_table.specs.Entries.{EachOf}
use Rattle.request_table.specs.Rows.{line_room, is_open, places_of, places_on}
use Rattle.request_table.specs.Stands.{Waiting, waiting_in, request_row}
use Rattle.request_table.specs.Stands as tables
use Rattle.request_table.specs.Rows as asks
use Rattle.request_table.proofs.Lists.{reverse_front, map_reverse, map_map, each_filter}
use Rattle.request_table.proofs.Sent.{open_is}
use Rattle.worker_pool.specs.Entries.{is_of}
use Rattle.core_tables.specs.declared.berth_group.BerthGroup.{BerthGroup}
use Rattle.call_laws.specs.Moments.{BranchOf}
use Rattle.core_state.specs.Reports.{branch_of_group, branch_in, attempt_in, is_open_for}
use Rattle.ready_order.proofs.AllSettled.{sound_at}
use Rattle.core_laws.proofs.Several.{same_sym}
use Rattle.exec_journal.specs.Seated.{group_on}
use Rattle.table_laws.specs.Moments.{SentInGroup}

-- ---- lists

or_comm : (x y : Bool) → (x || y) ≡ (y || x)
or_comm true true = refl
or_comm true false = refl
or_comm false true = refl
or_comm false false = refl

or_assoc : (x y z : Bool) → (x || (y || z)) ≡ ((x || y) || z)
or_assoc true y z = refl
or_assoc false y z = refl

or_false : (b : Bool) → (b || false) ≡ b
or_false true = refl
or_false false = refl

module _ {X : Type 0} (f : X → Bool) where
  pub any_append : (xs ys : List X) → list_any f (xs ++ ys) ≡ (list_any f xs || list_any f ys)
  any_append [] ys = refl
  any_append (x ∷ xs) ys = ap (λ b. f x || b) (any_append xs ys)
      ∙ or_assoc (f x) (list_any f xs) (list_any f ys)

  pub any_reverse : (xs : List X) → list_any f (reverse xs) ≡ list_any f xs
  any_reverse [] = refl
  any_reverse (x ∷ xs) =
      ap (list_any f) (reverse_front x xs) ∙ any_append (reverse xs) (x ∷ [])
      ∙ (λ i. any_reverse xs i || or_false (f x) i) ∙ or_comm (list_any f xs) (f x)

  pub any_map : {Y : Type 0} (g : Y → X) (ys : List Y)
      → list_any f (map g ys) ≡ list_any (λ y. f (g y)) ys
  any_map g [] = refl
  any_map g (y ∷ ys) = ap (λ b. f (g y) || b) (any_map g ys)

  pub any_counts : (xs : List X) → list_any f xs ≡ nat_lt 0 (length (filter f xs))
  any_counts [] = refl
  any_counts (x ∷ xs) = elim (f x) as (λ b. (b || list_any f xs) ≡ nat_lt 0
      (length (cond b (x ∷ filter f xs) (filter f xs)))) [
        | true ↦ sym (lt-ltb 0 (suc (length (filter f xs))) (omega arith))
        | false ↦ any_counts xs
      ]

pub any_each : (f g : Request → Bool) (rs : List Request) → EachOf (λ r. f r ≡ g r) rs
    → list_any f rs ≡ list_any g rs
any_each f g [] h = refl
any_each f g (r ∷ rs) h = λ i. h.0 i || any_each f g rs h.1 i

any_open : (f : RequestRow → Bool) (xs : List RequestRow)
    → list_any (λ x. x.pending && f x) xs ≡ list_any f (filter is_open xs)
any_open f [] = refl
any_open f (x ∷ xs) = elim x.pending as (λ b. ((b && f x) || list_any (λ y. y.pending && f y) xs)
    ≡ list_any f (cond b (x ∷ filter is_open xs) (filter is_open xs))) [
      | true ↦ ap (λ b. f x || b) (any_open f xs)
      | false ↦ any_open f xs
    ]

pub each_place : (P : Request → Type 0) (rs : List Request) (i : ℕ) (r : Request) → EachOf P rs
    → slice_get rs i ≡ Some r → P r
each_place P [] i r all h = absurd (cc)
each_place P (q ∷ rs) zero r all h = let e : q ≡ r = cc in subst P e all.0
each_place P (q ∷ rs) (suc i) r all h = each_place P rs i r all.1 h

pub each_with : (P Q : Request → Type 0) (rs : List Request) → ((r : Request) → P r → Q r)
    → EachOf P rs → EachOf Q rs
each_with P Q [] h all = tt
each_with P Q (r ∷ rs) h all = (h r all.0, each_with P Q rs h all.1)

-- ---- requests that were sent were begun

sent_begins : (l : ℕ) (x : Reply) (r : Request) → sent_on l x ≡ Some r → begun_in x ≡ Some r.attempt
sent_begins l (reply.Send k n a b t) r h =
    by_bool (k == l) (λ c. cond c (Some (record {
      line = k;
      number = n;
      attempt = attempt_of a b t;
    })) None ≡ Some r → Some (attempt_of a b t) ≡ Some r.attempt)
    (λ _ g. let e : (record { line = k; number = n; attempt = attempt_of a b t }) ≡ r = cc in
    ap (λ (q : Request). Some q.attempt) e) (λ _ g. absurd (cc)) h
sent_begins l _ r h = absurd (cc)

later : (e : Entry) (j : List Entry) (l : ℕ) (o : Option Request) → sent_on l e.reply ≡ o
    → EachOf (λ r. begun j r.attempt ≡ true) (sends j l)
    → EachOf (λ r. begun (e ∷ j) r.attempt ≡ true) (and_more o (sends j l))
unfolding begun
later e j l o h before = by o h
  where
    or_right : (x y : Bool) → y ≡ true → (x || y) ≡ true
    or_right true y h = refl
    or_right false y h = h

    older : EachOf (λ r. (is_for r.attempt (begun_in e.reply) || begun j r.attempt) ≡ true)
        (sends j l)
    older = each_with (λ r. begun j r.attempt ≡ true) (λ r.
        (is_for r.attempt (begun_in e.reply) || begun j r.attempt) ≡ true) (sends j l)
        (λ r k. or_right (is_for r.attempt (begun_in e.reply)) (begun j r.attempt) k) before

    by : (o : Option Request) → sent_on l e.reply ≡ o → EachOf
        (λ r. (is_for r.attempt (begun_in e.reply) || begun j r.attempt) ≡ true)
        (and_more o (sends j l))
    by None k = older
    by (Some r) k = (
      let b = sent_begins l e.reply r k in
          rw (ap (is_for r.attempt) b ∙ same_attempt_refl r.attempt) refl,
      older,
    )

pub sends_begun : (j : List Entry) (l : ℕ) → EachOf (λ r. begun j r.attempt ≡ true) (sends j l)
unfolding sends
sends_begun [] l = tt
sends_begun (e ∷ j) l = later e j l (sent_on l e.reply) refl (sends_begun j l)

-- ---- the branch of a group

and_true : (y : Bool) → (y && true) ≡ y
and_true true = refl
and_true false = refl

module _ (p : Plan) (sound : Sound p) where
  branch_by : (b : Branch) (x : PlanAction) (g : ℕ) → are_different x.local x.remote ≡ true
      → group_of x b ≡ Some g → branch_of_group x.local g ≡ b
  branch_by Local x g apart h = rw h (ap (λ c. cond c Local Remote) (eq-eqb g g refl))
  branch_by Remote x g apart h = by x.local (subst (λ o. are_different x.local o ≡ true) h apart)
    where
      by : (o : Option ℕ) → are_different o (Some g) ≡ true → branch_of_group o g ≡ Remote
      by None k = refl
      by (Some m) k = by_bool (m == g) (λ c. not c ≡ true → cond c Local Remote ≡ Remote)
          (λ _ z. absurd (cc)) (λ _ z. refl) k

  at_place : (t : Attempt) (g : ℕ) (o : Option PlanAction) → slice_get p.actions t.action ≡ o
      → option_and_then (λ x. group_of x t.branch) o ≡ Some g
      → branch_of_group (option_and_then (λ x. x.local) o) g ≡ t.branch
  at_place t g None at h = absurd (cc)
  at_place t g (Some x) at h =
      let all = sound_at p 0 p.actions t.action x sound.each_action at in
      let branches = (and_parts (has_branches (length p.groups) x) _
      (and_parts (nat_lt (length x.outputs) (2 ^ 32)) _ all).1).0 in
      let apart = (and_parts (names_group (length p.groups) x.local
      && names_group (length p.groups) x.remote) _ (and_parts
      (is_some x.local || is_some x.remote) _ branches).1).1 in
      branch_by t.branch x g apart h

  pub branch_is : (t : Attempt) (g : ℕ) → BranchOf p t (Some g) → branch_in p t.action g ≡ t.branch
  branch_is t g h = at_place t g (slice_get p.actions t.action) refl h

  pub attempt_is : (seat : BerthGroup) (t : Attempt) → BranchOf p t (Some seat.group)
      → attempt_in p seat t.action t.number ≡ t
  attempt_is seat t h = ap (λ b. attempt_of t.action b t.number) (branch_is t seat.group h)

  -- of one group an attempt is known by its action and number
  known_by : (t u : Attempt) (g : ℕ) → BranchOf p t (Some g) → BranchOf p u (Some g)
      → ((u.action == t.action) && (u.number == t.number)) ≡ same_attempt t u
  known_by t u g a b =
      by_bool (u.action == t.action) (λ c. (u.action == t.action) ≡ c
      → (c && (u.number == t.number)) ≡ (c && (same_branch u.branch t.branch
      && (u.number == t.number))))
      (λ yes _. ap (λ c. c && (u.number == t.number)) (sym (same (eqb-true u.action t.action yes))))
      (λ _ _. refl) refl
      ∙ same_sym u t
    where
      same : u.action ≡ t.action → same_branch u.branch t.branch ≡ true
      same e = ap (λ c. same_branch c t.branch) (sym (branch_is u g b) ∙ ap (λ k. branch_in p k g) e
          ∙ branch_is t g a) ∙ same_branch_refl t.branch

-- ---- the places of a line

module _ (p : Plan) (f : asks.Facts) (j : List Entry) (l : ℕ) (st : tables.Stands p f j)
    (within : l < line_room p) where
  module _ (sound : Sound p) (g : ℕ) (at : group_on p j l ≡ Some g)
      (grouped : SentInGroup p j l) where
    pub pending_grouped : EachOf (λ r. BranchOf p r.attempt (Some g)) (pending j l)
    unfolding pending
    pending_grouped = each_filter (λ r. BranchOf p r.attempt (Some g)) (is_pending j) (sends j l)
        (each_with (λ r. BranchOf p r.attempt (group_on p j l))
        (λ r. BranchOf p r.attempt (Some g)) (sends j l) (λ r h. h ∙ at) grouped)

    -- whether the attempt's request is pending
    pub waiting_is : (t : Attempt) → BranchOf p t (Some g)
        → list_any (is_open_for t) (places_of f l) ≡ nat_lt 0
        (length (filter (is_of t) (pending j l)))
    waiting_is t of =
        any_open (λ x. (x.action == t.action) && (x.attempt == t.number)) (places_of f l)
        ∙ ap (list_any (λ x. (x.action == t.action) && (x.attempt == t.number)))
        (open_is p f j l st within)
        ∙ any_reverse (λ x. (x.action == t.action) && (x.attempt == t.number))
        (map (request_row j) (pending j l))
        ∙ any_map (λ x. (x.action == t.action) && (x.attempt == t.number)) (request_row j)
        (pending j l)
        ∙ any_each (λ r. (r.attempt.action == t.action) && (r.attempt.number == t.number)) (is_of t)
        (pending j l)
        (each_with (λ r. BranchOf p r.attempt (Some g)) (λ r.
        ((r.attempt.action == t.action) && (r.attempt.number == t.number))
        ≡ same_attempt t r.attempt) (pending j l) (λ r h. known_by p sound t r.attempt g of h)
        pending_grouped)
        ∙ any_counts (is_of t) (pending j l)

    pub attempts_are : (seat : BerthGroup) → seat.group ≡ g → map
        (λ (x : RequestRow). attempt_in p seat x.action x.attempt)
        (reverse (map (request_row j) (pending j l))) ≡ reverse (map (λ r. r.attempt) (pending j l))
    attempts_are seat same =
        map_reverse (λ (x : RequestRow). attempt_in p seat x.action x.attempt)
        (map (request_row j) (pending j l))
        ∙ ap reverse (map_map (λ (x : RequestRow). attempt_in p seat x.action x.attempt)
        (request_row j) (pending j l) ∙ each_same (pending j l) pending_grouped)
      where
        each_same : (rs : List Request) → EachOf (λ r. BranchOf p r.attempt (Some g)) rs
            → map (λ r. attempt_in p seat r.attempt.action r.attempt.number) rs ≡ map
            (λ r. r.attempt) rs
        each_same [] all = refl
        each_same (r ∷ rs) all = λ i. attempt_is p sound seat r.attempt
            (all.0 ∙ ap Some (sym same)) i ∷ each_same rs all.1 i
