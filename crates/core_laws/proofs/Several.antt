-- What the ends of several attempts make of the counts and of the order of actions, one after the
-- other.
use Rattle.std.proofs.Common.{◌≡◌, ℕ, ◌-◌, ◌<◌, ◌≤◌, Bool, true, false, ◌&&◌, ◌||◌, not, cond, List, [], ◌∷◌, length, nat_lt, Option, Some, None, is_some, refl, ap, sym, subst, ◌∙◌, arith}
use Rattle.std.proofs.lemmas.Bool.{ltb-true, ltb-false}
use Rattle.run_plan.specs.declared.plan.Branch.{Branch}
use Rattle.run_plan.specs.declared.plan.Branch.TheVariants.{Local, Remote}
use Rattle.run_plan.specs.declared.plan.Plan.{Plan}
use Rattle.exec_journal.specs.declared.attempt.Attempt.{Attempt}
use Rattle.exec_journal.specs.declared.call.Call.TheVariants as call
use Rattle.exec_journal.specs.declared.call.Found.TheVariants as found
use Rattle.exec_journal.specs.declared.ends.Cause.{Cause}
use Rattle.exec_journal.specs.declared.ends.Cause.TheVariants as cause
use Rattle.exec_journal.specs.Entry.{Entry}
use Rattle.exec_journal.specs.declared.reply.Reply.TheVariants as reply
use Rattle.exec_journal.specs.Attempts.{attempt, ended, end_of, over, fault_of}
use Rattle.exec_journal.specs.Entries.{attempt_of, same_attempt}
use Rattle.exec_journal.specs.Facts.{AttemptsInOrder, begun}
use Rattle.list_lemmas.specs.Options.{or_else, unless_before}
use Rattle.exec_journal.specs.Words.{granted, grant_of, commit_of, has_ended, answered, wrote, line_cause}
use Rattle.exec_journal.proofs.Begins.{same_attempt_eq, same_attempt_refl, attempt_other}
use Rattle.exec_journal.proofs.Quiet.{ended_same, ended_stays}
use Rattle.exec_journal.proofs.Ruled.{by_bool}
use Rattle.worker_pool.proofs.Bound.{ends_now}
use Rattle.worker_pool.proofs.Words.{over_same, granted_same}
use Rattle.race_core.specs.declared.Won.{Won}
use Rattle.race_core.specs.Stands as races
use Rattle.race_core.proofs.Kept as races-laws
use Rattle.ready_order.specs.declared.ActionState.{ActionState}
use Rattle.ready_order.specs.Entries.{is_among}
use Rattle.ready_order.specs.Stands as queues
use Rattle.ready_order.proofs.Followed as queues-laws
use Rattle.retry_rules.specs.Counts as counts
use Rattle.retry_rules.specs.Stands as tallies
use Rattle.retry_rules.specs.Stands.{ended_count}
use Rattle.core_laws.specs.Ends.{EndsOne, chain_counts, chain_states}
use Rattle.core_state.specs.Machine.{counts_after, states_after}
use Rattle.core_laws.specs.Premises.{AllBegun, EndsTogether}
use Rattle.table_laws.specs.Moments.{Uses}
use Rattle.core_laws.proofs.Ends.{counts_kept, states_kept}

or_false : (b : Bool) → (b || false) ≡ b
or_false true = refl
or_false false = refl

or_true : (b : Bool) → (b || true) ≡ true
or_true true = refl
or_true false = refl

-- ---- one attempt, by an entry that says nothing else: it needn't be legal

abbrev fake : Attempt → Entry
fake t = record {
  lane = 0;
  call = call.Claim t.action t.branch t.number found.RoomFault;
  reply = reply.Dropped;
}

module _ (k : List Entry) (t : Attempt) where
  fake_granted : (a : ℕ) → granted (fake t ∷ k) a ≡ granted k a
  fake_granted a = granted_same (fake t) k a refl

  other_stays : (u : Attempt) → same_attempt t u ≡ false → ended (fake t ∷ k) u ≡ ended k u
  unfolding has_ended answered wrote line_cause
  other_stays u h = ended_same (fake t) k u (over_same (fake t) k u
      (ap (λ b. cond b (Some cause.Room) None) h) refl (λ l. refl) refl refl (λ l g. refl))
      (fake_granted u.action)

  none_more : (o : Option Cause) → or_else o None ≡ o
  none_more None = refl
  none_more (Some c) = refl

  won_stays : granted k t.action ≡ true → ended (fake t ∷ k) t ≡ ended k t
  unfolding ended end_of
  won_stays h = ap is_some (ap (λ b. or_else (end_of k t) (cond b None (over (fake t ∷ k) t)))
      (fake_granted t.action ∙ h) ∙ none_more (end_of k t))

  first_some : (b : Bool) (o q : Option Cause) → b ≡ true
      → is_some (or_else (unless_before (cond b (Some cause.Room) None) o) q) ≡ true
  first_some true None q h = refl
  first_some true (Some d) q h = refl
  first_some false o q h = absurd (cc)

  is_over : is_some (over (fake t ∷ k) t) ≡ true
  unfolding fault_of
  is_over = first_some (same_attempt t t) (fault_of k t) _ (same_attempt_refl t)

  own_ends : ended (fake t ∷ k) t ≡ (ended k t || not (granted k t.action))
  own_ends = by_bool (granted k t.action) (λ b. granted k t.action ≡ b
      → ended (fake t ∷ k) t ≡ (ended k t || not b))
      (λ _ h. won_stays h ∙ sym (or_false (ended k t)))
      (λ _ h. ends_now (fake t) k t (fake_granted t.action ∙ h) is_over
      ∙ sym (or_true (ended k t))) refl

  apart : (u : Attempt) → same_attempt u t ≡ false → same_attempt t u ≡ false
  apart u h = by_bool (same_attempt t u) (λ b. same_attempt t u ≡ b → b ≡ false)
      (λ _ g. absurd (let e = same_attempt_eq t u g in let z : same_attempt u t ≡ true =
      ap (λ v. same_attempt v t) (sym e) ∙ same_attempt_refl t in cc)) (λ _ g. refl) refl

  fake_ends : (u : Attempt) → ended (fake t ∷ k) u ≡
      (ended k u || (same_attempt u t && not (granted k t.action)))
  fake_ends u = by_bool (same_attempt u t) (λ b. same_attempt u t ≡ b
      → ended (fake t ∷ k) u ≡ (ended k u || (b && not (granted k t.action))))
      (λ _ h. subst (λ v. ended (fake t ∷ k) v ≡ (ended k v || not (granted k t.action)))
      (sym (same_attempt_eq u t h)) own_ends)
      (λ _ h. other_stays u (apart u h) ∙ sym (or_false (ended k u))) refl

  fake_begins : (a : ℕ) (b : Branch) → attempt (fake t ∷ k) a b ≡ attempt k a b
  fake_begins a b = attempt_other (fake t) k a b refl

  fake_grant : (a : ℕ) → grant_of (fake t ∷ k) a ≡ grant_of k a
  unfolding grant_of
  fake_grant a = refl

  fake_commit : (a : ℕ) (b : Branch) → commit_of (fake t ∷ k) a b ≡ commit_of k a b
  unfolding commit_of
  fake_commit a b = refl

  fake_begun : (u : Attempt) → begun (fake t ∷ k) u ≡ begun k u
  unfolding begun
  fake_begun u = refl

-- ---- several

module _ (p : Plan) (limit : 1 ≤ p.limit) (race : List Won) where
  pub record Base (k : List Entry) : Type 0 where
    pub order : AttemptsInOrder p k
    pub unbegun : (u : Attempt) → begun k u ≡ false → ended k u ≡ false
    pub won : races.Stands p race k

  module _ (k : List Entry) (t : Attempt) (base : Base k) (start : begun k t ≡ true)
      (uses : Uses p t) where
    latest : ended k t ≡ false → t.number ≡ attempt k t.action t.branch
    latest going =
        by_bool (nat_lt t.number (attempt k t.action t.branch))
        (λ _. t.number ≡ attempt k t.action t.branch)
        (λ yes. absurd (let o = base.order.older t (base.order.numbered t start).0
        (ltb-true t.number (attempt k t.action t.branch) yes) in cc))
        (λ ne. let ge = ltb-false t.number (attempt k t.action t.branch) ne in
        let le = (base.order.numbered t start).1 in omega arith)

    one : EndsOne p k (fake t) t
    one = record {
      this = fake_ends k t;
      none_begins = fake_begins k t;
      grant = fake_grant k t;
      commit = fake_commit k t;
      latest = λ going _. latest going;
      least = (base.order.numbered t start).0;
      most = (let a = (base.order.numbered t start).1 in
          let b = base.order.limited t.action t.branch limit in omega arith);
      action = uses.action;
      place = uses.place;
      used = ap is_some uses.runs;
    }

    after_order : AttemptsInOrder p (fake t ∷ k)
    after_order = record {
      numbered = λ u h. (let n = base.order.numbered u (sym (fake_begun k t u) ∙ h) in
          (n.0, subst (λ m. u.number ≤ m) (sym (fake_begins k t u.action u.branch)) n.1));
      older = λ u least lt. ended_stays (fake t) k u (base.order.older u least
          (subst (λ m. u.number < m) (fake_begins k t u.action u.branch) lt));
      limited = λ a b h. subst (λ m. m ≤ p.limit) (sym (fake_begins k t a b))
          (base.order.limited a b h);
    }

    after_unbegun : (u : Attempt) → begun (fake t ∷ k) u ≡ false → ended (fake t ∷ k) u ≡ false
    after_unbegun u h =
        let was = sym (fake_begun k t u) ∙ h in
        fake_ends k t u ∙ (λ i. base.unbegun u was i || (differs was i && not (granted k t.action)))
      where
        differs : begun k u ≡ false → same_attempt u t ≡ false
        differs was = by_bool (same_attempt u t) (λ b. same_attempt u t ≡ b → b ≡ false)
            (λ _ g. absurd (let e = same_attempt_eq u t g in let y : begun k u ≡ true =
            ap (begun k) e ∙ start in cc)) (λ _ g. refl) refl

    after : Base (fake t ∷ k)
    after = record {
      order = after_order;
      unbegun = after_unbegun;
      won = races-laws.others p race k (fake t ∷ k) base.won
          (record { grant = fake_grant k t; commit = fake_commit k t });
    }

  -- what they make of a journal that ends exactly these
  record Chained (k l : List Entry) (f : counts.Facts) (states : List ActionState)
      (ts : List Attempt) : Type 0 where
    ends : (u : Attempt) → ended l u ≡ (ended k u || (is_among ts u && not (granted k u.action)))
    begins : (a : ℕ) (b : Branch) → attempt l a b ≡ attempt k a b
    grant : (a : ℕ) → grant_of l a ≡ grant_of k a
    commit : (a : ℕ) (b : Branch) → commit_of l a b ≡ commit_of k a b
    counted : tallies.Stands p (chain_counts race f ts) l
    queued : queues.Stands p (chain_states p race f states ts) l

  record Some_journal (k : List Entry) (f : counts.Facts) (states : List ActionState)
      (ts : List Attempt) : Type 0 where
    journal : List Entry
    chained : Chained k journal f states ts

  all_later : (k : List Entry) (t : Attempt) (ts : List Attempt) → AllBegun p k ts
      → AllBegun p (fake t ∷ k) ts
  all_later k t [] all = all
  all_later k t (u ∷ ts) all = ((fake_begun k t u ∙ all.0.0, all.0.1), all_later k t ts all.1)

  join : (x s n m : Bool) → ((x || (s && n)) || (m && n)) ≡ (x || ((s || m) && n))
  join true s n m = refl
  join false true true m = refl
  join false true false true = refl
  join false true false false = refl
  join false false n m = refl

  chain : (ts : List Attempt) (k : List Entry) (f : counts.Facts) (states : List ActionState)
      → Base k → AllBegun p k ts → tallies.Stands p f k → queues.Stands p states k
      → Some_journal k f states ts
  chain [] k f states base all tl st = record {
    journal = k;
    chained = record {
      ends = λ u. sym (or_false (ended k u));
      begins = λ a b. refl;
      grant = λ a. refl;
      commit = λ a b. refl;
      counted = tl;
      queued = st;
    };
  }
  chain (t ∷ ts) k f states base all tl st =
      let start = all.0.0 in
      let uses = all.0.1 in
      let next = after k t base start uses in
      let rest = chain ts (fake t ∷ k) (counts_after race f t) (states_after p race f states t) next
      (all_later k t ts all.1)
      (counts_kept p k (fake t) t base.order next.order base.unbegun next.unbegun
      (one k t base start uses) race base.won f tl states st limit)
      (states_kept p k (fake t) t base.order next.order base.unbegun next.unbegun
      (one k t base start uses) race base.won f tl states st limit) in
      let c = rest.chained in
      record {
        journal = rest.journal;
        chained = record {
          ends = λ u. c.ends u ∙ (λ i. (fake_ends k t u ∙ ap (λ b. ended k u || b) (own_grant u)) i
              || (is_among ts u && not (fake_granted k t u.action i)))
              ∙ join (ended k u) (same_attempt u t) (not (granted k u.action)) (is_among ts u);
          begins = λ a b. c.begins a b ∙ fake_begins k t a b;
          grant = λ a. c.grant a ∙ fake_grant k t a;
          commit = λ a b. c.commit a b ∙ fake_commit k t a b;
          counted = c.counted;
          queued = c.queued;
        };
      }
    where
      own_grant : (u : Attempt) → (same_attempt u t && not (granted k t.action)) ≡
          (same_attempt u t && not (granted k u.action))
      own_grant u = by_bool (same_attempt u t) (λ b. same_attempt u t ≡ b
          → (b && not (granted k t.action)) ≡ (b && not (granted k u.action)))
          (λ _ h. ap (λ (v : Attempt). not (granted k v.action)) (sym (same_attempt_eq u t h)))
          (λ _ h. refl) refl

  -- ---- an entry with which exactly these end

  module _ (j : List Entry) (e : Entry) (ts : List Attempt) (base : Base j) (all : AllBegun p j ts)
      (one_by_one : EndsTogether j e ts) (f : counts.Facts) (tl : tallies.Stands p f j)
      (states : List ActionState) (st : queues.Stands p states j) where
    it : Some_journal j f states ts
    it = chain ts j f states base all tl st

    ends_as : (u : Attempt) → ended (e ∷ j) u ≡ ended it.journal u
    ends_as u = one_by_one.these u ∙ sym (it.chained.ends u)

    begins_as : (a : ℕ) (b : Branch) → attempt (e ∷ j) a b ≡ attempt it.journal a b
    begins_as a b = one_by_one.none_begins a b ∙ sym (it.chained.begins a b)

    count_as : (a : ℕ) (b : Branch) → ended_count it.journal a b ≡ ended_count (e ∷ j) a b
    unfolding ended_count
    count_as a b = λ i. cond (ends_at i) (sym (begins_as a b) i) (sym (begins_as a b) i - 1)
      where
        ends_at : ended it.journal (attempt_of a b (attempt it.journal a b)) ≡ ended (e ∷ j)
            (attempt_of a b (attempt (e ∷ j) a b))
        ends_at = sym (ends_as (attempt_of a b (attempt it.journal a b)))
            ∙ ap (λ n. ended (e ∷ j) (attempt_of a b n)) (sym (begins_as a b))

    pub several_counts : tallies.Stands p (chain_counts race f ts) (e ∷ j)
    several_counts = record {
      limit = it.chained.counted.limit;
      each = λ a. it.chained.counted.each a ∙ ap (λ r. cond (nat_lt a (length p.actions))
          (Some r) None) (λ i. record { local = count_as a Local i; remote = count_as a Remote i });
    }

    pub several_states : queues.Stands p (chain_states p race f states ts) (e ∷ j)
    several_states = queues-laws.others p (chain_states p race f states ts) it.journal
        (e ∷ j) it.chained.queued (record {
          actions = record {
            grant = λ a. one_by_one.grant a ∙ sym (it.chained.grant a);
            commit = λ a b. one_by_one.commit a b ∙ sym (it.chained.commit a b);
            ended_too = ends_as;
          };
          none_begins = begins_as;
        })

-- ---- one attempt, by the form in which a fault of its own is said

pub same_sym : (s t : Attempt) → same_attempt s t ≡ same_attempt t s
same_sym s t = by_bool (same_attempt s t) (λ b. same_attempt s t ≡ b → b ≡ same_attempt t s)
    (λ _ h. sym (ap (same_attempt t) (same_attempt_eq s t h) ∙ same_attempt_refl t))
    (λ _ h. by_bool (same_attempt t s) (λ b. same_attempt t s ≡ b → false ≡ b)
    (λ _ g. absurd (let e = same_attempt_eq t s g in let z : same_attempt s t ≡ true =
    ap (λ v. same_attempt v t) (sym e) ∙ same_attempt_refl t in cc)) (λ _ g. refl) refl) refl

pub one_test : (j : List Entry) (t u : Attempt) → (same_attempt t u && not (granted j t.action)) ≡
    (is_among (t ∷ []) u && not (granted j u.action))
one_test j t u = by_bool (same_attempt t u) (λ b. same_attempt t u ≡ b
    → (b && not (granted j t.action)) ≡ (is_among (t ∷ []) u && not (granted j u.action)))
    (λ _ h. ap (λ (v : Attempt). not (granted j v.action)) (same_attempt_eq t u h)
    ∙ sym (ap (λ b. (b || false) && not (granted j u.action)) (same_sym u t ∙ h)))
    (λ _ h. sym (ap (λ b. (b || false) && not (granted j u.action)) (same_sym u t ∙ h))) refl
