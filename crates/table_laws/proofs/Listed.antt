-- The attempts that end with a line's Ended, as the lists that the tables ask for.
use Rattle.std.proofs.Common.{◌≡◌, ℕ, Bool, true, false, ◌&&◌, ◌||◌, not, cond, List, [], ◌∷◌, length, None, refl, sym, ap, subst, ◌∙◌}
use Rattle.std.specs.List.{filter, list_any}
use Rattle.std.proofs.lemmas.Bool.{or_left, or_right}
use Rattle.run_plan.specs.declared.plan.Branch.{Branch}
use Rattle.run_plan.specs.declared.plan.Plan.{Plan}
use Rattle.exec_journal.specs.Lawful as lw
use Rattle.exec_journal.specs.declared.attempt.Attempt.{Attempt}
use Rattle.exec_journal.specs.Entry.{Entry}
use Rattle.exec_journal.specs.declared.call.Call.{Call}
use Rattle.exec_journal.specs.declared.call.Call.TheVariants as call
use Rattle.exec_journal.specs.declared.call.HowEnded.{HowEnded}
use Rattle.exec_journal.specs.Entries.{attempt_of, same_attempt, is_branch_of}
use Rattle.exec_journal.specs.Words.{has_ended}
use Rattle.exec_journal.specs.Attempts.{begun_in, attempt, ended}
use Rattle.exec_journal.specs.Scripts as sc
use Rattle.exec_journal.specs.Lawful.{Lawful}
use Rattle.run_plan.specs.Sound.{Sound}
use Rattle.exec_journal.proofs.Ruled.{by_bool}
use Rattle.exec_journal.proofs.Begins.{same_attempt_eq, same_attempt_refl}
use Rattle.journal_laws.specs.Invariant.{IsGoing}
use Rattle.journal_laws.proofs.Known as kn
use Rattle.journal_laws.proofs.Endings as en
use Rattle.journal_laws.proofs.Claims.{clash, false_by}
use Rattle.call_laws.specs.Moments.{lost_with, AreApart}
use Rattle.call_laws.proofs.LastLines as ll
use Rattle.call_laws.proofs.LostWith as lo
use Rattle.ready_order.specs.Entries as ro
use Rattle.retry_rules.specs.Entries as rr
use Rattle.table_laws.specs.Asked.{is_commit}
use Rattle.table_laws.proofs.Bridge as br

module _ (p : Plan) (e : Entry) (j : List Entry) (l : ℕ) (how : HowEnded) (legal : Lawful p (e ∷ j))
    (is : e.call ≡ call.Ended l how) where
  running : has_ended j l ≡ false
  running = (ll.heard p j e.lane l how legal.0 (subst
      (λ (d : Call). lw.in_script p j e.lane d ≡ true) is legal.1.scripted)).running

  none_begins : begun_in e.reply ≡ None
  none_begins = ap begun_in (subst (λ (d : Call). lw.Told p j e.lane d e.reply) is legal.1.told)

  uncommitted : is_commit e.call ≡ false
  uncommitted = rw is refl

  pub ends_listed : Sound p → ro.EndsThese p j e (lost_with p j l)
  ends_listed sound = record {
    these = λ t. lo.lost_exactly p e j l how legal is t;
    under_way = λ t among. br.under_way p j t sound legal.0
        (lo.lost_going p j l t legal.0 running among);
    none_begins = λ a b. kn.none_begins e j a b none_begins;
    grant = λ a. en.grants_same e j a (rw is refl);
    commit = λ a b. en.commits_same e j a b (λ y k. br.no_commit e.call uncommitted a b y k);
    begun = λ t lt. kn.past_unended p j t legal.0 lt;
  }

  -- ---- of each branch at most the latest stands in the list

  times_is : (a : ℕ) (b : Branch) (ts : List Attempt)
      → ((t : Attempt) → list_any (same_attempt t) ts ≡ true → IsGoing j t) → AreApart ts
      → length (filter (is_branch_of a b) ts) ≡ cond (list_any
      (same_attempt (attempt_of a b (attempt j a b))) ts) 1 0
  times_is a b [] going apart = refl
  times_is a b (y ∷ ys) going apart =
      let rest = times_is a b ys (λ t h. going t (or_right (same_attempt t y) _ h)) apart.1 in
      let here = going y (or_left (same_attempt y y) _ (same_attempt_refl y)) in
      by_bool (is_branch_of a b y) (λ c. is_branch_of a b y ≡ c
      → length (cond c (y ∷ filter (is_branch_of a b) ys) (filter (is_branch_of a b) ys)) ≡ cond
      (same_attempt (attempt_of a b (attempt j a b)) y || list_any
      (same_attempt (attempt_of a b (attempt j a b))) ys) 1 0)
      (λ _ on.
      let same = br.branch_is j a b y here on in
      let found : same_attempt (attempt_of a b (attempt j a b)) y ≡ true =
      subst (λ (t : Attempt). same_attempt t y ≡ true) (sym same) (same_attempt_refl y) in
      let once : list_any (same_attempt (attempt_of a b (attempt j a b))) ys ≡ false =
      subst (λ (t : Attempt). list_any (same_attempt t) ys ≡ false) (sym same) apart.0 in
      rw (found, rest, once) refl)
      (λ _ off.
      let other : same_attempt (attempt_of a b (attempt j a b)) y ≡ false =
      false_by _ (λ found. clash _ (subst (λ (t : Attempt). is_branch_of a b t ≡ true)
      (same_attempt_eq (attempt_of a b (attempt j a b)) y found)
      (br.own_branch (attempt_of a b (attempt j a b)))) off) in
      rw other rest) refl

  now_is : (a : ℕ) (b : Branch) → rr.ends_now j e a b ≡ list_any
      (same_attempt (attempt_of a b (attempt j a b))) (lost_with p j l)
  now_is a b =
      ap (λ c. c && not (ended j (attempt_of a b (attempt j a b))))
      (lo.lost_exactly p e j l how legal is (attempt_of a b (attempt j a b)))
      ∙ by (ended j (attempt_of a b (attempt j a b))) (list_any
      (same_attempt (attempt_of a b (attempt j a b))) (lost_with p j l)) refl
      (λ h. (lo.lost_going p j l (attempt_of a b (attempt j a b)) legal.0 running h).going)
    where
      by : (x y : Bool) → ended j (attempt_of a b (attempt j a b)) ≡ x
          → (y ≡ true → ended j (attempt_of a b (attempt j a b)) ≡ false) → ((x || y) && not x) ≡ y
      by true true at h = absurd (let both : false ≡ true = sym (h refl) ∙ at in cc)
      by true false at h = refl
      by false true at h = refl
      by false false at h = refl

  pub retries_listed : rr.EndsThese j e (lost_with p j l)
  retries_listed = record {
    none_begins = λ a b. kn.none_begins e j a b none_begins;
    these = λ a b. times_is a b (lost_with p j l) (λ t h. lo.lost_going p j l t legal.0 running h)
        (lo.lost_apart p j l legal.0) ∙ ap (λ c. cond c 1 0) (sym (now_is a b));
    begun = λ a b h. (lo.lost_going p j l (attempt_of a b (attempt j a b)) legal.0 running
        (sym (now_is a b) ∙ h)).least;
  }
