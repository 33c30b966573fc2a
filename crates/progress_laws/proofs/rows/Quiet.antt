-- Quiet berths: before anything happens a branch is queued; and once an action is committed, its
-- attempt is still under way, and the action has a grant.
use Rattle.std.proofs.Common.{◌≡◌, ◌<◌, ◌⊎◌, zero, suc, inr, refl, true, false, None, [], ap, subst, arith}
use Rattle.run_plan.specs.declared.plan.Branch.TheVariants.{Local}
use Rattle.exec_journal.specs.Attempts.{ended}
use Rattle.exec_journal.specs.Entries.{attempt_of}
use Rattle.exec_journal.specs.Facts.{begun}
use Rattle.exec_journal.specs.Lawful.{Lawful}
use Rattle.exec_journal.specs.Settled.{all_settled, bound, queued}
use Rattle.exec_journal.specs.Words.{granted}
use Rattle.exec_journal.proofs.Parts.{worker}
use Rattle.journal_laws.specs.Invariant.{IsGoing, claimed}
use Rattle.journal_laws.specs.IsLegal.{is_legal}
use Rattle.journal_laws.proofs.Decided.{legal_by}
use Rattle.journal_laws.proofs.Ours as ours
use Rattle.journal_laws.proofs.rows.Opened.{words}
use Rattle.placed_rules.proofs.PoolRows.{committed_9}
use Rattle.progress_laws.specs.Awaits.{Awaits}
use Rattle.progress_laws.specs.Quiet.{AllQuiet, IsFree, IsQuietBerth, NoneOwes}
use Rattle.progress_laws.proofs.Berths.{berth_at_rest}
use Rattle.progress_laws.proofs.Closing.{claimed_closes}
use Rattle.progress_laws.proofs.Going.{going_granted}
use Rattle.progress_laws.proofs.Options.{some_same}
use Rattle.progress_laws.proofs.rows.OwnBerths.{asked_5, asked_legal, one_worker}

-- ---- before anything happens

quiet_at_first : AllQuiet one_worker []
unfolding words
quiet_at_first l w mine = (let low = mine.below in absurd (omega (arith, low)))

none_owes_at_first : NoneOwes []
unfolding words
none_owes_at_first lane d at even = absurd (cc)

unsettled : all_settled one_worker [] ≡ false
unfolding one_worker words
unsettled = refl

waiting : queued one_worker [] 0 Local worker ≡ true
unfolding one_worker words
waiting = refl

-- ---- a berth whose lanes rest

asked_lawful : Lawful one_worker asked_5
asked_lawful = ours.lawful one_worker asked_5 (legal_by one_worker asked_5 asked_legal)

owes_or_free : Awaits asked_5 0 ⊎ IsFree asked_5 0
unfolding one_worker asked_5 words
owes_or_free =
    berth_at_rest one_worker asked_5 0 1 0 asked_lawful refl refl refl refl (inr (0, refl))

-- ---- once the action is committed

committed_legal : is_legal one_worker committed_9 ≡ true
unfolding one_worker committed_9 words
committed_legal = refl

committed_lawful : Lawful one_worker committed_9
committed_lawful =
    ours.lawful one_worker committed_9 (legal_by one_worker committed_9 committed_legal)

quiet : AllQuiet one_worker committed_9
unfolding one_worker committed_9 words
quiet zero w mine =
    let lane : 0 ≡ mine.owner.0 = ap (λ x. x.0)
    (some_same (0, attempt_of 0 Local 1) (mine.owner.0, mine.owner.1) mine.owner.2) in
    let half = mine.owner.3 in
    let same : 0 ≡ w = omega (arith, lane, half) in
    subst (IsQuietBerth one_worker committed_9) same (record {
      lane = 0;
      same = refl;
      is = record {
        may = refl;
        ungathered = refl;
        free = λ l h. subst (IsFree committed_9) (some_same 0 l h) (inr (refl, refl));
        unbound =
            λ l h up. subst (λ n. bound one_worker committed_9 n ≡ None) (some_same 0 l h) refl;
      };
    })
quiet (suc l) w mine = (let low : suc l < 1 = mine.below in absurd (omega (arith, low)))

going : IsGoing committed_9 (attempt_of 0 Local 1)
unfolding committed_9 begun words
going = record { begun_yet = refl; going = refl; least = omega arith; latest = refl }

won : granted committed_9 0 ≡ true
won = going_granted one_worker committed_9 (attempt_of 0 Local 1) committed_lawful quiet going

was_claimed : claimed committed_9 (attempt_of 0 Local 1) ≡ true
unfolding committed_9 claimed words
was_claimed = refl

closed : (granted committed_9 0 ≡ true) ⊎ (ended committed_9 (attempt_of 0 Local 1) ≡ true)
closed = claimed_closes one_worker committed_9 (attempt_of 0 Local 1) committed_lawful was_claimed
