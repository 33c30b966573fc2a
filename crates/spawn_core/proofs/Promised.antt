-- What is promised of the journal that a core stands for.
use Rattle.std.proofs.Common.{◌≡◌, ℕ, Bool, true, false, cond, List, inl, inr, refl, sym, subst, ◌∙◌}
use Rattle.run_plan.specs.Sound.{Sound}
use Rattle.exec_journal.specs.declared.call.Call.{Call}
use Rattle.exec_journal.specs.Entry.{Entry}
use Rattle.exec_journal.specs.declared.reply.Reply.{Reply}
use Rattle.exec_journal.specs.declared.reply.Reply.TheVariants as reply
use Rattle.exec_journal.specs.Clean.{Clean}
use Rattle.exec_journal.specs.Lawful.{Told}
use Rattle.exec_journal.specs.Words.{halted}
use Rattle.core_contract.specs.Disciplines.{IsDiscipline, LegalBy, script_of}
use Rattle.core_contract.specs.Discipline.{Discipline}
use Rattle.discipline_laws.proofs.Fitting.{lawful}
use Rattle.journal_laws.specs.Finished.{Finished}
use Rattle.journal_laws.proofs.Cleaned.{complete}
use Rattle.journal_laws.proofs.Finishing.{finished, stop_finishes}
use Rattle.journal_laws.proofs.Known.{stopped_settled}
use Rattle.journal_laws.proofs.Races.{race}
use Rattle.journal_laws.proofs.Requests.{paired}
use Rattle.spawn_core.specs.Answers.{Replies, answer_by}
use Rattle.spawn_core.specs.Orderly.{Complete, Orderly}

pub orderly : (q : Discipline) → IsDiscipline q → (kept : List Entry → Type 0) (j : List Entry)
    → Sound q.plan → LegalBy q j → kept j → Orderly q kept j
orderly q is kept j sound legal so =
    let good = lawful q is j legal in
    record {
      legal = legal;
      race = race q.plan j good;
      paired = paired q.plan j good;
      kept = so;
      finished = λ lane told none. finished q.plan j sound good
          (stopped_settled q.plan j lane good told none);
    }

-- where the reply is Stop, the call is in its script and the reply is the rule's
stop_is : (b : Bool) (x y : Reply) → y ≡ reply.Stop → Replies (cond b x reply.Astray) y
    → (b ≡ true) × (x ≡ reply.Stop)
stop_is true x y h (inl same) = (refl, sym same ∙ h)
stop_is false x y h (inl same) = absurd (let k = sym h ∙ same in cc)
stop_is b x y h (inr short) = absurd (let k = sym h ∙ short.1 in cc)

module _ (q : Discipline) (is : IsDiscipline q) (j : List Entry) (lane : ℕ) (c : Call) (y : Reply)
    (sound : Sound q.plan) (legal : LegalBy q j) (told : Replies (answer_by q j lane c) y)
    (stop : y ≡ reply.Stop) (none : halted j ≡ false) where
  told_stop : Told q.plan j lane c reply.Stop
  told_stop =
      let at = stop_is (script_of q j lane c) (q.rule j lane c) y stop told in
      subst (λ (x : Reply). Told q.plan j lane c x) at.1 (is.told j lane c legal at.0)

  pub stops : Finished q.plan j
  stops = stop_finishes q.plan j lane c sound (lawful q is j legal) told_stop none

  pub completes : Clean j → Complete q.plan j
  completes clean =
      λ a x at. complete q.plan j lane c sound (lawful q is j legal) clean none told_stop a x at
