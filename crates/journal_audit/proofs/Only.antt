-- With no other reply than the one that the core gives is the journal legal by its discipline.
use Rattle.std.proofs.Common.{◌≡◌, ℕ, true, List, inl, inr, sym, subst}
use Rattle.core_contract.specs.Discipline.{Discipline}
use Rattle.core_contract.specs.Disciplines.{LegalEntryBy}
use Rattle.exec_journal.specs.declared.call.Call.{Call}
use Rattle.exec_journal.specs.Entry.{Entry}
use Rattle.exec_journal.specs.declared.reply.Reply.{Reply}
use Rattle.exec_journal.specs.declared.reply.Reply.TheVariants as reply
use Rattle.exec_journal.specs.Entries.{is_kept}
use Rattle.spawn_core.specs.Answers.{Replies, answer_by, is_file}

not_file : (x : Reply) → is_kept x ≡ true → is_file x ≡ true → ⊥
not_file reply.Idle k f = absurd (cc)
not_file (reply.File content) k f = absurd (cc)
not_file _ k f = absurd (cc)

pub only : (q : Discipline) (j : List Entry) (lane : ℕ) (c : Call) (r x : Reply) → Replies (answer_by q j lane c) r → LegalEntryBy q j (record { lane = lane; call = c; reply = x }) → r ≡ x
only q j lane c r x replied legal =
    let due : answer_by q j lane c ≡ x = rw legal.scripted (sym legal.replied) in
    let same : Replies x r = subst (λ (y : Reply). Replies y r) due replied in
    elim same [
      | inl is ↦ is
      | inr file ↦ absurd (not_file x legal.kept file.0)
    ]
