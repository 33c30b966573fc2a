-- A legal history is one entry longer than another, by an entry as the rules make it.
use Rattle.std.proofs.Common.{◌≡◌, ℕ, Bool, true, false, cond, [], ◌∷◌, ◌++◌, refl, sym, subst, ◌∙◌}
use Rattle.core_contract.specs.Disciplines.{LegalBy}
use Rattle.core_contract.specs.Discipline.{Discipline}
use Rattle.core_contract.specs.Ruled.{CameAbout, answer_after, journal_of}
use Rattle.exec_journal.specs.declared.call.Call.{Call}
use Rattle.exec_journal.specs.declared.reply.Reply.{Reply}
use Rattle.exec_journal.specs.Entries.{is_kept}
use Rattle.exec_journal.specs.Legal as legal
use Rattle.core_contract.specs.Moves.{Past, History}
use Rattle.seat_desk.specs.History as history
use Rattle.seat_desk.specs.History.{entry}
use Rattle.discipline_laws.proofs.Along.{journal_next}
use Rattle.discipline_laws.proofs.Fitting.{answer_is}

pub legal_before : (q : Discipline) (h : History) (e : Past) → CameAbout q (h ++ e ∷ [])
    → CameAbout q h × (e.reply ≡ answer_after q h e.lane e.call) × (is_kept e.reply ≡ true)
legal_before q h e came =
    let both = subst (LegalBy q) (journal_next h e) came.legal in (
      record { sound = came.sound; legal = both.0 },
      both.1.replied ∙ sym (answer_is q h e.lane e.call both.1.scripted),
      both.1.kept,
    )

-- the journal of a history after a call
pub journal_after : (h : History) (lane : ℕ) (c : Call) (x : Reply)
    → journal_of (history.after (λ e. is_kept e.reply) h (entry lane c x))
    ≡ legal.after (journal_of h) lane c x
journal_after h lane c x = by (is_kept x)
  where
    by : (b : Bool) → journal_of (cond b (h ++ entry lane c x ∷ []) h)
        ≡ cond b (record { lane = lane; call = c; reply = x } ∷ journal_of h) (journal_of h)
    by true = journal_next h (entry lane c x)
    by false = refl
