-- `is_legal` decides `Legal`.
use Rattle.std.proofs.Common.{◌≡◌, true, List, [], ◌∷◌, refl, subst}
use Rattle.std.proofs.lemmas.Bool.{and_parts, and_from}
use Rattle.run_plan.specs.declared.plan.Plan.{Plan}
use Rattle.exec_journal.specs.Entry.{Entry}
use Rattle.exec_journal.specs.Rules.{rule}
use Rattle.exec_journal.specs.Same.{same_reply}
use Rattle.exec_journal.specs.Scripts.{script}
use Rattle.exec_journal.specs.Legal.{Legal}
use Rattle.exec_journal.proofs.Same.{reply_eq, reply_refl}
use Rattle.journal_laws.specs.IsLegal.{is_legal}

pub legal_by : (p : Plan) (j : List Entry) → is_legal p j ≡ true → Legal p j
unfolding is_legal
legal_by p [] h = tt
legal_by p (e ∷ j) h =
    let s = and_parts (is_legal p j) _ h in
    let x = and_parts (script p j e.lane e.call) _ s.1 in
    let y = and_parts (same_reply e.reply (rule p j e.lane e.call)) _ x.1 in
    (legal_by p j s.0, record { scripted = x.0; replied = reply_eq e.reply (rule p j e.lane e.call) y.0; kept = y.1 })

pub legal_computes : (p : Plan) (j : List Entry) → Legal p j → is_legal p j ≡ true
unfolding is_legal
legal_computes p [] h = refl
legal_computes p (e ∷ j) h =
    and_from _ _ (legal_computes p j h.0)
    (and_from _ _ h.1.scripted (and_from _ _ (subst (λ r. same_reply e.reply r ≡ true) h.1.replied (reply_refl e.reply)) h.1.kept))
