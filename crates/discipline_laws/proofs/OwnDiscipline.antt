-- The rules of berths that groups have of their own are a discipline.
use Rattle.std.proofs.Common.{◌≡◌, ℕ, true, List, [], ◌∷◌, refl}
use Rattle.run_plan.specs.declared.plan.Plan.{Plan}
use Rattle.exec_journal.specs.declared.call.Call.{Call}
use Rattle.exec_journal.specs.declared.call.Call.TheVariants as call
use Rattle.exec_journal.specs.Entry.{Entry}
use Rattle.exec_journal.specs.declared.reply.Reply.{Reply}
use Rattle.exec_journal.specs.Legal.{Legal}
use Rattle.exec_journal.specs.Lawful.{plain_reply}
use Rattle.exec_journal.specs.Rules.{rule}
use Rattle.exec_journal.proofs.Ruled as ru
use Rattle.journal_laws.proofs.Ours as ours
use Rattle.discipline_laws.proofs.Fitting.{noted_fits}
use Rattle.discipline_laws.proofs.OwnSeats.{own_orders_fit}
use Rattle.core_contract.specs.Laws.{fits}
use Rattle.core_contract.specs.Disciplines.{IsDiscipline, LegalBy, is_plain, own_discipline}

pub own_legal : (p : Plan) (j : List Entry) → LegalBy (own_discipline p) j → Legal p j
own_legal p [] legal = tt
own_legal p (e ∷ j) legal = (own_legal p j legal.0, record { scripted = legal.1.scripted; replied = legal.1.replied; kept = legal.1.kept })

pub legal_own : (p : Plan) (j : List Entry) → Legal p j → LegalBy (own_discipline p) j
legal_own p [] legal = tt
legal_own p (e ∷ j) legal = (legal_own p j legal.0, record { scripted = legal.1.scripted; replied = legal.1.replied; kept = legal.1.kept })

ruled_fits : (p : Plan) (j : List Entry) (lane : ℕ) (c : Call) (x : Reply)
    → ru.Ruled p j lane c x → fits c x ≡ true
ruled_fits p j lane c x (ru.Notes d n) = noted_fits d n
ruled_fits p j lane c x _ = refl

pub rule_fits : (p : Plan) (j : List Entry) (lane : ℕ) (c : Call) → fits c (rule p j lane c) ≡ true
rule_fits p j lane c = ruled_fits p j lane c (rule p j lane c) (ru.ruled p j lane c)

plain_is : (p : Plan) (j : List Entry) (lane : ℕ) (c : Call) → is_plain c ≡ true → rule p j lane c ≡ plain_reply p j lane c
plain_is p j lane call.Ask h = absurd (cc)
plain_is p j lane call.Tick h = absurd (cc)
plain_is p j lane (call.Answer l x) h = absurd (cc)
plain_is p j lane (call.Look w) h = refl
plain_is p j lane (call.Claim a b t f) h = refl
plain_is p j lane call.Take h = refl
plain_is p j lane (call.Launched l how) h = refl
plain_is p j lane (call.Wrote l n how) h = refl
plain_is p j lane (call.Committed a b how) h = refl
plain_is p j lane (call.Killed l) h = refl
plain_is p j lane (call.Ended l how) h = refl
plain_is p j lane call.Halt h = refl

pub own_is_discipline : (p : Plan) → IsDiscipline (own_discipline p)
own_is_discipline p = record {
  told = λ j lane d legal may. (let both = ours.both_ours p j (own_legal p j legal) in ours.told_ours p j both.0 both.1 lane d may);
  plain = λ j lane d h. plain_is p j lane d h;
  fitting = λ j lane d. rule_fits p j lane d;
  seated = λ j lane sound legal may. own_orders_fit p j lane (own_legal p j legal) may;
}
