-- A core that stands for a journal stands for the history of its entries.
use Rattle.std.proofs.Common.{◌≡◌, ℕ, List, [], sym, subst}
use Rattle.run_plan.specs.declared.plan.Plan.{Plan}
use Rattle.core_contract.specs.Discipline.{Discipline}
use Rattle.core_contract.specs.Ruled.{journal_of}
use Rattle.exec_journal.specs.declared.call.Call.{Call}
use Rattle.exec_journal.specs.Entry.{Entry}
use Rattle.exec_journal.specs.declared.reply.Reply.{Reply}
use Rattle.exec_journal.specs.Entries.{is_kept}
use Rattle.exec_journal.specs.Legal.{Legal, after}
use Rattle.seat_desk.specs.History as history
use Rattle.seat_desk.specs.History.{entry}
use Rattle.core_contract.specs.Moves.{History}
use Rattle.discipline_laws.proofs.Growing.{journal_after}
use Rattle.discipline_laws.proofs.OwnDiscipline.{own_legal}
use Rattle.spawn_core.specs.Histories.{StandsFor, basis_of}
use Rattle.spawn_core.specs.Stands.{Kept, KeptBy, Stands, StandsIn}

-- before any call
pub begun : (p : Plan) (c : Kept) → Stands p c [] → StandsFor c []
begun p c st = subst (λ (q : Plan). Stands q c []) (sym st.both.tables.plan) st

-- after a call, by what the core goes by
pub goes_on : {M B : Type 0} (rules : B → Discipline) (own : B → M → List Entry → Type 0)
    (basis : M → Plan → B) (m n : KeptBy M) (lane : ℕ) (c : Call) (x : Reply)
    → basis_of basis n ≡ basis_of basis m
    → ((b : B) (j : List Entry) → StandsIn (rules b) (own b) m j
    → StandsIn (rules b) (own b) n (after j lane c x))
    → (h : History)
    → StandsIn (rules (basis_of basis m)) (own (basis_of basis m)) m (journal_of h)
    → StandsIn (rules (basis_of basis n)) (own (basis_of basis n)) n
    (journal_of (history.after (λ e. is_kept e.reply) h (entry lane c x)))
goes_on {M} {B} rules own basis m n lane c x same next h st =
    subst (λ (j : List Entry). StandsIn (rules (basis_of basis n)) (own (basis_of basis n)) n j)
    (sym (journal_after h lane c x))
    (subst (λ (b : B). StandsIn (rules b) (own b) n (after (journal_of h) lane c x)) (sym same)
    (next (basis_of basis m) (journal_of h) st))

-- a core on the plan's own berths stands for journals that are legal by the plan's rules
pub legal_is : (p : Plan) (c : Kept) (j : List Entry) → Stands p c j → Legal p j
legal_is p c j st = own_legal p j st.both.legal
