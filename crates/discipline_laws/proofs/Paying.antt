-- What a history pays for: it is answered Noted, stays paid for, and is counted.
use Rattle.std.proofs.Common.{◌≡◌, ℕ, ◌+◌, ◌==◌, ◌≤◌, ◌*◌, nat_lt, Bool, true, false, cond, List, [], ◌∷◌, ◌++◌, refl, ap, sym, ◌∙◌, arith}
use Rattle.std.specs.List.{fold}
use Rattle.exec_journal.specs.declared.call.Call.{Call}
use Rattle.exec_journal.specs.declared.call.Call.TheVariants as call
use Rattle.exec_journal.specs.Entry.{Entry}
use Rattle.exec_journal.specs.declared.reply.Reply.{Reply}
use Rattle.exec_journal.specs.declared.reply.Reply.TheVariants as reply
use Rattle.exec_journal.specs.Entries.{is_kept}
use Rattle.exec_journal.specs.Legal.{after}
use Rattle.std.proofs.lemmas.Bool.{and_parts}
use Rattle.core_contract.specs.Disciplines.{IsDiscipline, is_plain}
use Rattle.core_contract.specs.Discipline.{Discipline}
use Rattle.core_contract.specs.Ruled.{CameAbout, IsPaidAfter, answer_after, journal_of, owes_after}
use Rattle.journal_laws.specs.Paid.{seat_paid, seats_owe}
use Rattle.journal_laws.proofs.Debts as debts
use Rattle.journal_laws.proofs.Allowed.{paid_allowed}
use Rattle.core_contract.specs.Moves.{History}
use Rattle.seat_desk.specs.History.{entry, calls_by}
use Rattle.discipline_laws.proofs.Going.{flip}
use Rattle.discipline_laws.proofs.Along.{journal_more, journal_next}
use Rattle.discipline_laws.proofs.Fitting.{answer_is, lawful, seated_so}

plain_paid : (m : ℕ) (j : List Entry) (lane : ℕ) (c : Call) → seat_paid m j lane c ≡ true → is_plain c ≡ true
plain_paid m j lane call.Halt h = refl
plain_paid m j lane (call.Committed a b how) h = refl
plain_paid m j lane call.Ask h = let e : false ≡ true = (and_parts (nat_lt lane (2 * m)) _ h).1 in absurd (cc)
plain_paid m j lane call.Tick h = let e : false ≡ true = (and_parts (nat_lt lane (2 * m)) _ h).1 in absurd (cc)
plain_paid m j lane (call.Answer l x) h = let e : false ≡ true = (and_parts (nat_lt lane (2 * m)) _ h).1 in absurd (cc)
plain_paid m j lane _ h = refl

rule_noted : (q : Discipline) → IsDiscipline q → (j : List Entry) (lane : ℕ) (c : Call) → seat_paid q.seats j lane c ≡ true → q.rule j lane c ≡ reply.Noted
rule_noted q is j lane c paid = is.plain j lane c (plain_paid q.seats j lane c paid) ∙ debts.paid_noted q.plan q.seats j lane c paid

pub paid_noted : (q : Discipline) → IsDiscipline q → (h : History) (lane : ℕ) (c : Call) → CameAbout q h
    → IsPaidAfter q h lane c → answer_after q h lane c ≡ reply.Noted
paid_noted q is h lane c came paid =
    answer_is q h lane c (seated_so q (journal_of h) lane c (paid_allowed q.seats q.kinds q.plan (journal_of h) lane c (lawful q is (journal_of h) came.legal) paid))
    ∙ rule_noted q is (journal_of h) lane c paid

stays_along : (m : ℕ) (lane : ℕ) (c : Call) (more : History) (j : List Entry)
    → calls_by lane more ≡ [] → seat_paid m j lane c ≡ true
    → seat_paid m (fold (λ j e. e ∷ j) j more) lane c ≡ true
stays_along m lane c [] j none paid = paid
stays_along m lane c (e ∷ more) j none paid =
    by (lane == e.lane) refl none (λ k pays rest. stays_along m lane c more k rest pays)
  where
    by : (b : Bool) → (lane == e.lane) ≡ b
        → cond b (e ∷ calls_by lane more) (calls_by lane more) ≡ []
        → ((k : List Entry) → seat_paid m k lane c ≡ true → calls_by lane more ≡ []
        → seat_paid m (fold (λ j e. e ∷ j) k more) lane c ≡ true)
        → seat_paid m (fold (λ j e. e ∷ j) (e ∷ j) more) lane c ≡ true
    by true own clash go = absurd (cc)
    by false other rest go = go (e ∷ j)
        (debts.paid_stays m e j lane c (flip lane e.lane false other) ∙ paid) rest

pub paid_stays : (q : Discipline) (h more : History) (lane : ℕ) (c : Call) → calls_by lane more ≡ []
    → IsPaidAfter q h lane c → IsPaidAfter q (h ++ more) lane c
paid_stays q h more lane c none paid =
    ap (λ (j : List Entry). seat_paid q.seats j lane c) (journal_more h more)
    ∙ stays_along q.seats lane c more (journal_of h) none paid

next_is : (h : History) (lane : ℕ) (c : Call) (x : Reply) → is_kept x ≡ true
    → journal_of (h ++ entry lane c x ∷ []) ≡ after (journal_of h) lane c x
next_is h lane c x kept = journal_next h (entry lane c x)
    ∙ ap (λ (b : Bool). cond b (record { lane = lane; call = c; reply = x } ∷ journal_of h)
    (journal_of h)) (sym kept)

pub owes_less : (q : Discipline) (h : History) (lane : ℕ) (c : Call) → IsPaidAfter q h lane c
    → owes_after q (h ++ entry lane c reply.Noted ∷ []) + 1 ≡ owes_after q h
owes_less q h lane c paid =
    ap (λ (j : List Entry). seats_owe q.seats j + 1) (next_is h lane c reply.Noted refl)
    ∙ debts.owes_less q.seats (journal_of h) lane c paid

pub owes_more : (q : Discipline) (h : History) (lane : ℕ) (c : Call)
    → is_kept (answer_after q h lane c) ≡ true
    → owes_after q (h ++ entry lane c (answer_after q h lane c) ∷ []) ≤ owes_after q h + 2
owes_more q h lane c kept =
    let same : seats_owe q.seats (journal_of (h ++ entry lane c (answer_after q h lane c) ∷ []))
    ≡ seats_owe q.seats (after (journal_of h) lane c (answer_after q h lane c)) =
    ap (seats_owe q.seats) (next_is h lane c (answer_after q h lane c) kept) in
    omega (arith, same, debts.owes_more q.seats (journal_of h) lane c (answer_after q h lane c))
