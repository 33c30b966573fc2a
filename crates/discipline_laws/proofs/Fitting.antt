-- The rules answer each call by a reply of its kind, so a call is in its lane's script exactly if
-- it isn't answered Astray.
use Rattle.std.proofs.Common.{◌≡◌, ℕ, ◌*◌, ◌/◌, ◌%◌, ◌==◌, nat_lt, Bool, true, false, ◌&&◌, ◌||◌, not, cond, List, [], ◌∷◌, Option, Some, None, inl, inr, refl, sym, ap, subst, ◌∙◌}
use Rattle.run_plan.specs.declared.plan.Kind.TheVariants as kind
use Rattle.run_plan.specs.declared.plan.Plan.{Plan}
use Rattle.exec_journal.specs.declared.call.Call.{Call}
use Rattle.exec_journal.specs.declared.call.Call.TheVariants as call
use Rattle.exec_journal.specs.Entry.{Entry}
use Rattle.exec_journal.specs.declared.reply.Reply.{Reply}
use Rattle.exec_journal.specs.declared.reply.Reply.TheVariants as reply
use Rattle.exec_journal.specs.Lawful as lw
use Rattle.exec_journal.specs.Scripts as sc
use Rattle.exec_journal.specs.Words.{stopped, has_halted, last_work}
use Rattle.exec_journal.specs.Lawful.{Lawful}
use Rattle.exec_journal.proofs.Reasons as u
use Rattle.exec_journal.proofs.Ruled as ru
use Rattle.exec_journal.proofs.Ruled.{by_bool}
use Rattle.core_contract.specs.Laws.{fits, Fits, InScript}
use Rattle.core_contract.specs.Moves.{History}
use Rattle.core_contract.specs.Discipline.{Discipline}
use Rattle.core_contract.specs.Ruled.{answer_after, journal_of}
use Rattle.std.proofs.lemmas.Bool.{and_parts, and_from, or_cases, or_left, or_right}
use Rattle.journal_laws.proofs.Ours as ours
use Rattle.core_contract.specs.Disciplines.{IsDiscipline, LegalBy, LegalEntryBy, script_of, berth_script}

-- ---- replies of a call's kind

pub noted_fits : (c : Call) → ru.is_noted c ≡ true → fits c reply.Noted ≡ true
noted_fits (call.Launched l how) h = refl
noted_fits (call.Wrote l n how) h = refl
noted_fits (call.Committed a b how) h = refl
noted_fits (call.Killed l) h = refl
noted_fits (call.Ended l how) h = refl
noted_fits call.Halt h = refl
noted_fits call.Tick h = refl
noted_fits _ h = absurd (cc)

-- a reply with reasons is one
reasons_fit : (p : Plan) (j : List Entry) (lane : ℕ) (c : Call) (x : Reply)
    → u.Ruled p j lane c x → fits c x ≡ true
reasons_fit p j lane c x (u.Notes d n) = noted_fits d n
reasons_fit p j lane c x _ = refl

pub told_fits : (p : Plan) (j : List Entry) (lane : ℕ) (c : Call) (x : Reply)
    → lw.Told p j lane c x → fits c x ≡ true
told_fits p j lane c x told = reasons_fit p j lane c x (u.told_ruled p j lane c x told)

-- and so is the journal's own to each call but Ask
pub plain_fits : (p : Plan) (j : List Entry) (lane : ℕ) (c : Call) → (c ≡ call.Ask → ⊥)
    → fits c (lw.plain_reply p j lane c) ≡ true
plain_fits p j lane call.Ask other = absurd (other refl)
plain_fits p j lane (call.Answer l x) other = told_fits p j lane (call.Answer l x) _ refl
plain_fits p j lane (call.Look w) other = told_fits p j lane (call.Look w) _ refl
plain_fits p j lane (call.Claim a b t f) other = told_fits p j lane (call.Claim a b t f) _ refl
plain_fits p j lane call.Take other = told_fits p j lane call.Take _ refl
plain_fits p j lane _ other = refl

-- ---- outside its lane's script none is

unfit : (c : Call) → fits c reply.Astray ≡ false
unfit call.Ask = refl
unfit (call.Launched l how) = refl
unfit (call.Wrote l n how) = refl
unfit (call.Look w) = refl
unfit (call.Claim a b t f) = refl
unfit (call.Committed a b how) = refl
unfit (call.Killed l) = refl
unfit call.Take = refl
unfit (call.Answer l x) = refl
unfit (call.Ended l how) = refl
unfit call.Tick = refl
unfit call.Halt = refl

pub not_astray : (q : Discipline) → IsDiscipline q → (j : List Entry) (lane : ℕ) (c : Call)
    → q.rule j lane c ≡ reply.Astray → ⊥
not_astray q is j lane c h =
    let both : true ≡ false = sym (is.fitting j lane c) ∙ (ap (fits c) h ∙ unfit c) in cc

-- in its script a call is answered by the rule
pub answer_is : (q : Discipline) (h : History) (lane : ℕ) (c : Call)
    → script_of q (journal_of h) lane c ≡ true
    → answer_after q h lane c ≡ q.rule (journal_of h) lane c
answer_is q h lane c may =
    ap (λ (b : Bool). cond b (q.rule (journal_of h) lane c) reply.Astray) may

-- a call in its lane's script is in that of the lane's berth, or is a Tick where an Ask is
pub data Scripted (q : Discipline) (j : List Entry) (lane : ℕ) : Call → Type 0 where
  Ticks : berth_script q j lane call.Ask ≡ true → Scripted q j lane call.Tick
  Seated : (c : Call) → berth_script q j lane c ≡ true → Scripted q j lane c

ticking : (q : Discipline) (j : List Entry) (lane : ℕ) (c : Call) → lw.may_tick (berth_script q j lane call.Ask) None c ≡ true → Scripted q j lane c
ticking q j lane call.Tick h = Ticks (and_parts (berth_script q j lane call.Ask) _ h).0
ticking q j lane _ h = absurd (cc)

pub scripted_as : (q : Discipline) (j : List Entry) (lane : ℕ) (c : Call) → script_of q j lane c ≡ true → Scripted q j lane c
scripted_as q j lane c may = elim (or_cases (q.ticks lane && lw.may_tick (berth_script q j lane call.Ask) None c) _ may) [
  | inl tick ↦ ticking q j lane c (and_parts (q.ticks lane) _ tick).1
  | inr seat ↦ Seated c seat
]

pub in_seats : (q : Discipline) (j : List Entry) (lane : ℕ) (c : Call) → script_of q j lane c ≡ true → nat_lt lane (2 * q.seats) ≡ true
in_seats q j lane c may = by c (scripted_as q j lane c may)
  where
    by : (d : Call) → Scripted q j lane d → nat_lt lane (2 * q.seats) ≡ true
    by d (Seated _ seat) = (and_parts (nat_lt lane (2 * q.seats)) _ seat).0
    by d (Ticks ask) = (and_parts (nat_lt lane (2 * q.seats)) _ ask).0

pub seated_so : (q : Discipline) (j : List Entry) (lane : ℕ) (c : Call) → berth_script q j lane c ≡ true → script_of q j lane c ≡ true
seated_so q j lane c seat = or_right (q.ticks lane && lw.may_tick (berth_script q j lane call.Ask) None c) _ seat

pub in_script : (q : Discipline) → IsDiscipline q → (h : History) (lane : ℕ) (c : Call)
    → script_of q (journal_of h) lane c ≡ true → InScript (answer_after q) h lane c
in_script q is h lane c may =
    λ astray. not_astray q is (journal_of h) lane c (sym (answer_is q h lane c may) ∙ astray)

pub scripted_so : (q : Discipline) (h : History) (lane : ℕ) (c : Call)
    → InScript (answer_after q) h lane c → script_of q (journal_of h) lane c ≡ true
scripted_so q h lane c fit =
    by_bool (script_of q (journal_of h) lane c)
    (λ b. (cond b (q.rule (journal_of h) lane c) reply.Astray ≡ reply.Astray → ⊥) → b ≡ true)
    (λ _ f. refl) (λ _ f. absurd (f refl)) fit

pub replies_fit : (q : Discipline) → IsDiscipline q → (h : History) (lane : ℕ) (c : Call) → Fits c (answer_after q h lane c)
replies_fit q is h lane c = λ fit. ap (fits c) (answer_is q h lane c (scripted_so q h lane c fit))
    ∙ is.fitting (journal_of h) lane c

-- ---- a legal history is lawful

pub anywhere : (q : Discipline) (j : List Entry) (lane : ℕ) (c : Call) → script_of q j lane c ≡ true → lw.in_script q.plan j lane c ≡ true
anywhere q j lane c may = by c (scripted_as q j lane c may)
  where
    owes_none : (o : Option Entry) → sc.is_owed_commit call.Ask o ≡ true → ⊥
    owes_none None h = cc
    owes_none (Some e) h = cc

    by : (d : Call) → Scripted q j lane d → lw.in_script q.plan j lane d ≡ true
    by d (Seated _ seat) = ours.runs_script q.plan (q.kinds (lane / 2)) j lane d (and_parts (nat_lt lane (2 * q.seats)) _ seat).1
    by d (Ticks ask) =
        let runs = and_parts (not (stopped j lane)) _ (and_parts (nat_lt lane (2 * q.seats)) _ ask).1 in
        and_from _ _ runs.0
        (by_bool (has_halted j lane)
        (λ b. cond b (sc.is_owed_commit call.Ask (last_work j lane)) (sc.allowed q.plan (q.kinds (lane / 2)) (lane % 2 == 0) (last_work j lane) call.Ask) ≡ true
        → cond b (sc.is_owed_commit call.Tick (last_work j lane)) (lw.may_tick (lane % 2 == 0) (last_work j lane) call.Tick || sc.allowed q.plan kind.Single (lane % 2 == 0) (last_work j lane) call.Tick) ≡ true)
        (λ _ m. absurd (owes_none (last_work j lane) m)) (λ _ m. or_left _ _ m) runs.1)

pub entry_lawful : (q : Discipline) → IsDiscipline q → (j : List Entry) (e : Entry) → LegalBy q j → LegalEntryBy q j e → lw.LawfulEntry q.plan j e
entry_lawful q is j e legal entry = record {
  scripted = anywhere q j e.lane e.call entry.scripted;
  told = subst (λ (x : Reply). lw.Told q.plan j e.lane e.call x) (sym entry.replied) (is.told j e.lane e.call legal entry.scripted);
  kept = entry.kept;
}

pub lawful : (q : Discipline) → IsDiscipline q → (j : List Entry) → LegalBy q j → Lawful q.plan j
lawful q is [] legal = tt
lawful q is (e ∷ j) legal = (lawful q is j legal.0, entry_lawful q is j e legal.0 legal.1)
