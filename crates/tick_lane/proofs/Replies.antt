-- The replies that a Tick may get.
use Rattle.std.proofs.Common.{◌≡◌, Bool, true, false, refl, sym, ◌∙◌}
use Rattle.exec_journal.specs.declared.reply.Reply.{Reply}
use Rattle.exec_journal.specs.declared.reply.Reply.TheVariants as reply
use Rattle.core_contract.specs.Laws.{says_file, fits_tick}
use Rattle.exec_journal.specs.Idle.{is_idle}

clash : {b : Bool} → b ≡ true → b ≡ false → ⊥
clash e f = absurd (let x : true ≡ false = sym e ∙ f in cc)

tick_no_file : (r : Reply) → fits_tick r ≡ true → says_file r ≡ false
tick_no_file reply.Noted e = refl
tick_no_file reply.Stop e = refl
tick_no_file reply.Idle e = refl
tick_no_file (reply.Launch l a b t) e = absurd (cc)
tick_no_file (reply.Send l n a b t) e = absurd (cc)
tick_no_file (reply.Cancel l n) e = absurd (cc)
tick_no_file (reply.Gather l n a b t x y) e = absurd (cc)
tick_no_file (reply.Kill l y) e = absurd (cc)
tick_no_file (reply.File f) e = absurd (cc)
tick_no_file reply.NoFile e = absurd (cc)
tick_no_file reply.Granted e = absurd (cc)
tick_no_file reply.Lost e = absurd (cc)
tick_no_file reply.Dropped e = absurd (cc)
tick_no_file reply.AgainLater e = absurd (cc)
tick_no_file (reply.Line l) e = absurd (cc)
tick_no_file (reply.Matched a b t) e = absurd (cc)
tick_no_file (reply.Late a b t) e = absurd (cc)
tick_no_file reply.Greeted e = absurd (cc)
tick_no_file (reply.Stray y) e = absurd (cc)
tick_no_file (reply.Breach y) e = absurd (cc)
tick_no_file reply.Astray e = absurd (cc)
tick_no_file reply.NoMemory e = absurd (cc)

pub never_ticked : (r : Reply) → fits_tick r ≡ true → says_file r ≡ true → ⊥
never_ticked r e x = clash x (tick_no_file r e)

-- one that isn't idle is Noted or Stop
pub no_other : (r : Reply) → fits_tick r ≡ true → is_idle r ≡ false → (r ≡ reply.Noted → ⊥)
    → (r ≡ reply.Stop → ⊥) → ⊥
no_other reply.Noted e i noted stop = noted refl
no_other reply.Stop e i noted stop = stop refl
no_other reply.Idle e i noted stop = cc
no_other (reply.Launch l a b t) e i noted stop = cc
no_other (reply.Send l n a b t) e i noted stop = cc
no_other (reply.Cancel l n) e i noted stop = cc
no_other (reply.Gather l n a b t x y) e i noted stop = cc
no_other (reply.Kill l y) e i noted stop = cc
no_other (reply.File f) e i noted stop = cc
no_other reply.NoFile e i noted stop = cc
no_other reply.Granted e i noted stop = cc
no_other reply.Lost e i noted stop = cc
no_other reply.Dropped e i noted stop = cc
no_other reply.AgainLater e i noted stop = cc
no_other (reply.Line l) e i noted stop = cc
no_other (reply.Matched a b t) e i noted stop = cc
no_other (reply.Late a b t) e i noted stop = cc
no_other reply.Greeted e i noted stop = cc
no_other (reply.Stray y) e i noted stop = cc
no_other (reply.Breach y) e i noted stop = cc
no_other reply.Astray e i noted stop = cc
no_other reply.NoMemory e i noted stop = cc
