-- Which replies a call may get.
use Rattle.std.proofs.Common.{◌≡◌, Bool, true, false, refl, ap, sym, ◌∙◌}
use Rattle.exec_journal.specs.declared.reply.Reply.{Reply}
use Rattle.exec_journal.specs.declared.reply.Reply.TheVariants as reply
use Rattle.exec_journal.specs.Entries.{is_kept}
use Rattle.core_contract.specs.Laws.{says_file, fits_ask, fits_noted, fits_look, fits_claim}
use Rattle.exec_journal.specs.Idle.{is_idle}

-- no two replies are one of which a fact says true and the other false
clash : {b : Bool} → b ≡ true → b ≡ false → ⊥
clash e f = absurd (let x : true ≡ false = sym e ∙ f in cc)

pub is_noted : (r : Reply) → fits_noted r ≡ true → r ≡ reply.Noted
is_noted (reply.Launch l a b t) e = absurd (cc)
is_noted (reply.Send l n a b t) e = absurd (cc)
is_noted (reply.Cancel l n) e = absurd (cc)
is_noted (reply.Gather l n a b t x y) e = absurd (cc)
is_noted (reply.Kill l y) e = absurd (cc)
is_noted reply.Stop e = absurd (cc)
is_noted reply.Idle e = absurd (cc)
is_noted reply.Noted e = refl
is_noted (reply.File f) e = absurd (cc)
is_noted reply.NoFile e = absurd (cc)
is_noted reply.Granted e = absurd (cc)
is_noted reply.Lost e = absurd (cc)
is_noted reply.Dropped e = absurd (cc)
is_noted reply.AgainLater e = absurd (cc)
is_noted (reply.Line l) e = absurd (cc)
is_noted (reply.Matched a b t) e = absurd (cc)
is_noted (reply.Late a b t) e = absurd (cc)
is_noted reply.Greeted e = absurd (cc)
is_noted (reply.Stray y) e = absurd (cc)
is_noted (reply.Breach y) e = absurd (cc)
is_noted reply.Astray e = absurd (cc)
is_noted reply.NoMemory e = absurd (cc)

noted_no_file : (r : Reply) → fits_noted r ≡ true → says_file r ≡ false
noted_no_file r e = ap says_file (is_noted r e)

pub never_noted : (r : Reply) → fits_noted r ≡ true → says_file r ≡ true → ⊥
never_noted r e x = clash x (noted_no_file r e)

ask_no_file : (r : Reply) → fits_ask r ≡ true → says_file r ≡ false
ask_no_file (reply.Launch l a b t) e = refl
ask_no_file (reply.Send l n a b t) e = refl
ask_no_file (reply.Cancel l n) e = refl
ask_no_file (reply.Gather l n a b t x y) e = refl
ask_no_file (reply.Kill l y) e = refl
ask_no_file reply.Stop e = refl
ask_no_file reply.Idle e = refl
ask_no_file reply.Noted e = absurd (cc)
ask_no_file (reply.File f) e = absurd (cc)
ask_no_file reply.NoFile e = absurd (cc)
ask_no_file reply.Granted e = absurd (cc)
ask_no_file reply.Lost e = absurd (cc)
ask_no_file reply.Dropped e = absurd (cc)
ask_no_file reply.AgainLater e = absurd (cc)
ask_no_file (reply.Line l) e = absurd (cc)
ask_no_file (reply.Matched a b t) e = absurd (cc)
ask_no_file (reply.Late a b t) e = absurd (cc)
ask_no_file reply.Greeted e = absurd (cc)
ask_no_file (reply.Stray y) e = absurd (cc)
ask_no_file (reply.Breach y) e = absurd (cc)
ask_no_file reply.Astray e = absurd (cc)
ask_no_file reply.NoMemory e = absurd (cc)

pub never_asked : (r : Reply) → fits_ask r ≡ true → says_file r ≡ true → ⊥
never_asked r e x = clash x (ask_no_file r e)

pub order_is_kept : (r : Reply) → fits_ask r ≡ true → is_idle r ≡ false → is_kept r ≡ true
order_is_kept (reply.Launch l a b t) e i = refl
order_is_kept (reply.Send l n a b t) e i = refl
order_is_kept (reply.Cancel l n) e i = refl
order_is_kept (reply.Gather l n a b t x y) e i = refl
order_is_kept (reply.Kill l y) e i = refl
order_is_kept reply.Stop e i = refl
order_is_kept reply.Idle e i = absurd (cc)
order_is_kept reply.Noted e i = absurd (cc)
order_is_kept (reply.File f) e i = absurd (cc)
order_is_kept reply.NoFile e i = absurd (cc)
order_is_kept reply.Granted e i = absurd (cc)
order_is_kept reply.Lost e i = absurd (cc)
order_is_kept reply.Dropped e i = absurd (cc)
order_is_kept reply.AgainLater e i = absurd (cc)
order_is_kept (reply.Line l) e i = absurd (cc)
order_is_kept (reply.Matched a b t) e i = absurd (cc)
order_is_kept (reply.Late a b t) e i = absurd (cc)
order_is_kept reply.Greeted e i = absurd (cc)
order_is_kept (reply.Stray y) e i = absurd (cc)
order_is_kept (reply.Breach y) e i = absurd (cc)
order_is_kept reply.Astray e i = absurd (cc)
order_is_kept reply.NoMemory e i = absurd (cc)

pub look_not_kept : (r : Reply) → fits_look r ≡ true → is_kept r ≡ false
look_not_kept (reply.Launch l a b t) e = absurd (cc)
look_not_kept (reply.Send l n a b t) e = absurd (cc)
look_not_kept (reply.Cancel l n) e = absurd (cc)
look_not_kept (reply.Gather l n a b t x y) e = absurd (cc)
look_not_kept (reply.Kill l y) e = absurd (cc)
look_not_kept reply.Stop e = absurd (cc)
look_not_kept reply.Idle e = absurd (cc)
look_not_kept reply.Noted e = absurd (cc)
look_not_kept (reply.File f) e = refl
look_not_kept reply.NoFile e = refl
look_not_kept reply.Granted e = absurd (cc)
look_not_kept reply.Lost e = absurd (cc)
look_not_kept reply.Dropped e = absurd (cc)
look_not_kept reply.AgainLater e = absurd (cc)
look_not_kept (reply.Line l) e = absurd (cc)
look_not_kept (reply.Matched a b t) e = absurd (cc)
look_not_kept (reply.Late a b t) e = absurd (cc)
look_not_kept reply.Greeted e = absurd (cc)
look_not_kept (reply.Stray y) e = absurd (cc)
look_not_kept (reply.Breach y) e = absurd (cc)
look_not_kept reply.Astray e = absurd (cc)
look_not_kept reply.NoMemory e = absurd (cc)

claim_no_file : (r : Reply) → fits_claim r ≡ true → says_file r ≡ false
claim_no_file (reply.Launch l a b t) e = absurd (cc)
claim_no_file (reply.Send l n a b t) e = absurd (cc)
claim_no_file (reply.Cancel l n) e = absurd (cc)
claim_no_file (reply.Gather l n a b t x y) e = absurd (cc)
claim_no_file (reply.Kill l y) e = absurd (cc)
claim_no_file reply.Stop e = absurd (cc)
claim_no_file reply.Idle e = absurd (cc)
claim_no_file reply.Noted e = absurd (cc)
claim_no_file (reply.File f) e = absurd (cc)
claim_no_file reply.NoFile e = absurd (cc)
claim_no_file reply.Granted e = refl
claim_no_file reply.Lost e = refl
claim_no_file reply.Dropped e = refl
claim_no_file reply.AgainLater e = refl
claim_no_file (reply.Line l) e = absurd (cc)
claim_no_file (reply.Matched a b t) e = absurd (cc)
claim_no_file (reply.Late a b t) e = absurd (cc)
claim_no_file reply.Greeted e = absurd (cc)
claim_no_file (reply.Stray y) e = absurd (cc)
claim_no_file (reply.Breach y) e = absurd (cc)
claim_no_file reply.Astray e = absurd (cc)
claim_no_file reply.NoMemory e = absurd (cc)

pub never_claimed : (r : Reply) → fits_claim r ≡ true → says_file r ≡ true → ⊥
never_claimed r e x = clash x (claim_no_file r e)

pub claim_is_kept : (r : Reply) → fits_claim r ≡ true → is_kept r ≡ true
claim_is_kept (reply.Launch l a b t) e = absurd (cc)
claim_is_kept (reply.Send l n a b t) e = absurd (cc)
claim_is_kept (reply.Cancel l n) e = absurd (cc)
claim_is_kept (reply.Gather l n a b t x y) e = absurd (cc)
claim_is_kept (reply.Kill l y) e = absurd (cc)
claim_is_kept reply.Stop e = absurd (cc)
claim_is_kept reply.Idle e = absurd (cc)
claim_is_kept reply.Noted e = absurd (cc)
claim_is_kept (reply.File f) e = absurd (cc)
claim_is_kept reply.NoFile e = absurd (cc)
claim_is_kept reply.Granted e = refl
claim_is_kept reply.Lost e = refl
claim_is_kept reply.Dropped e = refl
claim_is_kept reply.AgainLater e = refl
claim_is_kept (reply.Line l) e = absurd (cc)
claim_is_kept (reply.Matched a b t) e = absurd (cc)
claim_is_kept (reply.Late a b t) e = absurd (cc)
claim_is_kept reply.Greeted e = absurd (cc)
claim_is_kept (reply.Stray y) e = absurd (cc)
claim_is_kept (reply.Breach y) e = absurd (cc)
claim_is_kept reply.Astray e = absurd (cc)
claim_is_kept reply.NoMemory e = absurd (cc)
