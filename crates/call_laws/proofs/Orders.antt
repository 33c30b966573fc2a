-- What an order that is answered to an Ask asks of the journal before it.
use Rattle.std.proofs.Common.{◌≡◌, ℕ, ◌/◌, true, false, List, ◌∷◌, Some, None, ◌⊎◌, inl, inr, refl, sym, ◌∙◌, ℤ}
use Rattle.run_plan.specs.declared.plan.Plan.{Plan}
use Rattle.exec_journal.specs.Lawful as lw
use Rattle.exec_journal.specs.declared.attempt.Attempt.{Attempt}
use Rattle.exec_journal.specs.Entry.{Entry}
use Rattle.exec_journal.specs.declared.call.Call.TheVariants as call
use Rattle.exec_journal.specs.declared.reply.Reply.TheVariants as reply
use Rattle.exec_journal.specs.Entries.{Request}
use Rattle.exec_journal.specs.Words.{launch_of, was_sent}
use Rattle.exec_journal.specs.Attempts.{ended}
use Rattle.exec_journal.specs.Settled.{bound, wanted}
use Rattle.exec_journal.specs.Rules as r
use Rattle.exec_journal.specs.Scripts as sc
use Rattle.exec_journal.specs.Lawful.{Lawful}
use Rattle.run_plan.specs.Sound.{Sound}
use Rattle.exec_journal.specs.Facts.{BeginsNext, ContinuesOn}
use Rattle.exec_journal.proofs.Begins.{begin_in_order, bound_is, launched_begun}
use Rattle.journal_laws.proofs.Over as v
use Rattle.journal_laws.proofs.Granted as g
use Rattle.journal_laws.proofs.Offered as of
use Rattle.journal_laws.proofs.Places as pl
use Rattle.call_laws.specs.Moments.{IsSendOf, IsLaunchOf}
use Rattle.call_laws.proofs.Calls as ca

bound_so : (p : Plan) (j : List Entry) (l n : ℕ) (t : Attempt) → launch_of j l ≡ Some (n, t)
    → wanted p j t.action t.branch ≡ true → was_sent j t ≡ false → ended j t ≡ false
    → bound p j l ≡ Some t
unfolding bound
bound_so p j l n t at wish unsent going = rw (at, wish, unsent, going) refl

-- ---- a Send

pub is_send : (p : Plan) (j : List Entry) (lane l : ℕ) (n : ℤ) (t : Attempt) → Sound p → Lawful p j
    → lw.in_script p j lane call.Ask ≡ true → lw.Told p j lane call.Ask (reply.Send l n t.action t.branch t.number)
    → IsSendOf p j l t
is_send p j lane l n t sound legal may is =
    let e : Entry = record {
      lane = lane;
      call = call.Ask;
      reply = reply.Send l n t.action t.branch t.number;
    } in
    let x : Request = record { line = l; number = n; attempt = t } in
    let next : Lawful p (e ∷ j) = (legal, record { scripted = may; told = is; kept = refl }) in
    let new = of.fresh_send p e j x next refl in
    let place = pl.numbered_send p e j x next sound.least refl in
    let wish = g.sends_wanted p j lane call.Ask e.reply x (v.entry_ruled p e j next) refl in
    record {
      unsent = new.unsent;
      group = new.group;
      latest = λ h. (let b = bound_is p j l t h in (g.going_is p j t legal
          (launched_begun j l b.lane t b.launched) b.going).latest);
      fresh = λ none. by none wish (begin_in_order p (e ∷ j) next).1;
      place = place.place;
      room = place.room;
      line = place.line;
      within = ca.send_within p e j x next refl;
    }
  where
    by : bound p j l ≡ None → wanted p j t.action t.branch ≡ true
        → BeginsNext j t ⊎ ContinuesOn j l t → BeginsNext j t
    by none wish (inl next) = next
    by none wish (inr on) = absurd (let some = bound_so p j l on.launched.0 t on.launched.1 wish
        on.unsent on.going in let both : None ≡ Some t = sym none ∙ some in cc)

-- ---- a Launch

pub is_launch : (p : Plan) (j : List Entry) (lane l : ℕ) (t : Attempt) → Sound p → Lawful p j
    → lw.in_script p j lane call.Ask ≡ true → lw.Told p j lane call.Ask (reply.Launch l t.action t.branch t.number)
    → IsLaunchOf p j t
is_launch p j lane l t sound legal may is =
    let e : Entry = record {
      lane = lane;
      call = call.Ask;
      reply = reply.Launch l t.action t.branch t.number;
    } in
    let next : Lawful p (e ∷ j) = (legal, record { scripted = may; told = is; kept = refl }) in
    let new = pl.fresh_launch p e j (l, t) next sound.least refl in
    record { room = new.room; within = ca.launch_within p e j l t next refl }
