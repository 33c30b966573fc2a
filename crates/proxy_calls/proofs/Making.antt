-- What a call of a berth's proxy lane makes, by the laws of its core.
use Rattle.std.proofs.Common.{◌≡◌, ℕ, true, List, Option, Result, Ok, Err, ◌<◌}
use Rattle.std.specs.Prelude.{IfOk}
use Rattle.plain_values.specs.declared.no_memory.NoMemory.{NoMemory}
use Rattle.seat_desk.specs.declared.machine.Machine.{Ghosts}
use Rattle.seat_desk.specs.declared.desk.Pass.{Pass}
use Rattle.seat_desk.specs.Passes.{mine, basis, seen}
use Rattle.seat_desk.specs.History.{entry, calls_by, GoesOn, IsReply}
use Rattle.seat_desk.specs.Desks.{Grows}
use Rattle.exec_journal.specs.declared.call.Call.{Call}
use Rattle.exec_journal.specs.declared.call.Call.TheVariants as call
use Rattle.exec_journal.specs.declared.call.Wanted.{Wanted}
use Rattle.exec_journal.specs.declared.reply.Reply.{Reply}
use Rattle.exec_journal.specs.declared.reply.Reply.TheVariants as reply
use Rattle.proxy_words.specs.Told.{reply_for, IsTold}
use Rattle.core_contract.specs.Discipline.{Discipline}
use Rattle.core_contract.specs.Keeps.{Keeps}
use Rattle.core_contract.specs.Ruled.{answer_after}
use Rattle.core_contract.specs.Moves.{History}
use Rattle.core_contract.specs.Laws.{is_short, says_file, fits, Fits, InScript}
use Rattle.core_contract.specs.Duties.{Asks, duty_by, duty_of, may_do, proxy_lane}
use Rattle.proxy_calls.specs.Calls.{IsProxyOf, MakesNone, MakesOne, MayMake}
use Rattle.proxy_calls.specs.Looks.{told_as}
use Rattle.proxy_calls.proofs.Entries.{Called, called, called_paid, keeps}
use Rattle.proxy_calls.proofs.Lookings.{looks_none, looks_told, looks_found}
use Rattle.proxy_calls.proofs.Reportings.{noted_asks, noted_made}

module _ {M G Q : Type 0} {g : Ghosts M Call Reply G Q} (rules : Q → Discipline)
    (law : (q : Q) → Keeps (rules q)) (w : ℕ) (p p' : Pass M Call Reply G Q g) (h : History)
    (of : IsProxyOf rules w p) where
  abbrev rule : Q → History → ℕ → Call → Reply
  rule q = answer_after (rules q)

  abbrev MayBe : History → ℕ → Call → Type 0
  MayBe h n c = says_file (rule (basis p) h n c) ≡ true

  -- the call was answered so at the history h, and the pass goes on
  abbrev IsAnswered : (History → ℕ → Call → Type 0) → Call → Reply → Type 0
  IsAnswered may_be c r = GoesOn p.lane (seen p) h
      × IsReply (rule (basis p)) is_short may_be h p.lane c r
      × Grows keeps p.lane p.seat.me.0 h (entry p.lane c r) p'.seat.me.0

  abbrev Makes : Call → Reply → Type 0
  Makes c r = Called (rule (basis p)) p.lane h (seen p) (mine p) (seen p') (mine p') c r

  -- a call
  pub makes : (c : Call) (r : Reply) → MayMake rules w p c → IsAnswered MayBe c r
      → ((s : Reply) → fits c s ≡ true → says_file s ≡ true → ⊥) → Makes c r
  makes c r may a never = called (rule (basis p)) p.lane w (may_do (rules (basis p)) w) p.seat.me.0
      p'.seat.me.0 c r h a.0 a.2 p.idle.3 of.0 may (λ k. (law (basis p)).replies k p.lane c)
      (λ k. (law (basis p)).proxies_do k w c of.1) a.1 never

  -- a paid call
  pub makes_paid : (c : Call) (r : Reply) → MayMake rules w p c → IsAnswered (λ h n x. ⊥) c r
      → Makes c r
  makes_paid c r may a = called_paid (rule (basis p)) p.lane w (may_do (rules (basis p)) w)
      p.seat.me.0 p'.seat.me.0 c r h a.0 a.2 p.idle.3 of.0 may (λ k. (law (basis p)).replies k p.lane c)
      (λ k. (law (basis p)).proxies_do k w c of.1) a.1

  -- it was answered Noted, and the lane may ask again
  pub reports : (c : Call) (r : Reply) → Makes c r → r ≡ reply.Noted
      → duty_by (duty_of (mine p)) c reply.Noted ≡ Asks
      → MakesOne c reply.Noted p p' × (duty_of (mine p') ≡ Asks)
  reports c r k noted to = (
    noted_made (rule (basis p)) p.lane h (seen p) (mine p) (seen p') (mine p') c r k noted,
    noted_asks (rule (basis p)) p.lane h (seen p) (mine p) (seen p') (mine p') c r k noted to,
  )

  -- ---- a Look
  module _ (x : Wanted) (r : Reply) (may : MayMake rules w p (call.Look x))
      (a : IsAnswered MayBe (call.Look x) r) where
    -- it leaves all as it was
    pub look_none : MakesNone p p'
    look_none = looks_none (rule (basis p)) p.lane w (may_do (rules (basis p)) w) p.seat.me.0
        p'.seat.me.0 x r h a.0 a.1 a.2 p.idle.3 of.0 may (λ k. (law (basis p)).replies k p.lane (call.Look x))
        (λ k. (law (basis p)).proxies_do k w (call.Look x) of.1)

    -- it is answered by the rule
    pub look_told : (o : Option (List ℕ)) → r ≡ reply_for o
        → IsTold (rule (basis p)) p.lane (seen p') (told_as x o)
    look_told o so = looks_told (rule (basis p)) p.lane w (may_do (rules (basis p)) w) p.seat.me.0
        p'.seat.me.0 x r h a.0 a.1 a.2 p.idle.3 of.0 may (λ k. (law (basis p)).replies k p.lane (call.Look x))
        (λ k. (law (basis p)).proxies_do k w (call.Look x) of.1) o so

    -- so it is where what it told was taken from its reply
    pub look_said : (found : Result (Option (List ℕ)) NoMemory) → IfOk found (λ o. r ≡ reply_for o)
        → IfOk found (λ o. IsTold (rule (basis p)) p.lane (seen p') (told_as x o))
    look_said (Ok o) so = look_told o so
    look_said (Err e) so = tt

    -- a file that is there is told
    pub look_found : says_file (rule (basis p) h p.lane (call.Look x)) ≡ true → r ≡ reply.NoFile → ⊥
    look_found there so = looks_found (rule (basis p)) p.lane w (may_do (rules (basis p)) w)
        p.seat.me.0 p'.seat.me.0 x r h a.0 a.1 a.2 p.idle.3 of.0 may
        (λ k. (law (basis p)).replies k p.lane (call.Look x)) (λ k. (law (basis p)).proxies_do k w (call.Look x) of.1)
        there so
