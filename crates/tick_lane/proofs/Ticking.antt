-- What a Tick makes.
use Rattle.std.proofs.Common.{◌≡◌, ℕ, ◌<◌, Bool, true, [], ◌∷◌, ◌++◌, refl, ap, sym, subst, ◌∙◌}
use Rattle.seat_desk.specs.declared.machine.Machine.{Ghosts}
use Rattle.seat_desk.specs.declared.desk.Pass.{Pass}
use Rattle.seat_desk.specs.Passes.{IsSamePass, mine, basis, seen}
use Rattle.seat_desk.specs.History.{entry, calls_by, GoesOn, IsReply}
use Rattle.seat_desk.specs.Desks.{Grows}
use Rattle.exec_journal.specs.declared.call.Call.{Call}
use Rattle.exec_journal.specs.declared.call.Call.TheVariants as call
use Rattle.exec_journal.specs.declared.reply.Reply.{Reply}
use Rattle.exec_journal.specs.Entries.{is_kept}
use Rattle.core_contract.specs.Discipline.{Discipline}
use Rattle.core_contract.specs.Keeps.{Keeps}
use Rattle.core_contract.specs.Ruled.{answer_after}
use Rattle.core_contract.specs.Moves.{History}
use Rattle.core_contract.specs.Laws.{InScript, is_short, says_file, Fits}
use Rattle.core_contract.specs.Duties.{Duty, Asks, Launches, Sends, Cancels, Gathers, Commits, Kills, Left, duty_of, may_besides, proxy_lane}
use Rattle.proxy_calls.specs.Calls.{MakesOne}
use Rattle.proxy_calls.proofs.Entries.{Called, called, keeps, made, grew}
use Rattle.tick_lane.specs.Ticks.{IsTicker}
use Rattle.tick_lane.proofs.Replies.{never_ticked}

-- only a lane that owes nothing may make a Tick
asks_only : (s : Duty) → may_besides s call.Tick ≡ true → s ≡ Asks
asks_only Asks e = refl
asks_only (Launches l t) e = absurd (cc)
asks_only (Sends l n t) e = absurd (cc)
asks_only (Cancels l n) e = absurd (cc)
asks_only (Gathers l n t x y) e = absurd (cc)
asks_only (Commits a b fs) e = absurd (cc)
asks_only (Kills l) e = absurd (cc)
asks_only Left e = absurd (cc)

module _ {M G Q : Type 0} {g : Ghosts M Call Reply G Q} (rules : Q → Discipline)
    (law : (q : Q) → Keeps (rules q)) (w : ℕ) (p p' : Pass M Call Reply G Q g) where
  abbrev rule : Q → History → ℕ → Call → Reply
  rule q = answer_after (rules q)

  -- a lane that makes Ticks is one still
  pub still_ticker : IsSamePass p p' → IsTicker rules w p → IsTicker rules w p'
  still_ticker same is = record {
    proxy = (
      same.1 ∙ is.proxy.0,
      subst (λ (q : Q). w < (rules q).seats) (sym same.2) is.proxy.1,
    );
    makes = subst (λ (q : Q). (rules q).ticks (proxy_lane w) ≡ true) (sym same.2) is.makes;
  }

  abbrev Makes : History → Reply → Type 0
  Makes h r = Called (rule (basis p)) p.lane h (seen p) (mine p) (seen p') (mine p') call.Tick r

  -- a Tick that was answered so
  pub ticked : IsTicker rules w p → duty_of (mine p) ≡ Asks → (h : History) (r : Reply)
      → GoesOn p.lane (seen p) h
      × IsReply (rule (basis p)) is_short (λ k n x. says_file (rule (basis p) k n x) ≡ true) h
      p.lane call.Tick r
      × Grows keeps p.lane p.seat.me.0 h (entry p.lane call.Tick r) p'.seat.me.0
      → Makes h r
  ticked of asks h r a =
      called (rule (basis p)) p.lane w may_besides p.seat.me.0 p'.seat.me.0 call.Tick r h a.0 a.2
      p.idle.3 of.proxy.0 (ap (λ (s : Duty). may_besides s call.Tick) asks)
      (λ k. (law (basis p)).replies k p.lane call.Tick)
      (λ k may. (law (basis p)).tickers_may_tick k w of.proxy.1 of.makes
      (asks_only (duty_of (calls_by (proxy_lane w) k)) may)) a.1 never_ticked

  -- its entry, where that is kept
  pub makes_tick : (h : History) (r s : Reply) → Makes h r → r ≡ s → is_kept s ≡ true
      → MakesOne call.Tick s p p'
  makes_tick h r s k is kept = (
    grew (rule (basis p)) p.lane h (seen p) (mine p) (seen p') (mine p') call.Tick r s k is kept,
    made (rule (basis p)) p.lane h (seen p) (mine p) (seen p') (mine p') call.Tick r s k is kept,
  )

  -- what it leaves, by the number and the reply that are known
  pub tick_made : (lane : ℕ) (r s : Reply) → p.lane ≡ lane → r ≡ s → MakesOne call.Tick r p p'
      → mine p' ≡ mine p ++ entry lane call.Tick s ∷ []
  tick_made lane r s at is one =
      one.1 ∙ (ap (λ (n : ℕ). mine p ++ entry n call.Tick r ∷ []) at
      ∙ ap (λ (x : Reply). mine p ++ entry lane call.Tick x ∷ []) is)

module _ {M G Q : Type 0} {g : Ghosts M Call Reply G Q} where
  pub same_then : (p p' p'' : Pass M Call Reply G Q g) → IsSamePass p p' → IsSamePass p' p''
      → IsSamePass p p''
  same_then p p' p'' first second =
      (second.0 ∙ first.0, second.1 ∙ first.1, second.2 ∙ first.2)
