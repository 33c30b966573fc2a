-- Round after round, to the lane's end.
use Rattle.std.proofs.Common.{◌≡◌, ℕ, ◌/◌, [], Option, Some, None, ◌<◌, refl, ap, sym, subst, ◌∙◌}
use Rattle.std.specs.Prelude.{true}
use Rattle.seat_desk.specs.declared.machine.Machine.{Ghosts}
use Rattle.seat_desk.specs.declared.desk.Pass.{Pass}
use Rattle.seat_desk.specs.Passes.{IsSamePass, mine, basis, seen}
use Rattle.outside.specs.Told.{BerthTold}
use Rattle.exec_journal.specs.declared.call.Call.{Call}
use Rattle.exec_journal.specs.declared.call.Call.TheVariants as call
use Rattle.exec_journal.specs.declared.reply.Reply.{Reply}
use Rattle.exec_journal.specs.declared.reply.Reply.TheVariants as reply
use Rattle.core_contract.specs.Ruled.{answer_after}
use Rattle.core_contract.specs.Discipline.{Discipline}
use Rattle.core_contract.specs.Moves.{History}
use Rattle.core_contract.specs.Shelf.{child_at}
use Rattle.core_contract.specs.Duties.{Left, duty_of}
use Rattle.run_values.specs.Settings.{Means}
use Rattle.proxy_words.specs.declared.halt.ProxyHalt.{ProxyHalt}
use Rattle.proxy_words.specs.Ends.{may_halt}
use Rattle.proxy_calls.specs.Calls.{MakesOne, IsProxyOf}
use Rattle.proxy_laws.specs.Lanes.{LaneObjects, open_line, Keeps, Halting}
use Rattle.proxy_laws.specs.Steps.{Goes, SomeKeeps, Halts, AreLaidBy, Ended, Finishes, IsServedBy}
use Rattle.proxy_laws.proofs.Holding.{holds_first}
use Rattle.proxy_laws.proofs.Ending.{halt_may, halted_ends, stopped_ends}

module _ {M G Q : Type 0} {g : Ghosts M Call Reply G Q} (means : Means)
    (rules : Q → Discipline) (p p1 p2 : Pass M Call Reply G Q g) (h h1 h2 : LaneObjects)
    (same : IsSamePass p p1) where
  abbrev rule : Q → History → ℕ → Call → Reply
  rule q = answer_after (rules q)

  -- what is said by the rules and the lane of the one pass is said by those of the other
  to_first : (F : (History → ℕ → Call → Reply) → ℕ → Type 0) → F (rule (basis p1)) p1.lane
      → F (rule (basis p)) p.lane
  to_first F x = subst (λ (q : Q). F (rule q) p.lane) same.2 (subst (λ (n : ℕ). F (rule (basis p1)) n) same.1 x)

  to_second : (F : (History → ℕ → Call → Reply) → ℕ → Type 0) → F (rule (basis p)) p.lane
      → F (rule (basis p1)) p1.lane
  to_second F x = subst (λ (n : ℕ). F (rule (basis p1)) n) (sym same.1)
      (subst (λ (q : Q). F (rule q) p.lane) (sym same.2) x)

  pub goes_on : Goes means rules p h p1 h1 → Goes means rules p1 h1 p2 h2
      → Goes means rules p h p2 h2
  goes_on x y = λ first k. to_first (λ r n. Keeps r n means (mine p2) (seen p2) first h2)
      (y first (to_second (λ r n. Keeps r n means (mine p1) (seen p1) first h1) (x first k)))

  pub halts_on : (by : ProxyHalt) → Goes means rules p h p1 h1 → Halts means rules by p1 h1 p2 h2
      → Halts means rules by p h p2 h2
  halts_on by x y = λ first k.
      to_first (λ r n. Halting r n means by (mine p2) (seen p2) first h2)
      (y first (to_second (λ r n. Keeps r n means (mine p1) (seen p1) first h1) (x first k)))

  pub some_on : SomeKeeps means rules p h → Goes means rules p h p1 h1
      → SomeKeeps means rules p1 h1
  some_on s x = (
    s.0,
    to_second (λ r n. Keeps r n means (mine p1) (seen p1) s.0 h1) (x s.0 s.1),
  )

  -- ---- ends

  pub ends_halted : (by : ProxyHalt) (o : Option ℕ) → Halts means rules by p h p1 h1
      → open_line h1.opened ≡ o → child_at (p1.lane / 2) (mine p1) ≡ o
      → MakesOne call.Halt reply.Noted p1 p2 → AreLaidBy o h1 h2
      → Finishes means rules (Some by) p h p2 h2
  ends_halted by o x is at made laid = λ first k.
      to_first (λ r n. Ended means r n (mine p2) (seen p2) first h2.berth h2.ended h2.unsaid (Some by))
      (halted_ends means rules p1 p2 h1 h2 by first o
      (to_second (λ r n. Halting r n means by (mine p1) (seen p1) first h1) (x first k)) is at made laid)

  pub ends_stopped : Goes means rules p h p1 h1 → duty_of (mine p1) ≡ Left → h1.opened ≡ None
      → Finishes means rules None p h p1 h1
  ends_stopped x left none = λ first k.
      stopped_ends (rule (basis p)) p.lane means (mine p1) (seen p1) first h1 (x first k) left
      (ap open_line none)

  pub halts_may : (by : ProxyHalt) → SomeKeeps means rules p h → Halts means rules by p h p1 h1
      → may_halt (duty_of (mine p1)) ≡ true
  halts_may by s x = let y = x s.0 s.1 in halt_may means by (duty_of (mine p1)) y.last y.halts

-- before the lane's first call
pub first_keeps : {M G Q : Type 0} {g : Ghosts M Call Reply G Q} (means : Means) (rules : Q → Discipline)
    (p : Pass M Call Reply G Q g) (b : BerthTold) → mine p ≡ []
    → Keeps (answer_after (rules (basis p))) p.lane means (mine p) (seen p) b
    (record { berth = b; opened = None; ended = []; unsaid = None })
first_keeps means rules p b fresh =
    subst (λ (own : History). Keeps (answer_after (rules (basis p))) p.lane means own (seen p) b
    (record { berth = b; opened = None; ended = []; unsaid = None })) (sym fresh) (record {
      deeds = [];
      acts = refl;
      holds = holds_first (answer_after (rules (basis p))) p.lane (seen p) b;
      all_said = refl;
    })

-- after its last
pub served_by : {M G Q : Type 0} {g : Ghosts M Call Reply G Q} (means : Means) (rules : Q → Discipline)
    (p p2 : Pass M Call Reply G Q g) (b : BerthTold) (h2 : LaneObjects) (halted : Option ProxyHalt)
    → IsSamePass p p2 → mine p ≡ []
    → Finishes means rules halted p (record { berth = b; opened = None; ended = []; unsaid = None })
    p2 h2 → IsServedBy means rules b h2.berth h2.ended h2.unsaid halted p2
served_by means rules p p2 b h2 halted same fresh x =
    to_second means rules p p2 p2 h2 h2 h2 same
    (λ r n. Ended means r n (mine p2) (seen p2) b h2.berth h2.ended h2.unsaid halted)
    (x b (first_keeps means rules p b fresh))

-- ---- a pass

-- what holds of a pass holds of it later
pub proxy_on : {M G Q : Type 0} {g : Ghosts M Call Reply G Q} (rules : Q → Discipline) (w : ℕ)
    (p p' : Pass M Call Reply G Q g) → IsSamePass p p' → IsProxyOf rules w p → IsProxyOf rules w p'
proxy_on {M} {G} {Q} rules w p p' same x =
    (same.1 ∙ x.0, subst (λ (q : Q). w < (rules q).seats) (sym same.2) x.1)

pub by_rules : {M G Q : Type 0} {g : Ghosts M Call Reply G Q} (F : Q → Type 0)
    (p p' : Pass M Call Reply G Q g) → IsSamePass p p' → F (basis p) → F (basis p')
by_rules {M} {G} {Q} F p p' same x = subst F (sym same.2) x
