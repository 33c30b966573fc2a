-- What a Gather makes of what the lane has done so far.
use Rattle.std.proofs.Common.{◌≡◌, ◌⊎◌, inl, inr, ⊎_elim, ℕ, ℤ, Bool, List, [], ◌∷◌, ◌++◌, Some, Result, refl, ap, sym, subst, ◌∙◌, arith, append-nil}
use Rattle.std.specs.Prelude.{slice_get, length, true, false}
use Rattle.seat_desk.specs.declared.machine.Machine.{Ghosts}
use Rattle.seat_desk.specs.declared.desk.Pass.{Pass}
use Rattle.seat_desk.specs.Passes.{mine, basis, seen}
use Rattle.seat_desk.specs.History.{entry, StartsWith}
use Rattle.plain_values.specs.declared.no_memory.NoMemory.{NoMemory}
use Rattle.outside.specs.Told.{BerthTold}
use Rattle.outside.specs.declared.berth.BerthCall.{BerthCall}
use Rattle.exec_journal.specs.declared.attempt.Attempt.{Attempt}
use Rattle.exec_journal.specs.declared.call.Call.{Call}
use Rattle.exec_journal.specs.declared.call.Call.TheVariants as call
use Rattle.exec_journal.specs.declared.call.Found.{Found}
use Rattle.exec_journal.specs.declared.call.Found.TheVariants as found
use Rattle.exec_journal.specs.declared.reply.Reply.{Reply}
use Rattle.exec_journal.specs.declared.reply.Reply.TheVariants as reply
use Rattle.remote_messages.specs.declared.work.WorkAction.{WorkAction}
use Rattle.sandbox_rooms.specs.declared.gathering.Gathered.{Gathered}
use Rattle.sandbox_rooms.specs.declared.gathering.Gathered.TheVariants as gathered
use Rattle.sandbox_rooms.specs.Calls.{Runs, Made}
use Rattle.sandbox_rooms.specs.Rooms.{GatherAsks, gather_end, Leaves}
use Rattle.berth_acts.specs.Acts.{found_as}
use Rattle.core_contract.specs.Discipline.{Discipline}
use Rattle.core_contract.specs.Ruled.{answer_after}
use Rattle.core_contract.specs.Moves.{Past, History}
use Rattle.core_contract.specs.Duties.{Duty, Gathers, duty_of}
use Rattle.run_values.specs.Settings.{Means, speaks_remote}
use Rattle.proxy_words.specs.declared.halt.ProxyHalt.{ProxyHalt}
use Rattle.proxy_words.specs.declared.halt.ProxyHalt.TheVariants as cause
use Rattle.proxy_words.specs.Deeds.{Deed, DeedOf, IsCut, CutBy, FoundIn, look_asks}
use Rattle.proxy_words.specs.Lines.{unsaid_by}
use Rattle.proxy_words.specs.Ends.{HaltsBy, may_halt}
use Rattle.proxy_words.proofs.Growing.{are_told_later, adds_none}
use Rattle.proxy_calls.specs.Calls.{MakesNone}
use Rattle.proxy_calls.specs.Claims.{claim_of}
use Rattle.proxy_laws.specs.Acts.{IsRoomFault, GatherDone, GatherActs}
use Rattle.proxy_laws.specs.Lanes.{LaneObjects, Keeps}
use Rattle.proxy_laws.specs.Steps.{Goes, Halts, HasCommitted, ClaimsFound, IsCauseOfClaim}
use Rattle.proxy_laws.proofs.Holding.{Touches, holds_quiet}
use Rattle.proxy_laws.proofs.Keeping.{touches_quiet, rose_one, keeps_more, halting_more}
use Rattle.proxy_laws.proofs.Sends.{starts_later}

-- ---- looks that all found their outputs

files_cut : (asks : GatherAsks) (fs : List (List ℕ)) (g : Gathered) (calls looks last : List BerthCall)
    → found.Files fs ≡ found_as g → calls ≡ looks ++ last → Runs (gather_end (Result.Ok g)) asks.looks looks
    → Leaves asks.leaves (Result.Ok g) last → CutBy asks calls
files_cut asks fs (gathered.Files gs) calls looks last is split r left = inr (looks, last, split, r, left)
files_cut asks fs (gathered.Missing k) calls looks last is split r left = absurd (cc)
files_cut asks fs gathered.RoomFault calls looks last is split r left = absurd (cc)

found_cut : (remote : Bool) (asks : GatherAsks) (outputs l : ℕ) (n : ℤ) (fs : List (List ℕ)) (d : Deed)
    → FoundIn remote asks outputs l n (found.Files fs) d
    → (d.calls ≡ []) ⊎ CutBy asks d.calls
found_cut true asks outputs l n fs d x = inl x.0
found_cut false asks outputs l n fs d x =
    inr (files_cut asks fs x.1.0 d.calls x.1.1 x.1.2 x.1.3 x.1.4 x.1.5 x.1.7)

module _ {M G Q : Type 0} {g : Ghosts M Call Reply G Q} (means : Means)
    (rules : Q → Discipline) (p p1 p2 : Pass M Call Reply G Q g) (h : LaneObjects) (l : ℕ)
    (n : ℤ) (t : Attempt) (exit : ℤ) (refused : Bool)
    (duty : duty_of (mine p) ≡ Gathers l n t exit refused) (action : WorkAction)
    (of_action : slice_get means.actions t.action ≡ Some action) (none : MakesNone p p1)
    (lane : p1.lane ≡ p.lane) (new : BerthTold) where
  abbrev rule : Q → History → ℕ → Call → Reply
  rule q = answer_after (rules q)

  abbrev then : LaneObjects
  then = record h { berth = new }

  -- the deed of the Claim
  claim_deed : (f : Found) (d : Deed) → d.given ≡ [] → GatherDone means t l n action (Result.Ok f) d
      → DeedOf means (duty_of (mine p)) (claim_of t f) d
  claim_deed f d nothing done =
      subst (λ (s : Duty). DeedOf means s (claim_of t f) d) (sym duty) (record {
        action = action;
        of_action = of_action;
        nothing_given = nothing;
        looked = done;
      })

  touches_claim : (r : Reply) (f : Found) (d : Deed) → Made d.calls (IsRoomFault (Result.Ok f)) h.berth new
      → Touches (entry p.lane (claim_of t f) r) d h.berth new
  touches_claim r (found.Files fs) d m = touches_quiet p.lane r d h.berth new (claim_of t (found.Files fs)) _ refl m
  touches_claim r (found.Exit x) d m = touches_quiet p.lane r d h.berth new (claim_of t (found.Exit x)) _ refl m
  touches_claim r (found.Missing k) d m = touches_quiet p.lane r d h.berth new (claim_of t (found.Missing k)) _ refl m
  touches_claim r found.Refused d m = touches_quiet p.lane r d h.berth new (claim_of t found.Refused) _ refl m
  touches_claim r found.RoomFault d m =
      record { log = m.log; faults = rose_one _ h.berth.faults new.faults m.count tt; same = m.same }

  module _ (first : BerthTold) (k : Keeps (rule (basis p)) p.lane means (mine p) (seen p) first h)
    where
      abbrev q : Q
      q = basis p

      -- the Claim was made
      claimed : (f : Found) (r : Reply) (own : History)
          → GatherActs means t (rule q) p.lane l n action (Result.Ok f) (seen p1) h.berth new
          → StartsWith (seen p2) (seen p1) → own ≡ mine p1 ++ entry p1.lane (claim_of t f) r ∷ []
          → Keeps (rule q) p.lane means own (seen p2) first then
      claimed f r own acts later made =
          keeps_more (rule q) p.lane means (mine p) (seen p) first h k own (seen p2) then
          (entry p.lane (claim_of t f) r) acts.deed
          (made ∙ (λ i. none.1 i ++ entry (lane i) (claim_of t f) r ∷ []))
          (claim_deed f acts.deed acts.nothing_given acts.done)
          (holds_quiet (rule q) p.lane (mine p) k.deeds (seen p) first h k.holds
          (entry p.lane (claim_of t f) r) acts.deed (seen p2)
          (starts_later (seen p) (seen p1) (seen p2) none.0 later)
          (are_told_later (rule q) p.lane (seen p1) (seen p2) later acts.deed.looks acts.told) new
          (touches_claim r f acts.deed acts.berth)
          (record { starts = refl; gives = acts.nothing_given; feeds = λ m. refl })) k.all_said

      -- and, where files were granted, their Committed
      committed : (f : Found) (own : History) → Keeps (rule q) p.lane means own (seen p2) first then
          → HasCommitted t f p1.lane own (mine p2)
          → Keeps (rule q) p.lane means (mine p2) (seen p2) first then
      committed f own k1 did =
          let e : Past = entry p.lane (call.Committed t.action t.branch did.1.0) reply.Noted in
          let d : Deed = record { line = 0; looks = []; calls = []; given = [] } in
          keeps_more (rule q) p.lane means own (seen p2) first then k1 (mine p2) (seen p2) then e d
          (did.1.1 ∙ (λ i. own ++ entry (lane i) (call.Committed t.action t.branch did.1.0) reply.Noted ∷ []))
          (subst (λ (s : Duty). DeedOf means s e.call d) (sym did.0) (refl, refl, refl))
          (holds_quiet (rule q) p.lane own k1.deeds (seen p2) first then k1.holds e d (seen p2)
          ([], sym (append-nil (seen p2))) tt new
          (record { log = adds_none new.log [] refl; faults = omega arith; same = refl })
          (record { starts = refl; gives = refl; feeds = λ m. refl })) k1.all_said

  pub gather_goes : (f : Found)
      → GatherActs means t (rule (basis p)) p.lane l n action (Result.Ok f) (seen p1) h.berth new
      → ClaimsFound t f p1 p2 → Goes means rules p h p2 then
  gather_goes f acts claims = λ first k.
      let c = claims.1 in
      let k1 = claimed first k f c.0 c.1 acts claims.0 c.2 in
      ⊎_elim
      (λ is. subst (λ (x : History). Keeps (rule (basis p)) p.lane means x (seen p2) first then)
      (sym is) k1)
      (λ did. committed first k f c.1 k1 did) c.3

  -- ---- no memory

  cut : (d : Deed) → d.given ≡ [] → (d.calls ≡ []) ⊎ CutBy (look_asks means t n action) d.calls
      → HaltsBy means cause.NoMemory (duty_of (mine p)) d
  cut d nothing x = subst (λ (s : Duty). IsCut means s d) (sym duty)
      (nothing, ⊎_elim (λ is. inl is) (λ runs. inr (action, of_action, runs)) x)

  halts : (result : Result Found NoMemory) (by : ProxyHalt)
      → GatherActs means t (rule (basis p)) p.lane l n action result (seen p1) h.berth new
      → MakesNone p1 p2 → ((d : Deed) → d.given ≡ [] → GatherDone means t l n action result d
      → HaltsBy means by (duty_of (mine p)) d) → unsaid_by (Some by) ≡ []
      → Halts means rules by p h p2 then
  halts result by acts no_entry did not_launched = λ first k.
      halting_more (rule (basis p)) p.lane means (mine p) (seen p) first h k by (mine p2) (seen p2)
      then acts.deed (no_entry.1 ∙ none.1) (did acts.deed acts.nothing_given acts.done)
      (holds_quiet (rule (basis p)) p.lane (mine p) k.deeds (seen p) first h k.holds
      (entry p.lane call.Halt reply.Noted) acts.deed (seen p2)
      (starts_later (seen p) (seen p1) (seen p2) none.0 no_entry.0)
      (are_told_later (rule (basis p)) p.lane (seen p1) (seen p2) no_entry.0 acts.deed.looks acts.told) new
      (touches_quiet p.lane reply.Noted acts.deed h.berth new call.Halt (IsRoomFault result) refl acts.berth)
      (record { starts = refl; gives = acts.nothing_given; feeds = λ m. refl }))
      k.all_said not_launched

  pub gather_cut : (e : NoMemory) → GatherActs means t (rule (basis p)) p.lane l n action (Result.Err e) (seen p1) h.berth new
      → MakesNone p1 p2 → Halts means rules cause.NoMemory p h p2 then
  gather_cut e acts no_entry = halts (Result.Err e) cause.NoMemory acts no_entry cut refl

  pub claim_halts : (f : Found) (by : ProxyHalt)
      → GatherActs means t (rule (basis p)) p.lane l n action (Result.Ok f) (seen p1) h.berth new
      → MakesNone p1 p2 → IsCauseOfClaim t f by → Halts means rules by p h p2 then
  claim_halts f cause.NoMemory acts no_entry why = halts (Result.Ok f) cause.NoMemory acts no_entry
      (λ d nothing done. cut d nothing (found_cut (speaks_remote means.speech) (look_asks means t n action)
      (length action.outputs) l n why.0 d
      (subst (λ (x : Found). GatherDone means t l n action (Result.Ok x) d) why.1 done))) refl
  claim_halts f (cause.Refused c) acts no_entry why = halts (Result.Ok f) (cause.Refused c) acts no_entry
      (λ d nothing done. (
        ap may_halt duty,
        subst (λ (x : Call). DeedOf means (duty_of (mine p)) x d) (sym why)
            (claim_deed f d nothing done),
      ))
      (ap (λ (x : Call). unsaid_by (Some (cause.Refused x))) why)
