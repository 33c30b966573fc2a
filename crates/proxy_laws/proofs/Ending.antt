-- How the lane ends: told to stop, or halted, or with a line's end on the way.
use Rattle.std.proofs.Common.{◌≡◌, ℕ, ◌/◌, ◌≤◌, List, [], ◌∷◌, ◌++◌, Option, Some, None, refl, ap, sym, subst, ◌∙◌, append-nil, arith}
use Rattle.std.specs.Prelude.{true}
use Rattle.seat_desk.specs.declared.machine.Machine.{Ghosts}
use Rattle.seat_desk.specs.declared.desk.Pass.{Pass}
use Rattle.seat_desk.specs.Passes.{mine, basis, seen}
use Rattle.seat_desk.specs.History.{entry, StartsWith}
use Rattle.outside.specs.Told.{BerthTold}
use Rattle.outside.specs.declared.berth.BerthCall.TheVariants as berth
use Rattle.exec_journal.specs.declared.call.Call.{Call}
use Rattle.exec_journal.specs.declared.call.Call.TheVariants as call
use Rattle.exec_journal.specs.declared.reply.Reply.{Reply}
use Rattle.exec_journal.specs.declared.reply.Reply.TheVariants as reply
use Rattle.core_contract.specs.Discipline.{Discipline}
use Rattle.core_contract.specs.Ruled.{answer_after}
use Rattle.core_contract.specs.Moves.{Past, History}
use Rattle.core_contract.specs.Shelf.{child_at}
use Rattle.core_contract.specs.Duties.{Duty, Asks, Launches, Sends, Cancels, Gathers, Commits, Kills, Left, duty_of}
use Rattle.run_values.specs.Settings.{Means}
use Rattle.proxy_words.specs.declared.halt.ProxyHalt.{ProxyHalt}
use Rattle.proxy_words.specs.declared.halt.ProxyHalt.TheVariants as cause
use Rattle.proxy_words.specs.Deeds.{Deed, DeedOf, with_end, with_ends}
use Rattle.proxy_words.specs.Lines.{Returned, EndsLine, RoseBy, feed_fault, room_fault, AreBack, started_by, lines_of, listed, unsaid_by}
use Rattle.proxy_words.specs.Ends.{HaltsBy, lines_to_end, may_halt}
use Rattle.proxy_words.proofs.Growing.{all_told_later, adds_none, with_ends_on}
use Rattle.proxy_calls.specs.Calls.{MakesNone, MakesOne}
use Rattle.proxy_laws.specs.Lanes.{LaneObjects, open_line, Holds, Keeps, Halting}
use Rattle.proxy_laws.specs.Steps.{Goes, Halts, IsLaidBy, AreLaidBy, Ended}
use Rattle.proxy_laws.proofs.Holding.{Touches, holds_ended, holds_quiet, holds_laid}
use Rattle.proxy_laws.proofs.Keeping.{keeps_more, halting_more}

-- where the lane halts it may
pub halt_may : (means : Means) (by : ProxyHalt) (s : Duty) (d : Deed)
    → HaltsBy means by s d → may_halt s ≡ true
halt_may means (cause.Refused c) s d x = x.0
halt_may means cause.NoMemory Asks d x = refl
halt_may means cause.NoMemory (Launches l t) d x = refl
halt_may means cause.NoMemory (Sends l n t) d x = refl
halt_may means cause.NoMemory (Cancels l n) d x = refl
halt_may means cause.NoMemory (Gathers l n t e r) d x = refl
halt_may means cause.NoMemory (Commits a b fs) d x = absurd x.1
halt_may means cause.NoMemory (Kills l) d x = refl
halt_may means cause.NoMemory Left d x = absurd x.1

abbrev pub nothing : Deed
nothing = record { line = 0; looks = []; calls = []; given = [] }

pub touches_none : (e : Past) (b : BerthTold) → room_fault e.call ≡ 0 → Touches e nothing b b
touches_none e b none = record {
  log = adds_none b.log [] refl;
  faults = subst (λ (n : ℕ). RoseBy n b.faults b.faults) (sym none) (omega arith);
  same = refl;
}

-- ---- the open line was laid by

-- before the berth has ended it
abbrev laid : LaneObjects → Returned → LaneObjects
laid h back = record h { opened = None; ended = h.ended ++ back ∷ [] }

laid_is : (l : ℕ) (h h' : LaneObjects) (x : IsLaidBy l h h')
    → h' ≡ record (laid h x.back) { berth = h'.berth }
laid_is l h h' x = λ i. record {
  berth = h'.berth;
  opened = x.rest.0 i;
  ended = x.ended i;
  unsaid = x.rest.1 i;
}

module _ (rule : History → ℕ → Call → Reply) (lane : ℕ) (own : History) (ds : List Deed)
    (seen : History) (first : BerthTold) (h h' : LaneObjects) where
  pub laid_holds : (l : ℕ) → Holds rule lane own ds seen first h → (x : IsLaidBy l h h')
      → Holds rule lane own ds seen first (laid h x.back)
  laid_holds l k x = holds_laid rule lane own ds seen first h k x.was_open x.was x.back x.is_back

  -- what came of all lines
  pub lines_back : Holds rule lane own ds seen first h → open_line h.opened ≡ None
      → (halted : Option ProxyHalt) → lines_of (listed h.unsaid) ≡ unsaid_by halted
      → AreBack own ds halted h.ended h.unsaid
  lines_back k none halted said = record {
    lines = sym (append-nil (lines_of h.ended))
        ∙ (ap (λ (o : Option ℕ). lines_of h.ended ++ listed o) (sym none) ∙ k.lines);
    each = k.ended;
    last = said;
    also = k.unsaid;
  }

-- every line that was open was ended, behind the last deed
module _ (rule : History → ℕ → Call → Reply) (lane : ℕ) (own : History) (ds : List Deed) (d : Deed)
    (seen : History) (first : BerthTold) (h h' : LaneObjects) where
  pub all_laid : (o : Option ℕ) → open_line h.opened ≡ o
      → Holds rule lane own (ds ++ d ∷ []) seen first h → AreLaidBy o h h'
      → Holds rule lane own (ds ++ with_ends (listed o) d ∷ []) seen first h'
      × (open_line h'.opened ≡ None)
  all_laid None is k x = (
    subst (λ (y : LaneObjects). Holds rule lane own (ds ++ d ∷ []) seen first y) (sym x) k,
    ap (λ (y : LaneObjects). open_line y.opened) x ∙ is,
  )
  all_laid (Some l) is k x = (
    subst (λ (y : LaneObjects). Holds rule lane own (ds ++ with_end l d ∷ []) seen first y)
        (sym (laid_is l h h' x))
        (holds_ended rule lane own ds d l seen first (laid h x.back)
        (laid_holds rule lane own (ds ++ d ∷ []) seen first h h' l k x) h'.berth x.by_berth),
    ap open_line x.rest.0,
  )

-- ---- a Kill

abbrev pub end_deed : ℕ → Deed
end_deed l = record { line = 0; looks = []; calls = berth.End l ∷ []; given = [] }

rose_over : (old new : ℕ) → old ≤ new → RoseBy 0 old new
rose_over old new later = omega arith

pub touches_end : (e : Past) (l : ℕ) (old new : BerthTold) → room_fault e.call ≡ 0
    → EndsLine l old new → Touches e (end_deed l) old new
touches_end e l old new none x = record {
  log = x.log;
  faults = subst (λ (n : ℕ). RoseBy n old.faults new.faults) (sym none)
      (rose_over old.faults new.faults x.later);
  same = x.same;
}

module _ {M G Q : Type 0} {g : Ghosts M Call Reply G Q} (means : Means)
    (rules : Q → Discipline) (p p2 : Pass M Call Reply G Q g) (h h' : LaneObjects) where
  abbrev rule : Q → History → ℕ → Call → Reply
  rule q = answer_after (rules q)

  module _ (l : ℕ) (duty : duty_of (mine p) ≡ Kills l) (laid_by : IsLaidBy l h h') where
    said_none : (first : BerthTold)
        (k : Keeps (rule (basis p)) p.lane means (mine p) (seen p) first h) → h'.unsaid ≡ None
    said_none first k = laid_by.rest.1 ∙ k.all_said

    -- behind an entry that starts no line and tells no fault
    ended_holds : (e : Past) → started_by e.call ≡ [] → ((m : ℕ) → feed_fault m e.call ≡ 0)
        → room_fault e.call ≡ 0 → StartsWith (seen p2) (seen p) → (first : BerthTold)
        (k : Keeps (rule (basis p)) p.lane means (mine p) (seen p) first h)
        → Holds (rule (basis p)) p.lane (mine p ++ e ∷ []) (k.deeds ++ end_deed l ∷ []) (seen p2)
        first h'
    ended_holds e starts feeds room more first k =
        let q = basis p in
        let d : Deed = end_deed l in
        let k' = laid_holds (rule q) p.lane (mine p) k.deeds (seen p) first h h' l k.holds laid_by in
        subst (λ (y : LaneObjects). Holds (rule q) p.lane (mine p ++ e ∷ []) (k.deeds ++ d ∷ []) (seen p2)
        first y) (sym (laid_is l h h' laid_by))
        (holds_quiet (rule q) p.lane (mine p) k.deeds (seen p) first (laid h laid_by.back) k' e d
        (seen p2) more tt h'.berth (touches_end e l h.berth h'.berth room laid_by.by_berth)
        (record { starts = starts; gives = refl; feeds = feeds }))

    pub kill_goes : MakesOne (call.Killed l) reply.Noted p p2 → Goes means rules p h p2 h'
    kill_goes told = λ first k.
        let e : Past = entry p.lane (call.Killed l) reply.Noted in
        let d : Deed = end_deed l in
        keeps_more (rule (basis p)) p.lane means (mine p) (seen p) first h k (mine p2) (seen p2)
        h' e d told.1
        (subst (λ (s : Duty). DeedOf means s e.call d) (sym duty) (refl, refl, refl))
        (ended_holds e refl (λ m. refl) refl told.0 first k) (said_none first k)

    pub kill_halts : (by : ProxyHalt) → MakesNone p p2 → by ≡ cause.Refused (call.Killed l)
        → Halts means rules by p h p2 h'
    kill_halts by no_entry why = λ first k.
        let e : Past = entry p.lane call.Halt reply.Noted in
        let d : Deed = end_deed l in
        halting_more (rule (basis p)) p.lane means (mine p) (seen p) first h k by (mine p2)
        (seen p2) h' d no_entry.1
        (subst (λ (x : ProxyHalt). HaltsBy means x (duty_of (mine p)) d) (sym why) (
          ap may_halt duty,
          subst (λ (s : Duty). DeedOf means s (call.Killed l) d) (sym duty) (refl, refl, refl),
        ))
        (ended_holds e refl (λ m. refl) refl no_entry.0 first k) (said_none first k)
        (ap (λ (x : ProxyHalt). unsaid_by (Some x)) why)

  -- ---- a Halt

  pub halted_ends : (by : ProxyHalt) (first : BerthTold) (o : Option ℕ)
      → Halting (rule (basis p)) p.lane means by (mine p) (seen p) first h
      → open_line h.opened ≡ o → child_at (p.lane / 2) (mine p) ≡ o
      → MakesOne call.Halt reply.Noted p p2 → AreLaidBy o h h'
      → Ended means (rule (basis p)) p.lane (mine p2) (seen p2) first h'.berth h'.ended h'.unsaid
      (Some by)
  halted_ends by first o x is at made laid_by =
      let own : History = mine p ++ entry p.lane call.Halt reply.Noted ∷ [] in
      let unsaid = unsaid_by (Some by) in
      let q = basis p in
      let done : Deed = with_ends (lines_to_end p.lane by (mine p)) x.last in
      let same_deed : with_ends (listed o) (with_ends unsaid x.last) ≡ done =
      sym (ap (λ (c : Option ℕ). with_ends (unsaid ++ listed c) x.last) at
      ∙ with_ends_on unsaid (listed o) x.last) in
      let all = all_laid (rule q) p.lane own x.deeds (with_ends unsaid x.last) (seen p) first h h' o is
      x.holds laid_by in
      let k = subst (λ (d : Deed). Holds (rule q) p.lane own (x.deeds ++ d ∷ []) (seen p) first h')
      same_deed all.0 in
      let ds = x.deeds ++ done ∷ [] in
      let said : lines_of (listed h'.unsaid) ≡ unsaid =
      ap (λ (u : Option Returned). lines_of (listed u)) (same_unsaid o laid_by) ∙ x.said in
      subst (λ (m : History). Ended means (rule q) p.lane m (seen p2) first h'.berth h'.ended
      h'.unsaid (Some by)) (sym made.1) (record {
        deeds = ds;
        ends = record {
          before = mine p;
          done = x.deeds;
          last = x.last;
          made = refl;
          did = refl;
          acts = x.acts;
          halts = x.halts;
        };
        told = all_told_later (rule q) p.lane (seen p) (seen p2) made.0 ds k.told;
        berth = k.berth;
        lines = lines_back (rule q) p.lane own ds (seen p) first h' h' k all.1 (Some by) said;
      })
    where
      same_unsaid : (o : Option ℕ) → AreLaidBy o h h' → h'.unsaid ≡ h.unsaid
      same_unsaid None y = ap (λ (z : LaneObjects). z.unsaid) y
      same_unsaid (Some l) y = y.rest.1

-- ---- Stop

pub stopped_ends : (rule : History → ℕ → Call → Reply) (lane : ℕ) (means : Means) (own seen : History) (first : BerthTold) (h : LaneObjects)
    → Keeps rule lane means own seen first h → duty_of own ≡ Left → open_line h.opened ≡ None
    → Ended means rule lane own seen first h.berth h.ended h.unsaid None
stopped_ends rule lane means own seen first h k left none = record {
  deeds = k.deeds;
  ends = record { acts = k.acts; left = left };
  told = k.holds.told;
  berth = k.holds.berth;
  lines = lines_back rule lane own k.deeds seen first h h k.holds none None
      (ap (λ (u : Option Returned). lines_of (listed u)) k.all_said);
}
