-- Whose the entries are, and what the leavings of lanes say of theirs.
use Rattle.std.proofs.Common.{◌≡◌, ℕ, ◌*◌, ◌/◌, ◌<◌, Bool, true, false, ◌&&◌, ◌||◌, List, [], ◌∷◌, ◌++◌, map, Option, Some, None, refl, ap, sym, subst, ◌∙◌, append_assoc, append-nil, arith, All}
use Rattle.std.specs.List.{fold, list_any}
use Rattle.std.proofs.lemmas.List.{map-append}
use Rattle.std.proofs.lemmas.List.Elements.{All-nil, All-push}
use Rattle.std.proofs.Math.Nat.{div-add-mod}
use Rattle.seat_desk.specs.History.{entry}
use Rattle.outside.specs.Told.{TapTold}
use Rattle.run_plan.specs.declared.plan.Branch.{Branch}
use Rattle.run_plan.specs.declared.plan.Speech.{Speech}
use Rattle.exec_journal.specs.declared.call.Answer.{Answer}
use Rattle.exec_journal.specs.declared.call.Call.{Call}
use Rattle.exec_journal.specs.declared.call.Call.TheVariants as call
use Rattle.exec_journal.specs.declared.call.HowEnded.{HowEnded}
use Rattle.exec_journal.specs.declared.call.Wanted.{Wanted}
use Rattle.exec_journal.specs.declared.call.Found.{Found}
use Rattle.exec_journal.specs.declared.call.Found.TheVariants as found
use Rattle.exec_journal.specs.declared.reply.Reply.{Reply}
use Rattle.exec_journal.specs.declared.reply.Reply.TheVariants as reply
use Rattle.exec_journal.specs.Entries.{is_kept, is_halt, is_look}
use Rattle.core_contract.specs.Ruled.{CameAbout, answer_after}
use Rattle.core_contract.specs.Keeps.{Keeps}
use Rattle.core_contract.specs.Discipline.{Discipline}
use Rattle.core_contract.specs.Moves.{Past, History}
use Rattle.core_contract.specs.Laws.{Fits, InScript}
use Rattle.core_contract.specs.Duties.{Duty, Asks, Commits, Left, ordered, duty_of_claim, duty_by_call, duty_from, duty_by, duty_then, duty_of}
use Rattle.tap_lane.specs.declared.ends.TapHalt.{TapHalt}
use Rattle.tap_lane.specs.declared.ends.TapHalt.TheVariants as want
use Rattle.tap_lane.specs.Heard.{AreAnswers}
use Rattle.tap_lane.specs.Lane.{Whole, Runs, CutShort, RunsUntil, LaneEnds}
use Rattle.run_values.specs.Settings.{Means}
use Rattle.proxy_words.specs.declared.halt.ProxyHalt.{ProxyHalt}
use Rattle.proxy_words.specs.declared.halt.ProxyHalt.TheVariants as cause
use Rattle.proxy_words.specs.Deeds.{Deed, DeedOf, Acts}
use Rattle.proxy_words.specs.Ends.{HaltsBy, Halts, Stops, Ends}
use Rattle.lane_laws.specs.Places.{owes_commit, halts_owing_from, halts_owing, HasLeft}
use Rattle.lane_laws.specs.Taps.{taken_by, taken_in}
use Rattle.lane_laws.specs.Lanes.{WasStopped}
use Rattle.lane_laws.proofs.Steps as steps
use Rattle.lane_laws.proofs.Steps.{duty_more}
use Rattle.lane_laws.proofs.Owing.{halts_more}
use Rattle.lane_laws.proofs.Tapping.{taken_more}

-- ---- whose the entries are

module _ (q : Discipline) (law : Keeps q) where
  abbrev legal : History → Type 0
  legal = CameAbout q

  abbrev rule : History → ℕ → Call → Reply
  rule = answer_after q

  abbrev AllKnown : History → Type 0
  AllKnown h = All (λ (e : Past). e.lane < 2 * q.seats) h

  lane_known : (lane : ℕ) → lane / 2 < q.seats → lane < 2 * q.seats
  lane_known lane lt = let whole = div-add-mod lane 2 in omega (arith, whole, lt)

  pub all_known : (h : History) → legal h → AllKnown h
  all_known = steps.along q law AllKnown
      (All-nil (λ (e : Past). e.lane < 2 * q.seats))
      (λ h e s all. All-push (λ (x : Past). x.lane < 2 * q.seats) h e all
      (lane_known e.lane (law.lanes_are_known h e.lane e.call s.scripted)))

-- ---- the lines that a tap lane took

answers_take_none : (l : ℕ) (es : History) (xs : List Answer) → AreAnswers l es xs
    → taken_in es ≡ []
answers_take_none l [] xs a = refl
answers_take_none l (e ∷ es) [] a = absurd a
answers_take_none l (e ∷ es) (x ∷ xs) a =
    ap (λ (c : Call). taken_by c e.reply ++ taken_in es) a.0.0
    ∙ answers_take_none l es xs a.1

pub taken_both : (es fs : History) → taken_in (es ++ fs) ≡ taken_in es ++ taken_in fs
taken_both [] fs = refl
taken_both (e ∷ es) fs =
    ap (λ (ls : List ℕ). taken_by e.call e.reply ++ ls) (taken_both es fs)
    ∙ sym (append_assoc (taken_by e.call e.reply) (taken_in es) (taken_in fs))

abbrev lines_of : List (ℕ × TapTold) → List ℕ
lines_of ts = map (λ t. t.0) ts

module _ (s : Speech) (lane : ℕ) where
  whole_takes : (t : ℕ × TapTold) (es : History) → Whole s lane t es → taken_in es ≡ t.0 ∷ []
  whole_takes t es w =
      ap taken_in w.are
      ∙ ap (λ (ls : List ℕ). t.0 ∷ ls)
      (taken_more w.made (entry lane (call.Ended t.0 w.how) reply.Noted)
      ∙ (append-nil (taken_in w.made)
      ∙ answers_take_none t.0 w.made w.heard.answers w.heard.are))

  runs_take : (ts : List (ℕ × TapTold)) (es : History) → Runs s lane ts es
      → taken_in es ≡ lines_of ts
  runs_take [] es r = ap taken_in r
  runs_take (t ∷ ts) es r =
      ap taken_in r.2 ∙ (taken_both r.0 r.1
      ∙ (λ i. whole_takes t r.0 r.3 i ++ runs_take ts r.1 r.4 i))

  cut_takes : (how : Option HowEnded) (ts : List (ℕ × TapTold)) (es : History)
      → CutShort s lane how ts es → taken_in es ≡ lines_of ts
  cut_takes how ts es c =
      let last : History = entry lane call.Take (reply.Line c.last.0) ∷ c.made in
      ap taken_in c.are ∙ (taken_both c.lines last
      ∙ ((λ i. runs_take c.whole c.lines c.runs i
      ++ c.last.0 ∷ answers_take_none c.last.0 c.made c.heard.answers c.heard.are i)
      ∙ (sym (map-append (λ (t : ℕ × TapTold). t.0) c.whole (c.last ∷ []))
      ∙ ap lines_of (sym c.taps_are))))

  until_takes : (w : TapHalt) (ts : List (ℕ × TapTold)) (es : History) → RunsUntil s lane w ts es
      → taken_in es ≡ lines_of ts
  until_takes want.Line ts es r = runs_take ts es r
  until_takes want.Answers ts es r = cut_takes None ts es r
  until_takes (want.End how) ts es r = cut_takes (Some how) ts es r

  -- the last entry, by which it was told to stop, or halted, takes nothing
  last_takes_none : (es own : History) (last : Past) → own ≡ es ++ last ∷ []
      → taken_by last.call last.reply ≡ [] → taken_in own ≡ taken_in es
  last_takes_none es own last is none =
      ap taken_in is ∙ (taken_more es last
      ∙ (ap (λ (ls : List ℕ). taken_in es ++ ls) none ∙ append-nil (taken_in es)))

  pub ends_take : (halted : Option TapHalt) (ts : List (ℕ × TapTold)) (own : History)
      → LaneEnds s lane halted ts own → taken_in own ≡ lines_of ts
  ends_take None ts own e =
      last_takes_none e.0 own (entry lane call.Take reply.Stop) e.2 refl ∙ runs_take ts e.0 e.1
  ends_take (Some w) ts own e =
      last_takes_none e.0 own (entry lane call.Halt reply.Noted) e.2 refl
      ∙ until_takes w ts e.0 e.1

-- ---- what makes a proxy lane leave

orders_left : (r : Reply) → ordered r ≡ Left → r ≡ reply.Stop
orders_left reply.Stop e = refl
orders_left _ e = absurd (cc)

claim_left : (a : ℕ) (b : Branch) (f : Found) (r : Reply) → duty_of_claim a b f r ≡ Left
    → r ≡ reply.Stop
claim_left a b (found.Files fs) reply.Granted e = absurd (cc)
claim_left a b (found.Files fs) reply.Stop e = refl
claim_left a b (found.Files fs) _ e = absurd (cc)
claim_left a b f r e = orders_left r e

-- an entry of a deed is neither a Halt nor a Look
call_left : (s : Duty) (c : Call) (r : Reply) → is_halt c ≡ false → is_look c ≡ false
    → duty_by_call s c r ≡ Left → r ≡ reply.Stop
call_left s (call.Look w) r work look e = absurd (cc)
call_left s call.Halt r work look e = absurd (cc)
call_left s (call.Claim a b t f) r work look e = claim_left a b f r e
call_left s _ r work look e = orders_left r e

from_left : (s : Duty) (c : Call) (r : Reply) → is_halt c ≡ false → is_look c ≡ false
    → duty_from s c r ≡ Left → r ≡ reply.Stop
from_left s c reply.Stop work look e = refl
from_left s c r work look e = call_left s c r work look e

halt_leaves : (s : Duty) → duty_by s call.Halt reply.Noted ≡ Left
halt_leaves Left = refl
halt_leaves _ = refl

or_none : (b : Bool) → (b || false) ≡ b
or_none true = refl
or_none false = refl

and_none : (b : Bool) → (b && false) ≡ false
and_none true = refl
and_none false = refl

module _ (means : Means) where
  abbrev Did : Duty → Call → Deed → Type 0
  Did s c d = DeedOf means s c d

  halt_undone : (s : Duty) (d : Deed) → Did s call.Halt d → ⊥
  halt_undone Left d x = x
  halt_undone _ d x = x

  no_halt : (s : Duty) (c : Call) (d : Deed) → Did s c d → is_halt c ≡ false
  no_halt s call.Halt d x = absurd (halt_undone s d x)
  no_halt s _ d x = refl

  look_undone : (s : Duty) (w : Wanted) (d : Deed) → Did s (call.Look w) d → ⊥
  look_undone Left w d x = x
  look_undone _ w d x = x

  no_look : (s : Duty) (c : Call) (d : Deed) → Did s c d → is_look c ≡ false
  no_look s (call.Look w) d x = absurd (look_undone s w d x)
  no_look s _ d x = refl

  goes_on : (s : Duty) (c : Call) (r : Reply) (d : Deed) → Did s c d
      → duty_by s c r ≡ duty_from s c r
  goes_on Left c r d x = absurd x
  goes_on _ c r d x = refl

  -- a lane with deeds made no Halt
  acts_pay : (s : Duty) (es : History) (ds : List Deed) → Acts means s es ds
      → halts_owing_from s es ≡ false
  acts_pay s [] ds a = refl
  acts_pay s (e ∷ es) [] a = absurd a
  acts_pay s (e ∷ es) (d ∷ ds) a =
      ap (λ (b : Bool). (b && owes_commit s) || halts_owing_from (duty_then s e) es)
      (no_halt s e.call d a.0)
      ∙ acts_pay (duty_then s e) es ds a.1

  acts_never_halt : (s : Duty) (es : History) (ds : List Deed) → Acts means s es ds
      → list_any (λ (e : Past). is_halt e.call) es ≡ false
  acts_never_halt s [] ds a = refl
  acts_never_halt s (e ∷ es) [] a = absurd a
  acts_never_halt s (e ∷ es) (d ∷ ds) a =
      ap (λ (b : Bool). b || list_any (λ (x : Past). is_halt x.call) es) (no_halt s e.call d a.0)
      ∙ acts_never_halt (duty_then s e) es ds a.1

  -- the last entry with its deed
  acts_last : (s : Duty) (front : History) (last : Past) (ds : List Deed)
      → Acts means s (front ++ last ∷ []) ds
      → (d : Deed) × Did (fold duty_then s front) last.call d
  acts_last s [] last [] a = absurd a
  acts_last s [] last (d ∷ ds) a = (d, a.0)
  acts_last s (e ∷ front) last [] a = absurd a
  acts_last s (e ∷ front) last (d ∷ ds) a = acts_last (duty_then s e) front last ds a.1

  pays_first : (by : ProxyHalt) (s : Duty) (d : Deed) → HaltsBy means by s d
      → owes_commit s ≡ false
  pays_first cause.NoMemory (Commits a b fs) d h = absurd h.1
  pays_first (cause.Refused c) (Commits a b fs) d h = absurd (let x = h.0 in cc)
  pays_first by _ d h = refl

  halted_left : (lane : ℕ) (by : ProxyHalt) (own : History) (deeds : List Deed)
      → Halts means lane by own deeds → HasLeft own
  halted_left lane by own deeds h =
      let last : Past = entry lane call.Halt reply.Noted in record {
        left = ap duty_of h.made
            ∙ (duty_more h.before last ∙ halt_leaves (duty_of h.before));
        paid = ap halts_owing h.made
            ∙ (halts_more h.before last
            ∙ (λ i. acts_pay Asks h.before h.done h.acts i
            || pays_first by (duty_of h.before) h.last h.halts i));
      }

  pub ends_left : (lane : ℕ) (own : History) (deeds : List Deed) (halted : Option ProxyHalt)
      → Ends means lane halted own deeds → HasLeft own
  ends_left lane own deeds None e = record {
    left = e.left;
    paid = acts_pay Asks own deeds e.acts;
  }
  ends_left lane own deeds (Some by) e = halted_left lane by own deeds e

  last_of : (e : Past) (es : History)
      → (front : History) × (last : Past) × (e ∷ es ≡ front ++ last ∷ [])
  last_of e [] = ([], e, refl)
  last_of e (x ∷ es) =
      let rest = last_of x es in
      (e ∷ rest.0, rest.1, ap (λ (h : History). e ∷ h) rest.2)

  stopped_at : (own : History) (deeds : List Deed) → Stops means own deeds
      → (front : History) (last : Past) → own ≡ front ++ last ∷ [] → WasStopped own
  stopped_at own deeds s front last is =
      let deed = acts_last Asks front last deeds
      (subst (λ (h : History). Acts means Asks h deeds) is s.acts) in
      let gone : duty_by (duty_of front) last.call last.reply ≡ Left =
      sym (ap duty_of is ∙ duty_more front last) ∙ s.left in record {
        no_halt = acts_never_halt Asks own deeds s.acts;
        front = front;
        last = last;
        are = is;
        stop = from_left (duty_of front) last.call last.reply
            (no_halt (duty_of front) last.call deed.0 deed.1)
            (no_look (duty_of front) last.call deed.0 deed.1)
            (sym (goes_on (duty_of front) last.call last.reply deed.0 deed.1) ∙ gone);
      }

  pub was_stopped : (own : History) (deeds : List Deed) → Stops means own deeds
      → WasStopped own
  was_stopped [] deeds s = absurd (let x : Asks ≡ Left = s.left in cc)
  was_stopped (e ∷ es) deeds s =
      let l = last_of e es in stopped_at (e ∷ es) deeds s l.0 l.1 l.2
