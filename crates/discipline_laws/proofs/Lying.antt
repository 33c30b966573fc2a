-- What lies on the shelf for a berth: the child of its last line from its start until its Kill, and
-- its tap until it was given.
use Rattle.std.proofs.Common.{◌≡◌, ℕ, ◌/◌, ◌%◌, ◌==◌, Bool, true, false, cond, ◌&&◌, not, List, [], ◌∷◌, Option, Some, None, inl, inr, refl, ap, sym, subst, ◌∙◌, arith}
use Rattle.std.proofs.lemmas.Bool.{and_parts, and_from, eqb-true, eq-eqb, or_cases, or_left, or_right}
use Rattle.std.proofs.Math.Nat.{div-add-mod}
use Rattle.run_plan.specs.declared.plan.Plan.{Plan}
use Rattle.exec_journal.specs.Lawful as lw
use Rattle.exec_journal.specs.declared.attempt.Attempt.{Attempt}
use Rattle.exec_journal.specs.declared.call.Call.{Call}
use Rattle.exec_journal.specs.declared.call.Call.TheVariants as call
use Rattle.exec_journal.specs.declared.call.Started.{Started}
use Rattle.exec_journal.specs.declared.call.Started.TheVariants as start
use Rattle.exec_journal.specs.Entry.{Entry}
use Rattle.exec_journal.specs.declared.reply.Reply.{Reply}
use Rattle.exec_journal.specs.declared.reply.Reply.TheVariants as reply
use Rattle.exec_journal.specs.declared.reply.Why.{Why}
use Rattle.exec_journal.specs.Entries.{launch_in, takes, orders_kill, starts, is_halt}
use Rattle.exec_journal.specs.Facts.{IsOfBerth, OfBerth, reply_line}
use Rattle.exec_journal.specs.Lawful.{Lawful}
use Rattle.exec_journal.specs.Rules.{is_vacant}
use Rattle.exec_journal.specs.Words.{last_line, started, failed, has_ended, was_taken, kill_ordered, has_halted, line_count}
use Rattle.exec_journal.proofs.Begins.{same_attempt_refl}
use Rattle.exec_journal.proofs.Lines.{lines_named, script_own, of_berth_more}
use Rattle.exec_journal.proofs.Ruled.{by_bool}
use Rattle.journal_laws.proofs.Claims as claims
use Rattle.journal_laws.proofs.Claims.{clash, false_by}
use Rattle.journal_laws.proofs.Fresh.{fresh}
use Rattle.journal_laws.proofs.Given as given
use Rattle.journal_laws.proofs.Lanes as lanes
use Rattle.journal_laws.proofs.Owed as owed
use Rattle.journal_laws.proofs.Taps as taps
use Rattle.journal_laws.proofs.Vacant as vacant
use Rattle.call_laws.proofs.LastLines as last
use Rattle.core_contract.specs.Duties.{proxy_lane}
use Rattle.core_contract.specs.Moves.{Move, move_in, PutLine, TakeTap, TakeChild, Nothing, proxy_move, tap_move}
use Rattle.core_contract.specs.Shelf.{child_by, tap_by}
use Rattle.discipline_laws.proofs.Along.{after_all}
use Rattle.discipline_laws.proofs.Steps.{StepOf, Launches, Starts, Kills, Takes, Halts, Quiet, step, ask_even, launched_even, take_odd}

-- the line, where it is up and not gone
abbrev pub if_there : (ℕ → Bool) → (ℕ → Bool) → Option ℕ → Option ℕ
if_there up gone None = None
if_there up gone (Some l) = cond (up l && not (gone l)) (Some l) None

pub there_is : (up gone : ℕ → Bool) (o : Option ℕ) (l : ℕ) → o ≡ Some l → up l ≡ true
    → gone l ≡ false → if_there up gone o ≡ Some l
there_is up gone o l is yes_up not_gone = ap (if_there up gone) is
    ∙ (λ i. cond (yes_up i && not (not_gone i)) (Some l) None)

pub none_down : (up gone : ℕ → Bool) (o : Option ℕ) (l : ℕ) → o ≡ Some l → up l ≡ false
    → if_there up gone o ≡ None
none_down up gone o l is down = ap (if_there up gone) is
    ∙ (λ i. cond (down i && not (gone l)) (Some l) None)

pub none_gone : (up gone : ℕ → Bool) (o : Option ℕ) (l : ℕ) → o ≡ Some l → gone l ≡ true
    → if_there up gone o ≡ None
none_gone up gone o l is went = ap (if_there up gone) is ∙ by (up l)
  where
    by : (b : Bool) → cond (b && not (gone l)) (Some l) None ≡ None
    by true = λ i. cond (true && not (went i)) (Some l) None
    by false = refl

there_same : (up gone up' gone' : ℕ → Bool) (o : Option ℕ)
    → ((l : ℕ) → o ≡ Some l → (up l ≡ up' l) × (gone l ≡ gone' l))
    → if_there up gone o ≡ if_there up' gone' o
there_same up gone up' gone' None same = refl
there_same up gone up' gone' (Some l) same =
    let s = same l refl in λ i. cond (s.0 i && not (s.1 i)) (Some l) None

-- ---- the words

abbrev pub child_entry : ℕ → Option ℕ → Entry → Option ℕ
child_entry w o e = cond (e.lane / 2 == w) (child_by o (move_in e.lane e.call e.reply)) o

abbrev pub tap_entry : ℕ → Option ℕ → Entry → Option ℕ
tap_entry w o e = cond (e.lane / 2 == w) (tap_by o (move_in e.lane e.call e.reply)) o

-- the line whose child lies there, and that whose tap does
abbrev pub child_in : ℕ → List Entry → Option ℕ
child_in w j = after_all (child_entry w) None j

abbrev pub tap_in : ℕ → List Entry → Option ℕ
tap_in w j = after_all (tap_entry w) None j

abbrev pub child_of : List Entry → Option ℕ → Option ℕ
child_of j o = if_there (started j) (kill_ordered j) o

abbrev pub tap_of : List Entry → Option ℕ → Option ℕ
tap_of j o = if_there (started j) (was_taken j) o

-- ---- how the words go on

started_here : (e : Entry) (j : List Entry) (l : ℕ) → e.call ≡ call.Launched l start.Done
    → started (e ∷ j) l ≡ true
unfolding started
started_here e j l is = or_left (starts l e.call) _ (rw is (eq-eqb l l refl))

kill_same : (e : Entry) (j : List Entry) (l : ℕ) → orders_kill l e.reply ≡ false
    → kill_ordered (e ∷ j) l ≡ kill_ordered j l
unfolding kill_ordered
kill_same e j l h = rw h refl

kill_here : (e : Entry) (j : List Entry) (l : ℕ) (y : Why) → e.reply ≡ reply.Kill l y
    → kill_ordered (e ∷ j) l ≡ true
unfolding kill_ordered
kill_here e j l y is = or_left (orders_kill l e.reply) _ (rw is (eq-eqb l l refl))

taken_same : (e : Entry) (j : List Entry) (l : ℕ) → takes l e.reply ≡ false
    → was_taken (e ∷ j) l ≡ was_taken j l
unfolding was_taken
taken_same e j l h = rw h refl

taken_here : (e : Entry) (j : List Entry) (l : ℕ) → e.reply ≡ reply.Line l
    → was_taken (e ∷ j) l ≡ true
unfolding was_taken
taken_here e j l is = or_left (takes l e.reply) _ (rw is (eq-eqb l l refl))

-- a line that was ordered to be killed was started
kill_started : (p : Plan) (j : List Entry) (l : ℕ) → Lawful p j → kill_ordered j l ≡ true
    → started j l ≡ true
unfolding kill_ordered
kill_started p [] l legal h = absurd (cc)
kill_started p (e ∷ j) l legal h = vacant.started_later e j l
    (elim (or_cases (orders_kill l e.reply) (kill_ordered j l) h) [
      | inl here ↦ (and_parts (started j l) _ (lanes.kills_once p e j l legal here).running).0
      | inr before ↦ kill_started p j l legal.0 before
    ])

-- a line whose Launched is due isn't started
pub launched_unstarted : (p : Plan) (j : List Entry) (lane l : ℕ) (how : Started) → Lawful p j
    → lw.in_script p j lane (call.Launched l how) ≡ true → started j l ≡ false
launched_unstarted p j lane l how legal may =
    let order = owed.launched_answers p j lane l how may in
    let is = claims.launches_line_is l order.order.reply order.fits in
    let it : claims.is_launch_it l is.0 order.order ≡ true =
    ap (claims.launches_it l is.0) is.1
    ∙ and_from (l == l) _ (eq-eqb l l refl) (same_attempt_refl is.0) in
    (claims.owed_unstarted p j l is.0 legal lane order.order order.newest it).unstarted

-- ---- an entry of another berth

not_his : (j : List Entry) (l w z : ℕ) → (w == z) ≡ false → IsOfBerth j l w → IsOfBerth j l z → ⊥
not_his j l w z apart a b =
    clash (w == z) (eq-eqb w z (lanes.berths_same j l w z a b)) apart

other_starts : (p : Plan) (e : Entry) (j : List Entry) (w l : ℕ) → Lawful p (e ∷ j)
    → (e.lane / 2 == w) ≡ false → IsOfBerth j l w → starts l e.call ≡ false
other_starts p e j w l legal apart own = false_by _ (λ h.
    let is = claims.starts_is l e.call h in
    not_his j l (e.lane / 2) w apart
    (script_own p j e.lane (call.Launched l is.0)
    (subst (λ (c : Call). lw.in_script p j e.lane c ≡ true) is.1 legal.1.scripted)
    (lines_named p j legal.0)) own)

other_kills : (p : Plan) (e : Entry) (j : List Entry) (w l : ℕ) → Lawful p (e ∷ j)
    → (e.lane / 2 == w) ≡ false → IsOfBerth j l w → orders_kill l e.reply ≡ false
other_kills p e j w l legal apart own = false_by _ (λ h.
    not_his j l (e.lane / 2) w apart (lanes.here_own p j (e.lane / 2) l legal.0
    (lanes.kills_once p e j l legal h).here) own)

takes_line : (l : ℕ) (x : Reply) → takes l x ≡ true → reply_line x ≡ Some l
takes_line l (reply.Line m) h = ap Some (eqb-true m l h)
takes_line l _ h = absurd (cc)

other_takes : (p : Plan) (e : Entry) (j : List Entry) (w l : ℕ) → Lawful p (e ∷ j)
    → (e.lane / 2 == w) ≡ false → IsOfBerth (e ∷ j) l w → takes l e.reply ≡ false
other_takes p e j w l legal apart own = false_by _ (λ h.
    not_his (e ∷ j) l (e.lane / 2) w apart (subst (λ (o : Option ℕ). OfBerth (e ∷ j) o (e.lane / 2))
    (takes_line l e.reply h) (lines_named p (e ∷ j) legal).1.replied) own)

-- ---- a vacant berth has neither

pub vacant_child : (p : Plan) (j : List Entry) (o : Option ℕ) → Lawful p j → is_vacant j o ≡ true
    → child_of j o ≡ None
vacant_child p j None legal free = refl
vacant_child p j (Some l) legal free = elim (or_cases (failed j l) _ free) [
  | inl fault ↦ none_down (started j) (kill_ordered j) (Some l) l refl
      (false_by _ (λ up. clash (failed j l) fault (claims.started_unfailed p j l legal up)))
  | inr done ↦ none_gone (started j) (kill_ordered j) (Some l) l refl
      (given.killed_ordered p j l legal (and_parts (has_ended j l) _ done).1)
]

vacant_tap : (p : Plan) (j : List Entry) (o : Option ℕ) → Lawful p j → is_vacant j o ≡ true
    → tap_of j o ≡ None
vacant_tap p j None legal free = refl
vacant_tap p j (Some l) legal free = elim (or_cases (failed j l) _ free) [
  | inl fault ↦ none_down (started j) (was_taken j) (Some l) l refl
      (false_by _ (λ up. clash (failed j l) fault (claims.started_unfailed p j l legal up)))
  | inr done ↦ none_gone (started j) (was_taken j) (Some l) l refl
      (taps.ended_taken p j l legal (and_parts (has_ended j l) _ done).0)
]

-- a new line isn't started
new_unstarted : (p : Plan) (e : Entry) (j : List Entry) → Lawful p (e ∷ j) → e.call ≡ call.Ask
    → started (e ∷ j) (line_count j) ≡ false
new_unstarted p e j legal ask =
    let calm : starts (line_count j) e.call ≡ false = rw ask refl in
    claims.started_same e j (line_count j) calm
    ∙ (fresh p j (line_count j) legal.0 (omega arith)).start

-- ---- lanes

pub proxy_of : (lane : ℕ) → (lane % 2 == 0) ≡ true → proxy_lane (lane / 2) ≡ lane
proxy_of lane even = let whole = div-add-mod lane 2 in let rest = eqb-true (lane % 2) 0 even in
    omega (arith, whole, rest)

halted_before : (e : Entry) (j : List Entry) (lane : ℕ) → has_halted (e ∷ j) lane ≡ false
    → has_halted j lane ≡ false
unfolding has_halted
halted_before e j lane h =
    by_bool (has_halted j lane) (λ b. has_halted j lane ≡ b → b ≡ false)
    (λ _ on. absurd (clash (has_halted (e ∷ j) lane)
    (or_right ((e.lane == lane) && is_halt e.call) _ on) h)) (λ _ _. refl) refl

halts_here : (e : Entry) (j : List Entry) → e.call ≡ call.Halt → has_halted (e ∷ j) e.lane ≡ true
unfolding has_halted
halts_here e j is = or_left ((e.lane == e.lane) && is_halt e.call) _
    (and_from _ _ (eq-eqb e.lane e.lane refl) (rw is refl))

-- ---- an entry of the berth

-- what a proxy lane moves, and a tap lane
proxy_moves : (e : Entry) (c : Call) (x : Reply) → (e.lane % 2 == 0) ≡ true → e.call ≡ c
    → e.reply ≡ x → move_in e.lane e.call e.reply ≡ proxy_move c x
proxy_moves e c x even is so =
    (λ i. cond (even i) (proxy_move (is i) (so i)) (tap_move (is i) (so i)))

tap_moves : (e : Entry) (c : Call) (x : Reply) → (e.lane % 2 == 0) ≡ false → e.call ≡ c
    → e.reply ≡ x → move_in e.lane e.call e.reply ≡ tap_move c x
tap_moves e c x odd is so =
    (λ i. cond (odd i) (proxy_move (is i) (so i)) (tap_move (is i) (so i)))

no_launch : (x y : Reply) → x ≡ y → launch_in y ≡ None → launch_in x ≡ None
no_launch x y is none = ap launch_in is ∙ none

module _ (p : Plan) (e : Entry) (j : List Entry) (legal : Lawful p (e ∷ j)) where
  abbrev here : ℕ
  here = e.lane / 2

  abbrev scripts_it : (c : Call) → e.call ≡ c → lw.in_script p j e.lane c ≡ true
  scripts_it c is = subst (λ (d : Call). lw.in_script p j e.lane d ≡ true) is legal.1.scripted

  child_now : child_in here (e ∷ j) ≡ child_by (child_in here j) (move_in e.lane e.call e.reply)
  child_now = ap (λ (b : Bool). cond b (child_by (child_in here j)
      (move_in e.lane e.call e.reply)) (child_in here j)) (eq-eqb here here refl)

  tap_now : tap_in here (e ∷ j) ≡ tap_by (tap_in here j) (move_in e.lane e.call e.reply)
  tap_now = ap (λ (b : Bool). cond b (tap_by (tap_in here j)
      (move_in e.lane e.call e.reply)) (tap_in here j)) (eq-eqb here here refl)

  -- a started line is the berth's last
  starts_last : (l : ℕ) → e.call ≡ call.Launched l start.Done → e.reply ≡ reply.Noted
      → last_line (e ∷ j) here ≡ Some l
  starts_last l is noted = last.last_same e j here (no_launch e.reply reply.Noted noted refl)
      ∙ last.names_last p j e.lane l (call.Launched l start.Done) legal.0
      (scripts_it (call.Launched l start.Done) is) refl

  unstarted : (l : ℕ) → e.call ≡ call.Launched l start.Done → started j l ≡ false
  unstarted l is = launched_unstarted p j e.lane l start.Done legal.0
      (scripts_it (call.Launched l start.Done) is)

  untaken : (l : ℕ) → e.call ≡ call.Launched l start.Done → e.reply ≡ reply.Noted
      → was_taken (e ∷ j) l ≡ false
  untaken l is noted = taken_same e j l (rw noted refl) ∙ false_by _
      (λ old. clash (started j l) (given.taken_started p j l legal.0 old) (unstarted l is))

  unordered : (l : ℕ) → e.call ≡ call.Launched l start.Done → e.reply ≡ reply.Noted
      → kill_ordered (e ∷ j) l ≡ false
  unordered l is noted = kill_same e j l (rw noted refl) ∙ false_by _
      (λ old. clash (started j l) (kill_started p j l legal.0 old) (unstarted l is))

  -- what launches, starts and kills nothing, as the words have it
  child_stays : launch_in e.reply ≡ None → ((l : ℕ) → starts l e.call ≡ false)
      → ((l : ℕ) → orders_kill l e.reply ≡ false)
      → child_of j (last_line j here) ≡ child_of (e ∷ j) (last_line (e ∷ j) here)
  child_stays none calm unkilled =
      there_same (started j) (kill_ordered j) (started (e ∷ j)) (kill_ordered (e ∷ j))
      (last_line j here) (λ l is. (
        sym (claims.started_same e j l (calm l)),
        sym (kill_same e j l (unkilled l)),
      ))
      ∙ ap (child_of (e ∷ j)) (sym (last.last_same e j here none))

  tap_stays : launch_in e.reply ≡ None → ((l : ℕ) → starts l e.call ≡ false)
      → ((l : ℕ) → takes l e.reply ≡ false)
      → tap_of j (last_line j here) ≡ tap_of (e ∷ j) (last_line (e ∷ j) here)
  tap_stays none calm ungiven =
      there_same (started j) (was_taken j) (started (e ∷ j)) (was_taken (e ∷ j))
      (last_line j here) (λ l is. (
        sym (claims.started_same e j l (calm l)),
        sym (taken_same e j l (ungiven l)),
      ))
      ∙ ap (tap_of (e ∷ j)) (sym (last.last_same e j here none))

  unlaunched : (t : Attempt) → launch_in e.reply ≡ Some (line_count j, t) → e.call ≡ call.Ask
      → child_of (e ∷ j) (last_line (e ∷ j) here) ≡ None
  unlaunched t is ask = none_down (started (e ∷ j)) (kill_ordered (e ∷ j))
      (last_line (e ∷ j) here) (line_count j) (last.last_new e j (line_count j) t is)
      (new_unstarted p e j legal ask)

  untapped : (t : Attempt) → launch_in e.reply ≡ Some (line_count j, t) → e.call ≡ call.Ask
      → tap_of (e ∷ j) (last_line (e ∷ j) here) ≡ None
  untapped t is ask = none_down (started (e ∷ j)) (was_taken (e ∷ j))
      (last_line (e ∷ j) here) (line_count j) (last.last_new e j (line_count j) t is)
      (new_unstarted p e j legal ask)

  -- an Ask whose reply takes no child moves none
  abbrev moves : Move
  moves = move_in e.lane e.call e.reply

  launch_moves : (t : Attempt) → launch_in e.reply ≡ Some (line_count j, t) → e.call ≡ call.Ask
      → moves ≡ Nothing
  launch_moves t is ask = proxy_moves e call.Ask e.reply
      (ask_even p j e.lane (scripts_it call.Ask ask)) ask refl ∙ by e.reply is
    where
      by : (x : Reply) → launch_in x ≡ Some (line_count j, t) → proxy_move call.Ask x ≡ Nothing
      by (reply.Launch l a b n) h = refl
      by _ h = absurd (cc)

  start_moves : (l : ℕ) → e.call ≡ call.Launched l start.Done → e.reply ≡ reply.Noted
      → moves ≡ PutLine l
  start_moves l is noted = proxy_moves e (call.Launched l start.Done) reply.Noted
      (launched_even p j e.lane l start.Done (scripts_it (call.Launched l start.Done) is)) is noted

  kill_moves : (l : ℕ) (y : Why) → e.call ≡ call.Ask → e.reply ≡ reply.Kill l y
      → moves ≡ TakeChild l
  kill_moves l y ask is = proxy_moves e call.Ask (reply.Kill l y)
      (ask_even p j e.lane (scripts_it call.Ask ask)) ask is

  take_moves : (l : ℕ) → e.call ≡ call.Take → e.reply ≡ reply.Line l → moves ≡ TakeTap l
  take_moves l ask is = tap_moves e call.Take (reply.Line l)
      (take_odd p j e.lane (scripts_it call.Take ask)) ask is

  kill_last : (l : ℕ) (y : Why) → e.reply ≡ reply.Kill l y → last_line j here ≡ Some l
  kill_last l y is = (lanes.kills_once p e j l legal (rw is (eq-eqb l l refl))).here

  -- ---- the child

  child_step : has_halted (e ∷ j) (proxy_lane here) ≡ false
      → child_in here j ≡ child_of j (last_line j here)
      → StepOf p j e.lane e.call e.reply
      → child_by (child_in here j) moves ≡ child_of (e ∷ j) (last_line (e ∷ j) here)
  child_step running before (Launches t is ask free) =
      ap (child_by (child_in here j)) (launch_moves t is ask)
      ∙ (before ∙ (vacant_child p j (last_line j here) legal.0 free
      ∙ sym (unlaunched t is ask)))
  child_step running before (Starts l is noted) =
      ap (child_by (child_in here j)) (start_moves l is noted)
      ∙ sym (there_is (started (e ∷ j)) (kill_ordered (e ∷ j)) (last_line (e ∷ j) here) l
      (starts_last l is noted) (started_here e j l is) (unordered l is noted))
  child_step running before (Kills l y ask is) =
      ap (child_by (child_in here j)) (kill_moves l y ask is)
      ∙ sym (none_gone (started (e ∷ j)) (kill_ordered (e ∷ j)) (last_line (e ∷ j) here) l
      (last.last_same e j here (no_launch e.reply (reply.Kill l y) is refl) ∙ kill_last l y is)
      (kill_here e j l y is))
  child_step running before (Takes l ask is at) =
      ap (child_by (child_in here j)) (take_moves l ask is)
      ∙ (before ∙ child_stays (no_launch e.reply (reply.Line l) is refl) (λ k. rw ask refl)
      (λ k. rw is refl))
  child_step running before (Halts is noted) =
      by_bool (e.lane % 2 == 0) (λ b. (e.lane % 2 == 0) ≡ b
      → child_by (child_in here j) moves ≡ child_of (e ∷ j) (last_line (e ∷ j) here))
      (λ _ even. absurd (clash (has_halted (e ∷ j) (proxy_lane here))
      (subst (λ (n : ℕ). has_halted (e ∷ j) n ≡ true) (sym (proxy_of e.lane even))
      (halts_here e j is)) running))
      (λ _ odd. ap (child_by (child_in here j)) (tap_moves e call.Halt reply.Noted odd is noted)
      ∙ (before ∙ child_stays (no_launch e.reply reply.Noted noted refl) (λ k. rw is refl)
      (λ k. rw noted refl))) refl
  child_step running before (Quiet q) =
      q.child (child_in here j) ∙ (before ∙ child_stays q.launches q.starts q.kills)

  -- ---- the tap

  tap_step : tap_in here j ≡ tap_of j (last_line j here) → StepOf p j e.lane e.call e.reply
      → tap_by (tap_in here j) moves ≡ tap_of (e ∷ j) (last_line (e ∷ j) here)
  tap_step before (Launches t is ask free) =
      ap (tap_by (tap_in here j)) (launch_moves t is ask)
      ∙ (before ∙ (vacant_tap p j (last_line j here) legal.0 free ∙ sym (untapped t is ask)))
  tap_step before (Starts l is noted) =
      ap (tap_by (tap_in here j)) (start_moves l is noted)
      ∙ sym (there_is (started (e ∷ j)) (was_taken (e ∷ j)) (last_line (e ∷ j) here) l
      (starts_last l is noted) (started_here e j l is) (untaken l is noted))
  tap_step before (Kills l y ask is) =
      ap (tap_by (tap_in here j)) (kill_moves l y ask is)
      ∙ (before ∙ tap_stays (no_launch e.reply (reply.Kill l y) is refl) (λ k. rw ask refl)
      (λ k. rw is refl))
  tap_step before (Takes l ask is at) =
      ap (tap_by (tap_in here j)) (take_moves l ask is)
      ∙ sym (none_gone (started (e ∷ j)) (was_taken (e ∷ j)) (last_line (e ∷ j) here) l
      (last.last_same e j here (no_launch e.reply (reply.Line l) is refl) ∙ at)
      (taken_here e j l is))
  tap_step before (Halts is noted) =
      by_bool (e.lane % 2 == 0) (λ b. (e.lane % 2 == 0) ≡ b
      → tap_by (tap_in here j) moves ≡ tap_of (e ∷ j) (last_line (e ∷ j) here))
      (λ _ even. ap (tap_by (tap_in here j)) (proxy_moves e call.Halt reply.Noted even is noted)
      ∙ (before ∙ tap_stays (no_launch e.reply reply.Noted noted refl) (λ k. rw is refl)
      (λ k. rw noted refl)))
      (λ _ odd. ap (tap_by (tap_in here j)) (tap_moves e call.Halt reply.Noted odd is noted)
      ∙ (before ∙ tap_stays (no_launch e.reply reply.Noted noted refl) (λ k. rw is refl)
      (λ k. rw noted refl))) refl
  tap_step before (Quiet q) =
      q.tap (tap_in here j) ∙ (before ∙ tap_stays q.launches q.starts q.gives)

  -- ---- another berth

  module _ (w : ℕ) (apart : (here == w) ≡ false) where
    his : (l : ℕ) → last_line j w ≡ Some l → IsOfBerth j l w
    his l is = lanes.here_own p j w l legal.0 is

    child_beside : child_of j (last_line j w) ≡ child_of (e ∷ j) (last_line (e ∷ j) w)
    child_beside =
        there_same (started j) (kill_ordered j) (started (e ∷ j)) (kill_ordered (e ∷ j))
        (last_line j w) (λ l is. (
          sym (claims.started_same e j l (other_starts p e j w l legal apart (his l is))),
          sym (kill_same e j l (other_kills p e j w l legal apart (his l is))),
        ))
        ∙ ap (child_of (e ∷ j)) (sym (last.last_other e j w apart))

    tap_beside : tap_of j (last_line j w) ≡ tap_of (e ∷ j) (last_line (e ∷ j) w)
    tap_beside =
        there_same (started j) (was_taken j) (started (e ∷ j)) (was_taken (e ∷ j))
        (last_line j w) (λ l is. (
          sym (claims.started_same e j l (other_starts p e j w l legal apart (his l is))),
          sym (taken_same e j l (other_takes p e j w l legal apart
              (of_berth_more e j l w (lines_named p (e ∷ j) legal).1.numbered (his l is)))),
        ))
        ∙ ap (tap_of (e ∷ j)) (sym (last.last_other e j w apart))

-- ---- what lies there

-- until its proxy lane halts, the child of the berth's last line lies there from the line's start
-- until its Kill
pub child_lies : (p : Plan) (w : ℕ) (j : List Entry) → Lawful p j
    → has_halted j (proxy_lane w) ≡ false → child_in w j ≡ child_of j (last_line j w)
unfolding last_line
child_lies p w [] legal running = refl
child_lies p w (e ∷ j) legal running = by_bool (e.lane / 2 == w)
    (λ b. (e.lane / 2 == w) ≡ b → child_in w j ≡ child_of j (last_line j w)
    → cond b (child_by (child_in w j) (move_in e.lane e.call e.reply)) (child_in w j)
    ≡ child_of (e ∷ j) (last_line (e ∷ j) w))
    (λ _ own before. subst (λ (v : ℕ). has_halted (e ∷ j) (proxy_lane v) ≡ false
    → child_in v j ≡ child_of j (last_line j v)
    → child_by (child_in v j) (move_in e.lane e.call e.reply)
    ≡ child_of (e ∷ j) (last_line (e ∷ j) v)) (eqb-true (e.lane / 2) w own)
    (λ run k. child_step p e j legal run k (step p e j legal)) running before)
    (λ _ apart before. before ∙ child_beside p e j legal w apart) refl
    (child_lies p w j legal.0 (halted_before e j (proxy_lane w) running))

-- the tap of the berth's last line lies there from the line's start until it is given
pub tap_lies : (p : Plan) (w : ℕ) (j : List Entry) → Lawful p j
    → tap_in w j ≡ tap_of j (last_line j w)
unfolding last_line
tap_lies p w [] legal = refl
tap_lies p w (e ∷ j) legal = by_bool (e.lane / 2 == w)
    (λ b. (e.lane / 2 == w) ≡ b → tap_in w j ≡ tap_of j (last_line j w)
    → cond b (tap_by (tap_in w j) (move_in e.lane e.call e.reply)) (tap_in w j)
    ≡ tap_of (e ∷ j) (last_line (e ∷ j) w))
    (λ _ own before. subst (λ (v : ℕ). tap_in v j ≡ tap_of j (last_line j v)
    → tap_by (tap_in v j) (move_in e.lane e.call e.reply) ≡ tap_of (e ∷ j) (last_line (e ∷ j) v))
    (eqb-true (e.lane / 2) w own) (λ k. tap_step p e j legal k (step p e j legal)) before)
    (λ _ apart before. before ∙ tap_beside p e j legal w apart) refl (tap_lies p w j legal.0)
