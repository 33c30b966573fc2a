-- A proxy lane's duty goes along with the journal.
use Rattle.std.proofs.Common.{◌≡◌, ℕ, ◌==◌, Bool, true, false, cond, ◌&&◌, ◌||◌, not, List, [], ◌∷◌, Some, refl, ap, sym, ◌∙◌, eq-eqb, eqb-true}
use Rattle.std.specs.List.{fold}
use Rattle.seat_desk.specs.History.{calls_by}
use Rattle.run_plan.specs.declared.plan.Branch.{Branch}
use Rattle.exec_journal.specs.declared.call.Call.{Call}
use Rattle.exec_journal.specs.declared.call.Call.TheVariants as call
use Rattle.exec_journal.specs.declared.call.Found.{Found}
use Rattle.exec_journal.specs.declared.call.Found.TheVariants as found
use Rattle.exec_journal.specs.declared.reply.Reply.{Reply}
use Rattle.exec_journal.specs.declared.reply.Reply.TheVariants as reply
use Rattle.exec_journal.specs.Entry.{Entry}
use Rattle.exec_journal.specs.Entries.{is_stop, is_halt, is_look}
use Rattle.exec_journal.specs.Words.{last_work, stopped, has_halted}
use Rattle.core_contract.specs.Moves.{Past, History}
use Rattle.core_contract.specs.Duties.{Duty, Asks, Launches, Sends, Cancels, Gathers, Commits, Kills, Left, ordered, duty_of_claim, duty_by_call, duty_from, duty_by, duty_then}
use Rattle.core_contract.specs.Ruled.{journal_of}
use Rattle.discipline_laws.specs.Owed.{has_left, duty_of_work, owed_by, DutyIs}

pub by_bool : (b : Bool) (P : Bool → Type 0) → P true → P false → P b
by_bool true P t f = t
by_bool false P t f = f

-- ---- what a reply says of the duty

record AtReply (r : Reply) : Type 0 where
  stops : is_stop r ≡ true → (s : Duty) (c : Call) → duty_from s c r ≡ Left
  goes : is_stop r ≡ false → (s : Duty) (c : Call) → duty_from s c r ≡ duty_by_call s c r
  orders : is_stop r ≡ false → has_left (ordered r) ≡ false
  claims : is_stop r ≡ false → (a : ℕ) (b : Branch) (fs : List (List ℕ))
      → has_left (duty_of_claim a b (found.Files fs) r) ≡ false

at_other : {r : Reply} → is_stop r ≡ false
    → ((s : Duty) (c : Call) → duty_from s c r ≡ duty_by_call s c r)
    → has_left (ordered r) ≡ false
    → ((a : ℕ) (b : Branch) (fs : List (List ℕ))
    → has_left (duty_of_claim a b (found.Files fs) r) ≡ false) → AtReply r
at_other other g o k = record {
  stops = λ e s c. absurd (let x : true ≡ false = sym e ∙ other in cc);
  goes = λ e. g;
  orders = λ e. o;
  claims = λ e. k;
}

at_reply : (r : Reply) → AtReply r
at_reply (reply.Launch l a b t) = at_other refl (λ s c. refl) refl (λ a b fs. refl)
at_reply (reply.Send l n a b t) = at_other refl (λ s c. refl) refl (λ a b fs. refl)
at_reply (reply.Cancel l n) = at_other refl (λ s c. refl) refl (λ a b fs. refl)
at_reply (reply.Gather l n a b t x y) = at_other refl (λ s c. refl) refl (λ a b fs. refl)
at_reply (reply.Kill l y) = at_other refl (λ s c. refl) refl (λ a b fs. refl)
at_reply reply.Stop = record {
  stops = λ e s c. refl;
  goes = λ e. absurd (cc);
  orders = λ e. absurd (cc);
  claims = λ e. absurd (cc);
}
at_reply reply.Idle = at_other refl (λ s c. refl) refl (λ a b fs. refl)
at_reply reply.Noted = at_other refl (λ s c. refl) refl (λ a b fs. refl)
at_reply (reply.File f) = at_other refl (λ s c. refl) refl (λ a b fs. refl)
at_reply reply.NoFile = at_other refl (λ s c. refl) refl (λ a b fs. refl)
at_reply reply.Granted = at_other refl (λ s c. refl) refl (λ a b fs. refl)
at_reply reply.Lost = at_other refl (λ s c. refl) refl (λ a b fs. refl)
at_reply reply.Dropped = at_other refl (λ s c. refl) refl (λ a b fs. refl)
at_reply reply.AgainLater = at_other refl (λ s c. refl) refl (λ a b fs. refl)
at_reply (reply.Line l) = at_other refl (λ s c. refl) refl (λ a b fs. refl)
at_reply (reply.Matched a b t) = at_other refl (λ s c. refl) refl (λ a b fs. refl)
at_reply (reply.Late a b t) = at_other refl (λ s c. refl) refl (λ a b fs. refl)
at_reply reply.Greeted = at_other refl (λ s c. refl) refl (λ a b fs. refl)
at_reply (reply.Stray y) = at_other refl (λ s c. refl) refl (λ a b fs. refl)
at_reply (reply.Breach y) = at_other refl (λ s c. refl) refl (λ a b fs. refl)
at_reply reply.Astray = at_other refl (λ s c. refl) refl (λ a b fs. refl)
at_reply reply.NoMemory = at_other refl (λ s c. refl) refl (λ a b fs. refl)

claim_stays : (a : ℕ) (b : Branch) (f : Found) (r : Reply) → is_stop r ≡ false
    → has_left (duty_of_claim a b f r) ≡ false
claim_stays a b (found.Files fs) r e = (at_reply r).claims e a b fs
claim_stays a b (found.Exit k) r e = (at_reply r).orders e
claim_stays a b (found.Missing k) r e = (at_reply r).orders e
claim_stays a b found.RoomFault r e = (at_reply r).orders e
claim_stays a b found.Refused r e = (at_reply r).orders e

-- ---- what a call says of it

record AtCall (c : Call) (r : Reply) (s : Duty) : Type 0 where
  halts : is_halt c ≡ true → duty_by_call s c r ≡ Left
  stays : is_stop r ≡ false → is_halt c ≡ false → has_left s ≡ false
      → has_left (duty_by_call s c r) ≡ false
  looks : is_look c ≡ true → duty_by_call s c r ≡ s
  works : is_look c ≡ false → is_halt c ≡ false → duty_by_call s c r ≡ duty_of_work c r

at_call : (c : Call) (r : Reply) (s : Duty) → AtCall c r s
at_call call.Ask r s = record {
  halts = λ e. absurd (cc);
  stays = λ o e l. (at_reply r).orders o;
  looks = λ e. absurd (cc);
  works = λ e f. refl;
}
at_call (call.Launched l how) r s = record {
  halts = λ e. absurd (cc);
  stays = λ o e l. (at_reply r).orders o;
  looks = λ e. absurd (cc);
  works = λ e f. refl;
}
at_call (call.Wrote l n how) r s = record {
  halts = λ e. absurd (cc);
  stays = λ o e l. (at_reply r).orders o;
  looks = λ e. absurd (cc);
  works = λ e f. refl;
}
at_call (call.Look w) r s = record {
  halts = λ e. absurd (cc);
  stays = λ o e l. l;
  looks = λ e. refl;
  works = λ e. absurd (cc);
}
at_call (call.Claim a b t f) r s = record {
  halts = λ e. absurd (cc);
  stays = λ o e l. claim_stays a b f r o;
  looks = λ e. absurd (cc);
  works = λ e f. refl;
}
at_call (call.Committed a b how) r s = record {
  halts = λ e. absurd (cc);
  stays = λ o e l. (at_reply r).orders o;
  looks = λ e. absurd (cc);
  works = λ e f. refl;
}
at_call (call.Killed l) r s = record {
  halts = λ e. absurd (cc);
  stays = λ o e l. (at_reply r).orders o;
  looks = λ e. absurd (cc);
  works = λ e f. refl;
}
at_call call.Take r s = record {
  halts = λ e. absurd (cc);
  stays = λ o e l. (at_reply r).orders o;
  looks = λ e. absurd (cc);
  works = λ e f. refl;
}
at_call (call.Answer l x) r s = record {
  halts = λ e. absurd (cc);
  stays = λ o e l. (at_reply r).orders o;
  looks = λ e. absurd (cc);
  works = λ e f. refl;
}
at_call (call.Ended l how) r s = record {
  halts = λ e. absurd (cc);
  stays = λ o e l. (at_reply r).orders o;
  looks = λ e. absurd (cc);
  works = λ e f. refl;
}
at_call call.Tick r s = record {
  halts = λ e. absurd (cc);
  stays = λ o e l. (at_reply r).orders o;
  looks = λ e. absurd (cc);
  works = λ e f. refl;
}
at_call call.Halt r s = record {
  halts = λ e. refl;
  stays = λ o e. absurd (cc);
  looks = λ e. absurd (cc);
  works = λ e f. absurd (cc);
}

-- a lane that hasn't left goes on
goes_on : (s : Duty) (c : Call) (r : Reply) → has_left s ≡ false → duty_by s c r ≡ duty_from s c r
goes_on Asks c r e = refl
goes_on (Launches l t) c r e = refl
goes_on (Sends l n t) c r e = refl
goes_on (Cancels l n) c r e = refl
goes_on (Gathers l n t x y) c r e = refl
goes_on (Commits a b fs) c r e = refl
goes_on (Kills l) c r e = refl
goes_on Left c r e = absurd (cc)

pub left_is : (s : Duty) → has_left s ≡ true → s ≡ Left
left_is Asks e = absurd (cc)
left_is (Launches l t) e = absurd (cc)
left_is (Sends l n t) e = absurd (cc)
left_is (Cancels l n) e = absurd (cc)
left_is (Gathers l n t x y) e = absurd (cc)
left_is (Commits a b fs) e = absurd (cc)
left_is (Kills l) e = absurd (cc)
left_is Left e = refl

-- ---- what the journal says after an entry

pub record Then (e : Entry) (j : List Entry) (lane : ℕ) : Type 0 where
  pub stops : stopped (e ∷ j) lane ≡ (((e.lane == lane) && is_stop e.reply) || stopped j lane)
  pub halts : has_halted (e ∷ j) lane ≡ (((e.lane == lane) && is_halt e.call) || has_halted j lane)
  pub other : ((e.lane == lane) && (not (is_look e.call) && not (is_halt e.call))) ≡ false
      → last_work (e ∷ j) lane ≡ last_work j lane
  pub work : ((e.lane == lane) && (not (is_look e.call) && not (is_halt e.call))) ≡ true
      → last_work (e ∷ j) lane ≡ Some e

pub then : (e : Entry) (j : List Entry) (lane : ℕ) → Then e j lane
unfolding stopped has_halted last_work
then e j lane = record {
  stops = refl;
  halts = refl;
  other = λ h. rw h refl;
  work = λ h. rw h refl;
}

or_true : (a b : Bool) → (a || b) ≡ true → (x y : Bool) → ((x || a) || (y || b)) ≡ true
or_true true b h true y = refl
or_true true b h false y = refl
or_true false true h true y = refl
or_true false true h false true = refl
or_true false true h false false = refl
or_true false false h x y = absurd (cc)

-- an entry of the lane
module _ (s : Duty) (e : Past) (j : List Entry) (lane : ℕ) (own : (e.lane == lane) ≡ true)
    (is : DutyIs s j lane) where
  abbrev E : Entry
  E = e

  stops_own : stopped (E ∷ j) lane ≡ (is_stop e.reply || stopped j lane)
  stops_own = (then E j lane).stops
      ∙ ap (λ (b : Bool). (b && is_stop e.reply) || stopped j lane) own

  halts_own : has_halted (E ∷ j) lane ≡ (is_halt e.call || has_halted j lane)
  halts_own = (then E j lane).halts
      ∙ ap (λ (b : Bool). (b && is_halt e.call) || has_halted j lane) own

  -- it had left
  was_gone : has_left s ≡ true → DutyIs (duty_then s e) (E ∷ j) lane
  was_gone gone =
      let still : duty_then s e ≡ Left = ap (λ (d : Duty). duty_by d e.call e.reply)
      (left_is s gone) in
      let both : (stopped (E ∷ j) lane || has_halted (E ∷ j) lane) ≡ true =
      (λ i. stops_own i || halts_own i)
      ∙ or_true (stopped j lane) (has_halted j lane) (sym is.gone ∙ gone) (is_stop e.reply)
      (is_halt e.call) in
      record {
        gone = ap has_left still ∙ sym both;
        owed = λ h. absurd (let x : true ≡ false = sym (ap has_left still) ∙ h in cc);
      }

  -- it leaves now
  goes_now : duty_then s e ≡ Left → (is_stop e.reply || is_halt e.call) ≡ true
      → DutyIs (duty_then s e) (E ∷ j) lane
  goes_now left why =
      let both : (stopped (E ∷ j) lane || has_halted (E ∷ j) lane) ≡ true =
      (λ i. stops_own i || halts_own i)
      ∙ or_first (is_stop e.reply) (is_halt e.call) (stopped j lane) (has_halted j lane) why in
      record {
        gone = ap has_left left ∙ sym both;
        owed = λ h. absurd (let x : true ≡ false = sym (ap has_left left) ∙ h in cc);
      }
    where
      or_first : (a b x y : Bool) → (a || b) ≡ true → ((a || x) || (b || y)) ≡ true
      or_first true b x y h = refl
      or_first false true true y h = refl
      or_first false true false y h = refl
      or_first false false x y h = absurd (cc)

  -- it goes on
  module _ (here : has_left s ≡ false) (on : is_stop e.reply ≡ false)
      (runs : is_halt e.call ≡ false) where
    becomes : duty_then s e ≡ duty_by_call s e.call e.reply
    becomes = goes_on s e.call e.reply here ∙ (at_reply e.reply).goes on s e.call

    neither : (stopped (E ∷ j) lane || has_halted (E ∷ j) lane) ≡ false
    neither = (λ i. stops_own i || halts_own i)
        ∙ ((λ i. (on i || stopped j lane) || (runs i || has_halted j lane)) ∙ (sym is.gone ∙ here))

    still_here : has_left (duty_then s e) ≡ false
    still_here = ap has_left becomes
        ∙ (at_call e.call e.reply s).stays on runs here

    by_look : (b : Bool) → is_look e.call ≡ b → duty_then s e ≡ owed_by (last_work (E ∷ j) lane)
    by_look true look = becomes ∙ ((at_call e.call e.reply s).looks look ∙ (is.owed here
        ∙ ap owed_by (sym ((then E j lane).other (λ i. own i && (not (look i) && not (runs i)))))))
    by_look false work = becomes ∙ ((at_call e.call e.reply s).works work runs
        ∙ ap owed_by (sym ((then E j lane).work (λ i. own i && (not (work i) && not (runs i))))))

    goes_further : DutyIs (duty_then s e) (E ∷ j) lane
    goes_further = record {
      gone = still_here ∙ sym neither;
      owed = λ h. by_look (is_look e.call) refl;
    }

  by_halt : has_left s ≡ false → is_stop e.reply ≡ false → (b : Bool) → is_halt e.call ≡ b
      → DutyIs (duty_then s e) (E ∷ j) lane
  by_halt here on true halts = goes_now
      (goes_on s e.call e.reply here ∙ ((at_reply e.reply).goes on s e.call
      ∙ (at_call e.call e.reply s).halts halts)) (λ i. on i || halts i)
  by_halt here on false runs = goes_further here on runs

  by_stop : has_left s ≡ false → (b : Bool) → is_stop e.reply ≡ b
      → DutyIs (duty_then s e) (E ∷ j) lane
  by_stop here true stops = goes_now
      (goes_on s e.call e.reply here ∙ (at_reply e.reply).stops stops s e.call)
      (ap (λ (b : Bool). b || is_halt e.call) stops)
  by_stop here false on = by_halt here on (is_halt e.call) refl

  own_entry : (b : Bool) → has_left s ≡ b → DutyIs (duty_then s e) (E ∷ j) lane
  own_entry true gone = was_gone gone
  own_entry false here = by_stop here (is_stop e.reply) refl

-- an entry of another lane leaves this one as it was
pub record Elsewhere (e : Entry) (j : List Entry) (lane : ℕ) : Type 0 where
  pub stops : stopped (e ∷ j) lane ≡ stopped j lane
  pub halts : has_halted (e ∷ j) lane ≡ has_halted j lane
  pub works : last_work (e ∷ j) lane ≡ last_work j lane

pub elsewhere : (e : Entry) (j : List Entry) (lane : ℕ) → (e.lane == lane) ≡ false
    → Elsewhere e j lane
elsewhere e j lane other =
    let t = then e j lane in
    record {
      stops = t.stops ∙ ap (λ (b : Bool). (b && is_stop e.reply) || stopped j lane) other;
      halts = t.halts ∙ ap (λ (b : Bool). (b && is_halt e.call) || has_halted j lane) other;
      works = t.other
          (ap (λ (b : Bool). b && (not (is_look e.call) && not (is_halt e.call))) other);
    }

other_entry : (s : Duty) (e : Past) (j : List Entry) (lane : ℕ) → (e.lane == lane) ≡ false
    → DutyIs s j lane → DutyIs s (e ∷ j) lane
other_entry s e j lane other is =
    let same = elsewhere e j lane other in
    record {
      gone = is.gone ∙ sym (λ i. same.stops i || same.halts i);
      owed = λ h. is.owed h ∙ ap owed_by (sym same.works);
    }

pub flip : (a b : ℕ) (c : Bool) → (a == b) ≡ c → (b == a) ≡ c
flip a b true h = eq-eqb b a (sym (eqb-true a b h))
flip a b false h = by_bool (b == a) (λ c. (b == a) ≡ c → c ≡ false)
    (λ y. absurd (let x : true ≡ false = sym (eq-eqb a b (sym (eqb-true b a y))) ∙ h in cc))
    (λ y. refl) refl

one_entry : (e : Past) (es : History) (s : Duty) (j : List Entry) (lane : ℕ) (b : Bool)
    → (lane == e.lane) ≡ b
    → ((s : Duty) (j : List Entry) → DutyIs s j lane
    → DutyIs (fold duty_then s (calls_by lane es)) (fold (λ j e. e ∷ j) j es) lane)
    → DutyIs s j lane
    → DutyIs (fold duty_then s (cond b (e ∷ calls_by lane es) (calls_by lane es)))
    (fold (λ j e. e ∷ j) (e ∷ j) es) lane
one_entry e es s j lane true own rest is = rest (duty_then s e) (e ∷ j)
    (own_entry s e j lane (flip lane e.lane true own) is (has_left s) refl)
one_entry e es s j lane false other rest is = rest s (e ∷ j)
    (other_entry s e j lane (flip lane e.lane false other) is)

goes_along : (es : History) (lane : ℕ) (s : Duty) (j : List Entry) → DutyIs s j lane
    → DutyIs (fold duty_then s (calls_by lane es)) (fold (λ j e. e ∷ j) j es) lane
goes_along [] lane s j is = is
goes_along (e ∷ es) lane s j is =
    one_entry e es s j lane (lane == e.lane) refl (λ x k. goes_along es lane x k) is

at_first : (lane : ℕ) → DutyIs Asks [] lane
unfolding stopped has_halted last_work
at_first lane = record { gone = refl; owed = λ h. refl }

pub duty_is : (h : History) (lane : ℕ)
    → DutyIs (fold duty_then Asks (calls_by lane h)) (journal_of h) lane
duty_is h lane = goes_along h lane Asks [] (at_first lane)
