-- What is done outside for a Send, a Cancel and a Gather.
use Rattle.std.proofs.Common.{◌≡◌, inl, inr, ℕ, ℤ, Bool, true, false, cond, List, [], ◌∷◌, ◌++◌, length, Option, Some, None, Result, refl, ap, sym, subst, ◌∙◌, arith, ◌&&◌, ◌<◌, pos, eq-eqb, lt-ltb, append-nil}
use Rattle.run_plan.specs.Groups.{is_remote}
use Rattle.std.specs.Ordering.{int_eq}
use Rattle.std.proofs.lemmas.Cmp.{int_eq_equiv}
use Rattle.run_plan.specs.declared.plan.Branch.{Branch}
use Rattle.run_plan.specs.declared.plan.Branch.TheVariants.{Local, Remote}
use Rattle.exec_journal.specs.declared.attempt.Attempt.{Attempt}
use Rattle.exec_journal.specs.declared.call.Call.TheVariants as call
use Rattle.exec_journal.specs.declared.call.Started.{Started}
use Rattle.exec_journal.specs.declared.call.Started.TheVariants as start
use Rattle.exec_journal.specs.declared.call.Wanted.TheVariants as wanted
use Rattle.exec_journal.specs.Entries.{attempt_of, same_attempt, same_branch, is_done}
use Rattle.exec_journal.specs.Scripts.{may_find}
use Rattle.core_contract.specs.Duties as duties
use Rattle.core_contract.specs.Discipline.{Discipline, outputs_in}
use Rattle.core_contract.specs.Duties.{Duty, Cancels, Gathers, duty_of, may_do}
use Rattle.proxy_calls.specs.Claims.{claim_of}
use Rattle.proxy_calls.specs.Reports.{is_report}
use Rattle.proxy_laws.specs.Steps.{OwesWrote}
use Rattle.plain_values.specs.declared.no_memory.NoMemory.{NoMemory}
use Rattle.run_plan.specs.declared.plan.Speech.{Speech}
use Rattle.outside.specs.Launches.{IsNewChild}
use Rattle.outside.specs.Told.{BerthTold, FeedTold, ChildTold}
use Rattle.proxy_calls.specs.Goods.{IsChildThere}
use Rattle.exec_journal.specs.declared.call.Call.{Call}
use Rattle.exec_journal.specs.declared.call.Written.{Written}
use Rattle.exec_journal.specs.declared.call.Written.TheVariants as write
use Rattle.exec_journal.specs.declared.call.Found.{Found}
use Rattle.exec_journal.specs.declared.call.Found.TheVariants as found
use Rattle.exec_journal.specs.declared.reply.Reply.{Reply}
use Rattle.remote_messages.specs.declared.file.NamedFile.{NamedFile}
use Rattle.remote_messages.specs.declared.work.WorkAction.{WorkAction}
use Rattle.sandbox_rooms.specs.declared.gathering.Gathered.{Gathered}
use Rattle.sandbox_rooms.specs.declared.gathering.Gathered.TheVariants as gathered
use Rattle.outside.specs.declared.berth.BerthCall.{BerthCall}
use Rattle.sandbox_rooms.specs.Calls.{Asked, Cut, Runs, Made}
use Rattle.sandbox_rooms.specs.Rooms.{MakesGather}
use Rattle.sandbox_rooms.proofs.Runs.{made_none}
use Rattle.request_frames.specs.declared.frames.Due.{Due}
use Rattle.request_frames.specs.declared.frames.Due.TheVariants as due
use Rattle.request_frames.specs.Frames.{send_due, cancel_due}
use Rattle.std.specs.Prelude.{IfOk, OnOk, IfErr, option_map}
use Rattle.sandbox_rooms.specs.declared.room.Room.{Room}
use Rattle.remote_branch.specs.Jobs.{job_for}
use Rattle.request_frames.specs.Requests.{request_for}
use Rattle.proxy_laws.specs.declared.hands.OpenFeed.{OpenFeed}
use Rattle.proxy_laws.specs.Lanes.{Open, open_of, open_line}
use Rattle.berth_acts.specs.Acts.{GivenBy, GivesFrame, Gave, Sends, ReportsLooks, FoundFits, found_as}
use Rattle.core_contract.specs.Moves.{History}
use Rattle.run_values.specs.Settings.{Means, speaks_remote}
use Rattle.proxy_words.specs.Deeds.{AreInputs, looks_of, looks_from, lacks, send_asks, due_for, look_asks, room_at, FoundIn}
use Rattle.proxy_words.specs.Told.{AreTold}
use Rattle.proxy_words.proofs.Growing.{adds_none}
use Rattle.proxy_laws.specs.Acts.{Writes, SendActs, CancelActs, IsRoomFault, GatherActs, IsAnswered}

gave_none : (told : FeedTold) → Gave [] ⊥ told told
gave_none told = record {
  given_on = adds_none told.given [] refl;
  count = record { later = omega arith; rose = λ failed. absurd failed };
  same = refl;
}

-- ---- a frame

-- the executor's rooms are its own
pub gives_writes : (asks : List Asked) (frame : List ℕ) (how : Written) (b : BerthTold)
    (before after : FeedTold) → asks ≡ [] → GivesFrame frame how before after
    → Writes asks (due.Frame frame) (Result.Ok how) b b before after
gives_writes asks frame how b before after none x =
    subst (λ (ks : List Asked). Writes ks (due.Frame frame) (Result.Ok how) b b before after) (sym none)
    (by_end how x)
  where
    by_end : (h : Written) → GivesFrame frame h before after
        → Writes [] (due.Frame frame) (Result.Ok h) b b before after
    by_end write.Done y = ([], y.0, (tt, y.1), made_none b, y.2)
    by_end write.FeedFault y = ([], y.0, (tt, y.1), made_none b, y.2)
    by_end write.RoomFault y = absurd y.1
    by_end write.TooLarge y = absurd y.1

pub send_writes : (asks rooms : List Asked) (frame : List ℕ) (result : Result Written NoMemory)
    (old new : BerthTold) (before after : FeedTold) → asks ≡ rooms
    → Sends rooms frame result old new before after
    → Writes asks (due.Frame frame) result old new before after
send_writes asks rooms frame (Result.Ok how) old new before after is x =
    subst (λ (ks : List Asked). Writes ks (due.Frame frame) (Result.Ok how) old new before after) (sym is) x
send_writes asks rooms frame (Result.Err e) old new before after is x =
    subst (λ (ks : List Asked). Writes ks (due.Frame frame) (Result.Err e) old new before after) (sym is) x

pub due_writes : (asks : List Asked) (x y : Due) (result : Result Written NoMemory)
    (old new : BerthTold) (before after : FeedTold) → y ≡ x
    → Writes asks y result old new before after → Writes asks x result old new before after
due_writes asks x y result old new before after is w =
    subst (λ (d : Due). Writes asks d result old new before after) is w

-- nothing is written where it would be too long
pub large_writes : (asks : List Asked) (x : Due) (b : BerthTold) (f : FeedTold) → x ≡ due.TooLarge
    → Writes asks x (Result.Ok write.TooLarge) b b f f
large_writes asks x b f is =
    subst (λ (d : Due). Writes asks d (Result.Ok write.TooLarge) b b f f) (sym is)
    ([], [], (refl, refl), made_none b, gave_none f)

-- or where there is no memory for it
pub cut_writes : (asks : List Asked) (x : Due) (e : NoMemory) (b : BerthTold) (f : FeedTold)
    → Writes asks x (Result.Err e) b b f f
cut_writes asks x e b f = ([], [], (tt, refl), made_none b, gave_none f)

-- ---- a Send

module _ (means : Means) (t : Attempt) (rule : History → ℕ → Call → Reply) (lane line : ℕ) (n : ℤ)
    (action : WorkAction) (seen : History) where
  pub send_acts : (inputs : List NamedFile) (result : Result Written NoMemory) (old new : BerthTold)
      (before after : FeedTold) → AreInputs action.inputs inputs
      → AreTold rule lane seen (looks_of action.inputs inputs)
      → Writes (send_asks means t n action inputs) (due_for means t n action inputs) result old new before after
      → SendActs means t rule lane line n action result seen old new before after
  send_acts inputs (Result.Ok how) old new before after are told w = record {
    deed = record { line = line; looks = looks_of action.inputs inputs; calls = w.0; given = w.1 };
    on_line = refl;
    done = (inputs, are, refl, w.2);
    told = told;
    berth = w.3;
    feed = w.4;
  }
  send_acts inputs (Result.Err e) old new before after are told w = record {
    deed = record { line = line; looks = looks_of action.inputs inputs; calls = w.0; given = w.1 };
    on_line = refl;
    done = (w.2.1, inr (inputs, are, w.2.0));
    told = told;
    berth = w.3;
    feed = w.4;
  }

  -- the inputs were not all there
  pub no_inputs : (e : NoMemory) (b : BerthTold) (f : FeedTold)
      → SendActs means t rule lane line n action (Result.Err e) seen b b f f
  no_inputs e b f = record {
    deed = record { line = line; looks = []; calls = []; given = [] };
    on_line = refl;
    done = (refl, inl refl);
    told = tt;
    berth = made_none b;
    feed = gave_none f;
  }

-- ---- a Cancel

pub gives_cancel : (speech : Speech) (n : ℤ) (frame : List ℕ) (how : Written) (before after : FeedTold)
    → frame ≡ cancel_due speech n → GivesFrame frame how before after
    → CancelActs speech n (Result.Ok how) before after
gives_cancel speech n frame how before after is x =
    (x.0, subst (λ (bs : List ℕ). GivenBy bs how x.0) is x.1, x.2)

pub no_cancel : (speech : Speech) (n : ℤ) (e : NoMemory) (f : FeedTold)
    → CancelActs speech n (Result.Err e) f f
no_cancel speech n e f = ([], refl, gave_none f)

-- ---- a Gather

module _ (means : Means) (t : Attempt) (rule : History → ℕ → Call → Reply) (lane line : ℕ) (n : ℤ)
    (action : WorkAction) (seen : History) where
  -- nothing was looked at
  pub gather_none : (f : Found) (b : BerthTold)
      → FoundIn (speaks_remote means.speech) (look_asks means t n action) (length action.outputs) line n f
      (record { line = 0; looks = []; calls = []; given = [] })
      → Made [] (IsRoomFault (Result.Ok f)) b b
      → GatherActs means t rule lane line n action (Result.Ok f) seen b b
  gather_none f b found made = record {
    deed = record { line = 0; looks = []; calls = []; given = [] };
    nothing_given = refl;
    done = found;
    told = tt;
    berth = made;
  }

  -- the executor's answer was looked at
  pub gather_answered : (result : Result Found NoMemory) (b : BerthTold) → speaks_remote means.speech ≡ true
      → IfOk result (λ f. IsAnswered rule lane line n (length action.outputs) f seen)
      → GatherActs means t rule lane line n action result seen b b
  gather_answered (Result.Err e) b remote x = record {
    deed = record { line = 0; looks = []; calls = []; given = [] };
    nothing_given = refl;
    done = inl refl;
    told = tt;
    berth = made_none b;
  }
  gather_answered (Result.Ok (found.Files fs)) b remote x = record {
    deed = record { line = 0; looks = looks_from line n 0 fs; calls = []; given = [] };
    nothing_given = refl;
    done = subst (λ (r : Bool). FoundIn r (look_asks means t n action) (length action.outputs) line n
        (found.Files fs) (record { line = 0; looks = looks_from line n 0 fs; calls = []; given = [] }))
        (sym remote) (refl, x.0, refl);
    told = x.1;
    berth = made_none b;
  }
  gather_answered (Result.Ok (found.Missing k)) b remote x = record {
    deed = record { line = 0; looks = looks_from line n 0 x.1.0 ++ lacks line n k ∷ []; calls = []; given = [] };
    nothing_given = refl;
    done = subst (λ (r : Bool). FoundIn r (look_asks means t n action) (length action.outputs) line n
        (found.Missing k) (record {
          line = 0;
          looks = looks_from line n 0 x.1.0 ++ lacks line n k ∷ [];
          calls = [];
          given = [];
        })) (sym remote) (refl, (x.1.0, x.1.1, refl));
    told = x.1.2;
    berth = made_none b;
  }
  gather_answered (Result.Ok (found.Exit c)) b remote x = absurd x
  gather_answered (Result.Ok found.RoomFault) b remote x = absurd x
  gather_answered (Result.Ok found.Refused) b remote x = absurd x

  -- the room was looked at
  looked_so : (g : Gathered) (old new : BerthTold) → speaks_remote means.speech ≡ false
      → MakesGather (look_asks means t n action) (Result.Ok g) old new
      → GatherActs means t rule lane line n action (Result.Ok (found_as g)) seen old new
  looked_so (gathered.Files fs) old new room x = record {
    deed = record { line = 0; looks = []; calls = x.0 ++ x.1; given = [] };
    nothing_given = refl;
    done = subst (λ (r : Bool). FoundIn r (look_asks means t n action) (length action.outputs) line n
        (found_as (gathered.Files fs)) (record { line = 0; looks = []; calls = x.0 ++ x.1; given = [] })) (sym room)
        (refl, ((gathered.Files fs), x.0, x.1, refl, refl, x.2, x.3, x.4));
    told = tt;
    berth = x.5;
  }
  looked_so (gathered.Missing k) old new room x = record {
    deed = record { line = 0; looks = []; calls = x.0 ++ x.1; given = [] };
    nothing_given = refl;
    done = subst (λ (r : Bool). FoundIn r (look_asks means t n action) (length action.outputs) line n
        (found_as (gathered.Missing k)) (record { line = 0; looks = []; calls = x.0 ++ x.1; given = [] })) (sym room)
        (refl, ((gathered.Missing k), x.0, x.1, refl, refl, x.2, x.3, x.4));
    told = tt;
    berth = x.5;
  }
  looked_so gathered.RoomFault old new room x = record {
    deed = record { line = 0; looks = []; calls = x.0 ++ x.1; given = [] };
    nothing_given = refl;
    done = subst (λ (r : Bool). FoundIn r (look_asks means t n action) (length action.outputs) line n
        (found_as gathered.RoomFault) (record { line = 0; looks = []; calls = x.0 ++ x.1; given = [] })) (sym room)
        (refl, (gathered.RoomFault, x.0, x.1, refl, refl, x.2, x.3, x.4));
    told = tt;
    berth = x.5;
  }

  pub gather_looked : (result : Result Found NoMemory) (old new : BerthTold)
      → speaks_remote means.speech ≡ false → ReportsLooks (look_asks means t n action) result old new
      → GatherActs means t rule lane line n action result seen old new
  gather_looked (Result.Ok f) old new room x =
      subst (λ (y : Found). GatherActs means t rule lane line n action (Result.Ok y) seen old new) (sym x.1)
      (looked_so x.0 old new room x.2)
  gather_looked (Result.Err e) old new room x = record {
    deed = record { line = 0; looks = []; calls = x.0 ++ x.1; given = [] };
    nothing_given = refl;
    done = inr (inl (subst (λ (cs : List BerthCall). Runs Cut (look_asks means t n action).looks cs)
        (sym (ap (λ (last : List BerthCall). x.0 ++ last) x.4 ∙ append-nil x.0)) x.2));
    told = tt;
    berth = x.5;
  }

-- ---- what may be reported

same_side : (b : Branch) → same_branch b b ≡ true
same_side Local = refl
same_side Remote = refl

same_number : (n : ℤ) → int_eq n n ≡ true
same_number n = int_eq_equiv.refl n

same_try : (t : Attempt) → same_attempt (attempt_of t.action t.branch t.number) t ≡ true
same_try t = (λ i. eq-eqb t.action t.action refl i
    && (same_side t.branch i && eq-eqb t.number t.number refl i))

pub may_wrote : (discipline : Discipline) (w : ℕ)
    (own : History) (l : ℕ) (n : ℤ) (how : Written) → OwesWrote l n (Result.Ok how) own
    → may_do discipline w (duty_of own) (call.Wrote l n how) ≡ true
may_wrote discipline w own l n how (inl x) =
    ap (λ (s : Duty). may_do discipline w s (call.Wrote l n how)) x.1
    ∙ (λ i. eq-eqb l l refl i && same_number n i)
may_wrote discipline w own l n how (inr x) =
    ap (λ (s : Duty). may_do discipline w s (call.Wrote l n how)) x.0
    ∙ (λ i. eq-eqb l l refl i && (same_number n i && x.1 i))

pub fault_report : (l : ℕ) (how : Started) → is_done how ≡ false
    → is_report (call.Launched l how) ≡ true
fault_report l start.Done e = absurd (cc)
fault_report l start.RoomFault e = refl
fault_report l start.LaunchFault e = refl

-- a Claim of what was found
pub may_claim_found : (discipline : Discipline) (w : ℕ)
    (own : History) (l : ℕ) (n : ℤ) (t : Attempt) (exit : ℤ) (refused : Bool) (f : Found)
    → duty_of own ≡ Gathers l n t exit refused
    → may_find (length (outputs_in discipline.plan t.action)) (is_remote (discipline.kinds w)) exit refused f ≡ true
    → may_do discipline w (duty_of own) (claim_of t f) ≡ true
may_claim_found discipline w own l n t exit refused f duty fits =
    ap (λ (s : Duty). may_do discipline w s (claim_of t f)) duty
    ∙ (λ i. same_try t i && fits i)

-- a Look at an output of the answer
pub may_look_at : (discipline : Discipline) (w : ℕ)
    (own : History) (l : ℕ) (n : ℤ) (t : Attempt) (k : ℕ)
    → duty_of own ≡ Gathers l n t (pos 0) false → k < length (outputs_in discipline.plan t.action)
    → may_do discipline w (duty_of own) (call.Look (wanted.Answered l n k)) ≡ true
may_look_at discipline w own l n t k duty below =
    ap (λ (s : Duty). may_do discipline w s (call.Look (wanted.Answered l n k))) duty
    ∙ (λ i. (eq-eqb l l refl i && same_number n i) && lt-ltb k (length (outputs_in discipline.plan t.action)) below i)

-- what fits an answer
pub answered_fits : (rule : History → ℕ → Call → Reply) (lane l : ℕ) (n : ℤ) (outputs : ℕ) (f : Found)
    (seen : History) → IsAnswered rule lane l n outputs f seen
    → may_find outputs true (pos 0) false f ≡ true
answered_fits rule lane l n outputs (found.Files fs) seen x = eq-eqb (length fs) outputs x.0
answered_fits rule lane l n outputs (found.Missing k) seen x = lt-ltb k outputs x.0
answered_fits rule lane l n outputs (found.Exit c) seen x = absurd x
answered_fits rule lane l n outputs found.RoomFault seen x = absurd x
answered_fits rule lane l n outputs found.Refused seen x = absurd x

pub looked_fits : (outputs : ℕ) (f : Found) → FoundFits outputs (Result.Ok f)
    → may_find outputs false (pos 0) false f ≡ true
looked_fits outputs (found.Files fs) x = eq-eqb (length fs) outputs x
looked_fits outputs (found.Missing k) x = lt-ltb k outputs x
looked_fits outputs (found.Exit c) x = absurd x
looked_fits outputs found.RoomFault x = refl
looked_fits outputs found.Refused x = absurd x

-- what is called for a Send: nothing for an executor, and else what is called in the room
pub executor_asks : (speech : Speech) (rooms : List Asked) → speaks_remote speech ≡ true
    → cond (speaks_remote speech) [] rooms ≡ []
executor_asks speech rooms is = ap (λ (x : Bool). cond x [] rooms) is

pub local_asks : (speech : Speech) (rooms : List Asked) → speaks_remote speech ≡ false
    → cond (speaks_remote speech) [] rooms ≡ rooms
local_asks speech rooms is = ap (λ (x : Bool). cond x [] rooms) is

pub due_is : (means : Means) (t : Attempt) (n : ℤ) (action : WorkAction) (inputs : List NamedFile) (room : Room)
    (x : Due) → room ≡ room_at means t n
    → x ≡ send_due means.speech (request_for n action inputs means.settings.verbose room) (job_for n action inputs)
    → x ≡ due_for means t n action inputs
due_is means t n action inputs room x of_room is = is
    ∙ ap (λ (r : Room). send_due means.speech (request_for n action inputs means.settings.verbose r)
    (job_for n action inputs)) of_room

-- ---- results

pub on_ok : {A E : Type 0} (r : Result A E) (P Q : Type 0) → (P → Q) → OnOk r P → OnOk r Q
on_ok (Result.Ok a) P Q f x = f x
on_ok (Result.Err e) P Q f x = tt

pub if_err : {A E : Type 0} (r : Result A E) (P Q : E → Type 0) → ((e : E) → P e → Q e) → IfErr r P
    → IfErr r Q
if_err (Result.Ok a) P Q f x = tt
if_err (Result.Err e) P Q f x = f e x

-- ---- the open line

-- which line is open, what is held tells too
pub line_told : {D : Type 0} (feed : D → FeedTold) (o : Option (OpenFeed D))
    → open_line (option_map (open_of feed) o) ≡ option_map (λ (y : OpenFeed D). y.line) o
line_told feed None = refl
line_told feed (Some x) = refl

pub line_is : {D : Type 0} (feed : D → FeedTold) (o : Option (OpenFeed D)) (x : OpenFeed D) (l : ℕ)
    → open_line (option_map (open_of feed) o) ≡ Some l → o ≡ Some x → x.line ≡ l
line_is {D} feed o x l is e =
    let y : Some x.line ≡ Some l = sym (ap (λ (z : Option (OpenFeed D)). open_line (option_map (open_of feed) z)) e) ∙ is in cc

pub no_line : {D : Type 0} (feed : D → FeedTold) (o : Option (OpenFeed D)) (l : ℕ)
    → open_line (option_map (open_of feed) o) ≡ Some l → o ≡ None → ⊥
no_line {D} feed o l is e =
    (let y : None ≡ Some l = sym (ap (λ (z : Option (OpenFeed D)). open_line (option_map (open_of feed) z)) e) ∙ is in cc)

pub none_open : (o : Option Open) → open_line o ≡ None → o ≡ None
none_open None is = refl
none_open (Some x) is = absurd (cc)

-- ---- what is owed after it was written

pub wrote_owed : (l : ℕ) (n : ℤ) (t : Attempt) (result : Result Written NoMemory) (own own' : History)
    → duty_of own ≡ duties.Sends l n t → own' ≡ own → OwesWrote l n result own'
wrote_owed l n t (Result.Ok how) own own' duty is = inl (t, ap duty_of is ∙ duty)
wrote_owed l n t (Result.Err e) own own' duty is = tt

pub cancel_owed : (speech : Speech) (n : ℤ) (l : ℕ) (result : Result Written NoMemory) (own : History)
    (before after : FeedTold) → duty_of own ≡ Cancels l n → CancelActs speech n result before after
    → OwesWrote l n result own
cancel_owed speech n l (Result.Ok write.Done) own before after duty x = inr (duty, refl)
cancel_owed speech n l (Result.Ok write.FeedFault) own before after duty x = inr (duty, refl)
cancel_owed speech n l (Result.Ok write.RoomFault) own before after duty x = absurd x.1
cancel_owed speech n l (Result.Ok write.TooLarge) own before after duty x = absurd x.1
cancel_owed speech n l (Result.Err e) own before after duty x = tt

-- ---- children

pub none_there : {K : Type 0} (told : K → ChildTold) (o : Option ℕ) (r : Option K)
    → IsChildThere told o r → r ≡ None → o ≡ None
none_there told None r x e = refl
none_there told (Some l) None x e = absurd x
none_there told (Some l) (Some k) x e = absurd (cc)

pub some_there : {K : Type 0} (told : K → ChildTold) (o : Option ℕ) (l : ℕ) (r : Option K) (k : K)
    → IsChildThere told o r → o ≡ Some l → r ≡ Some k → IsNewChild l (told k)
some_there {K} told o l r k x is e =
    subst (λ (y : Option K). IsChildThere told (Some l) y) e
    (subst (λ (z : Option ℕ). IsChildThere told z r) is x)
