-- A berth whose lanes rest: its last line's process owes something, or the berth is free.
use Rattle.std.proofs.Common.{◌≡◌, ℕ, ◌/◌, ◌==◌, Bool, true, false, ◌&&◌, not, cond, List, [], ◌∷◌, Option, Some, None, is_some, option_map, ◌⊎◌, inl, inr, refl, sym, ap, subst, ◌∙◌}
use Rattle.std.specs.List.{list_any, filter}
use Rattle.std.proofs.lemmas.Bool.{eq-eqb, and_parts, and_from, or_cases, or_left, or_right}
use Rattle.run_plan.specs.declared.plan.Plan.{Plan}
use Rattle.exec_journal.specs.declared.ends.Cause.{Cause}
use Rattle.exec_journal.specs.declared.call.Call.TheVariants as call
use Rattle.exec_journal.specs.declared.call.HowEnded.TheVariants as end
use Rattle.exec_journal.specs.declared.call.Written.{Written}
use Rattle.exec_journal.specs.declared.call.Written.TheVariants as write
use Rattle.exec_journal.specs.declared.reply.Reply.{Reply}
use Rattle.exec_journal.specs.declared.reply.Reply.TheVariants as reply
use Rattle.exec_journal.specs.Entry.{Entry}
use Rattle.exec_journal.specs.Entries.{Request, is_for, send_in}
use Rattle.exec_journal.specs.declared.attempt.Attempt.{Attempt}
use Rattle.exec_journal.specs.Attempts.{line_of}
use Rattle.exec_journal.specs.Lawful as lw
use Rattle.exec_journal.specs.Lawful.{Lawful}
use Rattle.exec_journal.specs.Rules as r
use Rattle.exec_journal.specs.Facts.{reply_line, IsOfBerth}
use Rattle.exec_journal.specs.Words.{last_line, last_work, why_of, live, pending, is_pending, sends, wrote, says_done, started, failed, has_ended, was_killed, was_taken, was_sent, broke, line_cause}
use Rattle.exec_journal.proofs.Ruled.{by_bool, not_true}
use Rattle.exec_journal.proofs.Histories as hi
use Rattle.exec_journal.proofs.Histories.{AllOf}
use Rattle.exec_journal.proofs.Begins.{begin_in_order, same_attempt_eq}
use Rattle.journal_laws.proofs.Carried as k
use Rattle.journal_laws.proofs.Claims.{clash}
use Rattle.journal_laws.proofs.Keeping as ke
use Rattle.journal_laws.proofs.Lanes as la
use Rattle.journal_laws.proofs.Owed as o
use Rattle.journal_laws.proofs.Taps as ta
use Rattle.call_laws.specs.Moments.{is_clean}
use Rattle.call_laws.proofs.LastLines as ll
use Rattle.call_laws.proofs.Owing as ow
use Rattle.call_laws.proofs.Requested as re
use Rattle.progress_laws.specs.Quiet.{IsFree}
use Rattle.progress_laws.proofs.Options.{some_same}
use Rattle.progress_laws.specs.Awaits.{Awaits, owes_answer}

-- ---- a tap lane that hears a line

-- it was given that line
pub heard_taken : (p : Plan) (j : List Entry) (lane m : ℕ) → Lawful p j
    → lw.in_script p j lane (call.Ended m end.End) ≡ true → was_taken j m ≡ true
unfolding was_taken has_ended
heard_taken p j lane m legal may =
    let e : Entry = record { lane = lane; call = call.Ended m end.End; reply = reply.Noted } in
    let next : Lawful p (e ∷ j) = (legal, record { scripted = may; told = refl; kept = refl }) in
    ta.ended_taken p (e ∷ j) m next (or_left (m == m) _ (eq-eqb m m refl))

-- the berth's last line was given to its tap lane, where that lane rests
abbrev pub TapRests : Plan → List Entry → ℕ → Option ℕ → Type 0
TapRests p j tap last =
    (r.take_reply p j last ≡ reply.Idle) ⊎ ((m : ℕ) × (lw.in_script p j tap
    (call.Ended m end.End) ≡ true))

idle_takes : (p : Plan) (j : List Entry) (l : ℕ) → started j l ≡ true
    → r.take_reply p j (Some l) ≡ reply.Idle → was_taken j l ≡ true
idle_takes p j l up h = by (started j l) (was_taken j l) up h
  where
    by : (a b : Bool) → a ≡ true → cond (a && not b) (reply.Line l)
        (cond (r.is_over p j) reply.Stop reply.Idle) ≡ reply.Idle → b ≡ true
    by true true y z = refl
    by true false y z = absurd (cc)
    by false b y z = absurd (cc)

pub resting_taken : (p : Plan) (j : List Entry) (tap l : ℕ) → Lawful p j
    → last_line j (tap / 2) ≡ Some l → started j l ≡ true → TapRests p j tap (Some l)
    → was_taken j l ≡ true
resting_taken p j tap l legal last up (inl idle) = idle_takes p j l up idle
resting_taken p j tap l legal last up (inr hears) =
    let same : Some hears.0 ≡ Some l = sym (ll.names_last p j tap hears.0
    (call.Ended hears.0 end.End) legal hears.1 refl) ∙ last in
    subst (λ n. was_taken j n ≡ true) (some_same hears.0 l same)
    (heard_taken p j tap hears.0 legal hears.1)

-- ---- a proxy lane that isn't told to kill

unkilled_live : (j : List Entry) (l : ℕ) → started j l ≡ true → was_killed j l ≡ false
    → r.kills_broken j (Some l) ≡ None → live j l ≡ true
unfolding live
unkilled_live j l up alive whole = by (line_cause j l) refl
  where
    runs : r.runs j l ≡ true
    runs = and_from _ _ up (ap not alive)

    told : r.kills_broken j (Some l) ≡ option_map (λ y. reply.Kill l (why_of y)) (line_cause j l)
    told = rw runs refl

    by : (o : Option Cause) → line_cause j l ≡ o → live j l ≡ true
    by None is = rw (up, is, alive) refl
    by (Some y) is =
        absurd (let n : None ≡ Some (reply.Kill l (why_of y)) = sym whole ∙ told
        ∙ ap (option_map (λ z. reply.Kill l (why_of z))) is in cc)

-- ---- what is pending there

send_names : (d : Entry) (t : Attempt) → o.is_send t d ≡ true → (x : Request)
    × (send_in d.reply ≡ Some x) × (x.attempt ≡ t)
send_names d t h = by (send_in d.reply) refl h
  where
    by : (o : Option Request) → send_in d.reply ≡ o → is_for t
        (option_map (λ y. y.attempt) o) ≡ true → (x : Request) × (send_in d.reply ≡ Some x)
        × (x.attempt ≡ t)
    by (Some x) is g = (x, is, same_attempt_eq x.attempt t g)
    by None is g = absurd (cc)

send_line : (x : Reply) (y : Request) → send_in x ≡ Some y → reply_line x ≡ Some y.line
send_line (reply.Send l n a b t) y h = ap (λ (z : Option Request). option_map (λ w. w.line) z) h
send_line _ y h = absurd (cc)

-- where a lane may Ask, what was sent on its berth's lines has its Wrote
pub sent_wrote : (p : Plan) (j : List Entry) (lane l : ℕ) (t : Attempt) → Lawful p j
    → lw.in_script p j lane call.Ask ≡ true → IsOfBerth j l (lane / 2) → was_sent j t ≡ true
    → line_of j t ≡ Some l → is_some (wrote j t) ≡ true
sent_wrote p j lane l t legal asks mine sent carrier =
    ow.asking_met p j lane (o.is_send t) (ow.is_written t) legal asks
    (λ d y. ow.send_order t d.reply y) own (ow.send_met p j t legal sent)
  where
    own : (n : ℕ) (d : Entry) → last_work j n ≡ Some d → o.is_send t d ≡ true → n / 2 ≡ lane / 2
    own n d at y =
        let s = send_names d t y in
        let head = la.newest_head p j n d s.0 legal at s.1 in
        let there_on = hi.all_head (k.IsSentOn j s.0.line) (sends j s.0.line) s.0
        (k.sends_on j s.0.line (begin_in_order p j legal)) head in
        let there : line_of j t ≡ Some s.0.line = subst
        (λ (z : Attempt). line_of j z ≡ Some s.0.line) s.2 there_on.carrier in
        let same : s.0.line ≡ l = some_same s.0.line l (sym there ∙ carrier) in
        la.berths_same j l (n / 2) (lane / 2) (subst (λ i. IsOfBerth j i (n / 2)) same
        (la.newest_own_line p j n s.0.line d legal at (send_line d.reply s.0 s.1))) mine

clean_done : (w : Option Written) → is_some w ≡ true → is_clean w ≡ true → says_done w ≡ true
clean_done (Some write.Done) a b = refl
clean_done (Some write.RoomFault) a b = absurd (cc)
clean_done (Some write.FeedFault) a b = absurd (cc)
clean_done (Some write.TooLarge) a b = absurd (cc)
clean_done None a b = absurd (cc)

-- each request that is pending on an unbroken line of the berth of a lane that may Ask was written
-- whole
pub pending_done : (p : Plan) (j : List Entry) (lane l : ℕ) → Lawful p j
    → lw.in_script p j lane call.Ask ≡ true → IsOfBerth j l (lane / 2) → broke j l ≡ false
    → AllOf (λ x. says_done (wrote j x.attempt) ≡ true) (pending j l)
unfolding pending
pending_done p j lane l legal asks mine whole =
    k.all_map (λ x. k.IsSentOn j l x × (is_pending j x ≡ true))
    (λ x. says_done (wrote j x.attempt) ≡ true)
    (λ x h. clean_done (wrote j x.attempt) (sent_wrote p j lane l x.attempt legal asks mine h.0.sent
    h.0.carrier) (re.clean_request p j l x legal whole h.0 h.1).write)
    (filter (is_pending j) (sends j l))
    (ke.filter_passes (k.IsSentOn j l) (is_pending j) (sends j l)
    (k.sends_on j l (begin_in_order p j legal)))

any_or_none : (test : Request → Bool) (xs : List Request) → AllOf (λ x. test x ≡ true) xs
    → (list_any test xs ≡ true) ⊎ (xs ≡ [])
any_or_none test [] all = inr refl
any_or_none test (x ∷ xs) all = inl (or_left (test x) (list_any test xs) all.0)

-- ---- the berth

pub live_whole : (j : List Entry) (l : ℕ) → live j l ≡ true → broke j l ≡ false
unfolding live
live_whole j l up =
    not_true (broke j l) (and_parts (not (broke j l)) _ (and_parts (started j l) _ up).1).0

pub live_unkilled : (j : List Entry) (l : ℕ) → live j l ≡ true → was_killed j l ≡ false
unfolding live
live_unkilled j l up =
    not_true (was_killed j l) (and_parts (not (broke j l)) _ (and_parts (started j l) _ up).1).1

running_free : (p : Plan) (j : List Entry) (lane l : ℕ) → Lawful p j
    → lw.in_script p j lane call.Ask ≡ true → IsOfBerth j l (lane / 2)
    → r.kills_broken j (Some l) ≡ None → started j l ≡ true → was_taken j l ≡ true
    → has_ended j l ≡ false → Awaits j l ⊎ IsFree j l
running_free p j lane l legal asks mine whole up taken running =
    by_bool (was_killed j l) (λ b. was_killed j l ≡ b → Awaits j l ⊎ IsFree j l)
    (λ _ dead. inl (record {
      given = taken;
      unended = running;
      owed = or_left (was_killed j l)
          (owes_answer j l) dead;
    }))
    (λ _ alive. (let lives = unkilled_live j l up alive whole in
    elim (any_or_none (λ x. says_done (wrote j x.attempt)) (pending j l)
    (pending_done p j lane l legal asks mine (live_whole j l lives))) [
      | inl asked ↦ inl (record {
        given = taken;
        unended = running;
        owed = or_right (was_killed j l)
            (owes_answer j l) asked;
      })
      | inr none ↦ inr (inr (lives, none))
    ])) refl

over_free : (j : List Entry) (l : ℕ) → started j l ≡ true → has_ended j l ≡ true
    → r.kills_broken j (Some l) ≡ None → IsFree j l
over_free j l up over whole =
    by_bool (was_killed j l) (λ b. was_killed j l ≡ b → IsFree j l)
    (λ _ dead. inl (or_right (failed j l) _ (and_from (has_ended j l) (was_killed j l) over dead)))
    (λ _ alive. absurd (clash (broke j l) (k.ended_broke j l over)
    (live_whole j l (unkilled_live j l up alive whole)))) refl

pub berth_at_rest : (p : Plan) (j : List Entry) (proxy tap l : ℕ) → Lawful p j → proxy / 2 ≡ tap / 2
    → last_line j (proxy / 2) ≡ Some l → lw.in_script p j proxy call.Ask ≡ true
    → r.kills_broken j (Some l) ≡ None → TapRests p j tap (Some l) → Awaits j l ⊎ IsFree j l
berth_at_rest p j proxy tap l legal same last asks whole rests =
    let mine = la.here_own p j (proxy / 2) l legal last in
    elim (or_cases (started j l) (failed j l) (ow.asking_reported p j proxy l legal asks mine)) [
      | inl up ↦ (let taken = resting_taken p j tap l legal
          (subst (λ n. last_line j n ≡ Some l) same last) up rests in
          by_bool (has_ended j l) (λ b. has_ended j l ≡ b → Awaits j l ⊎ IsFree j l)
          (λ _ over. inr (over_free j l up over whole))
          (λ _ running. running_free p j proxy l legal asks mine whole up taken running) refl)
      | inr fault ↦ inr (inl (or_left (failed j l) _ fault))
    ]
