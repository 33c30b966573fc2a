-- What is kept of an attempt says what the journal says of it.
use Rattle.std.proofs.Common.{◌≡◌, ℕ, Bool, true, false, ◌&&◌, ◌||◌, not, cond, List, [], ◌∷◌, length, get_or, ◌+◌, ◌<◌, Option, option_map, Some, None, is_some, ◌⊎◌, inl, inr, refl, ap, sym, subst, ◌∙◌}
use Rattle.std.specs.Option.{option_or}
use Rattle.std.proofs.lemmas.Bool.{or_right}
use Rattle.exec_journal.specs.declared.attempt.Attempt.{Attempt}
use Rattle.exec_journal.specs.declared.ends.Cause.{Cause}
use Rattle.exec_journal.specs.declared.call.Found.{Found}
use Rattle.exec_journal.specs.declared.call.Written.{Written}
use Rattle.exec_journal.specs.declared.call.Call.{Call}
use Rattle.exec_journal.specs.declared.call.Call.TheVariants as call
use Rattle.exec_journal.specs.declared.reply.Reply.{Reply}
use Rattle.exec_journal.specs.Entry.{Entry}
use Rattle.journal_lookback.specs.declared.attempt_state.Track.{Track}
use Rattle.list_lemmas.specs.Options.{or_else, unless_before}
use Rattle.exec_journal.specs.Entries.{Request, is_for, consumed_in, send_of_entry, ends}
use Rattle.exec_journal.specs.Words.{last_work, has_ended, answered, wrote, wrote_if, says_feed_fault, line_cause, break_at, break_by, order_of, end_cause, granted, grant_of}
use Rattle.exec_journal.specs.Attempts.{carrier_in, line_of, fault_by, fault_of, lost_cause, over, end_of}
use Rattle.journal_lookback.specs.Lookback.{front, grants, grant_fact, ended_line, lost_of, end_now, track_after, concerns, IsTrack}
use Rattle.journal_lookback.proofs.LookedBack.{front_more}

or_same : {X : Type 0} (a b : Option X) → option_or a b ≡ or_else a b
or_same None b = refl
or_same (Some x) b = refl

unless_same : {X : Type 0} (a b : Option X) → option_or b a ≡ unless_before a b
unless_same None None = refl
unless_same None (Some y) = refl
unless_same (Some x) None = refl
unless_same (Some x) (Some y) = refl

-- ---- the loss of an attempt with its line

lost_cases : (h a f : Bool) (o : Option Cause) → cond (not a || f) (cond h o None) None ≡ cond (h && (not a || f)) o None
lost_cases true true true o = refl
lost_cases true true false o = refl
lost_cases true false f o = refl
lost_cases false true true o = refl
lost_cases false true false o = refl
lost_cases false false f o = refl

same_both : {X : Type 0} (b : Bool) (x : X) → cond b x x ≡ x
same_both true x = refl
same_both false x = refl

never : (b : Bool) → (let o : Option Cause = None in cond b o o ≡ o)
never b = same_both b None

pub lost_is : (k : Track) (j : List Entry) (t : Attempt) (o : Option ℕ) → k.answered ≡ answered j t → k.wrote ≡ wrote j t → lost_of k (ended_line j o) ≡ lost_cause j t o
lost_is k j t None a w = never (not k.answered || says_feed_fault k.wrote)
lost_is k j t (Some l) a w =
    lost_cases (has_ended j l) k.answered (says_feed_fault k.wrote) (line_cause j l)
    ∙ ap (λ b. cond (has_ended j l && (not b || says_feed_fault k.wrote)) (line_cause j l) None) a
    ∙ ap (λ (v : Option Written). cond (has_ended j l && (not (answered j t) || says_feed_fault v)) (line_cause j l) None) w

-- what is over, by what is kept
over_is : (k : Track) (j : List Entry) (t : Attempt) → k.line ≡ line_of j t → k.answered ≡ answered j t → k.wrote ≡ wrote j t → k.fault ≡ fault_of j t
    → or_else k.fault (lost_of k (ended_line j k.line)) ≡ over j t
over_is k j t l a w f =
    ap (λ (o : Option Cause). or_else o (lost_of k (ended_line j k.line))) f
    ∙ ap (or_else (fault_of j t)) (lost_is k j t k.line a w ∙ ap (lost_cause j t) l)

-- ---- an entry that concerns it

pub track_entry : (k : Track) (j : List Entry) (e : Entry) (t : Attempt) → IsTrack k j t
    → IsTrack (track_after k t (last_work j e.lane) e (granted j t.action) (ended_line j k.line)) (e ∷ j) t
unfolding line_of answered wrote fault_of end_of
track_entry k j e t is = record { line = line; answer = answer; write = write; own = own; finish = finish }
  where
    next : Track
    next = track_after k t (last_work j e.lane) e (granted j t.action) (ended_line j k.line)

    line : next.line ≡ line_of (e ∷ j) t
    line = or_same (carrier_in t e.reply) k.line ∙ ap (or_else (carrier_in t e.reply)) is.line

    answer : next.answered ≡ answered (e ∷ j) t
    answer = ap (λ b. is_for t (consumed_in e.reply) || b) is.answer

    write : next.wrote ≡ wrote (e ∷ j) t
    write = unless_same (wrote_if t e.call (order_of j e.lane)) k.wrote ∙ ap (unless_before (wrote_if t e.call (order_of j e.lane))) is.write

    own : next.fault ≡ fault_of (e ∷ j) t
    own = unless_same (fault_by t (last_work j e.lane) e.call e.reply) k.fault ∙ ap (unless_before (fault_by t (last_work j e.lane) e.call e.reply)) is.own

    finish : end_now next (granted (e ∷ j) t.action) (ended_line (e ∷ j) next.line) ≡ end_of (e ∷ j) t
    finish =
        ap (λ (o : Option Cause). or_else o (cond (granted (e ∷ j) t.action) None (or_else next.fault (lost_of next (ended_line (e ∷ j) next.line))))) is.finish
        ∙ ap (λ (o : Option Cause). or_else (end_of j t) (cond (granted (e ∷ j) t.action) None o)) (over_is next (e ∷ j) t line answer write own)

-- ---- an entry that does not

-- a line that has Ended broke, at the latest then
ends_breaks : (l : ℕ) (j : List Entry) (o : Option Request) (c : Call) (x : Reply) → ends l c ≡ true → is_some (break_by j o l c x) ≡ true
ends_breaks l j o (call.Ended k how) x h = subst (λ b. is_some (cond b (Some (end_cause how)) None) ≡ true) (sym h) refl
ends_breaks l j o call.Ask x h = absurd (cc)
ends_breaks l j o (call.Launched k how) x h = absurd (cc)
ends_breaks l j o (call.Wrote k n how) x h = absurd (cc)
ends_breaks l j o (call.Look w) x h = absurd (cc)
ends_breaks l j o (call.Claim a b t f) x h = absurd (cc)
ends_breaks l j o (call.Committed a b how) x h = absurd (cc)
ends_breaks l j o (call.Killed k) x h = absurd (cc)
ends_breaks l j o call.Take x h = absurd (cc)
ends_breaks l j o (call.Answer k y) x h = absurd (cc)
ends_breaks l j o call.Halt x h = absurd (cc)
ends_breaks l j o call.Tick x h = absurd (cc)

unless_there : {X : Type 0} (a b : Option X) → is_some b ≡ true → unless_before a b ≡ b
unless_there None (Some y) h = refl
unless_there (Some x) (Some y) h = refl
unless_there a None h = absurd (cc)

unless_new : {X : Type 0} (a b : Option X) → is_some a ≡ true → is_some (unless_before a b) ≡ true
unless_new (Some x) None h = refl
unless_new (Some x) (Some y) h = refl
unless_new None b h = absurd (cc)

pub ended_broke : (l : ℕ) (j : List Entry) → has_ended j l ≡ true → is_some (line_cause j l) ≡ true
unfolding has_ended line_cause
ended_broke l [] h = absurd (cc)
ended_broke l (e ∷ j) h = by (λ k. ended_broke l j k) (ends l e.call) refl h
  where
    by : (has_ended j l ≡ true → is_some (line_cause j l) ≡ true) → (b : Bool) → ends l e.call ≡ b → (b || has_ended j l) ≡ true → is_some (unless_before (break_at l j e) (line_cause j l)) ≡ true
    by before true here k = unless_new (break_at l j e) (line_cause j l) (ends_breaks l j (order_of j e.lane) e.call e.reply here)
    by before false other k = rw (unless_there (break_at l j e) (line_cause j l) (before k)) (before k)

-- the cause of a line that has Ended stays
pub ended_line_stays : (e : Entry) (j : List Entry) (o : Option ℕ) → (ended_line j o ≡ None) ⊎ (ended_line (e ∷ j) o ≡ ended_line j o)
unfolding has_ended line_cause
ended_line_stays e j None = inl refl
ended_line_stays e j (Some l) = by (has_ended j l) refl
  where
    by : (b : Bool) → has_ended j l ≡ b → (cond (has_ended j l) (line_cause j l) None ≡ None) ⊎ (cond (ends l e.call || has_ended j l) (unless_before (break_at l j e) (line_cause j l)) None ≡ cond (has_ended j l) (line_cause j l) None)
    by false h = inl (rw h refl)
    by true h = inr (rw (h, or_right (ends l e.call) true refl, unless_there (break_at l j e) (line_cause j l) (ended_broke l j h)) refl)

-- an end that was seen is seen again, with its cause
again : (k : Track) (won : Bool) (old new : Option Cause) → (old ≡ None) ⊎ (new ≡ old)
    → end_now k won new ≡ or_else (end_now k won old) (cond won None (or_else k.fault (lost_of k new)))
again k won old new h = by k.ended won k.fault (not k.answered || says_feed_fault k.wrote) h
  where
    by : (e : Option Cause) (w : Bool) (f : Option Cause) (b : Bool) → (old ≡ None) ⊎ (new ≡ old)
        → or_else e (cond w None (or_else f (cond b new None))) ≡ or_else (or_else e (cond w None (or_else f (cond b old None)))) (cond w None (or_else f (cond b new None)))
    by (Some c) w f b h = refl
    by None true f b h = refl
    by None false (Some c) b h = refl
    by None false None false h = refl
    by None false None true (inl none) = ap (λ (o : Option Cause). or_else o new) (sym none)
    by None false None true (inr same) = sym (ap (λ (o : Option Cause). or_else o new) (sym same) ∙ twice new)
      where
        twice : (o : Option Cause) → or_else o o ≡ o
        twice None = refl
        twice (Some c) = refl

nothing : {X : Type 0} (o : Option X) → is_some o ≡ false → o ≡ None
nothing None h = refl
nothing (Some x) h = absurd (cc)

or_none : (a b : Bool) → (a || b) ≡ false → (a ≡ false) × (b ≡ false)
or_none false false h = (refl, refl)
or_none true b h = absurd (cc)
or_none false true h = absurd (cc)

pub record IsAside (t : Attempt) (order : Option Entry) (e : Entry) : Type 0 where
  pub carrier : carrier_in t e.reply ≡ None
  pub answer : is_for t (consumed_in e.reply) ≡ false
  pub write : wrote_if t e.call (send_of_entry order) ≡ None
  pub own : fault_by t order e.call e.reply ≡ None
  pub grant : grants t.action e ≡ None

pub aside : (t : Attempt) (order : Option Entry) (e : Entry) → concerns t order e ≡ false → IsAside t order e
aside t order e h =
    let all = or_none (is_some (carrier_in t e.reply) || is_for t (consumed_in e.reply)) _ h in
    let front = or_none (is_some (carrier_in t e.reply)) (is_for t (consumed_in e.reply)) all.0 in
    let back = or_none (is_some (wrote_if t e.call (send_of_entry order)) || is_some (fault_by t order e.call e.reply)) (is_some (grants t.action e)) all.1 in
    let mid = or_none (is_some (wrote_if t e.call (send_of_entry order))) (is_some (fault_by t order e.call e.reply)) back.0 in
    record { carrier = nothing _ front.0; answer = front.1; write = nothing _ mid.0; own = nothing _ mid.1; grant = nothing _ back.1 }

pub granted_aside : (e : Entry) (j : List Entry) (a : ℕ) → grants a e ≡ None → granted (e ∷ j) a ≡ granted j a
unfolding granted grant_of
granted_aside e j a h = rw h refl

pub track_aside : (k : Track) (j : List Entry) (e : Entry) (t : Attempt) → IsAside t (last_work j e.lane) e → IsTrack k j t → IsTrack k (e ∷ j) t
unfolding line_of answered wrote fault_of end_of
track_aside k j e t out is = record { line = line; answer = answer; write = write; own = own; finish = finish }
  where
    line : k.line ≡ line_of (e ∷ j) t
    line = is.line ∙ sym (ap (λ (o : Option ℕ). or_else o (line_of j t)) out.carrier)

    answer : k.answered ≡ answered (e ∷ j) t
    answer = is.answer ∙ sym (ap (λ b. b || answered j t) out.answer)

    write : k.wrote ≡ wrote (e ∷ j) t
    write = is.write ∙ sym (ap (λ (o : Option Written). unless_before o (wrote j t)) out.write)

    own : k.fault ≡ fault_of (e ∷ j) t
    own = is.own ∙ sym (ap (λ (o : Option Cause). unless_before o (fault_of j t)) out.own)

    finish : end_now k (granted (e ∷ j) t.action) (ended_line (e ∷ j) k.line) ≡ end_of (e ∷ j) t
    finish =
        ap (λ b. end_now k b (ended_line (e ∷ j) k.line)) (granted_aside e j t.action out.grant)
        ∙ again k (granted j t.action) (ended_line j k.line) (ended_line (e ∷ j) k.line) (ended_line_stays e j k.line)
        ∙ ap (λ (o : Option Cause). or_else o (cond (granted j t.action) None (or_else k.fault (lost_of k (ended_line (e ∷ j) k.line))))) is.finish
        ∙ ap (λ (o : Option Cause). or_else (end_of j t) (cond (granted j t.action) None o)) (over_is k (e ∷ j) t line answer write own)
        ∙ ap (λ b. or_else (end_of j t) (cond b None (over (e ∷ j) t))) (sym (granted_aside e j t.action out.grant))

-- ---- of the empty journal

pub track_new : (k : Track) (t : Attempt) → k.line ≡ None → k.answered ≡ false → k.wrote ≡ None → k.fault ≡ None → k.ended ≡ None → IsTrack k [] t
unfolding line_of answered wrote fault_of end_of granted grant_of
track_new k t l a w f e = record { line = l; answer = a; write = w; own = f; finish = rw (e, f, l) (never (not k.answered || says_feed_fault k.wrote)) }

-- ---- the next entry of a journal that is gone through

some_map_same : (o : Option (Attempt × Found)) → is_some (option_map grant_fact o) ≡ is_some o
some_map_same None = refl
some_map_same (Some x) = refl

granted_more : (e : Entry) (j : List Entry) (a : ℕ) → (granted j a || is_some (option_map grant_fact (grants a e))) ≡ granted (e ∷ j) a
unfolding granted grant_of
granted_more e j a = ap (λ b. granted j a || b) (some_map_same (grants a e)) ∙ by (grants a e) (grant_of j a)
  where
    by : (o q : Option (Attempt × Found)) → (is_some q || is_some o) ≡ is_some (unless_before o q)
    by None None = refl
    by None (Some x) = refl
    by (Some x) None = refl
    by (Some x) (Some y) = refl

-- what is kept and whether the action has a grant
pub record Follows (k : Track) (won : Bool) (j : List Entry) (t : Attempt) : Type 0 where
  pub track : IsTrack k j t
  pub grant : won ≡ granted j t.action

next_front : (es : List Entry) (i : ℕ) (e : Entry) → i < length es → e ≡ get_or es i e → e ∷ front es i ≡ front es (i + 1)
next_front es i e lt is = sym (front_more es i e lt ∙ ap (λ (d : Entry). d ∷ front es i) (sym is))

pub follow_concerned : (es : List Entry) (i : ℕ) (e : Entry) (k : Track) (t : Attempt) (won : Bool) → i < length es → e ≡ get_or es i e → Follows k won (front es i) t
    → (order : Option Entry) → order ≡ last_work (front es i) e.lane → (lost : Option Cause) → lost ≡ ended_line (front es i) k.line
    → (new : Track) → new ≡ track_after k t order e won lost → (now : Bool) → now ≡ (won || is_some (option_map grant_fact (grants t.action e))) → Follows new now (front es (i + 1)) t
follow_concerned es i e k t won lt is old order work lost line new made now grant =
    let j = front es i in
    let after : new ≡ track_after k t (last_work j e.lane) e (granted j t.action) (ended_line j k.line) =
    (made ∙ ap (λ (o : Option Entry). track_after k t o e won lost) work ∙ ap (λ b. track_after k t (last_work j e.lane) e b lost) old.grant
    ∙ ap (λ (o : Option Cause). track_after k t (last_work j e.lane) e (granted j t.action) o) line) in
    subst (λ (h : List Entry). Follows new now h t) (next_front es i e lt is)
    (record {
      track = subst (λ (x : Track). IsTrack x (e ∷ j) t) (sym after) (track_entry k j e t old.track);
      grant = grant ∙ ap (λ b. b || is_some (option_map grant_fact (grants t.action e))) old.grant ∙ granted_more e j t.action;
    })

pub follow_aside : (es : List Entry) (i : ℕ) (e : Entry) (k : Track) (t : Attempt) (won : Bool) → i < length es → e ≡ get_or es i e → Follows k won (front es i) t
    → (order : Option Entry) → order ≡ last_work (front es i) e.lane → concerns t order e ≡ false → Follows k won (front es (i + 1)) t
follow_aside es i e k t won lt is old order work none =
    let j = front es i in
    let out = aside t (last_work j e.lane) e (subst (λ (o : Option Entry). concerns t o e ≡ false) work none) in
    subst (λ (h : List Entry). Follows k won h t) (next_front es i e lt is)
    (record { track = track_aside k j e t out old.track; grant = old.grant ∙ sym (granted_aside e j t.action out.grant) })

pub follow_new : (k : Track) (t : Attempt) → k.line ≡ None → k.answered ≡ false → k.wrote ≡ None → k.fault ≡ None → k.ended ≡ None → Follows k false [] t
unfolding granted grant_of
follow_new k t l a w f e = record { track = track_new k t l a w f e; grant = refl }

-- the value of a `||` by its branch
pub or_then : (won now x : Bool) → won ≡ true → now ≡ won → now ≡ (won || x)
or_then won now x h is = is ∙ h ∙ sym (ap (λ b. b || x) h)

pub or_other : (won now x : Bool) → won ≡ false → now ≡ x → now ≡ (won || x)
or_other won now x h is = is ∙ sym (ap (λ b. b || x) h)
