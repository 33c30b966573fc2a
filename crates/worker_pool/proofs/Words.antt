-- What an entry leaves of the words on lines and actions.
use Rattle.std.proofs.Common.{◌≡◌, ℕ, ◌/◌, ◌==◌, Bool, true, false, ◌&&◌, ◌||◌, not, cond, List, [], ◌∷◌, Option, Some, None, is_some, refl, ap, ◌∙◌}
use Rattle.std.specs.List.{filter}
use Rattle.std.proofs.lemmas.Bool.{and_parts}
use Rattle.run_plan.specs.declared.plan.Branch.{Branch}
use Rattle.run_plan.specs.declared.plan.Plan.{Plan}
use Rattle.exec_journal.specs.declared.attempt.Attempt.{Attempt}
use Rattle.exec_journal.specs.declared.ends.Cause.{Cause}
use Rattle.exec_journal.specs.Entry.{Entry}
use Rattle.exec_journal.specs.declared.call.Call.{Call}
use Rattle.exec_journal.specs.declared.call.Call.TheVariants as call
use Rattle.exec_journal.specs.declared.call.Started.TheVariants as start
use Rattle.exec_journal.specs.declared.call.Written.{Written}
use Rattle.exec_journal.specs.declared.call.Written.TheVariants as write
use Rattle.exec_journal.specs.declared.reply.Reply.{Reply}
use Rattle.exec_journal.specs.declared.reply.Reply.TheVariants as reply
use Rattle.list_lemmas.specs.Options.{or_else, unless_before}
use Rattle.exec_journal.specs.Entries.{Request, launch_in, send_in, consumed_in, granted_in, committed_in, starts, ends, kills}
use Rattle.exec_journal.specs.Words.{line_count, launch_of, last_line, started, has_ended, was_killed, sends, sent_on, was_sent, answered, wrote, wrote_at, wrote_if, says_unwritten, says_feed_fault, is_pending, pending, line_cause, break_by, order_of, last_work, grant_of, granted, commit_of}
use Rattle.exec_journal.specs.Attempts.{carrier_in, line_of, fault_of, fault_at, fault_by, lost_cause, over, ended}
use Rattle.exec_journal.specs.Settled.{bound}
use Rattle.exec_journal.specs.Facts.{SameActions}
use Rattle.exec_journal.proofs.Quiet.{ended_same, bound_same}
use Rattle.worker_pool.specs.Entries.{is_aside_call, is_aside_reply, is_aside, ends_nothing, is_among}

-- with this entry nothing is bound to these lines any longer, and to each other line something is where it was before
pub record Unbinds (p : Plan) (j : List Entry) (e : Entry) (ls : List ℕ) : Type 0 where
  pub each : (l : ℕ) → is_some (bound p (e ∷ j) l) ≡ (not (is_among l ls) && is_some (bound p j l))

pub none_both : {X : Type 0} (b : Bool) → ◌≡◌ {A = Option X} (cond b None None) None
none_both true = refl
none_both false = refl

-- ---- an entry that launches nothing

module _ (e : Entry) (j : List Entry) (plain : launch_in e.reply ≡ None) where
  pub launch_same : (l : ℕ) → launch_of (e ∷ j) l ≡ launch_of j l
  unfolding launch_of
  launch_same l = rw plain refl

  pub last_same : (w : ℕ) → last_line (e ∷ j) w ≡ last_line j w
  unfolding last_line
  last_same w = rw plain (ap (λ (o : Option ℕ). or_else o (last_line j w)) (none_both (e.lane / 2 == w)))

  pub count_same : line_count (e ∷ j) ≡ line_count j
  unfolding line_count
  count_same = rw plain refl

-- ---- an entry that sends nothing

unsent_on : (x : Reply) (l : ℕ) → send_in x ≡ None → sent_on l x ≡ None
unsent_on (reply.Send k n a b t) l h = absurd (cc)
unsent_on _ l h = refl

pub sent_same : (e : Entry) (j : List Entry) → send_in e.reply ≡ None → (t : Attempt) → was_sent (e ∷ j) t ≡ was_sent j t
unfolding was_sent
sent_same e j unsent t = rw unsent refl

pub sends_same : (e : Entry) (j : List Entry) → send_in e.reply ≡ None → (l : ℕ) → sends (e ∷ j) l ≡ sends j l
unfolding sends
sends_same e j unsent l = rw (unsent_on e.reply l unsent) refl

pub filter_same : {X : Type 0} (f g : X → Bool) (xs : List X) → ((x : X) → f x ≡ g x) → filter f xs ≡ filter g xs
filter_same f g [] h = refl
filter_same f g (x ∷ xs) h = rw (h x, filter_same f g xs h) refl

pub pending_same : (e : Entry) (j : List Entry) → send_in e.reply ≡ None → ((q : Request) → is_pending (e ∷ j) q ≡ is_pending j q) → (l : ℕ) → pending (e ∷ j) l ≡ pending j l
unfolding pending
pending_same e j unsent same l = filter_same (is_pending (e ∷ j)) (is_pending j) (sends (e ∷ j) l) same ∙ ap (filter (is_pending j)) (sends_same e j unsent l)

-- ---- writes

-- a Wrote that doesn't say that a request wasn't written leaves unwritten what was
pub unwritten_same : (o q : Option Written) → says_unwritten o ≡ false → says_unwritten (unless_before o q) ≡ says_unwritten q
unwritten_same None q h = refl
unwritten_same (Some how) None h = h
unwritten_same (Some how) (Some k) h = refl

pub feed_same : (o q : Option Written) → says_feed_fault o ≡ false → says_feed_fault (unless_before o q) ≡ says_feed_fault q
feed_same None q h = refl
feed_same (Some how) None h = h
feed_same (Some how) (Some k) h = refl

pub is_pending_same : (e : Entry) (j : List Entry) (q : Request) → answered (e ∷ j) q.attempt ≡ answered j q.attempt → says_unwritten (wrote (e ∷ j) q.attempt) ≡ says_unwritten (wrote j q.attempt) → has_ended (e ∷ j) q.line ≡ has_ended j q.line
    → is_pending (e ∷ j) q ≡ is_pending j q
unfolding is_pending
is_pending_same e j q a w h = λ i. not (a i) && (not (w i) && not (h i))

-- ---- attempts that don't end

pub over_same : (e : Entry) (j : List Entry) (t : Attempt) → fault_at t j e ≡ None → carrier_in t e.reply ≡ None → ((l : ℕ) → has_ended (e ∷ j) l ≡ has_ended j l) → answered (e ∷ j) t ≡ answered j t
    → says_feed_fault (wrote (e ∷ j) t) ≡ says_feed_fault (wrote j t) → ((l : ℕ) → has_ended j l ≡ true → line_cause (e ∷ j) l ≡ line_cause j l) → over (e ∷ j) t ≡ over j t
unfolding fault_of line_of
over_same e j t fault carrier ended_too answer feed cause =
    rw (fault, carrier) (ap (λ (o : Option Cause). or_else (fault_of j t) o) (lost (line_of j t)))
  where
    at : (h y : Bool) (new old : Option Cause) → (h ≡ true → new ≡ old) → cond (h && y) new None ≡ cond (h && y) old None
    at true y new old same = ap (λ (o : Option Cause). cond y o None) (same refl)
    at false y new old same = refl

    lost : (o : Option ℕ) → lost_cause (e ∷ j) t o ≡ lost_cause j t o
    lost None = refl
    lost (Some l) =
        (λ i. cond (ended_too l i && (not (answer i) || feed i)) (line_cause (e ∷ j) l) None)
        ∙ at (has_ended j l) (not (answered j t) || says_feed_fault (wrote j t)) (line_cause (e ∷ j) l) (line_cause j l) (cause l)

pub same_actions : (e : Entry) (j : List Entry) → ((t : Attempt) → ended (e ∷ j) t ≡ ended j t) → granted_in e.call e.reply ≡ None → ((a : ℕ) (b : Branch) → committed_in a b e.call ≡ None) → SameActions j (e ∷ j)
unfolding grant_of commit_of
same_actions e j ended_too grant commit = record {
  grant = λ a. rw grant refl;
  commit = λ a b. rw (commit a b) refl;
  ended_too = ended_too;
}

pub granted_same : (e : Entry) (j : List Entry) (a : ℕ) → granted_in e.call e.reply ≡ None → granted (e ∷ j) a ≡ granted j a
unfolding granted grant_of
granted_same e j a grant = rw grant refl

-- where none ends, what is bound stays
pub unbinds_nothing : (p : Plan) (e : Entry) (j : List Entry) → launch_in e.reply ≡ None → send_in e.reply ≡ None → SameActions j (e ∷ j) → Unbinds p j e []
unbinds_nothing p e j plain unsent same = record { each = λ l. ap is_some (bound_same p j (e ∷ j) same l (launch_same e j plain l) (sent_same e j unsent)) }

-- ---- an entry that says nothing of lines and requests

pub aside_launch : (x : Reply) → is_aside_reply x ≡ true → launch_in x ≡ None
aside_launch (reply.Launch l a b t) h = absurd (cc)
aside_launch _ h = refl

pub aside_send : (x : Reply) → is_aside_reply x ≡ true → send_in x ≡ None
aside_send (reply.Send l n a b t) h = absurd (cc)
aside_send _ h = refl

pub aside_carrier : (t : Attempt) (x : Reply) → is_aside_reply x ≡ true → carrier_in t x ≡ None
aside_carrier t (reply.Launch l a b u) h = absurd (cc)
aside_carrier t (reply.Send l n a b u) h = absurd (cc)
aside_carrier t _ h = refl

aside_consumed : (x : Reply) → is_aside_reply x ≡ true → consumed_in x ≡ None
aside_consumed (reply.Matched a b t) h = absurd (cc)
aside_consumed (reply.Late a b t) h = absurd (cc)
aside_consumed _ h = refl

aside_start : (l : ℕ) (c : Call) → is_aside_call c ≡ true → starts l c ≡ false
aside_start l (call.Launched k start.Done) h = absurd (cc)
aside_start l (call.Launched k start.RoomFault) h = refl
aside_start l (call.Launched k start.LaunchFault) h = refl
aside_start l _ h = refl

aside_end : (l : ℕ) (c : Call) → is_aside_call c ≡ true → ends l c ≡ false
aside_end l (call.Ended k how) h = absurd (cc)
aside_end l _ h = refl

aside_kill : (l : ℕ) (c : Call) → is_aside_call c ≡ true → kills l c ≡ false
aside_kill l (call.Killed k) h = absurd (cc)
aside_kill l _ h = refl

aside_break : (j : List Entry) (o : Option Request) (l : ℕ) (c : Call) (x : Reply) → is_aside_call c ≡ true → is_aside_reply x ≡ true → break_by j o l c x ≡ None
aside_break j o l (call.Wrote k n write.Done) x h g = none_both (k == l)
aside_break j o l (call.Wrote k n _) x h g = absurd (cc)
aside_break j o l (call.Answer k a) (reply.Breach y) h g = absurd (cc)
aside_break j o l (call.Ended k how) x h g = absurd (cc)
aside_break j o l _ _ h g = refl

done_if : (b : Bool) → (says_unwritten (cond b (Some write.Done) None) ≡ false) × (says_feed_fault (cond b (Some write.Done) None) ≡ false)
done_if true = (refl, refl)
done_if false = (refl, refl)

aside_write : (t : Attempt) (c : Call) (o : Option Request) → is_aside_call c ≡ true → (says_unwritten (wrote_if t c o) ≡ false) × (says_feed_fault (wrote_if t c o) ≡ false)
aside_write t (call.Wrote l n write.Done) (Some r) h = done_if _
aside_write t (call.Wrote l n write.Done) None h = (refl, refl)
aside_write t (call.Wrote l n _) o h = absurd (cc)
aside_write t _ o h = (refl, refl)

module _ (e : Entry) (j : List Entry) (aside : is_aside e ≡ true) where
  abbrev by_call : is_aside_call e.call ≡ true
  by_call = (and_parts (is_aside_call e.call) (is_aside_reply e.reply) aside).0

  abbrev pub by_reply : is_aside_reply e.reply ≡ true
  by_reply = (and_parts (is_aside_call e.call) (is_aside_reply e.reply) aside).1

  pub aside_started : (l : ℕ) → started (e ∷ j) l ≡ started j l
  unfolding started
  aside_started l = rw (aside_start l e.call by_call) refl

  pub aside_ended : (l : ℕ) → has_ended (e ∷ j) l ≡ has_ended j l
  unfolding has_ended
  aside_ended l = rw (aside_end l e.call by_call) refl

  pub aside_killed : (l : ℕ) → was_killed (e ∷ j) l ≡ was_killed j l
  unfolding was_killed
  aside_killed l = rw (aside_kill l e.call by_call) refl

  pub aside_cause : (l : ℕ) → line_cause (e ∷ j) l ≡ line_cause j l
  unfolding line_cause
  aside_cause l = rw (aside_break j (order_of j e.lane) l e.call e.reply by_call by_reply) refl

  pub aside_answered : (t : Attempt) → answered (e ∷ j) t ≡ answered j t
  unfolding answered
  aside_answered t = rw (aside_consumed e.reply by_reply) refl

  aside_unwritten : (t : Attempt) → says_unwritten (wrote (e ∷ j) t) ≡ says_unwritten (wrote j t)
  unfolding wrote
  aside_unwritten t = unwritten_same (wrote_at t j e) (wrote j t) (aside_write t e.call (order_of j e.lane) by_call).0

  pub aside_feed : (t : Attempt) → says_feed_fault (wrote (e ∷ j) t) ≡ says_feed_fault (wrote j t)
  unfolding wrote
  aside_feed t = feed_same (wrote_at t j e) (wrote j t) (aside_write t e.call (order_of j e.lane) by_call).1

  pub aside_pending : (l : ℕ) → pending (e ∷ j) l ≡ pending j l
  aside_pending = pending_same e j (aside_send e.reply by_reply) (λ q. is_pending_same e j q (aside_answered q.attempt) (aside_unwritten q.attempt) (aside_ended q.line))

  pub aside_unbinds : (p : Plan) → SameActions j (e ∷ j) → Unbinds p j e []
  aside_unbinds p same = unbinds_nothing p e j (aside_launch e.reply by_reply) (aside_send e.reply by_reply) same

  module _ (nothing : ends_nothing e.call ≡ true) where
    no_fault : (t : Attempt) (last : Option Entry) (c : Call) (x : Reply) → is_aside_call c ≡ true → ends_nothing c ≡ true → fault_by t last c x ≡ None
    no_fault t last (call.Launched l how) x h g = absurd (cc)
    no_fault t last (call.Claim a b u f) x h g = absurd (cc)
    no_fault t last (call.Wrote l n write.Done) x h g = none_both _
    no_fault t last (call.Wrote l n _) x h g = absurd (cc)
    no_fault t last _ x h g = refl

    no_grant : (c : Call) (x : Reply) → ends_nothing c ≡ true → granted_in c x ≡ None
    no_grant (call.Claim a b u f) x g = absurd (cc)
    no_grant _ x g = refl

    no_commit : (c : Call) (a : ℕ) (b : Branch) → ends_nothing c ≡ true → committed_in a b c ≡ None
    no_commit (call.Committed d f how) a b g = absurd (cc)
    no_commit _ a b g = refl

    pub quiet_actions : SameActions j (e ∷ j)
    quiet_actions =
        same_actions e j
        (λ t. ended_same e j t
        (over_same e j t (no_fault t (last_work j e.lane) e.call e.reply by_call nothing) (aside_carrier t e.reply by_reply) aside_ended (aside_answered t) (aside_feed t) (λ l h. aside_cause l))
        (granted_same e j t.action (no_grant e.call e.reply nothing)))
        (no_grant e.call e.reply nothing) (λ a b. no_commit e.call a b nothing)
