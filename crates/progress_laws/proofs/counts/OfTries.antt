-- Of each attempt there is at most one Launch, one Send, one answer, and one Gather or Cancel.
use Rattle.std.proofs.Common.{◌≡◌, ℕ, ◌≤◌, Bool, true, false, ◌&&◌, ◌||◌, not, List, ◌∷◌, Option, Some, None, is_some, inl, inr, refl, sym, ap, subst, ◌∙◌}
use Rattle.std.specs.Prelude.{count_by}
use Rattle.std.specs.List.{filter}
use Rattle.std.proofs.lemmas.Bool.{eq-eqb, and_from, and_parts, or_cases, or_from, or_left, or_right}
use Rattle.std.proofs.lemmas.Bool.Decides.{Decides-int_eq}
use Rattle.run_plan.specs.declared.plan.Plan.{Plan}
use Rattle.exec_journal.specs.declared.attempt.Attempt.{Attempt}
use Rattle.exec_journal.specs.declared.call.Call.{Call}
use Rattle.exec_journal.specs.declared.reply.Reply.{Reply}
use Rattle.exec_journal.specs.declared.reply.Reply.TheVariants as reply
use Rattle.exec_journal.specs.Entry.{Entry}
use Rattle.exec_journal.specs.Entries.{Request, attempt_of, is_for, launch_in, send_in, gather_in}
use Rattle.exec_journal.specs.Facts.{begun}
use Rattle.exec_journal.specs.Lawful.{Lawful}
use Rattle.exec_journal.specs.Rules as r
use Rattle.exec_journal.specs.Rules.{gathered, is_unwanted}
use Rattle.exec_journal.specs.Settled.{wanted}
use Rattle.exec_journal.specs.Words.{broke, cancels, granted, has_cancel, is_pending, live, pending, sends, started, was_sent}
use Rattle.exec_journal.proofs.Begins.{same_attempt_refl}
use Rattle.exec_journal.proofs.Histories.{all_filter, all_oldest}
use Rattle.exec_journal.proofs.Reasons as u
use Rattle.exec_journal.proofs.Ruled.{not_true}
use Rattle.journal_laws.proofs.Carried as k
use Rattle.journal_laws.proofs.Claims as c
use Rattle.journal_laws.proofs.Claims.{clash, false_by}
use Rattle.journal_laws.proofs.Firm as f
use Rattle.journal_laws.proofs.Keeping as ke
use Rattle.journal_laws.proofs.Known as kn
use Rattle.journal_laws.proofs.Offered as of
use Rattle.journal_laws.proofs.Over as v
use Rattle.journal_laws.proofs.Requests as q
use Rattle.journal_laws.proofs.Stops as st
use Rattle.call_laws.specs.Moments.{IsClean}
use Rattle.call_laws.proofs.Requested as re
use Rattle.progress_laws.specs.Few.{most_tries}
use Rattle.progress_laws.proofs.counts.Sorts.{follows_up}
use Rattle.progress_laws.proofs.counts.Sent.{IsAsked, request_of, request_stays, requests_asked}
use Rattle.progress_laws.proofs.counts.Tallies.{IsFirst, Tells, each_lawful, few}
use Rattle.progress_laws.proofs.counts.Tries.{begun_among, tries, tries_length}

-- if each entry of a kind is the first of an attempt, the plan allows as many of the kind
pub few_of_tries : (p : Plan) (kind : Entry → Bool) (seen : List Entry → Attempt → Bool)
    → ((e : Entry) (j : List Entry) → Lawful p (e ∷ j) → Tells (tries p) kind seen j e)
    → (j : List Entry) → Lawful p j → count_by kind j ≤ most_tries p
few_of_tries p kind seen tell j legal =
    subst (λ n. count_by kind j ≤ n) (tries_length p)
    (few (tries p) kind seen j (each_lawful p (Tells (tries p) kind seen) tell j legal))

-- ---- Launches

pub launches_few : (p : Plan) → 1 ≤ p.limit → (j : List Entry) → Lawful p j
    → count_by (λ e. is_some (launch_in e.reply)) j ≤ most_tries p
launches_few p least = few_of_tries p (λ e. is_some (launch_in e.reply)) begun one
  where
    one : (e : Entry) (j : List Entry) → Lawful p (e ∷ j)
        → Tells (tries p) (λ d. is_some (launch_in d.reply)) begun j e
    one e j legal = record {
      stays = λ t h. c.begun_later e j t h;
      first = λ h.
          let x = v.some_is (launch_in e.reply) h in
          let start = st.begun_here e j (x.0).1 (c.launch_begins e.reply x.0 x.1) in
          record {
            thing = (x.0).1;
            among = begun_among p (e ∷ j) (x.0).1 least legal start;
            before = (c.launch_next p e j x.0 legal x.1).unbegun;
            now = start;
          };
    }

-- ---- Sends

pub sends_few : (p : Plan) → 1 ≤ p.limit → (j : List Entry) → Lawful p j
    → count_by (λ e. is_some (send_in e.reply)) j ≤ most_tries p
sends_few p least = few_of_tries p (λ e. is_some (send_in e.reply)) was_sent one
  where
    one : (e : Entry) (j : List Entry) → Lawful p (e ∷ j)
        → Tells (tries p) (λ d. is_some (send_in d.reply)) was_sent j e
    one e j legal = record {
      stays = λ t h. k.sent_later e j t h;
      first = λ h.
          let x = v.some_is (send_in e.reply) h in
          let sent = q.sent_now e j x.0 x.1 in
          record {
            thing = (x.0).attempt;
            among = begun_among p (e ∷ j) (x.0).attempt least legal
                (k.sent_begun (e ∷ j) (x.0).attempt sent);
            before = (of.fresh_send p e j x.0 legal x.1).unsent;
            now = sent;
          };
    }

-- ---- Gathers and Cancels

-- a Cancel of the request was ordered, and its action has a grant
abbrev withdrawn_by : List Entry → Attempt → Option Request → Bool
withdrawn_by j t (Some x) = has_cancel j x && granted j t.action
withdrawn_by j t None = false

-- a Gather of the attempt was ordered; or a Cancel of its request, and its action has a grant
followed_up : List Entry → Attempt → Bool
followed_up j t = gathered j t || withdrawn_by j t (request_of j t)

gathered_later : (e : Entry) (j : List Entry) (t : Attempt) → gathered j t ≡ true
    → gathered (e ∷ j) t ≡ true
unfolding gathered
gathered_later e j t h = or_right (is_for t (gather_in e.reply)) _ h

gathered_here : (e : Entry) (j : List Entry) (t : Attempt) → gather_in e.reply ≡ Some t
    → gathered (e ∷ j) t ≡ true
unfolding gathered
gathered_here e j t h = or_left (is_for t (gather_in e.reply)) _ (ap (is_for t) h
    ∙ same_attempt_refl t)

cancel_later : (e : Entry) (j : List Entry) (x : Request) → has_cancel j x ≡ true
    → has_cancel (e ∷ j) x ≡ true
unfolding has_cancel
cancel_later e j x h = or_right (cancels x e.reply && was_sent j x.attempt) _ h

cancel_here : (e : Entry) (j : List Entry) (x : Request) → e.reply ≡ reply.Cancel x.line x.number
    → was_sent j x.attempt ≡ true → has_cancel (e ∷ j) x ≡ true
unfolding has_cancel
cancel_here e j x is sent =
    or_left (cancels x e.reply && was_sent j x.attempt) _ (and_from _ _
    (ap (cancels x) is ∙ and_from _ _ (eq-eqb x.line x.line refl)
    ((Decides-int_eq x.number x.number).1 refl)) sent)

withdrawn_later : (p : Plan) (e : Entry) (j : List Entry) (t : Attempt) → Lawful p (e ∷ j)
    → (o : Option Request) → request_of j t ≡ o
    → withdrawn_by j t o ≡ true → withdrawn_by (e ∷ j) t (request_of (e ∷ j) t) ≡ true
withdrawn_later p e j t legal None is h = absurd (cc)
withdrawn_later p e j t legal (Some x) is h =
    let parts = and_parts (has_cancel j x) _ h in
    ap (withdrawn_by (e ∷ j) t) (request_stays p e j t x legal is)
    ∙ and_from _ _ (cancel_later e j x parts.0) (f.granted_stays e j t.action parts.1)

followed_later : (p : Plan) (e : Entry) (j : List Entry) (t : Attempt) → Lawful p (e ∷ j)
    → followed_up j t ≡ true → followed_up (e ∷ j) t ≡ true
unfolding followed_up
followed_later p e j t legal h = elim (or_cases (gathered j t) _ h) [
  | inl done ↦ or_left _ _ (gathered_later e j t done)
  | inr off ↦ or_right (gathered (e ∷ j) t) _
      (withdrawn_later p e j t legal (request_of j t) refl off)
]

-- without a grant none was
unwon : (j : List Entry) (t : Attempt) → granted j t.action ≡ false → (o : Option Request)
    → withdrawn_by j t o ≡ false
unwon j t free None = refl
unwon j t free (Some x) = false_by _ (λ h. clash _ (and_parts (has_cancel j x) _ h).1 free)

is_won : (b : Bool) → false ≡ not b → b ≡ true
is_won true h = refl
is_won false h = absurd (cc)

live_whole : (j : List Entry) (l : ℕ) → live j l ≡ true → broke j l ≡ false
unfolding live
live_whole j l h = not_true _ (and_parts (not (broke j l)) _ (and_parts (started j l) _ h).1).0

-- what is cancelled: a pending request that isn't wanted, so its action has a grant
record IsDue (j : List Entry) (x : Request) : Type 0 where
  pub sent : was_sent j x.attempt ≡ true
  pub own : request_of j x.attempt ≡ Some x
  pub ungathered : gathered j x.attempt ≡ false
  pub uncancelled : has_cancel j x ≡ false
  pub won : granted j x.attempt.action ≡ true

-- the request that a Cancel names is such a one
cancel_due : (p : Plan) (j : List Entry) (l : ℕ) (x : Request) → Lawful p j → live j l ≡ true
    → r.oldest (filter (λ y. is_unwanted p j y && not (has_cancel j y)) (pending j l)) ≡ Some x
    → IsDue j x
unfolding pending
cancel_due p j l x legal alive which =
    let test : Request → Bool = λ y. is_unwanted p j y && not (has_cancel j y) in
    let all = ke.filter_passes (λ z. IsAsked j l z × (is_pending j z ≡ true)) test _
    (ke.filter_passes (IsAsked j l) (is_pending j) (sends j l) (requests_asked p j l legal)) in
    let at = all_oldest (λ (z : Request). (IsAsked j l z × (is_pending j z ≡ true))
    × (test z ≡ true)) _ x all which in
    let asked = at.0.0 in
    let clean = all_oldest (λ (z : Request). IsClean j z.attempt) _ x
    (all_filter (λ (z : Request). IsClean j z.attempt) test _
    (re.pending_clean p j l legal (live_whole j l alive))) which in
    let going = q.pending_going p j l x legal asked.on at.0.1 in
    let off : wanted p j x.attempt.action x.attempt.branch ≡ false =
    not_true _ (and_parts (is_unwanted p j x) _ at.1).0 in
    record {
      sent = asked.on.sent;
      own = asked.own;
      ungathered = clean.ungathered;
      uncancelled = not_true _ (and_parts (is_unwanted p j x) _ at.1).1;
      won = is_won (granted j x.attempt.action) (sym off
          ∙ f.going_wanted p j x.attempt legal going);
    }

-- a Gather or a Cancel is the first of either of its attempt
follow_one : (p : Plan) → 1 ≤ p.limit → (e : Entry) (j : List Entry) → Lawful p (e ∷ j)
    → (d : Call) (x : Reply) → e.reply ≡ x → u.Ruled p j e.lane d x
    → u.Ruled p j e.lane e.call e.reply → follows_up x ≡ true → IsFirst (tries p) followed_up j e
unfolding followed_up
follow_one p least e j legal d x is (u.Gathers l n a b t m w next over) ruled h =
    let made : gather_in e.reply ≡ Some (attempt_of a b t) = ap gather_in is in
    let due = c.gather_is p j e.lane e.call e.reply (attempt_of a b t) ruled made in
    let going = kn.gathers_going p e j (attempt_of a b t) legal made in
    record {
      thing = attempt_of a b t;
      among = begun_among p j (attempt_of a b t) least legal.0 going.under_way.begun_yet;
      before = or_from _ _ due.ungathered
          (unwon j (attempt_of a b t) due.ungranted (request_of j (attempt_of a b t)));
      now = or_left _ _ (gathered_here e j (attempt_of a b t) made);
    }
follow_one p least e j legal d x is (u.Cancels l y here alive may which none) ruled h =
    let due = cancel_due p j l y legal.0 alive which in
    record {
      thing = y.attempt;
      among = begun_among p j y.attempt least legal.0 (k.sent_begun j y.attempt due.sent);
      before = or_from _ _ due.ungathered (ap (withdrawn_by j y.attempt) due.own
          ∙ ap (λ b. b && granted j y.attempt.action) due.uncancelled);
      now = or_right (gathered (e ∷ j) y.attempt) _
          (ap (withdrawn_by (e ∷ j) y.attempt) (request_stays p e j y.attempt y legal due.own)
          ∙ and_from _ _ (cancel_here e j y is due.sent)
          (f.granted_stays e j y.attempt.action due.won));
    }
follow_one p least e j legal d x is (u.KillsBroken l y here run broken over) ruled h = absurd (cc)
follow_one p least e j legal d x is (u.Notes z n) ruled h = absurd (cc)
follow_one p least e j legal d x is _ ruled h = absurd (cc)

pub follow_ups_few : (p : Plan) → 1 ≤ p.limit → (j : List Entry) → Lawful p j
    → count_by (λ e. follows_up e.reply) j ≤ most_tries p
follow_ups_few p least = few_of_tries p (λ e. follows_up e.reply) followed_up one
  where
    one : (e : Entry) (j : List Entry) → Lawful p (e ∷ j)
        → Tells (tries p) (λ d. follows_up d.reply) followed_up j e
    one e j legal = record {
      stays = λ t h. followed_later p e j t legal h;
      first = λ h. follow_one p least e j legal e.call e.reply refl (v.entry_ruled p e j legal)
          (v.entry_ruled p e j legal) h;
    }
