-- What an entry that launches and sends nothing leaves bound.
use Rattle.std.proofs.Common.{◌≡◌, ℕ, ◌==◌, Bool, true, false, ◌&&◌, ◌||◌, not, cond, List, [], ◌∷◌, Option, Some, None, is_some, option_map, ◌⊎◌, inl, inr, refl, ap, sym, ◌∙◌}
use Rattle.std.specs.Prelude.{ℤ}
use Rattle.std.proofs.lemmas.Bool.{or_parts, or_cases, or_right}
use Rattle.run_plan.specs.declared.plan.Branch.{Branch}
use Rattle.run_plan.specs.declared.plan.Plan.{Plan}
use Rattle.exec_journal.specs.declared.attempt.Attempt.{Attempt}
use Rattle.exec_journal.specs.declared.ends.Cause.{Cause}
use Rattle.exec_journal.specs.Entry.{Entry}
use Rattle.exec_journal.specs.declared.call.Call.TheVariants as call
use Rattle.exec_journal.specs.declared.call.Found.{Found}
use Rattle.exec_journal.specs.declared.call.HowEnded.{HowEnded}
use Rattle.exec_journal.specs.declared.call.Written.{Written}
use Rattle.exec_journal.specs.declared.reply.Reply.TheVariants as reply
use Rattle.list_lemmas.specs.Options.{or_else, unless_before}
use Rattle.exec_journal.specs.Entries.{Request, attempt_of, same_attempt, is_for, is_look, is_halt, launch_in, send_in, granted_in, send_of_entry}
use Rattle.exec_journal.specs.Words.{launch_of, has_ended, was_sent, answered, wrote, wrote_if, end_cause, says_feed_fault, line_cause, break_at, last_work, order_of, grant_of, granted}
use Rattle.exec_journal.specs.Attempts.{line_of, fault_of, fault_at, unwritten_cause, over, end_of, ended}
use Rattle.exec_journal.specs.Settled.{wanted, still_bound, if_bound, bound}
use Rattle.exec_journal.proofs.Begins.{same_attempt_eq, same_attempt_refl, bound_is, wanted_is}
use Rattle.exec_journal.proofs.Quiet.{end_settles, ended_stays}
use Rattle.exec_journal.proofs.Ruled.{by_bool}
use Rattle.worker_pool.specs.Entries.{is_aside, is_among, WantedStays, CarriesItsBound, AreOfAction, AreFaulted}
use Rattle.worker_pool.proofs.Lives.{ended_broke, first_stays}
use Rattle.worker_pool.proofs.Words.{Unbinds, launch_same, sent_same, granted_same, over_same, by_reply, aside_launch, aside_send, aside_carrier, aside_ended, aside_answered, aside_feed, aside_cause}

-- ---- an attempt that is under way

nothing_over : (o q : Option Cause) (g : Bool) → is_some o ≡ false → g ≡ false → or_else o (cond g None q) ≡ o → q ≡ None
nothing_over (Some c) q g none open_yet h = absurd (cc)
nothing_over None q true none open_yet h = absurd (cc)
nothing_over None q false none open_yet h = h

-- of an action without a grant it isn't over
pub not_over : (j : List Entry) (t : Attempt) → ended j t ≡ false → granted j t.action ≡ false → over j t ≡ None
unfolding ended
not_over j t going open_yet = nothing_over (end_of j t) (over j t) (granted j t.action) going open_yet (end_settles j t)

goes_on : (o q : Option Cause) (g : Bool) → is_some o ≡ false → q ≡ None → is_some (or_else o (cond g None q)) ≡ false
goes_on (Some c) q g none h = absurd (cc)
goes_on None q true none h = refl
goes_on None q false none h = ap is_some h

pub still_going : (e : Entry) (j : List Entry) (t : Attempt) → ended j t ≡ false → over (e ∷ j) t ≡ None → ended (e ∷ j) t ≡ false
unfolding ended end_of
still_going e j t going h = goes_on (end_of j t) (over (e ∷ j) t) (granted (e ∷ j) t.action) going h

comes_to_end : (o q : Option Cause) (g : Bool) → g ≡ false → is_some q ≡ true → is_some (or_else o (cond g None q)) ≡ true
comes_to_end (Some c) q g open_yet h = refl
comes_to_end None q true open_yet h = absurd (cc)
comes_to_end None q false open_yet h = h

pub ends_now : (e : Entry) (j : List Entry) (t : Attempt) → granted (e ∷ j) t.action ≡ false → is_some (over (e ∷ j) t) ≡ true → ended (e ∷ j) t ≡ true
unfolding ended end_of
ends_now e j t open_yet h = comes_to_end (end_of j t) (over (e ∷ j) t) (granted (e ∷ j) t.action) open_yet h

-- ---- what is bound after the entry

-- bound before, and under way
pub record WasBound (p : Plan) (j : List Entry) (l : ℕ) (t : Attempt) : Type 0 where
  pub bound_yet : bound p j l ≡ Some t
  pub lane : ℕ
  pub launched : launch_of j l ≡ Some (lane, t)
  pub unsent : was_sent j t ≡ false
  pub going : ended j t ≡ false
  pub ungranted : granted j t.action ≡ false

was_bound : (p : Plan) (j : List Entry) (l : ℕ) (t : Attempt) → bound p j l ≡ Some t → WasBound p j l t
was_bound p j l t h =
    let b = bound_is p j l t h in
    record { bound_yet = h; lane = b.lane; launched = b.launched; unsent = b.unsent; going = b.going; ungranted = (wanted_is p j t.action t.branch b.wish).ungranted }

module _ (p : Plan) (j : List Entry) (e : Entry) (stays : WantedStays p j e) (plain : launch_in e.reply ≡ None) (unsent : send_in e.reply ≡ None) where
  -- the branch can't be bound any longer
  abbrev gone : Attempt → Bool
  gone t = granted (e ∷ j) t.action || ended (e ∷ j) t

  abbrev gone_in : Option (ℕ × Attempt) → Bool
  gone_in None = false
  gone_in (Some x) = gone x.1

  and_false : (b : Bool) → (b && false) ≡ false
  and_false true = refl
  and_false false = refl

  granted_ends : (t : Attempt) → granted (e ∷ j) t.action ≡ true → still_bound p (e ∷ j) t ≡ false
  unfolding wanted
  granted_ends t h = rw (h, and_false) refl

  ended_ends : (t : Attempt) → ended (e ∷ j) t ≡ true → still_bound p (e ∷ j) t ≡ false
  ended_ends t h = rw (h, and_false (not (was_sent (e ∷ j) t))) (and_false (wanted p (e ∷ j) t.action t.branch))

  unwanted_ends : (t : Attempt) → wanted p j t.action t.branch ≡ false → still_bound p (e ∷ j) t ≡ false
  unwanted_ends t h = rw (stays.unwanted t.action t.branch h) refl

  sent_ends : (t : Attempt) → was_sent j t ≡ true → still_bound p (e ∷ j) t ≡ false
  sent_ends t h = rw (sent_same e j unsent t, h) (and_false (wanted p (e ∷ j) t.action t.branch))

  gone_ends : (t : Attempt) → gone t ≡ true → still_bound p (e ∷ j) t ≡ false
  gone_ends t h = by (or_cases (granted (e ∷ j) t.action) (ended (e ∷ j) t) h)
    where
      by : (granted (e ∷ j) t.action ≡ true) ⊎ (ended (e ∷ j) t ≡ true) → still_bound p (e ∷ j) t ≡ false
      by (inl g) = granted_ends t g
      by (inr g) = ended_ends t g

  was_going : (t : Attempt) → ended (e ∷ j) t ≡ false → ended j t ≡ false
  was_going t h = by (ended j t) refl
    where
      by : (b : Bool) → ended j t ≡ b → ended j t ≡ false
      by false is = is
      by true is = absurd (let both : true ≡ false = sym (ended_stays e j t is) ∙ h in cc)

  -- what wasn't bound isn't bound again
  unbound_stays : (t : Attempt) → ended (e ∷ j) t ≡ false → still_bound p j t ≡ false → still_bound p (e ∷ j) t ≡ false
  unbound_stays t going none =
      by_bool (wanted p j t.action t.branch) (λ _. still_bound p (e ∷ j) t ≡ false)
      (λ wish. by_bool (was_sent j t) (λ _. still_bound p (e ∷ j) t ≡ false) (sent_ends t)
      (λ not_sent. absurd (let was : still_bound p j t ≡ true = rw (wish, not_sent, was_going t going) refl in let both : true ≡ false = sym was ∙ none in cc)))
      (unwanted_ends t)

  bound_stays : (l : ℕ) (t : Attempt) → gone t ≡ false → bound p j l ≡ Some t → still_bound p (e ∷ j) t ≡ true
  bound_stays l t h is =
      let parts = or_parts (granted (e ∷ j) t.action) (ended (e ∷ j) t) h in
      let not_sent : was_sent (e ∷ j) t ≡ false = sent_same e j unsent t ∙ (was_bound p j l t is).unsent in
      rw (stays.bound_yet l t is parts.0 parts.1, not_sent, parts.1) refl

  now_by : (l : ℕ) (o : Option (ℕ × Attempt)) → bound p j l ≡ if_bound p j o → is_some (if_bound p (e ∷ j) o) ≡ (not (gone_in o) && is_some (if_bound p j o))
  now_by l None is = refl
  now_by l (Some (la, t)) is =
      by_bool (gone t) (λ g. is_some (cond (still_bound p (e ∷ j) t) (Some t) None) ≡ (not g && is_some (cond (still_bound p j t) (Some t) None)))
      (λ h. ap (λ b. is_some (cond b (Some t) None)) (gone_ends t h))
      (λ h. by_bool (still_bound p j t) (λ b. is_some (cond (still_bound p (e ∷ j) t) (Some t) None) ≡ is_some (cond b (Some t) None))
      (λ yet. ap (λ b. is_some (cond b (Some t) None)) (bound_stays l t h (is ∙ ap (λ b. cond b (Some t) None) yet)))
      (λ none. ap (λ b. is_some (cond b (Some t) None)) (unbound_stays t (or_parts (granted (e ∷ j) t.action) (ended (e ∷ j) t) h).1 none)))

  bound_now : (l : ℕ) → is_some (bound p (e ∷ j) l) ≡ (not (gone_in (launch_of j l)) && is_some (bound p j l))
  unfolding bound
  bound_now l = ap (λ (o : Option (ℕ × Attempt)). is_some (if_bound p (e ∷ j) o)) (launch_same e j plain l) ∙ now_by l (launch_of j l) refl

  both_none : (x y : Bool) → (not x && false) ≡ (not y && false)
  both_none x y = and_false (not x) ∙ sym (and_false (not y))

  -- exactly what is bound to these lines can't be bound any longer
  pub unbinds_by : (ls : List ℕ) → ((l : ℕ) (t : Attempt) → WasBound p j l t → gone t ≡ is_among l ls) → Unbinds p j e ls
  unbinds_by ls h = record { each = λ l. bound_now l ∙ at l (bound p j l) refl }
    where
      at : (l : ℕ) (o : Option Attempt) → bound p j l ≡ o → (not (gone_in (launch_of j l)) && is_some (bound p j l)) ≡ (not (is_among l ls) && is_some (bound p j l))
      at l None is = rw is (both_none (gone_in (launch_of j l)) (is_among l ls))
      at l (Some t) is =
          let w = was_bound p j l t is in
          ap (λ b. not b && is_some (bound p j l)) (ap gone_in w.launched ∙ h l t w)

-- ---- a grant

module _ (p : Plan) (j : List Entry) (lane a n : ℕ) (b : Branch) (found : Found) where
  abbrev pub grant_entry : Entry
  grant_entry = record { lane = lane; call = call.Claim a b n found; reply = reply.Granted }

  now_granted : (o : Option (Attempt × Found)) (same : Bool) (x : Attempt × Found) → is_some o ≡ false → is_some (unless_before (cond same (Some x) None) o) ≡ same
  now_granted None true x h = refl
  now_granted None false x h = refl
  now_granted (Some y) same x h = absurd (cc)

  granted_here : (c : ℕ) → granted j c ≡ false → granted (grant_entry ∷ j) c ≡ (a == c)
  unfolding granted grant_of
  granted_here c h = now_granted (grant_of j c) (a == c) (attempt_of a b n, found) h

  pub grants_unbind : (ls : List ℕ) → WantedStays p j grant_entry → AreOfAction p j a ls → Unbinds p j grant_entry ls
  unfolding fault_of line_of has_ended answered wrote line_cause
  grants_unbind ls stays these =
      unbinds_by p j grant_entry stays refl refl ls (λ l t w.
      let over_too : over (grant_entry ∷ j) t ≡ None = not_over j t w.going w.ungranted in
      (λ i. granted_here t.action w.ungranted i || still_going grant_entry j t w.going over_too i)
      ∙ or_none (a == t.action) ∙ sym (these.each l t w.bound_yet))
    where
      or_none : (x : Bool) → (x || false) ≡ x
      or_none true = refl
      or_none false = refl

-- ---- entries that say nothing of lines and requests, and grant nothing

first_some : (o q : Option Cause) → is_some o ≡ true → is_some (unless_before o q) ≡ true
first_some None q h = absurd (cc)
first_some (Some c) None h = refl
first_some (Some c) (Some d) h = refl

or_some : (o q : Option Cause) → is_some o ≡ true → is_some (or_else o q) ≡ true
or_some None q h = absurd (cc)
or_some (Some c) q h = refl

none_is : {X : Type 0} (o : Option X) → is_some o ≡ false → o ≡ None
none_is None h = refl
none_is (Some x) h = absurd (cc)

module _ (p : Plan) (j : List Entry) (e : Entry) (aside : is_aside e ≡ true) (ungranted : granted_in e.call e.reply ≡ None) (stays : WantedStays p j e) where
  -- an attempt under way ends exactly where the entry says its fault
  faulted : (t : Attempt) → ended j t ≡ false → granted j t.action ≡ false → (b : Bool) → is_some (fault_at t j e) ≡ b → ended (e ∷ j) t ≡ b
  unfolding fault_of
  faulted t going open_yet true h =
      ends_now e j t (granted_same e j t.action ungranted ∙ open_yet) (or_some (unless_before (fault_at t j e) (fault_of j t)) _ (first_some (fault_at t j e) (fault_of j t) h))
  faulted t going open_yet false h =
      still_going e j t going
      (over_same e j t (none_is (fault_at t j e) h) (aside_carrier t e.reply (by_reply e j aside)) (aside_ended e j aside) (aside_answered e j aside t) (aside_feed e j aside t) (λ l g. aside_cause e j aside l)
      ∙ not_over j t going open_yet)

  pub faults_unbind : (ls : List ℕ) → AreFaulted p j e ls → Unbinds p j e ls
  faults_unbind ls these =
      unbinds_by p j e stays (aside_launch e.reply (by_reply e j aside)) (aside_send e.reply (by_reply e j aside)) ls (λ l t w.
      (λ i. (granted_same e j t.action ungranted ∙ w.ungranted) i || faulted t w.going w.ungranted (is_among l ls) (sym (these.each l t w.bound_yet)) i))

-- ---- a write

order_sent : (j : List Entry) (lane : ℕ) (q : Request) → order_of j lane ≡ Some q → was_sent j q.attempt ≡ true
unfolding last_work was_sent
order_sent [] lane q h = absurd (cc)
order_sent (e ∷ j) lane q h = by ((e.lane == lane) && (not (is_look e.call) && not (is_halt e.call))) (order_sent j lane q) h
  where
    by : (b : Bool) → (order_of j lane ≡ Some q → was_sent j q.attempt ≡ true) → send_of_entry (or_else (cond b (Some e) None) (last_work j lane)) ≡ Some q → was_sent (e ∷ j) q.attempt ≡ true
    by true rest g = rw g (let same = same_attempt_refl q.attempt in rw same refl)
    by false rest g = or_right _ _ (rest g)

-- so the order isn't about what wasn't sent
pub another : (j : List Entry) (lane : ℕ) (t : Attempt) (o : Option Request) → order_of j lane ≡ o → was_sent j t ≡ false → is_for t (option_map (λ q. q.attempt) o) ≡ false
another j lane t None h unsent = refl
another j lane t (Some q) h unsent =
    by_bool (same_attempt q.attempt t) (λ b. b ≡ false)
    (λ same. absurd (let sent : was_sent j t ≡ true = ap (was_sent j) (sym (same_attempt_eq q.attempt t same)) ∙ order_sent j lane q h in let both : true ≡ false = sym sent ∙ unsent in cc))
    (λ apart. refl)

module _ (p : Plan) (j : List Entry) (lane k : ℕ) (n : ℤ) (how : Written) where
  abbrev pub wrote_entry : Entry
  wrote_entry = record { lane = lane; call = call.Wrote k n how; reply = reply.Noted }

  unwritten_for : (t : Attempt) (o : Option Request) → is_for t (option_map (λ q. q.attempt) o) ≡ false → wrote_if t (call.Wrote k n how) o ≡ None
  unwritten_for t None h = refl
  unwritten_for t (Some q) h = rw h refl

  wrote_over : (t : Attempt) → was_sent j t ≡ false → over (wrote_entry ∷ j) t ≡ over j t
  unfolding has_ended answered wrote line_cause
  wrote_over t unsent =
      let other = another j lane t (order_of j lane) refl unsent in
      over_same wrote_entry j t (ap (λ b. cond b (unwritten_cause how) None) other) refl (λ l. refl) refl
      (ap (λ (o : Option Written). says_feed_fault (unless_before o (wrote j t))) (unwritten_for t (order_of j lane) other))
      (λ l h. first_stays (break_at l j wrote_entry) (line_cause j l) (ended_broke j l h))

  pub writes_unbind : WantedStays p j wrote_entry → Unbinds p j wrote_entry []
  writes_unbind stays =
      unbinds_by p j wrote_entry stays refl refl [] (λ l t w.
      (λ i. (granted_same wrote_entry j t.action refl ∙ w.ungranted) i || still_going wrote_entry j t w.going (wrote_over t w.unsent ∙ not_over j t w.going w.ungranted) i))

-- ---- an end

module _ (p : Plan) (j : List Entry) (lane k : ℕ) (how : HowEnded) where
  abbrev pub end_entry : Entry
  end_entry = record { lane = lane; call = call.Ended k how; reply = reply.Noted }

  lost_if : (b h f : Bool) (c : Cause) (o : Option Cause) → b ≡ true → is_some (cond ((b || h) && (not false || f)) (unless_before (cond b (Some c) None) o) None) ≡ true
  lost_if true h f c None e = refl
  lost_if true h f c (Some d) e = refl
  lost_if false h f c o e = absurd (cc)

  last_some : (o q : Option Cause) → is_some q ≡ true → is_some (or_else o q) ≡ true
  last_some (Some c) q h = refl
  last_some None q h = h

  -- what is bound to the line is lost with it
  lost_here : (t : Attempt) (l : ℕ) → line_of j t ≡ Some l → answered j t ≡ false → (k == l) ≡ true → is_some (over (end_entry ∷ j) t) ≡ true
  unfolding fault_of line_of has_ended answered wrote line_cause
  lost_here t l carrier unanswered here = rw (carrier, unanswered) (last_some (fault_of j t) _ (lost_if (k == l) (has_ended j l) (says_feed_fault (wrote j t)) (end_cause how) (line_cause j l) here))

  kept_elsewhere : (t : Attempt) (l : ℕ) → line_of j t ≡ Some l → (k == l) ≡ false → over (end_entry ∷ j) t ≡ over j t
  unfolding fault_of line_of has_ended answered wrote line_cause
  kept_elsewhere t l carrier apart = rw (carrier, apart) refl

  end_at : (t : Attempt) (l : ℕ) → ended j t ≡ false → granted j t.action ≡ false → line_of j t ≡ Some l → answered j t ≡ false → (b : Bool) → (k == l) ≡ b → ended (end_entry ∷ j) t ≡ b
  end_at t l going open_yet carrier unanswered true h = ends_now end_entry j t (granted_same end_entry j t.action refl ∙ open_yet) (lost_here t l carrier unanswered h)
  end_at t l going open_yet carrier unanswered false h = still_going end_entry j t going (kept_elsewhere t l carrier h ∙ not_over j t going open_yet)

  or_false : (b : Bool) → b ≡ (b || false)
  or_false true = refl
  or_false false = refl

  pub ends_unbind : WantedStays p j end_entry → CarriesItsBound p j → Unbinds p j end_entry (k ∷ [])
  ends_unbind stays carries =
      unbinds_by p j end_entry stays refl refl (k ∷ []) (λ l t w.
      (λ i. (granted_same end_entry j t.action refl ∙ w.ungranted) i || end_at t l w.going w.ungranted (carries.carrier l t w.bound_yet) (carries.unanswered l t w.bound_yet) (k == l) refl i)
      ∙ or_false (k == l))
