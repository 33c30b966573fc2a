-- What each entry makes of the requests that are pending and of their Cancels.
use Rattle.std.proofs.Common.{◌≡◌, ℕ, ◌==◌, Bool, true, false, ◌&&◌, ◌||◌, not, cond, List, [], ◌∷◌, filter, Option, Some, None, is_some, option_map, refl, ap, sym, subst, ◌∙◌}
use Rattle.std.specs.Prelude.{ℤ}
use Rattle.std.specs.Ordering.{int_eq}
use Rattle.std.proofs.lemmas.Bool.{eq-eqb, or_right, and_right}
use Rattle.run_plan.specs.declared.plan.Branch.{Branch}
use Rattle.exec_journal.specs.declared.attempt.Attempt.{Attempt}
use Rattle.exec_journal.specs.Entry.{Entry}
use Rattle.exec_journal.specs.declared.call.Answer.{Answer}
use Rattle.exec_journal.specs.declared.call.Call.{Call}
use Rattle.exec_journal.specs.declared.call.Call.TheVariants as call
use Rattle.exec_journal.specs.declared.call.HowEnded.{HowEnded}
use Rattle.exec_journal.specs.declared.call.Written.{Written}
use Rattle.exec_journal.specs.declared.reply.Reply.{Reply}
use Rattle.exec_journal.specs.declared.reply.Reply.TheVariants as reply
use Rattle.list_lemmas.specs.Options.{unless_before, and_more}
use Rattle.exec_journal.specs.Entries.{Request, attempt_of, same_attempt, is_for, send_in, consumed_in, ends, is_unwritten}
use Rattle.exec_journal.specs.Words.{sends, sent_on, pending, is_pending, has_cancel, cancels, was_sent, answered, wrote, wrote_if, order_of, says_unwritten, has_ended}
use Rattle.exec_journal.proofs.Begins.{same_attempt_eq, same_attempt_refl}
use Rattle.exec_journal.proofs.Histories.{AllOf}
use Rattle.exec_journal.proofs.Lines.{pending_line}
use Rattle.exec_journal.proofs.Ruled.{by_bool}
use Rattle.request_table.specs.Entries.{EachOf, IsNewRequest, IsKnownBy, NoneIsPending, is_still, is_calm}
use Rattle.request_table.proofs.Lists.{filter_both, each_and, each_filter, filter_all}

abbrev pub answer_entry : ℕ → ℕ → Answer → Reply → Entry
answer_entry lane l x r = record { lane = lane; call = call.Answer l x; reply = r }

abbrev pub ended_entry : ℕ → ℕ → HowEnded → Entry
ended_entry lane l how = record { lane = lane; call = call.Ended l how; reply = reply.Noted }

abbrev pub wrote_entry : ℕ → ℕ → ℤ → Written → Entry
wrote_entry lane l n how = record { lane = lane; call = call.Wrote l n how; reply = reply.Noted }

abbrev pub send_entry : ℕ → ℕ → ℤ → ℕ → Branch → ℕ → Entry
send_entry lane l n a b t = record { lane = lane; call = call.Ask; reply = reply.Send l n a b t }

abbrev pub sent_request : ℕ → ℤ → ℕ → Branch → ℕ → Request
sent_request l n a b t = record { line = l; number = n; attempt = attempt_of a b t }

abbrev pub cancel_entry : ℕ → ℕ → ℤ → Entry
cancel_entry lane l n = record { lane = lane; call = call.Ask; reply = reply.Cancel l n }

-- ---- entries after which the same was sent and cancelled

pub record SameSent (j k : List Entry) : Type 0 where
  pub sent : (l : ℕ) → sends k l ≡ sends j l
  pub cancel : (r : Request) → has_cancel k r ≡ has_cancel j r

-- ---- some requests aren't pending any longer

pub record Closes (j k : List Entry) (hit : Request → Bool) : Type 0 where
  pub same : SameSent j k
  pub closes : (r : Request) → is_pending k r ≡ (is_pending j r && not (hit r))

abbrev pub Missed : (Request → Bool) → List Entry → ℕ → Type 0
Missed hit j l = EachOf (λ r. hit r ≡ false) (pending j l)

module _ (j k : List Entry) (hit : Request → Bool) (c : Closes j k hit) where
  pub pending_after : (l : ℕ) → pending k l ≡ filter (λ r. not (hit r)) (pending j l)
  unfolding pending
  pending_after l = (λ i. filter (λ r. c.closes r i) (c.same.sent l i)) ∙ filter_both (is_pending j) (λ r. not (hit r)) (sends j l)

  pub stays : (l : ℕ) → Missed hit j l → pending k l ≡ pending j l
  stays l none =
      pending_after l ∙ filter_all (λ r. not (hit r)) (pending j l) (each_and (λ r. hit r ≡ false) (λ r. hit r ≡ false) (λ r. not (hit r) ≡ true) (λ r h _. ap not h) (pending j l) none none)

-- ---- what an entry says of a request

and_front : (a b c d : Bool) → (not (d || a) && (not b && not c)) ≡ ((not a && (not b && not c)) && not d)
and_front a b c true = sym (and_right (not a && (not b && not c)) false refl)
and_front true b c false = refl
and_front false true c false = refl
and_front false false true false = refl
and_front false false false false = refl

and_last : (a b c d : Bool) → (not a && (not b && not (d || c))) ≡ ((not a && (not b && not c)) && not d)
and_last true b c d = refl
and_last false true c d = refl
and_last false false true true = refl
and_last false false true false = refl
and_last false false false true = refl
and_last false false false false = refl

pub and_yes : (a : Bool) → a ≡ (a && true)
and_yes true = refl
and_yes false = refl

pub none_missed : (j : List Entry) (rs : List Request) → EachOf (λ _. false ≡ false) rs
none_missed j [] = tt
none_missed j (r ∷ rs) = (refl, none_missed j rs)

-- ---- an answer is consumed

module _ (j : List Entry) (lane l : ℕ) (x : Answer) (r : Reply) (s : Attempt) (consumes : consumed_in r ≡ Some s) where
  not_sent : (y : Reply) → consumed_in y ≡ Some s → (k : ℕ) → sent_on k y ≡ None
  not_sent (reply.Send m n a b t) e k = absurd (cc)
  not_sent _ e k = refl

  not_cancelled : (y : Reply) → consumed_in y ≡ Some s → (q : Request) → cancels q y ≡ false
  not_cancelled (reply.Cancel m n) e q = absurd (cc)
  not_cancelled _ e q = refl

  pub answer_closes : Closes j (answer_entry lane l x r ∷ j) (λ q. same_attempt s q.attempt)
  unfolding sends has_cancel is_pending answered wrote has_ended
  answer_closes = record {
    same = record {
      sent = λ k. rw (not_sent r consumes k) refl;
      cancel = λ q. rw (not_cancelled r consumes q) refl;
    };
    closes = λ q. rw consumes (and_front (answered j q.attempt) (says_unwritten (wrote j q.attempt)) (has_ended j q.line) (same_attempt s q.attempt));
  }

-- ---- entries that leave all as it was

still_sent : (y : Reply) → is_still y ≡ true → (k : ℕ) → sent_on k y ≡ None
still_sent (reply.Send m n a b t) e k = absurd (cc)
still_sent _ e k = refl

still_cancel : (y : Reply) → is_still y ≡ true → (q : Request) → cancels q y ≡ false
still_cancel (reply.Cancel m n) e q = absurd (cc)
still_cancel _ e q = refl

still_consumes : (y : Reply) → is_still y ≡ true → consumed_in y ≡ None
still_consumes (reply.Matched a b t) e = absurd (cc)
still_consumes (reply.Late a b t) e = absurd (cc)
still_consumes _ e = refl

pub still_same : (j : List Entry) (e : Entry) → is_still e.reply ≡ true → SameSent j (e ∷ j)
unfolding sends has_cancel
still_same j e h = record {
  sent = λ k. rw (still_sent e.reply h k) refl;
  cancel = λ q. rw (still_cancel e.reply h q) refl;
}

calm_wrote : (t : Attempt) (c : Call) (o : Option Request) → is_calm c ≡ true → wrote_if t c o ≡ None
calm_wrote t (call.Wrote l n how) o h = absurd (cc)
calm_wrote t _ o h = refl

calm_ends : (l : ℕ) (c : Call) → is_calm c ≡ true → ends l c ≡ false
calm_ends l (call.Ended k how) h = absurd (cc)
calm_ends l _ h = refl

pub still_closes : (j : List Entry) (e : Entry) → is_still e.reply ≡ true → is_calm e.call ≡ true → Closes j (e ∷ j) (λ _. false)
unfolding is_pending answered wrote has_ended
still_closes j e still calm = record {
  same = still_same j e still;
  closes = λ q. rw (still_consumes e.reply still, calm_wrote q.attempt e.call (order_of j e.lane) calm, calm_ends q.line e.call calm) (and_yes (is_pending j q));
}

-- ---- Ended

pub of_lines : (rs : List Request) (l : ℕ) (P : Request → Type 0) → ((r : Request) → r.line ≡ l → P r) → AllOf (λ (q : Request). q.line ≡ l) rs → EachOf P rs
of_lines [] l P f all = tt
of_lines (r ∷ rs) l P f all = (f r all.0, of_lines rs l P f all.1)

module _ (j : List Entry) (lane l : ℕ) (how : HowEnded) where
  pub ended_closes : Closes j (ended_entry lane l how ∷ j) (λ q. l == q.line)
  unfolding is_pending answered wrote has_ended
  ended_closes = record {
    same = still_same j (ended_entry lane l how) refl;
    closes = λ q. and_last (answered j q.attempt) (says_unwritten (wrote j q.attempt)) (has_ended j q.line) (l == q.line);
  }

  pub ended_hits : EachOf (λ q. (l == q.line) ≡ true) (pending j l)
  ended_hits = of_lines (pending j l) l (λ q. (l == q.line) ≡ true) (λ q e. eq-eqb l q.line (sym e)) (pending_line j l)

  pub ended_misses : (d : ℕ) → (l == d) ≡ false → Missed (λ q. l == q.line) j d
  ended_misses d apart = of_lines (pending j d) d (λ q. (l == q.line) ≡ false) (λ q e. ap (λ m. l == m) e ∙ apart) (pending_line j d)

-- ---- Wrote

module _ (j : List Entry) (lane l : ℕ) (n : ℤ) (how : Written) where
  -- the request whose first Wrote this is, and says that it wasn't written
  abbrev pub turned : Option Request → Request → Bool
  turned (Some r) q = same_attempt r.attempt q.attempt && (is_unwritten how && not (is_some (wrote j q.attempt)))
  turned None q = false

  says_after : (b : Bool) (w : Option Written) → says_unwritten (unless_before (cond b (Some how) None) w) ≡ ((b && (is_unwritten how && not (is_some w))) || says_unwritten w)
  says_after true None = or_none (is_unwritten how)
    where
      or_none : (a : Bool) → a ≡ ((a && true) || false)
      or_none true = refl
      or_none false = refl
  says_after true (Some v) = no_more (is_unwritten how) (is_unwritten v)
    where
      no_more : (a b : Bool) → b ≡ ((a && false) || b)
      no_more true b = refl
      no_more false b = refl
  says_after false w = refl

  and_middle : (a b c d : Bool) → (not a && (not (d || b) && not c)) ≡ ((not a && (not b && not c)) && not d)
  and_middle true b c d = refl
  and_middle false true c true = refl
  and_middle false true c false = refl
  and_middle false false true true = refl
  and_middle false false true false = refl
  and_middle false false false true = refl
  and_middle false false false false = refl

  write_turns : (o : Option Request) (q : Request) → says_unwritten (unless_before (wrote_if q.attempt (call.Wrote l n how) o) (wrote j q.attempt)) ≡ (turned o q || says_unwritten (wrote j q.attempt))
  write_turns None q = refl
  write_turns (Some r) q = says_after (same_attempt r.attempt q.attempt) (wrote j q.attempt)

  pub wrote_closes : Closes j (wrote_entry lane l n how ∷ j) (turned (order_of j lane))
  unfolding is_pending answered wrote has_ended
  wrote_closes = record {
    same = still_same j (wrote_entry lane l n how) refl;
    closes = λ q. rw (write_turns (order_of j lane) q) (and_middle (answered j q.attempt) (says_unwritten (wrote j q.attempt)) (has_ended j q.line) (turned (order_of j lane) q));
  }

  pub written_misses : (o : Option Request) → is_unwritten how ≡ false → (rs : List Request) → EachOf (λ r. turned o r ≡ false) rs
  written_misses None h [] = tt
  written_misses (Some r) h [] = tt
  written_misses None h (q ∷ rs) = (refl, written_misses None h rs)
  written_misses (Some r) h (q ∷ rs) = (rw h (and_right (same_attempt r.attempt q.attempt) false refl), written_misses (Some r) h rs)

  pub past_misses : (o : Option Request) (d : ℕ) → NoneIsPending j o → Missed (turned o) j d
  past_misses None d h = none_missed j (pending j d)
  past_misses (Some r) d h =
      each_and (λ q. same_attempt r.attempt q.attempt ≡ false) (λ q. same_attempt r.attempt q.attempt ≡ false) (λ q. turned (Some r) q ≡ false) (λ q e _. rw e refl) (pending j d) (h d) (h d)

  -- its first Wrote says that the request wasn't written
  module _ (r : Request) (ordered : order_of j lane ≡ Some r) (fault : is_unwritten how ≡ true) (unwritten : wrote j r.attempt ≡ None) where
    turns : (q : Request) → turned (order_of j lane) q ≡ same_attempt r.attempt q.attempt
    turns q =
        ap (λ o. turned o q) ordered
        ∙ by_bool (same_attempt r.attempt q.attempt) (λ b. (b && (is_unwritten how && not (is_some (wrote j q.attempt)))) ≡ b)
        (λ same. let first : wrote j q.attempt ≡ None = subst (λ (t : Attempt). wrote j t ≡ None) (same_attempt_eq r.attempt q.attempt same) unwritten in rw (fault, first) refl) (λ _. refl)

    pub fault_hits : IsKnownBy j l n r.attempt → EachOf (λ q. turned (order_of j lane) q ≡ int_eq q.number n) (pending j l)
    fault_hits known = each_and (λ q. same_attempt r.attempt q.attempt ≡ int_eq q.number n) (λ q. same_attempt r.attempt q.attempt ≡ int_eq q.number n) (λ q. turned (order_of j lane) q ≡ int_eq q.number n) (λ q e _. turns q ∙ e) (pending j l) known.here known.here

    pub fault_misses : IsKnownBy j l n r.attempt → (d : ℕ) → (l == d) ≡ false → Missed (turned (order_of j lane)) j d
    fault_misses known d apart = each_and (λ q. same_attempt r.attempt q.attempt ≡ false) (λ q. same_attempt r.attempt q.attempt ≡ false) (λ q. turned (order_of j lane) q ≡ false) (λ q e _. turns q ∙ e) (pending j d) (known.elsewhere d apart) (known.elsewhere d apart)

-- ---- Send

pub unsent_uncancelled : (j : List Entry) (r : Request) → was_sent j r.attempt ≡ false → has_cancel j r ≡ false
unfolding was_sent has_cancel
unsent_uncancelled [] r h = refl
unsent_uncancelled (e ∷ j) r h =
    by_bool (is_for r.attempt (option_map (λ q. q.attempt) (send_in e.reply))) (λ b. (b || was_sent j r.attempt) ≡ false → ((cancels r e.reply && was_sent j r.attempt) || has_cancel j r) ≡ false)
    (λ _ k. absurd (cc))
    (λ _ k. rw (k, unsent_uncancelled j r k) (ap (λ b. b || false) (and_right (cancels r e.reply) false refl))) h

module _ (j : List Entry) (lane l : ℕ) (n : ℤ) (a : ℕ) (b : Branch) (t : ℕ) (new : IsNewRequest j l (attempt_of a b t)) where
  pub sends_here : sends (send_entry lane l n a b t ∷ j) l ≡ sent_request l n a b t ∷ sends j l
  unfolding sends
  sends_here = let same : (l == l) ≡ true = eq-eqb l l refl in rw same refl

  pub sends_other : (d : ℕ) → (l == d) ≡ false → sends (send_entry lane l n a b t ∷ j) d ≡ sends j d
  unfolding sends
  sends_other d apart = rw apart refl

  is_new : is_pending j (sent_request l n a b t) ≡ true
  unfolding is_pending
  is_new = rw (new.unanswered, new.unwritten, new.running) refl

  pub pending_here : pending (send_entry lane l n a b t ∷ j) l ≡ sent_request l n a b t ∷ pending j l
  unfolding pending is_pending answered wrote has_ended
  pending_here = ap (filter (is_pending j)) sends_here ∙ ap (λ x. cond x (sent_request l n a b t ∷ filter (is_pending j) (sends j l)) (filter (is_pending j) (sends j l))) is_new

  pub pending_other : (d : ℕ) → (l == d) ≡ false → pending (send_entry lane l n a b t ∷ j) d ≡ pending j d
  unfolding pending is_pending answered wrote has_ended
  pending_other d apart = ap (filter (is_pending j)) (sends_other d apart)

  pub not_cancelled_yet : has_cancel (send_entry lane l n a b t ∷ j) (sent_request l n a b t) ≡ false
  unfolding has_cancel
  not_cancelled_yet = unsent_uncancelled j (sent_request l n a b t) new.unsent

-- ---- Cancel

sent_request_in : (l : ℕ) (x : Reply) (q : Request) → sent_on l x ≡ Some q → send_in x ≡ Some q
sent_request_in l (reply.Send k n a b t) q h =
    by_bool (k == l) (λ c. cond c (send_in (reply.Send k n a b t)) None ≡ Some q → send_in (reply.Send k n a b t) ≡ Some q) (λ _ g. g) (λ _ g. absurd (cc)) h
sent_request_in l _ q h = absurd (cc)

sent_later : (e : Entry) (j : List Entry) (q : Request) → was_sent j q.attempt ≡ true → was_sent (e ∷ j) q.attempt ≡ true
unfolding was_sent
sent_later e j q h = or_right (is_for q.attempt (option_map (λ r. r.attempt) (send_in e.reply))) (was_sent j q.attempt) h

sent_now : (e : Entry) (j : List Entry) (l : ℕ) (q : Request) → sent_on l e.reply ≡ Some q → was_sent (e ∷ j) q.attempt ≡ true
unfolding was_sent
sent_now e j l q h = ap (λ o. is_for q.attempt (option_map (λ r. r.attempt) o) || was_sent j q.attempt) (sent_request_in l e.reply q h) ∙ ap (λ b. b || was_sent j q.attempt) (same_attempt_refl q.attempt)

each_more : (P : Request → Type 0) (o : Option Request) (rs : List Request) → ((q : Request) → o ≡ Some q → P q) → EachOf P rs → EachOf P (and_more o rs)
each_more P None rs h all = all
each_more P (Some q) rs h all = (h q refl, all)

-- each request on a line was sent
sent_each : (j : List Entry) (l : ℕ) → EachOf (λ q. was_sent j q.attempt ≡ true) (sends j l)
unfolding sends
sent_each [] l = tt
sent_each (e ∷ j) l =
    each_more (λ q. was_sent (e ∷ j) q.attempt ≡ true) (sent_on l e.reply) (sends j l) (λ q h. sent_now e j l q h)
    (each_and (λ q. was_sent j q.attempt ≡ true) (λ q. was_sent j q.attempt ≡ true) (λ q. was_sent (e ∷ j) q.attempt ≡ true) (λ q h _. sent_later e j q h) (sends j l) (sent_each j l) (sent_each j l))

module _ (j : List Entry) (lane l : ℕ) (n : ℤ) where
  pub sent_too : (d : ℕ) → EachOf (λ q. was_sent j q.attempt ≡ true) (pending j d)
  unfolding pending
  sent_too d = each_filter (λ q. was_sent j q.attempt ≡ true) (is_pending j) (sends j d) (sent_each j d)

  pub pending_too : (d : ℕ) → pending (cancel_entry lane l n ∷ j) d ≡ pending j d
  unfolding pending sends is_pending answered wrote has_ended
  pending_too d = refl

  pub cancel_at : (q : Request) → was_sent j q.attempt ≡ true → has_cancel (cancel_entry lane l n ∷ j) q ≡ (((l == q.line) && int_eq n q.number) || has_cancel j q)
  unfolding has_cancel
  cancel_at q sent = rw sent (ap (λ b. b || has_cancel j q) (yes ((l == q.line) && int_eq n q.number)))
    where
      yes : (b : Bool) → (b && true) ≡ b
      yes true = refl
      yes false = refl
