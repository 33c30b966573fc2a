-- Where all berths are quiet, an attempt under way is of an action with a grant.
use Rattle.std.proofs.Common.{◌≡◌, ℕ, ◌/◌, ◌==◌, Bool, true, false, ◌||◌, not, cond, List, [], ◌∷◌, Option, Some, None, is_some, inl, inr, refl, sym, subst, ◌∙◌}
use Rattle.std.specs.List.{filter}
use Rattle.std.proofs.lemmas.Bool.{eq-eqb, and_parts, and_from, or_cases, or_left, or_right}
use Rattle.run_plan.specs.declared.plan.Plan.{Plan}
use Rattle.exec_journal.specs.declared.attempt.Attempt.{Attempt}
use Rattle.exec_journal.specs.declared.call.Call.{Call}
use Rattle.exec_journal.specs.declared.call.Written.{Written}
use Rattle.exec_journal.specs.declared.call.Written.TheVariants as write
use Rattle.exec_journal.specs.declared.reply.Reply.{Reply}
use Rattle.exec_journal.specs.declared.reply.Reply.TheVariants as reply
use Rattle.exec_journal.specs.Entry.{Entry}
use Rattle.exec_journal.specs.Entries.{Request, is_for, gather_in}
use Rattle.exec_journal.specs.History.{first}
use Rattle.exec_journal.specs.Attempts.{ended, line_of}
use Rattle.exec_journal.specs.Facts.{reply_line, IsOfBerth}
use Rattle.exec_journal.specs.Lawful.{Lawful}
use Rattle.exec_journal.specs.Rules as r
use Rattle.exec_journal.specs.Rules.{gathered}
use Rattle.exec_journal.specs.Scripts as sc
use Rattle.exec_journal.specs.Settled.{bound, wanted}
use Rattle.exec_journal.specs.Words.{last_line, last_work, launch_of, pending, is_pending, sends, wrote, says_done, says_unwritten, says_feed_fault, answered, started, failed, has_ended, was_sent, granted}
use Rattle.exec_journal.proofs.Ruled.{by_bool}
use Rattle.journal_laws.specs.Invariant.{IsGoing, claimed, EachRequest}
use Rattle.journal_laws.proofs.Carried as k
use Rattle.journal_laws.proofs.Claims as c
use Rattle.journal_laws.proofs.Claims.{clash, false_by}
use Rattle.journal_laws.proofs.Cleaned as cl
use Rattle.journal_laws.proofs.Firm as f
use Rattle.journal_laws.proofs.Lanes as la
use Rattle.journal_laws.proofs.Lanes.{is_order}
use Rattle.journal_laws.proofs.Offered as of
use Rattle.journal_laws.proofs.Over as v
use Rattle.journal_laws.proofs.Owed as o
use Rattle.journal_laws.proofs.Requests as q
use Rattle.journal_laws.proofs.Vacant as va
use Rattle.call_laws.proofs.LastLines as ll
use Rattle.call_laws.proofs.LineEnds as le
use Rattle.call_laws.proofs.Owing as ow
use Rattle.call_laws.proofs.Requested as re
use Rattle.progress_laws.specs.Quiet.{IsQuietBerth, AllQuiet}
use Rattle.progress_laws.proofs.Berths.{live_whole, sent_wrote}
use Rattle.progress_laws.proofs.Options.{none_some, some_same}
use Rattle.progress_laws.proofs.Closing as co
use Rattle.progress_laws.proofs.Carriers.{begun_carried, carried_own, sent_up}

-- ---- lanes that rest

order_may : (x : Reply) (c : Call) → is_order x ≡ true → sc.may_ask_after c x ≡ true → ⊥
order_may (reply.Launch l a b t) c h y = cc
order_may (reply.Send l n a b t) c h y = cc
order_may (reply.Cancel l n) c h y = cc
order_may (reply.Gather l n a b t e u) c h y = cc
order_may (reply.Kill l w) c h y = cc
order_may _ c h y = cc

-- no lane owes what it was ordered
none_owed : (p : Plan) (j : List Entry) → Lawful p j → AllQuiet p j → (n l : ℕ) (d : Entry)
    → last_work j n ≡ Some d → is_order d.reply ≡ true → reply_line d.reply ≡ Some l → ⊥
none_owed p j legal all n l d at order line =
    let quiet = all l (n / 2) (la.newest_own_line p j n l d legal at line) in
    let may = ow.asks_proxy p j quiet.lane quiet.is.may in
    let same : n ≡ quiet.lane = la.one_proxy n quiet.lane
    (la.newest_even p j n d legal at order) may.0 (sym quiet.same) in
    let mine : last_work j quiet.lane ≡ Some d = subst (λ i. last_work j i ≡ Some d) same at in
    order_may d.reply d.call order (subst (λ (x : Option Entry). sc.may_ask x ≡ true) mine may.1)

gather_names : (x : Reply) (t : Attempt) → is_for t (gather_in x) ≡ true → (l : ℕ)
    × (reply_line x ≡ Some l) × (is_order x ≡ true)
gather_names (reply.Gather l n a b m e u) t h = (l, refl, refl)
gather_names _ t h = absurd (cc)

pub gathered_claimed : (p : Plan) (j : List Entry) (t : Attempt) → Lawful p j → AllQuiet p j
    → gathered j t ≡ true → claimed j t ≡ true
gathered_claimed p j t legal all h = by (ow.gather_met p j t legal h)
  where
    by : ow.IsMet (o.is_gather t) (λ i. claimed i t) j → claimed j t ≡ true
    by (ow.Done y) = y
    by (ow.Owes n d at y) =
        (let g = gather_names d.reply t y in absurd (none_owed p j legal all n g.0 d at g.2 g.1))

-- ---- a match that waits

pub match_waits : (i j : List Entry) (w : ℕ) (t : Attempt) → r.waits i t ≡ true → co.HasMatch j w t
    → (p : Plan) → Lawful p j → is_some (first (λ _ e. cond (e.lane / 2 == w)
    (r.gather_for i e.call e.reply) None) j) ≡ true
match_waits i [] w t ready h p legal = absurd h
match_waits i (e ∷ j) w t ready (inr before) p legal =
    k.some_later_cause (cond (e.lane / 2 == w) (r.gather_for i e.call e.reply) None) _
    (match_waits i j w t ready before p legal.0)
match_waits i (e ∷ j) w t ready (inl here) p legal =
    k.some_new_cause (cond (e.lane / 2 == w) (r.gather_for i e.call e.reply) None)
    (first (λ _ d. cond (d.lane / 2 == w) (r.gather_for i d.call d.reply) None) j)
    (rw (eq-eqb (e.lane / 2) w here.0) (co.offered p e j t legal i ready here.1))

-- ---- lists

pub none_passes : (test : Request → Bool) (xs : List Request) → filter test xs ≡ []
    → EachRequest (λ y. test y ≡ false) xs
none_passes test [] h = tt
none_passes test (x ∷ xs) h =
    by_bool (test x) (λ b. test x ≡ b → cond b (x ∷ filter test xs) (filter test xs) ≡ []
    → EachRequest (λ y. test y ≡ false) (x ∷ xs))
    (λ _ on n. absurd (cc)) (λ _ off n. (off, none_passes test xs n)) refl h

all_done : (w : Option Written) → is_some w ≡ true → says_unwritten w ≡ false
    → says_feed_fault w ≡ false → says_done w ≡ true
all_done (Some write.Done) a b d = refl
all_done (Some write.RoomFault) a b d = absurd (cc)
all_done (Some write.TooLarge) a b d = absurd (cc)
all_done (Some write.FeedFault) a b d = absurd (cc)
all_done None a b d = absurd (cc)

-- ---- an attempt under way

module _ (p : Plan) (j : List Entry) (t : Attempt) (legal : Lawful p j) (all : AllQuiet p j)
    (going : ended j t ≡ false) (free : granted j t.action ≡ false) (l : ℕ)
    (at : line_of j t ≡ Some l) where
  lost : has_ended j l ≡ true → (not (answered j t) || says_feed_fault (wrote j t)) ≡ true → ⊥
  lost over left =
      clash (ended j t) (v.over_ended j t free (v.IsLost l at (and_from _ _ over left))) going

  -- it was launched there, and not sent
  unsent_none : was_sent j t ≡ false → wanted p j t.action t.branch ≡ true → (m : ℕ)
      → launch_of j l ≡ Some (m, t) → ⊥
  unsent_none unsent wish m launched =
      let here : bound p j l ≡ Some t = le.bound_to p j l m t launched wish unsent going in
      let last = ll.bound_is_last p j l m t legal here launched in
      let quiet = all l (m / 2) (la.here_own p j (m / 2) l legal last) in
      let mine : last_line j (quiet.lane / 2) ≡ Some l =
      subst (λ n. last_line j n ≡ Some l) (sym quiet.same) last in
      elim (quiet.is.free l mine) [
        | inl vacant ↦ elim (or_cases (failed j l) _ vacant) [
          | inl fault ↦ elim (ll.failed_ends p j l m t legal launched fault) [
            | inl over ↦ clash (ended j t) over going
            | inr won ↦ clash (granted j t.action) won free
          ]
          | inr over ↦ lost (and_parts (has_ended j l) _ over).0
              (or_left (not (answered j t)) _ (rw ((of.bound_carried p j legal).unanswered l t here)
              refl))
        ]
        | inr lives ↦ (let none = quiet.is.unbound l mine lives.0 in let both : None ≡ Some t =
            sym none ∙ here in absurd (cc))
      ]

  -- it was matched, and never gathered or claimed
  matched_none : says_done (wrote j t) ≡ true → co.IsOffered j t → ⊥
  matched_none whole m = by_bool (gathered j t) (λ b. gathered j t ≡ b → ⊥)
      (λ _ yes_so. elim (co.claimed_closes p j t legal (gathered_claimed p j t legal all yes_so)) [
        | inl won ↦ clash (granted j t.action) won free
        | inr over ↦ clash (ended j t) over going
      ])
      (λ _ not_so. (let quiet = all m.is.line m.berth m.is.own in
      let ready : r.waits j t ≡ true = rw (whole, not_so, free) refl in
      let next : is_some (r.gathers_next j m.berth) ≡ true =
      match_waits j j m.berth t ready m.stands p legal in
      none_some (r.gathers_next j m.berth) (subst (λ n. r.gathers_next j n ≡ None) quiet.same
      quiet.is.ungathered) next)) refl

  -- its line: not one that was given up or that failed
  sent_last : started j l ≡ true → has_ended j l ≡ false → (w : ℕ) → IsOfBerth j l w
      → last_line j w ≡ Some l
  sent_last up running w own =
      elim (va.last_or_done p j l own.owner.0 own.owner.1 legal own.owner.2) [
        | inl last ↦ subst (λ n. last_line j n ≡ Some l) own.owner.3 last
        | inr done ↦ elim (or_cases (failed j l) _ done) [
          | inl fault ↦ absurd (clash (failed j l) fault (c.started_unfailed p j l legal up))
          | inr over ↦ absurd (clash (has_ended j l) (and_parts (has_ended j l) _ over).0 running)
        ]
      ]

  pending_there : (x : Request) → x.attempt ≡ t → x.line ≡ l → va.IsAmong j x → answered j t ≡ false
      → says_unwritten (wrote j t) ≡ false → has_ended j l ≡ false → pending j l ≡ [] → ⊥
  unfolding pending
  pending_there x of line among un written running none =
      let off : is_pending j x ≡ false = va.among_closed j x among
      (subst (λ i. EachRequest (λ y. is_pending j y ≡ false) (sends j i)) (sym line)
      (none_passes (is_pending j) (sends j l) none)) in
      clash (is_pending j x) (q.is_open j x (record {
        unanswered = subst (λ (a : Attempt). answered j a ≡ false) (sym of) un;
        written = subst (λ (a : Attempt). says_unwritten (wrote j a) ≡ false) (sym of) written;
        running = subst (λ i. has_ended j i ≡ false) (sym line) running;
      })) off

  -- it was sent
  sent_none : was_sent j t ≡ true → started j l ≡ true → (w : ℕ) → IsOfBerth j l w → ⊥
  sent_none sent up w own = by_unwritten (says_unwritten (wrote j t)) refl
    where
      request : le.IsSent j t
      request = le.sent_request p j t legal sent

      line : request.request.line ≡ l
      line = some_same request.request.line l (sym request.carrier ∙ at)

      quiet : IsQuietBerth p j w
      quiet = all l w own

      own_lane : IsOfBerth j l (quiet.lane / 2)
      own_lane = subst (λ n. IsOfBerth j l n) (sym quiet.same) own

      wrote_it : is_some (wrote j t) ≡ true
      wrote_it = sent_wrote p j quiet.lane l t legal quiet.is.may own_lane sent at

      offered_none : says_unwritten (wrote j t) ≡ false → says_feed_fault (wrote j t) ≡ false
          → answered j t ≡ true → ⊥
      offered_none written whole done = elim (co.answered_closes p j t legal done) [
        | inl won ↦ clash (granted j t.action) won free
        | inr m ↦ matched_none (all_done (wrote j t) wrote_it written whole) m
      ]

      live_none : says_unwritten (wrote j t) ≡ false → answered j t ≡ false → has_ended j l ≡ false
          → ⊥
      live_none written un running =
          let last = sent_last up running (quiet.lane / 2) own_lane in
          elim (quiet.is.free l last) [
            | inl vacant ↦ elim (or_cases (failed j l) _ vacant) [
              | inl fault ↦ clash (failed j l) fault (c.started_unfailed p j l legal up)
              | inr over ↦ clash (has_ended j l) (and_parts (has_ended j l) _ over).0 running
            ]
            | inr lives ↦ pending_there request.request request.of line request.among un written
                running lives.1
          ]

      fed_none : says_feed_fault (wrote j t) ≡ true → has_ended j l ≡ false → ⊥
      fed_none fed running =
          let last = sent_last up running (quiet.lane / 2) own_lane in
          elim (quiet.is.free l last) [
            | inl vacant ↦ elim (or_cases (failed j l) _ vacant) [
              | inl fault ↦ clash (failed j l) fault (c.started_unfailed p j l legal up)
              | inr over ↦ clash (has_ended j l) (and_parts (has_ended j l) _ over).0 running
            ]
            | inr lives ↦ clash (says_feed_fault (wrote j t)) fed
                (re.unfed p j l t legal (live_whole j l lives.0) at)
          ]

      by_fed : says_unwritten (wrote j t) ≡ false → (g : Bool) → says_feed_fault (wrote j t) ≡ g
          → (o : Bool) → has_ended j l ≡ o → (a : Bool) → answered j t ≡ a → ⊥
      by_fed written true fed true over a done = lost over (or_right (not (answered j t)) _ fed)
      by_fed written true fed false running a done = fed_none fed running
      by_fed written false whole o over true done = offered_none written whole done
      by_fed written false whole true over false un =
          lost over (or_left (not (answered j t)) _ (rw un refl))
      by_fed written false whole false running false un = live_none written un running

      by_unwritten : (b : Bool) → says_unwritten (wrote j t) ≡ b → ⊥
      by_unwritten true un = elim (le.unwritten_over p j t legal un) [
        | inl over ↦ clash (ended j t) over going
        | inr won ↦ clash (granted j t.action) won free
      ]
      by_unwritten false written =
          by_fed written (says_feed_fault (wrote j t)) refl (has_ended j l) refl (answered j t) refl

-- ---- so its action has a grant

pub going_granted : (p : Plan) (j : List Entry) (t : Attempt) → Lawful p j → AllQuiet p j
    → IsGoing j t → granted j t.action ≡ true
going_granted p j t legal all is =
    by_bool (granted j t.action) (λ b. granted j t.action ≡ b → b ≡ true) (λ _ _. refl)
    (λ _ free. absurd (none free)) refl
  where
    none : granted j t.action ≡ false → ⊥
    none free =
        let line = v.some_is (line_of j t) (begun_carried j t is.begun_yet) in
        let own = carried_own p j t line.0 legal line.1 in
        let wish : wanted p j t.action t.branch ≡ true = f.going_wanted p j t legal is
        ∙ rw free refl in
        by_bool (was_sent j t) (λ b. was_sent j t ≡ b → ⊥)
        (λ _ sent. sent_none p j t legal all is.going free line.0 line.1 sent
        (sent_up p j t line.0 legal sent line.1) own.0 own.1)
        (λ _ unsent. elim (cl.on_line p j t line.0 legal line.1) [
          | cl.Sent sent ↦ clash (was_sent j t) sent unsent
          | cl.Launched m launched ↦ unsent_none p j t legal all is.going free line.0 line.1 unsent
              wish m launched
        ]) refl
