-- Where all berths are quiet, no match of a line waits for its Claim.
use Rattle.std.proofs.Common.{◌≡◌, ℕ, ◌==◌, Bool, true, false, ◌||◌, not, cond, List, [], ◌∷◌, Option, Some, None, is_some, inl, inr, refl, sym, subst}
use Rattle.std.proofs.lemmas.Bool.{and_parts, or_cases, or_left, or_right}
use Rattle.run_plan.specs.declared.plan.Plan.{Plan}
use Rattle.exec_journal.specs.Entry.{Entry}
use Rattle.exec_journal.specs.declared.attempt.Attempt.{Attempt}
use Rattle.exec_journal.specs.declared.call.Call.{Call}
use Rattle.exec_journal.specs.declared.call.Call.TheVariants as call
use Rattle.exec_journal.specs.declared.reply.Reply.{Reply}
use Rattle.exec_journal.specs.declared.reply.Reply.TheVariants as reply
use Rattle.exec_journal.specs.Lawful.{Lawful}
use Rattle.exec_journal.specs.Rules as r
use Rattle.exec_journal.proofs.Histories as hi
use Rattle.journal_laws.proofs.Claims.{clash, false_by}
use Rattle.progress_laws.specs.Quiet.{AllQuiet}
use Rattle.progress_laws.proofs.Options.{none_some}
use Rattle.exec_journal.specs.Entries.{same_attempt, is_for, consumed_in, matched_in}
use Rattle.exec_journal.proofs.Begins.{same_attempt_refl}
use Rattle.exec_journal.specs.Rules.{gathered}
use Rattle.exec_journal.specs.Entries.{attempt_of}
use Rattle.exec_journal.specs.Words.{answered, granted, says_done, wrote}
use Rattle.exec_journal.specs.declared.call.Written.{Written}
use Rattle.exec_journal.specs.declared.call.Written.TheVariants as write
use Rattle.exec_journal.proofs.Ruled.{by_bool, not_true}
use Rattle.exec_journal.proofs.Histories.{AtSome}
use Rattle.journal_laws.specs.Invariant.{claimed}
use Rattle.call_laws.specs.Matches.{is_faulty, is_spent}
use Rattle.call_laws.proofs.Spent as sp
use Rattle.placed_rules.specs.Needs as ne
use Rattle.progress_laws.proofs.Closing as co
use Rattle.progress_laws.proofs.Going.{gathered_claimed, match_waits}

-- ---- matches of a line

matched_answered : (j : List Entry) (t : Attempt) → AtSome (λ _ e. matched_in e.reply ≡ Some t) j
    → answered j t ≡ true
unfolding answered
matched_answered [] t h = absurd h
matched_answered (e ∷ j) t (inl here) = or_left _ _ (by e.reply here)
  where
    by : (x : Reply) → matched_in x ≡ Some t → is_for t (consumed_in x) ≡ true
    by (reply.Matched a b n) m =
        (let same : attempt_of a b n ≡ t = cc in subst (λ (z : Attempt). same_attempt z t ≡ true)
        (sym same) (same_attempt_refl t))
    by _ m = absurd (cc)
matched_answered (e ∷ j) t (inr before) = or_right _ _ (matched_answered j t before)

matches_is : (l : ℕ) (d : Call) (x : Reply) (t : Attempt) → ne.matches_line l d x ≡ Some t
    → matched_in x ≡ Some t
matches_is l (call.Answer m a) (reply.Matched c b n) t h =
    by_bool (m == l) (λ z. cond z (Some (attempt_of c b n)) None ≡ Some t
    → Some (attempt_of c b n) ≡ Some t) (λ _ y. y) (λ _ y. absurd (cc)) h
matches_is l d x t h = absurd (cc)

-- ---- where all berths are quiet

module _ (p : Plan) (j : List Entry) (lawful : Lawful p j) (all : AllQuiet p j) where
  -- no match of a line waits
  unmatched : (t : Attempt) → AtSome (λ _ e. matched_in e.reply ≡ Some t) j
      → ne.waits_for_claim j (Some t) ≡ true → ⊥
  unmatched t at h =
      let parts = and_parts (not (claimed j t)) _ h in
      let unclaimed = not_true (claimed j t) parts.0 in
      let ungathered : gathered j t ≡ false = false_by _
      (λ g. clash (claimed j t) (gathered_claimed p j t lawful all g) unclaimed) in
      let unspent : is_spent j t ≡ false = elim (or_cases (gathered j t) _ parts.1) [
        | inl g ↦ absurd (clash (gathered j t) g ungathered)
        | inr n ↦ not_true (is_spent j t) n
      ] in
      let tests = neither (gathered j t) _ unspent in
      let more = neither (is_faulty (wrote j t)) (granted j t.action) tests.1 in
      elim (co.answered_closes p j t lawful (matched_answered j t at)) [
        | inl won ↦ clash (granted j t.action) won more.1
        | inr m ↦ (let quiet = all m.is.line m.berth m.is.own in
            let there = sp.asking_written p j quiet.lane t lawful quiet.is.may
            (subst (λ i. sp.IsMatchOf j i t) (sym quiet.same) m.is) in
            let whole : says_done (wrote j t) ≡ true = done_by (wrote j t) there more.0 in
            let ready : r.waits j t ≡ true = rw (whole, ungathered, more.1) refl in
            none_some (r.gathers_next j m.berth) (subst
            (λ i. r.gathers_next j i ≡ None) quiet.same quiet.is.ungathered)
            (match_waits j j m.berth t ready m.stands p lawful))
      ]
    where
      neither : (x y : Bool) → (x || y) ≡ false → (x ≡ false) × (y ≡ false)
      neither false y n = (refl, n)
      neither true y n = absurd (cc)

      done_by : (w : Option Written) → is_some w ≡ true → is_faulty w ≡ false → says_done w ≡ true
      done_by (Some write.Done) a b = refl
      done_by (Some write.RoomFault) a b = absurd (cc)
      done_by (Some write.FeedFault) a b = absurd (cc)
      done_by (Some write.TooLarge) a b = absurd (cc)
      done_by None a b = absurd (cc)

  pub none_waits : (l : ℕ) → ne.has_match_waiting j l ≡ false
  unfolding ne.has_match_waiting
  none_waits l =
      false_by _ (λ h. walk j (λ t at. at) (hi.ever_from
      (λ _ e. ne.waits_for_claim j (ne.matches_line l e.call e.reply)) j h))
    where
      walk : (i : List Entry) → ((t : Attempt) → AtSome (λ _ e. matched_in e.reply ≡ Some t) i
          → AtSome (λ _ e. matched_in e.reply ≡ Some t) j)
          → AtSome (λ _ e. ne.waits_for_claim j (ne.matches_line l e.call e.reply) ≡ true) i → ⊥
      walk [] up h = absurd h
      walk (e ∷ i) up (inl here) = by (ne.matches_line l e.call e.reply) refl here
        where
          by : (o : Option Attempt) → ne.matches_line l e.call e.reply ≡ o
              → ne.waits_for_claim j o ≡ true → ⊥
          by None is h = absurd (cc)
          by (Some t) is h = unmatched t (up t (inl (matches_is l e.call e.reply t is))) h
      walk (e ∷ i) up (inr before) = walk i (λ t at. up t (inr at)) before
