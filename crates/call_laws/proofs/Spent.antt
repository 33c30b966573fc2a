-- The matches of a berth: where its lane may Ask, each has its Wrote; and one that waits no longer
-- never waits again.
use Rattle.std.proofs.Common.{◌≡◌, ℕ, ◌/◌, Bool, true, false, ◌&&◌, ◌||◌, not, List, ◌∷◌, Option, Some, None, is_some, option_map, inl, inr, refl, sym, ap, subst, ◌∙◌}
use Rattle.std.proofs.lemmas.Bool.{or_cases, or_left, or_right}
use Rattle.run_plan.specs.declared.plan.Plan.{Plan}
use Rattle.exec_journal.specs.Lawful as lw
use Rattle.exec_journal.specs.declared.attempt.Attempt.{Attempt}
use Rattle.exec_journal.specs.Entry.{Entry}
use Rattle.exec_journal.specs.declared.call.Call.{Call}
use Rattle.exec_journal.specs.declared.call.Call.TheVariants as call
use Rattle.exec_journal.specs.declared.call.Written.{Written}
use Rattle.exec_journal.specs.declared.call.Written.TheVariants as write
use Rattle.exec_journal.specs.declared.reply.Reply.{Reply}
use Rattle.exec_journal.specs.declared.reply.Reply.TheVariants as reply
use Rattle.exec_journal.specs.Entries.{Request, is_for, send_in, gather_in, consumed_in, matched_in}
use Rattle.exec_journal.specs.Words.{last_work, sends, answered, wrote, says_done, granted}
use Rattle.exec_journal.specs.Attempts.{line_of}
use Rattle.exec_journal.specs.Rules as r
use Rattle.exec_journal.specs.Rules.{gathered}
use Rattle.exec_journal.specs.Scripts as sc
use Rattle.exec_journal.specs.Lawful.{Lawful}
use Rattle.exec_journal.specs.Facts.{call_line, reply_line, IsOfBerth, OfBerth}
use Rattle.exec_journal.proofs.Lines.{lines_named, of_berth_more}
use Rattle.exec_journal.proofs.Begins.{begin_in_order, same_attempt_refl, same_attempt_eq}
use Rattle.journal_laws.proofs.Owed.{is_send}
use Rattle.journal_laws.proofs.Carried as k
use Rattle.journal_laws.proofs.Over as v
use Rattle.journal_laws.proofs.Claims as c
use Rattle.journal_laws.proofs.Firm.{granted_stays}
use Rattle.journal_laws.proofs.Offered as of
use Rattle.journal_laws.proofs.Lanes as la
use Rattle.call_laws.specs.Matches.{is_faulty, is_spent}
use Rattle.call_laws.proofs.Owing as ow

-- ---- an answer that was matched

-- its request is on a line of the berth, and was sent
pub record IsMatchOf (j : List Entry) (w : ℕ) (t : Attempt) : Type 0 where
  pub line : ℕ
  pub own : IsOfBerth j line w
  pub carrier : line_of j t ≡ Some line
  pub consumed : answered j t ≡ true

pub match_later : (p : Plan) (e : Entry) (j : List Entry) (w : ℕ) (t : Attempt) → Lawful p (e ∷ j)
    → IsMatchOf j w t → IsMatchOf (e ∷ j) w t
match_later p e j w t legal m = record {
  line = m.line;
  own = of_berth_more e j m.line w (lines_named p (e ∷ j) legal).1.numbered m.own;
  carrier = k.line_stays e j t m.line (begin_in_order p (e ∷ j) legal) m.carrier;
  consumed = c.answered_later e j t m.consumed;
}

matched_consumed : (x : Reply) (t : Attempt) → matched_in x ≡ Some t → consumed_in x ≡ Some t
matched_consumed (reply.Matched a b n) t h = h
matched_consumed _ t h = absurd (cc)

pub match_now : (p : Plan) (e : Entry) (j : List Entry) (t : Attempt) → Lawful p (e ∷ j)
    → matched_in e.reply ≡ Some t → IsMatchOf (e ∷ j) (e.lane / 2) t
unfolding answered
match_now p e j t legal h =
    let is = matched_consumed e.reply t h in
    let one = v.consumes p j e.lane e.call e.reply t (v.entry_ruled p e j legal) is in
    let at = v.consumed_open p j e.lane e.call t (begin_in_order p j legal.0) one in
    let named = (lines_named p (e ∷ j) legal).1 in
    let own : IsOfBerth j one.line (e.lane / 2) = subst
    (λ (d : Call). OfBerth j (call_line d) (e.lane / 2)) one.is named.called in
    record {
      line = one.line;
      own = of_berth_more e j one.line (e.lane / 2) named.numbered own;
      carrier = k.line_stays e j t one.line (begin_in_order p (e ∷ j) legal) at.carrier;
      consumed = or_left (is_for t (consumed_in e.reply)) _
          (subst (λ (x : Option Attempt). is_for t x ≡ true) (sym is) (same_attempt_refl t));
    }

-- ---- where a lane may Ask, what its berth was answered has its Wrote

send_names : (j : List Entry) (d : Entry) (t : Attempt) → is_send t d ≡ true
    → (x : Request) × (send_in d.reply ≡ Some x) × (x.attempt ≡ t)
send_names j d t h = by (send_in d.reply) refl h
  where
    by : (o : Option Request) → send_in d.reply ≡ o → is_for t (option_map (λ y. y.attempt) o)
        ≡ true → (x : Request) × (send_in d.reply ≡ Some x) × (x.attempt ≡ t)
    by (Some x) is g = (x, is, same_attempt_eq x.attempt t g)
    by None is g = absurd (cc)

send_line : (x : Reply) (y : Request) → send_in x ≡ Some y → (reply_line x ≡ Some y.line)
send_line (reply.Send l n a b t) y h = ap (λ (z : Option Request). option_map (λ w. w.line) z) h
send_line _ y h = absurd (cc)

pub asking_written : (p : Plan) (j : List Entry) (lane : ℕ) (t : Attempt) → Lawful p j
    → lw.in_script p j lane call.Ask ≡ true → IsMatchOf j (lane / 2) t → is_some (wrote j t) ≡ true
asking_written p j lane t legal asks m =
    ow.asking_met p j lane (is_send t) (ow.is_written t) legal asks
    (λ d y. ow.send_order t d.reply y) own (ow.send_met p j t legal
    (c.answered_sent p j t legal m.consumed))
  where
    own : (n : ℕ) (d : Entry) → last_work j n ≡ Some d → is_send t d ≡ true → n / 2 ≡ lane / 2
    own n d at y =
        let s = send_names j d t y in
        let head = la.newest_head p j n d s.0 legal at s.1 in
        let on = of.all_head_of (k.IsSentOn j s.0.line) (sends j s.0.line) s.0
        (k.sends_on j s.0.line (begin_in_order p j legal)) head in
        let there : line_of j t ≡ Some s.0.line = subst (λ (x : Attempt). line_of j x
        ≡ Some s.0.line) s.2 on.carrier in
        let both : Some s.0.line ≡ Some m.line = sym there ∙ m.carrier in
        let same : s.0.line ≡ m.line = cc in
        la.berths_same j m.line (n / 2) (lane / 2) (subst (λ i. IsOfBerth j i (n / 2)) same
        (la.newest_own_line p j n s.0.line d legal at (send_line d.reply s.0 s.1))) m.own

-- ---- a match that waits no longer

faulty_is : (o : Option Written) → is_faulty o ≡ true → (y : Written) × (o ≡ Some y)
faulty_is (Some y) h = (y, refl)
faulty_is None h = absurd (cc)

pub spent_stays : (e : Entry) (j : List Entry) (t : Attempt) → is_spent j t ≡ true
    → is_spent (e ∷ j) t ≡ true
unfolding gathered
spent_stays e j t h = elim (or_cases (gathered j t) _ h) [
  | inl a ↦ or_left (gathered (e ∷ j) t) _ (or_right (is_for t (gather_in e.reply)) _ a)
  | inr b ↦ or_right (gathered (e ∷ j) t) _ (elim (or_cases (is_faulty (wrote j t)) _ b) [
    | inl fault ↦ or_left (is_faulty (wrote (e ∷ j) t)) _ (let y = faulty_is (wrote j t) fault in
        subst (λ (o : Option Written). is_faulty o ≡ true) (sym (v.wrote_stays e j t y.0 y.1))
        (subst (λ (o : Option Written). is_faulty o ≡ true) y.1 fault))
    | inr won ↦ or_right (is_faulty (wrote (e ∷ j) t)) _ (granted_stays e j t.action won)
  ])
]

-- with its Wrote there, it waits exactly where it isn't spent
pub waits_is : (j : List Entry) (t : Attempt) → is_some (wrote j t) ≡ true
    → r.waits j t ≡ not (is_spent j t)
waits_is j t h = by (wrote j t) (gathered j t) (granted j t.action) h
  where
    by : (o : Option Written) (a b : Bool) → is_some o ≡ true
        → (says_done o && (not a && not b)) ≡ not (a || (is_faulty o || b))
    by (Some write.Done) true b g = refl
    by (Some write.Done) false true g = refl
    by (Some write.Done) false false g = refl
    by (Some _) true b g = refl
    by (Some _) false b g = refl
    by None a b g = absurd (cc)
