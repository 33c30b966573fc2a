-- A line waits for a Claim where a recent match of its berth isn't spent, or the berth's proxy lane
-- owes the Claim of one.
use Rattle.std.proofs.Common.{◌≡◌, ℕ, ◌*◌, ◌/◌, ◌==◌, nat_lt, length, Bool, true, false, ◌||◌, not, cond, List, [], ◌∷◌, Option, Some, None, inl, inr, refl, sym, ap, subst, ◌∙◌}
use Rattle.std.specs.List.{list_any}
use Rattle.std.proofs.lemmas.Bool.{eqb-true, eq-eqb, and_parts, and_from, or_cases, or_left, or_right}
use Rattle.run_plan.specs.declared.plan.Plan.{Plan}
use Rattle.exec_journal.specs.declared.attempt.Attempt.{Attempt}
use Rattle.exec_journal.specs.declared.call.Call.{Call}
use Rattle.exec_journal.specs.declared.call.Call.TheVariants as call
use Rattle.exec_journal.specs.declared.reply.Reply.{Reply}
use Rattle.exec_journal.specs.declared.reply.Reply.TheVariants as reply
use Rattle.exec_journal.specs.Entry.{Entry}
use Rattle.exec_journal.specs.Entries.{attempt_of, is_for, gather_in}
use Rattle.exec_journal.specs.Facts.{call_line, IsOfBerth, OfBerth}
use Rattle.exec_journal.specs.History.{ever}
use Rattle.exec_journal.specs.Lawful.{Lawful}
use Rattle.exec_journal.specs.Rules.{gathered}
use Rattle.exec_journal.specs.Words.{last_line, last_work}
use Rattle.exec_journal.proofs.Begins.{same_attempt_refl}
use Rattle.exec_journal.proofs.Lines.{lines_named, of_berth_more}
use Rattle.exec_journal.proofs.Ruled.{by_bool, not_true}
use Rattle.journal_laws.specs.Invariant.{claimed}
use Rattle.journal_laws.proofs.Owed as o
use Rattle.journal_laws.proofs.Claims as c
use Rattle.journal_laws.proofs.Claims.{clash, false_by}
use Rattle.journal_laws.proofs.Lanes as la
use Rattle.call_laws.specs.Matches.{Matched, is_spent, matched_at, recent, waits_yet}
use Rattle.call_laws.proofs.Gathers.{all_matches}
use Rattle.call_laws.proofs.Owing as ow
use Rattle.core_tables.specs.Lanes.{order_after, order_of_work}
use Rattle.placed_rules.specs.Needs.{has_match_waiting, matches_line, waits_for_claim}
use Rattle.shared_laws.specs.Berths.{is_gathering}
use Rattle.shared_laws.proofs.Held.{proxy_is, proxy_of}
use Rattle.shared_laws.proofs.Matched as ma
use Rattle.shared_laws.proofs.Members.{Member, any_member, member_any, more_new, more_old, one_more}
use Rattle.shared_laws.proofs.Waiting.{gather_order, waits, waits_last}

-- ---- of a line the matches stand in the journal

-- where only this berth has launched the line
module _ (w l : ℕ) (i : List Entry) where
  some_match : (p : Plan) (j : List Entry) → Lawful p j
      → ((n : ℕ) → IsOfBerth j l n → n ≡ w)
      → ever (λ _ e. waits_for_claim i (matches_line l e.call e.reply)) j ≡ true
      → (m : Matched) × Member m (all_matches j w) × (m.line ≡ l) × (waits i m ≡ true)
  some_match p [] legal only h = absurd (cc)
  some_match p (e ∷ j) legal only h =
      elim (or_cases (waits_for_claim i (matches_line l e.call e.reply)) _ h) [
        | inl now ↦ here e.call e.reply refl refl now
        | inr before ↦ (let x = some_match p j legal.0 (λ n own. only n (of_berth_more e j l n
            (lines_named p (e ∷ j) legal).1.numbered own)) before in
            (x.0, more_old (matched_at w e) x.0 (all_matches j w) x.1, x.2, x.3))
      ]
    where
      here : (d : Call) (x : Reply) → e.call ≡ d → e.reply ≡ x
          → waits_for_claim i (matches_line l d x) ≡ true
          → (m : Matched) × Member m (all_matches (e ∷ j) w) × (m.line ≡ l) × (waits i m ≡ true)
      here (call.Answer n y) (reply.Matched a b t) said is g =
          by_bool (n == l) (λ z. (n == l) ≡ z
          → waits_for_claim i (cond z (Some (attempt_of a b t)) None) ≡ true
          → (m : Matched) × Member m (all_matches (e ∷ j) w) × (m.line ≡ l) × (waits i m ≡ true))
          (λ _ same k. (
            of_it,
            more_new (matched_at w e) of_it (all_matches j w) (at (eqb-true n l same)),
            eqb-true n l same,
            k,
          )) (λ _ _ k. absurd (cc)) refl g
        where
          of_it : Matched
          of_it = record {
            line = n;
            number = y.number;
            attempt = attempt_of a b t;
            exit = y.exit;
            refused = nat_lt 0 (length y.refusal);
          }

          at : n ≡ l → matched_at w e ≡ Some of_it
          at same =
              let named = (lines_named p (e ∷ j) legal).1 in
              let own : IsOfBerth j n (e.lane / 2) = subst
              (λ (d : Call). OfBerth j (call_line d) (e.lane / 2)) said named.called in
              let berth = only (e.lane / 2) (of_berth_more e j l (e.lane / 2) named.numbered
              (subst (λ k. IsOfBerth j k (e.lane / 2)) same own)) in
              rw (eq-eqb (e.lane / 2) w berth, said, is) refl
      here _ _ said is g = absurd (cc)

  pub match_some : (j : List Entry) (m : Matched) → Member m (all_matches j w) → m.line ≡ l
      → waits i m ≡ true
      → ever (λ _ e. waits_for_claim i (matches_line l e.call e.reply)) j ≡ true
  match_some [] m at line h = absurd at
  match_some (e ∷ j) m at line h =
      elim (one_more (matched_at w e) m (all_matches j w) at) [
        | inl now ↦ or_left _ _ (here (ma.answer_is w e m now))
        | inr before ↦ or_right (waits_for_claim i (matches_line l e.call e.reply)) _
            (match_some j m before line h)
      ]
    where
      here : ma.IsAnswer w e m → waits_for_claim i (matches_line l e.call e.reply) ≡ true
      here x = rw (x.said, x.is, eq-eqb m.line l line) h

-- ---- a line waits for a Claim

module _ (p : Plan) (j : List Entry) (w l : ℕ) (legal : Lawful p j)
    (here : last_line j w ≡ Some l) where
  abbrev recent_waits : Bool
  recent_waits = list_any (waits_yet j) (recent j w)

  abbrev gathers_now : Bool
  gathers_now = is_gathering (order_of_work (last_work j (2 * w)))

  -- the match has its line, and the line waits
  line_waits : (m : Matched) → Member m (all_matches j w) → waits j m ≡ true
      → has_match_waiting j l ≡ true
  unfolding has_match_waiting
  line_waits m at h =
      let both : Some m.line ≡ Some l = sym (waits_last p j w m legal at h) ∙ here in
      let same : m.line ≡ l = cc in
      match_some w l j j m at same h

  recent_is : recent_waits ≡ true → has_match_waiting j l ≡ true
  recent_is h =
      let x = any_member (waits_yet j) (recent j w) h in
      let fresh = not_true (is_spent j x.0.attempt) x.2 in
      let free = false_by (claimed j x.0.attempt) (λ y. clash (is_spent j x.0.attempt)
      (or_left (gathered j x.0.attempt) _ (c.claimed_gathered p j x.0.attempt legal y)) fresh) in
      line_waits x.0 (ma.recent_among j w x.0 x.1)
      (and_from _ _ (ap not free) (or_right (gathered j x.0.attempt) _ (ap not fresh)))

  gathering_is : gathers_now ≡ true → has_match_waiting j l ≡ true
  gathering_is h = by (last_work j (2 * w)) refl h
    where
      ordered : (d : Entry) (t : Attempt) → last_work j (2 * w) ≡ Some d
          → gather_in d.reply ≡ Some t → has_match_waiting j l ≡ true
      ordered d t at g =
          let x = ma.gathering_one p j (2 * w) d t legal at g in
          let it : is_for x.0.attempt (gather_in d.reply) ≡ true = rw g
          (subst (λ (y : Attempt). is_for y (Some t) ≡ true) (sym x.2) (same_attempt_refl t)) in
          line_waits x.0 (subst (λ n. Member x.0 (all_matches j n)) (proxy_of w) x.1)
          (and_from _ _ (ap not (c.owed_unclaimed p j x.0.attempt legal (2 * w) d at it))
          (or_left (gathered j x.0.attempt) _
          (c.gathered_newest j x.0.attempt (2 * w) d at it)))

      by : (y : Option Entry) → last_work j (2 * w) ≡ y → is_gathering (order_of_work y) ≡ true
          → has_match_waiting j l ≡ true
      by None at g = absurd (cc)
      by (Some d) at g = of_reply d.reply refl g
        where
          of_reply : (x : Reply) → d.reply ≡ x → is_gathering (order_after x) ≡ true
              → has_match_waiting j l ≡ true
          of_reply (reply.Gather n z a b t y r) is k =
              ordered d (attempt_of a b t) at (ap gather_in is)
          of_reply (reply.Launch n a b t) is k = absurd (cc)
          of_reply (reply.Send n z a b t) is k = absurd (cc)
          of_reply (reply.Cancel n z) is k = absurd (cc)
          of_reply (reply.Kill n y) is k = absurd (cc)
          of_reply (reply.Line n) is k = absurd (cc)
          of_reply reply.Stop is k = absurd (cc)
          of_reply _ is k = absurd (cc)

  only_these : has_match_waiting j l ≡ true → (recent_waits || gathers_now) ≡ true
  unfolding has_match_waiting
  only_these h =
      let own = la.here_own p j w l legal here in
      let x = some_match w l j p j legal (λ n at. la.berths_same j l n w at own) h in
      elim (ma.recent_or_spent p j w x.0 legal x.1) [
        | inl new ↦ by_bool (is_spent j x.0.attempt) (λ b. is_spent j x.0.attempt ≡ b
            → (recent_waits || gathers_now) ≡ true)
            (λ _ spent. or_right recent_waits gathers_now (owed x.0 x.1 x.3 spent))
            (λ _ fresh. or_left recent_waits gathers_now
            (member_any (waits_yet j) x.0 (recent j w) new (ap not fresh))) refl
        | inr spent ↦ or_right recent_waits gathers_now (owed x.0 x.1 x.3 spent)
      ]
    where
      owed : (m : Matched) → Member m (all_matches j w) → waits j m ≡ true
          → is_spent j m.attempt ≡ true → gathers_now ≡ true
      owed m at h spent =
          let parts = and_parts (not (claimed j m.attempt)) _ h in
          let free = not_true (claimed j m.attempt) parts.0 in
          elim (or_cases (gathered j m.attempt) _ parts.1) [
            | inl ordered ↦ by (ow.gather_met p j m.attempt legal ordered) free
            | inr yet ↦ absurd (clash (is_spent j m.attempt) spent
                (not_true (is_spent j m.attempt) yet))
          ]
        where
          gather_after : (x : Reply) → is_for m.attempt (gather_in x) ≡ true
              → is_gathering (order_after x) ≡ true
          gather_after (reply.Gather n z a b t y r) g = refl
          gather_after _ g = absurd (cc)

          by : ow.IsMet (o.is_gather m.attempt) (λ i. claimed i m.attempt) j
              → claimed j m.attempt ≡ false → gathers_now ≡ true
          by (ow.Done y) free = absurd (clash (claimed j m.attempt) y free)
          by (ow.Owes lane d newest y) free =
              let same = proxy_is p j lane w d legal newest (gather_order m.attempt d.reply y)
              (ma.gathers_own p j lane w d m legal at newest y) in
              let mine : last_work j (2 * w) ≡ Some d =
              subst (λ n. last_work j n ≡ Some d) same newest in
              ap (λ z. is_gathering (order_of_work z)) mine ∙ gather_after d.reply y

  pub waiting_is : (recent_waits || gathers_now) ≡ has_match_waiting j l
  waiting_is = by_bool (has_match_waiting j l) (λ b. has_match_waiting j l ≡ b
      → (recent_waits || gathers_now) ≡ b)
      (λ _ on. only_these on)
      (λ _ off. false_by _ (λ y. elim (or_cases recent_waits gathers_now y) [
        | inl new ↦ clash (has_match_waiting j l) (recent_is new) off
        | inr now ↦ clash (has_match_waiting j l) (gathering_is now) off
      ])) refl
