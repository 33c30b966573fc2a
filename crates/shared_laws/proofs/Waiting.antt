-- A match that waits for its Claim is of its berth's last line: it is recent and not spent, or the
-- proxy lane owes its Claim.
use Rattle.std.proofs.Common.{◌≡◌, ℕ, ◌/◌, ◌==◌, Bool, true, false, not, cond, List, [], ◌∷◌, Option, Some, None, option_map, inl, inr, refl, sym, ap, subst, ◌∙◌}
use Rattle.std.specs.List.{filter}
use Rattle.std.proofs.lemmas.Bool.{eqb-true, and_parts, and_from, or_cases, or_left, or_right}
use Rattle.run_plan.specs.declared.plan.Plan.{Plan}
use Rattle.exec_journal.specs.declared.attempt.Attempt.{Attempt}
use Rattle.exec_journal.specs.declared.call.Call.{Call}
use Rattle.exec_journal.specs.declared.call.Call.TheVariants as call
use Rattle.exec_journal.specs.declared.reply.Reply.{Reply}
use Rattle.exec_journal.specs.declared.reply.Reply.TheVariants as reply
use Rattle.exec_journal.specs.Entry.{Entry}
use Rattle.exec_journal.specs.Entries.{is_for, gather_in, launch_in}
use Rattle.exec_journal.specs.Facts.{call_line}
use Rattle.exec_journal.specs.Lawful as lw
use Rattle.exec_journal.specs.Lawful.{Lawful, NoneBefore}
use Rattle.exec_journal.specs.Rules.{gathered, oldest}
use Rattle.exec_journal.specs.Words.{last_line, says_done, wrote}
use Rattle.exec_journal.specs.declared.call.Written.{Written}
use Rattle.exec_journal.specs.declared.call.Written.TheVariants as write
use Rattle.exec_journal.proofs.Begins.{same_attempt_eq}
use Rattle.exec_journal.proofs.Reasons as u
use Rattle.exec_journal.proofs.Ruled.{by_bool, not_true}
use Rattle.list_lemmas.specs.Options.{or_else}
use Rattle.journal_laws.specs.Invariant.{claims_it, claimed}
use Rattle.journal_laws.proofs.Owed as o
use Rattle.journal_laws.proofs.Claims as c
use Rattle.journal_laws.proofs.Claims.{clash, false_by}
use Rattle.journal_laws.proofs.Lanes as la
use Rattle.journal_laws.proofs.Over as v
use Rattle.call_laws.specs.Matches.{Matched, gather_of, is_faulty, is_spent, matched_at, recent, waits_yet}
use Rattle.call_laws.proofs.Gathers.{all_matches, gathers}
use Rattle.call_laws.proofs.LastLines as ll
use Rattle.call_laws.proofs.Owing as ow
use Rattle.call_laws.proofs.Spent as sp
use Rattle.placed_rules.specs.Needs.{waits_for_claim}
use Rattle.shared_laws.proofs.Matched as ma
use Rattle.shared_laws.proofs.Members.{Member, one_more}

abbrev pub waits : List Entry → Matched → Bool
waits j m = waits_for_claim j (Some m.attempt)

-- ---- what waits later waited before

unclaimed_before : (e : Entry) (j : List Entry) (t : Attempt) → claimed (e ∷ j) t ≡ false
    → claimed j t ≡ false
unfolding claimed
unclaimed_before e j t h = false_by _ (λ y. clash (claimed (e ∷ j) t)
    (or_right (claims_it t e.call) _ y) h)

done_whole : (y : Option Written) → says_done y ≡ true → is_faulty y ≡ false
done_whole (Some write.Done) h = refl
done_whole (Some write.RoomFault) h = absurd (cc)
done_whole (Some write.TooLarge) h = absurd (cc)
done_whole (Some write.FeedFault) h = absurd (cc)
done_whole None h = absurd (cc)

module _ (p : Plan) (e : Entry) (j : List Entry) (legal : Lawful p (e ∷ j)) where
  -- what is gathered now wasn't spent
  unspent : (t : Attempt) → is_for t (gather_in e.reply) ≡ true → is_spent j t ≡ false
  unspent t h = by (gather_in e.reply) refl h
    where
      by : (y : Option Attempt) → gather_in e.reply ≡ y → is_for t y ≡ true
          → is_spent j t ≡ false
      by None is g = absurd (cc)
      by (Some x) is g =
          let same = same_attempt_eq x t g in
          let it = c.gather_is p j e.lane e.call e.reply t (v.entry_ruled p e j legal)
          (is ∙ ap Some same) in
          rw (it.ungathered, done_whole (wrote j t) it.written, it.ungranted) refl

  waited : (t : Attempt) → waits_for_claim (e ∷ j) (Some t) ≡ true
      → waits_for_claim j (Some t) ≡ true
  unfolding gathered
  waited t h =
      let parts = and_parts (not (claimed (e ∷ j) t)) _ h in
      let free = unclaimed_before e j t (not_true (claimed (e ∷ j) t) parts.0) in
      and_from _ _ (rw free refl) (elim (or_cases (gathered (e ∷ j) t) _ parts.1) [
        | inl ordered ↦ elim (or_cases (is_for t (gather_in e.reply)) _ ordered) [
          | inl now ↦ or_right (gathered j t) _ (ap not (unspent t now))
          | inr before ↦ or_left (gathered j t) _ before
        ]
        | inr yet ↦ or_right (gathered j t) _ (ap not (false_by (is_spent j t)
            (λ y. clash (is_spent (e ∷ j) t) (sp.spent_stays e j t y)
            (not_true (is_spent (e ∷ j) t) yet))))
      ])

-- ---- a lane that may Ask, for whose berth there is nothing to gather

none_there : {X : Type 0} (f : X → Bool) (x : X) (xs : List X) → oldest (filter f xs) ≡ None
    → Member x xs → f x ≡ false
none_there f x [] h at = absurd at
none_there f x (y ∷ ys) h at =
    by_bool (f y) (λ b. f y ≡ b → oldest (cond b (y ∷ filter f ys) (filter f ys)) ≡ None
    → f x ≡ false)
    (λ _ on g. absurd (some (oldest (filter f ys)) y g))
    (λ _ off g. elim at [
      | inl same ↦ ap f same ∙ off
      | inr more ↦ none_there f x ys g more
    ]) refl h
  where
    some : {X : Type 0} (o : Option X) (z : X) → or_else o (Some z) ≡ None → ⊥
    some (Some y) z g = cc
    some None z g = cc

none_is : (y : Option Matched) → option_map gather_of y ≡ None → y ≡ None
none_is None h = refl
none_is (Some m) h = absurd (cc)

launches_none : (p : Plan) (j : List Entry) (lane : ℕ) (d : Call) (x : Reply) (y : ℕ × Attempt)
    → u.Ruled p j lane d x → launch_in x ≡ Some y → NoneBefore p j (lane / 2)
launches_none p j lane d x y (u.Launches g t vacant next none) h = none
launches_none p j lane d x y (u.KillsBroken l z here run broken over) h = absurd (cc)
launches_none p j lane d x y _ h = absurd (cc)

pub gather_order : (t : Attempt) (x : Reply) → is_for t (gather_in x) ≡ true → la.is_order x ≡ true
gather_order t (reply.Gather l n a b m e r) h = refl
gather_order t _ h = absurd (cc)

-- a match of a berth that is given a new line waits no longer
none_waits : (p : Plan) (j : List Entry) (lane : ℕ) (m : Matched) → Lawful p j
    → lw.in_script p j lane call.Ask ≡ true → NoneBefore p j (lane / 2)
    → Member m (all_matches j (lane / 2)) → waits j m ≡ true → ⊥
none_waits p j lane m legal asks none in_it h =
    let parts = and_parts (not (claimed j m.attempt)) _ h in
    let free = not_true (claimed j m.attempt) parts.0 in
    let ordered : gathered j m.attempt ≡ true = elim (or_cases (gathered j m.attempt) _ parts.1) [
      | inl y ↦ y
      | inr yet ↦ absurd (clash (is_spent j m.attempt) spent (not_true (is_spent j m.attempt) yet))
    ] in
    let met = ow.asking_met p j lane (o.is_gather m.attempt) (λ i. claimed i m.attempt) legal asks
    (λ d y. gather_order m.attempt d.reply y)
    (λ n d at y. ma.gathers_own p j n (lane / 2) d m legal in_it at y)
    (ow.gather_met p j m.attempt legal ordered) in
    clash (claimed j m.attempt) met free
  where
    spent : is_spent j m.attempt ≡ true
    spent = elim (ma.recent_or_spent p j (lane / 2) m legal in_it) [
      | inl new ↦ true_by (is_spent j m.attempt) (none_there (waits_yet j) m (recent j (lane / 2))
          (none_is _ (sym (gathers p j lane legal asks) ∙ none.no_gather)) new)
      | inr old ↦ old
    ]
      where
        true_by : (b : Bool) → not b ≡ false → b ≡ true
        true_by true h = refl
        true_by false h = absurd (cc)

-- ---- so each that waits is of the berth's last line

pub waits_last : (p : Plan) (j : List Entry) (w : ℕ) (m : Matched) → Lawful p j
    → Member m (all_matches j w) → waits j m ≡ true → last_line j w ≡ Some m.line
waits_last p [] w m legal at h = absurd at
waits_last p (e ∷ j) w m legal at h = elim (one_more (matched_at w e) m (all_matches j w) at) [
  | inl now ↦ (let x = ma.answer_is w e m now in
      ll.last_same e j w (ap launch_in x.is)
      ∙ subst (λ n. last_line j n ≡ Some m.line) x.berth
      (ll.names_last p j e.lane m.line e.call legal.0 legal.1.scripted (ap call_line x.said)))
  | inr before ↦ (let old = waited p e j legal m.attempt h in
      kept before old (waits_last p j w m legal.0 before old) (launch_in e.reply) refl)
]
  where
    kept : Member m (all_matches j w) → waits j m ≡ true → last_line j w ≡ Some m.line
        → (y : Option (ℕ × Attempt)) → launch_in e.reply ≡ y
        → last_line (e ∷ j) w ≡ Some m.line
    kept in_it old here None is = ll.last_same e j w is ∙ here
    kept in_it old here (Some y) is =
        by_bool (e.lane / 2 == w) (λ b. (e.lane / 2 == w) ≡ b → last_line (e ∷ j) w ≡ Some m.line)
        (λ _ same. absurd (
        let ruled = v.entry_ruled p e j legal in
        let ask = c.launch_asks p j e.lane e.call e.reply y ruled is in
        let asks : lw.in_script p j e.lane call.Ask ≡ true =
        subst (λ (d : Call). lw.in_script p j e.lane d ≡ true) ask legal.1.scripted in
        none_waits p j e.lane m legal.0 asks
        (launches_none p j e.lane e.call e.reply y ruled is)
        (subst (λ n. Member m (all_matches j n)) (sym (eqb-true (e.lane / 2) w same)) in_it) old))
        (λ _ off. ll.last_other e j w off ∙ here) refl
