-- The matches of a berth: on which line each came, and which of them wait.
use Rattle.std.proofs.Common.{◌≡◌, ℕ, ◌/◌, ◌==◌, nat_lt, Bool, true, false, ◌&&◌, cond, List, [], ◌∷◌, length, Option, Some, None, option_map, ◌⊎◌, inl, inr, refl, sym, ap, subst, ◌∙◌}
use Rattle.std.specs.List.{filter}
use Rattle.std.proofs.lemmas.Bool.{eqb-true}
use Rattle.run_plan.specs.declared.plan.Plan.{Plan}
use Rattle.exec_journal.specs.declared.attempt.Attempt.{Attempt}
use Rattle.exec_journal.specs.declared.call.Answer.{Answer}
use Rattle.exec_journal.specs.declared.call.Call.{Call}
use Rattle.exec_journal.specs.declared.call.Call.TheVariants as call
use Rattle.exec_journal.specs.declared.reply.Reply.{Reply}
use Rattle.exec_journal.specs.declared.reply.Reply.TheVariants as reply
use Rattle.exec_journal.specs.Entry.{Entry}
use Rattle.exec_journal.specs.Entries.{attempt_of, consumed_in, is_for, gather_in, matched_in}
use Rattle.exec_journal.specs.Facts.{call_line, IsOfBerth, OfBerth}
use Rattle.exec_journal.specs.Lawful as lw
use Rattle.exec_journal.specs.Lawful.{Lawful, NoneBefore}
use Rattle.exec_journal.specs.Rules.{oldest}
use Rattle.exec_journal.specs.Words.{last_work}
use Rattle.exec_journal.specs.Attempts.{line_of}
use Rattle.exec_journal.proofs.Begins.{begin_in_order, same_attempt_eq}
use Rattle.exec_journal.proofs.Lines.{lines_named, of_berth_more}
use Rattle.exec_journal.proofs.Reasons as u
use Rattle.exec_journal.proofs.Ruled.{by_bool}
use Rattle.list_lemmas.specs.Options.{and_more}
use Rattle.journal_laws.proofs.Owed as o
use Rattle.journal_laws.proofs.Carried as k
use Rattle.journal_laws.proofs.Claims.{clash}
use Rattle.journal_laws.proofs.Lanes as la
use Rattle.journal_laws.proofs.Over as v
use Rattle.call_laws.specs.Matches.{Matched, gather_of, is_spent, matched_at, matched_by, recent, sends_at, waits_yet}
use Rattle.call_laws.proofs.Gathers.{all_matches, earlier, earlier_spent, gathers}
use Rattle.call_laws.proofs.Spent as sp
use Rattle.shared_laws.proofs.Members.{Member, all_member, more_new, more_old, oldest_member, one_more}

-- ---- a match is an Answer of its line, by the berth's lane

pub record IsAnswer (w : ℕ) (e : Entry) (m : Matched) : Type 0 where
  pub berth : e.lane / 2 ≡ w
  pub answer : Answer
  pub said : e.call ≡ call.Answer m.line answer
  pub is : e.reply ≡ reply.Matched m.attempt.action m.attempt.branch m.attempt.number

pub answer_is : (w : ℕ) (e : Entry) (m : Matched) → matched_at w e ≡ Some m → IsAnswer w e m
answer_is w e m h =
    by_bool (e.lane / 2 == w) (λ b. (e.lane / 2 == w) ≡ b
    → cond b (matched_by e.call e.reply) None ≡ Some m → IsAnswer w e m)
    (λ _ same g. let x = of_entry e.call e.reply g in record {
      berth = eqb-true (e.lane / 2) w same;
      answer = x.0;
      said = x.1;
      is = x.2;
    })
    (λ _ _ g. absurd (cc)) refl h
  where
    of_entry : (d : Call) (x : Reply) → matched_by d x ≡ Some m
        → (y : Answer) × (d ≡ call.Answer m.line y)
        × (x ≡ reply.Matched m.attempt.action m.attempt.branch m.attempt.number)
    of_entry (call.Answer l y) (reply.Matched a b n) g =
        let same : record {
          line = l;
          number = y.number;
          attempt = attempt_of a b n;
          exit = y.exit;
          refused = nat_lt 0 (length y.refusal);
        } ≡ m = cc in (
          y,
          ap (λ (z : Matched). call.Answer z.line y) same,
          ap (λ (z : Matched). reply.Matched z.attempt.action z.attempt.branch z.attempt.number)
              same,
        )
    of_entry _ _ g = absurd (cc)

-- its attempt was sent on that line, which is the berth's
pub record IsOn (j : List Entry) (w : ℕ) (m : Matched) : Type 0 where
  pub own : IsOfBerth j m.line w
  pub carrier : line_of j m.attempt ≡ Some m.line

module _ (p : Plan) (e : Entry) (j : List Entry) (legal : Lawful p (e ∷ j)) where
  on_later : (w : ℕ) (m : Matched) → IsOn j w m → IsOn (e ∷ j) w m
  on_later w m at = record {
    own = of_berth_more e j m.line w (lines_named p (e ∷ j) legal).1.numbered at.own;
    carrier = k.line_stays e j m.attempt m.line (begin_in_order p (e ∷ j) legal) at.carrier;
  }

  on_now : (w : ℕ) (m : Matched) → IsAnswer w e m → IsOn (e ∷ j) w m
  on_now w m x =
      let y = sp.match_now p e j m.attempt legal (ap matched_in x.is) in
      let one = v.consumes p j e.lane e.call e.reply m.attempt (v.entry_ruled p e j legal)
      (ap consumed_in x.is) in
      let same_call : call.Answer one.line one.answer ≡ call.Answer m.line x.answer =
      sym one.is ∙ x.said in
      let line : one.line ≡ m.line = cc in
      let carried = v.consumed_open p j e.lane e.call m.attempt (begin_in_order p j legal.0) one in
      let named : OfBerth j (call_line e.call) (e.lane / 2) =
      (lines_named p (e ∷ j) legal).1.called in
      let own : IsOfBerth j m.line w = subst (λ n. IsOfBerth j m.line n) x.berth
      (subst (λ (d : Call). OfBerth j (call_line d) (e.lane / 2)) x.said named) in
      on_later w m (record { own = own; carrier = carried.carrier ∙ ap Some line })

pub are_on : (p : Plan) (j : List Entry) (w : ℕ) (m : Matched) → Lawful p j
    → Member m (all_matches j w) → IsOn j w m
are_on p [] w m legal at = absurd at
are_on p (e ∷ j) w m legal at = elim (one_more (matched_at w e) m (all_matches j w) at) [
  | inl now ↦ on_now p e j legal w m (answer_is w e m now)
  | inr before ↦ on_later p e j legal w m (are_on p j w m legal.0 before)
]

-- ---- each that isn't recent is spent

recent_or_earlier : (j : List Entry) (w : ℕ) (m : Matched) → Member m (all_matches j w)
    → Member m (recent j w) ⊎ Member m (earlier j w)
unfolding recent
recent_or_earlier [] w m at = absurd at
recent_or_earlier (e ∷ j) w m at =
    by_bool (sends_at w e) (λ b. Member m (cond b [] (and_more (matched_at w e) (recent j w)))
    ⊎ Member m (cond b (all_matches j w) (earlier j w)))
    (λ on. inr (sent on)) (λ _. kept (one_more (matched_at w e) m (all_matches j w) at)
    (λ before. recent_or_earlier j w m before))
  where
    sent : sends_at w e ≡ true → Member m (all_matches j w)
    sent on = elim (one_more (matched_at w e) m (all_matches j w) at) [
      | inl now ↦ (let x = answer_is w e m now in
          absurd (clash (sends_at w e) on (rw x.is (none (e.lane / 2 == w)))))
      | inr before ↦ before
    ]
      where
        none : (b : Bool) → (b && false) ≡ false
        none true = refl
        none false = refl

    kept : (matched_at w e ≡ Some m) ⊎ Member m (all_matches j w)
        → (Member m (all_matches j w) → Member m (recent j w) ⊎ Member m (earlier j w))
        → Member m (and_more (matched_at w e) (recent j w)) ⊎ Member m (earlier j w)
    kept (inl now) ih = inl (more_new (matched_at w e) m (recent j w) now)
    kept (inr before) ih = elim (ih before) [
      | inl new ↦ inl (more_old (matched_at w e) m (recent j w) new)
      | inr old ↦ inr old
    ]

pub recent_or_spent : (p : Plan) (j : List Entry) (w : ℕ) (m : Matched) → Lawful p j
    → Member m (all_matches j w) → Member m (recent j w) ⊎ (is_spent j m.attempt ≡ true)
recent_or_spent p j w m legal at = elim (recent_or_earlier j w m at) [
  | inl new ↦ inl new
  | inr old ↦ inr (all_member (λ x. is_spent j x.attempt ≡ true) m (earlier j w)
      (earlier_spent p j w legal) old)
]

pub recent_among : (j : List Entry) (w : ℕ) (m : Matched) → Member m (recent j w)
    → Member m (all_matches j w)
unfolding recent
recent_among [] w m at = absurd at
recent_among (e ∷ j) w m at =
    by_bool (sends_at w e) (λ b. Member m (cond b [] (and_more (matched_at w e) (recent j w)))
    → Member m (all_matches (e ∷ j) w))
    (λ _ none. absurd none)
    (λ _ there. elim (one_more (matched_at w e) m (recent j w) there) [
      | inl now ↦ more_new (matched_at w e) m (all_matches j w) now
      | inr before ↦ more_old (matched_at w e) m (all_matches j w) (recent_among j w m before)
    ]) at

-- ---- a lane gathers a match of its berth

gathers_one : (p : Plan) (e : Entry) (j : List Entry) (t : Attempt) → Lawful p (e ∷ j)
    → gather_in e.reply ≡ Some t
    → (m : Matched) × Member m (all_matches j (e.lane / 2)) × (m.attempt ≡ t)
gathers_one p e j t legal h = by e.call e.reply (v.entry_ruled p e j legal) legal.1.scripted h
  where
    found : (y : Option Matched) → oldest (filter (waits_yet j) (recent j (e.lane / 2))) ≡ y
        → (x : Reply) → option_map gather_of y ≡ Some x → gather_in x ≡ Some t
        → (m : Matched) × Member m (all_matches j (e.lane / 2)) × (m.attempt ≡ t)
    found None is x at g = absurd (cc)
    found (Some m) is x at g =
        let same : gather_of m ≡ x = cc in
        let of_it : Some m.attempt ≡ Some t = ap gather_in same ∙ g in
        let attempt : m.attempt ≡ t = cc in (
          m,
          recent_among j (e.lane / 2) m
              (oldest_member (waits_yet j) (recent j (e.lane / 2)) m is),
          attempt,
        )

    by : (d : Call) (x : Reply) → u.Ruled p j e.lane d x → lw.in_script p j e.lane d ≡ true
        → gather_in x ≡ Some t
        → (m : Matched) × Member m (all_matches j (e.lane / 2)) × (m.attempt ≡ t)
    by d x (u.Gathers l n a b i y z next over) asks g =
        found (oldest (filter (waits_yet j) (recent j (e.lane / 2)))) refl
        (reply.Gather l n a b i y z) (sym (gathers p j e.lane legal.0 asks) ∙ next) g
    by d x (u.KillsBroken l y here run broken over) asks g = absurd (cc)
    by d x _ asks g = absurd (cc)

pub gathering_one : (p : Plan) (j : List Entry) (lane : ℕ) (d : Entry) (t : Attempt) → Lawful p j
    → last_work j lane ≡ Some d → gather_in d.reply ≡ Some t
    → (m : Matched) × Member m (all_matches j (lane / 2)) × (m.attempt ≡ t)
unfolding last_work
gathering_one p [] lane d t legal at h = absurd (cc)
gathering_one p (e ∷ j) lane d t legal at h = elim (o.newest_cases e j lane d at) [
  | inl now ↦ (let x = gathers_one p e j t legal (ap (λ (y : Entry). gather_in y.reply) now.0 ∙ h)
      in later x.0 x.2 (subst (λ n. Member x.0 (all_matches j (n / 2))) now.1 x.1))
  | inr before ↦ (let x = gathering_one p j lane d t legal.0 before.1 h in later x.0 x.2 x.1)
]
  where
    later : (m : Matched) → m.attempt ≡ t → Member m (all_matches j (lane / 2))
        → (m : Matched) × Member m (all_matches (e ∷ j) (lane / 2)) × (m.attempt ≡ t)
    later m same in_it =
        (m, more_old (matched_at (lane / 2) e) m (all_matches j (lane / 2)) in_it, same)

-- so a lane that owes the Claim of a berth's match is the berth's
pub gathers_own : (p : Plan) (j : List Entry) (lane w : ℕ) (d : Entry) (m : Matched) → Lawful p j
    → Member m (all_matches j w) → last_work j lane ≡ Some d → o.is_gather m.attempt d ≡ true
    → lane / 2 ≡ w
gathers_own p j lane w d m legal in_it at h =
    let y = gather_at d.reply h in
    let other = gathering_one p j lane d y.0 legal at y.1 in
    let theirs = are_on p j (lane / 2) other.0 legal other.1 in
    let mine = are_on p j w m legal in_it in
    let line = one_line other.0.attempt y.0 m.attempt other.0.line m.line other.2
    (same_attempt_eq y.0 m.attempt y.2) theirs.carrier mine.carrier in
    la.berths_same j m.line (lane / 2) w (subst (λ l. IsOfBerth j l (lane / 2)) line theirs.own)
    mine.own
  where
    gather_at : (x : Reply) → is_for m.attempt (gather_in x) ≡ true
        → (t : Attempt) × (gather_in x ≡ Some t) × (is_for m.attempt (Some t) ≡ true)
    gather_at (reply.Gather l n a b t y z) g = (attempt_of a b t, refl, g)
    gather_at _ g = absurd (cc)

    one_line : (t x y : Attempt) (l n : ℕ) → t ≡ x → x ≡ y → line_of j t ≡ Some l
        → line_of j y ≡ Some n → l ≡ n
    one_line t x y l n same then first second =
        let lines : Some l ≡ Some n = sym first ∙ ap (line_of j) (same ∙ then) ∙ second in cc
