-- Whatever call a lane makes, berths stand in the order in which their last lines were silent.
use Rattle.std.proofs.Common.{◌≡◌, ℕ, suc, ◌*◌, ◌/◌, ◌<◌, ◌==◌, nat_lt, Bool, true, false, ◌&&◌, not, cond, List, [], ◌∷◌, Option, Some, None, option_map, refl, sym, ap, subst, ◌∙◌, arith}
use Rattle.std.proofs.lemmas.Bool.{eqb-true, eq-eqb, ltb-true, and_parts}
use Rattle.exec_journal.specs.declared.attempt.Attempt.{Attempt}
use Rattle.exec_journal.specs.declared.call.Call.{Call}
use Rattle.exec_journal.specs.declared.call.Call.TheVariants as call
use Rattle.exec_journal.specs.declared.reply.Reply.{Reply}
use Rattle.exec_journal.specs.Entry.{Entry}
use Rattle.exec_journal.specs.Entries.{is_kept, launch_in, starts}
use Rattle.exec_journal.specs.Facts.{call_line}
use Rattle.exec_journal.specs.Lawful.{Lawful}
use Rattle.exec_journal.specs.Legal.{after}
use Rattle.exec_journal.specs.Words.{last_line, started}
use Rattle.exec_journal.proofs.Ruled.{by_bool}
use Rattle.list_lemmas.specs.Options.{or_else}
use Rattle.journal_laws.proofs.Over as v
use Rattle.journal_laws.proofs.Claims as c
use Rattle.journal_laws.proofs.Claims.{clash, false_by}
use Rattle.journal_laws.proofs.Fresh.{fresh}
use Rattle.journal_laws.proofs.Lanes as la
use Rattle.call_laws.proofs.LastLines as ll
use Rattle.core_contract.specs.Disciplines.{LegalBy}
use Rattle.placed_rules.specs.declared.pools.SharedPlan.{SharedPlan}
use Rattle.placed_rules.specs.Needs.{says_something, silent_for}
use Rattle.placed_rules.specs.Pools.{seats}
use Rattle.placed_rules.specs.Placed.{shared_discipline}
use Rattle.placed_rules.proofs.PoolLawful.{lawful}
use Rattle.shared_laws.specs.Spoken.{IsSpoken, berths_from, is_before, is_word, moved, noted}
use Rattle.shared_laws.proofs.Moved as mo

-- ---- a berth that has a line is one of the pools'

pub last_within : (q : SharedPlan) (j : List Entry) (w l : ℕ) → LegalBy (shared_discipline q) j
    → last_line j w ≡ Some l → w < seats q
unfolding last_line
last_within q [] w l legal h = absurd (cc)
last_within q (e ∷ j) w l legal h =
    by_bool (e.lane / 2 == w) (λ b. (e.lane / 2 == w) ≡ b → or_else (cond b (option_map (λ x. x.0)
    (launch_in e.reply)) None) (last_line j w) ≡ Some l → w < seats q)
    (λ yes _ _. subst (λ n. n < seats q) (eqb-true (e.lane / 2) w yes) below)
    (λ _ _ k. last_within q j w l legal.0 k) refl h
  where
    below : e.lane / 2 < seats q
    below = let lt = ltb-true e.lane (2 * seats q)
        (and_parts (nat_lt e.lane (2 * seats q)) _ legal.1.scripted).0 in omega arith

-- ---- by a call a line says something, or none does

data Says (d : Call) : Type 0 where
  Word : (l : ℕ) → call_line d ≡ Some l → is_word d ≡ true
      → ((k : ℕ) → says_something k d ≡ (l == k))
      → ((k : ℕ) → (l == k) ≡ false → starts k d ≡ false) → Says d
  Silence : is_word d ≡ false → ((k : ℕ) → says_something k d ≡ false)
      → ((k : ℕ) → starts k d ≡ false) → Says d

says : (d : Call) → Says d
says (call.Launched l how) = Word l refl refl (λ k. refl)
    (λ k no. rw no (by_bool _ (λ b. (b && false) ≡ false) (λ _. refl) (λ _. refl)))
says (call.Answer l x) = Word l refl refl (λ k. refl) (λ k no. refl)
says _ = Silence refl (λ k. refl) (λ k. refl)

-- ---- an entry

module _ (q : SharedPlan) (e : Entry) (j : List Entry) (ws : List ℕ)
    (legal : LegalBy (shared_discipline q) (e ∷ j)) (known : IsSpoken (seats q) j ws) where
  good : Lawful q.plan (e ∷ j)
  good = lawful q None (e ∷ j) legal

  quiet : (k : ℕ) → says_something k e.call ≡ false → silent_for (e ∷ j) k ≡ suc (silent_for j k)
  unfolding silent_for
  quiet k h = rw h refl

  loud : (k : ℕ) → says_something k e.call ≡ true → silent_for (e ∷ j) k ≡ 0
  unfolding silent_for
  loud k h = rw h refl

  -- the last lines of two berths are two lines
  apart_lines : (a b l k : ℕ) → last_line j a ≡ Some l → last_line j b ≡ Some k
      → (a == b) ≡ false → (l == k) ≡ false
  apart_lines a b l k at there apart = false_by _ (λ h.
      let own : last_line j b ≡ Some l = there ∙ ap Some (sym (eqb-true l k h)) in
      clash (a == b) (eq-eqb a b (la.berths_same j l a b (la.here_own q.plan j a l good.0 at)
      (la.here_own q.plan j b l good.0 own))) apart)

  -- ---- where no line says anything

  module _ (none : (k : ℕ) → says_something k e.call ≡ false)
      (begins : (k : ℕ) → starts k e.call ≡ false) where
    -- a new line isn't launched yet
    kept : (w l : ℕ) → last_line (e ∷ j) w ≡ Some l → started (e ∷ j) l ≡ true
        → last_line j w ≡ Some l
    kept w l here up = by (launch_in e.reply) refl
      where
        up_then : started j l ≡ true
        up_then = sym (c.started_same e j l (begins l)) ∙ up

        by : (o : Option (ℕ × Attempt)) → launch_in e.reply ≡ o → last_line j w ≡ Some l
        by None is = sym (ll.last_same e j w is) ∙ here
        by (Some x) is =
            by_bool (e.lane / 2 == w) (λ b. (e.lane / 2 == w) ≡ b → last_line j w ≡ Some l)
            (λ _ same. absurd (
            let new : last_line (e ∷ j) w ≡ Some x.0 = subst (λ n. last_line (e ∷ j) n ≡ Some x.0)
            (eqb-true (e.lane / 2) w same) (ll.last_new e j x.0 x.1 is) in
            let both : Some x.0 ≡ Some l = sym new ∙ here in
            let it : x.0 ≡ l = cc in
            let next = c.next_line q.plan e j x good is in
            clash (started j l) up_then (fresh q.plan j l good.0 (omega (arith, it, next))).start))
            (λ _ off. sym (ll.last_other e j w off) ∙ here) refl

    pub silence : IsSpoken (seats q) (e ∷ j) ws
    silence = record {
      there = known.there;
      longer = λ a b l k at on up rises apart before.
          let old = known.longer a b l k (kept a l at up) (kept b k on rises)
          (sym (c.started_same e j l (begins l)) ∙ up)
          (sym (c.started_same e j k (begins k)) ∙ rises) apart before in
          let x = quiet l (none l) in
          let y = quiet k (none k) in
          omega (arith, old, x, y);
    }

  -- ---- where the line of a berth does

  module _ (m : ℕ) (named : call_line e.call ≡ Some m) (word : is_word e.call ≡ true)
      (that : (k : ℕ) → says_something k e.call ≡ (m == k))
      (begins : (k : ℕ) → (m == k) ≡ false → starts k e.call ≡ false) where
    abbrev u : ℕ
    u = e.lane / 2

    here : last_line j (e.lane / 2) ≡ Some m
    here = ll.names_last q.plan j e.lane m e.call good.0 good.1.scripted named

    no_launch : launch_in e.reply ≡ None
    no_launch = by (launch_in e.reply) refl
      where
        by : (o : Option (ℕ × Attempt)) → launch_in e.reply ≡ o → launch_in e.reply ≡ None
        by None is = is
        by (Some x) is = absurd (let ask = c.launch_asks q.plan j e.lane e.call e.reply x
            (v.entry_ruled q.plan e j good) is in
            clash (is_word e.call) word (ap is_word ask))

    before_it : (w l : ℕ) → last_line (e ∷ j) w ≡ Some l → last_line j w ≡ Some l
    before_it w l at = sym (ll.last_same e j w no_launch) ∙ at

    among : (w l : ℕ) → last_line j w ≡ Some l → mo.is_among w ws ≡ true
    among w l at = mo.all_among w ws
        (λ x apart. known.there w x (last_within q j w l legal.0 at) apart)

    module _ (a b l k : ℕ) (at : last_line j a ≡ Some l) (on : last_line j b ≡ Some k)
        (up : started (e ∷ j) l ≡ true) (rises : started (e ∷ j) k ≡ true)
        (apart : (a == b) ≡ false) (before : is_before a b (moved (e.lane / 2) ws) ≡ true) where
      away : (w i : ℕ) → last_line j w ≡ Some i → (w == u) ≡ false → (m == i) ≡ false
      away w i there off = mo.flip i m (apart_lines w (e.lane / 2) i m there here off)

      -- the second has just said something
      second : (b == u) ≡ true → silent_for (e ∷ j) k < silent_for (e ∷ j) l
      second same_berth =
          let same = eqb-true b (e.lane / 2) same_berth in
          let both : Some m ≡ Some k = sym here ∙ ap (last_line j) (sym same) ∙ on in
          let it : m ≡ k = cc in
          let x = loud k (that k ∙ eq-eqb m k it) in
          let y = quiet l (that l ∙ away a l at (subst (λ n. (a == n) ≡ false) same apart)) in
          omega (arith, x, y)

      -- the first can't have
      first : (a == u) ≡ true → (b == u) ≡ false → ⊥
      first same_berth off =
          let same = eqb-true a (e.lane / 2) same_berth in
          clash (is_before (e.lane / 2) b (moved (e.lane / 2) ws))
          (subst (λ n. is_before n b (moved (e.lane / 2) ws) ≡ true) same before)
          (mo.moved_first (e.lane / 2) b ws off ∙ ap not (among b k on))

      neither : (a == u) ≡ false → (b == u) ≡ false
          → silent_for (e ∷ j) k < silent_for (e ∷ j) l
      neither off gone =
          let l_away = away a l at off in
          let k_away = away b k on gone in
          let old = known.longer a b l k at on (sym (c.started_same e j l (begins l l_away)) ∙ up)
          (sym (c.started_same e j k (begins k k_away)) ∙ rises) apart
          (sym (mo.moved_others (e.lane / 2) a b ws off gone) ∙ before) in
          let x = quiet l (that l ∙ l_away) in
          let y = quiet k (that k ∙ k_away) in
          omega (arith, old, x, y)

      longer : silent_for (e ∷ j) k < silent_for (e ∷ j) l
      longer =
          by_bool (b == u) (λ z. (b == u) ≡ z → silent_for (e ∷ j) k < silent_for (e ∷ j) l)
          (λ _ yes. second yes)
          (λ _ off. by_bool (a == u) (λ z. (a == u) ≡ z
          → silent_for (e ∷ j) k < silent_for (e ∷ j) l)
          (λ _ yes. absurd (first yes off)) (λ _ gone. neither gone off) refl) refl

    pub spoken : IsSpoken (seats q) (e ∷ j) (moved (e.lane / 2) ws)
    spoken = record {
      there = λ a b lt apart. mo.moved_there (e.lane / 2) a b ws apart
          (λ _ _. known.there a b lt apart);
      longer = λ a b l k at on up rises apart before.
          longer a b l k (before_it a l at) (before_it b k on) up rises apart before;
    }

  pub entry_noted : IsSpoken (seats q) (e ∷ j) (cond (is_word e.call) (moved (e.lane / 2) ws) ws)
  entry_noted = by (says e.call)
    where
      by : Says e.call
          → IsSpoken (seats q) (e ∷ j) (cond (is_word e.call) (moved (e.lane / 2) ws) ws)
      by (Word m named word that begins) = rw word (spoken m named word that begins)
      by (Silence word none begins) = rw word (silence none begins)

-- ---- the law

pub begins : (q : SharedPlan) → IsSpoken (seats q) [] (berths_from 0 (seats q))
unfolding last_line
begins q = record {
  there = λ a b lt apart. mo.one_first a b (berths_from 0 (seats q))
      (mo.all_from 0 (seats q) a (omega arith) (omega (arith, lt))) apart;
  longer = λ a b l k at. absurd (cc);
}

pub stays : (q : SharedPlan) (j : List Entry) (ws : List ℕ) (lane : ℕ) (d : Call) (r : Reply)
    → LegalBy (shared_discipline q) (after j lane d r) → IsSpoken (seats q) j ws
    → IsSpoken (seats q) (after j lane d r) (noted ws lane d r)
stays q j ws lane d r legal known =
    by_bool (is_kept r) (λ b.
    LegalBy (shared_discipline q) (cond b (record { lane = lane; call = d; reply = r } ∷ j) j)
    → IsSpoken (seats q) (cond b (record { lane = lane; call = d; reply = r } ∷ j) j)
    (cond (is_word d && b) (moved (lane / 2) ws) ws))
    (λ _ y. on (is_word d)
    (entry_noted q (record { lane = lane; call = d; reply = r }) j ws y known))
    (λ _ _. off (is_word d)) legal
  where
    on : (b : Bool)
        → IsSpoken (seats q) (record { lane = lane; call = d; reply = r } ∷ j)
        (cond b (moved (lane / 2) ws) ws)
        → IsSpoken (seats q) (record { lane = lane; call = d; reply = r } ∷ j)
        (cond (b && true) (moved (lane / 2) ws) ws)
    on true h = h
    on false h = h

    off : (b : Bool) → IsSpoken (seats q) j (cond (b && false) (moved (lane / 2) ws) ws)
    off true = known
    off false = known
