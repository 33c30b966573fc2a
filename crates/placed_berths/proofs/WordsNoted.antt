-- Whatever call a lane makes, berths stand in the order in which their last lines were silent, with
-- Ticks too; so the policy's tables follow a journal.
use Rattle.std.proofs.Common.{◌≡◌, ℕ, suc, ◌*◌, ◌/◌, ◌<◌, ◌≤◌, ◌==◌, nat_lt, Bool, true, false, ◌&&◌, not, cond, List, [], ◌∷◌, length, filter, Option, Some, None, refl, ap, sym, subst, ◌∙◌, arith}
use Rattle.std.specs.List.{list_any}
use Rattle.std.proofs.lemmas.Bool.{and_parts, eq-eqb, eqb-true, ltb-true}
use Rattle.exec_journal.specs.declared.attempt.Attempt.{Attempt}
use Rattle.exec_journal.specs.declared.call.Call.{Call}
use Rattle.exec_journal.specs.declared.call.Call.TheVariants as call
use Rattle.exec_journal.specs.declared.reply.Reply.{Reply}
use Rattle.exec_journal.specs.Entry.{Entry}
use Rattle.exec_journal.specs.Entries.{is_kept, launch_in, starts}
use Rattle.exec_journal.specs.Facts.{call_line}
use Rattle.exec_journal.specs.Lawful.{Lawful}
use Rattle.exec_journal.specs.Legal.{after}
use Rattle.exec_journal.specs.Words.{last_line, started}
use Rattle.exec_journal.proofs.Ruled.{by_bool}
use Rattle.journal_laws.proofs.Over as v
use Rattle.journal_laws.proofs.Claims as c
use Rattle.journal_laws.proofs.Claims.{clash, false_by}
use Rattle.journal_laws.proofs.Fresh.{fresh}
use Rattle.journal_laws.proofs.Lanes as la
use Rattle.call_laws.proofs.LastLines as ll
use Rattle.core_contract.specs.Disciplines.{LegalBy}
use Rattle.placed_rules.specs.declared.pools.SharedPlan.{SharedPlan}
use Rattle.placed_rules.specs.Needs.{says_something, silent_for}
use Rattle.placed_rules.specs.Placed.{pooled_discipline, seats_with}
use Rattle.placed_rules.specs.Pools.{seats, usable}
use Rattle.placed_rules.proofs.PoolLawful.{lawful}
use Rattle.placed_rules.proofs.Usable.{usable_is}
use Rattle.shared_laws.specs.Spoken.{IsSpoken, is_before, is_word, moved, noted}
use Rattle.shared_laws.proofs.Moved as mo
use Rattle.placed_berths.specs.declared.shared.SharedBerths.{SharedBerths}
use Rattle.placed_berths.specs.PoolLines.{line_within}
use Rattle.placed_berths.specs.Stands.{PoolsStand}

-- ---- by a call a line says something, or none does

data Says (d : Call) : Type 0 where
  Word : (l : ℕ) → call_line d ≡ Some l → is_word d ≡ true
      → ((k : ℕ) → says_something k d ≡ (l == k))
      → ((k : ℕ) → (l == k) ≡ false → starts k d ≡ false) → Says d
  Silence : is_word d ≡ false → ((k : ℕ) → says_something k d ≡ false)
      → ((k : ℕ) → starts k d ≡ false) → Says d

says : (d : Call) → Says d
says (call.Launched l how) = Word l refl refl (λ k. refl)
    (λ k no. rw no (by_bool _ (λ b. (b && false) ≡ false) (λ _. refl) (λ _. refl)))
says (call.Answer l x) = Word l refl refl (λ k. refl) (λ k no. refl)
says _ = Silence refl (λ k. refl) (λ k. refl)

-- ---- an entry

module _ (q : SharedPlan) (ticks : Option ℕ) (e : Entry) (j : List Entry) (ws : List ℕ)
    (legal : LegalBy (pooled_discipline q ticks) (e ∷ j)) (known : IsSpoken (seats q) j ws) where
  good : Lawful q.plan (e ∷ j)
  good = lawful q ticks (e ∷ j) legal

  quiet : (k : ℕ) → says_something k e.call ≡ false → silent_for (e ∷ j) k ≡ suc (silent_for j k)
  unfolding silent_for
  quiet k h = rw h refl

  loud : (k : ℕ) → says_something k e.call ≡ true → silent_for (e ∷ j) k ≡ 0
  unfolding silent_for
  loud k h = rw h refl

  -- the last lines of two berths are two lines
  apart_lines : (a b l k : ℕ) → last_line j a ≡ Some l → last_line j b ≡ Some k
      → (a == b) ≡ false → (l == k) ≡ false
  apart_lines a b l k at there apart = false_by _ (λ h.
      let own : last_line j b ≡ Some l = there ∙ ap Some (sym (eqb-true l k h)) in
      clash (a == b) (eq-eqb a b (la.berths_same j l a b (la.here_own q.plan j a l good.0 at)
      (la.here_own q.plan j b l good.0 own))) apart)

  -- ---- where no line says anything

  module _ (none : (k : ℕ) → says_something k e.call ≡ false)
      (begins : (k : ℕ) → starts k e.call ≡ false) where
    -- a new line isn't launched yet
    kept : (w l : ℕ) → last_line (e ∷ j) w ≡ Some l → started (e ∷ j) l ≡ true
        → last_line j w ≡ Some l
    kept w l here up = by (launch_in e.reply) refl
      where
        up_then : started j l ≡ true
        up_then = sym (c.started_same e j l (begins l)) ∙ up

        by : (o : Option (ℕ × Attempt)) → launch_in e.reply ≡ o → last_line j w ≡ Some l
        by None is = sym (ll.last_same e j w is) ∙ here
        by (Some x) is =
            by_bool (e.lane / 2 == w) (λ b. (e.lane / 2 == w) ≡ b → last_line j w ≡ Some l)
            (λ _ same. absurd (
            let new : last_line (e ∷ j) w ≡ Some x.0 = subst (λ n. last_line (e ∷ j) n ≡ Some x.0)
            (eqb-true (e.lane / 2) w same) (ll.last_new e j x.0 x.1 is) in
            let both : Some x.0 ≡ Some l = sym new ∙ here in
            let it : x.0 ≡ l = cc in
            let next = c.next_line q.plan e j x good is in
            clash (started j l) up_then (fresh q.plan j l good.0 (omega (arith, it, next))).start))
            (λ _ off. sym (ll.last_other e j w off) ∙ here) refl

    silence : IsSpoken (seats q) (e ∷ j) ws
    silence = record {
      there = known.there;
      longer = λ a b l k at on up rises apart before.
          let old = known.longer a b l k (kept a l at up) (kept b k on rises)
          (sym (c.started_same e j l (begins l)) ∙ up)
          (sym (c.started_same e j k (begins k)) ∙ rises) apart before in
          let x = quiet l (none l) in
          let y = quiet k (none k) in
          omega (arith, old, x, y);
    }

  -- ---- where the line of a berth does

  module _ (m : ℕ) (named : call_line e.call ≡ Some m) (word : is_word e.call ≡ true)
      (that : (k : ℕ) → says_something k e.call ≡ (m == k))
      (begins : (k : ℕ) → (m == k) ≡ false → starts k e.call ≡ false) where
    abbrev u : ℕ
    u = e.lane / 2

    here : last_line j (e.lane / 2) ≡ Some m
    here = ll.names_last q.plan j e.lane m e.call good.0 good.1.scripted named

    no_launch : launch_in e.reply ≡ None
    no_launch = by (launch_in e.reply) refl
      where
        by : (o : Option (ℕ × Attempt)) → launch_in e.reply ≡ o → launch_in e.reply ≡ None
        by None is = is
        by (Some x) is = absurd (let ask = c.launch_asks q.plan j e.lane e.call e.reply x
            (v.entry_ruled q.plan e j good) is in
            clash (is_word e.call) word (ap is_word ask))

    before_it : (w l : ℕ) → last_line (e ∷ j) w ≡ Some l → last_line j w ≡ Some l
    before_it w l at = sym (ll.last_same e j w no_launch) ∙ at

    among : (w l : ℕ) → last_line j w ≡ Some l → mo.is_among w ws ≡ true
    among w l at = mo.all_among w ws
        (λ x apart. known.there w x (line_within q ticks j w l legal.0 at) apart)

    module _ (a b l k : ℕ) (at : last_line j a ≡ Some l) (on : last_line j b ≡ Some k)
        (up : started (e ∷ j) l ≡ true) (rises : started (e ∷ j) k ≡ true)
        (apart : (a == b) ≡ false) (before : is_before a b (moved (e.lane / 2) ws) ≡ true) where
      away : (w i : ℕ) → last_line j w ≡ Some i → (w == u) ≡ false → (m == i) ≡ false
      away w i there off = mo.flip i m (apart_lines w (e.lane / 2) i m there here off)

      -- the second has just said something
      second : (b == u) ≡ true → silent_for (e ∷ j) k < silent_for (e ∷ j) l
      second same_berth =
          let same = eqb-true b (e.lane / 2) same_berth in
          let both : Some m ≡ Some k = sym here ∙ ap (last_line j) (sym same) ∙ on in
          let it : m ≡ k = cc in
          let x = loud k (that k ∙ eq-eqb m k it) in
          let y = quiet l (that l ∙ away a l at (subst (λ n. (a == n) ≡ false) same apart)) in
          omega (arith, x, y)

      -- the first can't have
      first : (a == u) ≡ true → (b == u) ≡ false → ⊥
      first same_berth off =
          let same = eqb-true a (e.lane / 2) same_berth in
          clash (is_before (e.lane / 2) b (moved (e.lane / 2) ws))
          (subst (λ n. is_before n b (moved (e.lane / 2) ws) ≡ true) same before)
          (mo.moved_first (e.lane / 2) b ws off ∙ ap not (among b k on))

      neither : (a == u) ≡ false → (b == u) ≡ false
          → silent_for (e ∷ j) k < silent_for (e ∷ j) l
      neither off gone =
          let l_away = away a l at off in
          let k_away = away b k on gone in
          let old = known.longer a b l k at on (sym (c.started_same e j l (begins l l_away)) ∙ up)
          (sym (c.started_same e j k (begins k k_away)) ∙ rises) apart
          (sym (mo.moved_others (e.lane / 2) a b ws off gone) ∙ before) in
          let x = quiet l (that l ∙ l_away) in
          let y = quiet k (that k ∙ k_away) in
          omega (arith, old, x, y)

      longer : silent_for (e ∷ j) k < silent_for (e ∷ j) l
      longer =
          by_bool (b == u) (λ z. (b == u) ≡ z → silent_for (e ∷ j) k < silent_for (e ∷ j) l)
          (λ _ yes. second yes)
          (λ _ off. by_bool (a == u) (λ z. (a == u) ≡ z
          → silent_for (e ∷ j) k < silent_for (e ∷ j) l)
          (λ _ yes. absurd (first yes off)) (λ _ gone. neither gone off) refl) refl

    spoken : IsSpoken (seats q) (e ∷ j) (moved (e.lane / 2) ws)
    spoken = record {
      there = λ a b lt apart. mo.moved_there (e.lane / 2) a b ws apart
          (λ _ _. known.there a b lt apart);
      longer = λ a b l k at on up rises apart before.
          longer a b l k (before_it a l at) (before_it b k on) up rises apart before;
    }

  entry_noted : IsSpoken (seats q) (e ∷ j) (cond (is_word e.call) (moved (e.lane / 2) ws) ws)
  entry_noted = by (says e.call)
    where
      by : Says e.call
          → IsSpoken (seats q) (e ∷ j) (cond (is_word e.call) (moved (e.lane / 2) ws) ws)
      by (Word m named word that begins) = rw word (spoken m named word that begins)
      by (Silence word none begins) = rw word (silence none begins)

-- ---- the tables

-- a berth that stands there is one fewer without it
rest_fewer : (w : ℕ) (ws : List ℕ) → length (filter (λ v. not (v == w)) ws) ≤ length ws
rest_fewer w [] = omega arith
rest_fewer w (x ∷ xs) =
    let more = rest_fewer w xs in
    by_bool (x == w) (λ b. length (cond (not b) (x ∷ filter (λ v. not (v == w)) xs)
    (filter (λ v. not (v == w)) xs)) ≤ length (x ∷ xs))
    (λ _. omega (arith, more)) (λ _. omega (arith, more))

pub one_fewer : (w : ℕ) (ws : List ℕ) → list_any (λ v. v == w) ws ≡ true
    → length (filter (λ v. not (v == w)) ws) < length ws
one_fewer w [] there = absurd (cc)
one_fewer w (x ∷ xs) there =
    by_bool (x == w) (λ b. (x == w) ≡ b → length (cond (not b) (x ∷ filter (λ v. not (v == w)) xs)
    (filter (λ v. not (v == w)) xs)) < length (x ∷ xs))
    (λ _ _. let more = rest_fewer w xs in omega (arith, more))
    (λ _ no. let more = one_fewer w xs (sym (ap (λ b. or b (list_any (λ v. v == w) xs)) no) ∙ there)
    in omega (arith, more)) refl
  where
    or : Bool → Bool → Bool
    or true b = true
    or false b = b

and_false : (b : Bool) → (b && false) ≡ false
and_false true = refl
and_false false = refl

module _ (q : SharedPlan) (ticks : Option ℕ) (m : SharedBerths) (j : List Entry)
    (own : PoolsStand q m j) (lane : ℕ) (d : Call) (r : Reply)
    (legal : LegalBy (pooled_discipline (usable q) ticks) (after j lane d r)) where
  abbrev newest : Entry
  newest = record { lane = lane; call = d; reply = r }

  by_own : LegalBy (pooled_discipline q ticks) (after j lane d r)
  by_own = subst (λ x. LegalBy (pooled_discipline x ticks) (after j lane d r))
      (usable_is q own.sound) legal

  kept_legal : is_kept r ≡ true → LegalBy (pooled_discipline q ticks) (newest ∷ j)
  kept_legal kept = subst (λ b. LegalBy (pooled_discipline q ticks) (cond b (newest ∷ j) j)) kept by_own

  -- the berth of a line that says something stands there
  pub speaks : is_word d ≡ true → is_kept r ≡ true
      → list_any (λ v. v == lane / 2) m.spoken.items ≡ true
  speaks word kept = by (says d)
    where
      by : Says d → list_any (λ v. v == lane / 2) m.spoken.items ≡ true
      by (Silence none quiet begins) = absurd (let no = sym word ∙ none in cc)
      by (Word l named some that begins) =
          let new = kept_legal kept in
          let good = lawful q ticks (newest ∷ j) new in
          let last = ll.names_last q.plan j lane l d good.0 good.1.scripted named in
          let below = line_within q ticks j (lane / 2) l new.0 last in
          mo.all_among (lane / 2) m.spoken.items
          (λ v apart. own.spoken.there (lane / 2) v below apart)

  order : (b : Bool) → is_kept r ≡ b
      → IsSpoken (seats q) (cond b (newest ∷ j) j)
      (cond (is_word d && b) (moved (lane / 2) m.spoken.items) m.spoken.items)
  order true kept =
      let new = entry_noted q ticks newest j m.spoken.items (kept_legal kept) own.spoken in
      on (is_word d) new
    where
      on : (b : Bool)
          → IsSpoken (seats q) (newest ∷ j) (cond b (moved (lane / 2) m.spoken.items) m.spoken.items)
          → IsSpoken (seats q) (newest ∷ j)
          (cond (b && true) (moved (lane / 2) m.spoken.items) m.spoken.items)
      on true h = h
      on false h = h
  order false kept = off (is_word d)
    where
      off : (b : Bool) → IsSpoken (seats q) j
          (cond (b && false) (moved (lane / 2) m.spoken.items) m.spoken.items)
      off true = own.spoken
      off false = own.spoken

  pub stands : (n : SharedBerths) → n.pools ≡ m.pools → n.instances ≡ m.instances
      → n.spoken.items ≡ noted m.spoken.items lane d r → PoolsStand q n (after j lane d r)
  stands n pools instances spoken = record {
    sound = own.sound;
    pools = pools ∙ own.pools;
    instances = instances ∙ own.instances;
    spoken = subst (λ ws. IsSpoken (seats q) (after j lane d r) ws) (sym spoken)
        (order (is_kept r) refl);
  }

  -- so they stay where the line says nothing, and where the entry isn't kept
  same : (is_word d && is_kept r) ≡ false → PoolsStand q m (after j lane d r)
  same off = stands m refl refl
      (sym (ap (λ b. cond b (moved (lane / 2) m.spoken.items) m.spoken.items) off))

  pub silent : is_word d ≡ false → PoolsStand q m (after j lane d r)
  silent off = same (ap (λ b. b && is_kept r) off)

  pub unkept : is_kept r ≡ false → PoolsStand q m (after j lane d r)
  unkept off = same (ap (λ b. is_word d && b) off ∙ and_false (is_word d))
