-- Groups with berths of their own, where each proxy lane would be told Idle and each last line is
-- free: nothing is next in the group of any berth, whatever a discipline takes for next.
use Rattle.std.proofs.Common.{◌≡◌, ℕ, zero, suc, ◌+◌, ◌-◌, ◌*◌, ◌<◌, ◌≤◌, ◌/◌, nat_lt, Bool, true, false, ◌&&◌, not, cond, List, [], ◌∷◌, Option, Some, None, option_map, unwrap_or, inl, inr, refl, sym, ap, subst, ◌∙◌, arith}
use Rattle.std.specs.Prelude.{slice_get, sum_by, take}
use Rattle.std.specs.List.{list_any}
use Rattle.std.proofs.lemmas.Bool.{ltb-true, lt-ltb, and_parts, or_cases}
use Rattle.std.proofs.lemmas.List.Sums.{sum_by-cons}
use Rattle.run_plan.specs.declared.plan.Group.{Group}
use Rattle.run_plan.specs.declared.plan.Kind.{Kind}
use Rattle.run_plan.specs.declared.plan.Kind.TheVariants as kind
use Rattle.run_plan.specs.declared.plan.Plan.{Plan}
use Rattle.run_plan.specs.Groups.{group_from, berth_group, berths, berths_of, first_berth, kind_of, capacity}
use Rattle.exec_journal.specs.declared.attempt.Attempt.{Attempt}
use Rattle.exec_journal.specs.declared.call.Call.TheVariants as call
use Rattle.exec_journal.specs.declared.reply.Reply.{Reply}
use Rattle.exec_journal.specs.Entry.{Entry}
use Rattle.exec_journal.specs.Facts.{IsOfBerth}
use Rattle.exec_journal.specs.Kept.{group_at}
use Rattle.exec_journal.specs.Lawful as lw
use Rattle.exec_journal.specs.Lawful.{Lawful}
use Rattle.exec_journal.specs.Rules as r
use Rattle.exec_journal.specs.Settled.{bound, free_places, has_room, some_free}
use Rattle.exec_journal.specs.Words.{last_line, lines_of, live, pending}
use Rattle.exec_journal.proofs.Histories as hi
use Rattle.exec_journal.proofs.Ruled.{by_bool}
use Rattle.journal_laws.proofs.Claims.{clash}
use Rattle.journal_laws.proofs.Vacant as va
use Rattle.call_laws.proofs.LastLines as ll
use Rattle.progress_laws.specs.Quiet.{IsFree, AllQuiet}
use Rattle.progress_laws.proofs.Idles.{IsIdle, NeverIdle, map_never, if_never, live_unsent}

-- ---- the berths of a group

group_at_from : (n g : ℕ) (gs : List Group) (i : ℕ)
    → i < unwrap_or (option_map (λ x. x.berths) (slice_get gs g)) 0
    → group_from n gs (sum_by (λ x. x.berths) (take g gs) + i) ≡ Some (n + g)
group_at_from n g [] i lt = absurd (omega (arith, lt))
group_at_from n zero (x ∷ xs) i lt =
    let low : nat_lt i x.berths ≡ true = lt-ltb i x.berths lt in
    let z : 0 + i ≡ i = omega arith in
    let m : n ≡ n + 0 = omega arith in
    subst (λ w. cond (nat_lt w x.berths) (Some n) (group_from (n + 1) xs (w - x.berths)) ≡ Some
    (n + 0)) (sym z) (rw low (ap Some m))
group_at_from n (suc g) (x ∷ xs) i lt =
    let s = sum_by (λ (y : Group). y.berths) (take g xs) in
    let high : nat_lt (x.berths + s + i) x.berths ≡ false =
    off (x.berths + s + i) x.berths (omega arith) in
    let back : (x.berths + s + i) - x.berths ≡ s + i = omega arith in
    let m : n + 1 + g ≡ n + suc g = omega arith in
    let whole : sum_by (λ (y : Group). y.berths) (take (suc g) (x ∷ xs)) + i ≡ x.berths + s + i =
    ap (λ z. z + i) (sum_by-cons (λ (y : Group). y.berths) x (take g xs)) in
    let t : group_from n (x ∷ xs) (x.berths + s + i) ≡ Some (n + suc g) =
    rw high (ap (group_from (n + 1) xs) back ∙ group_at_from (n + 1) g xs i lt ∙ ap Some m) in
    subst (λ w. group_from n (x ∷ xs) w ≡ Some (n + suc g)) (sym whole) t
  where
    off : (a b : ℕ) → b ≤ a → nat_lt a b ≡ false
    off a b le = cases (nat_lt a b) refl
      where
        cases : (z : Bool) → nat_lt a b ≡ z → z ≡ false
        cases true h = absurd (let lt = ltb-true a b h in omega (arith, lt, le))
        cases false h = refl

-- ---- a live line with a free place

lines_room : (p : Plan) (j : List Entry) (k : Kind) (v : ℕ) (ls : List ℕ)
    → hi.AllOf (λ m. IsOfBerth j m v) ls → list_any (has_room p j k) ls ≡ true → (m : ℕ)
    × IsOfBerth j m v × (live j m ≡ true)
lines_room p j k v [] all h = absurd (cc)
lines_room p j k v (m ∷ ms) all h = elim (or_cases (has_room p j k m) _ h) [
  | inl here ↦ (m, all.0, (and_parts (live j m) _ here).0)
  | inr more ↦ lines_room p j k v ms all.1 more
]

-- one of the n berths from w on has a live line
record HasRoom (j : List Entry) (w n : ℕ) : Type 0 where
  place : ℕ
  below : place < n
  line : ℕ
  own : IsOfBerth j line (w + place)
  lives : live j line ≡ true

room_at : (p : Plan) (j : List Entry) (k : Kind) (w n : ℕ) → Lawful p j → some_free p j k w n ≡ true
    → HasRoom j w n
room_at p j k w zero legal h = absurd (cc)
room_at p j k w (suc n) legal h =
    elim (or_cases (list_any (has_room p j k) (lines_of j (w + n))) _ h) [
      | inl here ↦ (let m = lines_room p j k (w + n) (lines_of j (w + n))
          (ll.lines_own p j (w + n) legal) here in record
          { place = n; below = omega arith; line = m.0; own = m.1; lives = m.2 })
      | inr more ↦ (let h = room_at p j k w n legal more in let lt = h.below in
          record {
            place = h.place;
            below = omega (arith, lt);
            line = h.line;
            own = h.own;
            lives =
                h.lives;
          })
    ]

-- a line with nothing pending and nothing bound has a free place
pub room_there : (p : Plan) (j : List Entry) (k : Kind) (l : ℕ) → pending j l ≡ []
    → bound p j l ≡ None → nat_lt 0 (free_places p j k l) ≡ true
unfolding free_places
room_there p j k l none unbound = rw (none, unbound) (by k)
  where
    by : (k : Kind) → nat_lt 0 (capacity k - (0 + 0)) ≡ true
    by kind.Single = refl
    by kind.Multi = refl
    by kind.Boxed = refl
    by kind.Remote = refl

-- ---- where all berths are idle and free

pub launches_never : (p : Plan) (j : List Entry) (w g : ℕ) (next : Option Attempt) (last : Option ℕ)
    → NeverIdle (r.launches_of p j w g next last)
launches_never p j w g next last = if_never _ _ (map_never next (r.launch_order j) (λ t h. cc))

-- `next` says what is next in a group
pub record BerthsIdle (p : Plan) (j : List Entry) (next : ℕ → Option Attempt) : Type 0 where
  pub lawful : Lawful p j
  pub within : (l w : ℕ) → IsOfBerth j l w → w < berths p
  pub asks : (w : ℕ) → w < berths p → lw.in_script p j (2 * w) call.Ask ≡ true
  pub idle : (w : ℕ) → w < berths p → IsIdle p j w (kind_of p w) (group_at p w) (last_line j w)
      (next (group_at p w)) (r.launches_of p j w (group_at p w) (next (group_at p w))
      (last_line j w))
  pub free : (w : ℕ) → w < berths p → (l : ℕ) → last_line j w ≡ Some l → IsFree j l

module _ (p : Plan) (j : List Entry) (next : ℕ → Option Attempt) (all : BerthsIdle p j next) where
  unsent : (w : ℕ) → w < berths p → (l : ℕ) → last_line j w ≡ Some l → live j l ≡ true
      → (bound p j l ≡ None) × (nat_lt 0 (free_places p j (kind_of p w) l) ≡ true
      → next (group_at p w) ≡ None)
  unsent w lt l is up =
      live_unsent p j (kind_of p w) (next (group_at p w)) l
      (subst (λ (x : Option ℕ). r.sends_next_of p j (kind_of p w)
      (next (group_at p w)) x ≡ None) is (all.idle w lt).unsent) up

  pub all_quiet : AllQuiet p j
  all_quiet l w mine =
      let lt = all.within l w mine in
      let half : 2 * w / 2 ≡ w = omega arith in
      record {
        lane = 2 * w;
        same = half;
        is = record {
          may = all.asks w lt;
          ungathered = ap (r.gathers_next j) half ∙ (all.idle w lt).ungathered;
          free = λ m h. all.free w lt m (sym (ap (last_line j) half) ∙ h);
          unbound = λ m h up. (unsent w lt m (sym (ap (last_line j) half) ∙ h) up).0;
        };
      }

  -- nothing is next in the group of a berth with a live line
  live_none : (w : ℕ) → w < berths p → (l : ℕ) → last_line j w ≡ Some l → live j l ≡ true
      → pending j l ≡ [] → next (group_at p w) ≡ None
  live_none w lt l is up none =
      (let u = unsent w lt l is up in u.1 (room_there p j (kind_of p w) l none u.0))

  -- nor in the group of a berth that has a live line, whichever of its lines that is
  room_none : (g v : ℕ) → v < berths p → berth_group p v ≡ Some g → (m : ℕ) → IsOfBerth j m v
      → live j m ≡ true → next g ≡ None
  room_none g v lt at m mine up =
      let last = ll.live_is_last p j m v all.lawful mine up in
      let same : group_at p v ≡ g = ap (λ (x : Option ℕ). unwrap_or x 0) at in
      elim (all.free v lt m last) [
        | inl vacant ↦ absurd (clash (live j m) up (va.done_not_live p j m all.lawful vacant))
        | inr lives ↦ subst (λ i. next i ≡ None) same (live_none v lt m last up lives.1)
      ]

  -- nor in the group of a vacant berth: else a line would be launched there, or another has room
  vacant_none : (w : ℕ) → w < berths p → r.is_vacant j (last_line j w) ≡ true
      → next (group_at p w) ≡ None
  vacant_none w lt vacant =
      by_bool (some_free p j (kind_of p w) (first_berth p (group_at p w))
      (berths_of p (group_at p w)))
      (λ b. some_free p j (kind_of p w) (first_berth p (group_at p w))
      (berths_of p (group_at p w)) ≡ b → next (group_at p w) ≡ None)
      (λ _ some. roomy (room_at p j (kind_of p w) (first_berth p (group_at p w))
      (berths_of p (group_at p w)) all.lawful some))
      (λ _ none. unmapped (next (group_at p w)) (launched_none (r.is_vacant j (last_line j w))
      (some_free p j (kind_of p w) (first_berth p (group_at p w)) (berths_of p (group_at p w)))
      _ vacant none (all.idle w lt).no_more)) refl
    where
      roomy : HasRoom j (first_berth p (group_at p w)) (berths_of p (group_at p w))
          → next (group_at p w) ≡ None
      roomy room =
          let v = first_berth p (group_at p w) + room.place in
          let at = group_at_from 0 (group_at p w) p.groups room.place room.below in
          let same : 0 + group_at p w ≡ group_at p w = omega arith in
          let there : berth_group p v ≡ Some (group_at p w) = at ∙ ap Some same in
          room_none (group_at p w) v (all.within room.line v room.own) there room.line room.own
          room.lives

      launched_none : (a b : Bool) (x : Option Reply) → a ≡ true → b ≡ false
          → cond (a && not b) x None ≡ None → x ≡ None
      launched_none true false x m n h = h
      launched_none true true x m n h = absurd (cc)
      launched_none false b x m n h = absurd (cc)

      unmapped : (x : Option Attempt) → option_map (r.launch_order j) x ≡ None → x ≡ None
      unmapped None h = refl
      unmapped (Some t) h = absurd (cc)

  pub next_none : (w : ℕ) → w < berths p → next (group_at p w) ≡ None
  next_none w lt = by (last_line j w) refl
    where
      by : (x : Option ℕ) → last_line j w ≡ x → next (group_at p w) ≡ None
      by None is = vacant_none w lt (ap (r.is_vacant j) is)
      by (Some l) is = elim (all.free w lt l is) [
        | inl vacant ↦ vacant_none w lt (ap (r.is_vacant j) is ∙ vacant)
        | inr lives ↦ live_none w lt l is lives.0 lives.1
      ]
