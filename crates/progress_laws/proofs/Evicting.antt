-- The pool of a group that has something next, where all berths are free and no lane is ordered
-- anything: there is no such pool, since one of its lines would be evicted.
use Rattle.std.proofs.Common.{◌≡◌, ℕ, zero, suc, ◌<◌, ◌==◌, nat_lt, Bool, true, false, ◌&&◌, ◌||◌, not, cond, List, [], ◌∷◌, Option, Some, None, is_some, option_map, unwrap_or, inl, inr, refl, sym, ap, subst, ◌∙◌, arith}
use Rattle.std.proofs.lemmas.Bool.{eq-eqb, eqb-true, ltb-true, and_parts, and_from, or_cases, or_left, or_right}
use Rattle.run_plan.specs.declared.plan.Plan.{Plan}
use Rattle.exec_journal.specs.Entry.{Entry}
use Rattle.exec_journal.specs.declared.attempt.Attempt.{Attempt}
use Rattle.exec_journal.specs.declared.reply.Reply.{Reply}
use Rattle.exec_journal.specs.declared.reply.Reply.TheVariants as reply
use Rattle.exec_journal.specs.Facts.{IsOfBerth}
use Rattle.exec_journal.specs.Lawful.{Lawful}
use Rattle.exec_journal.specs.Rules as r
use Rattle.journal_laws.proofs.Claims.{clash, false_by}
use Rattle.journal_laws.proofs.Vacant as va
use Rattle.call_laws.proofs.LastLines as ll
use Rattle.journal_laws.proofs.Lanes as la
use Rattle.progress_laws.proofs.Options.{none_some, some_same}
use Rattle.std.specs.List.{list_any}
use Rattle.list_lemmas.specs.Options.{or_else}
use Rattle.journal_laws.proofs.Claims as c
use Rattle.exec_journal.specs.Entries.{orders_kill}
use Rattle.exec_journal.specs.Rules.{gathered}
use Rattle.exec_journal.specs.Seated.{group_on, line_group, line_kind}
use Rattle.exec_journal.specs.Settled.{earliest, has_room}
use Rattle.exec_journal.specs.Words.{kill_ordered, failed, has_ended, last_line, live, pending, started, was_killed}
use Rattle.exec_journal.specs.declared.reply.Why.TheVariants as why
use Rattle.exec_journal.proofs.Ruled.{not_true}
use Rattle.journal_laws.proofs.Lanes as la
use Rattle.journal_laws.proofs.Given as gi
use Rattle.placed_rules.specs.declared.pools.SharedPlan.{SharedPlan}
use Rattle.placed_rules.specs.declared.pools.SharedPool.{SharedPool}
use Rattle.placed_rules.specs.Pools.{pool_of, seats, same_pool, has_group}
use Rattle.placed_rules.specs.Needs as ne
use Rattle.placed_rules.specs.Shared as sh
use Rattle.placed_rules.specs.Shared.{shared_rule, kind_here, group_here, pool_orders, evicts, shared_launches}
use Rattle.progress_laws.proofs.Berths.{live_unkilled}
use Rattle.progress_laws.proofs.Numbers.{IsGreatest, greatest}
use Rattle.progress_laws.proofs.Pools.{any_member, in_filter, none_kept, line_own, pool_same}
use Rattle.progress_laws.proofs.Resting.{AllFree}

-- ---- a line that was killed had started

ordered_up : (p : Plan) (j : List Entry) (l : ℕ) → Lawful p j → kill_ordered j l ≡ true
    → started j l ≡ true
unfolding kill_ordered
ordered_up p [] l legal h = absurd (cc)
ordered_up p (e ∷ j) l legal h =
    va.started_later e j l (elim (or_cases (orders_kill l e.reply) (kill_ordered j l) h) [
      | inl here ↦ (and_parts (started j l) _ (la.kills_once p e j l legal here).running).0
      | inr before ↦ ordered_up p j l legal.0 before
    ])

-- ---- where no lane is ordered anything

-- a live line with nothing pending may go, and nothing is next in its group
pub record MayGo (s : SharedPlan) (j : List Entry) (l : ℕ) : Type 0 where
  pub idle : ne.may_go s None j l ≡ true
  pub none_next : earliest s.plan j (line_group s.plan j l) ≡ None

pub record PoolsIdle (s : SharedPlan) (j : List Entry) : Type 0 where
  pub lawful : Lawful s.plan j
  pub within : (l w : ℕ) → IsOfBerth j l w → w < seats s
  pub free : AllFree j (seats s)
  pub lines : (w : ℕ) → w < seats s → (l : ℕ) → last_line j w ≡ Some l → live j l ≡ true
      → pending j l ≡ [] → MayGo s j l
  pub unordered : (w : ℕ) → w < seats s → (last : Option ℕ) → last_line j w ≡ last
      → pool_orders s None j w last (pool_of s w) ≡ None

module _ (s : SharedPlan) (j : List Entry) (all : PoolsIdle s j) where
  lawful : Lawful s.plan j
  lawful = all.lawful

  -- ---- of the pool of a group that has something next

  module _ (g : ℕ) (next : is_some (earliest s.plan j g) ≡ true) (pool : SharedPool)
      (room : nat_lt 0 (ne.most_lines s pool g) ≡ true) where
    -- no line of the group may have a process
    group_done : (x : ℕ × ℕ) → IsOfBerth j x.1 x.0 → ne.is_in_group s j g x ≡ true
        → va.is_done_line j x.1 ≡ true
    group_done x mine of_group =
        elim (va.last_or_done s.plan j x.1 mine.owner.0 mine.owner.1 lawful mine.owner.2) [
          | inr done ↦ done
          | inl last ↦ (let here : last_line j x.0 ≡ Some x.1 = subst
              (λ i. last_line j i ≡ Some x.1) mine.owner.3 last in
              elim (all.free x.0 (all.within x.1 x.0 mine) x.1 here) [
                | inl vacant ↦ vacant
                | inr lives ↦ absurd (none_some (earliest s.plan j g)
                    (subst (λ i. earliest s.plan j i ≡ None) (group_is
                    (group_on s.plan j x.1) of_group) (all.lines x.0
                    (all.within x.1 x.0 mine) x.1 here lives.0 lives.1).none_next) next)
              ])
        ]
      where
        group_is : (o : Option ℕ) → unwrap_or (option_map (λ k. k == g) o) false ≡ true
            → unwrap_or o 0 ≡ g
        group_is (Some k) h = eqb-true k g h
        group_is None h = absurd (cc)

    pub starved : ne.is_starved s None j pool g ≡ true
    unfolding ne.is_starved
    starved =
        and_from (is_some (earliest s.plan j g)) _ next
        (and_from (ne.none_free s j g) _ none_free few)
      where
        none_free : ne.none_free s j g ≡ true
        none_free =
            ap not (false_by (list_any (λ x. has_room s.plan j (line_kind s.plan j x.1) x.1)
            (ne.lines_in_group s j g)) (λ h.
            let found = any_member (λ x. has_room s.plan j (line_kind s.plan j x.1) x.1)
            (ne.lines_in_group s j g) h in
            let of_group = in_filter (ne.is_in_group s j g) (ne.all_lines j) found.0 found.1 in
            let mine = line_own s.plan j found.0 lawful of_group.0 in
            clash (live j found.0.1) (and_parts (live j found.0.1) _ found.2).0
            (va.done_not_live s.plan j found.0.1 lawful
            (group_done found.0 mine of_group.1))))

        unheld : (l : ℕ) → va.is_done_line j l ≡ true → ne.is_held j l ≡ false
        unheld l h = by (failed j l) (has_ended j l && was_killed j l) h
          where
            by : (a b : Bool) → (a || b) ≡ true → (not a && not b) ≡ false
            by true b m = refl
            by false true m = refl
            by false false m = absurd (cc)

        held : ne.lines_held s j g ≡ 0
        held = none_kept (λ x. ne.is_held j x.1) (ne.lines_in_group s j g) (λ x m.
            let of_group = in_filter (ne.is_in_group s j g) (ne.all_lines j) x m in
            unheld x.1 (group_done x (line_own s.plan j x lawful of_group.0) of_group.1))

        few : nat_lt (ne.lines_held s j g) (ne.most_lines s pool g) ≡ true
        few = ap (λ n. nat_lt n (ne.most_lines s pool g)) held ∙ room

    module _ (member : has_group pool g ≡ true) (waiting : is_some
        (sh.next_starved s None j pool) ≡ true) where
      -- each of its berths has a live line with nothing pending
      pooled : (w : ℕ) → w < seats s → pool_of s w ≡ Some pool → (l : ℕ)
          × (last_line j w ≡ Some l) × (live j l ≡ true) × (pending j l ≡ [])
      pooled w lt at = by (last_line j w) refl
        where
          busy : (last : Option ℕ) → last_line j w ≡ last → r.is_vacant j last ≡ true → ⊥
          busy last is vacant =
              let none : pool_orders s None j w last (Some pool) ≡ None =
              subst (λ (o : Option SharedPool). pool_orders s None j w last o ≡ None) at
              (all.unordered w lt (last) is) in
              let launch = second (evicts s None j w pool last) (shared_launches s None j pool last) none in
              unlaunched (r.is_vacant j last) (sh.next_starved s None j pool) vacant launch waiting
            where
              second : (a b : Option Reply) → or_else a b ≡ None → b ≡ None
              second None b h = h
              second (Some x) b h = absurd (cc)

              unlaunched : (b : Bool) (o : Option Attempt) → b ≡ true
                  → cond b (option_map (r.launch_order j) o) None ≡ None → is_some o ≡ true → ⊥
              unlaunched true (Some t) m h y = cc
              unlaunched true None m h y = cc
              unlaunched false o m h y = cc

          by : (q : Option ℕ) → last_line j w ≡ q → (l : ℕ) × (last_line j w ≡ Some l)
              × (live j l ≡ true) × (pending j l ≡ [])
          by None is = absurd (busy None is refl)
          by (Some l) is = elim (all.free w lt l is) [
            | inl vacant ↦ absurd (busy (Some l) is vacant)
            | inr lives ↦ (l, is, lives.0, lives.1)
          ]

      silence : ℕ → ℕ
      silence w = unwrap_or (option_map (λ l. ne.silent_for j l) (last_line j w)) 0

      silence_is : (w l : ℕ) → last_line j w ≡ Some l → silence w ≡ ne.silent_for j l
      unfolding silence
      silence_is w l is = rw is refl

      pub impossible_in : (w : ℕ) → w < seats s → pool_of s w ≡ Some pool → ⊥
      unfolding ne.may_evict
      impossible_in w lt at = elim (greatest (λ v. same_pool s v w) silence (seats s)) [
        | inr none ↦ clash (same_pool s w w) (eq-eqb _ _ refl) (none w lt)
        | inl top ↦ by_top top
      ]
        where
          evict : (top : IsGreatest (λ v. same_pool s v w) silence (seats s))
              → pool_of s top.top ≡ Some pool → (l : ℕ) → last_line j top.top ≡ Some l
              → live j l ≡ true → pending j l ≡ [] → ne.may_evict s None j top.top pool l ≡ true
          evict top here l is up none =
              and_from _ _ (and_from (ne.may_go s None j l) _ (all.lines top.top top.below l is up
              none).idle
              (any_starved pool.groups member))
              (and_from _ _ (ap not (false_by (ne.some_vacant s j top.top (seats s))
              (λ h. unvacant (seats s) (λ v vlt. vlt) h)))
              (ap not (false_by (list_any (λ x. same_pool s x.0 top.top && ne.goes_before s None j l
              x.1) (ne.all_lines j)) none_before)))
            where
              any_starved : (gs : List ℕ) → list_any (λ k. k == g) gs ≡ true
                  → list_any (ne.is_starved s None j pool) gs ≡ true
              any_starved [] h = absurd (cc)
              any_starved (k ∷ ks) h = elim (or_cases (k == g) _ h) [
                | inl same ↦ or_left (ne.is_starved s None j pool k) _
                    (subst (λ i. ne.is_starved s None j pool i ≡ true)
                    (sym (eqb-true k g same)) starved)
                | inr more ↦ or_right (ne.is_starved s None j pool k) _ (any_starved ks more)
              ]

              unvacant : (n : ℕ) → ((v : ℕ) → v < n → v < seats s)
                  → ne.some_vacant s j top.top n ≡ true → ⊥
              unvacant zero low h = cc
              unvacant (suc n) low h =
                  elim (or_cases (same_pool s n top.top && r.is_vacant j (last_line j n)) _ h) [
                    | inl now ↦ (let parts = and_parts (same_pool s n top.top) _ now in
                        let nlt = low n (omega arith) in
                        let line = pooled n nlt (pool_same s n top.top pool nlt here parts.0) in
                        let vacant : r.is_vacant j (Some line.0) ≡ true =
                        subst (λ (x : Option ℕ). r.is_vacant j x ≡ true) line.1 parts.1 in
                        clash (live j line.0) line.2
                        (va.done_not_live s.plan j line.0 lawful vacant))
                    | inr more ↦ unvacant n (λ v vlt. low v (omega (arith, vlt))) more
                  ]

              killed_none : (v m : ℕ) → IsOfBerth j m v → (k1 : ℕ) → last_line j v ≡ Some k1
                  → live j k1 ≡ true → (was_killed j m && not (has_ended j m)) ≡ true → ⊥
              killed_none v m mine k1 last alive dying =
                  let parts = and_parts (was_killed j m) _ dying in
                  let running = not_true (has_ended j m) parts.1 in
                  let up = ordered_up s.plan j m lawful (gi.killed_ordered s.plan j m lawful
                  parts.0) in
                  elim (va.last_or_done s.plan j m mine.owner.0 mine.owner.1 lawful
                  mine.owner.2) [
                    | inl there ↦ (let same = some_same k1 m
                        (sym last ∙ subst (λ i. last_line j i ≡ Some m) mine.owner.3 there) in
                        let dead = subst (λ i. live j i ≡ true) same alive in
                        clash (was_killed j m) parts.0 (live_unkilled j m dead))
                    | inr done ↦ elim (or_cases (failed j m) _ done) [
                      | inl fault ↦ clash (failed j m) fault
                          (c.started_unfailed s.plan j m lawful up)
                      | inr over ↦ clash (has_ended j m) (and_parts (has_ended j m) _ over).0
                          running
                    ]
                  ]

              none_before : list_any (λ x. same_pool s x.0 top.top && ne.goes_before s None j l x.1)
                  (ne.all_lines j) ≡ true → ⊥
              none_before h =
                  let found = any_member (λ x. same_pool s x.0 top.top && ne.goes_before s None j l
                  x.1) (ne.all_lines j) h in
                  let mine = line_own s.plan j found.0 lawful found.1 in
                  let parts = and_parts (same_pool s found.0.0 top.top) _ found.2 in
                  let vlt = all.within found.0.1 found.0.0 mine in
                  let line = pooled found.0.0 vlt (pool_same s found.0.0 top.top pool vlt here
                  parts.0) in
                  elim (or_cases (was_killed j found.0.1 && not (has_ended j found.0.1)) _
                  parts.1) [
                    | inl dying ↦ killed_none found.0.0 found.0.1 mine line.0 line.1 line.2 dying
                    | inr goes ↦ (let two = and_parts (ne.may_go s None j found.0.1) _ goes in
                        let alive : live j found.0.1 ≡ true =
                        (and_parts (live j found.0.1) _ (and_parts
                        (ne.is_idle s.plan j found.0.1) _ two.0).0).0 in
                        let last = ll.live_is_last s.plan j found.0.1 found.0.0 lawful mine
                        alive in
                        let longer = ltb-true (ne.silent_for j l)
                        (ne.silent_for j found.0.1) two.1 in
                        let a = silence_is found.0.0 found.0.1 last in
                        let b = silence_is top.top l is in
                        let trans : same_pool s found.0.0 w ≡ true =
                        eq-eqb _ _ (eqb-true _ _ parts.0 ∙ eqb-true _ _ top.passes) in
                        let most = top.most found.0.0 vlt trans in
                        omega (arith, longer, a, b, most))
                  ]

          by_top : IsGreatest (λ v. same_pool s v w) silence (seats s) → ⊥
          by_top top =
              let here = pool_same s top.top w pool top.below at top.passes in
              let line = pooled top.top top.below here in
              let none : pool_orders s None j top.top (Some line.0) (Some pool) ≡ None =
              subst (λ (o : Option SharedPool). pool_orders s None j top.top
              (Some line.0) o ≡ None) here (all.unordered top.top top.below (Some line.0) line.1) in
              kept (ne.may_evict s None j top.top pool line.0) (reply.Kill line.0 why.Evicted)
              (shared_launches s None j pool (Some line.0)) none
              (evict top here line.0 line.1 line.2 line.3)
            where
              kept : (b : Bool) (x : Reply) (q : Option Reply) → or_else (r.when b x) q ≡ None
                  → b ≡ true → ⊥
              kept true x q h m = cc
              kept false x q h m = cc
