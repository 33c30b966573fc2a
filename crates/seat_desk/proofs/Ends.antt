-- Splitting, joining and closing keep the rule of the table.
use Rattle.std.proofs.Common.{◌≡◌, ◌≢◌, ℕ, ◌+◌, ◌-◌, ◌^◌, ◌<◌, ◌≤◌, Bool, true, false, List, [], ◌∷◌, ◌++◌, length, set, sym, refl, ap, ◌∙◌, subst, ⊎_elim, arith, length-set, length-append, Option, Some, None}
use mathlib.Core.Option as maybe
use lib.ListN.{get_elem?}
use Rattle.atomic_table.specs.Table.{State, Me, keeps, Allows, Splits, Joins, Final, Seen}
use Rattle.atomic_table.proofs.Lists.{at_set, set_else}
use Rattle.plain_values.specs.declared.entry.Entry.{Entry}
use Rattle.seat_desk.specs.declared.view.Role.{Role}
use Rattle.seat_desk.specs.declared.view.Role.TheVariants.{Root, Lane, Gone}
use Rattle.seat_desk.specs.declared.view.Stage.{Stage}
use Rattle.seat_desk.specs.declared.view.Stage.TheVariants.{Idle}
use Rattle.seat_desk.specs.declared.view.Joined.{Joined}
use Rattle.seat_desk.specs.declared.view.View.{View}
use Rattle.seat_desk.specs.History.{calls_by, StartsWith}
use Rattle.seat_desk.specs.Desks.{IsRoot}
use Rattle.seat_desk.specs.Turns.{tickets_at, tickets_out, passes_at, passes_open, passes_made, lane_of, view_with, root_after_split, new_pass_view, joined_of, root_after_join, view_gone, AllJoined, NoneFrom, Below, Queued, Plays, Lies, Kept, TellsGather}
use Rattle.seat_desk.proofs.Lines.{words_same, at_below, at_end, seats_stay, outs_set, outs_snoc, opens_set, opens_snoc, opens_same, below_more, below_apart, below_snoc, apart_snoc, joined_snoc, none_out, whole}

module _ {H C R Q : Type 0} (log_of : H → List (Entry C R)) (good : Q → H → Type 0) where
  abbrev V : Type 0
  V = View C R Q

  abbrev Slot : Type 0
  Slot = Option (H)

  abbrev St : Type 0
  St = State Slot V

  abbrev Rule : St → Type 0
  Rule = Kept log_of good

  abbrev SeatState : Type 0
  SeatState = Me Slot V

  unqueued : (log : List (Entry C R)) (done drawn : ℕ) (owner : ℕ → ℕ) (busy : Bool) (seat : ℕ) (seen : List (Entry C R)) (stage : Stage) → stage ≡ Idle → Queued log done drawn owner busy seat seen stage
  unqueued log done drawn owner busy seat seen stage idle = subst (Queued log done drawn owner busy seat seen) (sym idle) tt

  -- an idle root looks at the history
  pub gathers : (slots id made : ℕ) (me : SeatState) → me.0.stage ≡ Idle → me.0.role ≡ Root made → Allows Rule slots id me 0 (λ n. n) (TellsGather log_of good me)
  gathers slots id made me idle root s r deep at fits = let w : V = view_with me.0 r.log in
      let n : length (set s.views id w) ≡ length s.views = length-set s.views id w in
      let role : Plays r.basis r.log r.joined (length s.views) id me.0 (Root made) = subst (Plays r.basis r.log r.joined (length s.views) id me.0) root (r.roles id me.0 at) in
      let front = r.fronts id me.0 at in let outs' : tickets_out (set s.views id w) + tickets_at me.0.stage ≡ tickets_out s.views + tickets_at me.0.stage = outs_set s.views id me.0 w at in let count = r.count in (
        w,
        keeps,
        tt,
        record {
          basis = r.basis;
          log = r.log;
          done = r.done;
          drawn = r.drawn;
          owner = r.owner;
          busy = r.busy;
          joined = r.joined;
          words = words_same s.words 0 r.drawn r.done r.words;
          count = omega arith;
          few = subst (λ (k : ℕ). k ≤ 2 ^ 32) (sym n) r.few;
          turn = r.turn;
          lies = r.lies;
          lines = seats_stay (λ j (v : V). Queued r.log r.done r.drawn r.owner r.busy j v.seen v.stage) s.views id w (unqueued r.log r.done r.drawn r.owner r.busy id r.log me.0.stage idle) (λ j v other there. r.lines j v there);
          fronts = seats_stay (λ j (v : V). StartsWith r.log v.seen × StartsWith r.log v.told) s.views id w (whole r.log, front.1) (λ j v other there. r.fronts j v there);
          roles = subst (λ (k : ℕ). (j : ℕ) (v : V) → get_elem? (set s.views id w) j ≡ maybe.some v → Plays r.basis r.log r.joined k j v v.role) (sym n)
              (seats_stay (λ j (v : V). Plays r.basis r.log r.joined (length s.views) j v v.role) s.views id w (subst (Plays r.basis r.log r.joined (length s.views) id w) (sym root) role) (λ j v other there. r.roles j v there));
          ends = r.ends;
          below = subst (λ (k : ℕ). Below k r.joined) (sym n) r.below;
          passes = ap (λ (k : ℕ). k + length r.joined + 1) (opens_same s.views id me.0 w at refl) ∙ (r.passes ∙ sym n);
          later = subst (λ (m : ℕ). (k : ℕ) → m ≤ k + 1 → calls_by k r.log ≡ []) (sym n) r.later;
        },
        (refl, (r.log, refl, front.0, front.1, λ m is k far. r.later k (let same : made ≡ m = ap passes_made (sym root ∙ is) in let here = role.1 in omega arith))),
      )

  -- splitting a seat for a new pass
  pub splits : (id made : ℕ) (v : V) → v.role ≡ Root made → v.stage ≡ Idle → made < 2 ^ 32 - 1 → Splits Rule id v (root_after_split v) (new_pass_view v)
  splits id made v root idle few s r at = let left : V = root_after_split v in let right : V = new_pass_view v in let vs : List V = set s.views id left in let vs' : List V = vs ++ right ∷ [] in
      let n : length vs ≡ length s.views = length-set s.views id left in let n' : length vs' ≡ length s.views + 1 = length-append vs (right ∷ []) ∙ ap (λ (k : ℕ). k + 1) n in
      let role : Plays r.basis r.log r.joined (length s.views) id v (Root made) = subst (Plays r.basis r.log r.joined (length s.views) id v) root (r.roles id v at) in
      let made_is : passes_made v.role ≡ made = ap passes_made root in let front = r.fronts id v at in
      let outs' : tickets_out vs + tickets_at v.stage ≡ tickets_out s.views + tickets_at v.stage = outs_set s.views id v left at in let outs'' : tickets_out vs' ≡ tickets_out vs + 0 = outs_snoc vs right in
      let opens' : passes_open vs + passes_at v.role ≡ passes_open s.views + 0 = opens_set s.views id v left at in let opens'' : passes_open vs' ≡ passes_open vs + 1 = opens_snoc vs right in
      let closed : passes_at v.role ≡ 0 = ap passes_at root in let seats : length s.views ≡ made + 1 = role.1 in
      let count = r.count in let passes = r.passes in record {
        basis = r.basis;
        log = r.log;
        done = r.done;
        drawn = r.drawn;
        owner = r.owner;
        busy = r.busy;
        joined = r.joined;
        words = r.words;
        count = omega arith;
        few = omega arith;
        turn = r.turn;
        lies = r.lies;
        lines = longer_list (λ j (u : V). Queued r.log r.done r.drawn r.owner r.busy j u.seen u.stage) vs right
            (seats_stay (λ j (u : V). Queued r.log r.done r.drawn r.owner r.busy j u.seen u.stage) s.views id left (r.lines id v at) (λ j u other there. r.lines j u there)) tt;
        fronts = longer_list (λ j (u : V). StartsWith r.log u.seen × StartsWith r.log u.told) vs right
            (seats_stay (λ j (u : V). StartsWith r.log u.seen × StartsWith r.log u.told) s.views id left front (λ j u other there. r.fronts j u there)) (front.0, (r.log, refl));
        roles = subst (λ (m : ℕ). (j : ℕ) (u : V) → get_elem? vs' j ≡ maybe.some u → Plays r.basis r.log r.joined m j u u.role) (sym n')
            (longer_list (λ j (u : V). Plays r.basis r.log r.joined (length s.views + 1) j u u.role) vs right
            (seats_stay (λ j (u : V). Plays r.basis r.log r.joined (length s.views + 1) j u u.role) s.views id left (role.0, omega arith, role.2, role.3)
            (λ j u other there. other_role (length s.views) (λ zero_there. other (zero_there ∙ sym role.0)) j u u.role (r.roles j u there) refl))
            (omega arith, r.later (passes_made v.role) (omega arith), below_apart (length s.views) (passes_made v.role) r.joined (omega arith) r.below, role.3));
        ends = r.ends;
        below = below_more (length s.views) (length vs') r.joined (omega arith) r.below;
        passes = omega arith;
        later = λ k far. r.later k (omega arith);
      }
    where
      longer_list : (P : ℕ → V → Type 0) (vs : List V) (w : V) → ((j : ℕ) (u : V) → get_elem? vs j ≡ maybe.some u → P j u) → P (length vs) w
          → (j : ℕ) (u : V) → get_elem? (vs ++ w ∷ []) j ≡ maybe.some u → P j u
      longer_list P vs w old new j u there = ⊎_elim (λ (t : get_elem? vs j ≡ maybe.some u). old j u t)
          (λ (t : (j ≡ length vs) × (w ≡ u)). subst (λ (x : ℕ × V). P x.0 x.1) (λ i. (sym t.0 i, t.1 i)) new) (at_end vs w u j there)

      other_role : (n : ℕ) {j' : ℕ} → (j' ≡ 0 → ⊥) → (j : ℕ) (u : V) (role : Role) → Plays r.basis r.log r.joined n j u role → j ≡ j' → Plays r.basis r.log r.joined (n + 1) j u role
      other_role n apart j u (Root m) p e = absurd (apart (sym e ∙ p.0))
      other_role n apart j u (Lane k) p e = p
      other_role n apart j u Gone p e = p

  -- joining the seat of a pass to the root's
  pub joins : (q : Q) (id other made k : ℕ) (v w : V) → v.role ≡ Root made → w.role ≡ Lane k → w.stage ≡ Idle → Joins Rule id v other w (root_after_join v w) (view_gone q)
  joins q id other made k v w root lane idle s r at apart there' = let both : V = root_after_join v w in let vs : List V = set s.views id both in let vs' : List V = set vs other (view_gone q) in
      let n : length vs ≡ length s.views = length-set s.views id both in let n' : length vs' ≡ length s.views = length-set vs other (view_gone q) ∙ n in
      let there : get_elem? s.views other ≡ maybe.some w = sym (set_else s.views id other both apart) ∙ there' in
      let role : Plays r.basis r.log r.joined (length s.views) id v (Root made) = subst (Plays r.basis r.log r.joined (length s.views) id v) root (r.roles id v at) in
      let its : Plays r.basis r.log r.joined (length s.views) other w (Lane k) = subst (Plays r.basis r.log r.joined (length s.views) other w) lane (r.roles other w there) in
      let lane_is : lane_of w.role ≡ k = ap lane_of lane in let seat : other ≡ k + 1 = its.0 in let below : other < length s.views = at_below s.views other w there in
      let outs' : tickets_out vs + tickets_at v.stage ≡ tickets_out s.views + tickets_at v.stage = outs_set s.views id v both at in let outs'' : tickets_out vs' + 0 ≡ tickets_out vs + 0 = ap (λ (x : Stage). tickets_out vs' + tickets_at x) (sym idle) ∙ (outs_set vs other w (view_gone q) there' ∙ refl) in
      let opens' : passes_open vs ≡ passes_open s.views = opens_same s.views id v both at refl in let opens'' : passes_open vs' + 1 ≡ passes_open vs + 0 = ap (λ (x : Role). passes_open vs' + passes_at x) (sym lane) ∙ opens_set vs other w (view_gone q) there' in
      let count = r.count in let passes = r.passes in let more : length (r.joined ++ joined_of w ∷ []) ≡ length r.joined + 1 = length-append r.joined (joined_of w ∷ []) in record {
        basis = r.basis;
        log = r.log;
        done = r.done;
        drawn = r.drawn;
        owner = r.owner;
        busy = r.busy;
        joined = r.joined ++ joined_of w ∷ [];
        words = r.words;
        count = omega arith;
        few = subst (λ (k : ℕ). k ≤ 2 ^ 32) (sym n') r.few;
        turn = r.turn;
        lies = r.lies;
        lines = seats_stay (λ j (u : V). Queued r.log r.done r.drawn r.owner r.busy j u.seen u.stage) vs other (view_gone q) tt (λ j u far here. seats_stay
            (λ j (u : V). Queued r.log r.done r.drawn r.owner r.busy j u.seen u.stage) s.views id both (r.lines id v at) (λ j u other here. r.lines j u here) j u here);
        fronts = seats_stay (λ j (u : V). StartsWith r.log u.seen × StartsWith r.log u.told) vs other (view_gone q) ((r.log, refl), (r.log, refl))
            (λ j u far here. seats_stay (λ j (u : V). StartsWith r.log u.seen × StartsWith r.log u.told) s.views id both ((r.fronts id v at).0, (r.fronts other w there).0) (λ j u other here. r.fronts j u here) j u here);
        roles = subst (λ (m : ℕ). (j : ℕ) (u : V) → get_elem? vs' j ≡ maybe.some u → Plays r.basis r.log (r.joined ++ joined_of w ∷ []) m j u u.role) (sym n')
            (seats_stay (λ j (u : V). Plays r.basis r.log (r.joined ++ joined_of w ∷ []) (length s.views) j u u.role) vs other (view_gone q) refl
            (λ j u far here. ⊎_elim
            (λ (t : (j ≡ id) × (both ≡ u)). subst (λ (x : ℕ × V). Plays r.basis r.log (r.joined ++ joined_of w ∷ []) (length s.views) x.0 x.1 x.1.role) (λ i. (sym t.0 i, t.1 i))
            (subst (Plays r.basis r.log (r.joined ++ joined_of w ∷ []) (length s.views) id both) (sym root) (role.0, role.1, ap (λ (l : List (Joined C R)). l ++ joined_of w ∷ []) role.2, role.3)))
            (λ (t : (j ≢ id) × (get_elem? s.views j ≡ maybe.some u)). other_role lane_is (λ z. t.0 (z ∙ sym role.0)) (λ e. far (e ∙ sym seat)) j u u.role (r.roles j u t.1) refl)
            (at_set s.views id j both u here)));
        ends = joined_snoc r.log r.joined (joined_of w) r.ends (ap (λ (x : ℕ). calls_by x r.log) lane_is ∙ its.1);
        below = subst (λ (m : ℕ). Below m (r.joined ++ joined_of w ∷ [])) (sym n') (below_snoc (length s.views) r.joined (joined_of w) r.below (omega arith));
        passes = omega arith;
        later = λ k far. r.later k (omega arith);
      }
    where
      other_role : lane_of w.role ≡ k → {j' : ℕ} → (j' ≡ 0 → ⊥) → (j' ≡ k + 1 → ⊥) → (j : ℕ) (u : V) (role : Role) → Plays r.basis r.log r.joined (length s.views) j u role → j ≡ j'
          → Plays r.basis r.log (r.joined ++ joined_of w ∷ []) (length s.views) j u role
      other_role lane_is first second j u (Root m) p e = absurd (first (sym e ∙ p.0))
      other_role lane_is first second j u (Lane i) p e = (p.0, p.1, apart_snoc i r.joined (joined_of w) p.2 (λ q. second (sym e ∙ (p.0 ∙ ap (λ (x : ℕ). x + 1) (sym q ∙ lane_is)))), p.3)
      other_role lane_is first second j u Gone p e = p

  -- the end, where the root is idle and has joined each pass
  pub closes : (id made : ℕ) (v : V) (ws : List ℕ) (xs : List Slot) → v.role ≡ Root made → v.stage ≡ Idle → length v.joined ≡ made → Final (Seen Rule id v) ws xs
      → (y : H) × (get_elem? xs 0 ≡ maybe.some (Some y)) × good v.basis y × StartsWith (log_of y) v.seen × StartsWith (log_of y) v.told × AllJoined (log_of y) v.joined × NoneFrom made (log_of y)
  closes id made v ws xs root idle all final = let s : St = final.0 in let r : Rule s = final.1.0 in let at : get_elem? s.views id ≡ maybe.some v = final.1.1 in
      let role : Plays r.basis r.log r.joined (length s.views) id v (Root made) = subst (Plays r.basis r.log r.joined (length s.views) id v) root (r.roles id v at) in
      let same : length v.joined ≡ length r.joined = ap (λ (l : List (Joined C R)). length l) role.2 in let passes = r.passes in let seats : length s.views ≡ made + 1 = role.1 in
      let none : tickets_out s.views ≡ 0 = none_out s.views (omega arith) (λ j u there closed. resting r role.0 at j u u.role (r.roles j u there) refl closed there) in
      let count = r.count in found r (not_busy r.busy (λ b. (let l : r.done < r.drawn = r.turn b in omega arith))) role.2 role.3 (r.fronts id v at) (λ k far. r.later k (omega arith))
      (λ y here. final.4 0 (Some y) here)
    where
      not_busy : (b : Bool) → (b ≡ true → ⊥) → b ≡ false
      not_busy true n = absurd (n refl)
      not_busy false n = refl

      resting : {s : St} (r : Rule s) → id ≡ 0 → get_elem? s.views id ≡ maybe.some v → (j : ℕ) (u : V) (role : Role) → Plays r.basis r.log r.joined (length s.views) j u role → u.role ≡ role → passes_at u.role ≡ 0 → get_elem? s.views j ≡ maybe.some u → u.stage ≡ Idle
      resting {s} r first at j u (Root m) p is closed there = let same : v ≡ u = maybe.some-injective v u (sym at ∙ (ap (get_elem? s.views) (first ∙ sym p.0) ∙ there)) in ap (λ (x : V). x.stage) (sym same) ∙ idle
      resting {s} r first at j u (Lane k) p is closed there = absurd (let e : passes_at u.role ≡ 1 = ap passes_at is in omega arith)
      resting {s} r first at j u Gone p is closed there = p

      found : {s : St} (r : Rule s) → r.busy ≡ false → v.joined ≡ r.joined → v.basis ≡ r.basis → StartsWith r.log v.seen × StartsWith r.log v.told → NoneFrom made r.log
          → ((y : H) → get_elem? s.homes 0 ≡ maybe.some (maybe.some (Some y)) → get_elem? xs 0 ≡ maybe.some (Some y))
          → (y : H) × (get_elem? xs 0 ≡ maybe.some (Some y)) × good v.basis y × StartsWith (log_of y) v.seen × StartsWith (log_of y) v.told × AllJoined (log_of y) v.joined × NoneFrom made (log_of y)
      found {s} r free joined basis front none here = let lies : Lies log_of good r.basis false r.log s.homes = subst (λ (b : Bool). Lies log_of good r.basis b r.log s.homes) free r.lies in let is : (log_of lies.0) ≡ r.log = lies.2 in (
        lies.0,
        here lies.0 (ap (λ (l : List (maybe.Option Slot)). get_elem? l 0) lies.1),
        subst (λ (q : Q). good q lies.0) (sym basis) lies.3,
        subst (λ (l : List (Entry C R)). StartsWith l v.seen) (sym is) front.0,
        subst (λ (l : List (Entry C R)). StartsWith l v.told) (sym is) front.1,
        subst (λ (x : List (Entry C R) × List (Joined C R)). AllJoined x.0 x.1) (λ i. (sym is i, sym joined i)) r.ends,
        subst (NoneFrom made) (sym is) none,
      )

  -- the root after a look
  pub still_root : (made n : ℕ) (m m1 m2 : SeatState) (w : V) → IsRoot made m → m1 ≡ (root_after_join m.0 w, m.1) → TellsGather log_of good m1 n m2 → IsRoot made m2
  still_root made n m m1 m2 w root was did = let role : m1.0.role ≡ Root made = ap (λ (x : SeatState). x.0.role) was ∙ root.0 in let h : List (Entry C R) = did.1.0 in (
    ap (λ (v : V). v.role) did.1.1 ∙ role,
    ap (λ (v : V). v.stage) did.1.1 ∙ (ap (λ (x : SeatState). x.0.stage) was ∙ root.1),
    did.0 ∙ (ap (λ (x : SeatState). x.1) was ∙ root.2),
    λ k far. ap (λ (v : V). calls_by k v.seen) did.1.1 ∙ did.1.4 made role k far,
  )

  -- what it has seen then
  pub root_saw : (n : ℕ) (m m1 m2 : SeatState) (w : V) → m1 ≡ (root_after_join m.0 w, m.1) → TellsGather log_of good m1 n m2 → StartsWith m2.0.seen m.0.seen × StartsWith m2.0.seen w.seen
  root_saw n m m1 m2 w was did = let sees_h : m2.0.seen ≡ did.1.0 = ap (λ (v : V). v.seen) did.1.1 in (
    subst (λ (l : List (Entry C R)). StartsWith l m.0.seen) (sym sees_h) (subst (λ (x : SeatState). StartsWith did.1.0 x.0.seen) was did.1.2),
    subst (λ (l : List (Entry C R)). StartsWith l w.seen) (sym sees_h) (subst (λ (x : SeatState). StartsWith did.1.0 x.0.told) was did.1.3),
  )

  -- what is taken out of the slot then
  pub closed_on : (id made : ℕ) (v : V) (ws : List ℕ) (xs : List Slot) (x : Slot) → v.role ≡ Root made → v.stage ≡ Idle → length v.joined ≡ made → Final (Seen Rule id v) ws xs
      → get_elem? xs 0 ≡ maybe.some x → (y : H) × (x ≡ Some y) × good v.basis y × StartsWith (log_of y) v.seen × AllJoined (log_of y) v.joined × NoneFrom made (log_of y)
  closed_on id made v ws xs x root idle all final at = let last = closes id made v ws xs root idle all final in (last.0, maybe.some-injective x (Some last.0) (sym at ∙ last.1), last.2, last.3, last.5, last.6)

  abbrev held_or : H → Slot → H
  held_or d None = d
  held_or d (Some y) = y

  pub closed_with : (id made : ℕ) (v : V) (ws : List ℕ) (xs : List Slot) (x : Slot) (z : H) → v.role ≡ Root made → v.stage ≡ Idle → length v.joined ≡ made → Final (Seen Rule id v) ws xs
      → get_elem? xs 0 ≡ maybe.some x → x ≡ Some z → good v.basis z × StartsWith (log_of z) v.seen × AllJoined (log_of z) v.joined × NoneFrom made (log_of z)
  closed_with id made v ws xs x z root idle all final at is = let last = closed_on id made v ws xs x root idle all final at in
      let same : last.0 ≡ z = ap (held_or last.0) (sym last.1 ∙ is) in
      subst (λ (y : H). good v.basis y × StartsWith (log_of y) v.seen × AllJoined (log_of y) v.joined × NoneFrom made (log_of y)) same (last.2, last.3, last.4, last.5)
