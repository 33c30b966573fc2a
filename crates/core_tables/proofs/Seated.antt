-- A berth's seat is what the plan says of it.
use Rattle.std.proofs.Common.{◌≡◌, ℕ, zero, suc, ◌+◌, ◌-◌, ◌<◌, ◌≤◌, nat_lt, true, false, cond, List, [], ◌∷◌, Option, Some, option_map, unwrap_or, refl, ap, sym, ◌∙◌, arith, take}
use Rattle.std.specs.Prelude.{slice_get, sum_by, option_and_then}
use Rattle.std.proofs.lemmas.Bool.{ltb-true, ltb-false, lt-ltb}
use Rattle.std.proofs.lemmas.List.Sums.{sum_by-cons}
use Rattle.run_plan.specs.declared.plan.Group.{Group}
use Rattle.run_plan.specs.declared.plan.Kind.{Kind}
use Rattle.run_plan.specs.declared.plan.Kind.TheVariants as kind
use Rattle.run_plan.specs.declared.plan.Plan.{Plan}
use Rattle.run_plan.specs.Groups.{group_from, berth_group, berths, first_berth, berths_of, kind_of, has_cancellation}
use Rattle.exec_journal.proofs.Ruled.{by_bool}
use Rattle.core_tables.specs.declared.berth_group.BerthGroup.{BerthGroup}
use Rattle.core_tables.specs.Seats.{seat_from, seat_here, seat_at}

abbrev sum : List Group → ℕ
sum xs = sum_by (λ g. g.berths) xs

-- the group's place among these groups
record Placed (g first : ℕ) (xs : List Group) (w : ℕ) : Type 0 where
  index : ℕ
  group : Group
  here : slice_get xs index ≡ Some group
  numbered : group_from g xs w ≡ Some (g + index)
  seated : seat_from g first xs w ≡ Some (seat_here (g + index) (first + sum (take index xs)) group)
  from : sum (take index xs) ≤ w
  below : w < sum (take index xs) + group.berths

placed : (g first : ℕ) (xs : List Group) (w : ℕ) → w < sum xs → Placed g first xs w
placed g first [] w lt = absurd (omega arith)
placed g first (x ∷ xs) w lt =
    by_bool (nat_lt w x.berths) (λ b. nat_lt w x.berths ≡ b → Placed g first (x ∷ xs) w)
    (λ yes e. record {
      index = 0;
      group = x;
      here = refl;
      numbered = rw e (let z : g ≡ g + 0 = omega arith in ap Some z);
      seated = rw e (let z : g ≡ g + 0 = omega arith in let f : first ≡ first + 0 = omega arith in
          λ i. Some (seat_here (z i) (f i) x));
      from = omega arith;
      below = let h = ltb-true w x.berths yes in omega arith;
    })
    (λ no e.
    let ge = ltb-false w x.berths no in
    let more = sum_by-cons (λ (y : Group). y.berths) x xs in
    let rest = placed (g + 1) (first + x.berths) xs (w - x.berths) (omega arith) in
    let fr = rest.from in
    let be = rest.below in
    let cons = sum_by-cons (λ (y : Group). y.berths) x (take rest.index xs) in
    record {
      index = suc rest.index;
      group = rest.group;
      here = rest.here;
      numbered = rw e (rest.numbered ∙ (let z : g + 1 + rest.index ≡ g + suc rest.index =
          omega arith in ap Some z));
      seated = rw e (rest.seated ∙ (let z : g + 1 + rest.index ≡ g + suc rest.index = omega arith in
          let f : first + x.berths + sum (take rest.index xs) ≡ first + sum
          (x ∷ take rest.index xs) = omega arith in λ i. Some (seat_here (z i) (f i) rest.group)));
      from = omega arith;
      below = omega arith;
    }) refl

-- the berths of that group
group_back : (g : ℕ) (xs : List Group) (i : ℕ) (x : Group) (v : ℕ) → slice_get xs i ≡ Some x
    → sum (take i xs) ≤ v → v < sum (take i xs) + x.berths → group_from g xs v ≡ Some (g + i)
group_back g [] i x v h le lt = absurd (cc)
group_back g (y ∷ ys) zero x v h le lt =
    let same : y ≡ x = cc in
    let b = ap (λ (z : Group). z.berths) same in
    let yes : nat_lt v y.berths ≡ true = lt-ltb v y.berths (omega arith) in
    rw yes (let z : g ≡ g + 0 = omega arith in ap Some z)
group_back g (y ∷ ys) (suc i) x v h le lt =
    let cons = sum_by-cons (λ (z : Group). z.berths) y (take i ys) in
    by_bool (nat_lt v y.berths) (λ b. cond b (Some g) (group_from (g + 1) ys (v - y.berths)) ≡ Some
    (g + suc i))
    (λ yes. let h2 = ltb-true v y.berths yes in absurd (omega arith))
    (λ no. let ge = ltb-false v y.berths no in
    group_back (g + 1) ys i x (v - y.berths) h (omega arith) (omega arith)
    ∙ (let z : g + 1 + i ≡ g + suc i = omega arith in ap Some z))

within_sum : (i : ℕ) (xs : List Group) (x : Group) → slice_get xs i ≡ Some x
    → sum (take i xs) + x.berths ≤ sum xs
within_sum i [] x h = absurd (cc)
within_sum zero (y ∷ ys) x h =
    let same : y ≡ x = cc in
    let b = ap (λ (z : Group). z.berths) same in
    let cons = sum_by-cons (λ (z : Group). z.berths) y ys in
    omega arith
within_sum (suc i) (y ∷ ys) x h =
    let cons = sum_by-cons (λ (z : Group). z.berths) y (take i ys) in
    let cons2 = sum_by-cons (λ (z : Group). z.berths) y ys in
    let rest = within_sum i ys x h in
    omega arith

abbrev pub all_berths : Plan → ℕ
all_berths p = berths p

pub record IsSeat (p : Plan) (w : ℕ) (s : BerthGroup) : Type 0 where
  pub is : seat_at p w ≡ Some s
  pub group : berth_group p w ≡ Some s.group
  pub kind : kind_of p w ≡ s.kind
  pub cancel : has_cancellation p s.group ≡ s.cancel
  pub first : first_berth p s.group ≡ s.first
  pub berths : berths_of p s.group ≡ s.berths
  pub others : (v : ℕ) → s.first ≤ v → v < s.first + s.berths → berth_group p v ≡ Some s.group
  pub known : (v : ℕ) → s.first ≤ v → v < s.first + s.berths → v < all_berths p
  pub own_from : s.first ≤ w
  pub own_below : w < s.first + s.berths

abbrev kind_in : Plan → Option ℕ → Kind
kind_in p o = unwrap_or (option_map (λ g. g.kind) (option_and_then (λ k. slice_get p.groups k) o))
    kind.Single

pub kind_by_group : (p : Plan) (v w g : ℕ) → berth_group p v ≡ Some g → berth_group p w ≡ Some g
    → kind_of p v ≡ kind_of p w
kind_by_group p v w g a b = ap (kind_in p) a ∙ sym (ap (kind_in p) b)

pub seat_is : (p : Plan) (w : ℕ) → w < berths p → (s : BerthGroup) × IsSeat p w s
seat_is p w lt =
    let at = placed 0 0 p.groups w lt in
    let n : 0 + at.index ≡ at.index = omega arith in
    let f : 0 + sum (take at.index p.groups) ≡ sum (take at.index p.groups) = omega arith in
    let s = seat_here at.index (sum (take at.index p.groups)) at.group in
    let g : berth_group p w ≡ Some at.index = at.numbered ∙ ap Some n in (
      s,
      record {
        is = at.seated ∙ (λ i. Some (seat_here (n i) (f i) at.group));
        group = g;
        kind = ap (kind_in p) g ∙ ap (λ (o : Option Group). unwrap_or
            (option_map (λ y. y.kind) o) kind.Single) at.here;
        cancel = ap (λ (o : Option Group). unwrap_or (option_map (λ y. y.cancel) o) false) at.here;
        first = refl;
        berths = ap (λ (o : Option Group). unwrap_or (option_map (λ y. y.berths) o) 0) at.here;
        others = λ v le below. group_back 0 p.groups at.index at.group v at.here le below
            ∙ ap Some n;
        known = λ v le below. let h = within_sum at.index p.groups at.group at.here in omega arith;
        own_from = at.from;
        own_below = at.below;
      },
    )

-- the group's berths are the plan's
pub seat_fits : (p : Plan) (w : ℕ) (s : BerthGroup) → w < berths p → seat_at p w ≡ Some s
    → s.first + s.berths ≤ berths p
seat_fits p w s lt h =
    let at = placed 0 0 p.groups w lt in
    let here : Some (seat_here (0 + at.index) (0 + sum (take at.index p.groups)) at.group)
    ≡ Some s = sym at.seated ∙ h in
    let same : seat_here (0 + at.index) (0 + sum (take at.index p.groups)) at.group ≡ s = cc in
    let f = ap (λ (x : BerthGroup). x.first) same in
    let b = ap (λ (x : BerthGroup). x.berths) same in
    let fit = within_sum at.index p.groups at.group at.here in
    omega arith
