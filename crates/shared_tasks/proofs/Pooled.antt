-- Pools made of parts are sound, and each of their berths speaks as its pool.
use Rattle.std.proofs.Common.{◌≡◌, ℕ, zero, suc, ◌+◌, ◌-◌, ◌<◌, ◌≤◌, ◌==◌, nat_lt, Bool, true, false, ◌||◌, not, cond, List, [], ◌∷◌, ◌++◌, length, replicate, Option, Some, option_map, unwrap_or, refl, ap, sym, subst, ◌∙◌, arith, append_assoc, length-append}
use Rattle.std.specs.Prelude.{slice_get, sum_by}
use Rattle.std.specs.List.{filter, list_all, list_any}
use Rattle.std.proofs.lemmas.Bool.Decides.{nat_tests}
use Rattle.std.proofs.lemmas.Bool.{and_from, and_parts, lt-ltb, ltb-true, ltb-false}
use Rattle.std.proofs.lemmas.List.{length-replicate}
use Rattle.std.proofs.lemmas.List.Sums.{sum_by-append, sum_by-cons}
use Rattle.exec_journal.proofs.Ruled.{by_bool}
use Rattle.action_list.specs.declared.parts.GroupPart.{GroupPart}
use Rattle.run_values.specs.Settings.{speaks_remote}
use Rattle.run_plan.specs.declared.plan.Group.{Group}
use Rattle.run_plan.specs.declared.plan.Speech.{Speech}
use Rattle.run_plan.specs.declared.plan.Speech.TheVariants as speech
use Rattle.run_plan.specs.Groups.{is_remote}
use Rattle.run_tasks.proofs.AtBerths.{get_front, get_behind}
use Rattle.placed_rules.specs.declared.pools.SharedPlan.{SharedPlan}
use Rattle.placed_rules.specs.declared.pools.SharedPool.{SharedPool}
use Rattle.placed_rules.specs.Pools as p
use Rattle.shared_tasks.specs.Pools.{executors_from, is_same, pool_if, pool_of, pools_in, speaking_from, speeches_in, spoken_pools}

-- ---- which groups have a speech

abbrev says : Speech → Option GroupPart → Bool
says s o = unwrap_or (option_map (λ x. is_same x.speech s) o) false

abbrev stands : ℕ → List ℕ → Bool
stands g gs = list_any (λ k. k == g) gs

eq_self : (n : ℕ) → (n == n) ≡ true
eq_self n = grind (arith, nat_tests)

eq_less : (a b : ℕ) → a < b → (b == a) ≡ false
eq_less a b lt = grind (arith, nat_tests)

eq_more : (a b : ℕ) → a < b → (a == b) ≡ false
eq_more a b lt = grind (arith, nat_tests)

module _ (s : Speech) where
  none_below : (xs : List GroupPart) (a g : ℕ) → g < a → stands g (speaking_from s a xs) ≡ false
  none_below [] a g lt = refl
  none_below (x ∷ xs) a g lt =
      by_bool (is_same x.speech s)
      (λ b. stands g (cond b (a ∷ speaking_from s (suc a) xs) (speaking_from s (suc a) xs)) ≡ false)
      (λ _. rw (eq_less g a lt) (none_below xs (suc a) g (omega (arith, lt))))
      (λ _. none_below xs (suc a) g (omega (arith, lt)))

  stands_at : (xs : List GroupPart) (a i : ℕ)
      → stands (a + i) (speaking_from s a xs) ≡ says s (slice_get xs i)
  stands_at [] a i = refl
  stands_at (x ∷ xs) a zero =
      let e : a + 0 ≡ a = omega arith in
      subst (λ n. stands n (speaking_from s a (x ∷ xs)) ≡ is_same x.speech s) (sym e)
      (by_bool (is_same x.speech s)
      (λ b. stands a (cond b (a ∷ speaking_from s (suc a) xs) (speaking_from s (suc a) xs)) ≡ b)
      (λ _. rw (eq_self a) refl)
      (λ _. none_below xs (suc a) a (omega arith)))
  stands_at (x ∷ xs) a (suc i) =
      let e : suc a + i ≡ a + suc i = omega arith in
      let rest = subst (λ n. stands n (speaking_from s (suc a) xs) ≡ says s (slice_get xs i)) e
      (stands_at xs (suc a) i) in
      by_bool (is_same x.speech s)
      (λ b. stands (a + suc i) (cond b (a ∷ speaking_from s (suc a) xs) (speaking_from s (suc a) xs))
      ≡ says s (slice_get xs i))
      (λ _. rw (eq_more a (a + suc i) (omega arith)) rest)
      (λ _. rest)

  named_in : (xs : List GroupPart) (a n : ℕ) → a + length xs ≤ n
      → list_all (λ g. nat_lt g n) (speaking_from s a xs) ≡ true
  named_in [] a n le = refl
  named_in (x ∷ xs) a n le =
      let rest = named_in xs (suc a) n (omega (arith, le)) in
      by_bool (is_same x.speech s)
      (λ b. list_all (λ g. nat_lt g n)
      (cond b (a ∷ speaking_from s (suc a) xs) (speaking_from s (suc a) xs)) ≡ true)
      (λ _. rw (lt-ltb a n (omega (arith, le))) rest)
      (λ _. rest)

  -- a test that each group with a part of this speech passes
  all_pass : (q : ℕ → Bool) (xs : List GroupPart) (a : ℕ)
      → ((i : ℕ) (x : GroupPart) → slice_get xs i ≡ Some x → is_same x.speech s ≡ true
      → q (a + i) ≡ true) → list_all q (speaking_from s a xs) ≡ true
  all_pass q [] a each = refl
  all_pass q (x ∷ xs) a each =
      let rest = all_pass q xs (suc a) (λ i y h k.
      let e : a + suc i ≡ suc a + i = omega arith in ap q (sym e) ∙ each (suc i) y h k) in
      by_bool (is_same x.speech s) (λ b. is_same x.speech s ≡ b → list_all q
      (cond b (a ∷ speaking_from s (suc a) xs) (speaking_from s (suc a) xs)) ≡ true)
      (λ _ same. let e : a ≡ a + 0 = omega arith in
      let here : q a ≡ true = ap q e ∙ each 0 x refl same in rw here rest)
      (λ _ _. rest) refl

  -- or none of them does
  pub none_pass : (q : ℕ → Bool) (xs : List GroupPart) (a : ℕ)
      → ((i : ℕ) (x : GroupPart) → slice_get xs i ≡ Some x → is_same x.speech s ≡ true
      → q (a + i) ≡ false) → list_any q (speaking_from s a xs) ≡ false
  none_pass q [] a each = refl
  none_pass q (x ∷ xs) a each =
      let rest = none_pass q xs (suc a) (λ i y h k.
      let e : a + suc i ≡ suc a + i = omega arith in ap q (sym e) ∙ each (suc i) y h k) in
      by_bool (is_same x.speech s) (λ b. is_same x.speech s ≡ b → list_any q
      (cond b (a ∷ speaking_from s (suc a) xs) (speaking_from s (suc a) xs)) ≡ false)
      (λ _ same. let e : a ≡ a + 0 = omega arith in
      let here : q a ≡ false = ap q e ∙ each 0 x refl same in rw here rest)
      (λ _ _. rest) refl

-- ---- pools

app_all : {X : Type 0} (q : X → Bool) (xs ys : List X) → list_all q xs ≡ true
    → list_all q ys ≡ true → list_all q (xs ++ ys) ≡ true
app_all q [] ys h k = k
app_all q (x ∷ xs) ys h k =
    let parts = and_parts (q x) (list_all q xs) h in
    and_from (q x) _ parts.0 (app_all q xs ys parts.1 k)

app_count : {X : Type 0} (q : X → Bool) (xs ys : List X)
    → length (filter q (xs ++ ys)) ≡ length (filter q xs) + length (filter q ys)
app_count q [] ys = omega arith
app_count q (x ∷ xs) ys =
    by_bool (q x) (λ b. length (cond b (x ∷ filter q (xs ++ ys)) (filter q (xs ++ ys)))
    ≡ length (cond b (x ∷ filter q xs) (filter q xs)) + length (filter q ys))
    (λ _. let rest = app_count q xs ys in omega (arith, rest)) (λ _. app_count q xs ys)

app_pools : (xs ys : List (Speech × SharedPool)) → pools_in (xs ++ ys) ≡ pools_in xs ++ pools_in ys
app_pools [] ys = refl
app_pools (x ∷ xs) ys = ap (λ zs. x.1 ∷ zs) (app_pools xs ys)

pub app_speeches : (xs ys : List (Speech × SharedPool))
    → speeches_in (xs ++ ys) ≡ speeches_in xs ++ speeches_in ys
app_speeches [] ys = refl
app_speeches (x ∷ xs) ys =
    ap (λ zs. replicate x.1.berths x.0 ++ zs) (app_speeches xs ys)
    ∙ sym (append_assoc (replicate x.1.berths x.0) (speeches_in xs) (speeches_in ys))

abbrev one_for : Bool → ℕ
one_for b = cond b 1 0

one_pool : (s : Speech) (gs : List ℕ) (n g : ℕ)
    → length (filter (λ pool. p.has_group pool g) (pools_in (pool_if s gs n))) ≡ one_for (stands g gs)
one_pool s [] n g = refl
one_pool s (k ∷ ks) n g =
    let pool : SharedPool = record { groups = k ∷ ks; berths = n } in
    by_bool (stands g (k ∷ ks)) (λ b. length (cond b (pool ∷ []) []) ≡ one_for b)
    (λ _. refl) (λ _. refl)

named_pool : (s : Speech) (gs : List ℕ) (n m : ℕ) → list_all (λ g. nat_lt g m) gs ≡ true
    → list_all (λ (pool : SharedPool). list_all (λ g. nat_lt g m) pool.groups)
    (pools_in (pool_if s gs n)) ≡ true
named_pool s [] n m h = refl
named_pool s (k ∷ ks) n m h = rw h refl

few_berths : (s : Speech) (gs : List ℕ) (n : ℕ)
    → sum_by (λ (pool : SharedPool). pool.berths) (pools_in (pool_if s gs n)) ≤ n
few_berths s [] n = omega arith
few_berths s (k ∷ ks) n = omega arith

-- ---- the pools of executors

abbrev runs_jobs : Group → Bool
runs_jobs x = is_remote x.kind

abbrev has : ℕ → SharedPool → Bool
has g pool = p.has_group pool g

abbrev own_pool : ℕ → Group → Speech × SharedPool
own_pool g x = (speech.Remote, record { groups = g ∷ []; berths = x.berths })

none_before : (xs : List Group) (a g : ℕ) → g < a
    → length (filter (has g) (pools_in (executors_from a xs))) ≡ 0
none_before [] a g lt = refl
none_before (x ∷ xs) a g lt =
    let rest = none_before xs (suc a) g (omega (arith, lt)) in
    by_bool (runs_jobs x)
    (λ b. length (filter (has g) (pools_in (cond b (own_pool a x ∷ executors_from (suc a) xs)
    (executors_from (suc a) xs)))) ≡ 0)
    (λ _. rw (eq_less g a lt) rest)
    (λ _. rest)

abbrev pub is_job : Option Group → Bool
is_job o = unwrap_or (option_map runs_jobs o) false

once_at : (xs : List Group) (a i : ℕ)
    → length (filter (has (a + i)) (pools_in (executors_from a xs))) ≡ one_for (is_job (slice_get xs i))
once_at [] a i = refl
once_at (x ∷ xs) a zero =
    let e : a + 0 ≡ a = omega arith in
    let none = none_before xs (suc a) a (omega arith) in
    subst (λ g. length (filter (has g) (pools_in (executors_from a (x ∷ xs)))) ≡ one_for (runs_jobs x)) (sym e)
    (by_bool (runs_jobs x)
    (λ b. length (filter (has a) (pools_in (cond b (own_pool a x ∷ executors_from (suc a) xs)
    (executors_from (suc a) xs)))) ≡ one_for b)
    (λ _. rw (eq_self a) (omega (arith, none)))
    (λ _. none))
once_at (x ∷ xs) a (suc i) =
    let e : suc a + i ≡ a + suc i = omega arith in
    let rest = subst (λ g. length (filter (has g) (pools_in (executors_from (suc a) xs)))
    ≡ one_for (is_job (slice_get xs i))) e (once_at xs (suc a) i) in
    by_bool (runs_jobs x)
    (λ b. length (filter (has (a + suc i)) (pools_in (cond b (own_pool a x ∷ executors_from (suc a) xs)
    (executors_from (suc a) xs)))) ≡ one_for (is_job (slice_get xs i)))
    (λ _. rw (eq_more a (a + suc i) (omega arith)) rest)
    (λ _. rest)

few_executors : (xs : List Group) (a : ℕ)
    → sum_by (λ (pool : SharedPool). pool.berths) (pools_in (executors_from a xs))
    ≤ sum_by (λ (x : Group). x.berths) xs
few_executors [] a = omega arith
few_executors (x ∷ xs) a =
    let rest = few_executors xs (suc a) in
    let sum = sum_by-cons (λ (y : Group). y.berths) x xs in
    let pools = pools_in (executors_from (suc a) xs) in
    let more = sum_by-cons (λ (pool : SharedPool). pool.berths) (own_pool a x).1 pools in
    by_bool (runs_jobs x)
    (λ b. sum_by (λ (pool : SharedPool). pool.berths)
    (pools_in (cond b (own_pool a x ∷ executors_from (suc a) xs) (executors_from (suc a) xs)))
    ≤ sum_by (λ (y : Group). y.berths) (x ∷ xs))
    (λ _. omega (arith, rest, sum, more))
    (λ _. omega (arith, rest, sum))

executors_named : (xs : List Group) (a n : ℕ) → a + length xs ≤ n
    → list_all (λ (pool : SharedPool). list_all (λ g. nat_lt g n) pool.groups)
    (pools_in (executors_from a xs)) ≡ true
executors_named [] a n le = refl
executors_named (x ∷ xs) a n le =
    let rest = executors_named xs (suc a) n (omega (arith, le)) in
    by_bool (runs_jobs x)
    (λ b. list_all (λ (pool : SharedPool). list_all (λ g. nat_lt g n) pool.groups)
    (pools_in (cond b (own_pool a x ∷ executors_from (suc a) xs) (executors_from (suc a) xs))) ≡ true)
    (λ _. rw (lt-ltb a n (omega (arith, le))) rest)
    (λ _. rest)

-- ---- pools of parts, which speak as the executor's exactly where their group is one

-- a group of executors has a berth
abbrev pub is_berthed : Group → Bool
is_berthed x = not (is_remote x.kind) || nat_lt 0 x.berths

pub record AreParts (q : SharedPlan) (groups : List Group) (parts : List GroupPart) : Type 0 where
  pub as_many : length parts ≡ length q.plan.groups
  pub as_drawn : length groups ≡ length q.plan.groups
  pub fit : (g : ℕ) (x : GroupPart) → slice_get parts g ≡ Some x
      → p.is_of_executor q g ≡ speaks_remote x.speech
  pub kinds : (g : ℕ) (x : Group) → slice_get groups g ≡ Some x
      → p.is_of_executor q g ≡ is_remote x.kind
  pub berthed : list_all is_berthed groups ≡ true

-- what holds of each pool with its speech
pub record IsPool (q : SharedPlan) (x : Speech × SharedPool) : Type 0 where
  pub apart : p.is_apart q x.1 ≡ true
  pub remote : p.has_executor q x.1 ≡ speaks_remote x.0
  pub some : 1 ≤ x.1.berths

abbrev pub ArePools : SharedPlan → List (Speech × SharedPool) → Type 0
ArePools q [] = Unit {0}
ArePools q (x ∷ xs) = IsPool q x × ArePools q xs

app_are : (q : SharedPlan) (xs ys : List (Speech × SharedPool)) → ArePools q xs → ArePools q ys
    → ArePools q (xs ++ ys)
app_are q [] ys h k = k
app_are q (x ∷ xs) ys h k = (h.0, app_are q xs ys h.1 k)

same_remote : (s t : Speech) → is_same s t ≡ true → speaks_remote s ≡ speaks_remote t
same_remote speech.Proto speech.Proto h = refl
same_remote speech.Json speech.Json h = refl
same_remote speech.Remote speech.Remote h = refl
same_remote speech.Proto speech.Json h = absurd (cc)
same_remote speech.Proto speech.Remote h = absurd (cc)
same_remote speech.Json speech.Proto h = absurd (cc)
same_remote speech.Json speech.Remote h = absurd (cc)
same_remote speech.Remote speech.Proto h = absurd (cc)
same_remote speech.Remote speech.Json h = absurd (cc)

or_true : (b : Bool) → (not b || true) ≡ true
or_true true = refl
or_true false = refl

module _ (q : SharedPlan) (groups : List Group) (parts : List GroupPart) (are : AreParts q groups parts) where
  passes : (s : Speech) (v : Bool) → speaks_remote s ≡ v → (i : ℕ) (x : GroupPart)
      → slice_get parts i ≡ Some x → is_same x.speech s ≡ true → p.is_of_executor q (0 + i) ≡ v
  passes s v is i x at same =
      let e : 0 + i ≡ i = omega arith in
      ap (p.is_of_executor q) e ∙ are.fit i x at ∙ same_remote x.speech s same ∙ is

  one_is : (s : Speech) (n : ℕ) → 1 ≤ n → (gs : List ℕ) → speaking_from s 0 parts ≡ gs
      → ArePools q (pool_if s gs n)
  one_is s n some [] e = tt
  one_is s n some (g ∷ gs) e = by (speaks_remote s) refl
    where
      by : (v : Bool) → speaks_remote s ≡ v → ArePools q (pool_if s (g ∷ gs) n)
      by true is =
          let all : list_all (p.is_of_executor q) (g ∷ gs) ≡ true =
          subst (λ ks. list_all (p.is_of_executor q) ks ≡ true) e
          (all_pass s (p.is_of_executor q) parts 0 (passes s true is)) in
          let here = (and_parts (p.is_of_executor q g) (list_all (p.is_of_executor q) gs) all).0 in (
            record {
              apart = rw all (or_true (p.has_executor q (record { groups = g ∷ gs; berths = n })));
              remote = rw (here, is) refl;
              some = some;
            },
            tt,
          )
      by false is =
          let none : list_any (p.is_of_executor q) (g ∷ gs) ≡ false =
          subst (λ ks. list_any (p.is_of_executor q) ks ≡ false) e
          (none_pass s (p.is_of_executor q) parts 0 (passes s false is)) in (
            record {
              apart = rw none refl;
              remote = none ∙ sym is;
              some = some;
            },
            tt,
          )

  -- an executor's group is a pool of its own
  one_executor : (x : Group) (xs : List Group) (a : ℕ) → p.is_of_executor q a ≡ is_remote x.kind
      → is_berthed x ≡ true → ArePools q (executors_from (suc a) xs)
      → ArePools q (executors_from a (x ∷ xs))
  one_executor x xs a here berthed rest = by (is_remote x.kind) refl
    where
      by : (b : Bool) → is_remote x.kind ≡ b → ArePools q
          (cond b (own_pool a x ∷ executors_from (suc a) xs) (executors_from (suc a) xs))
      by true e =
          let is : p.is_of_executor q a ≡ true = here ∙ e in
          let some : nat_lt 0 x.berths ≡ true =
          ap (λ b. not b || nat_lt 0 x.berths) (sym e) ∙ berthed in
          let berth = ltb-true 0 x.berths some in (
            record {
              apart = rw is refl;
              remote = rw is refl;
              some = omega (arith, berth);
            },
            rest,
          )
      by false e = rest

  each_executor : (xs : List Group) (a : ℕ)
      → ((i : ℕ) (x : Group) → slice_get xs i ≡ Some x
      → p.is_of_executor q (a + i) ≡ is_remote x.kind)
      → list_all is_berthed xs ≡ true → ArePools q (executors_from a xs)
  each_executor [] a kinds berthed = tt
  each_executor (x ∷ xs) a kinds berthed =
      let each = and_parts (is_berthed x) (list_all is_berthed xs) berthed in
      let same : a ≡ a + 0 = omega arith in
      one_executor x xs a (ap (p.is_of_executor q) same ∙ kinds 0 x refl) each.0
      (each_executor xs (suc a) (λ i y at. let e : suc a + i ≡ a + suc i = omega arith in
      ap (p.is_of_executor q) e ∙ kinds (suc i) y at) each.1)

  module _ (workers : ℕ) (some : 1 ≤ workers) where
    pub are_pools : ArePools q (spoken_pools groups parts workers)
    are_pools =
        app_are q (pool_of speech.Proto parts workers) _
        (one_is speech.Proto workers some (speaking_from speech.Proto 0 parts) refl)
        (app_are q (pool_of speech.Json parts workers) _
        (one_is speech.Json workers some (speaking_from speech.Json 0 parts) refl)
        (each_executor groups 0 (λ i x at.
        let e : 0 + i ≡ i = omega arith in ap (p.is_of_executor q) e ∙ are.kinds i x at) are.berthed))

-- ---- what is spoken at each berth

-- there are as many speeches as berths
as_many : (xs : List (Speech × SharedPool))
    → length (speeches_in xs) ≡ sum_by (λ (pool : SharedPool). pool.berths) (pools_in xs)
as_many [] = refl
as_many (x ∷ xs) =
    length-append (replicate x.1.berths x.0) (speeches_in xs)
    ∙ (let own = length-replicate x.1.berths x.0 in
    let rest = as_many xs in
    let sum = sum_by-cons (λ (pool : SharedPool). pool.berths) x.1 (pools_in xs) in
    omega (arith, own, rest, sum))

-- each is that of the berth's pool
spoken_at : (q : SharedPlan) (xs : List (Speech × SharedPool)) → ArePools q xs → (w : ℕ)
    (s : Speech) → slice_get (speeches_in xs) w ≡ Some s
    → speaks_remote s ≡ unwrap_or (option_map (p.has_executor q) (p.pool_from (pools_in xs) w)) false
spoken_at q [] are w s at = absurd (cc)
spoken_at q (x ∷ xs) are w s at =
    by_bool (nat_lt w x.1.berths) (λ b. nat_lt w x.1.berths ≡ b → speaks_remote s
    ≡ unwrap_or (option_map (p.has_executor q)
    (cond b (Some x.1) (p.pool_from (pools_in xs) (w - x.1.berths)))) false)
    (λ _ yes. let lt = ltb-true w x.1.berths yes in
    let here = get_front x.1.berths w x.0 (speeches_in xs) lt in
    let same : x.0 ≡ s = (let z = sym here ∙ at in cc) in
    ap speaks_remote (sym same) ∙ sym are.0.remote)
    (λ _ no. let le = ltb-false w x.1.berths no in
    let behind = get_behind x.1.berths w (w - x.1.berths) x.0 (speeches_in xs) (omega (arith, le)) in
    spoken_at q xs are.1 (w - x.1.berths) s (sym behind ∙ at)) refl

all_apart : (q : SharedPlan) (xs : List (Speech × SharedPool)) → ArePools q xs
    → list_all (p.is_apart q) (pools_in xs) ≡ true
all_apart q [] are = refl
all_apart q (x ∷ xs) are = and_from (p.is_apart q x.1) _ are.0.apart (all_apart q xs are.1)

-- without berths there is no pool
none_empty : (q : SharedPlan) (xs : List (Speech × SharedPool)) → ArePools q xs
    → sum_by (λ (pool : SharedPool). pool.berths) (pools_in xs) ≡ 0 → xs ≡ []
none_empty q [] are zero_is = refl
none_empty q (x ∷ xs) are zero_is =
    absurd (let sum = sum_by-cons (λ (pool : SharedPool). pool.berths) x.1 (pools_in xs) in
    let some = are.0.some in omega (arith, sum, some, zero_is))

-- ---- all of it

says_once : (s : Speech) → one_for (is_same s speech.Proto) + (one_for (is_same s speech.Json)
    + one_for (speaks_remote s)) ≡ 1
says_once speech.Proto = refl
says_once speech.Json = refl
says_once speech.Remote = refl

-- pools made of the parts of a plan's groups, which had these berths
pub record ArePartsPools (q : SharedPlan) (groups : List Group) (parts : List GroupPart)
    (workers : ℕ) : Type 0 where
  pub fitting : AreParts q groups parts
  pub pools : q.pools ≡ pools_in (spoken_pools groups parts workers)
  pub some : 1 ≤ workers
  pub most : workers ≤ 24
  pub few : sum_by (λ (x : Group). x.berths) groups ≤ 16

module _ (q : SharedPlan) (groups : List Group) (parts : List GroupPart) (workers : ℕ)
    (m : ArePartsPools q groups parts workers) where
  abbrev all : List (Speech × SharedPool)
  all = spoken_pools groups parts workers

  abbrev proto : List (Speech × SharedPool)
  proto = pool_of speech.Proto parts workers

  abbrev json : List (Speech × SharedPool)
  json = pool_of speech.Json parts workers

  abbrev remote : List (Speech × SharedPool)
  remote = executors_from 0 groups

  are : ArePools q all
  are = are_pools q groups parts m.fitting workers m.some

  split : pools_in all ≡ pools_in proto ++ (pools_in json ++ pools_in remote)
  split = app_pools proto (json ++ remote) ∙ ap (λ zs. pools_in proto ++ zs) (app_pools json remote)

  berths_are : p.seats q ≤ 64
  berths_are =
      let sum : List SharedPool → ℕ = sum_by (λ (pool : SharedPool). pool.berths) in
      let one = sum_by-append (λ (pool : SharedPool). pool.berths) (pools_in proto)
      (pools_in json ++ pools_in remote) in
      let two = sum_by-append (λ (pool : SharedPool). pool.berths) (pools_in json) (pools_in remote) in
      let a = few_berths speech.Proto (speaking_from speech.Proto 0 parts) workers in
      let b = few_berths speech.Json (speaking_from speech.Json 0 parts) workers in
      let c = few_executors groups 0 in
      let whole : p.seats q ≡ sum (pools_in proto ++ (pools_in json ++ pools_in remote)) =
      ap sum (m.pools ∙ split) in
      let most = m.most in
      let few = m.few in
      omega (arith, one, two, a, b, c, whole, most, few)

  named_one : (s : Speech) → list_all
      (λ (pool : SharedPool). list_all (λ g. nat_lt g (length q.plan.groups)) pool.groups)
      (pools_in (pool_of s parts workers)) ≡ true
  named_one s = named_pool s (speaking_from s 0 parts) workers (length q.plan.groups)
      (named_in s parts 0 (length q.plan.groups) (let e = m.fitting.as_many in omega (arith, e)))

  once_one : (s : Speech) (g : ℕ)
      → length (filter (λ pool. p.has_group pool g) (pools_in (pool_of s parts workers)))
      ≡ one_for (says s (slice_get parts g))
  once_one s g =
      let e : g ≡ 0 + g = omega arith in
      one_pool s (speaking_from s 0 parts) workers g
      ∙ ap (λ k. one_for (stands k (speaking_from s 0 parts))) e
      ∙ ap one_for (stands_at s parts 0 g)

  once_job : (g : ℕ) → length (filter (λ pool. p.has_group pool g) (pools_in remote))
      ≡ one_for (is_job (slice_get groups g))
  once_job g =
      let e : g ≡ 0 + g = omega arith in
      ap (λ k. length (filter (λ pool. p.has_group pool k) (pools_in remote))) e ∙ once_at groups 0 g

  there : {X : Type 0} (xs : List X) (i : ℕ) → i < length xs → (x : X) × (slice_get xs i ≡ Some x)
  there [] i lt = absurd (omega (arith, lt))
  there (x ∷ xs) zero lt = (x, refl)
  there (x ∷ xs) (suc i) lt = there xs i (omega (arith, lt))

  -- a group is of one pool: of its part's speech, or an executor's
  by_part : (g : ℕ) → g < length q.plan.groups
      → one_for (says speech.Proto (slice_get parts g))
      + (one_for (says speech.Json (slice_get parts g)) + one_for (is_job (slice_get groups g))) ≡ 1
  by_part g lt =
      let part = there parts g (let e = m.fitting.as_many in omega (arith, lt, e)) in
      let group = there groups g (let e = m.fitting.as_drawn in omega (arith, lt, e)) in
      let same : is_remote group.0.kind ≡ speaks_remote part.0.speech =
      sym (m.fitting.kinds g group.0 group.1) ∙ m.fitting.fit g part.0 part.1 in
      let jobs : is_job (slice_get groups g) ≡ speaks_remote part.0.speech = ap is_job group.1 ∙ same in
      ap (λ o. one_for (says speech.Proto o)
      + (one_for (says speech.Json o) + one_for (is_job (slice_get groups g)))) part.1
      ∙ ap (λ b. one_for (is_same part.0.speech speech.Proto)
      + (one_for (is_same part.0.speech speech.Json) + one_for b)) jobs
      ∙ says_once part.0.speech

  once_are : (g : ℕ) → g < length q.plan.groups
      → length (filter (λ pool. p.has_group pool g) q.pools) ≡ 1
  once_are g lt =
      let f : SharedPool → Bool = λ pool. p.has_group pool g in
      ap (λ zs. length (filter f zs)) (m.pools ∙ split)
      ∙ app_count f (pools_in proto) (pools_in json ++ pools_in remote)
      ∙ (let a = once_one speech.Proto g in
      let b = once_one speech.Json g in
      let c = once_job g in
      let rest = app_count f (pools_in json) (pools_in remote) in
      let whole = by_part g lt in
      omega (arith, a, b, c, rest, whole))

  pub sound_pools : p.SoundPools q
  sound_pools = record {
    berths = berths_are;
    named = subst (λ pools. list_all
        (λ (pool : SharedPool). list_all (λ g. nat_lt g (length q.plan.groups)) pool.groups) pools
        ≡ true) (sym (m.pools ∙ split))
        (app_all _ (pools_in proto) (pools_in json ++ pools_in remote)
        (named_one speech.Proto)
        (app_all _ (pools_in json) (pools_in remote) (named_one speech.Json)
        (executors_named groups 0 (length q.plan.groups)
        (let e = m.fitting.as_drawn in omega (arith, e)))));
    once = once_are;
    apart = subst (λ pools. list_all (p.is_apart q) pools ≡ true) (sym m.pools)
        (all_apart q all are);
  }

  pub as_many_speeches : length (speeches_in all) ≡ p.seats q
  as_many_speeches =
      as_many all ∙ ap (sum_by (λ (pool : SharedPool). pool.berths)) (sym m.pools)

  pub speeches_fit : (w : ℕ) (s : Speech) → slice_get (speeches_in all) w ≡ Some s
      → speaks_remote s ≡ p.is_remote_berth q w
  speeches_fit w s at = spoken_at q all are w s at
      ∙ ap (λ pools. unwrap_or (option_map (p.has_executor q) (p.pool_from pools w)) false)
      (sym m.pools)

  -- without berths there are no groups
  pub no_groups : p.seats q ≡ 0 → q.plan.groups ≡ []
  no_groups zero_is =
      let none = none_empty q all are
      (ap (sum_by (λ (pool : SharedPool). pool.berths)) (sym m.pools) ∙ zero_is) in
      let no_pools : q.pools ≡ [] = m.pools ∙ ap pools_in none in
      by q.plan.groups (λ lt. let one = once_are 0 lt in
      let z : length (filter (λ pool. p.has_group pool 0) q.pools) ≡ 0 =
      ap (λ pools. length (filter (λ pool. p.has_group pool 0) pools)) no_pools in
      omega (arith, one, z))
    where
      by : {X : Type 0} (xs : List X) → (0 < length xs → ⊥) → xs ≡ []
      by [] none = refl
      by (x ∷ xs) none = absurd (none (omega arith))
