-- At most one verdict is due.
use Rattle.std.proofs.Common.{◌≡◌, ℕ, zero, suc, ◌<◌, ◌≤◌, ltb, Bool, true, false, List, [], ◌∷◌, ◌++◌, length, reverse, take, Option, Some, None, Result, Ok, Err, refl, sym, ap, subst, ◌∙◌, arith, append_assoc}
use Rattle.std.specs.Prelude.{IfOk, slice_get}
use Rattle.std.proofs.lemmas.Bool.{ltb-false, ltb-true}
use Rattle.std.proofs.lemmas.List.{reverse-append}
use Rattle.exec_journal.specs.Entry.{Entry}
use Rattle.journal_text.specs.Lines.{entry_of, lines_of}
use Rattle.journal_text.specs.Options.{each}
use Rattle.journal_replay.specs.Legality.{Rulebook}
use Rattle.journal_replay.specs.Beyond.{entry_beyond_in}
use Rattle.journal_replay.specs.Spelled.{Spells, bad_entry, bad_line}
use Rattle.journal_replay.specs.Verdicts.{FirstIllegal, HasFault, IsBadPlan, IsYes, JudgesBy, Says}
use Rattle.journal_replay.specs.declared.verdict.Verdict.{Verdict}
use Rattle.journal_replay.specs.declared.verdict.Verdict.TheVariants as verdict
use Rattle.journal_replay.proofs.Steps.{first_each}

-- ---- what lines spell

pub spells_once : {B : Type 0} (spelled : List ℕ → Option B) (ls : List (List ℕ)) (p q : B) (j k : List Entry) → Spells spelled ls p j → Spells spelled ls q k → (p ≡ q) × (j ≡ k)
spells_once spelled ls p q j k s t =
    let same : s.top ∷ s.rest ≡ t.top ∷ t.rest = sym s.lines_are ∙ t.lines_are in
    let top : s.top ≡ t.top = cc in
    let rest : s.rest ≡ t.rest = cc in
    let plans : Some p ≡ Some q = sym s.basis ∙ ap spelled top ∙ t.basis in
    let journals : Some j ≡ Some k = sym s.entries ∙ ap (each entry_of) rest ∙ t.entries in
    (cc, cc)

no_bad_entry : (n : ℕ) (ls : List (List ℕ)) (j : List Entry) → each entry_of ls ≡ Some j → bad_entry n ls ≡ None
no_bad_entry n [] j h = refl
no_bad_entry n (l ∷ ls) j h =
    let (v, zs, p, q, r) = first_each entry_of l ls j h in
    rw p (no_bad_entry (suc n) ls zs q)

pub not_bad : {B : Type 0} (spelled : List ℕ → Option B) (ls : List (List ℕ)) (p : B) (j : List Entry) (k : ℕ) → Spells spelled ls p j → bad_line spelled ls ≡ Some k → ⊥
not_bad spelled ls p j k s bad =
    let none : bad_line spelled (s.top ∷ s.rest) ≡ None = rw s.basis (no_bad_entry 2 s.rest j s.entries) in
    let both : None ≡ Some k = sym none ∙ ap (bad_line spelled) (sym s.lines_are) ∙ bad in
    cc

-- ---- fronts of a legal journal

legal_tail : {B : Type 0} (rules : Rulebook B) (fronts : (p : B) (e : Entry) (j : List Entry) → rules.makes p (e ∷ j) → rules.makes p j) (p : B) (xs ys : List Entry) → rules.makes p (xs ++ ys) → rules.makes p ys
legal_tail rules fronts p [] ys legal = legal
legal_tail rules fronts p (x ∷ xs) ys legal = legal_tail rules fronts p xs ys (fronts p x (xs ++ ys) legal)

split_there : (j : List Entry) (i : ℕ) (e : Entry) → slice_get j i ≡ Some e → (rest : List Entry) × (j ≡ take i j ++ e ∷ rest)
split_there [] i e h = absurd (cc)
split_there (x ∷ j) zero e h = (j, let is : x ≡ e = cc in ap (λ (w : Entry). w ∷ j) is)
split_there (x ∷ j) (suc i) e h = let (rest, is) = split_there j i e h in (rest, ap (λ (w : List Entry). x ∷ w) is)

legal_until : {B : Type 0} (rules : Rulebook B) (fronts : (p : B) (e : Entry) (j : List Entry) → rules.makes p (e ∷ j) → rules.makes p j) (p : B) (j : List Entry) (i : ℕ) (e : Entry) → rules.makes p (reverse j) → slice_get j i ≡ Some e → rules.makes p (e ∷ reverse (take i j))
legal_until rules fronts p j i e legal there =
    let (rest, is) = split_there j i e there in
    let parts : reverse j ≡ reverse rest ++ (e ∷ reverse (take i j)) =
    ap reverse is ∙ reverse-append (take i j) (e ∷ rest) ∙ ap (λ (w : List Entry). w ++ reverse (take i j)) (reverse-append (e ∷ []) rest)
    ∙ append_assoc (reverse rest) (e ∷ []) (reverse (take i j)) in
    legal_tail rules fronts p (reverse rest) (e ∷ reverse (take i j)) (subst (rules.makes p) parts legal)

nothing : (k : ℕ) → let none : List Entry = [] in take k none ≡ none
nothing zero = refl
nothing (suc k) = refl

there_in_front : (j : List Entry) (i k : ℕ) → i < k → slice_get (take k j) i ≡ slice_get j i
there_in_front [] i k l = ap (λ (w : List Entry). slice_get w i) (nothing k)
there_in_front (x ∷ j) i zero l = absurd (omega arith)
there_in_front (x ∷ j) zero (suc k) l = refl
there_in_front (x ∷ j) (suc i) (suc k) l = there_in_front j i k (omega arith)

front_of_front : (j : List Entry) (i k : ℕ) → i ≤ k → take i (take k j) ≡ take i j
front_of_front [] i k l = ap (take i) (nothing k)
front_of_front (x ∷ j) zero k l = refl
front_of_front (x ∷ j) (suc i) zero l = absurd (omega arith)
front_of_front (x ∷ j) (suc i) (suc k) l = ap (λ (w : List Entry). x ∷ w) (front_of_front j i k (omega arith))

not_before : {B : Type 0} (rules : Rulebook B) (fronts : (p : B) (e : Entry) (j : List Entry) → rules.makes p (e ∷ j) → rules.makes p j) (p : B) (j : List Entry) (i k : ℕ) (e f : Entry) → FirstIllegal rules.makes p j i e → FirstIllegal rules.makes p j k f → i < k → ⊥
not_before rules fronts p j i k e f x y l =
    let legal = legal_until rules fronts p (take k j) i e y.before (there_in_front j i k l ∙ x.there) in
    x.with_it (subst (λ (w : List Entry). rules.makes p (e ∷ reverse w)) (front_of_front j i k (omega arith)) legal)

same_place : {B : Type 0} (rules : Rulebook B) (fronts : (p : B) (e : Entry) (j : List Entry) → rules.makes p (e ∷ j) → rules.makes p j) (p : B) (j : List Entry) (i k : ℕ) (e f : Entry) → FirstIllegal rules.makes p j i e → FirstIllegal rules.makes p j k f → i ≡ k
same_place rules fronts p j i k e f x y =
    elim (ltb i k) as (λ b. ltb i k ≡ b → i ≡ k) [
      | true ↦ (λ h. absurd (not_before rules fronts p j i k e f x y (ltb-true _ _ h)))
      | false ↦ (λ h. elim (ltb k i) as (λ b. ltb k i ≡ b → i ≡ k) [
        | true ↦ (λ g. absurd (not_before rules fronts p j k i f e y x (ltb-true _ _ g)))
        | false ↦ (λ g. let a : k ≤ i = ltb-false _ _ h in let b : i ≤ k = ltb-false _ _ g in omega arith)
      ] refl)
    ] refl

-- ---- verdicts

same_fault : {B : Type 0} (rules : Rulebook B) (fronts : (p : B) (e : Entry) (j : List Entry) → rules.makes p (e ∷ j) → rules.makes p j) (ls : List (List ℕ)) (i k : ℕ) (b c : Bool) → HasFault rules ls i b → HasFault rules ls k c → (i ≡ k) × (b ≡ c)
same_fault {B} rules fronts ls i k b c x y =
    let (plans, journals) = spells_once rules.spelled ls y.basis x.basis y.journal x.journal y.spelled x.spelled in
    let first : FirstIllegal rules.makes x.basis x.journal k y.entry = subst (λ (w : List Entry). FirstIllegal rules.makes x.basis w k y.entry) journals (subst (λ (p : B). FirstIllegal rules.makes p y.journal k y.entry) plans y.first) in
    let place : i ≡ k = same_place rules fronts x.basis x.journal i k x.entry y.entry x.first first in
    let entries : Some x.entry ≡ Some y.entry = sym x.first.there ∙ ap (slice_get x.journal) place ∙ first.there in
    let entry : x.entry ≡ y.entry = cc in
    (place, sym x.names ∙ ap (entry_beyond_in (rules.lanes x.basis) (rules.plan x.basis)) entry ∙ ap (λ (p : B). entry_beyond_in (rules.lanes p) (rules.plan p) y.entry) (sym plans) ∙ y.names)

not_wrong : {B : Type 0} (rules : Rulebook B) (fronts : (p : B) (e : Entry) (j : List Entry) → rules.makes p (e ∷ j) → rules.makes p j) (ls : List (List ℕ)) (a n i : ℕ) (b : Bool) → IsYes rules ls a n → HasFault rules ls i b → ⊥
not_wrong {B} rules fronts ls a n i b x y =
    let (plans, journals) = spells_once rules.spelled ls y.basis x.basis y.journal x.journal y.spelled x.spelled in
    let first : FirstIllegal rules.makes x.basis x.journal i y.entry = subst (λ (w : List Entry). FirstIllegal rules.makes x.basis w i y.entry) journals (subst (λ (p : B). FirstIllegal rules.makes p y.journal i y.entry) plans y.first) in
    first.with_it (legal_until rules fronts x.basis x.journal i y.entry x.legal first.there)

not_unsound : {B : Type 0} (rules : Rulebook B) (ls : List (List ℕ)) (p : B) (j : List Entry) → Spells rules.spelled ls p j → rules.sound p → IsBadPlan rules ls → ⊥
not_unsound rules ls p j s sound x = x.unsound (subst rules.sound (spells_once rules.spelled ls p x.basis j x.journal s x.spelled).0 sound)

same_yes : {B : Type 0} (rules : Rulebook B) (ls : List (List ℕ)) (a b n m : ℕ) → IsYes rules ls a n → IsYes rules ls b m → (b ≡ a) × (m ≡ n)
same_yes {B} rules ls a b n m x y =
    let (plans, journals) = spells_once rules.spelled ls y.basis x.basis y.journal x.journal y.spelled x.spelled in
    (y.actions_are ∙ ap (λ (p : B). length (rules.plan p).actions) plans ∙ sym x.actions_are, y.entries_are ∙ ap length journals ∙ sym x.entries_are)

said_once : {B : Type 0} (rules : Rulebook B) (fronts : (p : B) (e : Entry) (j : List Entry) → rules.makes p (e ∷ j) → rules.makes p j) (ls : List (List ℕ)) (v w : Verdict) → Says rules ls v → Says rules ls w → w ≡ v
said_once rules fronts ls (verdict.Yes a n) (verdict.Yes b m) x y = let (c, d) = same_yes rules ls a b n m x y in ap (λ (k : ℕ). verdict.Yes k m) c ∙ ap (verdict.Yes a) d
said_once rules fronts ls (verdict.Yes a n) verdict.TooLong x y = absurd y
said_once rules fronts ls (verdict.Yes a n) (verdict.BadLine k) x y = absurd (not_bad rules.spelled ls x.basis x.journal k x.spelled y)
said_once rules fronts ls (verdict.Yes a n) verdict.BadPlan x y = absurd (not_unsound rules ls x.basis x.journal x.spelled x.sound y)
said_once rules fronts ls (verdict.Yes a n) (verdict.OutOfPlan i) x y = absurd (not_wrong rules fronts ls a n i true x y)
said_once rules fronts ls (verdict.Yes a n) (verdict.Illegal i) x y = absurd (not_wrong rules fronts ls a n i false x y)
said_once rules fronts ls verdict.TooLong w x y = absurd x
said_once rules fronts ls (verdict.BadLine k) (verdict.Yes a n) x y = absurd (not_bad rules.spelled ls y.basis y.journal k y.spelled x)
said_once rules fronts ls (verdict.BadLine k) verdict.TooLong x y = absurd y
said_once rules fronts ls (verdict.BadLine k) (verdict.BadLine m) x y = let both : Some k ≡ Some m = sym x ∙ y in let same : m ≡ k = cc in ap verdict.BadLine same
said_once rules fronts ls (verdict.BadLine k) verdict.BadPlan x y = absurd (not_bad rules.spelled ls y.basis y.journal k y.spelled x)
said_once rules fronts ls (verdict.BadLine k) (verdict.OutOfPlan i) x y = absurd (not_bad rules.spelled ls y.basis y.journal k y.spelled x)
said_once rules fronts ls (verdict.BadLine k) (verdict.Illegal i) x y = absurd (not_bad rules.spelled ls y.basis y.journal k y.spelled x)
said_once rules fronts ls verdict.BadPlan (verdict.Yes a n) x y = absurd (not_unsound rules ls y.basis y.journal y.spelled y.sound x)
said_once rules fronts ls verdict.BadPlan verdict.TooLong x y = absurd y
said_once rules fronts ls verdict.BadPlan (verdict.BadLine k) x y = absurd (not_bad rules.spelled ls x.basis x.journal k x.spelled y)
said_once rules fronts ls verdict.BadPlan verdict.BadPlan x y = refl
said_once rules fronts ls verdict.BadPlan (verdict.OutOfPlan i) x y = absurd (not_unsound rules ls y.basis y.journal y.spelled y.sound x)
said_once rules fronts ls verdict.BadPlan (verdict.Illegal i) x y = absurd (not_unsound rules ls y.basis y.journal y.spelled y.sound x)
said_once rules fronts ls (verdict.OutOfPlan i) (verdict.Yes a n) x y = absurd (not_wrong rules fronts ls a n i true y x)
said_once rules fronts ls (verdict.OutOfPlan i) verdict.TooLong x y = absurd y
said_once rules fronts ls (verdict.OutOfPlan i) (verdict.BadLine k) x y = absurd (not_bad rules.spelled ls x.basis x.journal k x.spelled y)
said_once rules fronts ls (verdict.OutOfPlan i) verdict.BadPlan x y = absurd (not_unsound rules ls x.basis x.journal x.spelled x.sound y)
said_once rules fronts ls (verdict.OutOfPlan i) (verdict.OutOfPlan k) x y = ap verdict.OutOfPlan (sym (same_fault rules fronts ls i k true true x y).0)
said_once rules fronts ls (verdict.OutOfPlan i) (verdict.Illegal k) x y = absurd (let kinds = (same_fault rules fronts ls i k true false x y).1 in cc)
said_once rules fronts ls (verdict.Illegal i) (verdict.Yes a n) x y = absurd (not_wrong rules fronts ls a n i false y x)
said_once rules fronts ls (verdict.Illegal i) verdict.TooLong x y = absurd y
said_once rules fronts ls (verdict.Illegal i) (verdict.BadLine k) x y = absurd (not_bad rules.spelled ls x.basis x.journal k x.spelled y)
said_once rules fronts ls (verdict.Illegal i) verdict.BadPlan x y = absurd (not_unsound rules ls x.basis x.journal x.spelled x.sound y)
said_once rules fronts ls (verdict.Illegal i) (verdict.OutOfPlan k) x y = absurd (let kinds = (same_fault rules fronts ls i k false true x y).1 in cc)
said_once rules fronts ls (verdict.Illegal i) (verdict.Illegal k) x y = ap verdict.Illegal (sym (same_fault rules fronts ls i k false false x y).0)

is_long : {B : Type 0} (rules : Rulebook B) (bytes : List ℕ) (w : Verdict) → 268435456 < length bytes → JudgesBy rules bytes w → w ≡ verdict.TooLong
is_long rules bytes (verdict.Yes a n) l y = absurd (let s = y.0 in omega (arith, s))
is_long rules bytes verdict.TooLong l y = refl
is_long rules bytes (verdict.BadLine k) l y = absurd (let s = y.0 in omega (arith, s))
is_long rules bytes verdict.BadPlan l y = absurd (let s = y.0 in omega (arith, s))
is_long rules bytes (verdict.OutOfPlan i) l y = absurd (let s = y.0 in omega (arith, s))
is_long rules bytes (verdict.Illegal i) l y = absurd (let s = y.0 in omega (arith, s))

said : {B : Type 0} (rules : Rulebook B) (fronts : (p : B) (e : Entry) (j : List Entry) → rules.makes p (e ∷ j) → rules.makes p j) (bytes : List ℕ) (v w : Verdict) → length bytes ≤ 268435456 → Says rules (lines_of bytes) v → JudgesBy rules bytes w → w ≡ v
said rules fronts bytes v (verdict.Yes a n) few x y = said_once rules fronts (lines_of bytes) v (verdict.Yes a n) x y.1
said rules fronts bytes v verdict.TooLong few x y = absurd (omega (arith, y))
said rules fronts bytes v (verdict.BadLine k) few x y = said_once rules fronts (lines_of bytes) v (verdict.BadLine k) x y.1
said rules fronts bytes v verdict.BadPlan few x y = said_once rules fronts (lines_of bytes) v verdict.BadPlan x y.1
said rules fronts bytes v (verdict.OutOfPlan i) few x y = said_once rules fronts (lines_of bytes) v (verdict.OutOfPlan i) x y.1
said rules fronts bytes v (verdict.Illegal i) few x y = said_once rules fronts (lines_of bytes) v (verdict.Illegal i) x y.1

pub judged_once : {B : Type 0} (rules : Rulebook B) (fronts : (p : B) (e : Entry) (j : List Entry) → rules.makes p (e ∷ j) → rules.makes p j) (bytes : List ℕ) (v w : Verdict) → JudgesBy rules bytes v → JudgesBy rules bytes w → w ≡ v
judged_once rules fronts bytes verdict.TooLong w x y = is_long rules bytes w x y
judged_once rules fronts bytes (verdict.Yes a n) w x y = said rules fronts bytes (verdict.Yes a n) w x.0 x.1 y
judged_once rules fronts bytes (verdict.BadLine k) w x y = said rules fronts bytes (verdict.BadLine k) w x.0 x.1 y
judged_once rules fronts bytes verdict.BadPlan w x y = said rules fronts bytes verdict.BadPlan w x.0 x.1 y
judged_once rules fronts bytes (verdict.OutOfPlan i) w x y = said rules fronts bytes (verdict.OutOfPlan i) w x.0 x.1 y
judged_once rules fronts bytes (verdict.Illegal i) w x y = said rules fronts bytes (verdict.Illegal i) w x.0 x.1 y

pub judge_said : {B : Type 0} (rules : Rulebook B) (bytes : List ℕ) (v : Verdict) → length bytes ≤ 268435456 → Says rules (lines_of bytes) v → JudgesBy rules bytes v
judge_said rules bytes (verdict.Yes a n) few x = (few, x)
judge_said rules bytes verdict.TooLong few x = absurd x
judge_said rules bytes (verdict.BadLine k) few x = (few, x)
judge_said rules bytes verdict.BadPlan few x = (few, x)
judge_said rules bytes (verdict.OutOfPlan i) few x = (few, x)
judge_said rules bytes (verdict.Illegal i) few x = (few, x)

-- what is answered is all that is due
pub judged_only : {B E : Type 0} (rules : Rulebook B) (fronts : (p : B) (e : Entry) (j : List Entry) → rules.makes p (e ∷ j) → rules.makes p j) (bytes : List ℕ) (r : Result Verdict E) → IfOk r (JudgesBy rules bytes) → IfOk r (λ v. (w : Verdict) → JudgesBy rules bytes w → w ≡ v)
judged_only rules fronts bytes (Ok v) judged = λ w due. judged_once rules fronts bytes v w judged due
judged_only rules fronts bytes (Err e) judged = judged
