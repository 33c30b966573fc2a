-- What one more line makes of what is known.
use Rattle.std.proofs.Common.{◌≡◌, ℕ, cond, ◌-◌, zero, suc, ◌+◌, ◌<◌, ◌^◌, min, Bool, true, false, List, [], ◌∷◌, ◌++◌, length, reverse, take, Option, Some, None, is_some, refl, sym, ap, subst, ◌∙◌, arith, length-append, ◌&&◌, leb, ltb}
use Rattle.std.proofs.lemmas.Bool.{le-leb, leb-true, lt-ltb, ltb-true}
use Rattle.run_plan.specs.Groups.{berths}
use Rattle.std.specs.Prelude.{slice_get}
use Rattle.std.proofs.lemmas.List.{reverse-append, take-append-le}
use Rattle.std.proofs.lemmas.Option.{slice_get_within}
use Rattle.std.proofs.Math.Seq.{take-append_seam}
use Rattle.run_plan.specs.declared.plan.Plan.{Plan}
use Rattle.run_plan.specs.Sound.{Sound}
use Rattle.exec_journal.specs.Entry.{Entry}
use Rattle.exec_journal.specs.declared.reply.Reply.{Reply}
use Rattle.exec_journal.specs.Entries.{is_kept}
use Rattle.exec_journal.specs.Legal.{after}
use Rattle.journal_text.specs.Lines.{entry_of}
use Rattle.journal_text.specs.Options.{◌>>=◌, each}
use Rattle.journal_replay.specs.Legality.{Rulebook, joined}
use Rattle.journal_replay.specs.Beyond.{entry_beyond_by, line_bound}
use Rattle.journal_replay.specs.Bounds.{AreBounds}
use Rattle.journal_replay.specs.Plans.{are_sound_groups, has_limits, is_sound}
use Rattle.journal_replay.specs.declared.beyond.Bounds.{Bounds}
use Rattle.journal_replay.specs.Knows.{IsBad, SpellsUnsound}
use Rattle.journal_replay.specs.Same.{is_told}
use Rattle.journal_replay.specs.Spelled.{Spells, bad_entry, bad_line}
use Rattle.journal_replay.specs.Verdicts.{FirstIllegal, HasFault, IsBadPlan}
use Rattle.journal_replay.proofs.Told.{kept_told, told_is}

-- ---- lines

pub first_each : {A B : Type 0} (f : A → Option B) (x : A) (xs : List A) (ys : List B) → each f (x ∷ xs) ≡ Some ys → (y : B) × (zs : List B) × (f x ≡ Some y) × (each f xs ≡ Some zs) × (ys ≡ y ∷ zs)
first_each {A} {B} f x xs ys h =
    elim (f x) as (λ o. f x ≡ o → (o >>= λ y. (each f xs >>= λ zs. Some (y ∷ zs))) ≡ Some ys → (y : B) × (zs : List B) × (f x ≡ Some y) × (each f xs ≡ Some zs) × (ys ≡ y ∷ zs)) [
      | None ↦ (λ p q. absurd (cc))
      | Some y ↦ (λ p q. elim (each f xs) as (λ o. each f xs ≡ o → (o >>= λ zs. Some (y ∷ zs)) ≡ Some ys → (w : B) × (zs : List B) × (f x ≡ Some w) × (each f xs ≡ Some zs) × (ys ≡ w ∷ zs)) [
        | None ↦ (λ r s. absurd (cc))
        | Some zs ↦ (λ r s. (y, zs, p, r, cc))
      ] refl q)
    ] refl h

each_more : {A B : Type 0} (f : A → Option B) (xs : List A) (x : A) (ys : List B) (y : B) → each f xs ≡ Some ys → f x ≡ Some y → each f (xs ++ x ∷ []) ≡ Some (ys ++ y ∷ [])
each_more {A} {B} f [] x ys y h is =
    let nothing : [] ≡ ys = cc in
    ap (λ (o : Option B). o >>= λ v. Some (v ∷ [])) is ∙ ap (λ (w : List B). Some (w ++ y ∷ [])) nothing
each_more {A} {B} f (w ∷ xs) x ys y h is =
    let (v, zs, p, q, r) = first_each f w xs ys h in
    ap (λ (o : Option B). o >>= λ u. (each f (xs ++ x ∷ []) >>= λ us. Some (u ∷ us))) p
    ∙ ap (λ (o : Option (List B)). o >>= λ us. Some (v ∷ us)) (each_more f xs x zs y q is)
    ∙ ap (λ (u : List B). Some (u ++ y ∷ [])) (sym r)

-- ---- lines that spell

pub spelled_more : {B : Type 0} (spelled : List ℕ → Option B) (ls : List (List ℕ)) (p : B) (j : List Entry) (l : List ℕ) (e : Entry) → Spells spelled ls p j → entry_of l ≡ Some e → Spells spelled (ls ++ l ∷ []) p (j ++ e ∷ [])
spelled_more spelled ls p j l e s is = record {
  top = s.top;
  rest = s.rest ++ l ∷ [];
  lines_are = ap (λ (x : List (List ℕ)). x ++ l ∷ []) s.lines_are;
  basis = s.basis;
  entries = each_more entry_of s.rest l j e s.entries is;
}

bad_entry_more : (n k : ℕ) (ls : List (List ℕ)) (l : List ℕ) → bad_entry n ls ≡ Some k → bad_entry n (ls ++ l ∷ []) ≡ Some k
bad_entry_more n k [] l h = absurd (cc)
bad_entry_more n k (w ∷ ls) l h =
    elim (is_some (entry_of w)) as (λ b. cond b (bad_entry (suc n) ls) (Some n) ≡ Some k → cond b (bad_entry (suc n) (ls ++ l ∷ [])) (Some n) ≡ Some k) [
      | true ↦ (λ g. bad_entry_more (suc n) k ls l g)
      | false ↦ (λ g. g)
    ] h

pub bad_more : {B : Type 0} (spelled : List ℕ → Option B) (ls : List (List ℕ)) (k : ℕ) (l : List ℕ) → IsBad spelled ls k → IsBad spelled (ls ++ l ∷ []) k
bad_more spelled ls k l b =
    let whole : ls ++ l ∷ [] ≡ b.top ∷ (b.rest ++ l ∷ []) = ap (λ (x : List (List ℕ)). x ++ l ∷ []) b.lines_are in
    let before : bad_line spelled (b.top ∷ b.rest) ≡ Some k = ap (bad_line spelled) (sym b.lines_are) ∙ b.bad in
    let now : bad_line spelled (b.top ∷ (b.rest ++ l ∷ [])) ≡ Some k =
    elim (is_some (spelled b.top)) as (λ t. cond t (bad_entry 2 b.rest) (Some 1) ≡ Some k → cond t (bad_entry 2 (b.rest ++ l ∷ [])) (Some 1) ≡ Some k) [
      | true ↦ (λ g. bad_entry_more 2 k b.rest l g)
      | false ↦ (λ g. g)
    ] before in
    record { top = b.top; rest = b.rest ++ l ∷ []; lines_are = whole; bad = ap (bad_line spelled) whole ∙ now }

bad_entry_last : (n : ℕ) (ls : List (List ℕ)) (l : List ℕ) (j : List Entry) → each entry_of ls ≡ Some j → is_some (entry_of l) ≡ false → bad_entry n (ls ++ l ∷ []) ≡ Some (n + length ls)
bad_entry_last n [] l j h other = rw other (let same : n ≡ n + 0 = omega arith in ap Some same)
bad_entry_last n (w ∷ ls) l j h other =
    let (v, zs, p, q, r) = first_each entry_of w ls j h in
    let same : suc n + length ls ≡ n + suc (length ls) = omega arith in
    rw p (bad_entry_last (suc n) ls l zs q other ∙ ap Some same)

pub spelled_bad : {B : Type 0} (spelled : List ℕ → Option B) (ls : List (List ℕ)) (p : B) (j : List Entry) (l : List ℕ) (n : ℕ) → Spells spelled ls p j → is_some (entry_of l) ≡ false → n ≡ length ls + 1 → IsBad spelled (ls ++ l ∷ []) n
spelled_bad spelled ls p j l n s other number =
    let whole : ls ++ l ∷ [] ≡ s.top ∷ (s.rest ++ l ∷ []) = ap (λ (x : List (List ℕ)). x ++ l ∷ []) s.lines_are in
    let long : length ls ≡ suc (length s.rest) = ap length s.lines_are in
    let count : 2 + length s.rest ≡ n = omega arith in
    let now : bad_line spelled (s.top ∷ (s.rest ++ l ∷ [])) ≡ Some n = rw s.basis (bad_entry_last 2 s.rest l j s.entries other ∙ ap Some count) in
    record { top = s.top; rest = s.rest ++ l ∷ []; lines_are = whole; bad = ap (bad_line spelled) whole ∙ now }

pub is_read : {A : Type 0} (o : Option A) (b : Bool) → b ≡ is_some o → b ≡ true → (x : A) × (o ≡ Some x)
is_read None b h t = absurd (cc)
is_read (Some x) b h t = (x, refl)

-- ---- a journal with one more entry

slice_get-append : {A : Type 0} (xs ys : List A) (i : ℕ) (x : A) → slice_get xs i ≡ Some x → slice_get (xs ++ ys) i ≡ Some x
slice_get-append [] ys i x h = absurd (cc)
slice_get-append (w ∷ xs) ys zero x h = h
slice_get-append (w ∷ xs) ys (suc i) x h = slice_get-append xs ys i x h

pub slice_get-last : {A : Type 0} (xs : List A) (x : A) → slice_get (xs ++ x ∷ []) (length xs) ≡ Some x
slice_get-last [] x = refl
slice_get-last (w ∷ xs) x = slice_get-last xs x

pub newest : (j : List Entry) (e : Entry) → reverse (j ++ e ∷ []) ≡ e ∷ reverse j
newest j e = reverse-append j (e ∷ [])

fault_more : {B : Type 0} (rules : Rulebook B) (p : B) (j : List Entry) (i : ℕ) (e x : Entry) → FirstIllegal rules.makes p j i e → FirstIllegal rules.makes p (j ++ x ∷ []) i e
fault_more rules p j i e x f =
    let within : i < length j = slice_get_within j i e f.there in
    let same : take i (j ++ x ∷ []) ≡ take i j = take-append-le i j (x ∷ []) (omega arith) in
    record {
      there = slice_get-append j (x ∷ []) i e f.there;
      before = subst (λ (k : List Entry). rules.makes p (reverse k)) (sym same) f.before;
      with_it = λ legal. f.with_it (subst (λ (k : List Entry). rules.makes p (e ∷ reverse k)) same legal);
    }

pub wrong_more : {B : Type 0} (rules : Rulebook B) (ls : List (List ℕ)) (i : ℕ) (b : Bool) (l : List ℕ) (e : Entry) → HasFault rules ls i b → entry_of l ≡ Some e → HasFault rules (ls ++ l ∷ []) i b
wrong_more rules ls i b l e f is = record {
  basis = f.basis;
  journal = f.journal ++ e ∷ [];
  entry = f.entry;
  spelled = spelled_more rules.spelled ls f.basis f.journal l e f.spelled is;
  sound = f.sound;
  first = fault_more rules f.basis f.journal i f.entry e f.first;
  names = f.names;
}

pub unsound_more : {B : Type 0} (rules : Rulebook B) (ls : List (List ℕ)) (l : List ℕ) (e : Entry) → IsBadPlan rules ls → entry_of l ≡ Some e → IsBadPlan rules (ls ++ l ∷ [])
unsound_more rules ls l e f is = record {
  basis = f.basis;
  journal = f.journal ++ e ∷ [];
  spelled = spelled_more rules.spelled ls f.basis f.journal l e f.spelled is;
  unsound = f.unsound;
}

-- ---- what a core replied

-- what it told is the reply that the entry has, and is kept: the entry joins the journal
pub joins : (j : List Entry) (e : Entry) (r : Reply) → is_told e.reply r ≡ true → after j e.lane e.call r ≡ e ∷ j
joins j e r h =
    let t = told_is e.reply r h in
    let is : r ≡ e.reply = t.0 in
    let kept : is_kept r ≡ true = ap is_kept is ∙ t.1 in
    rw (kept, is) refl

-- the rules make no journal with the reply that the entry has
pub not_told : {B : Type 0} (rules : Rulebook B) (kept : (p : B) (e : Entry) (j : List Entry) → rules.makes p (e ∷ j) → is_kept e.reply ≡ true) (p : B) (j : List Entry) (e : Entry) (r : Reply) → ((x : Reply) → rules.makes p (joined j e.lane e.call x) → r ≡ x) → is_told e.reply r ≡ false → rules.makes p (e ∷ j) → ⊥
not_told rules kept p j e r only other legal =
    let told : is_told e.reply r ≡ true = ap (is_told e.reply) (only e.reply legal) ∙ kept_told e.reply (kept p e j legal) in
    let both : true ≡ false = sym told ∙ other in
    cc

each_length : {A B : Type 0} (f : A → Option B) (xs : List A) (ys : List B) → each f xs ≡ Some ys → length ys ≡ length xs
each_length {A} {B} f [] ys h = let nothing : [] ≡ ys = cc in ap length (sym nothing)
each_length f (x ∷ xs) ys h =
    let (y, zs, p, q, r) = first_each f x xs ys h in
    let long : length ys ≡ suc (length zs) = ap length r in
    let rest : length zs ≡ length xs = each_length f xs zs q in
    omega arith

pub entries_fewer : {B : Type 0} (spelled : List ℕ → Option B) (ls : List (List ℕ)) (p : B) (j : List Entry) → Spells spelled ls p j → length j < length ls
entries_fewer spelled ls p j s =
    let long : length ls ≡ suc (length s.rest) = ap length s.lines_are in
    let same : length j ≡ length s.rest = each_length entry_of s.rest j s.entries in
    omega arith

pub counted : {B : Type 0} (spelled : List ℕ → Option B) (ls : List (List ℕ)) (p : B) (j : List Entry) (e : Entry) (n m : ℕ) → Spells spelled ls p j → n ≡ length j → length ls < 2 ^ 63 → m ≡ min (n + 1) (2 ^ 64 - 1) → m ≡ length (j ++ e ∷ [])
counted spelled ls p j e n m s is few told =
    let less : length j < length ls = entries_fewer spelled ls p j s in
    let long : length (j ++ e ∷ []) ≡ length j + 1 = length-append j (e ∷ []) in
    omega arith

pub first_wrong : {B : Type 0} (rules : Rulebook B) (kept : (p : B) (e : Entry) (j : List Entry) → rules.makes p (e ∷ j) → is_kept e.reply ≡ true) (ls : List (List ℕ)) (p : B) (j : List Entry) (l : List ℕ) (e : Entry) (n : ℕ) (r : Reply) (b : Bool) (x : Bounds) → Spells rules.spelled ls p j → rules.sound p → rules.makes p (reverse j) → n ≡ length j → AreBounds x (rules.lanes p) (rules.plan p) → entry_of l ≡ Some e
    → ((x : Reply) → rules.makes p (joined (reverse j) e.lane e.call x) → r ≡ x) → is_told e.reply r ≡ false → b ≡ entry_beyond_by x.lanes x.lines (rules.plan p) e → HasFault rules (ls ++ l ∷ []) n b
first_wrong rules kept ls p j l e n r b x s sound legal is bounds reads only other names =
    let all : take n (j ++ e ∷ []) ≡ j = ap (λ (k : ℕ). take k (j ++ e ∷ [])) is ∙ take-append_seam j (e ∷ []) in
    record {
      basis = p;
      journal = j ++ e ∷ [];
      entry = e;
      spelled = spelled_more rules.spelled ls p j l e s reads;
      sound = sound;
      first = record {
        there = ap (slice_get (j ++ e ∷ [])) is ∙ slice_get-last j e;
        before = subst (λ (k : List Entry). rules.makes p (reverse k)) (sym all) legal;
        with_it = λ wrong. not_told rules kept p (reverse j) e r only other (subst (λ (k : List Entry). rules.makes p (e ∷ reverse k)) all wrong);
      };
      names = ap (λ (k : ℕ). entry_beyond_by k (line_bound (rules.plan p)) (rules.plan p) e) (sym bounds.lanes) ∙ ap (λ (k : ℕ). entry_beyond_by x.lanes k (rules.plan p) e) (sym bounds.lines) ∙ sym names;
    }

-- ---- the first line

pub one_line : {B : Type 0} (spelled : List ℕ → Option B) (l : List ℕ) (p : B) → spelled l ≡ Some p → Spells spelled (l ∷ []) p []
one_line spelled l p is = record { top = l; rest = []; lines_are = refl; basis = is; entries = refl }

pub no_basis : {B : Type 0} (spelled : List ℕ → Option B) (l : List ℕ) → spelled l ≡ None → IsBad spelled (l ∷ []) 1
no_basis spelled l other = record { top = l; rest = []; lines_are = refl; bad = rw other refl }

pub unsound_line : {B : Type 0} (rules : Rulebook B) (l : List ℕ) → SpellsUnsound rules l → IsBadPlan rules (l ∷ [])
unsound_line rules l s = record { basis = s.basis; journal = []; spelled = one_line rules.spelled l s.basis s.spelled; unsound = s.unsound }

-- ---- sound plans

both : (a b : Bool) → a && b ≡ true → (a ≡ true) × (b ≡ true)
both true b e = (refl, e)
both false b e = absurd (cc)

pub is_sound_plan : (p : Plan) → is_sound p ≡ true → Sound p
is_sound_plan p h =
    let (few, others) = both (has_limits p) _ h in
    let (seated, each) = both (are_sound_groups p.groups) _ others in
    let (a, h1) = both (leb 1 p.limit) _ few in
    let (b, c) = both (leb p.limit 10) _ h1 in
    let (d, h2) = both (leb (berths p) 64) _ seated in
    let (e, f) = both (ltb (length p.groups) (2 ^ 32)) _ h2 in
    record { least = leb-true _ _ a; most = leb-true _ _ b; actions = leb-true _ _ c; seats = leb-true _ _ d; groups = ltb-true _ _ e; each_group = f; each_action = each }

pub sound_plan_is : (p : Plan) → Sound p → is_sound p ≡ true
sound_plan_is p s =
    rw (le-leb _ _ s.least, le-leb _ _ s.most, le-leb _ _ s.actions, le-leb _ _ s.seats, lt-ltb _ _ s.groups, s.each_group, s.each_action) refl

pub unsound : (p : Plan) → is_sound p ≡ false → Sound p → ⊥
unsound p other s = let both : true ≡ false = sym (sound_plan_is p s) ∙ other in cc
