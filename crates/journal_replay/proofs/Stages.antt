-- What the next line makes of what is known of an input, which may begin with a report.
use Rattle.std.proofs.Common.{◌≡◌, ℕ, suc, ◌+◌, ◌-◌, ◌<◌, ◌≤◌, ◌^◌, min, not, ◌&&◌, ◌||◌, Bool, true, false, cond, List, [], ◌∷◌, ◌++◌, length, drop, is_some, Option, Some, Result, Ok, Err, refl, sym, ap, subst, ◌∙◌, arith, append_assoc, append-nil, length-append}
use Rattle.std.specs.Prelude.{IfOk}
use Rattle.std.proofs.Math.Seq.{drop-append_seam, drop-length}
use Rattle.std.proofs.lemmas.List.{drop-append-le}
use Rattle.std.proofs.lemmas.List.Folds.{list_all-append}
use Rattle.std.specs.List.{list_all, prefix_len}
use Rattle.journal_text.specs.Lines.{entry_of, lines_of}
use Rattle.journal_replay.specs.Fronts.{JudgesInputBy, SaysBehind, ends_report, has_counts, is_before_counts, is_journal_line, report_lines_by, shifted}
use Rattle.journal_replay.specs.Knows.{IsBad, Knows}
use Rattle.journal_replay.specs.Legality.{Rulebook, Standing}
use Rattle.journal_replay.specs.Spelled.{bad_entry, bad_line}
use Rattle.journal_replay.specs.Staged.{IsReport, IsText, SaysOn, capped, skipped_lines}
use Rattle.journal_replay.specs.Verdicts.{JudgesBy, Says}
use Rattle.journal_replay.specs.declared.auditor.Found.{Found}
use Rattle.journal_replay.specs.declared.auditor.Found.TheVariants as found
use Rattle.journal_replay.specs.declared.verdict.Verdict.{Verdict}
use Rattle.journal_replay.specs.declared.verdict.Verdict.TheVariants as verdict
use Rattle.journal_replay.proofs.Once.{judge_said}

-- ---- how many lines the report has

both : (a b : Bool) → a && b ≡ true → (a ≡ true) × (b ≡ true)
both true b e = (refl, e)
both false b e = absurd (cc)

-- the lines that pass, and then the rest
prefix_past : (p : List ℕ → Bool) (xs ys : List (List ℕ)) → list_all p xs ≡ true → prefix_len p (xs ++ ys) ≡ length xs + prefix_len p ys
prefix_past p [] ys e = let same : prefix_len p ys ≡ 0 + prefix_len p ys = omega arith in same
prefix_past p (x ∷ xs) ys e =
    let (first, more) = both (p x) (list_all p xs) e in
    let rest : prefix_len p (xs ++ ys) ≡ length xs + prefix_len p ys = prefix_past p xs ys more in
    let count : 1 + prefix_len p (xs ++ ys) ≡ length (x ∷ xs) + prefix_len p ys = omega arith in
    rw first count

-- a line that isn't one of a report but for its last
past : {B : Type 0} (spelled : List ℕ → Option B) (ls : List (List ℕ)) (l : List ℕ) (more : List (List ℕ)) → list_all (is_before_counts spelled) ls ≡ true → is_before_counts spelled l ≡ false → prefix_len (is_before_counts spelled) (ls ++ l ∷ more) ≡ length ls
past spelled ls l more each other =
    let none : prefix_len (is_before_counts spelled) (l ∷ more) ≡ 0 = ap (λ b. cond b (1 + prefix_len (is_before_counts spelled) more) 0) other in
    prefix_past (is_before_counts spelled) ls (l ∷ more) each ∙ ap (λ n. length ls + n) none ∙ (let same : length ls + 0 ≡ length ls = omega arith in same)

lines_by : {B : Type 0} (spelled : List ℕ → Option B) (lines : List (List ℕ)) (n : ℕ) → prefix_len (is_before_counts spelled) lines ≡ n → report_lines_by spelled lines ≡ cond (ends_report spelled (drop n lines)) (n + 1) 0
lines_by spelled lines n e = ap (λ (k : ℕ). cond (ends_report spelled (drop k lines)) (k + 1) 0) e

counted_before : {B : Type 0} (spelled : List ℕ → Option B) (ls : List (List ℕ)) (l : List ℕ) (more : List (List ℕ)) → list_all (is_before_counts spelled) ls ≡ true → is_journal_line spelled l ≡ false → has_counts l ≡ true → report_lines_by spelled (ls ++ l ∷ more) ≡ length ls + 1
counted_before spelled ls l more each other counts =
    let no : is_before_counts spelled l ≡ false = rw (other, counts) refl in
    let ends : ends_report spelled (l ∷ more) ≡ true = rw (other, counts) refl in
    lines_by spelled (ls ++ l ∷ more) (length ls) (past spelled ls l more each no)
    ∙ ap (λ (x : List (List ℕ)). cond (ends_report spelled x) (length ls + 1) 0) (drop-append_seam ls (l ∷ more))
    ∙ ap (λ (b : Bool). cond b (length ls + 1) 0) ends

none_before : {B : Type 0} (spelled : List ℕ → Option B) (ls : List (List ℕ)) (l : List ℕ) (more : List (List ℕ)) → list_all (is_before_counts spelled) ls ≡ true → is_journal_line spelled l ≡ true → report_lines_by spelled (ls ++ l ∷ more) ≡ 0
none_before spelled ls l more each is =
    let no : is_before_counts spelled l ≡ false = rw is refl in
    let ends : ends_report spelled (l ∷ more) ≡ false = rw is refl in
    lines_by spelled (ls ++ l ∷ more) (length ls) (past spelled ls l more each no)
    ∙ ap (λ (x : List (List ℕ)). cond (ends_report spelled x) (length ls + 1) 0) (drop-append_seam ls (l ∷ more))
    ∙ ap (λ (b : Bool). cond b (length ls + 1) 0) ends

not_ended : {B : Type 0} (spelled : List ℕ → Option B) (ls : List (List ℕ)) → list_all (is_before_counts spelled) ls ≡ true → report_lines_by spelled ls ≡ 0
not_ended spelled ls each =
    let all : prefix_len (is_before_counts spelled) ls ≡ length ls =
    ap (prefix_len (is_before_counts spelled)) (sym (append-nil ls)) ∙ prefix_past (is_before_counts spelled) ls [] each ∙ (let same : length ls + 0 ≡ length ls = omega arith in same) in
    lines_by spelled ls (length ls) all ∙ ap (λ (x : List (List ℕ)). cond (ends_report spelled x) (length ls + 1) 0) (drop-length ls)

-- a text whose first line spells a basis has no report before it
pub no_report_before : {B : Type 0} (spelled : List ℕ → Option B) (top : List ℕ) (rest : List (List ℕ)) → is_some (spelled top) ≡ true → report_lines_by spelled (top ∷ rest) ≡ 0
no_report_before spelled top rest is = none_before spelled [] top rest refl (rw is refl)

-- ---- the next line of the report

pub still_report : {B : Type 0} (spelled : List ℕ → Option B) (skips : Bool) (ls : List (List ℕ)) (l : List ℕ) → IsReport spelled skips ls → is_journal_line spelled l ≡ false → has_counts l ≡ false → IsReport spelled skips (ls ++ l ∷ [])
still_report spelled skips ls l s other counts =
    let is : is_before_counts spelled l ≡ true = rw (other, counts) refl in
    record { looks = s.looks; each = list_all-append (is_before_counts spelled) ls (l ∷ []) ∙ rw (s.each, is) refl }

appended : (ls : List (List ℕ)) (l : List ℕ) (more : List (List ℕ)) → (ls ++ l ∷ []) ++ more ≡ ls ++ l ∷ more
appended ls l more = append_assoc ls (l ∷ []) more

one_longer : (ls : List (List ℕ)) (l : List ℕ) → length (ls ++ l ∷ []) ≡ length ls + 1
one_longer ls l = length-append ls (l ∷ [])

pub text_begins : {B C : Type 0} (skips : Bool) (rules : Rulebook B) (stands : Standing B C) (ls : List (List ℕ)) (l : List ℕ) (n : ℕ) → IsReport rules.spelled skips ls → is_journal_line rules.spelled l ≡ false → has_counts l ≡ true → n ≡ length ls + 1
    → IsText skips rules stands n found.Nothing (ls ++ l ∷ [])
text_begins skips rules stands ls l n s other counts number =
    let long = one_longer ls l in
    let same : length (ls ++ l ∷ []) ≡ n = omega arith in
    record {
      within = omega arith;
      skipped = λ more. rw s.looks (ap (report_lines_by rules.spelled) (appended ls l more) ∙ counted_before rules.spelled ls l more s.each other counts ∙ sym number);
      knows = ap (λ (k : ℕ). drop k (ls ++ l ∷ [])) (sym same) ∙ drop-length (ls ++ l ∷ []);
    }

pub no_text : {B C : Type 0} (skips : Bool) (rules : Rulebook B) (stands : Standing B C) (ls : List (List ℕ)) (l : List ℕ) (f : Found C) → IsReport rules.spelled skips ls → is_journal_line rules.spelled l ≡ true → Knows rules stands f (ls ++ l ∷ [])
    → IsText skips rules stands 0 f (ls ++ l ∷ [])
no_text skips rules stands ls l f s is knows = record {
  within = omega arith;
  skipped = λ more. rw s.looks (ap (report_lines_by rules.spelled) (appended ls l more) ∙ none_before rules.spelled ls l more s.each is);
  knows = knows;
}

no_plan : (a b c : Bool) → not (a || b) && c ≡ true → a ≡ false
no_plan true b c e = absurd (cc)
no_plan false b c e = refl

first_bad : {B : Type 0} (spelled : List ℕ → Option B) (top : List ℕ) (rest : List (List ℕ)) → is_before_counts spelled top ≡ true → bad_line spelled (top ∷ rest) ≡ Some 1
first_bad spelled top rest e = ap (λ (b : Bool). cond b (bad_entry 2 rest) (Some 1)) (no_plan (is_some (spelled top)) (is_some (entry_of top)) (not (has_counts top)) e)

-- the first line spells no basis
pub bad_from_first : {B : Type 0} (spelled : List ℕ → Option B) (ls : List (List ℕ)) (l : List ℕ) → list_all (is_before_counts spelled) ls ≡ true → 0 < length ls → IsBad spelled (ls ++ l ∷ []) 1
bad_from_first spelled [] l each some = absurd (omega arith)
bad_from_first spelled (top ∷ rest) l each some = record { top = top; rest = rest ++ l ∷ []; lines_are = refl; bad = first_bad spelled top (rest ++ l ∷ []) (both (is_before_counts spelled top) (list_all (is_before_counts spelled) rest) each).0 }

-- ---- the next line of the text

pub text_with : {B C : Type 0} (skips : Bool) (rules : Rulebook B) (stands : Standing B C) (n : ℕ) (f g : Found C) (ls : List (List ℕ)) (l : List ℕ) → IsText skips rules stands n f ls → Knows rules stands g (drop n ls ++ l ∷ []) → IsText skips rules stands n g (ls ++ l ∷ [])
text_with skips rules stands n f g ls l s knows =
    let within = s.within in
    let long = one_longer ls l in
    record {
      within = omega arith;
      skipped = λ more. ap (skipped_lines rules.spelled skips) (appended ls l more) ∙ s.skipped (l ∷ more);
      knows = subst (Knows rules stands g) (sym (drop-append-le n ls (l ∷ []) within)) knows;
    }

-- ---- the verdict

bad_entry_within : (n k : ℕ) (ls : List (List ℕ)) → bad_entry n ls ≡ Some k → k < n + length ls
bad_entry_within n k [] e = absurd (cc)
bad_entry_within n k (l ∷ ls) e =
    elim (is_some (entry_of l)) as (λ b. cond b (bad_entry (suc n) ls) (Some n) ≡ Some k → k < n + suc (length ls)) [
      | true ↦ (λ h. let below : k < suc n + length ls = bad_entry_within (suc n) k ls h in omega arith)
      | false ↦ (λ h. let same : n ≡ k = cc in omega arith)
    ] e

bad_line_within : {B : Type 0} (spelled : List ℕ → Option B) (k : ℕ) (ls : List (List ℕ)) → bad_line spelled ls ≡ Some k → k ≤ length ls + 1
bad_line_within spelled k [] e = let same : 1 ≡ k = cc in omega arith
bad_line_within spelled k (l ∷ ls) e =
    elim (is_some (spelled l)) as (λ b. cond b (bad_entry 2 ls) (Some 1) ≡ Some k → k ≤ suc (length ls) + 1) [
      | true ↦ (λ h. let below : k < 2 + length ls = bad_entry_within 2 k ls h in omega arith)
      | false ↦ (λ h. let same : 1 ≡ k = cc in omega arith)
    ] e

capped_is : {B : Type 0} (rules : Rulebook B) (n : ℕ) (ls : List (List ℕ)) (v : Verdict) → Says rules (drop n ls) v → n ≤ length ls → length ls < 2 ^ 63 → length (drop n ls) ≤ length ls → capped n v ≡ shifted n v
capped_is rules n ls (verdict.Yes a e) x within few less = refl
capped_is rules n ls verdict.TooLong x within few less = refl
capped_is rules n ls (verdict.BadLine k) x within few less =
    let most = bad_line_within rules.spelled k (drop n ls) x in
    let same : min (n + k) (2 ^ 64 - 1) ≡ n + k = omega arith in
    ap verdict.BadLine same
capped_is rules n ls verdict.BadPlan x within few less = refl
capped_is rules n ls (verdict.OutOfPlan i) x within few less = refl
capped_is rules n ls (verdict.Illegal i) x within few less = refl

pub said_of_text : {B C : Type 0} (skips : Bool) (rules : Rulebook B) (stands : Standing B C) (n : ℕ) (f : Found C) (ls : List (List ℕ)) (v : Verdict) → IsText skips rules stands n f ls → length ls < 2 ^ 63 → length (drop n ls) ≤ length ls → Says rules (drop n ls) v
    → SaysOn skips rules ls (capped n v)
said_of_text skips rules stands n f ls v s few less says =
    let is : skipped_lines rules.spelled skips ls ≡ n = ap (skipped_lines rules.spelled skips) (sym (append-nil ls)) ∙ s.skipped [] in
    subst (λ k. SaysBehind rules k ls (capped n v)) (sym is) (record { text = v; says = says; verdict_is = capped_is rules n ls v says s.within few less })

first_of_all : {B : Type 0} (spelled : List ℕ → Option B) (ls : List (List ℕ)) → list_all (is_before_counts spelled) ls ≡ true → bad_line spelled ls ≡ Some 1
first_of_all spelled [] each = refl
first_of_all spelled (top ∷ rest) each = first_bad spelled top rest (both (is_before_counts spelled top) (list_all (is_before_counts spelled) rest) each).0

-- all lines may be of a report that has no end, and so the first one is bad
pub said_of_report : {B : Type 0} (skips : Bool) (rules : Rulebook B) (ls : List (List ℕ)) → IsReport rules.spelled skips ls → SaysOn skips rules ls (verdict.BadLine 1)
said_of_report skips rules ls s =
    let is : skipped_lines rules.spelled skips ls ≡ 0 = rw s.looks (not_ended rules.spelled ls s.each) in
    subst (λ k. SaysBehind rules k ls (verdict.BadLine 1)) (sym is) (record { text = verdict.BadLine 1; says = first_of_all rules.spelled ls s.each; verdict_is = refl })

-- ---- judged

no_length : {B : Type 0} (rules : Rulebook B) (n : ℕ) (ls : List (List ℕ)) (v : Verdict) → Says rules ls v → verdict.TooLong ≡ shifted n v → ⊥
no_length rules n ls (verdict.Yes a e) x same = absurd (cc)
no_length rules n ls verdict.TooLong x same = x
no_length rules n ls (verdict.BadLine k) x same = absurd (cc)
no_length rules n ls verdict.BadPlan x same = absurd (cc)
no_length rules n ls (verdict.OutOfPlan i) x same = absurd (cc)
no_length rules n ls (verdict.Illegal i) x same = absurd (cc)

pub judge_input : {B : Type 0} (rules : Rulebook B) (bytes : List ℕ) (v : Verdict) → length bytes ≤ 268435456 → SaysOn true rules (lines_of bytes) v → JudgesInputBy rules bytes v
judge_input rules bytes (verdict.Yes a e) few x = (few, x)
judge_input rules bytes verdict.TooLong few x = absurd (no_length rules (report_lines_by rules.spelled (lines_of bytes)) _ x.text x.says x.verdict_is)
judge_input rules bytes (verdict.BadLine k) few x = (few, x)
judge_input rules bytes verdict.BadPlan few x = (few, x)
judge_input rules bytes (verdict.OutOfPlan i) few x = (few, x)
judge_input rules bytes (verdict.Illegal i) few x = (few, x)

unshifted : (v : Verdict) → shifted 0 v ≡ v
unshifted (verdict.Yes a e) = refl
unshifted verdict.TooLong = refl
unshifted (verdict.BadLine k) = let same : 0 + k ≡ k = omega arith in ap verdict.BadLine same
unshifted verdict.BadPlan = refl
unshifted (verdict.OutOfPlan i) = refl
unshifted (verdict.Illegal i) = refl

-- what is said behind no line is said of all lines
pub says_all : {B : Type 0} (rules : Rulebook B) (ls : List (List ℕ)) (v : Verdict) → SaysBehind rules 0 ls v → Says rules ls v
says_all rules ls v x = subst (Says rules ls) (sym (x.verdict_is ∙ unshifted x.text)) x.says

pub judged_text : {B E : Type 0} (rules : Rulebook B) (bytes : List ℕ) (r : Result Verdict E) → length bytes ≤ 268435456 → IfOk r (SaysOn false rules (lines_of bytes)) → IfOk r (JudgesBy rules bytes)
judged_text rules bytes (Ok v) few x = judge_said rules bytes v few (says_all rules (lines_of bytes) v x)
judged_text rules bytes (Err e) few x = tt

behind_none : {B : Type 0} (rules : Rulebook B) (bytes : List ℕ) (v : Verdict) → report_lines_by rules.spelled (lines_of bytes) ≡ 0 → SaysBehind rules (report_lines_by rules.spelled (lines_of bytes)) (lines_of bytes) v → Says rules (lines_of bytes) v
behind_none rules bytes v none x = says_all rules (lines_of bytes) v (subst (λ k. SaysBehind rules k (lines_of bytes) v) none x)

-- where no report stands before them, bytes are judged as a text
pub judged_whole : {B : Type 0} (rules : Rulebook B) (bytes : List ℕ) (v : Verdict) → report_lines_by rules.spelled (lines_of bytes) ≡ 0 → JudgesInputBy rules bytes v → JudgesBy rules bytes v
judged_whole rules bytes (verdict.Yes a e) none x = (x.0, behind_none rules bytes _ none x.1)
judged_whole rules bytes verdict.TooLong none x = x
judged_whole rules bytes (verdict.BadLine k) none x = (x.0, behind_none rules bytes _ none x.1)
judged_whole rules bytes verdict.BadPlan none x = (x.0, behind_none rules bytes _ none x.1)
judged_whole rules bytes (verdict.OutOfPlan i) none x = (x.0, behind_none rules bytes _ none x.1)
judged_whole rules bytes (verdict.Illegal i) none x = (x.0, behind_none rules bytes _ none x.1)
