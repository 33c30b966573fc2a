-- Reading a row from its front: an element, and then those behind it.
use Rattle.std.proofs.Common.{◌≡◌, ℕ, zero, suc, ◌-◌, ◌<◌, List, [], ◌∷◌, ◌++◌, length, Option, Some, None, Result, option_map, option_and_then, refl, sym, ap, subst, ◌∙◌, arith, append_assoc, append-nil}
use Rattle.json.specs.Token.{Token}
use Rattle.json.specs.Token as token
use Rattle.json.specs.Json as json
use Rattle.json.specs.Json.{parse_map, after_end_array, items, members, value}
use Rattle.json.proofs.Grammar.{value-begin_array}
use Rattle.serde_json.specs.Data.{Data, Items, Members, Num, array, item, no_members, number, object}
use Rattle.serde_json.specs.Read.{converted, number_of, of_json, of_members}
use Rattle.journal_text.specs.Options.{◌>>=◌, each}
use Rattle.journal_text.specs.Values.{at, datas, row_in, text_in, variant_in, whole}
use Rattle.journal_reading.specs.declared.misread.Misread.{Misread}
use Rattle.journal_reading.specs.Pulls.{Leaves, after_begin_array, after_name, next_value, pull, pull_row, rest_of_row}
use Rattle.journal_reading.specs.Readings.{ReadsAs}
use Rattle.journal_reading.proofs.Rows.{converted-array, converted_some, item_read, item_refused, next-shorter, pick, refused, row_over}
use Rattle.journal_reading.proofs.Scalars.{pull_nothing, pull_token, reads-text, with_rest}

-- ---- an element

element_read : {A B : Type 0} (f : Data → Option A) (k : A × List Data → Option B) (d : Data) (x : A) → f d ≡ Some x → (o : Option (Items × List Token))
    → converted (λ ds. at f (datas ds) >>= k) (parse_map (item d) o) ≡ converted (λ ds. k (x, datas ds)) o
element_read f k d x e None = refl
element_read f k d x e (Some p) = rw e refl

-- the next element is read, and the row goes on behind it
pub step : {A B : Type 0} (f : Data → Option A) (k : A × List Data → Option B) (d : ℕ) (ts r : List Token) (x : A) → pull f d ts ≡ Some (x, r)
    → pull_row (λ row. at f row >>= k) d ts ≡ pull_row (λ row. k (x, row)) d r
step f k d ts r x e =
    let v = converted_some f (next_value d ts) x r e in
    ap (converted (λ ds. at f (datas ds) >>= k)) (item_read d ts r v.0 v.1) ∙ element_read f k v.0 x v.2 (rest_of_row d r)

front_refused : {A B : Type 0} (f : Data → Option A) (k : A × List Data → Option B) (d : Data) → f d ≡ None → (o : Option (Items × List Token))
    → converted (λ ds. at f (datas ds) >>= k) (parse_map (item d) o) ≡ None
front_refused f k d e None = refl
front_refused f k d e (Some p) = rw e refl

step_none : {A B : Type 0} (f : Data → Option A) (k : A × List Data → Option B) (d : ℕ) (ts : List Token) (o : Option (Data × List Token)) → next_value d ts ≡ o → converted f o ≡ None
    → (q : Option (List Token)) → after_end_array ts ≡ q → pull_row (λ row. at f row >>= k) d ts ≡ None
step_none f k d ts (Some p) is e q end =
    ap (converted (λ ds. at f (datas ds) >>= k)) (item_read d ts p.1 p.0 is) ∙ front_refused f k p.0 (refused p.1 (f p.0) e) (rest_of_row d p.1)
step_none f k d ts None is e (Some r) end = ap (converted (λ ds. at f (datas ds) >>= k)) (row_over d ts r end)
step_none f k d ts None is e None end = ap (converted (λ ds. at f (datas ds) >>= k)) (item_refused d ts end is)

-- it isn't read, and so the row isn't
pub stop : {A B : Type 0} (f : Data → Option A) (k : A × List Data → Option B) (d : ℕ) (ts : List Token) → pull f d ts ≡ None
    → pull_row (λ row. at f row >>= k) d ts ≡ None
stop f k d ts e = step_none f k d ts (next_value d ts) refl e (after_end_array ts) refl

-- ---- the end

pub over : {A : Type 0} (x : A) (d : ℕ) (ts r : List Token) → after_end_array ts ≡ Some r → pull_row (whole x) d ts ≡ Some (x, r)
over x d ts r e = ap (converted (λ ds. whole x (datas ds))) (row_over d ts r e)

more_left : {A : Type 0} (x : A) (d : Data) (o : Option (Items × List Token)) → converted (λ ds. whole x (datas ds)) (parse_map (item d) o) ≡ None
more_left x d None = refl
more_left x d (Some p) = refl

not_over_by : {A : Type 0} (x : A) (d : ℕ) (ts : List Token) → after_end_array ts ≡ None → (o : Option (Data × List Token)) → next_value d ts ≡ o → pull_row (whole x) d ts ≡ None
not_over_by x d ts e None is = ap (converted (λ ds. whole x (datas ds))) (item_refused d ts e is)
not_over_by x d ts e (Some p) is = ap (converted (λ ds. whole x (datas ds))) (item_read d ts p.1 p.0 is) ∙ more_left x p.0 (rest_of_row d p.1)

pub not_over : {A : Type 0} (x : A) (d : ℕ) (ts : List Token) → after_end_array ts ≡ None → pull_row (whole x) d ts ≡ None
not_over x d ts e = not_over_by x d ts e (next_value d ts) refl

-- ---- the bracket that opens a row

opened : {A : Type 0} (f : List Data → Option A) (o : Option (Items × List Token)) → converted (λ d. row_in d >>= f) (parse_map array o) ≡ converted (λ ds. f (datas ds)) o
opened f None = refl
opened f (Some p) = refl

pub open_row : {A : Type 0} (f : List Data → Option A) (d : ℕ) (ts : List Token) → 0 < d → pull (λ v. row_in v >>= f) d (token.begin_array ∷ ts) ≡ pull_row f (d - 1) ts
open_row f d ts deep =
    ap (λ o. converted (λ v. row_in v >>= f) (converted of_json o)) (value-begin_array d ts deep)
    ∙ ap (converted (λ v. row_in v >>= f)) (converted-array (items (value (d - 1)) (length ts) ts))
    ∙ opened f (rest_of_row (d - 1) ts)

-- the bracket was taken, and the row is read
pub opened_row : {A : Type 0} (f : List Data → Option A) (d : ℕ) (old ts : List Token) → 0 < d → after_begin_array old ≡ Some ts → pull (λ v. row_in v >>= f) d old ≡ pull_row f (d - 1) ts
opened_row f d [] ts deep e = absurd (cc)
opened_row f d (token.begin_array ∷ ws) ts deep e = let same : ws ≡ ts = cc in open_row f d ws deep ∙ ap (pull_row f (d - 1)) same
opened_row f d (_ ∷ ws) ts deep e = absurd (cc)

no_row_data : {A : Type 0} (f : List Data → Option A) (o : Option Members) (r : List Token) → converted (λ v. row_in v >>= f) (option_map (λ d. (d, r)) (option_map object o)) ≡ None
no_row_data f None r = refl
no_row_data f (Some ms) r = refl

no_number : {A : Type 0} (f : List Data → Option A) (o : Option Num) (r : List Token) → converted (λ v. row_in v >>= f) (option_map (λ d. (d, r)) (option_map number o)) ≡ None
no_number f None r = refl
no_number f (Some n) r = refl

no_row : {A : Type 0} (f : List Data → Option A) (o : Option (json.Members × List Token)) → converted (λ v. row_in v >>= f) (converted of_json (parse_map json.object o)) ≡ None
no_row f None = refl
no_row f (Some p) = no_row_data f (of_members p.0 no_members) p.1

-- no array comes next
pub unopened : {A : Type 0} (f : List Data → Option A) (d : ℕ) (old : List Token) → after_begin_array old ≡ None → pull (λ v. row_in v >>= f) d old ≡ None
unfolding value
unopened f zero [] e = refl
unopened f (suc d) [] e = refl
unopened f d (token.begin_array ∷ ws) e = absurd (cc)
unopened f zero (token.begin_object ∷ ws) e = refl
unopened f (suc d) (token.begin_object ∷ ws) e = no_row f (members (value d) (length ws) ws)
unopened f zero (token.end_object ∷ ws) e = refl
unopened f (suc d) (token.end_object ∷ ws) e = refl
unopened f zero (token.end_array ∷ ws) e = refl
unopened f (suc d) (token.end_array ∷ ws) e = refl
unopened f zero (token.key x ∷ ws) e = refl
unopened f (suc d) (token.key x ∷ ws) e = refl
unopened f zero (token.string x ∷ ws) e = refl
unopened f (suc d) (token.string x ∷ ws) e = refl
unopened f zero (token.number x ∷ ws) e = no_number f (number_of x) ws
unopened f (suc d) (token.number x ∷ ws) e = no_number f (number_of x) ws
unopened f zero (token.boolean x ∷ ws) e = refl
unopened f (suc d) (token.boolean x ∷ ws) e = refl
unopened f zero (token.null ∷ ws) e = refl
unopened f (suc d) (token.null ∷ ws) e = refl
unopened f zero (token.bad ∷ ws) e = refl
unopened f (suc d) (token.bad ∷ ws) e = refl

-- ---- a reading of what was read

pub converted_same : {A B : Type 0} (f g : A → Option B) → ((a : A) → f a ≡ g a) → (o : Option (A × List Token)) → converted f o ≡ converted g o
converted_same f g same None = refl
converted_same f g same (Some p) = ap (option_map (λ b. (b, p.1))) (same p.0)

bind_bind : {A B C : Type 0} (o : Option A) (g : A → Option B) (k : B → Option C) → (o >>= g) >>= k ≡ o >>= λ x. (g x >>= k)
bind_bind None g k = refl
bind_bind (Some x) g k = refl

after_name_is : (ts : List Token) (s : List ℕ) (r : List Token) → after_name ts ≡ Some (s, r) → ts ≡ token.begin_array ∷ token.string s ∷ r
after_name_is (token.begin_array ∷ token.string x ∷ ws) s r e = ap (λ p. token.begin_array ∷ token.string p.0 ∷ p.1) (ap (pick (x, ws)) e)
after_name_is _ s r e = absurd (cc)

no_text : (o : Option Num) (r : List Token) → option_map {U = List ℕ × List Token} (λ x. (x, r)) (option_map number o >>= text_in) ≡ None
no_text None r = refl
no_text (Some n) r = refl

text_next : (ts : List Token) (d : ℕ) → after_name (token.begin_array ∷ ts) ≡ None → pull text_in d ts ≡ None
text_next [] d e = pull_nothing text_in reads-text d
text_next (token.string x ∷ ws) d e = absurd (cc)
text_next (token.number x ∷ ws) d e = pull_token text_in reads-text d (token.number x) ws ∙ no_text (number_of x) ws
text_next (t ∷ ws) d e = pull_token text_in reads-text d t ws

opened_is : (ts r : List Token) → after_begin_array ts ≡ Some r → ts ≡ token.begin_array ∷ r
opened_is (token.begin_array ∷ ws) r e = cc
opened_is _ r e = absurd (cc)

shallow : {A : Type 0} (f : List Data → Option A) (old r : List Token) → after_begin_array old ≡ Some r → pull (λ v. row_in v >>= f) zero old ≡ None
unfolding value
shallow f (token.begin_array ∷ ws) r e = refl
shallow f _ r e = absurd (cc)

unnamed_row : {A : Type 0} (k : List ℕ × List Data → Option A) (d : ℕ) (old : List Token) → after_name old ≡ None → (q : Option (List Token)) → after_begin_array old ≡ q → pull (λ v. row_in v >>= λ row. (at text_in row >>= k)) d old ≡ None
unnamed_row k d old e None q = unopened (λ row. at text_in row >>= k) d old q
unnamed_row k zero old e (Some r) q = shallow (λ row. at text_in row >>= k) old r q
unnamed_row k (suc d) old e (Some r) q =
    let is = opened_is old r q in
    opened_row (λ row. at text_in row >>= k) (suc d) old r (omega arith) q
    ∙ stop text_in k (suc d - 1) r (text_next r (suc d - 1) (ap after_name (sym is) ∙ e))

-- the bracket and a name were taken, and the rest of the row is read
pub named_row : {A : Type 0} (by : List ℕ → List Data → Option A) (d : ℕ) (old ts : List Token) (s : List ℕ) → 0 < d → after_name old ≡ Some (s, ts)
    → pull (λ v. variant_in v >>= λ w. by w.0 w.1) d old ≡ pull_row (by s) (d - 1) ts
named_row by d old ts s deep e =
    let is = after_name_is old s ts e in
    converted_same (λ v. variant_in v >>= λ w. by w.0 w.1) (λ v. row_in v >>= λ row. (at text_in row >>= λ w. by w.0 w.1)) (λ v. bind_bind (row_in v) (at text_in) (λ w. by w.0 w.1)) (next_value d old)
    ∙ ap (pull (λ v. row_in v >>= λ row. (at text_in row >>= λ w. by w.0 w.1)) d) is
    ∙ open_row (λ row. at text_in row >>= λ w. by w.0 w.1) d (token.string s ∷ ts) deep
    ∙ step text_in (λ w. by w.0 w.1) (d - 1) (token.string s ∷ ts) ts s (pull_token text_in reads-text (d - 1) (token.string s) ts)

-- no name in an array comes next
pub unnamed : {A : Type 0} (by : List ℕ → List Data → Option A) (d : ℕ) (old : List Token) → after_name old ≡ None → pull (λ v. variant_in v >>= λ w. by w.0 w.1) d old ≡ None
unnamed by d old e =
    converted_same (λ v. variant_in v >>= λ w. by w.0 w.1) (λ v. row_in v >>= λ row. (at text_in row >>= λ w. by w.0 w.1)) (λ v. bind_bind (row_in v) (at text_in) (λ w. by w.0 w.1)) (next_value d old)
    ∙ unnamed_row (λ w. by w.0 w.1) d old e (after_begin_array old) refl

then_of : {B C : Type 0} (o : Option B) (g : B → Option C) (r : List Token) → option_map {U = C × List Token} (λ y. (y, r)) (o >>= g) ≡ option_and_then {U = C × List Token} (λ (p : B × List Token). option_map {U = C × List Token} (λ y. (y, p.1)) (g p.0)) (option_map {U = B × List Token} (λ b. (b, r)) o)
then_of None g r = refl
then_of (Some b) g r = refl

converted_then : {A B C : Type 0} (f : A → Option B) (g : B → Option C) (o : Option (A × List Token)) → converted (λ v. f v >>= g) o ≡ option_and_then (λ p. option_map (λ y. (y, p.1)) (g p.0)) (converted f o)
converted_then f g None = refl
converted_then f g (Some p) = then_of (f p.0) g p.1

-- what was read is read further
pub read_on : {A B C : Type 0} (see : C → B) (f : Data → Option A) (g : A → Option B) (d : ℕ) (old new : List Token) (x : A) (r : Result C Misread) → pull f d old ≡ Some (x, new) → ReadsAs see r (g x)
    → Leaves see new r (pull (λ v. f v >>= g) d old)
read_on see f g d old new x r e read =
    subst (Leaves see new r) (sym (converted_then f g (next_value d old) ∙ ap (option_and_then (λ p. option_map (λ y. (y, p.1)) (g p.0))) e)) (with_rest see new r (g x) read)

pub not_read : {A B : Type 0} (f : Data → Option A) (g : A → Option B) (d : ℕ) (old : List Token) → pull f d old ≡ None → pull (λ v. f v >>= g) d old ≡ None
not_read f g d old e = converted_then f g (next_value d old) ∙ ap (option_and_then (λ p. option_map (λ y. (y, p.1)) (g p.0))) e

-- ---- a front of a row

row_then : {A B : Type 0} (g : List Data → Option (A × List Data)) (k : A × List Data → Option B) (d : ℕ) (ts : List Token)
    → pull_row (λ row. g row >>= k) d ts ≡ option_and_then (λ p. option_map (λ y. (y, p.1)) (k p.0)) (pull_row g d ts)
row_then g k d ts = converted_then (λ ds. g (datas ds)) k (rest_of_row d ts)

front_left : {A B : Type 0} (k : A × List Data → Option B) (x : A) (o : Option (Items × List Token)) → option_and_then (λ p. option_map (λ y. (y, p.1)) (k p.0)) (parse_map (λ ds. (x, datas ds)) o) ≡ converted (λ ds. k (x, datas ds)) o
front_left k x None = refl
front_left k x (Some p) = refl

pub front_step : {A B : Type 0} (g : List Data → Option (A × List Data)) (k : A × List Data → Option B) (d : ℕ) (ts r : List Token) (x : A) → pull_row g d ts ≡ parse_map (λ ds. (x, datas ds)) (rest_of_row d r)
    → pull_row (λ row. g row >>= k) d ts ≡ pull_row (λ row. k (x, row)) d r
front_step g k d ts r x e = row_then g k d ts ∙ ap (option_and_then (λ p. option_map (λ y. (y, p.1)) (k p.0))) e ∙ front_left k x (rest_of_row d r)

pub front_stop : {A B : Type 0} (g : List Data → Option (A × List Data)) (k : A × List Data → Option B) (d : ℕ) (ts : List Token) → pull_row g d ts ≡ None → pull_row (λ row. g row >>= k) d ts ≡ None
front_stop g k d ts e = row_then g k d ts ∙ ap (option_and_then (λ p. option_map (λ y. (y, p.1)) (k p.0))) e

rest_left : {A : Type 0} (x : A) (o : Option (Items × List Token)) → converted {B = A × List Data} (λ ds. Some (x, datas ds)) o ≡ parse_map (λ ds. (x, datas ds)) o
rest_left x None = refl
rest_left x (Some p) = refl

pub front_read : {A : Type 0} (x : A) (d : ℕ) (ts : List Token) → pull_row {A = A × List Data} (λ row. Some (x, row)) d ts ≡ parse_map (λ ds. (x, datas ds)) (rest_of_row d ts)
front_read x d ts = rest_left x (rest_of_row d ts)

-- ---- lists

abbrev pub behind : {A : Type 0} → List A → Option (List A × List Token) → Option (List A × List Token)
behind xs o = parse_map (λ ys. xs ++ ys) o

pub behind_none : {A : Type 0} (o : Option (List A × List Token)) → o ≡ behind [] o
behind_none None = refl
behind_none (Some p) = refl

pushed : {A : Type 0} (xs : List A) (x : A) (o : Option (List A × List Token)) → behind xs (parse_map (λ ys. x ∷ ys) o) ≡ behind (xs ++ x ∷ []) o
pushed xs x None = refl
pushed xs x (Some p) = ap (λ ys. Some (ys, p.1)) (sym (append_assoc xs (x ∷ []) p.0))

one_more_of : {A : Type 0} (o : Option (List A)) (x : A) (r : List Token) → option_map (λ ys. (ys, r)) (o >>= λ ys. Some (x ∷ ys)) ≡ parse_map (λ ys. x ∷ ys) (option_map (λ ys. (ys, r)) o)
one_more_of None x r = refl
one_more_of (Some ys) x r = refl

one_more : {A : Type 0} (f : Data → Option A) (d : Data) (x : A) → f d ≡ Some x → (o : Option (Items × List Token)) → converted (λ ds. each f (datas ds)) (parse_map (item d) o) ≡ parse_map (λ ys. x ∷ ys) (converted (λ ds. each f (datas ds)) o)
one_more f d x e None = refl
one_more f d x e (Some p) = rw e (one_more_of (each f (datas p.0)) x p.1)

-- the next element is read
pub each_more : {A : Type 0} (f : Data → Option A) (d : ℕ) (ts r : List Token) (x : A) (all : Option (List A × List Token)) (done after : List A) → all ≡ behind done (pull_row (each f) d ts) → pull f d ts ≡ Some (x, r) → after ≡ done ++ x ∷ []
    → all ≡ behind after (pull_row (each f) d r)
each_more f d ts r x all done after before e push =
    let v = converted_some f (next_value d ts) x r e in
    before ∙ ap (behind done) (ap (converted (λ ds. each f (datas ds))) (item_read d ts r v.0 v.1) ∙ one_more f v.0 x v.2 (rest_of_row d r)) ∙ pushed done x (pull_row (each f) d r)
    ∙ ap (λ xs. behind xs (pull_row (each f) d r)) (sym push)

none_of : {A : Type 0} (f : Data → Option A) (d : Data) → f d ≡ None → (o : Option (Items × List Token)) → converted (λ ds. each f (datas ds)) (parse_map (item d) o) ≡ None
none_of f d e None = refl
none_of f d e (Some p) = rw e refl

none_by : {A : Type 0} (f : Data → Option A) (d : ℕ) (ts : List Token) (o : Option (Data × List Token)) → next_value d ts ≡ o → after_end_array ts ≡ None → converted f o ≡ None → pull_row (each f) d ts ≡ None
none_by f d ts None is going e = ap (converted (λ ds. each f (datas ds))) (item_refused d ts going is)
none_by f d ts (Some p) is going e = ap (converted (λ ds. each f (datas ds))) (item_read d ts p.1 p.0 is) ∙ none_of f p.0 (refused p.1 (f p.0) e) (rest_of_row d p.1)

-- or it isn't
pub each_refused : {A : Type 0} (f : Data → Option A) (d : ℕ) (ts : List Token) (all : Option (List A × List Token)) (done : List A) → all ≡ behind done (pull_row (each f) d ts) → after_end_array ts ≡ None → pull f d ts ≡ None → all ≡ None
each_refused f d ts all done before going e = before ∙ ap (behind done) (none_by f d ts (next_value d ts) refl going e)

-- or there is none
pub each_over : {A : Type 0} (f : Data → Option A) (d : ℕ) (ts r : List Token) (all : Option (List A × List Token)) (done : List A) → all ≡ behind done (pull_row (each f) d ts) → after_end_array ts ≡ Some r → all ≡ Some (done, r)
each_over f d ts r all done before e = before ∙ ap (behind done) (ap (converted (λ ds. each f (datas ds))) (row_over d ts r e)) ∙ ap (λ xs. Some (xs, r)) (append-nil done)

pub pull-shorter : {A : Type 0} (f : Data → Option A) (d : ℕ) (ts r : List Token) (x : A) → pull f d ts ≡ Some (x, r) → length r < length ts
pull-shorter f d ts r x e = let v = converted_some f (next_value d ts) x r e in next-shorter d ts r v.0 v.1
