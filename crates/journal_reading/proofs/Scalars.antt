-- Values of one token.
use Rattle.std.proofs.Common.{◌≡◌, ℕ, zero, suc, List, [], ◌∷◌, length, Option, Some, None, Result, Ok, Err, option_map, refl, sym, ap, subst, ◌∙◌}
use Rattle.json.specs.Json as json
use Rattle.json.specs.Json.{items, members, parse_map, value}
use Rattle.json.specs.Token.{Token}
use Rattle.json.specs.Token as token
use Rattle.serde_json.specs.Data.{Data, Items, Members, Num, array, no_members, number, object}
use Rattle.serde_json.specs.Read.{converted, number_of, of_items, of_json, of_members}
use Rattle.journal_text.specs.Options.{◌>>=◌}
use Rattle.journal_text.specs.Values.{content_in, count_in, flag_in, maybe_in, signed_in, text_in}
use Rattle.journal_reading.specs.declared.misread.Misread.{Misread}
use Rattle.journal_reading.specs.declared.misread.Misread.TheVariants as misread
use Rattle.journal_reading.specs.Pulls.{Leaves, first_token, pull, scalar}
use Rattle.journal_reading.specs.Readings.{ReadsAs}
use Rattle.journal_reading.proofs.Rows.{converted-array, pick}

-- it reads no array and no object
pub record IsOfScalars {A : Type 0} (f : Data → Option A) : Type 0 where
  pub arrays : (ds : Items) → f (array ds) ≡ None
  pub objects : (ms : Members) → f (object ms) ≡ None

no_array : {A : Type 0} (f : Data → Option A) → IsOfScalars f → (o : Option (Items × List Token)) → converted f (parse_map array o) ≡ None
no_array f s None = refl
no_array f s (Some p) = rw (s.arrays p.0) refl

no_object_data : {A : Type 0} (f : Data → Option A) → IsOfScalars f → (o : Option Members) (r : List Token) → converted f (option_map (λ d. (d, r)) (option_map object o)) ≡ None
no_object_data f s None r = refl
no_object_data f s (Some ms) r = rw (s.objects ms) refl

no_object : {A : Type 0} (f : Data → Option A) → IsOfScalars f → (o : Option (json.Members × List Token)) → converted f (converted of_json (parse_map json.object o)) ≡ None
no_object f s None = refl
no_object f s (Some p) = no_object_data f s (of_members p.0 no_members) p.1

-- what is due of a token and those behind it
abbrev pub due : {A : Type 0} → (Data → Option A) → Token → List Token → Option (A × List Token)
due f t r = option_map (λ x. (x, r)) (scalar t >>= f)

by_number : {A : Type 0} (f : Data → Option A) (o : Option Num) (r : List Token) → converted f (option_map (λ b. (b, r)) (option_map number o)) ≡ option_map (λ x. (x, r)) (option_map number o >>= f)
by_number f None r = refl
by_number f (Some n) r = refl

module _ {A : Type 0} (f : Data → Option A) (s : IsOfScalars f) where
  pub pull_token : (d : ℕ) (t : Token) (r : List Token) → pull f d (t ∷ r) ≡ due f t r
  unfolding value
  pull_token zero token.begin_object r = refl
  pull_token (suc d) token.begin_object r = no_object f s (members (value d) (length r) r)
  pull_token zero token.begin_array r = refl
  pull_token (suc d) token.begin_array r = let o = items (value d) (length r) r in ap (converted f) (converted-array o) ∙ no_array f s (converted of_items o)
  pull_token zero token.end_object r = refl
  pull_token (suc d) token.end_object r = refl
  pull_token zero token.end_array r = refl
  pull_token (suc d) token.end_array r = refl
  pull_token zero (token.key x) r = refl
  pull_token (suc d) (token.key x) r = refl
  pull_token zero (token.string x) r = refl
  pull_token (suc d) (token.string x) r = refl
  pull_token zero (token.number x) r = by_number f (number_of x) r
  pull_token (suc d) (token.number x) r = by_number f (number_of x) r
  pull_token zero (token.boolean x) r = refl
  pull_token (suc d) (token.boolean x) r = refl
  pull_token zero token.null r = refl
  pull_token (suc d) token.null r = refl
  pull_token zero token.bad r = refl
  pull_token (suc d) token.bad r = refl

  pub pull_nothing : (d : ℕ) → pull f d [] ≡ None
  unfolding value
  pull_nothing zero = refl
  pull_nothing (suc d) = refl

  none_pulled : (d : ℕ) (ts : List Token) → first_token ts ≡ None → pull f d ts ≡ None
  none_pulled d [] e = pull_nothing d
  none_pulled d (t ∷ ts) e = absurd (cc)

pub with_rest : {A B : Type 0} (see : A → B) (left : List Token) (r : Result A Misread) (o : Option B) → ReadsAs see r o → Leaves see left r (option_map (λ x. (x, left)) o)
with_rest see left (Ok x) o e = ap (option_map (λ y. (y, left))) e
with_rest see left (Err misread.Otherwise) o e = ap (option_map (λ y. (y, left))) e
with_rest see left (Err misread.NoMemory) o e = tt

-- what is read of the token is read of the value
pub of_token : {A B : Type 0} (see : A → B) (f : Data → Option B) → IsOfScalars f → (d : ℕ) (old : List Token) (t : Token) (new : List Token) (r : Result A Misread) → first_token old ≡ Some (t, new) → ReadsAs see r (scalar t >>= f) → Leaves see new r (pull f d old)
of_token see f s d [] t new r is read = absurd (cc)
of_token see f s d (w ∷ ws) t new r is read =
    let same : w ∷ ws ≡ t ∷ new = ap (λ p. p.0 ∷ p.1) (ap (pick (w, ws)) is) in
    subst (λ ts. Leaves see new r (pull f d ts)) (sym same) (subst (Leaves see new r) (sym (pull_token f s d t new)) (with_rest see new r (scalar t >>= f) read))

pub of_nothing : {A : Type 0} (f : Data → Option A) → IsOfScalars f → (d : ℕ) (old : List Token) → first_token old ≡ None → pull f d old ≡ None
of_nothing f s d old is = none_pulled f s d old is

-- ---- what is read of scalars

pub reads-count : IsOfScalars count_in
reads-count = record { arrays = λ ds. refl; objects = λ ms. refl }

pub reads-signed : IsOfScalars signed_in
reads-signed = record { arrays = λ ds. refl; objects = λ ms. refl }

pub reads-flag : IsOfScalars flag_in
reads-flag = record { arrays = λ ds. refl; objects = λ ms. refl }

pub reads-maybe : IsOfScalars maybe_in
reads-maybe = record { arrays = λ ds. refl; objects = λ ms. refl }

pub reads-text : IsOfScalars text_in
reads-text = record { arrays = λ ds. refl; objects = λ ms. refl }

pub reads-content : IsOfScalars content_in
reads-content = record { arrays = λ ds. refl; objects = λ ms. refl }
