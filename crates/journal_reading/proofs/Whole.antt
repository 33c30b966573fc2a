-- A row that is of no form, and a whole text by its one value.
use Rattle.std.proofs.Common.{◌≡◌, ℕ, List, [], ◌∷◌, Option, Some, None, option_map, option_and_then, refl, sym, ap, ◌∙◌}
use Rattle.json.specs.Json as json
use Rattle.json.specs.Json.{if_last, value}
use Rattle.json.specs.Lex.{tokens}
use Rattle.json.specs.Token.{Token}
use Rattle.serde_json.specs.Data.{Data, Items}
use Rattle.serde_json.specs.Read.{converted, of_json}
use Rattle.journal_text.specs.Options.{◌>>=◌}
use Rattle.journal_text.specs.Values.{datas}
use Rattle.journal_reading.specs.Pulls.{if_over, pull, pull_row, rest_of_row, text_as}
use Rattle.journal_reading.proofs.Rows.{found, refused}

none_converted : {A : Type 0} (f : List Data → Option A) → ((ds : List Data) → f ds ≡ None) → (o : Option (Items × List Token)) → converted (λ ds. f (datas ds)) o ≡ None
none_converted f none None = refl
none_converted f none (Some p) = ap (option_map (λ b. (b, p.1))) (none (datas p.0))

pub no_such_row : {A : Type 0} (f : List Data → Option A) → ((ds : List Data) → f ds ≡ None) → (d : ℕ) (ts : List Token) → pull_row f d ts ≡ None
no_such_row f none d ts = none_converted f none (rest_of_row d ts)

-- ---- a text

abbrev of_value : {A : Type 0} → (Data → Option A) → Option (json.Json × List Token) → Option A
of_value f o = option_and_then of_json (option_and_then (λ p. if_last p.0 p.1) o) >>= f

abbrev pulled : {A : Type 0} → (Data → Option A) → Option (json.Json × List Token) → Option (A × List Token)
pulled f o = converted f (converted of_json o)

none_of : {A : Type 0} (f : Data → Option A) (q : Option Data) (r : List Token) → converted f (option_map (λ b. (b, r)) q) ≡ None → (q >>= f) ≡ None
none_of f None r e = refl
none_of f (Some d) r e = refused r (f d) e

no_value : {A : Type 0} (f : Data → Option A) (o : Option (json.Json × List Token)) → pulled f o ≡ None → of_value f o ≡ None
no_value f None e = refl
no_value f (Some (j, [])) e = none_of f (of_json j) [] e
no_value f (Some (j, t ∷ ts)) e = refl

some_of : {A : Type 0} (f : Data → Option A) (q : Option Data) (r s : List Token) (x : A) → converted f (option_map (λ b. (b, r)) q) ≡ Some (x, s) → (r ≡ s) × ((q >>= f) ≡ Some x)
some_of f None r s x e = absurd (cc)
some_of f (Some d) r s x e = found x r s (f d) x e

more_behind : {A : Type 0} (f : Data → Option A) (o : Option (json.Json × List Token)) (x : A) (s : List Token) → pulled f o ≡ Some (x, s) → if_over s ≡ None → of_value f o ≡ None
more_behind f None x s e more = refl
more_behind f (Some (j, [])) x s e more =
    let last = ap if_over (some_of f (of_json j) [] s x e).0 ∙ more in
    absurd (cc)
more_behind f (Some (j, t ∷ ts)) x s e more = refl

one_value : {A : Type 0} (f : Data → Option A) (o : Option (json.Json × List Token)) (x : A) (s : List Token) → pulled f o ≡ Some (x, s) → if_over s ≡ Some tt → of_value f o ≡ Some x
one_value f None x s e over = absurd (cc)
one_value f (Some (j, [])) x s e over = (some_of f (of_json j) [] s x e).1
one_value f (Some (j, t ∷ ts)) x s e over =
    let last = ap if_over (some_of f (of_json j) (t ∷ ts) s x e).0 ∙ over in
    absurd (cc)

-- it spells nothing where its value can't be read, or where more follows; and else its value
pub no_text : {A : Type 0} (f : Data → Option A) (text : List ℕ) (ts : List Token) → ts ≡ tokens text → pull f 127 ts ≡ None → text_as f text ≡ None
no_text f text ts is e = no_value f (value 127 (tokens text)) (ap (pull f 127) (sym is) ∙ e)

pub longer_text : {A : Type 0} (f : Data → Option A) (text : List ℕ) (ts rest : List Token) (x : A) → ts ≡ tokens text → pull f 127 ts ≡ Some (x, rest) → if_over rest ≡ None → text_as f text ≡ None
longer_text f text ts rest x is e more = more_behind f (value 127 (tokens text)) x rest (ap (pull f 127) (sym is) ∙ e) more

pub whole_text : {A : Type 0} (f : Data → Option A) (text : List ℕ) (ts rest : List Token) (x : A) → ts ≡ tokens text → pull f 127 ts ≡ Some (x, rest) → if_over rest ≡ Some tt → text_as f text ≡ Some x
whole_text f text ts rest x is e over = one_value f (value 127 (tokens text)) x rest (ap (pull f 127) (sym is) ∙ e) over
