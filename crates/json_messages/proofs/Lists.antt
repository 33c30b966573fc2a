-- The elements of a list, read one after the other.
use Rattle.std.proofs.Common.{◌≡◌, ℕ, ◌+◌, ◌<◌, ◌≤◌, List, [], ◌∷◌, ◌++◌, length, get_or, map, take, drop, true, Option, Some, None, Result, Ok, Err, refl, sym, ap, ◌∙◌, append_assoc, inl, inr}
use Rattle.std.proofs.lemmas.List.{at_drop_more, take_more}
use Rattle.std.proofs.lemmas.Str.{is_utf8-from_IsUtf8}
use Rattle.std.specs.Str.{IsUtf8, is_utf8}
use Rattle.serde_json.specs.Read.{read}
use Rattle.serde_json.specs.Written.{compact_text}
use Rattle.json_messages.specs.Top.{json_in}
use Rattle.std.specs.Option.{option_map}
use Rattle.serde_json.specs.Data.{Data}
use Rattle.serde_json.specs.Find.{as_array}
use Rattle.serde_json.specs.View.{view, items_view}
use Rattle.serde_json.specs.declared.value.Value.{Value}
use Rattle.wire_messages.specs.declared.fault.JsonKey.{JsonKey}
use Rattle.wire_messages.specs.declared.fault.MessageFault.{MessageFault}
use Rattle.json_messages.specs.Answers.{and_then, Refuses}
use Rattle.json_messages.specs.Values.{datas, each, elements, of_kind}

-- these values, and then those
abbrev pub behind : {A : Type 0} → List A → Result (List A) MessageFault → Result (List A) MessageFault
behind xs (Ok ys) = Ok (xs ++ ys)
behind xs (Err e) = Err e

pub behind_none : {A : Type 0} (r : Result (List A) MessageFault) → r ≡ behind [] r
behind_none (Ok ys) = refl
behind_none (Err e) = refl

pushed : {A : Type 0} (xs : List A) (x : A) (r : Result (List A) MessageFault) → behind xs (and_then r (λ ys. Ok (x ∷ ys))) ≡ behind (xs ++ x ∷ []) r
pushed xs x (Ok ys) = ap Ok (sym (append_assoc xs (x ∷ []) ys))
pushed xs x (Err e) = refl

-- the next element is read
pub each_more : {A : Type 0} (kind : Data → Result A MessageFault) (vs : List Value) (i : ℕ) (v : Value) (x : A) (all : Result (List A) MessageFault) (done after : List A) → all ≡ behind done (each kind (map view (drop i vs))) → i < length vs → v ≡ get_or vs i v → kind (view v) ≡ Ok x
    → after ≡ done ++ x ∷ [] → all ≡ behind after (each kind (map view (drop (i + 1) vs)))
each_more kind vs i v x all done after before below is read push =
    let front : map view (drop i vs) ≡ view v ∷ map view (drop (i + 1) vs) = at_drop_more (map view) vs i v below ∙ ap (λ (w : Value). view w ∷ map view (drop (i + 1) vs)) (sym is) in
    before ∙ ap (λ (ds : List Data). behind done (each kind ds)) front
    ∙ ap (λ (r : Result _ MessageFault). behind done (and_then r (λ y. and_then (each kind (map view (drop (i + 1) vs))) (λ ys. Ok (y ∷ ys))))) read
    ∙ pushed done x (each kind (map view (drop (i + 1) vs)))
    ∙ ap (λ (d : List _). behind d (each kind (map view (drop (i + 1) vs)))) (sym push)

-- or it has a fault
pub each_refused : {A : Type 0} (kind : Data → Result A MessageFault) (vs : List Value) (i : ℕ) (v : Value) (e : MessageFault) (all : Result (List A) MessageFault) (done : List A) → all ≡ behind done (each kind (map view (drop i vs))) → i < length vs → v ≡ get_or vs i v → Refuses e (kind (view v)) → Refuses e all
each_refused kind vs i v e all done before below is (inl short) = inl short
each_refused kind vs i v e all done before below is (inr fault) =
    let front : map view (drop i vs) ≡ view v ∷ map view (drop (i + 1) vs) = at_drop_more (map view) vs i v below ∙ ap (λ (w : Value). view w ∷ map view (drop (i + 1) vs)) (sym is) in
    inr (before ∙ ap (λ (ds : List Data). behind done (each kind ds)) front ∙ ap (λ (r : Result _ MessageFault). behind done (and_then r (λ y. and_then (each kind (map view (drop (i + 1) vs))) (λ ys. Ok (y ∷ ys))))) fault)

-- ---- the elements of an array

datas-items_view : (vs : List Value) → datas (items_view vs) ≡ map view vs
datas-items_view [] = refl
datas-items_view (v ∷ vs) = ap (λ ds. view v ∷ ds) (datas-items_view vs)

pub elements_of : (k : JsonKey) (d : Data) (vs : List Value) → Some (items_view vs) ≡ as_array d → elements k d ≡ Ok (map view vs)
elements_of k d vs e = ap (λ o. of_kind k (option_map datas o)) (sym e) ∙ ap Ok (datas-items_view vs)

-- ---- a text that was written

pub read_again : (d : Data) (text : List ℕ) → text ≡ compact_text d → IsUtf8 text → read text ≡ Some d → json_in (compact_text d) ≡ Ok d
read_again d text is utf8 e =
    let t : is_utf8 (compact_text d) ≡ true = ap is_utf8 (sym is) ∙ is_utf8-from_IsUtf8 text utf8 in
    let r : read (compact_text d) ≡ Some d = ap read (sym is) ∙ e in
    rw (t, r) refl

-- ---- one more element was written

pub each_written : {A : Type 0} (data_of : A → Data) (kind : Data → Result A MessageFault) (xs : List A) (i : ℕ) (x : A) (all : Result (List A) MessageFault) → all ≡ behind (take i xs) (each kind (map data_of (drop i xs))) → i < length xs → x ≡ get_or xs i x → kind (data_of x) ≡ Ok x
    → all ≡ behind (take (i + 1) xs) (each kind (map data_of (drop (i + 1) xs)))
each_written {A} data_of kind xs i x all before below is read =
    let front : map data_of (drop i xs) ≡ data_of x ∷ map data_of (drop (i + 1) xs) = at_drop_more (map data_of) xs i x below ∙ ap (λ (w : A). data_of w ∷ map data_of (drop (i + 1) xs)) (sym is) in
    let push : take (i + 1) xs ≡ take i xs ++ x ∷ [] = take_more xs i x below ∙ ap (λ (w : A). take i xs ++ w ∷ []) (sym is) in
    before ∙ ap (λ (ds : List Data). behind (take i xs) (each kind ds)) front
    ∙ ap (λ (r : Result A MessageFault). behind (take i xs) (and_then r (λ y. and_then (each kind (map data_of (drop (i + 1) xs))) (λ ys. Ok (y ∷ ys))))) read
    ∙ pushed (take i xs) x (each kind (map data_of (drop (i + 1) xs)))
    ∙ ap (λ (d : List A). behind d (each kind (map data_of (drop (i + 1) xs)))) (sym push)
