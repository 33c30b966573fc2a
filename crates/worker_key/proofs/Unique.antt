-- Two keys with the same canonical bytes are equal.
use Rattle.std.proofs.Common.{◌≡◌, ◌≢◌, get_or, ℕ, ◌*◌, ◌^◌, ◌<◌, ◌≤◌, Bool, true, false, List, [], ◌∷◌, ◌++◌, length, refl, sym, ap, ◌∙◌, append_assoc, arith}
use Rattle.std.proofs.lemmas.Grind.{flat_map-append}
use Rattle.std.proofs.lemmas.Nat.{from_be_bytes-to_be_bytes_8}
use Rattle.std.proofs.lemmas.Fmt.{decimal_injective, length-decimal-le}
use Rattle.std.specs.Fmt.{decimal}
use Rattle.std.specs.Int.{w64, to_be_bytes, from_be_bytes}
use Rattle.std.specs.List.{flat_map}
use Rattle.worker_key.specs.declared.key.Mode.{Mode}
use Rattle.worker_key.specs.declared.key.Mode.TheVariants as mode
use Rattle.worker_key.specs.declared.key.Named.{Named}
use Rattle.worker_key.specs.declared.key.WorkerKey.{WorkerKey}
use Rattle.worker_key.specs.Keys.{AreShort, IsCountable, canonical, counted, listed, letters, pairs, protocol_letter, mode_letter, cancel_digit}

-- two fronts of one length end at one place
fronts : (us vs xs ys : List ℕ) → length us ≡ length vs → us ++ xs ≡ vs ++ ys → (us ≡ vs) × (xs ≡ ys)
fronts [] [] xs ys l e = (refl, e)
fronts [] (b ∷ vs) xs ys l e = cc
fronts (a ∷ us) [] xs ys l e = cc
fronts (a ∷ us) (b ∷ vs) xs ys l e =
    let same : a ≡ b = cc in
    let rest : us ++ xs ≡ vs ++ ys = cc in
    let parts = fronts us vs xs ys (omega arith) rest in
    (ap (λ x. x ∷ us) same ∙ ap (λ x. b ∷ x) parts.0, parts.1)

-- a counted string ends where its number says
pub first_counted : (x y xs ys : List ℕ) → length x < 2 ^ 64 → length y < 2 ^ 64 → counted x ++ xs ≡ counted y ++ ys → (x ≡ y) × (xs ≡ ys)
unfolding counted
first_counted x y xs ys short_x short_y e =
    let e' : to_be_bytes w64 (length x) ++ (x ++ xs) ≡ to_be_bytes w64 (length y) ++ (y ++ ys) =
    sym (append_assoc (to_be_bytes w64 (length x)) x xs) ∙ e ∙ append_assoc (to_be_bytes w64 (length y)) y ys in
    let numbers = fronts (to_be_bytes w64 (length x)) (to_be_bytes w64 (length y)) (x ++ xs) (y ++ ys) refl e' in
    let lengths : length x ≡ length y =
    sym (from_be_bytes-to_be_bytes_8 (length x) short_x) ∙ ap (λ b. from_be_bytes w64 b) numbers.0 ∙ from_be_bytes-to_be_bytes_8 (length y) short_y in
    fronts x y xs ys lengths numbers.1

pub many_counted : (us vs : List (List ℕ)) (xs ys : List ℕ) → length us ≡ length vs → AreShort us → AreShort vs → flat_map counted us ++ xs ≡ flat_map counted vs ++ ys → (us ≡ vs) × (xs ≡ ys)
many_counted [] [] xs ys l short_us short_vs e = (refl, e)
many_counted [] (b ∷ vs) xs ys l short_us short_vs e = cc
many_counted (a ∷ us) [] xs ys l short_us short_vs e = cc
many_counted (a ∷ us) (b ∷ vs) xs ys l short_us short_vs e =
    let e' : counted a ++ (flat_map counted us ++ xs) ≡ counted b ++ (flat_map counted vs ++ ys) =
    sym (append_assoc (counted a) (flat_map counted us) xs) ∙ e ∙ append_assoc (counted b) (flat_map counted vs) ys in
    let first = first_counted a b (flat_map counted us ++ xs) (flat_map counted vs ++ ys) short_us.0 short_vs.0 e' in
    let rest = many_counted us vs xs ys (omega arith) short_us.1 short_vs.1 first.1 in
    (ap (λ x. x ∷ us) first.0 ∙ ap (λ x. b ∷ x) rest.0, rest.1)

-- ---- numbers, lists of words and lists of pairs

short_decimal : (n : ℕ) → n < 2 ^ 64 → length (decimal n) < 2 ^ 64
short_decimal n small =
    let few : length (decimal n) ≤ 20 = length-decimal-le 20 n (omega arith) (omega arith) small in omega arith

first_listed : (n m : ℕ) (us vs : List (List ℕ)) (xs ys : List ℕ) → n < 2 ^ 64 → m < 2 ^ 64 → (n ≡ m → length us ≡ length vs) → AreShort us → AreShort vs
    → listed n us ++ xs ≡ listed m vs ++ ys → (us ≡ vs) × (xs ≡ ys)
first_listed n m us vs xs ys few_us few_vs lengths short_us short_vs e =
    let e' = sym (append_assoc (counted (decimal n)) (flat_map counted us) xs) ∙ e ∙ append_assoc (counted (decimal m)) (flat_map counted vs) ys in
    let numbers = first_counted (decimal n) (decimal m) (flat_map counted us ++ xs) (flat_map counted vs ++ ys) (short_decimal n few_us) (short_decimal m few_vs) e' in
    many_counted us vs xs ys (lengths (decimal_injective n m few_us few_vs numbers.0)) short_us short_vs numbers.1

length-pairs : (ns : List Named) → length (pairs ns) ≡ 2 * length ns
length-pairs [] = refl
length-pairs (n ∷ ns) = let rest = length-pairs ns in omega arith

same_named : (n m : Named) → n.name ≡ m.name → n.value ≡ m.value → n ≡ m
same_named n m name value =
    let with_name : List ℕ → Named = λ v. record { name = v; value = n.value } in
    let with_value : List ℕ → Named = λ v. record { name = m.name; value = v } in
    ap with_name name ∙ ap with_value value

same_pairs : (ns ms : List Named) → pairs ns ≡ pairs ms → ns ≡ ms
same_pairs [] [] e = refl
same_pairs [] (m ∷ ms) e = cc
same_pairs (n ∷ ns) [] e = cc
same_pairs (n ∷ ns) (m ∷ ms) e =
    let name : n.name ≡ m.name = cc in
    let value : n.value ≡ m.value = cc in
    let more : pairs ns ≡ pairs ms = cc in
    let first : n ≡ m = same_named n m name value in
    let rest : ns ≡ ms = same_pairs ns ms more in
    ap (λ x. x ∷ ns) first ∙ ap (λ xs. m ∷ xs) rest

-- ---- the three letters

-- the two texts are one letter each, and these differ
other_letter : (a b : ℕ) → a ∷ [] ≡ b ∷ [] → a ≢ b → ⊥
other_letter a b e differ = differ (ap (λ s. get_or s 0 0) e)

same_json : (a b : Bool) → protocol_letter a ≡ protocol_letter b → a ≡ b
same_json true true e = refl
same_json true false e = absurd (other_letter 106 112 e (omega arith))
same_json false true e = absurd (other_letter 112 106 e (omega arith))
same_json false false e = refl

same_cancel : (a b : Bool) → cancel_digit a ≡ cancel_digit b → a ≡ b
same_cancel true true e = refl
same_cancel true false e = absurd (other_letter 49 48 e (omega arith))
same_cancel false true e = absurd (other_letter 48 49 e (omega arith))
same_cancel false false e = refl

same_mode : (a b : Mode) → mode_letter a ≡ mode_letter b → a ≡ b
same_mode mode.Single mode.Single e = refl
same_mode mode.Single mode.Multi e = absurd (other_letter 115 109 e (omega arith))
same_mode mode.Single mode.Boxed e = absurd (other_letter 115 98 e (omega arith))
same_mode mode.Multi mode.Single e = absurd (other_letter 109 115 e (omega arith))
same_mode mode.Multi mode.Multi e = refl
same_mode mode.Multi mode.Boxed e = absurd (other_letter 109 98 e (omega arith))
same_mode mode.Boxed mode.Single e = absurd (other_letter 98 115 e (omega arith))
same_mode mode.Boxed mode.Multi e = absurd (other_letter 98 109 e (omega arith))
same_mode mode.Boxed mode.Boxed e = refl

short_json : (a : Bool) → length (protocol_letter a) < 2 ^ 64
short_json true = omega arith
short_json false = omega arith

short_cancel : (a : Bool) → length (cancel_digit a) < 2 ^ 64
short_cancel true = omega arith
short_cancel false = omega arith

short_mode : (a : Mode) → length (mode_letter a) < 2 ^ 64
short_mode mode.Single = omega arith
short_mode mode.Multi = omega arith
short_mode mode.Boxed = omega arith

short_letters : (k : WorkerKey) → AreShort (letters k)
short_letters k = (short_json k.json, (short_mode k.mode, (short_cancel k.cancel, tt)))

three : (a b c x y z : List ℕ) → a ∷ b ∷ c ∷ [] ≡ x ∷ y ∷ z ∷ [] → (a ≡ x) × (b ≡ y) × (c ≡ z)
three a b c x y z e = (cc, cc, cc)

-- ---- the whole

pub nested : WorkerKey → List ℕ
nested k = counted k.mnemonic ++ (listed (length k.startup) k.startup ++ (listed (length k.env) (pairs k.env) ++ (listed (length k.tools) (pairs k.tools) ++ flat_map counted (letters k))))

canonical-nested : (k : WorkerKey) → canonical k ≡ nested k
unfolding nested
canonical-nested k = simp (flat_map-append, append_assoc)

same_key : (k l : WorkerKey) → k.mnemonic ≡ l.mnemonic → k.startup ≡ l.startup → k.env ≡ l.env → k.tools ≡ l.tools → k.json ≡ l.json → k.mode ≡ l.mode → k.cancel ≡ l.cancel → k ≡ l
same_key k l a b c d e f g =
    let with_mnemonic : List ℕ → WorkerKey = λ v. record k { mnemonic = v } in
    let with_startup : List (List ℕ) → WorkerKey = λ v. record k { mnemonic = l.mnemonic; startup = v } in
    let with_env : List Named → WorkerKey = λ v. record k { mnemonic = l.mnemonic; startup = l.startup; env = v } in
    let with_tools : List Named → WorkerKey = λ v. record k { mnemonic = l.mnemonic; startup = l.startup; env = l.env; tools = v } in
    let with_json : Bool → WorkerKey = λ v. record l { json = v; mode = k.mode; cancel = k.cancel } in
    let with_mode : Mode → WorkerKey = λ v. record l { mode = v; cancel = k.cancel } in
    let with_cancel : Bool → WorkerKey = λ v. record l { cancel = v } in
    ap with_mnemonic a ∙ ap with_startup b ∙ ap with_env c ∙ ap with_tools d ∙ ap with_json e ∙ ap with_mode f ∙ ap with_cancel g

pub same_bytes : (k l : WorkerKey) → IsCountable k → IsCountable l → canonical k ≡ canonical l → k ≡ l
unfolding nested
same_bytes k l of_k of_l e =
    let e0 = sym (canonical-nested k) ∙ e ∙ canonical-nested l in
    let p1 = first_counted k.mnemonic l.mnemonic _ _ of_k.short_mnemonic of_l.short_mnemonic e0 in
    let p2 = first_listed (length k.startup) (length l.startup) k.startup l.startup _ _ of_k.few_words of_l.few_words (λ n. n) of_k.short_words of_l.short_words p1.1 in
    let p3 = first_listed (length k.env) (length l.env) (pairs k.env) (pairs l.env) _ _ of_k.few_variables of_l.few_variables (λ n. omega (arith, length-pairs k.env, length-pairs l.env)) of_k.short_variables of_l.short_variables p2.1 in
    let p4 = first_listed (length k.tools) (length l.tools) (pairs k.tools) (pairs l.tools) _ _ of_k.few_tools of_l.few_tools (λ n. omega (arith, length-pairs k.tools, length-pairs l.tools)) of_k.short_tools of_l.short_tools p3.1 in
    let p5 = many_counted (letters k) (letters l) [] [] refl (short_letters k) (short_letters l) (ap (λ x. x ++ []) p4.1) in
    let p6 : (protocol_letter k.json ≡ protocol_letter l.json) × (mode_letter k.mode ≡ mode_letter l.mode) × (cancel_digit k.cancel ≡ cancel_digit l.cancel) = three _ _ _ _ _ _ p5.0 in
    same_key k l p1.0 p2.0 (same_pairs k.env l.env p3.0) (same_pairs k.tools l.tools p4.0) (same_json k.json l.json p6.0) (same_mode k.mode l.mode p6.1) (same_cancel k.cancel l.cancel p6.2)

-- what the writer has put, part by part, is the canonical form
pub written : (k : WorkerKey) (o1 o2 o3 o4 o5 : List ℕ) → o1 ≡ counted k.mnemonic → o2 ≡ o1 ++ listed (length k.startup) k.startup
    → o3 ≡ o2 ++ listed (length k.env) (pairs k.env) → o4 ≡ o3 ++ listed (length k.tools) (pairs k.tools)
    → o5 ≡ o4 ++ flat_map counted (letters k) → o5 ≡ canonical k
unfolding nested
written k o1 o2 o3 o4 o5 a b c d e =
    e ∙ rw (d, c, b, a) (simp append_assoc) ∙ sym (canonical-nested k)
