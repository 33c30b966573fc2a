-- What stands at a key of a written object, and how it nests.
use Rattle.std.proofs.Common.{◌≡◌, ℕ, suc, ◌+◌, ◌≤◌, max, Bool, true, false, cond, ◌||◌, List, [], ◌∷◌, Ordering, Less, Equal, Greater, Option, Some, None, bytes_eq, refl, sym, ap, ◌∙◌, arith}
use Rattle.std.specs.Prelude.{IfSome}
use Rattle.std.specs.Ordering.{nat_cmp, match_ordering}
use Rattle.std.specs.Cmp.Lexicographic.{slice_cmp}
use Rattle.std.proofs.lemmas.Slice.Eq.{bytes_eq-Decides}
use Rattle.serde_json.specs.Data.{Data, object, Items, no_items, item, Members, no_members, member, put, depth, items_depth, members_depth}
use Rattle.serde_json.specs.Find.{get_member}
use Rattle.serde_json.specs.View.{items_of}
use Rattle.serde_json.specs.Written.{has_float, items_have_float, members_have_float}
use Rattle.serde_json.proofs.Views.{get_member-put, get_member-put_other}
use Rattle.wire_messages.specs.declared.fault.JsonKey.{JsonKey}
use Rattle.list_lemmas.specs.Options.{or_else}
use Rattle.json_messages.specs.Keys.{camel}
use Rattle.json_messages.specs.Writing.{said, members_after, object_of, array_data}

-- ---- what stands at a name

found_put : (q : List ℕ) (k : JsonKey) (d : Data) (ms : Members) (t : Bool) → bytes_eq q (camel k) ≡ t → get_member q (put (camel k) d ms) ≡ cond t (Some d) (get_member q ms)
found_put q k d ms true e = let same : q ≡ camel k = (bytes_eq-Decides q (camel k)).0 e in ap (λ (n : List ℕ). get_member n (put (camel k) d ms)) same ∙ get_member-put (camel k) d ms
found_put q k d ms false e = get_member-put_other q (camel k) d ms (λ same. absurd (let one : bytes_eq q (camel k) ≡ true = (bytes_eq-Decides q (camel k)).1 same in let both : true ≡ false = sym one ∙ e in cc))

none_put : (t : Bool) (o : Option Data) → o ≡ cond t (or_else None o) o
none_put true o = refl
none_put false o = refl

found_said : (q : List ℕ) (k : JsonKey) (o : Option Data) (ms : Members) → get_member q (said k o ms) ≡ cond (bytes_eq q (camel k)) (or_else o (get_member q ms)) (get_member q ms)
found_said q k None ms = none_put (bytes_eq q (camel k)) (get_member q ms)
found_said q k (Some d) ms = found_put q k d ms (bytes_eq q (camel k)) refl

-- what is found at a name after these parts
abbrev pub found : List ℕ → Option Data → List (JsonKey × Option Data) → Option Data
found q o [] = o
found q o (part ∷ parts) = found q (cond (bytes_eq q (camel part.0)) (or_else part.1 o) o) parts

found_after : (q : List ℕ) (ms : Members) (parts : List (JsonKey × Option Data)) → get_member q (members_after ms parts) ≡ found q (get_member q ms) parts
found_after q ms [] = refl
found_after q ms (part ∷ parts) = found_after q (said part.0 part.1 ms) parts ∙ ap (λ (o : Option Data). found q o parts) (found_said q part.0 part.1 ms)

pub found_in : (q : List ℕ) (parts : List (JsonKey × Option Data)) → get_member q (members_after no_members parts) ≡ found q None parts
found_in q parts = found_after q no_members parts

-- ---- no floats, and few levels

pub record IsPlain (n : ℕ) (d : Data) : Type 0 where
  pub exact : has_float d ≡ false
  pub shallow : depth d ≤ n

record ArePlain (n : ℕ) (ms : Members) : Type 0 where
  pub exact : members_have_float ms ≡ false
  pub shallow : members_depth ms ≤ n

neither : (a b : Bool) → a ≡ false → b ≡ false → a || b ≡ false
neither true b p q = p
neither false b p q = q

first_false : (a b : Bool) → a || b ≡ false → (a ≡ false) × (b ≡ false)
first_false true b e = absurd cc
first_false false b e = (refl, e)

float_by : (o : Ordering) (a b c : Members) → members_have_float a ≡ false → members_have_float b ≡ false → members_have_float c ≡ false → members_have_float (match_ordering o a b c) ≡ false
float_by Less a b c p q r = p
float_by Equal a b c p q r = q
float_by Greater a b c p q r = r

put_exact : (k : List ℕ) (d : Data) (ms : Members) → has_float d ≡ false → members_have_float ms ≡ false → members_have_float (put k d ms) ≡ false
put_exact k d no_members p q = neither (has_float d) false p refl
put_exact k d (member l e ms) p q =
    let h = first_false (has_float e) (members_have_float ms) q in
    float_by (slice_cmp nat_cmp k l) (member k d (member l e ms)) (member l d ms) (member l e (put k d ms))
    (neither (has_float d) (has_float e || members_have_float ms) p q)
    (neither (has_float d) (members_have_float ms) p h.1)
    (neither (has_float e) (members_have_float (put k d ms)) h.0 (put_exact k d ms p h.1))

depth_by : (o : Ordering) (a b c : Members) (n : ℕ) → members_depth a ≤ n → members_depth b ≤ n → members_depth c ≤ n → members_depth (match_ordering o a b c) ≤ n
depth_by Less a b c n p q r = p
depth_by Equal a b c n p q r = q
depth_by Greater a b c n p q r = r

put_shallow : (k : List ℕ) (d : Data) (ms : Members) (n : ℕ) → depth d ≤ n → members_depth ms ≤ n → members_depth (put k d ms) ≤ n
put_shallow k d no_members n p q = omega arith
put_shallow k d (member l e ms) n p q =
    depth_by (slice_cmp nat_cmp k l) (member k d (member l e ms)) (member l d ms) (member l e (put k d ms)) n (omega arith) (omega arith) (omega (arith, put_shallow k d ms n p (omega arith)))

said_plain : (n : ℕ) (k : JsonKey) (o : Option Data) (ms : Members) → IfSome o (IsPlain n) → ArePlain n ms → ArePlain n (said k o ms)
said_plain n k None ms p q = q
said_plain n k (Some d) ms p q = record { exact = put_exact (camel k) d ms p.exact q.exact; shallow = put_shallow (camel k) d ms n p.shallow q.shallow }

abbrev pub PlainParts : ℕ → List (JsonKey × Option Data) → Type 0
PlainParts n [] = Unit {0}
PlainParts n (part ∷ parts) = IfSome part.1 (IsPlain n) × PlainParts n parts

after_plain : (n : ℕ) (ms : Members) (parts : List (JsonKey × Option Data)) → ArePlain n ms → PlainParts n parts → ArePlain n (members_after ms parts)
after_plain n ms [] p q = p
after_plain n ms (part ∷ parts) p q = after_plain n (said part.0 part.1 ms) parts (said_plain n part.0 part.1 ms q.0 p) q.1

pub object_plain : (n : ℕ) (parts : List (JsonKey × Option Data)) → PlainParts n parts → IsPlain (n + 1) (object_of parts)
object_plain n parts p =
    let all = after_plain n no_members parts (record { exact = refl; shallow = omega arith }) p in
    let le = all.shallow in
    record { exact = all.exact; shallow = omega (arith, le) }

abbrev pub ArePlainItems : ℕ → List Data → Type 0
ArePlainItems n [] = Unit {0}
ArePlainItems n (d ∷ ds) = IsPlain n d × ArePlainItems n ds

items_exact : (n : ℕ) (ds : List Data) → ArePlainItems n ds → items_have_float (items_of ds) ≡ false
items_exact n [] p = refl
items_exact n (d ∷ ds) p = neither (has_float d) (items_have_float (items_of ds)) p.0.exact (items_exact n ds p.1)

items_shallow : (n : ℕ) (ds : List Data) → ArePlainItems n ds → items_depth (items_of ds) ≤ n
items_shallow n [] p = omega arith
items_shallow n (d ∷ ds) p = let a = p.0.shallow in let b = items_shallow n ds p.1 in omega arith

pub array_plain : (n : ℕ) (ds : List Data) → ArePlainItems n ds → IfSome (array_data ds) (IsPlain (n + 1))
array_plain n [] p = tt
array_plain n (d ∷ ds) p = let le = items_shallow n (d ∷ ds) p in record { exact = items_exact n (d ∷ ds) p; shallow = omega arith }
