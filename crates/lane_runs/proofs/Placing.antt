-- Things are placed, one after the other.
use Rattle.std.proofs.Common.{◌≡◌, ℕ, zero, suc, ◌<◌, ◌⊎◌, inl, inr, List, [], ◌∷◌, ◌++◌, length, map, Option, Some, None, get_or, set, refl, sym, ◌∙◌, ap, subst, arith, append_assoc, append-nil, length-set, replicate, get_or-set_same, get_or-set_other, All}
use Rattle.std.proofs.lemmas.List.{length-replicate}
use Rattle.std.proofs.lemmas.List.Elements.{All-head, All-tail}
use Rattle.std.proofs.lemmas.Bool.{cases_eq}
use Rattle.lane_laws.proofs.Ins.{in_front, in_back, in_either}
use Rattle.lane_laws.specs.Numbers.{In, Distinct}
use Rattle.lane_runs.specs.Placed.{Numbered, IsPlaced, placed_all}

module _ {T : Type 0} where
  abbrev pub line_of : Numbered T → ℕ
  line_of x = x.line

  in_lines : (x : Numbered T) (xs : List (Numbered T)) → In x xs → In x.line (map line_of xs)
  in_lines x (y ∷ ys) (inl e) = inl (ap line_of e)
  in_lines x (y ∷ ys) (inr h) = inr (in_lines x ys h)
  in_lines x [] h = absurd h

  -- what stands before the next thing has another number
  other_line : (front rest : List (Numbered T)) (x y : Numbered T) → Distinct (map line_of (front ++ x ∷ rest)) → In y front → y.line ≡ x.line → ⊥
  other_line (z ∷ zs) rest x y d (inl e) same =
      d.0 (subst (λ (n : ℕ). In n (map line_of (zs ++ x ∷ rest))) (sym same ∙ ap line_of e) (in_lines x (zs ++ x ∷ rest) (in_back x zs (x ∷ rest) (inl refl))))
  other_line (z ∷ zs) rest x y d (inr h) same = other_line zs rest x y d.1 h same
  other_line [] rest x y d h same = absurd h

  All-get : (P : Numbered T → Type 0) (front rest : List (Numbered T)) (x : Numbered T) → All P (front ++ x ∷ rest) → P x
  All-get P [] rest x all = All-head P x rest all
  All-get P (y ∷ ys) rest x all = All-get P ys rest x (All-tail P y (ys ++ x ∷ rest) all)

  -- some of the things are placed, and the rest is still to come
  pub record Placing (count : ℕ) (things rest : List (Numbered T)) (places : List (Option T)) : Type 0 where
    pub front : List (Numbered T)
    pub split : things ≡ front ++ rest
    pub placed : IsPlaced count front places

  pub places_none : (count : ℕ) (things rest : List (Numbered T)) (places : List (Option T)) → rest ≡ things → IsPlaced count [] places → Placing count things rest places
  places_none count things rest places e p = record { front = []; split = sym e; placed = p }

  pub places_all : (count : ℕ) (things rest : List (Numbered T)) (places : List (Option T)) → rest ≡ [] → Placing count things rest places → IsPlaced count things places
  places_all count things rest places e p =
      subst (λ (xs : List (Numbered T)). IsPlaced count xs places) (sym (p.split ∙ (ap (λ (xs : List (Numbered T)). p.front ++ xs) e ∙ append-nil p.front))) p.placed

  all_with : (front : List (Numbered T)) (rest : List (Numbered T)) (places : List (Option T)) (x y : Numbered T)
      → ((z : Numbered T) → In z front → get_or places z.line None ≡ Some z.thing) → Distinct (map line_of (front ++ x ∷ rest)) → x.line < length places
      → In y front ⊎ In y (x ∷ []) → get_or (set places x.line (Some x.thing)) y.line None ≡ Some y.thing
  all_with front rest places x y all d lt (inl h) =
      get_or-set_other places x.line y.line (Some x.thing) None (other_line front rest x y d h) ∙ all y h
  all_with front rest places x y all d lt (inr (inl e)) =
      subst (λ (z : Numbered T). get_or (set places x.line (Some x.thing)) z.line None ≡ Some z.thing) (sym e) (get_or-set_same places x.line (Some x.thing) None lt)
  all_with front rest places x y all d lt (inr (inr h)) = absurd h

  some_same : (t u : T) → Some t ≡ Some u → t ≡ u
  some_same t u e = cc

  only_with : (front : List (Numbered T)) (places : List (Option T)) (x : Numbered T) (l : ℕ) (t : T)
      → ((k : ℕ) (u : T) → get_or places k None ≡ Some u → In (record { line = k; thing = u }) front) → x.line < length places
      → (l ≡ x.line) ⊎ (l ≡ x.line → ⊥)
      → get_or (set places x.line (Some x.thing)) l None ≡ Some t → In (record { line = l; thing = t }) (front ++ x ∷ [])
  only_with front places x l t only lt (inl e) h =
      let at : get_or (set places x.line (Some x.thing)) x.line None ≡ Some t = subst (λ (k : ℕ). get_or (set places x.line (Some x.thing)) k None ≡ Some t) e h in
      let same : x.thing ≡ t = some_same x.thing t (sym (get_or-set_same places x.line (Some x.thing) None lt) ∙ at) in
      let here : record { line = l; thing = t } ≡ x = ap (λ (k : ℕ). record { line = k; thing = t }) e ∙ ap (λ (u : T). record { line = x.line; thing = u }) (sym same) in
      in_back (record { line = l; thing = t }) front (x ∷ []) (inl here)
  only_with front places x l t only lt (inr ne) h =
      in_front (record { line = l; thing = t }) front (x ∷ []) (only l t (sym (get_or-set_other places x.line l (Some x.thing) None ne) ∙ h))

  pub places_one : (count : ℕ) (things rest rest' : List (Numbered T)) (places : List (Option T)) (x : Numbered T)
      → Placing count things rest places → rest ≡ x ∷ rest' → Distinct (map line_of things) → x.line < count
      → Placing count things rest' (set places x.line (Some x.thing))
  places_one count things rest rest' places x was e distinct lt = record {
    front = was.front ++ x ∷ [];
    split = was.split ∙ (ap (λ (xs : List (Numbered T)). was.front ++ xs) e ∙ sym (append_assoc was.front (x ∷ []) rest'));
    placed = record {
      as_many = length-set places x.line (Some x.thing) ∙ was.placed.as_many;
      all = λ y h. all_with was.front rest' places x y was.placed.all (subst (λ (xs : List (Numbered T)). Distinct (map line_of xs)) (was.split ∙ ap (λ (xs : List (Numbered T)). was.front ++ xs) e) distinct)
          (let m = was.placed.as_many in omega arith) (in_either y was.front (x ∷ []) h);
      only = λ l t h. only_with was.front places x l t was.placed.only (let m = was.placed.as_many in omega arith) (cases_eq l x.line) h;
    };
  }

  all_places : (count : ℕ) (things rest : List (Numbered T)) (places : List (Option T))
      → Placing count things rest places → Distinct (map line_of things)
      → All (λ (x : Numbered T). x.line < count) rest → IsPlaced count things (placed_all places rest)
  all_places count things [] places was d all = places_all count things [] places refl was
  all_places count things (x ∷ xs) places was d all =
      all_places count things xs (set places x.line (Some x.thing))
      (places_one count things (x ∷ xs) xs places x was refl d
      (All-head (λ (y : Numbered T). y.line < count) x xs all)) d
      (All-tail (λ (y : Numbered T). y.line < count) x xs all)

  -- ---- nothing is placed yet

  none_there : (n l : ℕ) (t : T) → get_or (replicate n None) l None ≡ Some t → ⊥
  none_there zero l t h = absurd (cc)
  none_there (suc n) zero t h = absurd (cc)
  none_there (suc n) (suc l) t h = none_there n l t h

  none_placed : (n : ℕ) → IsPlaced {T = T} n [] (replicate n None)
  none_placed n = record {
    as_many = length-replicate n None;
    all = λ x h. absurd h;
    only = λ l t h. absurd (none_there n l t h);
  }

  -- things of different lines, each at the place of its line
  pub placed : (count : ℕ) (things : List (Numbered T)) → Distinct (map line_of things)
      → All (λ (x : Numbered T). x.line < count) things
      → IsPlaced count things (placed_all (replicate count None) things)
  placed count things d all =
      all_places count things things (replicate count None)
      (places_none count things things (replicate count None) refl (none_placed count)) d all
