-- A turn of two calls: Borrow, then Return.
use Rattle.std.proofs.Common.{◌≡◌, ℕ, ◌==◌, Bool, false, cond, List, [], ◌∷◌, ◌++◌, Option, Some, None, IsSome, sym, refl, ap, ◌∙◌, subst, eq-eqb, ne_eqb, append_assoc, ⊎_elim}
use Rattle.std.proofs.lemmas.List.{append_cancel_left}
use mathlib.Core.Logic.{dite}
use native.Mathlib.Decide.{ℕ_discrete}
use Rattle.plain_values.specs.declared.entry.Entry.{Entry}
use Rattle.seat_desk.specs.declared.view.View.{View}
use Rattle.seat_desk.specs.History.{entry, after}
use Rattle.seat_desk.specs.Desks.{AnswersThen}
use Rattle.desk_machines.specs.declared.locker.Ask.{Ask}
use Rattle.desk_machines.specs.declared.locker.Ask.TheVariants.{Leave, Borrow, Return}
use Rattle.desk_machines.specs.declared.locker.Answer.{Answer}
use Rattle.desk_machines.specs.declared.locker.Answer.TheVariants.{Left, Busy, Taken, Nothing, Lent, Returned}
use Rattle.desk_machines.specs.declared.locker.Spot.{Spot}
use Rattle.desk_machines.specs.declared.locker.Spot.TheVariants.{Empty, Here, Away}
use Rattle.desk_machines.specs.declared.locker.Token.{Token}
use Rattle.desk_machines.specs.Shelf.{reply_of, spot_then, spot_of, changes, ComesOut}
use Rattle.desk_machines.specs.ShelfLaws.{fold-snoc, here_still}
use Rattle.desk_machines.specs.Stamps.{answer_to}

abbrev H : Type 0
H = List (Entry Ask Answer)

lent_from : (s : Spot) (lane : ℕ) → reply_of s lane Borrow ≡ Lent → s ≡ Here lane
lent_from Empty lane e = absurd (cc)
lent_from (Away o) lane e = absurd (cc)
lent_from (Here o) lane e = dite (ℕ_discrete lane o) (λ same. ap Here (sym same))
    (λ other. absurd (let b : (lane == o) ≡ false = ne_eqb lane o other in let x : Nothing ≡ Lent = sym (ap (λ (t : Bool). cond t Lent Nothing) b) ∙ e in cc))

-- the spot after the token was lent, and after it was put back
lent_then : (h : H) (lane : ℕ) → spot_of h ≡ Here lane → spot_of (h ++ entry lane Borrow Lent ∷ []) ≡ Away lane
lent_then h lane e = fold-snoc Empty h (entry lane Borrow Lent) ∙ (ap (λ (s : Spot). spot_then s lane Lent) e ∙ ap (λ (t : Bool). cond t (Away lane) (Here lane)) (eq-eqb lane lane refl))

back_then : (h : H) (lane : ℕ) → spot_of h ≡ Away lane → spot_of (h ++ entry lane Return Returned ∷ []) ≡ Here lane
back_then h lane e = fold-snoc Empty h (entry lane Return Returned) ∙ (ap (λ (s : Spot). spot_then s lane Returned) e ∙ ap (λ (t : Bool). cond t (Here lane) (Away lane)) (eq-eqb lane lane refl))

back_reply : (s : Spot) (lane : ℕ) → s ≡ Away lane → reply_of s lane Return ≡ Returned
back_reply s lane e = ap (λ (x : Spot). reply_of x lane Return) e ∙ ap (λ (t : Bool). cond t Returned Busy) (eq-eqb lane lane refl)

lend_reply : (s : Spot) (lane : ℕ) → s ≡ Here lane → reply_of s lane Borrow ≡ Lent
lend_reply s lane e = ap (λ (x : Spot). reply_of x lane Borrow) e ∙ ap (λ (t : Bool). cond t Lent Nothing) (eq-eqb lane lane refl)

-- what follows is a Return with a token
abbrev call_in : Option (Ask × Option Token) → Ask
call_in None = Leave
call_in (Some x) = x.0

abbrev put_in : Option (Ask × Option Token) → Option Token
put_in None = None
put_in (Some x) = x.1

follows_lent : (reply : Answer) (good : Option Token) (call : Ask) (put : Option Token) → Some (call, put) ≡ answer_to reply good → (reply ≡ Lent) × (call ≡ Return) × IsSome put
follows_lent Lent (Some t) call put e = (refl, ap call_in e, subst (λ (p : Option Token). IsSome p) (sym (ap put_in e)) refl)
follows_lent Lent None call put e = absurd (cc)
follows_lent Left good call put e = absurd (cc)
follows_lent Busy good call put e = absurd (cc)
follows_lent Taken good call put e = absurd (cc)
follows_lent Nothing good call put e = absurd (cc)
follows_lent Returned good call put e = absurd (cc)

some_follows : (good : Option Token) → ComesOut Lent good → None ≡ answer_to Lent good → ⊥
some_follows None c e = cc
some_follows (Some t) c e = cc

-- what the pass has after the turn
pub lent_and_back : {W Q S : Type 0} (stands : S → H → Type 0) (hints : S → ℕ → Answer → ℕ → Type 0) (lanes lane : ℕ) (v w : View Ask Answer Q) (work work' : W) (reply' : Answer) (good' : Option Token) → spot_of v.seen ≡ Here lane
    → AnswersThen (λ (work : W) (reply : Answer) (good : Option Token) (answer : Option (Ask × Option Token)) (work' : W). answer ≡ answer_to reply good) stands (λ (h : H) (lane : ℕ) (c : Ask). reply_of (spot_of h) lane c)
    (λ (r : Answer). false) (λ (h : H) (lane : ℕ) (c : Ask). ⊥) (λ (e : Entry Ask Answer). changes e.reply) (λ (h : H) (lane : ℕ) (c : Ask) (r : Answer) (g : Option Token). ComesOut r g) hints lane v Borrow work reply' good' work' w lanes
    → (spot_of w.seen ≡ Here lane) × (w.mine ≡ v.mine ++ entry lane Borrow Lent ∷ entry lane Return Returned ∷ [])
lent_and_back {W} {Q} {S} stands hints lanes lane v w work work' reply' good' lies a = let h : H = a.0 in let e1 : Entry Ask Answer = entry lane Borrow Lent in let e2 : Entry Ask Answer = entry lane Return Returned in
    let here : spot_of h ≡ Here lane = ap (λ (l : H). spot_of l) a.3.1 ∙ here_still v.seen a.3.0 lane a.3.2 lies in
    let lent : a.1 ≡ Lent = ⊎_elim (λ t. t) (λ t. absurd t.1) a.4 ∙ lend_reply (spot_of h) lane here in
    let after1 : after (λ (e : Entry Ask Answer). changes e.reply) h (entry lane Borrow a.1) ≡ h ++ e1 ∷ [] = ap (λ (r : Answer). after (λ (e : Entry Ask Answer). changes e.reply) h (entry lane Borrow r)) lent in
    let away : spot_of (h ++ e1 ∷ []) ≡ Away lane = lent_then h lane here in
    let seen : w.seen ≡ (h ++ e1 ∷ []) ++ e2 ∷ [] = ⊎_elim (λ f. absurd (some_follows a.2 (subst (λ (r : Answer). ComesOut r a.2) lent a.5) (subst (λ (r : Answer). None ≡ answer_to r a.2) lent f.0)))
    (λ f. (let back : f.0 ≡ Return = (follows_lent a.1 a.2 f.0 f.1 f.2).1 in
    let second : reply' ≡ Returned = f.3 ∙ ((λ i. reply_of (spot_of (after1 i)) lane (back i)) ∙ back_reply (spot_of (h ++ e1 ∷ [])) lane away) in
    f.6 ∙ (λ i. after (λ (e : Entry Ask Answer). changes e.reply) (after1 i) (entry lane (back i) (second i))))) a.6 in
    let news : a.8.0 ≡ e1 ∷ e2 ∷ [] = append_cancel_left h a.8.0 (e1 ∷ e2 ∷ []) (sym a.8.1 ∙ (seen ∙ append_assoc h (e1 ∷ []) (e2 ∷ []))) in (
      ap (λ (l : H). spot_of l) seen ∙ back_then (h ++ e1 ∷ []) lane away,
      a.8.2 ∙ ap (λ (n : H). v.mine ++ n) news,
    )
