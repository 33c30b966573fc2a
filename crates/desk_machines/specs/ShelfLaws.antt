-- The laws of the locker.
use Rattle.std.proofs.Common.{◌≡◌, ◌≢◌, ℕ, ◌+◌, ◌≤◌, ◌==◌, Bool, true, false, cond, List, [], ◌∷◌, ◌++◌, sym, refl, ap, ◌∙◌, subst, eq-eqb, ne_eqb, arith}
use Rattle.std.specs.List.{fold}
use mathlib.Core.Logic.{dite}
use native.Mathlib.Decide.{ℕ_discrete}
use Rattle.plain_values.specs.declared.entry.Entry.{Entry}
use Rattle.seat_desk.specs.History.{entry, calls_by}
use Rattle.desk_machines.specs.declared.locker.Ask.{Ask}
use Rattle.desk_machines.specs.declared.locker.Ask.TheVariants.{Leave, Take, Borrow, Return}
use Rattle.desk_machines.specs.declared.locker.Answer.{Answer}
use Rattle.desk_machines.specs.declared.locker.Answer.TheVariants.{Left, Busy, Taken, Nothing, Lent, Returned}
use Rattle.desk_machines.specs.declared.locker.Spot.{Spot}
use Rattle.desk_machines.specs.declared.locker.Spot.TheVariants.{Empty, Here, Away}
use Rattle.desk_machines.specs.Shelf.{reply_of, spot_then, spot_after, spot_of, owes_by, IsPaid}

pub true_not_false : true ≡ false → ⊥
true_not_false e = cc

-- the spot after one entry more
pub fold-snoc : (o : Spot) (h : List (Entry Ask Answer)) (e : Entry Ask Answer)
    → fold spot_after o (h ++ e ∷ []) ≡ spot_after (fold spot_after o h) e
fold-snoc o [] e = refl
fold-snoc o (x ∷ xs) e = fold-snoc (spot_after o x) xs e

fold-append : (o : Spot) (a b : List (Entry Ask Answer))
    → fold spot_after o (a ++ b) ≡ fold spot_after (fold spot_after o a) b
fold-append o [] b = refl
fold-append o (x ∷ xs) b = fold-append (spot_after o x) xs b

-- an entry of another lane leaves the lane's token where it is
here_stays : (lane j : ℕ) (r : Answer) → j ≢ lane → spot_then (Here lane) j r ≡ Here lane
here_stays lane j Left n = refl
here_stays lane j Busy n = refl
here_stays lane j Taken n = ap (λ (b : Bool). cond b Empty (Here lane)) (ne_eqb j lane n)
here_stays lane j Nothing n = refl
here_stays lane j Lent n = ap (λ (b : Bool). cond b (Away lane) (Here lane)) (ne_eqb j lane n)
here_stays lane j Returned n = refl

away_stays : (lane j : ℕ) (r : Answer) → j ≢ lane → spot_then (Away lane) j r ≡ Away lane
away_stays lane j Left n = refl
away_stays lane j Busy n = refl
away_stays lane j Taken n = refl
away_stays lane j Nothing n = refl
away_stays lane j Lent n = refl
away_stays lane j Returned n = ap (λ (b : Bool). cond b (Here lane) (Away lane)) (ne_eqb j lane n)

others_leave : (spot : Spot) (lane : ℕ)
    → ((j : ℕ) (r : Answer) → j ≢ lane → spot_then spot j r ≡ spot)
    → (more : List (Entry Ask Answer)) → calls_by lane more ≡ [] → fold spot_after spot more ≡ spot
others_leave spot lane stays [] none = refl
others_leave spot lane stays (e ∷ es) none = dite (ℕ_discrete lane e.lane)
    (λ same. absurd
    (let b : (lane == e.lane) ≡ true = eq-eqb lane e.lane same in let x : e ∷ calls_by lane es ≡ []
    = ap (λ (t : Bool). cond t (e ∷ calls_by lane es) (calls_by lane es)) (sym b) ∙ none in cc))
    (λ other. let b :
    (lane == e.lane) ≡ false = ne_eqb lane e.lane other in let rest : calls_by lane es ≡ [] = ap
    (λ (t : Bool). cond t (e ∷ calls_by lane es) (calls_by lane es)) (sym b) ∙ none in
    ap (λ (o : Spot). fold spot_after o es) (stays e.lane e.reply (λ q. other (sym q)))
    ∙ others_leave spot lane stays es rest)

-- what a history pays for stays paid for after entries of other lanes
pub paid_still : (h more : List (Entry Ask Answer)) (lane : ℕ) (c : Ask) → calls_by lane more ≡ []
    → IsPaid (spot_of h) lane c → IsPaid (spot_of (h ++ more)) lane c
paid_still h more lane Leave none p = p
paid_still h more lane Take none p = fold-append Empty h more
    ∙ (ap (λ (o : Spot). fold spot_after o more) p
    ∙ others_leave (Here lane) lane (here_stays lane) more none)
paid_still h more lane Borrow none p = p
paid_still h more lane Return none p = fold-append Empty h more
    ∙ (ap (λ (o : Spot). fold spot_after o more) p
    ∙ others_leave (Away lane) lane (away_stays lane) more none)

-- so does the lane's token lie there still
pub here_still : (h more : List (Entry Ask Answer)) (lane : ℕ) → calls_by lane more ≡ []
    → spot_of h ≡ Here lane → spot_of (h ++ more) ≡ Here lane
here_still h more lane none p = paid_still h more lane Take none p

less_by : (o : Spot) (lane : ℕ) (c : Ask) → IsPaid o lane c
    → owes_by (spot_then o lane (reply_of o lane c)) + 1 ≡ owes_by o
less_by o lane Leave p = absurd p
less_by o lane Borrow p = absurd p
less_by o lane Take p =
    subst (λ (x : Spot). owes_by (spot_then x lane (reply_of x lane Take)) + 1 ≡ owes_by x) (sym p)
    (let b : (lane == lane) ≡ true = eq-eqb lane lane refl in subst
    (λ (t : Bool). owes_by (spot_then (Here lane) lane (cond t Taken Nothing)) + 1 ≡ 1) (sym b)
    (subst (λ (t : Bool). owes_by (cond t Empty (Here lane)) + 1 ≡ 1) (sym b) refl))
less_by o lane Return p = subst
    (λ (x : Spot). owes_by (spot_then x lane (reply_of x lane Return)) + 1 ≡ owes_by x) (sym p)
    (let b : (lane == lane) ≡ true = eq-eqb lane lane refl in subst
    (λ (t : Bool). owes_by (spot_then (Away lane) lane (cond t Returned Busy)) + 1 ≡ 2) (sym b)
    (subst (λ (t : Bool). owes_by (cond t (Here lane) (Away lane)) + 1 ≡ 2) (sym b) refl))

owes_le : (o : Spot) → owes_by o ≤ 2
owes_le Empty = omega arith
owes_le (Here x) = omega arith
owes_le (Away x) = omega arith

-- a paid call pays one of what is owed
pub less_owed : (h : List (Entry Ask Answer)) (lane : ℕ) (c : Ask) → IsPaid (spot_of h) lane c
    → owes_by (spot_of (h ++ entry lane c (reply_of (spot_of h) lane c) ∷ [])) + 1 ≡ owes_by
    (spot_of h)
less_owed h lane c p = ap (λ (o : Spot). owes_by o + 1)
    (fold-snoc Empty h (entry lane c (reply_of (spot_of h) lane c))) ∙ less_by (spot_of h) lane c p

-- any entry raises what is owed by two at most
pub more_owed : (h : List (Entry Ask Answer)) (e : Entry Ask Answer)
    → owes_by (spot_of (h ++ e ∷ [])) ≤ owes_by (spot_of h) + 2
more_owed h e = let l = owes_le (spot_of (h ++ e ∷ [])) in omega arith
