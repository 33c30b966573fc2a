-- The seats of one berth more, and of all.
use Rattle.std.proofs.Common.{◌≡◌, ℕ, ◌+◌, ◌<◌, ◌≤◌, List, [], ◌∷◌, ◌++◌, length, get_or, drop, refl, sym, ap, subst, ◌∙◌, append_assoc, append-nil, add-one, drop-cons, arith}
use Rattle.std.proofs.lemmas.List.{drop_all, nil_from_length}
use Rattle.lane_threads.specs.declared.pair.Either.{Either}
use Rattle.lane_threads.specs.declared.pair.Either.TheVariants.{First, Second}
use Rattle.run_plan.specs.declared.plan.Speech.{Speech}
use Rattle.run_values.specs.declared.settings.Settings.{Settings}
use Rattle.remote_messages.specs.declared.work.WorkAction.{WorkAction}
use Rattle.lane_runs.specs.declared.proxies.ProxyStart.{ProxyStart}
use Rattle.tap_lane.specs.declared.seat.TapStart.{TapStart}
use Rattle.lane_runs.specs.Seats.{IsProxyStart, IsTapStart, AreSeats, HasSeats, berths_in}

pub two_more : {X : Type 0} (xs ys zs : List X) (x y : X) → ys ≡ xs ++ x ∷ [] → zs ≡ ys ++ y ∷ []
    → zs ≡ xs ++ x ∷ y ∷ []
two_more {X} xs ys zs x y e f =
    f ∙ (ap (λ (l : List X). l ++ y ∷ []) e ∙ append_assoc xs (x ∷ []) (y ∷ []))

-- no berth is left, so all have their lanes
pub all_seated : {B : Type 0} (settings : Settings) (actions : List WorkAction) (i : ℕ) (bs rest : List B) (ss : List Speech)
    (lanes : List (Either (ProxyStart B) TapStart)) → length ss ≤ i
    → length rest ≡ length (drop i ss)
    → ((more : List (Either (ProxyStart B) TapStart)) → AreSeats settings actions i rest (drop i ss) more
    → AreSeats settings actions 0 bs ss (lanes ++ more)) → AreSeats settings actions 0 bs ss lanes
all_seated {B} settings actions i bs rest ss lanes past same so_far =
    let none : drop i ss ≡ [] = drop_all i ss past in
    let empty : rest ≡ [] = nil_from_length rest (same ∙ ap length none) in
    subst (λ (ls : List (Either (ProxyStart B) TapStart)). AreSeats settings actions 0 bs ss ls)
    (append-nil lanes)
    (so_far [] (subst (λ (xs : List Speech). AreSeats settings actions i rest xs []) (sym none)
    (subst (λ (ys : List B). AreSeats settings actions i ys [] []) (sym empty) refl)))

-- the speech of the next berth
pub next_speech : (i : ℕ) (ss : List Speech) (s : Speech) → i < length ss
    → drop i ss ≡ get_or ss i s ∷ drop (i + 1) ss
next_speech i ss s below = rw (add-one, drop-cons ss i s) refl

-- as many berths as speeches are still to come
pub as_many_still : {B : Type 0} (rest rest' : List B) (b : B) (ss ss' : List Speech) (s : Speech)
    → length rest ≡ length ss → rest ≡ b ∷ rest' → ss ≡ s ∷ ss' → length rest' ≡ length ss'
as_many_still rest rest' b ss ss' s same berths speeches =
    let left = ap length berths in let right = ap length speeches in omega (arith, left, right)

-- the lanes of one berth more stand behind those before
pub seated_more : {B : Type 0} (settings : Settings) (actions : List WorkAction) (i n : ℕ) (b : B) (s : Speech)
    (bs rest rest' : List B) (ss : List Speech) (lanes lanes' : List (Either (ProxyStart B) TapStart))
    → HasSeats settings actions n b s lanes lanes' → n ≡ i → rest ≡ b ∷ rest'
    → drop i ss ≡ s ∷ drop (i + 1) ss
    → ((more : List (Either (ProxyStart B) TapStart)) → AreSeats settings actions i rest (drop i ss) more
    → AreSeats settings actions 0 bs ss (lanes ++ more))
    → (more : List (Either (ProxyStart B) TapStart))
    → AreSeats settings actions (i + 1) rest' (drop (i + 1) ss) more
    → AreSeats settings actions 0 bs ss (lanes' ++ more)
seated_more {B} settings actions i n b s bs rest rest' ss lanes lanes' has number berths speeches so_far more are =
    let two : List (Either (ProxyStart B) TapStart) = First has.proxy ∷ Second has.heard ∷ [] in
    let proxy : IsProxyStart settings actions i b s has.proxy =
    subst (λ (k : ℕ). IsProxyStart settings actions k b s has.proxy) number has.is_proxy in
    let tap : IsTapStart i s has.heard =
    subst (λ (k : ℕ). IsTapStart k s has.heard) number has.is_tap in
    let stand : lanes' ++ more ≡ lanes ++ (two ++ more) =
    ap (λ (ls : List (Either (ProxyStart B) TapStart)). ls ++ more) has.grown
    ∙ append_assoc lanes two more in
    subst (λ (ls : List (Either (ProxyStart B) TapStart)). AreSeats settings actions 0 bs ss ls) (sym stand)
    (so_far (two ++ more)
    (subst (λ (xs : List B). AreSeats settings actions i xs (drop i ss) (two ++ more)) (sym berths)
    (subst (λ (ys : List Speech). AreSeats settings actions i (b ∷ rest') ys (two ++ more)) (sym speeches)
    (proxy, tap, are))))

-- the berths from which the lanes were made
pub seated_berths : {B : Type 0} (settings : Settings) (actions : List WorkAction) (w : ℕ) (bs : List B) (ss : List Speech)
    (lanes : List (Either (ProxyStart B) TapStart)) → AreSeats settings actions w bs ss lanes
    → berths_in lanes ≡ bs
seated_berths settings actions w [] [] [] are = refl
seated_berths settings actions w [] [] (l ∷ lanes) are = absurd (cc)
seated_berths settings actions w (b ∷ bs) (s ∷ ss) (First x ∷ Second y ∷ lanes) are =
    let rest = seated_berths settings actions (w + 1) bs ss lanes are.2 in
    let first : x.berth ≡ b = are.0.0 in cc
seated_berths settings actions w (b ∷ bs) (s ∷ ss) [] are = absurd are
seated_berths settings actions w (b ∷ bs) (s ∷ ss) (First x ∷ []) are = absurd are
seated_berths settings actions w (b ∷ bs) (s ∷ ss) (First x ∷ First y ∷ lanes) are = absurd are
seated_berths settings actions w (b ∷ bs) (s ∷ ss) (Second x ∷ lanes) are = absurd are
seated_berths settings actions w [] (s ∷ ss) lanes are = absurd are
seated_berths settings actions w (b ∷ bs) [] lanes are = absurd are
