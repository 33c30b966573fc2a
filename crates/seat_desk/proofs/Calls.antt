-- From the steps to the calls of a desk.
use Rattle.std.proofs.Common.{◌≡◌, ◌≢◌, ℕ, ◌+◌, ◌%◌, ◌^◌, Bool, true, false, cond, List, [], ◌∷◌, ◌++◌, sym, refl, ap, ◌∙◌, subst, append-nil, arith, Option, Some, None, length, length-append, inl, inr}
use Rattle.atomic_table.specs.Table.{rest, Allows}
use Rattle.plain_values.specs.declared.entry.Entry.{Entry}
use Rattle.seat_desk.specs.declared.view.Role.TheVariants.{Lane}
use Rattle.seat_desk.specs.declared.view.Stage.TheVariants.{Waits}
use Rattle.seat_desk.specs.declared.view.View.{View}
use Rattle.seat_desk.specs.History.{entry, after, calls_by, GoesOn}
use Rattle.seat_desk.specs.Turns.{view_at, view_in_turn, view_after_turn, Only, Kept, Finds, TellsLook, TellsEnd}
use Rattle.seat_desk.specs.Desks.{SeatState, IsIdle, Draws, WaitsFor, IsServed, MayEnd, HasEnded, Grows, Follows}
use Rattle.seat_desk.proofs.Keeps.{looks, ends}
use Rattle.seat_desk.proofs.Lines.{calls-append, only_all}

module _ {H C R Q : Type 0} (log_of : H → List (Entry C R)) (good : Q → H → Type 0) where
  abbrev Slot : Type 0
  Slot = Option (H)

  pub waiting : (slots id n : ℕ) (m m' : SeatState H C R Q) → WaitsFor m n → m' ≡ m → Allows (Kept log_of good) slots id m' 1 (λ n. n) (TellsLook log_of good m')
  waiting slots id n m m' w same = looks log_of good slots id w.1.0 m' (ap (λ (x : SeatState H C R Q). x.0.stage) same ∙ w.1.2)

  pub missed : (n seen : ℕ) (m m' m'' : SeatState H C R Q) → WaitsFor m n → m' ≡ m → TellsLook log_of good m' seen m'' → seen ≢ n → m'' ≡ m
  missed n seen m m' m'' w same did miss = (did w.1.0 (ap (λ (x : SeatState H C R Q). x.0.stage) same ∙ w.1.2)).1 (λ e. miss (e ∙ w.1.1)) ∙ same

  pub hit : (n seen : ℕ) (m m' m'' : SeatState H C R Q) → WaitsFor m n → m' ≡ m → TellsLook log_of good m' seen m'' → seen ≡ n → (y : H) × IsServed log_of good m y (λ c. c ≡ (0, Some y) ∷ []) m''
  hit n seen m m' m'' w same did e = let got = (did w.1.0 (ap (λ (x : SeatState H C R Q). x.0.stage) same ∙ w.1.2)).0 (e ∙ sym w.1.1) in let y : H = got.0 in (
    y,
    (
      subst (λ (x : SeatState H C R Q). Finds log_of good x.0 y) same got.1,
      (w.1.0, got.2 ∙ ap (λ (x : SeatState H C R Q). view_in_turn x.0 w.1.0 (log_of y)) same),
      got.3 ∙ ap (λ (c : List (ℕ × Slot)). (0, Some y) ∷ c) (ap (λ (x : SeatState H C R Q). x.1) same ∙ w.0),
    ),
  )

  pub leaves : (slots id lane : ℕ) (m m' : SeatState H C R Q) (y : H) → MayEnd log_of good lane m y → m' ≡ (m.0, (0, Some y) ∷ rest m.1) → Allows (Kept log_of good) slots id m' 1 (λ n. (n + 1) % 2 ^ 64) (TellsEnd log_of good m')
  leaves slots id lane m m' y may is = subst (λ (x : SeatState H C R Q). Allows (Kept log_of good) slots id x 1 (λ n. (n + 1) % 2 ^ 64) (TellsEnd log_of good x)) (sym is)
      (ends log_of good slots id may.3.0 lane (m.0, (0, Some y) ∷ rest m.1) y may.4.0 may.3.1 may.0 (ap (λ (c : List (ℕ × Slot)). (0, Some y) ∷ rest c) may.1) may.2 may.4.1 may.4.2)

  pub left : (lane n : ℕ) (m m' m'' : SeatState H C R Q) (y : H) → m.0.role ≡ Lane lane → m.1 ≡ (0, None) ∷ [] → m' ≡ (m.0, (0, Some y) ∷ rest m.1) → TellsEnd log_of good m' n m'' → m'' ≡ (view_after_turn m.0 lane (log_of y), [])
  left lane n m m' m'' y lane_is empty is did = let role : m'.0.role ≡ Lane lane = ap (λ (x : SeatState H C R Q). x.0.role) is ∙ lane_is in
      let carried : m'.1 ≡ (0, Some y) ∷ [] = ap (λ (x : SeatState H C R Q). x.1) is ∙ ap (λ (c : List (ℕ × Slot)). (0, Some y) ∷ rest c) empty in
      let view : m''.0 ≡ view_after_turn m.0 lane (log_of y) = did.1 lane y role carried ∙ ap (λ (x : SeatState H C R Q). view_after_turn x.0 lane (log_of y)) is in
      λ i. (view i, did.0 i)

  -- what a list of slots has at its head
  abbrev slot_in : Slot → List (ℕ × Slot) → Slot
  slot_in d [] = d
  slot_in d (x ∷ xs) = x.1

  abbrev held_or : H → Slot → H
  held_or d None = d
  held_or d (Some y) = y

  pub drawn_waits : (n : ℕ) (m m1 : SeatState H C R Q) → m.1 ≡ [] → Draws m n m1 → WaitsFor m1 n
  drawn_waits n m m1 none d = (d.0 ∙ none, (d.1.0, d.1.1, ap (λ (v : View C R Q). v.stage) d.1.2))

  pub taken : (n : ℕ) (m m1 m2 m3 : SeatState H C R Q) (x : Slot) (z : H) → Draws m n m1 → ((y : H) × IsServed log_of good m1 y (λ c. c ≡ (0, Some y) ∷ []) m2)
      → m2.1 ≡ (0, x) ∷ rest m2.1 → m3 ≡ (m2.0, (0, None) ∷ rest m2.1) → x ≡ Some z → IsServed log_of good m z (λ c. c ≡ (0, None) ∷ []) m3
  taken n m m1 m2 m3 x z d s at now is = let y : H = s.0 in let same : y ≡ z = ap (held_or y) (ap (slot_in x) (sym s.1.2 ∙ at) ∙ is) in
      let found : Finds log_of good (view_at m.0 (Waits d.1.0)) y = subst (λ (v : View C R Q). Finds log_of good v y) d.1.2 s.1.0 in (
        subst (Finds log_of good m.0) same found,
        (s.1.1.0, ap (λ (k : SeatState H C R Q). k.0) now ∙ (s.1.1.1 ∙ (λ i. view_in_turn (d.1.2 i) s.1.1.0 (log_of (same i))))),
        ap (λ (k : SeatState H C R Q). k.1) now ∙ ap (λ (c : List (ℕ × Slot)). (0, None) ∷ rest c) s.1.2,
      )

  pub may_end : (lane : ℕ) (m m1 : SeatState H C R Q) (y y' : H) (news : List (Entry C R)) → IsIdle lane m → IsServed log_of good m y (λ c. c ≡ (0, None) ∷ []) m1 → good m.0.basis y'
      → (log_of y') ≡ (log_of y) ++ news → Only lane news → (k : ℕ) × MayEnd log_of good k m1 y'
  may_end lane m m1 y y' news idle s fine added only = (
    lane,
    (
      ap (λ (v : View C R Q). v.role) s.1.1 ∙ idle.0,
      s.2,
      subst (λ (q : Q). good q y') (ap (λ (v : View C R Q). v.basis) (sym s.1.1)) fine,
      (s.1.0, ap (λ (v : View C R Q). v.stage) s.1.1),
      (news, added ∙ ap (λ (v : View C R Q). v.seen ++ news) (sym s.1.1), only),
    ),
  )

-- Where the seat of a pass stands
module _ {H C R Q : Type 0} where
  -- in its turn it is its lane's still
  pub in_turn : (lane : ℕ) (m m1 : SeatState H C R Q) (h : List (Entry C R)) → IsIdle lane m → ((t : ℕ) × (m1.0 ≡ view_in_turn m.0 t h)) → m1.0.role ≡ Lane lane
  in_turn lane m m1 h idle s = ap (λ (v : View C R Q). v.role) s.1 ∙ idle.0

  -- after the turn
  pub after_turn : (lane : ℕ) (m m1 m2 : SeatState H C R Q) (h h' : List (Entry C R)) → IsIdle lane m → ((t : ℕ) × (m1.0 ≡ view_in_turn m.0 t h)) → HasEnded m1 h' m2 → m2 ≡ (view_after_turn m1.0 lane h', [])
  after_turn lane m m1 m2 h h' idle s has_ended = has_ended lane (in_turn lane m m1 h idle s)

  -- after the turn it is idle again, and has seen just its own calls of its lane
  pub idle_again : (lane : ℕ) (m m1 m2 : SeatState H C R Q) (h h' : List (Entry C R)) → IsIdle lane m → ((t : ℕ) × (m1.0 ≡ view_in_turn m.0 t h)) → HasEnded m1 h' m2 → IsIdle lane m2
  idle_again lane m m1 m2 h h' idle s has_ended = let last = after_turn lane m m1 m2 h h' idle s has_ended in (
    ap (λ (x : SeatState H C R Q). x.0.role) last ∙ in_turn lane m m1 h idle s,
    ap (λ (x : SeatState H C R Q). x.0.stage) last,
    ap (λ (x : SeatState H C R Q). x.1) last,
    ap (λ (x : SeatState H C R Q). calls_by lane x.0.seen) last ∙ ap (λ (x : SeatState H C R Q). x.0.mine) (sym last),
  )

-- Histories after a call
module _ {C R : Type 0} where
  cancels : (a b : List (Entry C R)) → a ++ b ≡ a → b ≡ []
  cancels a [] e = refl
  cancels a (x ∷ xs) e = absurd (let n : length (a ++ (x ∷ xs)) ≡ length a = ap (λ (l : List (Entry C R)). length l) e in omega (arith, length-append a (x ∷ xs)))

  -- between what the lane has seen and the history stand calls of others alone
  pub others_only : (lane : ℕ) (seen rest h mine : List (Entry C R)) → calls_by lane seen ≡ mine → calls_by lane h ≡ mine → h ≡ seen ++ rest → calls_by lane rest ≡ []
  others_only lane seen rest h mine of_seen of_h front =
      cancels (calls_by lane seen) (calls_by lane rest) (sym (calls-append lane seen rest) ∙ (ap (calls_by lane) (sym front) ∙ (of_h ∙ sym of_seen)))

  abbrev pub added : (Entry C R → Bool) → Entry C R → List (Entry C R)
  added keeps e = cond (keeps e) (e ∷ []) []

  pub after_is : (keeps : Entry C R → Bool) (h : List (Entry C R)) (e : Entry C R) → after keeps h e ≡ h ++ added keeps e
  after_is keeps h e = elim (keeps e) as (λ t. cond t (h ++ e ∷ []) h ≡ h ++ cond t (e ∷ []) []) [ true ↦ refl | false ↦ sym (append-nil h) ]

  pub only_added : (keeps : Entry C R → Bool) (e : Entry C R) → Only e.lane (added keeps e)
  only_added keeps e = elim (keeps e) as (λ t. Only e.lane (cond t (e ∷ []) [])) [ true ↦ (refl, tt) | false ↦ tt ]

  pub calls_after : (keeps : Entry C R → Bool) (h : List (Entry C R)) (e : Entry C R) → calls_by e.lane (after keeps h e) ≡ after keeps (calls_by e.lane h) e
  calls_after keeps h e = ap (calls_by e.lane) (after_is keeps h e)
      ∙ (calls-append e.lane h (added keeps e) ∙ (ap (λ (l : List (Entry C R)). calls_by e.lane h ++ l) (only_all e.lane (added keeps e) (only_added keeps e)) ∙ sym (after_is keeps (calls_by e.lane h) e)))

  pub only_both : (lane : ℕ) (a b : List (Entry C R)) → Only lane a → Only lane b → Only lane (a ++ b)
  only_both lane [] b o q = q
  only_both lane (x ∷ xs) b o q = (o.0, only_both lane xs b o.1 q)

  -- what a call that followed in the same turn has added
  pub followed : {W G : Type 0} (meets : W → R → Option G → Option (C × Option G) → W → Type 0) (next : List (Entry C R) → ℕ → C → R) (short : R → Bool) (keeps : Entry C R → Bool)
      (comes_out : List (Entry C R) → ℕ → C → R → Option G → Type 0) (lane : ℕ) (h : List (Entry C R)) (work : W) (reply : R) (good : Option G) (reply' : R) (good' : Option G) (work' : W) (h' : List (Entry C R))
      → Follows meets next short keeps comes_out lane h work reply good reply' good' work' h' → (news : List (Entry C R)) × (h' ≡ h ++ news) × Only lane news
  followed meets next short keeps comes_out lane h work reply good reply' good' work' h' (inl f) = ([], f.3 ∙ sym (append-nil h), tt)
  followed meets next short keeps comes_out lane h work reply good reply' good' work' h' (inr f) =
      (added keeps (entry lane f.0 reply'), f.6 ∙ after_is keeps h (entry lane f.0 reply'), only_added keeps (entry lane f.0 reply'))

module _ {H C R Q : Type 0} (log_of : H → List (Entry C R)) (good : Q → H → Type 0) where
  -- what stands between what the pass has seen and the history in the slot is of other lanes
  pub between : (lane : ℕ) (m : SeatState H C R Q) (y : H) → IsIdle lane m → Finds log_of good m.0 y → (rest : List (Entry C R)) × (log_of y ≡ m.0.seen ++ rest) × (calls_by lane rest ≡ [])
  between lane m y idle s = let front = s.1 in (front.0, front.1, others_only lane m.0.seen front.0 (log_of y) m.0.mine idle.3 (s.2 lane idle.0) front.1)

  -- the pass after a turn that added these entries
  pub grew_by : (lane : ℕ) (m m1 m2 : SeatState H C R Q) (y y' : H) (news : List (Entry C R)) → IsIdle lane m → Finds log_of good m.0 y → Only lane news
      → log_of y' ≡ log_of y ++ news → m2 ≡ (view_after_turn m1.0 lane (log_of y'), []) → (m2.0.seen ≡ log_of y ++ news) × (m2.0.mine ≡ m.0.mine ++ news) × (calls_by lane m2.0.seen ≡ m2.0.mine)
  grew_by lane m m1 m2 y y' news idle s only is last = (
    ap (λ (x : SeatState H C R Q). x.0.seen) last ∙ is,
    ap (λ (x : SeatState H C R Q). x.0.mine) last ∙ (ap (calls_by lane) is ∙ (calls-append lane (log_of y) news ∙ (λ i. s.2 lane idle.0 i ++ only_all lane news only i))),
    ap (λ (x : SeatState H C R Q). calls_by lane x.0.seen) last ∙ ap (λ (x : SeatState H C R Q). x.0.mine) (sym last),
  )

  -- the pass after a turn that left the history with the entry e where it is kept
  pub grows : (keeps : Entry C R → Bool) (m m1 m2 : SeatState H C R Q) (y y' : H) (e : Entry C R) → IsIdle e.lane m → Finds log_of good m.0 y
      → log_of y' ≡ after keeps (log_of y) e → m2 ≡ (view_after_turn m1.0 e.lane (log_of y'), []) → Grows keeps e.lane m.0 (log_of y) e m2.0
  grows keeps m m1 m2 y y' e idle s is last = (
    ap (λ (x : SeatState H C R Q). x.0.seen) last ∙ is,
    ap (λ (x : SeatState H C R Q). x.0.mine) last ∙ (ap (calls_by e.lane) is ∙ (calls_after keeps (log_of y) e ∙ ap (λ (h : List (Entry C R)). after keeps h e) (s.2 e.lane idle.0))),
  )

  -- the pass after a turn that made no call
  pub made_none : (lane : ℕ) (m m1 m2 : SeatState H C R Q) (y y' : H) → IsIdle lane m → Finds log_of good m.0 y
      → log_of y' ≡ log_of y → m2 ≡ (view_after_turn m1.0 lane (log_of y'), []) → GoesOn lane m.0.seen m2.0.seen × (m2.0.mine ≡ m.0.mine)
  made_none lane m m1 m2 y y' idle s is last = let rest = between lane m y idle s in (
    (rest.0, ap (λ (x : SeatState H C R Q). x.0.seen) last ∙ (is ∙ rest.1), rest.2),
    ap (λ (x : SeatState H C R Q). x.0.mine) last ∙ (ap (calls_by lane) is ∙ s.2 lane idle.0),
  )

-- The pass after a turn that began and ended in these states
module _ {H C R Q : Type 0} where
  -- its seat's basis is the one that it had
  pub same_basis : (lane : ℕ) (m m1 m2 : SeatState H C R Q) (h h' : List (Entry C R)) → IsIdle lane m → ((t : ℕ) × (m1.0 ≡ view_in_turn m.0 t h)) → HasEnded m1 h' m2 → m2.0.basis ≡ m.0.basis
  same_basis lane m m1 m2 h h' idle s has_ended =
      ap (λ (x : SeatState H C R Q). x.0.basis) (after_turn lane m m1 m2 h h' idle s has_ended) ∙ ap (λ (v : View C R Q). v.basis) s.1
