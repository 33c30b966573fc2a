-- What lies in the slot of a desk, said of the machine's ghost members as a whole.
use Rattle.std.proofs.Common.{◌≡◌, ℕ, ◌+◌, ◌-◌, ◌^◌, ◌<◌, ◌≤◌, min, false, true, sym, ap, subst, inl, arith, Result, Ok, Err, is_ok, OnOk}
use Rattle.plain_values.specs.declared.entry.Entry.{Entry}
use Rattle.seat_desk.specs.declared.machine.Machine.{Ghosts}
use Rattle.seat_desk.specs.declared.held.Held.{Held}
use Rattle.seat_desk.specs.Helds.{IsGood, HasRoom}
use Rattle.seat_desk.specs.Logs.{Log}

-- what holds of the machine and its history in the slot, where its basis is this
abbrev pub good_of : {M C R G Q : Type 0} → Ghosts M C R G Q → Q → Held M C R → Type 0
good_of g = IsGood g.basis g.stands g.owes

holds_at_ok : {T E P : Type 0} (r : Result T E) → is_ok r ≡ true → OnOk r P → P
holds_at_ok (Ok x) e p = p
holds_at_ok (Err x) e p = absurd (let h : false ≡ true = e in cc)

module _ {M C R G Q : Type 0} (g : Ghosts M C R G Q) where
  -- it is good under the machine's own basis too
  pub good_by_own : (q : Q) (y : Held M C R) → good_of g q y → good_of g (g.basis y.machine) y
  good_by_own q y good = subst (λ (r : Q). good_of g r y) (sym good.2) good

  -- it stays good where the history gets more room
  pub good_with_room : (q : Q) (y : Held M C R) (h : Log (Entry C R)) → good_of g q y → h.items ≡ y.history.items
      → y.history.room ≤ h.room → good_of g q (record { machine = y.machine; history = h })
  good_with_room q y h good same more = (
    subst (g.stands y.machine) (sym same) good.0,
    (let owes = ap (g.owes q) same in let fits = good.1 in omega arith),
    good.2,
  )

  -- it has room for a call's entry where the history found room for it and for what the machine owes
  pub room_of_call : {E : Type 0} (y : Held M C R) (h : Log (Entry C R)) (lane : ℕ) (call : C) (owed room : ℕ) (r : Result (Unit {0}) E)
      → good_of g (g.basis y.machine) y → h.items ≡ y.history.items → owed ≡ g.owes (g.basis y.machine) y.history.items
      → room ≡ min (owed + 3) (2 ^ 64 - 1) → is_ok r ≡ true → OnOk r (room ≤ h.room) → h.room < 2 ^ 63
      → HasRoom (g.owes (g.basis y.machine)) (g.paid (g.basis y.machine)) lane call (record { machine = y.machine; history = h })
  room_of_call y h lane call owed room r good same is_owed is_room ok fits bounded =
      inl (let owes = ap (g.owes (g.basis y.machine)) same in let found = holds_at_ok r ok fits in omega arith)
