-- What a choice makes of the state.
use Rattle.std.proofs.Common.{◌≡◌, ℕ, ◌<◌, ◌^◌, ℤ, pos, ap, sym, ◌∙◌, to_z, of_z, w32}
use Rattle.std.proofs.Math.Facts.{to_z-of_z}
use Rattle.core_state.specs.declared.choice.Choice.{Choice}
use Rattle.core_state.specs.declared.choice.Choice.TheVariants as choice
use Rattle.core_state.specs.declared.state.State.{State}
use Rattle.core_state.specs.Machine.{carried, CanCancel}

-- a number below 2^31 is one of an i32
pub fits : (n : ℕ) → n < 2 ^ 31 → to_z w32 (of_z w32 (pos n)) ≡ pos n
fits n h = to_z-of_z {w = w32} {z = pos n} (record { sfits = h })

pub number_fits : (z : ℤ) (n : ℕ) → z ≡ pos n → n < 2 ^ 31 → to_z w32 (of_z w32 z) ≡ z
number_fits z n e h = ap (λ y. to_z w32 (of_z w32 y)) e ∙ fits n h ∙ sym e

pub cancel_is : (s s' : State) (w l : ℕ) (n : ℤ) (x : Choice) → CanCancel s l n
    → s' ≡ carried s 0 (choice.Cancel l (to_z w32 (of_z w32 n))) → x ≡ choice.Cancel l n
    → s' ≡ carried s w x
cancel_is s s' w l n x can h e = h ∙ ap (λ m. carried s w (choice.Cancel l m))
    (number_fits n can.number can.is can.small) ∙ ap (carried s w) (sym e)
