-- Requests that were read, and why no more are.
use Rattle.std.proofs.Common.{ℕ, List, [], Option, subst, append-nil}
use Rattle.outside.specs.Lists.{Adds}
use Rattle.outside.specs.Told.{TapTold}
use Rattle.json_framing.specs.Cutter.{form_of}
use Rattle.json_framing.specs.declared.cutter.Framing.{Framing}
use Rattle.message_service.specs.declared.finish.Finish.{Finish}
use Rattle.message_service.specs.declared.finish.Finish.TheVariants as finish
use Rattle.message_service.specs.Stream.{Begins}
use Rattle.message_service.specs.Ends.{CausedBy}
use Rattle.message_service.specs.Serves.{ReadsBy}
use Rattle.message_service.proofs.Made.{adds_on}
use Rattle.work_lanes.specs.Reading.{BreaksOff}
use Rattle.work_lanes.specs.Serves.{IsOfReading}

pub adds_quiet : (xs : List ℕ) (old mid new : Option (List ℕ)) → Adds xs old mid → Adds [] mid new
    → Adds xs old new
adds_quiet xs old mid new first second = subst (λ (ys : List ℕ). Adds ys old new) (append-nil xs)
    (adds_on xs [] old mid new first second)

pub breaks_cause : (f : Finish) (bytes : List ℕ) (old new : TapTold) → BreaksOff f
    → CausedBy f bytes old new
breaks_cause finish.NoMemory bytes old new b = tt
breaks_cause finish.BadInput bytes old new b = tt
breaks_cause finish.AtEnd bytes old new b = absurd b
breaks_cause finish.InputFault bytes old new b = absurd b
breaks_cause finish.OutputFault bytes old new b = absurd b
breaks_cause finish.TooLong bytes old new b = absurd b

pub breaks_reading : (f : Finish) → BreaksOff f → IsOfReading f
breaks_reading finish.NoMemory b = tt
breaks_reading finish.BadInput b = tt
breaks_reading finish.AtEnd b = tt
breaks_reading finish.InputFault b = tt
breaks_reading finish.OutputFault b = b
breaks_reading finish.TooLong b = tt

module _ (f : Framing) {M : Type 0} (Spells : List ℕ → M → Type 0) where
  pub reads_begin : (how : Finish) (bytes : List ℕ) (ms : List M)
      → ReadsBy (form_of f) Spells how bytes ms → Begins (form_of f) Spells bytes ms
  reads_begin finish.AtEnd bytes ms r = (r.0, r.1)
  reads_begin finish.NoMemory bytes ms r = r
  reads_begin finish.BadInput bytes ms r = (r.0, r.1)
  reads_begin finish.InputFault bytes ms r = (r.0, r.1)
  reads_begin finish.OutputFault bytes ms r = r
  reads_begin finish.TooLong bytes ms r = (r.0, r.1)
