-- From the messages that bytes spell to the first of them.
use Rattle.std.proofs.Common.{◌≡◌, ℕ, List, [], ◌∷◌, ◌++◌, refl, ap, sym, subst, append_assoc}
use Rattle.std.proofs.Common.{append-nil}
use Rattle.wire_fields.specs.Message.{largest, AreSpelled}
use Rattle.delimited_framing.specs.Frame.{Holds}
use Rattle.json_framing.specs.Cutter.{form_of}
use Rattle.json_framing.specs.declared.cutter.Framing.{Framing}
use Rattle.json_framing.specs.declared.cutter.Framing.TheVariants as framing
use Rattle.json_framing.proofs.Laws.{last_line}
use Rattle.message_service.specs.declared.finish.Finish.{Finish}
use Rattle.message_service.specs.declared.finish.Finish.TheVariants as finish
use Rattle.message_service.specs.Stream.{Begins}
use Rattle.message_service.specs.Serves.{ReadsBy}
use Rattle.read_ahead.specs.declared.reading.Pause.{Pause}
use Rattle.read_ahead.specs.declared.reading.Pause.TheVariants as pause
use Rattle.read_ahead.specs.Reading.{finish_of, SpellBy}

-- ---- without the last frame

last_frame : (stream : List ℕ) (frames : List (List ℕ)) (frame rest : List ℕ)
    → Holds largest stream (frames ++ frame ∷ []) rest
    → (mid : List ℕ) × Holds largest stream frames mid
last_frame stream [] frame rest h = (stream, refl)
last_frame stream (f ∷ fs) frame rest h =
    let l = last_frame h.0 fs frame rest h.2 in (l.0, (h.0, h.1, l.1))

last_of : (f : Framing) (stream : List ℕ) (frames : List (List ℕ)) (frame rest : List ℕ)
    → (form_of f).Holds largest stream (frames ++ frame ∷ []) rest
    → (mid : List ℕ) × (form_of f).Holds largest stream frames mid
last_of framing.Delimited stream frames frame rest h = last_frame stream frames frame rest h
last_of framing.Lines stream frames frame rest h =
    let l = last_line largest stream frames frame rest h in (l.0, l.2)

-- ---- without the last message

module _ {M : Type 0} (Spells : List ℕ → M → Type 0) where
  -- the last frame is the last message's
  abbrev IsLast : List (List ℕ) → List M → Type 0
  IsLast frames ms = (before : List (List ℕ)) × (frame : List ℕ)
      × (frames ≡ before ++ frame ∷ []) × AreSpelled Spells before ms

  last_spelled : (frames : List (List ℕ)) (ms : List M) (m : M)
      → AreSpelled Spells frames (ms ++ m ∷ []) → IsLast frames ms
  last_spelled [] [] m s = absurd s
  last_spelled [] (n ∷ ns) m s = absurd s
  last_spelled (f ∷ []) [] m s = ([], f, refl, tt)
  last_spelled (f ∷ g ∷ fs) [] m s = absurd s.1
  last_spelled (f ∷ fs) (n ∷ ns) m s =
      let l = last_spelled fs ns m s.1 in
      (f ∷ l.0, l.1, ap (λ (xs : List (List ℕ)). f ∷ xs) l.2, (s.0, l.3))

module _ (f : Framing) {M : Type 0} (Spells : List ℕ → M → Type 0) where
  without_last : (bytes : List ℕ) (ms : List M) (m : M)
      → Begins (form_of f) Spells bytes (ms ++ m ∷ []) → Begins (form_of f) Spells bytes ms
  without_last bytes ms m b =
      let l = last_spelled Spells b.1.frames ms m b.1.spelled in
      let holds = subst (λ (fs : List (List ℕ)). (form_of f).Holds largest bytes fs b.0) l.2
      b.1.holds in
      let h = last_of f bytes l.0 l.1 b.0 holds in
      (h.0, record { frames = l.0; holds = h.1; spelled = l.3 })

  -- the first ones come first too
  pub begins_front : (bytes : List ℕ) (ms more : List M)
      → Begins (form_of f) Spells bytes (ms ++ more) → Begins (form_of f) Spells bytes ms
  begins_front bytes ms [] b =
      subst (λ (xs : List M). Begins (form_of f) Spells bytes xs) (append-nil ms) b
  begins_front bytes ms (m ∷ more) b = without_last bytes ms m (begins_front bytes (ms ++ m ∷ [])
      more (subst (λ (xs : List M). Begins (form_of f) Spells bytes xs) (sym (append_assoc ms
      (m ∷ []) more)) b))

  reads_begin : (how : Finish) (bytes : List ℕ) (ms : List M)
      → ReadsBy (form_of f) Spells how bytes ms → Begins (form_of f) Spells bytes ms
  reads_begin finish.AtEnd bytes ms r = (r.0, r.1)
  reads_begin finish.NoMemory bytes ms r = r
  reads_begin finish.BadInput bytes ms r = (r.0, r.1)
  reads_begin finish.InputFault bytes ms r = (r.0, r.1)
  reads_begin finish.OutputFault bytes ms r = r
  reads_begin finish.TooLong bytes ms r = (r.0, r.1)

  -- why ever no more is read, these come first
  pub spell_begin : (why : Pause) (bytes : List ℕ) (ms : List M)
      → SpellBy (form_of f) Spells why bytes ms → Begins (form_of f) Spells bytes ms
  spell_begin (pause.Stopped how) bytes ms s = reads_begin (finish_of how) bytes ms s
  spell_begin pause.Gone bytes ms s = s
