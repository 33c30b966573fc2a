-- What was read and what was done, put together.
use Rattle.std.proofs.Common.{◌≡◌, ℕ, List, [], ◌++◌, Option, Some, None, ap, sym, ◌∙◌}
use Rattle.std.proofs.Common.{subst, append-nil, inl, inr, Result, true}
use Rattle.plain_values.specs.declared.no_memory.NoMemory.{NoMemory}
use Rattle.outside.specs.Lists.{Adds}
use Rattle.outside.specs.Told.{TapTold, SinkTold, ShopTold}
use Rattle.outside.specs.declared.shop.ShopCall.{ShopCall}
use Rattle.json_framing.specs.Cutter.{form_of}
use Rattle.json_framing.specs.declared.cutter.Framing.{Framing}
use Rattle.message_service.specs.declared.finish.Finish.{Finish}
use Rattle.message_service.specs.declared.finish.Finish.TheVariants as finish
use Rattle.message_service.specs.Stream.{Begins, IsWhole}
use Rattle.message_service.specs.Ends.{CausedBy}
use Rattle.message_service.specs.Serves.{Answered, ReadsBy, Outside, Serves}
use Rattle.message_service.proofs.Made.{adds_nothing, adds_on}
use Rattle.message_service.proofs.Streams.{whole_new}
use Rattle.message_service.proofs.Rounds.{answered_nothing, caused_stop}
use Rattle.message_box.specs.declared.mailbox.Stop.{Stop}
use Rattle.message_box.specs.declared.mailbox.Stop.TheVariants as stop
use Rattle.message_box.specs.States.{State, put_in, first}
use Rattle.message_box.specs.declared.reading.Offered.{Offered}
use Rattle.message_box.specs.declared.reading.Offered.TheVariants as offered
use Rattle.message_box.specs.Sides.{HasAll, HasLeft, HasPut, ReaderStands, SaysStop}
use Rattle.read_ahead.specs.declared.reading.Pause.{Pause}
use Rattle.read_ahead.specs.declared.reading.Pause.TheVariants as pause
use Rattle.read_ahead.specs.Reading.{finish_of, BreaksOff, SpellBy, StoppedBy, SaidBy, HasRead}
use Rattle.read_ahead.specs.Reading.{ReaderLeaves}
use Rattle.read_ahead.specs.Working.{ToldBy, WorkerLeaves}
use Rattle.read_ahead.proofs.Fronts.{begins_front, spell_begin}

-- ---- the reader

pub breaks_so : (why : Pause) (bytes : List ℕ) (old new : TapTold) → BreaksOff why
    → StoppedBy why bytes old new
breaks_so (pause.Stopped how) bytes old new b = caused_stop (finish_of how) bytes old new b
breaks_so pause.Gone bytes old new b = tt

taken_quiet : (xs : List ℕ) (old mid new : Option (List ℕ)) → Adds xs old mid → Adds [] mid new
    → Adds xs old new
taken_quiet xs old mid new first second = subst (λ (ys : List ℕ). Adds ys old new) (append-nil xs)
    (adds_on xs [] old mid new first second)

-- all that the bytes spell was read, but for what may still become a message
abbrev pub IsQuiet : Pause → Type 0
IsQuiet (pause.Stopped stop.AtEnd) = Unit {0}
IsQuiet (pause.Stopped stop.InputFault) = Unit {0}
IsQuiet (pause.Stopped stop.TooLong) = Unit {0}
IsQuiet (pause.Stopped stop.NoMemory) = ⊥
IsQuiet (pause.Stopped stop.BadInput) = ⊥
IsQuiet pause.Gone = Unit {0}

module _ (f : Framing) {M : Type 0} (Spells : List ℕ → M → Type 0) where
  spell_quiet : (why : Pause) (bytes : List ℕ) (ms : List M) → IsQuiet why
      → IsWhole (form_of f) Spells bytes ms → SpellBy (form_of f) Spells why bytes ms
  spell_quiet (pause.Stopped stop.AtEnd) bytes ms q w = w
  spell_quiet (pause.Stopped stop.InputFault) bytes ms q w = w
  spell_quiet (pause.Stopped stop.TooLong) bytes ms q w = w
  spell_quiet (pause.Stopped stop.NoMemory) bytes ms q w = absurd q
  spell_quiet (pause.Stopped stop.BadInput) bytes ms q w = absurd q
  spell_quiet pause.Gone bytes ms q w = (w.0, w.1)

  -- nothing more came, and the mailbox has what it had
  pub read_quiet : (why : Pause) (bytes : List ℕ) (ms ms' : List M) (old mid new : TapTold)
      → IsQuiet why → IsWhole (form_of f) Spells bytes ms → ms' ≡ ms
      → Adds bytes old.taken mid.taken → Adds [] mid.taken new.taken
      → StoppedBy why bytes old new → HasRead (form_of f) Spells why ms' old new
  read_quiet why bytes ms ms' old mid new quiet whole same first second caused = record {
    bytes = bytes;
    taken = taken_quiet bytes old.taken mid.taken new.taken first second;
    spell = subst (λ (xs : List M). SpellBy (form_of f) Spells why bytes xs) (sym same)
        (spell_quiet why bytes ms quiet whole);
    caused = caused;
  }

not_done : offered.Gone ≡ offered.Done → ⊥
not_done e = cc

module _ {M : Type 0} where
  -- all of these stand behind what was put in before
  pub put_done : (more : List M) (o : Offered) (s s' : State M) → o ≡ offered.Done
      → HasPut more o s s' → put_in s' ≡ put_in s ++ more
  put_done more offered.Done s s' is h = h.0
  put_done more offered.Gone s s' is h = absurd (not_done is)

  -- none of these does, where nobody takes them any more
  pub put_gone : (more : List M) (o : Offered) (s s' : State M) → o ≡ offered.Gone
      → HasPut more o s s' → put_in s' ≡ put_in s
  put_gone more offered.Gone s s' is h = h.0.0
  put_gone more offered.Done s s' is h = absurd (not_done (sym is))

  -- what it said stays said
  pub said_still : (why : Pause) (s s' : State M) → SaidBy why s → ReaderStands s s'
      → s'.left ≡ true → SaidBy why s'
  said_still (pause.Stopped how) s s' (inl e) st left = inl (st.1 ∙ e)
  said_still (pause.Stopped how) s s' (inr e) st left = inr (st.1 ∙ e.0, left)
  said_still pause.Gone s s' e st left = st.1 ∙ e

  -- ---- the worker

  pub told_left : (f : Finish) (s s' : State M) → HasLeft s s' → ToldBy f s → ToldBy f s'
  told_left finish.AtEnd s s' h t = h.2 stop.AtEnd t
  told_left finish.BadInput s s' h t = h.2 stop.BadInput t
  told_left finish.InputFault s s' h t = h.2 stop.InputFault t
  told_left finish.TooLong s s' h t = h.2 stop.TooLong t
  told_left finish.NoMemory s s' h t = tt
  told_left finish.OutputFault s s' h t = tt

-- ---- both

abbrev some_or : Stop → Option Stop → Stop
some_or other (Some how) = how
some_or other None = other

some_is : (a b : Stop) → Some a ≡ Some b → a ≡ b
some_is a b e = ap (some_or a) e

not_none : (how : Stop) → None ≡ Some how → ⊥
not_none how e = cc

module _ (f : Framing) {M : Type 0} (Spells : List ℕ → M → Type 0) where
  -- how a reader has stopped whose stop is told
  same_stop : (how told : Stop) (s : State M) → SaysStop how s → s.stop ≡ Some told → how ≡ told
  same_stop how told s (inl e) t = some_is how told (sym e ∙ t)
  same_stop how told s (inr e) t = absurd (not_none told (sym e.0 ∙ t))

  all_taken : (s : State M) → s.waiting ≡ [] → put_in s ≡ s.taken
  all_taken s none = ap (λ (xs : List M). s.taken ++ xs) none ∙ append-nil s.taken

  -- the reader stays out, as the run was called off before it began
  pub stays_out : (s s' : State M) (input : TapTold) → s ≡ first → ReaderStands s s'
      → s'.left ≡ true → ReaderLeaves (form_of f) Spells pause.Gone s' input input
  stays_out s s' input fresh stands left = record {
    left = left;
    said = stands.1 ∙ ap (λ (x : State M). x.stop) fresh;
    read = record {
      bytes = [];
      taken = adds_nothing input.taken;
      spell = subst (λ (xs : List M). Begins (form_of f) Spells [] xs)
          (sym (stands.0 ∙ ap (λ (x : State M). put_in x) fresh))
          ((whole_new f Spells).0, (whole_new f Spells).1);
      caused = tt;
    };
  }

  -- where the worker was told how the reader has stopped, all that was read was taken
  read_all_of : (why : Pause) (told : Stop) (s : State M) (bytes : List ℕ) (old new : TapTold)
      → SpellBy (form_of f) Spells why bytes (put_in s) → StoppedBy why bytes old new
      → SaidBy why s → HasAll told s
      → ReadsBy (form_of f) Spells (finish_of told) bytes s.taken
      × CausedBy (finish_of told) bytes old new
  read_all_of pause.Gone told s bytes old new spell caused said all =
      absurd (not_none told (sym said ∙ all.0))
  read_all_of (pause.Stopped how) told s bytes old new spell caused said all =
      let is = same_stop how told s said all.0 in (
        subst (λ (h : Stop). ReadsBy (form_of f) Spells (finish_of h) bytes s.taken) is
            (subst (λ (xs : List M). ReadsBy (form_of f) Spells (finish_of how) bytes xs)
            (all_taken s all.1) spell),
        subst (λ (h : Stop). CausedBy (finish_of h) bytes old new) is caused,
      )

  taken_begin : (why : Pause) (s : State M) (bytes : List ℕ)
      → SpellBy (form_of f) Spells why bytes (put_in s)
      → Begins (form_of f) Spells bytes s.taken
  taken_begin why s bytes spell =
      begins_front f Spells bytes s.taken s.waiting
      (spell_begin f Spells why bytes (put_in s) spell)

  reads_so : (how : Finish) (why : Pause) (s : State M) (bytes : List ℕ) (old new : TapTold)
      → SpellBy (form_of f) Spells why bytes (put_in s) → StoppedBy why bytes old new
      → SaidBy why s → ToldBy how s
      → ReadsBy (form_of f) Spells how bytes s.taken × CausedBy how bytes old new
  reads_so finish.NoMemory why s bytes old new spell caused said told =
      (taken_begin why s bytes spell, tt)
  reads_so finish.OutputFault why s bytes old new spell caused said told =
      (taken_begin why s bytes spell, tt)
  reads_so finish.AtEnd why s bytes old new spell caused said told =
      read_all_of why stop.AtEnd s bytes old new spell caused said told
  reads_so finish.BadInput why s bytes old new spell caused said told =
      read_all_of why stop.BadInput s bytes old new spell caused said told
  reads_so finish.InputFault why s bytes old new spell caused said told =
      read_all_of why stop.InputFault s bytes old new spell caused said told
  reads_so finish.TooLong why s bytes old new spell caused said told =
      read_all_of why stop.TooLong s bytes old new spell caused said told

module _ (f : Framing) {M : Type 0} (Spells : List ℕ → M → Type 0) (Answers : M → List M
    → List ShopCall → Result (Option (List ℕ)) NoMemory → Type 0) where
  -- the worker calls the run off before it has taken anything
  pub called_off : (s s' : State M) (out : SinkTold) (shop : ShopTold) → s ≡ first → HasLeft s s'
      → WorkerLeaves Answers finish.NoMemory s' out out shop shop
  called_off s s' out shop fresh h = record {
    left = h.1;
    told = tt;
    answered = subst (λ (xs : List M). Answered Answers (Some finish.NoMemory) [] xs out out shop
        shop) (sym (h.0 ∙ ap (λ (x : State M). x.taken) fresh)) (answered_nothing Answers out shop);
  }

  -- nothing was read
  pub serves_nothing : (o : Outside) → Serves (form_of f) Spells Answers finish.NoMemory [] o o
  serves_nothing o = record {
    bytes = [];
    messages = [];
    taken = adds_nothing o.input.taken;
    reads = ((whole_new f Spells).0, (whole_new f Spells).1);
    caused = tt;
    answered = answered_nothing Answers o.out o.shop;
  }

  -- what both lanes have seen is the same in the end
  pub serves_so : (how : Finish) (why : Pause) (s s' : State M) (old new : Outside) → s ≡ s'
      → ReaderLeaves (form_of f) Spells why s old.input new.input
      → WorkerLeaves Answers how s' old.out new.out old.shop new.shop
      → Serves (form_of f) Spells Answers how [] old new
  serves_so how why s s' old new is r w =
      let told = subst (λ (x : State M). ToldBy how x) (sym is) w.told in
      let both = reads_so f Spells how why s r.read.bytes old.input new.input r.read.spell
      r.read.caused r.said told in
      record {
        bytes = r.read.bytes;
        messages = s.taken;
        taken = r.read.taken;
        reads = both.0;
        caused = both.1;
        answered = subst (λ (x : State M). Answered Answers (Some how) [] x.taken old.out new.out
            old.shop new.shop) (sym is) w.answered;
      }
