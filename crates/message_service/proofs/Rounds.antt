-- Round after round, to the end.
use Rattle.std.proofs.Common.{ℕ, ◌+◌, ◌<◌, ◌≤◌, List, [], ◌++◌, Bool, true, false, take, length}
use Rattle.std.proofs.Common.{Option, Some, None, Result, refl, sym, subst, append_assoc}
use Rattle.std.proofs.Common.{append-nil, inl, arith, length-append, length-take}
use Rattle.std.specs.Prelude.{Ok, Err}
use Rattle.plain_values.specs.declared.no_memory.NoMemory.{NoMemory}
use Rattle.outside.specs.Lists.{Adds, Tells}
use Rattle.outside.specs.Told.{TapTold, SinkTold, ShopTold}
use Rattle.outside.specs.declared.shop.ShopCall.{ShopCall}
use Rattle.delimited_framing.specs.Splitter.{Held}
use Rattle.json_framing.specs.Cutter.{form_of}
use Rattle.json_framing.specs.declared.cutter.Framing.{Framing}
use Rattle.message_service.specs.declared.finish.Finish.{Finish}
use Rattle.message_service.specs.declared.finish.Finish.TheVariants as finish
use Rattle.message_service.specs.Stream.{Heard, HeardAll, Begins, IsWhole}
use Rattle.message_service.specs.Ends.{CausedBy}
use Rattle.message_service.specs.Serves.{Answered, Handled, ReadsBy, Outside, Serves}
use Rattle.message_service.specs.Steps.{CutsOff, StopsReading, Round}
use Rattle.message_service.proofs.Made.{made_nothing, put_nothing}
use Rattle.message_service.proofs.Streams.{heard_first}
use Rattle.message_service.proofs.Turns.{Spanned, handled_more, handled_ends}

module _ (f : Framing) {M : Type 0} (Spells : List ℕ → M → Type 0) where
  pub begins_all : (goes : Bool) (fed : List ℕ) (ms : List M) (s : Held)
      → HeardAll (form_of f) Spells goes fed ms s → Begins (form_of f) Spells fed ms
  begins_all true fed ms s h = heard_first f Spells fed ms s h.0
  begins_all false fed ms s h = (h.0, h.1)

  pub reads_cut : (e : Finish) (fed : List ℕ) (ms : List M) → CutsOff e
      → Begins (form_of f) Spells fed ms → ReadsBy (form_of f) Spells e fed ms
  reads_cut finish.NoMemory fed ms cut b = b
  reads_cut finish.OutputFault fed ms cut b = b
  reads_cut finish.AtEnd fed ms cut b = absurd cut
  reads_cut finish.BadInput fed ms cut b = absurd cut
  reads_cut finish.InputFault fed ms cut b = absurd cut
  reads_cut finish.TooLong fed ms cut b = absurd cut

pub stops_cut : (e : Finish) → CutsOff e → StopsReading e
stops_cut finish.NoMemory cut = tt
stops_cut finish.OutputFault cut = tt
stops_cut finish.AtEnd cut = absurd cut
stops_cut finish.BadInput cut = absurd cut
stops_cut finish.InputFault cut = absurd cut
stops_cut finish.TooLong cut = absurd cut

pub caused_stop : (e : Finish) (bytes : List ℕ) (old new : TapTold) → StopsReading e
    → CausedBy e bytes old new
caused_stop finish.NoMemory bytes old new stop = tt
caused_stop finish.OutputFault bytes old new stop = tt
caused_stop finish.BadInput bytes old new stop = tt
caused_stop finish.AtEnd bytes old new stop = absurd stop
caused_stop finish.InputFault bytes old new stop = absurd stop
caused_stop finish.TooLong bytes old new stop = absurd stop

module _ {M : Type 0} (Answers : M → List M → List ShopCall → Result (Option (List ℕ)) NoMemory
    → Type 0) where
  -- nothing was read, for lack of memory
  pub answered_nothing : (out : SinkTold) (shop : ShopTold)
      → Answered Answers (Some finish.NoMemory) [] [] out out shop shop
  answered_nothing out shop = record {
    spans = [];
    left = [];
    begun = [];
    came = refl;
    runs = refl;
    leaves = inl refl;
    put = put_nothing out;
    made = made_nothing shop;
  }

  pub handled_nothing : (out : SinkTold) (shop : ShopTold)
      → Handled Answers (Some finish.NoMemory) [] out out shop shop
  handled_nothing out shop = record {
    turns = [];
    left = [];
    begun = [];
    follows = refl;
    leaves = inl refl;
    put = put_nothing out;
    made = made_nothing shop;
  }

  pub handled_bad : (ms : List M) (out out' : SinkTold) (shop shop' : ShopTold)
      → Handled Answers None ms out out' shop shop'
      → Handled Answers (Some finish.BadInput) ms out out' shop shop'
  handled_bad ms out out' shop shop' h = record {
    turns = h.turns;
    left = h.left;
    begun = h.begun;
    follows = h.follows;
    leaves = h.leaves;
    put = h.put;
    made = h.made;
  }

module _ (f : Framing) {M : Type 0} (Spells : List ℕ → M → Type 0) (Answers : M → List M
    → List ShopCall → Result (Option (List ℕ)) NoMemory → Type 0) where
  -- memory ran out before a message was read
  pub round_none : (fed : List ℕ) (ms : List M) (s : Held) (out : SinkTold) (shop : ShopTold)
      → Begins (form_of f) Spells fed ms → Round (form_of f) Spells Answers (Err finish.NoMemory)
      fed ms s out out shop shop
  round_none fed ms s out shop b = record {
    more = [];
    stands = subst (λ (xs : List M). Begins (form_of f) Spells fed xs) (sym (append-nil ms)) b;
    handled = handled_nothing Answers out shop;
  }

  pub round_cut : (e : Finish) (goes : Bool) (fed : List ℕ) (ms more : List M) (s : Held) (out out'
      : SinkTold) (shop shop' : ShopTold) → CutsOff e → HeardAll (form_of f) Spells goes fed (ms ++
      more) s → Handled Answers (Some e) more out out' shop shop'
      → Round (form_of f) Spells Answers (Err e) fed ms s out out' shop shop'
  round_cut e goes fed ms more s out out' shop shop' cut h a = record {
    more = more;
    stands = reads_cut f Spells e fed (ms ++ more) cut (begins_all f Spells goes fed (ms ++ more) s
        h);
    handled = a;
  }

  -- ---- the whole

  pub taken_on : (xs piece : List ℕ) (old mid new : Option (List ℕ)) → Adds xs old mid
      → Adds piece mid new → Adds (xs ++ piece) old new
  taken_on xs piece old mid new first second = λ zs holds. subst (λ (all : List ℕ). Tells new all)
      (append_assoc zs xs piece) (second (zs ++ xs) (first zs holds))

  pub taken_still : (xs : List ℕ) (old mid new : Option (List ℕ)) → Adds xs old mid
      → Adds [] mid new → Adds xs old new
  taken_still xs old mid new first second = subst (λ (ys : List ℕ). Adds ys old new) (append-nil
      xs) (taken_on xs [] old mid new first second)

  pub record Going (bytes : List ℕ) (ms : List M) (s : Held) (old new : Outside) : Type 0 where
    pub taken : Adds bytes old.input.taken new.input.taken
    pub later : old.input.faults ≤ new.input.faults
    pub heard : Heard (form_of f) Spells bytes ms s
    pub whole : IsWhole (form_of f) Spells bytes ms
    pub spanned : Spanned Answers ms [] old.out new.out old.shop new.shop

  pub going_on : (bytes piece : List ℕ) (ms : List M) (s s' : Held) (old mid new : Outside)
      → Going bytes ms s old mid → Adds piece mid.input.taken new.input.taken
      → mid.input.faults ≤ new.input.faults
      → (r : Round (form_of f) Spells Answers (Ok tt) (bytes ++ piece) ms s' mid.out new.out
      mid.shop new.shop) → Going (bytes ++ piece) (ms ++ r.more) s' old new
  going_on bytes piece ms s s' old mid new g taken later r = record {
    taken = taken_on bytes piece old.input.taken mid.input.taken new.input.taken g.taken taken;
    later = omega (arith, g.later, later);
    heard = r.stands.0;
    whole = r.stands.1;
    spanned = handled_more Answers ms r.more old.out mid.out new.out old.shop mid.shop new.shop
        g.spanned r.handled;
  }

  pub going_stops : (e : Finish) (bytes piece : List ℕ) (ms : List M) (s s' : Held) (old mid new :
      Outside) → StopsReading e → Going bytes ms s old mid → Adds piece mid.input.taken
      new.input.taken
      → Round (form_of f) Spells Answers (Err e) (bytes ++ piece) ms s' mid.out new.out mid.shop
      new.shop → Serves (form_of f) Spells Answers e [] old new
  going_stops e bytes piece ms s s' old mid new stop g taken r = record {
    bytes = bytes ++ piece;
    messages = ms ++ r.more;
    taken = taken_on bytes piece old.input.taken mid.input.taken new.input.taken g.taken taken;
    reads = r.stands;
    caused = caused_stop e (bytes ++ piece) old.input new.input stop;
    answered = handled_ends Answers (Some e) ms r.more old.out mid.out new.out old.shop mid.shop
        new.shop g.spanned r.handled;
  }

-- one piece more, of one read more
pub one_more : (fed into : List ℕ) (n counter : ℕ) → 0 < n → n ≤ length into
    → counter ≤ length fed → counter + 1 ≤ length (fed ++ take n into)
one_more fed into n counter some fits so =
    omega (arith, length-append fed (take n into), length-take n into)
