-- What each lane knows of the mailbox as the history goes on.
use Rattle.std.proofs.Common.{◌≡◌, ◌⊎◌, ℕ, ◌==◌, ◌&&◌, Bool, true, false, cond, List, [], ◌∷◌, ◌++◌}
use Rattle.std.proofs.Common.{Option, Some, None, refl, ap, sym, ◌∙◌, subst, inl, inr, append-nil}
use Rattle.std.proofs.Common.{append_assoc, eq-eqb, ne_eqb}
use mathlib.Core.Logic.{dite}
use native.Mathlib.Decide.{ℕ_discrete}
use Rattle.std.specs.Prelude.{Result, IfOk, OnErr}
use Rattle.std.specs.Global.{Vec}
use Rattle.std.specs.List.{fold}
use Rattle.std.proofs.lemmas.List.Sums.{fold-append}
use Rattle.plain_values.specs.declared.no_memory.NoMemory.{NoMemory}
use Rattle.plain_values.specs.declared.entry.Entry.{Entry}
use Rattle.seat_desk.specs.declared.view.View.{View}
use Rattle.seat_desk.specs.History.{entry, after, calls_by, GoesOn, StartsWith}
use Rattle.seat_desk.specs.Desks.{Answers}
use Rattle.message_box.specs.declared.mailbox.Stop.{Stop}
use Rattle.message_box.specs.declared.mailbox.Ask.{Ask}
use Rattle.message_box.specs.declared.mailbox.Ask.TheVariants as ask
use Rattle.message_box.specs.declared.mailbox.Answer.{Answer}
use Rattle.message_box.specs.declared.mailbox.Answer.TheVariants as answer
use Rattle.message_box.specs.declared.mailbox.Nothing.{Nothing}
use Rattle.message_box.specs.declared.reading.Offered.{Offered}
use Rattle.message_box.specs.declared.reading.Offered.TheVariants as offered
use Rattle.message_box.specs.declared.taking.Took.{Took}
use Rattle.message_box.specs.States.{State, reader, taker, is_kept, is_short, not_stopped}
use Rattle.message_box.specs.States.{taken_from}
use Rattle.message_box.specs.States.{put_in, reads, answer_to, moved, state_then, state_of, first}
use Rattle.message_box.specs.States.{ComesOut, MayBeShort, IsLook}
use Rattle.message_box.specs.Sides.{ReaderStands, TakerStands, HasPut, HasStopped, HasAll}
use Rattle.message_box.specs.Sides.{HasLeft, MayHaveTaken, took_by, offered_by}
use Rattle.message_box.proofs.Turning.{after_is}

-- ---- entries of the other lane

gone_kept : (left b : Bool) → b ≡ false
    → is_kept (cond left answer.Gone (cond b answer.Done answer.Gone)) ≡ false
gone_kept true b e = refl
gone_kept false b e = ap (λ (t : Bool). is_kept (cond t answer.Done answer.Gone)) e

take_kept : (left b : Bool) (a : Answer) → b ≡ false
    → is_kept (cond left answer.Gone (cond b a answer.Gone)) ≡ false
take_kept true b a e = refl
take_kept false b a e = ap (λ (t : Bool). is_kept (cond t a answer.Gone)) e

and_no : (a b : Bool) → a ≡ false → (a && b) ≡ false
and_no a b e = ap (λ (t : Bool). t && b) e

and_not : (a b : Bool) → b ≡ false → (a && b) ≡ false
and_not true b e = e
and_not false b e = refl

left_kept : (left : Bool) (a : Answer) → left ≡ true → is_kept (cond left answer.Gone a) ≡ false
left_kept left a e = ap (λ (t : Bool). is_kept (cond t answer.Gone a)) e

paid_answer : {A B : Type 0} → A ⊎ (B × ⊥) → A
paid_answer (inl a) = a
paid_answer (inr b) = absurd b.1

false_not_true : false ≡ true → ⊥
false_not_true e = cc

true_not_false : true ≡ false → ⊥
true_not_false e = cc

abbrev stop_in : Stop → Answer → Stop
stop_in other (answer.Stopped stop) = stop
stop_in other answer.Done = other
stop_in other answer.Open = other
stop_in other answer.Idle = other
stop_in other answer.Gone = other
stop_in other answer.NoRoom = other

abbrev is_stopped : Answer → Bool
is_stopped (answer.Stopped stop) = true
is_stopped answer.Done = false
is_stopped answer.Open = false
is_stopped answer.Idle = false
is_stopped answer.Gone = false
is_stopped answer.NoRoom = false

stopped_not : (stop : Stop) (a : Answer) → is_stopped a ≡ false → answer.Stopped stop ≡ a → ⊥
stopped_not stop a n e = true_not_false (ap is_stopped e ∙ n)

-- what a Take that says how the reader stopped tells
stop_is : {A : Type 0} (left mine : Bool) (ws : List A) (o : Option Stop) (stop : Stop)
    → answer.Stopped stop ≡ cond left answer.Gone (cond mine (taken_from ws o) answer.Gone)
    → (o ≡ Some stop) × (ws ≡ [])
stop_is true mine ws o stop e = absurd (stopped_not stop answer.Gone refl e)
stop_is false false ws o stop e = absurd (stopped_not stop answer.Gone refl e)
stop_is false true (x ∷ xs) o stop e = absurd (stopped_not stop answer.Done refl e)
stop_is false true [] None stop e = absurd (stopped_not stop answer.Idle refl e)
stop_is false true [] (Some how) stop e =
    (ap (λ (s : Stop). Some s) (sym (ap (stop_in stop) e)), refl)

leave_done : (left mine : Bool) → mine ≡ true
    → is_kept (cond left answer.Gone (cond mine answer.Done answer.Gone)) ≡ false → left ≡ true
leave_done true mine m k = refl
leave_done false true m k = absurd (true_not_false k)
leave_done false false m k = absurd (false_not_true m)

mine_is : (lane : ℕ) → lane ≡ taker → (lane == taker) ≡ true
mine_is lane is = eq-eqb lane taker is

reads_yes : (mine : Bool) (o : Option Stop) → mine ≡ true → o ≡ None
    → (mine && not_stopped o) ≡ true
reads_yes mine o m n =
    ap (λ (b : Bool). b && not_stopped o) m ∙ ap (λ (x : Option Stop). true && not_stopped x) n

-- a Take that isn't Done found nothing
none_is : {A : Type 0} (left mine : Bool) (ws : List A) (o : Option Stop) → left ≡ false
    → mine ≡ true
    → is_kept (cond left answer.Gone (cond mine (taken_from ws o) answer.Gone)) ≡ false → ws ≡ []
none_is true mine ws o l m k = absurd (true_not_false l)
none_is false false ws o l m k = absurd (false_not_true m)
none_is false true (x ∷ xs) o l m k = absurd (true_not_false k)
none_is false true [] o l m k = refl

module _ {X : Type 0} where
  abbrev Step : State X → ℕ → Ask X → State X
  Step s lane c = cond (is_kept (answer_to s lane c)) (moved s c) s

  stays : (s : State X) (lane : ℕ) (c : Ask X) → is_kept (answer_to s lane c) ≡ false
      → Step s lane c ≡ s
  stays s lane c k = ap (λ (b : Bool). cond b (moved s c) s) k

  either : (P : State X → Type 0) (b : Bool) (s s' : State X) → P s → P s' → P (cond b s' s)
  either P true s s' p p' = p'
  either P false s s' p p' = p

  reader_same : (s s' : State X) → s' ≡ s → ReaderStands s s'
  reader_same s s' e = (ap put_in e, ap (λ (x : State X). x.stop) e)

  reader_step : (s : State X) (lane : ℕ) (c : Ask X) → (lane == reader) ≡ false
      → ReaderStands s (Step s lane c)
  reader_step s lane (ask.Put batch) n = reader_same s _ (stays s lane (ask.Put batch)
      (gone_kept s.left _ (and_no (lane == reader) (not_stopped s.stop) n)))
  reader_step s lane (ask.Stop stop) n = reader_same s _ (stays s lane (ask.Stop stop)
      (gone_kept s.left _ (and_no (lane == reader) (not_stopped s.stop) n)))
  reader_step s lane ask.Take n = either (λ (x : State X). ReaderStands s x) _ s (moved s ask.Take)
      (refl, refl) (append-nil (put_in s), refl)
  reader_step s lane ask.Leave n =
      either (λ (x : State X). ReaderStands s x) _ s (moved s ask.Leave)
      (refl, refl) (refl, refl)
  reader_step s lane ask.Room n = either (λ (x : State X). ReaderStands s x) _ s s
      (refl, refl) (refl, refl)
  reader_step s lane ask.Left n = either (λ (x : State X). ReaderStands s x) _ s s
      (refl, refl) (refl, refl)

  abbrev pub TakerKeeps : State X → State X → Type 0
  TakerKeeps s s' = TakerStands s s' × ((stop : Stop) → HasAll stop s → HasAll stop s')

  taker_same : (s s' : State X) → s' ≡ s → TakerKeeps s s'
  taker_same s s' e = (
    (ap (λ (x : State X). x.taken) e, ap (λ (x : State X). x.left) e),
    λ stop h. subst (λ (x : State X). HasAll stop x) (sym e) h,
  )

  no_more : (s : State X) (stop : Stop) → HasAll stop s → not_stopped s.stop ≡ false
  no_more s stop h = ap not_stopped h.0

  reads_not : (s : State X) (lane : ℕ) (stop : Stop) → HasAll stop s → reads s lane ≡ false
  reads_not s lane stop h = and_not (lane == reader) (not_stopped s.stop) (no_more s stop h)

  taker_step : (s : State X) (lane : ℕ) (c : Ask X) → (lane == taker) ≡ false
      → TakerKeeps s (Step s lane c)
  taker_step s lane (ask.Put batch) n = (
    either (λ (x : State X). TakerStands s x) _ s (moved s (ask.Put batch)) (refl, refl)
        (refl, refl),
    λ stop h. subst (λ (x : State X). HasAll stop x) (sym (stays s lane (ask.Put batch)
        (gone_kept s.left _ (reads_not s lane stop h)))) h,
  )
  taker_step s lane (ask.Stop how) n = (
    either (λ (x : State X). TakerStands s x) _ s (moved s (ask.Stop how)) (refl, refl)
        (refl, refl),
    λ stop h. subst (λ (x : State X). HasAll stop x) (sym (stays s lane (ask.Stop how)
        (gone_kept s.left _ (reads_not s lane stop h)))) h,
  )
  taker_step s lane ask.Take n =
      taker_same s _ (stays s lane ask.Take (take_kept s.left (lane == taker) _ n))
  taker_step s lane ask.Leave n =
      taker_same s _ (stays s lane ask.Leave (gone_kept s.left (lane == taker) n))
  taker_step s lane ask.Room n = either (λ (x : State X). TakerKeeps s x) _ s s
      ((refl, refl), λ stop h. h) ((refl, refl), λ stop h. h)
  taker_step s lane ask.Left n = either (λ (x : State X). TakerKeeps s x) _ s s
      ((refl, refl), λ stop h. h) ((refl, refl), λ stop h. h)

  -- once the taker has left nothing changes
  pub left_rest : (s : State X) (rest : List (Entry (Ask X) Answer)) → s.left ≡ true
      → fold state_then s rest ≡ s
  left_rest s [] l = refl
  left_rest s (e ∷ es) l =
      ap (λ (x : State X). fold state_then x es) (stays s e.lane e.call (left_kept s.left _ l))
      ∙ left_rest s es l

  -- ---- the history goes on by entries of other lanes

  other_lane : (lane : ℕ) (e : Entry (Ask X) Answer) (es : List (Entry (Ask X) Answer))
      → calls_by lane (e ∷ es) ≡ [] → ((e.lane == lane) ≡ false) × (calls_by lane es ≡ [])
  other_lane lane e es none = dite (ℕ_discrete lane e.lane)
      (λ same. absurd
      (let b : (lane == e.lane) ≡ true = eq-eqb lane e.lane same in
      let x : e ∷ calls_by lane es ≡ [] =
      ap (λ (t : Bool). cond t (e ∷ calls_by lane es) (calls_by lane es)) (sym b) ∙ none in cc))
      (λ other.
      let b : (lane == e.lane) ≡ false = ne_eqb lane e.lane other in (
        ne_eqb e.lane lane (λ q. other (sym q)),
        ap (λ (t : Bool). cond t (e ∷ calls_by lane es) (calls_by lane es)) (sym b) ∙ none,
      ))

  reader_rest : (s : State X) (rest : List (Entry (Ask X) Answer)) → calls_by reader rest ≡ []
      → ReaderStands s (fold state_then s rest)
  reader_rest s [] none = (refl, refl)
  reader_rest s (e ∷ es) none =
      let o = other_lane reader e es none in
      let one = reader_step s e.lane e.call o.0 in
      let more = reader_rest (state_then s e) es o.1 in
      (more.0 ∙ one.0, more.1 ∙ one.1)

  taker_rest : (s : State X) (rest : List (Entry (Ask X) Answer)) → calls_by taker rest ≡ []
      → TakerKeeps s (fold state_then s rest)
  taker_rest s [] none = ((refl, refl), λ stop h. h)
  taker_rest s (e ∷ es) none =
      let o = other_lane taker e es none in
      let one = taker_step s e.lane e.call o.0 in
      let more = taker_rest (state_then s e) es o.1 in
      ((more.0.0 ∙ one.0.0, more.0.1 ∙ one.0.1), λ stop h. more.1 stop (one.1 stop h))

  on_from : (seen rest : List (Entry (Ask X) Answer))
      → state_of (seen ++ rest) ≡ fold state_then (state_of seen) rest
  on_from seen rest = fold-append (λ (s : State X) (x : Entry (Ask X) Answer). state_then s x) first
      seen rest

  pub reader_on : (lane : ℕ) (seen h : List (Entry (Ask X) Answer)) → lane ≡ reader
      → GoesOn lane seen h → ReaderStands (state_of seen) (state_of h)
  reader_on lane seen h is on = subst (λ (x : State X). ReaderStands (state_of seen) x)
      (sym (ap state_of on.1 ∙ on_from seen on.0))
      (reader_rest (state_of seen) on.0 (subst (λ (k : ℕ). calls_by k on.0 ≡ []) is on.2))

  pub taker_on : (lane : ℕ) (seen h : List (Entry (Ask X) Answer)) → lane ≡ taker
      → GoesOn lane seen h → TakerKeeps (state_of seen) (state_of h)
  taker_on lane seen h is on = subst (λ (x : State X). TakerKeeps (state_of seen) x)
      (sym (ap state_of on.1 ∙ on_from seen on.0))
      (taker_rest (state_of seen) on.0 (subst (λ (k : ℕ). calls_by k on.0 ≡ []) is on.2))

  -- two fronts of one history after which the taker has left
  left_front : (a b : List (Entry (Ask X) Answer)) → StartsWith b a → (state_of a).left ≡ true
      → state_of a ≡ state_of b
  left_front a b f l = sym (ap state_of f.1 ∙ on_from a f.0 ∙ left_rest (state_of a) f.0 l)

  pub settled : (h a b : List (Entry (Ask X) Answer)) → StartsWith h a → StartsWith h b
      → (state_of a).left ≡ true → (state_of b).left ≡ true → state_of a ≡ state_of b
  settled h a b fa fb la lb = left_front a h fa la ∙ sym (left_front b h fb lb)

  -- ---- a call

  -- The mailbox was in the state `then` when the call was made, was answered so, and is in the
  -- state s' after it.
  pub record Called (lane : ℕ) (s : State X) (call : Ask X) (reply : Answer) (good : Option (Vec X))
      (s' : State X) : Type 0 where
    pub then : State X
    pub by_reader : lane ≡ reader → ReaderStands s then
    pub by_taker : lane ≡ taker → TakerKeeps s then
    pub answered : (reply ≡ answer_to then lane call) ⊎ ((is_short reply ≡ true) × MayBeShort call)
    pub moves : s' ≡ cond (is_kept reply) (moved then call) then
    pub gives : ComesOut then call reply good

  abbrev pub Makes : {S : Type 0} → (S → List (Entry (Ask X) Answer) → Type 0)
      → (List (Entry (Ask X) Answer) → ℕ → Ask X → Type 0) → ℕ → View (Ask X) Answer Nothing
      → Ask X → Answer → Option (Vec X) → View (Ask X) Answer Nothing → Type 0
  Makes stands may lane v call reply good w =
      Answers stands (λ h k c. answer_to (state_of h) k c) is_short may
      (λ e. is_kept e.reply) (λ h k c r g. ComesOut (state_of h) c r g) lane v call reply good w

  called_at : (lane : ℕ) (seen h seen' : List (Entry (Ask X) Answer)) (call : Ask X)
      (reply : Answer) (good : Option (Vec X)) → GoesOn lane seen h
      → (reply ≡ answer_to (state_of h) lane call) ⊎ ((is_short reply ≡ true) × MayBeShort call)
      → seen' ≡ after (λ e. is_kept e.reply) h (entry lane call reply)
      → ComesOut (state_of h) call reply good
      → Called lane (state_of seen) call reply good (state_of seen')
  called_at lane seen h seen' call reply good on answered grows gives = record {
    then = state_of h;
    by_reader = λ is. reader_on lane seen h is on;
    by_taker = λ is. taker_on lane seen h is on;
    answered = answered;
    moves = ap state_of grows ∙ after_is h lane call reply answered;
    gives = gives;
  }

  pub called : {S : Type 0} (stands : S → List (Entry (Ask X) Answer) → Type 0) (lane : ℕ)
      (v w : View (Ask X) Answer Nothing) (call : Ask X) (reply : Answer) (good : Option (Vec X))
      → Makes stands (λ h k c. MayBeShort c) lane v call reply good w
      → Called lane (state_of v.seen) call reply good (state_of w.seen)
  called stands lane v w call reply good a =
      called_at lane v.seen a.0 w.seen call reply good a.1 a.2 a.3.0 a.4

  pub called_paid : {S : Type 0} (stands : S → List (Entry (Ask X) Answer) → Type 0) (lane : ℕ)
      (v w : View (Ask X) Answer Nothing) (call : Ask X) (reply : Answer) (good : Option (Vec X))
      → Makes stands (λ h k c. ⊥) lane v call reply good w
      → Called lane (state_of v.seen) call reply good (state_of w.seen)
  called_paid stands lane v w call reply good a =
      called_at lane v.seen a.0 w.seen call reply good a.1 (inl (paid_answer a.2)) a.3.0 a.4

  -- ---- each call

  both_same : (b : Bool) (x : State X) → cond b x x ≡ x
  both_same true x = refl
  both_same false x = refl

  at_then : (s s' then : State X) → s' ≡ then → ReaderStands s then → ReaderStands s s'
  at_then s s' then e h = subst (λ (x : State X). ReaderStands s x) (sym e) h

  pub looks : (lane : ℕ) (s : State X) (call : Ask X) (reply : Answer) (good : Option (Vec X))
      (s' : State X) → lane ≡ reader → IsLook call → Called lane s call reply good s'
      → ReaderStands s s'
  looks lane s (ask.Put batch) reply good s' is look c = absurd look
  looks lane s (ask.Stop stop) reply good s' is look c = absurd look
  looks lane s ask.Take reply good s' is look c = absurd look
  looks lane s ask.Leave reply good s' is look c = absurd look
  looks lane s ask.Room reply good s' is look c =
      at_then s s' c.then (c.moves ∙ both_same (is_kept reply) c.then) (c.by_reader is)
  looks lane s ask.Left reply good s' is look c =
      at_then s s' c.then (c.moves ∙ both_same (is_kept reply) c.then) (c.by_reader is)

  put_more : (s s' then : State X) (batch : Vec X) → ReaderStands s then
      → put_in s' ≡ put_in then ++ batch.items → s'.stop ≡ then.stop
      → HasPut batch.items offered.Done s s'
  put_more s s' then batch h e f =
      (e ∙ ap (λ (xs : List X). xs ++ batch.items) h.0, f ∙ h.1)

  abbrev pub PutSo : List X → Result Offered NoMemory → State X → State X → Type 0
  PutSo more told s s' = IfOk told (λ o. HasPut more o s s') × OnErr told (ReaderStands s s')

  put_left : (lane : ℕ) (s then : State X) (call : Ask X) (batch : Vec X) (reply : Answer)
      → lane ≡ reader → s.stop ≡ None → ReaderStands s then
      → ((t : State X) → answer_to t lane call ≡ cond t.left answer.Gone (cond (reads t lane)
      answer.Done answer.Gone))
      → (reply ≡ answer_to then lane call) ⊎ ((is_short reply ≡ true) × MayBeShort call)
      → is_kept reply ≡ false → is_short reply ≡ false → then.left ≡ true
  put_left lane s then call batch reply is none h by (inl a) k n =
      leave_done then.left (reads then lane)
      (reads_yes (lane == reader) then.stop (eq-eqb lane reader is) (h.1 ∙ none))
      (ap is_kept (sym (a ∙ by then)) ∙ k)
  put_left lane s then call batch reply is none h by (inr q) k n =
      absurd (true_not_false (sym q.0 ∙ n))

  gone_so : (s s' then : State X) → s' ≡ then → ReaderStands s then → then.left ≡ true
      → HasPut {X = X} [] offered.Gone s s'
  gone_so s s' then e h l =
      (at_then s s' then e h, ap (λ (x : State X). x.left) e ∙ l)

  pub has_put : (lane : ℕ) (s : State X) (call : Ask X) (batch : Vec X) (reply : Answer)
      (good : Option (Vec X)) (s' : State X) → lane ≡ reader → s.stop ≡ None
      → ((t : State X) → put_in (moved t call) ≡ put_in t ++ batch.items)
      → ((t : State X) → (moved t call).stop ≡ t.stop)
      → ((t : State X) → answer_to t lane call ≡ cond t.left answer.Gone (cond (reads t lane)
      answer.Done answer.Gone))
      → Called lane s call reply good s' → PutSo batch.items (offered_by reply) s s'
  has_put lane s call batch answer.Done good s' is none puts stop by c = (
    put_more s s' c.then batch (c.by_reader is) (ap put_in c.moves ∙ puts c.then)
        (ap (λ (x : State X). x.stop) c.moves ∙ stop c.then),
    tt,
  )
  has_put lane s call batch answer.NoRoom good s' is none puts stop by c =
      (tt, at_then s s' c.then c.moves (c.by_reader is))
  has_put lane s call batch answer.Open good s' is none puts stop by c = (
    gone_so s s' c.then c.moves (c.by_reader is) (put_left lane s c.then call batch answer.Open is
        none (c.by_reader is) by c.answered refl refl),
    tt,
  )
  has_put lane s call batch answer.Idle good s' is none puts stop by c = (
    gone_so s s' c.then c.moves (c.by_reader is) (put_left lane s c.then call batch answer.Idle is
        none (c.by_reader is) by c.answered refl refl),
    tt,
  )
  has_put lane s call batch (answer.Stopped how) good s' is none puts stop by c = (
    gone_so s s' c.then c.moves (c.by_reader is) (put_left lane s c.then call batch
        (answer.Stopped how) is none (c.by_reader is) by c.answered refl refl),
    tt,
  )
  has_put lane s call batch answer.Gone good s' is none puts stop by c = (
    gone_so s s' c.then c.moves (c.by_reader is) (put_left lane s c.then call batch answer.Gone is
        none (c.by_reader is) by c.answered refl refl),
    tt,
  )

  stop_so : (b : Bool) (how : Stop) (s s' then : State X) → s.stop ≡ None
      → (b ≡ false → then.left ≡ true) → ReaderStands s then
      → s' ≡ cond b (moved then (ask.Stop how)) then → HasStopped how s s'
  stop_so true how s s' then none not h e =
      (ap put_in e ∙ h.0, inl (ap (λ (x : State X). x.stop) e))
  stop_so false how s s' then none not h e = (
    ap put_in e ∙ h.0,
    inr (
      ap (λ (x : State X). x.stop) e ∙ h.1 ∙ none,
      ap (λ (x : State X). x.left) e ∙ not refl,
    ),
  )

  stop_answer : (lane : ℕ) (s then : State X) (how : Stop) (reply : Answer) → lane ≡ reader
      → s.stop ≡ None → ReaderStands s then
      → (reply ≡ answer_to then lane (ask.Stop how))
      ⊎ ((is_short reply ≡ true) × MayBeShort {X = X} (ask.Stop how))
      → is_kept reply ≡ false → then.left ≡ true
  stop_answer lane s then how reply is none h (inl a) k =
      leave_done then.left (reads then lane)
      (reads_yes (lane == reader) then.stop (eq-eqb lane reader is) (h.1 ∙ none))
      (ap is_kept (sym a) ∙ k)
  stop_answer lane s then how reply is none h (inr q) k = absurd q.1

  pub has_stopped : (lane : ℕ) (s : State X) (how : Stop) (reply : Answer) (good : Option (Vec X))
      (s' : State X) → lane ≡ reader → s.stop ≡ None
      → Called lane s (ask.Stop how) reply good s' → HasStopped how s s'
  has_stopped lane s how reply good s' is none c =
      stop_so (is_kept reply) how s s' c.then none
      (stop_answer lane s c.then how reply is none (c.by_reader is) c.answered)
      (c.by_reader is) c.moves

  leave_so : (b : Bool) (s s' then : State X) → (b ≡ false → then.left ≡ true)
      → TakerKeeps s then → s' ≡ cond b (moved then ask.Leave) then → HasLeft s s'
  leave_so true s s' then not h e = (
    ap (λ (x : State X). x.taken) e ∙ h.0.0,
    ap (λ (x : State X). x.left) e,
    λ stop all. subst (λ (x : State X). HasAll stop x) (sym e) (h.1 stop all),
  )
  leave_so false s s' then not h e = (
    ap (λ (x : State X). x.taken) e ∙ h.0.0,
    ap (λ (x : State X). x.left) e ∙ not refl,
    λ stop all. subst (λ (x : State X). HasAll stop x) (sym e) (h.1 stop all),
  )

  leave_answer : (lane : ℕ) (then : State X) (reply : Answer) → lane ≡ taker
      → (reply ≡ answer_to then lane ask.Leave)
      ⊎ ((is_short reply ≡ true) × MayBeShort {X = X} ask.Leave)
      → is_kept reply ≡ false → then.left ≡ true
  leave_answer lane then reply is (inl a) k =
      leave_done then.left (lane == taker) (mine_is lane is) (ap is_kept (sym a) ∙ k)
  leave_answer lane then reply is (inr q) k = absurd q.1

  pub has_left : (lane : ℕ) (s : State X) (reply : Answer) (good : Option (Vec X))
      (s' : State X) → lane ≡ taker → Called lane s ask.Leave reply good s' → HasLeft s s'
  has_left lane s reply good s' is c = leave_so (is_kept reply) s s' c.then
      (leave_answer lane c.then reply is c.answered) (c.by_taker is) c.moves

  taker_then : (s s' then : State X) → s' ≡ then → TakerStands s then → TakerStands s s'
  taker_then s s' then e h = subst (λ (x : State X). TakerStands s x) (sym e) h

  stopped_so : (lane : ℕ) (then : State X) (stop : Stop)
      → (answer.Stopped stop ≡ answer_to then lane ask.Take)
      ⊎ ((is_short (answer.Stopped stop) ≡ true) × MayBeShort {X = X} ask.Take) → HasAll stop then
  stopped_so lane then stop (inl a) =
      stop_is then.left (lane == taker) then.waiting then.stop stop a
  stopped_so lane then stop (inr q) = absurd q.1

  nothing_waits : (lane : ℕ) (s then : State X) (reply : Answer) → lane ≡ taker → s.left ≡ false
      → TakerKeeps s then
      → (reply ≡ answer_to then lane ask.Take)
      ⊎ ((is_short reply ≡ true) × MayBeShort {X = X} ask.Take)
      → is_kept reply ≡ false → then.waiting ≡ []
  nothing_waits lane s then reply is here h (inl a) k =
      none_is then.left (lane == taker) then.waiting then.stop (h.0.1 ∙ here) (mine_is lane is)
      (ap is_kept (sym a) ∙ k)
  nothing_waits lane s then reply is here h (inr q) k = absurd q.1

  none_so : (lane : ℕ) (s : State X) (reply : Answer) (good : Option (Vec X)) (s' : State X)
      → lane ≡ taker → s.left ≡ false → (c : Called lane s ask.Take reply good s')
      → s' ≡ c.then → is_kept reply ≡ false → TakerStands s s' × (s'.waiting ≡ [])
  none_so lane s reply good s' is here c e k = (
    taker_then s s' c.then e (c.by_taker is).0,
    ap (λ (x : State X). x.waiting) e
        ∙ nothing_waits lane s c.then reply is here (c.by_taker is) c.answered k,
  )

  pub has_taken : (lane : ℕ) (s : State X) (reply : Answer) (good : Option (Vec X))
      (s' : State X) → lane ≡ taker → s.left ≡ false → Called lane s ask.Take reply good s'
      → MayHaveTaken (took_by reply good) s s'
  has_taken lane s answer.Done (Some v) s' is here c =
      let h = (c.by_taker is).0 in (
        ap (λ (x : State X). x.taken) c.moves
            ∙ ap (λ (xs : List X). xs ++ c.then.waiting) h.0
            ∙ ap (λ (xs : List X). s.taken ++ xs) (sym c.gives),
        ap (λ (x : State X). x.left) c.moves ∙ h.1,
        ap (λ (x : State X). x.waiting) c.moves,
      )
  has_taken lane s answer.Done None s' is here c = absurd c.gives
  has_taken lane s (answer.Stopped stop) good s' is here c = (
    taker_then s s' c.then c.moves (c.by_taker is).0,
    subst (λ (x : State X). HasAll stop x) (sym c.moves) (stopped_so lane c.then stop c.answered),
  )
  has_taken lane s answer.Open good s' is here c = none_so lane s answer.Open good s' is here c
      c.moves refl
  has_taken lane s answer.Idle good s' is here c = none_so lane s answer.Idle good s' is here c
      c.moves refl
  has_taken lane s answer.Gone good s' is here c = none_so lane s answer.Gone good s' is here c
      c.moves refl
  has_taken lane s answer.NoRoom good s' is here c = none_so lane s answer.NoRoom good s' is here c
      c.moves refl

  pub came_so : (s s' : State X) (by came : Option (Took X)) → came ≡ by
      → MayHaveTaken by s s' → MayHaveTaken came s s'
  came_so s s' by came e h = subst (λ (t : Option (Took X)). MayHaveTaken t s s') (sym e) h

  starts_on : (a b c : List (Entry (Ask X) Answer)) → StartsWith b a → StartsWith c b
      → StartsWith c a
  starts_on a b c f g = (
    f.0 ++ g.0,
    g.1 ∙ ap (λ (xs : List (Entry (Ask X) Answer)). xs ++ g.0) f.1
        ∙ append_assoc a f.0 g.0,
  )

  pub settled_by : (h mid a b : List (Entry (Ask X) Answer)) → StartsWith mid a → StartsWith h mid
      → StartsWith h b → (state_of a).left ≡ true → (state_of b).left ≡ true
      → state_of a ≡ state_of b
  settled_by h mid a b fa fm fb la lb = settled h a b (starts_on a mid h fa fm) fb la lb
