-- What was done stays so while more is taken.
use Rattle.std.proofs.Common.{◌≡◌, ℕ, List, [], ◌∷◌, ◌++◌, Option, Some, None, refl, sym}
use Rattle.std.proofs.Common.{subst, append-nil, inl, inr, Result}
use Rattle.std.specs.Prelude.{Ok, Err}
use Rattle.plain_values.specs.declared.no_memory.NoMemory.{NoMemory}
use Rattle.outside.specs.Told.{SinkTold, ShopTold}
use Rattle.outside.specs.declared.shop.ShopCall.{ShopCall}
use Rattle.message_service.specs.declared.finish.Finish.{Finish}
use Rattle.message_service.specs.declared.finish.Finish.TheVariants as finish
use Rattle.message_service.specs.Calls.{Made}
use Rattle.message_service.specs.Ends.{PutAll, PutFront, PutsBy}
use Rattle.message_service.specs.Turns.{Turn, said, Follows}
use Rattle.message_service.specs.Serves.{LeftBy, Answered}
use Rattle.message_service.specs.Steps.{CutsOff, Deals}
use Rattle.message_service.proofs.Made.{made_nothing, put_nothing}
use Rattle.message_service.proofs.Turns.{Spanned, spanned_none, spanned_more, spanned_ends}
use Rattle.message_service.proofs.Turns.{deals_cut}
use Rattle.message_box.specs.States.{State, first}
use Rattle.read_ahead.specs.Working.{ToldBy, EndsBefore, Refills, DealsFirst}

module _ {M : Type 0} where
  told_before : (f : Finish) (queue : List M) (s : State M) → EndsBefore f queue s → ToldBy f s
  told_before finish.NoMemory queue s e = tt
  told_before finish.OutputFault queue s e = absurd e
  told_before finish.AtEnd queue s e = e.1
  told_before finish.BadInput queue s e = e.1
  told_before finish.InputFault queue s e = e.1
  told_before finish.TooLong queue s e = e.1

  pub told_refill : (f : Finish) (queue queue' : List M) (s s' : State M)
      → Refills (Err f) queue queue' s s' → ToldBy f s'
  told_refill f queue queue' s s' r = told_before f (queue ++ r.0) s' r.2

  told_cut : (f : Finish) (s : State M) → CutsOff f → ToldBy f s
  told_cut finish.NoMemory s c = tt
  told_cut finish.OutputFault s c = tt
  told_cut finish.AtEnd s c = absurd c
  told_cut finish.BadInput s c = absurd c
  told_cut finish.InputFault s c = absurd c
  told_cut finish.TooLong s c = absurd c

  -- nothing is put where it ends before the next message
  ends_put : (f : Finish) (queue : List M) (s : State M) (out : SinkTold) → EndsBefore f queue s
      → PutsBy (Some f) [] out out
  ends_put finish.NoMemory queue s out e = put_nothing out
  ends_put finish.OutputFault queue s out e = absurd e
  ends_put finish.AtEnd queue s out e = put_nothing out
  ends_put finish.BadInput queue s out e = put_nothing out
  ends_put finish.InputFault queue s out e = put_nothing out
  ends_put finish.TooLong queue s out e = put_nothing out

module _ {M : Type 0} (Answers : M → List M → List ShopCall → Result (Option (List ℕ)) NoMemory
    → Type 0) where
  pub started : (s : State M) (out : SinkTold) (shop : ShopTold) → s ≡ first
      → Spanned Answers s.taken [] out out shop shop
  started s out shop is = subst (λ (x : State M). Spanned Answers x.taken [] out out shop shop)
      (sym is) (spanned_none Answers out shop)

  pub refilled : (queue queue' : List M) (s s' : State M) (out out' : SinkTold)
      (shop shop' : ShopTold) → Spanned Answers s.taken queue out out' shop shop'
      → Refills (Ok tt) queue queue' s s' → Spanned Answers s'.taken queue' out out' shop shop'
  refilled queue queue' s s' out out' shop shop' d r =
      subst (λ (xs : List M). Spanned Answers xs queue' out out' shop shop') (sym r.2.0)
      (spanned_more Answers s.taken queue r.0 queue' [] out out' out' shop shop' shop' d (sym r.1)
      (put_nothing out') (made_nothing shop'))

  -- ---- an end before the next message

  ends_left : (f : Finish) (queue : List M) (s : State M) → EndsBefore f queue s
      → LeftBy Answers (Some f) queue []
  ends_left finish.NoMemory queue s e = inl refl
  ends_left finish.OutputFault queue s e = absurd e
  ends_left finish.AtEnd queue s e = (e.0, refl)
  ends_left finish.BadInput queue s e = (e.0, refl)
  ends_left finish.InputFault queue s e = (e.0, refl)
  ends_left finish.TooLong queue s e = (e.0, refl)

  pub stopped : (f : Finish) (queue queue' : List M) (s s' : State M) (out out' : SinkTold)
      (shop shop' : ShopTold) → Spanned Answers s.taken queue out out' shop shop'
      → Refills (Err f) queue queue' s s'
      → Answered Answers (Some f) [] s'.taken out out' shop shop'
  stopped f queue queue' s s' out out' shop shop' d r =
      subst (λ (xs : List M). Answered Answers (Some f) [] xs out out' shop shop') (sym r.1.0)
      (spanned_ends Answers (Some f) s.taken queue r.0 (queue ++ r.0) [] [] out out' out' shop
      shop' shop' d refl (ends_left f (queue ++ r.0) s' r.2)
      (ends_put f (queue ++ r.0) s' out' r.2) (made_nothing shop'))

  -- ---- the next message

  first_is : (ms queue queue' : List M) (m : M) (out out' : SinkTold) (shop shop' : ShopTold)
      → queue ≡ m ∷ queue' → Spanned Answers ms queue out out' shop shop'
      → Spanned Answers ms (m ∷ queue') out out' shop shop'
  first_is ms queue queue' m out out' shop shop' is d =
      subst (λ (xs : List M). Spanned Answers ms xs out out' shop shop') is d

  -- one turn, before which nothing more came
  one_turn : (m : M) (left : List M) (t : Turn) → Answers m left t.calls (Ok t.reply)
      → Follows Answers ((m ∷ left) ++ []) (t ∷ []) left
  one_turn m left t a = (
    subst (λ (xs : List M). Answers m xs t.calls (Ok t.reply)) (sym (append-nil left)) a,
    append-nil left,
  )

  one_made : (t : Turn) (shop shop' : ShopTold) → Made t.calls shop shop'
      → Made (t.calls ++ []) shop shop'
  one_made t shop shop' m =
      subst (λ (cs : List ShopCall). Made cs shop shop') (sym (append-nil t.calls)) m

  dealt_here : (ms left : List M) (m : M) (out mid out' : SinkTold) (shop mid' shop' : ShopTold)
      → Spanned Answers ms (m ∷ left) out mid shop mid'
      → Deals Answers None m left mid out' mid' shop'
      → Spanned Answers ms left out out' shop shop'
  dealt_here ms left m out mid out' shop mid' shop' s d =
      subst (λ (xs : List M). Spanned Answers xs left out out' shop shop') (append-nil ms)
      (spanned_more Answers ms (m ∷ left) [] left (d.turn ∷ []) out mid out' shop mid' shop' s
      (one_turn m left d.turn d.is)
      (subst (λ (bytes : List ℕ). PutAll bytes mid out') (sym (append-nil (said d.turn.reply)))
      d.put)
      (one_made d.turn mid' shop' d.made))

  ends_here : (f : Finish) (ms left : List M) (m : M) (out mid out' : SinkTold)
      (shop mid' shop' : ShopTold) → Spanned Answers ms (m ∷ left) out mid shop mid'
      → Deals Answers (Some f) m left mid out' mid' shop'
      → Answered Answers (Some f) [] (ms ++ []) out out' shop shop'
  ends_here finish.AtEnd ms left m out mid out' shop mid' shop' s d = absurd d
  ends_here finish.BadInput ms left m out mid out' shop mid' shop' s d = absurd d
  ends_here finish.InputFault ms left m out mid out' shop mid' shop' s d = absurd d
  ends_here finish.TooLong ms left m out mid out' shop mid' shop' s d = absurd d
  ends_here finish.NoMemory ms left m out mid out' shop mid' shop' s d =
      spanned_ends Answers (Some finish.NoMemory) ms (m ∷ left) [] (m ∷ left) [] d.begun out mid
      out' shop mid' shop' s (append-nil (m ∷ left)) (inr d.is)
      (subst (λ (o : SinkTold). PutAll [] mid o) (sym d.still) (put_nothing mid)) d.made
  ends_here finish.OutputFault ms left m out mid out' shop mid' shop' s d =
      spanned_ends Answers (Some finish.OutputFault) ms (m ∷ left) [] left (d.turn ∷ []) [] out mid
      out' shop mid' shop' s (one_turn m left d.turn d.is) refl
      (subst (λ (bytes : List ℕ). PutFront bytes mid out') (sym (append-nil (said d.turn.reply)))
      d.put)
      (subst (λ (cs : List ShopCall). Made cs mid' shop') (sym (append-nil (d.turn.calls ++ [])))
      (one_made d.turn mid' shop' d.made))

  pub dealt : (ms queue queue' : List M) (out mid out' : SinkTold) (shop mid' shop' : ShopTold)
      → Spanned Answers ms queue out mid shop mid'
      → DealsFirst Answers None queue queue' mid out' mid' shop'
      → Spanned Answers ms queue' out out' shop shop'
  dealt ms queue queue' out mid out' shop mid' shop' d one =
      dealt_here ms queue' one.0 out mid out' shop mid' shop'
      (first_is ms queue queue' one.0 out mid shop mid' one.1 d) one.2

  pub dealt_last : (f : Finish) (ms queue queue' : List M) (out mid out' : SinkTold)
      (shop mid' shop' : ShopTold) → Spanned Answers ms queue out mid shop mid'
      → DealsFirst Answers (Some f) queue queue' mid out' mid' shop'
      → Answered Answers (Some f) [] ms out out' shop shop'
  dealt_last f ms queue queue' out mid out' shop mid' shop' d one =
      subst (λ (xs : List M). Answered Answers (Some f) [] xs out out' shop shop') (append-nil ms)
      (ends_here f ms queue' one.0 out mid out' shop mid' shop'
      (first_is ms queue queue' one.0 out mid shop mid' one.1 d) one.2)

  pub told_last : (f : Finish) (queue queue' : List M) (s : State M) (mid out' : SinkTold)
      (mid' shop' : ShopTold) → DealsFirst Answers (Some f) queue queue' mid out' mid' shop'
      → ToldBy f s
  told_last f queue queue' s mid out' mid' shop' one =
      told_cut f s (deals_cut Answers f one.0 queue' mid out' mid' shop' one.2)
