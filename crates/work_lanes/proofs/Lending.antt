-- What a lane has in hand while it lends its flag.
use Rattle.std.proofs.Common.{◌≡◌, ℕ, ℤ, Bool, true, List, Option, Some, None, refl, ap, sym, ◌∙◌, subst}
use Rattle.atomic_table.specs.Seated.{TableId}
use Rattle.seat_desk.specs.declared.machine.Machine.{Ghosts}
use Rattle.seat_desk.specs.declared.desk.Pass.{Pass}
use Rattle.seat_desk.specs.Passes.{IsSamePass, basis}
use Rattle.work_queue.specs.declared.queue.Ask.{Ask}
use Rattle.work_queue.specs.declared.queue.Told.{Told}
use Rattle.work_queue.specs.States.{State, Task, Held, task_at, held, is_cancelled, begun_by}
use Rattle.work_lanes.specs.Calls.{Owner, InHand, state_at, begun_at, owner_at, raised_at}

pub same_owner : {X Q : Type 0} (d d' : TableId) (k k' : ℕ) (b b' : Q) (xs xs' : List X)
    (o o' : Option (Held X)) → d' ≡ d → k' ≡ k → b' ≡ b → xs' ≡ xs → o' ≡ o
    → ◌≡◌ {A = Owner X Q}
    (record { desk = d'; lane = k'; basis = b'; begun = xs'; hand = o' })
    (record { desk = d; lane = k; basis = b; begun = xs; hand = o })
same_owner {X} {Q} d d' k k' b b' xs xs' o o' desk lane basis begun hand =
    ap (λ (x : TableId). record { desk = x; lane = k'; basis = b'; begun = xs'; hand = o' }) desk
    ∙ (ap (λ (x : ℕ). record { desk = d; lane = x; basis = b'; begun = xs'; hand = o' }) lane
    ∙ (ap (λ (x : Q). record { desk = d; lane = k; basis = x; begun = xs'; hand = o' }) basis
    ∙ (ap (λ (x : List X). record { desk = d; lane = k; basis = b; begun = x; hand = o' }) begun
    ∙ ap (λ (x : Option (Held X)). record { desk = d; lane = k; basis = b; begun = xs; hand = x })
    hand)))

module _ {X : Type 0} where
  none_some : (x : Held X) → None ≡ Some x → ⊥
  none_some x e = cc

  abbrev held_or : Held X → Option (Held X) → Held X
  held_or other None = other
  held_or other (Some x) = x

  abbrev hold : X → Bool → Held X
  hold m was = record { request = m; was = was }

module _ {X Y : Type 0} where
  held_in : (lane : ℕ) (m : X) (was b : Bool) (s : State X Y) → InHand lane m was b s
      → held (task_at lane s.hands) ≡ Some (hold m was)
  held_in lane m was b s h =
      ap (λ (o : Option (Task X)). held o) h.here
      ∙ (ap (λ (x : X). Some (hold x h.task.was)) h.is ∙ ap (λ (x : Bool). Some (hold m x)) h.begun)

  in_hand : (lane : ℕ) (m : X) (was : Bool) (s : State X Y) (o : Option (Task X))
      → task_at lane s.hands ≡ o → held o ≡ Some (hold m was) → InHand lane m was (is_cancelled o) s
  in_hand lane m was s None at e = absurd (none_some (hold m was) e)
  in_hand lane m was s (Some t) at e = record {
    task = t;
    here = at;
    is = ap (λ (x : Option (Held X)). (held_or (hold m was) x).request) e;
    begun = ap (λ (x : Option (Held X)). (held_or (hold m was) x).was) e;
    marked = λ c. c;
  }

  still_in_hand : (lane lane' : ℕ) (m : X) (was b : Bool) (s s' : State X Y)
      → held (task_at lane' s'.hands) ≡ held (task_at lane s.hands) → InHand lane m was b s
      → InHand lane' m was (is_cancelled (task_at lane' s'.hands)) s'
  still_in_hand lane lane' m was b s s' same h =
      in_hand lane' m was s' (task_at lane' s'.hands) refl (same ∙ held_in lane m was b s h)

module _ {X Y M G Q : Type 0} {g : Ghosts M (Ask X Y) Told G Q} (number : X → ℤ)
    (cancels : X → Bool) where
  -- A lane that has lent its flag has in hand what it had. It is cancelled where the flag was raised.
  pub lent_in_hand : (p p' : Pass M (Ask X Y) Told G Q g) (m : X) (was b b' : Bool)
      → owner_at number cancels p' ≡ owner_at number cancels p
      → (b' ≡ true → raised_at number cancels p' ≡ true)
      → InHand p.lane m was b (state_at number cancels p)
      → InHand p'.lane m was b' (state_at number cancels p')
  lent_in_hand p p' m was b b' same raised h =
      let h' = still_in_hand p.lane p'.lane m was b (state_at number cancels p)
      (state_at number cancels p') (ap (λ (o : Owner X Q). o.hand) same) h in record {
        task = h'.task;
        here = h'.here;
        is = h'.is;
        begun = h'.begun;
        marked = λ c. h'.marked (raised c);
      }

  -- whose pass it is stays the same, by what the lane knows under its number
  pub owner_so : (p p' : Pass M (Ask X Y) Told G Q g) → IsSamePass p p'
      → begun_by p.lane (state_at number cancels p').taken ≡ begun_at number cancels p
      → held (task_at p.lane (state_at number cancels p').hands)
      ≡ held (task_at p.lane (state_at number cancels p).hands)
      → owner_at number cancels p' ≡ owner_at number cancels p
  owner_so p p' same begun hand =
      same_owner p.seat.table_id p'.seat.table_id p.lane p'.lane (basis p) (basis p')
      (begun_at number cancels p) (begun_at number cancels p')
      (held (task_at p.lane (state_at number cancels p).hands))
      (held (task_at p'.lane (state_at number cancels p').hands)) same.0 same.1 same.2
      (subst (λ (k : ℕ). begun_by k (state_at number cancels p').taken ≡ begun_at number cancels p)
      (sym same.1) begun)
      (subst (λ (k : ℕ). held (task_at k (state_at number cancels p').hands)
      ≡ held (task_at p.lane (state_at number cancels p).hands)) (sym same.1) hand)

  pub raised_so : (p p' : Pass M (Ask X Y) Told G Q g) → IsSamePass p p'
      → is_cancelled (task_at p.lane (state_at number cancels p').hands) ≡ true
      → raised_at number cancels p' ≡ true
  raised_so p p' same raised =
      subst (λ (k : ℕ). is_cancelled (task_at k (state_at number cancels p').hands) ≡ true)
      (sym same.1) raised
