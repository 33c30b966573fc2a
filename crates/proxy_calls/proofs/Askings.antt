-- What an Ask leaves.
use Rattle.std.proofs.Common.{◌≡◌, ◌≤◌, ℕ, ◌+◌, ◌/◌, Bool, true, false, cond, [], ◌∷◌, ◌++◌, length, filter, Option, Some, None, refl, ap, sym, subst, ◌∙◌, arith, length-append}
use Rattle.run_plan.specs.Groups.{is_remote}
use Rattle.std.specs.Prelude.{is_some}
use Rattle.std.proofs.lemmas.List.Elements.{filter-append}
use Rattle.seat_desk.specs.History.{entry, calls_by, StartsWith}
use Rattle.exec_journal.specs.declared.call.Call.{Call}
use Rattle.exec_journal.specs.declared.call.Call.TheVariants as call
use Rattle.exec_journal.specs.declared.reply.Reply.{Reply}
use Rattle.exec_journal.specs.declared.reply.Reply.TheVariants as reply
use Rattle.exec_journal.specs.Entries.{is_kept, launch_in}
use Rattle.outside.specs.Told.{ChildTold, TapTold, PlaceTold}
use Rattle.core_contract.specs.Discipline.{Discipline}
use Rattle.core_contract.specs.Moves.{Past, History, Move, ask_moves, proxy_move}
use Rattle.core_contract.specs.Shelf.{child_at}
use Rattle.core_contract.specs.Laws.{OrderFits, OrderHolds, lines_in}
use Rattle.core_contract.specs.Duties.{Duty, Asks, proxy_lane, may_do}
use Rattle.core_machine.specs.declared.shelf.Good.{Good}
use Rattle.core_machine.specs.declared.shelf.Good.TheVariants as good
use Rattle.core_machine.proofs.Own.{child_is_own}
use Rattle.core_machine.specs.Bench.{IsChild, Comes, ComesOut}
use Rattle.proxy_calls.specs.Goods.{IsChildThere, child_good}
use Rattle.exec_journal.specs.Idle.{is_idle}
use Rattle.proxy_calls.specs.Orders.{GivesChild, lines_with}
use Rattle.proxy_calls.proofs.Replies.{order_is_kept}
use Rattle.proxy_calls.proofs.Entries.{Called, made, saw_made, grew, move_is, halved}

-- ---- a child that came out

module _ {K T P : Type 0} (child : K → ChildTold) (tap : T → TapTold) (place : P → PlaceTold)
    (discipline : Discipline) where
  pub child_there : (o : Option ℕ) (g : Option (Good K T P))
      → IsChild child tap place discipline o g → IsChildThere child o (child_good g)
  child_there None g e = ap child_good e
  child_there (Some l) (Some (good.Child k)) e = e
  child_there (Some l) (Some (good.Line k t)) e = absurd e
  child_there (Some l) (Some (good.Tap t)) e = absurd e
  child_there (Some l) (Some (good.Place p)) e = absurd e
  child_there (Some l) None e = absurd e

  pub comes_here : (h : History) (lane w : ℕ) (c : Call) (r : Reply) (g : Option (Good K T P))
      → lane ≡ proxy_lane w → ComesOut child tap place discipline h lane c r g
      → Comes child tap place discipline h (lane / 2) (proxy_move c r) g
  comes_here h lane w c r g is out =
      subst (λ (m : Move). Comes child tap place discipline h (lane / 2) m g) (move_is lane w c r is) out

  by_reply : (h : History) (w : ℕ) (r : Reply) (g : Option (Good K T P))
      → Comes child tap place discipline h w (ask_moves r) g → GivesChild child r g
  by_reply h w (reply.Kill l y) g out = child_there (Some l) g out
  by_reply h w (reply.Launch l a b t) g out = tt
  by_reply h w (reply.Send l n a b t) g out = tt
  by_reply h w (reply.Cancel l n) g out = tt
  by_reply h w (reply.Gather l n a b t x y) g out = tt
  by_reply h w reply.Stop g out = tt
  by_reply h w reply.Idle g out = tt
  by_reply h w reply.Noted g out = tt
  by_reply h w (reply.File f) g out = tt
  by_reply h w reply.NoFile g out = tt
  by_reply h w reply.Granted g out = tt
  by_reply h w reply.Lost g out = tt
  by_reply h w reply.Dropped g out = tt
  by_reply h w reply.AgainLater g out = tt
  by_reply h w (reply.Line l) g out = tt
  by_reply h w (reply.Matched a b t) g out = tt
  by_reply h w (reply.Late a b t) g out = tt
  by_reply h w reply.Greeted g out = tt
  by_reply h w (reply.Stray y) g out = tt
  by_reply h w (reply.Breach y) g out = tt
  by_reply h w reply.Astray g out = tt
  by_reply h w reply.NoMemory g out = tt

  pub gives_child : (h : History) (lane w : ℕ) (r : Reply) (g : Option (Good K T P))
      → lane ≡ proxy_lane w → ComesOut child tap place discipline h lane call.Ask r g
      → GivesChild child r g
  gives_child h lane w r g is out =
      by_reply h (lane / 2) r g (comes_here h lane w call.Ask r g is out)

  -- with a Halt the child comes out that lies on the shelf
  pub halted_child : (h : History) (lane w : ℕ) (own : History) (r : Reply)
      (g : Option (Good K T P)) → lane ≡ proxy_lane w → calls_by lane h ≡ own → r ≡ reply.Noted
      → ComesOut child tap place discipline h lane call.Halt r g
      → IsChildThere child (child_at w own) (child_good g)
  halted_child h lane w own r g is own_is noted out =
      let half : lane / 2 ≡ w = ap (λ (n : ℕ). n / 2) is ∙ halved w in
      let at : child_at (lane / 2) h ≡ child_at w own =
      ap (λ (n : ℕ). child_at n h) half ∙ (child_is_own w h
      ∙ ap (child_at w) (ap (λ (n : ℕ). calls_by n h) (sym is) ∙ own_is)) in
      let gone = subst (λ (x : Reply). Comes child tap place discipline h (lane / 2) (proxy_move call.Halt x) g)
      noted (comes_here h lane w call.Halt r g is out) in
      child_there (child_at w own) g
      (subst (λ (o : Option ℕ). IsChild child tap place discipline o g) at gone)

-- ---- how many lines were ordered

lines_more : (h : History) (e : Past) → lines_in (h ++ e ∷ []) ≡ lines_with e.reply (lines_in h)
lines_more h e =
    ap length (filter-append (λ (x : Past). is_some (launch_in x.reply)) h (e ∷ []))
    ∙ (length-append (filter (λ (x : Past). is_some (launch_in x.reply)) h)
    (filter (λ (x : Past). is_some (launch_in x.reply)) (e ∷ []))
    ∙ by_test (is_some (launch_in e.reply)) (lines_in h))
  where
    by_test : (b : Bool) (n : ℕ) → n + length (cond b (e ∷ []) []) ≡ cond b (n + 1) n
    by_test true n = refl
    by_test false n = omega arith

pub lines_grow : (h more : History) → lines_in h ≤ lines_in (h ++ more)
lines_grow h more =
    subst (λ (n : ℕ). lines_in h ≤ n)
    (sym (ap length (filter-append (λ (x : Past). is_some (launch_in x.reply)) h more)
    ∙ length-append (filter (λ (x : Past). is_some (launch_in x.reply)) h)
    (filter (λ (x : Past). is_some (launch_in x.reply)) more)))
    (omega arith)

pub lines_later : (h seen : History) → StartsWith h seen → lines_in seen ≤ lines_in h
lines_later h seen s =
    subst (λ (k : History). lines_in seen ≤ lines_in k) (sym s.1) (lines_grow seen s.0)

-- ---- the Ask

module _ (rule : History → ℕ → Call → Reply) (lane w : ℕ) (then seen own seen' own' : History)
    (r : Reply) (k : Called rule lane then seen own seen' own' call.Ask r)
    (busy : is_idle r ≡ false) (is : lane ≡ proxy_lane w) where
  kept : is_kept r ≡ true
  kept = order_is_kept r k.fitting busy

  pub asked : StartsWith seen' seen × (own' ≡ own ++ entry lane call.Ask r ∷ [])
  asked = (
    grew rule lane then seen own seen' own' call.Ask r r k refl kept,
    made rule lane then seen own seen' own' call.Ask r r k refl kept,
  )

  pub lines_before : lines_in seen ≤ lines_in then
  lines_before = lines_later then seen (k.goes.0, k.goes.1)

  pub lines_after : lines_in seen' ≡ lines_with r (lines_in then)
  lines_after =
      ap lines_in (saw_made rule lane then seen own seen' own' call.Ask r r k refl kept)
      ∙ lines_more then (entry lane call.Ask r)

  half : lane / 2 ≡ w
  half = ap (λ (n : ℕ). n / 2) is ∙ halved w

  -- what the order says holds, by what the core's law says of this history
  pub order_holds : (actions : ℕ)
      → OrderHolds actions (child_at (lane / 2) then) (lines_in then) (rule then lane call.Ask)
      → ((h : History) → child_at w h ≡ child_at w (calls_by (proxy_lane w) h))
      → OrderHolds actions (child_at w own) (lines_in then) r
  order_holds actions law children =
      let at : child_at (lane / 2) then ≡ child_at w own =
      ap (λ (n : ℕ). child_at n then) half ∙ (children then
      ∙ ap (child_at w) (ap (λ (n : ℕ). calls_by n then) (sym is) ∙ k.own_then)) in
      subst (λ (x : Reply). OrderHolds actions (child_at w own) (lines_in then) x) (sym k.by_rule)
      (subst (λ (o : Option ℕ). OrderHolds actions o (lines_in then) (rule then lane call.Ask)) at law)

  -- so does its attempt's group fit the berth
  pub order_fits : (discipline : Discipline)
      → OrderFits discipline.plan (is_remote (discipline.kinds (lane / 2))) (rule then lane call.Ask)
      → OrderFits discipline.plan (is_remote (discipline.kinds w)) r
  order_fits discipline law = subst (λ (x : Reply). OrderFits discipline.plan (is_remote (discipline.kinds w)) x) (sym k.by_rule)
      (subst (λ (n : ℕ). OrderFits discipline.plan (is_remote (discipline.kinds n)) (rule then lane call.Ask)) half law)

pub ask_may : (discipline : Discipline) (w : ℕ) (s : Duty)
    → s ≡ Asks → may_do discipline w s call.Ask ≡ true
ask_may discipline w s e = ap (λ (x : Duty). may_do discipline w x call.Ask) e
