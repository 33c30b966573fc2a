use Rattle.std.proofs.Common.{◌≡◌, ℕ, ◌+◌, ◌++◌, ◌∷◌, [], List, map, get_or, set, take, Vec, Global, refl, ap, sym, subst, ◌∙◌, arith}
use Rattle.std.proofs.lemmas.List.{length-map, map-set, get_or-map}
use Rattle.ready_order.specs.Board.{IsAdded}
use Rattle.ready_order.proofs.UsersAdded.{put_on, left_out}
use Rattle.ready_order.proofs.users.add_user.Goals as goal
use Rattle.ready_order.proofs.users.add_user.Goals.{then-producer-lists+in_ok-push, else-producer-lists}

abbrev items : Vec ℕ Global → List ℕ
items v = v.items

pub loop-producer-preserved : goal.loop-producer-preserved
loop-producer-preserved c =
    let ps = c.args.producers.now in
    let i = c.loop-producer.producer-index in
    let u = c.args.user in
    let lists = c.loop-producer.lists in
    let old = map items c.args.lists.now in
    let p = get_or ps i 0 in
    let size = length-map lists items in
    let P : List (List ℕ) → Type 0 = λ now. IsAdded (take (i + 1) ps) u old now in
    elim c.if-producer-lists.branch [
      | then-producer-lists+in_ok-push w ↦
          (let lt = w.if-producer-lists.true in
          let front : get_or (map items lists) p [] ≡
          (get_or lists p w.index-lists-producer.result).items =
          get_or-map items lists p w.index-lists-producer.result [] lt in
          let more : w.push.new.self.items ≡ get_or (map items lists) p [] ++ u ∷ [] =
          w.in_ok-push.ensures.items ∙ sym (ap (λ (l : List ℕ). l ++ u ∷ []) front) in
          let is : map items c.if-producer-lists.lists ≡ set (map items lists) p (get_or
          (map items lists) p [] ++ u ∷ []) =
          ap (map items) w.lists-is ∙ map-set items lists p w.push.new.self ∙ ap (set
          (map items lists) p) more in
          subst P (sym is) (put_on ps i u c.loop-producer-test.true old
          (map items lists) c.loop-producer.invariant p (omega arith) refl))
      | else-producer-lists w ↦
          (let past = w.if-producer-lists.false in
          subst P (sym (ap (map items) w.lists-is)) (left_out ps i u c.loop-producer-test.true old
          (map items lists) c.loop-producer.invariant p (omega arith) refl))
    ]
