-- The branches that came to nothing, action by action.
use Rattle.std.proofs.Common.{◌≡◌, Bor, option_copied, ℕ, zero, suc, ◌+◌, ◌<◌, List, [], ◌∷◌, ◌++◌, map, length, get_or, Option, Some, None, option_map, refl, ap, sym, ◌∙◌, add-one, append_assoc, arith}
use Rattle.std.specs.Prelude.{slice_get}
use Rattle.std.proofs.lemmas.Option.{slice_get-get_or}
use Rattle.run_plan.specs.declared.plan.Branch.{Branch}
use Rattle.run_plan.specs.declared.plan.Branch.TheVariants.{Local, Remote}
use Rattle.run_plan.specs.declared.plan.Plan.{Plan}
use Rattle.run_plan.specs.declared.plan.PlanAction.{PlanAction}
use Rattle.exec_journal.specs.declared.call.Answer.{Answer}
use Rattle.exec_journal.specs.declared.ends.ActionEnd.{ActionEnd}
use Rattle.exec_journal.specs.Entry.{Entry}
use Rattle.exec_journal.specs.Ends.{action_end, ends_from, ends_of}
use Rattle.branch_losses.specs.declared.attempts.Nth.{Nth}
use Rattle.branch_losses.specs.declared.attempts.Order.{Order}
use Rattle.branch_losses.specs.declared.lost.Loss.{Loss}
use Rattle.branch_losses.specs.Last.{AreAnswers, AreOrders, nth_of, order_of}
use Rattle.branch_losses.specs.Losses.{LossTold, as_list, loss_told, losses_before, lost_by, lost_of}

map_both : {X Y : Type 0} (f : X → Y) (xs ys : List X) → map f (xs ++ ys) ≡ map f xs ++ map f ys
map_both f [] ys = refl
map_both {X} {Y} f (x ∷ xs) ys = ap (λ (zs : List Y). f x ∷ zs) (map_both f xs ys)

map_list : {X Y : Type 0} (f : X → Y) (o : Option X) → map f (as_list o) ≡ as_list (option_map f o)
map_list f None = refl
map_list f (Some x) = refl

-- one more action
pub losses_step : (p : Plan) (j : List Entry) (a : ℕ) (made mid new : List Loss) (local remote : Option Loss)
    → map loss_told made ≡ losses_before p j a → mid ≡ made ++ as_list local → new ≡ mid ++ as_list remote
    → option_map loss_told local ≡ lost_of p j a Local → option_map loss_told remote ≡ lost_of p j a Remote
    → map loss_told new ≡ losses_before p j (a + 1)
losses_step p j a made mid new local remote so first second is_local is_remote =
    ap (map loss_told) (second ∙ ap (λ (xs : List Loss). xs ++ as_list remote) first)
    ∙ map_both loss_told (made ++ as_list local) (as_list remote)
    ∙ ap (λ (xs : List LossTold). xs ++ map loss_told (as_list remote)) (map_both loss_told made (as_list local))
    ∙ ap (λ (xs : List LossTold). (map loss_told made ++ map loss_told (as_list local)) ++ xs) (map_list loss_told remote ∙ ap as_list is_remote)
    ∙ ap (λ (xs : List LossTold). (map loss_told made ++ xs) ++ as_list (lost_of p j a Remote)) (map_list loss_told local ∙ ap as_list is_local)
    ∙ ap (λ (xs : List LossTold). (xs ++ as_list (lost_of p j a Local)) ++ as_list (lost_of p j a Remote)) so
    ∙ append_assoc (losses_before p j a) (as_list (lost_of p j a Local)) (as_list (lost_of p j a Remote))
    ∙ ap (losses_before p j) (sym (add-one a))

-- how an action ends, in the list of all
pub end_at : (p : Plan) (j : List Entry) (xs : List PlanAction) (b a : ℕ) (d : ActionEnd) → a < length xs → get_or (ends_from p j b xs) a d ≡ action_end p j (b + a)
end_at p j [] b a d lt = absurd (omega arith)
end_at p j (x ∷ xs) b zero d lt = ap (action_end p j) (omega arith)
end_at p j (x ∷ xs) b (suc a) d lt = end_at p j xs (suc b) a d (omega arith) ∙ ap (action_end p j) (omega arith)

pub ends_length : (p : Plan) (j : List Entry) (xs : List PlanAction) (b : ℕ) → length (ends_from p j b xs) ≡ length xs
ends_length p j [] b = refl
ends_length p j (x ∷ xs) b = ap suc (ends_length p j xs (suc b))

pub ends_count : (p : Plan) (j : List Entry) (es : List ActionEnd) → es ≡ ends_of p j → length es ≡ length p.actions
unfolding ends_of
ends_count p j es is = ap length is ∙ ends_length p j p.actions 0

end_here : (p : Plan) (j : List Entry) (es : List ActionEnd) (a : ℕ) (d : ActionEnd) → es ≡ ends_of p j → a < length p.actions → get_or es a d ≡ action_end p j a
unfolding ends_of
end_here p j es a d is lt = ap (λ (xs : List ActionEnd). get_or xs a d) is ∙ end_at p j p.actions 0 a d lt ∙ ap (action_end p j) (omega arith)

order_here : (n : Nth) (j : List Entry) (os : List (Option Order)) (a : ℕ) (o : Option Order) → AreOrders n os j → a < length os → get_or os a o ≡ order_of j (nth_of n a)
order_here n j os a o are lt = are.each a (get_or os a o) (slice_get-get_or os a o lt)

-- the slice of a list that has so many elements
pub same_count : {X : Type 0} (xs ys : List X) (n m : ℕ) → xs ≡ ys → length ys ≡ n → n ≡ m → length xs ≡ m
same_count xs ys n m is_list is_count is_len = ap length is_list ∙ is_count ∙ is_len

-- what is read of an action in the lists is what is lost of its branches
pub local_here : (p : Plan) (j : List Entry) (es : List ActionEnd) (os : List (Option Order)) (a : ℕ) (d : ActionEnd) (o : Option Order)
    → es ≡ ends_of p j → AreOrders (record { branch = Local; number = p.limit }) os j → length os ≡ length es → a < length es
    → lost_by a Local (get_or es a d).local (get_or os a o) None ≡ lost_of p j a Local
local_here p j es os a d o is are count lt =
    let same : length es ≡ length p.actions = ends_count p j es is in
    ap (λ (x : ActionEnd). lost_by a Local x.local (get_or os a o) None) (end_here p j es a d is (omega (arith, same)))
    ∙ ap (λ (x : Option Order). lost_by a Local (action_end p j a).local x None) (order_here (record { branch = Local; number = p.limit }) j os a o are (omega (arith, count)))

pub remote_here : (p : Plan) (j : List Entry) (es : List ActionEnd) (os : List (Option Order)) (xs : List (Option (Bor Answer))) (a : ℕ) (d : ActionEnd) (o : Option Order) (x : Option (Bor Answer))
    → es ≡ ends_of p j → AreOrders (record { branch = Remote; number = p.limit }) os j → length os ≡ length es
    → AreAnswers (record { branch = Remote; number = p.limit }) option_copied xs j → length xs ≡ length es → a < length es → x ≡ get_or xs a x
    → lost_by a Remote (get_or es a d).remote (get_or os a o) (option_copied x) ≡ lost_of p j a Remote
remote_here p j es os xs a d o x is are count answers many lt read =
    let same : length es ≡ length p.actions = ends_count p j es is in
    let found : slice_get xs a ≡ Some x = slice_get-get_or xs a x (omega (arith, many)) ∙ ap Some (sym read) in
    ap (λ (y : ActionEnd). lost_by a Remote y.remote (get_or os a o) (option_copied x)) (end_here p j es a d is (omega (arith, same)))
    ∙ ap (λ (y : Option Order). lost_by a Remote (action_end p j a).remote y (option_copied x)) (order_here (record { branch = Remote; number = p.limit }) j os a o are (omega (arith, count)))
    ∙ ap (lost_by a Remote (action_end p j a).remote (order_of j (nth_of (record { branch = Remote; number = p.limit }) a))) (answers.each a x found)
