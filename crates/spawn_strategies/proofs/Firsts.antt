-- The first name that supports an action.
use Rattle.std.proofs.Common.{◌≡◌, Bool, true, false, cond, not, List, [], ◌∷◌, find, Option, Some, None, refl, ap}
use Rattle.std.proofs.lemmas.Bool.{and_from}
use Rattle.list_actions.specs.declared.types.ListAction.{ListAction}
use Rattle.spawn_strategies.specs.declared.types.Name.{Name}
use Rattle.spawn_strategies.specs.Chosen.{IsChoice, IsFirstOrNone, can_work, chosen_among, supports}

one_more : (p : Name → Bool) (m : Name) (ns : List Name) (o : Option Name) → p m ≡ false
    → IsFirstOrNone p ns o → IsFirstOrNone p (m ∷ ns) o
one_more p m ns None fails h = and_from _ _ (ap not fails) h
one_more p m ns (Some n) fails h = record {
  before = m ∷ h.before;
  after = h.after;
  among = ap (λ rest. m ∷ rest) h.among;
  this = h.this;
  none_before = and_from _ _ (ap not fails) h.none_before;
}

find_first : (p : Name → Bool) (ns : List Name) → IsFirstOrNone p ns (find p ns)
find_first p [] = refl
find_first p (n ∷ ns) =
    elim (p n) as (λ b. p n ≡ b → IsFirstOrNone p (n ∷ ns) (cond b (Some n) (find p ns))) [
      | true ↦ (λ e. record { before = []; after = ns; among = refl; this = e; none_before = refl })
      | false ↦ (λ e. one_more p n ns (find p ns) e (find_first p ns))
    ]
    refl

pub choice_is : (x : ListAction) (names : Option (List Name)) → IsChoice x names (chosen_among x names)
choice_is x None = refl
choice_is x (Some names) = find_first (supports (can_work x)) names
