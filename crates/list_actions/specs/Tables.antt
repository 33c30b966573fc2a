-- What the tables know of the actions.
use Rattle.std.specs.Prelude.{◌≡◌, ℕ, List}
use Rattle.std.specs.List.{list_any}
use Rattle.std.specs.Str.{bytes_eq}
use Rattle.list_actions.specs.declared.types.ListAction.{ListAction}
use Rattle.list_actions.specs.declared.seen.Seen.{Seen}
use Rattle.list_actions.specs.declared.makers.LastMakers.{LastMakers}
use Rattle.list_actions.specs.Makers.{last_maker}
use Rattle.list_actions.specs.Order.{is_among, is_late, outputs_of}
use Rattle.list_actions.specs.Seen.{has_seen}

-- just the names of these actions were seen
pub record HasNames (seen : Seen) (xs : List ListAction) : Type 0 where
  pub names : (q : List ℕ) → has_seen seen q ≡ list_any (λ y. bytes_eq y.name q) xs

-- just these paths were seen
pub record HasPaths (seen : Seen) (paths : List (List ℕ)) : Type 0 where
  pub paths_seen : (q : List ℕ) → has_seen seen q ≡ is_among paths q

-- the paths whose last maker has this number or a later one are those that these actions make
pub record HasMakers (makers : LastMakers) (number : ℕ) (rest : List ListAction) : Type 0 where
  pub late : (q : List ℕ) → is_late number (last_maker makers q) ≡ is_among (outputs_of rest) q
