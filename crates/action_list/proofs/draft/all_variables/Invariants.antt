use Rattle.std.proofs.Common.{◌≡◌, ◌++◌, map, drop, length}
use Rattle.std.specs.List.{list_all}
use Rattle.action_list.specs.Format.{entry, is_text, variable}
use Rattle.action_list.proofs.draft.all_variables.Given as goal

abbrev pub invariant-loop-name : goal.invariant-loop-name
invariant-loop-name l =
    (goal.iterator-loop-name).can_next l.name-iterator ×
    (goal.iterator-loop-name).is_finite l.name-iterator × record {
      texts : list_all (λ e. is_text e.1) (map entry l.members.entries) ≡ list_all (λ e. is_text e.1) (map entry (drop (length l.yielded) l.members.entries));
      copied : l.copies.items ++ map variable (map entry (drop (length l.yielded) l.members.entries)) ≡ map variable (map entry l.members.entries);
    }
