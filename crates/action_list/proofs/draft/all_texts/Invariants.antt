use Rattle.std.proofs.Common.{◌≡◌, ◌++◌, map, drop}
use Rattle.std.specs.List.{list_all, filter_map}
use Rattle.serde_json.specs.Find.{as_str}
use Rattle.serde_json.specs.View.{view}
use Rattle.action_list.specs.Format.{is_text}
use Rattle.action_list.proofs.draft.all_texts.Given as goal

abbrev pub invariant-loop-element : goal.invariant-loop-element
invariant-loop-element l = record {
  texts : list_all is_text (map view l.list) ≡ list_all is_text (map view (drop l.element-index l.list));
  copied : l.copies.items ++ filter_map as_str (map view (drop l.element-index l.list)) ≡ filter_map as_str (map view l.list);
}
