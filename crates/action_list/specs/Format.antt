-- An action's object, key by key: what stands there, as far as it is of the key's kind.
use Rattle.std.specs.Prelude.{ℕ, Bool, if◌then◌else◌, List, [], ◌∷◌, map, codes, Option, Some, None, is_some, unwrap_or, option_and_then, String, string_bytes}
use Rattle.std.specs.List.{list_all, filter_map}
use Rattle.serde_json.specs.Data.{Data, Items, no_items, item, Members, no_members, member}
use Rattle.serde_json.specs.Find.{get, as_str, as_array, as_object}
use Rattle.serde_json.specs.View.{view}
use Rattle.serde_json.specs.declared.value.Value.{Value}
use Rattle.std.specs.declared.alloc.Global.{Global}
use Rattle.plain_values.specs.declared.command.Variable.{Variable}
use Rattle.action_list.specs.declared.draft.Draft.{Draft}
use Rattle.action_list.specs.declared.draft.Slot.{Slot}
use Rattle.action_list.specs.declared.draft.Slot.TheVariants.{Missing, Other, Held}

abbrev pub datas : Items → List Data
datas no_items = []
datas (item d ds) = d ∷ datas ds

abbrev pub entries : Members → List (List ℕ × Data)
entries no_members = []
entries (member k d ms) = (k, d) ∷ entries ms

-- what a member of an object in memory stands for
abbrev pub entry : String Global × Value → List ℕ × Data
entry e = (string_bytes e.0, view e.1)

abbrev pub is_text : Data → Bool
is_text d = is_some (as_str d)

abbrev pub all_texts : List Data → Option (List (List ℕ))
all_texts ds = if list_all is_text ds then Some (filter_map as_str ds) else None

-- the texts of an array of texts
abbrev pub texts : Data → Option (List (List ℕ))
texts d = option_and_then (λ ds. all_texts (datas ds)) (as_array d)

abbrev pub variable : List ℕ × Data → Variable
variable e = record { name = e.0; value = unwrap_or (as_str e.1) [] }

abbrev pub all_variables : List (List ℕ × Data) → Option (List Variable)
all_variables es = if list_all (λ e. is_text e.1) es then Some (map variable es) else None

-- The variables of an object of texts, in the order of their names. Of a name that stands twice the
-- last counts.
abbrev pub variables : Data → Option (List Variable)
variables d = option_and_then (λ ms. all_variables (entries ms)) (as_object d)

abbrev pub held : {A : Type 0} → Option A → Slot A
held None = Other
held (Some x) = Held x

-- what stands at a key
abbrev pub slot : {A : Type 0} → (Data → Option A) → Option Data → Slot A
slot kind None = Missing
slot kind (Some d) = held (kind d)

unfoldable pub draft_of : Data → Draft
draft_of d = record {
  is_object = is_some (as_object d);
  name = slot as_str (get (codes "name") d);
  mnemonic = slot as_str (get (codes "mnemonic") d);
  argv = slot texts (get (codes "argv") d);
  env = slot variables (get (codes "env") d);
  tools = slot texts (get (codes "tools") d);
  inputs = slot texts (get (codes "inputs") d);
  outputs = slot texts (get (codes "outputs") d);
  requirements = slot variables (get (codes "requirements") d);
  strategy = slot as_str (get (codes "strategy") d);
}
