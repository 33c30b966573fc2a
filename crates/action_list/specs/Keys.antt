-- Which actions share a worker key, as far as the list says.
use Rattle.std.specs.Prelude.{ℕ, ◌==◌, ◌&&◌, not, if◌then◌else◌, List, [], ◌∷◌, ◌++◌, length, map, unwrap_or, Option, Some, None}
use Rattle.worker_key.specs.Keys.{canonical}
use Rattle.worker_key.specs.declared.key.Mode.{Mode}
use Rattle.worker_key.specs.declared.key.Mode.TheVariants as mode
use Rattle.worker_key.specs.declared.key.Named.{Named}
use Rattle.worker_key.specs.declared.key.WorkerKey.{WorkerKey}
use Rattle.flag_files.specs.Split.{request_words, startup_words}
use Rattle.plain_values.specs.declared.command.Variable.{Variable}
use Rattle.list_actions.specs.declared.faults.What.TheVariants as what
use Rattle.list_actions.specs.declared.types.ListAction.{ListAction}
use Rattle.list_actions.specs.Answers.{Check}
use Rattle.action_list.specs.Checks.{count_check, has_local, has_remote}
use Rattle.list_actions.specs.Order.{is_among}

-- How the requests of an action's worker run: several at once, each in a folder of its own, where
-- the worker understands both; several in its room, where it understands no folders and no executor
-- can win the action while the worker still writes there; else one at a time.
abbrev pub mode_of : ListAction → Mode
mode_of x =
    if x.needs.multiplex && x.needs.sandboxing then mode.Boxed
    else if x.needs.multiplex && not (has_remote x.strategy) then mode.Multi
    else mode.Single

abbrev pub named_variable : Variable → Named
named_variable v = record { name = v.name; value = v.value }

abbrev pub unread_tool : List ℕ → Named
unread_tool path = record { name = path; value = [] }

-- The words that a worker is started with. There are none where no flag file gives it requests.
abbrev pub worker_words : List (List ℕ) → List (List ℕ) → List (List ℕ)
worker_words argv extra = if length (request_words argv) == 0 then [] else startup_words argv extra

-- The key of an action's worker, but for the digests of its tools and the extra flags. A path has
-- one digest in a run, and the flags are the same for all, so two actions agree in this exactly
-- where they agree in the whole key.
abbrev pub list_key : ListAction → WorkerKey
list_key x = record {
  mnemonic = unwrap_or x.needs.key_mnemonic x.mnemonic;
  startup = worker_words x.argv [];
  env = map named_variable x.env;
  tools = map unread_tool x.tools;
  json = x.needs.json;
  mode = mode_of x;
  cancel = x.needs.cancel;
}

-- the bytes that stand for this key alone
unfoldable pub key_bytes : ListAction → List ℕ
key_bytes x = canonical (list_key x)

abbrev pub with_bytes : List (List ℕ) → List ℕ → List (List ℕ)
with_bytes keys bytes = if is_among keys bytes then keys else keys ++ bytes ∷ []

-- the keys with this action's, where it has a local branch
abbrev pub with_key : List (List ℕ) → ListAction → List (List ℕ)
with_key keys x = if has_local x.strategy then with_bytes keys (key_bytes x) else keys

abbrev pub keys_from : List (List ℕ) → List ListAction → List (List ℕ)
keys_from keys [] = keys
keys_from keys (x ∷ xs) = keys_from (with_key keys x) xs

-- the keys in the order of their first actions
abbrev pub keys_of : List ListAction → List (List ℕ)
keys_of xs = keys_from [] xs

-- the keys with this one, where there is one
abbrev pub with_held : List (List ℕ) → Option (List ℕ) → List (List ℕ)
with_held keys None = keys
with_held keys (Some bytes) = with_bytes keys bytes

-- the different keys among these, in order, behind those that were there before
abbrev pub keys_among : List (List ℕ) → List (Option (List ℕ)) → List (List ℕ)
keys_among keys [] = keys
keys_among keys (key ∷ rest) = keys_among (with_held keys key) rest

abbrev pub keys_check : ℕ → List ListAction → Check
keys_check limit xs = count_check what.Keys limit (length (keys_of xs))
