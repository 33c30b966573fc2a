-- The request words that the chosen strategies ask of the work of the list.
use Rattle.std.specs.Prelude.{◌≡◌, ℕ, Bool, true, false, ◌&&◌, not, if◌then◌else◌, List, [], ◌∷◌, map, Result, Ok, Err}
use Rattle.action_list.specs.Checks.{has_local}
use Rattle.build_report.specs.declared.fault.RunFault.{RunFault}
use Rattle.flag_files.specs.Expand.{expansion}
use Rattle.flag_files.specs.Split.{request_words}
use Rattle.flag_files.specs.declared.expanding.FlagFault.{FlagFault}
use Rattle.list_actions.specs.declared.types.ListAction.{ListAction}
use Rattle.remote_messages.specs.declared.work.WorkAction.{WorkAction}
use Rattle.remote_messages.specs.declared.work.WorkInput.{WorkInput}
use Rattle.run_loading.specs.Works.{Gives, Works, source_files}
use Rattle.spawn_strategies.specs.declared.types.Name.{Name}
use Rattle.spawn_strategies.specs.declared.types.Name.TheVariants as name

-- the strategy of this name sends requests to a worker
abbrev pub uses_worker : Name → Bool
uses_worker name.Worker = true
uses_worker name.Sandboxed = false
uses_worker name.Remote = false
uses_worker name.Dynamic = true

-- An action that is brought to a worker by its name alone: its work was loaded without the words of
-- its request.
abbrev pub lacks_words : Name → ListAction → Bool
lacks_words n x = uses_worker n && not (has_local x.strategy)

-- the words of its request, expanded over its own source inputs
abbrev pub own_words : ListAction → List WorkInput → Result (List (List ℕ)) FlagFault
own_words x inputs = expansion (request_words x.argv) (source_files inputs)

abbrev pub with_request : WorkAction → Result (List (List ℕ)) FlagFault
    → Result WorkAction FlagFault
with_request w (Ok words) = Ok (record w { request_words = words })
with_request w (Err f) = Err f

-- The work of an action that was loaded, with the words of its request where it lacks them, or
-- their fault. Every other work stays.
abbrev pub worded : Name → ListAction → WorkAction → Result WorkAction FlagFault
worded n x w = if lacks_words n x then with_request w (own_words x w.inputs) else Ok w

-- each of them by its name
abbrev pub all_worded : List Name → List ListAction → List WorkAction
    → List (Result WorkAction FlagFault)
all_worded (n ∷ ns) (x ∷ xs) (w ∷ ws) = worded n x w ∷ all_worded ns xs ws
all_worded _ _ _ = []

-- all have their work now, or the first fault ends it
abbrev pub Rewords : List (Result WorkAction FlagFault) → List WorkAction
    → Result (Unit {0}) RunFault → Type 0
Rewords dues now (Ok done) = dues ≡ map (λ w. Ok w) now
Rewords dues now (Err f) = Works dues (Err f)

-- this one has its work now, or its fault
abbrev pub RewordsOne : ℕ → Result WorkAction FlagFault → WorkAction → Result (Unit {0}) RunFault
    → Type 0
RewordsOne number due now (Ok done) = due ≡ Ok now
RewordsOne number due now (Err f) = Gives number due (Err f)
