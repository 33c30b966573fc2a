-- The list that is generated, as JSON.
use Rattle.std.specs.Prelude.{ℕ, zero, suc, ◌-◌, ◌%◌, ◌==◌, nat_le, Bool, List, [], ◌∷◌, ◌++◌, codes, decimal, map, if◌then◌else◌}
use Rattle.serde_json.specs.Data.{Data, string, array, object, Members, no_members, put}
use Rattle.serde_json.specs.View.{items_of}
use Rattle.serde_json.specs.Written.{compact_text}

abbrev pub array_of : List Data → Data
array_of ds = array (items_of ds)

-- a text with a number behind it
abbrev pub numbered : List ℕ → ℕ → Data
numbered text n = string (text ++ decimal n)

-- its program, a start-up word of two kinds, and its flag file
abbrev pub words_data : ℕ → Data
words_data n = array_of
    (string (codes "gen")
    ∷ numbered (codes "--mode=") (n % 2)
    ∷ numbered (codes "@flags/") n
    ∷ [])

-- its flag file and, from the eighth action on, what the seventh before it made
abbrev pub inputs_data : ℕ → Data
inputs_data n = array_of
    (numbered (codes "flags/") n
    ∷ (if nat_le 7 n then numbered (codes "out/") (n - 7) ∷ [] else []))

-- a requirement, where the test says so
abbrev pub needed : Bool → List ℕ → List ℕ → Members → Members
needed test name value ms = if test then put name (string value) ms else ms

abbrev pub needs_data : ℕ → Data
needs_data n = object
    (needed (n % 4 == 3) (codes "requires-worker-protocol") (codes "json")
    (needed (n % 2 == 1) (codes "supports-multiplex-workers") (codes "1")
    (put (codes "supports-worker-cancellation") (string (codes "1"))
    (put (codes "supports-workers") (string (codes "1")) no_members))))

abbrev pub strategy_of : ℕ → List ℕ
strategy_of n =
    if n % 3 == 0 then codes "worker" else if n % 3 == 1 then codes "remote" else codes "dynamic"

abbrev pub action_data : ℕ → Data
action_data n = object
    (put (codes "strategy") (string (strategy_of n))
    (put (codes "requirements") (needs_data n)
    (put (codes "outputs") (array_of (numbered (codes "out/") n ∷ []))
    (put (codes "name") (numbered (codes "g") n)
    (put (codes "mnemonic") (string (codes "Gen"))
    (put (codes "inputs") (inputs_data n)
    (put (codes "argv") (words_data n) no_members)))))))

-- the actions from 0 on
abbrev pub actions_below : ℕ → List Data
actions_below zero = []
actions_below (suc n) = actions_below n ++ action_data n ∷ []

abbrev pub generated_data : ℕ → Data
generated_data n = object (put (codes "actions") (array_of (actions_below n)) no_members)

abbrev pub generated_text : ℕ → List ℕ
generated_text n = compact_text (generated_data n)
