-- A worker's key as a list of byte strings, and the bytes that stand for it.
use Rattle.std.specs.Prelude.{◌≡◌, ℕ, ◌^◌, ◌<◌, Bool, if◌then◌else◌, List, [], ◌∷◌, ◌++◌, length, map, codes}
use Rattle.std.specs.List.{AllByRecursion, flat_map}
use Rattle.std.specs.Fmt.{decimal}
use Rattle.std.specs.Int.{w64, to_be_bytes}
use Rattle.plain_values.specs.Digests.{digest_text}
use Rattle.worker_key.specs.declared.key.KeyParts.{KeyParts}
use Rattle.worker_key.specs.declared.key.Mode.{Mode}
use Rattle.worker_key.specs.declared.key.Mode.TheVariants as mode
use Rattle.worker_key.specs.declared.key.Named.{Named}
use Rattle.worker_key.specs.declared.key.Tool.{Tool}
use Rattle.worker_key.specs.declared.key.WorkerKey.{WorkerKey}

abbrev pub named_tool : Tool → Named
named_tool t = record { name = t.path; value = digest_text t.bytes }

-- the digest in place of each tool's bytes; all else stays
abbrev pub key_of : KeyParts → WorkerKey
key_of parts = record {
  mnemonic = parts.mnemonic;
  startup = parts.startup;
  env = parts.env;
  tools = map named_tool parts.tools;
  json = parts.json;
  mode = parts.mode;
  cancel = parts.cancel;
}

abbrev pub protocol_letter : Bool → List ℕ
protocol_letter json = if json then codes "j" else codes "p"

abbrev pub mode_letter : Mode → List ℕ
mode_letter mode.Single = codes "s"
mode_letter mode.Multi = codes "m"
mode_letter mode.Boxed = codes "b"

abbrev pub cancel_digit : Bool → List ℕ
cancel_digit cancel = if cancel then codes "1" else codes "0"

abbrev pub pairs : List Named → List (List ℕ)
pairs [] = []
pairs (n ∷ ns) = n.name ∷ n.value ∷ pairs ns

abbrev pub letters : WorkerKey → List (List ℕ)
letters k = protocol_letter k.json ∷ mode_letter k.mode ∷ cancel_digit k.cancel ∷ []

-- The byte strings of a key: before each list stands its length in decimal.
abbrev pub strings : WorkerKey → List (List ℕ)
strings k = k.mnemonic ∷ decimal (length k.startup) ∷
    (k.startup
    ++ decimal (length k.env) ∷
    (pairs k.env ++ decimal (length k.tools) ∷ (pairs k.tools ++ letters k)))

-- the bytes after their number, which takes eight bytes, the highest first
unfoldable pub counted : List ℕ → List ℕ
counted bytes = to_be_bytes w64 (length bytes) ++ bytes

-- a list's strings after the list's length in decimal
abbrev pub listed : ℕ → List (List ℕ) → List ℕ
listed n ss = counted (decimal n) ++ flat_map counted ss

abbrev pub canonical : WorkerKey → List ℕ
canonical k = flat_map counted (strings k)

-- each of them is shorter than any string in memory can be
abbrev pub AreShort : List (List ℕ) → Type 0
AreShort ss = AllByRecursion (λ s. length s < 2 ^ 64) ss

-- A key whose lengths a machine can count, as it can those of a key in memory.
pub record IsCountable (k : WorkerKey) : Type 0 where
  pub short_mnemonic : length k.mnemonic < 2 ^ 64
  pub few_words : length k.startup < 2 ^ 64
  pub short_words : AreShort k.startup
  pub few_variables : length k.env < 2 ^ 64
  pub short_variables : AreShort (pairs k.env)
  pub few_tools : length k.tools < 2 ^ 64
  pub short_tools : AreShort (pairs k.tools)

-- no other key has these bytes
abbrev pub AreOnlyOf : WorkerKey → List ℕ → Type 0
AreOnlyOf k bytes = (other : WorkerKey) → IsCountable other → canonical other ≡ bytes → other ≡ k
