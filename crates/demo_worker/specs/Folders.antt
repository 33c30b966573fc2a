-- The words of a request that has a folder of its own.
use Rattle.std.specs.Prelude.{ℕ, List, [], ◌∷◌, ◌++◌, map, codes, Option, Some, None}
use Rattle.demo_worker.specs.Words.{input_in, output_in}

-- a path of the request, as it stands in the shop
abbrev pub path_in : List ℕ → List ℕ → List ℕ
path_in [] path = path
path_in (b ∷ bs) path = (b ∷ bs) ++ 47 ∷ path

-- a word that names this input, or else this output, or else neither
abbrev pub word_of : List ℕ → List ℕ → Option (List ℕ) → Option (List ℕ) → List ℕ
word_of folder word (Some input) output = codes "--in=" ++ path_in folder input
word_of folder word None (Some output) = codes "--out=" ++ path_in folder output
word_of folder word None None = word

abbrev pub word_in : List ℕ → List ℕ → List ℕ
word_in folder word = word_of folder word (input_in word) (output_in word)

-- the words, of which each path lies in this folder
abbrev pub words_in : List ℕ → List (List ℕ) → List (List ℕ)
words_in folder words = map (word_in folder) words
