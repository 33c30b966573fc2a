-- What is said of variables once one more is set.
use Rattle.std.proofs.Common.{◌≡◌, ◌≢◌, ℕ, ◌+◌, ◌<◌, Bool, true, false, List, [], ◌∷◌, ◌++◌, take, length, get_or, Option, Some, sym, ap, ◌∙◌, refl}
use Rattle.std.specs.Prelude.{if◌then◌else◌}
use Rattle.std.specs.Str.{bytes_eq}
use Rattle.std.specs.Process.{command_var}
use Rattle.std.specs.declared.process.command.Command.{Command}
use Rattle.std.proofs.lemmas.List.Sums.{fold-append}
use Rattle.std.proofs.lemmas.Slice.Eq.{bytes_eq-Decides}
use Rattle.std.proofs.lemmas.List.{take_more}
use Rattle.plain_values.specs.declared.command.Variable.{Variable}
use Rattle.bare_calls.specs.Starts.{SetsOne, SetsEach, value_after}

-- one variable, by whether it is the one that was set
one_set : (v : Variable) (name : List ℕ) (old new : Option (Option (List ℕ))) (is : Bool)
    → bytes_eq v.name name ≡ is
    → (name ≡ v.name → new ≡ Some (Some v.value)) → (name ≢ v.name → new ≡ old)
    → new ≡ (if is then Some (Some v.value) else old)
one_set v name old new true is same other = same (sym ((bytes_eq-Decides v.name name).0 is))
one_set v name old new false is same other =
    other (λ same. absurd (let yes : bytes_eq v.name name ≡ true = (bytes_eq-Decides v.name name).1 (sym same) in
    let both : true ≡ false = sym yes ∙ is in cc))

module _ {A : Type 0} (env : List Variable) (v : Variable) (old mid new : Command A) where
  -- each variable, behind those that were set before
  each_set : SetsEach env old mid → SetsOne v mid new
      → (name : List ℕ) → command_var new name ≡ value_after (env ++ v ∷ []) name (command_var old name)
  each_set before one name =
      one_set v name (command_var mid name) (command_var new name) (bytes_eq v.name name) refl
      (λ same. ap (command_var new) same ∙ one.this) (one.others name)
      ∙ ap (λ said. if bytes_eq v.name name then Some (Some v.value) else said) (before.set name)
      ∙ sym (fold-append (λ said w. if bytes_eq w.name name then Some (Some w.value) else said) (command_var old name) env (v ∷ []))

  pub sets_more : SetsEach env old mid → SetsOne v mid new → SetsEach (env ++ v ∷ []) old new
  sets_more before one = record {
    set = each_set before one;
    same_clears = one.same_clears ∙ before.same_clears;
    same_call = (one.same_call.0 ∙ before.same_call.0, one.same_call.1 ∙ before.same_call.1);
    same_folder = one.same_folder ∙ before.same_folder;
  }

-- the variables up to the next one
pub up_to : (env : List Variable) (i : ℕ) (v : Variable) → i < length env → v ≡ get_or env i v
    → take (i + 1) env ≡ take i env ++ v ∷ []
up_to env i v below is = take_more env i v below ∙ ap (λ w. take i env ++ w ∷ []) (sym is)
