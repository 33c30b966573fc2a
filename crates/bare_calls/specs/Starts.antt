-- What a process is started with.
use Rattle.std.specs.Prelude.{◌≡◌, ◌++◌, ℕ, List, true, Option, Some, None, fold, if◌then◌else◌}
use Rattle.std.specs.Str.{bytes_eq}
use Rattle.std.specs.Process.{command_program, command_args, command_dir, clears_env, command_var, SameProgramAndArgs, SameEnv, SameOtherVars, SameDir}
use Rattle.std.specs.declared.process.command.Command.{Command}
use Rattle.plain_values.specs.declared.command.Variable.{Variable}

-- what is said of a variable after these are set in order, where this was said before
abbrev pub value_after : List Variable → List ℕ → Option (Option (List ℕ))
    → Option (Option (List ℕ))
value_after env name before =
    fold (λ said v. if bytes_eq v.name name then Some (Some v.value) else said) before env

-- The program is started by this path, with these words behind it, with these variables alone as
-- environment, in this folder.
pub record IsStart {A : Type 0} (program : List ℕ) (words : List (List ℕ)) (env : List Variable)
    (folder : List ℕ) (start : Command A) : Type 0 where
  pub of_program : command_program start ≡ program
  pub with_words : command_args start ≡ words
  pub alone : clears_env start ≡ true
  pub variables : (name : List ℕ) → command_var start name ≡ value_after env name None
  pub in_folder : command_dir start ≡ Some folder

-- these words stand behind the others, and nothing else has changed
pub record AddsWords {A : Type 0} (words : List (List ℕ)) (old new : Command A) : Type 0 where
  pub added : command_args new ≡ command_args old ++ words
  pub same_program : command_program new ≡ command_program old
  pub same_env : SameEnv old new
  pub same_folder : SameDir old new

-- this variable is set, and nothing else has changed
pub record SetsOne {A : Type 0} (v : Variable) (old new : Command A) : Type 0 where
  pub this : command_var new v.name ≡ Some (Some v.value)
  pub others : SameOtherVars old new v.name
  pub same_clears : clears_env new ≡ clears_env old
  pub same_call : SameProgramAndArgs old new
  pub same_folder : SameDir old new

-- these variables are set, one after the other, and nothing else has changed
pub record SetsEach {A : Type 0} (env : List Variable) (old new : Command A) : Type 0 where
  pub set : (name : List ℕ)
      → command_var new name ≡ value_after env name (command_var old name)
  pub same_clears : clears_env new ≡ clears_env old
  pub same_call : SameProgramAndArgs old new
  pub same_folder : SameDir old new
