-- Which faults a path has, and which of them is answered.
use Rattle.std.specs.Prelude.{ℕ, Bool, not, List, [], ◌∷◌, Option, Some, None, Result, Ok, Err, length, nat_lt, nat_eq, ◌==◌, ◌&&◌, ◌||◌, codes, find}
use Rattle.std.specs.List.{slice_split, before_first, list_any, starts_with}
use Rattle.std.specs.Str.{bytes_eq}
use Rattle.path_rules.specs.declared.PathFault.{PathFault}
use Rattle.path_rules.specs.declared.PathFault.TheVariants as fault

-- the parts between the slashes; one more than there are slashes
abbrev pub segments : List ℕ → List (List ℕ)
segments path = slice_split (λ b. b == 47) path

-- the part before the first slash; all of the path where there is none
abbrev pub first_segment : List ℕ → List ℕ
first_segment path = before_first (λ b. b == 47) path

-- some segment of the path is this one
abbrev pub has_segment : List ℕ → List ℕ → Bool
has_segment segment path = list_any (λ s. bytes_eq s segment) (segments path)

-- the name of a file that is written beside an output and then takes its place
abbrev pub is_part_name : List ℕ → Bool
is_part_name segment = starts_with nat_eq segment (codes ".worker_tool.")

-- some segment of the path is such a name
abbrev pub has_part_name : List ℕ → Bool
has_part_name path = list_any is_part_name (segments path)

abbrev pub has_fault : List ℕ → PathFault → Bool
has_fault path fault.Empty = length path == 0
has_fault path fault.TooLong = nat_lt 4096 (length path)
has_fault path fault.Nul = list_any (λ b. b == 0) path
has_fault path fault.Absolute = starts_with nat_eq path (47 ∷ [])
has_fault path fault.DoubleSlash = has_segment [] path
has_fault path fault.Dot = has_segment (codes ".") path
has_fault path fault.DotDot = has_segment (codes "..") path
has_fault path fault.Reserved = bytes_eq (first_segment path) (codes "__sandbox")
    || bytes_eq (first_segment path) (codes ".worker_rooms") || has_part_name path

-- the faults in the order in which they are looked for
abbrev pub faults_in_order : List PathFault
faults_in_order = fault.Empty ∷ fault.TooLong ∷ fault.Nul ∷ fault.Absolute ∷ fault.DoubleSlash ∷
    fault.Dot ∷ fault.DotDot ∷ fault.Reserved ∷ []

-- the first fault that the path has
abbrev pub path_fault : List ℕ → Option PathFault
path_fault path = find (has_fault path) faults_in_order

-- a path in which no fault is found passes
abbrev pub checked : Option PathFault → Result (Unit {0}) PathFault
checked None = Ok tt
checked (Some f) = Err f

-- No byte is zero, and each segment that begins here or later begins with a byte that is no dot. The
-- first byte begins a segment where the first argument is true.
abbrev pub is_plain_from : Bool → List ℕ → Bool
is_plain_from begins [] = not begins
is_plain_from begins (b ∷ bs) =
    not (b == 0 || begins && (b == 47 || b == 46)) && is_plain_from (b == 47) bs
