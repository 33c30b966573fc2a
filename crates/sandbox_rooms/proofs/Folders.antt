-- The folder of a path, by where its last slash stands.
use Rattle.std.proofs.Common.{◌≡◌, ℕ, ◌<◌, ◌≤◌, ◌≢◌, ◌⊎◌, inl, inr, ◌==◌, cond, zero, suc, List, length, get_or, take, Option, Some, None, MatchOption, option_map, refl, sym, ap, ◌∙◌, eq-eqb, arith}
use Rattle.std.specs.Path.{rfind_below}
use Rattle.std.proofs.lemmas.Bool.{ne_eqb}
use Rattle.outside.specs.Causes.{Counts}
use Rattle.outside.specs.Lists.{Adds}
use Rattle.outside.specs.Told.{BerthTold, SameBerth}
use Rattle.outside.specs.declared.answers.Io.{Io}
use Rattle.outside.specs.declared.answers.Io.TheVariants as io
use Rattle.outside.specs.declared.berth.BerthCall.TheVariants as call
use Rattle.std.proofs.Common.{subst, [], ◌∷◌}
use Rattle.std.specs.List.{cons_option}
use Rattle.sandbox_rooms.specs.declared.room.Room.{Room}
use Rattle.sandbox_rooms.specs.declared.room.Room.TheVariants as room_is
use Rattle.std.specs.Prelude.{ℤ}
use Rattle.sandbox_rooms.specs.Calls.{Clear, Folder, RunEnd, Whole, io_end, MakesRun}
use Rattle.sandbox_rooms.specs.Rooms.{part_of, in_room, clear_asks, folder_of, folder_asks}
use Rattle.sandbox_rooms.proofs.Runs.{run_io, run_none}

split : (k n : ℕ) → k < suc n → (k ≡ n) ⊎ (k < n)
split zero zero h = inl refl
split zero (suc n) h = inr (omega arith)
split (suc k) zero h = absurd (omega arith)
split (suc k) (suc n) h = next (split k n (omega arith))
  where
    next : (k ≡ n) ⊎ (k < n) → (suc k ≡ suc n) ⊎ (suc k < suc n)
    next (inl e) = inl (ap suc e)
    next (inr l) = inr (omega (arith, l))

rfind_none : (c : ℕ) (text : List ℕ) (n : ℕ) → n ≤ length text → ((i : ℕ) → i < length text → get_or text i 0 ≢ c) → rfind_below c text n ≡ None
rfind_none c text zero short none = refl
rfind_none c text (suc n) short none = ap (λ b. cond b (Some n) (rfind_below c text n)) (ne_eqb (get_or text n 0) c (none n (omega arith))) ∙ rfind_none c text n (omega arith) none

rfind_some : (c : ℕ) (text : List ℕ) (k n : ℕ) → k < n → n ≤ length text → get_or text k 0 ≡ c → ((i : ℕ) → k < i → i < length text → get_or text i 0 ≢ c) → rfind_below c text n ≡ Some k
rfind_some c text k zero below short is later = absurd (omega arith)
rfind_some c text k (suc n) below short is later = by (split k n below) (λ less. rfind_some c text k n less (omega arith) is later)
  where
    by : (k ≡ n) ⊎ (k < n) → (k < n → rfind_below c text n ≡ Some k) → cond (get_or text n 0 == c) (Some n) (rfind_below c text n) ≡ Some k
    by (inl e) before = ap (λ b. cond b (Some n) (rfind_below c text n)) (eq-eqb (get_or text n 0) c (ap (λ (i : ℕ). get_or text i 0) (sym e) ∙ is)) ∙ ap Some (sym e)
    by (inr l) before = ap (λ b. cond b (Some n) (rfind_below c text n)) (ne_eqb (get_or text n 0) c (later n l (omega arith))) ∙ before l

pub folder_by : (path : List ℕ) (r : Option ℕ) → MatchOption r ((i : ℕ) → i < length path → get_or path i 0 ≢ 47) (λ k. (k < length path) × (get_or path k 0 ≡ 47) × ((i : ℕ) → k < i → i < length path → get_or path i 0 ≢ 47)) → option_map (λ end. take end path) r ≡ folder_of path
folder_by path None h = ap (option_map (λ end. take end path)) (sym (rfind_none 47 path (length path) (omega arith) h))
folder_by path (Some k) h = ap (option_map (λ end. take end path)) (sym (rfind_some 47 path k (length path) h.0 (omega arith) h.1 h.2))

-- ---- one call for the folder that a path has

pub folder_made : (room : Room) (output folder path : List ℕ) (r : Io) (old new : BerthTold) → Some folder ≡ folder_of output → path ≡ in_room room folder → Adds (call.Folder path r ∷ []) old.log new.log → Counts old.faults new.faults (r ≡ io.Failed) → SameBerth old new → MakesRun (io_end r) (folder_asks room (output ∷ [])) old new
folder_made room output folder path r old new has is log count same =
    subst (λ (o : Option (List ℕ)). MakesRun (io_end r) (cons_option (option_map (λ f. Folder (in_room room f)) o) []) old new) has
    (run_io (Folder (in_room room folder)) (call.Folder path r) r old new (ap Folder is) refl log count same)

pub no_folder : (room : Room) (output : List ℕ) (told : BerthTold) → None ≡ folder_of output → MakesRun Whole (folder_asks room (output ∷ [])) told told
no_folder room output told none =
    subst (λ (o : Option (List ℕ)). MakesRun Whole (cons_option (option_map (λ f. Folder (in_room room f)) o) []) told told) none (run_none told)

-- ---- the request's own folder is made anew

pub part_renewed : (room : Room) (number : ℤ) (outputs : List (List ℕ)) (part : List ℕ) (end : RunEnd) (old new : BerthTold) → room ≡ room_is.Part number → part ≡ part_of number → MakesRun end (Clear part ∷ Folder part ∷ []) old new → MakesRun end (clear_asks room outputs) old new
part_renewed room number outputs part end old new is same h =
    subst (λ (r : Room). MakesRun end (clear_asks r outputs) old new) (sym is) (subst (λ (t : List ℕ). MakesRun end (Clear t ∷ Folder t ∷ []) old new) same h)
