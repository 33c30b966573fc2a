-- Looks at outputs, one after another.
use Rattle.std.proofs.Common.{◌≡◌, ℕ, ◌+◌, ◌<◌, ◌≤◌, List, [], ◌∷◌, ◌++◌, length, take, drop, get_or, Bool, true, false, refl, subst, sym, append_assoc, append-nil, ◌∙◌, ap}
use Rattle.std.proofs.lemmas.List.{map-append, take_all, take-append-drop}
use Rattle.std.specs.Prelude.{Ok, Err}
use Rattle.plain_values.specs.declared.no_memory.NoMemory.{NoMemory}
use Rattle.outside.specs.Told.{BerthTold}
use Rattle.outside.specs.declared.answers.Read.{Read}
use Rattle.outside.specs.declared.answers.Read.TheVariants as read
use Rattle.outside.specs.declared.berth.BerthCall.{BerthCall}
use Rattle.outside.specs.declared.berth.BerthCall.TheVariants as call
use Rattle.sandbox_rooms.specs.declared.room.Room.{Room}
use Rattle.sandbox_rooms.specs.declared.gathering.Gathered.{Gathered}
use Rattle.sandbox_rooms.specs.declared.gathering.Gathered.TheVariants as gathered
use Rattle.sandbox_rooms.specs.Calls.{Asked, asked, went_well, RunEnd, Whole, Stopped, Cut, EndsHere, GoesOn, Runs, Made}
use Rattle.sandbox_rooms.specs.Rooms.{in_room, get_ask, gather_asks, gathered_after, gathered_in, gather_end, IsRoomFault, MakesLooks}
use Rattle.sandbox_rooms.proofs.Runs.{made_on, made_none, made_less, front_more, split_at, both, wider}

-- ---- looks that all found their outputs

-- these outputs were found, and what further looks give follows their files
pub record Found (room : Room) (outputs : List (List ℕ)) (k : ℕ) (files : List (List ℕ)) (old new : BerthTold) : Type 0 where
  pub calls : List BerthCall
  pub runs : Runs Whole (gather_asks room outputs) calls
  pub gives : (rest : List BerthCall) → gathered_in (calls ++ rest) ≡ gathered_after k files rest
  pub made : Made calls ⊥ old new

goes_front : (b : Bool) (xs : List BerthCall) (One Two : Type 0) → (One → Two) → GoesOn Whole b xs One → GoesOn Cut b xs Two
goes_front true xs One Two f h = f h
goes_front false xs One Two f h = absurd h

-- a whole run of the first calls is a front of all
pub front_only : (ps qs : List Asked) (xs : List BerthCall) → Runs Whole ps xs → Runs Cut (ps ++ qs) xs
front_only [] qs [] h = tt
front_only (p ∷ ps) qs [] h = tt
front_only [] qs (c ∷ xs) h = absurd h
front_only (p ∷ ps) qs (c ∷ xs) h = (h.0, goes_front (went_well c) xs (Runs Whole ps xs) (Runs Cut (ps ++ qs) xs) (λ r. front_only ps qs xs r) h.1)

-- the next one was found too
pub found_more : (room : Room) (outputs : List (List ℕ)) (k : ℕ) (x output bytes : List ℕ) (files grown : List (List ℕ)) (Failed : Type 0) (old mid new : BerthTold) → k < length outputs → x ≡ get_or outputs k x → output ≡ x → grown ≡ files ++ bytes ∷ []
    → Found room (take k outputs) k files old mid → Made (call.Get (in_room room output) (read.Found bytes) ∷ []) Failed mid new → Found room (take (k + 1) outputs) (k + 1) grown old new
found_more room outputs k x output bytes files grown Failed old mid new below is same grows f m =
    let c : BerthCall = call.Get (in_room room output) (read.Found bytes) in
    let asks : gather_asks room (take (k + 1) outputs) ≡ gather_asks room (take k outputs) ++ get_ask room output ∷ [] =
    ap (gather_asks room) (front_more outputs k x below is) ∙ map-append (get_ask room) (take k outputs) (x ∷ []) ∙ ap (λ (y : List ℕ). gather_asks room (take k outputs) ++ get_ask room y ∷ []) (sym same) in
    record {
      calls = f.calls ++ c ∷ [];
      runs = subst (λ (asks : List Asked). Runs Whole asks (f.calls ++ c ∷ [])) (sym asks) (both Whole (gather_asks room (take k outputs)) (get_ask room output ∷ []) f.calls (c ∷ []) f.runs (refl, tt));
      gives = λ rest. ap gathered_in (append_assoc f.calls (c ∷ []) rest) ∙ f.gives (c ∷ rest) ∙ ap (λ (fs : List (List ℕ)). gathered_after (k + 1) fs rest) (sym grows);
      made = made_on f.calls (c ∷ []) ⊥ ⊥ old mid new f.made (made_less (c ∷ []) Failed ⊥ mid new (λ never. absurd never) m);
    }

-- ---- how they end

-- the asks are those before this one, this one, and those behind it
asks_at : (room : Room) (outputs : List (List ℕ)) (k : ℕ) (x output : List ℕ) → k < length outputs → x ≡ get_or outputs k x → output ≡ x → gather_asks room outputs ≡ (gather_asks room (take k outputs) ++ get_ask room output ∷ []) ++ gather_asks room (drop (k + 1) outputs)
asks_at room outputs k x output below is same =
    ap (gather_asks room) (split_at outputs k x below is) ∙ map-append (get_ask room) (take k outputs ++ x ∷ []) (drop (k + 1) outputs)
    ∙ ap (λ (asks : List Asked). asks ++ gather_asks room (drop (k + 1) outputs)) (map-append (get_ask room) (take k outputs) (x ∷ []) ∙ ap (λ (y : List ℕ). gather_asks room (take k outputs) ++ get_ask room y ∷ []) (sym same))

alone : (a : Asked) (c : BerthCall) → asked c ≡ a → went_well c ≡ false → Runs Stopped (a ∷ []) (c ∷ [])
alone a c is unwell = (is, subst (λ (b : Bool). GoesOn Stopped b [] (EndsHere Stopped [])) (sym unwell) refl)

-- the looks end with one that didn't find its output
pub looks_last : (room : Room) (outputs : List (List ℕ)) (k : ℕ) (x output : List ℕ) (files : List (List ℕ)) (r : Read) (g : Gathered) (old mid new : BerthTold) → k < length outputs → x ≡ get_or outputs k x → output ≡ x → went_well (call.Get (in_room room output) r) ≡ false → gather_end (Ok g) ≡ Stopped → g ≡ gathered_after k files (call.Get (in_room room output) r ∷ []) → (IsRoomFault (Ok g) → r ≡ read.Failed)
    → Found room (take k outputs) k files old mid → Made (call.Get (in_room room output) r ∷ []) (r ≡ read.Failed) mid new → MakesLooks (gather_asks room outputs) (Ok g) old new
looks_last room outputs k x output files r g old mid new below is same unwell ends gives fails f m =
    let c : BerthCall = call.Get (in_room room output) r in
    let front : List Asked = gather_asks room (take k outputs) in
    let behind : List Asked = gather_asks room (drop (k + 1) outputs) in
    let short : Runs Stopped (front ++ get_ask room output ∷ []) (f.calls ++ c ∷ []) = both Stopped front (get_ask room output ∷ []) f.calls (c ∷ []) f.runs (alone (get_ask room output) c refl unwell) in
    let long : Runs Stopped (gather_asks room outputs) (f.calls ++ c ∷ []) = subst (λ (asks : List Asked). Runs Stopped asks (f.calls ++ c ∷ [])) (sym (asks_at room outputs k x output below is same)) (wider Stopped (front ++ get_ask room output ∷ []) behind (f.calls ++ c ∷ []) tt short) in
    let made : Made (f.calls ++ c ∷ []) (r ≡ read.Failed) old new = made_on f.calls (c ∷ []) ⊥ (r ≡ read.Failed) old mid new f.made m in
    (f.calls ++ c ∷ [], subst (λ (e : RunEnd). Runs e (gather_asks room outputs) (f.calls ++ c ∷ [])) (sym ends) long, gives ∙ sym (f.gives (c ∷ [])), made_less (f.calls ++ c ∷ []) (r ≡ read.Failed) (IsRoomFault (Ok g)) old new fails made)

-- they end before this one
pub looks_cut : (room : Room) (outputs : List (List ℕ)) (k : ℕ) (files : List (List ℕ)) (e : NoMemory) (old mid new : BerthTold) → Found room (take k outputs) k files old mid → Made [] ⊥ mid new → MakesLooks (gather_asks room outputs) (Err e) old new
looks_cut room outputs k files e old mid new f m =
    let front : List Asked = gather_asks room (take k outputs) in
    let asks : gather_asks room outputs ≡ front ++ gather_asks room (drop k outputs) = ap (gather_asks room) (sym (take-append-drop k outputs)) ∙ map-append (get_ask room) (take k outputs) (drop k outputs) in (
      f.calls,
      subst (λ (asks : List Asked). Runs Cut asks f.calls) (sym asks) (front_only front (gather_asks room (drop k outputs)) f.calls f.runs),
      tt,
      subst (λ (cs : List BerthCall). Made cs ⊥ old new) (append-nil f.calls) (made_on f.calls [] ⊥ ⊥ old mid new f.made m),
    )

-- all were found
pub looks_all : (room : Room) (outputs : List (List ℕ)) (k : ℕ) (files : List (List ℕ)) (old new : BerthTold) → length outputs ≤ k → Found room (take k outputs) k files old new → MakesLooks (gather_asks room outputs) (Ok (gathered.Files files)) old new
looks_all room outputs k files old new past f =
    (f.calls, subst (λ (os : List (List ℕ)). Runs Whole (gather_asks room os) f.calls) (take_all k outputs past) f.runs, sym (f.gives []) ∙ ap gathered_in (append-nil f.calls), f.made)

-- none was looked at
pub looks_none : (asks : List Asked) (e : NoMemory) (told : BerthTold) → MakesLooks asks (Err e) told told
looks_none asks e told = ([], tt, tt, made_none told)
