-- Calls on a shop, one run after another.
use Rattle.std.proofs.Common.{◌≡◌, ℕ, ◌+◌, ◌<◌, ◌≤◌, List, [], ◌∷◌, ◌++◌, length, take, drop}
use Rattle.std.proofs.Common.{get_or, Bool, true, false, Option, Some, None, refl, subst, sym}
use Rattle.std.proofs.Common.{append_assoc, ◌∙◌, ap, ◌||◌}
use Rattle.std.specs.Prelude.{Ok}
use Rattle.std.proofs.lemmas.List.{take_more, take-append-drop, take_all}
use Rattle.outside.specs.Causes.{Counts}
use Rattle.outside.specs.Lists.{Adds}
use Rattle.outside.specs.Told.{ShopTold}
use Rattle.outside.specs.declared.answers.Io.{Io}
use Rattle.outside.specs.declared.answers.Io.TheVariants as io
use Rattle.outside.specs.declared.shop.ShopCall.{ShopCall}
use Rattle.outside.specs.declared.shop.ShopCall.TheVariants as call
use Rattle.message_service.specs.Calls.{Made, HasFailed, has_failed}
use Rattle.message_service.proofs.Made.{made_on, made_nothing}
use Rattle.job_runner.specs.Calls.{Asked, Put, Folder, asked, cannot_write, refusal_of, WentWell}
use Rattle.job_runner.specs.Calls.{StopsAt, Way, Whole, Stopped, Cut, Goes, Does}
use Rattle.std.specs.Prelude.{option_map}
use Rattle.std.specs.List.{cons_option}
use Rattle.sandbox_rooms.specs.Rooms.{folder_of}
use Rattle.job_runner.specs.Jobs.{fill_way, in_folder, folder_asks}

-- ---- calls that went well

pub well_more : (asks : List Asked) (calls : List ShopCall) (c : ShopCall) (rest : List Asked)
    → WentWell asks calls (asked c ∷ rest) → refusal_of c ≡ None
    → WentWell asks (calls ++ c ∷ []) rest
well_more asks [] c rest w well = subst (λ (qs : List Asked). WentWell qs (c ∷ []) rest) (sym w)
    (refl, well, refl)
well_more [] (d ∷ calls) c rest w well = absurd w
well_more (a ∷ asks) (d ∷ calls) c rest w well = (w.0, w.1, well_more asks calls c rest w.2 well)

pub well_then : (xs ys : List Asked) (cs ds : List ShopCall) (rest : List Asked)
    → WentWell xs cs [] → WentWell ys ds rest → WentWell (xs ++ ys) (cs ++ ds) rest
well_then xs ys [] ds rest first second = subst (λ (qs : List Asked). WentWell (qs ++ ys) ds rest)
    (sym first) second
well_then [] ys (c ∷ cs) ds rest first second = absurd first
well_then (x ∷ xs) ys (c ∷ cs) ds rest first second = (
  first.0,
  first.1,
  well_then xs ys cs ds rest
      first.2 second,
)

pub well_wider : (xs ys : List Asked) (cs : List ShopCall) (rest : List Asked)
    → WentWell xs cs rest → WentWell (xs ++ ys) cs (rest ++ ys)
well_wider xs ys [] rest w = ap (λ (qs : List Asked). qs ++ ys) w
well_wider [] ys (c ∷ cs) rest w = absurd w
well_wider (x ∷ xs) ys (c ∷ cs) rest w = (w.0, w.1, well_wider xs ys cs rest w.2)

-- ---- and then one that stopped them

pub stops_then : (why : List ℕ) (xs ys : List Asked) (cs ds : List ShopCall) → WentWell xs cs []
    → StopsAt why ys ds → StopsAt why (xs ++ ys) (cs ++ ds)
stops_then why xs ys cs ds first s = record {
  before = cs ++ s.before;
  last = s.last;
  rest = s.rest;
  all = ap (λ (es : List ShopCall). cs ++ es) s.all ∙ sym (append_assoc cs s.before (s.last ∷ []));
  well = well_then xs ys cs s.before (asked s.last ∷ s.rest) first s.well;
  refused = s.refused;
}

pub stops_wider : (why : List ℕ) (xs ys : List Asked) (cs : List ShopCall) → StopsAt why xs cs
    → StopsAt why (xs ++ ys) cs
stops_wider why xs ys cs s = record {
  before = s.before;
  last = s.last;
  rest = s.rest ++ ys;
  all = s.all;
  well = well_wider xs ys s.before (asked s.last ∷ s.rest) s.well;
  refused = s.refused;
}

pub stops_alone : (why : List ℕ) (c : ShopCall) (rest : List Asked) → refusal_of c ≡ Some why
    → StopsAt why (asked c ∷ rest) (c ∷ [])
stops_alone why c rest is = record {
  before = [];
  last = c;
  rest = rest;
  all = refl;
  well =
      refl;
  refused = is;
}

-- ---- runs

pub goes_then : (way : Way) (xs ys : List Asked) (cs ds : List ShopCall) → WentWell xs cs []
    → Goes way ys ds → Goes way (xs ++ ys) (cs ++ ds)
goes_then Whole xs ys cs ds first second = well_then xs ys cs ds [] first second
goes_then (Stopped why) xs ys cs ds first second = stops_then why xs ys cs ds first second
goes_then Cut xs ys cs ds first second = (second.0, well_then xs ys cs ds second.0 first second.1)

abbrev pub IsEarly : Way → Type 0
IsEarly Whole = ⊥
IsEarly (Stopped why) = Unit {0}
IsEarly Cut = Unit {0}

pub goes_wider : (way : Way) (xs ys : List Asked) (cs : List ShopCall) → IsEarly way
    → Goes way xs cs → Goes way (xs ++ ys) cs
goes_wider Whole xs ys cs early g = absurd early
goes_wider (Stopped why) xs ys cs early g = stops_wider why xs ys cs g
goes_wider Cut xs ys cs early g = (g.0 ++ ys, well_wider xs ys cs g.0 g.1)

pub does_then : (way : Way) (xs ys : List Asked) (old mid new : ShopTold) → Does Whole xs old mid
    → Does way ys mid new → Does way (xs ++ ys) old new
does_then way xs ys old mid new first second = (
  first.0 ++ second.0,
  goes_then way xs ys first.0 second.0 first.1 second.1,
  made_on first.0
      second.0 old mid new first.2 second.2,
)

pub does_wider : (way : Way) (xs ys : List Asked) (old new : ShopTold) → IsEarly way
    → Does way xs old new → Does way (xs ++ ys) old new
does_wider way xs ys old new early d = (d.0, goes_wider way xs ys d.0 early d.1, d.2)

pub does_none : (told : ShopTold) → Does Whole [] told told
does_none told = ([], refl, made_nothing told)

pub does_cut : (asks : List Asked) (told : ShopTold) → Does Cut asks told told
does_cut asks told = ([], (asks, refl), made_nothing told)

pub cc_of : false ≡ true → ⊥
cc_of e = cc

pub made_still : (old new : ShopTold) → new.log ≡ old.log → old.faults ≤ new.faults
    → Made [] old new
made_still old new same later = record {
  log = subst (λ (o : Option (List ShopCall)). Adds [] old.log o) (sym same) (made_nothing old).log;
  count = record { later = later; rose = λ failed. absurd (cc_of failed) };
}

-- ---- one call

or_false : (b : Bool) → (b || false) ≡ b
or_false true = refl
or_false false = refl

one_failed : (c : ShopCall) → HasFailed (c ∷ []) → has_failed c ≡ true
one_failed c h = sym (or_false (has_failed c)) ∙ h

pub made_one : (c : ShopCall) (Failed : Type 0) (old new : ShopTold) → (has_failed c ≡ true
    → Failed) → Adds (c ∷ []) old.log new.log → Counts old.faults new.faults Failed
    → Made (c ∷ []) old new
made_one c Failed old new is log count = record {
  log = log;
  count = record {
    later =
        count.later;
    rose = λ failed. count.rose (is (one_failed c failed));
  };
}

abbrev pub done_way : Io → Way
done_way io.Done = Whole
done_way io.Failed = Stopped cannot_write

never_done : {A : Type 0} → false ≡ true → A
never_done e = absurd (cc_of e)

pub does_put : (path bytes : List ℕ) (r : Io) (a : Asked) (old new : ShopTold)
    → Put path bytes ≡ a → Adds (call.Put path bytes r ∷ []) old.log new.log
    → Counts old.faults new.faults (r ≡ io.Failed) → Does (done_way r) (a ∷ []) old new
does_put path bytes io.Done a old new is log count = (
  call.Put path bytes io.Done ∷ [],
  (
    is,
    refl,
    refl,
  ),
  made_one (call.Put path bytes io.Done) (io.Done ≡ io.Failed) old new never_done log
      count,
)
does_put path bytes io.Failed a old new is log count = (
  call.Put path bytes io.Failed ∷ [],
  subst
      (λ (x : Asked). StopsAt cannot_write (x ∷ []) (call.Put path bytes io.Failed ∷ [])) is
      (stops_alone cannot_write (call.Put path bytes io.Failed) [] refl),
  made_one (call.Put path
      bytes io.Failed) (io.Failed ≡ io.Failed) old new (λ e. refl) log count,
)

pub does_folder : (path : List ℕ) (r : Io) (a : Asked) (old new : ShopTold) → Folder path ≡ a
    → Adds (call.Folder path r ∷ []) old.log new.log → Counts old.faults new.faults (r ≡ io.Failed)
    → Does (done_way r) (a ∷ []) old new
does_folder path io.Done a old new is log count = (
  call.Folder path io.Done ∷ [],
  (is, refl, refl),
  made_one (call.Folder path io.Done) (io.Done ≡ io.Failed) old new never_done log count,
)
does_folder path io.Failed a old new is log count = (
  call.Folder path io.Failed ∷ [],
  subst (λ (x :
      Asked). StopsAt cannot_write (x ∷ []) (call.Folder path io.Failed ∷ [])) is (stops_alone
      cannot_write (call.Folder path io.Failed) [] refl),
  made_one (call.Folder path io.Failed)
      (io.Failed ≡ io.Failed) old new (λ e. refl) log count,
)

pub done_fill : (r : Io) → done_way r ≡ fill_way (Ok r)
done_fill io.Done = refl
done_fill io.Failed = refl

-- ---- a run over the elements of a list

pub front_more : {X : Type 0} (xs : List X) (i : ℕ) (x : X) → i < length xs → x ≡ get_or xs i x
    → take (i + 1) xs ≡ take i xs ++ x ∷ []
front_more {X = X} xs i x below is = take_more xs i x below ∙ ap (λ (y : X). take i xs ++ y ∷ [])
    (sym is)

pub split_at : {X : Type 0} (xs : List X) (i : ℕ) (x : X) → i < length xs → x ≡ get_or xs i x
    → xs ≡ (take i xs ++ x ∷ []) ++ drop (i + 1) xs
split_at {X = X} xs i x below is =
    sym (take-append-drop (i + 1) xs) ∙ ap (λ (ys : List X). ys ++ drop (i + 1) xs) (front_more xs
    i x below is)

module _ {X : Type 0} (F : List X → List Asked) (hom : (xs ys : List X)
    → F (xs ++ ys) ≡ F xs ++ F ys) where
  pub loop_go : (xs : List X) (i : ℕ) (x y : X) (old mid new : ShopTold) → i < length xs
      → x ≡ get_or xs i x → y ≡ x → Does Whole (F (take i xs)) old mid
      → Does Whole (F (y ∷ [])) mid new → Does Whole (F (take (i + 1) xs)) old new
  loop_go xs i x y old mid new below is same first next =
      subst (λ (asks : List Asked). Does Whole asks old new) (sym (ap F (front_more xs i x below
      is) ∙ hom (take i xs) (x ∷ [])))
      (does_then Whole (F (take i xs)) (F (x ∷ [])) old mid new first (subst (λ (z : X). Does Whole
      (F (z ∷ [])) mid new) same next))

  pub loop_ends : (way : Way) → IsEarly way → (xs : List X) (i : ℕ) (x y : X) (old mid new :
      ShopTold) → i < length xs → x ≡ get_or xs i x → y ≡ x → Does Whole (F (take i xs)) old mid
      → Does way (F (y ∷ [])) mid new → Does way (F xs) old new
  loop_ends way early xs i x y old mid new below is same first next =
      subst (λ (asks : List Asked). Does way asks old new) (sym (ap F (split_at xs i x below is)
      ∙ hom (take i xs ++ x ∷ []) (drop (i + 1) xs)))
      (does_wider way (F (take i xs ++ x ∷ [])) (F (drop (i + 1) xs)) old new early
      (subst (λ (asks : List Asked). Does way asks old new) (sym (hom (take i xs) (x ∷ [])))
      (does_then way (F (take i xs)) (F (x ∷ [])) old mid new first (subst (λ (z : X). Does way
      (F (z ∷ [])) mid new) same next))))

  pub loop_done : (xs : List X) (i : ℕ) (old new : ShopTold) → length xs ≤ i
      → Does Whole (F (take i xs)) old new → Does Whole (F xs) old new
  loop_done xs i old new past h = subst (λ (ys : List X). Does Whole (F ys) old new) (take_all i xs
      past) h

-- ---- one call for the folder that a path has

pub folder_made : (folder output part path : List ℕ) (r : Io) (old new : ShopTold)
    → Some part ≡ folder_of output → path ≡ in_folder folder part
    → Adds (call.Folder path r ∷ []) old.log new.log → Counts old.faults new.faults (r ≡ io.Failed)
    → Does (done_way r) (folder_asks folder (output ∷ [])) old new
folder_made folder output part path r old new has is log count =
    subst (λ (o : Option (List ℕ)). Does (done_way r) (cons_option (option_map (λ f. Folder
    (in_folder folder f)) o) []) old new) has
    (does_folder path r (Folder (in_folder folder part)) old new (ap Folder is) log count)

pub no_folder : (folder output : List ℕ) (told : ShopTold) → None ≡ folder_of output
    → Does Whole (folder_asks folder (output ∷ [])) told told
no_folder folder output told none =
    subst (λ (o : Option (List ℕ)). Does Whole (cons_option (option_map (λ f. Folder (in_folder
    folder f)) o) []) told told) none (does_none told)
