-- Work that is made of the list and the files.
use Rattle.std.proofs.Common.{◌≡◌, ℕ, suc, ◌<◌, ◌≤◌, ◌+◌, List, [], ◌∷◌, ◌++◌, length, map, take, drop, get_or, filter, flat_map, Bool, true, false, cond, is_none, Some, None, Result, Ok, Err, refl, ap, sym, subst, append_assoc, length-take, ◌∙◌, arith}
use Rattle.std.specs.List.{All}
use Rattle.std.specs.Option.{IsSome}
use Rattle.std.proofs.lemmas.List.{take-append-drop, map_more, map-append, take_all, take_more}
use mathlib.Core.Path.{fun_ext}
use Rattle.std.proofs.lemmas.List.Elements.{All-cons, All-get_or, All-head, All-nil, All-tail, filter_map-append}
use Rattle.list_actions.specs.Producers.{producer_of}
use Rattle.list_actions.specs.Made.{maker_of, producer_in}
use Rattle.list_actions.specs.Whole.{KnowsProducers}
use Rattle.list_actions.specs.declared.producers.Producers.{Producers}
use Rattle.list_actions.proofs.ProducerLemmas.{more_producers}
use Rattle.list_actions.specs.declared.types.ListAction.{ListAction}
use Rattle.build_report.specs.declared.fault.RunFault.{RunFault}
use Rattle.build_report.specs.declared.fault.RunFault.TheVariants as fault
use Rattle.outside.specs.Floor.{file_at}
use Rattle.outside.specs.Told.{FloorTold}
use Rattle.outside.specs.declared.floor.FloorRead.{FloorRead}
use Rattle.outside.specs.declared.floor.SourceFile.{SourceFile}
use Rattle.remote_messages.specs.declared.work.Work.{Work}
use Rattle.remote_messages.specs.declared.work.WorkAction.{WorkAction}
use Rattle.remote_messages.specs.declared.work.WorkInput.{WorkInput}
use Rattle.run_loading.specs.Course.{WorkRead}
use Rattle.run_loading.specs.Reads.{Leads, Reads, UnlessBefore, OnLost}
use Rattle.run_loading.specs.Sources.{HasAll, SourcesRead, held}
use Rattle.run_loading.specs.Wanted.{FirstLost, Makers, is_source, paths_of_action, paths_of_actions, wanted}
use Rattle.run_loading.specs.Works.{Gives, Works, due_work, file_from, source_files, work_by, work_inputs}
use Rattle.run_loading.specs.declared.sources.Sources.{Sources}
use Rattle.run_loading.proofs.Found.{each_has_file}
use Rattle.run_loading.proofs.Logged.{reads_weaker, unless_reads_weaker}

-- ---- each input has its file

all_front : {Y : Type 0} (P : Y → Type 0) (xs ys : List Y) → All P (xs ++ ys) → All P xs
all_front P [] ys h = All-nil P
all_front P (x ∷ xs) ys h = All-cons P x xs (All-head P x (xs ++ ys) h) (all_front P xs ys (All-tail P x (xs ++ ys) h))

all_behind : {Y : Type 0} (P : Y → Type 0) (xs ys : List Y) → All P (xs ++ ys) → All P ys
all_behind P [] ys h = h
all_behind P (x ∷ xs) ys h = all_behind P xs ys (All-tail P x (xs ++ ys) h)

all_of_each : {X Y : Type 0} (P : Y → Type 0) (f : X → List Y) (xs : List X) → All P (flat_map f xs) → All (λ x. All P (f x)) xs
all_of_each P f [] h = All-nil (λ x. All P (f x))
all_of_each P f (x ∷ xs) h = All-cons (λ y. All P (f y)) x xs (all_front P (f x) (flat_map f xs) h) (all_of_each P f xs (all_behind P (f x) (flat_map f xs) h))

-- what holds of what each element gives holds of what this one gives
pub all_of_this : {X Y : Type 0} (P : Y → Type 0) (f : X → List Y) (xs : List X) (i : ℕ) (x : X) → i < length xs → x ≡ get_or xs i x → All P (flat_map f xs) → All P (f x)
all_of_this {X = X} P f xs i x below is h = subst (λ (y : X). All P (f y)) (sym is) (All-get_or (λ y. All P (f y)) xs i x below (all_of_each P f xs h))

one_kept : {X : Type 0} (P : X → Type 0) (q : X → Bool) (x : X) (xs : List X) (b : Bool) → q x ≡ b → (All P (filter q xs) → All (λ y. q y ≡ true → P y) xs) → All P (cond b (x ∷ filter q xs) (filter q xs)) → All (λ y. q y ≡ true → P y) (x ∷ xs)
one_kept P q x xs true is rest k = All-cons (λ y. q y ≡ true → P y) x xs (λ e. All-head P x (filter q xs) k) (rest (All-tail P x (filter q xs) k))
one_kept P q x xs false is rest k = All-cons (λ y. q y ≡ true → P y) x xs (λ e. absurd (cc)) (rest k)

all_kept : {X : Type 0} (P : X → Type 0) (q : X → Bool) (xs : List X) → All P (filter q xs) → All (λ x. q x ≡ true → P x) xs
all_kept P q [] h = All-nil (λ x. q x ≡ true → P x)
all_kept P q (x ∷ xs) h = one_kept P q x xs (q x) refl (all_kept P q xs) h

-- an input that no action makes has its file
pub input_there : (makers : Makers) (files : List SourceFile) (x : ListAction) (i : ℕ) (p path : List ℕ) → i < length x.inputs → p ≡ get_or x.inputs i p → path ≡ p → HasAll files (paths_of_action makers x) → makers path ≡ None → IsSome (file_at files path)
input_there makers files x i p path below is same all none =
    let P : List ℕ → Type 0 = λ q. IsSome (file_at files q) in
    let kept = all_kept P (is_source makers) x.inputs (all_behind P x.tools (filter (is_source makers) x.inputs) all) in
    let here = All-get_or (λ q. is_source makers q ≡ true → P q) x.inputs i p below kept in
    let at : get_or x.inputs i p ≡ path = sym is ∙ sym same in
    subst (λ (q : List ℕ). is_source makers q ≡ true → P q) at here (ap is_none none)

-- ---- the source files, input by input

pub files_more : (inputs : List WorkInput) (i : ℕ) (x : WorkInput) (done after : List SourceFile) → i < length inputs → x ≡ get_or inputs i x → done ≡ source_files (take i inputs) → after ≡ done ++ source_files (x ∷ []) → after ≡ source_files (take (i + 1) inputs)
files_more inputs i x done after below is so_far grown =
    grown ∙ ap (λ (fs : List SourceFile). fs ++ source_files (x ∷ [])) so_far ∙ sym (filter_map-append (λ (w : WorkInput). file_from w.path w.origin) (take i inputs) (x ∷ []))
    ∙ ap source_files (ap (λ (w : WorkInput). take i inputs ++ w ∷ []) is ∙ sym (take_more inputs i x below))

-- ---- the table of makers

pub makers_known : (xs : List ListAction) (i : ℕ) (producers : Producers) → length xs ≤ i → KnowsProducers producers (take i xs) → producer_of producers ≡ maker_of xs
makers_known xs i producers past knows = fun_ext (λ q. knows.known q ∙ ap (λ (ys : List ListAction). maker_of ys q) (take_all i xs past))

pub makers_more : (xs : List ListAction) (i number : ℕ) (x : ListAction) (before after : Producers) → i < length xs → x ≡ get_or xs i x → number ≡ i → KnowsProducers before (take i xs)
    → ((q : List ℕ) → producer_of after q ≡ producer_in (producer_of before q) q number 0 x.outputs) → KnowsProducers after (take (i + 1) xs)
makers_more xs i number x before after below is counted knows noted =
    let so_many : number ≡ length (take i xs) = omega (arith, counted, length-take i xs, below) in
    let this : take (i + 1) xs ≡ take i xs ++ x ∷ [] = take_more xs i x below ∙ ap (λ (y : ListAction). take i xs ++ y ∷ []) (sym is) in
    record { known = λ q. more_producers (take i xs) x number q so_many (knows.known q) (noted q) ∙ ap (λ (ys : List ListAction). maker_of ys q) (sym this) }

-- ---- action by action

pub dues_go : {X A B : Type 0} (f : X → A) (g : B → A) (xs : List X) (i : ℕ) (x : X) (done after : List B) (y : B) → i < length xs → x ≡ get_or xs i x → map f (take i xs) ≡ map g done → f x ≡ g y → after ≡ done ++ y ∷ []
    → map f (take (i + 1) xs) ≡ map g after
dues_go {X = X} {A = A} f g xs i x done after y below is so_far due grown =
    map_more f xs i x below ∙ ap (λ (l : List A). l ++ f (get_or xs i x) ∷ []) so_far ∙ ap (λ (z : X). map g done ++ f z ∷ []) (sym is)
    ∙ ap (λ (a : A). map g done ++ a ∷ []) due ∙ sym (map-append g done (y ∷ [])) ∙ ap (map g) (sym grown)

here_and_rest : {X A : Type 0} (f : X → A) (xs : List X) (i : ℕ) (x : X) (front : List A) (a : A) → i < length xs → x ≡ get_or xs i x → map f (take i xs) ≡ front → f x ≡ a
    → map f xs ≡ front ++ a ∷ map f (drop (i + 1) xs)
here_and_rest {X = X} {A = A} f xs i x front a below is so_far due =
    ap (map f) (sym (take-append-drop (i + 1) xs)) ∙ map-append f (take (i + 1) xs) (drop (i + 1) xs)
    ∙ ap (λ (l : List A). l ++ map f (drop (i + 1) xs)) (map_more f xs i x below ∙ ap (λ (l : List A). l ++ f (get_or xs i x) ∷ []) so_far ∙ ap (λ (z : X). front ++ f z ∷ []) (sym is) ∙ ap (λ (b : A). front ++ b ∷ []) due)
    ∙ append_assoc front (a ∷ []) (map f (drop (i + 1) xs))

count_same : {A B : Type 0} (f : B → A) (bs : List B) → length (map f bs) ≡ length bs
count_same f [] = refl
count_same f (b ∷ bs) = ap suc (count_same f bs)

same_length : {A B : Type 0} (f : B → A) (done : List B) (dues : List A) → dues ≡ map f done → length dues ≡ length done
same_length f done dues e = ap length e ∙ count_same f done

works_stop : (makers : Makers) (files : List SourceFile) (xs : List ListAction) (i number : ℕ) (x : ListAction) (done : List WorkAction) (f : RunFault) → i < length xs → x ≡ get_or xs i x → number ≡ i
    → map (due_work makers files) (take i xs) ≡ map (λ w. Ok w) done → Gives number (due_work makers files x) (Err f) → Works (map (due_work makers files) xs) (Err f)
works_stop makers files xs i number x done (fault.Flags a y) below is counted so_far h =
    let dues = map (due_work makers files) (take i xs) in
    let long : length dues ≡ length done = same_length _ done dues so_far in
    record {
      earlier = done;
      later = map (due_work makers files) (drop (i + 1) xs);
      stands = here_and_rest (due_work makers files) xs i x (map (λ w. Ok w) done) (Err y) below is so_far h.1;
      numbered = omega (arith, h.0, counted, long, count_same (due_work makers files) (take i xs), length-take i xs, below);
      real = h.2;
    }
works_stop makers files xs i number x done (fault.NoMemory when) below is counted so_far h = h
works_stop makers files xs i number x done (fault.Absent at) below is counted so_far h = absurd h
works_stop makers files xs i number x done (fault.FloorFailed at) below is counted so_far h = absurd h
works_stop makers files xs i number x done fault.SinkFailed below is counted so_far h = absurd h
works_stop makers files xs i number x done fault.Words below is counted so_far h = absurd h
works_stop makers files xs i number x done (fault.List y) below is counted so_far h = absurd h

-- ---- what the reads and the files lead to

-- where all were found, each path has its file
pub all_there : (old after : FloorTold) (makers : Makers) (xs ys : List ListAction) (sources : Sources) → makers ≡ maker_of xs → ys ≡ xs → Reads old after (λ reads. SourcesRead (wanted xs) reads (Ok sources)) → HasAll (held sources) (paths_of_actions makers ys)
all_there old after makers xs ys sources same one l =
    let there : HasAll (held sources) (paths_of_actions (maker_of xs) xs) = each_has_file [] (paths_of_actions (maker_of xs) xs) (held sources) l.3.in_order in
    subst (λ (m : Makers). HasAll (held sources) (paths_of_actions m ys)) (sym same) (subst (λ (zs : List ListAction). HasAll (held sources) (paths_of_actions (maker_of xs) zs)) (sym one) there)

lost_work : (xs : List ListAction) (reads : List FloorRead) (f : RunFault) → OnLost f (FirstLost (wanted xs) reads) → WorkRead xs reads (Err f)
lost_work xs reads (fault.Absent at) h = h
lost_work xs reads (fault.FloorFailed at) h = h
lost_work xs reads (fault.NoMemory when) h = absurd h
lost_work xs reads fault.SinkFailed h = absurd h
lost_work xs reads fault.Words h = absurd h
lost_work xs reads (fault.List y) h = absurd h
lost_work xs reads (fault.Flags a y) h = absurd h

pub work_lost : (old after : FloorTold) (xs : List ListAction) (f : RunFault) → UnlessBefore (Some f) (Reads old after (λ reads. SourcesRead (wanted xs) reads (Err f))) → UnlessBefore (Some f) (Reads old after (λ reads. WorkRead xs reads (Err f)))
work_lost old after xs f = unless_reads_weaker (Some f) old after (λ reads. SourcesRead (wanted xs) reads (Err f)) (λ reads. WorkRead xs reads (Err f)) (λ reads. lost_work xs reads f)

work_made : (old after : FloorTold) (xs : List ListAction) (sources : Sources) (result : Result Work RunFault) → Reads old after (λ reads. SourcesRead (wanted xs) reads (Ok sources)) → Works (map (due_work (maker_of xs) (held sources)) xs) result → Leads old after result (WorkRead xs)
work_made old after xs sources (Ok work) l w = reads_weaker old after (λ reads. SourcesRead (wanted xs) reads (Ok sources)) (λ reads. WorkRead xs reads (Ok work)) (λ reads h. (held sources, h, w)) l
work_made old after xs sources (Err (fault.Flags a y)) l w = reads_weaker old after (λ reads. SourcesRead (wanted xs) reads (Ok sources)) (λ reads. WorkRead xs reads (Err (fault.Flags a y))) (λ reads h. (held sources, h, w)) l
work_made old after xs sources (Err (fault.NoMemory when)) l w = w
work_made old after xs sources (Err (fault.Absent at)) l w = absurd w
work_made old after xs sources (Err (fault.FloorFailed at)) l w = absurd w
work_made old after xs sources (Err fault.SinkFailed) l w = absurd w
work_made old after xs sources (Err fault.Words) l w = absurd w
work_made old after xs sources (Err (fault.List y)) l w = absurd w

pub work_ends : (old after : FloorTold) (makers : Makers) (xs ys : List ListAction) (sources : Sources) (result : Result Work RunFault) → makers ≡ maker_of xs → ys ≡ xs → Reads old after (λ reads. SourcesRead (wanted xs) reads (Ok sources))
    → Works (map (due_work makers (held sources)) ys) result → Leads old after result (WorkRead xs)
work_ends old after makers xs ys sources result same one l w =
    work_made old after xs sources result l
    (subst (λ (m : Makers). Works (map (due_work m (held sources)) xs) result) same (subst (λ (zs : List ListAction). Works (map (due_work makers (held sources)) zs) result) one w))

pub works_stop_with : (makers : Makers) (files : List SourceFile) (xs : List ListAction) (i number : ℕ) (x : ListAction) (inputs : List WorkInput) (done : List WorkAction) (f : RunFault) → i < length xs → x ≡ get_or xs i x → number ≡ i
    → map (due_work makers files) (take i xs) ≡ map (λ w. Ok w) done → inputs ≡ work_inputs makers files x → Gives number (work_by x inputs) (Err f) → Works (map (due_work makers files) xs) (Err f)
works_stop_with makers files xs i number x inputs done f below is counted so_far made h =
    works_stop makers files xs i number x done f below is counted so_far (subst (λ (l : List WorkInput). Gives number (work_by x l) (Err f)) made h)
