-- What the reads lead to, step by step.
use Rattle.std.proofs.Common.{◌≡◌, ℕ, ◌<◌, ◌≤◌, ◌+◌, List, [], ◌∷◌, ◌++◌, length, take, drop, get_or, flat_map, filter, Bool, true, false, cond, Option, Some, None, Result, Ok, Err, refl, ap, sym, subst, append-nil, is_none, ◌∙◌}
use Rattle.std.proofs.lemmas.List.{take_more, take_all, take-append-drop}
use Rattle.std.proofs.lemmas.List.Concat.{flat_map-append}
use Rattle.std.proofs.lemmas.List.Elements.{filter-append}
use Rattle.run_plan.specs.declared.plan.Maker.{Maker}
use Rattle.action_list.specs.Lists.{list_of}
use Rattle.list_actions.specs.declared.faults.ListFault.{ListFault}
use Rattle.list_actions.specs.declared.types.ActionList.{ActionList}
use Rattle.outside.specs.Told.{FloorTold, SameFloor}
use Rattle.outside.specs.Floor.{file_at}
use Rattle.outside.specs.declared.answers.Read.{Read}
use Rattle.outside.specs.declared.answers.Read.TheVariants as read
use Rattle.outside.specs.declared.floor.FloorRead.{FloorRead}
use Rattle.outside.specs.declared.floor.SourceFile.{SourceFile}
use Rattle.build_report.specs.declared.fault.RunFault.{RunFault}
use Rattle.run_loading.specs.Course.{BytesRead, AfterList, ListFirst, IsList}
use Rattle.run_loading.specs.Reads.{Reads, UnlessBefore, OneLost, OneRead}
use Rattle.run_loading.specs.Sources.{ReadsOn, NewFound, NewLost, SourcesRead, held}
use Rattle.run_loading.specs.Wanted.{source_file, each_once, is_source, FirstLost, Makers}
use Rattle.run_loading.specs.declared.sources.Sources.{Sources}
use Rattle.run_loading.proofs.Found.{found_one, found_before, lost_one, found_none, found_on, lost_on, lost_wider, all_found, first_lost}
use Rattle.run_loading.proofs.Logged.{reads_none, reads_weaker, reads_on, unless_reads_weaker, unless_reads_on, lost_weaker}

-- ---- the list

bytes_go : {T : Type 0} (Then : ActionList → List FloorRead → Result T RunFault → Type 0) (r : Result ActionList ListFault) (list : ActionList) (first second : List FloorRead) (result : Result T RunFault)
    → BytesRead IsList r first (Ok list) → Then list second result → BytesRead Then r (first ++ second) result
bytes_go Then (Err f) list first second result h then = absurd (let e = h.1 in cc)
bytes_go {T = T} Then (Ok found) list first second result h then =
    let same : list ≡ found = let e = h.1 in cc in
    subst (λ (reads : List FloorRead). Then found (reads ++ second) result) (sym h.0) (subst (λ (l : ActionList). Then l second result) same then)

after_go : {T : Type 0} (Then : ActionList → List FloorRead → Result T RunFault → Type 0) (keys : ℕ) (path : List ℕ) (answer : Read) (list : ActionList) (first second : List FloorRead) (result : Result T RunFault)
    → AfterList IsList keys path answer first (Ok list) → Then list second result → AfterList Then keys path answer (first ++ second) result
after_go Then keys path read.Absent list first second result h then = absurd (let e = h.1 in cc)
after_go Then keys path read.Failed list first second result h then = absurd (let e = h.1 in cc)
after_go Then keys path (read.Found bytes) list first second result h then = bytes_go Then (list_of keys bytes) list first second result h then

-- the list was read, and what follows leads on from it
pub list_goes : {T : Type 0} (Then : ActionList → List FloorRead → Result T RunFault → Type 0) (keys : ℕ) (path : List ℕ) (list : ActionList) (first second : List FloorRead) (result : Result T RunFault)
    → ListFirst IsList keys path first (Ok list) → Then list second result → ListFirst Then keys path (first ++ second) result
list_goes Then keys path list [] second result h then = absurd h
list_goes Then keys path list (r ∷ rest) second result h then = (h.0, after_go Then keys path r.answer list rest second result h.1 then)

bytes_end : {T : Type 0} (Then : ActionList → List FloorRead → Result T RunFault → Type 0) (r : Result ActionList ListFault) (reads : List FloorRead) (f : RunFault) → BytesRead IsList r reads (Err f) → BytesRead Then r reads (Err f)
bytes_end Then (Err x) reads f h = (h.0, let e = h.1 in cc)
bytes_end Then (Ok found) reads f h = absurd (let e = h.1 in cc)

after_end : {T : Type 0} (Then : ActionList → List FloorRead → Result T RunFault → Type 0) (keys : ℕ) (path : List ℕ) (answer : Read) (reads : List FloorRead) (f : RunFault) → AfterList IsList keys path answer reads (Err f) → AfterList Then keys path answer reads (Err f)
after_end Then keys path read.Absent reads f h = (h.0, let e = h.1 in cc)
after_end Then keys path read.Failed reads f h = (h.0, let e = h.1 in cc)
after_end Then keys path (read.Found bytes) reads f h = bytes_end Then (list_of keys bytes) reads f h

-- the reading of the list ended all
pub list_ends : {T : Type 0} (Then : ActionList → List FloorRead → Result T RunFault → Type 0) (keys : ℕ) (path : List ℕ) (reads : List FloorRead) (f : RunFault) → ListFirst IsList keys path reads (Err f) → ListFirst Then keys path reads (Err f)
list_ends Then keys path [] f h = absurd h
list_ends Then keys path (r ∷ rest) f h = (h.0, after_end Then keys path r.answer rest f h.1)

-- the same of what the floor logs

pub list_stops : {T : Type 0} (Then : ActionList → List FloorRead → Result T RunFault → Type 0) (old after : FloorTold) (keys : ℕ) (path : List ℕ) (f : RunFault)
    → UnlessBefore (Some f) (Reads old after (λ reads. ListFirst IsList keys path reads (Err f))) → UnlessBefore (Some f) (Reads old after (λ reads. ListFirst Then keys path reads (Err f)))
list_stops Then old after keys path f = unless_reads_weaker (Some f) old after (λ reads. ListFirst IsList keys path reads (Err f)) (λ reads. ListFirst Then keys path reads (Err f)) (λ reads. list_ends Then keys path reads f)

pub list_leads : {T : Type 0} (Then : ActionList → List FloorRead → Result T RunFault → Type 0) (end : Option RunFault) (old mid after : FloorTold) (keys : ℕ) (path : List ℕ) (list : ActionList) (result : Result T RunFault) → SameFloor old mid
    → Reads old mid (λ reads. ListFirst IsList keys path reads (Ok list)) → UnlessBefore end (Reads mid after (λ reads. Then list reads result)) → UnlessBefore end (Reads old after (λ reads. ListFirst Then keys path reads result))
list_leads Then end old mid after keys path list result same =
    unless_reads_on end old mid after (λ reads. ListFirst IsList keys path reads (Ok list)) (λ reads. Then list reads result) (λ reads. ListFirst Then keys path reads result) same
    (λ first second. list_goes Then keys path list first second result)

-- ---- one path

pub new_before : (before : List SourceFile) (path bytes : List ℕ) (told : FloorTold) → Some bytes ≡ file_at before path → Reads told told (λ reads. ReadsOn before (path ∷ []) before reads (Ok tt))
new_before before path bytes told is = reads_none told (λ reads. ReadsOn before (path ∷ []) before reads (Ok tt)) (found_before before path bytes (sym is))

pub new_found : (old after : FloorTold) (before files : List SourceFile) (path bytes : List ℕ) → None ≡ file_at before path → files ≡ before ++ source_file path bytes ∷ []
    → Reads old after (λ reads. OneRead path reads (Ok bytes)) → Reads old after (λ reads. ReadsOn before (path ∷ []) files reads (Ok tt))
new_found old after before files path bytes none is =
    reads_weaker old after (λ reads. OneRead path reads (Ok bytes)) (λ reads. ReadsOn before (path ∷ []) files reads (Ok tt))
    (λ reads one. subst (λ (r : List FloorRead). NewFound before (path ∷ []) files r) (sym one) (found_one before path bytes files (sym none) is))

pub new_lost : (old after : FloorTold) (before files : List SourceFile) (path : List ℕ) (f : RunFault) → None ≡ file_at before path
    → UnlessBefore (Some f) (Reads old after (λ reads. OneRead path reads (Err f))) → UnlessBefore (Some f) (Reads old after (λ reads. ReadsOn before (path ∷ []) files reads (Err f)))
new_lost old after before files path f none =
    unless_reads_weaker (Some f) old after (λ reads. OneRead path reads (Err f)) (λ reads. ReadsOn before (path ∷ []) files reads (Err f))
    (λ reads. lost_weaker f (OneLost path reads) (NewLost before (path ∷ []) reads)
    (λ at answer one. subst (λ (p : List ℕ). NewLost before (path ∷ []) reads p answer) (sym one.0) (subst (λ (r : List FloorRead). NewLost before (path ∷ []) r path answer) (sym one.1) (lost_one before path answer (sym none)))))

-- ---- several paths: what each of some elements wants

-- some were found, and then one of the next wasn't
lost_behind : (before mid after : List SourceFile) (ps qs more : List (List ℕ)) (first second : List FloorRead) (f : RunFault) → NewFound before ps mid first → ReadsOn mid qs after second (Err f) → ReadsOn before ((ps ++ qs) ++ more) after (first ++ second) (Err f)
lost_behind before mid after ps qs more first second f found =
    lost_weaker f (NewLost mid qs second) (NewLost before ((ps ++ qs) ++ more) (first ++ second))
    (λ at answer lost. lost_wider before (ps ++ qs) more (first ++ second) at answer (lost_on before mid ps qs first second at answer found lost))

one_wants : {X : Type 0} (want : X → List (List ℕ)) (x : X) → flat_map want (x ∷ []) ≡ want x
one_wants want x = append-nil (want x)

-- what the elements up to this one want
pub up_to : {X : Type 0} (want : X → List (List ℕ)) (xs : List X) (i : ℕ) (x : X) → i < length xs → x ≡ get_or xs i x → flat_map want (take (i + 1) xs) ≡ flat_map want (take i xs) ++ want x
up_to {X = X} want xs i x below is =
    ap (flat_map want) (take_more xs i x below ∙ ap (λ (y : X). take i xs ++ y ∷ []) (sym is))
    ∙ flat_map-append want (take i xs) (x ∷ []) ∙ ap (λ ps. flat_map want (take i xs) ++ ps) (one_wants want x)

-- and the rest
with_rest : {X : Type 0} (want : X → List (List ℕ)) (xs : List X) (i : ℕ) (x : X) → i < length xs → x ≡ get_or xs i x
    → (flat_map want (take i xs) ++ want x) ++ flat_map want (drop (i + 1) xs) ≡ flat_map want xs
with_rest want xs i x below is =
    ap (λ ps. ps ++ flat_map want (drop (i + 1) xs)) (sym (up_to want xs i x below is))
    ∙ sym (flat_map-append want (take (i + 1) xs) (drop (i + 1) xs)) ∙ ap (flat_map want) (take-append-drop (i + 1) xs)

pub reads_go : {X : Type 0} (want : X → List (List ℕ)) (start old new : FloorTold) (before mid after : List SourceFile) (xs : List X) (i : ℕ) (x : X) → SameFloor start old → i < length xs → x ≡ get_or xs i x
    → Reads start old (NewFound before (flat_map want (take i xs)) mid) → Reads old new (λ reads. ReadsOn mid (want x) after reads (Ok tt)) → Reads start new (NewFound before (flat_map want (take (i + 1) xs)) after)
reads_go want start old new before mid after xs i x same below is =
    reads_on start old new (NewFound before (flat_map want (take i xs)) mid) (λ reads. ReadsOn mid (want x) after reads (Ok tt)) (NewFound before (flat_map want (take (i + 1) xs)) after) same
    (λ first second h k. subst (λ (ps : List (List ℕ)). NewFound before ps after (first ++ second)) (sym (up_to want xs i x below is)) (found_on before mid after (flat_map want (take i xs)) (want x) first second h k))

pub reads_stop : {X : Type 0} (want : X → List (List ℕ)) (start old new : FloorTold) (before mid after : List SourceFile) (xs : List X) (i : ℕ) (x : X) (f : RunFault) (all : List (List ℕ)) → flat_map want xs ≡ all → SameFloor start old → i < length xs → x ≡ get_or xs i x
    → Reads start old (NewFound before (flat_map want (take i xs)) mid) → UnlessBefore (Some f) (Reads old new (λ reads. ReadsOn mid (want x) after reads (Err f)))
    → UnlessBefore (Some f) (Reads start new (λ reads. ReadsOn before all after reads (Err f)))
reads_stop want start old new before mid after xs i x f all whole same below is =
    unless_reads_on (Some f) start old new (NewFound before (flat_map want (take i xs)) mid) (λ reads. ReadsOn mid (want x) after reads (Err f)) (λ reads. ReadsOn before all after reads (Err f)) same
    (λ first second h k. subst (λ (ps : List (List ℕ)). ReadsOn before ps after (first ++ second) (Err f)) (with_rest want xs i x below is ∙ whole)
    (lost_behind before mid after (flat_map want (take i xs)) (want x) (flat_map want (drop (i + 1) xs)) first second f h k))

pub reads_start : {X : Type 0} (want : X → List (List ℕ)) (told : FloorTold) (before : List SourceFile) (xs : List X) → Reads told told (NewFound before (flat_map want (take 0 xs)) before)
reads_start want told before xs = reads_none told (NewFound before (flat_map want (take 0 xs)) before) (found_none before)

pub reads_end : {X : Type 0} (want : X → List (List ℕ)) (start new : FloorTold) (before after : List SourceFile) (xs : List X) (i : ℕ) (all : List (List ℕ)) → flat_map want xs ≡ all → length xs ≤ i
    → Reads start new (NewFound before (flat_map want (take i xs)) after) → Reads start new (λ reads. ReadsOn before all after reads (Ok tt))
reads_end want start new before after xs i all whole past = subst (λ (ps : List (List ℕ)). Reads start new (NewFound before ps after)) (ap (flat_map want) (take_all i xs past) ∙ whole)

-- ---- paths one by one

pub at_text : (paths : List (List ℕ)) (i : ℕ) (item text : List ℕ) → item ≡ get_or paths i item → text ≡ item → text ≡ get_or paths i text
at_text paths i item text is same = subst (λ (p : List ℕ). p ≡ get_or paths i p) (sym same) is

pub singles : (paths : List (List ℕ)) → flat_map (λ (p : List ℕ). p ∷ []) paths ≡ paths
singles [] = refl
singles (p ∷ paths) = ap (λ (ps : List (List ℕ)). p ∷ ps) (singles paths)

pub kept_each : (q : List ℕ → Bool) (paths : List (List ℕ)) → flat_map (λ (p : List ℕ). filter q (p ∷ [])) paths ≡ filter q paths
kept_each q [] = refl
kept_each q (p ∷ paths) = ap (λ (ps : List (List ℕ)). filter q (p ∷ []) ++ ps) (kept_each q paths) ∙ sym (filter-append q (p ∷ []) paths)

-- an action makes the input
pub input_made : (makers : Makers) (told : FloorTold) (before : List SourceFile) (path : List ℕ) (m : Maker) → Some m ≡ makers path → Reads told told (λ reads. ReadsOn before (filter (is_source makers) (path ∷ [])) before reads (Ok tt))
input_made makers told before path m is =
    let made : is_source makers path ≡ false = ap is_none (sym is) in
    subst (λ (b : Bool). Reads told told (λ reads. ReadsOn before (cond b (path ∷ []) []) before reads (Ok tt))) (sym made) (reads_none told (NewFound before [] before) (found_none before))

-- none does
pub input_read : (makers : Makers) (end : Option RunFault) (old new : FloorTold) (before after : List SourceFile) (path : List ℕ) (result : Result (Unit {0}) RunFault) → None ≡ makers path
    → UnlessBefore end (Reads old new (λ reads. ReadsOn before (path ∷ []) after reads result)) → UnlessBefore end (Reads old new (λ reads. ReadsOn before (filter (is_source makers) (path ∷ [])) after reads result))
input_read makers end old new before after path result is =
    let source : is_source makers path ≡ true = ap is_none (sym is) in
    subst (λ (b : Bool). UnlessBefore end (Reads old new (λ reads. ReadsOn before (cond b (path ∷ []) []) after reads result))) (sym source)

-- ---- tools and then inputs

pub tools_lost : (old after : FloorTold) (before files : List SourceFile) (tools inputs : List (List ℕ)) (f : RunFault)
    → UnlessBefore (Some f) (Reads old after (λ reads. ReadsOn before tools files reads (Err f))) → UnlessBefore (Some f) (Reads old after (λ reads. ReadsOn before (tools ++ inputs) files reads (Err f)))
tools_lost old after before files tools inputs f =
    unless_reads_weaker (Some f) old after (λ reads. ReadsOn before tools files reads (Err f)) (λ reads. ReadsOn before (tools ++ inputs) files reads (Err f))
    (λ reads. lost_weaker f (NewLost before tools reads) (NewLost before (tools ++ inputs) reads) (λ at answer. lost_wider before tools inputs reads at answer))

inputs_on : (before mid after : List SourceFile) (tools inputs : List (List ℕ)) (first second : List FloorRead) (result : Result (Unit {0}) RunFault) → NewFound before tools mid first → ReadsOn mid inputs after second result → ReadsOn before (tools ++ inputs) after (first ++ second) result
inputs_on before mid after tools inputs first second (Ok tt) found k = found_on before mid after tools inputs first second found k
inputs_on before mid after tools inputs first second (Err f) found k =
    lost_weaker f (NewLost mid inputs second) (NewLost before (tools ++ inputs) (first ++ second)) (λ at answer. lost_on before mid tools inputs first second at answer found) k

pub inputs_follow : (end : Option RunFault) (start old new : FloorTold) (before mid after : List SourceFile) (tools inputs : List (List ℕ)) (result : Result (Unit {0}) RunFault) → SameFloor start old
    → Reads start old (λ reads. ReadsOn before tools mid reads (Ok tt)) → UnlessBefore end (Reads old new (λ reads. ReadsOn mid inputs after reads result))
    → UnlessBefore end (Reads start new (λ reads. ReadsOn before (tools ++ inputs) after reads result))
inputs_follow end start old new before mid after tools inputs result same =
    unless_reads_on end start old new (λ reads. ReadsOn before tools mid reads (Ok tt)) (λ reads. ReadsOn mid inputs after reads result) (λ reads. ReadsOn before (tools ++ inputs) after reads result) same
    (λ first second. inputs_on before mid after tools inputs first second result)

-- ---- from nothing on

pub sources_found : (old after : FloorTold) (paths all : List (List ℕ)) (sources : Sources) → paths ≡ all → Reads old after (λ reads. ReadsOn [] paths (held sources) reads (Ok tt)) → Reads old after (λ reads. SourcesRead (each_once all) reads (Ok sources))
sources_found old after paths all sources same =
    reads_weaker old after (λ reads. ReadsOn [] paths (held sources) reads (Ok tt)) (λ reads. SourcesRead (each_once all) reads (Ok sources))
    (λ reads h. subst (λ (ps : List (List ℕ)). SourcesRead (each_once ps) reads (Ok sources)) same (all_found paths (held sources) reads h))

pub sources_lost : (old after : FloorTold) (paths all : List (List ℕ)) (files : List SourceFile) (f : RunFault) → paths ≡ all → UnlessBefore (Some f) (Reads old after (λ reads. ReadsOn [] paths files reads (Err f)))
    → UnlessBefore (Some f) (Reads old after (λ reads. SourcesRead (each_once all) reads (Err f)))
sources_lost old after paths all files f same =
    unless_reads_weaker (Some f) old after (λ reads. ReadsOn [] paths files reads (Err f)) (λ reads. SourcesRead (each_once all) reads (Err f))
    (λ reads. lost_weaker f (NewLost [] paths reads) (FirstLost (each_once all) reads)
    (λ at answer h. subst (λ (ps : List (List ℕ)). FirstLost (each_once ps) reads at answer) same (first_lost paths reads at answer h)))
