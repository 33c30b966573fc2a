-- The same for each speech.
use Rattle.std.proofs.Common.{◌≡◌, ℕ, List, [], ◌∷◌, ◌++◌, map, reverse, Option, Some, None, refl, ap, sym, subst, ◌∙◌}
use Rattle.std.proofs.lemmas.List.{append-nil, reverse-append}
use Rattle.std.proofs.lemmas.Grind.{reverse_onto}
use Rattle.wire_fields.specs.Varint.{number_at, varint_at}
use Rattle.delimited_framing.specs.declared.frame.FrameFault.{FrameFault}
use Rattle.delimited_framing.specs.declared.frame.Next.{Next}
use Rattle.delimited_framing.specs.declared.frame.Next.TheVariants as next
use Rattle.delimited_framing.specs.Front.{Form, Whole, Unfinished}
use Rattle.delimited_framing.specs.Frame.{delimited_form, frame_at, Holds}
use Rattle.delimited_framing.specs.Splitter.{Held, StandsFor, Gives, fed_more}
use Rattle.delimited_framing.proofs.Streams.{Holds-more}
use Rattle.json_framing.specs.Cutter.{form_of, framing_of, held}
use Rattle.json_framing.specs.Lines.{line_form, line_at}
use Rattle.json_framing.specs.declared.cutter.Framing.{Framing}
use Rattle.json_framing.proofs.Streams.{Holds-more as lines_more}
use Rattle.json_framing.proofs.Laws.{last_line}
use Rattle.exec_journal.specs.declared.call.Answer.{Answer}
use Rattle.run_plan.specs.declared.plan.Speech.{Speech}
use Rattle.run_plan.specs.declared.plan.Speech.TheVariants as speech
use Rattle.wire_messages.specs.Response.{SpellsResponse}
use Rattle.answer_reader.specs.declared.reader.AnswerReader.{AnswerReader}
use Rattle.answer_reader.specs.declared.reader.Spoken.{Spoken}
use Rattle.answer_reader.specs.declared.reader.Spoken.TheVariants as spoken
use Rattle.remote_messages.specs.JobResult.{SpellsJobResult}
use Rattle.remote_messages.specs.declared.job_result.JobResult.{JobResult}
use Rattle.remote_branch.specs.Parts.{answer_at, and_more, joined, StandsFor as IsLeftBy}
use Rattle.remote_branch.specs.declared.parts.Waiting.{Waiting}
use Rattle.answer_reader.specs.Answers.{of_response, SpellsLine, results_say, ReadsPart}
use Rattle.wire_fields.specs.Message.{largest}
use Rattle.answer_reader.specs.Reading.{Reads}
use Rattle.answer_reader.specs.Says.{framing_for, Heard, HeardResults, SaysFirst, SaysAll, SaysBadly, HearsAs, Hears, SaysNext, ReadsAs, ReadsPartAs}
use Rattle.answer_reader.proofs.Streams.{IsCut, heard_new, whole_new, heard_piece, heard_first, first_more, heard_all, heard_fault, heard_frame, heard_none, after_frame}

-- ---- the two forms

nothing_delimited : frame_at largest [] ≡ Unfinished
unfolding frame_at varint_at number_at
nothing_delimited = refl

last_frame : (stream : List ℕ) (frames : List (List ℕ)) (frame rest : List ℕ) → Holds largest stream (frames ++ frame ∷ []) rest → (mid : List ℕ) × (after : List ℕ) × Holds largest stream frames mid × (frame_at largest mid ≡ Whole frame after)
last_frame stream [] frame rest h = (stream, h.0, refl, h.1)
last_frame stream (f ∷ fs) frame rest h = let l = last_frame h.0 fs frame rest h.2 in (l.0, l.1, (h.0, h.1, l.2), l.3)

frames_cut : IsCut delimited_form
frames_cut = record { nothing = refl; unfinished = nothing_delimited; more = Holds-more largest; last = last_frame }

nothing_lined : line_at largest [] ≡ Unfinished
unfolding line_at
nothing_lined = refl

lines_cut : IsCut line_form
lines_cut = record { nothing = ([], refl, refl); unfinished = nothing_lined; more = lines_more largest; last = last_line largest }

-- ---- a new reader

new_as : (s : Speech) (h : Held) (waiting : List Waiting) → IsLeftBy waiting [] → StandsFor (form_of (framing_for s)) [] [] h → h.limit ≡ largest → h.fault ≡ None → HearsAs s [] [] h waiting
new_as speech.Proto h waiting none st l f = heard_new delimited_form frames_cut SpellsResponse (map of_response) h refl st l f
new_as speech.Json h waiting none st l f = heard_new line_form lines_cut SpellsLine (map of_response) h refl st l f
new_as speech.Remote h waiting none st l f = record { heard = heard_new delimited_form frames_cut SpellsJobResult results_say h refl st l f; left = none }

pub hears_new : (s : Speech) (f : Framing) (r : AnswerReader) → IsLeftBy r.parts [] → r.speech ≡ s → framing_of r.cutter ≡ f → f ≡ framing_for s → StandsFor (form_of f) [] [] (held r.cutter) → (held r.cutter).limit ≡ largest → (held r.cutter).fault ≡ None → Hears s [] [] r
unfolding Hears
hears_new s f r left same here framed st l none = (same, here ∙ framed, new_as s (held r.cutter) r.parts left (subst (λ (x : Framing). StandsFor (form_of x) [] [] (held r.cutter)) framed st) l none)

pub says_new : (s : Speech) → SaysAll s [] []
unfolding SaysAll
says_new speech.Proto = whole_new delimited_form frames_cut SpellsResponse (map of_response) refl
says_new speech.Json = whole_new line_form lines_cut SpellsLine (map of_response) refl
says_new speech.Remote = whole_new delimited_form frames_cut SpellsJobResult results_say refl

-- ---- a piece

abbrev pub Fed : Framing → Held → List ℕ → Held → Type 0
Fed f h piece h' = (fed : List ℕ) (given : List (List ℕ)) → StandsFor (form_of f) fed given h → StandsFor (form_of f) (fed_more h.fault fed piece) given h'

piece_as : (s : Speech) (fed piece : List ℕ) (answers : List Answer) (h h' : Held) (waiting : List Waiting) → Fed (framing_for s) h piece h' → h'.limit ≡ h.limit → h'.fault ≡ h.fault → HearsAs s fed answers h waiting → HearsAs s (fed ++ piece) answers h' waiting
piece_as speech.Proto fed piece answers h h' waiting step l f x = heard_piece delimited_form frames_cut SpellsResponse (map of_response) fed piece answers h h' step l f x
piece_as speech.Json fed piece answers h h' waiting step l f x = heard_piece line_form lines_cut SpellsLine (map of_response) fed piece answers h h' step l f x
piece_as speech.Remote fed piece answers h h' waiting step l f x = record { heard = heard_piece delimited_form frames_cut SpellsJobResult results_say fed piece answers h h' step l f x.heard; left = x.left }

pub hears_piece : (s : Speech) (fed piece : List ℕ) (answers : List Answer) (r r' : AnswerReader) → r'.speech ≡ r.speech → r'.parts ≡ r.parts → Fed (framing_of r.cutter) (held r.cutter) piece (held r'.cutter)
    → framing_of r'.cutter ≡ framing_of r.cutter → (held r'.cutter).limit ≡ (held r.cutter).limit → (held r'.cutter).fault ≡ (held r.cutter).fault → Hears s fed answers r → Hears s (fed ++ piece) answers r'
unfolding Hears
hears_piece s fed piece answers r r' same stays step framed l f x =
    let heard = piece_as s fed piece answers (held r.cutter) (held r'.cutter) r.parts (subst (λ (y : Framing). Fed y (held r.cutter) piece (held r'.cutter)) x.1 step) l f x.2 in
    (same ∙ x.0, framed ∙ x.1, subst (λ (p : List Waiting). HearsAs s (fed ++ piece) answers (held r'.cutter) p) (sym stays) heard)

pub says_first : (s : Speech) (fed : List ℕ) (answers : List Answer) (r : AnswerReader) → Hears s fed answers r → SaysFirst s fed answers
unfolding Hears SaysFirst
says_first speech.Proto fed answers r x = heard_first delimited_form frames_cut SpellsResponse (map of_response) fed answers (held r.cutter) x.2
says_first speech.Json fed answers r x = heard_first line_form lines_cut SpellsLine (map of_response) fed answers (held r.cutter) x.2
says_first speech.Remote fed answers r x = heard_first delimited_form frames_cut SpellsJobResult results_say fed answers (held r.cutter) x.2.heard

pub says_first_more : (s : Speech) (fed more : List ℕ) (answers : List Answer) → SaysFirst s fed answers → SaysFirst s (fed ++ more) answers
unfolding SaysFirst
says_first_more speech.Proto fed more answers x = first_more delimited_form frames_cut SpellsResponse (map of_response) fed more answers x
says_first_more speech.Json fed more answers x = first_more line_form lines_cut SpellsLine (map of_response) fed more answers x
says_first_more speech.Remote fed more answers x = first_more delimited_form frames_cut SpellsJobResult results_say fed more answers x

-- ---- what comes next

-- what the cutter gave, whatever it was fed
abbrev pub Gave : Framing → Held → Next → Held → Type 0
Gave f h n h' = (fed : List ℕ) (given : List (List ℕ)) → StandsFor (form_of f) fed given h → Gives (form_of f) fed given h n h'

all_as : (s : Speech) (fed : List ℕ) (answers : List Answer) (h h' : Held) (waiting : List Waiting) → Gave (framing_for s) h next.NotYet h' → HearsAs s fed answers h waiting → HearsAs s fed answers h' waiting × SaysAll s fed answers
unfolding SaysAll
all_as speech.Proto fed answers h h' waiting gave x = let n = gave fed x.frames x.stands in heard_all delimited_form frames_cut SpellsResponse (map of_response) fed answers h h' x n.0 n.1 n.2 n.3
all_as speech.Json fed answers h h' waiting gave x = let n = gave fed x.frames x.stands in heard_all line_form lines_cut SpellsLine (map of_response) fed answers h h' x n.0 n.1 n.2 n.3
all_as speech.Remote fed answers h h' waiting gave x =
    let n = gave fed x.heard.frames x.heard.stands in
    let a = heard_all delimited_form frames_cut SpellsJobResult results_say fed answers h h' x.heard n.0 n.1 n.2 n.3 in
    (record { heard = a.0; left = x.left }, a.1)

pub not_yet : (s : Speech) (fed : List ℕ) (answers : List Answer) (r r' : AnswerReader) → r'.speech ≡ r.speech → r'.parts ≡ r.parts → framing_of r'.cutter ≡ framing_of r.cutter → Gave (framing_of r.cutter) (held r.cutter) next.NotYet (held r'.cutter) → Hears s fed answers r → SaysNext s fed answers spoken.NotYet r r'
unfolding Hears
not_yet s fed answers r r' same stays framed gave x =
    let a = all_as s fed answers (held r.cutter) (held r'.cutter) r.parts (subst (λ (y : Framing). Gave y (held r.cutter) next.NotYet (held r'.cutter)) x.1 gave) x.2 in
    ((same ∙ x.0, framed ∙ x.1, subst (λ (p : List Waiting). HearsAs s fed answers (held r'.cutter) p) (sym stays) a.0), a.1)

bad_as : (s : Speech) (fed : List ℕ) (answers : List Answer) (h h' : Held) (waiting : List Waiting) (fault : FrameFault) → Gave (framing_for s) h (next.Bad fault) h' → HearsAs s fed answers h waiting → SaysBadly s fed answers
unfolding SaysBadly
bad_as speech.Proto fed answers h h' waiting fault gave x = heard_fault delimited_form frames_cut SpellsResponse (map of_response) fed answers h fault x (gave fed x.frames x.stands).3
bad_as speech.Json fed answers h h' waiting fault gave x = heard_fault line_form lines_cut SpellsLine (map of_response) fed answers h fault x (gave fed x.frames x.stands).3
bad_as speech.Remote fed answers h h' waiting fault gave x = heard_fault delimited_form frames_cut SpellsJobResult results_say fed answers h fault x.heard (gave fed x.heard.frames x.heard.stands).3

pub faulty : (s : Speech) (fed : List ℕ) (answers : List Answer) (r r' : AnswerReader) (fault : FrameFault) → Gave (framing_of r.cutter) (held r.cutter) (next.Bad fault) (held r'.cutter) → Hears s fed answers r → SaysNext s fed answers spoken.Bad r r'
unfolding Hears
faulty s fed answers r r' fault gave x = bad_as s fed answers (held r.cutter) (held r'.cutter) r.parts fault (subst (λ (y : Framing). Gave y (held r.cutter) (next.Bad fault) (held r'.cutter)) x.1 gave) x.2

-- ---- a frame

abbrev pub Framed : Framing → Held → List ℕ → Held → Type 0
Framed f h frame h' = (fed : List ℕ) (given : List (List ℕ)) → StandsFor (form_of f) fed given h → StandsFor (form_of f) fed (given ++ frame ∷ []) h' × (h'.limit ≡ h.limit) × (h'.fault ≡ h.fault)

abbrev After : Speech → List ℕ → List Answer → Held → Held → List Waiting → Spoken → Type 0
After s fed answers old h waiting (spoken.Answer a) = HearsAs s fed (answers ++ a ∷ []) h waiting
After s fed answers old h waiting spoken.More = HearsAs s fed answers h waiting × ReadsPartAs s fed old h
After s fed answers old h waiting spoken.NotYet = HearsAs s fed answers h waiting × SaysAll s fed answers
After s fed answers old h waiting spoken.Bad = SaysBadly s fed answers

-- ---- one result more

reverse_push : {A : Type 0} (xs : List A) (x : A) → reverse (xs ++ x ∷ []) ≡ x ∷ reverse xs
reverse_push xs x = reverse-append xs (x ∷ [])

one_answer : (rs : List JobResult) (r : JobResult) (x : Answer) → answer_at r (reverse rs) ≡ Some x → results_say (rs ++ r ∷ []) ≡ results_say rs ++ x ∷ []
one_answer rs r x e =
    ap (λ (ms : List JobResult). reverse (joined ms)) (reverse_push rs r)
    ∙ ap (λ (o : Option Answer). reverse (and_more o (joined (reverse rs)))) e
    ∙ reverse_onto (joined (reverse rs)) x []

no_answer : (rs : List JobResult) (r : JobResult) → answer_at r (reverse rs) ≡ None → results_say (rs ++ r ∷ []) ≡ results_say rs ++ []
no_answer rs r e =
    ap (λ (ms : List JobResult). reverse (joined ms)) (reverse_push rs r)
    ∙ ap (λ (o : Option Answer). reverse (and_more o (joined (reverse rs)))) e
    ∙ sym (append-nil (reverse (joined (reverse rs))))

left_on : (waiting : List Waiting) (rs : List JobResult) (r : JobResult) → IsLeftBy waiting (r ∷ reverse rs) → IsLeftBy waiting (reverse (rs ++ r ∷ []))
left_on waiting rs r left = subst (λ (ms : List JobResult). IsLeftBy waiting ms) (sym (reverse_push rs r)) left

part_as : (fed frame : List ℕ) (answers : List Answer) (h h' : Held) (old new : List Waiting) (out : Spoken) → Framed (framing_for speech.Remote) h frame h' → ReadsAs speech.Remote frame old out new → HeardResults fed answers h old → After speech.Remote fed answers h h' new out
unfolding SaysAll SaysBadly
part_as fed frame answers h h' old new (spoken.Answer a) framed reads x =
    let f = framed fed x.heard.frames x.heard.stands in
    let p = reads (reverse x.heard.messages) x.left in
    record { heard = heard_frame delimited_form frames_cut SpellsJobResult results_say fed frame answers (a ∷ []) h h' p.0 x.heard f.0 f.1 f.2 p.1 (one_answer x.heard.messages p.0 a p.2); left = left_on new x.heard.messages p.0 p.3 }
part_as fed frame answers h h' old new spoken.More framed reads x =
    let f = framed fed x.heard.frames x.heard.stands in
    let p = reads (reverse x.heard.messages) x.left in
    let heard = heard_frame delimited_form frames_cut SpellsJobResult results_say fed frame answers [] h h' p.0 x.heard f.0 f.1 f.2 p.1 (no_answer x.heard.messages p.0 p.2) in (
      subst (λ (as' : List Answer). HeardResults fed as' h' new) (append-nil answers) (record { heard = heard; left = left_on new x.heard.messages p.0 p.3 }),
      record { frames = x.heard.frames; frame = frame; result = p.0; before = x.heard.stands; after = f.0; spelled = p.1 },
    )
part_as fed frame answers h h' old new spoken.Bad framed reads x =
    let f = framed fed x.heard.frames x.heard.stands in
    heard_none delimited_form frames_cut SpellsJobResult results_say fed frame answers h h' x.heard f.0 f.1 (reads (reverse x.heard.messages) x.left)
part_as fed frame answers h h' old new spoken.NotYet framed reads x = absurd (reads (reverse x.heard.messages) x.left)

-- ---- one frame more

after_as : (s : Speech) (fed frame : List ℕ) (answers : List Answer) (h h' : Held) (old new : List Waiting) (out : Spoken) → Framed (framing_for s) h frame h' → ReadsAs s frame old out new → HearsAs s fed answers h old → After s fed answers h h' new out
unfolding SaysAll SaysBadly
after_as speech.Proto fed frame answers h h' old new (spoken.Answer a) framed reads x = let f = framed fed x.frames x.stands in after_frame delimited_form frames_cut SpellsResponse of_response fed frame answers h h' x f.0 f.1 f.2 (spoken.Answer a) reads
after_as speech.Proto fed frame answers h h' old new spoken.Bad framed reads x = let f = framed fed x.frames x.stands in after_frame delimited_form frames_cut SpellsResponse of_response fed frame answers h h' x f.0 f.1 f.2 spoken.Bad reads
after_as speech.Proto fed frame answers h h' old new spoken.More framed reads x = absurd reads
after_as speech.Proto fed frame answers h h' old new spoken.NotYet framed reads x = absurd reads
after_as speech.Json fed frame answers h h' old new (spoken.Answer a) framed reads x = let f = framed fed x.frames x.stands in after_frame line_form lines_cut SpellsLine of_response fed frame answers h h' x f.0 f.1 f.2 (spoken.Answer a) reads
after_as speech.Json fed frame answers h h' old new spoken.Bad framed reads x = let f = framed fed x.frames x.stands in after_frame line_form lines_cut SpellsLine of_response fed frame answers h h' x f.0 f.1 f.2 spoken.Bad reads
after_as speech.Json fed frame answers h h' old new spoken.More framed reads x = absurd reads
after_as speech.Json fed frame answers h h' old new spoken.NotYet framed reads x = absurd reads
after_as speech.Remote fed frame answers h h' old new out framed reads x = part_as fed frame answers h h' old new out framed reads x

says_after : (s : Speech) (fed : List ℕ) (answers : List Answer) (r r' : AnswerReader) (out : Spoken) → r'.speech ≡ s → framing_of r'.cutter ≡ framing_for s → After s fed answers (held r.cutter) (held r'.cutter) r'.parts out
    → SaysNext s fed answers out r r'
unfolding Hears
says_after s fed answers r r' (spoken.Answer a) same framed x = (same, framed, x)
says_after s fed answers r r' spoken.More same framed x = ((same, framed, x.0), x.1)
says_after s fed answers r r' spoken.NotYet same framed x = ((same, framed, x.0), x.1)
says_after s fed answers r r' spoken.Bad same framed x = x

pub of_frame : (s t : Speech) (fed frame : List ℕ) (answers : List Answer) (r r' : AnswerReader) (out : Spoken) → r'.speech ≡ r.speech → r.speech ≡ t → framing_of r'.cutter ≡ framing_of r.cutter → Framed (framing_of r.cutter) (held r.cutter) frame (held r'.cutter) → ReadsAs t frame r.parts out r'.parts → Hears s fed answers r → SaysNext s fed answers out r r'
unfolding Hears
of_frame s t fed frame answers r r' out same is framed frames reads x =
    let reads' = subst (λ (u : Speech). ReadsAs u frame r.parts out r'.parts) (sym is ∙ x.0) reads in
    let frames' = subst (λ (y : Framing). Framed y (held r.cutter) frame (held r'.cutter)) x.1 frames in
    says_after s fed answers r r' out (same ∙ x.0) (framed ∙ x.1) (after_as s fed frame answers (held r.cutter) (held r'.cutter) r.parts r'.parts out frames' reads' x.2)
