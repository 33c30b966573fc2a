-- From what a cutter holds to what was said.
use Rattle.std.proofs.Common.{◌≡◌, ℕ, List, [], ◌∷◌, ◌++◌, map, Option, Some, None, Result, refl, ap, sym, subst, ◌∙◌}
use Rattle.std.specs.Prelude.{IfOk, OnOk}
use Rattle.wire_fields.specs.Message.{largest, AreSpelled}
use Rattle.delimited_framing.specs.declared.frame.FrameFault.{FrameFault}
use Rattle.delimited_framing.specs.Front.{Front, Whole, Unfinished, Bad, Form, FramesOf, FaultOf}
use Rattle.delimited_framing.specs.Splitter.{Held, StandsFor, fed_more}
use Rattle.exec_journal.specs.declared.call.Answer.{Answer}
use Rattle.answer_reader.specs.declared.reader.Spoken.{Spoken}
use Rattle.answer_reader.specs.declared.reader.Spoken.TheVariants as spoken
use Rattle.answer_reader.specs.Reading.{SpellsNone, BrokenAt, ReadTo, BeginsWith, IsWhole, IsBroken, Reads}
use Rattle.answer_reader.specs.Says.{Heard}

pub if_ok : {A E : Type 0} (r : Result A E) (P Q : A → Type 0) → ((a : A) → P a → Q a) → IfOk r P → IfOk r Q
if_ok (Result.Ok a) P Q f p = f a p
if_ok (Result.Err e) P Q f p = p

pub on_ok : {A E : Type 0} (r : Result A E) (P Q : Type 0) → (P → Q) → OnOk r P → OnOk r Q
on_ok (Result.Ok a) P Q f p = f p
on_ok (Result.Err e) P Q f p = p

pub spelled_more : {M : Type 0} (Spells : List ℕ → M → Type 0) (frames : List (List ℕ)) (messages : List M) (frame : List ℕ) (m : M) → AreSpelled Spells frames messages → Spells frame m → AreSpelled Spells (frames ++ frame ∷ []) (messages ++ m ∷ [])
spelled_more Spells [] [] frame m all one = (one, tt)
spelled_more Spells [] (n ∷ ns) frame m all one = absurd all
spelled_more Spells (f ∷ fs) [] frame m all one = absurd all
spelled_more Spells (f ∷ fs) (n ∷ ns) frame m all one = (all.0, spelled_more Spells fs ns frame m all.1 one)

map_push : {A B : Type 0} (f : A → B) (xs : List A) (x : A) → map f (xs ++ x ∷ []) ≡ map f xs ++ f x ∷ []
map_push f [] x = refl
map_push f (y ∷ ys) x = ap (λ zs. f y ∷ zs) (map_push f ys x)

-- what is known of each form
pub record IsCut (form : Form) : Type 0 where
  pub nothing : form.Holds largest [] [] []
  pub unfinished : form.front largest [] ≡ Unfinished
  pub more : (stream : List ℕ) (frames : List (List ℕ)) (rest more : List ℕ) → form.Holds largest stream frames rest → form.Holds largest (stream ++ more) frames (rest ++ more)
  pub last : (stream : List ℕ) (frames : List (List ℕ)) (frame rest : List ℕ) → form.Holds largest stream (frames ++ frame ∷ []) rest → (mid : List ℕ) × (after : List ℕ) × form.Holds largest stream frames mid × (form.front largest mid ≡ Whole frame after)

module _ (form : Form) (cut : IsCut form) {M : Type 0} (Spells : List ℕ → M → Type 0) (joined : List M → List Answer) where
  abbrev pub heard_new : (s : Held) → joined [] ≡ [] → StandsFor form [] [] s → s.limit ≡ largest → s.fault ≡ None → Heard form Spells joined [] [] s
  heard_new s none stands limit fault = record { frames = []; messages = []; stands = stands; limit = limit; no_fault = fault; spelled = tt; joins = none }

  pub whole_new : joined [] ≡ [] → IsWhole form Spells joined [] []
  whole_new none = ([], record { frames = []; messages = []; holds = cut.nothing; spelled = tt; joins = none }, cut.unfinished)

  abbrev pub heard_piece : (fed piece : List ℕ) (answers : List Answer) (s s' : Held) → ((fed : List ℕ) (given : List (List ℕ)) → StandsFor form fed given s → StandsFor form (fed_more s.fault fed piece) given s')
      → s'.limit ≡ s.limit → s'.fault ≡ s.fault → Heard form Spells joined fed answers s → Heard form Spells joined (fed ++ piece) answers s'
  heard_piece fed piece answers s s' step limit fault h = record {
    frames = h.frames;
    messages = h.messages;
    stands = subst (λ (o : Option FrameFault). StandsFor form (fed_more o fed piece) h.frames s') h.no_fault (step fed h.frames h.stands);
    limit = limit ∙ h.limit;
    no_fault = fault ∙ h.no_fault;
    spelled = h.spelled;
    joins = h.joins;
  }

  reads_to : (fed : List ℕ) (answers : List Answer) (s : Held) → Heard form Spells joined fed answers s → ReadTo form Spells joined fed answers s.rest
  reads_to fed answers s h = record { frames = h.frames; messages = h.messages; holds = subst (λ (n : ℕ). form.Holds n fed h.frames s.rest) h.limit h.stands.holds; spelled = h.spelled; joins = h.joins }

  pub heard_first : (fed : List ℕ) (answers : List Answer) (s : Held) → Heard form Spells joined fed answers s → BeginsWith form Spells joined fed answers
  heard_first fed answers s h = (s.rest, reads_to fed answers s h)

  pub first_more : (fed more : List ℕ) (answers : List Answer) → BeginsWith form Spells joined fed answers → BeginsWith form Spells joined (fed ++ more) answers
  first_more fed more answers b = (b.0 ++ more, record { frames = b.1.frames; messages = b.1.messages; holds = cut.more fed b.1.frames b.0 more b.1.holds; spelled = b.1.spelled; joins = b.1.joins })

  -- nothing whole is left: the cutter is another one by then
  abbrev pub heard_all : (fed : List ℕ) (answers : List Answer) (s s' : Held) (h : Heard form Spells joined fed answers s) → StandsFor form fed h.frames s' → s'.limit ≡ s.limit → s'.fault ≡ s.fault → FramesOf form fed s.limit h.frames s'.rest
      → Heard form Spells joined fed answers s' × IsWhole form Spells joined fed answers
  heard_all fed answers s s' h stands limit fault f =
      let holds = subst (λ (n : ℕ). form.Holds n fed h.frames s'.rest) h.limit f.holds in (
        record { frames = h.frames; messages = h.messages; stands = stands; limit = limit ∙ h.limit; no_fault = fault ∙ h.no_fault; spelled = h.spelled; joins = h.joins },
        (s'.rest, record { frames = h.frames; messages = h.messages; holds = holds; spelled = h.spelled; joins = h.joins }, ap (λ (n : ℕ). form.front n s'.rest) (sym h.limit) ∙ f.unfinished),
      )

  pub heard_fault : (fed : List ℕ) (answers : List Answer) (s : Held) (fault : FrameFault) (h : Heard form Spells joined fed answers s) → FaultOf form fed s.limit h.frames fault → IsBroken form Spells joined fed answers
  heard_fault fed answers s fault h f = (
    f.rest,
    record { frames = h.frames; messages = h.messages; holds = subst (λ (n : ℕ). form.Holds n fed h.frames f.rest) h.limit f.holds; spelled = h.spelled; joins = h.joins },
    subst (λ (x : Front). BrokenAt Spells x) (sym (ap (λ (n : ℕ). form.front n f.rest) (sym h.limit) ∙ f.bad)) tt,
  )

  -- one frame more: it spells a message, by which these answers come
  abbrev pub heard_frame : (fed frame : List ℕ) (answers more : List Answer) (s s' : Held) (m : M) (h : Heard form Spells joined fed answers s) → StandsFor form fed (h.frames ++ frame ∷ []) s' → s'.limit ≡ s.limit → s'.fault ≡ s.fault
      → Spells frame m → joined (h.messages ++ m ∷ []) ≡ joined h.messages ++ more → Heard form Spells joined fed (answers ++ more) s'
  heard_frame fed frame answers more s s' m h stands limit fault spells joins = record {
    frames = h.frames ++ frame ∷ [];
    messages = h.messages ++ m ∷ [];
    stands = stands;
    limit = limit ∙ h.limit;
    no_fault = fault ∙ h.no_fault;
    spelled = spelled_more Spells h.frames h.messages frame m h.spelled spells;
    joins = joins ∙ ap (λ (xs : List Answer). xs ++ more) h.joins;
  }

  -- or it spells none
  pub heard_none : (fed frame : List ℕ) (answers : List Answer) (s s' : Held) (h : Heard form Spells joined fed answers s) → StandsFor form fed (h.frames ++ frame ∷ []) s' → s'.limit ≡ s.limit → SpellsNone Spells frame → IsBroken form Spells joined fed answers
  heard_none fed frame answers s s' h stands limit none =
      let l = cut.last fed h.frames frame s'.rest (subst (λ (n : ℕ). form.Holds n fed (h.frames ++ frame ∷ []) s'.rest) (limit ∙ h.limit) stands.holds) in
      (l.0, record { frames = h.frames; messages = h.messages; holds = l.2; spelled = h.spelled; joins = h.joins }, subst (λ (x : Front). BrokenAt Spells x) (sym l.3) none)

-- where each message is an answer
module _ (form : Form) (cut : IsCut form) {M : Type 0} (Spells : List ℕ → M → Type 0) (answer_of : M → Answer) where
  abbrev pub AfterFrame : List ℕ → List Answer → Held → Spoken → Type 0
  AfterFrame fed answers s' (spoken.Answer x) = Heard form Spells (map answer_of) fed (answers ++ x ∷ []) s'
  AfterFrame fed answers s' spoken.More = Heard form Spells (map answer_of) fed answers s'
  AfterFrame fed answers s' spoken.NotYet = Heard form Spells (map answer_of) fed answers s' × IsWhole form Spells (map answer_of) fed answers
  AfterFrame fed answers s' spoken.Bad = IsBroken form Spells (map answer_of) fed answers

  pub after_frame : (fed frame : List ℕ) (answers : List Answer) (s s' : Held) (h : Heard form Spells (map answer_of) fed answers s) → StandsFor form fed (h.frames ++ frame ∷ []) s' → s'.limit ≡ s.limit → s'.fault ≡ s.fault
      → (r : Spoken) → Reads Spells answer_of frame r → AfterFrame fed answers s' r
  after_frame fed frame answers s s' h stands limit fault (spoken.Answer x) reads =
      heard_frame form cut Spells (map answer_of) fed frame answers (x ∷ []) s s' reads.0 h stands limit fault reads.1 (map_push answer_of h.messages reads.0 ∙ ap (λ (y : Answer). map answer_of h.messages ++ y ∷ []) (sym reads.2))
  after_frame fed frame answers s s' h stands limit fault spoken.Bad reads = heard_none form cut Spells (map answer_of) fed frame answers s s' h stands limit reads
  after_frame fed frame answers s s' h stands limit fault spoken.More reads = absurd reads
  after_frame fed frame answers s s' h stands limit fault spoken.NotYet reads = absurd reads
