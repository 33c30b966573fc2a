-- From what a cutter holds to the messages that its frames spell.
use Rattle.std.proofs.Common.{◌≡◌, ℕ, List, [], ◌∷◌, ◌++◌, Option, None, refl, ap, sym, subst, ◌∙◌}
use Rattle.std.specs.Global.{Vec}
use Rattle.wire_fields.specs.Varint.{number_at, varint_at}
use Rattle.wire_fields.specs.Message.{largest, AreSpelled}
use Rattle.delimited_framing.specs.declared.frame.FrameFault.{FrameFault}
use Rattle.delimited_framing.specs.declared.frame.Next.{Next}
use Rattle.delimited_framing.specs.declared.frame.Next.TheVariants as next
use Rattle.delimited_framing.specs.Front.{Front, Whole, Unfinished, Form}
use Rattle.delimited_framing.specs.Frame.{frame_at, Holds}
use Rattle.delimited_framing.specs.Splitter.{Held, StandsFor, Gives, fed_more}
use Rattle.delimited_framing.proofs.Streams.{Holds-more}
use Rattle.json_framing.specs.Cutter.{form_of}
use Rattle.json_framing.specs.Lines.{line_at}
use Rattle.json_framing.specs.declared.cutter.Framing.{Framing}
use Rattle.json_framing.specs.declared.cutter.Framing.TheVariants as framing
use Rattle.json_framing.proofs.Streams.{Holds-more as lines_more}
use Rattle.json_framing.proofs.Laws.{last_line}
use Rattle.message_service.specs.Stream.{SpellsNone, BrokenAt, Begins, IsWhole, IsBroken}
use Rattle.message_service.specs.Stream.{Heard}

spelled_more : {M : Type 0} (Spells : List ℕ → M → Type 0) (frames : List (List ℕ))
    (messages : List M) (frame : List ℕ) (m : M) → AreSpelled Spells frames messages
    → Spells frame m → AreSpelled Spells (frames ++ frame ∷ []) (messages ++ m ∷ [])
spelled_more Spells [] [] frame m all one = (one, tt)
spelled_more Spells [] (n ∷ ns) frame m all one = absurd all
spelled_more Spells (f ∷ fs) [] frame m all one = absurd all
spelled_more Spells (f ∷ fs) (n ∷ ns) frame m all one =
    (all.0, spelled_more Spells fs ns frame m all.1 one)

-- ---- what is known of each form

record IsCut (form : Form) : Type 0 where
  pub nothing : form.Holds largest [] [] []
  pub unfinished : form.front largest [] ≡ Unfinished
  pub more : (stream : List ℕ) (frames : List (List ℕ)) (rest more : List ℕ)
      → form.Holds largest stream frames rest
      → form.Holds largest (stream ++ more) frames (rest ++ more)
  pub last : (stream : List ℕ) (frames : List (List ℕ)) (frame rest : List ℕ)
      → form.Holds largest stream (frames ++ frame ∷ []) rest
      → (mid : List ℕ) × (after : List ℕ) × form.Holds largest stream frames mid
      × (form.front largest mid ≡ Whole frame after)

nothing_delimited : frame_at largest [] ≡ Unfinished
unfolding frame_at varint_at number_at
nothing_delimited = refl

last_frame : (stream : List ℕ) (frames : List (List ℕ)) (frame rest : List ℕ)
    → Holds largest stream (frames ++ frame ∷ []) rest
    → (mid : List ℕ) × (after : List ℕ) × Holds largest stream frames mid
    × (frame_at largest mid ≡ Whole frame after)
last_frame stream [] frame rest h = (stream, h.0, refl, h.1)
last_frame stream (f ∷ fs) frame rest h =
    let l = last_frame h.0 fs frame rest h.2 in (l.0, l.1, (h.0, h.1, l.2), l.3)

nothing_lined : line_at largest [] ≡ Unfinished
unfolding line_at
nothing_lined = refl

cut_of : (f : Framing) → IsCut (form_of f)
cut_of framing.Delimited = record {
  nothing = refl;
  unfinished = nothing_delimited;
  more = Holds-more largest;
  last = last_frame;
}
cut_of framing.Lines = record {
  nothing = ([], refl, refl);
  unfinished = nothing_lined;
  more = lines_more largest;
  last = last_line largest;
}

-- ---- messages

-- what a cutter gave, whatever it was fed, and what it was fed
abbrev pub Gave : Framing → Held → Next → Held → Type 0
Gave f h n h' = (fed : List ℕ) (given : List (List ℕ)) → StandsFor (form_of f) fed given h
    → Gives (form_of f) fed given h n h'

abbrev pub Fed : Framing → Held → List ℕ → Held → Type 0
Fed f h piece h' = (fed : List ℕ) (given : List (List ℕ)) → StandsFor (form_of f) fed given h
    → StandsFor (form_of f) (fed_more h.fault fed piece) given h'

module _ (f : Framing) {M : Type 0} (Spells : List ℕ → M → Type 0) where
  pub heard_new : (s : Held) → StandsFor (form_of f) [] [] s → s.limit ≡ largest
      → s.fault ≡ None → Heard (form_of f) Spells [] [] s
  heard_new s stands limit fault = record {
    frames = [];
    stands = stands;
    limit = limit;
    no_fault = fault;
    spelled = tt;
  }

  pub whole_new : IsWhole (form_of f) Spells [] []
  whole_new = (
    [],
    record { frames = []; holds = (cut_of f).nothing; spelled = tt },
    (cut_of f).unfinished,
  )

  pub heard_piece : (fed piece : List ℕ) (messages : List M) (s s' : Held) → Fed f s piece s'
      → s'.limit ≡ s.limit → s'.fault ≡ s.fault → Heard (form_of f) Spells fed messages s
      → Heard (form_of f) Spells (fed ++ piece) messages s'
  heard_piece fed piece messages s s' step limit fault h = record {
    frames = h.frames;
    stands = subst (λ (o : Option FrameFault). StandsFor (form_of f) (fed_more o fed piece)
        h.frames s')
        h.no_fault (step fed h.frames h.stands);
    limit = limit ∙ h.limit;
    no_fault = fault ∙ h.no_fault;
    spelled = h.spelled;
  }

  pub heard_first : (fed : List ℕ) (messages : List M) (s : Held)
      → Heard (form_of f) Spells fed messages s → Begins (form_of f) Spells fed messages
  heard_first fed messages s h = (
    s.rest,
    record {
      frames = h.frames;
      holds = subst (λ (n : ℕ). (form_of f).Holds n fed h.frames s.rest) h.limit h.stands.holds;
      spelled = h.spelled;
    },
  )

  pub first_more : (fed more : List ℕ) (messages : List M) → Begins (form_of f) Spells fed messages
      → Begins (form_of f) Spells (fed ++ more) messages
  first_more fed more messages b = (
    b.0 ++ more,
    record {
      frames = b.1.frames;
      holds = (cut_of f).more fed b.1.frames b.0 more b.1.holds;
      spelled = b.1.spelled;
    },
  )

  -- nothing whole is left: the cutter is another one by then
  pub heard_all : (fed : List ℕ) (messages : List M) (s s' : Held) → Gave f s next.NotYet s'
      → Heard (form_of f) Spells fed messages s
      → Heard (form_of f) Spells fed messages s' × IsWhole (form_of f) Spells fed messages
  heard_all fed messages s s' gave h =
      let n = gave fed h.frames h.stands in
      let holds = subst (λ (n : ℕ). (form_of f).Holds n fed h.frames s'.rest) h.limit n.3.holds in (
        record {
          frames = h.frames;
          stands = n.0;
          limit = n.1 ∙ h.limit;
          no_fault = n.2 ∙ h.no_fault;
          spelled = h.spelled;
        },
        (
          s'.rest,
          record { frames = h.frames; holds = holds; spelled = h.spelled },
          ap (λ (n : ℕ). (form_of f).front n s'.rest) (sym h.limit) ∙ n.3.unfinished,
        ),
      )

  pub heard_fault : (fed : List ℕ) (messages : List M) (s s' : Held) (fault : FrameFault)
      → Gave f s (next.Bad fault) s' → Heard (form_of f) Spells fed messages s
      → IsBroken (form_of f) Spells fed messages
  heard_fault fed messages s s' fault gave h =
      let b = (gave fed h.frames h.stands).3 in
      let holds = subst (λ (n : ℕ). (form_of f).Holds n fed h.frames b.rest) h.limit b.holds in
      let bad = ap (λ (n : ℕ). (form_of f).front n b.rest) (sym h.limit) ∙ b.bad in (
        b.rest,
        record { frames = h.frames; holds = holds; spelled = h.spelled },
        subst (λ (x : Front). BrokenAt Spells x) (sym bad) tt,
      )

  -- one frame more: it spells a message
  pub heard_frame : (fed : List ℕ) (frame : Vec ℕ) (messages : List M) (s s' : Held) (m : M)
      → Gave f s (next.Frame frame) s' → Spells frame.items m
      → Heard (form_of f) Spells fed messages s
      → Heard (form_of f) Spells fed (messages ++ m ∷ []) s'
  heard_frame fed frame messages s s' m gave spells h =
      let n = gave fed h.frames h.stands in record {
        frames = h.frames ++ frame.items ∷ [];
        stands = n.0;
        limit = n.1 ∙ h.limit;
        no_fault = n.2 ∙ h.no_fault;
        spelled = spelled_more Spells h.frames messages frame.items m h.spelled spells;
      }

  -- or it spells none
  pub heard_none : (fed : List ℕ) (frame : Vec ℕ) (messages : List M) (s s' : Held)
      → Gave f s (next.Frame frame) s' → SpellsNone Spells frame.items
      → Heard (form_of f) Spells fed messages s → IsBroken (form_of f) Spells fed messages
  heard_none fed frame messages s s' gave none h =
      let n = gave fed h.frames h.stands in
      let holds = subst (λ (k : ℕ). (form_of f).Holds k fed (h.frames ++ frame.items ∷ []) s'.rest)
      (n.1 ∙ h.limit) n.0.holds in
      let l = (cut_of f).last fed h.frames frame.items s'.rest holds in (
        l.0,
        record { frames = h.frames; holds = l.2; spelled = h.spelled },
        subst (λ (x : Front). BrokenAt Spells x) (sym l.3) none,
      )
