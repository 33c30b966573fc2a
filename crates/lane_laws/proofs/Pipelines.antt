-- From what a tap lane leaves to what the whole history says of its lines.
use Rattle.std.proofs.Common.{◌≡◌, ◌≢◌, ⊎_elim, ℕ, ◌==◌, ◌≤◌, Bool, true, false, cond, List, [], ◌∷◌, ◌++◌, length, Option, Some, None, refl, ap, sym, subst, ◌∙◌, append_assoc, append-nil, eq-eqb, ne_eqb, arith}
use Rattle.std.specs.Prelude.{IfSome}
use Rattle.std.proofs.lemmas.Bool.{eqb-true}
use Rattle.seat_desk.specs.History.{entry, calls_by}
use Rattle.outside.specs.Told.{TapTold}
use Rattle.run_plan.specs.declared.plan.Speech.{Speech}
use Rattle.run_plan.specs.declared.plan.Speech.TheVariants as speech
use Rattle.exec_journal.specs.declared.call.Answer.{Answer}
use Rattle.exec_journal.specs.declared.call.Call.{Call}
use Rattle.exec_journal.specs.declared.call.Call.TheVariants as call
use Rattle.exec_journal.specs.declared.call.HowEnded.{HowEnded}
use Rattle.exec_journal.specs.declared.call.HowEnded.TheVariants as end
use Rattle.exec_journal.specs.declared.reply.Reply.TheVariants as reply
use Rattle.exec_journal.specs.Entries.{takes}
use Rattle.answer_reader.specs.Says.{SaysFirst, SaysAll, SaysBadly}
use Rattle.core_contract.specs.Moves.{Past, History}
use Rattle.core_contract.specs.Laws.{tells_of}
use Rattle.tap_lane.specs.declared.ends.TapHalt.{TapHalt}
use Rattle.tap_lane.specs.declared.ends.TapHalt.TheVariants as want
use Rattle.tap_lane.specs.Heard.{AreAnswers, SaysTo, EndedBy, HeardOf}
use Rattle.tap_lane.specs.Lane.{Whole, Runs, CutShort, RunsUntil, LaneEnds}
use Rattle.lane_laws.specs.Pipes.{Each, answer_in, said_on, end_in, end_on, PipeOf, NotIn, AllApart}
use Rattle.tap_lane.proofs.Replies.{answer_leads}
use Rattle.lane_laws.proofs.Tellers.{takers, takers_append, Told, each_so}

-- ---- the entries of one line among others

answer_onto : (l : ℕ) (c : Call) (xs ys : List Answer)
    → answer_in l c (xs ++ ys) ≡ answer_in l c xs ++ ys
answer_onto l call.Ask xs ys = refl
answer_onto l (call.Launched m how) xs ys = refl
answer_onto l (call.Wrote m n how) xs ys = refl
answer_onto l (call.Look w) xs ys = refl
answer_onto l (call.Claim a b t f) xs ys = refl
answer_onto l (call.Committed a b how) xs ys = refl
answer_onto l (call.Killed m) xs ys = refl
answer_onto l call.Tick xs ys = refl
answer_onto l call.Take xs ys = refl
answer_onto l (call.Answer m x) xs ys = elim (m == l) as (λ b.
    cond b (x ∷ (xs ++ ys)) (xs ++ ys) ≡ cond b (x ∷ xs) xs ++ ys) [
      | true ↦ refl
      | false ↦ refl
    ]
answer_onto l (call.Ended m how) xs ys = refl
answer_onto l call.Halt xs ys = refl

said_append : (l : ℕ) (es fs : History) → said_on l (es ++ fs) ≡ said_on l es ++ said_on l fs
said_append l [] fs = refl
said_append l (e ∷ es) fs =
    ap (answer_in l e.call) (said_append l es fs)
    ∙ answer_onto l e.call (said_on l es) (said_on l fs)

-- the first that is there
abbrev or_end : Option HowEnded → Option HowEnded → Option HowEnded
or_end None o = o
or_end (Some x) o = Some x

end_onto : (l : ℕ) (c : Call) (o p : Option HowEnded)
    → end_in l c (or_end o p) ≡ or_end (end_in l c o) p
end_onto l call.Ask o p = refl
end_onto l (call.Launched m how) o p = refl
end_onto l (call.Wrote m n how) o p = refl
end_onto l (call.Look w) o p = refl
end_onto l (call.Claim a b t f) o p = refl
end_onto l (call.Committed a b how) o p = refl
end_onto l (call.Killed m) o p = refl
end_onto l call.Tick o p = refl
end_onto l call.Take o p = refl
end_onto l (call.Answer m x) o p = refl
end_onto l (call.Ended m how) o p = elim (m == l) as (λ b.
    cond b (Some how) (or_end o p) ≡ or_end (cond b (Some how) o) p) [
      | true ↦ refl
      | false ↦ refl
    ]
end_onto l call.Halt o p = refl

end_append : (l : ℕ) (es fs : History) → end_on l (es ++ fs) ≡ or_end (end_on l es) (end_on l fs)
end_append l [] fs = refl
end_append l (e ∷ es) fs =
    ap (end_in l e.call) (end_append l es fs) ∙ end_onto l e.call (end_on l es) (end_on l fs)

-- a call that doesn't tell of the line changes nothing
silent_answer : (l : ℕ) (c : Call) (xs : List Answer) → tells_of l c ≡ false
    → answer_in l c xs ≡ xs
silent_answer l call.Ask xs e = refl
silent_answer l (call.Launched m how) xs e = refl
silent_answer l (call.Wrote m n how) xs e = refl
silent_answer l (call.Look w) xs e = refl
silent_answer l (call.Claim a b t f) xs e = refl
silent_answer l (call.Committed a b how) xs e = refl
silent_answer l (call.Killed m) xs e = refl
silent_answer l call.Tick xs e = refl
silent_answer l call.Take xs e = refl
silent_answer l (call.Answer m x) xs e = ap (λ (b : Bool). cond b (x ∷ xs) xs) e
silent_answer l (call.Ended m how) xs e = refl
silent_answer l call.Halt xs e = refl

silent_end : (l : ℕ) (c : Call) (o : Option HowEnded) → tells_of l c ≡ false → end_in l c o ≡ o
silent_end l call.Ask o e = refl
silent_end l (call.Launched m how) o e = refl
silent_end l (call.Wrote m n how) o e = refl
silent_end l (call.Look w) o e = refl
silent_end l (call.Claim a b t f) o e = refl
silent_end l (call.Committed a b how) o e = refl
silent_end l (call.Killed m) o e = refl
silent_end l call.Tick o e = refl
silent_end l call.Take o e = refl
silent_end l (call.Answer m x) o e = refl
silent_end l (call.Ended m how) o e = ap (λ (b : Bool). cond b (Some how) o) e
silent_end l call.Halt o e = refl

-- of the line the one history says what the other does
abbrev Same : History → History → ℕ → Type 0
Same h g l = (said_on l h ≡ said_on l g) × (end_on l h ≡ end_on l g)

-- where only this lane tells of the line, its own entries say all
module _ (lane l : ℕ) where
  abbrev Own : Past → Type 0
  Own e = tells_of l e.call ≡ true → e.lane ≡ lane

  own_by : (e : Past) (h : History) (mine told : Bool) → (lane == e.lane) ≡ mine
      → tells_of l e.call ≡ told → Own e → Same h (calls_by lane h) l
      → Same (e ∷ h) (cond mine (e ∷ calls_by lane h) (calls_by lane h)) l
  own_by e h true told is tells own s = (ap (answer_in l e.call) s.0, ap (end_in l e.call) s.1)
  own_by e h false false is tells own s = (
    silent_answer l e.call (said_on l h) tells ∙ s.0,
    silent_end l e.call (end_on l h) tells ∙ s.1,
  )
  own_by e h false true is tells own s = absurd (
      let x : true ≡ false = sym (eq-eqb lane e.lane (sym (own tells))) ∙ is in cc
      )

  own_all : (h : History) → Each Own h → Same h (calls_by lane h) l
  own_all [] a = (refl, refl)
  own_all (e ∷ h) a =
      own_by e h (lane == e.lane) (tells_of l e.call) refl refl a.0 (own_all h a.1)

-- where no call tells of the line, there is nothing
module _ (l : ℕ) where
  abbrev pub Silent : History → Type 0
  Silent h = (said_on l h ≡ []) × (end_on l h ≡ None)

  silent_by : (e : Past) (h : History) (told : Bool) → tells_of l e.call ≡ told
      → (tells_of l e.call ≡ true → ⊥) → Silent h → Silent (e ∷ h)
  silent_by e h false is never s = (
    silent_answer l e.call (said_on l h) is ∙ s.0,
    silent_end l e.call (end_on l h) is ∙ s.1,
  )
  silent_by e h true is never s = absurd (never is)

  pub silent_all : (h : History) → Each (λ e. tells_of l e.call ≡ true → ⊥) h → Silent h
  silent_all [] a = (refl, refl)
  silent_all (e ∷ h) a = silent_by e h (tells_of l e.call) refl a.0 (silent_all h a.1)

-- ---- the answers of one line

said_own : (l : ℕ) (es : History) (xs : List Answer) → AreAnswers l es xs → said_on l es ≡ xs
said_own l [] [] a = refl
said_own l [] (x ∷ xs) a = absurd a
said_own l (e ∷ es) [] a = absurd a
said_own l (e ∷ es) (x ∷ xs) a =
    ap (λ (c : Call). answer_in l c (said_on l es)) a.0.0
    ∙ (ap (λ (b : Bool). cond b (x ∷ said_on l es) (said_on l es)) (eq-eqb l l refl)
    ∙ ap (λ (ys : List Answer). x ∷ ys) (said_own l es xs a.1))

said_other : (k l : ℕ) (es : History) (xs : List Answer) → l ≢ k → AreAnswers l es xs
    → said_on k es ≡ []
said_other k l [] [] n a = refl
said_other k l [] (x ∷ xs) n a = absurd a
said_other k l (e ∷ es) [] n a = absurd a
said_other k l (e ∷ es) (x ∷ xs) n a =
    ap (λ (c : Call). answer_in k c (said_on k es)) a.0.0
    ∙ (ap (λ (b : Bool). cond b (x ∷ said_on k es) (said_on k es)) (ne_eqb l k n)
    ∙ said_other k l es xs n a.1)

end_none : (k l : ℕ) (es : History) (xs : List Answer) → AreAnswers l es xs → end_on k es ≡ None
end_none k l [] [] a = refl
end_none k l [] (x ∷ xs) a = absurd a
end_none k l (e ∷ es) [] a = absurd a
end_none k l (e ∷ es) (x ∷ xs) a =
    ap (λ (c : Call). end_in k c (end_on k es)) a.0.0 ∙ end_none k l es xs a.1

none_take : (k l : ℕ) (es : History) (xs : List Answer) → AreAnswers l es xs → takers k es ≡ []
none_take k l [] [] a = refl
none_take k l [] (x ∷ xs) a = absurd a
none_take k l (e ∷ es) [] a = absurd a
none_take k l (e ∷ es) (x ∷ xs) a =
    ap (λ (b : Bool). cond b (e.lane ∷ takers k es) (takers k es))
    ((answer_leads l x e.reply a.0.1).3 k)
    ∙ none_take k l es xs a.1

-- ---- what was said to the end was said first

all_first : (s : Speech) (bytes : List ℕ) (answers : List Answer) → SaysAll s bytes answers
    → SaysFirst s bytes answers
unfolding SaysAll SaysFirst
all_first speech.Proto bytes answers x = (x.0, x.1)
all_first speech.Json bytes answers x = (x.0, x.1)
all_first speech.Remote bytes answers x = (x.0, x.1)

badly_first : (s : Speech) (bytes : List ℕ) (answers : List Answer) → SaysBadly s bytes answers
    → SaysFirst s bytes answers
unfolding SaysBadly SaysFirst
badly_first speech.Proto bytes answers x = (x.0, x.1)
badly_first speech.Json bytes answers x = (x.0, x.1)
badly_first speech.Remote bytes answers x = (x.0, x.1)

says_first : (s : Speech) (how : Option HowEnded) (bytes : List ℕ) (answers : List Answer)
    → SaysTo s how bytes answers → SaysTo s None bytes answers
says_first s (Some end.End) bytes answers x = all_first s bytes answers x
says_first s (Some end.TapFault) bytes answers x = all_first s bytes answers x
says_first s (Some end.Long) bytes answers x = all_first s bytes answers x
says_first s (Some end.BadFrame) bytes answers x = badly_first s bytes answers x
says_first s None bytes answers x = x

if_some : {X : Type 0} (o : Option X) (P Q : X → Type 0) → ((x : X) → P x → Q x) → IfSome o P
    → IfSome o Q
if_some None P Q f p = p
if_some (Some x) P Q f p = f x p

module _ (s : Speech) (lane : ℕ) where
  abbrev took : ℕ → Past
  took l = entry lane call.Take (reply.Line l)

  -- one line's entries: they say just what was heard of it, and of other lines nothing
  pub record Piece (t : ℕ × TapTold) (es : History) : Type 0 where
    pub says : (h : History) → Same h es t.0 → PipeOf s h t
    pub others : (k : ℕ) → t.0 ≢ k → (said_on k es ≡ []) × (end_on k es ≡ None)
    pub taken : (k : ℕ) → takers k es ≡ cond (t.0 == k) (lane ∷ []) []

  -- the line has ended by `how` in these entries, or not
  pipe : (t : ℕ × TapTold) (how : Option HowEnded) (made es : History)
      (answers : List Answer) → AreAnswers t.0 made answers → IfSome t.1.line (λ n. n ≡ t.0)
      → IfSome t.1.taken (λ bytes. SaysTo s how bytes answers)
      → IfSome how (λ x. EndedBy x t.1) → said_on t.0 es ≡ said_on t.0 made
      → end_on t.0 es ≡ how → (h : History) → Same h es t.0 → PipeOf s h t
  pipe t how made es answers are line says cause said end h same =
      let xs : said_on t.0 h ≡ answers =
      same.0 ∙ (said ∙ said_own t.0 made answers are) in
      let e : end_on t.0 h ≡ how = same.1 ∙ end in
      record {
        of_line = line;
        says = subst (λ (o : Option HowEnded).
            IfSome t.1.taken (λ bytes. SaysTo s o bytes (said_on t.0 h))) (sym e)
            (subst (λ (ys : List Answer). IfSome t.1.taken (λ bytes. SaysTo s how bytes ys))
            (sym xs) says);
        cause = subst (λ (o : Option HowEnded). IfSome o (λ x. EndedBy x t.1)) (sym e) cause;
      }

  taken_by : (t : ℕ × TapTold) (made rest es : History) (answers : List Answer)
      → AreAnswers t.0 made answers → ((k : ℕ) → takers k rest ≡ [])
      → es ≡ took t.0 ∷ made ++ rest → (k : ℕ) → takers k es ≡ cond (t.0 == k) (lane ∷ []) []
  taken_by t made rest es answers are none is k =
      let rest_none : takers k (made ++ rest) ≡ [] =
      takers_append k made rest
      ∙ (ap (λ (ks : List ℕ). ks ++ takers k rest) (none_take k t.0 made answers are)
      ∙ none k) in
      ap (takers k) is
      ∙ ap (λ (ks : List ℕ). cond (t.0 == k) (lane ∷ ks) ks) rest_none

  whole_piece : (t : ℕ × TapTold) (es : History) → Whole s lane t es → Piece t es
  whole_piece t es w =
      let last : History = entry lane (call.Ended t.0 w.how) reply.Noted ∷ [] in
      let xs = w.heard.answers in
      let said : (k : ℕ) → said_on k es ≡ said_on k w.made =
      λ k. ap (said_on k) w.are ∙ (said_append k w.made last ∙ append-nil (said_on k w.made)) in
      let end : (k : ℕ) → end_on k es ≡ cond (t.0 == k) (Some w.how) None =
      λ k. ap (end_on k) w.are ∙ (end_append k w.made last
      ∙ ap (λ (o : Option HowEnded). or_end o (end_on k last))
      (end_none k t.0 w.made xs w.heard.are)) in
      record {
        says = pipe t (Some w.how) w.made es xs w.heard.are w.heard.of_line w.heard.says
            w.heard.stands (said t.0)
            (end t.0 ∙ ap (λ (b : Bool). cond b (Some w.how) None) (eq-eqb t.0 t.0 refl));
        others = λ k n. (
          said k ∙ said_other k t.0 w.made xs n w.heard.are,
          end k ∙ ap (λ (b : Bool). cond b (Some w.how) None) (ne_eqb t.0 k n),
        );
        taken = taken_by t w.made last es xs w.heard.are (λ k. refl) w.are;
      }

  cut_piece : (how : Option HowEnded) (t : ℕ × TapTold) (made : History)
      → HeardOf s t.0 t.1 how made → Piece t (took t.0 ∷ made)
  cut_piece how t made heard = record {
    says = pipe t None made (took t.0 ∷ made) heard.answers heard.are heard.of_line
        (if_some t.1.taken (λ bytes. SaysTo s how bytes heard.answers)
        (λ bytes. SaysTo s None bytes heard.answers)
        (λ bytes x. says_first s how bytes heard.answers x) heard.says)
        tt refl (end_none t.0 t.0 made heard.answers heard.are);
    others = λ k n. (
      said_other k t.0 made heard.answers n heard.are,
      end_none k t.0 made heard.answers heard.are,
    );
    taken = taken_by t made [] (took t.0 ∷ made) heard.answers heard.are (λ k. refl)
        (ap (λ (x : History). took t.0 ∷ x) (sym (append-nil made)));
  }

  -- ---- line after line, whether the last was heard to its end or not

  abbrev Nothing : ℕ → History → Type 0
  Nothing k es = (said_on k es ≡ []) × (end_on k es ≡ None)

  abbrev pub Pieces : List (ℕ × TapTold) → History → Type 0
  Pieces [] es = (k : ℕ) → Nothing k es × (takers k es ≡ [])
  Pieces (t ∷ ts) es =
      (first : History) × (rest : History) × (es ≡ first ++ rest) × Piece t first × Pieces ts rest

  runs_pieces : (ts us : List (ℕ × TapTold)) (es last : History) → Runs s lane ts es
      → Pieces us last → Pieces (ts ++ us) (es ++ last)
  runs_pieces [] us es last r p = subst (λ (x : History). Pieces us (x ++ last)) (sym r) p
  runs_pieces (t ∷ ts) us es last r p = (
    r.0,
    r.1 ++ last,
    ap (λ (x : History). x ++ last) r.2 ∙ append_assoc r.0 r.1 last,
    whole_piece t r.0 r.3,
    runs_pieces ts us r.1 last r.4 p,
  )

  -- the lane's last entry, with which it was told to stop, or halted
  module _ (end : History) (says_nothing : Pieces [] end) where
    after_runs : (ts : List (ℕ × TapTold)) (es own : History) → Runs s lane ts es
        → own ≡ es ++ end → Pieces ts own
    after_runs ts es own runs is =
        subst (λ (x : History). Pieces ts x) (sym is)
        (subst (λ (us : List (ℕ × TapTold)). Pieces us (es ++ end)) (append-nil ts)
        (runs_pieces ts [] es end runs says_nothing))

    after_cut : (how : Option HowEnded) (ts : List (ℕ × TapTold)) (es own : History)
        → CutShort s lane how ts es → own ≡ es ++ end → Pieces ts own
    after_cut how ts es own c is =
        let piece : History = took c.last.0 ∷ c.made in
        let last : Pieces (c.last ∷ []) (piece ++ end) =
        (piece, end, refl, cut_piece how c.last c.made c.heard, says_nothing) in
        let all : own ≡ c.lines ++ (piece ++ end) =
        is ∙ (ap (λ (x : History). x ++ end) c.are ∙ append_assoc c.lines piece end) in
        subst (λ (x : History). Pieces ts x) (sym all)
        (subst (λ (us : List (ℕ × TapTold)). Pieces us (c.lines ++ (piece ++ end)))
        (sym c.taps_are)
        (runs_pieces c.whole (c.last ∷ []) c.lines (piece ++ end) c.runs last))

    after_until : (w : TapHalt) (ts : List (ℕ × TapTold)) (es own : History)
        → RunsUntil s lane w ts es → own ≡ es ++ end → Pieces ts own
    after_until want.Line ts es own r is = after_runs ts es own r is
    after_until want.Answers ts es own r is = after_cut None ts es own r is
    after_until (want.End how) ts es own r is = after_cut (Some how) ts es own r is

  pub lane_pieces : (halted : Option TapHalt) (ts : List (ℕ × TapTold)) (own : History)
      → LaneEnds s lane halted ts own → Pieces ts own
  lane_pieces None ts own e =
      after_runs (entry lane call.Take reply.Stop ∷ []) (λ k. ((refl, refl), refl))
      ts e.0 own e.1 e.2
  lane_pieces (Some w) ts own e =
      after_until (entry lane call.Halt reply.Noted ∷ []) (λ k. ((refl, refl), refl))
      w ts e.0 own e.1 e.2

  -- ---- each line's piece says what the whole does

  or_none : (o : Option HowEnded) → or_end o None ≡ o
  or_none None = refl
  or_none (Some x) = refl

  -- a line that isn't among them has nothing there
  nothing_of : (ts : List (ℕ × TapTold)) (es : History) (k : ℕ) → NotIn k ts → Pieces ts es
      → Nothing k es
  nothing_of [] es k n p = (p k).0
  nothing_of (t ∷ ts) es k n p =
      let a = p.3.others k n.0 in
      let b = nothing_of ts p.1 k n.1 p.4 in (
        ap (said_on k) p.2 ∙ (said_append k p.0 p.1
            ∙ (ap (λ (xs : List Answer). xs ++ said_on k p.1) a.0 ∙ b.0)),
        ap (end_on k) p.2 ∙ (end_append k p.0 p.1
            ∙ (ap (λ (o : Option HowEnded). or_end o (end_on k p.1)) a.1 ∙ b.1)),
      )

  -- the history says of these lines what the entries do
  abbrev SameOf : History → History → List (ℕ × TapTold) → Type 0
  SameOf h es ts = Each (λ t. Same h es t.0) ts

  same_rest : (h es first rest : History) (t : ℕ × TapTold) (ts : List (ℕ × TapTold))
      → es ≡ first ++ rest → Piece t first → NotIn t.0 ts → SameOf h es ts → SameOf h rest ts
  same_rest h es first rest t [] is p n a = tt
  same_rest h es first rest t (u ∷ us) is p n a =
      let o = p.others u.0 (λ e. n.0 (sym e)) in (
        (
          a.0.0 ∙ (ap (said_on u.0) is ∙ (said_append u.0 first rest
              ∙ ap (λ (xs : List Answer). xs ++ said_on u.0 rest) o.0)),
          a.0.1 ∙ (ap (end_on u.0) is ∙ (end_append u.0 first rest
              ∙ ap (λ (x : Option HowEnded). or_end x (end_on u.0 rest)) o.1)),
        ),
        same_rest h es first rest t us is p n.1 a.1,
      )

  pipes : (h : History) (ts : List (ℕ × TapTold)) (es : History) → AllApart ts → Pieces ts es
      → SameOf h es ts → Each (PipeOf s h) ts
  pipes h [] es apart p a = tt
  pipes h (t ∷ ts) es apart p a =
      let none = nothing_of ts p.1 t.0 apart.0 p.4 in (
        p.3.says h (
          a.0.0 ∙ (ap (said_on t.0) p.2 ∙ (said_append t.0 p.0 p.1
              ∙ (ap (λ (xs : List Answer). said_on t.0 p.0 ++ xs) none.0
              ∙ append-nil (said_on t.0 p.0)))),
          a.0.1 ∙ (ap (end_on t.0) p.2 ∙ (end_append t.0 p.0 p.1
              ∙ (ap (λ (o : Option HowEnded). or_end (end_on t.0 p.0) o) none.1
              ∙ or_none (end_on t.0 p.0)))),
        ),
        pipes h ts p.1 apart.1 p.4 (same_rest h es p.0 p.1 t ts p.2 p.3 apart.0 a.1),
      )

  -- ---- no line was taken twice, and only this lane tells of those that it took

  taken_at : (t : ℕ × TapTold) (es : History) → Piece t es → takers t.0 es ≡ lane ∷ []
  taken_at t es p =
      p.taken t.0 ∙ ap (λ (b : Bool). cond b (lane ∷ []) []) (eq-eqb t.0 t.0 refl)

  empty_end : (xs ys : List ℕ) → xs ++ ys ≡ [] → ys ≡ []
  empty_end [] ys e = e
  empty_end (x ∷ xs) ys e = absurd (cc)

  apart_at : (u : ℕ × TapTold) (l : ℕ) (first : History) (ks : List ℕ) → Piece u first
      → takers l first ++ ks ≡ [] → (u.0 ≡ l → ⊥) × (ks ≡ [])
  apart_at u l first ks p none = (
    λ same.
        let x : (lane ∷ []) ++ ks ≡ [] =
        ap (λ (xs : List ℕ). xs ++ ks)
        (sym (subst (λ (n : ℕ). takers n first ≡ lane ∷ []) same (taken_at u first p)))
        ∙ none in
        cc,
    empty_end (takers l first) ks none,
  )

  not_in : (l : ℕ) (ts : List (ℕ × TapTold)) (es : History) → Pieces ts es → takers l es ≡ []
      → NotIn l ts
  not_in l [] es p none = tt
  not_in l (u ∷ us) es p none =
      let a = apart_at u l p.0 (takers l p.1) p.3
      (sym (ap (takers l) p.2 ∙ takers_append l p.0 p.1) ∙ none) in
      (a.0, not_in l us p.1 p.4 a.1)

  -- at most one lane was given the line
  abbrev AtMostOne : History → Type 0
  AtMostOne es = (l : ℕ) → length (takers l es) ≤ 1

  none_left : (xs : List ℕ) → length (lane ∷ xs) ≤ 1 → xs ≡ []
  none_left [] e = refl
  none_left (x ∷ xs) e = absurd (omega (arith, e))

  fewer : (xs ys : List ℕ) → length (xs ++ ys) ≤ 1 → length ys ≤ 1
  fewer [] ys e = e
  fewer (x ∷ xs) ys e = fewer xs ys (omega (arith, e))

  all_apart : (ts : List (ℕ × TapTold)) (es : History) → Pieces ts es → AtMostOne es
      → AllApart ts
  all_apart [] es p one = tt
  all_apart (t ∷ ts) es p one =
      let split : (l : ℕ) → takers l es ≡ takers l p.0 ++ takers l p.1 =
      λ l. ap (takers l) p.2 ∙ takers_append l p.0 p.1 in
      let here : takers t.0 es ≡ lane ∷ takers t.0 p.1 =
      split t.0 ∙ ap (λ (xs : List ℕ). xs ++ takers t.0 p.1) (taken_at t p.0 p.3) in (
        not_in t.0 ts p.1 p.4
            (none_left (takers t.0 p.1)
            (subst (λ (xs : List ℕ). length xs ≤ 1) here (one t.0))),
        all_apart ts p.1 p.4 (λ l. fewer (takers l p.0) (takers l p.1)
            (subst (λ (xs : List ℕ). length xs ≤ 1) (split l) (one l))),
      )

  -- what holds of each line that has a taker here holds of each tap
  each_taken : (X : ℕ → Type 0) (ts : List (ℕ × TapTold)) (es : History) → Pieces ts es
      → ((l : ℕ) → (takers l es ≡ [] → ⊥) → X l) → Each (λ t. X t.0) ts
  each_taken X [] es p x = tt
  each_taken X (t ∷ ts) es p x =
      let split : (l : ℕ) → takers l es ≡ takers l p.0 ++ takers l p.1 =
      λ l. ap (takers l) p.2 ∙ takers_append l p.0 p.1 in (
        x t.0 (λ none.
            let y : (lane ∷ []) ++ takers t.0 p.1 ≡ [] =
            ap (λ (xs : List ℕ). xs ++ takers t.0 p.1) (sym (taken_at t p.0 p.3))
            ∙ (sym (split t.0) ∙ none) in
            cc),
        each_taken X ts p.1 p.4 (λ l some.
            x l (λ none. some (empty_end (takers l p.0) (takers l p.1)
            (sym (split l) ∙ none)))),
      )

-- ---- the takers among a lane's own entries

abbrev only : ℕ → List ℕ → List ℕ
only lane [] = []
only lane (k ∷ ks) = cond (lane == k) (k ∷ only lane ks) (only lane ks)

own_step : (lane l : ℕ) (e : Past) (own : History) (ks : List ℕ) (mine gives : Bool)
    → (lane == e.lane) ≡ mine → takes l e.reply ≡ gives → takers l own ≡ only lane ks
    → takers l (cond mine (e ∷ own) own) ≡ only lane (cond gives (e.lane ∷ ks) ks)
own_step lane l e own ks true true is gives so =
    ap (λ (b : Bool). cond b (e.lane ∷ takers l own) (takers l own)) gives
    ∙ (ap (λ (js : List ℕ). e.lane ∷ js) so
    ∙ sym (ap (λ (b : Bool). cond b (e.lane ∷ only lane ks) (only lane ks)) is))
own_step lane l e own ks true false is gives so =
    ap (λ (b : Bool). cond b (e.lane ∷ takers l own) (takers l own)) gives ∙ so
own_step lane l e own ks false true is gives so =
    so ∙ sym (ap (λ (b : Bool). cond b (e.lane ∷ only lane ks) (only lane ks)) is)
own_step lane l e own ks false false is gives so = so

own_takers : (lane l : ℕ) (h : History) → takers l (calls_by lane h) ≡ only lane (takers l h)
own_takers lane l [] = refl
own_takers lane l (e ∷ h) =
    own_step lane l e (calls_by lane h) (takers l h) (lane == e.lane) (takes l e.reply) refl refl
    (own_takers lane l h)

short_only : (lane k : ℕ) → length (only lane (k ∷ [])) ≤ 1
short_only lane k = elim (lane == k) as (λ b. length (cond b (k ∷ []) []) ≤ 1) [
  | true ↦ omega arith
  | false ↦ omega arith
]

same_head : (k j : ℕ) → k ∷ [] ≡ j ∷ [] → k ≡ j
same_head k j e = cc

module _ (h : History) (told : Told h) (lane : ℕ) where
  one_taker : (l : ℕ) → length (takers l (calls_by lane h)) ≤ 1
  one_taker l =
      subst (λ (ks : List ℕ). length ks ≤ 1) (sym (own_takers lane l h)) (⊎_elim
      (λ none. subst (λ (ks : List ℕ). length (only lane ks) ≤ 1) (sym none) (omega arith))
      (λ one. subst (λ (ks : List ℕ). length (only lane ks) ≤ 1) (sym one.1)
      (short_only lane one.0))
      (told.once l))

  own_says : (l k : ℕ) (mine : Bool) → (lane == k) ≡ mine → takers l h ≡ k ∷ []
      → (takers l (calls_by lane h) ≡ [] → ⊥) → Same h (calls_by lane h) l
  own_says l k true is one some =
      let Tells : Past → Type 0 = λ e. tells_of l e.call ≡ true → takers l h ≡ e.lane ∷ [] in
      own_all lane l h (each_so Tells (Own lane l) h
      (λ e tells said. same_head e.lane k (sym (tells said) ∙ one) ∙ sym (eqb-true lane k is))
      (told.tells l))
  own_says l k false is one some = absurd (some (
      own_takers lane l h ∙ (ap (only lane) one ∙ ap (λ (b : Bool). cond b (k ∷ []) []) is)
      ))

  taken_says : (l : ℕ) → (takers l (calls_by lane h) ≡ [] → ⊥) → Same h (calls_by lane h) l
  taken_says l some = ⊎_elim
      (λ none. absurd (some (own_takers lane l h ∙ ap (only lane) none)))
      (λ one. own_says l one.0 (lane == one.0) refl one.1 some)
      (told.once l)

  pub says_what_taps_tell : (s : Speech) (halted : Option TapHalt) (taps : List (ℕ × TapTold))
      → LaneEnds s lane halted taps (calls_by lane h)
      → AllApart taps × Each (PipeOf s h) taps
  says_what_taps_tell s halted taps ends =
      let p = lane_pieces s lane halted taps (calls_by lane h) ends in
      let apart = all_apart s lane taps (calls_by lane h) p one_taker in (
        apart,
        pipes s lane h taps (calls_by lane h) apart p
            (each_taken s lane (Same h (calls_by lane h)) taps (calls_by lane h) p taken_says),
      )

  -- a line that was given to nobody
  pub not_given : (l : ℕ) → takers l h ≡ [] → Silent l h
  not_given l none =
      let Tells : Past → Type 0 = λ e. tells_of l e.call ≡ true → takers l h ≡ e.lane ∷ [] in
      silent_all l h (each_so Tells (λ e. tells_of l e.call ≡ true → ⊥) h
      (λ e tells said. let x : e.lane ∷ [] ≡ [] = sym (tells said) ∙ none in cc)
      (told.tells l))
