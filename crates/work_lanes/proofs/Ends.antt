-- How all is over, by how the queue and the reader have ended.
use Rattle.std.proofs.Common.{◌≡◌, ℕ, ℤ, ◌≤◌, Bool, true, false, List, [], ◌∷◌, map, length, Some}
use Rattle.std.proofs.Common.{refl, ap, sym, ◌∙◌, ◌+◌, subst, arith}
use Rattle.std.proofs.lemmas.List.{length-map}
use Rattle.std.specs.List.{flat_map, AllByRecursion}
use Rattle.outside.specs.Told.{TapTold, SinkTold}
use Rattle.json_framing.specs.Cutter.{form_of}
use Rattle.json_framing.specs.declared.cutter.Framing.{Framing}
use Rattle.message_service.specs.declared.finish.Finish.{Finish}
use Rattle.message_service.specs.declared.finish.Finish.TheVariants as finish
use Rattle.message_service.specs.Ends as ends
use Rattle.message_service.specs.Ends.{PutsBy, CausedBy}
use Rattle.message_service.specs.Serves.{ReadsBy}
use Rattle.work_queue.specs.declared.queue.How.{How}
use Rattle.work_queue.specs.declared.queue.How.TheVariants as how
use Rattle.work_queue.specs.declared.queue.WorkQueue.{WorkQueue}
use Rattle.work_queue.specs.States.{State, Task, InHand, asked_from, IsProper, IsTaken, PutSo, PutAll, PutFront, times}
use Rattle.work_queue.specs.States.{places_waiting}
use Rattle.work_queue.specs.StateLaws.{Stands, EndsSo, row_of}
use Rattle.work_lanes.specs.Handles.{EachFollows}
use Rattle.work_lanes.specs.Serves.{Outside, ServesBy, HasRead, AnswersBy, IsOfReading, answered, piece}
use Rattle.work_lanes.specs.Crews.{finish_by}
use Rattle.work_queue.proofs.Proper.{all_more, taken_up}
use Rattle.work_lanes.proofs.Fronts.{reads_begin}

put_all : (bytes : List ℕ) (old new : SinkTold) → PutAll bytes old new → ends.PutAll bytes old new
put_all bytes old new p = record { given = p.given; count = p.count }

put_front : (bytes : List ℕ) (old new : SinkTold) → PutFront bytes old new
    → ends.PutFront bytes old new
put_front bytes old new p = record { given = p.given; rose = p.rose }

puts_reading : (f : Finish) (bytes : List ℕ) (old new : SinkTold) → IsOfReading f
    → PutSo false bytes old new → PutsBy (Some f) bytes old new
puts_reading finish.AtEnd bytes old new r p = put_all bytes old new p
puts_reading finish.NoMemory bytes old new r p = put_all bytes old new p
puts_reading finish.BadInput bytes old new r p = put_all bytes old new p
puts_reading finish.InputFault bytes old new r p = put_all bytes old new p
puts_reading finish.OutputFault bytes old new r p = absurd r
puts_reading finish.TooLong bytes old new r p = put_all bytes old new p

all_answered : (f : Finish) (these those : List ℕ) → ((k : ℕ) → times k these ≡ times k those)
    → AnswersBy f these those
all_answered finish.AtEnd these those e = e
all_answered finish.BadInput these those e = e
all_answered finish.InputFault these those e = e
all_answered finish.TooLong these those e = e
all_answered finish.NoMemory these those e = λ k. let i = e k in omega (arith, i)
all_answered finish.OutputFault these those e = λ k. let i = e k in omega (arith, i)

some_task : {A B : Type 0} (f : A → B) (x : A) (xs : List A) → [] ≡ map f (x ∷ xs) → ⊥
some_task f x xs e = cc

none_left : {A B : Type 0} (f : A → B) (xs : List A) → [] ≡ map f xs → xs ≡ []
none_left f [] e = refl
none_left f (x ∷ xs) e = absurd (some_task f x xs e)

module _ {X Y : Type 0} (number : X → ℤ) (cancels : X → Bool)
    (Says : X → Bool → Y → Type 0) where
  abbrev IsFine : State X Y → Type 0
  IsFine s = IsProper number cancels Says s

  -- the places of the requests that are to be answered
  abbrev to_answer : List X → List ℕ
  to_answer requests = asked_from number cancels 0 requests

  most : (s : State X Y) → IsFine s → (k : ℕ)
      → times k (answered s.replies) ≤ times k (to_answer s.heard)
  most s p k = let e = p.each k in omega (arith, e)

  exactly : (s : State X Y) → IsFine s → s.waiting ≡ [] → s.hands ≡ [] → (k : ℕ)
      → times k (answered s.replies) ≡ times k (to_answer s.heard)
  exactly s p w h k =
      let e = p.each k in
      let a = ap {B = ℕ} (λ (ts : List (Task X)). times k (map (λ t. t.place) ts)) w in
      let b = ap {B = ℕ} (λ (hs : List (InHand X)).
      times k (map (λ x. x.task.place) hs)) h in
      omega (arith, e, a, b)

  -- no more wait than may
  few_wait : (s : State X Y) (most : ℕ) → IsFine s → s.most ≤ most
      → length (places_waiting s) ≤ most
  few_wait s most p fits =
      let l = length-map s.waiting (λ (t : Task X). t.place) in
      let w = p.room in
      let m = p.most in omega (arith, l, w, m, fits)

module _ {X Y H : Type 0} (number : X → ℤ) (cancels : X → Bool)
    (Says : X → Bool → Y → Type 0) (written : Y → List ℕ) (f : Framing)
    (spells : List ℕ → X → Type 0) (answers : H → X → Y → H → Type 0)
    (breaks : H → X → H → Type 0) where
  abbrev pub Ends : ℕ → Finish → List H → List H → Outside → Outside → Type 0
  Ends depth how olds news old new =
      ServesBy number cancels Says written (form_of f) spells answers breaks depth how [] olds news
      old new

  abbrev put_for : State X Y → List ℕ
  put_for s = flat_map (λ r. written r.response) s.replies

  -- who took what, and what the handlers made of it
  abbrev pub Handled : List H → List H → State X Y → Type 0
  Handled olds news s =
      AllByRecursion (λ (h : InHand X). h.lane ≤ length olds) s.taken
      × EachFollows answers breaks 1 s.taken olds news

  module _ {O K : Type 0} (told_of : O → SinkTold) where
    abbrev Fine : WorkQueue O X Y K → State X Y → Type 0
    Fine m s = Stands number cancels Says written told_of m s

    -- what was put, by whether the sink has failed
    put_by_flag : (m : WorkQueue O X Y K) (s : State X Y) (b : Bool)
        (sink start : O) → m.outlet.has_failed ≡ b → m.outlet.sink ≡ sink
        → m.outlet.start.value ≡ start → Fine m s → PutSo b (put_for s) (told_of start) (told_of sink)
    put_by_flag m s b sink start flag is was st =
        subst (λ (x : O). PutSo b (put_for s) (told_of x) (told_of sink)) was
        (subst (λ (x : O). PutSo b (put_for s) (told_of m.outlet.start.value) (told_of x)) is
        (subst (λ (x : Bool). PutSo x (put_for s) (told_of m.outlet.start.value)
        (told_of m.outlet.sink)) flag st.put))

    pub ends_so : (depth : ℕ) (m : WorkQueue O X Y K) (s : State X Y) (how : How)
        (reading : Finish) (sink start : O) (heard : List X) (olds news : List H)
        (input input' : TapTold)
        → Fine m s → EndsSo m sink how → m.outlet.start.value ≡ start → s.heard ≡ heard
        → s.most ≤ depth + piece → Handled olds news s
        → HasRead (form_of f) spells reading heard input input'
        → Ends depth (finish_by how reading) olds news (record { tap = input; sink = told_of start })
        (record { tap = input'; sink = told_of sink })
    ends_so depth m s how.Failed reading sink start heard olds news input input' st e was same fits by read =
        record {
          serves = record {
            bytes = read.bytes;
            requests = s.heard;
            replies = s.replies;
            begun = s.taken;
            taken = read.taken;
            reads = reads_begin f spells reading read.bytes s.heard
                (subst (λ (ms : List X). ReadsBy (form_of f) spells reading read.bytes ms)
                (sym same) read.reads);
            caused = tt;
            put = put_front (put_for s) (told_of start) (told_of sink)
                (put_by_flag m s true sink start e.1 e.0 was st);
            said = st.proper.said;
            once = most number cancels Says s st.proper;
            took = all_more (IsTaken number cancels s.heard s.most)
                (IsTaken number cancels s.heard (depth + piece))
                (taken_up number cancels s.heard s.most (depth + piece) fits) s.taken
                st.proper.took;
            order = (
              places_waiting s,
              few_wait number cancels Says s (depth + piece) st.proper fits,
              st.proper.order,
            );
          };
          lanes = by.0;
          each = by.1;
        }
    ends_so depth m s how.Halted reading sink start heard olds news input input' st e was same fits by read =
        record {
          serves = record {
            bytes = read.bytes;
            requests = s.heard;
            replies = s.replies;
            begun = s.taken;
            taken = read.taken;
            reads = reads_begin f spells reading read.bytes s.heard
                (subst (λ (ms : List X). ReadsBy (form_of f) spells reading read.bytes ms)
                (sym same) read.reads);
            caused = tt;
            put = put_all (put_for s) (told_of start) (told_of sink)
                (put_by_flag m s false sink start e.1 e.0 was st);
            said = st.proper.said;
            once = most number cancels Says s st.proper;
            took = all_more (IsTaken number cancels s.heard s.most)
                (IsTaken number cancels s.heard (depth + piece))
                (taken_up number cancels s.heard s.most (depth + piece) fits) s.taken
                st.proper.took;
            order = (
              places_waiting s,
              few_wait number cancels Says s (depth + piece) st.proper fits,
              st.proper.order,
            );
          };
          lanes = by.0;
          each = by.1;
        }
    ends_so depth m s how.Whole reading sink start heard olds news input input' st e was same fits by read =
        record {
          serves = record {
            bytes = read.bytes;
            requests = s.heard;
            replies = s.replies;
            begun = s.taken;
            taken = read.taken;
            reads = subst (λ (ms : List X). ReadsBy (form_of f) spells reading read.bytes ms)
                (sym same) read.reads;
            caused = read.caused;
            put = puts_reading reading (put_for s) (told_of start) (told_of sink) read.kind
                (put_by_flag m s false sink start e.1 e.0 was st);
            said = st.proper.said;
            once = all_answered reading (answered s.replies)
                (to_answer number cancels Says s.heard)
                (exactly number cancels Says s st.proper
                (none_left (λ (t : Task X). t.work) s.waiting (sym e.2.0 ∙ st.rows.0))
                (none_left (row_of number) s.hands (sym e.2.1 ∙ st.rows.1)));
            took = all_more (IsTaken number cancels s.heard s.most)
                (IsTaken number cancels s.heard (depth + piece))
                (taken_up number cancels s.heard s.most (depth + piece) fits) s.taken
                st.proper.took;
            order = (
              places_waiting s,
              few_wait number cancels Says s (depth + piece) st.proper fits,
              st.proper.order,
            );
          };
          lanes = by.0;
          each = by.1;
        }
