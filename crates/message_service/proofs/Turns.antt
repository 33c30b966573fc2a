-- Turns, one after another.
use Rattle.std.proofs.Common.{◌≡◌, ℕ, ◌+◌, ◌<◌, ◌≤◌, List, [], ◌∷◌, ◌++◌, length, drop, get_or}
use Rattle.std.proofs.Common.{Option, Some, None, Result, refl, ap, sym, ◌∙◌, subst, append_assoc}
use Rattle.std.proofs.Common.{append-nil, drop-cons, inr, suc, arith, take, ◌-◌, length-drop}
use Rattle.std.proofs.Math.ListN.{drop_of_length-le}
use Rattle.std.proofs.lemmas.List.{take_all}
use Rattle.std.proofs.lemmas.Grind.{flat_map-append}
use Rattle.plain_values.specs.declared.no_memory.NoMemory.{NoMemory}
use Rattle.outside.specs.Told.{SinkTold, ShopTold}
use Rattle.outside.specs.declared.shop.ShopCall.{ShopCall}
use Rattle.message_service.specs.declared.finish.Finish.{Finish}
use Rattle.message_service.specs.declared.finish.Finish.TheVariants as finish
use Rattle.message_service.specs.Calls.{Made}
use Rattle.message_service.specs.Turns.{Turn, Span, said, put_by, calls_by, came_in, turns_in}
use Rattle.message_service.specs.Turns.{Follows, Runs}
use Rattle.message_service.specs.Ends.{PutAll, PutsBy}
use Rattle.message_service.specs.Serves.{LeftBy, Handled, Answered}
use Rattle.message_service.specs.Steps.{Puts, Deals, CutsOff}
use Rattle.message_service.proofs.Made.{made_on, made_nothing, put_nothing, put_on, put_front}
use Rattle.message_service.proofs.Made.{puts_on}

pub calls_on : (ts us : List Turn) → calls_by (ts ++ us) ≡ calls_by ts ++ calls_by us
calls_on ts us = flat_map-append (λ (t : Turn). t.calls) ts us

pub said_on : (ts us : List Turn) → put_by (ts ++ us) ≡ put_by ts ++ put_by us
said_on ts us = flat_map-append (λ (t : Turn). said t.reply) ts us

-- ---- one span more

module _ {M : Type 0} where
  abbrev pub span_of : List M → List Turn → Span M
  span_of more turns = record { came = more; turns = turns }

  pub came_on : (ss : List (Span M)) (more : List M) (turns : List Turn)
      → came_in (ss ++ span_of more turns ∷ []) ≡ came_in ss ++ more
  came_on ss more turns =
      flat_map-append (λ (s : Span M). s.came) ss (span_of more turns ∷ [])
      ∙ ap (λ (ms : List M). came_in ss ++ ms) (append-nil more)

  pub turns_on : (ss : List (Span M)) (more : List M) (turns : List Turn)
      → turns_in (ss ++ span_of more turns ∷ []) ≡ turns_in ss ++ turns
  turns_on ss more turns =
      flat_map-append (λ (s : Span M). s.turns) ss (span_of more turns ∷ [])
      ∙ ap (λ (ts : List Turn). turns_in ss ++ ts) (append-nil turns)

  pub span_said : (ss : List (Span M)) (more : List M) (turns : List Turn)
      → put_by (turns_in (ss ++ span_of more turns ∷ [])) ≡ put_by (turns_in ss) ++ put_by turns
  span_said ss more turns = ap (λ (ts : List Turn). put_by ts) (turns_on ss more turns)
      ∙ said_on (turns_in ss) turns

  pub span_calls : (ss : List (Span M)) (more : List M) (turns : List Turn)
      → calls_by (turns_in (ss ++ span_of more turns ∷ []))
      ≡ calls_by (turns_in ss) ++ calls_by turns
  span_calls ss more turns = ap (λ (ts : List Turn). calls_by ts) (turns_on ss more turns)
      ∙ calls_on (turns_in ss) turns

module _ {M : Type 0} (Answers : M → List M → List ShopCall → Result (Option (List ℕ)) NoMemory
    → Type 0) where
  -- one turn more
  pub follows_step : (ms : List M) (ts : List Turn) (m : M) (left : List M) (t : Turn)
      → Follows Answers ms ts (m ∷ left) → Answers m left t.calls (Result.Ok t.reply)
      → Follows Answers ms (ts ++ t ∷ []) left
  follows_step ms [] m left t f h =
      subst (λ (xs : List M). Follows Answers xs (t ∷ []) left) (sym f) (h, refl)
  follows_step [] (u ∷ us) m left t f h = absurd f
  follows_step (n ∷ ns) (u ∷ us) m left t f h = (f.0, follows_step ns us m left t f.1 h)

  pub runs_step : (waiting : List M) (ss : List (Span M)) (rest more : List M) (turns : List Turn)
      (left : List M) → Runs Answers waiting ss rest → Follows Answers (rest ++ more) turns left
      → Runs Answers waiting (ss ++ span_of more turns ∷ []) left
  runs_step waiting [] rest more turns left r f =
      (left, subst (λ (xs : List M). Follows Answers (xs ++ more) turns left) (sym r) f, refl)
  runs_step waiting (s ∷ ss) rest more turns left r f =
      (r.0, r.1, runs_step r.0 ss rest more turns left r.2 f)

  -- ---- the spans so far

  -- these messages came, all but what is left was dealt with, and all went well
  pub record Spanned (ms left : List M) (out out' : SinkTold) (shop shop' : ShopTold)
      : Type 0 where
    pub spans : List (Span M)
    pub came : came_in spans ≡ ms
    pub runs : Runs Answers [] spans left
    pub put : PutAll (put_by (turns_in spans)) out out'
    pub made : Made (calls_by (turns_in spans)) shop shop'

  pub spanned_none : (out : SinkTold) (shop : ShopTold) → Spanned [] [] out out shop shop
  spanned_none out shop = record {
    spans = [];
    came = refl;
    runs = refl;
    put = put_nothing out;
    made = made_nothing shop;
  }

  pub spanned_more : (ms queue more left : List M) (turns : List Turn) (out mid out' : SinkTold)
      (shop shop'' shop' : ShopTold) → Spanned ms queue out mid shop shop''
      → Follows Answers (queue ++ more) turns left → PutAll (put_by turns) mid out'
      → Made (calls_by turns) shop'' shop' → Spanned (ms ++ more) left out out' shop shop'
  spanned_more ms queue more left turns out mid out' shop shop'' shop' s f put made = record {
    spans = s.spans ++ span_of more turns ∷ [];
    came = came_on s.spans more turns ∙ ap (λ (xs : List M). xs ++ more) s.came;
    runs = runs_step [] s.spans queue more turns left s.runs f;
    put = subst (λ (bytes : List ℕ). PutAll bytes out out') (sym (span_said s.spans more turns))
        (put_on (put_by (turns_in s.spans)) (put_by turns) out mid out' s.put put);
    made = subst (λ (cs : List ShopCall). Made cs shop shop') (sym (span_calls s.spans more turns))
        (made_on (calls_by (turns_in s.spans)) (calls_by turns) shop shop'' shop' s.made made);
  }

  -- and these were the last turns
  pub spanned_ends : (how : Option Finish) (ms queue more left : List M) (turns : List Turn)
      (begun : List ShopCall) (out mid out' : SinkTold) (shop shop'' shop' : ShopTold)
      → Spanned ms queue out mid shop shop'' → Follows Answers (queue ++ more) turns left
      → LeftBy Answers how left begun → PutsBy how (put_by turns) mid out'
      → Made (calls_by turns ++ begun) shop'' shop'
      → Answered Answers how [] (ms ++ more) out out' shop shop'
  spanned_ends how ms queue more left turns begun out mid out' shop shop'' shop' s f l put made =
      record {
        spans = s.spans ++ span_of more turns ∷ [];
        left = left;
        begun = begun;
        came = came_on s.spans more turns ∙ ap (λ (xs : List M). xs ++ more) s.came;
        runs = runs_step [] s.spans queue more turns left s.runs f;
        leaves = l;
        put = subst (λ (bytes : List ℕ). PutsBy how bytes out out')
            (sym (span_said s.spans more turns))
            (puts_on how (put_by (turns_in s.spans)) (put_by turns) out mid out' s.put put);
        made = subst (λ (cs : List ShopCall). Made cs shop shop')
            (sym (append_assoc (calls_by (turns_in s.spans)) (calls_by turns) begun)
            ∙ ap (λ (cs : List ShopCall). cs ++ begun) (sym (span_calls s.spans more turns)))
            (made_on (calls_by (turns_in s.spans)) (calls_by turns ++ begun) shop shop'' shop'
            s.made made);
      }

  -- ---- lists of messages, each handled before the next is read

  pub handled_more : (ms more : List M) (out mid out' : SinkTold) (shop shop'' shop' : ShopTold)
      → Spanned ms [] out mid shop shop'' → Handled Answers None more mid out' shop'' shop'
      → Spanned (ms ++ more) [] out out' shop shop'
  handled_more ms more out mid out' shop shop'' shop' s h =
      spanned_more ms [] more [] h.turns out mid out' shop shop'' shop' s
      (subst (λ (l : List M). Follows Answers more h.turns l) h.leaves.0 h.follows) h.put
      (subst (λ (cs : List ShopCall). Made cs shop'' shop')
      (ap (λ (cs : List ShopCall). calls_by h.turns ++ cs) h.leaves.1
      ∙ append-nil (calls_by h.turns)) h.made)

  pub handled_ends : (how : Option Finish) (ms more : List M) (out mid out' : SinkTold)
      (shop shop'' shop' : ShopTold) → Spanned ms [] out mid shop shop''
      → Handled Answers how more mid out' shop'' shop'
      → Answered Answers how [] (ms ++ more) out out' shop shop'
  handled_ends how ms more out mid out' shop shop'' shop' s h =
      spanned_ends how ms [] more h.left h.turns h.begun out mid out' shop shop'' shop' s h.follows
      h.leaves h.put h.made

  -- an end that leaves nothing
  abbrev pub IsDone : Finish → Type 0
  IsDone finish.AtEnd = Unit {0}
  IsDone finish.BadInput = Unit {0}
  IsDone finish.InputFault = Unit {0}
  IsDone finish.TooLong = Unit {0}
  IsDone finish.NoMemory = ⊥
  IsDone finish.OutputFault = ⊥

  leaves_none : (f : Finish) → IsDone f → LeftBy Answers (Some f) [] []
  leaves_none finish.AtEnd d = (refl, refl)
  leaves_none finish.BadInput d = (refl, refl)
  leaves_none finish.InputFault d = (refl, refl)
  leaves_none finish.TooLong d = (refl, refl)
  leaves_none finish.NoMemory d = absurd d
  leaves_none finish.OutputFault d = absurd d

  puts_all : (f : Finish) (bytes : List ℕ) (out out' : SinkTold) → IsDone f
      → PutAll bytes out out' → PutsBy (Some f) bytes out out'
  puts_all finish.AtEnd bytes out out' d p = p
  puts_all finish.BadInput bytes out out' d p = p
  puts_all finish.InputFault bytes out out' d p = p
  puts_all finish.TooLong bytes out out' d p = p
  puts_all finish.NoMemory bytes out out' d p = absurd d
  puts_all finish.OutputFault bytes out out' d p = absurd d

  pub spanned_done : (f : Finish) (ms : List M) (out out' : SinkTold) (shop shop' : ShopTold)
      → IsDone f → Spanned ms [] out out' shop shop'
      → Answered Answers (Some f) [] ms out out' shop shop'
  spanned_done f ms out out' shop shop' d s = record {
    spans = s.spans;
    left = [];
    begun = [];
    came = s.came;
    runs = s.runs;
    leaves = leaves_none f d;
    put = puts_all f (put_by (turns_in s.spans)) out out' d s.put;
    made = subst (λ (cs : List ShopCall). Made cs shop shop')
        (sym (append-nil (calls_by (turns_in s.spans)))) s.made;
  }

  -- ---- from the turns so far

  pub record SoFar (ms left : List M) (out out' : SinkTold) (shop shop' : ShopTold) : Type 0 where
    pub turns : List Turn
    pub follows : Follows Answers ms turns left
    pub put : PutAll (put_by turns) out out'
    pub made : Made (calls_by turns) shop shop'

  pub so_far_none : (ms : List M) (out : SinkTold) (shop : ShopTold) → SoFar ms ms out out shop shop
  so_far_none ms out shop = record {
    turns = [];
    follows = refl;
    put = put_nothing out;
    made =
        made_nothing shop;
  }

  one_said : (t : Turn) → put_by (t ∷ []) ≡ said t.reply
  one_said t = append-nil (said t.reply)

  one_call : (t : Turn) → calls_by (t ∷ []) ≡ t.calls
  one_call t = append-nil t.calls

  said_more : (ts : List Turn) (t : Turn) → put_by ts ++ said t.reply ≡ put_by (ts ++ t ∷ [])
  said_more ts t = sym (said_on ts (t ∷ []) ∙ ap (λ (xs : List ℕ). put_by ts ++ xs) (one_said t))

  calls_more : (ts : List Turn) (t : Turn) → calls_by ts ++ t.calls ≡ calls_by (ts ++ t ∷ [])
  calls_more ts t = sym (calls_on ts (t ∷ []) ∙ ap (λ (xs : List ShopCall). calls_by ts ++ xs)
      (one_call t))

  made_more : (ms left : List M) (m : M) (out mid out' : SinkTold) (shop shop'' shop' : ShopTold)
      (s : SoFar ms (m ∷ left) out mid shop shop'') (t : Turn) → Made t.calls shop'' shop'
      → Made (calls_by (s.turns ++ t ∷ [])) shop shop'
  made_more ms left m out mid out' shop shop'' shop' s t made =
      subst (λ (cs : List ShopCall). Made cs shop shop') (calls_more s.turns t) (made_on (calls_by
      s.turns) t.calls shop shop'' shop' s.made made)

  -- one more went well
  pub so_far_more : (ms left : List M) (m : M) (out mid out' : SinkTold) (shop shop'' shop' :
      ShopTold) → SoFar ms (m ∷ left) out mid shop shop'' → Deals Answers None m left mid out'
      shop'' shop' → SoFar ms left out out' shop shop'
  so_far_more ms left m out mid out' shop shop'' shop' s d = record {
    turns = s.turns ++ d.turn ∷ [];
    follows = follows_step ms s.turns m left d.turn s.follows d.is;
    put = subst (λ (bytes : List ℕ). PutAll bytes out out') (said_more s.turns d.turn) (put_on
        (put_by s.turns) (said d.turn.reply) out mid out' s.put d.put);
    made = made_more ms left m out mid out' shop shop'' shop' s d.turn d.made;
  }

  -- all went well
  pub so_far_all : (ms : List M) (out out' : SinkTold) (shop shop' : ShopTold)
      → SoFar ms [] out out' shop shop' → Handled Answers None ms out out' shop shop'
  so_far_all ms out out' shop shop' s = record {
    turns = s.turns;
    left = [];
    begun = [];
    follows =
        s.follows;
    leaves = (refl, refl);
    put = s.put;
    made = subst (λ (cs : List ShopCall). Made cs
        shop shop') (sym (append-nil (calls_by s.turns))) s.made;
  }

  -- one ended it
  pub so_far_ends : (f : Finish) (ms left : List M) (m : M) (out mid out' : SinkTold) (shop shop''
      shop' : ShopTold) → SoFar ms (m ∷ left) out mid shop shop''
      → Deals Answers (Some f) m left mid out' shop'' shop'
      → Handled Answers (Some f) ms out out' shop shop'
  so_far_ends finish.AtEnd ms left m out mid out' shop shop'' shop' s d = absurd d
  so_far_ends finish.BadInput ms left m out mid out' shop shop'' shop' s d = absurd d
  so_far_ends finish.InputFault ms left m out mid out' shop shop'' shop' s d = absurd d
  so_far_ends finish.TooLong ms left m out mid out' shop shop'' shop' s d = absurd d
  so_far_ends finish.NoMemory ms left m out mid out' shop shop'' shop' s d = record {
    turns = s.turns;
    left = m ∷ left;
    begun = d.begun;
    follows = s.follows;
    leaves = inr d.is;
    put = subst (λ (o : SinkTold). PutAll (put_by s.turns) out o) (sym d.still) s.put;
    made = made_on (calls_by s.turns) d.begun shop shop'' shop' s.made d.made;
  }
  so_far_ends finish.OutputFault ms left m out mid out' shop shop'' shop' s d = record {
    turns = s.turns ++ d.turn ∷ [];
    left = left;
    begun = [];
    follows = follows_step ms s.turns m left d.turn s.follows d.is;
    leaves = refl;
    put = subst (λ (bytes : List ℕ). PutsBy (Some finish.OutputFault) bytes out out') (said_more
        s.turns d.turn) (put_front (put_by s.turns) (said d.turn.reply) out mid out' s.put d.put);
    made = subst (λ (cs : List ShopCall). Made cs shop shop') (sym (append-nil (calls_by (s.turns
        ++ d.turn ∷ [])))) (made_more ms left m out mid out' shop shop'' shop' s d.turn d.made);
  }

-- ---- the loop

suc_is : (k : ℕ) → suc k ≡ k + 1
suc_is k = omega arith

pub drop_here : {A : Type 0} (xs : List A) (k : ℕ) (x : A) → k < length xs → x ≡ get_or xs k x
    → drop k xs ≡ x ∷ drop (k + 1) xs
drop_here {A = A} xs k x below is = drop-cons xs k x below ∙ ap (λ (y : A). y ∷ drop (suc k) xs)
    (sym is) ∙ ap (λ (j : ℕ). x ∷ drop j xs) (suc_is k)

-- ---- one message

pub dealt : {M : Type 0} (Answers : M → List M → List ShopCall
    → Result (Option (List ℕ)) NoMemory → Type 0) (how : Option Finish) (m : M) (later : List M)
    (reply : Option (List ℕ)) (calls : List ShopCall) (out out' : SinkTold) (shop shop' : ShopTold)
    → Answers m later calls (Result.Ok reply) → Made calls shop shop' → Puts how reply out out'
    → Deals Answers how m later out out' shop shop'
dealt Answers None m later reply calls out out' shop shop' a made put = record {
  turn = record { calls = calls; reply = reply };
  is = a;
  put = put;
  made = made;
}
dealt Answers (Some finish.OutputFault) m later reply calls out out' shop shop' a made put =
    record {
      turn = record { calls = calls; reply = reply };
      is = a;
      put = put;
      made = made;
    }
dealt Answers (Some finish.AtEnd) m later reply calls out out' shop shop' a made put = absurd put
dealt Answers (Some finish.NoMemory) m later reply calls out out' shop shop' a made put = absurd put
dealt Answers (Some finish.BadInput) m later reply calls out out' shop shop' a made put = absurd put
dealt Answers (Some finish.InputFault) m later reply calls out out' shop shop' a made put =
    absurd put
dealt Answers (Some finish.TooLong) m later reply calls out out' shop shop' a made put = absurd put

-- all that stands behind
behind_all : {A : Type 0} (xs : List A) (k : ℕ) → take (length xs - k) (drop k xs) ≡ drop k xs
behind_all xs k = take_all (length xs - k) (drop k xs) (omega (arith, length-drop k xs))

module _ {M : Type 0} (Answers : M → List M → List ShopCall → Result (Option (List ℕ)) NoMemory
    → Type 0) (ms : List M) (k : ℕ) (x : M) (below : k < length ms) (is : x ≡ get_or ms k x) where
  abbrev pub Behind : List M
  Behind = take (length ms - (k + 1)) (drop (k + 1) ms)

  pub loop_goes : (out mid out' : SinkTold) (shop shop'' shop' : ShopTold)
      → SoFar Answers ms (drop k ms) out mid shop shop'' → Deals Answers None x Behind mid out'
      shop'' shop' → SoFar Answers ms (drop (k + 1) ms) out out' shop shop'
  loop_goes out mid out' shop shop'' shop' s d =
      so_far_more Answers ms (drop (k + 1) ms) x out mid out' shop shop'' shop' (subst (λ (l : List
      M). SoFar Answers ms l out mid shop shop'') (drop_here ms k x below is) s)
      (subst (λ (l : List M). Deals Answers None x l mid out' shop'' shop') (behind_all ms (k + 1))
      d)

  pub loop_ends : (f : Finish) (out mid out' : SinkTold) (shop shop'' shop' : ShopTold)
      → SoFar Answers ms (drop k ms) out mid shop shop'' → Deals Answers (Some f) x Behind mid out'
      shop'' shop' → Handled Answers (Some f) ms out out' shop shop'
  loop_ends f out mid out' shop shop'' shop' s d =
      so_far_ends Answers f ms (drop (k + 1) ms) x out mid out' shop shop'' shop' (subst (λ (l :
      List M). SoFar Answers ms l out mid shop shop'') (drop_here ms k x below is) s)
      (subst (λ (l : List M). Deals Answers (Some f) x l mid out' shop'' shop') (behind_all ms (k +
      1)) d)

pub loop_done : {M : Type 0} (Answers : M → List M → List ShopCall
    → Result (Option (List ℕ)) NoMemory → Type 0) (ms : List M) (k : ℕ) (out out' : SinkTold) (shop
    shop' : ShopTold) → length ms ≤ k → SoFar Answers ms (drop k ms) out out' shop shop'
    → Handled Answers None ms out out' shop shop'
loop_done {M = M} Answers ms k out out' shop shop' past s = so_far_all Answers ms out out' shop
    shop' (subst (λ (l : List M). SoFar Answers ms l out out' shop shop') (drop_of_length-le ms
    past) s)

pub deals_cut : {M : Type 0} (Answers : M → List M → List ShopCall
    → Result (Option (List ℕ)) NoMemory → Type 0) (f : Finish) (m : M) (later : List M) (out out' :
    SinkTold) (shop shop' : ShopTold) → Deals Answers (Some f) m later out out' shop shop'
    → CutsOff f
deals_cut Answers finish.NoMemory m later out out' shop shop' d = tt
deals_cut Answers finish.OutputFault m later out out' shop shop' d = tt
deals_cut Answers finish.AtEnd m later out out' shop shop' d = absurd d
deals_cut Answers finish.BadInput m later out out' shop shop' d = absurd d
deals_cut Answers finish.InputFault m later out out' shop shop' d = absurd d
deals_cut Answers finish.TooLong m later out out' shop shop' d = absurd d
