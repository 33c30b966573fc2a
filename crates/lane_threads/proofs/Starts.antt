-- Threads are given slots, and give them back.
use Rattle.std.proofs.Common.{◌≡◌, false, List, [], ◌∷◌, ◌++◌, refl, sym, ◌∙◌, ap, subst, append_assoc, append-nil, All}
use Rattle.std.proofs.lemmas.List.Elements.{All-nil, All-cons, All-same, All-rest, All-head, AllZip-push}
use Rattle.std.specs.List.{AllZip, list_any}
use Rattle.std.specs.declared.thread.PromisedHandle.{PromisedHandle}
use Rattle.lane_threads.specs.declared.job.Task.{Task}
use Rattle.lane_threads.specs.declared.job.Slot.{Slot}
use Rattle.lane_threads.specs.declared.job.Slot.TheVariants.{Ready, Ended}
use Rattle.lane_threads.specs.Jobs.{CanRun, CanRunIfLeft, EndsAs, HasEnded, MayHaveEnded, IsOver, has_end, slots_of}

all_more : {X : Type 0} (P : X → Type 0) (xs : List X) (x : X) → All P xs → P x → All P (xs ++ x ∷ [])
all_more P [] x all here = All-cons P x [] here all
all_more P (y ∷ ys) x all here = All-cons P y (ys ++ x ∷ []) (All-head P y ys all) (all_more P ys x (All-rest P y ys (y ∷ ys) refl all) here)

zip_on : {A B : Type 0} (P : A → B → Type 0) (xs ys : List A) (us vs : List B) → AllZip P xs us → AllZip P ys vs → AllZip P (xs ++ ys) (us ++ vs)
zip_on P [] ys [] vs a b = b
zip_on P (x ∷ xs) ys (u ∷ us) vs a b = (a.0, zip_on P xs ys us vs a.1 b)
zip_on P [] ys (u ∷ us) vs a b = absurd a
zip_on P (x ∷ xs) ys [] vs a b = absurd a

module _ {C J E : Type 0} where
  posts_more : (threads : List (PromisedHandle (Slot J E) (Task C J E))) (thread : PromisedHandle (Slot J E) (Task C J E))
      → slots_of (threads ++ thread ∷ []) ≡ slots_of threads ++ thread.promise.slot.value ∷ []
  posts_more [] thread = refl
  posts_more (t ∷ ts) thread = ap (λ (ps : List (Slot J E)). t.promise.slot.value ∷ ps) (posts_more ts thread)

  -- some of the slots were given to these threads, those behind them have come late, and the rest is
  -- still to come
  pub record Starting (can : C → J → Type 0) (ends : C → J → E → Type 0) (context : C) (slots rest : List (Slot J E)) (threads : List (PromisedHandle (Slot J E) (Task C J E))) (late : List (Slot J E)) : Type 0 where
    pub behind : List (Slot J E)
    pub split : slots ≡ slots_of threads ++ (behind ++ rest)
    pub over : All (IsOver context) threads
    pub can_run : All (CanRun can context) rest
    pub kept : AllZip (MayHaveEnded ends context) behind late

  pub starts : (can : C → J → Type 0) (ends : C → J → E → Type 0) (context : C) (slots rest : List (Slot J E)) (threads : List (PromisedHandle (Slot J E) (Task C J E))) (late : List (Slot J E))
      → rest ≡ slots → threads ≡ [] → late ≡ [] → All (CanRun can context) slots → Starting can ends context slots rest threads late
  starts can ends context slots rest threads late e none empty all = record {
    behind = [];
    split = sym e ∙ ap (λ (ts : List (PromisedHandle (Slot J E) (Task C J E))). slots_of ts ++ rest) (sym none);
    over = All-same (IsOver context) threads [] none (All-nil (IsOver context));
    can_run = All-same (CanRun can context) rest slots e all;
    kept = subst (λ (ps : List (Slot J E)). AllZip (MayHaveEnded ends context) [] ps) (sym empty) tt;
  }

  none_behind : (ends : C → J → E → Type 0) (context : C) (behind late : List (Slot J E)) → late ≡ [] → AllZip (MayHaveEnded ends context) behind late → behind ≡ []
  none_behind ends context [] late e kept = refl
  none_behind ends context (p ∷ ps) late e kept = absurd (subst (λ (qs : List (Slot J E)). AllZip (MayHaveEnded ends context) (p ∷ ps) qs) e kept)

  pub starts_one : (can : C → J → Type 0) (ends : C → J → E → Type 0) (context : C) (slots rest rest' : List (Slot J E)) (threads threads' : List (PromisedHandle (Slot J E) (Task C J E))) (late : List (Slot J E)) (slot : Slot J E) (thread : PromisedHandle (Slot J E) (Task C J E))
      → Starting can ends context slots rest threads late → late ≡ [] → rest ≡ slot ∷ rest' → threads' ≡ threads ++ thread ∷ []
      → thread.promise.slot.value ≡ slot → thread.promise.context.value ≡ context
      → Starting can ends context slots rest' threads' late
  starts_one can ends context slots rest rest' threads threads' late slot thread was empty e more is over =
      let none : was.behind ≡ [] = none_behind ends context was.behind late empty was.kept in
      let cut : slots ≡ slots_of threads ++ rest = was.split ∙ ap (λ (ps : List (Slot J E)). slots_of threads ++ (ps ++ rest)) none in
      record {
        behind = [];
        split = cut ∙ (ap (λ (ps : List (Slot J E)). slots_of threads ++ ps) (e ∙ ap (λ (p : Slot J E). p ∷ rest') (sym is))
            ∙ (sym (append_assoc (slots_of threads) (thread.promise.slot.value ∷ []) rest')
            ∙ ap (λ (ps : List (Slot J E)). ps ++ rest') (sym (posts_more threads thread) ∙ ap slots_of (sym more))));
        over = All-same (IsOver context) threads' (threads ++ thread ∷ []) more (all_more (IsOver context) threads thread was.over over);
        can_run = All-rest (CanRun can context) slot rest' rest e was.can_run;
        kept = subst (λ (ps : List (Slot J E)). AllZip (MayHaveEnded ends context) ps late) none was.kept;
      }

  -- one more has come late, as it was or with its end
  pub one_late : (can : C → J → Type 0) (ends : C → J → E → Type 0) (context : C) (slots rest rest' : List (Slot J E)) (threads : List (PromisedHandle (Slot J E) (Task C J E))) (late late' : List (Slot J E)) (slot after : Slot J E)
      → Starting can ends context slots rest threads late → rest ≡ slot ∷ rest' → late' ≡ late ++ after ∷ []
      → MayHaveEnded ends context slot after
      → Starting can ends context slots rest' threads late'
  one_late can ends context slots rest rest' threads late late' slot after was e more kept = record {
    behind = was.behind ++ slot ∷ [];
    split = was.split ∙ ap (λ (ps : List (Slot J E)). slots_of threads ++ ps)
        (ap (λ (ps : List (Slot J E)). was.behind ++ ps) e ∙ sym (append_assoc was.behind (slot ∷ []) rest'));
    over = was.over;
    can_run = All-rest (CanRun can context) slot rest' rest e was.can_run;
    kept = subst (λ (ps : List (Slot J E)). AllZip (MayHaveEnded ends context) (was.behind ++ slot ∷ []) ps) (sym more)
        (AllZip-push (MayHaveEnded ends context) was.behind late slot after was.kept kept);
  }

  pub next_can : (can : C → J → Type 0) (ends : C → J → E → Type 0) (context : C) (slots rest rest' : List (Slot J E)) (threads : List (PromisedHandle (Slot J E) (Task C J E))) (late : List (Slot J E)) (slot : Slot J E)
      → Starting can ends context slots rest threads late → rest ≡ slot ∷ rest' → CanRun can context slot
  next_can can ends context slots rest rest' threads late slot was e =
      All-head (CanRun can context) slot rest' (All-same (CanRun can context) (slot ∷ rest') rest (sym e) was.can_run)

  -- a slot whose job may run is as it was
  pub as_it_was : (can : C → J → Type 0) (ends : C → J → E → Type 0) (context : C) (slots rest rest' : List (Slot J E)) (threads : List (PromisedHandle (Slot J E) (Task C J E))) (late : List (Slot J E)) (slot : Slot J E)
      → Starting can ends context slots rest threads late → rest ≡ slot ∷ rest' → MayHaveEnded ends context slot slot
  as_it_was can ends context slots rest rest' threads late slot was e = still slot (next_can can ends context slots rest rest' threads late slot was e)
    where
      still : (p : Slot J E) → CanRun can context p → MayHaveEnded ends context p p
      still (Ready job) can_it = refl
      still (Ended end) can_it = absurd can_it

  -- some of the threads have given back their slots, and the rest is still to come
  pub record Joining (ends : C → J → E → Type 0) (threads rest : List (PromisedHandle (Slot J E) (Task C J E))) (slots : List (Slot J E)) : Type 0 where
    pub front : List (PromisedHandle (Slot J E) (Task C J E))
    pub split : threads ≡ front ++ rest
    pub over : (context : C) → All (IsOver context) threads → All (IsOver context) rest
    pub kept : (context : C) → All (IsOver context) threads → AllZip (MayHaveEnded ends context) (slots_of front) slots

  pub joins : (ends : C → J → E → Type 0) (threads rest : List (PromisedHandle (Slot J E) (Task C J E))) (slots : List (Slot J E))
      → rest ≡ threads → slots ≡ [] → Joining ends threads rest slots
  joins ends threads rest slots e none = record {
    front = [];
    split = sym e;
    over = λ context all. All-same (IsOver context) rest threads e all;
    kept = λ context all. subst (λ (ps : List (Slot J E)). AllZip (MayHaveEnded ends context) [] ps) (sym none) tt;
  }

  pub joins_one : (ends : C → J → E → Type 0) (threads rest rest' : List (PromisedHandle (Slot J E) (Task C J E))) (slots slots' : List (Slot J E)) (thread : PromisedHandle (Slot J E) (Task C J E)) (slot : Slot J E)
      → Joining ends threads rest slots → rest ≡ thread ∷ rest' → slots' ≡ slots ++ slot ∷ []
      → MayHaveEnded ends thread.promise.context.value thread.promise.slot.value slot
      → Joining ends threads rest' slots'
  joins_one ends threads rest rest' slots slots' thread slot was e more kept = record {
    front = was.front ++ thread ∷ [];
    split = was.split ∙ (ap (λ (ts : List (PromisedHandle (Slot J E) (Task C J E))). was.front ++ ts) e ∙ sym (append_assoc was.front (thread ∷ []) rest'));
    over = λ context all. All-rest (IsOver context) thread rest' rest e (was.over context all);
    kept = λ context all.
        let here = All-head (IsOver context) thread rest' (All-same (IsOver context) (thread ∷ rest') rest (sym e) (was.over context all)) in
        subst (λ (qs : List (Slot J E)). AllZip (MayHaveEnded ends context) qs slots') (sym (posts_more was.front thread))
        (subst (λ (ps : List (Slot J E)). AllZip (MayHaveEnded ends context) (slots_of was.front ++ thread.promise.slot.value ∷ []) ps) (sym more)
        (AllZip-push (MayHaveEnded ends context) (slots_of was.front) slots thread.promise.slot.value slot (was.kept context all)
        (subst (λ (c : C). MayHaveEnded ends c thread.promise.slot.value slot) here kept)));
  }

  pub joined_all : (ends : C → J → E → Type 0) (threads rest : List (PromisedHandle (Slot J E) (Task C J E))) (slots : List (Slot J E)) (context : C)
      → Joining ends threads rest slots → rest ≡ [] → All (IsOver context) threads → AllZip (MayHaveEnded ends context) (slots_of threads) slots
  joined_all ends threads rest slots context was e all =
      subst (λ (ts : List (PromisedHandle (Slot J E) (Task C J E))). AllZip (MayHaveEnded ends context) (slots_of ts) slots)
      (sym (was.split ∙ (ap (λ (ts : List (PromisedHandle (Slot J E) (Task C J E))). was.front ++ ts) e ∙ append-nil was.front))) (was.kept context all)

  -- ---- all have come back

  -- those that threads had, and those that came late
  pub all_back : (can : C → J → Type 0) (ends : C → J → E → Type 0) (context : C) (slots rest : List (Slot J E)) (threads : List (PromisedHandle (Slot J E) (Task C J E))) (late back all : List (Slot J E))
      → Starting can ends context slots rest threads late → rest ≡ [] → AllZip (MayHaveEnded ends context) (slots_of threads) back → all ≡ back ++ late
      → AllZip (MayHaveEnded ends context) slots all
  all_back can ends context slots rest threads late back all was none kept is =
      let whole : slots ≡ slots_of threads ++ was.behind = was.split ∙ ap (λ (ps : List (Slot J E)). slots_of threads ++ ps)
      (ap (λ (ps : List (Slot J E)). was.behind ++ ps) none ∙ append-nil was.behind) in
      subst (λ (ps : List (Slot J E)). AllZip (MayHaveEnded ends context) ps all) (sym whole)
      (subst (λ (qs : List (Slot J E)). AllZip (MayHaveEnded ends context) (slots_of threads ++ was.behind) qs) (sym is)
      (zip_on (MayHaveEnded ends context) (slots_of threads) was.behind back late kept was.kept))

  left_can : (can : C → J → Type 0) (ends : C → J → E → Type 0) (context : C) (before after : Slot J E) → CanRun can context before → MayHaveEnded ends context before after → CanRunIfLeft can context after
  left_can can ends context before (Ready job) ready kept = subst (λ (p : Slot J E). CanRun can context p) kept ready
  left_can can ends context before (Ended end) ready kept = tt

  -- what has not run may run
  pub all_left_can : (can : C → J → Type 0) (ends : C → J → E → Type 0) (context : C) (before after : List (Slot J E)) → All (CanRun can context) before
      → AllZip (MayHaveEnded ends context) before after → All (CanRunIfLeft can context) after
  all_left_can can ends context [] [] ready kept = All-nil (CanRunIfLeft can context)
  all_left_can can ends context (p ∷ ps) (q ∷ qs) ready kept =
      All-cons (CanRunIfLeft can context) q qs (left_can can ends context p q (All-head (CanRun can context) p ps ready) kept.0)
      (all_left_can can ends context ps qs (All-rest (CanRun can context) p ps (p ∷ ps) refl ready) kept.1)
  all_left_can can ends context [] (q ∷ qs) ready kept = absurd kept
  all_left_can can ends context (p ∷ ps) [] ready kept = absurd kept

  ended_by : (ends : C → J → E → Type 0) (context : C) (before mid after : Slot J E) → MayHaveEnded ends context before mid → EndsAs ends context mid after → HasEnded ends context before after
  ended_by ends context before (Ready job) after kept end = subst (λ (p : Slot J E). HasEnded ends context p after) (sym kept) end
  ended_by ends context before (Ended e) after kept end = subst (λ (p : Slot J E). HasEnded ends context before p) (sym end) kept

  -- whichever way each has ended
  pub all_ended_by : (ends : C → J → E → Type 0) (context : C) (before mid after : List (Slot J E))
      → AllZip (MayHaveEnded ends context) before mid → AllZip (EndsAs ends context) mid after → AllZip (HasEnded ends context) before after
  all_ended_by ends context [] [] [] kept end = tt
  all_ended_by ends context (p ∷ ps) (m ∷ ms) (q ∷ qs) kept end =
      (ended_by ends context p m q kept.0 end.0, all_ended_by ends context ps ms qs kept.1 end.1)
  all_ended_by ends context [] [] (q ∷ qs) kept end = absurd end
  all_ended_by ends context [] (m ∷ ms) qs kept end = absurd kept
  all_ended_by ends context (p ∷ ps) [] qs kept end = absurd kept
  all_ended_by ends context (p ∷ ps) (m ∷ ms) [] kept end = absurd end

  -- where none has ended all are as they were
  pub all_as_they_were : (ends : C → J → E → Type 0) (context : C) (before after : List (Slot J E))
      → AllZip (MayHaveEnded ends context) before after → list_any has_end after ≡ false → after ≡ before
  all_as_they_were ends context [] [] kept none = refl
  all_as_they_were ends context (p ∷ ps) (Ready job ∷ qs) kept none =
      let rest = all_as_they_were ends context ps qs kept.1 none in
      let first : p ≡ Ready job = kept.0 in cc
  all_as_they_were ends context (p ∷ ps) (Ended end ∷ qs) kept none = absurd (cc)
  all_as_they_were ends context [] (q ∷ qs) kept none = absurd kept
  all_as_they_were ends context (p ∷ ps) [] kept none = absurd kept

  -- ---- what is left is run

  pub ready_ends : (ends : C → J → E → Type 0) (context : C) (slot : Slot J E) (job : J) (end came : E) → slot ≡ Ready job → ends context job came → end ≡ came → EndsAs ends context slot (Ended end)
  ready_ends ends context slot job end came is ran same =
      subst (λ (p : Slot J E). EndsAs ends context p (Ended end)) (sym is) (subst (λ (e : E). ends context job e) (sym same) ran)

  pub ended_ends : (ends : C → J → E → Type 0) (context : C) (slot : Slot J E) (end was : E) → slot ≡ Ended was → end ≡ was → EndsAs ends context slot (Ended end)
  ended_ends ends context slot end was is same =
      subst (λ (p : Slot J E). EndsAs ends context p (Ended end)) (sym is) (ap (λ (e : E). Ended e) same)

  -- some of the slots have their ends, and the rest is still to come
  pub record Ending (can : C → J → Type 0) (ends : C → J → E → Type 0) (context : C) (slots rest done : List (Slot J E)) : Type 0 where
    pub front : List (Slot J E)
    pub split : slots ≡ front ++ rest
    pub done_so : AllZip (EndsAs ends context) front done
    pub left : All (CanRunIfLeft can context) rest

  pub ending : (can : C → J → Type 0) (ends : C → J → E → Type 0) (context : C) (slots rest done : List (Slot J E))
      → rest ≡ slots → done ≡ [] → All (CanRunIfLeft can context) slots → Ending can ends context slots rest done
  ending can ends context slots rest done e none all = record {
    front = [];
    split = sym e;
    done_so = subst (λ (ps : List (Slot J E)). AllZip (EndsAs ends context) [] ps) (sym none) tt;
    left = All-same (CanRunIfLeft can context) rest slots e all;
  }

  pub next_left : (can : C → J → Type 0) (ends : C → J → E → Type 0) (context : C) (slots rest rest' done : List (Slot J E)) (slot : Slot J E)
      → Ending can ends context slots rest done → rest ≡ slot ∷ rest' → CanRunIfLeft can context slot
  next_left can ends context slots rest rest' done slot was e =
      All-head (CanRunIfLeft can context) slot rest' (All-same (CanRunIfLeft can context) (slot ∷ rest') rest (sym e) was.left)

  pub ends_one : (can : C → J → Type 0) (ends : C → J → E → Type 0) (context : C) (slots rest rest' done done' : List (Slot J E)) (slot after : Slot J E)
      → Ending can ends context slots rest done → rest ≡ slot ∷ rest' → done' ≡ done ++ after ∷ [] → EndsAs ends context slot after
      → Ending can ends context slots rest' done'
  ends_one can ends context slots rest rest' done done' slot after was e more end = record {
    front = was.front ++ slot ∷ [];
    split = was.split ∙ (ap (λ (ps : List (Slot J E)). was.front ++ ps) e ∙ sym (append_assoc was.front (slot ∷ []) rest'));
    done_so = subst (λ (ps : List (Slot J E)). AllZip (EndsAs ends context) (was.front ++ slot ∷ []) ps) (sym more)
        (AllZip-push (EndsAs ends context) was.front done slot after was.done_so end);
    left = All-rest (CanRunIfLeft can context) slot rest' rest e was.left;
  }

  pub all_done : (can : C → J → Type 0) (ends : C → J → E → Type 0) (context : C) (slots rest done : List (Slot J E))
      → Ending can ends context slots rest done → rest ≡ [] → AllZip (EndsAs ends context) slots done
  all_done can ends context slots rest done was none =
      subst (λ (ps : List (Slot J E)). AllZip (EndsAs ends context) ps done)
      (sym (was.split ∙ (ap (λ (ps : List (Slot J E)). was.front ++ ps) none ∙ append-nil was.front))) was.done_so
