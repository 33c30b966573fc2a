-- The lanes take their slots, and give their ends.
use Rattle.std.proofs.Common.{◌≡◌, ℕ, suc, ◌+◌, List, [], ◌∷◌, ◌++◌, length, refl, sym, ◌∙◌, ap, subst, arith, append_assoc, append-nil, length-append, All}
use Rattle.std.proofs.lemmas.List.Elements.{All-same, All-rest, All-head}
use Rattle.seat_desk.specs.declared.machine.Machine.{Ghosts}
use Rattle.plain_values.specs.declared.entry.Entry.{Entry}
use Rattle.seat_desk.specs.declared.desk.Pass.{Pass}
use Rattle.seat_desk.specs.declared.desk.Desk.{Desk}
use Rattle.seat_desk.specs.declared.desk.Root.{Root}
use Rattle.seat_desk.specs.declared.view.Joined.{Joined}
use Rattle.seat_desk.specs.History.{StartsWith}
use Rattle.seat_desk.specs.Passes.{IsPassOf, IsRootOf, IsSameRoot, SplitsOne, IsNewPass, mine, basis, seen, root_basis, root_seen, joined}
use Rattle.lane_threads.specs.declared.job.Slot.{Slot}
use Rattle.lane_threads.specs.declared.job.Slot.TheVariants.{Ready, Ended}
use Rattle.lane_threads.specs.declared.lane_job.LaneJob.{LaneJob}
use Rattle.lane_threads.specs.declared.lane_job.LaneDone.{LaneDone}
use Rattle.lane_threads.specs.Jobs.{HasEnd, IsReady}
use Rattle.lane_threads.specs.Lanes.{IsFresh}
use Rattle.lane_threads.specs.LaneJobs.{AreIdle, AreJobs, IdleFrom, IsNew, IsJobOf, JobsFrom, HasItsEnd, IsHanded, HandedOver}

module _ {C R : Type 0} where
  pub starts : (h h' seen : List (Entry C R)) → StartsWith h seen → StartsWith h' h → StartsWith h' seen
  starts h h' front a b = (a.0 ++ b.0, b.1 ∙ (ap (λ (xs : List (Entry C R)). xs ++ b.0) a.1 ∙ append_assoc front a.0 b.0))

module _ {C R : Type 0} where
  idle_more : (k : ℕ) (js : List (Joined C R)) (j : Joined C R) → IdleFrom k js → j.lane ≡ k + length js → j.calls ≡ [] → IdleFrom k (js ++ j ∷ [])
  idle_more k [] j idle lane none = ((let e : j.lane ≡ k = omega (arith, lane) in e), none, tt)
  idle_more k (i ∷ js) j idle lane none = (idle.0, idle.1, idle_more (k + 1) js j idle.2 (omega (arith, lane)) none)

module _ {M C R G Q : Type 0} {g : Ghosts M C R G Q} {L : Type 0} where
  -- the lane has this job, with a fresh pass of the number k
  abbrev AtJob : Desk M C R G Q → Q → ℕ → L → LaneJob M L C R G Q g → Type 0
  AtJob desk q k lane job =
      (job.lane ≡ lane) × IsPassOf desk job.pass × IsFresh job.pass × (job.pass.lane ≡ k) × (basis job.pass ≡ q)

module _ {M C R G Q : Type 0} {g : Ghosts M C R G Q} {L E : Type 0} where
  one_more : (desk : Desk M C R G Q) (q : Q) (k n : ℕ) (front : List L) (slots : List (Slot (LaneJob M L C R G Q g) (LaneDone M E C R G Q g))) (lane : L) (slot : Slot (LaneJob M L C R G Q g) (LaneDone M E C R G Q g))
      → n ≡ k + length front → JobsFrom desk q k front slots → IsJobOf desk q n lane slot
      → JobsFrom desk q k (front ++ lane ∷ []) (slots ++ slot ∷ [])
  one_more desk q k n [] [] lane slot e jobs here = (subst (λ (m : ℕ). IsJobOf desk q m lane slot) (let f : n ≡ k = omega (arith, e) in f) here, tt)
  one_more desk q k n (l ∷ ls) (p ∷ ps) lane slot e jobs here =
      (jobs.0, one_more desk q (k + 1) n ls ps lane slot (omega (arith, e)) jobs.1 here)
  one_more desk q k n [] (p ∷ ps) lane slot e jobs here = absurd jobs
  one_more desk q k n (l ∷ ls) [] lane slot e jobs here = absurd jobs

  -- some of the lanes are at their slots, and the rest is still to come
  pub record Enlisting (desk : Desk M C R G Q) (q : Q) (lanes rest : List L) (slots : List (Slot (LaneJob M L C R G Q g) (LaneDone M E C R G Q g))) (root : Root M C R G Q g) : Type 0 where
    pub of_desk : IsRootOf desk root
    pub by : root_basis root ≡ q
    pub unseen : root_seen root ≡ []
    pub unjoined : joined root ≡ []
    pub front : List L
    pub split : lanes ≡ front ++ rest
    pub made : root.made ≡ length front
    pub jobs : JobsFrom desk q 0 front slots

  pub enlists : (desk : Desk M C R G Q) (lanes rest : List L) (root : Root M C R G Q g) → IsRootOf desk root → IsNew root → rest ≡ lanes
      → Enlisting desk (root_basis root) lanes rest [] root
  enlists desk lanes rest root of new e = record { of_desk = of; by = refl; unseen = new.1; unjoined = new.2; front = []; split = sym e; made = new.0; jobs = tt }

  pub enlists_one : (desk : Desk M C R G Q) (q : Q) (lanes rest rest' : List L) (slots : List (Slot (LaneJob M L C R G Q g) (LaneDone M E C R G Q g))) (root root' : Root M C R G Q g) (lane : L) (pass : Pass M C R G Q g)
      → Enlisting desk q lanes rest slots root → rest ≡ lane ∷ rest' → SplitsOne root root' → IsNewPass root pass
      → Enlisting desk q lanes rest' (slots ++ Ready (record { lane = lane; pass = pass }) ∷ []) root'
  enlists_one desk q lanes rest rest' slots root root' lane pass was e cut new =
      let view = cut.2 in
      record {
        of_desk = cut.0 ∙ was.of_desk;
        by = ap (λ v. v.basis) view ∙ was.by;
        unseen = ap (λ v. v.seen) view ∙ was.unseen;
        unjoined = ap (λ v. v.joined) view ∙ was.unjoined;
        front = was.front ++ lane ∷ [];
        split = was.split ∙ (ap (λ (xs : List L). was.front ++ xs) e ∙ sym (append_assoc was.front (lane ∷ []) rest'));
        made = omega (arith, cut.1, was.made, length-append was.front (lane ∷ []));
        jobs = one_more desk q 0 root.made was.front slots lane (Ready (record { lane = lane; pass = pass })) (omega (arith, was.made)) was.jobs
            (refl, new.0 ∙ was.of_desk, (ap (λ v. v.mine) new.2, ap (λ v. v.seen) new.2 ∙ was.unseen), new.1, ap (λ v. v.basis) new.2 ∙ was.by);
      }

  -- ---- the ends

  handed_later : (h h' : List (Entry C R)) (slot : Slot (LaneJob M L C R G Q g) (LaneDone M E C R G Q g)) (end : E) (j : Joined C R)
      → StartsWith h' h → IsHanded h slot end j → IsHanded h' slot end j
  handed_later h h' (Ready job) end j later x = absurd x
  handed_later h h' (Ended done) end j later x = (x.0, x.1, starts h h' (seen done.pass) x.2 later)

  all_later : (h h' : List (Entry C R)) (slots : List (Slot (LaneJob M L C R G Q g) (LaneDone M E C R G Q g))) (ends : List E) (js : List (Joined C R))
      → StartsWith h' h → HandedOver h slots ends js → HandedOver h' slots ends js
  all_later h h' [] [] [] later x = tt
  all_later h h' (p ∷ ps) (e ∷ es) (j ∷ js) later x = (handed_later h h' p e j later x.0, all_later h h' ps es js later x.1)
  all_later h h' [] [] (j ∷ js) later x = absurd x
  all_later h h' [] (e ∷ es) js later x = absurd x
  all_later h h' (p ∷ ps) [] js later x = absurd x
  all_later h h' (p ∷ ps) (e ∷ es) [] later x = absurd x

  handed_same : (h : List (Entry C R)) (slots : List (Slot (LaneJob M L C R G Q g) (LaneDone M E C R G Q g))) (ends ends' : List E) (js js' : List (Joined C R))
      → ends ≡ ends' → js ≡ js' → HandedOver h slots ends js → HandedOver h slots ends' js'
  handed_same h slots ends ends' js js' e f x =
      subst (λ (js : List (Joined C R)). HandedOver h slots ends' js) f (subst (λ (es : List E). HandedOver h slots es js) e x)

  one_handed : (h : List (Entry C R)) (slots : List (Slot (LaneJob M L C R G Q g) (LaneDone M E C R G Q g))) (ends : List E) (js : List (Joined C R))
      (slot : Slot (LaneJob M L C R G Q g) (LaneDone M E C R G Q g)) (end : E) (j : Joined C R)
      → HandedOver h slots ends js → IsHanded h slot end j → HandedOver h (slots ++ slot ∷ []) (ends ++ end ∷ []) (js ++ j ∷ [])
  one_handed h [] [] [] slot end j x y = (y, tt)
  one_handed h (p ∷ ps) (e ∷ es) (i ∷ js) slot end j x y = (x.0, one_handed h ps es js slot end j x.1 y)
  one_handed h [] [] (i ∷ js) slot end j x y = absurd x
  one_handed h [] (e ∷ es) js slot end j x y = absurd x
  one_handed h (p ∷ ps) [] js slot end j x y = absurd x
  one_handed h (p ∷ ps) (e ∷ es) [] slot end j x y = absurd x

  -- the ends of some slots were taken, and the rest is still to come
  pub record Collecting (desk : Desk M C R G Q) (first root : Root M C R G Q g) (slots rest : List (Slot (LaneJob M L C R G Q g) (LaneDone M E C R G Q g))) (ends : List E) : Type 0 where
    pub of_desk : IsRootOf desk root
    pub same : (root.made ≡ first.made) × (root_basis root ≡ root_basis first)
    pub front : List (Slot (LaneJob M L C R G Q g) (LaneDone M E C R G Q g))
    pub split : slots ≡ front ++ rest
    pub handed : HandedOver (root_seen root) front ends (joined root)
    pub left : All (HasItsEnd desk) rest

  pub collects : (desk : Desk M C R G Q) (root : Root M C R G Q g) (slots rest : List (Slot (LaneJob M L C R G Q g) (LaneDone M E C R G Q g))) (ends : List E)
      → IsRootOf desk root → joined root ≡ [] → ends ≡ [] → rest ≡ slots → All (HasItsEnd desk) slots → Collecting desk root root slots rest ends
  collects desk root slots rest ends of none empty e all = record {
    of_desk = of;
    same = (refl, refl);
    front = [];
    split = sym e;
    handed = handed_same (root_seen root) [] [] ends [] (joined root) (sym empty) (sym none) tt;
    left = All-same (HasItsEnd desk) rest slots e all;
  }

  -- the slot that is next has an end, with a pass of this desk
  end_here : (desk : Desk M C R G Q) (first root : Root M C R G Q g) (slots rest rest' : List (Slot (LaneJob M L C R G Q g) (LaneDone M E C R G Q g))) (ends : List E) (slot : Slot (LaneJob M L C R G Q g) (LaneDone M E C R G Q g))
      → Collecting desk first root slots rest ends → rest ≡ slot ∷ rest' → HasItsEnd desk slot
  end_here desk first root slots rest rest' ends slot was e = All-head (HasItsEnd desk) slot rest' (All-same (HasItsEnd desk) (slot ∷ rest') rest (sym e) was.left)

  has_end : (desk : Desk M C R G Q) (slot : Slot (LaneJob M L C R G Q g) (LaneDone M E C R G Q g)) → HasItsEnd desk slot → HasEnd slot
  has_end desk (Ready job) x = absurd x
  has_end desk (Ended done) x = tt

  pub next_ended : (desk : Desk M C R G Q) (first root : Root M C R G Q g) (slots rest rest' : List (Slot (LaneJob M L C R G Q g) (LaneDone M E C R G Q g))) (ends : List E) (slot : Slot (LaneJob M L C R G Q g) (LaneDone M E C R G Q g))
      → Collecting desk first root slots rest ends → rest ≡ slot ∷ rest' → HasEnd slot
  next_ended desk first root slots rest rest' ends slot was e = has_end desk slot (end_here desk first root slots rest rest' ends slot was e)

  pub next_pass : (desk : Desk M C R G Q) (first root : Root M C R G Q g) (slots rest rest' : List (Slot (LaneJob M L C R G Q g) (LaneDone M E C R G Q g))) (ends : List E) (slot : Slot (LaneJob M L C R G Q g) (LaneDone M E C R G Q g)) (done : LaneDone M E C R G Q g)
      → Collecting desk first root slots rest ends → rest ≡ slot ∷ rest' → slot ≡ Ended done → IsPassOf desk done.pass
  next_pass desk first root slots rest rest' ends slot done was e f =
      subst (λ (p : Slot (LaneJob M L C R G Q g) (LaneDone M E C R G Q g)). HasItsEnd desk p) f (end_here desk first root slots rest rest' ends slot was e)

  pub collects_one : (desk : Desk M C R G Q) (first root root' : Root M C R G Q g) (slots rest rest' : List (Slot (LaneJob M L C R G Q g) (LaneDone M E C R G Q g))) (ends ends' : List E) (slot : Slot (LaneJob M L C R G Q g) (LaneDone M E C R G Q g)) (done : LaneDone M E C R G Q g)
      → Collecting desk first root slots rest ends → rest ≡ slot ∷ rest' → slot ≡ Ended done → IsSameRoot root root'
      → StartsWith (root_seen root') (root_seen root) × StartsWith (root_seen root') (seen done.pass)
      → joined root' ≡ joined root ++ record { lane = done.pass.lane; calls = mine done.pass } ∷ []
      → ends' ≡ ends ++ done.end ∷ []
      → Collecting desk first root' slots rest' ends'
  collects_one desk first root root' slots rest rest' ends ends' slot done was e f same saw more longer =
      let here : rest ≡ Ended done ∷ rest' = e ∙ ap (λ (p : Slot (LaneJob M L C R G Q g) (LaneDone M E C R G Q g)). p ∷ rest') f in
      record {
        of_desk = same.0 ∙ was.of_desk;
        same = (same.1 ∙ was.same.0, same.2 ∙ was.same.1);
        front = was.front ++ Ended done ∷ [];
        split = was.split ∙ (ap (λ (xs : List (Slot (LaneJob M L C R G Q g) (LaneDone M E C R G Q g))). was.front ++ xs) here ∙ sym (append_assoc was.front (Ended done ∷ []) rest'));
        handed = handed_same (root_seen root') (was.front ++ Ended done ∷ []) (ends ++ done.end ∷ []) ends' (joined root ++ record { lane = done.pass.lane; calls = mine done.pass } ∷ []) (joined root') (sym longer) (sym more)
            (one_handed (root_seen root') was.front ends (joined root) (Ended done) done.end (record { lane = done.pass.lane; calls = mine done.pass })
            (all_later (root_seen root) (root_seen root') was.front ends (joined root) saw.0 was.handed) (refl, refl, saw.1));
        left = All-rest (HasItsEnd desk) (Ended done) rest' rest here was.left;
      }

  -- all were taken
  pub collected : (desk : Desk M C R G Q) (first root : Root M C R G Q g) (slots rest : List (Slot (LaneJob M L C R G Q g) (LaneDone M E C R G Q g))) (ends : List E)
      → Collecting desk first root slots rest ends → rest ≡ [] → HandedOver (root_seen root) slots ends (joined root)
  collected desk first root slots rest ends was e =
      subst (λ (ps : List (Slot (LaneJob M L C R G Q g) (LaneDone M E C R G Q g))). HandedOver (root_seen root) ps ends (joined root))
      (sym (was.split ∙ (ap (λ (xs : List (Slot (LaneJob M L C R G Q g) (LaneDone M E C R G Q g))). was.front ++ xs) e ∙ append-nil was.front))) was.handed

  -- ---- lanes that have not begun

  pub as_many_jobs : (desk : Desk M C R G Q) (q : Q) (k : ℕ) (lanes : List L) (slots : List (Slot (LaneJob M L C R G Q g) (LaneDone M E C R G Q g))) → JobsFrom desk q k lanes slots → length lanes ≡ length slots
  as_many_jobs desk q k [] [] jobs = refl
  as_many_jobs desk q k (l ∷ ls) (p ∷ ps) jobs = ap suc (as_many_jobs desk q (k + 1) ls ps jobs.1)
  as_many_jobs desk q k [] (p ∷ ps) jobs = absurd jobs
  as_many_jobs desk q k (l ∷ ls) [] jobs = absurd jobs

  -- the lanes that are at these slots
  pub same_lanes : (desk : Desk M C R G Q) (q : Q) (k : ℕ) (xs ys : List L) (slots : List (Slot (LaneJob M L C R G Q g) (LaneDone M E C R G Q g))) → JobsFrom desk q k xs slots → JobsFrom desk q k ys slots → xs ≡ ys
  same_lanes desk q k [] [] [] a b = refl
  same_lanes desk q k (x ∷ xs) (y ∷ ys) (Ready job ∷ ps) a b =
      let first : x ≡ y = sym a.0.0 ∙ b.0.0 in
      let rest : xs ≡ ys = same_lanes desk q (k + 1) xs ys ps a.1 b.1 in cc
  same_lanes desk q k (x ∷ xs) (y ∷ ys) (Ended done ∷ ps) a b = absurd a.0
  same_lanes desk q k [] (y ∷ ys) [] a b = absurd b
  same_lanes desk q k [] ys (p ∷ ps) a b = absurd a
  same_lanes desk q k (x ∷ xs) ys [] a b = absurd a
  same_lanes desk q k (x ∷ xs) [] (p ∷ ps) a b = absurd b

  next_job : (desk : Desk M C R G Q) (q : Q) (k : ℕ) (lanes : List L) (slot : Slot (LaneJob M L C R G Q g) (LaneDone M E C R G Q g)) (rest : List (Slot (LaneJob M L C R G Q g) (LaneDone M E C R G Q g)))
      → JobsFrom desk q k lanes (slot ∷ rest) → (l : L) × (ls : List L) × IsJobOf desk q k l slot × JobsFrom desk q (k + 1) ls rest
  next_job desk q k [] slot rest jobs = absurd jobs
  next_job desk q k (l ∷ ls) slot rest jobs = (l, ls, jobs.0, jobs.1)

  -- the lanes of some slots were taken, and the rest is still to come
  pub record Dismissing (desk : Desk M C R G Q) (first root : Root M C R G Q g) (slots rest : List (Slot (LaneJob M L C R G Q g) (LaneDone M E C R G Q g))) (lanes : List L) : Type 0 where
    pub of_desk : IsRootOf desk root
    pub same : (root.made ≡ first.made) × (root_basis root ≡ root_basis first)
    pub front : List (Slot (LaneJob M L C R G Q g) (LaneDone M E C R G Q g))
    pub split : slots ≡ front ++ rest
    pub jobs : JobsFrom desk (root_basis first) 0 lanes front
    pub to_come : List L
    pub left : JobsFrom desk (root_basis first) (length front) to_come rest
    pub many : length (joined root) ≡ length front
    pub idle : IdleFrom 0 (joined root)

  pub dismisses : (desk : Desk M C R G Q) (root : Root M C R G Q g) (slots rest : List (Slot (LaneJob M L C R G Q g) (LaneDone M E C R G Q g))) (lanes : List L)
      → IsRootOf desk root → joined root ≡ [] → lanes ≡ [] → rest ≡ slots → AreJobs desk (root_basis root) slots → Dismissing desk root root slots rest lanes
  dismisses desk root slots rest lanes of none empty e seated = record {
    of_desk = of;
    same = (refl, refl);
    front = [];
    split = sym e;
    jobs = let none : List (Slot (LaneJob M L C R G Q g) (LaneDone M E C R G Q g)) = [] in
        subst (λ (ls : List L). JobsFrom desk (root_basis root) 0 ls none) (sym empty) tt;
    to_come = seated.0;
    left = subst (λ (ps : List (Slot (LaneJob M L C R G Q g) (LaneDone M E C R G Q g))). JobsFrom desk (root_basis root) 0 seated.0 ps) (sym e) seated.1;
    many = ap length none;
    idle = subst (λ (js : List (Joined C R)). IdleFrom 0 js) (sym none) tt;
  }

  job_here : (desk : Desk M C R G Q) (first root : Root M C R G Q g) (slots rest rest' : List (Slot (LaneJob M L C R G Q g) (LaneDone M E C R G Q g))) (lanes : List L) (slot : Slot (LaneJob M L C R G Q g) (LaneDone M E C R G Q g))
      → (was : Dismissing desk first root slots rest lanes) → rest ≡ slot ∷ rest'
      → (l : L) × (ls : List L) × IsJobOf desk (root_basis first) (length was.front) l slot × JobsFrom desk (root_basis first) (length was.front + 1) ls rest'
  job_here desk first root slots rest rest' lanes slot was e =
      next_job desk (root_basis first) (length was.front) was.to_come slot rest'
      (subst (λ (ps : List (Slot (LaneJob M L C R G Q g) (LaneDone M E C R G Q g))). JobsFrom desk (root_basis first) (length was.front) was.to_come ps) e was.left)

  is_ready : (desk : Desk M C R G Q) (q : Q) (k : ℕ) (l : L) (slot : Slot (LaneJob M L C R G Q g) (LaneDone M E C R G Q g)) → IsJobOf desk q k l slot → IsReady slot
  is_ready desk q k l (Ready job) here = tt
  is_ready desk q k l (Ended done) here = absurd here

  pub next_ready : (desk : Desk M C R G Q) (first root : Root M C R G Q g) (slots rest rest' : List (Slot (LaneJob M L C R G Q g) (LaneDone M E C R G Q g))) (lanes : List L) (slot : Slot (LaneJob M L C R G Q g) (LaneDone M E C R G Q g))
      → Dismissing desk first root slots rest lanes → rest ≡ slot ∷ rest' → IsReady slot
  next_ready desk first root slots rest rest' lanes slot was e =
      let here = job_here desk first root slots rest rest' lanes slot was e in
      is_ready desk (root_basis first) (length was.front) here.0 slot here.2

  job_at : (desk : Desk M C R G Q) (first root : Root M C R G Q g) (slots rest rest' : List (Slot (LaneJob M L C R G Q g) (LaneDone M E C R G Q g))) (lanes : List L) (slot : Slot (LaneJob M L C R G Q g) (LaneDone M E C R G Q g)) (job : LaneJob M L C R G Q g)
      → (was : Dismissing desk first root slots rest lanes) → rest ≡ slot ∷ rest' → slot ≡ Ready job
      → (l : L) × (ls : List L) × AtJob desk (root_basis first) (length was.front) l job × JobsFrom desk (root_basis first) (length was.front + 1) ls rest'
  job_at desk first root slots rest rest' lanes slot job was e f =
      let here = job_here desk first root slots rest rest' lanes slot was e in (
        here.0,
        here.1,
        subst (λ (p : Slot (LaneJob M L C R G Q g) (LaneDone M E C R G Q g)). IsJobOf desk (root_basis first) (length was.front) here.0 p) f here.2,
        here.3,
      )

  pub next_jobs_pass : (desk : Desk M C R G Q) (first root : Root M C R G Q g) (slots rest rest' : List (Slot (LaneJob M L C R G Q g) (LaneDone M E C R G Q g))) (lanes : List L) (slot : Slot (LaneJob M L C R G Q g) (LaneDone M E C R G Q g)) (job : LaneJob M L C R G Q g)
      → Dismissing desk first root slots rest lanes → rest ≡ slot ∷ rest' → slot ≡ Ready job → IsPassOf desk job.pass
  next_jobs_pass desk first root slots rest rest' lanes slot job was e f =
      (job_at desk first root slots rest rest' lanes slot job was e f).2.1

  pub dismisses_one : (desk : Desk M C R G Q) (first root root' : Root M C R G Q g) (slots rest rest' : List (Slot (LaneJob M L C R G Q g) (LaneDone M E C R G Q g))) (lanes lanes' : List L) (slot : Slot (LaneJob M L C R G Q g) (LaneDone M E C R G Q g)) (job : LaneJob M L C R G Q g)
      → Dismissing desk first root slots rest lanes → rest ≡ slot ∷ rest' → slot ≡ Ready job → IsSameRoot root root'
      → joined root' ≡ joined root ++ record { lane = job.pass.lane; calls = mine job.pass } ∷ []
      → lanes' ≡ lanes ++ job.lane ∷ []
      → Dismissing desk first root' slots rest' lanes'
  dismisses_one desk first root root' slots rest rest' lanes lanes' slot job was e f same more longer =
      let here = job_at desk first root slots rest rest' lanes slot job was e f in
      let at : rest ≡ Ready job ∷ rest' = e ∙ ap (λ (p : Slot (LaneJob M L C R G Q g) (LaneDone M E C R G Q g)). p ∷ rest') f in
      let one : length (was.front ++ Ready job ∷ []) ≡ length was.front + 1 = omega (arith, length-append was.front (Ready job ∷ [])) in
      record {
        of_desk = same.0 ∙ was.of_desk;
        same = (same.1 ∙ was.same.0, same.2 ∙ was.same.1);
        front = was.front ++ Ready job ∷ [];
        split = was.split ∙ (ap (λ (xs : List (Slot (LaneJob M L C R G Q g) (LaneDone M E C R G Q g))). was.front ++ xs) at ∙ sym (append_assoc was.front (Ready job ∷ []) rest'));
        jobs = subst (λ (ls : List L). JobsFrom desk (root_basis first) 0 ls (was.front ++ Ready job ∷ [])) (sym longer)
            (one_more desk (root_basis first) 0 (length was.front) lanes was.front job.lane (Ready job)
            (omega (arith, as_many_jobs desk (root_basis first) 0 lanes was.front was.jobs)) was.jobs (refl, here.2.1, here.2.2, here.2.3, here.2.4));
        to_come = here.1;
        left = subst (λ (n : ℕ). JobsFrom desk (root_basis first) n here.1 rest') (sym one) here.3;
        many = omega (arith, ap length more, length-append (joined root) (record { lane = job.pass.lane; calls = mine job.pass } ∷ []), was.many, one);
        idle = subst (λ (js : List (Joined C R)). IdleFrom 0 js) (sym more)
            (idle_more 0 (joined root) (record { lane = job.pass.lane; calls = mine job.pass }) was.idle (omega (arith, here.2.3, was.many)) here.2.2.0);
      }

  -- all were taken
  pub dismissed : (desk : Desk M C R G Q) (first root : Root M C R G Q g) (slots rest : List (Slot (LaneJob M L C R G Q g) (LaneDone M E C R G Q g))) (lanes : List L)
      → Dismissing desk first root slots rest lanes → rest ≡ []
      → AreIdle 0 (length slots) (joined root) × JobsFrom desk (root_basis first) 0 lanes slots
  dismissed desk first root slots rest lanes was e =
      let whole : slots ≡ was.front = was.split ∙ (ap (λ (xs : List (Slot (LaneJob M L C R G Q g) (LaneDone M E C R G Q g))). was.front ++ xs) e ∙ append-nil was.front) in (
        record { as_many = was.many ∙ ap length (sym whole); each = was.idle },
        subst (λ (ps : List (Slot (LaneJob M L C R G Q g) (LaneDone M E C R G Q g))). JobsFrom desk (root_basis first) 0 lanes ps) (sym whole) was.jobs,
      )
