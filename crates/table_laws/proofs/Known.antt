-- Which requests are pending, and by what each is known, in the words of the tables.
use Rattle.std.proofs.Common.{◌≡◌, ℕ, suc, ◌==◌, Bool, true, false, ◌||◌, List, [], ◌∷◌, Some, refl, ◌∙◌}
use Rattle.std.specs.Prelude.{slice_get}
use Rattle.run_plan.specs.declared.plan.Plan.{Plan}
use Rattle.exec_journal.specs.Entry.{Entry}
use Rattle.exec_journal.specs.declared.call.Call.TheVariants as call
use Rattle.exec_journal.specs.declared.call.Started.{Started}
use Rattle.exec_journal.specs.Entries.{Request, is_done}
use Rattle.exec_journal.specs.Words.{order_of, sends, pending, is_pending}
use Rattle.exec_journal.specs.Lawful.{Lawful}
use Rattle.exec_journal.specs.Facts.{IsOfBerth}
use Rattle.exec_journal.proofs.Histories.{AllOf}
use Rattle.exec_journal.proofs.Begins.{begin_in_order}
use Rattle.journal_laws.specs.Steps.{KnownByNumber}
use Rattle.journal_laws.proofs.Carried as k
use Rattle.journal_laws.proofs.Keeping as ke
use Rattle.journal_laws.proofs.Places as pl
use Rattle.call_laws.proofs.Requested as re
use Rattle.call_laws.proofs.Ended as ed
use Rattle.worker_pool.specs.Entries as wp
use Rattle.worker_pool.proofs.Once as once
use Rattle.request_table.specs.Entries as rq
use Rattle.table_laws.proofs.Bridge as br

pub each_of_all : (P : Request → Type 0) (xs : List Request) → AllOf P xs → rq.EachOf P xs
each_of_all P [] all = tt
each_of_all P (x ∷ xs) all = (all.0, each_of_all P xs all.1)

places : (qs : List Request) → AllOf (λ x. (i : ℕ) × (slice_get qs i ≡ Some x)) qs
places [] = tt
places (x ∷ qs) = (
  (0, refl),
  k.all_map (λ y. (i : ℕ) × (slice_get qs i ≡ Some y))
      (λ y. (i : ℕ) × (slice_get (x ∷ qs) i ≡ Some y)) (λ y h. (suc h.0, h.1)) qs (places qs),
)

-- each is the only pending one of its attempt
pub pending_on : (p : Plan) (j : List Entry) (l : ℕ) → Lawful p j
    → AllOf (λ x. wp.IsPendingOn j x.attempt l) (pending j l)
unfolding pending
pending_on p j l legal =
    k.all_map (λ x. ((i : ℕ) × (slice_get (sends j l) i ≡ Some x)) × (is_pending j x ≡ true))
    (λ x. wp.IsPendingOn j x.attempt l) (λ x h. once.pending_on j
    (begin_in_order p j legal) l h.0.0 x h.0.1 h.1) _
    (ke.filter_passes (λ x. (i : ℕ) × (slice_get (sends j l) i ≡ Some x)) (is_pending j) (sends j l)
    (places (sends j l)))

-- and known by its line and its number
pub known_by : (p : Plan) (j : List Entry) (l w : ℕ) → Lawful p j → IsOfBerth j l w
    → AllOf (λ x. rq.IsKnownBy j l x.number x.attempt) (pending j l)
known_by p j l w legal own = k.all_map (λ x. KnownByNumber j l x.number x.attempt)
    (λ x. rq.IsKnownBy j l x.number x.attempt)
    (λ x h. record {
      here = br.each_of _ _ h.here;
      elsewhere =
          λ i apart. br.each_of _ _ (h.elsewhere i apart);
    }) (pending j l)
    (re.known_pending p j l w legal own)

-- that of a Wrote is pending on its own line, or nowhere
pub written_on : (p : Plan) (j : List Entry) (lane : ℕ) (x : Request) → Lawful p j
    → order_of j lane ≡ Some x → is_pending j x ≡ true → wp.IsPendingOn j x.attempt x.line
written_on p j lane x legal order up = let at = pl.written_place p j lane x legal order in
    once.pending_on j (begin_in_order p j legal) x.line at.place x at.is up

pub written_nowhere : (p : Plan) (j : List Entry) (lane : ℕ) (x : Request) → Lawful p j
    → order_of j lane ≡ Some x → is_pending j x ≡ false → wp.IsPendingNowhere j x.attempt
written_nowhere p j lane x legal order off = let at = pl.written_place p j lane x legal order in
    once.pending_nowhere j (begin_in_order p j legal) x.line at.place x at.is off

-- of what is bound, a Launched with a fault is about what is bound to its own line
pub are_faulted : (p : Plan) (e : Entry) (j : List Entry) (l : ℕ) (how : Started) → Lawful p (e ∷ j)
    → e.call ≡ call.Launched l how → is_done how ≡ false → wp.AreFaulted p j e (l ∷ [])
are_faulted p e j l how legal is fault = record {
  each = λ m t at. last (l == m)
      ∙ ed.are_faulted p e j l how legal is fault m t at;
}
  where
    last : (b : Bool) → (b || false) ≡ b
    last true = refl
    last false = refl
