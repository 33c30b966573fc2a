-- A new core stands for the empty journal.
use Rattle.std.proofs.Common.{◌≡◌, ℕ, ◌*◌, ◌^◌, ◌<◌, nat_lt, List, false, cond, [], Some, None, ap, sym, subst, ◌∙◌}
use Rattle.std.specs.Prelude.{slice_get, replicate}
use Rattle.run_plan.specs.declared.plan.Plan.{Plan}
use Rattle.run_plan.specs.Sound.{Sound}
use Rattle.exec_journal.specs.Words.{halted, last_work, stopped, has_halted, last_line}
use Rattle.journal_laws.proofs.Debts.{owes_first}
use Rattle.list_lemmas.proofs.Updates.{get_replicate}
use Rattle.worker_pool.specs.Stands as pools
use Rattle.request_table.specs.Stands as asks
use Rattle.cancel_rules.specs.Stands as marks
use Rattle.ready_order.specs.Stands as queues
use Rattle.race_core.specs.Stands as races
use Rattle.retry_rules.specs.Stands as counts
use Rattle.core_state.specs.declared.state.State.{State}
use Rattle.core_tables.specs.Lanes.{no_work, lane_in}
use Rattle.core_tables.specs.Greetings.{silent, greeting_in}
use Rattle.core_tables.specs.Last.{no_line, last_in}
use Rattle.core_tables.specs.Matches.{no_matches, matches_in}
use Rattle.call_laws.specs.Matches.{recent}
use Rattle.core_laws.specs.Stands as tables
use Rattle.core_tables.specs.Slots.{Facts, IsNewFiles}
use Rattle.core_tables.proofs.Kept as kept
use Rattle.core_tables.specs.Stands as files
use Rattle.core_contract.specs.Discipline.{Discipline}
use Rattle.exec_journal.specs.Entry.{Entry}
use Rattle.spawn_core.specs.Stands.{StandsIn}

module _ {M : Type 0} (q : Discipline) (own : M → List Entry → Type 0) (policy : M) (s : State)
    (p : Plan) (same : q.plan ≡ p) (begins : own policy []) (small : q.seats < 2 ^ 31)
    (sound : Sound p) (plan : s.plan ≡ p) (m n : ℕ)
    (m_is : m ≡ 2 * q.seats) (n_is : n ≡ q.seats)
    (pool : pools.Stands p n s.pool []) (requests : asks.Stands p s.requests [])
    (cancels : marks.Stands p s.cancels []) (ready : queues.Stands p s.ready [])
    (race : races.Stands p s.race []) (attempts : counts.Stands p s.attempts [])
    (lanes : s.lanes ≡ replicate m no_work) (last : s.last ≡ replicate n no_line)
    (greetings : s.greetings ≡ replicate n silent)
    (matches : s.matches ≡ replicate n no_matches) (unhalted : s.halted ≡ false) (f : Facts)
    (new : IsNewFiles p.actions f) where
  new_tables : tables.Stands p q.seats s []
  unfolding halted lane_in last_work stopped has_halted last_in last_line greeting_in matches_in recent
  new_tables = record {
    plan = plan;
    sound = sound;
    lawful = tt;
    seated = tt;
    few = small;
    pool = subst (λ k. pools.Stands p k s.pool []) n_is pool;
    requests = requests;
    cancels = cancels;
    ready = ready;
    race = race;
    attempts = attempts;
    lanes = λ k. ap (λ xs. slice_get xs k) lanes ∙ get_replicate no_work m k
        ∙ ap (λ c. cond (nat_lt k c) (Some no_work) None) m_is;
    last = λ k. ap (λ xs. slice_get xs k) last ∙ get_replicate no_line n k
        ∙ ap (λ c. cond (nat_lt k c) (Some no_line) None) n_is;
    greetings = λ k. ap (λ xs. slice_get xs k) greetings ∙ get_replicate silent n k
        ∙ ap (λ c. cond (nat_lt k c) (Some silent) None) n_is;
    matches = λ k. ap (λ xs. slice_get xs k) matches ∙ get_replicate no_matches n k
        ∙ ap (λ c. cond (nat_lt k c) (Some no_matches) None) n_is;
    halted = unhalted;
  }

  -- each lane owes its Halt
  pub new_stands : (owed : ℕ) → owed ≡ 2 * q.seats
      → StandsIn q own (record { policy = policy; state = s; files = f; owed = owed }) []
  new_stands owed all = record {
    both = record {
      tables = subst (λ (x : Plan). tables.Stands x q.seats s []) (sym same) new_tables;
      legal = tt;
      kept = subst (λ (x : Plan). files.Stands x f []) (sym same) (kept.new_stands p f new);
      own = begins;
    };
    owed = all ∙ sym (owes_first q.seats);
  }
