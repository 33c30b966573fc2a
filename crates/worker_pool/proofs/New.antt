-- A new table stands for the empty journal.
use Rattle.std.proofs.Common.{◌≡◌, ℕ, [], None, refl, sym, subst}
use Rattle.list_lemmas.proofs.Updates.{get_replicate}
use Rattle.run_plan.specs.declared.plan.Plan.{Plan}
use Rattle.exec_journal.specs.Words.{line_count, launch_of, last_line}
use Rattle.worker_pool.specs.Rows.{Facts, new_facts}
use Rattle.worker_pool.specs.Stands.{Stands, line_in, seat_in}

pub new_stands : (p : Plan) (seats : ℕ) → Stands p seats (new_facts p seats) []
unfolding line_in seat_in line_count launch_of last_line
new_stands p seats = record {
  room = refl;
  count = refl;
  each_line = λ l. refl;
  each_seat = λ w. get_replicate None seats w;
}

pub stands_by : (p : Plan) (seats : ℕ) (f : Facts) → f ≡ new_facts p seats → Stands p seats f []
stands_by p seats f e = subst (λ g. Stands p seats g []) (sym e) (new_stands p seats)
