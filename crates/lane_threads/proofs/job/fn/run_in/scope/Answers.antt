use Rattle.std.proofs.Common.{◌≡◌, false, List, [], length, ap, arith, rules, sym, refl, subst, ◌∙◌}
use Rattle.std.specs.List.{AllZip, list_any}
use Rattle.std.proofs.lemmas.List.{nil_from_length}
use Rattle.std.proofs.lemmas.List.Elements.{All-same}
use Rattle.lane_threads.specs.declared.job.Slot.{Slot}
use Rattle.lane_threads.specs.Jobs.{CanRun, HasEnded, has_end}
use Rattle.lane_threads.proofs.Starts.{starts, starts_one, one_late, next_can, as_it_was, all_back, all_left_can, all_ended_by, all_as_they_were}
use Rattle.lane_threads.proofs.job.fn.run_in.scope.Goals as goal

pub loop-slot-init : goal.loop-slot-init
loop-slot-init g c =
    let same = c.from_vec-rest.ensures.items in
    let many = ap length same in
    let threads = c.requires.1 in
    let late = c.requires.2 in (
      starts g.J.Job.can_run g.J.Job.ends c.captures.context.now c.from_vec-rest.result.items c.from_vec-rest.result.items c.captures.threads.items c.captures.late.items
          refl threads.empty late.empty (All-same (CanRun g.J.Job.can_run c.captures.context.now) c.from_vec-rest.result.items c.captures.slots.items same c.requires.0),
      omega (arith, threads.none, late.none),
      omega (arith, many, threads.room),
      omega (arith, many, late.room),
    )

pub loop-slot-preserved-then-len-gt0 : goal.loop-slot-preserved-then-len-gt0
loop-slot-preserved-then-len-gt0 g c =
    let before = c.loop-slot.invariant in
    let fewer = ap length c.in-Some.ensures.items in (
      one_late g.J.Job.can_run g.J.Job.ends c.captures.context.now c.from_vec-rest.result.items c.loop-slot.rest.items c.pop_front.new.self.items c.loop-slot.threads.items c.loop-slot.late.items c.push_reserved.new.self.items
          c.in-Some.slot c.in-Some.slot before.0 c.in-Some.ensures.items c.push_reserved.ensures.items
          (as_it_was g.J.Job.can_run g.J.Job.ends c.captures.context.now c.from_vec-rest.result.items c.loop-slot.rest.items c.pop_front.new.self.items c.loop-slot.threads.items c.loop-slot.late.items c.in-Some.slot before.0 c.in-Some.ensures.items),
      omega (arith, fewer, before.1, c.push_reserved.ensures.len),
      before.2,
      omega (arith, before.3, c.push_reserved.ensures.capacity),
    )

pub spawn_with-requires-clause-runs : goal.spawn_with-requires-clause-runs
spawn_with-requires-clause-runs g c κs within = (
  next_can g.J.Job.can_run g.J.Job.ends c.captures.context.now c.from_vec-rest.result.items c.loop-slot.rest.items c.pop_front.new.self.items c.loop-slot.threads.items c.loop-slot.late.items c.in-Some.slot
      c.loop-slot.invariant.0 c.in-Some.ensures.items,
  (let bounds = c.requires-raw.1.1.1.1 in (
    record { owned = bounds.0.owned; leaving = search rules },
    record { owned = bounds.1.0.owned; leaving = search rules },
    record { shared = bounds.1.1.0.shared },
    record { shared = bounds.1.1.1.0.shared },
  )),
)

pub loop-slot-preserved-in-Ok : goal.loop-slot-preserved-in-Ok
loop-slot-preserved-in-Ok g c =
    let before = c.loop-slot.invariant in
    let fewer = ap length c.in-Some.ensures.items in
    let ok = c.loop-slot.late.ok in
    let none : c.loop-slot.late.items ≡ [] = nil_from_length c.loop-slot.late.items (omega (arith, c.if-len-gt0.false, c.len.ensures, ok)) in (
      starts_one g.J.Job.can_run g.J.Job.ends c.captures.context.now c.from_vec-rest.result.items c.loop-slot.rest.items c.pop_front.new.self.items c.loop-slot.threads.items c.push_reserved-in-Ok.new.self.items c.loop-slot.late.items
          c.in-Some.slot c.in-Ok.thread before.0 none c.in-Some.ensures.items c.push_reserved-in-Ok.ensures.items (search rules) (search rules),
      omega (arith, fewer, before.1, c.push_reserved-in-Ok.ensures.len),
      omega (arith, before.2, c.push_reserved-in-Ok.ensures.capacity),
      before.3,
    )

pub loop-slot-preserved : goal.loop-slot-preserved
loop-slot-preserved g c =
    let before = c.loop-slot.invariant in
    let fewer = ap length c.in-Some.ensures.items in (
      one_late g.J.Job.can_run g.J.Job.ends c.captures.context.now c.from_vec-rest.result.items c.loop-slot.rest.items c.pop_front.new.self.items c.loop-slot.threads.items c.loop-slot.late.items c.push_reserved-in-Err.new.self.items
          c.in-Some.slot c.run.result before.0 c.in-Some.ensures.items c.push_reserved-in-Err.ensures.items
          (rw c.in-Err.ensures.err at c.run.ensures),
      omega (arith, fewer, before.1, c.push_reserved-in-Err.ensures.len),
      before.2,
      omega (arith, before.3, c.push_reserved-in-Err.ensures.capacity),
    )

pub run_left-requires-clause-left : goal.run_left-requires-clause-left
run_left-requires-clause-left g c κs within =
    let was = c.loop-slot.invariant.0 in
    let all = All-same (CanRun g.J.Job.can_run c.captures.context.now) c.from_vec-rest.result.items c.captures.slots.items c.from_vec-rest.ensures.items c.requires.0 in
    all_left_can g.J.Job.can_run g.J.Job.ends c.captures.context.now c.from_vec-rest.result.items c.append.new.self.items all
    (all_back g.J.Job.can_run g.J.Job.ends c.captures.context.now c.from_vec-rest.result.items c.loop-slot.rest.items c.loop-slot.threads.items c.loop-slot.late.items c.join_all.new.ends.items c.append.new.self.items
    was (search rules) (c.join_all.ensures.kept c.captures.context.now was.over) c.in-Ok-append.ensures.items)

pub returns-then-any_ended : goal.returns-then-any_ended
returns-then-any_ended g c =
    let was = c.loop-slot.invariant.0 in
    let back = all_back g.J.Job.can_run g.J.Job.ends c.captures.context.now c.from_vec-rest.result.items c.loop-slot.rest.items c.loop-slot.threads.items c.loop-slot.late.items c.join_all.new.ends.items c.append.new.self.items
    was (search rules) (c.join_all.ensures.kept c.captures.context.now was.over) c.in-Ok-append.ensures.items in (
      subst (λ (ps : List (Slot g.row.J.Denot g.row.J-End.Denot)). AllZip (HasEnded g.J.Job.ends c.captures.context.now) ps c.run_left.new.ends.items) c.from_vec-rest.ensures.items
          (all_ended_by g.J.Job.ends c.captures.context.now c.from_vec-rest.result.items c.append.new.self.items c.run_left.new.ends.items back c.run_left.ensures),
      tt,
    )

pub returns-else-any_ended : goal.returns-else-any_ended
returns-else-any_ended g c =
    let was = c.loop-slot.invariant.0 in
    let back = all_back g.J.Job.can_run g.J.Job.ends c.captures.context.now c.from_vec-rest.result.items c.loop-slot.rest.items c.loop-slot.threads.items c.loop-slot.late.items c.join_all.new.ends.items c.append.new.self.items
    was (search rules) (c.join_all.ensures.kept c.captures.context.now was.over) c.in-Ok-append.ensures.items in
    let none : list_any has_end c.append.new.self.items ≡ false = ap (list_any has_end) (sym c.as_slice.ensures.value) ∙ (sym c.any_ended.ensures ∙ c.if-any_ended.false) in (
      tt,
      all_as_they_were g.J.Job.ends c.captures.context.now c.from_vec-rest.result.items c.append.new.self.items back none ∙ c.from_vec-rest.ensures.items,
    )
