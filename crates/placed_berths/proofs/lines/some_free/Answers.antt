use Rattle.std.proofs.Common.{◌&&◌, refl, sym, ◌∙◌}
use Rattle.earliest_first.specs.Choices.{has_room}
use Rattle.shared_laws.specs.Berths.{is_of_group, some_free}
use Rattle.placed_berths.proofs.Below.{found}
use Rattle.placed_berths.proofs.lines.some_free.Goals as goal

pub has_free-requires : goal.has_free-requires
has_free-requires c = c.requires.each c.loop-berth.berth c.loop-berth-test.true

pub returns-then-has_free : goal.returns-then-has_free
returns-then-has_free c =
    let s = c.args.state.now in
    sym (found (λ w. is_of_group s c.args.group w && has_room s.pool w)
    (some_free s c.args.group) (λ n. refl) c.loop-berth.berth c.args.berths
    c.loop-berth-test.true (sym c.has_free.ensures ∙ c.if-has_free.true))
