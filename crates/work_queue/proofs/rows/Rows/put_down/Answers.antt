use Rattle.std.proofs.Common.{◌∙◌, refl, sym}
use Rattle.work_queue.proofs.Rowing.{cut_some, cut_none}
use Rattle.work_queue.proofs.rows.Rows.put_down.Goals as goal

pub returns-in-Some : goal.returns-in-Some
returns-in-Some g c =
    let at = sym c.place_of.ensures.place ∙ c.in-Some.is in (
      c.remove.ensures.items
          ∙ cut_some c.args.lane c.args.self.now.hands.items c.in-Some.index
          (rw (c.deref.ensures.value) at (at)),
      refl,
    )

pub returns-in_default : goal.returns-in_default
returns-in_default g c =
    let at = sym c.place_of.ensures.place ∙ c.in_default.is in (
      cut_none c.args.lane c.args.self.now.hands.items (rw (c.deref.ensures.value) at (at)),
      refl,
    )
