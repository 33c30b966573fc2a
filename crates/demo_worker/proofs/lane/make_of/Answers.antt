use Rattle.demo_worker.proofs.lane.make_of.Goals as goal

pub returns : goal.returns
returns g c =
    let h = rw (c.as_str-folder.ensures, c.as_slice.ensures) at c.in_ok-answer.ensures in
    (h.0, (c.in_ok-answer.answer, h.1, c.handled_as.ensures), h.2)
