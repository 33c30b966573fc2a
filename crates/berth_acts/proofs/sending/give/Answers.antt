use Rattle.berth_acts.proofs.Steps.{given_whole, given_front}
use Rattle.berth_acts.proofs.sending.give.Goals as goal

pub returns-in-Done : goal.returns-in-Done
returns-in-Done g c =
    let told = g.F.Feed.told in
    let e = c.in-Done.ensures in
    given_whole c.args.frame.now (told c.args.feed.now) (told c.write.new.self) e.given e.count e.line

pub returns-in-Failed : goal.returns-in-Failed
returns-in-Failed g c =
    let told = g.F.Feed.told in
    let e = c.in-Failed.ensures in
    given_front c.args.frame.now (told c.args.feed.now) (told c.write.new.self) e.given e.count e.line
