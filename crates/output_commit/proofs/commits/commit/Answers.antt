use Rattle.std.proofs.Common.{rules}
use Rattle.output_commit.proofs.Writes.{writes_go}
use Rattle.output_commit.proofs.commits.commit.Goals as goal

pub loop-index-preserved : goal.loop-index-preserved
loop-index-preserved g c =
    let told = g.P.Place.told in
    record {
      written = writes_go c.args.outputs.now c.args.files.now c.loop-index.index c.index-outputs-index.result c.index-files-index.result c.as_str.result.now c.bytes.result.now (told c.args.place.now).log (told c.loop-index.place).log (told c.write.new.self).log (search rules) c.requires.files c.index-outputs-index.is c.index-files-index.is c.as_str.ensures c.bytes.ensures c.loop-index.invariant.written c.in_default.ensures.log;
      count = search rules;
      same = search rules;
    }
