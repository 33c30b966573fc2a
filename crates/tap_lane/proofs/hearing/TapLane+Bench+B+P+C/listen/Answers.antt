use Rattle.std.proofs.Common.{rules, refl, ◌++◌, [], take, append-nil, arith, sym}
use Rattle.std.specs.Prelude.{Some, None}
use Rattle.exec_journal.specs.declared.call.HowEnded.TheVariants as end
use Rattle.answer_reader.proofs.Speeches.{says_first, says_first_more}
use Rattle.tap_lane.proofs.Goings.{answers_more, always_err}
use Rattle.tap_lane.proofs.Passing.{same_now, same_then}
use Rattle.tap_lane.proofs.Listening.{told_so, told_nothing, rose_above, still_open, one_more, some_taken, listened, on_line, grown_on}
use Rattle.tap_lane.proofs.hearing.TapLane+Bench+B+P+C.listen.Goals as goal

pub loop-init : goal.loop-init
loop-init g c = record {
  fed = [];
  answers = [];
  made = [];
  same = same_now c.args.self.now;
  hears = c.requires.hears;
  taken = c.requires.tap.nothing_taken;
  is_open = c.requires.tap.not_ended;
  of_line = c.requires.tap.of_line;
  heard = c.new-reader.ensures.hears;
  says = c.new-reader.ensures.waits;
  are = tt;
  grown = sym (append-nil _);
  reads = search rules;
}

pub loop-preserved : goal.loop-preserved
loop-preserved g c =
    let i = c.loop.invariant in
    let piece = take c.in-Bytes.count c.read.new.into in
    let took = c.in-Bytes.ensures.taken in
    let fed = c.in_ok-feed-in-Bytes.ensures.ok c.args.self.now.speech i.fed i.answers i.heard in
    let went = rw (c.if-not-branch.false) at (c.in_ok-tell_all-in-Bytes.ensures.ok c.args.self.now.speech
    (i.fed ++ piece) i.answers fed) in
    record {
      fed = i.fed ++ piece;
      answers = i.answers ++ went.more;
      made = i.made ++ went.made;
      same = same_then c.args.self.now c.loop.self c.tell_all.new.self i.same
          c.tell_all.ensures.same;
      hears = c.tell_all.ensures.hears;
      taken = took.2 i.fed i.taken;
      is_open = still_open _ _ c.in-Bytes.ensures.ended i.is_open;
      of_line = on_line _ _ c.args.line c.in-Bytes.ensures.line i.of_line;
      heard = went.so.0;
      says = went.so.1;
      are = answers_more c.args.line i.made went.made i.answers went.more i.are went.are;
      grown = grown_on _ _ _ i.made went.made i.grown went.grown;
      reads = one_more i.fed c.read.new.into c.in-Bytes.count c.loop.counter took.0 took.1 i.reads;
    }

pub returns-then-not-branch-clause-ok : goal.returns-then-not-branch-clause-ok
returns-then-not-branch-clause-ok g c =
    let i = c.loop.invariant in
    let piece = take c.in-Bytes.count c.read.new.into in
    let took = c.in-Bytes.ensures.taken in
    let fed = c.in_ok-feed-in-Bytes.ensures.ok c.args.self.now.speech i.fed i.answers i.heard in
    let went = rw (c.if-not-branch.true) at (c.in_ok-tell_all-in-Bytes.ensures.ok c.args.self.now.speech
    (i.fed ++ piece) i.answers fed) in
    listened c.args.self.now.speech c.args.line _ (Some end.BadFrame) (i.fed ++ piece)
    (i.answers ++ went.more) (i.made ++ went.made) _ _ (took.2 i.fed i.taken)
    (answers_more c.args.line i.made went.made i.answers went.more i.are went.are)
    (on_line _ _ c.args.line c.in-Bytes.ensures.line i.of_line) went.so
    (still_open _ _ c.in-Bytes.ensures.ended i.is_open)
    (grown_on _ _ _ i.made went.made i.grown went.grown)

pub returns-in-End-clause-ok : goal.returns-in-End-clause-ok
returns-in-End-clause-ok g c =
    let i = c.loop.invariant in
    listened c.args.self.now.speech c.args.line _ (Some end.End) i.fed i.answers i.made _ _
    (told_nothing _ _ i.fed c.in-End.ensures.taken i.taken) i.are
    (on_line _ _ c.args.line c.in-End.ensures.line i.of_line) i.says c.in-End.ensures.ended
    i.grown

pub returns-in-Failed-clause-ok : goal.returns-in-Failed-clause-ok
returns-in-Failed-clause-ok g c =
    let i = c.loop.invariant in
    listened c.args.self.now.speech c.args.line _ (Some end.TapFault) i.fed i.answers i.made _ _
    (told_nothing _ _ i.fed c.in-Failed.ensures.taken i.taken) i.are
    (on_line _ _ c.args.line c.in-Failed.ensures.line i.of_line) i.says (
      rose_above _ _ (c.in-Failed.ensures.count.rose refl),
      still_open _ _ c.in-Failed.ensures.ended i.is_open,
    )
    i.grown

pub returns-clause-ok : goal.returns-clause-ok
returns-clause-ok g c =
    let i = c.loop.invariant in
    listened c.args.self.now.speech c.args.line _ (Some end.Long) i.fed i.answers i.made _ _ i.taken i.are
    i.of_line i.says (
      i.is_open,
      told_so _ i.fed _ i.taken (
          let reads = i.reads in let over = c.loop-test.false in omega arith
          ),
    )
    i.grown

pub returns-in_err-feed-in-Bytes-clause-err : goal.returns-in_err-feed-in-Bytes-clause-err
returns-in_err-feed-in-Bytes-clause-err g c =
    let i = c.loop.invariant in
    let piece = take c.in-Bytes.count c.read.new.into in
    let took = c.in-Bytes.ensures.taken in
    always_err c.from_residual.result _
    (listened c.args.self.now.speech c.args.line _ None (i.fed ++ piece) i.answers i.made _ _
    (took.2 i.fed i.taken) i.are
    (on_line _ _ c.args.line c.in-Bytes.ensures.line i.of_line)
    (says_first_more c.args.self.now.speech i.fed piece i.answers
    (says_first c.args.self.now.speech i.fed i.answers c.loop.reader i.heard)) (
      still_open _ _ c.in-Bytes.ensures.ended i.is_open,
      some_taken _ i.fed c.read.new.into c.in-Bytes.count took.0 took.1
          (took.2 i.fed i.taken),
    )
    i.grown)

pub returns-in_err-tell_all-in-Bytes-clause-err : goal.returns-in_err-tell_all-in-Bytes-clause-err
returns-in_err-tell_all-in-Bytes-clause-err g c =
    let i = c.loop.invariant in
    let piece = take c.in-Bytes.count c.read.new.into in
    let took = c.in-Bytes.ensures.taken in
    let fed = c.in_ok-feed-in-Bytes.ensures.ok c.args.self.now.speech i.fed i.answers i.heard in
    let went = c.in_err-tell_all-in-Bytes.ensures.err c.args.self.now.speech (i.fed ++ piece) i.answers
    fed in
    always_err c.from_residual-in_err-tell_all-in-Bytes.result _
    (listened c.args.self.now.speech c.args.line _ None (i.fed ++ piece) (i.answers ++ went.more)
    (i.made ++ went.made) _ _ (took.2 i.fed i.taken)
    (answers_more c.args.line i.made went.made i.answers went.more i.are went.are)
    (on_line _ _ c.args.line c.in-Bytes.ensures.line i.of_line) went.so (
      still_open _ _ c.in-Bytes.ensures.ended i.is_open,
      some_taken _ i.fed c.read.new.into c.in-Bytes.count took.0 took.1
          (took.2 i.fed i.taken),
    )
    (grown_on _ _ _ i.made went.made i.grown went.grown))
