use Rattle.std.proofs.Common.{rules, refl, ◌≡◌}
use Rattle.std.proofs.lemmas.Result.{err_from_is_err_and}
use Rattle.outside.specs.declared.answers.Read.TheVariants as read
use Rattle.sandbox_rooms.specs.declared.gathering.Gathered.TheVariants as gathered
use Rattle.sandbox_rooms.specs.Rooms.{gather_asks}
use Rattle.sandbox_rooms.proofs.Gathers.{found_more, looks_last, looks_cut, looks_all, looks_none}
use Rattle.sandbox_rooms.proofs.gathering.look.Goals as goal

pub returns-in_err-bytes-clause-looks : goal.returns-in_err-bytes-clause-looks
returns-in_err-bytes-clause-looks g c =
    let told = g.B.Berth.told in
    let p = err_from_is_err_and c.from_residual-in_err-bytes.result c.from_residual-in_err-bytes.ensures.1 in
    rw (p.1) (looks_cut c.args.room c.args.outputs.now c.loop-k.k c.loop-k.files.items p.0 (told c.args.berth.now) (told c.loop-k.berth) (told c.get_one.new.berth) c.loop-k.invariant.found c.in_err-bytes.ensures.none)

pub returns-in-Absent-clause-looks : goal.returns-in-Absent-clause-looks
returns-in-Absent-clause-looks g c =
    let told = g.B.Berth.told in
    let is = c.in-Absent.is in
    looks_last c.args.room c.args.outputs.now c.loop-k.k c.index-outputs-k.result c.as_str.result.now c.loop-k.files.items read.Absent (gathered.Missing c.loop-k.k) (told c.args.berth.now) (told c.loop-k.berth) (told c.get_one.new.berth) (search rules) c.index-outputs-k.is c.as_str.ensures refl refl refl (λ fault. absurd fault) c.loop-k.invariant.found (rw is at c.in_ok-bytes.ensures.made)

pub returns-in-Failed-clause-looks : goal.returns-in-Failed-clause-looks
returns-in-Failed-clause-looks g c =
    let told = g.B.Berth.told in
    let is = c.in-Failed.is in
    looks_last c.args.room c.args.outputs.now c.loop-k.k c.index-outputs-k.result c.as_str.result.now c.loop-k.files.items read.Failed gathered.RoomFault (told c.args.berth.now) (told c.loop-k.berth) (told c.get_one.new.berth) (search rules) c.index-outputs-k.is c.as_str.ensures refl refl refl (λ fault. refl) c.loop-k.invariant.found (rw is at c.in_ok-bytes.ensures.made)

pub loop-k-preserved : goal.loop-k-preserved
loop-k-preserved g c =
    let told = g.B.Berth.told in
    let is = c.in-Found.is in
    record {
      found = found_more c.args.room c.args.outputs.now c.loop-k.k c.index-outputs-k.result c.as_str.result.now c.in-Found.bytes c.loop-k.files.items c.push_reserved.new.self.items (read.Found c.in-Found.bytes ≡ read.Failed) (told c.args.berth.now) (told c.loop-k.berth) (told c.get_one.new.berth) (search rules) c.index-outputs-k.is c.as_str.ensures c.push_reserved.ensures.items c.loop-k.invariant.found (rw is at c.in_ok-bytes.ensures.made);
      files = search rules;
      room = search rules;
    }

pub returns-clause-looks : goal.returns-clause-looks
returns-clause-looks g c =
    let told = g.B.Berth.told in
    rw c.of.ensures (looks_all c.args.room c.args.outputs.now c.loop-k.k c.loop-k.files.items (told c.args.berth.now) (told c.loop-k.berth) c.loop-k-test.false c.loop-k.invariant.found)

pub returns-in_err-files-clause-looks : goal.returns-in_err-files-clause-looks
returns-in_err-files-clause-looks g c =
    let p = err_from_is_err_and c.from_residual.result c.from_residual.ensures.1 in
    rw (p.1) (looks_none (gather_asks c.args.room c.args.outputs.now) p.0 (g.B.Berth.told c.args.berth.now))
