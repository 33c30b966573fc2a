use Rattle.std.proofs.Common.{◌+◌, ◌-◌, ◌≤◌, ◌≡◌, arith}
use Rattle.wire_fields.specs.Varint.{varint}
use Rattle.wire_fields.proofs.Digits.{before_last, rest_fits, length_more, length_last}
use Rattle.wire_fields.proofs.varint.varint_length.Goals as goal

pub loop-rest-preserved : goal.loop-rest-preserved
loop-rest-preserved c =
    let big : 128 ≤ c.loop-rest.rest = let t = c.loop-rest-test.true in omega arith in
    let now = c.loop-rest.invariant in
    let last = c.loop-rest.length - 1 in
    let le : last ≤ 9 = let w = now.within in omega arith in
    let room = before_last c.loop-rest.rest last le now.fits big in
    let next : c.loop-rest.length + 1 - 1 ≡ last + 1 = let s = now.some in omega arith in
    let few : c.loop-rest.length ≤ 9 = let s = now.some in omega (arith, room) in
    record {
      some = omega arith;
      within = omega arith;
      fits = rw next (rest_fits c.loop-rest.rest last room now.fits);
      so_far = length_more c.loop-rest.rest c.loop-rest.length _ now.some few big now.so_far;
    }

pub returns-clause-exact : goal.returns-clause-exact
unfolding varint
returns-clause-exact c = let now = c.loop-rest.invariant in length_last c.loop-rest.rest c.loop-rest.length _ now.some (let t = c.loop-rest-test.false in omega arith) now.so_far
