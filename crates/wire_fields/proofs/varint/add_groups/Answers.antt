use Rattle.std.proofs.Common.{arith, sym}
use Rattle.std.proofs.lemmas.Bool.{ltb-false}
use Rattle.wire_fields.specs.Varint.{varint_at}
use Rattle.wire_fields.proofs.Digits.{shifted, fits_next, fits_64, tenth_fits, goes_on, ends, is_cut, tenth_is_last, tenth_is_bad}
use Rattle.wire_fields.proofs.varint.add_groups.Goals as goal

pub returns-in_default : goal.returns-in_default
unfolding varint_at
returns-in_default c = is_cut c.loop-i.value c.loop-i.i c.args.bytes.now _ (ltb-false _ _ (sym c.in_default.ensures.lookup.0)) c.loop-i.invariant.read

pub overflow_add-value : goal.overflow_add-value
overflow_add-value c = rw (shifted _ _ c.loop-i.i c.from.ensures c.loop-i-test.true) (omega (arith, fits_64 c.loop-i.value c.in-Some.field-0.now c.loop-i.i c.loop-i-test.true c.loop-i.invariant.fits))

pub returns-then-byte-lt128 : goal.returns-then-byte-lt128
unfolding varint_at
returns-then-byte-lt128 c =
    let found = c.in-Some.ensures.lookup.3 in
    rw (shifted _ _ c.loop-i.i c.from.ensures c.loop-i-test.true) (
      ends c.loop-i.value c.loop-i.i c.in-Some.field-0.now c.args.bytes.now _ c.loop-i-test.true found.0 (found.1 0) c.if-byte-lt128.true c.loop-i.invariant.read,
      omega (arith, found.0),
      omega arith,
      fits_64 c.loop-i.value c.in-Some.field-0.now c.loop-i.i c.loop-i-test.true c.loop-i.invariant.fits,
    )

pub loop-i-preserved : goal.loop-i-preserved
loop-i-preserved c =
    let found = c.in-Some.ensures.lookup.3 in
    rw (shifted _ _ c.loop-i.i c.from.ensures c.loop-i-test.true)
    (record {
      within = omega (arith, found.0);
      fits = fits_next c.loop-i.value c.in-Some.field-0.now c.loop-i.i c.loop-i.invariant.fits;
      read = goes_on c.loop-i.value c.loop-i.i c.in-Some.field-0.now c.args.bytes.now _ c.loop-i-test.true found.0 (found.1 0) c.if-byte-lt128.false c.loop-i.invariant.read;
    })

pub returns-in-None : goal.returns-in-None
unfolding varint_at
returns-in-None c = is_cut c.loop-i.value c.loop-i.i c.args.bytes.now _ (omega (arith, ltb-false _ _ (sym c.in-None.ensures.lookup.0))) c.loop-i.invariant.read

pub returns-in-Some-get : goal.returns-in-Some-get
unfolding varint_at
returns-in-Some-get c =
    let found = c.in-Some-get.ensures.lookup.3 in
    rw c.from-in-Some-get.ensures (
      tenth_is_last c.loop-i.value c.loop-i.i c.in-Some-get.field-0.now c.args.bytes.now _ (omega arith) found.0 (found.1 0) c.if-byte-le-TENTH_BYTE_MAX.true c.loop-i.invariant.read,
      omega (arith, found.0),
      omega arith,
      tenth_fits c.loop-i.value c.in-Some-get.field-0.now c.loop-i.i (omega arith) c.loop-i.invariant.fits c.if-byte-le-TENTH_BYTE_MAX.true,
    )

pub returns-in-Some-2 : goal.returns-in-Some-2
unfolding varint_at
returns-in-Some-2 c =
    let found = c.in-Some-get.ensures.lookup.3 in
    tenth_is_bad c.loop-i.value c.loop-i.i c.in-Some-get.field-0.now c.args.bytes.now _ (omega arith) found.0 (found.1 0) c.if-byte-le-TENTH_BYTE_MAX.false c.loop-i.invariant.read
