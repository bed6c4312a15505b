use Rattle.std.proofs.Common.{◌≡◌, refl, arith, length}
use Rattle.lane_word.specs.Word.{uniform_of}
use Rattle.lane_word.proofs.Scan.{start, step, even, uneven, no_lanes}
use Rattle.lane_word.proofs.tell.Goals as goal

pub returns-then-not-known : goal.returns-then-not-known
unfolding uniform_of
returns-then-not-known c = rw c.if-not-known.true

pub returns-then-is_empty : goal.returns-then-is_empty
unfolding uniform_of
returns-then-is_empty c =
    let e : length c.args.values.now ≡ 0 = grind arith in
    let z = no_lanes c.args.values.now e in rw (c.if-not-known.false, z.1, z.0)

pub loop-k-init : goal.loop-k-init
loop-k-init c = start c.args.values.now refl (grind arith)

pub loop-k-preserved : goal.loop-k-preserved
loop-k-preserved c = step c.loop-k.invariant c.if-values-k.false c.if-values-k-2.false

pub returns-then-values-k : goal.returns-then-values-k
unfolding uniform_of
returns-then-values-k c = rw (c.if-not-known.false, even c.loop-k.invariant c.if-values-k.true)

pub returns-then-values-k-2 : goal.returns-then-values-k-2
unfolding uniform_of
returns-then-values-k-2 c = rw (c.if-not-known.false, uneven c.loop-k.invariant c.if-values-k.false c.if-values-k-2.true)
