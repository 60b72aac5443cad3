use Rattle.std.proofs.Common.{◌≡◌, ◌+◌, ◌-◌, refl, ap, arith}
use Rattle.ov_even.specs.Code.Levels.{pairs_among}
use Rattle.ov_even.proofs.PieceNumbers.Pairs.{pairs_more, before_within}
use Rattle.ov_even.proofs.level_pieces.pair_at.Goals as goal

pub loop-before-init : goal.loop-before-init
unfolding pairs_among
loop-before-init c = record { some = omega arith; place = omega arith }

pub overflow_add-before : goal.overflow_add-before
overflow_add-before c =
    let l = c.loop-before in
    omega (arith, before_within c.args.level l.before l.left c.args.place l.invariant.place c.requires.below)

pub loop-before-preserved : goal.loop-before-preserved
loop-before-preserved c =
    let l = c.loop-before in
    let e = l.invariant.place in
    record { some = omega arith; place = omega (arith, pairs_more l.before, e) }

pub overflow_cast-result : goal.overflow_cast-result
overflow_cast-result c =
    let l = c.loop-before in
    omega (arith, before_within c.args.level l.before l.left c.args.place l.invariant.place c.requires.below)

pub overflow_add-result : goal.overflow_add-result
overflow_add-result c =
    let l = c.loop-before in
    omega (arith, before_within c.args.level l.before l.left c.args.place l.invariant.place c.requires.below)

pub overflow_cast-result-2 : goal.overflow_cast-result-2
overflow_cast-result-2 c =
    let l = c.loop-before in
    omega (arith, before_within c.args.level l.before l.left c.args.place l.invariant.place c.requires.below)

pub overflow_add-result-2 : goal.overflow_add-result-2
overflow_add-result-2 c =
    let l = c.loop-before in
    omega (arith, before_within c.args.level l.before l.left c.args.place l.invariant.place c.requires.below)

pub returns : goal.returns
returns c =
    let l = c.loop-before in
    let within = before_within c.args.level l.before l.left c.args.place l.invariant.place c.requires.below in
    let e : l.before ≡ l.before + 1 - 1 = omega arith in
    let f = ap pairs_among e in
    let g = l.invariant.place in
    record {
      i = l.left + 1;
      j = l.before + 1;
      is = refl;
      first = omega arith;
      less = omega arith;
      among = omega arith;
      there = omega (arith, f, g);
    }
