-- The report at the middle place is before, at, or behind what is looked for.
use Rattle.std.proofs.Common.{◌+◌, ◌-◌, ◌/◌, ℕ, slice_index, arith}
use Rattle.std.specs.declared.cmp.Ordering.TheVariants.{Less, Equal, Greater}
use Rattle.ov_ids.proofs.Members.{has_place}
use Rattle.ov_snap.specs.Code.Index.{key_at}
use Rattle.ov_snap.proofs.Indexing.{compared, key_same, lower_half, middle_within, upper_half}
use Rattle.ov_snap.proofs.reports_by_moment_and_group.search.Goals as goal

pub prove-unreachable-requires : goal.prove-unreachable-requires
prove-unreachable-requires c =
    let loop = c.loop-low in
    let middle : ℕ = loop.low + (loop.high - loop.low) / 2 in
    let within = middle_within c.args.filed.now c.args.places.now (c.args.moment, c.args.group.now) loop.low loop.high
    loop.invariant c.loop-low-test.true in
    let there =
    c.requires.inside (slice_index c.args.places.now middle) (has_place c.args.places.now middle 0 within) in
    let beyond = c.if-prove.true in
    omega (arith, there, beyond)

pub loop-low-preserved-in-Less : goal.loop-low-preserved-in-Less
loop-low-preserved-in-Less c =
    upper_half c.args.filed.now c.args.places.now (c.args.moment, c.args.group.now) c.loop-low.low c.loop-low.high
    c.requires c.loop-low.invariant c.loop-low-test.true
    (compared c.args.filed.now _ c.index-filed-place.result _ c.compare.result Less c.if-prove.false
    c.index-filed-place.is c.compare.ensures c.in-Less.is)

pub returns-in-Equal-clause-found : goal.returns-in-Equal-clause-found
returns-in-Equal-clause-found c =
    let place : ℕ = slice_index c.args.places.now (c.loop-low.low + (c.loop-low.high - c.loop-low.low) / 2) in (
      c.if-prove.false,
      key_same (key_at c.args.filed.now place) (c.args.moment, c.args.group.now)
          (compared c.args.filed.now place c.index-filed-place.result _ c.compare.result Equal c.if-prove.false
          c.index-filed-place.is c.compare.ensures c.in-Equal.is),
    )

pub loop-low-preserved : goal.loop-low-preserved
loop-low-preserved c =
    lower_half c.args.filed.now c.args.places.now (c.args.moment, c.args.group.now) c.loop-low.low c.loop-low.high
    c.requires c.loop-low.invariant c.loop-low-test.true
    (compared c.args.filed.now _ c.index-filed-place.result _ c.compare.result Greater c.if-prove.false
    c.index-filed-place.is c.compare.ensures c.in-Greater.is)
