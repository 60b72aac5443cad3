-- The path is written from its end back to the source.
use Rattle.std.proofs.Common.{◌∙◌, ℕ, inl, inr, List, length, sym, ap, arith}
use Rattle.std.proofs.lemmas.List.{length_push}
use Rattle.ov_split.specs.Places.{net_by_place}
use Rattle.ov_flow.specs.Code.Walked.{table_of}
use Rattle.ov_flow.proofs.Writing.{writing_none, writing_more, writing_less}
use Rattle.ov_flow.proofs.flat_paths.write_path.Goals as goal

pub loop-at-init : goal.loop-at-init
loop-at-init g c =
    writing_none (net_by_place c.args.net.now) c.requires.ready.placed.net (table_of c.args.from.now) c.args.ends.now
    c.requires.held c.args.end c.requires.end c.requires.apart c.args.flat.now.items

pub before-at-requires : goal.before-at-requires
before-at-requires g c = elim c.loop-at.invariant.coming.next [
  | inl e ↦ absurd (c.loop-at-test.true (e ∙ sym c.source-source.ensures.place))
  | inr u ↦ u
]

pub loop-at-preserved : goal.loop-at-preserved
loop-at-preserved g c =
    writing_more (net_by_place c.args.net.now) c.requires.ready.placed.net (table_of c.args.from.now) c.args.ends.now
    c.requires.held c.args.end c.requires.end c.requires.apart c.args.flat.now.items c.loop-at.flat.items
    c.push.new.self.items c.loop-at.at c.before-at.result c.loop-at.invariant c.before-at.ensures
    c.in_ok-push.ensures.items

pub loop-at-smaller : goal.loop-at-smaller
loop-at-smaller g c =
    let less = writing_less (net_by_place c.args.net.now) c.requires.ready.placed.net (table_of c.args.from.now)
    c.args.ends.now
    c.requires.held c.args.end c.requires.end c.requires.apart c.args.flat.now.items c.loop-at.flat.items
    c.loop-at.at
    c.before-at.result c.loop-at.invariant c.before-at.ensures in
    let count = c.requires.ready.placed.count in
    let e = ap (λ (l : List ℕ). length l) c.in_ok-push.ensures.items in
    let l = length_push c.loop-at.flat.items c.loop-at.at in
    omega (arith, less, count, e, l)
