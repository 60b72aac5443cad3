-- One more piece has its entry.
use Rattle.std.proofs.Common.{◌∙◌, ◌++◌, [], ◌∷◌, Some, None, length, map, take, sym, subst, ap}
use Rattle.std.proofs.Common.{arith}
use Rattle.ov_ids.specs.Members.{Has}
use Rattle.ov_ids.proofs.Members.{has_place}
use Rattle.ov_fans.specs.Pieces.{IsPieceOf, IsPairPiece, IsFanPiece}
use Rattle.ov_cert.specs.declared.cert.PairPaths.{PairPaths}
use Rattle.ov_cert.specs.declared.cert.FanPaths.{FanPaths}
use Rattle.ov_even.specs.Naming.{named_of}
use Rattle.ov_even.specs.Code.Entries.{pair_entries, fan_entries}
use Rattle.ov_even.proofs.AnalysisSteps.Entered.{pair_entered, fan_entered, fan_no_pair, pair_no_fan}
use Rattle.ov_certwriter.specs.Code.Placed.{by_ids}
use Rattle.ov_certwriter.proofs.Placing.{pair_by_ids, fan_by_ids, named_more}
use Rattle.ov_certwriter.proofs.answer_by_places.place_entries.Goals.{In-Pair, In-Fan, in-Pair+in_ok-push-in-Pair}
use Rattle.ov_certwriter.proofs.answer_by_places.place_entries.Goals.{in-Fan+in_ok-push-in-Fan}
use Rattle.ov_certwriter.proofs.answer_by_places.place_entries.Goals as goal

-- the next piece is one of those that were found
pair_at : (c : In-Pair) → IsPairPiece (length c.args.graph.now.nodes) (length c.args.group.now) c.in-Pair.level
    c.in-Pair.i c.in-Pair.j
pair_at c =
    let found = c.args.found.now in
    let f = c.loop-piece-item.result in
    let there = has_place found c.loop-piece.piece-index f c.loop-piece-test.true in
    subst (IsPieceOf (length c.args.graph.now.nodes) (length c.args.group.now)) c.in-Pair.is
    (c.requires f (subst (Has found) (sym c.loop-piece-item.is) there)).0

fan_at : (c : In-Fan) → IsFanPiece (length c.args.graph.now.nodes) (length c.args.group.now) c.in-Fan.level
    c.in-Fan.j
fan_at c =
    let found = c.args.found.now in
    let f = c.loop-piece-item.result in
    let there = has_place found c.loop-piece.piece-index f c.loop-piece-test.true in
    subst (IsPieceOf (length c.args.graph.now.nodes) (length c.args.group.now)) c.in-Fan.is
    (c.requires f (subst (Has found) (sym c.loop-piece-item.is) there)).0

pub member-i-requires-clause-low : goal.member-i-requires-clause-low
member-i-requires-clause-low c = (pair_at c).first

pub member-i-requires-clause-high : goal.member-i-requires-clause-high
member-i-requires-clause-high c =
    let r = pair_at c in
    let less = r.less in
    let member = r.member in
    omega (arith, less, member)

pub member-j-requires-clause-low : goal.member-j-requires-clause-low
member-j-requires-clause-low c =
    let r = pair_at (goal.at.member-j-requires-clause-low c).In-Pair in
    let first = r.first in
    let less = r.less in
    omega (arith, first, less)

pub member-j-requires-clause-high : goal.member-j-requires-clause-high
member-j-requires-clause-high c = (pair_at (goal.at.member-j-requires-clause-high c).In-Pair).member

pub member-j-requires-in-Fan-clause-low : goal.member-j-requires-in-Fan-clause-low
member-j-requires-in-Fan-clause-low c =
    let r = fan_at c in
    let low = r.low in
    let later = r.later in
    omega (arith, low, later)

pub member-j-requires-in-Fan-clause-high : goal.member-j-requires-in-Fan-clause-high
member-j-requires-in-Fan-clause-high c = (fan_at c).member

pub new-requires : goal.new-requires
new-requires c =
    let found = c.args.found.now in
    let f = c.loop-piece-item.result in
    let there = has_place found c.loop-piece.piece-index f c.loop-piece-test.true in
    (c.requires f (subst (Has found) (sym c.loop-piece-item.is) there)).1.places

pub new-requires-in-Fan : goal.new-requires-in-Fan
new-requires-in-Fan c =
    let found = c.args.found.now in
    let f = c.loop-piece-item.result in
    let there = has_place found c.loop-piece.piece-index f c.loop-piece-test.true in
    (c.requires f (subst (Has found) (sym c.loop-piece-item.is) there)).1.places

pub loop-piece-preserved : goal.loop-piece-preserved
loop-piece-preserved c =
    let l = c.loop-piece in
    let g = c.args.graph.now in
    let q = c.args.group.now in
    let found = c.args.found.now in
    let f = c.loop-piece-item.result in
    let n = named_of g q f in
    let seen = map (named_of g q) (take l.piece-index found) in
    let more = sym (named_more g q found l.piece-index f c.loop-piece-test.true c.loop-piece-item.is) in
    elim c.match-piece.branch [
      | in-Pair+in_ok-push-in-Pair w ↦
          let p = w.in-Pair in
          let j = w.member-j.result in
          let put = ap (λ v. v.items) w.pairs-is ∙ w.in_ok-push-in-Pair.ensures.items
          ∙ ap (λ (e : PairPaths). l.pairs.items ++ e ∷ []) w.new.ensures in
          record {
            pairs = pair_entered q seen n p.level p.i p.j w.member-i.result j (by_ids g (Some j) f.paths.now)
                l.pairs.items _ p.is (pair_by_ids g q f.piece p.level p.i p.j j f.paths.now p.is w.member-j.ensures)
                w.member-i.ensures w.member-j.ensures put l.invariant.pairs
                ∙ ap (pair_entries q) more;
            fans = ap (λ v. v.items) w.fans-is
                ∙ pair_no_fan q seen n p.level p.i p.j l.fans.items p.is l.invariant.fans
                ∙ ap (fan_entries q) more;
          }
      | in-Fan+in_ok-push-in-Fan w ↦
          let p = w.in-Fan in
          let j = w.member-j-in-Fan.result in
          let put = ap (λ v. v.items) w.fans-is ∙ w.in_ok-push-in-Fan.ensures.items
          ∙ ap (λ (e : FanPaths). l.fans.items ++ e ∷ []) w.new-in-Fan.ensures in
          record {
            pairs = ap (λ v. v.items) w.pairs-is
                ∙ fan_no_pair q seen n p.level p.j l.pairs.items p.is l.invariant.pairs
                ∙ ap (pair_entries q) more;
            fans = fan_entered q seen n p.level p.j j (by_ids g None f.paths.now) l.fans.items _ p.is
                (fan_by_ids g q f.piece p.level p.j f.paths.now p.is) w.member-j-in-Fan.ensures put l.invariant.fans
                ∙ ap (fan_entries q) more;
          }
    ]
