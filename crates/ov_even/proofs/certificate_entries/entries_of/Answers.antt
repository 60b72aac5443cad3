-- One more piece has its entry.
use Rattle.std.proofs.Common.{ℕ, length, refl, subst, arith}
use Rattle.ov_fans.specs.Pieces.{IsPieceOf, IsPairPiece, IsFanPiece}
use Rattle.ov_even.proofs.AnalysisSteps.Entered.{next_there, rest_more, pair_entered, fan_entered, fan_no_pair}
use Rattle.ov_even.proofs.AnalysisSteps.Entered.{pair_no_fan}
use Rattle.ov_even.proofs.certificate_entries.entries_of.Goals.{In-Pair, In-Fan}
use Rattle.ov_even.proofs.certificate_entries.entries_of.Goals as goal

pair_at : (c : In-Pair) → (nodes : ℕ) × IsPairPiece nodes (length c.args.group.now) c.in-Pair.level c.in-Pair.i
    c.in-Pair.j
pair_at c =
    let n = c.in-Some.field-0 in
    let r = c.requires n (next_there c.args.named.items c.loop-piece.yielded c.loop-piece.piece-iterator.rest.items
    c.next.new.self.rest.items n c.loop-piece.invariant.rest c.in-Some.ensures.steps.0) in
    (r.0, subst (IsPieceOf r.0 (length c.args.group.now)) c.in-Pair.is r.1)

fan_at : (c : In-Fan) → (nodes : ℕ) × IsFanPiece nodes (length c.args.group.now) c.in-Fan.level c.in-Fan.j
fan_at c =
    let n = c.in-Some.field-0 in
    let r = c.requires n (next_there c.args.named.items c.loop-piece.yielded c.loop-piece.piece-iterator.rest.items
    c.next.new.self.rest.items n c.loop-piece.invariant.rest c.in-Some.ensures.steps.0) in
    (r.0, subst (IsPieceOf r.0 (length c.args.group.now)) c.in-Fan.is r.1)

pub member-i-requires-clause-low : goal.member-i-requires-clause-low
member-i-requires-clause-low c = (pair_at c).1.first

pub member-i-requires-clause-high : goal.member-i-requires-clause-high
member-i-requires-clause-high c =
    let r = (pair_at c).1 in
    let less = r.less in
    let member = r.member in
    omega (arith, less, member)

pub member-j-requires-clause-low : goal.member-j-requires-clause-low
member-j-requires-clause-low c =
    let n = c.in-Some.field-0 in
    let r = c.requires n (next_there c.args.named.items c.loop-piece.yielded c.loop-piece.piece-iterator.rest.items
    c.next.new.self.rest.items n c.loop-piece.invariant.rest c.in-Some.ensures.steps.0) in
    let at = subst (IsPieceOf r.0 (length c.args.group.now)) c.in-Pair.is r.1 in
    let first = at.first in
    let less = at.less in
    omega (arith, first, less)

pub member-j-requires-clause-high : goal.member-j-requires-clause-high
member-j-requires-clause-high c =
    let n = c.in-Some.field-0 in
    let r = c.requires n (next_there c.args.named.items c.loop-piece.yielded c.loop-piece.piece-iterator.rest.items
    c.next.new.self.rest.items n c.loop-piece.invariant.rest c.in-Some.ensures.steps.0) in
    (subst (IsPieceOf r.0 (length c.args.group.now)) c.in-Pair.is r.1).member

pub loop-piece-preserved-in-Continue-1 : goal.loop-piece-preserved-in-Continue-1
loop-piece-preserved-in-Continue-1 c =
    let q = c.args.group.now in
    let n = c.in-Some.field-0 in
    let seen = c.loop-piece.yielded in
    let i = c.loop-piece.invariant in
    let p = c.in-Pair in
    record {
      rest = rest_more c.args.named.items seen c.loop-piece.piece-iterator.rest.items c.next.new.self.rest.items n
          i.rest c.in-Some.ensures.steps.0;
      pairs = pair_entered q seen n p.level p.i p.j c.member-i.result c.member-j.result n.paths
          c.loop-piece.pairs.items c.push.new.self.items p.is refl c.member-i.ensures c.member-j.ensures
          c.in_ok-push-in-Pair.ensures.items i.pairs;
      fans = pair_no_fan q seen n p.level p.i p.j c.loop-piece.fans.items p.is i.fans;
    }

pub member-j-requires-in-Fan-clause-low : goal.member-j-requires-in-Fan-clause-low
member-j-requires-in-Fan-clause-low c =
    let r = (fan_at c).1 in
    let low = r.low in
    let later = r.later in
    omega (arith, low, later)

pub member-j-requires-in-Fan-clause-high : goal.member-j-requires-in-Fan-clause-high
member-j-requires-in-Fan-clause-high c = (fan_at c).1.member

pub loop-piece-preserved : goal.loop-piece-preserved
loop-piece-preserved c =
    let q = c.args.group.now in
    let n = c.in-Some.field-0 in
    let seen = c.loop-piece.yielded in
    let i = c.loop-piece.invariant in
    let p = c.in-Fan in
    record {
      rest = rest_more c.args.named.items seen c.loop-piece.piece-iterator.rest.items c.next.new.self.rest.items n
          i.rest c.in-Some.ensures.steps.0;
      pairs = fan_no_pair q seen n p.level p.j c.loop-piece.pairs.items p.is i.pairs;
      fans = fan_entered q seen n p.level p.j c.member-j-in-Fan.result n.paths c.loop-piece.fans.items
          c.push-in-Fan.new.self.items p.is refl c.member-j-in-Fan.ensures
          c.in_ok-push-in-Fan.ensures.items i.fans;
    }
