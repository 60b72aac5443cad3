-- One pair more, which the other list has, or not.
use Rattle.std.proofs.Common.{◌≡◌, ◌++◌, ◌∷◌, [], rules, subst, suc, sym, take, drop}
use Rattle.std.proofs.lemmas.Bool.{both_ways}
use Rattle.ov_dump.proofs.Paired.{SharedSoFar, shared_more, shared_same}
use Rattle.ov_dump.proofs.Places.{parted_at, taken_next}
use Rattle.ov_dump.proofs.links_of_pairs.shared.Goals as goal

pub loop-pair-preserved-then-not-is_among : goal.loop-pair-preserved-then-not-is_among
loop-pair-preserved-then-not-is_among c =
    let all = c.args.up.now in
    let i = c.loop-pair.pair-index in
    let l = c.pair-item.result in
    let both = c.loop-pair.both.items in
    subst (λ ls. SharedSoFar ls c.args.down.now both) (sym (taken_next all i l c.loop-pair-test.true c.pair-item.is))
    (shared_same (take i all) c.args.down.now both l
    (λ h. both_ways c.is_among.result c.if-not-is_among.true (c.is_among.ensures.1 h)) c.loop-pair.invariant)

pub loop-pair-preserved : goal.loop-pair-preserved
loop-pair-preserved c =
    let all = c.args.up.now in
    let i = c.loop-pair.pair-index in
    let l = c.pair-item.result in
    let both = c.loop-pair.both.items in
    let pushed : c.push.new.self.items ≡ both ++ l ∷ [] = search rules in
    subst (λ ls. SharedSoFar ls c.args.down.now c.push.new.self.items)
    (sym (taken_next all i l c.loop-pair-test.true c.pair-item.is))
    (subst (SharedSoFar (take i all ++ l ∷ []) c.args.down.now) (sym pushed)
    (shared_more all (take i all) (drop (suc i) all) c.args.down.now both l c.requires.up
    (parted_at all i l c.loop-pair-test.true c.pair-item.is) (c.is_among.ensures.0 c.if-not-is_among.false)
    c.loop-pair.invariant))
