-- Word by word.
use Rattle.std.proofs.Common.{◌*◌, ◌+◌, ℕ, arith, bit_and, slice_index, subst, sym}
use Rattle.std.proofs.lemmas.Nat.{ones-le}
use Rattle.ov_fans.specs.Counts.{IsNumberOf}
use Rattle.ov_fans.proofs.RowScans.Counting.{IsShared, shared_none, shared_more}
use Rattle.ov_fans.proofs.shared_bit_count.shared_bits.Goals as goal

pub loop-word-init : goal.loop-word-init
loop-word-init g c = record { few = omega arith; shared = shared_none c.args.a.now c.args.b.now }

pub loop-word-preserved : goal.loop-word-preserved
loop-word-preserved g c =
    let a = c.args.a.now in
    let b = c.args.b.now in
    let word = c.loop-word.word in
    let i = c.loop-word.invariant in
    let few = i.few in
    let fits = c.ones_in_both-bits.ensures.fits in
    let most = ones-le 64 (bit_and (slice_index a word) (slice_index b word)) fits in
    let e = c.ones_in_both-bits.ensures.count in
    record {
      few = omega (arith, few, most, e);
      shared = subst (λ (n : ℕ). IsNumberOf (IsShared a b (64 * (word + 1))) (c.loop-word.bits + n)) (sym e)
          (shared_more a b word c.loop-word.bits fits i.shared);
    }
