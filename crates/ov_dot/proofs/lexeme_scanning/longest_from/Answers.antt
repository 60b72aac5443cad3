-- one byte more
use Rattle.std.proofs.Common.{◌≡◌, ◌∙◌, ◌<◌, Some, get_or, length, sym, arith}
use Rattle.ov_dot.specs.Code.Scanning.{after}
use Rattle.ov_dot.proofs.Depth.{deeper, scanned}
use Rattle.ov_dot.proofs.lexeme_scanning.longest_from.Goals as goal

pub loop-index-preserved : goal.loop-index-preserved
loop-index-preserved c =
    let text = c.args.text.now in
    let i = c.loop-index.index in
    let place = c.loop-index.place in
    let leads : after place (get_or text i 0) ≡ Some c.in-Some.next = sym c.after.ensures ∙ c.in-Some.is in
    let within : i < length text = omega arith in
    let before = scanned text i place c.loop-index.longest c.in-Some.next within leads in
    let depth = deeper place (get_or text i 0) c.in-Some.next leads in
    let shallow = c.loop-index.invariant.shallow in
    record {
      left = rw c.marked-longest.ensures (sym before ∙ c.loop-index.invariant.left);
      shallow = omega arith;
    }
