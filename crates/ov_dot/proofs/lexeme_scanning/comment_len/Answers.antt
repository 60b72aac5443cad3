-- the scan always finds a length
use Rattle.std.proofs.Common.{sym, subst}
use Rattle.ov_dot.specs.Parts.{is_feed_rest, IsLongest}
use Rattle.ov_dot.proofs.Scanned.{comment_found}
use Rattle.ov_dot.proofs.lexeme_scanning.comment_len.Goals as goal

pub returns : goal.returns
returns c =
    subst (λ n. IsLongest is_feed_rest n c.args.text.now) (sym c.unwrap_or.ensures)
    (comment_found c.args.text.now c.longest_from.result c.longest_from.ensures)
