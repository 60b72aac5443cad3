-- The part is read.
use Rattle.std.proofs.Common.{sym}
use Rattle.ov_graphfile.proofs.Tables.{now_read}
use Rattle.ov_graphfile.proofs.group_from_names_or_ids.part_at.Goals as goal

pub returns : goal.returns
returns c = sym (now_read c.args.parts.now c.args.at _ c.requires)
