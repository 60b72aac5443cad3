-- The text of the entry by ids.
use Rattle.std.proofs.Common.{◌<◌, length, subst, ap, arith}
use Rattle.serde_json.specs.Written.{compact_text}
use Rattle.ov_cert.specs.declared.cert.PairPaths.{PairPaths}
use Rattle.ov_certfile.specs.DataOf.{pair_data}
use Rattle.ov_certwriter.specs.Code.Blocks.{entry_room}
use Rattle.ov_certwriter.proofs.PutTexts.{puts_same}
use Rattle.ov_certwriter.proofs.entries_by_places.PlacedPairEntry.put_into.Goals as goal

pub returns-clause-text : goal.returns-clause-text
returns-clause-text c =
    puts_same _ _ _ _ _ _ (ap (λ (e : PairPaths). compact_text (pair_data e)) c.self.view_is) c.put_pair.ensures.text

pub returns-clause-short : goal.returns-clause-short
returns-clause-short c =
    let short = c.put_pair.ensures.short in
    subst (λ (e : PairPaths). length (compact_text (pair_data e)) < entry_room e.paths) c.self.view_is
    (omega (arith, short))
