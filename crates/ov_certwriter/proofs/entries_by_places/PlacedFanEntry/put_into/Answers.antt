-- The text of the entry by ids.
use Rattle.std.proofs.Common.{◌<◌, length, subst, ap, arith}
use Rattle.serde_json.specs.Written.{compact_text}
use Rattle.ov_cert.specs.declared.cert.FanPaths.{FanPaths}
use Rattle.ov_certfile.specs.DataOf.{fan_data}
use Rattle.ov_certwriter.specs.Code.Blocks.{entry_room}
use Rattle.ov_certwriter.proofs.PutTexts.{puts_same}
use Rattle.ov_certwriter.proofs.entries_by_places.PlacedFanEntry.put_into.Goals as goal

pub returns-clause-text : goal.returns-clause-text
returns-clause-text c =
    puts_same _ _ _ _ _ _ (ap (λ (e : FanPaths). compact_text (fan_data e)) c.self.view_is) c.put_fan.ensures.text

pub returns-clause-short : goal.returns-clause-short
returns-clause-short c =
    let short = c.put_fan.ensures.short in
    subst (λ (e : FanPaths). length (compact_text (fan_data e)) < entry_room e.paths) c.self.view_is
    (omega (arith, short))
