use Rattle.std.proofs.Common.{◌∙◌}
use Rattle.ov_sweep_rows.proofs.Records.{stands_first}
use Rattle.ov_sweep_rows.proofs.row_reading.records_of.Goals as goal

pub returns : goal.returns
returns c =
    let from = c.from_reader.ensures in
    let named = c.has_headers.ensures in
    let from_it = c.into_byte_records.ensures.rdr in
    let turns = c.into_byte_records.ensures.left in
    record {
      stands = rw from_it (
          stands_first c.args.text.now c.from_reader.result c.into_byte_records.result.left
          (rw named at from.trim ∙ c.new.ensures.trim)
          (rw named at from.has_headers)
          from.headers turns
          (rw named at from.config ∙ c.new.ensures.config)
          (rw named at from.flexible ∙ c.new.ensures.flexible)
          from.source from.state
          );
      free = rw from_it from.expected;
    }
