-- What stands in front went to the writer, and then the file; if it failed, a prefix of both.
use Rattle.std.proofs.Common.{◌≡◌, ◌∙◌}
use Rattle.std.proofs.KnownBytes.{Appends-trans}
use Rattle.serde_json.specs.Written.{compact_text}
use Rattle.ov_certfile.specs.DataOf.{data_of}
use Rattle.ov_certwriter.specs.Code.Parts.{text_of_parts}
use Rattle.ov_certwriter.proofs.Answering.{outline_whole, outline_filled, outline_hollow, same_file}
use Rattle.ov_certwriter.proofs.Sending.{sent_before, sent_behind, same_sent, same_begun}
use Rattle.ov_certwriter.proofs.certificate_writing.write_large_certificate.Goals as goal
use Rattle.ov_certwriter.proofs.certificate_writing.write_large_certificate.Goals.{After-as_bytes, After-write_parts}

-- the bytes that are lent are those of the file
whole_is : (g : _) (c : After-as_bytes g) → c.as_bytes.result.now
    ≡ compact_text (data_of c.args.answer.now.cert c.args.answer.now.graph c.args.answer.now.members c.args.moment)
whole_is g c =
    c.as_bytes.ensures.value ∙ c.in_ok-text.ensures.text
    ∙ same_file _ _ _ _ _ _ c.args.moment
    (outline_whole c.args.answer.now.cert c.outline-outline.result.now c.outline-outline.ensures.alike
    c.in_default.not-Split) c.graph-graph.ensures c.members-group.ensures

-- the parts with the entries between them are the file
parts_are : (g : _) (c : After-write_parts g)
    → text_of_parts c.entries-entries.result.now.pairs.items c.entries-entries.result.now.fans.items
    c.in_ok-parts.parts
    ≡ compact_text (data_of c.args.answer.now.cert c.args.answer.now.graph c.args.answer.now.members c.args.moment)
parts_are g c =
    let pairs = c.entries-entries.result.now.pairs.items in
    let fans = c.entries-entries.result.now.fans.items in
    c.in_ok-parts.ensures pairs fans
    ∙ same_file _ _ _ _ _ _ c.args.moment
    (outline_filled c.args.answer.now.cert c.outline-outline.result.now c.in-Split.split pairs fans
    c.outline-outline.ensures.alike c.in-Split.is c.entries-entries.ensures) c.graph-graph.ensures
    c.members-group.ensures

pub of-requires : goal.of-requires
of-requires g c =
    outline_hollow c.outline-outline.result.now c.in-Split.split c.in-Split.is c.outline-outline.ensures.no_paths

pub returns-in_err-write_all-clause-prefix : goal.returns-in_err-write_all-clause-prefix
returns-in_err-write_all-clause-prefix g c = sent_before _ _ _ _ c.in_err-write_all.ensures.prefix

pub returns-in_err-write_all-2-clause-prefix : goal.returns-in_err-write_all-2-clause-prefix
returns-in_err-write_all-2-clause-prefix g c =
    let is = whole_is g (goal.at.returns-in_err-write_all-2-clause-prefix g c).After-as_bytes in
    sent_behind _ _ _ _ _ c.in_ok-write_all.ensures.bytes
    (same_begun _ _ _ _ is c.in_err-write_all-2.ensures.prefix)

pub returns-in_default-clause-prefix : goal.returns-in_default-clause-prefix
returns-in_default-clause-prefix g c =
    let is = whole_is g (goal.at.returns-in_default-clause-prefix g c).After-as_bytes in
    sent_behind _ _ _ _ _ c.in_ok-write_all.ensures.bytes
    (same_begun _ _ _ _ is c.in_ok-write_all-2.ensures.prefix)

pub returns-in_err-write_all-3-clause-prefix : goal.returns-in_err-write_all-3-clause-prefix
returns-in_err-write_all-3-clause-prefix g c = sent_before _ _ _ _ c.in_err-write_all-3.ensures.prefix

pub returns-in_err-write_parts-clause-prefix : goal.returns-in_err-write_parts-clause-prefix
returns-in_err-write_parts-clause-prefix g c =
    let are = parts_are g (goal.at.returns-in_err-write_parts-clause-prefix g c).After-write_parts in
    sent_behind _ _ _ _ _ c.in_ok-write_all-3.ensures.bytes
    (same_begun _ _ _ _ are c.in_err-write_parts.ensures.prefix)

pub returns-clause-text : goal.returns-clause-text
returns-clause-text g c =
    let are = parts_are g (goal.at.returns-clause-text g c).After-write_parts in
    Appends-trans _ _ _ _ _ c.in_ok-write_all-3.ensures.bytes
    (same_sent _ _ _ _ are c.in_ok-write_parts.ensures.bytes)

pub returns-clause-prefix : goal.returns-clause-prefix
returns-clause-prefix g c =
    let are = parts_are g (goal.at.returns-clause-prefix g c).After-write_parts in
    sent_behind _ _ _ _ _ c.in_ok-write_all-3.ensures.bytes
    (same_begun _ _ _ _ are c.in_ok-write_parts.ensures.prefix)
