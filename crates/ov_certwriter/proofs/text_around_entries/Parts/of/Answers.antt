-- The text without entries is long enough, and cut at these places it has the parts of the file.
use Rattle.std.proofs.Common.{◌∙◌, ◌+◌, ◌-◌, ℕ, List, length, string_bytes, sym, ap, subst, arith}
use Rattle.serde_json.specs.Written.{compact_text}
use Rattle.ov_cert.specs.declared.cert.Cert.{Cert}
use Rattle.ov_certfile.specs.DataOf.{ids_data, data_of}
use Rattle.ov_certwriter.specs.Code.Parts.{ArePartsOf}
use Rattle.ov_certwriter.proofs.InParts.{long_enough, parts_of_hollow}
use Rattle.ov_certwriter.proofs.text_around_entries.Parts.of.Goals as goal

pub around-requires : goal.around-requires
around-requires c =
    let a = c.args in
    let split = a.split.now in
    let is = c.in_ok-text.ensures.text
    ∙ ap (λ (t : Cert). compact_text (data_of t a.graph.now a.group.now a.moment)) c.requires in
    let cut = c.in_ok-cut.ensures ∙ ap (λ (ids : List ℕ). length (compact_text (ids_data ids))) c.as_slice.ensures in
    let side = c.in_ok-side.ensures
    ∙ ap (λ (ids : List ℕ). length (compact_text (ids_data ids))) c.as_slice-2.ensures in
    omega (arith, cut, side, long_enough split a.graph.now a.group.now a.moment _ is)

pub returns : goal.returns
returns c =
    let a = c.args in
    let split = a.split.now in
    let text = string_bytes c.in_ok-text.text in
    let is = c.in_ok-text.ensures.text
    ∙ ap (λ (t : Cert). compact_text (data_of t a.graph.now a.group.now a.moment)) c.requires in
    let cut = c.in_ok-cut.ensures ∙ ap (λ (ids : List ℕ). length (compact_text (ids_data ids))) c.as_slice.ensures in
    let side = c.in_ok-side.ensures
    ∙ ap (λ (ids : List ℕ). length (compact_text (ids_data ids))) c.as_slice-2.ensures in
    subst (ArePartsOf split a.graph.now a.group.now a.moment) (sym c.around.ensures)
    (parts_of_hollow split a.graph.now a.group.now a.moment text _ _ is (ap (λ (n : ℕ). n + 16) cut)
    (ap (λ (n : ℕ). length text - (n + 40)) side))
