-- A name that spells an id.
use Rattle.std.proofs.Common.{◌∙◌, sym, ap, is_some}
use Rattle.std.specs.Option.{option_copied}
use Rattle.ov_graphfile.proofs.Meanings.{numeral_tested}
use Rattle.ov_graphfile.proofs.group_from_names_or_ids.is_numeral_at.Goals as goal

pub returns-in-Some : goal.returns-in-Some
returns-in-Some c =
    numeral_tested c.args.names.now c.args.place c.in-Some.name.now c.is_some.result
    (sym c.name_at.ensures ∙ ap (λ t. option_copied t) c.in-Some.is)
    (c.is_some.ensures ∙ ap is_some c.id_spelled.ensures)
