-- A key is missing, or is superfluous, exactly if the object does not have just these keys.
use Rattle.std.proofs.Common.{◌≡◌, ◌∙◌, true, is_none, refl, sym, ap}
use Rattle.serde_json.specs.View.{view}
use Rattle.ov_certfile.specs.Keys.{has_no_other}
use Rattle.ov_certfile.specs.Kinds.{names_of}
use Rattle.ov_certfile.proofs.OtherKeys.{missing_fails, none_missing}
use Rattle.ov_certfile.proofs.entry_fields.wanted_keys.Goals as goal

pub returns-then-is_object : goal.returns-then-is_object
returns-then-is_object c = missing_fails c.args.keys.now (view c.args.value.now) c.in-Some.key c.in-Some.ensures

pub returns-else-is_object : goal.returns-else-is_object
returns-else-is_object c = missing_fails c.args.keys.now (view c.args.value.now) c.in-Some.key c.in-Some.ensures

pub returns-in_err-at : goal.returns-in_err-at
returns-in_err-at c =
    let keys = c.args.keys.now in
    let d = view c.args.value.now in
    let all = none_missing keys d c.first_missing.result c.first_missing.ensures c.in_default.not-Some in
    let other : has_no_other (names_of keys) d ≡ true = sym c.first_other.ensures ∙ ap is_none c.in_err-at.was in
    rw (c.from_residual.ensures, all, other) refl
