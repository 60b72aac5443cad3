-- The keys of a map are the keys of the object that it represents.
use Rattle.std.proofs.Common.{◌∙◌}
use Rattle.ov_certfile.proofs.OtherKeys.{has_no_other-entries}
use Rattle.ov_certfile.proofs.missing_and_unknown_keys.first_other.Goals as goal

pub returns-in-Some : goal.returns-in-Some
returns-in-Some c = c.other_member.ensures ∙ has_no_other-entries _ _ _ c.in-Some.ensures
