-- The last two members, and the brace.
use Rattle.std.proofs.Common.{◌∙◌}
use Rattle.serde_json.specs.Data.{no_members, member}
use Rattle.ov_certfile.specs.Kinds.{name_of, version_number}
use Rattle.ov_certfile.specs.DataOf.{whole_data}
use Rattle.ov_certfile.specs.declared.file_keys.Key.TheVariants as key
use Rattle.ov_certfile.proofs.cert_writing.write_end.Goals as goal

pub returns : goal.returns
returns c =
    c.in_ok-write_mark.ensures ∙ c.in_ok-write_version.ensures.followed no_members
    ∙ c.in_ok-write_verdict.ensures.followed
    (member (name_of key.Version) (whole_data (version_number c.args.version)) no_members)
