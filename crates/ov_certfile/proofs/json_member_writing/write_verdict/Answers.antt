-- The verdict is a member with its text.
use Rattle.std.proofs.Common.{true}
use Rattle.serde_json.specs.Data.{string}
use Rattle.ov_certfile.specs.Kinds.{name_of, verdict_text}
use Rattle.ov_certfile.specs.declared.file_keys.Key.TheVariants as key
use Rattle.ov_certfile.proofs.Members.{member_written, verdict_written}
use Rattle.ov_certfile.proofs.json_member_writing.write_verdict.Goals as goal

pub returns : goal.returns
returns c =
    member_written true (name_of key.Verdict) (string (verdict_text c.args.verdict)) _ _ _ c.in_ok-write_key.ensures
    (verdict_written c.args.verdict _ _ _ _ _ c.in_ok-write_mark.ensures c.text.ensures
    c.in_ok-push_str.ensures.bytes c.in_ok-write_mark-2.ensures)
