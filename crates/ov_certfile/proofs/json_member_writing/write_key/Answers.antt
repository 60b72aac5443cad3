-- The text of the key is that of its name.
use Rattle.ov_certfile.proofs.Members.{key_written}
use Rattle.ov_certfile.proofs.json_member_writing.write_key.Goals as goal

pub returns : goal.returns
returns c =
    key_written c.args.later c.args.key _ _ _ _ _ _ c.in_ok-write_comma.ensures c.in_ok-write_mark.ensures
    c.name.ensures c.in_ok-push_str.ensures.bytes c.in_ok-push_str-2.ensures.bytes
