-- the result for all keys is the result for the keys still left
use Rattle.std.proofs.Common.{◌≡◌, drop}
use Rattle.ov_certfile.specs.Keys.{is_among}
use Rattle.ov_certfile.specs.Kinds.{names_of}
use Rattle.ov_certfile.proofs.missing_and_unknown_keys.is_among.Given as goal

abbrev pub invariant-loop-key : goal.invariant-loop-key
invariant-loop-key l = is_among (names_of l.keys) l.text ≡ is_among (names_of (drop l.key-index l.keys)) l.text
