-- the result for all keys is the result for the keys still left
use Rattle.std.proofs.Common.{◌≡◌, drop}
use Rattle.serde_json.specs.View.{view}
use Rattle.ov_certfile.specs.Keys.{has_key, first_failing}
use Rattle.ov_certfile.specs.Kinds.{name_of}
use Rattle.ov_certfile.proofs.missing_and_unknown_keys.first_missing.Given as goal

abbrev pub invariant-loop-key : goal.invariant-loop-key
invariant-loop-key l =
    first_failing (λ key. has_key (name_of key) (view l.value)) l.keys
    ≡ first_failing (λ key. has_key (name_of key) (view l.value)) (drop l.key-index l.keys)
