-- the result for all keys is the result for the keys still left
use Rattle.std.proofs.Common.{◌≡◌, string_bytes}
use Rattle.std.specs.List.{list_all}
use Rattle.std.specs.BTreeMap.{keys}
use Rattle.ov_certfile.specs.Keys.{is_among}
use Rattle.ov_certfile.specs.Kinds.{names_of}
use Rattle.ov_certfile.proofs.missing_and_unknown_keys.other_member.Given as goal

abbrev pub invariant-loop-at : goal.invariant-loop-at
invariant-loop-at l =
    list_all (λ k. is_among (names_of l.wanted) (string_bytes k)) (keys l.members)
    ≡ list_all (λ k. is_among (names_of l.wanted) (string_bytes k)) l.at-iterator.iter
