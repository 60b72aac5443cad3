-- The limits of every scale lie between those of the profile and those of the large scale.
use Rattle.std.proofs.Common.{◌≤◌, arith}
use Rattle.ov_ids.specs.Scales.{most_born_at, most_entries_at, most_packets_at}
use Rattle.ov_ids.specs.declared.world_scale.Scale.{Scale}
use Rattle.ov_ids.specs.declared.world_scale.Scale.TheVariants.{Profile, Large}

pub born_within : (s : Scale) → (256 ≤ most_born_at s) × (most_born_at s ≤ 32768)
born_within Profile = (omega arith, omega arith)
born_within Large = (omega arith, omega arith)

pub entries_within : (s : Scale) → (65536 ≤ most_entries_at s) × (most_entries_at s ≤ 16777216)
entries_within Profile = (omega arith, omega arith)
entries_within Large = (omega arith, omega arith)

pub packets_within : (s : Scale) → (65536 ≤ most_packets_at s) × (most_packets_at s ≤ 1048576)
packets_within Profile = (omega arith, omega arith)
packets_within Large = (omega arith, omega arith)
