-- The parameters of a node, and their limits.
use Rattle.std.specs.Prelude.{ℕ, ◌≤◌}
use Rattle.ov_ids.specs.declared.refill_rule.Refill.{Refill}
use Rattle.ov_ids.specs.declared.refill_rule.Refill.TheVariants.{Never}
use Rattle.ov_ids.specs.declared.world_scale.Scale.{Scale}
use Rattle.ov_ids.specs.declared.world_scale.Scale.TheVariants.{Profile}

-- The parameters of HyParView (Leitão, Pereira, Rodrigues, DSN 2007): the sizes of the active and the passive view, the
-- lengths of the active and the passive random walk (ARWL, PRWL), how many active and how many passive members a
-- shuffle samples, and the time to live of a shuffle. The last two, extensions of ours, are the rule by which a node that
-- is told DISCONNECT looks for another active member, and how large a world of such nodes may grow.
pub record ParamsState : Type 0 where
  pub active : ℕ
  pub passive : ℕ
  pub arwl : ℕ
  pub prwl : ℕ
  pub ka : ℕ
  pub kp : ℕ
  pub shuffle_ttl : ℕ
  pub refill : Refill
  pub scale : Scale

-- HyParView's seven parameters, in the order of the arguments of `Params::new`, with the profile's rule at DISCONNECT
-- and the profile's scale
abbrev pub params_of : ℕ → ℕ → ℕ → ℕ → ℕ → ℕ → ℕ → ParamsState
params_of active passive arwl prwl ka kp shuffle_ttl = record {
  active = active;
  passive = passive;
  arwl = arwl;
  prwl = prwl;
  ka = ka;
  kp = kp;
  shuffle_ttl = shuffle_ttl;
  refill = Never;
  scale = Profile;
}

-- the most active members of a node: chosen here
abbrev pub most_active : ℕ
most_active = 16

-- the most passive members of a node: chosen here
abbrev pub most_passive : ℕ
most_passive = 64

-- the longest walk, and the longest time to live of a shuffle: chosen here
abbrev pub longest_walk : ℕ
longest_walk = 15

-- how many members of a view a shuffle samples at most: chosen here
abbrev pub most_sampled : ℕ
most_sampled = 8

-- each parameter is within its limits, which are chosen here
pub record AreWithinLimits (p : ParamsState) : Type 0 where
  pub active_low : 1 ≤ p.active
  pub active_high : p.active ≤ most_active
  pub passive_low : 1 ≤ p.passive
  pub passive_high : p.passive ≤ most_passive
  pub arwl_high : p.arwl ≤ longest_walk
  pub prwl_high : p.prwl ≤ p.arwl
  pub ka_high : p.ka ≤ most_sampled
  pub kp_high : p.kp ≤ most_sampled
  pub shuffle_ttl_low : 1 ≤ p.shuffle_ttl
  pub shuffle_ttl_high : p.shuffle_ttl ≤ longest_walk
