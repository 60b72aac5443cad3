-- Growing that is refused.
use Rattle.std.proofs.Common.{◌≡◌, ℕ, List, sym, subst, inl, inr}
use Rattle.ov_net.specs.World.{WorldState}
use Rattle.ov_grow_options.specs.declared.options.GrowOptions.{GrowOptions}
use Rattle.ov_grow.specs.Phases.{CrashNodes, Heal, Join, Settle}
use Rattle.ov_grow.specs.Growing.{EndsGrowingFrom, GrowsFrom}
use Rattle.ov_grow.specs.Growth.{Growth}
use Rattle.ov_grow.specs.Code.Standing.{Goes, IsNoWay, growth_of}
use Rattle.ov_grow.specs.declared.fault.GrowFault.{GrowFault}
use Rattle.ov_grow.specs.declared.growth_in_progress.Growing.{Growing}
use Rattle.ov_grow.specs.declared.phase_moment_and_deliveries.PhaseEnd.{PhaseEnd}
use Rattle.ov_grow.proofs.OnePhase.{one_crash, one_join, one_settling}

-- where every overlay that is grown stands when its nodes have joined
same_joined : (from : Growth) (o : GrowOptions) (b s : Growing) (text : List ℕ) (world : WorldState) (settled crashed
    healed : PhaseEnd)
    → growth_of b ≡ from → Goes (Join o) b s → (grows : GrowsFrom from o text world settled crashed healed)
    → grows.s ≡ growth_of s
same_joined from o b s text world settled crashed healed begins joins grows =
    one_join o from grows.s (growth_of s) grows.join (subst (λ g. Join o g (growth_of s)) begins joins.way)

-- and when it has settled
same_settled : (from : Growth) (o : GrowOptions) (b s t : Growing) (p : PhaseEnd) (text : List ℕ) (world : WorldState)
    (settled crashed healed : PhaseEnd) → growth_of b ≡ from → Goes (Join o) b s
    → Goes (λ g u. Settle o g p u) s t → (grows : GrowsFrom from o text world settled crashed healed)
    → (settled ≡ p) × (grows.t ≡ growth_of t)
same_settled from o b s t p text world settled crashed healed begins joins settles grows =
    one_settling o (growth_of s) grows.t (growth_of t) settled p
    (subst (λ g. Settle o g settled grows.t)
    (same_joined from o b s text world settled crashed healed begins joins grows) grows.settle) settles.way

-- and when nodes have crashed
same_crashed : (from : Growth) (o : GrowOptions) (b s t v : Growing) (p q : PhaseEnd) (text : List ℕ)
    (world : WorldState)
    (settled crashed healed : PhaseEnd) → growth_of b ≡ from → Goes (Join o) b s
    → Goes (λ g u. Settle o g p u) s t → Goes (λ g u. CrashNodes o p.moment g q u) t v
    → (grows : GrowsFrom from o text world settled crashed healed) → grows.v ≡ growth_of v
same_crashed from o b s t v p q text world settled crashed healed begins joins settles crashes grows =
    let one = same_settled from o b s t p text world settled crashed healed begins joins settles grows in
    (one_crash o p.moment (growth_of t) grows.v (growth_of v) crashed q
    (subst (λ x. CrashNodes o x.moment (growth_of t) crashed grows.v) one.0
    (subst (λ g. CrashNodes o settled.moment g crashed grows.v) one.1 grows.crash)) crashes.way).1

-- nodes can't join
pub no_way_join : (from : Growth) (o : GrowOptions) (b : Growing) (fault : GrowFault) → growth_of b ≡ from
    → IsNoWay (Join o) b fault → EndsGrowingFrom from o fault
no_way_join from o b fault begins (inl memory) = inl memory
no_way_join from o b fault begins (inr none) = inr (λ text world settled crashed healed grows.
    none grows.s (subst (λ g. Join o g grows.s) (sym begins) grows.join))

-- the overlay can't settle
pub no_way_settling : (from : Growth) (o : GrowOptions) (b s : Growing) (fault : GrowFault) → growth_of b ≡ from
    → Goes (Join o) b s → IsNoWay (λ g u. (phase : PhaseEnd) × Settle o g phase u) s fault
    → EndsGrowingFrom from o fault
no_way_settling from o b s fault begins joins (inl memory) = inl memory
no_way_settling from o b s fault begins joins (inr none) = inr (λ text world settled crashed healed grows.
    none grows.t (
      settled,
      subst (λ g. Settle o g settled grows.t)
          (same_joined from o b s text world settled crashed healed begins joins grows) grows.settle,
    ))

-- nodes can't crash
pub no_way_crashing : (from : Growth) (o : GrowOptions) (b s t : Growing) (p : PhaseEnd) (fault : GrowFault)
    → growth_of b ≡ from
    → Goes (Join o) b s → Goes (λ g u. Settle o g p u) s t
    → IsNoWay (λ g u. (phase : PhaseEnd) × CrashNodes o p.moment g phase u) t fault → EndsGrowingFrom from o fault
no_way_crashing from o b s t p fault begins joins settles (inl memory) = inl memory
no_way_crashing from o b s t p fault begins joins settles (inr none) = inr (λ text world settled crashed healed grows.
    let one = same_settled from o b s t p text world settled crashed healed begins joins settles grows in
    none grows.v (
      crashed,
      subst (λ x. CrashNodes o x.moment (growth_of t) crashed grows.v) one.0
          (subst (λ g. CrashNodes o settled.moment g crashed grows.v) one.1 grows.crash),
    ))

-- the overlay can't heal
pub no_way_healing : (from : Growth) (o : GrowOptions) (b s t v : Growing) (p q : PhaseEnd) (fault : GrowFault)
    → growth_of b ≡ from
    → Goes (Join o) b s → Goes (λ g u. Settle o g p u) s t → Goes (λ g u. CrashNodes o p.moment g q u) t v
    → IsNoWay (λ g u. (phase : PhaseEnd) × Heal o g phase u) v fault → EndsGrowingFrom from o fault
no_way_healing from o b s t v p q fault begins joins settles crashes (inl memory) = inl memory
no_way_healing from o b s t v p q fault begins joins settles crashes (inr none) =
    inr (λ text world settled crashed healed grows. none grows.u (
      healed,
      subst (λ g. Heal o g healed grows.u)
          (same_crashed from o b s t v p q text world settled crashed healed begins joins settles crashes grows)
          grows.heal,
    ))
