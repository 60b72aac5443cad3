-- Why nodes can't join, and why they can't start a round of shuffles.
use Rattle.std.proofs.Common.{◌≡◌, ℕ, suc, ◌+◌, ◌-◌, List, Some, None, sym, subst}
use Rattle.std.specs.Prelude.{codes}
use Rattle.ov_grow_options.specs.declared.options.GrowOptions.{GrowOptions}
use Rattle.ov_script.specs.WrittenLines.{comment_line}
use Rattle.ov_script.specs.declared.recordable_event.Act.TheVariants as act
use Rattle.ov_grow.specs.Growth.{Growth, Chooses, Does, Writes}
use Rattle.ov_grow.specs.Turns.{RunOut, TurnsUpTo}
use Rattle.ov_grow.specs.Rounds.{AreLiveInOrder, DoesEach, Round}
use Rattle.ov_grow.specs.Phases.{Births, Join, joining, turns_between}
use Rattle.ov_grow.specs.Code.Standing.{Goes, IsNoWay, growth_of}
use Rattle.ov_grow.specs.declared.fault.GrowFault.{GrowFault}
use Rattle.ov_grow.specs.declared.growth_in_progress.Growing.{Growing}
use Rattle.ov_grow.specs.declared.phase_rules.PhaseRules.{PhaseRules}
use Rattle.ov_grow.proofs.Going.{no_way_by}
use Rattle.ov_grow.proofs.OnePhase.{birth_follows, births_follow, births_rest, join_follows, join_rest, round_rest}
use Rattle.ov_grow.proofs.OnePhase.{round_shuffles}

-- a birth begins with turns
pub births_begin : (rules : PhaseRules) (pace id n m : ℕ) (s u : Growth) → n ≡ suc m → Births rules pace id n s u
    → (t : Growth) × TurnsUpTo rules pace s t
births_begin rules pace id n m s u one births =
    let (place, t, v, w, turns, chooses, did, more) = subst (λ k. Births rules pace id k s u) one births in (t, turns)

-- after the turns the node is born with the chosen contact
pub birth_next : (rules : PhaseRules) (pace id n m place who contact : ℕ) (s t v u : Growth) → n ≡ suc m
    → TurnsUpTo rules pace s t → Chooses (id - 1) t place v → who ≡ id → contact ≡ 1 + place
    → Births rules pace id n s u → (w : Growth) × Does v (act.Boot who (Some contact)) w
birth_next rules pace id n m place who contact s t v u one turns chooses is by births =
    let (w, did, more) = birth_follows rules pace id m place s t v u turns chooses
    (subst (λ k. Births rules pace id k s u) one births) in (
      w,
      subst (λ x. Does v (act.Boot x (Some contact)) w) (sym is)
          (subst (λ x. Does v (act.Boot id (Some x)) w) (sym by) did),
    )

-- what is left after a birth
pub births_left : (rules : PhaseRules) (pace id n m place who contact : ℕ) (s t v w u : Growth) → n ≡ suc m
    → TurnsUpTo rules pace s t → Chooses (id - 1) t place v → who ≡ id → contact ≡ 1 + place
    → Does v (act.Boot who (Some contact)) w → Births rules pace id n s u → Births rules pace (id + 1) m w u
births_left rules pace id n m place who contact s t v w u one turns chooses is by did births =
    births_rest rules pace id m place s t v w u turns chooses
    (subst (λ x. Does v (act.Boot x (Some (1 + place))) w) is (subst (λ x. Does v (act.Boot who (Some x)) w) by did))
    (subst (λ k. Births rules pace id k s u) one births)

-- the first node can't be born
pub no_way_boot : (o : GrowOptions) (who : ℕ) (b t : Growing) (fault : GrowFault) → who ≡ 1
    → Goes (λ s x. Writes s (comment_line (codes "join")) x) b t
    → IsNoWay (λ s x. Does s (act.Boot who None) x) t fault → IsNoWay (Join o) b fault
no_way_boot o who b t fault one says none =
    no_way_by (λ s x. Does s (act.Boot who None) x) (Join o) t b fault
    (λ u join. let (v, w, did, births, out) = join_follows o (growth_of b) (growth_of t) u says.way join in
    (v, subst (λ x. Does (growth_of t) (act.Boot x None) v) (sym one) did)) none

-- the other nodes can't be born
pub no_way_births : (o : GrowOptions) (rules : PhaseRules) (pace nodes who : ℕ) (b t v : Growing) (fault : GrowFault)
    → rules ≡ joining o → pace ≡ turns_between o.pace → nodes ≡ o.nodes → who ≡ 1
    → Goes (λ s x. Writes s (comment_line (codes "join")) x) b t → Goes (λ s x. Does s (act.Boot who None) x) t v
    → IsNoWay (Births rules pace 2 (nodes - 1)) v fault → IsNoWay (Join o) b fault
no_way_births o rules pace nodes who b t v fault by at all one says did none =
    no_way_by (Births rules pace 2 (nodes - 1)) (Join o) v b fault
    (λ u join. let (w, births, out) = births_follow o (growth_of b) (growth_of t) (growth_of v) u says.way
    (subst (λ x. Does (growth_of t) (act.Boot x None) (growth_of v)) one did.way) join in (
      w,
      subst (λ r. Births r pace 2 (nodes - 1) (growth_of v) w) (sym by)
          (subst (λ p. Births (joining o) p 2 (nodes - 1) (growth_of v) w) (sym at)
          (subst (λ n. Births (joining o) (turns_between o.pace) 2 (n - 1) (growth_of v) w) (sym all) births)),
    )) none

-- all nodes are born, and packets can't run out
pub no_way_joined : (o : GrowOptions) (rules : PhaseRules) (pace nodes who : ℕ) (b t v w : Growing) (fault : GrowFault)
    → rules ≡ joining o → pace ≡ turns_between o.pace → nodes ≡ o.nodes → who ≡ 1
    → Goes (λ s x. Writes s (comment_line (codes "join")) x) b t → Goes (λ s x. Does s (act.Boot who None) x) t v
    → Goes (Births rules pace 2 (nodes - 1)) v w → IsNoWay (RunOut rules) w fault → IsNoWay (Join o) b fault
no_way_joined o rules pace nodes who b t v w fault by at all one says did births none =
    no_way_by (RunOut rules) (Join o) w b fault
    (λ u join. (
      u,
      subst (λ r. RunOut r (growth_of w) u) (sym by)
          (join_rest o (growth_of b) (growth_of t) (growth_of v) (growth_of w) u says.way
          (subst (λ x. Does (growth_of t) (act.Boot x None) (growth_of v)) one did.way)
          (subst (λ r. Births r (turns_between o.pace) 2 (o.nodes - 1) (growth_of v) (growth_of w)) by
          (subst (λ p. Births rules p 2 (o.nodes - 1) (growth_of v) (growth_of w)) at
          (subst (λ n. Births rules pace 2 (n - 1) (growth_of v) (growth_of w)) all births.way))) join),
    )) none

-- nodes can't start their shuffles
pub no_way_shuffles : (rules : PhaseRules) (order nodes : List ℕ) (b t : Growing) (fault : GrowFault) → nodes ≡ order
    → Goes (λ s w. AreLiveInOrder s order w) b t → IsNoWay (DoesEach act.Shuffle nodes) t fault
    → IsNoWay (Round rules) b fault
no_way_shuffles rules order nodes b t fault same lives none =
    no_way_by (DoesEach act.Shuffle nodes) (Round rules) t b fault
    (λ u round. let (v, each, out) = round_shuffles rules order (growth_of b) (growth_of t) u lives.way round in
    (v, subst (λ xs. DoesEach act.Shuffle xs (growth_of t) v) (sym same) each)) none

-- nodes started their shuffles, and packets can't run out
pub no_way_shuffled : (rules : PhaseRules) (order nodes : List ℕ) (b t v : Growing) (fault : GrowFault) → nodes ≡ order
    → Goes (λ s w. AreLiveInOrder s order w) b t → Goes (DoesEach act.Shuffle nodes) t v
    → IsNoWay (RunOut rules) v fault → IsNoWay (Round rules) b fault
no_way_shuffled rules order nodes b t v fault same lives each none =
    no_way_by (RunOut rules) (Round rules) v b fault
    (λ u round. (
      u,
      round_rest rules order (growth_of b) (growth_of t) (growth_of v) u lives.way
          (subst (λ xs. DoesEach act.Shuffle xs (growth_of t) (growth_of v)) same each.way) round,
    )) none
