-- The options alone decide the row.
use Rattle.std.proofs.Common.{◌≡◌, ◌∙◌, ◌≤◌, ℕ, Bool, true, false, List, [], ◌∷◌, length, Option, Some, None}
use Rattle.std.specs.Prelude.{map as each}
use Rattle.std.proofs.Common.{refl, sym, ap, ap₂, subst, arith, slice_get}
use Rattle.std.proofs.lemmas.Option.{same_Some}
use Rattle.ov_graph.specs.Links.{LinkGraph}
use Rattle.ov_graph.specs.Joined.{FewestForGroup}
use Rattle.ov_graph.proofs.EvenTest.Sufficing.{one_number}
use Rattle.ov_cert.specs.Valid.{k_of}
use Rattle.ov_net.specs.Journal.{AreLinks}
use Rattle.ov_net.specs.World.{WorldState}
use Rattle.ov_net.specs.declared.journal_entry_and_changes.Entry.{Entry}
use Rattle.ov_net.proofs.Links.OneGraph.{links_one}
use Rattle.ov_snap.specs.CoreState.{CoreState}
use Rattle.ov_snap.specs.ReportState.{ReportState, IsTrueReport}
use Rattle.ov_grow.specs.declared.phase_moment_and_deliveries.PhaseEnd.{PhaseEnd}
use Rattle.ov_grow.proofs.OneGrowth.{one_live}
use Rattle.ov_grow.proofs.OnePhase.{one_from}
use Rattle.ov_sweep.proofs.OneShape.{one_shape}
use Rattle.ov_sweep_rows.specs.declared.delivered_share.DeliveredShare.{DeliveredShare}
use Rattle.ov_sweep_rows.specs.declared.row.PhaseRow.{PhaseRow}
use Rattle.ov_sweep_rows.specs.declared.row.Row.{Row}
use Rattle.ov_grow.specs.Growing.{begins}
use Rattle.ov_grow.specs.Growth.{Growth}
use Rattle.ov_grow.specs.MessageCosts.{AreCostsBy, cost_of, made_in}
use Rattle.ov_sweep.specs.PhaseCosts.{phase_costs}
use Rattle.ov_sweep.specs.Rows.{AreNumbersOf, ArePhaseCosts, IsAsked, IsLeastDegree, IsShapeOf, IsShare, IsToldOf}
use Rattle.ov_sweep.specs.Rows.{OneRow}
use Rattle.ov_grow.specs.declared.message_cost.MessageCost.{MessageCost}
use Rattle.ov_sweep_rows.specs.declared.measures.Measures.{Measures}
use Rattle.ov_sweep_rows.specs.declared.phase_costs.PhaseCosts.{PhaseCosts}

-- a graph has one least degree
one_least : (g : LinkGraph) (n m : ℕ) → IsLeastDegree g n → IsLeastDegree g m → n ≡ m
one_least g n m a b =
    let below : n ≤ m = a.least b.node m b.is_node b.reached in
    let above : m ≤ n = b.least a.node n a.is_node a.reached in
    omega (arith, below, above)

same_share : (s t : DeliveredShare) → s.parts ≡ t.parts → s ≡ t
same_share s t parts = ap (λ n. record { parts = n }) parts

-- so many deliveries have one share
one_share : (d b n : ℕ) (s t : Option DeliveredShare) → IsShare d b n s → IsShare d b n t → s ≡ t
one_share d b n None None is also = refl
one_share d b n (Some s) (Some t) (some, is) (more, also) = ap Some (same_share s t (is ∙ sym also))
one_share d b n None (Some t) none (some, is) = absurd (some none)
one_share d b n (Some s) None (some, is) none = absurd (some none)

same_phase : (p q : PhaseRow) → p.nodes ≡ q.nodes → p.k ≡ q.k → p.least_degree ≡ q.least_degree → p.links ≡ q.links
    → p.entries ≡ q.entries → p.delivered ≡ q.delivered → p.costs ≡ q.costs → p.shape ≡ q.shape → p ≡ q
same_phase p q nodes k least links entries delivered costs shape = λ i. record {
  nodes = nodes i;
  k = k i;
  least_degree = least i;
  links = links i;
  entries = entries i;
  delivered = delivered i;
  costs = costs i;
  shape = shape i;
}

-- a moment has one number
one_k : (journal : List Entry) (m : ℕ) (r s : ReportState) → r.graph ≡ s.graph → r.members ≡ r.graph.nodes
    → s.members ≡ s.graph.nodes → IsTrueReport journal r → IsTrueReport journal s → k_of r.cert ≡ k_of s.cert
one_k journal m r s same all also a b =
    let members : s.members ≡ r.members = also ∙ (ap (λ (g : LinkGraph). g.nodes) (sym same) ∙ sym all) in
    one_number r.graph r.members (k_of r.cert) (k_of s.cert) a.certificate.fewest
    (subst (λ (g : LinkGraph). FewestForGroup g r.members (k_of s.cert)) (sym same)
    (subst (λ (q : List ℕ). FewestForGroup s.graph q (k_of s.cert)) members b.certificate.fewest))

-- a report and so many deliveries have one list of numbers
one_list : (r s : ReportState) (b d : ℕ) (p q : PhaseRow) → r.graph ≡ s.graph → k_of r.cert ≡ k_of s.cert
    → r.moment ≡ s.moment → AreNumbersOf r b d p → AreNumbersOf s b d q → p.costs ≡ q.costs → p.shape ≡ q.shape → p ≡ q
one_list r s b d p q graph k moment a also costs shape =
    let count : length s.graph.nodes ≡ length r.graph.nodes = ap (λ (g : LinkGraph). length g.nodes) (sym graph) in
    same_phase p q (a.nodes ∙ (sym count ∙ sym also.nodes)) (a.k ∙ (k ∙ sym also.k))
    (one_least r.graph p.least_degree q.least_degree a.least_degree
    (subst (λ (g : LinkGraph). IsLeastDegree g q.least_degree) (sym graph) also.least_degree))
    (a.links ∙ (ap (λ (g : LinkGraph). length g.links) graph ∙ sym also.links))
    (a.entries ∙ (moment ∙ sym also.entries))
    (one_share d b (length r.graph.nodes) p.delivered q.delivered a.delivered
    (subst (λ (n : ℕ). IsShare d b n q.delivered) count also.delivered)) costs shape

-- what is asked for is told in one way
one_asked : {X : Type 0} (IsRight : X → Type 0) → ((x y : X) → IsRight x → IsRight y → x ≡ y) → (asked : Bool)
    (x y : Option X) → IsAsked asked IsRight x → IsAsked asked IsRight y → x ≡ y
one_asked IsRight one true (Some x) (Some y) a b = ap Some (one x y a b)
one_asked IsRight one true None y a b = absurd a
one_asked IsRight one true (Some x) None a b = absurd b
one_asked IsRight one false x y a b = a ∙ sym b

-- where growing stands, broadcasts have one list of costs
pub one_costs_by : (log : _) (s : Growth) (cs ds : List MessageCost) → AreCostsBy log s cs
    → AreCostsBy log s ds → cs ≡ ds
one_costs_by None s cs ds a b = a ∙ sym b
one_costs_by (Some marks) s cs ds (live, are, is) (nodes, also, same) =
    is ∙ (ap (λ (xs : List ℕ). each (cost_of s.world.net xs marks) (made_in marks)) (one_live s live nodes are also)
    ∙ sym same)

one_costs : (s : Growth) (c d : PhaseCosts) → ArePhaseCosts s c → ArePhaseCosts s d → c ≡ d
one_costs s c d (cs, are, is) (ds, also, same) =
    is ∙ (ap (λ (xs : List MessageCost). phase_costs xs) (one_costs_by s.log s cs ds are also) ∙ sym same)

-- what is told of a phase is one
one_told : (m : Measures) (g h : Growth) (c d : CoreState) (ended : PhaseEnd) (b : ℕ) (p q : PhaseRow)
    → c.world ≡ d.world → g ≡ h → IsToldOf m g c ended b p → IsToldOf m h d ended b q → p ≡ q
one_told m g h c d ended b p q world same a also =
    let r = a.report in
    let s = also.report in
    let moment : r.moment ≡ s.moment = a.filed.moment ∙ sym also.filed.moment in
    let there : IsTrueReport c.world.journal s =
    subst (λ (w : WorldState). IsTrueReport w.journal s) (sym world) also.is_true in
    let graph : r.graph ≡ s.graph =
    links_one c.world.journal r.moment r.graph s.graph a.is_true.links
    (subst (λ (n : ℕ). AreLinks c.world.journal n s.graph) (sym moment) there.links) in
    one_list r s b ended.deliveries p q graph
    (one_k c.world.journal r.moment r s graph a.filed.members also.filed.members a.is_true there) moment a.numbers
    also.numbers
    (one_asked (ArePhaseCosts g) (one_costs g) m.costs p.costs q.costs a.costs
    (subst (λ (x : Growth). IsAsked m.costs (ArePhaseCosts x) q.costs) (sym same) also.costs))
    (one_asked (IsShapeOf r.graph) (one_shape r.graph) m.shape p.shape q.shape a.shape
    (subst (λ (x : LinkGraph). IsAsked m.shape (IsShapeOf x) q.shape) (sym graph) also.shape))

-- a list of three is its items
listed : (xs : List PhaseRow) (p q r : PhaseRow) → length xs ≡ 3 → slice_get xs 0 ≡ Some p → slice_get xs 1 ≡ Some q
    → slice_get xs 2 ≡ Some r → xs ≡ p ∷ q ∷ r ∷ []
listed [] p q r count first second third = absurd (omega (arith, count))
listed (x ∷ []) p q r count first second third = absurd (omega (arith, count))
listed (x ∷ y ∷ []) p q r count first second third = absurd (omega (arith, count))
listed (x ∷ y ∷ z ∷ []) p q r count first second third =
    ap₂ (λ a b. a ∷ b) (same_Some x p first)
    (ap₂ (λ a b. a ∷ b) (same_Some y q second) (ap (λ a. a ∷ []) (same_Some z r third)))
listed (x ∷ y ∷ z ∷ w ∷ more) p q r count first second third = absurd (omega (arith, count))

same_row : (row other : Row) → row.options ≡ other.options → row.phases ≡ other.phases → row ≡ other
same_row row other options phases = ap₂ (λ o ps. record { options = o; phases = ps }) options phases

pub one_row : OneRow
one_row m o row other a b =
    let one = one_from (begins m.costs o) o a.text b.text a.core.world b.core.world a.settled a.crashed a.healed
    b.settled b.crashed b.healed a.grows b.grows in
    let settle : a.settle.0 ≡ b.settle.0 =
    one_told m a.grows.t b.grows.t a.core b.core a.settled o.broadcasts a.settle.0 b.settle.0 one.worlds one.at_settle
    a.settle.2
    (subst (λ (x : PhaseEnd). IsToldOf m b.grows.t b.core x o.broadcasts b.settle.0) (sym one.settle) b.settle.2) in
    let crash : a.crash.0 ≡ b.crash.0 =
    one_told m a.grows.v b.grows.v a.core b.core a.crashed o.broadcasts a.crash.0 b.crash.0 one.worlds one.at_crash
    a.crash.2
    (subst (λ (x : PhaseEnd). IsToldOf m b.grows.v b.core x o.broadcasts b.crash.0) (sym one.crash) b.crash.2) in
    let heal : a.heal.0 ≡ b.heal.0 =
    one_told m a.grows.u b.grows.u a.core b.core a.healed o.broadcasts a.heal.0 b.heal.0 one.worlds one.at_heal
    a.heal.2
    (subst (λ (x : PhaseEnd). IsToldOf m b.grows.u b.core x o.broadcasts b.heal.0) (sym one.heal) b.heal.2) in
    let first = listed row.phases a.settle.0 a.crash.0 a.heal.0 a.three a.settle.1 a.crash.1 a.heal.1 in
    let second = listed other.phases b.settle.0 b.crash.0 b.heal.0 b.three b.settle.1 b.crash.1 b.heal.1 in
    same_row row other (a.options ∙ sym b.options)
    (first ∙ (ap₂ (λ p qs. p ∷ qs) settle (ap₂ (λ q r. q ∷ r ∷ []) crash heal) ∙ sym second))
