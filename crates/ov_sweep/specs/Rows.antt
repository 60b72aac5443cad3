-- What the row of a run says: numbers of the reports that growing files. Chosen here.
use Rattle.std.specs.Prelude.{◌≡◌, ◌≢◌, ℕ, ◌*◌, ◌/◌, ◌≤◌, Bool, true, false, List, length, slice_get, Option, Some}
use Rattle.std.specs.Prelude.{None, option_map}
use Rattle.ov_ids.specs.Members.{Has}
use Rattle.ov_graph.specs.Links.{LinkGraph, AreNeighbours}
use Rattle.ov_cert.specs.Valid.{k_of}
use Rattle.ov_snap.specs.CoreState.{CoreState, HasReportOfAll}
use Rattle.ov_snap.specs.ReportState.{ReportState, IsTrueReport}
use Rattle.ov_grow_options.specs.declared.options.GrowOptions.{GrowOptions}
use Rattle.ov_grow.specs.Growing.{GrowsFrom, begins}
use Rattle.ov_grow.specs.Growth.{Growth}
use Rattle.ov_grow.specs.MessageCosts.{AreCosts}
use Rattle.ov_sweep.specs.PhaseCosts.{phase_costs}
use Rattle.ov_grow.specs.declared.message_cost.MessageCost.{MessageCost}
use Rattle.ov_grow.specs.declared.phase_moment_and_deliveries.PhaseEnd.{PhaseEnd}
use Rattle.ov_grow.specs.Replay.{Replays}
use Rattle.ov_articulations.specs.Articulations.{HasArticulations}
use Rattle.ov_shape.specs.Clustering.{IsClustering}
use Rattle.ov_graph.specs.Components.{HasLargest}
use Rattle.ov_shape.specs.Degrees.{IsQuartile}
use Rattle.ov_shape.specs.ShortestPaths.{HasDiameter, HasMeanPath}
use Rattle.ov_sweep_rows.specs.Rows.{place_of}
use Rattle.ov_sweep_rows.specs.declared.measures.Measures.{Measures}
use Rattle.ov_sweep_rows.specs.declared.phase_costs.PhaseCosts.{PhaseCosts}
use Rattle.ov_sweep_rows.specs.declared.phase_shape.PhaseShape.{PhaseShape}
use Rattle.ov_sweep_rows.specs.declared.delivered_share.DeliveredShare.{DeliveredShare}
use Rattle.ov_sweep_rows.specs.declared.row.Phase.{Phase}
use Rattle.ov_sweep_rows.specs.declared.row.Phase.TheVariants.{Settle, Crash, Heal}
use Rattle.ov_sweep_rows.specs.declared.row.PhaseRow.{PhaseRow}
use Rattle.ov_sweep_rows.specs.declared.row.Row.{Row}

-- a node has n neighbours
abbrev pub HasDegree : LinkGraph → ℕ → ℕ → Type 0
HasDegree g a n = (ns : List ℕ) × AreNeighbours g a ns × (length ns ≡ n)

-- n is the least degree: some node has n neighbours, and no node has fewer
pub record IsLeastDegree (g : LinkGraph) (n : ℕ) : Type 0 where
  pub node : ℕ
  pub is_node : Has g.nodes node
  pub reached : HasDegree g node n
  pub least : (a m : ℕ) → Has g.nodes a → HasDegree g a m → n ≤ m

-- the delivered share in parts of 10,000, rounded down: of so many broadcasts among so many nodes there were so many
-- deliveries. There is none exactly if there were no broadcasts or no nodes
abbrev pub IsShare : ℕ → ℕ → ℕ → Option DeliveredShare → Type 0
IsShare deliveries broadcasts nodes None = broadcasts * nodes ≡ 0
IsShare deliveries broadcasts nodes (Some share) =
    (broadcasts * nodes ≢ 0) × (share.parts ≡ deliveries * 10000 / (broadcasts * nodes))

-- these numbers are those of the report r, and of so many deliveries of so many broadcasts after it
pub record AreNumbersOf (r : ReportState) (broadcasts deliveries : ℕ) (p : PhaseRow) : Type 0 where
  pub nodes : p.nodes ≡ length r.graph.nodes
  pub k : p.k ≡ k_of r.cert
  pub least_degree : IsLeastDegree r.graph p.least_degree
  pub links : p.links ≡ length r.graph.links
  pub entries : p.entries ≡ r.moment
  pub delivered : IsShare deliveries broadcasts (length r.graph.nodes) p.delivered

-- the shape of this graph
pub record IsShapeOf (g : LinkGraph) (shape : PhaseShape) : Type 0 where
  pub largest : HasLargest g shape.largest
  pub clustering : IsClustering g shape.clustering.parts
  pub path : HasMeanPath g (option_map (λ p. p.parts) shape.path)
  pub diameter : HasDiameter g shape.diameter
  pub degree_25 : IsQuartile g 1 shape.degree_25
  pub degree_50 : IsQuartile g 2 shape.degree_50
  pub degree_75 : IsQuartile g 3 shape.degree_75
  pub articulations : HasArticulations g shape.articulations

-- what the broadcasts of the phase cost at whose end growing stands here
abbrev pub ArePhaseCosts : Growth → PhaseCosts → Type 0
ArePhaseCosts s told = (costs : List MessageCost) × AreCosts s costs × (told ≡ phase_costs costs)

-- a value is told if it is asked for, and it is right
abbrev pub IsAsked : {X : Type 0} → Bool → (X → Type 0) → Option X → Type 0
IsAsked true IsRight (Some told) = IsRight told
IsAsked true IsRight None = ⊥
IsAsked false IsRight told = told ≡ None

-- what a row says of a phase that ended so, when growing stood at s: the numbers of the report of all nodes that the
-- core files for its moment, and, if they are asked for, what the broadcasts cost, and the shape of the report's graph.
-- What this report says is true
pub record IsToldOf (m : Measures) (s : Growth) (c : CoreState) (ended : PhaseEnd) (broadcasts : ℕ)
    (p : PhaseRow) : Type 0
  where
    pub report : ReportState
    pub filed : HasReportOfAll c ended.moment report
    pub is_true : IsTrueReport c.world.journal report
    pub numbers : AreNumbersOf report broadcasts ended.deliveries p
    pub costs : IsAsked m.costs (ArePhaseCosts s) p.costs
    pub shape : IsAsked m.shape (IsShapeOf report.graph) p.shape

-- a row says this of a phase
abbrev pub SaysOf : Row → Phase → PhaseRow → Type 0
SaysOf row phase p = slice_get row.phases (place_of phase) ≡ Some p

-- the row of the overlay that is grown with the options o: there is a text by which it is grown, which replays its
-- core; and what the row says of each of the three phases are the numbers of the report that the core files for it, and
-- what is measured beside them. A log of broadcasts is kept if it is asked for what they cost
pub record IsRowOf (m : Measures) (o : GrowOptions) (row : Row) : Type 0 where
  pub options : row.options ≡ o
  pub three : length row.phases ≡ 3
  pub text : List ℕ
  pub core : CoreState
  pub settled : PhaseEnd
  pub crashed : PhaseEnd
  pub healed : PhaseEnd
  pub grows : GrowsFrom (begins m.costs o) o text core.world settled crashed healed
  pub replays : Replays text core
  pub settle : (p : PhaseRow) × SaysOf row Settle p × IsToldOf m grows.t core settled o.broadcasts p
  pub crash : (p : PhaseRow) × SaysOf row Crash p × IsToldOf m grows.v core crashed o.broadcasts p
  pub heal : (p : PhaseRow) × SaysOf row Heal p × IsToldOf m grows.u core healed o.broadcasts p

-- for given measures the options decide the row: two rows of the same measures and options are the same
abbrev pub OneRow : Type 0
OneRow = (m : Measures) (o : GrowOptions) (row other : Row) → IsRowOf m o row → IsRowOf m o other → row ≡ other
