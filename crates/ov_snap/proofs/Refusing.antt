-- The refusals of a core, step by step.
use Rattle.std.proofs.Common.{◌≡◌, ◌≢◌, Bool, false, true≢false, eqb, length, ℕ, ◌<◌, List, [], ◌∷◌, Option, None, Some}
use Rattle.std.proofs.Common.{inl, inr, refl, sym, ap, ◌∙◌, subst}
use Rattle.std.proofs.lemmas.Option.{none-some}
use Rattle.ov_ids.specs.Members.{Has}
use Rattle.ov_ids.specs.FaultOrder.{HoldsThen, Passed}
use Rattle.ov_ids.proofs.Stepping.{step_none}
use Rattle.ov_graph.specs.Links.{LinkGraph, IsGroup}
use Rattle.ov_net.specs.Journal.{AreLinks, Live}
use Rattle.ov_net.proofs.Links.OneGraph.{links_one}
use Rattle.ov_ids.specs.Workers.{MayWork}
use Rattle.ov_snap.specs.CoreState.{CoreState, HasReport, most_desks}
use Rattle.ov_snap.specs.ReportState.{ReportState}
use Rattle.ov_snap.specs.Refusals.{BeginJudged, FilingJudged, GroupBeginJudged, GroupThen, IsGroupAt}
use Rattle.ov_snap.specs.Refusals.{SomebodyLivedThen, WorkersJudged}
use Rattle.ov_snap.specs.Snapshots.{IsMoment}
use Rattle.ov_snap.specs.declared.refused_core_call.CoreFault.{CoreFault}
use Rattle.ov_snap.specs.declared.refused_core_call.CoreFault.TheVariants.{NoSuchMoment, NoNodes, BadGroup, OtherGraph}
use Rattle.ov_snap.specs.declared.refused_core_call.CoreFault.TheVariants.{AlreadyFiled, NoSuchWorker, TooManyDesks}

some_node : (ns : List ℕ) (b : Bool) → b ≡ eqb (length ns) 0 → b ≡ false → (a : ℕ) × Has ns a
some_node [] b is isnt = absurd (true≢false (sym is ∙ isnt))
some_node (n ∷ ns) b is isnt = (n, inl refl)

-- an analysis begins
pub begin_no_moment : (b : CoreState) (m : ℕ) (f : CoreFault) → (f ≡ NoSuchMoment) × (¬ IsMoment b.world.journal m)
    → BeginJudged b m (Some f)
begin_no_moment b m f h = inr (h.1, ap (λ (x : CoreFault). Some x) h.0)

pub begin_no_nodes : (b : CoreState) (m : ℕ) (g : LinkGraph) → IsMoment b.world.journal m × AreLinks b.world.journal m g
    → g.nodes ≡ [] → BeginJudged b m (Some NoNodes)
begin_no_nodes b m g h none =
    inl (h.0, inr ((λ k. subst (λ (ns : List ℕ). Has ns k.0) none ((h.1.nodes k.0).1 k.1)), refl))

pub begin_living : (b : CoreState) (m : ℕ) (g : LinkGraph) (ns : List ℕ) (t : Bool)
    → IsMoment b.world.journal m × AreLinks b.world.journal m g → ns ≡ g.nodes → t ≡ eqb (length ns) 0 → t ≡ false
    → BeginJudged b m None
begin_living b m g ns t h nodes test is =
    let n = some_node ns t test is in
    inl (h.0, inl ((n.0, (h.1.nodes n.0).0 (subst (λ (xs : List ℕ). Has xs n.0) nodes n.1)), refl))

-- the parts of a judgement that begins with a moment at which somebody lived
pub lived_then : (b : CoreState) (m : ℕ) (After : Option CoreFault → Type 0) → SomebodyLivedThen b m After None
    → IsMoment b.world.journal m × ((a : ℕ) × Live b.world.journal m a) × After None
lived_then b m After h =
    let Lived : Type 0 = (a : ℕ) × Live b.world.journal m a in
    let moment = step_none (IsMoment b.world.journal m) NoSuchMoment (HoldsThen Lived NoNodes After) h in
    let lived = step_none Lived NoNodes After moment.1 in
    (moment.0, lived.0, lived.1)

-- the same with a group of its nodes
pub group_then : (b : CoreState) (m : ℕ) (q : List ℕ) (After : Option CoreFault → Type 0) → GroupThen b m q After None
    → IsMoment b.world.journal m × IsGroupAt b m q × After None
group_then b m q After h =
    let lived = lived_then b m (HoldsThen (IsGroupAt b m q) BadGroup After) h in
    let group = step_none (IsGroupAt b m q) BadGroup After lived.2 in
    (lived.0, group.0, group.1)

-- these workers may have one more desk
pub workers_passed : (b : CoreState) (workers : ℕ) → WorkersJudged b workers None
    → (length b.desks < most_desks) × MayWork workers
workers_passed b workers h =
    let room = step_none (length b.desks < most_desks) TooManyDesks
    (HoldsThen (MayWork workers) NoSuchWorker Passed) h in
    (room.0, (step_none (MayWork workers) NoSuchWorker Passed room.1).0)

-- an analysis of a group begins, from what holds of one of all nodes
pub group_refused : (b : CoreState) (m : ℕ) (q : List ℕ) (f : CoreFault) → BeginJudged b m (Some f)
    → GroupBeginJudged b m q (Some f)
group_refused b m q f (inr h) = inr h
group_refused b m q f (inl h) = elim h.1 [
  | inl passed ↦ absurd (none-some f (sym passed.1))
  | inr failed ↦ inl (h.0, inr failed)
]

pub group_begins : (b : CoreState) (m : ℕ) (q : List ℕ) (g : LinkGraph) → BeginJudged b m None
    → AreLinks b.world.journal m g → IsGroup g q → GroupBeginJudged b m q None
group_begins b m q g h links group =
    let parts = lived_then b m Passed h in
    inl (parts.0, inl (parts.1, inl ((g, links, group), refl)))

-- ids that are no group of one graph with the moment's links are none of any
pub no_group_at : (b : CoreState) (m : ℕ) (q : List ℕ) (g : LinkGraph) → AreLinks b.world.journal m g → ¬ IsGroup g q
    → ¬ IsGroupAt b m q
no_group_at b m q g links none k =
    none (subst (λ (x : LinkGraph). IsGroup x q) (links_one b.world.journal m k.0 g k.1 links) k.2)

pub no_group : (b : CoreState) (m : ℕ) (q : List ℕ) (g : LinkGraph) (After : Option CoreFault → Type 0)
    → BeginJudged b m None → AreLinks b.world.journal m g → ¬ IsGroup g q → GroupThen b m q After (Some BadGroup)
no_group b m q g After h links none =
    let parts = lived_then b m Passed h in
    inl (parts.0, inl (parts.1, inr (no_group_at b m q g links none, refl)))

-- a report is filed
pub filing_no_moment : (b : CoreState) (r : ReportState) (m : ℕ) (f : CoreFault) → m ≡ r.moment
    → (f ≡ NoSuchMoment) × (¬ IsMoment b.world.journal m) → FilingJudged b r (Some f)
filing_no_moment b r m f at h =
    inr (subst (λ n. ¬ IsMoment b.world.journal n) at h.1, ap (λ (x : CoreFault). Some x) h.0)

pub filing_other : (b : CoreState) (r : ReportState) (m : ℕ) (g : LinkGraph) → m ≡ r.moment
    → IsMoment b.world.journal m × AreLinks b.world.journal m g → r.graph ≢ g → FilingJudged b r (Some OtherGraph)
filing_other b r m g at h other =
    inl (
      subst (IsMoment b.world.journal) at h.0,
      inr (
        (λ k. other (links_one b.world.journal r.moment r.graph g k
            (subst (λ n. AreLinks b.world.journal n g) at h.1))),
        refl,
      ),
    )

own_links : (b : CoreState) (r : ReportState) (m : ℕ) (g : LinkGraph) → m ≡ r.moment → AreLinks b.world.journal m g
    → r.graph ≡ g → AreLinks b.world.journal r.moment r.graph
own_links b r m g at h same =
    subst (AreLinks b.world.journal r.moment) (sym same) (subst (λ n. AreLinks b.world.journal n g) at h)

pub filing_again : (b : CoreState) (r : ReportState) (m : ℕ) (q : List ℕ) (g : LinkGraph) (x : ReportState)
    → m ≡ r.moment
    → q ≡ r.members → IsMoment b.world.journal m × AreLinks b.world.journal m g → r.graph ≡ g → HasReport b m q x
    → FilingJudged b r (Some AlreadyFiled)
filing_again b r m q g x at group h same filed =
    inl (
      subst (IsMoment b.world.journal) at h.0,
      inl (own_links b r m g at h.1 same, inr ((λ free. free (x, own)), refl)),
    )
  where
    own : HasReport b r.moment r.members x
    own = record { filed = filed.filed; moment = filed.moment ∙ at; members = filed.members ∙ group }

pub filing_passes : (b : CoreState) (r : ReportState) (m : ℕ) (q : List ℕ) (g : LinkGraph) → m ≡ r.moment
    → q ≡ r.members → IsMoment b.world.journal m × AreLinks b.world.journal m g → r.graph ≡ g
    → ((x : ReportState) → ¬ HasReport b m q x) → FilingJudged b r None
filing_passes b r m q g at group h same free =
    inl (
      subst (IsMoment b.world.journal) at h.0,
      inl (own_links b r m g at h.1 same, inl ((λ k. free k.0 (was k.0 k.1)), refl)),
    )
  where
    was : (x : ReportState) → HasReport b r.moment r.members x → HasReport b m q x
    was x k = record { filed = k.filed; moment = k.moment ∙ sym at; members = k.members ∙ sym group }
