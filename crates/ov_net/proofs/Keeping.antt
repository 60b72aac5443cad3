-- The graph that a world keeps, if it keeps one: at the beginning, and after each event.
use Rattle.std.proofs.Common.{◌≡◌, ℕ, List, [], length, Option, refl, sym, ap, subst, ◌∙◌}
use Rattle.std.specs.FinMap as map
use Rattle.std.specs.Ordering.{nat_cmp}
use Rattle.ov_ids.specs.ParamsState.{ParamsState}
use Rattle.ov_ids.specs.declared.world_scale.Scale.{Scale}
use Rattle.ov_ids.specs.declared.world_scale.Scale.TheVariants.{Profile, Large}
use Rattle.ov_wire.specs.declared.message.Message.{Message}
use Rattle.ov_graph.specs.Links.{IsGraph, IsSmall}
use Rattle.ov_net.specs.Code.Codes.{world_of}
use Rattle.ov_net.specs.Code.Effects.{AreEffects, NamedNodeChanges}
use Rattle.ov_net.specs.Code.LinkChanges.{AreChanged, Fit, Gains, HasAllLive, MayGain, newborn_of}
use Rattle.ov_net.specs.Code.WorldGraph.{AreBothKept, IfKept, KeepsLinks, opening_graph}
use Rattle.ov_net.specs.Refusals.{MayHappen}
use Rattle.ov_net.specs.World.{WorldState, Stands}
use Rattle.ov_net.specs.declared.event.Event.{Event}
use Rattle.ov_net.specs.declared.journal_entry_and_changes.Entry.{Entry}
use Rattle.ov_net.specs.declared.kept_graph.KeptGraph.{KeptGraph}
use Rattle.ov_net.specs.declared.kept_graph.KeptGraph.TheVariants.{Kept, Unkept}
use Rattle.ov_net.specs.declared.member.Member.{Member}
use Rattle.ov_net.specs.declared.planned_effects.Effects.{Effects}
use Rattle.ov_net.proofs.Links.Changing.{small_gained}
use Rattle.ov_net.proofs.Links.Kept.{fit_after, live_after}
use Rattle.ov_net.proofs.Standing.{graph_after, graph_next, links_begun, may_gain, outcome_next}

pub keeps_begun : (params : ParamsState) (journal : List Entry) (k : KeptGraph) → journal ≡ []
    → k ≡ opening_graph params.scale → KeepsLinks params journal k
keeps_begun params journal k none is = by params.scale refl
  where
    by : (s : Scale) → params.scale ≡ s → KeepsLinks params journal k
    by Profile e =
        subst (KeepsLinks params journal) (sym (is ∙ ap opening_graph e)) (e, links_begun journal _ none refl)
    by Large e = subst (KeepsLinks params journal) (sym (is ∙ ap opening_graph e)) e

pub kept_is_graph : (params : ParamsState) (journal : List Entry) (k : KeptGraph) → KeepsLinks params journal k
    → IfKept IsGraph k
kept_is_graph params journal (Kept g) keeps = keeps.1.graph
kept_is_graph params journal Unkept keeps = tt

-- a newborn node is not in it, and has room
pub kept_may_gain : (seen c : WorldState) (event : Event) (k : KeptGraph) → seen ≡ c → Stands seen
    → KeepsLinks seen.net.params seen.journal k → MayHappen c.net (length c.journal) event
    → IfKept (MayGain (newborn_of event)) k
kept_may_gain seen c event (Kept g) same s keeps judged = may_gain seen c event g same s keeps.0 keeps.1 judged
kept_may_gain seen c event Unkept same s keeps judged = tt

-- it stays small
pub kept_small : (newborn : Option ℕ) (k l : KeptGraph) → IfKept (MayGain newborn) k
    → AreBothKept (Gains newborn) k l → IfKept IsSmall l
kept_small newborn (Kept g) (Kept h) may gains = small_gained newborn g h may gains
kept_small newborn (Kept g) Unkept may gains = tt
kept_small newborn Unkept (Kept h) may gains = absurd gains
kept_small newborn Unkept Unkept may gains = tt

-- all nodes that are alive after the event are in it
pub kept_live : (seen c : WorldState) (event : Event) (words : List ℕ) (b : Effects)
    (nodes : map.FinMap nat_cmp Member) (k l : KeptGraph) → seen ≡ c → Stands seen
    → KeepsLinks seen.net.params seen.journal k → AreEffects c.net event words b
    → NamedNodeChanges b.node seen.net.nodes nodes → AreBothKept (Gains (newborn_of event)) k l → IfKept IsGraph l
    → IfKept (HasAllLive nodes) l
kept_live seen c event words b nodes (Kept g) (Kept h) same s keeps effects changed gains graph =
    let after = graph_after seen c event words b nodes g h same s keeps.1 effects changed gains graph in
    live_after (map.get seen.net.nodes) nodes (newborn_of event) b.changes g h after.was after.outcome after.gains
kept_live seen c event words b nodes (Kept g) Unkept same s keeps effects changed gains graph = tt
kept_live seen c event words b nodes Unkept (Kept h) same s keeps effects changed gains graph = absurd gains
kept_live seen c event words b nodes Unkept Unkept same s keeps effects changed gains graph = tt

-- the changes of the event fit the nodes after it
pub changes_fit : (seen c : WorldState) (event : Event) (words : List ℕ) (b : Effects)
    (nodes : map.FinMap nat_cmp Member) → seen ≡ c → AreEffects c.net event words b
    → NamedNodeChanges b.node seen.net.nodes nodes → Fit nodes b.changes
changes_fit seen c event words b nodes same effects changed =
    fit_after (map.get seen.net.nodes) nodes (newborn_of event) b.changes
    (outcome_next seen c event words b nodes same effects changed)

-- the graph after the event, changed with its changes
pub kept_next : (seen c : WorldState) (event : Event) (words : List ℕ) (b : Effects)
    (nodes : map.FinMap nat_cmp Member) (k l m : KeptGraph) → seen ≡ c → Stands seen
    → KeepsLinks seen.net.params seen.journal k → AreEffects c.net event words b
    → NamedNodeChanges b.node seen.net.nodes nodes → AreBothKept (Gains (newborn_of event)) k l → IfKept IsGraph l
    → AreBothKept (AreChanged nodes b.changes) l m → (packets : List (ℕ × Message)) (journal : List Entry)
    → Stands (world_of seen.net.params nodes packets journal) → KeepsLinks seen.net.params journal m
kept_next seen c event words b nodes (Kept g) (Kept h) (Kept j) same s keeps effects changed gains graph all packets
    journal next =
    let after = graph_after seen c event words b nodes g h same s keeps.1 effects changed gains graph in (
      keeps.0,
      graph_next seen event nodes b.changes g h j after all seen.net.params packets journal next,
    )
kept_next seen c event words b nodes (Kept g) (Kept h) Unkept same s keeps effects changed gains graph all packets
    journal next = absurd all
kept_next seen c event words b nodes (Kept g) Unkept m same s keeps effects changed gains graph all packets journal
    next = absurd gains
kept_next seen c event words b nodes Unkept (Kept h) m same s keeps effects changed gains graph all packets journal
    next = absurd gains
kept_next seen c event words b nodes Unkept Unkept (Kept j) same s keeps effects changed gains graph all packets
    journal next = absurd all
kept_next seen c event words b nodes Unkept Unkept Unkept same s keeps effects changed gains graph all packets
    journal next = keeps
