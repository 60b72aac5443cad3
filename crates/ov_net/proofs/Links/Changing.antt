-- What one change does to a graph.
use Rattle.std.proofs.Common.{◌≡◌, ◌≢◌, ◌↔◌, ◌⊎◌, ℕ, suc, ◌+◌, ◌<◌, ◌≤◌, List, ◌∷◌, length, drop}
use Rattle.std.proofs.Common.{Bool, IsTrue, get_or, Option, None, Some, inl, inr, refl, sym, ap, subst, ◌∙◌, arith}
use Rattle.std.proofs.Math.Seq.{drop-cons}
use Rattle.std.specs.FinMap as map
use Rattle.std.specs.Ordering.{nat_cmp}
use Rattle.ov_ids.specs.Members.{Has}
use Rattle.ov_ids.proofs.Sets.{length-adding, length-without}
use Rattle.ov_graph.specs.Links.{LinkGraph, IsGraph, IsSmall, Linked, most_nodes}
use Rattle.ov_graph.specs.Changes.{ArePair, GainsNode, LosesNode, LosesLink}
use Rattle.ov_graph.proofs.EvenTest.Filtered.{linked_node}
use Rattle.ov_graph.proofs.EvenTest.Walks.{linked_sym}
use Rattle.ov_graph.proofs.GraphValues.OneGraph.{same_graphs}
use Rattle.ov_peer.specs.PeerState.{PeerState}
use Rattle.ov_net.specs.Code.LinkChanges.{FitsOne, Gains, HasAllLive, Holds, IsChanged, IsLive}
use Rattle.ov_net.specs.Code.LinkChanges.{AreChanged, Fit, MayGain}
use Rattle.ov_net.specs.declared.journal_entry_and_changes.Change.{Change}
use Rattle.ov_net.specs.declared.journal_entry_and_changes.Change.TheVariants.{Born, Up, Down, Gone}
use Rattle.ov_net.specs.declared.member.Member.{Member}
use Rattle.ov_net.specs.declared.member.Member.TheVariants.{Live}
use Rattle.ov_net.proofs.Journal.After.{members_adding, members_without}
use Rattle.ov_net.proofs.Journal.Outcomes.{same_live, same_some}

-- two graphs with the same links
pub same_linked : (g h : LinkGraph) (a b : ℕ) → h.links ≡ g.links → Linked h a b ↔ Linked g a b
unfolding Linked
same_linked g h a b e = (
  (λ l. subst (λ (ls : List (ℕ × ℕ)). Has ls (a, b) ⊎ Has ls (b, a)) e l),
  (λ l. subst (λ (ls : List (ℕ × ℕ)). Has ls (a, b) ⊎ Has ls (b, a)) (sym e) l),
)

-- the links without those of a node
pub lost_linked : (g h : LinkGraph) (a x y : ℕ) → LosesNode g a h
    → Linked h x y ↔ (Linked g x y × (x ≢ a) × (y ≢ a))
unfolding Linked
lost_linked g h a x y loses = (
  (λ l. elim l [
    | inl k ↦ let r = (loses.links (x, y)).0 k in (inl r.0, r.1, r.2)
    | inr k ↦ let r = (loses.links (y, x)).0 k in (inr r.0, r.2, r.1)
  ]),
  (λ l. elim l.0 [
    | inl k ↦ inl ((loses.links (x, y)).1 (k, l.1, l.2))
    | inr k ↦ inr ((loses.links (y, x)).1 (k, l.2, l.1))
  ]),
)

-- a node that was added and removed again leaves the graph as it was
pub lost_again : (g k h : LinkGraph) (a : ℕ) → IsGraph g → IsGraph h → ¬ Has g.nodes a → GainsNode g a k
    → LosesNode k a h → h ≡ g
lost_again g k h a graph later stranger gains loses = same_graphs h g later graph nodes links
  where
    nodes : (x : ℕ) → Has h.nodes x ↔ Has g.nodes x
    nodes x = (
      (λ i.
          let r = (members_without a k.nodes x).0 (subst (λ (ns : List ℕ). Has ns x) loses.nodes i) in
          elim ((members_adding a g.nodes x).0 (subst (λ (ns : List ℕ). Has ns x) gains.nodes r.1)) [
            | inl e ↦ absurd (r.0 e)
            | inr j ↦ j
          ]),
      (λ i. subst (λ (ns : List ℕ). Has ns x) (sym loses.nodes) ((members_without a k.nodes x).1 (
        (λ e. stranger (subst (Has g.nodes) (sym e) i)),
        subst (λ (ns : List ℕ). Has ns x) (sym gains.nodes) ((members_adding a g.nodes x).1 (inr i)),
      ))),
    )

    ends : (x y : ℕ) → Linked g x y → (x ≢ a) × (y ≢ a)
    ends x y l = (
      (λ e. stranger (subst (Has g.nodes) e (linked_node g y x graph (linked_sym g x y l)))),
      (λ e. stranger (subst (Has g.nodes) e (linked_node g x y graph l))),
    )

    links : (x y : ℕ) → Linked h x y ↔ Linked g x y
    links x y = (
      (λ l. (same_linked g k x y gains.links).0 ((lost_linked k h a x y loses).0 l).0),
      (λ l. let r = ends x y l in
          (lost_linked k h a x y loses).1 ((same_linked g k x y gains.links).1 l, r.0, r.1)),
    )

pub taken_back : (newborn : Option ℕ) (a : ℕ) (k h : LinkGraph) → newborn ≡ Some a → LosesNode k a h → IsGraph h
    → (g : LinkGraph) → IsGraph g → MayGain newborn g → Gains newborn g k → h ≡ g
taken_back newborn a k h e loses later g graph may gains =
    let m : MayGain (Some a) g = subst (λ (n : Option ℕ). MayGain n g) e may in
    let n : GainsNode g a k = subst (λ (n : Option ℕ). Gains n g k) e gains in
    lost_again g k h a graph later m.0 n loses

-- to unlink two nodes that are not linked changes nothing
pub unlinked_rests : (g : LinkGraph) (a b : ℕ) → ¬ Linked g a b → LosesLink g a b g
unlinked_rests g a b none = record {
  nodes = refl;
  links = λ x y. ((λ l. (not_pair x y l, l)), (λ r. r.1));
}
  where
    not_pair : (x y : ℕ) → Linked g x y → ¬ ArePair a b x y
    not_pair x y l p = elim p [
      | inl q ↦ none (subst (λ u. Linked g u b) q.0 (subst (λ v. Linked g x v) q.1 l))
      | inr q ↦ none (linked_sym g b a (subst (λ u. Linked g u a) q.0 (subst (λ v. Linked g x v) q.1 l)))
    ]

-- a small graph stays small
pub small_kept : (members : map.FinMap nat_cmp Member) (c : Change) (g h : LinkGraph) → IsChanged members c g h
    → IsSmall g → IsSmall h
small_kept members (Born a) g h e small = subst IsSmall (sym e) small
small_kept members (Up a b) g h changed small =
    subst (λ (ns : List ℕ). length ns ≤ most_nodes) (sym changed.nodes) small
small_kept members (Down a b) g h changed small =
    subst (λ (ns : List ℕ). length ns ≤ most_nodes) (sym changed.nodes) small
small_kept members (Gone a) g h changed small =
    let less = length-without a g.nodes in
    subst (λ (ns : List ℕ). length ns ≤ most_nodes) (sym changed.nodes) (omega (arith, less, small))

pub small_gained : (newborn : Option ℕ) (g h : LinkGraph) → MayGain newborn g → Gains newborn g h → IsSmall h
small_gained None g h may gains = subst IsSmall (sym gains) may
small_gained (Some a) g h may gains =
    let more = length-adding a g.nodes in
    let room = may.1 in
    subst (λ (ns : List ℕ). length ns ≤ most_nodes) (sym gains.nodes) (omega (arith, more, room))

-- each live node stays in the graph
pub live_kept : (members : map.FinMap nat_cmp Member) (c : Change) (g h : LinkGraph) → IsChanged members c g h
    → FitsOne members c → HasAllLive members g → HasAllLive members h
live_kept members (Born a) g h e fits live x lives = subst (λ (k : LinkGraph). Has k.nodes x) (sym e) (live x lives)
live_kept members (Up a b) g h changed fits live x lives =
    subst (λ (ns : List ℕ). Has ns x) (sym changed.nodes) (live x lives)
live_kept members (Down a b) g h changed fits live x lives =
    subst (λ (ns : List ℕ). Has ns x) (sym changed.nodes) (live x lives)
live_kept members (Gone a) g h changed fits live x lives =
    subst (λ (ns : List ℕ). Has ns x) (sym changed.nodes) ((members_without a g.nodes x).1 (
      (λ e. fits.gone a (inl refl) (subst (IsLive members) (sym e) lives)),
      live x lives,
    ))

-- if changes fit the nodes, each of them does
pub fits_each : (members : map.FinMap nat_cmp Member) (changes : List Change) (c : Change) → Fit members changes
    → Has changes c → FitsOne members c
fits_each members changes c fit has = record {
  up = λ a b i. elim i [ inl e ↦ fit.up a b (subst (Has changes) e has) | inr j ↦ absurd j ];
  gone = λ a i. elim i [ inl e ↦ fit.gone a (subst (Has changes) e has) | inr j ↦ absurd j ];
}

-- one change more, before those that are left
pub changed_more : (members : map.FinMap nat_cmp Member) (changes : List Change) (c : Change) (i : ℕ)
    (g k h : LinkGraph) → i < length changes → c ≡ get_or changes i c → IsGraph k → IsChanged members c g k
    → AreChanged members (drop (i + 1) changes) k h → AreChanged members (drop i changes) g h
changed_more members changes c i g k h below is graph changed rest =
    let next : suc i ≡ i + 1 = omega arith in
    let at : drop i changes ≡ c ∷ drop (i + 1) changes =
    drop-cons changes i c below ∙ ap (λ (x : Change). x ∷ drop (suc i) changes) (sym is)
    ∙ ap (λ (n : ℕ). c ∷ drop n changes) next in
    subst (λ (cs : List Change). AreChanged members cs g h) (sym at) (k, graph, changed, rest)

-- the test whether a live node holds another one
pub holds_tested : (members : map.FinMap nat_cmp Member) (a b : ℕ) (p : PeerState) (t : Bool) (active : List ℕ)
    → map.get members a ≡ Some (Live p) → active ≡ p.hyparview.views.active → IsTrue t ↔ Has active b
    → IsTrue t ↔ Holds members a b
holds_tested members a b p t active at same tested = (
  (λ i. (p, at, subst (λ (s : List ℕ). Has s b) same (tested.0 i))),
  (λ h. tested.1 (subst (λ (s : List ℕ). Has s b) (sym same)
      (subst (λ (q : PeerState). Has q.hyparview.views.active b)
      (same_live h.0 p (same_some (Live h.0) (Live p) (sym h.1 ∙ at))) h.2))),
)
