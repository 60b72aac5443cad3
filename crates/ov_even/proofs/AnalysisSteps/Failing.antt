-- Levels at which Even's test does not pass: the last one, that above the degree of a member, and that above the size
-- of a cut.
use Rattle.std.proofs.Common.{◌≡◌, ◌≢◌, inl, ℕ, ◌<◌, ◌+◌, List, [], ◌∷◌, length, refl, subst, arith}
use Rattle.ov_ids.specs.Members.{Has}
use Rattle.ov_graph.specs.Links.{LinkGraph, IsGraph, Linked, IsGroup, AreAllLinked, AreNeighbours}
use Rattle.ov_graph.specs.Joined.{Leads, SplitsGroup}
use Rattle.ov_graph.specs.Even.{PassesEven}
use Rattle.ov_graph.proofs.EvenTest.Filtered.{linked_node}
use Rattle.ov_graph.proofs.EvenTest.Sufficing.{even_suffices}
use Rattle.ov_graph.proofs.EvenTest.Walks.{AllSurvive, steps_of}
use Rattle.ov_graph.proofs.GraphValues.OneGraph.{not_self}
use Rattle.ov_fans.specs.Pieces.{IsPiece, level_of}
use Rattle.ov_fans.specs.Cuts.{IsParted, IsFoundFor}
use Rattle.ov_fans.specs.declared.piece.Piece.{Piece}
use Rattle.ov_fans.specs.declared.piece_result.Parting.{Parting}
use Rattle.ov_fans.specs.declared.piece_result.Found.{Found}
use Rattle.ov_fans.specs.declared.piece_result.Found.TheVariants.{Linked as linked_found, Paths, Cut}
use Rattle.ov_even.specs.Hauls.{AreRight}
use Rattle.ov_even.specs.declared.worker_haul.Haul.{Haul}
use Rattle.ov_even.specs.Code.Narrowing.{HasUnlinked, IsCutOf, HasCutOf, SplitsWith}
use Rattle.ov_even.proofs.EvenTest.Complete.{none_split}
use Rattle.ov_even.proofs.EvenTest.Passing.{split_has}
use Rattle.ov_even.proofs.EvenTest.Splitting.{parted_splits}

-- Even's test does not pass at the last level, if two members are not linked
pub last_fails : (g : LinkGraph) (q : List ℕ) (k : ℕ) → IsGraph g → IsGroup g q → ¬ AreAllLinked g q
    → k + 1 ≡ length g.nodes → ¬ PassesEven g q k
last_fails g q k graph group apart last even =
    apart (none_split g q k graph group last (even_suffices g q k group even))

-- it does not pass at a level above the size of a set that splits the group
pub split_fails : (g : LinkGraph) (q s : List ℕ) (k : ℕ) → IsGroup g q → SplitsGroup g q s → length s < k
    → ¬ PassesEven g q k
split_fails g q s k group split less even =
    let many = split_has g q k s group even split in
    omega (arith, less, many)

-- without its neighbours, a node is joined to no other
lone_steps : (g : LinkGraph) (a b : ℕ) (ns steps : List ℕ) → AreNeighbours g a ns → a ≢ b → Leads (Linked g) a steps b
    → ¬ AllSurvive g ns steps
lone_steps g a b ns [] are ne leads stay = ne leads
lone_steps g a b ns (x ∷ xs) are ne leads stay = (stay x (inl refl)).1 ((are.each x).1 leads.0)

-- the neighbours of a member split the group, if some other member is not linked to it
pub neighbours_split : (g : LinkGraph) (q : List ℕ) (a : ℕ) (ns : List ℕ) → IsGraph g → Has q a → HasUnlinked g q a
    → AreNeighbours g a ns → SplitsGroup g q ns
neighbours_split g q a ns graph here other are = record {
  set = record { ascends = are.ascend; nodes = λ x h. linked_node g a x graph ((are.each x).0 h) };
  a = a;
  b = other.0;
  a_survives = (here, λ h. not_self g a graph ((are.each a).0 h));
  b_survives = (other.1, λ h. other.3 ((are.each other.0).0 h));
  differ = other.2;
  parted = λ j.
      let w = steps_of g ns a other.0 j in
      lone_steps g a other.0 ns w.steps are other.2 w.leads w.stay;
}

-- the cut of a parting splits the group, and is smaller than the level of its piece
pub parting_splits : (g : LinkGraph) (q : List ℕ) (p : Piece) (c : Parting) → IsGroup g q → IsPiece g q p
    → IsParted g q p c → SplitsWith g q (level_of p) (length c.cut)
parting_splits g q p c group at parted =
    record { set = c.cut; split = parted_splits g q p c group at parted; count = refl; few = parted.few }

cut_splits : (g : LinkGraph) (q : List ℕ) (p : Piece) (found : Found) (size : ℕ) → IsGroup g q → IsPiece g q p
    → IsFoundFor g q p found → IsCutOf found size → SplitsWith g q (level_of p) size
cut_splits g q p linked_found size group at right of = absurd of
cut_splits g q p (Paths paths) size group at right of = absurd of
cut_splits g q p (Cut parting) size group at right of =
    subst (SplitsWith g q (level_of p)) of (parting_splits g q p parting.value group at right)

-- a cut of this size, of a level or of a lower one, splits the group
pub within_splits : (g : LinkGraph) (q : List ℕ) (hauls : List Haul) (level size : ℕ) → IsGroup g q → AreRight g q hauls
    → HasCutOf hauls level size → SplitsWith g q level size
within_splits g q hauls level size group right within =
    let s = within.0 in
    let is = right s within.1 in
    let w = cut_splits g q s.piece s.found size group is.0 is.1 within.2 in
    let low = within.3 in
    let few = w.few in
    record { set = w.set; split = w.split; count = w.count; few = omega (arith, low, few) }
