-- The links of one node, taken one after another.
use Rattle.std.proofs.Common.{◌≡◌, ◌∙◌, ◌↔◌, ◌⊎◌, ℕ, ◌+◌, ◌-◌, ◌<◌, inl, inr, List, length, get_or}
use Rattle.std.proofs.Common.{Option, Some, None, Bool, true, false, refl, sym, subst, arith, unwrap_or, IsTrue}
use Rattle.std.proofs.lemmas.Bool.{cases_eq, cases_lt}
use Rattle.std.proofs.lemmas.List.{get_or_read}
use Rattle.ov_ids.specs.Members.{Has}
use Rattle.ov_ids.proofs.Members.{has_place}
use Rattle.ov_graph.specs.Links.{Linked}
use Rattle.ov_graph.specs.Neighbours.{IsFirst, HoldsNoMore}
use Rattle.ov_graph.specs.Row.{has_bit, HasBit}
use Rattle.ov_graph.proofs.EvenTest.Filtered.{linked_node}
use Rattle.ov_split.specs.SplitNetState.{SplitNetState}
use Rattle.ov_split.specs.Code.Residual.{Table}
use Rattle.ov_split.specs.Placed.{IsPlaced, LinksOutside}
use Rattle.ov_flow.specs.declared.search_tree.Tree.{Tree}
use Rattle.ov_flow.specs.Code.Reached.{tip_of, IsStepBy, IsTree, IsGrownBy, IsGrown, IsMore, IsClean, IsSweptAt}
use Rattle.ov_flow.specs.Code.Walked.{table_of, IsTable}
use Rattle.ov_flow.specs.Code.Held.{HasTreeRoom, HasNodeRoom}
use Rattle.ov_flow.proofs.Reaching.{more_refl, more_trans, extends_has, grown_seen, clean_more, node_room, IsReachedBy}

-- the place to which a step leads
pub tip_below : (wide : ℕ) (from : List (Option ℕ)) (w : ℕ) → IsTable wide from → w < wide
    → tip_of (table_of from) w < wide
tip_below wide from w t l = go (table_of from w) refl
  where
    go : (o : Option ℕ) → table_of from w ≡ o → unwrap_or o w < wide
    go None e = l
    go (Some u) e = t.told w u e

pub order_below : (n : SplitNetState) (wide : ℕ) (from : Table) (order parents : List ℕ) (ways : List (Option ℕ))
    (k : ℕ)
    → IsPlaced n wide → IsTree n from order parents ways → k < length order → get_or order k 0 < wide
order_below n wide from order parents ways k p t l =
    (p.nodes (get_or order k 0)).0 (t.nodes (get_or order k 0) (has_place order k 0 l))

pub read_below : (n : SplitNetState) (wide : ℕ) (from : Table) (order parents : List ℕ) (ways : List (Option ℕ))
    (k x : ℕ)
    → IsPlaced n wide → IsTree n from order parents ways → k < length order → x ≡ get_or order k x → x < wide
read_below n wide from order parents ways k x p t l read =
    let e = get_or_read order k x l read 0 in
    let b = order_below n wide from order parents ways k p t l in
    omega (arith, e, b)

bit_or_not : (row : List ℕ) (p : ℕ) → HasBit row p ⊎ (¬ HasBit row p)
bit_or_not row p = go (has_bit row p) refl
  where
    go : (b : Bool) → has_bit row p ≡ b → IsTrue b ⊎ (¬ IsTrue b)
    go true e = inl refl
    go false e = inr (λ h. absurd (cc h))

-- the links from x to nodes before `after` are taken
pub record IsVisiting {W : ℕ} (n : SplitNetState) (from : Table) (began t : Tree W) (x after : ℕ) : Type 0 where
  pub grown : IsGrown n from t
  pub more : IsMore began t
  pub clean : IsClean n t
  pub done : (q : ℕ) → q < after → Linked n.graph x q → HasBit t.seen q

-- a link to w was taken to a node, which is a target, or the search goes on
pub record IsLinkTaken {W : ℕ} (n : SplitNetState) (from : Table) (began u : Tree W) (new : List ℕ) (x w node : ℕ)
    : Type 0 where
  pub grown : IsGrownBy n from u.order.items u.parents.items u.ways.items u.reached new
  pub more : IsMore began (record u { seen = new })
  pub ended : Has n.targets node → Has n.targets (get_or u.order.items (length u.order.items - 1) 0)
  pub goes : ¬ Has n.targets node → IsVisiting n from began (record u { seen = new }) x (w + 1)

pub visiting_first : {W : ℕ} (n : SplitNetState) (from : Table) (t : Tree W) (x : ℕ) → IsGrown n from t → IsClean n t
    → IsVisiting n from t t x 0
visiting_first n from t x g clean = record {
  grown = g;
  more = more_refl t;
  clean = clean;
  done = λ q l. absurd (omega arith);
}

module _ {W : ℕ} (n : SplitNetState) (wide : ℕ) (placed : IsPlaced n wide) (from : List (Option ℕ))
    (table : IsTable wide from) (began t : Tree W) (at after w node x : ℕ) (read : x ≡ get_or began.order.items at x)
    (v : IsVisiting n (table_of from) began t x after) (lt : at < length began.order.items)
    (first : IsFirst (LinksOutside n x t.seen) after w) where
  links_there : Linked n.graph (get_or t.order.items at 0) w
  links_there =
      subst (λ (y : ℕ). Linked n.graph y w) (get_or_read began.order.items at x lt read 0 ∙ sym (v.more.order.1 at lt))
      first.holds.0

  pub link_below : w < wide
  link_below = (placed.nodes w).0 (linked_node n.graph (get_or t.order.items at 0) w placed.net.graph links_there)

  at_below : at < length t.order.items
  at_below = let l = v.more.order.0 in omega (arith, l, lt)

  module _ (tip : node ≡ tip_of (table_of from) w) where
    node_below : node < wide
    node_below = let l = tip_below wide from w table link_below in omega (arith, tip, l)

    node_there : Has n.graph.nodes node
    node_there = (placed.nodes node).1 node_below

    link_step : IsStepBy n (table_of from) (get_or t.order.items at 0) node (Some w)
    link_step = (
      (links_there, λ h. first.holds.1 (v.grown.off w h)),
      (λ s. first.holds.1 (subst (HasBit t.seen) (sym s) v.grown.source)),
      sym tip,
    )

    pub link_room : HasTreeRoom wide t → ¬ HasBit t.reached node → HasNodeRoom t
    link_room room off = node_room n wide (table_of from) t node placed v.grown room node_there off

    -- the node is reached, and the bit of the link is set
    module _ (u : Tree W) (new : List ℕ)
        (reach : (m : SplitNetState) (f : Table) → IsGrown m f t → Has m.graph.nodes node
        → IsStepBy m f (get_or t.order.items at 0) node (Some w) → IsReachedBy m f t u node) (more : IsMore t u)
        (only : (x : ℕ) → Has u.order.items x → ¬ Has t.order.items x → x ≡ node) (same : u.seen ≡ t.seen)
        (put : (q : ℕ) → HasBit new q ↔ ((q ≡ w) ⊎ HasBit u.seen q)) where
      reached : IsReachedBy n (table_of from) t u node
      reached = reach n (table_of from) v.grown node_there link_step

      link_grown : IsGrownBy n (table_of from) u.order.items u.parents.items u.ways.items u.reached new
      link_grown =
          grown_seen n (table_of from) u.order.items u.parents.items u.ways.items u.reached u.seen
          (get_or t.order.items at 0) w new reached.0
          (extends_has t.order.items u.order.items (get_or t.order.items at 0) more.order
          (has_place t.order.items at 0 at_below)) link_step.0 (subst (Has u.order.items) tip reached.1) put

      link_more : IsMore began (record u { seen = new })
      link_more = more_trans began t (record u { seen = new }) v.more (record {
        order = more.order;
        seen = λ q h. (put q).1 (inr (more.seen q h));
      })

      visiting_more : ¬ Has n.targets node → IsVisiting n (table_of from) began (record u { seen = new }) x (w + 1)
      visiting_more off = record {
        grown = link_grown;
        more = link_more;
        clean = clean_more n t.order.items u.order.items node v.clean only off;
        done = λ q l k.
            let stays : HasBit t.seen q → HasBit new q =
            λ h. (put q).1 (inr (subst (λ (s : List ℕ). HasBit s q) (sym same) h)) in
            elim (cases_eq q w) [
              | inl e ↦ (put q).1 (inl e)
              | inr ne ↦ elim (cases_lt q after) [
                | inl m ↦ stays (v.done q m k)
                | inr m ↦ elim (bit_or_not t.seen q) [
                  | inl h ↦ stays h
                  | inr out ↦ absurd (first.first q m (omega (arith, l, ne)) (k, out))
                ]
              ]
            ];
      }

      pub link_taken : IsLinkTaken n (table_of from) began u new x w node
      link_taken = record {
        grown = link_grown;
        more = link_more;
        ended = λ h. subst (Has n.targets) (sym (reached.2 (λ k. v.clean node k h))) h;
        goes = visiting_more;
      }

-- no link is left
pub visiting_all : {W : ℕ} (n : SplitNetState) (from : Table) (began t : Tree W) (at x after : ℕ)
    → at < length began.order.items → x ≡ get_or began.order.items at x → IsVisiting n from began t x after
    → HoldsNoMore (LinksOutside n x t.seen) after → IsSweptAt n (get_or began.order.items at 0) t
visiting_all n from began t at x after lt read v none = record {
  clean = v.clean;
  links = λ w k.
      let l = subst (λ (y : ℕ). Linked n.graph y w) (sym (get_or_read began.order.items at x lt read 0)) k in
      elim (cases_lt w after) [
        | inl m ↦ v.done w m l
        | inr m ↦ elim (bit_or_not t.seen w) [ inl h ↦ h | inr out ↦ absurd (none w m (l, out)) ]
      ];
}
