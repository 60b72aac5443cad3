-- The walk that a search found, and the change of the table by its steps.
use Rattle.std.proofs.Common.{◌≡◌, ◌≢◌, ◌∙◌, ℕ, ◌+◌, ◌<◌, ◌≤◌, inl, inr, List, [], ◌∷◌, ◌++◌, length, get_or, set}
use Rattle.std.proofs.Common.{drop, take}
use Rattle.std.proofs.Common.{reverse, zero, suc, Option, Some, None, refl, sym, ap, subst, arith, unwrap_or}
use Rattle.std.proofs.lemmas.Bool.{cases_lt}
use Rattle.std.proofs.lemmas.List.{get_or-set_same, get_or-set_other, get_or_read, reverse-append, drop_more}
use Rattle.std.proofs.Math.ListN.{get_or-eq_default}
use Rattle.ov_ids.specs.Members.{Has, IsDistinct}
use Rattle.ov_ids.proofs.Members.{has_place, place_in_take}
use Rattle.ov_graph.proofs.EvenTest.Filtered.{linked_node}
use Rattle.ov_split.specs.SplitNetState.{SplitNetState}
use Rattle.ov_split.specs.Code.Residual.{Table, AreHeld}
use Rattle.ov_split.specs.Placed.{IsPlaced}
use Rattle.ov_split.proofs.Augmenting.Move.{push_held, back_held}
use Rattle.ov_flow.specs.declared.walk_augmentation.Hop.{Hop}
use Rattle.ov_flow.specs.declared.search_tree.Tree.{Tree}
use Rattle.ov_flow.specs.Code.Reached.{IsWay, IsStepBy, IsTree, IsShaped, IsGrown}
use Rattle.ov_flow.specs.Code.Walked.{table_of, nodes_of, Goes, IsWalkBy}

pub shaped_of : (n : SplitNetState) (from : Table) (order parents : List ℕ) (ways : List (Option ℕ))
    → IsTree n from order parents ways → IsShaped order parents ways
shaped_of n from order parents ways t =
    record { some = t.some; count = t.count; long = t.long; parent = t.parent }

places_differ : (xs : List ℕ) (i j : ℕ) → IsDistinct xs → i < j → j < length xs → get_or xs i 0 ≢ get_or xs j 0
places_differ [] i j d l m e = absurd (omega arith)
places_differ (x ∷ xs) i zero d l m e = absurd (omega arith)
places_differ (x ∷ xs) zero (suc j) d l m e = d.0 (subst (Has xs) (sym e) (has_place xs j 0 (omega arith)))
places_differ (x ∷ xs) (suc i) (suc j) d l m e = places_differ xs i j d.1 (omega arith) (omega arith) e

-- in a list without repetition no member stands before its place
pub not_before : (xs : List ℕ) (i : ℕ) → IsDistinct xs → i < length xs → ¬ Has (take i xs) (get_or xs i 0)
not_before xs i d l h = let p = place_in_take xs i (get_or xs i 0) h in places_differ xs p.0 i d p.1 l p.3

-- the walk from the node at `place` to the one at `end`: each of its nodes stands after `place`
pub record IsBranchBy (n : SplitNetState) (from : Table) (order : List ℕ) (place end : ℕ) (hops : List Hop) : Type 0
  where
    pub goes : Goes n from (get_or order place 0) hops (get_or order end 0)
    pub later : (x : ℕ) → Has (nodes_of hops) x → (k : ℕ) × (place < k) × (k < length order) × (get_or order k 0 ≡ x)
    pub distinct : IsDistinct (nodes_of hops)

-- the same for each net and table by which the tree has grown
abbrev pub IsBranchOf : {W : ℕ} → Tree W → ℕ → ℕ → List Hop → Type 0
IsBranchOf t place end hops = (n : SplitNetState) (from : Table) → IsGrown n from t
    → IsBranchBy n from t.order.items place end hops

pub branch_none : {W : ℕ} (t : Tree W) (end : ℕ) → IsBranchOf t end end []
branch_none t end n from g = record { goes = refl; later = λ x h. absurd h; distinct = tt }

branch_more : (n : SplitNetState) (from : Table) (order parents : List ℕ) (ways : List (Option ℕ)) (place end : ℕ)
    (hops : List Hop) → IsTree n from order parents ways → 0 < place → place < length order
    → IsBranchBy n from order place end hops → IsBranchBy n from order (get_or parents place 0) end
    (record { node = get_or order place 0; way = get_or ways place None } ∷ hops)
branch_more n from order parents ways place end hops t pos within b =
    let p = t.parent place pos within in
    record {
      goes = (t.step place pos within, b.goes);
      later = λ x h. elim h [
        | inl s ↦ (place, p, within, s)
        | inr k ↦ let q = b.later x k in (q.0, let l = q.1 in omega (arith, p, l), q.2, q.3)
      ];
      distinct = (
        (λ h.
            let q = b.later (get_or order place 0) h in
            places_differ order place q.0 t.distinct q.1 q.2 (sym q.3)),
        b.distinct,
      );
    }

abbrev hop_of : ℕ → Option ℕ → Hop
hop_of x way = record { node = x; way = way }

pub branch_step : {W : ℕ} (t : Tree W) (place end : ℕ) (hops new : List Hop) (x : ℕ) (way : Option ℕ) (p : ℕ)
    → 0 < place
    → place < length t.order.items → IsBranchOf t place end (reverse hops)
    → new ≡ hops ++ record { node = x; way = way } ∷ [] → x ≡ get_or t.order.items place x
    → way ≡ get_or t.ways.items place way → p ≡ get_or t.parents.items place p → IsBranchOf t p end (reverse new)
branch_step t place end hops new x way p pos within b is at at2 at3 n from g =
    let order = t.order.items in
    let parents = t.parents.items in
    let ways = t.ways.items in
    let a = get_or_read ways place way (omega (arith, g.is_tree.long, within)) at2 None in
    let m = branch_more n from order parents ways place end (reverse hops) g.is_tree pos within (b n from g) in
    let e = get_or_read order place x within at 0 in
    let f = get_or_read parents place p (omega (arith, g.is_tree.count, within)) at3 0 in
    subst (λ (q : ℕ). IsBranchBy n from order q end (reverse new)) (sym f)
    (subst (λ (hs : List Hop). IsBranchBy n from order (get_or parents place 0) end hs)
    (sym (ap reverse is ∙ reverse-append hops (hop_of x way ∷ [])))
    (subst (λ (y : ℕ). IsBranchBy n from order (get_or parents place 0) end (hop_of y way ∷ reverse hops)) (sym e)
    (subst (λ (o : Option ℕ). IsBranchBy n from order (get_or parents place 0) end
    (hop_of (get_or order place 0) o ∷ reverse hops)) (sym a) m)))

pub branch_all : {W : ℕ} (t : Tree W) (place end : ℕ) (hops new : List Hop) → place ≤ 0
    → IsBranchOf t place end hops → new ≡ hops
    → (n : SplitNetState) (from : Table) → IsGrown n from t → IsWalkBy n from new (get_or t.order.items end 0)
branch_all t place end hops new le b is n from g =
    let order = t.order.items in
    let z : place ≡ 0 = omega arith in
    let c = subst (λ (q : ℕ). IsBranchBy n from order q end hops) z (b n from g) in
    subst (λ (w : List Hop). IsWalkBy n from w (get_or order end 0)) (sym is) (record {
      goes = subst (λ (a : ℕ). Goes n from a hops (get_or order end 0)) g.is_tree.root c.goes;
      distinct = (
        (λ h.
            let q = c.later n.source h in
            places_differ order 0 q.0 g.is_tree.distinct q.1 q.2 (g.is_tree.root ∙ sym q.3)),
        c.distinct,
      );
    })

-- a step to y changes the table at z alone. Each step that leads elsewhere stays
stays : (n : SplitNetState) (from next : Table) (z y a b : ℕ) (way : Option ℕ) → unwrap_or (from z) z ≡ y
    → ((v : ℕ) → v ≢ z → next v ≡ from v) → b ≢ y → IsStepBy n from a b way → IsStepBy n next a b way
stays n from next z y a b (Some w) tip others ne s = (
  s.0,
  s.1,
  subst (λ (o : Option ℕ). unwrap_or o w ≡ b)
      (sym (others w (λ e. ne (sym s.2 ∙ ap (λ (v : ℕ). unwrap_or (from v) v) e ∙ tip)))) s.2,
)
stays n from next z y a b None tip others ne s =
    others a (λ e. ne (subst (λ (o : Option ℕ). unwrap_or o z ≡ y) (ap from (sym e) ∙ s) tip)) ∙ s

goes_stays : (n : SplitNetState) (from next : Table) (y a t : ℕ) (hops : List Hop)
    → ((b c : ℕ) (way : Option ℕ) → c ≢ y → IsStepBy n from b c way → IsStepBy n next b c way)
    → ¬ Has (nodes_of hops) y → Goes n from a hops t → Goes n next a hops t
goes_stays n from next y a t [] f off g = g
goes_stays n from next y a t (h ∷ hs) f off g = (
  f a h.node h.way (λ e. off (inl e)) g.0,
  goes_stays n from next y h.node t hs f (λ k. off (inr k)) g.1,
)

-- a walk taken as far as x: x is the open end, and the rest leads on to t
pub record IsGoing (n : SplitNetState) (start from : Table) (x : ℕ) (rest : List Hop) (t : ℕ) : Type 0 where
  pub goes : Goes n from x rest t
  pub held : (ends : List ℕ) → AreHeld n start (n.source ∷ ends) → AreHeld n from (x ∷ ends)
  pub distinct : IsDistinct (x ∷ nodes_of rest)
  pub off : ¬ Has (nodes_of rest) n.source

pub going_first : (n : SplitNetState) (from : Table) (hops : List Hop) (t s : ℕ) → s ≡ n.source → IsWalkBy n from hops t
    → IsGoing n from from s hops t
going_first n from hops t s is w =
    subst (λ (a : ℕ). IsGoing n from from a hops t) (sym is)
    (record { goes = w.goes; held = λ ends h. h; distinct = w.distinct; off = w.distinct.0 })

pub going_push : (n : SplitNetState) (start from next : Table) (x t w : ℕ) (hop : Hop) (rest : List Hop)
    → IsGoing n start from x (hop ∷ rest) t → hop.way ≡ Some w → next w ≡ Some x
    → ((v : ℕ) → v ≢ w → next v ≡ from v) → IsGoing n start next hop.node rest t
going_push n start from next x t w hop rest g is there others =
    let s : IsStepBy n from x hop.node (Some w) = subst (IsStepBy n from x hop.node) is g.goes.0 in
    let ys : hop.node ≢ n.source = λ e. g.off (inl e) in
    let xy : x ≢ hop.node = λ e. g.distinct.0 (inl (sym e)) in
    record {
      goes = goes_stays n from next hop.node hop.node t rest
          (λ a b way ne q. stays n from next w hop.node a b way s.2 others ne q) g.distinct.1.0 g.goes.1;
      held = λ ends h. push_held n from next x w hop.node ends (g.held ends h) s.0 s.1 ys xy s.2 there others;
      distinct = g.distinct.1;
      off = λ h. g.off (inr h);
    }

pub going_back : (n : SplitNetState) (start from next : Table) (x t : ℕ) (hop : Hop) (rest : List Hop)
    → IsGoing n start from x (hop ∷ rest) t → hop.way ≡ None → next x ≡ None → ((v : ℕ) → v ≢ x → next v ≡ from v)
    → IsGoing n start next hop.node rest t
going_back n start from next x t hop rest g is there others =
    let s : from x ≡ Some hop.node = subst (IsStepBy n from x hop.node) is g.goes.0 in
    let ys : hop.node ≢ n.source = λ e. g.off (inl e) in
    let xy : x ≢ hop.node = λ e. g.distinct.0 (inl (sym e)) in
    record {
      goes = goes_stays n from next hop.node hop.node t rest
          (λ a b way ne q. stays n from next x hop.node a b way (ap (λ (o : Option ℕ). unwrap_or o x) s) others ne q)
          g.distinct.1.0 g.goes.1;
      held = λ ends h. back_held n from next x hop.node ends (g.held ends h) ys xy s there others;
      distinct = g.distinct.1;
      off = λ h. g.off (inr h);
    }

-- a write into the table
pub write_there : (from : List (Option ℕ)) (w : ℕ) (o : Option ℕ) → w < length from → table_of (set from w o) w ≡ o
write_there from w o l = get_or-set_same from w o None l

pub write_others : (from : List (Option ℕ)) (w : ℕ) (o : Option ℕ) (v : ℕ) → v ≢ w
    → table_of (set from w o) v ≡ table_of from v
write_others from w o v ne = get_or-set_other from w v o None ne

-- a place that the table has on a path
pub said_below : (from : List (Option ℕ)) (v u : ℕ) → table_of from v ≡ Some u → v < length from
said_below from v u f = elim (cases_lt v (length from)) [
  | inl l ↦ l
  | inr ge ↦ let e = get_or-eq_default from None {n = v} ge in absurd (cc (e, f))
]

-- the next step of a walk
abbrev pub hop_at : List Hop → ℕ → Hop
hop_at hops i = get_or hops i (record { node = 0; way = None })

pub going_next : (n : SplitNetState) (start from : Table) (x t i : ℕ) (hops : List Hop) → i < length hops
    → IsGoing n start from x (drop i hops) t → IsGoing n start from x (hop_at hops i ∷ drop (i + 1) hops) t
going_next n start from x t i hops l g =
    subst (λ (hs : List Hop). IsGoing n start from x hs t) (drop_more hops i (record { node = 0; way = None }) l) g

pub back_said : (n : SplitNetState) (start from : Table) (x t : ℕ) (hop : Hop) (rest : List Hop)
    → IsGoing n start from x (hop ∷ rest) t → hop.way ≡ None → from x ≡ Some hop.node
back_said n start from x t hop rest g is = subst (IsStepBy n from x hop.node) is g.goes.0

pub way_said : (n : SplitNetState) (wide : ℕ) (start from : Table) (x t w : ℕ) (hop : Hop) (rest : List Hop)
    → IsPlaced n wide
    → IsGoing n start from x (hop ∷ rest) t → hop.way ≡ Some w → w < wide
way_said n wide start from x t w hop rest placed g is =
    let s : IsWay n from x hop.node w = subst (IsStepBy n from x hop.node) is g.goes.0 in
    (placed.nodes w).0 (linked_node n.graph x w placed.net.graph s.0.0)
