-- The cuts of a piece are those of its net.
use Rattle.std.proofs.Common.{◌≢◌, ◌↔◌, ℕ, inl, inr, List, [], ◌∷◌, refl, sym, subst, arith}
use Rattle.std.proofs.lemmas.Bool.{cases_eq}
use Rattle.ov_ids.specs.Members.{Has}
use Rattle.ov_graph.specs.Links.{LinkGraph, IsGraph, Linked, AreNeighbours, IsGroup}
use Rattle.ov_graph.specs.Joined.{Leads, Survives, Joined}
use Rattle.ov_graph.specs.Code.Tests.{neighbours_in}
use Rattle.ov_graph.proofs.EvenTest.Filtered.{are_neighbours}
use Rattle.ov_graph.proofs.EvenTest.Walks.{AllSurvive, linked_sym, steps_of, joined_self, joined_step, joined_trans}
use Rattle.ov_graph.proofs.EvenTest.Walks.{joined_end}
use Rattle.ov_split.specs.SplitNetState.{IsReached, IsCutOf, IsLeastCut, IsNearestCut, IsSideOf}
use Rattle.ov_fans.specs.Pieces.{member_at, source_of, IsPiece}
use Rattle.ov_fans.specs.Cuts.{IsCut, IsLeast, IsNearest, IsSide}
use Rattle.ov_fans.specs.Code.Nets.{net_of}
use Rattle.ov_fans.specs.declared.piece.Piece.{Piece}
use Rattle.ov_fans.specs.declared.piece.Piece.TheVariants.{Pair, Fan}
use Rattle.ov_fans.proofs.PieceNets.Routes.{member_node, pair_differ}

-- what is joined after more crashes is joined after fewer
joined_less : (g : LinkGraph) (b : ℕ) (s : List ℕ) (a x : ℕ) → Joined g (b ∷ s) a x → Joined g s a x
joined_less g b s a x j = (j.0, j.1, λ y h. let m = j.2 y h in (m.0, λ k. m.1 (inr k)))

survives_off : (g : LinkGraph) (b : ℕ) (s : List ℕ) (x : ℕ) → x ≢ b → Survives g.nodes s x → Survives g.nodes (b ∷ s) x
survives_off g b s x ne m = (m.0, λ h. elim h [ inl e ↦ ne (sym e) | inr k ↦ m.1 k ])

-- a walk to b reaches it by a last link
last_link : (g : LinkGraph) (s : List ℕ) (a b : ℕ) → a ≢ b → Joined g s a b
    → (t : ℕ) × Linked g t b × Joined g (b ∷ s) a t
last_link g s a b ne j = let w = steps_of g s a b j in go a w.steps ne w.leads w.start w.stay
  where
    go : (x : ℕ) (xs : List ℕ) → x ≢ b → Leads (Linked g) x xs b → Survives g.nodes s x → AllSurvive g s xs
        → (t : ℕ) × Linked g t b × Joined g (b ∷ s) x t
    go x [] ne l n stay = absurd (ne l)
    go x (y ∷ ys) ne l n stay =
        let m = survives_off g b s x ne n in
        elim (cases_eq y b) [
          | inl e ↦ (x, subst (Linked g x) e l.0, joined_self g (b ∷ s) x m)
          | inr ny ↦
              let r = go y ys ny l.1 (stay y (inl refl)) (λ z h. stay z (inr h)) in
              (r.0, r.1, joined_step g (b ∷ s) x y r.0 l.0 m r.2)
        ]

-- where a is not joined to b, what is joined to a is so without b
joined_off : (g : LinkGraph) (s : List ℕ) (a b x : ℕ) → ¬ Joined g s a b → Joined g s a x → Joined g (b ∷ s) a x
joined_off g s a b x cut j =
    let w = steps_of g s a x j in go a w.steps (joined_self g s a w.start) w.leads w.stay
  where
    off : (y : ℕ) → Joined g s a y → Survives g.nodes (b ∷ s) y
    off y k = survives_off g b s y (λ e. cut (subst (Joined g s a) e k)) (joined_end g s a y k)

    go : (y : ℕ) (ys : List ℕ) → Joined g s a y → Leads (Linked g) y ys x → AllSurvive g s ys → Joined g (b ∷ s) y x
    go y [] k l stay = subst (Joined g (b ∷ s) y) l (joined_self g (b ∷ s) y (off y k))
    go y (z ∷ zs) k l stay =
        let n = stay z (inl refl) in
        let next = joined_trans g s a y z k (joined_step g s y z z l.0 (joined_end g s a y k) (joined_self g s z n)) in
        joined_step g (b ∷ s) y z x l.0 (off y k) (go z zs next l.1 (λ v h. stay v (inr h)))

-- the cuts of the net are those of the piece
pub cut_of : (g : LinkGraph) (q : List ℕ) (p : Piece) → IsGraph g → IsGroup g q → IsPiece g q p → (s : List ℕ)
    → IsCutOf (net_of g q p) s ↔ IsCut g q p s
cut_of g q (Pair level i j) graph group at s =
    let a = member_at q i in
    let b = member_at q j in
    let l = at.first in
    let m = at.less in
    let n = at.member in
    let near : AreNeighbours g b (neighbours_in g.links b g.nodes) = are_neighbours g b graph in
    let there : Has g.nodes b = member_node g q j group (omega (arith, l, m)) n in (
      (λ c. record {
        set = c.set;
        leaves = λ x h k. elim h [
          | inl e ↦ c.source (subst (Has s) (sym e) k)
          | inr r ↦ c.off x k r
        ];
        parts = λ t e w.
            let r = last_link g s a b (pair_differ g q level i j group at) (subst (Joined g s a) e w) in
            c.parts r.0 ((near.each r.0).1 (linked_sym g r.0 b r.1)) r.2;
      }),
      (λ c. record {
        set = c.set;
        source = c.leaves a (inl refl);
        off = λ x h k. c.leaves x (inr k) h;
        parts = λ t h w.
            let j = joined_less g b s a t w in
            c.parts b refl (joined_trans g s a t b j
            (joined_step g s t b b (linked_sym g b t ((near.each t).0 h)) (joined_end g s a t j)
            (joined_self g s b (there, c.leaves b (inr (inl refl))))));
      }),
    )
cut_of g q (Fan level j) graph group at s = (
  (λ c. record {
    set = c.set;
    leaves = λ x h k. elim h [ inl e ↦ c.source (subst (Has s) (sym e) k) | inr r ↦ r ];
    parts = c.parts;
  }),
  (λ c. record {
    set = c.set;
    source = c.leaves (member_at q j) (inl refl);
    off = λ x h k. k;
    parts = c.parts;
  }),
)

-- and so are the least ones
pub least_of : (g : LinkGraph) (q : List ℕ) (p : Piece) → IsGraph g → IsGroup g q → IsPiece g q p → (s : List ℕ)
    → IsLeastCut (net_of g q p) s ↔ IsLeast g q p s
least_of g q p graph group at s = (
  (λ m. record {
    cut = (cut_of g q p graph group at s).0 m.cut;
    least = λ t c. m.least t ((cut_of g q p graph group at t).1 c);
  }),
  (λ m. record {
    cut = (cut_of g q p graph group at s).1 m.cut;
    least = λ t c. m.least t ((cut_of g q p graph group at t).0 c);
  }),
)

-- without a cut of the piece, what is reached in the net is what is joined to the source
reached_of : (g : LinkGraph) (q : List ℕ) (p : Piece) (s : List ℕ) → IsCut g q p s → (x : ℕ)
    → IsReached (net_of g q p) s x ↔ Joined g s (source_of q p) x
reached_of g q (Pair level i j) s cut x = (
  (λ h. joined_less g (member_at q j) s (member_at q i) x h),
  (λ h. joined_off g s (member_at q i) (member_at q j) x (cut.parts (member_at q j) refl) h),
)
reached_of g q (Fan level j) s cut x = ((λ h. h), (λ h. h))

-- and so are the nearest ones
pub nearest_of : (g : LinkGraph) (q : List ℕ) (p : Piece) → IsGraph g → IsGroup g q → IsPiece g q p → (s : List ℕ)
    → IsNearestCut (net_of g q p) s ↔ IsNearest g q p s
nearest_of g q p graph group at s = (
  (λ m.
      let cut = (cut_of g q p graph group at s).0 m.least.cut in
      record {
        least = (least_of g q p graph group at s).0 m.least;
        nearest = λ t c x j.
            (reached_of g q p t c.cut x).0
            (m.nearest t ((least_of g q p graph group at t).1 c) x ((reached_of g q p s cut x).1 j));
      }),
  (λ m. record {
    least = (least_of g q p graph group at s).1 m.least;
    nearest = λ t c x j.
        let d = (least_of g q p graph group at t).0 c in
        (reached_of g q p t d.cut x).1 (m.nearest t d x ((reached_of g q p s m.least.cut x).0 j));
  }),
)

-- the side of a cut in the net is what is joined to the source without it
pub side_of : (g : LinkGraph) (q : List ℕ) (p : Piece) (s side : List ℕ) → IsCut g q p s
    → IsSideOf (net_of g q p) s side → IsSide g s (source_of q p) side
side_of g q (Pair level i j) s side cut h = record {
  set = h.set;
  each = λ x.
      let r = reached_of g q (Pair level i j) s cut x in
      ((λ k. r.0 ((h.each x).0 k)), (λ k. (h.each x).1 (r.1 k)));
}
side_of g q (Fan level j) s side cut h = record { set = h.set; each = h.each }
