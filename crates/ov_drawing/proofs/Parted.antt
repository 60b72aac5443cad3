-- In the drawing of a valid certificate no link leads from the near side to a survivor outside it.
use Rattle.std.proofs.Common.{◌≡◌, ◌⊎◌, inl, inr, ℕ, Bool, true, false, List, [], ◌∷◌, if◌then◌else◌}
use Rattle.std.proofs.Common.{refl, sym, subst, ◌∙◌, eqb, eqb-true}
use Rattle.std.specs.List.{AllZip}
use Rattle.ov_ids.specs.Members.{Has}
use Rattle.ov_ids.specs.Sets.{has}
use Rattle.ov_ids.proofs.Members.{has_tested}
use Rattle.ov_graph.specs.Links.{LinkGraph, Linked}
use Rattle.ov_cert.specs.Valid.{IsCutOff, IsValidForGroup}
use Rattle.ov_cert.specs.declared.cert.Cert.{Cert}
use Rattle.ov_cert.specs.declared.cert.Cert.TheVariants as cert
use Rattle.ov_cert.specs.declared.cert.Split.{Split}
use Rattle.ov_drawing.specs.declared.node_and_link_classes.NodeClass.{NodeClass}
use Rattle.ov_drawing.specs.declared.node_and_link_classes.NodeClass.TheVariants as node
use Rattle.ov_drawing.specs.declared.node_and_link_classes.Band.{Band}
use Rattle.ov_drawing.specs.declared.node_and_link_classes.Band.TheVariants as band
use Rattle.ov_drawing.specs.declared.node_and_link_classes.LinkClass.TheVariants as link
use Rattle.ov_drawing.specs.declared.drawing.DrawnLink.{DrawnLink}
use Rattle.ov_drawing.specs.Classes.{class_of, band_of, link_class}
use Rattle.ov_drawing.specs.Drawn.{DrawsLink, DrawsLinks, NoneAcross}

across_cases : (a b : Band) → link_class a b ≡ link.Across
    → ((a ≡ band.Side) × (b ≡ band.Far)) ⊎ ((a ≡ band.Far) × (b ≡ band.Side))
across_cases band.Side band.Side e = absurd (cc e)
across_cases band.Side band.Cut e = absurd (cc e)
across_cases band.Side band.Far e = inl (refl, refl)
across_cases band.Side band.Whole e = absurd (cc e)
across_cases band.Cut band.Side e = absurd (cc e)
across_cases band.Cut band.Cut e = absurd (cc e)
across_cases band.Cut band.Far e = absurd (cc e)
across_cases band.Cut band.Whole e = absurd (cc e)
across_cases band.Far band.Side e = inr (refl, refl)
across_cases band.Far band.Cut e = absurd (cc e)
across_cases band.Far band.Far e = absurd (cc e)
across_cases band.Far band.Whole e = absurd (cc e)
across_cases band.Whole b e = absurd (cc e)

-- the class of a node by four tests: in the cut, near, far, on the side
abbrev by_tests : Bool → Bool → Bool → Bool → NodeClass
by_tests cut near far side =
    if cut then node.Cut else
    (if near then node.Near else (if far then node.Far else (if side then node.NearSide else node.FarSide)))

side_tests : (cut near far side : Bool) → band_of (by_tests cut near far side) ≡ band.Side
    → (near ≡ true) ⊎ (side ≡ true)
side_tests true near far side e = absurd (cc e)
side_tests false true far side e = inl refl
side_tests false false true side e = absurd (cc e)
side_tests false false false true e = inr refl
side_tests false false false false e = absurd (cc e)

far_tests : (cut near far side : Bool) → band_of (by_tests cut near far side) ≡ band.Far
    → (cut ≡ false) × ((far ≡ true) ⊎ (side ≡ false))
far_tests true near far side e = absurd (cc e)
far_tests false true far side e = absurd (cc e)
far_tests false false true side e = (refl, inl refl)
far_tests false false false true e = absurd (cc e)
far_tests false false false false e = (refl, inr refl)

module _ (g : LinkGraph) (q : List ℕ) (c : Split) (off : IsCutOff g q c) where
  on_side : (n : ℕ) → band_of (class_of (cert.Split c) n) ≡ band.Side → Has c.side n
  on_side n e = elim (side_tests (has c.cut n) (eqb c.near n) (eqb c.far n) (has c.side n) e) [
    | inl near ↦ subst (Has c.side) (eqb-true c.near n near) off.near_inside
    | inr side ↦ (has_tested c.side n (has c.side n) refl).0 side
  ]

  not_in : (xs : List ℕ) (n : ℕ) → has xs n ≡ false → ¬ Has xs n
  not_in xs n e h = absurd (cc (sym e ∙ (has_tested xs n (has xs n) refl).1 h))

  far_away : (n : ℕ) → band_of (class_of (cert.Split c) n) ≡ band.Far → (¬ Has c.side n) × (¬ Has c.cut n)
  far_away n e =
      let t = far_tests (has c.cut n) (eqb c.near n) (eqb c.far n) (has c.side n) e in (
        elim t.1 [
          | inl far ↦ subst (λ x. ¬ Has c.side x) (eqb-true c.far n far) off.far_outside
          | inr side ↦ not_in c.side n side
        ],
        not_in c.cut n t.0,
      )

  not_across : (a b : ℕ) → Linked g a b → band_of (class_of (cert.Split c) a) ≡ band.Side
      → ¬ (band_of (class_of (cert.Split c) b) ≡ band.Far)
  not_across a b linked e f = elim (off.closed a b (on_side a e) linked) [
    | inl side ↦ (far_away b f).0 side
    | inr cut ↦ (far_away b f).1 cut
  ]

link_up : (g : LinkGraph) (l : ℕ × ℕ) → Has g.links l → Linked g l.0 l.1
unfolding Linked
link_up g l h = inl h

link_down : (g : LinkGraph) (l : ℕ × ℕ) → Has g.links l → Linked g l.1 l.0
unfolding Linked
link_down g l h = inr h

-- what is drawn draws a link of the graph
drawn_of : (c : Cert) (ps : List (List ℕ)) (ls : List (ℕ × ℕ)) (ds : List DrawnLink) → AllZip (DrawsLink c ps) ls ds
    → (d : DrawnLink) → Has ds d → (l : ℕ × ℕ) × Has ls l × DrawsLink c ps l d
drawn_of c ps [] [] z d h = absurd h
drawn_of c ps [] (e ∷ ds) z d h = absurd z
drawn_of c ps (l ∷ ls) [] z d h = absurd h
drawn_of c ps (l ∷ ls) (e ∷ ds) z d h = elim h [
  | inl s ↦ (l, inl refl, subst (DrawsLink c ps l) s z.0)
  | inr k ↦ let r = drawn_of c ps ls ds z.1 d k in (r.0, inr r.1, r.2)
]

pub none_across : (g : LinkGraph) (q : List ℕ) (c : Cert) (ps : List (List ℕ)) (ds : List DrawnLink)
    → DrawsLinks g c ps ds → IsValidForGroup g q c → NoneAcross ds
none_across g q (cert.Linked k) ps ds draws valid d h across =
    let r = drawn_of (cert.Linked k) ps g.links ds draws d h in absurd (cc (sym r.2.class ∙ across))
none_across g q (cert.Split c) ps ds draws valid d h across =
    let r = drawn_of (cert.Split c) ps g.links ds draws d h in
    let l = r.0 in
    let off = valid.1.side in
    elim (across_cases (band_of (class_of (cert.Split c) l.0)) (band_of (class_of (cert.Split c) l.1))
    (sym r.2.class ∙ across)) [
      | inl e ↦ not_across g q c off l.0 l.1 (link_up g l r.1) e.0 e.1
      | inr e ↦ not_across g q c off l.1 l.0 (link_down g l r.1) e.1 e.0
    ]
