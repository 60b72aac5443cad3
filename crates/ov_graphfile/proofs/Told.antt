-- The names that the lines of a file give nodes, in the order of the lines, are the names of its graph.
use Rattle.std.proofs.Common.{◌≡◌, ◌∙◌, ◌⊎◌, ◌<◌, ℕ, zero, suc, Bool, true, false, nat_eq, if◌then◌else◌, List, [], ◌∷◌}
use Rattle.std.proofs.Common.{◌++◌, length, map, take, get_or, Option, Some, None, inl, inr, refl, sym, ap, ap₂, subst}
use Rattle.std.proofs.Common.{◌≤◌, arith, eqb-true, length-append}
use Rattle.std.specs.Str.Lines.{lines}
use Rattle.std.proofs.lemmas.Bool.{eq-eqb}
use Rattle.std.proofs.lemmas.List.{length-map, take_all}
use Rattle.ov_graph.specs.Links.{LinkGraph, IsWithinLimit, most_of}
use Rattle.ov_graph.specs.declared.size_limit.SizeLimit.{SizeLimit}
use Rattle.ov_graph.specs.declared.size_limit.SizeLimit.TheVariants.{Usual, Large}
use Rattle.ov_graphfile.specs.GraphFiles.{graph_line, graph_lines, node_said, nodes_said}
use Rattle.ov_graphfile.specs.NamesState.{names_of}
use Rattle.ov_graphfile.specs.NameLines.{comment_said, AreNaming, AreNamesOf}
use Rattle.ov_graphfile.specs.Code.Told.{name_by, name_for, names_in}
use Rattle.ov_graphfile.specs.declared.graph_line.GraphLine.{GraphLine}
use Rattle.ov_graphfile.specs.declared.graph_line.GraphLine.TheVariants.{Node, Link}
use Rattle.ov_graphfile.proofs.Sole.{all_nodes, nodes_in}
use Rattle.ov_graphfile.proofs.Tables.{some_one}

-- ---- one line

-- a line says one node, or none
said_cases : (o : Option GraphLine) → (node_said o ≡ []) ⊎ ((n : ℕ) × (node_said o ≡ n ∷ []))
said_cases None = inl refl
said_cases (Some (Node n)) = inr (n, refl)
said_cases (Some (Link a b)) = inl refl

-- a name is given exactly if this is said
name_said : (n : ℕ) (name : List ℕ) (o : Option (ℕ × List ℕ)) → name_for n o ≡ Some name → o ≡ Some (n, name)
name_said n name None e = absurd (cc)
name_said n name (Some said) e = by (nat_eq said.0 n) refl where
  by : (b : Bool) → nat_eq said.0 n ≡ b → Some said ≡ Some (n, name)
  by true t =
      let same : Some said.1 ≡ Some name = sym (ap (λ (b : Bool). if b then Some said.1 else None) t) ∙ e in
      ap₂ (λ (m : ℕ) (s : List ℕ). Some (m, s)) (eqb-true said.0 n t) (some_one said.1 name same)
  by false t =
      let none : None ≡ Some name = sym (ap (λ (b : Bool). if b then Some said.1 else None) t) ∙ e in
      absurd (cc)

name_found : (n : ℕ) (name : List ℕ) (o : Option (ℕ × List ℕ)) → o ≡ Some (n, name) → name_for n o ≡ Some name
name_found n name o e = ap (name_for n) e ∙ ap (λ (b : Bool). if b then Some name else None) (eq-eqb n n refl)

-- ---- all lines

-- there are as many names as nodes
as_many : (before : List ℕ) (ls : List (List ℕ)) → length (names_in before ls) ≡ length (nodes_in ls)
as_many before [] = refl
as_many before (line ∷ more) =
    let own : List ℕ = node_said (graph_line line) in
    omega (
      arith,
      length-append (map (name_by before) own) (names_in line more),
      length-map own (name_by before),
      length-append own (nodes_in more),
      as_many line more,
    )

-- the name at a place, if the first line says the node m
at_one : (before line : List ℕ) (more : List (List ℕ)) (m p n : ℕ) (name : List ℕ)
    → node_said (graph_line line) ≡ m ∷ [] → p < length (m ∷ nodes_in more) → get_or (m ∷ nodes_in more) p 0 ≡ n
    → get_or (name_by before m ∷ names_in line more) p None ≡ Some name
    → ((q : ℕ) → q < length (nodes_in more) → get_or (nodes_in more) q 0 ≡ n
    → get_or (names_in line more) q None ≡ Some name → AreNaming line more n name)
    → AreNaming before (line ∷ more) n name
at_one before line more m zero n name one below node told later =
    inl (
      name_said n name (comment_said before) (subst (λ (k : ℕ). name_by before k ≡ Some name) node told),
      one ∙ ap (λ (k : ℕ). k ∷ []) node,
    )
at_one before line more m (suc q) n name one below node told later =
    inr (later q (omega (arith, below)) node told)

-- the name at the place of a node is one that the lines give it
names_said : (before : List ℕ) (ls : List (List ℕ)) (p n : ℕ) (name : List ℕ) → p < length (nodes_in ls)
    → get_or (nodes_in ls) p 0 ≡ n → get_or (names_in before ls) p None ≡ Some name → AreNaming before ls n name
names_said before [] p n name below node told = absurd (omega (arith, below))
names_said before (line ∷ more) p n name below node told = elim (said_cases (graph_line line)) [
  | inl none ↦ inr (names_said line more p n name
      (subst (λ (own : List ℕ). p < length (own ++ nodes_in more)) none below)
      (subst (λ (own : List ℕ). get_or (own ++ nodes_in more) p 0 ≡ n) none node)
      (subst (λ (own : List ℕ). get_or (map (name_by before) own ++ names_in line more) p None ≡ Some name) none told))
  | inr one ↦ at_one before line more one.0 p n name one.1
      (subst (λ (own : List ℕ). p < length (own ++ nodes_in more)) one.1 below)
      (subst (λ (own : List ℕ). get_or (own ++ nodes_in more) p 0 ≡ n) one.1 node)
      (subst (λ (own : List ℕ). get_or (map (name_by before) own ++ names_in line more) p None ≡ Some name) one.1
      told)
      (λ q l a t. names_said line more q n name l a t)
]

-- a node that the lines name has its place, and this name there
naming_place : (before : List ℕ) (ls : List (List ℕ)) (n : ℕ) (name : List ℕ) → AreNaming before ls n name
    → (p : ℕ) × (p < length (nodes_in ls)) × (get_or (nodes_in ls) p 0 ≡ n)
    × (get_or (names_in before ls) p None ≡ Some name)
naming_place before [] n name h = absurd h
naming_place before (line ∷ more) n name (inl is) = (
  0,
  subst (λ (own : List ℕ). 0 < length (own ++ nodes_in more)) (sym is.1) (omega arith),
  ap (λ (own : List ℕ). get_or (own ++ nodes_in more) 0 0) is.1,
  ap (λ (own : List ℕ). get_or (map (name_by before) own ++ names_in line more) 0 None) is.1
      ∙ name_found n name (comment_said before) is.0,
)
naming_place before (line ∷ more) n name (inr later) =
    let r = naming_place line more n name later in
    elim (said_cases (graph_line line)) [
      | inl none ↦ (
        r.0,
        subst (λ (own : List ℕ). r.0 < length (own ++ nodes_in more)) (sym none) r.1,
        subst (λ (own : List ℕ). get_or (own ++ nodes_in more) r.0 0 ≡ n) (sym none) r.2,
        subst (λ (own : List ℕ). get_or (map (name_by before) own ++ names_in line more) r.0 None ≡ Some name)
            (sym none) r.3,
      )
      | inr one ↦ (
        suc r.0,
        subst (λ (own : List ℕ). suc r.0 < length (own ++ nodes_in more)) (sym one.1) (omega (arith, r.1)),
        subst (λ (own : List ℕ). get_or (own ++ nodes_in more) (suc r.0) 0 ≡ n) (sym one.1) r.2,
        subst (λ (own : List ℕ). get_or (map (name_by before) own ++ names_in line more) (suc r.0) None ≡ Some name)
            (sym one.1) r.3,
      )
    ]

-- ---- the file

-- a graph within a limit is within that of all graphs
pub within_limit : (limit : SizeLimit) (g : LinkGraph) → length g.nodes ≤ most_of limit → IsWithinLimit g
within_limit Usual g few = omega (arith, few)
within_limit Large g few = few

-- all names are kept, since the graph has no more nodes than that
all_kept : (most : ℕ) (bytes : List ℕ) (g : LinkGraph) (told : List (Option (List ℕ)))
    → g.nodes ≡ nodes_said (graph_lines bytes) → length g.nodes ≤ most → told ≡ take most (names_in [] (lines bytes))
    → told ≡ names_in [] (lines bytes)
all_kept most bytes g told says within kept =
    let same = ap length (says ∙ all_nodes bytes) in
    kept ∙ take_all most (names_in [] (lines bytes)) (omega (arith, as_many [] (lines bytes), same, within))

-- each node has its place among the names
pub name_each : (most : ℕ) (bytes : List ℕ) (g : LinkGraph) (told : List (Option (List ℕ)))
    → g.nodes ≡ nodes_said (graph_lines bytes) → length g.nodes ≤ most → told ≡ take most (names_in [] (lines bytes))
    → length told ≡ length g.nodes
name_each most bytes g told says within kept =
    ap length (all_kept most bytes g told says within kept) ∙ as_many [] (lines bytes)
    ∙ ap length (sym (says ∙ all_nodes bytes))

-- these are the names that the file keeps of its graph
pub are_names : (most : ℕ) (bytes : List ℕ) (g : LinkGraph) (told : List (Option (List ℕ)))
    → g.nodes ≡ nodes_said (graph_lines bytes) → length g.nodes ≤ most → told ≡ take most (names_in [] (lines bytes))
    → AreNamesOf bytes g (names_of g told)
are_names most bytes g told says within kept =
    let nodes : g.nodes ≡ nodes_in (lines bytes) = says ∙ all_nodes bytes in
    let all : told ≡ names_in [] (lines bytes) = all_kept most bytes g told says within kept in
    record {
      graph = refl;
      said = λ n name h. names_said [] (lines bytes) h.0 n name
          (subst (λ (ns : List ℕ). h.0 < length ns) nodes h.1)
          (subst (λ (ns : List ℕ). get_or ns h.0 0 ≡ n) nodes h.2)
          (subst (λ (ts : List (Option (List ℕ))). get_or ts h.0 None ≡ Some name) all h.3);
      all = λ n name has h.
          let r = naming_place [] (lines bytes) n name h in (
            name,
            (
              r.0,
              subst (λ (ns : List ℕ). r.0 < length ns) (sym nodes) r.1,
              subst (λ (ns : List ℕ). get_or ns r.0 0 ≡ n) (sym nodes) r.2,
              subst (λ (ts : List (Option (List ℕ))). get_or ts r.0 None ≡ Some name) (sym all) r.3,
            ),
          );
    }
