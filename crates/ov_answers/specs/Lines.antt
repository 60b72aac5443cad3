-- The lines that name the nodes of an answer. Their form is chosen here.
use Rattle.std.specs.Prelude.{◌≡◌, ◌==◌, ◌<◌, ◌≤◌, ◌⊎◌, ℕ, ◌+◌, List, [], ◌∷◌, ◌++◌, length, slice_index_or, MatchBool}
use Rattle.std.specs.Prelude.{codes, decimal}
use Rattle.ov_graph.specs.Links.{LinkGraph}
use Rattle.ov_cert.specs.declared.cert.Cert.{Cert}
use Rattle.ov_cert.specs.declared.cert.Cert.TheVariants as cert
use Rattle.ov_graphfile.specs.NamesState.{NamesState, IsNamed}
use Rattle.ov_components.specs.Components.{AreComponents}

-- a line that says a node: these words, its id, and behind a space its name if it has one
abbrev pub IsNodeLine : List ℕ → NamesState → ℕ → List ℕ → Type 0
IsNodeLine words names n line =
    ((name : List ℕ) × IsNamed names n name × (line ≡ words ++ (decimal n ++ 32 ∷ (name ++ 10 ∷ []))))
    ⊎ (((name : List ℕ) → ¬ IsNamed names n name) × (line ≡ words ++ (decimal n ++ 10 ∷ [])))

-- such a line for each of these nodes, in order
abbrev pub AreNodeLines : List ℕ → NamesState → List ℕ → List ℕ → Type 0
AreNodeLines words names [] text = text ≡ []
AreNodeLines words names (n ∷ ns) text =
    (line : List ℕ) × (rest : List ℕ) × IsNodeLine words names n line × AreNodeLines words names ns rest
    × (text ≡ line ++ rest)

-- how large the components are, with commas between two
abbrev pub sizes_text : List (List ℕ) → List ℕ
sizes_text [] = []
sizes_text (component ∷ []) = decimal (length component)
sizes_text (component ∷ next ∷ components) = decimal (length component) ++ 44 ∷ sizes_text (next ∷ components)

-- how large the component at a place is, counted from 0; behind the last component that is 0
abbrev pub size_at : List (List ℕ) → ℕ → ℕ
size_at components place = length (slice_index_or components place [])

-- the first of the largest components is at this place: no component is larger, and those before it are smaller. If
-- there are no components, the place is 0
abbrev pub IsFirstLargest : List (List ℕ) → ℕ → Type 0
IsFirstLargest components place =
    ((q : ℕ) → size_at components q ≤ size_at components place)
    × ((q : ℕ) → q < place → size_at components q < size_at components place)

-- the lines of the members of the component at a place, which counts from 0: a line `piece K N NAME` for each, where K
-- counts from 1. None if the component is the one that is left out
abbrev pub AreMemberLines : ℕ → NamesState → ℕ → List ℕ → List ℕ → Type 0
AreMemberLines left_out names place component text =
    MatchBool (place == left_out) (text ≡ [])
    (AreNodeLines (codes "piece " ++ (decimal (place + 1) ++ codes " ")) names component text)

-- such lines for each of these components, in order, of which the first is at this place
abbrev pub AreAllMemberLines : ℕ → NamesState → ℕ → List (List ℕ) → List ℕ → Type 0
AreAllMemberLines left_out names place [] text = text ≡ []
AreAllMemberLines left_out names place (component ∷ components) text =
    (lines : List ℕ) × (rest : List ℕ) × AreMemberLines left_out names place component lines
    × AreAllMemberLines left_out names (place + 1) components rest × (text ≡ lines ++ rest)

-- the lines that tell components: a line `pieces N sizes A,B,..`, and then the lines of the members of all components
-- but the first of the largest ones
abbrev pub AreComponentLines : NamesState → List (List ℕ) → List ℕ → Type 0
AreComponentLines names components text =
    (largest : ℕ) × (members : List ℕ) × IsFirstLargest components largest
    × AreAllMemberLines largest names 0 components members
    × (text ≡ codes "pieces " ++ (decimal (length components)
    ++ (codes " sizes " ++ (sizes_text components ++ 10 ∷ members))))

-- the lines that name the nodes of an answer for a graph: none of a linked one; of a split, a line `cut N NAME` for
-- each node of the cut, a line `near N NAME` and a line `far N NAME`, and then the lines that tell the components that
-- the crash of the cut leaves
abbrev pub AreNameLines : LinkGraph → Cert → NamesState → List ℕ → Type 0
AreNameLines g (cert.Linked k) names text = text ≡ []
AreNameLines g (cert.Split c) names text =
    (cut : List ℕ) × (near : List ℕ) × (far : List ℕ) × (components : List (List ℕ)) × (told : List ℕ)
    × AreNodeLines (codes "cut ") names c.cut cut × IsNodeLine (codes "near ") names c.near near
    × IsNodeLine (codes "far ") names c.far far × AreComponents g c.cut components
    × AreComponentLines names components told
    × (text ≡ cut ++ (near ++ (far ++ told)))
