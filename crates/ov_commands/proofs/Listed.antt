-- What lists name, and what came of an analysis that they ask for.
use Rattle.std.proofs.Common.{◌≡◌, ◌∙◌, ◌⊎◌, ℕ, Bool, true, false, List, Option, Some, None, Result, Ok, Err, inl, inr}
use Rattle.std.proofs.Common.{[], ◌∷◌, ◌++◌, ◌+◌, refl, subst, ap, flat_map, replicate, length, if◌then◌else◌}
use Rattle.std.proofs.lemmas.List.{append_assoc, replicate-append-replicate}
use Rattle.ov_graph.specs.Links.{LinkGraph}
use Rattle.ov_graph.specs.declared.size_limit.SizeLimit.{SizeLimit}
use Rattle.ov_graphfile.specs.GraphFiles.{IsGraphFile}
use Rattle.ov_graphfile.specs.NamesState.{NamesState, names_of}
use Rattle.ov_graphfile.specs.NameLines.{AreNamesOf}
use Rattle.ov_io.specs.Device.{SinkState}
use Rattle.ov_commands.specs.Naming.{AnalysisAsked, AreGone, AreListNames, AreListed, IsGroupLeft, IsNoGraphFile}
use Rattle.ov_commands.specs.Naming.{NamesNobody, WasTold}
use Rattle.ov_commands.specs.Code.Named.{AreNamed, IsNotFound, IsNotNamedBy, WasAnswered}
use Rattle.ov_commands.specs.declared.command_fault.CommandFault.{CommandFault}
use Rattle.ov_commands.specs.declared.command_fault.CommandFault.TheVariants.{Group, OfFile, Run}

-- the names by which lists are read, of those that the file keeps
pub list_names : (bytes : List ℕ) (named : Bool) (g : LinkGraph) (told kept : List (Option (List ℕ)))
    → IsGraphFile bytes g → AreNamesOf bytes g (names_of g told) → length told ≡ length g.nodes
    → kept ≡ (if named then told else replicate (length told) None)
    → AreListNames bytes named (names_of g kept)
list_names bytes true g told kept says keeps places is = (g, says, rw is keeps)
list_names bytes false g told kept says keeps places is =
    (g, says, ap (names_of g) (is ∙ ap (λ (n : ℕ). replicate n None) places))

-- bytes that are no graph file name nobody
pub nobody_in : (limit : SizeLimit) (bytes : List ℕ) (named : Bool) (text : Option (List ℕ))
    → IsNoGraphFile limit bytes → AreListed limit bytes named text None
nobody_in limit bytes named None is = refl
nobody_in limit bytes named (Some text) is = is

-- nodes that a list names by these names are the nodes that it lists
pub listed : (limit : SizeLimit) (bytes : List ℕ) (named : Bool) (names : NamesState) (text nodes : Option (List ℕ))
    → AreListNames bytes named names → AreNamed names text nodes → AreListed limit bytes named text nodes
listed limit bytes named names None nodes are is = is
listed limit bytes named names (Some text) None are is = absurd is
listed limit bytes named names (Some text) (Some nodes) are is = (names, are, is)

-- a list that names nobody by these names
not_listed : (bytes : List ℕ) (named : Bool) (names : NamesState) (text : Option (List ℕ)) (f : _)
    → AreListNames bytes named names → IsNotNamedBy names text (Group f) → NamesNobody bytes named text f
not_listed bytes named names None f are is = absurd is
not_listed bytes named names (Some text) f are is = (names, are, is)

-- one of two lists names nobody
pub not_found : (bytes : List ℕ) (named : Bool) (names : NamesState) (gone group : Option (List ℕ)) (f : CommandFault)
    → AreListNames bytes named names → IsNotNamedBy names gone f ⊎ IsNotNamedBy names group f
    → IsNotFound bytes named gone group f
not_found bytes named names gone group (Run f) are (inl is) = is
not_found bytes named names gone group (Run f) are (inr is) = is
not_found bytes named names gone group (Group f) are (inl is) = inl (not_listed bytes named names gone f are is)
not_found bytes named names gone group (Group f) are (inr is) = inr (not_listed bytes named names group f are is)
not_found bytes named names None group (OfFile f) are (inl is) = absurd is
not_found bytes named names (Some text) group (OfFile f) are (inl is) = absurd is
not_found bytes named names gone None (OfFile f) are (inr is) = absurd is
not_found bytes named names gone (Some text) (OfFile f) are (inr is) = absurd is

-- nothing is written if nodes are not found
pub nothing_told : {W : Type 0} (bytes : List ℕ) (asked : AnalysisAsked) (contents : W → Option (List ℕ))
    (sink : SinkState W) (f : CommandFault) → IsNotFound bytes asked.named asked.gone asked.group f
    → WasTold bytes asked contents sink sink (Err f)
nothing_told bytes asked contents sink (Run f) is = inr (is, refl)
nothing_told bytes asked contents sink (Group f) is = (is, refl)
nothing_told bytes asked contents sink (OfFile f) is = absurd is

-- what was answered of the nodes that are left is what was told
answered_so : {W : Type 0} (bytes : List ℕ) (asked : AnalysisAsked) (gone : List ℕ) (group : Option (List ℕ))
    (contents : W → Option (List ℕ)) (old new : SinkState W) (result : Result ℕ CommandFault)
    → AreGone bytes asked gone → IsGroupLeft bytes asked gone group
    → WasAnswered asked.limit bytes gone group asked.certificate asked.named asked.least contents old new result
    → WasTold bytes asked contents old new result
answered_so bytes asked gone group contents old new (Ok status) are is was =
    (gone, group, was.0, are, is, was.1, was.2)
answered_so bytes asked gone group contents old new (Err (Run f)) are is was = inl (gone, group, are, is, was)
answered_so bytes asked gone group contents old new (Err (Group f)) are is was = absurd was
answered_so bytes asked gone group contents old new (Err (OfFile f)) are is was = absurd was

-- what was answered of the nodes that are left, by a request of theirs, is what was told
pub answered : {W : Type 0} (limit : SizeLimit) (bytes : List ℕ) (asked : AnalysisAsked) (gone taken : List ℕ)
    (group members : Option (List ℕ)) (certificate named : Bool)
    (contents : W → Option (List ℕ)) (old new : SinkState W) (result : Result ℕ CommandFault)
    → AreGone bytes asked gone → IsGroupLeft bytes asked gone group
    → limit ≡ asked.limit → taken ≡ gone → members ≡ group → certificate ≡ asked.certificate → named ≡ asked.named
    → WasAnswered limit bytes taken members certificate named asked.least contents old new result
    → WasTold bytes asked contents old new result
answered limit bytes asked gone taken group members certificate named contents old new result are is l e f h i was =
    answered_so bytes asked gone group contents old new result are is
    (subst (λ n. WasAnswered asked.limit bytes gone group asked.certificate n asked.least contents old new result) i
    (subst (λ c. WasAnswered asked.limit bytes gone group c named asked.least contents old new result) h
    (subst (λ m. WasAnswered asked.limit bytes gone m certificate named asked.least contents old new result) f
    (subst (λ t. WasAnswered asked.limit bytes t members certificate named asked.least contents old new result) e
    (subst (λ s. WasAnswered s bytes taken members certificate named asked.least contents old new result) l was)))))

-- ---- the texts of lists, and no names

-- one more line goes in, with a comma before it
pub line_more : (text : List ℕ) (n : ℕ) (line : List ℕ) (rest : List (ℕ × List ℕ))
    → ((text ++ 44 ∷ []) ++ line) ++ flat_map (λ l. 44 ∷ l.1) rest ≡ text ++ flat_map (λ l. 44 ∷ l.1) ((n, line) ∷ rest)
line_more text n line rest =
    append_assoc (text ++ 44 ∷ []) line (flat_map (λ l. 44 ∷ l.1) rest)
    ∙ append_assoc text (44 ∷ []) (line ++ flat_map (λ l. 44 ∷ l.1) rest)

-- one more node without a name
pub none_more : (names : List (Option (List ℕ))) (count : ℕ) → names ≡ replicate count None
    → names ++ None ∷ [] ≡ replicate (count + 1) None
none_more names count are = ap (λ xs. xs ++ None ∷ []) are ∙ replicate-append-replicate count 1 None
