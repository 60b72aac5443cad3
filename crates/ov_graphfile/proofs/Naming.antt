-- What a text with names in comments says.
use Rattle.std.proofs.Common.{◌≡◌, ◌∙◌, ◌≢◌, ◌<◌, ◌+◌, inl, inr, ℕ, true, List, [], ◌∷◌, ◌++◌, length, map}
use Rattle.std.proofs.Common.{codes, decimal, String, Global, string_bytes, is_none, refl, ap, sym, subst, append_assoc}
use Rattle.std.proofs.Common.{arith}
use Rattle.std.specs.List.{AllByRecursion, flat_map, list_all, zip}
use Rattle.std.specs.Str.Lines.{lines}
use Rattle.std.proofs.lemmas.Bool.{and_from}
use Rattle.std.proofs.lemmas.Bool.Decides.{nat_tests}
use Rattle.ov_ids.specs.Limits.{number_limit}
use Rattle.ov_graph.specs.Links.{LinkGraph, IsGraph, IsWithinLimit}
use Rattle.ov_lines.specs.Lines.{is_skipped, kept_from, skips}
use Rattle.ov_graphfile.specs.GraphFiles.{IsGraphFile, graph_line_at, links_said, nodes_said}
use Rattle.ov_graphfile.proofs.GraphFiles.Numbers.{left_where}
use Rattle.ov_graphfile.specs.GraphTexts.{IsOnOneLine, link_line, named_graph_text, named_node_line, node_line}
use Rattle.ov_graphfile.specs.Code.Ids.{AreIds}
use Rattle.ov_lines.proofs.Lines.Front.{all_joined, in_line, skipped_first}
use Rattle.ov_graphfile.proofs.Sayings.{Says, file_of, link_ids, links_alone, node_more}
use Rattle.ov_lines.proofs.Lines.Written.{id_word, word_clean, words_next}

-- a skipped line in front
skipped_more :
    (line rest nodes : List ℕ) (links : List (ℕ × ℕ)) → list_all in_line line ≡ true → is_skipped line ≡ true
    → Says rest nodes links
    → Says (line ++ 10 ∷ rest) nodes links
skipped_more line rest nodes links clean skipped says =
    let first : (k : ℕ) → kept_from k (lines (line ++ 10 ∷ rest)) ≡ kept_from (k + 1) (lines rest) =
    λ k. skipped_first k line rest clean skipped in
    record {
      readable = λ k. ap (left_where is_none) (first k) ∙ says.readable (k + 1);
      has_nodes = λ k. ap (λ ls. nodes_said (map graph_line_at ls)) (first k) ∙ says.has_nodes (k + 1);
      has_links = λ k. ap (λ ls. links_said (map graph_line_at ls)) (first k) ∙ says.has_links (k + 1);
    }

-- a name stands on one line
name_byte : (b : ℕ) → b ≢ 10 → b ≢ 13 → in_line b ≡ true
name_byte b no_feed no_return = grind (arith, nat_tests)

name_clean : (name : List ℕ) → IsOnOneLine name → list_all in_line name ≡ true
name_clean [] alone = refl
name_clean (b ∷ name) (no_feed, no_return) =
    and_from (in_line b) (list_all in_line name) (name_byte b (λ e. no_feed (inl e)) (λ e. no_return (inl e)))
    (name_clean name ((λ h. no_feed (inr h)), (λ h. no_return (inr h))))

-- the comment that names a node, without its line feed
abbrev pub comment_text : ℕ → List ℕ → List ℕ
comment_text n name = codes "# " ++ (decimal n ++ 32 ∷ name)

-- it stands on one line
pub comment_clean :
    (n : ℕ) (name : List ℕ) → n < number_limit → IsOnOneLine name → list_all in_line (comment_text n name) ≡ true
comment_clean n name low alone =
    all_joined in_line (codes "# ") (decimal n ++ 32 ∷ name) refl
    (all_joined in_line (decimal n) (32 ∷ name) (word_clean (decimal n) (id_word n low)) (name_clean name alone))

-- and is skipped
pub comment_skipped : (n : ℕ) (name : List ℕ) → is_skipped (comment_text n name) ≡ true
comment_skipped n name = ap skips (words_next (codes "#") (decimal n ++ 32 ∷ name) refl)

-- the line of a node in front, behind a comment that names it
named_more :
    (n : ℕ) (name rest nodes : List ℕ) (links : List (ℕ × ℕ)) → n < number_limit → IsOnOneLine name
    → Says rest nodes links
    → Says (named_node_line (n, name) ++ rest) (n ∷ nodes) links
named_more n name rest nodes links low alone says =
    let said : List ℕ = decimal n ++ 32 ∷ name in
    let split : said ++ 10 ∷ (node_line n ++ rest) ≡ (decimal n ++ 32 ∷ (name ++ 10 ∷ node_line n)) ++ rest =
    sym (append_assoc said (10 ∷ node_line n) rest)
    ∙ ap (λ t. t ++ rest) (append_assoc (decimal n) (32 ∷ name) (10 ∷ node_line n)) in
    subst (λ t. Says (codes "# " ++ t) (n ∷ nodes) links) split
    (skipped_more (comment_text n name) (node_line n ++ rest) (n ∷ nodes) links (comment_clean n name low alone)
    (comment_skipped n name) (node_more n rest nodes links low says))

-- the lines of nodes in front, with as many names
named_first :
    {N : Type 0} (bytes : N → List ℕ) (nodes : List ℕ) (names : List N) (rest : List ℕ) (links : List (ℕ × ℕ))
    → length names ≡ length nodes → AllByRecursion (λ name. IsOnOneLine (bytes name)) names → AreIds nodes
    → Says rest [] links
    → Says (flat_map named_node_line (zip nodes (map bytes names)) ++ rest) nodes links
named_first bytes [] names rest links each alone low says = says
named_first bytes (n ∷ nodes) [] rest links each alone low says = absurd (omega (arith, each))
named_first bytes (n ∷ nodes) (name ∷ names) rest links each alone low says =
    let later : List ℕ = flat_map named_node_line (zip nodes (map bytes names)) in
    subst (λ t. Says t (n ∷ nodes) links) (sym (append_assoc (named_node_line (n, bytes name)) later rest))
    (named_more n (bytes name) (later ++ rest) nodes links low.0 alone.0
    (named_first bytes nodes names rest links (omega (arith, each)) alone.1 low.1 says))

-- the text of a graph with names is a file of it
pub named_text_says :
    (g : LinkGraph) (names : List (String Global)) → IsGraph g → IsWithinLimit g → AreIds g.nodes
    → length names ≡ length g.nodes → AllByRecursion (λ name. IsOnOneLine (string_bytes name)) names
    → IsGraphFile (named_graph_text g (map (λ name. string_bytes name) names)) g
named_text_says g names is within ids each alone =
    file_of (named_graph_text g (map (λ name. string_bytes name) names)) g is within
    (named_first (λ name. string_bytes name) g.nodes names (flat_map link_line g.links) g.links each alone ids
    (links_alone g.links (link_ids g is ids)))
