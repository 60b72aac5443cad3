-- What the lines of a text say, line by line.
use Rattle.std.proofs.Common.{◌≡◌, ◌∙◌, ◌<◌, ◌+◌, ℕ, true, false, List, [], ◌∷◌, ◌++◌, map, codes, decimal}
use Rattle.std.proofs.Common.{Option, Some, inl, inr, is_none, option_map, refl, ap, ap₂, sym, subst, append_assoc}
use Rattle.std.specs.List.{flat_map, list_all}
use Rattle.std.specs.Str.Lines.{lines}
use Rattle.ov_ids.specs.Limits.{number_limit}
use Rattle.ov_ids.specs.Members.{Has}
use Rattle.ov_ids.specs.Options.{◌>>=◌}
use Rattle.ov_graph.specs.Links.{LinkGraph, IsGraph, IsWithinLimit}
use Rattle.ov_lines.specs.Lines.{is_skipped, kept_from, kept_lines, number_within, short_bits, skips, words_of}
use Rattle.ov_graphfile.specs.GraphFiles.{IsGraphFile, graph_line, graph_line_at, graph_line_of, graph_lines}
use Rattle.ov_graphfile.specs.GraphFiles.{lines_where, link_of, link_said, links_said, node_said, nodes_said}
use Rattle.ov_graphfile.proofs.GraphFiles.Numbers.{left_where, other}
use Rattle.ov_ids.proofs.Members.{all_member}
use Rattle.ov_graphfile.specs.GraphTexts.{graph_text, link_line, node_line}
use Rattle.ov_graphfile.specs.Code.Ids.{AreIds}
use Rattle.ov_lines.proofs.Lines.Front.{all_joined, in_line, kept_first}
use Rattle.ov_lines.proofs.Lines.Written.{id_read, id_word, word_clean, words_alone, words_next}

-- each line of a text can be read, and these are the nodes and the links that they say, whatever the number of the
-- first line
pub record Says (text nodes : List ℕ) (links : List (ℕ × ℕ)) : Type 0 where
  pub readable : (k : ℕ) → left_where is_none (kept_from k (lines text)) ≡ []
  pub has_nodes : (k : ℕ) → nodes_said (map graph_line_at (kept_from k (lines text))) ≡ nodes
  pub has_links : (k : ℕ) → links_said (map graph_line_at (kept_from k (lines text))) ≡ links

-- a line stands alone, is not skipped, can be read, and says these nodes and these links
pub record SaysLine (line nodes : List ℕ) (links : List (ℕ × ℕ)) : Type 0 where
  pub clean : list_all in_line line ≡ true
  pub kept : is_skipped line ≡ false
  pub readable : is_none (graph_line line) ≡ false
  pub node : node_said (graph_line line) ≡ nodes
  pub link : link_said (graph_line line) ≡ links

-- ---- one line

-- what is said of an id that was read is said of its number
id_said :
    {L X : Type 0} (line : ℕ → L) (said : Option L → X) (o : Option ℕ) (n : ℕ) → o ≡ Some n
    → said (option_map line o) ≡ said (Some (line n))
id_said line said o n is = ap (λ p. said (option_map line p)) is

pub node_line_says : (n : ℕ) → n < number_limit → SaysLine (codes "node " ++ decimal n) (n ∷ []) []
node_line_says n low =
    let words : words_of (codes "node " ++ decimal n) ≡ codes "node" ∷ decimal n ∷ [] =
    words_next (codes "node") (decimal n) refl
    ∙ ap (λ ws. codes "node" ∷ ws) (words_alone (decimal n) (id_word n low)) in
    let id = number_within short_bits (decimal n) in
    record {
      clean = all_joined in_line (codes "node ") (decimal n) refl (word_clean (decimal n) (id_word n low));
      kept = ap skips words;
      readable = ap (λ ws. is_none (graph_line_of ws)) words ∙ id_said _ is_none id n (id_read n low);
      node = ap (λ ws. node_said (graph_line_of ws)) words ∙ id_said _ node_said id n (id_read n low);
      link = ap (λ ws. link_said (graph_line_of ws)) words ∙ id_said _ link_said id n (id_read n low);
    }

-- the line of a link, without its line feed
unfoldable pub ids_text : ℕ × ℕ → List ℕ
ids_text l = decimal l.0 ++ 32 ∷ decimal l.1

link_words :
    (l : ℕ × ℕ) → l.0 < number_limit → l.1 < number_limit
    → graph_line (codes "link " ++ ids_text l) ≡ Some (link_of l)
unfolding ids_text
link_words l low high =
    ap graph_line_of (
    words_next (codes "link") (ids_text l) refl
    ∙ ap (λ ws. codes "link" ∷ ws) (words_next (decimal l.0) (decimal l.1) (id_word l.0 low))
    ∙ ap (λ ws. codes "link" ∷ decimal l.0 ∷ ws) (words_alone (decimal l.1) (id_word l.1 high))
    )
    ∙ ap (λ o. option_map link_of (o >>= λ a. number_within short_bits (decimal l.1) >>= λ b. Some (a, b)))
    (id_read l.0 low)
    ∙ ap (λ o. option_map link_of (o >>= λ b. Some (l.0, b))) (id_read l.1 high)

pub link_line_says :
    (l : ℕ × ℕ) → l.0 < number_limit → l.1 < number_limit
    → SaysLine (codes "link " ++ ids_text l) [] (l ∷ [])
unfolding ids_text
link_line_says l low high =
    let reads = link_words l low high in
    let words = words_next (codes "link") (ids_text l) refl in
    let from : list_all in_line (decimal l.0) ≡ true = word_clean (decimal l.0) (id_word l.0 low) in
    let to : list_all in_line (decimal l.1) ≡ true = word_clean (decimal l.1) (id_word l.1 high) in
    record {
      clean =
          all_joined in_line (codes "link ") (ids_text l) refl
          (all_joined in_line (decimal l.0) (32 ∷ decimal l.1) from to);
      kept = ap skips words;
      readable = ap is_none reads;
      node = ap node_said reads;
      link = ap link_said reads;
    }

-- ---- line by line

-- no line
none_said : Says [] [] []
unfolding lines_where nodes_said links_said kept_from
none_said = record { readable = λ k. refl; has_nodes = λ k. refl; has_links = λ k. refl }

-- one line in front
line_more :
    (line rest own nodes : List ℕ) (joins links : List (ℕ × ℕ)) → SaysLine line own joins → Says rest nodes links
    → Says (line ++ 10 ∷ rest) (own ++ nodes) (joins ++ links)
unfolding nodes_said links_said
line_more line rest own nodes joins links is says =
    let first : (k : ℕ) → kept_from k (lines (line ++ 10 ∷ rest)) ≡ (k, line) ∷ kept_from (k + 1) (lines rest) =
    λ k. kept_first k line rest is.clean is.kept in
    record {
      readable =
          λ k. other is_none _ (kept_from (k + 1) (lines rest)) k line (first k) is.readable
          ∙ says.readable (k + 1);
      has_nodes =
          λ k. ap (λ ls. nodes_said (map graph_line_at ls)) (first k)
          ∙ ap₂ (λ one later. one ++ later) is.node (says.has_nodes (k + 1));
      has_links =
          λ k. ap (λ ls. links_said (map graph_line_at ls)) (first k)
          ∙ ap₂ (λ one later. one ++ later) is.link (says.has_links (k + 1));
    }

-- the line of a node in front
pub node_more :
    (n : ℕ) (rest nodes : List ℕ) (links : List (ℕ × ℕ)) → n < number_limit → Says rest nodes links
    → Says (node_line n ++ rest) (n ∷ nodes) links
node_more n rest nodes links low says =
    subst (λ t. Says (codes "node " ++ t) (n ∷ nodes) links) (sym (append_assoc (decimal n) (10 ∷ []) rest))
    (line_more (codes "node " ++ decimal n) rest (n ∷ []) nodes [] links (node_line_says n low) says)

-- the line of a link in front
link_more :
    (l : ℕ × ℕ) (rest nodes : List ℕ) (links : List (ℕ × ℕ)) → l.0 < number_limit → l.1 < number_limit
    → Says rest nodes links
    → Says (link_line l ++ rest) nodes (l ∷ links)
unfolding ids_text
link_more l rest nodes links low high says =
    let same : (ids_text l ++ 10 ∷ []) ++ rest ≡ ids_text l ++ 10 ∷ rest = append_assoc (ids_text l) (10 ∷ []) rest in
    let split : ids_text l ++ 10 ∷ [] ≡ decimal l.0 ++ 32 ∷ (decimal l.1 ++ 10 ∷ []) =
    append_assoc (decimal l.0) (32 ∷ decimal l.1) (10 ∷ []) in
    subst (λ t. Says (codes "link " ++ t) nodes (l ∷ links)) (sym same ∙ ap (λ t. t ++ rest) split)
    (line_more (codes "link " ++ ids_text l) rest [] nodes (l ∷ []) links (link_line_says l low high) says)

-- ---- all lines

-- the lines of links alone
pub links_alone :
    (links : List (ℕ × ℕ)) → ((l : ℕ × ℕ) → Has links l → (l.0 < number_limit) × (l.1 < number_limit))
    → Says (flat_map link_line links) [] links
links_alone [] low = none_said
links_alone (l ∷ links) low =
    let (from, to) = low l (inl refl) in
    link_more l (flat_map link_line links) [] links from to (links_alone links (λ m has. low m (inr has)))

-- the lines of nodes in front
nodes_first :
    (nodes rest : List ℕ) (links : List (ℕ × ℕ)) → AreIds nodes → Says rest [] links
    → Says (flat_map node_line nodes ++ rest) nodes links
nodes_first [] rest links low says = says
nodes_first (n ∷ nodes) rest links low says =
    subst (λ t. Says t (n ∷ nodes) links) (sym (append_assoc (node_line n) (flat_map node_line nodes) rest))
    (node_more n (flat_map node_line nodes ++ rest) nodes links low.0 (nodes_first nodes rest links low.1 says))

-- the ends of each link are ids
pub link_ids :
    (g : LinkGraph) → IsGraph g → AreIds g.nodes → (l : ℕ × ℕ) → Has g.links l
    → (l.0 < number_limit) × (l.1 < number_limit)
link_ids g is ids l has =
    let joins = is.joins l has in
    let low = all_member (λ n. n < number_limit) g.nodes in
    (low l.0 ids joins.1, low l.1 ids joins.2)

-- a text that says the nodes and the links of a graph is a file of it
pub file_of :
    (text : List ℕ) (g : LinkGraph) → IsGraph g → IsWithinLimit g → Says text g.nodes g.links
    → IsGraphFile text g
unfolding graph_lines kept_lines
file_of text g is within says =
    record {
      readable = says.readable 1;
      nodes = sym (says.has_nodes 1);
      links = sym (says.has_links 1);
      graph = is;
      within = within;
    }

-- the text of a graph is a file of it
pub text_says : (g : LinkGraph) → IsGraph g → IsWithinLimit g → AreIds g.nodes → IsGraphFile (graph_text g) g
text_says g is within ids =
    file_of (graph_text g) g is within
    (nodes_first g.nodes (flat_map link_line g.links) g.links ids (links_alone g.links (link_ids g is ids)))
