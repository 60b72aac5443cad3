-- What the lines of a graph file say, one after the other.
use Rattle.std.proofs.Common.{◌≡◌, ◌∙◌, ℕ, List, [], ◌∷◌, ◌++◌, map, slice_get, is_none, Some, None, ap, sym}
use Rattle.std.proofs.Common.{append_assoc, append-nil}
use Rattle.ov_graphfile.specs.GraphFiles.{graph_line, graph_line_at, graph_lines, node_said, link_said, nodes_said}
use Rattle.ov_graphfile.specs.GraphFiles.{links_said, unread_lines}
use Rattle.ov_graphfile.specs.declared.graph_line.GraphLine.{GraphLine}
use Rattle.ov_graphfile.proofs.GraphFiles.Numbers.{left_where, holding, other, none_left}
use Rattle.ov_lines.specs.Lines.{kept_lines}

-- with what the lines that are left say behind them, these are the nodes and the links that all lines of the file say;
-- and the lines that can't be read are all left
pub record Gathers (bytes nodes : List ℕ) (links : List (ℕ × ℕ)) (left : List (ℕ × List ℕ)) : Type 0 where
  pub has_nodes : nodes ++ nodes_said (map graph_line_at left) ≡ nodes_said (graph_lines bytes)
  pub has_links : links ++ links_said (map graph_line_at left) ≡ links_said (graph_lines bytes)
  pub unread : left_where is_none left ≡ unread_lines bytes

-- no line was taken in
pub begun :
    (bytes nodes : List ℕ) (links : List (ℕ × ℕ)) (left : List (ℕ × List ℕ)) → nodes ≡ [] → links ≡ []
    → left ≡ kept_lines bytes
    → Gathers bytes nodes links left
unfolding graph_lines
begun bytes nodes links left no_nodes no_links all =
    record {
      has_nodes =
          ap (λ ns. ns ++ nodes_said (map graph_line_at left)) no_nodes
          ∙ ap (λ ls. nodes_said (map graph_line_at ls)) all;
      has_links =
          ap (λ ls. ls ++ links_said (map graph_line_at left)) no_links
          ∙ ap (λ ls. links_said (map graph_line_at ls)) all;
      unread = ap (left_where is_none) all;
    }

-- one line more
pub more :
    (bytes nodes : List ℕ) (links : List (ℕ × ℕ)) (now later : List (ℕ × List ℕ)) (n : ℕ) (text : List ℕ)
    (line : GraphLine) (nodes_then : List ℕ) (links_then : List (ℕ × ℕ))
    → Gathers bytes nodes links now → now ≡ (n, text) ∷ later → graph_line text ≡ Some line
    → nodes_then ≡ nodes ++ node_said (Some line) → links_then ≡ links ++ link_said (Some line)
    → Gathers bytes nodes_then links_then later
unfolding nodes_said links_said
more bytes nodes links now later n text line nodes_then links_then g first own gains joins =
    let nodes_later = nodes_said (map graph_line_at later) in
    let links_later = links_said (map graph_line_at later) in
    record {
      has_nodes =
          ap (λ ns. ns ++ nodes_later) gains ∙ append_assoc nodes (node_said (Some line)) nodes_later
          ∙ ap (λ s. nodes ++ (node_said s ++ nodes_later)) (sym own)
          ∙ ap (λ ls. nodes ++ nodes_said (map graph_line_at ls)) (sym first) ∙ g.has_nodes;
      has_links =
          ap (λ ls. ls ++ links_later) joins ∙ append_assoc links (link_said (Some line)) links_later
          ∙ ap (λ s. links ++ (link_said s ++ links_later)) (sym own)
          ∙ ap (λ ls. links ++ links_said (map graph_line_at ls)) (sym first) ∙ g.has_links;
      unread = sym (other is_none now later n text first (ap is_none own)) ∙ g.unread;
    }

-- the next line can't be read
pub unread :
    (bytes nodes : List ℕ) (links : List (ℕ × ℕ)) (now later : List (ℕ × List ℕ)) (n : ℕ) (text : List ℕ)
    → Gathers bytes nodes links now → now ≡ (n, text) ∷ later → graph_line text ≡ None
    → slice_get (unread_lines bytes) 0 ≡ Some n
unread bytes nodes links now later n text g first reads =
    ap (λ ns. slice_get ns 0) (sym g.unread ∙ holding is_none now later n text first (ap is_none reads))

-- all lines were taken in
pub readable :
    (bytes nodes : List ℕ) (links : List (ℕ × ℕ)) (left : List (ℕ × List ℕ)) → Gathers bytes nodes links left
    → left ≡ []
    → unread_lines bytes ≡ []
readable bytes nodes links left g none = sym g.unread ∙ none_left is_none left none

pub all_nodes :
    (bytes nodes : List ℕ) (links : List (ℕ × ℕ)) (left : List (ℕ × List ℕ)) → Gathers bytes nodes links left
    → left ≡ []
    → nodes ≡ nodes_said (graph_lines bytes)
unfolding nodes_said
all_nodes bytes nodes links left g none =
    sym (append-nil nodes) ∙ ap (λ ls. nodes ++ nodes_said (map graph_line_at ls)) (sym none) ∙ g.has_nodes

pub all_links :
    (bytes nodes : List ℕ) (links : List (ℕ × ℕ)) (left : List (ℕ × List ℕ)) → Gathers bytes nodes links left
    → left ≡ []
    → links ≡ links_said (graph_lines bytes)
unfolding links_said
all_links bytes nodes links left g none =
    sym (append-nil links) ∙ ap (λ ls. links ++ links_said (map graph_line_at ls)) (sym none) ∙ g.has_links
