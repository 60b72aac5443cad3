-- The lines of a graph file, skipped ones too, one after the other.
use Rattle.std.proofs.Common.{◌≡◌, ◌∙◌, ◌<◌, ◌≤◌, ◌+◌, ℕ, Bool, true, false, List, [], ◌∷◌, ◌++◌, length, map, take}
use Rattle.std.proofs.Common.{Option, Some, None, is_none, refl, ap, sym, subst, arith, append_assoc, append-nil}
use Rattle.std.proofs.Common.{length-append}
use Rattle.std.specs.Str.Lines.{lines}
use Rattle.std.proofs.lemmas.List.{length-map, length-take, map-append, take-append-le, take_all}
use Rattle.ov_lines.specs.Lines.{first_line, is_skipped, kept_from, kept_lines, words_of}
use Rattle.ov_lines.proofs.Lines.Kept.{kept, skipped}
use Rattle.ov_lines.proofs.Lines.Lined.{lines_first}
use Rattle.ov_graph.specs.declared.size_limit.SizeLimit.{SizeLimit}
use Rattle.ov_graphfile.specs.GraphFiles.{graph_line, link_said, node_said, IsGraphFileFault}
use Rattle.ov_graphfile.specs.Code.Told.{name_by, names_in}
use Rattle.ov_graphfile.specs.Code.UnreadAt.{IsUnreadAt}
use Rattle.ov_graphfile.specs.declared.fault.GraphFileFault.{GraphFileFault}
use Rattle.ov_graphfile.specs.declared.fault.GraphFileFault.TheVariants as fault
use Rattle.ov_graphfile.specs.declared.graph_line.GraphLine.{GraphLine}
use Rattle.ov_graphfile.proofs.GraphFiles.Gathering.{Gathers, more, unread}
use Rattle.ov_graphfile.proofs.Sole.{skipped_none}

-- ---- nodes and links

-- all lines are left
pub all_left : (bytes : List ℕ) → kept_from 1 (lines bytes) ≡ kept_lines bytes
unfolding kept_lines
all_left bytes = refl

-- a line that is skipped
line_skipped : (bytes nodes : List ℕ) (links : List (ℕ × ℕ)) (left line later : List ℕ) (n m : ℕ)
    (nodes_then : List ℕ) (links_then : List (ℕ × ℕ))
    → Gathers bytes nodes links (kept_from n (lines left)) → 0 < length left → (line, later) ≡ first_line left
    → m ≡ n + 1
    → nodes_then ≡ nodes ++ node_said (graph_line line) → links_then ≡ links ++ link_said (graph_line line)
    → is_skipped line ≡ true
    → Gathers bytes nodes_then links_then (kept_from m (lines later))
line_skipped bytes nodes links left line later n m nodes_then links_then g some first next gains joins e =
    let none : graph_line line ≡ None = skipped_none (words_of line) e in
    let same_nodes : nodes_then ≡ nodes =
    gains ∙ ap (λ (o : Option GraphLine). nodes ++ node_said o) none ∙ append-nil nodes in
    let same_links : links_then ≡ links =
    joins ∙ ap (λ (o : Option GraphLine). links ++ link_said o) none ∙ append-nil links in
    subst (λ (ns : List ℕ). Gathers bytes ns links_then (kept_from m (lines later))) (sym same_nodes)
    (subst (λ (ls : List (ℕ × ℕ)). Gathers bytes nodes ls (kept_from m (lines later))) (sym same_links)
    (subst (Gathers bytes nodes links) (skipped n m left line later some first next e) g))

-- a line that says something
line_read : (bytes nodes : List ℕ) (links : List (ℕ × ℕ)) (left line later : List ℕ) (n m : ℕ)
    (nodes_then : List ℕ) (links_then : List (ℕ × ℕ)) (o : Option GraphLine)
    → Gathers bytes nodes links (kept_from n (lines left)) → 0 < length left → (line, later) ≡ first_line left
    → m ≡ n + 1
    → nodes_then ≡ nodes ++ node_said (graph_line line) → links_then ≡ links ++ link_said (graph_line line)
    → is_skipped line ≡ false → graph_line line ≡ o → is_none o ≡ false
    → Gathers bytes nodes_then links_then (kept_from m (lines later))
line_read bytes nodes links left line later n m nodes_then links_then None g some first next gains joins e is reads =
    absurd (cc)
line_read bytes nodes links left line later n m nodes_then links_then (Some says) g some first next gains joins e is
    reads =
    more bytes nodes links (kept_from n (lines left)) (kept_from m (lines later)) n line says nodes_then links_then g
    (kept n m left line later some first next e) is
    (gains ∙ ap (λ (o : Option GraphLine). nodes ++ node_said o) is)
    (joins ∙ ap (λ (o : Option GraphLine). links ++ link_said o) is)

-- one line more
pub line_taken : (bytes nodes : List ℕ) (links : List (ℕ × ℕ)) (left line later : List ℕ) (n m : ℕ)
    (nodes_then : List ℕ) (links_then : List (ℕ × ℕ))
    → Gathers bytes nodes links (kept_from n (lines left)) → 0 < length left → (line, later) ≡ first_line left
    → m ≡ n + 1
    → nodes_then ≡ nodes ++ node_said (graph_line line) → links_then ≡ links ++ link_said (graph_line line)
    → (is_skipped line ≡ false → is_none (graph_line line) ≡ false)
    → Gathers bytes nodes_then links_then (kept_from m (lines later))
line_taken bytes nodes links left line later n m nodes_then links_then g some first next gains joins reads =
    by (is_skipped line) refl where
      by : (b : Bool) → is_skipped line ≡ b → Gathers bytes nodes_then links_then (kept_from m (lines later))
      by true e =
          line_skipped bytes nodes links left line later n m nodes_then links_then g some first next gains joins e
      by false e =
          line_read bytes nodes links left line later n m nodes_then links_then (graph_line line) g some first next
          gains joins e refl (reads e)

-- the next line ends the reading
pub line_unread : (limit : SizeLimit) (bytes nodes : List ℕ) (links : List (ℕ × ℕ)) (left line later : List ℕ) (n : ℕ)
    (f : GraphFileFault)
    → Gathers bytes nodes links (kept_from n (lines left)) → 0 < length left → (line, later) ≡ first_line left
    → IsUnreadAt n line f → IsGraphFileFault limit bytes f
line_unread limit bytes nodes links left line later n (fault.Line u) g some first is =
    unread bytes nodes links (kept_from n (lines left)) (kept_from (n + 1) (lines later)) n line g
    (kept n (n + 1) left line later some first refl is.1) is.2
    ∙ ap Some (sym is.0)
line_unread limit bytes nodes links left line later n (fault.Graph graph_fault at') g some first is = absurd is
line_unread limit bytes nodes links left line later n fault.OutOfMemory g some first is = tt

-- ---- names

-- one more is kept, if there is room for it
pub one_kept : {X : Type 0} (f : X → Option (List ℕ)) (most : ℕ) (told then : List X) (names : List (Option (List ℕ)))
    (x : X) → map f told ≡ take most names → length told < most → then ≡ told ++ x ∷ []
    → map f then ≡ take most (names ++ f x ∷ [])
one_kept f most told then names x are room gains =
    let same : length told ≡ length (take most names) = sym (length-map told f) ∙ ap length are in
    let short : length names < most = omega (arith, same, length-take most names, room) in
    let longer : length (names ++ f x ∷ []) ≤ most = omega (arith, length-append names (f x ∷ []), short) in
    ap (map f) gains
    ∙ map-append f told (x ∷ [])
    ∙ ap (λ ns. ns ++ f x ∷ []) (are ∙ take_all most names (omega (arith, short)))
    ∙ sym (take_all most (names ++ f x ∷ []) longer)

-- and not otherwise
pub none_kept : {X : Type 0} (f : X → Option (List ℕ)) (most : ℕ) (told : List X) (names : List (Option (List ℕ)))
    (x : X) → map f told ≡ take most names → ¬ (length told < most)
    → map f told ≡ take most (names ++ f x ∷ [])
none_kept f most told names x are full =
    let same : length told ≡ length (take most names) = sym (length-map told f) ∙ ap length are in
    let long : most ≤ length names = omega (arith, same, length-take most names, full) in
    are ∙ sym (take-append-le most names (f x ∷ []) long)

-- Some names, behind which come those of the lines that are left, are the names of all lines. Of them `most` are kept.
-- The line `before` precedes those that are left
pub record AreTold (most : ℕ) (bytes : List ℕ) (told : List (Option (List ℕ))) (before left : List ℕ) : Type 0 where
  pub names : List (Option (List ℕ))
  pub kept : told ≡ take most names
  pub whole : names ++ names_in before (lines left) ≡ names_in [] (lines bytes)

-- no line was read
pub none_told : (most : ℕ) (bytes : List ℕ) (told : List (Option (List ℕ))) → told ≡ []
    → AreTold most bytes told [] bytes
none_told most bytes told none = record {
  names = [];
  kept = none ∙ sym (take_all most [] (omega arith));
  whole = refl;
}

-- one line more
pub line_told : (most : ℕ) (bytes : List ℕ) (told then : List (Option (List ℕ))) (before left line later : List ℕ)
    → AreTold most bytes told before left → 0 < length left → (line, later) ≡ first_line left
    → ((names : List (Option (List ℕ))) → told ≡ take most names
    → then ≡ take most (names ++ map (name_by before) (node_said (graph_line line))))
    → AreTold most bytes then line later
line_told most bytes told then before left line later t some first gains =
    let own : List (Option (List ℕ)) = map (name_by before) (node_said (graph_line line)) in
    record {
      names = t.names ++ own;
      kept = gains t.names t.kept;
      whole = append_assoc t.names own (names_in line (lines later))
          ∙ ap (λ ls. t.names ++ names_in before ls) (sym (lines_first left line later some first))
          ∙ t.whole;
    }
