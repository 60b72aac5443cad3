-- The names of a dump come back from the file that is made of it.
use Rattle.std.proofs.Common.{◌≡◌, ◌≢◌, ◌∙◌, ◌↔◌, ◌<◌, ◌≤◌, ℕ, zero, suc, inl, inr, List, [], ◌∷◌, ◌++◌}
use Rattle.std.proofs.Common.{Option, Some, None, unwrap_or, option_map, slice_get, get_or, length, map, IsUtf8}
use Rattle.std.proofs.Common.{MatchBool, true, false, append_assoc, refl, sym, ap, ap₂, subst, arith, eq-or-lt_of_le}
use Rattle.std.specs.List.{AllByRecursion, flat_map, zip}
use Rattle.std.specs.Str.Lines.{lines}
use Rattle.std.proofs.lemmas.List.{length-map}
use Rattle.std.proofs.lemmas.Option.{slice_get_within, slice_get-get_or, slice_get-map}
use Rattle.ov_ids.specs.Limits.{number_limit}
use Rattle.ov_ids.specs.Members.{Has}
use Rattle.ov_ids.proofs.Members.{all_from_members, all_member, has_append_cases}
use Rattle.ov_lines.specs.Lines.{words_of}
use Rattle.ov_graphfile.specs.GraphFiles.{graph_line, node_said}
use Rattle.ov_graphfile.specs.GraphTexts.{IsOnOneLine, link_line, named_node_line}
use Rattle.ov_graphfile.specs.Code.Ids.{AreIds}
use Rattle.ov_graphfile.proofs.Lined.{named_lines, node_text, say_no_node, says_node}
use Rattle.ov_graphfile.proofs.Naming.{comment_skipped, comment_text}
use Rattle.ov_graphfile.proofs.Sayings.{link_ids}
use Rattle.ov_graphfile.specs.NameLines.{AreNaming, NameSaid}
use Rattle.ov_graphfile.specs.NamesState.{IsNamed}
use Rattle.ov_graphfile.proofs.Commented.{comment_back}
use Rattle.ov_graphfile.proofs.Sole.{skipped_none}
use Rattle.ov_dump.specs.Dumps.{HasEntry, IsNameOf, IsTaken, ends_of, names_of, numbers}
use Rattle.ov_dump.specs.Dumps as dumps
use Rattle.ov_dump.specs.Faults.{AreSoundListings, IsSound}
use Rattle.ov_dump.specs.declared.dump_and_graph_types.Choice.{Choice}
use Rattle.ov_dump.specs.declared.dump_and_graph_types.Dump.{Dump}
use Rattle.ov_dump.specs.declared.dump_and_graph_types.HostEntry.{HostEntry}
use Rattle.ov_dump.specs.declared.dump_and_graph_types.Listing.{Listing}
use Rattle.ov_dump.proofs.Numbered.{name_is, name_one, named_node, node_one, numbered_differ}
use Rattle.ov_dump.specs.ShownNames.{shown_text}
use Rattle.ov_dump.specs.ImportTheorems.{IsShownNameOf, NamesAreRead, NamesComeBack, NamesDiffer}
use Rattle.ov_dump.proofs.OneShown.{one_shown}
use Rattle.ov_dump.proofs.Shown.{numbered, on_one_line, shown_some}

-- ---- names are not empty

entry_named : (entries : List HostEntry) (a : List ℕ) → ((e : HostEntry) → Has entries e → e.name ≢ [])
    → Has (names_of entries) a → a ≢ []
entry_named [] a sound h = absurd h
entry_named (e ∷ entries) a sound h = elim h [
  | inl same ↦ λ none. sound e (inl refl) (same ∙ none)
  | inr later ↦ entry_named entries a (λ x m. sound x (inr m)) later
]

listing_named : (listings : List Listing) (a b : List ℕ) → AreSoundListings listings → Has (ends_of listings) (a, b)
    → (a ≢ []) × (b ≢ [])
listing_named [] a b sound h = absurd h
listing_named (l ∷ listings) a b sound h = elim h [
  | inl same ↦
      let own = sound l (inl refl) in (
        (λ none. own.lists (ap (λ (p : List ℕ × List ℕ). p.0) same ∙ none)),
        (λ none. own.listed (ap (λ (p : List ℕ × List ℕ). p.1) same ∙ none)),
      )
  | inr later ↦ listing_named listings a b (λ x m. sound x (inr m)) later
]

named_some : (d : Dump) (a : List ℕ) → IsSound d → dumps.IsNamed d a → a ≢ []
named_some d a sound (inl entry) = entry_named d.entries a sound.0.named entry
named_some d a sound (inr (inl lists)) = (listing_named d.listings a lists.0 sound.1 lists.1).0
named_some d a sound (inr (inr listed)) = (listing_named d.listings listed.0 a sound.1 listed.1).1

taken_some : (choice : Choice) (d : Dump) (a : List ℕ) → IsSound d → IsTaken choice d a → a ≢ []
taken_some choice d a sound h =
    elim choice.entries_only as (λ t. MatchBool t (HasEntry d a) (dumps.IsNamed d a) → a ≢ []) [
      | true ↦ λ entry. named_some d a sound (inl entry)
      | false ↦ λ named. named_some d a sound named
    ] h

-- ---- the lines of nodes with names

-- at some place n is the node and s the name
At : List ℕ → List (List ℕ) → ℕ → List ℕ → Type 0
At nodes names n s = (p : ℕ) × (slice_get nodes p ≡ Some n) × (slice_get names p ≡ Some s)

-- a name that a comment can keep
Keepable : List ℕ → Type 0
Keepable name = IsOnOneLine name × (0 < length name)

-- lines that say no node name none
none_named : (before : List ℕ) (ls : List (List ℕ)) (n : ℕ) (s : List ℕ)
    → ((line : List ℕ) → Has ls line → node_said (graph_line line) ≡ []) → ¬ AreNaming before ls n s
none_named before [] n s none h = h
none_named before (l ∷ ls) n s none h = elim h [
  | inl by ↦ let e : [] ≡ n ∷ [] = sym (none l (inl refl)) ∙ by.1 in absurd (cc)
  | inr later ↦ none_named l ls n s (λ line m. none line (inr m)) later
]

-- the comment and the line of one node name it, and nothing else
one_named : (m : ℕ) (name before : List ℕ) (ls : List (List ℕ)) (nodes : List ℕ) (names : List (List ℕ)) (n : ℕ)
    (s : List ℕ) → m < number_limit → 0 < length name → AreNaming (node_text m) ls n s ↔ At nodes names n s
    → AreNaming before (comment_text m name ∷ node_text m ∷ ls) n s ↔ At (m ∷ nodes) (name ∷ names) n s
unfolding At
one_named m name before ls nodes names n s low some later = (to, λ h. back h.0 h.1 h.2) where
  silent : node_said (graph_line (comment_text m name)) ≡ []
  silent = ap node_said (skipped_none (words_of (comment_text m name)) (comment_skipped m name))

  to : AreNaming before (comment_text m name ∷ node_text m ∷ ls) n s → At (m ∷ nodes) (name ∷ names) n s
  to (inl by) = let e : [] ≡ n ∷ [] = sym silent ∙ by.1 in absurd (cc)
  to (inr (inl by)) =
      let e : Some (m, name) ≡ Some (n, s) = sym (comment_back m name low some) ∙ by.0 in
      let said = λ (o : Option (ℕ × List ℕ)). unwrap_or o (m, name) in
      (0, ap (λ o. Some (said o).0) e, ap (λ o. Some (said o).1) e)
  to (inr (inr behind)) = let r = later.0 behind in (suc r.0, r.1, r.2)

  back : (p : ℕ) → slice_get (m ∷ nodes) p ≡ Some n → slice_get (name ∷ names) p ≡ Some s
      → AreNaming before (comment_text m name ∷ node_text m ∷ ls) n s
  back zero e f =
      let node : m ≡ n = ap (λ o. unwrap_or o m) e in
      let same : name ≡ s = ap (λ o. unwrap_or o name) f in
      inr (inl (
        comment_back m name low some ∙ ap₂ (λ (k : ℕ) (t : List ℕ). Some (k, t)) node same,
        says_node m low ∙ ap (λ (k : ℕ). k ∷ []) node,
      ))
  back (suc p) e f = inr (inr (later.1 (p, e, f)))

-- the lines of all nodes
all_named : (nodes : List ℕ) (names : List (List ℕ)) (tail before : List ℕ) (n : ℕ) (s : List ℕ)
    → length names ≡ length nodes → AreIds nodes → AllByRecursion Keepable names
    → ((b : List ℕ) → ¬ AreNaming b (lines tail) n s)
    → AreNaming before (lines (flat_map named_node_line (zip nodes names) ++ tail)) n s ↔ At nodes names n s
unfolding At Keepable
all_named [] [] tail before n s each low keep none = (
  (λ h. absurd (none before h)),
  (λ h. let e : None ≡ Some n = h.1 in absurd (cc)),
)
all_named [] (name ∷ names) tail before n s each low keep none = absurd (omega (arith, each))
all_named (m ∷ nodes) [] tail before n s each low keep none = absurd (omega (arith, each))
all_named (m ∷ nodes) (name ∷ names) tail before n s each low keep none =
    let later : List ℕ = flat_map named_node_line (zip nodes names) in
    let split = ap lines (append_assoc (named_node_line (m, name)) later tail)
    ∙ named_lines m name (later ++ tail) low.0 keep.0.0 in
    subst (λ (ls : List (List ℕ)). AreNaming before ls n s ↔ At (m ∷ nodes) (name ∷ names) n s) (sym split)
    (one_named m name before (lines (later ++ tail)) nodes names n s low.0 keep.0.1
    (all_named nodes names tail (node_text m) n s (omega (arith, each)) low.1 keep.1 none))

-- ---- the nodes are numbered from 1

get_left : (xs : List ℕ) (y p : ℕ) → p < length xs → slice_get (xs ++ y ∷ []) p ≡ slice_get xs p
get_left [] y p l = absurd (omega arith)
get_left (x ∷ xs) y zero l = refl
get_left (x ∷ xs) y (suc p) l = get_left xs y p (omega arith)

get_last : (xs : List ℕ) (y : ℕ) → slice_get (xs ++ y ∷ []) (length xs) ≡ Some y
get_last [] y = refl
get_last (x ∷ xs) y = get_last xs y

number_at : (k p : ℕ) → p < k → slice_get (numbers k) p ≡ Some (suc p)
number_at zero p l = absurd (omega arith)
number_at (suc k) p l =
    let long = numbered k in
    let le : p ≤ k = omega (arith, l) in
    elim (eq-or-lt_of_le le) [
      | inl e ↦ ap (slice_get (numbers k ++ suc k ∷ [])) (e ∙ sym long) ∙ get_last (numbers k) (suc k)
          ∙ ap (λ (q : ℕ). Some (suc q)) (sym e)
      | inr below ↦ get_left (numbers k) (suc k) p (omega (arith, long, below)) ∙ number_at k p below
    ]

number_low : (k n : ℕ) → Has (numbers k) n → n ≤ k
number_low zero n h = absurd h
number_low (suc k) n h = elim (has_append_cases (numbers k) (suc k ∷ []) n h) [
  | inl m ↦ let le = number_low k n m in omega (arith, le)
  | inr m ↦ elim m [ inl e ↦ omega (arith, e) | inr none ↦ absurd none ]
]

-- what stands at one place are a node and the name that it is shown as
shown_at : (names : List (List ℕ)) (n : ℕ) (s : List ℕ)
    → At (numbers (length names)) (map shown_text names) n s ↔ IsShownNameOf names n s
unfolding At
shown_at names n s = (
  (λ h.
      let p : ℕ = h.0 in
      let long = numbered (length names) in
      let below : p < length (numbers (length names)) = slice_get_within (numbers (length names)) p n h.1 in
      let within : p < length names = omega (arith, long, below) in
      let a : List ℕ = get_or names p [] in
      let there : slice_get names p ≡ Some a = slice_get-get_or names p [] within in
      let node : Some (suc p) ≡ Some n = sym (number_at (length names) p within) ∙ h.1 in
      let name : Some s ≡ Some (shown_text a) =
      sym h.2 ∙ slice_get-map shown_text names p ∙ ap (option_map shown_text) there in
      (a, (p, sym (ap (λ o. unwrap_or o n) node), there), ap (λ o. unwrap_or o s) name)),
  (λ h.
      let a : List ℕ = h.0 in
      let p : ℕ = h.1.0 in
      let within : p < length names = slice_get_within names p a h.1.2 in (
        p,
        number_at (length names) p within ∙ ap (λ (k : ℕ). Some k) (sym h.1.1),
        slice_get-map shown_text names p ∙ ap (option_map shown_text) h.1.2
            ∙ ap (λ (t : List ℕ). Some t) (sym h.2),
      )),
)

-- ---- the theorems

keepable : (names : List (List ℕ)) → ((a : List ℕ) → Has names a → a ≢ []) → AllByRecursion IsUtf8 names
    → AllByRecursion Keepable (map shown_text names)
unfolding Keepable
keepable [] some utf8 = tt
keepable (a ∷ names) some utf8 = (
  (on_one_line a, shown_some a utf8.0 (some a (inl refl))),
  keepable names (λ b m. some b (inr m)) utf8.1,
)

pub come_back : NamesComeBack
come_back choice d text import n s =
    let g = import.graph in
    let names = import.names in
    let shown : List (List ℕ) = map shown_text names in
    let count : ℕ = length names in
    let follows = import.follows in
    let long = numbered count in
    let within : count ≤ 32768 =
    let few = import.within in let size = ap length follows.nodes in omega (arith, few, size, long) in
    let ids : AreIds (numbers count) = all_from_members (λ k. k < number_limit) (numbers count)
    (λ k m. let le = number_low count k m in omega (arith, le, within)) in
    let each : length shown ≡ length (numbers count) = length-map names shown_text ∙ sym long in
    let links : List ℕ = flat_map link_line g.links in
    let ends = link_ids g follows.graph (subst AreIds (sym follows.nodes) ids) in
    let keep = keepable names (λ a m. taken_some choice d a import.sound ((follows.taken a).0
    ((follows.numbered.each a).0 m)))
    import.utf8 in
    let none = λ (b : List ℕ). none_named b (lines links) n s (say_no_node g.links ends) in
    let written : text ≡ flat_map named_node_line (zip (numbers count) shown) ++ links =
    import.written ∙ ap (λ (nodes : List ℕ). flat_map named_node_line (zip nodes shown) ++ links) follows.nodes in
    let by = all_named (numbers count) shown links [] n s each ids keep none in
    let are = shown_at names n s in
    subst (λ (t : List ℕ). NameSaid t n s ↔ IsShownNameOf names n s) (sym written)
    ((λ h. are.0 (by.0 h)), (λ h. by.1 (are.1 h)))

pub are_read : NamesAreRead
are_read choice d text import names are n s = (
  (λ h. (come_back choice d text import n s).0 (are.said n s h)),
  (λ h.
      let said = (come_back choice d text import n s).1 h in
      let node = subst (λ (nodes : List ℕ). Has nodes n) (sym import.follows.nodes)
      (named_node import.names n h.0 h.1) in
      let read = are.all n s node said in
      let back = (come_back choice d text import n read.0).0 (are.said n read.0 read.1) in
      let same : back.0 ≡ h.0 = name_one import.names n back.0 h.0 back.1 h.1 in
      subst (IsNamed names n) (back.2 ∙ ap shown_text same ∙ sym h.2) read.1),
)

pub differ : NamesDiffer
differ choice d text import m n s of_m of_n =
    let names = import.names in
    let a = (come_back choice d text import m s).0 of_m in
    let b = (come_back choice d text import n s).0 of_n in
    let utf8 = λ (i : ℕ) (name : List ℕ) (is : IsNameOf names i name).
    all_member IsUtf8 names name import.utf8 (name_is names i name is) in
    let same : a.0 ≡ b.0 = one_shown a.0 b.0 (utf8 m a.0 a.1) (utf8 n b.0 b.1) (sym a.2 ∙ b.2) in
    node_one names m n b.0
    (numbered_differ import.follows.sorted names import.follows.ascend import.follows.numbered)
    (subst (IsNameOf names m) same a.1) b.1
