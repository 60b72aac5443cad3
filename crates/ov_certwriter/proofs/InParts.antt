-- The text of a file without entries, cut at two places, is around the texts of the entries of the whole file.
use Rattle.std.proofs.Common.{◌≡◌, ◌∙◌, ℕ, ◌+◌, ◌-◌, ◌<◌, ◌≤◌, true, false, if◌then◌else◌, List, [], ◌∷◌, ◌++◌}
use Rattle.std.proofs.Common.{codes, decimal, length, map, take, drop, slice_range, refl, sym, ap, subst, arith, append_assoc, length-append}
use Rattle.std.proofs.lemmas.Fmt.{decimal_digit}
use Rattle.std.proofs.Math.Seq.{take-append_seam, drop-append_seam}
use Rattle.serde_json.specs.Data.{Data, Items, Members, no_items, array, object, string, no_members, member}
use Rattle.serde_json.specs.View.{items_of}
use Rattle.serde_json.specs.Written.{compact_text, items_text, members_text}
use Rattle.serde_json.proofs.OnLiterals.{serde_json_on_literals}
use Rattle.ov_graph.specs.Links.{LinkGraph}
use Rattle.ov_cert.specs.declared.cert.Split.{Split}
use Rattle.ov_cert.specs.declared.cert.Cert.TheVariants as cert
use Rattle.ov_certfile.specs.Kinds.{verdict_text, version_number, names_group}
use Rattle.ov_certfile.specs.DataOf.{whole_data, ids_data, list_data, link_data, pair_data, fan_data, group_then}
use Rattle.ov_certfile.specs.DataOf.{version_for, data_in, data_of}
use Rattle.ov_certfile.specs.declared.version.Version.{Version}
use Rattle.ov_certfile.specs.declared.version.Version.TheVariants.{One, Two, Three}
use Rattle.ov_certfile.specs.declared.linked_or_split.Verdict.TheVariants.{Split as VerdictSplit}
use Rattle.ov_certwriter.specs.Code.Blocks.{items_after}
use Rattle.ov_certwriter.specs.Code.Parts.{without_entries, cut_text, ArePartsOf}
use Rattle.ov_certwriter.proofs.PutTexts.{items_closed}

-- ---- the members of the file

-- those behind the fans, with these pairs and these members behind
abbrev middle_members : Version → Split → LinkGraph → List ℕ → ℕ → Items → Members → Members
middle_members version c g group moment pairs ms =
    member (codes "far") (whole_data c.far)
    (group_then version group
    (member (codes "k") (whole_data c.k)
    (member (codes "links") (list_data link_data g.links)
    (member (codes "moment") (whole_data moment)
    (member (codes "near") (whole_data c.near)
    (member (codes "nodes") (ids_data g.nodes)
    (member (codes "pairs") (array pairs) ms)))))))

-- those behind the pairs
abbrev last_members : Version → Split → Members
last_members version c =
    member (codes "side") (ids_data c.side)
    (member (codes "verdict") (string (verdict_text VerdictSplit))
    (member (codes "version") (whole_data (version_number version)) no_members))

-- all of them
abbrev all_members : Version → Split → LinkGraph → List ℕ → ℕ → Items → Items → Members
all_members version c g group moment fans pairs =
    member (codes "cut") (ids_data c.cut)
    (member (codes "fans") (array fans) (middle_members version c g group moment pairs (last_members version c)))

-- ---- their texts

-- the text up to the fans
head_text : Split → List ℕ
head_text c = codes "{\"cut\":" ++ (compact_text (ids_data c.cut) ++ codes ",\"fans\":[")

-- the text of a member behind others
abbrev member_text : List ℕ → Data → List ℕ
member_text k d = 44 ∷ (compact_text (string k) ++ 58 ∷ compact_text d)

-- the text of the group behind other members, if the version names one
abbrev group_text : Version → List ℕ → List ℕ
group_text version group = if names_group version then member_text (codes "group") (ids_data group) else []

-- the text between the fans and the pairs
middle_text : Version → Split → LinkGraph → List ℕ → ℕ → List ℕ
middle_text version c g group moment =
    member_text (codes "far") (whole_data c.far)
    ++ (group_text version group
    ++ (member_text (codes "k") (whole_data c.k)
    ++ (member_text (codes "links") (list_data link_data g.links)
    ++ (member_text (codes "moment") (whole_data moment)
    ++ (member_text (codes "near") (whole_data c.near)
    ++ (member_text (codes "nodes") (ids_data g.nodes)
    ++ 44 ∷ (compact_text (string (codes "pairs")) ++ codes ":[")))))))

middle_is : (version : Version) (c : Split) (g : LinkGraph) (group : List ℕ) (moment : ℕ) (pairs : Items) (ms : Members)
    → members_text true (middle_members version c g group moment pairs ms)
    ≡ middle_text version c g group moment ++ (items_text false pairs ++ members_text true ms)
unfolding middle_text
middle_is One c g group moment pairs ms = simp append_assoc
middle_is Two c g group moment pairs ms = simp append_assoc
middle_is Three c g group moment pairs ms = simp append_assoc

head_is : (c : Split) (fans : Items) (ms : Members)
    → compact_text (object (member (codes "cut") (ids_data c.cut) (member (codes "fans") (array fans) ms)))
    ≡ head_text c ++ (items_text false fans ++ members_text true ms)
unfolding head_text serde_json_on_literals
head_is c fans ms = simp append_assoc

-- the text of the file, whatever its entries are
text_is : (version : Version) (c : Split) (g : LinkGraph) (group : List ℕ) (moment : ℕ) (fans pairs : Items)
    → compact_text (object (all_members version c g group moment fans pairs))
    ≡ head_text c ++ (items_text false fans ++ (middle_text version c g group moment
    ++ (items_text false pairs ++ members_text true (last_members version c))))
text_is version c g group moment fans pairs =
    head_is c fans (middle_members version c g group moment pairs (last_members version c))
    ∙ ap (λ t. head_text c ++ (items_text false fans ++ t))
    (middle_is version c g group moment pairs (last_members version c))

-- ---- lengths

-- how long the text up to the fans is
head_long : (c : Split) → length (head_text c) ≡ length (compact_text (ids_data c.cut)) + 16
unfolding head_text
head_long c =
    let ids = compact_text (ids_data c.cut) in
    omega (
      arith,
      length-append (codes "{\"cut\":") (ids ++ codes ",\"fans\":["),
      length-append ids (codes ",\"fans\":["),
    )

-- the number of a version has one digit
one_digit : (version : Version) → version_number version < 10
one_digit One = omega arith
one_digit Two = omega arith
one_digit Three = omega arith

-- the text behind the pairs, with the bracket that ends them
tail_is : (version : Version) (c : Split) → (end : List ℕ) × (length end ≡ 31)
    × (codes "]" ++ members_text true (last_members version c)
    ≡ codes "],\"side\":" ++ (compact_text (ids_data c.side) ++ end))
unfolding serde_json_on_literals
tail_is version c =
    let end = λ (number : List ℕ). codes ",\"verdict\":\"split\",\"version\":" ++ (number ++ codes "}") in
    let number = version_number version in
    (end (decimal number), ap (λ number. length (end number)) (decimal_digit number (one_digit version)), refl)

-- how long it is
tail_long : (version : Version) (c : Split)
    → length (codes "]" ++ members_text true (last_members version c)) ≡ length (compact_text (ids_data c.side)) + 40
tail_long version c =
    let (end, long, is) = tail_is version c in
    let ids = compact_text (ids_data c.side) in
    ap length is ∙ omega (arith, long, length-append (codes "],\"side\":") (ids ++ end), length-append ids end)

-- ---- the cut

-- a text that is cut between its three parts
cut_is : (a b d text : List ℕ) (first second : ℕ) → text ≡ a ++ (b ++ d) → first ≡ length a
    → second ≡ length text - length d → cut_text text first second ≡ record { head = a; middle = b; tail = d }
cut_is a b d text first second is f s =
    let long = ap length is ∙ length-append a (b ++ d) in
    let inner = length-append b d in
    let second_is : second ≡ length (a ++ b) = omega (arith, long, inner, s, length-append a b) in
    let part : second - first ≡ length b = omega (arith, second_is, f, length-append a b) in
    let front : take first text ≡ a = rw (is, f) (take-append_seam a (b ++ d)) in
    let rest : drop first text ≡ b ++ d = rw (is, f) (drop-append_seam a (b ++ d)) in
    let mid : slice_range text first second ≡ b = rw (rest, part) (take-append_seam b d) in
    let last : drop second text ≡ d = rw (is, second_is, sym (append_assoc a b d)) (drop-append_seam (a ++ b) d) in
    rw (front, mid, last) refl

-- the text of the file without entries
hollow_is : (c : Split) (g : LinkGraph) (group : List ℕ) (moment : ℕ)
    → compact_text (data_of (cert.Split (without_entries c)) g group moment)
    ≡ head_text c ++ ((codes "]" ++ middle_text (version_for g group moment) c g group moment)
    ++ (codes "]" ++ members_text true (last_members (version_for g group moment) c)))
unfolding data_of data_in
hollow_is c g group moment = text_is (version_for g group moment) c g group moment no_items no_items

-- it is long enough to be cut
pub long_enough : (c : Split) (g : LinkGraph) (group : List ℕ) (moment : ℕ) (text : List ℕ)
    → text ≡ compact_text (data_of (cert.Split (without_entries c)) g group moment)
    → (length (compact_text (ids_data c.cut)) + 16) + (length (compact_text (ids_data c.side)) + 40) ≤ length text
long_enough c g group moment text is =
    let version = version_for g group moment in
    let middle = codes "]" ++ middle_text version c g group moment in
    let tail = codes "]" ++ members_text true (last_members version c) in
    let long = ap length (is ∙ hollow_is c g group moment) in
    omega (
      arith,
      long,
      length-append (head_text c) (middle ++ tail),
      length-append middle tail,
      head_long c,
      tail_long version c,
    )

-- a list of entries with the bracket that ends it, and what stands behind
closed_then : (items all more : List ℕ) → items ++ codes "]" ≡ all → items ++ (codes "]" ++ more) ≡ all ++ more
closed_then items all more h = sym (append_assoc items (codes "]") more) ∙ ap (λ t. t ++ more) h

-- entries between the parts make the whole file
joined : (c : Split) (g : LinkGraph) (group : List ℕ) (moment : ℕ) → ArePartsOf c g group moment (record {
  head = head_text c;
  middle = codes "]" ++ middle_text (version_for g group moment) c g group moment;
  tail = codes "]" ++ members_text true (last_members (version_for g group moment) c);
})
unfolding data_of data_in
joined c g group moment pairs fans =
    let version = version_for g group moment in
    let last = members_text true (last_members version c) in
    let middle = middle_text version c g group moment in
    let fan_texts = items_text false (items_of (map fan_data fans)) in
    let pair_texts = items_text false (items_of (map pair_data pairs)) in
    let behind = closed_then (items_after pair_data false pairs) pair_texts last
    (items_closed pair_data false pairs) in
    ap (λ t. head_text c ++ (items_after fan_data false fans ++ ((codes "]" ++ middle) ++ t))) behind
    ∙ ap (λ t. head_text c ++ t) (closed_then (items_after fan_data false fans) fan_texts
    (middle ++ (pair_texts ++ last)) (items_closed fan_data false fans))
    ∙ sym (text_is version c g group moment (items_of (map fan_data fans)) (items_of (map pair_data pairs)))

-- the text of the file without entries, cut at these places, has the parts of the files with entries
pub parts_of_hollow : (c : Split) (g : LinkGraph) (group : List ℕ) (moment : ℕ) (text : List ℕ) (first second : ℕ)
    → text ≡ compact_text (data_of (cert.Split (without_entries c)) g group moment)
    → first ≡ length (compact_text (ids_data c.cut)) + 16
    → second ≡ length text - (length (compact_text (ids_data c.side)) + 40)
    → ArePartsOf c g group moment (cut_text text first second)
parts_of_hollow c g group moment text first second is f s =
    let version = version_for g group moment in
    let tail = tail_long version c in
    let cut = cut_is (head_text c) (codes "]" ++ middle_text version c g group moment)
    (codes "]" ++ members_text true (last_members version c)) text first second (is ∙ hollow_is c g group moment)
    (f ∙ sym (head_long c)) (s ∙ ap (λ (n : ℕ). length text - n) (sym tail)) in
    subst (ArePartsOf c g group moment) (sym cut) (joined c g group moment)
