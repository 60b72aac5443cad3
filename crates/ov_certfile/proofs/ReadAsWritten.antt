-- The text that is written of a file reads as the object of which it is the text.
use Rattle.std.proofs.Common.{◌≡◌, ◌∙◌, ℕ, suc, ◌^◌, ◌<◌, ◌≤◌, max, Bool, true, false, List, [], ◌∷◌, Option, Some}
use Rattle.std.proofs.Common.{None, map, option_map, option_and_then, nat_lt, if◌then◌else◌, refl, sym, ap, ap₂, subst}
use Rattle.std.proofs.Common.{arith, append-nil}
use Rattle.std.proofs.lemmas.Grind.{common_steps}
use Rattle.json.specs.Lex.{tokens}
use Rattle.json.specs.Json as json
use Rattle.json.specs.Tree.{json_tokens, HasNumbers, ItemsHaveNumbers, MembersHaveNumbers}
use Rattle.json.specs.Tree as tree
use Rattle.json.proofs.Printed.Decimals.{IsNumber-decimal}
use Rattle.json.proofs.Printed.Tokens.{tokens-print}
use Rattle.json.proofs.Printed.Trees.{value-json_tokens, ArePrintable-json_tokens}
use Rattle.serde_json.specs.Data.{Data, null, boolean, number, string, array, object, Items, no_items, item, Members}
use Rattle.serde_json.specs.Data.{no_members, member, put, depth, items_depth, members_depth}
use Rattle.serde_json.specs.Read.{read, of_json, of_items, of_members, max_depth}
use Rattle.serde_json.specs.View.{items_of}
use Rattle.serde_json.specs.Written.{outline, items_outline, members_outline, compact_text}
use Rattle.serde_json.proofs.Numbers.{number_of-decimal}
use Rattle.serde_json.proofs.Texts.{print-outline}
use Rattle.serde_json.proofs.OnLiterals.{serde_json_on_literals}
use Rattle.ov_ids.specs.Limits.{number_limit}
use Rattle.ov_ids.specs.Options.{◌>>=◌}
use Rattle.ov_graph.specs.Links.{LinkGraph}
use Rattle.ov_cert.specs.declared.cert.Cert.{Cert}
use Rattle.ov_cert.specs.declared.cert.Cert.TheVariants as cert
use Rattle.ov_cert.specs.declared.cert.PairPaths.{PairPaths}
use Rattle.ov_cert.specs.declared.cert.FanPaths.{FanPaths}
use Rattle.ov_certfile.specs.Forms.{id_in, each_in, list_in, ids_in, both_of, link_in, paths_in, pair_in}
use Rattle.ov_certfile.specs.Forms.{fan_in}
use Rattle.ov_certfile.specs.Kinds.{version_number, names_group}
use Rattle.ov_certfile.specs.DataOf.{data_in, data_of, version_for, whole_data, list_data, ids_data, link_data}
use Rattle.ov_certfile.specs.DataOf.{paths_data, pair_data, fan_data}
use Rattle.ov_certfile.specs.ReadsBack.{ReadsBack, TextReadsBack}
use Rattle.ov_certfile.specs.Code.Writing.{GraphReadsBack, CertReadsBack, FileReadsBack}
use Rattle.ov_certfile.specs.declared.version.Version.{Version}
use Rattle.ov_certfile.specs.declared.version.Version.TheVariants.{One, Two, Three}
use Rattle.ov_certfile.proofs.Depth.{depth_within, version_depth}

-- ---- a value that its text says

-- the value's outline says the value, and its numbers have the form of numbers
record IsReadable (d : Data) : Type 0 where
  reads : of_json (outline d) ≡ Some d
  numbers : HasNumbers (outline d)

mutual
  outline_depth : (d : Data) → tree.depth (outline d) ≡ depth d
  outline_depth null = refl
  outline_depth (boolean b) = refl
  outline_depth (number n) = refl
  outline_depth (string s) = refl
  outline_depth (array ds) = ap suc (items_outline_depth ds)
  outline_depth (object ms) = ap suc (members_outline_depth ms)

  items_outline_depth : (ds : Items) → tree.items_depth (items_outline ds) ≡ items_depth ds
  items_outline_depth no_items = refl
  items_outline_depth (item d ds) = ap₂ max (outline_depth d) (items_outline_depth ds)

  members_outline_depth : (ms : Members) → tree.members_depth (members_outline ms) ≡ members_depth ms
  members_outline_depth no_members = refl
  members_outline_depth (member k d ms) = ap₂ max (outline_depth d) (members_outline_depth ms)

-- a text with the tokens of such a value reads as the value
lexed_reads : (text : List ℕ) (d : Data) → IsReadable d → depth d ≤ max_depth → tokens text ≡ json_tokens (outline d)
    → read text ≡ Some d
lexed_reads text d h shallow lexed =
    let j = outline d in
    let within : tree.depth j ≤ max_depth = subst (λ n. n ≤ max_depth) (sym (outline_depth d)) shallow in
    ap (λ o. option_and_then of_json (option_and_then (λ p. json.if_last p.0 p.1) o))
    (ap (json.value max_depth) (lexed ∙ sym (append-nil _)) ∙ value-json_tokens j max_depth [] within) ∙ h.reads

-- the compact text of such a value reads as the value
text_reads : (d : Data) → IsReadable d → depth d ≤ max_depth → read (compact_text d) ≡ Some d
text_reads d h shallow =
    let j = outline d in
    lexed_reads (compact_text d) d h shallow
    (ap tokens (sym (print-outline d)) ∙ tokens-print (json_tokens j) (ArePrintable-json_tokens j h.numbers))

-- ---- what reads back can be read

whole_readable : (n : ℕ) → n < 2 ^ 64 → IsReadable (whole_data n)
whole_readable n h = record { reads = ap (option_map number) (number_of-decimal n h); numbers = IsNumber-decimal n h }

text_readable : (s : List ℕ) → IsReadable (string s)
text_readable s = record { reads = refl; numbers = tt }

in_range : (b : Bool) (n : ℕ) → (if b then Some n else None) ≡ Some n → b ≡ true
in_range true n e = refl
in_range false n e = absurd (cc e)

id_readable : (n : ℕ) → id_in (whole_data n) ≡ Some n → IsReadable (whole_data n)
id_readable n h =
    let e : nat_lt n number_limit ≡ true = in_range (nat_lt n number_limit) n h in
    let few : n < 2 ^ 64 = grind (arith, common_steps) in
    whole_readable n few

-- the first item and those after it were read
parted : {X : Type 0} (o : Option X) (p : Option (List X)) (y : X) (ys : List X)
    → (o >>= λ x. p >>= λ xs. Some (x ∷ xs)) ≡ Some (y ∷ ys) → (o ≡ Some y) × (p ≡ Some ys)
parted None p y ys e = absurd (cc e)
parted (Some x) None y ys e = absurd (cc e)
parted (Some x) (Some xs) y ys e = (cc, cc)

record AreReadable (ds : Items) : Type 0 where
  reads : of_items (items_outline ds) ≡ Some ds
  numbers : ItemsHaveNumbers (items_outline ds)

items_readable : {X : Type 0} (form : Data → Option X) (as_data : X → Data)
    → ((x : X) → form (as_data x) ≡ Some x → IsReadable (as_data x)) → (xs : List X)
    → each_in form (items_of (map as_data xs)) ≡ Some xs → AreReadable (items_of (map as_data xs))
items_readable form as_data each [] h = record { reads = refl; numbers = tt }
items_readable form as_data each (x ∷ xs) h =
    let p = parted (form (as_data x)) (each_in form (items_of (map as_data xs))) x xs h in
    let first = each x p.0 in
    let rest = items_readable form as_data each xs p.1 in
    record { reads = rw (first.reads, rest.reads) refl; numbers = (first.numbers, rest.numbers) }

list_readable : {X : Type 0} (form : Data → Option X) (as_data : X → Data)
    → ((x : X) → form (as_data x) ≡ Some x → IsReadable (as_data x)) → (xs : List X)
    → list_in form (list_data as_data xs) ≡ Some xs → IsReadable (list_data as_data xs)
list_readable form as_data each xs h =
    let items = items_readable form as_data each xs h in
    record { reads = ap (option_map array) items.reads; numbers = items.numbers }

ids_readable : (ids : List ℕ) → ids_in (ids_data ids) ≡ Some ids → IsReadable (ids_data ids)
ids_readable = list_readable id_in whole_data id_readable

paths_readable : (paths : List (List ℕ)) → paths_in (paths_data paths) ≡ Some paths → IsReadable (paths_data paths)
paths_readable = list_readable ids_in ids_data ids_readable

both_read : (o : Option (List ℕ)) (l : ℕ × ℕ) → (o >>= both_of) ≡ Some l → o ≡ Some (l.0 ∷ l.1 ∷ [])
both_read None l e = absurd (cc e)
both_read (Some []) l e = absurd (cc e)
both_read (Some (a ∷ [])) l e = absurd (cc e)
both_read (Some (a ∷ b ∷ [])) l e = ap (option_map (λ p. p.0 ∷ p.1 ∷ [])) e
both_read (Some (a ∷ b ∷ c ∷ rest)) l e = absurd (cc e)

link_readable : (l : ℕ × ℕ) → link_in (link_data l) ≡ Some l → IsReadable (link_data l)
link_readable l h = ids_readable (l.0 ∷ l.1 ∷ []) (both_read (ids_in (link_data l)) l h)

-- ---- objects

-- the members, read after those that were found, give all of them
record ReadsMembers (ms : Members) (found : Members) (all : Members) : Type 0 where
  reads : of_members (members_outline ms) found ≡ Some all
  numbers : MembersHaveNumbers (members_outline ms)

no_more : (all : Members) → ReadsMembers no_members all all
no_more all = record { reads = refl; numbers = tt }

one_more : (k : List ℕ) (d : Data) (ms found all : Members) → IsReadable d → ReadsMembers ms (put k d found) all
    → ReadsMembers (member k d ms) found all
one_more k d ms found all h rest = record { reads = rw h.reads rest.reads; numbers = (h.numbers, rest.numbers) }

object_readable : (ms : Members) → ReadsMembers ms no_members ms → IsReadable (object ms)
object_readable ms h = record { reads = ap (option_map object) h.reads; numbers = h.numbers }

pair_parts : (a b : Option ℕ) (c : Option (List (List ℕ))) (p : PairPaths)
    → (a >>= λ i. b >>= λ j. c >>= λ paths. Some (record { i = i; j = j; paths = paths })) ≡ Some p
    → (a ≡ Some p.i) × (b ≡ Some p.j) × (c ≡ Some p.paths)
pair_parts None b c p e = absurd (cc e)
pair_parts (Some i) None c p e = absurd (cc e)
pair_parts (Some i) (Some j) None p e = absurd (cc e)
pair_parts (Some i) (Some j) (Some paths) p e = (
  ap (option_map (λ (q : PairPaths). q.i)) e,
  ap (option_map (λ (q : PairPaths). q.j)) e,
  ap (option_map (λ (q : PairPaths). q.paths)) e,
)

fan_parts : (b : Option ℕ) (c : Option (List (List ℕ))) (p : FanPaths)
    → (b >>= λ j. c >>= λ paths. Some (record { j = j; paths = paths })) ≡ Some p
    → (b ≡ Some p.j) × (c ≡ Some p.paths)
fan_parts None c p e = absurd (cc e)
fan_parts (Some j) None p e = absurd (cc e)
fan_parts (Some j) (Some paths) p e =
    (ap (option_map (λ (q : FanPaths). q.j)) e, ap (option_map (λ (q : FanPaths). q.paths)) e)

pair_told : (p : PairPaths) → pair_in (pair_data p) ≡ Some p
    → (id_in (whole_data p.i) ≡ Some p.i) × (id_in (whole_data p.j) ≡ Some p.j)
    × (paths_in (paths_data p.paths) ≡ Some p.paths)
unfolding pair_in pair_data serde_json_on_literals
pair_told p h = pair_parts (id_in (whole_data p.i)) (id_in (whole_data p.j)) (paths_in (paths_data p.paths)) p h

fan_told : (p : FanPaths) → fan_in (fan_data p) ≡ Some p
    → (id_in (whole_data p.j) ≡ Some p.j) × (paths_in (paths_data p.paths) ≡ Some p.paths)
unfolding fan_in fan_data serde_json_on_literals
fan_told p h = fan_parts (id_in (whole_data p.j)) (paths_in (paths_data p.paths)) p h

pair_readable : (p : PairPaths) → pair_in (pair_data p) ≡ Some p → IsReadable (pair_data p)
unfolding pair_data
pair_readable p h =
    let t = pair_told p h in
    object_readable _ (one_more _ _ _ _ _ (id_readable p.i t.0) (one_more _ _ _ _ _ (id_readable p.j t.1)
    (one_more _ _ _ _ _ (paths_readable p.paths t.2) (no_more _))))

fan_readable : (p : FanPaths) → fan_in (fan_data p) ≡ Some p → IsReadable (fan_data p)
unfolding fan_data
fan_readable p h =
    let t = fan_told p h in
    object_readable _ (one_more _ _ _ _ _ (id_readable p.j t.0)
    (one_more _ _ _ _ _ (paths_readable p.paths t.1) (no_more _)))

-- ---- the object of a file

-- the object of a file that names its group
named_readable : (version : Version) (c : Cert) (g : LinkGraph) (q : List ℕ) (m : ℕ) → names_group version ≡ true
    → version_number version < 2 ^ 64 → GraphReadsBack g → CertReadsBack c → ids_in (ids_data q) ≡ Some q
    → m < number_limit → IsReadable (data_in version c g q m)
unfolding data_in
named_readable version (cert.Linked k) g q m named few h count group t =
    rw named (object_readable _
    (one_more _ _ _ _ _ (ids_readable q group)
    (one_more _ _ _ _ _ (id_readable k count)
    (one_more _ _ _ _ _ (list_readable link_in link_data link_readable g.links h.links)
    (one_more _ _ _ _ _ (whole_readable m (omega (arith, t)))
    (one_more _ _ _ _ _ (ids_readable g.nodes h.nodes)
    (one_more _ _ _ _ _ (text_readable _)
    (one_more _ _ _ _ _ (whole_readable (version_number version) few) (no_more _)))))))))
named_readable version (cert.Split c) g q m named few h back group t =
    let cut = back.1 in
    let entries = back.2 in
    rw named (object_readable _
    (one_more _ _ _ _ _ (ids_readable c.cut cut.cut)
    (one_more _ _ _ _ _ (list_readable fan_in fan_data fan_readable c.fans entries.fans)
    (one_more _ _ _ _ _ (id_readable c.far cut.far)
    (one_more _ _ _ _ _ (ids_readable q group)
    (one_more _ _ _ _ _ (id_readable c.k back.0)
    (one_more _ _ _ _ _ (list_readable link_in link_data link_readable g.links h.links)
    (one_more _ _ _ _ _ (whole_readable m (omega (arith, t)))
    (one_more _ _ _ _ _ (id_readable c.near cut.near)
    (one_more _ _ _ _ _ (ids_readable g.nodes h.nodes)
    (one_more _ _ _ _ _ (list_readable pair_in pair_data pair_readable c.pairs entries.pairs)
    (one_more _ _ _ _ _ (ids_readable c.side cut.side)
    (one_more _ _ _ _ _ (text_readable _)
    (one_more _ _ _ _ _ (whole_readable (version_number version) few) (no_more _)))))))))))))))

file_readable : (version : Version) (c : Cert) (g : LinkGraph) (q : List ℕ) (m : ℕ) → FileReadsBack version c g q
    → m < number_limit → IsReadable (data_in version c g q m)
unfolding data_in
file_readable One (cert.Linked k) g q m h t =
    object_readable _
    (one_more _ _ _ _ _ (id_readable k h.cert)
    (one_more _ _ _ _ _ (list_readable link_in link_data link_readable g.links h.graph.links)
    (one_more _ _ _ _ _ (whole_readable m (omega (arith, t)))
    (one_more _ _ _ _ _ (ids_readable g.nodes h.graph.nodes)
    (one_more _ _ _ _ _ (text_readable _)
    (one_more _ _ _ _ _ (whole_readable 1 (omega arith)) (no_more _)))))))
file_readable One (cert.Split c) g q m h t =
    let cut = h.cert.1 in
    let entries = h.cert.2 in
    object_readable _
    (one_more _ _ _ _ _ (ids_readable c.cut cut.cut)
    (one_more _ _ _ _ _ (list_readable fan_in fan_data fan_readable c.fans entries.fans)
    (one_more _ _ _ _ _ (id_readable c.far cut.far)
    (one_more _ _ _ _ _ (id_readable c.k h.cert.0)
    (one_more _ _ _ _ _ (list_readable link_in link_data link_readable g.links h.graph.links)
    (one_more _ _ _ _ _ (whole_readable m (omega (arith, t)))
    (one_more _ _ _ _ _ (id_readable c.near cut.near)
    (one_more _ _ _ _ _ (ids_readable g.nodes h.graph.nodes)
    (one_more _ _ _ _ _ (list_readable pair_in pair_data pair_readable c.pairs entries.pairs)
    (one_more _ _ _ _ _ (ids_readable c.side cut.side)
    (one_more _ _ _ _ _ (text_readable _)
    (one_more _ _ _ _ _ (whole_readable 1 (omega arith)) (no_more _)))))))))))))
file_readable Two c g q m h t = named_readable Two c g q m refl (omega arith) h.graph h.cert h.named t
file_readable Three c g q m h t = named_readable Three c g q m refl (omega arith) h.graph h.cert h.named t

-- a text with the tokens of the object reads as the object
pub tokens_read : (text : List ℕ) (version : Version) (c : Cert) (g : LinkGraph) (q : List ℕ) (m : ℕ)
    → FileReadsBack version c g q → m < number_limit → tokens text ≡ json_tokens (outline (data_in version c g q m))
    → read text ≡ Some (data_in version c g q m)
tokens_read text version c g q m h t lexed =
    lexed_reads text (data_in version c g q m) (file_readable version c g q m h t) (version_depth version c g q m) lexed

-- the object of the version that is written is the object that is written
pub in_version_for : (version : Version) (c : Cert) (g : LinkGraph) (q : List ℕ) (m : ℕ) → version ≡ version_for g q m
    → data_in version c g q m ≡ data_of c g q m
unfolding data_of
in_version_for version c g q m v = ap (λ w. data_in w c g q m) v

-- the text of the object has the meaning of the object
pub text_reads_back : (newest version : Version) (c : Cert) (g : LinkGraph) (q : List ℕ) (m : ℕ)
    → version ≡ version_for g q m → FileReadsBack version c g q → m < number_limit → ReadsBack newest c g q m
    → TextReadsBack newest c g q m (compact_text (data_of c g q m))
text_reads_back newest version c g q m v h t back =
    let readable = subst IsReadable (in_version_for version c g q m v) (file_readable version c g q m h t) in
    let reads = text_reads (data_of c g q m) readable (depth_within c g q m) in
    record { says = record { json = rw reads (back.says); no_json = rw reads tt } }
