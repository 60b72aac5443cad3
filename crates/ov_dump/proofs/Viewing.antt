-- Members of an object and items of a list that are read one after another.
use Rattle.std.proofs.Common.{◌≡◌, ◌≢◌, ◌∙◌, ◌+◌, ◌<◌, ◌≤◌, ℕ, zero, suc, List, [], ◌∷◌, ◌++◌, inl, inr, sym, ap, subst}
use Rattle.std.proofs.Common.{refl, append_assoc, append-nil, arith, drop, get_or, length, Bor, Option, Some, None}
use Rattle.std.proofs.Common.{unwrap_or, true, false}
use Rattle.json.specs.Find.{is_null}
use Rattle.json.specs.Json.{Json, null, boolean, number, string, array, object, Items, no_items, item}
use Rattle.json.specs.Json.{Members, no_members, member}
use Rattle.json.specs.Value.{items_view, members_view, value_view}
use Rattle.json.specs.declared.value.Value.{Value}
use Rattle.ov_dump.specs.declared.dump_and_graph_types.Dump.{Dump}
use Rattle.ov_dump.specs.declared.dump_and_graph_types.HostEntry.{HostEntry}
use Rattle.ov_dump.specs.declared.dump_and_graph_types.Listing.{Listing}
use Rattle.ov_dump.specs.Code.Reading.{FailsAt, FailsFrom, IsDumpIn, IsNoObject, as_items, as_members}
use Rattle.ov_dump.specs.Views.{IsJson, IsViewsFault, SayDump, SaysViews, listed, listings_of, names_in, peers}
use Rattle.ov_ids.specs.Options.{◌>>=◌}
use Rattle.ov_dump.specs.declared.reading_fault.DumpReadFault.{DumpReadFault}
use Rattle.ov_dump.specs.declared.reading_fault.DumpReadFault.TheVariants.{NotJson, NotViews, NoView, UnreadLine}
use Rattle.ov_dump.specs.declared.reading_fault.DumpReadFault.TheVariants.{OutOfMemory}

-- ---- items

-- these names, and those that follow
abbrev pub with : List (List ℕ) → Option (List (List ℕ)) → Option (List (List ℕ))
with names later = later >>= λ rest. Some (names ++ rest)

-- the listings of the items so far, and what the items say with those that are left
pub record Lists (at : ℕ) (name : List ℕ) (all : Items) (old now : List Listing) (left : Items) : Type 0 where
  pub done : List (List ℕ)
  pub written : now ≡ old ++ listings_of at name done
  pub says : listed all ≡ with done (listed left)

with_none : (said : Option (List (List ℕ))) → said ≡ with [] said
with_none None = refl
with_none (Some names) = refl

pub lists_begun : (at : ℕ) (name : List ℕ) (all : Items) (old : List Listing) → Lists at name all old old all
lists_begun at name all old = record { done = []; written = sym (append-nil old); says = with_none (listed all) }

listings_append : (at : ℕ) (name : List ℕ) (xs ys : List (List ℕ))
    → listings_of at name (xs ++ ys) ≡ listings_of at name xs ++ listings_of at name ys
listings_append at name [] ys = refl
listings_append at name (x ∷ xs) ys =
    ap (λ ls. record { at = at; from = name; to = x } ∷ ls) (listings_append at name xs ys)

with_both : (done names : List (List ℕ)) (said : Option (List (List ℕ)))
    → with done (with names said) ≡ with (done ++ names) said
with_both done names None = refl
with_both done names (Some rest) = ap Some (sym (append_assoc done names rest))

-- one item more
pub lists_more : (at : ℕ) (name : List ℕ) (all : Items) (old now later : List Listing) (left rest : Items) (v : Json)
    (names : List (List ℕ))
    → Lists at name all old now left → left ≡ item v rest → names_in v ≡ Some names
    → later ≡ now ++ listings_of at name names
    → Lists at name all old later rest
lists_more at name all old now later left rest v names l first said grown = record {
  done = l.done ++ names;
  written = grown
      ∙ ap (λ (ls : List Listing). ls ++ listings_of at name names) l.written
      ∙ append_assoc old (listings_of at name l.done) (listings_of at name names)
      ∙ ap (λ ls. old ++ ls) (sym (listings_append at name l.done names));
  says = l.says
      ∙ ap (λ js. with l.done (listed js)) first
      ∙ ap (λ o. with l.done (o >>= λ ns. with ns (listed rest))) said
      ∙ with_both l.done names (listed rest);
}

-- one item more, which is the name of a peer
pub lists_peer : (at : ℕ) (name : List ℕ) (all : Items) (old now later : List Listing) (left rest : Items) (v : Json)
    (s : List ℕ)
    → Lists at name all old now left → left ≡ item v rest → names_in v ≡ Some (s ∷ [])
    → later ≡ now ++ record { at = at; from = name; to = s } ∷ []
    → Lists at name all old later rest
lists_peer at name all old now later left rest v s l first said grown =
    lists_more at name all old now later left rest v (s ∷ []) l first said grown

-- one item more, which is nobody
pub lists_nobody : (at : ℕ) (name : List ℕ) (all : Items) (old now : List Listing) (left rest : Items) (v : Json)
    → Lists at name all old now left → left ≡ item v rest → names_in v ≡ Some []
    → Lists at name all old now rest
lists_nobody at name all old now left rest v l first said =
    lists_more at name all old now now left rest v [] l first said (sym (append-nil now))

-- the next item is no name
pub lists_wrong : (at : ℕ) (name : List ℕ) (all : Items) (old now : List Listing) (left rest : Items) (v : Json)
    → Lists at name all old now left → left ≡ item v rest → names_in v ≡ None → listed all ≡ None
lists_wrong at name all old now left rest v l first none =
    l.says
    ∙ ap (λ js. with l.done (listed js)) first
    ∙ ap (λ o. with l.done (o >>= λ ns. with ns (listed rest))) none

-- no item is left
pub lists_all : (at : ℕ) (name : List ℕ) (all : Items) (old now : List Listing) (left : Items)
    → Lists at name all old now left → left ≡ no_items
    → (names : List (List ℕ)) × (listed all ≡ Some names) × (now ≡ old ++ listings_of at name names)
lists_all at name all old now left l none = (
  l.done,
  l.says ∙ ap (λ js. with l.done (listed js)) none ∙ ap Some (append-nil l.done),
  l.written,
)

item_at : {A : Type 0} (vs : List (Value A)) (i : ℕ) (d : Value A) → i < length vs
    → items_view (drop i vs) ≡ item (value_view (get_or vs i d)) (items_view (drop (suc i) vs))
item_at [] i d l = absurd (omega arith)
item_at (v ∷ vs) zero d l = refl
item_at (v ∷ vs) (suc i) d l = item_at vs i d (omega arith)

pub next_item : {A : Type 0} (vs : List (Value A)) (i : ℕ) (d : Value A) → i < length vs
    → items_view (drop i vs) ≡ item (value_view (get_or vs i d)) (items_view (drop (i + 1) vs))
next_item vs i d l =
    let e : suc i ≡ i + 1 = omega arith in
    subst (λ (k : ℕ). items_view (drop i vs) ≡ item (value_view (get_or vs i d)) (items_view (drop k vs))) e
    (item_at vs i d l)

-- ---- members

-- with what the members that are left say, the members say the entries and the listings so far, and those
pub record ReadsOn (all : Members) (at : ℕ) (entries : List HostEntry) (listings : List Listing)
    (left : Members) : Type 0 where
  pub says : (rest : Dump) → SayDump at left rest
      → SayDump 1 all (record { entries = entries ++ rest.entries; listings = listings ++ rest.listings })
  pub fails : (fault : DumpReadFault) → FailsFrom at left fault → FailsFrom 1 all fault

pub reads_begun : (all : Members) (entries : List HostEntry) (listings : List Listing) → entries ≡ [] → listings ≡ []
    → ReadsOn all 1 entries listings all
reads_begun all entries listings no_entry no_listing = record {
  says = λ rest s.
      subst (λ (es : List HostEntry). SayDump 1 all (record {
        entries = es ++ rest.entries;
        listings = listings ++ rest.listings;
      }))
      (sym no_entry)
      (subst (λ (ls : List Listing). SayDump 1 all (record { entries = rest.entries; listings = ls ++ rest.listings }))
      (sym no_listing) s);
  fails = λ fault f. f;
}

later_fails : (at : ℕ) (name : List ℕ) (v : Json) (rest : Members) (names : List (List ℕ)) (fault : DumpReadFault)
    → peers v ≡ Some names → FailsFrom (at + 1) rest fault → FailsFrom at (member name v rest) fault
later_fails at name v rest names (NoView entry wrong) e f =
    inr ((λ none. let no : Some names ≡ None = sym e ∙ none in absurd (cc)), f)
later_fails at name v rest names OutOfMemory e f = tt
later_fails at name v rest names NotJson e f = absurd f
later_fails at name v rest names NotViews e f = absurd f
later_fails at name v rest names (UnreadLine line why) e f = absurd f

-- one member more
pub reads_more : (all : Members) (at : ℕ) (entries entries' : List HostEntry) (listings listings' : List Listing)
    (left rest : Members) (name : List ℕ) (v : Json) (names : List (List ℕ))
    → ReadsOn all at entries listings left → left ≡ member name v rest → peers v ≡ Some names
    → entries' ≡ entries ++ record { at = at; name = name } ∷ []
    → listings' ≡ listings ++ listings_of at name names
    → ReadsOn all (at + 1) entries' listings' rest
reads_more all at entries entries' listings listings' left rest name v names r first said e f = record {
  says = λ d s.
      let entry : HostEntry = record { at = at; name = name } in
      let whole = r.says (record { entries = entry ∷ d.entries; listings = listings_of at name names ++ d.listings })
      (subst (λ (ms : Members). SayDump at ms
      (record { entries = entry ∷ d.entries; listings = listings_of at name names ++ d.listings }))
      (sym first) (names, d, said, refl, refl, s)) in
      let entries_are : entries ++ (entry ∷ d.entries) ≡ entries' ++ d.entries =
      sym (append_assoc entries (entry ∷ []) d.entries) ∙ ap (λ es. es ++ d.entries) (sym e) in
      let listings_are : listings ++ (listings_of at name names ++ d.listings) ≡ listings' ++ d.listings =
      sym (append_assoc listings (listings_of at name names) d.listings) ∙ ap (λ ls. ls ++ d.listings) (sym f) in
      subst (λ (es : List HostEntry). SayDump 1 all (record { entries = es; listings = listings' ++ d.listings }))
      entries_are
      (subst (λ (ls : List Listing). SayDump 1 all (record { entries = entries ++ (entry ∷ d.entries); listings = ls }))
      listings_are whole);
  fails = λ fault g. r.fails fault
      (subst (λ (ms : Members). FailsFrom at ms fault) (sym first) (later_fails at name v rest names fault said g));
}

here_fails : (at : ℕ) (name : List ℕ) (v : Json) (rest : Members) (fault : DumpReadFault)
    → FailsAt at name (peers v) fault → FailsFrom at (member name v rest) fault
here_fails at name v rest (NoView entry wrong) f = inl (f.2, f.0, f.1)
here_fails at name v rest OutOfMemory f = tt
here_fails at name v rest NotJson f = absurd f
here_fails at name v rest NotViews f = absurd f
here_fails at name v rest (UnreadLine line why) f = absurd f

-- the next member is no list of names
pub reads_wrong : (all : Members) (at : ℕ) (entries : List HostEntry) (listings : List Listing) (left rest : Members)
    (name : List ℕ) (v : Json) (fault : DumpReadFault)
    → ReadsOn all at entries listings left → left ≡ member name v rest → FailsAt at name (peers v) fault
    → FailsFrom 1 all fault
reads_wrong all at entries listings left rest name v fault r first f =
    r.fails fault (subst (λ (ms : Members). FailsFrom at ms fault) (sym first) (here_fails at name v rest fault f))

-- memory ran out
pub no_memory : (all : Members) (fault : DumpReadFault) → fault ≡ OutOfMemory → FailsFrom 1 all fault
no_memory all fault e = subst (FailsFrom 1 all) (sym e) tt

-- no member is left
pub reads_all : (all : Members) (at : ℕ) (entries : List HostEntry) (listings : List Listing) (left : Members)
    → ReadsOn all at entries listings left → left ≡ no_members
    → SayDump 1 all (record { entries = entries; listings = listings })
reads_all all at entries listings left r none =
    let whole = r.says (record { entries = []; listings = [] })
    (subst (λ (ms : Members). SayDump at ms (record { entries = []; listings = [] })) (sym none) (refl, refl)) in
    subst (λ (es : List HostEntry). SayDump 1 all (record { entries = es; listings = listings })) (append-nil entries)
    (subst (λ (ls : List Listing). SayDump 1 all (record { entries = entries ++ []; listings = ls }))
    (append-nil listings)
    whole)

member_at : {A : Type 0} (ms : List (Bor (List ℕ) × Value A)) (i : ℕ) (d : Bor (List ℕ) × Value A) → i < length ms
    → members_view (drop i ms)
    ≡ member (get_or ms i d).0.now (value_view (get_or ms i d).1) (members_view (drop (suc i) ms))
member_at [] i d l = absurd (omega arith)
member_at (m ∷ ms) zero d l = refl
member_at (m ∷ ms) (suc i) d l = member_at ms i d (omega arith)

pub next_member : {A : Type 0} (ms : List (Bor (List ℕ) × Value A)) (i : ℕ) (d : Bor (List ℕ) × Value A)
    → i < length ms
    → members_view (drop i ms)
    ≡ member (get_or ms i d).0.now (value_view (get_or ms i d).1) (members_view (drop (i + 1) ms))
next_member ms i d l =
    let e : suc i ≡ i + 1 = omega arith in
    subst (λ (k : ℕ). members_view (drop i ms)
    ≡ member (get_or ms i d).0.now (value_view (get_or ms i d).1) (members_view (drop k ms))) e (member_at ms i d l)

pub no_member_left : {A : Type 0} (ms : List (Bor (List ℕ) × Value A)) (i : ℕ) → length ms ≤ i
    → members_view (drop i ms) ≡ no_members
no_member_left [] zero l = refl
no_member_left [] (suc i) l = refl
no_member_left (m ∷ ms) zero l = absurd (omega arith)
no_member_left (m ∷ ms) (suc i) l = no_member_left ms i (omega arith)

-- ---- the peers of a value

pub peers_of_list : (v : Json) (js : Items) → as_items v ≡ Some js → peers v ≡ listed js
peers_of_list null js e = absurd (cc)
peers_of_list (boolean b) js e = absurd (cc)
peers_of_list (number t) js e = absurd (cc)
peers_of_list (string t) js e = absurd (cc)
peers_of_list (array is) js e = ap listed (ap (λ o. unwrap_or o js) e)
peers_of_list (object ms) js e = absurd (cc)

pub peers_of_other : (v : Json) → is_null v ≡ false → as_items v ≡ None → peers v ≡ None
peers_of_other null other e = absurd (cc)
peers_of_other (boolean b) other e = refl
peers_of_other (number t) other e = refl
peers_of_other (string t) other e = refl
peers_of_other (array is) other e = absurd (cc)
peers_of_other (object ms) other e = refl

pub peers_of_null : (v : Json) → is_null v ≡ true → peers v ≡ Some []
peers_of_null null e = refl
peers_of_null (boolean b) e = absurd (cc)
peers_of_null (number t) e = absurd (cc)
peers_of_null (string t) e = absurd (cc)
peers_of_null (array is) e = absurd (cc)
peers_of_null (object ms) e = absurd (cc)

-- an entry fails without its name, or out of memory
pub memory_fails : (at : ℕ) (name : List ℕ) (said : Option (List (List ℕ))) (fault : DumpReadFault)
    → fault ≡ OutOfMemory → FailsAt at name said fault
memory_fails at name said fault e = subst (FailsAt at name said) (sym e) tt

-- ---- the file

object_of : (v : Json) (ms : Members) → as_members v ≡ Some ms → v ≡ object ms
object_of null ms e = absurd (cc)
object_of (boolean b) ms e = absurd (cc)
object_of (number t) ms e = absurd (cc)
object_of (string t) ms e = absurd (cc)
object_of (array is) ms e = absurd (cc)
object_of (object os) ms e = ap object (ap (λ o. unwrap_or o ms) e)

pub is_dump : (bytes : List ℕ) (v : Json) (d : Dump) → IsJson bytes v → IsDumpIn (as_members v) d → SaysViews bytes d
is_dump bytes (object ms) d at says = (ms, at, says)
is_dump bytes null d at says = absurd says
is_dump bytes (boolean b) d at says = absurd says
is_dump bytes (number t) d at says = absurd says
is_dump bytes (string t) d at says = absurd says
is_dump bytes (array is) d at says = absurd says

other_fault : (bytes : List ℕ) (v : Json) (fault : DumpReadFault) → IsJson bytes v → ((ms : Members) → v ≢ object ms)
    → fault ≡ NotViews → IsViewsFault bytes fault
other_fault bytes v fault at none e = subst (IsViewsFault bytes) (sym e) (v, at, none)

object_fault : (bytes : List ℕ) (ms : Members) (fault : DumpReadFault) → IsJson bytes (object ms) → FailsFrom 1 ms fault
    → IsViewsFault bytes fault
object_fault bytes ms (NoView entry wrong) at f = (ms, at, f)
object_fault bytes ms OutOfMemory at f = tt
object_fault bytes ms NotJson at f = absurd f
object_fault bytes ms NotViews at f = absurd f
object_fault bytes ms (UnreadLine line why) at f = absurd f

pub is_fault : (bytes : List ℕ) (v : Json) (fault : DumpReadFault) → IsJson bytes v → IsNoObject (as_members v) fault
    → IsViewsFault bytes fault
is_fault bytes (object ms) fault at f = object_fault bytes ms fault at f
is_fault bytes null fault at f = other_fault bytes null fault at (λ ms e. absurd (cc)) f
is_fault bytes (boolean b) fault at f = other_fault bytes (boolean b) fault at (λ ms e. absurd (cc)) f
is_fault bytes (number t) fault at f = other_fault bytes (number t) fault at (λ ms e. absurd (cc)) f
is_fault bytes (string t) fault at f = other_fault bytes (string t) fault at (λ ms e. absurd (cc)) f
is_fault bytes (array is) fault at f = other_fault bytes (array is) fault at (λ ms e. absurd (cc)) f
