-- One entry for each name, where a file may name a node more than once.
use Rattle.std.specs.Prelude.{◌≡◌, ◌⊎◌, ℕ, List, [], ◌∷◌}
use Rattle.ov_ids.specs.Members.{Has}
use Rattle.ov_dump.specs.declared.dump_and_graph_types.HostEntry.{HostEntry}

-- `entries` are those of `all` that are the first of their name, in order; the names that were seen before are not
-- among them
abbrev pub AreFirsts : List (List ℕ) → List HostEntry → List HostEntry → Type 0
AreFirsts seen [] entries = entries ≡ []
AreFirsts seen (e ∷ all) entries =
    (Has seen e.name × AreFirsts seen all entries)
    ⊎ ((rest : List HostEntry) × (¬ Has seen e.name) × (entries ≡ e ∷ rest) × AreFirsts (e.name ∷ seen) all rest)
