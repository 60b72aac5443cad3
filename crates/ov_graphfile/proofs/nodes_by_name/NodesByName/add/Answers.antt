-- A node that has this name is put beside those that have it.
use Rattle.std.proofs.Common.{◌∙◌, ℕ, List, Option, Some, Bor, ap}
use Rattle.std.specs.BTreeMap.{get_by}
use Rattle.std.specs.Cmp.Lexicographic.{slice_cmp}
use Rattle.std.specs.Map.{update}
use Rattle.std.specs.Option.{option_copied}
use Rattle.std.specs.Ordering.{nat_cmp}
use Rattle.std.specs.Str.{bytes_eq}
use Rattle.std.proofs.lemmas.Map.Text.{btree_map_updates_str}
use Rattle.ov_graphfile.specs.Code.Bearers.{one_more}
use Rattle.ov_graphfile.specs.declared.nodes_by_name.Bearer.{Bearer}
use Rattle.ov_graphfile.proofs.Bearers.{more}
use Rattle.ov_graphfile.proofs.nodes_by_name.NodesByName.add.Goals as goal

pub returns : goal.returns
returns c told here are =
    let name = c.in-Some.name.now in
    let place = c.args.place in
    let before = c.args.self.now.bearers in
    let after = c.insert.new.self in
    let old : List ℕ → Option Bearer = λ t. get_by {K = Bor (List ℕ)} (λ k. slice_cmp nat_cmp t k.now) before in
    let new : List ℕ → Option Bearer = λ t. get_by {K = Bor (List ℕ)} (λ k. slice_cmp nat_cmp t k.now) after in
    let bearer = c.one_more-bearer.ensures ∙ ap (λ (o : Option Bearer). one_more o place) c.bearer.ensures in
    more told place name old new (here ∙ ap (λ t. option_copied t) c.in-Some.is) are
    (λ t. btree_map_updates_str name before after (Some c.one_more-bearer.result) c.in_ok-insert.ensures.updates t
    ∙ ap (λ (b : Bearer). update bytes_eq old name (Some b) t) bearer)
