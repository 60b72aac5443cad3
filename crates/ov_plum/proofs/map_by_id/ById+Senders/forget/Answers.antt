use Rattle.std.proofs.Common.{ap, sym, ◌∙◌, rules}
use Rattle.std.proofs.lemmas.Map.Made.{map_same_pairs, lookup-map_values}
use Rattle.std.specs.Option.{option_map}
use Rattle.std.specs.FinMap as map
use Rattle.ov_ids.specs.Sets.{without}
use Rattle.ov_plum.specs.Ids.{id_cmp}
use Rattle.ov_plum.proofs.Maps.{found, same_id}
use Rattle.ov_plum.proofs.map_by_id.ById+Senders.forget.Goals as goal

pub returns : goal.returns
returns c id =
    let x = c.args.sender in
    let es = c.self.inside.entries.entries in
    let kept = map_same_pairs _ (without x) _ (λ k v b w f t. search rules) _ _ c.retain.ensures.filtered in
    ap (λ fs. map.get (map.from_entries {R = id_cmp} fs) id) kept ∙ found _ id
    ∙ lookup-map_values (without x) (same_id id) es
    ∙ ap (option_map (without x)) (sym (found es id) ∙ ap (λ m. map.get m id) c.self.view_is)
