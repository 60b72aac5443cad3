-- what is left, behind what was put, is the whole list; if what is left is short, the whole is
use Rattle.std.proofs.Common.{◌≡◌, ◌≤◌, ◌++◌, ℕ, List, false, length, map}
use Rattle.ov_flow.specs.Flow.{ArePlaces, ended_by}
use Rattle.ov_certfile.specs.DataOf.{ids_data}
use Rattle.ov_certwriter.specs.Code.Blocks.{Puts, items_after, texts_room}
use Rattle.ov_certwriter.specs.Code.Placed.{by_ids, ids_back}
use Rattle.ov_certwriter.proofs.path_texts.put_paths.Given as goal

abbrev pub invariant-loop-path : goal.invariant-loop-path
invariant-loop-path l = record {
  places : ArePlaces l.graph l.path-iterator;
  text : (done : List ℕ)
      × Puts done l.initial.out l.initial.end l.out l.end
      × (done ++ items_after ids_data l.later
      (map (λ path. ended_by l.last (ids_back l.graph.nodes path)) l.path-iterator)
      ≡ items_after ids_data false (by_ids l.graph l.last l.paths));
  short : length (items_after ids_data l.later
      (map (λ path. ended_by l.last (ids_back l.graph.nodes path)) l.path-iterator))
      ≤ texts_room (map (λ path. ended_by l.last (ids_back l.graph.nodes path)) l.path-iterator)
      → length (items_after ids_data false (by_ids l.graph l.last l.paths))
      ≤ texts_room (by_ids l.graph l.last l.paths);
}
