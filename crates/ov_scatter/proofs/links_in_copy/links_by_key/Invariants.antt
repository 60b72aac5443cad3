-- the links from keys so far, and the places that are left
use Rattle.ov_scatter.specs.Code.Keys.{AreLinksByKey, HasKeysFrom}
use Rattle.ov_scatter.proofs.links_in_copy.links_by_key.Given as goal

abbrev pub invariant-loop-key : goal.invariant-loop-key
invariant-loop-key l = record {
  links : AreLinksByKey l.graph l.keys l.key l.links.items;
  left : HasKeysFrom l.graph l.keys l.key l.left;
}
