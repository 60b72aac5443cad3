-- the links to the keys so far
use Rattle.std.proofs.Common.{◌≡◌, ◌++◌, take}
use Rattle.ov_scatter.specs.Code.Keys.{linked_to}
use Rattle.ov_scatter.proofs.links_in_copy.add_links.Given as goal

abbrev pub invariant-loop-other : goal.invariant-loop-other
invariant-loop-other l = l.links.items ≡ l.fn.links.items ++ linked_to l.key (take l.other-index l.above)
