use Rattle.std.proofs.Common.{string_bytes, subst, sym}
use Rattle.std.specs.List.{AllByRecursion}
use Rattle.ov_graphfile.specs.GraphTexts.{IsOnOneLine}
use Rattle.ov_dump.proofs.Shown.{all_on_one_line}
use Rattle.ov_dump.proofs.dump_importing.text_of.Goals as goal

pub named_graph_text-requires-clause-lines : goal.named_graph_text-requires-clause-lines
named_graph_text-requires-clause-lines c =
    subst (AllByRecursion (λ name. IsOnOneLine (string_bytes name))) (sym c.deref.ensures.value)
    (all_on_one_line c.in_ok-shown.shown.items c.args.names.now c.in_ok-shown.ensures.shown)
