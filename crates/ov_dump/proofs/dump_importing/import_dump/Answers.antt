-- There is a name for each node, and what was written is the text of the graph that follows.
use Rattle.std.proofs.Common.{◌∙◌, ℕ, List, IsUtf8, ap, length, map, subst, sym}
use Rattle.std.specs.List.{AllByRecursion}
use Rattle.ov_graphfile.specs.GraphTexts.{named_graph_text}
use Rattle.ov_io.specs.Device.{AppendsPrefixOf}
use Rattle.ov_dump.specs.ShownNames.{shown_text}
use Rattle.ov_dump.proofs.Shown.{numbered}
use Rattle.ov_dump.proofs.dump_importing.import_dump.Goals as goal

pub text_of-requires : goal.text_of-requires
text_of-requires g c =
    let named = c.in-Ok.named in
    record {
      each = ap length c.as_slice.ensures
          ∙ sym (ap length c.in-Ok.ensures.graph.nodes ∙ numbered (length named.names));
    }

pub returns-clause-written : goal.returns-clause-written
returns-clause-written g c =
    let named = c.in-Ok.named in
    let text = c.in_ok-text.text.items in (
      text,
      record {
        graph = named.graph;
        names = named.names;
        sound = c.in-Ok.ensures.sound;
        follows = c.in-Ok.ensures.graph;
        within = c.in-Ok.ensures.within;
        utf8 = subst (AllByRecursion IsUtf8) c.as_slice.ensures c.in_ok-text.ensures.utf8;
        written = c.in_ok-text.ensures.text
            ∙ ap (λ ns. named_graph_text named.graph (map shown_text ns)) c.as_slice.ensures;
      },
      subst (λ (bytes : List ℕ). AppendsPrefixOf bytes (g.W.Write.contents c.args.sink.now.writer)
          (g.W.Write.contents c.write_all.new.self.writer)) c.deref.ensures.value c.write_all.ensures.prefix,
    )
