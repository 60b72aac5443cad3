-- The line of a birth by a contact, in two pieces.
use Rattle.std.proofs.Common.{ℕ, ap, sym, ◌∙◌, ◌++◌, Some}
use Rattle.ov_script.specs.Acts.{act_line}
use Rattle.ov_script.specs.WrittenLines.{ended}
use Rattle.ov_script.specs.declared.recordable_event.Act.TheVariants as act
use Rattle.ov_script.proofs.Appending.{boot_by}
use Rattle.ov_script.proofs.line_writing.write_boot.Goals as goal

pub returns-in-Some : goal.returns-in-Some
returns-in-Some c =
    let old = c.args.text.now.items in
    let node : ℕ = c.node.inside.0 in
    let contact : ℕ = c.contact.inside.0 in
    record {
      items = boot_by old c.write_words.new.text.items c.write_line-in-Some.new.text.items node contact
          c.write_words.ensures.items c.write_line-in-Some.ensures.items
          ∙ ap (λ n. old ++ ended (act_line (act.Boot n (Some contact)))) c.node.view_is
          ∙ ap (λ k. old ++ ended (act_line (act.Boot c.args.node (Some k)))) c.contact.view_is
          ∙ ap (λ o. old ++ ended (act_line (act.Boot c.args.node o))) (sym c.in-Some.is);
    }
