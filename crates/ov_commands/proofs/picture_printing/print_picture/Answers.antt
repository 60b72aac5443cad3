-- How the parts of the command end.
use Rattle.std.proofs.Common.{option_map, ◌≢◌, None, subst, sym}
use Rattle.ov_ids.specs.FaultOrder.{IsRefusedBy}
use Rattle.ov_drawing.specs.Chosen.{shown_paths}
use Rattle.ov_drawing.specs.Faults.{PictureJudged}
use Rattle.ov_drawing.specs.declared.fault.PictureFault.TheVariants as drawing
use Rattle.ov_commands.specs.Pictures.{EndsAsAsked, IsDrawable, chosen_entry}
use Rattle.ov_commands.proofs.Printed.{has_entry, picture_written, undrawn, unnamed}
use Rattle.ov_commands.proofs.picture_printing.print_picture.Goals as goal

pub returns-in-Err-clause-printed : goal.returns-in-Err-clause-printed
returns-in-Err-clause-printed g c =
    undrawn c.args.bytes.now (option_map (λ file. file.now) c.args.names) (chosen_entry c.args.request.now.entry)
    c.args.request.now.dot g.W.Write.contents c.args.sink.now.writer c.in_ok-filed.filed c.in-Err.fault
    c.not_drawn.result c.in_ok-filed.ensures.held
    (subst (λ e. IsRefusedBy drawing.OutOfMemory (PictureJudged c.in_ok-filed.filed.cert e) c.in-Err.fault)
    c.chosen.ensures c.in-Err.ensures.judged)
    c.not_drawn.ensures.memory c.not_drawn.ensures.entry

pub returns-clause-printed : goal.returns-clause-printed
returns-clause-printed g c =
    let f = c.in_ok-filed.filed in
    unnamed c.args.bytes.now (option_map (λ file. file.now) c.args.names) (chosen_entry c.args.request.now.entry)
    c.args.request.now.dot g.W.Write.contents c.args.sink.now.writer f c.in-Err-picture_text.fault
    c.in_ok-filed.ensures.held
    (subst (λ e. shown_paths f.cert e ≢ None) c.chosen.ensures
    (has_entry f.cert c.chosen.result c.in-Ok.ensures.judged))
    c.in-Err-picture_text.ensures.named

pub returns-in-Ok-picture_text-clause-printed : goal.returns-in-Ok-picture_text-clause-printed
returns-in-Ok-picture_text-clause-printed g c =
    let f = c.in_ok-filed.filed in
    let names = option_map (λ file. file.now) c.args.names in
    let entry = chosen_entry c.args.request.now.entry in
    let drawable : IsDrawable c.args.bytes.now names entry = record {
      file = f;
      holds = c.in_ok-filed.ensures.held;
      has_entry =
          subst (λ e. shown_paths f.cert e ≢ None) c.chosen.ensures
          (has_entry f.cert c.chosen.result c.in-Ok.ensures.judged);
      named = c.in-Ok-picture_text.ensures.named;
    } in
    let ends : EndsAsAsked c.args.request.now.dot c.as_bytes.result.now =
    subst (EndsAsAsked c.args.request.now.dot) (sym c.as_bytes.ensures.value)
    c.in-Ok-picture_text.ensures.format in
    picture_written c.args.bytes.now names entry c.args.request.now.dot c.as_bytes.result.now g.W.Write.contents
    c.args.sink.now.writer c.written.new.sink.writer c.written.result drawable ends c.written.ensures
