-- A text begins with the heading, the parameters, the seed, the rule and the scale.
use Rattle.std.proofs.Common.{◌≡◌, ◌∙◌, ap, ◌++◌, append_assoc, rules}
use Rattle.ov_script.specs.Scripts.{opening}
use Rattle.ov_script.specs.WrittenLines.{comment_line, ended, params_line, rule_text, scale_text, seed_line}
use Rattle.ov_script.proofs.line_writing.opening_text.Goals as goal

pub returns : goal.returns
unfolding opening seed_line
returns c =
    let heading = ended (comment_line c.args.heading.now) in
    let params = ended (params_line c.args.params) in
    let seed = ended (seed_line c.args.seed) in
    let rule = rule_text c.args.params.refill in
    let scale = scale_text c.args.params.scale in
    let first : c.write_comment.new.text.items ≡ heading = search rules in
    c.write_scale.ensures.items
    ∙ ap (λ s. c.write_refill.new.text.items ++ scale_text s) c.scale.ensures
    ∙ ap (λ t. t ++ scale) (
    c.write_refill.ensures.items
    ∙ ap (λ r. c.write_line.new.text.items ++ rule_text r) c.refill.ensures
    ∙ ap (λ t. t ++ rule) (
    c.write_line.ensures.items
    ∙ ap (λ t. t ++ seed) (c.write_params.ensures.items ∙ ap (λ t. t ++ params) first)
    ))
    ∙ append_assoc ((heading ++ params) ++ seed) rule scale
    ∙ append_assoc (heading ++ params) seed (rule ++ scale)
    ∙ append_assoc heading params (seed ++ (rule ++ scale))
