-- One name more.
use Rattle.std.proofs.Common.{◌≡◌, ◌∙◌, ◌++◌, ◌∷◌, [], ℕ, List, IsUtf8, ap, map, rules, string_bytes, subst, sym, take}
use Rattle.ov_dump.specs.ShownNames.{shown_text}
use Rattle.ov_dump.proofs.Places.{taken_next}
use Rattle.ov_dump.proofs.Shown.{all_more, shown_more}
use Rattle.ov_dump.proofs.dump_importing.shown_names.Goals as goal

pub loop-name-preserved : goal.loop-name-preserved
loop-name-preserved c =
    let names = c.args.names.now in
    let i = c.loop-name.name-index in
    let n = c.name-item.result in
    let s = c.in_ok-shown_name.field-0 in
    let next = taken_next names i n c.loop-name-test.true c.name-item.is in
    let pushed : c.push.new.self.items ≡ c.loop-name.shown.items ++ s ∷ [] = search rules in
    record {
      shown = subst (λ (ns : List (List ℕ)). map (λ name. string_bytes name) c.push.new.self.items ≡ map shown_text ns)
          (sym next)
          (ap (λ xs. map (λ name. string_bytes name) xs) pushed
          ∙ shown_more c.loop-name.shown.items (take i names) s n c.loop-name.invariant.shown
          (c.in_ok-shown_name.ensures.shown ∙ ap shown_text c.as_str.ensures));
      utf8 = λ rest. c.loop-name.invariant.utf8
          (all_more IsUtf8 names i n c.loop-name-test.true c.name-item.is
          (subst IsUtf8 c.as_str.ensures c.shown_name.ensures.utf8) rest);
    }
