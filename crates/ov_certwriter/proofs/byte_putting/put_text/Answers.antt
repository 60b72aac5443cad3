-- One more byte, and all of them.
use Rattle.std.proofs.Common.{◌∙◌, [], ◌∷◌, take_all, sym}
use Rattle.std.proofs.lemmas.List.{take_more}
use Rattle.ov_certwriter.proofs.PutTexts.{puts_nothing, puts_then, puts_same}
use Rattle.ov_certwriter.proofs.byte_putting.put_text.Goals as goal

pub loop-byte-init : goal.loop-byte-init
loop-byte-init c = puts_nothing _ _

pub loop-byte-preserved : goal.loop-byte-preserved
loop-byte-preserved c =
    let more = take_more c.as_bytes-bytes.result.now c.loop-byte.byte-index 0 c.loop-byte-test.true in
    puts_same _ _ _ _ _ _ (sym more)
    (puts_then _ (_ ∷ []) _ _ _ _ _ _ c.loop-byte.invariant c.put_byte-end.ensures)

pub returns : goal.returns
returns c =
    let all = take_all c.loop-byte.byte-index c.as_bytes-bytes.result.now c.loop-byte-test.false in
    puts_same _ _ _ _ _ _ (all ∙ c.as_bytes-bytes.ensures.value) c.loop-byte.invariant
