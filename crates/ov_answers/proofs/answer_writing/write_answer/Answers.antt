-- The text, the file and the line feed went to the writer one after another; if it failed, a prefix of them did.
use Rattle.std.proofs.Common.{◌≡◌, ◌++◌, ℕ, List, Option, Some, ap, codes, append_assoc, option_map}
use Rattle.serde_json.specs.Written.{compact_text}
use Rattle.ov_cert.specs.State.{CheckedState}
use Rattle.ov_certfile.specs.DataOf.{data_of}
use Rattle.ov_certwriter.proofs.Sending.{sent_before, sent_behind, same_begun}
use Rattle.ov_answers.specs.Code.Files.{with_file_of}
use Rattle.ov_answers.proofs.answer_writing.write_answer.Goals as goal

-- the text as it was lent, the file of the certificate that is there, and the line feed
whole : (sent text : List ℕ) (c : CheckedState) (file : Option CheckedState) → file ≡ Some c → sent ≡ text
    → (sent ++ compact_text (data_of c.cert c.graph c.members 0)) ++ codes "\n" ≡ with_file_of text file
whole sent text c file is same =
    rw (is, same) (append_assoc text (compact_text (data_of c.cert c.graph c.members 0)) (codes "\n"))

pub returns-in_err-write_file-clause-prefix : goal.returns-in_err-write_file-clause-prefix
returns-in_err-write_file-clause-prefix g c =
    let answer = c.args.answer in
    let file = option_map (λ f. f.now) c.args.file in
    same_begun _ _ _ _ (whole c.deref-2.result.now answer.text.items c.in-Some.placed.now file
    (ap (λ o. option_map (λ f. f.now) o) c.in-Some.is) c.deref-2.ensures.value) (sent_before _ _ _ (codes "\n") c.in_err-write_file.ensures.prefix)

pub returns-in_err-write_all-2-clause-prefix : goal.returns-in_err-write_all-2-clause-prefix
returns-in_err-write_all-2-clause-prefix g c =
    let answer = c.args.answer in
    let file = option_map (λ f. f.now) c.args.file in
    same_begun _ _ _ _ (whole c.deref-2.result.now answer.text.items c.in-Some.placed.now file
    (ap (λ o. option_map (λ f. f.now) o) c.in-Some.is) c.deref-2.ensures.value)
    (sent_behind _ _ _ _ _ c.in_ok-write_file.ensures.bytes c.in_err-write_all-2.ensures.prefix)

pub returns-clause-prefix : goal.returns-clause-prefix
returns-clause-prefix g c =
    let answer = c.args.answer in
    let file = option_map (λ f. f.now) c.args.file in
    same_begun _ _ _ _ (whole c.deref-2.result.now answer.text.items c.in-Some.placed.now file
    (ap (λ o. option_map (λ f. f.now) o) c.in-Some.is) c.deref-2.ensures.value)
    (sent_behind _ _ _ _ _ c.in_ok-write_file.ensures.bytes c.in_ok-write_all-2.ensures.prefix)
