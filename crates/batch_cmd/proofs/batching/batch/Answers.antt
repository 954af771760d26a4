use Rattle.std.proofs.Common.{◌≡◌, Ok, inl, refl}
use Rattle.mcf_limits.specs.declared.TheConstants.{MAX_LIST_BYTES}
use Rattle.sndlib_grammar.specs.Net.{rows_of}
use Rattle.base_cmd.specs.declared.outcome.FileKind.TheVariants.{List as OfListFile}
use Rattle.base_cmd.specs.Answer.{IsTold, OrWant, answer_of}
use Rattle.base_cmd.specs.Files.{Ends}
use Rattle.base_cmd.proofs.Chain.{file_came, rows_came}
use Rattle.batch_cmd.specs.Batch.{OnList, OnTexts, OfList}
use Rattle.batch_cmd.proofs.Solved.{list_told}
use Rattle.batch_cmd.proofs.batching.batch.Goals as goal

pub returns-in-Ok-file_text : goal.returns-in-Ok-file_text
returns-in-Ok-file_text g c =
    let request = c.args.request.now in
    let name = c.args.files.list.now in
    let text = c.in-Ok.text.items in
    let list = c.in-Ok-file_text.list.items in
    let rows = c.in-Ok-net_rows._rows in
    let read : rows_of text ≡ Ok rows = rw c.deref.ensures.value at c.in-Ok-net_rows.ensures.rows in
    let told : IsTold (OrWant (OnTexts request (rows_of text) list)) (g.K.Sink.seen c.args.out.now) (g.K.Sink.seen c.batch_texts.new.out) c.batch_texts.result =
    rw (c.deref-in-Ok-file_text.ensures.value, c.deref-in-Ok-file_text-2.ensures.value) at c.batch_texts.ensures in
    let on = list_told request text list rows told.0 read told.1 in
    let of = file_came MAX_LIST_BYTES OfListFile name (λ text. Ends (OnList request rows text)) _ _ _ list told.0 c.in-Ok-file_text.ensures.0 c.in-Ok-file_text.ensures.1 (refl, on) in
    let came = rows_came c.args.files.net.now (λ rows. OfList request rows name) _ _ _ text rows told.0 c.in-Ok.ensures.0 c.in-Ok.ensures.1 read of in
    (told.0, came, told.2)

pub returns : goal.returns
returns g c =
    let request = c.args.request.now in
    let name = c.args.files.list.now in
    let text = c.in-Ok.text.items in
    let rows = c.in-Ok-net_rows._rows in
    let read : rows_of text ≡ Ok rows = rw c.deref.ensures.value at c.in-Ok-net_rows.ensures.rows in
    let came = rows_came c.args.files.net.now (λ rows. OfList request rows name) _ _ _ text rows (answer_of c.in-Err-file_text.outcome) c.in-Ok.ensures.0 c.in-Ok.ensures.1 read (inl c.in-Err-file_text.ensures) in
    (answer_of c.in-Err-file_text.outcome, came, c.tell-in-Err-file_text.ensures)
